-- What the index of slices by the nodes that they name has for a node, and that nothing else is seen there.
use Rattle.std.proofs.Common.{ℕ, suc, ◌+◌, ◌<◌, ◌≤◌, ◌≡◌, ◌∙◌, List, [], ◌∷◌, ◌++◌, Bool, true, false, cond, ◌||◌, Option, None, Some, refl, sym, ap, append_assoc, append-nil, arith}
use Rattle.std.specs.Prelude.{filter, map, take, drop}
use Rattle.std.specs.List.{AllByRecursion, flat_map, list_any}
use Rattle.std.specs.Cmp.Lexicographic.{nat_list_eq_equiv, texts_ties}
use Rattle.std.specs.Ordering.{is_eq}
use Rattle.std.proofs.lemmas.Bool.{le-ltb, lt-ltb}
use Rattle.api_cluster.specs.declared.types.Node.{Node}
use Rattle.api_slice.specs.declared.types.Device.{Device}
use Rattle.api_slice.specs.declared.types.Nodes.TheVariants.{Named, Selected, All}
use Rattle.api_slice.specs.declared.types.ResourceSlice.{ResourceSlice}
use Rattle.api_slice.specs.declared.types.SliceNodes.{SliceNodes}
use Rattle.api_slice.specs.declared.types.SliceNodes.TheVariants as slice
use Rattle.pool_view.specs.declared.node_index.NodeIndex.{NodeIndex}
use Rattle.pool_view.specs.declared.node_index.PlacedSlice.{PlacedSlice}
use Rattle.pool_view.specs.Names.{text_cmp, text_eq}
use Rattle.pool_view.specs.NodeIndexes.{count_before, index_of, merged, own_slices, placed_at, put_at, put_by, slices_in, with_slices}
use Rattle.pool_view.specs.Nodes.{named_node}
use Rattle.pool_view.specs.Pools.{Offered, offered_by}
use Rattle.pool_view.specs.Visibility.{field_is_on, offered_to, sees_device, sees_slice}
use Rattle.pool_view.proofs.Grouped.{added_by}
use Rattle.pool_view.proofs.Pairs.{all_filter, all_imply}
use Rattle.pool_view.proofs.PoolGroups.{texts_exact}

-- ---- what the index has

-- the slice names the node, or none
abbrev names : List ℕ → Option (List ℕ) → Bool
names q None = false
names q (Some n) = is_eq (text_cmp q n)

abbrev is_free : Option (List ℕ) → Bool
is_free None = true
is_free (Some n) = false

abbrev placed_from : ℕ → List ResourceSlice → List PlacedSlice
placed_from n [] = []
placed_from n (x ∷ xs) = placed_at n x ∷ placed_from (n + 1) xs

abbrev is_own : List ℕ → PlacedSlice → Bool
is_own q p = names q (named_node p.slice.nodes)

abbrev is_other : PlacedSlice → Bool
is_other p = is_free (named_node p.slice.nodes)

gather : (b : Bool) (x : PlacedSlice) (done left : List PlacedSlice) → (done ++ cond b (x ∷ []) []) ++ left ≡ done ++ cond b (x ∷ left) left
gather true x done left = append_assoc done (x ∷ []) left
gather false x done left = append_assoc done [] left

put_own : (o : Option (List ℕ)) (p : PlacedSlice) (i : NodeIndex) (q : List ℕ) → own_slices q (put_by o p i) ≡ own_slices q i ++ cond (names q o) (p ∷ []) []
put_own None p i q = sym (append-nil (own_slices q i))
put_own (Some n) p i q = added_by text_cmp texts_exact (is_eq (text_cmp q n)) i.named n q p refl

own_are : (xs : List ResourceSlice) (n : ℕ) (i : NodeIndex) (q : List ℕ) → own_slices q (with_slices n xs i) ≡ own_slices q i ++ filter (is_own q) (placed_from n xs)
unfolding with_slices
own_are [] n i q = sym (append-nil (own_slices q i))
own_are (x ∷ xs) n i q =
    own_are xs (n + 1) (put_at n x i) q
    ∙ ap (λ (ps : List PlacedSlice). ps ++ filter (is_own q) (placed_from (n + 1) xs)) (put_own (named_node x.nodes) (placed_at n x) i q)
    ∙ gather (names q (named_node x.nodes)) (placed_at n x) (own_slices q i) (filter (is_own q) (placed_from (n + 1) xs))

put_other : (o : Option (List ℕ)) (p : PlacedSlice) (i : NodeIndex) → (put_by o p i).others ≡ i.others ++ cond (is_free o) (p ∷ []) []
put_other None p i = refl
put_other (Some n) p i = sym (append-nil i.others)

others_are : (xs : List ResourceSlice) (n : ℕ) (i : NodeIndex) → (with_slices n xs i).others ≡ i.others ++ filter is_other (placed_from n xs)
unfolding with_slices
others_are [] n i = sym (append-nil i.others)
others_are (x ∷ xs) n i =
    others_are xs (n + 1) (put_at n x i) ∙ ap (λ (ps : List PlacedSlice). ps ++ filter is_other (placed_from (n + 1) xs)) (put_other (named_node x.nodes) (placed_at n x) i)
    ∙ gather (is_free (named_node x.nodes)) (placed_at n x) i.others (filter is_other (placed_from (n + 1) xs))

-- ---- two lists in one order

abbrev From : ℕ → PlacedSlice → Type 0
From n p = n ≤ p.place

all_from : (xs : List ResourceSlice) (n m : ℕ) → m ≤ n → AllByRecursion (From m) (placed_from n xs)
all_from [] n m h = tt
all_from (x ∷ xs) n m h = (h, all_from xs (n + 1) m (omega (arith, h)))

none_before : (n : ℕ) (qs : List PlacedSlice) → AllByRecursion (From n) qs → count_before n qs ≡ 0
none_before n [] h = refl
none_before n (q ∷ qs) h = ap (λ (b : Bool). cond b (1 + count_before n qs) 0) (le-ltb q.place n h.0)

merged_own : (p : PlacedSlice) (ps qs : List PlacedSlice) → AllByRecursion (From p.place) qs → merged (p ∷ ps) qs ≡ p.slice ∷ merged ps qs
merged_own p ps qs h = ap (λ (k : ℕ). slices_in (take k qs) ++ p.slice ∷ merged ps (drop k qs)) (none_before p.place qs h)

one_before : (n : ℕ) (q : PlacedSlice) (qs : List PlacedSlice) → q.place < n → count_before n (q ∷ qs) ≡ suc (count_before n qs)
one_before n q qs h =
    let e : count_before n (q ∷ qs) ≡ 1 + count_before n qs = ap (λ (b : Bool). cond b (1 + count_before n qs) 0) (lt-ltb q.place n h) in
    omega (arith, e)

merged_other : (ps : List PlacedSlice) (q : PlacedSlice) (qs : List PlacedSlice) → AllByRecursion (From (q.place + 1)) ps → merged ps (q ∷ qs) ≡ q.slice ∷ merged ps qs
merged_other [] q qs h = refl
merged_other (p ∷ ps) q qs h =
    let below = h.0 in
    ap (λ (k : ℕ). slices_in (take k (q ∷ qs)) ++ p.slice ∷ merged ps (drop k (q ∷ qs))) (one_before p.place q qs (omega (arith, below)))

-- ---- nothing of a slice that names another node

module _ (q : List ℕ) (f : ResourceSlice → List Offered) (silent : (x : ResourceSlice) → names q (named_node x.nodes) ≡ false → is_free (named_node x.nodes) ≡ false → f x ≡ []) where
  not_both : (o : Option (List ℕ)) → names q o ≡ true → is_free o ≡ true → ⊥
  not_both None e g = absurd (cc)
  not_both (Some n) e g = absurd (cc)

  made_by : (b c : Bool) (n : ℕ) (x : ResourceSlice) (xs : List ResourceSlice) (ps qs : List PlacedSlice) → names q (named_node x.nodes) ≡ b → is_free (named_node x.nodes) ≡ c
      → AllByRecursion (From (n + 1)) ps → AllByRecursion (From (n + 1)) qs → flat_map f (merged ps qs) ≡ flat_map f xs
      → flat_map f (merged (cond b (placed_at n x ∷ ps) ps) (cond c (placed_at n x ∷ qs) qs)) ≡ f x ++ flat_map f xs
  made_by true true n x xs ps qs e g h k later = absurd (not_both (named_node x.nodes) e g)
  made_by true false n x xs ps qs e g h k later =
      ap (λ (ys : List ResourceSlice). flat_map f ys) (merged_own (placed_at n x) ps qs (all_imply (From (n + 1)) (From n) qs (λ p l. omega (arith, l)) k)) ∙ ap (λ (os : List Offered). f x ++ os) later
  made_by false true n x xs ps qs e g h k later = ap (λ (ys : List ResourceSlice). flat_map f ys) (merged_other ps (placed_at n x) qs h) ∙ ap (λ (os : List Offered). f x ++ os) later
  made_by false false n x xs ps qs e g h k later = later ∙ ap (λ (os : List Offered). os ++ flat_map f xs) (sym (silent x e g))

  -- what is made of a node's own slices and of those that name no node, in order, is what is made of all
  made_of_all : (xs : List ResourceSlice) (n : ℕ) → flat_map f (merged (filter (is_own q) (placed_from n xs)) (filter is_other (placed_from n xs))) ≡ flat_map f xs
  made_of_all [] n = refl
  made_of_all (x ∷ xs) n =
      made_by (names q (named_node x.nodes)) (is_free (named_node x.nodes)) n x xs (filter (is_own q) (placed_from (n + 1) xs)) (filter is_other (placed_from (n + 1) xs)) refl refl
      (all_filter (From (n + 1)) (is_own q) (placed_from (n + 1) xs) (all_from xs (n + 1) (n + 1) (omega arith))) (all_filter (From (n + 1)) is_other (placed_from (n + 1) xs) (all_from xs (n + 1) (n + 1) (omega arith)))
      (made_of_all xs (n + 1))

or_assoc : (a b c d : Bool) → (b || c) ≡ d → ((a || b) || c) ≡ (a || d)
or_assoc true b c d e = refl
or_assoc false b c d e = e

or_swap : (a b c d : Bool) → (b || c) ≡ d → (b || (a || c)) ≡ (a || d)
or_swap true true c d e = refl
or_swap true false c d e = refl
or_swap false true c d e = e
or_swap false false c d e = e

module _ (q : List ℕ) (s : ResourceSlice → Bool) (silent : (x : ResourceSlice) → names q (named_node x.nodes) ≡ false → is_free (named_node x.nodes) ≡ false → s x ≡ false) where
  neither : (o : Option (List ℕ)) → names q o ≡ true → is_free o ≡ true → ⊥
  neither None e g = absurd (cc)
  neither (Some n) e g = absurd (cc)

  any_by : (b c : Bool) (p : PlacedSlice) (xs : List ResourceSlice) (ps qs : List PlacedSlice) → names q (named_node p.slice.nodes) ≡ b → is_free (named_node p.slice.nodes) ≡ c
      → (list_any s (slices_in ps) || list_any s (slices_in qs)) ≡ list_any s xs
      → (list_any s (slices_in (cond b (p ∷ ps) ps)) || list_any s (slices_in (cond c (p ∷ qs) qs))) ≡ (s p.slice || list_any s xs)
  any_by true true p xs ps qs e g later = absurd (neither (named_node p.slice.nodes) e g)
  any_by true false p xs ps qs e g later = or_assoc (s p.slice) (list_any s (slices_in ps)) (list_any s (slices_in qs)) (list_any s xs) later
  any_by false true p xs ps qs e g later = or_swap (s p.slice) (list_any s (slices_in ps)) (list_any s (slices_in qs)) (list_any s xs) later
  any_by false false p xs ps qs e g later = later ∙ ap (λ (b : Bool). b || list_any s xs) (sym (silent p.slice e g))

  -- one of a node's own slices or of those that name no node passes if one of all does
  any_of_all : (xs : List ResourceSlice) (n : ℕ) → (list_any s (slices_in (filter (is_own q) (placed_from n xs))) || list_any s (slices_in (filter is_other (placed_from n xs)))) ≡ list_any s xs
  any_of_all [] n = refl
  any_of_all (x ∷ xs) n =
      any_by (names q (named_node x.nodes)) (is_free (named_node x.nodes)) (placed_at n x) xs (filter (is_own q) (placed_from (n + 1) xs)) (filter is_other (placed_from (n + 1) xs)) refl refl (any_of_all xs (n + 1))

-- ---- what a node sees

other_name : (node : Node) (n : List ℕ) → is_eq (text_cmp node.name n) ≡ false → text_eq n node.name ≡ false
other_name node n e = nat_list_eq_equiv.symm n node.name ∙ texts_ties node.name n ∙ e

device_unseen : (nodes : SliceNodes) (node : Node) (d : Device) → names node.name (named_node nodes) ≡ false → is_free (named_node nodes) ≡ false → sees_device nodes node d ≡ false
device_unseen (slice.Nodes (Named n)) node d e f = other_name node n e
device_unseen (slice.Nodes (Selected s)) node d e f = absurd (cc)
device_unseen (slice.Nodes All) node d e f = absurd (cc)
device_unseen slice.PerDevice node d e f = absurd (cc)

field_unseen : (nodes : SliceNodes) (node : Node) → names node.name (named_node nodes) ≡ false → is_free (named_node nodes) ≡ false → field_is_on nodes node ≡ false
field_unseen (slice.Nodes (Named n)) node e f = other_name node n e
field_unseen (slice.Nodes (Selected s)) node e f = absurd (cc)
field_unseen (slice.Nodes All) node e f = absurd (cc)
field_unseen slice.PerDevice node e f = absurd (cc)

none_pass : (t : Device → Bool) (ds : List Device) → ((d : Device) → t d ≡ false) → filter t ds ≡ []
none_pass t [] h = refl
none_pass t (d ∷ ds) h = ap (λ (b : Bool). cond b (d ∷ filter t ds) (filter t ds)) (h d) ∙ none_pass t ds h

no_pass : (t : Device → Bool) (ds : List Device) → ((d : Device) → t d ≡ false) → list_any t ds ≡ false
no_pass t [] h = refl
no_pass t (d ∷ ds) h = ap (λ (b : Bool). b || list_any t ds) (h d) ∙ no_pass t ds h

none_offered : (node : Node) (x : ResourceSlice) → names node.name (named_node x.nodes) ≡ false → is_free (named_node x.nodes) ≡ false → offered_to node x ≡ []
none_offered node x e f = ap (λ (ds : List Device). map (offered_by x) ds) (none_pass (sees_device x.nodes node) x.devices (λ d. device_unseen x.nodes node d e f))

none_seen : (node : Node) (x : ResourceSlice) → names node.name (named_node x.nodes) ≡ false → is_free (named_node x.nodes) ≡ false → sees_slice node x ≡ false
none_seen node x e f =
    ap (λ (b : Bool). b || list_any (sees_device x.nodes node) x.devices) (field_unseen x.nodes node e f) ∙ no_pass (sees_device x.nodes node) x.devices (λ d. device_unseen x.nodes node d e f)

-- the devices that a node sees, by the index of the slices
pub devices_by_index : (node : Node) (xs : List ResourceSlice) (i : NodeIndex) → i ≡ index_of xs → flat_map (offered_to node) (merged (own_slices node.name i) i.others) ≡ flat_map (offered_to node) xs
devices_by_index node xs i e =
    ap (λ (j : NodeIndex). flat_map (offered_to node) (merged (own_slices node.name j) j.others)) e
    ∙ ap (λ (ps : List PlacedSlice). flat_map (offered_to node) (merged ps (index_of xs).others)) (own_are xs 0 (record { named = []; others = [] }) node.name)
    ∙ ap (λ (qs : List PlacedSlice). flat_map (offered_to node) (merged (filter (is_own node.name) (placed_from 0 xs)) qs)) (others_are xs 0 (record { named = []; others = [] }))
    ∙ made_of_all node.name (offered_to node) (none_offered node) xs 0

-- whether it sees one of the slices, by their index
pub any_by_index : (node : Node) (xs : List ResourceSlice) (i : NodeIndex) → i ≡ index_of xs
    → (list_any (sees_slice node) (slices_in (own_slices node.name i)) || list_any (sees_slice node) (slices_in i.others)) ≡ list_any (sees_slice node) xs
any_by_index node xs i e =
    ap (λ (j : NodeIndex). list_any (sees_slice node) (slices_in (own_slices node.name j)) || list_any (sees_slice node) (slices_in j.others)) e
    ∙ ap (λ (ps : List PlacedSlice). list_any (sees_slice node) (slices_in ps) || list_any (sees_slice node) (slices_in (index_of xs).others)) (own_are xs 0 (record { named = []; others = [] }) node.name)
    ∙ ap (λ (qs : List PlacedSlice). list_any (sees_slice node) (slices_in (filter (is_own node.name) (placed_from 0 xs))) || list_any (sees_slice node) (slices_in qs)) (others_are xs 0 (record { named = []; others = [] }))
    ∙ any_of_all node.name (sees_slice node) (none_seen node) xs 0
