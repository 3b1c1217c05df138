-- The names of the pods and nodes of a legal history have no blank.
use Rattle.std.proofs.Common.{ℕ, zero, suc, ◌≡◌, ◌∙◌, ◌++◌, ◌+◌, ◌<◌, ◌==◌, ◌&&◌, List, [], ◌∷◌, Bool, true, false, cond, not, if◌then◌else◌, Option, None, Some, length, take, drop, Contains, slice_index_or, refl, sym, ap, subst, append_assoc, append-nil, arith}
use Rattle.std.specs.List.{list_all}
use Rattle.std.specs.BTreeMap.{insert_entry, is_at}
use Rattle.std.specs.Cmp.Lexicographic.{same_text, texts_ties}
use Rattle.std.specs.Map.{keys_of, remove_entry, set_value}
use Rattle.std.specs.Option.{option_map_or}
use Rattle.std.specs.Ordering.{is_eq, match_ordering, ordering_then}
use Rattle.std.specs.declared.cmp.Ordering.{Ordering}
use Rattle.std.specs.declared.cmp.Ordering.TheVariants.{Less, Equal, Greater}
use Rattle.std.proofs.lemmas.Bool.{and_from, and_parts, ne_eqb}
use Rattle.std.proofs.lemmas.List.{take-append-drop}
use Rattle.object_fields.specs.declared.key.Key.{Key}
use Rattle.object_fields.specs.declared.meta.Scope.TheVariants.{Namespaced}
use Rattle.object_fields.specs.Keys.{joined, key_text}
use Rattle.object_fields.specs.Limits.{KeyKept}
use Rattle.object_fields.specs.Names.{is_dns_byte, is_dns_label, is_dns_name, is_dns_part, is_end, first_of, last_of, onto_first, parts_at}
use Rattle.pool_view.specs.Inventory.{Named, put_by}
use Rattle.pool_view.specs.Names.{at_key, at_name, key_cmp, text_cmp}
use Rattle.pool_view.specs.declared.stored.Stored.{Stored}
use Rattle.cluster.specs.declared.entry.Entry.{Entry}
use Rattle.cluster.specs.declared.entry.Event.{Event}
use Rattle.cluster.specs.declared.entry.Event.TheVariants.{Applied, Deleted, Reserved, Refused, Wrote, Conflict, Unreserved, Bound, VerdictGiven, Contended, Released, Adopted, Denied}
use Rattle.cluster.specs.declared.object.Object.{Object}
use Rattle.cluster.specs.declared.object.Object.TheVariants as object
use Rattle.cluster.specs.declared.object.Target.{Target}
use Rattle.cluster.specs.declared.object.Target.TheVariants as target
use Rattle.cluster.specs.declared.state.PodState.{PodState}
use Rattle.cluster.specs.declared.state.State.{State}
use Rattle.cluster.specs.Applied.{with_object}
use Rattle.cluster.specs.Deleted.{without_object}
use Rattle.cluster.specs.Events.{after}
use Rattle.cluster.specs.History.{state_at, state_of, told}
use Rattle.cluster.specs.Limits.{ObjectKept}
use Rattle.cluster.specs.Tables.{changed_at, put_at}
use Rattle.histories.specs.Legal.{Legal, LegalAfter, MayFollow, Step}
use Rattle.journal_laws.specs.Told.{is_unbroken, names_before_index}
use Rattle.journal_laws.proofs.Cuts.{lacks_append}

-- ---- names by the rules of DNS

not_blank : (b : ℕ) → is_dns_byte b ≡ true → not (b == 32) ≡ true
not_blank b h = ap not (ne_eqb b 32 (λ e. let clash : is_dns_byte 32 ≡ true = subst (λ (c : ℕ). is_dns_byte c ≡ true) e h in absurd (cc)))

not_dot : (b : ℕ) → (b == 46) ≡ true → not (b == 32) ≡ true
not_dot b h = ap not (ne_eqb b 32 (λ e. let clash : (32 == 46) ≡ true = subst (λ (c : ℕ). (c == 46) ≡ true) e h in absurd (cc)))

bytes_unbroken : (s : List ℕ) → list_all is_dns_byte s ≡ true → is_unbroken s ≡ true
bytes_unbroken [] h = refl
bytes_unbroken (b ∷ bs) h = let p = and_parts _ _ h in and_from _ _ (not_blank b p.0) (bytes_unbroken bs p.1)

first_of_three : (a b c : Bool) → (a && b && c) ≡ true → a ≡ true
first_of_three true b c h = refl
first_of_three false b c h = absurd (cc)

part_bytes : (s : List ℕ) → is_dns_part s ≡ true → list_all is_dns_byte s ≡ true
part_bytes s h = first_of_three (list_all is_dns_byte s) (is_end (first_of s)) (is_end (last_of s)) h

label_unbroken : (s : List ℕ) → is_dns_label s ≡ true → is_unbroken s ≡ true
label_unbroken s h = bytes_unbroken s (part_bytes s (and_parts _ _ h).1)

abbrev all_bytes : List (List ℕ) → Bool
all_bytes parts = list_all (list_all is_dns_byte) parts

parts_bytes : (parts : List (List ℕ)) → list_all is_dns_part parts ≡ true → all_bytes parts ≡ true
parts_bytes [] h = refl
parts_bytes (s ∷ parts) h = let p = and_parts _ _ h in and_from _ _ (part_bytes s p.0) (parts_bytes parts p.1)

onto_parts : (b : ℕ) (parts : List (List ℕ)) → all_bytes (onto_first b parts) ≡ true → (is_dns_byte b ≡ true) × (all_bytes parts ≡ true)
onto_parts b [] h = ((and_parts _ _ (and_parts _ _ h).0).0, refl)
onto_parts b (s ∷ parts) h =
    let p = and_parts _ _ h in
    let q = and_parts _ _ p.0 in
    (q.0, and_from _ _ q.1 p.1)

cut_or_not : (t : Bool) (b : ℕ) (parts : List (List ℕ)) → (b == 46) ≡ t → all_bytes (if t then [] ∷ parts else onto_first b parts) ≡ true → (not (b == 32) ≡ true) × (all_bytes parts ≡ true)
cut_or_not true b parts is h = (not_dot b is, h)
cut_or_not false b parts is h = let p = onto_parts b parts h in (not_blank b p.0, p.1)

parts_unbroken : (s : List ℕ) → all_bytes (parts_at 46 s) ≡ true → is_unbroken s ≡ true
parts_unbroken [] h = refl
parts_unbroken (b ∷ bs) h = let p = cut_or_not (b == 46) b (parts_at 46 bs) refl h in and_from _ _ p.0 (parts_unbroken bs p.1)

name_unbroken : (s : List ℕ) → is_dns_name s ≡ true → is_unbroken s ≡ true
name_unbroken s h = parts_unbroken s (parts_bytes (parts_at 46 s) h)

joined_unbroken : (namespace name : List ℕ) → is_unbroken namespace ≡ true → is_unbroken name ≡ true → is_unbroken (joined namespace name) ≡ true
joined_unbroken [] name h g = g
joined_unbroken (b ∷ bs) name h g = lacks_append 32 ((b ∷ bs) ++ 47 ∷ []) name (lacks_append 32 (b ∷ bs) (47 ∷ []) h refl) g

key_unbroken : (k : Key) → KeyKept Namespaced k → is_unbroken (key_text k) ≡ true
key_unbroken k h = joined_unbroken k.namespace k.name (label_unbroken k.namespace h.namespace) (name_unbroken k.name h.name.form)

-- ---- tables of which each key is so

abbrev EachKey : {K V : Type 0} → (K → Type 0) → List (K × V) → Type 0
EachKey P [] = Unit {0}
EachKey P (e ∷ es) = P e.0 × EachKey P es

by_order : {A : Type 0} (Q : A → Type 0) (o : Ordering) (x y z : A) → Q x → Q y → Q z → Q (match_ordering o x y z)
by_order Q Less x y z a b c = a
by_order Q Equal x y z a b c = b
by_order Q Greater x y z a b c = c

by_test : {A : Type 0} (Q : A → Type 0) (b : Bool) (x y : A) → Q x → Q y → Q (cond b x y)
by_test Q true x y a b = a
by_test Q false x y a b = b

inserted : {K V : Type 0} (P : K → Type 0) (cmp : K → K → Ordering) (es : List (K × V)) (k : K) (v : V) → EachKey P es → P k → EachKey P (insert_entry cmp es k v)
inserted P cmp [] k v h p = (p, tt)
inserted P cmp (e ∷ es) k v h p =
    by_order (EachKey P) (cmp k e.0) ((k, v) ∷ e ∷ es) ((e.0, v) ∷ es) (e ∷ insert_entry cmp es k v) (p, h) h (h.0, inserted P cmp es k v h.1 p)

set_kept : {K V : Type 0} (P : K → Type 0) (test : K → Bool) (es : List (K × V)) (v : V) → EachKey P es → EachKey P (set_value test es v)
set_kept P test [] v h = h
set_kept P test (e ∷ es) v h = by_test (EachKey P) (test e.0) ((e.0, v) ∷ es) (e ∷ set_value test es v) h (h.0, set_kept P test es v h.1)

removed : {K V : Type 0} (P : K → Type 0) (test : K → Bool) (es : List (K × V)) → EachKey P es → EachKey P (remove_entry test es)
removed P test [] h = h
removed P test (e ∷ es) h = by_test (EachKey P) (test e.0) es (e ∷ remove_entry test es) h.1 (h.0, removed P test es h.1)

changed_by : {V : Type 0} (P : Key → Type 0) (key : Key) (f : V → V) (table : List (Key × V)) (o : Option V) → EachKey P table → EachKey P (option_map_or (λ v. set_value (is_at (key_cmp key)) table (f v)) o table)
changed_by P key f table None h = h
changed_by P key f table (Some v) h = set_kept P (is_at (key_cmp key)) table (f v) h

changed : {V : Type 0} (P : Key → Type 0) (key : Key) (f : V → V) (table : List (Key × V)) → EachKey P table → EachKey P (changed_at key f table)
changed P key f table h = changed_by P key f table (at_key table key) h

put_kept : {V : Type 0} (P : Key → Type 0) (key : Key) (new : V) (f : V → V) (table : List (Key × V)) (o : Option V) → EachKey P table → P key → EachKey P (put_at key new f table o)
put_kept P key new f table None h p = inserted P key_cmp table key new h p
put_kept P key new f table (Some v) h p = set_kept P (is_at (key_cmp key)) table (f v) h

named_by : {T : Type 0} (P : List ℕ → Type 0) (index : ℕ) (name : List ℕ) (x : T) (table : Named T) (o : Option (Stored T)) → EachKey P table → P name → EachKey P (put_by index name x table o)
named_by P index name x table None h p = inserted P text_cmp table name _ h p
named_by P index name x table (Some old) h p = set_kept P (is_at (text_cmp name)) table _ h

-- ---- what is at a key

text_tie : (a b : List ℕ) → text_cmp a b ≡ Equal → a ≡ b
text_tie a b e = same_text a b (sym (texts_ties a b ∙ ap is_eq e))

parts_tie : (o p : Ordering) → ordering_then o p ≡ Equal → (o ≡ Equal) × (p ≡ Equal)
parts_tie Less p e = absurd (cc)
parts_tie Equal p e = (refl, e)
parts_tie Greater p e = absurd (cc)

same_key : (a b c d : List ℕ) → a ≡ c → b ≡ d → ◌≡◌ {A = Key} (record { namespace = a; name = b }) (record { namespace = c; name = d })
same_key a b c d e f = cc

key_tie : (a b : Key) → key_cmp a b ≡ Equal → a ≡ b
key_tie a b e =
    let both = parts_tie (text_cmp a.namespace b.namespace) (text_cmp a.name b.name) e in
    same_key a.namespace a.name b.namespace b.name (text_tie a.namespace b.namespace both.0) (text_tie a.name b.name both.1)

tie_by : (o : Ordering) (k x : Key) → key_cmp k x ≡ o → is_eq o ≡ true → k ≡ x
tie_by Less k x is e = absurd (cc)
tie_by Equal k x is e = key_tie k x is
tie_by Greater k x is e = absurd (cc)

found_by : {V : Type 0} (P : Key → Type 0) (b : Bool) (key : Key) (e : Key × V) (es : List (Key × V)) (v : V) → is_at (key_cmp key) e.0 ≡ b → cond b (Some e.1) (at_key es key) ≡ Some v → P e.0 → (at_key es key ≡ Some v → P key) → P key
found_by P true key e es v is f p later = subst P (sym (tie_by (key_cmp key e.0) key e.0 refl is)) p
found_by P false key e es v is f p later = later f

found : {V : Type 0} (P : Key → Type 0) (key : Key) (es : List (Key × V)) (v : V) → EachKey P es → at_key es key ≡ Some v → P key
found P key [] v h f = absurd (cc)
found P key (e ∷ es) v h f = found_by P (is_at (key_cmp key) e.0) key e es v refl f h.0 (λ g. found P key es v h.1 g)

listed_at : {V : Type 0} (P : List ℕ → Type 0) (es : List (List ℕ × V)) (name : List ℕ) (k : ℕ) → k < length (keys_of es) → slice_index_or (keys_of es) k name ≡ name → EachKey P es → P name
listed_at P [] name k less is h = absurd (omega (arith, less))
listed_at P (e ∷ es) name zero less is h = subst P is h.0
listed_at P (e ∷ es) name (suc k) less is h = listed_at P es name k (omega (arith, less)) is h.1

-- ---- states

pub record AreClear (s : State) : Type 0 where
  pub pods : EachKey (λ k. is_unbroken (key_text k) ≡ true) s.pods
  pub nodes : EachKey (λ n. is_unbroken n ≡ true) s.inventory.nodes

abbrev IsClearKey : Key → Type 0
IsClearKey k = is_unbroken (key_text k) ≡ true

abbrev IsClearName : List ℕ → Type 0
IsClearName n = is_unbroken n ≡ true

created : (index : ℕ) (x : Object) (s : State) → ObjectKept x → AreClear s → AreClear (with_object index x s)
created index (object.Node x) s k h =
    record { pods = h.pods; nodes = named_by IsClearName index x.name x s.inventory.nodes (at_name s.inventory.nodes x.name) h.nodes (name_unbroken x.name k.name.form) }
created index (object.Slice x) s k h = record { pods = h.pods; nodes = h.nodes }
created index (object.Class x) s k h = record { pods = h.pods; nodes = h.nodes }
created index (object.Claim x) s k h = record { pods = h.pods; nodes = h.nodes }
created index (object.Pod x) s k h = record { pods = put_kept IsClearKey x.key _ _ s.pods (at_key s.pods x.key) h.pods (key_unbroken x.key k.key); nodes = h.nodes }

deleted : (t : Target) (s : State) → AreClear s → AreClear (without_object t s)
deleted (target.Node name) s h = record { pods = h.pods; nodes = removed IsClearName (is_at (text_cmp name)) s.inventory.nodes h.nodes }
deleted (target.Slice name) s h = record { pods = h.pods; nodes = h.nodes }
deleted (target.Class name) s h = record { pods = h.pods; nodes = h.nodes }
deleted (target.Claim key) s h = record { pods = h.pods; nodes = h.nodes }
deleted (target.Pod key) s h = record { pods = removed IsClearKey (is_at (key_cmp key)) s.pods h.pods; nodes = h.nodes }

clear_after : (before : List Entry) (index job : ℕ) (event : Event) → MayFollow before job event → AreClear (state_of before) → AreClear (after index job event (state_of before))
clear_after before index job (Applied x mode) may h = created index x (state_of before) may.valid.limits h
clear_after before index job (Deleted t) may h = deleted t (state_of before) h
clear_after before index job (Reserved pod plan) may h = record { pods = changed IsClearKey pod _ (state_of before).pods h.pods; nodes = h.nodes }
clear_after before index job (Refused pod plan why) may h = h
clear_after before index job (Wrote pod claim seen) may h = record { pods = h.pods; nodes = h.nodes }
clear_after before index job (Conflict pod claim had now) may h = h
clear_after before index job (Unreserved pod) may h = record { pods = changed IsClearKey pod _ (state_of before).pods h.pods; nodes = h.nodes }
clear_after before index job (Bound pod node) may h = record { pods = changed IsClearKey pod _ (state_of before).pods h.pods; nodes = h.nodes }
clear_after before index job (VerdictGiven pod verdict) may h = h
clear_after before index job (Contended pod attempts) may h = h
clear_after before index job (Released pod) may h = record { pods = changed IsClearKey pod _ (state_of before).pods h.pods; nodes = h.nodes }
clear_after before index job (Adopted claim status) may h = record { pods = h.pods; nodes = h.nodes }
clear_after before index job (Denied command refusal) may h = h

-- ---- histories

-- what one entry more does, and what prefixes have
pub record Steps : Type 0 where
  pub state : (h : List Entry) (e : Entry) → state_of (h ++ e ∷ []) ≡ after (length h + 1) e.job e.event (state_of h)
  pub step : (prefix : List Entry) (e : Entry) (back : List Entry) → Legal (prefix ++ e ∷ back) → Step prefix e
  pub prefix : (prefix back : List Entry) → Legal (prefix ++ back) → Legal prefix

clear_first : AreClear (state_of [])
unfolding state_of told
clear_first = record { pods = tt; nodes = tt }

clear_along : Steps → (before es : List Entry) → LegalAfter before es → AreClear (state_of before) → AreClear (state_of (before ++ es))
unfolding LegalAfter
clear_along law before [] legal h = subst (λ (l : List Entry). AreClear (state_of l)) (sym (append-nil before)) h
clear_along law before (e ∷ es) legal h =
    let next : AreClear (state_of (before ++ e ∷ [])) = subst AreClear (sym (law.state before e)) (clear_after before (length before + 1) e.job e.event legal.0.follows h) in
    subst (λ (l : List Entry). AreClear (state_of l)) (append_assoc before (e ∷ []) es) (clear_along law (before ++ e ∷ []) es legal.1 next)

clear_now : Steps → (h : List Entry) → Legal h → AreClear (state_of h)
unfolding Legal
clear_now law h legal = clear_along law [] h legal clear_first

clear_at : Steps → (h : List Entry) (index : ℕ) → Legal h → AreClear (state_at h index)
clear_at law h index legal =
    clear_now law (take index h) (law.prefix (take index h) (drop index h) (subst (λ (l : List Entry). Legal l) (sym (take-append-drop index h)) legal))

pod_clear : (s : State) (pod : Key) (p : PodState) → AreClear s → at_key s.pods pod ≡ Some p → is_unbroken (key_text pod) ≡ true
pod_clear s pod p h there = found IsClearKey pod s.pods p h.pods there

node_clear : (s : State) (node : List ℕ) → AreClear s → Contains (keys_of s.inventory.nodes) node → is_unbroken node ≡ true
node_clear s node h known = listed_at IsClearName s.inventory.nodes node known.0 known.1 known.2 h.nodes

two_names : (a b : List ℕ) → is_unbroken a ≡ true → is_unbroken b ≡ true → list_all is_unbroken (a ∷ b ∷ []) ≡ true
two_names a b h g = and_from _ _ h (and_from _ _ g refl)

one_name : (a : List ℕ) → is_unbroken a ≡ true → list_all is_unbroken (a ∷ []) ≡ true
one_name a h = and_from _ _ h refl

names_clear : Steps → (before : List Entry) (job : ℕ) (e : Event) → Legal before → MayFollow before job e → list_all is_unbroken (names_before_index e) ≡ true
names_clear law before job (Applied x mode) legal may = refl
names_clear law before job (Deleted t) legal may = refl
names_clear law before job (Reserved pod plan) legal may =
    let s = clear_at law before plan.at legal in
    two_names (key_text pod) plan.node (pod_clear (state_at before plan.at) pod may.true_then.state s may.true_then.may_search.idle.there) (node_clear (state_at before plan.at) plan.node s may.true_then.node_known)
names_clear law before job (Refused pod plan why) legal may =
    let s = clear_at law before plan.at legal in
    two_names (key_text pod) plan.node (pod_clear (state_at before plan.at) pod may.true_then.state s may.true_then.may_search.idle.there) (node_clear (state_at before plan.at) plan.node s may.true_then.node_known)
names_clear law before job (Wrote pod claim seen) legal may = refl
names_clear law before job (Conflict pod claim had now) legal may = refl
names_clear law before job (Unreserved pod) legal may = refl
names_clear law before job (Bound pod node) legal may = refl
names_clear law before job (VerdictGiven pod verdict) legal may =
    let s = clear_at law before verdict.at legal in one_name (key_text pod) (pod_clear (state_at before verdict.at) pod may.true_then.state s may.true_then.idle.there)
names_clear law before job (Contended pod attempts) legal may = refl
names_clear law before job (Released pod) legal may = refl
names_clear law before job (Adopted claim status) legal may = refl
names_clear law before job (Denied command refusal) legal may = refl

pub entry_clear : Steps → (prefix : List Entry) (e : Entry) (back : List Entry) → Legal (prefix ++ e ∷ back) → list_all is_unbroken (names_before_index e.event) ≡ true
entry_clear law prefix e back legal = names_clear law prefix e.job e.event (law.prefix prefix (e ∷ back) legal) (law.step prefix e back legal).follows
