-- The results of an allocation are of the shape that its claims ask for.
use Rattle.std.proofs.Common.{ℕ, zero, suc, ◌+◌, ◌<◌, ◌≤◌, ◌≡◌, ◌≢◌, List, [], ◌∷◌, ◌++◌, Bool, true, not, ◌&&◌, cond, eqb, leb, Option, None, Some, length, map, take, drop, refl, sym, ap, ◌∙◌, subst, arith}
use Rattle.std.specs.Bool.{beq}
use Rattle.std.specs.List.{slice_get, list_all}
use Rattle.std.specs.Option.{is_some, option_map}
use Rattle.std.proofs.lemmas.List.{length-map, map-append}
use Rattle.std.proofs.Math.Seq.{drop-append_seam, take-append_seam}
use Rattle.walk.specs.Walk.{IsChoice}
use Rattle.object_fields.specs.declared.key.DeviceId.{DeviceId}
use Rattle.object_fields.specs.declared.key.Key.{Key}
use Rattle.api_claim.specs.Limits.{AskKept, CountKept, KindKept, RequestsKept}
use Rattle.api_claim.specs.declared.types.AllocationMode.{AllocationMode}
use Rattle.api_claim.specs.declared.types.AllocationMode.TheVariants.{ExactCount, All}
use Rattle.api_claim.specs.declared.types.DeviceRequest.{DeviceRequest}
use Rattle.api_claim.specs.declared.types.DeviceSubRequest.{DeviceSubRequest}
use Rattle.api_claim.specs.declared.types.RequestKind.{RequestKind}
use Rattle.api_claim.specs.declared.types.RequestKind.TheVariants.{Exactly, FirstAvailable}
use Rattle.pool_view.specs.Names.{device_eq, text_eq}
use Rattle.pool_view.specs.Pools.{Offered, id_in}
use Rattle.pool_view.specs.Views.{position_from, position_of}
use Rattle.cluster.specs.declared.plan.DeviceResult.{DeviceResult}
use Rattle.request_rules.specs.Allocation.{IsExact, IsWhole, Met, taken}
use Rattle.request_rules.specs.Asked.{Asked, Wish, asked_by, asked_from, asked_sub, matching, ways_of}
use Rattle.request_rules.specs.Input.{SearchInput}
use Rattle.request_rules.specs.Lists.{Each, EachBoth, EachTwo}
use Rattle.request_rules.specs.Names.{result_name}
use Rattle.request_rules.specs.Problem.{is_none as is_nothing}
use Rattle.request_rules.specs.Rules.{Pick, id_by, id_of}
use Rattle.request_rules.specs.Ways.{wishes_in}
use Rattle.plan_rules.specs.Chosen.{asked_each, due, due_by, place_by, place_of}
use Rattle.plan_rules.specs.Shaped.{are_parts, differ, is_among, is_for, is_part, picks_each, rises_from, sits}
use Rattle.plan_rules.proofs.Choices.{asked_same, way_in}
use Rattle.plan_rules.proofs.Cuts.{cuts_for, part_of}
use Rattle.plan_rules.proofs.Elements.{all_from, each_to_map, get-map, none_passes, there}
use Rattle.plan_rules.proofs.NamesPick.{AreSome, each_from, picked_back, shown}
use Rattle.plan_rules.proofs.Spelling.{each_of_at, well_named}
use Rattle.plan_rules.proofs.Tests.{beq-same, both, equal_devices, false_from, same_from_device_eq, same_number, some_is, test_at_most, text_eq-same}

-- ---- positions of a request

rises_back : (least : ℕ) (l : List ℕ) → Each (λ x. least ≤ x) l → EachTwo (λ x y. x < y) l → rises_from least l ≡ true
rises_back least [] f r = refl
rises_back least (y ∷ l) f r =
    both (leb least y) (rises_from (y + 1) l) (test_at_most least y (f 0 y refl))
    (rises_back (y + 1) l (λ i x h. let d = r 0 (suc i) y x (omega arith) refl h in omega (arith, d)) (λ i j x z k g h. r (suc i) (suc j) x z (omega arith) g h))

is_some_list : (l : List ℕ) → l ≢ [] → (not (is_nothing l) ≡ true) × (1 ≤ length l)
is_some_list [] h = absurd (h refl)
is_some_list (x ∷ l) h = (refl, omega arith)

-- the positions of a request in an allocation
pub record Part (w : SearchInput) (a : Asked) (l : List ℕ) : Type 0 where
  pub seat : sits w a a.ask.mode l ≡ true
  pub due : due w a ≡ length l
  pub some : 1 ≤ length l
  pub met : Each (Met w a) l

text_same : (l m : List ℕ) → l ≡ m → text_eq l m ≡ true
text_same l m e = sym (ap (text_eq l) e) ∙ text_eq-same l

part_by : (w : SearchInput) (a : Asked) (l : List ℕ) (m : AllocationMode) → a.ask.mode ≡ m → CountKept m → ((n : ℕ) → a.ask.mode ≡ ExactCount n → IsExact n l) → (a.ask.mode ≡ All → IsWhole w a l) → Each (Met w a) l → Part w a l
part_by w a l (ExactCount n) e kept exact whole met =
    let f = exact n e in
    let g = f.count in
    let h = kept.0 in
    record {
      seat = ap (λ (z : AllocationMode). sits w a z l) e
          ∙ both (eqb (length l) n) (rises_from 0 l) (same_number (length l) n f.count) (rises_back 0 l (λ i x k. omega arith) f.rising);
      due = ap (due_by w a) e ∙ sym f.count;
      some = omega (arith, g, h);
      met = met;
    }
part_by w a l All e kept exact whole met =
    let f = whole e in
    let s = is_some_list l f.some in
    record {
      seat = ap (λ (z : AllocationMode). sits w a z l) e
          ∙ both (not w.broken) (not (is_nothing l) && text_eq l (matching w a.ask)) (ap not f.unbroken) (both (not (is_nothing l)) (text_eq l (matching w a.ask)) s.0 (text_same l (matching w a.ask) f.all));
      due = ap (due_by w a) e ∙ sym (ap length f.all);
      some = s.1;
      met = met;
    }

abbrev pub Parts : SearchInput → List Asked → List (List ℕ) → Type 0
Parts w [] [] = Unit {0}
Parts w [] (l ∷ ls) = ⊥
Parts w (a ∷ asks) [] = ⊥
Parts w (a ∷ asks) (l ∷ ls) = Part w a l × Parts w asks ls

pub parts_from : (w : SearchInput) (asks : List Asked) (ls : List (List ℕ)) → length ls ≡ length asks → Each (λ a. CountKept a.ask.mode) asks
    → EachBoth (λ a l. (n : ℕ) → a.ask.mode ≡ ExactCount n → IsExact n l) asks ls → EachBoth (λ a l. a.ask.mode ≡ All → IsWhole w a l) asks ls → EachBoth (λ a l. Each (Met w a) l) asks ls → Parts w asks ls
parts_from w [] [] n k e f g = tt
parts_from w [] (l ∷ ls) n k e f g = absurd (omega arith)
parts_from w (a ∷ asks) [] n k e f g = absurd (omega arith)
parts_from w (a ∷ asks) (l ∷ ls) n k e f g = (
  part_by w a l a.ask.mode refl (k 0 a refl) (e 0 a l refl refl) (f 0 a l refl refl) (g 0 a l refl refl),
  parts_from w asks ls (omega arith) (λ i b h. k (suc i) b h) (λ i b m h j. e (suc i) b m h j) (λ i b m h j. f (suc i) b m h j) (λ i b m h j. g (suc i) b m h j),
)

pub parts_split : (w : SearchInput) (xs ys : List Asked) (ls : List (List ℕ)) → Parts w (xs ++ ys) ls → Parts w xs (take (length xs) ls) × Parts w ys (drop (length xs) ls)
parts_split w [] ys ls h = (tt, h)
parts_split w (x ∷ xs) ys [] h = absurd h
parts_split w (x ∷ xs) ys (l ∷ ls) h = let r = parts_split w xs ys ls h.1 in ((h.0, r.0), r.1)

are_some : (w : SearchInput) (asks : List Asked) (ls : List (List ℕ)) → Parts w asks ls → AreSome asks ls
are_some w [] [] h = tt
are_some w [] (l ∷ ls) h = h
are_some w (a ∷ asks) [] h = h
are_some w (a ∷ asks) (l ∷ ls) h = (h.0.some, are_some w asks ls h.1)

-- ---- counts of requests

sub_count : (q : Wish) (ss : List DeviceSubRequest) (o : Option DeviceSubRequest) (k : ℕ) (b : Asked) → slice_get ss k ≡ o → Each (λ s. CountKept s.ask.mode) ss → option_map (asked_sub q) o ≡ Some b → CountKept b.ask.mode
sub_count q ss None k b e h f = absurd (cc)
sub_count q ss (Some s) k b e h f = subst (λ (z : Asked). CountKept z.ask.mode) (some_is (asked_sub q s) b f) (h k s e)

count_by_kind : (q : Wish) (kind : RequestKind) (k : ℕ) (b : Asked) → KindKept kind → asked_by q kind k ≡ Some b → CountKept b.ask.mode
count_by_kind q (Exactly r) k b h e =
    let c : Asked = record { label = record { claim = q.claim; request = q.request.name; sub = None; admin = r.admin }; key = q.key; ask = r.ask } in
    subst (λ (z : Asked). CountKept z.ask.mode) (some_is c b e) h.count
count_by_kind q (FirstAvailable ss) k b h e = sub_count q ss (slice_get ss k) k b refl (λ i s g. (each_of_at (λ s. AskKept s.ask) ss h.asks i s g).count) e

-- each chosen request of a claim that keeps its limits asks for one device at least
pub counts_kept : (i : ℕ) (key : Key) (requests : List DeviceRequest) (ks : List ℕ) → RequestsKept requests → Each (λ b. CountKept b.ask.mode) (asked_from (wishes_in i key requests) ks)
counts_kept i key requests ks h n b e =
    let f = each_from (wishes_in i key requests) ks n b e in
    let r = get-map (λ r. record { claim = i; key = key; request = r }) requests f.place f.wish f.wish_is in
    let k = each_of_at (λ (z : DeviceRequest). KindKept z.kind) requests h.kinds f.place r.0 r.1 in
    count_by_kind f.wish f.wish.request.kind f.number b (subst (λ (z : Wish). KindKept z.request.kind) r.2 k) f.asks

-- ---- positions of devices

-- a device's id determines its position
abbrev pub Ids : SearchInput → Type 0
Ids w = (n m : ℕ) (o p : Offered) → slice_get w.devices n ≡ Some o → slice_get w.devices m ≡ Some p → id_in o ≡ id_in p → n ≡ m

position_back : (n : ℕ) (os : List Offered) (x : ℕ) (o : Offered) → slice_get os x ≡ Some o → ((j : ℕ) (p : Offered) → slice_get os j ≡ Some p → id_in p ≡ id_in o → j ≡ x) → position_from n (id_in o) os ≡ Some (n + x)
position_back n [] x o e h = absurd (cc)
position_back n (p ∷ os) zero o e h =
    let f : p ≡ o = cc in
    let g : n ≡ n + 0 = omega arith in
    ap (λ (b : Bool). cond b (Some n) (position_from (n + 1) (id_in o) os)) (equal_devices (id_in p) (id_in o) (ap id_in f)) ∙ ap (λ (z : ℕ). Some z) g
position_back n (p ∷ os) (suc x) o e h =
    let other = false_from (device_eq (id_in p) (id_in o)) (λ t. let f = h 0 p refl (same_from_device_eq (id_in p) (id_in o) t) in absurd (omega (arith, f))) in
    let g : n + 1 + x ≡ n + suc x = omega arith in
    ap (λ (b : Bool). cond b (Some n) (position_from (n + 1) (id_in o) os)) other
    ∙ position_back (n + 1) os x o e (λ j q k same. let f = h (suc j) q k same in omega (arith, f))
    ∙ ap (λ (z : ℕ). Some z) g

place_back : (w : SearchInput) → Ids w → (p : Pick) → p.position < length w.devices → place_of w (shown w p) ≡ p.position
place_back w ids p below =
    let t = there w.devices p.position below in
    let id : id_of w p ≡ id_in t.0 = ap id_by t.1 in
    let at : position_of (id_in t.0) w.devices ≡ Some (0 + p.position) = position_back 0 w.devices p.position t.0 t.1 (λ j q k same. ids j p.position q t.0 k t.1 same) in
    let g : 0 + p.position ≡ p.position = omega arith in
    ap (λ (d : DeviceId). place_by w (position_of d w.devices)) id ∙ ap (place_by w) at ∙ g

places_back : (w : SearchInput) → Ids w → (a : Asked) (l : List ℕ) → Each (Met w a) l → map (place_of w) (map (shown w) (map (λ x. record { label = a.label; position = x }) l)) ≡ l
places_back w ids a [] h = refl
places_back w ids a (x ∷ l) h =
    ap (λ (z : ℕ). z ∷ map (place_of w) (map (shown w) (map (λ x. record { label = a.label; position = x }) l))) (place_back w ids (record { label = a.label; position = x }) (h 0 x refl).on_node)
    ∙ ap (λ (m : List ℕ). x ∷ m) (places_back w ids a l (λ i y e. h (suc i) y e))

-- ---- the results of each request

is_for_shown : (w : SearchInput) (a : Asked) (x : ℕ) → is_for a (shown w (record { label = a.label; position = x })) ≡ true
is_for_shown w a x = both (text_eq (result_name a.label) (result_name a.label)) (beq a.label.admin a.label.admin) (text_eq-same (result_name a.label)) (beq-same a.label.admin)

part_true : (w : SearchInput) → Ids w → (a : Asked) (l : List ℕ) → Part w a l → is_part w a (map (shown w) (map (λ x. record { label = a.label; position = x }) l)) ≡ true
part_true w ids a l p =
    let rs : List DeviceResult = map (shown w) (map (λ x. record { label = a.label; position = x }) l) in
    both (list_all (is_for a) rs) (sits w a a.ask.mode (map (place_of w) rs))
    (all_from (is_for a) rs (each_to_map (shown w) (λ (r : DeviceResult). is_for a r ≡ true) (map (λ x. record { label = a.label; position = x }) l)
    (each_to_map (λ x. record { label = a.label; position = x }) (λ (p : Pick). is_for a (shown w p) ≡ true) l (λ i x e. is_for_shown w a x))))
    (ap (sits w a a.ask.mode) (places_back w ids a l p.met) ∙ p.seat)

record Seam (w : SearchInput) (a : Asked) (l : List ℕ) (rest : List Pick) : Type 0 where
  prefix : take (due w a) (map (shown w) (map (λ x. record { label = a.label; position = x }) l ++ rest)) ≡ map (shown w) (map (λ x. record { label = a.label; position = x }) l)
  back : drop (due w a) (map (shown w) (map (λ x. record { label = a.label; position = x }) l ++ rest)) ≡ map (shown w) rest

seam_of : (w : SearchInput) (a : Asked) (l : List ℕ) (rest : List Pick) → due w a ≡ length l → Seam w a l rest
seam_of w a l rest e =
    let ps : List Pick = map (λ x. record { label = a.label; position = x }) l in
    let m : List DeviceResult = map (shown w) ps in
    let t : List DeviceResult = map (shown w) rest in
    let n : due w a ≡ length m = e ∙ sym (length-map l (λ x. record { label = a.label; position = x })) ∙ sym (length-map ps (shown w)) in
    let whole : map (shown w) (ps ++ rest) ≡ m ++ t = map-append (shown w) ps rest in
    record {
      prefix = ap (λ (z : ℕ). take z (map (shown w) (ps ++ rest))) n ∙ ap (take (length m)) whole ∙ take-append_seam m t;
      back = ap (λ (z : ℕ). drop z (map (shown w) (ps ++ rest))) n ∙ ap (drop (length m)) whole ∙ drop-append_seam m t;
    }

pub parts_true : (w : SearchInput) → Ids w → (asks : List Asked) (ls : List (List ℕ)) → Parts w asks ls → are_parts w asks (map (shown w) (taken asks ls)) ≡ true
parts_true w ids [] [] h = refl
parts_true w ids [] (l ∷ ls) h = absurd h
parts_true w ids (a ∷ asks) [] h = absurd h
parts_true w ids (a ∷ asks) (l ∷ ls) h =
    let all : List DeviceResult = map (shown w) (taken (a ∷ asks) (l ∷ ls)) in
    let mine : List DeviceResult = map (shown w) (map (λ x. record { label = a.label; position = x }) l) in
    let s = seam_of w a l (taken asks ls) h.0.due in
    ap (λ (z : List DeviceResult). is_part w a z && are_parts w asks (drop (due w a) all)) s.prefix
    ∙ ap (λ (z : List DeviceResult). is_part w a mine && are_parts w asks z) s.back
    ∙ both (is_part w a mine) (are_parts w asks (map (shown w) (taken asks ls))) (part_true w ids a l h.0) (parts_true w ids asks ls h.1)

pub parts_again : (w : SearchInput) → Ids w → (k : Key) (asks : List Asked) (ls : List (List ℕ)) → Parts w asks ls → map (part_of w) (cuts_for w k asks (map (shown w) (taken asks ls))) ≡ ls
parts_again w ids k [] [] h = refl
parts_again w ids k [] (l ∷ ls) h = absurd h
parts_again w ids k (a ∷ asks) [] h = absurd h
parts_again w ids k (a ∷ asks) (l ∷ ls) h =
    let all : List DeviceResult = map (shown w) (taken (a ∷ asks) (l ∷ ls)) in
    let s = seam_of w a l (taken asks ls) h.0.due in
    ap (λ (z : List DeviceResult). map (place_of w) z ∷ map (part_of w) (cuts_for w k asks (drop (due w a) all))) s.prefix
    ∙ ap (λ (z : List ℕ). z ∷ map (part_of w) (cuts_for w k asks (drop (due w a) all))) (places_back w ids a l h.0.met)
    ∙ ap (λ (z : List DeviceResult). l ∷ map (part_of w) (cuts_for w k asks z)) s.back
    ∙ ap (λ (z : List (List ℕ)). l ∷ z) (parts_again w ids k asks ls h.1)

-- ---- the names

pub choice_back : (w : SearchInput) (i : ℕ) (key : Key) (requests : List DeviceRequest) (ks : List ℕ) (ls : List (List ℕ)) → RequestsKept requests → Parts w (asked_from (wishes_in i key requests) ks) ls
    → IsChoice (map (λ q. ways_of q.request.kind) (wishes_in i key requests)) ks → map (way_in (map (shown w) (taken (asked_from (wishes_in i key requests) ks) ls))) (wishes_in i key requests) ≡ ks
choice_back w i key requests ks ls kept parts c =
    picked_back w (wishes_in i key requests) ks ls (well_named i key requests kept) (are_some w (asked_from (wishes_in i key requests) ks) ls parts) c

some_there : {X Y : Type 0} (f : X → Y) (xs : List X) (k : ℕ) → k < length xs → is_some (option_map f (slice_get xs k)) ≡ true
some_there f [] k h = absurd (omega arith)
some_there f (x ∷ xs) zero h = refl
some_there f (x ∷ xs) (suc k) h = some_there f xs k (omega arith)

picks_by : (q : Wish) (kind : RequestKind) (k : ℕ) → k < ways_of kind → is_some (asked_by q kind k) ≡ true
picks_by q (Exactly r) k h = refl
picks_by q (FirstAvailable ss) k h = some_there (asked_sub q) ss k h

pub picks_true : (rs : List DeviceResult) (qs : List Wish) → IsChoice (map (λ q. ways_of q.request.kind) qs) (map (way_in rs) qs) → picks_each rs qs ≡ true
picks_true rs [] c = refl
picks_true rs (q ∷ qs) c = both (is_some (asked_by q q.request.kind (way_in rs q))) (picks_each rs qs) (picks_by q q.request.kind (way_in rs q) c.0) (picks_true rs qs c.1)

pub asked_again : (rs : List DeviceResult) (qs : List Wish) (ks : List ℕ) → map (way_in rs) qs ≡ ks → asked_each rs qs ≡ asked_from qs ks
asked_again rs qs ks e = sym (asked_same rs qs) ∙ ap (asked_from qs) e

-- ---- devices that differ

pub differ_true : (rs : List DeviceResult) → EachTwo (λ r s. r.device ≢ s.device) rs → differ rs ≡ true
differ_true [] h = refl
differ_true (r ∷ rs) h =
    both (not (is_among r rs)) (differ rs)
    (ap not (none_passes (λ (s : DeviceResult). device_eq r.device s.device) rs (λ i s e. false_from (device_eq r.device s.device) (λ t. h 0 (suc i) r s (omega arith) refl e (same_from_device_eq r.device s.device t)))))
    (differ_true rs (λ i j s t k e f. h (suc i) (suc j) s t (omega arith) e f))
