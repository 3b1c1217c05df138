-- What the names of results pick, row by row and request by request.
use Rattle.std.proofs.Common.{ℕ, zero, suc, ◌+◌, ◌<◌, ◌≤◌, ◌≡◌, ◌∙◌, List, [], ◌∷◌, ◌++◌, Bool, true, false, not, ◌&&◌, cond, Option, None, Some, drop, drop_of_length-le, get_or, length, map, take, refl, sym, ap, subst, arith, append_assoc}
use Rattle.std.specs.List.{slice_get}
use Rattle.std.specs.Option.{is_some, option_map}
use Rattle.std.proofs.Math.Seq.{drop-drop, get_or-drop, get_or-take, take_all}
use Rattle.std.proofs.lemmas.List.Concat.{flat_map-append}
use Rattle.std.proofs.lemmas.List.{append-nil, length-append, length-drop, length-map, length-take, map-append}
use Rattle.std.proofs.lemmas.Option.{slice_get-get_or}
use Rattle.api_claim.specs.declared.types.DeviceRequest.{DeviceRequest}
use Rattle.api_claim.specs.declared.types.DeviceSubRequest.{DeviceSubRequest}
use Rattle.api_claim.specs.declared.types.RequestKind.{RequestKind}
use Rattle.api_claim.specs.declared.types.RequestKind.TheVariants.{Exactly, FirstAvailable}
use Rattle.object_fields.specs.declared.key.Key.{Key}
use Rattle.cluster.specs.declared.plan.DeviceResult.{DeviceResult}
use Rattle.request_rules.specs.Asked.{Asked, Wish, asked_by, asked_sub, ways_of}
use Rattle.request_rules.specs.Input.{SearchInput}
use Rattle.request_rules.specs.Lists.{Each, add_some}
use Rattle.request_rules.specs.Ways.{all_asked, asked_at, nothing_asked, ways_by, ways_from, ways_in, wishes_in}
use Rattle.alloc_rules.specs.declared.naming.Named.{Named}
use Rattle.plan_rules.specs.Chosen.{asked_each, asked_for, is_named, named_sub, named_way}
use Rattle.alloc_rules.specs.Rows.{AreWays, HasWays, IsPickedAll, IsPickedMore, Picked, asked_rows, unnamed}
use Rattle.plan_rules.specs.Shaped.{picks_each}
use Rattle.alloc_rules.proofs.Lists.{back_is, drop_next, each_append, each_one, prefix_is, get_past, map_get, take_next}

-- ---- a window of a list

pub get_any : {X : Type 0} (xs : List X) (i : ℕ) (d e : X) → i < length xs → get_or xs i d ≡ get_or xs i e
get_any [] i d e h = absurd (omega arith)
get_any (x ∷ xs) zero d e h = refl
get_any (x ∷ xs) (suc i) d e h = get_any xs i d e (omega arith)

pub window_long : {X : Type 0} (xs : List X) (first count : ℕ) → first + count ≤ length xs → length (take count (drop first xs)) ≡ count
window_long xs first count h = omega (arith, length-take count (drop first xs), length-drop first xs)

pub window_at : {X : Type 0} (xs : List X) (first count i : ℕ) (z : X) → i < count → first + count ≤ length xs → get_or xs (first + i) z ≡ get_or (take count (drop first xs)) i (get_or xs (first + i) z)
window_at xs first count i z h k =
    get_any xs (first + i) z (get_or xs (first + i) z) (omega arith)
    ∙ sym (get_or-take count (drop first xs) i (get_or xs (first + i) z) h ∙ get_or-drop first xs i (get_or xs (first + i) z))

pub window_next : {X : Type 0} (xs : List X) (first count i : ℕ) (z : X) → i < count → first + count ≤ length xs → drop i (take count (drop first xs)) ≡ get_or xs (first + i) z ∷ drop (i + 1) (take count (drop first xs))
window_next xs first count i z h k =
    let long : length (take count (drop first xs)) ≡ count = window_long xs first count k in
    drop_next (take count (drop first xs)) i (get_or xs (first + i) z) (omega arith) (window_at xs first count i z h k)

pub window_get : {X : Type 0} (xs : List X) (first count i : ℕ) (z : X) → i < count → first + count ≤ length xs → slice_get (take count (drop first xs)) i ≡ Some (get_or xs (first + i) z)
window_get xs first count i z h k =
    let long : length (take count (drop first xs)) ≡ count = window_long xs first count k in
    slice_get-get_or (take count (drop first xs)) i (get_or xs (first + i) z) (omega arith) ∙ ap Some (sym (window_at xs first count i z h k))

-- ---- the first row of a window that is named

unnamed_parts : (rs : List DeviceResult) (asks : List Asked) (first count i : ℕ) (b : Bool) → i < count → first + count ≤ length asks → is_named rs (get_or asks (first + i) nothing_asked) ≡ b
    → unnamed rs (drop i (take count (drop first asks))) ≡ cond (not b) (1 + unnamed rs (drop (i + 1) (take count (drop first asks)))) 0
unnamed_parts rs asks first count i b h k e =
    ap (unnamed rs) (window_next asks first count i nothing_asked h k)
    ∙ ap (λ (t : Bool). cond (not t) (1 + unnamed rs (drop (i + 1) (take count (drop first asks)))) 0) e

pub unnamed_here : (rs : List DeviceResult) (asks : List Asked) (first count i whole : ℕ) → i < count → first + count ≤ length asks → is_named rs (get_or asks (first + i) nothing_asked) ≡ true
    → i + unnamed rs (drop i (take count (drop first asks))) ≡ whole → i ≡ whole
unnamed_here rs asks first count i whole h k e f =
    let n : unnamed rs (drop i (take count (drop first asks))) ≡ 0 = unnamed_parts rs asks first count i true h k e in
    omega (arith, n, f)

pub unnamed_next : (rs : List DeviceResult) (asks : List Asked) (first count i whole : ℕ) → i < count → first + count ≤ length asks → is_named rs (get_or asks (first + i) nothing_asked) ≡ false
    → i + unnamed rs (drop i (take count (drop first asks))) ≡ whole → (i + 1) + unnamed rs (drop (i + 1) (take count (drop first asks))) ≡ whole
unnamed_next rs asks first count i whole h k e f =
    let n : unnamed rs (drop i (take count (drop first asks))) ≡ 1 + unnamed rs (drop (i + 1) (take count (drop first asks))) = unnamed_parts rs asks first count i false h k e in
    omega (arith, n, f)

pub unnamed_end : (rs : List DeviceResult) (asks : List Asked) (first count i whole : ℕ) → count ≤ i → first + count ≤ length asks → i + unnamed rs (drop i (take count (drop first asks))) ≡ whole → i ≡ whole
unnamed_end rs asks first count i whole h k f =
    let long : length (take count (drop first asks)) ≡ count = window_long asks first count k in
    let n : unnamed rs (drop i (take count (drop first asks))) ≡ 0 = ap (unnamed rs) (drop_of_length-le (take count (drop first asks)) (omega arith)) in
    omega (arith, n, f)

-- ---- the way that names pick

pub sub_position : (rs : List DeviceResult) (q : Wish) (ss : List DeviceSubRequest) → unnamed rs (map (asked_sub q) ss) ≡ named_sub rs q ss
sub_position rs q [] = refl
sub_position rs q (s ∷ ss) = ap (λ (n : ℕ). cond (not (is_named rs (asked_sub q s))) (1 + n) 0) (sub_position rs q ss)

ways_long : (q : Wish) (k : RequestKind) → length (ways_by q k) ≡ ways_of k
ways_long q (Exactly r) = refl
ways_long q (FirstAvailable ss) = length-map ss (asked_sub q)

ways_one : (q : Wish) → ways_from (q ∷ []) ≡ ways_in q
ways_one q = append-nil (ways_in q)

pub one_long : (q : Wish) → length (ways_from (q ∷ [])) ≡ ways_of q.request.kind
one_long q = ap (λ (l : List Asked). length l) (ways_one q) ∙ ways_long q q.request.kind

pub one_ways : (w : SearchInput) (first : ℕ) (q : Wish) → AreWays w first (q ∷ []) → take (ways_of q.request.kind) (drop first (all_asked w)) ≡ ways_in q
one_ways w first q h = ap (λ (n : ℕ). take n (drop first (all_asked w))) (sym (one_long q)) ∙ h ∙ ways_one q

way_get : (q : Wish) (k : RequestKind) (n : ℕ) → n < ways_of k → slice_get (ways_by q k) n ≡ asked_by q k n
way_get q (Exactly r) zero h = refl
way_get q (Exactly r) (suc n) h = absurd (omega arith)
way_get q (FirstAvailable ss) n h = map_get (asked_sub q) ss n

none_by : (rs : List DeviceResult) (q : Wish) (k : RequestKind) → ways_of k ≤ named_way rs q k → asked_by q k (named_way rs q k) ≡ None
none_by rs q (Exactly r) h = absurd (omega arith)
none_by rs q (FirstAvailable ss) h = ap (option_map (asked_sub q)) (get_past ss (named_sub rs q ss) h)

-- the names pick none
pub asked_none : (rs : List DeviceResult) (q : Wish) (way : ℕ) → way ≡ named_way rs q q.request.kind → ways_of q.request.kind ≤ way → asked_for rs q ≡ None
asked_none rs q way e h = none_by rs q q.request.kind (omega (arith, e, h))

-- they pick the row's
pub asked_some : (w : SearchInput) (first : ℕ) (rs : List DeviceResult) (q : Wish) (way : ℕ) → first + ways_of q.request.kind ≤ length (all_asked w) → AreWays w first (q ∷ []) → way ≡ named_way rs q q.request.kind → way < ways_of q.request.kind
    → asked_for rs q ≡ Some (asked_at w (first + way))
asked_some w first rs q way k a e h =
    ap (asked_by q q.request.kind) (sym e)
    ∙ sym (way_get q q.request.kind way h)
    ∙ ap (λ (l : List Asked). slice_get l way) (sym (one_ways w first q a))
    ∙ window_get (all_asked w) first (ways_of q.request.kind) way nothing_asked h k

-- ---- one request more

pub picked_one : (w : SearchInput) (rs : List DeviceResult) (q : Wish) (old new : Named) (way : ℕ) → old.next + ways_of q.request.kind ≤ length (all_asked w) → AreWays w old.next (q ∷ [])
    → way ≡ named_way rs q q.request.kind → way < ways_of q.request.kind
    → new.choice.items ≡ old.choice.items ++ way ∷ [] → new.rows.items ≡ old.rows.items ++ (old.next + way) ∷ [] → new.next ≡ old.next + ways_of q.request.kind → IsPickedMore w (q ∷ []) rs old new
picked_one w rs q old new way k a e h choice rows next = record {
  choice = way ∷ [];
  rows = (old.next + way) ∷ [];
  choice_is = choice;
  rows_are = rows;
  next = next ∙ ap (λ (n : ℕ). old.next + n) (sym (one_long q));
  picked = record {
    choice_is = ap (λ (n : ℕ). n ∷ []) e;
    rows_are = ap (λ (o : Option Asked). add_some o []) (sym (asked_some w old.next rs q way k a e h));
    there = each_one (λ r. r < length (all_asked w)) (old.next + way) (omega (arith, k, h));
  };
}

add_prefix : (o : Option Asked) (xs ys : List Asked) → add_some o (xs ++ ys) ≡ add_some o xs ++ ys
add_prefix None xs ys = refl
add_prefix (Some a) xs ys = refl

pub each_joined : (rs : List DeviceResult) (qs ps : List Wish) → asked_each rs (qs ++ ps) ≡ asked_each rs qs ++ asked_each rs ps
each_joined rs [] ps = refl
each_joined rs (q ∷ qs) ps = ap (add_some (asked_for rs q)) (each_joined rs qs ps) ∙ add_prefix (asked_for rs q) (asked_each rs qs) (asked_each rs ps)

picked_joined : (w : SearchInput) (rs : List DeviceResult) (qs ps : List Wish) (c d r s : List ℕ) → Picked w qs rs c r → Picked w ps rs d s → Picked w (qs ++ ps) rs (c ++ d) (r ++ s)
picked_joined w rs qs ps c d r s h k = record {
  choice_is =
      ap (λ (l : List ℕ). l ++ d) h.choice_is ∙ ap (λ (l : List ℕ). map (λ q. named_way rs q q.request.kind) qs ++ l) k.choice_is
      ∙ sym (map-append (λ q. named_way rs q q.request.kind) qs ps);
  rows_are =
      map-append (asked_at w) r s ∙ ap (λ (l : List Asked). l ++ asked_rows w s) h.rows_are ∙ ap (λ (l : List Asked). asked_each rs qs ++ l) k.rows_are
      ∙ sym (each_joined rs qs ps);
  there = each_append (λ r. r < length (all_asked w)) r s h.there k.there;
}

-- what was picked of the requests done, and the rows of those left
pub record PickedSoFar (w : SearchInput) (rs : List DeviceResult) (old now : Named) (all done left : List Wish) : Type 0 where
  pub choice : List ℕ
  pub choice_is : now.choice.items ≡ old.choice.items ++ choice
  pub next : now.next ≡ old.next + length (ways_from done)
  pub picked : Picked w done rs choice now.rows.items
  pub there : HasWays w now.next left
  pub ways : AreWays w now.next left
  pub whole : picks_each rs left ≡ picks_each rs all

pub first_there : (w : SearchInput) (n : ℕ) (q : Wish) (qs : List Wish) → HasWays w n (q ∷ qs) → n + ways_of q.request.kind ≤ length (all_asked w)
first_there w n q qs h =
    let e : length (ways_from (q ∷ qs)) ≡ length (ways_in q) + length (ways_from qs) = length-append (ways_in q) (ways_from qs) in
    let f : length (ways_in q) ≡ ways_of q.request.kind = ways_long q q.request.kind in
    omega arith

pub first_ways : (w : SearchInput) (n : ℕ) (q : Wish) (qs : List Wish) → AreWays w n (q ∷ qs) → AreWays w n (q ∷ [])
first_ways w n q qs h =
    ap (λ (l : List Asked). take (length l) (drop n (all_asked w))) (ways_one q) ∙ prefix_is (ways_in q) (ways_from qs) (drop n (all_asked w)) h ∙ sym (ways_one q)

rest_there : (w : SearchInput) (n m : ℕ) (q : Wish) (qs : List Wish) → m ≡ n + ways_of q.request.kind → HasWays w n (q ∷ qs) → HasWays w m qs
rest_there w n m q qs g h =
    let e : length (ways_from (q ∷ qs)) ≡ length (ways_in q) + length (ways_from qs) = length-append (ways_in q) (ways_from qs) in
    let f : length (ways_in q) ≡ ways_of q.request.kind = ways_long q q.request.kind in
    omega arith

rest_ways : (w : SearchInput) (n m : ℕ) (q : Wish) (qs : List Wish) → m ≡ n + ways_of q.request.kind → AreWays w n (q ∷ qs) → AreWays w m qs
rest_ways w n m q qs g h =
    let e : m ≡ n + length (ways_in q) = g ∙ ap (λ (k : ℕ). n + k) (sym (ways_long q q.request.kind)) in
    ap (λ (k : ℕ). take (length (ways_from qs)) (drop k (all_asked w))) e
    ∙ ap (take (length (ways_from qs))) (sym (drop-drop (length (ways_in q)) n (all_asked w)))
    ∙ back_is (ways_in q) (ways_from qs) (drop n (all_asked w)) h

picks_parts : (rs : List DeviceResult) (q : Wish) (qs : List Wish) (b : Bool) → b ≡ is_some (asked_for rs q) → picks_each rs (q ∷ qs) ≡ (b && picks_each rs qs)
picks_parts rs q qs b e = ap (λ (t : Bool). t && picks_each rs qs) (sym e)

-- the names pick none of a request
pub picks_stop : (w : SearchInput) (rs : List DeviceResult) (old now : Named) (all done : List Wish) (q : Wish) (qs : List Wish) → false ≡ is_some (asked_for rs q) → PickedSoFar w rs old now all done (q ∷ qs) → false ≡ picks_each rs all
picks_stop w rs old now all done q qs e s = sym (picks_parts rs q qs false e) ∙ s.whole

-- they pick something of one more
pub picks_next : (w : SearchInput) (rs : List DeviceResult) (old now new : Named) (all done : List Wish) (q : Wish) (qs : List Wish) → true ≡ is_some (asked_for rs q) → new.next ≡ now.next + ways_of q.request.kind
    → IsPickedMore w (q ∷ []) rs now new → PickedSoFar w rs old now all done (q ∷ qs) → PickedSoFar w rs old new all (done ++ q ∷ []) qs
picks_next w rs old now new all done q qs e n m s = record {
  choice = s.choice ++ m.choice;
  choice_is = m.choice_is ∙ ap (λ (l : List ℕ). l ++ m.choice) s.choice_is ∙ append_assoc old.choice.items s.choice m.choice;
  next =
      let long : length (ways_from (done ++ q ∷ [])) ≡ length (ways_from done) + length (ways_from (q ∷ [])) = ap (λ (l : List Asked). length l) (flat_map-append ways_in done (q ∷ [])) ∙ length-append (ways_from done) (ways_from (q ∷ [])) in
      omega (arith, long, s.next, m.next);
  picked = rw (m.rows_are) (picked_joined w rs done (q ∷ []) s.choice m.choice now.rows.items m.rows s.picked m.picked);
  there = rest_there w now.next new.next q qs n s.there;
  ways = rest_ways w now.next new.next q qs n s.ways;
  whole = sym (picks_parts rs q qs true e) ∙ s.whole;
}

-- all are picked
pub picks_all : (w : SearchInput) (rs : List DeviceResult) (old now : Named) (all : List Wish) → PickedSoFar w rs old now all all [] → IsPickedAll w all rs old now
picks_all w rs old now all s = record { choice = s.choice; choice_is = s.choice_is; next = s.next; picked = s.picked }

-- ---- what is returned, by the request

pub named_by : (rs : List DeviceResult) (asks : List Asked) (first n : ℕ) (ss : List DeviceSubRequest) (q : Wish) (request : DeviceRequest) → q.request ≡ request → request.kind ≡ FirstAvailable ss → n ≡ length ss
    → take (ways_of request.kind) (drop first asks) ≡ ways_in q → unnamed rs (take n (drop first asks)) ≡ named_way rs q request.kind
named_by rs asks first n ss q request e is long h =
    ap (λ (m : ℕ). unnamed rs (take m (drop first asks))) (long ∙ sym (ap ways_of is))
    ∙ ap (unnamed rs) (h ∙ ap (ways_by q) (ap (λ (r : DeviceRequest). r.kind) e ∙ is))
    ∙ sub_position rs q ss
    ∙ sym (ap (named_way rs q) is)

-- what names pick of the ways of a request, whose rows these are
abbrev pub Names : SearchInput → List DeviceResult → ℕ → DeviceRequest → ℕ → Type 0
Names w rs first request way = (q : Wish) → q.request ≡ request → take (ways_of request.kind) (drop first (all_asked w)) ≡ ways_in q → way ≡ named_way rs q request.kind

way_named : (w : SearchInput) (rs : List DeviceResult) (first : ℕ) (q : Wish) (request : DeviceRequest) (way : ℕ) → q.request ≡ request → AreWays w first (q ∷ []) → Names w rs first request way → way ≡ named_way rs q q.request.kind
way_named w rs first q request way e a f =
    f q e (ap (λ (r : DeviceRequest). take (ways_of r.kind) (drop first (all_asked w))) (sym e) ∙ one_ways w first q a)
    ∙ ap (λ (r : DeviceRequest). named_way rs q r.kind) (sym e)

kind_fits : (first n : ℕ) (q : Wish) (request : DeviceRequest) → q.request ≡ request → first + ways_of request.kind ≤ n → first + ways_of q.request.kind ≤ n
kind_fits first n q request e h = subst (λ (r : DeviceRequest). first + ways_of r.kind ≤ n) (sym e) h

kind_below : (way ways : ℕ) (q : Wish) (request : DeviceRequest) → q.request ≡ request → ways ≡ ways_of request.kind → way < ways → way < ways_of q.request.kind
kind_below way ways q request e is h = let same : ways ≡ ways_of q.request.kind = is ∙ ap (λ (r : DeviceRequest). ways_of r.kind) (sym e) in omega arith

pub some_picked : (w : SearchInput) (rs : List DeviceResult) (first : ℕ) (q : Wish) (request : DeviceRequest) (way ways : ℕ) → q.request ≡ request → AreWays w first (q ∷ []) → Names w rs first request way → first + ways_of request.kind ≤ length (all_asked w)
    → ways ≡ ways_of request.kind → way < ways → true ≡ is_some (asked_for rs q)
some_picked w rs first q request way ways e a f k is h =
    sym (ap (λ (o : Option Asked). is_some o) (asked_some w first rs q way (kind_fits first (length (all_asked w)) q request e k) a (way_named w rs first q request way e a f) (kind_below way ways q request e is h)))

pub none_picked : (w : SearchInput) (rs : List DeviceResult) (first : ℕ) (q : Wish) (request : DeviceRequest) (way ways : ℕ) → q.request ≡ request → AreWays w first (q ∷ []) → Names w rs first request way
    → ways ≡ ways_of request.kind → ways ≤ way → false ≡ is_some (asked_for rs q)
none_picked w rs first q request way ways e a f is h =
    let same : ways ≡ ways_of q.request.kind = is ∙ ap (λ (r : DeviceRequest). ways_of r.kind) (sym e) in
    sym (ap (λ (o : Option Asked). is_some o) (asked_none rs q way (way_named w rs first q request way e a f) (omega arith)))

pub one_picked : (w : SearchInput) (rs : List DeviceResult) (q : Wish) (request : DeviceRequest) (old new : Named) (way ways : ℕ) → q.request ≡ request → AreWays w old.next (q ∷ []) → Names w rs old.next request way
    → old.next + ways_of request.kind ≤ length (all_asked w) → ways ≡ ways_of request.kind → way < ways
    → new.choice.items ≡ old.choice.items ++ way ∷ [] → new.rows.items ≡ old.rows.items ++ (old.next + way) ∷ [] → new.next ≡ old.next + ways → IsPickedMore w (q ∷ []) rs old new
one_picked w rs q request old new way ways e a f k is h choice rows next =
    picked_one w rs q old new way (kind_fits old.next (length (all_asked w)) q request e k) a (way_named w rs old.next q request way e a f) (kind_below way ways q request e is h)
    choice rows (next ∙ ap (λ (n : ℕ). old.next + n) (is ∙ ap (λ (r : DeviceRequest). ways_of r.kind) (sym e)))

-- ---- the requests of a claim by their indexes

abbrev pub wish : ℕ → Key → DeviceRequest → Wish
wish place key r = record { claim = place; key = key; request = r }

left_next : (place : ℕ) (key : Key) (rs : List DeviceRequest) (i : ℕ) (r : DeviceRequest) → i < length rs → r ≡ get_or rs i r → wishes_in place key (drop i rs) ≡ wish place key r ∷ wishes_in place key (drop (i + 1) rs)
left_next place key rs i r h e = ap (wishes_in place key) (drop_next rs i r h e)

done_next : (place : ℕ) (key : Key) (rs : List DeviceRequest) (i : ℕ) (r : DeviceRequest) → i < length rs → r ≡ get_or rs i r → wishes_in place key (take (i + 1) rs) ≡ wishes_in place key (take i rs) ++ wish place key r ∷ []
done_next place key rs i r h e = ap (wishes_in place key) (take_next rs i r h e) ∙ map-append (wish place key) (take i rs) (r ∷ [])

-- what is picked before the request at an index
abbrev pub PickedUntil : SearchInput → List DeviceResult → Named → Named → ℕ → Key → List DeviceRequest → ℕ → Type 0
PickedUntil w rs old now place key requests i = PickedSoFar w rs old now (wishes_in place key requests) (wishes_in place key (take i requests)) (wishes_in place key (drop i requests))

opened : (w : SearchInput) (rs : List DeviceResult) (old now : Named) (place : ℕ) (key : Key) (requests : List DeviceRequest) (i : ℕ) (r : DeviceRequest) → i < length requests → r ≡ get_or requests i r → PickedUntil w rs old now place key requests i
    → PickedSoFar w rs old now (wishes_in place key requests) (wishes_in place key (take i requests)) (wish place key r ∷ wishes_in place key (drop (i + 1) requests))
opened w rs old now place key requests i r h e s = subst (PickedSoFar w rs old now (wishes_in place key requests) (wishes_in place key (take i requests))) (left_next place key requests i r h e) s

pub until_there : (w : SearchInput) (rs : List DeviceResult) (old now : Named) (place : ℕ) (key : Key) (requests : List DeviceRequest) (i : ℕ) (r : DeviceRequest) → i < length requests → r ≡ get_or requests i r → PickedUntil w rs old now place key requests i
    → now.next + ways_of r.kind ≤ length (all_asked w)
until_there w rs old now place key requests i r h e s = first_there w now.next (wish place key r) (wishes_in place key (drop (i + 1) requests)) (opened w rs old now place key requests i r h e s).there

pub until_ways : (w : SearchInput) (rs : List DeviceResult) (old now : Named) (place : ℕ) (key : Key) (requests : List DeviceRequest) (i : ℕ) (r : DeviceRequest) → i < length requests → r ≡ get_or requests i r → PickedUntil w rs old now place key requests i
    → AreWays w now.next (wish place key r ∷ [])
until_ways w rs old now place key requests i r h e s = first_ways w now.next (wish place key r) (wishes_in place key (drop (i + 1) requests)) (opened w rs old now place key requests i r h e s).ways

pub until_stop : (w : SearchInput) (rs : List DeviceResult) (old now : Named) (place : ℕ) (key : Key) (requests : List DeviceRequest) (i : ℕ) (r : DeviceRequest) → i < length requests → r ≡ get_or requests i r
    → false ≡ is_some (asked_for rs (wish place key r)) → PickedUntil w rs old now place key requests i → false ≡ picks_each rs (wishes_in place key requests)
until_stop w rs old now place key requests i r h e none s =
    picks_stop w rs old now (wishes_in place key requests) (wishes_in place key (take i requests)) (wish place key r) (wishes_in place key (drop (i + 1) requests)) none (opened w rs old now place key requests i r h e s)

pub until_next : (w : SearchInput) (rs : List DeviceResult) (old now new : Named) (place : ℕ) (key : Key) (requests : List DeviceRequest) (i : ℕ) (r : DeviceRequest) → i < length requests → r ≡ get_or requests i r
    → true ≡ is_some (asked_for rs (wish place key r)) → new.next ≡ now.next + ways_of r.kind → IsPickedMore w (wish place key r ∷ []) rs now new
    → PickedUntil w rs old now place key requests i → PickedUntil w rs old new place key requests (i + 1)
until_next w rs old now new place key requests i r h e some n m s =
    subst (λ (done : List Wish). PickedSoFar w rs old new (wishes_in place key requests) done (wishes_in place key (drop (i + 1) requests))) (sym (done_next place key requests i r h e))
    (picks_next w rs old now new (wishes_in place key requests) (wishes_in place key (take i requests)) (wish place key r) (wishes_in place key (drop (i + 1) requests)) some n m (opened w rs old now place key requests i r h e s))

-- all are done
pub until_all : (w : SearchInput) (rs : List DeviceResult) (old now : Named) (place : ℕ) (key : Key) (requests : List DeviceRequest) (i : ℕ) → length requests ≤ i → PickedUntil w rs old now place key requests i → IsPickedAll w (wishes_in place key requests) rs old now
until_all w rs old now place key requests i h s =
    picks_all w rs old now (wishes_in place key requests)
    (subst (λ (done : List DeviceRequest). PickedSoFar w rs old now (wishes_in place key requests) (wishes_in place key done) []) (take_all i requests h)
    (subst (λ (left : List DeviceRequest). PickedSoFar w rs old now (wishes_in place key requests) (wishes_in place key (take i requests)) (wishes_in place key left)) (drop_of_length-le requests h) s))

pub until_true : (w : SearchInput) (rs : List DeviceResult) (old now : Named) (place : ℕ) (key : Key) (requests : List DeviceRequest) (i : ℕ) → length requests ≤ i → PickedUntil w rs old now place key requests i → true ≡ picks_each rs (wishes_in place key requests)
until_true w rs old now place key requests i h s = sym (ap (λ (left : List DeviceRequest). picks_each rs (wishes_in place key left)) (drop_of_length-le requests h)) ∙ s.whole

pub until_none : (w : SearchInput) (rs : List DeviceResult) (old now : Named) (place : ℕ) (key : Key) (requests : List DeviceRequest) → now.choice.items ≡ old.choice.items → now.rows.items ≡ [] → now.next ≡ old.next
    → HasWays w old.next (wishes_in place key requests) → AreWays w old.next (wishes_in place key requests) → PickedUntil w rs old now place key requests 0
until_none w rs old now place key requests choice rows next there ways = record {
  choice = [];
  choice_is = choice ∙ sym (append-nil old.choice.items);
  next = omega (arith, next);
  picked = record {
    choice_is = refl;
    rows_are = ap (asked_rows w) rows;
    there = subst (λ (l : List ℕ). Each (λ r. r < length (all_asked w)) l) (sym rows) (λ i x e. absurd (cc));
  };
  there = subst (λ (n : ℕ). HasWays w n (wishes_in place key requests)) (sym next) there;
  ways = subst (λ (n : ℕ). AreWays w n (wishes_in place key requests)) (sym next) ways;
  whole = refl;
}
