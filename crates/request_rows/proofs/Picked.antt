-- The rows that a choice picks.
use Rattle.std.proofs.Common.{ℕ, zero, suc, ◌+◌, ◌<◌, ◌≤◌, ◌≡◌, List, [], ◌∷◌, ◌++◌, Bool, true, false, cond, ltb, Option, None, Some, map, length, get_or, refl, sym, ap, ◌∙◌, arith, append_assoc, length-append}
use Rattle.std.specs.List.{slice_get}
use Rattle.std.proofs.lemmas.Option.{slice_get-map, slice_get_within, get_or_from_slice_get}
use Rattle.std.specs.Prelude.{option_map}
use Rattle.std.proofs.lemmas.Bool.Decides.{nat_tests}
use Rattle.api_claim.specs.declared.types.DeviceSubRequest.{DeviceSubRequest}
use Rattle.api_claim.specs.declared.types.RequestKind.{RequestKind}
use Rattle.api_claim.specs.declared.types.RequestKind.TheVariants.{Exactly, FirstAvailable}
use Rattle.request_rules.specs.Asked.{Asked, Wish, asked_by, asked_from, asked_sub, ways_of}
use Rattle.request_rules.specs.Lists.{add_some}
use Rattle.request_rows.specs.Chosen.{chosen_rows, row_for_choice}
use Rattle.request_rules.specs.Ways.{asked_exactly, nothing_asked, ways_by, ways_from, ways_in}
use Rattle.request_rows.specs.Requests.{is_exactly, request_at, requests_from}
use Rattle.request_rows.proofs.Lists.{get_prefix, get_past, get_seam, map_length}

abbrev pub IsPicked : List Asked → Option ℕ → Option Asked → Type 0
IsPicked asks None None = Unit {0}
IsPicked asks None (Some a) = ⊥
IsPicked asks (Some r) None = ⊥
IsPicked asks (Some r) (Some a) = slice_get asks r ≡ Some a

-- these are asked for in the rows
abbrev pub ArePicked : List Asked → List ℕ → List Asked → Type 0
ArePicked asks [] [] = Unit {0}
ArePicked asks [] (a ∷ l) = ⊥
ArePicked asks (r ∷ rs) [] = ⊥
ArePicked asks (r ∷ rs) (a ∷ l) = (slice_get asks r ≡ Some a) × ArePicked asks rs l

picked_add : (asks : List Asked) (o : Option ℕ) (p : Option Asked) (rs : List ℕ) (l : List Asked) → IsPicked asks o p → ArePicked asks rs l → ArePicked asks (add_some o rs) (add_some p l)
picked_add asks None None rs l h k = k
picked_add asks None (Some a) rs l h k = absurd h
picked_add asks (Some r) None rs l h k = absurd h
picked_add asks (Some r) (Some a) rs l h k = (h, k)

there_is : {X : Type 0} (xs : List X) (i : ℕ) → i < length xs → slice_get xs i ≡ None → ⊥
there_is [] i h e = absurd (omega arith)
there_is (x ∷ xs) zero h e = absurd (cc)
there_is (x ∷ xs) (suc i) h e = there_is xs i (omega arith) e

one_sub : (asks before rest : List Asked) (q : Wish) (rs : List DeviceSubRequest) (first k : ℕ) (b : Bool) (o : Option DeviceSubRequest)
    → asks ≡ before ++ (map (asked_sub q) rs ++ rest) → first ≡ length before → ltb k (length rs) ≡ b → slice_get rs k ≡ o
    → IsPicked asks (cond b (Some (first + k)) None) (option_map (asked_sub q) o)
one_sub asks before rest q rs first k true (Some s) e f g h =
    ap (λ (l : List Asked). slice_get l (first + k)) e
    ∙ ap (λ (n : ℕ). slice_get (before ++ (map (asked_sub q) rs ++ rest)) (n + k)) f
    ∙ get_past before (map (asked_sub q) rs ++ rest) k (asked_sub q s) (get_prefix (map (asked_sub q) rs) rest k (asked_sub q s) (slice_get-map (asked_sub q) rs k ∙ ap (option_map (asked_sub q)) h))
one_sub asks before rest q rs first k true None e f g h = let n : k < length rs = grind (arith, nat_tests, g) in there_is rs k n h
one_sub asks before rest q rs first k false (Some s) e f g h =
    let n : length rs ≤ k = grind (arith, nat_tests, g) in
    let m = slice_get_within rs k s h in
    absurd (omega arith)
one_sub asks before rest q rs first k false None e f g h = tt

one : (asks before rest : List Asked) (q : Wish) (kind : RequestKind) (first k : ℕ) → asks ≡ before ++ (ways_by q kind ++ rest) → first ≡ length before
    → IsPicked asks (row_for_choice (record { first = first; ways = ways_of kind; exact = is_exactly kind }) k) (asked_by q kind k)
one asks before rest q (Exactly r) first k e f =
    ap (λ (l : List Asked). slice_get l first) e
    ∙ ap (slice_get (before ++ asked_exactly q r ∷ rest)) f
    ∙ get_seam before (asked_exactly q r) rest
one asks before rest q (FirstAvailable rs) first k e f = one_sub asks before rest q rs first k (ltb k (length rs)) (slice_get rs k) e f refl refl

ways_length : (q : Wish) (kind : RequestKind) → length (ways_by q kind) ≡ ways_of kind
ways_length q (Exactly r) = refl
ways_length q (FirstAvailable rs) = map_length (asked_sub q) rs

pub picked : (asks before : List Asked) (first : ℕ) (qs : List Wish) (ks : List ℕ) → asks ≡ before ++ ways_from qs → first ≡ length before
    → ArePicked asks (chosen_rows (requests_from first qs) ks) (asked_from qs ks)
picked asks before first [] ks e f = tt
picked asks before first (q ∷ qs) [] e f = tt
picked asks before first (q ∷ qs) (k ∷ ks) e f =
    let g = ways_length q q.request.kind in
    let h = length-append before (ways_in q) in
    let n : first + ways_of q.request.kind ≡ length (before ++ ways_in q) = omega (arith, f, g, h) in
    picked_add asks (row_for_choice (request_at first q) k) (asked_by q q.request.kind k) (chosen_rows (requests_from (first + ways_of q.request.kind) qs) ks) (asked_from qs ks)
    (one asks before (ways_from qs) q q.request.kind first k e f)
    (picked asks (before ++ ways_in q) (first + ways_of q.request.kind) qs ks (e ∙ sym (append_assoc before (ways_in q) (ways_from qs))) n)

pub picked_asks : (asks : List Asked) (rs : List ℕ) (l : List Asked) → ArePicked asks rs l → map (λ r. get_or asks r nothing_asked) rs ≡ l
picked_asks asks [] [] h = refl
picked_asks asks [] (a ∷ l) h = absurd h
picked_asks asks (r ∷ rs) [] h = absurd h
picked_asks asks (r ∷ rs) (a ∷ l) h =
    ap (λ (x : Asked). x ∷ map (λ r. get_or asks r nothing_asked) rs) (get_or_from_slice_get asks r a nothing_asked h.0)
    ∙ ap (λ (xs : List Asked). a ∷ xs) (picked_asks asks rs l h.1)
