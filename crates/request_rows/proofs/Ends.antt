-- Loops that come to their end, and their steps.
use Rattle.std.proofs.Common.{ℕ, suc, ◌+◌, ◌-◌, ◌<◌, ◌≤◌, ◌≡◌, List, [], ◌∷◌, ◌++◌, map, drop, get_or, length, refl, sym, ap, ◌∙◌, arith, append_assoc}
use Rattle.std.proofs.Math.Seq.{drop-cons}
use Rattle.api_claim.specs.declared.types.ResourceClaim.{ResourceClaim}
use Rattle.request_rules.specs.Asked.{Wish, wishes_from}
use Rattle.request_rows.specs.declared.choice.Seat.{Seat}
use Rattle.request_rows.specs.declared.choice.Seat.TheVariants.{Next}
use Rattle.request_rows.specs.declared.choice.Slot.{Slot}
use Rattle.request_rows.specs.declared.ways.RequestRows.{RequestRows}
use Rattle.request_rows.specs.Chosen.{chosen_rows, seats_repeated, slot_of}
use Rattle.request_rules.specs.Ways.{wishes_in}
use Rattle.request_rows.proofs.Lists.{drop_all, ended}

no_choice : (rs : List RequestRows) → chosen_rows rs [] ≡ []
no_choice [] = refl
no_choice (r ∷ rs) = refl

pub ended_requests : (out whole : List ℕ) (rs : List RequestRows) (ks : List ℕ) (i : ℕ) → out ++ chosen_rows (drop i rs) (drop i ks) ≡ whole → length rs ≤ i → out ≡ whole
ended_requests out whole rs ks i e h = ended out (chosen_rows (drop i rs) (drop i ks)) whole e (ap (λ (r : List RequestRows). chosen_rows r (drop i ks)) (drop_all rs i h))

pub ended_choice : (out whole : List ℕ) (rs : List RequestRows) (ks : List ℕ) (i : ℕ) → out ++ chosen_rows (drop i rs) (drop i ks) ≡ whole → length ks ≤ i → out ≡ whole
ended_choice out whole rs ks i e h =
    ended out (chosen_rows (drop i rs) (drop i ks)) whole e (ap (λ (r : List ℕ). chosen_rows (drop i rs) r) (drop_all ks i h) ∙ no_choice (drop i rs))

repeated_step : (n : ℕ) → 0 < n → seats_repeated n ≡ Next ∷ seats_repeated (n - 1)
repeated_step n h = let e : n ≡ suc (n - 1) = omega arith in ap (λ (k : ℕ). seats_repeated k) e

pub next_step : (old new : List Slot) (row left : ℕ) (whole : List Slot) → new ≡ old ++ slot_of row Next ∷ [] → 0 < left → old ++ map (slot_of row) (seats_repeated left) ≡ whole → new ++ map (slot_of row) (seats_repeated (left - 1)) ≡ whole
next_step old new row left whole e h f =
    ap (λ (l : List Slot). l ++ map (slot_of row) (seats_repeated (left - 1))) e
    ∙ append_assoc old (slot_of row Next ∷ []) (map (slot_of row) (seats_repeated (left - 1)))
    ∙ sym (ap (λ (ss : List Seat). old ++ map (slot_of row) ss) (repeated_step left h))
    ∙ f

drop_next : {X : Type 0} (xs : List X) (i : ℕ) (x : X) → i < length xs → x ≡ get_or xs i x → drop i xs ≡ x ∷ drop (i + 1) xs
drop_next {X} xs i x h e =
    let n : suc i ≡ i + 1 = omega arith in
    drop-cons xs i x h ∙ ap (λ (y : X). y ∷ drop (suc i) xs) (sym e) ∙ ap (λ (k : ℕ). x ∷ drop k xs) n

pub claim_step : (old new : List Wish) (claims : List ResourceClaim) (place : ℕ) (x : ResourceClaim) (whole : List Wish) → place < length claims → x ≡ get_or claims place x
    → new ≡ old ++ wishes_in place x.key x.requests → old ++ wishes_from place (drop place claims) ≡ whole → new ++ wishes_from (place + 1) (drop (place + 1) claims) ≡ whole
claim_step old new claims place x whole h e f g =
    ap (λ (l : List Wish). l ++ wishes_from (place + 1) (drop (place + 1) claims)) f
    ∙ append_assoc old (wishes_in place x.key x.requests) (wishes_from (place + 1) (drop (place + 1) claims))
    ∙ sym (ap (λ (l : List ResourceClaim). old ++ wishes_from place l) (drop_next claims place x h e))
    ∙ g
