-- A list of new doors, with one more.
use Rattle.std.proofs.Common.{◌≡◌, ◌<◌, ◌++◌, ◌∷◌, [], ℕ, zero, suc, List, arith, get_or, length}
use Rattle.net_doors.specs.NetDoors.{IsNewDoor}
use Rattle.net_doors.specs.declared.door.NetDoor.{NetDoor}

with_last : {X : Type 0} (P : ℕ → X → Type 0) (xs : List X) (x : X) → ((i : ℕ) (d : X) → i < length xs → P i (get_or xs i d)) → P (length xs) x → (i : ℕ) (d : X) → i < length (xs ++ x ∷ []) → P i (get_or (xs ++ x ∷ []) i d)
with_last P [] x each now zero d lt = now
with_last P [] x each now (suc i) d lt = absurd (omega (arith, lt))
with_last P (y ∷ xs) x each now zero d lt = each 0 d (omega arith)
with_last P (y ∷ xs) x each now (suc i) d lt = with_last (λ k z. P (suc k) z) xs x (λ k e l. each (suc k) e (omega (arith, l))) now i d (omega (arith, lt))

pub one_more : (n k at : ℕ) (xs ys : List NetDoor) (x : NetDoor) → ys ≡ xs ++ x ∷ [] → length xs ≡ at → ((i : ℕ) (d : NetDoor) → i < length xs → IsNewDoor i n k (get_or xs i d)) → IsNewDoor at n k x → (i : ℕ) (d : NetDoor) → i < length ys → IsNewDoor i n k (get_or ys i d)
one_more n k at xs ys x is len each now = rw is (with_last (λ i d. IsNewDoor i n k d) xs x each (rw len now))
