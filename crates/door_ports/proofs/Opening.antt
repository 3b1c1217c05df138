-- A list of new doors, with one more.
use Rattle.std.proofs.Common.{◌≡◌, ◌<◌, ◌++◌, ◌∷◌, [], ℕ, zero, suc, List, arith, get_or, length}
use Rattle.door_ports.specs.MemDoors.{IsNewDoor}
use Rattle.door_ports.specs.declared.script.Script.{Script}
use Rattle.door_ports.specs.declared.mem_door.MemDoor.{MemDoor}

with_last : {X : Type 0} (P : ℕ → X → Type 0) (xs : List X) (x : X) → ((i : ℕ) (d : X) → i < length xs → P i (get_or xs i d)) → P (length xs) x → (i : ℕ) (d : X) → i < length (xs ++ x ∷ []) → P i (get_or (xs ++ x ∷ []) i d)
with_last P [] x each now zero d lt = now
with_last P [] x each now (suc i) d lt = absurd (omega (arith, lt))
with_last P (y ∷ xs) x each now zero d lt = each 0 d (omega arith)
with_last P (y ∷ xs) x each now (suc i) d lt = with_last (λ k z. P (suc k) z) xs x (λ k e l. each (suc k) e (omega (arith, l))) now i d (omega (arith, lt))

pub one_more : (s : Script) (n k at : ℕ) (xs ys : List MemDoor) (x : MemDoor) → ys ≡ xs ++ x ∷ [] → length xs ≡ at → ((i : ℕ) (d : MemDoor) → i < length xs → IsNewDoor s i n k (get_or xs i d)) → IsNewDoor s at n k x → (i : ℕ) (d : MemDoor) → i < length ys → IsNewDoor s i n k (get_or ys i d)
one_more s n k at xs ys x is len each now = rw is (with_last (λ i d. IsNewDoor s i n k d) xs x each (rw len now))
