-- What lists contain.
use Rattle.std.proofs.Common.{ℕ, ◌≡◌, ◌∙◌, List, Bool, Some, sym}
use Rattle.std.specs.List.{Contains, find, position_or_len, slice_get}
use Rattle.std.proofs.lemmas.Option.{slice_get_within, get_or_from_slice_get}
use Rattle.std.proofs.lemmas.List.Folds.{find_at}

pub Contains-from_get : {X : Type 0} (xs : List X) (i : ℕ) (x : X) → slice_get xs i ≡ Some x → Contains xs x
Contains-from_get xs i x e = (i, slice_get_within xs i x e, get_or_from_slice_get xs i x x e)

pub Contains-found : {X : Type 0} (t : X → Bool) (xs : List X) (x : X) → find t xs ≡ Some x → Contains xs x
Contains-found t xs x e = Contains-from_get xs (position_or_len t xs) x (sym (find_at t xs) ∙ e)
