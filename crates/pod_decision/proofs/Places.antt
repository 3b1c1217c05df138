-- Elements by their indices.
use Rattle.std.proofs.Common.{◌≡◌, List, Some, length, refl, sym}
use Rattle.std.specs.List.{Contains, slice_get}
use Rattle.std.proofs.lemmas.Option.{slice_get_read}

pub at_place : {X : Type 0} (xs : List X) (x : X) (h : Contains xs x) → slice_get xs h.0 ≡ Some x
at_place xs x h = slice_get_read xs (length xs) h.0 x refl h.1 (sym h.2)
