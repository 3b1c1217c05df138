-- The connections that doors hand on when they are closed.
use Rattle.std.proofs.Common.{◌≡◌, ◌∙◌, ◌++◌, ◌∷◌, [], List, Some, ap, sym, map, length, append_assoc, append-nil, arith}
use Rattle.std.proofs.lemmas.Grind.{flat_map-append}
use Rattle.std.specs.List.{flat_map}
use Rattle.door_ports.specs.Visits.{Ended, handed_on}

pub handed_mem : {D : Type 0} (f : D → List Ended) (es : List Ended) (ds : List D) → handed_on (Some es) (map (λ d. Some (f d)) ds) ≡ Some (es ++ flat_map f ds)
unfolding handed_on
handed_mem f es [] = ap Some (sym (append-nil es))
handed_mem f es (d ∷ ds) = handed_mem f (es ++ f d) ds ∙ ap Some (append_assoc es (f d) (flat_map f ds))

-- one more list of doors
pub ended_more : {V E : Type 0} (g : V → List E) (xs ys : List V) (y : V) → ys ≡ xs ++ y ∷ [] → flat_map g ys ≡ flat_map g xs ++ g y
ended_more g xs ys y is = ap (flat_map g) is ∙ flat_map-append g xs (y ∷ []) ∙ ap (λ l. flat_map g xs ++ l) (append-nil (g y))

-- no doors
pub ended_none : {X E : Type 0} (f : X → List E) (es : List E) (ds : List X) → length ds ≡ 0 → es ≡ es ++ flat_map f ds
ended_none f es [] none = sym (append-nil es)
ended_none f es (d ∷ ds) none = absurd (omega (arith, none))
