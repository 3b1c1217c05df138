use Rattle.std.proofs.Common.{◌≡◌, ℕ, suc, ◌*◌, ◌^◌, ◌<◌, List, ◌++◌}
use Rattle.std.specs.Fmt.{HasWritten, IsPlainFormatter}
use Rattle.quantity.specs.Printed.{places_text}
use Rattle.quantity.proofs.print.write_places.Given as goal

abbrev pub invariant-places : goal.invariant-places
invariant-places g l =
    (k : ℕ) × (l.place ≡ 10 ^ k) × (l.left < 10 * l.place) × (0 < l.place) × (0 < l.left) × (done : List ℕ)
    × (done ++ places_text (suc k) l.left ≡ places_text 9 l.fn.nanos)
    × (IsPlainFormatter l.initial.f → HasWritten g.W.Write.write_str_gives l.initial.f done l.f)

abbrev pub decreases-places : goal.decreases-places
decreases-places g l = l.place
