use Rattle.std.proofs.Common.{◌≡◌, drop, []}
use Rattle.pool_view.specs.Views.{places_from}
use Rattle.pool_view.proofs.view.places_of.Given as goal

abbrev pub invariant-loop-place : goal.invariant-loop-place
invariant-loop-place l = places_from l.place (drop l.place l.devices) l.places ≡ places_from 0 l.devices []
