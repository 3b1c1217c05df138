use Rattle.std.proofs.Common.{◌≡◌, drop, []}
use Rattle.serde_json.specs.View.{items_view}
use Rattle.api_slice.proofs.Sets.{sets_by}
use Rattle.api_slice.proofs.counters.each_set.Given as goal

-- the sets that are left, after those read, are all sets
abbrev pub invariant-loop-place : goal.invariant-loop-place
invariant-loop-place l =
    sets_by l.path l.place l.met l.sets (items_view (drop l.place l.values)) ≡ sets_by l.path 0 0 [] (items_view l.values)
