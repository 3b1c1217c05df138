use Rattle.std.proofs.Common.{◌≡◌, drop, []}
use Rattle.serde_json.specs.View.{items_view}
use Rattle.api_slice.specs.Entries.{draws_by}
use Rattle.api_slice.proofs.consumption.each_draw.Given as goal

-- the draws that are left, after those read, are all draws
abbrev pub invariant-loop-place : goal.invariant-loop-place
invariant-loop-place l =
    draws_by l.path l.place l.met l.draws (items_view (drop l.place l.values)) ≡ draws_by l.path 0 0 [] (items_view l.values)
