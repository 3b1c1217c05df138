use Rattle.std.proofs.Common.{◌≡◌, ◌++◌, drop}
use Rattle.request_rules.specs.Asked.{wishes_from}
use Rattle.request_rows.proofs.ways.wishes_of.Given as goal

abbrev pub invariant-loop-place : goal.invariant-loop-place
invariant-loop-place l = l.wishes.items ++ wishes_from l.place (drop l.place l.claims) ≡ wishes_from 0 l.claims
