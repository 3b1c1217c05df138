use Rattle.std.proofs.Common.{◌≡◌, ◌++◌, drop}
use Rattle.request_rows.specs.Requests.{requests_from}
use Rattle.request_rows.proofs.ways.request_rows_of.Given as goal

abbrev pub invariant-loop-wish : goal.invariant-loop-wish
invariant-loop-wish l = l.requests ++ requests_from l.first (drop l.wish-index l.wishes) ≡ requests_from 0 l.wishes
