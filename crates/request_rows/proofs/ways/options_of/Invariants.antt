use Rattle.std.proofs.Common.{◌≡◌, ◌++◌, map, drop}
use Rattle.request_rules.specs.Asked.{ways_of}
use Rattle.request_rows.proofs.ways.options_of.Given as goal

abbrev pub invariant-loop-wish : goal.invariant-loop-wish
invariant-loop-wish l = l.options ++ map (λ q. ways_of q.request.kind) (drop l.wish-index l.wishes) ≡ map (λ q. ways_of q.request.kind) l.wishes
