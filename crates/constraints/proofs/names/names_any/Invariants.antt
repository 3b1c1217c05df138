use Rattle.std.proofs.Common.{◌≡◌, drop}
use Rattle.request_rules.specs.Agreeing as spec
use Rattle.constraints.proofs.names.names_any.Given as goal

abbrev pub invariant-loop-name : goal.invariant-loop-name
invariant-loop-name l = spec.names_any (drop l.name-index l.fn.requests) l.fn.result_name ≡ spec.names_any l.fn.requests l.fn.result_name
