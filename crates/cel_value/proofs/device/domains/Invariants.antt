use Rattle.std.proofs.Common.{◌≡◌, []}
use Rattle.std.specs.Map.{keys_of}
use Rattle.cel_value.specs.Lookups.{domains_from}
use Rattle.cel_value.proofs.device.domains.Given as goal

abbrev pub invariant-loop-name : goal.invariant-loop-name
invariant-loop-name g l = domains_from l.domains (keys_of l.name-iterator) ≡ domains_from [] (keys_of l.table)
