use Rattle.device_match.proofs.Valued.{IsMade}
use Rattle.device_match.proofs.device.values.Given as goal

abbrev pub invariant-loop-name : goal.invariant-loop-name
invariant-loop-name l = IsMade l.properties.attributes l.values l.name-iterator
