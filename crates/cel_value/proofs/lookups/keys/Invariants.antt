use Rattle.std.proofs.Common.{◌≡◌, ◌++◌, map}
use Rattle.std.specs.Map.{keys_of}
use Rattle.cel_value.specs.Values.{single_of}
use Rattle.cel_value.proofs.lookups.keys.Given as goal

abbrev pub invariant-loop-key : goal.invariant-loop-key
invariant-loop-key l = l.keys ++ map single_of (keys_of l.key-iterator) ≡ map single_of (keys_of l.entries)
