use Rattle.std.proofs.Common.{◌≡◌}
use Rattle.std.specs.List.{list_any}
use Rattle.std.specs.Str.{bytes_eq}
use Rattle.std.specs.Map.{keys_of}
use Rattle.cel_value.proofs.device.any_in.Given as goal

abbrev pub invariant-loop-name : goal.invariant-loop-name
invariant-loop-name g l =
    list_any (λ name. bytes_eq name.domain l.domain) (keys_of l.name-iterator) ≡ list_any (λ name. bytes_eq name.domain l.domain) (keys_of l.table)
