use Rattle.std.proofs.Common.{◌≡◌, ◌≤◌, ◌-◌, ◌==◌, drop, length}
use Rattle.std.specs.List.{list_any, slice_split}
use Rattle.http_wire.specs.Fields.{is_close}
use Rattle.http_wire.proofs.fields.has_close.Given as goal

abbrev pub invariant-options : goal.invariant-options
invariant-options l = record {
  within : l.start ≤ length l.value;
  rest : list_any is_close (slice_split (λ b. b == 44) (drop l.start l.value)) ≡ list_any is_close (slice_split (λ b. b == 44) l.value);
}

abbrev pub decreases-options : goal.decreases-options
decreases-options l = length l.value - l.start
