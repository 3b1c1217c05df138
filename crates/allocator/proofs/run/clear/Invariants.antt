use Rattle.std.proofs.Common.{◌≡◌, List, length}
use Rattle.object_fields.specs.declared.key.DeviceId.{DeviceId}
use Rattle.object_fields.specs.declared.key.Key.{Key}
use Rattle.request_rows.specs.Wanted.{input_of}
use Rattle.allocator.specs.Kept.{IsRun, setting_of}
use Rattle.allocator.proofs.run.clear.Given as goal

abbrev pub invariant-loop-run : goal.invariant-loop-run
invariant-loop-run l = record {
  kept : IsRun (input_of l.rows) l.run;
  setting : (held : List (DeviceId × Key)) → setting_of (input_of l.rows) held l.run ≡ setting_of (input_of l.rows) held l.fn.run;
}

abbrev pub decreases-loop-run : goal.decreases-loop-run
decreases-loop-run l = length l.run.positions.items
