use Rattle.request_rows.specs.Wanted.{input_of}
use Rattle.allocator.proofs.Viewed.{run_first}
use Rattle.allocator.proofs.board.RequestBoard.new.Goals as goal

pub invariant_of-result : goal.invariant_of-result
invariant_of-result c = record {
  same_devices = c.requires.devices;
  apart = c.requires.apart;
  run = run_first (input_of c.args.rows.now) _ c.new.ensures.items c.new-2.ensures.items c.new-3.ensures.items c.requires.agreed;
}
