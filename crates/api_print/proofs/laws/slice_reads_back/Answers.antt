use Rattle.std.proofs.Common.{arith}
use Rattle.api_print.proofs.SliceBack.{slice_back}
use Rattle.api_print.proofs.laws.slice_reads_back.Goals as goal

pub returns : goal.returns
returns c = slice_back (record { object = c.args.slice.now; uid = c.args.uid; version = c.args.version }) c.keeps_limits.ensures c.slice_in_range.ensures (omega arith)
