use Rattle.std.proofs.Common.{arith}
use Rattle.api_print.proofs.ObjectsBack.{class_back}
use Rattle.api_print.proofs.laws.class_reads_back.Goals as goal

pub returns : goal.returns
returns c = class_back (record { object = c.args.class.now; uid = c.args.uid; version = c.args.version }) c.keeps_limits.ensures (omega arith)
