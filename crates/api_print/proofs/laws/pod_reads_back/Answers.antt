use Rattle.std.proofs.Common.{arith}
use Rattle.api_print.proofs.ObjectsBack.{pod_back}
use Rattle.api_print.proofs.laws.pod_reads_back.Goals as goal

pub returns : goal.returns
returns c = pod_back (record { object = c.args.pod.now; uid = c.args.uid; version = c.args.version }) c.keeps_limits.ensures (omega arith)
