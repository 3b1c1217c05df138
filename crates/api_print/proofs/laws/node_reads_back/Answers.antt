use Rattle.std.proofs.Common.{arith}
use Rattle.std.specs.Cmp.Lexicographic.{slice_cmp}
use Rattle.std.specs.List.Sorted.{IsStrictlySortedBy}
use Rattle.std.specs.Map.{keys_of}
use Rattle.std.specs.Ordering.{nat_cmp}
use Rattle.api_print.proofs.ObjectsBack.{node_back}
use Rattle.api_print.proofs.laws.node_reads_back.Goals as goal

pub returns : goal.returns
returns c =
    let sorted : IsStrictlySortedBy (slice_cmp nat_cmp) (keys_of c.args.node.now.labels) = rw (← c.node.view_is) c.in_order.ensures in
    node_back (record { object = c.args.node.now; uid = c.args.uid; version = c.args.version }) c.keeps_limits.ensures sorted (omega arith)
