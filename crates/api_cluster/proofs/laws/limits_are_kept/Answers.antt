use Rattle.api_cluster.proofs.Kept.{class_kept, pod_kept}
use Rattle.api_cluster.proofs.laws.limits_are_kept.Goals as goal

pub returns-clause-class : goal.returns-clause-class
returns-clause-class c = class_kept c.metadata_keeps_limits.ensures c.lists_keep_limits.ensures

pub returns-clause-pod : goal.returns-clause-pod
returns-clause-pod c = pod_kept c.metadata_keeps_limits.ensures c.lists_keep_limits-2.ensures
