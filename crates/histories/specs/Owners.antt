-- Which job has a pod.
use Rattle.std.specs.Prelude.{Bool, ◌||◌, Option, None, Some}
use Rattle.object_fields.specs.declared.key.Key.{Key}
use Rattle.cluster.specs.declared.entry.Event.{Event}
use Rattle.cluster.specs.declared.entry.Event.TheVariants.{Applied, Deleted, Reserved, Refused, Wrote, Conflict, Unreserved, Bound, VerdictGiven, Contended, Released, Adopted, Denied}
use Rattle.cluster.specs.declared.entry.JobState.{JobState}
use Rattle.cluster.specs.JobState.{has_reserved, is_conflicted}

-- the job has a pod: it has reserved, and has neither bound the pod nor given it up
abbrev pub has_pod : JobState → Bool
has_pod st = has_reserved st || is_conflicted st

-- the pod that an entry reserves, goes on with, or gives up
abbrev pub pod_in : Event → Option Key
pod_in (Applied object mode) = None
pod_in (Deleted target) = None
pod_in (Reserved pod plan) = Some pod
pod_in (Refused pod plan why) = Some pod
pod_in (Wrote pod claim seen) = Some pod
pod_in (Conflict pod claim had now) = Some pod
pod_in (Unreserved pod) = Some pod
pod_in (Bound pod node) = Some pod
pod_in (VerdictGiven pod verdict) = Some pod
pod_in (Contended pod attempts) = Some pod
pod_in (Released pod) = None
pod_in (Adopted claim status) = None
pod_in (Denied command refusal) = None
