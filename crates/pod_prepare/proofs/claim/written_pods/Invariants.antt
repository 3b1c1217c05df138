use Rattle.std.proofs.Common.{◌≡◌, ◌++◌, drop}
use Rattle.pod_prepare.specs.ForNode.{written_pods}
use Rattle.pod_prepare.proofs.claim.written_pods.Given as goal

-- the pods so far, and those of the users that are left
abbrev pub invariant-loop-user : goal.invariant-loop-user
invariant-loop-user l = l.pods ++ written_pods (drop l.user-index l.users) ≡ written_pods l.users
