use Rattle.std.proofs.Common.{◌≡◌, [], drop}
use Rattle.api_print.specs.Parts.{with_users}
use Rattle.api_print.proofs.part.written_pods.Given as goal

abbrev pub invariant-loop-user : goal.invariant-loop-user
invariant-loop-user l = with_users l.pods (drop l.user-index l.user-items) l.table ≡ with_users l.pods l.users []
