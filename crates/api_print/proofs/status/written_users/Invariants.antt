use Rattle.std.proofs.Common.{◌≡◌, ◌++◌, map, drop}
use Rattle.serde_json.specs.View.{view}
use Rattle.api_print.specs.Status.{written_users}
use Rattle.api_print.proofs.status.written_users.Given as goal

-- those put into the list, and those of the users that are left, are all
abbrev pub invariant-loop-user : goal.invariant-loop-user
invariant-loop-user l = map view l.list.items ++ written_users l.pods (drop l.user-index l.user-items) ≡ written_users l.pods l.users
