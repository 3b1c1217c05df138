-- What a request is for, by its method, its target and its body.
use Rattle.std.specs.Prelude.{ℕ, List, Option, Some, None, Result, Ok, Err, not, if◌then◌else◌}
use Rattle.serde_json.specs.Data.{Data}
use Rattle.object_fields.specs.declared.key.Key.{Key}
use Rattle.cluster.specs.declared.entry.Mode.TheVariants as mode
use Rattle.commands.specs.Readings.{json_of}
use Rattle.commands.specs.declared.command.Command.TheVariants as command
use Rattle.api_routes.specs.Methods.{asked_of}
use Rattle.api_routes.specs.Targets.{target_of}
use Rattle.api_routes.specs.declared.asked.Asked.{Asked}
use Rattle.api_routes.specs.declared.asked.Asked.TheVariants as asked
use Rattle.api_routes.specs.declared.kind.Kind.{Kind}
use Rattle.api_routes.specs.declared.kind.Kind.TheVariants.{ResourceClaim}
use Rattle.api_routes.specs.declared.unserved.Unserved.{Unserved}
use Rattle.api_routes.specs.declared.unserved.Unserved.TheVariants.{BadRequest}
use Rattle.api_requests.specs.Bodies.{belongs, in_namespace, is_object}
use Rattle.api_requests.specs.Objects.{adopt_of, apply_of}
use Rattle.api_requests.specs.declared.task.Task.{Task}
use Rattle.api_requests.specs.declared.task.Task.TheVariants.{Run, Show, List as Listing, History}

-- what the JSON object that a body is asks for; a body that is none is refused
abbrev pub from_body : (Data → Result Task Unserved) → Option Data → Result Task Unserved
from_body f None = Err BadRequest
from_body f (Some d) = f d

abbrev pub create_from : Kind → List ℕ → Data → Result Task Unserved
create_from kind namespace d =
    if not (belongs kind namespace d) then Err BadRequest else Ok (Run (apply_of kind mode.Create (in_namespace kind namespace d)))

abbrev pub create : Kind → List ℕ → List ℕ → Result Task Unserved
create kind namespace body = from_body (create_from kind namespace) (json_of body)

abbrev pub update_from : Kind → Key → Data → Result Task Unserved
update_from kind key d =
    if not (is_object kind key d) then Err BadRequest else Ok (Run (apply_of kind mode.Update (in_namespace kind key.namespace d)))

abbrev pub update : Kind → Key → List ℕ → Result Task Unserved
update kind key body = from_body (update_from kind key) (json_of body)

abbrev pub status_from : Key → Data → Result Task Unserved
status_from claim d = if not (is_object ResourceClaim claim d) then Err BadRequest else Ok (Run (adopt_of claim d))

abbrev pub write_status : Key → List ℕ → Result Task Unserved
write_status claim body = from_body (status_from claim) (json_of body)

abbrev pub by_asked : ℕ → List ℕ → Asked → Result Task Unserved
by_asked attempts body (asked.List kind namespace) = Ok (Listing kind namespace)
by_asked attempts body (asked.Create kind namespace) = create kind namespace body
by_asked attempts body (asked.Read kind key) = Ok (Show (target_of kind key))
by_asked attempts body (asked.Update kind key) = update kind key body
by_asked attempts body (asked.Delete kind key) = Ok (Run (command.Delete (target_of kind key)))
by_asked attempts body (asked.Adopt claim) = write_status claim body
by_asked attempts body (asked.Schedule pod) = Ok (Run (command.Schedule pod attempts))
by_asked attempts body (asked.Release pod) = Ok (Run (command.Release pod))
by_asked attempts body asked.History = Ok History

abbrev pub if_asked : ℕ → List ℕ → Result Asked Unserved → Result Task Unserved
if_asked attempts body (Ok a) = by_asked attempts body a
if_asked attempts body (Err why) = Err why

-- what a request of this method, target and body is for, where a Schedule makes at most so many attempts
unfoldable pub task_of : ℕ → List ℕ → List ℕ → List ℕ → Result Task Unserved
task_of attempts method target body = if_asked attempts body (asked_of method target)
