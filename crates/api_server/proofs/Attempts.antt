-- Each command that a request asks for has an attempt.
use Rattle.std.proofs.Common.{ℕ, ◌≡◌, ◌∙◌, ◌<◌, Bool, true, false, List, Option, None, Some, Result, Ok, Err, IfOk, cond, not, refl, sym, ap, subst, arith}
use Rattle.cluster.specs.declared.entry.Mode.{Mode}
use Rattle.cluster.specs.declared.object.Object.{Object}
use Rattle.api_claim.specs.declared.types.ClaimStatus.{ClaimStatus}
use Rattle.commands.specs.Readings.{json_of}
use Rattle.commands.specs.declared.command.Command.{Command}
use Rattle.histories.specs.JobRuns.{attempts_of}
use Rattle.object_fields.specs.declared.error.FieldError.{FieldError}
use Rattle.object_fields.specs.declared.key.Key.{Key}
use Rattle.serde_json.specs.Data.{Data}
use Rattle.api_routes.specs.Methods.{asked_of}
use Rattle.api_routes.specs.declared.asked.Asked.{Asked}
use Rattle.api_routes.specs.declared.asked.Asked.TheVariants as asked
use Rattle.api_routes.specs.declared.unserved.Unserved.{Unserved}
use Rattle.api_routes.specs.declared.unserved.Unserved.TheVariants.{BadRequest}
use Rattle.api_requests.specs.Objects.{adopted, applied, adopt_of, apply_of}
use Rattle.api_requests.specs.Tasks.{by_asked, create_from, from_body, if_asked, status_from, task_of, update_from}
use Rattle.api_requests.specs.declared.task.Task.{Task}
use Rattle.api_requests.specs.declared.task.Task.TheVariants.{Run, Show, List as Listing, History}
use Rattle.api_server.specs.Served.{HasAttempts}

abbrev Has : Result Task Unserved → Type 0
Has (Ok task) = HasAttempts task
Has (Err why) = Unit {0}

applied_has : (mode : Mode) (r : Result Object FieldError) → 0 < attempts_of (applied mode r)
applied_has mode (Ok object) = omega arith
applied_has mode (Err e) = omega arith

adopted_has : (claim : Key) (r : Result ClaimStatus FieldError) → 0 < attempts_of (adopted claim r)
adopted_has claim (Ok status) = omega arith
adopted_has claim (Err e) = omega arith

if_has : (b : Bool) (c : Command) → 0 < attempts_of c → Has (cond b (Err BadRequest) (Ok (Run c)))
if_has true c some = tt
if_has false c some = some

from_has : (f : Data → Result Task Unserved) (d : Option Data) → ((x : Data) → Has (f x)) → Has (from_body f d)
from_has f None each = tt
from_has f (Some d) each = each d

asked_has : (attempts : ℕ) (body : List ℕ) (a : Asked) → 0 < attempts → Has (by_asked attempts body a)
asked_has attempts body (asked.List kind namespace) some = tt
asked_has attempts body (asked.Create kind namespace) some = from_has (create_from kind namespace) (json_of body) (λ d. if_has _ _ (applied_has _ _))
asked_has attempts body (asked.Read kind key) some = tt
asked_has attempts body (asked.Update kind key) some = from_has (update_from kind key) (json_of body) (λ d. if_has _ _ (applied_has _ _))
asked_has attempts body (asked.Delete kind key) some = omega arith
asked_has attempts body (asked.Adopt claim) some = from_has (status_from claim) (json_of body) (λ d. if_has _ _ (adopted_has _ _))
asked_has attempts body (asked.Schedule pod) some = some
asked_has attempts body (asked.Release pod) some = omega arith
asked_has attempts body asked.History some = tt

by_has : (attempts : ℕ) (body : List ℕ) (a : Result Asked Unserved) → 0 < attempts → Has (if_asked attempts body a)
by_has attempts body (Ok a) some = asked_has attempts body a some
by_has attempts body (Err why) some = tt

pub task_has : (attempts : ℕ) (method target body : List ℕ) (task : Task) → 0 < attempts → task_of attempts method target body ≡ Ok task → HasAttempts task
unfolding task_of
task_has attempts method target body task some is = subst Has is (by_has attempts body (asked_of method target) some)

-- what is asked, by equal parts of the request
pub asked_is : (attempts : ℕ) (a : Result Task Unserved) (m n t u b d : List ℕ) → a ≡ task_of attempts n u d → n ≡ m → u ≡ t → d ≡ b → a ≡ task_of attempts m t b
asked_is attempts a m n t u b d is same_method same_target same_body =
    is ∙ ap (λ (x : List ℕ). task_of attempts x u d) same_method ∙ ap (λ (x : List ℕ). task_of attempts m x d) same_target ∙ ap (task_of attempts m t) same_body
