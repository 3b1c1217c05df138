-- What is answered, as JSON: objects, a Status (Status of the Kubernetes API reference), or the outcome of a
-- command on a pod, which is this project's own.
use Rattle.std.specs.Prelude.{ℕ, Bool, true, false, List, Option, Some, None, codes}
use Rattle.serde_json.specs.Data.{Data, number, unsigned, string, object, no_members, member}
use Rattle.serde_json.specs.Written.{compact_text}
use Rattle.cluster.specs.declared.entry.Entry.{Entry}
use Rattle.cluster.specs.declared.entry.Event.{Event}
use Rattle.cluster.specs.declared.entry.Event.TheVariants.{Applied, Deleted, Reserved, Refused, Wrote, Conflict, Unreserved, Bound, VerdictGiven, Contended, Released, Adopted, Denied}
use Rattle.cluster.specs.declared.entry.Mode.{Mode}
use Rattle.cluster.specs.declared.entry.Mode.TheVariants.{Create, Update, Apply}
use Rattle.cluster.specs.declared.entry.Refusal.{Refusal}
use Rattle.cluster.specs.declared.object.Object.{Object}
use Rattle.cluster.specs.declared.object.Object.TheVariants as object_is
use Rattle.cluster.specs.declared.object.Target.{Target}
use Rattle.cluster.specs.declared.object.Target.TheVariants as target
use Rattle.cluster.specs.declared.state.State.{State}
use Rattle.journal_text.specs.Journal.{lines_from}
use Rattle.api_print.specs.Objects.{json_of}
use Rattle.http_wire.specs.declared.reply.Reply.{Reply}
use Rattle.api_routes.specs.declared.unserved.Unserved.{Unserved}
use Rattle.api_replies.specs.declared.reason.Reason.{Reason}
use Rattle.api_replies.specs.declared.reason.Reason.TheVariants.{NotFound}
use Rattle.api_replies.specs.Messages.{absent_text, line_text, refusal_text}
use Rattle.api_replies.specs.Reasons.{code_of, refusal_reason, unserved_reason, word_of}

-- a reply: its status, whether its body is JSON or else plain text, and its body
pub record Answer : Type 0 where
  pub status : ℕ
  pub json : Bool
  pub body : List ℕ

abbrev pub answer_of : Reply → Answer
answer_of r = record { status = r.status; json = r.json; body = r.body.items }

abbrev pub json : ℕ → List ℕ → Answer
json status body = record { status = status; json = true; body = body }

-- ---- failures

abbrev pub failure_json : ℕ → List ℕ → List ℕ → Data
failure_json code message reason =
    object (member (codes "apiVersion") (string (codes "v1"))
    (member (codes "code") (number (unsigned code))
    (member (codes "kind") (string (codes "Status"))
    (member (codes "message") (string message)
    (member (codes "metadata") (object no_members)
    (member (codes "reason") (string reason)
    (member (codes "status") (string (codes "Failure")) no_members)))))))

unfoldable pub failure_body : Reason → List ℕ → List ℕ
failure_body reason message = compact_text (failure_json (code_of reason) message (word_of reason))

abbrev pub failure : Reason → List ℕ → Answer
failure reason message = json (code_of reason) (failure_body reason message)

-- a request that is refused before it is a command
abbrev pub refused : Unserved → Answer
refused why = failure (unserved_reason why) (word_of (unserved_reason why))

-- an object that doesn't exist
abbrev pub absent : Target → Answer
absent t = failure NotFound (absent_text t)

-- a command that is refused
abbrev pub denied : Event → Refusal → Answer
denied event refusal = failure (refusal_reason refusal) (refusal_text event)

-- ---- what was done

abbrev pub success_json : Data
success_json =
    object (member (codes "apiVersion") (string (codes "v1"))
    (member (codes "kind") (string (codes "Status"))
    (member (codes "metadata") (object no_members)
    (member (codes "status") (string (codes "Success")) no_members))))

unfoldable pub success_body : List ℕ
success_body = compact_text success_json

abbrev pub success : Answer
success = json 200 success_body

abbrev pub outcome_json : List ℕ → Data
outcome_json line =
    object (member (codes "apiVersion") (string (codes "dra.replay/v1"))
    (member (codes "end") (string line)
    (member (codes "kind") (string (codes "Outcome")) no_members)))

unfoldable pub outcome_body : List ℕ → List ℕ
outcome_body line = compact_text (outcome_json line)

-- a command on a pod that ended with this line
abbrev pub outcome : List ℕ → Answer
outcome line = json 200 (outcome_body line)

abbrev pub done : ℕ → Entry → Answer
done place e = outcome (line_text place e)

-- ---- objects

abbrev pub object_by : ℕ → Target → Option Data → Answer
object_by status t None = absent t
object_by status t (Some d) = json status (compact_text d)

-- an object of a state, or that it doesn't exist
abbrev pub object_answer : ℕ → State → Target → Answer
object_answer status s t = object_by status t (json_of s t)

abbrev pub target_for : Object → Target
target_for (object_is.Node x) = target.Node x.name
target_for (object_is.Slice x) = target.Slice x.name
target_for (object_is.Class x) = target.Class x.name
target_for (object_is.Claim x) = target.Claim x.key
target_for (object_is.Pod x) = target.Pod x.key

abbrev pub made_code : Mode → ℕ
made_code Create = 201
made_code Update = 200
made_code Apply = 200

-- ---- the last entry of a job

-- the object of a state that the answer shows, if it shows one and it exists
abbrev pub json_after : State → Event → Option Data
json_after s (Applied made mode) = json_of s (target_for made)
json_after s (Deleted t) = None
json_after s (Reserved pod plan) = None
json_after s (Refused pod plan why) = None
json_after s (Wrote pod claim seen) = None
json_after s (Conflict pod claim had now) = None
json_after s (Unreserved pod) = None
json_after s (Bound pod node) = None
json_after s (VerdictGiven pod verdict) = None
json_after s (Contended pod attempts) = None
json_after s (Released pod) = None
json_after s (Adopted claim status) = json_of s (target.Claim claim)
json_after s (Denied command refusal) = None

abbrev pub ended_by : State → ℕ → Entry → Event → Answer
ended_by s place e (Applied made mode) = object_answer (made_code mode) s (target_for made)
ended_by s place e (Deleted t) = success
ended_by s place e (Reserved pod plan) = done place e
ended_by s place e (Refused pod plan why) = done place e
ended_by s place e (Wrote pod claim seen) = done place e
ended_by s place e (Conflict pod claim had now) = done place e
ended_by s place e (Unreserved pod) = done place e
ended_by s place e (Bound pod node) = done place e
ended_by s place e (VerdictGiven pod verdict) = done place e
ended_by s place e (Contended pod attempts) = done place e
ended_by s place e (Released pod) = done place e
ended_by s place e (Adopted claim status) = object_answer 200 s (target.Claim claim)
ended_by s place e (Denied command refusal) = denied (Denied command refusal) refusal

-- the answer to a command whose job ended with this entry at this index, which left this state
abbrev pub ended : State → ℕ → Entry → Answer
ended s place e = ended_by s place e e.event

-- the same, by the object that it shows
abbrev pub ended_with : Option Data → ℕ → Entry → Event → Answer
ended_with shown place e (Applied made mode) = object_by (made_code mode) (target_for made) shown
ended_with shown place e (Deleted t) = success
ended_with shown place e (Reserved pod plan) = done place e
ended_with shown place e (Refused pod plan why) = done place e
ended_with shown place e (Wrote pod claim seen) = done place e
ended_with shown place e (Conflict pod claim had now) = done place e
ended_with shown place e (Unreserved pod) = done place e
ended_with shown place e (Bound pod node) = done place e
ended_with shown place e (VerdictGiven pod verdict) = done place e
ended_with shown place e (Contended pod attempts) = done place e
ended_with shown place e (Released pod) = done place e
ended_with shown place e (Adopted claim status) = object_by 200 (target.Claim claim) shown
ended_with shown place e (Denied command refusal) = denied (Denied command refusal) refusal

-- ---- the journal

abbrev pub journal : List Entry → Answer
journal h = record { status = 200; json = false; body = lines_from 0 h }
