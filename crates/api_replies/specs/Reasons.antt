-- The reasons of failures (Status of the Kubernetes API reference), with their HTTP statuses.
use Rattle.std.specs.Prelude.{ℕ, List, codes}
use Rattle.cluster.specs.declared.entry.Refusal.{Refusal}
use Rattle.cluster.specs.declared.entry.Refusal.TheVariants as refusal
use Rattle.api_routes.specs.declared.unserved.Unserved.{Unserved}
use Rattle.api_routes.specs.declared.unserved.Unserved.TheVariants as unserved
use Rattle.api_replies.specs.declared.reason.Reason.{Reason}
use Rattle.api_replies.specs.declared.reason.Reason.TheVariants.{BadRequest, NotFound, MethodNotAllowed, AlreadyExists, Conflict, LengthRequired, RequestEntityTooLarge, Invalid}

abbrev pub code_of : Reason → ℕ
code_of BadRequest = 400
code_of NotFound = 404
code_of MethodNotAllowed = 405
code_of AlreadyExists = 409
code_of Conflict = 409
code_of LengthRequired = 411
code_of RequestEntityTooLarge = 413
code_of Invalid = 422

abbrev pub word_of : Reason → List ℕ
word_of BadRequest = codes "BadRequest"
word_of NotFound = codes "NotFound"
word_of MethodNotAllowed = codes "MethodNotAllowed"
word_of AlreadyExists = codes "AlreadyExists"
word_of Conflict = codes "Conflict"
word_of LengthRequired = codes "LengthRequired"
word_of RequestEntityTooLarge = codes "RequestEntityTooLarge"
word_of Invalid = codes "Invalid"

abbrev pub unserved_reason : Unserved → Reason
unserved_reason unserved.BadRequest = BadRequest
unserved_reason unserved.NotFound = NotFound
unserved_reason unserved.MethodNotAllowed = MethodNotAllowed
unserved_reason unserved.LengthRequired = LengthRequired
unserved_reason unserved.RequestEntityTooLarge = RequestEntityTooLarge

abbrev pub refusal_reason : Refusal → Reason
refusal_reason refusal.Invalid = Invalid
refusal_reason refusal.NotFound = NotFound
refusal_reason refusal.Exists = AlreadyExists
refusal_reason (refusal.Conflict had now) = Conflict
refusal_reason refusal.Immutable = Invalid
refusal_reason refusal.InUse = Conflict
refusal_reason refusal.Devices = Invalid
refusal_reason (refusal.Busy job) = Conflict
refusal_reason (refusal.Bound node) = Conflict
refusal_reason refusal.NotBound = Conflict
refusal_reason (refusal.Failure why) = Invalid
