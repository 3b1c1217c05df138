-- The text of a history.
use Rattle.std.specs.Prelude.{ℕ, ◌+◌, ◌==◌, nat_lt, Bool, true, false, ◌||◌, if◌then◌else◌, List, [], ◌∷◌, ◌++◌, Option, None, Some, is_some, map, codes, count_by, decimal, length}
use Rattle.std.specs.List.{join_by}
use Rattle.object_fields.specs.declared.key.Key.{Key}
use Rattle.object_fields.specs.Keys.{key_text, device_text}
use Rattle.object_fields.specs.Words.{kind_word, path_text}
use Rattle.cluster.specs.declared.object.Object.{Object}
use Rattle.cluster.specs.declared.object.Object.TheVariants as object
use Rattle.cluster.specs.declared.object.Target.{Target}
use Rattle.cluster.specs.declared.object.Target.TheVariants as target
use Rattle.cluster.specs.declared.plan.Cause.{Cause}
use Rattle.cluster.specs.declared.plan.Cause.TheVariants.{Unsat, Fault, Budget, Other}
use Rattle.cluster.specs.declared.plan.SelectorFault.{SelectorFault}
use Rattle.cel_value.specs.declared.error.EvalError.{EvalError}
use Rattle.cel_value.specs.declared.error.EvalError.TheVariants.{NoKey, NoOverload, Overflow, DivByZero, OutOfRange, BadConversion, Memory}
use Rattle.pool_view.specs.declared.verdict.Cause as matched
use Rattle.pool_view.specs.declared.verdict.Cause.TheVariants as why
use Rattle.cluster.specs.VerdictGiven.{has_budget, has_fault}
use Rattle.cluster.specs.declared.plan.DeviceResult.{DeviceResult}
use Rattle.cluster.specs.declared.plan.Grant.{Grant}
use Rattle.cluster.specs.declared.plan.Passed.{Passed}
use Rattle.cluster.specs.declared.plan.Plan.{Plan}
use Rattle.cluster.specs.declared.plan.Reason.{Reason}
use Rattle.cluster.specs.declared.plan.Reason.TheVariants as reason
use Rattle.cluster.specs.declared.plan.Verdict.{Verdict}
use Rattle.pool_view.specs.Inventory.{devices_most}
use Rattle.cluster.specs.declared.state.State.{State}
use Rattle.cluster.specs.declared.state.Phase.{Phase}
use Rattle.cluster.specs.declared.state.Phase.TheVariants as phase
use Rattle.cluster.specs.declared.entry.Command.{Command}
use Rattle.cluster.specs.declared.entry.Command.TheVariants.{Adopt, Apply, Delete, Invalid, Release, Schedule}
use Rattle.cluster.specs.declared.entry.Refusal.{Refusal}
use Rattle.cluster.specs.declared.entry.Refusal.TheVariants as refusal
use Rattle.cluster.specs.declared.entry.Entry.{Entry}
use Rattle.cluster.specs.declared.entry.Event.{Event}
use Rattle.cluster.specs.declared.entry.Event.TheVariants.{Applied, Deleted, Reserved, Refused, Wrote, Conflict, Unreserved, Bound, VerdictGiven, Contended, Released, Adopted, Denied}
use Rattle.cluster.specs.declared.failure.Failure.{Failure}
use Rattle.cluster.specs.declared.failure.Failure.TheVariants as failure
use Rattle.cluster.specs.declared.failure.Shortfall.{Shortfall}
use Rattle.cluster.specs.Adopted.{result_of}
use Rattle.quantity.specs.Printed.{magnitude_text}
use Rattle.api_claim.specs.declared.types.ClaimStatus.{ClaimStatus}
use Rattle.api_claim.specs.declared.types.StatusResult.{StatusResult}
use Rattle.cluster.specs.History.{state_of}

-- an object's kind and name
abbrev pub object_text : Object → List ℕ
object_text (object.Node x) = codes "Node " ++ x.name
object_text (object.Slice x) = codes "ResourceSlice " ++ x.name
object_text (object.Class x) = codes "DeviceClass " ++ x.name
object_text (object.Claim x) = codes "ResourceClaim " ++ key_text x.key
object_text (object.Pod x) = codes "Pod " ++ key_text x.key

-- the kind and the name of an object
abbrev pub target_text : Target → List ℕ
target_text (target.Node name) = codes "Node " ++ name
target_text (target.Slice name) = codes "ResourceSlice " ++ name
target_text (target.Class name) = codes "DeviceClass " ++ name
target_text (target.Claim key) = codes "ResourceClaim " ++ key_text key
target_text (target.Pod key) = codes "Pod " ++ key_text key

-- a list: the texts of its items, joined by `,`, and `-` if there are none
abbrev pub listed : {T : Type 0} → (T → List ℕ) → List T → List ℕ
listed words [] = codes "-"
listed words (x ∷ xs) = join_by words (codes ",") (x ∷ xs)

-- why an expression has no value; an out-of-memory error appears in no entry
abbrev pub error_word : EvalError → List ℕ
error_word NoKey = codes "NoKey"
error_word NoOverload = codes "NoOverload"
error_word Overflow = codes "Overflow"
error_word DivByZero = codes "DivByZero"
error_word OutOfRange = codes "OutOfRange"
error_word BadConversion = codes "BadConversion"
error_word Memory = codes "Memory"

-- why a selector is neither true nor false
abbrev pub why_word : matched.Cause → List ℕ
why_word (why.Error e) = error_word e
why_word why.NotBool = codes "NotBool"

-- a selector's evaluation error: the claim, the request, the selector's index among the class's and then the
-- request's, the device, and why
abbrev pub fault_text : SelectorFault → List ℕ
fault_text f =
    codes "fault:" ++ key_text f.claim ++ codes ":" ++ f.request ++ codes ":" ++ decimal f.selector
    ++ codes ":" ++ device_text f.device ++ codes ":" ++ why_word f.cause

abbrev pub cause_text : Cause → List ℕ
cause_text Unsat = codes "unsat"
cause_text (Fault f) = fault_text f
cause_text (Budget steps) = codes "budget"
cause_text (Other claim) = codes "other:" ++ key_text claim

-- a node that wasn't taken, and why
abbrev pub passed_text : Passed → List ℕ
passed_text x = x.node ++ codes ":" ++ cause_text x.cause

abbrev pub admin_mark : Bool → List ℕ
admin_mark true = codes "!"
admin_mark false = []

-- a request's name and the device that was picked for it
abbrev pub result_text : DeviceResult → List ℕ
result_text x = x.name ++ codes "@" ++ device_text x.device ++ admin_mark x.admin

-- a result of a status write, likewise
abbrev pub status_result_text : StatusResult → List ℕ
status_result_text x = result_text (result_of x)

-- a claim and its results
abbrev pub grant_text : Grant → List ℕ
grant_text x = key_text x.claim ++ codes ":" ++ join_by result_text (codes "+") x.results

-- a pod and a plan for it
abbrev pub plan_text : Key → Plan → List ℕ
plan_text pod plan =
    key_text pod ++ codes " " ++ plan.node ++ codes " at=" ++ decimal plan.at
    ++ codes " passed=" ++ listed passed_text plan.passed
    ++ codes " grants=" ++ listed grant_text plan.grants
    ++ codes " joins=" ++ listed key_text plan.joins

-- what a counter has; nothing, if the device's slice has no such counter
abbrev pub value_text : Option ℕ → List ℕ
value_text None = codes "0"
value_text (Some n) = magnitude_text n

-- the counter set and the counter, what would be drawn, and what the counter has, which print like quantities
abbrev pub shortfall_text : Shortfall → List ℕ
shortfall_text x = codes "Counter:" ++ x.set ++ codes "/" ++ x.counter ++ codes ":" ++ magnitude_text x.drawn ++ codes ":" ++ value_text x.value

-- why a plan or a status write doesn't hold: its printed word, and what it names
abbrev pub failure_text : Failure → List ℕ
failure_text (failure.ClaimGone claim) = codes "ClaimGone:" ++ key_text claim
failure_text (failure.ClaimChanged key) = codes "ClaimChanged:" ++ key_text key
failure_text (failure.Users claim) = codes "Users:" ++ key_text claim
failure_text (failure.NodeGone node) = codes "NodeGone:" ++ node
failure_text (failure.DeviceGone device) = codes "DeviceGone:" ++ device_text device
failure_text (failure.Shape claim) = codes "Shape:" ++ key_text claim
failure_text (failure.SelectorNo device) = codes "SelectorNo:" ++ device_text device
failure_text (failure.SelectorFault device) = codes "SelectorFault:" ++ device_text device
failure_text (failure.Tainted device) = codes "Tainted:" ++ device_text device
failure_text (failure.Held device claim) = codes "Held:" ++ device_text device ++ codes ":" ++ key_text claim
failure_text (failure.Counter x) = shortfall_text x
failure_text (failure.Constraint claim index) = codes "Constraint:" ++ key_text claim ++ codes ":" ++ decimal index

-- a claim, a node, and results
abbrev pub adopted_line : Key → List ℕ → List ℕ → List ℕ
adopted_line claim node results =
    codes "adopted " ++ key_text claim ++ codes " " ++ node ++ codes " grants=" ++ key_text claim ++ codes ":" ++ results

-- the node and the results of a status write
abbrev pub adopted_text : Key → ClaimStatus → List ℕ
adopted_text claim status = adopted_line claim status.node (join_by status_result_text (codes "+") status.results)

-- `fault` if one node has an evaluation error, else `budget` if the search of one ended with its budget
abbrev pub nodes_word : List Passed → List ℕ
nodes_word nodes = if has_fault nodes then codes "fault" else if has_budget nodes then codes "budget" else codes "unsatisfiable"

abbrev pub verdict_word : Reason → List ℕ
verdict_word (reason.Missing claim) = codes "missing"
verdict_word (reason.Users claim) = codes "users"
verdict_word (reason.Nodes nodes) = nodes_word nodes

-- the claim, or each node with its cause
abbrev pub reason_text : Reason → List ℕ
reason_text (reason.Missing claim) = codes "claim=" ++ key_text claim
reason_text (reason.Users claim) = codes "claim=" ++ key_text claim
reason_text (reason.Nodes nodes) = codes "nodes=" ++ listed passed_text nodes

abbrev pub verdict_text : Key → Verdict → List ℕ
verdict_text pod verdict =
    codes "verdict " ++ key_text pod ++ codes " " ++ verdict_word verdict.reason ++ codes " at=" ++ decimal verdict.at
    ++ codes " " ++ reason_text verdict.reason

abbrev pub is_unbound : Refusal → Bool
is_unbound refusal.Invalid = false
is_unbound refusal.NotFound = false
is_unbound refusal.Exists = false
is_unbound (refusal.Conflict had now) = false
is_unbound refusal.Immutable = false
is_unbound refusal.InUse = false
is_unbound refusal.Devices = false
is_unbound (refusal.Busy job) = false
is_unbound (refusal.Bound node) = false
is_unbound refusal.NotBound = true
is_unbound (refusal.Failure why) = false

-- a refusal of a command on the object of this kind and name: its printed word and the object, of a conflict
-- both versions, of too many devices how many all slices may have, and of a pod that isn't Idle the job that
-- has taken it or its node
abbrev pub refusal_text : List ℕ → Refusal → List ℕ
refusal_text name refusal.Invalid = codes "denied Invalid " ++ name
refusal_text name refusal.NotFound = codes "denied NotFound " ++ name
refusal_text name refusal.Exists = codes "denied Exists " ++ name
refusal_text name (refusal.Conflict had now) = codes "denied Conflict had=" ++ decimal had ++ codes " now=" ++ decimal now
refusal_text name refusal.Immutable = codes "denied Immutable " ++ name
refusal_text name refusal.InUse = codes "denied InUse " ++ name
refusal_text name refusal.Devices = codes "denied Devices " ++ decimal devices_most
refusal_text name (refusal.Busy job) = codes "denied Busy " ++ decimal job
refusal_text name (refusal.Bound node) = codes "denied Bound " ++ node
refusal_text name refusal.NotBound = codes "denied NotBound " ++ name
refusal_text name (refusal.Failure why) = codes "denied Failure " ++ failure_text why

-- a refusal of a release, which names a pod that isn't bound without its kind
abbrev pub release_text : Key → Refusal → List ℕ
release_text pod refused = if is_unbound refused then refusal_text (key_text pod) refused else refusal_text (target_text (target.Pod pod)) refused

-- a refusal; of a document with an error the printed word of the error and its path
abbrev pub denial_text : Command → Refusal → List ℕ
denial_text (Invalid error) refused = codes "denied Invalid " ++ kind_word error.kind ++ codes " " ++ path_text error.path
denial_text (Apply object mode) refused = refusal_text (object_text object) refused
denial_text (Delete target) refused = refusal_text (target_text target) refused
denial_text (Schedule pod) refused = refusal_text (target_text (target.Pod pod)) refused
denial_text (Release pod) refused = release_text pod refused
denial_text (Adopt claim status) refused = refusal_text (target_text (target.Claim claim)) refused

-- the text of a line after its place and job
abbrev pub event_text : Event → List ℕ
event_text (Applied object mode) = codes "applied " ++ object_text object
event_text (Deleted target) = codes "deleted " ++ target_text target
event_text (Reserved pod plan) = codes "reserved " ++ plan_text pod plan
event_text (Refused pod plan why) = codes "refused " ++ plan_text pod plan ++ codes " why=" ++ failure_text why
event_text (Wrote pod claim seen) = codes "wrote " ++ key_text pod ++ codes " " ++ key_text claim ++ codes " seen=" ++ decimal seen
event_text (Conflict pod claim had now) = codes "conflict " ++ key_text pod ++ codes " " ++ key_text claim ++ codes " had=" ++ decimal had ++ codes " now=" ++ decimal now
event_text (Unreserved pod) = codes "unreserved " ++ key_text pod
event_text (Bound pod node) = codes "bound " ++ key_text pod ++ codes " " ++ node
event_text (VerdictGiven pod verdict) = verdict_text pod verdict
event_text (Contended pod attempts) = codes "contended " ++ key_text pod ++ codes " attempts=" ++ decimal attempts
event_text (Released pod) = codes "released " ++ key_text pod
event_text (Adopted claim status) = adopted_text claim status
event_text (Denied command refused) = denial_text command refused

-- `?` for a byte below 0x20 and for 0x7f
abbrev pub clean : ℕ → ℕ
clean b = if nat_lt b 32 || (b == 127) then 63 else b

-- an entry's line: its place, its job, its kind and the rest, without control characters, and LF
unfoldable pub line_of : ℕ → Entry → List ℕ
line_of place e = map clean (decimal place ++ codes " " ++ decimal e.job ++ codes " " ++ event_text e.event) ++ codes "\n"

-- A line of the kubelet: `-` in place of an index, the number of the command, and a text without control characters, and
-- LF. It is of no entry.
unfoldable pub kubelet_line : ℕ → List ℕ → List ℕ
kubelet_line job text = map clean (codes "- " ++ decimal job ++ codes " " ++ text) ++ codes "\n"

-- the lines of entries that follow n others
unfoldable pub lines_from : ℕ → List Entry → List ℕ
lines_from n [] = []
lines_from n (e ∷ es) = line_of (n + 1) e ++ lines_from (n + 1) es

-- how many claims have a grant
abbrev pub granted_count : State → ℕ
granted_count s = count_by (λ e. is_some e.1.grant) s.claims

abbrev pub is_bound : Phase → Bool
is_bound phase.Idle = false
is_bound (phase.Taken job node) = false
is_bound (phase.Bound node) = true

-- how many pods are bound
abbrev pub bound_count : State → ℕ
bound_count s = count_by (λ e. is_bound e.1.phase) s.pods

-- the last line, after a number of entries that left a state and that a number of commands made
unfoldable pub summary_by : ℕ → State → ℕ → List ℕ
summary_by entries s commands =
    codes "summary entries=" ++ decimal entries ++ codes " commands=" ++ decimal commands
    ++ codes " granted=" ++ decimal (granted_count s) ++ codes " bound=" ++ decimal (bound_count s) ++ codes "\n"

-- the last line, after a history that a number of commands made
abbrev pub summary_of : List Entry → ℕ → List ℕ
summary_of history commands = summary_by (length history) (state_of history) commands

-- the whole text of a history
unfoldable pub text_of : List Entry → ℕ → List ℕ
text_of history commands = lines_from 0 history ++ summary_of history commands
