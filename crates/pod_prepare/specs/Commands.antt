-- What the commands of the kubelet do: over the claims of a pod in order, up to the first that is refused.
use Rattle.std.specs.Prelude.{ℕ, ◌≡◌, ◌+◌, ◌-◌, ◌^◌, ◌≤◌, min, Bool, true, false, List, [], ◌∷◌, ◌++◌, codes, is_ok, Option, None, Some, Result, if◌then◌else◌}
use Rattle.std.specs.Option.{option_map}
use Rattle.object_fields.specs.declared.key.Key.{Key}
use Rattle.pool_view.specs.Names.{at_key}
use Rattle.cluster.specs.State.{claims_of}
use Rattle.cluster.specs.declared.state.ClaimState.{ClaimState}
use Rattle.cluster.specs.declared.state.PodState.{PodState}
use Rattle.cluster.specs.declared.state.State.{State}
use Rattle.journal_text.specs.Journal.{kubelet_line}
use Rattle.ckpt_journal.specs.declared.record.Row.{Row}
use Rattle.prepare_core.specs.Prepare.{prepare_run}
use Rattle.prepare_core.specs.Runs.{Run, refused}
use Rattle.prepare_core.specs.Unprepare.{unprepare_run}
use Rattle.prepare_core.specs.declared.driver.DriverCall.{DriverCall}
use Rattle.prepare_core.specs.declared.error.KubeletError.{KubeletError}
use Rattle.prepare_core.specs.declared.error.KubeletError.TheVariants.{NotAllocated, NotPrepared}
use Rattle.pod_prepare.specs.ForNode.{for_node}
use Rattle.pod_prepare.specs.Texts.{absent_text, prepared_text, unprepared_text}
use Rattle.pod_prepare.specs.Opening.{HasOpened, Table}
use Rattle.dra_ports.specs.DiskContent.{Content}
use Rattle.api_print.specs.Metadata.{uid_text}

-- ---- one claim

-- what one claim comes to: its line, the table after it, the calls that the driver got, and whether the command goes on
pub record Turn : Type 0 where
  pub text : List ℕ
  pub rows : List Row
  pub calls : List DriverCall
  pub goes : Bool

-- how the number of the command, the pod and the claim, and what the kubelet made of it, are told
abbrev pub turn_of : {A : Type 0} → ℕ → (Result A KubeletError → List ℕ) → Run A → Turn
turn_of job words run = record { text = kubelet_line job (words run.result); rows = run.rows; calls = run.calls; goes = is_ok run.result }

-- what is made of a claim to prepare it, if the driver returns Ok or fails; one that isn't there is refused
abbrev pub prepare_by : ℕ → List ℕ → List Row → Key → Key → Bool → Option ClaimState → Run (List (List ℕ))
prepare_by half node rows pod k ok None = refused NotAllocated rows
prepare_by half node rows pod k ok (Some c) = prepare_run half false node rows pod (for_node k c) ok

-- what is made of it to give it up
abbrev pub unprepare_by : ℕ → List ℕ → List Row → Key → Bool → Option ClaimState → Run (Unit {0})
unprepare_by half node rows pod ok None = refused NotPrepared rows
unprepare_by half node rows pod ok (Some c) = unprepare_run half false node rows pod (uid_text c.claim.uid) ok

-- the size of a half of the kubelet's checkpoint, its node, the state of the cluster, and the number of a command
pub record Asked : Type 0 where
  pub half : ℕ
  pub node : List ℕ
  pub state : State
  pub job : ℕ

abbrev pub prepare_turn : Asked → Key → List Row → Key → Bool → Turn
prepare_turn x pod rows k ok = turn_of x.job (prepared_text pod k) (prepare_by x.half x.node rows pod k ok (at_key x.state.claims k))

abbrev pub unprepare_turn : Asked → Key → List Row → Key → Bool → Turn
unprepare_turn x pod rows k ok = turn_of x.job (unprepared_text pod k) (unprepare_by x.half x.node rows pod ok (at_key x.state.claims k))

-- ---- a command

-- what a command comes to: what it prints, the table after it, and the calls that the driver got
pub record Done : Type 0 where
  pub text : List ℕ
  pub rows : List Row
  pub calls : List DriverCall

abbrev pub nothing : List Row → Done
nothing rows = record { text = []; rows = rows; calls = [] }

-- a claim, and no more
abbrev pub only : Turn → Done
only t = record { text = t.text; rows = t.rows; calls = t.calls }

-- a claim, and what the later ones come to
abbrev pub before : Turn → Done → Done
before t rest = record { text = t.text ++ rest.text; rows = rest.rows; calls = t.calls ++ rest.calls }

-- the command ends with a refusal, and else goes on
abbrev pub Next : Bool → Turn → (List Row → Done → Type 0) → Done → Type 0
Next true t later done = (rest : Done) × later t.rows rest × (done ≡ before t rest)
Next false t later done = done ≡ only t

-- Claims are taken in order, up to the first that is refused. Whatever the driver returns, it is asked where the rule asks
-- it, and its calls are these.
unfoldable pub Does : (List Row → Key → Bool → Turn) → List Key → List Row → Done → Type 0
Does turn [] rows done = done ≡ nothing rows
Does turn (k ∷ ks) rows done = (ok : Bool) × Next (turn rows k ok).goes (turn rows k ok) (Does turn ks) done

-- over the claims of a pod that is there, each at its first index
abbrev pub OfPod : ℕ → List ℕ → Key → (List Row → Key → Bool → Turn) → Option PodState → List Row → Done → Type 0
OfPod job word pod turn None rows done = done ≡ record { text = kubelet_line job (absent_text word pod); rows = rows; calls = [] }
OfPod job word pod turn (Some p) rows done = Does turn (claims_of p) rows done

-- the claims of a pod are prepared
abbrev pub Prepares : Asked → Key → List Row → Done → Type 0
Prepares x pod rows done = OfPod x.job (codes "prepare-refused") pod (prepare_turn x pod) (at_key x.state.pods pod) rows done

-- they are given up
abbrev pub Unprepares : Asked → Key → List Row → Done → Type 0
Unprepares x pod rows done = OfPod x.job (codes "unprepare-refused") pod (unprepare_turn x pod) (at_key x.state.pods pod) rows done

-- ---- what a call comes to

-- how many calls failed
abbrev pub failed : List DriverCall → ℕ
failed [] = 0
failed (c ∷ calls) = if c.ok then failed calls else 1 + failed calls

-- a count of errors rose by at least so many, or is at its last value
abbrev pub RoseBy : ℕ → ℕ → ℕ → Type 0
RoseBy n old new = min (old + n) (2 ^ 64 - 1) ≤ new

-- some more calls of the driver, whose count of errors doesn't fall
pub record AskedMore (calls_old calls_new : Option (List DriverCall)) (faults_old faults_new : ℕ) : Type 0 where
  pub more : List DriverCall
  pub are : calls_new ≡ option_map (λ calls. calls ++ more) calls_old
  pub counted : RoseBy 0 faults_old faults_new

-- one claim came to a turn, whatever the driver returned
pub record IsTurn (turn : Bool → Turn) (rows : List Row) (text : List ℕ) (goes : Bool) (calls_old calls_new : Option (List DriverCall)) (faults_old faults_new : ℕ) : Type 0 where
  pub ok : Bool
  pub table : rows ≡ (turn ok).rows
  pub printed : text ≡ (turn ok).text
  pub on : goes ≡ (turn ok).goes
  pub asked : calls_new ≡ option_map (λ calls. calls ++ (turn ok).calls) calls_old
  pub counted : RoseBy (failed (turn ok).calls) faults_old faults_new

-- a command over the claims of a pod was done, with this text, this table after it, and these calls of the driver
pub record Did (so : List Row → Done → Type 0) (old new : List Row) (text : List ℕ) (calls_old calls_new : Option (List DriverCall)) (faults_old faults_new : ℕ) : Type 0 where
  pub done : Done
  pub does : so old done
  pub table : new ≡ done.rows
  pub printed : text ≡ done.text
  pub asked : calls_new ≡ option_map (λ calls. calls ++ done.calls) calls_old
  -- each call that failed is counted
  pub counted : RoseBy (failed done.calls) faults_old faults_new

abbrev pub asked_of : ℕ → List ℕ → State → ℕ → Asked
asked_of half node s job = record { half = half; node = node; state = s; job = job }

-- the same of a kubelet of this node that is opened at its first command
pub record DidFrom (command : Asked → Key → List Row → Done → Type 0) (node : List ℕ) (s : State) (job : ℕ) (pod : Key) (old : Option Table) (found : Option Content) (new : Option Table) (text : List ℕ)
    (calls_old calls_new : Option (List DriverCall)) (faults_old faults_new : ℕ) : Type 0 where
  pub start : Table
  pub opened : HasOpened old found start
  pub rows : List Row
  pub table : new ≡ Some (record { half = start.half; rows = rows })
  pub did : Did (command (asked_of start.half node s job) pod) start.rows rows text calls_old calls_new faults_old faults_new
