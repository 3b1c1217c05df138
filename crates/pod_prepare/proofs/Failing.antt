-- How many calls of the driver fail in the preparation of one claim, and in giving it up.
use Rattle.std.proofs.Common.{ℕ, ◌+◌, ◌≤◌, ◌≡◌, Bool, true, false, List, [], ◌∷◌, refl, arith, if◌then◌else◌}
use Rattle.std.specs.Prelude.{Option, None, Some, Ok, Err, is_none, ◌&&◌}
use Rattle.object_fields.specs.declared.key.Key.{Key}
use Rattle.ckpt_journal.specs.Plan.{is_full}
use Rattle.ckpt_journal.specs.Table.{row_after}
use Rattle.ckpt_journal.specs.declared.record.Claim.{Claim}
use Rattle.ckpt_journal.specs.declared.record.Record.{Record}
use Rattle.ckpt_journal.specs.declared.record.Record.TheVariants as item
use Rattle.ckpt_journal.specs.declared.record.Row.{Row}
use Rattle.prepare_core.specs.Calls.{call}
use Rattle.prepare_core.specs.Names.{names_of}
use Rattle.prepare_core.specs.Prepare.{ask_run, begun_claim, prepare_run, refusal, run_by_way, unless_refused, way_by_row}
use Rattle.prepare_core.specs.Runs.{Run, asking, done, is_crowded, recording, refused}
use Rattle.prepare_core.specs.Table.{row_of}
use Rattle.prepare_core.specs.Unprepare.{back_by_row, back_run, leave_run, unprepare_run}
use Rattle.prepare_core.specs.declared.claim.ClaimForNode.{ClaimForNode}
use Rattle.prepare_core.specs.declared.driver.CallKind.{CallKind}
use Rattle.prepare_core.specs.declared.driver.CallKind.TheVariants as kinds
use Rattle.prepare_core.specs.declared.error.KubeletError.{KubeletError}
use Rattle.prepare_core.specs.declared.error.KubeletError.TheVariants.{Closed, Full}
use Rattle.prepare_core.specs.declared.way.Way.{Way}
use Rattle.prepare_core.specs.declared.way.Way.TheVariants.{Answer, Share, Ask}
use Rattle.prepare_core.specs.declared.way.WayBack.{WayBack}
use Rattle.prepare_core.specs.declared.way.WayBack.TheVariants.{Keep, Leave}
use Rattle.pod_prepare.specs.Commands.{failed}

-- no call fails if the driver returns Ok, and one at most if it doesn't
abbrev pub most : Bool → ℕ
most true = 0
most false = 1

abbrev pub FailsAtMost : {A : Type 0} → Bool → Run A → Type 0
FailsAtMost ok run = failed run.calls ≤ most ok

either : {A : Type 0} (b ok : Bool) (x y : Run A) → FailsAtMost ok x → FailsAtMost ok y → FailsAtMost ok (if b then x else y)
either true ok x y p q = p
either false ok x y p q = q

asked_few : {A : Type 0} (kind : CallKind) (c : ClaimForNode) (ok : Bool) (rows : List Row) (next : Run A) → failed next.calls ≤ 0 → FailsAtMost ok (asking (call kind c ok) rows next)
asked_few kind c true rows next few = few
asked_few kind c false rows next few = omega arith

none_few : (ok : Bool) → 0 ≤ most ok
none_few ok = omega arith

records_few : {A : Type 0} (half : ℕ) (rows : List Row) (i : Record) (x : A) → failed (recording half rows i (done x)).calls ≤ 0
records_few half rows i x = either (is_full half rows i) true (refused Full rows) (done x (row_after rows i)) (omega arith) (omega arith)

ask_few : (half : ℕ) (c : ClaimForNode) (k : Claim) (rows : List Row) (ok : Bool) → FailsAtMost ok (ask_run half c k rows ok)
ask_few half c k rows ok =
    let begun = row_after rows (item.Begun k) in
    let last = recording half begun (item.Prepared k) (done (names_of k)) in
    either (is_none (row_of c.uid rows) && is_crowded rows) ok (refused Full rows) (recording half rows (item.Begun k) (λ begun. asking (call kinds.Prepare c ok) begun (recording half begun (item.Prepared k) (done (names_of k))))) (none_few ok)
    (either (is_full half rows (item.Begun k)) ok (refused Full rows) (asking (call kinds.Prepare c ok) begun last) (none_few ok) (asked_few kinds.Prepare c ok begun last (records_few half begun (item.Prepared k) (names_of k))))

way_few : (half : ℕ) (c : ClaimForNode) (k : Claim) (rows : List Row) (ok : Bool) (w : Way) → FailsAtMost ok (run_by_way half c k rows ok w)
way_few half c k rows ok (Answer names) = none_few ok
way_few half c k rows ok (Share shared) = let few = records_few half rows (item.Prepared shared) (names_of shared) in omega (arith, few)
way_few half c k rows ok Ask = ask_few half c k rows ok

unless_few : {A : Type 0} (why : Option KubeletError) (rows : List Row) (ok : Bool) (run : Run A) → FailsAtMost ok run → FailsAtMost ok (unless_refused why rows run)
unless_few None rows ok run few = few
unless_few (Some e) rows ok run few = none_few ok

pub prepare_few : (half : ℕ) (ended : Bool) (node : List ℕ) (rows : List Row) (pod : Key) (c : ClaimForNode) (ok : Bool) → FailsAtMost ok (prepare_run half ended node rows pod c ok)
prepare_few half ended node rows pod c ok =
    unless_few (refusal ended node pod c) rows ok (run_by_way half c (begun_claim pod c rows) rows ok (way_by_row pod (row_of c.uid rows)))
    (way_few half c (begun_claim pod c rows) rows ok (way_by_row pod (row_of c.uid rows)))

leave_few : (half : ℕ) (uid : List ℕ) (rows : List Row) (k : ClaimForNode) (ok : Bool) → FailsAtMost ok (leave_run half uid rows k ok)
leave_few half uid rows k ok =
    let leaving = row_after rows (item.Leaving uid) in
    let last = recording half leaving (item.Gone uid) (done (tt {0})) in
    either (is_full half rows (item.Leaving uid)) ok (refused Full rows) (asking (call kinds.Unprepare k ok) leaving last) (none_few ok) (asked_few kinds.Unprepare k ok leaving last (records_few half leaving (item.Gone uid) (tt {0})))

back_few : (half : ℕ) (uid : List ℕ) (rows : List Row) (ok : Bool) (w : Option WayBack) → FailsAtMost ok (back_run half uid rows ok w)
back_few half uid rows ok None = none_few ok
back_few half uid rows ok (Some (Keep kept)) = let few = records_few half rows kept (tt {0}) in omega (arith, few)
back_few half uid rows ok (Some (Leave k)) = leave_few half uid rows k ok

pub unprepare_few : (half : ℕ) (ended : Bool) (node : List ℕ) (rows : List Row) (pod : Key) (uid : List ℕ) (ok : Bool) → FailsAtMost ok (unprepare_run half ended node rows pod uid ok)
unprepare_few half true node rows pod uid ok = none_few ok
unprepare_few half false node rows pod uid ok = back_few half uid rows ok (back_by_row node pod (row_of uid rows))
