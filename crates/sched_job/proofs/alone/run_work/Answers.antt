use Rattle.std.proofs.Common.{◌≡◌, ◌∙◌, ℕ, [], ◌∷◌, length, refl, sym, ap, subst, append-nil, false, arith}
use Rattle.cluster.specs.History.{job_state_of}
use Rattle.histories.specs.JobRuns.{JobBegun, Run, is_ended}
use Rattle.sched_job.specs.Steps.{Extends, run_of}
use Rattle.sched_job.proofs.Stepping.{running_new}
use Rattle.sched_job.specs.Moves.{move_of}
use Rattle.sched_job.proofs.Ending.{extends_join, moved_length, on_err, open_by}
use Rattle.sched_job.proofs.alone.run_work.Goals as goal

pub turns-init : goal.turns-init
turns-init g c =
    let most = c.turns_are_few.ensures.first c.args.ledger.now.entries c.args.work.now c.requires.fresh c.requires.ready in (
      running_new c.args.budget c.args.ledger.now.entries c.args.work.now c.requires.fresh c.requires.ready c.requires.attempts,
      record { added = []; now = sym (append-nil c.args.ledger.now.entries); of_jobs = tt },
      c.len-len.ensures.legal,
      refl,
      omega arith,
    )

pub turns-smaller : goal.turns-smaller
turns-smaller g c =
    let run : Run = run_of (length c.args.ledger.now.entries) c.args.budget c.args.work.now in
    let open_yet : is_ended (job_state_of c.turns.ledger.entries c.turns.work.job) ≡ false = ap is_ended (sym c.job_state.ensures) ∙ open_by c.job_state.result c.in_default.not-Ended in
    c.turns_are_few.ensures.fewer c.args.budget run c.turns.ledger c.go.new.ledger c.turns.work c.go.new.work c.turns.invariant.2 c.go.ensures.legal c.turns.invariant.0 open_yet (c.in_ok-go.ensures.went.turned open_yet).0

pub turns-preserved : goal.turns-preserved
turns-preserved g c =
    let run : Run = run_of (length c.args.ledger.now.entries) c.args.budget c.args.work.now in
    let open_yet : is_ended (job_state_of c.turns.ledger.entries c.turns.work.job) ≡ false = ap is_ended (sym c.job_state.ensures) ∙ open_by c.job_state.result c.in_default.not-Ended in
    let one = (c.in_ok-go.ensures.went.turned open_yet).0 in
    let less = c.turns_are_few.ensures.fewer c.args.budget run c.turns.ledger c.go.new.ledger c.turns.work c.go.new.work c.turns.invariant.2 c.go.ensures.legal c.turns.invariant.0 open_yet one in
    let longer = moved_length c.turns.ledger c.go.new.ledger c.turns.work.job (move_of c.turns.ledger.entries c.turns.work) one.moves in
    let before = c.turns.invariant.4 in (
      c.go.ensures.running run refl c.turns.invariant.0,
      extends_join (c.args.work.now.job ∷ []) c.args.ledger.now.entries c.turns.ledger.entries c.go.new.ledger.entries c.turns.invariant.1 (subst (λ (n : ℕ). Extends (n ∷ []) c.turns.ledger.entries c.go.new.ledger.entries) c.turns.invariant.0.job c.go.ensures.extends),
      c.go.ensures.legal,
      c.go.ensures.limit ∙ c.turns.invariant.3,
      omega arith,
    )

pub returns-in_err-go-clause-extends : goal.returns-in_err-go-clause-extends
returns-in_err-go-clause-extends g c =
    extends_join (c.args.work.now.job ∷ []) c.args.ledger.now.entries c.turns.ledger.entries c.go.new.ledger.entries c.turns.invariant.1 (subst (λ (n : ℕ). Extends (n ∷ []) c.turns.ledger.entries c.go.new.ledger.entries) c.turns.invariant.0.job c.go.ensures.extends)

pub returns-in_err-go-clause-begun : goal.returns-in_err-go-clause-begun
returns-in_err-go-clause-begun g c =
    let run : Run = run_of (length c.args.ledger.now.entries) c.args.budget c.args.work.now in
    let begun : JobBegun run c.go.new.ledger.entries = record {
      kept = (c.go.ensures.running run refl c.turns.invariant.0).kept;
      open_yet = subst (λ (n : ℕ). is_ended (job_state_of c.go.new.ledger.entries n) ≡ false) c.turns.invariant.0.job c.in_err-go.ensures.begun;
    } in
    on_err c.from_residual.result begun

pub returns-in_err-go-clause-limit : goal.returns-in_err-go-clause-limit
returns-in_err-go-clause-limit g c = c.go.ensures.limit ∙ c.turns.invariant.3

pub returns-in_err-go-clause-undisturbed : goal.returns-in_err-go-clause-undisturbed
returns-in_err-go-clause-undisturbed g c =
    let run : Run = run_of (length c.args.ledger.now.entries) c.args.budget c.args.work.now in
    let ext : Extends (c.args.work.now.job ∷ []) c.args.ledger.now.entries c.go.new.ledger.entries =
    extends_join (c.args.work.now.job ∷ []) c.args.ledger.now.entries c.turns.ledger.entries c.go.new.ledger.entries c.turns.invariant.1 (subst (λ (n : ℕ). Extends (n ∷ []) c.turns.ledger.entries c.go.new.ledger.entries) c.turns.invariant.0.job c.go.ensures.extends) in
    c.alone_is_undisturbed.ensures.undisturbed run c.go.new.ledger.entries c.go.ensures.legal (c.go.ensures.running run refl c.turns.invariant.0).kept
    (c.alone_is_undisturbed.ensures.alone c.args.work.now.job c.args.ledger.now.entries c.go.new.ledger.entries ext)

pub returns-in-Ended-clause-undisturbed : goal.returns-in-Ended-clause-undisturbed
returns-in-Ended-clause-undisturbed g c =
    let run : Run = run_of (length c.args.ledger.now.entries) c.args.budget c.args.work.now in
    c.alone_is_undisturbed.ensures.undisturbed run c.turns.ledger.entries c.turns.invariant.2 c.turns.invariant.0.kept
    (c.alone_is_undisturbed.ensures.alone c.args.work.now.job c.args.ledger.now.entries c.turns.ledger.entries c.turns.invariant.1)

pub returns-in-Ended-clause-few : goal.returns-in-Ended-clause-few
returns-in-Ended-clause-few g c = let most = c.turns.invariant.4 in omega arith
