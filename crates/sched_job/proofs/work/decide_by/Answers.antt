use Rattle.std.proofs.Common.{ℕ, subst, sym}
use Rattle.allocations.specs.Lacking.{Dates}
use Rattle.cluster.specs.declared.state.State.{State}
use Rattle.node_memo.specs.Memo.{Tells}
use Rattle.sched_job.proofs.Knowing.{kept_true, told_now}
use Rattle.sched_job.proofs.work.decide_by.Goals as goal

pub decide_with-requires-clause-memo : goal.decide_with-requires-clause-memo
decide_with-requires-clause-memo g c =
    let seen = c.args.snapshot.now in
    let notes = c.args.notes.now in
    let of = c.requires.notes in
    let told = told_now of.history notes.dates seen notes.memo of.now of.those.dated of.those.known in
    subst (λ (n : ℕ). Tells c.state.result.now c.deref.result.now notes.memo n) (sym c.at.ensures)
    (subst (λ (s : State). Tells s c.deref.result.now notes.memo seen.at) (sym c.state.ensures)
    (subst (λ (d : Dates). Tells seen.state d notes.memo seen.at) (sym c.deref.ensures) told))

pub returns-clause-notes : goal.returns-clause-notes
returns-clause-notes g c = λ h now are.
    let seen = c.args.snapshot.now in
    let memo = c.decide_with.new.memo in
    let told = subst (λ (s : State). Tells s c.deref.result.now memo c.at.result) c.state.ensures c.decide_with.ensures.memo in
    let by_dates = subst (λ (d : Dates). Tells seen.state d memo c.at.result) c.deref.ensures told in
    record {
      dated = are.dated;
      known = kept_true h c.args.notes.now.dates seen memo now are.dated (subst (λ (n : ℕ). Tells seen.state c.args.notes.now.dates memo n) c.at.ensures by_dates);
    }
