use Rattle.std.proofs.Common.{inr, [], ◌∷◌}
use Rattle.ckpt_journal.specs.declared.record.Record.TheVariants as items
use Rattle.prepare_core.specs.Words.{rows_in}
use Rattle.prepare_core.proofs.Added.{kept_one, one_added}
use Rattle.prepare_core.proofs.state.Kubelet.take_back.Goals as goal

pub returns-in-Err-unprepare-clause-kept : goal.returns-in-Err-unprepare-clause-kept
returns-in-Err-unprepare-clause-kept g c =
    let uid = c.args.uid.now in
    inr (one_added (rows_in c.args.self.now) (items.Leaving uid) (items.Gone uid ∷ []) (rows_in c.record_leaving.new.self) c.in-Ok.ensures.rows)

pub returns-in-Err-record_gone-clause-kept : goal.returns-in-Err-record_gone-clause-kept
returns-in-Err-record_gone-clause-kept g c =
    let uid = c.args.uid.now in
    kept_one (rows_in c.args.self.now) (rows_in c.record_leaving.new.self) (items.Leaving uid) (items.Gone uid ∷ []) (rows_in c.record_gone.new.self)
    c.in-Ok.ensures.rows c.in-Err-record_gone.ensures.kept
