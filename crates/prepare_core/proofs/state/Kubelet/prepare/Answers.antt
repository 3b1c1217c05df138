use Rattle.std.proofs.Common.{◌∙◌, sym, refl}
use Rattle.ckpt_journal.specs.Table.{row_after}
use Rattle.ckpt_journal.specs.declared.record.Record.TheVariants as items
use Rattle.prepare_core.specs.Prepare.{begun_claim, prepare_records}
use Rattle.prepare_core.specs.Table.{row_of}
use Rattle.prepare_core.specs.Words.{rows_in}
use Rattle.prepare_core.specs.declared.driver.CallKind.TheVariants as kinds
use Rattle.prepare_core.proofs.Added.{kept_by}
use Rattle.prepare_core.proofs.Shares.{anew_prepared, asked_anew, share_prepared, share_reads}
use Rattle.prepare_core.proofs.state.Kubelet.prepare.Goals as goal

pub record_prepared-result-requires-clause-readable : goal.record_prepared-result-requires-clause-readable
record_prepared-result-requires-clause-readable g c =
    share_reads c.args.pod.now c.args.claim.now.uid (rows_in c.args.self) c.in-Share.shared (sym c.in-Ok.ensures.way ∙ c.in-Share.is) c.requires.pod c.keeps.ensures.readable

pub returns-in-Share-clause-prepared : goal.returns-in-Share-clause-prepared
returns-in-Share-clause-prepared g c =
    share_prepared c.args.pod.now c.args.claim.now.uid (rows_in c.args.self) (rows_in c.record_prepared-result.new.self) c.in-Share.shared c.record_prepared-result.result
    (sym c.in-Ok.ensures.way ∙ c.in-Share.is) c.record_prepared-result.ensures.rows c.record_prepared-result.ensures.names

pub returns-in-Share-clause-kept : goal.returns-in-Share-clause-kept
returns-in-Share-clause-kept g c =
    kept_by (rows_in c.args.self) (rows_in c.record_prepared-result.new.self) (prepare_records c.args.pod.now c.args.claim.now (rows_in c.args.self))
    c.record_prepared-result.result c.record_prepared-result.ensures.kept

pub returns-in-Ok-prepare_anew-clause-prepared : goal.returns-in-Ok-prepare_anew-clause-prepared
returns-in-Ok-prepare_anew-clause-prepared g c =
    let rows = rows_in c.args.self in
    let k = begun_claim c.args.pod.now c.args.claim.now rows in
    anew_prepared c.args.pod.now (row_after rows (items.Begun k)) (rows_in c.in-Ok-prepare_anew.kubelet) k (row_of c.args.claim.now.uid rows) c.in-Ok-prepare_anew.names refl
    c.in-Ok-prepare_anew.ensures.rows c.in-Ok-prepare_anew.ensures.names

pub returns-in-Ok-prepare_anew-clause-asked : goal.returns-in-Ok-prepare_anew-clause-asked
returns-in-Ok-prepare_anew-clause-asked g c =
    asked_anew c.args.pod.now c.args.claim.now.uid (rows_in c.args.self) kinds.Prepare c.args.claim.now _ _ (sym c.in-Ok.ensures.way ∙ c.in-Ask.is) c.in-Ok-prepare_anew.ensures.asked

pub returns-in-Err-prepare_anew-clause-asked : goal.returns-in-Err-prepare_anew-clause-asked
returns-in-Err-prepare_anew-clause-asked g c =
    asked_anew c.args.pod.now c.args.claim.now.uid (rows_in c.args.self) kinds.Prepare c.args.claim.now _ _ (sym c.in-Ok.ensures.way ∙ c.in-Ask.is) c.in-Err-prepare_anew.ensures.asked
