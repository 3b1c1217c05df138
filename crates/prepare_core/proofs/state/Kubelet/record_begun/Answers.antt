use Rattle.std.proofs.Common.{◌∙◌, ap, sym, subst, List}
use Rattle.ckpt_journal.specs.Format.{ReadsBack}
use Rattle.ckpt_journal.specs.declared.record.Record.TheVariants as items
use Rattle.ckpt_journal.specs.declared.record.Row.{Row}
use Rattle.prepare_core.specs.Prepare.{begun_claim}
use Rattle.prepare_core.specs.Words.{rows_in}
use Rattle.prepare_core.proofs.Begins.{begun_reads}
use Rattle.prepare_core.proofs.state.Kubelet.record_begun.Goals as goal

pub record_item-requires : goal.record_item-requires
record_item-requires g c =
    let pod = c.args.pod.now in
    let claim = c.args.claim.now in
    let is = c.in_ok-copied.ensures.item ∙ ap (λ (rows : List Row). items.Begun (begun_claim pod claim rows)) c.claims.ensures in
    subst ReadsBack (sym is) (begun_reads pod claim (rows_in c.args.self.now) c.requires.readable c.keeps.ensures.readable)
