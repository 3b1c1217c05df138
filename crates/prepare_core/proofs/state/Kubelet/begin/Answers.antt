use Rattle.std.proofs.Common.{◌≡◌, ◌∙◌, ap, sym}
use Rattle.ckpt_journal.specs.declared.record.Record.TheVariants as items
use Rattle.ckpt_journal.specs.Table.{row_after}
use Rattle.prepare_core.specs.Prepare.{begun_claim}
use Rattle.prepare_core.specs.Table.{claim_with}
use Rattle.prepare_core.specs.Words.{rows_in}
use Rattle.prepare_core.proofs.Found.{begun_found}
use Rattle.prepare_core.proofs.state.Kubelet.begin.Goals as goal

pub invariant_of-result-clause-begun : goal.invariant_of-result-clause-begun
invariant_of-result-clause-begun g c =
    let rows = rows_in c.args.self in
    let begun : claim_with c.in-Ok.claim c.in-Ok.pods ≡ begun_claim c.args.pod.now c.args.claim.now rows =
    (λ i. claim_with (c.in-Ok.ensures.copied i) (c.in-Ok.ensures.pods i)) in
    begun_found rows (rows_in c.record_begun.new.self) _ (c.in-Ok.ensures.rows ∙ ap (λ k. row_after rows (items.Begun k)) (sym begun))
