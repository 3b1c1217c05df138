use Rattle.std.proofs.Common.{◌∙◌, ap, inr, true, [], ◌∷◌}
use Rattle.std.specs.Option.{option_map}
use Rattle.ckpt_journal.specs.declared.record.Record.TheVariants as items
use Rattle.prepare_core.specs.Runs.{called}
use Rattle.prepare_core.specs.declared.claim.ClaimForNode.{ClaimForNode}
use Rattle.prepare_core.specs.declared.driver.CallKind.TheVariants as kinds
use Rattle.prepare_core.specs.Prepare.{begun_claim, refusal}
use Rattle.prepare_core.specs.Words.{half_in, has_ended, node_in, rows_in}
use Rattle.prepare_core.proofs.Added.{kept_none, kept_one, one_added}
use Rattle.prepare_core.proofs.AnewRuns.{finish_fails, finish_works, no_refusal}
use Rattle.prepare_core.proofs.state.Kubelet.prepare_anew.Goals as goal

pub returns-in-Err-clause-kept : goal.returns-in-Err-clause-kept
returns-in-Err-clause-kept g c = kept_none (rows_in c.args.self) _ (rows_in c.in-Err.refused.kubelet) c.in-Err.ensures.kept

pub returns-in-Err-ask-clause-kept : goal.returns-in-Err-ask-clause-kept
returns-in-Err-ask-clause-kept g c =
    let rows = rows_in c.args.self in
    let k = begun_claim c.args.pod.now c.args.claim.now rows in
    inr (one_added rows (items.Begun k) (items.Prepared k ∷ []) (rows_in c.in-Err-ask.refused.kubelet) (c.in-Err-ask.ensures.same.1 ∙ c.in-Ok.ensures.rows))

pub returns-in-Err-finish-clause-kept : goal.returns-in-Err-finish-clause-kept
returns-in-Err-finish-clause-kept g c =
    let rows = rows_in c.args.self in
    let k = begun_claim c.args.pod.now c.args.claim.now rows in
    kept_one rows (rows_in c.in-Ok-ask.asked.kubelet) (items.Begun k) (items.Prepared k ∷ []) (rows_in c.in-Err-finish.refused.kubelet)
    (c.in-Ok-ask.ensures.same.1 ∙ c.in-Ok.ensures.rows) c.in-Err-finish.ensures.kept

pub returns-in-Err-finish-clause-follows : goal.returns-in-Err-finish-clause-follows
returns-in-Err-finish-clause-follows g c =
    let rows = rows_in c.args.self in
    let claim = c.args.claim.now in
    let k = begun_claim c.args.pod.now claim rows in
    let ref = refusal (has_ended c.args.self) (node_in c.args.self) c.args.pod.now claim in
    finish_fails (half_in c.args.self) claim k rows ref c.in-Err-finish.refused.why (rows_in c.in-Ok-ask.asked.kubelet) (rows_in c.in-Err-finish.refused.kubelet)
    _ _ _ _ (no_refusal ref c.in-Ok.ensures.refused) c.in-Ok.ensures.room (c.in-Ok-ask.ensures.same.1 ∙ c.in-Ok.ensures.rows) (c.in-Ok-ask.ensures.half ∙ c.in-Ok.ensures.half)
    (c.in-Ok-ask.ensures.claim.1 ∙ c.in-Ok.ensures.begun) c.in-Err-finish.ensures.only c.in-Err-finish.ensures.full c.in-Err-finish.ensures.kept
    (c.in-Ok-ask.ensures.asked ∙ ap (λ (d : ClaimForNode). option_map (called kinds.Prepare d true) (g.V.Driver.calls c.args.driver.now)) c.in-Ok.ensures.claim)

pub returns-in-Ok-finish-clause-follows : goal.returns-in-Ok-finish-clause-follows
returns-in-Ok-finish-clause-follows g c =
    let rows = rows_in c.args.self in
    let claim = c.args.claim.now in
    let k = begun_claim c.args.pod.now claim rows in
    let ref = refusal (has_ended c.args.self) (node_in c.args.self) c.args.pod.now claim in
    finish_works (half_in c.args.self) claim k rows ref c.in-Ok-finish.names (rows_in c.in-Ok-ask.asked.kubelet) (rows_in c.in-Ok-finish.kubelet)
    _ _ _ _ (no_refusal ref c.in-Ok.ensures.refused) c.in-Ok.ensures.room (c.in-Ok-ask.ensures.same.1 ∙ c.in-Ok.ensures.rows) (c.in-Ok-ask.ensures.half ∙ c.in-Ok.ensures.half)
    (c.in-Ok-ask.ensures.claim.1 ∙ c.in-Ok.ensures.begun) c.in-Ok-finish.ensures.room c.in-Ok-finish.ensures.rows c.in-Ok-finish.ensures.names
    (c.in-Ok-ask.ensures.asked ∙ ap (λ (d : ClaimForNode). option_map (called kinds.Prepare d true) (g.V.Driver.calls c.args.driver.now)) c.in-Ok.ensures.claim)
