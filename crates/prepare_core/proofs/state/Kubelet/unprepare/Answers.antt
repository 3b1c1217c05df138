use Rattle.std.proofs.Common.{◌∙◌, ap, Some}
use Rattle.prepare_core.specs.Held.{LosesHeld}
use Rattle.prepare_core.specs.Table.{row_of}
use Rattle.prepare_core.specs.Unprepare.{unprepare_records}
use Rattle.prepare_core.specs.Words.{disk_in, node_in, rows_in}
use Rattle.prepare_core.specs.declared.way.WayBack.{WayBack}
use Rattle.prepare_core.proofs.Added.{kept_by}
use Rattle.prepare_core.proofs.Backs.{keep_reads, keep_sets, leave_uid}
use Rattle.prepare_core.proofs.Ends.{with_same}
use Rattle.prepare_core.proofs.state.Kubelet.unprepare.Goals as goal

pub record_item-result-requires : goal.record_item-result-requires
record_item-result-requires g c =
    keep_reads (node_in c.args.self) c.args.pod.now c.args.uid.now (rows_in c.args.self) c.in-Keep.item c.keeps.ensures.readable
    (c.in-Ok.ensures.way ∙ ap (λ (w : WayBack). Some w) c.in-Keep.is)

pub returns-in-Keep-clause-kept : goal.returns-in-Keep-clause-kept
returns-in-Keep-clause-kept g c =
    kept_by (rows_in c.args.self) (rows_in c.record_item-result.new.self) (unprepare_records (node_in c.args.self) c.args.pod.now c.args.uid.now (rows_in c.args.self))
    c.record_item-result.result c.record_item-result.ensures.kept

pub take_back-result-requires-clause-uid : goal.take_back-result-requires-clause-uid
take_back-result-requires-clause-uid g c =
    leave_uid (node_in c.args.self) c.args.pod.now c.args.uid.now (rows_in c.args.self) c.in-Leave.claim (c.in-Ok.ensures.way ∙ ap (λ (w : WayBack). Some w) c.in-Leave.is)

pub returns-in-Keep-clause-held : goal.returns-in-Keep-clause-held
returns-in-Keep-clause-held g c = λ going.
    let rows = rows_in c.args.self in
    let x = g.D.Disk.content (disk_in c.args.self) in
    let y = g.D.Disk.content (disk_in c.record_item-result.new.self) in
    let sets = keep_sets (node_in c.args.self) c.args.pod.now (row_of c.args.uid.now rows) c.in-Keep.item (c.in-Ok.ensures.way ∙ ap (λ (w : WayBack). Some w) c.in-Keep.is) in
    let told = g.V.Driver.calls c.args.driver.now in
    with_same (λ before after. LosesHeld rows before after x y) told told (λ i. told)
    (λ calls. record { during = (c.held_claims_stay.ensures.set rows c.in-Keep.item calls x y sets (c.record_item-result.ensures.any_moment going)).during })
