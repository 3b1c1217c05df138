use Rattle.std.proofs.Common.{◌≡◌, ◌∙◌, ◌++◌, List, subst, sym}
use Rattle.std.proofs.lemmas.List.{take-append-drop}
use Rattle.std.specs.List.{AllByRecursion}
use Rattle.mem_disk.specs.Stages.{IsUnsynced, begun, bytes_from, stage_after}
use Rattle.mem_disk.specs.declared.change.Change.{Change}
use Rattle.mem_disk.proofs.Imaged.{whole_image}
use Rattle.mem_disk.proofs.Pushed.{image_exact}
use Rattle.mem_disk.proofs.image.image_after.Goals as goal

pub returns : goal.returns
returns c = whole_image c.args.first.now _ _ _ c.args.changes.now c.split_at.result.0.now c.split_at.result.1.now
    (sym (take-append-drop c.through_sync.result c.args.changes.now) ∙ (λ i. sym c.split_at.ensures.front i ++ sym c.split_at.ensures.back i))
    (subst (λ (l : List Change). stage_after (begun c.args.first.now) l ≡ begun (bytes_from c.args.first.now l)) (sym c.split_at.ensures.front) (c.through_sync.ensures.synced c.args.first.now))
    c.in_ok-image.ensures
    (subst (AllByRecursion IsUnsynced) (sym c.split_at.ensures.back) c.through_sync.ensures.since)
    (c.blur_each.ensures (begun c.in_ok-image.image.items) (image_exact c.in_ok-image.image.items))
    c.in_ok-lengthen.ensures.starts c.in_ok-lengthen.ensures.synced
