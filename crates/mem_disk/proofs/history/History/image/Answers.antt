use Rattle.std.proofs.Common.{◌≡◌, ◌≤◌, ℕ, List, ap, arith, length, take}
use Rattle.std.proofs.lemmas.List.{length-take}
use Rattle.mem_disk.specs.Stages.{Past, Stage, sures_from}
use Rattle.mem_disk.specs.declared.change.Change.{Change}
use Rattle.mem_disk.proofs.Past.{length_sures}
use Rattle.mem_disk.proofs.history.History.image.Goals as goal

as_many : (s : Stage) (changes cs : List Change) (past : Past) (at : ℕ) → cs ≡ changes → sures_from s changes ≡ past.earlier → at ≤ length past.earlier → at ≡ length (take at cs)
as_many s changes cs past at is earlier within = omega (arith, length-take at cs, ap length is, length_sures s changes, ap length earlier, within)

pub slice_bounds-image_after-end : goal.slice_bounds-image_after-end
slice_bounds-image_after-end c = as_many _ c.self.inside.changes.items c.deref-2.result.now c.args.self.now c.args.at c.deref-2.ensures.value (ap (λ (p : Past). p.earlier) c.self.view_is) c.requires
