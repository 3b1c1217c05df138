use Rattle.std.proofs.Common.{◌≡◌, ◌<◌, ◌∙◌, ap, arith, List, ℕ}
use Rattle.std.specs.Option.{option_map}
use Rattle.ckpt_journal.specs.Plan.{new_file}
use Rattle.ckpt_journal.specs.Steps.{Put, done}
use Rattle.ckpt_journal.proofs.Keeping.{formatted, formatted_halves}
use Rattle.ckpt_journal.proofs.LaidOut.{half_allowed}
use Rattle.ckpt_journal.proofs.opening.format.Goals as goal

pub returns-clause-none : goal.returns-clause-none
returns-clause-none g c =
    let sizes = half_allowed c.args.half c.requires in
    let some : 0 < c.args.half = omega (arith, sizes.0) in
    let x = g.D.Disk.content c.args.disk.now in
    let bytes : c.deref.result.now ≡ new_file c.args.half = c.deref.ensures.value ∙ c.in_ok-bytes.ensures in
    formatted c.args.half x _ c.requires sizes.1 some (c.in_ok-put.ensures.ok ∙ ap (λ (l : List ℕ). option_map (done (Put 0 l)) x) bytes)

pub returns-clause-halves : goal.returns-clause-halves
returns-clause-halves g c =
    let sizes = half_allowed c.args.half c.requires in
    let some : 0 < c.args.half = omega (arith, sizes.0) in
    let x = g.D.Disk.content c.args.disk.now in
    let bytes : c.deref.result.now ≡ new_file c.args.half = c.deref.ensures.value ∙ c.in_ok-bytes.ensures in
    formatted_halves c.args.half x _ c.requires sizes.1 some (c.in_ok-put.ensures.ok ∙ ap (λ (l : List ℕ). option_map (done (Put 0 l)) x) bytes)
