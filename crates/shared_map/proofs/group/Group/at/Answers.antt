use Rattle.std.proofs.Common.{◌∙◌, Some, ap, length, refl, subst, sym}
use Rattle.std.proofs.lemmas.Option.{slice_get_read}
use Rattle.std.specs.Option.{IfSome}
use Rattle.shared_map.specs.Chunks.{IsEntry, joined}
use Rattle.shared_map.proofs.Reaching.{found}
use Rattle.shared_map.proofs.group.Group.at.Goals as goal

pub returns : goal.returns
returns g c =
    let chunks = c.deref.result.now in
    let there = slice_get_read chunks (length chunks) c.args.chunk c.in_ok-chunk.chunk.now refl c.in_ok-chunk.ensures.lookup.3.0 c.in_ok-chunk.ensures.lookup.1 in
    subst (λ es. IfSome c.at.result (λ e. IsEntry es e.0.now e.1.now)) (ap joined c.deref.ensures.value ∙ c.self.view_is)
    (found chunks c.args.chunk c.deref-2.result.now c.at.result (there ∙ ap Some (sym c.deref-2.ensures)) c.at.ensures)
