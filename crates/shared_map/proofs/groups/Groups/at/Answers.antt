use Rattle.std.proofs.Common.{◌∙◌, Some, ap, length, refl, subst, sym}
use Rattle.std.proofs.lemmas.Option.{slice_get_read}
use Rattle.std.specs.Option.{IfSome}
use Rattle.shared_map.specs.Chunks.{IsEntry, joined}
use Rattle.shared_map.proofs.Reaching.{found}
use Rattle.shared_map.proofs.groups.Groups.at.Goals as goal

pub returns : goal.returns
returns g c =
    let groups = c.deref.result.now in
    let there = slice_get_read groups (length groups) c.args.place.group c.in_ok-group.group.now refl c.in_ok-group.ensures.lookup.3.0 c.in_ok-group.ensures.lookup.1 in
    subst (λ es. IfSome c.at.result (λ e. IsEntry es e.0.now e.1.now)) (ap joined c.deref.ensures.value ∙ c.self.view_is)
    (found groups c.args.place.group c.deref-2.result.now c.at.result (there ∙ ap Some (sym c.deref-2.ensures)) c.at.ensures)
