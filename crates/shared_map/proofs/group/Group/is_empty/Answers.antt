use Rattle.std.proofs.Common.{◌==◌, ◌∙◌, ap, length}
use Rattle.shared_map.proofs.Placing.{empty_joined}
use Rattle.shared_map.proofs.group.Group.is_empty.Goals as goal

pub returns : goal.returns
returns g c =
    c.is_empty.ensures ∙ ap (λ n. n == 0) c.self.inside.chunks.ok.0 ∙ empty_joined c.self.inside.chunks.items c.self.invariant.none_empty ∙ ap (λ v. length v == 0) c.self.view_is
