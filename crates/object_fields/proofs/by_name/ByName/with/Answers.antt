use Rattle.std.proofs.Common.{◌∙◌, ap, length}
use Rattle.object_fields.proofs.Firsts.{all_placed}
use Rattle.object_fields.proofs.by_name.ByName.with.Goals as goal

pub invariant_of-result : goal.invariant_of-result
invariant_of-result g c =
    all_placed g.T.HasName.name_of c.self.inside.items c.push.new.self c.args.item c.self.inside.places c.in_ok-places.places c.in_ok-name.name _ c.self.invariant c.in_ok-places.ensures (c.in_ok-name.ensures ∙ c.name.ensures) (ap length c.as_slice.ensures) c.in_ok-push.ensures.ok
