use Rattle.std.proofs.Common.{◌∙◌, Bool, ap, is_some}
use Rattle.std.specs.List.{list_any}
use Rattle.std.specs.Str.{bytes_eq}
use Rattle.object_fields.proofs.Firsts.{found_any}
use Rattle.object_fields.proofs.by_name.ByName.has.Goals as goal

pub returns : goal.returns
returns g c =
    let test : g.row.T.Denot → Bool = λ x. bytes_eq (g.T.HasName.name_of x) c.args.name.now in
    c.contains_key.ensures ∙ ap is_some (c.self.invariant c.args.name.now) ∙ found_any test c.self.inside.items ∙ ap (list_any test) c.self.view_is
