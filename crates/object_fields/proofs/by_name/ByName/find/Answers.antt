use Rattle.std.proofs.Common.{◌≡◌, ◌∙◌, Bool, Some, None, ap, sym, option_and_then, option_copied}
use Rattle.std.specs.List.{find, slice_get}
use Rattle.std.specs.Str.{bytes_eq}
use Rattle.object_fields.specs.Places.{first_place}
use Rattle.object_fields.proofs.Firsts.{found, got_at}
use Rattle.object_fields.proofs.by_name.ByName.find.Goals as goal

pub returns-in-Some : goal.returns-in-Some
returns-in-Some g c =
    let test : g.row.T.Denot → Bool = λ x. bytes_eq (g.T.HasName.name_of x) c.args.name.now in
    let placed : Some c.in-Some.place.now ≡ first_place test c.self.inside.items = sym (ap option_copied c.in-Some.is) ∙ c.get.ensures ∙ c.self.invariant c.args.name.now in
    let there : slice_get c.self.inside.items c.in-Some.place.now ≡ find test c.self.inside.items = ap (option_and_then (slice_get c.self.inside.items)) placed ∙ found test c.self.inside.items in
    let got = got_at c.as_slice.result.now c.in-Some.place.now c.get-in-Some.result c.get-in-Some.ensures.lookup.3 in
    got ∙ ap (λ xs. slice_get xs c.in-Some.place.now) c.as_slice.ensures ∙ there ∙ ap (find test) c.self.view_is

pub returns-in-None : goal.returns-in-None
returns-in-None g c =
    let test : g.row.T.Denot → Bool = λ x. bytes_eq (g.T.HasName.name_of x) c.args.name.now in
    let placed : None ≡ first_place test c.self.inside.items = sym (ap option_copied c.in-None.is) ∙ c.get.ensures ∙ c.self.invariant c.args.name.now in
    ap (option_and_then (slice_get c.self.inside.items)) placed ∙ found test c.self.inside.items ∙ ap (find test) c.self.view_is
