use Rattle.std.proofs.Common.{◌≡◌, ◌∙◌, List, [], ◌∷◌, ◌++◌, Option, Some, Result, Ok, ℕ, ap, codes, option_map, subst, sym}
use Rattle.serde_json.specs.Data.{Data, Items}
use Rattle.serde_json.specs.View.{items_view, view}
use Rattle.object_fields.specs.Fields.{Reads, optional_at, short_list_at, ◌>>=◌}
use Rattle.object_fields.specs.Lists.{each, each_in}
use Rattle.object_fields.specs.declared.error.FieldError.{FieldError}
use Rattle.object_fields.specs.declared.path.Step.{Step}
use Rattle.object_fields.specs.declared.path.Step.TheVariants.{Member}
use Rattle.api_claim.specs.Constraints.{constraint_at, constraints_at, constraints_most}
use Rattle.api_claim.specs.declared.types.DeviceConstraint.{DeviceConstraint}
use Rattle.api_claim.proofs.constraints.read_constraints.Goals as goal

-- the constraints of a list that is there
there : (r : Result (List DeviceConstraint) FieldError) (names : List (List ℕ)) (path inside : List Step) (devices : Data) (o : Option Items) (ds : Items) → optional_at (short_list_at constraints_most) path (codes "constraints") devices ≡ Ok o → o ≡ Some ds → path ++ Member (codes "constraints") ∷ [] ≡ inside → Reads r (each (constraint_at names) inside ds) → Reads r (constraints_at names path devices)
there r names path inside devices o ds h is p k =
    let e : constraints_at names path devices ≡ each_in (constraint_at names) (path ++ Member (codes "constraints") ∷ []) (Some ds) = ap (λ x. x >>= each_in (constraint_at names) (path ++ Member (codes "constraints") ∷ [])) h ∙ ap (each_in (constraint_at names) (path ++ Member (codes "constraints") ∷ [])) is in
    let f : constraints_at names path devices ≡ each (constraint_at names) inside ds = e ∙ ap (λ q. each (constraint_at names) q ds) p in
    let P : Result (List DeviceConstraint) FieldError → Type 0 = λ x. Reads r x in
    subst P (sym f) k

pub returns-in-Some : goal.returns-in-Some
returns-in-Some c =
    let o : Option Items = option_map (λ v. items_view v.now) c.in_ok-constraints.field-0 in
    let is : o ≡ Some (items_view c.in-Some.constraints.now) = ap (option_map (λ v. items_view v.now)) c.in-Some.is in
    let at : c.args.path.now ++ Member (codes "constraints") ∷ [] ≡ c.member-path.result = sym c.member-path.ensures in
    there c.read_each.result c.args.names.now c.args.path.now c.member-path.result (view c.args.devices.now) o (items_view c.in-Some.constraints.now) c.in_ok-constraints.ensures is at c.read_each.ensures
