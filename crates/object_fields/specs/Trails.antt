-- Paths in the order of reading.
use Rattle.std.specs.Prelude.{List, [], ◌∷◌, ◌++◌}
use Rattle.object_fields.specs.declared.path.Step.{Step}
use Rattle.object_fields.specs.declared.path.Step.TheVariants as step
use Rattle.object_fields.specs.declared.path.Trail.{Trail, Top, Member', Place', Key'}

-- the steps from the top
abbrev pub steps_of : Trail → List Step
steps_of Top = []
steps_of (Member' p above name) = steps_of above ++ step.Member name.now ∷ []
steps_of (Place' p above place) = steps_of above ++ step.Place place ∷ []
steps_of (Key' p above key) = steps_of above ++ step.Key key.now ∷ []
