use Rattle.std.proofs.Common.{ap, sym, ◌∙◌}
use Rattle.cel_cost.specs.Capped.{seen}
use Rattle.std.proofs.Common.{Option}
use Rattle.std.specs.Prelude.{option_map}
use Rattle.cel_cost.specs.declared.bounds.Bounds.{Bounds}
use Rattle.cel_cost.proofs.Capping.{named, unnamed}
use Rattle.cel_cost.proofs.bounds.name_bounds.Goals as goal

pub returns-in-Some : goal.returns-in-Some
returns-in-Some c = λ x e.
    named (seen c.in-Some.value) x (sym (ap (λ (o : Option Bounds). option_map seen o) c.in-Some.is) ∙ e)

pub returns-in-None : goal.returns-in-None
returns-in-None c = λ x e.
    c.new.ensures ∙ unnamed x (sym (ap (λ (o : Option Bounds). option_map seen o) c.in-None.is) ∙ e)
