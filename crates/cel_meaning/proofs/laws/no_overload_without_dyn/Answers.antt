use Rattle.std.proofs.Common.{Result, refl, subst}
use Rattle.cel_value.specs.declared.error.EvalError.{EvalError}
use Rattle.cel_value.specs.declared.value.Value.{Value}
use Rattle.cel_meaning.proofs.Free.{Free}
use Rattle.cel_meaning.proofs.Overloads.{free_of}
use Rattle.cel_meaning.proofs.laws.no_overload_without_dyn.Goals as goal

pub returns : goal.returns
returns c = λ device names bindings t k a e plain f.
    subst (λ (r : Result Value EvalError). Free r) f (free_of device c.types_are_found.ensures.found names (c.types_are_found.ensures.sound names t k e) bindings a plain) refl
