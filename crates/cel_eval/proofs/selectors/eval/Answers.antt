use Rattle.std.proofs.Common.{◌≡◌, [], ap, sym, ◌∙◌, subst, arith, Result, Ok, Err}
use Rattle.std.specs.Prelude.{IfOk}
use Rattle.cel_value.specs.declared.value.Value.{Value}
use Rattle.cel_value.specs.declared.error.EvalError.{EvalError}
use Rattle.cel_value.specs.declared.error.EvalError.TheVariants.{NoOverload}
use Rattle.cel_value.specs.Values.{Gives}
use Rattle.cel_meaning.specs.Meaning.{means}
use Rattle.cel_meaning.specs.Cost.{cost}
use Rattle.cel_meaning.specs.HasKind.{unbound}
use Rattle.cel_eval.proofs.selectors.eval.Goals as goal

if_ok : (P : Value → Type 0) (r m : Result Value EvalError) → Gives r m → ((v : Value) → m ≡ Ok v → P v) → IfOk r P
if_ok P (Ok v) m g f = f v g
if_ok P (Err e) m g f = tt

never : (r m : Result Value EvalError) → Gives r m → (m ≡ Err NoOverload → ⊥) → r ≡ Err NoOverload → ⊥
never r m g f e = f (subst (λ (s : Result Value EvalError). Gives s m) e g)

pub value_of-requires : goal.value_of-requires
value_of-requires c =
    let typed = c.types_are_found.ensures.found [] c.args.tree.now.tree c.args.tree.now.kind c.tree.ensures.typed in
    let law = c.cost_within_estimate.ensures c.args.device.now c.args.tree.now.tree c.args.tree.now.kind c.within_limits.ensures typed (omega arith) in
    let same = ap (cost c.args.device.now []) c.tree.ensures.tree in
    omega (arith, law, same)

pub returns-clause-kind : goal.returns-clause-kind
returns-clause-kind c =
    let typed = c.types_are_found.ensures.found [] c.args.tree.now.tree c.args.tree.now.kind c.tree.ensures.typed in
    let same = ap (means c.args.device.now []) c.tree.ensures.tree in
    if_ok _ c.value_of.result _ c.value_of.ensures.means (λ v e. c.values_have_their_types.ensures c.args.device.now [] [] c.args.tree.now.tree c.args.tree.now.kind v unbound typed (sym same ∙ e))

pub returns-clause-overloads : goal.returns-clause-overloads
returns-clause-overloads c = λ plain.
    let typed = c.types_are_found.ensures.found [] c.args.tree.now.tree c.args.tree.now.kind c.tree.ensures.typed in
    let same = ap (means c.args.device.now []) c.tree.ensures.tree in
    never c.value_of.result _ c.value_of.ensures.means (λ e. c.no_overload_without_dyn.ensures c.args.device.now [] [] c.args.tree.now.tree c.args.tree.now.kind unbound typed plain (sym same ∙ e))
