use Rattle.std.proofs.Common.{rules, arith, sym, ap, ◌∙◌, Ok, FitsSigned}
use Rattle.std.proofs.lemmas.Int.{to_z-of_z}
use mir.Syntax.{w128}
use Rattle.std.proofs.lemmas.Bool.Decides.{nat_tests}
use Rattle.quantity.specs.Value.{quantity_value}
use Rattle.quantity.proofs.ValueLemmas.{value_err, value_ok}
use Rattle.quantity.proofs.quantity.Quantity.parse.Goals as goal

pub returns-then-text-gt-LONGEST : goal.returns-then-text-gt-LONGEST
unfolding quantity_value
returns-then-text-gt-LONGEST c = grind (arith, nat_tests)

pub returns-in_err-magnitude : goal.returns-in_err-magnitude
returns-in_err-magnitude c =
    let e = value_err c.args.text.now _ _ _ _ c.if-text-gt-LONGEST.false c.sign-negative.ensures c.parse_magnitude.ensures.value c.in_err-magnitude.was in
    rw e (search rules)

pub returns : goal.returns
returns c =
    let e = value_ok c.args.text.now _ _ _ _ c.if-text-gt-LONGEST.false c.sign-negative.ensures c.parse_magnitude.ensures.value c.in_ok-magnitude.was in
    let fits : FitsSigned w128 c.signed.result = record { sfits = c.signed.type_inv } in
    ap Ok (to_z-of_z w128 c.signed.result fits ∙ c.signed.ensures) ∙ sym e
