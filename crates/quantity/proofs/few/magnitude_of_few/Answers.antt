use Rattle.std.proofs.Common.{arith, rules, ◌≡◌, ◌∙◌, ◌*◌, ◌%◌, ◌^◌, ℕ, ap, length}
use Rattle.quantity.specs.Value.{magnitude_of}
use Rattle.quantity.proofs.FewLemmas.{all_digits, divided, not_zero, product_fits, room_behind}
use Rattle.quantity.proofs.NumberLemmas.{fine_is}
use Rattle.quantity.proofs.few.magnitude_of_few.Goals as goal

pub appended-requires-2-clause-fits : goal.appended-requires-2-clause-fits
appended-requires-2-clause-fits c = room_behind c.appended.result c.args.whole.now c.args.fraction.now c.requires.whole c.appended.ensures c.requires.few

pub overflow_mul-number : goal.overflow_mul-number
overflow_mul-number c =
    let all = all_digits c.appended.result c.appended-2.result c.args.whole.now c.args.fraction.now c.appended.ensures c.appended-2.ensures in
    let below = product_fits c.appended-2.result c.args.factor c.args.whole.now c.args.fraction.now c.requires.whole c.requires.fraction c.requires.few all c.requires.factor in
    omega (arith, below)

pub nonzero_rem-number : goal.nonzero_rem-number
nonzero_rem-number c =
    let unit : c.pow-unit.result ≡ 10 ^ length c.args.fraction.now = search rules in
    not_zero (length c.args.fraction.now) c.pow-unit.result unit

pub returns-then-number-unit-ne0 : goal.returns-then-number-unit-ne0
returns-then-number-unit-ne0 c =
    let unit : c.pow-unit.result ≡ 10 ^ length c.args.fraction.now = search rules in
    let all = all_digits c.appended.result c.appended-2.result c.args.whole.now c.args.fraction.now c.appended.ensures c.appended-2.ensures in
    fine_is _ _ (λ none.
    c.if-number-unit-ne0.true
    (ap (λ (m : ℕ). c.appended-2.result * c.args.factor % m) unit ∙ ap (λ (v : ℕ). v * c.args.factor % 10 ^ length c.args.fraction.now) all ∙ none))

pub nonzero_div-number : goal.nonzero_div-number
nonzero_div-number c =
    let unit : c.pow-unit.result ≡ 10 ^ length c.args.fraction.now = search rules in
    not_zero (length c.args.fraction.now) c.pow-unit.result unit

pub returns : goal.returns
returns c =
    let unit : c.pow-unit.result ≡ 10 ^ length c.args.fraction.now = search rules in
    let all = all_digits c.appended.result c.appended-2.result c.args.whole.now c.args.fraction.now c.appended.ensures c.appended-2.ensures in
    c.up_to_most-2.ensures ∙ divided (c.appended-2.result * c.args.factor) (length c.args.fraction.now) c.pow-unit.result unit c.if-number-unit-ne0.false
    ∙ ap (λ (v : ℕ). magnitude_of (v * c.args.factor) (length c.args.fraction.now)) all
