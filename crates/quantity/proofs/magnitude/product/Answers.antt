use Rattle.std.proofs.Common.{rules, arith, ◌≡◌, ◌*◌, ◌^◌, ◌<◌, ◌++◌, length, lit<, length-append, ap, ◌∙◌, ℕ}
use Rattle.quantity.specs.Cells.{value_of}
use Rattle.quantity.specs.Value.{digits_value}
use Rattle.quantity.proofs.CellLemmas.{digits_value-lt}
use Rattle.quantity.proofs.NumberLemmas.{room_for, room_scaled, both_pushed, AreDigits-append}
use Rattle.quantity.proofs.magnitude.product.Goals as goal

pub push_digits-requires-clause-fits : goal.push_digits-requires-clause-fits
push_digits-requires-clause-fits c = room_for 0 0 (length c.args.whole.now) 92 (lit< tt) (omega (arith, c.requires.short))

pub push_digits-requires-2-clause-fits : goal.push_digits-requires-2-clause-fits
push_digits-requires-2-clause-fits c =
    let whole : value_of c.push_digits.new.cells ≡ digits_value c.args.whole.now = omega (arith, c.push_digits.ensures.value) in
    let below : value_of c.push_digits.new.cells < 10 ^ length c.args.whole.now = rw whole (digits_value-lt c.args.whole.now c.requires.whole) in
    let room = room_for (value_of c.push_digits.new.cells) (length c.args.whole.now) (length c.args.fraction.now) 92 below (omega (arith, c.requires.short)) in
    let size : length c.push_digits.new.cells ≡ 92 = search rules in
    rw size room

pub scale-requires-clause-fits : goal.scale-requires-clause-fits
scale-requires-clause-fits c =
    let whole : value_of c.push_digits.new.cells ≡ digits_value c.args.whole.now = omega (arith, c.push_digits.ensures.value) in
    let all = both_pushed c.args.whole.now c.args.fraction.now _ _ whole c.push_digits-2.ensures.value in
    let below = digits_value-lt (c.args.whole.now ++ c.args.fraction.now) (AreDigits-append _ _ c.requires.whole c.requires.fraction) in
    let size : length c.push_digits-2.new.cells ≡ 92 = search rules in
    rw (size, all) (room_scaled _ _ c.args.factor below (omega (arith, length-append c.args.whole.now c.args.fraction.now, c.requires.short)) c.requires.factor)

pub returns-clause-value : goal.returns-clause-value
returns-clause-value c =
    let whole : value_of c.push_digits.new.cells ≡ digits_value c.args.whole.now = omega (arith, c.push_digits.ensures.value) in
    let all = both_pushed c.args.whole.now c.args.fraction.now _ _ whole c.push_digits-2.ensures.value in
    c.scale.ensures.value ∙ omega arith ∙ ap (λ (n : ℕ). n * c.args.factor) all
