use Rattle.std.proofs.Common.{subst, sym, ap, ◌∙◌, take}
use Rattle.quantity.specs.Value.{AreDigits}
use Rattle.quantity.proofs.NumberLemmas.{AreDigits-front}
use Rattle.quantity.proofs.text.digits.Goals as goal

pub returns-clause-digits : goal.returns-clause-digits
returns-clause-digits c = subst AreDigits (sym (c.split_at.ensures.front ∙ ap (λ n. take n c.args.text.now) c.digit_count.ensures.count)) (AreDigits-front c.args.text.now)
