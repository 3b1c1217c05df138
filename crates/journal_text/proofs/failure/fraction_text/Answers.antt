use Rattle.std.proofs.Common.{◌≡◌, ◌∙◌, ap, arith, subst}
use Rattle.std.specs.Int.{w128}
use Rattle.std.proofs.lemmas.Int.{to_z_pos}
use Rattle.std.specs.Prelude.{MatchOption, string_bytes}
use Rattle.quantity.specs.Printed.{fraction_text, printed}
use Rattle.journal_text.proofs.Rows.{told_by}
use Rattle.journal_text.proofs.Whole.{stripped}
use Rattle.journal_text.proofs.failure.fraction_text.Goals as goal

pub unreachable-requires : goal.unreachable-requires
unreachable-requires c =
    subst (λ r. MatchOption r ⊥ (λ x. x.now ≡ fraction_text c.args.nanos)) c.in-None.is
    (stripped c.args.nanos c.as_str.result.now c.strip_prefix.result c.requires (c.as_str.ensures.value ∙ c.in_ok-text.ensures.ok ∙ ap printed (to_z_pos w128 c.args.nanos (omega (arith, c.requires)))) c.strip_prefix.ensures.cases)

pub returns : goal.returns
returns c =
    told_by (λ t. string_bytes t) c.from_str.result c.in-Some.places.now (fraction_text c.args.nanos)
    (subst (λ r. MatchOption r ⊥ (λ x. x.now ≡ fraction_text c.args.nanos)) c.in-Some.is
    (stripped c.args.nanos c.as_str.result.now c.strip_prefix.result c.requires (c.as_str.ensures.value ∙ c.in_ok-text.ensures.ok ∙ ap printed (to_z_pos w128 c.args.nanos (omega (arith, c.requires)))) c.strip_prefix.ensures.cases)) c.from_str.ensures.ok
