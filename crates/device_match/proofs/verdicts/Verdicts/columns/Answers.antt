use Rattle.std.proofs.Common.{◌≡◌, ◌∙◌, List, IfOk, subst, sym}
use Rattle.pool_view.specs.declared.matching.Match.{Match}
use Rattle.device_match.proofs.Plain.{plain}
use Rattle.device_match.proofs.verdicts.Verdicts.columns.Goals as goal

pub returns-then-not-any_selectors : goal.returns-then-not-any_selectors
returns-then-not-any_selectors c =
    subst (λ (all : List (List Match)). IfOk c.plain_columns.result (λ columns. columns ≡ all))
    (plain c.args.selections.now c.args.devices.now (sym c.any_selectors.ensures ∙ c.if-not-any_selectors.true)) c.plain_columns.ensures
