use Rattle.std.proofs.Common.{ap, ◌∙◌}
use Rattle.request_rules.specs.Input.{SearchInput}
use Rattle.allocator.proofs.searching.search_totals.Goals as goal

pub returns-clause-value : goal.returns-clause-value
returns-clause-value c = λ k. c.into_totals.ensures.value k ∙ ap (λ (s : SearchInput). s.value k) (c.answer_on-outcome.ensures.setting ∙ c.new-board.ensures)

pub returns-clause-drawn : goal.returns-clause-drawn
returns-clause-drawn c = λ k. c.into_totals.ensures.drawn k ∙ ap (λ (s : SearchInput). s.drawn k) (c.answer_on-outcome.ensures.setting ∙ c.new-board.ensures)
