use Rattle.quantity.proofs.GrammarLemmas.{spelled_value, long_bad, other_bad}
use Rattle.quantity.proofs.laws.values_follow_the_grammar.Goals as goal

pub returns-clause-spelled : goal.returns-clause-spelled
returns-clause-spelled c = spelled_value

pub returns-clause-long : goal.returns-clause-long
returns-clause-long c = long_bad

pub returns-clause-other : goal.returns-clause-other
returns-clause-other c = other_bad
