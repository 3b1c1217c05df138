use Rattle.cel_parse.proofs.OfGrammar.{text_has, has_text}
use Rattle.cel_parse.proofs.run.trees_are_of_the_grammar.Goals as goal

pub returns-clause-tree : goal.returns-clause-tree
returns-clause-tree c = text_has

pub returns-clause-every : goal.returns-clause-every
returns-clause-every c = has_text
