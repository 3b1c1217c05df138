use Rattle.journal_text.proofs.Appended.{lines_more}
use Rattle.journal_text.proofs.laws.lines_of_more.Goals as goal

pub returns : goal.returns
returns c = λ n xs ys. lines_more n xs ys
