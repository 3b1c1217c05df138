use Rattle.std.proofs.Common.{arith, rules}
use Rattle.cli_words.proofs.Numerals.{number_unread}
use Rattle.cli_words.proofs.numbers.number_in.Goals as goal

pub returns-in-Err : goal.returns-in-Err
returns-in-Err c = number_unread c.args.word.now c.parse.result c.in-Err.field-0 c.args.digits c.args.least c.args.most c.in-Err.is (search rules) (search rules) (omega arith)
