use Rattle.std.proofs.Common.{◌≡◌, ◌-◌, map, length}
use Rattle.cel_lex.specs.Tokens.{lexeme, lex_of, rest_of}
use Rattle.cel_parse.specs.Text.{behind}
use Rattle.cel_parse.proofs.text.lex.Given as goal

abbrev pub invariant-tokens : goal.invariant-tokens
invariant-tokens l = behind (map lexeme l.read.items) (rest_of l.tokens) ≡ lex_of l.text

abbrev pub decreases-tokens : goal.decreases-tokens
decreases-tokens l = length l.tokens.source - l.tokens.at
