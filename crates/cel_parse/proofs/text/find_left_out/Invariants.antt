use Rattle.std.proofs.Common.{◌≡◌, map, drop}
use Rattle.std.specs.Prelude.{None}
use Rattle.cel_lex.specs.Tokens.{lexeme}
use Rattle.cel_parse.specs.Text.{left_out}
use Rattle.cel_parse.proofs.text.find_left_out.Given as goal

abbrev pub invariant-loop-token : goal.invariant-loop-token
invariant-loop-token l = left_out l.before (map lexeme (drop l.token-index l.tokens)) ≡ left_out None (map lexeme l.tokens)
