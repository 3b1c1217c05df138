use Rattle.std.proofs.Common.{◌≡◌, map, drop}
use Rattle.cel_lex.specs.Tokens.{lexeme}
use Rattle.cel_parse.specs.Steps.{reading, begun}
use Rattle.cel_parse.proofs.run.read.Given as goal

abbrev pub invariant-loop-token : goal.invariant-loop-token
invariant-loop-token l = reading 64 l.end (map lexeme (drop l.token-index l.tokens)) (l.mode, l.stack) ≡ reading 64 l.end (map lexeme l.tokens) begun
