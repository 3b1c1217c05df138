use Rattle.std.proofs.Common.{◌≡◌, ◌≤◌, map, drop}
use Rattle.cel_lex.specs.Tokens.{lexeme}
use Rattle.cel_parse.specs.Text.{is_crowded}
use Rattle.cel_parse.proofs.text.has_crowd.Given as goal

abbrev pub invariant-loop-token : goal.invariant-loop-token
invariant-loop-token l = (l.count ≤ 64) × (is_crowded l.count (map lexeme (drop l.token-index l.tokens)) ≡ is_crowded 0 (map lexeme l.tokens))
