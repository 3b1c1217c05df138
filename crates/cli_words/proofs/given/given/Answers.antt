use Rattle.std.proofs.Common.{map, rules, sym}
use Rattle.std.specs.Prelude.{string_bytes}
use Rattle.cli_words.proofs.Reading.{parsed, unparsed, unread}
use Rattle.cli_words.proofs.given.given.Goals as goal

pub returns-then-not-are_plain_words : goal.returns-then-not-are_plain_words
returns-then-not-are_plain_words c = unread (map (λ n. n.now) c.args.names.now) (map string_bytes c.args.words.now) (sym c.if-not-are_plain_words.ensures)

pub returns-in-Ok : goal.returns-in-Ok
returns-in-Ok c = parsed (map (λ n. n.now) c.args.names.now) (map string_bytes c.args.words.now) _ c.in-Ok.matches c.in_ok-command.ensures (search rules) c.in-Ok.ensures.kinds c.in-Ok.ensures.matches

pub returns : goal.returns
returns c = unparsed (map (λ n. n.now) c.args.names.now) (map string_bytes c.args.words.now) _ c.in-Err.error c.in_ok-command.ensures (search rules) c.in-Err.ensures.kinds (search rules)
