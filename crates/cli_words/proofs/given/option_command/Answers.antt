use Rattle.std.proofs.Common.{◌≡◌, ◌∙◌, [], Bor, ap₂, arith, get_or, rules}
use Rattle.clap.specs.Simple.{with_rule}
use Rattle.clap.specs.Walk.{rule_of}
use Rattle.cli_words.specs.Clap.{option_rule}
use Rattle.cli_words.specs.Given.{Bytes}
use Rattle.cli_words.proofs.Commands.{one_more}
use Rattle.cli_words.proofs.given.option_command.Goals as goal

pub loop-name-preserved : goal.loop-name-preserved
loop-name-preserved c =
    let names = c.args.names.now in
    let i = c.loop-name.name-index in
    let none : Bor Bytes = record { ref_ptr = (0, 0); now = [] } in
    let rule : rule_of c.long.result ≡ option_rule (get_or names i none).now = search rules in
    c.in_ok-command.ensures.shape (search rules) ∙ ap₂ with_rule c.loop-name.invariant rule ∙ one_more names i none (omega arith)
