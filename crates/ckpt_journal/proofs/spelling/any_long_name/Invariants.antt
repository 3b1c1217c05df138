use Rattle.std.proofs.Common.{◌≡◌, drop}
use Rattle.std.specs.List.{list_any}
use Rattle.ckpt_journal.specs.Format.{is_long_text}
use Rattle.ckpt_journal.proofs.spelling.any_long_name.Given as goal

abbrev pub invariant-loop-name : goal.invariant-loop-name
invariant-loop-name g l = list_any (λ a. is_long_text (g.T.Named.text a)) (drop l.name-index l.names) ≡ list_any (λ a. is_long_text (g.T.Named.text a)) l.names
