use Rattle.std.specs.Prelude.{codes}
use Rattle.object_fields.specs.Words.{kind_word, path_text}
use Rattle.journal_text.proofs.Rows.{in_four}
use Rattle.journal_text.proofs.event.push_invalid.Goals as goal

pub returns : goal.returns
returns c = in_four _ c.args.out.now.items _ (codes "denied Invalid ") (kind_word c.args.error.now.kind) (codes " ") (path_text c.args.error.now.path) c.push_shown.ensures
