use Rattle.std.proofs.Common.{◌∙◌, ap}
use Rattle.std.specs.Prelude.{is_some}
use Rattle.cel_value.proofs.Keys.{found_same}
use Rattle.cel_value.proofs.lookups.has_key.Goals as goal

pub returns : goal.returns
returns c = c.contains_key.ensures ∙ ap is_some (found_same c.args.key.now c.args.entries.now)
