use Rattle.std.proofs.Common.{◌∙◌}
use Rattle.cel_value.proofs.Keys.{found_same}
use Rattle.cel_value.proofs.lookups.at_key.Goals as goal

pub returns : goal.returns
returns c = let e = c.get.ensures ∙ found_same c.args.key.now c.args.entries.now in rw e at c.found.ensures
