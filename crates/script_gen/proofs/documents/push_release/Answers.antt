use Rattle.std.proofs.Common.{append_assoc}
use Rattle.script_gen.proofs.documents.push_release.Goals as goal

pub returns : goal.returns
returns c = simp append_assoc c.writeln.ensures.bytes
