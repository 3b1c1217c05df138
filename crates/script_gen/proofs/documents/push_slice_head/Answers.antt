use Rattle.std.proofs.Common.{append_assoc}
use Rattle.script_gen.proofs.documents.push_slice_head.Goals as goal

pub returns : goal.returns
returns c = simp append_assoc (simp append_assoc at simp c.in_ok-write.ensures.bytes at c.write-2.ensures.bytes)
