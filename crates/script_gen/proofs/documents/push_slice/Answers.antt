use Rattle.std.specs.Prelude.{codes}
use Rattle.script_gen.proofs.Joined.{slice_joined}
use Rattle.script_gen.proofs.documents.push_slice.Goals as goal

pub returns : goal.returns
returns c =
    slice_joined _ _ _ _ _ _ _ _ (codes "]}}") (codes "\n") c.in_ok-push_slice_head.ensures c.in_ok-push_str.ensures.bytes c.in_ok-push_str-2.ensures.bytes
    c.in_ok-push_str-3.ensures.bytes
