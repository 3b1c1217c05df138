use Rattle.std.proofs.Common.{◌≡◌, true, drop, sym, ap, ◌∙◌}
use Rattle.cel_lex.proofs.Cuts.{slice_rest}
use Rattle.cel_lex.proofs.GapLaws.{GapAt-comment}
use Rattle.cel_lex.specs.Bytes.{begins_comment}
use Rattle.cel_lex.specs.Gap.{comment_of}
use Rattle.cel_lex.proofs.gap.gap_len.Goals as goal

pub loop-at-preserved : goal.loop-at-preserved
loop-at-preserved c =
    let src = c.args.text.now in
    let rest = slice_rest src c.loop-at.at in
    let opens : begins_comment (drop c.loop-at.at src) ≡ true = sym (ap begins_comment rest) ∙ sym c.begins_comment.ensures ∙ c.loop-at-test.true in
    let len : c.comment_len-at.result ≡ comment_of (drop c.loop-at.at src) = c.comment_len-at.ensures.count ∙ ap comment_of rest in
    rw len (GapAt-comment src c.loop-at.at c.loop-at.invariant opens)
