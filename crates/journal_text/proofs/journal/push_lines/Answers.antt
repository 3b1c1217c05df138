use Rattle.std.proofs.Common.{arith, ◌≤◌, ◌<◌, length}
use Rattle.journal_text.proofs.Appended.{lines_step, lines_end}
use Rattle.journal_text.proofs.journal.push_lines.Goals as goal

pub loop-place-preserved : goal.loop-place-preserved
loop-place-preserved c =
    let es = c.args.entries.now in
    let lt : c.loop-place.place < length es = omega arith in
    lines_step es _ _ _ _ _ lt c.index-entries-place.is c.loop-place.invariant c.in_ok-push_line.ensures

pub returns : goal.returns
returns c =
    let es = c.args.entries.now in
    let over : length es ≤ c.loop-place.place = omega arith in
    lines_end es _ _ _ over c.loop-place.invariant
