use Rattle.std.proofs.Common.{◌≡◌, ◌≢◌, get_or, sym, ◌∙◌}
use Rattle.ckpt_journal.specs.Layout.{magic}
use Rattle.ckpt_journal.proofs.Header.{same_byte, other_byte, short, all_same}
use Rattle.ckpt_journal.proofs.reading.magic_fault.Goals as goal

pub returns-then-at-bytes : goal.returns-then-at-bytes
unfolding magic
returns-then-at-bytes c = sym (short magic c.args.bytes.now c.loop-at.at c.loop-at-test.true c.if-at-bytes.true) ∙ c.loop-at.invariant

pub returns-then-bytes-at : goal.returns-then-bytes-at
unfolding magic
returns-then-bytes-at c = let h : get_or c.args.bytes.now c.loop-at.at 0 ≢ get_or magic c.loop-at.at 0 = c.if-bytes-at.true in sym (other_byte magic c.args.bytes.now c.loop-at.at c.loop-at-test.true c.if-at-bytes.false h) ∙ c.loop-at.invariant

pub loop-at-preserved : goal.loop-at-preserved
unfolding magic
loop-at-preserved c = let h : get_or c.args.bytes.now c.loop-at.at 0 ≡ get_or magic c.loop-at.at 0 = c.if-bytes-at.false in sym (same_byte magic c.args.bytes.now c.loop-at.at c.loop-at-test.true c.if-at-bytes.false h) ∙ c.loop-at.invariant

pub returns : goal.returns
unfolding magic
returns c = sym (all_same magic c.args.bytes.now c.loop-at.at c.loop-at-test.false) ∙ c.loop-at.invariant
