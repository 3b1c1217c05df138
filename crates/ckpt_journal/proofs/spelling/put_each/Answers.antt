use Rattle.std.proofs.Common.{arith}
use Rattle.ckpt_journal.specs.Format.{is_long_text, text_bytes}
use Rattle.ckpt_journal.proofs.EachName.{all_after, none_after, put_after}
use Rattle.ckpt_journal.proofs.spelling.put_each.Goals as goal

pub loop-name-preserved : goal.loop-name-preserved
loop-name-preserved g c =
    let names = c.args.names.now in
    let i = c.loop-name.name-index in
    let x = c.name-item.result in
    let is = c.name-item.is in
    record {
      short = none_after names i x (omega arith) is (λ a. is_long_text (g.T.Named.text a)) c.loop-name.invariant.short;
      put = put_after names i x (omega arith) is (λ a. text_bytes (g.T.Named.text a)) c.loop-name.into.items _ _ c.in_ok-put_name.ensures.put c.loop-name.invariant.put;
      texts = all_after names i x (omega arith) is g.T.Named.is_text _ c.in_ok-put_name.ensures.is_text c.loop-name.invariant.texts;
    }
