use Rattle.std.proofs.Common.{◌≡◌, ◌∙◌, ap, arith, length, sym}
use Rattle.ckpt_journal.specs.Format.{body}
use Rattle.ckpt_journal.proofs.Fits.{fits_from, full_alone, full_long, spelled_is}
use Rattle.ckpt_journal.proofs.spelling.spelled.Goals as goal

pub returns-then-long_record-clause-full : goal.returns-then-long_record-clause-full
returns-then-long_record-clause-full c = λ _ rows. full_long c.args.item.now c.args.half rows (sym c.long_record.ensures ∙ c.if-long_record.true)

pub returns-clause-bytes : goal.returns-clause-bytes
returns-clause-bytes c = spelled_is c.args.item.now c.deref.result.now c.in_ok-framed.field-0.items (c.deref.ensures.value ∙ c.in_ok-body.ensures.body) c.in_ok-framed.ensures

pub returns-then-len-half-clause-full : goal.returns-then-len-half-clause-full
returns-then-len-half-clause-full c = λ _ rows.
    full_alone c.args.item.now c.args.half (length c.in_ok-body.body.items) rows (ap length c.in_ok-body.ensures.body) (omega (arith, c.if-len-half.true, c.len.ensures))

pub returns-clause-fits : goal.returns-clause-fits
returns-clause-fits c =
    let len : length c.in_ok-body.body.items ≡ length (body c.args.item.now) = ap length c.in_ok-body.ensures.body in
    fits_from c.args.item.now (sym c.long_record.ensures ∙ c.if-long_record.false) c.in_ok-body.ensures.is_text c.requires.reads (omega (arith, len, c.if-len-half.false, c.len.ensures, c.requires.most))
