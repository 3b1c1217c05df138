use Rattle.std.proofs.Common.{◌≡◌, ℕ, List, ◌-◌, length, take, drop, arith, sym, ap, ◌∙◌}
use Rattle.cel_lex.proofs.Cuts.{slice_rest}
use Rattle.cel_lex.proofs.StringLaws.{EndAt-plain, EndAt-escaped, end-close, end-wrong, end-cut, escaped_fits}
use Rattle.cel_lex.specs.Strings.{part_of}
use Rattle.cel_lex.specs.declared.quotes.Quotes.{Quotes}
use Rattle.cel_lex.specs.declared.part.Part.{Part}
use Rattle.cel_lex.specs.declared.part.Part.TheVariants.{Close, Plain, Escaped, Wrong, Cut}
use Rattle.cel_lex.proofs.part.string_end.Goals as goal

-- the slice from an offset on is what follows it
here : (q : Quotes) (src : List ℕ) (at : ℕ) (p : Part) → p ≡ part_of q (take (length src - at) (drop at src)) → part_of q (drop at src) ≡ p
here q src at p h =
    sym (ap (part_of q) (slice_rest src at)) ∙ sym h

pub returns-in-Close : goal.returns-in-Close
returns-in-Close c =
    let found = here c.args.quotes c.args.source.now c.loop-at.at Close c.in-Close.ensures.exact in
    let end = end-close c.args.quotes c.args.from c.loop-at.at _ found in
    let same = c.loop-at.invariant.same in
    cc

pub loop-at-preserved-in-Plain : goal.loop-at-preserved-in-Plain
loop-at-preserved-in-Plain c =
    EndAt-plain _ _ _ _ _ c.loop-at.invariant (here c.args.quotes c.args.source.now c.loop-at.at Plain c.in-Plain.ensures.exact)

pub loop-at-preserved : goal.loop-at-preserved
loop-at-preserved c =
    EndAt-escaped _ _ _ _ _ _ c.loop-at.invariant (here c.args.quotes c.args.source.now c.loop-at.at (Escaped c.in-Escaped.escape) c.in-Escaped.ensures.exact)

pub loop-at-smaller : goal.loop-at-smaller
loop-at-smaller c =
    let found = here c.args.quotes c.args.source.now c.loop-at.at (Escaped c.in-Escaped.escape) c.in-Escaped.ensures.exact in
    let more = EndAt-escaped _ _ _ _ _ _ c.loop-at.invariant found in
    let fits = escaped_fits _ _ _ found in
    omega (arith, more.within, fits.some)

pub returns-in-Wrong : goal.returns-in-Wrong
returns-in-Wrong c =
    let found = here c.args.quotes c.args.source.now c.loop-at.at Wrong c.in-Wrong.ensures.exact in
    let end = end-wrong c.args.quotes c.args.from c.loop-at.at _ found in
    let same = c.loop-at.invariant.same in
    cc

pub returns-in-Cut : goal.returns-in-Cut
returns-in-Cut c =
    let found = here c.args.quotes c.args.source.now c.loop-at.at Cut c.in-Cut.ensures.exact in
    let end = end-cut c.args.quotes c.args.from c.loop-at.at _ found in
    let same = c.loop-at.invariant.same in
    cc
