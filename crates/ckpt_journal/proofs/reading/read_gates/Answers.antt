use Rattle.std.proofs.Common.{Bor, ℕ, ◌≡◌, ◌≢◌, List, Some, None, Err, ◌+◌, ◌-◌, ◌∷◌, take, length-append, get_or, drop, ap, sym, subst, ◌∙◌, arith, length, length-drop, [], ◌++◌}
use Rattle.std.proofs.lemmas.List.{take_rest}
use Rattle.std.specs.List.{AllByRecursion}
use Rattle.ckpt_journal.specs.Format.{Fits, block, blocks}
use Rattle.ckpt_journal.proofs.Taken.{one_more, goes_on, fault_at, next_taken, no_record, read_is, ends}
use Rattle.ckpt_journal.proofs.Fits.{all_read_back}
use Rattle.ckpt_journal.proofs.Read.{gates_none, not_empty}
use Rattle.ckpt_journal.specs.Reading.{block_at, from_start}
use Rattle.ckpt_journal.specs.declared.record.Record.{Record}
use Rattle.ckpt_journal.proofs.reading.read_gates.Goals as goal

pub returns-then-is_empty-clause-exact : goal.returns-then-is_empty-clause-exact
returns-then-is_empty-clause-exact c = gates_none c.args.start c.args.bytes.now _ c.is_empty.ensures c.if-is_empty.true

pub loop-rest-init : goal.loop-rest-init
loop-rest-init c =
    let none : c.new-records.result.items ≡ [] = c.new-records.ensures.items in
    record {
      parts = ap (λ (es : List Record). blocks es ++ c.args.bytes.now) (sym none);
      more = not_empty c.args.bytes.now _ c.is_empty.ensures c.if-is_empty.false;
      most = omega arith;
      fits = subst (AllByRecursion Fits) (sym none) tt;
    }

pub loop-rest-smaller : goal.loop-rest-smaller
loop-rest-smaller c =
    let rest = c.loop-rest.rest.now in
    let e = c.in-Ok.record in
    let is : block_at (drop 1 rest) ≡ Some (e, c.in-Ok.after.now) = ap block_at (sym (take_rest rest 1)) ∙ c.in-Ok.ensures in
    let taken = next_taken _ e c.args.bytes.now rest c.in-Ok.after.now c.loop-rest.invariant.parts (λ i. omega (arith, c.type_inv.bytes i)) is in
    omega (arith, ap length taken.parts, length-append (block e) c.in-Ok.after.now, length-drop 1 rest, c.loop-rest.invariant.more)

pub loop-rest-preserved : goal.loop-rest-preserved
loop-rest-preserved c =
    let rest = c.loop-rest.rest.now in
    let e = c.in-Ok.record in
    let es = c.loop-rest.records.items in
    let is : block_at (drop 1 rest) ≡ Some (e, c.in-Ok.after.now) = ap block_at (sym (take_rest rest 1)) ∙ c.in-Ok.ensures in
    let taken = next_taken es e c.args.bytes.now rest c.in-Ok.after.now c.loop-rest.invariant.parts (λ i. omega (arith, c.type_inv.bytes i)) is in
    let more : es ++ e ∷ [] ≡ c.push.new.self.items = sym c.in_ok-push-in-Ok.ensures.items in
    let open_gate : get_or rest 0 0 ≡ 90 = c.loop-rest-test.true in
    record {
      parts = goes_on es e c.args.bytes.now rest c.in-Ok.after.now c.loop-rest.invariant.parts c.loop-rest.invariant.more open_gate taken ∙ ap (λ (fs : List Record). blocks fs ++ c.in-Ok.after.now) more;
      more = taken.more;
      most = omega (arith, ap length taken.parts, length-append (block e) c.in-Ok.after.now, length-drop 1 rest, c.loop-rest.invariant.most);
      fits = subst (AllByRecursion Fits) more (one_more Fits es e c.loop-rest.invariant.fits taken.fits);
    }

pub returns-in-Err-NoRecord-clause-exact : goal.returns-in-Err-NoRecord-clause-exact
returns-in-Err-NoRecord-clause-exact c =
    let rest = c.loop-rest.rest.now in
    let is : block_at (drop 1 rest) ≡ None = ap block_at (sym (take_rest rest 1)) ∙ no_record {V = Record × Bor (List ℕ)} (λ x. (x.0, x.1.now)) c.in-Err-NoRecord.field-0 _ c.in-Err-NoRecord.field-0-is c.in-Err-NoRecord.ensures in
    let open_gate : get_or rest 0 0 ≡ 90 = c.loop-rest-test.true in
    ap (from_start c.args.start) (fault_at _ c.args.bytes.now rest c.loop-rest.invariant.parts c.loop-rest.invariant.fits c.loop-rest.invariant.more open_gate is)

pub returns-clause-exact : goal.returns-clause-exact
returns-clause-exact c =
    let shut : get_or c.loop-rest.rest.now 0 0 ≢ 90 = c.loop-rest-test.false in
    ap (from_start c.args.start) (read_is _ c.args.bytes.now c.loop-rest.rest.now c.loop-rest.invariant.parts c.loop-rest.invariant.fits c.loop-rest.invariant.more shut)

pub returns-clause-ends : goal.returns-clause-ends
returns-clause-ends c =
    let shut : get_or c.loop-rest.rest.now 0 0 ≢ 90 = c.loop-rest-test.false in
    ends _ c.args.bytes.now c.loop-rest.rest.now c.loop-rest.invariant.parts c.loop-rest.invariant.fits c.loop-rest.invariant.more shut

pub returns-clause-readable : goal.returns-clause-readable
returns-clause-readable c = all_read_back _ c.loop-rest.invariant.fits
