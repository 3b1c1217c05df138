use Rattle.std.proofs.Common.{true, false}
use Rattle.ckpt_journal.specs.Table.{row_after}
use Rattle.ckpt_journal.specs.declared.record.Record.TheVariants as items
use Rattle.prepare_core.specs.Held.{HoldsIn}
use Rattle.prepare_core.specs.Runs.{called}
use Rattle.prepare_core.specs.declared.driver.CallKind.TheVariants as kinds
use Rattle.prepare_core.proofs.Ends.{end_after, end_now, holds_either, none_holds}
use Rattle.prepare_core.proofs.Holding.{begun_keeps, failed_holds, gone_holds, leaving_keeps, left_hold, prepared_holds, prepared_keeps, set_keeps}
use Rattle.prepare_core.proofs.moments.held_claims_stay.Goals as goal

pub returns-clause-none : goal.returns-clause-none
returns-clause-none c = λ rows calls x keeps.
    record {
      during = λ held. c.moments_join.ensures.rest calls x (none_holds calls rows x held keeps);
      ends = λ held. end_now (HoldsIn calls) x x (c.moments_join.ensures.rest calls x (none_holds calls rows x held keeps));
    }

pub returns-clause-set : goal.returns-clause-set
returns-clause-set c = λ rows item calls x y is all.
    record {
      during = λ held. c.moments_imply.ensures (rows, item) calls x y (holds_either calls rows item held (set_keeps calls rows item is held)) all;
      ends = λ held. end_now (HoldsIn calls) x y (c.moments_imply.ensures (rows, item) calls x y (holds_either calls rows item held (set_keeps calls rows item is held)) all);
    }

pub returns-clause-failed : goal.returns-clause-failed
returns-clause-failed c = λ rows k claim calls x y all.
    let now = called kinds.Prepare claim false calls in
    record {
      during = λ held. c.moments_imply.ensures (rows, items.Begun k) calls x y (holds_either calls rows (items.Begun k) held (begun_keeps calls rows k held)) all;
      ends = λ held.
          let then = failed_holds calls rows kinds.Prepare claim held in
          end_now (HoldsIn now) x y (c.moments_imply.ensures (rows, items.Begun k) now x y (holds_either now rows (items.Begun k) then (begun_keeps now rows k then)) all);
    }

pub returns-clause-asked : goal.returns-clause-asked
returns-clause-asked c = λ rows k claim calls x y z same first second.
    let now = called kinds.Prepare claim true calls in
    let begun = row_after rows (items.Begun k) in
    record {
      during = λ held.
          let kept = begun_keeps calls rows k held in
          c.moments_join.ensures.joined calls x y z
          (c.moments_imply.ensures (rows, items.Begun k) calls x y (holds_either calls rows (items.Begun k) held kept) first)
          (c.moments_imply.ensures (begun, items.Prepared k) calls y z (holds_either calls begun (items.Prepared k) kept (prepared_keeps calls begun k kept)) second);
      ends = λ held.
          let kept = begun_keeps calls rows k held in
          let then = prepared_holds calls rows claim k same held in
          end_after (HoldsIn now) (HoldsIn calls) x y z (c.moments_imply.ensures (rows, items.Begun k) calls x y (holds_either calls rows (items.Begun k) held kept) first)
          (end_now (HoldsIn now) y z (c.moments_imply.ensures (begun, items.Prepared k) now y z (holds_either now begun (items.Prepared k) then (prepared_keeps now begun k then)) second));
    }

pub returns-clause-leaving : goal.returns-clause-leaving
returns-clause-leaving c = λ rows gone calls x y all.
    record { during = λ held. c.moments_imply.ensures (rows, items.Leaving gone) calls x y (holds_either calls rows (items.Leaving gone) held (leaving_keeps calls rows gone held)) all }

pub returns-clause-not_left : goal.returns-clause-not_left
returns-clause-not_left c = λ rows gone claim calls x y all.
    let now = called kinds.Unprepare claim false calls in
    record {
      during = λ held.
          let then = failed_holds calls rows kinds.Unprepare claim held in
          c.moments_imply.ensures (rows, items.Leaving gone) now x y (holds_either now rows (items.Leaving gone) then (leaving_keeps now rows gone then)) all;
    }

pub returns-clause-left : goal.returns-clause-left
returns-clause-left c = λ rows gone claim calls x y z same first second.
    let now = called kinds.Unprepare claim true calls in
    let leaving = row_after rows (items.Leaving gone) in
    record {
      during = λ held.
          let then = left_hold calls rows claim held in
          let stays = leaving_keeps now rows gone then in
          c.moments_join.ensures.joined now x y z
          (c.moments_imply.ensures (rows, items.Leaving gone) now x y (holds_either now rows (items.Leaving gone) then stays) first)
          (c.moments_imply.ensures (leaving, items.Gone gone) now y z (holds_either now leaving (items.Gone gone) stays (gone_holds calls leaving claim gone same (leaving_keeps calls rows gone held))) second);
    }
