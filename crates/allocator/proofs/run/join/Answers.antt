use Rattle.request_rows.specs.Wanted.{input_of}
use Rattle.std.proofs.Common.{false, true}
use Rattle.allocator.proofs.Joining.{joins_at}
use Rattle.allocator.proofs.run.join.Goals as goal

pub returns-in_err-take-in-Some-clause-setting : goal.returns-in_err-take-in-Some-clause-setting
returns-in_err-take-in-Some-clause-setting c = c.take.ensures.setting c.args.held.now.held

pub returns-in_ok-take-in-Some-clause-setting : goal.returns-in_ok-take-in-Some-clause-setting
returns-in_ok-take-in-Some-clause-setting c = c.take.ensures.setting c.args.held.now.held

pub returns-in-None-clause-good : goal.returns-in-None-clause-good
returns-in-None-clause-good c =
    joins_at (input_of c.args.rows.now) c.args.held.now.held c.args.run.now.totals c.args.run.now.chosen.items c.args.run.now.slots.items c.deref.result.now c.args.run.now.positions.items c.deref-2.result.now c.args.position false
    c.prefixes_are_good.ensures.push c.prefixes_are_good.ensures.past c.requires.kept.slots_are c.requires.good c.deref.ensures.value c.deref-2.ensures.value c.in-None.ensures.good

pub returns-in_ok-take-in-Some-clause-good : goal.returns-in_ok-take-in-Some-clause-good
returns-in_ok-take-in-Some-clause-good c =
    joins_at (input_of c.args.rows.now) c.args.held.now.held c.args.run.now.totals c.args.run.now.chosen.items c.args.run.now.slots.items c.deref.result.now c.args.run.now.positions.items c.deref-2.result.now c.args.position true
    c.prefixes_are_good.ensures.push c.prefixes_are_good.ensures.past c.requires.kept.slots_are c.requires.good c.deref.ensures.value c.deref-2.ensures.value c.in-Some.ensures.good
