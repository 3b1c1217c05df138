use Rattle.std.proofs.Common.{refl, sym, ap, ◌∙◌}
use Rattle.request_rows.specs.declared.rows.Row.{Row}
use Rattle.request_rows.specs.Wanted.{input_of}
use Rattle.allocator.proofs.Keeping.{input_less, last_next, popped, run_less}
use Rattle.allocator.proofs.run.leave.Goals as goal

pub returns-in-Some-clause-kept : goal.returns-in-Some-clause-kept
returns-in-Some-clause-kept c =
    let l = popped c.args.run.now.positions.items c.pop.new.self.items c.pop.result c.in-Some.position c.pop.ensures.items c.in-Some.is in
    run_less (input_of c.args.rows.now) c.args.run.now _ (record { row = c.index.result.now.row; position = c.in-Some.position }) c.row.result.now.claim c.picked_of-picked.result c.requires.kept
    (last_next (input_of c.args.rows.now) c.args.run.now.slots.items c.args.run.now.positions.items c.pop.new.self.items c.len.result c.index.result.now c.in-Some.position c.requires.kept.placing l (c.len.ensures ∙ c.pop.new.self.ok.0) c.index.ensures)
    refl refl l c.give_back.ensures.drawn c.leave_all.ensures (sym (ap (λ (r : Row). r.claim) c.row.ensures)) c.picked_of-picked.ensures

pub returns-in-Some-clause-setting : goal.returns-in-Some-clause-setting
returns-in-Some-clause-setting c = λ held.
    let l = popped c.args.run.now.positions.items c.pop.new.self.items c.pop.result c.in-Some.position c.pop.ensures.items c.in-Some.is in
    input_less (input_of c.args.rows.now) held c.args.run.now (record { chosen = c.args.run.now.chosen; slots = c.args.run.now.slots; positions = c.pop.new.self; totals = c.give_back.new.totals; agreements = c.leave_all.new.agreements }) (record { row = c.index.result.now.row; position = c.in-Some.position }) c.requires.kept
    (last_next (input_of c.args.rows.now) c.args.run.now.slots.items c.args.run.now.positions.items c.pop.new.self.items c.len.result c.index.result.now c.in-Some.position c.requires.kept.placing l (c.len.ensures ∙ c.pop.new.self.ok.0) c.index.ensures)
    refl l c.give_back.ensures.drawn c.give_back.ensures.value
