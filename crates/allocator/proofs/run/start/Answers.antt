use Rattle.std.proofs.Common.{refl, sym, ap, ◌∙◌}
use Rattle.request_rules.specs.Problem.{open_slots}
use Rattle.request_rows.specs.Wanted.{input_of}
use Rattle.allocator.proofs.Keeping.{input_none, run_none}
use Rattle.allocator.proofs.run.start.Goals as goal

pub returns-clause-kept : goal.returns-clause-kept
returns-clause-kept c =
    run_none (input_of c.args.rows.now) c.clear.new.run _ c.clear.ensures.kept
    (c.in_ok-begun.ensures.slots ∙ ap (open_slots (input_of c.args.rows.now)) (sym c.in_ok-chosen.ensures.items)) c.in_ok-begun.ensures.rows
    c.clear.ensures.positions c.clear.ensures.positions refl refl

pub returns-clause-setting : goal.returns-clause-setting
returns-clause-setting c = λ held.
    input_none (input_of c.args.rows.now) held c.clear.new.run (record { chosen = c.in_ok-chosen.chosen; slots = c.in_ok-begun.begun.slots; positions = c.clear.new.run.positions; totals = c.clear.new.run.totals; agreements = c.clear.new.run.agreements })
    c.clear.ensures.positions c.clear.ensures.positions refl
    ∙ c.clear.ensures.setting held
