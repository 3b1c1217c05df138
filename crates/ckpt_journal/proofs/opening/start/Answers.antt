use Rattle.std.proofs.Common.{◌≡◌, ◌+◌, ap, ◌∙◌, arith, sym}
use Rattle.ckpt_journal.specs.Layout.{start_of}
use Rattle.ckpt_journal.specs.Table.{table}
use Rattle.ckpt_journal.proofs.Opens.{kept_at, settled_at, told_rest, used_at}
use Rattle.ckpt_journal.proofs.opening.start.Goals as goal

pub returns-in_err-rows-clause-any_moment : goal.returns-in_err-rows-clause-any_moment
returns-in_err-rows-clause-any_moment g c = told_rest c.args.file.now.layout c.args.file.now.records.items c.args.file.now.end _ c.requires.found c.requires.told

pub move_over-requires-clause-rows : goal.move_over-requires-clause-rows
move_over-requires-clause-rows g c = (used_at c.args.file.now.layout c.args.file.now.records.items c.in_ok-rows.rows.items c.args.file.now.end c.in-Single.is c.requires.found (c.in_ok-rows.ensures ∙ ap table c.deref.ensures.value)).0

pub move_over-requires-clause-used : goal.move_over-requires-clause-used
move_over-requires-clause-used g c = (used_at c.args.file.now.layout c.args.file.now.records.items c.in_ok-rows.rows.items c.args.file.now.end c.in-Single.is c.requires.found (c.in_ok-rows.ensures ∙ ap table c.deref.ensures.value)).1

pub returns-in-Double-clause-opened : goal.returns-in-Double-clause-opened
returns-in-Double-clause-opened g c =
    let place : c.start.result + c.args.file.now.end ≡ start_of c.in-Double.halves + c.args.file.now.end = omega (arith, c.start.ensures) in
    kept_at c.args.file.now.layout c.args.file.now.records.items c.in_ok-rows.rows.items c.in-Double.halves c.args.file.now.end _ c.in-Double.is c.requires.found (c.in_ok-rows.ensures ∙ ap table c.deref.ensures.value) place

pub returns-in-Double-clause-settled : goal.returns-in-Double-clause-settled
returns-in-Double-clause-settled g c =
    let place : c.start.result + c.args.file.now.end ≡ start_of c.in-Double.halves + c.args.file.now.end = omega (arith, c.start.ensures) in
    settled_at c.args.file.now.layout c.args.file.now.records.items c.in_ok-rows.rows.items c.in-Double.halves c.args.file.now.end _ _ c.in-Double.is c.requires.found (c.in_ok-rows.ensures ∙ ap table c.deref.ensures.value) place c.requires.told

pub returns-in-Double-clause-any_moment : goal.returns-in-Double-clause-any_moment
returns-in-Double-clause-any_moment g c = told_rest c.args.file.now.layout c.args.file.now.records.items c.args.file.now.end _ c.requires.found c.requires.told
