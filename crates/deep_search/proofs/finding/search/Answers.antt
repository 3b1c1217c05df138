use Rattle.std.proofs.Common.{rules, refl}
use Rattle.deep_search.specs.declared.answer.Status.TheVariants as status
use Rattle.deep_search.proofs.Turning.{search-empty, search-over, search-stopped}
use Rattle.deep_search.proofs.finding.search.Goals as goal

pub returns-in_default-clause-exact : goal.returns-in_default-clause-exact
returns-in_default-clause-exact g c =
    search-empty (g.B.Board.problem (g.B.Board.setting c.args.board.now)) c.args.options.now c.args.budget c.requires (search rules)

pub returns-in-Searching-clause-exact : goal.returns-in-Searching-clause-exact
returns-in-Searching-clause-exact g c =
    let b = c.visit_from.new.board in
    search-over (g.B.Board.problem (g.B.Board.setting c.args.board.now)) c.args.options.now c.in-Some.choice.items (g.B.Board.chosen b) (g.B.Board.placed b) c.args.budget c.visit_from.new.budget
    c.in_ok-visit_from.field-0 c.requires (search rules) c.in-Searching.is c.in_ok-visit_from.ensures.swept

pub returns-in-Full-clause-exact : goal.returns-in-Full-clause-exact
returns-in-Full-clause-exact g c =
    let b = c.visit_from.new.board in
    search-stopped (g.B.Board.problem (g.B.Board.setting c.args.board.now)) c.args.options.now c.in-Some.choice.items (g.B.Board.chosen b) (g.B.Board.placed b) c.args.budget c.visit_from.new.budget
    c.in_ok-visit_from.field-0 status.Full _ c.requires (search rules) c.in-Full.is refl c.in_ok-visit_from.ensures.swept

pub returns-in-Fault-clause-exact : goal.returns-in-Fault-clause-exact
returns-in-Fault-clause-exact g c =
    let b = c.visit_from.new.board in
    search-stopped (g.B.Board.problem (g.B.Board.setting c.args.board.now)) c.args.options.now c.in-Some.choice.items (g.B.Board.chosen b) (g.B.Board.placed b) c.args.budget c.visit_from.new.budget
    c.in_ok-visit_from.field-0 status.Fault _ c.requires (search rules) c.in-Fault.is refl c.in_ok-visit_from.ensures.swept

pub returns-clause-exact : goal.returns-clause-exact
returns-clause-exact g c =
    let b = c.visit_from.new.board in
    search-stopped (g.B.Board.problem (g.B.Board.setting c.args.board.now)) c.args.options.now c.in-Some.choice.items (g.B.Board.chosen b) (g.B.Board.placed b) c.args.budget c.visit_from.new.budget
    c.in_ok-visit_from.field-0 status.Spent _ c.requires (search rules) c.in-Spent.is refl c.in_ok-visit_from.ensures.swept
