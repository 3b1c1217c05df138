use Rattle.std.proofs.Common.{List, map, length, ◌≡◌, ◌∙◌}
use Rattle.cluster.specs.declared.plan.Grant.{Grant}
use Rattle.request_rules.specs.Allocation.{result_of}
use Rattle.request_rules.specs.Grants.{grants_from}
use Rattle.request_rows.specs.Wanted.{input_of}
use Rattle.allocator.specs.Answered.{grant_of, grants_at}
use Rattle.allocator.specs.Kept.{board_setting}
use Rattle.allocator.specs.Placing.{placed}
use Rattle.allocator.proofs.Viewed.{granted_here, if_ok}
use Rattle.allocator.proofs.board.RequestBoard.grants.Goals as goal

pub returns : goal.returns
returns c =
    if_ok c.grants_of.result
    (λ (gs : List Grant). gs ≡ map grant_of (grants_from 0 c.args.claims.now (map (result_of (input_of c.self.inside.rows.now)) (placed (input_of c.self.inside.rows.now) c.deref.result.now c.deref-2.result.now))))
    (λ (gs : List Grant). gs ≡ grants_at (board_setting c.args.self.now) c.args.self.now.choice c.args.self.now.positions)
    (λ gs e. e ∙ granted_here c.self.inside.rows.now c.self.inside.held.now.held c.self.inside.run c.deref.result.now c.deref-2.result.now c.args.claims.now c.args.self.now (length c.args.self.now.positions)
    c.self.view_is c.self.invariant.run.slots_are c.deref.ensures.value c.deref-2.ensures.value c.requires.whole c.requires.claims)
    c.grants_of.ensures
