use Rattle.std.proofs.Common.{ap}
use Rattle.std.specs.Option.{option_map}
use Rattle.walk.specs.Walk.{Faulty}
use Rattle.request_rules.specs.Faults.{FaultPlace, fault_of}
use Rattle.std.proofs.Common.{Option, Some, ◌≡◌}
use Rattle.cluster.specs.declared.plan.SelectorFault.{SelectorFault}
use Rattle.request_rows.specs.Wanted.{input_of}
use Rattle.allocator.specs.Answered.{selector_fault}
use Rattle.allocator.specs.Kept.{board_setting}
use Rattle.allocator.proofs.Viewed.{fault_here, fault_told, if_ok, shape_here}
use Rattle.allocator.proofs.board.RequestBoard.fault.Goals as goal

pub fault_at-requires : goal.fault_at-requires
fault_at-requires c = shape_here c.self.inside.rows.now c.self.inside.held.now.held c.self.inside.run c.args.self.now Faulty c.deref.result.now c.self.view_is c.deref.ensures.value c.requires

pub returns : goal.returns
returns c =
    if_ok c.fault_at.result
    (λ (f : SelectorFault). option_map selector_fault (fault_of (input_of c.self.inside.rows.now) c.deref.result.now) ≡ Some f)
    (λ (f : SelectorFault). option_map selector_fault (fault_of (board_setting c.args.self.now) c.args.self.now.choice) ≡ Some f)
    (λ f e. fault_told _ _ f (ap (λ (z : Option FaultPlace). option_map selector_fault z) (fault_here c.self.inside.rows.now c.self.inside.held.now.held c.self.inside.run c.args.self.now c.deref.result.now c.self.view_is c.deref.ensures.value)) e)
    c.fault_at.ensures
