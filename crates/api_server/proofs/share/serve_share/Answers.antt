use Rattle.std.proofs.Common.{◌∙◌, Option, None, ap, arith, subst}
use Rattle.door_ports.specs.Shares.{advanced}
use Rattle.api_server.specs.Talks.{NextDid, seen}
use Rattle.api_server.specs.declared.share_end.ShareEnd.{ShareEnd}
use Rattle.api_server.proofs.Sharing.{next_share, went_more}
use Rattle.api_server.proofs.share.serve_share.Goals as goal

pub connections-preserved : goal.connections-preserved
connections-preserved g c =
    let i = c.connections.invariant in
    let did : NextDid (record { budget = c.args.budget; attempts = c.args.attempts }) c.connections.pass c.serve_next-end.new.pass (seen g.D.Door.share g.D.Door.in_service g.D.Door.served g.D.Door.ended g.D.Door.faults c.connections.door) (seen g.D.Door.share g.D.Door.in_service g.D.Door.served g.D.Door.ended g.D.Door.faults c.serve_next-end.new.door) None =
    subst (λ (o : Option ShareEnd). NextDid (record { budget = c.args.budget; attempts = c.args.attempts }) c.connections.pass c.serve_next-end.new.pass (seen g.D.Door.share g.D.Door.in_service g.D.Door.served g.D.Door.ended g.D.Door.faults c.connections.door) (seen g.D.Door.share g.D.Door.in_service g.D.Door.served g.D.Door.ended g.D.Door.faults c.serve_next-end.new.door) o) c.in_default.is c.serve_next-end.ensures.did in
    record {
      of = c.serve_next-end.ensures.of;
      free = c.serve_next-end.ensures.free;
      positive = (let p = i.positive in omega (arith, p));
      share = next_share _ _ _ _ _ did ∙ ap advanced i.share;
      went = went_more (record { budget = c.args.budget; attempts = c.args.attempts }) c.args.pass.now c.connections.pass c.serve_next-end.new.pass (seen g.D.Door.share g.D.Door.in_service g.D.Door.served g.D.Door.ended g.D.Door.faults c.args.door.now)
          (seen g.D.Door.share g.D.Door.in_service g.D.Door.served g.D.Door.ended g.D.Door.faults c.connections.door) (seen g.D.Door.share g.D.Door.in_service g.D.Door.served g.D.Door.ended g.D.Door.faults c.serve_next-end.new.door) i.went did;
    }
