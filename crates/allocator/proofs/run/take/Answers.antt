use Rattle.std.proofs.Common.{refl, sym, ap, arith}
use Rattle.request_rows.specs.declared.rows.Row.{Row}
use Rattle.request_rows.specs.Wanted.{input_of}
use Rattle.allocator.proofs.Keeping.{input_more, room, run_more}
use Rattle.allocator.proofs.run.take.Goals as goal

pub take_all-requires : goal.take_all-requires
take_all-requires c =
    let a = c.args.run.now.positions.small in
    let d = c.args.run.now.positions.ok in
    room 18446744073709551616 (input_of c.args.rows.now) c.args.run.now c.requires.kept (omega (arith, a, d.0, d.1))

pub returns-clause-kept : goal.returns-clause-kept
returns-clause-kept c =
    run_more (input_of c.args.rows.now) c.args.run.now _ c.args.pick c.row.result.now.claim c.picked_of-picked.result c.requires.kept c.requires.next c.requires.known refl refl c.in_ok-push.ensures.items
    c.draw.ensures.drawn c.take_all.ensures (sym (ap (λ (r : Row). r.claim) c.row.ensures)) c.picked_of-picked.ensures c.requires.agreed

pub returns-clause-setting : goal.returns-clause-setting
returns-clause-setting c = λ held.
    input_more (input_of c.args.rows.now) held c.args.run.now (record { chosen = c.args.run.now.chosen; slots = c.args.run.now.slots; positions = c.push.new.self; totals = c.draw.new.totals; agreements = c.take_all.new.agreements }) c.args.pick c.requires.next refl c.in_ok-push.ensures.items c.draw.ensures.drawn c.draw.ensures.value
