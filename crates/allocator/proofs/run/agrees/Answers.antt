use Rattle.std.proofs.Common.{sym, ap}
use Rattle.request_rules.specs.Asked.{rules_of}
use Rattle.request_rows.specs.declared.rows.Row.{Row}
use Rattle.request_rows.specs.Wanted.{input_of}
use Rattle.allocator.specs.Placing.{pick_seen}
use Rattle.allocator.proofs.run.agrees.Goals as goal

pub returns : goal.returns
returns c = λ ps agreed known.
    c.all_fit.ensures (input_of c.args.rows.now) ps (rules_of (input_of c.args.rows.now)) (pick_seen (input_of c.args.rows.now) c.args.pick) agreed (sym (ap (λ (r : Row). r.claim) c.row.ensures)) c.picked_of-picked.ensures known
