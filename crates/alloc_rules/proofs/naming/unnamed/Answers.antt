use Rattle.std.proofs.Common.{rules}
use Rattle.request_rows.specs.Wanted.{input_of}
use Rattle.request_rules.specs.Ways.{all_asked}
use Rattle.alloc_rules.proofs.Picking.{unnamed_here, unnamed_next}
use Rattle.alloc_rules.proofs.naming.unnamed.Goals as goal

pub returns-then-is_named : goal.returns-then-is_named
returns-then-is_named c =
    unnamed_here c.args.results.now (all_asked (input_of c.args.rows.now)) c.args.first c.args.count c.loop-at.at _ c.loop-at-test.true c.requires (search rules) c.loop-at.invariant

pub loop-at-preserved : goal.loop-at-preserved
loop-at-preserved c =
    unnamed_next c.args.results.now (all_asked (input_of c.args.rows.now)) c.args.first c.args.count c.loop-at.at _ c.loop-at-test.true c.requires (search rules) c.loop-at.invariant
