use Rattle.std.proofs.Common.{rules}
use Rattle.request_rows.specs.Wanted.{input_of}
use Rattle.alloc_rules.proofs.Picking.{none_picked, one_picked, some_picked}
use Rattle.alloc_rules.proofs.naming.pick_way.Goals as goal

pub returns-then-way-ways-clause-picks : goal.returns-then-way-ways-clause-picks
returns-then-way-ways-clause-picks c = λ q e a.
    some_picked (input_of c.args.rows.now) c.args.results.now c.args.named.now.next q c.args.request.now c.named_way-way.result c.ways_of-ways.result e a c.named_way-way.ensures c.requires.there c.ways_of-ways.ensures c.if-way-ways.true

pub returns-then-way-ways-clause-named : goal.returns-then-way-ways-clause-named
returns-then-way-ways-clause-named c = λ q e a t.
    one_picked (input_of c.args.rows.now) c.args.results.now q c.args.request.now c.args.named.now _ c.named_way-way.result c.ways_of-ways.result e a c.named_way-way.ensures c.requires.there c.ways_of-ways.ensures c.if-way-ways.true
    (search rules) (search rules) (search rules)

pub returns-clause-picks : goal.returns-clause-picks
returns-clause-picks c = λ q e a.
    none_picked (input_of c.args.rows.now) c.args.results.now c.args.named.now.next q c.args.request.now c.named_way-way.result c.ways_of-ways.result e a c.named_way-way.ensures c.ways_of-ways.ensures c.if-way-ways.false
