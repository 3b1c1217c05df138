use Rattle.std.proofs.Common.{◌∙◌, sym}
use Rattle.counter_sets.proofs.Room.{back_after}
use Rattle.counter_sets.proofs.added.add_set.Goals as goal

pub returns-clause-back : goal.returns-clause-back
returns-clause-back c =
    back_after c.insert.result c.args.names.now c.push.new.self c.args.name.now c.in_ok-added.added c.in_ok-key.key c.args.sets.now c.insert.new.self c.new.result c.in_ok-added.ensures c.in_ok-key.ensures c.new.ensures
    c.in_ok-push.ensures.ok (sym c.contains_key.ensures ∙ c.if-contains_key.false) c.insert.ensures.ok c.insert.ensures.err
