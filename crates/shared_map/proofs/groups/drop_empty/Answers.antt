use Rattle.std.proofs.Common.{arith, ◌≡◌, ◌<◌, ap, length}
use Rattle.shared_map.proofs.Placing.{dropped_same, left_some, some_of, none_of}
use Rattle.shared_map.proofs.groups.drop_empty.Goals as goal

pub returns-then-not-is_empty-clause-none_empty : goal.returns-then-not-is_empty-clause-none_empty
returns-then-not-is_empty-clause-none_empty g c =
    let some : 0 < length c.deref.result.now = some_of (length c.deref.result.now) c.if-not-is_empty.ensures in
    left_some c.args.groups.now.items c.args.at c.index.result.now c.requires.within c.index.ensures (omega (arith, some, ap length c.deref.ensures)) c.requires.others

pub returns-clause-same : goal.returns-clause-same
returns-clause-same g c =
    let none : length c.deref.result.now ≡ 0 = none_of (length c.deref.result.now) c.if-not-is_empty.ensures in
    dropped_same c.args.groups.now.items c.remove-empty.new.self.items c.args.at c.index.result.now c.remove-empty.ensures.items c.requires.within c.index.ensures (omega (arith, none, ap length c.deref.ensures))
