use Rattle.std.proofs.Common.{arith, lit<, ◌+◌, ◌≤◌}
use Rattle.std.proofs.Math.Nat.{pow-le-pow_right}
use Rattle.quantity.proofs.text.ten_to.Goals as goal

pub pow-requires : goal.pow-requires
pow-requires c =
    let small : 9 + c.args.size ≤ 27 = omega (arith, c.requires) in
    omega (arith, pow-le-pow_right {n = 10} (lit< tt) small)

pub returns-then-not-negative-clause-bounded : goal.returns-then-not-negative-clause-bounded
returns-then-not-negative-clause-bounded c =
    let small : 9 + c.args.size ≤ 27 = omega (arith, c.requires) in
    omega (arith, c.pow.ensures, pow-le-pow_right {n = 10} (lit< tt) small)
