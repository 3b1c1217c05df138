use Rattle.std.proofs.Common.{ap, sym, ◌∙◌, arith}
use mathlib.Core.Option.{some-injective}
use Rattle.turn_lock.proofs.Keeps.{ended, ended_with, idle_of}
use Rattle.turn_lock.proofs.lock.TurnLock.close.Goals as goal

pub unreachable-requires : goal.unreachable-requires
unreachable-requires g c =
    let i = c.pass.invariant in
    let p = c.pass.view_is in
    let idle = idle_of _ i.2 (ap (λ k. k.turn) p ∙ c.requires.free) in
    let k = ended _ _ _ _ _ _ _ _ _ c.close_with-closed.ensures.values.2 idle (ap (λ k. k.share) p ∙ c.requires.whole ∙ sym (ap (λ z. z.passes) c.self.view_is)) (omega (arith, i.0, i.1)) in
    c.in_default.not-Some k.0 (some-injective _ _ (sym c.take.ensures.value ∙ k.1))

pub returns : goal.returns
returns g c =
    let i = c.pass.invariant in
    let p = c.pass.view_is in
    let l = c.self.view_is in
    let idle = idle_of _ i.2 (ap (λ k. k.turn) p ∙ c.requires.free) in
    let k = ended_with _ _ _ _ _ _ _ _ _ c.close_with-closed.ensures.values.2 idle (ap (λ k. k.share) p ∙ c.requires.whole ∙ sym (ap (λ z. z.passes) l)) (omega (arith, i.0, i.1)) _ _ c.args.pass c.args.self c.take.ensures.value c.in-Some.is (ap (λ k. k.front) p) (ap (λ k. k.own) p) (ap (λ z. z.opening) l) (ap (λ z. z.number) l) in
    record { begins = k.0; number = k.1; own = k.2 }
