use Rattle.std.proofs.Common.{◌≡◌, ℕ, ◌+◌, List, [], ◌∷◌, ◌++◌, ap, sym, ◌∙◌, arith}
use Rattle.std.proofs.lemmas.List.{length-replicate}
use Rattle.turn_lock.specs.Places.{times}
use Rattle.crew.proofs.tests.close_both.Goals as goal

times_append : (p : ℕ) (xs ys : List ℕ) → times p (xs ++ ys) ≡ times p xs + times p ys
times_append p [] ys = omega arith
times_append p (x ∷ xs) ys = let h = times_append p xs ys in omega arith

pub returns : goal.returns
returns c = λ p a b.
    let joined = ap (λ q. times p q.own) c.join-whole.ensures.joined in
    sym (times_append p c.args.first.own c.args.second.own) ∙ sym joined ∙ c.close.ensures.own.each p a (omega (arith, length-replicate c.close.result.value (tt {0})))
