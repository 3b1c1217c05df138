-- That the claims of a pod have room for it.
use Rattle.std.proofs.Common.{◌≡◌, List, [], ◌∷◌, Bool, true, false, cond, not, Option, None, Some, refl}
use Rattle.std.specs.List.{AllByRecursion, All, find}
use Rattle.std.proofs.lemmas.List.Elements.{All-from_recursion}
use Rattle.object_fields.specs.declared.key.Key.{Key}
use Rattle.pool_view.specs.Names.{at_key}
use Rattle.cluster.specs.declared.state.State.{State}
use Rattle.cluster.specs.declared.state.PodState.{PodState}
use Rattle.cluster.specs.State.{claims_of, may_use}
use Rattle.allocations.specs.Claims.{full_claim}

passed_by : {X : Type 0} (b : Bool) (x : X) (o : Option X) → cond (not b) (Some x) o ≡ None → (b ≡ true) × (o ≡ None)
passed_by true x o e = (refl, e)
passed_by false x o e = absurd (cc)

none_fails : {X : Type 0} (t : X → Bool) (xs : List X) → find (λ x. not (t x)) xs ≡ None → AllByRecursion (λ x. t x ≡ true) xs
none_fails t [] e = tt
none_fails t (x ∷ xs) e =
    let p = passed_by (t x) x (find (λ y. not (t y)) xs) e in
    (p.0, none_fails t xs p.1)

pub room_of : (s : State) (pod : Key) (p : PodState) → full_claim s pod p.pod.object ≡ None → All (λ k. may_use pod (at_key s.claims k) ≡ true) (claims_of p)
unfolding full_claim
room_of s pod p e = All-from_recursion (λ k. may_use pod (at_key s.claims k) ≡ true) (claims_of p) (none_fails (λ k. may_use pod (at_key s.claims k)) (claims_of p) e)
