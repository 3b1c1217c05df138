-- The type of items doesn't depend on where their list is cut.
use Rattle.std.proofs.Common.{◌≡◌, ℕ, zero, suc, Bool, true, false, if◌then◌else◌, refl, ap, sym, ◌∙◌, subst}
use Rattle.std.proofs.lemmas.Bool.{eqb-true}
use Rattle.std.specs.Prelude.{Option, Some, None}
use Rattle.cel_tree.specs.declared.types.Scalar.{Scalar}
use Rattle.cel_tree.specs.declared.types.Scalar.TheVariants.{Int, Bool as Truth, Text, Null, Quantity, Semver, Dyn}
use Rattle.cel_tree.specs.Types.{scalar_rank, same_scalar}
use Rattle.cel_tree.specs.Faults.{joined}

abbrev scalar_at : ℕ → Scalar
scalar_at zero = Int
scalar_at (suc zero) = Truth
scalar_at (suc (suc zero)) = Text
scalar_at (suc (suc (suc zero))) = Null
scalar_at (suc (suc (suc (suc zero)))) = Quantity
scalar_at (suc (suc (suc (suc (suc zero))))) = Semver
scalar_at (suc (suc (suc (suc (suc (suc n)))))) = Dyn

at_rank : (s : Scalar) → scalar_at (scalar_rank s) ≡ s
at_rank Int = refl
at_rank Truth = refl
at_rank Text = refl
at_rank Null = refl
at_rank Quantity = refl
at_rank Semver = refl
at_rank Dyn = refl

same_is : (s t : Scalar) → same_scalar s t ≡ true → s ≡ t
same_is s t e = sym (at_rank s) ∙ ap scalar_at (eqb-true (scalar_rank s) (scalar_rank t) e) ∙ at_rank t

with_dyn : (s : Scalar) → joined s (Some Dyn) ≡ Dyn
with_dyn Int = refl
with_dyn Truth = refl
with_dyn Text = refl
with_dyn Null = refl
with_dyn Quantity = refl
with_dyn Semver = refl
with_dyn Dyn = refl

dyn_with : (s : Scalar) → joined Dyn (Some s) ≡ Dyn
dyn_with Int = refl
dyn_with Truth = refl
dyn_with Text = refl
dyn_with Null = refl
dyn_with Quantity = refl
dyn_with Semver = refl
dyn_with Dyn = refl

with_itself : (s : Scalar) → joined s (Some s) ≡ s
with_itself Int = refl
with_itself Truth = refl
with_itself Text = refl
with_itself Null = refl
with_itself Quantity = refl
with_itself Semver = refl
with_itself Dyn = refl

joined_same : (s t : Scalar) (b : Bool) → same_scalar s t ≡ b → joined s (Some t) ≡ (if b then s else Dyn)
joined_same s t b e = rw e refl

-- joined with what was joined with it
again : (s x : Scalar) (b : Bool) → same_scalar s x ≡ b → joined s (Some (joined s (Some x))) ≡ joined s (Some x)
again s x true e = rw (joined_same s x true e) (with_itself s)
again s x false e = rw (joined_same s x false e) (with_dyn s)

-- joined with another
other : (f s x : Scalar) (b : Bool) → same_scalar f s ≡ false → same_scalar s x ≡ b → joined f (Some (joined s (Some x))) ≡ Dyn
other f s x true n e = rw (joined_same s x true e) (joined_same f s false n)
other f s x false n e = rw (joined_same s x false e) (with_dyn f)

joined_twice : (f s x : Scalar) (b : Bool) → same_scalar f s ≡ b → joined (joined f (Some s)) (Some x) ≡ joined f (Some (joined s (Some x)))
joined_twice f s x true e =
    subst (λ t. joined (joined f (Some t)) (Some x) ≡ joined f (Some (joined t (Some x)))) (same_is f s e)
    (ap (λ g. joined g (Some x)) (with_itself f) ∙ sym (again f x (same_scalar f x) refl))
joined_twice f s x false e = ap (λ g. joined g (Some x)) (joined_same f s false e) ∙ dyn_with x ∙ sym (other f s x (same_scalar s x) e refl)

pub joined_assoc : (f s : Scalar) (r : Option Scalar) → joined (joined f (Some s)) r ≡ joined f (Some (joined s r))
joined_assoc f s None = refl
joined_assoc f s (Some x) = joined_twice f s x (same_scalar f s) refl
