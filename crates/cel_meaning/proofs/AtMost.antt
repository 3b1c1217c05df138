-- Values within bounds of weight and number.
use Rattle.std.proofs.Common.{◌≡◌, ℕ, ◌≤◌, List, length, Bool, true, false, Result, Ok, Err, IfOk, refl, arith, subst, sym}
use Rattle.cel_tree.specs.declared.types.Scalar.TheVariants as scalar
use Rattle.cel_tree.specs.declared.types.CelType.{CelType}
use Rattle.cel_tree.specs.declared.types.CelType.TheVariants as kind
use Rattle.cel_tree.specs.Estimate.{bounds, weight_by, number_by}
use Rattle.cel_value.specs.declared.error.EvalError.{EvalError}
use Rattle.cel_value.specs.declared.value.Single.{Single}
use Rattle.cel_value.specs.declared.value.Value.{Value}
use Rattle.cel_value.specs.Device.{Device}
use Rattle.cel_value.specs.Values.{weight_of}
use Rattle.cel_value.specs.Lookups.{elements_of}
use Rattle.cel_meaning.specs.HasKind.{HasKind, of_scalar, of_list, of_map, of_domains, of_entries, a_null, a_bool, an_int, a_text, a_quantity, a_version, anything}
use Rattle.cel_meaning.proofs.Limited.{Limited, domains_number, ids_number}

-- how many elements there are
abbrev pub how_many : Result (List Single) EvalError → ℕ
how_many (Ok xs) = length xs
how_many (Err e) = 0

pub record AtMost (d : Device) (w n : ℕ) (v : Value) : Type 0 where
  pub weight : weight_of v ≤ w
  pub number : how_many (elements_of d v) ≤ n

-- types whose values have one weight
unfoldable pub is_fixed : CelType → Bool
is_fixed (kind.Scalar scalar.Int) = true
is_fixed (kind.Scalar scalar.Bool) = true
is_fixed (kind.Scalar scalar.Null) = true
is_fixed (kind.Scalar scalar.Quantity) = true
is_fixed (kind.Scalar scalar.Semver) = true
is_fixed (kind.Scalar scalar.Text) = false
is_fixed (kind.Scalar scalar.Dyn) = false
is_fixed (kind.List s) = false
is_fixed (kind.Map k v) = false
is_fixed (kind.Domains f) = true
is_fixed (kind.Entries f) = true

pub by_kind : (d : Device) → Limited d → (w n : ℕ) {k : CelType} {v : Value} → HasKind k v → (is_fixed k ≡ false → AtMost d w n v) → AtMost d (weight_by k w) (number_by k n) v
unfolding is_fixed
by_kind d g w n (of_scalar a_null) h = record { weight = omega arith; number = omega arith }
by_kind d g w n (of_scalar a_bool) h = record { weight = omega arith; number = omega arith }
by_kind d g w n (of_scalar an_int) h = record { weight = omega arith; number = omega arith }
by_kind d g w n (of_scalar a_quantity) h = record { weight = omega arith; number = omega arith }
by_kind d g w n (of_scalar a_version) h = record { weight = omega arith; number = omega arith }
by_kind d g w n (of_scalar a_text) h = h refl
by_kind d g w n (of_scalar anything) h = h refl
by_kind d g w n (of_list p) h = h refl
by_kind d g w n (of_map p) h = h refl
by_kind d g w n (of_domains {f = f}) h = record { weight = omega arith; number = domains_number d f g }
by_kind d g w n (of_entries {f = f} {domain = domain}) h = record { weight = omega arith; number = ids_number d f domain g }

-- what a tree's type and bounds imply about its values
pub by_bounds : (d : Device) → Limited d → (j k : CelType) (w n s : ℕ) (r : Result Value EvalError) → j ≡ k → IfOk r (HasKind k) → IfOk r (λ v. is_fixed k ≡ false → AtMost d w n v) →
    IfOk r (AtMost d (bounds j w n s).weight (bounds j w n s).number)
by_bounds d g j k w n s (Ok v) e p h = subst (λ (i : CelType). AtMost d (weight_by i w) (number_by i n) v) (sym e) (by_kind d g w n p h)
by_bounds d g j k w n s (Err f) e p h = tt

-- nothing is left to state about values of one weight
pub fixed : (d : Device) (k : CelType) (w n : ℕ) (r : Result Value EvalError) → is_fixed k ≡ true → IfOk r (λ v. is_fixed k ≡ false → AtMost d w n v)
fixed d k w n (Ok v) a = λ b. absurd (cc)
fixed d k w n (Err e) a = tt
