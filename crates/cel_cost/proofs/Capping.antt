-- Sums and products that stop at the greatest number on the way.
use Rattle.std.proofs.Common.{◌≡◌, ℕ, ◌+◌, ◌*◌, min, refl, arith, ap, ◌∙◌, suc, zero, Option, Some, None}
use Rattle.std.specs.Prelude.{unwrap_or, option_map}
use Rattle.std.proofs.Math.Nat.{mul-zero, mul-suc, mul_comm}
use Rattle.cel_tree.specs.declared.types.CelType.{CelType}
use Rattle.cel_tree.specs.declared.types.CelType.TheVariants as kind
use Rattle.cel_tree.specs.declared.types.Scalar.TheVariants as scalar
use Rattle.cel_tree.specs.declared.types.Facet.TheVariants.{Attributes, Capacities}
use Rattle.cel_tree.specs.declared.tree.BinaryOp.{BinaryOp}
use Rattle.cel_tree.specs.declared.tree.BinaryOp.TheVariants as op
use Rattle.cel_tree.specs.Estimate.{Bounds, bounds, weight_by, number_by, weighing, part_weight, element_weight, name_bounds, most}
use Rattle.cel_tree.specs.Types.{any}
use Rattle.cel_cost.specs.Capped.{cap, capped}

-- what a type decides doesn't pass the greatest number
weight_is : (k : CelType) (w : ℕ) → weight_by k (cap w) ≡ cap (weight_by k w)
weight_is (kind.Scalar scalar.Int) w = refl
weight_is (kind.Scalar scalar.Bool) w = refl
weight_is (kind.Scalar scalar.Null) w = refl
weight_is (kind.Scalar scalar.Quantity) w = refl
weight_is (kind.Scalar scalar.Semver) w = refl
weight_is (kind.Scalar scalar.Text) w = refl
weight_is (kind.Scalar scalar.Dyn) w = refl
weight_is (kind.List s) w = refl
weight_is (kind.Map k t) w = refl
weight_is (kind.Domains f) w = refl
weight_is (kind.Entries f) w = refl

number_is : (k : CelType) (w : ℕ) → number_by k (cap w) ≡ cap (number_by k w)
number_is (kind.Scalar s) w = refl
number_is (kind.List s) w = refl
number_is (kind.Map k t) w = refl
number_is (kind.Domains f) w = refl
number_is (kind.Entries f) w = refl

-- what is made of numbers that stopped on the way
pub made : (r : Bounds) (j k : CelType) (w n s v m q : ℕ) → r ≡ bounds j w n s → j ≡ k → w ≡ cap v → n ≡ cap m → s ≡ cap q → r ≡ capped (bounds k v m q)
unfolding capped
made r j k w n s v m q a b d e f =
    a ∙ rw (b, d, e, f) (λ i. record { kind = k; weight = weight_is k v i; number = number_is k m i; steps = cap q })

pub cap-mul : (m a b : ℕ) → min (min a m * b) m ≡ min (a * b) m
cap-mul m a zero = rw (mul-zero (min a m), mul-zero a) refl
cap-mul m a (suc b) = rw (mul-suc (min a m) b, mul-suc a b) (omega (arith, cap-mul m a b))

pub weighing-cap : (o : BinaryOp) (w : ℕ) → weighing o (cap w) ≡ cap (weighing o w)
weighing-cap op.Or w = refl
weighing-cap op.And w = refl
weighing-cap op.Less w = refl
weighing-cap op.LessEq w = refl
weighing-cap op.GreaterEq w = refl
weighing-cap op.Greater w = refl
weighing-cap op.Equal w = refl
weighing-cap op.NotEqual w = refl
weighing-cap op.In w = refl
weighing-cap op.Add w = refl
weighing-cap op.Subtract w = refl
weighing-cap op.Multiply w = refl
weighing-cap op.Divide w = refl
weighing-cap op.Remainder w = refl

pub part-cap : (k : CelType) (w : ℕ) → part_weight k (cap w) ≡ cap (part_weight k w)
part-cap (kind.Scalar s) w = refl
part-cap (kind.List s) w = refl
part-cap (kind.Map k t) w = refl
part-cap (kind.Domains f) w = refl
part-cap (kind.Entries Attributes) w = refl
part-cap (kind.Entries Capacities) w = refl

pub element-cap : (k : CelType) (w : ℕ) → element_weight k (cap w) ≡ cap (element_weight k w)
element-cap (kind.Scalar s) w = refl
element-cap (kind.List s) w = refl
element-cap (kind.Map k t) w = refl
element-cap (kind.Domains f) w = refl
element-cap (kind.Entries f) w = refl

-- sums and products of numbers that stopped on the way
pub one_more : (q r n : ℕ) → q ≡ cap (r + 1) → r ≡ cap n → q ≡ cap (1 + n)
one_more q r n d e = omega arith

pub sum_more : (q p a b m n : ℕ) → p ≡ cap (a + b) → q ≡ cap (p + 1) → a ≡ cap m → b ≡ cap n → q ≡ cap (1 + (m + n))
sum_more q p a b m n d e f g = omega arith

pub mul-caps : (a b : ℕ) → cap (cap a * cap b) ≡ cap (a * b)
mul-caps a b =
    cap-mul most a (cap b) ∙ ap cap (mul_comm a (cap b)) ∙ cap-mul most b a ∙ ap cap (mul_comm b a)

pub product : (q a b m n : ℕ) → q ≡ cap (a * b) → a ≡ cap m → b ≡ cap n → q ≡ cap (m * n)
product q a b m n d e f = d ∙ (λ i. cap (e i * f i)) ∙ mul-caps m n

pub unwrap-cap : (o : Option ℕ) (w : ℕ) → unwrap_or (option_map cap o) (cap w) ≡ cap (unwrap_or o w)
unwrap-cap None w = refl
unwrap-cap (Some v) w = refl

-- what is known of what equals the capped
pub kind_of : (b : Bounds) (x : Bounds) → b ≡ capped x → b.kind ≡ x.kind
unfolding capped
kind_of b x e = ap (λ (y : Bounds). y.kind) e

pub weight_of : (b : Bounds) (x : Bounds) → b ≡ capped x → b.weight ≡ cap x.weight
unfolding capped
weight_of b x e = ap (λ (y : Bounds). y.weight) e

pub number_of : (b : Bounds) (x : Bounds) → b ≡ capped x → b.number ≡ cap x.number
unfolding capped
number_of b x e = ap (λ (y : Bounds). y.number) e

pub steps_of : (b : Bounds) (x : Bounds) → b ≡ capped x → b.steps ≡ cap x.steps
unfolding capped
steps_of b x e = ap (λ (y : Bounds). y.steps) e

-- a name takes one step, and is what its value is
named_by : (b y : Bounds) → b ≡ capped y → record b { steps = 1 } ≡ capped (record y { steps = 1 })
unfolding capped
named_by b y f = λ i. record { kind = kind_of b y f i; weight = weight_of b y f i; number = number_of b y f i; steps = 1 }

pub named : (b : Bounds) (x : Option Bounds) → Some b ≡ option_map capped x → record b { steps = 1 } ≡ capped (name_bounds x)
unfolding name_bounds
named b None e = absurd (cc)
named b (Some y) e =
    let f : b ≡ capped y = cc in
    named_by b y f

pub unnamed : (x : Option Bounds) → None ≡ option_map capped x → bounds any 1 0 1 ≡ capped (name_bounds x)
unfolding name_bounds capped
unnamed None e = refl
unnamed (Some y) e = absurd (cc)
