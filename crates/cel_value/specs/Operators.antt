-- What each operator means on values. A pair of values that no row names is NoOverload.
use Rattle.std.specs.Prelude.{ℤ, pos, neg_ℤ, ◌+ℤ◌, ◌-ℤ◌, ◌*ℤ◌, int_div, int_rem, ◌++◌, Bool, true, false, not, ◌&&◌, Result, Ok, Err, if◌then◌else◌}
use mathlib.Core.Bool.{beq}
use Rattle.std.specs.Str.{bytes_eq}
use Rattle.std.specs.List.{list_any}
use Rattle.std.specs.Ordering.{int_cmp, int_eq, nat_cmp, bool_cmp, is_eq, is_lt, is_le, is_gt, is_ge, ordering_then}
use Rattle.std.specs.Cmp.Lexicographic.{slice_cmp, pointwise}
use Rattle.std.specs.declared.cmp.Ordering.{Ordering}
use Rattle.semver.specs.Order.{pre_cmp}
use Rattle.semver.specs.Parse.{Parts}
use Rattle.cel_tree.specs.declared.tree.UnaryOp.{UnaryOp}
use Rattle.cel_tree.specs.declared.tree.UnaryOp.TheVariants.{Not, Negate}
use Rattle.cel_tree.specs.declared.tree.BinaryOp.{BinaryOp}
use Rattle.cel_tree.specs.declared.tree.BinaryOp.TheVariants as op
use Rattle.cel_value.specs.declared.error.EvalError.{EvalError}
use Rattle.cel_value.specs.declared.error.EvalError.TheVariants.{NoOverload, Overflow, DivByZero}
use Rattle.cel_value.specs.declared.value.Single.{Single}
use Rattle.cel_value.specs.declared.value.Single.TheVariants as single
use Rattle.cel_value.specs.declared.value.Key.{Key}
use Rattle.cel_value.specs.declared.value.Key.TheVariants as key
use Rattle.cel_value.specs.declared.value.Value.{Value}
use Rattle.cel_value.specs.declared.value.Value.TheVariants as value
use Rattle.cel_value.specs.Values.{◌>>=◌, truth, int, text, fits, whole, single_in}
use Rattle.cel_value.specs.Device.{Device}
use Rattle.cel_value.specs.Lookups.{in_map, in_domains, in_entries}

-- ---- `&&` and `||`: three by three tables

-- false if either is false; else an error if either is one, the left one's first; else true
abbrev pub and_of : Result Bool EvalError → Result Bool EvalError → Result Bool EvalError
and_of (Ok false) right = Ok false
and_of (Ok true) right = right
and_of (Err e) (Ok false) = Ok false
and_of (Err e) (Ok true) = Err e
and_of (Err e) (Err f) = Err e

-- true if either is true; else an error if either is one, the left one's first; else false
abbrev pub or_of : Result Bool EvalError → Result Bool EvalError → Result Bool EvalError
or_of (Ok true) right = Ok true
or_of (Ok false) right = right
or_of (Err e) (Ok true) = Ok true
or_of (Err e) (Ok false) = Err e
or_of (Err e) (Err f) = Err e

-- ---- `!` and unary `-`

abbrev pub not_of : Single → Result Value EvalError
not_of (single.Bool b) = Ok (truth (not b))
not_of single.Null = Err NoOverload
not_of (single.Int n) = Err NoOverload
not_of (single.Text s) = Err NoOverload
not_of (single.Quantity n) = Err NoOverload
not_of (single.Version v) = Err NoOverload

-- The least whole number has no negative of 64 bits.
abbrev pub negated : Single → Result Value EvalError
negated (single.Int n) = whole (neg_ℤ n)
negated single.Null = Err NoOverload
negated (single.Bool b) = Err NoOverload
negated (single.Text s) = Err NoOverload
negated (single.Quantity n) = Err NoOverload
negated (single.Version v) = Err NoOverload

abbrev pub unary_of : UnaryOp → Value → Result Value EvalError
unary_of Not v = single_in v >>= not_of
unary_of Negate v = single_in v >>= negated

-- ---- `== !=`

-- versions by precedence (Semantic Versioning 2.0.0), which doesn't look at build metadata
abbrev pub version_cmp : Parts → Parts → Ordering
version_cmp v w =
    ordering_then (nat_cmp v.0 w.0) (ordering_then (nat_cmp v.1 w.1) (ordering_then (nat_cmp v.2 w.2) (pre_cmp v.3 w.3)))

-- Single values of different types are unequal. Quantities are equal by value, versions by precedence.
abbrev pub same_single : Single → Single → Bool
same_single single.Null single.Null = true
same_single (single.Bool a) (single.Bool b) = beq a b
same_single (single.Int m) (single.Int n) = int_eq m n
same_single (single.Text s) (single.Text t) = bytes_eq s t
same_single (single.Quantity m) (single.Quantity n) = int_eq m n
same_single (single.Version v) (single.Version w) = is_eq (version_cmp v w)
same_single x y = false

abbrev pub same_key : Key → Key → Bool
same_key (key.Int m) (key.Int n) = int_eq m n
same_key (key.Bool a) (key.Bool b) = beq a b
same_key (key.Text s) (key.Text t) = bytes_eq s t
same_key x y = false

-- a key and the value at it
abbrev pub same_entry : Key × Single → Key × Single → Bool
same_entry d e = same_key d.0 e.0 && same_single d.1 e.1

-- lists element by element, maps by their keys and the values at them
abbrev pub same_of : Value → Value → Result Bool EvalError
same_of (value.Single x) (value.Single y) = Ok (same_single x y)
same_of (value.List xs) (value.List ys) = Ok (pointwise same_single xs ys)
same_of (value.Map ds) (value.Map es) = Ok (pointwise same_entry ds es)
same_of x y = Err NoOverload

-- ---- `< <= > >=`: of two whole numbers, two texts or two truth values

abbrev pub single_order : Single → Single → Result Ordering EvalError
single_order (single.Int m) (single.Int n) = Ok (int_cmp m n)
single_order (single.Text s) (single.Text t) = Ok (slice_cmp nat_cmp s t)
single_order (single.Bool a) (single.Bool b) = Ok (bool_cmp a b)
single_order x y = Err NoOverload

-- both as single values
abbrev pub both_in : {A : Type 0} → (Single → Single → Result A EvalError) → Value → Value → Result A EvalError
both_in f (value.Single x) (value.Single y) = f x y
both_in f x y = Err NoOverload

abbrev pub ordered : (Ordering → Bool) → Value → Value → Result Value EvalError
ordered test x y = both_in single_order x y >>= λ o. Ok (truth (test o))

-- ---- `+ - * / %`

-- the sum of whole numbers, or two texts as one
abbrev pub single_sum : Single → Single → Result Value EvalError
single_sum (single.Int m) (single.Int n) = whole (m +ℤ n)
single_sum (single.Text s) (single.Text t) = Ok (text (s ++ t))
single_sum x y = Err NoOverload

-- or two lists as one
abbrev pub add_of : Value → Value → Result Value EvalError
add_of (value.Single x) (value.Single y) = single_sum x y
add_of (value.List xs) (value.List ys) = Ok (value.List (xs ++ ys))
add_of x y = Err NoOverload

abbrev pub difference : ℤ → ℤ → Result Value EvalError
difference m n = whole (m -ℤ n)

abbrev pub product : ℤ → ℤ → Result Value EvalError
product m n = whole (m *ℤ n)

-- Division truncates towards zero, and the remainder has the dividend's sign. The least whole number
-- divided by -1 has no quotient of 64 bits, and its remainder is Overflow too.
abbrev pub divided : (ℤ → ℤ → ℤ) → ℤ → ℤ → Result Value EvalError
divided f m n =
    if int_eq n (pos 0) then Err DivByZero
    else (if fits (int_div m n) then Ok (int (f m n)) else Err Overflow)

abbrev pub both_ints : Single → Single → Result (ℤ × ℤ) EvalError
both_ints (single.Int m) (single.Int n) = Ok (m, n)
both_ints x y = Err NoOverload

-- an operation on two whole numbers
abbrev pub arithmetic : (ℤ → ℤ → Result Value EvalError) → Value → Value → Result Value EvalError
arithmetic f x y = both_in both_ints x y >>= λ p. f p.0 p.1

-- ---- `in`

-- an element of a list, a key of a map, a domain of the device, or an id in one of its domains
abbrev pub in_of : Device → Value → Value → Result Bool EvalError
in_of d (value.Single x) (value.List ys) = Ok (list_any (λ y. same_single y x) ys)
in_of d (value.Single x) (value.Map es) = in_map x es
in_of d (value.Single x) (value.Domains f) = in_domains d f x
in_of d (value.Single x) (value.Entries f domain) = in_entries d f domain x
in_of d x y = Err NoOverload

-- ---- all of them but `&&` and `||`

abbrev pub binary_of : Device → BinaryOp → Value → Value → Result Value EvalError
binary_of d op.Or x y = Err NoOverload
binary_of d op.And x y = Err NoOverload
binary_of d op.Less x y = ordered is_lt x y
binary_of d op.LessEq x y = ordered is_le x y
binary_of d op.GreaterEq x y = ordered is_ge x y
binary_of d op.Greater x y = ordered is_gt x y
binary_of d op.Equal x y = same_of x y >>= λ b. Ok (truth b)
binary_of d op.NotEqual x y = same_of x y >>= λ b. Ok (truth (not b))
binary_of d op.In x y = in_of d x y >>= λ b. Ok (truth b)
binary_of d op.Add x y = add_of x y
binary_of d op.Subtract x y = arithmetic difference x y
binary_of d op.Multiply x y = arithmetic product x y
binary_of d op.Divide x y = arithmetic (divided int_div) x y
binary_of d op.Remainder x y = arithmetic (divided int_rem) x y
