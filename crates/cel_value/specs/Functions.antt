-- What each function means on values. A call that no row names is NoOverload.
use Rattle.std.specs.Prelude.{ℕ, length, ℤ, pos, neg_ℤ, ◌+ℤ◌, ◌-ℤ◌, ◌*ℤ◌, int_div, int_rem, int_le, nat_eq, List, [], ◌∷◌, Bool, ◌&&◌, ◌||◌, is_ok, Result, Ok, Err, if◌then◌else◌}
use Rattle.std.specs.Str.{chars}
use Rattle.std.specs.List.{starts_with, ends_with}
use Rattle.std.specs.Ordering.{int_cmp, int_eq, is_lt, is_gt}
use Rattle.std.specs.declared.cmp.Ordering.{Ordering}
use Rattle.std.specs.declared.cmp.Ordering.TheVariants.{Less, Equal, Greater}
use Rattle.quantity.specs.Range.{most}
use Rattle.quantity.specs.Value.{quantity_value}
use Rattle.semver.specs.Parse.{Parts, version_parts}
use Rattle.cel_tree.specs.declared.calls.Function.{Function}
use Rattle.cel_tree.specs.declared.calls.Function.TheVariants.{Size, StartsWith, EndsWith, Contains, Quantity, IsQuantity, Semver, IsSemver, CompareTo, IsLessThan, IsGreaterThan, Add, Sub, Sign, IsInteger, AsInteger, Major, Minor, Patch}
use Rattle.cel_value.specs.declared.error.EvalError.{EvalError}
use Rattle.cel_value.specs.declared.error.EvalError.TheVariants.{NoOverload, Overflow, BadConversion}
use Rattle.cel_value.specs.declared.value.Single.{Single}
use Rattle.cel_value.specs.declared.value.Single.TheVariants as single
use Rattle.cel_value.specs.declared.value.Value.{Value}
use Rattle.cel_value.specs.declared.value.Value.TheVariants as value
use Rattle.cel_value.specs.Values.{◌>>=◌, truth, int, quantity, whole, single_in}
use Rattle.cel_value.specs.Operators.{version_cmp, both_in}
use Rattle.cel_value.specs.Lookups.{text_from, elements_of}
use Rattle.cel_value.specs.Device.{Device}

-- ---- sizes

-- the characters of a text
abbrev pub text_size : Single → Result Value EvalError
text_size x = text_from x >>= λ s. whole (pos (length (chars s)))

-- the elements of a list, the keys of a map, the domains, or the ids in a domain
abbrev pub size_of : Device → Value → Result Value EvalError
size_of d (value.Single x) = text_size x
size_of d (value.List xs) = whole (pos (length xs))
size_of d (value.Map es) = whole (pos (length es))
size_of d (value.Domains f) = elements_of d (value.Domains f) >>= λ xs. whole (pos (length xs))
size_of d (value.Entries f domain) = elements_of d (value.Entries f domain) >>= λ xs. whole (pos (length xs))

-- ---- texts

-- whether the text begins with the part, ends with it, or has it anywhere
abbrev pub begins : List ℕ → List ℕ → Bool
begins s part = starts_with nat_eq s part

abbrev pub ends : List ℕ → List ℕ → Bool
ends s part = ends_with nat_eq s part

abbrev pub contains : List ℕ → List ℕ → Bool
contains [] part = begins [] part
contains (b ∷ s) part = begins (b ∷ s) part || contains s part

abbrev pub text_in : Value → Result (List ℕ) EvalError
text_in v = single_in v >>= text_from

-- a test of two texts
abbrev pub of_texts : (List ℕ → List ℕ → Bool) → Value → Value → Result Value EvalError
of_texts test x y = text_in x >>= λ s. text_in y >>= λ t. Ok (truth (test s t))

-- ---- what a text reads as

abbrev pub or_bad : {A E : Type 0} → Result A E → Result A EvalError
or_bad (Ok x) = Ok x
or_bad (Err e) = Err BadConversion

-- the notation of Kubernetes quantities
abbrev pub quantity_read : List ℕ → Result ℤ EvalError
quantity_read s = or_bad (quantity_value s)

-- Semantic Versioning 2.0.0
abbrev pub version_read : List ℕ → Result Parts EvalError
version_read s = or_bad (version_parts s)

-- `quantity(s)`, `isQuantity(s)`, `semver(s)`, `isSemver(s)`
abbrev pub quantity_of : Value → Result Value EvalError
quantity_of x = text_in x >>= λ s. quantity_read s >>= λ n. Ok (quantity n)

abbrev pub is_quantity_of : Value → Result Value EvalError
is_quantity_of x = text_in x >>= λ s. Ok (truth (is_ok (quantity_read s)))

abbrev pub version_of : Value → Result Value EvalError
version_of x = text_in x >>= λ s. version_read s >>= λ v. Ok (value.Single (single.Version v))

abbrev pub is_version_of : Value → Result Value EvalError
is_version_of x = text_in x >>= λ s. Ok (truth (is_ok (version_read s)))

-- ---- quantities and versions

-- two quantities by value, or two versions by precedence
abbrev pub order_of : Single → Single → Result Ordering EvalError
order_of (single.Quantity m) (single.Quantity n) = Ok (int_cmp m n)
order_of (single.Version v) (single.Version w) = Ok (version_cmp v w)
order_of x y = Err NoOverload

-- -1, 0 or 1
abbrev pub order_number : Ordering → ℤ
order_number Less = neg_ℤ (pos 1)
order_number Equal = pos 0
order_number Greater = pos 1

-- the unit of a quantity is 10^-9
abbrev pub one : ℤ
one = pos 1000000000

-- A quantity's magnitude is at most 2^63-1.
abbrev pub in_range : ℤ → Result Value EvalError
in_range n = if int_le (neg_ℤ (pos most)) n && int_le n (pos most) then Ok (quantity n) else Err Overflow

abbrev pub amount_from : Single → Result ℤ EvalError
amount_from (single.Quantity n) = Ok n
amount_from single.Null = Err NoOverload
amount_from (single.Bool b) = Err NoOverload
amount_from (single.Int n) = Err NoOverload
amount_from (single.Text s) = Err NoOverload
amount_from (single.Version v) = Err NoOverload

abbrev pub amount_in : Value → Result ℤ EvalError
amount_in v = single_in v >>= amount_from

-- what is added to a quantity: a quantity, or a whole number
abbrev pub addend_from : Single → Result ℤ EvalError
addend_from (single.Quantity n) = Ok n
addend_from (single.Int n) = Ok (n *ℤ one)
addend_from single.Null = Err NoOverload
addend_from (single.Bool b) = Err NoOverload
addend_from (single.Text s) = Err NoOverload
addend_from (single.Version v) = Err NoOverload

abbrev pub addend_in : Value → Result ℤ EvalError
addend_in v = single_in v >>= addend_from

-- exact, or Overflow
abbrev pub quantity_sum : (ℤ → ℤ → ℤ) → Value → Value → Result Value EvalError
quantity_sum f x y = amount_in x >>= λ m. addend_in y >>= λ n. in_range (f m n)

abbrev pub is_whole : ℤ → Bool
is_whole n = int_eq (int_rem n one) (pos 0)

abbrev pub as_integer : ℤ → Result Value EvalError
as_integer n = if is_whole n then Ok (int (int_div n one)) else Err BadConversion

abbrev pub version_from : Single → Result Parts EvalError
version_from (single.Version v) = Ok v
version_from single.Null = Err NoOverload
version_from (single.Bool b) = Err NoOverload
version_from (single.Int n) = Err NoOverload
version_from (single.Text s) = Err NoOverload
version_from (single.Quantity n) = Err NoOverload

abbrev pub version_in : Value → Result Parts EvalError
version_in v = single_in v >>= version_from

-- ---- the tables

-- `function(argument)`
abbrev pub call_with : Device → Function → Value → Result Value EvalError
call_with d Size x = size_of d x
call_with d Quantity x = quantity_of x
call_with d IsQuantity x = is_quantity_of x
call_with d Semver x = version_of x
call_with d IsSemver x = is_version_of x
call_with d function x = Err NoOverload

abbrev pub call_of : Device → Function → List Value → Result Value EvalError
call_of d function [] = Err NoOverload
call_of d function (x ∷ []) = call_with d function x
call_of d function (x ∷ y ∷ rest) = Err NoOverload

-- `object.function()`
abbrev pub method_alone : Device → Function → Value → Result Value EvalError
method_alone d Size x = size_of d x
method_alone d Sign x = amount_in x >>= λ n. Ok (int (order_number (int_cmp n (pos 0))))
method_alone d IsInteger x = amount_in x >>= λ n. Ok (truth (is_whole n))
method_alone d AsInteger x = amount_in x >>= as_integer
method_alone d Major x = version_in x >>= λ v. whole (pos v.0)
method_alone d Minor x = version_in x >>= λ v. whole (pos v.1)
method_alone d Patch x = version_in x >>= λ v. whole (pos v.2)
method_alone d function x = Err NoOverload

-- `object.function(argument)`
abbrev pub method_with : Function → Value → Value → Result Value EvalError
method_with StartsWith x y = of_texts begins x y
method_with EndsWith x y = of_texts ends x y
method_with Contains x y = of_texts contains x y
method_with CompareTo x y = both_in order_of x y >>= λ o. Ok (int (order_number o))
method_with IsLessThan x y = both_in order_of x y >>= λ o. Ok (truth (is_lt o))
method_with IsGreaterThan x y = both_in order_of x y >>= λ o. Ok (truth (is_gt o))
method_with Add x y = quantity_sum (λ m n. m +ℤ n) x y
method_with Sub x y = quantity_sum (λ m n. m -ℤ n) x y
method_with function x y = Err NoOverload

-- `object.function(arguments)`
abbrev pub method_of : Device → Function → Value → List Value → Result Value EvalError
method_of d function x [] = method_alone d function x
method_of d function x (y ∷ []) = method_with function x y
method_of d function x (y ∷ z ∷ rest) = Err NoOverload
