-- What values are: results and errors, truth, weight, elements as keys and keys as values.
use Rattle.std.specs.Prelude.{◌≡◌, ℕ, ◌+◌, ◌-◌, ◌^◌, length, sum_by, ℤ, pos, neg_ℤ, int_le, int_lt, ◌&&◌, List, Bool, Result, Ok, Err, if◌then◌else◌}
use Rattle.cel_tree.specs.Ast.{Constant, Null, Truth, Whole, Bytes}
use Rattle.cel_value.specs.declared.error.EvalError.{EvalError}
use Rattle.cel_value.specs.declared.error.EvalError.TheVariants.{NoKey, NoOverload, Overflow, DivByZero, OutOfRange, BadConversion, Memory}
use Rattle.cel_value.specs.declared.value.Single.{Single}
use Rattle.cel_value.specs.declared.value.Single.TheVariants as single
use Rattle.cel_value.specs.declared.value.Key.{Key}
use Rattle.cel_value.specs.declared.value.Key.TheVariants as key
use Rattle.cel_value.specs.declared.value.Value.{Value}
use Rattle.cel_value.specs.declared.value.Value.TheVariants as value

-- ---- what a clause states of a result

-- the fact, unless the error is out of memory
abbrev pub UnlessMemory : EvalError → Type 0 → Type 0
UnlessMemory NoKey P = P
UnlessMemory NoOverload P = P
UnlessMemory Overflow P = P
UnlessMemory DivByZero P = P
UnlessMemory OutOfRange P = P
UnlessMemory BadConversion P = P
UnlessMemory Memory P = Unit {0}

-- What a function returned is the meaning, unless out of memory.
abbrev pub Gives : {A : Type 0} → Result A EvalError → Result A EvalError → Type 0
Gives (Ok x) meaning = meaning ≡ Ok x
Gives (Err e) meaning = UnlessMemory e (meaning ≡ Err e)

-- the same of a function that allocates nothing and returns what view sees
abbrev pub Shows : {X Y : Type 0} → (X → Y) → Result X EvalError → Result Y EvalError → Type 0
Shows view (Ok x) meaning = meaning ≡ Ok (view x)
Shows view (Err e) meaning = meaning ≡ Err e

-- the second step goes on with what the first returned; the first error counts
infixl 10 ◌>>=◌
abbrev pub ◌>>=◌ : {A B : Type 0} → Result A EvalError → (A → Result B EvalError) → Result B EvalError
(Ok x) >>= f = f x
(Err e) >>= f = Err e

-- ---- values that hold no others

abbrev pub null : Value
null = value.Single single.Null

abbrev pub truth : Bool → Value
truth b = value.Single (single.Bool b)

abbrev pub int : ℤ → Value
int n = value.Single (single.Int n)

abbrev pub text : List ℕ → Value
text s = value.Single (single.Text s)

abbrev pub quantity : ℤ → Value
quantity n = value.Single (single.Quantity n)

-- A whole number has 64 bits: -2^63 to 2^63-1.
abbrev pub fits : ℤ → Bool
fits n = int_le (neg_ℤ (pos (2 ^ 63))) n && int_lt n (pos (2 ^ 63))

abbrev pub whole : ℤ → Result Value EvalError
whole n = if fits n then Ok (int n) else Err Overflow

-- the value of a literal
abbrev pub constant_of : Constant → Value
constant_of Null = null
constant_of (Truth b) = truth b
constant_of (Whole n) = int n
constant_of (Bytes s) = text s

-- a value as one that holds no others, such as the element of a list
abbrev pub single_in : Value → Result Single EvalError
single_in (value.Single s) = Ok s
single_in (value.List xs) = Err NoOverload
single_in (value.Map es) = Err NoOverload
single_in (value.Domains f) = Err NoOverload
single_in (value.Entries f domain) = Err NoOverload

abbrev pub truth_in : Single → Result Bool EvalError
truth_in (single.Bool b) = Ok b
truth_in single.Null = Err NoOverload
truth_in (single.Int n) = Err NoOverload
truth_in (single.Text s) = Err NoOverload
truth_in (single.Quantity n) = Err NoOverload
truth_in (single.Version v) = Err NoOverload

-- the truth of a test, of an operand of `&&` and `||`, or of a body
abbrev pub truth_of : Value → Result Bool EvalError
truth_of v = single_in v >>= truth_in

-- a whole number, a truth value or a text may be a key
abbrev pub key_from : Single → Result Key EvalError
key_from (single.Int n) = Ok (key.Int n)
key_from (single.Bool b) = Ok (key.Bool b)
key_from (single.Text s) = Ok (key.Text s)
key_from single.Null = Err NoOverload
key_from (single.Quantity n) = Err NoOverload
key_from (single.Version v) = Err NoOverload

abbrev pub key_in : Value → Result Key EvalError
key_in v = single_in v >>= key_from

-- a key as a value
abbrev pub single_of : Key → Single
single_of (key.Int n) = single.Int n
single_of (key.Bool b) = single.Bool b
single_of (key.Text s) = single.Text s

-- ---- weights, which steps are counted by

-- A text weighs one and its bytes.
abbrev pub single_weight : Single → ℕ
single_weight single.Null = 1
single_weight (single.Bool b) = 1
single_weight (single.Int n) = 1
single_weight (single.Text s) = 1 + length s
single_weight (single.Quantity n) = 1
single_weight (single.Version v) = 1

abbrev pub entry_weight : Key × Single → ℕ
entry_weight e = single_weight (single_of e.0) + single_weight e.1

-- A list or map weighs one and what it holds. The domains of a device, and what it has in one of them,
-- weigh 2,049.
abbrev pub weight_of : Value → ℕ
weight_of (value.Single s) = single_weight s
weight_of (value.List xs) = 1 + sum_by single_weight xs
weight_of (value.Map es) = 1 + sum_by entry_weight es
weight_of (value.Domains f) = 2049
weight_of (value.Entries f domain) = 2049

-- the greatest number of 64 bits
abbrev pub most : ℕ
most = 2 ^ 64 - 1
