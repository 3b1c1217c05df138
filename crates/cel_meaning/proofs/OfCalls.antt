-- Each operation of two operands, and each function, returns values of the type that the tables state.
use Rattle.std.proofs.Common.{◌≡◌, ℕ, ℤ, pos, neg_ℤ, ◌+ℤ◌, ◌-ℤ◌, ◌*ℤ◌, List, [], ◌∷◌, Bool, true, false, not, Some, IfOk, Result, Ok, Err, refl, if◌then◌else◌, length, is_ok, is_some}
use Rattle.std.specs.Prelude.{int_div, int_rem, int_le, ◌&&◌, ◌||◌}
use Rattle.std.specs.Ordering.{int_cmp, int_eq, is_lt, is_le, is_gt, is_ge}
use Rattle.std.specs.Str.{chars}
use Rattle.quantity.specs.Range.{most}
use Rattle.cel_tree.specs.declared.tree.BinaryOp.{BinaryOp}
use Rattle.cel_tree.specs.declared.tree.BinaryOp.TheVariants as op
use Rattle.cel_tree.specs.declared.types.Scalar.TheVariants as scalar
use Rattle.cel_tree.specs.declared.types.CelType.{CelType}
use Rattle.cel_tree.specs.declared.types.CelType.TheVariants as kind
use Rattle.cel_tree.specs.declared.calls.Function.{Function}
use Rattle.cel_tree.specs.declared.calls.Function.TheVariants.{Size, StartsWith, EndsWith, Contains, Quantity, IsQuantity, Semver, IsSemver, CompareTo, IsLessThan, IsGreaterThan, Add, Sub, Sign, IsInteger, AsInteger, Major, Minor, Patch}
use Rattle.cel_tree.specs.declared.calls.Arguments.{Arguments}
use Rattle.cel_tree.specs.declared.calls.Arguments.TheVariants as arguments
use Rattle.cel_tree.specs.Types.{int, bool, quantity, semver, accepts, both_accept, scalar_of, same_scalar, comparable, binary_type, equality_type, in_type, element_type}
use Rattle.cel_tree.specs.Calls.{call_type, method_type, size_type, both_ordered, are_summed, method_alone as alone_type, method_with as with_type}
use Rattle.cel_value.specs.declared.error.EvalError.{EvalError}
use Rattle.cel_value.specs.declared.error.EvalError.TheVariants.{Overflow, DivByZero, BadConversion}
use Rattle.cel_value.specs.declared.value.Single.TheVariants as single
use Rattle.cel_value.specs.declared.value.Value.{Value}
use Rattle.cel_value.specs.declared.value.Value.TheVariants as value
use Rattle.cel_value.specs.Values as values
use Rattle.cel_value.specs.Values.{◌>>=◌, fits, whole}
use Rattle.cel_value.specs.Operators.{same_of, single_order, both_in, ordered, difference, product, divided, both_ints, arithmetic, in_of, binary_of}
use Rattle.cel_value.specs.Lookups.{elements_of, text_from}
use Rattle.cel_value.specs.Functions.{size_of, text_in, of_texts, begins, ends, contains, quantity_read, version_read, order_of, order_number, in_range, amount_in, addend_in, quantity_sum, one, is_whole, as_integer, version_in, call_with, call_of, method_alone, method_with, method_of}
use Rattle.cel_value.specs.Device.{Device}
use Rattle.cel_meaning.specs.declared.connective.Connective.TheVariants as connective
use Rattle.cel_meaning.specs.Folds.{tested, joined, connective_of}
use Rattle.cel_meaning.specs.Meaning.{operation}
use Rattle.cel_meaning.specs.HasKind.{an_int, a_quantity, a_version, HasKind, of_scalar}
use Rattle.cel_meaning.proofs.Every.{none_some, on, after, either}
use Rattle.cel_meaning.proofs.OfKind.{as_kind, when_is, truths, whole_kind, add_kind}

-- ---- tables of two operands

equality_is : (k l m : CelType) → equality_type k l ≡ Some m → Some bool ≡ Some m
equality_is (kind.Scalar s) (kind.Scalar t) m e = when_is (comparable s t) bool m e
equality_is (kind.List s) (kind.List t) m e = when_is (same_scalar s t) bool m e
equality_is (kind.Map k v) (kind.Map l w) m e = when_is (same_scalar (scalar_of k) (scalar_of l) && same_scalar v w) bool m e
equality_is k l m e = none_some e

in_is : (k l m : CelType) → in_type k l ≡ Some m → Some bool ≡ Some m
in_is (kind.Scalar s) (kind.List t) m e = when_is (comparable s t) bool m e
in_is k (kind.Map l v) m e = when_is (accepts (scalar_of l) k) bool m e
in_is k (kind.Domains f) m e = when_is (accepts scalar.Text k) bool m e
in_is k (kind.Entries f) m e = when_is (accepts scalar.Text k) bool m e
in_is k l m e = none_some e

divided_kind : (f : ℤ → ℤ → ℤ) (m n : ℤ) → IfOk (divided f m n) (HasKind int)
divided_kind f m n =
    either (HasKind int) (int_eq n (pos 0)) (Err DivByZero) (if fits (int_div m n) then Ok (values.int (f m n)) else Err Overflow) tt
    (either (HasKind int) (fits (int_div m n)) (Ok (values.int (f m n))) (Err Overflow) (of_scalar an_int) tt)

arithmetic_kind : (f : ℤ → ℤ → Result Value EvalError) (x y : Value) → ((m n : ℤ) → IfOk (f m n) (HasKind int)) → IfOk (arithmetic f x y) (HasKind int)
arithmetic_kind f x y g = after (HasKind int) (both_in both_ints x y) (λ p. f p.0 p.1) (λ p. g p.0 p.1)

-- the type that an operation returns, except `+`
unfoldable pub binary_result : BinaryOp → CelType
binary_result op.Or = bool
binary_result op.And = bool
binary_result op.Less = bool
binary_result op.LessEq = bool
binary_result op.GreaterEq = bool
binary_result op.Greater = bool
binary_result op.Equal = bool
binary_result op.NotEqual = bool
binary_result op.In = bool
binary_result op.Add = bool
binary_result op.Subtract = int
binary_result op.Multiply = int
binary_result op.Divide = int
binary_result op.Remainder = int

order_is : (k l m : CelType) → binary_type op.Less k l ≡ Some m → Some bool ≡ Some m
order_is k l m e = when_is (both_accept scalar.Int k l || (both_accept scalar.Text k l || both_accept scalar.Bool k l)) bool m e

logic_is : (k l m : CelType) → binary_type op.And k l ≡ Some m → Some bool ≡ Some m
logic_is k l m e = when_is (both_accept scalar.Bool k l) bool m e

arithmetic_is : (k l m : CelType) → binary_type op.Subtract k l ≡ Some m → Some int ≡ Some m
arithmetic_is k l m e = when_is (both_accept scalar.Int k l) int m e

unfoldable pub is_add : BinaryOp → Bool
is_add op.Add = true
is_add o = false

pub binary_is : (o : BinaryOp) (k l m : CelType) → is_add o ≡ false → binary_type o k l ≡ Some m → Some (binary_result o) ≡ Some m
unfolding binary_result is_add
binary_is op.Or k l m a e = logic_is k l m e
binary_is op.And k l m a e = logic_is k l m e
binary_is op.Less k l m a e = order_is k l m e
binary_is op.LessEq k l m a e = order_is k l m e
binary_is op.GreaterEq k l m a e = order_is k l m e
binary_is op.Greater k l m a e = order_is k l m e
binary_is op.Equal k l m a e = equality_is k l m e
binary_is op.NotEqual k l m a e = equality_is k l m e
binary_is op.In k l m a e = in_is k l m e
binary_is op.Add k l m a e = absurd (cc)
binary_is op.Subtract k l m a e = arithmetic_is k l m e
binary_is op.Multiply k l m a e = arithmetic_is k l m e
binary_is op.Divide k l m a e = arithmetic_is k l m e
binary_is op.Remainder k l m a e = arithmetic_is k l m e

order_kind : (test : _ → Bool) (x y : Value) → IfOk (ordered test x y) (HasKind bool)
order_kind test x y = truths (both_in single_order x y) test

plain_kind : (d : Device) (o : BinaryOp) (x y : Value) → is_add o ≡ false → IfOk (binary_of d o x y) (HasKind (binary_result o))
unfolding binary_result is_add
plain_kind d op.Or x y a = tt
plain_kind d op.And x y a = tt
plain_kind d op.Less x y a = order_kind is_lt x y
plain_kind d op.LessEq x y a = order_kind is_le x y
plain_kind d op.GreaterEq x y a = order_kind is_ge x y
plain_kind d op.Greater x y a = order_kind is_gt x y
plain_kind d op.Equal x y a = truths (same_of x y) (λ b. b)
plain_kind d op.NotEqual x y a = truths (same_of x y) not
plain_kind d op.In x y a = truths (in_of d x y) (λ b. b)
plain_kind d op.Add x y a = absurd (cc)
plain_kind d op.Subtract x y a = arithmetic_kind difference x y (λ m n. whole_kind (m -ℤ n))
plain_kind d op.Multiply x y a = arithmetic_kind product x y (λ m n. whole_kind (m *ℤ n))
plain_kind d op.Divide x y a = arithmetic_kind (divided int_div) x y (divided_kind int_div)
plain_kind d op.Remainder x y a = arithmetic_kind (divided int_rem) x y (divided_kind int_rem)

binary_kind : (d : Device) (o : BinaryOp) (k l m : CelType) (x y : Value) → binary_type o k l ≡ Some m → HasKind k x → HasKind l y → (b : Bool) → is_add o ≡ b → IfOk (binary_of d o x y) (HasKind m)
unfolding is_add
binary_kind d op.Add k l m x y e h i b a = add_kind m x y h i e
binary_kind d o k l m x y e h i false a = as_kind (binary_of d o x y) (binary_is o k l m a e) (plain_kind d o x y a)
binary_kind d o k l m x y e h i true a = absurd (cc)

both_kind : (d : Device) (o : BinaryOp) (k l m : CelType) (r s : Result Value EvalError) → binary_type o k l ≡ Some m → IfOk r (HasKind k) → IfOk s (HasKind l) → IfOk (r >>= λ x. s >>= λ y. binary_of d o x y) (HasKind m)
both_kind d o k l m r s e h i =
    on (HasKind k) (HasKind m) r (λ x. s >>= λ y. binary_of d o x y) h
    (λ x p. on (HasKind l) (HasKind m) s (λ y. binary_of d o x y) i (λ y q. binary_kind d o k l m x y e p q (is_add o) refl))

pub operation_kind : (d : Device) (o : BinaryOp) (k l m : CelType) (r s : Result Value EvalError) → binary_type o k l ≡ Some m → IfOk r (HasKind k) → IfOk s (HasKind l) → IfOk (operation d (connective_of o) o r s) (HasKind m)
operation_kind d op.And k l m r s e h i = as_kind (operation d (connective_of op.And) op.And r s) (logic_is k l m e) (truths (joined (connective.And) (tested r) (tested s)) (λ b. b))
operation_kind d op.Or k l m r s e h i = as_kind (operation d (connective_of op.Or) op.Or r s) (logic_is k l m e) (truths (joined (connective.Or) (tested r) (tested s)) (λ b. b))
operation_kind d o k l m r s e h i = both_kind d o k l m r s e h i

-- ---- functions

-- the type that a function returns
unfoldable pub result_of : Function → CelType
result_of Size = int
result_of StartsWith = bool
result_of EndsWith = bool
result_of Contains = bool
result_of Quantity = quantity
result_of IsQuantity = bool
result_of Semver = semver
result_of IsSemver = bool
result_of CompareTo = int
result_of IsLessThan = bool
result_of IsGreaterThan = bool
result_of Add = quantity
result_of Sub = quantity
result_of Sign = int
result_of IsInteger = bool
result_of AsInteger = int
result_of Major = int
result_of Minor = int
result_of Patch = int

size_is : (k m : CelType) → size_type k ≡ Some m → Some int ≡ Some m
size_is k m e = when_is (accepts scalar.Text k || is_some (element_type k)) int m e

pub call_is : (f : Function) (given : Arguments) (m : CelType) → call_type f given ≡ Some m → Some (result_of f) ≡ Some m
unfolding result_of
call_is Size (arguments.One k) m e = size_is k m e
call_is Quantity (arguments.One k) m e = when_is (accepts scalar.Text k) quantity m e
call_is IsQuantity (arguments.One k) m e = when_is (accepts scalar.Text k) bool m e
call_is Semver (arguments.One k) m e = when_is (accepts scalar.Text k) semver m e
call_is IsSemver (arguments.One k) m e = when_is (accepts scalar.Text k) bool m e
call_is f given m e = none_some e

alone_is : (f : Function) (k m : CelType) → alone_type f k ≡ Some m → Some (result_of f) ≡ Some m
unfolding result_of
alone_is Size k m e = size_is k m e
alone_is Sign k m e = when_is (accepts scalar.Quantity k) int m e
alone_is IsInteger k m e = when_is (accepts scalar.Quantity k) bool m e
alone_is AsInteger k m e = when_is (accepts scalar.Quantity k) int m e
alone_is Major k m e = when_is (accepts scalar.Semver k) int m e
alone_is Minor k m e = when_is (accepts scalar.Semver k) int m e
alone_is Patch k m e = when_is (accepts scalar.Semver k) int m e
alone_is f k m e = none_some e

with_is : (f : Function) (k l m : CelType) → with_type f k l ≡ Some m → Some (result_of f) ≡ Some m
unfolding result_of
with_is StartsWith k l m e = when_is (both_accept scalar.Text k l) bool m e
with_is EndsWith k l m e = when_is (both_accept scalar.Text k l) bool m e
with_is Contains k l m e = when_is (both_accept scalar.Text k l) bool m e
with_is CompareTo k l m e = when_is (both_ordered k l) int m e
with_is IsLessThan k l m e = when_is (both_ordered k l) bool m e
with_is IsGreaterThan k l m e = when_is (both_ordered k l) bool m e
with_is Add k l m e = when_is (are_summed k l) quantity m e
with_is Sub k l m e = when_is (are_summed k l) quantity m e
with_is f k l m e = none_some e

pub method_is : (f : Function) (k : CelType) (given : Arguments) (m : CelType) → method_type f k given ≡ Some m → Some (result_of f) ≡ Some m
method_is f k arguments.None m e = alone_is f k m e
method_is f k (arguments.One l) m e = with_is f k l m e
method_is f k (arguments.Two l n) m e = none_some e
method_is f k arguments.Many m e = none_some e

size_kind : (d : Device) (x : Value) → IfOk (size_of d x) (HasKind int)
size_kind d (value.Single x) = after (HasKind int) (text_from x) (λ s. whole (pos (length (chars s)))) (λ s. whole_kind (pos (length (chars s))))
size_kind d (value.List xs) = whole_kind (pos (length xs))
size_kind d (value.Map es) = whole_kind (pos (length es))
size_kind d (value.Domains f) = after (HasKind int) (elements_of d (value.Domains f)) (λ xs. whole (pos (length xs))) (λ xs. whole_kind (pos (length xs)))
size_kind d (value.Entries f domain) = after (HasKind int) (elements_of d (value.Entries f domain)) (λ xs. whole (pos (length xs))) (λ xs. whole_kind (pos (length xs)))

read_quantity_kind : (s : List ℕ) → IfOk (quantity_read s >>= λ n. Ok (values.quantity n)) (HasKind quantity)
read_quantity_kind s = after (HasKind quantity) (quantity_read s) (λ n. Ok (values.quantity n)) (λ n. of_scalar a_quantity)

read_version_kind : (s : List ℕ) → IfOk (version_read s >>= λ v. Ok (value.Single (single.Version v))) (HasKind semver)
read_version_kind s = after (HasKind semver) (version_read s) (λ v. Ok (value.Single (single.Version v))) (λ v. of_scalar a_version)

with_kind : (d : Device) (f : Function) (x : Value) → IfOk (call_with d f x) (HasKind (result_of f))
unfolding result_of
with_kind d Size x = size_kind d x
with_kind d Quantity x = after (HasKind quantity) (text_in x) (λ s. quantity_read s >>= λ n. Ok (values.quantity n)) read_quantity_kind
with_kind d IsQuantity x = truths (text_in x) (λ s. is_ok (quantity_read s))
with_kind d Semver x = after (HasKind semver) (text_in x) (λ s. version_read s >>= λ v. Ok (value.Single (single.Version v))) read_version_kind
with_kind d IsSemver x = truths (text_in x) (λ s. is_ok (version_read s))
with_kind d f x = tt

pub call_kind : (d : Device) (f : Function) (given : Arguments) (m : CelType) (xs : List Value) → call_type f given ≡ Some m → IfOk (call_of d f xs) (HasKind m)
call_kind d f given m [] e = tt
call_kind d f given m (x ∷ []) e = as_kind (call_with d f x) (call_is f given m e) (with_kind d f x)
call_kind d f given m (x ∷ y ∷ rest) e = tt

ints : {A : Type 0} (r : Result A EvalError) (f : A → ℤ) → IfOk (r >>= λ x. Ok (values.int (f x))) (HasKind int)
ints r f = after (HasKind int) r (λ x. Ok (values.int (f x))) (λ x. of_scalar an_int)

wholes : {A : Type 0} (r : Result A EvalError) (f : A → ℤ) → IfOk (r >>= λ x. whole (f x)) (HasKind int)
wholes r f = after (HasKind int) r (λ x. whole (f x)) (λ x. whole_kind (f x))

integer_kind : (n : ℤ) → IfOk (as_integer n) (HasKind int)
integer_kind n = either (HasKind int) (is_whole n) (Ok (values.int (int_div n one))) (Err BadConversion) (of_scalar an_int) tt

alone_kind : (d : Device) (f : Function) (x : Value) → IfOk (method_alone d f x) (HasKind (result_of f))
unfolding result_of
alone_kind d Size x = size_kind d x
alone_kind d Sign x = ints (amount_in x) (λ n. order_number (int_cmp n (pos 0)))
alone_kind d IsInteger x = truths (amount_in x) is_whole
alone_kind d AsInteger x = after (HasKind int) (amount_in x) as_integer integer_kind
alone_kind d Major x = wholes (version_in x) (λ v. pos v.0)
alone_kind d Minor x = wholes (version_in x) (λ v. pos v.1)
alone_kind d Patch x = wholes (version_in x) (λ v. pos v.2)
alone_kind d f x = tt

in_range_kind : (n : ℤ) → IfOk (in_range n) (HasKind quantity)
in_range_kind n = either (HasKind quantity) (int_le (neg_ℤ (pos most)) n && int_le n (pos most)) (Ok (values.quantity n)) (Err Overflow) (of_scalar a_quantity) tt

sum_kind : (f : ℤ → ℤ → ℤ) (x y : Value) → IfOk (quantity_sum f x y) (HasKind quantity)
sum_kind f x y =
    after (HasKind quantity) (amount_in x) (λ m. addend_in y >>= λ n. in_range (f m n))
    (λ m. after (HasKind quantity) (addend_in y) (λ n. in_range (f m n)) (λ n. in_range_kind (f m n)))

texts_kind : (test : List ℕ → List ℕ → Bool) (x y : Value) → IfOk (of_texts test x y) (HasKind bool)
texts_kind test x y = after (HasKind bool) (text_in x) (λ s. text_in y >>= λ t. Ok (values.truth (test s t))) (λ s. truths (text_in y) (λ t. test s t))

argument_kind : (f : Function) (x y : Value) → IfOk (method_with f x y) (HasKind (result_of f))
unfolding result_of
argument_kind StartsWith x y = texts_kind begins x y
argument_kind EndsWith x y = texts_kind ends x y
argument_kind Contains x y = texts_kind contains x y
argument_kind CompareTo x y = ints (both_in order_of x y) order_number
argument_kind IsLessThan x y = truths (both_in order_of x y) is_lt
argument_kind IsGreaterThan x y = truths (both_in order_of x y) is_gt
argument_kind Add x y = sum_kind (λ m n. m +ℤ n) x y
argument_kind Sub x y = sum_kind (λ m n. m -ℤ n) x y
argument_kind f x y = tt

pub method_kind : (d : Device) (f : Function) (k : CelType) (given : Arguments) (m : CelType) (x : Value) (ys : List Value) → method_type f k given ≡ Some m → IfOk (method_of d f x ys) (HasKind m)
method_kind d f k given m x [] e = as_kind (method_alone d f x) (method_is f k given m e) (alone_kind d f x)
method_kind d f k given m x (y ∷ []) e = as_kind (method_with f x y) (method_is f k given m e) (argument_kind f x y)
method_kind d f k given m x (y ∷ z ∷ rest) e = tt
