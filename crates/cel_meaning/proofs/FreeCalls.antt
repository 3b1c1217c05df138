-- Where no type has dyn in it, functions and comprehensions on values of their types aren't NoOverload.
use Rattle.std.proofs.Common.{◌≡◌, ◌≢◌, ℕ, ℤ, pos, neg_ℤ, ◌+ℤ◌, ◌-ℤ◌, List, [], ◌∷◌, Bool, true, false, Some, Result, Ok, Err, refl, length, is_some}
use Rattle.std.specs.Prelude.{◌&&◌, ◌||◌, int_div, int_le}
use Rattle.std.specs.Str.{chars}
use Rattle.quantity.specs.Range.{most}
use Rattle.cel_tree.specs.declared.types.Scalar.TheVariants as scalar
use Rattle.cel_tree.specs.declared.types.CelType.{CelType}
use Rattle.cel_tree.specs.declared.types.CelType.TheVariants as kind
use Rattle.cel_tree.specs.declared.calls.Function.{Function}
use Rattle.cel_tree.specs.declared.calls.Function.TheVariants.{Size, StartsWith, EndsWith, Contains, Quantity, IsQuantity, Semver, IsSemver, CompareTo, IsLessThan, IsGreaterThan, Add, Sub, Sign, IsInteger, AsInteger, Major, Minor, Patch}
use Rattle.cel_tree.specs.declared.calls.Arguments.{Arguments}
use Rattle.cel_tree.specs.declared.calls.Arguments.TheVariants as arguments
use Rattle.cel_tree.specs.Types.{int, bool, string, quantity, semver, accepts, both_accept, element_type}
use Rattle.cel_tree.specs.Calls.{call_type, method_type, size_type, both_ordered, are_summed, method_alone as alone_type, method_with as with_type}
use Rattle.cel_tree.specs.Typing.{with_first}
use Rattle.cel_value.specs.declared.error.EvalError.{EvalError}
use Rattle.cel_value.specs.declared.error.EvalError.TheVariants.{NoOverload, Overflow, BadConversion}
use Rattle.cel_value.specs.declared.value.Single.{Single}
use Rattle.cel_value.specs.declared.value.Single.TheVariants as single
use Rattle.cel_value.specs.declared.value.Value.{Value}
use Rattle.cel_value.specs.declared.value.Value.TheVariants as value
use Rattle.cel_value.specs.Values as values
use Rattle.cel_value.specs.Values.{◌>>=◌, whole}
use Rattle.cel_value.specs.Operators.{both_in}
use Rattle.cel_value.specs.Lookups.{elements_of}
use Rattle.cel_value.specs.Functions.{size_of, of_texts, begins, ends, contains, or_bad, quantity_read, version_read, quantity_of, is_quantity_of, version_of, is_version_of, order_of, in_range, amount_in, addend_in, quantity_sum, one, is_whole, as_integer, version_in, call_with, call_of, method_alone, method_with, method_of}
use Rattle.cel_value.specs.Device.{Device}
use Rattle.cel_meaning.specs.HasKind.{an_int, a_text, a_quantity, a_version, HasKind, of_scalar, of_list, of_map, of_domains, of_entries}
use Rattle.cel_meaning.specs.Plain.{is_plain}
use Rattle.cel_meaning.proofs.Every.{none_some}
use Rattle.cel_meaning.proofs.OfKind.{when_true, both_true}
use Rattle.cel_meaning.proofs.Free.{Free, free_to, free_if, or_true, accepted, whole_free}

bad : BadConversion ≢ NoOverload
bad e = absurd (cc)

-- ---- one operand of a function

or_false : (a : Bool) → (a || false) ≡ true → a ≡ true
or_false true e = refl
or_false false e = absurd (cc)

scalar_size : (d : Device) (x : Single) → HasKind string (value.Single x) → Free (size_of d (value.Single x))
scalar_size d _ (of_scalar (a_text {s = s})) = whole_free (pos (length (chars s)))

pub size_free : (d : Device) {k : CelType} (m : CelType) (x : Value) → size_type k ≡ Some m → is_plain k ≡ true → HasKind k x → Free (size_of d x)
size_free d m _ e p (of_scalar {s = s} {x = x} h) =
    scalar_size d x (accepted scalar.Text (value.Single x) (or_false (accepts scalar.Text (kind.Scalar s)) (when_true (accepts scalar.Text (kind.Scalar s) || is_some (element_type (kind.Scalar s))) int m e)) p (of_scalar h))
size_free d m _ e p (of_list {xs = xs} h) = whole_free (pos (length xs))
size_free d m _ e p (of_map {es = es} h) = whole_free (pos (length es))
size_free d m _ e p (of_domains {f = f}) = free_to (elements_of d (value.Domains f)) (λ xs. whole (pos (length xs))) tt (λ xs. whole_free (pos (length xs)))
size_free d m _ e p (of_entries {f = f} {domain = domain}) = free_to (elements_of d (value.Entries f domain)) (λ xs. whole (pos (length xs))) tt (λ xs. whole_free (pos (length xs)))

bad_free : {A E : Type 0} (r : Result A E) → Free (or_bad r)
bad_free (Ok x) = tt
bad_free (Err e) = bad

quantity_free : (x : Value) → HasKind string x → Free (quantity_of x)
quantity_free _ (of_scalar (a_text {s = s})) = free_to (quantity_read s) (λ n. Ok (values.quantity n)) (bad_free _) (λ n. tt)

is_quantity_free : (x : Value) → HasKind string x → Free (is_quantity_of x)
is_quantity_free _ (of_scalar a_text) = tt

version_free : (x : Value) → HasKind string x → Free (version_of x)
version_free _ (of_scalar (a_text {s = s})) = free_to (version_read s) (λ v. Ok (value.Single (single.Version v))) (bad_free _) (λ v. tt)

is_version_free : (x : Value) → HasKind string x → Free (is_version_of x)
is_version_free _ (of_scalar a_text) = tt

one_free : (d : Device) (f : Function) (k m : CelType) (x : Value) → call_type f (arguments.One k) ≡ Some m → is_plain k ≡ true → HasKind k x → Free (call_with d f x)
one_free d Size k m x e p h = size_free d m x e p h
one_free d Quantity k m x e p h = quantity_free x (accepted scalar.Text x (when_true (accepts scalar.Text k) quantity m e) p h)
one_free d IsQuantity k m x e p h = is_quantity_free x (accepted scalar.Text x (when_true (accepts scalar.Text k) bool m e) p h)
one_free d Semver k m x e p h = version_free x (accepted scalar.Text x (when_true (accepts scalar.Text k) semver m e) p h)
one_free d IsSemver k m x e p h = is_version_free x (accepted scalar.Text x (when_true (accepts scalar.Text k) bool m e) p h)
one_free d f k m x e p h = none_some e

amount_free : {A : Type 0} (x : Value) (f : ℤ → Result A EvalError) → ((n : ℤ) → Free (f n)) → HasKind quantity x → Free (amount_in x >>= f)
amount_free _ f g (of_scalar (a_quantity {n = n})) = g n

part_free : (x : Value) (f : _ → ℤ) → HasKind semver x → Free (version_in x >>= λ v. whole (f v))
part_free _ f (of_scalar (a_version {v = v})) = whole_free (f v)

integer_free : (n : ℤ) → Free (as_integer n)
integer_free n = free_if (is_whole n) (Ok (values.int (int_div n one))) (Err BadConversion) tt bad

alone_free : (d : Device) (f : Function) (k m : CelType) (x : Value) → alone_type f k ≡ Some m → is_plain k ≡ true → HasKind k x → Free (method_alone d f x)
alone_free d Size k m x e p h = size_free d m x e p h
alone_free d Sign k m x e p h = amount_free x _ (λ n. tt) (accepted scalar.Quantity x (when_true (accepts scalar.Quantity k) int m e) p h)
alone_free d IsInteger k m x e p h = amount_free x _ (λ n. tt) (accepted scalar.Quantity x (when_true (accepts scalar.Quantity k) bool m e) p h)
alone_free d AsInteger k m x e p h = amount_free x as_integer integer_free (accepted scalar.Quantity x (when_true (accepts scalar.Quantity k) int m e) p h)
alone_free d Major k m x e p h = part_free x (λ v. pos v.0) (accepted scalar.Semver x (when_true (accepts scalar.Semver k) int m e) p h)
alone_free d Minor k m x e p h = part_free x (λ v. pos v.1) (accepted scalar.Semver x (when_true (accepts scalar.Semver k) int m e) p h)
alone_free d Patch k m x e p h = part_free x (λ v. pos v.2) (accepted scalar.Semver x (when_true (accepts scalar.Semver k) int m e) p h)
alone_free d f k m x e p h = none_some e

-- ---- two operands of a function

two_texts : (test : List ℕ → List ℕ → Bool) (x y : Value) → HasKind string x → HasKind string y → Free (of_texts test x y)
two_texts test _ _ (of_scalar a_text) (of_scalar a_text) = tt

two_quantities : (x y : Value) → HasKind quantity x → HasKind quantity y → Free (both_in order_of x y)
two_quantities _ _ (of_scalar a_quantity) (of_scalar a_quantity) = tt

two_versions : (x y : Value) → HasKind semver x → HasKind semver y → Free (both_in order_of x y)
two_versions _ _ (of_scalar a_version) (of_scalar a_version) = tt

addend_quantity : (y : Value) → HasKind quantity y → Free (addend_in y)
addend_quantity _ (of_scalar a_quantity) = tt

addend_int : (y : Value) → HasKind int y → Free (addend_in y)
addend_int _ (of_scalar an_int) = tt

range_free : (n : ℤ) → Free (in_range n)
range_free n = free_if (int_le (neg_ℤ (pos most)) n && int_le n (pos most)) (Ok (values.quantity n)) (Err Overflow) tt (λ e. absurd (cc))

texts_free : (test : List ℕ → List ℕ → Bool) (k l m : CelType) (x y : Value) → both_accept scalar.Text k l ≡ true → is_plain k ≡ true → is_plain l ≡ true → HasKind k x → HasKind l y → Free (of_texts test x y)
texts_free test k l m x y e p q h i =
    let b = both_true (accepts scalar.Text k) (accepts scalar.Text l) e in
    two_texts test x y (accepted scalar.Text x b.0 p h) (accepted scalar.Text y b.1 q i)

order_free : (k l : CelType) (x y : Value) → both_ordered k l ≡ true → is_plain k ≡ true → is_plain l ≡ true → HasKind k x → HasKind l y → Free (both_in order_of x y)
order_free k l x y e p q h i =
    or_true (both_accept scalar.Quantity k l) (both_accept scalar.Semver k l) e
    (λ t. let b = both_true (accepts scalar.Quantity k) (accepts scalar.Quantity l) t in two_quantities x y (accepted scalar.Quantity x b.0 p h) (accepted scalar.Quantity y b.1 q i))
    (λ t. let b = both_true (accepts scalar.Semver k) (accepts scalar.Semver l) t in two_versions x y (accepted scalar.Semver x b.0 p h) (accepted scalar.Semver y b.1 q i))

sum_free : (f : ℤ → ℤ → ℤ) (k l : CelType) (x y : Value) → are_summed k l ≡ true → is_plain k ≡ true → is_plain l ≡ true → HasKind k x → HasKind l y → Free (quantity_sum f x y)
sum_free f k l x y e p q h i =
    let b = both_true (accepts scalar.Quantity k) (accepts scalar.Quantity l || accepts scalar.Int l) e in
    amount_free x (λ m. addend_in y >>= λ n. in_range (f m n))
    (λ m. free_to (addend_in y) (λ n. in_range (f m n))
    (or_true (accepts scalar.Quantity l) (accepts scalar.Int l) b.1 (λ t. addend_quantity y (accepted scalar.Quantity y t q i)) (λ t. addend_int y (accepted scalar.Int y t q i)))
    (λ n. range_free (f m n)))
    (accepted scalar.Quantity x b.0 p h)

argument_free : (f : Function) (k l m : CelType) (x y : Value) → with_type f k l ≡ Some m → is_plain k ≡ true → is_plain l ≡ true → HasKind k x → HasKind l y → Free (method_with f x y)
argument_free StartsWith k l m x y e p q h i = texts_free begins k l m x y (when_true (both_accept scalar.Text k l) bool m e) p q h i
argument_free EndsWith k l m x y e p q h i = texts_free ends k l m x y (when_true (both_accept scalar.Text k l) bool m e) p q h i
argument_free Contains k l m x y e p q h i = texts_free contains k l m x y (when_true (both_accept scalar.Text k l) bool m e) p q h i
argument_free CompareTo k l m x y e p q h i = free_to (both_in order_of x y) _ (order_free k l x y (when_true (both_ordered k l) int m e) p q h i) (λ o. tt)
argument_free IsLessThan k l m x y e p q h i = free_to (both_in order_of x y) _ (order_free k l x y (when_true (both_ordered k l) bool m e) p q h i) (λ o. tt)
argument_free IsGreaterThan k l m x y e p q h i = free_to (both_in order_of x y) _ (order_free k l x y (when_true (both_ordered k l) bool m e) p q h i) (λ o. tt)
argument_free Add k l m x y e p q h i = sum_free (λ a b. a +ℤ b) k l x y (when_true (are_summed k l) quantity m e) p q h i
argument_free Sub k l m x y e p q h i = sum_free (λ a b. a -ℤ b) k l x y (when_true (are_summed k l) quantity m e) p q h i
argument_free f k l m x y e p q h i = none_some e

-- ---- arguments

-- values of types without dyn
pub data Given : List Value → Arguments → Type 0 where
  no_given : Given [] arguments.None
  given : {x : Value} {xs : List Value} (k : CelType) {rest : Arguments} → is_plain k ≡ true → HasKind k x → Given xs rest → Given (x ∷ xs) (with_first k rest)

no_call : {Q : Type 0} (f : Function) (m : CelType) → call_type f arguments.None ≡ Some m → Q
no_call Size m e = none_some e
no_call f m e = none_some e

two_call : {Q : Type 0} (f : Function) (k l m : CelType) → call_type f (arguments.Two k l) ≡ Some m → Q
two_call Size k l m e = none_some e
two_call f k l m e = none_some e

many_call : {Q : Type 0} (f : Function) (m : CelType) → call_type f arguments.Many ≡ Some m → Q
many_call Size m e = none_some e
many_call f m e = none_some e

more_call : {Q : Type 0} (f : Function) (k l m : CelType) (rest : Arguments) → call_type f (with_first k (with_first l rest)) ≡ Some m → Q
more_call f k l m arguments.None e = two_call f k l m e
more_call f k l m (arguments.One n) e = many_call f m e
more_call f k l m (arguments.Two n o) e = many_call f m e
more_call f k l m arguments.Many e = many_call f m e

pub call_free : (d : Device) (f : Function) (m : CelType) {xs : List Value} {rest : Arguments} → Given xs rest → call_type f rest ≡ Some m → Free (call_of d f xs)
call_free d f m no_given e = no_call f m e
call_free d f m (given {x = x} k p h no_given) e = one_free d f k m x e p h
call_free d f m (given k p h (given l {rest = rest} q i hs)) e = more_call f k l m rest e

more_method : {Q : Type 0} (f : Function) (k l n m : CelType) (rest : Arguments) → method_type f k (with_first l (with_first n rest)) ≡ Some m → Q
more_method f k l n m arguments.None e = none_some e
more_method f k l n m (arguments.One o) e = none_some e
more_method f k l n m (arguments.Two o q) e = none_some e
more_method f k l n m arguments.Many e = none_some e

pub method_free : (d : Device) (f : Function) (k m : CelType) (x : Value) {ys : List Value} {rest : Arguments} → is_plain k ≡ true → HasKind k x → Given ys rest → method_type f k rest ≡ Some m → Free (method_of d f x ys)
method_free d f k m x p h no_given e = alone_free d f k m x e p h
method_free d f k m x p h (given {x = y} l q i no_given) e = argument_free f k l m x y e p q h i
method_free d f k m x p h (given l q i (given n {rest = rest} r j hs)) e = more_method f k l n m rest e
