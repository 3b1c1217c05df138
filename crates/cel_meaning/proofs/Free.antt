-- Where no type has dyn in it, operations on values of their types aren't NoOverload.
use Rattle.std.proofs.Common.{◌≡◌, ◌≢◌, ℕ, ℤ, pos, negsuc, neg_ℤ, ◌+ℤ◌, ◌-ℤ◌, ◌*ℤ◌, List, Bool, true, false, not, Option, Some, None, slice_get, IfOk, Result, Ok, Err, subst, sym, refl, if◌then◌else◌, codes, bytes_eq}
use Rattle.std.specs.Prelude.{◌||◌, int_div, int_rem}
use Rattle.std.specs.Ordering.{int_eq, is_lt, is_le, is_gt, is_ge}
use Rattle.std.specs.declared.cmp.Ordering.{Ordering}
use Rattle.cel_tree.specs.declared.tree.Span.{Span}
use Rattle.cel_tree.specs.declared.tree.UnaryOp.{UnaryOp}
use Rattle.cel_tree.specs.declared.tree.UnaryOp.TheVariants.{Not, Negate}
use Rattle.cel_tree.specs.declared.tree.BinaryOp.{BinaryOp}
use Rattle.cel_tree.specs.declared.tree.BinaryOp.TheVariants as op
use Rattle.cel_tree.specs.declared.types.Scalar.{Scalar}
use Rattle.cel_tree.specs.declared.types.Scalar.TheVariants as scalar
use Rattle.cel_tree.specs.declared.types.KeyType.{KeyType}
use Rattle.cel_tree.specs.declared.types.KeyType.TheVariants as key
use Rattle.cel_tree.specs.declared.types.Facet.{Facet}
use Rattle.cel_tree.specs.declared.types.Facet.TheVariants.{Attributes, Capacities}
use Rattle.cel_tree.specs.declared.types.CelType.{CelType}
use Rattle.cel_tree.specs.declared.types.CelType.TheVariants as kind
use Rattle.cel_tree.specs.declared.fault.Fault.TheVariants.{NoSuchName}
use Rattle.cel_tree.specs.Types.{int, bool, string, accepts, both_accept, when, is_dyn, same_scalar, scalar_of, unary_type, binary_type, equality_type, in_type, sum_type, add_type, entry_type, member_type, index_type, element_type}
use Rattle.cel_tree.specs.Typing.{device_type}
use Rattle.cel_value.specs.declared.error.EvalError.{EvalError}
use Rattle.cel_value.specs.declared.error.EvalError.TheVariants.{NoKey, NoOverload, Overflow, DivByZero, OutOfRange}
use Rattle.cel_value.specs.declared.value.Single.{Single}
use Rattle.cel_value.specs.declared.value.Single.TheVariants as single
use Rattle.cel_value.specs.declared.value.Key.{Key}
use Rattle.cel_value.specs.declared.value.Value.{Value}
use Rattle.cel_value.specs.declared.value.Value.TheVariants as value
use Rattle.cel_value.specs.Values as values
use Rattle.cel_value.specs.Values.{◌>>=◌, fits, whole, single_in, truth_of, key_from}
use Rattle.cel_value.specs.Operators.{unary_of, ordered, difference, product, divided, arithmetic, single_sum, add_of, same_of, in_of, binary_of}
use Rattle.cel_value.specs.Lookups.{at_key, at_name, full_name, found, element_at, value_at, entry_at, device_member_of, member_of, has_of, index_of, elements_of}
use Rattle.cel_value.specs.Device.{Device}
use Rattle.cel_meaning.specs.declared.connective.Connective.{Connective}
use Rattle.cel_meaning.specs.declared.connective.Connective.TheVariants as connective
use Rattle.cel_meaning.specs.Folds.{tested, joined, connective_of, as_value}
use Rattle.cel_meaning.specs.Meaning.{operation}
use Rattle.cel_meaning.specs.HasKind.{IsOf, a_bool, an_int, a_text, anything, HasKind, of_scalar, of_list, of_map, of_domains, of_entries}
use Rattle.cel_meaning.specs.Plain.{is_plain}
use Rattle.cel_meaning.proofs.Every.{some_inj, none_some}
use Rattle.cel_meaning.proofs.OfKind.{when_true, same_is, both_true}

-- a value, or another error than NoOverload
abbrev pub Free : {A : Type 0} → Result A EvalError → Type 0
Free (Ok x) = Unit {0}
Free (Err e) = e ≢ NoOverload

pub free_on : {A B : Type 0} (P : A → Type 0) (r : Result A EvalError) (f : A → Result B EvalError) → Free r → IfOk r P → ((x : A) → P x → Free (f x)) → Free (r >>= f)
free_on P (Ok x) f h p g = g x p
free_on P (Err e) f h p g = h

pub free_to : {A B : Type 0} (r : Result A EvalError) (f : A → Result B EvalError) → Free r → ((x : A) → Free (f x)) → Free (r >>= f)
free_to (Ok x) f h g = g x
free_to (Err e) f h g = h

pub free_if : {A : Type 0} (b : Bool) (r s : Result A EvalError) → Free r → Free s → Free (if b then r else s)
free_if true r s h i = h
free_if false r s h i = i

pub or_true : {Q : Type 0} (a b : Bool) → (a || b) ≡ true → (a ≡ true → Q) → (b ≡ true → Q) → Q
or_true true b e f g = f refl
or_true false true e f g = g refl
or_true false false e f g = absurd (cc)

-- ---- an operand of the expected type

or_not : (a b : Bool) → (a || b) ≡ true → not b ≡ true → a ≡ true
or_not true b e f = refl
or_not false true e f = absurd (cc)
or_not false false e f = absurd (cc)

pub accepted : (w : Scalar) {k : CelType} (x : Value) → accepts w k ≡ true → is_plain k ≡ true → HasKind k x → HasKind (kind.Scalar w) x
accepted w _ a p (of_scalar {s = s} {x = x} h) = of_scalar (subst (λ (t : Scalar). IsOf t x) (sym (same_is w s (or_not (same_scalar w s) (is_dyn s) a p))) h)
accepted w _ a p (of_list h) = absurd (cc)
accepted w _ a p (of_map h) = absurd (cc)
accepted w _ a p of_domains = absurd (cc)
accepted w _ a p of_entries = absurd (cc)

-- ---- whole numbers

overflow : Overflow ≢ NoOverload
overflow e = absurd (cc)

no_key : NoKey ≢ NoOverload
no_key e = absurd (cc)

pub whole_free : (n : ℤ) → Free (whole n)
whole_free n = free_if (fits n) (Ok (values.int n)) (Err Overflow) tt overflow

divided_free : (f : ℤ → ℤ → ℤ) (m n : ℤ) → Free (divided f m n)
divided_free f m n =
    free_if (int_eq n (pos 0)) (Err DivByZero) (if fits (int_div m n) then Ok (values.int (f m n)) else Err Overflow) (λ e. absurd (cc))
    (free_if (fits (int_div m n)) (Ok (values.int (f m n))) (Err Overflow) tt overflow)

arithmetic_free : (f : ℤ → ℤ → Result Value EvalError) (x y : Value) → ((m n : ℤ) → Free (f m n)) → HasKind int x → HasKind int y → Free (arithmetic f x y)
arithmetic_free f _ _ g (of_scalar (an_int {n = m})) (of_scalar (an_int {n = n})) = g m n

-- ---- `!` and unary `-`

not_free : (x : Value) → HasKind bool x → Free (unary_of Not x)
not_free _ (of_scalar a_bool) = tt

negate_free : (x : Value) → HasKind int x → Free (unary_of Negate x)
negate_free _ (of_scalar (an_int {n = n})) = whole_free (neg_ℤ n)

pub unary_free : (o : UnaryOp) (k m : CelType) (x : Value) → unary_type o k ≡ Some m → is_plain k ≡ true → HasKind k x → Free (unary_of o x)
unary_free Not k m x e p h = not_free x (accepted scalar.Bool x (when_true (accepts scalar.Bool k) bool m e) p h)
unary_free Negate k m x e p h = negate_free x (accepted scalar.Int x (when_true (accepts scalar.Int k) int m e) p h)

-- ---- `< <= > >=`

ints_free : (test : Ordering → Bool) (x y : Value) → HasKind int x → HasKind int y → Free (ordered test x y)
ints_free test _ _ (of_scalar an_int) (of_scalar an_int) = tt

strings_free : (test : Ordering → Bool) (x y : Value) → HasKind string x → HasKind string y → Free (ordered test x y)
strings_free test _ _ (of_scalar a_text) (of_scalar a_text) = tt

bools_free : (test : Ordering → Bool) (x y : Value) → HasKind bool x → HasKind bool y → Free (ordered test x y)
bools_free test _ _ (of_scalar a_bool) (of_scalar a_bool) = tt

two_accepted : {Q : Type 0} (w : Scalar) (k l : CelType) (x y : Value) → is_plain k ≡ true → is_plain l ≡ true → HasKind k x → HasKind l y → (HasKind (kind.Scalar w) x → HasKind (kind.Scalar w) y → Q) → both_accept w k l ≡ true → Q
two_accepted w k l x y p q h i g e =
    let b = both_true (accepts w k) (accepts w l) e in
    g (accepted w x b.0 p h) (accepted w y b.1 q i)

order_free : (test : Ordering → Bool) (k l m : CelType) (x y : Value) → binary_type op.Less k l ≡ Some m → is_plain k ≡ true → is_plain l ≡ true → HasKind k x → HasKind l y → Free (ordered test x y)
order_free test k l m x y e p q h i =
    let t = when_true (both_accept scalar.Int k l || (both_accept scalar.Text k l || both_accept scalar.Bool k l)) bool m e in
    or_true (both_accept scalar.Int k l) (both_accept scalar.Text k l || both_accept scalar.Bool k l) t (two_accepted scalar.Int k l x y p q h i (ints_free test x y))
    (λ u. or_true (both_accept scalar.Text k l) (both_accept scalar.Bool k l) u (two_accepted scalar.Text k l x y p q h i (strings_free test x y)) (two_accepted scalar.Bool k l x y p q h i (bools_free test x y)))

-- ---- `== !=`, `in`, `+`

same_free : {k l : CelType} (m : CelType) (x y : Value) → equality_type k l ≡ Some m → HasKind k x → HasKind l y → Free (same_of x y)
same_free m _ _ e (of_scalar p) (of_scalar q) = tt
same_free m _ _ e (of_list p) (of_list q) = tt
same_free m _ _ e (of_map p) (of_map q) = tt
same_free m _ _ e p q = none_some e

-- a value that may be the key of a map is a key
key_free : (k : KeyType) (x : Single) → IsOf (scalar_of k) x → Free (key_from x)
key_free key.Int _ an_int = tt
key_free key.Bool _ a_bool = tt
key_free key.Text _ a_text = tt

map_in_free : (d : Device) (k : KeyType) (x : Value) (es : List (Key × Single)) → HasKind (kind.Scalar (scalar_of k)) x → Free (in_of d x (value.Map es))
map_in_free d k _ es (of_scalar {x = x} p) = free_to (key_from x) (λ y. _) (key_free k x p) (λ y. tt)

domain_in_free : (d : Device) (f : Facet) (x : Value) → HasKind string x → Free (in_of d x (value.Domains f))
domain_in_free d f _ (of_scalar a_text) = tt

id_in_free : (d : Device) (f : Facet) (domain : List ℕ) (x : Value) → HasKind string x → Free (in_of d x (value.Entries f domain))
id_in_free d f domain _ (of_scalar a_text) = tt

list_in_free : (d : Device) {k : CelType} (m : CelType) (x : Value) (ys : List Single) (t : Scalar) → in_type k (kind.List t) ≡ Some m → HasKind k x → Free (in_of d x (value.List ys))
list_in_free d m _ ys t e (of_scalar p) = tt
list_in_free d m _ ys t e h = none_some e

wanted : CelType → Option Scalar
wanted (kind.Scalar s) = None
wanted (kind.List t) = None
wanted (kind.Map k v) = Some (scalar_of k)
wanted (kind.Domains f) = Some scalar.Text
wanted (kind.Entries f) = Some scalar.Text

-- what is looked for in a map or a device is of the keys' type
in_wanted : (k l m : CelType) (w : Scalar) → wanted l ≡ Some w → in_type k l ≡ Some m → accepts w k ≡ true
unfolding wanted
in_wanted k (kind.Scalar s) m w a e = none_some a
in_wanted k (kind.List t) m w a e = none_some a
in_wanted (kind.Scalar s) (kind.Map l v) m w a e = subst (λ (t : Scalar). accepts t (kind.Scalar s) ≡ true) (some_inj a) (when_true (accepts (scalar_of l) (kind.Scalar s)) bool m e)
in_wanted (kind.Scalar s) (kind.Domains f) m w a e = subst (λ (t : Scalar). accepts t (kind.Scalar s) ≡ true) (some_inj a) (when_true (accepts scalar.Text (kind.Scalar s)) bool m e)
in_wanted (kind.Scalar s) (kind.Entries f) m w a e = subst (λ (t : Scalar). accepts t (kind.Scalar s) ≡ true) (some_inj a) (when_true (accepts scalar.Text (kind.Scalar s)) bool m e)
in_wanted k l m w a e = none_some e

in_scalar : {Q : Type 0} (k m : CelType) (s : Scalar) → in_type k (kind.Scalar s) ≡ Some m → Q
in_scalar (kind.Scalar t) m s e = none_some e
in_scalar k m s e = none_some e

in_free : (d : Device) (k : CelType) {l : CelType} (m : CelType) (x y : Value) → in_type k l ≡ Some m → is_plain k ≡ true → HasKind k x → HasKind l y → Free (in_of d x y)
unfolding wanted
in_free d k m x _ e p h (of_list {s = t} {xs = ys} q) = list_in_free d m x ys t e h
in_free d k m x _ e p h (of_map {k = l} {v = v} {es = es} q) = map_in_free d l x es (accepted (scalar_of l) x (in_wanted k (kind.Map l v) m (scalar_of l) refl e) p h)
in_free d k m x _ e p h (of_domains {f = f}) = domain_in_free d f x (accepted scalar.Text x (in_wanted k (kind.Domains f) m scalar.Text refl e) p h)
in_free d k m x _ e p h (of_entries {f = f} {domain = domain}) = id_in_free d f domain x (accepted scalar.Text x (in_wanted k (kind.Entries f) m scalar.Text refl e) p h)
in_free d k m x _ e p h (of_scalar {s = s} q) = in_scalar k m s e

sum_free : {s t : Scalar} (m : CelType) (x y : Single) → IsOf s x → IsOf t y → not (is_dyn s) ≡ true → not (is_dyn t) ≡ true → sum_type s t ≡ Some m → Free (single_sum x y)
sum_free m _ _ (an_int {n = a}) (an_int {n = b}) p q e = whole_free (a +ℤ b)
sum_free m _ _ a_text a_text p q e = tt
sum_free m _ _ anything h p q e = absurd (cc)
sum_free m _ _ h anything p q e = absurd (cc)
sum_free m _ _ h i p q e = none_some e

add_free : {k l : CelType} (m : CelType) (x y : Value) → is_plain k ≡ true → is_plain l ≡ true → HasKind k x → HasKind l y → add_type k l ≡ Some m → Free (add_of x y)
add_free m _ _ p q (of_scalar {x = x} h) (of_scalar {x = y} i) e = sum_free m x y h i p q e
add_free m _ _ p q (of_list h) (of_list i) e = tt
add_free m _ _ p q h i e = none_some e

-- ---- operations

plain_result_free : (d : Device) (o : BinaryOp) (k l m : CelType) (x y : Value) → binary_type o k l ≡ Some m → is_plain k ≡ true → is_plain l ≡ true → HasKind k x → HasKind l y → connective_of o ≡ None → Free (binary_of d o x y)
plain_result_free d op.Or k l m x y e p q h i c = absurd (cc)
plain_result_free d op.And k l m x y e p q h i c = absurd (cc)
plain_result_free d op.Less k l m x y e p q h i c = order_free is_lt k l m x y e p q h i
plain_result_free d op.LessEq k l m x y e p q h i c = order_free is_le k l m x y e p q h i
plain_result_free d op.GreaterEq k l m x y e p q h i c = order_free is_ge k l m x y e p q h i
plain_result_free d op.Greater k l m x y e p q h i c = order_free is_gt k l m x y e p q h i
plain_result_free d op.Equal k l m x y e p q h i c = free_to (same_of x y) (λ b. Ok (values.truth b)) (same_free m x y e h i) (λ b. tt)
plain_result_free d op.NotEqual k l m x y e p q h i c = free_to (same_of x y) (λ b. Ok (values.truth (not b))) (same_free m x y e h i) (λ b. tt)
plain_result_free d op.In k l m x y e p q h i c = free_to (in_of d x y) (λ b. Ok (values.truth b)) (in_free d k m x y e p h i) (λ b. tt)
plain_result_free d op.Add k l m x y e p q h i c = add_free m x y p q h i e
plain_result_free d op.Subtract k l m x y e p q h i c = two_accepted scalar.Int k l x y p q h i (arithmetic_free difference x y (λ a b. whole_free (a -ℤ b))) (when_true (both_accept scalar.Int k l) int m e)
plain_result_free d op.Multiply k l m x y e p q h i c = two_accepted scalar.Int k l x y p q h i (arithmetic_free product x y (λ a b. whole_free (a *ℤ b))) (when_true (both_accept scalar.Int k l) int m e)
plain_result_free d op.Divide k l m x y e p q h i c = two_accepted scalar.Int k l x y p q h i (arithmetic_free (divided int_div) x y (divided_free int_div)) (when_true (both_accept scalar.Int k l) int m e)
plain_result_free d op.Remainder k l m x y e p q h i c = two_accepted scalar.Int k l x y p q h i (arithmetic_free (divided int_rem) x y (divided_free int_rem)) (when_true (both_accept scalar.Int k l) int m e)

truth_free : (x : Value) → HasKind bool x → Free (truth_of x)
truth_free _ (of_scalar a_bool) = tt

pub tested_free : (k : CelType) (r : Result Value EvalError) → accepts scalar.Bool k ≡ true → is_plain k ≡ true → IfOk r (HasKind k) → Free r → Free (tested r)
tested_free k r a p h f = free_on (HasKind k) r (λ x. truth_of x) f h (λ x i. truth_free x (accepted scalar.Bool x a p i))

pub joined_free : (c : Connective) (p q : Result Bool EvalError) → Free p → Free q → Free (joined c p q)
joined_free connective.And (Ok true) q h i = i
joined_free connective.And (Ok false) q h i = tt
joined_free connective.And (Err e) (Ok true) h i = h
joined_free connective.And (Err e) (Ok false) h i = tt
joined_free connective.And (Err e) (Err f) h i = h
joined_free connective.Or (Ok true) q h i = tt
joined_free connective.Or (Ok false) q h i = i
joined_free connective.Or (Err e) (Ok true) h i = tt
joined_free connective.Or (Err e) (Ok false) h i = h
joined_free connective.Or (Err e) (Err f) h i = h

pub as_value_free : (r : Result Bool EvalError) → Free r → Free (as_value r)
as_value_free r h = free_to r (λ b. Ok (values.truth b)) h (λ b. tt)

sides_free : (c : Connective) (k l m : CelType) (r s : Result Value EvalError) → when (both_accept scalar.Bool k l) bool ≡ Some m → is_plain k ≡ true → is_plain l ≡ true →
    IfOk r (HasKind k) → IfOk s (HasKind l) → Free r → Free s → Free (as_value (joined c (tested r) (tested s)))
sides_free c k l m r s e p q h i f g =
    let b = both_true (accepts scalar.Bool k) (accepts scalar.Bool l) (when_true (both_accept scalar.Bool k l) bool m e) in
    as_value_free (joined c (tested r) (tested s)) (joined_free c (tested r) (tested s) (tested_free k r b.0 p h f) (tested_free l s b.1 q i g))

operands_free : (d : Device) (o : BinaryOp) (k l m : CelType) (r s : Result Value EvalError) → binary_type o k l ≡ Some m → is_plain k ≡ true → is_plain l ≡ true →
    IfOk r (HasKind k) → IfOk s (HasKind l) → Free r → Free s → connective_of o ≡ None → Free (r >>= λ x. s >>= λ y. binary_of d o x y)
operands_free d o k l m r s e p q h i f g c =
    free_on (HasKind k) r (λ x. s >>= λ y. binary_of d o x y) f h (λ x u. free_on (HasKind l) s (λ y. binary_of d o x y) g i (λ y v. plain_result_free d o k l m x y e p q u v c))

pub operation_free : (d : Device) (o : BinaryOp) (k l m : CelType) (r s : Result Value EvalError) → binary_type o k l ≡ Some m → is_plain k ≡ true → is_plain l ≡ true →
    IfOk r (HasKind k) → IfOk s (HasKind l) → Free r → Free s → Free (operation d (connective_of o) o r s)
operation_free d op.And k l m r s e p q h i f g = sides_free connective.And k l m r s e p q h i f g
operation_free d op.Or k l m r s e p q h i f g = sides_free connective.Or k l m r s e p q h i f g
operation_free d o k l m r s e p q h i f g = operands_free d o k l m r s e p q h i f g refl

pub choice_free : (q : Result Bool EvalError) (r s : Result Value EvalError) → Free q → Free r → Free s → Free (q >>= λ b. if b then r else s)
choice_free q r s f g h = free_to q (λ b. if b then r else s) f (λ b. free_if b r s g h)

-- ---- parts

found_free : (e : EvalError) (o : Option Single) → e ≢ NoOverload → Free (found e o)
found_free e None h = h
found_free e (Some x) h = tt

at_free : (n : ℤ) (xs : List Single) → Free (element_at n xs)
at_free (pos n) xs = found_free OutOfRange (slice_get xs n) (λ e. absurd (cc))
at_free (negsuc n) xs = λ e. absurd (cc)

list_free : (d : Device) (xs : List Single) (i : Value) → HasKind int i → Free (index_of d (value.List xs) i)
list_free d xs _ (of_scalar (an_int {n = n})) = at_free n xs

value_free : (k : KeyType) (x : Single) (es : List (Key × Single)) → IsOf (scalar_of k) x → Free (value_at x es)
value_free k x es p = free_to (key_from x) (λ y. found NoKey (at_key y es)) (key_free k x p) (λ y. found_free NoKey (at_key y es) no_key)

map_free : (d : Device) (k : KeyType) (es : List (Key × Single)) (i : Value) → HasKind (kind.Scalar (scalar_of k)) i → Free (index_of d (value.Map es) i)
map_free d k es _ (of_scalar {x = x} p) = value_free k x es p

domain_free : (d : Device) (f : Facet) (i : Value) → HasKind string i → Free (index_of d (value.Domains f) i)
domain_free d f _ (of_scalar a_text) = tt

entry_free : (d : Device) (f : Facet) (domain id : List ℕ) → Free (entry_at d f domain (single.Text id))
entry_free d f domain id = found_free NoKey (at_name d f (full_name domain id)) no_key

id_free : (d : Device) (f : Facet) (domain : List ℕ) (i : Value) → HasKind string i → Free (index_of d (value.Entries f domain) i)
id_free d f domain _ (of_scalar (a_text {s = id})) = entry_free d f domain id

pub index_free : (d : Device) {k : CelType} (l m : CelType) (x i : Value) → index_type k l ≡ Some m → is_plain l ≡ true → HasKind k x → HasKind l i → Free (index_of d x i)
index_free d l m _ i e p (of_scalar h) q = none_some e
index_free d l m _ i e p (of_list {s = s} {xs = xs} h) q = list_free d xs i (accepted scalar.Int i (when_true (accepts scalar.Int l) (kind.Scalar s) m e) p q)
index_free d l m _ i e p (of_map {k = k} {v = v} {es = es} h) q = map_free d k es i (accepted (scalar_of k) i (when_true (accepts (scalar_of k) l) (kind.Scalar v) m e) p q)
index_free d l m _ i e p (of_domains {f = f}) q = domain_free d f i (accepted scalar.Text i (when_true (accepts scalar.Text l) (kind.Entries f) m e) p q)
index_free d l m _ i e p (of_entries {f = f} {domain = domain}) q = id_free d f domain i (accepted scalar.Text i (when_true (accepts scalar.Text l) (entry_type f) m e) p q)

pub member_free : (d : Device) {k : CelType} (m : CelType) (x : Value) (name : List ℕ) → member_type k ≡ Some m → HasKind k x → Free (member_of d x name)
member_free d m _ name e (of_scalar h) = none_some e
member_free d m _ name e (of_list h) = none_some e
member_free d m _ name e (of_map {es = es} h) = value_free key.Text (single.Text name) es a_text
member_free d m _ name e of_domains = tt
member_free d m _ name e (of_entries {f = f} {domain = domain}) = entry_free d f domain name

pub has_free : (d : Device) {k : CelType} (m : CelType) (x : Value) (name : List ℕ) → member_type k ≡ Some m → HasKind k x → Free (has_of d x name)
has_free d m _ name e (of_scalar h) = none_some e
has_free d m _ name e (of_list h) = none_some e
has_free d m _ name e (of_map h) = tt
has_free d m _ name e of_domains = tt
has_free d m _ name e of_entries = tt

pub elements_free : (d : Device) {k : CelType} (s : Scalar) (x : Value) → element_type k ≡ Some s → HasKind k x → Free (elements_of d x)
elements_free d s _ e (of_scalar h) = none_some e
elements_free d s _ e (of_list h) = tt
elements_free d s _ e (of_map h) = tt
elements_free d s _ e of_domains = tt
elements_free d s _ e of_entries = tt

driver_free : (d : Device) (span : Span) (k : CelType) (a b c : Bool) →
    (if a then Ok string else (if b then Ok (kind.Domains Attributes) else (if c then Ok (kind.Domains Capacities) else Err (NoSuchName span)))) ≡ Ok k →
    Free (if a then Ok (values.text d.driver) else (if b then Ok (value.Domains Attributes) else (if c then Ok (value.Domains Capacities) else Err NoOverload)))
driver_free d span k true b c e = tt
driver_free d span k false true c e = tt
driver_free d span k false false true e = tt
driver_free d span k false false false e = absurd (cc)

pub device_free : (d : Device) (span : Span) (name : List ℕ) (k : CelType) → device_type span name ≡ Ok k → Free (device_member_of d name)
device_free d span name k e = driver_free d span k (bytes_eq name (codes "driver")) (bytes_eq name (codes "attributes")) (bytes_eq name (codes "capacity")) e
