-- Where no type has dyn in it, comprehensions over elements of their types aren't NoOverload.
use Rattle.std.proofs.Common.{◌≡◌, List, [], ◌∷◌, Bool, true, false, Some, None, IfOk, Result, Ok, Err, refl, if◌then◌else◌, length, ◌==◌}
use Rattle.cel_tree.specs.declared.tree.Span.{Span}
use Rattle.cel_tree.specs.declared.types.Scalar.{Scalar}
use Rattle.cel_tree.specs.declared.types.Scalar.TheVariants as scalar
use Rattle.cel_tree.specs.declared.types.CelType.{CelType}
use Rattle.cel_tree.specs.declared.types.CelType.TheVariants as kind
use Rattle.cel_tree.specs.declared.calls.Comprehension.{Comprehension}
use Rattle.cel_tree.specs.declared.calls.Comprehension.TheVariants.{All, Exists, ExistsOne, Filter, Map}
use Rattle.cel_tree.specs.declared.calls.Arguments.{Arguments}
use Rattle.cel_tree.specs.declared.calls.Arguments.TheVariants as arguments
use Rattle.cel_tree.specs.declared.fault.Fault.{Fault}
use Rattle.cel_tree.specs.declared.fault.Fault.TheVariants as fault
use Rattle.cel_tree.specs.Types.{bool, accepts}
use Rattle.cel_tree.specs.Faults.{list_of, one_test, mapped_type, comprehension_type}
use Rattle.cel_tree.specs.Typing.{with_first}
use Rattle.cel_value.specs.declared.error.EvalError.{EvalError}
use Rattle.cel_value.specs.declared.value.Single.{Single}
use Rattle.cel_value.specs.declared.value.Value.{Value}
use Rattle.cel_value.specs.declared.value.Value.TheVariants as value
use Rattle.cel_value.specs.Values as values
use Rattle.cel_value.specs.Values.{◌>>=◌, single_in}
use Rattle.cel_meaning.specs.declared.connective.Connective.{Connective}
use Rattle.cel_meaning.specs.declared.connective.Connective.TheVariants as connective
use Rattle.cel_meaning.specs.Folds.{Body, Maker, holds, as_single, folded, kept, by_filter, by_map, by_test_and_map, with_kept, gathered, list_value, comprehended}
use Rattle.cel_meaning.specs.HasKind.{Every, no_more, first, IsOf, HasKind, of_scalar}
use Rattle.cel_meaning.specs.Plain.{is_plain}
use Rattle.cel_meaning.proofs.OfFolds.{err_ok, tested_is}
use Rattle.cel_meaning.proofs.Free.{Free, free_on, free_to, free_if, tested_free, joined_free, as_value_free}

-- bodies of types without dyn, which aren't NoOverload
pub data Calm (e : Scalar) : List Body → Arguments → Type 0 where
  no_body : Calm e [] arguments.None
  body : {f : Body} {fs : List Body} (k : CelType) {rest : Arguments} → is_plain k ≡ true → ((x : Single) → IsOf e x → IfOk (f x) (HasKind k)) → ((x : Single) → IsOf e x → Free (f x)) → Calm e fs rest →
      Calm e (f ∷ fs) (with_first k rest)

test_true : (span : Span) (b : Bool) (r : Result CelType Fault) (m : CelType) → (if b then r else Err (fault.NoOverload span)) ≡ Ok m → b ≡ true
test_true span true r m e = refl
test_true span false r m e = err_ok e

-- ---- elements

folded_free : (e : Scalar) (c : Connective) (f : Body) → ((x : Single) → IsOf e x → Free (holds f x)) → {xs : List Single} → Every (IsOf e) xs → Free (folded c (holds f) xs)
folded_free e c f g no_more = tt
folded_free e c f g (first {x = x} {xs = xs} p ps) = joined_free c (holds f x) (folded c (holds f) xs) (g x p) (folded_free e c f g ps)

gathered_free : (e : Scalar) (make : Maker) → ((x : Single) → IsOf e x → Free (make x)) → {xs : List Single} → Every (IsOf e) xs → Free (gathered make xs)
gathered_free e make g no_more = tt
gathered_free e make g (first {x = x} {xs = xs} p ps) =
    free_to (make x) (λ y. gathered make xs >>= λ ys. Ok (with_kept y ys)) (g x p) (λ y. free_to (gathered make xs) (λ ys. Ok (with_kept y ys)) (gathered_free e make g ps) (λ ys. tt))

list_free : (e : Scalar) (make : Maker) → ((x : Single) → IsOf e x → Free (make x)) → {xs : List Single} → Every (IsOf e) xs → Free (list_value make xs)
list_free e make g {xs = xs} ps = free_to (gathered make xs) (λ ys. Ok (value.List ys)) (gathered_free e make g ps) (λ ys. tt)

filter_free : (f : Body) (x : Single) → Free (holds f x) → Free (by_filter f x)
filter_free f x h = free_to (holds f x) (λ b. Ok (kept x b)) h (λ b. tt)

in_free : (s : Scalar) (x : Value) → HasKind (kind.Scalar s) x → Free (single_in x)
in_free s _ (of_scalar p) = tt

pub as_single_free : (s : Scalar) (r : Result Value EvalError) → IfOk r (HasKind (kind.Scalar s)) → Free r → Free (as_single r)
as_single_free s r h f = free_on (HasKind (kind.Scalar s)) r single_in f h (in_free s)

map_free : (s : Scalar) (f : Body) (x : Single) → IfOk (f x) (HasKind (kind.Scalar s)) → Free (f x) → Free (by_map f x)
map_free s f x h g = free_to (as_single (f x)) (λ y. Ok (Some y)) (as_single_free s (f x) h g) (λ y. tt)

test_and_map_free : (s : Scalar) (test f : Body) (x : Single) → Free (holds test x) → IfOk (f x) (HasKind (kind.Scalar s)) → Free (f x) → Free (by_test_and_map test f x)
test_and_map_free s test f x t h g = free_to (holds test x) (λ b. if b then by_map f x else Ok None) t (λ b. free_if b (by_map f x) (Ok None) (map_free s f x h g) tt)

-- ---- comprehensions

is_map : Comprehension → Bool
is_map Map = true
is_map c = false

-- those with one test
tests_free : (e : Scalar) (c : Comprehension) (f : Body) → ((x : Single) → IsOf e x → Free (holds f x)) → {xs : List Single} → Every (IsOf e) xs → is_map c ≡ false → Free (comprehended c (f ∷ []) xs)
unfolding is_map
tests_free e All f g {xs = xs} ps a = as_value_free (folded connective.And (holds f) xs) (folded_free e connective.And f g ps)
tests_free e Exists f g {xs = xs} ps a = as_value_free (folded connective.Or (holds f) xs) (folded_free e connective.Or f g ps)
tests_free e ExistsOne f g {xs = xs} ps a = free_to (gathered (by_filter f) xs) (λ ys. Ok (values.truth (length ys == 1))) (gathered_free e (by_filter f) (λ x p. filter_free f x (g x p)) ps) (λ ys. tt)
tests_free e Filter f g ps a = list_free e (by_filter f) (λ x p. filter_free f x (g x p)) ps
tests_free e Map f g ps a = absurd (cc)

mapped_free : (span : Span) (e : Scalar) (k m : CelType) (f : Body) {xs : List Single} → list_of span k ≡ Ok m → ((x : Single) → IsOf e x → IfOk (f x) (HasKind k)) → ((x : Single) → IsOf e x → Free (f x)) → Every (IsOf e) xs →
    Free (list_value (by_map f) xs)
mapped_free span e (kind.Scalar s) m f d h g ps = list_free e (by_map f) (λ x p. map_free s f x (h x p) (g x p)) ps
mapped_free span e (kind.List s) m f d h g ps = err_ok d
mapped_free span e (kind.Map k v) m f d h g ps = err_ok d
mapped_free span e (kind.Domains s) m f d h g ps = err_ok d
mapped_free span e (kind.Entries s) m f d h g ps = err_ok d

both_mapped_free : (span : Span) (e : Scalar) (k m : CelType) (test f : Body) {xs : List Single} → list_of span k ≡ Ok m → ((x : Single) → IsOf e x → Free (holds test x)) →
    ((x : Single) → IsOf e x → IfOk (f x) (HasKind k)) → ((x : Single) → IsOf e x → Free (f x)) → Every (IsOf e) xs → Free (list_value (by_test_and_map test f) xs)
both_mapped_free span e (kind.Scalar s) m test f d t h g ps = list_free e (by_test_and_map test f) (λ x p. test_and_map_free s test f x (t x p) (h x p) (g x p)) ps
both_mapped_free span e (kind.List s) m test f d t h g ps = err_ok d
both_mapped_free span e (kind.Map k v) m test f d t h g ps = err_ok d
both_mapped_free span e (kind.Domains s) m test f d t h g ps = err_ok d
both_mapped_free span e (kind.Entries s) m test f d t h g ps = err_ok d

two_tests : {Q : Type 0} (span : Span) (k l n m : CelType) (rest : Arguments) → one_test span (with_first k (with_first l rest)) n ≡ Ok m → Q
two_tests span k l n m arguments.None e = err_ok e
two_tests span k l n m (arguments.One o) e = err_ok e
two_tests span k l n m (arguments.Two o p) e = err_ok e
two_tests span k l n m arguments.Many e = err_ok e

three_bodies : {Q : Type 0} (span : Span) (k l n m : CelType) (rest : Arguments) → mapped_type span (with_first k (with_first l (with_first n rest))) ≡ Ok m → Q
three_bodies span k l n m arguments.None e = err_ok e
three_bodies span k l n m (arguments.One o) e = err_ok e
three_bodies span k l n m (arguments.Two o p) e = err_ok e
three_bodies span k l n m arguments.Many e = err_ok e

-- the result of a comprehension with one test
tested_result : Scalar → Comprehension → CelType
tested_result e All = bool
tested_result e Exists = bool
tested_result e ExistsOne = bool
tested_result e Filter = kind.List e
tested_result e Map = bool

one_is : (span : Span) (e : Scalar) (c : Comprehension) (rest : Arguments) (m : CelType) → is_map c ≡ false → comprehension_type span c e rest ≡ Ok m → one_test span rest (tested_result e c) ≡ Ok m
unfolding is_map tested_result
one_is span e All rest m a d = d
one_is span e Exists rest m a d = d
one_is span e ExistsOne rest m a d = d
one_is span e Filter rest m a d = d
one_is span e Map rest m a d = absurd (cc)

fold_free : (span : Span) (e : Scalar) (c : Comprehension) (m n : CelType) {fs : List Body} {rest : Arguments} {xs : List Single} → is_map c ≡ false → Calm e fs rest → one_test span rest n ≡ Ok m → Every (IsOf e) xs → Free (comprehended c fs xs)
fold_free span e c m n a no_body d ps = err_ok d
fold_free span e c m n a (body {f = f} k p h g no_body) d ps =
    tests_free e c f (λ x q. tested_free k (f x) (test_true span (accepts scalar.Bool k) (Ok n) m d) p (h x q) (g x q)) ps a
fold_free span e c m n a (body k p h g (body l {rest = rest} q i j fs)) d ps = two_tests span k l n m rest d

map_all_free : (span : Span) (e : Scalar) (m : CelType) {fs : List Body} {rest : Arguments} {xs : List Single} → Calm e fs rest → mapped_type span rest ≡ Ok m → Every (IsOf e) xs → Free (comprehended Map fs xs)
map_all_free span e m no_body d ps = err_ok d
map_all_free span e m (body {f = f} k p h g no_body) d ps = mapped_free span e k m f d h g ps
map_all_free span e m (body {f = test} j o i t (body {f = f} k p h g no_body)) d ps =
    both_mapped_free span e k m test f (tested_is span (accepts scalar.Bool j) (list_of span k) m d)
    (λ x q. tested_free j (test x) (test_true span (accepts scalar.Bool j) (list_of span k) m d) o (i x q) (t x q)) h g ps
map_all_free span e m (body j p h g (body k q i t (body l {rest = rest} r u v fs))) d ps = three_bodies span j k l m rest d

pub comprehended_free : (span : Span) (c : Comprehension) (e : Scalar) (m : CelType) {fs : List Body} {rest : Arguments} (xs : List Single) → Calm e fs rest → comprehension_type span c e rest ≡ Ok m → Every (IsOf e) xs → Free (comprehended c fs xs)
unfolding is_map
comprehended_free span All e m {rest = rest} xs h d ps = fold_free span e All m (tested_result e All) refl h (one_is span e All rest m refl d) ps
comprehended_free span Exists e m {rest = rest} xs h d ps = fold_free span e Exists m (tested_result e Exists) refl h (one_is span e Exists rest m refl d) ps
comprehended_free span ExistsOne e m {rest = rest} xs h d ps = fold_free span e ExistsOne m (tested_result e ExistsOne) refl h (one_is span e ExistsOne rest m refl d) ps
comprehended_free span Filter e m {rest = rest} xs h d ps = fold_free span e Filter m (tested_result e Filter) refl h (one_is span e Filter rest m refl d) ps
comprehended_free span Map e m xs h d ps = map_all_free span e m h d ps
