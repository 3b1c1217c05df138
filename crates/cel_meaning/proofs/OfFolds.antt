-- Comprehensions return values of the type that the tables state.
use Rattle.std.proofs.Common.{◌≡◌, List, [], ◌∷◌, Bool, true, false, Option, Some, None, IfSome, IfOk, Result, Ok, Err, subst, refl, if◌then◌else◌, length, ◌==◌}
use Rattle.cel_tree.specs.declared.tree.Span.{Span}
use Rattle.cel_tree.specs.declared.types.Scalar.{Scalar}
use Rattle.cel_tree.specs.declared.types.Scalar.TheVariants as scalar
use Rattle.cel_tree.specs.declared.types.CelType.{CelType}
use Rattle.cel_tree.specs.declared.types.CelType.TheVariants as kind
use Rattle.cel_tree.specs.declared.calls.Comprehension.{Comprehension}
use Rattle.cel_tree.specs.declared.calls.Comprehension.TheVariants.{All, Exists, ExistsOne, Filter, Map}
use Rattle.cel_tree.specs.declared.calls.Arguments.{Arguments}
use Rattle.cel_tree.specs.declared.calls.Arguments.TheVariants as arguments
use Rattle.cel_tree.specs.declared.fault.Fault.{Fault}
use Rattle.cel_tree.specs.declared.fault.Fault.TheVariants as fault
use Rattle.cel_tree.specs.Types.{bool, accepts}
use Rattle.cel_tree.specs.Faults.{list_of, one_test, comprehension_type}
use Rattle.cel_tree.specs.Typing.{with_first}
use Rattle.cel_value.specs.declared.error.EvalError.{EvalError}
use Rattle.cel_value.specs.declared.value.Single.{Single}
use Rattle.cel_value.specs.declared.value.Value.{Value}
use Rattle.cel_value.specs.declared.value.Value.TheVariants as value
use Rattle.cel_value.specs.Values.{◌>>=◌, single_in}
use Rattle.cel_meaning.specs.declared.connective.Connective.TheVariants as connective
use Rattle.cel_meaning.specs.Folds.{Body, Maker, holds, as_single, folded, kept, by_filter, by_map, by_test_and_map, with_kept, gathered, list_value, comprehended}
use Rattle.cel_meaning.specs.HasKind.{Every, no_more, first, IsOf, HasKind, of_scalar, of_list}
use Rattle.cel_meaning.proofs.Every.{on, after, either}
use Rattle.cel_meaning.proofs.OfKind.{truths}

-- bodies whose values have these types, if the variable's value is of the scalar type
pub data Yield (e : Scalar) : List Body → Arguments → Type 0 where
  no_body : Yield e [] arguments.None
  body : {f : Body} {fs : List Body} (k : CelType) {given : Arguments} → ((x : Single) → IsOf e x → IfOk (f x) (HasKind k)) → Yield e fs given → Yield e (f ∷ fs) (with_first k given)

pub ok_kind : {k m : CelType} (r : Result Value EvalError) → ◌≡◌ {A = Result CelType Fault} (Ok k) (Ok m) → IfOk r (HasKind k) → IfOk r (HasKind m)
ok_kind {k = k} {m = m} r e h =
    let f : k ≡ m = cc in
    subst (λ (j : CelType). IfOk r (HasKind j)) f h

pub err_ok : {f : Fault} {m : CelType} {Q : Type 0} → ◌≡◌ {A = Result CelType Fault} (Err f) (Ok m) → Q
err_ok e = absurd (cc)

pub tested_is : (span : Span) (b : Bool) (r : Result CelType Fault) (m : CelType) → (if b then r else Err (fault.NoOverload span)) ≡ Ok m → r ≡ Ok m
tested_is span true r m e = e
tested_is span false r m e = err_ok e

pub one_is : (span : Span) (given : Arguments) (k m : CelType) → one_test span given k ≡ Ok m → ◌≡◌ {A = Result CelType Fault} (Ok k) (Ok m)
one_is span (arguments.One l) k m e = tested_is span (accepts scalar.Bool l) (Ok k) m e
one_is span arguments.None k m e = err_ok e
one_is span (arguments.Two l n) k m e = err_ok e
one_is span arguments.Many k m e = err_ok e

-- ---- elements that are kept

with_kept_kind : (s : Scalar) (y : Option Single) (ys : List Single) → IfSome y (IsOf s) → Every (IsOf s) ys → Every (IsOf s) (with_kept y ys)
with_kept_kind s (Some y) ys p q = first p q
with_kept_kind s None ys p q = q

gathered_kind : (P : Single → Type 0) (s : Scalar) (make : Maker) → ((x : Single) → P x → IfOk (make x) (λ y. IfSome y (IsOf s))) → {xs : List Single} → Every P xs → IfOk (gathered make xs) (Every (IsOf s))
gathered_kind P s make g no_more = no_more
gathered_kind P s make g (first {x = x} {xs = xs} p ps) =
    on (λ y. IfSome y (IsOf s)) (Every (IsOf s)) (make x) (λ y. gathered make xs >>= λ ys. Ok (with_kept y ys)) (g x p)
    (λ y q. on (Every (IsOf s)) (Every (IsOf s)) (gathered make xs) (λ ys. Ok (with_kept y ys)) (gathered_kind P s make g ps) (λ ys r. with_kept_kind s y ys q r))

list_kind : (P : Single → Type 0) (s : Scalar) (make : Maker) → ((x : Single) → P x → IfOk (make x) (λ y. IfSome y (IsOf s))) → {xs : List Single} → Every P xs → IfOk (list_value make xs) (HasKind (kind.List s))
list_kind P s make g {xs = xs} ps =
    on (Every (IsOf s)) (HasKind (kind.List s)) (gathered make xs) (λ ys. Ok (value.List ys)) (gathered_kind P s make g ps) (λ ys q. of_list q)

kept_kind : (s : Scalar) (x : Single) → IsOf s x → (b : Bool) → IfSome (kept x b) (IsOf s)
kept_kind s x p true = p
kept_kind s x p false = tt

filter_kind : (s : Scalar) (test : Body) (x : Single) → IsOf s x → IfOk (by_filter test x) (λ y. IfSome y (IsOf s))
filter_kind s test x p = after (λ y. IfSome y (IsOf s)) (holds test x) (λ b. Ok (kept x b)) (kept_kind s x p)

in_kind : (s : Scalar) (x : Value) → HasKind (kind.Scalar s) x → IfOk (single_in x) (IsOf s)
in_kind s _ (of_scalar p) = p

pub as_single_kind : (s : Scalar) (r : Result Value EvalError) → IfOk r (HasKind (kind.Scalar s)) → IfOk (as_single r) (IsOf s)
as_single_kind s r h = on (HasKind (kind.Scalar s)) (IsOf s) r single_in h (in_kind s)

map_kind : (s : Scalar) (f : Body) (x : Single) → IfOk (f x) (HasKind (kind.Scalar s)) → IfOk (by_map f x) (λ y. IfSome y (IsOf s))
map_kind s f x h = on (IsOf s) (λ y. IfSome y (IsOf s)) (as_single (f x)) (λ y. Ok (Some y)) (as_single_kind s (f x) h) (λ y p. p)

test_and_map_kind : (s : Scalar) (test f : Body) (x : Single) → IfOk (f x) (HasKind (kind.Scalar s)) → IfOk (by_test_and_map test f x) (λ y. IfSome y (IsOf s))
test_and_map_kind s test f x h =
    after (λ y. IfSome y (IsOf s)) (holds test x) (λ b. if b then by_map f x else Ok None)
    (λ b. either (λ y. IfSome y (IsOf s)) b (by_map f x) (Ok None) (map_kind s f x h) tt)

-- ---- comprehensions

mapped_kind : (span : Span) (e : Scalar) (k m : CelType) (f : Body) (make : Maker) {xs : List Single} → ((x : Single) → IsOf e x → IfOk (f x) (HasKind k)) →
    ((s : Scalar) (x : Single) → IfOk (f x) (HasKind (kind.Scalar s)) → IfOk (make x) (λ y. IfSome y (IsOf s))) →
    list_of span k ≡ Ok m → Every (IsOf e) xs → IfOk (list_value make xs) (HasKind m)
mapped_kind span e (kind.Scalar s) m f make {xs = xs} g h d ps = ok_kind (list_value make xs) d (list_kind (IsOf e) s make (λ x p. h s x (g x p)) ps)
mapped_kind span e (kind.List s) m f make g h d ps = err_ok d
mapped_kind span e (kind.Map k v) m f make g h d ps = err_ok d
mapped_kind span e (kind.Domains s) m f make g h d ps = err_ok d
mapped_kind span e (kind.Entries s) m f make g h d ps = err_ok d

is_map : Comprehension → Bool
is_map Map = true
is_map c = false

test_kind : (span : Span) (e : Scalar) (c : Comprehension) (given : Arguments) (m : CelType) (fs : List Body) {xs : List Single} → Every (IsOf e) xs → comprehension_type span c e given ≡ Ok m → is_map c ≡ false → IfOk (comprehended c fs xs) (HasKind m)
unfolding is_map
test_kind span e All given m (f ∷ []) {xs = xs} ps d a = ok_kind (comprehended All (f ∷ []) xs) (one_is span given bool m d) (truths (folded connective.And (holds f) xs) (λ b. b))
test_kind span e Exists given m (f ∷ []) {xs = xs} ps d a = ok_kind (comprehended Exists (f ∷ []) xs) (one_is span given bool m d) (truths (folded connective.Or (holds f) xs) (λ b. b))
test_kind span e ExistsOne given m (f ∷ []) {xs = xs} ps d a = ok_kind (comprehended ExistsOne (f ∷ []) xs) (one_is span given bool m d) (truths (gathered (by_filter f) xs) (λ ys. length ys == 1))
test_kind span e Filter given m (f ∷ []) {xs = xs} ps d a =
    ok_kind (comprehended Filter (f ∷ []) xs) (one_is span given (kind.List e) m d) (list_kind (IsOf e) e (by_filter f) (filter_kind e f) ps)
test_kind span e Map given m fs ps d a = absurd (cc)
test_kind span e c given m [] ps d a = tt
test_kind span e c given m (f ∷ g ∷ fs) ps d a = tt

map_all_kind : (span : Span) (e : Scalar) {given : Arguments} (m : CelType) {fs : List Body} {xs : List Single} → Yield e fs given → Every (IsOf e) xs → comprehension_type span Map e given ≡ Ok m → IfOk (comprehended Map fs xs) (HasKind m)
map_all_kind span e m no_body ps d = tt
map_all_kind span e m (body {f = f} k g no_body) ps d = mapped_kind span e k m f (by_map f) g (λ s x. map_kind s f x) d ps
map_all_kind span e m (body {f = test} j h (body {f = f} k g no_body)) ps d =
    mapped_kind span e k m f (by_test_and_map test f) g (λ s x. test_and_map_kind s test f x) (tested_is span (accepts scalar.Bool j) (list_of span k) m d) ps
map_all_kind span e m (body j g (body k h (body l i gs))) ps d = tt

pub comprehended_kind : (span : Span) (c : Comprehension) (e : Scalar) {given : Arguments} (m : CelType) {fs : List Body} (xs : List Single) → Yield e fs given → comprehension_type span c e given ≡ Ok m → Every (IsOf e) xs → IfOk (comprehended c fs xs) (HasKind m)
unfolding is_map
comprehended_kind span All e {given = given} m {fs = fs} xs y d ps = test_kind span e All given m fs ps d refl
comprehended_kind span Exists e {given = given} m {fs = fs} xs y d ps = test_kind span e Exists given m fs ps d refl
comprehended_kind span ExistsOne e {given = given} m {fs = fs} xs y d ps = test_kind span e ExistsOne given m fs ps d refl
comprehended_kind span Filter e {given = given} m {fs = fs} xs y d ps = test_kind span e Filter given m fs ps d refl
comprehended_kind span Map e m xs y d ps = map_all_kind span e m y ps d
