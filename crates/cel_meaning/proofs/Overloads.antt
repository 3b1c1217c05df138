-- A tree without dyn never means NoOverload.
use Rattle.std.proofs.Common.{◌≡◌, ℕ, List, [], ◌∷◌, Bool, true, false, Option, Some, None, IfOk, Result, Ok, subst, sym, ◌∙◌, refl, if◌then◌else◌, is_some}
use Rattle.std.specs.Prelude.{◌&&◌}
use Rattle.std.specs.BTreeMap.{insert_entry}
use Rattle.cel_tree.specs.declared.tree.Span.{Span}
use Rattle.cel_tree.specs.declared.types.Scalar.{Scalar}
use Rattle.cel_tree.specs.declared.types.Scalar.TheVariants as scalar
use Rattle.cel_tree.specs.declared.types.CelType.{CelType}
use Rattle.cel_tree.specs.declared.types.CelType.TheVariants as kind
use Rattle.cel_tree.specs.declared.calls.Comprehension.{Comprehension}
use Rattle.cel_tree.specs.declared.calls.Function.{Function}
use Rattle.cel_tree.specs.declared.calls.Called.{Called}
use Rattle.cel_tree.specs.declared.calls.Called.TheVariants as called
use Rattle.cel_tree.specs.Calls.{called_of}
use Rattle.cel_tree.specs.declared.calls.Arguments.{Arguments}
use Rattle.cel_tree.specs.declared.fault.Fault.{Fault}
use Rattle.cel_tree.specs.Ast.{Constant, Null, Truth, Whole, Bytes, Ast, Node, Form, Ident, Unary, Binary, Conditional, Member, Index, Call, Method, ListOf, MapOf, Asts, End, More, Entries}
use Rattle.cel_tree.specs.Types.{accepts, branch_type, conditional_type, element_type}
use Rattle.cel_tree.specs.Typing.{Names, key_type, type_of}
use Rattle.cel_tree.specs.Typing as typing
use Rattle.cel_tree.specs.Scopes.{is_device}
use Rattle.cel_tree.specs.HasType.{HasType, HaveTypes, HaveItems, HaveValues, literal, name, unary, binary, conditional, of_device, member, index, has, call, method, comprehension, bind, list, map, no_argument, argument, no_item, item, no_value, value}
use Rattle.cel_value.specs.declared.value.Single.{Single}
use Rattle.cel_value.specs.declared.value.Key.{Key}
use Rattle.cel_value.specs.declared.value.Value.{Value}
use Rattle.cel_value.specs.declared.value.Value.TheVariants as the_value
use Rattle.cel_value.specs.Device.{Device}
use Rattle.cel_value.specs.Values.{◌>>=◌, constant_of, key_in}
use Rattle.cel_value.specs.Operators.{unary_of}
use Rattle.cel_value.specs.Lookups.{key_cmp, member_of, has_of, index_of, elements_of}
use Rattle.cel_value.specs.Functions.{call_of, method_of}
use Rattle.cel_meaning.specs.Folds.{tested, as_single, comprehended}
use Rattle.cel_meaning.specs.Meaning.{Bindings, bound_to, means, each, items_of, entries_of, bodies_of, named}
use Rattle.cel_meaning.specs.HasKind.{Every, IsOf, HasKind, of_scalar, Agree, bound}
use Rattle.cel_meaning.specs.Plain.{is_plain, with_type, with_some, by_comprehension, is_without_dyn, parts_without, all_without, object_without, bodies_without, bind_without, bound_without, values_without}
use Rattle.cel_meaning.proofs.Every.{on, none_some}
use Rattle.cel_meaning.proofs.OfKind.{both_true, elements_kind}
use Rattle.cel_meaning.proofs.Soundness.{kind_of}
use Rattle.cel_meaning.proofs.Agreement.{Both, neither, both, found_both, same_device}
use Rattle.cel_meaning.proofs.Free.{Free, free_on, free_to, unary_free, operation_free, choice_free, tested_free, index_free, member_free, has_free, elements_free, device_free}
use Rattle.cel_meaning.proofs.FreeCalls.{Given, no_given, given, call_free, method_free}
use Rattle.cel_meaning.proofs.FreeFolds.{Calm, no_body, body, as_single_free, comprehended_free}

-- the type that is found is the one of the rules
abbrev pub Found : Type 0
Found = (names : Names) (t : Ast) (k : CelType) → HasType names t k → type_of names t ≡ Ok k

plain_type : (names : Names) (t : Ast) (k : CelType) → type_of names t ≡ Ok k → is_without_dyn names t ≡ true → is_plain k ≡ true
plain_type names (Node span form) k e w =
    subst (λ (r : Result CelType Fault). with_type r is_plain ≡ true) e (both_true (with_type (type_of names (Node span form)) is_plain) (parts_without names form) w).0

parts : (names : Names) (span : Span) (form : Form) → is_without_dyn names (Node span form) ≡ true → parts_without names form ≡ true
parts names span form w = (both_true (with_type (type_of names (Node span form)) is_plain) (parts_without names form) w).1

object_part : (names : Names) (t : Ast) (f : List ℕ) → is_device names t ≡ false → parts_without names (Member t f) ≡ true → is_without_dyn names t ≡ true
object_part names t f b u = subst (λ (x : Bool). (if x then true else is_without_dyn names t) ≡ true) b u

has_part : (names : Names) (word f : List ℕ) (place : Span) (t : Ast) → called_of word ≡ Some called.Has → parts_without names (Call word (More (Node place (Member t f)) End)) ≡ true → is_without_dyn names t ≡ true
has_part names word f place t c u =
    subst (λ (x : Option Called). (if typing.is_has x then is_without_dyn names t else all_without names (More (Node place (Member t f)) End)) ≡ true) c u

call_parts : (names : Names) (word : List ℕ) (ts : Asts) (f : Function) → called_of word ≡ Some (called.Function f) → parts_without names (Call word ts) ≡ true → all_without names ts ≡ true
call_parts names word ts f c u = subst (λ (x : Option Called). (if typing.is_has x then object_without names ts else all_without names ts) ≡ true) c u

-- the bodies of a comprehension, if its range has that type
behind_range : Names → Result CelType Fault → Asts → Bool
behind_range names r ts = with_type r (λ k. with_some (element_type k) (λ e. bodies_without names e ts))

macro_parts : Names → Bool → Option Called → Ast → Asts → Bool
macro_parts names b c t ts = if b then bind_without names ts else (is_without_dyn names t && by_comprehension (typing.comprehension_in c) (behind_range names (type_of names t) ts) (all_without names ts))

method_parts : (names : Names) (t : Ast) (word : List ℕ) (ts : Asts) (b : Bool) (c : Option Called) → typing.is_bind t word ≡ b → called_of word ≡ c → parts_without names (Method t word ts) ≡ true → macro_parts names b c t ts ≡ true
unfolding macro_parts behind_range
method_parts names t word ts b c e f u =
    subst (λ (x : Option Called). macro_parts names b x t ts ≡ true) f (subst (λ (x : Bool). macro_parts names x (called_of word) t ts ≡ true) e u)

function_parts : (names : Names) (t : Ast) (ts : Asts) (f : Function) → macro_parts names false (Some (called.Function f)) t ts ≡ true → (is_without_dyn names t ≡ true) × (all_without names ts ≡ true)
unfolding macro_parts behind_range
function_parts names t ts f u = both_true (is_without_dyn names t) (all_without names ts) u

range_parts : (names : Names) (t : Ast) (place : Span) (x : List ℕ) (ts : Asts) (c : Comprehension) (k : CelType) (e : Scalar) → type_of names t ≡ Ok k → element_type k ≡ Some e →
    macro_parts names false (Some (called.Comprehension c)) t (More (Node place (Ident x)) ts) ≡ true → (is_without_dyn names t ≡ true) × (all_without ((x, kind.Scalar e) ∷ names) ts ≡ true)
unfolding macro_parts behind_range
range_parts names t place x ts c k e f g u =
    let us = More (Node place (Ident x)) ts in
    let v = both_true (is_without_dyn names t) (behind_range names (type_of names t) us) u in
    let w : behind_range names (Ok k) us ≡ true = subst (λ (r : Result CelType Fault). behind_range names r us ≡ true) f v.1 in
    (v.0, subst (λ (o : Option Scalar). with_some o (λ e. bodies_without names e us) ≡ true) g w)

bound_parts : (names : Names) (s v : Ast) (x : List ℕ) (k : CelType) → type_of names s ≡ Ok k → bound_without names x (More s (More v End)) ≡ true → (is_without_dyn names s ≡ true) × (is_without_dyn ((x, k) ∷ names) v ≡ true)
bound_parts names s v x k f u =
    let r = both_true (is_without_dyn names s) (with_type (type_of names s) (λ j. all_without ((x, j) ∷ names) (More v End))) u in
    let w = subst (λ (q : Result CelType Fault). with_type q (λ j. all_without ((x, j) ∷ names) (More v End)) ≡ true) f r.1 in
    (r.0, (both_true (is_without_dyn ((x, k) ∷ names) v) true w).0)

bind_parts : (names : Names) (t s v : Ast) (place : Span) (x : List ℕ) (c : Option Called) (k : CelType) → type_of names s ≡ Ok k → macro_parts names true c t (More (Node place (Ident x)) (More s (More v End))) ≡ true →
    (is_without_dyn names s ≡ true) × (is_without_dyn ((x, k) ∷ names) v ≡ true)
unfolding macro_parts
bind_parts names t s v place x c k f u = bound_parts names s v x k f u

-- ---- names, tests and keys

both_free : {R : CelType → Value → Type 0} {o : Option CelType} {p : Option Value} {k : CelType} → Both R o p → o ≡ Some k → Free (named p)
both_free neither e = none_some e
both_free (both h) e = tt

if_some : {A : Type 0} (b : Bool) (o : Option A) (x : A) → (if b then o else None) ≡ Some x → b ≡ true
if_some true o x e = refl
if_some false o x e = none_some e

test_accepted : (k l m n : CelType) → conditional_type k l m ≡ Some n → accepts scalar.Bool k ≡ true
test_accepted k l m n e = if_some (accepts scalar.Bool k) (branch_type l m) n e

key_free : (c : Constant) → is_some (key_type c) ≡ true → Free (key_in (constant_of c))
key_free Null e = absurd (cc)
key_free (Truth b) e = tt
key_free (Whole n) e = tt
key_free (Bytes s) e = tt

-- ---- arguments

each_given : (d : Device) → Found → (names : Names) {ts : Asts} {rest : Arguments} → HaveTypes names ts rest → (bs : Bindings) → Agree names bs → all_without names ts ≡ true → IfOk (each d bs ts) (λ xs. Given xs rest)
each_given d found names no_argument bs a w = no_given
each_given d found names (argument {t = t} {ts = ts} {k = k} {given = rest} i hs) bs a w =
    let u = both_true (is_without_dyn names t) (all_without names ts) w in
    on (HasKind k) (λ xs. Given xs (typing.with_first k rest)) (means d bs t) (λ x. each d bs ts >>= λ xs. Ok (x ∷ xs)) (kind_of d i bs a)
    (λ x h. on (λ xs. Given xs rest) (λ xs. Given xs (typing.with_first k rest)) (each d bs ts) (λ xs. Ok (x ∷ xs)) (each_given d found names hs bs a u.1)
    (λ xs g. given k (plain_type names t k (found names t k i) u.0) h g))

-- ---- the induction over the rules of types

mutual
  pub free_of : (d : Device) → Found → (names : Names) {t : Ast} {k : CelType} → HasType names t k → (bs : Bindings) → Agree names bs → is_without_dyn names t ≡ true → Free (means d bs t)
  free_of d found names (literal c) bs a w = tt
  free_of d found names (name {x = x} p) bs a w = both_free (found_both x a) p
  free_of d found names (unary {span = span} {op = o} {t = t} {k = k} {l = l} i p) bs a w =
      let u = parts names span (Unary o t) w in
      free_on (HasKind k) (means d bs t) (unary_of o) (free_of d found names i bs a u) (kind_of d i bs a) (λ x h. unary_free o k l x p (plain_type names t k (found names t k i) u) h)
  free_of d found names (binary {span = span} {op = o} {t = t} {u = v} {k = k} {l = l} {m = m} i j p) bs a w =
      let u = both_true (is_without_dyn names t) (is_without_dyn names v) (parts names span (Binary o t v) w) in
      operation_free d o k l m (means d bs t) (means d bs v) p (plain_type names t k (found names t k i) u.0) (plain_type names v l (found names v l j) u.1)
      (kind_of d i bs a) (kind_of d j bs a) (free_of d found names i bs a u.0) (free_of d found names j bs a u.1)
  free_of d found names (conditional {span = span} {t = t} {u = s} {v = v} {k = k} {l = l} {m = m} {n = n} i j q p) bs a w =
      let u = both_true (is_without_dyn names t) (is_without_dyn names s && is_without_dyn names v) (parts names span (Conditional t s v) w) in
      let y = both_true (is_without_dyn names s) (is_without_dyn names v) u.1 in
      choice_free (tested (means d bs t)) (means d bs s) (means d bs v)
      (tested_free k (means d bs t) (test_accepted k l m n p) (plain_type names t k (found names t k i) u.0) (kind_of d i bs a) (free_of d found names i bs a u.0))
      (free_of d found names j bs a y.0) (free_of d found names q bs a y.1)
  free_of d found names (of_device {span = span} {t = t} {f = f} {k = k} b p) bs a w = rw (sym (same_device a t) ∙ b) (device_free d span f k p)
  free_of d found names (member {span = span} {t = t} {f = f} {k = k} {l = l} b i p) bs a w =
      let u = object_part names t f b (parts names span (Member t f) w) in
      rw (sym (same_device a t) ∙ b) (free_on (HasKind k) (means d bs t) (λ x. member_of d x f) (free_of d found names i bs a u) (kind_of d i bs a) (λ x h. member_free d l x f p h))
  free_of d found names (index {span = span} {t = t} {u = v} {k = k} {l = l} {m = m} i j p) bs a w =
      let u = both_true (is_without_dyn names t) (is_without_dyn names v) (parts names span (Index t v) w) in
      free_on (HasKind k) (means d bs t) (λ x. means d bs v >>= λ y. index_of d x y) (free_of d found names i bs a u.0) (kind_of d i bs a)
      (λ x h. free_on (HasKind l) (means d bs v) (λ y. index_of d x y) (free_of d found names j bs a u.1) (kind_of d j bs a) (λ y g. index_free d l m x y p (plain_type names v l (found names v l j) u.1) h g))
  free_of d found names (has {span = span} {place = place} {t = t} {word = word} {f = f} {k = k} {l = l} c b i p) bs a w =
      let u = has_part names word f place t c (parts names span (Call word (More (Node place (Member t f)) End)) w) in
      rw (c, sym (same_device a t) ∙ b) (free_on (HasKind k) (means d bs t) (λ x. has_of d x f) (free_of d found names i bs a u) (kind_of d i bs a) (λ x h. has_free d l x f p h))
  free_of d found names (call {span = span} {word = word} {f = f} {ts = ts} {given = rest} {k = k} c hs p) bs a w =
      let u = call_parts names word ts f c (parts names span (Call word ts) w) in
      rw c (free_on (λ xs. Given xs rest) (each d bs ts) (λ xs. call_of d f xs) (each_free d found names hs bs a u) (each_given d found names hs bs a u) (λ xs g. call_free d f k g p))
  free_of d found names (method {span = span} {t = t} {word = word} {f = f} {ts = ts} {given = rest} {k = k} {l = l} b c i hs p) bs a w =
      let u = function_parts names t ts f (method_parts names t word ts false (Some (called.Function f)) b c (parts names span (Method t word ts) w)) in
      rw (b, c) (free_on (HasKind k) (means d bs t) (λ x. each d bs ts >>= λ xs. method_of d f x xs) (free_of d found names i bs a u.0) (kind_of d i bs a)
      (λ x h. free_on (λ xs. Given xs rest) (each d bs ts) (λ xs. method_of d f x xs) (each_free d found names hs bs a u.1) (each_given d found names hs bs a u.1)
      (λ xs g. method_free d f k l x (plain_type names t k (found names t k i) u.0) h g p)))
  free_of d found names (comprehension {span = span} {place = place} {t = t} {word = word} {x = x} {c = c} {e = e} {ts = ts} {bodies = rest} {k = k} {l = l} b v i r hs p) bs a w =
      let us = More (Node place (Ident x)) ts in
      let u = range_parts names t place x ts c k e (found names t k i) r (method_parts names t word us false (Some (called.Comprehension c)) b v (parts names span (Method t word us) w)) in
      rw (b, v) (free_on (HasKind k) (means d bs t) (λ y. elements_of d y >>= λ xs. comprehended c (bodies_of d bs x ts) xs) (free_of d found names i bs a u.0) (kind_of d i bs a)
      (λ y h. free_on (Every (IsOf e)) (elements_of d y) (λ xs. comprehended c (bodies_of d bs x ts) xs) (elements_free d e y r h) (elements_kind d e y h r)
      (λ xs q. comprehended_free span c e l xs (bodies_calm d found ((x, kind.Scalar e) ∷ names) hs x e bs (λ z s. bound (of_scalar s) a) u.1) p q)))
  free_of d found names (bind {span = span} {place = place} {t = t} {u = s} {v = v} {word = word} {x = x} {k = k} {l = l} b i j) bs a w =
      let us = More (Node place (Ident x)) (More s (More v End)) in
      let inner : Names = (x, k) ∷ names in
      let u = bind_parts names t s v place x (called_of word) k (found names s k i) (method_parts names t word us true (called_of word) b refl (parts names span (Method t word us) w)) in
      rw b (free_on (HasKind k) (means d bs s) (λ z. means d ((x, z) ∷ bs) v) (free_of d found names i bs a u.0) (kind_of d i bs a) (λ z h. free_of d found inner j ((x, z) ∷ bs) (bound h a) u.1))
  free_of d found names (list {span = span} {ts = ts} hs) bs a w =
      free_to (items_of d bs ts) (λ xs. Ok (the_value.List xs)) (items_free d found names hs bs a (parts names span (ListOf ts) w)) (λ xs. tt)
  free_of d found names (map {span = span} {es = es} hs) bs a w =
      free_to (entries_of d bs [] es) (λ table. Ok (the_value.Map table)) (values_free d found names hs bs a (parts names span (MapOf es) w) []) (λ table. tt)

  each_free : (d : Device) → Found → (names : Names) {ts : Asts} {rest : Arguments} → HaveTypes names ts rest → (bs : Bindings) → Agree names bs → all_without names ts ≡ true → Free (each d bs ts)
  each_free d found names no_argument bs a w = tt
  each_free d found names (argument {t = t} {ts = ts} i hs) bs a w =
      let u = both_true (is_without_dyn names t) (all_without names ts) w in
      free_to (means d bs t) (λ x. each d bs ts >>= λ xs. Ok (x ∷ xs)) (free_of d found names i bs a u.0) (λ x. free_to (each d bs ts) (λ xs. Ok (x ∷ xs)) (each_free d found names hs bs a u.1) (λ xs. tt))

  bodies_calm : (d : Device) → Found → (names : Names) {ts : Asts} {rest : Arguments} → HaveTypes names ts rest → (x : List ℕ) (e : Scalar) (bs : Bindings) → ((y : Single) → IsOf e y → Agree names (bound_to x y bs)) →
      all_without names ts ≡ true → Calm e (bodies_of d bs x ts) rest
  bodies_calm d found names no_argument x e bs a w = no_body
  bodies_calm d found names (argument {t = t} {ts = ts} {k = k} i hs) x e bs a w =
      let u = both_true (is_without_dyn names t) (all_without names ts) w in
      body k (plain_type names t k (found names t k i) u.0) (λ y p. kind_of d i (bound_to x y bs) (a y p)) (λ y p. free_of d found names i (bound_to x y bs) (a y p) u.0) (bodies_calm d found names hs x e bs a u.1)

  items_free : (d : Device) → Found → (names : Names) {ts : Asts} {items : Option Scalar} → HaveItems names ts items → (bs : Bindings) → Agree names bs → all_without names ts ≡ true → Free (items_of d bs ts)
  items_free d found names no_item bs a w = tt
  items_free d found names (item {t = t} {ts = ts} {s = s} i hs) bs a w =
      let u = both_true (is_without_dyn names t) (all_without names ts) w in
      free_to (as_single (means d bs t)) (λ x. items_of d bs ts >>= λ xs. Ok (x ∷ xs)) (as_single_free s (means d bs t) (kind_of d i bs a) (free_of d found names i bs a u.0))
      (λ x. free_to (items_of d bs ts) (λ xs. Ok (x ∷ xs)) (items_free d found names hs bs a u.1) (λ xs. tt))

  values_free : (d : Device) → Found → (names : Names) {earlier : List Constant} {es : Entries} {vs : Option Scalar} → HaveValues names earlier es vs → (bs : Bindings) → Agree names bs → values_without names es ≡ true →
      (before : List (Key × Single)) → Free (entries_of d bs before es)
  values_free d found names no_value bs a w before = tt
  values_free d found names (value {c = c} {t = t} {es = es} {s = s} some others i hs) bs a w before =
      let u = both_true (is_without_dyn names t) (values_without names es) w in
      free_to (key_in (constant_of c)) (λ y. as_single (means d bs t) >>= λ x. entries_of d bs (insert_entry key_cmp before y x) es) (key_free c some)
      (λ y. free_to (as_single (means d bs t)) (λ x. entries_of d bs (insert_entry key_cmp before y x) es) (as_single_free s (means d bs t) (kind_of d i bs a) (free_of d found names i bs a u.0))
      (λ x. values_free d found names hs bs a u.1 (insert_entry key_cmp before y x)))
