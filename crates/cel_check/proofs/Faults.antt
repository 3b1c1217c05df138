-- A fault is a tree's first by the rules if and only if it is found instead of a type.
use Rattle.std.proofs.Common.{◌≡◌, ℕ, List, [], ◌∷◌, ◌++◌, Bool, true, false, ◌&&◌, ◌||◌, ◌⊎◌, inl, inr, ⊎_elim, refl, ap, sym, ◌∙◌, subst, if◌then◌else◌}
use Rattle.std.specs.Prelude.{Option, Some, None, Result, Ok, Err, codes, is_some}
use Rattle.std.specs.List.{list_all}
use Rattle.std.specs.Str.{bytes_eq}
use Rattle.cel_tree.specs.declared.tree.Span.{Span}
use Rattle.cel_tree.specs.declared.types.Scalar.{Scalar}
use Rattle.cel_tree.specs.declared.types.Scalar.TheVariants as scalar
use Rattle.cel_tree.specs.declared.types.CelType.{CelType}
use Rattle.cel_tree.specs.declared.types.CelType.TheVariants as kind
use Rattle.cel_tree.specs.declared.calls.Comprehension.{Comprehension}
use Rattle.cel_tree.specs.declared.calls.Comprehension.TheVariants.{All, Exists, ExistsOne, Filter, Map}
use Rattle.cel_tree.specs.declared.calls.Called.{Called}
use Rattle.cel_tree.specs.declared.calls.Called.TheVariants as called
use Rattle.cel_tree.specs.declared.calls.Arguments.{Arguments}
use Rattle.cel_tree.specs.declared.calls.Arguments.TheVariants as arguments
use Rattle.cel_tree.specs.declared.fault.Fault.{Fault}
use Rattle.cel_tree.specs.declared.fault.Fault.TheVariants.{NotSupported, NoSuchName, NoOverload}
use Rattle.cel_tree.specs.Ast.{Constant, Ast, Node, Form, Literal', Ident, Unary, Binary, Conditional, Member, Index, Call, Method, ListOf, MapOf, Asts, End, More, Entries, NoEntry, Pair, span_of}
use Rattle.cel_tree.specs.Types.{bool, accepts, unary_type, binary_type, conditional_type, index_type, member_type, element_type}
use Rattle.cel_tree.specs.Calls.{called_of, call_type, method_type}
use Rattle.cel_tree.specs.Faults.{◌>>=◌, row, item_type, joined, list_of, mapped_type, comprehension_type, called_type, method_called_type}
use Rattle.cel_tree.specs.Scopes.{look_up, is_device}
use Rattle.cel_tree.specs.Typing.{Names, name_type, is_bind, device_type, variable_of, is_has, comprehension_in, with_first, has_type, body_type, key_type, beside, literal_of, key_of, keys_type, list_type, map_type, with_variable, elements, by_comprehension, type_of, form_type, has_of, has_in, has_form, comprehension_of, bind_of, bound_of, types_of, items_of, values_of}
use Rattle.cel_tree.specs.HasType.{HasType, HaveTypes, no_argument, argument}
use Rattle.cel_check.specs.HasFault.{is_device_member, member_of, has_object, first_variable, has_bodies, item_of, is_one, is_key, ItemFault, list_inside, map_inside, domains_inside, entries_inside, BodiesFault, no_bodies, no_scalar, HasFault, HaveFault, ItemsFault, ValuesFault}
use Rattle.cel_check.specs.HasFault as rule

-- the laws of types, which the crate of trees states
abbrev pub Found : Type 0
Found = (names : Names) (t : Ast) (k : CelType) → HasType names t k → type_of names t ≡ Ok k

abbrev pub Sound : Type 0
Sound = (names : Names) (t : Ast) (k : CelType) → type_of names t ≡ Ok k → HasType names t k

found : Found → {names : Names} {t : Ast} {k : CelType} → HasType names t k → type_of names t ≡ Ok k
found w h = w _ _ _ h

all_found : Found → {names : Names} {ts : Asts} {given : Arguments} → HaveTypes names ts given → types_of names ts ≡ Ok given
all_found w no_argument = refl
all_found w (argument h hs) = rw (found w h, all_found w hs) refl

-- ---- from the rules to what is found

no_member : (span : Span) (a b c : Bool) (x y z : CelType) → (a || (b || c)) ≡ false
    → (if a then Ok x else (if b then Ok y else (if c then Ok z else Err (NoSuchName span)))) ≡ Err (NoSuchName span)
no_member span true b c x y z e = absurd cc
no_member span false true c x y z e = absurd cc
no_member span false false true x y z e = absurd cc
no_member span false false false x y z e = refl

no_device_member : (span : Span) (x : List ℕ) → is_device_member x ≡ false → device_type span x ≡ Err (NoSuchName span)
no_device_member span x e = no_member span (bytes_eq x (codes "driver")) (bytes_eq x (codes "attributes")) (bytes_eq x (codes "capacity")) _ _ _ e

member_by : (span : Span) (b : Bool) (t : Ast) (r : Result CelType Fault) → (if b then None else Some t) ≡ None → (if b then Err (NoOverload span) else r) ≡ Err (NoOverload span)
member_by span true t r e = refl
member_by span false t r e = absurd cc

no_object : (names : Names) (span : Span) (ts : Asts) → has_object names ts ≡ None → has_of names span ts ≡ Err (NoOverload span)
no_object names span End e = refl
no_object names span (More t (More u ts)) e = refl
no_object names span (More (Node place (Member t x)) End) e = member_by span (is_device names t) t (type_of names t >>= λ k. has_type span k) e
no_object names span (More (Node place (Literal' c)) End) e = refl
no_object names span (More (Node place (Ident x)) End) e = refl
no_object names span (More (Node place (Unary op t)) End) e = refl
no_object names span (More (Node place (Binary op t u)) End) e = refl
no_object names span (More (Node place (Conditional t u v)) End) e = refl
no_object names span (More (Node place (Index t u)) End) e = refl
no_object names span (More (Node place (Call x ts)) End) e = refl
no_object names span (More (Node place (Method t x ts)) End) e = refl
no_object names span (More (Node place (ListOf ts)) End) e = refl
no_object names span (More (Node place (MapOf es)) End) e = refl

object_by : (span : Span) (names : Names) (b : Bool) (t u : Ast) → (if b then None else Some t) ≡ Some u
    → (if b then Err (NoOverload span) else (type_of names t >>= λ k. has_type span k)) ≡ (type_of names u >>= λ k. has_type span k)
object_by span names true t u e = absurd cc
object_by span names false t u e = let s : t ≡ u = cc in ap (λ (x : Ast). type_of names x >>= λ k. has_type span k) s

an_object : (names : Names) (span : Span) (ts : Asts) (u : Ast) → has_object names ts ≡ Some u → has_of names span ts ≡ (type_of names u >>= λ k. has_type span k)
an_object names span (More (Node place (Member t x)) End) u e = object_by span names (is_device names t) t u e
an_object names span End u e = absurd cc
an_object names span (More t (More v ts)) u e = absurd cc
an_object names span (More (Node place form) End) u e = absurd cc

no_variable : (names : Names) (span : Span) (c : Comprehension) (e : Scalar) (ts : Asts) → first_variable ts ≡ None → comprehension_of names span c e ts ≡ Err (NoOverload span)
no_variable names span c e End v = refl
no_variable names span c e (More t ts) v = rw v refl

no_name : (names : Names) (span : Span) (ts : Asts) → first_variable ts ≡ None → bind_of names span ts ≡ Err (NoOverload span)
no_name names span End v = refl
no_name names span (More t ts) v = rw v refl

not_one : (span : Span) (given : Arguments) → is_one given ≡ false → body_type span given ≡ Err (NoOverload span)
not_one span arguments.None e = refl
not_one span (arguments.One k) e = absurd cc
not_one span (arguments.Two k l) e = refl
not_one span arguments.Many e = refl

item_faulty : {span : Span} {k : CelType} {f : Fault} → ItemFault span k f → item_type span k ≡ Err f
item_faulty list_inside = refl
item_faulty map_inside = refl
item_faulty domains_inside = refl
item_faulty entries_inside = refl

no_test : (span : Span) (c : Comprehension) (e : Scalar) (given : Arguments) → has_bodies c given ≡ false → comprehension_type span c e given ≡ Err (NoOverload span)
no_test span All e arguments.None b = refl
no_test span All e (arguments.One k) b = rw b refl
no_test span All e (arguments.Two k l) b = refl
no_test span All e arguments.Many b = refl
no_test span Exists e arguments.None b = refl
no_test span Exists e (arguments.One k) b = rw b refl
no_test span Exists e (arguments.Two k l) b = refl
no_test span Exists e arguments.Many b = refl
no_test span ExistsOne e arguments.None b = refl
no_test span ExistsOne e (arguments.One k) b = rw b refl
no_test span ExistsOne e (arguments.Two k l) b = refl
no_test span ExistsOne e arguments.Many b = refl
no_test span Filter e arguments.None b = refl
no_test span Filter e (arguments.One k) b = rw b refl
no_test span Filter e (arguments.Two k l) b = refl
no_test span Filter e arguments.Many b = refl
no_test span Map e arguments.None b = refl
no_test span Map e (arguments.One k) b = absurd cc
no_test span Map e (arguments.Two k l) b = rw b refl
no_test span Map e arguments.Many b = refl

no_item : (span : Span) (given : Arguments) (k : CelType) (f : Fault) → has_bodies Map given ≡ true → item_of given ≡ Some k → item_type span k ≡ Err f → mapped_type span given ≡ Err f
no_item span (arguments.One l) k f b o i = let s : l ≡ k = cc in rw (s, i) refl
no_item span (arguments.Two m l) k f b o i = let s : l ≡ k = cc in rw (b, s, i) refl
no_item span arguments.None k f b o i = absurd cc
no_item span arguments.Many k f b o i = absurd cc

bodies_faulty : {span : Span} {c : Comprehension} {given : Arguments} {f : Fault} (e : Scalar) → BodiesFault span c given f → comprehension_type span c e given ≡ Err f
bodies_faulty {span = span} {c = c} {given = given} e (no_bodies b) = no_test span c e given b
bodies_faulty {span = span} {given = given} {f = f} e (no_scalar {k = k} b o i) = no_item span given k f b o (item_faulty i)

no_key : (span : Span) (earlier : List Constant) (o : Option Constant) → is_key earlier o ≡ false → key_of span earlier o ≡ Err (NoOverload span)
no_key span earlier None e = refl
no_key span earlier (Some c) e = rw e refl

a_key : (span : Span) (earlier : List Constant) (o : Option Constant) (c : Constant) → o ≡ Some c → is_key earlier (Some c) ≡ true → key_of span earlier o ≡ Ok c
a_key span earlier o c s e = rw (s, e) refl

some_key : (span : Span) (earlier : List Constant) (o : Option Constant) → is_key earlier o ≡ true → (c : Constant) × (key_of span earlier o ≡ Ok c)
some_key span earlier None e = absurd cc
some_key span earlier (Some c) e = (c, a_key span earlier (Some c) c refl e)

mutual
  pub fault_found : Found → {names : Names} {t : Ast} {f : Fault} → HasFault names t f → type_of names t ≡ Err f
  fault_found w (rule.name e d) = rw (e, d) refl
  fault_found w (rule.device e d) = rw (e, d) refl
  fault_found w (rule.unary_operand h) = rw (fault_found w h) refl
  fault_found w (rule.unary h e) = rw (found w h, e) refl
  fault_found w (rule.binary_left h) = rw (fault_found w h) refl
  fault_found w (rule.binary_right h i) = rw (found w h, fault_found w i) refl
  fault_found w (rule.binary h i e) = rw (found w h, found w i, e) refl
  fault_found w (rule.test h) = rw (fault_found w h) refl
  fault_found w (rule.then_branch h i) = rw (found w h, fault_found w i) refl
  fault_found w (rule.else_branch h i j) = rw (found w h, found w i, fault_found w j) refl
  fault_found w (rule.conditional h i j e) = rw (found w h, found w i, found w j, e) refl
  fault_found w (rule.device_member {span = span} {x = x} d m) = rw d (no_device_member span x m)
  fault_found w (rule.member_object d h) = rw (d, fault_found w h) refl
  fault_found w (rule.member d h e) = rw (d, found w h, e) refl
  fault_found w (rule.index_object h) = rw (fault_found w h) refl
  fault_found w (rule.index_place h i) = rw (found w h, fault_found w i) refl
  fault_found w (rule.index h i e) = rw (found w h, found w i, e) refl
  fault_found w (rule.has_form {names = names} {span = span} {ts = ts} c o) = rw c (no_object names span ts o)
  fault_found w (rule.has_operand {names = names} {span = span} {ts = ts} {t = t} c o h) = rw (c, an_object names span ts t o, fault_found w h) refl
  fault_found w (rule.has {names = names} {span = span} {ts = ts} {t = t} c o h e) = rw (c, an_object names span ts t o, found w h, e) refl
  fault_found w (rule.call_argument c hs) = rw (c, faults_found w hs) refl
  fault_found w (rule.call_left_out c hs) = rw (c, all_found w hs) refl
  fault_found w (rule.call_name c hs) = rw (c, all_found w hs) refl
  fault_found w (rule.call_macro c hs) = rw (c, all_found w hs) refl
  fault_found w (rule.call c hs e) = rw (c, all_found w hs, e) refl
  fault_found w (rule.method_object b h) = rw (b, fault_found w h) refl
  fault_found w (rule.method_argument b c h hs) = rw (b, found w h, c, faults_found w hs) refl
  fault_found w (rule.method_left_out b c h hs) = rw (b, c, found w h, all_found w hs) refl
  fault_found w (rule.method_name b c h hs) = rw (b, c, found w h, all_found w hs) refl
  fault_found w (rule.method_has b c h hs) = rw (b, c, found w h, all_found w hs) refl
  fault_found w (rule.method b c h hs e) = rw (b, c, found w h, all_found w hs, e) refl
  fault_found w (rule.range b c h e) = rw (b, c, found w h, e) refl
  fault_found w (rule.variable {names = names} {span = span} {c = m} {ts = ts} {e = s} b c h e v) = rw (b, c, found w h, e) (no_variable names span m s ts v)
  fault_found w (rule.body b c h e hs) = rw (b, c, found w h, e, faults_found w hs) refl
  fault_found w (rule.bodies {e = s} b c h e hs i) = rw (b, c, found w h, e, all_found w hs) (bodies_faulty s i)
  fault_found w (rule.bind_variable {names = names} {span = span} {ts = ts} b v) = rw b (no_name names span ts v)
  fault_found w (rule.bind_alone b) = rw b refl
  fault_found w (rule.bind_value b h) = rw (b, fault_found w h) refl
  fault_found w (rule.bind_body b h hs) = rw (b, found w h, faults_found w hs) refl
  fault_found w (rule.bind {span = span} {given = given} b h hs o) = rw (b, found w h, all_found w hs) (not_one span given o)
  fault_found w (rule.list h) = rw (items_found w h) refl
  fault_found w (rule.map h) = rw (values_found w h) refl

  faults_found : Found → {names : Names} {ts : Asts} {f : Fault} → HaveFault names ts f → types_of names ts ≡ Err f
  faults_found w (rule.first_argument h) = rw (fault_found w h) refl
  faults_found w (rule.later_argument h hs) = rw (found w h, faults_found w hs) refl

  items_found : Found → {names : Names} {ts : Asts} {f : Fault} → ItemsFault names ts f → items_of names ts ≡ Err f
  items_found w (rule.first_item h) = rw (fault_found w h) refl
  items_found w (rule.item h i) = rw (found w h, item_faulty i) refl
  items_found w (rule.later_item h hs) = rw (found w h, items_found w hs) refl

  values_found : Found → {names : Names} {earlier : List Constant} {es : Entries} {f : Fault} → ValuesFault names earlier es f → values_of names earlier es ≡ Err f
  values_found w (rule.key {earlier = earlier} {k = k} e) = rw (no_key (span_of k) earlier (literal_of k) e) refl
  values_found w (rule.first_value {earlier = earlier} {k = k} e h) = let c = some_key (span_of k) earlier (literal_of k) e in rw (c.1, fault_found w h) refl
  values_found w (rule.value {earlier = earlier} {k = k} e h i) = let c = some_key (span_of k) earlier (literal_of k) e in rw (c.1, found w h, item_faulty i) refl
  values_found w (rule.later_value {earlier = earlier} {k = k} {c = c} l e h hs) = rw (a_key (span_of k) earlier (literal_of k) c l e, found w h, values_found w hs) refl

-- ---- from what is found to the rules

err_inj : {A : Type 0} {y z : Fault} → ◌≡◌ {A = Result A Fault} (Err y) (Err z) → y ≡ z
err_inj e = cc

ok_inj : {A : Type 0} {x y : A} → ◌≡◌ {A = Result A Fault} (Ok x) (Ok y) → x ≡ y
ok_inj e = cc

ok_err : {A : Type 0} {x : A} {z : Fault} → ◌≡◌ {A = Result A Fault} (Ok x) (Err z) → ⊥
ok_err e = cc

-- where a fault came from: from what was found first, or from what went on with it
then_err : {A B : Type 0} (r : Result A Fault) (g : A → Result B Fault) (z : Fault) → (r >>= g) ≡ Err z → (r ≡ Err z) ⊎ ((x : A) × (r ≡ Ok x) × (g x ≡ Err z))
then_err (Ok x) g z e = inr (x, refl, e)
then_err (Err y) g z e = inl (ap Err (err_inj e))

then_ok : {A B : Type 0} (r : Result A Fault) (g : A → Result B Fault) (y : B) → (r >>= g) ≡ Ok y → (x : A) × (r ≡ Ok x) × (g x ≡ Ok y)
then_ok (Ok x) g y e = (x, refl, e)
then_ok (Err z) g y e = absurd cc

row_err : (span : Span) (o : Option CelType) (z : Fault) → row span o ≡ Err z → (o ≡ None) × (NoOverload span ≡ z)
row_err span (Some k) z e = absurd cc
row_err span None z e = (refl, err_inj e)

if_err : {A : Type 0} (b : Bool) (x y : Result A Fault) (z : Fault) → (if b then x else y) ≡ Err z → ((b ≡ true) × (x ≡ Err z)) ⊎ ((b ≡ false) × (y ≡ Err z))
if_err true x y z e = inl (refl, e)
if_err false x y z e = inr (refl, e)

has_name : (c : Option Called) → is_has c ≡ true → c ≡ Some called.Has
has_name (Some called.Has) e = refl
has_name (Some (called.Comprehension c)) e = absurd cc
has_name (Some (called.Function f)) e = absurd cc
has_name (Some called.LeftOut) e = absurd cc
has_name None e = absurd cc

some_inj : {A : Type 0} {x y : A} → Some x ≡ Some y → x ≡ y
some_inj e = cc

variable_back : (t : Ast) (x : List ℕ) → variable_of t ≡ Some x → (place : Span) × (t ≡ Node place (Ident x))
variable_back (Node place (Ident n)) x e = (place, ap (λ m. Node place (Ident m)) (some_inj e))
variable_back (Node place form) x e = absurd cc

types_sound : Sound → (names : Names) (ts : Asts) (given : Arguments) → types_of names ts ≡ Ok given → HaveTypes names ts given
types_sound w names End given e = subst (HaveTypes names End) (ok_inj e) no_argument
types_sound w names (More t ts) given e =
    let a = then_ok (type_of names t) (λ k. types_of names ts >>= λ rest. Ok (with_first k rest)) given e in
    let b = then_ok (types_of names ts) (λ rest. Ok (with_first a.0 rest)) given a.2 in
    subst (HaveTypes names (More t ts)) (ok_inj b.2) (argument (w names t a.0 a.1) (types_sound w names ts b.0 b.1))

item_back : (span : Span) (k : CelType) (z : Fault) → item_type span k ≡ Err z → ItemFault span k z
item_back span (kind.Scalar s) z e = absurd cc
item_back span (kind.List s) z e = subst (ItemFault span (kind.List s)) (err_inj e) list_inside
item_back span (kind.Map k s) z e = subst (ItemFault span (kind.Map k s)) (err_inj e) map_inside
item_back span (kind.Domains f) z e = subst (ItemFault span (kind.Domains f)) (err_inj e) domains_inside
item_back span (kind.Entries f) z e = subst (ItemFault span (kind.Entries f)) (err_inj e) entries_inside

scalar_back : (span : Span) (k : CelType) (s : Scalar) → item_type span k ≡ Ok s → k ≡ kind.Scalar s
scalar_back span (kind.Scalar r) s e = ap kind.Scalar (ok_inj e)
scalar_back span (kind.List r) s e = absurd cc
scalar_back span (kind.Map l r) s e = absurd cc
scalar_back span (kind.Domains f) s e = absurd cc
scalar_back span (kind.Entries f) s e = absurd cc

-- bodies that are no test
untested : (span : Span) (c : Comprehension) (bodies : Arguments) (z : Fault) → has_bodies c bodies ≡ false → ◌≡◌ {A = Result CelType Fault} (Err (NoOverload span)) (Err z) → BodiesFault span c bodies z
untested span c bodies z b e = subst (BodiesFault span c bodies) (err_inj e) (no_bodies b)

-- one test, or none
test_back : (span : Span) (c : Comprehension) (k result : CelType) (z : Fault) → has_bodies c (arguments.One k) ≡ accepts scalar.Bool k → (if accepts scalar.Bool k then Ok result else Err (NoOverload span)) ≡ Err z
    → BodiesFault span c (arguments.One k) z
test_back span c k result z b e =
    ⊎_elim
    (λ p. absurd (ok_err p.1))
    (λ p. untested span c (arguments.One k) z (b ∙ p.0) p.1)
    (if_err (accepts scalar.Bool k) (Ok result) (Err (NoOverload span)) z e)

list_back : (span : Span) (bodies : Arguments) (k : CelType) (z : Fault) → has_bodies Map bodies ≡ true → item_of bodies ≡ Some k → (item_type span k >>= λ s. Ok (kind.List s)) ≡ Err z → BodiesFault span Map bodies z
list_back span bodies k z b o e =
    ⊎_elim
    (λ p. no_scalar b o (item_back span k z p))
    (λ p. absurd (ok_err p.2))
    (then_err (item_type span k) (λ s. Ok (kind.List s)) z e)

bodies_back : (span : Span) (c : Comprehension) (s : Scalar) (bodies : Arguments) (z : Fault) → comprehension_type span c s bodies ≡ Err z → BodiesFault span c bodies z
bodies_back span All s arguments.None z e = untested span All arguments.None z refl e
bodies_back span All s (arguments.One k) z e = test_back span All k _ z refl e
bodies_back span All s (arguments.Two k l) z e = untested span All (arguments.Two k l) z refl e
bodies_back span All s arguments.Many z e = untested span All arguments.Many z refl e
bodies_back span Exists s arguments.None z e = untested span Exists arguments.None z refl e
bodies_back span Exists s (arguments.One k) z e = test_back span Exists k _ z refl e
bodies_back span Exists s (arguments.Two k l) z e = untested span Exists (arguments.Two k l) z refl e
bodies_back span Exists s arguments.Many z e = untested span Exists arguments.Many z refl e
bodies_back span ExistsOne s arguments.None z e = untested span ExistsOne arguments.None z refl e
bodies_back span ExistsOne s (arguments.One k) z e = test_back span ExistsOne k _ z refl e
bodies_back span ExistsOne s (arguments.Two k l) z e = untested span ExistsOne (arguments.Two k l) z refl e
bodies_back span ExistsOne s arguments.Many z e = untested span ExistsOne arguments.Many z refl e
bodies_back span Filter s arguments.None z e = untested span Filter arguments.None z refl e
bodies_back span Filter s (arguments.One k) z e = test_back span Filter k _ z refl e
bodies_back span Filter s (arguments.Two k l) z e = untested span Filter (arguments.Two k l) z refl e
bodies_back span Filter s arguments.Many z e = untested span Filter arguments.Many z refl e
bodies_back span Map s arguments.None z e = untested span Map arguments.None z refl e
bodies_back span Map s (arguments.One k) z e = list_back span (arguments.One k) k z refl refl e
bodies_back span Map s (arguments.Two k l) z e =
    ⊎_elim
    (λ p. list_back span (arguments.Two k l) l z p.0 refl p.1)
    (λ p. untested span Map (arguments.Two k l) z p.0 p.1)
    (if_err (accepts scalar.Bool k) (list_of span l) (Err (NoOverload span)) z e)
bodies_back span Map s arguments.Many z e = untested span Map arguments.Many z refl e

body_back : (span : Span) (given : Arguments) (z : Fault) → body_type span given ≡ Err z → (is_one given ≡ false) × (NoOverload span ≡ z)
body_back span arguments.None z e = (refl, err_inj e)
body_back span (arguments.One k) z e = absurd cc
body_back span (arguments.Two k l) z e = (refl, err_inj e)
body_back span arguments.Many z e = (refl, err_inj e)

device_by : (span : Span) (a b c : Bool) (x y z : CelType) (f : Fault) → (if a then Ok x else (if b then Ok y else (if c then Ok z else Err (NoSuchName span)))) ≡ Err f
    → ((a || (b || c)) ≡ false) × (NoSuchName span ≡ f)
device_by span true b c x y z f e = absurd (ok_err e)
device_by span false true c x y z f e = absurd (ok_err e)
device_by span false false true x y z f e = absurd (ok_err e)
device_by span false false false x y z f e = (refl, err_inj e)

device_back : (span : Span) (x : List ℕ) (f : Fault) → device_type span x ≡ Err f → (is_device_member x ≡ false) × (NoSuchName span ≡ f)
device_back span x f e = device_by span (bytes_eq x (codes "driver")) (bytes_eq x (codes "attributes")) (bytes_eq x (codes "capacity")) _ _ _ f e

name_cases : (span : Span) (b : Bool) (z : Fault) → ◌≡◌ {A = Result CelType Fault} (Err (if b then NoOverload span else NoSuchName span)) (Err z) → ◌≡◌ {A = Result CelType Fault} (if b then Err (NoOverload span) else Err (NoSuchName span)) (Err z)
name_cases span true z e = e
name_cases span false z e = e

name_by : (names : Names) (span : Span) (x : List ℕ) (o : Option CelType) (z : Fault) → look_up x names ≡ o → name_type span x o ≡ Err z → HasFault names (Node span (Ident x)) z
name_by names span x (Some k) z l e = absurd (ok_err e)
name_by names span x None z l e =
    ⊎_elim
    (λ p. subst (HasFault names (Node span (Ident x))) (err_inj p.1) (rule.device l p.0))
    (λ p. subst (HasFault names (Node span (Ident x))) (err_inj p.1) (rule.name l p.0))
    (if_err {A = CelType} (bytes_eq x (codes "device")) (Err (NoOverload span)) (Err (NoSuchName span)) z (name_cases span (bytes_eq x (codes "device")) z e))

key_back : (span : Span) (earlier : List Constant) (o : Option Constant) (z : Fault) → key_of span earlier o ≡ Err z → (is_key earlier o ≡ false) × (NoOverload span ≡ z)
key_back span earlier None z e = (refl, err_inj e)
key_back span earlier (Some c) z e =
    ⊎_elim
    (λ p. absurd (ok_err p.1))
    (λ p. (p.0, err_inj p.1))
    (if_err (is_some (key_type c) && list_all (beside c) earlier) (Ok c) (Err (NoOverload span)) z e)

if_ok : {A : Type 0} (b : Bool) (x : A) (f : Fault) (y : A) → (if b then Ok x else Err f) ≡ Ok y → (b ≡ true) × (x ≡ y)
if_ok true x f y e = (refl, ok_inj e)
if_ok false x f y e = absurd cc

key_sound : (span : Span) (earlier : List Constant) (o : Option Constant) (c : Constant) → key_of span earlier o ≡ Ok c → (o ≡ Some c) × (is_key earlier o ≡ true) × (is_key earlier (Some c) ≡ true)
key_sound span earlier None c e = absurd cc
key_sound span earlier (Some d) c e =
    let p = if_ok (is_some (key_type d) && list_all (beside d) earlier) d (NoOverload span) c e in
    (ap Some p.1, p.0, subst (λ x. is_key earlier (Some x) ≡ true) p.1 p.0)

hidden : (b : Bool) (t : Ast) → b ≡ true → (if b then None else Some t) ≡ None
hidden true t e = refl
hidden false t e = absurd cc

shown : (b : Bool) (t : Ast) → b ≡ false → (if b then None else Some t) ≡ Some t
shown true t e = absurd cc
shown false t e = refl

-- a call of a name other than `has`, after its arguments
called_back : (names : Names) (span : Span) (word : List ℕ) (ts : Asts) (given : Arguments) (c : Option Called) (z : Fault) → is_has (called_of word) ≡ false → called_of word ≡ c
    → HaveTypes names ts given → called_type span c given ≡ Err z → HasFault names (Node span (Call word ts)) z
called_back names span word ts given (Some (called.Function g)) z n c hs e =
    let r = row_err span (call_type g given) z e in subst (HasFault names (Node span (Call word ts))) r.1 (rule.call c hs r.0)
called_back names span word ts given (Some called.LeftOut) z n c hs e = subst (HasFault names (Node span (Call word ts))) (err_inj e) (rule.call_left_out c hs)
called_back names span word ts given (Some (called.Comprehension m)) z n c hs e = subst (HasFault names (Node span (Call word ts))) (err_inj e) (rule.call_macro c hs)
called_back names span word ts given None z n c hs e = subst (HasFault names (Node span (Call word ts))) (err_inj e) (rule.call_name c hs)
called_back names span word ts given (Some called.Has) z n c hs e = let x : true ≡ false = sym (ap is_has c) ∙ n in absurd cc

-- a method, after its object
method_back : Sound → (names : Names) (span : Span) (t : Ast) (word : List ℕ) (k : CelType) (ts : Asts) (z : Fault) → is_bind t word ≡ false → HasType names t k
    → ((y : Fault) → types_of names ts ≡ Err y → HaveFault names ts y)
    → ((m : Comprehension) → called_of word ≡ Some (called.Comprehension m) → elements span (element_type k) (λ s. comprehension_of names span m s ts) ≡ Err z → HasFault names (Node span (Method t word ts)) z)
    → (c : Option Called) → called_of word ≡ c
    → by_comprehension (comprehension_in c) (λ m. elements span (element_type k) (λ s. comprehension_of names span m s ts)) (types_of names ts >>= λ given. method_called_type span c k given) ≡ Err z
    → HasFault names (Node span (Method t word ts)) z
method_back w names span t word k ts z b h arguments over (Some (called.Comprehension m)) c e = over m c e
method_back w names span t word k ts z b h arguments over (Some (called.Function g)) c e =
    ⊎_elim
    (λ q. rule.method_argument b (ap comprehension_in c) h (arguments z q))
    (λ q. let r = row_err span (method_type g k q.0) z q.2 in subst (HasFault names (Node span (Method t word ts))) r.1 (rule.method b c h (types_sound w names ts q.0 q.1) r.0))
    (then_err (types_of names ts) (λ given. row span (method_type g k given)) z e)
method_back w names span t word k ts z b h arguments over (Some called.Has) c e =
    ⊎_elim
    (λ q. rule.method_argument b (ap comprehension_in c) h (arguments z q))
    (λ q. subst (HasFault names (Node span (Method t word ts))) (err_inj q.2) (rule.method_has b c h (types_sound w names ts q.0 q.1)))
    (then_err {B = CelType} (types_of names ts) (λ given. Err (NoOverload span)) z e)
method_back w names span t word k ts z b h arguments over (Some called.LeftOut) c e =
    ⊎_elim
    (λ q. rule.method_argument b (ap comprehension_in c) h (arguments z q))
    (λ q. subst (HasFault names (Node span (Method t word ts))) (err_inj q.2) (rule.method_left_out b c h (types_sound w names ts q.0 q.1)))
    (then_err {B = CelType} (types_of names ts) (λ given. Err (NotSupported span)) z e)
method_back w names span t word k ts z b h arguments over None c e =
    ⊎_elim
    (λ q. rule.method_argument b (ap comprehension_in c) h (arguments z q))
    (λ q. subst (HasFault names (Node span (Method t word ts))) (err_inj q.2) (rule.method_name b c h (types_sound w names ts q.0 q.1)))
    (then_err {B = CelType} (types_of names ts) (λ given. Err (NoSuchName span)) z e)

-- a comprehension without arguments
alone_back : (names : Names) (span : Span) (t : Ast) (word : List ℕ) (k : CelType) (m : Comprehension) (z : Fault) → is_bind t word ≡ false → HasType names t k
    → called_of word ≡ Some (called.Comprehension m) → (o : Option Scalar) → element_type k ≡ o → elements span o (λ s. comprehension_of names span m s End) ≡ Err z → HasFault names (Node span (Method t word End)) z
alone_back names span t word k m z b h c None l e = subst (HasFault names (Node span (Method t word End))) (err_inj e) (rule.range b c h l)
alone_back names span t word k m z b h c (Some s) l e = subst (HasFault names (Node span (Method t word End))) (err_inj e) (rule.variable b c h l refl)

-- the bodies of a comprehension, after its variable
bodies_of : Sound → (names : Names) (span : Span) (t : Ast) (word : List ℕ) (k : CelType) (m : Comprehension) (s : Scalar) (x : Ast) (ts : Asts) (z : Fault) → is_bind t word ≡ false → HasType names t k
    → called_of word ≡ Some (called.Comprehension m) → element_type k ≡ Some s → ((ns : Names) (y : Fault) → types_of ns ts ≡ Err y → HaveFault ns ts y) → (o : Option (List ℕ)) → variable_of x ≡ o
    → with_variable span o (λ name. types_of ((name, kind.Scalar s) ∷ names) ts >>= λ bodies. comprehension_type span m s bodies) ≡ Err z → HasFault names (Node span (Method t word (More x ts))) z
bodies_of w names span t word k m s x ts z b h c l arguments None v e = subst (HasFault names (Node span (Method t word (More x ts)))) (err_inj e) (rule.variable b c h l v)
bodies_of w names span t word k m s x ts z b h c l arguments (Some n) v e =
    let i = variable_back x n v in
    subst (λ (y : Ast). HasFault names (Node span (Method t word (More y ts))) z) (sym i.1)
    (⊎_elim
    (λ q. rule.body b c h l (arguments ((n, kind.Scalar s) ∷ names) z q))
    (λ q. rule.bodies b c h l (types_sound w ((n, kind.Scalar s) ∷ names) ts q.0 q.1) (bodies_back span m s q.0 z q.2))
    (then_err (types_of ((n, kind.Scalar s) ∷ names) ts) (λ bodies. comprehension_type span m s bodies) z e))

over_back : Sound → (names : Names) (span : Span) (t : Ast) (word : List ℕ) (k : CelType) (m : Comprehension) (x : Ast) (ts : Asts) (z : Fault) → is_bind t word ≡ false → HasType names t k
    → called_of word ≡ Some (called.Comprehension m) → ((ns : Names) (y : Fault) → types_of ns ts ≡ Err y → HaveFault ns ts y) → (o : Option Scalar) → element_type k ≡ o
    → elements span o (λ s. comprehension_of names span m s (More x ts)) ≡ Err z → HasFault names (Node span (Method t word (More x ts))) z
over_back w names span t word k m x ts z b h c arguments None l e = subst (HasFault names (Node span (Method t word (More x ts)))) (err_inj e) (rule.range b c h l)
over_back w names span t word k m x ts z b h c arguments (Some s) l e = bodies_of w names span t word k m s x ts z b h c l arguments (variable_of x) refl e

-- `cel.bind`, after its variable
named_back : (names : Names) (span : Span) (t : Ast) (word : List ℕ) → is_bind t word ≡ true → (x : Ast) (ts : Asts) (z : Fault)
    → ((place : Span) (n : List ℕ) → bound_of names span n ts ≡ Err z → HasFault names (Node span (Method t word (More (Node place (Ident n)) ts))) z)
    → (o : Option (List ℕ)) → variable_of x ≡ o → with_variable span o (λ name. bound_of names span name ts) ≡ Err z → HasFault names (Node span (Method t word (More x ts))) z
named_back names span t word b x ts z bound None v e = subst (HasFault names (Node span (Method t word (More x ts)))) (err_inj e) (rule.bind_variable b v)
named_back names span t word b x ts z bound (Some n) v e =
    let i = variable_back x n v in
    subst (λ (y : Ast). HasFault names (Node span (Method t word (More y ts))) z) (sym i.1) (bound i.0 n e)

mutual
  pub fault_back : Sound → (names : Names) (t : Ast) (z : Fault) → type_of names t ≡ Err z → HasFault names t z
  fault_back w names (Node span form) z e = form_back w names span form z e

  form_back : Sound → (names : Names) (span : Span) (form : Form) (z : Fault) → form_type names span form ≡ Err z → HasFault names (Node span form) z
  form_back w names span (Literal' c) z e = absurd (ok_err e)
  form_back w names span (Ident x) z e = name_by names span x (look_up x names) z refl e
  form_back w names span (Unary op t) z e =
      ⊎_elim
      (λ p. rule.unary_operand (fault_back w names t z p))
      (λ p. let r = row_err span (unary_type op p.0) z p.2 in subst (HasFault names (Node span (Unary op t))) r.1 (rule.unary (w names t p.0 p.1) r.0))
      (then_err (type_of names t) (λ k. row span (unary_type op k)) z e)
  form_back w names span (Binary op t u) z e =
      ⊎_elim
      (λ p. rule.binary_left (fault_back w names t z p))
      (λ p. ⊎_elim
      (λ q. rule.binary_right (w names t p.0 p.1) (fault_back w names u z q))
      (λ q. let r = row_err span (binary_type op p.0 q.0) z q.2 in subst (HasFault names (Node span (Binary op t u))) r.1 (rule.binary (w names t p.0 p.1) (w names u q.0 q.1) r.0))
      (then_err (type_of names u) (λ l. row span (binary_type op p.0 l)) z p.2))
      (then_err (type_of names t) (λ k. type_of names u >>= λ l. row span (binary_type op k l)) z e)
  form_back w names span (Conditional t u v) z e =
      ⊎_elim
      (λ p. rule.test (fault_back w names t z p))
      (λ p. ⊎_elim
      (λ q. rule.then_branch (w names t p.0 p.1) (fault_back w names u z q))
      (λ q. ⊎_elim
      (λ s. rule.else_branch (w names t p.0 p.1) (w names u q.0 q.1) (fault_back w names v z s))
      (λ s. let r = row_err span (conditional_type p.0 q.0 s.0) z s.2 in
      subst (HasFault names (Node span (Conditional t u v))) r.1 (rule.conditional (w names t p.0 p.1) (w names u q.0 q.1) (w names v s.0 s.1) r.0))
      (then_err (type_of names v) (λ m. row span (conditional_type p.0 q.0 m)) z q.2))
      (then_err (type_of names u) (λ l. type_of names v >>= λ m. row span (conditional_type p.0 l m)) z p.2))
      (then_err (type_of names t) (λ k. type_of names u >>= λ l. type_of names v >>= λ m. row span (conditional_type k l m)) z e)
  form_back w names span (Member t x) z e =
      ⊎_elim
      (λ d. let r = device_back span x z d.1 in subst (HasFault names (Node span (Member t x))) r.1 (rule.device_member d.0 r.0))
      (λ d. ⊎_elim
      (λ p. rule.member_object d.0 (fault_back w names t z p))
      (λ p. let r = row_err span (member_type p.0) z p.2 in subst (HasFault names (Node span (Member t x))) r.1 (rule.member d.0 (w names t p.0 p.1) r.0))
      (then_err (type_of names t) (λ k. row span (member_type k)) z d.1))
      (if_err (is_device names t) (device_type span x) (type_of names t >>= λ k. row span (member_type k)) z e)
  form_back w names span (Index t u) z e =
      ⊎_elim
      (λ p. rule.index_object (fault_back w names t z p))
      (λ p. ⊎_elim
      (λ q. rule.index_place (w names t p.0 p.1) (fault_back w names u z q))
      (λ q. let r = row_err span (index_type p.0 q.0) z q.2 in subst (HasFault names (Node span (Index t u))) r.1 (rule.index (w names t p.0 p.1) (w names u q.0 q.1) r.0))
      (then_err (type_of names u) (λ l. row span (index_type p.0 l)) z p.2))
      (then_err (type_of names t) (λ k. type_of names u >>= λ l. row span (index_type k l)) z e)
  form_back w names span (Call word ts) z e =
      ⊎_elim
      (λ p. has_back w names span word (has_name (called_of word) p.0) ts z p.1)
      (λ p. ⊎_elim
      (λ q. rule.call_argument p.0 (types_back w names ts z q))
      (λ q. called_back names span word ts q.0 (called_of word) z p.0 refl (types_sound w names ts q.0 q.1) q.2)
      (then_err (types_of names ts) (λ given. called_type span (called_of word) given) z p.1))
      (if_err (is_has (called_of word)) (has_of names span ts) (types_of names ts >>= λ given. called_type span (called_of word) given) z e)
  form_back w names span (Method t word ts) z e =
      ⊎_elim
      (λ b. bind_back w names span t word b.0 ts z b.1)
      (λ b. ⊎_elim
      (λ p. rule.method_object b.0 (fault_back w names t z p))
      (λ p. method_back w names span t word p.0 ts z b.0 (w names t p.0 p.1) (λ y q. types_back w names ts y q) (λ m c q. range_back w names span t word p.0 m z b.0 (w names t p.0 p.1) c ts q) (called_of word) refl p.2)
      (then_err (type_of names t) (λ k. by_comprehension (comprehension_in (called_of word)) (λ c. elements span (element_type k) (λ s. comprehension_of names span c s ts)) (types_of names ts >>= λ given. method_called_type span (called_of word) k given)) z b.1))
      (if_err (is_bind t word) (bind_of names span ts) (type_of names t >>= λ k. by_comprehension (comprehension_in (called_of word)) (λ c. elements span (element_type k) (λ s. comprehension_of names span c s ts)) (types_of names ts >>= λ given. method_called_type span (called_of word) k given)) z e)
  form_back w names span (ListOf ts) z e =
      ⊎_elim
      (λ p. rule.list (items_back w names ts z p))
      (λ p. absurd (ok_err p.2))
      (then_err (items_of names ts) (λ items. Ok (list_type items)) z e)
  form_back w names span (MapOf es) z e =
      ⊎_elim
      (λ p. rule.map (values_back w names [] es z p))
      (λ p. absurd (ok_err p.2))
      (then_err (values_of names [] es) (λ values. Ok (map_type (keys_type es) values)) z e)

  -- the faults of `has`
  has_back : Sound → (names : Names) (span : Span) (word : List ℕ) → called_of word ≡ Some called.Has → (ts : Asts) (z : Fault) → has_of names span ts ≡ Err z → HasFault names (Node span (Call word ts)) z
  has_back w names span word c End z e = subst (HasFault names (Node span (Call word End))) (err_inj e) (rule.has_form c refl)
  has_back w names span word c (More t (More u ts)) z e = subst (HasFault names (Node span (Call word (More t (More u ts))))) (err_inj e) (rule.has_form c refl)
  has_back w names span word c (More t End) z e = has_in_back w names span word c t z e

  has_in_back : Sound → (names : Names) (span : Span) (word : List ℕ) → called_of word ≡ Some called.Has → (t : Ast) (z : Fault) → has_in names span t ≡ Err z → HasFault names (Node span (Call word (More t End))) z
  has_in_back w names span word c (Node place form) z e = has_form_back w names span place word c form z e

  has_form_back : Sound → (names : Names) (span place : Span) (word : List ℕ) → called_of word ≡ Some called.Has → (form : Form) (z : Fault) → has_form names span form ≡ Err z
      → HasFault names (Node span (Call word (More (Node place form) End))) z
  has_form_back w names span place word c (Member t x) z e =
      ⊎_elim
      (λ d. subst (HasFault names (Node span (Call word (More (Node place (Member t x)) End)))) (err_inj d.1) (rule.has_form c (hidden (is_device names t) t d.0)))
      (λ d. ⊎_elim
      (λ p. rule.has_operand c (shown (is_device names t) t d.0) (fault_back w names t z p))
      (λ p. ⊎_elim
      (λ q. let r = row_err span (member_type p.0) z q in
      subst (HasFault names (Node span (Call word (More (Node place (Member t x)) End)))) r.1 (rule.has c (shown (is_device names t) t d.0) (w names t p.0 p.1) r.0))
      (λ q. absurd (ok_err q.2))
      (then_err (row span (member_type p.0)) (λ k. Ok bool) z p.2))
      (then_err (type_of names t) (λ k. has_type span k) z d.1))
      (if_err (is_device names t) (Err (NoOverload span)) (type_of names t >>= λ k. has_type span k) z e)
  has_form_back w names span place word c (Literal' d) z e = subst (HasFault names _) (err_inj e) (rule.has_form c refl)
  has_form_back w names span place word c (Ident x) z e = subst (HasFault names _) (err_inj e) (rule.has_form c refl)
  has_form_back w names span place word c (Unary op t) z e = subst (HasFault names _) (err_inj e) (rule.has_form c refl)
  has_form_back w names span place word c (Binary op t u) z e = subst (HasFault names _) (err_inj e) (rule.has_form c refl)
  has_form_back w names span place word c (Conditional t u v) z e = subst (HasFault names _) (err_inj e) (rule.has_form c refl)
  has_form_back w names span place word c (Index t u) z e = subst (HasFault names _) (err_inj e) (rule.has_form c refl)
  has_form_back w names span place word c (Call x ts) z e = subst (HasFault names _) (err_inj e) (rule.has_form c refl)
  has_form_back w names span place word c (Method t x ts) z e = subst (HasFault names _) (err_inj e) (rule.has_form c refl)
  has_form_back w names span place word c (ListOf ts) z e = subst (HasFault names _) (err_inj e) (rule.has_form c refl)
  has_form_back w names span place word c (MapOf es) z e = subst (HasFault names _) (err_inj e) (rule.has_form c refl)

  -- a comprehension, after its range
  range_back : Sound → (names : Names) (span : Span) (t : Ast) (word : List ℕ) (k : CelType) (m : Comprehension) (z : Fault) → is_bind t word ≡ false → HasType names t k
      → called_of word ≡ Some (called.Comprehension m) → (ts : Asts) → elements span (element_type k) (λ s. comprehension_of names span m s ts) ≡ Err z → HasFault names (Node span (Method t word ts)) z
  range_back w names span t word k m z b h c End e = alone_back names span t word k m z b h c (element_type k) refl e
  range_back w names span t word k m z b h c (More x ts) e = over_back w names span t word k m x ts z b h c (λ ns y i. types_back w ns ts y i) (element_type k) refl e

  -- `cel.bind`
  bind_back : Sound → (names : Names) (span : Span) (t : Ast) (word : List ℕ) → is_bind t word ≡ true → (ts : Asts) (z : Fault) → bind_of names span ts ≡ Err z → HasFault names (Node span (Method t word ts)) z
  bind_back w names span t word b End z e = subst (HasFault names (Node span (Method t word End))) (err_inj e) (rule.bind_variable b refl)
  bind_back w names span t word b (More x ts) z e = named_back names span t word b x ts z (λ place n i. bound_back w names span place t word b n ts z i) (variable_of x) refl e

  bound_back : Sound → (names : Names) (span place : Span) (t : Ast) (word : List ℕ) → is_bind t word ≡ true → (n : List ℕ) (ts : Asts) (z : Fault) → bound_of names span n ts ≡ Err z
      → HasFault names (Node span (Method t word (More (Node place (Ident n)) ts))) z
  bound_back w names span place t word b n End z e = subst (HasFault names (Node span (Method t word (More (Node place (Ident n)) End)))) (err_inj e) (rule.bind_alone b)
  bound_back w names span place t word b n (More u ts) z e =
      ⊎_elim
      (λ p. rule.bind_value b (fault_back w names u z p))
      (λ p. ⊎_elim
      (λ q. rule.bind_body b (w names u p.0 p.1) (types_back w ((n, p.0) ∷ names) ts z q))
      (λ q. let r = body_back span q.0 z q.2 in
      subst (HasFault names (Node span (Method t word (More (Node place (Ident n)) (More u ts))))) r.1 (rule.bind b (w names u p.0 p.1) (types_sound w ((n, p.0) ∷ names) ts q.0 q.1) r.0))
      (then_err (types_of ((n, p.0) ∷ names) ts) (λ given. body_type span given) z p.2))
      (then_err (type_of names u) (λ k. types_of ((n, k) ∷ names) ts >>= λ given. body_type span given) z e)

  types_back : Sound → (names : Names) (ts : Asts) (z : Fault) → types_of names ts ≡ Err z → HaveFault names ts z
  types_back w names End z e = absurd (ok_err e)
  types_back w names (More t ts) z e =
      ⊎_elim
      (λ p. rule.first_argument (fault_back w names t z p))
      (λ p. ⊎_elim
      (λ q. rule.later_argument (w names t p.0 p.1) (types_back w names ts z q))
      (λ q. absurd (ok_err q.2))
      (then_err (types_of names ts) (λ given. Ok (with_first p.0 given)) z p.2))
      (then_err (type_of names t) (λ k. types_of names ts >>= λ given. Ok (with_first k given)) z e)

  items_back : Sound → (names : Names) (ts : Asts) (z : Fault) → items_of names ts ≡ Err z → ItemsFault names ts z
  items_back w names End z e = absurd (ok_err e)
  items_back w names (More t ts) z e =
      ⊎_elim
      (λ p. rule.first_item (fault_back w names t z p))
      (λ p. ⊎_elim
      (λ q. rule.item (w names t p.0 p.1) (item_back (span_of t) p.0 z q))
      (λ q. ⊎_elim
      (λ r. rule.later_item (subst (HasType names t) (scalar_back (span_of t) p.0 q.0 q.1) (w names t p.0 p.1)) (items_back w names ts z r))
      (λ r. absurd (ok_err r.2))
      (then_err (items_of names ts) (λ rest. Ok (Some (joined q.0 rest))) z q.2))
      (then_err (item_type (span_of t) p.0) (λ s. items_of names ts >>= λ rest. Ok (Some (joined s rest))) z p.2))
      (then_err (type_of names t) (λ k. item_type (span_of t) k >>= λ s. items_of names ts >>= λ rest. Ok (Some (joined s rest))) z e)

  values_back : Sound → (names : Names) (earlier : List Constant) (es : Entries) (z : Fault) → values_of names earlier es ≡ Err z → ValuesFault names earlier es z
  values_back w names earlier NoEntry z e = absurd (ok_err e)
  values_back w names earlier (Pair k t es) z e =
      ⊎_elim
      (λ y. let r = key_back (span_of k) earlier (literal_of k) z y in subst (ValuesFault names earlier (Pair k t es)) r.1 (rule.key r.0))
      (λ y. let c = key_sound (span_of k) earlier (literal_of k) y.0 y.1 in ⊎_elim
      (λ p. rule.first_value c.1 (fault_back w names t z p))
      (λ p. ⊎_elim
      (λ q. rule.value c.1 (w names t p.0 p.1) (item_back (span_of t) p.0 z q))
      (λ q. ⊎_elim
      (λ r. rule.later_value c.0 c.2 (subst (HasType names t) (scalar_back (span_of t) p.0 q.0 q.1) (w names t p.0 p.1)) (values_back w names (earlier ++ y.0 ∷ []) es z r))
      (λ r. absurd (ok_err r.2))
      (then_err (values_of names (earlier ++ y.0 ∷ []) es) (λ rest. Ok (Some (joined q.0 rest))) z q.2))
      (then_err (item_type (span_of t) p.0) (λ s. values_of names (earlier ++ y.0 ∷ []) es >>= λ rest. Ok (Some (joined s rest))) z p.2))
      (then_err (type_of names t) (λ l. item_type (span_of t) l >>= λ s. values_of names (earlier ++ y.0 ∷ []) es >>= λ rest. Ok (Some (joined s rest))) z y.2))
      (then_err (key_of (span_of k) earlier (literal_of k)) (λ c. type_of names t >>= λ l. item_type (span_of t) l >>= λ s. values_of names (earlier ++ c ∷ []) es >>= λ rest. Ok (Some (joined s rest))) z e)
