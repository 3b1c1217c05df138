-- A tree that has a type means values of that type alone.
use Rattle.std.proofs.Common.{◌≡◌, ℕ, List, [], ◌∷◌, ◌++◌, Bool, true, false, Option, Some, None, IfOk, Result, Ok, Err, subst, sym, ap, ◌∙◌, refl, if◌then◌else◌, is_some}
use Rattle.std.specs.Prelude.{unwrap_or}
use Rattle.std.specs.List.{list_all}
use Rattle.std.specs.BTreeMap.{insert_entry}
use Rattle.std.specs.Ordering.{match_ordering}
use Rattle.std.specs.declared.cmp.Ordering.TheVariants.{Less, Equal, Greater}
use Rattle.cel_tree.specs.declared.tree.Span.{Span}
use Rattle.cel_tree.specs.declared.types.Scalar.{Scalar}
use Rattle.cel_tree.specs.declared.types.Scalar.TheVariants as scalar
use Rattle.cel_tree.specs.declared.types.KeyType.{KeyType}
use Rattle.cel_tree.specs.declared.types.CelType.{CelType}
use Rattle.cel_tree.specs.declared.types.CelType.TheVariants as kind
use Rattle.cel_tree.specs.declared.calls.Arguments.{Arguments}
use Rattle.cel_tree.specs.Ast.{Constant, Null, Truth, Whole, Bytes, Ast, Node, Literal', Asts, Entries, Pair}
use Rattle.cel_tree.specs.Types.{bool, scalar_of, same_scalar}
use Rattle.cel_tree.specs.Faults.{joined}
use Rattle.cel_tree.specs.Typing.{Names, key_type, beside, keys_type}
use Rattle.cel_tree.specs.Typing as typing
use Rattle.cel_tree.specs.HasType.{HasType, HaveTypes, HaveItems, HaveValues, literal, name, unary, binary, conditional, of_device, member, index, has, call, method, comprehension, bind, list, map, no_argument, argument, no_item, item, no_value, value}
use Rattle.cel_value.specs.declared.error.EvalError.{EvalError}
use Rattle.cel_value.specs.declared.error.EvalError.TheVariants.{NoOverload}
use Rattle.cel_value.specs.declared.value.Single.{Single}
use Rattle.cel_value.specs.declared.value.Key.{Key}
use Rattle.cel_value.specs.declared.value.Key.TheVariants as the_key
use Rattle.cel_value.specs.declared.value.Value.{Value}
use Rattle.cel_value.specs.declared.value.Value.TheVariants as the_value
use Rattle.cel_value.specs.Device.{Device}
use Rattle.cel_value.specs.Values.{◌>>=◌, constant_of, single_of, key_in}
use Rattle.cel_value.specs.Operators.{unary_of}
use Rattle.cel_value.specs.Lookups.{key_cmp, member_of, has_of, index_of, elements_of}
use Rattle.cel_value.specs.Functions.{call_of, method_of}
use Rattle.cel_meaning.specs.Folds.{tested, as_single, comprehended}
use Rattle.cel_tree.specs.Scopes.{is_device}
use Rattle.cel_meaning.specs.Meaning.{Bindings, bound_to, means, each, items_of, entries_of, bodies_of}
use Rattle.cel_meaning.specs.HasKind.{Every, no_more, first, IsOf, a_bool, an_int, a_text, anything, IsEntry, HasKind, of_scalar, of_list, of_map, Agree, bound}
use Rattle.cel_meaning.proofs.Every.{on, after, either, ok_if, some_inj, none_some, weaken}
use Rattle.cel_meaning.proofs.OfKind.{constant_kind, unary_kind, same_is, index_kind, member_kind, elements_kind, then_kind, else_kind, device_kind, both_true}
use Rattle.cel_meaning.proofs.OfCalls.{operation_kind, call_kind, method_kind}
use Rattle.cel_meaning.proofs.OfFolds.{Yield, no_body, body, as_single_kind, comprehended_kind}
use Rattle.cel_meaning.proofs.Agreement.{name_kind, same_device}

-- ---- conditionals and `has`

choice_kind : (n : CelType) (r : Result Bool EvalError) (s u : Result Value EvalError) → IfOk s (HasKind n) → IfOk u (HasKind n) → IfOk (r >>= λ b. if b then s else u) (HasKind n)
choice_kind n r s u h i = after (HasKind n) r (λ b. if b then s else u) (λ b. either (HasKind n) b s u h i)

has_value : (d : Device) (x : Value) (f : List ℕ) → IfOk (has_of d x f) (HasKind bool)
has_value d (the_value.Single x) f = tt
has_value d (the_value.List xs) f = tt
has_value d (the_value.Map es) f = of_scalar a_bool
has_value d (the_value.Domains g) f = of_scalar a_bool
has_value d (the_value.Entries g domain) f = of_scalar a_bool

has_kind : (d : Device) (b : Bool) (r : Result Value EvalError) (f : List ℕ) → IfOk (if b then Err NoOverload else (r >>= λ x. has_of d x f)) (HasKind bool)
has_kind d b r f = either (HasKind bool) b (Err NoOverload) (r >>= λ x. has_of d x f) tt (after (HasKind bool) r (λ x. has_of d x f) (λ x. has_value d x f))

-- ---- items of a list

pub ItemsAre : Option Scalar → List Single → Type 0
ItemsAre None xs = xs ≡ []
ItemsAre (Some s) xs = Every (IsOf s) xs

joined_first : (s : Scalar) (rest : Option Scalar) (x : Single) → IsOf s x → IsOf (joined s rest) x
joined_first s None x p = p
joined_first s (Some r) x p = elim (same_scalar s r) as (λ b. IsOf (if b then s else scalar.Dyn) x) [ true ↦ p | false ↦ anything ]

joined_some : (s r : Scalar) (b : Bool) (x : Single) → same_scalar s r ≡ b → IsOf r x → IsOf (if b then s else scalar.Dyn) x
joined_some s r true x e p = subst (λ (t : Scalar). IsOf t x) (sym (same_is s r e)) p
joined_some s r false x e p = anything

joined_rest : (s : Scalar) (rest : Option Scalar) (xs : List Single) → ItemsAre rest xs → Every (IsOf (joined s rest)) xs
unfolding ItemsAre
joined_rest s None xs h = subst (Every (IsOf s)) (sym h) no_more
joined_rest s (Some r) xs h = weaken (IsOf r) (IsOf (joined s (Some r))) (λ x p. joined_some s r (same_scalar s r) x refl p) h

item_kind : (s : Scalar) (rest : Option Scalar) (x : Single) (xs : List Single) → IsOf s x → ItemsAre rest xs → ItemsAre (Some (joined s rest)) (x ∷ xs)
unfolding ItemsAre
item_kind s rest x xs p h = first (joined_first s rest x p) (joined_rest s rest xs h)

items_list : (items : Option Scalar) (xs : List Single) → ItemsAre items xs → HasKind (typing.list_type items) (the_value.List xs)
unfolding ItemsAre
items_list None xs e = of_list (subst (Every (IsOf scalar.Dyn)) (sym e) no_more)
items_list (Some s) xs h = of_list h

-- ---- entries of a map

-- values of the type, if there is one, are of the scalar type
pub Under : Option Scalar → Scalar → Type 0
Under None w = Unit {0}
Under (Some v) w = (x : Single) → IsOf v x → IsOf w x

under_all : (values : Option Scalar) → Under values (unwrap_or values scalar.Dyn)
unfolding Under
under_all None = tt
under_all (Some v) = λ x p. p

under_first : (s : Scalar) (rest : Option Scalar) (w : Scalar) → Under (Some (joined s rest)) w → (x : Single) → IsOf s x → IsOf w x
unfolding Under
under_first s rest w u x p = u x (joined_first s rest x p)

under_rest : (s : Scalar) (rest : Option Scalar) (w : Scalar) → Under (Some (joined s rest)) w → Under rest w
unfolding Under
under_rest s None w u = tt
under_rest s (Some r) w u = λ x p. u x (joined_some s r (same_scalar s r) x refl p)

-- the type of the keys is that of the first one
pub KeysAre : KeyType → List Constant → Entries → Type 0
KeysAre k [] es = keys_type es ≡ k
KeysAre k (c ∷ cs) es = key_type c ≡ Some k

one_key : (c d : Constant) → beside c d ≡ true → key_type c ≡ key_type d
one_key (Truth a) (Truth b) e = refl
one_key (Whole m) (Whole n) e = refl
one_key (Bytes s) (Bytes t) e = refl
one_key c d e = absurd (cc)

keys_here : (k : KeyType) (earlier : List Constant) (place : Span) (c : Constant) (t : Ast) (es : Entries) → KeysAre k earlier (Pair (Node place (Literal' c)) t es) → is_some (key_type c) ≡ true → list_all (beside c) earlier ≡ true → key_type c ≡ Some k
unfolding KeysAre
keys_here k [] place Null t es h p q = absurd (cc)
keys_here k [] place (Truth b) t es h p q = ap Some h
keys_here k [] place (Whole n) t es h p q = ap Some h
keys_here k [] place (Bytes s) t es h p q = ap Some h
keys_here k (d ∷ ds) place c t es h p q = one_key c d (both_true (beside c d) (list_all (beside c) ds) q).0 ∙ h

keys_next : (k : KeyType) (earlier : List Constant) (c : Constant) (es fs : Entries) → KeysAre k earlier fs → key_type c ≡ Some k → KeysAre k (earlier ++ c ∷ []) es
unfolding KeysAre
keys_next k [] c es fs h e = e
keys_next k (d ∷ ds) c es fs h e = h

key_as : {j k : KeyType} (y : Key) → Some j ≡ Some k → IsOf (scalar_of j) (single_of y) → IsOf (scalar_of k) (single_of y)
key_as y e p = subst (λ (l : KeyType). IsOf (scalar_of l) (single_of y)) (some_inj e) p

key_kind : (k : KeyType) (c : Constant) → key_type c ≡ Some k → IfOk (key_in (constant_of c)) (λ y. IsOf (scalar_of k) (single_of y))
key_kind k Null e = none_some e
key_kind k (Truth b) e = key_as (the_key.Bool b) e a_bool
key_kind k (Whole n) e = key_as (the_key.Int n) e an_int
key_kind k (Bytes s) e = key_as (the_key.Text s) e a_text

every_insert : {k : KeyType} {w : Scalar} {es : List (Key × Single)} → Every (IsEntry k w) es → (y : Key) (x : Single) → IsOf (scalar_of k) (single_of y) → IsOf w x → Every (IsEntry k w) (insert_entry key_cmp es y x)
every_insert no_more y x p q = first (record { key = p; value = q }) no_more
every_insert {k = k} {w = w} (first {x = e} {xs = es} h hs) y x p q =
    elim (key_cmp y e.0) as (λ o. Every (IsEntry k w) (match_ordering o ((y, x) ∷ e ∷ es) ((e.0, x) ∷ es) (e ∷ insert_entry key_cmp es y x)))
    [ Less ↦ first (record { key = p; value = q }) (first h hs) | Equal ↦ first (record { key = h.key; value = q }) hs | Greater ↦ first h (every_insert hs y x p q) ]

-- ---- the induction over the rules of types

mutual
  unfolding ItemsAre KeysAre

  pub kind_of : (d : Device) {names : Names} {t : Ast} {k : CelType} → HasType names t k → (bs : Bindings) → Agree names bs → IfOk (means d bs t) (HasKind k)
  kind_of d (literal c) bs a = constant_kind c
  kind_of d (name {x = x} e) bs a = name_kind x a e
  kind_of d (unary {op = o} {t = t} {k = k} {l = l} h e) bs a = after (HasKind l) (means d bs t) (unary_of o) (λ x. unary_kind o k l x e)
  kind_of d (binary {op = o} {t = t} {u = u} {k = k} {l = l} {m = m} h i e) bs a = operation_kind d o k l m (means d bs t) (means d bs u) e (kind_of d h bs a) (kind_of d i bs a)
  kind_of d (conditional {t = t} {u = u} {v = v} {k = k} {l = l} {m = m} {n = n} h i j e) bs a =
      choice_kind n (tested (means d bs t)) (means d bs u) (means d bs v)
      (ok_if (HasKind l) (HasKind n) (means d bs u) (λ x p. then_kind k l m n x e p) (kind_of d i bs a))
      (ok_if (HasKind m) (HasKind n) (means d bs v) (λ x p. else_kind k l m n x e p) (kind_of d j bs a))
  kind_of d (of_device {span = span} {t = t} {f = f} {k = k} b e) bs a = rw (sym (same_device a t) ∙ b) (device_kind d span f k e)
  kind_of d (member {t = t} {f = f} {k = k} {l = l} b h e) bs a =
      rw (sym (same_device a t) ∙ b) (on (HasKind k) (HasKind l) (means d bs t) (λ x. member_of d x f) (kind_of d h bs a) (λ x p. member_kind d k l x f p e))
  kind_of d (index {t = t} {u = u} {k = k} {l = l} {m = m} h i e) bs a =
      on (HasKind k) (HasKind m) (means d bs t) (λ x. means d bs u >>= λ y. index_of d x y) (kind_of d h bs a)
      (λ x p. after (HasKind m) (means d bs u) (λ y. index_of d x y) (λ y. index_kind d k l m x y p e))
  kind_of d (has {t = t} {f = f} w b h e) bs a = rw w (has_kind d (is_device bs t) (means d bs t) f)
  kind_of d (call {f = f} {ts = ts} {given = given} {k = k} w hs e) bs a =
      rw w (after (HasKind k) (each d bs ts) (λ xs. call_of d f xs) (λ xs. call_kind d f given k xs e))
  kind_of d (method {t = t} {f = f} {ts = ts} {given = given} {k = k} {l = l} b w h hs e) bs a =
      rw (b, w) (after (HasKind l) (means d bs t) (λ x. each d bs ts >>= λ xs. method_of d f x xs)
      (λ x. after (HasKind l) (each d bs ts) (λ xs. method_of d f x xs) (λ xs. method_kind d f k given l x xs e)))
  kind_of d (comprehension {span = span} {t = t} {x = x} {c = c} {e = e} {ts = ts} {k = k} {l = l} b w h r hs g) bs a =
      rw (b, w) (on (HasKind k) (HasKind l) (means d bs t) (λ v. elements_of d v >>= λ xs. comprehended c (bodies_of d bs x ts) xs) (kind_of d h bs a)
      (λ v p. on (Every (IsOf e)) (HasKind l) (elements_of d v) (λ xs. comprehended c (bodies_of d bs x ts) xs) (elements_kind d e v p r)
      (λ xs q. comprehended_kind span c e l xs (bodies_kind d hs x e bs (λ y s. bound (of_scalar s) a)) g q)))
  kind_of d (bind {u = u} {v = v} {x = x} {k = k} {l = l} b h i) bs a =
      rw b (on (HasKind k) (HasKind l) (means d bs u) (λ y. means d ((x, y) ∷ bs) v) (kind_of d h bs a) (λ y p. kind_of d i ((x, y) ∷ bs) (bound p a)))
  kind_of d (list {ts = ts} {items = items} hs) bs a =
      on (ItemsAre items) (HasKind (typing.list_type items)) (items_of d bs ts) (λ xs. Ok (the_value.List xs)) (items_kind d hs bs a) (λ xs p. items_list items xs p)
  kind_of d (map {es = es} {values = vs} hs) bs a =
      let k = keys_type es in
      let w = unwrap_or vs scalar.Dyn in
      on (Every (IsEntry k w)) (HasKind (kind.Map k w)) (entries_of d bs [] es) (λ table. Ok (the_value.Map table))
      (values_kind d hs bs a k w refl (under_all vs) [] no_more) (λ table p. of_map p)

  bodies_kind : (d : Device) {names : Names} {ts : Asts} {given : Arguments} → HaveTypes names ts given → (x : List ℕ) (e : Scalar) (bs : Bindings) →
      ((y : Single) → IsOf e y → Agree names (bound_to x y bs)) → Yield e (bodies_of d bs x ts) given
  bodies_kind d no_argument x e bs a = no_body
  bodies_kind d (argument {k = k} h hs) x e bs a = body k (λ y p. kind_of d h (bound_to x y bs) (a y p)) (bodies_kind d hs x e bs a)

  items_kind : (d : Device) {names : Names} {ts : Asts} {items : Option Scalar} → HaveItems names ts items → (bs : Bindings) → Agree names bs → IfOk (items_of d bs ts) (ItemsAre items)
  items_kind d no_item bs a = refl
  items_kind d (item {t = t} {ts = ts} {s = s} {rest = rest} h hs) bs a =
      on (IsOf s) (ItemsAre (Some (joined s rest))) (as_single (means d bs t)) (λ x. items_of d bs ts >>= λ xs. Ok (x ∷ xs)) (as_single_kind s (means d bs t) (kind_of d h bs a))
      (λ x p. on (ItemsAre rest) (ItemsAre (Some (joined s rest))) (items_of d bs ts) (λ xs. Ok (x ∷ xs)) (items_kind d hs bs a) (λ xs q. item_kind s rest x xs p q))

  values_kind : (d : Device) {names : Names} {earlier : List Constant} {es : Entries} {vs : Option Scalar} → HaveValues names earlier es vs → (bs : Bindings) → Agree names bs →
      (k : KeyType) (w : Scalar) → KeysAre k earlier es → Under vs w → (before : List (Key × Single)) → Every (IsEntry k w) before → IfOk (entries_of d bs before es) (Every (IsEntry k w))
  values_kind d no_value bs a k w keys under before ps = ps
  values_kind d (value {earlier = earlier} {place = place} {c = c} {t = t} {es = es} {s = s} {rest = rest} some others h hs) bs a k w keys under before ps =
      let here : key_type c ≡ Some k = keys_here k earlier place c t es keys some others in
      on (λ y. IsOf (scalar_of k) (single_of y)) (Every (IsEntry k w)) (key_in (constant_of c)) (λ y. as_single (means d bs t) >>= λ x. entries_of d bs (insert_entry key_cmp before y x) es) (key_kind k c here)
      (λ y p. on (IsOf s) (Every (IsEntry k w)) (as_single (means d bs t)) (λ x. entries_of d bs (insert_entry key_cmp before y x) es) (as_single_kind s (means d bs t) (kind_of d h bs a))
      (λ x q. values_kind d hs bs a k w (keys_next k earlier c es (Pair (Node place (Literal' c)) t es) keys here) (under_rest s rest w under) (insert_entry key_cmp before y x) (every_insert ps y x p (under_first s rest w under x q))))
