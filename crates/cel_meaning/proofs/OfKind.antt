-- Each operation returns values of the type that the tables state.
use Rattle.std.proofs.Common.{◌≡◌, ◌==◌, rules, ℕ, ℤ, pos, negsuc, neg_ℤ, ◌+ℤ◌, List, [], ◌∷◌, ◌++◌, map, Bool, true, false, ◌&&◌, ◌||◌, Option, Some, None, slice_get, IfOk, Result, Ok, Err, subst, sym, ap, ◌∙◌, refl, if◌then◌else◌, option_map, codes, bytes_eq}
use Rattle.std.specs.Map.{keys_of}
use Rattle.std.specs.BTreeMap.{is_at}
use Rattle.cel_tree.specs.declared.tree.Span.{Span}
use Rattle.cel_tree.specs.declared.tree.UnaryOp.{UnaryOp}
use Rattle.cel_tree.specs.declared.tree.UnaryOp.TheVariants.{Not, Negate}
use Rattle.cel_tree.specs.declared.types.Scalar.{Scalar}
use Rattle.cel_tree.specs.declared.types.Scalar.TheVariants as scalar
use Rattle.cel_tree.specs.declared.types.KeyType.{KeyType}
use Rattle.cel_tree.specs.declared.types.KeyType.TheVariants as key
use Rattle.cel_tree.specs.declared.types.Facet.{Facet}
use Rattle.cel_tree.specs.declared.types.Facet.TheVariants.{Attributes, Capacities}
use Rattle.cel_tree.specs.declared.types.CelType.{CelType}
use Rattle.cel_tree.specs.declared.types.CelType.TheVariants as kind
use Rattle.cel_tree.specs.declared.fault.Fault.{Fault}
use Rattle.cel_tree.specs.declared.fault.Fault.TheVariants.{NoSuchName}
use Rattle.cel_tree.specs.Ast.{Constant, Null, Truth, Whole, Bytes}
use Rattle.cel_tree.specs.Types.{int, bool, string, any, unary_type, accepts, when, is_dyn, same_scalar, same_facet, scalar_rank, scalar_of, sum_type, add_type, branch_type, conditional_type, entry_type, member_type, index_type, element_type}
use Rattle.cel_tree.specs.Typing.{constant_type, device_type}
use Rattle.cel_value.specs.declared.error.EvalError.{EvalError}
use Rattle.cel_value.specs.declared.error.EvalError.TheVariants.{NoKey, NoOverload, Overflow, OutOfRange}
use Rattle.cel_value.specs.declared.value.Single.{Single}
use Rattle.cel_value.specs.declared.value.Single.TheVariants as single
use Rattle.cel_value.specs.declared.value.Key.{Key}
use Rattle.cel_value.specs.declared.value.Value.{Value}
use Rattle.cel_value.specs.declared.value.Value.TheVariants as value
use Rattle.cel_value.specs.Values as values
use Rattle.cel_value.specs.Values.{◌>>=◌, fits, whole, constant_of, single_in, single_of}
use Rattle.cel_value.specs.Operators.{not_of, negated, unary_of, single_sum, add_of}
use Rattle.cel_value.specs.Lookups.{key_cmp, at_key, at_name, full_name, text_from, found, element_at, element_of, part_of, device_member_of, member_of, index_of, domains_of, ids_of, elements_of}
use Rattle.cel_value.specs.Device.{Device}
use Rattle.cel_meaning.specs.HasKind.{Every, no_more, first, IsOf, a_null, a_bool, an_int, a_text, a_quantity, anything, IsEntry, HasKind, of_scalar, of_list, of_map, of_domains, of_entries}
use Rattle.cel_meaning.proofs.Every.{some_inj, none_some, after, either, every_append, every_get, every_lookup}

-- ---- tables of types

pub as_kind : {k m : CelType} (r : Result Value EvalError) → Some k ≡ Some m → IfOk r (HasKind k) → IfOk r (HasKind m)
as_kind r e h = subst (λ (j : CelType). IfOk r (HasKind j)) (some_inj e) h

pub when_is : (b : Bool) (k m : CelType) → when b k ≡ Some m → Some k ≡ Some m
when_is true k m e = e
when_is false k m e = none_some e

pub when_true : (b : Bool) (k m : CelType) → when b k ≡ Some m → b ≡ true
when_true true k m e = refl
when_true false k m e = none_some e

pub when_kind : (b : Bool) (k m : CelType) (r : Result Value EvalError) → when b k ≡ Some m → IfOk r (HasKind k) → IfOk r (HasKind m)
when_kind b k m r e h = as_kind r (when_is b k m e) h

-- ---- values that hold no others

pub truths : {A : Type 0} (r : Result A EvalError) (f : A → Bool) → IfOk (r >>= λ x. Ok (values.truth (f x))) (HasKind bool)
truths r f = after (HasKind bool) r (λ x. Ok (values.truth (f x))) (λ x. of_scalar a_bool)

pub whole_kind : (n : ℤ) → IfOk (whole n) (HasKind int)
whole_kind n = either (HasKind int) (fits n) (Ok (values.int n)) (Err Overflow) (of_scalar an_int) tt

pub constant_kind : (c : Constant) → HasKind (constant_type c) (constant_of c)
constant_kind Null = of_scalar a_null
constant_kind (Truth b) = of_scalar a_bool
constant_kind (Whole n) = of_scalar an_int
constant_kind (Bytes s) = of_scalar a_text

not_kind : (x : Single) → IfOk (not_of x) (HasKind bool)
not_kind single.Null = tt
not_kind (single.Bool b) = of_scalar a_bool
not_kind (single.Int n) = tt
not_kind (single.Text s) = tt
not_kind (single.Quantity n) = tt
not_kind (single.Version v) = tt

negated_kind : (x : Single) → IfOk (negated x) (HasKind int)
negated_kind single.Null = tt
negated_kind (single.Bool b) = tt
negated_kind (single.Int n) = whole_kind (neg_ℤ n)
negated_kind (single.Text s) = tt
negated_kind (single.Quantity n) = tt
negated_kind (single.Version v) = tt

pub unary_kind : (o : UnaryOp) (k m : CelType) (x : Value) → unary_type o k ≡ Some m → IfOk (unary_of o x) (HasKind m)
unary_kind Not k m x e = when_kind (accepts scalar.Bool k) bool m (unary_of Not x) e (after (HasKind bool) (single_in x) not_of not_kind)
unary_kind Negate k m x e = when_kind (accepts scalar.Int k) int m (unary_of Negate x) e (after (HasKind int) (single_in x) negated negated_kind)

-- ---- one scalar type as another

of_rank : ℕ → Scalar
of_rank n =
    if n == 0 then scalar.Int else (if n == 1 then scalar.Bool else (if n == 2 then scalar.Text else (if n == 3 then scalar.Null
    else (if n == 4 then scalar.Quantity else (if n == 5 then scalar.Semver else scalar.Dyn)))))

rank_back : (s : Scalar) → of_rank (scalar_rank s) ≡ s
unfolding of_rank
rank_back scalar.Int = refl
rank_back scalar.Bool = refl
rank_back scalar.Text = refl
rank_back scalar.Null = refl
rank_back scalar.Quantity = refl
rank_back scalar.Semver = refl
rank_back scalar.Dyn = refl

pub same_is : (s t : Scalar) → same_scalar s t ≡ true → s ≡ t
same_is s t e =
    let n : scalar_rank s ≡ scalar_rank t = search (rules, e) in
    sym (rank_back s) ∙ ap of_rank n ∙ rank_back t

pub every_same : (s t : Scalar) → same_scalar s t ≡ true → {xs : List Single} → Every (IsOf t) xs → Every (IsOf s) xs
every_same s t e {xs = xs} h = subst (λ (r : Scalar). Every (IsOf r) xs) (sym (same_is s t e)) h

-- ---- `+`

as_any : (x : Value) → HasKind int x → HasKind any x
as_any _ (of_scalar p) = of_scalar anything

two_ints : {s t : Scalar} {m : CelType} (a b : ℤ) (r : Result Value EvalError) → IsOf s (single.Int a) → IsOf t (single.Int b) → sum_type s t ≡ Some m → IfOk r (HasKind int) → IfOk r (HasKind m)
two_ints a b r an_int an_int e h = as_kind r e h
two_ints a b r an_int anything e h = as_kind r e h
two_ints a b r anything an_int e h = as_kind r e h
two_ints a b (Ok x) anything anything e h = as_kind (Ok x) e (as_any x h)
two_ints a b (Err f) anything anything e h = tt

two_texts : {s t : Scalar} {m : CelType} (a b c : List ℕ) → IsOf s (single.Text a) → IsOf t (single.Text b) → sum_type s t ≡ Some m → HasKind m (values.text c)
two_texts a b c a_text a_text e = subst (λ (j : CelType). HasKind j (values.text c)) (some_inj e) (of_scalar a_text)
two_texts a b c a_text anything e = subst (λ (j : CelType). HasKind j (values.text c)) (some_inj e) (of_scalar a_text)
two_texts a b c anything a_text e = subst (λ (j : CelType). HasKind j (values.text c)) (some_inj e) (of_scalar a_text)
two_texts a b c anything anything e = subst (λ (j : CelType). HasKind j (values.text c)) (some_inj e) (of_scalar anything)

sum_kind : {s t : Scalar} (m : CelType) (x y : Single) → IsOf s x → IsOf t y → sum_type s t ≡ Some m → IfOk (single_sum x y) (HasKind m)
sum_kind m (single.Int a) (single.Int b) p q e = two_ints a b (whole (a +ℤ b)) p q e (whole_kind (a +ℤ b))
sum_kind m (single.Text a) (single.Text b) p q e = two_texts a b (a ++ b) p q e
sum_kind m x y p q e = tt

pub add_kind : {k l : CelType} (m : CelType) (x y : Value) → HasKind k x → HasKind l y → add_type k l ≡ Some m → IfOk (add_of x y) (HasKind m)
add_kind m _ _ (of_scalar {x = x} p) (of_scalar {x = y} q) e = sum_kind m x y p q e
add_kind m _ _ (of_list {s = s} {xs = xs} p) (of_list {s = t} {xs = ys} q) e = when_kind (same_scalar s t) (kind.List s) m (Ok (value.List (xs ++ ys))) e (of_list (every_append p (every_same s t (when_true (same_scalar s t) (kind.List s) m e) q)))
add_kind m _ _ p q e = tt

-- ---- parts

-- the type of a part of a value
unfoldable pub part_type : CelType → Option CelType
part_type (kind.Scalar s) = None
part_type (kind.List s) = Some (kind.Scalar s)
part_type (kind.Map k v) = Some (kind.Scalar v)
part_type (kind.Domains f) = Some (kind.Entries f)
part_type (kind.Entries f) = Some (entry_type f)

pub index_part : (k l m : CelType) → index_type k l ≡ Some m → part_type k ≡ Some m
unfolding part_type
index_part (kind.Scalar s) l m e = none_some e
index_part (kind.List s) l m e = when_is (accepts scalar.Int l) (kind.Scalar s) m e
index_part (kind.Map k v) l m e = when_is (accepts (scalar_of k) l) (kind.Scalar v) m e
index_part (kind.Domains f) l m e = when_is (accepts scalar.Text l) (kind.Entries f) m e
index_part (kind.Entries f) l m e = when_is (accepts scalar.Text l) (entry_type f) m e

pub member_part : (k m : CelType) → member_type k ≡ Some m → part_type k ≡ Some m
unfolding part_type
member_part (kind.Scalar s) m e = none_some e
member_part (kind.List s) m e = none_some e
member_part (kind.Map k v) m e = when_is (same_scalar (scalar_of k) scalar.Text) (kind.Scalar v) m e
member_part (kind.Domains f) m e = e
member_part (kind.Entries f) m e = e

pub found_kind : (s : Scalar) (e : EvalError) (o : Option Single) → ((x : Single) → o ≡ Some x → IsOf s x) → IfOk (found e o) (HasKind (kind.Scalar s))
found_kind s e None h = tt
found_kind s e (Some x) h = of_scalar (h x refl)

at_kind : {s : Scalar} {xs : List Single} → Every (IsOf s) xs → (n : ℤ) → IfOk (element_at n xs) (HasKind (kind.Scalar s))
at_kind {s = s} {xs = xs} p (pos n) = found_kind s OutOfRange (slice_get xs n) (λ x e. every_get p n x e)
at_kind p (negsuc n) = tt

element_kind : {s : Scalar} {xs : List Single} → Every (IsOf s) xs → (i : Single) → IfOk (element_of i xs) (HasKind (kind.Scalar s))
element_kind p single.Null = tt
element_kind p (single.Bool b) = tt
element_kind p (single.Int n) = at_kind p n
element_kind p (single.Text s) = tt
element_kind p (single.Quantity n) = tt
element_kind p (single.Version v) = tt

quantity_at : (o : Option ℤ) (x : Single) → option_map single.Quantity o ≡ Some x → IsOf scalar.Quantity x
quantity_at None x e = none_some e
quantity_at (Some n) x e = subst (IsOf scalar.Quantity) (some_inj e) a_quantity

name_kind : (d : Device) (f : Facet) (domain id : List ℕ) → IfOk (found NoKey (at_name d f (full_name domain id))) (HasKind (entry_type f))
name_kind d Attributes domain id = found_kind scalar.Dyn NoKey (at_name d Attributes (full_name domain id)) (λ x e. anything)
name_kind d Capacities domain id = found_kind scalar.Quantity NoKey (at_name d Capacities (full_name domain id)) (λ x e. quantity_at _ x e)

key_kind : {k : KeyType} {v : Scalar} {es : List (Key × Single)} → Every (IsEntry k v) es → (y : Key) → IfOk (found NoKey (at_key y es)) (HasKind (kind.Scalar v))
key_kind {k = k} {v = v} {es = es} p y =
    found_kind v NoKey (at_key y es) (λ x e. every_lookup (IsEntry k v) (IsOf v) (λ e q. q.value) p (is_at (key_cmp y)) x e)

pub part_kind : (d : Device) {k : CelType} (m : CelType) (x : Value) → HasKind k x → part_type k ≡ Some m → (i : Single) → IfOk (part_of d x i) (HasKind m)
unfolding part_type
part_kind d m _ (of_scalar p) e i = tt
part_kind d m _ (of_list {xs = xs} p) e i = as_kind (element_of i xs) e (element_kind p i)
part_kind d m _ (of_map {v = v} {es = es} p) e i =
    as_kind (part_of d (value.Map es) i) e (after (HasKind (kind.Scalar v)) (values.key_from i) (λ y. found NoKey (at_key y es)) (λ y. key_kind p y))
part_kind d m _ (of_domains {f = f}) e i =
    as_kind (part_of d (value.Domains f) i) e (after (HasKind (kind.Entries f)) (text_from i) (λ domain. Ok (value.Entries f domain)) (λ y. of_entries))
part_kind d m _ (of_entries {f = f} {domain = domain}) e i =
    as_kind (part_of d (value.Entries f domain) i) e
    (after (HasKind (entry_type f)) (text_from i) (λ id. found NoKey (at_name d f (full_name domain id))) (λ id. name_kind d f domain id))

pub index_kind : (d : Device) (k l m : CelType) (x i : Value) → HasKind k x → index_type k l ≡ Some m → IfOk (index_of d x i) (HasKind m)
index_kind d k l m x i h e = after (HasKind m) (single_in i) (part_of d x) (λ j. part_kind d m x h (index_part k l m e) j)

pub member_kind : (d : Device) (k m : CelType) (x : Value) (name : List ℕ) → HasKind k x → member_type k ≡ Some m → IfOk (member_of d x name) (HasKind m)
member_kind d k m x name h e = part_kind d m x h (member_part k m e) (single.Text name)

keys_kind : {k : KeyType} {v : Scalar} {es : List (Key × Single)} → Every (IsEntry k v) es → Every (IsOf (scalar_of k)) (map single_of (keys_of es))
keys_kind no_more = no_more
keys_kind (first p ps) = first p.key (keys_kind ps)

texts_kind : (xs : List (List ℕ)) → Every (IsOf scalar.Text) (map single.Text xs)
texts_kind [] = no_more
texts_kind (x ∷ xs) = first a_text (texts_kind xs)

pub as_elements : {t s : Scalar} (xs : List Single) → Some t ≡ Some s → Every (IsOf t) xs → Every (IsOf s) xs
as_elements xs e p = subst (λ (r : Scalar). Every (IsOf r) xs) (some_inj e) p

-- the elements of what a comprehension goes over
pub elements_kind : (d : Device) {k : CelType} (s : Scalar) (x : Value) → HasKind k x → element_type k ≡ Some s → IfOk (elements_of d x) (Every (IsOf s))
elements_kind d s _ (of_scalar p) e = tt
elements_kind d s _ (of_list {xs = xs} p) e = as_elements xs e p
elements_kind d s _ (of_map {es = es} p) e = as_elements (map single_of (keys_of es)) e (keys_kind p)
elements_kind d s _ (of_domains {f = f}) e = as_elements (map single.Text (domains_of d f)) e (texts_kind (domains_of d f))
elements_kind d s _ (of_entries {f = f} {domain = domain}) e = as_elements (map single.Text (ids_of d f domain)) e (texts_kind (ids_of d f domain))

-- ---- choices

as_type : {k m : CelType} {x : Value} → Some k ≡ Some m → HasKind k x → HasKind m x
as_type {x = x} e h = subst (λ (j : CelType). HasKind j x) (some_inj e) h

-- one type, or dyn
either_type : Scalar → Scalar → Bool → Option CelType
either_type s t same = if same then Some (kind.Scalar s) else when (is_dyn s || is_dyn t) any

scalar_left : (s t : Scalar) (n : CelType) (x : Single) → IsOf s x → (same : Bool) → either_type s t same ≡ Some n → HasKind n (value.Single x)
unfolding either_type
scalar_left s t n x p true e = as_type e (of_scalar p)
scalar_left s t n x p false e = as_type (when_is (is_dyn s || is_dyn t) any n e) (of_scalar anything)

scalar_right : (s t : Scalar) (n : CelType) (x : Single) → IsOf t x → (same : Bool) → same_scalar s t ≡ same → either_type s t same ≡ Some n → HasKind n (value.Single x)
unfolding either_type
scalar_right s t n x p true d e = as_type e (of_scalar (subst (λ (r : Scalar). IsOf r x) (sym (same_is s t d)) p))
scalar_right s t n x p false d e = as_type (when_is (is_dyn s || is_dyn t) any n e) (of_scalar anything)

branch_left : {l : CelType} (m n : CelType) (x : Value) → HasKind l x → branch_type l m ≡ Some n → HasKind n x
unfolding either_type
branch_left (kind.Scalar t) n _ (of_scalar {s = s} {x = x} p) e = scalar_left s t n x p (same_scalar s t) e
branch_left (kind.List t) n _ (of_list {s = s} {xs = xs} p) e = as_type (when_is (same_scalar s t) (kind.List s) n e) (of_list p)
branch_left (kind.Map l w) n _ (of_map {k = k} {v = v} p) e = as_type (when_is (same_scalar (scalar_of k) (scalar_of l) && same_scalar v w) (kind.Map k v) n e) (of_map p)
branch_left (kind.Domains g) n _ (of_domains {f = f}) e = as_type (when_is (same_facet f g) (kind.Domains f) n e) of_domains
branch_left (kind.Entries g) n _ (of_entries {f = f}) e = as_type (when_is (same_facet f g) (kind.Entries f) n e) of_entries
branch_left m n x p e = none_some e

ok_inj : {x y : CelType} → ◌≡◌ {A = Result CelType Fault} (Ok x) (Ok y) → x ≡ y
ok_inj e = cc

-- one facet, one type of keys
facet_same : (f g : Facet) → same_facet f g ≡ true → f ≡ g
facet_same Attributes Attributes e = refl
facet_same Attributes Capacities e = absurd (cc)
facet_same Capacities Attributes e = absurd (cc)
facet_same Capacities Capacities e = refl

key_same : (k l : KeyType) → same_scalar (scalar_of k) (scalar_of l) ≡ true → k ≡ l
key_same key.Int key.Int e = refl
key_same key.Bool key.Bool e = refl
key_same key.Text key.Text e = refl
key_same k l e = absurd (cc)

pub both_true : (a b : Bool) → (a && b) ≡ true → (a ≡ true) × (b ≡ true)
both_true true true e = (refl, refl)
both_true a b e = absurd (cc)

branch_right : {m : CelType} (l n : CelType) (x : Value) → HasKind m x → branch_type l m ≡ Some n → HasKind n x
unfolding either_type
branch_right (kind.Scalar s) n _ (of_scalar {s = t} {x = x} p) e = scalar_right s t n x p (same_scalar s t) refl e
branch_right (kind.List s) n _ (of_list {s = t} {xs = xs} p) e =
    as_type (when_is (same_scalar s t) (kind.List s) n e) (of_list (every_same s t (when_true (same_scalar s t) (kind.List s) n e) p))
branch_right (kind.Map k v) n _ (of_map {k = l} {v = w} {es = es} p) e =
    let b = both_true (same_scalar (scalar_of k) (scalar_of l)) (same_scalar v w) (when_true (same_scalar (scalar_of k) (scalar_of l) && same_scalar v w) (kind.Map k v) n e) in
    as_type (when_is (same_scalar (scalar_of k) (scalar_of l) && same_scalar v w) (kind.Map k v) n e)
    (subst (λ (j : CelType). HasKind j (value.Map es)) (λ i. kind.Map (sym (key_same k l b.0) i) (sym (same_is v w b.1) i)) (of_map p))
branch_right (kind.Domains f) n _ (of_domains {f = g}) e =
    as_type (when_is (same_facet f g) (kind.Domains f) n e) (subst (λ (j : CelType). HasKind j (value.Domains g)) (λ i. kind.Domains (sym (facet_same f g (when_true (same_facet f g) (kind.Domains f) n e)) i)) of_domains)
branch_right (kind.Entries f) n _ (of_entries {f = g} {domain = domain}) e =
    as_type (when_is (same_facet f g) (kind.Entries f) n e) (subst (λ (j : CelType). HasKind j (value.Entries g domain)) (λ i. kind.Entries (sym (facet_same f g (when_true (same_facet f g) (kind.Entries f) n e)) i)) of_entries)
branch_right l n x p e = none_some e

branch_is : (b : Bool) (l m n : CelType) → (if b then branch_type l m else None) ≡ Some n → branch_type l m ≡ Some n
branch_is true l m n e = e
branch_is false l m n e = none_some e

pub then_kind : (k l m n : CelType) (x : Value) → conditional_type k l m ≡ Some n → HasKind l x → HasKind n x
then_kind k l m n x e h = branch_left m n x h (branch_is (accepts scalar.Bool k) l m n e)

pub else_kind : (k l m n : CelType) (x : Value) → conditional_type k l m ≡ Some n → HasKind m x → HasKind n x
else_kind k l m n x e h = branch_right l n x h (branch_is (accepts scalar.Bool k) l m n e)

-- ---- members of `device`

driver_kind : (d : Device) (span : Span) (k : CelType) (a b c : Bool) →
    (if a then Ok string else (if b then Ok (kind.Domains Attributes) else (if c then Ok (kind.Domains Capacities) else Err (NoSuchName span)))) ≡ Ok k →
    IfOk {E = EvalError} (if a then Ok (values.text d.driver) else (if b then Ok (value.Domains Attributes) else (if c then Ok (value.Domains Capacities) else Err NoOverload))) (HasKind k)
driver_kind d span k true b c e = subst (λ (j : CelType). HasKind j (values.text d.driver)) (ok_inj e) (of_scalar a_text)
driver_kind d span k false true c e = subst (λ (j : CelType). HasKind j (value.Domains Attributes)) (ok_inj e) of_domains
driver_kind d span k false false true e = subst (λ (j : CelType). HasKind j (value.Domains Capacities)) (ok_inj e) of_domains
driver_kind d span k false false false e = tt

pub device_kind : (d : Device) (span : Span) (name : List ℕ) (k : CelType) → device_type span name ≡ Ok k → IfOk (device_member_of d name) (HasKind k)
device_kind d span name k e = driver_kind d span k (bytes_eq name (codes "driver")) (bytes_eq name (codes "attributes")) (bytes_eq name (codes "capacity")) e
