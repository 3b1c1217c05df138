-- The type in the bounds of a tree is the tree's type.
use Rattle.std.proofs.Common.{◌≡◌, ℕ, List, [], ◌∷◌, Bool, true, false, Option, Some, None, refl, ap, sym, ◌∙◌}
use Rattle.std.specs.Prelude.{option_map, unwrap_or, if◌then◌else◌, ◌&&◌, codes}
use Rattle.std.specs.Str.{bytes_eq}
use Rattle.cel_tree.specs.declared.types.Scalar.{Scalar}
use Rattle.cel_tree.specs.declared.types.Scalar.TheVariants as scalar
use Rattle.cel_tree.specs.declared.types.CelType.{CelType}
use Rattle.cel_tree.specs.declared.types.CelType.TheVariants as kind
use Rattle.cel_tree.specs.declared.calls.Arguments.{Arguments}
use Rattle.cel_tree.specs.Ast.{Ast, Asts, Entries, Constant}
use Rattle.cel_tree.specs.Types.{unary_type, binary_type, conditional_type, index_type, member_type}
use Rattle.cel_tree.specs.Calls.{call_type, method_type}
use Rattle.cel_tree.specs.Faults.{row, joined, comprehension_type}
use Rattle.cel_tree.specs.Scopes.{look_up, is_none, is_ident, is_device}
use Rattle.cel_tree.specs.Typing.{is_bind, with_first, device_type}
use Rattle.cel_tree.specs.Typing as typing
use Rattle.cel_tree.specs.HasType.{HasType, HaveTypes, HaveItems, HaveValues, literal, name, unary, binary, conditional, of_device, member, index, has, call, method, comprehension, bind, list, map, no_argument, argument, no_item, item, no_value, value}
use Rattle.cel_tree.specs.Estimate.{Bounds, Names, kinds, typed, bounds_of, each, values_of, arguments_of, elements_type, scalar_in, element_of, constant_bounds, name_bounds, unary_bounds, binary_bounds, conditional_bounds, member_bounds, index_bounds, device_bounds, plain_bounds, has_bounds, element_bounds, comprehension_bounds, bind_bounds, list_bounds, map_bounds}

look_kind : (x : List ℕ) (env : Names) → look_up x (kinds env) ≡ option_map (λ (b : Bounds). b.kind) (look_up x env)
look_kind x [] = refl
look_kind x (b ∷ bs) =
    elim (bytes_eq b.0 x) as (λ t. (if t then Some b.1.kind else look_up x (kinds bs)) ≡ option_map (λ (b : Bounds). b.kind) (if t then Some b.1 else look_up x bs))
    [ true ↦ refl | false ↦ look_kind x bs ]

name_kind : (o : Option Bounds) (k : CelType) → option_map (λ (b : Bounds). b.kind) o ≡ Some k → (name_bounds o).kind ≡ k
unfolding name_bounds
name_kind None k e = absurd (cc)
name_kind (Some b) k e = cc

none_kind : (o : Option Bounds) → is_none (option_map (λ (b : Bounds). b.kind) o) ≡ is_none o
none_kind None = refl
none_kind (Some b) = refl

device_kind : (env : Names) (ts : typing.Names) → ts ≡ kinds env → (t : Ast) → is_device ts t ≡ is_device env t
device_kind env ts e t =
    ap (λ (b : Bool). is_ident (codes "device") t && b) (ap (λ (n : typing.Names). is_none (look_up (codes "device") n)) e ∙ ap is_none (look_kind (codes "device") env) ∙ none_kind (look_up (codes "device") env))

mutual
  unfolding constant_bounds name_bounds unary_bounds binary_bounds conditional_bounds member_bounds index_bounds device_bounds plain_bounds has_bounds element_bounds comprehension_bounds bind_bounds list_bounds map_bounds

  pub kind_is : (env : Names) (ts : typing.Names) → ts ≡ kinds env → (t : Ast) (k : CelType) → HasType ts t k → (bounds_of env t).kind ≡ k
  kind_is env ts e _ _ (literal c) = refl
  kind_is env ts e _ k (name {x = x} p) =
      name_kind (look_up x env) k (sym (ap (λ (n : typing.Names). look_up x n) e ∙ look_kind x env) ∙ p)
  kind_is env ts e _ _ (unary {span = s} {op = o} {t = t} {k = k} d p) =
      ap (λ (j : CelType). typed (row s (unary_type o j))) (kind_is env ts e t k d) ∙ ap (λ (r : Option CelType). typed (row s r)) p
  kind_is env ts e _ _ (binary {span = s} {op = o} {t = t} {u = u} {k = k} {l = l} d f p) =
      (λ i. typed (row s (binary_type o (kind_is env ts e t k d i) (kind_is env ts e u l f i)))) ∙ ap (λ (r : Option CelType). typed (row s r)) p
  kind_is env ts e _ _ (conditional {span = s} {t = t} {u = u} {v = v} {k = k} {l = l} {m = m} d f g p) =
      (λ i. typed (row s (conditional_type (kind_is env ts e t k d i) (kind_is env ts e u l f i) (kind_is env ts e v m g i)))) ∙ ap (λ (r : Option CelType). typed (row s r)) p
  kind_is env ts e _ _ (of_device {span = s} {t = t} {f = f} p q) =
      rw (sym (device_kind env ts e t) ∙ p) (ap typed q)
  kind_is env ts e _ _ (member {span = s} {t = t} {k = k} p d q) =
      rw (sym (device_kind env ts e t) ∙ p) (ap (λ (j : CelType). typed (row s (member_type j))) (kind_is env ts e t k d) ∙ ap (λ (r : Option CelType). typed (row s r)) q)
  kind_is env ts e _ _ (index {span = s} {t = t} {u = u} {k = k} {l = l} d f p) =
      (λ i. typed (row s (index_type (kind_is env ts e t k d i) (kind_is env ts e u l f i)))) ∙ ap (λ (r : Option CelType). typed (row s r)) p
  kind_is env ts e _ _ (has p q d r) = rw p refl
  kind_is env ts e _ _ (call {span = s} {f = f} {ts = us} {given = given} p d q) =
      rw p (ap (λ (g : Arguments). typed (row s (call_type f g))) (arguments_are env ts e us given d) ∙ ap (λ (r : Option CelType). typed (row s r)) q)
  kind_is env ts e _ _ (method {span = s} {t = t} {f = f} {ts = us} {given = given} {k = k} b p d g q) =
      rw (b, p) ((λ i. typed (row s (method_type f (kind_is env ts e t k d i) (arguments_are env ts e us given g i)))) ∙ ap (λ (r : Option CelType). typed (row s r)) q)
  kind_is env ts e _ _ (comprehension {span = s} {t = t} {x = x} {c = c} {e = el} {ts = us} {bodies = bodies} {k = k} b p d q g r) =
      let range = bounds_of env t in
      let element : element_of range.kind ≡ el = ap element_of (kind_is env ts e t k d) ∙ ap (λ (o : Option Scalar). unwrap_or o scalar.Dyn) q in
      let inner : Names = (x, element_bounds range) ∷ env in
      let within : (x, kind.Scalar el) ∷ ts ≡ kinds inner = (λ i. (x, kind.Scalar (sym element i)) ∷ e i) in
      rw (b, p) ((λ i. typed (comprehension_type s c (element i) (arguments_are inner ((x, kind.Scalar el) ∷ ts) within us bodies g i))) ∙ ap typed r)
  kind_is env ts e _ _ (bind {t = t} {u = u} {v = v} {x = x} {k = k} {l = l} b d f) =
      let inner : Names = (x, bounds_of env u) ∷ env in
      let within : (x, k) ∷ ts ≡ kinds inner = (λ i. (x, sym (kind_is env ts e u k d) i) ∷ e i) in
      rw b (kind_is inner ((x, k) ∷ ts) within v l f)
  kind_is env ts e _ _ (list {ts = us} {items = items} d) =
      ap (λ (o : Option Scalar). kind.List (unwrap_or o scalar.Dyn)) (items_are env ts e us items d)
  kind_is env ts e _ _ (map {es = es} {values = values} d) =
      ap (λ (o : Option Scalar). kind.Map (typing.keys_type es) (unwrap_or o scalar.Dyn)) (values_are env ts e [] es values d)

  arguments_are : (env : Names) (ts : typing.Names) → ts ≡ kinds env → (us : Asts) (given : Arguments) → HaveTypes ts us given → arguments_of (each env us) ≡ given
  arguments_are env ts e _ _ no_argument = refl
  arguments_are env ts e _ _ (argument {t = t} {ts = us} {k = k} {given = given} d f) =
      (λ i. with_first (kind_is env ts e t k d i) (arguments_are env ts e us given f i))

  items_are : (env : Names) (ts : typing.Names) → ts ≡ kinds env → (us : Asts) (items : Option Scalar) → HaveItems ts us items → elements_type (each env us) ≡ items
  items_are env ts e _ _ no_item = refl
  items_are env ts e _ _ (item {t = t} {ts = us} {s = s} {rest = rest} d f) =
      (λ i. Some (joined (scalar_in (kind_is env ts e t (kind.Scalar s) d i)) (items_are env ts e us rest f i)))

  values_are : (env : Names) (ts : typing.Names) → ts ≡ kinds env → (earlier : List Constant) (es : Entries) (values : Option Scalar) → HaveValues ts earlier es values → elements_type (values_of env es) ≡ values
  values_are env ts e _ _ _ no_value = refl
  values_are env ts e _ _ _ (value {t = t} {es = es} {s = s} {rest = rest} p q d f) =
      (λ i. Some (joined (scalar_in (kind_is env ts e t (kind.Scalar s) d i)) (values_are env ts e _ es rest f i)))
