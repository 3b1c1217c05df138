-- The value of each operation is within its bounds of weight and number.
use Rattle.std.proofs.Common.{◌≡◌, ℕ, ◌+◌, ◌≤◌, ℤ, pos, negsuc, ◌+ℤ◌, List, ◌++◌, map, length, sum_by, Bool, true, false, Option, Some, None, slice_get, IfOk, Result, Ok, Err, sym, ap, refl, arith, if◌then◌else◌, codes, bytes_eq}
use Rattle.std.specs.Map.{keys_of}
use Rattle.std.specs.BTreeMap.{is_at}
use Rattle.std.proofs.lemmas.List.{length-append}
use Rattle.std.proofs.lemmas.List.Sums.{sum_by-append}
use Rattle.cel_tree.specs.declared.tree.Span.{Span}
use Rattle.cel_tree.specs.declared.types.Facet.{Facet}
use Rattle.cel_tree.specs.declared.types.Facet.TheVariants.{Attributes, Capacities}
use Rattle.cel_tree.specs.declared.types.CelType.{CelType}
use Rattle.cel_tree.specs.declared.types.CelType.TheVariants as kind
use Rattle.cel_tree.specs.declared.fault.Fault.{Fault}
use Rattle.cel_tree.specs.declared.fault.Fault.TheVariants.{NoSuchName}
use Rattle.cel_tree.specs.Ast.{Constant, Null, Truth, Whole, Bytes}
use Rattle.cel_tree.specs.Types.{string, entry_type}
use Rattle.cel_tree.specs.Typing.{device_type}
use Rattle.cel_tree.specs.Estimate.{constant_bounds, part_weight, element_weight}
use Rattle.object_fields.specs.declared.qualified.QualName.{QualName}
use Rattle.cel_value.specs.declared.error.EvalError.{EvalError}
use Rattle.cel_value.specs.declared.error.EvalError.TheVariants.{NoKey, NoOverload, Overflow, OutOfRange}
use Rattle.cel_value.specs.declared.value.Single.{Single}
use Rattle.cel_value.specs.declared.value.Single.TheVariants as single
use Rattle.cel_value.specs.declared.value.Key.{Key}
use Rattle.cel_value.specs.declared.value.Value.{Value}
use Rattle.cel_value.specs.declared.value.Value.TheVariants as value
use Rattle.cel_value.specs.Values as values
use Rattle.cel_value.specs.Values.{◌>>=◌, fits, whole, constant_of, single_of, key_from, single_weight, entry_weight, weight_of}
use Rattle.cel_value.specs.Operators.{single_sum, add_of}
use Rattle.cel_value.specs.Lookups.{key_cmp, name_cmp, at_key, at_name, full_name, text_from, found, element_at, element_of, value_at, in_domain, entry_at, part_of, device_member_of, elements_of}
use Rattle.cel_value.specs.Device.{Device}
use Rattle.cel_meaning.specs.HasKind.{Every, HasKind, of_scalar, of_list, of_map, of_domains, of_entries}
use Rattle.cel_meaning.proofs.Every.{some_inj, after, either, ok_if, weaken, every_lookup}
use Rattle.cel_meaning.proofs.OfKind.{part_type}
use Rattle.cel_meaning.proofs.Sums.{get_most, each_most, lookup_most, keys_most, sum_most}
use Rattle.cel_meaning.proofs.Limited.{Limited, domains_weigh, domains_number, ids_weigh, ids_number}
use Rattle.cel_meaning.proofs.AtMost.{AtMost, is_fixed, fixed}

pub more : {d : Device} {w n : ℕ} {v : Value} (x m : ℕ) → AtMost d w n v → w ≤ x → n ≤ m → AtMost d x m v
more x m h p q = record { weight = omega (arith, h.weight); number = omega (arith, h.number) }

pub alone : (d : Device) (w n : ℕ) (x : Single) → single_weight x ≤ w → AtMost d w n (value.Single x)
alone d w n x p = record { weight = p; number = omega arith }

pub constant_most : (d : Device) (c : Constant) → AtMost d (constant_bounds c).weight (constant_bounds c).number (constant_of c)
unfolding constant_bounds
constant_most d Null = alone d 1 0 single.Null (omega arith)
constant_most d (Truth b) = alone d 1 0 (single.Bool b) (omega arith)
constant_most d (Whole n) = alone d 1 0 (single.Int n) (omega arith)
constant_most d (Bytes s) = alone d (1 + length s) 0 (single.Text s) (omega arith)

-- ---- `+`

whole_most : (d : Device) (w n : ℕ) (a : ℤ) → 1 ≤ w → IfOk (whole a) (AtMost d w n)
whole_most d w n a p = either (AtMost d w n) (fits a) (Ok (values.int a)) (Err Overflow) (alone d w n (single.Int a) p) tt

sum_weighs : (d : Device) (x y : Single) (w m n : ℕ) → single_weight x ≤ w → single_weight y ≤ m → IfOk (single_sum x y) (AtMost d (w + m) n)
sum_weighs d (single.Int a) (single.Int b) w m n p q = whole_most d (w + m) n (a +ℤ b) (omega arith)
sum_weighs d (single.Text s) (single.Text t) w m n p q = alone d (w + m) n (single.Text (s ++ t)) (omega (arith, p, q, length-append s t))
sum_weighs d x y w m n p q = tt

pub add_most : (d : Device) (x y : Value) (w n m q : ℕ) → AtMost d w n x → AtMost d m q y → IfOk (add_of x y) (AtMost d (w + m) (n + q))
add_most d (value.Single x) (value.Single y) w n m q h i = sum_weighs d x y w m (n + q) h.weight i.weight
add_most d (value.List xs) (value.List ys) w n m q h i =
    record { weight = omega (arith, h.weight, i.weight, sum_by-append single_weight xs ys); number = omega (arith, h.number, i.number, length-append xs ys) }
add_most d x y w n m q h i = tt

-- ---- members of `device`

as_other : {d : Device} {j k : CelType} {w n : ℕ} {v : Value} → ◌≡◌ {A = Result CelType Fault} (Ok j) (Ok k) → is_fixed j ≡ true → is_fixed k ≡ false → AtMost d w n v
as_other {j = j} {k = k} e a b =
    let f : j ≡ k = cc in
    absurd (cc)

driver_most : (d : Device) → Limited d → (span : Span) (k : CelType) (a b c : Bool) →
    (if a then Ok string else (if b then Ok (kind.Domains Attributes) else (if c then Ok (kind.Domains Capacities) else Err (NoSuchName span)))) ≡ Ok k →
    IfOk {E = EvalError} (if a then Ok (values.text d.driver) else (if b then Ok (value.Domains Attributes) else (if c then Ok (value.Domains Capacities) else Err NoOverload))) (λ v. is_fixed k ≡ false → AtMost d 64 0 v)
unfolding is_fixed
driver_most d g span k true b c e = λ f. alone d 64 0 (single.Text d.driver) (omega (arith, g.driver))
driver_most d g span k false true c e = λ f. as_other e refl f
driver_most d g span k false false true e = λ f. as_other e refl f
driver_most d g span k false false false e = tt

pub device_most : (d : Device) → Limited d → (span : Span) (name : List ℕ) (k : CelType) → device_type span name ≡ Ok k → IfOk (device_member_of d name) (λ v. is_fixed k ≡ false → AtMost d 64 0 v)
device_most d g span name k e = driver_most d g span k (bytes_eq name (codes "driver")) (bytes_eq name (codes "attributes")) (bytes_eq name (codes "capacity")) e

-- ---- parts

found_most : (d : Device) (w : ℕ) (e : EvalError) (o : Option Single) → ((x : Single) → o ≡ Some x → single_weight x ≤ w) → IfOk (found e o) (AtMost d w 0)
found_most d w e None h = tt
found_most d w e (Some x) h = alone d w 0 x (h x refl)

at_most : (d : Device) (w : ℕ) (n : ℤ) (xs : List Single) → sum_by single_weight xs ≤ w → IfOk (element_at n xs) (AtMost d w 0)
at_most d w (pos n) xs p = found_most d w OutOfRange (slice_get xs n) (λ x e. omega (arith, p, get_most single_weight xs n x e))
at_most d w (negsuc n) xs p = tt

element_most : (d : Device) (w : ℕ) (i : Single) (xs : List Single) → sum_by single_weight xs ≤ w → IfOk (element_of i xs) (AtMost d w 0)
element_most d w single.Null xs p = tt
element_most d w (single.Bool b) xs p = tt
element_most d w (single.Int n) xs p = at_most d w n xs p
element_most d w (single.Text s) xs p = tt
element_most d w (single.Quantity n) xs p = tt
element_most d w (single.Version v) xs p = tt

value_most : (d : Device) (w : ℕ) (i : Single) (es : List (Key × Single)) → sum_by entry_weight es ≤ w → IfOk (value_at i es) (AtMost d w 0)
value_most d w i es p =
    after (AtMost d w 0) (key_from i) (λ k. found NoKey (at_key k es)) (λ k. found_most d w NoKey (at_key k es) (λ x e. omega (arith, p, lookup_most (is_at (key_cmp k)) es x e)))

attribute_most : (d : Device) → Limited d → (name : QualName) (x : Single) → at_name d Attributes name ≡ Some x → single_weight x ≤ 257
attribute_most d g name x e = every_lookup (λ e. single_weight e.1 ≤ 257) (λ y. single_weight y ≤ 257) (λ e p. p) g.values (is_at (name_cmp name)) x e

anyway : (d : Device) (w n : ℕ) (m : CelType) (r : Result Value EvalError) → IfOk r (AtMost d w n) → IfOk r (λ v. is_fixed m ≡ false → AtMost d w n v)
anyway d w n m r h = ok_if (AtMost d w n) (λ v. is_fixed m ≡ false → AtMost d w n v) r (λ v p. λ f. p) h

entry_most : (d : Device) → Limited d → (w : ℕ) (f : Facet) (domain : List ℕ) (m : CelType) (i : Single) → Some (entry_type f) ≡ Some m → IfOk (entry_at d f domain i) (λ v. is_fixed m ≡ false → AtMost d (part_weight (kind.Entries f) w) 0 v)
unfolding is_fixed
entry_most d g w Attributes domain m i e =
    anyway d 257 0 m (entry_at d Attributes domain i)
    (after (AtMost d 257 0) (text_from i) (λ id. found NoKey (at_name d Attributes (full_name domain id)))
    (λ id. found_most d 257 NoKey (at_name d Attributes (full_name domain id)) (attribute_most d g (full_name domain id))))
entry_most d g w Capacities domain m i e = fixed d m w 0 (entry_at d Capacities domain i) (ap is_fixed (sym (some_inj e)))

pub part_most : (d : Device) → Limited d → (w : ℕ) {k : CelType} (m : CelType) (x : Value) → HasKind k x → weight_of x ≤ w → part_type k ≡ Some m → (i : Single) →
    IfOk (part_of d x i) (λ v. is_fixed m ≡ false → AtMost d (part_weight k w) 0 v)
unfolding part_type is_fixed
part_most d g w m _ (of_scalar p) h e i = tt
part_most d g w m _ (of_list {xs = xs} p) h e i = anyway d w 0 m (element_of i xs) (element_most d w i xs (omega arith))
part_most d g w m _ (of_map {es = es} p) h e i = anyway d w 0 m (value_at i es) (value_most d w i es (omega arith))
part_most d g w m _ (of_domains {f = f}) h e i = fixed d m w 0 (in_domain f i) (ap is_fixed (sym (some_inj e)))
part_most d g w m _ (of_entries {f = f} {domain = domain}) h e i = entry_most d g w f domain m i e

-- ---- the elements of a range

pub record Range (k : CelType) (w n : ℕ) (xs : List Single) : Type 0 where
  pub each : Every (λ x. single_weight x ≤ element_weight k w) xs
  pub together : 1 + sum_by single_weight xs ≤ w
  pub number : length xs ≤ n

sum_range : (w : ℕ) {xs : List Single} → Every (λ x. single_weight x ≤ 64) xs → length xs ≤ 32 → 2049 ≤ w → 1 + sum_by single_weight xs ≤ w
sum_range w h p q = omega (arith, sum_most single_weight 64 h)

within_sum : (w : ℕ) (xs : List Single) → sum_by single_weight xs ≤ w → Every (λ x. single_weight x ≤ w) xs
within_sum w xs p = weaken (λ x. single_weight x ≤ sum_by single_weight xs) (λ x. single_weight x ≤ w) (λ x q. omega (arith, p, q)) (each_most single_weight xs)

pub elements_most : (d : Device) → Limited d → (w n : ℕ) {k : CelType} (x : Value) → HasKind k x → AtMost d w n x → IfOk (elements_of d x) (Range k w n)
elements_most d g w n _ (of_scalar p) h = tt
elements_most d g w n _ (of_list {xs = xs} p) h =
    record { each = within_sum w xs (omega (arith, h.weight)); together = h.weight; number = h.number }
elements_most d g w n _ (of_map {es = es} p) h =
    let xs = map single_of (keys_of es) in
    record { each = within_sum w xs (omega (arith, h.weight, keys_most es)); together = omega (arith, h.weight, keys_most es); number = h.number }
elements_most d g w n _ (of_domains {f = f}) h =
    record { each = domains_weigh d f g; together = sum_range w (domains_weigh d f g) (domains_number d f g) h.weight; number = h.number }
elements_most d g w n _ (of_entries {f = f} {domain = domain}) h =
    record { each = ids_weigh d f domain g; together = sum_range w (ids_weigh d f domain g) (ids_number d f domain g) h.weight; number = h.number }
