-- The values of a tree with a type are within its bounds of weight and number.
use Rattle.std.proofs.Common.{◌≡◌, ℕ, suc, ◌+◌, ◌≤◌, max, List, [], ◌∷◌, length, sum_by, Bool, true, false, Option, Some, IfOk, Result, Ok, Err, subst, sym, ap, refl, arith, ◌∙◌, if◌then◌else◌}
use Rattle.std.specs.Prelude.{unwrap_or}
use Rattle.std.specs.BTreeMap.{insert_entry}
use Rattle.std.proofs.lemmas.List.Sums.{sum_by-cons}
use Rattle.cel_tree.specs.declared.tree.Span.{Span}
use Rattle.cel_tree.specs.declared.tree.UnaryOp.{UnaryOp}
use Rattle.cel_tree.specs.declared.tree.UnaryOp.TheVariants.{Not, Negate}
use Rattle.cel_tree.specs.declared.tree.BinaryOp.{BinaryOp}
use Rattle.cel_tree.specs.declared.tree.BinaryOp.TheVariants as op
use Rattle.cel_tree.specs.declared.types.Scalar.{Scalar}
use Rattle.cel_tree.specs.declared.types.Scalar.TheVariants as scalar
use Rattle.cel_tree.specs.declared.types.CelType.{CelType}
use Rattle.cel_tree.specs.declared.types.CelType.TheVariants as kind
use Rattle.cel_tree.specs.declared.calls.Function.{Function}
use Rattle.cel_tree.specs.declared.calls.Function.TheVariants as function
use Rattle.cel_tree.specs.declared.calls.Comprehension.{Comprehension}
use Rattle.cel_tree.specs.declared.calls.Arguments.{Arguments}
use Rattle.cel_tree.specs.Ast.{Constant, Null, Truth, Whole, Bytes, Ast, Node, Ident, Unary, Binary, Conditional, Member, Index, Call, Method, ListOf, MapOf, Asts, End, More, Entries}
use Rattle.cel_tree.specs.Types.{bool, int, accepts, unary_type, binary_type, element_type}
use Rattle.cel_tree.specs.Calls.{call_type, method_type}
use Rattle.cel_tree.specs.Typing as typing
use Rattle.cel_tree.specs.Calls.{called_of}
use Rattle.cel_tree.specs.Faults.{comprehension_type, called_type}
use Rattle.cel_tree.specs.HasType.{HasType, HaveTypes, HaveItems, HaveValues, literal, name, unary, binary, conditional, of_device, member, index, has, call, method, comprehension, bind, list, map, no_argument, argument, no_item, item, no_value, value}
use Rattle.cel_tree.specs.Estimate.{Bounds, bounds, Names, kinds, bounds_of, each, keys_of, values_of, weights_of, gathered_weight, element_of, element_weight, part_weight, constant_bounds, name_bounds, unary_bounds, binary_bounds, conditional_bounds, member_bounds, index_bounds, device_bounds, plain_bounds, has_bounds, method_bounds, arguments_of, element_bounds, comprehension_bounds, bind_bounds, list_bounds, map_bounds}
use Rattle.cel_value.specs.declared.error.EvalError.{EvalError}
use Rattle.cel_value.specs.declared.value.Single.{Single}
use Rattle.cel_value.specs.declared.value.Single.TheVariants as single
use Rattle.cel_value.specs.declared.value.Key.{Key}
use Rattle.cel_value.specs.declared.value.Value.{Value}
use Rattle.cel_value.specs.declared.value.Value.TheVariants as the_value
use Rattle.cel_value.specs.Device.{Device}
use Rattle.cel_value.specs.Values.{◌>>=◌, constant_of, single_in, single_of, key_in, single_weight, entry_weight}
use Rattle.cel_value.specs.Operators.{add_of}
use Rattle.cel_value.specs.Lookups.{key_cmp, part_of, device_member_of, member_of, index_of, elements_of}
use Rattle.cel_meaning.specs.Folds.{tested, as_single, Body, connective_of, comprehended}
use Rattle.cel_tree.specs.Scopes.{is_device}
use Rattle.cel_meaning.specs.Meaning.{Bindings, bound_to, operation, means, items_of, entries_of, bodies_of}
use Rattle.cel_meaning.specs.HasKind.{Every, no_more, first, IsOf, HasKind, of_scalar}
use Rattle.cel_meaning.proofs.Every.{on, after, either, ok_if, some_inj}
use Rattle.cel_meaning.proofs.OfKind.{when_is, part_type, index_part, member_part, elements_kind}
use Rattle.cel_meaning.proofs.OfCalls.{binary_result, is_add, binary_is, result_of, call_is, method_is}
use Rattle.cel_meaning.proofs.Soundness.{kind_of}
use Rattle.cel_meaning.proofs.Sums.{keys_many, insert_most, insert_many}
use Rattle.cel_meaning.proofs.AtMost.{AtMost, is_fixed, by_kind, by_bounds, fixed}
use Rattle.cel_meaning.proofs.OfWeight.{more, alone, constant_most, add_most, device_most, part_most, Range, elements_most}
use Rattle.cel_meaning.proofs.Gathered.{Kept, as_single_most, Bodies, no_body, body, comprehended_most}
use Rattle.cel_meaning.proofs.Limited.{Limited}
use Rattle.cel_meaning.proofs.Agreement.{same_device as agreed_device}
use Rattle.cel_meaning.proofs.Fitting.{Within, Fit, fitting, name_most, same_device, Known, kind_is, agreement, within}

-- ---- types whose values have one weight

unary_fixed : (o : UnaryOp) (k m : CelType) → unary_type o k ≡ Some m → is_fixed m ≡ true
unfolding is_fixed
unary_fixed Not k m e = ap is_fixed (sym (some_inj (when_is (accepts scalar.Bool k) bool m e)))
unary_fixed Negate k m e = ap is_fixed (sym (some_inj (when_is (accepts scalar.Int k) int m e)))

binary_result_fixed : (o : BinaryOp) → is_fixed (binary_result o) ≡ true
unfolding is_fixed binary_result
binary_result_fixed op.Or = refl
binary_result_fixed op.And = refl
binary_result_fixed op.Less = refl
binary_result_fixed op.LessEq = refl
binary_result_fixed op.GreaterEq = refl
binary_result_fixed op.Greater = refl
binary_result_fixed op.Equal = refl
binary_result_fixed op.NotEqual = refl
binary_result_fixed op.In = refl
binary_result_fixed op.Add = refl
binary_result_fixed op.Subtract = refl
binary_result_fixed op.Multiply = refl
binary_result_fixed op.Divide = refl
binary_result_fixed op.Remainder = refl

result_fixed : (f : Function) → is_fixed (result_of f) ≡ true
unfolding is_fixed result_of
result_fixed function.Size = refl
result_fixed function.StartsWith = refl
result_fixed function.EndsWith = refl
result_fixed function.Contains = refl
result_fixed function.Quantity = refl
result_fixed function.IsQuantity = refl
result_fixed function.Semver = refl
result_fixed function.IsSemver = refl
result_fixed function.CompareTo = refl
result_fixed function.IsLessThan = refl
result_fixed function.IsGreaterThan = refl
result_fixed function.Add = refl
result_fixed function.Sub = refl
result_fixed function.Sign = refl
result_fixed function.IsInteger = refl
result_fixed function.AsInteger = refl
result_fixed function.Major = refl
result_fixed function.Minor = refl
result_fixed function.Patch = refl

call_fixed : (f : Function) (given : Arguments) (m : CelType) → call_type f given ≡ Some m → is_fixed m ≡ true
call_fixed f given m e = ap is_fixed (sym (some_inj (call_is f given m e))) ∙ result_fixed f

method_fixed : (f : Function) (k : CelType) (given : Arguments) (m : CelType) → method_type f k given ≡ Some m → is_fixed m ≡ true
method_fixed f k given m e = ap is_fixed (sym (some_inj (method_is f k given m e))) ∙ result_fixed f

-- ---- what each form implies of its values

-- a result within bounds
abbrev pub Bounded : Device → Bounds → Result Value EvalError → Type 0
Bounded d b r = IfOk r (AtMost d b.weight b.number)

sum_bounded : (d : Device) (x y : Bounds) (r s : Result Value EvalError) → Bounded d x r → Bounded d y s → IfOk (r >>= λ v. s >>= λ w. add_of v w) (AtMost d (x.weight + y.weight) (x.number + y.number))
sum_bounded d x y r s h i =
    on (AtMost d x.weight x.number) (AtMost d (x.weight + y.weight) (x.number + y.number)) r (λ v. s >>= λ w. add_of v w) h
    (λ v p. on (AtMost d y.weight y.number) (AtMost d (x.weight + y.weight) (x.number + y.number)) s (λ w. add_of v w) i (λ w q. add_most d v w x.weight x.number y.weight y.number p q))

binary_bounded : (d : Device) (o : BinaryOp) (k l m : CelType) (x y : Bounds) (r s : Result Value EvalError) → binary_type o k l ≡ Some m → Bounded d x r → Bounded d y s → (b : Bool) → is_add o ≡ b →
    IfOk (operation d (connective_of o) o r s) (λ v. is_fixed m ≡ false → AtMost d (x.weight + y.weight) (x.number + y.number) v)
unfolding is_add
binary_bounded d op.Add k l m x y r s e h i b a =
    ok_if (AtMost d (x.weight + y.weight) (x.number + y.number)) (λ v. is_fixed m ≡ false → AtMost d (x.weight + y.weight) (x.number + y.number) v) (operation d (connective_of op.Add) op.Add r s)
    (λ v p. λ f. p) (sum_bounded d x y r s h i)
binary_bounded d o k l m x y r s e h i false a =
    fixed d m (x.weight + y.weight) (x.number + y.number) (operation d (connective_of o) o r s) (ap is_fixed (sym (some_inj (binary_is o k l m a e))) ∙ binary_result_fixed o)
binary_bounded d o k l m x y r s e h i true a = absurd (cc)

choice_bounded : (d : Device) (x y : Bounds) (q : Result Bool EvalError) (r s : Result Value EvalError) → Bounded d x r → Bounded d y s → IfOk (q >>= λ b. if b then r else s) (AtMost d (max x.weight y.weight) (max x.number y.number))
choice_bounded d x y q r s h i =
    after (AtMost d (max x.weight y.weight) (max x.number y.number)) q (λ b. if b then r else s)
    (λ b. either (AtMost d (max x.weight y.weight) (max x.number y.number)) b r s
    (ok_if (AtMost d x.weight x.number) (AtMost d (max x.weight y.weight) (max x.number y.number)) r (λ v p. more (max x.weight y.weight) (max x.number y.number) p (omega arith) (omega arith)) h)
    (ok_if (AtMost d y.weight y.number) (AtMost d (max x.weight y.weight) (max x.number y.number)) s (λ v p. more (max x.weight y.weight) (max x.number y.number) p (omega arith) (omega arith)) i))

any_type : (d : Device) (w n : ℕ) (m : CelType) (r : Result Value EvalError) → IfOk r (AtMost d w n) → IfOk r (λ v. is_fixed m ≡ false → AtMost d w n v)
any_type d w n m r h = ok_if (AtMost d w n) (λ v. is_fixed m ≡ false → AtMost d w n v) r (λ v p. λ f. p) h

both_ok : {A : Type 0} (P Q : A → Type 0) (r : Result A EvalError) → IfOk r P → IfOk r Q → IfOk r (λ x. P x × Q x)
both_ok P Q (Ok x) p q = (p, q)
both_ok P Q (Err e) p q = tt

every_both : {A : Type 0} (P Q : A → Type 0) {xs : List A} → Every P xs → Every Q xs → Every (λ x. P x × Q x) xs
every_both P Q no_more no_more = no_more
every_both P Q (first p ps) (first q qs) = first (p, q) (every_both P Q ps qs)

part_bounded : (d : Device) → Known d → (b : Bounds) (k m : CelType) (x : Value) → b.kind ≡ k → Within d b x → part_type k ≡ Some m → (i : Single) →
    IfOk (part_of d x i) (λ v. is_fixed m ≡ false → AtMost d (part_weight b.kind b.weight) 0 v)
part_bounded d g b k m x e h p i = part_most d g.limited b.weight m x h.kind h.most.weight (ap part_type e ∙ p) i

-- ---- comprehensions

-- the value of a comprehension's variable
unfoldable pub Element : Scalar → Bounds → Single → Type 0
Element e range x = IsOf e x × (single_weight x ≤ element_weight range.kind range.weight)

pub element_type_of : (k : CelType) (e : Scalar) → element_type k ≡ Some e → element_of k ≡ e
element_type_of k e h = ap (λ (o : Option Scalar). unwrap_or o scalar.Dyn) h

pub element_within : (d : Device) → Known d → (range : Bounds) (e : Scalar) (x : Single) → element_of range.kind ≡ e → Element e range x → Within d (element_bounds range) (the_value.Single x)
unfolding Element element_bounds
element_within d g range e x same h =
    let p : IsOf (element_of range.kind) x = subst (λ (s : Scalar). IsOf s x) (sym same) h.0 in
    record { kind = of_scalar p; most = by_kind d g.limited (element_weight range.kind range.weight) 0 (of_scalar p) (λ f. alone d (element_weight range.kind range.weight) 0 x h.1) }

-- ---- map literals

pub record KeptEntries (w n : ℕ) (es : List (Key × Single)) : Type 0 where
  pub together : sum_by entry_weight es ≤ w
  pub number : length es ≤ n

key_most : (c : Constant) → IfOk (key_in (constant_of c)) (λ y. single_weight (single_of y) ≤ (constant_bounds c).weight)
unfolding constant_bounds
key_most Null = tt
key_most (Truth b) = omega arith
key_most (Whole n) = omega arith
key_most (Bytes s) = omega arith

pub weights-more : (b : Bounds) (bs : List Bounds) → weights_of (b ∷ bs) ≡ b.weight + weights_of bs
weights-more b bs = sum_by-cons (λ (x : Bounds). x.weight) b bs

item_kept : (b : Bounds) (bs : List Bounds) (x : Single) (xs : List Single) → single_weight x ≤ b.weight → Kept (weights_of bs) (length bs) xs → Kept (weights_of (b ∷ bs)) (length (b ∷ bs)) (x ∷ xs)
item_kept b bs x xs p h = record { together = omega (arith, p, h.together, sum_by-cons single_weight x xs, weights-more b bs); number = omega (arith, h.number) }

by_tree : (d : Device) → Limited d → (b : Bounds) (r : Result Value EvalError) (k j : CelType) (w n s : ℕ) (q : Result Value EvalError) → b ≡ bounds j w n s → r ≡ q → b.kind ≡ k → IfOk r (HasKind k) →
    IfOk q (λ v. is_fixed k ≡ false → AtMost d w n v) → Bounded d b r
by_tree d g b r k j w n s q e f same h i =
    let same' : j ≡ k = ap (λ (x : Bounds). x.kind) (sym e) ∙ same in
    let h' : IfOk q (HasKind k) = subst (λ (x : Result Value EvalError). IfOk x (HasKind k)) f h in
    subst (λ (x : Bounds). Bounded d x r) (sym e) (subst (λ (x : Result Value EvalError). Bounded d (bounds j w n s) x) (sym f) (by_bounds d g j k w n s q same' h' i))

pub range_both : (d : Device) → Known d → (range : Bounds) (k : CelType) (e : Scalar) (v : Value) → range.kind ≡ k → element_type k ≡ Some e → Within d range v →
    IfOk (elements_of d v) (λ xs. Every (Element e range) xs × Range range.kind range.weight range.number xs)
unfolding Element
range_both d g range k e v same r h =
    let p : IfOk (elements_of d v) (Every (IsOf e)) = elements_kind d e v h.kind (ap element_type same ∙ r) in
    let q : IfOk (elements_of d v) (Range range.kind range.weight range.number) = elements_most d g.limited range.weight range.number v h.kind h.most in
    ok_if (λ xs. Every (IsOf e) xs × Range range.kind range.weight range.number xs) (λ xs. Every (Element e range) xs × Range range.kind range.weight range.number xs) (elements_of d v)
    (λ xs b. (every_both (IsOf e) (λ x. single_weight x ≤ element_weight range.kind range.weight) b.0 b.1.each, b.1))
    (both_ok (Every (IsOf e)) (Range range.kind range.weight range.number) (elements_of d v) p q)

comprehension_bounded : (d : Device) → Known d → (span : Span) (c : Comprehension) (e : Scalar) (given : Arguments) (k l : CelType) (range : Bounds) (r : Result Value EvalError) (fs : List Body) (bs : List Bounds) →
    range.kind ≡ k → element_type k ≡ Some e → IfOk r (Within d range) → Bodies d (Element e range) fs bs → comprehension_type span c e given ≡ Ok l →
    IfOk (r >>= λ v. elements_of d v >>= λ xs. comprehended c fs xs) (λ v. is_fixed l ≡ false → AtMost d (gathered_weight c range bs) range.number v)
comprehension_bounded d g span c e given k l range r fs bs same p h i q =
    on (Within d range) (λ v. is_fixed l ≡ false → AtMost d (gathered_weight c range bs) range.number v) r (λ v. elements_of d v >>= λ xs. comprehended c fs xs) h
    (λ v w. on (λ xs. Every (Element e range) xs × Range range.kind range.weight range.number xs) (λ v. is_fixed l ≡ false → AtMost d (gathered_weight c range bs) range.number v)
    (elements_of d v) (λ xs. comprehended c fs xs) (range_both d g range k e v same p w)
    (λ xs b. comprehended_most d span c e given range.kind l range xs b.1 b.0 fs bs i q))

entry_kept : (before : List (Key × Single)) (y : Key) (x : Single) (w n a b m q : ℕ) → single_weight (single_of y) ≤ a → single_weight x ≤ b → sum_by entry_weight before + (a + b + m) ≤ w → length before + suc q ≤ n →
    (sum_by entry_weight (insert_entry key_cmp before y x) + m ≤ w) × (length (insert_entry key_cmp before y x) + q ≤ n)
entry_kept before y x w n a b m q p r h i = (omega (arith, p, r, h, insert_most before y x), omega (arith, i, insert_many before y x))

pub at_device : (d : Device) (env : Names) (ts : typing.Names) → ts ≡ kinds env → {bs : Bindings} → Fit d env bs → (t : Ast) (b : Bool) → is_device ts t ≡ b → is_device env t ≡ b
at_device d env ts e {bs = bs} fit t b h = same_device fit t ∙ sym (agreed_device (agreement env ts e fit) t) ∙ h

fixed_bool : is_fixed bool ≡ true
unfolding is_fixed
fixed_bool = refl

-- ---- the induction over the rules of types

mutual
  unfolding constant_bounds name_bounds unary_bounds binary_bounds conditional_bounds member_bounds index_bounds device_bounds plain_bounds has_bounds element_bounds comprehension_bounds bind_bounds list_bounds map_bounds Element

  pub bounded : (d : Device) → (g : Known d) → (env : Names) (ts : typing.Names) → ts ≡ kinds env → {t : Ast} {k : CelType} → HasType ts t k → (bs : Bindings) → Fit d env bs →
      (bounds_of env t).kind ≡ k → IfOk (means d bs t) (HasKind k) → Bounded d (bounds_of env t) (means d bs t)
  bounded d g env ts e (literal c) bs fit j h = constant_most d c
  bounded d g env ts e (name {x = x} p) bs fit j h = name_most x fit
  bounded d g env ts e (unary {span = span} {op = o} {t = t} {k = k} {l = l} i p) bs fit j h =
      let T = Node span (Unary o t) in
      by_tree d g.limited (bounds_of env T) (means d bs T) l (bounds_of env T).kind 1 0 (bounds_of env T).steps (means d bs T) refl refl j h (fixed d l 1 0 (means d bs T) (unary_fixed o k l p))
  bounded d g env ts e (binary {span = span} {op = o} {t = t} {u = u} {k = k} {l = l} {m = m} i u' p) bs fit j h =
      let T = Node span (Binary o t u) in
      let x = bounds_of env t in
      let y = bounds_of env u in
      by_tree d g.limited (bounds_of env T) (means d bs T) m (bounds_of env T).kind (x.weight + y.weight) (x.number + y.number) (bounds_of env T).steps (means d bs T) refl refl j h
      (binary_bounded d o k l m x y (means d bs t) (means d bs u) p (bounded d g env ts e i bs fit (kind_is g env ts e i) (kind_of d i bs (agreement env ts e fit)))
      (bounded d g env ts e u' bs fit (kind_is g env ts e u') (kind_of d u' bs (agreement env ts e fit))) (is_add o) refl)
  bounded d g env ts e (conditional {span = span} {t = t} {u = u} {v = v} {k = k} {l = l} {m = m} {n = n} i u' v' p) bs fit j h =
      let T = Node span (Conditional t u v) in
      let x = bounds_of env u in
      let y = bounds_of env v in
      by_tree d g.limited (bounds_of env T) (means d bs T) n (bounds_of env T).kind (max x.weight y.weight) (max x.number y.number) (bounds_of env T).steps (means d bs T) refl refl j h
      (any_type d (max x.weight y.weight) (max x.number y.number) n (means d bs T)
      (choice_bounded d x y (tested (means d bs t)) (means d bs u) (means d bs v) (bounded d g env ts e u' bs fit (kind_is g env ts e u') (kind_of d u' bs (agreement env ts e fit)))
      (bounded d g env ts e v' bs fit (kind_is g env ts e v') (kind_of d v' bs (agreement env ts e fit)))))
  bounded d g env ts e (of_device {span = span} {t = t} {f = f} {k = k} b p) bs fit j h =
      let T = Node span (Member t f) in
      let here : is_device env t ≡ true = at_device d env ts e fit t true b in
      let there : is_device bs t ≡ true = sym (same_device fit t) ∙ here in
      let B = device_bounds span f in
      by_tree d g.limited (bounds_of env T) (means d bs T) k B.kind 64 0 B.steps (device_member_of d f) (rw here refl) (rw there refl) j h (device_most d g.limited span f k p)
  bounded d g env ts e (member {span = span} {t = t} {f = f} {k = k} {l = l} b i p) bs fit j h =
      let T = Node span (Member t f) in
      let here : is_device env t ≡ false = at_device d env ts e fit t false b in
      let there : is_device bs t ≡ false = sym (same_device fit t) ∙ here in
      let x = bounds_of env t in
      let B = member_bounds span x in
      by_tree d g.limited (bounds_of env T) (means d bs T) l B.kind (part_weight x.kind x.weight) 0 B.steps (means d bs t >>= λ v. member_of d v f) (rw here refl) (rw there refl) j h
      (on (Within d x) (λ v. is_fixed l ≡ false → AtMost d (part_weight x.kind x.weight) 0 v) (means d bs t) (λ v. member_of d v f)
      (within d x k (means d bs t) (kind_is g env ts e i) (kind_of d i bs (agreement env ts e fit)) (bounded d g env ts e i bs fit (kind_is g env ts e i) (kind_of d i bs (agreement env ts e fit))))
      (λ v w. part_bounded d g x k l v (kind_is g env ts e i) w (member_part k l p) (single.Text f)))
  bounded d g env ts e (index {span = span} {t = t} {u = u} {k = k} {l = l} {m = m} i u' p) bs fit j h =
      let T = Node span (Index t u) in
      let x = bounds_of env t in
      by_tree d g.limited (bounds_of env T) (means d bs T) m (bounds_of env T).kind (part_weight x.kind x.weight) 0 (bounds_of env T).steps (means d bs T) refl refl j h
      (on (Within d x) (λ v. is_fixed m ≡ false → AtMost d (part_weight x.kind x.weight) 0 v) (means d bs t) (λ v. means d bs u >>= λ y. index_of d v y)
      (within d x k (means d bs t) (kind_is g env ts e i) (kind_of d i bs (agreement env ts e fit)) (bounded d g env ts e i bs fit (kind_is g env ts e i) (kind_of d i bs (agreement env ts e fit))))
      (λ v w. after (λ v. is_fixed m ≡ false → AtMost d (part_weight x.kind x.weight) 0 v) (means d bs u) (λ y. index_of d v y)
      (λ y. after (λ v. is_fixed m ≡ false → AtMost d (part_weight x.kind x.weight) 0 v) (single_in y) (part_of d v) (λ z. part_bounded d g x k m v (kind_is g env ts e i) w (index_part k l m p) z))))
  bounded d g env ts e (has {span = span} {place = place} {t = t} {word = word} {f = f} w b i p) bs fit j h =
      let T = Node span (Call word (More (Node place (Member t f)) End)) in
      let B = has_bounds (each env (More (Node place (Member t f)) End)) in
      by_tree d g.limited (bounds_of env T) (means d bs T) bool B.kind 1 0 B.steps (means d bs T) (rw w refl) refl j h (fixed d bool 1 0 (means d bs T) fixed_bool)
  bounded d g env ts e (call {span = span} {word = word} {f = f} {ts = us} {given = given} {k = k} w hs p) bs fit j h =
      let T = Node span (Call word us) in
      let B = plain_bounds (called_type span (called_of word) (arguments_of (each env us))) (each env us) in
      by_tree d g.limited (bounds_of env T) (means d bs T) k B.kind 1 0 B.steps (means d bs T) (rw w refl) refl j h (fixed d k 1 0 (means d bs T) (call_fixed f given k p))
  bounded d g env ts e (method {span = span} {t = t} {word = word} {f = f} {ts = us} {given = given} {k = k} {l = l} b w i hs p) bs fit j h =
      let T = Node span (Method t word us) in
      let B = method_bounds span (called_of word) (bounds_of env t) (each env us) in
      by_tree d g.limited (bounds_of env T) (means d bs T) l B.kind 1 0 B.steps (means d bs T) (rw (b, w) refl) refl j h (fixed d l 1 0 (means d bs T) (method_fixed f k given l p))
  bounded d g env ts e (comprehension {span = span} {place = place} {t = t} {word = word} {x = x} {c = c} {e = s} {ts = us} {bodies = given} {k = k} {l = l} b w i r hs p) bs fit j h =
      let T = Node span (Method t word (More (Node place (Ident x)) us)) in
      let range = bounds_of env t in
      let inner : Names = (x, element_bounds range) ∷ env in
      let element : element_of range.kind ≡ s = ap element_of (kind_is g env ts e i) ∙ element_type_of k s r in
      let B = comprehension_bounds span c range (each inner us) in
      by_tree d g.limited (bounds_of env T) (means d bs T) l B.kind (gathered_weight c range (each inner us)) range.number B.steps
      (means d bs t >>= λ v. elements_of d v >>= λ xs. comprehended c (bodies_of d bs x us) xs) (rw (b, w) refl) (rw (b, w) refl) j h
      (comprehension_bounded d g span c s given k l range (means d bs t) (bodies_of d bs x us) (each inner us) (kind_is g env ts e i) r
      (within d range k (means d bs t) (kind_is g env ts e i) (kind_of d i bs (agreement env ts e fit)) (bounded d g env ts e i bs fit (kind_is g env ts e i) (kind_of d i bs (agreement env ts e fit))))
      (bodies_bounded d g inner ((x, kind.Scalar s) ∷ ts) (λ a. (x, kind.Scalar (sym element a)) ∷ e a) hs x bs s range (λ y q. fitting (element_within d g range s y element q) fit)) p)
  bounded d g env ts e (bind {span = span} {place = place} {t = t} {u = u} {v = v} {word = word} {x = x} {k = k} {l = l} b u' v') bs fit j h =
      let value = bounds_of env u in
      let inner : Names = (x, value) ∷ env in
      let same : (x, k) ∷ ts ≡ kinds inner = (λ a. (x, sym (kind_is g env ts e u') a) ∷ e a) in
      rw b (on (Within d value) (AtMost d (bounds_of inner v).weight (bounds_of inner v).number) (means d bs u) (λ y. means d ((x, y) ∷ bs) v)
      (within d value k (means d bs u) (kind_is g env ts e u') (kind_of d u' bs (agreement env ts e fit)) (bounded d g env ts e u' bs fit (kind_is g env ts e u') (kind_of d u' bs (agreement env ts e fit))))
      (λ y w. bounded d g inner ((x, k) ∷ ts) same v' ((x, y) ∷ bs) (fitting w fit) (kind_is g inner ((x, k) ∷ ts) same v') (kind_of d v' ((x, y) ∷ bs) (agreement inner ((x, k) ∷ ts) same (fitting w fit)))))
  bounded d g env ts e (list {span = span} {ts = us} {items = items} hs) bs fit j h =
      let T = Node span (ListOf us) in
      let xs = each env us in
      by_tree d g.limited (bounds_of env T) (means d bs T) (typing.list_type items) (bounds_of env T).kind (1 + weights_of xs) (length xs) (bounds_of env T).steps (means d bs T) refl refl j h
      (any_type d (1 + weights_of xs) (length xs) (typing.list_type items) (means d bs T)
      (on (Kept (weights_of xs) (length xs)) (AtMost d (1 + weights_of xs) (length xs)) (items_of d bs us) (λ ys. Ok (the_value.List ys)) (items_bounded d g env ts e hs bs fit)
      (λ ys q. record { weight = omega (arith, q.together); number = q.number })))
  bounded d g env ts e (map {span = span} {es = es} {values = vs} hs) bs fit j h =
      let T = Node span (MapOf es) in
      let k = typing.map_type (typing.keys_type es) vs in
      let w = 1 + (weights_of (keys_of env es) + weights_of (values_of env es)) in
      let n = length (keys_of env es) in
      by_tree d g.limited (bounds_of env T) (means d bs T) k (bounds_of env T).kind w n (bounds_of env T).steps (means d bs T) refl refl j h
      (any_type d w n k (means d bs T)
      (on (KeptEntries (weights_of (keys_of env es) + weights_of (values_of env es)) n) (AtMost d w n) (entries_of d bs [] es) (λ table. Ok (the_value.Map table))
      (entries_bounded d g env ts e hs bs fit [] (weights_of (keys_of env es) + weights_of (values_of env es)) n (omega arith) (omega arith))
      (λ table q. record { weight = omega (arith, q.together); number = omega (arith, q.number, keys_many table) })))

  bodies_bounded : (d : Device) → (g : Known d) → (env : Names) (ts : typing.Names) → ts ≡ kinds env → {us : Asts} {given : Arguments} → HaveTypes ts us given → (x : List ℕ) (bs : Bindings) (s : Scalar) (range : Bounds) →
      ((y : Single) → Element s range y → Fit d env (bound_to x y bs)) → Bodies d (Element s range) (bodies_of d bs x us) (each env us)
  bodies_bounded d g env ts e no_argument x bs s range fit = no_body
  bodies_bounded d g env ts e (argument i hs) x bs s range fit =
      body (λ y p. bounded d g env ts e i (bound_to x y bs) (fit y p) (kind_is g env ts e i) (kind_of d i (bound_to x y bs) (agreement env ts e (fit y p)))) (bodies_bounded d g env ts e hs x bs s range fit)

  items_bounded : (d : Device) → (g : Known d) → (env : Names) (ts : typing.Names) → ts ≡ kinds env → {us : Asts} {items : Option Scalar} → HaveItems ts us items → (bs : Bindings) → Fit d env bs →
      IfOk (items_of d bs us) (Kept (weights_of (each env us)) (length (each env us)))
  items_bounded d g env ts e no_item bs fit = record { together = omega arith; number = omega arith }
  items_bounded d g env ts e (item {t = t} {ts = us} {s = s} i hs) bs fit =
      let b = bounds_of env t in
      let w = weights_of (each env (More t us)) in
      let n = length (each env (More t us)) in
      on (λ z. single_weight z ≤ b.weight) (Kept w n) (as_single (means d bs t)) (λ x. items_of d bs us >>= λ xs. Ok (x ∷ xs))
      (as_single_most d b.weight b.number (means d bs t) (bounded d g env ts e i bs fit (kind_is g env ts e i) (kind_of d i bs (agreement env ts e fit))))
      (λ x p. on (Kept (weights_of (each env us)) (length (each env us))) (Kept w n) (items_of d bs us) (λ xs. Ok (x ∷ xs)) (items_bounded d g env ts e hs bs fit)
      (λ xs q. item_kept b (each env us) x xs p q))

  entries_bounded : (d : Device) → (g : Known d) → (env : Names) (ts : typing.Names) → ts ≡ kinds env → {earlier : List Constant} {es : Entries} {vs : Option Scalar} → HaveValues ts earlier es vs → (bs : Bindings) → Fit d env bs →
      (before : List (Key × Single)) (w n : ℕ) → sum_by entry_weight before + (weights_of (keys_of env es) + weights_of (values_of env es)) ≤ w → length before + length (keys_of env es) ≤ n →
      IfOk (entries_of d bs before es) (KeptEntries w n)
  entries_bounded d g env ts e no_value bs fit before w n p q = record { together = omega (arith, p); number = omega (arith, q) }
  entries_bounded d g env ts e (value {place = place} {c = c} {t = t} {es = es} some others i hs) bs fit before w n p q =
      let a = constant_bounds c in
      let b = bounds_of env t in
      on (λ y. single_weight (single_of y) ≤ a.weight) (KeptEntries w n) (key_in (constant_of c)) (λ y. as_single (means d bs t) >>= λ x. entries_of d bs (insert_entry key_cmp before y x) es) (key_most c)
      (λ y k. on (λ z. single_weight z ≤ b.weight) (KeptEntries w n) (as_single (means d bs t)) (λ x. entries_of d bs (insert_entry key_cmp before y x) es)
      (as_single_most d b.weight b.number (means d bs t) (bounded d g env ts e i bs fit (kind_is g env ts e i) (kind_of d i bs (agreement env ts e fit))))
      (λ x v. let kept = entry_kept before y x w n a.weight b.weight (weights_of (keys_of env es) + weights_of (values_of env es)) (length (keys_of env es)) k v
      (omega (arith, p, weights-more a (keys_of env es), weights-more b (values_of env es))) (omega (arith, q)) in
      entries_bounded d g env ts e hs bs fit (insert_entry key_cmp before y x) w n kept.0 kept.1))
