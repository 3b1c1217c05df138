-- The steps of a tree with a type are within its bound.
use Rattle.std.proofs.Common.{◌≡◌, ℕ, ◌+◌, ◌*◌, ◌≤◌, List, ◌∷◌, true, false, Option, Some, IfOk, Result, Ok, sym, ap, arith, ◌∙◌}
use Rattle.std.proofs.lemmas.List.Sums.{sum_by-cons}
use Rattle.cel_tree.specs.declared.types.Scalar.{Scalar}
use Rattle.cel_tree.specs.declared.types.CelType.{CelType}
use Rattle.cel_tree.specs.declared.types.CelType.TheVariants as kind
use Rattle.cel_tree.specs.declared.calls.Comprehension.{Comprehension}
use Rattle.cel_tree.specs.declared.calls.Arguments.{Arguments}
use Rattle.cel_tree.specs.Ast.{Constant, Ast, Node, Literal', Asts, More, Entries}
use Rattle.cel_tree.specs.Types.{element_type}
use Rattle.cel_tree.specs.Typing as typing
use Rattle.cel_tree.specs.HasType.{HasType, HaveTypes, HaveItems, HaveValues, literal, name, unary, binary, conditional, of_device, member, index, has, call, method, comprehension, bind, list, map, no_argument, argument, no_item, item, no_value, value}
use Rattle.cel_tree.specs.Scopes.{look_up, is_device}
use Rattle.cel_tree.specs.Estimate.{Bounds, bounds, Names, kinds, bounds_of, each, keys_of, values_of, weights_of, steps_of, element_of, constant_bounds, name_bounds, unary_bounds, binary_bounds, conditional_bounds, member_bounds, index_bounds, device_bounds, plain_bounds, has_bounds, element_bounds, comprehension_bounds, bind_bounds, list_bounds, map_bounds}
use Rattle.cel_value.specs.declared.error.EvalError.{EvalError}
use Rattle.cel_value.specs.declared.value.Single.{Single}
use Rattle.cel_value.specs.declared.value.Value.{Value}
use Rattle.cel_value.specs.Device.{Device}
use Rattle.cel_value.specs.Values.{◌>>=◌, constant_of, key_in, weight_of}
use Rattle.cel_value.specs.Lookups.{elements_of}
use Rattle.cel_meaning.specs.Folds.{tested, as_single}
use Rattle.cel_meaning.specs.Steps.{behind, weights, Turn, comprehended_steps}
use Rattle.cel_meaning.specs.Meaning.{Bindings, bound_to, means}
use Rattle.cel_meaning.specs.Meaning as meaning
use Rattle.cel_meaning.specs.Cost.{cost, each_steps, items_steps, entries_steps, turns}
use Rattle.cel_meaning.specs.HasKind.{Every}
use Rattle.cel_meaning.proofs.Every.{on, ok_if}
use Rattle.cel_meaning.proofs.Soundness.{kind_of}
use Rattle.cel_meaning.proofs.AtMost.{AtMost}
use Rattle.cel_meaning.proofs.OfWeight.{Range}
use Rattle.cel_meaning.proofs.Fitting.{Within, Fit, fitting, same_device, Known, kind_is, agreement, within}
use Rattle.cel_meaning.proofs.Bounded.{Bounded, Element, element_type_of, element_within, range_both, at_device, weights-more, bounded}
use Rattle.cel_meaning.proofs.OfSteps.{behind_most, behind_all, name_steps, binary_steps, choice_steps, Turns, no_turn, turn, steps-more, comprehended_most}

-- the values of a tree of the derivation
most_of : (d : Device) → (g : Known d) → (env : Names) (ts : typing.Names) → ts ≡ kinds env → {t : Ast} {k : CelType} → HasType ts t k → (bs : Bindings) → Fit d env bs → Bounded d (bounds_of env t) (means d bs t)
most_of d g env ts e h bs fit = bounded d g env ts e h bs fit (kind_is g env ts e h) (kind_of d h bs (agreement env ts e fit))

within_of : (d : Device) → (g : Known d) → (env : Names) (ts : typing.Names) → ts ≡ kinds env → {t : Ast} {k : CelType} → HasType ts t k → (bs : Bindings) → Fit d env bs → IfOk (means d bs t) (Within d (bounds_of env t))
within_of d g env ts e {t = t} {k = k} h bs fit = within d (bounds_of env t) k (means d bs t) (kind_is g env ts e h) (kind_of d h bs (agreement env ts e fit)) (most_of d g env ts e h bs fit)

-- ---- arguments

weights_most : (d : Device) → (g : Known d) → (env : Names) (ts : typing.Names) → ts ≡ kinds env → {us : Asts} {given : Arguments} → HaveTypes ts us given → (bs : Bindings) → Fit d env bs →
    IfOk (meaning.each d bs us) (λ xs. weights xs ≤ weights_of (each env us))
weights_most d g env ts e no_argument bs fit = omega arith
weights_most d g env ts e (argument {t = t} {ts = us} h hs) bs fit =
    let b = bounds_of env t in
    on (AtMost d b.weight b.number) (λ xs. weights xs ≤ weights_of (each env (More t us))) (means d bs t) (λ x. meaning.each d bs us >>= λ xs. Ok (x ∷ xs)) (most_of d g env ts e h bs fit)
    (λ x p. on (λ xs. weights xs ≤ weights_of (each env us)) (λ xs. weights xs ≤ weights_of (each env (More t us))) (meaning.each d bs us) (λ xs. Ok (x ∷ xs)) (weights_most d g env ts e hs bs fit)
    (λ xs q. omega (arith, p.weight, q, sum_by-cons weight_of x xs, weights-more b (each env us))))

given_steps : (d : Device) (r : Result (List Value) EvalError) (extra w n : ℕ) → extra ≤ n → IfOk r (λ vs. weights vs ≤ w) → behind r (λ given. extra + weights given) ≤ n + w
given_steps d r extra w n p h = behind_most r (λ given. extra + weights given) (n + w) (ok_if (λ vs. weights vs ≤ w) (λ vs. extra + weights vs ≤ n + w) r (λ vs q. omega (arith, p, q)) h)

method_steps : (d : Device) (r : Result Value EvalError) (q : Result (List Value) EvalError) (steps : ℕ) (x : Bounds) (s w : ℕ) → Bounded d x r → steps ≤ s → IfOk q (λ vs. weights vs ≤ w) →
    behind r (λ v. steps + behind q (λ given. weight_of v + weights given)) ≤ s + (x.weight + w)
method_steps d r q steps x s w h p i =
    behind_most r (λ v. steps + behind q (λ given. weight_of v + weights given)) (s + (x.weight + w))
    (ok_if (AtMost d x.weight x.number) (λ v. steps + behind q (λ given. weight_of v + weights given) ≤ s + (x.weight + w)) r
    (λ v m. omega (arith, p, given_steps d q (weight_of v) w x.weight m.weight i)) h)

comprehension_steps : (d : Device) → Known d → (c : Comprehension) (e : Scalar) (k : CelType) (range : Bounds) (r : Result Value EvalError) (fs : List Turn) (bs : List Bounds) →
    range.kind ≡ k → element_type k ≡ Some e → IfOk r (Within d range) → Turns (Element e range) fs bs →
    behind r (λ v. behind (elements_of d v) (λ xs. comprehended_steps c fs xs)) ≤ range.number * (2 + steps_of bs)
comprehension_steps d g c e k range r fs bs same p h i =
    let n = range.number * (2 + steps_of bs) in
    behind_most r (λ v. behind (elements_of d v) (λ xs. comprehended_steps c fs xs)) n
    (ok_if (Within d range) (λ v. behind (elements_of d v) (λ xs. comprehended_steps c fs xs) ≤ n) r
    (λ v w. behind_most (elements_of d v) (λ xs. comprehended_steps c fs xs) n
    (ok_if (λ xs. Every (Element e range) xs × Range range.kind range.weight range.number xs) (λ xs. comprehended_steps c fs xs ≤ n) (elements_of d v)
    (λ xs b. comprehended_most (Element e range) c xs range.number i b.0 b.1.number) (range_both d g range k e v same p w))) h)

-- ---- the induction over the rules of types

mutual
  unfolding constant_bounds name_bounds unary_bounds binary_bounds conditional_bounds member_bounds index_bounds device_bounds plain_bounds has_bounds element_bounds comprehension_bounds bind_bounds list_bounds map_bounds

  pub steps_within : (d : Device) → (g : Known d) → (env : Names) (ts : typing.Names) → ts ≡ kinds env → {t : Ast} {k : CelType} → HasType ts t k → (bs : Bindings) → Fit d env bs → cost d bs t ≤ (bounds_of env t).steps
  steps_within d g env ts e (literal c) bs fit = omega arith
  steps_within d g env ts e (name {x = x} p) bs fit = omega (arith, name_steps (look_up x env))
  steps_within d g env ts e (unary {t = t} i p) bs fit = omega (arith, steps_within d g env ts e i bs fit)
  steps_within d g env ts e (binary {op = o} {t = t} {u = u} i j p) bs fit =
      binary_steps d o (means d bs t) (means d bs u) (cost d bs t) (cost d bs u) (bounds_of env t) (bounds_of env u)
      (steps_within d g env ts e i bs fit) (steps_within d g env ts e j bs fit) (most_of d g env ts e i bs fit) (most_of d g env ts e j bs fit)
  steps_within d g env ts e (conditional {t = t} {u = u} {v = v} i j l p) bs fit =
      omega (
        arith,
        steps_within d g env ts e i bs fit,
        choice_steps (tested (means d bs t)) (cost d bs u) (cost d bs v) (bounds_of env u).steps (bounds_of env v).steps
            (steps_within d g env ts e j bs fit) (steps_within d g env ts e l bs fit),
      )
  steps_within d g env ts e (of_device {t = t} b p) bs fit =
      let here : is_device env t ≡ true = at_device d env ts e fit t true b in
      let there : is_device bs t ≡ true = sym (same_device fit t) ∙ here in
      rw (here, there) (omega arith)
  steps_within d g env ts e (member {t = t} b i p) bs fit =
      let here : is_device env t ≡ false = at_device d env ts e fit t false b in
      let there : is_device bs t ≡ false = sym (same_device fit t) ∙ here in
      let inner = steps_within d g env ts e i bs fit in
      rw (here, there) (omega (arith, inner))
  steps_within d g env ts e (index {t = t} {u = u} i j p) bs fit =
      omega (arith, steps_within d g env ts e i bs fit, steps_within d g env ts e j bs fit, behind_all (means d bs t) (λ x. cost d bs u) (cost d bs u) (λ x. omega arith))
  steps_within d g env ts e (has {place = place} {t = t} {f = f} w b i p) bs fit =
      let here : is_device env t ≡ false = at_device d env ts e fit t false b in
      let there : is_device bs t ≡ false = sym (same_device fit t) ∙ here in
      let inner = steps_within d g env ts e i bs fit in
      rw (w, here, there) (omega (arith, inner))
  steps_within d g env ts e (call {ts = us} w hs p) bs fit =
      let inner = arguments_within d g env ts e hs bs fit in
      let given = behind_most (meaning.each d bs us) (λ xs. weights xs) (weights_of (each env us)) (weights_most d g env ts e hs bs fit) in
      rw w (omega (arith, inner, given))
  steps_within d g env ts e (method {t = t} {ts = us} b w i hs p) bs fit =
      let x = bounds_of env t in
      let xs = each env us in
      let inner = steps_within d g env ts e i bs fit in
      let given = method_steps d (means d bs t) (meaning.each d bs us) (each_steps d bs us) x (steps_of xs) (weights_of xs) (most_of d g env ts e i bs fit) (arguments_within d g env ts e hs bs fit) (weights_most d g env ts e hs bs fit) in
      rw (b, w) (omega (arith, inner, given, steps-more x xs, weights-more x xs))
  steps_within d g env ts e (comprehension {t = t} {x = x} {c = c} {e = s} {ts = us} {k = k} b w i r hs p) bs fit =
      let range = bounds_of env t in
      let inner : Names = (x, element_bounds range) ∷ env in
      let element : element_of range.kind ≡ s = ap element_of (kind_is g env ts e i) ∙ element_type_of k s r in
      let first = steps_within d g env ts e i bs fit in
      let rest = comprehension_steps d g c s k range (means d bs t) (turns d bs x us) (each inner us) (kind_is g env ts e i) r (within_of d g env ts e i bs fit)
      (turns_within d g inner ((x, kind.Scalar s) ∷ ts) (λ a. (x, kind.Scalar (sym element a)) ∷ e a) hs x bs s range (λ y q. fitting (element_within d g range s y element q) fit)) in
      rw (b, w) (omega (arith, first, rest))
  steps_within d g env ts e (bind {u = u} {v = v} {x = x} {k = k} {l = l} b i j) bs fit =
      let value = bounds_of env u in
      let inner : Names = (x, value) ∷ env in
      let same : (x, k) ∷ ts ≡ kinds inner = (λ a. (x, sym (kind_is g env ts e i) a) ∷ e a) in
      let first = steps_within d g env ts e i bs fit in
      let rest = behind_most (means d bs u) (λ y. cost d ((x, y) ∷ bs) v) (bounds_of inner v).steps
      (ok_if (Within d value) (λ y. cost d ((x, y) ∷ bs) v ≤ (bounds_of inner v).steps) (means d bs u) (λ y w. steps_within d g inner ((x, k) ∷ ts) same j ((x, y) ∷ bs) (fitting w fit)) (within_of d g env ts e i bs fit)) in
      rw b (omega (arith, first, rest))
  steps_within d g env ts e (list {ts = us} hs) bs fit = omega (arith, items_within d g env ts e hs bs fit)
  steps_within d g env ts e (map {es = es} hs) bs fit = omega (arith, entries_within d g env ts e hs bs fit)

  arguments_within : (d : Device) → (g : Known d) → (env : Names) (ts : typing.Names) → ts ≡ kinds env → {us : Asts} {given : Arguments} → HaveTypes ts us given → (bs : Bindings) → Fit d env bs → each_steps d bs us ≤ steps_of (each env us)
  arguments_within d g env ts e no_argument bs fit = omega arith
  arguments_within d g env ts e (argument {t = t} {ts = us} i hs) bs fit =
      omega (arith, steps_within d g env ts e i bs fit, arguments_within d g env ts e hs bs fit, behind_all (means d bs t) (λ x. each_steps d bs us) (each_steps d bs us) (λ x. omega arith), steps-more (bounds_of env t) (each env us))

  turns_within : (d : Device) → (g : Known d) → (env : Names) (ts : typing.Names) → ts ≡ kinds env → {us : Asts} {given : Arguments} → HaveTypes ts us given → (x : List ℕ) (bs : Bindings) (s : Scalar) (range : Bounds) →
      ((y : Single) → Element s range y → Fit d env (bound_to x y bs)) → Turns (Element s range) (turns d bs x us) (each env us)
  turns_within d g env ts e no_argument x bs s range fit = no_turn
  turns_within d g env ts e (argument i hs) x bs s range fit = turn (λ y p. steps_within d g env ts e i (bound_to x y bs) (fit y p)) (turns_within d g env ts e hs x bs s range fit)

  items_within : (d : Device) → (g : Known d) → (env : Names) (ts : typing.Names) → ts ≡ kinds env → {us : Asts} {items : Option Scalar} → HaveItems ts us items → (bs : Bindings) → Fit d env bs → items_steps d bs us ≤ steps_of (each env us)
  items_within d g env ts e no_item bs fit = omega arith
  items_within d g env ts e (item {t = t} {ts = us} i hs) bs fit =
      omega (arith, steps_within d g env ts e i bs fit, items_within d g env ts e hs bs fit, behind_all (as_single (means d bs t)) (λ x. items_steps d bs us) (items_steps d bs us) (λ x. omega arith), steps-more (bounds_of env t) (each env us))

  entries_within : (d : Device) → (g : Known d) → (env : Names) (ts : typing.Names) → ts ≡ kinds env → {earlier : List Constant} {es : Entries} {vs : Option Scalar} → HaveValues ts earlier es vs → (bs : Bindings) → Fit d env bs →
      entries_steps d bs es ≤ steps_of (keys_of env es) + steps_of (values_of env es)
  entries_within d g env ts e no_value bs fit = omega arith
  entries_within d g env ts e (value {place = place} {c = c} {t = t} {es = es} some others i hs) bs fit =
      let first = steps_within d g env ts e i bs fit in
      let rest = entries_within d g env ts e hs bs fit in
      let inner = behind_all (as_single (means d bs t)) (λ x. entries_steps d bs es) (entries_steps d bs es) (λ x. omega arith) in
      let outer = behind_all (key_in (constant_of c)) (λ y. cost d bs t + behind (as_single (means d bs t)) (λ x. entries_steps d bs es)) (cost d bs t + entries_steps d bs es) (λ y. omega (arith, inner)) in
      omega (arith, first, rest, outer, steps-more (bounds_of env (Node place (Literal' c))) (keys_of env es), steps-more (bounds_of env t) (values_of env es))
