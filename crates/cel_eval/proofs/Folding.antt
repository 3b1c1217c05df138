-- `all` and `exists`, element by element.
use Rattle.std.proofs.Common.{◌≡◌, ℕ, ◌+◌, ◌<◌, ◌≤◌, List, ◌∷◌, Bool, true, false, length, drop, get_or, arith, refl, ap, sym, ◌∙◌}
use Rattle.std.proofs.lemmas.List.{drop_more}
use Rattle.std.specs.Prelude.{Result, Ok, Err, ◌||◌}
use Rattle.cel_value.specs.declared.value.Single.{Single}
use Rattle.cel_value.specs.declared.error.EvalError.{EvalError}
use Rattle.cel_value.specs.declared.error.EvalError.TheVariants.{NoKey, NoOverload, Overflow, DivByZero, OutOfRange, BadConversion, Memory}
use Rattle.cel_value.specs.Values.{Gives}
use Rattle.cel_meaning.specs.declared.connective.Connective.{Connective}
use Rattle.cel_meaning.specs.declared.connective.Connective.TheVariants as connective
use Rattle.cel_meaning.specs.Folds.{holds, joined, folded}
use Rattle.cel_meaning.specs.Steps.{Turn, decides, unless_decided, folded_steps}
use Rattle.cel_meaning.specs.Memory.{is_memory, with_memory}
use Rattle.cel_eval.specs.Answers.{Counts}
use Rattle.cel_eval.proofs.Stops.{given, counted, not-memory, not-decided}

joined-assoc : (c : Connective) (x y z : Result Bool EvalError) → joined c (joined c x y) z ≡ joined c x (joined c y z)
joined-assoc connective.And (Ok false) y z = refl
joined-assoc connective.And (Ok true) y z = refl
joined-assoc connective.And (Err e) (Ok false) z = refl
joined-assoc connective.And (Err e) (Ok true) z = refl
joined-assoc connective.And (Err e) (Err f) (Ok false) = refl
joined-assoc connective.And (Err e) (Err f) (Ok true) = refl
joined-assoc connective.And (Err e) (Err f) (Err g) = refl
joined-assoc connective.Or (Ok true) y z = refl
joined-assoc connective.Or (Ok false) y z = refl
joined-assoc connective.Or (Err e) (Ok true) z = refl
joined-assoc connective.Or (Err e) (Ok false) z = refl
joined-assoc connective.Or (Err e) (Err f) (Ok true) = refl
joined-assoc connective.Or (Err e) (Err f) (Ok false) = refl
joined-assoc connective.Or (Err e) (Err f) (Err g) = refl

-- a side that decides alone
joined-decided : (c : Connective) (x y : Result Bool EvalError) → decides c y ≡ true → joined c x y ≡ y
joined-decided connective.And (Ok false) (Ok false) h = refl
joined-decided connective.And (Ok true) (Ok false) h = refl
joined-decided connective.And (Err e) (Ok false) h = refl
joined-decided connective.And x (Ok true) h = absurd (cc)
joined-decided connective.And x (Err e) h = absurd (cc)
joined-decided connective.Or (Ok false) (Ok true) h = refl
joined-decided connective.Or (Ok true) (Ok true) h = refl
joined-decided connective.Or (Err e) (Ok true) h = refl
joined-decided connective.Or x (Ok false) h = absurd (cc)
joined-decided connective.Or x (Err e) h = absurd (cc)

decided-joined : (c : Connective) (x y : Result Bool EvalError) → decides c x ≡ true → joined c x y ≡ x
decided-joined connective.And (Ok false) y h = refl
decided-joined connective.And (Ok true) y h = absurd (cc)
decided-joined connective.And (Err e) y h = absurd (cc)
decided-joined connective.Or (Ok true) y h = refl
decided-joined connective.Or (Ok false) y h = absurd (cc)
decided-joined connective.Or (Err e) y h = absurd (cc)

without-memory : {A : Type 0} (s r : Result A EvalError) → is_memory s ≡ false → with_memory s r ≡ r
without-memory (Ok x) r h = refl
without-memory (Err NoKey) r h = refl
without-memory (Err NoOverload) r h = refl
without-memory (Err Overflow) r h = refl
without-memory (Err DivByZero) r h = refl
without-memory (Err OutOfRange) r h = refl
without-memory (Err BadConversion) r h = refl
without-memory (Err Memory) r h = absurd (cc)

folded-at : (c : Connective) (test : Single → Result Bool EvalError) (xs : List Single) (i : ℕ) (x : Single) → x ≡ get_or xs i x → i < length xs →
    folded c test (drop i xs) ≡ joined c (test x) (folded c test (drop (i + 1) xs))
folded-at c test xs i x e h = ap (folded c test) (drop_more xs i x h ∙ ap (λ u. u ∷ drop (i + 1) xs) (sym e))

pub fold-step : (c : Connective) (test : Single → Result Bool EvalError) (xs : List Single) (i : ℕ) (x : Single) (found found' side whole : Result Bool EvalError) →
    x ≡ get_or xs i x → i < length xs → (is_memory side || decides c side) ≡ false → Gives side (test x) → found' ≡ with_memory side (joined c found side) →
    joined c found (folded c test (drop i xs)) ≡ whole → joined c found' (folded c test (drop (i + 1) xs)) ≡ whole
fold-step c test xs i x found found' side whole e h stop g put w =
    let rest : Result Bool EvalError = folded c test (drop (i + 1) xs) in
    let m : is_memory side ≡ false = not-memory (is_memory side) (decides c side) stop in
    ap (λ (f : Result Bool EvalError). joined c f rest) (put ∙ without-memory side _ m)
    ∙ joined-assoc c found side rest
    ∙ ap (λ (s : Result Bool EvalError). joined c found (joined c s rest)) (sym (given side (test x) m g))
    ∙ ap (λ (r : Result Bool EvalError). joined c found r) (sym (folded-at c test xs i x e h)) ∙ w

unless-not : (c : Connective) (s : Result Bool EvalError) (n : ℕ) → decides c s ≡ false → unless_decided c s n ≡ n
unless-not c s n h = rw h refl

unless-so : (c : Connective) (s : Result Bool EvalError) (n : ℕ) → decides c s ≡ true → unless_decided c s n ≡ 0
unless-so c s n h = rw h refl

steps-at : (c : Connective) (test : Turn) (xs : List Single) (i : ℕ) (x : Single) → x ≡ get_or xs i x → i < length xs →
    folded_steps c test (drop i xs) ≡ 2 + test.steps x + unless_decided c (holds test.means x) (folded_steps c test (drop (i + 1) xs))
steps-at c test xs i x e h = ap (folded_steps c test) (drop_more xs i x h ∙ ap (λ u. u ∷ drop (i + 1) xs) (sym e))

pub fold-count : (c : Connective) (test : Turn) (xs : List Single) (i : ℕ) (x : Single) (side : Result Bool EvalError) (old mid new whole : ℕ) →
    x ≡ get_or xs i x → i < length xs → (is_memory side || decides c side) ≡ false → Gives side (holds test.means x) → mid ≡ old + 2 → Counts side mid new (test.steps x) →
    old + folded_steps c test (drop i xs) ≡ whole → new + folded_steps c test (drop (i + 1) xs) ≡ whole
fold-count c test xs i x side old mid new whole e h stop g two rose w =
    let n : ℕ = folded_steps c test (drop (i + 1) xs) in
    let m : is_memory side ≡ false = not-memory (is_memory side) (decides c side) stop in
    let d : decides c (holds test.means x) ≡ false = ap (decides c) (given side (holds test.means x) m g) ∙ not-decided (is_memory side) (decides c side) stop in
    let at : folded_steps c test (drop i xs) ≡ 2 + test.steps x + n = steps-at c test xs i x e h ∙ ap (λ (k : ℕ). 2 + test.steps x + k) (unless-not c (holds test.means x) n d) in
    let up : new ≡ mid + test.steps x = counted side mid new (test.steps x) m rose in
    omega arith

-- the count doesn't fall over an element
pub fold-least : (c : Connective) (side : Result Bool EvalError) (old new start k : ℕ) → (is_memory side || decides c side) ≡ false → start ≤ old → Counts side (old + 2) new k → start ≤ new
fold-least c side old new start k stop least rose =
    let up : new ≡ old + 2 + k = counted side (old + 2) new k (not-memory (is_memory side) (decides c side) stop) rose in omega (arith, least, up)

-- an error other than out of memory decides nothing
undecided : (c : Connective) (f : EvalError) → is_memory {A = Bool} (Err f) ≡ false → (is_memory {A = Bool} (Err f) || decides c (Err f)) ≡ true → ⊥
undecided connective.And f m stop = let e : true ≡ false = sym stop ∙ ap (λ (b : Bool). b || false) m in absurd (cc)
undecided connective.Or f m stop = let e : true ≡ false = sym stop ∙ ap (λ (b : Bool). b || false) m in absurd (cc)

-- a side after which nothing more is looked at
pub fold-stop : (c : Connective) (test : Turn) (xs : List Single) (i : ℕ) (x : Single) (side : Result Bool EvalError) (start old new total : ℕ) →
    x ≡ get_or xs i x → i < length xs → (is_memory side || decides c side) ≡ true → Gives side (holds test.means x) → Counts side (old + 2) new (test.steps x) → start ≤ old →
    old + folded_steps c test (drop i xs) ≡ start + total → Counts side start new total
fold-stop c test xs i x (Ok b) start old new total e h stop g rose least w =
    let n : ℕ = folded_steps c test (drop (i + 1) xs) in
    let d : decides c (holds test.means x) ≡ true = ap (decides c) g ∙ stop in
    let at : folded_steps c test (drop i xs) ≡ 2 + test.steps x + 0 = steps-at c test xs i x e h ∙ ap (λ (k : ℕ). 2 + test.steps x + k) (unless-so c (holds test.means x) n d) in
    omega (arith, at, rose, w)
fold-stop c test xs i x (Err Memory) start old new total e h stop g rose least w =
    let k : ℕ = unless_decided c (holds test.means x) (folded_steps c test (drop (i + 1) xs)) in
    let at : folded_steps c test (drop i xs) ≡ 2 + test.steps x + k = steps-at c test xs i x e h in
    (omega (arith, least, rose.0), omega (arith, at, rose.1, w))
fold-stop c test xs i x (Err NoKey) start old new total e h stop g rose least w = absurd (undecided c NoKey refl stop)
fold-stop c test xs i x (Err NoOverload) start old new total e h stop g rose least w = absurd (undecided c NoOverload refl stop)
fold-stop c test xs i x (Err Overflow) start old new total e h stop g rose least w = absurd (undecided c Overflow refl stop)
fold-stop c test xs i x (Err DivByZero) start old new total e h stop g rose least w = absurd (undecided c DivByZero refl stop)
fold-stop c test xs i x (Err OutOfRange) start old new total e h stop g rose least w = absurd (undecided c OutOfRange refl stop)
fold-stop c test xs i x (Err BadConversion) start old new total e h stop g rose least w = absurd (undecided c BadConversion refl stop)
