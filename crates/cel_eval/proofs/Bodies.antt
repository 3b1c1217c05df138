-- Macros with too few or too many arguments, and the bodies of comprehensions.
use Rattle.std.proofs.Common.{◌≡◌, ℕ, ◌+◌, ◌<◌, List, [], ◌∷◌, Bool, length, get_or, map, Box, Global, arith, refl, ap, sym, ◌∙◌}
use Rattle.std.specs.Prelude.{Option, Some, None, Result, Ok, Err}
use Rattle.cel_tree.specs.declared.tree.Tree.{Tree}
use Rattle.cel_tree.specs.declared.tree.Kind.{Kind}
use Rattle.cel_tree.specs.declared.tree.Kind as kind
use Rattle.cel_tree.specs.declared.calls.Comprehension.{Comprehension}
use Rattle.cel_tree.specs.declared.calls.Comprehension.TheVariants as form
use Rattle.cel_tree.specs.Ast.{tree_view, kind_view, asts_of}
use Rattle.cel_tree.specs.Typing.{variable_of}
use Rattle.cel_value.specs.declared.value.Single.{Single}
use Rattle.cel_value.specs.declared.error.EvalError.{EvalError}
use Rattle.cel_value.specs.declared.error.EvalError.TheVariants.{NoKey, NoOverload, Overflow, DivByZero, OutOfRange, BadConversion, Memory}
use Rattle.cel_value.specs.Device.{Device}
use Rattle.cel_value.specs.Values.{◌>>=◌, Gives}
use Rattle.cel_eval.specs.declared.making.Making.TheVariants as making
use Rattle.cel_meaning.specs.Folds.{as_value, are_one, gathered, list_value, comprehended}
use Rattle.cel_meaning.specs.Steps.{behind, gathered_steps, comprehended_steps}
use Rattle.cel_meaning.specs.Meaning.{Bindings, means, has_means, has_form, bind_means, comprehension_means, with_variable}
use Rattle.cel_meaning.specs.Cost.{cost, has_steps, has_form_steps, bind_steps, comprehension_steps, behind_variable}
use Rattle.cel_eval.specs.Answers.{Counts}
use Rattle.cel_eval.specs.Parts.{body, bodies, all_turns, maker, maker_steps}
use Rattle.cel_eval.proofs.Stops.{gives-equal}

-- ---- `has`

pub has-other : (device : Device) (names : Bindings) (ts : List Tree) → (length ts ≡ 1 → ⊥) → has_means device names (asts_of (map tree_view ts)) ≡ Err NoOverload
has-other device names [] n = refl
has-other device names (t ∷ []) n = absurd (n refl)
has-other device names (t ∷ u ∷ ts) n = refl

pub has-other-steps : (device : Device) (names : Bindings) (ts : List Tree) → (length ts ≡ 1 → ⊥) → has_steps device names (asts_of (map tree_view ts)) ≡ 0
has-other-steps device names [] n = refl
has-other-steps device names (t ∷ []) n = absurd (n refl)
has-other-steps device names (t ∷ u ∷ ts) n = refl

no_member : (device : Device) (names : Bindings) (k : Kind) → ((b : Box Tree Global) (x : List ℕ) → k ≡ kind.Member b x → ⊥) → has_form device names (kind_view k) ≡ Err NoOverload
no_member device names (kind.Literal l) n = refl
no_member device names (kind.Ident x) n = refl
no_member device names (kind.Unary' op p s t) n = refl
no_member device names (kind.Binary' op p s t q v u) n = refl
no_member device names (kind.Conditional' p s t q v u r x w) n = refl
no_member device names (kind.Member' p s t x) n = absurd (n _ _ refl)
no_member device names (kind.Index' p s t q v u) n = refl
no_member device names (kind.Call' x shape row) n = refl
no_member device names (kind.Method' p s t x shape row) n = refl
no_member device names (kind.List' shape row) n = refl
no_member device names (kind.Map' shape row) n = refl

no_member-steps : (device : Device) (names : Bindings) (k : Kind) → ((b : Box Tree Global) (x : List ℕ) → k ≡ kind.Member b x → ⊥) → has_form_steps device names (kind_view k) ≡ 0
no_member-steps device names (kind.Literal l) n = refl
no_member-steps device names (kind.Ident x) n = refl
no_member-steps device names (kind.Unary' op p s t) n = refl
no_member-steps device names (kind.Binary' op p s t q v u) n = refl
no_member-steps device names (kind.Conditional' p s t q v u r x w) n = refl
no_member-steps device names (kind.Member' p s t x) n = absurd (n _ _ refl)
no_member-steps device names (kind.Index' p s t q v u) n = refl
no_member-steps device names (kind.Call' x shape row) n = refl
no_member-steps device names (kind.Method' p s t x shape row) n = refl
no_member-steps device names (kind.List' shape row) n = refl
no_member-steps device names (kind.Map' shape row) n = refl

pub has-no_member : (device : Device) (names : Bindings) (ts : List Tree) (t : Tree) → length ts ≡ 1 → ((b : Box Tree Global) (x : List ℕ) → (get_or ts 0 t).kind ≡ kind.Member b x → ⊥) →
    has_means device names (asts_of (map tree_view ts)) ≡ Err NoOverload
has-no_member device names [] t h n = absurd (omega (arith, h))
has-no_member device names (x ∷ []) t h n = no_member device names x.kind n
has-no_member device names (x ∷ y ∷ ts) t h n = absurd (omega (arith, h))

pub has-no_member-steps : (device : Device) (names : Bindings) (ts : List Tree) (t : Tree) → length ts ≡ 1 → ((b : Box Tree Global) (x : List ℕ) → (get_or ts 0 t).kind ≡ kind.Member b x → ⊥) →
    has_steps device names (asts_of (map tree_view ts)) ≡ 0
has-no_member-steps device names [] t h n = absurd (omega (arith, h))
has-no_member-steps device names (x ∷ []) t h n = no_member-steps device names x.kind n
has-no_member-steps device names (x ∷ y ∷ ts) t h n = absurd (omega (arith, h))

-- ---- macros with a variable

nothing-behind : (x : Option (List ℕ)) → with_variable x (λ name. Err NoOverload) ≡ Err NoOverload
nothing-behind (Some name) = refl
nothing-behind None = refl

no-steps-behind : (x : Option (List ℕ)) → behind_variable x (λ name. 0) ≡ 0
no-steps-behind (Some name) = refl
no-steps-behind None = refl

pub bind-other : (device : Device) (names : Bindings) (ts : List Tree) → (length ts ≡ 3 → ⊥) → bind_means device names (asts_of (map tree_view ts)) ≡ Err NoOverload
bind-other device names [] n = refl
bind-other device names (x ∷ []) n = nothing-behind (variable_of (tree_view x))
bind-other device names (x ∷ t ∷ []) n = nothing-behind (variable_of (tree_view x))
bind-other device names (x ∷ t ∷ u ∷ []) n = absurd (n refl)
bind-other device names (x ∷ t ∷ u ∷ v ∷ ts) n = nothing-behind (variable_of (tree_view x))

pub bind-other-steps : (device : Device) (names : Bindings) (ts : List Tree) → (length ts ≡ 3 → ⊥) → bind_steps device names (asts_of (map tree_view ts)) ≡ 0
bind-other-steps device names [] n = refl
bind-other-steps device names (x ∷ []) n = no-steps-behind (variable_of (tree_view x))
bind-other-steps device names (x ∷ t ∷ []) n = no-steps-behind (variable_of (tree_view x))
bind-other-steps device names (x ∷ t ∷ u ∷ []) n = absurd (n refl)
bind-other-steps device names (x ∷ t ∷ u ∷ v ∷ ts) n = no-steps-behind (variable_of (tree_view x))

-- with three arguments
pub bind-is : (device : Device) (names : Bindings) (ts : List Tree) (x t : Tree) (name : List ℕ) → x ≡ get_or ts 0 x → t ≡ get_or ts 1 t → length ts ≡ 3 → variable_of (tree_view x) ≡ Some name →
    bind_means device names (asts_of (map tree_view ts)) ≡ (means device names (tree_view t) >>= λ v. means device ((name, v) ∷ names) (tree_view (get_or ts 2 t)))
bind-is device names [] x t name e f h v = absurd (omega arith)
bind-is device names (a ∷ []) x t name e f h v = absurd (omega arith)
bind-is device names (a ∷ b ∷ []) x t name e f h v = absurd (omega arith)
bind-is device names (a ∷ b ∷ u ∷ []) x t name e f h v =
    ap (λ (o : Option (List ℕ)). with_variable o (λ n. means device names (tree_view b) >>= λ w. means device ((n, w) ∷ names) (tree_view u))) (ap (λ (y : Tree). variable_of (tree_view y)) (sym e) ∙ v)
    ∙ ap (λ (y : Tree). means device names (tree_view y) >>= λ w. means device ((name, w) ∷ names) (tree_view u)) (sym f)
bind-is device names (a ∷ b ∷ u ∷ w ∷ ts) x t name e f h v = absurd (omega arith)

pub bind-steps-are : (device : Device) (names : Bindings) (ts : List Tree) (x t : Tree) (name : List ℕ) → x ≡ get_or ts 0 x → t ≡ get_or ts 1 t → length ts ≡ 3 → variable_of (tree_view x) ≡ Some name →
    bind_steps device names (asts_of (map tree_view ts)) ≡ cost device names (tree_view t) + behind (means device names (tree_view t)) (λ v. cost device ((name, v) ∷ names) (tree_view (get_or ts 2 t)))
bind-steps-are device names [] x t name e f h v = absurd (omega arith)
bind-steps-are device names (a ∷ []) x t name e f h v = absurd (omega arith)
bind-steps-are device names (a ∷ b ∷ []) x t name e f h v = absurd (omega arith)
bind-steps-are device names (a ∷ b ∷ u ∷ []) x t name e f h v =
    ap (λ (o : Option (List ℕ)). behind_variable o (λ n. cost device names (tree_view b) + behind (means device names (tree_view b)) (λ w. cost device ((n, w) ∷ names) (tree_view u)))) (ap (λ (y : Tree). variable_of (tree_view y)) (sym e) ∙ v)
    ∙ ap (λ (y : Tree). cost device names (tree_view y) + behind (means device names (tree_view y)) (λ w. cost device ((name, w) ∷ names) (tree_view u))) (sym f)
bind-steps-are device names (a ∷ b ∷ u ∷ w ∷ ts) x t name e f h v = absurd (omega arith)

-- ---- comprehensions: the first argument is the variable

pub with-name : (device : Device) (names : Bindings) (c : Comprehension) (xs : List Single) (ts : List Tree) (t : Tree) (name : List ℕ) →
    t ≡ get_or ts 0 t → 0 < length ts → variable_of (tree_view t) ≡ Some name →
    comprehension_means device names c xs (asts_of (map tree_view ts)) ≡ comprehended c (bodies device names name ts) xs
with-name device names c xs [] t name e h v = absurd (omega arith)
with-name device names c xs (x ∷ ts) t name e h v =
    ap (λ (o : Option (List ℕ)). with_variable o (λ n. comprehended c (bodies device names n (x ∷ ts)) xs)) (ap (λ (u : Tree). variable_of (tree_view u)) (sym e) ∙ v)

pub with-name-steps : (device : Device) (names : Bindings) (c : Comprehension) (xs : List Single) (ts : List Tree) (t : Tree) (name : List ℕ) →
    t ≡ get_or ts 0 t → 0 < length ts → variable_of (tree_view t) ≡ Some name →
    comprehension_steps device names c xs (asts_of (map tree_view ts)) ≡ comprehended_steps c (all_turns device names name ts) xs
with-name-steps device names c xs [] t name e h v = absurd (omega arith)
with-name-steps device names c xs (x ∷ ts) t name e h v =
    ap (λ (o : Option (List ℕ)). behind_variable o (λ n. comprehended_steps c (all_turns device names n (x ∷ ts)) xs)) (ap (λ (u : Tree). variable_of (tree_view u)) (sym e) ∙ v)

-- as many bodies as arguments after the variable
pub no-bodies : (device : Device) (names : Bindings) (name : List ℕ) (c : Comprehension) (xs : List Single) (ts : List Tree) →
    (length ts ≡ 2 → ⊥) → (length ts ≡ 3 → c ≡ form.Map → ⊥) → comprehended c (bodies device names name ts) xs ≡ Err NoOverload
no-bodies device names name form.All xs [] m n = refl
no-bodies device names name form.All xs (x ∷ []) m n = refl
no-bodies device names name form.All xs (x ∷ t ∷ []) m n = absurd (m refl)
no-bodies device names name form.All xs (x ∷ t ∷ u ∷ ts) m n = refl
no-bodies device names name form.Exists xs [] m n = refl
no-bodies device names name form.Exists xs (x ∷ []) m n = refl
no-bodies device names name form.Exists xs (x ∷ t ∷ []) m n = absurd (m refl)
no-bodies device names name form.Exists xs (x ∷ t ∷ u ∷ ts) m n = refl
no-bodies device names name form.ExistsOne xs [] m n = refl
no-bodies device names name form.ExistsOne xs (x ∷ []) m n = refl
no-bodies device names name form.ExistsOne xs (x ∷ t ∷ []) m n = absurd (m refl)
no-bodies device names name form.ExistsOne xs (x ∷ t ∷ u ∷ ts) m n = refl
no-bodies device names name form.Filter xs [] m n = refl
no-bodies device names name form.Filter xs (x ∷ []) m n = refl
no-bodies device names name form.Filter xs (x ∷ t ∷ []) m n = absurd (m refl)
no-bodies device names name form.Filter xs (x ∷ t ∷ u ∷ ts) m n = refl
no-bodies device names name form.Map xs [] m n = refl
no-bodies device names name form.Map xs (x ∷ []) m n = refl
no-bodies device names name form.Map xs (x ∷ t ∷ []) m n = absurd (m refl)
no-bodies device names name form.Map xs (x ∷ t ∷ u ∷ []) m n = absurd (n refl refl)
no-bodies device names name form.Map xs (x ∷ t ∷ u ∷ v ∷ ts) m n = refl

pub no-turns : (device : Device) (names : Bindings) (name : List ℕ) (c : Comprehension) (xs : List Single) (ts : List Tree) →
    (length ts ≡ 2 → ⊥) → (length ts ≡ 3 → c ≡ form.Map → ⊥) → comprehended_steps c (all_turns device names name ts) xs ≡ 0
no-turns device names name form.All xs [] m n = refl
no-turns device names name form.All xs (x ∷ []) m n = refl
no-turns device names name form.All xs (x ∷ t ∷ []) m n = absurd (m refl)
no-turns device names name form.All xs (x ∷ t ∷ u ∷ ts) m n = refl
no-turns device names name form.Exists xs [] m n = refl
no-turns device names name form.Exists xs (x ∷ []) m n = refl
no-turns device names name form.Exists xs (x ∷ t ∷ []) m n = absurd (m refl)
no-turns device names name form.Exists xs (x ∷ t ∷ u ∷ ts) m n = refl
no-turns device names name form.ExistsOne xs [] m n = refl
no-turns device names name form.ExistsOne xs (x ∷ []) m n = refl
no-turns device names name form.ExistsOne xs (x ∷ t ∷ []) m n = absurd (m refl)
no-turns device names name form.ExistsOne xs (x ∷ t ∷ u ∷ ts) m n = refl
no-turns device names name form.Filter xs [] m n = refl
no-turns device names name form.Filter xs (x ∷ []) m n = refl
no-turns device names name form.Filter xs (x ∷ t ∷ []) m n = absurd (m refl)
no-turns device names name form.Filter xs (x ∷ t ∷ u ∷ ts) m n = refl
no-turns device names name form.Map xs [] m n = refl
no-turns device names name form.Map xs (x ∷ []) m n = refl
no-turns device names name form.Map xs (x ∷ t ∷ []) m n = absurd (m refl)
no-turns device names name form.Map xs (x ∷ t ∷ u ∷ []) m n = absurd (n refl refl)
no-turns device names name form.Map xs (x ∷ t ∷ u ∷ v ∷ ts) m n = refl

-- more than two bodies, or two and no `map`
pub neither : (ts : List Tree) (c : Comprehension) → (length ts ≡ 3 → ⊥) → length ts ≡ 3 → c ≡ form.Map → ⊥
neither ts c n h e = n h

pub not-two : (ts : List Tree) → length ts ≡ 3 → length ts ≡ 2 → ⊥
not-two ts h g = omega arith

-- ---- one body

pub gives-value : (r m : Result Bool EvalError) → Gives r m → Gives (as_value r) (as_value m)
gives-value (Ok b) m g = gives-equal _ _ (ap as_value g)
gives-value (Err NoKey) m g = ap as_value g
gives-value (Err NoOverload) m g = ap as_value g
gives-value (Err Overflow) m g = ap as_value g
gives-value (Err DivByZero) m g = ap as_value g
gives-value (Err OutOfRange) m g = ap as_value g
gives-value (Err BadConversion) m g = ap as_value g
gives-value (Err Memory) m g = tt

pub gives-one : (r m : Result (List Single) EvalError) → Gives r m → Gives (are_one r) (are_one m)
gives-one (Ok b) m g = gives-equal _ _ (ap are_one g)
gives-one (Err NoKey) m g = ap are_one g
gives-one (Err NoOverload) m g = ap are_one g
gives-one (Err Overflow) m g = ap are_one g
gives-one (Err DivByZero) m g = ap are_one g
gives-one (Err OutOfRange) m g = ap are_one g
gives-one (Err BadConversion) m g = ap are_one g
gives-one (Err Memory) m g = tt

pub counts-one : (r : Result (List Single) EvalError) (old new k : ℕ) → Counts r old new k → Counts (are_one r) old new k
counts-one (Ok xs) old new k h = h
counts-one (Err NoKey) old new k h = h
counts-one (Err NoOverload) old new k h = h
counts-one (Err Overflow) old new k h = h
counts-one (Err DivByZero) old new k h = h
counts-one (Err OutOfRange) old new k h = h
counts-one (Err BadConversion) old new k h = h
counts-one (Err Memory) old new k h = h

pub one-body : (device : Device) (names : Bindings) (name : List ℕ) (ts : List Tree) (t : Tree) → t ≡ get_or ts 1 t → length ts ≡ 2 →
    bodies device names name ts ≡ body device names name (tree_view t) ∷ []
one-body device names name [] t e h = absurd (omega arith)
one-body device names name (x ∷ []) t e h = absurd (omega arith)
one-body device names name (x ∷ u ∷ []) t e h = ap (λ (v : Tree). body device names name (tree_view v) ∷ []) (sym e)
one-body device names name (x ∷ u ∷ v ∷ ts) t e h = absurd (omega arith)

pub filter-is : (device : Device) (names : Bindings) (name : List ℕ) (ts : List Tree) (xs : List Single) (c : Comprehension) → c ≡ form.Filter → length ts ≡ 2 →
    comprehended c (bodies device names name ts) xs ≡ list_value (maker making.Filter (bodies device names name ts)) xs
filter-is device names name [] xs c e h = absurd (omega arith)
filter-is device names name (x ∷ []) xs c e h = absurd (omega arith)
filter-is device names name (x ∷ u ∷ []) xs c e h = rw e refl
filter-is device names name (x ∷ u ∷ v ∷ ts) xs c e h = absurd (omega arith)

pub filter-steps : (device : Device) (names : Bindings) (name : List ℕ) (ts : List Tree) (xs : List Single) (c : Comprehension) → c ≡ form.Filter → length ts ≡ 2 →
    comprehended_steps c (all_turns device names name ts) xs ≡ gathered_steps (maker making.Filter (bodies device names name ts)) (maker_steps making.Filter (all_turns device names name ts)) xs
filter-steps device names name [] xs c e h = absurd (omega arith)
filter-steps device names name (x ∷ []) xs c e h = absurd (omega arith)
filter-steps device names name (x ∷ u ∷ []) xs c e h = rw e refl
filter-steps device names name (x ∷ u ∷ v ∷ ts) xs c e h = absurd (omega arith)

pub one-is : (device : Device) (names : Bindings) (name : List ℕ) (ts : List Tree) (xs : List Single) (c : Comprehension) → c ≡ form.ExistsOne → length ts ≡ 2 →
    comprehended c (bodies device names name ts) xs ≡ are_one (gathered (maker making.Filter (bodies device names name ts)) xs)
one-is device names name [] xs c e h = absurd (omega arith)
one-is device names name (x ∷ []) xs c e h = absurd (omega arith)
one-is device names name (x ∷ u ∷ []) xs c e h = rw e refl
one-is device names name (x ∷ u ∷ v ∷ ts) xs c e h = absurd (omega arith)

pub one-steps : (device : Device) (names : Bindings) (name : List ℕ) (ts : List Tree) (xs : List Single) (c : Comprehension) → c ≡ form.ExistsOne → length ts ≡ 2 →
    comprehended_steps c (all_turns device names name ts) xs ≡ gathered_steps (maker making.Filter (bodies device names name ts)) (maker_steps making.Filter (all_turns device names name ts)) xs
one-steps device names name [] xs c e h = absurd (omega arith)
one-steps device names name (x ∷ []) xs c e h = absurd (omega arith)
one-steps device names name (x ∷ u ∷ []) xs c e h = rw e refl
one-steps device names name (x ∷ u ∷ v ∷ ts) xs c e h = absurd (omega arith)

pub map-is : (device : Device) (names : Bindings) (name : List ℕ) (ts : List Tree) (xs : List Single) (c : Comprehension) → c ≡ form.Map → length ts ≡ 2 →
    comprehended c (bodies device names name ts) xs ≡ list_value (maker making.Map (bodies device names name ts)) xs
map-is device names name [] xs c e h = absurd (omega arith)
map-is device names name (x ∷ []) xs c e h = absurd (omega arith)
map-is device names name (x ∷ u ∷ []) xs c e h = rw e refl
map-is device names name (x ∷ u ∷ v ∷ ts) xs c e h = absurd (omega arith)

pub map-steps : (device : Device) (names : Bindings) (name : List ℕ) (ts : List Tree) (xs : List Single) (c : Comprehension) → c ≡ form.Map → length ts ≡ 2 →
    comprehended_steps c (all_turns device names name ts) xs ≡ gathered_steps (maker making.Map (bodies device names name ts)) (maker_steps making.Map (all_turns device names name ts)) xs
map-steps device names name [] xs c e h = absurd (omega arith)
map-steps device names name (x ∷ []) xs c e h = absurd (omega arith)
map-steps device names name (x ∷ u ∷ []) xs c e h = rw e refl
map-steps device names name (x ∷ u ∷ v ∷ ts) xs c e h = absurd (omega arith)

-- ---- two bodies

pub both-is : (device : Device) (names : Bindings) (name : List ℕ) (ts : List Tree) (xs : List Single) (c : Comprehension) → c ≡ form.Map → length ts ≡ 3 →
    comprehended c (bodies device names name ts) xs ≡ list_value (maker making.TestAndMap (bodies device names name ts)) xs
both-is device names name [] xs c e h = absurd (omega arith)
both-is device names name (x ∷ []) xs c e h = absurd (omega arith)
both-is device names name (x ∷ u ∷ []) xs c e h = absurd (omega arith)
both-is device names name (x ∷ u ∷ v ∷ []) xs c e h = rw e refl
both-is device names name (x ∷ u ∷ v ∷ w ∷ ts) xs c e h = absurd (omega arith)

pub both-are : (device : Device) (names : Bindings) (name : List ℕ) (ts : List Tree) (xs : List Single) (c : Comprehension) → c ≡ form.Map → length ts ≡ 3 →
    comprehended_steps c (all_turns device names name ts) xs ≡ gathered_steps (maker making.TestAndMap (bodies device names name ts)) (maker_steps making.TestAndMap (all_turns device names name ts)) xs
both-are device names name [] xs c e h = absurd (omega arith)
both-are device names name (x ∷ []) xs c e h = absurd (omega arith)
both-are device names name (x ∷ u ∷ []) xs c e h = absurd (omega arith)
both-are device names name (x ∷ u ∷ v ∷ []) xs c e h = rw e refl
both-are device names name (x ∷ u ∷ v ∷ w ∷ ts) xs c e h = absurd (omega arith)
