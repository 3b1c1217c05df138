-- How many steps the evaluation of an expression takes on a device under the names that are bound. It counts
-- what is evaluated: each tree is one step beside those of what it evaluates, and after an error there is
-- nothing. The table is this project's own.
use Rattle.std.specs.Prelude.{ℕ, ◌+◌, List, [], ◌∷◌, Option, Some, None, if◌then◌else◌}
use Rattle.cel_tree.specs.declared.calls.Comprehension.{Comprehension}
use Rattle.cel_tree.specs.Ast.{Ast, Node, Form, Literal', Ident, Unary, Binary, Conditional, Member, Index, Call, Method, ListOf, MapOf, Asts, End, More, Entries, NoEntry, Pair}
use Rattle.cel_tree.specs.Calls.{called_of}
use Rattle.cel_tree.specs.Typing.{is_bind, is_has, is_end, variable_of, comprehension_in}
use Rattle.cel_value.specs.declared.value.Single.{Single}
use Rattle.cel_value.specs.Device.{Device}
use Rattle.cel_value.specs.Values.{weight_of}
use Rattle.cel_value.specs.Lookups.{elements_of}
use Rattle.cel_meaning.specs.declared.connective.Connective.{Connective}
use Rattle.cel_meaning.specs.Folds.{tested, as_single, as_key, connective_of}
use Rattle.cel_meaning.specs.Steps.{behind, unless_decided, weights, weighed, Turn, comprehended_steps}
use Rattle.cel_tree.specs.Scopes.{is_device}
use Rattle.cel_meaning.specs.Meaning.{Bindings, is_alone, bound_to, by_comprehension, means, each}

-- the steps of both operands, the second as far as it is evaluated, and the weights of their values
abbrev pub by_connective : Option Connective → (Connective → ℕ) → ℕ → ℕ
by_connective (Some c) f other = f c
by_connective None f other = other

-- after the variable of a macro
abbrev pub behind_variable : Option (List ℕ) → (List ℕ → ℕ) → ℕ
behind_variable (Some name) f = f name
behind_variable None f = 0

abbrev mutual
  pub cost : Device → Bindings → Ast → ℕ
  cost device names (Node span form) = 1 + within device names form

  -- the steps beside the tree's own
  pub within : Device → Bindings → Form → ℕ
  within device names (Literal' c) = 0
  within device names (Ident name) = 0
  within device names (Unary o t) = cost device names t
  within device names (Binary o t u) = cost device names t + by_connective (connective_of o)
      (λ c. unless_decided c (tested (means device names t)) (cost device names u))
      (behind (means device names t) (λ x. cost device names u) + weighed o (means device names t) (means device names u))
  within device names (Conditional t u v) =
      cost device names t + behind (tested (means device names t)) (λ b. if b then cost device names u else cost device names v)
  within device names (Member t name) = if is_device names t then 1 else cost device names t
  within device names (Index t u) = cost device names t + behind (means device names t) (λ x. cost device names u)
  within device names (Call name ts) =
      if is_has (called_of name) then has_steps device names ts
      else (each_steps device names ts + behind (each device names ts) (λ given. weights given))
  within device names (Method t name ts) =
      if is_bind t name then bind_steps device names ts
      else (cost device names t + behind (means device names t) (λ x. by_comprehension (comprehension_in (called_of name))
      (λ c. behind (elements_of device x) (λ xs. comprehension_steps device names c xs ts))
      (each_steps device names ts + behind (each device names ts) (λ given. weight_of x + weights given))))
  within device names (ListOf ts) = items_steps device names ts
  within device names (MapOf es) = entries_steps device names es

  -- arguments, one after another
  pub each_steps : Device → Bindings → Asts → ℕ
  each_steps device names End = 0
  each_steps device names (More t ts) = cost device names t + behind (means device names t) (λ x. each_steps device names ts)

  -- the items of a list literal
  pub items_steps : Device → Bindings → Asts → ℕ
  items_steps device names End = 0
  items_steps device names (More t ts) = cost device names t + behind (as_single (means device names t)) (λ x. items_steps device names ts)

  -- the entries of a map literal
  pub entries_steps : Device → Bindings → Entries → ℕ
  entries_steps device names NoEntry = 0
  entries_steps device names (Pair t u es) = cost device names t + behind (as_key (means device names t)) (λ key.
      cost device names u + behind (as_single (means device names u)) (λ x. entries_steps device names es))

  -- `has(object.name)`
  pub has_steps : Device → Bindings → Asts → ℕ
  has_steps device names End = 0
  has_steps device names (More t rest) = if is_end rest then has_in_steps device names t else 0

  pub has_in_steps : Device → Bindings → Ast → ℕ
  has_in_steps device names (Node span form) = has_form_steps device names form

  pub has_form_steps : Device → Bindings → Form → ℕ
  has_form_steps device names (Member t name) = if is_device names t then 0 else cost device names t
  has_form_steps device names form = 0

  -- `range.all(x, ..)` after its range
  pub comprehension_steps : Device → Bindings → Comprehension → List Single → Asts → ℕ
  comprehension_steps device names c xs End = 0
  comprehension_steps device names c xs (More x rest) = behind_variable (variable_of x) (λ name. comprehended_steps c (turns device names name rest) xs)

  pub turns : Device → Bindings → List ℕ → Asts → List Turn
  turns device names name End = []
  turns device names name (More t ts) =
      record { means = λ x. means device (bound_to name x names) t; steps = λ x. cost device (bound_to name x names) t } ∷ turns device names name ts

  -- `cel.bind(x, value, body)`
  pub bind_steps : Device → Bindings → Asts → ℕ
  bind_steps device names End = 0
  bind_steps device names (More x rest) = behind_variable (variable_of x) (λ name. bound_steps device names name rest)

  pub bound_steps : Device → Bindings → List ℕ → Asts → ℕ
  bound_steps device names name End = 0
  bound_steps device names name (More t rest) =
      if is_alone rest then cost device names t + behind (means device names t) (λ v. body_steps device ((name, v) ∷ names) rest) else 0

  pub body_steps : Device → Bindings → Asts → ℕ
  body_steps device names End = 0
  body_steps device names (More t rest) = cost device names t
