-- Nodes that weren't taken, as a list of names and the causes that aren't Unsat.
use Rattle.std.specs.Prelude.{ℕ, ◌+◌, ◌==◌, ◌≤◌, ◌<◌, List, [], ◌∷◌, ◌++◌, Option, None, Some, cond, length, map}
use Rattle.cluster.specs.declared.plan.Cause.{Cause}
use Rattle.cluster.specs.declared.plan.Cause.TheVariants as cause
use Rattle.cluster.specs.declared.plan.Passed.{Passed}
use Rattle.cluster.specs.declared.passed.NodeCause.{NodeCause}

-- the cause of the node at this index, if it is the first of these
abbrev pub next_cause : List NodeCause → ℕ → Option Cause
next_cause [] n = None
next_cause (c ∷ cs) n = cond (c.index == n) (Some c.cause) None

-- the causes of the nodes after this index
abbrev pub later_causes : List NodeCause → ℕ → List NodeCause
later_causes [] n = []
later_causes (c ∷ cs) n = cond (c.index == n) cs (c ∷ cs)

abbrev pub cause_or_unsat : Option Cause → Cause
cause_or_unsat None = cause.Unsat
cause_or_unsat (Some c) = c

-- the nodes of these names, the first at this index, each with its cause
abbrev pub passed_from : ℕ → List (List ℕ) → List NodeCause → List Passed
passed_from n [] cs = []
passed_from n (name ∷ names) cs = record { node = name; cause = cause_or_unsat (next_cause cs n) } ∷ passed_from (n + 1) names (later_causes cs n)

-- the causes with that of the next node
abbrev pub with_cause : List NodeCause → ℕ → Cause → List NodeCause
with_cause cs n cause.Unsat = cs
with_cause cs n (cause.Fault fault) = cs ++ record { index = n; cause = cause.Fault fault } ∷ []
with_cause cs n (cause.Budget steps) = cs ++ record { index = n; cause = cause.Budget steps } ∷ []
with_cause cs n (cause.Other claim) = cs ++ record { index = n; cause = cause.Other claim } ∷ []

-- the indexes increase, and are from the one to below the other
abbrev pub AreWithin : ℕ → ℕ → List NodeCause → Type 0
AreWithin n end [] = Unit {0}
AreWithin n end (c ∷ cs) = (n ≤ c.index) × (c.index < end) × AreWithin (c.index + 1) end cs

-- a node for each of the causes, and a name for each of the nodes
pub record ArePassed (names : List (List ℕ)) (count : ℕ) (causes : List NodeCause) : Type 0 where
  pub named : count ≤ length names
  pub within : AreWithin 0 count causes

-- names, and the first of them with their causes so far
pub record PassedFields : Type 0 where
  pub names : List (List ℕ)
  pub nodes : List Passed

-- the list of names with no node yet
abbrev pub none_passed : List (List ℕ) → PassedFields
none_passed names = record { names = names; nodes = [] }

-- the list with the node of this name
abbrev pub one_more : PassedFields → List ℕ → Cause → PassedFields
one_more p name why = record p { nodes = p.nodes ++ record { node = name; cause = why } ∷ [] }

-- the names of the nodes
abbrev pub names_of : List Passed → List (List ℕ)
names_of nodes = map (λ p. p.node) nodes
