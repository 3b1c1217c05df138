-- The rule of the lock: what always holds of its two words, its slot and the views of all seats. A view with no share is spent.
use Rattle.std.specs.Prelude.{◌≡◌, ◌≢◌, ◌⊎◌, ℕ, ◌+◌, ◌%◌, ◌<◌, ◌≤◌, List, [], ◌∷◌, length, Option, Some}
use mathlib.Core.Option.{some}
use mathlib.Core.Option as maybe
use mathlib.Core.List.{IsPrefix}
use lib.ListN.{get_elem?}
use Rattle.atomic_table.specs.Table.{State}
use Rattle.turn_lock.specs.declared.view.View.{View}
use Rattle.turn_lock.specs.declared.view.Stage.{Stage}
use Rattle.turn_lock.specs.declared.view.Stage.TheVariants.{Idle, Waiting, InTurn, Holding, Returned}
use Rattle.turn_lock.specs.Places.{times, Grown}
use Rattle.turn_lock.specs.Stages.{ticketed, in_turn, ticket}

module _ {E : Type 0} where
  -- f of each view, added up
  abbrev pub total : (View E → ℕ) → List (View E) → ℕ
  total f [] = 0
  total f (v ∷ vs) = f v + total f vs

  abbrev pub first_view : List E → ℕ → ℕ → View E
  first_view history passes number = record { front = history; beside = []; own = []; share = passes; number = number; stage = Idle }

  module _ (given served published : ℕ) (base : List E) where
    -- what the rule states about a stage
    abbrev pub Stands : Stage E → Type 0
    Stands Idle = Unit {0}
    Stands (Waiting t) = (served ≤ t) × (t < given)
    Stands (InTurn t) = (t ≡ served) × (t < given) × (published ≡ length base)
    Stands (Holding t h) = (t ≡ served) × (t < given) × (published ≡ length base) × (h ≡ base)
    Stands (Returned t old h) = (t ≡ served) × (t < given) × (published ≡ length old) × (h ≡ base) × Grown old h

    -- what it states about a view, if the state has this number
    pub record Fits (number : ℕ) (v : View E) : Type 0 where
      pub stands : Stands v.stage
      pub alive : ticketed v.stage ≤ v.share
      pub begins : IsPrefix v.front base
      pub begins_too : IsPrefix v.beside base
      pub same : 0 < v.share → v.number ≡ number
      pub spent : v.share ≡ 0 → v.own ≡ []

-- the state is in the slot, with this history and number
abbrev pub AtHome : {T E : Type 0} → (T → List E) → (T → ℕ) → ℕ → List E → List (maybe.Option (Option T)) → Type 0
AtHome {T} history number fixed base homes = (x : T) × (get_elem? homes 0 ≡ some (some (Some x))) × (history x ≡ base) × (number x ≡ fixed)

-- some view holds the state
abbrev pub IsOut : {E : Type 0} → List (View E) → Type 0
IsOut {E} views = (j : ℕ) × (v : View E) × (t : ℕ) × (h : List E) × (get_elem? views j ≡ some v) × (v.stage ≡ Holding t h)

-- `given` and `served` are the tickets, `base` is the history at home or as the view in turn took it out, and `published` is its length when a turn last ended
pub record InOrder {T E : Type 0} (history : T → List E) (number : T → ℕ) (opening : List E) (passes fixed : ℕ) (s : State (Option T) (View E)) : Type 0 where
  pub given : ℕ
  pub served : ℕ
  pub published : ℕ
  pub base : List E
  pub words : s.words ≡ (given % 18446744073709551616) ∷ (served % 18446744073709551616) ∷ []
  pub few : passes ≤ 65
  pub count : given ≡ served + total (λ v. ticketed v.stage) s.views
  pub shares : total (λ v. v.share) s.views ≡ passes
  pub each : (j : ℕ) (v : View E) → get_elem? s.views j ≡ some v → Fits given served published base fixed v
  -- no two views have one ticket, so at most one is in turn
  pub apart : (j k : ℕ) (v w : View E) → get_elem? s.views j ≡ some v → get_elem? s.views k ≡ some w → j ≢ k → ticketed v.stage ≡ 1 → ticketed w.stage ≡ 1 → ticket v.stage ≢ ticket w.stage
  pub home : AtHome history number fixed base s.homes ⊎ IsOut s.views
  pub resting : ((j : ℕ) (v : View E) → get_elem? s.views j ≡ some v → in_turn v.stage ≡ 0) → published ≡ length base
  -- each index past the opening is one view's own, up to the last turn's end, and no other index is
  pub opened : length opening ≤ published
  pub owned : (p : ℕ) → length opening < p → p ≤ published → total (λ v. times p v.own) s.views ≡ 1
  pub before : (p : ℕ) → p ≤ length opening → total (λ v. times p v.own) s.views ≡ 0
  pub after : (p : ℕ) → published < p → total (λ v. times p v.own) s.views ≡ 0
