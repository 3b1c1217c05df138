-- The eight kinds of step, and what each shows the seat that takes it. No other step is taken.
use Rattle.std.specs.Prelude.{◌≡◌, ◌≢◌, ℕ, ◌+◌, ◌-◌, ◌%◌, ◌≤◌, List, [], ◌∷◌, ◌++◌, length, if◌then◌else◌, Option, Some, ltb}
use mathlib.Core.List.{IsPrefix}
use Rattle.atomic_table.specs.Table.{Me, Step}
use Rattle.turn_lock.specs.declared.view.View.{View}
use Rattle.turn_lock.specs.declared.view.Stage.TheVariants.{Idle, Waiting, InTurn, Holding, Returned}
use Rattle.turn_lock.specs.Places.{new_places}
use Rattle.turn_lock.specs.Known.{longer}
use Rattle.turn_lock.specs.Stages.{with_stage}

abbrev Sat : Type 0 → Type 0 → Type 0
Sat T E = Me (Option T) (View E)

module _ {E : Type 0} where
  -- after a turn that began with the history `old` and ended with `now`
  abbrev pub after_turn : View E → List E → List E → View E
  after_turn v old now = record { front = now; beside = v.beside; own = v.own ++ new_places (length old) (length now); share = v.share; number = v.number; stage = Idle }

  abbrev pub shorter : List E → List E → List E
  shorter a b = if ltb (length a) (length b) then a else b

  -- split: the view has one share less, and the new view has that one
  abbrev pub lessened_view : View E → View E
  lessened_view v = record { front = v.front; beside = v.beside; own = v.own; share = v.share - 1; number = v.number; stage = v.stage }

  abbrev pub new_view : View E → View E
  new_view v = record { front = v.front; beside = v.beside; own = []; share = 1; number = v.number; stage = Idle }

  -- join: the kept view has the longer front, and the indices and shares of both; the other is spent
  abbrev pub joined_view : View E → View E → View E
  joined_view v w = record { front = longer v.front w.front; beside = shorter v.front w.front; own = v.own ++ w.own; share = v.share + w.share; number = v.number; stage = v.stage }

  abbrev pub spent_view : View E
  spent_view = record { front = []; beside = []; own = []; share = 0; number = 0; stage = Idle }

  abbrev pub met_view : View E → View E
  met_view v = record { front = v.front; beside = []; own = v.own; share = v.share; number = v.number; stage = v.stage }

module _ {T E : Type 0} where
  -- take: it has a ticket, and the word was that ticket
  abbrev pub took : Step (Option T) → Sat T E → ℕ → Sat T E → Type 0
  took st m n m' = (t : ℕ) × (n ≡ t % 18446744073709551616) × (m' ≡ (with_stage m.0 (Waiting t), m.1))

  -- look: it is in turn, if and only if the word is its ticket
  abbrev pub looked : Step (Option T) → Sat T E → ℕ → Sat T E → Type 0
  looked st m n m' = (t : ℕ) → m.0.stage ≡ Waiting t → (n ≡ t % 18446744073709551616 → m' ≡ (with_stage m.0 (InTurn t), m.1)) × (n ≢ t % 18446744073709551616 → m' ≡ m)

  -- slot out: it holds the state, whose history begins with its front and whose number is the one that it knows
  abbrev pub took_out : (T → List E) → (T → ℕ) → Step (Option T) → Sat T E → ℕ → Sat T E → Type 0
  took_out history number st m n m' = (t : ℕ) → m.0.stage ≡ InTurn t
      → (x : T) × (m' ≡ (with_stage m.0 (Holding t (history x)), (0, Some x) ∷ m.1)) × IsPrefix m.0.front (history x) × (number x ≡ m.0.number)

  -- slot in: the state is home again
  abbrev pub put_in : (T → List E) → Step (Option T) → Sat T E → ℕ → Sat T E → Type 0
  put_in history st m n m' = (t : ℕ) (old : List E) (x : T) → m.0.stage ≡ Holding t old → m.1 ≡ (0, Some x) ∷ [] → m' ≡ (with_stage m.0 (Returned t old (history x)), [])

  -- leave: the turn is over
  abbrev pub gave_up_turn : Step (Option T) → Sat T E → ℕ → Sat T E → Type 0
  gave_up_turn st m n m' = (t : ℕ) (old now : List E) → m.0.stage ≡ Returned t old now → m' ≡ (after_turn m.0 old now, m.1)

  -- meet, after a join: the shorter of the two fronts is a prefix of the longer
  abbrev pub met : Step (Option T) → Sat T E → ℕ → Sat T E → Type 0
  met st m n m' = (m' ≡ (met_view m.0, m.1)) × (length m.0.beside ≤ length m.0.front → IsPrefix m.0.beside m.0.front) × (m.0.share ≤ 65)
