-- A seat's view of the lock, and its stage on the way through one turn. Tickets are numbers that never fall; the words have them modulo 2^64.
use Rattle.std.specs.Prelude.{ℕ, Bool, true, false, List, [], ◌∷◌, Option, Some, None}
use Rattle.atomic_table.specs.Seated.{TableId}
use Rattle.turn_lock.specs.declared.view.View.{View}
use Rattle.turn_lock.specs.declared.view.Stage.{Stage}
use Rattle.turn_lock.specs.declared.view.Stage.TheVariants.{Idle, Waiting, InTurn, Holding, Returned}
use Rattle.turn_lock.specs.Known.{Known}

module _ {E : Type 0} where
  -- 1 if it has a ticket, else 0
  abbrev pub ticketed : Stage E → ℕ
  ticketed Idle = 0
  ticketed (Waiting t) = 1
  ticketed (InTurn t) = 1
  ticketed (Holding t h) = 1
  ticketed (Returned t old h) = 1

  -- 1 if its ticket is known to be the one served, else 0
  abbrev pub in_turn : Stage E → ℕ
  in_turn Idle = 0
  in_turn (Waiting t) = 0
  in_turn (InTurn t) = 1
  in_turn (Holding t h) = 1
  in_turn (Returned t old h) = 1

  -- its ticket, if it has one
  abbrev pub ticket : Stage E → ℕ
  ticket Idle = 0
  ticket (Waiting t) = t
  ticket (InTurn t) = t
  ticket (Holding t h) = t
  ticket (Returned t old h) = t

  -- the history that its turn began with, while the state is out with it
  abbrev pub turn_of : Stage E → Option (List E)
  turn_of Idle = None
  turn_of (Waiting t) = None
  turn_of (InTurn t) = None
  turn_of (Holding t h) = Some h
  turn_of (Returned t old h) = None

  -- a stage between two calls
  abbrev pub rests : Stage E → Bool
  rests Idle = true
  rests (Waiting t) = false
  rests (InTurn t) = false
  rests (Holding t h) = true
  rests (Returned t old h) = false

  abbrev pub with_stage : View E → Stage E → View E
  with_stage v st = record { front = v.front; beside = v.beside; own = v.own; share = v.share; number = v.number; stage = st }

  -- what the clauses see of it
  abbrev pub known_of : TableId → View E → Known E
  known_of id v = record { table = id; front = v.front; own = v.own; share = v.share; number = v.number; turn = turn_of v.stage }

-- The slots that a seat carries between two calls: while it has a turn the one slot, whose state `enter` took out
abbrev pub carried : {T E : Type 0} → Stage E → List (ℕ × Option T)
carried Idle = []
carried (Waiting t) = []
carried (InTurn t) = []
carried (Holding t h) = (0, None) ∷ []
carried (Returned t old h) = []
