-- What the clauses see of a lock and of its passes, and what each call makes of a pass.
use Rattle.std.specs.Prelude.{◌≡◌, ℕ, ◌+◌, ◌-◌, ◌≤◌, List, [], ◌++◌, length, if◌then◌else◌, IfSome, Option, Some, None, ltb}
use Rattle.std.specs.List.{AllByRecursion}
use Rattle.atomic_table.specs.Seated.{TableId}
use Rattle.turn_lock.specs.Places.{new_places}

-- a lock: the table that it is built on, and, as they were at `new`, the number of passes, the history and the number of the state
pub record Opened (E : Type 0) : Type 0 where
  pub table : TableId
  pub passes : ℕ
  pub opening : List E
  pub number : ℕ

-- A pass: the table of its lock, the history that it saw last, the indices of the entries that were
-- made with it or with one joined into it, how many passes it may still be split into, and the number
-- of the state.
-- While it has a turn, `turn` is the history that the turn began with
pub record Known (E : Type 0) : Type 0 where
  pub table : TableId
  pub front : List E
  pub own : List ℕ
  pub share : ℕ
  pub number : ℕ
  pub turn : Option (List E)

module _ {E : Type 0} where
  -- the pass is one of this lock's
  abbrev pub IsOf : Opened E → Known E → Type 0
  IsOf l p = (p.table ≡ l.table) × (p.number ≡ l.number)

  -- the pass has no turn
  abbrev pub IsFree : Known E → Type 0
  IsFree p = p.turn ≡ None

  -- the pass has a turn, which began with this history
  abbrev pub HasTurn : Known E → List E → Type 0
  HasTurn p h = p.turn ≡ Some h

  -- each of the pass's own indices is one of its front
  abbrev pub OwnIsSeen : Known E → Type 0
  OwnIsSeen p = AllByRecursion (λ n. n ≤ length p.front) p.own

  -- the turn began with a history that is no shorter than the front
  abbrev pub BeginsLater : Known E → Type 0
  BeginsLater p = IfSome p.turn (λ h. length p.front ≤ length h)

  abbrev pub longer : List E → List E → List E
  longer a b = if ltb (length a) (length b) then b else a

  -- the pass that `new` returns: it knows the opening, and has every share
  abbrev pub first_pass : Opened E → Known E
  first_pass l = record { table = l.table; front = l.opening; own = []; share = l.passes; number = l.number; turn = None }

  -- after `enter`, which found this history
  abbrev pub entered : Known E → List E → Known E
  entered p h = record { table = p.table; front = p.front; own = p.own; share = p.share; number = p.number; turn = Some h }

  abbrev pub began : Option (List E) → List E
  began None = []
  began (Some h) = h

  -- after `leave`, which put this history back: it is the front, and the index that is new in it is the pass's own
  abbrev pub left : Known E → List E → Known E
  left p h = record { table = p.table; front = h; own = p.own ++ new_places (length (began p.turn)) (length h); share = p.share; number = p.number; turn = None }

  -- after `split`, and the pass that it returns
  abbrev pub lessened : Known E → Known E
  lessened p = record { table = p.table; front = p.front; own = p.own; share = p.share - 1; number = p.number; turn = p.turn }

  abbrev pub split_off : Known E → Known E
  split_off p = record { table = p.table; front = p.front; own = []; share = 1; number = p.number; turn = None }

  -- what `join` makes of two passes
  abbrev pub joined : Known E → Known E → Known E
  joined p q = record { table = p.table; front = longer p.front q.front; own = p.own ++ q.own; share = p.share + q.share; number = p.number; turn = None }
