-- The parts of a choice's items that lie under what is placed.
use Rattle.std.specs.Prelude.{ℕ, zero, suc, ◌≤◌, ◌≡◌, ◌+◌, ◌-◌, true, List, [], ◌∷◌, ◌++◌, map, length}
use Rattle.std.specs.List.{filter, AllByRecursion}
use Rattle.walk.specs.Lists.{position_lists}
use Rattle.walk.specs.Walk.{Shape, Faulty, Hopeless, Open, Problem, Item, item}
use Rattle.deep_search.specs.declared.board.Begun.{Begun}
use Rattle.deep_search.specs.declared.board.Begun.TheVariants as begun
use Rattle.deep_search.specs.declared.answer.Window.{Window}

abbrev pub shape_of : Begun → Shape
shape_of begun.Faulty = Faulty
shape_of begun.Hopeless = Hopeless
shape_of (begun.Open slots) = Open slots

-- the items whose positions begin with l, with at most `room` more
unfoldable pub items_under : Problem → List ℕ → List ℕ → ℕ → List Item
items_under p c l room = map (item p c) (filter (p.good c) (map (λ m. l ++ m) (position_lists p.devices room)))

-- those under l and one more position, for so many positions
unfoldable pub branches : Problem → List ℕ → List ℕ → ℕ → (first count : ℕ) → List Item
branches p c l room first zero = []
branches p c l room first (suc count) = items_under p c (l ++ first ∷ []) room ++ branches p c l room (first + 1) count

-- those under the positions of a window behind l
abbrev pub within : Problem → List ℕ → List ℕ → ℕ → Window → List Item
within p c l room w = branches p c l room w.next (w.end - w.next)

-- what is left of the items, given the windows of the slots behind `prefix`, in which the positions
-- are placed: first what is left in the last window
unfoldable pub pending : Problem → List ℕ → (prefix : List ℕ) → ℕ → List Window → List ℕ → List Item
pending p c prefix room [] l = []
pending p c prefix room (w ∷ ws) [] = within p c prefix room w
pending p c prefix room (w ∷ ws) (x ∷ l) = pending p c (prefix ++ x ∷ []) (room - 1) ws l ++ within p c prefix room w

-- no position of the window is good
pub record Passed (p : Problem) (c l m : List ℕ) (w : Window) : Type 0 where
  pub placed : m ≡ l
  pub nothing : (room : ℕ) → within p c l room w ≡ []

-- the first good position of the window is placed, and rest is the window behind it
pub record Placed (p : Problem) (c l m : List ℕ) (w rest : Window) : Type 0 where
  pub placed : m ≡ l ++ (rest.next - 1) ∷ []
  pub good : p.good c m ≡ true
  pub end : rest.end ≡ w.end
  pub items : (room : ℕ) → within p c l room w ≡ items_under p c m room ++ within p c l room rest

abbrev pub Ends : Problem → List Window → Type 0
Ends p ws = AllByRecursion (λ w. w.end ≤ p.devices) ws

-- one window more
pub record Opened (p : Problem) (ws vs : List Window) (slots : ℕ) : Type 0 where
  pub fits : length vs ≤ slots
  pub window : Window
  pub opened : vs ≡ ws ++ window ∷ []
  pub end : window.end ≤ p.devices

-- the windows are those of the slots that are filled and of the one behind them, or none is left
pub record Standing (p : Problem) (c l : List ℕ) (slots : ℕ) (ws : List Window) : Type 0 where
  pub good : p.good c l ≡ true
  pub shape : p.shape c ≡ Open slots
  pub fits : length ws ≤ slots
  pub depth : length l ≡ length ws - 1
  pub ends : Ends p ws
