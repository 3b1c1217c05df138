-- How far a budget goes along a list of items.
use Rattle.std.specs.Prelude.{ℕ, zero, suc, List, [], ◌∷◌, if◌then◌else◌}
use Rattle.walk.specs.Walk.{Item, Full, Fault}
use Rattle.walk.specs.Outcome.{Outcome, Ended, Unsat, Budget, ends}
use Rattle.deep_search.specs.declared.answer.Status.{Status}
use Rattle.deep_search.specs.declared.answer.Status.TheVariants as status
use Rattle.deep_search.specs.declared.answer.Answer.{Answer}
use Rattle.deep_search.specs.declared.answer.Answer.TheVariants as answer

-- the search has its outcome, or goes on with what is left of the budget
pub data Progress : Type 0 where
  Stopped : (outcome : Outcome) → Progress
  Left : (budget : ℕ) → Progress

unfoldable pub progress : ℕ → List Item → Progress
progress b [] = Left b
progress zero (x ∷ xs) = Stopped Budget
progress (suc b) (x ∷ xs) = if ends x then Stopped (Ended x) else progress b xs

-- what a status states where items are over, the board being at a choice and a list of positions
abbrev pub report : Status → ℕ → List ℕ → List ℕ → Progress
report status.Searching b c l = Left b
report status.Full b c l = Stopped (Ended (record { choice = c; positions = l; mark = Full }))
report status.Fault b c l = Stopped (Ended (record { choice = c; positions = []; mark = Fault }))
report status.Spent b c l = Stopped Budget

-- what it states where these items are still to come
abbrev pub onward : Status → ℕ → List ℕ → List ℕ → List Item → Progress
onward status.Searching b c l rest = progress b rest
onward status.Full b c l rest = Stopped (Ended (record { choice = c; positions = l; mark = Full }))
onward status.Fault b c l rest = Stopped (Ended (record { choice = c; positions = []; mark = Fault }))
onward status.Spent b c l rest = Stopped Budget

-- what an answer states, the board being at a choice and a list of positions
abbrev pub told : Answer → List ℕ → List ℕ → Outcome
told answer.Full c l = Ended (record { choice = c; positions = l; mark = Full })
told answer.Fault c l = Ended (record { choice = c; positions = []; mark = Fault })
told answer.Unsat c l = Unsat
told answer.Budget c l = Budget
