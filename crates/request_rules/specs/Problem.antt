-- The search's problem.
use Rattle.std.specs.Prelude.{ℕ, ◌==◌, List, [], ◌∷◌, Bool, true, false, ◌&&◌, ◌||◌, length, nat_lt, if◌then◌else◌}
use Rattle.std.specs.List.{list_any, count_by}
use Rattle.walk.specs.Lists.{numbers}
use Rattle.walk.specs.Walk.{Problem, Shape, Faulty, Hopeless, Open}
use Rattle.api_claim.specs.declared.types.AllocationMode.{AllocationMode}
use Rattle.api_claim.specs.declared.types.AllocationMode.TheVariants.{ExactCount, All}
use Rattle.request_rules.specs.Input.{SearchInput}
use Rattle.request_rules.specs.Asked.{Asked, Slot, asked, is_fault, matching, options, slots}
use Rattle.request_rules.specs.Rules.{is_good}

-- the request has an evaluation error on a device
abbrev pub is_faulty : SearchInput → Asked → Bool
is_faulty w a = list_any (λ o. is_fault (w.matched a.ask o)) w.devices

abbrev pub is_all : AllocationMode → Bool
is_all (ExactCount n) = false
is_all All = true

abbrev pub is_none : List ℕ → Bool
is_none [] = true
is_none (x ∷ xs) = false

-- a request for all devices that fails as a whole
abbrev pub all_fails : SearchInput → Asked → Bool
all_fails w a = is_all a.ask.mode && (w.broken || is_none (matching w a.ask))

-- the most results of a claim
abbrev pub most_results : ℕ
most_results = 32

abbrev pub due_to : List Slot → ℕ → ℕ
due_to ss i = count_by (λ s. s.asked.label.claim == i) ss

-- a claim has more slots than it may have results
abbrev pub is_crowded : SearchInput → List Slot → Bool
is_crowded w ss = list_any (λ i. nat_lt most_results (due_to ss i)) (numbers 0 (length w.claims))

abbrev pub shape_by : SearchInput → List Asked → List Slot → Shape
shape_by w asks ss =
    if list_any (is_faulty w) asks then Faulty
    else if list_any (all_fails w) asks then Hopeless
    else if is_crowded w ss then Hopeless
    else Open (length ss)

unfoldable pub shape_of : SearchInput → List ℕ → Shape
shape_of w c = shape_by w (asked w c) (slots w c)

-- a choice that can't be met has no slots to fill
abbrev pub slots_by : Shape → List Slot → List Slot
slots_by Faulty ss = []
slots_by Hopeless ss = []
slots_by (Open n) ss = ss

unfoldable pub open_slots : SearchInput → List ℕ → List Slot
open_slots w c = slots_by (shape_of w c) (slots w c)

-- the positions begin an allocation for the choice
abbrev pub good : SearchInput → List ℕ → List ℕ → Bool
good w c l = is_good w (open_slots w c) l

abbrev pub problem_of : SearchInput → Problem
problem_of w = record { options = options w; devices = length w.devices; shape = shape_of w; good = good w }
