-- What is known of parts.
use Rattle.std.proofs.Common.{◌≡◌, ◌+◌, List, ◌∷◌, length, ap}
use Rattle.std.specs.Prelude.{option_map}
use Rattle.std.proofs.lemmas.List.Sums.{sum_by-cons}
use Rattle.cel_tree.specs.Estimate.{Bounds, arguments_of, elements_type, weights_of, steps_of, last_weight}
use Rattle.cel_cost.specs.declared.parts.Parts.{Parts}
use Rattle.cel_cost.specs.Capped.{cap, parts_of}

pub arguments_are : (p : Parts) (xs : List Bounds) → p ≡ parts_of xs → p.arguments ≡ arguments_of xs
unfolding parts_of
arguments_are p xs e = ap (λ (q : Parts). q.arguments) e

pub elements_are : (p : Parts) (xs : List Bounds) → p ≡ parts_of xs → p.elements ≡ elements_type xs
unfolding parts_of
elements_are p xs e = ap (λ (q : Parts). q.elements) e

pub number_is : (p : Parts) (xs : List Bounds) → p ≡ parts_of xs → p.number ≡ cap (length xs)
unfolding parts_of
number_is p xs e = ap (λ (q : Parts). q.number) e

pub weights_are : (p : Parts) (xs : List Bounds) → p ≡ parts_of xs → p.weight ≡ cap (weights_of xs)
unfolding parts_of
weights_are p xs e = ap (λ (q : Parts). q.weight) e

pub steps_are : (p : Parts) (xs : List Bounds) → p ≡ parts_of xs → p.steps ≡ cap (steps_of xs)
unfolding parts_of
steps_are p xs e = ap (λ (q : Parts). q.steps) e

pub last_is : (p : Parts) (xs : List Bounds) → p ≡ parts_of xs → p.last ≡ option_map cap (last_weight xs)
unfolding parts_of
last_is p xs e = ap (λ (q : Parts). q.last) e

pub weights-more : (x : Bounds) (xs : List Bounds) → weights_of (x ∷ xs) ≡ x.weight + weights_of xs
weights-more x xs = sum_by-cons (λ (b : Bounds). b.weight) x xs

pub steps-more : (x : Bounds) (xs : List Bounds) → steps_of (x ∷ xs) ≡ x.steps + steps_of xs
steps-more x xs = sum_by-cons (λ (b : Bounds). b.steps) x xs
