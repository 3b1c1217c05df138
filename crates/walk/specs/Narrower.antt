-- Problems with fewer good lists of positions.
use Rattle.std.specs.Prelude.{ℕ, ◌≡◌, List, Bool, true}
use Rattle.walk.specs.Walk.{Problem, Shape, Faulty, Hopeless, Open, Item}

-- The problem q is p, but that fewer lists of positions are good: each that is good in q is good in p.
pub record IsNarrower (p q : Problem) : Type 0 where
  pub options : q.options ≡ p.options
  pub devices : q.devices ≡ p.devices
  pub shape : (c : List ℕ) → q.shape c ≡ p.shape c
  pub good : (c l : List ℕ) → q.good c l ≡ true → p.good c l ≡ true

abbrev pub stays_by : Problem → Item → Shape → Bool
stays_by q x Faulty = true
stays_by q x Hopeless = true
stays_by q x (Open slots) = q.good x.choice x.positions

-- the item's positions are good, if its choice has slots for them
abbrev pub stays : Problem → Item → Bool
stays q x = stays_by q x (q.shape x.choice)
