-- What is counted of the slices of a pool, by which it may be known to have no usable slices that counters are about.
use Rattle.std.specs.Prelude.{ℕ, ◌≡◌, ◌≤◌, ◌<◌, ◌+◌, ◌==◌, List, [], ◌∷◌, Bool, true, false, ◌&&◌, filter}
use Rattle.api_slice.specs.declared.types.ResourceSlice.{ResourceSlice}
use Rattle.pool_view.specs.Pools.{highest, newest}
use Rattle.pool_view.specs.Usable.{if_usable, is_counted}
use Rattle.pool_view.specs.declared.tally.Tally.{Tally}

abbrev pub one_if : Bool → ℕ
one_if true = 1
one_if false = 0

-- how many of the slices pass the test
abbrev pub tally : (ResourceSlice → Bool) → List ResourceSlice → ℕ
tally test [] = 0
tally test (x ∷ xs) = one_if (test x) + tally test xs

-- the slice has the generation
abbrev pub is_at : ℕ → ResourceSlice → Bool
is_at generation x = x.pool.generation == generation

-- and says that its pool has that many slices
abbrev pub says : ℕ → ℕ → ResourceSlice → Bool
says generation n x = is_at generation x && x.pool.slices == n

-- No slice has a higher generation than the newest, and so many have this. At least as many as agree say how many are
-- wanted. So many have counter sets, or devices that draw from some.
pub record IsTally (xs : List ResourceSlice) (t : Tally) : Type 0 where
  pub most : highest xs ≤ t.newest
  pub at_newest : t.at_newest ≡ tally (is_at t.newest) xs
  pub agreeing : t.agreeing ≤ tally (says t.newest t.wanted) xs
  pub counted : t.counted ≡ tally is_counted xs

-- One slice more is counted below the number.
pub record HasRoomBelow (t : Tally) (n : ℕ) : Type 0 where
  pub at_newest : t.at_newest < n
  pub agreeing : t.agreeing < n
  pub counted : t.counted < n

-- Counters are about none of the pool's usable slices.
abbrev pub AreUncounted : List ResourceSlice → Type 0
AreUncounted xs = filter is_counted (if_usable (newest xs)) ≡ []
