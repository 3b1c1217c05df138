-- When something changed that a search depends on.
use Rattle.std.specs.Prelude.{ℕ, ◌≡◌, ◌+◌, ◌*◌, ◌%◌, ◌≤◌, List, [], ◌∷◌, Bool, ◌&&◌, Option, Some, slice_get}
use Rattle.std.specs.BTreeMap.{is_at}
use Rattle.std.specs.Map.{lookup}
use Rattle.std.specs.Option.{unwrap_or}
use Rattle.pool_view.specs.declared.names.PoolName.{PoolName}
use Rattle.pool_view.specs.Names.{text_eq}
use Rattle.pool_view.specs.Usable.{pool_cmp}

-- the names are of one pool
abbrev pub names : PoolName → PoolName → Bool
names p q = text_eq p.driver q.driver && text_eq p.pool q.pool

-- what a table has at a pool
abbrev pub at : PoolName → List (PoolName × ℕ) → Option ℕ
at pool freed = lookup (is_at (pool_cmp pool)) freed

-- and 0 if there is nothing
abbrev pub index_in : List (PoolName × ℕ) → PoolName → ℕ
index_in freed pool = unwrap_or (at pool freed) 0

-- no pool has a greater index
pub record AreUpTo (freed : List (PoolName × ℕ)) (latest : ℕ) : Type 0 where
  pub each : (pool : PoolName) → index_in freed pool ≤ latest

-- ---- pools by a number of their names

abbrev pub number_from : ℕ → List ℕ → ℕ
number_from number [] = number
number_from number (byte ∷ bytes) = number_from ((number * 31 + byte) % 256) bytes

-- the number of a pool, which others may have too
abbrev pub number_of : PoolName → ℕ
number_of pool = number_from 0 pool.pool

-- no pool of a number has a greater index than there is for the number
pub record AreNumbered (freed : List (PoolName × ℕ)) (numbered : List ℕ) : Type 0 where
  pub each : (pool : PoolName) (most : ℕ) → slice_get numbered (number_of pool) ≡ Some most → index_in freed pool ≤ most

pub record AreKept (freed : List (PoolName × ℕ)) (latest : ℕ) (numbered : List ℕ) : Type 0 where
  pub up_to : AreUpTo freed latest
  pub by_number : AreNumbered freed numbered

-- what there was at a number is at most what there is now, and so is an index
pub record IsAbove (old : List ℕ) (number index now : ℕ) : Type 0 where
  pub before : ℕ
  pub there : slice_get old number ≡ Some before
  pub rises : before ≤ now
  pub index_within : index ≤ now

-- only what there is at a number has changed, and is at least an index
pub record IsRaised (old : List ℕ) (number index : ℕ) (new : List ℕ) : Type 0 where
  pub here : (now : ℕ) → slice_get new number ≡ Some now → IsAbove old number index now
  pub others : (other now : ℕ) → (other ≡ number → ⊥) → slice_get new other ≡ Some now → slice_get old other ≡ Some now
