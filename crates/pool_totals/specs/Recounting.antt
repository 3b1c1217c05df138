-- The totals of the pools that a change of slices touches, made anew.
use Rattle.std.specs.Prelude.{ℕ, ◌≡◌, ◌≤◌, Bool, true, false, Option, None, Some, if◌then◌else◌}
use Rattle.api_slice.specs.declared.types.ResourceSlice.{ResourceSlice}
use Rattle.pool_view.specs.declared.inventory.Inventory.{Inventory}
use Rattle.pool_view.specs.declared.stored.Stored.{Stored}
use Rattle.pool_view.specs.OnePool.{is_in}
use Rattle.pool_view.specs.Pools.{Offered}
use Rattle.pool_view.specs.Usable.{counted_slices, usable_slices}
use Rattle.request_rules.specs.Draws.{CounterId, is_of_pool, value_among}
use Rattle.counter_sets.specs.Holding.{Holders}
use Rattle.counter_sets.specs.Totals.{KeptCounters, drawn_in, sum_most, value_of}
use Rattle.pool_totals.specs.Counting.{draws_among, is_taken}
use Rattle.pool_totals.specs.declared.recount.PoolTotals.{PoolTotals}

-- What the totals have of one counter is so (`AreCounted` says it of each).
pub record IsCounted (i : Inventory) (h : Holders) (kept : KeptCounters) (c : CounterId) : Type 0 where
  pub value_is : value_of kept c ≡ value_among (usable_slices i) c
  pub drawn_is : drawn_in kept c ≡ draws_among (is_taken h) (counted_slices i) c
  pub fits : (chosen : Offered → Bool) → draws_among chosen (counted_slices i) c ≤ sum_most

-- What the totals have of the counters of a slice's pool is so.
pub record AreCountedFor (i : Inventory) (h : Holders) (x : ResourceSlice) (kept : KeptCounters) : Type 0 where
  pub each : (c : CounterId) → is_of_pool x c ≡ true → IsCounted i h kept c

-- the counter is one of the pool's
abbrev pub is_recounted : Option PoolTotals → CounterId → Bool
is_recounted None c = false
is_recounted (Some p) c = is_of_pool p.slice c

-- the value of a counter, and what is drawn from it, where the counters of the pool are taken
abbrev pub value_taken : Option PoolTotals → Option ℕ → CounterId → Option ℕ
value_taken None value c = value
value_taken (Some p) value c = if is_of_pool p.slice c then value_of p.totals c else value

abbrev pub drawn_taken : Option PoolTotals → ℕ → CounterId → ℕ
drawn_taken None drawn c = drawn
drawn_taken (Some p) drawn c = if is_of_pool p.slice c then drawn_in p.totals c else drawn

-- they are those of the pool of a stored slice, if there is one
abbrev pub IsOld : Option (Stored ResourceSlice) → Option PoolTotals → Type 0
IsOld None None = Unit {0}
IsOld None (Some q) = ⊥
IsOld (Some s) None = ⊥
IsOld (Some s) (Some q) = q.slice ≡ s.object

-- they are those of the pool of a stored slice, if there is one that isn't of the pool of x
abbrev pub IsReplaced : ResourceSlice → Option (Stored ResourceSlice) → Option PoolTotals → Type 0
IsReplaced x None None = Unit {0}
IsReplaced x None (Some q) = ⊥
IsReplaced x (Some s) None = is_in x.driver x.pool.name s.object ≡ true
IsReplaced x (Some s) (Some q) = q.slice ≡ s.object
