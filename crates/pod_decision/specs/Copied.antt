-- The counters of the pools that a node sees.
use Rattle.std.specs.Prelude.{ℕ, ◌≡◌, ◌+◌, List, Some, true, slice_get}
use Rattle.api_slice.specs.declared.types.ResourceSlice.{ResourceSlice}
use Rattle.pool_view.specs.Pools.{Offered}
use Rattle.request_rules.specs.Draws.{CounterId, is_of_pool}
use Rattle.request_rules.specs.Lists.{Each}
use Rattle.counter_sets.specs.Totals.{KeptCounters, drawn_in, value_of}

-- the counters of the slice's pool are the same in both, with what is drawn from them
pub record IsCopied (x : ResourceSlice) (from kept : KeptCounters) : Type 0 where
  pub value_is : (c : CounterId) → is_of_pool x c ≡ true → value_of kept c ≡ value_of from c
  pub drawn_is : (c : CounterId) → is_of_pool x c ≡ true → drawn_in kept c ≡ drawn_in from c

-- so are those of the pools of devices
abbrev pub AreCopied : List Offered → (from kept : KeptCounters) → Type 0
AreCopied devices from kept = Each (λ o. IsCopied o.slice from kept) devices

-- the devices at the position and before it are of one pool
pub record IsLikeBefore (devices : List Offered) (position : ℕ) : Type 0 where
  pub before : ℕ
  pub next : position ≡ before + 1
  pub first : Offered
  pub device : Offered
  pub first_is : slice_get devices before ≡ Some first
  pub device_is : slice_get devices position ≡ Some device
  pub driver : first.slice.driver ≡ device.slice.driver
  pub pool : first.slice.pool.name ≡ device.slice.pool.name
