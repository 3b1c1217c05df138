-- The claims that hold devices.
use Rattle.std.specs.Prelude.{◌≡◌, ℕ, List, [], ◌∷◌, Option, is_some, if◌then◌else◌, filter, map}
use Rattle.std.specs.BTreeMap.{insert_entry, is_at}
use Rattle.std.specs.Map.{lookup, remove_entry}
use Rattle.object_fields.specs.declared.key.DeviceId.{DeviceId}
use Rattle.object_fields.specs.declared.key.Key.{Key}
use Rattle.api_slice.specs.declared.types.Device.{Device}
use Rattle.api_slice.specs.declared.types.ResourceSlice.{ResourceSlice}
use Rattle.pool_view.specs.Names.{at_name, device_eq, text_cmp}
use Rattle.pool_view.specs.Pools.{Offered, id_in, id_of, offered_by}
use Rattle.counter_sets.specs.Totals.{KeptCounters, Tabled, changed_at, moved_by, or_empty, put_in}
use Rattle.counter_sets.specs.declared.change.Change.TheVariants.{Draw}

-- by driver, pool and device
abbrev pub Holders : Type 0
Holders = Tabled (Tabled (Tabled Key))

-- the held devices of a pool, by their names
abbrev pub held_in_pool : Holders → (driver pool : List ℕ) → Tabled Key
held_in_pool h driver pool = or_empty (at_name (or_empty (at_name h driver)) pool)

-- the claim that holds a device
unfoldable pub holder_in : Holders → DeviceId → Option Key
holder_in h id = at_name (held_in_pool h id.driver id.pool) id.device

-- the holders, and one of the pools
pub record PoolHolders : Type 0 where
  pub holders : Holders
  pub driver : List ℕ
  pub pool : List ℕ

-- they are these pairs of a device and its claim
pub record AreHeld (h : Holders) (pairs : List (DeviceId × Key)) : Type 0 where
  pub holder : (id : DeviceId) → holder_in h id ≡ lookup (λ d. device_eq d id) pairs

abbrev pub put_device : List ℕ → Key → Tabled Key → Tabled Key
put_device name key devices = insert_entry text_cmp devices name key

abbrev pub put_pool : DeviceId → Key → Tabled (Tabled Key) → Tabled (Tabled Key)
put_pool id key pools = put_in id.pool (λ devices. put_device id.device key devices) pools

-- with a device that is held
unfoldable pub put_driver : DeviceId → Key → Holders → Holders
put_driver id key h = put_in id.driver (λ pools. put_pool id key pools) h

-- without a device
abbrev pub left_device : List ℕ → Tabled Key → Tabled Key
left_device name devices = remove_entry (is_at (text_cmp name)) devices

abbrev pub left_pool : DeviceId → Tabled (Tabled Key) → Tabled (Tabled Key)
left_pool id pools = changed_at id.pool (λ devices. left_device id.device devices) pools

unfoldable pub left_driver : DeviceId → Holders → Holders
left_driver id h = changed_at id.driver (λ pools. left_pool id pools) h

-- the held ones among the devices of a slice
unfoldable pub offered_held : Holders → ResourceSlice → List Offered
offered_held h x = filter (λ o. is_some (holder_in h (id_in o))) (map (offered_by x) x.devices)

-- with what the held ones of a slice's devices draw
abbrev pub held_device : Holders → ResourceSlice → Device → KeptCounters → KeptCounters
held_device h x d kept = if is_some (holder_in h (id_of x d)) then moved_by Draw (offered_by x d) kept else kept

unfoldable pub added_held : Holders → ResourceSlice → List Device → KeptCounters → KeptCounters
added_held h x [] kept = kept
added_held h x (d ∷ ds) kept = added_held h x ds (held_device h x d kept)
