-- How the devices of a search differ.
use Rattle.std.specs.Prelude.{ℕ, ◌≡◌, List, Some, slice_get}
use Rattle.pool_view.specs.Pools.{Offered, id_in}

-- Devices of one cluster: they have different ids, and slices of one name are one slice.
pub record AreApart (devices : List Offered) : Type 0 where
  pub ids : (i j : ℕ) (o p : Offered) → slice_get devices i ≡ Some o → slice_get devices j ≡ Some p → id_in o ≡ id_in p → i ≡ j
  pub slices : (i j : ℕ) (o p : Offered) → slice_get devices i ≡ Some o → slice_get devices j ≡ Some p → o.slice.name ≡ p.slice.name → o.slice ≡ p.slice
