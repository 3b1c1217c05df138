-- What was written to connections, in order of their numbers.
use Rattle.std.specs.Prelude.{◌≡◌, ℕ, List, map}
use Rattle.std.specs.Ordering.{nat_cmp}
use Rattle.std.specs.List.Sorted.{IsPermutation, IsSortedByKey, IsStableByKey}
use Rattle.door_ports.specs.Visits.{Ended}

-- fs are the connections es, sorted by their numbers; those with the same number stay in their order
pub record AreInOrder (es fs : List Ended) : Type 0 where
  pub same : IsPermutation es fs
  pub sorted : IsSortedByKey (λ (e : Ended). e.number) nat_cmp fs
  pub stable : IsStableByKey (λ (e : Ended). e.number) nat_cmp es fs

-- what was written to these connections, in order of their numbers
pub record AreReplies (es : List Ended) (texts : List (List ℕ)) : Type 0 where
  pub visits : List Ended
  pub in_order : AreInOrder es visits
  pub written : texts ≡ map (λ e. e.written) visits
