-- Counter sets by their names.
use Rattle.std.specs.Prelude.{ℕ, List, [], ◌∷◌, Bool, Option, None, Some, is_some, if◌then◌else◌}
use Rattle.std.specs.BTreeMap.{insert_entry}
use Rattle.std.specs.List.{list_all}
use Rattle.api_slice.specs.declared.types.CounterConsumption.{CounterConsumption}
use Rattle.api_slice.specs.declared.types.CounterSet.{CounterSet}
use Rattle.api_slice.specs.declared.types.Device.{Device}
use Rattle.api_slice.specs.declared.types.ResourceSlice.{ResourceSlice}
use Rattle.pool_view.specs.Names.{at_name, text_cmp}
use Rattle.pool_view.specs.Pools.{has_each}

abbrev pub NamedSets : Type 0
NamedSets = List (List ℕ × CounterSet)

-- these and those of the list, or None if a name appears twice
abbrev pub named_with : NamedSets → List CounterSet → Option NamedSets
named_with named [] = Some named
named_with named (s ∷ ss) = if is_some (at_name named s.name) then None else named_with (insert_entry text_cmp named s.name s) ss

-- one of them has the name, and it has each of the counters
abbrev pub has_draw : NamedSets → CounterConsumption → Bool
has_draw named c = has_each (at_name named c.set) c.amounts

abbrev pub has_draws : NamedSets → Device → Bool
has_draws named d = list_all (has_draw named) d.consumes

abbrev pub has_all_draws : NamedSets → ResourceSlice → Bool
has_all_draws named x = list_all (has_draws named) x.devices
