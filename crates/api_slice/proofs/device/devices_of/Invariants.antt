use Rattle.std.proofs.Common.{◌≡◌, ◌++◌, length}
use Rattle.std.specs.Vec.Iter.{into_iter_items, into_iter_len}
use Rattle.api_slice.specs.Devices.{devices_with}
use Rattle.api_slice.specs.Properties.{ArePaired}
use Rattle.api_slice.proofs.device.devices_of.Given as goal

-- the devices made, and those that the rest of the columns make, are all devices
abbrev pub invariant-loop-name : goal.invariant-loop-name
invariant-loop-name l = record {
  rest : l.devices ++ devices_with (into_iter_items l.name-iterator) (into_iter_items l.attributes) (into_iter_items l.capacity) (into_iter_items l.consumes) (into_iter_items l.nodes) (into_iter_items l.taints) ≡ devices_with (into_iter_items l.initial.name-iterator) (into_iter_items l.initial.attributes) (into_iter_items l.initial.capacity) (into_iter_items l.initial.consumes) (into_iter_items l.initial.nodes) (into_iter_items l.initial.taints);
  paired : ArePaired (into_iter_items l.attributes) (into_iter_items l.capacity);
  names : into_iter_len l.name-iterator ≡ length (into_iter_items l.name-iterator);
  attributes : into_iter_len l.attributes ≡ length (into_iter_items l.attributes);
  capacity : into_iter_len l.capacity ≡ length (into_iter_items l.capacity);
  consumes : into_iter_len l.consumes ≡ length (into_iter_items l.consumes);
  nodes : into_iter_len l.nodes ≡ length (into_iter_items l.nodes);
  taints : into_iter_len l.taints ≡ length (into_iter_items l.taints);
}
