use Rattle.node_inputs.proofs.apart.devices_differ.Goals as goal

pub returns-clause-apart : goal.returns-clause-apart
returns-clause-apart c = record {
  ids = λ i j o p e f same. c.devices_of_a_view_differ.ensures.ids c.args.inventory.now c.args.node.now i j o p e f same;
  slices = λ i j o p e f same. c.devices_of_a_view_differ.ensures.slices c.args.inventory.now c.args.node.now i j o p c.keeps_names.ensures c.keeps_order.ensures e f same;
}

pub returns-clause-listed : goal.returns-clause-listed
returns-clause-listed c = record {
  in_slices = λ i o e. c.devices_of_a_view_differ.ensures.usable c.args.inventory.now c.args.node.now i o e;
  in_slice = λ i o e. c.devices_of_a_view_differ.ensures.listed c.args.inventory.now c.args.node.now i o e;
}

pub returns-clause-named : goal.returns-clause-named
returns-clause-named c = record {
  at_names = λ i o e.
      c.usable_slices_differ.ensures.stored c.args.inventory.now o.slice c.keeps_names.ensures c.keeps_order.ensures (c.devices_of_a_view_differ.ensures.usable c.args.inventory.now c.args.node.now i o e);
}
