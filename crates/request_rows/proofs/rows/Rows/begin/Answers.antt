use Rattle.request_rows.proofs.Made.{begun_rows, begun_shape, begun_slots}
use Rattle.request_rows.proofs.rows.Rows.begin.Goals as goal

pub returns-clause-shape : goal.returns-clause-shape
returns-clause-shape c =
    begun_shape (record { wants = c.self.inside.wants.now; devices = c.self.inside.devices.now; broken = c.self.inside.broken }) c.args.self.now c.self.inside.options c.self.inside.requests c.as_slice.result.now c.self.inside.rows c.as_slice-rows.result.now c.self.inside.columns c.args.choice.now c.in_ok-chosen.chosen.items c.deref.result.now c.in_ok-begun.begun.shape
    c.self.invariant c.self.view_is c.as_slice.ensures c.as_slice-rows.ensures c.in_ok-chosen.ensures c.deref.ensures.value c.in_ok-begun.ensures.shape

pub returns-clause-slots : goal.returns-clause-slots
returns-clause-slots c =
    begun_slots (record { wants = c.self.inside.wants.now; devices = c.self.inside.devices.now; broken = c.self.inside.broken }) c.args.self.now c.self.inside.options c.self.inside.requests c.as_slice.result.now c.self.inside.rows c.as_slice-rows.result.now c.self.inside.columns c.args.choice.now c.in_ok-chosen.chosen.items c.deref.result.now c.in_ok-begun.begun.slots.items
    c.self.invariant c.self.view_is c.as_slice.ensures c.as_slice-rows.ensures c.in_ok-chosen.ensures c.deref.ensures.value c.in_ok-begun.ensures.slots

pub returns-clause-rows : goal.returns-clause-rows
returns-clause-rows c =
    begun_rows (record { wants = c.self.inside.wants.now; devices = c.self.inside.devices.now; broken = c.self.inside.broken }) c.args.self.now c.self.inside.options c.self.inside.requests c.as_slice.result.now c.self.inside.rows c.as_slice-rows.result.now c.self.inside.columns c.args.choice.now c.in_ok-chosen.chosen.items c.deref.result.now c.in_ok-begun.begun.slots.items
    c.self.invariant c.self.view_is c.as_slice.ensures c.as_slice-rows.ensures c.in_ok-chosen.ensures c.deref.ensures.value c.in_ok-begun.ensures.slots
