use Rattle.request_rows.proofs.Made.{found}
use Rattle.request_rows.proofs.rows.Rows.fault_of.Goals as goal

pub returns : goal.returns
returns c =
    found (record { wants = c.self.inside.wants.now; devices = c.self.inside.devices.now; broken = c.self.inside.broken }) c.args.self.now c.self.inside.options c.self.inside.requests c.as_slice.result.now c.self.inside.rows c.as_slice-rows.result.now c.self.inside.columns c.as_slice-columns.result.now c.args.choice.now c.in_ok-chosen.chosen.items c.deref.result.now c.in_ok-place.place
    c.self.invariant c.self.view_is c.as_slice.ensures c.as_slice-rows.ensures c.as_slice-columns.ensures c.in_ok-chosen.ensures c.deref.ensures.value c.in_ok-place.ensures
