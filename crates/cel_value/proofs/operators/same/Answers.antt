use Rattle.std.proofs.Common.{◌∙◌, ap, Ok}
use Rattle.cel_value.proofs.Keys.{entries_same}
use Rattle.cel_value.proofs.operators.same.Goals as goal

pub returns-in-Map-Map : goal.returns-in-Map-Map
returns-in-Map-Map c =
    let h = c.eq-in-Map-Map.ensures ∙ entries_same c.in-Map-Map.left c.in-Map-Map.right in
    rw (c.in-Map-Map.is-0, c.in-Map-Map.is-1) (ap Ok h)
