use Rattle.request_rows.specs.Wanted.{input_of}
use Rattle.allocator.proofs.Answering.{agreed_for}
use Rattle.allocator.proofs.searching.search_held.Goals as goal

pub search_totals-outcome-requires-clause-agreed : goal.search_totals-outcome-requires-clause-agreed
search_totals-outcome-requires-clause-agreed c =
    agreed_for (input_of c.args.rows.now) c.deref.result.now c.wants.inside.claims.items c.wants.inside.classes.now c.args.wants.now c.in_ok-agreements.agreements.items c.deref.ensures.value c.wants.view_is c.requires.claims
    (c.in_ok-agreements.ensures (input_of c.args.rows.now))
