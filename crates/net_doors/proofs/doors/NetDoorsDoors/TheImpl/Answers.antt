use Rattle.std.proofs.Common.{rules}
use Rattle.std.proofs.lemmas.Result.{IfOk-weaker}
use Rattle.net_doors.proofs.Traits.{handed_none, new_is}
use Rattle.net_doors.proofs.doors.NetDoorsDoors.TheImpl.Goals as goal

pub open-tells : goal.open-tells
open-tells g x x' c = record {
  count = search rules;
  new = IfOk-weaker c.result _ _ (λ doors each i d lt. new_is i c.args.n c.args.connections _ (each i d lt)) c.ensures.doors;
  given = search rules;
  same_given = search rules;
  same_served = search rules;
  same_ended = search rules;
  cause = search rules;
}

pub close-tells : goal.close-tells
close-tells g x x' c = record {
  taken = search rules;
  served = search rules;
  ended = handed_none c.args.doors.items;
  later = search rules;
  rose = search rules;
  faultless = search rules;
}
