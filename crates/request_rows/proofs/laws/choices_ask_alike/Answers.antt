use Rattle.std.proofs.Common.{refl}
use Rattle.request_rules.specs.Asked.{asked, matching, seats, slots, tolerated_at}
use Rattle.request_rules.specs.Faults.{fault_of}
use Rattle.request_rules.specs.Problem.{open_slots, shape_of}
use Rattle.request_rules.specs.Ways.{all_asked}
use Rattle.request_rows.proofs.laws.choices_ask_alike.Goals as goal

pub returns : goal.returns
unfolding all_asked asked fault_of matching open_slots seats shape_of slots tolerated_at
returns c = record {
  options = λ w held value drawn. refl;
  asked = λ w held value drawn. refl;
  shape = λ w held value drawn c. refl;
  slots = λ w held value drawn c. refl;
  fault = λ w held value drawn c. refl;
  meets = λ w held value drawn a x. refl;
  tolerated = λ w held value drawn a x. refl;
}
