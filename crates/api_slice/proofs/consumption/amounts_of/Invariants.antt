use Rattle.std.proofs.Common.{◌≡◌, []}
use Rattle.serde_json.specs.View.{members_view}
use Rattle.api_slice.specs.Consumption.{amounts_with}
use Rattle.api_slice.proofs.consumption.amounts_of.Given as goal

-- the members that are left, after those read, are all members
abbrev pub invariant-loop-key : goal.invariant-loop-key
invariant-loop-key l = record {
  can : (goal.iterator-loop-key).can_next l.key-iterator;
  finite : (goal.iterator-loop-key).is_finite l.key-iterator;
  rest : amounts_with l.path l.amounts (members_view l.key-iterator) ≡ amounts_with l.path [] (members_view l.members.entries);
}
