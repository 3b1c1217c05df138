use Rattle.std.proofs.Common.{◌≡◌, []}
use Rattle.serde_json.specs.View.{members_view}
use Rattle.api_slice.specs.Entries.{capacity_by}
use Rattle.api_slice.proofs.capacity.capacity_with.Given as goal

-- the members that are left, after those read, are all members
abbrev pub invariant-loop-key : goal.invariant-loop-key
invariant-loop-key l = record {
  can : (goal.iterator-loop-key).can_next l.key-iterator;
  finite : (goal.iterator-loop-key).is_finite l.key-iterator;
  rest : capacity_by l.driver l.path l.capacity (members_view l.key-iterator) ≡ capacity_by l.driver l.path [] (members_view l.members.entries);
}
