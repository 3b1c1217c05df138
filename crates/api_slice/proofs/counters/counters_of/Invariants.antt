use Rattle.std.proofs.Common.{◌≡◌, []}
use Rattle.serde_json.specs.View.{members_view}
use Rattle.api_slice.specs.Entries.{counters_by}
use Rattle.api_slice.proofs.counters.counters_of.Given as goal

-- the members that are left, after those read, are all members
abbrev pub invariant-loop-key : goal.invariant-loop-key
invariant-loop-key l = record {
  can : (goal.iterator-loop-key).can_next l.key-iterator;
  finite : (goal.iterator-loop-key).is_finite l.key-iterator;
  rest : counters_by l.path l.counters (members_view l.key-iterator) ≡ counters_by l.path [] (members_view l.members.entries);
}
