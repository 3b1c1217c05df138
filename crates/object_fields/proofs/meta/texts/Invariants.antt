use Rattle.std.proofs.Common.{◌≡◌, []}
use Rattle.serde_json.specs.View.{members_view}
use Rattle.object_fields.specs.Meta.{labels_with}
use Rattle.object_fields.proofs.meta.texts.Given as goal

abbrev pub invariant-loop-key : goal.invariant-loop-key
invariant-loop-key l = record {
  can : (goal.iterator-loop-key).can_next l.key-iterator;
  finite : (goal.iterator-loop-key).is_finite l.key-iterator;
  rest : labels_with l.path l.labels (members_view l.key-iterator) ≡ labels_with l.path [] (members_view l.members.entries);
}
