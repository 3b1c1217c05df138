use Rattle.std.proofs.Common.{◌≡◌}
use Rattle.serde_json.specs.Data.{no_members}
use Rattle.serde_json.specs.View.{members_view}
use Rattle.api_print.specs.Shapes.{with_entries}
use Rattle.api_print.proofs.listing.table.Given as goal

-- the entries that are left, put after those that were, are all entries
abbrev pub invariant-loop-key : goal.invariant-loop-key
invariant-loop-key g l =
    with_entries g.K.Named.name g.V.Printed.json (members_view l.members.entries) l.key-iterator ≡ with_entries g.K.Named.name g.V.Printed.json no_members l.table
