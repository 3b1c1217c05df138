-- What a table, or a shared value, becomes once the borrow of what it lends ends.
use Rattle.std.specs.Prelude.{List, Option, Result}
use Rattle.std.specs.Borrow.{LendsIf, LendsIfOk, Fml, RattleType, MutBor}
use Rattle.std.specs.BTreeMap.{is_at}
use Rattle.std.specs.BTreeMap.Lent.{OrdMembers}
use Rattle.std.specs.Map.{set_value}
use Rattle.dra_values.specs.contracts.table.Table.{the_row as table_row}
use Rattle.dra_values.specs.contracts.shared.Shared.{the_row as shared_row}

-- the value at the key is the last one written through r
abbrev pub LendsValue : (K V : RattleType) (g : OrdMembers K.Denot) → MutBor (List (K.Denot × V.Denot)) → K.Denot → Option (MutBor V.Denot) → Fml
LendsValue K V g t key r =
    LendsIf (table_row K V (record { cmp = g.cmp }) (record { eq = g.eq }) (record { partial_cmp = g.partial_cmp })) V t r (set_value (is_at (g.cmp key)) t.now) t.now

-- the shared value is the last one written through r, and at `Err` it is unchanged
abbrev pub LendsShared : (T : RattleType) → MutBor T.Denot → {E : Type 0} → Result (MutBor T.Denot) E → Fml
LendsShared T s r = LendsIfOk (shared_row T) T s r (λ w. w) s.now
