-- What a chunk, or a map, becomes once the borrow of what it lends ends.
use Rattle.std.specs.Prelude.{ℕ, List, Result}
use Rattle.std.specs.Borrow.{Lends, LendsIfOk, Fml, RattleType, MutBor}
use Rattle.std.specs.BTreeMap.Lent.{OrdMembers}
use Rattle.std.specs.BTreeMap.{is_at}
use Rattle.std.specs.Map.{set_value}
use Rattle.shared_map.specs.Chunks.{with_value}
use Rattle.shared_map.specs.contracts.chunk.Chunk.{the_row as chunk_row}
use Rattle.shared_map.specs.contracts.group.Group.{the_row as group_row}
use Rattle.shared_map.specs.contracts.groups.Groups.{the_row as groups_row}
use Rattle.shared_map.specs.contracts.sharing.SharedMap.{the_row as map_row}

-- the value at the index is the last one written through r
abbrev pub LendsAt : (K V : RattleType) (g : OrdMembers K.Denot) → MutBor (List (K.Denot × V.Denot)) → ℕ → MutBor V.Denot → Fml
LendsAt K V g c at r =
    Lends (chunk_row K V (record { cmp = g.cmp }) (record { eq = g.eq }) (record { partial_cmp = g.partial_cmp })) V c r (with_value c.now at)

-- in a chunk, the value at the key is the last one written through r, and at `Err` nothing changes
abbrev pub LendsInChunk : (K V : RattleType) (g : OrdMembers K.Denot) → MutBor (List (K.Denot × V.Denot)) → K.Denot → {E : Type 0} → Result (MutBor V.Denot) E → Fml
LendsInChunk K V g c key r =
    LendsIfOk (chunk_row K V (record { cmp = g.cmp }) (record { eq = g.eq }) (record { partial_cmp = g.partial_cmp })) V c r (set_value (is_at (g.cmp key)) c.now) c.now

-- the same in a group
abbrev pub LendsInGroup : (K V : RattleType) (g : OrdMembers K.Denot) → MutBor (List (K.Denot × V.Denot)) → K.Denot → {E : Type 0} → Result (MutBor V.Denot) E → Fml
LendsInGroup K V g c key r =
    LendsIfOk (group_row K V (record { cmp = g.cmp }) (record { eq = g.eq }) (record { partial_cmp = g.partial_cmp })) V c r (set_value (is_at (g.cmp key)) c.now) c.now

-- the same in the groups of a map
abbrev pub LendsInGroups : (K V : RattleType) (g : OrdMembers K.Denot) → MutBor (List (K.Denot × V.Denot)) → K.Denot → {E : Type 0} → Result (MutBor V.Denot) E → Fml
LendsInGroups K V g c key r =
    LendsIfOk (groups_row K V (record { cmp = g.cmp }) (record { eq = g.eq }) (record { partial_cmp = g.partial_cmp })) V c r (set_value (is_at (g.cmp key)) c.now) c.now

-- in a map, the value at the key is the last one written through r, and at `Err` nothing changes
abbrev pub LendsEntry : (K V : RattleType) (g : OrdMembers K.Denot) → MutBor (List (K.Denot × V.Denot)) → K.Denot → {E : Type 0} → Result (MutBor V.Denot) E → Fml
LendsEntry K V g m key r =
    LendsIfOk (map_row K V (record { cmp = g.cmp }) (record { eq = g.eq }) (record { partial_cmp = g.partial_cmp })) V m r (set_value (is_at (g.cmp key)) m.now) m.now
