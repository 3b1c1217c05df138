-- A connection that a door accepted, and what is exposed of it once it has ended.
use Rattle.std.specs.Prelude.{ℕ, ◌-◌, List, [], ◌∷◌, ◌++◌, length, take, Option, Some, None}

pub record Visit (C : Type 0) : Type 0 where
  pub number : ℕ
  pub conn : C
  -- the connection as it was when it was accepted
  pub start : C

abbrev pub with_conn : {C : Type 0} → Visit C → C → Visit C
with_conn v conn = record { number = v.number; conn = conn; start = v.start }

-- a connection that was ended
pub record Ended : Type 0 where
  pub number : ℕ
  -- the bytes that were read from it
  pub read : List ℕ
  -- the bytes that were left to read
  pub left : List ℕ
  -- the bytes that were written to it
  pub written : List ℕ
  -- how often a read from it or a write to it has failed
  pub faults : ℕ

-- what is exposed of a connection, of which these bytes were left, and to which these were written, at first and at the end
abbrev pub exposed : ℕ → Option (List ℕ) → Option (List ℕ) → Option (List ℕ) → Option (List ℕ) → ℕ → Option Ended
exposed number (Some all) (Some left) (Some begun) (Some written) faults = Some (record { number = number; read = take (length all - length left) all; left = left; written = written; faults = faults })
exposed number _ _ _ _ faults = None

-- what a connection that ends now exposes, where `left`, `written` and `faults` are those of connections
abbrev pub ending : {C : Type 0} → (C → Option (List ℕ)) → (C → Option (List ℕ)) → (C → ℕ) → Visit C → Option Ended
ending left written faults v = exposed v.number (left v.start) (left v.conn) (written v.start) (written v.conn) (faults v.conn)

-- with one more connection, if all of them are exposed
abbrev pub with_ended : Option (List Ended) → Option Ended → Option (List Ended)
with_ended (Some es) (Some e) = Some (es ++ e ∷ [])
with_ended _ _ = None

-- the connections of one list and then those of the other, if both are exposed
abbrev pub joined : Option (List Ended) → Option (List Ended) → Option (List Ended)
joined (Some es) (Some fs) = Some (es ++ fs)
joined _ _ = None

-- the connections of these lists behind those of the first
unfoldable pub handed_on : Option (List Ended) → List (Option (List Ended)) → Option (List Ended)
handed_on es [] = es
handed_on es (fs ∷ rest) = handed_on (joined es fs) rest
