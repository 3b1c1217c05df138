-- What a plan to add a record is.
use Rattle.std.specs.Prelude.{◌≡◌, ℕ, ◌+◌, ◌<◌, List, [], ◌∷◌, ◌++◌, length, Option, Some, None, Vec}
use Rattle.std.specs.declared.alloc.Global.{Global}
use Rattle.ckpt_journal.specs.Format.{block, blocks}
use Rattle.ckpt_journal.specs.Layout.{other_half, start_of}
use Rattle.ckpt_journal.specs.Plan.{append_steps, switch_steps, table_bytes}
use Rattle.ckpt_journal.specs.Steps.{Step}
use Rattle.ckpt_journal.specs.Table.{compact}
use Rattle.ckpt_journal.specs.declared.layout.Halves.{Halves}
use Rattle.ckpt_journal.specs.declared.plan.Plan.{Plan}
use Rattle.ckpt_journal.specs.declared.record.Record.{Record}
use Rattle.ckpt_journal.specs.declared.record.Row.{Row}

-- the record is added where the last one ends, or after the compacted table in the other half
abbrev pub IsPlaced : Halves → ℕ → List Row → Halves → ℕ → Option (List ℕ) → Type 0
IsPlaced h end rows new gate None = (new ≡ h) × (gate ≡ end)
IsPlaced h end rows new gate (Some table) = (table ≡ table_bytes rows) × (new ≡ other_half h) × (gate ≡ start_of (other_half h) + length (blocks (compact rows)))

abbrev pub bytes_in : Option (Vec ℕ Global) → Option (List ℕ)
bytes_in None = None
bytes_in (Some v) = Some v.items

pub record IsPlan (h : Halves) (end : ℕ) (rows : List Row) (item : Record) (p : Plan) : Type 0 where
  pub bytes : p.bytes.items ≡ block item ++ 0 ∷ []
  pub placed : IsPlaced h end rows p.halves p.gate (bytes_in p.table)
  pub room : p.gate + length p.bytes.items < start_of p.halves + h.half

-- the steps of a plan
abbrev pub steps_with : Halves → ℕ → List ℕ → Option (List ℕ) → List Step
steps_with h gate bytes None = append_steps gate bytes
steps_with h gate bytes (Some table) = switch_steps h table ++ append_steps gate bytes

abbrev pub steps_of : Halves → Plan → List Step
steps_of h p = steps_with h p.gate p.bytes.items (bytes_in p.table)

-- the closed gate that the record is added after is within this many bytes, or within the compacted table
abbrev pub reaches : Halves → ℕ → ℕ → Option (List ℕ) → Type 0
reaches h gate len None = gate < len
reaches h gate len (Some table) = gate < start_of (other_half h) + length table

abbrev pub IsReached : Halves → Plan → ℕ → Type 0
IsReached h p len = reaches h p.gate len (bytes_in p.table)
