-- What bytes in memory show.
use Rattle.std.specs.Prelude.{ℕ, List, drop}
use Rattle.dra_cli.specs.declared.memory.Kept.{Kept}
use Rattle.dra_cli.specs.declared.memory.Script.{Script}

-- the bytes that are left
abbrev pub left_of : Script → List ℕ
left_of s = drop s.next s.bytes.items

-- the bytes that were written
abbrev pub kept_of : Kept → List ℕ
kept_of s = s.bytes.items
