-- When a run has which status, unless an error is counted.
use Rattle.std.specs.Prelude.{ℕ, ◌≡◌, List, Option, Some}
use Rattle.dra_ports.specs.Causes.{Rose}

-- The input exposes its contents, which are these bytes, and no error of the input, the output or the disk was counted: by
-- the counts before and after.
pub record IsQuiet (bytes : List ℕ) (left : Option (List ℕ)) (reads reads_now writes writes_now disks disks_now : ℕ) : Type 0 where
  pub input : left ≡ Some bytes
  pub read : Rose reads reads_now → ⊥
  pub write : Rose writes writes_now → ⊥
  pub disk : Rose disks disks_now → ⊥
