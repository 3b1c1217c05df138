-- What holds of all that a crash may leave, now or at each moment of a call.
use Rattle.std.specs.Prelude.{◌≡◌, ℕ, IsTrue, List, ◌++◌, Option, Some, None}
use Rattle.std.specs.List.{AllByRecursion}
use Rattle.dra_ports.specs.DiskContent.{Content, IsImage, Sure}

-- whatever bytes a crash leaves, P holds of them
abbrev pub Leaves : (List ℕ → Type 0) → Sure → Type 0
Leaves P sure = (image : List ℕ) → IsImage sure image → P image

-- at each moment from the old content to the new one, P holds of whatever bytes a crash then leaves
pub record Throughout (P : List ℕ → Type 0) (old new : Content) : Type 0 where
  -- what was sure at the moments from the old one on, but for the new one
  pub moments : List Sure
  pub passed : new.earlier ≡ old.earlier ++ moments
  pub each : AllByRecursion (Leaves P) moments
  pub now : Leaves P new.sure
  pub honest : new.honest ≡ old.honest

-- P holds of the content, if the disk exposes one and is honest
abbrev pub Where : (Content → Type 0) → Option Content → Type 0
Where P None = Unit {0}
Where P (Some c) = IsTrue c.honest → P c

-- the same of the content before and after a call, which is exposed after it if and only if it was before
abbrev pub AtEachMoment : (List ℕ → Type 0) → Option Content → Option Content → Type 0
AtEachMoment P None None = Unit {0}
AtEachMoment P (Some old) (Some new) = IsTrue old.honest → Throughout P old new
AtEachMoment P old new = ⊥
