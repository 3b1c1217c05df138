-- A disk that exposes its content does so at each moment.
use Rattle.std.proofs.Common.{ℕ, ◌≡◌, List, refl}
use Rattle.std.specs.Prelude.{Option, None, Some}
use Rattle.dra_ports.specs.DiskContent.{Content}
use Rattle.dra_ports.specs.DiskImages.{AtEachMoment}
use Rattle.pod_prepare.specs.Words.{TellsStill}

pub tells_still : (P : List ℕ → Type 0) (x y : Option Content) → AtEachMoment P x y → TellsStill x y
tells_still P None None m = refl
tells_still P None (Some d) m = absurd m
tells_still P (Some c) None m = absurd m
tells_still P (Some c) (Some d) m = refl
