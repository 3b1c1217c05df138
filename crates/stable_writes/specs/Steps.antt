-- Changes of a disk that are made one after another, each of them stable before the next begins.
use Rattle.std.specs.Prelude.{◌≡◌, ◌⊎◌, ℕ, List, [], ◌∷◌, length, take, IsTrue, Option}
use Rattle.std.specs.Option.{option_map}
use Rattle.dra_ports.specs.DiskContent.{Content, IsImage, Partly, Sure, blurred, exactly, moved, shorter, spliced, synced}

-- a cut to a length, or a write of bytes from an offset on; then a sync
pub data Step : Type 0 where
  Cut : ℕ → Step
  Put : ℕ → List ℕ → Step

-- what a read returns after a step
abbrev pub step_bytes : Step → List ℕ → List ℕ
step_bytes (Cut len) bytes = take len bytes
step_bytes (Put at from) bytes = spliced at from bytes

-- what is sure while a step isn't synced yet
abbrev pub step_sure : Step → Sure → Sure
step_sure (Cut len) sure = shorter len sure
step_sure (Put at from) sure = blurred at (length from) sure

-- a step that isn't synced yet
abbrev pub begun : Step → Content → Content
begun step c = moved (step_bytes step c.bytes) (step_sure step c.sure) c

-- a step that is synced
abbrev pub done : Step → Content → Content
done step c = synced (begun step c)

abbrev pub all_done : List Step → Content → Content
all_done [] c = c
all_done (step ∷ steps) c = all_done steps (done step c)

-- the bytes that a read returns after all of them
abbrev pub all_bytes : List Step → List ℕ → List ℕ
all_bytes [] bytes = bytes
all_bytes (step ∷ steps) bytes = all_bytes steps (step_bytes step bytes)

-- the change failed, and nothing was done or some of it; or the sync failed
abbrev pub StepFailed : Step → Option Content → Option Content → Type 0
StepFailed step old new = Partly (step_sure step) old new ⊎ (new ≡ option_map (begun step) old)

-- some of the steps were done, from the first on, and then one failed
abbrev pub StoppedIn : List Step → Option Content → Option Content → Type 0
StoppedIn [] old new = ⊥
StoppedIn (step ∷ steps) old new = StepFailed step old new ⊎ StoppedIn steps (option_map (done step) old) new

-- whatever a crash leaves of bytes that are sure, P holds of it at each moment of these steps
abbrev pub Safe : (List ℕ → Type 0) → List Step → List ℕ → Type 0
Safe P [] bytes = P bytes
Safe P (step ∷ steps) bytes = P bytes × ((image : List ℕ) → IsImage (step_sure step (exactly bytes)) image → P image) × Safe P steps (step_bytes step bytes)

-- all that a read returns is sure, if the disk is honest
abbrev pub IsExact : Content → Type 0
IsExact c = IsTrue c.honest → c.sure ≡ exactly c.bytes
