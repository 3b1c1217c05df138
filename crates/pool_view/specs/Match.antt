-- What selectors, one after another, evaluate to on a device.
use Rattle.std.specs.Prelude.{◌≡◌, ℕ, ◌+◌, ◌<◌, List, [], ◌∷◌, slice_get, Some, Result, Ok, Err}
use Rattle.object_fields.specs.declared.kind.Stage.{Stage}
use Rattle.cel_tree.specs.Typed.{Typed}
use Rattle.cel_value.specs.Device.{Device}
use Rattle.pool_view.specs.declared.matching.Match.{Match}
use Rattle.pool_view.specs.declared.matching.Match.TheVariants.{Yes, No, Fault}
use Rattle.pool_view.specs.declared.verdict.Verdict.{Verdict}
use Rattle.pool_view.specs.declared.verdict.Verdict.TheVariants as verdict
use Rattle.pool_view.specs.Matches.{match_of}
use Rattle.device_selector.specs.Selectors.{selector_of}

-- What a text evaluates to on the device. A text that is no selector is in no object that is applied; it
-- evaluates to No.
abbrev pub verdict_by : Device → Result Typed Stage → Verdict
verdict_by device (Ok c) = match_of device c.tree
verdict_by device (Err stage) = verdict.No

abbrev pub text_verdict : Device → List ℕ → Verdict
text_verdict device text = verdict_by device (selector_of text)

abbrev pub match_next : Verdict → ℕ → Match → Match
match_next verdict.Yes n later = later
match_next verdict.No n later = No
match_next (verdict.Fault cause) n later = Fault n cause

-- The first selector that isn't true of the device decides; n come before these.
abbrev pub match_from : Device → ℕ → List (List ℕ) → Match
match_from device n [] = Yes
match_from device n (t ∷ ts) = match_next (text_verdict device t) n (match_from device (n + 1) ts)

-- Each selector is true of the device.
pub record AreTrue (device : Device) (texts : List (List ℕ)) : Type 0 where
  pub each : (n : ℕ) (text : List ℕ) → slice_get texts n ≡ Some text → text_verdict device text ≡ verdict.Yes

-- The selector at an index, after selectors that are true of the device, evaluates so on the device.
pub record SaysBehindTrue (device : Device) (texts : List (List ℕ)) (place : ℕ) (said : Verdict) : Type 0 where
  pub text : List ℕ
  pub at : slice_get texts place ≡ Some text
  pub says : text_verdict device text ≡ said
  pub before : (n : ℕ) (other : List ℕ) → n < place → slice_get texts n ≡ Some other → text_verdict device other ≡ verdict.Yes
