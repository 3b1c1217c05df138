-- Which claims a driver has prepared and not taken back, and where they stand.
use Rattle.std.specs.Prelude.{◌≡◌, ℕ, Bool, true, false, ◌&&◌, nat_eq, IsTrue, List, [], ◌∷◌, Option, Some, None, if◌then◌else◌}
use Rattle.std.specs.Cmp.Lexicographic.{pointwise}
use Rattle.dra_ports.specs.DiskContent.{Content}
use Rattle.dra_ports.specs.DiskImages.{AtEachMoment, Leaves}
use Rattle.ckpt_journal.specs.Standing.{HasTable}
use Rattle.ckpt_journal.specs.Table.{has_uid}
use Rattle.ckpt_journal.specs.declared.record.Record.{Record}
use Rattle.ckpt_journal.specs.declared.record.Record.TheVariants.{Begun, Prepared, Leaving, Gone}
use Rattle.ckpt_journal.specs.declared.record.Row.{Row}
use Rattle.prepare_core.specs.declared.driver.CallKind.{CallKind}
use Rattle.prepare_core.specs.declared.driver.CallKind.TheVariants.{Prepare, Unprepare}
use Rattle.prepare_core.specs.declared.driver.DriverCall.{DriverCall}

abbrev pub is_prepare : CallKind → Bool
is_prepare Prepare = true
is_prepare Unprepare = false

-- a call that returned Ok decides for its claim
abbrev pub held_by : List ℕ → Bool → DriverCall → Bool
held_by uid before c = if c.ok && pointwise nat_eq c.claim.uid uid then is_prepare c.kind else before

abbrev pub held_from : List ℕ → Bool → List DriverCall → Bool
held_from uid before [] = before
held_from uid before (c ∷ calls) = held_from uid (held_by uid before c) calls

-- the last call for the claim that returned Ok was to prepare it
abbrev pub is_held : List ℕ → List DriverCall → Bool
is_held uid calls = held_from uid false calls

-- each claim that is held has a row
pub record HasHeld (calls : List DriverCall) (table : List Row) : Type 0 where
  pub has : (uid : List ℕ) → is_held uid calls ≡ true → has_uid uid table ≡ true

-- the table of the bytes has each claim that is held
pub record HoldsIn (calls : List DriverCall) (bytes : List ℕ) : Type 0 where
  pub rows : List Row
  pub table : HasTable rows bytes
  pub held : HasHeld calls rows

-- whatever a crash leaves at the end has P, if the disk was honest at the start
abbrev pub AtTheEnd : (List ℕ → Type 0) → Option Content → Option Content → Type 0
AtTheEnd P None None = Unit {0}
AtTheEnd P (Some old) (Some new) = IsTrue old.honest → Leaves P new.sure
AtTheEnd P old new = ⊥

-- If the table had each claim that the driver held, then whatever a crash leaves at a moment of the call has each of them;
-- and at its end each that it holds then.
pub record KeepsHeld (table : List Row) (before after : List DriverCall) (old new : Option Content) : Type 0 where
  pub during : HasHeld before table → AtEachMoment (HoldsIn before) old new
  pub ends : HasHeld before table → AtTheEnd (HoldsIn after) old new

-- the same if claims are only taken back: until the driver has done so, too
pub record LosesHeld (table : List Row) (before after : List DriverCall) (old new : Option Content) : Type 0 where
  pub during : HasHeld before table → AtEachMoment (HoldsIn after) old new

-- what the driver exposes before and after a call
abbrev pub WithCalls : (List DriverCall → List DriverCall → Type 0) → Option (List DriverCall) → Option (List DriverCall) → Type 0
WithCalls P (Some before) (Some after) = P before after
WithCalls P before after = Unit {0}

-- a record that sets a row
abbrev pub IsSet : Record → Type 0
IsSet (Begun k) = Unit {0}
IsSet (Prepared k) = Unit {0}
IsSet (Leaving uid) = ⊥
IsSet (Gone uid) = ⊥
