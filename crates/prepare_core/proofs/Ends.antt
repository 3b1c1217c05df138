-- What stands during a call and at its end.
use Rattle.std.proofs.Common.{◌≡◌, ⊎_elim, ℕ, IsTrue, IfSome, List, Option, Some, None, sym, subst}
use Rattle.std.specs.Option.{option_map}
use Rattle.dra_ports.specs.DiskContent.{Content}
use Rattle.dra_ports.specs.DiskImages.{AtEachMoment, Leaves, Where}
use Rattle.ckpt_journal.specs.Standing.{HasTable, IsBeforeOrAfter, Keeps}
use Rattle.ckpt_journal.specs.Table.{row_after}
use Rattle.ckpt_journal.specs.declared.record.Record.{Record}
use Rattle.ckpt_journal.specs.declared.record.Row.{Row}
use Rattle.prepare_core.specs.Held.{AtTheEnd, HasHeld, HoldsIn, WithCalls}
use Rattle.prepare_core.specs.declared.driver.DriverCall.{DriverCall}

pub end_now : (P : List ℕ → Type 0) (x y : Option Content) → AtEachMoment P x y → AtTheEnd P x y
end_now P None None all = tt
end_now P (Some a) (Some b) all = λ honest. (all honest).now
end_now P None (Some b) all = absurd all
end_now P (Some a) None all = absurd all

pub end_after : (P Q : List ℕ → Type 0) (x y z : Option Content) → AtEachMoment Q x y → AtTheEnd P y z → AtTheEnd P x z
end_after P Q None None None all ends = tt
end_after P Q None None (Some c) all ends = absurd ends
end_after P Q None (Some b) z all ends = absurd all
end_after P Q (Some a) None z all ends = absurd all
end_after P Q (Some a) (Some b) None all ends = absurd ends
end_after P Q (Some a) (Some b) (Some c) all ends = λ honest. ends (subst IsTrue (sym (all honest).honest) honest)

pub holds : (calls : List DriverCall) (rows : List Row) (bytes : List ℕ) → HasHeld calls rows → HasTable rows bytes → HoldsIn calls bytes
holds calls rows bytes held has = record { rows = rows; table = has; held = held }

pub holds_either : (calls : List DriverCall) (rows : List Row) (a : Record) → HasHeld calls rows → HasHeld calls (row_after rows a) → (bytes : List ℕ) → IsBeforeOrAfter rows a bytes → HoldsIn calls bytes
holds_either calls rows a before after bytes has = ⊎_elim (holds calls rows bytes before) (holds calls (row_after rows a) bytes after) has

pub none_holds : (calls : List DriverCall) (rows : List Row) (x : Option Content) → HasHeld calls rows → IfSome x (Keeps rows) → Where (λ c. Leaves (HoldsIn calls) c.sure) x
none_holds calls rows None held keeps = tt
none_holds calls rows (Some c) held keeps = λ honest image is. holds calls rows image held (keeps.images honest image is)

-- ---- what a driver exposes

pub with_same : (P : List DriverCall → List DriverCall → Type 0) (old new : Option (List DriverCall)) → new ≡ old → ((calls : List DriverCall) → P calls calls) → WithCalls P old new
with_same P None new is each = tt
with_same P (Some calls) new is each = subst (WithCalls P (Some calls)) (sym is) (each calls)

pub with_called : (P : List DriverCall → List DriverCall → Type 0) (f : List DriverCall → List DriverCall) (old new : Option (List DriverCall)) → new ≡ option_map f old
    → ((calls : List DriverCall) → P calls (f calls)) → WithCalls P old new
with_called P f None new is each = tt
with_called P f (Some calls) new is each = subst (WithCalls P (Some calls)) (sym is) (each calls)
