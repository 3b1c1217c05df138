-- How finding a head's end goes on and ends.
use Rattle.std.proofs.Common.{ℕ, ◌≤◌, ◌<◌, ◌≡◌, ◌∙◌, false, List, [], ◌++◌, length, take, min, sym, ap, subst, arith, append-nil}
use Rattle.std.specs.Prelude.{Option, None, Some, Result, Ok, Err}
use Rattle.std.specs.Io.KnownBytes.{IsAtEnd}
use Rattle.dra_ports.specs.declared.error.PortError.{PortError}
use Rattle.dra_ports.specs.declared.error.PortError.TheVariants as port
use Rattle.http_wire.specs.declared.error.WireError.{WireError}
use Rattle.http_wire.specs.declared.error.WireError.TheVariants as error
use Rattle.http_wire.specs.declared.scan.Place.TheVariants.{Done}
use Rattle.http_wire.specs.declared.scan.Scan.{Scan}
use Rattle.http_wire.specs.Filling.{Filled, Fills}
use Rattle.http_wire.specs.Reader.{read_error, remaining}
use Rattle.http_wire.specs.Scan.{IsBehind}
use Rattle.http_wire.specs.Steps.{EndsAt, Finds, Kept}
use Rattle.http_wire.proofs.Ends.{blank_is, found_is, long_is, open_is, undone_is}
use Rattle.http_wire.proofs.Known.{consumes_more, joined_kept, kept_left, lost_all}

-- a scan that is done, or has gone over as many bytes as it may
pub record Stopped (bytes : List ℕ) (scan : Scan) : Type 0 where
  pub within : scan.count ≤ min (length bytes) 16384
  pub behind : IsBehind (take scan.count bytes) scan
  pub all : (scan.place ≡ Done → ⊥) → scan.count ≡ min (length bytes) 16384

pub stopped_is : (bytes ahead : List ℕ) (scan : Scan) → ahead ≡ bytes → scan.count ≤ min (length ahead) 16384 → IsBehind (take scan.count ahead) scan → ((scan.place ≡ Done → ⊥) → scan.count ≡ min (length ahead) 16384) → Stopped bytes scan
stopped_is bytes ahead scan e w b a = subst (λ (l : List ℕ). Stopped l scan) e (record { within = w; behind = b; all = a })

-- a head was found
pub finds_done : (old mid : List ℕ) (left left_mid : Option (List ℕ)) (scan : Scan) → Kept old mid left left_mid → Stopped mid scan → scan.place ≡ Done → Finds old mid left left_mid (Ok (Some scan))
finds_done old mid left left_mid scan kept s e = (kept, found_is mid scan s.behind e (omega (arith, s.within)) (omega (arith, s.within)))

-- more bytes than a head may have
pub finds_long : (old mid : List ℕ) (left left_mid : Option (List ℕ)) (scan : Scan) → Kept old mid left left_mid → Stopped mid scan → (scan.place ≡ Done → ⊥) → 16384 < length mid → Finds old mid left left_mid (Err error.TooLong)
finds_long old mid left left_mid scan kept s not long = (kept, long_is mid scan s.behind not (omega (arith, s.all not, long)) long)

-- the source fails
pub finds_failed : (old mid new : List ℕ) (left left_mid left_now : Option (List ℕ)) (scan : Scan) (e : PortError) → Kept old mid left left_mid → Stopped mid scan → (scan.place ≡ Done → ⊥) → length mid ≤ 16384
    → Fills mid new left_mid left_now (Err e) → Finds old new left left_now (Err (read_error e))
finds_failed old mid new left left_mid left_now scan port.Failed kept s not few h = (
  consumes_more (remaining old left) (remaining mid left_mid) (remaining new left_now) [] [] kept (kept_left mid new left_mid left_now h.0 h.1),
  rw h.0 (undone_is mid scan s.behind not (omega (arith, s.all not, few)) few),
)
finds_failed old mid new left left_mid left_now scan port.Memory kept s not few h =
    let lost = lost_all old mid left left_mid kept in
    (lost.0 ++ h.1.0, consumes_more (remaining old left) left_mid left_now lost.0 h.1.0 lost.1 h.1.1)

-- the source ends
ends_by : (old mid new : List ℕ) (left left_mid left_now : Option (List ℕ)) (scan : Scan) (r : Result (Option Scan) WireError) → Kept old new left left_now → Stopped new scan → (scan.place ≡ Done → ⊥) → length new ≤ 16384 → IsAtEnd left_now
    → EndsAt scan.place r → Finds old new left left_now r
ends_by old mid new left left_mid left_now scan (Ok (Some found)) kept s not few end h = absurd h
ends_by old mid new left left_mid left_now scan (Ok None) kept s not few end h = (kept, blank_is new scan s.behind h (omega (arith, s.all not, few)) few, end)
ends_by old mid new left left_mid left_now scan (Err error.BadHead) kept s not few end h = absurd h
ends_by old mid new left left_mid left_now scan (Err error.NoLength) kept s not few end h = absurd h
ends_by old mid new left left_mid left_now scan (Err error.TooLong) kept s not few end h = absurd h
ends_by old mid new left left_mid left_now scan (Err error.EndedEarly) kept s not few end h = (kept, open_is new scan s.behind h not (omega (arith, s.all not, few)) few, end)
ends_by old mid new left left_mid left_now scan (Err error.ReadFault) kept s not few end h = absurd h
ends_by old mid new left left_mid left_now scan (Err error.WriteFault) kept s not few end h = absurd h
ends_by old mid new left left_mid left_now scan (Err error.Memory) kept s not few end h = absurd h

pub finds_end : (old mid new : List ℕ) (left left_mid left_now : Option (List ℕ)) (scan : Scan) (r : Result (Option Scan) WireError) → Kept old mid left left_mid → Stopped mid scan → (scan.place ≡ Done → ⊥) → length mid ≤ 16384
    → Filled mid new left_mid left_now false → EndsAt scan.place r → Finds old new left left_now r
finds_end old mid new left left_mid left_now scan r kept s not few filled h =
    let same : new ≡ mid = filled.joined ∙ ap (λ (l : List ℕ). mid ++ l) filled.some.0 ∙ append-nil mid in
    ends_by old mid new left left_mid left_now scan r
    (consumes_more (remaining old left) (remaining mid left_mid) (remaining new left_now) [] [] kept (joined_kept mid new filled.piece left_mid left_now filled.joined filled.consumed))
    (subst (λ (l : List ℕ). Stopped l scan) (sym same) s) not (omega (arith, ap length same, few)) filled.some.1 h
