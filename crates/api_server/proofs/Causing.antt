-- When a connection ends because it failed.
use Rattle.std.proofs.Common.{ℕ, ◌≡◌, ◌≤◌, ◌∙◌, ◌⊎◌, inl, inr, Bool, true, false, List, Option, None, Some, Ok, Err, refl, sym, subst, arith}
use Rattle.dra_ports.specs.Causes.{Rose}
use Rattle.http_wire.specs.Reader.{HasReadCause}
use Rattle.http_wire.specs.Replies.{HasWriteCause}
use Rattle.http_wire.specs.declared.error.WireError.{WireError}
use Rattle.http_wire.specs.declared.error.WireError.TheVariants as wire
use Rattle.api_server.specs.Connections.{Stopping, broken, closed_if, refused_end}
use Rattle.api_server.specs.EndCauses.{HasEndCause, HasStepCause, HasStopCause, is_fault}
use Rattle.api_server.specs.declared.end.ConnEnd.{ConnEnd}
use Rattle.api_server.specs.declared.end.ConnEnd.TheVariants as end

-- an end that is no fault leaves the count as it is
pub no_fault : (before now : ℕ) (e : ConnEnd) → is_fault e ≡ false → now ≡ before → HasEndCause before now e
no_fault before now e is same = record { later = omega (arith, same); failed = λ i. let f : true ≡ false = sym i ∙ is in absurd (cc); other = λ i. same }

fault : (before now : ℕ) (e : ConnEnd) → is_fault e ≡ true → before ≤ now → Rose before now → HasEndCause before now e
fault before now e is later rose = record { later = later; failed = λ i. rose; other = λ i. let f : true ≡ false = sym is ∙ i in absurd (cc) }

pub sent_whole : (before now : ℕ) (last : Bool) → HasWriteCause before now (Ok tt) → HasStepCause before now (closed_if last)
sent_whole before now true cause = no_fault before now end.Closed refl cause.ok
sent_whole before now false cause = cause.ok

pub sent_part : (before now : ℕ) (e : WireError) → (e ≡ wire.WriteFault) ⊎ (e ≡ wire.Memory) → HasWriteCause before now (Err e) → HasStepCause before now (Some (broken e))
sent_part before now e (inl is) cause =
    let c : HasWriteCause before now (Err wire.WriteFault) = subst (λ (x : WireError). HasWriteCause before now (Err x)) is cause in
    subst (λ (x : WireError). HasStepCause before now (Some (broken x))) (sym is) (fault before now (end.Wire wire.WriteFault) refl c.later (c.failed refl))
sent_part before now e (inr is) cause =
    let c : HasWriteCause before now (Err wire.Memory) = subst (λ (x : WireError). HasWriteCause before now (Err x)) is cause in
    subst (λ (x : WireError). HasStepCause before now (Some (broken x))) (sym is) (no_fault before now end.Memory refl (c.other (λ i. absurd (cc))))

pub refused_cause : (before now : ℕ) (error : WireError) (sent : Option ConnEnd) → is_fault (end.Wire error) ≡ false → HasStepCause before now sent → HasEndCause before now (refused_end error sent)
refused_cause before now error None plain same = no_fault before now end.Closed refl same
refused_cause before now error (Some end.Closed) plain cause = no_fault before now (end.Wire error) plain (cause.other refl)
refused_cause before now error (Some (end.Wire e)) plain cause = cause
refused_cause before now error (Some (end.Full n)) plain cause = cause
refused_cause before now error (Some end.Memory) plain cause = cause

-- the count did not change before
pub counted_from : (before mid now : ℕ) (e : ConnEnd) → mid ≡ before → HasEndCause mid now e → HasEndCause before now e
counted_from before mid now e same cause = subst (λ (n : ℕ). HasEndCause n now e) same cause

pub step_from : (before mid now : ℕ) (o : Option ConnEnd) → mid ≡ before → HasStepCause mid now o → HasStepCause before now o
step_from before mid now o same cause = subst (λ (n : ℕ). HasStepCause n now o) same cause

-- a call for a request that failed, and what was done after it
pub stop_cause : {T : Type 0} (before mid now : ℕ) (w w' : Option (List ℕ)) (error : WireError) (e : ConnEnd) → (error ≡ wire.WriteFault → ⊥) → HasReadCause {T = T} before mid (Err error) → HasStopCause error mid now e → Stopping error w w' e → HasEndCause before now e
stop_cause before mid now w w' wire.BadHead e not_write read cause stopping = counted_from before mid now e (read.other (λ i. absurd (cc))) cause
stop_cause before mid now w w' wire.NoLength e not_write read cause stopping = counted_from before mid now e (read.other (λ i. absurd (cc))) cause
stop_cause before mid now w w' wire.TooLong e not_write read cause stopping = counted_from before mid now e (read.other (λ i. absurd (cc))) cause
stop_cause before mid now w w' wire.EndedEarly e not_write read cause stopping =
    subst (λ (x : ConnEnd). HasEndCause before now x) (sym stopping.1) (no_fault before now (end.Wire wire.EndedEarly) refl (cause ∙ read.other (λ i. absurd (cc))))
stop_cause before mid now w w' wire.ReadFault e not_write read cause stopping =
    subst (λ (x : ConnEnd). HasEndCause before now x) (sym stopping.1) (subst (λ (n : ℕ). HasEndCause before n (end.Wire wire.ReadFault)) (sym cause) (fault before mid (end.Wire wire.ReadFault) refl read.later (read.failed refl)))
stop_cause before mid now w w' wire.WriteFault e not_write read cause stopping = absurd (not_write refl)
stop_cause before mid now w w' wire.Memory e not_write read cause stopping =
    subst (λ (x : ConnEnd). HasEndCause before now x) (sym stopping.1) (no_fault before now end.Memory refl (cause ∙ read.other (λ i. absurd (cc))))
