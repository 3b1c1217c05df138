-- What a call on the kubelet asks of the driver is some more calls, and the driver's count of errors doesn't fall in it.
use Rattle.std.proofs.Common.{ℕ, ◌≡◌, ◌∙◌, Bool, true, false, List, [], ◌∷◌, refl, arith, inl, inr}
use Rattle.std.specs.Prelude.{Option, None, Some, Result, Ok, Err, IsErrOf}
use Rattle.dra_ports.specs.Causes.{Rose}
use Rattle.prepare_core.specs.Calls.{call}
use Rattle.prepare_core.specs.Runs.{AskedAtMost}
use Rattle.prepare_core.specs.Unprepare.{AskedBack}
use Rattle.prepare_core.specs.declared.claim.ClaimForNode.{ClaimForNode}
use Rattle.prepare_core.specs.declared.driver.CallKind.{CallKind}
use Rattle.prepare_core.specs.declared.driver.CallKind.TheVariants as kinds
use Rattle.prepare_core.specs.declared.driver.DriverCall.{DriverCall}
use Rattle.prepare_core.specs.declared.error.KubeletError.{KubeletError}
use Rattle.prepare_core.specs.declared.error.KubeletError.TheVariants.{NotAllocated, NotReserved, OtherNode, DriverFault, DiskFault, Full, Closed, NotPrepared, Memory, NotAJournal}
use Rattle.prepare_core.specs.declared.way.WayBack.{WayBack}
use Rattle.prepare_core.specs.declared.way.WayBack.TheVariants.{Keep, Leave}
use Rattle.pod_prepare.specs.Commands.{AskedMore, RoseBy}
use Rattle.pod_prepare.proofs.Going.{asked_none}

rose_least : (f g : ℕ) → Rose f g → RoseBy 0 f g
rose_least f g rose = omega (arith, rose)

rose_same : (f g : ℕ) → g ≡ f → RoseBy 0 f g
rose_same f g same = omega (arith, same)

-- a count that rises with an error of the driver, and else stays
pub never_falls : {A : Type 0} (r : Result A KubeletError) (f g : ℕ) → (IsErrOf r DriverFault → Rose f g) → ((IsErrOf r DriverFault → ⊥) → g ≡ f) → RoseBy 0 f g
never_falls (Ok x) f g rose same = rose_same f g (same (λ e. absurd (cc)))
never_falls (Err DriverFault) f g rose same = rose_least f g (rose refl)
never_falls (Err NotAllocated) f g rose same = rose_same f g (same (λ e. absurd (cc)))
never_falls (Err NotReserved) f g rose same = rose_same f g (same (λ e. absurd (cc)))
never_falls (Err OtherNode) f g rose same = rose_same f g (same (λ e. absurd (cc)))
never_falls (Err DiskFault) f g rose same = rose_same f g (same (λ e. absurd (cc)))
never_falls (Err Full) f g rose same = rose_same f g (same (λ e. absurd (cc)))
never_falls (Err Closed) f g rose same = rose_same f g (same (λ e. absurd (cc)))
never_falls (Err NotPrepared) f g rose same = rose_same f g (same (λ e. absurd (cc)))
never_falls (Err Memory) f g rose same = rose_same f g (same (λ e. absurd (cc)))
never_falls (Err (NotAJournal at)) f g rose same = rose_same f g (same (λ e. absurd (cc)))

same_more : (old new : Option (List DriverCall)) (f g : ℕ) → new ≡ old → RoseBy 0 f g → AskedMore old new f g
same_more old new f g is rose = record { more = []; are = is ∙ asked_none old; counted = rose }

pub more_at_most : (b : Bool) (kind : CallKind) (claim : ClaimForNode) (old new : Option (List DriverCall)) (f g : ℕ) → AskedAtMost b kind claim old new → RoseBy 0 f g → AskedMore old new f g
more_at_most false kind claim old new f g same rose = same_more old new f g same rose
more_at_most true kind claim old new f g (inl same) rose = same_more old new f g same rose
more_at_most true kind claim old new f g (inr (ok, is)) rose = record { more = call kind claim ok ∷ []; are = is; counted = rose }

pub more_back : (w : Option WayBack) (old new : Option (List DriverCall)) (f g : ℕ) → AskedBack w old new → RoseBy 0 f g → AskedMore old new f g
more_back None old new f g same rose = same_more old new f g same rose
more_back (Some (Keep kept)) old new f g same rose = same_more old new f g same rose
more_back (Some (Leave k)) old new f g asked rose = more_at_most true kinds.Unprepare k old new f g asked rose
