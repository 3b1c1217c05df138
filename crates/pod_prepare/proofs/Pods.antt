-- A command over the claims of a pod, by whether the pod is there.
use Rattle.std.proofs.Common.{ℕ, ◌≡◌, Bool, List, [], refl, sym, subst}
use Rattle.std.specs.Prelude.{Option, None, Some}
use Rattle.object_fields.specs.declared.key.Key.{Key}
use Rattle.cluster.specs.State.{claims_of}
use Rattle.cluster.specs.declared.state.PodState.{PodState}
use Rattle.ckpt_journal.specs.declared.record.Row.{Row}
use Rattle.journal_text.specs.Journal.{kubelet_line}
use Rattle.prepare_core.specs.declared.driver.DriverCall.{DriverCall}
use Rattle.pod_prepare.specs.Commands.{Did, Does, Done, OfPod, Turn}
use Rattle.pod_prepare.specs.Texts.{absent_text}
use Rattle.pod_prepare.proofs.Going.{asked_none, rose_none}

of_absent : (job : ℕ) (word : List ℕ) (pod : Key) (turn : List Row → Key → Bool → Turn) (rows : List Row) (text : List ℕ) (calls : Option (List DriverCall)) (faults : ℕ) → text ≡ kubelet_line job (absent_text word pod)
    → Did (λ r d. OfPod job word pod turn None r d) rows rows text calls calls faults faults
of_absent job word pod turn rows text calls faults is = record {
  done = record { text = kubelet_line job (absent_text word pod); rows = rows; calls = [] };
  does = refl;
  table = refl;
  printed = is;
  asked = asked_none calls;
  counted = rose_none faults;
}

-- it isn't
pub pod_absent : (job : ℕ) (word : List ℕ) (pod : Key) (turn : List Row → Key → Bool → Turn) (o : Option PodState) (rows : List Row) (text : List ℕ) (calls : Option (List DriverCall)) (faults : ℕ) → o ≡ None → text ≡ kubelet_line job (absent_text word pod)
    → Did (λ r d. OfPod job word pod turn o r d) rows rows text calls calls faults faults
pod_absent job word pod turn o rows text calls faults none is = subst (λ (x : Option PodState). Did (λ r d. OfPod job word pod turn x r d) rows rows text calls calls faults faults) (sym none) (of_absent job word pod turn rows text calls faults is)

-- it is
pub pod_there : (job : ℕ) (word : List ℕ) (pod : Key) (turn : List Row → Key → Bool → Turn) (o : Option PodState) (p : PodState) (old new : List Row) (text : List ℕ) (a b : Option (List DriverCall)) (f g : ℕ) → o ≡ Some p
    → Did (λ r d. Does turn (claims_of p) r d) old new text a b f g → Did (λ r d. OfPod job word pod turn o r d) old new text a b f g
pod_there job word pod turn o p old new text a b f g is did = subst (λ (x : Option PodState). Did (λ r d. OfPod job word pod turn x r d) old new text a b f g) (sym is) did
