-- The kubelet that a call handed back, whether it did as it was asked or not.
use Rattle.std.specs.Prelude.{◌≡◌, Result, Ok, Err}
use Rattle.dra_ports.specs.declared.disk.Disk.{Ghosts}
use Rattle.ckpt_journal.specs.declared.record.Claim.{Claim}
use Rattle.prepare_core.specs.Table.{claim_with}
use Rattle.prepare_core.specs.declared.begun.Asked.{Asked}
use Rattle.prepare_core.specs.declared.begun.Begun.{Begun}
use Rattle.prepare_core.specs.declared.claim.ClaimForNode.{ClaimForNode}
use Rattle.prepare_core.specs.declared.error.KubeletError.{KubeletError}
use Rattle.prepare_core.specs.declared.error.KubeletError.TheVariants.{DiskFault}
use Rattle.prepare_core.specs.declared.state.Kubelet.{Kubelet}
use Rattle.prepare_core.specs.declared.state.Refused.{Refused}

abbrev pub by_begin : {D : Type 0} {ghosts : Ghosts D} → Result (Begun D ghosts) (Refused D ghosts) → Kubelet D ghosts
by_begin (Ok b) = b.kubelet
by_begin (Err e) = e.kubelet

abbrev pub by_ask : {D : Type 0} {ghosts : Ghosts D} → Result (Asked D ghosts) (Refused D ghosts) → Kubelet D ghosts
by_ask (Ok a) = a.kubelet
by_ask (Err e) = e.kubelet

abbrev pub by_finish : {D : Type 0} {ghosts : Ghosts D} {N : Type 0} → Result (Kubelet D ghosts × N) (Refused D ghosts) → Kubelet D ghosts
by_finish (Ok x) = x.0
by_finish (Err e) = e.kubelet

-- the claim handed in
abbrev pub claim_of_begun : {D : Type 0} {ghosts : Ghosts D} → Begun D ghosts → ClaimForNode
claim_of_begun b = b.claim

abbrev pub claim_of_asked : {D : Type 0} {ghosts : Ghosts D} → Asked D ghosts → ClaimForNode
claim_of_asked a = a.claim

-- the claim as it is recorded
abbrev pub begun_of : {D : Type 0} {ghosts : Ghosts D} → Begun D ghosts → Claim
begun_of b = claim_with b.claim b.pods

abbrev pub asked_of : {D : Type 0} {ghosts : Ghosts D} → Asked D ghosts → Claim
asked_of a = claim_with a.claim a.pods

-- the call returned this error
abbrev pub IsRefusal : {D : Type 0} {ghosts : Ghosts D} {X : Type 0} → Result X (Refused D ghosts) → KubeletError → Type 0
IsRefusal (Ok x) why = ⊥
IsRefusal (Err e) why = e.why ≡ why

-- the call recorded something, or the disk failed in that
abbrev pub IfRecorded : {D : Type 0} {ghosts : Ghosts D} {X : Type 0} → Result X (Refused D ghosts) → Type 0 → Type 0
IfRecorded (Ok x) P = P
IfRecorded (Err e) P = e.why ≡ DiskFault → P

-- what a call returned beside the kubelet
abbrev pub returned : {D : Type 0} {ghosts : Ghosts D} {N : Type 0} → Result (Kubelet D ghosts × N) (Refused D ghosts) → Result N KubeletError
returned (Ok x) = Ok x.1
returned (Err e) = Err e.why
