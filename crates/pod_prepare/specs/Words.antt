-- What clauses say about a kubelet that is opened at its first command.
use Rattle.std.specs.Prelude.{ℕ, ◌≡◌, Bool, List, false, Option, None, Some, is_some}
use Rattle.dra_ports.specs.DiskContent.{Content}
use Rattle.dra_ports.specs.declared.disk.Disk.{Ghosts}
use Rattle.prepare_core.specs.Words as kubelet
use Rattle.prepare_core.specs.declared.error.KubeletError.{KubeletError}
use Rattle.prepare_core.specs.declared.error.KubeletError.TheVariants.{DiskFault, Memory, NotAJournal}
use Rattle.prepare_core.specs.declared.state.Kubelet.{Kubelet}
use Rattle.pod_prepare.specs.Opening.{Table}
use Rattle.pod_prepare.specs.declared.lazy.LazyKubelet.{LazyKubelet}
use Rattle.pod_prepare.specs.declared.lazy.LazyKubelet.TheVariants.{Closed, Open}

abbrev pub table_in : {D : Type 0} {ghosts : Ghosts D} → Kubelet D ghosts → Table
table_in k = record { half = kubelet.half_in k; rows = kubelet.rows_in k }

-- what it has, if it was opened
abbrev pub table_of : {D : Type 0} {ghosts : Ghosts D} → LazyKubelet D ghosts → Option Table
table_of (Closed disk) = None
table_of (Open k) = Some (table_in k)

abbrev pub disk_of : {D : Type 0} {ghosts : Ghosts D} → LazyKubelet D ghosts → D
disk_of (Closed disk) = disk
disk_of (Open k) = kubelet.disk_in k

-- no error of the disk has ended it, and it is of this node
abbrev pub IsGoing : {D : Type 0} {ghosts : Ghosts D} → List ℕ → LazyKubelet D ghosts → Type 0
IsGoing node (Closed disk) = Unit {0}
IsGoing node (Open k) = (kubelet.has_ended k ≡ false) × (kubelet.node_in k ≡ node)

-- errors that end a command with nothing printed
abbrev pub EndsAny : KubeletError → Type 0
EndsAny DiskFault = Unit {0}
EndsAny Memory = Unit {0}
EndsAny (NotAJournal at) = Unit {0}
EndsAny e = ⊥

-- the disk exposes its content
abbrev pub tells : Option Content → Bool
tells found = is_some found

-- it does so after a call if and only if it did before
abbrev pub TellsStill : Option Content → Option Content → Type 0
TellsStill old new = tells new ≡ tells old
