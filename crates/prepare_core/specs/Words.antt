-- What clauses say about a kubelet, and about what a call handed back.
use Rattle.std.specs.Prelude.{ℕ, Bool, List}
use Rattle.dra_ports.specs.declared.disk.Disk.{Ghosts}
use Rattle.ckpt_journal.specs.Words as journal
use Rattle.ckpt_journal.specs.declared.record.Row.{Row}
use Rattle.prepare_core.specs.declared.state.Kubelet.{Kubelet}

abbrev pub disk_in : {D : Type 0} {ghosts : Ghosts D} → Kubelet D ghosts → D
disk_in k = journal.disk_of k.journal

-- an error of the disk has ended it
abbrev pub has_ended : {D : Type 0} {ghosts : Ghosts D} → Kubelet D ghosts → Bool
has_ended k = journal.has_ended k.journal

-- its table
abbrev pub rows_in : {D : Type 0} {ghosts : Ghosts D} → Kubelet D ghosts → List Row
rows_in k = journal.rows_of k.journal

-- the size of a half of its checkpoint
abbrev pub half_in : {D : Type 0} {ghosts : Ghosts D} → Kubelet D ghosts → ℕ
half_in k = journal.half_of k.journal

-- its node's name
abbrev pub node_in : {D : Type 0} {ghosts : Ghosts D} → Kubelet D ghosts → List ℕ
node_in k = k.node
