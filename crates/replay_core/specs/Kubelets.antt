-- The status for an error that ends a command of the kubelet.
use Rattle.prepare_core.specs.declared.error.KubeletError.{KubeletError}
use Rattle.prepare_core.specs.declared.error.KubeletError.TheVariants.{DiskFault, NotAJournal}
use Rattle.replay_core.specs.declared.status.Status.{Status}
use Rattle.replay_core.specs.declared.status.Status.TheVariants as status

abbrev pub kubelet_status : KubeletError → Status
kubelet_status DiskFault = status.Disk
kubelet_status (NotAJournal at) = status.Checkpoint at
kubelet_status e = status.Memory
