-- The errors of the journal and of a driver as those of the kubelet.
use Rattle.ckpt_journal.specs.declared.error.JournalError.{JournalError}
use Rattle.ckpt_journal.specs.declared.error.JournalError.TheVariants as journal
use Rattle.dra_ports.specs.declared.error.PortError.{PortError}
use Rattle.dra_ports.specs.declared.error.PortError.TheVariants as port
use Rattle.prepare_core.specs.declared.error.KubeletError.{KubeletError}
use Rattle.prepare_core.specs.declared.error.KubeletError.TheVariants as kubelet

abbrev pub by_journal : JournalError → KubeletError
by_journal journal.DiskFault = kubelet.DiskFault
by_journal (journal.NotAJournal at) = kubelet.NotAJournal at
by_journal journal.Full = kubelet.Full
by_journal journal.Closed = kubelet.Closed
by_journal journal.Memory = kubelet.Memory

abbrev pub by_driver : PortError → KubeletError
by_driver port.Failed = kubelet.DriverFault
by_driver port.Memory = kubelet.Memory
