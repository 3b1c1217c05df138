-- The `DocError` for each error of the source.
use Rattle.dra_ports.specs.declared.error.PortError.{PortError}
use Rattle.dra_ports.specs.declared.error.PortError.TheVariants as port
use Rattle.doc_split.specs.declared.error.DocError.{DocError}
use Rattle.doc_split.specs.declared.error.DocError.TheVariants as error

abbrev pub error_for : PortError → DocError
error_for port.Failed = error.ReadFault
error_for port.Memory = error.Memory
