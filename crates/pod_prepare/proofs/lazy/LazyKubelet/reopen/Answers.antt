use Rattle.pod_prepare.proofs.Opened.{half_allowed}
use Rattle.pod_prepare.proofs.lazy.LazyKubelet.reopen.Goals as goal

pub open-requires : goal.open-requires
open-requires g c = half_allowed
