use Rattle.replay_core.proofs.Running.{ready_fewer}
use Rattle.replay_core.proofs.Trying.{document_may_try}
use Rattle.replay_core.specs.Forms.{kubelet_count}
use Rattle.replay_core.proofs.work.do_document.Goals as goal

pub do_all-requires-clause-attempts : goal.do_all-requires-clause-attempts
do_all-requires-clause-attempts g c κs within = document_may_try c.args.options.now.attempts c.args.doc.now.bytes.items c.in-Ok.given.items c.requires.attempts c.in-Ok.ensures.given

pub do_all-requires-clause-ready : goal.do_all-requires-clause-ready
do_all-requires-clause-ready g c κs within =
    ready_fewer c.args.work.now 1 (kubelet_count c.in-Ok.given.items)
    (c.documents_ask_a_kubelet_once.ensures c.args.options.now.attempts c.args.doc.now.bytes.items c.in-Ok.given.items c.in-Ok.ensures.given) c.requires.ready
