use Rattle.std.proofs.Common.{Result, inl, inr, refl, sym, subst, ◌∙◌}
use Rattle.api_requests.specs.declared.task.Task.{Task}
use Rattle.api_routes.specs.declared.unserved.Unserved.{Unserved}
use Rattle.api_server.specs.Requests.{ServesBy}
use Rattle.api_server.proofs.Attempts.{asked_is, task_has}
use Rattle.api_server.proofs.request.serve_request.Goals as goal

pub serve_task-requires-clause-some : goal.serve_task-requires-clause-some
serve_task-requires-clause-some g c =
    task_has c.args.attempts c.args.request.now.method c.args.request.now.target c.args.request.now.body.items _ c.requires.some
    (sym (asked_is _ _ _ _ _ _ _ _ c.in-Ok.ensures c.as_str-method.ensures c.as_str-target.ensures c.deref.ensures.value) ∙ c.in-Ok-asked.is)

pub returns-in-Ok-asked-clause-serves : goal.returns-in-Ok-asked-clause-serves
returns-in-Ok-asked-clause-serves g c =
    let e = asked_is _ _ _ _ _ _ _ _ c.in-Ok.ensures c.as_str-method.ensures c.as_str-target.ensures c.deref.ensures.value in
    inl (subst (λ (a : Result Task Unserved). ServesBy c.args.job c.args.budget a c.args.pass.now c.serve_task.new.pass c.serve_task.result) (sym c.in-Ok-asked.is ∙ e) c.serve_task.ensures.serves)

pub returns-in-Err-clause-serves : goal.returns-in-Err-clause-serves
returns-in-Err-clause-serves g c =
    let e = asked_is _ _ _ _ _ _ _ _ c.in-Ok.ensures c.as_str-method.ensures c.as_str-target.ensures c.deref.ensures.value in
    inl (subst (λ (a : Result Task Unserved). ServesBy c.args.job c.args.budget a c.args.pass.now c.args.pass.now c.refuse.result) (sym c.in-Err.is ∙ e) (refl, c.refuse.ensures))

pub returns-in_default-clause-serves : goal.returns-in_default-clause-serves
returns-in_default-clause-serves g c = inr (refl, refl)
