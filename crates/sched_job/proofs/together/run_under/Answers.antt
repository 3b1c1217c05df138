use Rattle.std.proofs.Common.{◌≡◌, ◌∙◌, ◌<◌, sym, subst}
use denote.Param.{param}
use denote.Ref.{NamedLft}
use denote.Param.Send.{IsSend, sendable}
use Rattle.sched_job.specs.contracts.member.Member as Member
use Rattle.std.proofs.lemmas.Result.{IfOk-at_ok, IfErr-at_err}
use Rattle.sched_job.proofs.Sending.{ledger_send, member_send}
use Rattle.sched_job.proofs.Under.{did_all, left_by, none_added, ready_all}
use Rattle.sched_job.proofs.together.run_under.Goals as goal

pub run_all-passes-requires-send-T : goal.run_all-passes-requires-send-T
run_all-passes-requires-send-T g c κs within = search (ledger_send, sendable) depth 20

pub run_all-passes-requires-send-J : goal.run_all-passes-requires-send-J
run_all-passes-requires-send-J g c κs within =
    let member : (κ : NamedLft) → IsSend (Member.the_row κ (param 0 g.row.E)) = λ κ. member_send κ (param 0 g.row.E) in
    search (member, sendable) depth 20

pub run_all-passes-requires-clause-ready : goal.run_all-passes-requires-clause-ready
run_all-passes-requires-clause-ready g c κs within =
    let d = c.in-Ok.ensures in let s = c.in-Ok-split_all.ensures in
    ready_all (λ v. v.items) c.args.lock.now c.args.budget _ _ _ c.requires.workers d.count s.count d.members s.fresh

pub join_all-whole-requires-clause-some : goal.join_all-whole-requires-clause-some
join_all-whole-requires-clause-some g c =
    let d = c.in-Ok.ensures in let s = c.in-Ok-split_all.ensures in let r = c.run_all-passes.ensures in
    let left = left_by (λ v. v.items) c.args.lock.now c.args.budget _ _ _ c.requires.workers d.count s.count d.members s.fresh (λ e. e.items) (λ u. u.jobs.items ≡ c.in-Ok.lists.items) _ _ r.ran r.unrun in
    subst (λ n. 0 < n) (sym (left.as_many ∙ s.count)) c.requires.workers

pub join_all-whole-requires-clause-free : goal.join_all-whole-requires-clause-free
join_all-whole-requires-clause-free g c =
    let d = c.in-Ok.ensures in let s = c.in-Ok-split_all.ensures in let r = c.run_all-passes.ensures in
    (left_by (λ v. v.items) c.args.lock.now c.args.budget _ _ _ c.requires.workers d.count s.count d.members s.fresh (λ e. e.items) (λ u. u.jobs.items ≡ c.in-Ok.lists.items) _ _ r.ran r.unrun).free

pub returns-in-Ok-ends-clause-share : goal.returns-in-Ok-ends-clause-share
returns-in-Ok-ends-clause-share g c =
    let d = c.in-Ok.ensures in let s = c.in-Ok-split_all.ensures in let r = c.run_all-passes.ensures in
    let left = left_by (λ v. v.items) c.args.lock.now c.args.budget _ _ _ c.requires.workers d.count s.count d.members s.fresh (λ e. e.items) (λ u. u.jobs.items ≡ c.in-Ok.lists.items) _ _ r.ran r.unrun in
    c.join_all-whole.ensures.share ∙ left.share ∙ s.shares

pub returns-in-Ok-ends-clause-begins : goal.returns-in-Ok-ends-clause-begins
returns-in-Ok-ends-clause-begins g c =
    let d = c.in-Ok.ensures in let s = c.in-Ok-split_all.ensures in let r = c.run_all-passes.ensures in
    let left = left_by (λ v. v.items) c.args.lock.now c.args.budget _ _ _ c.requires.workers d.count s.count d.members s.fresh (λ e. e.items) (λ u. u.jobs.items ≡ c.in-Ok.lists.items) _ _ r.ran r.unrun in
    left.begins _ c.join_all-whole.ensures.begin

pub returns-in-Ok-ends-clause-did : goal.returns-in-Ok-ends-clause-did
returns-in-Ok-ends-clause-did g c =
    let d = c.in-Ok.ensures in let s = c.in-Ok-split_all.ensures in
    let ran = IfOk-at_ok _ c.in-Ok-ends.is c.run_all-passes.ensures.ran in
    did_all (λ v. v.items) c.args.lock.now c.args.budget _ _ _ c.requires.workers d.count s.count d.members s.fresh _ _ _ _ d.dealt ran c.join_all-whole.ensures

pub returns-clause-begins : goal.returns-clause-begins
returns-clause-begins g c =
    let d = c.in-Ok.ensures in let s = c.in-Ok-split_all.ensures in let r = c.run_all-passes.ensures in
    let left = left_by (λ v. v.items) c.args.lock.now c.args.budget _ _ _ c.requires.workers d.count s.count d.members s.fresh (λ e. e.items) (λ u. u.jobs.items ≡ c.in-Ok.lists.items) _ _ r.ran r.unrun in
    left.begins _ c.join_all-whole.ensures.begin

pub returns-clause-none : goal.returns-clause-none
returns-clause-none g c =
    let not = IfErr-at_err _ c.in-Err-ends.is c.run_all-passes.ensures.unrun in
    none_added c.args.lock.now _ _ _ c.in-Ok-split_all.ensures.fresh not.1 c.join_all-whole.ensures
