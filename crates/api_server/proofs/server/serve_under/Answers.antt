use Rattle.std.proofs.Common.{◌≡◌, ◌∙◌, ◌<◌, ◌≤◌, All, length, map, refl, sym, ap, subst, arith}
use denote.Param.{param}
use denote.Ref.{NamedLft}
use denote.Param.Send.{IsSend, sendable}
use Rattle.api_server.specs.contracts.worker.Worker as Worker
use Rattle.std.proofs.lemmas.Result.{IfOk-at_ok, IfErr-at_err}
use Rattle.api_server.specs.Talks.{seen}
use Rattle.api_server.specs.Serving.{terms_of}
use Rattle.api_server.specs.Together.{worst}
use Rattle.api_server.specs.Workers.{hired_as}
use Rattle.api_server.specs.declared.serve_end.ServeEnd.TheVariants as serve_end
use Rattle.api_server.proofs.Laning.{all_ready}
use Rattle.api_server.proofs.Sending.{ledger_send, worker_send}
use Rattle.api_server.proofs.Under.{as_many_lists, did_by, doors_again, doors_seen, ends_long, idle_all, left_by, none_added, one_each, seen_long}
use Rattle.api_server.proofs.server.serve_under.Goals as goal

pub returns-in_default-clause-did : goal.returns-in_default-clause-did
returns-in_default-clause-did g c = idle_all (terms_of c.args.options) c.args.lock.now _ _ _ (let n = (seen_long (seen g.D.Door.share g.D.Door.in_service g.D.Door.served g.D.Door.ended g.D.Door.faults) c.args.doors.items c.args.options.workers c.requires.count) in let w = c.requires.workers.0 in omega (arith, n, w)) refl c.requires.opened.1

pub run_all-passes-requires-send-T : goal.run_all-passes-requires-send-T
run_all-passes-requires-send-T g c κs within = search (ledger_send, sendable) depth 20

pub run_all-passes-requires-send-J : goal.run_all-passes-requires-send-J
run_all-passes-requires-send-J g c κs within =
    let bound = c.type_bounds.send-D in
    let door : IsSend (param 2 g.row.D) = search (bound, sendable) depth 20 in
    let worker : (κ : NamedLft) → IsSend (Worker.the_row κ (param 0 g.row.E) (param 2 g.row.D) (param 4 g.row.D-Conn)) = λ κ. worker_send κ (param 0 g.row.E) (param 2 g.row.D) (param 4 g.row.D-Conn) door in
    search (worker, sendable) depth 20

pub run_all-passes-requires-clause-ready : goal.run_all-passes-requires-clause-ready
run_all-passes-requires-clause-ready g c κs within =
    let s = c.in-Ok-split_all.ensures in
    let long = (seen_long (seen g.D.Door.share g.D.Door.in_service g.D.Door.served g.D.Door.ended g.D.Door.faults) c.args.doors.items c.args.options.workers c.requires.count) in
    all_ready (λ w. hired_as w.lock.now w.budget w.attempts w.worker w.workers w.connections (seen g.D.Door.share g.D.Door.in_service g.D.Door.served g.D.Door.ended g.D.Door.faults w.door)) (λ x. seen g.D.Door.share g.D.Door.in_service g.D.Door.served g.D.Door.ended g.D.Door.faults x.door) (λ x. x.end) c.args.lock.now (terms_of c.args.options) c.args.options.workers c.args.options.connections
    0 _ _ _ c.hire-lists.ensures c.requires.new (omega (arith, long)) c.requires.workers.1 c.requires.connections c.requires.attempts (long ∙ sym s.count) s.fresh

pub join_all-whole-requires-clause-some : goal.join_all-whole-requires-clause-some
join_all-whole-requires-clause-some g c =
    let s = c.in-Ok-split_all.ensures in
    let r = c.run_all-passes.ensures in
    let some = subst (λ m. 0 < m) (sym s.count) c.requires.workers.0 in
    let left = left_by c.connections_make_entries.ensures.made (λ w. hired_as w.lock.now w.budget w.attempts w.worker w.workers w.connections (seen g.D.Door.share g.D.Door.in_service g.D.Door.served g.D.Door.ended g.D.Door.faults w.door)) (λ x. seen g.D.Door.share g.D.Door.in_service g.D.Door.served g.D.Door.ended g.D.Door.faults x.door) (λ x. x.end) c.args.lock.now (terms_of c.args.options) c.args.options.workers c.args.options.connections _ _ _ c.hire-lists.ensures s.fresh (λ e. e.items) (λ u. u.jobs.items ≡ c.hire-lists.result.items) _ _ some r.ran r.unrun in
    subst (λ m. 0 < m) (sym (left.as_many ∙ s.count)) c.requires.workers.0

pub join_all-whole-requires-clause-free : goal.join_all-whole-requires-clause-free
join_all-whole-requires-clause-free g c =
    let s = c.in-Ok-split_all.ensures in
    let r = c.run_all-passes.ensures in
    let some = subst (λ m. 0 < m) (sym s.count) c.requires.workers.0 in
    let left = left_by c.connections_make_entries.ensures.made (λ w. hired_as w.lock.now w.budget w.attempts w.worker w.workers w.connections (seen g.D.Door.share g.D.Door.in_service g.D.Door.served g.D.Door.ended g.D.Door.faults w.door)) (λ x. seen g.D.Door.share g.D.Door.in_service g.D.Door.served g.D.Door.ended g.D.Door.faults x.door) (λ x. x.end) c.args.lock.now (terms_of c.args.options) c.args.options.workers c.args.options.connections _ _ _ c.hire-lists.ensures s.fresh (λ e. e.items) (λ u. u.jobs.items ≡ c.hire-lists.result.items) _ _ some r.ran r.unrun in
    left.free

pub doors_of-requires : goal.doors_of-requires
doors_of-requires g c =
    let s = c.in-Ok-split_all.ensures in
    let room = c.in-Ok.ensures.doors in
    let ran = IfOk-at_ok _ c.in-Ok-ends.is c.run_all-passes.ensures.ran in
    let long = ends_long c.connections_make_entries.ensures.made (λ w. hired_as w.lock.now w.budget w.attempts w.worker w.workers w.connections (seen g.D.Door.share g.D.Door.in_service g.D.Door.served g.D.Door.ended g.D.Door.faults w.door)) (λ x. seen g.D.Door.share g.D.Door.in_service g.D.Door.served g.D.Door.ended g.D.Door.faults x.door) (λ x. x.end) c.args.lock.now (terms_of c.args.options) c.args.options.workers c.args.options.connections _ _ _ c.hire-lists.ensures s.fresh _ _ ran in
    let ds = (seen_long (seen g.D.Door.share g.D.Door.in_service g.D.Door.served g.D.Door.ended g.D.Door.faults) c.args.doors.items c.args.options.workers c.requires.count) in
    let n = c.len.ensures in
    let k = c.requires.count in
    let cap = room.1 in
    record { room = (room.0, omega (arith, long, ds, n, k, cap)) }

pub returns-in-Ok-ends-clause-share : goal.returns-in-Ok-ends-clause-share
returns-in-Ok-ends-clause-share g c =
    let s = c.in-Ok-split_all.ensures in
    let r = c.run_all-passes.ensures in
    let some = subst (λ m. 0 < m) (sym s.count) c.requires.workers.0 in
    let left = left_by c.connections_make_entries.ensures.made (λ w. hired_as w.lock.now w.budget w.attempts w.worker w.workers w.connections (seen g.D.Door.share g.D.Door.in_service g.D.Door.served g.D.Door.ended g.D.Door.faults w.door)) (λ x. seen g.D.Door.share g.D.Door.in_service g.D.Door.served g.D.Door.ended g.D.Door.faults x.door) (λ x. x.end) c.args.lock.now (terms_of c.args.options) c.args.options.workers c.args.options.connections _ _ _ c.hire-lists.ensures s.fresh (λ e. e.items) (λ u. u.jobs.items ≡ c.hire-lists.result.items) _ _ some r.ran r.unrun in
    c.join_all-whole.ensures.share ∙ left.share ∙ s.shares

pub returns-in-Ok-ends-clause-begins : goal.returns-in-Ok-ends-clause-begins
returns-in-Ok-ends-clause-begins g c =
    let s = c.in-Ok-split_all.ensures in
    let r = c.run_all-passes.ensures in
    let some = subst (λ m. 0 < m) (sym s.count) c.requires.workers.0 in
    let left = left_by c.connections_make_entries.ensures.made (λ w. hired_as w.lock.now w.budget w.attempts w.worker w.workers w.connections (seen g.D.Door.share g.D.Door.in_service g.D.Door.served g.D.Door.ended g.D.Door.faults w.door)) (λ x. seen g.D.Door.share g.D.Door.in_service g.D.Door.served g.D.Door.ended g.D.Door.faults x.door) (λ x. x.end) c.args.lock.now (terms_of c.args.options) c.args.options.workers c.args.options.connections _ _ _ c.hire-lists.ensures s.fresh (λ e. e.items) (λ u. u.jobs.items ≡ c.hire-lists.result.items) _ _ some r.ran r.unrun in
    left.begins _ c.join_all-whole.ensures.begin

pub returns-in-Ok-ends-clause-did : goal.returns-in-Ok-ends-clause-did
returns-in-Ok-ends-clause-did g c =
    let s = c.in-Ok-split_all.ensures in
    let ran = IfOk-at_ok _ c.in-Ok-ends.is c.run_all-passes.ensures.ran in
    did_by c.connections_make_entries.ensures.made (λ w. hired_as w.lock.now w.budget w.attempts w.worker w.workers w.connections (seen g.D.Door.share g.D.Door.in_service g.D.Door.served g.D.Door.ended g.D.Door.faults w.door)) (λ x. seen g.D.Door.share g.D.Door.in_service g.D.Door.served g.D.Door.ended g.D.Door.faults x.door) (λ x. x.end) c.args.lock.now (terms_of c.args.options) c.args.options.workers c.args.options.connections _ _ _ c.hire-lists.ensures s.fresh _ _ _ _ _ ran c.join_all-whole.ensures (c.worst-end.ensures ∙ ap (λ xs. worst serve_end.Served (map (λ v. v.end) xs)) c.deref.ensures.value) (doors_seen (seen g.D.Door.share g.D.Door.in_service g.D.Door.served g.D.Door.ended g.D.Door.faults) (λ x. x.door) _ _ c.doors_of.ensures)

pub doors_left-requires-clause-room : goal.doors_left-requires-clause-room
doors_left-requires-clause-room g c =
    let room = c.in-Ok.ensures.doors in
    let not_ = IfErr-at_err _ c.in-Err-ends.is c.run_all-passes.ensures.unrun in
    let long = as_many_lists (λ w. hired_as w.lock.now w.budget w.attempts w.worker w.workers w.connections (seen g.D.Door.share g.D.Door.in_service g.D.Door.served g.D.Door.ended g.D.Door.faults w.door)) (λ v. v.items) c.args.lock.now (terms_of c.args.options) c.args.options.workers c.args.options.connections 0 _ _ c.hire-lists.ensures in
    let same = ap length not_.0 in
    let ds = (seen_long (seen g.D.Door.share g.D.Door.in_service g.D.Door.served g.D.Door.ended g.D.Door.faults) c.args.doors.items c.args.options.workers c.requires.count) in
    let n = c.len.ensures in
    let k = c.requires.count in
    let cap = room.1 in
    (room.0, omega (arith, long, same, ds, n, k, cap))

pub doors_left-requires-clause-one : goal.doors_left-requires-clause-one
doors_left-requires-clause-one g c =
    let not_ = IfErr-at_err _ c.in-Err-ends.is c.run_all-passes.ensures.unrun in
    subst (All (λ l. length l.items ≡ 1)) (sym not_.0) (one_each (λ w. hired_as w.lock.now w.budget w.attempts w.worker w.workers w.connections (seen g.D.Door.share g.D.Door.in_service g.D.Door.served g.D.Door.ended g.D.Door.faults w.door)) (λ w. w.door) (seen g.D.Door.share g.D.Door.in_service g.D.Door.served g.D.Door.ended g.D.Door.faults) (λ w. refl) c.args.lock.now (terms_of c.args.options) c.args.options.workers c.args.options.connections (λ v. v.items) 0 _ _ c.hire-lists.ensures)

pub returns-in-Err-ends-clause-share : goal.returns-in-Err-ends-clause-share
returns-in-Err-ends-clause-share g c =
    let s = c.in-Ok-split_all.ensures in
    let r = c.run_all-passes.ensures in
    let some = subst (λ m. 0 < m) (sym s.count) c.requires.workers.0 in
    let left = left_by c.connections_make_entries.ensures.made (λ w. hired_as w.lock.now w.budget w.attempts w.worker w.workers w.connections (seen g.D.Door.share g.D.Door.in_service g.D.Door.served g.D.Door.ended g.D.Door.faults w.door)) (λ x. seen g.D.Door.share g.D.Door.in_service g.D.Door.served g.D.Door.ended g.D.Door.faults x.door) (λ x. x.end) c.args.lock.now (terms_of c.args.options) c.args.options.workers c.args.options.connections _ _ _ c.hire-lists.ensures s.fresh (λ e. e.items) (λ u. u.jobs.items ≡ c.hire-lists.result.items) _ _ some r.ran r.unrun in
    c.join_all-whole.ensures.share ∙ left.share ∙ s.shares

pub returns-in-Err-ends-clause-begins : goal.returns-in-Err-ends-clause-begins
returns-in-Err-ends-clause-begins g c =
    let s = c.in-Ok-split_all.ensures in
    let r = c.run_all-passes.ensures in
    let some = subst (λ m. 0 < m) (sym s.count) c.requires.workers.0 in
    let left = left_by c.connections_make_entries.ensures.made (λ w. hired_as w.lock.now w.budget w.attempts w.worker w.workers w.connections (seen g.D.Door.share g.D.Door.in_service g.D.Door.served g.D.Door.ended g.D.Door.faults w.door)) (λ x. seen g.D.Door.share g.D.Door.in_service g.D.Door.served g.D.Door.ended g.D.Door.faults x.door) (λ x. x.end) c.args.lock.now (terms_of c.args.options) c.args.options.workers c.args.options.connections _ _ _ c.hire-lists.ensures s.fresh (λ e. e.items) (λ u. u.jobs.items ≡ c.hire-lists.result.items) _ _ some r.ran r.unrun in
    left.begins _ c.join_all-whole.ensures.begin

pub returns-in-Err-ends-clause-did : goal.returns-in-Err-ends-clause-did
returns-in-Err-ends-clause-did g c =
    let s = c.in-Ok-split_all.ensures in
    let not_ = IfErr-at_err _ c.in-Err-ends.is c.run_all-passes.ensures.unrun in
    let ds = (seen_long (seen g.D.Door.share g.D.Door.in_service g.D.Door.served g.D.Door.ended g.D.Door.faults) c.args.doors.items c.args.options.workers c.requires.count) in
    let back = doors_again (λ w. hired_as w.lock.now w.budget w.attempts w.worker w.workers w.connections (seen g.D.Door.share g.D.Door.in_service g.D.Door.served g.D.Door.ended g.D.Door.faults w.door)) (λ w. w.door) (seen g.D.Door.share g.D.Door.in_service g.D.Door.served g.D.Door.ended g.D.Door.faults) (λ w. refl) c.args.lock.now (terms_of c.args.options) c.args.options.workers c.args.options.connections (λ v. v.items) _ _ _ _ c.hire-lists.ensures not_.0 c.doors_left.ensures in
    idle_all (terms_of c.args.options) c.args.lock.now _ _ _ (let w = c.requires.workers.0 in omega (arith, ds, w)) back (none_added c.args.lock.now _ _ _ s.fresh not_.1 c.join_all-whole.ensures)

pub returns-in-Err-clause-did : goal.returns-in-Err-clause-did
returns-in-Err-clause-did g c = idle_all (terms_of c.args.options) c.args.lock.now _ _ _ (let n = (seen_long (seen g.D.Door.share g.D.Door.in_service g.D.Door.served g.D.Door.ended g.D.Door.faults) c.args.doors.items c.args.options.workers c.requires.count) in let w = c.requires.workers.0 in omega (arith, n, w)) refl c.in-Err.ensures.whole.3
