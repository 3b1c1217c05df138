use Rattle.std.proofs.Common.{subst}
use Rattle.sched_job.proofs.Closing.{at_none, at_some, closed, none_made, on_ok, unchanged}
use Rattle.sched_job.proofs.Resulting.{Laws, ready_of}
use Rattle.sched_job.specs.Together.{AllDone, DidAll, SomeFull}
use Rattle.sched_job.proofs.together.run_together.Goals as goal

pub returns-in-Err-clause-ran : goal.returns-in-Err-clause-ran
returns-in-Err-clause-ran g c =
    let p = c.runs_go_past.ensures in
    let l : Laws = record { run = p.run; begun = p.begun; run_earlier = p.run_earlier; begun_earlier = p.begun_earlier; made = p.made; fresh = p.fresh; new = p.new } in
    unchanged l c.args.budget c.args.works.items c.args.ledger c.in-Err.field-0.state c.requires.fresh c.in-Err.ensures.err c.len-len.ensures.legal

pub run_under-whole-requires-clause-ready : goal.run_under-whole-requires-clause-ready
run_under-whole-requires-clause-ready g c κs within = ready_of c.args.ledger.entries c.args.works.items c.requires.fresh

pub returns-in-Some-clause-ran : goal.returns-in-Some-clause-ran
returns-in-Some-clause-ran g c =
    let p = c.runs_go_past.ensures in
    let l : Laws = record { run = p.run; begun = p.begun; run_earlier = p.run_earlier; begun_earlier = p.begun_earlier; made = p.made; fresh = p.fresh; new = p.new } in
    let b = c.in-Ok.ensures.lock in let u = c.run_under-whole.ensures in let e = c.close-ledger.ensures in
    let did = at_some (λ v. DidAll c.in-Ok.made.0 c.args.budget c.args.works.items v.items c.run_under-whole.result.0) c.in-Some.is u.did in
    let r = closed l c.args.budget c.args.works.items c.in-Some.ends.items c.args.ledger c.close-ledger.result c.in-Ok.made.0 c.run_under-whole.result.0 b.1 b.2 u.begins e.begins e.number e.own did c.requires.fresh c.requires.differ c.len-len-2.ensures.legal c.len-len-2.result c.len-len-2.ensures.length c.len-len-2.ensures.within in
    r.ran

pub returns-in-Some-clause-done : goal.returns-in-Some-clause-done
returns-in-Some-clause-done g c =
    let p = c.runs_go_past.ensures in
    let l : Laws = record { run = p.run; begun = p.begun; run_earlier = p.run_earlier; begun_earlier = p.begun_earlier; made = p.made; fresh = p.fresh; new = p.new } in
    let b = c.in-Ok.ensures.lock in let u = c.run_under-whole.ensures in let e = c.close-ledger.ensures in
    let did = at_some (λ v. DidAll c.in-Ok.made.0 c.args.budget c.args.works.items v.items c.run_under-whole.result.0) c.in-Some.is u.did in
    let r = closed l c.args.budget c.args.works.items c.in-Some.ends.items c.args.ledger c.close-ledger.result c.in-Ok.made.0 c.run_under-whole.result.0 b.1 b.2 u.begins e.begins e.number e.own did c.requires.fresh c.requires.differ c.len-len-2.ensures.legal c.len-len-2.result c.len-len-2.ensures.length c.len-len-2.ensures.within in
    on_ok _ (λ done. r.done (subst AllDone c.deref.ensures.value done)) c.first_failure.ensures.ok

pub returns-in-Some-clause-full : goal.returns-in-Some-clause-full
returns-in-Some-clause-full g c =
    let p = c.runs_go_past.ensures in
    let l : Laws = record { run = p.run; begun = p.begun; run_earlier = p.run_earlier; begun_earlier = p.begun_earlier; made = p.made; fresh = p.fresh; new = p.new } in
    let b = c.in-Ok.ensures.lock in let u = c.run_under-whole.ensures in let e = c.close-ledger.ensures in
    let did = at_some (λ v. DidAll c.in-Ok.made.0 c.args.budget c.args.works.items v.items c.run_under-whole.result.0) c.in-Some.is u.did in
    let r = closed l c.args.budget c.args.works.items c.in-Some.ends.items c.args.ledger c.close-ledger.result c.in-Ok.made.0 c.run_under-whole.result.0 b.1 b.2 u.begins e.begins e.number e.own did c.requires.fresh c.requires.differ c.len-len-2.ensures.legal c.len-len-2.result c.len-len-2.ensures.length c.len-len-2.ensures.within in
    λ n is. r.full n (subst (SomeFull n) c.deref.ensures.value (c.first_failure.ensures.full n is))

pub returns-in-None-clause-ran : goal.returns-in-None-clause-ran
returns-in-None-clause-ran g c =
    let p = c.runs_go_past.ensures in
    let l : Laws = record { run = p.run; begun = p.begun; run_earlier = p.run_earlier; begun_earlier = p.begun_earlier; made = p.made; fresh = p.fresh; new = p.new } in
    let b = c.in-Ok.ensures.lock in let u = c.run_under-whole.ensures in let e = c.close-ledger.ensures in
    let same = none_made c.args.ledger c.close-ledger.result c.in-Ok.made.0 c.run_under-whole.result.0 b.1 b.2 u.begins e.begins e.number e.own (at_none c.in-None.is u.none) in
    unchanged l c.args.budget c.args.works.items c.args.ledger c.close-ledger.result c.requires.fresh same c.len-len-2.ensures.legal
