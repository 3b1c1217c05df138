use Rattle.std.proofs.Common.{rules, ◌≡◌, ◌≤◌, length}
use Rattle.sched_job.specs.Together.{RanTogether, SomeOpen}
use Rattle.replay_core.proofs.Orders.{all_differ, all_new, met_together, ran_together}
use Rattle.replay_core.proofs.jobs.do_together.Goals as goal

pub run_works-requires-clause-fresh : goal.run_works-requires-clause-fresh
run_works-requires-clause-fresh g c κs within =
    all_new c.args.ledger.now.entries c.args.before c.args.commands.items c.in_ok-works.works.items c.in_ok-works.ensures c.requires.fresh c.requires.attempts

pub run_works-requires-clause-differ : goal.run_works-requires-clause-differ
run_works-requires-clause-differ g c κs within = all_differ c.args.before c.args.commands.items c.in_ok-works.works.items c.in_ok-works.ensures

pub returns-in_err-run_works-clause-full : goal.returns-in_err-run_works-clause-full
returns-in_err-run_works-clause-full g c = λ n e.
    let met : RanTogether c.args.options.now.budget c.in_ok-works.works.items c.args.ledger.now c.run_works.new.ledger = search (rules, e) in
    let count : length c.run_works.new.ledger.entries ≡ n = search (rules, e) in
    let full : c.run_works.new.ledger.limit ≤ n = search (rules, e) in
    let some : SomeOpen c.run_works.new.ledger.entries c.in_ok-works.works.items = search (rules, e) in
    met_together c.args.before c.args.commands.items c.in_ok-works.works.items c.args.options.now.budget c.args.ledger.now c.run_works.new.ledger n c.in_ok-works.ensures met count full some

pub returns-clause-ran : goal.returns-clause-ran
returns-clause-ran g c =
    ran_together c.args.before c.args.commands.items c.in_ok-works.works.items c.args.options.now.budget c.args.ledger.now c.run_works.new.ledger c.in_ok-works.ensures
    c.in_ok-run_works.ensures.ran c.in_ok-run_works.ensures.done
