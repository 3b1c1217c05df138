use Rattle.std.proofs.Common.{rules, ◌≡◌, ◌≤◌, length, ap, subst, sym}
use Rattle.replay_core.specs.Doing.{Met, Ran}
use Rattle.replay_core.specs.Forms.{is_of_kubelet}
use Rattle.replay_core.proofs.Orders.{met_alone, ran_alone, ran_nothing}
use Rattle.replay_core.proofs.jobs.do_command.Goals as goal

pub returns-in_err-run_alone-in-One-clause-full : goal.returns-in_err-run_alone-in-One-clause-full
returns-in_err-run_alone-in-One-clause-full g c = λ n e.
    let both : (length c.run_alone.new.ledger.entries ≡ n) × (c.run_alone.new.ledger.limit ≤ n) = search (rules, e) in
    subst (λ x. Met c.args.before x c.args.options.now.budget c.args.ledger.now c.run_alone.new.ledger n) (sym c.in-One.is)
    (met_alone c.args.before c.in-One.command c.args.options.now.budget c.args.ledger.now c.run_alone.new.ledger n c.run_alone.ensures.extends c.run_alone.ensures.limit
    c.in_err-run_alone-in-One.ensures.begun both.0 both.1)

pub returns-in-One-clause-ran : goal.returns-in-One-clause-ran
returns-in-One-clause-ran g c =
    subst (λ x. Ran c.args.before x c.args.options.now.budget c.args.ledger.now c.run_alone.new.ledger) (sym c.in-One.is)
    (ran_alone c.args.before c.in-One.command c.args.options.now.budget c.args.ledger.now c.run_alone.new.ledger c.run_alone.ensures.extends c.run_alone.ensures.limit
    c.in_ok-run_alone-in-One.ensures.run)

pub returns-in-Prepare-clause-ran : goal.returns-in-Prepare-clause-ran
returns-in-Prepare-clause-ran g c = ran_nothing c.args.before c.args.given c.args.options.now.budget c.args.ledger.now (ap is_of_kubelet c.in-Prepare.is)

pub returns-in-Unprepare-clause-ran : goal.returns-in-Unprepare-clause-ran
returns-in-Unprepare-clause-ran g c = ran_nothing c.args.before c.args.given c.args.options.now.budget c.args.ledger.now (ap is_of_kubelet c.in-Unprepare.is)

pub returns-clause-ran : goal.returns-clause-ran
returns-clause-ran g c = ran_nothing c.args.before c.args.given c.args.options.now.budget c.args.ledger.now (ap is_of_kubelet c.in-Reopen.is)
