use Rattle.sched_job.proofs.Stepping.{fit_at, ran_moved}
use Rattle.sched_job.proofs.Setting.{set_there}
use Rattle.sched_job.proofs.steps.go_at.Goals as goal

pub go-requires : goal.go-requires
go-requires g c = fit_at c.args.ledger.now.entries c.args.works.now c.args.at c.index-works-at.result c.requires.index c.requires.fit

pub returns-clause-ran : goal.returns-clause-ran
returns-clause-ran g c = λ from jobs h differ ran.
    ran_moved c.runs_go_on.ensures.running from c.args.budget jobs h c.args.ledger.now.entries c.go.new.ledger.entries c.args.works.now c.args.at c.index-works-at.result c.go.new.work c.requires.index differ
    c.go.ensures.extends c.go.ensures.job c.go.ensures.command c.go.ensures.running ran

pub returns-clause-due : goal.returns-clause-due
returns-clause-due g c = λ n e.
    record { at = c.args.at; work = c.go.new.work; there = set_there c.args.works.now c.args.at c.go.new.work c.requires.index; due = c.go.ensures.due n e }
