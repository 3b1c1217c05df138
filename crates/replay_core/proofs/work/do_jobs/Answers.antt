use Rattle.std.proofs.Common.{rules}
use Rattle.replay_core.proofs.Stopping.{stops_met}
use Rattle.replay_core.proofs.work.do_jobs.Goals as goal

pub returns-in-Ok-print_from-2-clause-stops : goal.returns-in-Ok-print_from-2-clause-stops
returns-in-Ok-print_from-2-clause-stops g c = record {
  met = c.do_command-done.ensures.full c.in-Err-Full.count (search rules);
  printed = search rules;
}

pub returns-in-Err-print_from-clause-stops : goal.returns-in-Err-print_from-clause-stops
returns-in-Err-print_from-clause-stops g c =
    stops_met c.args.options.now c.args.command c.args.work.now (record { ledger = c.do_command-done.new.ledger; commands = c.args.work.now.commands })
    (g.K.Sink.written c.args.output.now) (g.K.Sink.written c.print_from-in-Err-Full.new.output) c.in-Err-print_from.error c.write_status-in-Err-print_from.result
    c.write_status-in-Err-print_from.ensures (record {
      count = c.in-Err-Full.count;
      met = c.do_command-done.ensures.full c.in-Err-Full.count (search rules);
      printed = search rules;
    })
