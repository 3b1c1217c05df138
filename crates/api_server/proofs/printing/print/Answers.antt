use Rattle.std.proofs.Common.{refl, subst, sym}
use Rattle.api_server.specs.Printing.{PrintsEnd}
use Rattle.api_server.proofs.Printed.{prints_text}
use Rattle.api_server.proofs.printing.print.Goals as goal

pub returns-in-Served : goal.returns-in-Served
returns-in-Served g c = record {
  prints =
      subst (λ e. PrintsEnd c.args.ledger.now.entries (g.K.Sink.written c.args.output.now) (g.K.Sink.written c.print_text.new.output) (g.K.Sink.faults c.args.output.now) (g.K.Sink.faults c.print_text.new.output) e c.after_printing.result) (sym c.in-Served.is)
      (prints_text _ _ _ _ _ _ _ _ c.after_printing.ensures c.print_text.ensures.ok c.print_text.ensures.short c.print_text.ensures.cause);
}

pub returns-in-Limit : goal.returns-in-Limit
returns-in-Limit g c = record {
  prints =
      subst (λ e. PrintsEnd c.args.ledger.now.entries (g.K.Sink.written c.args.output.now) (g.K.Sink.written c.print_lines.new.output) (g.K.Sink.faults c.args.output.now) (g.K.Sink.faults c.print_lines.new.output) e c.after_printing-in-Limit.result) (sym c.in-Limit.is)
      (prints_text _ _ _ _ _ _ _ _ c.after_printing-in-Limit.ensures c.print_lines.ensures.ok c.print_lines.ensures.short c.print_lines.ensures.cause);
}
