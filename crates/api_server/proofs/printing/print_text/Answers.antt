use Rattle.std.proofs.Common.{◌≡◌, ◌∙◌, ◌++◌, ap, sym, subst}
use Rattle.std.specs.Prelude.{OnErr, OnOk}
use Rattle.std.specs.Io.KnownBytes.{Appends}
use Rattle.dra_ports.specs.Prefixes.{AppendsPrefix}
use Rattle.api_server.specs.Serving.{jobs_ended}
use Rattle.api_server.proofs.Printed.{text_is}
use Rattle.api_server.proofs.printing.print_text.Goals as goal

pub returns-clause-ok : goal.returns-clause-ok
returns-clause-ok g c =
    let e = text_is _ _ _ _ _ _ _ _ c.entries.ensures c.in_ok-text.ensures c.len.ensures.length c.state.ensures (c.jobs_ended-jobs.ensures ∙ ap jobs_ended c.entries-2.ensures) c.in_ok-last.ensures (c.in_ok-extend_from_slice.ensures.items ∙ ap (λ xs. c.in_ok-text.text.items ++ xs) c.deref.ensures.value) in
    subst (λ xs. OnOk c.write_all.result (Appends (g.K.Sink.written c.args.output.now) (g.K.Sink.written c.write_all.new.sink) xs)) (c.deref-2.ensures.value ∙ e) c.write_all.ensures.bytes

pub returns-clause-short : goal.returns-clause-short
returns-clause-short g c =
    let e = text_is _ _ _ _ _ _ _ _ c.entries.ensures c.in_ok-text.ensures c.len.ensures.length c.state.ensures (c.jobs_ended-jobs.ensures ∙ ap jobs_ended c.entries-2.ensures) c.in_ok-last.ensures (c.in_ok-extend_from_slice.ensures.items ∙ ap (λ xs. c.in_ok-text.text.items ++ xs) c.deref.ensures.value) in
    subst (λ xs. OnErr c.write_all.result (AppendsPrefix (g.K.Sink.written c.args.output.now) (g.K.Sink.written c.write_all.new.sink) xs)) (c.deref-2.ensures.value ∙ e) c.write_all.ensures.prefix
