use Rattle.std.proofs.Common.{◌∙◌, ap, sym}
use Rattle.dra_cli.specs.Serving.{seen_as, serve_options, serve_status}
use Rattle.dra_cli.proofs.Serves.{complete_so, door_is, serves_so, write_is}
use Rattle.dra_cli.proofs.serving.serve_words.Goals as goal

pub returns-clause-serves : goal.returns-clause-serves
returns-clause-serves g c =
    serves_so c.served_are_true.ensures.served c.served_are_true.ensures.full (serve_options c.args.words.now) c.options_of-options.result
    (seen_as (g.O.Doors.served c.args.doors.now) (g.O.Doors.ended c.args.doors.now)) (seen_as (g.O.Doors.served c.serve.new.doors) (g.O.Doors.ended c.serve.new.doors))
    (g.K.Sink.written c.args.output.now) (g.K.Sink.written c.serve.new.output) c.serve.result c.status_of.result c.options_of-options.ensures c.status_of.ensures c.serve.ensures.prints

pub returns-clause-write : goal.returns-clause-write
returns-clause-write g c = λ is. c.serve.ensures.write (write_is c.serve.result (sym c.status_of.ensures ∙ is))

pub returns-clause-faultless : goal.returns-clause-faultless
returns-clause-faultless g c = λ other. c.serve.ensures.faultless_output (λ is. other (c.status_of.ensures ∙ ap serve_status is))

pub returns-clause-door : goal.returns-clause-door
returns-clause-door g c = λ is. c.serve.ensures.door (door_is c.serve.result (sym c.status_of.ensures ∙ is))

pub returns-clause-faultless_doors : goal.returns-clause-faultless_doors
returns-clause-faultless_doors g c = λ door memory. c.serve.ensures.faultless_doors (λ is. door (c.status_of.ensures ∙ ap serve_status is)) (λ is. memory (c.status_of.ensures ∙ ap serve_status is))

pub returns-clause-complete : goal.returns-clause-complete
returns-clause-complete g c =
    complete_so (serve_options c.args.words.now)
    (seen_as (g.O.Doors.served c.args.doors.now) (g.O.Doors.ended c.args.doors.now)) (seen_as (g.O.Doors.served c.serve.new.doors) (g.O.Doors.ended c.serve.new.doors))
    (g.K.Sink.written c.args.output.now) (g.K.Sink.written c.serve.new.output) _ _ _ _ c.status_of.result
    (serves_so c.served_are_true.ensures.served c.served_are_true.ensures.full (serve_options c.args.words.now) c.options_of-options.result
    (seen_as (g.O.Doors.served c.args.doors.now) (g.O.Doors.ended c.args.doors.now)) (seen_as (g.O.Doors.served c.serve.new.doors) (g.O.Doors.ended c.serve.new.doors))
    (g.K.Sink.written c.args.output.now) (g.K.Sink.written c.serve.new.output) c.serve.result c.status_of.result c.options_of-options.ensures c.status_of.ensures c.serve.ensures.prints)
    (λ is. c.serve.ensures.write (write_is c.serve.result (sym c.status_of.ensures ∙ is)))
    (λ is. c.serve.ensures.door (door_is c.serve.result (sym c.status_of.ensures ∙ is)))
