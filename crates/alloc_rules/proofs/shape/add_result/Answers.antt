use Rattle.std.proofs.Common.{rules}
use Rattle.request_rows.specs.Wanted.{input_of}
use Rattle.alloc_rules.proofs.Shaping.{due_one}
use Rattle.alloc_rules.proofs.shape.add_result.Goals as goal

pub returns-in_ok-push-in-Some-clause-dues : goal.returns-in_ok-push-in-Some-clause-dues
returns-in_ok-push-in-Some-clause-dues c = λ t.
    due_one (input_of c.args.rows.now) c.args.view.now.devices c.args.dues.now.items c.push.new.self.items (record { claim = c.args.claim.now; row = c.args.row; position = c.in-Some.position; result = c.args.found.now })
    (search rules) c.requires.row c.requires.devices (search rules) (search rules)
