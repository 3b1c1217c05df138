use Rattle.std.proofs.Common.{rules, ◌∙◌}
use Rattle.request_rows.specs.Wanted.{input_of}
use Rattle.request_rules.specs.Ways.{all_asked}
use Rattle.alloc_rules.proofs.Picking.{named_by}
use Rattle.alloc_rules.proofs.naming.named_way.Goals as goal

pub returns-in-FirstAvailable : goal.returns-in-FirstAvailable
returns-in-FirstAvailable c = λ q e h.
    c.unnamed.ensures
    ∙ named_by c.args.results.now (all_asked (input_of c.args.rows.now)) c.args.first _ c.in-FirstAvailable.subrequests q c.args.request.now e (search rules) (search rules) h
