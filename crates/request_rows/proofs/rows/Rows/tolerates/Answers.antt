use Rattle.std.proofs.Common.{ap, ◌∙◌}
use Rattle.request_rows.specs.declared.rows.Row.{Row}
use Rattle.request_rows.specs.Taints.{flag_at}
use Rattle.request_rows.specs.Wanted.{input_of}
use Rattle.request_rules.specs.Ways.{asked_at}
use Rattle.request_rows.proofs.Flagged.{flag_is}
use Rattle.request_rows.proofs.rows.Rows.tolerates.Goals as goal

pub returns : goal.returns
returns c =
    c.flag_at.ensures ∙ ap (λ (r : Row). flag_at r.tolerated c.args.position) c.row.ensures
    ∙ flag_is (input_of c.args.self.now) (asked_at (input_of c.args.self.now) c.args.row).ask c.args.position
