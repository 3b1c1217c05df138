use Rattle.request_rows.specs.Wanted.{input_of}
use Rattle.alloc_rules.proofs.Granting.{GrantedUntil}
use Rattle.alloc_rules.proofs.shape.misshapen.Given as goal

abbrev pub invariant-loop-place : goal.invariant-loop-place
invariant-loop-place l = GrantedUntil (input_of l.rows) l.view.devices l.grants l.claims l.named l.dues.items l.place
