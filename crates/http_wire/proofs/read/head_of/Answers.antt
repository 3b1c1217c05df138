use Rattle.std.proofs.Common.{◌-◌, drop, inl, refl, take}
use Rattle.http_wire.proofs.Joining.{many_of, says_of}
use Rattle.http_wire.proofs.read.head_of.Goals as goal

pub returns-then-count_lines-gt-LINES : goal.returns-then-count_lines-gt-LINES
returns-then-count_lines-gt-LINES c =
    record { says = inl (many_of c.args.ahead.now c.args.scan (take (c.args.scan.count - c.args.scan.blank) (drop c.args.scan.blank c.args.ahead.now)) c.requires.found refl (rw c.count_lines.ensures at c.if-count_lines-gt-LINES.true)) }

pub returns : goal.returns
returns c =
    record { says = says_of c.args.ahead.now c.args.scan (take (c.args.scan.count - c.args.scan.blank) (drop c.args.scan.blank c.args.ahead.now)) c.read_head.result c.requires.found refl (rw c.count_lines.ensures at c.if-count_lines-gt-LINES.false) c.read_head.ensures.reads }
