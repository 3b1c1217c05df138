use Rattle.std.proofs.Common.{ap, arith, length, inl}
use Rattle.http_wire.proofs.Heading.{no_head_is, reads_is}
use Rattle.http_wire.proofs.head.read_head.Goals as goal

pub returns-then-not-is_whole : goal.returns-then-not-is_whole
returns-then-not-is_whole c = record { reads = inl (no_head_is c.args.lines.now (length c.new-request.result.headers.now) c.parse-parsed.result c.parse-parsed.new.self c.is_whole.result c.is_whole.ensures c.if-not-is_whole.true (omega (arith, ap length c.new-request.ensures.room)) c.requires.few c.parse-parsed.ensures.complete c.parse-parsed.ensures.partial c.parse-parsed.ensures.no_room) }

pub returns : goal.returns
returns c = record { reads = reads_is c.args.lines.now c.parse-parsed.result c.parse-parsed.new.self c.is_whole.result c.say_parts.result c.is_whole.ensures c.if-not-is_whole.false c.parse-parsed.ensures.complete c.say_parts.ensures.gives }
