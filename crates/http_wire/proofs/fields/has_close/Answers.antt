use Rattle.std.proofs.Common.{◌-◌, arith, drop, length, take}
use Rattle.http_wire.proofs.Options.{found_close, next_close, no_close, rest_is}
use Rattle.http_wire.proofs.fields.has_close.Goals as goal

pub returns-then-is_close : goal.returns-then-is_close
returns-then-is_close c = found_close c.args.value.now (take (length c.args.value.now - c.options.start) (drop c.options.start c.args.value.now)) c.options.start c.count_to_comma-length.result c.is_close.result (rest_is c.args.value.now c.options.start) c.count_to_comma-length.ensures.count c.is_close.ensures c.if-is_close.true c.options.invariant.rest

pub returns-then-length-rest : goal.returns-then-length-rest
returns-then-length-rest c = no_close c.args.value.now (take (length c.args.value.now - c.options.start) (drop c.options.start c.args.value.now)) c.options.start c.count_to_comma-length.result c.is_close.result (rest_is c.args.value.now c.options.start) c.count_to_comma-length.ensures.count c.is_close.ensures c.if-is_close.false (omega arith) c.options.invariant.rest

pub options-preserved : goal.options-preserved
options-preserved c = record {
  within = grind arith;
  rest = next_close c.args.value.now (take (length c.args.value.now - c.options.start) (drop c.options.start c.args.value.now)) c.options.start c.count_to_comma-length.result c.is_close.result (rest_is c.args.value.now c.options.start) c.count_to_comma-length.ensures.count c.is_close.ensures c.if-is_close.false (grind arith) c.options.invariant.rest;
}
