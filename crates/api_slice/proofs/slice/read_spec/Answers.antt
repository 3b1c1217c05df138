use Rattle.std.proofs.lemmas.Result.{err_from_is_err_and}
use Rattle.serde_json.specs.View.{view}
use Rattle.api_slice.proofs.Contents.{spec-read, spec-stop}
use Rattle.api_slice.proofs.Limits.{spec_keeps}
use Rattle.api_slice.proofs.slice.read_spec.Goals as goal

pub invariant_of-result : goal.invariant_of-result
invariant_of-result c =
    spec_keeps c.taints_keep_limits.ensures c.args.name c.args.version c.args.path.now (view c.args.spec.now) _ c.requires.name.size c.requires.name.form c.requires.version
    (spec-read c.args.name c.args.version c.args.path.now (view c.args.spec.now) c.in_ok-driver.driver c.in_ok-pool.pool c.in_ok-nodes.nodes c.is_per_device.result c.in_ok-counters.counters c.in_ok-counters.devices
    c.in_ok-driver.ensures c.in_ok-pool.ensures c.in_ok-nodes.ensures c.is_per_device.ensures c.in_ok-counters.ensures)

pub returns : goal.returns
returns c =
    spec-read c.args.name c.args.version c.args.path.now (view c.args.spec.now) c.in_ok-driver.driver c.in_ok-pool.pool c.in_ok-nodes.nodes c.is_per_device.result c.in_ok-counters.counters c.in_ok-counters.devices
    c.in_ok-driver.ensures c.in_ok-pool.ensures c.in_ok-nodes.ensures c.is_per_device.ensures c.in_ok-counters.ensures

pub returns-in_err-counters : goal.returns-in_err-counters
returns-in_err-counters c =
    let p = err_from_is_err_and c.from_residual-in_err-counters.result c.from_residual-in_err-counters.ensures.1 in
    rw (p.1, p.2) (spec-stop c.args.name c.args.version c.args.path.now (view c.args.spec.now) c.in_ok-driver.driver c.in_ok-pool.pool c.in_ok-nodes.nodes c.is_per_device.result c.in_err-counters.field-0.0
    c.in_ok-driver.ensures c.in_ok-pool.ensures c.in_ok-nodes.ensures c.is_per_device.ensures c.in_err-counters.ensures)
