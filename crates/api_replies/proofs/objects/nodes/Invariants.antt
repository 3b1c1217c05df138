use Rattle.std.proofs.Common.{◌≡◌, ◌++◌, map}
use Rattle.std.specs.Map.{keys_of}
use Rattle.cluster.specs.declared.object.Target.TheVariants as target
use Rattle.api_replies.proofs.objects.nodes.Given as goal

abbrev pub invariant-loop-name : goal.invariant-loop-name
invariant-loop-name l = l.targets ++ map target.Node (keys_of l.name-iterator) ≡ map target.Node (keys_of l.state.inventory.nodes)
