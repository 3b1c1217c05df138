use Rattle.std.proofs.Common.{◌≡◌, ◌++◌, map}
use Rattle.std.specs.Map.{keys_of}
use Rattle.cluster.specs.declared.object.Target.TheVariants as target
use Rattle.api_replies.specs.Lists.{within}
use Rattle.api_replies.proofs.objects.pods.Given as goal

abbrev pub invariant-loop-key : goal.invariant-loop-key
invariant-loop-key l = l.targets ++ map target.Pod (within l.namespace (keys_of l.key-iterator)) ≡ map target.Pod (within l.namespace (keys_of l.state.pods))
