use Rattle.std.proofs.Common.{◌≡◌, ◌++◌, map}
use Rattle.std.specs.Map.{keys_of}
use Rattle.cluster.specs.declared.object.Target.TheVariants as target
use Rattle.api_replies.proofs.objects.classes.Given as goal

abbrev pub invariant-loop-name : goal.invariant-loop-name
invariant-loop-name l = l.targets ++ map target.Class (keys_of l.name-iterator) ≡ map target.Class (keys_of l.state.classes)
