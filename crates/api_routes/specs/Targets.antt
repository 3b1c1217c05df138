-- The objects that kinds and keys name.
use Rattle.object_fields.specs.declared.key.Key.{Key}
use Rattle.cluster.specs.declared.object.Target.{Target}
use Rattle.cluster.specs.declared.object.Target.TheVariants as target
use Rattle.api_routes.specs.declared.kind.Kind.{Kind}
use Rattle.api_routes.specs.declared.kind.Kind.TheVariants.{Node, ResourceSlice, DeviceClass, ResourceClaim, Pod}

-- the object of a kind and key; where objects of the kind have no namespace the key's isn't looked at
abbrev pub target_of : Kind → Key → Target
target_of Node key = target.Node key.name
target_of ResourceSlice key = target.Slice key.name
target_of DeviceClass key = target.Class key.name
target_of ResourceClaim key = target.Claim key
target_of Pod key = target.Pod key
