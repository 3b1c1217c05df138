-- The pods of a script have one claim, and how many entries its commands have at most.
use Rattle.std.proofs.Common.{ℕ, zero, suc, ◌≡◌, ◌≤◌, ◌+◌, ◌*◌, ◌++◌, List, [], ◌∷◌, Bool, true, false, if◌then◌else◌, map, refl, arith}
use Rattle.std.specs.List.{flat_map, range_with_len}
use Rattle.std.specs.Prelude.{Result, Ok, Err, codes, decimal}
use Rattle.object_fields.specs.Fields.{◌>>=◌}
use Rattle.object_fields.specs.Meta.{meta_at}
use Rattle.object_fields.specs.declared.error.FieldError.{FieldError}
use Rattle.object_fields.specs.declared.meta.ObjectMeta.{ObjectMeta}
use Rattle.object_fields.specs.declared.meta.Scope.TheVariants.{Namespaced}
use Rattle.api_claim.specs.Claims.{claim_of}
use Rattle.api_claim.specs.declared.types.ResourceClaim.{ResourceClaim}
use Rattle.api_cluster.specs.Classes.{class_of}
use Rattle.api_cluster.specs.Nodes.{node_of}
use Rattle.api_cluster.specs.Pods.{spec_at}
use Rattle.api_cluster.specs.declared.types.DeviceClass.{DeviceClass}
use Rattle.api_cluster.specs.declared.types.Node.{Node}
use Rattle.api_cluster.specs.declared.types.Pod.{Pod}
use Rattle.api_cluster.specs.declared.types.PodResourceClaim.{PodResourceClaim}
use Rattle.api_slice.specs.Slices.{slice_of}
use Rattle.api_slice.specs.declared.types.ResourceSlice.{ResourceSlice}
use Rattle.ready_objects.specs.Ready.{claim_ready, class_ready}
use Rattle.cluster.specs.Ready.{ready_of}
use Rattle.cluster.specs.declared.object.Object.{Object}
use Rattle.cluster.specs.declared.object.Object.TheVariants as object
use Rattle.commands.specs.Commands.{applied, apply_of}
use Rattle.commands.specs.Objects.{ready_object}
use Rattle.commands.specs.declared.command.Command.{Command}
use Rattle.commands.specs.declared.command.Command.TheVariants.{Release}
use Rattle.commands.specs.declared.document.ObjectKind.{ObjectKind}
use Rattle.commands.specs.declared.document.ObjectKind.TheVariants as kind
use Rattle.serde_json.specs.Data.{Data}
use Rattle.script_gen.specs.Generator.{next_number}
use Rattle.script_gen.specs.Script.{device_count, number_before, released_one, releases_one}
use Rattle.script_commands.specs.Commands.{cluster_commands, commands_of, pod_commands, pod_key}
use Rattle.script_commands.specs.Values.{claim_value, class_value, node_value, pod_value, slice_value}
use Rattle.short_jobs.specs.Short.{HasFewClaims, entries_most}

-- ---- commands that apply an object

node_small : (r : Result Node FieldError) → HasFewClaims (applied ((r >>= λ x. Ok (object.Node x)) >>= ready_of))
node_small (Ok x) = tt
node_small (Err e) = tt

slice_small : (r : Result ResourceSlice FieldError) → HasFewClaims (applied ((r >>= λ x. Ok (object.Slice x)) >>= ready_of))
slice_small (Ok x) = tt
slice_small (Err e) = tt

ready_class_small : (r : Result DeviceClass FieldError) → HasFewClaims (applied (r >>= λ y. Ok (object.Class y)))
ready_class_small (Ok x) = tt
ready_class_small (Err e) = tt

class_small : (r : Result DeviceClass FieldError) → HasFewClaims (applied ((r >>= λ x. Ok (object.Class x)) >>= ready_of))
class_small (Ok x) = ready_class_small (class_ready x)
class_small (Err e) = tt

ready_claim_small : (r : Result ResourceClaim FieldError) → HasFewClaims (applied (r >>= λ y. Ok (object.Claim y)))
ready_claim_small (Ok x) = tt
ready_claim_small (Err e) = tt

claim_small : (r : Result ResourceClaim FieldError) → HasFewClaims (applied ((r >>= λ x. Ok (object.Claim x)) >>= ready_of))
claim_small (Ok x) = ready_claim_small (claim_ready x)
claim_small (Err e) = tt

-- the pod's claims, whatever the metadata
abbrev with_claims : List PodResourceClaim → ObjectMeta → Result Pod FieldError
with_claims claims meta = Ok (record { key = meta.key; version = meta.version; claims = claims })

pod_by : (claim : PodResourceClaim) (r : Result ObjectMeta FieldError) → HasFewClaims (applied (((r >>= with_claims (claim ∷ [])) >>= λ x. Ok (object.Pod x)) >>= ready_of))
pod_by claim (Ok meta) = omega arith
pod_by claim (Err e) = tt

abbrev used : ℕ → PodResourceClaim
used i = record { name = codes "g"; claim = codes "c" ++ decimal i }

spec_is : (i : ℕ) → spec_at (pod_value i) ≡ Ok (used i ∷ [])
spec_is i = refl

pod_small : (i : ℕ) → HasFewClaims (apply_of kind.Pod (pod_value i))
pod_small i = pod_by (used i) (meta_at Namespaced (pod_value i))

applied_most : (r : Result Object FieldError) → entries_most (applied r) ≤ 1
applied_most (Ok x) = omega arith
applied_most (Err e) = omega arith

-- ---- lists of commands

-- a pod that one of them applies has one claim at most
abbrev pub AllSmall : List Command → Type 0
AllSmall [] = Unit {0}
AllSmall (c ∷ cs) = HasFewClaims c × AllSmall cs

-- how many entries they have at most
abbrev pub most_of : List Command → ℕ
most_of [] = 0
most_of (c ∷ cs) = entries_most c + most_of cs

small_append : (cs ds : List Command) → AllSmall cs → AllSmall ds → AllSmall (cs ++ ds)
small_append [] ds h g = g
small_append (c ∷ cs) ds h g = (h.0, small_append cs ds h.1 g)

most_append : (cs ds : List Command) → most_of (cs ++ ds) ≡ most_of cs + most_of ds
most_append [] ds = omega arith
most_append (c ∷ cs) ds = omega (arith, most_append cs ds)

cluster_small : AllSmall cluster_commands
cluster_small = (
  node_small (node_of (node_value 0)),
  (
    node_small (node_of (node_value 1)),
    (
      node_small (node_of (node_value 2)),
      (
        node_small (node_of (node_value 3)),
        (
          class_small (class_of class_value),
          (
            slice_small (slice_of (slice_value 0)),
            (slice_small (slice_of (slice_value 1)), (slice_small (slice_of (slice_value 2)), (slice_small (slice_of (slice_value 3)), tt))),
          ),
        ),
      ),
    ),
  ),
)

-- so many commands that apply objects
applies : (k : ObjectKind) (f : ℕ → Data) (first n : ℕ) → most_of (map (λ i. apply_of k (f i)) (range_with_len first n)) ≤ n
applies k f first zero = omega arith
applies k f first (suc n) = omega (arith, applied_most (ready_object k (f first)), applies k f (first + 1) n)

release_small : (b : Bool) (n : ℕ) → AllSmall (if b then Release (pod_key n) ∷ [] else [])
release_small true n = (tt, tt)
release_small false n = tt

release_most : (b : Bool) (n : ℕ) → most_of (if b then Release (pod_key n) ∷ [] else []) ≤ 1
release_most true n = omega arith
release_most false n = omega arith

pod_commands_small : (attempts x i : ℕ) → AllSmall (pod_commands attempts x i)
pod_commands_small attempts x i = (
  claim_small (claim_of (claim_value i (device_count x))),
  (pod_small i, (tt, release_small (releases_one (next_number x) i) (released_one (next_number x) i))),
)

pod_commands_most : (attempts x i : ℕ) → most_of (pod_commands attempts x i) ≤ 6
pod_commands_most attempts x i =
    omega (arith, applied_most (ready_object kind.ResourceClaim (claim_value i (device_count x))), applied_most (ready_object kind.Pod (pod_value i)), release_most (releases_one (next_number x) i) (released_one (next_number x) i))

pods_small : (attempts from first n : ℕ) → AllSmall (flat_map (λ i. pod_commands attempts (number_before from i) i) (range_with_len first n))
pods_small attempts from first zero = tt
pods_small attempts from first (suc n) =
    small_append (pod_commands attempts (number_before from first) first) _ (pod_commands_small attempts (number_before from first) first) (pods_small attempts from (first + 1) n)

pods_most : (attempts from first n : ℕ) → most_of (flat_map (λ i. pod_commands attempts (number_before from i) i) (range_with_len first n)) ≤ 6 * n
pods_most attempts from first zero = omega arith
pods_most attempts from first (suc n) =
    omega (
      arith,
      most_append (pod_commands attempts (number_before from first) first) (flat_map (λ i. pod_commands attempts (number_before from i) i) (range_with_len (first + 1) n)),
      pod_commands_most attempts (number_before from first) first,
      pods_most attempts from (first + 1) n,
    )

pub script_small : (attempts from pods : ℕ) → AllSmall (commands_of attempts from pods)
unfolding commands_of
script_small attempts from pods = small_append cluster_commands _ cluster_small (pods_small attempts from 0 pods)

cluster_most : most_of cluster_commands ≤ 9
cluster_most =
    omega (
      arith,
      most_append (map (λ i. apply_of kind.Node (node_value i)) (range_with_len 0 4)) (apply_of kind.DeviceClass class_value ∷ map (λ i. apply_of kind.ResourceSlice (slice_value i)) (range_with_len 0 4)),
      applies kind.Node node_value 0 4,
      applied_most (ready_object kind.DeviceClass class_value),
      applies kind.ResourceSlice slice_value 0 4,
    )

pub script_most : (attempts from pods : ℕ) → most_of (commands_of attempts from pods) ≤ 9 + 6 * pods
unfolding commands_of
script_most attempts from pods =
    omega (arith, most_append cluster_commands (flat_map (λ i. pod_commands attempts (number_before from i) i) (range_with_len 0 pods)), cluster_most, pods_most attempts from 0 pods)
