-- The commands that a generated script asks for.
use Rattle.std.specs.Prelude.{ℕ, List, [], ◌∷◌, ◌++◌, map, codes, decimal, if◌then◌else◌}
use Rattle.std.specs.List.{flat_map, range_with_len}
use Rattle.object_fields.specs.declared.key.Key.{Key}
use Rattle.commands.specs.Commands.{apply_of}
use Rattle.commands.specs.Readings.{Asks, Reading}
use Rattle.commands.specs.declared.command.Command.{Command}
use Rattle.commands.specs.declared.command.Command.TheVariants.{Release, Schedule}
use Rattle.commands.specs.declared.document.ObjectKind.TheVariants as kind
use Rattle.commands.specs.declared.given.Given.TheVariants.{One}
use Rattle.script_gen.specs.Generator.{next_number}
use Rattle.script_gen.specs.Script.{device_count, number_before, released_one, releases_one}
use Rattle.script_commands.specs.Values.{claim_value, class_value, node_value, pod_value, slice_value}

-- the pod `pi`
abbrev pub pod_key : ℕ → Key
pod_key i = record { namespace = codes "default"; name = codes "p" ++ decimal i }

-- four nodes, a class, and a slice for each node
abbrev pub cluster_commands : List Command
cluster_commands =
    map (λ i. apply_of kind.Node (node_value i)) (range_with_len 0 4) ++ apply_of kind.DeviceClass class_value ∷ map (λ i. apply_of kind.ResourceSlice (slice_value i)) (range_with_len 0 4)

-- the Release of an earlier pod, if one is released
abbrev pub release_commands : ℕ → ℕ → List Command
release_commands x i = if releases_one x i then Release (pod_key (released_one x i)) ∷ [] else []

-- of the pod with this index: its claim, the pod, a Schedule of it, and the Release of an earlier one
abbrev pub pod_commands : ℕ → ℕ → ℕ → List Command
pod_commands attempts x i =
    apply_of kind.ResourceClaim (claim_value i (device_count x)) ∷ apply_of kind.Pod (pod_value i) ∷ Schedule (pod_key i) attempts ∷ release_commands (next_number x) i

-- the whole script's, with so many pods; a Schedule makes at most so many attempts
unfoldable pub commands_of : ℕ → ℕ → ℕ → List Command
commands_of attempts from pods = cluster_commands ++ flat_map (λ i. pod_commands attempts (number_before from i) i) (range_with_len 0 pods)

-- a document that asks for one command
abbrev pub asked_alone : Command → Reading
asked_alone c = Asks (One c ∷ [])
