-- An object is taken away.
use Rattle.std.specs.Prelude.{ℕ}
use Rattle.std.specs.BTreeMap.{is_at}
use Rattle.std.specs.Map.{remove_entry}
use Rattle.pool_view.specs.Inventory.{without_named, without_node, without_slice}
use Rattle.pool_view.specs.Names.{key_cmp}
use Rattle.cluster.specs.declared.entry.JobState.{JobState}
use Rattle.cluster.specs.declared.entry.JobState.TheVariants as job_state
use Rattle.cluster.specs.declared.object.Target.{Target}
use Rattle.cluster.specs.declared.object.Target.TheVariants as target
use Rattle.cluster.specs.declared.state.State.{State}

-- the state without the object of a kind and name
abbrev pub without_object : Target → State → State
without_object (target.Node name) s = record s { inventory = without_node name s.inventory }
without_object (target.Slice name) s = record s { inventory = without_slice name s.inventory }
without_object (target.Class name) s = record s { classes = without_named name s.classes }
without_object (target.Claim key) s = record s { claims = remove_entry (is_at (key_cmp key)) s.claims }
without_object (target.Pod key) s = record s { pods = remove_entry (is_at (key_cmp key)) s.pods }

-- its job is ended
abbrev pub deleted_leaves : ℕ → JobState
deleted_leaves index = job_state.Ended index
