-- Totals stay right where no slice changes.
use Rattle.std.proofs.Common.{ℕ, ◌≡◌, List, Ok, Err, OnOk, OnErr, sym, subst}
use Rattle.std.specs.Prelude.{Result}
use Rattle.pool_view.specs.Inventory.{with_node, without_node}
use Rattle.pool_view.specs.Usable.{counted_slices, usable_slices}
use Rattle.pool_view.specs.declared.inventory.Inventory.{Inventory}
use Rattle.cluster.specs.declared.object.Object.{Object}
use Rattle.cluster.specs.declared.object.Object.TheVariants as object
use Rattle.cluster.specs.declared.object.Target.{Target}
use Rattle.cluster.specs.declared.object.Target.TheVariants as target
use Rattle.cluster.specs.declared.state.State.{State}
use Rattle.cluster.specs.Applied.{with_object}
use Rattle.cluster.specs.Deleted.{without_object}
use Rattle.counter_sets.specs.Holding.{Holders}
use Rattle.counter_sets.specs.Totals.{KeptCounters}
use Rattle.api_cluster.specs.declared.types.Node.{Node}
use Rattle.pool_totals.specs.Counting.{AreCounted}

node_counted : (i : Inventory) (h : Holders) (index : ℕ) (x : Node) (totals : KeptCounters) → AreCounted i h totals → AreCounted (with_node index x i) h totals
unfolding counted_slices usable_slices
node_counted i h index x totals counted = record { value_is = counted.value_is; drawn_is = counted.drawn_is; fits = counted.fits }

node_gone : (i : Inventory) (h : Holders) (name : List ℕ) (totals : KeptCounters) → AreCounted i h totals → AreCounted (without_node name i) h totals
unfolding counted_slices usable_slices
node_gone i h name totals counted = record { value_is = counted.value_is; drawn_is = counted.drawn_is; fits = counted.fits }

-- the object is no slice
abbrev pub IsNoSlice : Object → Type 0
IsNoSlice (object.Node x) = Unit {0}
IsNoSlice (object.Slice x) = ⊥
IsNoSlice (object.Class x) = Unit {0}
IsNoSlice (object.Claim x) = Unit {0}
IsNoSlice (object.Pod x) = Unit {0}

applied_counted : (s : State) (h : Holders) (index : ℕ) (x : Object) (totals : KeptCounters) → IsNoSlice x → AreCounted s.inventory h totals → AreCounted (with_object index x s).inventory h totals
applied_counted s h index (object.Node x) totals is counted = node_counted s.inventory h index x totals counted
applied_counted s h index (object.Slice x) totals is counted = absurd is
applied_counted s h index (object.Class x) totals is counted = counted
applied_counted s h index (object.Claim x) totals is counted = counted
applied_counted s h index (object.Pod x) totals is counted = counted

abbrev pub IsNoSliceName : Target → Type 0
IsNoSliceName (target.Node name) = Unit {0}
IsNoSliceName (target.Slice name) = ⊥
IsNoSliceName (target.Class name) = Unit {0}
IsNoSliceName (target.Claim key) = Unit {0}
IsNoSliceName (target.Pod key) = Unit {0}

removed_counted : (s : State) (h : Holders) (x : Target) (totals : KeptCounters) → IsNoSliceName x → AreCounted s.inventory h totals → AreCounted (without_object x s).inventory h totals
removed_counted s h (target.Node name) totals is counted = node_gone s.inventory h name totals counted
removed_counted s h (target.Slice name) totals is counted = absurd is
removed_counted s h (target.Class name) totals is counted = counted
removed_counted s h (target.Claim key) totals is counted = counted
removed_counted s h (target.Pod key) totals is counted = counted

-- ---- whether it succeeds or not

abbrev Counts : Holders → KeptCounters → State → Type 0
Counts h totals s = AreCounted s.inventory h totals

pub put_counted : {A E : Type 0} (result : Result A E) (s s' : State) (h : Holders) (index : ℕ) (x : Object) (totals : KeptCounters) → IsNoSlice x → OnOk result (s' ≡ with_object index x s) → OnErr result (s' ≡ s)
    → AreCounted s.inventory h totals → AreCounted s'.inventory h totals
put_counted (Ok v) s s' h index x totals is ok err counted = subst (Counts h totals) (sym ok) (applied_counted s h index x totals is counted)
put_counted (Err v) s s' h index x totals is ok err counted = subst (Counts h totals) (sym err) counted

pub gone_counted : {A E : Type 0} (result : Result A E) (s s' : State) (h : Holders) (x : Target) (totals : KeptCounters) → IsNoSliceName x → OnOk result (s' ≡ without_object x s) → OnErr result (s' ≡ s)
    → AreCounted s.inventory h totals → AreCounted s'.inventory h totals
gone_counted (Ok v) s s' h x totals is ok err counted = subst (Counts h totals) (sym ok) (removed_counted s h x totals is counted)
gone_counted (Err v) s s' h x totals is ok err counted = subst (Counts h totals) (sym err) counted
