-- A true plan holds.
use Rattle.std.proofs.Common.{ℕ, ◌≡◌, ◌∙◌, List, Bool, Some, sym, subst}
use Rattle.std.specs.List.{Contains, find, position_or_len, slice_get}
use Rattle.std.specs.Map.{keys_of}
use Rattle.std.specs.Option.{IsSome}
use Rattle.std.proofs.lemmas.Option.{slice_get_within, get_or_from_slice_get}
use Rattle.std.proofs.lemmas.List.Folds.{find_at}
use Rattle.std.proofs.lemmas.Cmp.{nat_list_cmp_total, eq_by_cmp_equiv}
use Rattle.std.proofs.lemmas.Map.Views.{IsSome-lookup_from_Contains}
use Rattle.walk.specs.Walk.{Item, Full}
use Rattle.walk.specs.Outcome.{ends}
use Rattle.object_fields.specs.declared.key.Key.{Key}
use Rattle.api_cluster.specs.declared.types.Pod.{Pod}
use Rattle.pool_view.specs.Names.{at_name}
use Rattle.cluster.specs.declared.plan.Grant.{Grant}
use Rattle.cluster.specs.declared.plan.Plan.{Plan}
use Rattle.cluster.specs.declared.state.State.{State}
use Rattle.allocations.specs.Claims.{wanted}
use Rattle.allocations.specs.Input.{grants_at, input_for, walk_on}
use Rattle.allocations.specs.Allocation.{IsAllocation}
use Rattle.plan_rules.specs.Plans.{Holds, PlanTrue}
use Rattle.plan_rules.proofs.Users.{room_of}

-- a name among a table's names has an object
pub there_by_name : {V : Type 0} (table : List (List ℕ × V)) (name : List ℕ) → Contains (keys_of table) name → IsSome (at_name table name)
there_by_name table name h = IsSome-lookup_from_Contains (eq_by_cmp_equiv nat_list_cmp_total) name table h

contains_at : {X : Type 0} (xs : List X) (i : ℕ) (x : X) → slice_get xs i ≡ Some x → Contains xs x
contains_at xs i x e = (i, slice_get_within xs i x e, get_or_from_slice_get xs i x x e)

contains_found : {X : Type 0} (t : X → Bool) (xs : List X) (x : X) → find t xs ≡ Some x → Contains xs x
contains_found t xs x e = contains_at xs (position_or_len t xs) x (sym (find_at t xs) ∙ e)

-- what the law of walks states about full items
abbrev pub Fulls : Type 0
Fulls = (s : State) (pod : Pod) (node : List ℕ) (x : Item) → IsSome (at_name s.inventory.nodes node) → Contains (walk_on s pod node) x → x.mark ≡ Full
    → IsAllocation s (wanted s pod) node x.choice (grants_at (input_for s pod node) x)

pub holds_by : Fulls → (s : State) (pod : Key) (plan : Plan) → PlanTrue s pod plan → Holds s pod plan
holds_by law s pod plan t = record {
  state = t.state;
  idle = t.may_search.idle;
  known = t.known;
  there = t.may_search.there;
  users = room_of s pod t.state t.may_search.room;
  here = t.here;
  joins = t.joins;
  choice = t.item.choice;
  allocation = subst (λ (g : List Grant). IsAllocation s (wanted s t.state.pod.object) plan.node t.item.choice g) (sym t.grants)
      (law s t.state.pod.object plan.node t.item (there_by_name s.inventory.nodes plan.node t.node_known) (contains_found ends (walk_on s t.state.pod.object plan.node) t.item t.first) t.full);
}
