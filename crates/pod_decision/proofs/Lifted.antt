-- A search of a node's devices is the search of the node.
use Rattle.std.proofs.Common.{ℕ, ◌≡◌, ◌∙◌, List, Bool, Option, Some, sym, ap, subst}
use Rattle.std.proofs.Math.Path.{fun_ext}
use Rattle.object_fields.specs.declared.key.DeviceId.{DeviceId}
use Rattle.object_fields.specs.declared.key.Key.{Key}
use Rattle.api_claim.specs.declared.types.DeviceAsk.{DeviceAsk}
use Rattle.api_claim.specs.declared.types.ResourceClaim.{ResourceClaim}
use Rattle.pool_view.specs.declared.matching.Match.{Match}
use Rattle.pool_view.specs.declared.inventory.Inventory.{Inventory}
use Rattle.pool_view.specs.Pools.{Offered}
use Rattle.pool_view.specs.Usable.{has_broken, node_devices, usable_slices}
use Rattle.cluster.specs.declared.state.State.{State}
use Rattle.cluster.specs.Held.{held}
use Rattle.request_rules.specs.Draws.{CounterId, drawn, value_among}
use Rattle.counter_sets.specs.Holding.{AreHeld, Holders}
use Rattle.counter_sets.specs.Totals.{KeptCounters, drawn_in, value_of}
use Rattle.request_rules.specs.Input.{SearchInput}
use Rattle.request_rules.specs.Match.{matched_by}
use Rattle.request_rows.specs.Wanted.{WantsFields, asking}
use Rattle.allocations.specs.Input.{input_of}
use Rattle.allocator.specs.Answered.{answer_of}
use Rattle.allocator.specs.Input.{with_counters}
use Rattle.allocator.specs.declared.outcome.Outcome.{Outcome}
use Rattle.pool_totals.specs.Drawn.{AreDrawn}

same_input : (d e : List Offered) (c f : List ResourceClaim) (m n : DeviceAsk → Offered → Match) (h : List (DeviceId × Key)) (v w : CounterId → Option ℕ) (x y : CounterId → ℕ) (b z : Bool)
    → d ≡ e → c ≡ f → m ≡ n → v ≡ w → x ≡ y → b ≡ z
    → ◌≡◌ {A = SearchInput} (record { devices = d; claims = c; matched = m; held = h; value = v; drawn = x; broken = b }) (record { devices = e; claims = f; matched = n; held = h; value = w; drawn = y; broken = z })
same_input d e c f m n h v w x y b z p q r s t u = cc

is_input : (s : State) (claims : List ResourceClaim) (node : List ℕ) (totals : KeptCounters) (devices : List Offered) (broken : Bool) (wants : WantsFields)
    → devices ≡ node_devices s.inventory node → broken ≡ has_broken s.inventory node → wants.claims ≡ claims → wants.classes ≡ s.classes → AreDrawn s.inventory (held s) totals
    → input_of s claims node ≡ with_counters (asking wants devices broken) (held s) (value_of totals) (drawn_in totals)
unfolding input_of
is_input s claims node totals devices broken wants d b c k are =
    same_input (node_devices s.inventory node) devices claims wants.claims (matched_by s.classes) (matched_by wants.classes) (held s)
    (value_among (usable_slices s.inventory)) (value_of totals) (drawn (usable_slices s.inventory) (held s)) (drawn_in totals) (has_broken s.inventory node) broken
    (sym d) (sym c) (ap (λ z. matched_by z) (sym k)) (fun_ext (λ x. sym (are.value_is x))) (fun_ext (λ x. sym (are.drawn_is x))) (sym b)

-- the outcome over the node's devices is the node's, by what is known of each part of a search
pub found_of_node : (s t : State) (claims : List ResourceClaim) (node : List ℕ) (pools : Inventory) (holders : Holders) (totals : KeptCounters) (devices : List Offered) (broken : Bool) (wants : WantsFields) (budget : ℕ) (found : Outcome)
    → t ≡ s → pools ≡ t.inventory → devices ≡ node_devices pools node → broken ≡ has_broken pools node → wants.claims ≡ claims → wants.classes ≡ t.classes → AreHeld holders (held t) → AreDrawn s.inventory (held s) totals
    → ((pairs : List (DeviceId × Key)) → AreHeld holders pairs → answer_of (with_counters (asking wants devices broken) pairs (value_of totals) (drawn_in totals)) budget ≡ Some found)
    → answer_of (input_of s claims node) budget ≡ Some found
found_of_node s t claims node pools holders totals devices broken wants budget found ts p d b c k h are answer =
    let own : pools ≡ s.inventory = p ∙ ap (λ (x : State). x.inventory) ts in
    ap (λ w. answer_of w budget)
    (is_input s claims node totals devices broken wants (d ∙ ap (λ x. node_devices x node) own) (b ∙ ap (λ x. has_broken x node) own) c (k ∙ ap (λ (x : State). x.classes) ts) are)
    ∙ answer (held s) (subst (λ x. AreHeld holders (held x)) ts h)

-- the devices that a node sees are those of the pools of a search
pub of_pools : (pools : Inventory) (t s : State) (node : List ℕ) (devices : List Offered) → pools ≡ t.inventory → t ≡ s → devices ≡ node_devices s.inventory node → devices ≡ node_devices pools node
of_pools pools t s node devices p ts d = d ∙ ap (λ (i : Inventory). node_devices i node) (sym (p ∙ ap (λ (x : State). x.inventory) ts))

-- totals by what is known of each part of a search
pub drawn_of_state : (s t : State) (i : Inventory) (totals : KeptCounters) → t ≡ s → i ≡ t.inventory → AreDrawn i (held t) totals → AreDrawn s.inventory (held s) totals
drawn_of_state s t i totals ts e are = subst (λ (x : State). AreDrawn x.inventory (held x) totals) ts (subst (λ (j : Inventory). AreDrawn j (held t) totals) e are)
