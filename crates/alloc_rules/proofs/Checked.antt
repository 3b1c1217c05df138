-- The order of the check: what each step finds is the first failure.
use Rattle.std.proofs.Common.{ℕ, ◌≡◌, ◌∙◌, List, [], Bool, true, false, cond, Option, None, Some, find, map, refl, sym, ap, subst}
use Rattle.std.specs.Option.{is_none, option_map}
use Rattle.object_fields.specs.declared.key.Key.{Key}
use Rattle.api_claim.specs.declared.types.ClaimStatus.{ClaimStatus}
use Rattle.api_claim.specs.declared.types.ResourceClaim.{ResourceClaim}
use Rattle.pool_view.specs.Names.{at_key, at_name}
use Rattle.pool_view.specs.Pools.{Offered}
use Rattle.pool_view.specs.Usable.{node_devices}
use Rattle.cluster.specs.declared.failure.Failure.{Failure}
use Rattle.cluster.specs.declared.failure.Failure.TheVariants.{ClaimChanged, DeviceGone, NodeGone}
use Rattle.cluster.specs.declared.plan.DeviceResult.{DeviceResult}
use Rattle.cluster.specs.declared.plan.Grant.{Grant}
use Rattle.cluster.specs.declared.plan.Plan.{Plan}
use Rattle.cluster.specs.declared.state.ClaimState.{ClaimState}
use Rattle.cluster.specs.declared.state.PodState.{PodState}
use Rattle.cluster.specs.declared.state.State.{State}
use Rattle.cluster.specs.Held as cluster
use Rattle.request_rules.specs.Input.{SearchInput}
use Rattle.request_rules.specs.Lists.{Each}
use Rattle.request_rows.specs.Wanted as rows
use Rattle.request_rows.specs.Wanted.{RowsFields}
use Rattle.allocations.specs.Input.{input_of}
use Rattle.plan_rules.specs.Chosen.{Due, choice_of, dues, pick_of}
use Rattle.plan_rules.specs.Failing.{failing, failing_at, failing_for, failing_in, failing_pod, failing_results, failing_shaped, failing_standing, failing_status, failing_tolerated, failing_write, node_gone}
use Rattle.plan_rules.specs.Known.{claim_gone}
use Rattle.alloc_rules.specs.Rows.{AreByClaim, AreDuesMore, AreRowsOf, DueFields, IsDue, due_seen}
use Rattle.plan_rules.specs.Shaped.{misshapen}
use Rattle.plan_rules.specs.Standing.{all_results, constraint_broken, counter_short, device_gone, held, is_off, selector_fault, selector_no, tainted}
use Rattle.alloc_rules.proofs.Alike.{choice_same, constraint_same, dues_same, else_first, else_later, fault_same, misshapen_same, no_same, picks_same, tainted_same}
use Rattle.alloc_rules.proofs.Ordered.{dues_ordered}

-- ---- results that meet their requests

held_is : (s : State) (node : List ℕ) (claims : List ResourceClaim) (ds : List Due) → held (cluster.held s) ds ≡ held (input_of s claims node).held ds
unfolding input_of
held_is s node claims ds = refl

pub standing_held : (s : State) (node : List ℕ) (r : RowsFields) (ds : List Due) (f : Failure) → Some f ≡ held (cluster.held s) ds → Some f ≡ failing_standing (input_of s r.wants.claims node) ds
standing_held s node r ds f e = else_first (held (input_of s r.wants.claims node).held ds) _ f (e ∙ held_is s node r.wants.claims ds)

pub standing_counter : (s : State) (node : List ℕ) (r : RowsFields) (ds : List Due) (f : Failure) → AreRowsOf s node r → None ≡ held (cluster.held s) ds
    → Some f ≡ counter_short (input_of s r.wants.claims node) (map (pick_of (rows.input_of r)) ds) → Some f ≡ failing_standing (input_of s r.wants.claims node) ds
standing_counter s node r ds f are none e =
    let w : SearchInput = input_of s r.wants.claims node in
    else_later (held w.held ds) _ (Some f) (none ∙ held_is s node r.wants.claims ds)
    (else_first (counter_short w (map (pick_of w) ds)) _ f (e ∙ ap (counter_short w) (picks_same s node r ds are)))

pub standing_constraint : (s : State) (node : List ℕ) (r : RowsFields) (ds : List Due) (found : Option Failure) → AreRowsOf s node r → None ≡ held (cluster.held s) ds
    → None ≡ counter_short (input_of s r.wants.claims node) (map (pick_of (rows.input_of r)) ds) → found ≡ constraint_broken (rows.input_of r) (map (pick_of (rows.input_of r)) ds) → found ≡ failing_standing (input_of s r.wants.claims node) ds
standing_constraint s node r ds found are none enough e =
    let w : SearchInput = input_of s r.wants.claims node in
    else_later (held w.held ds) _ found (none ∙ held_is s node r.wants.claims ds)
    (else_later (counter_short w (map (pick_of w) ds)) _ found (enough ∙ ap (counter_short w) (picks_same s node r ds are))
    (e ∙ constraint_same s node r (map (pick_of (rows.input_of r)) ds) are ∙ ap (constraint_broken w) (picks_same s node r ds are)))

-- ---- results that meet their requests, with taints

pub tolerated_not : (s : State) (node : List ℕ) (r : RowsFields) (ds : List Due) (f : Failure) → AreRowsOf s node r → Some f ≡ tainted (rows.input_of r) ds → Some f ≡ failing_tolerated (input_of s r.wants.claims node) ds
tolerated_not s node r ds f are e = else_first (tainted (input_of s r.wants.claims node) ds) _ f (e ∙ tainted_same s node r ds are)

pub tolerated_rest : (s : State) (node : List ℕ) (r : RowsFields) (ds : List Due) (found : Option Failure) → AreRowsOf s node r → None ≡ tainted (rows.input_of r) ds → found ≡ failing_standing (input_of s r.wants.claims node) ds
    → found ≡ failing_tolerated (input_of s r.wants.claims node) ds
tolerated_rest s node r ds found are none e = else_later (tainted (input_of s r.wants.claims node) ds) _ found (none ∙ tainted_same s node r ds are) e

-- ---- results of the right shape

pub shaped_no : (s : State) (node : List ℕ) (r : RowsFields) (choice : List ℕ) (ds : List Due) (f : Failure) → AreRowsOf s node r → Some f ≡ selector_no (rows.input_of r) ds → Some f ≡ failing_shaped (input_of s r.wants.claims node) choice ds
shaped_no s node r choice ds f are e = else_first (selector_no (input_of s r.wants.claims node) ds) _ f (e ∙ no_same s node r ds are)

pub shaped_fault : (s : State) (node : List ℕ) (r : RowsFields) (choice : List ℕ) (ds : List Due) (f : Failure) → AreRowsOf s node r → None ≡ selector_no (rows.input_of r) ds → Some f ≡ selector_fault (rows.input_of r) choice
    → Some f ≡ failing_shaped (input_of s r.wants.claims node) choice ds
shaped_fault s node r choice ds f are none e =
    let w : SearchInput = input_of s r.wants.claims node in
    else_later (selector_no w ds) _ (Some f) (none ∙ no_same s node r ds are) (else_first (selector_fault w choice) _ f (e ∙ fault_same s node r choice are))

pub shaped_rest : (s : State) (node : List ℕ) (r : RowsFields) (choice : List ℕ) (ds : List Due) (found : Option Failure) → AreRowsOf s node r → None ≡ selector_no (rows.input_of r) ds → None ≡ selector_fault (rows.input_of r) choice
    → found ≡ failing_tolerated (input_of s r.wants.claims node) ds → found ≡ failing_shaped (input_of s r.wants.claims node) choice ds
shaped_rest s node r choice ds found are none sure e =
    let w : SearchInput = input_of s r.wants.claims node in
    else_later (selector_no w ds) _ found (none ∙ no_same s node r ds are) (else_later (selector_fault w choice) _ found (sure ∙ fault_same s node r choice are) e)

-- ---- grants on a node

gone_none : (devices : List Offered) (gs : List Grant) → find (is_off devices) (all_results gs) ≡ None → None ≡ device_gone devices gs
gone_none devices gs e = sym (ap (λ (o : Option DeviceResult). option_map (λ (r : DeviceResult). DeviceGone r.device) o) e)

none_mapped : {X Y : Type 0} (f : X → Y) (o : Option X) → None ≡ option_map f o → o ≡ None
none_mapped f None e = refl
none_mapped f (Some x) e = absurd (cc)

pub none_gone : (devices : List Offered) (gs : List Grant) → None ≡ device_gone devices gs → find (is_off devices) (all_results gs) ≡ None
none_gone devices gs e = none_mapped (λ (r : DeviceResult). DeviceGone r.device) (find (is_off devices) (all_results gs)) e

devices_are : (s : State) (node : List ℕ) (claims : List ResourceClaim) (devices : List Offered) (gs : List Grant) → devices ≡ node_devices s.inventory node → device_gone devices gs ≡ device_gone (input_of s claims node).devices gs
unfolding input_of
devices_are s node claims devices gs e = ap (λ (l : List Offered). device_gone l gs) e

pub in_gone : (s : State) (node : List ℕ) (claims : List ResourceClaim) (devices : List Offered) (gs : List Grant) (f : Failure) → devices ≡ node_devices s.inventory node → Some f ≡ device_gone devices gs → Some f ≡ failing_in (input_of s claims node) gs
unfolding failing_in
in_gone s node claims devices gs f e h = else_first (device_gone (input_of s claims node).devices gs) _ f (h ∙ devices_are s node claims devices gs e)

pub in_shape : (s : State) (node : List ℕ) (r : RowsFields) (devices : List Offered) (gs : List Grant) (f : Failure) → AreRowsOf s node r → devices ≡ node_devices s.inventory node → find (is_off devices) (all_results gs) ≡ None
    → Some f ≡ misshapen (rows.input_of r) gs → Some f ≡ failing_in (input_of s r.wants.claims node) gs
unfolding failing_in
in_shape s node r devices gs f are e on h =
    let w : SearchInput = input_of s r.wants.claims node in
    else_later (device_gone w.devices gs) _ (Some f) (gone_none devices gs on ∙ devices_are s node r.wants.claims devices gs e) (else_first (misshapen w gs) _ f (h ∙ misshapen_same s node r gs are))

pub in_rest : (s : State) (node : List ℕ) (r : RowsFields) (devices : List Offered) (gs : List Grant) (choice : List ℕ) (ds : List DueFields) (found : Option Failure) → AreRowsOf s node r → devices ≡ node_devices s.inventory node
    → find (is_off devices) (all_results gs) ≡ None → None ≡ misshapen (rows.input_of r) gs → choice ≡ choice_of (rows.input_of r) gs → AreDuesMore (rows.input_of r) [] ds (dues (rows.input_of r) gs)
    → found ≡ failing_shaped (input_of s r.wants.claims node) choice (map (due_seen (rows.input_of r)) ds) → found ≡ failing_in (input_of s r.wants.claims node) gs
unfolding failing_in
in_rest s node r devices gs choice ds found are e on none picked more h =
    let w : SearchInput = input_of s r.wants.claims node in
    else_later (device_gone w.devices gs) _ found (gone_none devices gs on ∙ devices_are s node r.wants.claims devices gs e)
    (else_later (misshapen w gs) _ found (none ∙ misshapen_same s node r gs are)
    (h
    ∙ ap (λ (c : List ℕ). failing_shaped w c (map (due_seen (rows.input_of r)) ds)) (picked ∙ choice_same s node r gs are)
    ∙ ap (failing_shaped w (choice_of w gs)) (ap (map (due_seen (rows.input_of r))) more.new_is ∙ more.seen ∙ dues_same s node r gs are)))

pub in_order : (w : SearchInput) (gs : List Grant) (xs ds : List DueFields) → xs ≡ ds → AreDuesMore w [] ds (dues w gs) → AreByClaim 0 (map (due_seen w) xs)
in_order w gs xs ds e more = subst (AreByClaim 0) (sym (ap (map (due_seen w)) (e ∙ more.new_is) ∙ more.seen)) (dues_ordered w gs)

pub each_due : (w : SearchInput) (gs : List Grant) (xs ds : List DueFields) → xs ≡ ds → AreDuesMore w [] ds (dues w gs) → Each (IsDue w) xs
each_due w gs xs ds e more = subst (Each (IsDue w)) (sym (e ∙ more.new_is)) more.each_due

-- ---- the node, the pod and the claims

pub at_gone : (s : State) (claims : List ResourceClaim) (node : List ℕ) (gs : List Grant) → is_none (at_name s.inventory.nodes node) ≡ true → Some (NodeGone node) ≡ failing_at s claims node gs
unfolding failing_at
at_gone s claims node gs e = else_first (node_gone s node) _ (NodeGone node) (sym (ap (λ (t : Bool). cond t (Some (NodeGone node)) None) e))

pub at_there : (s : State) (claims : List ResourceClaim) (node : List ℕ) (gs : List Grant) (found : Option Failure) → is_none (at_name s.inventory.nodes node) ≡ false → found ≡ failing_in (input_of s claims node) gs → found ≡ failing_at s claims node gs
unfolding failing_at
at_there s claims node gs found e h = else_later (node_gone s node) _ found (sym (ap (λ (t : Bool). cond t (Some (NodeGone node)) None) e)) h

pub claim_first : (s : State) (pod : Key) (plan : Plan) (f : Failure) → Some f ≡ claim_gone s plan.known.claims → Some f ≡ failing s pod plan
unfolding failing
claim_first s pod plan f e = else_first (claim_gone s plan.known.claims) _ f e

pub pod_gone : (s : State) (pod : Key) (plan : Plan) → None ≡ claim_gone s plan.known.claims → at_key s.pods pod ≡ None → Some (ClaimChanged pod) ≡ failing s pod plan
unfolding failing
pod_gone s pod plan none e = else_later (claim_gone s plan.known.claims) _ (Some (ClaimChanged pod)) none (sym (ap (λ (o : Option PodState). failing_for s pod o plan) e))

pub pod_there : (s : State) (pod : Key) (p : PodState) (plan : Plan) (found : Option Failure) → None ≡ claim_gone s plan.known.claims → at_key s.pods pod ≡ Some p → found ≡ failing_pod s pod p plan → found ≡ failing s pod plan
unfolding failing
pod_there s pod p plan found none e h = else_later (claim_gone s plan.known.claims) _ found none (h ∙ sym (ap (λ (o : Option PodState). failing_for s pod o plan) e))

pub status_there : (s : State) (claim : Key) (c : ClaimState) (status : ClaimStatus) (found : Option Failure) → at_key s.claims claim ≡ Some c → found ≡ failing_results s claim c.claim.object status → found ≡ failing_status s claim status
unfolding failing_status
status_there s claim c status found e h = h ∙ sym (ap (λ (o : Option ClaimState). failing_write s claim status o) e)
