-- Each object that is printed is `Plain`: without floats, and not nested too deep.
use Rattle.std.proofs.Common.{◌≡◌, ◌≤◌, ℕ, suc, ℤ, pos, negsuc, List, [], ◌∷◌, Bool, true, false, Option, Some, None, refl, ap, arith}
use Rattle.std.specs.Prelude.{option_map, codes, if◌then◌else◌}
use Rattle.serde_json.specs.Read.{max_depth, read}
use Rattle.serde_json.specs.Written.{compact_text, has_float}
use Rattle.serde_json.specs.Data.{Data, string, member, no_members, depth}
use Rattle.serde_json.specs.View.{items_of}
use Rattle.object_fields.specs.declared.key.Key.{Key}
use Rattle.node_select.specs.declared.requirement.Requirement.{Requirement}
use Rattle.node_select.specs.declared.requirement.Test.{Test}
use Rattle.node_select.specs.declared.requirement.Test.TheVariants.{OneOf, NoneOf, Present, Absent, Above, Below}
use Rattle.node_select.specs.declared.selector.Selector.{Selector}
use Rattle.device_taints.specs.declared.types.Taint.{Taint}
use Rattle.device_taints.specs.declared.types.TaintEffect.{TaintEffect}
use Rattle.device_taints.specs.declared.types.Toleration.{Toleration}
use Rattle.device_taints.specs.declared.types.TolerationOperator.{TolerationOperator}
use Rattle.device_taints.specs.declared.types.TolerationOperator.TheVariants.{Equal, Exists}
use Rattle.api_slice.specs.declared.types.Attribute.{Attribute}
use Rattle.api_slice.specs.declared.types.Attribute.TheVariants as attribute
use Rattle.api_slice.specs.declared.types.CounterConsumption.{CounterConsumption}
use Rattle.api_slice.specs.declared.types.CounterSet.{CounterSet}
use Rattle.api_slice.specs.declared.types.Device.{Device}
use Rattle.api_slice.specs.declared.types.Nodes.{Nodes}
use Rattle.api_slice.specs.declared.types.Nodes.TheVariants as nodes
use Rattle.api_slice.specs.declared.types.ResourceSlice.{ResourceSlice}
use Rattle.api_slice.specs.declared.types.SliceNodes.{SliceNodes}
use Rattle.api_slice.specs.declared.types.SliceNodes.TheVariants as slice
use Rattle.api_claim.specs.declared.types.AllocationMode.{AllocationMode}
use Rattle.api_claim.specs.declared.types.AllocationMode.TheVariants.{ExactCount, All}
use Rattle.api_claim.specs.declared.types.DeviceConstraint.{DeviceConstraint}
use Rattle.api_claim.specs.declared.types.DeviceRequest.{DeviceRequest}
use Rattle.api_claim.specs.declared.types.DeviceSubRequest.{DeviceSubRequest}
use Rattle.api_claim.specs.declared.types.ExactDeviceRequest.{ExactDeviceRequest}
use Rattle.api_claim.specs.declared.types.RequestKind.{RequestKind}
use Rattle.api_claim.specs.declared.types.RequestKind.TheVariants as kind
use Rattle.api_claim.specs.declared.types.ResourceClaim.{ResourceClaim}
use Rattle.api_cluster.specs.declared.types.DeviceClass.{DeviceClass}
use Rattle.api_cluster.specs.declared.types.Node.{Node}
use Rattle.api_cluster.specs.declared.types.Pod.{Pod}
use Rattle.pool_view.specs.Names.{at_key}
use Rattle.pool_view.specs.declared.stored.Stored.{Stored}
use Rattle.cluster.specs.declared.object.Target.{Target}
use Rattle.cluster.specs.declared.object.Target.TheVariants as target
use Rattle.cluster.specs.declared.plan.DeviceResult.{DeviceResult}
use Rattle.cluster.specs.declared.state.ClaimState.{ClaimState}
use Rattle.cluster.specs.declared.state.Granted.{Granted}
use Rattle.cluster.specs.declared.state.PodState.{PodState}
use Rattle.cluster.specs.declared.state.State.{State}
use Rattle.cluster.specs.declared.state.Use.{Use}
use Rattle.cluster.specs.declared.state.Use.TheVariants.{Assumed, Written}
use Rattle.api_print.specs.Classes.{class_json, class_spec_json, selector_json, selectors_if}
use Rattle.api_print.specs.Claims.{claim_spec_json, constraint_json, count_if, exactly_json, kind_before, request_json, subrequest_json}
use Rattle.api_print.specs.Devices.{amount_json, attribute_json, consumption_json, counter_set_json, counters_json, device_json, full_name}
use Rattle.api_print.specs.Metadata.{key_metadata_json, labels_if, metadata_json, object_json}
use Rattle.api_print.specs.Nodes.{node_json}
use Rattle.api_print.specs.Objects.{json_of}
use Rattle.api_print.specs.Pods.{pod_claim_json, pod_json, pod_spec_json}
use Rattle.api_print.specs.Selectors.{all_nodes_if, node_name_if, node_selector_if, node_selector_json, requirement_json, term_json, values_if}
use Rattle.api_print.specs.Shapes.{own_text}
use Rattle.api_print.specs.Slices.{slice_all_nodes, slice_json, slice_node_name, slice_node_selector, slice_per_device, slice_spec_json}
use Rattle.api_print.specs.Status.{allocation_json, claim_json, items_if, result_json, status_if, status_json, user_by, user_of, written_users}
use Rattle.api_print.specs.Taints.{effect_if, taint_json, toleration_json, value_if}
use Rattle.api_print.specs.Parts.{part_json}
use Rattle.api_print.specs.declared.part.Part.{Part}
use Rattle.api_print.specs.declared.part.Part.TheVariants as part
use Rattle.api_print.proofs.Plain.{HavePlain, Plain, PlainIf, and_then_plain, appended, are_plain, flag_plain, in_object, list_if_plain, list_plain, missing, none, option_plain, plain_depth, plain_floats, some, table_if_plain, table_plain, text, text_if_plain, with_if, with_one}

-- ---- metadata and the object around

metadata_plain : (labels : Option Data) (name : List ℕ) (version uid : ℕ) → PlainIf 19 labels → Plain 20 (metadata_json labels name version uid)
metadata_plain labels name version uid h = in_object 19 (with_if (codes "labels") h (record { holds = refl }))

key_metadata_plain : (key : Key) (version uid : ℕ) → Plain 20 (key_metadata_json key version uid)
key_metadata_plain key version uid = record { holds = refl }

object_plain : (version kind : List ℕ) (metadata : Data) (spec status : Option Data) → Plain 20 metadata → PlainIf 20 spec → PlainIf 20 status → Plain 21 (object_json version kind metadata spec status)
object_plain version kind metadata spec status p q r =
    in_object 20 (with_one (codes "apiVersion") text (with_one (codes "kind") text (with_one (codes "metadata") p (with_if (codes "spec") q (with_if (codes "status") r none)))))

-- ---- nodes, classes and pods

node_plain : (s : Stored Node) → Plain 21 (node_json s)
unfolding node_json
node_plain s =
    object_plain _ _ _ None None (metadata_plain (labels_if s.object.labels) s.object.name s.version s.uid (table_if_plain 18 own_text string s.object.labels (λ x. text))) missing missing

selectors_plain : (n : ℕ) (xs : List (List ℕ)) → PlainIf (suc (suc (suc n))) (selectors_if xs)
selectors_plain n xs = list_if_plain (suc (suc n)) selector_json xs (λ x. record { holds = refl })

class_spec_plain : (x : DeviceClass) → Plain 20 (class_spec_json x)
class_spec_plain x = in_object 19 (with_if (codes "selectors") (selectors_plain 16 x.selectors) none)

class_plain : (s : Stored DeviceClass) → Plain 21 (class_json s)
unfolding class_json
class_plain s =
    object_plain _ _ _ (Some (class_spec_json s.object)) None (metadata_plain None s.object.name s.version s.uid missing) (some (class_spec_plain s.object)) missing

pod_spec_plain : (x : Pod) → Plain 20 (pod_spec_json x)
pod_spec_plain x =
    in_object 19 (with_if (codes "resourceClaims") (list_if_plain 18 pod_claim_json x.claims (λ c. record { holds = refl })) none)

pod_plain : (s : Stored Pod) → Plain 21 (pod_json s)
unfolding pod_json
pod_plain s =
    object_plain _ _ _ (Some (pod_spec_json s.object)) None (key_metadata_plain s.object.key s.version s.uid) (some (pod_spec_plain s.object)) missing

-- ---- node selectors

values_plain : (n : ℕ) (t : Test) → PlainIf (suc n) (values_if t)
values_plain n (OneOf texts) = some (list_plain n string texts (λ x. text))
values_plain n (NoneOf texts) = some (list_plain n string texts (λ x. text))
values_plain n Present = missing
values_plain n Absent = missing
values_plain n (Above z) = record { holds = refl }
values_plain n (Below z) = record { holds = refl }

requirement_plain : (n : ℕ) (r : Requirement) → Plain (suc (suc n)) (requirement_json r)
requirement_plain n r =
    in_object (suc n) (with_one (codes "key") text (with_one (codes "operator") text (with_if (codes "values") (values_plain n r.test) none)))

term_plain : (n : ℕ) (s : Selector) → Plain (suc (suc (suc (suc n)))) (term_json s)
term_plain n s =
    in_object (suc (suc (suc n)))
    (with_if (codes "matchExpressions") (list_if_plain (suc (suc n)) requirement_json s.expressions (requirement_plain n))
    (with_if (codes "matchFields") (list_if_plain (suc (suc n)) requirement_json s.fields (requirement_plain n)) none))

node_selector_plain : (n : ℕ) (s : Selector) → Plain (suc (suc (suc (suc (suc (suc n)))))) (node_selector_json s)
unfolding node_selector_json
node_selector_plain n s =
    in_object (suc (suc (suc (suc (suc n)))))
    (with_one (codes "nodeSelectorTerms") (list_plain (suc (suc (suc (suc n)))) term_json (s ∷ []) (term_plain n)) none)

all_plain : (n : ℕ) (x : Nodes) → PlainIf n (all_nodes_if x)
all_plain n (nodes.Named name) = missing
all_plain n (nodes.Selected selector) = missing
all_plain n nodes.All = record { holds = refl }

name_plain : (n : ℕ) (x : Nodes) → PlainIf n (node_name_if x)
name_plain n (nodes.Named name) = record { holds = refl }
name_plain n (nodes.Selected selector) = missing
name_plain n nodes.All = missing

selected_plain : (n : ℕ) (x : Nodes) → PlainIf (suc (suc (suc (suc (suc (suc n)))))) (node_selector_if x)
selected_plain n (nodes.Named name) = missing
selected_plain n (nodes.Selected selector) = some (node_selector_plain n selector)
selected_plain n nodes.All = missing

-- ---- slices

counters_plain : (n : ℕ) (es : List (List ℕ × ℤ)) → Plain (suc (suc n)) (counters_json es)
counters_plain n es = table_plain (suc n) own_text amount_json es (λ x. record { holds = refl })

set_plain : (n : ℕ) (s : CounterSet) → Plain (suc (suc (suc n))) (counter_set_json s)
set_plain n s =
    in_object (suc (suc n)) (with_one (codes "counters") (counters_plain n s.counters) (with_one (codes "name") text none))

consumption_plain : (n : ℕ) (c : CounterConsumption) → Plain (suc (suc (suc n))) (consumption_json c)
consumption_plain n c =
    in_object (suc (suc n)) (with_one (codes "counterSet") text (with_one (codes "counters") (counters_plain n c.amounts) none))

effect_plain : (n : ℕ) (o : Option TaintEffect) → PlainIf n (effect_if o)
effect_plain n None = missing
effect_plain n (Some effect) = some text

taint_plain : (n : ℕ) (t : Taint) → Plain (suc n) (taint_json t)
taint_plain n t =
    in_object n (with_one (codes "effect") text (with_one (codes "key") text (with_if (codes "value") (text_if_plain t.value) none)))

int_plain : (z : ℤ) → Plain 16 (attribute_json (attribute.Int z))
int_plain (pos n) = record { holds = refl }
int_plain (negsuc n) = record { holds = refl }

attribute_plain : (a : Attribute) → Plain 16 (attribute_json a)
attribute_plain (attribute.Int z) = int_plain z
attribute_plain (attribute.Bool b) = record { holds = refl }
attribute_plain (attribute.Text t) = record { holds = refl }
attribute_plain (attribute.Version t) = record { holds = refl }

device_plain : (d : Device) → Plain 18 (device_json d)
unfolding device_json
device_plain d =
    in_object 17
    (with_if (codes "allNodes") (and_then_plain 17 all_nodes_if d.nodes (all_plain 17))
    (with_if (codes "attributes") (table_if_plain 16 full_name attribute_json d.properties.attributes attribute_plain)
    (with_if (codes "capacity") (table_if_plain 16 full_name amount_json d.properties.capacity (λ x. record { holds = refl }))
    (with_if (codes "consumesCounters") (list_if_plain 16 consumption_json d.consumes (consumption_plain 13))
    (with_one (codes "name") text
    (with_if (codes "nodeName") (and_then_plain 17 node_name_if d.nodes (name_plain 17))
    (with_if (codes "nodeSelector") (and_then_plain 17 node_selector_if d.nodes (selected_plain 11))
    (with_if (codes "taints") (list_if_plain 16 taint_json d.taints (taint_plain 15)) none))))))))

slice_all : (x : SliceNodes) → PlainIf 19 (slice_all_nodes x)
slice_all (slice.Nodes n) = all_plain 19 n
slice_all slice.PerDevice = missing

slice_name : (x : SliceNodes) → PlainIf 19 (slice_node_name x)
slice_name (slice.Nodes n) = name_plain 19 n
slice_name slice.PerDevice = missing

slice_selected : (x : SliceNodes) → PlainIf 19 (slice_node_selector x)
slice_selected (slice.Nodes n) = selected_plain 13 n
slice_selected slice.PerDevice = missing

slice_devices : (x : SliceNodes) → PlainIf 19 (slice_per_device x)
slice_devices (slice.Nodes n) = missing
slice_devices slice.PerDevice = record { holds = refl }

slice_spec_plain : (s : ResourceSlice) → Plain 20 (slice_spec_json s)
unfolding slice_spec_json
slice_spec_plain s =
    in_object 19
    (with_if (codes "allNodes") (slice_all s.nodes)
    (with_if (codes "devices") (list_if_plain 18 device_json s.devices device_plain)
    (with_one (codes "driver") text
    (with_if (codes "nodeName") (slice_name s.nodes)
    (with_if (codes "nodeSelector") (slice_selected s.nodes)
    (with_if (codes "perDeviceNodeSelection") (slice_devices s.nodes)
    (with_one (codes "pool") (record { holds = refl })
    (with_if (codes "sharedCounters") (list_if_plain 18 counter_set_json s.counters (set_plain 15)) none))))))))

slice_plain : (s : Stored ResourceSlice) → Plain 21 (slice_json s)
unfolding slice_json
slice_plain s =
    object_plain _ _ _ (Some (slice_spec_json s.object)) None (metadata_plain None s.object.name s.version s.uid missing) (some (slice_spec_plain s.object)) missing

-- ---- claims

count_plain : (n : ℕ) (m : AllocationMode) → PlainIf n (count_if m)
count_plain n (ExactCount k) = record { holds = refl }
count_plain n All = missing

value_plain : (n : ℕ) (o : TolerationOperator) → PlainIf n (value_if o)
value_plain n (Equal value) = text_if_plain value
value_plain n Exists = missing

toleration_plain : (n : ℕ) (k : Toleration) → Plain (suc n) (toleration_json k)
toleration_plain n k =
    in_object n
    (with_if (codes "effect") (effect_plain n k.effect)
    (with_if (codes "key") (text_if_plain k.key)
    (with_one (codes "operator") text
    (with_if (codes "value") (value_plain n k.operator) none))))

exactly_plain : (e : ExactDeviceRequest) → Plain 16 (exactly_json e)
exactly_plain e =
    in_object 15
    (with_if (codes "adminAccess") (flag_plain e.admin)
    (with_one (codes "allocationMode") text
    (with_if (codes "count") (count_plain 15 e.ask.mode)
    (with_one (codes "deviceClassName") text
    (with_if (codes "selectors") (selectors_plain 12 e.ask.selectors)
    (with_if (codes "tolerations") (list_if_plain 14 toleration_json e.ask.tolerations (toleration_plain 13)) none))))))

subrequest_plain : (s : DeviceSubRequest) → Plain 15 (subrequest_json s)
subrequest_plain s =
    in_object 14
    (with_one (codes "allocationMode") text
    (with_if (codes "count") (count_plain 14 s.ask.mode)
    (with_one (codes "deviceClassName") text
    (with_one (codes "name") text
    (with_if (codes "selectors") (selectors_plain 11 s.ask.selectors)
    (with_if (codes "tolerations") (list_if_plain 13 toleration_json s.ask.tolerations (toleration_plain 12)) none))))))

kind_plain : (k : RequestKind) (name : List ℕ) → HavePlain 16 (kind_before k (member (codes "name") (string name) no_members))
kind_plain (kind.Exactly e) name = with_one (codes "exactly") (exactly_plain e) (with_one (codes "name") text none)
kind_plain (kind.FirstAvailable ss) name =
    with_one (codes "firstAvailable") (list_plain 15 subrequest_json ss subrequest_plain) (with_one (codes "name") text none)

request_plain : (r : DeviceRequest) → Plain 17 (request_json r)
unfolding request_json
request_plain r = in_object 16 (kind_plain r.kind r.name)

constraint_plain : (c : DeviceConstraint) → Plain 17 (constraint_json c)
constraint_plain c =
    in_object 16 (with_one (codes "matchAttribute") text (with_if (codes "requests") (list_if_plain 15 string c.requests (λ x. text)) none))

claim_spec_plain : (c : ResourceClaim) → Plain 20 (claim_spec_json c)
unfolding claim_spec_json
claim_spec_plain c =
    in_object 19 (with_one (codes "devices")
    (in_object 18 (with_if (codes "constraints") (list_if_plain 17 constraint_json c.constraints constraint_plain)
    (with_one (codes "requests") (list_plain 17 request_json c.requests request_plain) none))) none)

-- ---- the status of a claim

result_plain : (r : DeviceResult) → Plain 16 (result_json r)
result_plain r = in_object 15 (with_if (codes "adminAccess") (flag_plain r.admin) (record { holds = refl }))

allocation_plain : (g : Granted) → Plain 19 (allocation_json g)
unfolding allocation_json
allocation_plain g =
    in_object 18 (with_one (codes "devices") (in_object 17 (with_one (codes "results") (list_plain 16 result_json g.results result_plain) none))
    (with_one (codes "nodeSelector") (record { holds = refl }) none))

pod_user_plain : (key : Key) (o : Option PodState) → are_plain 18 (items_of (user_of key o)) ≡ true
pod_user_plain key None = refl
pod_user_plain key (Some p) = refl

user_plain : (pods : List (Key × PodState)) (key : Key) (u : Use) → are_plain 18 (items_of (user_by pods key u)) ≡ true
user_plain pods key (Assumed seen) = refl
user_plain pods key Written = pod_user_plain key (at_key pods key)

users_plain : (pods : List (Key × PodState)) (us : List (Key × Use)) → are_plain 18 (items_of (written_users pods us)) ≡ true
users_plain pods [] = refl
users_plain pods (u ∷ us) = appended 18 (user_by pods u.0 u.1) (written_users pods us) (user_plain pods u.0 u.1) (users_plain pods us)

items_plain : (ds : List Data) → are_plain 18 (items_of ds) ≡ true → PlainIf 19 (items_if ds)
items_plain [] h = missing
items_plain (d ∷ ds) h = record { holds = h }

granted_plain : (pods : List (Key × PodState)) (b : Bool) (g : Granted) (us : List (Key × Use)) → PlainIf 20 (if b then Some (status_json pods g us) else None)
granted_plain pods true g us =
    some (in_object 19 (with_one (codes "allocation") (allocation_plain g) (with_if (codes "reservedFor") (items_plain (written_users pods us) (users_plain pods us)) none)))
granted_plain pods false g us = missing

status_plain : (pods : List (Key × PodState)) (o : Option Granted) (us : List (Key × Use)) → PlainIf 20 (status_if pods o us)
status_plain pods None us = missing
status_plain pods (Some g) us = granted_plain pods g.published g us

claim_plain : (pods : List (Key × PodState)) (c : ClaimState) → Plain 21 (claim_json pods c)
unfolding claim_json
claim_plain pods c =
    object_plain _ _ _ (Some (claim_spec_json c.claim.object)) (status_if pods c.grant c.users) (key_metadata_plain c.claim.object.key c.claim.version c.claim.uid) (some (claim_spec_plain c.claim.object)) (status_plain pods c.grant c.users)

-- ---- the objects of a state

pub json_plain : (s : State) (t : Target) → PlainIf 21 (json_of s t)
json_plain s (target.Node name) = option_plain 21 node_json _ node_plain
json_plain s (target.Slice name) = option_plain 21 slice_json _ slice_plain
json_plain s (target.Class name) = option_plain 21 class_json _ class_plain
json_plain s (target.Claim key) = option_plain 21 (claim_json s.pods) _ (claim_plain s.pods)
json_plain s (target.Pod key) = option_plain 21 (λ (p : PodState). pod_json p.pod) _ (λ p. pod_plain p.pod)

pub part_plain : (p : Part) → PlainIf 21 (part_json p)
part_plain part.Absent = missing
part_plain (part.Node node) = some (node_plain node)
part_plain (part.Slice slice) = some (slice_plain slice)
part_plain (part.Class class) = some (class_plain class)
part_plain (part.Claim claim pods) = some (claim_plain pods claim)
part_plain (part.Pod pod) = some (pod_plain pod)

-- the text of a value that is `Plain`
pub text_from : (v : Data) (o : Option Data) (bytes : List ℕ) → Some v ≡ o → PlainIf 21 o → (has_float v ≡ false → bytes ≡ compact_text v) → Some bytes ≡ option_map compact_text o
text_from v o bytes e h t =
    let p = rw (← e) at h in
    rw (← e) (ap Some (t (plain_floats 21 v p.holds)))

-- it reads as the value
pub read_from : (v : Data) (o : Option Data) (bytes : List ℕ) → Some v ≡ o → PlainIf 21 o → (depth v ≤ max_depth → read bytes ≡ Some v) → Some (read bytes) ≡ option_map Some o
read_from v o bytes e h t =
    let p = rw (← e) at h in
    rw (← e) (ap Some (t (omega (arith, plain_depth 21 v p.holds))))
