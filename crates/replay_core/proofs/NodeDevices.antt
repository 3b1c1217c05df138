-- The device ids of an allocation's grants are those that their printed forms read as.
use Rattle.std.proofs.Common.{ℕ, zero, suc, ◌+◌, List, [], ◌∷◌, ◌++◌, Bool, true, false, cond, Option, None, Some, filter, map, subst, sym, arith}
use Rattle.std.specs.Prelude.{slice_get}
use Rattle.std.specs.List.{All, AllByRecursion, flat_map}
use Rattle.api_claim.specs.Limits.{EachOf}
use Rattle.api_claim.specs.declared.types.ResourceClaim.{ResourceClaim}
use Rattle.api_cluster.specs.declared.types.Node.{Node}
use Rattle.api_slice.specs.Limits.{IsLabel, IsWithinLimits}
use Rattle.api_slice.specs.declared.types.Device.{Device}
use Rattle.api_slice.specs.declared.types.ResourceSlice.{ResourceSlice}
use Rattle.pool_view.specs.Inventory.{Named}
use Rattle.pool_view.specs.Names.{at_name}
use Rattle.pool_view.specs.Pools.{Offered, id_in, is_usable, pool_of, slices_of}
use Rattle.pool_view.specs.Usable.{devices_for, if_usable, node_devices, pools, usable_slices}
use Rattle.pool_view.specs.Visibility.{offered_to}
use Rattle.pool_view.specs.declared.stored.Stored.{Stored}
use Rattle.pool_view.specs.declared.inventory.Inventory.{Inventory}
use Rattle.request_rules.specs.Allocation.{Result, result_of}
use Rattle.request_rules.specs.Grants.{grants_from, grants_of, named_result, results_at}
use Rattle.request_rules.specs.Input.{SearchInput}
use Rattle.request_rules.specs.Rules.{Pick, id_by}
use Rattle.cluster.specs.declared.plan.DeviceResult.{DeviceResult}
use Rattle.cluster.specs.declared.plan.Grant.{Grant}
use Rattle.cluster.specs.declared.state.State.{State}
use Rattle.allocations.specs.Allocation.{IsAllocation}
use Rattle.allocations.specs.Input.{device_result, grant_of, grants_by, input_of}
use Rattle.ckpt_journal.specs.Names.{DeviceReadsBack}
use Rattle.pod_prepare.specs.ForNode.{device_of}
use Rattle.replay_core.proofs.Slashless.{Slashless, device_reads_back, empty_reads_back, label_plain, name_plain}

-- ---- lists

each_append : {X : Type 0} (P : X → Type 0) (xs ys : List X) → AllByRecursion P xs → AllByRecursion P ys → AllByRecursion P (xs ++ ys)
each_append P [] ys a b = b
each_append P (x ∷ xs) ys a b = (a.0, each_append P xs ys a.1 b)

by_test : {A : Type 0} (Q : A → Type 0) (b : Bool) (x y : A) → Q x → Q y → Q (cond b x y)
by_test Q true x y a b = a
by_test Q false x y a b = b

each_filter : {X : Type 0} (P : X → Type 0) (test : X → Bool) (xs : List X) → AllByRecursion P xs → AllByRecursion P (filter test xs)
each_filter P test [] a = a
each_filter P test (x ∷ xs) a =
    by_test (AllByRecursion P) (test x) (x ∷ filter test xs) (filter test xs) (a.0, each_filter P test xs a.1) (each_filter P test xs a.1)

each_map : {X Y : Type 0} (P : X → Type 0) (Q : Y → Type 0) (f : X → Y) → ((x : X) → P x → Q (f x)) → (xs : List X) → AllByRecursion P xs → AllByRecursion Q (map f xs)
each_map P Q f step [] a = tt
each_map P Q f step (x ∷ xs) a = (step x a.0, each_map P Q f step xs a.1)

each_unmap : {X Y : Type 0} (Q : Y → Type 0) (f : X → Y) (xs : List X) → AllByRecursion Q (map f xs) → AllByRecursion (λ x. Q (f x)) xs
each_unmap Q f [] a = tt
each_unmap Q f (x ∷ xs) a = (a.0, each_unmap Q f xs a.1)

each_flat : {X Y : Type 0} (P : X → Type 0) (Q : Y → Type 0) (f : X → List Y) → ((x : X) → P x → AllByRecursion Q (f x)) → (xs : List X) → AllByRecursion P xs → AllByRecursion Q (flat_map f xs)
each_flat P Q f step [] a = tt
each_flat P Q f step (x ∷ xs) a = each_append Q (f x) (flat_map f xs) (step x a.0) (each_flat P Q f step xs a.1)

any_flat : {X Y : Type 0} (Q : Y → Type 0) (f : X → List Y) → ((x : X) → AllByRecursion Q (f x)) → (xs : List X) → AllByRecursion Q (flat_map f xs)
any_flat Q f step [] = tt
any_flat Q f step (x ∷ xs) = each_append Q (f x) (flat_map f xs) (step x) (any_flat Q f step xs)

each_in : {X : Type 0} (P : X → Type 0) (xs : List X) → All P xs → AllByRecursion P xs
each_in P [] all = tt
each_in P (x ∷ xs) all =
    (all 0 x (omega arith), each_in P xs (λ k d within. all (suc k) d (omega (arith, within))))

-- ---- slices

-- a slice whose names, but for its pool's, have no slash
pub record IsPlain (x : ResourceSlice) : Type 0 where
  pub driver : Slashless x.driver
  pub devices : AllByRecursion (λ d. Slashless d.name) x.devices

labelled : (xs : List Device) → AllByRecursion (λ d. IsLabel d.name) xs → AllByRecursion (λ d. Slashless d.name) xs
labelled [] a = tt
labelled (d ∷ ds) a = (label_plain d.name a.0, labelled ds a.1)

slice_plain : (x : ResourceSlice) → IsWithinLimits x → IsPlain x
slice_plain x kept = record {
  driver = name_plain x.driver kept.driver.form;
  devices = labelled x.devices (each_unmap IsLabel (λ d. d.name) x.devices (each_in IsLabel (map (λ d. d.name) x.devices) kept.device_names));
}

abbrev pub SlicesKept : Named ResourceSlice → Type 0
SlicesKept all = EachOf (λ e. IsWithinLimits e.1.object) all

slices_plain : (driver pool : List ℕ) (all : Named ResourceSlice) → SlicesKept all → AllByRecursion IsPlain (slices_of driver pool all)
slices_plain driver pool [] kept = tt
slices_plain driver pool (e ∷ es) kept =
    by_test (AllByRecursion IsPlain) _ (e.1.object ∷ slices_of driver pool es) (slices_of driver pool es)
    (slice_plain e.1.object kept.0, slices_plain driver pool es kept.1) (slices_plain driver pool es kept.1)

pool_plain : (all : Named ResourceSlice) (driver pool : List ℕ) → SlicesKept all → AllByRecursion IsPlain (pool_of all driver pool)
unfolding pool_of
pool_plain all driver pool kept = each_filter IsPlain _ (slices_of driver pool all) (slices_plain driver pool all kept)

usable_plain : (i : Inventory) → SlicesKept i.slices → AllByRecursion IsPlain (usable_slices i)
unfolding usable_slices
usable_plain i kept =
    any_flat IsPlain (λ p. if_usable (pool_of i.slices p.driver p.pool))
    (λ p. by_test (AllByRecursion IsPlain) (is_usable (pool_of i.slices p.driver p.pool)) (pool_of i.slices p.driver p.pool) [] (pool_plain i.slices p.driver p.pool kept) tt)
    (pools i.slices)

-- ---- devices

abbrev Reads : Offered → Type 0
Reads o = DeviceReadsBack (id_in o)

offered_read : (node : Node) (x : ResourceSlice) → IsPlain x → AllByRecursion Reads (offered_to node x)
offered_read node x plain =
    each_map (λ d. Slashless d.name) Reads _ (λ d no. device_reads_back (record { driver = x.driver; pool = x.pool.name; device = d.name }) plain.driver no) _
    (each_filter (λ d. Slashless d.name) _ x.devices plain.devices)

devices_read : (o : Option (Stored Node)) (xs : List ResourceSlice) → AllByRecursion IsPlain xs → AllByRecursion Reads (devices_for o xs)
devices_read None xs plain = tt
devices_read (Some node) xs plain = each_flat IsPlain Reads (offered_to node.object) (λ x p. offered_read node.object x p) xs plain

node_read : (i : Inventory) (name : List ℕ) → SlicesKept i.slices → AllByRecursion Reads (node_devices i name)
unfolding node_devices
node_read i name kept = devices_read (at_name i.nodes name) (usable_slices i) (usable_plain i kept)

position_read : (os : List Offered) (x : ℕ) → AllByRecursion Reads os → DeviceReadsBack (id_by (slice_get os x))
position_read [] x a = empty_reads_back
position_read (o ∷ os) zero a = a.0
position_read (o ∷ os) (suc x) a = position_read os x a.1

-- ---- results and grants

results_read : (w : SearchInput) (ps : List Pick) → AllByRecursion Reads w.devices → AllByRecursion (λ r. DeviceReadsBack r.device) (map (result_of w) ps)
results_read w [] a = tt
results_read w (p ∷ ps) a = (position_read w.devices p.position a, results_read w ps a)

-- a grant's devices
abbrev pub AreRead : List DeviceResult → Type 0
AreRead rs = AllByRecursion DeviceReadsBack (map device_of rs)

abbrev pub GrantsRead : List Grant → Type 0
GrantsRead [] = Unit {0}
GrantsRead (g ∷ gs) = AreRead g.results × GrantsRead gs

one_read : (rs : List Result) (i : ℕ) → AllByRecursion (λ r. DeviceReadsBack r.device) rs → AreRead (map device_result (map named_result (results_at i rs)))
one_read rs i a =
    each_map (λ r. DeviceReadsBack r.device) DeviceReadsBack device_of (λ r p. p) _
    (each_map (λ r. DeviceReadsBack r.device) (λ r. DeviceReadsBack r.device) device_result (λ r p. p) _
    (each_map (λ r. DeviceReadsBack r.device) (λ r. DeviceReadsBack r.device) named_result (λ r p. p) _
    (each_filter (λ r. DeviceReadsBack r.device) _ rs a)))

grants_read : (i : ℕ) (cs : List ResourceClaim) (rs : List Result) → AllByRecursion (λ r. DeviceReadsBack r.device) rs → GrantsRead (map grant_of (grants_from i cs rs))
grants_read i [] rs a = tt
grants_read i (c ∷ cs) rs a = (one_read rs i a, grants_read (i + 1) cs rs a)

all_read : (w : SearchInput) (rs : List Result) → AllByRecursion (λ r. DeviceReadsBack r.device) rs → GrantsRead (grants_by w rs)
unfolding grants_by grants_of
all_read w rs a = grants_read 0 w.claims rs a

input_read : (s : State) (claims : List ResourceClaim) (node : List ℕ) → SlicesKept s.inventory.slices → AllByRecursion Reads (input_of s claims node).devices
unfolding input_of
input_read s claims node kept = node_read s.inventory node kept

-- an allocation grants devices of slices
pub allocation_read : (s : State) (claims : List ResourceClaim) (node choice : List ℕ) (grants : List Grant) → SlicesKept s.inventory.slices → IsAllocation s claims node choice grants → GrantsRead grants
allocation_read s claims node choice grants kept is =
    let w = input_of s claims node in
    let results : AllByRecursion (λ r. DeviceReadsBack r.device) is.results =
    subst (AllByRecursion (λ r. DeviceReadsBack r.device)) (sym is.meant.in_order) (results_read w _ (input_read s claims node kept)) in
    subst GrantsRead (sym is.cut) (all_read w is.results results)
