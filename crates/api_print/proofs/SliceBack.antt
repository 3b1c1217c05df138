-- The JSON of a slice reads as the slice.
use Rattle.std.proofs.Common.{◌≡◌, ℕ, ◌<◌, ◌^◌, nat_le, true, ◌&&◌, List, [], ◌∷◌, ◌++◌, map, Option, Some, None, Ok, refl, ◌∙◌, arith}
use Rattle.std.specs.Prelude.{codes}
use Rattle.std.proofs.lemmas.Bool.{and_from, le-leb}
use Rattle.std.proofs.lemmas.List.Elements.{recursion_from_All}
use Rattle.std.specs.List.Sorted.{IsStrictlySortedBy}
use Rattle.serde_json.specs.Data.{Data, string, object}
use Rattle.serde_json.specs.Find.{get_member}
use Rattle.object_fields.specs.Names.{is_dns_name, is_pool_name, pool_most}
use Rattle.object_fields.specs.declared.path.Step.{Step}
use Rattle.object_fields.specs.declared.path.Step.TheVariants.{Member}
use Rattle.api_slice.specs.Drivers.{driver_most}
use Rattle.api_slice.specs.Limits.{IsCounterSet, IsLabel, IsPool, IsWithinLimits, KeepsLimits}
use Rattle.api_slice.specs.Nodes.{is_per_device}
use Rattle.api_slice.specs.Slices.{pool_in, signed_most, slice_of, spec_in}
use Rattle.api_slice.specs.declared.types.Pool.{Pool}
use Rattle.api_slice.specs.declared.types.ResourceSlice.{ResourceSlice}
use Rattle.pool_view.specs.declared.stored.Stored.{Stored}
use Rattle.api_print.specs.Devices.{counter_set_json, device_json}
use Rattle.api_print.specs.Metadata.{metadata_json}
use Rattle.api_print.specs.Ranges.{SetInRange, SliceInRange}
use Rattle.api_print.specs.ReadBack.{slice_read}
use Rattle.api_print.specs.Shapes.{list_if}
use Rattle.api_print.specs.Slices.{pool_json, slice_all_nodes, slice_json, slice_node_name, slice_node_selector, slice_per_device, slice_spec_json}
use Rattle.api_print.proofs.CounterSets.{SetReads, counter_sets_back, set_reads}
use Rattle.api_print.proofs.DevicesBack.{devices_back}
use Rattle.api_print.proofs.Entries.{both_values}
use Rattle.api_print.proofs.OptionalMembers.{found, members_of, or_none}
use Rattle.api_print.proofs.Readings.{cluster_members, judged_right}
use Rattle.api_print.proofs.SelectorsBack.{slice_nodes_back}

-- ---- the pool

pool_back : (path : List Step) (p : Pool) → IsPool p → pool_in path (pool_json p) ≡ Ok p
pool_back path p kept =
    let name = judged_right (path ++ Member (codes "name") ∷ []) pool_most (is_pool_name p.name) p.name kept.name kept.name_form in
    let generation : (nat_le 0 p.generation && nat_le p.generation signed_most) ≡ true = and_from _ _ (le-leb _ _ (omega arith)) (le-leb _ _ kept.generation) in
    let slices : (nat_le 1 p.slices && nat_le p.slices signed_most) ≡ true = and_from _ _ (le-leb _ _ kept.slices_least) (le-leb _ _ kept.slices_most) in
    rw (name, generation, slices) refl

-- ---- the spec

abbrev slice_members : ResourceSlice → List (List ℕ × Option Data)
slice_members s =
    (codes "allNodes", slice_all_nodes s.nodes) ∷
    (codes "devices", list_if device_json s.devices) ∷
    (codes "driver", Some (string s.driver)) ∷
    (codes "nodeName", slice_node_name s.nodes) ∷
    (codes "nodeSelector", slice_node_selector s.nodes) ∷
    (codes "perDeviceNodeSelection", slice_per_device s.nodes) ∷
    (codes "pool", Some (pool_json s.pool)) ∷
    (codes "sharedCounters", list_if counter_set_json s.counters) ∷ []

abbrev with_version : ResourceSlice → Option ℕ → ResourceSlice
with_version s version =
    record { name = s.name; version = version; driver = s.driver; pool = s.pool; nodes = s.nodes; counters = s.counters; devices = s.devices }

spec_from : (version : Option ℕ) (path : List Step) (s : ResourceSlice) → IsWithinLimits s → SliceInRange s → spec_in s.name version path (object (members_of (slice_members s))) ≡ Ok (with_version s version)
spec_from version path s kept range =
    let ms = members_of (slice_members s) in
    let d = object ms in
    let driver = judged_right (path ++ Member (codes "driver") ∷ []) driver_most (is_dns_name s.driver) s.driver kept.driver.size kept.driver.form in
    let pool = pool_back (path ++ Member (codes "pool") ∷ []) s.pool kept.pool in
    let nodes = slice_nodes_back path d s.nodes (found (codes "nodeName") (slice_members s) ∙ or_none _) (found (codes "nodeSelector") (slice_members s) ∙ or_none _) (found (codes "allNodes") (slice_members s) ∙ or_none _) (found (codes "perDeviceNodeSelection") (slice_members s) ∙ or_none _) kept.nodes range.nodes in
    let sets = counter_sets_back path d s.counters s.devices (found (codes "sharedCounters") (slice_members s) ∙ or_none _) (found (codes "devices") (slice_members s) ∙ or_none _) kept.one_kind kept.set_names
    (both_values IsCounterSet SetInRange SetReads set_reads s.counters (recursion_from_All IsCounterSet s.counters kept.sets) range.counters) kept.counters in
    let devices = devices_back s.driver (is_per_device s.nodes) path d s.devices (found (codes "devices") (slice_members s) ∙ or_none _) kept.device_count kept.device_names_differ (recursion_from_All IsLabel (map (λ x. x.name) s.devices) kept.device_names)
    (recursion_from_All (KeepsLimits (is_per_device s.nodes)) s.devices kept.devices) range.devices in
    let has_driver : get_member (codes "driver") ms ≡ Some (string s.driver) = found (codes "driver") (slice_members s) in
    let has_pool : get_member (codes "pool") ms ≡ Some (pool_json s.pool) = found (codes "pool") (slice_members s) in
    rw (has_driver, driver, has_pool, pool, nodes, sets, devices) refl

spec_back : (version : Option ℕ) (path : List Step) (s : ResourceSlice) → IsWithinLimits s → SliceInRange s → spec_in s.name version path (slice_spec_json s) ≡ Ok (with_version s version)
unfolding slice_spec_json
spec_back version path s kept range = spec_from version path s kept range

-- ---- the slice

abbrev meta_path : List Step
meta_path = Member (codes "metadata") ∷ []

pub slice_back : (s : Stored ResourceSlice) → IsWithinLimits s.object → SliceInRange s.object → s.version < 2 ^ 64 → slice_of (slice_json s) ≡ Ok (slice_read s)
unfolding slice_json slice_spec_json IsStrictlySortedBy
slice_back s kept range small =
    let meta = cluster_members meta_path (metadata_json None s.object.name s.version s.uid) s.object.name [] s.version refl refl refl (record { size = kept.name; form = kept.name_form }) tt small in
    rw (meta, spec_back (Some s.version) (Member (codes "spec") ∷ []) s.object kept range) refl
