-- What a node sees of a slice, by the slice's own field or by its devices' fields.
use Rattle.std.proofs.Common.{◌≡◌, ◌∙◌, List, [], ◌∷◌, ◌++◌, Bool, true, false, ◌||◌, refl, sym, ap, append-nil}
use Rattle.std.specs.Prelude.{filter, map}
use Rattle.std.specs.List.{list_any}
use Rattle.api_cluster.specs.declared.types.Node.{Node}
use Rattle.api_slice.specs.declared.types.Device.{Device}
use Rattle.api_slice.specs.declared.types.Nodes.{Nodes}
use Rattle.api_slice.specs.declared.types.ResourceSlice.{ResourceSlice}
use Rattle.api_slice.specs.declared.types.SliceNodes.{SliceNodes}
use Rattle.api_slice.specs.declared.types.SliceNodes.TheVariants as slice
use Rattle.pool_view.specs.Pools.{Offered, offered_by}
use Rattle.pool_view.specs.Visibility.{are_on, field_is_on, offered_to, own_are_on, sees_device, sees_slice}

all_pass : (ds : List Device) → filter (λ d. true) ds ≡ ds
all_pass [] = refl
all_pass (d ∷ ds) = ap (λ (es : List Device). d ∷ es) (all_pass ds)

none_pass : (ds : List Device) → filter (λ d. false) ds ≡ []
none_pass [] = refl
none_pass (d ∷ ds) = none_pass ds

-- all devices, if the slice's own field covers the node
pub offered_if_on : (node : Node) (x : ResourceSlice) (nodes : Nodes) → x.nodes ≡ slice.Nodes nodes → are_on nodes node ≡ true → offered_to node x ≡ map (offered_by x) x.devices
offered_if_on node x nodes is on =
    ap (λ (n : SliceNodes). map (offered_by x) (filter (sees_device n node) x.devices)) is ∙ ap (λ (b : Bool). map (offered_by x) (filter (λ d. b) x.devices)) on
    ∙ ap (λ (ds : List Device). map (offered_by x) ds) (all_pass x.devices)

none_if_off : (node : Node) (x : ResourceSlice) (nodes : Nodes) → x.nodes ≡ slice.Nodes nodes → are_on nodes node ≡ false → offered_to node x ≡ []
none_if_off node x nodes is off =
    ap (λ (n : SliceNodes). map (offered_by x) (filter (sees_device n node) x.devices)) is ∙ ap (λ (b : Bool). map (offered_by x) (filter (λ d. b) x.devices)) off
    ∙ ap (λ (ds : List Device). map (offered_by x) ds) (none_pass x.devices)

-- and nothing more, if it doesn't
pub nothing_if_off : (out : List Offered) (node : Node) (x : ResourceSlice) (nodes : Nodes) → x.nodes ≡ slice.Nodes nodes → are_on nodes node ≡ false → out ≡ out ++ offered_to node x
nothing_if_off out node x nodes is off = sym (append-nil out) ∙ ap (λ (os : List Offered). out ++ os) (sym (none_if_off node x nodes is off))

-- and those whose own fields cover it, if the slice's field leaves it to them
pub offered_by_device : (node : Node) (x : ResourceSlice) → x.nodes ≡ slice.PerDevice → offered_to node x ≡ map (offered_by x) (filter (λ d. own_are_on d.nodes node) x.devices)
offered_by_device node x is = ap (λ (n : SliceNodes). map (offered_by x) (filter (sees_device n node) x.devices)) is

any_same : (b : Bool) (ds : List Device) → (b || list_any (λ d. b) ds) ≡ b
any_same true ds = refl
any_same false [] = refl
any_same false (d ∷ ds) = any_same false ds

-- whether a slice is seen is decided by its own field, if that names nodes
pub seen_by_field : (node : Node) (x : ResourceSlice) (nodes : Nodes) → x.nodes ≡ slice.Nodes nodes → are_on nodes node ≡ sees_slice node x
seen_by_field node x nodes is = sym (any_same (are_on nodes node) x.devices) ∙ ap (λ (n : SliceNodes). field_is_on n node || list_any (sees_device n node) x.devices) (sym is)
