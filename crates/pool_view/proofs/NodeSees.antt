-- What a node sees, by the slices that are kept or sorted now.
use Rattle.std.proofs.Common.{ℕ, ◌==◌, ◌≡◌, ◌∙◌, List, [], ◌∷◌, true, false, Option, None, Some, length, refl, sym, ap, arith}
use Rattle.std.proofs.lemmas.Bool.{eqb-true}
use Rattle.std.specs.List.{flat_map, list_any}
use Rattle.api_cluster.specs.declared.types.Node.{Node}
use Rattle.api_slice.specs.declared.types.ResourceSlice.{ResourceSlice}
use Rattle.pool_view.specs.declared.kept.SortedSlices.{SortedSlices}
use Rattle.pool_view.specs.declared.stored.Stored.{Stored}
use Rattle.pool_view.specs.Inventory.{InventoryFields}
use Rattle.pool_view.specs.Names.{at_name}
use Rattle.pool_view.specs.Sorted.{AreSorted}
use Rattle.pool_view.specs.Usable.{broken_slices, devices_for, has_broken, node_devices, seen_among, usable_slices}
use Rattle.pool_view.specs.Visibility.{offered_to, sees_slice}

pub devices_at : (i : InventoryFields) (name : List ℕ) (xs : List ResourceSlice) (e : Stored Node) → xs ≡ usable_slices i → at_name i.nodes name ≡ Some e → flat_map (offered_to e.object) xs ≡ node_devices i name
unfolding node_devices
devices_at i name xs e is at = ap (λ (ys : List ResourceSlice). flat_map (offered_to e.object) ys) is ∙ ap (λ (o : Option (Stored Node)). devices_for o (usable_slices i)) (sym at)

pub any_at : (i : InventoryFields) (name : List ℕ) (xs : List ResourceSlice) (e : Stored Node) → xs ≡ broken_slices i → at_name i.nodes name ≡ Some e → list_any (sees_slice e.object) xs ≡ has_broken i name
unfolding has_broken
any_at i name xs e is at = ap (λ (ys : List ResourceSlice). list_any (sees_slice e.object) ys) is ∙ ap (λ (o : Option (Stored Node)). seen_among o (broken_slices i)) (sym at)

pub none_at : (i : InventoryFields) (name : List ℕ) → at_name i.nodes name ≡ None → false ≡ has_broken i name
unfolding has_broken
none_at i name at = ap (λ (o : Option (Stored Node)). seen_among o (broken_slices i)) (sym at)

pub no_devices_at : (i : InventoryFields) (name : List ℕ) → at_name i.nodes name ≡ None → [] ≡ node_devices i name
unfolding node_devices
no_devices_at i name at = ap (λ (o : Option (Stored Node)). devices_for o (usable_slices i)) (sym at)

no_slice : (o : Option (Stored Node)) → false ≡ seen_among o []
no_slice None = refl
no_slice (Some e) = refl

none_in : (o : Option (Stored Node)) (xs : List ResourceSlice) → (length xs == 0) ≡ true → false ≡ seen_among o xs
none_in o [] h = no_slice o
none_in o (x ∷ xs) h = absurd (omega (arith, eqb-true (length (x ∷ xs)) 0 h))

-- nothing is seen of no slices
pub none_broken : (i : InventoryFields) (name : List ℕ) (s : SortedSlices) → AreSorted i.slices s → (length s.broken == 0) ≡ true → false ≡ has_broken i name
unfolding has_broken
none_broken i name s sorted none = none_in (at_name i.nodes name) s.broken none ∙ ap (λ (xs : List ResourceSlice). seen_among (at_name i.nodes name) xs) (sorted.broken i refl)

-- the devices that a node sees, by what is kept
pub devices_are : (i : InventoryFields) (name : List ℕ) (s : SortedSlices) (e : Stored Node) → AreSorted i.slices s → at_name i.nodes name ≡ Some e → flat_map (offered_to e.object) s.usable ≡ node_devices i name
devices_are i name s e sorted at = devices_at i name s.usable e (sorted.usable i refl) at

pub any_are : (i : InventoryFields) (name : List ℕ) (s : SortedSlices) (e : Stored Node) → AreSorted i.slices s → at_name i.nodes name ≡ Some e → list_any (sees_slice e.object) s.broken ≡ has_broken i name
any_are i name s e sorted at = any_at i name s.broken e (sorted.broken i refl) at
