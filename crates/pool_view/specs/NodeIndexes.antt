-- Slices by the node that they name, and those of a node and of none in one order.
use Rattle.std.specs.Prelude.{ℕ, ◌+◌, List, [], ◌∷◌, ◌++◌, Option, None, Some, map, drop, take, nat_lt}
use Rattle.std.specs.List.{prefix_len}
use Rattle.api_slice.specs.declared.types.ResourceSlice.{ResourceSlice}
use Rattle.pool_view.specs.declared.node_index.NodeIndex.{NodeIndex}
use Rattle.pool_view.specs.declared.node_index.PlacedSlice.{PlacedSlice}
use Rattle.pool_view.specs.Groups.{added, group_at}
use Rattle.pool_view.specs.Names.{text_cmp}
use Rattle.pool_view.specs.Nodes.{named_node}

abbrev pub placed_at : ℕ → ResourceSlice → PlacedSlice
placed_at n x = record { place = n; slice = x }

-- with a slice more: among those of the node that it names, or among the others
abbrev pub put_by : Option (List ℕ) → PlacedSlice → NodeIndex → NodeIndex
put_by None p i = record i { others = i.others ++ p ∷ [] }
put_by (Some node) p i = record i { named = added text_cmp i.named node p }

abbrev pub put_at : ℕ → ResourceSlice → NodeIndex → NodeIndex
put_at n x i = put_by (named_node x.nodes) (placed_at n x) i

-- with slices more, of which the first has this position
unfoldable pub with_slices : ℕ → List ResourceSlice → NodeIndex → NodeIndex
with_slices n [] i = i
with_slices n (x ∷ xs) i = with_slices (n + 1) xs (put_at n x i)

-- the index of slices
abbrev pub index_of : List ResourceSlice → NodeIndex
index_of xs = with_slices 0 xs (record { named = []; others = [] })

-- those that name a node
abbrev pub own_slices : List ℕ → NodeIndex → List PlacedSlice
own_slices node i = group_at text_cmp i.named node

abbrev pub slices_in : List PlacedSlice → List ResourceSlice
slices_in ps = map (λ p. p.slice) ps

-- how many of the first ones are before a position
abbrev pub count_before : ℕ → List PlacedSlice → ℕ
count_before n ps = prefix_len (λ p. nat_lt p.place n) ps

-- the slices of two lists in the order of their positions, if each list is in order
abbrev pub merged : List PlacedSlice → List PlacedSlice → List ResourceSlice
merged [] qs = slices_in qs
merged (p ∷ ps) qs = slices_in (take (count_before p.place qs) qs) ++ p.slice ∷ merged ps (drop (count_before p.place qs) qs)
