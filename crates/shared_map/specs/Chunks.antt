-- Entries in the order of their keys, kept as a list of chunks.
use Rattle.std.specs.Prelude.{ℕ, zero, suc, ◌≡◌, ◌+◌, ◌<◌, ◌≤◌, List, [], ◌∷◌, ◌++◌, length, take, drop, slice_get, slice_index_or, Bool, false, Some}
use Rattle.std.specs.List.{AllByRecursion}
use Rattle.std.specs.List.Sorted.{IsStrictlySortedBy}
use Rattle.std.specs.Map.{keys_of}
use Rattle.std.specs.Ordering.{is_lt}
use Rattle.std.specs.declared.cmp.Ordering.{Ordering}
use Rattle.std.specs.declared.cmp.Ordering.TheVariants.{Less, Equal, Greater}

-- the entries of all chunks, first to last
abbrev pub joined : {E : Type 0} → List (List E) → List E
joined [] = []
joined (c ∷ cs) = c ++ joined cs

-- each entry's key is below k
abbrev pub AreBelow : {K V : Type 0} → (K → K → Ordering) → K → List (K × V) → Type 0
AreBelow cmp k es = AllByRecursion (λ e. cmp k e.0 ≡ Greater) es

-- each entry's key is above k
abbrev pub AreAbove : {K V : Type 0} → (K → K → Ordering) → K → List (K × V) → Type 0
AreAbove cmp k es = AllByRecursion (λ e. cmp k e.0 ≡ Less) es

-- the key with the value is one of the entries
pub record IsEntry {K V : Type 0} (es : List (K × V)) (k : K) (v : V) : Type 0 where
  pub index : ℕ
  pub there : slice_get es index ≡ Some (k, v)

-- what a list of chunks keeps: over all of them the keys strictly increase, and no chunk is empty
pub record AreChunks {K V : Type 0} (cmp : K → K → Ordering) (chunks : List (List (K × V))) : Type 0 where
  pub in_order : IsStrictlySortedBy cmp (keys_of (joined chunks))
  pub none_empty : AllByRecursion (λ c. 0 < length c) chunks

-- k has no entry, and would go to the index at
pub record IsGap {K V : Type 0} (cmp : K → K → Ordering) (k : K) (es : List (K × V)) (at : ℕ) : Type 0 where
  pub within : at ≤ length es
  pub below : AreBelow cmp k (take at es)
  pub above : AreAbove cmp k (drop at es)

-- the entry of k is that at the index at
pub record IsHit {K V : Type 0} (cmp : K → K → Ordering) (k : K) (es : List (K × V)) (at : ℕ) : Type 0 where
  pub within : at < length es
  pub below : AreBelow cmp k (take at es)
  pub equal : (d : K × V) → cmp k (slice_index_or es at d).0 ≡ Equal
  pub above : AreAbove cmp k (drop (at + 1) es)

-- k belongs to the chunk at the index at: the earlier ones are below it, and the later ones above
pub record IsChunkOf {K V : Type 0} (cmp : K → K → Ordering) (k : K) (chunks : List (List (K × V))) (at : ℕ) : Type 0 where
  pub within : at < length chunks
  pub below : AreBelow cmp k (joined (take at chunks))
  pub above : AreAbove cmp k (joined (drop (at + 1) chunks))

-- whether the first key is above k
abbrev pub begins_above : {K V : Type 0} → (K → K → Ordering) → K → List (K × V) → Bool
begins_above cmp k [] = false
begins_above cmp k (e ∷ es) = is_lt (cmp k e.0)

-- the entries, with w as the value of that at the index i
abbrev pub with_value : {K V : Type 0} → List (K × V) → ℕ → V → List (K × V)
with_value [] i w = []
with_value (e ∷ es) zero w = (e.0, w) ∷ es
with_value (e ∷ es) (suc i) w = e ∷ with_value es i w
