-- An entry of one of the chunks is one of all entries.
use Rattle.std.proofs.Common.{ℕ, zero, suc, ◌≡◌, ◌∙◌, List, [], ◌∷◌, ◌++◌, Option, None, Some, Bor, ap}
use Rattle.std.specs.List.{slice_get}
use Rattle.std.specs.Option.{IfSome}
use Rattle.shared_map.specs.Chunks.{IsEntry, joined}

module _ {K V : Type 0} where
  in_first : (es more : List (K × V)) (i : ℕ) (x : K × V) → slice_get es i ≡ Some x → slice_get (es ++ more) i ≡ Some x
  in_first [] more i x there = absurd (cc)
  in_first (e ∷ es) more zero x there = there
  in_first (e ∷ es) more (suc i) x there = in_first es more i x there

  in_later : (es more : List (K × V)) (k : K) (v : V) → IsEntry more k v → IsEntry (es ++ more) k v
  in_later [] more k v is = is
  in_later (e ∷ es) more k v is = let rest = in_later es more k v is in record { index = suc rest.index; there = rest.there }

  pub in_chunk : (chunks : List (List (K × V))) (at : ℕ) (es : List (K × V)) (k : K) (v : V) → slice_get chunks at ≡ Some es → IsEntry es k v → IsEntry (joined chunks) k v
  in_chunk [] at es k v there is = absurd (cc)
  in_chunk (c ∷ chunks) zero es k v there is =
      let same : c ≡ es = cc in
      record { index = is.index; there = in_first c (joined chunks) is.index (k, v) (ap (λ (t : List (K × V)). slice_get t is.index) same ∙ is.there) }
  in_chunk (c ∷ chunks) (suc at) es k v there is = in_later c (joined chunks) k v (in_chunk chunks at es k v there is)

  -- what was found in one of them
  pub found : (chunks : List (List (K × V))) (at : ℕ) (es : List (K × V)) (o : Option (Bor K × Bor V)) → slice_get chunks at ≡ Some es → IfSome o (λ e. IsEntry es e.0.now e.1.now) → IfSome o (λ e. IsEntry (joined chunks) e.0.now e.1.now)
  found chunks at es None there is = tt
  found chunks at es (Some e) there is = in_chunk chunks at es e.0.now e.1.now there is
