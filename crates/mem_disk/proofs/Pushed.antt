-- Bytes that agree with places, of which some are no longer sure, and more bytes.
use Rattle.std.proofs.Common.{◌≡◌, ◌∙◌, ℕ, List, [], ◌∷◌, ◌++◌, Option, None, Some, true, false, length, map, take, drop, replicate, min, set, ◌+◌, ◌-◌, ◌<◌, ◌≤◌, arith, append_assoc, append-nil, sym, ap, subst, refl, zero, suc}
use Rattle.std.proofs.lemmas.List.{drop_all, length-map, take_all}
use Rattle.dra_ports.specs.DiskContent.{Agrees, IsImage, Sure, blurred, exactly, shorter}
use Rattle.mem_disk.specs.Stages.{StartsWith, gapped}

-- bytes past the places
agrees_longer : (places : List (Option ℕ)) (image more : List ℕ) → Agrees places image → Agrees places (image ++ more)
agrees_longer [] image more p = tt
agrees_longer (s ∷ places) [] more p = absurd p
agrees_longer (None ∷ places) (x ∷ image) more p = agrees_longer places image more p
agrees_longer (Some y ∷ places) (x ∷ image) more p = (p.0, agrees_longer places image more p.1)

pub agrees_on : (places : List (Option ℕ)) (image new : List ℕ) → Agrees places image → StartsWith new image → Agrees places new
agrees_on places image new p s = subst (Agrees places) (sym s.1) (agrees_longer places image s.0 p)

pub starts_here : (xs : List ℕ) → StartsWith xs xs
starts_here xs = ([], sym (append-nil xs))

pub starts_on : (xs old new : List ℕ) (b : ℕ) → StartsWith old xs → new ≡ old ++ b ∷ [] → StartsWith new xs
starts_on xs old new b s is = (s.0 ++ b ∷ [], is ∙ ap (λ (l : List ℕ). l ++ b ∷ []) s.1 ∙ append_assoc xs s.0 (b ∷ []))

-- the places with a gap, place by place
gaps : ℕ → ℕ → List (Option ℕ) → List (Option ℕ)
gaps at n [] = []
gaps zero zero (p ∷ places) = p ∷ places
gaps zero (suc n) (p ∷ places) = None ∷ gaps zero n places
gaps (suc at) n (p ∷ places) = p ∷ gaps at n places

none : (at n : ℕ) → gapped at n [] ≡ []
none at n = (λ i. take_all at [] (omega arith) i ++ replicate (empty i) None ++ drop_all (at + n) [] (omega arith) i)
  where
    empty : min (at + n) (length {A = Option ℕ} []) - min at (length {A = Option ℕ} []) ≡ 0
    empty = omega arith

gaps_are : (at n : ℕ) (places : List (Option ℕ)) → gaps at n places ≡ gapped at n places
unfolding gaps
gaps_are at n [] = sym (none at n)
gaps_are zero zero (p ∷ places) = sym (λ i. take 0 (p ∷ places) ++ replicate (empty i) None ++ drop (none_more i) (p ∷ places))
  where
    empty : min (0 + 0) (length (p ∷ places)) - min 0 (length (p ∷ places)) ≡ 0
    empty = omega arith

    none_more : 0 + 0 ≡ 0
    none_more = omega arith
gaps_are zero (suc n) (p ∷ places) =
    ap (λ (l : List (Option ℕ)). None ∷ l) (gaps_are zero n places) ∙ sym (λ i. take 0 (p ∷ places) ++ replicate (one i) None ++ drop (next i) (p ∷ places))
  where
    one : min (0 + suc n) (length (p ∷ places)) - min 0 (length (p ∷ places)) ≡ suc (min (0 + n) (length places) - min 0 (length places))
    one = omega arith

    next : 0 + suc n ≡ suc (0 + n)
    next = omega arith
gaps_are (suc at) n (p ∷ places) =
    ap (λ (l : List (Option ℕ)). p ∷ l) (gaps_are at n places) ∙ sym (λ i. take (suc at) (p ∷ places) ++ replicate (same i) None ++ drop (next i) (p ∷ places))
  where
    same : min (suc at + n) (length (p ∷ places)) - min (suc at) (length (p ∷ places)) ≡ min (at + n) (length places) - min at (length places)
    same = omega arith

    next : suc at + n ≡ suc (at + n)
    next = omega arith

-- what agrees with the places agrees with fewer of them
fewer : (at n : ℕ) (places : List (Option ℕ)) (image : List ℕ) → Agrees places image → Agrees (gaps at n places) image
unfolding gaps
fewer at n [] image p = tt
fewer at n (q ∷ places) [] p = absurd p
fewer zero zero (q ∷ places) (x ∷ image) p = p
fewer zero (suc n) (None ∷ places) (x ∷ image) p = fewer zero n places image p
fewer zero (suc n) (Some y ∷ places) (x ∷ image) p = fewer zero n places image p.1
fewer (suc at) n (None ∷ places) (x ∷ image) p = fewer at n places image p
fewer (suc at) n (Some y ∷ places) (x ∷ image) p = (p.0, fewer at n places image p.1)

no_first : (at n : ℕ) (q : Option ℕ) (places : List (Option ℕ)) → Agrees (gaps at n (q ∷ places)) [] → ⊥
unfolding gaps
no_first zero zero q places p = p
no_first zero (suc n) q places p = p
no_first (suc at) n q places p = p

-- a byte in the gap may be any
within : (at n k : ℕ) (b : ℕ) (places : List (Option ℕ)) (image : List ℕ) → at ≤ k → k < at + n → Agrees (gaps at n places) image → Agrees (gaps at n places) (set image k b)
unfolding gaps
within at n k b [] image le lt p = tt
within at n k b (q ∷ places) [] le lt p = absurd (no_first at n q places p)
within zero zero k b (q ∷ places) (x ∷ image) le lt p = absurd (omega (arith, lt))
within zero (suc n) zero b (q ∷ places) (x ∷ image) le lt p = p
within zero (suc n) (suc k) b (q ∷ places) (x ∷ image) le lt p = within zero n k b places image (omega arith) (omega (arith, lt)) p
within (suc at) n zero b (q ∷ places) (x ∷ image) le lt p = absurd (omega (arith, le))
within (suc at) n (suc k) b (None ∷ places) (x ∷ image) le lt p = within at n k b places image (omega (arith, le)) (omega (arith, lt)) p
within (suc at) n (suc k) b (Some y ∷ places) (x ∷ image) le lt p = (p.0, within at n k b places image (omega (arith, le)) (omega (arith, lt)) p.1)

pub gapped_fewer : (at n : ℕ) (places : List (Option ℕ)) (image : List ℕ) → Agrees places image → Agrees (gapped at n places) image
gapped_fewer at n places image p = subst (λ (ps : List (Option ℕ)). Agrees ps image) (gaps_are at n places) (fewer at n places image p)

pub gapped_within : (at n k : ℕ) (b : ℕ) (places : List (Option ℕ)) (image : List ℕ) → at ≤ k → k < at + n → Agrees (gapped at n places) image → Agrees (gapped at n places) (set image k b)
gapped_within at n k b places image le lt p =
    subst (λ (ps : List (Option ℕ)). Agrees ps (set image k b)) (gaps_are at n places)
    (within at n k b places image le lt (subst (λ (ps : List (Option ℕ)). Agrees ps image) (sym (gaps_are at n places)) p))

-- the first places, of the first bytes
agrees_cut : (len : ℕ) (places : List (Option ℕ)) (image : List ℕ) → Agrees places image → Agrees (take len places) (take len image)
agrees_cut zero places image p = tt
agrees_cut (suc len) [] image p = tt
agrees_cut (suc len) (q ∷ places) [] p = absurd p
agrees_cut (suc len) (None ∷ places) (x ∷ image) p = agrees_cut len places image p
agrees_cut (suc len) (Some y ∷ places) (x ∷ image) p = (p.0, agrees_cut len places image p.1)

pub image_blurred : (at n : ℕ) (sure : Sure) (image : List ℕ) → Agrees (gapped at n sure.places) image → IsImage (blurred at n sure) image
image_blurred at n sure image p = record { agrees = p; end = λ not. cc }

pub image_cut : (len : ℕ) (sure : Sure) (image : List ℕ) → Agrees sure.places image → IsImage (shorter len sure) (take len image)
image_cut len sure image p = record { agrees = agrees_cut len sure.places image p; end = λ not. cc }

agrees_sure : (b : List ℕ) → Agrees (map Some b) b
agrees_sure [] = tt
agrees_sure (x ∷ b) = (refl, agrees_sure b)

-- just the bytes
pub image_exact : (b : List ℕ) → IsImage (exactly b) b
image_exact b = record { agrees = agrees_sure b; end = λ is. sym (length-map b Some) }

-- bytes past those of an image, where there may be some
pub image_longer : (sure : Sure) (old new : List ℕ) → IsImage sure old → sure.longer ≡ true → StartsWith new old → IsImage sure new
image_longer sure old new p is starts = record { agrees = agrees_on sure.places old new p.agrees starts; end = λ not. absurd (let bad : true ≡ false = sym is ∙ not in cc) }
