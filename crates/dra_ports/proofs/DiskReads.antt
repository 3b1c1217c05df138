-- What a read returns stays an image, and an image of what is exact is just that.
use Rattle.std.proofs.Common.{◌≡◌, inl, inr, ℕ, suc, zero, ◌+◌, ◌-◌, ◌≤◌, min, Bool, true, false, IsTrue, List, [], ◌∷◌, ◌++◌, length, map, take, drop, replicate, Option, Some, None, refl, sym, ◌∙◌, ap, subst, arith, append_assoc, append-nil, length-take, if◌then◌else◌}
use Rattle.std.proofs.lemmas.Bool.{cases_lt}
use Rattle.std.proofs.lemmas.List.{drop_all, length-map, length-replicate}
use Rattle.dra_ports.specs.DiskContent.{Sure, Content, Agrees, IsImage, blurred, exactly, shorter, spliced, synced}

agrees_app : (xs ys : List (Option ℕ)) (a b : List ℕ) → length a ≡ length xs → Agrees xs a → Agrees ys b → Agrees (xs ++ ys) (a ++ b)
agrees_app [] ys [] b len p q = q
agrees_app [] ys (x ∷ a) b len p q = absurd (omega arith)
agrees_app (s ∷ xs) ys [] b len p q = absurd p
agrees_app (None ∷ xs) ys (x ∷ a) b len p q = agrees_app xs ys a b (omega arith) p q
agrees_app (Some y ∷ xs) ys (x ∷ a) b len p q = (p.0, agrees_app xs ys a b (omega arith) p.1 q)

agrees_take : (n : ℕ) (s : List (Option ℕ)) (b : List ℕ) → Agrees s b → Agrees (take n s) (take n b)
agrees_take zero s b p = tt
agrees_take (suc n) [] b p = tt
agrees_take (suc n) (s ∷ ss) [] p = absurd p
agrees_take (suc n) (None ∷ ss) (x ∷ b) p = agrees_take n ss b p
agrees_take (suc n) (Some y ∷ ss) (x ∷ b) p = (p.0, agrees_take n ss b p.1)

agrees_drop : (n : ℕ) (s : List (Option ℕ)) (b : List ℕ) → Agrees s b → Agrees (drop n s) (drop n b)
agrees_drop zero s b p = p
agrees_drop (suc n) [] b p = tt
agrees_drop (suc n) (s ∷ ss) [] p = absurd p
agrees_drop (suc n) (None ∷ ss) (x ∷ b) p = agrees_drop n ss b p
agrees_drop (suc n) (Some y ∷ ss) (x ∷ b) p = agrees_drop n ss b p.1

agrees_none : (n : ℕ) (a : List ℕ) → n ≤ length a → Agrees (replicate n None) a
agrees_none zero a le = tt
agrees_none (suc n) [] le = absurd (omega arith)
agrees_none (suc n) (x ∷ a) le = agrees_none n a (omega arith)

agrees_sure : (b : List ℕ) → Agrees (map Some b) b
agrees_sure [] = tt
agrees_sure (x ∷ b) = (refl, agrees_sure b)

agrees_long : (s : List (Option ℕ)) (b : List ℕ) → Agrees s b → length s ≤ length b
agrees_long [] b p = omega arith
agrees_long (s ∷ ss) [] p = absurd p
agrees_long (None ∷ ss) (x ∷ b) p = omega (arith, agrees_long ss b p)
agrees_long (Some y ∷ ss) (x ∷ b) p = omega (arith, agrees_long ss b p.1)

agrees_more : (s : List (Option ℕ)) (a b : List ℕ) → Agrees s a → Agrees s (a ++ b)
agrees_more [] a b p = tt
agrees_more (s ∷ ss) [] b p = absurd p
agrees_more (None ∷ ss) (x ∷ a) b p = agrees_more ss a b p
agrees_more (Some y ∷ ss) (x ∷ a) b p = (p.0, agrees_more ss a b p.1)

-- what is sure of the bytes once n of them from this one on may hold any value
abbrev gapped : ℕ → ℕ → List (Option ℕ) → List (Option ℕ)
gapped at n s = take at s ++ replicate (min (at + n) (length s) - min at (length s)) None ++ drop (at + n) s

agrees_write : (at : ℕ) (from : List ℕ) (s : List (Option ℕ)) (b : List ℕ) → at ≤ length b → Agrees s b → Agrees (gapped at (length from) s) (spliced at from b)
agrees_write at from s b le p = elim (cases_lt (length s) at) [
  | inl past ↦
      let none : min (at + length from) (length s) - min at (length s) ≡ 0 = omega arith in
      let rest : drop (at + length from) s ≡ [] = drop_all (at + length from) s (omega arith) in
      let is : gapped at (length from) s ≡ take at s = (λ i. take at s ++ replicate (none i) None ++ rest i) ∙ append-nil _ ∙ append-nil _ in
      subst (λ (u : List (Option ℕ)). Agrees u (spliced at from b)) (sym is) (subst (Agrees (take at s)) (sym (append_assoc (take at b) from _)) (agrees_more (take at s) (take at b) (from ++ drop (at + length from) b) (agrees_take at s b p)))
  | inr within ↦
      let long = agrees_long s b p in
      let k = min (at + length from) (length s) - min at (length s) in
      let prefix_len : length (take at b) ≡ length (take at s) = omega (arith, length-take at b, length-take at s) in
      subst (λ (u : List (Option ℕ)). Agrees u (spliced at from b)) (sym (append_assoc (take at s) (replicate k None) (drop (at + length from) s)))
      (subst (Agrees (take at s ++ (replicate k None ++ drop (at + length from) s))) (sym (append_assoc (take at b) from (drop (at + length from) b)))
      (agrees_app (take at s) _ (take at b) _ prefix_len (agrees_take at s b p) (gap at from s b within p)))
]
  where
    gap : (at : ℕ) (from : List ℕ) (s : List (Option ℕ)) (b : List ℕ) → at ≤ length s → Agrees s b
        → Agrees (replicate (min (at + length from) (length s) - min at (length s)) None ++ drop (at + length from) s) (from ++ drop (at + length from) b)
    gap at from s b within p = elim (cases_lt (length s) (at + length from)) [
      | inl past ↦
          let rest : drop (at + length from) s ≡ [] = drop_all (at + length from) s (omega arith) in
          let k = min (at + length from) (length s) - min at (length s) in
          let is : replicate k None ++ drop (at + length from) s ≡ replicate k None = ap (λ (u : List (Option ℕ)). replicate k None ++ u) rest ∙ append-nil _ in
          subst (λ (u : List (Option ℕ)). Agrees u (from ++ drop (at + length from) b)) (sym is) (agrees_more (replicate k None) from (drop (at + length from) b) (agrees_none k from (omega arith)))
      | inr all ↦
          let k = min (at + length from) (length s) - min at (length s) in
          let is : k ≡ length from = omega arith in
          agrees_app (replicate k None) (drop (at + length from) s) from (drop (at + length from) b) (omega (arith, length-replicate {A = Option ℕ} k None)) (agrees_none k from (omega arith)) (agrees_drop (at + length from) s b p)
    ]

pub image_write : (at : ℕ) (from : List ℕ) (s : Sure) (b : List ℕ) → at ≤ length b → IsImage s b → IsImage (blurred at (length from) s) (spliced at from b)
image_write at from s b le p = record { agrees = agrees_write at from s.places b le p.agrees; end = λ not. cc }

pub image_cut : (len : ℕ) (s : Sure) (b : List ℕ) → IsImage s b → IsImage (shorter len s) (take len b)
image_cut len s b p = record { agrees = agrees_take len s.places b p.agrees; end = λ not. cc }

image_of_itself : (b : List ℕ) → IsImage (exactly b) b
image_of_itself b = record { agrees = agrees_sure b; end = λ is. sym (length-map b Some) }

pub image_sync : (c : Content) → IsImage c.sure c.bytes → IsImage (synced c).sure c.bytes
image_sync c p = choice c.honest
  where
    choice : (b : Bool) → IsImage (if b then exactly c.bytes else c.sure) c.bytes
    choice true = image_of_itself c.bytes
    choice false = p

same_bytes : (b image : List ℕ) → Agrees (map Some b) image → length image ≡ length b → image ≡ b
same_bytes [] [] p len = refl
same_bytes [] (y ∷ image) p len = absurd (omega arith)
same_bytes (x ∷ b) [] p len = absurd p
same_bytes (x ∷ b) (y ∷ image) p len = λ i. p.0 i ∷ same_bytes b image p.1 (omega arith) i

pub image_exact : (b image : List ℕ) → IsImage (exactly b) image → image ≡ b
image_exact b image p = same_bytes b image p.agrees (p.end refl ∙ length-map b Some)

pub image_after_sync : (c : Content) (image : List ℕ) → IsTrue c.honest → IsImage (synced c).sure image → image ≡ c.bytes
image_after_sync c image honest p = choice c.honest honest p
  where
    choice : (b : Bool) → IsTrue b → IsImage (if b then exactly c.bytes else c.sure) image → image ≡ c.bytes
    choice true is q = image_exact c.bytes image q
    choice false is q = cc
