-- A record is added after the closed gate: at each moment the records are those from before, or these and the
-- new one.
use Rattle.std.proofs.Common.{◌≡◌, ◌≢◌, ◌⊎◌, inl, inr, ℕ, zero, suc, ◌+◌, ◌-◌, ◌<◌, ◌≤◌, min, List, [], ◌∷◌, ◌++◌, length, take, drop, Ok, refl, sym, ◌∙◌, ap, subst, arith, append_assoc, append-nil, length-append, length-take, length-drop}
use Rattle.std.proofs.lemmas.Bool.{cases_eq}
use Rattle.std.proofs.lemmas.List.{take_at, drop_at}
use Rattle.std.specs.List.{AllByRecursion}
use Rattle.dra_ports.specs.DiskContent.{IsImage, exactly, spliced}
use Rattle.ckpt_journal.specs.Format.{Fits, block, blocks}
use Rattle.ckpt_journal.specs.Layout.{start_of}
use Rattle.ckpt_journal.specs.Plan.{append_steps}
use Rattle.ckpt_journal.specs.Standing.{Has}
use Rattle.ckpt_journal.specs.Steps.{Safe, Put, all_bytes, step_bytes, step_sure}
use Rattle.ckpt_journal.specs.declared.layout.Halves.{Halves}
use Rattle.ckpt_journal.specs.declared.record.Record.{Record}
use Rattle.ckpt_journal.proofs.Halved.{drop_one, has_pre, take_one}
use Rattle.ckpt_journal.proofs.LaidOut.{IsPre, length-pre}
use Rattle.ckpt_journal.proofs.Read.{blocks-more}
use Rattle.ckpt_journal.proofs.Steps.{Torn, torn}
use Rattle.ckpt_journal.proofs.Taken.{one_more}

unfoldable pub Either : List Record → Record → List ℕ → Type 0
Either rs item image = Has rs image ⊎ Has (rs ++ item ∷ []) image

pub one_byte : (mid : List ℕ) → length mid ≡ 1 → (b : ℕ) × (mid ≡ b ∷ [])
one_byte [] is = absurd (omega arith)
one_byte (b ∷ []) is = (b, refl)
one_byte (b ∷ c ∷ mid) is = absurd (omega arith)

module _ (h : Halves) (pre : List ℕ) (p : IsPre h pre) (rs : List Record) (fits : AllByRecursion Fits rs) (item : Record) (this : Fits item) (room : length (blocks rs) + 1 + length (block item) < h.half) where
  abbrev a : List ℕ
  a = pre ++ blocks rs

  length-a : length a ≡ start_of h + length (blocks rs)
  length-a = omega (arith, length-append pre (blocks rs), length-pre h pre p)

  same_here : (gate : ℕ) (tail : List ℕ) → gate ≢ 90 → h.base + h.half + 6 ≤ length (a ++ gate ∷ tail) → Has rs (a ++ gate ∷ tail)
  same_here gate tail shut long =
      let whole = append_assoc pre (blocks rs) (gate ∷ tail) in
      subst (Has rs) (sym whole) (has_pre h pre rs gate tail p (subst (λ (l : List ℕ). h.base + h.half + 6 ≤ length l) whole long) (omega (arith, room)) fits shut)

  pub more_here : (gate : ℕ) (tail : List ℕ) → gate ≢ 90 → h.base + h.half + 6 ≤ length (a ++ 90 ∷ (block item ++ gate ∷ tail)) → Has (rs ++ item ∷ []) (a ++ 90 ∷ (block item ++ gate ∷ tail))
  more_here gate tail shut long =
      let whole : a ++ 90 ∷ (block item ++ gate ∷ tail) ≡ pre ++ (blocks (rs ++ item ∷ []) ++ gate ∷ tail) = append_assoc pre (blocks rs) (90 ∷ (block item ++ gate ∷ tail)) ∙ ap (λ (l : List ℕ). pre ++ l) (sym (blocks-more rs item (gate ∷ tail))) in
      let len : length (blocks (rs ++ item ∷ []) ++ gate ∷ tail) ≡ length (blocks rs) + (1 + (length (block item) + (1 + length tail))) =
      omega (arith, ap length (blocks-more rs item (gate ∷ tail)), length-append (blocks rs) (90 ∷ (block item ++ gate ∷ tail)), length-append (block item) (gate ∷ tail)) in
      subst (Has (rs ++ item ∷ [])) (sym whole)
      (has_pre h pre (rs ++ item ∷ []) gate tail p (subst (λ (l : List ℕ). h.base + h.half + 6 ≤ length l) whole long) (omega (arith, room, len, length-append (blocks (rs ++ item ∷ [])) (gate ∷ tail))) (one_more Fits rs item fits this) shut)

  either : (gate : ℕ) (tail : List ℕ) → h.base + h.half + 6 ≤ length (a ++ gate ∷ (block item ++ 0 ∷ tail)) → Either rs item (a ++ gate ∷ (block item ++ 0 ∷ tail))
  unfolding Either
  either gate tail long = elim (cases_eq gate 90) [
    | inl is ↦
        let bytes = block item ++ 0 ∷ tail in
        inr (subst (λ (g : ℕ). Has (rs ++ item ∷ []) (a ++ g ∷ bytes)) (sym is) (more_here 0 tail (omega arith) (subst (λ (g : ℕ). h.base + h.half + 6 ≤ length (a ++ g ∷ bytes)) is long)))
    | inr shut ↦ inl (same_here gate (block item ++ 0 ∷ tail) shut long)
  ]

  module _ (gate : ℕ) (shut : gate ≢ 90) (tail : List ℕ) (long : h.base + h.half + 6 ≤ length (a ++ gate ∷ tail)) (end : ℕ) (place : end ≡ start_of h + length (blocks rs)) where
    abbrev bytes : List ℕ
    bytes = a ++ gate ∷ tail

    abbrev from : List ℕ
    from = block item ++ 0 ∷ []

    abbrev rest : List ℕ
    rest = drop (end + 1 + length from) bytes

    -- with the record behind the closed gate
    staged : spliced (end + 1) from bytes ≡ a ++ gate ∷ (block item ++ 0 ∷ rest)
    staged =
        ap (λ (l : List ℕ). l ++ from ++ rest) (take_one a gate tail (end + 1) (omega (arith, place, length-a)))
        ∙ ap (λ (l : List ℕ). l ++ rest) (append_assoc a (gate ∷ []) from)
        ∙ append_assoc a (gate ∷ from) rest
        ∙ ap (λ (l : List ℕ). a ++ gate ∷ l) (append_assoc (block item) (0 ∷ []) rest)

    staged_long : h.base + h.half + 6 ≤ length (a ++ gate ∷ (block item ++ 0 ∷ rest))
    staged_long =
        omega (arith, long, length-append a (gate ∷ tail), length-append a (gate ∷ (block item ++ 0 ∷ rest)), length-append (block item) (0 ∷ rest), length-append (block item) (0 ∷ []), length-drop (end + 1 + length from) bytes, place, length-a)

    -- with the gate open
    opened : spliced end (90 ∷ []) (a ++ gate ∷ (block item ++ 0 ∷ rest)) ≡ a ++ 90 ∷ (block item ++ 0 ∷ rest)
    opened =
        let behind = block item ++ 0 ∷ rest in
        (λ i. take_at a (gate ∷ behind) end (omega (arith, place, length-a)) i ++ (90 ∷ []) ++ drop_one a gate behind (end + 1) (omega (arith, place, length-a)) i)
        ∙ append_assoc a (90 ∷ []) behind

    stage_torn : (image : List ℕ) → IsImage (step_sure (Put (end + 1) from) (exactly bytes)) image → Has rs image
    stage_torn image is =
        let t = torn (end + 1) (length from) bytes image (omega (arith, place, length-a, length-append a (gate ∷ tail))) is in
        let more = t.mid ++ (drop (end + 1 + length from) bytes ++ t.more) in
        let whole : image ≡ a ++ gate ∷ more = t.parts ∙ ap (λ (l : List ℕ). l ++ more) (take_one a gate tail (end + 1) (omega (arith, place, length-a))) ∙ append_assoc a (gate ∷ []) more in
        let enough : h.base + h.half + 6 ≤ length (a ++ gate ∷ more) =
        omega (arith, long, t.len, length-append a (gate ∷ tail), length-append a (gate ∷ more), length-append t.mid (drop (end + 1 + length from) bytes ++ t.more), length-append (drop (end + 1 + length from) bytes) t.more, length-drop (end + 1 + length from) bytes, place, length-a) in
        subst (Has rs) (sym whole) (same_here gate more shut enough)

    gate_torn : (image : List ℕ) → IsImage (step_sure (Put end (90 ∷ [])) (exactly (a ++ gate ∷ (block item ++ 0 ∷ rest)))) image → Either rs item image
    gate_torn image is =
        let behind = block item ++ 0 ∷ rest in
        let all = a ++ gate ∷ behind in
        let t = torn end 1 all image (omega (arith, place, length-a, length-append a (gate ∷ behind))) is in
        let one = one_byte t.mid (omega (arith, t.len, length-append a (gate ∷ behind), place, length-a)) in
        let whole : image ≡ a ++ one.0 ∷ (block item ++ 0 ∷ (rest ++ t.more)) =
        t.parts
        ∙ (λ i. take_at a (gate ∷ behind) end (omega (arith, place, length-a)) i ++ (one.1 i ++ (drop_one a gate behind (end + 1) (omega (arith, place, length-a)) i ++ t.more)))
        ∙ ap (λ (l : List ℕ). a ++ one.0 ∷ l) (append_assoc (block item) (0 ∷ rest) t.more) in
        let enough : h.base + h.half + 6 ≤ length (a ++ one.0 ∷ (block item ++ 0 ∷ (rest ++ t.more))) =
        omega (arith, staged_long, length-append a (gate ∷ behind), length-append a (one.0 ∷ (block item ++ 0 ∷ (rest ++ t.more))), length-append (block item) (0 ∷ rest), length-append (block item) (0 ∷ (rest ++ t.more)), length-append rest t.more) in
        subst (Either rs item) (sym whole) (either one.0 (rest ++ t.more) enough)

    pub append_safe : Safe (Either rs item) (append_steps end from) bytes
    unfolding Either
    append_safe = (
      inl (same_here gate tail shut long),
      (λ image is. inl (stage_torn image is)),
      subst (Safe (Either rs item) (Put end (90 ∷ []) ∷ [])) (sym staged) (
        inl (same_here gate (block item ++ 0 ∷ rest) shut staged_long),
        (λ image is. gate_torn image is),
        subst (Either rs item) (sym opened) (either 90 rest (omega (arith, staged_long, length-append a (gate ∷ (block item ++ 0 ∷ rest)), length-append a (90 ∷ (block item ++ 0 ∷ rest))))),
      ),
    )

    pub append_bytes : all_bytes (append_steps end from) bytes ≡ pre ++ (blocks (rs ++ item ∷ []) ++ 0 ∷ rest)
    append_bytes =
        ap (λ (l : List ℕ). spliced end (90 ∷ []) l) staged ∙ opened
        ∙ append_assoc pre (blocks rs) (90 ∷ (block item ++ 0 ∷ rest)) ∙ ap (λ (l : List ℕ). pre ++ l) (sym (blocks-more rs item (0 ∷ rest)))

    pub append_long : h.base + h.half + 6 ≤ length (pre ++ (blocks (rs ++ item ∷ []) ++ 0 ∷ rest))
    append_long =
        omega (arith, staged_long, ap length (append_assoc pre (blocks rs) (90 ∷ (block item ++ 0 ∷ rest)) ∙ ap (λ (l : List ℕ). pre ++ l) (sym (blocks-more rs item (0 ∷ rest)))), length-append a (gate ∷ (block item ++ 0 ∷ rest)), length-append a (90 ∷ (block item ++ 0 ∷ rest)))
