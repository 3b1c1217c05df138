-- The compacted table is written to the half that isn't live, and then that half is made live: at each moment the
-- records are those from before, or those of the compacted table.
use Rattle.std.proofs.Common.{◌≡◌, ◌≢◌, ◌⊎◌, inl, inr, ℕ, zero, suc, ◌+◌, ◌-◌, ◌<◌, ◌≤◌, min, Bool, true, false, List, [], ◌∷◌, ◌++◌, length, take, drop, Ok, refl, sym, ◌∙◌, ap, subst, arith, append_assoc, append-nil, length-append, length-take, length-drop, take-append-drop, ◌==◌, if◌then◌else◌}
use Rattle.std.proofs.lemmas.List.{take_at, drop_at, drop-append-le}
use Rattle.std.specs.List.{AllByRecursion}
use Rattle.dra_ports.specs.DiskContent.{IsImage, exactly, spliced}
use Rattle.ckpt_journal.specs.Format.{Fits, block, blocks}
use Rattle.ckpt_journal.specs.Layout.{other_half, start_of}
use Rattle.ckpt_journal.specs.Plan.{switch_steps}
use Rattle.ckpt_journal.specs.Standing.{Has}
use Rattle.ckpt_journal.specs.Steps.{Safe, Put, all_bytes, step_bytes, step_sure}
use Rattle.ckpt_journal.specs.declared.layout.Halves.{Halves}
use Rattle.ckpt_journal.specs.declared.record.Record.{Record}
use Rattle.ckpt_journal.proofs.Appends.{one_byte}
use Rattle.ckpt_journal.proofs.Halved.{Half, drop_one, first, front_first, has_first, has_one, has_second, pre_first, pre_second, second, take_past}
use Rattle.ckpt_journal.proofs.LaidOut.{IsFront, IsPre}
use Rattle.ckpt_journal.proofs.Steps.{Torn, torn}

unfoldable pub Both : List Record → List Record → List ℕ → Type 0
Both rs cs image = Has rs image ⊎ Has cs image

by_case : (b : Bool) (rs cs : List Record) (image : List ℕ) → Has (if b then cs else rs) image → Both rs cs image
unfolding Both
by_case true rs cs image has = inr has
by_case false rs cs image has = inl has

by_other : (b : Bool) (rs cs : List Record) (image : List ℕ) → Has (if b then rs else cs) image → Both rs cs image
unfolding Both
by_other true rs cs image has = inl has
by_other false rs cs image has = inr has

half_more : (rs : List Record) (half : ℕ) (b more : List ℕ) → Half rs half b → Half rs half (b ++ more)
half_more rs half b more x = record { gate = x.gate; tail = x.tail ++ more; shut = x.shut; parts = ap (λ (l : List ℕ). l ++ more) x.parts ∙ append_assoc (blocks rs) (x.gate ∷ x.tail) more; room = x.room; fits = x.fits }

-- what the steps leave: a file whose other half has the compacted table
pub record Switched (h : Halves) (rs cs : List Record) (t bytes : List ℕ) : Type 0 where
  pub safe : Safe (Both rs cs) (switch_steps h t) bytes
  pub pre : List ℕ
  pub is_pre : IsPre (other_half h) pre
  pub rest : List ℕ
  pub left : all_bytes (switch_steps h t) bytes ≡ pre ++ (blocks cs ++ 0 ∷ rest)
  pub long : h.base + h.half + 6 ≤ length (pre ++ (blocks cs ++ 0 ∷ rest))

module _ (base half : ℕ) (front : List ℕ) (f : IsFront (first base half) front) (rs cs : List Record) (t : List ℕ) (t_is : t ≡ blocks cs ++ 0 ∷ []) (spelled : AllByRecursion Fits cs) (room : length (blocks cs) < half) where
  table_half : (rest : List ℕ) → Half cs half (t ++ rest)
  table_half rest = record { gate = 0; tail = rest; shut = omega arith; parts = ap (λ (l : List ℕ). l ++ rest) t_is ∙ append_assoc (blocks cs) (0 ∷ []) rest; room = room; fits = spelled }

  length-t : length t ≡ length (blocks cs) + 1
  length-t = omega (arith, ap length t_is, length-append (blocks cs) (0 ∷ []))

  module _ (selector : ℕ) (is : (selector == 90) ≡ false) (b0 b1 : List ℕ) (len : length b0 ≡ half) (some : 0 < length b1) (live : Half rs half b0) where
    abbrev lead : List ℕ
    lead = front ++ selector ∷ b0

    abbrev bytes : List ℕ
    bytes = front ++ selector ∷ (b0 ++ b1)

    abbrev at : ℕ
    at = base + 5 + half

    abbrev rest : List ℕ
    rest = drop (at + length t) bytes

    length-lead : length lead ≡ at
    length-lead = omega (arith, length-append front (selector ∷ b0), f.len, len)

    length-bytes : length bytes ≡ at + length b1
    length-bytes = omega (arith, length-append front (selector ∷ (b0 ++ b1)), length-append b0 b1, f.len, len)

    to_lead : take at bytes ≡ lead
    to_lead = ap (take at) (sym (append_assoc front (selector ∷ b0) b1)) ∙ take_at lead b1 at length-lead

    filled : spliced at t bytes ≡ front ++ selector ∷ (b0 ++ (t ++ rest))
    filled = ap (λ (l : List ℕ). l ++ t ++ rest) to_lead ∙ append_assoc lead t rest ∙ append_assoc front (selector ∷ b0) (t ++ rest)

    fill_torn : (image : List ℕ) → IsImage (step_sure (Put at t) (exactly bytes)) image → Has rs image
    fill_torn image is_image =
        let x = torn at (length t) bytes image (omega (arith, length-bytes)) is_image in
        let more = x.mid ++ (drop (at + length t) bytes ++ x.more) in
        let whole : image ≡ front ++ selector ∷ (b0 ++ more) = x.parts ∙ ap (λ (l : List ℕ). l ++ more) to_lead ∙ append_assoc front (selector ∷ b0) more in
        let enough : 0 < length more = omega (arith, x.len, length-append x.mid (drop (at + length t) bytes ++ x.more), length-append (drop (at + length t) bytes) x.more, length-drop (at + length t) bytes, length-bytes, some) in
        subst (Has rs) (sym whole) (has_first base half front f selector b0 more len enough rs is live)

    abbrev written_bytes : List ℕ
    written_bytes = front ++ selector ∷ (b0 ++ (t ++ rest))

    chosen : spliced (base + 4) (90 ∷ []) written_bytes ≡ front ++ 90 ∷ (b0 ++ (t ++ rest))
    chosen =
        let behind = b0 ++ (t ++ rest) in
        (λ i. take_at front (selector ∷ behind) (base + 4) f.len i ++ (90 ∷ []) ++ drop_one front selector behind (base + 4 + 1) (omega (arith, f.len)) i) ∙ append_assoc front (90 ∷ []) behind

    choice : (s : ℕ) (more : List ℕ) → Both rs cs (front ++ s ∷ (b0 ++ (t ++ more)))
    choice s more = by_case (s == 90) rs cs _ (has_one base half front f s b0 (t ++ more) len (omega (arith, length-append t more, length-t)) rs cs live (table_half more) (s == 90) refl)

    choice_torn : (image : List ℕ) → IsImage (step_sure (Put (base + 4) (90 ∷ [])) (exactly written_bytes)) image → Both rs cs image
    choice_torn image is_image =
        let behind = b0 ++ (t ++ rest) in
        let x = torn (base + 4) 1 written_bytes image (omega (arith, length-append front (selector ∷ behind), f.len)) is_image in
        let one = one_byte x.mid (omega (arith, x.len, length-append front (selector ∷ behind), f.len)) in
        let whole : image ≡ front ++ one.0 ∷ (b0 ++ (t ++ (rest ++ x.more))) =
        x.parts
        ∙ (λ i. take_at front (selector ∷ behind) (base + 4) f.len i ++ (one.1 i ++ (drop_one front selector behind (base + 4 + 1) (omega (arith, f.len)) i ++ x.more)))
        ∙ ap (λ (l : List ℕ). front ++ one.0 ∷ l) (append_assoc b0 (t ++ rest) x.more ∙ ap (λ (l : List ℕ). b0 ++ l) (append_assoc t rest x.more)) in
        subst (Both rs cs) (sym whole) (choice one.0 (rest ++ x.more))

    old : (image : List ℕ) → Has rs image → Both rs cs image
    unfolding Both
    old image has = inl has

    pub switched_first : Switched (first base half) rs cs t bytes
    switched_first = record {
      safe = (
        old bytes (has_first base half front f selector b0 b1 len some rs is live),
        (λ image is_image. old image (fill_torn image is_image)),
        subst (Safe (Both rs cs) (Put (base + 4) (90 ∷ []) ∷ [])) (sym filled) (
          choice selector rest,
          (λ image is_image. choice_torn image is_image),
          subst (Both rs cs) (sym chosen) (choice 90 rest),
        ),
      );
      pre = front ++ 90 ∷ b0;
      is_pre = pre_second base half front 90 b0 f refl len;
      rest = rest;
      left = ap (λ (l : List ℕ). spliced (base + 4) (90 ∷ []) l) filled ∙ chosen ∙ at_table;
      long = omega (arith, ap length at_table, length-append front (90 ∷ (b0 ++ (t ++ rest))), length-append b0 (t ++ rest), length-append t rest, f.len, len, length-t);
    }
      where
        at_table : front ++ 90 ∷ (b0 ++ (t ++ rest)) ≡ (front ++ 90 ∷ b0) ++ (blocks cs ++ 0 ∷ rest)
        at_table = sym (append_assoc front (90 ∷ b0) (t ++ rest)) ∙ ap (λ (l : List ℕ). (front ++ 90 ∷ b0) ++ l) (ap (λ (l : List ℕ). l ++ rest) t_is ∙ append_assoc (blocks cs) (0 ∷ []) rest)

  module _ (selector : ℕ) (is : (selector == 90) ≡ true) (b0 b1 : List ℕ) (len : length b0 ≡ half) (some : 0 < length b1) (live : Half rs half b1) where
    abbrev lead_back : List ℕ
    lead_back = front ++ selector ∷ []

    abbrev bytes_back : List ℕ
    bytes_back = front ++ selector ∷ (b0 ++ b1)

    abbrev at_back : ℕ
    at_back = start_of (first base half)

    abbrev kept : List ℕ
    kept = drop (length t) b0

    length-bytes_back : length bytes_back ≡ at_back + half + length b1
    length-bytes_back = omega (arith, length-append front (selector ∷ (b0 ++ b1)), length-append b0 b1, f.len, len)

    to_lead_back : take at_back bytes_back ≡ lead_back
    to_lead_back = ap (take at_back) (sym (append_assoc front (selector ∷ []) (b0 ++ b1))) ∙ take_at lead_back (b0 ++ b1) at_back (omega (arith, length-append front (selector ∷ []), f.len))

    behind_table : drop (at_back + length t) bytes_back ≡ kept ++ b1
    behind_table =
        skip (front ++ selector ∷ []) (b0 ++ b1) (at_back + length t) (length t) (omega (arith, length-append front (selector ∷ []), f.len)) bytes_back (sym (append_assoc front (selector ∷ []) (b0 ++ b1)))
        ∙ drop-append-le (length t) b0 b1 (omega (arith, length-t, room, len))
      where
        skip : (xs ys : List ℕ) (n k : ℕ) → n ≡ length xs + k → (all : List ℕ) → all ≡ xs ++ ys → drop n all ≡ drop k ys
        skip xs ys n k is all e = ap (drop n) e ∙ skip_in xs ys n k is
          where
            skip_in : (xs ys : List ℕ) (n k : ℕ) → n ≡ length xs + k → drop n (xs ++ ys) ≡ drop k ys
            skip_in [] ys n k is = ap (λ (m : ℕ). drop m ys) same
              where
                same : n ≡ k
                same = omega (arith, is)
            skip_in (x ∷ xs) ys zero k is = absurd (omega arith)
            skip_in (x ∷ xs) ys (suc n) k is = skip_in xs ys n k (omega arith)

    length-kept : length t + length kept ≡ half
    length-kept = omega (arith, length-drop (length t) b0, len, length-t, room)

    filled_back : spliced at_back t bytes_back ≡ front ++ selector ∷ ((t ++ kept) ++ b1)
    filled_back =
        (λ i. to_lead_back i ++ t ++ behind_table i) ∙ append_assoc lead_back t (kept ++ b1) ∙ append_assoc front (selector ∷ []) (t ++ (kept ++ b1)) ∙ ap (λ (l : List ℕ). front ++ selector ∷ l) (sym (append_assoc t kept b1))

    fill_torn_back : (image : List ℕ) → IsImage (step_sure (Put at_back t) (exactly bytes_back)) image → Has rs image
    fill_torn_back image is_image =
        let x = torn at_back (length t) bytes_back image (omega (arith, length-bytes_back)) is_image in
        let len_mid : length x.mid ≡ length t = omega (arith, x.len, length-bytes_back, length-t, room) in
        let whole : image ≡ front ++ selector ∷ ((x.mid ++ kept) ++ (b1 ++ x.more)) =
        x.parts
        ∙ (λ i. to_lead_back i ++ (x.mid ++ (behind_table i ++ x.more)))
        ∙ append_assoc front (selector ∷ []) (x.mid ++ ((kept ++ b1) ++ x.more))
        ∙ ap (λ (l : List ℕ). front ++ selector ∷ l) (ap (λ (l : List ℕ). x.mid ++ l) (append_assoc kept b1 x.more) ∙ sym (append_assoc x.mid kept (b1 ++ x.more))) in
        subst (Has rs) (sym whole)
        (has_second base half front f selector (x.mid ++ kept) (b1 ++ x.more) (omega (arith, length-append x.mid kept, len_mid, length-kept)) (omega (arith, length-append b1 x.more, some)) rs is (half_more rs half b1 x.more live))

    abbrev written_bytes_back : List ℕ
    written_bytes_back = front ++ selector ∷ ((t ++ kept) ++ b1)

    chosen_back : spliced (base + 4) (0 ∷ []) written_bytes_back ≡ front ++ 0 ∷ ((t ++ kept) ++ b1)
    chosen_back =
        let behind = (t ++ kept) ++ b1 in
        (λ i. take_at front (selector ∷ behind) (base + 4) f.len i ++ (0 ∷ []) ++ drop_one front selector behind (base + 4 + 1) (omega (arith, f.len)) i) ∙ append_assoc front (0 ∷ []) behind

    choice_back : (s : ℕ) (more : List ℕ) → Both rs cs (front ++ s ∷ ((t ++ kept) ++ (b1 ++ more)))
    choice_back s more =
        by_other (s == 90) rs cs _ (has_one base half front f s (t ++ kept) (b1 ++ more) (omega (arith, length-append t kept, length-kept)) (omega (arith, length-append b1 more, some)) cs rs (table_half kept) (half_more rs half b1 more live) (s == 90) refl)

    no_more : (s : ℕ) → front ++ s ∷ ((t ++ kept) ++ (b1 ++ [])) ≡ front ++ s ∷ ((t ++ kept) ++ b1)
    no_more s = ap (λ (l : List ℕ). front ++ s ∷ ((t ++ kept) ++ l)) (append-nil b1)

    choice_torn_back : (image : List ℕ) → IsImage (step_sure (Put (base + 4) (0 ∷ [])) (exactly written_bytes_back)) image → Both rs cs image
    choice_torn_back image is_image =
        let behind = (t ++ kept) ++ b1 in
        let x = torn (base + 4) 1 written_bytes_back image (omega (arith, length-append front (selector ∷ behind), f.len)) is_image in
        let one = one_byte x.mid (omega (arith, x.len, length-append front (selector ∷ behind), f.len)) in
        let whole : image ≡ front ++ one.0 ∷ ((t ++ kept) ++ (b1 ++ x.more)) =
        x.parts
        ∙ (λ i. take_at front (selector ∷ behind) (base + 4) f.len i ++ (one.1 i ++ (drop_one front selector behind (base + 4 + 1) (omega (arith, f.len)) i ++ x.more)))
        ∙ ap (λ (l : List ℕ). front ++ one.0 ∷ l) (append_assoc (t ++ kept) b1 x.more) in
        subst (Both rs cs) (sym whole) (choice_back one.0 x.more)

    old_back : (image : List ℕ) → Has rs image → Both rs cs image
    unfolding Both
    old_back image has = inl has

    pub switched_second : Switched (second base half) rs cs t bytes_back
    switched_second = record {
      safe = (
        old_back bytes_back (has_second base half front f selector b0 b1 len some rs is live),
        (λ image is_image. old_back image (fill_torn_back image is_image)),
        subst (Safe (Both rs cs) (Put (base + 4) (0 ∷ []) ∷ [])) (sym filled_back) (
          subst (Both rs cs) (no_more selector) (choice_back selector []),
          (λ image is_image. choice_torn_back image is_image),
          subst (Both rs cs) (sym chosen_back) (subst (Both rs cs) (no_more 0) (choice_back 0 [])),
        ),
      );
      pre = front ++ 0 ∷ [];
      is_pre = pre_first base half front 0 f refl;
      rest = kept ++ b1;
      left = ap (λ (l : List ℕ). spliced (base + 4) (0 ∷ []) l) filled_back ∙ chosen_back ∙ at_table;
      long = omega (arith, ap length at_table, length-append front (0 ∷ ((t ++ kept) ++ b1)), length-append (t ++ kept) b1, length-append t kept, f.len, length-kept, some);
    }
      where
        at_table : front ++ 0 ∷ ((t ++ kept) ++ b1) ≡ (front ++ 0 ∷ []) ++ (blocks cs ++ 0 ∷ (kept ++ b1))
        at_table =
            ap (λ (l : List ℕ). front ++ 0 ∷ l) (append_assoc t kept b1 ∙ ap (λ (l : List ℕ). l ++ (kept ++ b1)) t_is ∙ append_assoc (blocks cs) (0 ∷ []) (kept ++ b1))
            ∙ sym (append_assoc front (0 ∷ []) (blocks cs ++ 0 ∷ (kept ++ b1)))

no_bytes : (l : List ℕ) → length l ≡ 0 → l ≡ []
no_bytes [] is = refl
no_bytes (x ∷ l) is = absurd (omega arith)

module _ (rs cs : List Record) (gate : ℕ) (tail t : List ℕ) (shut : gate ≢ 90) (fits : AllByRecursion Fits rs) (t_is : t ≡ blocks cs ++ 0 ∷ []) (spelled : AllByRecursion Fits cs) where
  by_half : (base half : ℕ) (pre : List ℕ) (b : Bool) → IsPre (record { base = base; half = half; second = b }) pre → base + half + 6 ≤ length (pre ++ (blocks rs ++ gate ∷ tail)) → length (blocks rs) < half → length (blocks cs) < half
      → Switched (record { base = base; half = half; second = b }) rs cs t (pre ++ (blocks rs ++ gate ∷ tail))
  by_half base half pre true p long room fit =
      let body = blocks rs ++ gate ∷ tail in
      let f = front_first base half p.front p.is_front in
      let whole : pre ++ body ≡ p.front ++ p.selector ∷ (p.before ++ body) = ap (λ (l : List ℕ). l ++ body) p.parts ∙ append_assoc p.front (p.selector ∷ p.before) body in
      subst (Switched (second base half) rs cs t) (sym whole)
      (switched_second base half p.front f rs cs t t_is spelled fit p.selector (sym p.second) p.before body p.len (omega (arith, length-append (blocks rs) (gate ∷ tail))) (record { gate = gate; tail = tail; shut = shut; parts = refl; room = room; fits = fits }))
  by_half base half pre false p long room fit =
      let body = blocks rs ++ gate ∷ tail in
      let past = take_past (blocks rs) gate tail half room in
      let b0 = take half body in
      let b1 = drop half body in
      let whole : pre ++ body ≡ p.front ++ p.selector ∷ (b0 ++ b1) =
      ap (λ (l : List ℕ). l ++ body) (p.parts ∙ ap (λ (l : List ℕ). p.front ++ p.selector ∷ l) (no_bytes p.before p.len)) ∙ append_assoc p.front (p.selector ∷ []) body ∙ ap (λ (l : List ℕ). p.front ++ p.selector ∷ l) (sym (take-append-drop half body)) in
      let len_body : half + 1 ≤ length body = omega (arith, long, length-append pre body, ap length p.parts, length-append p.front (p.selector ∷ p.before), p.is_front.len, p.len) in
      subst (Switched (first base half) rs cs t) (sym whole)
      (switched_first base half p.front p.is_front rs cs t t_is spelled fit p.selector (sym p.second) b0 b1 (omega (arith, length-take half body, len_body)) (omega (arith, length-drop half body, len_body))
      (record { gate = gate; tail = past.0; shut = shut; parts = past.1; room = room; fits = fits }))

  pub switched : (h : Halves) (pre : List ℕ) → IsPre h pre → h.base + h.half + 6 ≤ length (pre ++ (blocks rs ++ gate ∷ tail)) → length (blocks rs) < h.half → length (blocks cs) < h.half → Switched h rs cs t (pre ++ (blocks rs ++ gate ∷ tail))
  switched h pre p long room fit = by_half h.base h.half pre h.second p long room fit
