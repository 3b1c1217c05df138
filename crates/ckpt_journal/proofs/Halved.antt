-- The records of a file whose live half is known.
use Rattle.std.proofs.Common.{◌≡◌, ◌≢◌, inl, inr, ℕ, zero, suc, ◌+◌, ◌-◌, ◌<◌, ◌≤◌, min, Bool, true, false, List, [], ◌∷◌, ◌++◌, length, take, drop, Ok, refl, sym, ◌∙◌, ap, subst, arith, append_assoc, append-nil, length-append, length-take, length-drop, ◌==◌, if◌then◌else◌}
use Rattle.std.proofs.lemmas.Bool.Decides.{nat_tests}
use Rattle.std.proofs.lemmas.List.{take_at, drop_at}
use Rattle.std.specs.List.{AllByRecursion}
use Rattle.ckpt_journal.specs.Format.{Fits, block, blocks}
use Rattle.ckpt_journal.specs.Layout.{layout_of, start_of}
use Rattle.ckpt_journal.specs.Reading.{from_start, gates, laid_out, records}
use Rattle.ckpt_journal.specs.Standing.{Has}
use Rattle.ckpt_journal.specs.declared.layout.Halves.{Halves}
use Rattle.ckpt_journal.specs.declared.layout.Layout.TheVariants.{Double}
use Rattle.ckpt_journal.specs.declared.record.Record.{Record}
use Rattle.ckpt_journal.proofs.LaidOut.{IsFront, IsPre, laid_pre, length-pre}
use Rattle.ckpt_journal.proofs.Read.{blocks-more, gates_again}
use Rattle.ckpt_journal.proofs.Taken.{one_more}

pub take_past : (xs : List ℕ) (y : ℕ) (ys : List ℕ) (n : ℕ) → length xs < n → (rest : List ℕ) × (take n (xs ++ y ∷ ys) ≡ xs ++ y ∷ rest)
take_past [] y ys zero lt = absurd (omega arith)
take_past [] y ys (suc n) lt = (take n ys, refl)
take_past (x ∷ xs) y ys zero lt = absurd (omega arith)
take_past (x ∷ xs) y ys (suc n) lt = let more = take_past xs y ys n (omega arith) in (more.0, ap (λ (l : List ℕ). x ∷ l) more.1)

pub take_one : (xs : List ℕ) (y : ℕ) (ys : List ℕ) (n : ℕ) → n ≡ length xs + 1 → take n (xs ++ y ∷ ys) ≡ xs ++ y ∷ []
take_one xs y ys n is = ap (take n) (sym (append_assoc xs (y ∷ []) ys)) ∙ take_at (xs ++ y ∷ []) ys n (omega (arith, is, length-append xs (y ∷ [])))

pub drop_one : (xs : List ℕ) (y : ℕ) (ys : List ℕ) (n : ℕ) → n ≡ length xs + 1 → drop n (xs ++ y ∷ ys) ≡ ys
drop_one xs y ys n is = ap (drop n) (sym (append_assoc xs (y ∷ []) ys)) ∙ drop_at (xs ++ y ∷ []) ys n (omega (arith, is, length-append xs (y ∷ [])))

pub has_double : (h : Halves) (bytes : List ℕ) (rs : List Record) (gate : ℕ) (tail : List ℕ) → layout_of bytes ≡ Ok (Double h) → drop (start_of h) bytes ≡ blocks rs ++ gate ∷ tail → length (blocks rs) < h.half
    → AllByRecursion Fits rs → gate ≢ 90 → Has rs bytes
unfolding records
has_double h bytes rs gate tail laid behind room fits shut =
    let past = take_past (blocks rs) gate tail h.half room in
    ap (laid_out bytes) laid
    ∙ ap (λ (l : List ℕ). from_start (start_of h) (gates (take h.half l))) behind
    ∙ ap (λ (l : List ℕ). from_start (start_of h) (gates l)) past.1
    ∙ ap (from_start (start_of h)) (gates_again rs gate past.0 fits shut)

pub has_pre : (h : Halves) (pre : List ℕ) (rs : List Record) (gate : ℕ) (tail : List ℕ) → IsPre h pre → h.base + h.half + 6 ≤ length (pre ++ (blocks rs ++ gate ∷ tail)) → length (blocks rs) < h.half
    → AllByRecursion Fits rs → gate ≢ 90 → Has rs (pre ++ (blocks rs ++ gate ∷ tail))
has_pre h pre rs gate tail p long room fits shut =
    let rest = blocks rs ++ gate ∷ tail in
    has_double h (pre ++ rest) rs gate tail (laid_pre h pre rest p long) (drop_at pre rest (start_of h) (length-pre h pre p)) room fits shut

-- ---- both halves

abbrev pub first : ℕ → ℕ → Halves
first base half = record { base = base; half = half; second = false }

abbrev pub second : ℕ → ℕ → Halves
second base half = record { base = base; half = half; second = true }

-- a front is one whichever half is live
pub front_first : (base half : ℕ) (front : List ℕ) → IsFront (second base half) front → IsFront (first base half) front
front_first base half front f = record { len = f.len; same = f.same; version = f.version; based = f.based; halved = f.halved; least = f.least; allowed = f.allowed }

pub front_second : (base half : ℕ) (front : List ℕ) → IsFront (first base half) front → IsFront (second base half) front
front_second base half front f = record { len = f.len; same = f.same; version = f.version; based = f.based; halved = f.halved; least = f.least; allowed = f.allowed }

-- what a half has
pub record Half (rs : List Record) (half : ℕ) (bytes : List ℕ) : Type 0 where
  pub gate : ℕ
  pub tail : List ℕ
  pub shut : gate ≢ 90
  pub parts : bytes ≡ blocks rs ++ gate ∷ tail
  pub room : length (blocks rs) < half
  pub fits : AllByRecursion Fits rs

pub pre_first : (base half : ℕ) (front : List ℕ) (selector : ℕ) → IsFront (first base half) front → (selector == 90) ≡ false → IsPre (first base half) (front ++ selector ∷ [])
pre_first base half front selector f is = record { front = front; selector = selector; before = []; is_front = f; second = sym is; len = refl; parts = refl }

pub pre_second : (base half : ℕ) (front : List ℕ) (selector : ℕ) (b0 : List ℕ) → IsFront (first base half) front → (selector == 90) ≡ true → length b0 ≡ half → IsPre (second base half) (front ++ selector ∷ b0)
pre_second base half front selector b0 f is len = record { front = front; selector = selector; before = b0; is_front = front_second base half front f; second = sym is; len = len; parts = refl }

module _ (base half : ℕ) (front : List ℕ) (f : IsFront (first base half) front) (selector : ℕ) (b0 b1 : List ℕ) (len : length b0 ≡ half) (some : 0 < length b1) where
  long : base + half + 6 ≤ length (front ++ selector ∷ (b0 ++ b1))
  long = omega (arith, length-append front (selector ∷ (b0 ++ b1)), length-append b0 b1, f.len, len, some)

  pub has_second : (rs : List Record) → (selector == 90) ≡ true → Half rs half b1 → Has rs (front ++ selector ∷ (b0 ++ b1))
  has_second rs is this =
      let pre = front ++ selector ∷ b0 in
      let whole : front ++ selector ∷ (b0 ++ b1) ≡ pre ++ (blocks rs ++ this.gate ∷ this.tail) = ap (λ (l : List ℕ). front ++ selector ∷ (b0 ++ l)) this.parts ∙ sym (append_assoc front (selector ∷ b0) (blocks rs ++ this.gate ∷ this.tail)) in
      subst (Has rs) (sym whole) (has_pre (second base half) pre rs this.gate this.tail (pre_second base half front selector b0 f is len) (subst (λ (l : List ℕ). base + half + 6 ≤ length l) whole long) this.room this.fits this.shut)

  pub has_first : (rs : List Record) → (selector == 90) ≡ false → Half rs half b0 → Has rs (front ++ selector ∷ (b0 ++ b1))
  has_first rs is this =
      let pre = front ++ selector ∷ [] in
      let whole : front ++ selector ∷ (b0 ++ b1) ≡ pre ++ (blocks rs ++ this.gate ∷ (this.tail ++ b1)) =
      ap (λ (l : List ℕ). front ++ selector ∷ l) (ap (λ (l : List ℕ). l ++ b1) this.parts ∙ append_assoc (blocks rs) (this.gate ∷ this.tail) b1) ∙ sym (append_assoc front (selector ∷ []) (blocks rs ++ this.gate ∷ (this.tail ++ b1))) in
      subst (Has rs) (sym whole) (has_pre (first base half) pre rs this.gate (this.tail ++ b1) (pre_first base half front selector f is) (subst (λ (l : List ℕ). base + half + 6 ≤ length l) whole long) this.room this.fits this.shut)

  -- whichever half is live
  pub has_one : (r0 r1 : List Record) → Half r0 half b0 → Half r1 half b1 → (b : Bool) → (selector == 90) ≡ b → Has (if b then r1 else r0) (front ++ selector ∷ (b0 ++ b1))
  has_one r0 r1 x0 x1 true is = has_second r1 is x1
  has_one r0 r1 x0 x1 false is = has_first r0 is x0
