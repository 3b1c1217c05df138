-- A file of version 1 is moved over: at each moment the records are those from before, or those of the compacted
-- table.
use Rattle.std.proofs.Common.{◌≡◌, ◌≢◌, ◌⊎◌, inl, inr, ℕ, zero, suc, ◌+◌, ◌-◌, ◌<◌, ◌≤◌, ◌^◌, min, Bool, true, false, List, [], ◌∷◌, ◌++◌, length, get_or, take, drop, replicate, Option, Some, None, Result, Ok, Err, refl, sym, ◌∙◌, ap, subst, arith, append_assoc, append-nil, length-append, length-take, length-drop, take-append-drop, nat_lt, ◌==◌, if◌then◌else◌}
use Rattle.std.proofs.lemmas.Bool.Decides.{nat_tests}
use Rattle.std.proofs.lemmas.List.{take_at, drop_at, drop_all, drop_more, length-replicate}
use Rattle.std.proofs.lemmas.Nat.{from_be_bytes-to_be_bytes_4}
use Rattle.std.specs.Int.{w32, to_be_bytes, from_be_bytes}
use Rattle.std.specs.List.{AllByRecursion}
use Rattle.dra_ports.specs.DiskContent.{IsImage, exactly, spliced}
use Rattle.ckpt_journal.specs.Format.{Fits, blocks}
use Rattle.ckpt_journal.specs.Layout.{differs_at, is_half, layout_of, magic, number_at, with_base, with_header, with_magic}
use Rattle.ckpt_journal.specs.Plan.{move_steps, new_file, new_halves}
use Rattle.ckpt_journal.specs.Reading.{below_most, from_start, gates, laid_out, records}
use Rattle.ckpt_journal.specs.Standing.{Has}
use Rattle.ckpt_journal.specs.Steps.{Cut, Put, Safe, all_bytes, step_sure}
use Rattle.ckpt_journal.specs.declared.layout.Halves.{Halves}
use Rattle.ckpt_journal.specs.declared.layout.Layout.{Layout}
use Rattle.ckpt_journal.specs.declared.layout.Layout.TheVariants.{Single, Double}
use Rattle.ckpt_journal.specs.declared.record.Record.{Record}
use Rattle.ckpt_journal.proofs.Appends.{one_byte}
use Rattle.ckpt_journal.proofs.Halved.{first, has_pre, pre_first}
use Rattle.ckpt_journal.proofs.Header.{same_prefix}
use Rattle.ckpt_journal.proofs.LaidOut.{IsFront, IsPre, laid_pre, length-magic, past_err, past_magic}
use Rattle.ckpt_journal.proofs.Read.{gates_again}
use Rattle.ckpt_journal.proofs.Steps.{Torn, cut_short, torn}
use Rattle.ckpt_journal.proofs.Switches.{Both}

if_no : {X : Type 0} (b : Bool) (x y : X) → b ≡ false → (if b then x else y) ≡ y
if_no true x y is = absurd cc
if_no false x y is = refl

not_lt : (a b : ℕ) → b ≤ a → nat_lt a b ≡ false
not_lt a b le = grind (arith, nat_tests)

-- ---- what is read of a header and what follows it

differs_none : (rest : List ℕ) → differs_at 0 magic (magic ++ rest) ≡ None
unfolding magic
differs_none rest = refl

version_is : (v : ℕ) (rest : List ℕ) → get_or (magic ++ v ∷ rest) 11 0 ≡ v
unfolding magic
version_is v rest = refl

behind_version : (v : ℕ) (rest : List ℕ) → drop 12 (magic ++ v ∷ rest) ≡ rest
unfolding magic
behind_version v rest = refl

to_version : (v : ℕ) (rest : List ℕ) → take 12 (magic ++ v ∷ rest) ≡ magic ++ v ∷ []
unfolding magic
to_version v rest = refl

to_magic : (rest : List ℕ) → take 11 (magic ++ rest) ≡ magic
unfolding magic
to_magic rest = refl

behind_base : (v : ℕ) (b4 rest : List ℕ) → length b4 ≡ 4 → drop 16 (magic ++ v ∷ (b4 ++ rest)) ≡ rest
behind_base v b4 rest len = ap (drop 16) (sym (append_assoc magic (v ∷ b4) rest)) ∙ drop_at (magic ++ v ∷ b4) rest 16 (omega (arith, length-append magic (v ∷ b4), length-magic, len))

length-head : (v : ℕ) (rest : List ℕ) → length (magic ++ v ∷ rest) ≡ 12 + length rest
length-head v rest = omega (arith, length-append magic (v ∷ rest), length-magic)

laid_single : (v : ℕ) (b4 rest : List ℕ) → (v == 2) ≡ false → length b4 ≡ 4 → layout_of (magic ++ v ∷ (b4 ++ rest)) ≡ Ok Single
unfolding layout_of
laid_single v b4 rest is len =
    let bytes = magic ++ v ∷ (b4 ++ rest) in
    ap (λ (o : Option ℕ). with_magic o bytes) (differs_none (v ∷ (b4 ++ rest)))
    ∙ if_no (nat_lt (length bytes) 16) _ _ (not_lt _ _ (omega (arith, length-head v (b4 ++ rest), length-append b4 rest, len)))
    ∙ if_no (get_or bytes 11 0 == 2) _ _ (ap (λ (n : ℕ). n == 2) (version_is v (b4 ++ rest)) ∙ is)

-- the front of a file of version 2 that is made anew
pub front_made : (base half v : ℕ) (mid : List ℕ) → (v == 2) ≡ true → 16 + length mid ≡ base → base < 2 ^ 32 → is_half half ≡ true → half < 2 ^ 32
    → IsFront (first base half) (magic ++ v ∷ (to_be_bytes w32 base ++ (mid ++ to_be_bytes w32 half)))
unfolding number_at
front_made base half v mid version len small allowed short =
    let b4 = to_be_bytes w32 base in
    let h4 = to_be_bytes w32 half in
    let front = magic ++ v ∷ (b4 ++ (mid ++ h4)) in
    let split : front ≡ (magic ++ v ∷ (b4 ++ mid)) ++ (h4 ++ []) =
    ap (λ (l : List ℕ). magic ++ v ∷ l) (sym (append_assoc b4 mid h4)) ∙ sym (append_assoc magic (v ∷ (b4 ++ mid)) h4) ∙ ap (λ (l : List ℕ). (magic ++ v ∷ (b4 ++ mid)) ++ l) (sym (append-nil h4)) in
    let four : length b4 ≡ 4 = refl in
    let four_more : length h4 ≡ 4 = refl in
    record {
      len = omega (arith, length-head v (b4 ++ (mid ++ h4)), length-append b4 (mid ++ h4), length-append mid h4, four, four_more, len);
      same = differs_none (v ∷ (b4 ++ (mid ++ h4)));
      version = ap (λ (n : ℕ). n == 2) (version_is v (b4 ++ (mid ++ h4))) ∙ version;
      based = ap (λ (l : List ℕ). from_be_bytes w32 (take 4 l)) (behind_version v (b4 ++ (mid ++ h4))) ∙ ap (from_be_bytes w32) (take_at b4 (mid ++ h4) 4 refl) ∙ from_be_bytes-to_be_bytes_4 base small;
      halved = ap (λ (l : List ℕ). from_be_bytes w32 (take 4 (drop base l))) split
          ∙ ap (λ (l : List ℕ). from_be_bytes w32 (take 4 l)) (drop_at (magic ++ v ∷ (b4 ++ mid)) (h4 ++ []) base (omega (arith, length-head v (b4 ++ mid), length-append b4 mid, four, len)))
          ∙ ap (from_be_bytes w32) (take_at h4 [] 4 refl) ∙ from_be_bytes-to_be_bytes_4 half short;
      least = omega (arith, len);
      allowed = allowed;
    }

-- ---- a file of version 1

-- the parts of a file of version 1
pub record OldFile (bytes : List ℕ) : Type 0 where
  pub version : ℕ
  pub b4 : List ℕ
  pub other : (version == 2) ≡ false
  pub len : length b4 ≡ 4
  pub parts : bytes ≡ magic ++ version ∷ (b4 ++ drop 16 bytes)

past_single : (b : Bool) (base : ℕ) (bytes : List ℕ) → (if b then with_base base bytes else Ok Single) ≡ Ok Single → (b ≡ true → with_base base bytes ≡ Ok Single → ⊥) → b ≡ false
past_single true base bytes is never = absurd (never refl is)
past_single false base bytes is never = refl

single : Result Layout ℕ
single = Ok Single

not_double : (half base : ℕ) (b c : Bool) (e f : ℕ) (x : Halves) → (if b then (if c then Err e else Ok (Double x)) else Err f) ≡ single → ⊥
unfolding single
not_double half base true true e f x is = cc
not_double half base true false e f x is = cc
not_double half base false c e f x is = cc

never_single : (base : ℕ) (bytes : List ℕ) → with_base base bytes ≡ Ok Single → ⊥
unfolding single
never_single base bytes is =
    let first = past_err (nat_lt base 16) 12 _ Single is in
    let second = past_err (nat_lt (length bytes) (base + 4)) (length bytes) _ Single first.1 in
    let half = number_at base bytes in
    not_double half base (is_half half) (nat_lt (length bytes) (base + half + 6)) (length bytes) base _ second.1

drop_none : (n : ℕ) → drop {A = ℕ} n [] ≡ []
drop_none zero = refl
drop_none (suc n) = refl

pub drops : (n k : ℕ) (l : List ℕ) → drop k (drop n l) ≡ drop (n + k) l
drops zero k l = ap (λ (m : ℕ). drop m l) none
  where
    none : k ≡ 0 + k
    none = omega arith
drops (suc n) k [] = drop_none k ∙ sym (drop_none (suc n + k))
drops (suc n) k (x ∷ l) = drops n k l ∙ ap (λ (m : ℕ). drop m (x ∷ l)) next
  where
    next : suc (n + k) ≡ suc n + k
    next = omega arith

next_four : (bytes : List ℕ) → drop 4 (drop 12 bytes) ≡ drop 16 bytes
next_four bytes = drops 12 4 bytes

pub old_file : (bytes : List ℕ) → layout_of bytes ≡ Ok Single → OldFile bytes
unfolding layout_of
old_file bytes is =
    let first = past_magic (differs_at 0 magic bytes) bytes Single is in
    let second = past_err (nat_lt (length bytes) 16) (length bytes) _ Single first.1 in
    let other = past_single (get_or bytes 11 0 == 2) (number_at 12 bytes) bytes second.1 (λ _ e. never_single (number_at 12 bytes) bytes e) in
    let long : 16 ≤ length bytes = lt_false (length bytes) 16 second.0 in
    let lead : bytes ≡ magic ++ drop 11 bytes = same_prefix magic bytes 0 first.0 ∙ ap (λ (n : ℕ). magic ++ drop n bytes) length-magic in
    let rest = drop 12 bytes in
    record {
      version = get_or bytes 11 0;
      b4 = take 4 rest;
      other = other;
      len = omega (arith, length-take 4 rest, length-drop 12 bytes, long);
      parts = lead ∙ ap (λ (l : List ℕ). magic ++ l) (drop_more bytes 11 0 (omega (arith, long)))
          ∙ ap (λ (l : List ℕ). magic ++ get_or bytes 11 0 ∷ l) (sym (take-append-drop 4 rest) ∙ ap (λ (l : List ℕ). take 4 rest ++ l) (next_four bytes));
    }
  where
    lt_false : (a b : ℕ) → nat_lt a b ≡ false → b ≤ a
    lt_false a b is = grind (arith, nat_tests)

-- the records of a file of version 1
pub has_single : (rs : List Record) (bytes : List ℕ) (gate : ℕ) (tail : List ℕ) → layout_of bytes ≡ Ok Single → drop 16 bytes ≡ blocks rs ++ gate ∷ tail → AllByRecursion Fits rs → gate ≢ 90 → 16 + length (blocks rs) ≤ 67108863 → Has rs bytes
unfolding records
has_single rs bytes gate tail laid behind fits shut below =
    ap (laid_out bytes) laid
    ∙ ap (λ (l : List ℕ). below_most Single (from_start 16 (gates l))) behind
    ∙ ap (λ (r : Result (List Record) ℕ). below_most Single (from_start 16 r)) (gates_again rs gate tail fits shut)
    ∙ if_no (nat_lt 67108863 (16 + length (blocks rs))) _ _ (not_lt _ _ below)

pub record Moved (rs cs : List Record) (base half : ℕ) (t bytes : List ℕ) : Type 0 where
  pub safe : Safe (Both rs cs) (move_steps base (new_halves half t)) bytes
  pub pre : List ℕ
  pub is_pre : IsPre (first base half) pre
  pub rest : List ℕ
  pub left : all_bytes (move_steps base (new_halves half t)) bytes ≡ pre ++ (blocks cs ++ 0 ∷ rest)
  pub long : base + half + 6 ≤ length (pre ++ (blocks cs ++ 0 ∷ rest))

module _ (rs cs : List Record) (fits : AllByRecursion Fits rs) (spelled : AllByRecursion Fits cs) (base half : ℕ) (base_is : base ≡ 17 + length (blocks rs)) (below : base ≤ 67108864) (gate : ℕ) (shut : gate ≢ 90) (t : List ℕ) (t_is : t ≡ blocks cs ++ 0 ∷ [])
    (allowed : is_half half ≡ true) (fit : length (blocks cs) < half) (most : half ≤ 134217728) where
  abbrev body : List ℕ → List ℕ
  body rest = blocks rs ++ gate ∷ rest

  has_old : (v : ℕ) (b4 rest : List ℕ) → (v == 2) ≡ false → length b4 ≡ 4 → Has rs (magic ++ v ∷ (b4 ++ body rest))
  unfolding records
  has_old v b4 rest other len =
      ap (laid_out (magic ++ v ∷ (b4 ++ body rest))) (laid_single v b4 (body rest) other len)
      ∙ ap (λ (l : List ℕ). below_most Single (from_start 16 (gates l))) (behind_base v b4 (body rest) len)
      ∙ ap (λ (r : Result (List Record) ℕ). below_most Single (from_start 16 r)) (gates_again rs gate rest fits shut)
      ∙ if_no (nat_lt 67108863 (16 + length (blocks rs))) _ _ (not_lt _ _ (omega (arith, base_is, below)))

  abbrev halves : List ℕ
  halves = new_halves half t

  abbrev b4_new : List ℕ
  b4_new = to_be_bytes w32 base

  abbrev h4 : List ℕ
  h4 = to_be_bytes w32 half

  abbrev zeros : List ℕ
  zeros = replicate (half + 1 - length t) 0

  abbrev mid : List ℕ
  mid = blocks rs ++ gate ∷ []

  length-mid : 16 + length mid ≡ base
  length-mid = omega (arith, length-append (blocks rs) (gate ∷ []), base_is)

  length-t : length t ≡ length (blocks cs) + 1
  length-t = omega (arith, ap length t_is, length-append (blocks cs) (0 ∷ []))

  -- a file of version 2, whatever stands at its end
  new_front : (v : ℕ) → List ℕ
  new_front v = magic ++ v ∷ (b4_new ++ (mid ++ h4))

  new_parts : (v : ℕ) (more : List ℕ) → magic ++ v ∷ (b4_new ++ body (halves ++ more)) ≡ (new_front v ++ 0 ∷ []) ++ (blocks cs ++ 0 ∷ (zeros ++ more))
  unfolding new_front
  new_parts v more =
      let tail = blocks cs ++ 0 ∷ (zeros ++ more) in
      let table_is : (t ++ zeros) ++ more ≡ tail = append_assoc t zeros more ∙ ap (λ (l : List ℕ). l ++ (zeros ++ more)) t_is ∙ append_assoc (blocks cs) (0 ∷ []) (zeros ++ more) in
      let halves_are : halves ++ more ≡ h4 ++ 0 ∷ tail = append_assoc h4 (0 ∷ (t ++ zeros)) more ∙ ap (λ (l : List ℕ). h4 ++ 0 ∷ l) table_is in
      let body_is : body (halves ++ more) ≡ (mid ++ h4) ++ 0 ∷ tail =
      sym (append_assoc (blocks rs) (gate ∷ []) (halves ++ more)) ∙ ap (λ (l : List ℕ). mid ++ l) halves_are ∙ sym (append_assoc mid h4 (0 ∷ tail)) in
      ap (λ (l : List ℕ). magic ++ v ∷ (b4_new ++ l)) body_is
      ∙ ap (λ (l : List ℕ). magic ++ v ∷ l) (sym (append_assoc b4_new (mid ++ h4) (0 ∷ tail)))
      ∙ sym (append_assoc magic (v ∷ (b4_new ++ (mid ++ h4))) (0 ∷ tail))
      ∙ sym (append_assoc (new_front v) (0 ∷ []) tail)

  is_front : (v : ℕ) → (v == 2) ≡ true → IsFront (first base half) (new_front v)
  unfolding new_front
  is_front v is = front_made base half v mid is length-mid (omega (arith, below)) allowed (omega (arith, most))

  new_long : (v : ℕ) (more : List ℕ) → (v == 2) ≡ true → base + half + 6 ≤ length ((new_front v ++ 0 ∷ []) ++ (blocks cs ++ 0 ∷ (zeros ++ more)))
  new_long v more is =
      let f = is_front v is in
      omega (arith, length-append (new_front v ++ 0 ∷ []) (blocks cs ++ 0 ∷ (zeros ++ more)), length-append (new_front v) (0 ∷ []), length-append (blocks cs) (0 ∷ (zeros ++ more)), length-append zeros more, f.len, length-replicate {A = ℕ} (half + 1 - length t) 0, length-t, fit)

  has_new : (v : ℕ) (more : List ℕ) → (v == 2) ≡ true → Has cs (magic ++ v ∷ (b4_new ++ body (halves ++ more)))
  has_new v more is =
      subst (Has cs) (sym (new_parts v more))
      (has_pre (first base half) (new_front v ++ 0 ∷ []) cs 0 (zeros ++ more) (pre_first base half (new_front v) 0 (is_front v is) refl) (new_long v more is) fit spelled (omega arith))

  old : (image : List ℕ) → Has rs image → Both rs cs image
  unfolding Both
  old image has = inl has

  new : (image : List ℕ) → Has cs image → Both rs cs image
  unfolding Both
  new image has = inr has

  by_version : (v : ℕ) (more : List ℕ) (b : Bool) → (v == 2) ≡ b → Both rs cs (magic ++ v ∷ (b4_new ++ body (halves ++ more)))
  by_version v more true is = new _ (has_new v more is)
  by_version v more false is = old _ (has_old v b4_new (halves ++ more) is refl)

  module _ (v : ℕ) (b4 tail : List ℕ) (other : (v == 2) ≡ false) (len : length b4 ≡ 4) where
    abbrev bytes : List ℕ
    bytes = magic ++ v ∷ (b4 ++ body tail)

    abbrev a : List ℕ
    a = magic ++ v ∷ (b4 ++ mid)

    length-a : length a ≡ base
    length-a = omega (arith, length-head v (b4 ++ mid), length-append b4 mid, len, length-mid)

    behind_a : (rest : List ℕ) → a ++ rest ≡ magic ++ v ∷ (b4 ++ body rest)
    behind_a rest = append_assoc magic (v ∷ (b4 ++ mid)) rest ∙ ap (λ (l : List ℕ). magic ++ v ∷ l) (append_assoc b4 mid rest ∙ ap (λ (l : List ℕ). b4 ++ l) (append_assoc (blocks rs) (gate ∷ []) rest))

    old_here : (rest : List ℕ) → Has rs (a ++ rest)
    old_here rest = subst (Has rs) (sym (behind_a rest)) (has_old v b4 rest other len)

    to_a : (rest : List ℕ) → take base (magic ++ v ∷ (b4 ++ body rest)) ≡ a
    to_a rest = ap (take base) (sym (behind_a rest)) ∙ take_at a rest base length-a

    -- what is cut
    cut_torn : (image : List ℕ) → IsImage (step_sure (Cut base) (exactly bytes)) image → Has rs image
    cut_torn image is = let x = cut_short base bytes image is in subst (Has rs) (sym (x.1 ∙ ap (λ (l : List ℕ). l ++ x.0) (to_a tail))) (old_here x.0)

    -- what is written behind it
    halves_torn : (image : List ℕ) → IsImage (step_sure (Put base halves) (exactly a)) image → Has rs image
    halves_torn image is =
        let x = torn base (length halves) a image (omega (arith, length-a)) is in
        let more = x.mid ++ (drop (base + length halves) a ++ x.more) in
        subst (Has rs) (sym (x.parts ∙ ap (λ (l : List ℕ). l ++ more) (ap (take base) (sym (append-nil a)) ∙ take_at a [] base length-a))) (old_here more)

    with_halves : spliced base halves a ≡ a ++ halves
    with_halves =
        (λ i. (ap (take base) (sym (append-nil a)) ∙ take_at a [] base length-a) i ++ halves ++ drop_all (base + length halves) a (omega (arith, length-a)) i) ∙ append-nil (a ++ halves)

    abbrev body_new : List ℕ
    body_new = body halves

    -- the base
    base_torn : (image : List ℕ) → IsImage (step_sure (Put 12 b4_new) (exactly (magic ++ v ∷ (b4 ++ body_new)))) image → Has rs image
    base_torn image is =
        let all = magic ++ v ∷ (b4 ++ body_new) in
        let x = torn 12 (length b4_new) all image (omega (arith, length-head v (b4 ++ body_new))) is in
        let four : length x.mid ≡ 4 = omega (arith, x.len, length-head v (b4 ++ body_new), length-append b4 body_new, len) in
        let whole : image ≡ magic ++ v ∷ (x.mid ++ body (halves ++ x.more)) =
        x.parts
        ∙ (λ i. to_version v (b4 ++ body_new) i ++ (x.mid ++ (behind_base v b4 body_new len i ++ x.more)))
        ∙ append_assoc magic (v ∷ []) (x.mid ++ (body_new ++ x.more))
        ∙ ap (λ (l : List ℕ). magic ++ v ∷ (x.mid ++ l)) (append_assoc (blocks rs) (gate ∷ halves) x.more) in
        subst (Has rs) (sym whole) (has_old v x.mid (halves ++ x.more) other four)

    with_base_new : spliced 12 b4_new (magic ++ v ∷ (b4 ++ body_new)) ≡ magic ++ v ∷ (b4_new ++ body_new)
    with_base_new =
        (λ i. to_version v (b4 ++ body_new) i ++ b4_new ++ behind_base v b4 body_new len i)
        ∙ append_assoc (magic ++ v ∷ []) b4_new body_new ∙ append_assoc magic (v ∷ []) (b4_new ++ body_new)

    -- the version
    version_torn : (image : List ℕ) → IsImage (step_sure (Put 11 (2 ∷ [])) (exactly (magic ++ v ∷ (b4_new ++ body_new)))) image → Both rs cs image
    version_torn image is =
        let all = magic ++ v ∷ (b4_new ++ body_new) in
        let x = torn 11 1 all image (omega (arith, length-head v (b4_new ++ body_new))) is in
        let one = one_byte x.mid (omega (arith, x.len, length-head v (b4_new ++ body_new))) in
        let whole : image ≡ magic ++ one.0 ∷ (b4_new ++ body (halves ++ x.more)) =
        x.parts
        ∙ (λ i. to_magic (v ∷ (b4_new ++ body_new)) i ++ (one.1 i ++ (behind_version v (b4_new ++ body_new) i ++ x.more)))
        ∙ ap (λ (l : List ℕ). magic ++ one.0 ∷ l) (append_assoc b4_new body_new x.more ∙ ap (λ (l : List ℕ). b4_new ++ l) (append_assoc (blocks rs) (gate ∷ halves) x.more)) in
        subst (Both rs cs) (sym whole) (by_version one.0 x.more (one.0 == 2) refl)

    with_version : spliced 11 (2 ∷ []) (magic ++ v ∷ (b4_new ++ body_new)) ≡ magic ++ 2 ∷ (b4_new ++ body_new)
    with_version =
        (λ i. to_magic (v ∷ (b4_new ++ body_new)) i ++ (2 ∷ []) ++ behind_version v (b4_new ++ body_new) i) ∙ append_assoc magic (2 ∷ []) (b4_new ++ body_new)

    no_more : (n : ℕ) → magic ++ n ∷ (b4_new ++ body (halves ++ [])) ≡ magic ++ n ∷ (b4_new ++ body_new)
    no_more n = ap (λ (l : List ℕ). magic ++ n ∷ (b4_new ++ body l)) (append-nil halves)

    moved_at : Moved rs cs base half t bytes
    moved_at = record {
      safe = (
        old bytes (has_old v b4 tail other len),
        (λ image is. old image (cut_torn image is)),
        subst (Safe (Both rs cs) (Put base halves ∷ Put 12 b4_new ∷ Put 11 (2 ∷ []) ∷ [])) (sym (to_a tail)) (
          old a (subst (Has rs) (append-nil a) (old_here [])),
          (λ image is. old image (halves_torn image is)),
          subst (Safe (Both rs cs) (Put 12 b4_new ∷ Put 11 (2 ∷ []) ∷ [])) (sym (with_halves ∙ behind_a halves)) (
            old _ (has_old v b4 halves other len),
            (λ image is. old image (base_torn image is)),
            subst (Safe (Both rs cs) (Put 11 (2 ∷ []) ∷ [])) (sym with_base_new) (
              subst (Both rs cs) (no_more v) (by_version v [] (v == 2) refl),
              (λ image is. version_torn image is),
              subst (Both rs cs) (sym with_version) (subst (Both rs cs) (no_more 2) (by_version 2 [] true refl)),
            ),
          ),
        ),
      );
      pre = new_front 2 ++ 0 ∷ [];
      is_pre = pre_first base half (new_front 2) 0 (is_front 2 refl) refl;
      rest = zeros ++ [];
      left = ap (λ (l : List ℕ). spliced 11 (2 ∷ []) (spliced 12 b4_new (spliced base halves l))) (to_a tail)
          ∙ ap (λ (l : List ℕ). spliced 11 (2 ∷ []) (spliced 12 b4_new l)) (with_halves ∙ behind_a halves)
          ∙ ap (λ (l : List ℕ). spliced 11 (2 ∷ []) l) with_base_new ∙ with_version ∙ sym (no_more 2) ∙ new_parts 2 [];
      long = new_long 2 [] refl;
    }

  pub moved : (bytes tail : List ℕ) → layout_of bytes ≡ Ok Single → drop 16 bytes ≡ blocks rs ++ gate ∷ tail → Moved rs cs base half t bytes
  moved bytes tail laid behind =
      let o = old_file bytes laid in
      let whole : bytes ≡ magic ++ o.version ∷ (o.b4 ++ body tail) = o.parts ∙ ap (λ (l : List ℕ). magic ++ o.version ∷ (o.b4 ++ l)) behind in
      subst (Moved rs cs base half t) (sym whole) (moved_at o.version o.b4 tail o.other o.len)

-- ---- a new file

rep_more : (n : ℕ) → replicate {A = ℕ} (n + 1) 0 ≡ 0 ∷ replicate n 0
rep_more n = ap (λ (m : ℕ). replicate m 0) next
  where
    next : n + 1 ≡ suc n
    next = omega arith

pub new_has_none : (half : ℕ) (rest : List ℕ) → is_half half ≡ true → half ≤ 134217728 → 0 < half → Has [] (new_file half ++ rest)
new_has_none half rest allowed most some =
    let front = magic ++ 2 ∷ (to_be_bytes w32 16 ++ ([] ++ to_be_bytes w32 half)) in
    let f = front_made 16 half 2 [] refl refl (omega arith) allowed (omega (arith, most)) in
    let h4 = to_be_bytes w32 half in
    let zeros = replicate {A = ℕ} (half + 1) 0 in
    let tail = replicate {A = ℕ} half 0 ++ rest in
    let whole : new_file half ++ rest ≡ (front ++ 0 ∷ []) ++ (0 ∷ tail) =
    append_assoc magic (2 ∷ (to_be_bytes w32 16 ++ (h4 ++ 0 ∷ zeros))) rest
    ∙ ap (λ (l : List ℕ). magic ++ 2 ∷ l) (append_assoc (to_be_bytes w32 16) (h4 ++ 0 ∷ zeros) rest ∙ ap (λ (l : List ℕ). to_be_bytes w32 16 ++ l) (append_assoc h4 (0 ∷ zeros) rest ∙ ap (λ (l : List ℕ). h4 ++ 0 ∷ (l ++ rest)) (rep_more half))
    ∙ sym (append_assoc (to_be_bytes w32 16) h4 (0 ∷ 0 ∷ tail)))
    ∙ sym (append_assoc magic (2 ∷ (to_be_bytes w32 16 ++ h4)) (0 ∷ 0 ∷ tail))
    ∙ sym (append_assoc front (0 ∷ []) (0 ∷ tail)) in
    subst (Has []) (sym whole)
    (has_pre (first 16 half) (front ++ 0 ∷ []) [] 0 tail (pre_first 16 half front 0 f refl)
    (omega (arith, length-append (front ++ 0 ∷ []) (0 ∷ tail), length-append front (0 ∷ []), f.len, length-append (replicate {A = ℕ} half 0) rest, length-replicate {A = ℕ} half 0)) some tt (omega arith))

-- and its halves
pub new_is_laid : (half : ℕ) (rest : List ℕ) → is_half half ≡ true → half ≤ 134217728 → 0 < half → layout_of (new_file half ++ rest) ≡ Ok (Double (first 16 half))
new_is_laid half rest allowed most some =
    let front = magic ++ 2 ∷ (to_be_bytes w32 16 ++ ([] ++ to_be_bytes w32 half)) in
    let f = front_made 16 half 2 [] refl refl (omega arith) allowed (omega (arith, most)) in
    let h4 = to_be_bytes w32 half in
    let zeros = replicate {A = ℕ} (half + 1) 0 in
    let tail = replicate {A = ℕ} half 0 ++ rest in
    let whole : new_file half ++ rest ≡ (front ++ 0 ∷ []) ++ (0 ∷ tail) =
    append_assoc magic (2 ∷ (to_be_bytes w32 16 ++ (h4 ++ 0 ∷ zeros))) rest
    ∙ ap (λ (l : List ℕ). magic ++ 2 ∷ l) (append_assoc (to_be_bytes w32 16) (h4 ++ 0 ∷ zeros) rest ∙ ap (λ (l : List ℕ). to_be_bytes w32 16 ++ l) (append_assoc h4 (0 ∷ zeros) rest ∙ ap (λ (l : List ℕ). h4 ++ 0 ∷ (l ++ rest)) (rep_more half))
    ∙ sym (append_assoc (to_be_bytes w32 16) h4 (0 ∷ 0 ∷ tail)))
    ∙ sym (append_assoc magic (2 ∷ (to_be_bytes w32 16 ++ h4)) (0 ∷ 0 ∷ tail))
    ∙ sym (append_assoc front (0 ∷ []) (0 ∷ tail)) in
    ap layout_of whole
    ∙ laid_pre (first 16 half) (front ++ 0 ∷ []) (0 ∷ tail) (pre_first 16 half front 0 f refl)
    (omega (arith, length-append (front ++ 0 ∷ []) (0 ∷ tail), length-append front (0 ∷ []), f.len, length-append (replicate {A = ℕ} half 0) rest, length-replicate {A = ℕ} half 0))
