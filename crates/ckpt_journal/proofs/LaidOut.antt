-- How a file is laid out depends on its first bytes and on its length.
use Rattle.std.proofs.Common.{◌≡◌, ◌≢◌, inl, inr, ℕ, zero, suc, ◌+◌, ◌-◌, ◌<◌, ◌≤◌, Bool, true, false, List, [], ◌∷◌, ◌++◌, length, get_or, take, drop, Option, Some, None, Result, Ok, Err, ◌||◌, nat_eq, ◌^◌, refl, sym, ◌∙◌, ap, subst, arith, append_assoc, length-append, length-take, length-drop, take-append-drop, nat_lt, ◌==◌, if◌then◌else◌}
use Rattle.std.proofs.lemmas.Bool.Decides.{nat_tests}
use Rattle.std.proofs.lemmas.List.{get_or_at, get_or_append_left, take-append-le, drop-append-le, drop_at, drop_more}
use Rattle.std.specs.Int.{w32, from_be_bytes}
use Rattle.std.specs.List.{AllByRecursion, list_any}
use Rattle.ckpt_journal.specs.Layout.{IsWithin, differs_at, half_sizes, halves_at, is_half, layout_of, magic, number_at, start_of, with_base, with_half, with_header, with_magic}
use Rattle.ckpt_journal.specs.declared.layout.Halves.{Halves}
use Rattle.ckpt_journal.specs.declared.layout.Layout.{Layout}
use Rattle.ckpt_journal.specs.declared.layout.Layout.TheVariants.{Single, Double}
use Rattle.ckpt_journal.proofs.TakenBody.{IsBytes, bytes_drop, bytes_take}

if_yes : {X : Type 0} (b : Bool) (x y : X) → b ≡ true → (if b then x else y) ≡ x
if_yes true x y is = refl
if_yes false x y is = absurd cc

if_no : {X : Type 0} (b : Bool) (x y : X) → b ≡ false → (if b then x else y) ≡ y
if_no true x y is = absurd cc
if_no false x y is = refl

not_lt : (a b : ℕ) → b ≤ a → nat_lt a b ≡ false
not_lt a b le = grind (arith, nat_tests)

lt_false : (a b : ℕ) → nat_lt a b ≡ false → b ≤ a
lt_false a b is = grind (arith, nat_tests)

pub length-magic : length magic ≡ 11
unfolding magic
length-magic = refl

-- ---- what is read of the first bytes

differs_front : (at : ℕ) (ms front more : List ℕ) → length ms ≤ length front → differs_at at ms (front ++ more) ≡ differs_at at ms front
differs_front at [] front more le = refl
differs_front at (m ∷ ms) [] more le = absurd (omega arith)
differs_front at (m ∷ ms) (b ∷ front) more le = ap (λ (o : Option ℕ). if b == m then o else Some at) (differs_front (at + 1) ms front more (omega arith))

number_front : (at : ℕ) (front more : List ℕ) → at + 4 ≤ length front → number_at at (front ++ more) ≡ number_at at front
unfolding number_at
number_front at front more le =
    ap (λ (l : List ℕ). from_be_bytes w32 (take 4 l)) (drop-append-le at front more (omega arith))
    ∙ ap (from_be_bytes w32) (take-append-le 4 (drop at front) more (omega (arith, length-drop at front)))

-- all up to the selector
pub record IsFront (h : Halves) (front : List ℕ) : Type 0 where
  pub len : length front ≡ h.base + 4
  pub same : differs_at 0 magic front ≡ None
  pub version : (get_or front 11 0 == 2) ≡ true
  pub based : number_at 12 front ≡ h.base
  pub halved : number_at h.base front ≡ h.half
  pub least : 16 ≤ h.base
  pub allowed : is_half h.half ≡ true

pub laid_front : (h : Halves) (front : List ℕ) (selector : ℕ) (rest : List ℕ) → IsFront h front → h.second ≡ (selector == 90) → h.half < length rest → layout_of (front ++ selector ∷ rest) ≡ Ok (Double h)
unfolding layout_of
laid_front h front selector rest f second long =
    let more = selector ∷ rest in
    let bytes = front ++ more in
    let len : length bytes ≡ h.base + 5 + length rest = omega (arith, length-append front more, f.len) in
    let live : (get_or bytes (h.base + 4) 0 == 90) ≡ h.second = ap (λ (n : ℕ). n == 90) (get_or_at front selector rest 0 (h.base + 4) f.len) ∙ sym second in
    ap (λ (o : Option ℕ). with_magic o bytes) (differs_front 0 magic front more (omega (arith, length-magic, f.len, f.least)) ∙ f.same)
    ∙ if_no (nat_lt (length bytes) 16) _ _ (not_lt _ _ (omega (arith, len, f.least)))
    ∙ if_yes (get_or bytes 11 0 == 2) _ _ (ap (λ (n : ℕ). n == 2) (get_or_append_left front more 0 11 (omega (arith, f.len, f.least))) ∙ f.version)
    ∙ ap (λ (b : ℕ). with_base b bytes) (number_front 12 front more (omega (arith, f.len, f.least)) ∙ f.based)
    ∙ if_no (nat_lt h.base 16) _ _ (not_lt _ _ f.least)
    ∙ if_no (nat_lt (length bytes) (h.base + 4)) _ _ (not_lt _ _ (omega (arith, len)))
    ∙ ap (λ (n : ℕ). with_half h.base n bytes) (number_front h.base front more (omega (arith, f.len)) ∙ f.halved)
    ∙ if_yes (is_half h.half) _ _ f.allowed
    ∙ if_no (nat_lt (length bytes) (h.base + h.half + 6)) _ _ (not_lt _ _ (omega (arith, len, long)))
    ∙ ap (λ (b : Bool). Ok (Double (record { base = h.base; half = h.half; second = b }))) live

-- ---- what a layout says of the bytes

pub past_err : (b : Bool) (e : ℕ) (x : Result Layout ℕ) (l : Layout) → (if b then Err e else x) ≡ Ok l → (b ≡ false) × (x ≡ Ok l)
past_err true e x l is = absurd cc
past_err false e x l is = (refl, is)

past_ok : (b : Bool) (e : ℕ) (x : Result Layout ℕ) (l : Layout) → (if b then x else Err e) ≡ Ok l → (b ≡ true) × (x ≡ Ok l)
past_ok true e x l is = (refl, is)
past_ok false e x l is = absurd cc

past_version : (b : Bool) (x : Result Layout ℕ) (h : Halves) → (if b then x else Ok Single) ≡ Ok (Double h) → (b ≡ true) × (x ≡ Ok (Double h))
past_version true x h is = (refl, is)
past_version false x h is = absurd cc

pub past_magic : (o : Option ℕ) (bytes : List ℕ) (l : Layout) → with_magic o bytes ≡ Ok l → (o ≡ None) × (with_header bytes ≡ Ok l)
past_magic (Some at) bytes l is = absurd cc
past_magic None bytes l is = (refl, is)

double : Halves → Result Layout ℕ
double h = Ok (Double h)

-- a file of version 2
pub record Fronted (h : Halves) (bytes : List ℕ) : Type 0 where
  pub front : IsFront h (take (h.base + 4) bytes)
  pub long : h.base + h.half + 6 ≤ length bytes
  pub second : h.second ≡ (get_or bytes (h.base + 4) 0 == 90)

-- what is read of the whole file
pub record Headed (h : Halves) (bytes : List ℕ) : Type 0 where
  pub same : differs_at 0 magic bytes ≡ None
  pub version : (get_or bytes 11 0 == 2) ≡ true
  pub based : number_at 12 bytes ≡ h.base
  pub halved : number_at h.base bytes ≡ h.half
  pub least : 16 ≤ h.base
  pub allowed : is_half h.half ≡ true
  pub long : h.base + h.half + 6 ≤ length bytes
  pub second : h.second ≡ (get_or bytes (h.base + 4) 0 == 90)

pub headed : (h : Halves) (bytes : List ℕ) → layout_of bytes ≡ Ok (Double h) → Headed h bytes
unfolding layout_of double
headed h bytes is =
    let base = number_at 12 bytes in
    let half = number_at base bytes in
    let first = past_magic (differs_at 0 magic bytes) bytes (Double h) is in
    let second = past_err (nat_lt (length bytes) 16) (length bytes) _ (Double h) first.1 in
    let third = past_version (get_or bytes 11 0 == 2) (with_base base bytes) h second.1 in
    let fourth = past_err (nat_lt base 16) 12 _ (Double h) third.1 in
    let fifth = past_err (nat_lt (length bytes) (base + 4)) (length bytes) (with_half base half bytes) (Double h) fourth.1 in
    let sixth = past_ok (is_half half) base _ (Double h) fifth.1 in
    let last = past_err (nat_lt (length bytes) (base + half + 6)) (length bytes) _ (Double h) sixth.1 in
    let these = same_halves (halves_at base half (get_or bytes (base + 4) 0)) h last.1 in
    let base_is : base ≡ h.base = ap (λ (x : Halves). x.base) these in
    let half_is : half ≡ h.half = ap (λ (x : Halves). x.half) these in
    record {
      same = first.0;
      version = third.0;
      based = base_is;
      halved = ap (λ (n : ℕ). number_at n bytes) (sym base_is) ∙ half_is;
      least = subst (λ (n : ℕ). 16 ≤ n) base_is (lt_false base 16 fourth.0);
      allowed = ap is_half (sym half_is) ∙ sixth.0;
      long = omega (arith, base_is, half_is, lt_false (length bytes) (base + half + 6) last.0);
      second = sym (ap (λ (x : Halves). x.second) these) ∙ ap (λ (n : ℕ). get_or bytes (n + 4) 0 == 90) base_is;
    }
  where
    same_halves : (a b : Halves) → double a ≡ double b → a ≡ b
    same_halves a b e = cc

pub fronted : (h : Halves) (bytes : List ℕ) → layout_of bytes ≡ Ok (Double h) → Fronted h bytes
fronted h bytes is =
    let all = headed h bytes is in
    let front = take (h.base + 4) bytes in
    let rest = drop (h.base + 4) bytes in
    let whole : front ++ rest ≡ bytes = take-append-drop (h.base + 4) bytes in
    let len : length front ≡ h.base + 4 = omega (arith, length-take (h.base + 4) bytes, all.long) in
    record {
      front = record {
        len = len;
        same = sym (differs_front 0 magic front rest (omega (arith, length-magic, len, all.least))) ∙ ap (differs_at 0 magic) whole ∙ all.same;
        version = ap (λ (n : ℕ). n == 2) (sym (get_or_append_left front rest 0 11 (omega (arith, len, all.least))) ∙ ap (λ (l : List ℕ). get_or l 11 0) whole) ∙ all.version;
        based = sym (number_front 12 front rest (omega (arith, len, all.least))) ∙ ap (number_at 12) whole ∙ all.based;
        halved = sym (number_front h.base front rest (omega (arith, len))) ∙ ap (number_at h.base) whole ∙ all.halved;
        least = all.least;
        allowed = all.allowed;
      };
      long = all.long;
      second = all.second;
    }

-- ---- what comes before the live half

pub record IsPre (h : Halves) (pre : List ℕ) : Type 0 where
  pub front : List ℕ
  pub selector : ℕ
  pub before : List ℕ
  pub is_front : IsFront h front
  pub second : h.second ≡ (selector == 90)
  pub len : length before ≡ (if h.second then h.half else 0)
  pub parts : pre ≡ front ++ selector ∷ before

pub length-pre : (h : Halves) (pre : List ℕ) → IsPre h pre → length pre ≡ start_of h
length-pre h pre p = omega (arith, ap length p.parts, length-append p.front (p.selector ∷ p.before), p.is_front.len, p.len)

pub laid_pre : (h : Halves) (pre rest : List ℕ) → IsPre h pre → h.base + h.half + 6 ≤ length (pre ++ rest) → layout_of (pre ++ rest) ≡ Ok (Double h)
laid_pre h pre rest p long =
    let whole : pre ++ rest ≡ p.front ++ p.selector ∷ (p.before ++ rest) = ap (λ (l : List ℕ). l ++ rest) p.parts ∙ append_assoc p.front (p.selector ∷ p.before) rest in
    let more : h.half < length (p.before ++ rest) = omega (arith, long, ap length whole, length-append p.front (p.selector ∷ (p.before ++ rest)), p.is_front.len) in
    ap layout_of whole ∙ laid_front h p.front p.selector (p.before ++ rest) p.is_front p.second more

-- the bytes of a file of version 2 before its live half
pub pre_of : (h : Halves) (bytes : List ℕ) → layout_of bytes ≡ Ok (Double h) → IsPre h (take (start_of h) bytes)
pre_of h bytes is =
    let f = fronted h bytes is in
    let at = h.base + 4 in
    let selector = get_or bytes at 0 in
    let rest = drop (h.base + 5) bytes in
    let skip = if h.second then h.half else 0 in
    let skips : skip ≤ h.half = at_most h.second h.half in
    let front = take at bytes in
    let split : bytes ≡ front ++ selector ∷ rest = sym (take-append-drop at bytes) ∙ ap (λ (l : List ℕ). front ++ l) (drop_more bytes at 0 (omega (arith, f.long)) ∙ ap (λ (n : ℕ). selector ∷ drop n bytes) (next h.base)) in
    let cut : take (h.base + 5 + skip) (front ++ selector ∷ rest) ≡ front ++ selector ∷ take skip rest = take_in front selector rest (h.base + 5 + skip) skip (omega (arith, f.front.len)) in
    record {
      front = front;
      selector = selector;
      before = take skip rest;
      is_front = f.front;
      second = f.second;
      len = omega (arith, length-take skip rest, length-drop (h.base + 5) bytes, f.long, skips);
      parts = ap (take (h.base + 5 + skip)) split ∙ cut;
    }
  where
    at_most : (b : Bool) (n : ℕ) → (if b then n else 0) ≤ n
    at_most true n = omega arith
    at_most false n = omega arith

    next : (n : ℕ) → n + 4 + 1 ≡ n + 5
    next n = omega arith

    take_in : (xs : List ℕ) (y : ℕ) (ys : List ℕ) (n k : ℕ) → n ≡ length xs + 1 + k → take n (xs ++ y ∷ ys) ≡ xs ++ y ∷ take k ys
    take_in [] y ys zero k is = absurd (omega arith)
    take_in [] y ys (suc n) k is = ap (λ (m : ℕ). y ∷ take m ys) same
      where
        same : n ≡ k
        same = omega arith
    take_in (x ∷ xs) y ys zero k is = absurd (omega arith)
    take_in (x ∷ xs) y ys (suc n) k is = ap (λ (l : List ℕ). x ∷ l) (take_in xs y ys n k (omega arith))

-- ---- the numbers of a file

any_has : (P : ℕ → Type 0) (sizes : List ℕ) (n : ℕ) → AllByRecursion P sizes → list_any (λ size. nat_eq size n) sizes ≡ true → P n
any_has P [] n all is = absurd cc
any_has P (s ∷ sizes) n all is = go (nat_eq s n) refl is (λ e. any_has P sizes n all.1 e)
  where
    go : (b : Bool) → nat_eq s n ≡ b → (b || list_any (λ size. nat_eq size n) sizes) ≡ true → (list_any (λ size. nat_eq size n) sizes ≡ true → P n) → P n
    go true here e later = subst P same all.0
      where
        same : s ≡ n
        same = grind (arith, nat_tests)
    go false here e later = later e

-- from 4,096 to 134,217,728
abbrev Allowed : ℕ → Type 0
Allowed n = (4096 ≤ n) × (n ≤ 134217728)

allowed : (n : ℕ) → 4096 ≤ n → n ≤ 134217728 → Allowed n
allowed n least most = (least, most)

sizes_allowed : AllByRecursion Allowed half_sizes
sizes_allowed =
    (allowed 4096 (omega arith) (omega arith), (allowed 8192 (omega arith) (omega arith), (allowed 16384 (omega arith) (omega arith), (allowed 32768 (omega arith) (omega arith), (allowed 65536 (omega arith) (omega arith), (allowed 131072 (omega arith) (omega arith), (allowed 262144 (omega arith) (omega arith), (allowed 524288 (omega arith) (omega arith), (allowed 1048576 (omega arith) (omega arith), (allowed 2097152 (omega arith) (omega arith), (allowed 4194304 (omega arith) (omega arith), (allowed 8388608 (omega arith) (omega arith), (allowed 16777216 (omega arith) (omega arith), (allowed 33554432 (omega arith) (omega arith), (allowed 67108864 (omega arith) (omega arith), (allowed 134217728 (omega arith) (omega arith), tt))))))))))))))))

pub half_allowed : (half : ℕ) → is_half half ≡ true → (4096 ≤ half) × (half ≤ 134217728)
unfolding is_half
half_allowed half is = any_has Allowed half_sizes half sizes_allowed is

number_small : (bytes : List ℕ) → IsBytes bytes → number_at 12 bytes < 2 ^ 32
unfolding number_at
number_small bytes small =
    let s = bytes_take 4 (drop 12 bytes) (bytes_drop 12 bytes small) in
    omega (arith, s 0, s 1, s 2, s 3)

pub double_within : (bytes : List ℕ) (l : Layout) (h : Halves) → IsBytes bytes → Ok l ≡ layout_of bytes → l ≡ Double h → IsWithin h bytes
double_within bytes l h small is double_is =
    let all = headed h bytes (sym is ∙ ap (λ (x : Layout). Ok x) double_is) in
    record { sized = record { base = all.least; small = omega (arith, all.based, number_small bytes small); half = all.allowed; most = (half_allowed h.half all.allowed).1 }; long = all.long }

pub single_within : (bytes : List ℕ) (l : Layout) → Ok l ≡ layout_of bytes → l ≡ Single → 16 ≤ length bytes
unfolding layout_of
single_within bytes l is single_is =
    let whole = sym is ∙ ap (λ (x : Layout). Ok x) single_is in
    let first = past_magic (differs_at 0 magic bytes) bytes Single whole in
    let second = past_err (nat_lt (length bytes) 16) (length bytes) _ Single first.1 in
    lt_false (length bytes) 16 second.0
