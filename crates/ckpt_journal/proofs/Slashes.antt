-- A text that is read as a key or as a device id is its printed form.
use Rattle.std.proofs.Common.{◌≡◌, ◌≢◌, ◌⊎◌, inl, inr, ℕ, ◌+◌, ◌-◌, ◌<◌, nat_lt, Bool, true, false, List, [], ◌∷◌, ◌++◌, length, get_or, take, drop, Option, Some, None, refl, sym, ◌∙◌, ap, arith, append_assoc, length-append, length-drop, take-append-drop, if◌then◌else◌}
use Rattle.std.proofs.lemmas.Bool.{cases_eq}
use Rattle.std.proofs.lemmas.Bool.Decides.{nat_tests}
use Rattle.std.proofs.lemmas.List.{drop_more, get_or_at, get_or-drop, drop-drop, length-take}
use Rattle.std.specs.Prelude.{option_and_then, option_map}
use Rattle.std.specs.Str.{is_utf8}
use Rattle.object_fields.specs.Keys.{device_text, joined, key_text}
use Rattle.object_fields.specs.declared.key.DeviceId.{DeviceId}
use Rattle.object_fields.specs.declared.key.Key.{Key}
use Rattle.ckpt_journal.specs.Names.{by_both, by_first, device_made, device_read, first_slash_from, key_made, key_read, last_slash_from, text_read}

-- the slash at n, the first of the bytes being at this offset
pub record Cut (at n : ℕ) (bytes : List ℕ) : Type 0 where
  pub before : List ℕ
  pub after : List ℕ
  pub parts : bytes ≡ before ++ 47 ∷ after
  pub place : n ≡ at + length before

some_nat : (x y : ℕ) → Some x ≡ Some y → x ≡ y
some_nat x y is = cc

farther : (at n b : ℕ) (bytes : List ℕ) → Cut (at + 1) n bytes → Cut at n (b ∷ bytes)
farther at n b bytes cut = record { before = b ∷ cut.before; after = cut.after; parts = ap (λ l. b ∷ l) cut.parts; place = omega (arith, cut.place) }

here : (at n b : ℕ) (bytes : List ℕ) → b ≡ 47 → at ≡ n → Cut at n (b ∷ bytes)
here at n b bytes is place = record { before = []; after = bytes; parts = ap (λ c. c ∷ bytes) is; place = omega (arith, place) }

first_cut : (at n : ℕ) (bytes : List ℕ) → first_slash_from at bytes ≡ Some n → Cut at n bytes
first_cut at n [] is = absurd cc
first_cut at n (b ∷ bytes) is = elim (cases_eq b 47) [
  | inl slash ↦ here at n b bytes slash (some_nat at n (sym (found slash) ∙ is))
  | inr other ↦ farther at n b bytes (first_cut (at + 1) n bytes (sym (goes_on other) ∙ is))
]
  where
    found : b ≡ 47 → first_slash_from at (b ∷ bytes) ≡ Some at
    found slash = grind (arith, nat_tests)

    goes_on : b ≢ 47 → first_slash_from at (b ∷ bytes) ≡ first_slash_from (at + 1) bytes
    goes_on other = grind (arith, nat_tests)

last_cut : (at n : ℕ) (found : Option ℕ) (bytes : List ℕ) → last_slash_from at found bytes ≡ Some n → (found ≡ Some n) ⊎ Cut at n bytes
last_cut at n found [] is = inl is
last_cut at n found (b ∷ bytes) is = elim (cases_eq b 47) [
  | inl slash ↦ elim (last_cut (at + 1) n (Some at) bytes (sym (taken slash) ∙ is)) [
    | inl same ↦ inr (here at n b bytes slash (some_nat at n same))
    | inr cut ↦ inr (farther at n b bytes cut)
  ]
  | inr other ↦ elim (last_cut (at + 1) n found bytes (sym (kept other) ∙ is)) [
    | inl same ↦ inl same
    | inr cut ↦ inr (farther at n b bytes cut)
  ]
]
  where
    taken : b ≡ 47 → last_slash_from at found (b ∷ bytes) ≡ last_slash_from (at + 1) (Some at) bytes
    taken slash = grind (arith, nat_tests)

    kept : b ≢ 47 → last_slash_from at found (b ∷ bytes) ≡ last_slash_from (at + 1) found bytes
    kept other = grind (arith, nat_tests)

-- a slash at this offset of the bytes
pub record IsSlash (n : ℕ) (bytes : List ℕ) : Type 0 where
  pub within : n < length bytes
  pub byte : get_or bytes n 0 ≡ 47

slash_of : (n : ℕ) (bytes : List ℕ) → Cut 0 n bytes → IsSlash n bytes
slash_of n bytes cut = record {
  within = omega (arith, cut.place, ap length cut.parts, length-append cut.before (47 ∷ cut.after));
  byte = ap (λ (l : List ℕ). get_or l n 0) cut.parts ∙ get_or_at cut.before 47 cut.after 0 n (omega (arith, cut.place));
}

first_slash : (n : ℕ) (bytes : List ℕ) → first_slash_from 0 bytes ≡ Some n → IsSlash n bytes
first_slash n bytes is = slash_of n bytes (first_cut 0 n bytes is)

last_slash : (n : ℕ) (bytes : List ℕ) → last_slash_from 0 None bytes ≡ Some n → IsSlash n bytes
last_slash n bytes is = elim (last_cut 0 n None bytes is) [
  | inl none ↦ absurd (cc none)
  | inr cut ↦ slash_of n bytes cut
]

-- the bytes round a slash
round : (n : ℕ) (bytes : List ℕ) → IsSlash n bytes → bytes ≡ take n bytes ++ 47 ∷ drop (n + 1) bytes
round n bytes s = sym (take-append-drop n bytes) ∙ ap (λ l. take n bytes ++ l) (drop_more bytes n 0 s.within ∙ ap (λ c. c ∷ drop (n + 1) bytes) s.byte)

text_same : (t u : List ℕ) → text_read t ≡ Some u → u ≡ t
text_same t u is = by_case (is_utf8 t) is
  where
    by_case : (b : Bool) → (if b then Some t else None) ≡ Some u → u ≡ t
    by_case true e = cc
    by_case false e = absurd cc

pub text_printed : (t u : List ℕ) → text_read t ≡ Some u → u ≡ t
text_printed t u is = text_same t u is

-- ---- keys

key_parts : (namespace name : List ℕ) (k : Key) → key_made namespace name ≡ Some k → (k.namespace ≡ namespace) × (k.name ≡ name)
key_parts namespace name k is = go (text_read namespace) (text_read name) (λ u e. text_same namespace u e) (λ u e. text_same name u e) is
  where
    one : (x y : Key) → Some x ≡ Some y → x ≡ y
    one x y e = cc

    go : (a b : Option (List ℕ)) → ((u : List ℕ) → a ≡ Some u → u ≡ namespace) → ((u : List ℕ) → b ≡ Some u → u ≡ name)
        → option_and_then (λ x. option_map (λ y. record { namespace = x; name = y }) b) a ≡ Some k → (k.namespace ≡ namespace) × (k.name ≡ name)
    go None b p q e = absurd cc
    go (Some x) None p q e = absurd cc
    go (Some x) (Some y) p q e =
        let same : record { namespace = x; name = y } ≡ k = one (record { namespace = x; name = y }) k e in
        (ap (λ (z : Key). z.namespace) (sym same) ∙ p x refl, ap (λ (z : Key). z.name) (sym same) ∙ q y refl)

key_text_of : (namespace name : List ℕ) (k : Key) → key_made namespace name ≡ Some k → key_text k ≡ joined namespace name
key_text_of namespace name k is = let p = key_parts namespace name k is in λ i. joined (p.0 i) (p.1 i)

joined_some : (namespace name : List ℕ) → 0 < length namespace → joined namespace name ≡ namespace ++ 47 ∷ name
joined_some [] name some = absurd (omega arith)
joined_some (b ∷ bs) name some = append_assoc (b ∷ bs) (47 ∷ []) name

pub key_printed : (text : List ℕ) (k : Key) → key_read text ≡ Some k → key_text k ≡ text
key_printed text k is = go (first_slash_from 0 text) refl is
  where
    at_slash : (n : ℕ) → first_slash_from 0 text ≡ Some n → n ≢ 0 → key_made (take n text) (drop (n + 1) text) ≡ Some k → key_text k ≡ text
    at_slash n there some e =
        let s = first_slash n text there in
        key_text_of (take n text) (drop (n + 1) text) k e
        ∙ joined_some (take n text) (drop (n + 1) text) (omega (arith, length-take n text, s.within, some)) ∙ sym (round n text s)

    go : (slash : Option ℕ) → first_slash_from 0 text ≡ slash → by_first key_made text slash ≡ Some k → key_text k ≡ text
    go None there e = key_text_of [] text k e
    go (Some n) there e = elim (cases_eq n 0) [
      | inl none ↦ let stops : by_first key_made text (Some n) ≡ None = grind (arith, nat_tests) in absurd (cc (stops, e))
      | inr some ↦ let goes : by_first key_made text (Some n) ≡ key_made (take n text) (drop (n + 1) text) = grind (arith, nat_tests) in at_slash n there some (sym goes ∙ e)
    ]

-- ---- device ids

device_text_of : (driver pool device : List ℕ) (d : DeviceId) → device_made driver pool device ≡ Some d → device_text d ≡ driver ++ 47 ∷ (pool ++ 47 ∷ device)
device_text_of driver pool device d is = go (text_read driver) (text_read pool) (text_read device) (λ u e. text_same driver u e) (λ u e. text_same pool u e) (λ u e. text_same device u e) is
  where
    one : (x y : DeviceId) → Some x ≡ Some y → x ≡ y
    one x y e = cc

    laid : (x y z : List ℕ) → x ++ 47 ∷ [] ++ y ++ 47 ∷ [] ++ z ≡ x ++ 47 ∷ (y ++ 47 ∷ z)
    laid x y z = append_assoc (x ++ 47 ∷ [] ++ y) (47 ∷ []) z ∙ append_assoc (x ++ 47 ∷ []) y (47 ∷ z) ∙ append_assoc x (47 ∷ []) (y ++ 47 ∷ z)

    go : (a b c : Option (List ℕ)) → ((u : List ℕ) → a ≡ Some u → u ≡ driver) → ((u : List ℕ) → b ≡ Some u → u ≡ pool) → ((u : List ℕ) → c ≡ Some u → u ≡ device)
        → option_and_then (λ x. option_and_then (λ y. option_map (λ z. record { driver = x; pool = y; device = z }) c) b) a ≡ Some d → device_text d ≡ driver ++ 47 ∷ (pool ++ 47 ∷ device)
    go None b c p q r e = absurd cc
    go (Some x) None c p q r e = absurd cc
    go (Some x) (Some y) None p q r e = absurd cc
    go (Some x) (Some y) (Some z) p q r e =
        let same = one (record { driver = x; pool = y; device = z }) d e in
        ap device_text (sym same) ∙ laid x y z ∙ (λ i. p x refl i ++ 47 ∷ (q y refl i ++ 47 ∷ r z refl i))

module _ (text : List ℕ) (first last : ℕ) (a : IsSlash first text) (b : IsSlash last text) (order : first < last) where
  abbrev rest : List ℕ
  rest = drop (first + 1) text

  abbrev place : ℕ
  place = last - (first + 1)

  slash_there : IsSlash place rest
  slash_there = record {
    within = omega (arith, b.within, order, length-drop (first + 1) text);
    byte = get_or-drop (first + 1) text (last - (first + 1)) 0 ∙ ap (λ n. get_or text n 0) back ∙ b.byte;
  }
    where
      back : first + 1 + (last - (first + 1)) ≡ last
      back = omega (arith, order)

  end_is : drop (place + 1) rest ≡ drop (last + 1) text
  end_is = let same : first + 1 + (last - (first + 1) + 1) ≡ last + 1 = omega (arith, order) in drop-drop (place + 1) (first + 1) text ∙ ap (λ n. drop n text) same

  both_round : text ≡ take first text ++ 47 ∷ (take place rest ++ 47 ∷ drop (last + 1) text)
  both_round = round first text a ∙ ap (λ l. take first text ++ 47 ∷ l) (round place rest slash_there ∙ ap (λ l. take place rest ++ 47 ∷ l) end_is)

pub device_printed : (text : List ℕ) (d : DeviceId) → device_read text ≡ Some d → device_text d ≡ text
device_printed text d is = go (first_slash_from 0 text) (last_slash_from 0 None text) refl refl is
  where
    lt_true : (x y : ℕ) → nat_lt x y ≡ true → x < y
    lt_true x y e = grind (arith, nat_tests)

    by_case : (first last : ℕ) (t : Bool) → nat_lt first last ≡ t → IsSlash first text → IsSlash last text
        → (if t then device_made (take first text) (take (last - (first + 1)) (drop (first + 1) text)) (drop (last + 1) text) else None) ≡ Some d → device_text d ≡ text
    by_case first last true order a b e = device_text_of _ _ _ d e ∙ sym (both_round text first last a b (lt_true first last order))
    by_case first last false order a b e = absurd cc

    go : (first last : Option ℕ) → first_slash_from 0 text ≡ first → last_slash_from 0 None text ≡ last → by_both device_made text first last ≡ Some d → device_text d ≡ text
    go None last p q e = absurd cc
    go (Some first) None p q e = absurd cc
    go (Some first) (Some last) p q e = by_case first last (nat_lt first last) refl (first_slash first text p) (last_slash last text q) e
