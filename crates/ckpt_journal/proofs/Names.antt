-- Texts of a record.
use Rattle.std.proofs.Common.{◌≡◌, Bool, true, false, List, ℕ, Some, None, refl, sym, ◌∙◌, ap, ◌&&◌, if◌then◌else◌, zero, suc, ◌+◌, ◌-◌, ◌<◌, [], ◌∷◌, ◌++◌, Option, arith}
use Rattle.std.proofs.lemmas.Str.{is_utf8-from_IsUtf8, IsUtf8-from_is_utf8}
use Rattle.std.specs.Prelude.{IsUtf8, option_and_then}
use Rattle.std.specs.Str.{is_utf8}
use Rattle.ckpt_journal.specs.Names.{text_read}
use Rattle.ckpt_journal.specs.Reading.{name_at, names_from}

pub text_is : (bytes : List ℕ) → IsUtf8 bytes → text_read bytes ≡ Some bytes
text_is bytes is = ap (λ b. if b then Some bytes else None) (is_utf8-from_IsUtf8 bytes is)

pub no_text : (bytes : List ℕ) → (IsUtf8 bytes → ⊥) → text_read bytes ≡ None
no_text bytes not = by_case (is_utf8 bytes) refl
  where
    by_case : (b : Bool) → is_utf8 bytes ≡ b → text_read bytes ≡ None
    by_case true is = absurd (not (IsUtf8-from_is_utf8 bytes is))
    by_case false is = ap (λ b. if b then Some bytes else None) is

pub utf8_of : (text bytes : List ℕ) → IsUtf8 bytes → bytes ≡ text → is_utf8 text ≡ true
utf8_of text bytes is same = ap is_utf8 (sym same) ∙ is_utf8-from_IsUtf8 bytes is

-- a key whose namespace is the text of these bytes
pub key_utf8 : (a b c : List ℕ) → IsUtf8 c → c ≡ a → is_utf8 b ≡ true → (is_utf8 a && is_utf8 b) ≡ true
key_utf8 a b c p q r = λ i. utf8_of a c p q i && r i

-- one name more in a list of them
module _ {A : Type 0} (reading : List ℕ → Option A) (names : List A) (rest : List ℕ) where
  one_step : (n m : ℕ) → m ≡ n + 1 → names_from reading m names rest ≡ option_and_then (λ x. names_from reading n (names ++ x.0 ∷ []) x.1) (name_at reading rest)
  one_step n zero is = absurd (omega arith)
  one_step n (suc m) is = let same : m ≡ n = omega arith in ap (λ (k : ℕ). option_and_then (λ x. names_from reading k (names ++ x.0 ∷ []) x.1) (name_at reading rest)) same

  pub next_name : (count place : ℕ) (new : List A) (x : A) (after : List ℕ) → place < count → name_at reading rest ≡ Some (x, after) → new ≡ names ++ x ∷ []
      → names_from reading (count - (place + 1)) new after ≡ names_from reading (count - place) names rest
  next_name count place new x after within is pushed =
      let step = one_step (count - (place + 1)) (count - place) (omega arith) in
      ap (λ (l : List A). names_from reading (count - (place + 1)) l after) pushed
      ∙ sym (step ∙ ap (option_and_then (λ x. names_from reading (count - (place + 1)) (names ++ x.0 ∷ []) x.1)) is)
