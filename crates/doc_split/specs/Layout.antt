-- How documents lie in bytes, apart from how they are found.
use Rattle.std.specs.Prelude.{ℕ, ◌≡◌, ◌≤◌, ◌<◌, ◌+◌, true, false, List, [], ◌∷◌, ◌++◌, length, take}
use Rattle.std.specs.List.{list_all}
use Rattle.doc_split.specs.Documents.{Document, Ending, Clean, Unclosed, Stray, TooLong, Long, is_balanced, is_blank}

abbrev pub AreBlank : List ℕ → Type 0
AreBlank bytes = list_all is_blank bytes ≡ true

-- a brace is first
abbrev pub BeginsWithBrace : List ℕ → Type 0
BeginsWithBrace bytes = (rest : List ℕ) × (bytes ≡ 123 ∷ rest)

-- no prefix of at least one byte and fewer than so many is balanced
abbrev pub NoneBalanced : List ℕ → ℕ → Type 0
NoneBalanced bytes bound = (n : ℕ) → 0 < n → n < bound → is_balanced (take n bytes) ≡ false

-- the bytes begin with a brace and are balanced, no shorter prefix of them is, and they aren't too many
pub record IsDocument (most : ℕ) (bytes : List ℕ) : Type 0 where
  pub begins : BeginsWithBrace bytes
  pub balanced : is_balanced bytes ≡ true
  pub first : NoneBalanced bytes (length bytes)
  pub small : length bytes ≤ most

-- the document comes after blanks, at its offset, and then the rest
pub record StandsFirst (most at : ℕ) (bytes : List ℕ) (doc : Document) (rest : List ℕ) : Type 0 where
  pub gap : List ℕ
  pub is : bytes ≡ gap ++ (doc.bytes ++ rest)
  pub blank : AreBlank gap
  pub at_is : doc.at ≡ at + length gap
  pub document : IsDocument most doc.bytes

-- after blanks a document begins, which ends neither within the bytes nor within the most that it may have
pub record BeginsOne (most at : ℕ) (bytes : List ℕ) (place : ℕ) (prefix : List ℕ) : Type 0 where
  pub gap : List ℕ
  pub is : bytes ≡ gap ++ prefix
  pub blank : AreBlank gap
  pub place_is : place ≡ at + length gap
  pub begins : BeginsWithBrace prefix
  pub open_ : (n : ℕ) → 0 < n → n ≤ length prefix → n ≤ most → is_balanced (take n prefix) ≡ false

-- after blanks comes a byte that isn't a blank, and doesn't begin a document
pub record MeetsStray (at : ℕ) (bytes : List ℕ) (place : ℕ) : Type 0 where
  pub gap : List ℕ
  pub byte : ℕ
  pub rest : List ℕ
  pub is : bytes ≡ gap ++ byte ∷ rest
  pub blank : AreBlank gap
  pub place_is : place ≡ at + length gap
  pub other : is_blank byte ≡ false
  pub no_brace : byte ≡ 123 → ⊥

-- why no document comes first
abbrev pub Stops : ℕ → ℕ → List ℕ → Ending → Type 0
Stops most at bytes Clean = AreBlank bytes
Stops most at bytes (Unclosed place) = (prefix : List ℕ) × BeginsOne most at bytes place prefix × (length prefix ≤ most)
Stops most at bytes (Stray place) = MeetsStray at bytes place
Stops most at bytes (TooLong place) = (prefix : List ℕ) × BeginsOne most at bytes place prefix × (most < length prefix)
Stops most at bytes Long = ⊥

-- the bytes from an offset on are these documents in order, with blanks before each, and then this ending
abbrev pub Lie : ℕ → ℕ → List ℕ → List Document → Ending → Type 0
Lie most at bytes [] ending = Stops most at bytes ending
Lie most at bytes (doc ∷ docs) ending = (rest : List ℕ) × StandsFirst most at bytes doc rest × Lie most (doc.at + length doc.bytes) rest docs ending
