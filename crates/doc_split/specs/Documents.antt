-- The documents of an input. That JSON objects follow each other with blanks between them is this
-- project's own rule; blanks, braces, strings and the backslash are those of RFC 8259.
use Rattle.std.specs.Prelude.{ℕ, zero, suc, ◌+◌, ◌-◌, ◌==◌, nat_le, ◌||◌, Bool, List, [], ◌∷◌, ◌++◌, Option, None, Some, unwrap_or, take, length, count_by, if◌then◌else◌}
use Rattle.doc_split.specs.declared.place.Place.{Place}
use Rattle.doc_split.specs.declared.place.Place.TheVariants.{Outside, Quoted, Escaped}

-- a space, a tab, a line feed or a carriage return
abbrev pub is_blank : ℕ → Bool
is_blank b = b == 32 || b == 9 || b == 10 || b == 13

-- where the byte after this one is. A quote (34) begins a string and ends it, and in a string
-- a backslash (92) escapes the next byte
abbrev pub next_place : Place → ℕ → Place
next_place Outside b = if b == 34 then Quoted else Outside
next_place Quoted b = if b == 34 then Outside else if b == 92 then Escaped else Quoted
next_place Escaped b = Quoted

-- the bytes without those inside strings
abbrev pub unquoted : Place → List ℕ → List ℕ
unquoted place [] = []
unquoted Outside (b ∷ bs) = b ∷ unquoted (next_place Outside b) bs
unquoted Quoted (b ∷ bs) = unquoted (next_place Quoted b) bs
unquoted Escaped (b ∷ bs) = unquoted (next_place Escaped b) bs

-- how often a byte occurs outside strings
abbrev pub count_outside : ℕ → List ℕ → ℕ
count_outside b bytes = count_by (λ x. x == b) (unquoted Outside bytes)

-- outside strings there are as many `{` (123) as `}` (125)
abbrev pub is_balanced : List ℕ → Bool
is_balanced bytes = count_outside 123 bytes == count_outside 125 bytes

-- the length of the shortest balanced prefix that is longer than this one
unfoldable pub balanced_after : List ℕ → List ℕ → Option ℕ
balanced_after prefix [] = None
balanced_after prefix (b ∷ bs) =
    if is_balanced (prefix ++ b ∷ []) then Some (length prefix + 1) else balanced_after (prefix ++ b ∷ []) bs

-- the length of the document that begins here: it ends where its braces are first balanced
abbrev pub document_length : List ℕ → Option ℕ
document_length bytes = balanced_after [] bytes

-- a document and its offset
pub record Document : Type 0 where
  pub at : ℕ
  pub bytes : List ℕ

-- why there are no more documents
pub data Ending : Type 0 where
  -- the input ends
  Clean : Ending
  -- it ends inside the document that begins here
  Unclosed : (at : ℕ) → Ending
  -- the byte here between documents isn't a blank, and doesn't begin a document
  Stray : (at : ℕ) → Ending
  -- the document that begins here is over its limit
  TooLong : (at : ℕ) → Ending
  -- the input is over its limit
  Long : Ending

-- documents in order, and why there are no more
pub record Documents : Type 0 where
  pub documents : List Document
  pub ending : Ending

abbrev pub nothing : Ending → Documents
nothing ending = record { documents = []; ending = ending }

-- these documents, before others
abbrev pub before : List Document → Documents → Documents
before documents others = record others { documents = documents ++ others.documents }

-- how an input ends inside a document, if a document has at most so many bytes
abbrev pub open_ending : ℕ → ℕ → List ℕ → Ending
open_ending most at bytes = if nat_le (length bytes) most then Unclosed at else TooLong at

-- the document that begins with these bytes and has so many of them, and those after it
abbrev pub add_document : ℕ → ℕ → List ℕ → Option ℕ → Documents → Documents
add_document most at bytes (Some n) others = before (record { at = at; bytes = take n bytes } ∷ []) others
add_document most at bytes None others = nothing (open_ending most at bytes)

-- the length of the document that begins here, if it has at most so many bytes
abbrev pub length_within : ℕ → List ℕ → Option ℕ
length_within most bytes = document_length (take most bytes)

-- the documents of bytes from an offset on, of which the first ones, so many, are still of the
-- document before. A document has at most so many bytes
unfoldable pub documents_from : ℕ → ℕ → ℕ → List ℕ → Documents
documents_from most skip at [] = nothing Clean
documents_from most (suc skip) at (b ∷ bs) = documents_from most skip (at + 1) bs
documents_from most zero at (b ∷ bs) =
    if is_blank b then documents_from most 0 (at + 1) bs
    else if b == 123
    then add_document most at (b ∷ bs) (length_within most (b ∷ bs)) (documents_from most (unwrap_or (length_within most (b ∷ bs)) 1 - 1) (at + 1) bs)
    else nothing (Stray at)
