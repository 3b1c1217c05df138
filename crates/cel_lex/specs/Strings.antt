-- Strings: their quotes, their escapes, where they end and what they spell.
use Rattle.std.specs.Prelude.{ℕ, zero, suc, ◌+◌, ◌-◌, List, [], ◌∷◌, ◌++◌, drop, take, length, if◌then◌else◌, ◌==◌, ◌||◌, ◌&&◌, nat_le, not, Bool, true, false, Option, Some, None, Result, Ok, Err}
use Rattle.std.specs.Char.{encode_utf8}
use Rattle.std.specs.Str.{all_scalars}
use Rattle.cel_lex.specs.Bytes.{is_quote, is_line_end, begins, begins_with}
use Rattle.cel_lex.specs.Numbers.{number_of}
use Rattle.cel_lex.specs.declared.quotes.Quotes.{Quotes}
use Rattle.cel_lex.specs.declared.escape.Escape.{Escape}
use Rattle.cel_lex.specs.declared.part.Part.{Part}
use Rattle.cel_lex.specs.declared.part.Part.TheVariants.{Close, Plain, Escaped, Wrong, Cut}
use Rattle.cel_lex.specs.declared.token.LexError.{LexError}
use Rattle.cel_lex.specs.declared.token.LexError.TheVariants.{BadEscape, Unclosed}

-- the quotes at the start of a text, of which `before` bytes of a prefix are read
abbrev pub quotes_of : Bool → Bool → ℕ → List ℕ → Option Quotes
quotes_of bytes raw before [] = None
quotes_of bytes raw before (q ∷ cs) =
    if is_quote q
    then Some (if begins_with q cs && begins_with q (drop 1 cs)
    then record { mark = q; triple = true; bytes = bytes; raw = raw; len = before + 3 }
    else record { mark = q; triple = false; bytes = bytes; raw = raw; len = before + 1 })
    else None

abbrev pub is_bytes_mark : ℕ → Bool
is_bytes_mark c = c == 98 || c == 66

abbrev pub is_raw_mark : ℕ → Bool
is_raw_mark c = c == 114 || c == 82

-- how a string begins: perhaps `b` or `B`, perhaps `r` or `R`, and then one quote or three of a kind
unfoldable pub opening_of : List ℕ → Option Quotes
opening_of bs =
    if begins is_bytes_mark bs
    then (if begins is_raw_mark (drop 1 bs) then quotes_of true true 2 (drop 2 bs) else quotes_of true false 1 (drop 1 bs))
    else (if begins is_raw_mark bs then quotes_of false true 1 (drop 1 bs) else quotes_of false false 0 bs)

-- the character that a letter or a mark after a backslash means: `\a \b \f
-- \r \t \v \\ \? \" \' \``
abbrev pub named : ℕ → Option ℕ
named c =
    if c == 97 then Some 7
    else (if c == 98 then Some 8
    else (if c == 102 then Some 12
    else (if c == 110 then Some 10
    else (if c == 114 then Some 13
    else (if c == 116 then Some 9
    else (if c == 118 then Some 11
    else (if c == 92 || c == 63 || c == 34 || c == 39 || c == 96 then Some c
    else None)))))))

-- the escape of a number in its `count` digits, which follow `before` bytes: a Unicode scalar value
abbrev pub scalar_escape : ℕ → Option ℕ → Option Escape
scalar_escape len None = None
scalar_escape len (Some n) = if all_scalars (n ∷ []) then Some (record { character = n; len = len }) else None

abbrev pub coded : ℕ → ℕ → ℕ → List ℕ → Option Escape
coded radix count before bs = if nat_le count (length bs) then scalar_escape (before + count) (number_of radix (take count bs)) else None

-- `\xHH \XHH \uHHHH \UHHHHHHHH`, and three octal digits up to 377
abbrev pub coded_escape : ℕ → List ℕ → Option Escape
coded_escape c cs =
    if c == 120 || c == 88 then coded 16 2 2 cs
    else (if c == 117 then coded 16 4 2 cs
    else (if c == 85 then coded 16 8 2 cs
    else (if nat_le 48 c && nat_le c 51 then coded 8 3 1 (c ∷ cs)
    else None)))

abbrev pub named_or : Option ℕ → Option Escape → Option Escape
named_or (Some x) other = Some (record { character = x; len = 2 })
named_or None other = other

-- the escape that a backslash and these bytes are: its character, and how many bytes it has with the backslash
unfoldable pub escape_of : List ℕ → Option Escape
escape_of [] = None
escape_of (c ∷ cs) = named_or (named c) (coded_escape c cs)

abbrev pub part_of_escape : Option Escape → Part
part_of_escape None = Wrong
part_of_escape (Some e) = Escaped e

-- how many quotes there are on either side
abbrev pub count_of : Quotes → ℕ
count_of q = if q.triple then 3 else 1

-- the text begins with the closing quotes
abbrev pub closes : Quotes → List ℕ → Bool
closes q bs = begins_with q.mark bs && (not q.triple || (begins_with q.mark (drop 1 bs) && begins_with q.mark (drop 2 bs)))

-- what is at the start of what follows the opening quotes
unfoldable pub part_of : Quotes → List ℕ → Part
part_of q [] = Cut
part_of q (c ∷ cs) =
    if closes q (c ∷ cs) then Close
    else (if not q.triple && is_line_end c then Cut
    else (if c == 92 && not q.raw then part_of_escape (escape_of cs)
    else Plain))

-- how many bytes the part has
abbrev pub size_of : Quotes → Part → ℕ
size_of q Close = count_of q
size_of q Plain = 1
size_of q (Escaped e) = e.len
size_of q Wrong = 0
size_of q Cut = 0

-- where the string ends that begins at `from`, if the part at `at` is this and what follows it ends the string so
abbrev pub end_of_part : Quotes → ℕ → ℕ → Part → Result ℕ LexError → Result ℕ LexError
end_of_part q from at Close later = Ok (at + count_of q)
end_of_part q from at Plain later = later
end_of_part q from at (Escaped e) later = later
end_of_part q from at Wrong later = Err (BadEscape at)
end_of_part q from at Cut later = Err (Unclosed from)

-- where the string ends that begins at `from`, read on from `at`, where `left` bytes still belong to an escape; or the first error
abbrev pub string_end : Quotes → ℕ → ℕ → ℕ → List ℕ → Result ℕ LexError
string_end q from at left [] = Err (Unclosed from)
string_end q from at (suc n) (c ∷ cs) = string_end q from (at + 1) n cs
string_end q from at zero (c ∷ cs) = end_of_part q from at (part_of q (c ∷ cs)) (string_end q from (at + 1) (size_of q (part_of q (c ∷ cs)) - 1) cs)

-- the bytes that a part and what follows it spell
abbrev pub spelled : ℕ → Part → List ℕ → List ℕ
spelled c Close later = []
spelled c Plain later = c ∷ later
spelled c (Escaped e) later = encode_utf8 e.character ++ later
spelled c Wrong later = []
spelled c Cut later = []

-- the bytes that a string spells up to its closing quotes, read on from inside, where `left` bytes still belong to an escape
abbrev pub spells : Quotes → ℕ → List ℕ → List ℕ
spells q left [] = []
spells q (suc n) (c ∷ cs) = spells q n cs
spells q zero (c ∷ cs) = spelled c (part_of q (c ∷ cs)) (spells q (size_of q (part_of q (c ∷ cs)) - 1) cs)

abbrev pub content_in : Option Quotes → List ℕ → List ℕ
content_in None bs = []
content_in (Some q) bs = spells q 0 (drop q.len bs)

-- the bytes that the text of a string spells: what is between its quotes, with a character in UTF-8 for each escape
abbrev pub content_of : List ℕ → List ℕ
content_of bs = content_in (opening_of bs) bs

-- a byte that may not be literal in a string with this quote: the quote, a backslash, a line end
unfoldable pub is_special : ℕ → ℕ → Bool
is_special mark c = c == mark || c == 92 || is_line_end c
