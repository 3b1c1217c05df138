-- The token at the start of a text.
use Rattle.std.specs.Prelude.{ℕ, ◌+◌, ◌-◌, List, [], ◌∷◌, drop, take, if◌then◌else◌, ◌==◌, ◌||◌, ◌&&◌, Bool, true, false, Option, Some, None, is_some, unwrap_or, Result, Ok, Err, codes}
use Rattle.std.specs.List.{prefix_len, list_any}
use Rattle.std.specs.Char.{is_ascii_digit}
use Rattle.std.specs.Str.{bytes_eq}
use Rattle.cel_lex.specs.Bytes.{is_word, is_word_start, begins, begins_with}
use Rattle.cel_lex.specs.Numbers.{number_form, whole_of, int_of}
use Rattle.cel_lex.specs.Strings.{opening_of, string_end}
use Rattle.cel_lex.specs.declared.token.TokenKind.{TokenKind}
use Rattle.cel_lex.specs.declared.token.TokenKind.TheVariants as kind
use Rattle.cel_lex.specs.declared.number.Form.{Form}
use Rattle.cel_lex.specs.declared.cut.Cut.{Cut}
use Rattle.cel_lex.specs.declared.quotes.Quotes.{Quotes}
use Rattle.cel_lex.specs.declared.token.LexError.{LexError}
use Rattle.cel_lex.specs.declared.token.LexError.TheVariants.{BadChar, BadNumber}

-- the words that no variable and no function may have as its name
abbrev pub short_words : List (List ℕ)
short_words = codes "as" ∷ codes "if" ∷ codes "for" ∷ codes "let" ∷ codes "var" ∷ []

abbrev pub middle_words : List (List ℕ)
middle_words = codes "else" ∷ codes "loop" ∷ codes "void" ∷ codes "break" ∷ codes "const" ∷ codes "while" ∷ []

abbrev pub long_words : List (List ℕ)
long_words = codes "import" ∷ codes "return" ∷ codes "package" ∷ codes "continue" ∷ codes "function" ∷ codes "namespace" ∷ []

abbrev pub is_reserved : List ℕ → Bool
is_reserved word = list_any (bytes_eq word) short_words || list_any (bytes_eq word) middle_words || list_any (bytes_eq word) long_words

abbrev pub keyword_of : List ℕ → Option TokenKind
keyword_of word =
    if bytes_eq word (codes "false") then Some kind.False
    else (if bytes_eq word (codes "in") then Some kind.In
    else (if bytes_eq word (codes "null") then Some kind.Null
    else (if bytes_eq word (codes "true") then Some kind.True
    else None)))

abbrev pub word_kind : List ℕ → TokenKind
word_kind word = unwrap_or (keyword_of word) (if is_reserved word then kind.Reserved else kind.Ident)

-- the value of a whole number at the start fits in 64 bits
unfoldable pub fits : TokenKind → ℕ → List ℕ → Bool
fits kind.Int n bs = is_some (int_of (take n bs))
fits kind.Uint n bs = is_some (whole_of (take (n - 1) bs))
fits k n bs = true

abbrev pub cut_as : ℕ → Form → Result Cut LexError
cut_as from f = Ok (record { kind = f.kind; end = from + f.len })

abbrev pub fitting : ℕ → List ℕ → Form → Result Cut LexError
fitting from bs f = if fits f.kind f.len bs then cut_as from f else Err (BadNumber from)

abbrev pub is_int : TokenKind → Bool
is_int kind.Int = true
is_int k = false

-- a minus before a number of this form: it belongs to a whole number
abbrev pub signed_form : Form → Form
signed_form f = if is_int f.kind then record { kind = kind.Int; len = 1 + f.len } else record { kind = kind.Minus; len = 1 }

abbrev pub string_kind : Quotes → TokenKind
string_kind q = if q.bytes then kind.Bytes else kind.Str

abbrev pub cut_string : Quotes → Result ℕ LexError → Result Cut LexError
cut_string q (Ok end) = Ok (record { kind = string_kind q; end = end })
cut_string q (Err e) = Err e

-- brackets and what separates
abbrev pub bracket_of : ℕ → Option TokenKind
bracket_of c =
    if c == 40 then Some kind.LeftParen
    else (if c == 41 then Some kind.RightParen
    else (if c == 91 then Some kind.LeftBracket
    else (if c == 93 then Some kind.RightBracket
    else (if c == 123 then Some kind.LeftBrace
    else (if c == 125 then Some kind.RightBrace
    else (if c == 44 then Some kind.Comma
    else (if c == 46 then Some kind.Dot
    else (if c == 58 then Some kind.Colon
    else (if c == 63 then Some kind.Question
    else None)))))))))

-- the operators of one byte, and brackets
abbrev pub single_of : ℕ → Option TokenKind
single_of c =
    if c == 33 then Some kind.Not
    else (if c == 60 then Some kind.Lt
    else (if c == 62 then Some kind.Gt
    else (if c == 43 then Some kind.Plus
    else (if c == 45 then Some kind.Minus
    else (if c == 42 then Some kind.Star
    else (if c == 47 then Some kind.Slash
    else (if c == 37 then Some kind.Percent
    else bracket_of c)))))))

-- the operators of two bytes
abbrev pub pair_of : ℕ → ℕ → Option TokenKind
pair_of c d =
    if c == 124 && d == 124 then Some kind.OrOr
    else (if c == 38 && d == 38 then Some kind.AndAnd
    else (if c == 61 && d == 61 then Some kind.EqEq
    else (if c == 33 && d == 61 then Some kind.NotEq
    else (if c == 60 && d == 61 then Some kind.Le
    else (if c == 62 && d == 61 then Some kind.Ge
    else None)))))

abbrev pub mark_form : ℕ → Option TokenKind → Option Form
mark_form n None = None
mark_form n (Some k) = Some (record { kind = k; len = n })

abbrev pub longer : Option TokenKind → Option Form → Option Form
longer None other = other
longer (Some k) other = Some (record { kind = k; len = 2 })

-- an operator or a bracket at the start, the longer first
unfoldable pub mark_of : List ℕ → Option Form
mark_of [] = None
mark_of (c ∷ []) = mark_form 1 (single_of c)
mark_of (c ∷ d ∷ cs) = longer (pair_of c d) (mark_form 1 (single_of c))

abbrev pub cut_mark : ℕ → Option Form → Result Cut LexError
cut_mark from None = Err (BadChar from)
cut_mark from (Some f) = cut_as from f

unfoldable pub word_form : List ℕ → Form
word_form bs = record { kind = word_kind (take (prefix_len is_word bs) bs); len = prefix_len is_word bs }

-- a digit, or a point and a digit
abbrev pub begins_number : List ℕ → Bool
begins_number bs = begins is_ascii_digit bs || (begins_with 46 bs && begins is_ascii_digit (drop 1 bs))

-- a minus and a digit
abbrev pub begins_signed : List ℕ → Bool
begins_signed bs = begins_with 45 bs && begins is_ascii_digit (drop 1 bs)

-- the token that a text begins with that is no string: a word, a number with its sign where an operand is expected, or a mark
unfoldable pub cut_plain : Bool → ℕ → List ℕ → Result Cut LexError
cut_plain due from bs =
    if begins is_word_start bs then cut_as from (word_form bs)
    else (if begins_number bs then fitting from bs (number_form bs)
    else (if due && begins_signed bs then fitting from bs (signed_form (number_form (drop 1 bs)))
    else cut_mark from (mark_of bs)))

abbrev pub cut_opened : Bool → ℕ → List ℕ → Option Quotes → Result Cut LexError
cut_opened due from bs None = cut_plain due from bs
cut_opened due from bs (Some q) = cut_string q (string_end q from (from + q.len) 0 (drop q.len bs))

-- the kind and the end of the token that begins at `from` with these bytes, or why there is none
unfoldable pub cut_of : Bool → ℕ → List ℕ → Result Cut LexError
cut_of due from bs = cut_opened due from bs (opening_of bs)

-- an operand is expected after a token of this kind: an operator, `in`, an opening bracket, `,`, `?` or `:`
abbrev pub due_after : TokenKind → Bool
due_after kind.OrOr = true
due_after kind.AndAnd = true
due_after kind.Lt = true
due_after kind.Le = true
due_after kind.Ge = true
due_after kind.Gt = true
due_after kind.EqEq = true
due_after kind.NotEq = true
due_after kind.In = true
due_after kind.Plus = true
due_after kind.Minus = true
due_after kind.Star = true
due_after kind.Slash = true
due_after kind.Percent = true
due_after kind.Not = true
due_after kind.LeftParen = true
due_after kind.LeftBracket = true
due_after kind.LeftBrace = true
due_after kind.Comma = true
due_after kind.Question = true
due_after kind.Colon = true
due_after k = false
