-- The tokens of a text, and the one that comes next.
use Rattle.std.specs.Prelude.{◌≡◌, ◌<◌, ◌≤◌, ℕ, zero, suc, ◌+◌, ◌-◌, List, [], ◌∷◌, length, drop, take, slice_range, Bool, true, if◌then◌else◌, Option, Some, None, Result, Ok, Err}
use Rattle.cel_lex.specs.Gap.{gap_of, IsGap}
use Rattle.cel_lex.specs.Lexis.{cut_of, due_after}
use Rattle.cel_lex.specs.Place.{Place}
use Rattle.cel_lex.specs.declared.token.TokenKind.{TokenKind}
use Rattle.cel_lex.specs.declared.token.Token.{Token}
use Rattle.cel_lex.specs.declared.cut.Cut.{Cut}
use Rattle.cel_lex.specs.declared.token.LexError.{LexError}

-- a token as contracts see it: its kind, where it begins and ends in the source, and its bytes
pub record Lexeme : Type 0 where
  pub kind : TokenKind
  pub start : ℕ
  pub end : ℕ
  pub text : List ℕ

abbrev pub lexeme : Token → Lexeme
lexeme t = record { kind = t.kind; start = t.span.start; end = t.span.end; text = t.text.now }

-- the tokens of a text from the left, up to its end or the first offset where none can be read, and why
pub record Lexed : Type 0 where
  pub tokens : List Lexeme
  pub error : Option LexError

abbrev pub nothing : Lexed
nothing = record { tokens = []; error = None }

abbrev pub with_token : Lexeme → Lexed → Lexed
with_token t later = record { tokens = t ∷ later.tokens; error = later.error }

abbrev pub with_cut : ℕ → List ℕ → Result Cut LexError → (Cut → Lexed) → Lexed
with_cut from bs (Ok cut) later = with_token (record { kind = cut.kind; start = from; end = cut.end; text = take (cut.end - from) bs }) (later cut)
with_cut from bs (Err e) later = record { tokens = []; error = Some e }

abbrev pub after_gap : ℕ → Lexed → Lexed → Lexed
after_gap zero here later = here
after_gap (suc n) here later = later

-- the tokens of these bytes, which are at offset `at` in the source, where `left` bytes still belong to a token or a gap, and whether an operand is expected
abbrev pub lex_from : ℕ → ℕ → Bool → List ℕ → Lexed
lex_from at left due [] = nothing
lex_from at (suc n) due (c ∷ cs) = lex_from (at + 1) n due cs
lex_from at zero due (c ∷ cs) =
    after_gap (gap_of (c ∷ cs))
    (with_cut at (c ∷ cs) (cut_of due at (c ∷ cs)) (λ cut. lex_from (at + 1) (cut.end - at - 1) (due_after cut.kind) cs))
    (lex_from (at + 1) (gap_of (c ∷ cs) - 1) due cs)

-- the tokens of a text: at its start an operand is expected
abbrev pub lex_of : List ℕ → Lexed
lex_of text = lex_from 0 0 true text

-- what is still to be read from a reader's state; after an error there is nothing
abbrev pub rest_of : Place → Lexed
rest_of p = if p.failed then nothing else lex_from p.at 0 p.due (drop p.at p.source)

-- a token at its offset with its text, the first error, or the end
pub data Next : Type 0 where
  Read : Lexeme → Next
  Fault : LexError → Next
  End : Next

abbrev pub seen : Option (Result Token LexError) → Next
seen None = End
seen (Some (Ok t)) = Read (lexeme t)
seen (Some (Err e)) = Fault e

abbrev pub read_cut : List ℕ → ℕ → Result Cut LexError → Next
read_cut source from (Err e) = Fault e
read_cut source from (Ok cut) = Read (record { kind = cut.kind; start = from; end = cut.end; text = slice_range source from cut.end })

abbrev pub next_from : Place → ℕ → List ℕ → Next
next_from p from [] = End
next_from p from (c ∷ cs) = read_cut p.source from (cut_of p.due from (c ∷ cs))

-- where the next token begins: after blanks and comments
abbrev pub start_of : Place → ℕ
start_of p = p.at + gap_of (drop p.at p.source)

abbrev pub next_of : Place → Next
next_of p = if p.failed then End else next_from p (start_of p) (drop (start_of p) p.source)

-- the reader's state after it
abbrev pub after : Place → Next → Place
after p (Read t) = record p { at = t.end; due = due_after t.kind }
after p (Fault e) = record p { failed = true }
after p End = p

-- what is read first, and what is left
abbrev pub first_of : Next → Lexed → Lexed
first_of (Read t) later = with_token t later
first_of (Fault e) later = record { tokens = []; error = Some e }
first_of End later = nothing

-- a fact of the token that was read
abbrev pub IfRead : Next → (Lexeme → Type 0) → Type 0
IfRead (Read t) P = P t
IfRead (Fault e) P = Unit {0}
IfRead End P = Unit {0}

-- a token that is read at an offset is the slice of the source at its span, which has a byte or more and begins at the offset or after it; only blanks and comments are between
pub record IsBorrowed (p : Place) (t : Lexeme) : Type 0 where
  pub slice : t.text ≡ slice_range p.source t.start t.end
  pub onward : p.at ≤ t.start
  pub some : t.start < t.end
  pub within : t.end ≤ length p.source
  pub between : IsGap (slice_range p.source p.at t.start)
