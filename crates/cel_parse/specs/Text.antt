-- What is returned for a text, in the order in which it is looked at.
use Rattle.std.specs.Prelude.{◌≡◌, ℕ, ◌+◌, ◌-◌, nat_lt, List, [], ◌∷◌, ◌++◌, map, length, Bool, true, false, Option, Some, None, Result, Ok, Err, if◌then◌else◌, MatchOption, Vec}
use Rattle.std.specs.Bool.{MatchBool}
use Rattle.std.specs.declared.alloc.Global.{Global}
use Rattle.cel_lex.specs.declared.token.TokenKind.{TokenKind}
use Rattle.cel_lex.specs.declared.token.TokenKind.TheVariants as kind
use Rattle.cel_lex.specs.declared.token.Token.{Token}
use Rattle.cel_lex.specs.Lexis.{due_after}
use Rattle.cel_lex.specs.Tokens.{Lexeme, Lexed, lexeme, lex_of}
use Rattle.cel_tree.specs.declared.tree.Span.{Span}
use Rattle.cel_tree.specs.declared.tree.Tree.{Tree}
use Rattle.cel_parse.specs.declared.run.ParseError.{ParseError}
use Rattle.cel_parse.specs.declared.run.ParseError.TheVariants.{Lex, Deep, Long, Memory, NotSupported}
use Rattle.cel_parse.specs.Grammar.{place}
use Rattle.cel_parse.specs.Answer.{Parsed}

-- a point or an opening square bracket, before a `?`
abbrev pub is_optional : Option TokenKind → Bool
is_optional (Some kind.Dot) = true
is_optional (Some kind.LeftBracket) = true
is_optional k = false

-- at the start, and after an operator, an opening bracket, `,`, `?` or `:`
abbrev pub is_leading : Option TokenKind → Bool
is_leading None = true
is_leading (Some k) = due_after k

abbrev pub is_name : Option TokenKind → Bool
is_name (Some kind.Ident) = true
is_name k = false

-- What the profile leaves out of the language, by the token and the one before it: doubles, unsigned numbers and bytes, the optional syntax, a leading point, the construction of messages.
abbrev pub is_left_out : Option TokenKind → TokenKind → Bool
is_left_out before kind.Double = true
is_left_out before kind.Uint = true
is_left_out before kind.Bytes = true
is_left_out before kind.Question = is_optional before
is_left_out before kind.Dot = is_leading before
is_left_out before kind.LeftBrace = is_name before
is_left_out before k = false

-- the span of the first token that is left out
abbrev pub left_out : Option TokenKind → List Lexeme → Option Span
left_out before [] = None
left_out before (k ∷ ks) = if is_left_out before k.kind then Some (place k) else left_out (Some k.kind) ks

-- how many brackets are open at a token, where so many are open before it
abbrev pub open_at : ℕ → TokenKind → ℕ
open_at n kind.LeftParen = n + 1
open_at n kind.LeftBracket = n + 1
open_at n kind.LeftBrace = n + 1
open_at n kind.RightParen = n - 1
open_at n kind.RightBracket = n - 1
open_at n kind.RightBrace = n - 1
open_at n k = n

-- more than 64 brackets are open at one token
abbrev pub is_crowded : ℕ → List Lexeme → Bool
is_crowded n [] = false
is_crowded n (k ∷ ks) = if nat_lt 64 (open_at n k.kind) then true else is_crowded (open_at n k.kind) ks

-- the error, unless out of memory
abbrev pub Fails : ParseError → Result Tree ParseError → Type 0
Fails e (Ok t) = ⊥
Fails e (Err Memory) = Unit {0}
Fails e (Err x) = x ≡ e

abbrev pub end_of : List ℕ → Span
end_of text = record { start = length text; end = length text }

abbrev pub Counted : Span → List Lexeme → Result Tree ParseError → Type 0
Counted e ts r = MatchBool (is_crowded 0 ts) (Fails Deep r) (Parsed e ts r)

abbrev pub Scanned : Span → List Lexeme → Result Tree ParseError → Type 0
Scanned e ts r = MatchOption (left_out None ts) (Counted e ts r) (λ s. Fails (NotSupported s) r)

abbrev pub Read : List ℕ → Lexed → Result Tree ParseError → Type 0
Read text l r = MatchOption l.error (Scanned (end_of text) l.tokens r) (λ x. Fails (Lex x) r)

-- Long, then the first error of the tokens, then what is left out, then the brackets, then the grammar
abbrev pub Parses : List ℕ → Result Tree ParseError → Type 0
Parses text r = MatchBool (nat_lt 10240 (length text)) (r ≡ Err Long) (Read text (lex_of text) r)

-- the tokens of a text, or their first error, unless out of memory
abbrev pub Lexes : Lexed → Result (Vec Token Global) ParseError → Type 0
Lexes l (Ok v) = l ≡ record { tokens = map lexeme v.items; error = None }
Lexes l (Err (Lex x)) = l.error ≡ Some x
Lexes l (Err Memory) = Unit {0}
Lexes l (Err x) = ⊥

-- tokens before those of what is read on
abbrev pub behind : List Lexeme → Lexed → Lexed
behind ts l = record { tokens = ts ++ l.tokens; error = l.error }
