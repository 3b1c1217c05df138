-- The tokens so far and those that are still to be read.
use Rattle.std.proofs.Common.{◌≡◌, List, [], ◌∷◌, ◌++◌, map, Some, None, refl, sym, ap, ◌∙◌, append_assoc, append-nil}
use Rattle.cel_lex.specs.declared.token.Token.{Token}
use Rattle.cel_lex.specs.declared.token.LexError.{LexError}
use Rattle.cel_lex.specs.Tokens.{Lexeme, Lexed, lexeme, with_token, nothing}
use Rattle.cel_parse.specs.Text.{behind}

map_more : (xs : List Token) (t : Token) → map lexeme (xs ++ t ∷ []) ≡ map lexeme xs ++ lexeme t ∷ []
map_more [] t = refl
map_more (x ∷ xs) t = ap (λ (l : List Lexeme). lexeme x ∷ l) (map_more xs t)

pub lexed_more : (xs ys : List Token) (t : Token) (old new r : Lexed) → behind (map lexeme xs) old ≡ r → old ≡ with_token (lexeme t) new → ys ≡ xs ++ t ∷ [] → behind (map lexeme ys) new ≡ r
lexed_more xs ys t old new r h e f =
    ap (λ (l : List Token). behind (map lexeme l) new) f ∙ ap (λ (l : List Lexeme). behind l new) (map_more xs t)
    ∙ ap (λ (l : List Lexeme). let x : Lexed = record { tokens = l; error = new.error } in x) (append_assoc (map lexeme xs) (lexeme t ∷ []) new.tokens)
    ∙ ap (behind (map lexeme xs)) (sym e) ∙ h

pub lexed_end : (xs : List Token) (old r : Lexed) → behind (map lexeme xs) old ≡ r → old ≡ nothing → r ≡ record { tokens = map lexeme xs; error = None }
lexed_end xs old r h e = sym h ∙ ap (behind (map lexeme xs)) e ∙ ap (λ (l : List Lexeme). let x : Lexed = record { tokens = l; error = None } in x) (append-nil (map lexeme xs))

pub lexed_error : (xs : List Token) (x : LexError) (old r : Lexed) → behind (map lexeme xs) old ≡ r → old ≡ record { tokens = []; error = Some x } → r.error ≡ Some x
lexed_error xs x old r h e = ap (λ (l : Lexed). l.error) (sym h) ∙ ap (λ (l : Lexed). l.error) e

pub ruleset lexing = (lexed_more, lexed_end, lexed_error)
