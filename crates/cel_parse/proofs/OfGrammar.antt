-- The tree of a text is the one that the grammar assigns to its tokens.
use Rattle.std.proofs.Common.{◌≡◌, ℕ, ◌≤◌, nat_lt, length, List, Bool, true, false, ◌||◌, Option, Some, None, is_some, refl, sym, ap, ◌∙◌, subst, if◌then◌else◌}
use Rattle.cel_lex.specs.Tokens.{Lexeme, Lexed, lex_of}
use Rattle.cel_tree.specs.declared.tree.Span.{Span}
use Rattle.cel_tree.specs.Ast.{Ast, depth}
use Rattle.cel_parse.specs.declared.part.Part.TheVariants.{Shallow, Deep}
use Rattle.cel_parse.specs.Grammar.{Has}
use Rattle.cel_parse.specs.Steps.{Reading, Read, Fault, reading, begun}
use Rattle.cel_parse.specs.Text.{end_of, is_crowded, left_out}
use Rattle.cel_parse.specs.Trees.{tree_read, tree_in, tree_lexed, tree_of}
use Rattle.cel_parse.proofs.Complete.{read_whole}
use Rattle.cel_parse.proofs.Exact.{fits, is_le, parsed_tree}

-- the tree that is read is the grammar's
read_has : (e : Span) (ts : List Lexeme) (t : Ast) (r : Reading) → reading 64 e ts begun ≡ r → tree_read r ≡ Some t → Has 0 ts t
read_has e ts t (Read (Shallow u d)) f g = (let i : u ≡ t = cc in subst (λ (v : Ast). Has 0 ts v) i (parsed_tree e ts u d f).0)
read_has e ts t (Read Deep) f g = absurd (cc)
read_has e ts t (Fault s) f g = absurd (cc)

tokens_have : (e : Span) (ts : List Lexeme) (t : Ast) (b : Bool) → (if b then None else tree_read (reading 64 e ts begun)) ≡ Some t → Has 0 ts t
tokens_have e ts t true f = absurd (cc)
tokens_have e ts t false f = read_has e ts t (reading 64 e ts begun) refl f

lexed_has : (e : Span) (l : Lexed) (t : Ast) (b : Bool) → (if b then None else tree_in e l.tokens) ≡ Some t → Has 0 l.tokens t
lexed_has e l t true f = absurd (cc)
lexed_has e l t false f = tokens_have e l.tokens t (is_some (left_out None l.tokens) || is_crowded 0 l.tokens) f

short_has : (e : Span) (l : Lexed) (t : Ast) (b : Bool) → (if b then None else tree_lexed e l) ≡ Some t → Has 0 l.tokens t
short_has e l t true f = absurd (cc)
short_has e l t false f = lexed_has e l t (is_some l.error) f

pub text_has : (text : List ℕ) (t : Ast) → tree_of text ≡ Some t → Has 0 (lex_of text).tokens t
unfolding tree_of
text_has text t f = short_has (end_of text) (lex_of text) t (nat_lt 10240 (length text)) f

-- the grammar's tree is read, if it has at most 64 levels
has_read : (e : Span) (ts : List Lexeme) (t : Ast) → Has 0 ts t → depth t ≤ 64 → tree_read (reading 64 e ts begun) ≡ Some t
has_read e ts t h d = ap tree_read (read_whole 64 e ts t h ∙ ap Read (sym (fits 64 t (is_le (depth t) 64 d))))

unless : (b : Bool) (r o : Option Ast) → b ≡ false → r ≡ o → (if b then None else r) ≡ o
unless b r o f g = ap (λ (c : Bool). if c then None else r) f ∙ g

neither : (o : Option Span) (b : Bool) → o ≡ None → b ≡ false → (is_some o || b) ≡ false
neither o b f g = ap (λ (p : Option Span). is_some p || b) f ∙ g

pub has_text : (text : List ℕ) (t : Ast) → nat_lt 10240 (length text) ≡ false → (lex_of text).error ≡ None →
    left_out None (lex_of text).tokens ≡ None → is_crowded 0 (lex_of text).tokens ≡ false → Has 0 (lex_of text).tokens t → depth t ≤ 64 → tree_of text ≡ Some t
unfolding tree_of
has_text text t short lexed whole few h d =
    let ts = (lex_of text).tokens in
    let read = has_read (end_of text) ts t h d in
    let among = unless (is_some (left_out None ts) || is_crowded 0 ts) (tree_read (reading 64 (end_of text) ts begun)) (Some t) (neither (left_out None ts) (is_crowded 0 ts) whole few) read in
    unless (nat_lt 10240 (length text)) (tree_lexed (end_of text) (lex_of text)) (Some t) short
    (unless (is_some (lex_of text).error) (tree_in (end_of text) ts) (Some t) (ap is_some lexed) among)
