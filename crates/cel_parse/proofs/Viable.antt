-- An expression begins with the tokens that led to a state.
use Rattle.std.proofs.Common.{◌≡◌, ℕ, suc, ◌≤◌, List, [], ◌∷◌, ◌++◌, refl, sym, ap, ◌∙◌, subst, arith, append_assoc, append-nil}
use Rattle.cel_lex.specs.declared.token.TokenKind.{TokenKind}
use Rattle.cel_lex.specs.declared.token.TokenKind.TheVariants as kind
use Rattle.cel_lex.specs.Tokens.{Lexeme}
use Rattle.cel_tree.specs.declared.tree.Span.{Span}
use Rattle.cel_tree.specs.declared.tree.UnaryOp.{UnaryOp}
use Rattle.cel_tree.specs.Ast.{Null, Ast, Node, Literal', Ident, Unary, Binary, Conditional, Member, Index, Call, Method, ListOf, MapOf, asts_of, entries_of, span_of}
use Rattle.cel_parse.specs.declared.state.Frame.{Frame}
use Rattle.cel_parse.specs.declared.state.Frame.TheVariants as frame
use Rattle.cel_parse.specs.Grammar.{place, over, level, Has, conditional, binary, unary, literal, name, brackets, member, index, call, method, list, map_literal, Repeats, once, again, arguments, no_argument, items, items_comma, lone_comma, pairs}
use Rattle.cel_parse.specs.Steps.{State}
use Rattle.cel_parse.specs.Answer.{Begins}
use Rattle.cel_parse.proofs.Stops.{expects_top}
use Rattle.cel_parse.proofs.Sound.{weaken, no_item, some_items, no_entry, some_entries, Stacked, bottom, prefix_first, prefix_again, infix_at, test_at, branch_at, round_at, subscript_at, list_at, call_at, method_at, map_at, value_at}
use Rattle.cel_parse.proofs.Reached.{listed, paired, At, want_expr, want_member, first_list, first_map, first_call, first_method, next_list, next_map, closing_list, closing_map, have_whole_at, have_name_at, have_field_at, dotted}
use Rattle.cel_parse.proofs.Behind.{expects_within}

abbrev mark : TokenKind → Lexeme
mark k = record { kind = k; start = 0; end = 0; text = [] }

abbrev null : Ast
null = Node (place (mark kind.Null)) (Literal' Null)

has_null : Has 7 (mark kind.Null ∷ []) null
has_null = literal (mark kind.Null) refl

further : (ts r us : List Lexeme) → ts ++ r ≡ us → Begins us → Begins ts
further ts r us e b = record {
  rest = r ++ b.rest;
  tree = b.tree;
  has = subst (λ (l : List Lexeme). Has 0 l b.tree) (ap (λ (l : List Lexeme). l ++ b.rest) (sym e) ∙ append_assoc ts r b.rest) b.has;
}

same : (ts us : List Lexeme) → ts ≡ us → Begins us → Begins ts
same ts us e b = subst Begins (sym e) b

module _ (most : ℕ) where
  mutual
    pub closable : (m : ℕ) (pre ts : List Lexeme) (t : Ast) (st : List Frame) → Stacked most pre st → Has m ts t → expects_top st ≤ m → Begins (pre ++ ts)
    closable m pre ts t st bottom h l = record { rest = []; tree = t; has = subst (λ (x : List Lexeme). Has 0 x t) (sym (append-nil ts)) (weaken m 0 ts t (omega arith) h) }
    closable m pre ts t st (prefix_first {pre = before} {st = under} k {x = x} s lo ek) h l =
        same ((before ++ k ∷ []) ++ ts) (before ++ (k ∷ ts)) (append_assoc before (k ∷ []) ts) (closable 6 before (k ∷ ts) (Node (over (place k) (span_of t)) (Unary x t)) under s (unary (once k ek (weaken m 7 ts t l h))) lo)
    closable m pre ts t st (prefix_again {pre = before} {st = under} {s = sp} k {x = x} s ek) h l =
        same ((before ++ k ∷ []) ++ ts) (before ++ (k ∷ ts)) (append_assoc before (k ∷ []) ts) (repeats_closable before (k ∷ ts) (Node (over (place k) (span_of t)) (Unary x t)) x sp under s (once k ek (weaken m 7 ts t l h)))
    closable m pre ts t st (infix_at {pre = before} {a = a} {st = under} o {x = x} u s lo ha eo) h l =
        same ((before ++ (a ++ o ∷ [])) ++ ts) (before ++ (a ++ (o ∷ ts))) (simp append_assoc)
        (closable (level x) before (a ++ (o ∷ ts)) (Node (over (span_of u) (span_of t)) (Binary x u t)) under s (binary o eo ha (weaken m (suc (level x)) ts t l h)) lo)
    closable m pre ts t st (test_at {pre = before} {a = a} {st = under} q u s lo ha eq) h l =
        further ((before ++ (a ++ q ∷ [])) ++ ts) (mark kind.Colon ∷ mark kind.Null ∷ []) (before ++ (a ++ (q ∷ (ts ++ (mark kind.Colon ∷ (mark kind.Null ∷ [])))))) (simp append_assoc)
        (closable 0 before (a ++ (q ∷ (ts ++ (mark kind.Colon ∷ (mark kind.Null ∷ []))))) (Node (over (span_of u) (span_of null)) (Conditional u t null)) under s
        (conditional q (mark kind.Colon) ha eq (weaken m 1 ts t l h) refl (weaken 7 0 (mark kind.Null ∷ []) null (omega arith) has_null)) lo)
    closable m pre ts t st (branch_at {pre = before} {a = a} {b = b} {st = under} q k u v s lo ha eq hb ek) h l =
        same ((before ++ (a ++ q ∷ (b ++ k ∷ []))) ++ ts) (before ++ (a ++ (q ∷ (b ++ (k ∷ ts))))) (simp append_assoc)
        (closable 0 before (a ++ (q ∷ (b ++ (k ∷ ts)))) (Node (over (span_of u) (span_of t)) (Conditional u v t)) under s (conditional q k ha eq hb ek (weaken m 0 ts t (omega arith) h)) lo)
    closable m pre ts t st (round_at {pre = before} {st = under} o s eo) h l =
        further ((before ++ o ∷ []) ++ ts) (mark kind.RightParen ∷ []) (before ++ (o ∷ (ts ++ mark kind.RightParen ∷ []))) (simp append_assoc)
        (closable 7 before (o ∷ (ts ++ mark kind.RightParen ∷ [])) t under s (brackets o (mark kind.RightParen) eo (weaken m 0 ts t (omega arith) h) refl) (expects_within most before under s))
    closable m pre ts t st (subscript_at {pre = before} {a = a} {st = under} o u s ha eo) h l =
        further ((before ++ (a ++ o ∷ [])) ++ ts) (mark kind.RightBracket ∷ []) (before ++ (a ++ (o ∷ (ts ++ mark kind.RightBracket ∷ [])))) (simp append_assoc)
        (closable 7 before (a ++ (o ∷ (ts ++ mark kind.RightBracket ∷ []))) (Node (over (span_of u) (place (mark kind.RightBracket))) (Index u t)) under s
        (index o (mark kind.RightBracket) ha eo (weaken m 0 ts t (omega arith) h) refl) (expects_within most before under s))
    closable m pre ts t st (list_at {pre = before} {us = us} {st = under} o x s eo b) h l =
        further ((before ++ (o ∷ us)) ++ ts) (mark kind.RightBracket ∷ []) (before ++ (o ∷ ((us ++ ts) ++ mark kind.RightBracket ∷ []))) (simp append_assoc)
        (closable 7 before (o ∷ ((us ++ ts) ++ mark kind.RightBracket ∷ [])) (Node (over (place o) (place (mark kind.RightBracket))) (ListOf (asts_of (x ++ t ∷ [])))) under s
        (list o (mark kind.RightBracket) eo (items (arguments (listed us ts x t b (weaken m 0 ts t (omega arith) h)))) refl) (expects_within most before under s))
    closable m pre ts t st (call_at {pre = before} {us = us} {st = under} k o x s ek eo b) h l =
        further ((before ++ (k ∷ o ∷ us)) ++ ts) (mark kind.RightParen ∷ []) (before ++ (k ∷ o ∷ ((us ++ ts) ++ mark kind.RightParen ∷ []))) (simp append_assoc)
        (closable 7 before (k ∷ o ∷ ((us ++ ts) ++ mark kind.RightParen ∷ [])) (Node (over (place k) (place (mark kind.RightParen))) (Call k.text (asts_of (x ++ t ∷ [])))) under s
        (call k o (mark kind.RightParen) ek eo (arguments (listed us ts x t b (weaken m 0 ts t (omega arith) h))) refl) (expects_within most before under s))
    closable m pre ts t st (method_at {pre = before} {a = a} {us = us} {st = under} d k o u x s ha ed ek eo b) h l =
        further ((before ++ (a ++ d ∷ k ∷ o ∷ us)) ++ ts) (mark kind.RightParen ∷ []) (before ++ (a ++ (d ∷ k ∷ o ∷ ((us ++ ts) ++ mark kind.RightParen ∷ [])))) (simp append_assoc)
        (closable 7 before (a ++ (d ∷ k ∷ o ∷ ((us ++ ts) ++ mark kind.RightParen ∷ []))) (Node (over (span_of u) (place (mark kind.RightParen))) (Method u k.text (asts_of (x ++ t ∷ [])))) under s
        (method d k o (mark kind.RightParen) ha ed ek eo (arguments (listed us ts x t b (weaken m 0 ts t (omega arith) h))) refl) (expects_within most before under s))
    closable m pre ts t st (map_at {pre = before} {us = us} {st = under} o x s eo b) h l =
        further ((before ++ (o ∷ us)) ++ ts) (mark kind.Colon ∷ mark kind.Null ∷ mark kind.RightBrace ∷ []) (before ++ (o ∷ ((us ++ (ts ++ (mark kind.Colon ∷ (mark kind.Null ∷ [])))) ++ mark kind.RightBrace ∷ []))) (simp append_assoc)
        (closable 7 before (o ∷ ((us ++ (ts ++ (mark kind.Colon ∷ (mark kind.Null ∷ [])))) ++ mark kind.RightBrace ∷ [])) (Node (over (place o) (place (mark kind.RightBrace))) (MapOf (entries_of (x ++ (t, null) ∷ [])))) under s
        (map_literal o (mark kind.RightBrace) eo (pairs (paired us ts (mark kind.Null ∷ []) (mark kind.Colon) x t null b (weaken m 0 ts t (omega arith) h) refl (weaken 7 0 (mark kind.Null ∷ []) null (omega arith) has_null))) refl) (expects_within most before under s))
    closable m pre ts t st (value_at {pre = before} {us = us} {a = a} {st = under} o k x u s eo b ha ek) h l =
        further ((before ++ (o ∷ (us ++ (a ++ k ∷ [])))) ++ ts) (mark kind.RightBrace ∷ []) (before ++ (o ∷ ((us ++ (a ++ (k ∷ ts))) ++ mark kind.RightBrace ∷ []))) (simp append_assoc)
        (closable 7 before (o ∷ ((us ++ (a ++ (k ∷ ts))) ++ mark kind.RightBrace ∷ [])) (Node (over (place o) (place (mark kind.RightBrace))) (MapOf (entries_of (x ++ (u, t) ∷ [])))) under s
        (map_literal o (mark kind.RightBrace) eo (pairs (paired us a ts k x u t b ha ek (weaken m 0 ts t (omega arith) h))) refl) (expects_within most before under s))

    repeats_closable : (pre ts : List Lexeme) (t : Ast) (x : UnaryOp) (sp : Span) (st : List Frame) → Stacked most pre (frame.Prefix x sp ∷ st) → Repeats x ts t → Begins (pre ++ ts)
    repeats_closable pre ts t x sp st (prefix_first {pre = before} k s lo ek) r =
        same ((before ++ k ∷ []) ++ ts) (before ++ (k ∷ ts)) (append_assoc before (k ∷ []) ts) (closable 6 before (k ∷ ts) (Node (over (place k) (span_of t)) (Unary x t)) st s (unary (again k ek r)) lo)
    repeats_closable pre ts t x sp st (prefix_again {pre = before} {st = under} {s = sq} k s ek) r =
        same ((before ++ k ∷ []) ++ ts) (before ++ (k ∷ ts)) (append_assoc before (k ∷ []) ts) (repeats_closable before (k ∷ ts) (Node (over (place k) (span_of t)) (Unary x t)) x sq under s (again k ek r))

  with_null : (pre : List Lexeme) (st : List Frame) → Stacked most pre st → Begins pre
  with_null pre st s = further pre (mark kind.Null ∷ []) (pre ++ mark kind.Null ∷ []) refl (closable 7 pre (mark kind.Null ∷ []) null st s has_null (expects_within most pre st s))

  pub at_begins : (ts : List Lexeme) (x : State) → At most ts x → Begins ts
  at_begins ts x (want_expr {st = st} s lo) = with_null ts st s
  at_begins ts x (want_member s) = with_null ts _ s
  at_begins ts x (first_list o s eo) = with_null ts _ (list_at o [] s eo no_item)
  at_begins ts x (first_map o s eo) = with_null ts _ (map_at o [] s eo no_entry)
  at_begins ts x (first_call k o s ek eo) = with_null ts _ (call_at k o [] s ek eo no_item)
  at_begins ts x (first_method d k o t s ha ed ek eo) = with_null ts _ (method_at d k o t [] s ha ed ek eo no_item)
  at_begins ts x (next_list o c l s eo h ec) = with_null ts _ (list_at o l s eo (some_items c h ec))
  at_begins ts x (next_map o c l s eo h ec) = with_null ts _ (map_at o l s eo (some_entries c h ec))
  at_begins ts x (closing_list {pre = pre} {st = st} o c s eo ec) =
      further ts (mark kind.RightBracket ∷ []) (pre ++ (o ∷ c ∷ mark kind.RightBracket ∷ [])) (append_assoc pre (o ∷ c ∷ []) (mark kind.RightBracket ∷ []))
      (closable 7 pre (o ∷ c ∷ mark kind.RightBracket ∷ []) (Node (over (place o) (place (mark kind.RightBracket))) (ListOf (asts_of []))) st s (list o (mark kind.RightBracket) eo (items_comma c no_argument ec) refl) (expects_within most pre st s))
  at_begins ts x (closing_map {pre = pre} {st = st} o c s eo ec) =
      further ts (mark kind.RightBrace ∷ []) (pre ++ (o ∷ c ∷ mark kind.RightBrace ∷ [])) (append_assoc pre (o ∷ c ∷ []) (mark kind.RightBrace ∷ []))
      (closable 7 pre (o ∷ c ∷ mark kind.RightBrace ∷ []) (Node (over (place o) (place (mark kind.RightBrace))) (MapOf (entries_of []))) st s (map_literal o (mark kind.RightBrace) eo (lone_comma c ec) refl) (expects_within most pre st s))
  at_begins ts x (have_whole_at {pre = pre} {ts = us} {st = st} t s h) = closable 7 pre us t st s h (expects_within most pre st s)
  at_begins ts x (have_name_at {pre = pre} {st = st} k s ek) = closable 7 pre (k ∷ []) (Node (place k) (Ident k.text)) st s (name k ek) (expects_within most pre st s)
  at_begins ts x (have_field_at {pre = pre} {a = a} {st = st} d k t s ha ed ek) =
      closable 7 pre (a ++ d ∷ k ∷ []) (Node (over (span_of t) (place k)) (Member t k.text)) st s (member d k ha ed ek) (expects_within most pre st s)
  at_begins ts x (dotted {pre = pre} {a = a} {st = st} d t s ha ed) =
      further ts (mark kind.Ident ∷ []) (pre ++ (a ++ d ∷ mark kind.Ident ∷ [])) (simp append_assoc)
      (closable 7 pre (a ++ d ∷ mark kind.Ident ∷ []) (Node (over (span_of t) (place (mark kind.Ident))) (Member t [])) st s (member d (mark kind.Ident) ha ed refl) (expects_within most pre st s))
