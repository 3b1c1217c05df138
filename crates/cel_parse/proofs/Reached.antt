-- The states that are reached, with the tokens that led there.
use Rattle.std.proofs.Common.{◌≡◌, ℕ, suc, ◌≤◌, ◌<◌, nat_le, List, [], ◌∷◌, ◌++◌, Bool, true, false, Option, Some, None, refl, sym, ap, ◌∙◌, subst, arith, if◌then◌else◌, append_assoc}
use Rattle.std.proofs.lemmas.Bool.Decides.{nat_tests}
use Rattle.cel_lex.specs.declared.token.TokenKind.{TokenKind}
use Rattle.cel_lex.specs.declared.token.TokenKind.TheVariants as kind
use Rattle.cel_lex.specs.Tokens.{Lexeme}
use Rattle.cel_tree.specs.declared.tree.Span.{Span}
use Rattle.cel_tree.specs.declared.tree.UnaryOp.{UnaryOp}
use Rattle.cel_tree.specs.declared.tree.UnaryOp.TheVariants.{Not, Negate}
use Rattle.cel_tree.specs.declared.tree.BinaryOp.{BinaryOp}
use Rattle.cel_tree.specs.Ast.{Constant, Ast, Node, Literal', Index, Call, Method, ListOf, MapOf, asts_of, entries_of, span_of}
use Rattle.cel_parse.specs.declared.part.Part.{Part}
use Rattle.cel_parse.specs.declared.part.Parts.{Parts}
use Rattle.cel_parse.specs.declared.part.Parts.TheVariants as parts
use Rattle.cel_parse.specs.declared.part.Entries.{Entries}
use Rattle.cel_parse.specs.declared.part.Entries.TheVariants as entries
use Rattle.cel_parse.specs.declared.state.Due.{Due}
use Rattle.cel_parse.specs.declared.state.Due.TheVariants.{Expr, Prefixed, First, Next, Closing}
use Rattle.cel_parse.specs.declared.state.Hand.TheVariants.{Whole, Name, Field}
use Rattle.cel_parse.specs.declared.state.Mode.TheVariants.{Want, Have, Dot}
use Rattle.cel_parse.specs.declared.state.Frame.{Frame}
use Rattle.cel_parse.specs.declared.state.Frame.TheVariants as frame
use Rattle.cel_parse.specs.Grammar.{place, over, level, unary_op, constant_of, is_member_name, Has, literal, brackets, index, call, method, list, map_literal, Listed, first, more, Arguments, arguments, Items, items, Paired, first_pair, more_pairs, Inits, pairs}
use Rattle.cel_parse.specs.Parts.{leaf_part, list_part, call_part, method_part, map_part, index_part, added_item, added_pair}
use Rattle.cel_parse.specs.Operands.{hand_of, operand_at, operand_of}
use Rattle.cel_parse.specs.Steps.{State, may_begin, may_end, may_prefix, passed, ended, ended_frame, have_whole, have_operand, want_at, grown, want_next, closed_round, closed_subscript, closed_frame}
use Rattle.cel_parse.proofs.Cut.{cut, cuts, cut_pairs, cut_index, cut_call, cut_method, cut_list, cut_map, cut_leaf, cuts_more, cuts_pair}
use Rattle.cel_parse.proofs.Stops.{expects_top, level_low}
use Rattle.cel_parse.proofs.Sound.{Before, no_item, some_items, BeforeEntry, no_entry, some_entries, Stacked, prefix_first, prefix_again, infix_at, test_at, branch_at, round_at, subscript_at, list_at, call_at, method_at, map_at, value_at}

pub listed : (us ts : List Lexeme) (l : List Ast) (t : Ast) → Before us l → Has 0 ts t → Listed (us ++ ts) (l ++ t ∷ [])
listed us ts l t no_item h = first h
listed us ts l t (some_items {ts = vs} c g ec) h = subst (λ (x : List Lexeme). Listed x (l ++ t ∷ [])) (sym (append_assoc vs (c ∷ []) ts)) (more c g ec h)

pub paired : (us ss ts : List Lexeme) (k : Lexeme) (l : List (Ast × Ast)) (t u : Ast) → BeforeEntry us l → Has 0 ss t → k.kind ≡ kind.Colon → Has 0 ts u → Paired (us ++ (ss ++ k ∷ ts)) (l ++ (t, u) ∷ [])
paired us ss ts k l t u no_entry h ek i = first_pair k h ek i
paired us ss ts k l t u (some_entries {ts = vs} c g ec) h ek i = subst (λ (x : List Lexeme). Paired x (l ++ (t, u) ∷ [])) (sym (append_assoc vs (c ∷ []) (ss ++ k ∷ ts))) (more_pairs c k g ec h ek i)

pub level_above : (x y : BinaryOp) → nat_le (level x) (level y) ≡ false → suc (level y) ≤ level x
level_above x y e = grind (arith, nat_tests)

pub low_false : (x : BinaryOp) → nat_le 1 (level x) ≡ false → ⊥
low_false x e = let l = level_low x in let g : level x < 1 = grind (arith, nat_tests) in absurd (omega arith)

module _ (most : ℕ) where
  pub data At : List Lexeme → State → Type 0 where
    want_expr : {pre : List Lexeme} {st : List Frame} → Stacked most pre st → expects_top st ≤ 6 → At pre (Want Expr, st)
    want_member : {pre : List Lexeme} {st : List Frame} {x : UnaryOp} {s : Span} → Stacked most pre (frame.Prefix x s ∷ st) → At pre (Want (Prefixed x), frame.Prefix x s ∷ st)
    first_list : {pre : List Lexeme} {st : List Frame} (o : Lexeme) → Stacked most pre st → o.kind ≡ kind.LeftBracket → At (pre ++ o ∷ []) (Want First, frame.Square (place o) (parts.Shallow [] 0) ∷ st)
    first_map : {pre : List Lexeme} {st : List Frame} (o : Lexeme) → Stacked most pre st → o.kind ≡ kind.LeftBrace → At (pre ++ o ∷ []) (Want First, frame.Braces (place o) (entries.Shallow [] 0) ∷ st)
    first_call : {pre : List Lexeme} {st : List Frame} (k o : Lexeme) → Stacked most pre st → k.kind ≡ kind.Ident → o.kind ≡ kind.LeftParen →
        At (pre ++ k ∷ o ∷ []) (Want First, frame.Function (place k) k.text (parts.Shallow [] 0) ∷ st)
    first_method : {pre a : List Lexeme} {st : List Frame} (d k o : Lexeme) (t : Ast) → Stacked most pre st → Has 7 a t → d.kind ≡ kind.Dot → is_member_name k.kind ≡ true → o.kind ≡ kind.LeftParen →
        At (pre ++ (a ++ d ∷ k ∷ o ∷ [])) (Want First, frame.Method (cut most t) k.text (parts.Shallow [] 0) ∷ st)
    next_list : {pre us : List Lexeme} {st : List Frame} (o c : Lexeme) (l : List Ast) → Stacked most pre st → o.kind ≡ kind.LeftBracket → Listed us l → c.kind ≡ kind.Comma →
        At (pre ++ (o ∷ (us ++ c ∷ []))) (Want Next, frame.Square (place o) (cuts most l) ∷ st)
    next_map : {pre us : List Lexeme} {st : List Frame} (o c : Lexeme) (l : List (Ast × Ast)) → Stacked most pre st → o.kind ≡ kind.LeftBrace → Paired us l → c.kind ≡ kind.Comma →
        At (pre ++ (o ∷ (us ++ c ∷ []))) (Want Next, frame.Braces (place o) (cut_pairs most l) ∷ st)
    closing_list : {pre : List Lexeme} {st : List Frame} (o c : Lexeme) → Stacked most pre st → o.kind ≡ kind.LeftBracket → c.kind ≡ kind.Comma → At (pre ++ o ∷ c ∷ []) (Want Closing, frame.Square (place o) (parts.Shallow [] 0) ∷ st)
    closing_map : {pre : List Lexeme} {st : List Frame} (o c : Lexeme) → Stacked most pre st → o.kind ≡ kind.LeftBrace → c.kind ≡ kind.Comma → At (pre ++ o ∷ c ∷ []) (Want Closing, frame.Braces (place o) (entries.Shallow [] 0) ∷ st)
    have_whole_at : {pre ts : List Lexeme} {st : List Frame} (t : Ast) → Stacked most pre st → Has 7 ts t → At (pre ++ ts) (Have (Whole (cut most t)), st)
    have_name_at : {pre : List Lexeme} {st : List Frame} (k : Lexeme) → Stacked most pre st → k.kind ≡ kind.Ident → At (pre ++ k ∷ []) (Have (Name (place k) k.text), st)
    have_field_at : {pre a : List Lexeme} {st : List Frame} (d k : Lexeme) (t : Ast) → Stacked most pre st → Has 7 a t → d.kind ≡ kind.Dot → is_member_name k.kind ≡ true →
        At (pre ++ (a ++ d ∷ k ∷ [])) (Have (Field (cut most t) (place k) k.text), st)
    dotted : {pre a : List Lexeme} {st : List Frame} (d : Lexeme) (t : Ast) → Stacked most pre st → Has 7 a t → d.kind ≡ kind.Dot → At (pre ++ (a ++ d ∷ [])) (Dot (cut most t), st)

  -- the state that a token makes is reached
  abbrev pub Goes : List Lexeme → Option State → Type 0
  Goes ts None = Unit {0}
  Goes ts (Some y) = At ts y

  pub move : (ts us : List Lexeme) (y : State) → ts ≡ us → At us y → At ts y
  move ts us y e a = subst (λ (l : List Lexeme). At l y) (sym e) a

  put : (ts pre us : List Lexeme) (t : Ast) (p : Part) (st : List Frame) → ts ≡ pre ++ us → p ≡ cut most t → Stacked most pre st → Has 7 us t → At ts (Have (Whole p), st)
  put ts pre us t p st e f s h = move ts (pre ++ us) (Have (Whole p), st) e (subst (λ (q : Part). At (pre ++ us) (Have (Whole q), st)) (sym f) (have_whole_at t s h))

  pub if_goes : (ts : List Lexeme) (b : Bool) (o : Option State) → (b ≡ true → Goes ts o) → Goes ts (if b then o else None)
  if_goes ts true o h = h refl
  if_goes ts false o h = tt

  -- an operand of one token
  constant_goes : (pre : List Lexeme) (st : List Frame) (k : Lexeme) → Stacked most pre st → (o : Option Constant) → constant_of k.kind k.text ≡ o → Goes (pre ++ k ∷ []) (have_operand st (hand_of most (place k) o))
  constant_goes pre st k s None e = tt
  constant_goes pre st k s (Some c) e = put (pre ++ k ∷ []) pre (k ∷ []) (Node (place k) (Literal' c)) (leaf_part most (place k) (Literal' c)) st refl (cut_leaf most (place k) (Literal' c) refl) s (literal k e)

  operand_goes : (pre : List Lexeme) (st : List Frame) (k : Lexeme) → Stacked most pre st → (i : TokenKind) → k.kind ≡ i → Goes (pre ++ k ∷ []) (have_operand st (operand_at most i k))
  operand_goes pre st k s kind.Ident e = have_name_at k s e
  operand_goes pre st k s i e = constant_goes pre st k s (constant_of i k.text) (ap (λ (j : TokenKind). constant_of j k.text) e)

  pub want_goes : (pre : List Lexeme) (st : List Frame) (due : Due) (k : Lexeme) → Stacked most pre st →
      ((x : UnaryOp) → may_prefix due x ≡ true → unary_op k.kind ≡ Some x → At (pre ++ k ∷ []) (Want (Prefixed x), frame.Prefix x (place k) ∷ st)) →
      (may_end due ≡ true → Goes (pre ++ k ∷ []) (ended most st k)) →
      (k.kind ≡ kind.Comma → Goes (pre ++ k ∷ []) (passed due st)) →
      (i : TokenKind) → k.kind ≡ i → Goes (pre ++ k ∷ []) (want_at most i due st k)
  want_goes pre st due k s pf en pa kind.LeftParen e = if_goes (pre ++ k ∷ []) (may_begin due) (Some (Want Expr, frame.Round ∷ st)) (λ b. want_expr (round_at k s e) (omega arith))
  want_goes pre st due k s pf en pa kind.LeftBracket e = if_goes (pre ++ k ∷ []) (may_begin due) (Some (Want First, frame.Square (place k) (parts.Shallow [] 0) ∷ st)) (λ b. first_list k s e)
  want_goes pre st due k s pf en pa kind.LeftBrace e = if_goes (pre ++ k ∷ []) (may_begin due) (Some (Want First, frame.Braces (place k) (entries.Shallow [] 0) ∷ st)) (λ b. first_map k s e)
  want_goes pre st due k s pf en pa kind.Not e = if_goes (pre ++ k ∷ []) (may_prefix due Not) (Some (Want (Prefixed Not), frame.Prefix Not (place k) ∷ st)) (λ b. pf Not b (ap unary_op e))
  want_goes pre st due k s pf en pa kind.Minus e = if_goes (pre ++ k ∷ []) (may_prefix due Negate) (Some (Want (Prefixed Negate), frame.Prefix Negate (place k) ∷ st)) (λ b. pf Negate b (ap unary_op e))
  want_goes pre st due k s pf en pa kind.RightParen e = if_goes (pre ++ k ∷ []) (may_end due) (ended most st k) en
  want_goes pre st due k s pf en pa kind.RightBracket e = if_goes (pre ++ k ∷ []) (may_end due) (ended most st k) en
  want_goes pre st due k s pf en pa kind.RightBrace e = if_goes (pre ++ k ∷ []) (may_end due) (ended most st k) en
  want_goes pre st due k s pf en pa kind.Comma e = pa e
  want_goes pre st due k s pf en pa i e = if_goes (pre ++ k ∷ []) (may_begin due) (have_operand st (operand_of most k)) (λ b. operand_goes pre st k s k.kind refl)

  -- a closing bracket of a list, a call, a method, a map
  pub end_list : (ts pre us : List Lexeme) (st : List Frame) (o k : Lexeme) (l : List Ast) (ps : Parts) → ts ≡ pre ++ (o ∷ (us ++ k ∷ [])) → ps ≡ cuts most l → Stacked most pre st → o.kind ≡ kind.LeftBracket → Items us l →
      (i : TokenKind) → k.kind ≡ i → Goes ts (have_whole st (ended_frame most (frame.Square (place o) ps) i (place k)))
  end_list ts pre us st o k l ps e f s eo h kind.RightBracket g =
      put ts pre (o ∷ (us ++ k ∷ [])) (Node (over (place o) (place k)) (ListOf (asts_of l))) (list_part most (over (place o) (place k)) ps) st e (ap (list_part most (over (place o) (place k))) f ∙ cut_list most (over (place o) (place k)) l) s (list o k eo h g)
  end_list ts pre us st o k l ps e f s eo h i g = tt

  pub end_call : (ts pre us : List Lexeme) (st : List Frame) (n o k : Lexeme) (l : List Ast) (ps : Parts) → ts ≡ pre ++ (n ∷ o ∷ (us ++ k ∷ [])) → ps ≡ cuts most l → Stacked most pre st → n.kind ≡ kind.Ident → o.kind ≡ kind.LeftParen → Arguments us l →
      (i : TokenKind) → k.kind ≡ i → Goes ts (have_whole st (ended_frame most (frame.Function (place n) n.text ps) i (place k)))
  end_call ts pre us st n o k l ps e f s en eo h kind.RightParen g =
      put ts pre (n ∷ o ∷ (us ++ k ∷ [])) (Node (over (place n) (place k)) (Call n.text (asts_of l))) (call_part most (over (place n) (place k)) n.text ps) st e (ap (call_part most (over (place n) (place k)) n.text) f ∙ cut_call most (over (place n) (place k)) n.text l) s (call n o k en eo h g)
  end_call ts pre us st n o k l ps e f s en eo h i g = tt

  pub end_method : (ts pre a us : List Lexeme) (st : List Frame) (d n o k : Lexeme) (t : Ast) (l : List Ast) (ps : Parts) → ts ≡ pre ++ (a ++ d ∷ n ∷ o ∷ (us ++ k ∷ [])) → ps ≡ cuts most l → Stacked most pre st → Has 7 a t → d.kind ≡ kind.Dot → is_member_name n.kind ≡ true → o.kind ≡ kind.LeftParen → Arguments us l →
      (i : TokenKind) → k.kind ≡ i → Goes ts (have_whole st (ended_frame most (frame.Method (cut most t) n.text ps) i (place k)))
  end_method ts pre a us st d n o k t l ps e f s ha ed en eo h kind.RightParen g =
      put ts pre (a ++ d ∷ n ∷ o ∷ (us ++ k ∷ [])) (Node (over (span_of t) (place k)) (Method t n.text (asts_of l))) (method_part most (cut most t) n.text ps (place k)) st e (ap (λ (q : Parts). method_part most (cut most t) n.text q (place k)) f ∙ cut_method most t n.text l (place k)) s (method d n o k ha ed en eo h g)
  end_method ts pre a us st d n o k t l ps e f s ha ed en eo h i g = tt

  pub end_map : (ts pre us : List Lexeme) (st : List Frame) (o k : Lexeme) (l : List (Ast × Ast)) (ps : Entries) → ts ≡ pre ++ (o ∷ (us ++ k ∷ [])) → ps ≡ cut_pairs most l → Stacked most pre st → o.kind ≡ kind.LeftBrace → Inits us l →
      (i : TokenKind) → k.kind ≡ i → Goes ts (have_whole st (ended_frame most (frame.Braces (place o) ps) i (place k)))
  end_map ts pre us st o k l ps e f s eo h kind.RightBrace g =
      put ts pre (o ∷ (us ++ k ∷ [])) (Node (over (place o) (place k)) (MapOf (entries_of l))) (map_part most (over (place o) (place k)) ps) st e (ap (map_part most (over (place o) (place k))) f ∙ cut_map most (over (place o) (place k)) l) s (map_literal o k eo h g)
  end_map ts pre us st o k l ps e f s eo h i g = tt

  -- a comma after an expression
  pub comma_goes : (before prefix : List Lexeme) (f : Frame) (st : List Frame) (t : Ast) (k : Lexeme) → Stacked most before (f ∷ st) → Has 0 prefix t → k.kind ≡ kind.Comma → Goes ((before ++ prefix) ++ k ∷ []) (want_next st (grown f (cut most t)))
  comma_goes before prefix f st t k (list_at {pre = pre} {us = us} o l s eo b) h ek =
      subst (λ (ps : Parts). At ((before ++ prefix) ++ k ∷ []) (Want Next, frame.Square (place o) ps ∷ st)) (sym (cuts_more most l t))
      (move ((before ++ prefix) ++ k ∷ []) (pre ++ (o ∷ ((us ++ prefix) ++ k ∷ []))) (Want Next, frame.Square (place o) (cuts most (l ++ t ∷ [])) ∷ st) (simp append_assoc) (next_list o k (l ++ t ∷ []) s eo (listed us prefix l t b h) ek))
  comma_goes before prefix f st t k (call_at {pre = pre} {us = us} n o l s en eo b) h ek =
      subst (λ (ps : Parts). At ((before ++ prefix) ++ k ∷ []) (Want Expr, frame.Function (place n) n.text ps ∷ st)) (sym (cuts_more most l t))
      (move ((before ++ prefix) ++ k ∷ []) (pre ++ (n ∷ o ∷ ((us ++ prefix) ++ k ∷ []))) (Want Expr, frame.Function (place n) n.text (cuts most (l ++ t ∷ [])) ∷ st) (simp append_assoc)
      (want_expr (call_at n o (l ++ t ∷ []) s en eo (some_items k (listed us prefix l t b h) ek)) (omega arith)))
  comma_goes before prefix f st t k (method_at {pre = pre} {a = a} {us = us} d n o u l s ha ed en eo b) h ek =
      subst (λ (ps : Parts). At ((before ++ prefix) ++ k ∷ []) (Want Expr, frame.Method (cut most u) n.text ps ∷ st)) (sym (cuts_more most l t))
      (move ((before ++ prefix) ++ k ∷ []) (pre ++ (a ++ d ∷ n ∷ o ∷ ((us ++ prefix) ++ k ∷ []))) (Want Expr, frame.Method (cut most u) n.text (cuts most (l ++ t ∷ [])) ∷ st) (simp append_assoc)
      (want_expr (method_at d n o u (l ++ t ∷ []) s ha ed en eo (some_items k (listed us prefix l t b h) ek)) (omega arith)))
  comma_goes before prefix f st t k (value_at {pre = pre} {us = us} {a = a} o c l u s eo b ha ec) h ek =
      subst (λ (ps : Entries). At ((before ++ prefix) ++ k ∷ []) (Want Next, frame.Braces (place o) ps ∷ st)) (sym (cuts_pair most l u t))
      (move ((before ++ prefix) ++ k ∷ []) (pre ++ (o ∷ ((us ++ (a ++ c ∷ prefix)) ++ k ∷ []))) (Want Next, frame.Braces (place o) (cut_pairs most (l ++ (u, t) ∷ [])) ∷ st) (simp append_assoc) (next_map o k (l ++ (u, t) ∷ []) s eo (paired us a prefix c l u t b ha ec h) ek))
  comma_goes before prefix f st t k (prefix_first n s lo en) h ek = tt
  comma_goes before prefix f st t k (prefix_again n s en) h ek = tt
  comma_goes before prefix f st t k (infix_at o u s lo ha eo) h ek = tt
  comma_goes before prefix f st t k (test_at q u s lo ha eq) h ek = tt
  comma_goes before prefix f st t k (branch_at q c u v s lo ha eq hb ec) h ek = tt
  comma_goes before prefix f st t k (round_at o s eo) h ek = tt
  comma_goes before prefix f st t k (subscript_at o u s ha eo) h ek = tt
  comma_goes before prefix f st t k (map_at o l s eo b) h ek = tt

  -- a closing bracket after an expression
  round_goes : (ts pre prefix : List Lexeme) (st : List Frame) (o k : Lexeme) (t : Ast) → ts ≡ pre ++ (o ∷ (prefix ++ k ∷ [])) → Stacked most pre st → o.kind ≡ kind.LeftParen → Has 0 prefix t →
      (i : TokenKind) → k.kind ≡ i → Goes ts (have_whole st (closed_round (cut most t) i))
  round_goes ts pre prefix st o k t e s eo h kind.RightParen g = put ts pre (o ∷ (prefix ++ k ∷ [])) t (cut most t) st e refl s (brackets o k eo h g)
  round_goes ts pre prefix st o k t e s eo h i g = tt

  subscript_goes : (ts pre a prefix : List Lexeme) (st : List Frame) (o k : Lexeme) (t u : Ast) → ts ≡ pre ++ (a ++ o ∷ (prefix ++ k ∷ [])) → Stacked most pre st → Has 7 a u → o.kind ≡ kind.LeftBracket → Has 0 prefix t →
      (i : TokenKind) → k.kind ≡ i → Goes ts (have_whole st (closed_subscript most (cut most u) (cut most t) i (place k)))
  subscript_goes ts pre a prefix st o k t u e s ha eo h kind.RightBracket g =
      put ts pre (a ++ o ∷ (prefix ++ k ∷ [])) (Node (over (span_of u) (place k)) (Index u t)) (index_part most (cut most u) (cut most t) (place k)) st e (cut_index most u t (place k)) s (index o k ha eo h g)
  subscript_goes ts pre a prefix st o k t u e s ha eo h i g = tt

  pub close_goes : (before prefix : List Lexeme) (f : Frame) (st : List Frame) (t : Ast) (k : Lexeme) → Stacked most before (f ∷ st) → Has 0 prefix t →
      Goes ((before ++ prefix) ++ k ∷ []) (have_whole st (closed_frame most f (cut most t) k.kind (place k)))
  close_goes before prefix f st t k (round_at {pre = pre} o s eo) h = round_goes ((before ++ prefix) ++ k ∷ []) pre prefix st o k t (simp append_assoc) s eo h k.kind refl
  close_goes before prefix f st t k (subscript_at {pre = pre} {a = a} o u s ha eo) h = subscript_goes ((before ++ prefix) ++ k ∷ []) pre a prefix st o k t u (simp append_assoc) s ha eo h k.kind refl
  close_goes before prefix f st t k (list_at {pre = pre} {us = us} o l s eo b) h =
      end_list ((before ++ prefix) ++ k ∷ []) pre (us ++ prefix) st o k (l ++ t ∷ []) (added_item (cuts most l) (cut most t)) (simp append_assoc) (cuts_more most l t) s eo (items (arguments (listed us prefix l t b h))) k.kind refl
  close_goes before prefix f st t k (call_at {pre = pre} {us = us} n o l s en eo b) h =
      end_call ((before ++ prefix) ++ k ∷ []) pre (us ++ prefix) st n o k (l ++ t ∷ []) (added_item (cuts most l) (cut most t)) (simp append_assoc) (cuts_more most l t) s en eo (arguments (listed us prefix l t b h)) k.kind refl
  close_goes before prefix f st t k (method_at {pre = pre} {a = a} {us = us} d n o u l s ha ed en eo b) h =
      end_method ((before ++ prefix) ++ k ∷ []) pre a (us ++ prefix) st d n o k u (l ++ t ∷ []) (added_item (cuts most l) (cut most t)) (simp append_assoc) (cuts_more most l t) s ha ed en eo (arguments (listed us prefix l t b h)) k.kind refl
  close_goes before prefix f st t k (value_at {pre = pre} {us = us} {a = a} o c l u s eo b ha ec) h =
      end_map ((before ++ prefix) ++ k ∷ []) pre (us ++ (a ++ c ∷ prefix)) st o k (l ++ (u, t) ∷ []) (added_pair (cut_pairs most l) (cut most u) (cut most t)) (simp append_assoc) (cuts_pair most l u t) s eo (pairs (paired us a prefix c l u t b ha ec h)) k.kind refl
  close_goes before prefix f st t k (prefix_first n s lo en) h = tt
  close_goes before prefix f st t k (prefix_again n s en) h = tt
  close_goes before prefix f st t k (infix_at o u s lo ha eo) h = tt
  close_goes before prefix f st t k (test_at q u s lo ha eq) h = tt
  close_goes before prefix f st t k (branch_at q c u v s lo ha eq hb ec) h = tt
  close_goes before prefix f st t k (map_at o l s eo b) h = tt
