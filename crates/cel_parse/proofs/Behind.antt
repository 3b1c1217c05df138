-- Each token leads to a state that is reached.
use Rattle.std.proofs.Common.{◌≡◌, ℕ, suc, ◌≤◌, List, [], ◌∷◌, ◌++◌, true, false, Option, Some, None, refl, sym, ap, ◌∙◌, subst, arith, append_assoc}
use Rattle.cel_lex.specs.declared.token.TokenKind.{TokenKind}
use Rattle.cel_lex.specs.declared.token.TokenKind.TheVariants as kind
use Rattle.cel_lex.specs.Tokens.{Lexeme}
use Rattle.cel_tree.specs.declared.tree.UnaryOp.{UnaryOp}
use Rattle.cel_tree.specs.declared.tree.UnaryOp.TheVariants.{Not, Negate}
use Rattle.cel_tree.specs.declared.tree.BinaryOp.{BinaryOp}
use Rattle.cel_tree.specs.Ast.{Ast, Node, Ident, Member, span_of}
use Rattle.cel_parse.specs.declared.part.Part.{Part}
use Rattle.cel_parse.specs.declared.part.Parts.TheVariants as parts
use Rattle.cel_parse.specs.declared.part.Entries.TheVariants as entries
use Rattle.cel_parse.specs.declared.state.Due.{Due}
use Rattle.cel_parse.specs.declared.state.Due.TheVariants.{Expr, Prefixed, First, Next, Closing}
use Rattle.cel_parse.specs.declared.state.Hand.{Hand}
use Rattle.cel_parse.specs.declared.state.Hand.TheVariants.{Whole, Name, Field}
use Rattle.cel_parse.specs.declared.state.Mode.TheVariants.{Want, Have, Dot}
use Rattle.cel_parse.specs.declared.state.Frame.{Frame}
use Rattle.cel_parse.specs.declared.state.Frame.TheVariants as frame
use Rattle.cel_parse.specs.Grammar.{place, over, level, unary_op, binary_op, is_member_name, Has, name, member, no_argument, arguments, items, items_comma, no_pair, lone_comma, pairs_comma}
use Rattle.cel_parse.specs.Steps.{binds_top, reduced, part_of, State, may_prefix, may_end, passed, ended, asked, parted, next_of, closed, called, infixed, have_at, named_at, want_at, step_of}
use Rattle.cel_parse.proofs.Cut.{cut, cuts, cut_pairs, cut_member, cut_leaf, cuts_none, pairs_none}
use Rattle.cel_parse.proofs.Stops.{expects, expects_top, level_low, level_high}
use Rattle.cel_parse.proofs.Sound.{weaken, no_item, some_items, no_entry, some_entries, Stacked, prefix_first, prefix_again, infix_at, test_at, branch_at, round_at, subscript_at, list_at, call_at, method_at, map_at, value_at, Collapsed, reduced_sound}
use Rattle.cel_parse.proofs.Reached.{At, want_expr, want_member, first_list, first_map, first_call, first_method, next_list, next_map, closing_list, closing_map, have_whole_at, have_name_at, have_field_at, dotted, Goes, move, want_goes, end_list, end_call, end_method, end_map, comma_goes, close_goes, level_above, low_false}

level_within : (x : BinaryOp) → suc (level x) ≤ 6
level_within x = let l = level_high x in omega arith

module _ (most : ℕ) where
  -- a `?`
  asked_at : (ws : List Lexeme) (p : Part) (st : List Frame) (k : Lexeme) → Collapsed most 1 ws (p, st) → expects_top st ≤ 0 → k.kind ≡ kind.Question → At most (ws ++ k ∷ []) (Want Expr, frame.Test p ∷ st)
  asked_at ws p st k c lo ek =
      subst (λ (q : Part). At most (ws ++ k ∷ []) (Want Expr, frame.Test q ∷ st)) (sym c.part)
      (move most (ws ++ k ∷ []) (c.before ++ (c.prefix ++ k ∷ [])) (Want Expr, frame.Test (cut most c.tree) ∷ st) (ap (λ (l : List Lexeme). l ++ k ∷ []) c.same ∙ append_assoc c.before c.prefix (k ∷ []))
      (want_expr (test_at k c.tree c.stacked lo (weaken c.at 1 c.prefix c.tree c.high c.has) ek) (omega arith)))

  asked_goes : (ws : List Lexeme) (p : Part) (st : List Frame) (k : Lexeme) → Collapsed most 1 ws (p, st) → k.kind ≡ kind.Question → Goes most (ws ++ k ∷ []) (asked p st)
  asked_goes ws p [] k c ek = asked_at ws p [] k c (omega arith) ek
  asked_goes ws p (frame.Test q ∷ st) k c ek = tt
  asked_goes ws p (frame.Prefix x s ∷ st) k c ek = let e = c.stop in absurd (cc)
  asked_goes ws p (frame.Infix x q ∷ st) k c ek = absurd (low_false x c.stop)
  asked_goes ws p (f ∷ st) k c ek = asked_at ws p (f ∷ st) k c (omega arith) ek

  -- a `:`
  parted_by : (before prefix : List Lexeme) (f : Frame) (st : List Frame) (t : Ast) (m : ℕ) (k : Lexeme) → Stacked most before (f ∷ st) → Has m prefix t → expects f ≤ m → k.kind ≡ kind.Colon →
      Goes most ((before ++ prefix) ++ k ∷ []) (parted (cut most t) (f ∷ st))
  parted_by before prefix f st t m k (test_at {pre = pre} {a = a} q u s lo ha eq) h l ek =
      move most ((before ++ prefix) ++ k ∷ []) (pre ++ (a ++ q ∷ (prefix ++ k ∷ []))) (Want Expr, frame.Branch (cut most u) (cut most t) ∷ st) (simp append_assoc)
      (want_expr (branch_at q k u t s lo ha eq (weaken m 1 prefix t l h) ek) (omega arith))
  parted_by before prefix f st t m k (map_at {pre = pre} {us = us} o l s eo b) h i ek =
      move most ((before ++ prefix) ++ k ∷ []) (pre ++ (o ∷ (us ++ (prefix ++ k ∷ [])))) (Want Expr, frame.Value (place o) (cut_pairs most l) (cut most t) ∷ st) (simp append_assoc)
      (want_expr (value_at o k l t s eo b (weaken m 0 prefix t (omega arith) h) ek) (omega arith))
  parted_by before prefix f st t m k (prefix_first n s lo en) h l ek = tt
  parted_by before prefix f st t m k (prefix_again n s en) h l ek = tt
  parted_by before prefix f st t m k (infix_at o u s lo ha eo) h l ek = tt
  parted_by before prefix f st t m k (branch_at q c u v s lo ha eq hb ec) h l ek = tt
  parted_by before prefix f st t m k (round_at o s eo) h l ek = tt
  parted_by before prefix f st t m k (subscript_at o u s ha eo) h l ek = tt
  parted_by before prefix f st t m k (list_at o l s eo b) h i ek = tt
  parted_by before prefix f st t m k (call_at n o l s en eo b) h i ek = tt
  parted_by before prefix f st t m k (method_at d n o u l s ha ed en eo b) h i ek = tt
  parted_by before prefix f st t m k (value_at o c l u s eo b ha ec) h i ek = tt

  parted_goes : (ws : List Lexeme) (p : Part) (st : List Frame) (k : Lexeme) → Collapsed most 0 ws (p, st) → k.kind ≡ kind.Colon → Goes most (ws ++ k ∷ []) (parted p st)
  parted_goes ws p [] k c ek = tt
  parted_goes ws p (f ∷ st) k c ek =
      subst (λ (l : List Lexeme). Goes most (l ++ k ∷ []) (parted p (f ∷ st))) (sym c.same)
      (subst (λ (q : Part). Goes most ((c.before ++ c.prefix) ++ k ∷ []) (parted q (f ∷ st))) (sym c.part) (parted_by c.before c.prefix f st c.tree c.at k c.stacked c.has c.low ek))

  next_goes : (ws : List Lexeme) (p : Part) (st : List Frame) (k : Lexeme) → Collapsed most 0 ws (p, st) → k.kind ≡ kind.Comma → Goes most (ws ++ k ∷ []) (next_of p st)
  next_goes ws p [] k c ek = tt
  next_goes ws p (f ∷ st) k c ek =
      subst (λ (l : List Lexeme). Goes most (l ++ k ∷ []) (next_of p (f ∷ st))) (sym c.same)
      (subst (λ (q : Part). Goes most ((c.before ++ c.prefix) ++ k ∷ []) (next_of q (f ∷ st))) (sym c.part) (comma_goes most c.before c.prefix f st c.tree k c.stacked (weaken c.at 0 c.prefix c.tree (omega arith) c.has) ek))

  closed_goes : (ws : List Lexeme) (p : Part) (st : List Frame) (k : Lexeme) → Collapsed most 0 ws (p, st) → Goes most (ws ++ k ∷ []) (closed most p st k)
  closed_goes ws p [] k c = tt
  closed_goes ws p (f ∷ st) k c =
      subst (λ (l : List Lexeme). Goes most (l ++ k ∷ []) (closed most p (f ∷ st) k)) (sym c.same)
      (subst (λ (q : Part). Goes most ((c.before ++ c.prefix) ++ k ∷ []) (closed most q (f ∷ st) k)) (sym c.part) (close_goes most c.before c.prefix f st c.tree k c.stacked (weaken c.at 0 c.prefix c.tree (omega arith) c.has)))

  -- an operator with two operands
  low_by : (x : BinaryOp) (st : List Frame) → binds_top (level x) st ≡ false → expects_top st ≤ level x
  low_by x [] e = omega arith
  low_by x (frame.Prefix y s ∷ st) e = absurd (cc)
  low_by x (frame.Infix y q ∷ st) e = level_above x y e
  low_by x (frame.Test q ∷ st) e = level_low x
  low_by x (f ∷ st) e = omega arith

  infix_goes : (ws : List Lexeme) (p : Part) (st : List Frame) (k : Lexeme) (x : BinaryOp) → Collapsed most (level x) ws (p, st) → binary_op k.kind ≡ Some x → At most (ws ++ k ∷ []) (Want Expr, frame.Infix x p ∷ st)
  infix_goes ws p st k x c ek =
      subst (λ (q : Part). At most (ws ++ k ∷ []) (Want Expr, frame.Infix x q ∷ st)) (sym c.part)
      (move most (ws ++ k ∷ []) (c.before ++ (c.prefix ++ k ∷ [])) (Want Expr, frame.Infix x (cut most c.tree) ∷ st) (ap (λ (l : List Lexeme). l ++ k ∷ []) c.same ∙ append_assoc c.before c.prefix (k ∷ []))
      (want_expr (infix_at k c.tree c.stacked (low_by x st c.stop) (weaken c.at (level x) c.prefix c.tree c.high c.has) ek) (level_within x)))

  abbrev Collapses : List Lexeme → Part → List Frame → Type 0
  Collapses ws p st = (n : ℕ) → n ≤ 6 → Collapsed most n ws (reduced most n p st)

  operator_goes : (ws : List Lexeme) (p : Part) (st : List Frame) (k : Lexeme) → Collapses ws p st → (o : Option BinaryOp) → binary_op k.kind ≡ o → Goes most (ws ++ k ∷ []) (infixed most o p st)
  operator_goes ws p st k c None e = tt
  operator_goes ws p st k c (Some x) e = infix_goes ws (reduced most (level x) p st).0 (reduced most (level x) p st).1 k x (c (level x) (let l = level_high x in omega arith)) e

  have_goes : (pre ts : List Lexeme) (st : List Frame) (t : Ast) (h : Hand) (k : Lexeme) → Stacked most pre st → Has 7 ts t → part_of most h ≡ cut most t → Collapses (pre ++ ts) (part_of most h) st →
      (k.kind ≡ kind.LeftParen → Goes most ((pre ++ ts) ++ k ∷ []) (called h st)) →
      (i : TokenKind) → k.kind ≡ i → Goes most ((pre ++ ts) ++ k ∷ []) (have_at most i h st k)
  have_goes pre ts st t h k s g e c ca kind.Dot ek =
      subst (λ (q : Part). At most ((pre ++ ts) ++ k ∷ []) (Dot q, st)) (sym e) (move most ((pre ++ ts) ++ k ∷ []) (pre ++ (ts ++ k ∷ [])) (Dot (cut most t), st) (append_assoc pre ts (k ∷ [])) (dotted k t s g ek))
  have_goes pre ts st t h k s g e c ca kind.LeftBracket ek =
      subst (λ (q : Part). At most ((pre ++ ts) ++ k ∷ []) (Want Expr, frame.Subscript q ∷ st)) (sym e)
      (move most ((pre ++ ts) ++ k ∷ []) (pre ++ (ts ++ k ∷ [])) (Want Expr, frame.Subscript (cut most t) ∷ st) (append_assoc pre ts (k ∷ [])) (want_expr (subscript_at k t s g ek) (omega arith)))
  have_goes pre ts st t h k s g e c ca kind.LeftParen ek = ca ek
  have_goes pre ts st t h k s g e c ca kind.Question ek = asked_goes (pre ++ ts) (reduced most 1 (part_of most h) st).0 (reduced most 1 (part_of most h) st).1 k (c 1 (omega arith)) ek
  have_goes pre ts st t h k s g e c ca kind.Colon ek = parted_goes (pre ++ ts) (reduced most 0 (part_of most h) st).0 (reduced most 0 (part_of most h) st).1 k (c 0 (omega arith)) ek
  have_goes pre ts st t h k s g e c ca kind.Comma ek = next_goes (pre ++ ts) (reduced most 0 (part_of most h) st).0 (reduced most 0 (part_of most h) st).1 k (c 0 (omega arith)) ek
  have_goes pre ts st t h k s g e c ca kind.RightParen ek = closed_goes (pre ++ ts) (reduced most 0 (part_of most h) st).0 (reduced most 0 (part_of most h) st).1 k (c 0 (omega arith))
  have_goes pre ts st t h k s g e c ca kind.RightBracket ek = closed_goes (pre ++ ts) (reduced most 0 (part_of most h) st).0 (reduced most 0 (part_of most h) st).1 k (c 0 (omega arith))
  have_goes pre ts st t h k s g e c ca kind.RightBrace ek = closed_goes (pre ++ ts) (reduced most 0 (part_of most h) st).0 (reduced most 0 (part_of most h) st).1 k (c 0 (omega arith))
  have_goes pre ts st t h k s g e c ca i ek = operator_goes (pre ++ ts) (part_of most h) st k c (binary_op i) (ap binary_op ek)

  pub expects_within : (pre : List Lexeme) (st : List Frame) → Stacked most pre st → expects_top st ≤ 7
  expects_within pre st (infix_at o {x = x} u s lo ha eo) = let l = level_high x in omega arith
  expects_within pre st s = omega arith

  pub collapses : (pre ts : List Lexeme) (st : List Frame) (t : Ast) (p : Part) → Stacked most pre st → Has 7 ts t → p ≡ cut most t → Collapses (pre ++ ts) p st
  collapses pre ts st t p s h e n l =
      subst (λ (q : Part). Collapsed most n (pre ++ ts) (reduced most n q st)) (sym e) (reduced_sound most n 7 pre ts t st l s h (expects_within pre st s) (omega arith))

  name_goes : (pre a : List Lexeme) (st : List Frame) (d k : Lexeme) (t : Ast) → Stacked most pre st → Has 7 a t → d.kind ≡ kind.Dot → (i : TokenKind) → k.kind ≡ i → Goes most ((pre ++ (a ++ d ∷ [])) ++ k ∷ []) (named_at i (cut most t) st k)
  name_goes pre a st d k t s h ed kind.Ident e = move most ((pre ++ (a ++ d ∷ [])) ++ k ∷ []) (pre ++ (a ++ d ∷ k ∷ [])) (Have (Field (cut most t) (place k) k.text), st) (simp append_assoc) (have_field_at d k t s h ed (ap is_member_name e))
  name_goes pre a st d k t s h ed kind.Reserved e = move most ((pre ++ (a ++ d ∷ [])) ++ k ∷ []) (pre ++ (a ++ d ∷ k ∷ [])) (Have (Field (cut most t) (place k) k.text), st) (simp append_assoc) (have_field_at d k t s h ed (ap is_member_name e))
  name_goes pre a st d k t s h ed i e = tt

  again_is : (x y : UnaryOp) → may_prefix (Prefixed x) y ≡ true → x ≡ y
  again_is Not Not e = refl
  again_is Negate Negate e = refl
  again_is Not Negate e = absurd (cc)
  again_is Negate Not e = absurd (cc)

  -- the same at a frame of items that may begin
  fresh : (ts : List Lexeme) (f : Frame) (st : List Frame) (due : Due) (k : Lexeme) → Stacked most ts (f ∷ st) → expects f ≤ 0 →
      (may_end due ≡ true → Goes most (ts ++ k ∷ []) (ended most (f ∷ st) k)) → (k.kind ≡ kind.Comma → Goes most (ts ++ k ∷ []) (passed due (f ∷ st))) → Goes most (ts ++ k ∷ []) (step_of most (Want due) (f ∷ st) k)
  fresh ts f st due k s lo en pa = want_goes most ts (f ∷ st) due k s (λ x b e. want_member (prefix_first k s (omega arith) e)) en pa k.kind refl

  unfresh : (ts : List Lexeme) (f g : Frame) (st : List Frame) (k : Lexeme) → f ≡ g → Stacked most ts (g ∷ st) → Stacked most ts (f ∷ st)
  unfresh ts f g st k e s = subst (λ (x : Frame). Stacked most ts (x ∷ st)) (sym e) s

  closing_goes : (ts : List Lexeme) (f : Frame) (st : List Frame) (k : Lexeme) → Goes most (ts ++ k ∷ []) (ended most (f ∷ st) k) → (i : TokenKind) → k.kind ≡ i → Goes most (ts ++ k ∷ []) (want_at most i Closing (f ∷ st) k)
  closing_goes ts f st k h kind.RightParen e = h
  closing_goes ts f st k h kind.RightBracket e = h
  closing_goes ts f st k h kind.RightBrace e = h
  closing_goes ts f st k h i e = tt

  pub step_sound : (ts : List Lexeme) (x : State) (k : Lexeme) → At most ts x → Goes most (ts ++ k ∷ []) (step_of most x.0 x.1 k)
  step_sound ts x k (want_expr {st = st} s lo) = want_goes most ts st Expr k s (λ y b e. want_member (prefix_first k s lo e)) (λ b. absurd (cc)) (λ e. tt) k.kind refl
  step_sound ts x k (want_member {st = st} {x = op} {s = sp} s) =
      want_goes most ts (frame.Prefix op sp ∷ st) (Prefixed op) k s
      (λ y b e. let i = again_is op y b in subst (λ (z : UnaryOp). unary_op k.kind ≡ Some z → At most (ts ++ k ∷ []) (Want (Prefixed z), frame.Prefix z (place k) ∷ frame.Prefix op sp ∷ st)) i (λ e'. want_member (prefix_again k s e')) e)
      (λ b. absurd (cc)) (λ e. tt) k.kind refl
  step_sound ts x k (first_list {pre = pre} {st = st} o s eo) =
      fresh ts (frame.Square (place o) (parts.Shallow [] 0)) st First k (unfresh ts (frame.Square (place o) (parts.Shallow [] 0)) (frame.Square (place o) (cuts most [])) st k (ap (frame.Square (place o)) (cuts_none most)) (list_at o [] s eo no_item)) (omega arith)
      (λ b. end_list most (ts ++ k ∷ []) pre [] st o k [] (parts.Shallow [] 0) (append_assoc pre (o ∷ []) (k ∷ [])) (cuts_none most) s eo (items no_argument) k.kind refl)
      (λ e. move most (ts ++ k ∷ []) (pre ++ o ∷ k ∷ []) (Want Closing, frame.Square (place o) (parts.Shallow [] 0) ∷ st) (append_assoc pre (o ∷ []) (k ∷ [])) (closing_list o k s eo e))
  step_sound ts x k (first_map {pre = pre} {st = st} o s eo) =
      fresh ts (frame.Braces (place o) (entries.Shallow [] 0)) st First k (unfresh ts (frame.Braces (place o) (entries.Shallow [] 0)) (frame.Braces (place o) (cut_pairs most [])) st k (ap (frame.Braces (place o)) (pairs_none most)) (map_at o [] s eo no_entry)) (omega arith)
      (λ b. end_map most (ts ++ k ∷ []) pre [] st o k [] (entries.Shallow [] 0) (append_assoc pre (o ∷ []) (k ∷ [])) (pairs_none most) s eo no_pair k.kind refl)
      (λ e. move most (ts ++ k ∷ []) (pre ++ o ∷ k ∷ []) (Want Closing, frame.Braces (place o) (entries.Shallow [] 0) ∷ st) (append_assoc pre (o ∷ []) (k ∷ [])) (closing_map o k s eo e))
  step_sound ts x k (first_call {pre = pre} {st = st} n o s en eo) =
      fresh ts (frame.Function (place n) n.text (parts.Shallow [] 0)) st First k (unfresh ts (frame.Function (place n) n.text (parts.Shallow [] 0)) (frame.Function (place n) n.text (cuts most [])) st k (ap (frame.Function (place n) n.text) (cuts_none most)) (call_at n o [] s en eo no_item)) (omega arith)
      (λ b. end_call most (ts ++ k ∷ []) pre [] st n o k [] (parts.Shallow [] 0) (append_assoc pre (n ∷ o ∷ []) (k ∷ [])) (cuts_none most) s en eo no_argument k.kind refl)
      (λ e. tt)
  step_sound ts x k (first_method {pre = pre} {a = a} {st = st} d n o t s ha ed en eo) =
      fresh ts (frame.Method (cut most t) n.text (parts.Shallow [] 0)) st First k (unfresh ts (frame.Method (cut most t) n.text (parts.Shallow [] 0)) (frame.Method (cut most t) n.text (cuts most [])) st k (ap (frame.Method (cut most t) n.text) (cuts_none most)) (method_at d n o t [] s ha ed en eo no_item)) (omega arith)
      (λ b. end_method most (ts ++ k ∷ []) pre a [] st d n o k t [] (parts.Shallow [] 0) (simp append_assoc) (cuts_none most) s ha ed en eo no_argument k.kind refl)
      (λ e. tt)
  step_sound ts x k (next_list {pre = pre} {us = us} {st = st} o c l s eo h ec) =
      fresh ts (frame.Square (place o) (cuts most l)) st Next k (list_at o l s eo (some_items c h ec)) (omega arith)
      (λ b. end_list most (ts ++ k ∷ []) pre (us ++ c ∷ []) st o k l (cuts most l) (append_assoc pre (o ∷ (us ++ c ∷ [])) (k ∷ [])) refl s eo (items_comma c (arguments h) ec) k.kind refl)
      (λ e. tt)
  step_sound ts x k (next_map {pre = pre} {us = us} {st = st} o c l s eo h ec) =
      fresh ts (frame.Braces (place o) (cut_pairs most l)) st Next k (map_at o l s eo (some_entries c h ec)) (omega arith)
      (λ b. end_map most (ts ++ k ∷ []) pre (us ++ c ∷ []) st o k l (cut_pairs most l) (append_assoc pre (o ∷ (us ++ c ∷ [])) (k ∷ [])) refl s eo (pairs_comma c h ec) k.kind refl)
      (λ e. tt)
  step_sound ts x k (closing_list {pre = pre} {st = st} o c s eo ec) =
      closing_goes ts (frame.Square (place o) (parts.Shallow [] 0)) st k
      (end_list most (ts ++ k ∷ []) pre (c ∷ []) st o k [] (parts.Shallow [] 0) (append_assoc pre (o ∷ c ∷ []) (k ∷ [])) (cuts_none most) s eo (items_comma c no_argument ec) k.kind refl) k.kind refl
  step_sound ts x k (closing_map {pre = pre} {st = st} o c s eo ec) =
      closing_goes ts (frame.Braces (place o) (entries.Shallow [] 0)) st k
      (end_map most (ts ++ k ∷ []) pre (c ∷ []) st o k [] (entries.Shallow [] 0) (append_assoc pre (o ∷ c ∷ []) (k ∷ [])) (pairs_none most) s eo (lone_comma c ec) k.kind refl) k.kind refl
  step_sound ts x k (have_whole_at {pre = pre} {ts = us} {st = st} t s h) =
      have_goes pre us st t (Whole (cut most t)) k s h refl (collapses pre us st t (cut most t) s h refl) (λ e. tt) k.kind refl
  step_sound ts x k (have_name_at {pre = pre} {st = st} n s en) =
      have_goes pre (n ∷ []) st (Node (place n) (Ident n.text)) (Name (place n) n.text) k s (name n en) (cut_leaf most (place n) (Ident n.text) refl)
      (collapses pre (n ∷ []) st (Node (place n) (Ident n.text)) (part_of most (Name (place n) n.text)) s (name n en) (cut_leaf most (place n) (Ident n.text) refl))
      (λ e. move most (ts ++ k ∷ []) (pre ++ n ∷ k ∷ []) (Want First, frame.Function (place n) n.text (parts.Shallow [] 0) ∷ st) (append_assoc pre (n ∷ []) (k ∷ [])) (first_call n k s en e)) k.kind refl
  step_sound ts x k (have_field_at {pre = pre} {a = a} {st = st} d n t s ha ed en) =
      have_goes pre (a ++ d ∷ n ∷ []) st (Node (over (span_of t) (place n)) (Member t n.text)) (Field (cut most t) (place n) n.text) k s (member d n ha ed en) (cut_member most t (place n) n.text)
      (collapses pre (a ++ d ∷ n ∷ []) st (Node (over (span_of t) (place n)) (Member t n.text)) (part_of most (Field (cut most t) (place n) n.text)) s (member d n ha ed en) (cut_member most t (place n) n.text))
      (λ e. move most (ts ++ k ∷ []) (pre ++ (a ++ d ∷ n ∷ k ∷ [])) (Want First, frame.Method (cut most t) n.text (parts.Shallow [] 0) ∷ st) (simp append_assoc) (first_method d n k t s ha ed en e)) k.kind refl
  step_sound ts x k (dotted {pre = pre} {a = a} {st = st} d t s ha ed) = name_goes pre a st d k t s ha ed k.kind refl
