-- What has a tree is read as that tree, whatever follows that doesn't go on with it.
use Rattle.std.proofs.Common.{◌≡◌, ℕ, suc, ◌≤◌, nat_le, List, [], ◌∷◌, ◌++◌, Bool, true, false, Option, Some, None, refl, sym, ap, ◌∙◌, subst, arith, if◌then◌else◌, append_assoc, append-nil, le_refl}
use Rattle.std.proofs.lemmas.Bool.Decides.{nat_tests}
use Rattle.cel_lex.specs.declared.token.TokenKind.{TokenKind}
use Rattle.cel_lex.specs.declared.token.TokenKind.TheVariants as kind
use Rattle.cel_lex.specs.Tokens.{Lexeme}
use Rattle.cel_tree.specs.declared.tree.Span.{Span}
use Rattle.cel_tree.specs.declared.tree.UnaryOp.{UnaryOp}
use Rattle.cel_tree.specs.declared.tree.UnaryOp.TheVariants.{Not, Negate}
use Rattle.cel_tree.specs.declared.tree.BinaryOp.{BinaryOp}
use Rattle.cel_tree.specs.Ast.{Constant, Ast, Literal', Ident}
use Rattle.cel_parse.specs.declared.part.Part.{Part}
use Rattle.cel_parse.specs.declared.part.Parts.{Parts}
use Rattle.cel_parse.specs.declared.part.Parts.TheVariants as parts
use Rattle.cel_parse.specs.declared.part.Entries.{Entries}
use Rattle.cel_parse.specs.declared.part.Entries.TheVariants as entries
use Rattle.cel_parse.specs.declared.state.Due.{Due}
use Rattle.cel_parse.specs.declared.state.Due.TheVariants.{Expr, Prefixed, First, Next, Closing}
use Rattle.cel_parse.specs.declared.state.Hand.{Hand}
use Rattle.cel_parse.specs.declared.state.Hand.TheVariants.{Whole, Name, Field}
use Rattle.cel_parse.specs.declared.state.Mode.TheVariants.{Want, Have, Dot}
use Rattle.cel_parse.specs.declared.state.Frame.{Frame}
use Rattle.cel_parse.specs.declared.state.Frame.TheVariants as frame
use Rattle.cel_parse.specs.Grammar.{place, over, level, unary_op, binary_op, constant_of, is_member_name, Has, tighter, conditional, binary, unary, literal, name, brackets, member, index, call, method, list, map_literal, Repeats, once, again, Listed, first, more, Arguments, no_argument, arguments, Items, items, items_comma, Paired, first_pair, more_pairs, Inits, no_pair, lone_comma, pairs, pairs_comma}
use Rattle.cel_parse.specs.Parts.{leaf_part, index_part}
use Rattle.cel_parse.specs.Operands.{hand_of, operand_at, operand_of}
use Rattle.cel_parse.specs.Steps.{binds, completed, reduced, State, may_begin, may_end, may_prefix, opened, prefixed, ended, ended_frame, have_whole, have_operand, want_at, asked, grown, want_next, next_of, closed_grown, closed_round, closed_subscript, closed_frame, closed, infixed, have_at, named_at, step_of, Reading, Read, read_token, reading, begun}
use Rattle.cel_parse.proofs.Cut.{cut, cuts, cut_pairs, cut_unary, cut_binary, cut_conditional, cut_member, cut_index, cut_call, cut_method, cut_list, cut_map, cut_leaf, cuts_none, pairs_none, cuts_more, cuts_pair}
use Rattle.cel_parse.proofs.Stops.{expects, expects_top, stops, stops_op, Follows, follows_more, level_low, level_high, reduced_none, go_step, unwind, whole}

-- an operand of the level may begin
abbrev pub Allows : Due → ℕ → Type 0
Allows Closing n = ⊥
Allows (Prefixed x) n = 7 ≤ n
Allows d n = Unit {0}

begins : (d : Due) (n : ℕ) → Allows d n → may_begin d ≡ true
begins Closing n a = absurd a
begins d n a = refl

prefixes : (d : Due) (n : ℕ) (x : UnaryOp) → n ≤ 6 → Allows d n → may_prefix d x ≡ true
prefixes Closing n x h a = absurd a
prefixes (Prefixed y) n x h a = absurd (omega arith)
prefixes d n x h a = refl

prefixes_again : (x : UnaryOp) → may_prefix (Prefixed x) x ≡ true
prefixes_again Not = refl
prefixes_again Negate = refl

allows_more : (d : Due) (n : ℕ) → Allows d n → Allows d (suc n)
allows_more Closing n a = a
allows_more (Prefixed x) n a = omega arith
allows_more d n a = a

abbrev pub Closer : TokenKind → Type 0
Closer kind.RightParen = Unit {0}
Closer kind.RightBracket = Unit {0}
Closer kind.RightBrace = Unit {0}
Closer k = ⊥

closer_is : (k c : TokenKind) → k ≡ c → Closer c → Closer k
closer_is k c e h = subst Closer (sym e) h

stops_closer : (n : ℕ) (k : TokenKind) → Closer k → stops n k ≡ true
stops_closer n kind.RightParen h = refl
stops_closer n kind.RightBracket h = refl
stops_closer n kind.RightBrace h = refl
stops_closer n k h = absurd h

stops_is : (n : ℕ) (k c : TokenKind) → k ≡ c → stops n c ≡ true → stops n k ≡ true
stops_is n k c e h = ap (stops n) e ∙ h

stops_operator : (n : ℕ) (x : BinaryOp) (k : TokenKind) → binary_op k ≡ Some x → nat_le (level x) n ≡ true → stops n k ≡ true
stops_operator n x kind.LeftParen e h = absurd (cc)
stops_operator n x kind.Dot e h = absurd (cc)
stops_operator n x kind.LeftBracket e h = absurd (cc)
stops_operator n x kind.Question e h = absurd (cc)
stops_operator n x k e h = ap (stops_op n) e ∙ h

is_le : (n m : ℕ) → n ≤ m → nat_le n m ≡ true
is_le n m h = grind (arith, nat_tests)

le_is : (n m : ℕ) → nat_le n m ≡ true → n ≤ m
le_is n m h = grind (arith, nat_tests)

low_le : (x : BinaryOp) (m : ℕ) → m ≤ level x → nat_le m (level x) ≡ true
low_le x m h = is_le m (level x) h

module _ (most : ℕ) (e : Span) where
  abbrev run : List Lexeme → State → Reading
  run = reading most e

  -- the steps where an operand is expected
  want_by : (due : Due) (st : List Frame) (t : Lexeme) (c : TokenKind) (o : Option State) → t.kind ≡ c → want_at most c due st t ≡ o → step_of most (Want due) st t ≡ o
  want_by due st t c o h g = ap (λ (k : TokenKind). want_at most k due st t) h ∙ g

  open_by : (due : Due) (f : Frame) (next : Due) (st : List Frame) → may_begin due ≡ true → opened due f next st ≡ Some (Want next, f ∷ st)
  open_by due f next st h = ap (λ (b : Bool). if b then Some (Want next, f ∷ st) else None) h

  prefix_by : (due : Due) (x : UnaryOp) (s : Span) (st : List Frame) → may_prefix due x ≡ true → prefixed due x s st ≡ Some (Want (Prefixed x), frame.Prefix x s ∷ st)
  prefix_by due x s st h = ap (λ (b : Bool). if b then Some (Want (Prefixed x), frame.Prefix x s ∷ st) else None) h

  want_prefix_at : (due : Due) (x : UnaryOp) (st : List Frame) (t : Lexeme) (k : TokenKind) → unary_op k ≡ Some x → want_at most k due st t ≡ prefixed due x (place t) st
  want_prefix_at due x st t kind.Not h = ap (λ (y : UnaryOp). prefixed due y (place t) st) (cc)
  want_prefix_at due x st t kind.Minus h = ap (λ (y : UnaryOp). prefixed due y (place t) st) (cc)
  want_prefix_at due x st t k h = absurd (cc)

  want_constant_at : (due : Due) (c : Constant) (st : List Frame) (t : Lexeme) → may_begin due ≡ true → (k : TokenKind) → constant_of k t.text ≡ Some c → t.kind ≡ k →
      want_at most k due st t ≡ Some (Have (Whole (leaf_part most (place t) (Literal' c))), st)
  want_constant_at due c st t b kind.LeftParen h g = absurd (cc)
  want_constant_at due c st t b kind.LeftBracket h g = absurd (cc)
  want_constant_at due c st t b kind.LeftBrace h g = absurd (cc)
  want_constant_at due c st t b kind.Not h g = absurd (cc)
  want_constant_at due c st t b kind.Minus h g = absurd (cc)
  want_constant_at due c st t b kind.RightParen h g = absurd (cc)
  want_constant_at due c st t b kind.RightBracket h g = absurd (cc)
  want_constant_at due c st t b kind.RightBrace h g = absurd (cc)
  want_constant_at due c st t b kind.Comma h g = absurd (cc)
  want_constant_at due c st t b kind.Ident h g = absurd (cc)
  want_constant_at due c st t b k h g =
      ap (λ (d : Bool). if d then have_operand st (operand_of most t) else None) b
      ∙ ap (λ (i : TokenKind). have_operand st (operand_at most i t)) g
      ∙ ap (λ (o : Option Constant). have_operand st (hand_of most (place t) o)) h

  want_name : (due : Due) (st : List Frame) (t : Lexeme) → may_begin due ≡ true → t.kind ≡ kind.Ident → step_of most (Want due) st t ≡ Some (Have (Name (place t) t.text), st)
  want_name due st t b g =
      want_by due st t kind.Ident _ g (ap (λ (d : Bool). if d then have_operand st (operand_of most t) else None) b
      ∙ ap (λ (i : TokenKind). have_operand st (operand_at most i t)) g)

  want_end_at : (due : Due) (f : Frame) (st : List Frame) (t : Lexeme) → may_end due ≡ true → (k : TokenKind) → Closer k →
      want_at most k due (f ∷ st) t ≡ have_whole st (ended_frame most f t.kind (place t))
  want_end_at due f st t b kind.RightParen h = ap (λ (d : Bool). if d then ended most (f ∷ st) t else None) b
  want_end_at due f st t b kind.RightBracket h = ap (λ (d : Bool). if d then ended most (f ∷ st) t else None) b
  want_end_at due f st t b kind.RightBrace h = ap (λ (d : Bool). if d then ended most (f ∷ st) t else None) b
  want_end_at due f st t b k h = absurd h

  -- the steps after an expression
  have_by : (h : Hand) (st : List Frame) (t : Lexeme) (c : TokenKind) (o : Option State) → t.kind ≡ c → have_at most c h st t ≡ o → step_of most (Have h) st t ≡ o
  have_by h st t c o g i = ap (λ (k : TokenKind). have_at most k h st t) g ∙ i

  operator_at : (x : BinaryOp) (p : Part) (st : List Frame) (t : Lexeme) → expects_top st ≤ level x → (k : TokenKind) → binary_op k ≡ Some x →
      have_at most k (Whole p) st t ≡ Some (Want Expr, frame.Infix x p ∷ st)
  operator_at x p st t h kind.Dot g = absurd (cc)
  operator_at x p st t h kind.LeftBracket g = absurd (cc)
  operator_at x p st t h kind.LeftParen g = absurd (cc)
  operator_at x p st t h kind.Question g = absurd (cc)
  operator_at x p st t h kind.Colon g = absurd (cc)
  operator_at x p st t h kind.Comma g = absurd (cc)
  operator_at x p st t h kind.RightParen g = absurd (cc)
  operator_at x p st t h kind.RightBracket g = absurd (cc)
  operator_at x p st t h kind.RightBrace g = absurd (cc)
  operator_at x p st t h k g =
      ap (λ (o : Option BinaryOp). infixed most o p st) g
      ∙ ap (λ (r : Part × List Frame). Some (Want Expr, frame.Infix x r.0 ∷ r.1)) (reduced_none most (level x) p st (level_low x) (let l = level_high x in omega arith) h)

  asked_by : (p : Part) (st : List Frame) → expects_top st ≤ 0 → asked p st ≡ Some (Want Expr, frame.Test p ∷ st)
  asked_by p [] h = refl
  asked_by p (frame.Test q ∷ st) h = absurd (omega arith)
  asked_by p (f ∷ st) h = refl

  -- a closing bracket after an expression in a frame that waits for one
  have_close_at : (p : Part) (f : Frame) (st : List Frame) (t : Lexeme) → binds 0 f ≡ false → (k : TokenKind) → Closer k →
      have_at most k (Whole p) (f ∷ st) t ≡ have_whole st (closed_frame most f p t.kind (place t))
  have_close_at p f st t b kind.RightParen h = ap (λ (d : Bool). closed most (if d then reduced most 0 (completed most f p) st else (p, f ∷ st)).0 (if d then reduced most 0 (completed most f p) st else (p, f ∷ st)).1 t) b
  have_close_at p f st t b kind.RightBracket h = ap (λ (d : Bool). closed most (if d then reduced most 0 (completed most f p) st else (p, f ∷ st)).0 (if d then reduced most 0 (completed most f p) st else (p, f ∷ st)).1 t) b
  have_close_at p f st t b kind.RightBrace h = ap (λ (d : Bool). closed most (if d then reduced most 0 (completed most f p) st else (p, f ∷ st)).0 (if d then reduced most 0 (completed most f p) st else (p, f ∷ st)).1 t) b
  have_close_at p f st t b k h = absurd h

  have_comma : (p : Part) (f : Frame) (st : List Frame) (t : Lexeme) → binds 0 f ≡ false → t.kind ≡ kind.Comma → step_of most (Have (Whole p)) (f ∷ st) t ≡ want_next st (grown f p)
  have_comma p f st t b g =
      have_by (Whole p) (f ∷ st) t kind.Comma _ g
      (ap (λ (d : Bool). next_of (if d then reduced most 0 (completed most f p) st else (p, f ∷ st)).0 (if d then reduced most 0 (completed most f p) st else (p, f ∷ st)).1) b)

  name_at : (o : Part) (st : List Frame) (t : Lexeme) (k : TokenKind) → is_member_name k ≡ true → named_at k o st t ≡ Some (Have (Field o (place t) t.text), st)
  name_at o st t kind.Ident h = refl
  name_at o st t kind.Reserved h = refl
  name_at o st t k h = absurd (cc)

  -- a frame of items: it takes another item, and then waits as `next` says
  pub record Grows (F : List Ast → Frame) (next : Due) : Type 0 where
    pub grows : (l : List Ast) (t : Ast) → grown (F l) (cut most t) ≡ Some (F (l ++ t ∷ []), next)
    pub stands : (l : List Ast) → binds 0 (F l) ≡ false
    pub low : (l : List Ast) → expects (F l) ≡ 0
    pub closes : (l : List Ast) (p : Part) (k : TokenKind) (s : Span) → closed_frame most (F l) p k s ≡ closed_grown most (grown (F l) p) k s
    pub allows : Allows next 0

  square_grows : (s : Span) → Grows (λ l. frame.Square s (cuts most l)) Next
  square_grows s = record {
    grows = λ l t. ap (λ (ps : Parts). Some (frame.Square s ps, Next)) (cuts_more most l t);
    stands = λ l. refl;
    low = λ l. refl;
    closes = λ l p k i. refl;
    allows = tt;
  }

  function_grows : (s : Span) (n : List ℕ) → Grows (λ l. frame.Function s n (cuts most l)) Expr
  function_grows s n = record {
    grows = λ l t. ap (λ (ps : Parts). Some (frame.Function s n ps, Expr)) (cuts_more most l t);
    stands = λ l. refl;
    low = λ l. refl;
    closes = λ l p k i. refl;
    allows = tt;
  }

  method_grows : (o : Part) (n : List ℕ) → Grows (λ l. frame.Method o n (cuts most l)) Expr
  method_grows o n = record {
    grows = λ l t. ap (λ (ps : Parts). Some (frame.Method o n ps, Expr)) (cuts_more most l t);
    stands = λ l. refl;
    low = λ l. refl;
    closes = λ l p k i. refl;
    allows = tt;
  }

  -- a bracket that closes a frame of items where none is read last
  end_items : (due : Due) (f : Frame) (st : List Frame) (k : Lexeme) (rest : List Lexeme) → may_end due ≡ true → Closer k.kind →
      run (k ∷ rest) (Want due, f ∷ st) ≡ read_token (place k) (have_whole st (ended_frame most f k.kind (place k))) (run rest)
  end_items due f st k rest b c = ap (λ (o : Option State). read_token (place k) o (run rest)) (want_end_at due f st k b k.kind c)

  mutual
    pub complete : (n : ℕ) (ts : List Lexeme) (t : Ast) (due : Due) (st : List Frame) (rest : List Lexeme) → Has n ts t → Allows due n → expects_top st ≤ n → Follows n rest →
        run (ts ++ rest) (Want due, st) ≡ run rest (Have (Whole (cut most t)), st)
    complete n ts t due st rest (tighter h) al lo fo =
        complete (suc n) ts t due st rest h (allows_more due n al) (omega arith) (follows_more n (suc n) (omega arith) rest fo)
    complete n ts t due st rest (conditional {a = a} {b = b} {c = c} q k {t = x} {u = y} {v = z} ha eq hb ek hc) al lo fo =
        ap (λ (l : List Lexeme). run l (Want due, st)) (append_assoc a (q ∷ (b ++ k ∷ c)) rest ∙ ap (λ (l : List Lexeme). a ++ (q ∷ l)) (append_assoc b (k ∷ c) rest))
        ∙ complete 1 a x due st (q ∷ (b ++ (k ∷ (c ++ rest)))) ha (allows_more due 0 al) (omega arith) (stops_is 1 q.kind kind.Question eq refl)
        ∙ go_step most e q (b ++ (k ∷ (c ++ rest))) (Have (Whole (cut most x)), st) (Want Expr, frame.Test (cut most x) ∷ st)
        (have_by (Whole (cut most x)) st q kind.Question _ eq
        (ap (λ (r : Part × List Frame). asked r.0 r.1) (reduced_none most 1 (cut most x) st (omega arith) (omega arith) (omega arith)) ∙ asked_by (cut most x) st lo))
        ∙ complete 1 b y Expr (frame.Test (cut most x) ∷ st) (k ∷ (c ++ rest)) hb tt (omega arith) (stops_is 1 k.kind kind.Colon ek refl)
        ∙ go_step most e k (c ++ rest) (Have (Whole (cut most y)), frame.Test (cut most x) ∷ st) (Want Expr, frame.Branch (cut most x) (cut most y) ∷ st)
        (have_by (Whole (cut most y)) (frame.Test (cut most x) ∷ st) k kind.Colon _ ek refl)
        ∙ complete 0 c z Expr (frame.Branch (cut most x) (cut most y) ∷ st) rest hc tt (omega arith) fo
        ∙ unwind most e 0 (cut most z) (frame.Branch (cut most x) (cut most y)) st rest (omega arith) (λ m h. grind (arith, nat_tests)) fo
        ∙ ap (λ (p : Part). run rest (Have (Whole p), st)) (cut_conditional most x y z)
    complete n ts t due st rest (binary {a = a} {b = b} o {x = x} {t = u} {u = v} eo ha hb) al lo fo =
        ap (λ (l : List Lexeme). run l (Want due, st)) (append_assoc a (o ∷ b) rest)
        ∙ complete (level x) a u due st (o ∷ (b ++ rest)) ha al lo (stops_operator (level x) x o.kind eo (low_le x (level x) (le_refl (level x))))
        ∙ go_step most e o (b ++ rest) (Have (Whole (cut most u)), st) (Want Expr, frame.Infix x (cut most u) ∷ st) (operator_at x (cut most u) st o lo o.kind eo)
        ∙ complete (suc (level x)) b v Expr (frame.Infix x (cut most u) ∷ st) rest hb tt (le_refl (suc (level x))) (follows_more (level x) (suc (level x)) (omega arith) rest fo)
        ∙ unwind most e (level x) (cut most v) (frame.Infix x (cut most u)) st rest (let l = level_high x in omega arith) (λ m h. low_le x m h) fo
        ∙ ap (λ (p : Part). run rest (Have (Whole p), st)) (cut_binary most x u v)
    complete n ts t due st rest (unary {x = x} r) al lo fo = repeats_complete x ts t due st rest r (prefixes due 6 x (omega arith) al) fo
    complete n ts t due st rest (literal k {c = c} h) al lo fo =
        go_step most e k rest (Want due, st) (Have (Whole (leaf_part most (place k) (Literal' c))), st) (want_constant_at due c st k (begins due 7 al) k.kind h refl)
        ∙ ap (λ (p : Part). run rest (Have (Whole p), st)) (cut_leaf most (place k) (Literal' c) refl)
    complete n ts t due st rest (name k h) al lo fo =
        go_step most e k rest (Want due, st) (Have (Name (place k) k.text), st) (want_name due st k (begins due 7 al) h)
        ∙ whole most e (Name (place k) k.text) st rest fo
        ∙ ap (λ (p : Part). run rest (Have (Whole p), st)) (cut_leaf most (place k) (Ident k.text) refl)
    complete n ts t due st rest (brackets {ts = us} o c eo h ec) al lo fo =
        ap (λ (l : List Lexeme). run (o ∷ l) (Want due, st)) (append_assoc us (c ∷ []) rest)
        ∙ go_step most e o (us ++ (c ∷ rest)) (Want due, st) (Want Expr, frame.Round ∷ st) (want_by due st o kind.LeftParen _ eo (open_by due frame.Round Expr st (begins due 7 al)))
        ∙ complete 0 us t Expr (frame.Round ∷ st) (c ∷ rest) h tt (omega arith) (stops_closer 0 c.kind (closer_is c.kind kind.RightParen ec tt))
        ∙ go_step most e c rest (Have (Whole (cut most t)), frame.Round ∷ st) (Have (Whole (cut most t)), st)
        (have_close_at (cut most t) frame.Round st c refl c.kind (closer_is c.kind kind.RightParen ec tt) ∙ ap (λ (k : TokenKind). have_whole st (closed_round (cut most t) k)) ec)
    complete n ts t due st rest (member {ts = us} d k {t = x} h ed ek) al lo fo =
        ap (λ (l : List Lexeme). run l (Want due, st)) (append_assoc us (d ∷ k ∷ []) rest)
        ∙ complete 7 us x due st (d ∷ k ∷ rest) h al lo (stops_is 7 d.kind kind.Dot ed refl)
        ∙ go_step most e d (k ∷ rest) (Have (Whole (cut most x)), st) (Dot (cut most x), st) (have_by (Whole (cut most x)) st d kind.Dot _ ed refl)
        ∙ go_step most e k rest (Dot (cut most x), st) (Have (Field (cut most x) (place k) k.text), st) (name_at (cut most x) st k k.kind ek)
        ∙ whole most e (Field (cut most x) (place k) k.text) st rest fo
        ∙ ap (λ (p : Part). run rest (Have (Whole p), st)) (cut_member most x (place k) k.text)
    complete n ts t due st rest (index {ts = us} {us = vs} o c {t = x} {u = y} h eo i ec) al lo fo =
        ap (λ (l : List Lexeme). run l (Want due, st)) (append_assoc us (o ∷ (vs ++ c ∷ [])) rest ∙ ap (λ (l : List Lexeme). us ++ (o ∷ l)) (append_assoc vs (c ∷ []) rest))
        ∙ complete 7 us x due st (o ∷ (vs ++ (c ∷ rest))) h al lo (stops_is 7 o.kind kind.LeftBracket eo refl)
        ∙ go_step most e o (vs ++ (c ∷ rest)) (Have (Whole (cut most x)), st) (Want Expr, frame.Subscript (cut most x) ∷ st) (have_by (Whole (cut most x)) st o kind.LeftBracket _ eo refl)
        ∙ complete 0 vs y Expr (frame.Subscript (cut most x) ∷ st) (c ∷ rest) i tt (omega arith) (stops_closer 0 c.kind (closer_is c.kind kind.RightBracket ec tt))
        ∙ go_step most e c rest (Have (Whole (cut most y)), frame.Subscript (cut most x) ∷ st) (Have (Whole (index_part most (cut most x) (cut most y) (place c))), st)
        (have_close_at (cut most y) (frame.Subscript (cut most x)) st c refl c.kind (closer_is c.kind kind.RightBracket ec tt)
        ∙ ap (λ (k : TokenKind). have_whole st (closed_subscript most (cut most x) (cut most y) k (place c))) ec)
        ∙ ap (λ (p : Part). run rest (Have (Whole p), st)) (cut_index most x y (place c))
    complete n ts t due st rest (call {us = us} k o c {l = l} ek eo h ec) al lo fo =
        ap (λ (x : List Lexeme). run (k ∷ o ∷ x) (Want due, st)) (append_assoc us (c ∷ []) rest)
        ∙ go_step most e k (o ∷ (us ++ (c ∷ rest))) (Want due, st) (Have (Name (place k) k.text), st) (want_name due st k (begins due 7 al) ek)
        ∙ go_step most e o (us ++ (c ∷ rest)) (Have (Name (place k) k.text), st) (Want First, frame.Function (place k) k.text (cuts most []) ∷ st)
        (have_by (Name (place k) k.text) st o kind.LeftParen _ eo (ap (λ (ps : Parts). Some (Want First, frame.Function (place k) k.text ps ∷ st)) (cuts_none most)))
        ∙ arguments_close us l (λ m. frame.Function (place k) k.text (cuts most m)) Expr (function_grows (place k) k.text) st c rest h (closer_is c.kind kind.RightParen ec tt)
        ∙ ap (λ (i : TokenKind). read_token (place c) (have_whole st (ended_frame most (frame.Function (place k) k.text (cuts most l)) i (place c))) (run rest)) ec
        ∙ ap (λ (p : Part). run rest (Have (Whole p), st)) (cut_call most (over (place k) (place c)) k.text l)
    complete n ts t due st rest (method {ts = vs} {us = us} d k o c {t = x} {l = l} h ed ek eo i ec) al lo fo =
        ap (λ (m : List Lexeme). run m (Want due, st)) (append_assoc vs (d ∷ k ∷ o ∷ (us ++ c ∷ [])) rest ∙ ap (λ (m : List Lexeme). vs ++ (d ∷ k ∷ o ∷ m)) (append_assoc us (c ∷ []) rest))
        ∙ complete 7 vs x due st (d ∷ k ∷ o ∷ (us ++ (c ∷ rest))) h al lo (stops_is 7 d.kind kind.Dot ed refl)
        ∙ go_step most e d (k ∷ o ∷ (us ++ (c ∷ rest))) (Have (Whole (cut most x)), st) (Dot (cut most x), st) (have_by (Whole (cut most x)) st d kind.Dot _ ed refl)
        ∙ go_step most e k (o ∷ (us ++ (c ∷ rest))) (Dot (cut most x), st) (Have (Field (cut most x) (place k) k.text), st) (name_at (cut most x) st k k.kind ek)
        ∙ go_step most e o (us ++ (c ∷ rest)) (Have (Field (cut most x) (place k) k.text), st) (Want First, frame.Method (cut most x) k.text (cuts most []) ∷ st)
        (have_by (Field (cut most x) (place k) k.text) st o kind.LeftParen _ eo (ap (λ (ps : Parts). Some (Want First, frame.Method (cut most x) k.text ps ∷ st)) (cuts_none most)))
        ∙ arguments_close us l (λ m. frame.Method (cut most x) k.text (cuts most m)) Expr (method_grows (cut most x) k.text) st c rest i (closer_is c.kind kind.RightParen ec tt)
        ∙ ap (λ (j : TokenKind). read_token (place c) (have_whole st (ended_frame most (frame.Method (cut most x) k.text (cuts most l)) j (place c))) (run rest)) ec
        ∙ ap (λ (p : Part). run rest (Have (Whole p), st)) (cut_method most x k.text l (place c))
    complete n ts t due st rest (list {us = us} o c {l = l} eo h ec) al lo fo =
        ap (λ (x : List Lexeme). run (o ∷ x) (Want due, st)) (append_assoc us (c ∷ []) rest)
        ∙ go_step most e o (us ++ (c ∷ rest)) (Want due, st) (Want First, frame.Square (place o) (cuts most []) ∷ st)
        (want_by due st o kind.LeftBracket _ eo (open_by due (frame.Square (place o) (parts.Shallow [] 0)) First st (begins due 7 al) ∙ ap (λ (ps : Parts). Some (Want First, frame.Square (place o) ps ∷ st)) (cuts_none most)))
        ∙ items_close us l (place o) st c rest h (closer_is c.kind kind.RightBracket ec tt)
        ∙ ap (λ (i : TokenKind). read_token (place c) (have_whole st (ended_frame most (frame.Square (place o) (cuts most l)) i (place c))) (run rest)) ec
        ∙ ap (λ (p : Part). run rest (Have (Whole p), st)) (cut_list most (over (place o) (place c)) l)
    complete n ts t due st rest (map_literal {us = us} o c {l = l} eo h ec) al lo fo =
        ap (λ (x : List Lexeme). run (o ∷ x) (Want due, st)) (append_assoc us (c ∷ []) rest)
        ∙ go_step most e o (us ++ (c ∷ rest)) (Want due, st) (Want First, frame.Braces (place o) (cut_pairs most []) ∷ st)
        (want_by due st o kind.LeftBrace _ eo (open_by due (frame.Braces (place o) (entries.Shallow [] 0)) First st (begins due 7 al) ∙ ap (λ (ps : Entries). Some (Want First, frame.Braces (place o) ps ∷ st)) (pairs_none most)))
        ∙ inits_close us l (place o) st c rest h (closer_is c.kind kind.RightBrace ec tt)
        ∙ ap (λ (i : TokenKind). read_token (place c) (have_whole st (ended_frame most (frame.Braces (place o) (cut_pairs most l)) i (place c))) (run rest)) ec
        ∙ ap (λ (p : Part). run rest (Have (Whole p), st)) (cut_map most (over (place o) (place c)) l)

    repeats_complete : (x : UnaryOp) (ts : List Lexeme) (t : Ast) (due : Due) (st : List Frame) (rest : List Lexeme) → Repeats x ts t → may_prefix due x ≡ true → Follows 6 rest →
        run (ts ++ rest) (Want due, st) ≡ run rest (Have (Whole (cut most t)), st)
    repeats_complete x ts t due st rest (once o {ts = us} {t = u} eo h) b fo =
        go_step most e o (us ++ rest) (Want due, st) (Want (Prefixed x), frame.Prefix x (place o) ∷ st) (want_prefix_at due x st o o.kind eo ∙ prefix_by due x (place o) st b)
        ∙ complete 7 us u (Prefixed x) (frame.Prefix x (place o) ∷ st) rest h (le_refl 7) (le_refl 7) (follows_more 6 7 (omega arith) rest fo)
        ∙ unwind most e 6 (cut most u) (frame.Prefix x (place o)) st rest (le_refl 6) (λ m i. refl) fo
        ∙ ap (λ (p : Part). run rest (Have (Whole p), st)) (cut_unary most x (place o) u)
    repeats_complete x ts t due st rest (again o {ts = us} {t = u} eo h) b fo =
        go_step most e o (us ++ rest) (Want due, st) (Want (Prefixed x), frame.Prefix x (place o) ∷ st) (want_prefix_at due x st o o.kind eo ∙ prefix_by due x (place o) st b)
        ∙ repeats_complete x us u (Prefixed x) (frame.Prefix x (place o) ∷ st) rest h (prefixes_again x) fo
        ∙ unwind most e 6 (cut most u) (frame.Prefix x (place o)) st rest (le_refl 6) (λ m i. refl) fo
        ∙ ap (λ (p : Part). run rest (Have (Whole p), st)) (cut_unary most x (place o) u)

    listed_comma : (ts : List Lexeme) (l : List Ast) (F : List Ast → Frame) (after due : Due) → Grows F after → Allows due 0 → (st : List Frame) (c : Lexeme) (rest : List Lexeme) → Listed ts l → c.kind ≡ kind.Comma →
        run (ts ++ (c ∷ rest)) (Want due, F [] ∷ st) ≡ run rest (Want after, F l ∷ st)
    listed_comma ts l F after due g al st c rest (first {t = t} h) ec =
        complete 0 ts t due (F [] ∷ st) (c ∷ rest) h al (let i = g.low [] in omega arith) (stops_is 0 c.kind kind.Comma ec refl)
        ∙ go_step most e c rest (Have (Whole (cut most t)), F [] ∷ st) (Want after, F (t ∷ []) ∷ st) (have_comma (cut most t) (F []) st c (g.stands []) ec ∙ ap (want_next st) (g.grows [] t))
    listed_comma ts l F after due g al st c rest (more {ts = ss} {us = us} d {l = m} {t = t} h ed i) ec =
        ap (λ (x : List Lexeme). run x (Want due, F [] ∷ st)) (append_assoc ss (d ∷ us) (c ∷ rest))
        ∙ listed_comma ss m F after due g al st d (us ++ (c ∷ rest)) h ed
        ∙ complete 0 us t after (F m ∷ st) (c ∷ rest) i g.allows (let j = g.low m in omega arith) (stops_is 0 c.kind kind.Comma ec refl)
        ∙ go_step most e c rest (Have (Whole (cut most t)), F m ∷ st) (Want after, F (m ++ t ∷ []) ∷ st) (have_comma (cut most t) (F m) st c (g.stands m) ec ∙ ap (want_next st) (g.grows m t))

    listed_close : (ts : List Lexeme) (l : List Ast) (F : List Ast → Frame) (after due : Due) → Grows F after → Allows due 0 → (st : List Frame) (k : Lexeme) (rest : List Lexeme) → Listed ts l → Closer k.kind →
        run (ts ++ (k ∷ rest)) (Want due, F [] ∷ st) ≡ read_token (place k) (have_whole st (ended_frame most (F l) k.kind (place k))) (run rest)
    listed_close ts l F after due g al st k rest (first {t = t} h) ek =
        complete 0 ts t due (F [] ∷ st) (k ∷ rest) h al (let i = g.low [] in omega arith) (stops_closer 0 k.kind ek)
        ∙ ap (λ (o : Option State). read_token (place k) o (run rest))
        (have_close_at (cut most t) (F []) st k (g.stands []) k.kind ek ∙ ap (have_whole st) (g.closes [] (cut most t) k.kind (place k) ∙ ap (λ (o : Option (Frame × Due)). closed_grown most o k.kind (place k)) (g.grows [] t)))
    listed_close ts l F after due g al st k rest (more {ts = ss} {us = us} d {l = m} {t = t} h ed i) ek =
        ap (λ (x : List Lexeme). run x (Want due, F [] ∷ st)) (append_assoc ss (d ∷ us) (k ∷ rest))
        ∙ listed_comma ss m F after due g al st d (us ++ (k ∷ rest)) h ed
        ∙ complete 0 us t after (F m ∷ st) (k ∷ rest) i g.allows (let j = g.low m in omega arith) (stops_closer 0 k.kind ek)
        ∙ ap (λ (o : Option State). read_token (place k) o (run rest))
        (have_close_at (cut most t) (F m) st k (g.stands m) k.kind ek ∙ ap (have_whole st) (g.closes m (cut most t) k.kind (place k) ∙ ap (λ (o : Option (Frame × Due)). closed_grown most o k.kind (place k)) (g.grows m t)))

    arguments_close : (ts : List Lexeme) (l : List Ast) (F : List Ast → Frame) (after : Due) → Grows F after → (st : List Frame) (k : Lexeme) (rest : List Lexeme) → Arguments ts l → Closer k.kind →
        run (ts ++ (k ∷ rest)) (Want First, F [] ∷ st) ≡ read_token (place k) (have_whole st (ended_frame most (F l) k.kind (place k))) (run rest)
    arguments_close ts l F after g st k rest no_argument ek = end_items First (F []) st k rest refl ek
    arguments_close ts l F after g st k rest (arguments h) ek = listed_close ts l F after First g tt st k rest h ek

    items_close : (ts : List Lexeme) (l : List Ast) (s : Span) (st : List Frame) (k : Lexeme) (rest : List Lexeme) → Items ts l → Closer k.kind →
        run (ts ++ (k ∷ rest)) (Want First, frame.Square s (cuts most []) ∷ st) ≡ read_token (place k) (have_whole st (ended_frame most (frame.Square s (cuts most l)) k.kind (place k))) (run rest)
    items_close ts l s st k rest (items h) ek = arguments_close ts l (λ m. frame.Square s (cuts most m)) Next (square_grows s) st k rest h ek
    items_close ts l s st k rest (items_comma c no_argument ec) ek =
        go_step most e c (k ∷ rest) (Want First, frame.Square s (cuts most []) ∷ st) (Want Closing, frame.Square s (cuts most []) ∷ st) (want_by First (frame.Square s (cuts most []) ∷ st) c kind.Comma _ ec refl)
        ∙ end_items Closing (frame.Square s (cuts most [])) st k rest refl ek
    items_close ts l s st k rest (items_comma {ts = us} c (arguments h) ec) ek =
        ap (λ (x : List Lexeme). run x (Want First, frame.Square s (cuts most []) ∷ st)) (append_assoc us (c ∷ []) (k ∷ rest))
        ∙ listed_comma us l (λ m. frame.Square s (cuts most m)) Next First (square_grows s) tt st c (k ∷ rest) h ec
        ∙ end_items Next (frame.Square s (cuts most l)) st k rest refl ek

    paired_comma : (ts : List Lexeme) (l : List (Ast × Ast)) (s : Span) (due : Due) → Allows due 0 → (st : List Frame) (c : Lexeme) (rest : List Lexeme) → Paired ts l → c.kind ≡ kind.Comma →
        run (ts ++ (c ∷ rest)) (Want due, frame.Braces s (cut_pairs most []) ∷ st) ≡ run rest (Want Next, frame.Braces s (cut_pairs most l) ∷ st)
    paired_comma ts l s due al st c rest (first_pair {ts = vs} {us = us} k {t = t} {u = u} h ek i) ec =
        ap (λ (x : List Lexeme). run x (Want due, frame.Braces s (cut_pairs most []) ∷ st)) (append_assoc vs (k ∷ us) (c ∷ rest))
        ∙ complete 0 vs t due (frame.Braces s (cut_pairs most []) ∷ st) (k ∷ (us ++ (c ∷ rest))) h al (omega arith) (stops_is 0 k.kind kind.Colon ek refl)
        ∙ go_step most e k (us ++ (c ∷ rest)) (Have (Whole (cut most t)), frame.Braces s (cut_pairs most []) ∷ st) (Want Expr, frame.Value s (cut_pairs most []) (cut most t) ∷ st)
        (have_by (Whole (cut most t)) (frame.Braces s (cut_pairs most []) ∷ st) k kind.Colon _ ek refl)
        ∙ complete 0 us u Expr (frame.Value s (cut_pairs most []) (cut most t) ∷ st) (c ∷ rest) i tt (omega arith) (stops_is 0 c.kind kind.Comma ec refl)
        ∙ go_step most e c rest (Have (Whole (cut most u)), frame.Value s (cut_pairs most []) (cut most t) ∷ st) (Want Next, frame.Braces s (cut_pairs most ((t, u) ∷ [])) ∷ st)
        (have_comma (cut most u) (frame.Value s (cut_pairs most []) (cut most t)) st c refl ec ∙ ap (λ (ps : Entries). Some (Want Next, frame.Braces s ps ∷ st)) (cuts_pair most [] t u))
    paired_comma ts l s due al st c rest (more_pairs {ss = ss} {ts = vs} {us = us} d k {l = m} {t = t} {u = u} g ed h ek i) ec =
        ap (λ (x : List Lexeme). run x (Want due, frame.Braces s (cut_pairs most []) ∷ st)) (append_assoc ss (d ∷ (vs ++ k ∷ us)) (c ∷ rest) ∙ ap (λ (x : List Lexeme). ss ++ (d ∷ x)) (append_assoc vs (k ∷ us) (c ∷ rest)))
        ∙ paired_comma ss m s due al st d (vs ++ (k ∷ (us ++ (c ∷ rest)))) g ed
        ∙ complete 0 vs t Next (frame.Braces s (cut_pairs most m) ∷ st) (k ∷ (us ++ (c ∷ rest))) h tt (omega arith) (stops_is 0 k.kind kind.Colon ek refl)
        ∙ go_step most e k (us ++ (c ∷ rest)) (Have (Whole (cut most t)), frame.Braces s (cut_pairs most m) ∷ st) (Want Expr, frame.Value s (cut_pairs most m) (cut most t) ∷ st)
        (have_by (Whole (cut most t)) (frame.Braces s (cut_pairs most m) ∷ st) k kind.Colon _ ek refl)
        ∙ complete 0 us u Expr (frame.Value s (cut_pairs most m) (cut most t) ∷ st) (c ∷ rest) i tt (omega arith) (stops_is 0 c.kind kind.Comma ec refl)
        ∙ go_step most e c rest (Have (Whole (cut most u)), frame.Value s (cut_pairs most m) (cut most t) ∷ st) (Want Next, frame.Braces s (cut_pairs most (m ++ (t, u) ∷ [])) ∷ st)
        (have_comma (cut most u) (frame.Value s (cut_pairs most m) (cut most t)) st c refl ec ∙ ap (λ (ps : Entries). Some (Want Next, frame.Braces s ps ∷ st)) (cuts_pair most m t u))

    paired_close : (ts : List Lexeme) (l : List (Ast × Ast)) (s : Span) (st : List Frame) (k : Lexeme) (rest : List Lexeme) → Paired ts l → Closer k.kind →
        run (ts ++ (k ∷ rest)) (Want First, frame.Braces s (cut_pairs most []) ∷ st) ≡ read_token (place k) (have_whole st (ended_frame most (frame.Braces s (cut_pairs most l)) k.kind (place k))) (run rest)
    paired_close ts l s st k rest (first_pair {ts = vs} {us = us} d {t = t} {u = u} h ed i) ek =
        ap (λ (x : List Lexeme). run x (Want First, frame.Braces s (cut_pairs most []) ∷ st)) (append_assoc vs (d ∷ us) (k ∷ rest))
        ∙ complete 0 vs t First (frame.Braces s (cut_pairs most []) ∷ st) (d ∷ (us ++ (k ∷ rest))) h tt (omega arith) (stops_is 0 d.kind kind.Colon ed refl)
        ∙ go_step most e d (us ++ (k ∷ rest)) (Have (Whole (cut most t)), frame.Braces s (cut_pairs most []) ∷ st) (Want Expr, frame.Value s (cut_pairs most []) (cut most t) ∷ st)
        (have_by (Whole (cut most t)) (frame.Braces s (cut_pairs most []) ∷ st) d kind.Colon _ ed refl)
        ∙ complete 0 us u Expr (frame.Value s (cut_pairs most []) (cut most t) ∷ st) (k ∷ rest) i tt (omega arith) (stops_closer 0 k.kind ek)
        ∙ ap (λ (o : Option State). read_token (place k) o (run rest))
        (have_close_at (cut most u) (frame.Value s (cut_pairs most []) (cut most t)) st k refl k.kind ek ∙ ap (λ (ps : Entries). have_whole st (ended_frame most (frame.Braces s ps) k.kind (place k))) (cuts_pair most [] t u))
    paired_close ts l s st k rest (more_pairs {ss = ss} {ts = vs} {us = us} c d {l = m} {t = t} {u = u} g ec h ed i) ek =
        ap (λ (x : List Lexeme). run x (Want First, frame.Braces s (cut_pairs most []) ∷ st)) (append_assoc ss (c ∷ (vs ++ d ∷ us)) (k ∷ rest) ∙ ap (λ (x : List Lexeme). ss ++ (c ∷ x)) (append_assoc vs (d ∷ us) (k ∷ rest)))
        ∙ paired_comma ss m s First tt st c (vs ++ (d ∷ (us ++ (k ∷ rest)))) g ec
        ∙ complete 0 vs t Next (frame.Braces s (cut_pairs most m) ∷ st) (d ∷ (us ++ (k ∷ rest))) h tt (omega arith) (stops_is 0 d.kind kind.Colon ed refl)
        ∙ go_step most e d (us ++ (k ∷ rest)) (Have (Whole (cut most t)), frame.Braces s (cut_pairs most m) ∷ st) (Want Expr, frame.Value s (cut_pairs most m) (cut most t) ∷ st)
        (have_by (Whole (cut most t)) (frame.Braces s (cut_pairs most m) ∷ st) d kind.Colon _ ed refl)
        ∙ complete 0 us u Expr (frame.Value s (cut_pairs most m) (cut most t) ∷ st) (k ∷ rest) i tt (omega arith) (stops_closer 0 k.kind ek)
        ∙ ap (λ (o : Option State). read_token (place k) o (run rest))
        (have_close_at (cut most u) (frame.Value s (cut_pairs most m) (cut most t)) st k refl k.kind ek ∙ ap (λ (ps : Entries). have_whole st (ended_frame most (frame.Braces s ps) k.kind (place k))) (cuts_pair most m t u))

    inits_close : (ts : List Lexeme) (l : List (Ast × Ast)) (s : Span) (st : List Frame) (k : Lexeme) (rest : List Lexeme) → Inits ts l → Closer k.kind →
        run (ts ++ (k ∷ rest)) (Want First, frame.Braces s (cut_pairs most []) ∷ st) ≡ read_token (place k) (have_whole st (ended_frame most (frame.Braces s (cut_pairs most l)) k.kind (place k))) (run rest)
    inits_close ts l s st k rest no_pair ek = end_items First (frame.Braces s (cut_pairs most [])) st k rest refl ek
    inits_close ts l s st k rest (lone_comma c ec) ek =
        go_step most e c (k ∷ rest) (Want First, frame.Braces s (cut_pairs most []) ∷ st) (Want Closing, frame.Braces s (cut_pairs most []) ∷ st) (want_by First (frame.Braces s (cut_pairs most []) ∷ st) c kind.Comma _ ec refl)
        ∙ end_items Closing (frame.Braces s (cut_pairs most [])) st k rest refl ek
    inits_close ts l s st k rest (pairs h) ek = paired_close ts l s st k rest h ek
    inits_close ts l s st k rest (pairs_comma {ts = us} c h ec) ek =
        ap (λ (x : List Lexeme). run x (Want First, frame.Braces s (cut_pairs most []) ∷ st)) (append_assoc us (c ∷ []) (k ∷ rest))
        ∙ paired_comma us l s First tt st c (k ∷ rest) h ec
        ∙ end_items Next (frame.Braces s (cut_pairs most l)) st k rest refl ek

  -- the tokens of a tree are read as it
  pub read_whole : (ts : List Lexeme) (t : Ast) → Has 0 ts t → run ts begun ≡ Read (cut most t)
  read_whole ts t h =
      ap (λ (l : List Lexeme). run l begun) (sym (append-nil ts)) ∙ complete 0 ts t Expr [] [] h tt (omega arith) tt
