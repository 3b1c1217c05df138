-- What is read has a tree.
use Rattle.std.proofs.Common.{◌≡◌, ℕ, zero, suc, ◌+◌, ◌-◌, ◌≤◌, nat_le, ◌==◌, List, [], ◌∷◌, ◌++◌, Bool, true, false, Some, refl, sym, ap, ◌∙◌, subst, arith, if◌then◌else◌, append_assoc}
use Rattle.std.proofs.lemmas.Bool.Decides.{nat_tests}
use Rattle.cel_lex.specs.declared.token.TokenKind.TheVariants as kind
use Rattle.cel_lex.specs.Tokens.{Lexeme}
use Rattle.cel_tree.specs.declared.tree.Span.{Span}
use Rattle.cel_tree.specs.declared.tree.UnaryOp.{UnaryOp}
use Rattle.cel_tree.specs.declared.tree.BinaryOp.{BinaryOp}
use Rattle.cel_tree.specs.Ast.{Ast, Node, Unary, Binary, Conditional, span_of}
use Rattle.cel_parse.specs.declared.part.Part.{Part}
use Rattle.cel_parse.specs.declared.state.Frame.{Frame}
use Rattle.cel_parse.specs.declared.state.Frame.TheVariants as frame
use Rattle.cel_parse.specs.Grammar.{place, over, level, unary_op, binary_op, is_member_name, Has, tighter, conditional, binary, unary, Repeats, once, again, Listed, Paired}
use Rattle.cel_parse.specs.Parts.{unary_part, binary_part, conditional_part}
use Rattle.cel_parse.specs.Steps.{binds_top, reduced}
use Rattle.cel_parse.proofs.Cut.{cut, cuts, cut_pairs, cut_unary, cut_binary, cut_conditional}
use Rattle.cel_parse.proofs.Stops.{expects_top}

down : (d n : ℕ) (ts : List Lexeme) (t : Ast) → Has (d + n) ts t → Has n ts t
down zero n ts t h = let e : 0 + n ≡ n = omega arith in subst (λ (k : ℕ). Has k ts t) e h
down (suc d) n ts t h = let e : suc d + n ≡ suc (d + n) = omega arith in down d n ts t (tighter (subst (λ (k : ℕ). Has k ts t) e h))

-- an expression of a level is one of each that binds less
pub weaken : (m n : ℕ) (ts : List Lexeme) (t : Ast) → n ≤ m → Has m ts t → Has n ts t
weaken m n ts t l h = let e : m ≡ (m - n) + n = omega arith in down (m - n) n ts t (subst (λ (k : ℕ). Has k ts t) e h)

-- items before another one, and entries
pub data Before : List Lexeme → List Ast → Type 0 where
  no_item : Before [] []
  some_items : {ts : List Lexeme} {l : List Ast} (c : Lexeme) → Listed ts l → c.kind ≡ kind.Comma → Before (ts ++ c ∷ []) l

pub data BeforeEntry : List Lexeme → List (Ast × Ast) → Type 0 where
  no_entry : BeforeEntry [] []
  some_entries : {ts : List Lexeme} {l : List (Ast × Ast)} (c : Lexeme) → Paired ts l → c.kind ≡ kind.Comma → BeforeEntry (ts ++ c ∷ []) l

le_is : (n m : ℕ) → nat_le n m ≡ true → n ≤ m
le_is n m h = grind (arith, nat_tests)

zero_is : (n : ℕ) → (n == 0) ≡ true → n ≤ 0
zero_is n h = grind (arith, nat_tests)

module _ (most : ℕ) where
  -- the tokens that led to what was begun, each frame with what it holds
  pub data Stacked : List Lexeme → List Frame → Type 0 where
    bottom : Stacked [] []
    prefix_first : {pre : List Lexeme} {st : List Frame} (k : Lexeme) {x : UnaryOp} → Stacked pre st → expects_top st ≤ 6 → unary_op k.kind ≡ Some x → Stacked (pre ++ k ∷ []) (frame.Prefix x (place k) ∷ st)
    prefix_again : {pre : List Lexeme} {st : List Frame} {s : Span} (k : Lexeme) {x : UnaryOp} → Stacked pre (frame.Prefix x s ∷ st) → unary_op k.kind ≡ Some x →
        Stacked (pre ++ k ∷ []) (frame.Prefix x (place k) ∷ frame.Prefix x s ∷ st)
    infix_at : {pre a : List Lexeme} {st : List Frame} (o : Lexeme) {x : BinaryOp} (t : Ast) → Stacked pre st → expects_top st ≤ level x → Has (level x) a t → binary_op o.kind ≡ Some x →
        Stacked (pre ++ (a ++ o ∷ [])) (frame.Infix x (cut most t) ∷ st)
    test_at : {pre a : List Lexeme} {st : List Frame} (q : Lexeme) (t : Ast) → Stacked pre st → expects_top st ≤ 0 → Has 1 a t → q.kind ≡ kind.Question → Stacked (pre ++ (a ++ q ∷ [])) (frame.Test (cut most t) ∷ st)
    branch_at : {pre a b : List Lexeme} {st : List Frame} (q k : Lexeme) (t u : Ast) → Stacked pre st → expects_top st ≤ 0 → Has 1 a t → q.kind ≡ kind.Question → Has 1 b u → k.kind ≡ kind.Colon →
        Stacked (pre ++ (a ++ q ∷ (b ++ k ∷ []))) (frame.Branch (cut most t) (cut most u) ∷ st)
    round_at : {pre : List Lexeme} {st : List Frame} (o : Lexeme) → Stacked pre st → o.kind ≡ kind.LeftParen → Stacked (pre ++ o ∷ []) (frame.Round ∷ st)
    subscript_at : {pre a : List Lexeme} {st : List Frame} (o : Lexeme) (t : Ast) → Stacked pre st → Has 7 a t → o.kind ≡ kind.LeftBracket → Stacked (pre ++ (a ++ o ∷ [])) (frame.Subscript (cut most t) ∷ st)
    list_at : {pre us : List Lexeme} {st : List Frame} (o : Lexeme) (l : List Ast) → Stacked pre st → o.kind ≡ kind.LeftBracket → Before us l → Stacked (pre ++ (o ∷ us)) (frame.Square (place o) (cuts most l) ∷ st)
    call_at : {pre us : List Lexeme} {st : List Frame} (k o : Lexeme) (l : List Ast) → Stacked pre st → k.kind ≡ kind.Ident → o.kind ≡ kind.LeftParen → Before us l →
        Stacked (pre ++ (k ∷ o ∷ us)) (frame.Function (place k) k.text (cuts most l) ∷ st)
    method_at : {pre a us : List Lexeme} {st : List Frame} (d k o : Lexeme) (t : Ast) (l : List Ast) → Stacked pre st → Has 7 a t → d.kind ≡ kind.Dot → is_member_name k.kind ≡ true → o.kind ≡ kind.LeftParen → Before us l →
        Stacked (pre ++ (a ++ d ∷ k ∷ o ∷ us)) (frame.Method (cut most t) k.text (cuts most l) ∷ st)
    map_at : {pre us : List Lexeme} {st : List Frame} (o : Lexeme) (l : List (Ast × Ast)) → Stacked pre st → o.kind ≡ kind.LeftBrace → BeforeEntry us l → Stacked (pre ++ (o ∷ us)) (frame.Braces (place o) (cut_pairs most l) ∷ st)
    value_at : {pre us a : List Lexeme} {st : List Frame} (o k : Lexeme) (l : List (Ast × Ast)) (t : Ast) → Stacked pre st → o.kind ≡ kind.LeftBrace → BeforeEntry us l → Has 0 a t → k.kind ≡ kind.Colon →
        Stacked (pre ++ (o ∷ (us ++ (a ++ k ∷ [])))) (frame.Value (place o) (cut_pairs most l) (cut most t) ∷ st)

  -- what is left once all that binds was completed
  pub record Collapsed (n : ℕ) (tokens : List Lexeme) (r : Part × List Frame) : Type 0 where
    pub before : List Lexeme
    pub prefix : List Lexeme
    pub tree : Ast
    pub at : ℕ
    pub stacked : Stacked before r.1
    pub has : Has at prefix tree
    pub part : r.0 ≡ cut most tree
    pub same : tokens ≡ before ++ prefix
    pub low : expects_top r.1 ≤ at
    pub high : n ≤ at
    pub stop : binds_top n r.1 ≡ false

  carry : (n : ℕ) (ts us : List Lexeme) (p q : Part) (st : List Frame) → ts ≡ us → p ≡ q → Collapsed n us (reduced most n q st) → Collapsed n ts (reduced most n p st)
  carry n ts us p q st e f c = subst (λ (l : List Lexeme). Collapsed n l (reduced most n p st)) (sym e) (subst (λ (r : Part). Collapsed n us (reduced most n r st)) (sym f) c)

  stay : (n m : ℕ) (pre ts : List Lexeme) (t : Ast) (st : List Frame) → Stacked pre st → Has m ts t → expects_top st ≤ m → n ≤ m → binds_top n st ≡ false → Collapsed n (pre ++ ts) (cut most t, st)
  stay n m pre ts t st s h l g b = record { before = pre; prefix = ts; tree = t; at = m; stacked = s; has = h; part = refl; same = refl; low = l; high = g; stop = b }

  choose : (n : ℕ) (ts : List Lexeme) (b c : Bool) (x y : Part × List Frame) → c ≡ b → (c ≡ true → Collapsed n ts x) → (c ≡ false → Collapsed n ts y) → Collapsed n ts (if b then x else y)
  choose n ts true c x y e f g = f e
  choose n ts false c x y e f g = g e

  mutual
    pub reduced_sound : (n m : ℕ) (pre ts : List Lexeme) (t : Ast) (st : List Frame) → n ≤ 6 → Stacked pre st → Has m ts t → expects_top st ≤ m → n ≤ m → Collapsed n (pre ++ ts) (reduced most n (cut most t) st)
    reduced_sound n m pre ts t st i bottom h l g = stay n m [] ts t [] bottom h l g refl
    reduced_sound n m pre ts t st i (prefix_first {pre = before} {st = under} k {x = x} s lo ek) h l g =
        carry n ((before ++ k ∷ []) ++ ts) (before ++ (k ∷ ts)) (unary_part most x (place k) (cut most t)) (cut most (Node (over (place k) (span_of t)) (Unary x t))) under (append_assoc before (k ∷ []) ts) (cut_unary most x (place k) t)
        (reduced_sound n 6 before (k ∷ ts) (Node (over (place k) (span_of t)) (Unary x t)) under i s (unary (once k ek (weaken m 7 ts t l h))) lo i)
    reduced_sound n m pre ts t st i (prefix_again {pre = before} {st = under} {s = sp} k {x = x} s ek) h l g =
        carry n ((before ++ k ∷ []) ++ ts) (before ++ (k ∷ ts)) (unary_part most x (place k) (cut most t)) (cut most (Node (over (place k) (span_of t)) (Unary x t))) (frame.Prefix x sp ∷ under) (append_assoc before (k ∷ []) ts) (cut_unary most x (place k) t)
        (repeats_sound n before (k ∷ ts) (Node (over (place k) (span_of t)) (Unary x t)) x sp under i s (once k ek (weaken m 7 ts t l h)))
    reduced_sound n m pre ts t st i (infix_at {pre = before} {a = a} {st = under} o {x = x} u s lo ha eo) h l g =
        choose n ((before ++ (a ++ o ∷ [])) ++ ts) (nat_le n (level x)) (nat_le n (level x)) (reduced most n (binary_part most x (cut most u) (cut most t)) under) (cut most t, frame.Infix x (cut most u) ∷ under) refl
        (λ b. carry n ((before ++ (a ++ o ∷ [])) ++ ts) (before ++ (a ++ (o ∷ ts))) (binary_part most x (cut most u) (cut most t)) (cut most (Node (over (span_of u) (span_of t)) (Binary x u t))) under
        (append_assoc before (a ++ o ∷ []) ts ∙ ap (λ (y : List Lexeme). before ++ y) (append_assoc a (o ∷ []) ts)) (cut_binary most x u t)
        (reduced_sound n (level x) before (a ++ (o ∷ ts)) (Node (over (span_of u) (span_of t)) (Binary x u t)) under i s (binary o eo ha (weaken m (suc (level x)) ts t l h)) lo (le_is n (level x) b)))
        (λ b. stay n m (before ++ (a ++ o ∷ [])) ts t (frame.Infix x (cut most u) ∷ under) (infix_at o u s lo ha eo) h l g b)
    reduced_sound n m pre ts t st i (branch_at {pre = before} {a = a} {b = b} {st = under} q k u v s lo ha eq hb ek) h l g =
        choose n ((before ++ (a ++ q ∷ (b ++ k ∷ []))) ++ ts) (n == 0) (n == 0) (reduced most n (conditional_part most (cut most u) (cut most v) (cut most t)) under) (cut most t, frame.Branch (cut most u) (cut most v) ∷ under) refl
        (λ c. carry n ((before ++ (a ++ q ∷ (b ++ k ∷ []))) ++ ts) (before ++ (a ++ (q ∷ (b ++ (k ∷ ts))))) (conditional_part most (cut most u) (cut most v) (cut most t)) (cut most (Node (over (span_of u) (span_of t)) (Conditional u v t))) under
        (append_assoc before (a ++ q ∷ (b ++ k ∷ [])) ts ∙ ap (λ (y : List Lexeme). before ++ y) (append_assoc a (q ∷ (b ++ k ∷ [])) ts ∙ ap (λ (y : List Lexeme). a ++ (q ∷ y)) (append_assoc b (k ∷ []) ts))) (cut_conditional most u v t)
        (reduced_sound n 0 before (a ++ (q ∷ (b ++ (k ∷ ts)))) (Node (over (span_of u) (span_of t)) (Conditional u v t)) under i s (conditional q k ha eq hb ek (weaken m 0 ts t (omega arith) h)) lo (zero_is n c)))
        (λ c. stay n m (before ++ (a ++ q ∷ (b ++ k ∷ []))) ts t (frame.Branch (cut most u) (cut most v) ∷ under) (branch_at q k u v s lo ha eq hb ek) h l g c)
    reduced_sound n m pre ts t st i (test_at q u s lo ha eq) h l g = stay n m _ ts t _ (test_at q u s lo ha eq) h l g refl
    reduced_sound n m pre ts t st i (round_at o s eo) h l g = stay n m _ ts t _ (round_at o s eo) h l g refl
    reduced_sound n m pre ts t st i (subscript_at o u s ha eo) h l g = stay n m _ ts t _ (subscript_at o u s ha eo) h l g refl
    reduced_sound n m pre ts t st i (list_at o us s eo b) h l g = stay n m _ ts t _ (list_at o us s eo b) h l g refl
    reduced_sound n m pre ts t st i (call_at k o us s ek eo b) h l g = stay n m _ ts t _ (call_at k o us s ek eo b) h l g refl
    reduced_sound n m pre ts t st i (method_at d k o u us s ha ed ek eo b) h l g = stay n m _ ts t _ (method_at d k o u us s ha ed ek eo b) h l g refl
    reduced_sound n m pre ts t st i (map_at o us s eo b) h l g = stay n m _ ts t _ (map_at o us s eo b) h l g refl
    reduced_sound n m pre ts t st i (value_at o k us u s eo b ha ek) h l g = stay n m _ ts t _ (value_at o k us u s eo b ha ek) h l g refl

    repeats_sound : (n : ℕ) (pre ts : List Lexeme) (t : Ast) (x : UnaryOp) (sp : Span) (st : List Frame) → n ≤ 6 → Stacked pre (frame.Prefix x sp ∷ st) → Repeats x ts t → Collapsed n (pre ++ ts) (reduced most n (cut most t) (frame.Prefix x sp ∷ st))
    repeats_sound n pre ts t x sp st i (prefix_first {pre = before} k s lo ek) r =
        carry n ((before ++ k ∷ []) ++ ts) (before ++ (k ∷ ts)) (unary_part most x (place k) (cut most t)) (cut most (Node (over (place k) (span_of t)) (Unary x t))) st (append_assoc before (k ∷ []) ts) (cut_unary most x (place k) t)
        (reduced_sound n 6 before (k ∷ ts) (Node (over (place k) (span_of t)) (Unary x t)) st i s (unary (again k ek r)) lo i)
    repeats_sound n pre ts t x sp st i (prefix_again {pre = before} {st = under} {s = sq} k s ek) r =
        carry n ((before ++ k ∷ []) ++ ts) (before ++ (k ∷ ts)) (unary_part most x (place k) (cut most t)) (cut most (Node (over (place k) (span_of t)) (Unary x t))) (frame.Prefix x sq ∷ under) (append_assoc before (k ∷ []) ts) (cut_unary most x (place k) t)
        (repeats_sound n before (k ∷ ts) (Node (over (place k) (span_of t)) (Unary x t)) x sq under i s (again k ek r))
