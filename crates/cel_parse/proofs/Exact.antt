-- What is read is exact: the tree, the first span where no expression goes on, and that there is one tree.
use Rattle.std.proofs.Common.{◌≡◌, ℕ, ◌+◌, ◌≤◌, ◌<◌, nat_le, List, [], ◌∷◌, ◌++◌, Bool, true, false, Option, Some, None, refl, sym, ap, ◌∙◌, subst, arith, if◌then◌else◌, append_assoc, append-nil}
use Rattle.std.proofs.lemmas.Bool.Decides.{nat_tests}
use Rattle.cel_lex.specs.Tokens.{Lexeme}
use Rattle.cel_tree.specs.declared.tree.Span.{Span}
use Rattle.cel_tree.specs.Ast.{Ast, Node, Ident, Member, depth, span_of}
use Rattle.cel_parse.specs.declared.part.Part.{Part}
use Rattle.cel_parse.specs.declared.part.Part.TheVariants.{Shallow, Deep}
use Rattle.cel_parse.specs.declared.state.Hand.TheVariants.{Name, Field}
use Rattle.cel_parse.specs.declared.state.Frame.{Frame}
use Rattle.cel_parse.specs.Grammar.{place, over, Has, name, member}
use Rattle.cel_parse.specs.Steps.{State, part_of, reduced, step_of, alone, finished, Read, Fault, read_end, read_token, reading, begun}
use Rattle.cel_parse.specs.Answer.{Begins, Unfit, HasTree}
use Rattle.cel_parse.proofs.Cut.{cut, cut_leaf, cut_member}
use Rattle.cel_parse.proofs.Complete.{read_whole}
use Rattle.cel_parse.proofs.Sound.{weaken, Stacked, bottom, Collapsed}
use Rattle.cel_parse.proofs.Reached.{At, want_expr, want_member, first_list, first_map, first_call, first_method, next_list, next_map, closing_list, closing_map, have_whole_at, have_name_at, have_field_at, dotted, Goes}
use Rattle.cel_parse.proofs.Behind.{collapses, step_sound}
use Rattle.cel_parse.proofs.Viable.{at_begins}

module _ (most : ℕ) (e : Span) where
  -- the tokens have a tree, of which this is kept
  pub record Whole_of (ts : List Lexeme) (p : Part) : Type 0 where
    pub tree : Ast
    pub has : Has 0 ts tree
    pub part : p ≡ cut most tree

  alone_whole : (ws : List Lexeme) (q p : Part) (st : List Frame) → Collapsed most 0 ws (q, st) → alone q st ≡ Some p → Whole_of ws p
  alone_whole ws q p [] c f = at_bottom c.before c.prefix c.tree c.stacked c.has (c.same) (c.part)
    where
      at_bottom : (before prefix : List Lexeme) (t : Ast) → Stacked most before [] → Has c.at prefix t → ws ≡ before ++ prefix → q ≡ cut most t → Whole_of ws p
      at_bottom before prefix t bottom h s g = record {
        tree = t;
        has = subst (λ (l : List Lexeme). Has 0 l t) (sym s) (weaken c.at 0 prefix t (omega arith) h);
        part = (let i : p ≡ q = cc in i ∙ g);
      }
  alone_whole ws q p (f ∷ st) c g = absurd (cc)

  finished_whole : (ts : List Lexeme) (x : State) (p : Part) → At most ts x → finished most x.0 x.1 ≡ Some p → Whole_of ts p
  finished_whole ts x p (have_whole_at {pre = pre} {ts = us} {st = st} t s h) f =
      alone_whole (pre ++ us) (reduced most 0 (cut most t) st).0 p (reduced most 0 (cut most t) st).1 (collapses most pre us st t (cut most t) s h refl 0 (omega arith)) f
  finished_whole ts x p (have_name_at {pre = pre} {st = st} k s ek) f =
      alone_whole (pre ++ k ∷ []) (reduced most 0 (part_of most (Name (place k) k.text)) st).0 p (reduced most 0 (part_of most (Name (place k) k.text)) st).1
      (collapses most pre (k ∷ []) st (Node (place k) (Ident k.text)) (part_of most (Name (place k) k.text)) s (name k ek) (cut_leaf most (place k) (Ident k.text) refl) 0 (omega arith)) f
  finished_whole ts x p (have_field_at {pre = pre} {a = a} {st = st} d k t s ha ed ek) f =
      alone_whole (pre ++ (a ++ d ∷ k ∷ [])) (reduced most 0 (part_of most (Field (cut most t) (place k) k.text)) st).0 p (reduced most 0 (part_of most (Field (cut most t) (place k) k.text)) st).1
      (collapses most pre (a ++ d ∷ k ∷ []) st (Node (over (span_of t) (place k)) (Member t k.text)) (part_of most (Field (cut most t) (place k) k.text)) s (member d k ha ed ek) (cut_member most t (place k) k.text) 0 (omega arith)) f
  finished_whole ts x p (want_expr s lo) f = absurd (cc)
  finished_whole ts x p (want_member s) f = absurd (cc)
  finished_whole ts x p (first_list o s eo) f = absurd (cc)
  finished_whole ts x p (first_map o s eo) f = absurd (cc)
  finished_whole ts x p (first_call k o s ek eo) f = absurd (cc)
  finished_whole ts x p (first_method d k o t s ha ed ek eo) f = absurd (cc)
  finished_whole ts x p (next_list o c l s eo h ec) f = absurd (cc)
  finished_whole ts x p (next_map o c l s eo h ec) f = absurd (cc)
  finished_whole ts x p (closing_list o c s eo ec) f = absurd (cc)
  finished_whole ts x p (closing_map o c s eo ec) f = absurd (cc)
  finished_whole ts x p (dotted d t s ha ed) f = absurd (cc)

  end_read : (ts : List Lexeme) (x : State) (p : Part) → At most ts x → (o : Option Part) → finished most x.0 x.1 ≡ o → read_end e o ≡ Read p → Whole_of ts p
  end_read ts x p a None f g = absurd (cc)
  end_read ts x p a (Some q) f g = finished_whole ts x p a (f ∙ ap Some (cc))

  reached : (ts : List Lexeme) (x : State) (k : Lexeme) (y : State) → At most ts x → step_of most x.0 x.1 k ≡ Some y → At most (ts ++ k ∷ []) y
  reached ts x k y a f = subst (λ (o : Option State). Goes most (ts ++ k ∷ []) o) f (step_sound most ts x k a)

  token_read : (prefix : List Lexeme) (k : Lexeme) (ks : List Lexeme) (x : State) (p : Part) → At most prefix x →
      ((y : State) → At most (prefix ++ k ∷ []) y → reading most e ks y ≡ Read p → Whole_of ((prefix ++ k ∷ []) ++ ks) p) →
      (o : Option State) → step_of most x.0 x.1 k ≡ o → read_token (place k) o (reading most e ks) ≡ Read p → Whole_of (prefix ++ k ∷ ks) p
  token_read prefix k ks x p a r None g f = absurd (cc)
  token_read prefix k ks x p a r (Some y) g f = subst (λ (l : List Lexeme). Whole_of l p) (append_assoc prefix (k ∷ []) ks) (r y (reached prefix x k y a g) f)

  pub read_sound : (prefix ts : List Lexeme) (x : State) (p : Part) → At most prefix x → reading most e ts x ≡ Read p → Whole_of (prefix ++ ts) p
  read_sound prefix [] x p a f = subst (λ (l : List Lexeme). Whole_of l p) (sym (append-nil prefix)) (end_read prefix x p a (finished most x.0 x.1) refl f)
  read_sound prefix (k ∷ ks) x p a f = token_read prefix k ks x p a (λ y b g. read_sound (prefix ++ k ∷ []) ks y p b g) (step_of most x.0 x.1 k) refl f

  abbrev Leads : List Lexeme → State → Type 0
  Leads prefix x = (more : List Lexeme) → reading most e (prefix ++ more) begun ≡ reading most e more x

  end_fault : (prefix : List Lexeme) (x : State) (s : Span) → At most prefix x → Leads prefix x → (o : Option Part) → finished most x.0 x.1 ≡ o → read_end e o ≡ Fault s → Unfit e prefix s
  end_fault prefix x s a r (Some p) f g = absurd (cc)
  end_fault prefix x s a r None f g = record {
    prefix = prefix;
    rest = [];
    split = sym (append-nil prefix);
    begins = at_begins most prefix x a;
    stops = λ t h. (let i : reading most e prefix begun ≡ Read (cut most t) = read_whole most e prefix t h in
        let j : reading most e prefix begun ≡ Fault e = ap (λ (l : List Lexeme). reading most e l begun) (sym (append-nil prefix)) ∙ r [] ∙ ap (read_end e) f in absurd (cc));
    here = cc;
  }

  token_stops : (prefix : List Lexeme) (k : Lexeme) (x : State) → Leads prefix x → step_of most x.0 x.1 k ≡ None → Begins (prefix ++ k ∷ []) → ⊥
  token_stops prefix k x r f b =
      let i : reading most e ((prefix ++ k ∷ []) ++ b.rest) begun ≡ Read (cut most b.tree) = read_whole most e ((prefix ++ k ∷ []) ++ b.rest) b.tree b.has in
      let j : reading most e ((prefix ++ k ∷ []) ++ b.rest) begun ≡ Fault (place k) =
      ap (λ (l : List Lexeme). reading most e l begun) (append_assoc prefix (k ∷ []) b.rest) ∙ r (k ∷ b.rest) ∙ ap (λ (o : Option State). read_token (place k) o (reading most e b.rest)) f in absurd (cc)

  token_fault : (prefix : List Lexeme) (k : Lexeme) (ks : List Lexeme) (x : State) (s : Span) → At most prefix x → Leads prefix x →
      ((y : State) → At most (prefix ++ k ∷ []) y → Leads (prefix ++ k ∷ []) y → reading most e ks y ≡ Fault s → Unfit e ((prefix ++ k ∷ []) ++ ks) s) →
      (o : Option State) → step_of most x.0 x.1 k ≡ o → read_token (place k) o (reading most e ks) ≡ Fault s → Unfit e (prefix ++ k ∷ ks) s
  token_fault prefix k ks x s a r i None g f = record { prefix = prefix; rest = k ∷ ks; split = refl; begins = at_begins most prefix x a; stops = token_stops prefix k x r g; here = cc }
  token_fault prefix k ks x s a r i (Some y) g f =
      subst (λ (l : List Lexeme). Unfit e l s) (append_assoc prefix (k ∷ []) ks)
      (i y (reached prefix x k y a g)
      (λ more. ap (λ (l : List Lexeme). reading most e l begun) (append_assoc prefix (k ∷ []) more) ∙ r (k ∷ more) ∙ ap (λ (o : Option State). read_token (place k) o (reading most e more)) g) f)

  pub fault_sound : (prefix ts : List Lexeme) (x : State) (s : Span) → At most prefix x → Leads prefix x → reading most e ts x ≡ Fault s → Unfit e (prefix ++ ts) s
  fault_sound prefix [] x s a r f = subst (λ (l : List Lexeme). Unfit e l s) (sym (append-nil prefix)) (end_fault prefix x s a r (finished most x.0 x.1) refl f)
  fault_sound prefix (k ∷ ks) x s a r f = token_fault prefix k ks x s a r (λ y b i g. fault_sound (prefix ++ k ∷ []) ks y s b i g) (step_of most x.0 x.1 k) refl f

  start : At most [] begun
  start = want_expr bottom (omega arith)

  pub whole_read : (ts : List Lexeme) (p : Part) → reading most e ts begun ≡ Read p → Whole_of ts p
  whole_read ts p f = read_sound [] ts begun p start f

  pub whole_fault : (ts : List Lexeme) (s : Span) → reading most e ts begun ≡ Fault s → Unfit e ts s
  whole_fault ts s f = fault_sound [] ts begun s start (λ more. refl) f

pub fits : (most : ℕ) (u : Ast) → nat_le (depth u) most ≡ true → Shallow u (depth u) ≡ cut most u
unfolding cut
fits most u h = sym (ap (λ (b : Bool). if b then Shallow u (depth u) else Deep) h)

fits_not : (most : ℕ) (u : Ast) → nat_le (depth u) most ≡ false → Deep ≡ cut most u
unfolding cut
fits_not most u h = sym (ap (λ (b : Bool). if b then Shallow u (depth u) else Deep) h)

pub is_le : (n m : ℕ) → n ≤ m → nat_le n m ≡ true
is_le n m h = grind (arith, nat_tests)

le_is : (n m : ℕ) → nat_le n m ≡ true → n ≤ m
le_is n m h = grind (arith, nat_tests)

lt_is : (n m : ℕ) → nat_le n m ≡ false → m < n
lt_is n m h = grind (arith, nat_tests)

shallow_at : (most : ℕ) (ts : List Lexeme) (t u : Ast) (d : ℕ) → Has 0 ts u → Shallow t d ≡ cut most u → (b : Bool) → nat_le (depth u) most ≡ b → Has 0 ts t × (depth t ≤ most)
shallow_at most ts t u d h e true f = let g : u ≡ t = (let i : Shallow u (depth u) ≡ Shallow t d = fits most u f ∙ sym e in cc) in subst (λ (v : Ast). Has 0 ts v × (depth v ≤ most)) g (h, le_is (depth u) most f)
shallow_at most ts t u d h e false f = let i : Deep ≡ Shallow t d = fits_not most u f ∙ sym e in absurd (cc)

deep_at : (most : ℕ) (ts : List Lexeme) (u : Ast) → Has 0 ts u → Deep ≡ cut most u → (b : Bool) → nat_le (depth u) most ≡ b → HasTree ts (λ d. most < d)
deep_at most ts u h e true f = let i : Shallow u (depth u) ≡ Deep = fits most u f ∙ sym e in absurd (cc)
deep_at most ts u h e false f = record { tree = u; has = h; fits = lt_is (depth u) most f }

pub parsed_tree : (e : Span) (ts : List Lexeme) (t : Ast) (d : ℕ) → reading 64 e ts begun ≡ Read (Shallow t d) → Has 0 ts t × (depth t ≤ 64)
parsed_tree e ts t d f = let w = whole_read 64 e ts (Shallow t d) f in shallow_at 64 ts t w.tree d w.has w.part (nat_le (depth w.tree) 64) refl

pub parsed_deep : (e : Span) (ts : List Lexeme) → reading 64 e ts begun ≡ Read Deep → HasTree ts (λ d. 64 < d)
parsed_deep e ts f = let w = whole_read 64 e ts Deep f in deep_at 64 ts w.tree w.has w.part (nat_le (depth w.tree) 64) refl

pub parsed_fault : (e : Span) (ts : List Lexeme) (s : Span) → reading 64 e ts begun ≡ Fault s → Unfit e ts s
parsed_fault e ts s f = whole_fault 64 e ts s f

-- a list of tokens has at most one tree
pub one_tree : (ts : List Lexeme) (t u : Ast) → Has 0 ts t → Has 0 ts u → t ≡ u
one_tree ts t u h g =
    let most = depth t + depth u in
    let e : Span = record { start = 0; end = 0 } in
    let i : reading most e ts begun ≡ Read (cut most t) = read_whole most e ts t h in
    let j : reading most e ts begun ≡ Read (cut most u) = read_whole most e ts u g in
    let a : Shallow t (depth t) ≡ cut most t = fits most t (is_le (depth t) most (omega arith)) in
    let b : Shallow u (depth u) ≡ cut most u = fits most u (is_le (depth u) most (omega arith)) in
    let k : Read (Shallow t (depth t)) ≡ Read (Shallow u (depth u)) = ap Read a ∙ sym i ∙ j ∙ ap Read (sym b) in
    cc

pub ruleset parses = (parsed_tree, parsed_deep, parsed_fault)
