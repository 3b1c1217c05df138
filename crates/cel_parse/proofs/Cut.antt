-- What is kept of a tree, and how it is made from what is kept of its parts.
use Rattle.std.proofs.Common.{◌≡◌, ℕ, ◌+◌, ◌≤◌, max, nat_le, List, [], ◌∷◌, ◌++◌, Bool, true, false, refl, arith, if◌then◌else◌}
use Rattle.std.proofs.lemmas.Bool.Decides.{nat_tests}
use Rattle.cel_tree.specs.declared.tree.Span.{Span}
use Rattle.cel_tree.specs.declared.tree.UnaryOp.{UnaryOp}
use Rattle.cel_tree.specs.declared.tree.BinaryOp.{BinaryOp}
use Rattle.cel_tree.specs.Ast.{Ast, Form, Node, Unary, Binary, Conditional, Member, Index, Call, Method, ListOf, MapOf, asts_of, entries_of, span_of, depth, below, deepest, deepest_entry}
use Rattle.cel_parse.specs.declared.part.Part.{Part}
use Rattle.cel_parse.specs.declared.part.Part.TheVariants.{Shallow, Deep}
use Rattle.cel_parse.specs.declared.part.Parts.{Parts}
use Rattle.cel_parse.specs.declared.part.Parts.TheVariants as parts
use Rattle.cel_parse.specs.declared.part.Entries as declared
use Rattle.cel_parse.specs.declared.part.Entries.TheVariants as entries
use Rattle.cel_parse.specs.Parts.{joined, above, unary_part, binary_part, conditional_part, member_part, index_part, call_part, method_part, list_part, map_part, added_item, added_pair}

over_more : (d e m : ℕ) → d ≤ e → nat_le d m ≡ false → nat_le e m ≡ false
over_more d e m h k = grind (arith, nat_tests)

max_left : (d e : ℕ) → d ≤ max d e + 1
max_left d e = omega arith

max_right : (d e : ℕ) → e ≤ max d e + 1
max_right d e = omega arith

module _ (most : ℕ) where
  unfoldable pub cut : Ast → Part
  cut t = if nat_le (depth t) most then Shallow t (depth t) else Deep

  unfoldable pub cuts : List Ast → Parts
  cuts l = if nat_le (deepest (asts_of l)) most then parts.Shallow l (deepest (asts_of l)) else parts.Deep

  unfoldable pub cut_pairs : List (Ast × Ast) → declared.Entries
  cut_pairs l = if nat_le (deepest_entry (entries_of l)) most then entries.Shallow l (deepest_entry (entries_of l)) else entries.Deep

  deep : (t : Ast) → nat_le (depth t) most ≡ false → Deep ≡ cut t
  unfolding cut
  deep t e = rw e refl

  abbrev kept : Bool → Ast → Part
  kept b t = if b then Shallow t (depth t) else Deep

  abbrev kept_list : Bool → List Ast → Parts
  kept_list b l = if b then parts.Shallow l (deepest (asts_of l)) else parts.Deep

  abbrev kept_pairs : Bool → List (Ast × Ast) → declared.Entries
  kept_pairs b l = if b then entries.Shallow l (deepest_entry (entries_of l)) else entries.Deep

  unary_kept : (x : UnaryOp) (s : Span) (t : Ast) (b : Bool) → nat_le (depth t) most ≡ b → unary_part most x s (kept b t) ≡ cut (Node (joined s (span_of t)) (Unary x t))
  unfolding cut
  unary_kept x s t true e = refl
  unary_kept x s t false e = deep (Node (joined s (span_of t)) (Unary x t)) (over_more (depth t) (depth t + 1) most (omega arith) e)

  pub cut_unary : (x : UnaryOp) (s : Span) (t : Ast) → unary_part most x s (cut t) ≡ cut (Node (joined s (span_of t)) (Unary x t))
  unfolding cut
  cut_unary x s t = unary_kept x s t (nat_le (depth t) most) refl

  binary_kept : (x : BinaryOp) (t u : Ast) (b c : Bool) → nat_le (depth t) most ≡ b → nat_le (depth u) most ≡ c →
      binary_part most x (kept b t) (kept c u) ≡ cut (Node (joined (span_of t) (span_of u)) (Binary x t u))
  unfolding cut
  binary_kept x t u true true e f = refl
  binary_kept x t u true false e f = deep (Node (joined (span_of t) (span_of u)) (Binary x t u)) (over_more (depth u) (max (depth t) (depth u) + 1) most (max_right (depth t) (depth u)) f)
  binary_kept x t u false c e f = deep (Node (joined (span_of t) (span_of u)) (Binary x t u)) (over_more (depth t) (max (depth t) (depth u) + 1) most (max_left (depth t) (depth u)) e)

  pub cut_binary : (x : BinaryOp) (t u : Ast) → binary_part most x (cut t) (cut u) ≡ cut (Node (joined (span_of t) (span_of u)) (Binary x t u))
  unfolding cut
  cut_binary x t u = binary_kept x t u (nat_le (depth t) most) (nat_le (depth u) most) refl refl

  conditional_kept : (t u v : Ast) (b c d : Bool) → nat_le (depth t) most ≡ b → nat_le (depth u) most ≡ c → nat_le (depth v) most ≡ d →
      conditional_part most (kept b t) (kept c u) (kept d v) ≡ cut (Node (joined (span_of t) (span_of v)) (Conditional t u v))
  unfolding cut
  conditional_kept t u v true true true e f g = refl
  conditional_kept t u v true true false e f g = deep (Node (joined (span_of t) (span_of v)) (Conditional t u v)) (over_more (depth v) (max (depth t) (max (depth u) (depth v)) + 1) most (omega arith) g)
  conditional_kept t u v true false d e f g = deep (Node (joined (span_of t) (span_of v)) (Conditional t u v)) (over_more (depth u) (max (depth t) (max (depth u) (depth v)) + 1) most (omega arith) f)
  conditional_kept t u v false c d e f g = deep (Node (joined (span_of t) (span_of v)) (Conditional t u v)) (over_more (depth t) (max (depth t) (max (depth u) (depth v)) + 1) most (omega arith) e)

  pub cut_conditional : (t u v : Ast) → conditional_part most (cut t) (cut u) (cut v) ≡ cut (Node (joined (span_of t) (span_of v)) (Conditional t u v))
  unfolding cut
  cut_conditional t u v = conditional_kept t u v (nat_le (depth t) most) (nat_le (depth u) most) (nat_le (depth v) most) refl refl refl

  member_kept : (t : Ast) (s : Span) (name : List ℕ) (b : Bool) → nat_le (depth t) most ≡ b → member_part most (kept b t) s name ≡ cut (Node (joined (span_of t) s) (Member t name))
  unfolding cut
  member_kept t s name true e = refl
  member_kept t s name false e = deep (Node (joined (span_of t) s) (Member t name)) (over_more (depth t) (depth t + 1) most (omega arith) e)

  pub cut_member : (t : Ast) (s : Span) (name : List ℕ) → member_part most (cut t) s name ≡ cut (Node (joined (span_of t) s) (Member t name))
  unfolding cut
  cut_member t s name = member_kept t s name (nat_le (depth t) most) refl

  index_kept : (t u : Ast) (s : Span) (b c : Bool) → nat_le (depth t) most ≡ b → nat_le (depth u) most ≡ c → index_part most (kept b t) (kept c u) s ≡ cut (Node (joined (span_of t) s) (Index t u))
  unfolding cut
  index_kept t u s true true e f = refl
  index_kept t u s true false e f = deep (Node (joined (span_of t) s) (Index t u)) (over_more (depth u) (max (depth t) (depth u) + 1) most (max_right (depth t) (depth u)) f)
  index_kept t u s false c e f = deep (Node (joined (span_of t) s) (Index t u)) (over_more (depth t) (max (depth t) (depth u) + 1) most (max_left (depth t) (depth u)) e)

  pub cut_index : (t u : Ast) (s : Span) → index_part most (cut t) (cut u) s ≡ cut (Node (joined (span_of t) s) (Index t u))
  unfolding cut
  cut_index t u s = index_kept t u s (nat_le (depth t) most) (nat_le (depth u) most) refl refl

  call_kept : (s : Span) (name : List ℕ) (l : List Ast) (b : Bool) → nat_le (deepest (asts_of l)) most ≡ b → call_part most s name (kept_list b l) ≡ cut (Node s (Call name (asts_of l)))
  unfolding cut
  call_kept s name l true e = refl
  call_kept s name l false e = deep (Node s (Call name (asts_of l))) (over_more (deepest (asts_of l)) (deepest (asts_of l) + 1) most (omega arith) e)

  pub cut_call : (s : Span) (name : List ℕ) (l : List Ast) → call_part most s name (cuts l) ≡ cut (Node s (Call name (asts_of l)))
  unfolding cut cuts
  cut_call s name l = call_kept s name l (nat_le (deepest (asts_of l)) most) refl

  method_kept : (t : Ast) (name : List ℕ) (l : List Ast) (s : Span) (b c : Bool) → nat_le (depth t) most ≡ b → nat_le (deepest (asts_of l)) most ≡ c →
      method_part most (kept b t) name (kept_list c l) s ≡ cut (Node (joined (span_of t) s) (Method t name (asts_of l)))
  unfolding cut
  method_kept t name l s true true e f = refl
  method_kept t name l s true false e f =
      deep (Node (joined (span_of t) s) (Method t name (asts_of l))) (over_more (deepest (asts_of l)) (max (depth t) (deepest (asts_of l)) + 1) most (max_right (depth t) (deepest (asts_of l))) f)
  method_kept t name l s false c e f =
      deep (Node (joined (span_of t) s) (Method t name (asts_of l))) (over_more (depth t) (max (depth t) (deepest (asts_of l)) + 1) most (max_left (depth t) (deepest (asts_of l))) e)

  pub cut_method : (t : Ast) (name : List ℕ) (l : List Ast) (s : Span) → method_part most (cut t) name (cuts l) s ≡ cut (Node (joined (span_of t) s) (Method t name (asts_of l)))
  unfolding cut cuts
  cut_method t name l s = method_kept t name l s (nat_le (depth t) most) (nat_le (deepest (asts_of l)) most) refl refl

  list_kept : (s : Span) (l : List Ast) (b : Bool) → nat_le (deepest (asts_of l)) most ≡ b → list_part most s (kept_list b l) ≡ cut (Node s (ListOf (asts_of l)))
  unfolding cut
  list_kept s l true e = refl
  list_kept s l false e = deep (Node s (ListOf (asts_of l))) (over_more (deepest (asts_of l)) (deepest (asts_of l) + 1) most (omega arith) e)

  pub cut_list : (s : Span) (l : List Ast) → list_part most s (cuts l) ≡ cut (Node s (ListOf (asts_of l)))
  unfolding cut cuts
  cut_list s l = list_kept s l (nat_le (deepest (asts_of l)) most) refl

  map_kept : (s : Span) (l : List (Ast × Ast)) (b : Bool) → nat_le (deepest_entry (entries_of l)) most ≡ b → map_part most s (kept_pairs b l) ≡ cut (Node s (MapOf (entries_of l)))
  unfolding cut
  map_kept s l true e = refl
  map_kept s l false e = deep (Node s (MapOf (entries_of l))) (over_more (deepest_entry (entries_of l)) (deepest_entry (entries_of l) + 1) most (omega arith) e)

  pub cut_map : (s : Span) (l : List (Ast × Ast)) → map_part most s (cut_pairs l) ≡ cut (Node s (MapOf (entries_of l)))
  unfolding cut cut_pairs
  cut_map s l = map_kept s l (nat_le (deepest_entry (entries_of l)) most) refl

  pub cut_leaf : (s : Span) (f : Form) → below f ≡ 0 → above most 0 (Node s f) ≡ cut (Node s f)
  unfolding cut
  cut_leaf s f e = rw e refl

  pub cuts_none : parts.Shallow [] 0 ≡ cuts []
  unfolding cuts
  cuts_none = let e : nat_le 0 most ≡ true = grind (arith, nat_tests) in rw e refl

  pub pairs_none : entries.Shallow [] 0 ≡ cut_pairs []
  unfolding cut_pairs
  pairs_none = let e : nat_le 0 most ≡ true = grind (arith, nat_tests) in rw e refl

  deepest_more : (l : List Ast) (t : Ast) → deepest (asts_of (l ++ t ∷ [])) ≡ max (deepest (asts_of l)) (depth t)
  deepest_more [] t = omega arith
  deepest_more (x ∷ l) t = let e = deepest_more l t in omega arith

  pairs_more : (l : List (Ast × Ast)) (t u : Ast) → deepest_entry (entries_of (l ++ (t, u) ∷ [])) ≡ max (deepest_entry (entries_of l)) (max (depth t) (depth u))
  pairs_more [] t u = omega arith
  pairs_more (x ∷ l) t u = let e = pairs_more l t u in omega arith

  fits_more : (m d e : ℕ) → m ≡ max d e → nat_le d most ≡ true → nat_le e most ≡ true → nat_le m most ≡ true
  fits_more m d e h p q = grind (arith, nat_tests)

  grown_kept : (l : List Ast) (t : Ast) (b c : Bool) → nat_le (deepest (asts_of l)) most ≡ b → nat_le (depth t) most ≡ c → added_item (kept_list b l) (kept c t) ≡ cuts (l ++ t ∷ [])
  unfolding cuts
  grown_kept l t true true e f = rw (fits_more _ _ _ (deepest_more l t) e f, deepest_more l t) refl
  grown_kept l t true false e f = rw (over_more (depth t) (deepest (asts_of (l ++ t ∷ []))) most (let g = deepest_more l t in omega arith) f) refl
  grown_kept l t false c e f = rw (over_more (deepest (asts_of l)) (deepest (asts_of (l ++ t ∷ []))) most (let g = deepest_more l t in omega arith) e) refl

  pub cuts_more : (l : List Ast) (t : Ast) → added_item (cuts l) (cut t) ≡ cuts (l ++ t ∷ [])
  unfolding cut cuts
  cuts_more l t = grown_kept l t (nat_le (deepest (asts_of l)) most) (nat_le (depth t) most) refl refl

  paired_kept : (l : List (Ast × Ast)) (t u : Ast) (b c d : Bool) → nat_le (deepest_entry (entries_of l)) most ≡ b → nat_le (depth t) most ≡ c → nat_le (depth u) most ≡ d →
      added_pair (kept_pairs b l) (kept c t) (kept d u) ≡ cut_pairs (l ++ (t, u) ∷ [])
  unfolding cut_pairs
  paired_kept l t u true true true e f g = rw (fits_more _ _ _ (pairs_more l t u) e (fits_more _ _ _ refl f g), pairs_more l t u) refl
  paired_kept l t u true true false e f g = rw (over_more (depth u) (deepest_entry (entries_of (l ++ (t, u) ∷ []))) most (let h = pairs_more l t u in omega arith) g) refl
  paired_kept l t u true false d e f g = rw (over_more (depth t) (deepest_entry (entries_of (l ++ (t, u) ∷ []))) most (let h = pairs_more l t u in omega arith) f) refl
  paired_kept l t u false c d e f g = rw (over_more (deepest_entry (entries_of l)) (deepest_entry (entries_of (l ++ (t, u) ∷ []))) most (let h = pairs_more l t u in omega arith) e) refl

  pub cuts_pair : (l : List (Ast × Ast)) (t u : Ast) → added_pair (cut_pairs l) (cut t) (cut u) ≡ cut_pairs (l ++ (t, u) ∷ [])
  unfolding cut cut_pairs
  cuts_pair l t u = paired_kept l t u (nat_le (deepest_entry (entries_of l)) most) (nat_le (depth t) most) (nat_le (depth u) most) refl refl refl
