-- A tree has a type by the rules if and only if its type is found.
use Rattle.std.proofs.Common.{◌≡◌, ℕ, List, [], ◌∷◌, ◌++◌, Bool, true, false, ◌&&◌, ◌⊎◌, inl, inr, ⊎_elim, refl, ap, sym, ◌∙◌, subst, if◌then◌else◌}
use Rattle.std.specs.Prelude.{Option, Some, None, Result, Ok, Err, is_some}
use Rattle.std.specs.List.{list_all}
use Rattle.cel_tree.specs.declared.tree.Span.{Span}
use Rattle.cel_tree.specs.declared.types.Scalar.{Scalar}
use Rattle.cel_tree.specs.declared.types.CelType.{CelType}
use Rattle.cel_tree.specs.declared.types.CelType.TheVariants as kind
use Rattle.cel_tree.specs.declared.calls.Comprehension.{Comprehension}
use Rattle.cel_tree.specs.declared.calls.Function.{Function}
use Rattle.cel_tree.specs.declared.calls.Called.{Called}
use Rattle.cel_tree.specs.declared.calls.Called.TheVariants as called
use Rattle.cel_tree.specs.declared.calls.Arguments.{Arguments}
use Rattle.cel_tree.specs.declared.calls.Arguments.TheVariants as arguments
use Rattle.cel_tree.specs.declared.fault.Fault.{Fault}
use Rattle.cel_tree.specs.Ast.{Constant, Ast, Node, Form, Literal', Ident, Unary, Binary, Conditional, Member, Index, Call, Method, ListOf, MapOf, Asts, End, More, Entries, NoEntry, Pair, span_of}
use Rattle.cel_tree.specs.Types.{bool, unary_type, binary_type, conditional_type, index_type, member_type, element_type}
use Rattle.cel_tree.specs.Calls.{called_of, call_type, method_type}
use Rattle.cel_tree.specs.Faults.{◌>>=◌, row, item_type, comprehension_type, called_type, method_called_type, joined}
use Rattle.cel_tree.specs.Scopes.{is_device}
use Rattle.cel_tree.specs.Typing.{Names, name_type, is_bind, device_type, variable_of, is_has, comprehension_in, with_first, has_type, body_type, key_type, beside, literal_of, key_of, keys_type, list_type, map_type, with_variable, elements, by_comprehension, type_of, form_type, has_of, has_in, has_form, comprehension_of, bind_of, bound_of, types_of, items_of, values_of}
use Rattle.cel_tree.specs.HasType.{HasType, HaveTypes, HaveItems, HaveValues, literal, name, unary, binary, conditional, of_device, member, index, has, call, method, comprehension, bind, list, map, no_argument, argument, no_item, item, no_value, value}

-- ---- from the rules to what is found

mutual
  pub complete : {names : Names} {t : Ast} {k : CelType} → HasType names t k → type_of names t ≡ Ok k
  complete (literal c) = refl
  complete (name e) = rw e refl
  complete (unary h e) = rw (complete h, e) refl
  complete (binary h i e) = rw (complete h, complete i, e) refl
  complete (conditional h i j e) = rw (complete h, complete i, complete j, e) refl
  complete (of_device d e) = rw d e
  complete (member d h e) = rw (d, complete h, e) refl
  complete (index h i e) = rw (complete h, complete i, e) refl
  complete (has w d h e) = rw (w, d, complete h, e) refl
  complete (call w hs e) = rw (w, complete_types hs, e) refl
  complete (method b w h hs e) = rw (b, w, complete h, complete_types hs, e) refl
  complete (comprehension b w h r hs e) = rw (b, w, complete h, r, complete_types hs, e) refl
  complete (bind b h i) = rw (b, complete h, complete i) refl
  complete (list hs) = rw (complete_items hs) refl
  complete (map hs) = rw (complete_values hs) refl

  complete_types : {names : Names} {ts : Asts} {given : Arguments} → HaveTypes names ts given → types_of names ts ≡ Ok given
  complete_types no_argument = refl
  complete_types (argument h hs) = rw (complete h, complete_types hs) refl

  complete_items : {names : Names} {ts : Asts} {items : Option Scalar} → HaveItems names ts items → items_of names ts ≡ Ok items
  complete_items no_item = refl
  complete_items (item h hs) = rw (complete h, complete_items hs) refl

  complete_values : {names : Names} {earlier : List Constant} {es : Entries} {values : Option Scalar} → HaveValues names earlier es values → values_of names earlier es ≡ Ok values
  complete_values no_value = refl
  complete_values (value k b h hs) = rw (k, b, complete h, complete_values hs) refl

ok_inj : {A : Type 0} {x y : A} → ◌≡◌ {A = Result A Fault} (Ok x) (Ok y) → x ≡ y
ok_inj e = cc

pub one_type : {names : Names} {t : Ast} {k l : CelType} → HasType names t k → HasType names t l → k ≡ l
one_type h i = ok_inj (sym (complete h) ∙ complete i)

-- ---- from what is found to the rules

err_ok : {A : Type 0} {z : Fault} {x : A} → ◌≡◌ {A = Result A Fault} (Err z) (Ok x) → ⊥
err_ok e = cc

then_back : {A B : Type 0} (r : Result A Fault) (f : A → Result B Fault) (y : B) → (r >>= f) ≡ Ok y → (x : A) × (r ≡ Ok x) × (f x ≡ Ok y)
then_back (Ok x) f y e = (x, refl, e)
then_back (Err z) f y e = absurd cc

row_back : (span : Span) (o : Option CelType) (k : CelType) → row span o ≡ Ok k → o ≡ Some k
row_back span (Some l) k e = ap Some (ok_inj e)
row_back span None k e = absurd cc

name_back : (span : Span) (x : List ℕ) (o : Option CelType) (k : CelType) → name_type span x o ≡ Ok k → o ≡ Some k
name_back span x (Some l) k e = ap Some (ok_inj e)
name_back span x None k e = absurd cc

if_back : {A : Type 0} (b : Bool) (x y : Result A Fault) (k : A) → (if b then x else y) ≡ Ok k → ((b ≡ true) × (x ≡ Ok k)) ⊎ ((b ≡ false) × (y ≡ Ok k))
if_back true x y k e = inl (refl, e)
if_back false x y k e = inr (refl, e)

has_back : (c : Option Called) → is_has c ≡ true → c ≡ Some called.Has
has_back (Some called.Has) e = refl
has_back (Some (called.Comprehension c)) e = absurd cc
has_back (Some (called.Function f)) e = absurd cc
has_back (Some called.LeftOut) e = absurd cc
has_back None e = absurd cc

called_back : (span : Span) (c : Option Called) (given : Arguments) (k : CelType) → called_type span c given ≡ Ok k → (f : Function) × (c ≡ Some (called.Function f)) × (call_type f given ≡ Some k)
called_back span (Some (called.Function f)) given k e = (f, refl, row_back span _ k e)
called_back span (Some called.Has) given k e = absurd cc
called_back span (Some (called.Comprehension c)) given k e = absurd cc
called_back span (Some called.LeftOut) given k e = absurd cc
called_back span None given k e = absurd cc

method_back : (span : Span) (c : Option Called) (object : CelType) (given : Arguments) (k : CelType) → method_called_type span c object given ≡ Ok k →
    (f : Function) × (c ≡ Some (called.Function f)) × (method_type f object given ≡ Some k)
method_back span (Some (called.Function f)) object given k e = (f, refl, row_back span _ k e)
method_back span (Some called.Has) object given k e = absurd cc
method_back span (Some (called.Comprehension c)) object given k e = absurd cc
method_back span (Some called.LeftOut) object given k e = absurd cc
method_back span None object given k e = absurd cc

comprehension_back : (c : Option Called) (f : Comprehension → Result CelType Fault) (other : Result CelType Fault) (k : CelType) → by_comprehension (comprehension_in c) f other ≡ Ok k →
    ((d : Comprehension) × (c ≡ Some (called.Comprehension d)) × (f d ≡ Ok k)) ⊎ (other ≡ Ok k)
comprehension_back (Some (called.Comprehension d)) f other k e = inl (d, refl, e)
comprehension_back (Some (called.Function g)) f other k e = inr e
comprehension_back (Some called.Has) f other k e = inr e
comprehension_back (Some called.LeftOut) f other k e = inr e
comprehension_back None f other k e = inr e

elements_back : (span : Span) (o : Option Scalar) (f : Scalar → Result CelType Fault) (k : CelType) → elements span o f ≡ Ok k → (s : Scalar) × (o ≡ Some s) × (f s ≡ Ok k)
elements_back span (Some s) f k e = (s, refl, e)
elements_back span None f k e = absurd cc

with_back : (span : Span) (o : Option (List ℕ)) (f : List ℕ → Result CelType Fault) (k : CelType) → with_variable span o f ≡ Ok k → (x : List ℕ) × (o ≡ Some x) × (f x ≡ Ok k)
with_back span (Some x) f k e = (x, refl, e)
with_back span None f k e = absurd cc

some_inj : {A : Type 0} {x y : A} → Some x ≡ Some y → x ≡ y
some_inj e = cc

variable_back : (t : Ast) (x : List ℕ) → variable_of t ≡ Some x → (place : Span) × (t ≡ Node place (Ident x))
variable_back (Node place (Ident n)) x e = (place, ap (λ m. Node place (Ident m)) (some_inj e))
variable_back (Node place form) x e = absurd cc

literal_back : (t : Ast) (c : Constant) → literal_of t ≡ Some c → (place : Span) × (t ≡ Node place (Literal' c))
literal_back (Node place (Literal' d)) c e = (place, ap (λ m. Node place (Literal' m)) (some_inj e))
literal_back (Node place form) c e = absurd cc

and_back : (a b : Bool) → (a && b) ≡ true → (a ≡ true) × (b ≡ true)
and_back true b e = (refl, e)
and_back false b e = absurd cc

key_back : (span : Span) (earlier : List Constant) (o : Option Constant) (c : Constant) → key_of span earlier o ≡ Ok c →
    (o ≡ Some c) × (is_some (key_type c) ≡ true) × (list_all (beside c) earlier ≡ true)
key_back span earlier None c e = absurd cc
key_back span earlier (Some d) c e =
    ⊎_elim
    (λ p. let same = ok_inj p.1 in
    let both = and_back _ _ p.0 in
    (ap Some same, subst (λ x. is_some (key_type x) ≡ true) same both.0, subst (λ x. list_all (beside x) earlier ≡ true) same both.1))
    (λ p. absurd (err_ok p.1))
    (if_back (is_some (key_type d) && list_all (beside d) earlier) _ _ c e)

item_back : (span : Span) (k : CelType) (s : Scalar) → item_type span k ≡ Ok s → k ≡ kind.Scalar s
item_back span (kind.Scalar r) s e = ap kind.Scalar (ok_inj e)
item_back span (kind.List r) s e = absurd cc
item_back span (kind.Map l r) s e = absurd cc
item_back span (kind.Domains f) s e = absurd cc
item_back span (kind.Entries f) s e = absurd cc

one_inj : {k l : CelType} → arguments.One k ≡ arguments.One l → k ≡ l
one_inj e = cc

-- three arguments or more are many
many_back : (k l : CelType) (given : Arguments) (m : CelType) → with_first k (with_first l given) ≡ arguments.One m → ⊥
many_back k l arguments.None m e = cc
many_back k l (arguments.One n) m e = cc
many_back k l (arguments.Two n o) m e = cc
many_back k l arguments.Many m e = cc

body_back : (span : Span) (given : Arguments) (k : CelType) → body_type span given ≡ Ok k → given ≡ arguments.One k
body_back span arguments.None k e = absurd cc
body_back span (arguments.One l) k e = ap arguments.One (ok_inj e)
body_back span (arguments.Two l m) k e = absurd cc
body_back span arguments.Many k e = absurd cc

alone_back : (names : Names) (t : Ast) (ts : Asts) (l : CelType) (rest : Arguments) (k : CelType) → HasType names t l → HaveTypes names ts rest → with_first l rest ≡ arguments.One k →
    (u : Ast) × (More t ts ≡ More u End) × HasType names u k
alone_back names t ts l rest k h no_argument e = (t, refl, subst (HasType names t) (one_inj e) h)
alone_back names t ts l rest k h (argument {given = given} i hs) e = absurd (many_back _ _ given k e)

-- arguments of which there is one
one_back : (names : Names) (ts : Asts) (given : Arguments) (k : CelType) → HaveTypes names ts given → given ≡ arguments.One k → (t : Ast) × (ts ≡ More t End) × HasType names t k
one_back names ts given k no_argument e = absurd cc
one_back names ts given k (argument {t = t} h hs) e = alone_back names t _ _ _ k h hs e

mutual
  pub sound : (names : Names) (t : Ast) (k : CelType) → type_of names t ≡ Ok k → HasType names t k
  sound names (Node span form) k e = sound_form names span form k e

  sound_form : (names : Names) (span : Span) (form : Form) (k : CelType) → form_type names span form ≡ Ok k → HasType names (Node span form) k
  sound_form names span (Literal' c) k e = subst (HasType names (Node span (Literal' c))) (ok_inj e) (literal c)
  sound_form names span (Ident x) k e = name (name_back span x _ k e)
  sound_form names span (Unary op t) m e =
      let a = then_back (type_of names t) (λ k. row span (unary_type op k)) m e in
      unary (sound names t a.0 a.1) (row_back span _ m a.2)
  sound_form names span (Binary op t u) m e =
      let a = then_back (type_of names t) (λ k. type_of names u >>= λ l. row span (binary_type op k l)) m e in
      let b = then_back (type_of names u) (λ l. row span (binary_type op a.0 l)) m a.2 in
      binary (sound names t a.0 a.1) (sound names u b.0 b.1) (row_back span _ m b.2)
  sound_form names span (Conditional t u v) n e =
      let a = then_back (type_of names t) (λ k. type_of names u >>= λ l. type_of names v >>= λ m. row span (conditional_type k l m)) n e in
      let b = then_back (type_of names u) (λ l. type_of names v >>= λ m. row span (conditional_type a.0 l m)) n a.2 in
      let c = then_back (type_of names v) (λ m. row span (conditional_type a.0 b.0 m)) n b.2 in
      conditional (sound names t a.0 a.1) (sound names u b.0 b.1) (sound names v c.0 c.1) (row_back span _ n c.2)
  sound_form names span (Member t f) m e =
      ⊎_elim
      (λ p. of_device p.0 p.1)
      (λ p. let a = then_back (type_of names t) (λ k. row span (member_type k)) m p.1 in
      member p.0 (sound names t a.0 a.1) (row_back span _ m a.2))
      (if_back (is_device names t) (device_type span f) (type_of names t >>= λ k. row span (member_type k)) m e)
  sound_form names span (Index t u) m e =
      let a = then_back (type_of names t) (λ k. type_of names u >>= λ l. row span (index_type k l)) m e in
      let b = then_back (type_of names u) (λ l. row span (index_type a.0 l)) m a.2 in
      index (sound names t a.0 a.1) (sound names u b.0 b.1) (row_back span _ m b.2)
  sound_form names span (Call word ts) m e =
      ⊎_elim
      (λ p. sound_has names span word (has_back _ p.0) ts m p.1)
      (λ p. let a = then_back (types_of names ts) (λ given. called_type span (called_of word) given) m p.1 in
      let b = called_back span (called_of word) a.0 m a.2 in
      call b.1 (sound_types names ts a.0 a.1) b.2)
      (if_back (is_has (called_of word)) (has_of names span ts) (types_of names ts >>= λ given. called_type span (called_of word) given) m e)
  sound_form names span (Method t word ts) m e =
      ⊎_elim
      (λ p. sound_bind names span t word p.0 ts m p.1)
      (λ p. let a = then_back (type_of names t) (λ k. by_comprehension (comprehension_in (called_of word)) (λ c. elements span (element_type k) (λ s. comprehension_of names span c s ts)) (types_of names ts >>= λ given. method_called_type span (called_of word) k given)) m p.1 in
      ⊎_elim
      (λ q. let b = elements_back span (element_type a.0) (λ s. comprehension_of names span q.0 s ts) m q.2 in
      sound_comprehension names span t word a.0 q.0 b.0 p.0 q.1 (sound names t a.0 a.1) b.1 ts m b.2)
      (λ q. let b = then_back (types_of names ts) (λ given. method_called_type span (called_of word) a.0 given) m q in
      let c = method_back span (called_of word) a.0 b.0 m b.2 in
      method p.0 c.1 (sound names t a.0 a.1) (sound_types names ts b.0 b.1) c.2)
      (comprehension_back (called_of word) (λ c. elements span (element_type a.0) (λ s. comprehension_of names span c s ts)) (types_of names ts >>= λ given. method_called_type span (called_of word) a.0 given) m a.2))
      (if_back (is_bind t word) (bind_of names span ts) (type_of names t >>= λ k. by_comprehension (comprehension_in (called_of word)) (λ c. elements span (element_type k) (λ s. comprehension_of names span c s ts)) (types_of names ts >>= λ given. method_called_type span (called_of word) k given)) m e)
  sound_form names span (ListOf ts) m e =
      let a = then_back (items_of names ts) (λ items. Ok (list_type items)) m e in
      subst (HasType names (Node span (ListOf ts))) (ok_inj a.2) (list (sound_items names ts a.0 a.1))
  sound_form names span (MapOf es) m e =
      let a = then_back (values_of names [] es) (λ values. Ok (map_type (keys_type es) values)) m e in
      subst (HasType names (Node span (MapOf es))) (ok_inj a.2) (map (sound_values names [] es a.0 a.1))

  sound_has : (names : Names) (span : Span) (word : List ℕ) → called_of word ≡ Some called.Has → (ts : Asts) (k : CelType) → has_of names span ts ≡ Ok k → HasType names (Node span (Call word ts)) k
  sound_has names span word w End k e = absurd (err_ok e)
  sound_has names span word w (More t End) k e = sound_has_in names span word w t k e
  sound_has names span word w (More t (More u ts)) k e = absurd (err_ok e)

  sound_has_in : (names : Names) (span : Span) (word : List ℕ) → called_of word ≡ Some called.Has → (t : Ast) (k : CelType) → has_in names span t ≡ Ok k → HasType names (Node span (Call word (More t End))) k
  sound_has_in names span word w (Node place form) k e = sound_has_form names span place word w form k e

  sound_has_form : (names : Names) (span place : Span) (word : List ℕ) → called_of word ≡ Some called.Has → (form : Form) (k : CelType) → has_form names span form ≡ Ok k →
      HasType names (Node span (Call word (More (Node place form) End))) k
  sound_has_form names span place word w (Member t f) k e =
      ⊎_elim
      (λ p. absurd (err_ok p.1))
      (λ p. let a = then_back (type_of names t) (λ l. has_type span l) k p.1 in
      let b = then_back (row span (member_type a.0)) (λ l. Ok bool) k a.2 in
      subst (HasType names (Node span (Call word (More (Node place (Member t f)) End)))) (ok_inj b.2) (has w p.0 (sound names t a.0 a.1) (row_back span _ b.0 b.1)))
      (if_back (is_device names t) _ (type_of names t >>= λ l. has_type span l) k e)
  sound_has_form names span place word w form k e = absurd (err_ok e)

  sound_comprehension : (names : Names) (span : Span) (t : Ast) (word : List ℕ) (k : CelType) (c : Comprehension) (s : Scalar) → is_bind t word ≡ false → called_of word ≡ Some (called.Comprehension c) →
      HasType names t k → element_type k ≡ Some s → (ts : Asts) (l : CelType) → comprehension_of names span c s ts ≡ Ok l → HasType names (Node span (Method t word ts)) l
  sound_comprehension names span t word k c s b w h r End l e = absurd (err_ok e)
  sound_comprehension names span t word k c s b w h r (More x rest) l e =
      let v = with_back span (variable_of x) (λ n. types_of ((n, kind.Scalar s) ∷ names) rest >>= λ bodies. comprehension_type span c s bodies) l e in
      let p = variable_back x v.0 v.1 in
      let a = then_back (types_of ((v.0, kind.Scalar s) ∷ names) rest) (λ bodies. comprehension_type span c s bodies) l v.2 in
      subst (λ y. HasType names (Node span (Method t word (More y rest))) l) (sym p.1)
      (comprehension b w h r (sound_types ((v.0, kind.Scalar s) ∷ names) rest a.0 a.1) a.2)

  sound_bind : (names : Names) (span : Span) (t : Ast) (word : List ℕ) → is_bind t word ≡ true → (ts : Asts) (l : CelType) → bind_of names span ts ≡ Ok l → HasType names (Node span (Method t word ts)) l
  sound_bind names span t word b End l e = absurd (err_ok e)
  sound_bind names span t word b (More x rest) l e =
      let v = with_back span (variable_of x) (λ n. bound_of names span n rest) l e in
      let p = variable_back x v.0 v.1 in
      subst (λ y. HasType names (Node span (Method t word (More y rest))) l) (sym p.1)
      (sound_bound names span p.0 t word b v.0 rest l v.2)

  sound_bound : (names : Names) (span place : Span) (t : Ast) (word : List ℕ) → is_bind t word ≡ true → (x : List ℕ) (ts : Asts) (l : CelType) → bound_of names span x ts ≡ Ok l →
      HasType names (Node span (Method t word (More (Node place (Ident x)) ts))) l
  sound_bound names span place t word b x End l e = absurd (err_ok e)
  sound_bound names span place t word b x (More u rest) l e =
      let a = then_back (type_of names u) (λ k. types_of ((x, k) ∷ names) rest >>= λ given. body_type span given) l e in
      let g = then_back (types_of ((x, a.0) ∷ names) rest) (λ given. body_type span given) l a.2 in
      let o = one_back _ rest g.0 l (sound_types ((x, a.0) ∷ names) rest g.0 g.1) (body_back span g.0 l g.2) in
      subst (λ ts. HasType names (Node span (Method t word (More (Node place (Ident x)) (More u ts)))) l) (sym o.1)
      (bind b (sound names u a.0 a.1) o.2)

  sound_types : (names : Names) (ts : Asts) (given : Arguments) → types_of names ts ≡ Ok given → HaveTypes names ts given
  sound_types names End given e = subst (HaveTypes names End) (ok_inj e) no_argument
  sound_types names (More t ts) given e =
      let a = then_back (type_of names t) (λ k. types_of names ts >>= λ rest. Ok (with_first k rest)) given e in
      let b = then_back (types_of names ts) (λ rest. Ok (with_first a.0 rest)) given a.2 in
      subst (HaveTypes names (More t ts)) (ok_inj b.2) (argument (sound names t a.0 a.1) (sound_types names ts b.0 b.1))

  sound_items : (names : Names) (ts : Asts) (items : Option Scalar) → items_of names ts ≡ Ok items → HaveItems names ts items
  sound_items names End items e = subst (HaveItems names End) (ok_inj e) no_item
  sound_items names (More t ts) items e =
      let a = then_back (type_of names t) (λ k. item_type (span_of t) k >>= λ s. items_of names ts >>= λ rest. Ok (Some (joined s rest))) items e in
      let b = then_back (item_type (span_of t) a.0) (λ s. items_of names ts >>= λ rest. Ok (Some (joined s rest))) items a.2 in
      let c = then_back (items_of names ts) (λ rest. Ok (Some (joined b.0 rest))) items b.2 in
      subst (HaveItems names (More t ts)) (ok_inj c.2)
      (item (subst (HasType names t) (item_back (span_of t) a.0 b.0 b.1) (sound names t a.0 a.1)) (sound_items names ts c.0 c.1))

  sound_values : (names : Names) (earlier : List Constant) (es : Entries) (values : Option Scalar) → values_of names earlier es ≡ Ok values → HaveValues names earlier es values
  sound_values names earlier NoEntry values e = subst (HaveValues names earlier NoEntry) (ok_inj e) no_value
  sound_values names earlier (Pair k t es) values e =
      let y = then_back (key_of (span_of k) earlier (literal_of k)) (λ c. type_of names t >>= λ l. item_type (span_of t) l >>= λ s. values_of names (earlier ++ c ∷ []) es >>= λ rest. Ok (Some (joined s rest))) values e in
      let a = then_back (type_of names t) (λ l. item_type (span_of t) l >>= λ s. values_of names (earlier ++ y.0 ∷ []) es >>= λ rest. Ok (Some (joined s rest))) values y.2 in
      let b = then_back (item_type (span_of t) a.0) (λ s. values_of names (earlier ++ y.0 ∷ []) es >>= λ rest. Ok (Some (joined s rest))) values a.2 in
      let c = then_back (values_of names (earlier ++ y.0 ∷ []) es) (λ rest. Ok (Some (joined b.0 rest))) values b.2 in
      let z = key_back (span_of k) earlier (literal_of k) y.0 y.1 in
      let p = literal_back k y.0 z.0 in
      subst (HaveValues names earlier (Pair k t es)) (ok_inj c.2)
      (subst (λ x. HaveValues names earlier (Pair x t es) (Some (joined b.0 c.0))) (sym p.1)
      (value z.1 z.2 (subst (HasType names t) (item_back (span_of t) a.0 b.0 b.1) (sound names t a.0 a.1)) (sound_values names (earlier ++ y.0 ∷ []) es c.0 c.1)))
