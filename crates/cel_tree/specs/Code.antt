-- How an expression is stored as a tree of numbers, so that a struct may be seen as an expression.
use Rattle.std.specs.Prelude.{◌≡◌, ◌⊎◌, ℕ, ℤ, List, Bool, refl}
use Rattle.std.specs.Coded.{Coded, code_by, coded⊎, coded_ℕ, coded_ℤ, coded_bool, coded_list}
use base.Stored.{Gv, gnil, gnum, gcons, num, coded_unit}
use mathlib.Core.Path.{ap, subst, sym}
use mathlib.Core.Logic.{inl, inr}
use Prim.Native.Nat.{zero, suc}
use Rattle.cel_tree.specs.contracts.tree.Span as span
use Rattle.cel_tree.specs.contracts.tree.UnaryOp as unary_op
use Rattle.cel_tree.specs.contracts.tree.BinaryOp as binary_op
use Rattle.cel_tree.specs.Ast.{Constant, Null, Truth, Whole, Bytes, Ast, Node, Form, Literal', Ident, Unary, Binary, Conditional, Member, Index, Call, Method, ListOf, MapOf, Asts, End, More, Entries, NoEntry, Pair}

abbrev Constants : Type 0
Constants = Unit {0} ⊎ (Bool ⊎ (ℤ ⊎ List ℕ))

abbrev constant_cases : Constant → Constants
constant_cases Null = inl tt
constant_cases (Truth b) = inr (inl b)
constant_cases (Whole n) = inr (inr (inl n))
constant_cases (Bytes s) = inr (inr (inr s))

abbrev constant_of : Constants → Constant
constant_of (inl u) = Null
constant_of (inr (inl b)) = Truth b
constant_of (inr (inr (inl n))) = Whole n
constant_of (inr (inr (inr s))) = Bytes s

pub constant_same : (c : Constant) → constant_of (constant_cases c) ≡ c
constant_same Null = refl
constant_same (Truth b) = refl
constant_same (Whole n) = refl
constant_same (Bytes s) = refl

abbrev coded_bytes : Coded (List ℕ)
coded_bytes = coded_list coded_ℕ

abbrev pub coded_constant : Coded Constant
coded_constant = code_by Constants (coded⊎ coded_unit (coded⊎ coded_bool (coded⊎ coded_ℤ coded_bytes))) constant_cases constant_of constant_same

abbrev prefix : Gv → Gv
prefix gnil = gnil
prefix (gnum n) = gnil
prefix (gcons a b) = a

abbrev rest : Gv → Gv
rest gnil = gnil
rest (gnum n) = gnil
rest (gcons a b) = b

abbrev mutual
  code_ast : Ast → Gv
  code_ast (Node s f) = gcons (span.the_row.coded.code s) (code_form f)

  code_form : Form → Gv
  code_form (Literal' c) = gcons (gnum 0) (coded_constant.code c)
  code_form (Ident s) = gcons (gnum 1) (coded_bytes.code s)
  code_form (Unary op t) = gcons (gnum 2) (gcons (unary_op.the_row.coded.code op) (code_ast t))
  code_form (Binary op t u) = gcons (gnum 3) (gcons (binary_op.the_row.coded.code op) (gcons (code_ast t) (code_ast u)))
  code_form (Conditional t u v) = gcons (gnum 4) (gcons (code_ast t) (gcons (code_ast u) (code_ast v)))
  code_form (Member t s) = gcons (gnum 5) (gcons (code_ast t) (coded_bytes.code s))
  code_form (Index t u) = gcons (gnum 6) (gcons (code_ast t) (code_ast u))
  code_form (Call s ts) = gcons (gnum 7) (gcons (coded_bytes.code s) (code_asts ts))
  code_form (Method t s ts) = gcons (gnum 8) (gcons (code_ast t) (gcons (coded_bytes.code s) (code_asts ts)))
  code_form (ListOf ts) = gcons (gnum 9) (code_asts ts)
  code_form (MapOf es) = gcons (gnum 10) (code_entries es)

  code_asts : Asts → Gv
  code_asts End = gnil
  code_asts (More t ts) = gcons (code_ast t) (code_asts ts)

  code_entries : Entries → Gv
  code_entries NoEntry = gnil
  code_entries (Pair t u es) = gcons (gcons (code_ast t) (code_ast u)) (code_entries es)

abbrev tag : Gv → ℕ
tag g = num (prefix g)

abbrev second : Gv → Gv
second g = prefix (rest g)

abbrev third : Gv → Gv
third g = prefix (rest (rest g))

abbrev IsCons : Gv → Type 0
IsCons gnil = ⊥
IsCons (gnum n) = ⊥
IsCons (gcons a b) = Unit {0}

abbrev Same : ℕ → ℕ → Type 0
Same zero zero = Unit {0}
Same zero (suc n) = ⊥
Same (suc m) zero = ⊥
Same (suc m) (suc n) = Same m n

same_itself : (n : ℕ) → Same n n
same_itself zero = tt
same_itself (suc n) = same_itself n

same_of : (m n : ℕ) → m ≡ n → Same m n
same_of m n e = subst (Same m) e (same_itself m)

mutual
  pub inj_ast : (x y : Ast) → code_ast x ≡ code_ast y → x ≡ y
  inj_ast (Node s f) (Node r g) p = λ i. Node (span.the_row.coded.inj s r (ap prefix p) i) (inj_form f g (ap rest p) i)

  inj_form : (x y : Form) → code_form x ≡ code_form y → x ≡ y
  inj_form (Literal' c) (Literal' d) p = ap Literal' (coded_constant.inj c d (ap rest p))
  inj_form (Ident s) (Ident r) p = ap Ident (coded_bytes.inj s r (ap rest p))
  inj_form (Unary o t) (Unary q x) p = λ i. Unary (unary_op.the_row.coded.inj o q (ap second p) i) (inj_ast t x (ap (λ g. rest (rest g)) p) i)
  inj_form (Binary o t u) (Binary q x y) p = λ i. Binary (binary_op.the_row.coded.inj o q (ap second p) i) (inj_ast t x (ap third p) i) (inj_ast u y (ap (λ g. rest (rest (rest g))) p) i)
  inj_form (Conditional t u v) (Conditional x y z) p = λ i. Conditional (inj_ast t x (ap second p) i) (inj_ast u y (ap third p) i) (inj_ast v z (ap (λ g. rest (rest (rest g))) p) i)
  inj_form (Member t s) (Member x r) p = λ i. Member (inj_ast t x (ap second p) i) (coded_bytes.inj s r (ap (λ g. rest (rest g)) p) i)
  inj_form (Index t u) (Index x y) p = λ i. Index (inj_ast t x (ap second p) i) (inj_ast u y (ap (λ g. rest (rest g)) p) i)
  inj_form (Call s ts) (Call r xs) p = λ i. Call (coded_bytes.inj s r (ap second p) i) (inj_asts ts xs (ap (λ g. rest (rest g)) p) i)
  inj_form (Method t s ts) (Method x r xs) p = λ i. Method (inj_ast t x (ap second p) i) (coded_bytes.inj s r (ap third p) i) (inj_asts ts xs (ap (λ g. rest (rest (rest g))) p) i)
  inj_form (ListOf ts) (ListOf xs) p = ap ListOf (inj_asts ts xs (ap rest p))
  inj_form (MapOf es) (MapOf xs) p = ap MapOf (inj_entries es xs (ap rest p))
  inj_form (Literal' c) y p = absurd (same_of _ _ (ap tag p))
  inj_form (Ident s) y p = absurd (same_of _ _ (ap tag p))
  inj_form (Unary o t) y p = absurd (same_of _ _ (ap tag p))
  inj_form (Binary o t u) y p = absurd (same_of _ _ (ap tag p))
  inj_form (Conditional t u v) y p = absurd (same_of _ _ (ap tag p))
  inj_form (Member t s) y p = absurd (same_of _ _ (ap tag p))
  inj_form (Index t u) y p = absurd (same_of _ _ (ap tag p))
  inj_form (Call s ts) y p = absurd (same_of _ _ (ap tag p))
  inj_form (Method t s ts) y p = absurd (same_of _ _ (ap tag p))
  inj_form (ListOf ts) y p = absurd (same_of _ _ (ap tag p))
  inj_form (MapOf es) y p = absurd (same_of _ _ (ap tag p))

  inj_asts : (x y : Asts) → code_asts x ≡ code_asts y → x ≡ y
  inj_asts End End p = refl
  inj_asts (More t ts) (More x xs) p = λ i. More (inj_ast t x (ap prefix p) i) (inj_asts ts xs (ap rest p) i)
  inj_asts End (More x xs) p = absurd (subst IsCons (sym p) tt)
  inj_asts (More t ts) End p = absurd (subst IsCons p tt)

  inj_entries : (x y : Entries) → code_entries x ≡ code_entries y → x ≡ y
  inj_entries NoEntry NoEntry p = refl
  inj_entries (Pair t u es) (Pair x y xs) p = λ i. Pair (inj_ast t x (ap (λ g. prefix (prefix g)) p) i) (inj_ast u y (ap (λ g. rest (prefix g)) p) i) (inj_entries es xs (ap rest p) i)
  inj_entries NoEntry (Pair x y xs) p = absurd (subst IsCons (sym p) tt)
  inj_entries (Pair t u es) NoEntry p = absurd (subst IsCons p tt)

abbrev pub coded_ast : Coded Ast
coded_ast = record { code = code_ast; inj = inj_ast }
