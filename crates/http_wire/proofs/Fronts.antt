-- A head at the start of bytes is the same whatever follows, and there is one.
use Rattle.std.proofs.Common.{ℕ, ◌+◌, ◌-◌, ◌≤◌, ◌≡◌, ◌∙◌, Bool, true, false, cond, eqb, nat_lt, ◌&&◌, ◌||◌, List, [], ◌∷◌, ◌++◌, length, take, drop, get_or, refl, sym, ap, arith, option_map}
use Rattle.std.specs.Prelude.{Option, None, Some}
use Rattle.std.proofs.Math.Seq.{take-append-add}
use Rattle.std.proofs.lemmas.List.{length-append}
use Rattle.http_wire.specs.Heads.{HasNoHead, IsHead, behind_empty, empty_line, through_empty}

none_some : (n : ℕ) → ◌≡◌ {A = Option ℕ} None (Some n) → ⊥
none_some n e = absurd (cc)

by_none : {A : Type 0} (n : ℕ) (o : Option ℕ) → o ≡ None → o ≡ Some n → A
by_none n o e f = absurd (none_some n (sym e ∙ f))

abbrev next : Option ℕ → Option ℕ
next o = option_map (λ n. 1 + n) o

and_false : (t : Bool) → (t && false) ≡ false
and_false true = refl
and_false false = refl

pub none_at_all : through_empty [] ≡ None
unfolding through_empty
none_at_all = refl

through_cons : (b : ℕ) (bs : List ℕ) → through_empty (b ∷ bs) ≡ cond (eqb b 10 && nat_lt 0 (empty_line bs)) (Some (1 + empty_line bs)) (option_map (λ n. 1 + n) (through_empty bs))
unfolding through_empty
through_cons b bs = refl

none_one : (b : ℕ) → through_empty (b ∷ []) ≡ None
none_one b = through_cons b [] ∙ ap (λ (t : Bool). cond t (Some (1 + 0)) (next (through_empty []))) (and_false (eqb b 10)) ∙ ap next none_at_all

-- the bytes after empty lines

none_nothing : through_empty (behind_empty []) ≡ None
unfolding behind_empty through_empty
none_nothing = refl

behind_one : (b : ℕ) → behind_empty (b ∷ []) ≡ cond (eqb b 10 || (eqb b 13 && false)) (behind_empty []) (b ∷ [])
unfolding behind_empty
behind_one b = refl

none_byte : (b : ℕ) (t : Bool) → eqb b 10 ≡ t → through_empty (behind_empty (b ∷ [])) ≡ None
none_byte b true e = ap through_empty (behind_one b ∙ ap (λ (t : Bool). cond (t || (eqb b 13 && false)) (behind_empty []) (b ∷ [])) e) ∙ none_nothing
none_byte b false e =
    ap through_empty (behind_one b ∙ ap (λ (t : Bool). cond (t || (eqb b 13 && false)) (behind_empty []) (b ∷ [])) e ∙ ap (λ (t : Bool). cond t (behind_empty []) (b ∷ [])) (and_false (eqb b 13)))
    ∙ none_one b

behind_two : (b c : ℕ) (cs : List ℕ) → behind_empty (b ∷ c ∷ cs) ≡ cond (eqb b 10 || (eqb b 13 && eqb c 10)) (behind_empty (c ∷ cs)) (b ∷ c ∷ cs)
unfolding behind_empty
behind_two b c cs = refl

behind_by : (b c : ℕ) (cs ys : List ℕ) (n : ℕ) (t : Bool) → (eqb b 10 || (eqb b 13 && eqb c 10)) ≡ t
    → (through_empty (behind_empty (c ∷ cs)) ≡ Some n → behind_empty ((c ∷ cs) ++ ys) ≡ behind_empty (c ∷ cs) ++ ys)
    → through_empty (behind_empty (b ∷ c ∷ cs)) ≡ Some n → behind_empty (b ∷ c ∷ (cs ++ ys)) ≡ behind_empty (b ∷ c ∷ cs) ++ ys
behind_by b c cs ys n true e goes h =
    let same : behind_empty (b ∷ c ∷ cs) ≡ behind_empty (c ∷ cs) = behind_two b c cs ∙ ap (λ (t : Bool). cond t (behind_empty (c ∷ cs)) (b ∷ c ∷ cs)) e in
    behind_two b c (cs ++ ys) ∙ ap (λ (t : Bool). cond t (behind_empty (c ∷ (cs ++ ys))) (b ∷ c ∷ (cs ++ ys))) e
    ∙ goes (ap through_empty (sym same) ∙ h) ∙ ap (λ (l : List ℕ). l ++ ys) (sym same)
behind_by b c cs ys n false e goes h =
    behind_two b c (cs ++ ys) ∙ ap (λ (t : Bool). cond t (behind_empty (c ∷ (cs ++ ys))) (b ∷ c ∷ (cs ++ ys))) e
    ∙ ap (λ (l : List ℕ). l ++ ys) (sym (behind_two b c cs ∙ ap (λ (t : Bool). cond t (behind_empty (c ∷ cs)) (b ∷ c ∷ cs)) e))

pub behind_more : (xs ys : List ℕ) (n : ℕ) → through_empty (behind_empty xs) ≡ Some n → behind_empty (xs ++ ys) ≡ behind_empty xs ++ ys
behind_more [] ys n h = by_none n (through_empty (behind_empty [])) none_nothing h
behind_more (b ∷ []) ys n h = by_none n (through_empty (behind_empty (b ∷ []))) (none_byte b (eqb b 10) refl) h
behind_more (b ∷ c ∷ cs) ys n h = behind_by b c cs ys n (eqb b 10 || (eqb b 13 && eqb c 10)) refl (λ k. behind_more (c ∷ cs) ys n k) h

-- up to the end of the first empty line

one_less : (n : ℕ) (o : Option ℕ) → option_map (λ m. 1 + m) o ≡ Some n → o ≡ Some (n - 1)
one_less n None h = absurd (none_some n h)
one_less n (Some m) h = let e : 1 + m ≡ n = cc in ap (λ (k : ℕ). Some k) (omega (arith, e))

through_by : (b : ℕ) (bs bs_more : List ℕ) (n : ℕ) (t : Bool) → (eqb b 10 && nat_lt 0 (empty_line bs)) ≡ t → empty_line bs_more ≡ empty_line bs
    → ((k : ℕ) → through_empty bs ≡ Some k → through_empty bs_more ≡ Some k) → through_empty (b ∷ bs) ≡ Some n → through_empty (b ∷ bs_more) ≡ Some n
through_by b bs bs_more n true e same goes h =
    let on : (eqb b 10 && nat_lt 0 (empty_line bs_more)) ≡ true = ap (λ (m : ℕ). eqb b 10 && nat_lt 0 m) same ∙ e in
    through_cons b bs_more ∙ ap (λ (t : Bool). cond t (Some (1 + empty_line bs_more)) (next (through_empty bs_more))) on ∙ ap (λ (m : ℕ). Some (1 + m)) same
    ∙ sym (through_cons b bs ∙ ap (λ (t : Bool). cond t (Some (1 + empty_line bs)) (next (through_empty bs))) e) ∙ h
through_by b bs bs_more n false e same goes h =
    let on : (eqb b 10 && nat_lt 0 (empty_line bs_more)) ≡ false = ap (λ (m : ℕ). eqb b 10 && nat_lt 0 m) same ∙ e in
    let old : next (through_empty bs) ≡ Some n = sym (through_cons b bs ∙ ap (λ (t : Bool). cond t (Some (1 + empty_line bs)) (next (through_empty bs))) e) ∙ h in
    let less : through_empty bs ≡ Some (n - 1) = one_less n (through_empty bs) old in
    through_cons b bs_more ∙ ap (λ (t : Bool). cond t (Some (1 + empty_line bs_more)) (next (through_empty bs_more))) on
    ∙ ap next (goes (n - 1) less) ∙ sym (ap next less) ∙ old

zero_line : (c : ℕ) (v : Bool) → eqb c 10 ≡ false → (eqb c 13 && false) ≡ v → v ≡ false → empty_line (c ∷ []) ≡ 0
zero_line c v e f g = rw e (rw (f ∙ g) refl)

one_line : (c : ℕ) (ys : List ℕ) → eqb c 10 ≡ true → empty_line (c ∷ ys) ≡ 1
one_line c ys e = rw e refl

none_two : (b c : ℕ) → eqb c 10 ≡ false → through_empty (b ∷ c ∷ []) ≡ None
none_two b c e =
    through_cons b (c ∷ [])
    ∙ ap (λ (m : ℕ). cond (eqb b 10 && nat_lt 0 m) (Some (1 + m)) (next (through_empty (c ∷ [])))) (zero_line c (eqb c 13 && false) e refl (and_false (eqb c 13)))
    ∙ ap (λ (t : Bool). cond t (Some (1 + 0)) (next (through_empty (c ∷ [])))) (and_false (eqb b 10))
    ∙ ap next (none_one c)

two_lines : (b c n : ℕ) (ys : List ℕ) (u : Bool) → eqb c 10 ≡ u → through_empty (b ∷ c ∷ []) ≡ Some n → through_empty (b ∷ c ∷ ys) ≡ Some n
two_lines b c n ys true e h =
    through_by b (c ∷ []) (c ∷ ys) n (eqb b 10 && nat_lt 0 (empty_line (c ∷ []))) refl (one_line c ys e ∙ sym (one_line c [] e)) (λ k j. by_none k (through_empty (c ∷ [])) (none_one c) j) h
two_lines b c n ys false e h = by_none n (through_empty (b ∷ c ∷ [])) (none_two b c e) h

empty_two : (c d : ℕ) (ds ys : List ℕ) → empty_line (c ∷ d ∷ (ds ++ ys)) ≡ empty_line (c ∷ d ∷ ds)
empty_two c d ds ys = refl

pub through_more : (xs ys : List ℕ) (n : ℕ) → through_empty xs ≡ Some n → through_empty (xs ++ ys) ≡ Some n
through_more [] ys n h = by_none n (through_empty []) none_at_all h
through_more (b ∷ []) ys n h = by_none n (through_empty (b ∷ [])) (none_one b) h
through_more (b ∷ c ∷ []) ys n h = two_lines b c n ys (eqb c 10) refl h
through_more (b ∷ c ∷ d ∷ ds) ys n h = through_by b (c ∷ d ∷ ds) (c ∷ d ∷ (ds ++ ys)) n (eqb b 10 && nat_lt 0 (empty_line (c ∷ d ∷ ds))) refl (empty_two c d ds ys) (λ k j. through_more (c ∷ d ∷ ds) ys k j) h

-- a head at the start of bytes

pub record Fronted (bytes prefix lines rest : List ℕ) : Type 0 where
  pub is : bytes ≡ prefix ++ rest
  pub head : IsHead prefix lines

pub lines_then : (bytes prefix lines rest : List ℕ) → Fronted bytes prefix lines rest → behind_empty bytes ≡ lines ++ rest
lines_then bytes prefix lines rest h =
    ap behind_empty h.is
    ∙ behind_more prefix rest (length lines) (ap through_empty h.head.lines_are ∙ h.head.ends)
    ∙ ap (λ (l : List ℕ). l ++ rest) h.head.lines_are

pub ends_then : (bytes prefix lines rest : List ℕ) → Fronted bytes prefix lines rest → through_empty (behind_empty bytes) ≡ Some (length lines)
ends_then bytes prefix lines rest h = ap through_empty (lines_then bytes prefix lines rest h) ∙ through_more lines rest (length lines) h.head.ends

-- there is none if as many bytes as a head may have contain none
pub no_head_there : (bytes prefix lines rest : List ℕ) (most : ℕ) → length prefix ≤ most → Fronted bytes prefix lines rest → HasNoHead (take most bytes) → ⊥
no_head_there bytes prefix lines rest most few h none =
    let cut : take most bytes ≡ prefix ++ take (most - length prefix) rest =
    ap (λ (k : ℕ). take k bytes) (omega (arith, few)) ∙ ap (take (length prefix + (most - length prefix))) h.is ∙ take-append-add prefix rest (most - length prefix) in
    none_some (length lines) (sym none ∙ ends_then (take most bytes) prefix lines (take (most - length prefix) rest) (record { is = cut; head = h.head }))

some_is : (m n : ℕ) → ◌≡◌ {A = Option ℕ} (Some m) (Some n) → m ≡ n
some_is m n e = cc

pub split_same : (a b c d : List ℕ) → length a ≡ length b → a ++ c ≡ b ++ d → (a ≡ b) × (c ≡ d)
split_same [] [] c d l e = (refl, e)
split_same [] (y ∷ b) c d l e = absurd (omega (arith, l))
split_same (x ∷ a) [] c d l e = absurd (omega (arith, l))
split_same (x ∷ a) (y ∷ b) c d l e =
    let r = split_same a b c d (omega (arith, l)) (ap (drop 1) e) in
    let first : x ≡ y = ap (λ (l : List ℕ). get_or l 0 0) e in
    (ap (λ (l : List ℕ). x ∷ l) r.0 ∙ ap (λ (z : ℕ). z ∷ b) first, r.1)

-- two heads at the start of the same bytes are one
pub record Same (prefix lines rest prefix' lines' rest' : List ℕ) : Type 0 where
  pub fronts : prefix ≡ prefix'
  pub lines_are : lines ≡ lines'
  pub rests : rest ≡ rest'

pub one_head : (bytes prefix lines rest prefix' lines' rest' : List ℕ) → Fronted bytes prefix lines rest → Fronted bytes prefix' lines' rest' → Same prefix lines rest prefix' lines' rest'
one_head bytes prefix lines rest prefix' lines' rest' h h' =
    let long : length lines ≡ length lines' = some_is (length lines) (length lines') (sym (ends_then bytes prefix lines rest h) ∙ ends_then bytes prefix' lines' rest' h') in
    let s = split_same lines lines' rest rest' long (sym (lines_then bytes prefix lines rest h) ∙ lines_then bytes prefix' lines' rest' h') in
    let all : length prefix + length rest ≡ length prefix' + length rest' = sym (length-append prefix rest) ∙ ap length (sym h.is ∙ h'.is) ∙ length-append prefix' rest' in
    let f = split_same prefix prefix' rest rest' (omega (arith, all, ap length s.1)) (sym h.is ∙ h'.is) in
    record { fronts = f.0; lines_are = s.0; rests = s.1 }
