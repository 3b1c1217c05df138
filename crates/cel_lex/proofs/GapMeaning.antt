-- What a gap is made of.
use Rattle.std.proofs.Common.{◌≡◌, ℕ, suc, ◌+◌, ◌<◌, Bool, true, false, List, [], ◌∷◌, ◌++◌, take, length, ◌&&◌, ◌==◌, not, arith, refl, sym, ap, subst}
use Rattle.std.specs.List.{list_all}
use Rattle.std.proofs.lemmas.Bool.Decides.{nat_tests}
use Rattle.cel_lex.proofs.Choices.{and-left, and-right}
use Rattle.cel_lex.specs.Bytes.{is_blank, is_line_end, begins_with}
use Rattle.cel_lex.specs.Gap.{gap_of, gap_from, IsGap, empty, blank, comment}

-- the rest of a comment with its line end, and a gap
pub record EndsLine (xs : List ℕ) : Type 0 where
  pub line : List ℕ
  pub mark : ℕ
  pub rest : List ℕ
  pub is : xs ≡ line ++ mark ∷ rest
  pub inside : list_all (λ x. not (is_line_end x)) line ≡ true
  pub ends : is_line_end mark ≡ true
  pub gap : IsGap rest

one_plus : (n : ℕ) → 1 + n ≡ suc n
one_plus n = omega arith

slash_line_end : is_line_end 47 ≡ false
unfolding is_line_end
slash_line_end = refl

abbrev Meaning : Bool → List ℕ → Type 0
Meaning true xs = EndsLine xs
Meaning false xs = IsGap xs

abbrev Front : Bool → List ℕ → Type 0
Front inside bs = gap_from inside bs < length bs → Meaning inside (take (gap_from inside bs) bs)

one_more : (c : ℕ) (line : List ℕ) → is_line_end c ≡ false → list_all (λ x. not (is_line_end x)) line ≡ true → list_all (λ x. not (is_line_end x)) (c ∷ line) ≡ true
one_more c line e h = rw e h

line_more : (c : ℕ) (cs : List ℕ) (b : Bool) → is_line_end c ≡ b → Front true cs → Front false cs → Front true (c ∷ cs)
line_more c cs true e in_line in_gap more =
    let n : gap_from true (c ∷ cs) ≡ suc (gap_from false cs) = rw e (one_plus _) in
    rw n (record { line = []; mark = c; rest = take (gap_from false cs) cs; is = refl; inside = refl; ends = e; gap = in_gap (omega arith) })
line_more c cs false e in_line in_gap more =
    let n : gap_from true (c ∷ cs) ≡ suc (gap_from true cs) = rw e (one_plus _) in
    let r = in_line (omega arith) in
    rw n (record { line = c ∷ r.line; mark = r.mark; rest = r.rest; is = ap (λ (t : List ℕ). c ∷ t) r.is; inside = one_more c r.line e r.inside; ends = r.ends; gap = r.gap })

-- a line that begins with a slash after another
opened : (d : ℕ) (xs line : List ℕ) (mark : ℕ) (rest : List ℕ) → d ≡ 47 → d ∷ xs ≡ line ++ mark ∷ rest → list_all (λ x. not (is_line_end x)) line ≡ true → is_line_end mark ≡ true → IsGap rest → IsGap (47 ∷ d ∷ xs)
opened d xs [] mark rest e is all ends gap =
    let same : mark ≡ 47 = cc in
    let is_end : is_line_end 47 ≡ true = rw same at ends in
    let slash = slash_line_end in
    cc
opened d xs (y ∷ line) mark rest e is all ends gap =
    let behind : xs ≡ line ++ mark ∷ rest = cc in
    rw (e, behind) (comment line mark rest (and-right _ _ all) ends gap)

byte_is : (c a : ℕ) → (c == a) ≡ true → c ≡ a
byte_is c a h = grind (arith, nat_tests)

gap_more : (c : ℕ) (cs : List ℕ) (b d : Bool) → is_blank c ≡ b → (c == 47 && begins_with 47 cs) ≡ d → Front false cs → Front true cs → Front false (c ∷ cs)
gap_more c cs true d e h in_gap in_line more =
    let n : gap_from false (c ∷ cs) ≡ suc (gap_from false cs) = rw e (one_plus _) in
    rw n (blank e (in_gap (omega arith)))
gap_more c cs false false e h in_gap in_line more =
    let n : gap_from false (c ∷ cs) ≡ 0 = rw (e, h) refl in
    rw n empty
gap_more c [] false true e h in_gap in_line more = let none : false ≡ true = and-right (c == 47) _ h in cc
gap_more c (d ∷ ds) false true e h in_gap in_line more =
    let first : c ≡ 47 = byte_is c 47 (and-left _ _ h) in
    let second : d ≡ 47 = byte_is d 47 (and-right (c == 47) _ h) in
    let n : gap_from false (c ∷ d ∷ ds) ≡ suc (gap_from true (d ∷ ds)) = rw (e, h) (one_plus _) in
    let m : gap_from true (d ∷ ds) ≡ suc (gap_from (not (is_line_end d)) ds) = one_plus _ in
    let r = subst (λ (i : ℕ). EndsLine (take i (d ∷ ds))) m (in_line (omega arith)) in
    let gap = opened d (take (gap_from (not (is_line_end d)) ds) ds) r.line r.mark r.rest second r.is r.inside r.ends r.gap in
    let there : IsGap (c ∷ take (suc (gap_from (not (is_line_end d)) ds)) (d ∷ ds)) = rw first gap in
    subst (λ (i : ℕ). IsGap (take i (c ∷ d ∷ ds))) (sym n) (subst (λ (i : ℕ). IsGap (c ∷ take i (d ∷ ds))) (sym m) there)

pub front_means : (inside : Bool) (bs : List ℕ) → Front inside bs
front_means false [] more = empty
front_means true [] more = absurd (omega arith)
front_means true (c ∷ cs) more = line_more c cs (is_line_end c) refl (front_means true cs) (front_means false cs) more
front_means false (c ∷ cs) more = gap_more c cs (is_blank c) (c == 47 && begins_with 47 cs) refl refl (front_means false cs) (front_means true cs) more

-- what is before a token is a gap
pub gap_means : (bs : List ℕ) → gap_of bs < length bs → IsGap (take (gap_of bs) bs)
gap_means bs more = front_means false bs more
