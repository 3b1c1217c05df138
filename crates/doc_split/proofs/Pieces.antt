-- What scanning bytes of a document shows about its prefixes.
use Rattle.std.proofs.Common.{ℕ, suc, ◌+◌, ◌≤◌, ◌<◌, ◌≡◌, ◌∙◌, Bool, true, false, cond, eqb, List, [], ◌∷◌, ◌++◌, length, take, refl, sym, ap, subst, arith, append_assoc, append-nil, count_by}
use Rattle.std.specs.Prelude.{Some}
use Rattle.std.proofs.lemmas.Bool.{eqb-true}
use Rattle.std.proofs.lemmas.Bool.Decides.{nat_tests}
use Rattle.std.proofs.lemmas.List.{length-append}
use Rattle.std.proofs.lemmas.List.Sums.{sum_by-append}
use Rattle.doc_split.specs.declared.place.Place.{Place}
use Rattle.doc_split.specs.declared.place.Place.TheVariants.{Outside, Quoted, Escaped}
use Rattle.doc_split.specs.declared.scan.Scan.{Scan}
use Rattle.doc_split.specs.Documents.{balanced_after, count_outside, is_balanced, next_place, unquoted}
use Rattle.doc_split.specs.Scan.{depth_after, place_behind, piece_length, scan_after, scan_behind}
use Rattle.doc_split.specs.Begun.{IsBehind}

pub unquoted_more : (place : Place) (xs ys : List ℕ) → unquoted place (xs ++ ys) ≡ unquoted place xs ++ unquoted (place_behind place xs) ys
unquoted_more place [] ys = refl
unquoted_more Outside (b ∷ bs) ys = ap (λ (l : List ℕ). b ∷ l) (unquoted_more (next_place Outside b) bs ys)
unquoted_more Quoted (b ∷ bs) ys = unquoted_more (next_place Quoted b) bs ys
unquoted_more Escaped (b ∷ bs) ys = unquoted_more (next_place Escaped b) bs ys

pub place_more : (place : Place) (xs ys : List ℕ) → place_behind place (xs ++ ys) ≡ place_behind (place_behind place xs) ys
place_more place [] ys = refl
place_more place (b ∷ bs) ys = place_more (next_place place b) bs ys

pub zero_not : (n : ℕ) → eqb n 0 ≡ false → 0 < n
zero_not n e = grind (arith, nat_tests)

behind_outside : (b d o c n m : ℕ) → o ≡ c + d → 0 < d → n ≡ o + (0 + cond (eqb b 123) 1 0) → m ≡ c + (0 + cond (eqb b 125) 1 0) → n ≡ m + depth_after Outside d b
behind_outside b d o c n m e h f g = grind (arith, nat_tests)

depth_more : (place : Place) (b d o c n m : ℕ) → o ≡ c + d → 0 < d → n ≡ o + count_by (λ x. eqb x 123) (unquoted place (b ∷ [])) → m ≡ c + count_by (λ x. eqb x 125) (unquoted place (b ∷ [])) → n ≡ m + depth_after place d b
depth_more Outside b d o c n m e h f g = behind_outside b d o c n m e h f g
depth_more Quoted b d o c n m e h f g = omega arith
depth_more Escaped b d o c n m e h f g = omega arith

count_more : (x : ℕ) (prefix : List ℕ) (b : ℕ) (place : Place) → place_behind Outside prefix ≡ place → count_outside x (prefix ++ b ∷ []) ≡ count_outside x prefix + count_by (λ y. eqb y x) (unquoted place (b ∷ []))
count_more x prefix b place e =
    ap (count_by (λ y. eqb y x)) (unquoted_more Outside prefix (b ∷ []))
    ∙ sum_by-append (λ y. cond (eqb y x) 1 0) (unquoted Outside prefix) (unquoted (place_behind Outside prefix) (b ∷ []))
    ∙ ap (λ (p : Place). count_outside x prefix + count_by (λ y. eqb y x) (unquoted p (b ∷ []))) e

-- one more byte of a prefix
pub behind_more : (prefix : List ℕ) (scan : Scan) (b : ℕ) → IsBehind prefix scan → 0 < scan.depth → IsBehind (prefix ++ b ∷ []) (scan_after scan b)
behind_more prefix scan b behind h = record {
  place_is = place_more Outside prefix (b ∷ []) ∙ ap (λ (p : Place). next_place p b) behind.place_is;
  depth_is = depth_more scan.place b scan.depth (count_outside 123 prefix) (count_outside 125 prefix) (count_outside 123 (prefix ++ b ∷ [])) (count_outside 125 (prefix ++ b ∷ [])) behind.depth_is h
      (count_more 123 prefix b scan.place behind.place_is) (count_more 125 prefix b scan.place behind.place_is);
}

tests_zero : (o c d : ℕ) (t : Bool) → o ≡ c + d → eqb d 0 ≡ t → eqb o c ≡ t
tests_zero o c d t e f = grind (arith, nat_tests)

-- a prefix is balanced if no brace is open
pub balanced_is : (prefix : List ℕ) (scan : Scan) (t : Bool) → IsBehind prefix scan → eqb scan.depth 0 ≡ t → is_balanced prefix ≡ t
balanced_is prefix scan t behind e = tests_zero (count_outside 123 prefix) (count_outside 125 prefix) scan.depth t behind.depth_is e

pub balanced_yes : (prefix : List ℕ) (b : ℕ) (bs : List ℕ) → is_balanced (prefix ++ b ∷ []) ≡ true → balanced_after prefix (b ∷ bs) ≡ Some (length prefix + 1)
unfolding balanced_after
balanced_yes prefix b bs e = rw e refl

pub balanced_no : (prefix : List ℕ) (b : ℕ) (bs : List ℕ) → is_balanced (prefix ++ b ∷ []) ≡ false → balanced_after prefix (b ∷ bs) ≡ balanced_after (prefix ++ b ∷ []) bs
unfolding balanced_after
balanced_no prefix b bs e = rw e refl

take_more : (n b : ℕ) (bs more : List ℕ) → take (1 + n) (b ∷ bs) ++ more ≡ b ∷ (take n bs ++ more)
take_more n b bs more = let s : 1 + n ≡ suc n = omega arith in ap (λ (k : ℕ). take k (b ∷ bs) ++ more) s

length_more : (prefix : List ℕ) (b n : ℕ) → length (prefix ++ b ∷ []) + n ≡ length prefix + (1 + n)
length_more prefix b n = let l : length (prefix ++ b ∷ []) ≡ length prefix + 1 = length-append prefix (b ∷ []) in omega arith

-- the brace that closes a document is reached
pub record Closes (prefix bytes : List ℕ) (count : ℕ) : Type 0 where
  pub closes : (more : List ℕ) → balanced_after prefix (take count bytes ++ more) ≡ Some (length prefix + count)
  pub within : count ≤ length bytes

-- it isn't
pub record Continues (prefix bytes : List ℕ) (count : ℕ) (behind : Scan) : Type 0 where
  pub whole : count ≡ length bytes
  pub is_behind : IsBehind (prefix ++ bytes) behind
  pub open_ : (more : List ℕ) → balanced_after prefix (bytes ++ more) ≡ balanced_after (prefix ++ bytes) more

closes_turn : (prefix : List ℕ) (scan : Scan) (b : ℕ) (bs : List ℕ) (t : Bool) → eqb (scan_after scan b).depth 0 ≡ t → IsBehind prefix scan → 0 < scan.depth
    → ((0 < (scan_after scan b).depth) → (scan_behind (scan_after scan b) bs).depth ≡ 0 → Closes (prefix ++ b ∷ []) bs (piece_length (scan_after scan b) bs))
    → (cond t (scan_after scan b) (scan_behind (scan_after scan b) bs)).depth ≡ 0 → Closes prefix (b ∷ bs) (cond t 1 (1 + piece_length (scan_after scan b) bs))
closes_turn prefix scan b bs true e behind h rest zero = record {
  closes = λ more. balanced_yes prefix b more (balanced_is (prefix ++ b ∷ []) (scan_after scan b) true (behind_more prefix scan b behind h) e);
  within = omega arith;
}
closes_turn prefix scan b bs false e behind h rest zero =
    let deep : 0 < (scan_after scan b).depth = zero_not (scan_after scan b).depth e in
    let r = rest deep zero in
    let n = piece_length (scan_after scan b) bs in
    record {
      closes = λ more.
          ap (balanced_after prefix) (take_more (piece_length (scan_after scan b) bs) b bs more)
          ∙ balanced_no prefix b (take (piece_length (scan_after scan b) bs) bs ++ more) (balanced_is (prefix ++ b ∷ []) (scan_after scan b) false (behind_more prefix scan b behind h) e)
          ∙ r.closes more
          ∙ ap (λ (k : ℕ). Some k) (length_more prefix b (piece_length (scan_after scan b) bs));
      within = omega (arith, r.within);
    }

pub closes_by : (bytes prefix : List ℕ) (scan : Scan) → IsBehind prefix scan → 0 < scan.depth → (scan_behind scan bytes).depth ≡ 0 → Closes prefix bytes (piece_length scan bytes)
closes_by [] prefix scan behind h zero = absurd (omega arith)
closes_by (b ∷ bs) prefix scan behind h zero =
    closes_turn prefix scan b bs (eqb (scan_after scan b).depth 0) refl behind h
    (λ deep z. closes_by bs (prefix ++ b ∷ []) (scan_after scan b) (behind_more prefix scan b behind h) deep z) zero

continues_turn : (prefix : List ℕ) (scan : Scan) (b : ℕ) (bs : List ℕ) (t : Bool) → eqb (scan_after scan b).depth 0 ≡ t → IsBehind prefix scan → 0 < scan.depth
    → ((0 < (scan_after scan b).depth) → 0 < (scan_behind (scan_after scan b) bs).depth → Continues (prefix ++ b ∷ []) bs (piece_length (scan_after scan b) bs) (scan_behind (scan_after scan b) bs))
    → 0 < (cond t (scan_after scan b) (scan_behind (scan_after scan b) bs)).depth
    → Continues prefix (b ∷ bs) (cond t 1 (1 + piece_length (scan_after scan b) bs)) (cond t (scan_after scan b) (scan_behind (scan_after scan b) bs))
continues_turn prefix scan b bs true e behind h rest deep = let z : (scan_after scan b).depth ≡ 0 = eqb-true (scan_after scan b).depth 0 e in absurd (omega arith)
continues_turn prefix scan b bs false e behind h rest deep =
    let r = rest (zero_not (scan_after scan b).depth e) deep in
    let join : (prefix ++ b ∷ []) ++ bs ≡ prefix ++ b ∷ bs = append_assoc prefix (b ∷ []) bs in
    record {
      whole = omega (arith, r.whole);
      is_behind = subst (λ (l : List ℕ). IsBehind l (scan_behind (scan_after scan b) bs)) join r.is_behind;
      open_ = λ more.
          balanced_no prefix b (bs ++ more) (balanced_is (prefix ++ b ∷ []) (scan_after scan b) false (behind_more prefix scan b behind h) e)
          ∙ r.open_ more
          ∙ ap (λ (l : List ℕ). balanced_after l more) join;
    }

pub continues_by : (bytes prefix : List ℕ) (scan : Scan) → IsBehind prefix scan → 0 < scan.depth → 0 < (scan_behind scan bytes).depth → Continues prefix bytes (piece_length scan bytes) (scan_behind scan bytes)
continues_by [] prefix scan behind h deep = record {
  whole = refl;
  is_behind = subst (λ (l : List ℕ). IsBehind l scan) (sym (append-nil prefix)) behind;
  open_ = λ more. ap (λ (l : List ℕ). balanced_after l more) (sym (append-nil prefix));
}
continues_by (b ∷ bs) prefix scan behind h deep =
    continues_turn prefix scan b bs (eqb (scan_after scan b).depth 0) refl behind h
    (λ d z. continues_by bs (prefix ++ b ∷ []) (scan_after scan b) (behind_more prefix scan b behind h) d z) deep
