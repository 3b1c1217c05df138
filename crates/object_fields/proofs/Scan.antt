-- A text whose bytes may each follow is one whose parts are parts of DNS names.
use Rattle.std.proofs.Common.{◌≡◌, ℕ, ◌==◌, Bool, true, false, not, ◌&&◌, ◌||◌, List, [], ◌∷◌, ◌++◌, refl, sym, ◌∙◌, ap, arith, if◌then◌else◌}
use Rattle.std.specs.List.{list_all, flat_map}
use Rattle.std.proofs.lemmas.Bool.Decides.{nat_tests}
use Rattle.object_fields.specs.Names.{is_dns_byte, is_dns_name, is_dns_part, is_end, is_lower_or_digit, is_pool_name, last_of, onto_first, parts_at, parts_by}
use Rattle.object_fields.specs.Scan.{goes_on, is_cut}
use Rattle.object_fields.specs.declared.names.Cuts.TheVariants.{Nowhere, Points, PointsAndSlashes}

-- ---- tests

pub not_both : (b : ℕ) → (is_lower_or_digit b && (b == 45)) ≡ false
not_both b = grind (arith, nat_tests)

and_true : (x : Bool) → (x && true) ≡ x
and_true true = refl
and_true false = refl

and_assoc : (x y z : Bool) → ((x && y) && z) ≡ (x && (y && z))
and_assoc true y z = refl
and_assoc false y z = refl

-- ---- parts

pub record HasFirst (ps : List (List ℕ)) : Type 0 where
  pub head : List ℕ
  pub tail : List (List ℕ)
  pub is : ps ≡ head ∷ tail

onto_has_first : (b : ℕ) (ps : List (List ℕ)) → HasFirst (onto_first b ps)
onto_has_first b [] = record { head = b ∷ []; tail = []; is = refl }
onto_has_first b (p ∷ ps) = record { head = b ∷ p; tail = ps; is = refl }

pub parts_has_first : (f : ℕ → Bool) (s : List ℕ) → HasFirst (parts_by f s)
parts_has_first f [] = record { head = []; tail = []; is = refl }
parts_has_first f (b ∷ bs) =
    elim (f b) as (λ v. HasFirst (if v then [] ∷ parts_by f bs else onto_first b (parts_by f bs))) [
      | true ↦ record { head = []; tail = parts_by f bs; is = refl }
      | false ↦ onto_has_first b (parts_by f bs)
    ]

-- ---- one part

-- what is left of a part behind the byte a, which begins one where it is no byte of a part
abbrev pub inside : ℕ → List ℕ → Bool
inside a p = if is_dns_byte a then (list_all is_dns_byte p && is_end (last_of (a ∷ p))) else is_dns_part p

abbrev pub all_inside : ℕ → List (List ℕ) → Bool
all_inside a [] = inside a [] && true
all_inside a (p ∷ ps) = inside a p && list_all is_dns_part ps

end_test : (l y : Bool) → (l && y) ≡ false → l ≡ (if l || y then not y else false)
end_test true true h = cc
end_test true false h = refl
end_test false true h = refl
end_test false false h = refl

inside_end : (a : ℕ) → is_lower_or_digit a ≡ inside a []
inside_end a = end_test (is_lower_or_digit a) (a == 45) (not_both a)

step_test : (l y d all e r part la : Bool) → (l && y) ≡ false →
    (((l || (y && d)) || (false && la)) && ((if l || y then (all && e) else part) && r)) ≡ ((if d then (((l || y) && all) && e) else ((((l || y) && all) && not y) && e)) && r)
step_test true true d all e r part la h = cc
step_test true false true all e r part la h = refl
step_test true false false true e r part la h = refl
step_test true false false false e r part la h = refl
step_test false true true all e r part la h = refl
step_test false true false true e r part la h = refl
step_test false true false false e r part la h = refl
step_test false false true all e r part la h = refl
step_test false false false all e r part la h = refl

cut_test : (l y d la x : Bool) → (l || y) ≡ false → (((l || (y && d)) || (true && la)) && x) ≡ (la && x)
cut_test true y d la x h = cc
cut_test false true d la x h = cc
cut_test false false d la x h = refl

pub if_true : {A : Type 0} (v : Bool) (x y : A) → v ≡ true → (if v then x else y) ≡ x
if_true true x y h = refl
if_true false x y h = cc

pub if_false : {A : Type 0} (v : Bool) (x y : A) → v ≡ false → (if v then x else y) ≡ y
if_false true x y h = cc
if_false false x y h = refl

-- ---- all parts

onto_step : (a b : ℕ) (ps : List (List ℕ)) →
    (((is_lower_or_digit b || ((b == 45) && is_dns_byte a)) || (false && is_lower_or_digit a)) && all_inside b ps) ≡ all_inside a (onto_first b ps)
onto_step a b [] =
    step_test (is_lower_or_digit b) (b == 45) (is_dns_byte a) true (is_end (last_of (b ∷ []))) true (is_dns_part []) (is_lower_or_digit a) (not_both b)
onto_step a b (p ∷ ps) =
    step_test (is_lower_or_digit b) (b == 45) (is_dns_byte a) (list_all is_dns_byte p) (is_end (last_of (b ∷ p))) (list_all is_dns_part ps) (is_dns_part p) (is_lower_or_digit a) (not_both b)

at_cut : (b : ℕ) (ps : List (List ℕ)) → is_dns_byte b ≡ false → HasFirst ps → all_inside b ps ≡ list_all is_dns_part ps
at_cut b [] h first = let e : [] ≡ first.head ∷ first.tail = first.is in cc
at_cut b (p ∷ ps) h first =
    ap (λ v. v && list_all is_dns_part ps) (if_false (is_dns_byte b) (list_all is_dns_byte p && is_end (last_of (b ∷ p))) (is_dns_part p) h)

both_parts : (x y u v : Bool) → x ≡ y → u ≡ v → (x && u) ≡ (y && v)
both_parts x y u v e h = cc

pub goes_inside : (f : ℕ → Bool) (apart : (b : ℕ) → f b ≡ true → is_dns_byte b ≡ false) (s : List ℕ) (a : ℕ) →
    goes_on f a s ≡ all_inside a (parts_by f s)
goes_inside f apart [] a = inside_end a ∙ sym (and_true (inside a []))
goes_inside f apart (b ∷ bs) a =
    (elim (f b) as (λ v. f b ≡ v →
    (((is_lower_or_digit b || ((b == 45) && is_dns_byte a)) || (v && is_lower_or_digit a)) && goes_on f b bs) ≡ all_inside a (if v then [] ∷ parts_by f bs else onto_first b (parts_by f bs))) [
      | true ↦ λ h.
          cut_test (is_lower_or_digit b) (b == 45) (is_dns_byte a) (is_lower_or_digit a) (goes_on f b bs) (apart b h)
          ∙ both_parts (is_lower_or_digit a) (inside a []) (goes_on f b bs) (list_all is_dns_part (parts_by f bs)) (inside_end a)
          (goes_inside f apart bs b ∙ at_cut b (parts_by f bs) (apart b h) (parts_has_first f bs))
      | false ↦ λ h.
          ap (λ v. ((is_lower_or_digit b || ((b == 45) && is_dns_byte a)) || (false && is_lower_or_digit a)) && v) (goes_inside f apart bs b)
          ∙ onto_step a b (parts_by f bs)
    ]) refl

pub goes_is : (f : ℕ → Bool) (apart : (b : ℕ) → f b ≡ true → is_dns_byte b ≡ false) (s : List ℕ) →
    goes_on f 46 s ≡ list_all is_dns_part (parts_by f s)
goes_is f apart s = goes_inside f apart s 46 ∙ at_cut 46 (parts_by f s) refl (parts_has_first f s)

-- ---- no cuts

uncut : (s : List ℕ) → parts_by (λ b. false) s ≡ s ∷ []
uncut [] = refl
uncut (b ∷ bs) = ap (onto_first b) (uncut bs)

pub goes_whole : (s : List ℕ) → goes_on (is_cut Nowhere) 46 s ≡ is_dns_part s
goes_whole s =
    goes_is (λ b. false) (λ b h. cc) s ∙ ap (list_all is_dns_part) (uncut s) ∙ and_true (is_dns_part s)

-- ---- points

point_apart : (b : ℕ) → (b == 46) ≡ true → is_dns_byte b ≡ false
point_apart b h = grind (arith, nat_tests)

pub goes_by_points : (s : List ℕ) → goes_on (is_cut Points) 46 s ≡ is_dns_name s
goes_by_points s = goes_is (λ b. b == 46) point_apart s

-- ---- points and slashes

slash_apart : (b : ℕ) → ((b == 46) || (b == 47)) ≡ true → is_dns_byte b ≡ false
slash_apart b h = grind (arith, nat_tests)

or_true : (x : Bool) → (x || true) ≡ true
or_true true = refl
or_true false = refl

onto_append : (b : ℕ) (ps qs : List (List ℕ)) → HasFirst ps → onto_first b (ps ++ qs) ≡ onto_first b ps ++ qs
onto_append b [] qs first = let e : [] ≡ first.head ∷ first.tail = first.is in cc
onto_append b (p ∷ ps) qs first = refl

-- the parts at points of each part at slashes
abbrev pub in_two : List (List ℕ) → List (List ℕ)
in_two = flat_map (parts_at 46)

onto_cut : (b : ℕ) → (b == 46) ≡ true → (qs : List (List ℕ)) → HasFirst qs → in_two (onto_first b qs) ≡ [] ∷ in_two qs
onto_cut b h [] first = let e : [] ≡ first.head ∷ first.tail = first.is in cc
onto_cut b h (p ∷ ps) first =
    ap (λ v. v ++ in_two ps) (if_true (b == 46) ([] ∷ parts_at 46 p) (onto_first b (parts_at 46 p)) h)

onto_other : (b : ℕ) → (b == 46) ≡ false → (qs : List (List ℕ)) → HasFirst qs → in_two (onto_first b qs) ≡ onto_first b (in_two qs)
onto_other b h [] first = let e : [] ≡ first.head ∷ first.tail = first.is in cc
onto_other b h (p ∷ ps) first =
    ap (λ v. v ++ in_two ps) (if_false (b == 46) ([] ∷ parts_at 46 p) (onto_first b (parts_at 46 p)) h)
    ∙ sym (onto_append b (parts_at 46 p) (in_two ps) (parts_has_first (λ c. c == 46) p))

nested : (s : List ℕ) → parts_by (is_cut PointsAndSlashes) s ≡ in_two (parts_at 47 s)
nested [] = refl
nested (b ∷ bs) =
    (elim (b == 47) as (λ y.
    (if (b == 46) || y then [] ∷ parts_by (is_cut PointsAndSlashes) bs else onto_first b (parts_by (is_cut PointsAndSlashes) bs)) ≡ in_two (if y then [] ∷ parts_at 47 bs else onto_first b (parts_at 47 bs))) [
      | true ↦
          if_true ((b == 46) || true) ([] ∷ parts_by (is_cut PointsAndSlashes) bs) (onto_first b (parts_by (is_cut PointsAndSlashes) bs)) (or_true (b == 46))
          ∙ ap (λ ps. [] ∷ ps) (nested bs)
      | false ↦
          (elim (b == 46) as (λ x. (b == 46) ≡ x →
          (if x || false then [] ∷ parts_by (is_cut PointsAndSlashes) bs else onto_first b (parts_by (is_cut PointsAndSlashes) bs)) ≡ in_two (onto_first b (parts_at 47 bs))) [
            | true ↦ λ h. ap (λ ps. [] ∷ ps) (nested bs) ∙ sym (onto_cut b h (parts_at 47 bs) (parts_has_first (λ c. c == 47) bs))
            | false ↦ λ h. ap (onto_first b) (nested bs) ∙ sym (onto_other b h (parts_at 47 bs) (parts_has_first (λ c. c == 47) bs))
          ]) refl
    ])

all_append : (p : List ℕ → Bool) (xs ys : List (List ℕ)) → list_all p (xs ++ ys) ≡ (list_all p xs && list_all p ys)
all_append p [] ys = refl
all_append p (x ∷ xs) ys = ap (λ v. p x && v) (all_append p xs ys) ∙ sym (and_assoc (p x) (list_all p xs) (list_all p ys))

all_in_two : (ps : List (List ℕ)) → list_all is_dns_part (in_two ps) ≡ list_all is_dns_name ps
all_in_two [] = refl
all_in_two (p ∷ ps) = all_append is_dns_part (parts_at 46 p) (in_two ps) ∙ ap (λ v. is_dns_name p && v) (all_in_two ps)

pub goes_by_slashes : (s : List ℕ) → goes_on (is_cut PointsAndSlashes) 46 s ≡ is_pool_name s
goes_by_slashes s =
    goes_is (is_cut PointsAndSlashes) slash_apart s ∙ ap (list_all is_dns_part) (nested s) ∙ all_in_two (parts_at 47 s)
