-- The results of each claim in turn, and the constraints that they don't keep.
use Rattle.std.proofs.Common.{ℕ, zero, suc, ◌+◌, ◌<◌, ◌≤◌, ◌≡◌, ◌≢◌, ◌-◌, ◌∙◌, List, [], ◌∷◌, ◌++◌, Bool, true, false, cond, Option, None, Some, drop, get_or, length, map, take, refl, sym, ap, subst, arith}
use Rattle.std.specs.Prelude.{◌==◌}
use Rattle.std.specs.List.{flat_map, prefix_len, slice_get}
use Rattle.std.proofs.Math.Seq.{drop-drop}
use Rattle.std.proofs.lemmas.Bool.{eq-eqb, eqb-false, eqb-true, ne_eqb}
use Rattle.std.proofs.lemmas.List.{length-drop}
use Rattle.object_fields.specs.declared.key.Key.{Key}
use Rattle.api_claim.specs.declared.types.DeviceConstraint.{DeviceConstraint}
use Rattle.api_claim.specs.declared.types.ResourceClaim.{ResourceClaim}
use Rattle.cluster.specs.declared.failure.Failure.{Failure}
use Rattle.cluster.specs.declared.failure.Failure.TheVariants.{Constraint}
use Rattle.request_rules.specs.Agreeing as agreeing
use Rattle.request_rules.specs.Asked.{Rule}
use Rattle.request_rules.specs.Input.{SearchInput}
use Rattle.request_rules.specs.Joining.{seen_all, seen_for, seen_some}
use Rattle.request_rules.specs.Lists.{Each, or_else}
use Rattle.request_rules.specs.Rules.{Pick}
use Rattle.request_rules.specs.Ways.{asked_at}
use Rattle.plan_rules.specs.Chosen.{pick_of, place_of}
use Rattle.alloc_rules.specs.Rows.{AreByClaim, DueFields, IsDue, due_seen, is_at_place, seen_as}
use Rattle.plan_rules.specs.Standing.{agree, broken_by, disagreed_from}
use Rattle.alloc_rules.proofs.Lists.{drop_next}

abbrev pub picks_of : SearchInput → List DueFields → List Pick
picks_of w ds = map (pick_of w) (map (due_seen w) ds)

abbrev pub rule_at : ℕ → DeviceConstraint → Rule
rule_at i c = record { claim = i; constraint = c }

-- ---- numbers

same_eq : (n : ℕ) → (n == n) ≡ true
same_eq n = eq-eqb n n refl

one_more : (n : ℕ) → 1 + n ≡ suc n
one_more n = omega arith

above : (n m k : ℕ) → n ≤ k → k ≤ m → m ≢ n → n < m
above n m k f g o = omega (arith, f, g, o)

-- ---- the results of one claim

seen_other : (w : SearchInput) (i : ℕ) (c : DeviceConstraint) (p : Pick) → i ≢ p.label.claim → seen_for w (rule_at i c) p ≡ []
seen_other w i c p h = ap (λ (t : Bool). cond t (seen_some p.label (slice_get w.devices p.position)) []) (ne_eqb i p.label.claim h)

seen_own : (w : SearchInput) (i : ℕ) (c : DeviceConstraint) (d : DueFields) → i ≡ (asked_at w d.row).label.claim → IsDue w d → seen_for w (rule_at i c) (pick_of w (due_seen w d)) ≡ seen_as w d
seen_own w i c d e h =
    ap (λ (t : Bool). cond t (seen_some (asked_at w d.row).label (slice_get w.devices (place_of w d.result))) []) (ap (λ (k : ℕ). k == (asked_at w d.row).label.claim) e ∙ same_eq (asked_at w d.row).label.claim)
    ∙ ap (λ (k : ℕ). seen_some (asked_at w d.row).label (slice_get w.devices k)) (sym h.position)

-- none of them is of a claim before all of theirs
seen_none : (w : SearchInput) (i least : ℕ) (c : DeviceConstraint) (ds : List DueFields) → i < least → AreByClaim least (map (due_seen w) ds) → seen_all w (rule_at i c) (picks_of w ds) ≡ []
seen_none w i least c [] h s = refl
seen_none w i least c (d ∷ ds) h s =
    let lead : least ≤ (asked_at w d.row).label.claim = s.0 in
    ap (λ (l : List agreeing.Pick). l ++ seen_all w (rule_at i c) (picks_of w ds)) (seen_other w i c (pick_of w (due_seen w d)) (λ e. absurd (omega (arith, e, lead, h))))
    ∙ seen_none w i (asked_at w d.row).label.claim c ds (omega (arith, lead, h)) s.1

here_by : (w : SearchInput) (i least : ℕ) (c : DeviceConstraint) (d : DueFields) (ds : List DueFields) (b : Bool) → is_at_place w i d ≡ b → i ≤ least → least ≤ (asked_at w d.row).label.claim → AreByClaim (asked_at w d.row).label.claim (map (due_seen w) ds)
    → IsDue w d → (i ≤ (asked_at w d.row).label.claim → seen_all w (rule_at i c) (picks_of w ds) ≡ flat_map (seen_as w) (take (prefix_len (is_at_place w i) ds) ds))
    → seen_all w (rule_at i c) (picks_of w (d ∷ ds)) ≡ flat_map (seen_as w) (take (cond b (1 + prefix_len (is_at_place w i) ds) 0) (d ∷ ds))
here_by w i least c d ds true e h lead s own rest =
    ap (λ (l : List agreeing.Pick). l ++ seen_all w (rule_at i c) (picks_of w ds)) (seen_own w i c d (sym (eqb-true (asked_at w d.row).label.claim i e)) own)
    ∙ ap (λ (l : List agreeing.Pick). seen_as w d ++ l) (rest (omega (arith, h, lead)))
    ∙ ap (λ (n : ℕ). flat_map (seen_as w) (take n (d ∷ ds))) (sym (one_more (prefix_len (is_at_place w i) ds)))
here_by w i least c d ds false e h lead s own rest =
    let other : (asked_at w d.row).label.claim ≢ i = eqb-false (asked_at w d.row).label.claim i e in
    ap (λ (l : List agreeing.Pick). l ++ seen_all w (rule_at i c) (picks_of w ds)) (seen_other w i c (pick_of w (due_seen w d)) (λ f. other (sym f)))
    ∙ seen_none w i (asked_at w d.row).label.claim c ds (above i (asked_at w d.row).label.claim least h lead other) s

-- those of the first claim are at the prefix
pub seen_here : (w : SearchInput) (i least : ℕ) (c : DeviceConstraint) (ds : List DueFields) → i ≤ least → AreByClaim least (map (due_seen w) ds) → Each (IsDue w) ds
    → seen_all w (rule_at i c) (picks_of w ds) ≡ flat_map (seen_as w) (take (prefix_len (is_at_place w i) ds) ds)
seen_here w i least c [] h s each = refl
seen_here w i least c (d ∷ ds) h s each =
    here_by w i least c d ds (is_at_place w i d) refl h s.0 s.1 (each 0 d refl) (λ g. seen_here w i (asked_at w d.row).label.claim c ds g s.1 (λ j x f. each (suc j) x f))

sorted_by : (w : SearchInput) (i least : ℕ) (d : DueFields) (ds : List DueFields) (b : Bool) → is_at_place w i d ≡ b → i ≤ least → least ≤ (asked_at w d.row).label.claim → AreByClaim (asked_at w d.row).label.claim (map (due_seen w) ds)
    → (i ≤ (asked_at w d.row).label.claim → AreByClaim (i + 1) (map (due_seen w) (drop (prefix_len (is_at_place w i) ds) ds)))
    → AreByClaim (i + 1) (map (due_seen w) (drop (cond b (1 + prefix_len (is_at_place w i) ds) 0) (d ∷ ds)))
sorted_by w i least d ds true e h lead s rest = subst (λ (n : ℕ). AreByClaim (i + 1) (map (due_seen w) (drop n (d ∷ ds)))) (sym (one_more (prefix_len (is_at_place w i) ds))) (rest (omega (arith, h, lead)))
sorted_by w i least d ds false e h lead s rest =
    let other : (asked_at w d.row).label.claim ≢ i = eqb-false (asked_at w d.row).label.claim i e in
    let more : i < (asked_at w d.row).label.claim = above i (asked_at w d.row).label.claim least h lead other in
    (omega (arith, more), s)

-- after them are those of later claims
pub sorted_behind : (w : SearchInput) (i least : ℕ) (ds : List DueFields) → i ≤ least → AreByClaim least (map (due_seen w) ds) → AreByClaim (i + 1) (map (due_seen w) (drop (prefix_len (is_at_place w i) ds) ds))
sorted_behind w i least [] h s = tt
sorted_behind w i least (d ∷ ds) h s = sorted_by w i least d ds (is_at_place w i d) refl h s.0 s.1 (λ g. sorted_behind w i (asked_at w d.row).label.claim ds g s.1)

behind_by : (w : SearchInput) (i j : ℕ) (c : DeviceConstraint) (d : DueFields) (ds : List DueFields) (b : Bool) → is_at_place w i d ≡ b → i < j
    → seen_all w (rule_at j c) (picks_of w ds) ≡ seen_all w (rule_at j c) (picks_of w (drop (prefix_len (is_at_place w i) ds) ds))
    → seen_all w (rule_at j c) (picks_of w (d ∷ ds)) ≡ seen_all w (rule_at j c) (picks_of w (drop (cond b (1 + prefix_len (is_at_place w i) ds) 0) (d ∷ ds)))
behind_by w i j c d ds true e h rest =
    let same : (asked_at w d.row).label.claim ≡ i = eqb-true (asked_at w d.row).label.claim i e in
    ap (λ (l : List agreeing.Pick). l ++ seen_all w (rule_at j c) (picks_of w ds)) (seen_other w j c (pick_of w (due_seen w d)) (λ f. absurd (omega (arith, f, same, h))))
    ∙ rest
    ∙ ap (λ (n : ℕ). seen_all w (rule_at j c) (picks_of w (drop n (d ∷ ds)))) (sym (one_more (prefix_len (is_at_place w i) ds)))
behind_by w i j c d ds false e h rest = refl

-- a later claim has its results after them
pub seen_behind : (w : SearchInput) (i j : ℕ) (c : DeviceConstraint) (ds : List DueFields) → i < j → seen_all w (rule_at j c) (picks_of w ds) ≡ seen_all w (rule_at j c) (picks_of w (drop (prefix_len (is_at_place w i) ds) ds))
seen_behind w i j c [] h = refl
seen_behind w i j c (d ∷ ds) h = behind_by w i j c d ds (is_at_place w i d) refl h (seen_behind w i j c ds h)

-- ---- the constraints of one claim

broken_same : (f g : DeviceConstraint → Bool) (key : Key) (n : ℕ) (cs : List DeviceConstraint) → ((c : DeviceConstraint) → f c ≡ g c) → broken_by f key n cs ≡ broken_by g key n cs
broken_same f g key n [] h = refl
broken_same f g key n (c ∷ cs) h =
    ap (λ (t : Bool). cond t (broken_by f key (n + 1) cs) (Some (Constraint key n))) (h c)
    ∙ ap (λ (o : Option Failure). cond (g c) o (Some (Constraint key n))) (broken_same f g key (n + 1) cs h)

-- ---- claim by claim

-- the results of the claims before index `place` keep their constraints, and those from `first` on are of the
-- claims left
pub record KeptSoFar (w : SearchInput) (ds : List DueFields) (place first : ℕ) (claims : List ResourceClaim) : Type 0 where
  pub within : first ≤ length ds
  pub sorted : AreByClaim place (map (due_seen w) (drop first ds))
  pub behind : (j : ℕ) (c : DeviceConstraint) → place ≤ j → seen_all w (rule_at j c) (picks_of w ds) ≡ seen_all w (rule_at j c) (picks_of w (drop first ds))
  pub whole : disagreed_from w (picks_of w ds) place claims ≡ disagreed_from w (picks_of w ds) 0 w.claims

pub kept_none : (w : SearchInput) (ds : List DueFields) → AreByClaim 0 (map (due_seen w) ds) → KeptSoFar w ds 0 0 w.claims
kept_none w ds s = record { within = omega arith; sorted = s; behind = λ j c h. refl; whole = refl }

each_left : {X : Type 0} (P : X → Type 0) (n : ℕ) (xs : List X) → Each P xs → Each P (drop n xs)
each_left P zero xs h = h
each_left P (suc n) [] h = h
each_left P (suc n) (x ∷ xs) h = each_left P n xs (λ i y e. h (suc i) y e)

-- what the results of the claim at the index are
pub own_results : (w : SearchInput) (ds part : List DueFields) (place first : ℕ) (claims : List ResourceClaim) → Each (IsDue w) ds → part ≡ take (prefix_len (is_at_place w place) (drop first ds)) (drop first ds) → KeptSoFar w ds place first claims
    → (c : DeviceConstraint) → agreeing.each_agrees c [] (flat_map (seen_as w) part) ≡ agree w (picks_of w ds) place c
own_results w ds part place first claims each is s c =
    ap (agreeing.each_agrees c [])
    (ap (flat_map (seen_as w)) is
    ∙ sym (seen_here w place place c (drop first ds) (omega arith) s.sorted (each_left (IsDue w) first ds each))
    ∙ sym (s.behind place c (omega arith)))

whole_parts : (w : SearchInput) (ds part : List DueFields) (place first : ℕ) (c : ResourceClaim) (claims : List ResourceClaim) (found : Option Failure) → Each (IsDue w) ds → part ≡ take (prefix_len (is_at_place w place) (drop first ds)) (drop first ds)
    → found ≡ broken_by (λ k. agreeing.each_agrees k [] (flat_map (seen_as w) part)) c.key 0 c.constraints → KeptSoFar w ds place first (c ∷ claims)
    → disagreed_from w (picks_of w ds) place (c ∷ claims) ≡ or_else found (disagreed_from w (picks_of w ds) (place + 1) claims)
whole_parts w ds part place first c claims found each is e s =
    ap (λ (o : Option Failure). or_else o (disagreed_from w (picks_of w ds) (place + 1) claims))
    (sym (e ∙ broken_same (λ k. agreeing.each_agrees k [] (flat_map (seen_as w) part)) (agree w (picks_of w ds) place) c.key 0 c.constraints (own_results w ds part place first (c ∷ claims) each is s)))

-- a claim's don't
pub kept_stop : (w : SearchInput) (ds part : List DueFields) (place first : ℕ) (c : ResourceClaim) (claims : List ResourceClaim) (f : Failure) → Each (IsDue w) ds → part ≡ take (prefix_len (is_at_place w place) (drop first ds)) (drop first ds)
    → Some f ≡ broken_by (λ k. agreeing.each_agrees k [] (flat_map (seen_as w) part)) c.key 0 c.constraints → KeptSoFar w ds place first (c ∷ claims) → Some f ≡ disagreed_from w (picks_of w ds) 0 w.claims
kept_stop w ds part place first c claims f each is e s = sym (whole_parts w ds part place first c claims (Some f) each is e s) ∙ s.whole

prefix_within : {X : Type 0} (p : X → Bool) (xs : List X) → prefix_len p xs ≤ length xs
prefix_within p [] = omega arith
prefix_within {X} p (x ∷ xs) = by (p x) (prefix_within p xs)
  where
    by : (b : Bool) → prefix_len p xs ≤ length xs → cond b (1 + prefix_len p xs) 0 ≤ suc (length xs)
    by true h = omega arith
    by false h = omega arith

-- one claim's more do
pub kept_next : (w : SearchInput) (ds part : List DueFields) (place first next : ℕ) (c : ResourceClaim) (claims : List ResourceClaim) → Each (IsDue w) ds → part ≡ take (prefix_len (is_at_place w place) (drop first ds)) (drop first ds)
    → next ≡ first + prefix_len (is_at_place w place) (drop first ds)
    → None ≡ broken_by (λ k. agreeing.each_agrees k [] (flat_map (seen_as w) part)) c.key 0 c.constraints → KeptSoFar w ds place first (c ∷ claims) → KeptSoFar w ds (place + 1) next claims
kept_next w ds part place first next c claims each is n e s =
    let on : drop (prefix_len (is_at_place w place) (drop first ds)) (drop first ds) ≡ drop next ds = drop-drop (prefix_len (is_at_place w place) (drop first ds)) first ds ∙ ap (λ (k : ℕ). drop k ds) (sym n) in
    record {
      within = let most = prefix_within (is_at_place w place) (drop first ds) in let left = length-drop first ds in omega (arith, n, most, left, s.within);
      sorted = rw (← on) (sorted_behind w place place (drop first ds) (omega arith) s.sorted);
      behind = λ j k h.
          s.behind j k (omega (arith, h))
          ∙ seen_behind w place j k (drop first ds) (omega (arith, h))
          ∙ ap (λ (l : List DueFields). seen_all w (rule_at j k) (picks_of w l)) on;
      whole = sym (whole_parts w ds part place first c claims None each is e s) ∙ s.whole;
    }

-- ---- by the indexes of claims

taken_by : {X : Type 0} (P : X → Type 0) (n : ℕ) (y : X) (xs : List X) → Each P (y ∷ xs) → Each P (take n xs) → (i : ℕ) (x : X) → slice_get (y ∷ take n xs) i ≡ Some x → P x
taken_by P n y xs h k zero x e = h zero x e
taken_by P n y xs h k (suc i) x e = k i x e

each_taken : {X : Type 0} (P : X → Type 0) (n : ℕ) (xs : List X) → Each P xs → Each P (take n xs)
each_taken P zero xs h = λ i x e. absurd (cc)
each_taken P (suc n) [] h = h
each_taken P (suc n) (y ∷ xs) h = λ i x e. taken_by P n y xs h (each_taken P n xs (λ j z f. h (suc j) z f)) i x e

pub each_part : {X : Type 0} (P : X → Type 0) (n m : ℕ) (xs : List X) → Each P xs → Each P (take n (drop m xs))
each_part P n m xs h = each_taken P n (drop m xs) (each_left P m xs h)

abbrev pub KeptUntil : SearchInput → List DueFields → List ResourceClaim → ℕ → ℕ → Type 0
KeptUntil w ds claims place first = KeptSoFar w ds place first (drop place claims)

part_is : (w : SearchInput) (ds : List DueFields) (place first end : ℕ) → end ≡ first + prefix_len (is_at_place w place) (drop first ds) → take (end - first) (drop first ds) ≡ take (prefix_len (is_at_place w place) (drop first ds)) (drop first ds)
part_is w ds place first end e = let long : end - first ≡ prefix_len (is_at_place w place) (drop first ds) = omega (arith, e) in ap (λ (n : ℕ). take n (drop first ds)) long

pub until_broken : (w : SearchInput) (ds : List DueFields) (claims : List ResourceClaim) (place first end : ℕ) (c : ResourceClaim) (f : Failure) → place < length claims → c ≡ get_or claims place c → Each (IsDue w) ds
    → end ≡ first + prefix_len (is_at_place w place) (drop first ds)
    → Some f ≡ broken_by (λ k. agreeing.each_agrees k [] (flat_map (seen_as w) (take (end - first) (drop first ds)))) c.key 0 c.constraints → KeptUntil w ds claims place first → Some f ≡ disagreed_from w (picks_of w ds) 0 w.claims
until_broken w ds claims place first end c f h at each e found s =
    kept_stop w ds (take (end - first) (drop first ds)) place first c (drop (place + 1) claims) f each (part_is w ds place first end e) found (subst (KeptSoFar w ds place first) (drop_next claims place c h at) s)

pub until_kept : (w : SearchInput) (ds : List DueFields) (claims : List ResourceClaim) (place first end : ℕ) (c : ResourceClaim) → place < length claims → c ≡ get_or claims place c → Each (IsDue w) ds
    → end ≡ first + prefix_len (is_at_place w place) (drop first ds)
    → None ≡ broken_by (λ k. agreeing.each_agrees k [] (flat_map (seen_as w) (take (end - first) (drop first ds)))) c.key 0 c.constraints → KeptUntil w ds claims place first → KeptUntil w ds claims (place + 1) end
until_kept w ds claims place first end c h at each e found s =
    kept_next w ds (take (end - first) (drop first ds)) place first end c (drop (place + 1) claims) each (part_is w ds place first end e) e found (subst (KeptSoFar w ds place first) (drop_next claims place c h at) s)
