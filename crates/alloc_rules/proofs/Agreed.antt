-- The results of a claim, taken by an agreement one after another.
use Rattle.std.proofs.Common.{ℕ, ◌+◌, ◌<◌, ◌≤◌, ◌≡◌, ◌∙◌, List, [], ◌∷◌, ◌++◌, Bool, true, false, ◌&&◌, cond, drop, get_or, length, take, sym, ap, arith, append_assoc}
use Rattle.std.specs.List.{flat_map}
use Rattle.api_claim.specs.declared.types.DeviceConstraint.{DeviceConstraint}
use Rattle.request_rules.specs.Agreeing.{Pick, agrees, each_agrees, is_named}
use Rattle.constraints.specs.Keeping.{AgreementFields, IsOf, named_count}
use Rattle.request_rules.specs.Input.{SearchInput}
use Rattle.alloc_rules.specs.Rows.{DueFields, seen_as}
use Rattle.alloc_rules.proofs.Lists.{drop_next, length_end, take_next}

abbrev pub all_seen : SearchInput → List DueFields → List Pick
all_seen w ds = flat_map (seen_as w) ds

-- with those done, the rest decides as the whole does
pub record AgreedSoFar (w : SearchInput) (k : DeviceConstraint) (a : AgreementFields) (ds done left : List DueFields) : Type 0 where
  pub whole : each_agrees k (all_seen w done) (all_seen w left) ≡ each_agrees k [] (all_seen w ds)
  pub taken : IsOf k (all_seen w done) a
  pub few : a.count ≤ length done

seen_end : (w : SearchInput) (ds : List DueFields) (d : DueFields) (p : Pick) → seen_as w d ≡ p ∷ [] → all_seen w (ds ++ d ∷ []) ≡ all_seen w ds ++ p ∷ []
seen_end w [] d p e = ap (λ (l : List Pick). l ++ []) e
seen_end w (x ∷ ds) d p e = ap (λ (l : List Pick). seen_as w x ++ l) (seen_end w ds d p e) ∙ sym (append_assoc (seen_as w x) (all_seen w ds) (p ∷ []))

seen_next : (w : SearchInput) (ds : List DueFields) (i : ℕ) (d : DueFields) (p : Pick) → i < length ds → d ≡ get_or ds i d → seen_as w d ≡ p ∷ [] → all_seen w (take (i + 1) ds) ≡ all_seen w (take i ds) ++ p ∷ []
seen_next w ds i d p h e f = ap (all_seen w) (take_next ds i d h e) ∙ seen_end w (take i ds) d p f

parts : (w : SearchInput) (k : DeviceConstraint) (ds : List DueFields) (i : ℕ) (d : DueFields) (p : Pick) → i < length ds → d ≡ get_or ds i d → seen_as w d ≡ p ∷ []
    → each_agrees k (all_seen w (take i ds)) (all_seen w (drop i ds)) ≡ (agrees k (all_seen w (take i ds)) p && each_agrees k (all_seen w (take (i + 1) ds)) (all_seen w (drop (i + 1) ds)))
parts w k ds i d p h e f =
    ap (λ (l : List DueFields). each_agrees k (all_seen w (take i ds)) (all_seen w l)) (drop_next ds i d h e)
    ∙ ap (λ (l : List Pick). each_agrees k (all_seen w (take i ds)) (l ++ all_seen w (drop (i + 1) ds))) f
    ∙ ap (λ (l : List Pick). agrees k (all_seen w (take i ds)) p && each_agrees k l (all_seen w (drop (i + 1) ds))) (sym (seen_next w ds i d p h e f))

-- the result doesn't agree
pub agree_stops : (w : SearchInput) (k : DeviceConstraint) (a : AgreementFields) (ds : List DueFields) (i : ℕ) (d : DueFields) (p : Pick) → i < length ds → d ≡ get_or ds i d → seen_as w d ≡ p ∷ []
    → agrees k (all_seen w (take i ds)) p ≡ false → AgreedSoFar w k a ds (take i ds) (drop i ds) → false ≡ each_agrees k [] (all_seen w ds)
agree_stops w k a ds i d p h e f g s =
    sym (ap (λ (t : Bool). t && each_agrees k (all_seen w (take (i + 1) ds)) (all_seen w (drop (i + 1) ds))) g) ∙ sym (parts w k ds i d p h e f) ∙ s.whole

count_one : (b : Bool) → cond b (1 + 0) 0 ≤ 0 + 1
count_one true = omega arith
count_one false = omega arith

count_more : (b : Bool) (m n : ℕ) → m ≤ n + 1 → cond b (1 + m) m ≤ cond b (1 + n) n + 1
count_more true m n h = omega arith
count_more false m n h = omega arith

-- one result more is at most one more that the constraint names
count_end : (k : DeviceConstraint) (ps : List Pick) (p : Pick) → named_count k (ps ++ p ∷ []) ≤ named_count k ps + 1
count_end k [] p = count_one (is_named k p)
count_end k (q ∷ ps) p = count_more (is_named k q) (named_count k (ps ++ p ∷ [])) (named_count k ps) (count_end k ps p)

few_next : (k : DeviceConstraint) (ps : List Pick) (p : Pick) (a b : AgreementFields) (n m : ℕ) → IsOf k ps a → IsOf k (ps ++ p ∷ []) b → a.count ≤ n → m ≡ n + 1 → b.count ≤ m
few_next k ps p a b n m s t h e =
    let c : named_count k (ps ++ p ∷ []) ≤ named_count k ps + 1 = count_end k ps p in
    let d : a.count ≡ named_count k ps = s.count in
    let f : b.count ≡ named_count k (ps ++ p ∷ []) = t.count in
    omega arith

long_next : (ds : List DueFields) (i : ℕ) (d : DueFields) → i < length ds → d ≡ get_or ds i d → length (take (i + 1) ds) ≡ length (take i ds) + 1
long_next ds i d h e = ap (λ (l : List DueFields). length l) (take_next ds i d h e) ∙ length_end (take i ds) d

-- it does
pub agree_next : (w : SearchInput) (k : DeviceConstraint) (a b : AgreementFields) (ds : List DueFields) (i : ℕ) (d : DueFields) (p : Pick) → i < length ds → d ≡ get_or ds i d → seen_as w d ≡ p ∷ []
    → agrees k (all_seen w (take i ds)) p ≡ true → IsOf k (all_seen w (take i ds) ++ p ∷ []) b
    → AgreedSoFar w k a ds (take i ds) (drop i ds) → AgreedSoFar w k b ds (take (i + 1) ds) (drop (i + 1) ds)
agree_next w k a b ds i d p h e f g o s = record {
  whole = sym (ap (λ (t : Bool). t && each_agrees k (all_seen w (take (i + 1) ds)) (all_seen w (drop (i + 1) ds))) g) ∙ sym (parts w k ds i d p h e f) ∙ s.whole;
  taken = rw (seen_next w ds i d p h e f) o;
  few = few_next k (all_seen w (take i ds)) p a b (length (take i ds)) (length (take (i + 1) ds)) s.taken o s.few (long_next ds i d h e);
}
