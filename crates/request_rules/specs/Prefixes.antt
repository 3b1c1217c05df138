-- Each prefix of a good list is good.
use Rattle.std.proofs.Common.{ℕ, ◌+◌, ◌≡◌, List, [], ◌∷◌, ◌++◌, Bool, true, false, ◌&&◌, length, drop, refl, sym, ap, ◌∙◌}
use Rattle.std.proofs.lemmas.Bool.{and_parts, and_from}
use Rattle.request_rules.specs.Rules.{Pick}
use Rattle.request_rules.specs.Input.{SearchInput}
use Rattle.request_rules.specs.Lists.{each_after}
use Rattle.request_rules.specs.Asked.{Slot}
use Rattle.request_rules.specs.Rules.{each_fills, fills, is_good, least_after, may_join, picks}

left_of : (a b : Bool) → (a && b) ≡ true → a ≡ true
left_of a b e = (and_parts a b e).0

right_of : (a b : Bool) → (a && b) ≡ true → b ≡ true
right_of a b e = (and_parts a b e).1

both : (a b : Bool) → a ≡ true → b ≡ true → (a && b) ≡ true
both a b e f = and_from a b e f

and_assoc : (a b c : Bool) → (a && (b && c)) ≡ ((a && b) && c)
and_assoc true b c = refl
and_assoc false b c = refl

pub each_after-prefix : {X : Type 0} (test : List X → X → Bool) (before l m : List X) → each_after test before (l ++ m) ≡ true → each_after test before l ≡ true
each_after-prefix test before [] m e = refl
each_after-prefix test before (y ∷ l) m e =
    both (test before y) (each_after test (before ++ y ∷ []) l)
    (left_of (test before y) (each_after test (before ++ y ∷ []) (l ++ m)) e)
    (each_after-prefix test (before ++ y ∷ []) l m (right_of (test before y) (each_after test (before ++ y ∷ []) (l ++ m)) e))

pub picks-append : (ss : List Slot) (l m : List ℕ) → picks ss (l ++ m) ≡ picks ss l ++ picks (drop (length l) ss) m
picks-append [] [] m = refl
picks-append (s ∷ ss) [] m = refl
picks-append [] (x ∷ l) m = refl
picks-append (s ∷ ss) (x ∷ l) m = ap (λ (ps : List Pick). record { label = s.asked.label; position = x } ∷ ps) (picks-append ss l m)

pub fills-append : (w : SearchInput) (least : ℕ) (ss : List Slot) (l m : List ℕ) → each_fills w least ss (l ++ m) ≡ (each_fills w least ss l && each_fills w (least_after least l) (drop (length l) ss) m)
fills-append w least [] [] m = refl
fills-append w least (s ∷ ss) [] m = refl
fills-append w least [] (x ∷ l) m = refl
fills-append w least (s ∷ ss) (x ∷ l) m =
    ap (λ (t : Bool). fills w s least x && t) (fills-append w (x + 1) ss l m)
    ∙ and_assoc (fills w s least x) (each_fills w (x + 1) ss l) (each_fills w (least_after (x + 1) l) (drop (length l) ss) m)

pub good-prefix : (w : SearchInput) (ss : List Slot) (l m : List ℕ) → is_good w ss (l ++ m) ≡ true → is_good w ss l ≡ true
unfolding is_good
good-prefix w ss l m e =
    let f = left_of (each_fills w 0 ss (l ++ m)) (each_after (may_join w) [] (picks ss (l ++ m))) e in
    let g = right_of (each_fills w 0 ss (l ++ m)) (each_after (may_join w) [] (picks ss (l ++ m))) e in
    both (each_fills w 0 ss l) (each_after (may_join w) [] (picks ss l))
    (left_of (each_fills w 0 ss l) (each_fills w (least_after 0 l) (drop (length l) ss) m) (sym (fills-append w 0 ss l m) ∙ f))
    (each_after-prefix (may_join w) [] (picks ss l) (picks (drop (length l) ss) m) (ap (each_after (may_join w) []) (sym (picks-append ss l m)) ∙ g))

pub good-nil : (w : SearchInput) (ss : List Slot) → is_good w ss [] ≡ true
unfolding is_good
good-nil w [] = refl
good-nil w (s ∷ ss) = refl
