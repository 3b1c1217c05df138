-- What the doors of all workers expose, and how many connections they served.
use Rattle.std.proofs.Common.{ℕ, ◌≡◌, ◌∙◌, ◌+◌, ◌++◌, List, [], ◌∷◌, Option, None, Some, length, map, refl, sym, ap, subst, arith, append_assoc, append-nil, length-append}
use Rattle.std.specs.Prelude.{IfSome}
use Rattle.door_ports.specs.Visits.{Ended, joined, with_ended}
use Rattle.api_server.specs.Talks.{AtDoor, Talk, after_talk, after_talks, told}
use Rattle.api_server.specs.Whole.{AreTold, Tells}

told_append : (ks js : List Talk) (xs ys : List Ended) → AreTold ks xs → AreTold js ys → AreTold (ks ++ js) (xs ++ ys)
told_append [] js [] ys a b = b
told_append [] js (x ∷ xs) ys a b = absurd a
told_append (k ∷ ks) js [] ys a b = absurd a
told_append (k ∷ ks) js (x ∷ xs) ys a b = (a.0, told_append ks js xs ys a.1 b)

-- one connection before the others
tells_first : (old one new : Option (List Ended)) (k : Talk) (x : Option Ended) (ks : List Talk) → told k ≡ x → one ≡ with_ended old x → Tells one new ks → Tells old new (k ∷ ks)
tells_first old one None k x ks is next tells = tt
tells_first None one (Some all) k x ks is next (es, xs, now, all_is, are) = absurd (cc)
tells_first (Some es0) one (Some all) k None ks is next (es, xs, now, all_is, are) = absurd (cc)
tells_first (Some es0) one (Some all) k (Some y) ks is next (es, xs, now, all_is, are) =
    let same : es0 ++ y ∷ [] ≡ es = cc in (es0, y ∷ xs, refl, all_is ∙ ap (λ (zs : List Ended). zs ++ xs) (sym same) ∙ append_assoc es0 (y ∷ []) xs, (is, are))

pub tells_none : (old : Option (List Ended)) → Tells old old []
tells_none None = tt
tells_none (Some es) = (es, [], refl, sym (append-nil es), tt)

pub lane_tells : (d : AtDoor) (ks : List Talk) → Tells d.ended (after_talks d ks).ended ks
lane_tells d [] = tells_none d.ended
lane_tells d (k ∷ ks) = tells_first d.ended (after_talk d k).ended (after_talks (after_talk d k) ks).ended k (told k) ks refl refl (lane_tells (after_talk d k) ks)

-- the connections of a door that had none, behind those before
pub tells_join : (old one lane new : Option (List Ended)) (begun : Option (List Ended)) (ks js : List Talk) → IfSome begun (λ (es : List Ended). es ≡ []) → Tells begun lane ks → one ≡ joined old lane → Tells one new js → Tells old new (ks ++ js)
tells_join old one lane None begun ks js none first next tells = tt
tells_join None one lane (Some all) begun ks js none first next (es, ys, now, all_is, are) = absurd (cc)
tells_join (Some es0) one None (Some all) begun ks js none first next (es, ys, now, all_is, are) = absurd (cc)
tells_join (Some es0) one (Some zs) (Some all) None ks js none (bs, xs, begin, lane_is, lane_are) next (es, ys, now, all_is, are) = absurd (cc)
tells_join (Some es0) one (Some zs) (Some all) (Some ws) ks js none (bs, xs, begin, lane_is, lane_are) next (es, ys, now, all_is, are) =
    let empty : bs ≡ [] = (let same : ws ≡ bs = cc in sym same ∙ none) in
    let mine : zs ≡ xs = lane_is ∙ ap (λ (l : List Ended). l ++ xs) empty in
    let here : es0 ++ zs ≡ es = cc in
    (es0, xs ++ ys, refl, all_is ∙ ap (λ (l : List Ended). l ++ ys) (sym here) ∙ append_assoc es0 zs ys ∙ ap (λ (l : List Ended). es0 ++ (l ++ ys)) mine, told_append ks js xs ys lane_are are)

pub served_after : (d : AtDoor) (ks : List Talk) → (after_talks d ks).served ≡ d.served + length ks
served_after d [] = omega arith
served_after d (k ∷ ks) = let r = served_after (after_talk d k) ks in omega arith
