-- Where there is no selector to evaluate.
use Rattle.std.proofs.Common.{◌≡◌, ℕ, List, [], ◌∷◌, ◌++◌, Bool, true, false, ◌||◌, Option, None, Some, map, refl, sym, ap, ◌∙◌}
use Rattle.std.specs.List.{list_any}
use Rattle.cel_value.specs.Device.{Device}
use Rattle.pool_view.specs.Match.{match_from}
use Rattle.pool_view.specs.Pools.{Offered}
use Rattle.pool_view.specs.declared.matching.Match.{Match}
use Rattle.device_match.specs.Selected.{SelectionTexts, device_in, has_any, has_selectors, plain_by, plain_match, says, says_by, texts_in}

none_any : (ts : List (List ℕ)) → has_any ts ≡ false → ts ≡ []
none_any [] e = refl
none_any (t ∷ ts) e = absurd (cc)

nor : (a b : Bool) → (a || b) ≡ false → (a ≡ false) × (b ≡ false)
nor true b e = absurd (cc)
nor false b e = (refl, e)

plain_class : (d : Device) (class : Option (List (List ℕ))) (own : List (List ℕ)) → own ≡ [] → texts_in class ≡ [] → plain_by class ≡ says_by class own d
plain_class d None own e f = refl
plain_class d (Some class) own e f =
    sym (ap (λ (ts : List (List ℕ)). match_from d 0 (class ++ ts)) e ∙ ap (λ (ts : List (List ℕ)). match_from d 0 (ts ++ [])) f)

plain_one : (d : Device) (s : SelectionTexts) → has_selectors s ≡ false → plain_match s ≡ says d s
plain_one d s e =
    let h = nor (has_any s.own) (has_any (texts_in s.class)) e in
    plain_class d s.class s.own (none_any s.own h.0) (none_any (texts_in s.class) h.1)

plain_each : (d : Device) (ss : List SelectionTexts) → list_any has_selectors ss ≡ false → map plain_match ss ≡ map (says d) ss
plain_each d [] e = refl
plain_each d (s ∷ ss) e =
    let h = nor (has_selectors s) (list_any has_selectors ss) e in
    ap (λ (m : Match). m ∷ map plain_match ss) (plain_one d s h.0)
    ∙ ap (λ (ms : List Match). says d s ∷ ms) (plain_each d ss h.1)

-- nothing is evaluated
pub plain : (ss : List SelectionTexts) (os : List Offered) → list_any has_selectors ss ≡ false → map (λ _. map plain_match ss) os ≡ map (λ o. map (says (device_in o)) ss) os
plain ss [] e = refl
plain ss (o ∷ os) e =
    ap (λ (c : List Match). c ∷ map (λ _. map plain_match ss) os) (plain_each (device_in o) ss e)
    ∙ ap (λ (cs : List (List Match)). map (says (device_in o)) ss ∷ cs) (plain ss os e)
