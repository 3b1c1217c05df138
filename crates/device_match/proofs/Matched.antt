-- What selectors evaluate to before others.
use Rattle.std.proofs.Common.{◌≡◌, ◌+◌, ◌++◌, ◌∷◌, [], ℕ, List, length, refl, ap, ◌∙◌, arith}
use Rattle.cel_value.specs.Device.{Device}
use Rattle.pool_view.specs.declared.matching.Match.{Match}
use Rattle.pool_view.specs.declared.matching.Match.TheVariants.{Yes, No, Fault}
use Rattle.pool_view.specs.declared.verdict.Verdict.{Verdict}
use Rattle.pool_view.specs.declared.verdict.Verdict.TheVariants as verdict
use Rattle.pool_view.specs.Match.{match_from, match_next, text_verdict}

-- what later ones evaluate to decides if these are all true
abbrev pub match_then : Match → Match → Match
match_then Yes later = later
match_then No later = No
match_then (Fault n cause) later = Fault n cause

next_then : (v : Verdict) (n : ℕ) (m later : Match) → match_next v n (match_then m later) ≡ match_then (match_next v n m) later
next_then verdict.Yes n m later = refl
next_then verdict.No n m later = refl
next_then (verdict.Fault cause) n m later = refl

pub match_append : (d : Device) (n : ℕ) (xs ys : List (List ℕ)) → match_from d n (xs ++ ys) ≡ match_then (match_from d n xs) (match_from d (n + length xs) ys)
match_append d n [] ys = ap (λ k. match_from d k ys) (omega arith)
match_append d n (x ∷ xs) ys =
    rw (match_append d (n + 1) xs ys)
    (next_then (text_verdict d x) n (match_from d (n + 1) xs) (match_from d (n + 1 + length xs) ys)
    ∙ ap (λ k. match_then (match_next (text_verdict d x) n (match_from d (n + 1) xs)) (match_from d k ys)) (omega arith))
