-- Nodes without an allocation, each behind the cause of the one before it.
use Rattle.std.proofs.Common.{ℕ, ◌+◌, List, [], ◌∷◌, ◌++◌, ◌≡◌, ◌∙◌, Result, Ok, Err, refl, ap, sym, append_assoc, subst}
use Rattle.std.specs.List.{flat_map}
use Rattle.std.specs.Prelude.{codes, OnOk}
use Rattle.cluster.specs.PassedOver.{cause_or_unsat, later_causes, next_cause, passed_from}
use Rattle.cluster.specs.declared.passed.NodeCause.{NodeCause}
use Rattle.cluster.specs.declared.plan.Cause.TheVariants.{Unsat}
use Rattle.journal_text.specs.Journal.{passed_text}
use Rattle.journal_text.specs.Passing.{unsat_next}

passed_is : (name : List ℕ) → passed_text (record { node = name; cause = Unsat }) ≡ name ++ codes ":unsat"
passed_is name = append_assoc name (codes ":") (codes "unsat")

-- the text of nodes behind others, if none has another cause
pub next_unsat : (n : ℕ) (names : List (List ℕ)) → flat_map (λ x. codes "," ++ passed_text x) (passed_from n names []) ≡ flat_map unsat_next names
next_unsat n [] = refl
next_unsat n (name ∷ names) =
    ap (λ (l : List ℕ). (codes "," ++ l) ++ flat_map (λ x. codes "," ++ passed_text x) (passed_from (n + 1) names [])) (passed_is name)
    ∙ ap (λ (l : List ℕ). unsat_next name ++ l) (next_unsat (n + 1) names)

-- all of them, where none has another cause
pub all_unsat : {X E : Type 0} (r : Result X E) (old new first : List ℕ) (rest : List (List ℕ)) (causes : List NodeCause) → causes ≡ []
    → OnOk r (new ≡ old ++ (first ++ codes ":unsat" ++ flat_map unsat_next rest))
    → OnOk r (new ≡ old ++ (passed_text (record { node = first; cause = cause_or_unsat (next_cause causes 0) }) ++ flat_map (λ x. codes "," ++ passed_text x) (passed_from 1 rest (later_causes causes 0))))
all_unsat (Ok u) old new first rest causes none told =
    let text : first ++ codes ":unsat" ++ flat_map unsat_next rest ≡ passed_text (record { node = first; cause = Unsat }) ++ flat_map (λ x. codes "," ++ passed_text x) (passed_from 1 rest []) =
    ap (λ (l : List ℕ). l ++ flat_map unsat_next rest) (sym (passed_is first))
    ∙ ap (λ (l : List ℕ). passed_text (record { node = first; cause = Unsat }) ++ l) (sym (next_unsat 1 rest)) in
    subst (λ (cs : List NodeCause). new ≡ old ++ (passed_text (record { node = first; cause = cause_or_unsat (next_cause cs 0) }) ++ flat_map (λ x. codes "," ++ passed_text x) (passed_from 1 rest (later_causes cs 0)))) (sym none)
    (told ∙ ap (λ (l : List ℕ). old ++ l) text)
all_unsat (Err e) old new first rest causes none told = tt
