use Rattle.std.proofs.Common.{◌≡◌, List, [], ◌∷◌, length, sym, ◌∙◌, arith}
use Rattle.std.proofs.lemmas.List.{length-map}
use Rattle.turn_lock.specs.Known.{Known}
use Rattle.crew.specs.Chains.{Ready, AllReady}
use Rattle.crew.proofs.tests.ends_in_order.Goals as goal

module _ {J X E : Type 0} (needs : J → Known E → Type 0) (gives : J → Known E → X → Known E → Type 0) (always : (j : J) (p : Known E) → needs j p) where
  list_ready : (js : List J) (p : Known E) → Ready needs gives js p
  list_ready [] p = tt
  list_ready (j ∷ js) p = (always j p, λ x q g. list_ready js q)

  all_ready : (ls : List (List J)) (ps : List (Known E)) → length ls ≡ length ps → AllReady needs gives ls ps
  all_ready [] [] e = tt
  all_ready [] (p ∷ ps) e = absurd (omega arith)
  all_ready (l ∷ ls) [] e = absurd (omega arith)
  all_ready (l ∷ ls) (p ∷ ps) e = (list_ready l p, all_ready ls ps (omega arith))

pub run_all-passes-requires-clause-ready : goal.run_all-passes-requires-clause-ready
run_all-passes-requires-clause-ready g c κs within = all_ready _ _ (λ j p. tt) _ _ (length-map _ _ ∙ c.in_ok-lists.ensures ∙ sym c.in_ok-passes.ensures)
