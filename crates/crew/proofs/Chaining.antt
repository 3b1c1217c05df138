-- Jobs that ran in order, one more at the end.
use Rattle.std.proofs.Common.{◌≡◌, List, [], ◌∷◌, ◌++◌, ap, sym, ◌∙◌, refl, subst, append_assoc}
use Rattle.std.proofs.lemmas.List.{append-nil}
use Rattle.turn_lock.specs.Known.{Known}
use Rattle.crew.specs.Chains.{Ready, Ran, Stepped, Going}

module _ {J X E : Type 0} (needs : J → Known E → Type 0) (gives : J → Known E → X → Known E → Type 0) where
  ran_more : (done : List J) (ends : List X) (p q r : Known E) (j : J) (x : X) → Ran needs gives done ends p q → gives j q x r → Ran needs gives (done ++ j ∷ []) (ends ++ x ∷ []) p r
  ran_more [] [] p q r j x c g = (r, subst (λ (z : Known E). gives j z x r) (sym c) g, refl)
  ran_more [] (y ∷ ys) p q r j x c g = absurd c
  ran_more (k ∷ ks) [] p q r j x c g = absurd c
  ran_more (k ∷ ks) (y ∷ ys) p q r j x c g = (c.0, c.1, ran_more ks ys c.0 q r j x c.2 g)

  pub going_more : (all jobs jobs' : List J) (ends ends' : List X) (p q r : Known E) → Going needs gives all jobs ends p q → Stepped needs gives jobs jobs' ends ends' q r → Going needs gives all jobs' ends' p r
  going_more all jobs jobs' ends ends' p q r g s =
      let ready : Ready needs gives (s.job ∷ jobs') q = subst (λ (l : List J). Ready needs gives l q) s.next g.ready in
      record {
        done = g.done ++ s.job ∷ [];
        parted = g.parted ∙ ap (λ l. g.done ++ l) s.next ∙ sym (append_assoc g.done (s.job ∷ []) jobs');
        ran = subst (λ (l : List X). Ran needs gives (g.done ++ s.job ∷ []) l p r) (sym s.ended) (ran_more g.done ends p q r s.job s.end g.ran s.gave);
        ready = ready.1 s.end r s.gave;
      }

  pub going_start : (all : List J) (p : Known E) → Ready needs gives all p → Going needs gives all all [] p p
  going_start all p h = record { done = []; parted = refl; ran = refl; ready = h }

  pub going_end : (all jobs : List J) (ends : List X) (p q : Known E) → jobs ≡ [] → Going needs gives all jobs ends p q → Ran needs gives all ends p q
  going_end all jobs ends p q none g = subst (λ (l : List J). Ran needs gives l ends p q) (sym (g.parted ∙ ap (λ l. g.done ++ l) none ∙ append-nil g.done)) g.ran
