-- What jobs need of their pass, and what holds after they ran. `needs j p` says that the job j can run with the pass p, and `gives j p x q` that it ended with x and left the pass q.
use Rattle.std.specs.Prelude.{◌≡◌, List, [], ◌∷◌, ◌++◌}
use Rattle.turn_lock.specs.Known.{Known}

module _ {J X E : Type 0} (needs : J → Known E → Type 0) (gives : J → Known E → X → Known E → Type 0) where
  -- each job of the list can run with the pass that the jobs before it leave
  abbrev pub Ready : List J → Known E → Type 0
  Ready [] p = Unit {0}
  Ready (j ∷ js) p = needs j p × ((x : X) (q : Known E) → gives j p x q → Ready js q)

  -- the jobs ran in order with one pass, from p to q, and these are their ends
  abbrev pub Ran : List J → List X → Known E → Known E → Type 0
  Ran [] [] p q = p ≡ q
  Ran (j ∷ js) (x ∷ xs) p q = (m : Known E) × gives j p x m × Ran js xs m q
  Ran _ _ p q = ⊥

  -- there are as many passes as lists, and each list is ready with its pass
  abbrev pub AllReady : List (List J) → List (Known E) → Type 0
  AllReady [] [] = Unit {0}
  AllReady (l ∷ ls) (p ∷ ps) = Ready l p × AllReady ls ps
  AllReady _ _ = ⊥

  -- each list ran with its pass, which is one of ps before and at the same index of qs after; the ends
  -- are in the order of the lists
  abbrev pub AllRan : List (List J) → List X → List (Known E) → List (Known E) → Type 0
  AllRan [] ends [] [] = ends ≡ []
  AllRan (l ∷ ls) ends (p ∷ ps) (q ∷ qs) = (xs : List X) × (rest : List X) × (ends ≡ xs ++ rest) × Ran l xs p q × AllRan ls rest ps qs
  AllRan _ _ _ _ = ⊥

  -- the first of the jobs ran, with an end that was added to the ends
  pub record Stepped (jobs jobs' : List J) (ends ends' : List X) (p q : Known E) : Type 0 where
    pub job : J
    pub end : X
    pub next : jobs ≡ job ∷ jobs'
    pub ended : ends' ≡ ends ++ end ∷ []
    pub gave : gives job p end q

  -- of all jobs some ran, with these ends, and the others are left and can run
  pub record Going (all jobs : List J) (ends : List X) (p q : Known E) : Type 0 where
    pub done : List J
    pub parted : all ≡ done ++ jobs
    pub ran : Ran done ends p q
    pub ready : Ready jobs q
