-- Lines determine a legal history of runs.
use Rattle.std.proofs.Common.{ℕ, ◌≡◌, ◌++◌, ◌+◌, ◌<◌, ◌^◌, List, [], ◌∷◌, length, length-append, true, refl, sym, subst, append_assoc, arith}
use Rattle.std.specs.Prelude.{IfSome}
use Rattle.std.specs.List.{list_all}
use Rattle.cluster.specs.declared.entry.Entry.{Entry}
use Rattle.cluster.specs.declared.entry.Event.{Event}
use Rattle.cluster.specs.declared.entry.Event.TheVariants.{Applied, Deleted, Reserved, Refused, Wrote, Conflict, Unreserved, Bound, VerdictGiven, Contended, Released, Adopted, Denied}
use Rattle.commands.specs.declared.command.Command.{Command}
use Rattle.histories.specs.Determined.{AllAlike, RunBy, decided_at, kind_word}
use Rattle.histories.specs.Legal.{Legal, MayFollow, Step}
use Rattle.journal_text.specs.Journal.{line_of, lines_from}
use Rattle.journal_laws.specs.Told.{HasClearIndex, JobsFit, SameLines, is_unbroken, names_before_index}

-- the laws below
pub record Laws : Type 0 where
  pub kind : (p q : ℕ) (d e : Entry) → line_of p d ≡ line_of q e → kind_word d.event ≡ kind_word e.event
  pub job : (p q : ℕ) (d e : Entry) → d.job < 2 ^ 64 → e.job < 2 ^ 64 → line_of p d ≡ line_of q e → d.job ≡ e.job
  pub decided : (p q : ℕ) (d e : Entry) → HasClearIndex d.event → HasClearIndex e.event → line_of p d ≡ line_of q e → decided_at d.event ≡ decided_at e.event
  pub count : (n : ℕ) (h g : List Entry) → lines_from n h ≡ lines_from n g → length h ≡ length g
  pub lines : (n : ℕ) (h g : List Entry) → lines_from n h ≡ lines_from n g → SameLines n h g
  pub names : (prefix : List Entry) (e : Entry) (back : List Entry) → Legal (prefix ++ e ∷ back) → list_all is_unbroken (names_before_index e.event) ≡ true
  pub step : (prefix : List Entry) (e : Entry) (back : List Entry) → Legal (prefix ++ e ∷ back) → Step prefix e
  pub whole : (commands : ℕ → Command) (budget : ℕ) (h g : List Entry) → Legal h → Legal g → RunBy commands budget h → RunBy commands budget g → AllAlike h g → h ≡ g

abbrev AllClear : List Entry → Type 0
AllClear [] = Unit {0}
AllClear (e ∷ es) = HasClearIndex e.event × AllClear es

-- an index is at most as many as the entries before it
index_fits : (before : List Entry) (job : ℕ) (e : Event) → MayFollow before job e → length before < 2 ^ 64 → IfSome (decided_at e) (λ n. n < 2 ^ 64)
index_fits before job (Applied x mode) may less = tt
index_fits before job (Deleted t) may less = tt
index_fits before job (Reserved pod plan) may less = omega (arith, may.at, less)
index_fits before job (Refused pod plan why) may less = omega (arith, may.at, less)
index_fits before job (Wrote pod claim seen) may less = tt
index_fits before job (Conflict pod claim had now) may less = tt
index_fits before job (Unreserved pod) may less = tt
index_fits before job (Bound pod node) may less = tt
index_fits before job (VerdictGiven pod verdict) may less = omega (arith, may.at, less)
index_fits before job (Contended pod attempts) may less = tt
index_fits before job (Released pod) may less = tt
index_fits before job (Adopted claim status) may less = tt
index_fits before job (Denied command refusal) may less = tt

all_clear : Laws → (before es : List Entry) → Legal (before ++ es) → length before + length es < 2 ^ 64 → AllClear es
all_clear law before [] legal less = tt
all_clear law before (e ∷ es) legal less =
    let few : length before < 2 ^ 64 = omega (arith, less) in
    let next : length (before ++ e ∷ []) + length es < 2 ^ 64 = omega (arith, less, length-append before (e ∷ [])) in (
      record { names = law.names before e es legal; index = index_fits before e.job e.event (law.step before e es legal).follows few },
      all_clear law (before ++ e ∷ []) es (subst (λ (l : List Entry). Legal l) (sym (append_assoc before (e ∷ []) es)) legal) next,
    )

all_alike : Laws → (n : ℕ) (h g : List Entry) → SameLines n h g → JobsFit h → JobsFit g → AllClear h → AllClear g → AllAlike h g
all_alike law n [] [] same i j k l = tt
all_alike law n [] (e ∷ es) same i j k l = same
all_alike law n (d ∷ ds) [] same i j k l = same
all_alike law n (d ∷ ds) (e ∷ es) same i j k l = (
  law.job (n + 1) (n + 1) d e i.0 j.0 same.0,
  record { kind = law.kind (n + 1) (n + 1) d e same.0; index = law.decided (n + 1) (n + 1) d e k.0 l.0 same.0 },
  all_alike law (n + 1) ds es same.1 i.1 j.1 k.1 l.1,
)

few_by : (m n : ℕ) → m < 2 ^ 64 → m ≡ n → 0 + n < 2 ^ 64
few_by m n less same = omega (arith, less, same)

pub by_lines : Laws → (commands : ℕ → Command) (budget : ℕ) (h g : List Entry) → Legal h → Legal g → RunBy commands budget h → RunBy commands budget g → length h < 2 ^ 64 → JobsFit h → JobsFit g → lines_from 0 h ≡ lines_from 0 g → h ≡ g
by_lines law commands budget h g legal legally runs run few i j same =
    law.whole commands budget h g legal legally runs run
    (all_alike law 0 h g (law.lines 0 h g same) i j (all_clear law [] h legal (few_by (length h) (length h) few refl)) (all_clear law [] g legally (few_by (length h) (length g) few (law.count 0 h g same))))
