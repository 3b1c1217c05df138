-- Jobs that have an entry each have at least as many entries as they are.
use Rattle.std.proofs.Common.{ℕ, ◌+◌, ◌≤◌, ◌<◌, ◌≡◌, ◌∙◌, List, [], ◌∷◌, ◌++◌, Bool, true, false, cond, eqb, length, inl, inr, refl, sym, ap, arith, append_assoc, append-nil}
use Rattle.std.proofs.lemmas.Bool.{cases_Bool, eqb-true, ne_eqb}
use Rattle.cluster.specs.declared.entry.Entry.{Entry}
use Rattle.cluster.specs.declared.entry.JobState.TheVariants.{Fresh, Ended}
use Rattle.cluster.specs.Events.{job_state_after}
use Rattle.cluster.specs.History.{job_state_of}
use Rattle.commands.specs.declared.command.Command.{Command}
use Rattle.replay_core.specs.Jobs.{AllOwn, AllRun}

-- the law of histories, which the call of a lower crate states
abbrev pub StandLaw : Type 0
StandLaw = (h : List Entry) (e : Entry) (job : ℕ) → job_state_of (h ++ e ∷ []) job ≡ cond (eqb e.job job) (job_state_after (job_state_of h job) (length h + 1) e.event) (job_state_of h job)

-- whether one of the entries is the job's
abbrev pub occurs : ℕ → List Entry → Bool
occurs job [] = false
occurs job (e ∷ es) = cond (eqb e.job job) true (occurs job es)

-- the entries of other jobs
abbrev others : ℕ → List Entry → List Entry
others job [] = []
others job (e ∷ es) = cond (eqb e.job job) (others job es) (e ∷ others job es)

kept_by : (t : Bool) (e : Entry) (os es : List Entry) → length os ≤ length es → length (cond t os (e ∷ os)) ≤ length (e ∷ es)
kept_by true e os es le = omega (arith, le)
kept_by false e os es le = omega (arith, le)

others_few : (job : ℕ) (es : List Entry) → length (others job es) ≤ length es
others_few job [] = omega arith
others_few job (e ∷ es) = kept_by (eqb e.job job) e (others job es) es (others_few job es)

less_by : (t : Bool) (e : Entry) (there : Bool) (os es : List Entry) → length os ≤ length es → (there ≡ true → length os + 1 ≤ length es) → cond t true there ≡ true → length (cond t os (e ∷ os)) + 1 ≤ length (e ∷ es)
less_by true e there os es le less o = omega (arith, le)
less_by false e there os es le less o = let rest = less o in omega (arith, rest)

others_fewer : (job : ℕ) (es : List Entry) → occurs job es ≡ true → length (others job es) + 1 ≤ length es
others_fewer job [] o = absurd (cc)
others_fewer job (e ∷ es) o = less_by (eqb e.job job) e (occurs job es) (others job es) es (others_few job es) (others_fewer job es) o

stays_by : (t u : Bool) (e : Entry) (b : ℕ) (os es : List Entry) → eqb e.job b ≡ u → (t ≡ true → u ≡ false) → (occurs b es ≡ true → occurs b os ≡ true) → cond u true (occurs b es) ≡ true → occurs b (cond t os (e ∷ os)) ≡ true
stays_by true true e b os es is apart more o = let no : true ≡ false = apart refl in absurd (cc)
stays_by true false e b os es is apart more o = more o
stays_by false true e b os es is apart more o = ap (λ (x : Bool). cond x true (occurs b os)) is
stays_by false false e b os es is apart more o = ap (λ (x : Bool). cond x true (occurs b os)) is ∙ more o

occurs_others : (a b : ℕ) (es : List Entry) → (a ≡ b → ⊥) → occurs b es ≡ true → occurs b (others a es) ≡ true
occurs_others a b [] apart o = o
occurs_others a b (e ∷ es) apart o =
    stays_by (eqb e.job a) (eqb e.job b) e b (others a es) es refl (λ t. ne_eqb e.job b (λ same. apart (sym (eqb-true e.job a t) ∙ same))) (occurs_others a b es apart) o

-- each of the jobs, numbered on from n, has an entry
abbrev AllOccur : ℕ → List Command → List Entry → Type 0
AllOccur n [] es = Unit {0}
AllOccur n (c ∷ cs) es = (occurs (n + 1) es ≡ true) × AllOccur (n + 1) cs es

all_others : (a n : ℕ) (cs : List Command) (es : List Entry) → a ≤ n → AllOccur n cs es → AllOccur n cs (others a es)
all_others a n [] es under all = tt
all_others a n (c ∷ cs) es under all = (occurs_others a (n + 1) es (λ same. omega (arith, under, same)) all.0, all_others a (n + 1) cs es (omega (arith, under)) all.1)

many_entries : (n : ℕ) (cs : List Command) (es : List Entry) → AllOccur n cs es → length cs ≤ length es
many_entries n [] es all = omega arith
many_entries n (c ∷ cs) es all =
    let rest = many_entries (n + 1) cs (others (n + 1) es) (all_others (n + 1) (n + 1) cs es (omega arith) all.1) in
    let fewer = others_fewer (n + 1) es all.0 in
    omega (arith, rest, fewer)

neither : (t x : Bool) → cond t true x ≡ false → (t ≡ false) × (x ≡ false)
neither true x o = absurd (cc)
neither false x o = (refl, o)

-- entries of other jobs leave the state of a job as it was
pub absent : StandLaw → (before es : List Entry) (job : ℕ) → occurs job es ≡ false → job_state_of (before ++ es) job ≡ job_state_of before job
absent law before [] job none = ap (λ (h : List Entry). job_state_of h job) (append-nil before)
absent law before (e ∷ es) job none =
    let both = neither (eqb e.job job) (occurs job es) none in
    ap (λ (h : List Entry). job_state_of h job) (sym (append_assoc before (e ∷ []) es))
    ∙ absent law (before ++ e ∷ []) es job both.1
    ∙ law before e job
    ∙ ap (λ (t : Bool). cond t (job_state_after (job_state_of before job) (length before + 1) e.event) (job_state_of before job)) both.0

not_own : (n count job : ℕ) (es : List Entry) → n + count < job → AllOwn n count es → occurs job es ≡ false
unfolding AllOwn
not_own n count job [] over own = refl
not_own n count job (e ∷ es) over own =
    ap (λ (t : Bool). cond t true (occurs job es)) (ne_eqb e.job job (λ same. omega (arith, over, own.1, same))) ∙ not_own n count job es over own.2

-- the entries of some jobs leave the states of those after them as they were
pub own_only : StandLaw → (n count : ℕ) (before seg : List Entry) (job : ℕ) → n + count < job → AllOwn n count seg → job_state_of (before ++ seg) job ≡ job_state_of before job
own_only law n count before seg job over own = absent law before seg job (not_own n count job seg over own)

-- a job that had no entry and has ended has one
has_entry : StandLaw → (before seg : List Entry) (job index : ℕ) → job_state_of before job ≡ Fresh → job_state_of (before ++ seg) job ≡ Ended index → occurs job seg ≡ true
has_entry law before seg job index fresh ended = elim (cases_Bool (occurs job seg)) as (λ _. occurs job seg ≡ true) [
  | inl there ↦ there
  | inr none ↦ let e : Fresh ≡ Ended index = sym fresh ∙ sym (absent law before seg job none) ∙ ended in absurd (cc)
]

all_occur : StandLaw → (budget n : ℕ) (before : List Entry) (cs : List Command) (seg : List Entry) → ((job : ℕ) → n < job → job_state_of before job ≡ Fresh) → AllRun budget n before cs (before ++ seg) → AllOccur n cs seg
unfolding AllRun
all_occur law budget n before [] seg fresh run = tt
all_occur law budget n before (c ∷ cs) seg fresh run = (
  has_entry law before seg (n + 1) run.0.index (fresh (n + 1) (omega arith)) run.0.ended,
  all_occur law budget (n + 1) before cs seg (λ job over. fresh job (omega (arith, over))) run.1,
)

-- jobs that had no entry and were run whole have made at least as many entries as they are
pub jobs_few : StandLaw → (budget n : ℕ) (before : List Entry) (cs : List Command) (seg : List Entry) → ((job : ℕ) → n < job → job_state_of before job ≡ Fresh) → AllRun budget n before cs (before ++ seg) → length cs ≤ length seg
jobs_few law budget n before cs seg fresh run = many_entries n cs seg (all_occur law budget n before cs seg fresh run)
