-- Each entry of a run of commands is one of the run of its job, whose command has its number.
use Rattle.std.proofs.Common.{ℕ, ◌≡◌, ◌∙◌, ◌++◌, ◌+◌, ◌<◌, ◌≤◌, inl, inr, List, [], ◌∷◌, true, false, eqb, eq-eqb, if◌then◌else◌, length, sym, ap, subst, append_assoc, append-nil, ◌⊎◌, nat_le, arith}
use Rattle.std.proofs.lemmas.Bool.{cases_Bool, eqb-true, le-leb, leb-false, leb-true, lt-leb}
use Rattle.cluster.specs.declared.entry.Entry.{Entry}
use Rattle.cluster.specs.declared.entry.Event.{Event}
use Rattle.commands.specs.declared.command.Command.{Command}
use Rattle.commands.specs.declared.given.Given.{Given}
use Rattle.commands.specs.declared.given.Given.TheVariants as given
use Rattle.histories.specs.Determined.{RunBy}
use Rattle.histories.specs.Histories.{Each}
use Rattle.histories.specs.JobRuns.{JobBegun, JobKept, JobRun, JobStep, Run}
use Rattle.replay_core.specs.Forms.{count_of, members, width}
use Rattle.replay_core.specs.Jobs.{AllBegun, AllOwn, AllRun, RunFrom, RunOf, SegmentBegun, run_after}
use Rattle.replay_core.specs.Numbered.{command_at, command_from, command_in}

-- ---- what is said of each entry

each_none : (before es : List Entry) → Each (λ b e. Unit {0}) before es
unfolding Each
each_none before [] = tt
each_none before (e ∷ es) = (tt, each_none (before ++ e ∷ []) es)

each_both : (P Q : List Entry → Entry → Type 0) (before es : List Entry) → Each P before es → Each Q before es → Each (λ b e. P b e × Q b e) before es
unfolding Each
each_both P Q before [] h g = tt
each_both P Q before (e ∷ es) h g = ((h.0, g.0), each_both P Q (before ++ e ∷ []) es h.1 g.1)

each_behind : (P : List Entry → Entry → Type 0) (g before es : List Entry) → Each P g (before ++ es) → Each P (g ++ before) es
unfolding Each
each_behind P g [] es h = subst (λ l. Each P l es) (sym (append-nil g)) h
each_behind P g (e ∷ before) es h = subst (λ l. Each P l es) (append_assoc g (e ∷ []) before) (each_behind P (g ++ e ∷ []) before es h.1)

each_join : (P : List Entry → Entry → Type 0) (g before es : List Entry) → Each P g before → Each P (g ++ before) es → Each P g (before ++ es)
unfolding Each
each_join P g [] es h more = subst (λ l. Each P l es) (append-nil g) more
each_join P g (e ∷ before) es h more = (h.0, each_join P (g ++ e ∷ []) before es h.1 (subst (λ l. Each P l es) (sym (append_assoc g (e ∷ []) before)) more))

each_start : (P : List Entry → Entry → Type 0) → Each P [] []
unfolding Each
each_start P = tt

-- ---- the entry's command

-- an entry of the run of a job with this command
abbrev StepOf : ℕ → ℕ → Command → List Entry → Event → Type 0
StepOf budget job command b event = (from : ℕ) × JobStep (record { job = job; command = command; from = from; budget = budget }) b event

-- what a history says of an entry that is of one of these jobs
abbrev Steps : ℕ → ℕ → List Entry → List Command → List Entry → Entry → Type 0
Steps budget n first [] b e = Unit {0}
Steps budget n first (c ∷ cs) b e = (e.job ≡ n + 1 → JobStep (run_after (n + 1) c budget first) b e.event) × Steps budget (n + 1) first cs b e

all_steps : (budget n : ℕ) (first : List Entry) (cs : List Command) (h : List Entry) → AllRun budget n first cs h → Each (λ b e. Steps budget n first cs b e) [] h
unfolding AllRun
all_steps budget n first [] h run = each_none [] h
all_steps budget n first (c ∷ cs) h run =
    each_both (λ b e. e.job ≡ n + 1 → JobStep (run_after (n + 1) c budget first) b e.event) (λ b e. Steps budget (n + 1) first cs b e) [] h run.0.kept (all_steps budget (n + 1) first cs h run.1)

differ : (a b : ℕ) → eqb a b ≡ false → a ≡ b → ⊥
differ a b apart same = let both : true ≡ false = sym (eq-eqb a b same) ∙ apart in absurd (cc)

past_next : (n job : ℕ) → n < job → eqb job (n + 1) ≡ false → n + 1 < job
past_next n job over apart = omega (arith, over, differ job (n + 1) apart)

same_job : (budget i j from : ℕ) (c : Command) → i ≡ j → ◌≡◌ {A = Run} (record { job = i; command = c; from = from; budget = budget }) (record { job = j; command = c; from = from; budget = budget })
same_job budget i j from c e = cc

step_of : (budget n : ℕ) (first : List Entry) (cs : List Command) (b : List Entry) (e : Entry) → n < e.job → e.job ≤ n + length cs → Steps budget n first cs b e → StepOf budget e.job (command_in n cs e.job) b e.event
step_of budget n first [] b e over under steps = absurd (omega (arith, over, under))
step_of budget n first (c ∷ cs) b e over under steps = elim (cases_Bool (eqb e.job (n + 1))) as (λ _. StepOf budget e.job (command_in n (c ∷ cs) e.job) b e.event) [
  | inl same ↦
      let is : e.job ≡ n + 1 = eqb-true e.job (n + 1) same in
      let chosen : command_in n (c ∷ cs) e.job ≡ c = ap (λ t. if t then c else command_in (n + 1) cs e.job) same in
      subst (λ d. StepOf budget e.job d b e.event) (sym chosen)
      (length first, subst (λ r. JobStep r b e.event) (same_job budget (n + 1) e.job (length first) c (sym is)) (steps.0 is))
  | inr apart ↦
      let chosen : command_in n (c ∷ cs) e.job ≡ command_in (n + 1) cs e.job = ap (λ t. if t then c else command_in (n + 1) cs e.job) apart in
      subst (λ d. StepOf budget e.job d b e.event) (sym chosen) (step_of budget (n + 1) first cs b e (past_next n e.job over apart) (omega (arith, under)) steps.1)
]

-- ---- a segment, and a run

each_step : (budget n : ℕ) (first : List Entry) (cs : List Command) (commands : ℕ → Command) (b es : List Entry) → ((j : ℕ) → n < j → j ≤ n + length cs → commands j ≡ command_in n cs j) → AllOwn n (length cs) es
    → Each (λ b e. Steps budget n first cs b e) b es → Each (λ b e. StepOf budget e.job (commands e.job) b e.event) b es
unfolding Each AllOwn
each_step budget n first cs commands b [] same own h = tt
each_step budget n first cs commands b (e ∷ es) same own h =
    (subst (λ d. StepOf budget e.job d b e.event) (sym (same e.job own.0 own.1)) (step_of budget n first cs b e own.0 own.1 h.0), each_step budget n first cs commands (b ++ e ∷ []) es same own.2 h.1)

members_few : (g : Given) → length (members g) ≤ width g
members_few (given.One command) = omega arith
members_few (given.Together commands) = omega arith
members_few (given.Prepare pod) = omega arith
members_few (given.Unprepare pod) = omega arith
members_few given.Reopen = omega arith

in_first : (n : ℕ) (g : Given) (gs : List Given) (j : ℕ) → j ≤ n + width g → command_from n (g ∷ gs) j ≡ command_in n (members g) j
in_first n g gs j le = ap (λ t. if t then command_in n (members g) j else command_from (n + width g) gs j) (le-leb j (n + width g) le)

in_rest : (n : ℕ) (g : Given) (gs : List Given) (j : ℕ) → n + width g < j → command_from n (g ∷ gs) j ≡ command_from (n + width g) gs j
in_rest n g gs j over = ap (λ t. if t then command_in n (members g) j else command_from (n + width g) gs j) (lt-leb j (n + width g) over)

run_by_from : (budget : ℕ) (commands : ℕ → Command) (n : ℕ) (before : List Entry) (gs : List Given) (after : List Entry) → ((j : ℕ) → n < j → j ≤ n + count_of gs → commands j ≡ command_from n gs j) → RunFrom budget n before gs after
    → Each (λ b e. StepOf budget e.job (commands e.job) b e.event) [] before → Each (λ b e. StepOf budget e.job (commands e.job) b e.event) [] after
unfolding RunFrom
run_by_from budget commands n before [] after same run h = subst (λ l. Each (λ b e. StepOf budget e.job (commands e.job) b e.event) [] l) (sym run) h
run_by_from budget commands n before (g ∷ gs) after same run h =
    let few = members_few g in
    let steps = each_behind (λ b e. Steps budget n before (members g) b e) [] before run.0 (all_steps budget n before (members g) (before ++ run.0) run.1.run) in
    let own =
    each_step budget n before (members g) commands before run.0 (λ j over under. same j over (omega (arith, under, few)) ∙ in_first n g gs j (omega (arith, under, few))) run.1.own steps in
    run_by_from budget commands (n + width g) (before ++ run.0) gs after (λ j over under. same j (omega (arith, over)) (omega (arith, under)) ∙ in_rest n g gs j over) run.2
    (each_join (λ b e. StepOf budget e.job (commands e.job) b e.event) [] before run.0 h own)

-- the numbers of the first commands, and of those behind them
front_same : (n : ℕ) (gs more : List Given) (j : ℕ) → n < j → j ≤ n + count_of gs → command_from n (gs ++ more) j ≡ command_from n gs j
front_same n [] more j over under = absurd (omega (arith, over, under))
front_same n (g ∷ gs) more j over under = elim (cases_Bool (nat_le j (n + width g))) as (λ _. command_from n (g ∷ (gs ++ more)) j ≡ command_from n (g ∷ gs) j) [
  | inl le ↦ in_first n g (gs ++ more) j (leb-true j (n + width g) le) ∙ sym (in_first n g gs j (leb-true j (n + width g) le))
  | inr past ↦
      let lt = leb-false j (n + width g) past in
      in_rest n g (gs ++ more) j lt ∙ front_same (n + width g) gs more j lt (omega (arith, under)) ∙ sym (in_rest n g gs j lt)
]

back_same : (n : ℕ) (gs more : List Given) (j : ℕ) → n + count_of gs < j → command_from n (gs ++ more) j ≡ command_from (n + count_of gs) more j
back_same n [] more j over = let same : n ≡ n + 0 = omega arith in ap (λ m. command_from m more j) same
back_same n (g ∷ gs) more j over =
    let same : n + width g + count_of gs ≡ n + (width g + count_of gs) = omega arith in
    in_rest n g (gs ++ more) j (omega (arith, over)) ∙ back_same (n + width g) gs more j (omega (arith, over)) ∙ ap (λ m. command_from m more j) same

pub run_by : (budget : ℕ) (gs more : List Given) (h : List Entry) → RunOf budget gs h → RunBy (command_at (gs ++ more)) budget h
unfolding RunOf
run_by budget gs more h run =
    run_by_from budget (command_at (gs ++ more)) 0 [] gs h (λ j over under. front_same 0 gs more j over under) run (each_start (λ b e. StepOf budget e.job (command_at (gs ++ more) e.job) b e.event))

kept_of : (c : Run) (h : List Entry) → JobRun c h ⊎ JobBegun c h → JobKept c h
kept_of c h (inl run) = run.kept
kept_of c h (inr begun) = begun.kept

begun_steps : (budget n : ℕ) (first : List Entry) (cs : List Command) (h : List Entry) → AllBegun budget n first cs h → Each (λ b e. Steps budget n first cs b e) [] h
unfolding AllBegun
begun_steps budget n first [] h run = each_none [] h
begun_steps budget n first (c ∷ cs) h run =
    each_both (λ b e. e.job ≡ n + 1 → JobStep (run_after (n + 1) c budget first) b e.event) (λ b e. Steps budget (n + 1) first cs b e) [] h (kept_of (run_after (n + 1) c budget first) h run.0)
    (begun_steps budget (n + 1) first cs h run.1)

-- a run of commands, and then a part of one more
pub begun_by : (budget : ℕ) (gs more : List Given) (g : Given) (before segment : List Entry) → RunOf budget gs before → SegmentBegun (count_of gs) g budget before segment → RunBy (command_at (gs ++ g ∷ more)) budget (before ++ segment)
begun_by budget gs more g before segment run begun =
    let n = count_of gs in
    let few = members_few g in
    let commands = command_at (gs ++ g ∷ more) in
    let start : 0 + count_of gs ≡ count_of gs = omega arith in
    let steps = each_behind (λ b e. Steps budget n before (members g) b e) [] before segment (begun_steps budget n before (members g) (before ++ segment) begun.each) in
    let own =
    each_step budget n before (members g) commands before segment
    (λ j over under. back_same 0 gs (g ∷ more) j (omega (arith, over)) ∙ ap (λ m. command_from m (g ∷ more) j) start ∙ in_first n g more j (omega (arith, under, few))) begun.own steps in
    each_join (λ b e. StepOf budget e.job (commands e.job) b e.event) [] before segment (run_by budget gs (g ∷ more) before run) own

-- ---- numbers of jobs

own_wider : (n count most : ℕ) (es : List Entry) → n + count ≤ most → AllOwn n count es → AllOwn 0 most es
unfolding AllOwn
own_wider n count most [] le own = tt
own_wider n count most (e ∷ es) le own = (omega (arith, own.0), omega (arith, own.1, le), own_wider n count most es le own.2)

own_join : (most : ℕ) (xs ys : List Entry) → AllOwn 0 most xs → AllOwn 0 most ys → AllOwn 0 most (xs ++ ys)
unfolding AllOwn
own_join most [] ys h g = g
own_join most (x ∷ xs) ys h g = (h.0, h.1, own_join most xs ys h.2 g)

own_none : (most : ℕ) → AllOwn 0 most []
unfolding AllOwn
own_none most = tt

own_from : (budget n most : ℕ) (before : List Entry) (gs : List Given) (after : List Entry) → n + count_of gs ≤ most → RunFrom budget n before gs after → AllOwn 0 most before → AllOwn 0 most after
unfolding RunFrom
own_from budget n most before [] after le run h = subst (λ l. AllOwn 0 most l) (sym run) h
own_from budget n most before (g ∷ gs) after le run h =
    let few = members_few g in
    own_from budget (n + width g) most (before ++ run.0) gs after (omega (arith, le)) run.2 (own_join most before run.0 h (own_wider n (length (members g)) most run.0 (omega (arith, le, few)) run.1.own))

pub run_own : (budget : ℕ) (gs : List Given) (h : List Entry) → RunOf budget gs h → AllOwn 0 (count_of gs) h
unfolding RunOf
run_own budget gs h run = own_from budget 0 (count_of gs) [] gs h (omega arith) run (own_none (count_of gs))

pub begun_own : (budget : ℕ) (gs : List Given) (g : Given) (before segment : List Entry) → RunOf budget gs before → SegmentBegun (count_of gs) g budget before segment → AllOwn 0 (count_of gs + width g) (before ++ segment)
unfolding RunOf
begun_own budget gs g before segment run begun =
    let most = count_of gs + width g in
    let few = members_few g in
    own_join most before segment (own_from budget 0 most [] gs before (omega arith) run (own_none most)) (own_wider (count_of gs) (length (members g)) most segment (omega (arith, few)) begun.own)
