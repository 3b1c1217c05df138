-- What the entries of a run state about searches.
use Rattle.std.proofs.Common.{ℕ, ◌+◌, ◌<◌, ◌≤◌, ◌≡◌, ◌∙◌, ◌⊎◌, inl, inr, List, [], ◌∷◌, ◌++◌, true, false, eqb, eq-eqb, length, refl, sym, ap, subst, arith, append_assoc, append-nil, length-append}
use Rattle.std.proofs.lemmas.Bool.{cases_Bool, eqb-true}
use Rattle.cluster.specs.declared.entry.Entry.{Entry}
use Rattle.commands.specs.declared.command.Command.{Command}
use Rattle.commands.specs.declared.given.Given.{Given}
use Rattle.histories.specs.Histories.{Each}
use Rattle.histories.specs.JobRuns.{JobBegun, JobKept, JobRun, JobStep, Run, Timed}
use Rattle.replay_core.specs.Forms.{members, width}
use Rattle.replay_core.specs.Jobs.{AllBegun, AllOwn, AllRun, RunFrom, RunOf, SegmentBegun, SegmentRun, run_after}

-- the entry states the result of a search of its job's run, which looks at so many items of a node's walk
abbrev pub TellsOf : ℕ → List Entry → Entry → Type 0
TellsOf budget before e = (c : Run) × (c.budget ≡ budget) × Timed c before e.event

-- what is said of each entry is said of one of them
each_at : (P : List Entry → Entry → Type 0) (before prefix : List Entry) (e : Entry) (back : List Entry) → Each P before (prefix ++ e ∷ back) → P (before ++ prefix) e
unfolding Each
each_at P before [] e back all = subst (λ (b : List Entry). P b e) (sym (append-nil before)) all.0
each_at P before (d ∷ prefix) e back all = subst (λ (b : List Entry). P b e) (append_assoc before (d ∷ []) prefix) (each_at P (before ++ d ∷ []) prefix e back all.1)

own_at : (n count : ℕ) (prefix : List Entry) (e : Entry) (back : List Entry) → AllOwn n count (prefix ++ e ∷ back) → (n < e.job) × (e.job ≤ n + count)
unfolding AllOwn
own_at n count [] e back own = (own.0, own.1)
own_at n count (d ∷ prefix) e back own = own_at n count prefix e back own.2

-- an entry of a job states such a result
job_tells : (c : Run) (before prefix : List Entry) (e : Entry) (back : List Entry) → e.job ≡ c.job → JobKept c (before ++ (prefix ++ e ∷ back)) → TellsOf c.budget (before ++ prefix) e
job_tells c before prefix e back same all =
    let kept : JobKept c ((before ++ prefix) ++ e ∷ back) = subst (λ (h : List Entry). JobKept c h) (sym (append_assoc before prefix (e ∷ back))) all in
    let step : JobStep c (before ++ prefix) e.event = each_at (λ b x. x.job ≡ c.job → JobStep c b x.event) [] (before ++ prefix) e back kept same in
    (c, refl, step.timed)

differ : (a b : ℕ) → eqb a b ≡ false → a ≡ b → ⊥
differ a b apart same = let both : true ≡ false = sym (eq-eqb a b same) ∙ apart in absurd (cc)

-- a number past n that isn't the next is past that
pub past_next : (n job : ℕ) → n < job → eqb job (n + 1) ≡ false → n + 1 < job
past_next n job over apart = omega (arith, over, differ job (n + 1) apart)

-- so does an entry of one of some jobs
members_tell : (budget n : ℕ) (first before prefix : List Entry) (e : Entry) (back : List Entry) (cs : List Command) → n < e.job → e.job ≤ n + length cs
    → AllRun budget n first cs (before ++ (prefix ++ e ∷ back)) → TellsOf budget (before ++ prefix) e
unfolding AllRun
members_tell budget n first before prefix e back [] over under run = absurd (omega (arith, over, under))
members_tell budget n first before prefix e back (c ∷ cs) over under run = elim (cases_Bool (eqb e.job (n + 1))) as (λ _. TellsOf budget (before ++ prefix) e) [
  | inl same ↦ job_tells (run_after (n + 1) c budget first) before prefix e back (eqb-true e.job (n + 1) same) run.0.kept
  | inr apart ↦
      let next : n + 1 < e.job = past_next n e.job over apart in
      members_tell budget (n + 1) first before prefix e back cs next (omega (arith, under)) run.1
]

made_tells : (n : ℕ) (g : Given) (budget : ℕ) (before prefix : List Entry) (e : Entry) (back : List Entry) → SegmentRun n g budget before (prefix ++ e ∷ back) → TellsOf budget (before ++ prefix) e
made_tells n g budget before prefix e back run =
    let own = own_at n (length (members g)) prefix e back run.own in
    members_tell budget n before before prefix e back (members g) own.0 own.1 run.run

-- a run goes on from the entries before it
pub record GoesFrom (before after : List Entry) : Type 0 where
  pub rest : List Entry
  pub is : after ≡ before ++ rest

pub run_goes : (budget n : ℕ) (before : List Entry) (cs : List Given) (after : List Entry) → RunFrom budget n before cs after → GoesFrom before after
unfolding RunFrom
run_goes budget n before [] after is = record { rest = []; is = is ∙ sym (append-nil before) }
run_goes budget n before (c ∷ cs) after r =
    let more = run_goes budget (n + width c) (before ++ r.0) cs after r.2 in
    record { rest = r.0 ++ more.rest; is = more.is ∙ append_assoc before r.0 more.rest }

-- where an element of two joined lists is
pub record InFirst (xs ys prefix : List Entry) (e : Entry) (back : List Entry) : Type 0 where
  pub more : List Entry
  pub is : xs ≡ prefix ++ e ∷ more

pub record InSecond (xs ys prefix : List Entry) (e : Entry) (back : List Entry) : Type 0 where
  pub behind : List Entry
  pub is : prefix ≡ xs ++ behind
  pub rest : ys ≡ behind ++ e ∷ back

in_next : (x : Entry) (xs ys prefix : List Entry) (e : Entry) (back : List Entry) → InFirst xs ys prefix e back ⊎ InSecond xs ys prefix e back → InFirst (x ∷ xs) ys (x ∷ prefix) e back ⊎ InSecond (x ∷ xs) ys (x ∷ prefix) e back
in_next x xs ys prefix e back (inl f) = inl (record { more = f.more; is = ap (λ (l : List Entry). x ∷ l) f.is })
in_next x xs ys prefix e back (inr s) = inr (record { behind = s.behind; is = ap (λ (l : List Entry). x ∷ l) s.is; rest = s.rest })

head_of : Entry → List Entry → Entry
head_of d [] = d
head_of d (x ∷ xs) = x

tail_of : List Entry → List Entry
tail_of [] = []
tail_of (x ∷ xs) = xs

stands_in : (xs ys prefix : List Entry) (e : Entry) (back : List Entry) → xs ++ ys ≡ prefix ++ e ∷ back → InFirst xs ys prefix e back ⊎ InSecond xs ys prefix e back
unfolding head_of tail_of
stands_in [] ys prefix e back is = inr (record { behind = prefix; is = refl; rest = is })
stands_in (x ∷ xs) ys [] e back is = inl (record { more = xs; is = ap (λ (y : Entry). y ∷ xs) (ap (head_of e) is) })
stands_in (x ∷ xs) ys (y ∷ prefix) e back is =
    let same : x ≡ y = ap (head_of e) is in
    subst (λ (z : Entry). InFirst (x ∷ xs) ys (z ∷ prefix) e back ⊎ InSecond (x ∷ xs) ys (z ∷ prefix) e back) same (in_next x xs ys prefix e back (stands_in xs ys prefix e back (ap tail_of is)))

same_prefix : (before xs ys : List Entry) → before ++ xs ≡ before ++ ys → xs ≡ ys
unfolding tail_of
same_prefix [] xs ys is = is
same_prefix (b ∷ before) xs ys is = same_prefix before xs ys (ap tail_of is)

none_longer : (before prefix : List Entry) (e : Entry) (back : List Entry) → before ++ (prefix ++ e ∷ back) ≡ before → ⊥
none_longer before prefix e back is =
    let all : length before + length (prefix ++ e ∷ back) ≡ length before = sym (length-append before (prefix ++ e ∷ back)) ∙ ap (λ (l : List Entry). length l) is in
    let part : length (prefix ++ e ∷ back) ≡ length prefix + length (e ∷ back) = length-append prefix (e ∷ back) in
    omega (arith, all, part)

-- an entry of a run states the result of a search within its budget
run_tells : (budget n : ℕ) (before : List Entry) (cs : List Given) (prefix : List Entry) (e : Entry) (back : List Entry) → RunFrom budget n before cs (before ++ (prefix ++ e ∷ back)) → TellsOf budget (before ++ prefix) e
unfolding RunFrom
run_tells budget n before [] prefix e back is = absurd (none_longer before prefix e back is)
run_tells budget n before (c ∷ cs) prefix e back r =
    let seg : List Entry = r.0 in
    let goes : GoesFrom (before ++ seg) (before ++ (prefix ++ e ∷ back)) = run_goes budget (n + width c) (before ++ seg) cs (before ++ (prefix ++ e ∷ back)) r.2 in
    let joined : seg ++ goes.rest ≡ prefix ++ e ∷ back = same_prefix before (seg ++ goes.rest) (prefix ++ e ∷ back) (sym (append_assoc before seg goes.rest) ∙ sym goes.is) in
    elim (stands_in seg goes.rest prefix e back joined) as (λ _. TellsOf budget (before ++ prefix) e) [
      | inl f ↦ made_tells n c budget before prefix e f.more (subst (λ (l : List Entry). SegmentRun n c budget before l) f.is r.1)
      | inr s ↦
          subst (λ (l : List Entry). TellsOf budget l e) (append_assoc before seg s.behind ∙ ap (λ (l : List Entry). before ++ l) (sym s.is))
          (run_tells budget (n + width c) (before ++ seg) cs s.behind e back
          (subst (λ (l : List Entry). RunFrom budget (n + width c) (before ++ seg) cs l) (goes.is ∙ ap (λ (l : List Entry). (before ++ seg) ++ l) s.rest) r.2))
    ]

pub entry_tells : (budget : ℕ) (cs : List Given) (prefix : List Entry) (e : Entry) (back : List Entry) → RunOf budget cs (prefix ++ e ∷ back) → TellsOf budget prefix e
unfolding RunOf
entry_tells budget cs prefix e back r = run_tells budget 0 [] cs prefix e back r

-- ---- a part of a command that reached the limit

begun_tells : (c : Run) (before prefix : List Entry) (e : Entry) (back : List Entry) → e.job ≡ c.job → (JobRun c (before ++ (prefix ++ e ∷ back)) ⊎ JobBegun c (before ++ (prefix ++ e ∷ back))) → TellsOf c.budget (before ++ prefix) e
begun_tells c before prefix e back same (inl run) = job_tells c before prefix e back same run.kept
begun_tells c before prefix e back same (inr begun) = job_tells c before prefix e back same begun.kept

members_begun_tell : (budget n : ℕ) (first before prefix : List Entry) (e : Entry) (back : List Entry) (cs : List Command) → n < e.job → e.job ≤ n + length cs
    → AllBegun budget n first cs (before ++ (prefix ++ e ∷ back)) → TellsOf budget (before ++ prefix) e
unfolding AllBegun
members_begun_tell budget n first before prefix e back [] over under each = absurd (omega (arith, over, under))
members_begun_tell budget n first before prefix e back (c ∷ cs) over under each = elim (cases_Bool (eqb e.job (n + 1))) as (λ _. TellsOf budget (before ++ prefix) e) [
  | inl same ↦ begun_tells (run_after (n + 1) c budget first) before prefix e back (eqb-true e.job (n + 1) same) each.0
  | inr apart ↦
      let next : n + 1 < e.job = past_next n e.job over apart in
      members_begun_tell budget (n + 1) first before prefix e back cs next (omega (arith, under)) each.1
]

made_begun_tells : (n : ℕ) (g : Given) (budget : ℕ) (before prefix : List Entry) (e : Entry) (back : List Entry) → SegmentBegun n g budget before (prefix ++ e ∷ back) → TellsOf budget (before ++ prefix) e
made_begun_tells n g budget before prefix e back begun =
    let own = own_at n (length (members g)) prefix e back begun.own in
    members_begun_tell budget n before before prefix e back (members g) own.0 own.1 begun.each

pub part_tells : (budget n : ℕ) (cs : List Given) (g : Given) (before segment prefix : List Entry) (e : Entry) (back : List Entry) → RunOf budget cs before → SegmentBegun n g budget before segment
    → before ++ segment ≡ prefix ++ e ∷ back → TellsOf budget prefix e
part_tells budget n cs g before segment prefix e back run begun is = elim (stands_in before segment prefix e back is) as (λ _. TellsOf budget prefix e) [
  | inl f ↦ entry_tells budget cs prefix e f.more (subst (λ (h : List Entry). RunOf budget cs h) f.is run)
  | inr s ↦
      subst (λ (l : List Entry). TellsOf budget l e) (sym s.is)
      (made_begun_tells n g budget before s.behind e back (subst (λ (l : List Entry). SegmentBegun n g budget before l) s.rest begun))
]
