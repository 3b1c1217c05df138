-- What the jobs came to in the end.
use Rattle.std.proofs.Common.{ℕ, ◌≡◌, ◌∙◌, ◌+◌, ◌≤◌, ◌<◌, ◌++◌, inl, inr, List, [], ◌∷◌, Bool, true, false, eqb, ◌||◌, length, refl, sym, ap, subst, arith, append_assoc, length-append}
use mathlib.Core.List.{IsPrefix}
use Rattle.std.specs.List.{list_any}
use Rattle.std.specs.Prelude.{nat_eq}
use Rattle.cluster.specs.declared.entry.Entry.{Entry}
use Rattle.cluster.specs.declared.entry.JobState.TheVariants as job_state
use Rattle.cluster.specs.History.{job_state_of}
use Rattle.turn_lock.specs.Known.{Known, Opened}
use Rattle.turn_lock.specs.Places.{OwnsAll, times}
use Rattle.sched_job.specs.declared.run.JobEnd.{JobEnd}
use Rattle.sched_job.specs.declared.run.JobEnd.TheVariants as job_end
use Rattle.sched_job.specs.declared.work.Work.{Work}
use Rattle.sched_job.specs.Going.{EndsBy}
use Rattle.sched_job.specs.Owned.{AllIn, AllMade, NoneOf}
use Rattle.histories.specs.JobRuns.{JobBegun, JobRun, Run, is_ended}
use Rattle.sched_job.specs.Steps.{AllEnds, AllNew, AllOf, Differ, Extends, jobs_of, run_of}
use Rattle.sched_job.specs.Dealt.{AreReady}
use Rattle.sched_job.specs.Parts.{AllDid, Part, PartDid, added_of, ends_of, run_in, works_of}
use Rattle.sched_job.specs.Together.{AllDone, AllEnded, DidAll, In, IsDone, SomeFull, SomeOpen}
use Rattle.sched_job.proofs.Attributing.{Apart, HasPart, made_all, some_owner}
use Rattle.sched_job.proofs.Dealing.{differ_times, none_if}
use Rattle.sched_job.proofs.Laning.{did_on}

-- the laws of jobs that share a ledger
pub record Laws : Type 0 where
  pub run : (c : Run) (h more : List Entry) → NoneOf c.job h more → JobRun c h → JobRun c (h ++ more)
  pub begun : (c : Run) (h more : List Entry) → NoneOf c.job h more → JobBegun c h → JobBegun c (h ++ more)
  pub run_earlier : (c : Run) (from : ℕ) (h : List Entry) → from ≤ c.from → JobRun c h → JobRun (record c { from = from }) h
  pub begun_earlier : (c : Run) (from : ℕ) (h : List Entry) → from ≤ c.from → JobBegun c h → JobBegun (record c { from = from }) h
  pub made : (c : Run) (h more : List Entry) (added : List ℕ) → AllMade c h 0 added → AllIn c.job added (h ++ more) → AllIn c.job added h × NoneOf c.job h more
  pub fresh : (job : ℕ) (h : List Entry) → job_state_of h job ≡ job_state.Fresh → NoneOf job [] h
  pub new : (c : Run) (h : List Entry) → job_state_of h c.job ≡ job_state.Fresh → JobBegun c h

-- what a job came to
pub record EndOf (base budget : ℕ) (h : List Entry) (w : Work) : Type 0 where
  pub run : (index : ℕ) → job_state_of h w.job ≡ job_state.Ended index → JobRun (run_of base budget w) h
  pub begun : is_ended (job_state_of h w.job) ≡ false → JobBegun (run_of base budget w) h

from_run : (base budget : ℕ) (h : List Entry) (w : Work) → JobRun (run_of base budget w) h → EndOf base budget h w
from_run base budget h w r = record { run = λ index e. r; begun = λ e. absurd (let s = ap is_ended r.ended in cc) }

from_begun : (base budget : ℕ) (h : List Entry) (w : Work) → JobBegun (run_of base budget w) h → EndOf base budget h w
from_begun base budget h w b = record { run = λ index e. absurd (let s = ap is_ended e in let o = b.open_yet in cc); begun = λ e. b }

-- what an end says in the end
abbrev EndSays : JobEnd → List Entry → Work → Type 0
EndSays (job_end.Ended index) h w = is_ended (job_state_of h w.job) ≡ true
EndSays (job_end.Full n) h w = is_ended (job_state_of h w.job) ≡ false
EndSays job_end.Memory h w = is_ended (job_state_of h w.job) ≡ false

pub record PartEnd (base budget : ℕ) (h : List Entry) (p : Part) : Type 0 where
  pub is : EndOf base budget h p.work
  pub says : EndSays p.end h p.work

begun_part : Laws → (base budget : ℕ) (front more : List Entry) (p : Part) → base ≤ p.from → NoneOf p.work.job front more → JobBegun (run_in budget p) front → JobBegun (run_of base budget p.work) (front ++ more)
begun_part l base budget front more p le none b = l.begun_earlier (run_in budget p) base (front ++ more) le (l.begun (run_in budget p) front more none b)

part_by : Laws → (base budget number : ℕ) (front more : List Entry) (w : Work) (from : ℕ) (added : List ℕ) (end : JobEnd) → PartDid budget number base (front ++ more) (record { work = w; from = from; added = added; front = front; end = end })
    → AllIn w.job added (front ++ more) → PartEnd base budget (front ++ more) (record { work = w; from = from; added = added; front = front; end = end })
part_by l base budget number front more w from added (job_end.Ended index) did all =
    let m = l.made (run_of from budget w) front more added did.made all in
    let r = l.run_earlier (run_of from budget w) base (front ++ more) did.from (l.run (run_of from budget w) front more m.1 (did.ends.run m.0)) in
    record { is = from_run base budget (front ++ more) w r; says = ap is_ended r.ended }
part_by l base budget number front more w from added (job_end.Full n) did all =
    let m = l.made (run_of from budget w) front more added did.made all in
    let b = l.begun_earlier (run_of from budget w) base (front ++ more) did.from (l.begun (run_of from budget w) front more m.1 (did.ends.begun m.0)) in
    record { is = from_begun base budget (front ++ more) w b; says = b.open_yet }
part_by l base budget number front more w from added job_end.Memory did all =
    let m = l.made (run_of from budget w) front more added did.made all in
    let b = l.begun_earlier (run_of from budget w) base (front ++ more) did.from (l.begun (run_of from budget w) front more m.1 (did.ends m.0)) in
    record { is = from_begun base budget (front ++ more) w b; says = b.open_yet }

part_end : Laws → (base budget number : ℕ) (h : List Entry) (p : Part) → PartDid budget number base h p → AllIn p.work.job p.added h → PartEnd base budget h p
part_end l base budget number h p did all =
    let pre = did.begins in
    subst (λ (xs : List Entry). PartEnd base budget xs p) pre.1
    (part_by l base budget number p.front pre.0 p.work p.from p.added p.end (subst (λ (xs : List Entry). PartDid budget number base xs p) (sym pre.1) did) (subst (AllIn p.work.job p.added) (sym pre.1) all))

did_of : (budget number base : ℕ) (h : List Entry) (ps : List Part) (d : Part) → AllDid budget number base h ps → HasPart d ps → PartDid budget number base h d
did_of budget number base h [] d did there = absurd there
did_of budget number base h (p ∷ ps) d did (inl e) = subst (PartDid budget number base h) (sym e) did.0
did_of budget number base h (p ∷ ps) d did (inr i) = did_of budget number base h ps d did.1 i

-- ---- the works

part_of : (w : Work) (ps : List Part) → In w (works_of ps) → (d : Part) × HasPart d ps × (d.work ≡ w)
part_of w [] i = absurd i
part_of w (p ∷ ps) (inl e) = (p, inl refl, sym e)
part_of w (p ∷ ps) (inr i) = let r = part_of w ps i in (r.0, inr r.1, r.2)

work_of : (d : Part) (ps : List Part) → HasPart d ps → In d.work (works_of ps)
work_of d [] i = absurd i
work_of d (p ∷ ps) (inl e) = inl (ap (λ (x : Part). x.work) e)
work_of d (p ∷ ps) (inr i) = inr (work_of d ps i)

fresh_of : (h : List Entry) (ws : List Work) (w : Work) → AllNew h ws → In w ws → job_state_of h w.job ≡ job_state.Fresh
fresh_of h [] w new i = absurd i
fresh_of h (v ∷ vs) w new (inl e) = ap (λ (x : Work). job_state_of h x.job) e ∙ new.0
fresh_of h (v ∷ vs) w new (inr i) = fresh_of h vs w new.3 i

all_ends : (base budget : ℕ) (h : List Entry) (ws : List Work) → ((w : Work) → In w ws → EndOf base budget h w) → AllEnds base budget h ws
all_ends base budget h [] f = tt
all_ends base budget h (w ∷ ws) f = let e = f w (inl refl) in (e.run, e.begun, all_ends base budget h ws (λ v i. f v (inr i)))

job_in : (ws : List Work) (job : ℕ) → 0 < times job (jobs_of ws) → list_any (nat_eq job) (jobs_of ws) ≡ true
job_in [] job lt = absurd (omega arith)
job_in (v ∷ vs) job lt = pick (eqb job v.job) refl (λ later. job_in vs job later)
  where
    pick : (b : Bool) → eqb job v.job ≡ b → (0 < times job (jobs_of vs) → list_any (nat_eq job) (jobs_of vs) ≡ true) → list_any (nat_eq job) (jobs_of (v ∷ vs)) ≡ true
    pick true t later = ap (λ (x : Bool). x || list_any (nat_eq job) (jobs_of vs)) t
    pick false t later =
        let first = none_if (eqb job v.job) t in
        ap (λ (x : Bool). x || list_any (nat_eq job) (jobs_of vs)) t ∙ later (omega arith)

-- nothing was done
pub nothing_ran : Laws → (budget : ℕ) (h : List Entry) (ws : List Work) → AllNew h ws → AllEnds (length h) budget h ws
nothing_ran l budget h ws new = all_ends (length h) budget h ws (λ w i. from_begun (length h) budget h w (l.new (run_of (length h) budget w) h (fresh_of h ws w new i)))

-- ---- all was done

done_end : (d : Part) (ps : List Part) → AllDone (ends_of ps) → HasPart d ps → IsDone d.end
done_end d [] done there = absurd there
done_end d (p ∷ ps) done (inl e) = subst (λ (x : Part). IsDone x.end) (sym e) done.0
done_end d (p ∷ ps) done (inr i) = done_end d ps done.1 i

full_end : (n : ℕ) (ps : List Part) → SomeFull n (ends_of ps) → (d : Part) × HasPart d ps × (d.end ≡ job_end.Full n)
full_end n [] some = absurd some
full_end n (p ∷ ps) (inl e) = (p, inl refl, e)
full_end n (p ∷ ps) (inr i) = let r = full_end n ps i in (r.0, inr r.1, r.2)

says_done : (x : JobEnd) (h : List Entry) (w : Work) → IsDone x → EndSays x h w → is_ended (job_state_of h w.job) ≡ true
says_done (job_end.Ended index) h w done says = says
says_done (job_end.Full n) h w done says = absurd done
says_done job_end.Memory h w done says = absurd done

all_ended : (h : List Entry) (ws : List Work) → ((w : Work) → In w ws → is_ended (job_state_of h w.job) ≡ true) → AllEnded h ws
all_ended h [] f = tt
all_ended h (w ∷ ws) f = (f w (inl refl), all_ended h ws (λ v i. f v (inr i)))

some_open : (h : List Entry) (ws : List Work) (w : Work) → In w ws → is_ended (job_state_of h w.job) ≡ false → SomeOpen h ws
some_open h [] w i e = absurd i
some_open h (v ∷ vs) w (inl same) e = inl (subst (λ (x : Work). is_ended (job_state_of h x.job) ≡ false) same e)
some_open h (v ∷ vs) w (inr i) e = inr (some_open h vs w i e)

-- each entry past the opening is of one of the jobs
all_of_more : (budget number base : ℕ) (opening h : List Entry) (ps : List Part) (works : List Work) (before es : List Entry) → AllDid budget number base h ps → OwnsAll opening h (added_of ps) → ((job : ℕ) → times job (jobs_of (works_of ps)) ≡ times job (jobs_of works))
    → h ≡ before ++ es → length opening ≤ length before → AllOf (jobs_of works) es
all_of_more budget number base opening h ps works before [] did owns often is le = tt
all_of_more budget number base opening h ps works before (e ∷ es) did owns often is le =
    let n : length h ≡ length (before ++ e ∷ es) = ap length is in
    let one = owns.each (length before + 1) (omega arith) (omega (arith, length-append before (e ∷ es))) in
    let has = some_owner budget number base h ps before e es did is (omega arith) in
    let o = often e.job in (
      job_in works e.job (omega arith),
      all_of_more budget number base opening h ps works (before ++ e ∷ []) es did owns often (is ∙ sym (append_assoc before (e ∷ []) es)) (omega (arith, length-append before (e ∷ []))),
    )

-- a job that met the limit saw a history of so many entries
met_limit : (budget number base : ℕ) (h : List Entry) (p : Part) (n : ℕ) → PartDid budget number base h p → p.end ≡ job_end.Full n → (n ≤ length h) × (number ≤ n)
met_limit budget number base h p n did is =
    let ends : EndsBy (run_in budget p) p.front p.added number (job_end.Full n) = subst (EndsBy (run_in budget p) p.front p.added number) is did.ends in
    let k : length (p.front ++ did.begins.0) ≡ length h = ap length did.begins.1 in
    (let c = ends.count in omega (arith, length-append p.front did.begins.0), ends.limit)

pub record Resulted (budget number : ℕ) (works : List Work) (ends : List JobEnd) (opening h : List Entry) : Type 0 where
  pub extends : Extends (jobs_of works) opening h
  pub ends_are : AllEnds (length opening) budget h works
  pub done : AllDone ends → AllEnded h works
  pub full : (n : ℕ) → SomeFull n ends → (n ≤ length h) × (number ≤ n) × SomeOpen h works

module _ (l : Laws) (lock : Opened Entry) (budget : ℕ) (works : List Work) (ends : List JobEnd) (whole : Known Entry) (more : List Entry) (d : DidAll lock budget works ends whole) (pre : IsPrefix whole.front (lock.opening ++ more)) (owns : OwnsAll lock.opening (lock.opening ++ more) whole.own) (new : AllNew lock.opening works) (differ : Differ (jobs_of works)) where
  h : List Entry
  h = lock.opening ++ more

  did : AllDid budget lock.number (length lock.opening) (lock.opening ++ more) d.parts
  did = did_on budget lock.number (length lock.opening) whole.front (lock.opening ++ more) d.parts pre d.did

  apart : Apart d.parts
  apart job = let a = differ_times (jobs_of works) job differ in let o = d.works_are.often job in omega arith

  own : OwnsAll lock.opening (lock.opening ++ more) (added_of d.parts)
  own = subst (OwnsAll lock.opening (lock.opening ++ more)) d.own owns

  part_ends : (p : Part) → HasPart p d.parts → PartEnd (length lock.opening) budget (lock.opening ++ more) p
  part_ends p there =
      let w = d.works_are.back p.work (work_of p d.parts there) in
      let none = l.fresh p.work.job lock.opening (fresh_of lock.opening works p.work new w) in
      part_end l (length lock.opening) budget lock.number (lock.opening ++ more) p (did_of budget lock.number (length lock.opening) (lock.opening ++ more) d.parts p did there)
      (made_all budget lock.number lock.opening more d.parts p did apart own none there)

  work_ends : (w : Work) → In w works → (p : Part) × HasPart p d.parts × (p.work ≡ w) × PartEnd (length lock.opening) budget (lock.opening ++ more) p
  work_ends w i = let r = part_of w d.parts (d.works_are.there w i) in (r.0, r.1, r.2, part_ends r.0 r.1)

  pub resulted : Resulted budget lock.number works ends lock.opening (lock.opening ++ more)
  resulted = record {
    extends = record { added = more; now = refl; of_jobs = all_of_more budget lock.number (length lock.opening) lock.opening (lock.opening ++ more) d.parts works lock.opening more did own d.works_are.often refl (omega arith) };
    ends_are = all_ends (length lock.opening) budget (lock.opening ++ more) works (λ w i. let r = work_ends w i in subst (EndOf (length lock.opening) budget (lock.opening ++ more)) r.2 r.3.is);
    done = λ done. all_ended (lock.opening ++ more) works
        (λ w i. let r = work_ends w i in subst (λ (x : Work). is_ended (job_state_of (lock.opening ++ more) x.job) ≡ true) r.2
        (says_done r.0.end (lock.opening ++ more) r.0.work (done_end r.0 d.parts (subst AllDone (sym d.ends_are) done) r.1) r.3.says));
    full = λ n some.
        let f = full_end n d.parts (subst (SomeFull n) (sym d.ends_are) some) in
        let e = part_ends f.0 f.1 in
        let m = met_limit budget lock.number (length lock.opening) (lock.opening ++ more) f.0 n (did_of budget lock.number (length lock.opening) (lock.opening ++ more) d.parts f.0 did f.1) f.2 in (
          m.0,
          m.1,
          some_open (lock.opening ++ more) works f.0.work (d.works_are.back f.0.work (work_of f.0 d.parts f.1)) (subst (λ (x : JobEnd). EndSays x (lock.opening ++ more) f.0.work) f.2 e.says),
        );
  }

-- a lock that nobody made an entry under has the history of its opening
pub owns_none : (opening more : List Entry) → OwnsAll opening (opening ++ more) [] → more ≡ []
owns_none opening [] owns = refl
owns_none opening (e ∷ es) owns = absurd (let o = owns.each (length opening + 1) (omega arith) (omega (arith, length-append opening (e ∷ es))) in omega arith)

pub ready_of : (h : List Entry) (ws : List Work) → AllNew h ws → AreReady ws
ready_of h [] new = tt
ready_of h (w ∷ ws) new = (new.1, new.2, ready_of h ws new.3)
