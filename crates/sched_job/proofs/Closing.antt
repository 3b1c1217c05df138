-- What the ledger is once the lock is closed.
use Rattle.std.proofs.Common.{ℕ, ◌≡◌, ◌∙◌, ◌≤◌, ◌++◌, List, [], length, sym, ap, subst, arith, append-nil, Result, Ok, Err, OnOk, IfNone, IfSome, None, Option, Some}
use mathlib.Core.List.{IsPrefix}
use Rattle.cluster.specs.declared.entry.Entry.{Entry}
use Rattle.histories.specs.Legal.{Legal}
use Rattle.sched_job.specs.Ledgers.{History}
use Rattle.sched_job.specs.Ledgers.{LedgerError}
use Rattle.turn_lock.specs.Known.{Known, Opened}
use Rattle.turn_lock.specs.Places.{OwnsAll}
use Rattle.sched_job.specs.declared.run.JobEnd.{JobEnd}
use Rattle.sched_job.specs.declared.work.Work.{Work}
use Rattle.sched_job.specs.Steps.{AllEnds, AllNew, Differ, Extends, jobs_of}
use Rattle.sched_job.specs.Together.{AllDone, AllEnded, DidAll, RanTogether, SomeFull, SomeOpen}
use Rattle.sched_job.proofs.Laning.{prefix_trans}
use Rattle.sched_job.proofs.Resulting.{Laws, Resulted, nothing_ran, owns_none, resulted}

-- nothing was done
pub unchanged : Laws → (budget : ℕ) (works : List Work) (old new : History) → AllNew old.entries works → new ≡ old → Legal new.entries → RanTogether budget works old new
unchanged l budget works old new fresh same legal =
    let entries : new.entries ≡ old.entries = ap (λ (h : History). h.entries) same in
    record {
      extends = record { added = []; now = entries ∙ sym (append-nil old.entries); of_jobs = tt };
      limit = ap (λ (h : History). h.limit) same;
      legal = legal;
      ends = subst (λ (h : List Entry). AllEnds (length old.entries) budget h works) (sym entries) (nothing_ran l budget old.entries works fresh);
    }

same_history : (a b : History) → a.entries ≡ b.entries → a.limit ≡ b.limit → a ≡ b
same_history a b entries limit = ap (λ (es : List Entry). record { entries = es; limit = a.limit }) entries ∙ ap (λ (n : ℕ). record { entries = b.entries; limit = n }) limit

-- a lock that nobody made an entry under
pub none_made : (old new : History) (lock : Opened Entry) (whole : Known Entry) → lock.opening ≡ old.entries → lock.number ≡ old.limit → IsPrefix lock.opening whole.front → IsPrefix whole.front new.entries → new.limit ≡ lock.number → OwnsAll lock.opening new.entries whole.own → whole.own ≡ [] → new ≡ old
none_made old new lock whole opened number begins closes limit owns none =
    let all = prefix_trans lock.opening whole.front new.entries begins closes in
    let nothing : all.0 ≡ [] = owns_none lock.opening all.0 (subst (OwnsAll lock.opening (lock.opening ++ all.0)) none (subst (λ (h : List Entry). OwnsAll lock.opening h whole.own) (sym all.1) owns)) in
    let entries : new.entries ≡ old.entries = sym all.1 ∙ ap (λ (es : List Entry). lock.opening ++ es) nothing ∙ append-nil lock.opening ∙ opened in
    same_history new old entries (limit ∙ number)

-- what the jobs came to, of the ledger
pub record Closed (budget : ℕ) (works : List Work) (ends : List JobEnd) (old new : History) : Type 0 where
  pub ran : RanTogether budget works old new
  pub done : AllDone ends → AllEnded new.entries works
  pub full : (n : ℕ) → SomeFull n ends → (length new.entries ≡ n) × (old.limit ≤ n) × SomeOpen new.entries works

pub closed : Laws → (budget : ℕ) (works : List Work) (ends : List JobEnd) (old new : History) (lock : Opened Entry) (whole : Known Entry) → lock.opening ≡ old.entries → lock.number ≡ old.limit → IsPrefix lock.opening whole.front → IsPrefix whole.front new.entries → new.limit ≡ lock.number
    → OwnsAll lock.opening new.entries whole.own → DidAll lock budget works ends whole → AllNew old.entries works → Differ (jobs_of works) → Legal new.entries → (count : ℕ) → count ≡ length new.entries → count ≤ new.limit → Closed budget works ends old new
closed l budget works ends old new lock whole opened number begins closes limit owns did fresh differ legal count counted within =
    let all = prefix_trans lock.opening whole.front new.entries begins closes in
    let r : Resulted budget lock.number works ends lock.opening new.entries =
    subst (λ (h : List Entry). Resulted budget lock.number works ends lock.opening h) all.1
    (resulted l lock budget works ends whole all.0 did (subst (IsPrefix whole.front) (sym all.1) closes) (subst (λ (h : List Entry). OwnsAll lock.opening h whole.own) (sym all.1) owns) (subst (λ (h : List Entry). AllNew h works) (sym opened) fresh) differ) in
    record {
      ran = record {
        extends = subst (λ (h : List Entry). Extends (jobs_of works) h new.entries) opened r.extends;
        limit = limit ∙ number;
        legal = legal;
        ends = subst (λ (h : List Entry). AllEnds (length h) budget new.entries works) opened r.ends_are;
      };
      done = r.done;
      full = λ n some. let f = r.full n some in ((let a = f.0 in let b = f.1 in omega (arith, a, b, counted, limit, number, within)), (let k = f.1 in omega (arith, k, number)), f.2);
    }

pub on_ok : {P Q : Type 0} (r : Result (Unit {0}) LedgerError) → (P → Q) → OnOk r P → OnOk r Q
on_ok (Ok u) f p = f p
on_ok (Err e) f p = tt

pub at_some : {X : Type 0} (P : X → Type 0) {r : Option X} {x : X} → r ≡ Some x → IfSome r P → P x
at_some P is h = subst (λ (o : Option _). IfSome o P) is h

pub at_none : {X Q : Type 0} {r : Option X} → r ≡ None → IfNone r Q → Q
at_none {X} {Q} is h = subst (λ (o : Option X). IfNone o Q) is h
