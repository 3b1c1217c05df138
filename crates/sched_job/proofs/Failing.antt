-- The first failure among the ends of jobs.
use Rattle.std.proofs.Common.{ℕ, zero, suc, ◌≡◌, ◌+◌, ◌<◌, inl, inr, List, [], ◌∷◌, drop, get_or, length, sym, subst, arith, Result, Ok, Err, OnOk, IsErrOf}
use Rattle.std.proofs.lemmas.List.{drop_more}
use Rattle.sched_job.specs.Ledgers.{LedgerError}
use Rattle.sched_job.specs.Ledgers.ledger_error as error
use Rattle.sched_job.specs.declared.run.JobEnd.{JobEnd}
use Rattle.sched_job.specs.declared.run.JobEnd.TheVariants as job_end
use Rattle.sched_job.specs.Together.{AllDone, IsDone, SomeFull}

-- what is known of the failure among the ends before an index
abbrev pub FailsSo : List JobEnd → ℕ → Result (Unit {0}) LedgerError → Type 0
FailsSo xs i r = OnOk r (AllDone (drop i xs) → AllDone xs) × ((n : ℕ) → IsErrOf r (error.Full n) → SomeFull n xs)

done_step : (xs : List JobEnd) (i k : ℕ) (d : JobEnd) → i < length xs → get_or xs i d ≡ job_end.Ended k → AllDone (drop (i + 1) xs) → AllDone (drop i xs)
done_step xs i k d lt is rest = subst AllDone (sym (drop_more xs i d lt)) (subst IsDone (sym is) tt, rest)

full_at : (xs : List JobEnd) (i n : ℕ) (d : JobEnd) → i < length xs → get_or xs i d ≡ job_end.Full n → SomeFull n xs
full_at [] i n d lt is = absurd (omega arith)
full_at (x ∷ xs) zero n d lt is = inl is
full_at (x ∷ xs) (suc i) n d lt is = inr (full_at xs i n d (omega arith) is)

so_far : (xs : List JobEnd) (i k : ℕ) (d : JobEnd) (r : Result (Unit {0}) LedgerError) → i < length xs → get_or xs i d ≡ job_end.Ended k → FailsSo xs i r → FailsSo xs (i + 1) r
so_far xs i k d (Ok u) lt is so = (λ rest. so.0 (done_step xs i k d lt is rest), so.1)
so_far xs i k d (Err e) lt is so = (tt, so.1)

pub ended_next : (xs : List JobEnd) (i k : ℕ) (d : JobEnd) (r r' : Result (Unit {0}) LedgerError) → i < length xs → get_or xs i d ≡ job_end.Ended k → r' ≡ r → FailsSo xs i r → FailsSo xs (i + 1) r'
ended_next xs i k d r r' lt is same so = subst (FailsSo xs (i + 1)) (sym same) (so_far xs i k d r lt is so)

pub full_next : (xs : List JobEnd) (i count : ℕ) (d : JobEnd) (r' : Result (Unit {0}) LedgerError) → i < length xs → get_or xs i d ≡ job_end.Full count → r' ≡ Err (error.Full count) → FailsSo xs (i + 1) r'
full_next xs i count d r' lt is now =
    subst (FailsSo xs (i + 1)) (sym now) (tt, λ n e. let same : count ≡ n = cc in subst (λ (m : ℕ). SomeFull m xs) same (full_at xs i count d lt is))
