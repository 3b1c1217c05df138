-- That histories of servers are true.
use Rattle.std.proofs.Common.{ℕ, ◌+◌, ◌≡◌, ◌∙◌, inl, inr, List, [], ◌∷◌, ◌++◌, append-nil, append_assoc, length, refl, subst, sym}
use Rattle.object_fields.specs.declared.key.Key.{Key}
use Rattle.cluster.specs.declared.plan.Verdict.{Verdict}
use Rattle.cluster.specs.declared.entry.Entry.{Entry}
use Rattle.cluster.specs.declared.entry.Event.TheVariants.{VerdictGiven}
use Rattle.cluster.specs.History.{state_at}
use Rattle.plan_rules.specs.Plans.{VerdictBy}
use Rattle.histories.specs.Histories.{Each}
use Rattle.histories.specs.JobRuns.{JobKept, JobStep, Run}
use Rattle.http_wire.specs.Requests.{Message}
use Rattle.api_server.specs.declared.service.Service.{Service}
use Rattle.api_server.specs.Standing.{job_for}
use Rattle.api_server.specs.Talks.{Terms}
use Rattle.api_server.specs.Serving.{IsFull, IsServed, terms_of}
use Rattle.api_server.specs.Visits.{MetLimit, OfMet, OfRuns, OfSome, OfVisit, Visit, service_of}
use Rattle.api_server.specs.declared.options.ServeOptions.{ServeOptions}
use Rattle.dra_cli.specs.Headline.{IsTrueHistory}
use Rattle.dra_cli.proofs.Truths.{HistoryLaws, SearchedBy, true_history}

-- what is said of each entry is said of one of them
each_at : (P : List Entry → Entry → Type 0) (before prefix : List Entry) (e : Entry) (back : List Entry) → Each P before (prefix ++ e ∷ back) → P (before ++ prefix) e
unfolding Each
each_at P before [] e back all = subst (λ (b : List Entry). P b e) (sym (append-nil before)) all.0
each_at P before (d ∷ prefix) e back all = subst (λ (b : List Entry). P b e) (append_assoc before (d ∷ []) prefix) (each_at P (before ++ d ∷ []) prefix e back all.1)

-- the entry is of a job whose searches look at so many items of a node's walk
record IsOfSearch (budget : ℕ) (h : List Entry) (e : Entry) : Type 0 where
  pub job : Run
  pub budget_is : job.budget ≡ budget
  pub job_is : e.job ≡ job.job
  pub kept : JobKept job h

of_runs : (s : Service) (from index : ℕ) (ms : List Message) (h : List Entry) (e : Entry) → OfRuns s from index ms h e → IsOfSearch s.budget h e
of_runs s from index [] h e of = absurd of
of_runs s from index (m ∷ ms) h e (inl of) = record { job = job_for s from index of.command; budget_is = refl; job_is = of.job_is; kept = of.run.kept }
of_runs s from index (m ∷ ms) h e (inr of) = of_runs s from (index + 1) ms h e of

of_visit : (t : Terms) (h : List Entry) (v : Visit) (e : Entry) → OfVisit t h v e → IsOfSearch t.budget h e
of_visit t h v e of = of_runs (service_of t v) v.from 1 v.ms h e of

of_met : (t : Terms) (h : List Entry) (v : Visit) (e : Entry) → OfMet t h v e → IsOfSearch t.budget h e
of_met t h v e (inl of) = of_visit t h v e of
of_met t h v e (inr (met, is)) = record { job = job_for (service_of t v) v.from (length v.ms + 1) met.command; budget_is = refl; job_is = is; kept = met.begun.kept }

of_some : (budget : ℕ) (h : List Entry) (P : Visit → Entry → Type 0) → ((v : Visit) (e : Entry) → P v e → IsOfSearch budget h e) → (vs : List Visit) (e : Entry) → OfSome P vs e → IsOfSearch budget h e
of_some budget h P each [] e of = absurd of
of_some budget h P each (v ∷ vs) e (inl of) = each v e of
of_some budget h P each (v ∷ vs) e (inr of) = of_some budget h P each vs e of

-- so each verdict is what searches within the budget return
searched_by : (budget : ℕ) (h : List Entry) (Q : Entry → Type 0) → ((e : Entry) → Q e → IsOfSearch budget h e) → Each (λ before e. Q e) [] h → SearchedBy budget h
searched_by budget h Q each all prefix back job pod verdict is =
    let e : Entry = record { job = job; event = VerdictGiven pod verdict } in
    let of : IsOfSearch budget h e = each e (each_at (λ before x. Q x) [] prefix e back (subst (λ (l : List Entry). Each (λ before x. Q x) [] l) is all)) in
    let kept : JobKept of.job (prefix ++ e ∷ back) = subst (λ (l : List Entry). JobKept of.job l) is of.kept in
    let step : JobStep of.job prefix (VerdictGiven pod verdict) = each_at (λ b x. x.job ≡ of.job.job → JobStep of.job b x.event) [] prefix e back kept of.job_is in
    subst (λ (b : ℕ). VerdictBy (state_at prefix verdict.at) pod b verdict) of.budget_is step.timed.by

pub served_true : HistoryLaws → (o : ServeOptions) (h : List Entry) (vs : List Visit) → IsServed o h vs → IsTrueHistory o.budget h
served_true laws o h vs s =
    true_history laws o.budget h s.legal
    (searched_by o.budget h (λ e. OfSome (OfVisit (terms_of o) h) vs e) (λ e of. of_some o.budget h (OfVisit (terms_of o) h) (of_visit (terms_of o) h) vs e of) s.jobs)

pub full_true : HistoryLaws → (o : ServeOptions) (h : List Entry) (vs : List Visit) → IsFull o h vs → IsTrueHistory o.budget h
full_true laws o h vs s =
    true_history laws o.budget h s.legal
    (searched_by o.budget h (λ e. OfSome (OfMet (terms_of o) h) vs e) (λ e of. of_some o.budget h (OfMet (terms_of o) h) (of_met (terms_of o) h) vs e of) s.jobs)
