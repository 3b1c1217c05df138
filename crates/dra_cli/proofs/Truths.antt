-- That histories of runs are true.
use Rattle.std.proofs.Common.{ℕ, ◌+◌, ◌≡◌, ◌∙◌, ◌⊎◌, inl, inr, List, ◌∷◌, ◌++◌, ap, append_assoc, subst, sym}
use Rattle.std.specs.Prelude.{Option, None}
use Rattle.object_fields.specs.declared.key.Key.{Key}
use Rattle.cluster.specs.declared.plan.Plan.{Plan}
use Rattle.cluster.specs.declared.plan.Verdict.{Verdict}
use Rattle.cluster.specs.Held.{HeldOnce}
use Rattle.cluster.specs.declared.entry.Command.{Command as Asked}
use Rattle.cluster.specs.declared.entry.Refusal.{Refusal}
use Rattle.cluster.specs.declared.entry.Entry.{Entry}
use Rattle.cluster.specs.declared.entry.Event.TheVariants.{Reserved, Refused, VerdictGiven, Adopted, Denied}
use Rattle.histories.specs.Alone.{NeverSetBack}
use Rattle.histories.specs.Legal.{Legal, Step}
use Rattle.api_claim.specs.declared.types.ClaimStatus.{ClaimStatus}
use Rattle.histories.specs.Denied.{MayDeny}
use Rattle.cluster.specs.History.{state_at, state_of}
use Rattle.plan_rules.specs.Plans.{VerdictBy}
use Rattle.histories.specs.Headline.{IsAdoptionOf, IsGrantOf, IsVerdictOf}
use Rattle.histories.specs.Limits.{ObjectsKept}
use Rattle.histories.specs.Users.{PodsUseClaims, UsersAreBusy}
use Rattle.commands.specs.declared.command.Command.{Command}
use Rattle.commands.specs.declared.command.Command.TheVariants.{Schedule}
use Rattle.commands.specs.declared.given.Given.{Given}
use Rattle.commands.specs.declared.given.Given.TheVariants.{One}
use Rattle.replay_core.specs.declared.options.ReplayOptions.{ReplayOptions}
use Rattle.replay_core.specs.Complete.{Scheduled}
use Rattle.replay_core.specs.Forms.{count_of}
use Rattle.replay_core.specs.Jobs.{RunOf, SegmentBegun}
use Rattle.replay_core.specs.Kubelet.{Node, node_with}
use Rattle.replay_core.specs.Replay.{Ends, EndsAt, EndsFull, EndsSo, IsLines, IsPart, IsPartLines, IsRun, IsText}
use Rattle.replay_core.specs.Script.{Ending, Long, commands_of, most_input}
use Rattle.replay_core.specs.declared.status.Status.{Status}
use Rattle.replay_core.specs.declared.status.Status.TheVariants as status
use Rattle.dra_ports.specs.DiskContent.{Content}
use Rattle.prepare_core.specs.declared.driver.DriverCall.{DriverCall}
use Rattle.dra_cli.specs.Headline.{IsTrueHistory, IsTruePart, IsTrueRun, ReplayedFull, ReplayedTo, Replays, ReplaysSo, TrueDue}
use Rattle.dra_cli.proofs.Told.{verdict_names}

abbrev GrantLaw : Type 0
GrantLaw = (prefix back : List Entry) (job : ℕ) (pod : Key) (plan : Plan) → Legal (prefix ++ record { job = job; event = Reserved pod plan } ∷ back) → IsGrantOf prefix pod plan

abbrev VerdictLaw : Type 0
VerdictLaw = (prefix back : List Entry) (job : ℕ) (pod : Key) (verdict : Verdict) → Legal (prefix ++ record { job = job; event = VerdictGiven pod verdict } ∷ back) → IsVerdictOf prefix pod verdict

abbrev BudgetLaw : Type 0
BudgetLaw = (budget : ℕ) (commands : List Given) (prefix back : List Entry) (job : ℕ) (pod : Key) (verdict : Verdict) → RunOf budget commands (prefix ++ record { job = job; event = VerdictGiven pod verdict } ∷ back)
    → VerdictBy (state_at prefix verdict.at) pod budget verdict

abbrev DenialLaw : Type 0
DenialLaw = (prefix back : List Entry) (job : ℕ) (command : Asked) (refusal : Refusal) → Legal (prefix ++ record { job = job; event = Denied command refusal } ∷ back) → MayDeny (state_of prefix) command refusal

abbrev AdoptionLaw : Type 0
AdoptionLaw = (prefix back : List Entry) (job : ℕ) (claim : Key) (status : ClaimStatus) → Legal (prefix ++ record { job = job; event = Adopted claim status } ∷ back) → IsAdoptionOf prefix claim status

abbrev StepLaw : Type 0
StepLaw = (prefix : List Entry) (e : Entry) (back : List Entry) → Legal (prefix ++ e ∷ back) → Step prefix e

abbrev HolderLaw : Type 0
HolderLaw = (h : List Entry) (place : ℕ) → Legal h → HeldOnce (state_at h place)

abbrev LimitLaw : Type 0
LimitLaw = (h : List Entry) (place : ℕ) → Legal h → ObjectsKept (state_at h place)

abbrev UserLaw : Type 0
UserLaw = (h : List Entry) (place : ℕ) → Legal h → UsersAreBusy (state_at h place)

abbrev UseLaw : Type 0
UseLaw = (h : List Entry) (place : ℕ) → Legal h → PodsUseClaims (state_at h place)

abbrev CompleteLaw : Type 0
CompleteLaw = (budget : ℕ) (prefix back : List Given) (pod : Key) (attempts : ℕ) (h : List Entry) → Legal h → RunOf budget (prefix ++ One (Schedule pod attempts) ∷ back) h → Scheduled budget prefix pod attempts h

abbrev PartLaw : Type 0
PartLaw = (budget n : ℕ) (commands : List Given) (more : Given) (before segment prefix back : List Entry) (job : ℕ) (pod : Key) (verdict : Verdict) → RunOf budget commands before → SegmentBegun n more budget before segment
    → before ++ segment ≡ prefix ++ record { job = job; event = VerdictGiven pod verdict } ∷ back → VerdictBy (state_at prefix verdict.at) pod budget verdict

abbrev PrefixLaw : Type 0
PrefixLaw = (prefix back : List Entry) → Legal (prefix ++ back) → Legal prefix

abbrev UndisturbedLaw : Type 0
UndisturbedLaw = (n : ℕ) (command : Command) (budget : ℕ) (before segment : List Entry) → Legal (before ++ segment) → SegmentBegun n (One command) budget before segment → NeverSetBack (n + 1) (before ++ segment)

-- what is used of the lower crates, of each history
pub record HistoryLaws : Type 0 where
  pub grants : GrantLaw
  pub verdicts : VerdictLaw
  pub steps : StepLaw
  pub adoptions : AdoptionLaw
  pub denials : DenialLaw
  pub holders : HolderLaw
  pub limits : LimitLaw
  pub users : UserLaw
  pub uses : UseLaw

-- and of runs
pub record Laws : Type 0 where
  pub history : HistoryLaws
  pub budgets : BudgetLaw
  pub part_budgets : PartLaw
  pub prefix : PrefixLaw
  pub complete : CompleteLaw
  pub undisturbed : UndisturbedLaw

-- each verdict of the history is what searches within the budget return
abbrev pub SearchedBy : ℕ → List Entry → Type 0
SearchedBy budget h = (prefix back : List Entry) (job : ℕ) (pod : Key) (verdict : Verdict) → h ≡ prefix ++ record { job = job; event = VerdictGiven pod verdict } ∷ back → VerdictBy (state_at prefix verdict.at) pod budget verdict

pub true_history : HistoryLaws → (budget : ℕ) (h : List Entry) → Legal h → SearchedBy budget h → IsTrueHistory budget h
true_history laws budget h legal searched = record {
  grants = λ prefix back job pod plan e. laws.grants prefix back job pod plan (subst (λ (x : List Entry). Legal x) e legal);
  verdicts = λ prefix back job pod verdict e. laws.verdicts prefix back job pod verdict (subst (λ (x : List Entry). Legal x) e legal);
  budgets = λ prefix back job pod verdict e. verdict_names (state_at prefix verdict.at) pod budget verdict (searched prefix back job pod verdict e);
  refusals = λ prefix back job pod plan why e. (laws.steps prefix (record { job = job; event = Refused pod plan why }) back (subst (λ (x : List Entry). Legal x) e legal)).follows;
  adoptions = λ prefix back job claim status e. laws.adoptions prefix back job claim status (subst (λ (x : List Entry). Legal x) e legal);
  denials = λ prefix back job command refusal e. laws.denials prefix back job command refusal (subst (λ (x : List Entry). Legal x) e legal);
  holders = λ place. laws.holders h place legal;
  limits = λ place. laws.limits h place legal;
  users = λ place. laws.users h place legal;
  uses = λ place. laws.uses h place legal;
}

-- the run of commands
pub true_run : Laws → (options : ReplayOptions) (done : List (ℕ × Given)) (h : List Entry) → IsRun options done h → IsTrueRun options done h
true_run laws options done h r = record {
  history = true_history laws.history options.budget h r.legal
      (λ prefix back job pod verdict e. laws.budgets options.budget (commands_of done) prefix back job pod verdict (subst (λ (x : List Entry). RunOf options.budget (commands_of done) x) e r.run));
  schedules = λ prefix back pod attempts e. laws.complete options.budget prefix back pod attempts h r.legal (subst (λ (cs : List Given). RunOf options.budget cs h) e r.run);
}

-- more entries after those of a Schedule
scheduled_past : (budget : ℕ) (prefix : List Given) (pod : Key) (attempts : ℕ) (before more h : List Entry) → h ≡ before ++ more → Scheduled budget prefix pod attempts before → Scheduled budget prefix pod attempts h
scheduled_past budget prefix pod attempts before more h is s = record {
  before = s.before;
  segment = s.segment;
  rest = s.rest ++ more;
  is = is ∙ ap (λ (l : List Entry). l ++ more) s.is ∙ append_assoc (s.before ++ s.segment) s.rest more;
  earlier = s.earlier;
  run = s.run;
  undisturbed = s.undisturbed;
  complete = s.complete;
}

-- and then a part of one more
pub true_part : Laws → (options : ReplayOptions) (done : List (ℕ × Given)) (c : Given) (h : List Entry) → IsPart options done c h → IsTruePart options done c h
true_part laws options done c h p =
    let n : ℕ = count_of (commands_of done) in
    let legal : Legal (p.before ++ p.segment) = subst (λ (x : List Entry). Legal x) p.is p.legal in
    record {
      run = record {
        history = true_history laws.history options.budget h p.legal
            (λ prefix back job pod verdict e. laws.part_budgets options.budget n (commands_of done) c p.before p.segment prefix back job pod verdict p.run p.begun (sym p.is ∙ e));
        schedules = λ prefix back pod attempts e.
            scheduled_past options.budget prefix pod attempts p.before p.segment h p.is
            (laws.complete options.budget prefix back pod attempts p.before (laws.prefix p.before p.segment legal) (subst (λ (cs : List Given). RunOf options.budget cs p.before) e p.run));
      };
      undisturbed = λ pod attempts e.
          subst (λ (x : List Entry). NeverSetBack (n + 1) x) (sym p.is)
          (laws.undisturbed n (Schedule pod attempts) options.budget p.before p.segment legal (subst (λ (g : Given). SegmentBegun n g options.budget p.before p.segment) e p.begun));
    }

-- ---- by status

abbrev pub RunTruth : Type 0
RunTruth = (options : ReplayOptions) (done : List (ℕ × Given)) (h : List Entry) → IsRun options done h → IsTrueRun options done h

abbrev pub PartTruth : Type 0
PartTruth = (options : ReplayOptions) (done : List (ℕ × Given)) (c : Given) (h : List Entry) → IsPart options done c h → IsTruePart options done c h

module _ (truth : RunTruth) (part : PartTruth) (options : ReplayOptions) (left left_now before after : Option (List ℕ)) (found now : Node) where
  to : (ending : Ending) → EndsAt options ending left before after found now → ReplayedTo options ending left before after found now
  to ending e = record { ends = e; run = truth options e.done e.history e.so.run }

  -- the limit of the history, or that of the input
  limit : (count : ℕ) → EndsFull options count left before after found now ⊎ ((count ≡ most_input) × EndsAt options Long left before after found now)
      → ReplayedFull options count left before after found now ⊎ ((count ≡ most_input) × ReplayedTo options Long left before after found now)
  limit count (inl e) = inl (record { ends = e; part = part options e.done e.command e.history e.part })
  limit count (inr e) = inr (e.0, to Long e.1)

  due : (between : Node) (text : List ℕ) (d : IsLines options left found between text ⊎ (IsPartLines options left found between text ⊎ IsText options left found between text)) → TrueDue options left found between text d
  due between text (inl lines) = truth options lines.done lines.history lines.so.run
  due between text (inr (inl p)) = part options p.done p.command p.history p.part
  due between text (inr (inr whole)) = truth options whole.done whole.history whole.so.run

  replays : (s : Status) → Ends options left left_now before after found now s → Replays options left left_now before after found now s
  replays status.Done e = record { ends = e; run = truth options e.done e.history e.so.run }
  replays status.Usage e = e
  replays (status.Document at why) e = to _ e
  replays status.Memory e = record { ends = e; due = due e.between e.text e.due }
  replays status.Read e = record { ends = e; run = truth options e.done e.history e.so.run }
  replays status.Write e = record { ends = e; due = due e.ends.between e.ends.text e.ends.due }
  replays status.Disk e = record { ends = e; run = truth options e.done e.history e.so.run }
  replays (status.Limit count) e = limit count e
  replays (status.Checkpoint at) e = record { ends = e; run = truth options e.ends.done e.ends.history e.ends.so.run }
  replays status.Door e = e

pub replays_so : RunTruth → PartTruth → (options : ReplayOptions) (left left_now before after : Option (List ℕ)) (disk disk_now : Option Content) (calls calls_now : Option (List DriverCall)) (faults faults_now : ℕ) (s : Status)
    → EndsSo options left left_now before after disk disk_now calls calls_now faults faults_now s → ReplaysSo options left left_now before after disk disk_now calls calls_now faults faults_now s
replays_so truth part options left left_now before after disk disk_now calls calls_now faults faults_now s e = record {
  table = e.table;
  so = replays truth part options left left_now before after (node_with None disk calls faults) (node_with e.table disk_now calls_now faults_now) s e.ends;
}
