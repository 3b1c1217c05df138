-- One command more.
use Rattle.std.proofs.Common.{ℕ, ◌+◌, ◌^◌, ◌<◌, ◌≤◌, ◌≡◌, ◌∙◌, false, List, [], ◌∷◌, ◌++◌, length, refl, sym, ap, subst, arith, append_assoc, append-nil, length-append}
use Rattle.std.proofs.lemmas.List.{append_cancel_left}
use Rattle.std.specs.Prelude.{Option, None}
use Rattle.cluster.specs.declared.entry.Entry.{Entry}
use Rattle.sched_job.specs.Ledgers.{History}
use Rattle.cluster.specs.declared.entry.JobState.TheVariants.{Fresh}
use Rattle.cluster.specs.History.{job_state_of}
use Rattle.commands.specs.declared.given.Given.{Given}
use Rattle.commands.specs.declared.given.Given.TheVariants as given
use Rattle.pod_prepare.specs.Words.{TellsStill}
use Rattle.replay_core.specs.declared.work.Work.{Work}
use Rattle.replay_core.specs.Script.{at_each, commands_of}
use Rattle.replay_core.specs.declared.options.ReplayOptions.{ReplayOptions}
use Rattle.replay_core.specs.Forms.{count_of, is_of_kubelet, kubelet_count, members, width}
use Rattle.replay_core.specs.Jobs.{AllOwn, RunFrom, RunOf, SegmentRun}
use Rattle.replay_core.specs.Kubelet.{IsShown, Node}
use Rattle.replay_core.specs.Lines.{Did, RanNext, ShownNext}
use Rattle.replay_core.specs.Replay.{IsDone, IsRun}
use Rattle.replay_core.specs.Progress.{IsReady, IsSound, Standing}
use Rattle.replay_core.specs.Turns.{StandsOn}
use Rattle.replay_core.proofs.Counting.{StandLaw, jobs_few, own_only}
use Rattle.replay_core.proofs.Known.{appends_more}
use Rattle.replay_core.proofs.Scripts.{at_each_joined}
use Rattle.replay_core.proofs.Showing.{shown_more, untouched_more}

RunFrom-more : (b n : ℕ) (before : List Entry) (cs : List Given) (mid : List Entry) (c : Given) (seg : List Entry)
    → RunFrom b n before cs mid → SegmentRun (n + count_of cs) c b mid seg → RunFrom b n before (cs ++ c ∷ []) (mid ++ seg)
unfolding RunFrom
RunFrom-more b n before [] mid c seg is run =
    let eq : n + 0 ≡ n = omega arith in
    (seg, subst (λ (h : List Entry). SegmentRun n c b h seg) is (subst (λ (k : ℕ). SegmentRun k c b mid seg) eq run), ap (λ (h : List Entry). h ++ seg) is)
RunFrom-more b n before (d ∷ ds) mid c seg r run =
    let eq : n + count_of (d ∷ ds) ≡ n + width d + count_of ds = omega arith in
    (r.0, r.1, RunFrom-more b (n + width d) (before ++ r.0) ds mid c seg r.2 (subst (λ (k : ℕ). SegmentRun k c b mid seg) eq run))

-- ---- commands and their counts

pub commands_joined : (done more : List (ℕ × Given)) → commands_of (done ++ more) ≡ commands_of done ++ commands_of more
commands_joined [] more = refl
commands_joined (d ∷ ds) more = ap (λ (l : List Given). d.1 ∷ l) (commands_joined ds more)

commands_more : (done : List (ℕ × Given)) (at : ℕ) (c : Given) → commands_of (done ++ (at, c) ∷ []) ≡ commands_of done ++ c ∷ []
commands_more done at c = commands_joined done ((at, c) ∷ [])

pub commands_each : (at : ℕ) (cs : List Given) → commands_of (at_each at cs) ≡ cs
commands_each at [] = refl
commands_each at (c ∷ cs) = ap (λ (l : List Given). c ∷ l) (commands_each at cs)

count_joined : (gs : List Given) (c : Given) → count_of (gs ++ c ∷ []) ≡ count_of gs + width c
count_joined [] c = omega arith
count_joined (g ∷ gs) c = omega (arith, count_joined gs c)

count_more : (done : List (ℕ × Given)) (at : ℕ) (c : Given) → count_of (commands_of (done ++ (at, c) ∷ [])) ≡ count_of (commands_of done) + width c
count_more done at c = ap count_of (commands_more done at c) ∙ count_joined (commands_of done) c

pub kubelet_joined : (gs hs : List Given) → kubelet_count (gs ++ hs) ≡ kubelet_count gs + kubelet_count hs
kubelet_joined [] hs = omega arith
kubelet_joined (g ∷ gs) hs = omega (arith, kubelet_joined gs hs)

kubelet_more : (done : List (ℕ × Given)) (at : ℕ) (c : Given) → kubelet_count (commands_of (done ++ (at, c) ∷ [])) ≡ kubelet_count (commands_of done) + kubelet_count (c ∷ [])
kubelet_more done at c = ap kubelet_count (commands_more done at c) ∙ kubelet_joined (commands_of done) (c ∷ [])

-- each command is one of the kubelet, or jobs
width_few : (g : Given) → length (members g) ≤ width g
width_few (given.One c) = omega arith
width_few (given.Together cs) = omega arith
width_few (given.Prepare pod) = omega arith
width_few (given.Unprepare pod) = omega arith
width_few given.Reopen = omega arith

width_is : (g : Given) → width g ≡ length (members g) + kubelet_count (g ∷ [])
width_is (given.One c) = omega arith
width_is (given.Together cs) = omega arith
width_is (given.Prepare pod) = omega arith
width_is (given.Unprepare pod) = omega arith
width_is given.Reopen = omega arith

-- where none is of the kubelet
none_here : (c : Given) → kubelet_count (c ∷ []) ≡ 0 → is_of_kubelet c ≡ false
none_here (given.One c) none = refl
none_here (given.Together cs) none = refl
none_here (given.Prepare pod) none = absurd (cc)
none_here (given.Unprepare pod) none = absurd (cc)
none_here given.Reopen none = absurd (cc)

pub none_among : (gs prefix : List Given) (c : Given) (back : List Given) → gs ≡ prefix ++ c ∷ back → kubelet_count gs ≡ 0 → (kubelet_count prefix ≡ 0) × (is_of_kubelet c ≡ false)
none_among gs prefix c back are none =
    let first : kubelet_count gs ≡ kubelet_count prefix + kubelet_count (c ∷ back) = ap kubelet_count are ∙ kubelet_joined prefix (c ∷ back) in
    let second : kubelet_count (c ∷ back) ≡ kubelet_count (c ∷ []) + kubelet_count back = kubelet_joined (c ∷ []) back in
    (omega (arith, none, first), none_here c (omega (arith, none, first, second)))

-- entries of some jobs are of so many more
own_wide : (n a b : ℕ) (es : List Entry) → a ≤ b → AllOwn n a es → AllOwn n b es
unfolding AllOwn
own_wide n a b [] less own = tt
own_wide n a b (e ∷ es) less own = (own.0, omega (arith, less, own.1), own_wide n a b es less own.2)

-- ---- the history

-- the run of one command more
RunOf-more : (b : ℕ) (done : List (ℕ × Given)) (mid : List Entry) (at : ℕ) (c : Given) (seg : List Entry) (n : ℕ) → n ≡ count_of (commands_of done)
    → RunOf b (commands_of done) mid → SegmentRun n c b mid seg → RunOf b (commands_of (done ++ (at, c) ∷ [])) (mid ++ seg)
unfolding RunOf
RunOf-more b done mid at c seg n is run segment =
    let eq : n ≡ 0 + count_of (commands_of done) = omega (arith, is) in
    subst (λ (cs : List Given). RunFrom b 0 [] cs (mid ++ seg)) (sym (commands_more done at c))
    (RunFrom-more b 0 [] (commands_of done) mid c seg run (subst (λ (k : ℕ). SegmentRun k c b mid seg) eq segment))

grown_by : (options : ReplayOptions) (c : Given) (old new : Work) → (ran : RanNext options c old new) → new.ledger.entries ≡ old.ledger.entries ++ ran.segment
grown_by options c old new ran = ap (λ (h : History). h.entries) ran.is

limit_kept : (options : ReplayOptions) (c : Given) (old new : Work) → (ran : RanNext options c old new) → new.ledger.limit ≡ old.ledger.limit
limit_kept options c old new ran = ap (λ (h : History). h.limit) ran.is

-- the history of one command more
run_more : (options : ReplayOptions) (done : List (ℕ × Given)) (at : ℕ) (c : Given) (old new : Work) → IsRun options done old.ledger.entries → old.commands ≡ count_of (commands_of done) → old.ledger.limit ≡ options.entries → IsSound new.ledger
    → RanNext options c old new → IsRun options (done ++ (at, c) ∷ []) new.ledger.entries
run_more options done at c old new run count same sound ran =
    record {
      within = omega (arith, limit_kept options c old new ran, same, sound.within);
      legal = sound.legal;
      run = subst (λ (h : List Entry). RunOf options.budget (commands_of (done ++ (at, c) ∷ [])) h) (sym (grown_by options c old new ran))
          (RunOf-more options.budget done old.ledger.entries at c ran.segment old.commands count run.run ran.run);
    }

-- one command more was done, and what it shows comes after what the others show
pub done_more : (options : ReplayOptions) (found x y : Node) (done : List (ℕ × Given)) (at : ℕ) (c : Given) (old new : Work) (text next : List ℕ) → IsDone options found x done old.ledger.entries text → TellsStill found.content x.content
    → (x.table ≡ None → x.content ≡ found.content) → old.commands ≡ count_of (commands_of done) → old.ledger.limit ≡ options.entries → IsSound new.ledger → RanNext options c old new → ShownNext options c old new x y next
    → IsDone options found y (done ++ (at, c) ∷ []) new.ledger.entries (text ++ next)
done_more options found x y done at c old new text next so still untouched count limit sound ran shown =
    let same : ran.segment ≡ shown.segment = append_cancel_left old.ledger.entries ran.segment shown.segment (sym (grown_by options c old new ran) ∙ shown.grown) in
    let own : AllOwn old.commands (width c) shown.segment =
    subst (λ (es : List Entry). AllOwn old.commands (width c) es) same (own_wide old.commands (length (members c)) (width c) ran.segment (width_few c) ran.run.own) in
    record {
      run = run_more options done at c old new so.run count limit sound ran;
      shown = subst (λ (h : List Entry). IsShown options.node found y (commands_of (done ++ (at, c) ∷ [])) h (text ++ next)) (sym shown.grown)
          (subst (λ (gs : List Given). IsShown options.node found y gs (old.ledger.entries ++ shown.segment) (text ++ next)) (sym (commands_more done at c))
          (shown_more options found x y (commands_of done) old.ledger.entries shown.segment c old.commands text next count own so.shown still untouched shown.by));
    }

-- ---- what may be done next

fresh_more : StandLaw → (options : ReplayOptions) (c : Given) (old new : Work) → ((job : ℕ) → old.commands < job → job_state_of old.ledger.entries job ≡ Fresh) → RanNext options c old new → new.commands ≡ old.commands + width c
    → (job : ℕ) → new.commands < job → job_state_of new.ledger.entries job ≡ Fresh
fresh_more stands options c old new fresh ran counted job above =
    ap (λ (h : List Entry). job_state_of h job) (grown_by options c old new ran)
    ∙ own_only stands old.commands (length (members c)) old.ledger.entries ran.segment job (omega (arith, counted, width_few c, above)) ran.run.own
    ∙ fresh job (omega (arith, counted, above))

few_more : StandLaw → (options : ReplayOptions) (c : Given) (old new : Work) (without : ℕ) → ((job : ℕ) → old.commands < job → job_state_of old.ledger.entries job ≡ Fresh) → RanNext options c old new → new.commands ≡ old.commands + width c
    → old.commands ≤ length old.ledger.entries + without → new.commands ≤ length new.ledger.entries + (without + kubelet_count (c ∷ []))
few_more stands options c old new without fresh ran counted few =
    let some = jobs_few stands options.budget old.commands old.ledger.entries (members c) ran.segment fresh ran.run.run in
    let longer : length new.ledger.entries ≡ length old.ledger.entries + length ran.segment = ap (λ (h : List Entry). length h) (grown_by options c old new ran) ∙ length-append old.ledger.entries ran.segment in
    omega (arith, counted, few, width_is c, some, longer)

-- after a command the next may be done
pub ready_more : StandLaw → (options : ReplayOptions) (c : Given) (rest : List Given) (old new : Work) (x y : Node) (before after : Option (List ℕ)) → IsReady old (kubelet_count (c ∷ rest)) → Did options c old new x y before after → IsSound new.ledger
    → IsReady new (kubelet_count rest)
ready_more stands options c rest old new x y before after r did sound =
    record {
      fresh = fresh_more stands options c old new r.fresh did.ran did.counted;
      without = r.without + kubelet_count (c ∷ []);
      few = few_more stands options c old new r.without r.fresh did.ran did.counted r.few;
      room = omega (arith, r.room, kubelet_joined (c ∷ []) rest);
      sound = sound.within;
      small = subst (λ (n : ℕ). n < 2 ^ 48) (sym (limit_kept options c old new did.ran)) r.small;
    }

-- what may be done more of may be done less
pub ready_fewer : (work : Work) (more fewer : ℕ) → fewer ≤ more → IsReady work more → IsReady work fewer
ready_fewer work more fewer less r = record { fresh = r.fresh; without = r.without; few = r.few; room = omega (arith, r.room, less); sound = r.sound; small = r.small }

-- the first of some commands may be done
pub ready_first : (work : Work) (c : Given) (rest : List Given) → IsReady work (kubelet_count (c ∷ rest)) → IsReady work (kubelet_count (c ∷ []))
ready_first work c rest r = ready_fewer work (kubelet_count (c ∷ rest)) (kubelet_count (c ∷ [])) (omega (arith, kubelet_joined (c ∷ []) rest)) r

-- ---- what was done

-- one command more was done
pub standing_more : StandLaw → (options : ReplayOptions) (found x y : Node) (before now next : Option (List ℕ)) (done : List (ℕ × Given)) (at : ℕ) (c : Given) (old new : Work)
    → Standing options found x before now done old → Did options c old new x y now next → IsSound new.ledger → Standing options found y before next (done ++ (at, c) ∷ []) new
standing_more stands options found x y before now next done at c old new s did sound =
    let so = done_more options found x y done at c old new s.text did.text (record { run = s.run; shown = s.shown }) s.still s.untouched s.count_is s.limit_is sound did.ran did.shown in
    record {
      run = so.run;
      text = s.text ++ did.text;
      shown = so.shown;
      still = did.shown.by.still ∙ s.still;
      untouched = untouched_more options found x y old.ledger.entries did.shown.segment c old.commands did.text s.untouched did.shown.by;
      count_is = omega (arith, did.counted, s.count_is, count_more done at c);
      fresh = fresh_more stands options c old new s.fresh did.ran did.counted;
      few = subst (λ (k : ℕ). new.commands ≤ length new.ledger.entries + k) (sym (kubelet_more done at c)) (few_more stands options c old new (kubelet_count (commands_of done)) s.fresh did.ran did.counted s.few);
      small = subst (λ (n : ℕ). n < 2 ^ 48) (sym (limit_kept options c old new did.ran)) s.small;
      printed = appends_more before now next s.text did.text s.printed did.printed;
      limit_is = limit_kept options c old new did.ran ∙ s.limit_is;
    }

-- nothing was done yet
pub stands_first : (options : ReplayOptions) (old : Work) (x : Node) (before : Option (List ℕ)) → StandsOn options [] old old x x before before
stands_first options old x before = record {
  standing = λ found start done s. subst (λ (l : List (ℕ × Given)). Standing options found x start before l old) (sym (append-nil done)) s;
}

-- and then one command more
pub stands_more : StandLaw → (options : ReplayOptions) (at : ℕ) (prefix : List Given) (c : Given) (old mid new : Work) (x y z : Node) (before now next : Option (List ℕ))
    → StandsOn options (at_each at prefix) old mid x y before now → Did options c mid new y z now next → IsSound new.ledger → StandsOn options (at_each at (prefix ++ c ∷ [])) old new x z before next
stands_more stands options at prefix c old mid new x y z before now next on did sound = record {
  standing = λ found start done s.
      let regrouped : (done ++ at_each at prefix) ++ (at, c) ∷ [] ≡ done ++ at_each at (prefix ++ c ∷ []) =
      append_assoc done (at_each at prefix) ((at, c) ∷ []) ∙ ap (λ (l : List (ℕ × Given)). done ++ l) (sym (at_each_joined at prefix (c ∷ []))) in
      subst (λ (l : List (ℕ × Given)). Standing options found z start next l new) regrouped
      (standing_more stands options found y z start now next (done ++ at_each at prefix) at c mid new (on.standing found start done s) did sound);
}
