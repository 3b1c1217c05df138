-- Each turn of a work leaves it fewer turns.
use Rattle.std.proofs.Common.{ℕ, ◌≡◌, ◌∙◌, ◌+◌, ◌*◌, ◌≤◌, ◌<◌, ◌++◌, ◌⊎◌, inl, inr, ⊎_elim, List, [], ◌∷◌, Bool, true, false, not, cond, Option, None, Some, length, map, find, refl, sym, ap, subst, arith}
use Rattle.std.specs.BTreeMap.{is_at}
use Rattle.std.specs.List.{list_any}
use Rattle.object_fields.specs.declared.key.Key.{Key}
use Rattle.api_claim.specs.Limits.{EachOf}
use Rattle.api_cluster.specs.Limits.{PodKept}
use Rattle.api_cluster.specs.declared.types.PodResourceClaim.{PodResourceClaim}
use Rattle.pool_view.specs.Names.{at_key, key_cmp, key_eq}
use Rattle.cluster.specs.declared.entry.Entry.{Entry}
use Rattle.cluster.specs.declared.entry.Event.{Event}
use Rattle.cluster.specs.declared.entry.Event.TheVariants.{Applied, Deleted, Reserved, Refused, Wrote, Conflict, Unreserved, Bound, VerdictGiven, Contended, Released, Adopted, Denied}
use Rattle.cluster.specs.declared.entry.JobState.{JobState}
use Rattle.cluster.specs.declared.entry.JobState.TheVariants as job_state
use Rattle.cluster.specs.declared.state.ClaimState.{ClaimState}
use Rattle.cluster.specs.declared.state.PodState.{PodState}
use Rattle.cluster.specs.declared.state.State.{State}
use Rattle.cluster.specs.declared.state.Use.{Use}
use Rattle.cluster.specs.declared.state.Use.TheVariants.{Assumed, Written}
use Rattle.cluster.specs.Claims.{claim_keys, first_places}
use Rattle.cluster.specs.Events.{after, allows, job_state_after}
use Rattle.cluster.specs.History.{state_of, job_state_of}
use Rattle.cluster.specs.JobState.{failures}
use Rattle.cluster.specs.State.{claims_of, has_written, is_written, use_in}
use Rattle.cluster.specs.Tables.{changed_at}
use Rattle.cluster.specs.Wrote.{with_written, written_by}
use Rattle.histories.specs.Conflict.{MayConflict}
use Rattle.histories.specs.Legal.{Legal, MayFollow, Step}
use Rattle.ledger_core.specs.Ledger.{History}
use Rattle.histories.specs.Limits.{ObjectsKept}
use Rattle.histories.specs.Wrote.{MayWrite}
use Rattle.commands.specs.declared.command.Command.{Command}
use Rattle.commands.specs.declared.command.Command.TheVariants.{Apply, Invalid, Delete, Schedule, Release, Adopt}
use Rattle.sched_job.specs.declared.work.Stage.{Stage}
use Rattle.sched_job.specs.declared.work.Stage.TheVariants.{Ready, Seen, Chosen}
use Rattle.sched_job.specs.declared.work.Work.{Work}
use Rattle.engine_ports.specs.declared.decision.Decision.TheVariants.{Reserve, Judge}
use Rattle.sched_job.specs.Moves.{looked, moved, move_of, stage_by, tries}
use Rattle.sched_job.specs.Runs.{IsStaged, IsTrying, Running}
use Rattle.histories.specs.JobRuns.{Run, JobStep, attempts_of, command_of, is_ended, is_schedule}
use Rattle.sched_job.specs.Steps.{OneTurn, Thought}
use Rattle.sched_job.specs.Turns.{attempts_left, left_by, most_turns, once_left, unwritten, unwritten_among, unwritten_by, waits}
use Rattle.sched_job.proofs.Growing.{Grows, job_state_own}
use Rattle.sched_job.proofs.Keys.{changed_other, changed_there, same_or_not}
use Rattle.sched_job.proofs.Runnings.{staged_some, step_is}
use Rattle.sched_job.proofs.Ending.{MovesOn, after_none, less_none, same_kept}

-- ---- uses that aren't written

first_by : (b : Bool) (n m k : ℕ) → n ≤ k → m ≤ k → cond b n (m + 1) ≤ k + 1
first_by true n m k p q = omega arith
first_by false n m k p q = omega arith

unwritten_most : (s : State) (pod : Key) (ks : List Key) → unwritten_among s pod ks ≤ length ks
unwritten_most s pod [] = omega arith
unwritten_most s pod (k ∷ ks) = let r = unwritten_most s pod ks in let f = first_by (has_written s pod k) (unwritten_among s pod ks) (unwritten_among s pod ks) (length ks) r r in omega arith

places_by : (b : Bool) (k : Key) (xs ys : List Key) (n : ℕ) → length xs ≤ n → length ys ≤ n → length (cond b xs (k ∷ ys)) ≤ n + 1
places_by true k xs ys n p q = omega arith
places_by false k xs ys n p q = omega arith

places_most : (seen ks : List Key) → length (first_places seen ks) ≤ length ks
places_most seen [] = omega arith
places_most seen (k ∷ ks) =
    let f = places_by (list_any (λ l. key_eq l k) seen) k (first_places seen ks) (first_places (k ∷ seen) ks) (length ks) (places_most seen ks) (places_most (k ∷ seen) ks) in omega arith

mapped : (f : PodResourceClaim → Key) (xs : List PodResourceClaim) → length (map f xs) ≡ length xs
mapped f [] = refl
mapped f (x ∷ xs) = let r = mapped f xs in omega arith

-- a pod within its limits has at most 32
claims_most : (p : PodState) → PodKept p.pod.object → length (claims_of p) ≤ 32
claims_most p kept =
    let f = places_most [] (claim_keys p.pod.object) in
    let l = kept.claims in
    let m : length (claim_keys p.pod.object) ≡ length p.pod.object.claims = mapped (λ c. record { namespace = p.pod.object.key.namespace; name = c.claim }) p.pod.object.claims in
    omega arith

few_by : (s : State) (pod : Key) (o : Option PodState) → ((p : PodState) → o ≡ Some p → PodKept p.pod.object) → unwritten_by s pod o ≤ 32
few_by s pod None kept = omega arith
few_by s pod (Some p) kept = let a = unwritten_most s pod (claims_of p) in let b = claims_most p (kept p refl) in omega arith

here_by : (b : Bool) (v w : PodState) (o : Option PodState) → cond b (Some v) o ≡ Some w → PodKept v.pod.object → (o ≡ Some w → PodKept w.pod.object) → PodKept w.pod.object
here_by true v w o e here later = let same : v ≡ w = cc in subst (λ (x : PodState). PodKept x.pod.object) same here
here_by false v w o e here later = later e

pod_at : (pods : List (Key × PodState)) (k : Key) (p : PodState) → EachOf (λ e. PodKept e.1.pod.object) pods → at_key pods k ≡ Some p → PodKept p.pod.object
pod_at [] k p each there = absurd cc
pod_at (e ∷ es) k p each there = here_by (is_at (key_cmp k) e.0) e.1 p (at_key es k) there each.0 (λ later. pod_at es k p each.1 later)

few : (s : State) (pod : Key) → ObjectsKept s → unwritten s pod ≤ 32
few s pod kept = few_by s pod (at_key s.pods pod) (λ p there. pod_at s.pods pod p kept.pods there)

-- ---- after the write of one

more_by : (b b' : Bool) (n n' : ℕ) → (b ≡ true → b' ≡ true) → n' ≤ n → cond b' n' (n' + 1) ≤ cond b n (n + 1)
more_by true true n n' f le = omega arith
more_by true false n n' f le = absurd (let x = f refl in cc)
more_by false true n n' f le = omega arith
more_by false false n n' f le = omega arith

pub unwritten_fewer : (s s' : State) (pod : Key) (ks : List Key) → ((k : Key) → has_written s pod k ≡ true → has_written s' pod k ≡ true) → unwritten_among s' pod ks ≤ unwritten_among s pod ks
unwritten_fewer s s' pod [] more = omega arith
unwritten_fewer s s' pod (k ∷ ks) more = more_by (has_written s pod k) (has_written s' pod k) (unwritten_among s pod ks) (unwritten_among s' pod ks) (more k) (unwritten_fewer s s' pod ks more)

less_by : (s' : State) (pod : Key) (b b' : Bool) (n n' : ℕ) (k x : Key) (o : Option Key) → (b ≡ true → b' ≡ true) → has_written s' pod k ≡ b' → n' ≤ n → cond (not b) (Some k) o ≡ Some x → has_written s' pod x ≡ true → (o ≡ Some x → n' < n) → cond b' n' (n' + 1) < cond b n (n + 1)
less_by s' pod true true n n' k x o f is le e now later = let l = later e in omega arith
less_by s' pod true false n n' k x o f is le e now later = absurd (let y = f refl in cc)
less_by s' pod false true n n' k x o f is le e now later = omega arith
less_by s' pod false false n n' k x o f is le e now later = absurd (let same : k ≡ x = cc in let y : has_written s' pod x ≡ false = subst (λ z. has_written s' pod z ≡ false) same is in cc)

unwritten_less : (s s' : State) (pod : Key) (ks : List Key) (x : Key) → ((k : Key) → has_written s pod k ≡ true → has_written s' pod k ≡ true) → find (λ k. not (has_written s pod k)) ks ≡ Some x → has_written s' pod x ≡ true
    → unwritten_among s' pod ks < unwritten_among s pod ks
unwritten_less s s' pod [] x more e now = absurd cc
unwritten_less s s' pod (k ∷ ks) x more e now =
    less_by s' pod (has_written s pod k) (has_written s' pod k) (unwritten_among s pod ks) (unwritten_among s' pod ks) k x (find (λ k. not (has_written s pod k)) ks) (more k) refl (unwritten_fewer s s' pod ks more) e now
    (λ f. unwritten_less s s' pod ks x more f now)

some_left : (s : State) (pod : Key) (ks : List Key) (x : Key) → find (λ k. not (has_written s pod k)) ks ≡ Some x → 0 < unwritten_among s pod ks
some_left s pod [] x e = absurd cc
some_left s pod (k ∷ ks) x e = pick (has_written s pod k) refl e (λ f. some_left s pod ks x f)
  where
    pick : (b : Bool) → has_written s pod k ≡ b → cond (not b) (Some k) (find (λ k. not (has_written s pod k)) ks) ≡ Some x → (find (λ k. not (has_written s pod k)) ks ≡ Some x → 0 < unwritten_among s pod ks)
        → 0 < cond b (unwritten_among s pod ks) (unwritten_among s pod ks + 1)
    pick true t f later = later f
    pick false t f later = omega arith

abbrev Users : Type 0
Users = List (Key × Use)

written_in : (users : Users) (pod : Key) (o : Option Use) → at_key users pod ≡ o → is_written o ≡ true → is_written (at_key (changed_at pod (λ (u : Use). Written) users) pod) ≡ true
written_in users pod None is e = absurd cc
written_in users pod (Some u) is e = ap is_written (changed_there pod (λ (u : Use). Written) users u is)

assumed_in : (users : Users) (pod : Key) (had : ℕ) → at_key users pod ≡ Some (Assumed had) → is_written (at_key (changed_at pod (λ (u : Use). Written) users) pod) ≡ true
assumed_in users pod had is = ap is_written (changed_there pod (λ (u : Use). Written) users (Assumed had) is)

kept_by : (s : State) (index : ℕ) (pod claim : Key) (o : Option ClaimState) → at_key s.claims claim ≡ o → is_written (use_in pod o) ≡ true → has_written (with_written index pod claim s) pod claim ≡ true
kept_by s index pod claim None is e = absurd cc
kept_by s index pod claim (Some c) is e =
    ap (λ (x : Option ClaimState). is_written (use_in pod x)) (changed_there claim (written_by index pod) s.claims c is) ∙ written_in c.users pod (at_key c.users pod) refl e

-- a use that is written stays so
written_more : (s : State) (index : ℕ) (pod claim k : Key) → has_written s pod k ≡ true → has_written (with_written index pod claim s) pod k ≡ true
written_more s index pod claim k e =
    ⊎_elim (λ same. subst (λ (x : Key). has_written (with_written index pod claim s) pod x ≡ true) (sym same) (kept_by s index pod claim (at_key s.claims claim) refl (subst (λ (x : Key). has_written s pod x ≡ true) same e)))
    (λ differ. ap (λ (x : Option ClaimState). is_written (use_in pod x)) (changed_other claim k (written_by index pod) s.claims differ) ∙ e) (same_or_not k claim)

now_by : (s : State) (index : ℕ) (pod claim : Key) (had : ℕ) (o : Option ClaimState) → at_key s.claims claim ≡ o → use_in pod o ≡ Some (Assumed had) → has_written (with_written index pod claim s) pod claim ≡ true
now_by s index pod claim had None is e = absurd cc
now_by s index pod claim had (Some c) is e = ap (λ (x : Option ClaimState). is_written (use_in pod x)) (changed_there claim (written_by index pod) s.claims c is) ∙ assumed_in c.users pod had e

-- the write of the next use leaves fewer
wrote_less : (s : State) (index : ℕ) (pod : Key) (job : ℕ) (claim : Key) (had : ℕ) → MayWrite s pod job claim had → unwritten (with_written index pod claim s) pod < unwritten s pod
wrote_less s index pod job claim had may =
    let there : at_key s.pods pod ≡ Some may.state = may.taken.there in
    let less = unwritten_less s (with_written index pod claim s) pod (claims_of may.state) claim (λ k e. written_more s index pod claim k e) may.next (now_by s index pod claim had (at_key s.claims claim) refl may.assumed) in
    subst (λ (o : Option PodState). unwritten_by (with_written index pod claim s) pod o < unwritten_by s pod o) (sym there) less

conflict_left : (s : State) (pod : Key) (job : ℕ) (claim : Key) (had now : ℕ) → MayConflict s pod job claim had now → 0 < unwritten s pod
conflict_left s pod job claim had now may =
    subst (λ (o : Option PodState). 0 < unwritten_by s pod o) (sym may.use_next.taken.there) (some_left s pod (claims_of may.use_next.state) claim may.use_next.next)

-- ---- an entry of the job

once_some : (st : JobState) → is_ended st ≡ false → 0 < once_left st
once_some job_state.Fresh open_yet = omega arith
once_some (job_state.Reserved k) open_yet = omega arith
once_some (job_state.Conflicted k) open_yet = omega arith
once_some (job_state.Failed k) open_yet = omega arith
once_some (job_state.Ended p) open_yet = absurd cc

-- the one of a job that isn't to schedule a pod ends it
once_ends : (attempts : ℕ) (st : JobState) (index : ℕ) (ev : Event) → is_schedule (command_of attempts ev) ≡ false → once_left (job_state_after st index ev) ≡ 0
once_ends attempts st index (Applied object mode) e = refl
once_ends attempts st index (Deleted target) e = refl
once_ends attempts st index (Reserved pod plan) e = absurd cc
once_ends attempts st index (Refused pod plan why) e = absurd cc
once_ends attempts st index (Wrote pod claim seen) e = absurd cc
once_ends attempts st index (Conflict pod claim had now) e = absurd cc
once_ends attempts st index (Unreserved pod) e = absurd cc
once_ends attempts st index (Bound pod node) e = refl
once_ends attempts st index (VerdictGiven pod verdict) e = refl
once_ends attempts st index (Contended pod failed) e = refl
once_ends attempts st index (Released pod) e = refl
once_ends attempts st index (Adopted claim status) e = refl
once_ends attempts st index (Denied command refusal) e = refl

pod_is : (p pod : Key) (a b : ℕ) → Schedule p a ≡ Schedule pod b → p ≡ pod
pod_is p pod a b e = cc

-- the turns that a job to schedule a pod has left after it
less_some : (c : Run) (h : List Entry) (pod : Key) (attempts index job : ℕ) (kept : Stage) (st : JobState) (ev : Event) → c.command ≡ Schedule pod attempts → job_state_of h c.job ≡ st → allows st ev ≡ true → MayFollow h job ev → JobStep c h ev
    → 0 < attempts_left (state_of h) pod attempts kept st → unwritten (after index job ev (state_of h)) pod ≤ 32
    → attempts_left (after index job ev (state_of h)) pod attempts Ready (job_state_after st index ev) < attempts_left (state_of h) pod attempts kept st
less_some c h pod attempts index job kept st (Applied object mode) cmd sd may stands k positive most = positive
less_some c h pod attempts index job kept st (Deleted target) cmd sd may stands k positive most = positive
less_some c h pod attempts index job kept job_state.Fresh (Reserved p plan) cmd sd may stands k positive most =
    let l = k.timed.try.left in let f : failures (job_state_of h c.job) ≡ 0 = ap failures sd in let n : attempts_of c.command ≡ attempts = ap attempts_of cmd in omega arith
less_some c h pod attempts index job kept (job_state.Reserved m) (Reserved p plan) cmd sd may stands k positive most = absurd cc
less_some c h pod attempts index job kept (job_state.Conflicted m) (Reserved p plan) cmd sd may stands k positive most = absurd cc
less_some c h pod attempts index job kept (job_state.Failed m) (Reserved p plan) cmd sd may stands k positive most =
    let l = k.timed.try.left in let f : failures (job_state_of h c.job) ≡ m = ap failures sd in let n : attempts_of c.command ≡ attempts = ap attempts_of cmd in omega arith
less_some c h pod attempts index job kept (job_state.Ended m) (Reserved p plan) cmd sd may stands k positive most = absurd cc
less_some c h pod attempts index job kept job_state.Fresh (Refused p plan why) cmd sd may stands k positive most =
    let l = k.timed.try.left in let f : failures (job_state_of h c.job) ≡ 0 = ap failures sd in let n : attempts_of c.command ≡ attempts = ap attempts_of cmd in omega arith
less_some c h pod attempts index job kept (job_state.Reserved m) (Refused p plan why) cmd sd may stands k positive most = absurd cc
less_some c h pod attempts index job kept (job_state.Conflicted m) (Refused p plan why) cmd sd may stands k positive most = absurd cc
less_some c h pod attempts index job kept (job_state.Failed m) (Refused p plan why) cmd sd may stands k positive most =
    let l = k.timed.try.left in let f : failures (job_state_of h c.job) ≡ m = ap failures sd in let n : attempts_of c.command ≡ attempts = ap attempts_of cmd in omega arith
less_some c h pod attempts index job kept (job_state.Ended m) (Refused p plan why) cmd sd may stands k positive most = absurd cc
less_some c h pod attempts index job kept job_state.Fresh (Wrote p claim had) cmd sd may stands k positive most = absurd cc
less_some c h pod attempts index job kept (job_state.Reserved m) (Wrote p claim had) cmd sd may stands k positive most =
    let same : p ≡ pod = pod_is p pod (attempts_of c.command) attempts (k.of_command ∙ cmd) in
    let less = subst (λ (x : Key). unwritten (with_written index p claim (state_of h)) x < unwritten (state_of h) x) same (wrote_less (state_of h) index p job claim had stands) in omega arith
less_some c h pod attempts index job kept (job_state.Conflicted m) (Wrote p claim had) cmd sd may stands k positive most = absurd cc
less_some c h pod attempts index job kept (job_state.Failed m) (Wrote p claim had) cmd sd may stands k positive most = absurd cc
less_some c h pod attempts index job kept (job_state.Ended m) (Wrote p claim had) cmd sd may stands k positive most = absurd cc
less_some c h pod attempts index job kept job_state.Fresh (Conflict p claim had now) cmd sd may stands k positive most = absurd cc
less_some c h pod attempts index job kept (job_state.Reserved m) (Conflict p claim had now) cmd sd may stands k positive most =
    let same : p ≡ pod = pod_is p pod (attempts_of c.command) attempts (k.of_command ∙ cmd) in
    let some = subst (λ (x : Key). 0 < unwritten (state_of h) x) same (conflict_left (state_of h) p job claim had now stands) in omega arith
less_some c h pod attempts index job kept (job_state.Conflicted m) (Conflict p claim had now) cmd sd may stands k positive most = absurd cc
less_some c h pod attempts index job kept (job_state.Failed m) (Conflict p claim had now) cmd sd may stands k positive most = absurd cc
less_some c h pod attempts index job kept (job_state.Ended m) (Conflict p claim had now) cmd sd may stands k positive most = absurd cc
less_some c h pod attempts index job kept job_state.Fresh (Unreserved p) cmd sd may stands k positive most = absurd cc
less_some c h pod attempts index job kept (job_state.Reserved m) (Unreserved p) cmd sd may stands k positive most = absurd cc
less_some c h pod attempts index job kept (job_state.Conflicted m) (Unreserved p) cmd sd may stands k positive most = omega arith
less_some c h pod attempts index job kept (job_state.Failed m) (Unreserved p) cmd sd may stands k positive most = absurd cc
less_some c h pod attempts index job kept (job_state.Ended m) (Unreserved p) cmd sd may stands k positive most = absurd cc
less_some c h pod attempts index job kept st (Bound p node) cmd sd may stands k positive most = positive
less_some c h pod attempts index job kept st (VerdictGiven p verdict) cmd sd may stands k positive most = positive
less_some c h pod attempts index job kept st (Contended p failed) cmd sd may stands k positive most = positive
less_some c h pod attempts index job kept st (Released p) cmd sd may stands k positive most = positive
less_some c h pod attempts index job kept st (Adopted claim status) cmd sd may stands k positive most = positive
less_some c h pod attempts index job kept st (Denied command refusal) cmd sd may stands k positive most = positive

-- ---- a work that hasn't ended has a turn left

chosen_left : (c : Run) (h : List Entry) (pod : Key) (kept : Stage) → IsTrying c h pod kept → waits kept ≡ 0 → failures (job_state_of h c.job) < attempts_of c.command
chosen_left c h pod Ready s e = absurd cc
chosen_left c h pod (Seen seen) s e = absurd cc
chosen_left c h pod (Chosen (Reserve plan)) s e = s.tried.try.left
chosen_left c h pod (Chosen (Judge verdict)) s e = s.tried.try.left

waits_or : (kept : Stage) → (waits kept ≡ 0) ⊎ (waits kept ≡ 1)
waits_or Ready = inr refl
waits_or (Seen seen) = inr refl
waits_or (Chosen choice) = inl refl

positive_left : (c : Run) (h : List Entry) (pod : Key) (attempts : ℕ) (kept : Stage) (st : JobState) → c.command ≡ Schedule pod attempts → 0 < attempts → job_state_of h c.job ≡ st → is_ended st ≡ false → IsTrying c h pod kept → 0 < attempts_left (state_of h) pod attempts kept st
positive_left c h pod attempts kept job_state.Fresh cmd some sd open_yet s = omega arith
positive_left c h pod attempts kept (job_state.Reserved m) cmd some sd open_yet s = omega arith
positive_left c h pod attempts kept (job_state.Conflicted m) cmd some sd open_yet s = omega arith
positive_left c h pod attempts kept (job_state.Failed m) cmd some sd open_yet s =
    ⊎_elim (λ none. let l = chosen_left c h pod kept s none in let f : failures (job_state_of h c.job) ≡ m = ap failures sd in let n : attempts_of c.command ≡ attempts = ap attempts_of cmd in omega arith) (λ one. omega arith) (waits_or kept)
positive_left c h pod attempts kept (job_state.Ended m) cmd some sd open_yet s = absurd cc

-- ---- a turn

-- what is used of the lower crates
pub record Turns : Type 0 where
  pub grows : Grows
  pub state : (h : List Entry) (e : Entry) → state_of (h ++ e ∷ []) ≡ after (length h + 1) e.job e.event (state_of h)
  pub step : (prefix : List Entry) (e : Entry) (back : List Entry) → Legal (prefix ++ e ∷ back) → Step prefix e
  pub limits : (h : List Entry) → Legal h → ObjectsKept (state_of h)
  pub moves : MovesOn

-- an entry of the job, by its command
entry_less : (c : Run) (h : List Entry) (index job : ℕ) (kept : Stage) (ev : Event) (cmd : Command) → c.command ≡ cmd → 0 < attempts_of cmd → is_ended (job_state_of h c.job) ≡ false → allows (job_state_of h c.job) ev ≡ true → MayFollow h job ev → JobStep c h ev → IsStaged c h cmd kept
    → ((pod : Key) → unwritten (after index job ev (state_of h)) pod ≤ 32) → left_by (after index job ev (state_of h)) Ready (job_state_after (job_state_of h c.job) index ev) cmd < left_by (state_of h) kept (job_state_of h c.job) cmd
entry_less c h index job kept ev (Apply object mode) is some open_yet may stands k s most =
    let z = once_ends (attempts_of c.command) (job_state_of h c.job) index ev (ap is_schedule (k.of_command ∙ is)) in let o = once_some (job_state_of h c.job) open_yet in omega arith
entry_less c h index job kept ev (Invalid error) is some open_yet may stands k s most =
    let z = once_ends (attempts_of c.command) (job_state_of h c.job) index ev (ap is_schedule (k.of_command ∙ is)) in let o = once_some (job_state_of h c.job) open_yet in omega arith
entry_less c h index job kept ev (Delete target) is some open_yet may stands k s most =
    let z = once_ends (attempts_of c.command) (job_state_of h c.job) index ev (ap is_schedule (k.of_command ∙ is)) in let o = once_some (job_state_of h c.job) open_yet in omega arith
entry_less c h index job kept ev (Schedule pod attempts) is some open_yet may stands k s most =
    less_some c h pod attempts index job kept (job_state_of h c.job) ev is refl may stands k (positive_left c h pod attempts kept (job_state_of h c.job) is some refl open_yet s) (most pod)
entry_less c h index job kept ev (Release pod) is some open_yet may stands k s most =
    let z = once_ends (attempts_of c.command) (job_state_of h c.job) index ev (ap is_schedule (k.of_command ∙ is)) in let o = once_some (job_state_of h c.job) open_yet in omega arith
entry_less c h index job kept ev (Adopt claim status) is some open_yet may stands k s most =
    let z = once_ends (attempts_of c.command) (job_state_of h c.job) index ev (ap is_schedule (k.of_command ∙ is)) in let o = once_some (job_state_of h c.job) open_yet in omega arith

-- a snapshot, by the command
waits_less : (s : State) (pod : Key) (attempts : ℕ) (kept made : Stage) (st : JobState) → tries attempts st ≡ true → waits made < waits kept → attempts_left s pod attempts made st < attempts_left s pod attempts kept st
waits_less s pod attempts kept made job_state.Fresh t less = omega arith
waits_less s pod attempts kept made (job_state.Reserved m) t less = absurd cc
waits_less s pod attempts kept made (job_state.Conflicted m) t less = absurd cc
waits_less s pod attempts kept made (job_state.Failed m) t less = omega arith
waits_less s pod attempts kept made (job_state.Ended m) t less = absurd cc

tries_by : (b : Bool) (h : List Entry) → cond b (looked h) Ready ≡ looked h → b ≡ true
tries_by true h e = refl
tries_by false h e = absurd cc

snapshot_less : MovesOn → (c : Run) (h : List Entry) (w : Work) (cmd : Command) (made : Stage) → w.command ≡ cmd → Legal h → Running c h w → is_ended (job_state_of h w.job) ≡ false → move_of h w ≡ None → waits made < waits w.stage
    → left_by (state_of h) made (job_state_of h w.job) cmd < left_by (state_of h) w.stage (job_state_of h w.job) cmd
snapshot_less m c h w (Apply object mode) made is legal r open_yet none less = same_kept h (after_none m c h w (Apply object mode) is legal r open_yet none)
snapshot_less m c h w (Invalid error) made is legal r open_yet none less = same_kept h (after_none m c h w (Invalid error) is legal r open_yet none)
snapshot_less m c h w (Delete target) made is legal r open_yet none less = same_kept h (after_none m c h w (Delete target) is legal r open_yet none)
snapshot_less m c h w (Schedule pod attempts) made is legal r open_yet none less =
    waits_less (state_of h) pod attempts w.stage made (job_state_of h w.job) (tries_by (tries attempts (job_state_of h w.job)) h (after_none m c h w (Schedule pod attempts) is legal r open_yet none)) less
snapshot_less m c h w (Release pod) made is legal r open_yet none less = same_kept h (after_none m c h w (Release pod) is legal r open_yet none)
snapshot_less m c h w (Adopt claim status) made is legal r open_yet none less = same_kept h (after_none m c h w (Adopt claim status) is legal r open_yet none)

-- where nothing is kept, a search leaves it so
ready_stays : (budget : ℕ) (cmd : Command) (made : Stage) → Thought budget cmd Ready made → made ≡ Ready
ready_stays budget (Apply object mode) made t = t
ready_stays budget (Invalid error) made t = t
ready_stays budget (Delete target) made t = t
ready_stays budget (Schedule pod attempts) made t = t
ready_stays budget (Release pod) made t = t
ready_stays budget (Adopt claim status) made t = t

-- an entry
some_less : Turns → (budget : ℕ) (c : Run) (H H' : History) (w w' : Work) (ev : Event) → Legal H'.entries → Running c H.entries w → is_ended (job_state_of H.entries w.job) ≡ false → OneTurn budget H H' w w' → move_of H.entries w ≡ Some ev
    → left_by (state_of H'.entries) w'.stage (job_state_of H'.entries w.job) w.command < left_by (state_of H.entries) w.stage (job_state_of H.entries w.job) w.command
some_less laws budget c H H' w w' ev legal r open_yet one some =
    let h : List Entry = H.entries in
    let e : Entry = record { job = w.job; event = ev } in
    let now : H'.entries ≡ h ++ e ∷ [] = ap (λ (x : History). x.entries) (one.moves ∙ ap (moved H w.job) some) in
    let step : Step h e = laws.step h e [] (subst Legal now legal) in
    let k : JobStep c h ev = step_is c h w ev r some in
    let mine : job_state_of h w.job ≡ job_state_of h c.job = ap (job_state_of h) r.job in
    let kept : w'.stage ≡ Ready = ready_stays budget w.command w'.stage
    (subst (λ (x : Stage). Thought budget w.command x w'.stage) (ap (λ (o : Option Event). stage_by h (job_state_of h w.job) w.command o) some ∙ staged_some h (job_state_of h w.job) w.command ev) one.stage) in
    let grown : state_of H'.entries ≡ after (length h + 1) w.job ev (state_of h) = ap state_of now ∙ laws.state h e in
    let st : job_state_of H'.entries w.job ≡ job_state_after (job_state_of h w.job) (length h + 1) ev = ap (λ (xs : List Entry). job_state_of xs w.job) now ∙ job_state_own laws.grows h e w.job refl in
    let limits : ObjectsKept (after (length h + 1) w.job ev (state_of h)) = subst ObjectsKept grown (laws.limits H'.entries legal) in
    let less = entry_less c h (length h + 1) w.job w.stage ev c.command refl r.some (ap is_ended (sym mine) ∙ open_yet) (subst (λ (x : JobState). allows x ev ≡ true) mine step.allowed) step.follows k r.staged (λ pod. few (after (length h + 1) w.job ev (state_of h)) pod limits) in
    let with_command : left_by (after (length h + 1) w.job ev (state_of h)) Ready (job_state_after (job_state_of h w.job) (length h + 1) ev) w.command < left_by (state_of h) w.stage (job_state_of h w.job) w.command =
    subst (λ (x : Command). left_by (after (length h + 1) w.job ev (state_of h)) Ready (job_state_after (job_state_of h w.job) (length h + 1) ev) x < left_by (state_of h) w.stage (job_state_of h w.job) x) (sym r.command)
    (subst (λ (x : JobState). left_by (after (length h + 1) w.job ev (state_of h)) Ready (job_state_after x (length h + 1) ev) c.command < left_by (state_of h) w.stage x c.command) (sym mine) less) in
    let eq : left_by (state_of H'.entries) w'.stage (job_state_of H'.entries w.job) w.command ≡ left_by (after (length h + 1) w.job ev (state_of h)) Ready (job_state_after (job_state_of h w.job) (length h + 1) ev) w.command =
    ap (λ (x : State). left_by x w'.stage (job_state_of H'.entries w.job) w.command) grown
    ∙ ap (λ (x : Stage). left_by (after (length h + 1) w.job ev (state_of h)) x (job_state_of H'.entries w.job) w.command) kept
    ∙ ap (λ (x : JobState). left_by (after (length h + 1) w.job ev (state_of h)) Ready x w.command) st in
    subst (λ (n : ℕ). n < left_by (state_of h) w.stage (job_state_of h w.job) w.command) (sym eq) with_command

same_work : (h : List Entry) (w w' : Work) → w'.job ≡ w.job → w'.command ≡ w.command → most_turns h w' ≡ left_by (state_of h) w'.stage (job_state_of h w.job) w.command
same_work h w w' job command = ap (λ (n : ℕ). left_by (state_of h) w'.stage (job_state_of h n) w'.command) job ∙ ap (λ (x : Command). left_by (state_of h) w'.stage (job_state_of h w.job) x) command

pub turn_less : Turns → (budget : ℕ) (c : Run) (H H' : History) (w w' : Work) → Legal H.entries → Legal H'.entries → Running c H.entries w → is_ended (job_state_of H.entries w.job) ≡ false → OneTurn budget H H' w w' → most_turns H'.entries w' < most_turns H.entries w
turn_less laws budget c H H' w w' before legal r open_yet one =
    subst (λ (n : ℕ). n < most_turns H.entries w) (sym (same_work H'.entries w w' one.job one.command)) (by_move (move_of H.entries w) refl)
  where
    by_move : (o : Option Event) → move_of H.entries w ≡ o → left_by (state_of H'.entries) w'.stage (job_state_of H'.entries w.job) w.command < left_by (state_of H.entries) w.stage (job_state_of H.entries w.job) w.command
    by_move None none =
        let same : H.entries ≡ H'.entries = sym (ap (λ (x : History). x.entries) (one.moves ∙ ap (moved H w.job) none)) in
        let less = less_none laws.moves budget c H.entries w w.command w'.stage refl before r open_yet none one.stage in
        subst (λ (h : List Entry). left_by (state_of h) w'.stage (job_state_of h w.job) w.command < left_by (state_of H.entries) w.stage (job_state_of H.entries w.job) w.command) same
        (snapshot_less laws.moves c H.entries w w.command w'.stage refl before r open_yet none less)
    by_move (Some ev) some = some_less laws budget c H H' w w' ev legal r open_yet one some

fresh_by : (s : State) (cmd : Command) → left_by s Ready job_state.Fresh cmd ≤ 35 * attempts_of cmd + 1
fresh_by s (Apply object mode) = omega arith
fresh_by s (Invalid error) = omega arith
fresh_by s (Delete target) = omega arith
fresh_by s (Schedule pod attempts) = omega arith
fresh_by s (Release pod) = omega arith
fresh_by s (Adopt claim status) = omega arith

-- a new work has at most 35 turns for each attempt, and one more
pub fresh_few : (h : List Entry) (w : Work) → job_state_of h w.job ≡ job_state.Fresh → w.stage ≡ Ready → most_turns h w ≤ 35 * attempts_of w.command + 1
fresh_few h w fresh ready =
    subst (λ (n : ℕ). n ≤ 35 * attempts_of w.command + 1) (sym (ap (λ (x : Stage). left_by (state_of h) x (job_state_of h w.job) w.command) ready ∙ ap (λ (x : JobState). left_by (state_of h) Ready x w.command) fresh)) (fresh_by (state_of h) w.command)
