-- A plan that was true at its index, and that doesn't fail now, may be reserved.
use Rattle.std.proofs.Common.{ℕ, ◌≡◌, ◌∙◌, List, [], ◌∷◌, Bool, true, false, not, cond, Option, None, Some, is_some, is_none, find, filter, length, refl, sym, ap, subst, arith}
use Rattle.std.specs.List.{AllByRecursion, Contains}
use Rattle.std.specs.Option.{option_map}
use Rattle.std.proofs.lemmas.List.{take_all}
use Rattle.std.proofs.lemmas.List.Elements.{All-from_recursion, Contains-append_right}
use Rattle.object_fields.specs.declared.key.Key.{Key}
use Rattle.pool_view.specs.Names.{at_key, text_eq}
use Rattle.cluster.specs.declared.entry.Command.TheVariants.{Schedule}
use Rattle.cluster.specs.declared.entry.Entry.{Entry}
use Rattle.cluster.specs.declared.plan.Known.{Known}
use Rattle.cluster.specs.declared.plan.KnownClaim.{KnownClaim}
use Rattle.cluster.specs.declared.plan.Plan.{Plan}
use Rattle.cluster.specs.declared.state.ClaimState.{ClaimState}
use Rattle.cluster.specs.declared.state.Granted.{Granted}
use Rattle.cluster.specs.declared.state.Phase.{Phase}
use Rattle.cluster.specs.declared.state.Phase.TheVariants as phase
use Rattle.cluster.specs.declared.state.PodState.{PodState}
use Rattle.cluster.specs.declared.state.State.{State}
use Rattle.cluster.specs.Claims.{add_known, known_claim, known_claims, known_of}
use Rattle.cluster.specs.Denied.{first_refusal, phase_refusal, schedule_refusal}
use Rattle.cluster.specs.History.{state_at, state_of}
use Rattle.cluster.specs.State.{claims_of, may_use}
use Rattle.allocations.specs.Allocation.{IsAllocation}
use Rattle.allocations.specs.Claims.{has_grant, is_elsewhere, is_off, joined, missing_claim, other_claim, wanted}
use Rattle.plan_rules.specs.Plans.{Holds, IsIdle, PlanTrue}
use Rattle.plan_rules.specs.Failing.{failing}
use Rattle.plan_rules.specs.Fits.{FitsPod, IsAsKnown}
use Rattle.histories.specs.Legal.{Legal}
use Rattle.histories.specs.Reserved.{IsPlanned, MayReserve}

-- ---- the claims that a plan knew, then and now

-- a claim that is there as it was, with room for the pod
record Same (then now : State) (pod k : Key) : Type 0 where
  old : ClaimState
  new : ClaimState
  was : at_key then.claims k ≡ Some old
  there : at_key now.claims k ≡ Some new
  uid : new.claim.uid ≡ old.claim.uid
  node : option_map (λ (g : Granted). g.node) new.grant ≡ option_map (λ (g : Granted). g.node) old.grant
  room : may_use pod (Some new) ≡ true

abbrev EachSame : State → State → Key → List Key → Type 0
EachSame then now pod [] = Unit {0}
EachSame then now pod (k ∷ ks) = Same then now pod k × EachSame then now pod ks

abbrev no_claim : State → Key → Bool
no_claim s k = is_none (at_key s.claims k)

none_by : (b : Bool) (k : Key) (o : Option Key) → cond b (Some k) o ≡ None → (b ≡ false) × (o ≡ None)
none_by true k o e = absurd (cc)
none_by false k o e = (refl, e)

head_in : (x : KnownClaim) (xs : List KnownClaim) → Contains (x ∷ xs) x
head_in x xs = (0, omega arith, refl)

tail_in : (x : KnownClaim) (xs : List KnownClaim) (y : KnownClaim) → Contains xs y → Contains (x ∷ xs) y
tail_in x xs y h = Contains-append_right (x ∷ []) xs y h

same_of : (then now : State) (pod k : Key) (c : ClaimState) → at_key then.claims k ≡ Some c → IsAsKnown now pod (known_claim k c) → Same then now pod k
same_of then now pod k c was fits = record { old = c; new = fits.state; was = was; there = fits.there; uid = fits.uid; node = fits.node; room = fits.room }

each_by : (then now : State) (pod k : Key) (ks : List Key) (o : Option ClaimState) → at_key then.claims k ≡ o → is_none o ≡ false
    → ((x : KnownClaim) → Contains (add_known k o (known_claims then ks)) x → IsAsKnown now pod x)
    → (((x : KnownClaim) → Contains (known_claims then ks) x → IsAsKnown now pod x) → EachSame then now pod ks) → EachSame then now pod (k ∷ ks)
each_by then now pod k ks None was there fits later = absurd (cc)
each_by then now pod k ks (Some c) was there fits later = (
  same_of then now pod k c was (fits (known_claim k c) (head_in (known_claim k c) (known_claims then ks))),
  later (λ x h. fits x (tail_in (known_claim k c) (known_claims then ks) x h)),
)

each_same : (then now : State) (pod : Key) (ks : List Key) → find (no_claim then) ks ≡ None → ((x : KnownClaim) → Contains (known_claims then ks) x → IsAsKnown now pod x) → EachSame then now pod ks
each_same then now pod [] there fits = tt
each_same then now pod (k ∷ ks) there fits =
    let parts = none_by (no_claim then k) k (find (no_claim then) ks) there in
    each_by then now pod k ks (at_key then.claims k) refl parts.0 fits (λ rest. each_same then now pod ks parts.1 rest)

-- ---- what of it stays

same_known : (k l : Key) (u v : ℕ) (m n : Option (List ℕ)) → k ≡ l → u ≡ v → m ≡ n → ◌≡◌ {A = KnownClaim} (record { claim = k; uid = u; node = m }) (record { claim = l; uid = v; node = n })
same_known k l u v m n e f g = cc

known_now : (then now : State) (pod : Key) (ks : List Key) → EachSame then now pod ks → known_claims then ks ≡ known_claims now ks
known_now then now pod [] same = refl
known_now then now pod (k ∷ ks) same =
    let one = same.0 in
    let claim : known_claim k one.old ≡ known_claim k one.new = same_known k k one.old.claim.uid one.new.claim.uid _ _ refl (sym one.uid) (sym one.node) in
    ap (λ o. add_known k o (known_claims then ks)) one.was
    ∙ ap (λ x. x ∷ known_claims then ks) claim
    ∙ ap (λ xs. known_claim k one.new ∷ xs) (known_now then now pod ks same.1)
    ∙ ap (λ o. add_known k o (known_claims now ks)) (sym one.there)

there_now : (then now : State) (pod : Key) (ks : List Key) → EachSame then now pod ks → find (no_claim now) ks ≡ None
there_now then now pod [] same = refl
there_now then now pod (k ∷ ks) same =
    let one = same.0 in
    ap (λ (o : Option ClaimState). cond (is_none o) (Some k) (find (no_claim now) ks)) one.there ∙ there_now then now pod ks same.1

off_by : (node : List ℕ) (g h : Option Granted) → option_map (λ (x : Granted). x.node) g ≡ option_map (λ (x : Granted). x.node) h → is_off node g ≡ is_off node h
off_by node None None e = refl
off_by node None (Some h) e = absurd (cc)
off_by node (Some g) None e = absurd (cc)
off_by node (Some g) (Some h) e = let same : g.node ≡ h.node = cc in ap (λ (n : List ℕ). not (text_eq n node)) same

granted_by : (g h : Option Granted) → option_map (λ (x : Granted). x.node) g ≡ option_map (λ (x : Granted). x.node) h → is_some g ≡ is_some h
granted_by None None e = refl
granted_by None (Some h) e = absurd (cc)
granted_by (Some g) None e = absurd (cc)
granted_by (Some g) (Some h) e = refl

elsewhere_at : (then now : State) (pod k : Key) (node : List ℕ) → Same then now pod k → is_elsewhere node (at_key now.claims k) ≡ is_elsewhere node (at_key then.claims k)
elsewhere_at then now pod k node one =
    ap (λ o. is_elsewhere node o) one.there ∙ off_by node one.new.grant one.old.grant one.node ∙ ap (λ o. is_elsewhere node o) (sym one.was)

granted_at : (then now : State) (pod k : Key) → Same then now pod k → has_grant (at_key now.claims k) ≡ has_grant (at_key then.claims k)
granted_at then now pod k one = ap (λ o. has_grant o) one.there ∙ granted_by one.new.grant one.old.grant one.node ∙ ap (λ o. has_grant o) (sym one.was)

other_now : (then now : State) (pod : Key) (node : List ℕ) (ks : List Key) → EachSame then now pod ks
    → find (λ k. is_elsewhere node (at_key now.claims k)) ks ≡ find (λ k. is_elsewhere node (at_key then.claims k)) ks
other_now then now pod node [] same = refl
other_now then now pod node (k ∷ ks) same =
    ap (λ b. cond b (Some k) (find (λ x. is_elsewhere node (at_key now.claims x)) ks)) (elsewhere_at then now pod k node same.0)
    ∙ ap (λ o. cond (is_elsewhere node (at_key then.claims k)) (Some k) o) (other_now then now pod node ks same.1)

joined_now : (then now : State) (pod : Key) (ks : List Key) → EachSame then now pod ks → filter (λ k. has_grant (at_key now.claims k)) ks ≡ filter (λ k. has_grant (at_key then.claims k)) ks
joined_now then now pod [] same = refl
joined_now then now pod (k ∷ ks) same =
    ap (λ b. cond b (k ∷ filter (λ x. has_grant (at_key now.claims x)) ks) (filter (λ x. has_grant (at_key now.claims x)) ks)) (granted_at then now pod k same.0)
    ∙ ap (λ xs. cond (has_grant (at_key then.claims k)) (k ∷ xs) xs) (joined_now then now pod ks same.1)

abbrev HasRoom : State → Key → Key → Type 0
HasRoom s pod k = may_use pod (at_key s.claims k) ≡ true

room_by : (then now : State) (pod k : Key) → Same then now pod k → HasRoom now pod k
room_by then now pod k one = ap (λ o. may_use pod o) one.there ∙ one.room

rooms_now : (then now : State) (pod : Key) (ks : List Key) → EachSame then now pod ks → AllByRecursion (HasRoom now pod) ks
rooms_now then now pod [] same = tt
rooms_now then now pod (k ∷ ks) same = (room_by then now pod k same.0, rooms_now then now pod ks same.1)

-- ---- the pod

idle_by : (ph : Phase) → phase_refusal ph ≡ None → ph ≡ phase.Idle
idle_by phase.Idle e = refl
idle_by (phase.Taken job node) e = absurd (cc)
idle_by (phase.Bound node) e = absurd (cc)

idle_at : (s : State) (pod : Key) (o : Option PodState) → at_key s.pods pod ≡ o → schedule_refusal o ≡ None → (p : PodState) × IsIdle s pod p
idle_at s pod None is e = absurd (cc)
idle_at s pod (Some p) is e = (p, record { there = is; idle = idle_by p.phase e })

-- a pod that nothing refuses to schedule is there, and Idle
pub idle_pod : (s : State) (pod : Key) → first_refusal s (Schedule pod) ≡ None → (p : PodState) × IsIdle s pod p
idle_pod s pod e = idle_at s pod (at_key s.pods pod) refl e

known_pod : (s : State) (p : PodState) → (known_of s p).pod ≡ p.pod.uid
unfolding known_of
known_pod s p = refl

known_each : (s : State) (p : PodState) → (known_of s p).claims ≡ known_claims s (claims_of p)
unfolding known_of
known_each s p = refl

same_parts : (u v : ℕ) (xs ys : List KnownClaim) → u ≡ v → xs ≡ ys → ◌≡◌ {A = Known} (record { pod = u; claims = xs }) (record { pod = v; claims = ys })
same_parts u v xs ys e f = cc

known_parts : (k : Known) (s : State) (p : PodState) → k.pod ≡ p.pod.uid → k.claims ≡ known_claims s (claims_of p) → k ≡ known_of s p
unfolding known_of
known_parts k s p e f = same_parts k.pod p.pod.uid k.claims (known_claims s (claims_of p)) e f

none_missing : (s : State) (p : PodState) → missing_claim s p.pod.object ≡ None → find (no_claim s) (claims_of p) ≡ None
unfolding missing_claim
none_missing s p e = e

missing_none : (s : State) (p : PodState) → find (no_claim s) (claims_of p) ≡ None → missing_claim s p.pod.object ≡ None
unfolding missing_claim
missing_none s p e = e

other_is : (s : State) (p : PodState) (node : List ℕ) → other_claim s p.pod.object node ≡ find (λ k. is_elsewhere node (at_key s.claims k)) (claims_of p)
unfolding other_claim
other_is s p node = refl

joined_is : (s : State) (p : PodState) → joined s p.pod.object ≡ filter (λ k. has_grant (at_key s.claims k)) (claims_of p)
unfolding joined
joined_is s p = refl

-- ---- the plan

-- pods of one name and uid have the same claims at any two indexes of a legal history
abbrev pub UidsKeep : Type 0
UidsKeep = (h : List Entry) (first second : ℕ) (key : Key) (p q : PodState) → Legal h → at_key (state_at h first).pods key ≡ Some p → at_key (state_at h second).pods key ≡ Some q → p.pod.uid ≡ q.pod.uid
    → claims_of p ≡ claims_of q

-- what a plan without a failure knew is so
abbrev pub Fits : Type 0
Fits = (s : State) (pod : Key) (plan : Plan) → failing s pod plan ≡ None → (p : PodState) × FitsPod s pod p plan

-- its grants are an allocation
abbrev pub Allocates : Type 0
Allocates = (s : State) (pod : Key) (plan : Plan) (p : PodState) → at_key s.pods pod ≡ Some p → failing s pod plan ≡ None → (choice : List ℕ) × IsAllocation s (wanted s p.pod.object) plan.node choice plan.grants

holds_by : Allocates → (then now : State) (pod : Key) (plan : Plan) (p : PodState) (t : PlanTrue then pod plan) → FitsPod now pod p plan → claims_of t.state ≡ claims_of p → p.phase ≡ phase.Idle
    → failing now pod plan ≡ None → Holds now pod plan
holds_by allocates then now pod plan p t fits keys idle none =
    let ks = claims_of p in
    let known : plan.known.claims ≡ known_claims then ks = ap (λ (k : Known). k.claims) t.known ∙ known_each then t.state ∙ ap (λ (xs : List Key). known_claims then xs) keys in
    let there : find (no_claim then) ks ≡ None = ap (λ (xs : List Key). find (no_claim then) xs) (sym keys) ∙ none_missing then t.state t.may_search.there in
    let same = each_same then now pod ks there (λ x h. fits.claims x (subst (λ (xs : List KnownClaim). Contains xs x) (sym known) h)) in
    let allocation = allocates now pod plan p fits.there none in
    record {
      state = p;
      idle = record { there = fits.there; idle = idle };
      known = known_parts plan.known now p (sym fits.uid) (known ∙ known_now then now pod ks same);
      there = missing_none now p (there_now then now pod ks same);
      users = All-from_recursion (HasRoom now pod) ks (rooms_now then now pod ks same);
      here = other_is now p plan.node
          ∙ other_now then now pod plan.node ks same
          ∙ ap (λ (xs : List Key). find (λ k. is_elsewhere plan.node (at_key then.claims k)) xs) (sym keys)
          ∙ sym (other_is then t.state plan.node)
          ∙ t.here;
      joins = t.joins
          ∙ joined_is then t.state
          ∙ ap (λ (xs : List Key). filter (λ k. has_grant (at_key then.claims k)) xs) keys
          ∙ sym (joined_now then now pod ks same)
          ∙ sym (joined_is now p);
      choice = allocation.0;
      allocation = allocation.1;
    }

-- the state at the end of a history is the one after it
state_at-end : (h : List Entry) → state_at h (length h) ≡ state_of h
state_at-end h = ap state_of (take_all (length h) h (omega arith))

-- the plan doesn't fail, so it may be reserved
pub may_reserve : UidsKeep → Fits → Allocates → (before : List Entry) (pod : Key) (plan : Plan) → Legal before → IsPlanned before pod plan → first_refusal (state_of before) (Schedule pod) ≡ None
    → failing (state_of before) pod plan ≡ None → MayReserve before pod plan
may_reserve uids fit allocates before pod plan legal planned unrefused none =
    let now = state_of before in
    let t = planned.true_then in
    let found = fit now pod plan none in
    let p = found.0 in
    let fits = found.1 in
    let uid : t.state.pod.uid ≡ p.pod.uid = sym (known_pod (state_at before plan.at) t.state) ∙ ap (λ (k : Known). k.pod) (sym t.known) ∙ sym fits.uid in
    let at_end : at_key (state_at before (length before)).pods pod ≡ Some p = ap (λ (s : State). at_key s.pods pod) (state_at-end before) ∙ fits.there in
    let keys = uids before plan.at (length before) pod t.state p legal t.may_search.idle.there at_end uid in
    let idle = idle_by p.phase (ap (λ o. schedule_refusal o) (sym fits.there) ∙ unrefused) in
    record { at = planned.at; true_then = t; holds_now = holds_by allocates (state_at before plan.at) now pod plan p t fits keys idle none }
