-- Each user of a claim is a pod that is taken or bound, and names the claim, in each state of a legal history.
use Rattle.std.proofs.Common.{ℕ, ◌+◌, ◌≡◌, ◌∙◌, ◌⊎◌, inl, inr, ⊎_elim, List, [], ◌∷◌, Bool, true, false, not, ◌||◌, Option, None, Some, length, map, is_some, refl, sym, ap, subst}
use Rattle.std.specs.List.{list_any}
use Rattle.std.specs.Map.{lookup, remove_entry, set_value}
use Rattle.std.specs.Option.{option_map_or}
use Rattle.std.specs.BTreeMap.{insert_entry, is_at}
use Rattle.object_fields.specs.declared.key.Key.{Key}
use Rattle.api_claim.specs.declared.types.ClaimStatus.{ClaimStatus}
use Rattle.api_claim.specs.declared.types.ResourceClaim.{ResourceClaim}
use Rattle.api_claim.specs.Limits.{EachOf}
use Rattle.api_cluster.specs.declared.types.Pod.{Pod}
use Rattle.pool_view.specs.Names.{at_key, key_cmp}
use Rattle.cluster.specs.declared.entry.Command.TheVariants.{Apply, Delete}
use Rattle.cluster.specs.declared.entry.Entry.{Entry}
use Rattle.cluster.specs.declared.entry.Event.{Event}
use Rattle.cluster.specs.declared.entry.Event.TheVariants.{Applied, Deleted, Reserved, Refused, Wrote, Conflict, Unreserved, Bound, VerdictGiven, Contended, Released, Adopted, Denied}
use Rattle.cluster.specs.declared.entry.Mode.{Mode}
use Rattle.cluster.specs.declared.entry.Refusal.TheVariants.{InUse, NotFound}
use Rattle.cluster.specs.declared.object.Object.{Object}
use Rattle.cluster.specs.declared.object.Object.TheVariants as object
use Rattle.cluster.specs.declared.object.Target.{Target}
use Rattle.cluster.specs.declared.object.Target.TheVariants as target
use Rattle.cluster.specs.declared.plan.Grant.{Grant}
use Rattle.cluster.specs.declared.plan.Plan.{Plan}
use Rattle.cluster.specs.declared.state.ClaimState.{ClaimState}
use Rattle.cluster.specs.declared.state.Granted.{Granted}
use Rattle.cluster.specs.declared.state.Phase.{Phase}
use Rattle.cluster.specs.declared.state.Phase.TheVariants as phase
use Rattle.cluster.specs.declared.state.PodState.{PodState}
use Rattle.cluster.specs.declared.state.State.{State}
use Rattle.cluster.specs.declared.state.Use.{Use}
use Rattle.cluster.specs.declared.state.Use.TheVariants.{Assumed, Written}
use Rattle.cluster.specs.Adopted.{adopted_by, with_adopted}
use Rattle.cluster.specs.Applied.{new_claim, new_pod, updated_claim, updated_pod, with_object}
use Rattle.cluster.specs.Claims.{claim_keys, first_places}
use Rattle.cluster.specs.Deleted.{without_object}
use Rattle.cluster.specs.Denied.{first_refusal, is_busy, is_found, is_in_use, is_user, when}
use Rattle.cluster.specs.Events.{after}
use Rattle.cluster.specs.Freed.{claims_by, freed, freed_by, with_freed, without_user, without_uses}
use Rattle.cluster.specs.History.{state_at, state_of}
use Rattle.cluster.specs.Reserved.{joined_by, with_grant, with_grants, with_joins, with_reserved}
use Rattle.cluster.specs.State.{claims_of, empty_state, is_idle}
use Rattle.cluster.specs.Tables.{changed_at, put_at, with_phase}
use Rattle.cluster.specs.Wrote.{with_written, written_by}
use Rattle.allocations.specs.Claims.{add_ungranted, add_wanted, has_grant, joined, wanted, wanted_of}
use Rattle.plan_rules.specs.Plans.{Holds}
use Rattle.histories.specs.Legal.{Legal, MayFollow}
use Rattle.histories.specs.Users.{HasBusyUsers, UsersAreBusy}
use Rattle.histories.proofs.Applying.{pod_unchanged}
use Rattle.histories.proofs.Claiming.{Fit, Pods, SameClaims, fit_now, keys_same, later_none}
use Rattle.histories.proofs.GoingOn.{Claims, In, changed_other, changed_there, granted, keys_granted, keys_in, same_or_not}
use Rattle.histories.proofs.Headlines.{at_places}
use Rattle.histories.proofs.Always.{always_state}
use Rattle.histories.proofs.Keyed.{AllAt, Once, Rising, all_changed, all_put, each_at, gone, in_contains, insert_other, once_changed, once_of, once_put, once_removed, passed, remove_other, removed_case, rising_changed, rising_inserted, rising_removed, some_same}

abbrev pub Users : Type 0
Users = List (Key × Use)

-- the pod is there, is taken or bound, and names the claim
abbrev pub Uses : Pods → Key → Key → Type 0
Uses pods claim pod = (p : PodState) × (at_key pods pod ≡ Some p) × (is_busy (Some p) ≡ true) × In claim (claims_of p)

-- these users of the claim are in order, and each is such a pod
abbrev pub UsersOf : Pods → Key → Users → Type 0
UsersOf pods claim users = Rising users × ((pod : Key) → is_some (at_key users pod) ≡ true → Uses pods claim pod)

abbrev pub UserFits : Pods → Key → ClaimState → Type 0
UserFits pods claim c = UsersOf pods claim c.users

abbrev pub UsersFit : Pods → Claims → Type 0
UsersFit pods claims = Once claims × AllAt (UserFits pods) claims

-- ---- pods that stay users

-- a pod that is a user there is one here
abbrev Stays : Pods → Pods → Type 0
Stays pods pods' = (claim pod : Key) → Uses pods claim pod → Uses pods' claim pod

all_stays : (pods pods' : Pods) (claims : Claims) → Stays pods pods' → UsersFit pods claims → UsersFit pods' claims
all_stays pods pods' claims stays h = (h.0, λ k c at. let f = h.1 k c at in (f.0, λ pod is. stays k pod (f.1 pod is)))

-- another pod than the one whose phase changes
other_phase : (pod : Key) (ph : Phase) (pods : Pods) (claim l : Key) → (l ≡ pod → ⊥) → Uses pods claim l → Uses (with_phase pod ph pods) claim l
other_phase pod ph pods claim l differ u = (u.0, changed_other pod l (λ p. record p { phase = ph }) pods differ ∙ u.1, u.2, u.3)

busy_by : (pod : Key) (ph : Phase) (pods : Pods) (claim l : Key) → (l ≡ pod) ⊎ (l ≡ pod → ⊥) → not (is_idle ph) ≡ true → Uses pods claim l → Uses (with_phase pod ph pods) claim l
busy_by pod ph pods claim l (inl e) busy u =
    let there : at_key pods pod ≡ Some u.0 = ap (at_key pods) (sym e) ∙ u.1 in
    (record u.0 { phase = ph }, ap (at_key (with_phase pod ph pods)) e ∙ changed_there pod (λ p. record p { phase = ph }) pods u.0 there, busy, u.3)
busy_by pod ph pods claim l (inr differ) busy u = other_phase pod ph pods claim l differ u

busy_stays : (pod : Key) (ph : Phase) (pods : Pods) → not (is_idle ph) ≡ true → Stays pods (with_phase pod ph pods)
busy_stays pod ph pods busy = λ claim l u. busy_by pod ph pods claim l (same_or_not (key_cmp l pod) l pod refl) busy u

updated_by : (index : ℕ) (x : Pod) (pods : Pods) (p : PodState) (claim l : Key) → (l ≡ x.key) ⊎ (l ≡ x.key → ⊥) → at_key pods x.key ≡ Some p → claim_keys p.pod.object ≡ claim_keys x → Uses pods claim l
    → Uses (changed_at x.key (updated_pod index x) pods) claim l
updated_by index x pods p claim l (inl e) is keys u =
    let same : u.0 ≡ p = some_same u.0 p (sym u.1 ∙ ap (at_key pods) e ∙ is) in
    let named : In claim (claims_of p) = subst (λ (q : PodState). In claim (claims_of q)) same u.3 in
    let busy : is_busy (Some p) ≡ true = subst (λ (q : PodState). is_busy (Some q) ≡ true) same u.2 in
    (updated_pod index x p, ap (at_key (changed_at x.key (updated_pod index x) pods)) e ∙ changed_there x.key (updated_pod index x) pods p is, busy, subst (λ (ks : List Key). In claim (first_places [] ks)) keys named)
updated_by index x pods p claim l (inr differ) is keys u = (u.0, changed_other x.key l (updated_pod index x) pods differ ∙ u.1, u.2, u.3)

put_stays : (index : ℕ) (x : Pod) (pods : Pods) (o : Option PodState) → at_key pods x.key ≡ o → ((p : PodState) → o ≡ Some p → claim_keys p.pod.object ≡ claim_keys x)
    → Stays pods (put_at x.key (new_pod index x) (updated_pod index x) pods o)
put_stays index x pods None is keys =
    λ claim l u.
    let differ : l ≡ x.key → ⊥ = λ e. let no : None ≡ Some u.0 = sym is ∙ ap (at_key pods) (sym e) ∙ u.1 in cc in
    (u.0, insert_other x.key l pods (new_pod index x) differ ∙ u.1, u.2, u.3)
put_stays index x pods (Some p) is keys =
    subst (λ (o : Option PodState). Stays pods (option_map_or (λ v. set_value (is_at (key_cmp x.key)) pods (updated_pod index x v)) o pods)) is
    (λ claim l u. updated_by index x pods p claim l (same_or_not (key_cmp l x.key) l x.key refl) is (keys p refl) u)

remove_stays : (key : Key) (pods : Pods) → is_busy (at_key pods key) ≡ false → Stays pods (remove_entry (is_at (key_cmp key)) pods)
remove_stays key pods idle =
    λ claim l u.
    let differ : l ≡ key → ⊥ = λ e. let no : true ≡ false = sym u.2 ∙ ap is_busy (sym u.1) ∙ ap (λ k. is_busy (at_key pods k)) e ∙ idle in cc in
    (u.0, remove_other key l pods differ ∙ u.1, u.2, u.3)

-- ---- users

pub user_case : (us : Users) (pod l : Key) (u : Use) → (l ≡ pod) ⊎ (l ≡ pod → ⊥) → is_some (at_key (insert_entry key_cmp us pod u) l) ≡ true → (l ≡ pod) ⊎ (is_some (at_key us l) ≡ true)
user_case us pod l u (inl e) h = inl e
user_case us pod l u (inr differ) h = inr (ap is_some (sym (insert_other pod l us u differ)) ∙ h)

-- one user more
more_users : (pods : Pods) (claim pod : Key) (us : Users) (u : Use) → Uses pods claim pod → UsersOf pods claim us → UsersOf pods claim (insert_entry key_cmp us pod u)
more_users pods claim pod us u new h = (
  rising_inserted pod us u h.0,
  λ l is. ⊎_elim (λ (e : l ≡ pod). subst (λ (x : Key). Uses pods claim x) (sym e) new) (λ (g : is_some (at_key us l) ≡ true). h.1 l g)
      (user_case us pod l u (same_or_not (key_cmp l pod) l pod refl) is),
)

written_set : (test other : Key → Bool) (b c : Bool) (e : Key × Use) (es : Users) (w : Use) → test e.0 ≡ b → other e.0 ≡ c → is_some (lookup other (set_value test es w)) ≡ is_some (lookup other es)
    → is_some (lookup other (set_value test (e ∷ es) w)) ≡ is_some (lookup other (e ∷ es))
written_set test other true true e es w is at later = rw (is) (rw (at) refl)
written_set test other true false e es w is at later = rw (is) (rw (at) refl)
written_set test other false true e es w is at later = rw (is) (rw (at) refl)
written_set test other false false e es w is at later = rw (is) (rw (at) later)

written_same : (test other : Key → Bool) (es : Users) (w : Use) → is_some (lookup other (set_value test es w)) ≡ is_some (lookup other es)
written_same test other [] w = refl
written_same test other (e ∷ es) w = written_set test other (test e.0) (other e.0) e es w refl refl (written_same test other es w)

pub written_users : (pod l : Key) (us : Users) (o : Option Use) → is_some (at_key (option_map_or (λ x. set_value (is_at (key_cmp pod)) us Written) o us) l) ≡ is_some (at_key us l)
written_users pod l us None = refl
written_users pod l us (Some x) = written_same (is_at (key_cmp pod)) (is_at (key_cmp l)) us Written

-- the same users, one of them written
marked : (pods : Pods) (claim pod : Key) (us : Users) → UsersOf pods claim us → UsersOf pods claim (changed_at pod (λ _. Written) us)
marked pods claim pod us h = (rising_changed pod (λ _. Written) us h.0, λ l is. h.1 l (sym (written_users pod l us (at_key us pod)) ∙ is))

left_case : (us : Users) (pod l : Key) → Once us → (l ≡ pod) ⊎ (l ≡ pod → ⊥) → is_some (at_key (without_user pod us) l) ≡ true → is_some (at_key us l) ≡ true
left_case us pod l once (inl e) is =
    absurd (let no : false ≡ true = sym (ap is_some (gone pod us once)) ∙ ap (λ k. is_some (at_key (without_user pod us) k)) (sym e) ∙ is in cc)
left_case us pod l once (inr differ) is = ap is_some (sym (remove_other pod l us differ)) ∙ is

-- one user less
less_users : (pods : Pods) (claim pod : Key) (us : Users) → UsersOf pods claim us → UsersOf pods claim (without_user pod us)
less_users pods claim pod us h =
    (rising_removed (is_at (key_cmp pod)) us h.0, λ l is. h.1 l (left_case us pod l (once_of us h.0) (same_or_not (key_cmp l pod) l pod refl) is))

-- ---- each change

grants_fit : (pods : Pods) (node : List ℕ) (pod : Key) (gs : List Grant) (claims : Claims) → ((k : Key) → In k (map (λ g. g.claim) gs) → Uses pods k pod) → UsersFit pods claims
    → UsersFit pods (with_grants node pod gs claims)
grants_fit pods node pod [] claims new h = h
grants_fit pods node pod (g ∷ gs) claims new h =
    grants_fit pods node pod gs (with_grant node pod g.claim g.results claims) (λ k among. new k (inr among)) (
      once_changed g.claim (granted node pod g) claims h.0,
      all_changed (UserFits pods) (UserFits pods) g.claim (granted node pod g) claims h.1 (λ c there f. more_users pods g.claim pod c.users (Assumed c.claim.version) (new g.claim (inl refl)) f) (λ k c differ f. f),
    )

joins_fit : (pods : Pods) (pod : Key) (ks : List Key) (claims : Claims) → ((k : Key) → In k ks → Uses pods k pod) → UsersFit pods claims → UsersFit pods (with_joins pod ks claims)
joins_fit pods pod [] claims new h = h
joins_fit pods pod (j ∷ js) claims new h =
    joins_fit pods pod js (changed_at j (joined_by pod) claims) (λ k among. new k (inr among)) (
      once_changed j (joined_by pod) claims h.0,
      all_changed (UserFits pods) (UserFits pods) j (joined_by pod) claims h.1 (λ c there f. more_users pods j pod c.users (Assumed c.claim.version) (new j (inl refl)) f) (λ k c differ f. f),
    )

from_ungranted : (k l : Key) (c : ClaimState) (g : Option Granted) (cs : List ResourceClaim) → In k (keys_in (add_ungranted l c g cs)) → (l ≡ k) ⊎ In k (keys_in cs)
from_ungranted k l c None cs h = h
from_ungranted k l c (Some g) cs h = inr h

from_wanted : (k l : Key) (o : Option ClaimState) (cs : List ResourceClaim) → In k (keys_in (add_wanted l o cs)) → (l ≡ k) ⊎ In k (keys_in cs)
from_wanted k l None cs h = inr h
from_wanted k l (Some c) cs h = from_ungranted k l c c.grant cs h

-- a claim that is wanted is one of them
pub wanted_in : (s : State) (ks : List Key) (k : Key) → In k (keys_in (wanted_of s ks)) → In k ks
wanted_in s [] k h = h
wanted_in s (l ∷ ls) k h = ⊎_elim (λ (e : l ≡ k). inl e) (λ (g : In k (keys_in (wanted_of s ls))). inr (wanted_in s ls k g)) (from_wanted k l (at_key s.claims l) (wanted_of s ls) h)

granted_own : (s : State) (pod : Key) (plan : Plan) (t : Holds s pod plan) (k : Key) → In k (map (λ g. g.claim) plan.grants) → In k (claims_of t.state)
unfolding wanted
granted_own s pod plan t k among =
    let p = t.state.pod.object in
    let grants : map (λ g. g.claim) plan.grants ≡ keys_in (wanted s p) = ap (λ gs. map (λ (g : Grant). g.claim) gs) t.allocation.cut ∙ keys_granted s (wanted s p) plan.node _ in
    wanted_in s (claims_of t.state) k (subst (λ (ks : List Key). In k ks) grants among)

joined_own : (s : State) (pod : Key) (plan : Plan) (t : Holds s pod plan) (k : Key) → In k plan.joins → In k (claims_of t.state)
unfolding joined
joined_own s pod plan t k among =
    (passed (λ l. has_grant (at_key s.claims l)) (claims_of t.state) k (subst (λ (ks : List Key). In k ks) t.joins among)).0

reserved : (s : State) (job : ℕ) (pod : Key) (plan : Plan) → Holds s pod plan → UsersFit s.pods s.claims → UsersFit (with_reserved job pod plan s).pods (with_reserved job pod plan s).claims
reserved s job pod plan t h =
    let ph : Phase = phase.Taken job plan.node in
    let pods' : Pods = with_phase pod ph s.pods in
    let p : PodState = t.state in
    let use_of : (k : Key) → In k (claims_of p) → Uses pods' k pod =
    λ k among. (record p { phase = ph }, changed_there pod (λ q. record q { phase = ph }) s.pods p t.idle.there, refl, among) in
    joins_fit pods' pod plan.joins (with_grants plan.node pod plan.grants s.claims) (λ k among. use_of k (joined_own s pod plan t k among))
    (grants_fit pods' plan.node pod plan.grants s.claims (λ k among. use_of k (granted_own s pod plan t k among))
    (all_stays s.pods pods' s.claims (busy_stays pod ph s.pods refl) h))

applied : SameClaims → (index : ℕ) (x : Object) (m : Mode) (s : State) → first_refusal s (Apply x m) ≡ None → Fit s → UsersFit s.pods s.claims → UsersFit (with_object index x s).pods (with_object index x s).claims
applied law index (object.Node x) m s free fit h = h
applied law index (object.Slice x) m s free fit h = h
applied law index (object.Class x) m s free fit h = h
applied law index (object.Claim x) m s free fit h = (
  once_put x.key (new_claim index x) (updated_claim index x) s.claims h.0,
  all_put (UserFits s.pods) x.key (new_claim index x) (updated_claim index x) s.claims h.1 (λ none. (tt, λ pod is. absurd (cc))) (λ c there f. f),
)
applied law index (object.Pod x) m s free fit h =
    all_stays s.pods _ s.claims
    (put_stays index x s.pods (at_key s.pods x.key) refl (λ p there. keys_same p.pod.object x (fit.1 x.key p there).0 ((law p.pod.object x).0 (pod_unchanged s x m p free there)))) h

idle_by : (b c : Bool) → when (b || c) InUse ≡ None → b ≡ false
idle_by true c e = absurd (cc)
idle_by false c e = refl

pub idle_of : (s : State) (key : Key) → first_refusal s (Delete (target.Pod key)) ≡ None → is_busy (at_key s.pods key) ≡ false
idle_of s key e = idle_by (is_busy (at_key s.pods key)) (is_user s key) (later_none (when (not (is_found s (target.Pod key))) NotFound) (when (is_in_use s (target.Pod key)) InUse) e)

deleted : (t : Target) (s : State) → first_refusal s (Delete t) ≡ None → UsersFit s.pods s.claims → UsersFit (without_object t s).pods (without_object t s).claims
deleted (target.Node name) s e h = h
deleted (target.Slice name) s e h = h
deleted (target.Class name) s e h = h
deleted (target.Claim key) s e h = (once_removed (is_at (key_cmp key)) s.claims h.0, λ k c at. h.1 k c (removed_case key k s.claims c h.0 at).1)
deleted (target.Pod key) s e h = all_stays s.pods _ s.claims (remove_stays key s.pods (idle_of s key e)) h

written : (index : ℕ) (pod claim : Key) (s : State) → UsersFit s.pods s.claims → UsersFit s.pods (with_written index pod claim s).claims
written index pod claim s h = (
  once_changed claim (written_by index pod) s.claims h.0,
  all_changed (UserFits s.pods) (UserFits s.pods) claim (written_by index pod) s.claims h.1 (λ c there f. marked s.pods claim pod c.users f) (λ k c differ f. f),
)

adopted : (index : ℕ) (claim : Key) (status : ClaimStatus) (s : State) → UsersFit s.pods s.claims → UsersFit s.pods (with_adopted index claim status s).claims
adopted index claim status s h = (
  once_changed claim (adopted_by index status) s.claims h.0,
  all_changed (UserFits s.pods) (UserFits s.pods) claim (adopted_by index status) s.claims h.1 (λ c there f. f) (λ k c differ f. f),
)

-- ---- a pod's uses taken away

-- the claim fits, and the pod is no user of it where it is one of these
abbrev Gone : (Key → Type 0) → Pods → Key → Key → ClaimState → Type 0
Gone G pods pod k c = UserFits pods k c × (G k → at_key c.users pod ≡ None)

freed_one : (index : ℕ) (pods : Pods) (pod claim : Key) (c : ClaimState) (o : Option Use) → at_key c.users pod ≡ o → UserFits pods claim c
    → UserFits pods claim (freed_by index pod o c) × (at_key (freed_by index pod o c).users pod ≡ None)
freed_one index pods pod claim c None is h = (h, is)
freed_one index pods pod claim c (Some u) is h = (less_users pods claim pod c.users h, gone pod c.users (once_of c.users h.0))

freed_each : (G : Key → Type 0) (index : ℕ) (pods : Pods) (pod : Key) (ks : List Key) (claims : Claims) → Once claims → AllAt (Gone G pods pod) claims
    → Once (with_freed index pod ks claims) × AllAt (Gone (λ k. G k ⊎ In k ks) pods pod) (with_freed index pod ks claims)
freed_each G index pods pod [] claims once h =
    (once, λ k c at. let f = h k c at in (f.0, λ g. ⊎_elim (λ (x : G k). f.1 x) (λ n. absurd n) g))
freed_each G index pods pod (j ∷ js) claims once h =
    let H : Key → Type 0 = λ k. G k ⊎ (j ≡ k) in
    let next : Claims = changed_at j (freed index pod) claims in
    let step : AllAt (Gone H pods pod) next =
    all_changed (Gone G pods pod) (Gone H pods pod) j (freed index pod) claims h
    (λ c there f. let r = freed_one index pods pod j c (at_key c.users pod) refl f.0 in (r.0, λ g. r.1))
    (λ k c differ f. (f.0, λ g. ⊎_elim (λ (x : G k). f.1 x) (λ (e : j ≡ k). absurd (differ (sym e))) g)) in
    let rest = freed_each H index pods pod js next (once_changed j (freed index pod) claims once) step in
    (rest.0, λ k c at. let f = rest.1 k c at in (f.0, λ g. f.1 (⊎_elim (λ (x : G k). inl (inl x)) (λ (y : (j ≡ k) ⊎ In k js). ⊎_elim (λ (e : j ≡ k). inl (inr e)) (λ (i : In k js). inr i) y) g)))

named_by : (claim : Key) (pods : Pods) (pod : Key) (o : Option PodState) → at_key pods pod ≡ o → Uses pods claim pod → In claim (claims_by o)
named_by claim pods pod None is u = absurd (let no : None ≡ Some u.0 = sym is ∙ u.1 in cc)
named_by claim pods pod (Some p) is u = subst (λ (q : PodState). In claim (claims_of q)) (some_same u.0 p (sym u.1 ∙ is)) u.3

-- since a pod names each claim that it uses, none has it as a user once those that it names have not
none_left : (pods : Pods) (claim pod l : Key) (c : ClaimState) → (l ≡ pod) ⊎ (l ≡ pod → ⊥) → UserFits pods claim c → (In claim (claims_by (at_key pods pod)) → at_key c.users pod ≡ None)
    → is_some (at_key c.users l) ≡ true → Uses (with_phase pod phase.Idle pods) claim l
none_left pods claim pod l c (inl e) f none is =
    let user : is_some (at_key c.users pod) ≡ true = ap (λ k. is_some (at_key c.users k)) (sym e) ∙ is in
    let free : at_key c.users pod ≡ None = none (named_by claim pods pod (at_key pods pod) refl (f.1 pod user)) in
    absurd (let no : false ≡ true = sym (ap is_some free) ∙ user in cc)
none_left pods claim pod l c (inr differ) f none is = other_phase pod phase.Idle pods claim l differ (f.1 l is)

unused_again : (index : ℕ) (pod : Key) (s : State) → UsersFit s.pods s.claims → UsersFit (without_uses index pod s).pods (without_uses index pod s).claims
unused_again index pod s h =
    let ks : List Key = claims_by (at_key s.pods pod) in
    let r = freed_each (λ k. ⊥) index s.pods pod ks s.claims h.0 (λ k c at. (h.1 k c at, λ n. absurd n)) in (
      r.0,
      λ k c at. let f = r.1 k c at in (f.0.0, λ l is. none_left s.pods k pod l c (same_or_not (key_cmp l pod) l pod refl) f.0 (λ among. f.1 (inr among)) is),
    )

-- ---- histories

fits_after : SameClaims → (before : List Entry) (index job : ℕ) (event : Event) → MayFollow before job event → Fit (state_of before) → UsersFit (state_of before).pods (state_of before).claims
    → UsersFit (after index job event (state_of before)).pods (after index job event (state_of before)).claims
fits_after law before index job (Applied x m) may fit h = applied law index x m (state_of before) may.unrefused fit h
fits_after law before index job (Deleted t) may fit h = deleted t (state_of before) may.unrefused h
fits_after law before index job (Reserved pod plan) may fit h = reserved (state_of before) job pod plan may.holds_now h
fits_after law before index job (Refused pod plan why) may fit h = h
fits_after law before index job (Wrote pod claim seen) may fit h = written index pod claim (state_of before) h
fits_after law before index job (Conflict pod claim had now) may fit h = h
fits_after law before index job (Unreserved pod) may fit h = unused_again index pod (state_of before) h
fits_after law before index job (Bound pod node) may fit h =
    all_stays (state_of before).pods _ (state_of before).claims (busy_stays pod (phase.Bound node) (state_of before).pods refl) h
fits_after law before index job (VerdictGiven pod verdict) may fit h = h
fits_after law before index job (Contended pod attempts) may fit h = h
fits_after law before index job (Released pod) may fit h = unused_again index pod (state_of before) h
fits_after law before index job (Adopted claim status) may fit h = adopted index claim status (state_of before) h
fits_after law before index job (Denied command refusal) may fit h = h

fits_first : UsersFit empty_state.pods empty_state.claims
fits_first = (tt, λ k c is. absurd (cc))

pub fits_now : SameClaims → (h : List Entry) → Legal h → UsersFit (state_of h).pods (state_of h).claims
fits_now law h legal =
    always_state (λ s. UsersFit s.pods s.claims) fits_first (λ g e l s p. fits_after law g (length g + 1) e.job e.event s.follows (fit_now law g l) p) h legal

busy_of : (s : State) → UsersFit s.pods s.claims → UsersAreBusy s
busy_of s h = record {
  each = each_at (λ k c. HasBusyUsers s.pods k c) s.claims h.0
      (λ k c at pod is. let u = (h.1 k c at).1 pod is in record { state = u.0; there = u.1; busy = u.2; named = in_contains k (claims_of u.0) u.3 });
}

pub busy_now : SameClaims → (h : List Entry) → Legal h → UsersAreBusy (state_of h)
busy_now law h legal = busy_of (state_of h) (fits_now law h legal)

pub busy_at : SameClaims → (h : List Entry) (index : ℕ) → Legal h → UsersAreBusy (state_at h index)
busy_at law h index legal = at_places UsersAreBusy (busy_now law) h index legal

-- ---- a pod that is neither taken nor bound is no user

none_by : (b : Bool) (pods : Pods) (claim pod : Key) (c : ClaimState) → is_some (at_key c.users pod) ≡ b → is_busy (at_key pods pod) ≡ false → HasBusyUsers pods claim c → b ≡ false
none_by true pods claim pod c is idle h =
    let u = h pod is in
    absurd (let no : true ≡ false = sym u.busy ∙ ap is_busy (sym u.there) ∙ idle in cc)
none_by false pods claim pod c is idle h = refl

none_in : (pods : Pods) (claims : Claims) (pod : Key) → is_busy (at_key pods pod) ≡ false → EachOf (λ e. HasBusyUsers pods e.0 e.1) claims → list_any (λ e. is_some (at_key e.1.users pod)) claims ≡ false
none_in pods [] pod idle h = refl
none_in pods (e ∷ es) pod idle h =
    ap (λ b. b || list_any (λ x. is_some (at_key x.1.users pod)) es) (none_by (is_some (at_key e.1.users pod)) pods e.0 pod e.1 refl idle h.0) ∙ none_in pods es pod idle h.1

pub idle_now : SameClaims → (h : List Entry) (pod : Key) → Legal h → is_busy (at_key (state_of h).pods pod) ≡ false → is_user (state_of h) pod ≡ false
idle_now law h pod legal idle = none_in (state_of h).pods (state_of h).claims pod idle (busy_now law h legal).each
