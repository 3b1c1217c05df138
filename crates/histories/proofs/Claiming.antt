-- A pod that is taken or bound uses each of its claims, in each state of a legal history.
use Rattle.std.proofs.Common.{ℕ, ◌+◌, ◌≡◌, ◌∙◌, ◌⊎◌, inl, inr, List, [], ◌∷◌, Bool, true, false, not, Option, None, Some, length, is_some, map, refl, sym, ap, subst, arith, ne_eqb}
use Rattle.std.specs.Prelude.{is_none, ◌==◌, ◌↔◌}
use Rattle.std.specs.List.{list_all}
use Rattle.std.specs.Map.{remove_entry, set_value}
use Rattle.std.specs.Option.{option_map_or}
use Rattle.std.specs.BTreeMap.{insert_entry, is_at}
use Rattle.std.proofs.lemmas.Bool.{and_from}
use Rattle.object_fields.specs.declared.key.Key.{Key}
use Rattle.api_claim.specs.declared.types.ClaimStatus.{ClaimStatus}
use Rattle.api_claim.specs.declared.types.ResourceClaim.{ResourceClaim}
use Rattle.api_cluster.specs.declared.types.Pod.{Pod}
use Rattle.api_cluster.specs.declared.types.PodResourceClaim.{PodResourceClaim}
use Rattle.pool_view.specs.Names.{at_key, key_cmp}
use Rattle.cluster.specs.declared.entry.Command.TheVariants.{Apply, Delete}
use Rattle.cluster.specs.declared.entry.Entry.{Entry}
use Rattle.cluster.specs.declared.entry.Event.{Event}
use Rattle.cluster.specs.declared.entry.Event.TheVariants.{Applied, Deleted, Reserved, Refused, Wrote, Conflict, Unreserved, Bound, VerdictGiven, Contended, Released, Adopted, Denied}
use Rattle.cluster.specs.declared.entry.Mode.{Mode}
use Rattle.cluster.specs.declared.entry.Refusal.{Refusal}
use Rattle.cluster.specs.declared.entry.Refusal.TheVariants.{InUse, NotFound}
use Rattle.cluster.specs.declared.object.Object.{Object}
use Rattle.cluster.specs.declared.object.Object.TheVariants as object
use Rattle.cluster.specs.declared.object.Target.{Target}
use Rattle.cluster.specs.declared.object.Target.TheVariants as target
use Rattle.cluster.specs.declared.plan.Grant.{Grant}
use Rattle.cluster.specs.declared.plan.Plan.{Plan}
use Rattle.cluster.specs.declared.state.ClaimState.{ClaimState}
use Rattle.cluster.specs.declared.state.Phase.TheVariants as phase
use Rattle.cluster.specs.declared.state.PodState.{PodState}
use Rattle.cluster.specs.declared.state.State.{State}
use Rattle.cluster.specs.declared.state.Use.{Use}
use Rattle.cluster.specs.declared.state.Use.TheVariants.{Assumed, Written}
use Rattle.cluster.specs.Adopted.{adopted_by, with_adopted}
use Rattle.cluster.specs.Applied.{new_claim, new_pod, updated_claim, updated_pod, with_object}
use Rattle.cluster.specs.Claims.{claim_keys, first_places}
use Rattle.cluster.specs.Deleted.{without_object}
use Rattle.cluster.specs.Denied.{first_refusal, has_user, is_busy, is_found, is_in_use, or_else, when}
use Rattle.cluster.specs.Events.{after}
use Rattle.cluster.specs.Freed.{claims_by, freed, freed_by, with_freed, without_uses}
use Rattle.cluster.specs.History.{state_at, state_of}
use Rattle.cluster.specs.Reserved.{joined_by, with_grant, with_grants, with_joins, with_reserved}
use Rattle.cluster.specs.Same.{same_pod_claims}
use Rattle.cluster.specs.State.{claims_of, empty_state, is_idle, is_written, use_in}
use Rattle.cluster.specs.Tables.{changed_at, put_at, with_phase}
use Rattle.cluster.specs.Wrote.{with_written, written_by}
use Rattle.allocations.specs.Claims.{joined, missing_claim, wanted}
use Rattle.plan_rules.specs.Plans.{Holds}
use Rattle.histories.specs.Bound.{MayBind}
use Rattle.histories.specs.Legal.{Legal, MayFollow}
use Rattle.histories.specs.Users.{PodsUseClaims}
use Rattle.histories.proofs.Applying.{pod_unchanged}
use Rattle.histories.proofs.GoingOn.{Assumes, Claims, In, all_kept, assumed_by, changed_other, changed_there, granted, keys_granted, none_passes, same_or_not, there_by}
use Rattle.histories.proofs.Headlines.{at_places}
use Rattle.histories.proofs.Always.{always_state}
use Rattle.histories.proofs.Keyed.{AllAt, Once, all_given, all_put, insert_other, once_changed, once_put, once_removed, remove_other, removed_case}

-- ---- uses that stay

-- what the pod uses there it uses here, and what is written there is written here
abbrev StayFor : Key → Option ClaimState → Option ClaimState → Type 0
StayFor pod old new = (is_some (use_in pod old) ≡ true → is_some (use_in pod new) ≡ true) × (is_written (use_in pod old) ≡ true → is_written (use_in pod new) ≡ true)

abbrev Stay : Key → Claims → Claims → Type 0
Stay pod old new = (k : Key) → StayFor pod (at_key old k) (at_key new k)

stay_then : (pod : Key) (a b c : Claims) → Stay pod a b → Stay pod b c → Stay pod a c
stay_then pod a b c f g = λ k. (λ e. (g k).0 ((f k).0 e), λ e. (g k).1 ((f k).1 e))

stay_none : (pod : Key) (new : Option ClaimState) → StayFor pod None new
stay_none pod new = (λ e. absurd (cc), λ e. absurd (cc))

stay_same : (pod : Key) (old new : Option ClaimState) → new ≡ old → StayFor pod old new
stay_same pod old new is = (λ e. ap (λ o. is_some (use_in pod o)) is ∙ e, λ e. ap (λ o. is_written (use_in pod o)) is ∙ e)

stay_at : (pod k : Key) (f : ClaimState → ClaimState) (t : Claims) (o : Option ClaimState) → at_key t k ≡ o → ((c : ClaimState) → StayFor pod (Some c) (Some (f c))) → StayFor pod (at_key t k) (at_key (changed_at k f t) k)
stay_at pod k f t None is step = subst (λ o. StayFor pod o (at_key (changed_at k f t) k)) (sym is) (stay_none pod _)
stay_at pod k f t (Some c) is step =
    subst (λ o. StayFor pod o (at_key (changed_at k f t) k)) (sym is) (subst (λ o. StayFor pod (Some c) o) (sym (changed_there k f t c is)) (step c))

stay_changed_by : (pod j k : Key) (f : ClaimState → ClaimState) (t : Claims) → (k ≡ j) ⊎ (k ≡ j → ⊥) → ((c : ClaimState) → StayFor pod (Some c) (Some (f c))) → StayFor pod (at_key t k) (at_key (changed_at j f t) k)
stay_changed_by pod j k f t (inl e) step = subst (λ (x : Key). StayFor pod (at_key t k) (at_key (changed_at x f t) k)) e (stay_at pod k f t (at_key t k) refl step)
stay_changed_by pod j k f t (inr differ) step = stay_same pod (at_key t k) (at_key (changed_at j f t) k) (changed_other j k f t differ)

stay_changed : (pod j : Key) (f : ClaimState → ClaimState) (t : Claims) → ((c : ClaimState) → StayFor pod (Some c) (Some (f c))) → Stay pod t (changed_at j f t)
stay_changed pod j f t step = λ k. stay_changed_by pod j k f t (same_or_not (key_cmp k j) k j refl) step

-- another pod's use changes nothing
other_use : (pod user : Key) (users : List (Key × Use)) (u : Use) → (pod ≡ user → ⊥)
    → (is_some (at_key users pod) ≡ true → is_some (at_key (insert_entry key_cmp users user u) pod) ≡ true) × (is_written (at_key users pod) ≡ true → is_written (at_key (insert_entry key_cmp users user u) pod) ≡ true)
other_use pod user users u differ =
    let same = insert_other user pod users u differ in
    (λ e. ap is_some same ∙ e, λ e. ap is_written same ∙ e)

stay_granted : (node : List ℕ) (pod user : Key) (gs : List Grant) (t : Claims) → (pod ≡ user → ⊥) → Stay pod t (with_grants node user gs t)
stay_granted node pod user [] t differ = λ k. stay_same pod (at_key t k) (at_key t k) refl
stay_granted node pod user (g ∷ gs) t differ =
    let next = with_grant node user g.claim g.results t in
    stay_then pod t next (with_grants node user gs next) (stay_changed pod g.claim (granted node user g) t (λ c. other_use pod user c.users (Assumed c.claim.version) differ)) (stay_granted node pod user gs next differ)

stay_joined : (pod user : Key) (ks : List Key) (t : Claims) → (pod ≡ user → ⊥) → Stay pod t (with_joins user ks t)
stay_joined pod user [] t differ = λ k. stay_same pod (at_key t k) (at_key t k) refl
stay_joined pod user (j ∷ js) t differ =
    let next = changed_at j (joined_by user) t in
    stay_then pod t next (with_joins user js next) (stay_changed pod j (joined_by user) t (λ c. other_use pod user c.users (Assumed c.claim.version) differ)) (stay_joined pod user js next differ)

own_use : (pod : Key) (users : List (Key × Use)) (o : Option Use) → at_key users pod ≡ o
    → (is_some (at_key users pod) ≡ true → is_some (at_key (changed_at pod (λ _. Written) users) pod) ≡ true) × (is_written (at_key users pod) ≡ true → is_written (at_key (changed_at pod (λ _. Written) users) pod) ≡ true)
own_use pod users None is = (λ e. absurd (let f : false ≡ true = sym (ap is_some is) ∙ e in cc), λ e. absurd (let f : false ≡ true = sym (ap is_written is) ∙ e in cc))
own_use pod users (Some u) is =
    let there = changed_there pod (λ _. Written) users u is in
    (λ e. ap is_some there, λ e. ap is_written there)

written_use : (pod user : Key) (users : List (Key × Use)) → (pod ≡ user) ⊎ (pod ≡ user → ⊥)
    → (is_some (at_key users pod) ≡ true → is_some (at_key (changed_at user (λ _. Written) users) pod) ≡ true) × (is_written (at_key users pod) ≡ true → is_written (at_key (changed_at user (λ _. Written) users) pod) ≡ true)
written_use pod user users (inl e) =
    subst (λ (x : Key). (is_some (at_key users pod) ≡ true → is_some (at_key (changed_at x (λ _. Written) users) pod) ≡ true) × (is_written (at_key users pod) ≡ true → is_written (at_key (changed_at x (λ _. Written) users) pod) ≡ true)) e
    (own_use pod users (at_key users pod) refl)
written_use pod user users (inr differ) =
    let same = changed_other user pod (λ _. Written) users differ in
    (λ e. ap is_some same ∙ e, λ e. ap is_written same ∙ e)

stay_put : (pod : Key) (index : ℕ) (x : ResourceClaim) (t : Claims) (o : Option ClaimState) → at_key t x.key ≡ o → Stay pod t (put_at x.key (new_claim index x) (updated_claim index x) t o)
stay_put pod index x t None is = λ k. stay_new k (same_or_not (key_cmp k x.key) k x.key refl)
  where
    stay_new : (k : Key) → (k ≡ x.key) ⊎ (k ≡ x.key → ⊥) → StayFor pod (at_key t k) (at_key (insert_entry key_cmp t x.key (new_claim index x)) k)
    stay_new k (inl e) = subst (λ o. StayFor pod o (at_key (insert_entry key_cmp t x.key (new_claim index x)) k)) (sym (ap (at_key t) e ∙ is)) (stay_none pod _)
    stay_new k (inr differ) = stay_same pod (at_key t k) _ (insert_other x.key k t (new_claim index x) differ)
stay_put pod index x t (Some c) is =
    subst (λ o. Stay pod t (option_map_or (λ v. set_value (is_at (key_cmp x.key)) t (updated_claim index x v)) o t)) is
    (stay_changed pod x.key (updated_claim index x) t (λ v. (λ e. e, λ e. e)))

unused_by : (pod : Key) (c : ClaimState) (us : List (Key × Use)) (new : Option ClaimState) → c.users ≡ us → has_user (Some c) ≡ false → StayFor pod (Some c) new
unused_by pod c [] new is none =
    (λ e. absurd (let f : false ≡ true = sym (ap (λ us. is_some (at_key us pod)) is) ∙ e in cc), λ e. absurd (let f : false ≡ true = sym (ap (λ us. is_written (at_key us pod)) is) ∙ e in cc))
unused_by pod c (u ∷ us) new is none =
    let some : not (length (u ∷ us) == 0) ≡ true = ap not (ne_eqb (length (u ∷ us)) 0 (λ e. omega (arith, e))) in
    absurd (let f : true ≡ false = sym some ∙ sym (ap (λ us. not (length us == 0)) is) ∙ none in cc)

unused : (pod : Key) (o new : Option ClaimState) → has_user o ≡ false → StayFor pod o new
unused pod None new none = stay_none pod new
unused pod (Some c) new none = unused_by pod c c.users new refl none

stay_removed_by : (pod key k : Key) (t : Claims) → (k ≡ key) ⊎ (k ≡ key → ⊥) → has_user (at_key t key) ≡ false → StayFor pod (at_key t k) (at_key (remove_entry (is_at (key_cmp key)) t) k)
stay_removed_by pod key k t (inl e) none = unused pod (at_key t k) _ (ap (λ x. has_user (at_key t x)) e ∙ none)
stay_removed_by pod key k t (inr differ) none = stay_same pod (at_key t k) _ (remove_other key k t differ)

freed_use : (pod user : Key) (index : ℕ) (c : ClaimState) (o : Option Use) → (pod ≡ user → ⊥) → StayFor pod (Some c) (Some (freed_by index user o c))
freed_use pod user index c None differ = (λ e. e, λ e. e)
freed_use pod user index c (Some u) differ =
    let same = remove_other user pod c.users differ in
    (λ e. ap is_some same ∙ e, λ e. ap is_written same ∙ e)

-- another pod's uses go
stay_freed : (index : ℕ) (pod user : Key) (ks : List Key) (t : Claims) → (pod ≡ user → ⊥) → Stay pod t (with_freed index user ks t)
stay_freed index pod user [] t differ = λ k. stay_same pod (at_key t k) (at_key t k) refl
stay_freed index pod user (j ∷ js) t differ =
    let next : Claims = changed_at j (freed index user) t in
    stay_then pod t next (with_freed index user js next) (stay_changed pod j (freed index user) t (λ c. freed_use pod user index c (at_key c.users user) differ))
    (stay_freed index pod user js next differ)

-- ---- pods that use their claims

abbrev pub Pods : Type 0
Pods = List (Key × PodState)

-- the pod is at its own key, and uses each of its claims where it is taken or bound
abbrev pub Fits : Claims → Key → PodState → Type 0
Fits claims key p =
    (p.pod.object.key ≡ key) × (is_busy (Some p) ≡ true → list_all (λ k. is_some (use_in key (at_key claims k))) (claims_of p) ≡ true)
    × ((node : List ℕ) → p.phase ≡ phase.Bound node → list_all (λ k. is_written (use_in key (at_key claims k))) (claims_of p) ≡ true)

abbrev pub AllFit : Claims → Pods → Type 0
AllFit claims pods = Once pods × AllAt (Fits claims) pods

fits_still : (old new : Claims) (key : Key) (p : PodState) → Stay key old new → Fits old key p → Fits new key p
fits_still old new key p stay h = (
  h.0,
  λ busy. all_kept (λ k. is_some (use_in key (at_key old k))) (λ k. is_some (use_in key (at_key new k))) (claims_of p) (λ k e. (stay k).0 e) (h.1 busy),
  λ node is. all_kept (λ k. is_written (use_in key (at_key old k))) (λ k. is_written (use_in key (at_key new k))) (claims_of p) (λ k e. (stay k).1 e) (h.2 node is),
)

all_still : (old new : Claims) (pods : Pods) → ((key : Key) → Stay key old new) → AllFit old pods → AllFit new pods
all_still old new pods stay h = (h.0, λ key p there. fits_still old new key p (stay key) (h.1 key p there))

-- a pod that is there was changed, and the claims too
all_set : (old new : Claims) (pod : Key) (f : PodState → PodState) (pods : Pods) (p : PodState) → at_key pods pod ≡ Some p → AllFit old pods → Fits new pod (f p) → ((key : Key) → (key ≡ pod → ⊥) → Stay key old new)
    → AllFit new (changed_at pod f pods)
all_set old new pod f pods p there h own stay =
    (once_changed pod f pods h.0, all_given (Fits old) (Fits new) pod f pods p there h.1 own (λ key q differ fits. fits_still old new key q (stay key differ) fits))

all_same : (claims : Claims) (key : Key) → Stay key claims claims
all_same claims key = λ k. stay_same key (at_key claims k) (at_key claims k) refl

-- ---- each change

abbrev named : Key → PodResourceClaim → Key
named k c = record { namespace = k.namespace; name = c.claim }

pub keys_same : (a b : Pod) → a.key ≡ b.key → a.claims ≡ b.claims → claim_keys a ≡ claim_keys b
keys_same a b key claims = ap (λ (k : Key). map (named k) a.claims) key ∙ ap (λ (cs : List PodResourceClaim). map (named b.key) cs) claims

abbrev pub SameClaims : Type 0
SameClaims = (a b : Pod) → (same_pod_claims a b ≡ true) ↔ (a.claims ≡ b.claims)

updated_fits : (claims : Claims) (index : ℕ) (x : Pod) (p : PodState) → claim_keys p.pod.object ≡ claim_keys x → Fits claims x.key p → Fits claims x.key (updated_pod index x p)
updated_fits claims index x p same h = (
  refl,
  λ busy. ap (λ ks. list_all (λ k. is_some (use_in x.key (at_key claims k))) (first_places [] ks)) (sym same) ∙ h.1 busy,
  λ node is. ap (λ ks. list_all (λ k. is_written (use_in x.key (at_key claims k))) (first_places [] ks)) (sym same) ∙ h.2 node is,
)

new_fits : (claims : Claims) (index : ℕ) (x : Pod) → Fits claims x.key (new_pod index x)
new_fits claims index x = (refl, λ busy. absurd (cc), λ node is. absurd (cc))

applied : SameClaims → (index : ℕ) (x : Object) (m : Mode) (s : State) → first_refusal s (Apply x m) ≡ None → AllFit s.claims s.pods → AllFit (with_object index x s).claims (with_object index x s).pods
applied law index (object.Node x) m s free h = h
applied law index (object.Slice x) m s free h = h
applied law index (object.Class x) m s free h = h
applied law index (object.Claim x) m s free h =
    all_still s.claims _ s.pods (λ key. stay_put key index x s.claims (at_key s.claims x.key) refl) h
applied law index (object.Pod x) m s free h = (
  once_put x.key (new_pod index x) (updated_pod index x) s.pods h.0,
  all_put (Fits s.claims) x.key (new_pod index x) (updated_pod index x) s.pods h.1 (λ none. new_fits s.claims index x)
      (λ p there fits. updated_fits s.claims index x p (keys_same p.pod.object x fits.0 ((law p.pod.object x).0 (pod_unchanged s x m p free there))) fits),
)

pub later_none : (first later : Option Refusal) → or_else first later ≡ None → later ≡ None
later_none None later e = e
later_none (Some r) later e = absurd (cc)

free_by : (b : Bool) → when b InUse ≡ None → b ≡ false
free_by true e = absurd (cc)
free_by false e = refl

free_of : (s : State) (t : Target) → first_refusal s (Delete t) ≡ None → is_in_use s t ≡ false
free_of s t e = free_by (is_in_use s t) (later_none (when (not (is_found s t)) NotFound) (when (is_in_use s t) InUse) e)

deleted : (t : Target) (s : State) → first_refusal s (Delete t) ≡ None → AllFit s.claims s.pods → AllFit (without_object t s).claims (without_object t s).pods
deleted (target.Node name) s free h = h
deleted (target.Slice name) s free h = h
deleted (target.Class name) s free h = h
deleted (target.Claim key) s free h =
    all_still s.claims _ s.pods (λ pod k. stay_removed_by pod key k s.claims (same_or_not (key_cmp k key) k key refl) (free_of s (target.Claim key) free)) h
deleted (target.Pod key) s free h =
    (once_removed (is_at (key_cmp key)) s.pods h.0, λ k q is. h.1 k q (removed_case key k s.pods q h.0 is).1)

each_passes : (f : Key → Bool) (ks : List Key) → ((k : Key) → In k ks → f k ≡ true) → list_all f ks ≡ true
each_passes f [] h = refl
each_passes f (k ∷ ks) h = and_from (f k) (list_all f ks) (h k (inl refl)) (each_passes f ks (λ l among. h l (inr among)))

each_held : (s : State) (pod : Key) (plan : Plan) (t : Holds s pod plan) (k : Key) → In k (claims_of t.state) → Assumes pod (with_joins pod plan.joins (with_grants plan.node pod plan.grants s.claims)) k
unfolding missing_claim wanted joined
each_held s pod plan t k among =
    let p = t.state.pod.object in
    let h = there_by (at_key s.claims k) (none_passes (λ l. is_none (at_key s.claims l)) (claims_of t.state) k t.there among) in
    let grants = ap (λ gs. map (λ (g : Grant). g.claim) gs) t.allocation.cut ∙ keys_granted s (wanted s p) plan.node _ in
    assumed_by s pod plan (claims_of t.state) k h.0 h.0.grant grants t.joins among h.1 refl

reserved : (s : State) (job : ℕ) (pod : Key) (plan : Plan) → Holds s pod plan → AllFit s.claims s.pods → AllFit (with_reserved job pod plan s).claims (with_reserved job pod plan s).pods
reserved s job pod plan t h =
    let new : Claims = (with_reserved job pod plan s).claims in
    let granted_claims : Claims = with_grants plan.node pod plan.grants s.claims in
    let p : PodState = t.state in
    all_set s.claims new pod (λ q. record q { phase = phase.Taken job plan.node }) s.pods p t.idle.there h (
      (h.1 pod p t.idle.there).0,
      λ busy. each_passes (λ k. is_some (use_in pod (at_key new k))) (claims_of p)
          (λ k among. let a = each_held s pod plan t k among in ap (λ o. is_some (use_in pod o)) a.1 ∙ ap is_some a.2),
      λ node is. absurd (cc),
    )
    (λ key differ. stay_then key s.claims granted_claims new (stay_granted plan.node key pod plan.grants s.claims differ) (stay_joined key pod plan.joins granted_claims differ))

wrote : (index : ℕ) (pod claim : Key) (s : State) → AllFit s.claims s.pods → AllFit (with_written index pod claim s).claims s.pods
wrote index pod claim s h =
    all_still s.claims _ s.pods (λ key. stay_changed key claim (written_by index pod) s.claims (λ c. written_use key pod c.users (same_or_not (key_cmp key pod) key pod refl))) h

bound : (s : State) (job : ℕ) (pod : Key) (node : List ℕ) → MayBind s pod job node → AllFit s.claims s.pods → AllFit s.claims (with_phase pod (phase.Bound node) s.pods)
bound s job pod node may h =
    let p : PodState = may.state in
    let fits = h.1 pod p may.taken.there in
    let busy : is_busy (Some p) ≡ true = ap (λ ph. not (is_idle ph)) may.taken.taken in
    all_set s.claims s.claims pod (λ q. record q { phase = phase.Bound node }) s.pods p may.taken.there h (fits.0, λ b. fits.1 busy, λ n is. may.written) (λ key differ. all_same s.claims key)

without_uses_by : (index : ℕ) (pod : Key) (claims : Claims) (pods : Pods) (o : Option PodState) → at_key pods pod ≡ o → AllFit claims pods
    → AllFit (with_freed index pod (claims_by o) claims) (option_map_or (λ p. set_value (is_at (key_cmp pod)) pods (record p { phase = phase.Idle })) o pods)
without_uses_by index pod claims pods None is h = h
without_uses_by index pod claims pods (Some p) is h =
    let new : Claims = with_freed index pod (claims_of p) claims in
    subst (λ (o : Option PodState). AllFit new (option_map_or (λ q. set_value (is_at (key_cmp pod)) pods (record q { phase = phase.Idle })) o pods)) is
    (all_set claims new pod (λ q. record q { phase = phase.Idle }) pods p is h ((h.1 pod p is).0, λ busy. absurd (cc), λ node e. absurd (cc))
    (λ key differ. stay_freed index key pod (claims_of p) claims differ))

-- a pod that is Idle again needs no use, and the others keep theirs
unused_again : (index : ℕ) (pod : Key) (s : State) → AllFit s.claims s.pods → AllFit (without_uses index pod s).claims (without_uses index pod s).pods
unused_again index pod s h = without_uses_by index pod s.claims s.pods (at_key s.pods pod) refl h

adopted : (index : ℕ) (claim : Key) (status : ClaimStatus) (s : State) → AllFit s.claims s.pods → AllFit (with_adopted index claim status s).claims s.pods
adopted index claim status s h = all_still s.claims _ s.pods (λ key. stay_changed key claim (adopted_by index status) s.claims (λ c. (λ e. e, λ e. e))) h

-- an entry that may be appended keeps it
fit_after : SameClaims → (before : List Entry) (index job : ℕ) (event : Event) → MayFollow before job event → AllFit (state_of before).claims (state_of before).pods
    → AllFit (after index job event (state_of before)).claims (after index job event (state_of before)).pods
fit_after law before index job (Applied x m) may h = applied law index x m (state_of before) may.unrefused h
fit_after law before index job (Deleted t) may h = deleted t (state_of before) may.unrefused h
fit_after law before index job (Reserved pod plan) may h = reserved (state_of before) job pod plan may.holds_now h
fit_after law before index job (Refused pod plan why) may h = h
fit_after law before index job (Wrote pod claim seen) may h = wrote index pod claim (state_of before) h
fit_after law before index job (Conflict pod claim had now) may h = h
fit_after law before index job (Unreserved pod) may h = unused_again index pod (state_of before) h
fit_after law before index job (Bound pod node) may h = bound (state_of before) job pod node may h
fit_after law before index job (VerdictGiven pod verdict) may h = h
fit_after law before index job (Contended pod attempts) may h = h
fit_after law before index job (Released pod) may h = unused_again index pod (state_of before) h
fit_after law before index job (Adopted claim status) may h = adopted index claim status (state_of before) h
fit_after law before index job (Denied command refusal) may h = h

abbrev pub Fit : State → Type 0
Fit s = AllFit s.claims s.pods

fit_first : Fit empty_state
fit_first = (tt, λ key p is. absurd (cc))

pub fit_now : SameClaims → (h : List Entry) → Legal h → Fit (state_of h)
fit_now law h legal = always_state Fit fit_first (λ g e l s p. fit_after law g (length g + 1) e.job e.event s.follows p) h legal

uses_of : (s : State) → Fit s → PodsUseClaims s
uses_of s h = record {
  each = λ key p there. let fits = h.1 key p there in record { own = fits.0; used = fits.1; written = fits.2 };
}

pub use_now : SameClaims → (h : List Entry) → Legal h → PodsUseClaims (state_of h)
use_now law h legal = uses_of (state_of h) (fit_now law h legal)

pub use_at : SameClaims → (h : List Entry) (index : ℕ) → Legal h → PodsUseClaims (state_at h index)
use_at law h index legal = at_places PodsUseClaims (use_now law) h index legal
