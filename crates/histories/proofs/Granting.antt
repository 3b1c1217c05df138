-- A claim with a user has a grant, on the node of each pod that uses it, in each state of a legal history.
use Rattle.std.proofs.Common.{ℕ, zero, suc, ◌<◌, ◌+◌, ◌≡◌, ◌∙◌, ◌⊎◌, inl, inr, ⊎_elim, List, [], ◌∷◌, ◌++◌, Bool, true, false, not, ◌&&◌, cond, Option, None, Some, length, map, is_some, get_or, refl, sym, ap, subst, arith}
use Rattle.std.specs.List.{Contains, list_all}
use Rattle.std.specs.Map.{remove_entry, set_value}
use Rattle.std.specs.Option.{option_map_or}
use Rattle.std.specs.Ordering.{is_eq}
use Rattle.std.specs.Prelude.{option_map}
use Rattle.std.specs.BTreeMap.{insert_entry, is_at}
use Rattle.std.specs.Cmp.Lexicographic.{same_text}
use Rattle.object_fields.specs.declared.key.Key.{Key}
use Rattle.api_claim.specs.declared.types.ClaimStatus.{ClaimStatus}
use Rattle.api_claim.specs.declared.types.ResourceClaim.{ResourceClaim}
use Rattle.api_cluster.specs.declared.types.Pod.{Pod}
use Rattle.pool_view.specs.Names.{at_key, key_cmp, text_eq}
use Rattle.cluster.specs.declared.entry.Command.TheVariants.{Delete}
use Rattle.cluster.specs.declared.entry.Entry.{Entry}
use Rattle.cluster.specs.declared.entry.Event.{Event}
use Rattle.cluster.specs.declared.entry.Event.TheVariants.{Applied, Deleted, Reserved, Refused, Wrote, Conflict, Unreserved, Bound, VerdictGiven, Contended, Released, Adopted, Denied}
use Rattle.cluster.specs.declared.object.Object.{Object}
use Rattle.cluster.specs.declared.object.Object.TheVariants as object
use Rattle.cluster.specs.declared.object.Target.{Target}
use Rattle.cluster.specs.declared.object.Target.TheVariants as target
use Rattle.cluster.specs.declared.plan.Grant.{Grant}
use Rattle.cluster.specs.declared.plan.Plan.{Plan}
use Rattle.cluster.specs.declared.state.ClaimState.{ClaimState}
use Rattle.cluster.specs.declared.state.Granted.{Granted}
use Rattle.cluster.specs.declared.state.Phase.{Phase}
use Rattle.cluster.specs.declared.state.Phase.TheVariants as phase
use Rattle.cluster.specs.declared.state.PodState.{PodState}
use Rattle.cluster.specs.declared.state.State.{State}
use Rattle.cluster.specs.declared.state.Use.{Use}
use Rattle.cluster.specs.declared.state.Use.TheVariants.{Assumed}
use Rattle.cluster.specs.Adopted.{adopted_by, with_adopted}
use Rattle.cluster.specs.Applied.{new_claim, new_pod, updated_claim, updated_pod, with_object}
use Rattle.cluster.specs.Deleted.{without_object}
use Rattle.cluster.specs.Denied.{first_refusal, is_busy}
use Rattle.cluster.specs.Events.{after}
use Rattle.cluster.specs.Freed.{claims_by, freed, freed_by, grant_left, with_freed, without_user, without_uses}
use Rattle.cluster.specs.History.{state_at, state_of}
use Rattle.cluster.specs.Reserved.{joined_by, with_grant, with_grants, with_joins, with_reserved}
use Rattle.cluster.specs.State.{claims_of, is_idle, use_in}
use Rattle.cluster.specs.Tables.{changed_at, put_at, with_phase}
use Rattle.cluster.specs.Wrote.{as_published, with_written, written_by}
use Rattle.allocations.specs.Claims.{add_ungranted, add_wanted, has_grant, is_elsewhere, joined, other_claim, wanted, wanted_of}
use Rattle.plan_rules.specs.Plans.{Holds}
use Rattle.histories.specs.Granted.{HasGrantOn, UsersAreGranted, node_of}
use Rattle.histories.specs.Legal.{Legal, MayFollow, Step}
use Rattle.histories.proofs.Adopting.{adopted_free}
use Rattle.histories.proofs.Always.{always}
use Rattle.histories.proofs.Claiming.{Fits, Pods, SameClaims, fit_now}
use Rattle.histories.proofs.GoingOn.{Claims, In, changed_other, changed_there, granted, key_same, keys_granted, keys_in, none_passes, same_or_not}
use Rattle.histories.proofs.Headlines.{at_places, prefix_legal, step_at}
use Rattle.histories.proofs.Histories.{Legal-more, state_of-empty, state_of-more}
use Rattle.histories.proofs.Keyed.{AllAt, all_changed, all_put, insert_other, passed, remove_other, removed_case, removed_none, some_same}
use Rattle.histories.proofs.Using.{Users, UsersFit, fits_now, idle_of, user_case, written_users}

-- the pod is there, and taken for the node or bound to it
abbrev Has : Pods → Key → List ℕ → Type 0
Has pods pod node = (p : PodState) × (at_key pods pod ≡ Some p) × (node_of p.phase ≡ Some node)

-- the claim has a grant, on the pod's node
abbrev OnNode : Pods → ClaimState → Key → Type 0
OnNode pods c pod = (g : Granted) × (c.grant ≡ Some g) × Has pods pod g.node

-- so has each of its users
abbrev GrantFits : Pods → Key → ClaimState → Type 0
GrantFits pods k c = (l : Key) → is_some (at_key c.users l) ≡ true → OnNode pods c l

abbrev GrantsFit : Pods → Claims → Type 0
GrantsFit pods claims = AllAt (GrantFits pods) claims

-- ---- pods that stay on their node

abbrev Stays : Pods → Pods → Type 0
Stays pods pods' = (l : Key) (node : List ℕ) → Has pods l node → Has pods' l node

fits_stay : (pods pods' : Pods) (claims : Claims) → Stays pods pods' → GrantsFit pods claims → GrantsFit pods' claims
fits_stay pods pods' claims stays h = λ k c at l is. let f = h k c at l is in (f.0, f.1, stays l f.0.node f.2)

phase_by : (pod l : Key) (ph : Phase) (pods : Pods) (p : PodState) (node : List ℕ) → (l ≡ pod) ⊎ (l ≡ pod → ⊥) → at_key pods pod ≡ Some p → (node_of p.phase ≡ Some node → node_of ph ≡ Some node)
    → Has pods l node → Has (with_phase pod ph pods) l node
phase_by pod l ph pods p node (inl e) there same h =
    let is : h.0 ≡ p = some_same h.0 p (sym h.1 ∙ ap (at_key pods) e ∙ there) in (
      record p { phase = ph },
      ap (at_key (with_phase pod ph pods)) e ∙ changed_there pod (λ q. record q { phase = ph }) pods p there,
      same (ap (λ (q : PodState). node_of q.phase) (sym is) ∙ h.2),
    )
phase_by pod l ph pods p node (inr differ) there same h = (h.0, changed_other pod l (λ q. record q { phase = ph }) pods differ ∙ h.1, h.2)

-- a pod's phase changes, and its node, if it has one, stays
phase_stays : (pod : Key) (ph : Phase) (pods : Pods) (p : PodState) → at_key pods pod ≡ Some p → ((node : List ℕ) → node_of p.phase ≡ Some node → node_of ph ≡ Some node) → Stays pods (with_phase pod ph pods)
phase_stays pod ph pods p there same = λ l node h. phase_by pod l ph pods p node (same_or_not (key_cmp l pod) l pod refl) there (same node) h

updated_by : (index : ℕ) (x : Pod) (pods : Pods) (l : Key) (node : List ℕ) → (l ≡ x.key) ⊎ (l ≡ x.key → ⊥) → Has pods l node → Has (changed_at x.key (updated_pod index x) pods) l node
updated_by index x pods l node (inl e) h =
    (updated_pod index x h.0, ap (at_key (changed_at x.key (updated_pod index x) pods)) e ∙ changed_there x.key (updated_pod index x) pods h.0 (ap (at_key pods) (sym e) ∙ h.1), h.2)
updated_by index x pods l node (inr differ) h = (h.0, changed_other x.key l (updated_pod index x) pods differ ∙ h.1, h.2)

put_stays : (index : ℕ) (x : Pod) (pods : Pods) (o : Option PodState) → at_key pods x.key ≡ o → Stays pods (put_at x.key (new_pod index x) (updated_pod index x) pods o)
put_stays index x pods None is =
    λ l node h.
    let differ : l ≡ x.key → ⊥ = λ e. let no : None ≡ Some h.0 = sym is ∙ ap (at_key pods) (sym e) ∙ h.1 in cc in
    (h.0, insert_other x.key l pods (new_pod index x) differ ∙ h.1, h.2)
put_stays index x pods (Some p) is =
    subst (λ (o : Option PodState). Stays pods (option_map_or (λ v. set_value (is_at (key_cmp x.key)) pods (updated_pod index x v)) o pods)) is
    (λ l node h. updated_by index x pods l node (same_or_not (key_cmp l x.key) l x.key refl) h)

has_node : (ph : Phase) (node : List ℕ) → node_of ph ≡ Some node → not (is_idle ph) ≡ true
has_node phase.Idle node e = absurd (cc)
has_node (phase.Taken job n) node e = refl
has_node (phase.Bound n) node e = refl

remove_stays : (key : Key) (pods : Pods) → is_busy (at_key pods key) ≡ false → Stays pods (remove_entry (is_at (key_cmp key)) pods)
remove_stays key pods idle =
    λ l node h.
    let differ : l ≡ key → ⊥ = λ e. let no : true ≡ false = sym (has_node h.0.phase node h.2) ∙ ap is_busy (sym h.1) ∙ ap (λ k. is_busy (at_key pods k)) e ∙ idle in cc in
    (h.0, remove_other key l pods differ ∙ h.1, h.2)

-- ---- a plan's grants

-- each user of the claim is on the node
abbrev AllOn : Pods → List ℕ → ClaimState → Type 0
AllOn pods node c = (l : Key) → is_some (at_key c.users l) ≡ true → Has pods l node

-- the claim has its grant on the node
abbrev IsOn : List ℕ → ClaimState → Type 0
IsOn node c = (g : Granted) × (c.grant ≡ Some g) × (g.node ≡ node)

-- it fits; each of these that are to be granted has users on the node alone, and each that is to be joined its grant there
abbrev Ready : Pods → List ℕ → List Key → List Key → Key → ClaimState → Type 0
Ready pods node grants joins k c = GrantFits pods k c × (In k grants → AllOn pods node c) × (In k joins → IsOn node c)

one_more : (pods : Pods) (node : List ℕ) (pod l : Key) (us : Users) (u : Use) → Has pods pod node → (is_some (at_key us l) ≡ true → Has pods l node) → is_some (at_key (insert_entry key_cmp us pod u) l) ≡ true → Has pods l node
one_more pods node pod l us u new old is =
    ⊎_elim (λ (e : l ≡ pod). subst (λ (x : Key). Has pods x node) (sym e) new) old (user_case us pod l u (same_or_not (key_cmp l pod) l pod refl) is)

grants_ready : (pods : Pods) (node : List ℕ) (pod : Key) (gs : List Grant) (joins : List Key) (claims : Claims) → Has pods pod node → AllAt (Ready pods node (map (λ g. g.claim) gs) joins) claims
    → AllAt (Ready pods node [] joins) (with_grants node pod gs claims)
grants_ready pods node pod [] joins claims new h = h
grants_ready pods node pod (g ∷ gs) joins claims new h =
    grants_ready pods node pod gs joins (with_grant node pod g.claim g.results claims) new
    (all_changed (Ready pods node (g.claim ∷ map (λ x. x.claim) gs) joins) (Ready pods node (map (λ x. x.claim) gs) joins) g.claim (granted node pod g) claims h
    (λ c there f.
    let on : AllOn pods node (granted node pod g c) = λ l is. one_more pods node pod l c.users (Assumed c.claim.version) new (f.1 (inl refl) l) is in
    (λ l is. (record { node = node; results = g.results; published = false }, refl, on l is), λ among. on, λ among. (record { node = node; results = g.results; published = false }, refl, refl)))
    (λ k c differ f. (f.0, λ among. f.1 (inr among), f.2)))

joins_fit : (pods : Pods) (node : List ℕ) (pod : Key) (ks : List Key) (claims : Claims) → Has pods pod node → AllAt (Ready pods node [] ks) claims → GrantsFit pods (with_joins pod ks claims)
joins_fit pods node pod [] claims new h = λ k c at. (h k c at).0
joins_fit pods node pod (j ∷ js) claims new h =
    joins_fit pods node pod js (changed_at j (joined_by pod) claims) new
    (all_changed (Ready pods node [] (j ∷ js)) (Ready pods node [] js) j (joined_by pod) claims h
    (λ c there f.
    let g = f.2 (inl refl) in (
      λ l is. ⊎_elim (λ (e : l ≡ pod). (g.0, g.1, subst (λ (x : Key). Has pods x g.0.node) (sym e) (subst (λ (n : List ℕ). Has pods pod n) (sym g.2) new)))
          (λ (old : is_some (at_key c.users l) ≡ true). f.0 l old) (user_case c.users pod l (Assumed c.claim.version) (same_or_not (key_cmp l pod) l pod refl) is),
      λ among. absurd among,
      λ among. f.2 (inr among),
    ))
    (λ k c differ f. (f.0, f.1, λ among. f.2 (inr among))))

free_ungranted : (s : State) (k l : Key) (c : ClaimState) (g : Option Granted) (cs : List ResourceClaim) → at_key s.claims l ≡ Some c → c.grant ≡ g → In k (keys_in (add_ungranted l c g cs))
    → ((d : ClaimState) → at_key s.claims k ≡ Some d → In k (keys_in cs) → d.grant ≡ None) → (d : ClaimState) → at_key s.claims k ≡ Some d → d.grant ≡ None
free_ungranted s k l c None cs is free (inl e) later d at =
    ap (λ (x : ClaimState). x.grant) (some_same d c (sym at ∙ ap (at_key s.claims) (sym e) ∙ is)) ∙ free
free_ungranted s k l c None cs is free (inr h) later d at = later d at h
free_ungranted s k l c (Some g) cs is free h later d at = later d at h

free_wanted : (s : State) (k l : Key) (o : Option ClaimState) (cs : List ResourceClaim) → at_key s.claims l ≡ o → In k (keys_in (add_wanted l o cs))
    → ((d : ClaimState) → at_key s.claims k ≡ Some d → In k (keys_in cs) → d.grant ≡ None) → (d : ClaimState) → at_key s.claims k ≡ Some d → d.grant ≡ None
free_wanted s k l None cs is h later d at = later d at h
free_wanted s k l (Some c) cs is h later d at = free_ungranted s k l c c.grant cs is refl h later d at

-- a claim that is wanted has no grant
wanted_free : (s : State) (ks : List Key) (k : Key) → In k (keys_in (wanted_of s ks)) → (c : ClaimState) → at_key s.claims k ≡ Some c → c.grant ≡ None
wanted_free s [] k h c at = absurd h
wanted_free s (l ∷ ls) k h c at = free_wanted s k l (at_key s.claims l) (wanted_of s ls) refl h (λ d there among. wanted_free s ls k among d there) c at

here_by : (node : List ℕ) (c : ClaimState) (o : Option Granted) → c.grant ≡ o → is_some o ≡ true → is_elsewhere node (Some c) ≡ false → IsOn node c
here_by node c None is some off = absurd (cc)
here_by node c (Some g) is some off =
    let same : not (text_eq g.node node) ≡ false = ap (λ o. is_elsewhere node (Some (record c { grant = o }))) (sym is) ∙ off in
    (g, is, same_text g.node node (sym (not_off (text_eq g.node node) same)))
  where
    not_off : (b : Bool) → not b ≡ false → b ≡ true
    not_off true e = refl
    not_off false e = absurd (cc)

no_grant_no_user : (pods : Pods) (k : Key) (c : ClaimState) → c.grant ≡ None → GrantFits pods k c → (l : Key) → is_some (at_key c.users l) ≡ true → ⊥
no_grant_no_user pods k c none f l is = let g = f l is in let no : None ≡ Some g.0 = sym none ∙ g.1 in absurd (cc)

reserved : (s : State) (job : ℕ) (pod : Key) (plan : Plan) → Holds s pod plan → GrantsFit s.pods s.claims → GrantsFit (with_reserved job pod plan s).pods (with_reserved job pod plan s).claims
unfolding wanted joined other_claim
reserved s job pod plan t h =
    let ph : Phase = phase.Taken job plan.node in
    let pods' : Pods = with_phase pod ph s.pods in
    let p : PodState = t.state in
    let idle : (node : List ℕ) → node_of p.phase ≡ Some node → node_of ph ≡ Some node = λ node e. absurd (let no : None ≡ Some node = sym (ap node_of t.idle.idle) ∙ e in cc) in
    let first : GrantsFit pods' s.claims = fits_stay s.pods pods' s.claims (phase_stays pod ph s.pods p t.idle.there idle) h in
    let new : Has pods' pod plan.node = (record p { phase = ph }, changed_there pod (λ q. record q { phase = ph }) s.pods p t.idle.there, refl) in
    let grants : map (λ g. g.claim) plan.grants ≡ keys_in (wanted_of s (claims_of p)) = ap (λ gs. map (λ (g : Grant). g.claim) gs) t.allocation.cut ∙ keys_granted s (wanted s p.pod.object) plan.node _ in
    let ready : AllAt (Ready pods' plan.node (map (λ g. g.claim) plan.grants) plan.joins) s.claims =
    λ k c at. (
      first k c at,
      λ among l is. absurd (no_grant_no_user pods' k c (wanted_free s (claims_of p) k (subst (λ (ks : List Key). In k ks) grants among) c at) (first k c at) l is),
      λ among.
          let own = passed (λ l. has_grant (at_key s.claims l)) (claims_of p) k (subst (λ (ks : List Key). In k ks) t.joins among) in
          let off = none_passes (λ l. is_elsewhere plan.node (at_key s.claims l)) (claims_of p) k t.here own.0 in
          here_by plan.node c c.grant refl (ap has_grant (sym at) ∙ own.1) (ap (is_elsewhere plan.node) (sym at) ∙ off),
    ) in
    joins_fit pods' plan.node pod plan.joins (with_grants plan.node pod plan.grants s.claims) new (grants_ready pods' plan.node pod plan.grants plan.joins s.claims new ready)

-- ---- each other change

applied : (index : ℕ) (x : Object) (s : State) → GrantsFit s.pods s.claims → GrantsFit (with_object index x s).pods (with_object index x s).claims
applied index (object.Node x) s h = h
applied index (object.Slice x) s h = h
applied index (object.Class x) s h = h
applied index (object.Claim x) s h = all_put (GrantFits s.pods) x.key (new_claim index x) (updated_claim index x) s.claims h (λ none l is. absurd (cc)) (λ c there f. f)
applied index (object.Pod x) s h = fits_stay s.pods _ s.claims (put_stays index x s.pods (at_key s.pods x.key) refl) h

deleted : (t : Target) (s : State) → first_refusal s (Delete t) ≡ None → UsersFit s.pods s.claims → GrantsFit s.pods s.claims → GrantsFit (without_object t s).pods (without_object t s).claims
deleted (target.Node name) s free u h = h
deleted (target.Slice name) s free u h = h
deleted (target.Class name) s free u h = h
deleted (target.Claim key) s free u h = λ k c at. h k c (removed_case key k s.claims c u.0 at).1
deleted (target.Pod key) s free u h = fits_stay s.pods _ s.claims (remove_stays key s.pods (idle_of s key free)) h

written : (index : ℕ) (pod claim : Key) (s : State) → GrantsFit s.pods s.claims → GrantsFit s.pods (with_written index pod claim s).claims
written index pod claim s h =
    all_changed (GrantFits s.pods) (GrantFits s.pods) claim (written_by index pod) s.claims h
    (λ c there f l is.
    let g = f l (sym (written_users pod l c.users (at_key c.users pod)) ∙ is) in
    (as_published g.0, ap (option_map as_published) g.1, g.2))
    (λ k c differ f. f)

adopted : (index : ℕ) (claim : Key) (status : ClaimStatus) (s : State) (c : ClaimState) → at_key s.claims claim ≡ Some c → c.grant ≡ None → GrantsFit s.pods s.claims → GrantsFit s.pods (with_adopted index claim status s).claims
adopted index claim status s c there free h =
    all_changed (GrantFits s.pods) (GrantFits s.pods) claim (adopted_by index status) s.claims h
    (λ d at f l is.
    let none : d.grant ≡ None = ap (λ (x : ClaimState). x.grant) (some_same d c (sym at ∙ there)) ∙ free in
    absurd (no_grant_no_user s.pods claim d none f l is))
    (λ k d differ f. f)

-- ---- a pod's uses taken away

left_by : (us : Users) (test : Key → Bool) (l : Key) (o : Option Use) → at_key us l ≡ o → is_some (at_key (remove_entry test us) l) ≡ true → is_some o ≡ true
left_by us test l None none is = absurd (let no : false ≡ true = sym (ap is_some (removed_none test l us none)) ∙ is in cc)
left_by us test l (Some u) there is = refl

left_grant : (us : Users) (l : Key) (grant : Option Granted) → is_some (at_key us l) ≡ true → grant_left us grant ≡ grant
left_grant [] l grant is = absurd (cc)
left_grant (u ∷ us) l grant is = refl

freed_one : (index : ℕ) (pods : Pods) (pod k : Key) (c : ClaimState) (o : Option Use) → GrantFits pods k c → GrantFits pods k (freed_by index pod o c)
freed_one index pods pod k c None f = f
freed_one index pods pod k c (Some u) f =
    λ l is.
    let g = f l (left_by c.users (is_at (key_cmp pod)) l (at_key c.users l) refl is) in
    (g.0, left_grant (without_user pod c.users) l c.grant is ∙ g.1, g.2)

freed_each : (index : ℕ) (pods : Pods) (pod : Key) (ks : List Key) (claims : Claims) → GrantsFit pods claims → GrantsFit pods (with_freed index pod ks claims)
freed_each index pods pod [] claims h = h
freed_each index pods pod (j ∷ js) claims h =
    freed_each index pods pod js (changed_at j (freed index pod) claims)
    (all_changed (GrantFits pods) (GrantFits pods) j (freed index pod) claims h (λ c there f. freed_one index pods pod j c (at_key c.users pod) f) (λ k c differ f. f))

idle_by : (pod : Key) (pods : Pods) (o : Option PodState) → at_key pods pod ≡ o → is_busy (at_key (with_phase pod phase.Idle pods) pod) ≡ false
idle_by pod pods None is =
    let same : with_phase pod phase.Idle pods ≡ pods = ap (λ o. option_map_or (λ (p : PodState). set_value (is_at (key_cmp pod)) pods (record p { phase = phase.Idle })) o pods) is in
    ap (λ ps. is_busy (at_key ps pod)) same ∙ ap is_busy is
idle_by pod pods (Some p) is = ap is_busy (changed_there pod (λ q. record q { phase = phase.Idle }) pods p is)

-- a pod that is taken or bound is another than the one that is Idle now
pub idle_again : (pod l : Key) (pods : Pods) (p : PodState) → at_key (with_phase pod phase.Idle pods) l ≡ Some p → is_busy (Some p) ≡ true → l ≡ pod → ⊥
idle_again pod l pods p there busy e =
    let no : true ≡ false = sym busy ∙ ap is_busy (sym there) ∙ ap (λ x. is_busy (at_key (with_phase pod phase.Idle pods) x)) e ∙ idle_by pod pods (at_key pods pod) refl in
    absurd (cc)

-- who uses a claim afterwards is another pod, since the users are taken or bound
unused_again : (index : ℕ) (pod : Key) (s : State) → UsersFit (without_uses index pod s).pods (without_uses index pod s).claims → GrantsFit s.pods s.claims → GrantsFit (without_uses index pod s).pods (without_uses index pod s).claims
unused_again index pod s u h =
    let f = freed_each index s.pods pod (claims_by (at_key s.pods pod)) s.claims h in
    λ k c at l is.
    let g = f k c at l is in
    let user = (u.1 k c at).1 l is in
    let differ = idle_again pod l s.pods user.0 user.1 user.2 in
    (g.0, g.1, (g.2.0, changed_other pod l (λ q. record q { phase = phase.Idle }) s.pods differ ∙ g.2.1, g.2.2))

-- ---- histories

fits_after : (before : List Entry) (index job : ℕ) (event : Event) → MayFollow before job event → UsersFit (state_of before).pods (state_of before).claims
    → UsersFit (after index job event (state_of before)).pods (after index job event (state_of before)).claims → GrantsFit (state_of before).pods (state_of before).claims
    → GrantsFit (after index job event (state_of before)).pods (after index job event (state_of before)).claims
fits_after before index job (Applied x m) may u v h = applied index x (state_of before) h
fits_after before index job (Deleted t) may u v h = deleted t (state_of before) may.unrefused u h
fits_after before index job (Reserved pod plan) may u v h = reserved (state_of before) job pod plan may.holds_now h
fits_after before index job (Refused pod plan why) may u v h = h
fits_after before index job (Wrote pod claim seen) may u v h = written index pod claim (state_of before) h
fits_after before index job (Conflict pod claim had now) may u v h = h
fits_after before index job (Unreserved pod) may u v h = unused_again index pod (state_of before) v h
fits_after before index job (Bound pod node) may u v h =
    fits_stay (state_of before).pods _ (state_of before).claims
    (phase_stays pod (phase.Bound node) (state_of before).pods may.state may.taken.there (λ n e. sym (ap node_of may.taken.taken) ∙ e)) h
fits_after before index job (VerdictGiven pod verdict) may u v h = h
fits_after before index job (Contended pod attempts) may u v h = h
fits_after before index job (Released pod) may u v h = unused_again index pod (state_of before) v h
fits_after before index job (Adopted claim status) may u v h =
    let free = adopted_free (state_of before) claim status may in adopted index claim status (state_of before) free.0 free.1 free.2 h
fits_after before index job (Denied command refusal) may u v h = h

abbrev GrantsNow : List Entry → Type 0
GrantsNow h = GrantsFit (state_of h).pods (state_of h).claims

grants_more : SameClaims → (h : List Entry) (e : Entry) → Legal h → GrantsNow h → (step : Step h e) → GrantsNow (h ++ e ∷ [])
grants_more law h e legal g step =
    let next = state_of-more h e in
    let v = subst (λ (s : State). UsersFit s.pods s.claims) next (fits_now law (h ++ e ∷ []) (Legal-more h e legal step)) in
    subst (λ (s : State). GrantsFit s.pods s.claims) (sym next) (fits_after h (length h + 1) e.job e.event step.follows (fits_now law h legal) v g)

grants_first : GrantsNow []
grants_first = subst (λ (s : State). GrantsFit s.pods s.claims) (sym state_of-empty) (λ k c at. absurd (cc))

grants_now : SameClaims → (h : List Entry) → Legal h → GrantsNow h
grants_now law h legal = always GrantsNow grants_first (grants_more law) h legal

-- ---- what is said of a state

no_users : (pods : Pods) (k : Key) (c : ClaimState) (us : Users) → c.users ≡ us → c.grant ≡ None → GrantFits pods k c → us ≡ []
no_users pods k c [] is none f = refl
no_users pods k c (u ∷ us) is none f =
    let first : is_some (at_key (u ∷ us) u.0) ≡ true = ap (λ o. is_some (cond (is_eq o) (Some u.1) (at_key us u.0))) (key_same u.0) in
    absurd (no_grant_no_user pods k c none f u.0 (ap (λ xs. is_some (at_key xs u.0)) is ∙ first))

in_at : (k : Key) (ks : List Key) (i : ℕ) → i < length ks → get_or ks i k ≡ k → In k ks
in_at k [] i lt e = absurd (omega (arith, lt))
in_at k (l ∷ ls) zero lt e = inl e
in_at k (l ∷ ls) (suc i) lt e = inr (in_at k ls i (omega (arith, lt)) e)

pub all_there : (f : Key → Bool) (ks : List Key) (k : Key) → list_all f ks ≡ true → In k ks → f k ≡ true
all_there f [] k h among = absurd among
all_there f (l ∷ ls) k h (inl e) = subst (λ (x : Key). f x ≡ true) e (left_of (f l) (list_all f ls) h)
  where
    left_of : (b c : Bool) → (b && c) ≡ true → b ≡ true
    left_of true c e = refl
    left_of false c e = absurd (cc)
all_there f (l ∷ ls) k h (inr among) = all_there f ls k (right_of (f l) (list_all f ls) h) among
  where
    right_of : (b c : Bool) → (b && c) ≡ true → c ≡ true
    right_of true c e = e
    right_of false c e = absurd (cc)

used_there : (pod : Key) (o : Option ClaimState) → is_some (use_in pod o) ≡ true → (c : ClaimState) × (o ≡ Some c) × (is_some (at_key c.users pod) ≡ true)
used_there pod None e = absurd (cc)
used_there pod (Some c) e = (c, refl, e)

on_one : (s : State) (key : Key) (pod : PodState) (node : List ℕ) (claim : Key) → Fits s.claims key pod → GrantsFit s.pods s.claims → at_key s.pods key ≡ Some pod → node_of pod.phase ≡ Some node → Contains (claims_of pod) claim
    → HasGrantOn s node claim
on_one s key pod node claim fits h there on among =
    let used = all_there (λ k. is_some (use_in key (at_key s.claims k))) (claims_of pod) claim (fits.1 (has_node pod.phase node on)) (in_at claim (claims_of pod) among.0 among.1 among.2) in
    let c = used_there key (at_key s.claims claim) used in
    let g = h claim c.0 c.1 key c.2 in
    let same : g.2.0 ≡ pod = some_same g.2.0 pod (sym g.2.1 ∙ there) in
    record {
      state = c.0;
      there = c.1;
      grant = g.0;
      granted = g.1;
      on = some_same g.0.node node (sym g.2.2 ∙ ap (λ (p : PodState). node_of p.phase) same ∙ on);
    }

pub granted_now : SameClaims → (h : List Entry) → Legal h → UsersAreGranted (state_of h)
granted_now law h legal =
    let g = grants_now law h legal in
    let fit = fit_now law h legal in
    record {
      unused = λ key c at none. no_users (state_of h).pods key c c.users refl none (g key c at);
      on_one = λ key pod node claim there on among. on_one (state_of h) key pod node claim (fit.1 key pod there) g there on among;
    }

pub granted_at : SameClaims → (h : List Entry) (index : ℕ) → Legal h → UsersAreGranted (state_at h index)
granted_at law h index legal = at_places UsersAreGranted (granted_now law) h index legal

pub adopted_unused : SameClaims → (prefix back : List Entry) (job : ℕ) (claim : Key) (status : ClaimStatus) (c : ClaimState) → Legal (prefix ++ record { job = job; event = Adopted claim status } ∷ back)
    → at_key (state_of prefix).claims claim ≡ Some c → c.users ≡ []
adopted_unused law prefix back job claim status c legal there =
    let free = adopted_free (state_of prefix) claim status (step_at prefix (record { job = job; event = Adopted claim status }) back legal).follows in
    let same : c ≡ free.0 = some_same c free.0 (sym there ∙ free.1) in
    (granted_now law prefix (prefix_legal prefix _ legal)).unused claim c there (ap (λ (x : ClaimState). x.grant) same ∙ free.2)
