-- Pods of one name and uid have the same claims at any two indexes of a legal history.
use Rattle.std.proofs.Common.{ℕ, ◌+◌, ◌<◌, ◌≤◌, ◌≡◌, ◌∙◌, ◌⊎◌, inl, inr, ⊎_elim, List, [], ◌∷◌, ◌++◌, None, Some, length, take, drop, take-take, take-append-drop, length-append, refl, sym, ap, subst, arith}
use Rattle.std.proofs.lemmas.Bool.{cases_lt}
use Rattle.object_fields.specs.declared.key.Key.{Key}
use Rattle.pool_view.specs.Names.{at_key}
use Rattle.cluster.specs.declared.entry.Command.TheVariants.{Apply}
use Rattle.cluster.specs.declared.entry.Entry.{Entry}
use Rattle.cluster.specs.declared.entry.Event.{Event}
use Rattle.cluster.specs.declared.entry.Event.TheVariants.{Applied, Deleted, Reserved, Refused, Wrote, Conflict, Unreserved, Bound, VerdictGiven, Contended, Released, Adopted, Denied}
use Rattle.cluster.specs.declared.entry.Mode.{Mode}
use Rattle.cluster.specs.declared.object.Object.{Object}
use Rattle.cluster.specs.declared.object.Object.TheVariants as object
use Rattle.cluster.specs.declared.object.Target.{Target}
use Rattle.cluster.specs.declared.object.Target.TheVariants as target
use Rattle.cluster.specs.declared.state.Phase.{Phase}
use Rattle.cluster.specs.declared.state.Phase.TheVariants as phase
use Rattle.cluster.specs.declared.state.PodState.{PodState}
use Rattle.cluster.specs.declared.state.State.{State}
use Rattle.cluster.specs.Applied.{new_pod, updated_pod, with_object}
use Rattle.cluster.specs.Claims.{claim_keys, first_places}
use Rattle.cluster.specs.Deleted.{without_object}
use Rattle.cluster.specs.Denied.{first_refusal}
use Rattle.cluster.specs.Events.{after}
use Rattle.cluster.specs.History.{state_at, state_of}
use Rattle.cluster.specs.State.{claims_of}
use Rattle.cluster.specs.Tables.{with_phase}
use Rattle.histories.specs.Legal.{Step, Legal, MayFollow}
use Rattle.histories.proofs.Applying.{pod_unchanged}
use Rattle.histories.proofs.Claiming.{Fit, Pods, SameClaims, fit_now, keys_same}
use Rattle.histories.proofs.Headlines.{always_from, prefix_legal}
use Rattle.histories.proofs.Always.{always}
use Rattle.histories.proofs.Histories.{state_of-empty, state_of-more}
use Rattle.histories.proofs.Keyed.{AllAt, all_changed, all_put, removed_case}

-- ---- what an entry leaves of pods

-- a pod of its uid and claims was there
abbrev Was : Pods → Key → PodState → Type 0
Was old key q = (r : PodState) × (at_key old key ≡ Some r) × (q.pod.uid ≡ r.pod.uid) × (claims_of q ≡ claims_of r)

-- the pod is new, with the index as its uid, or was there
abbrev NewOrWas : ℕ → Pods → Key → PodState → Type 0
NewOrWas index old key q = (q.pod.uid ≡ index) ⊎ Was old key q

abbrev Follows : ℕ → Pods → Pods → Type 0
Follows index old new = AllAt (NewOrWas index old) new

same_follows : (index : ℕ) (pods : Pods) → Follows index pods pods
same_follows index pods = λ key q at. inr (q, at, refl, refl)

phase_follows : (index : ℕ) (pod : Key) (ph : Phase) (pods : Pods) → Follows index pods (with_phase pod ph pods)
phase_follows index pod ph pods =
    all_changed (λ k r. at_key pods k ≡ Some r) (NewOrWas index pods) pod (λ q. record q { phase = ph }) pods (λ k r at. at) (λ r there at. inr (r, at, refl, refl)) (λ k r differ at. inr (r, at, refl, refl))

applied_follows : SameClaims → (index : ℕ) (x : Object) (m : Mode) (s : State) → first_refusal s (Apply x m) ≡ None → Fit s → Follows index s.pods (with_object index x s).pods
applied_follows law index (object.Node x) m s free fit = same_follows index s.pods
applied_follows law index (object.Slice x) m s free fit = same_follows index s.pods
applied_follows law index (object.Class x) m s free fit = same_follows index s.pods
applied_follows law index (object.Claim x) m s free fit = same_follows index s.pods
applied_follows law index (object.Pod x) m s free fit =
    all_put (NewOrWas index s.pods) x.key (new_pod index x) (updated_pod index x) s.pods (same_follows index s.pods) (λ none. inl refl)
    (λ p there f.
    let keys : claim_keys p.pod.object ≡ claim_keys x = keys_same p.pod.object x (fit.1 x.key p there).0 ((law p.pod.object x).0 (pod_unchanged s x m p free there)) in
    inr (p, there, refl, ap (λ ks. first_places [] ks) (sym keys)))

deleted_follows : (index : ℕ) (t : Target) (s : State) → Fit s → Follows index s.pods (without_object t s).pods
deleted_follows index (target.Node name) s fit = same_follows index s.pods
deleted_follows index (target.Slice name) s fit = same_follows index s.pods
deleted_follows index (target.Class name) s fit = same_follows index s.pods
deleted_follows index (target.Claim key) s fit = same_follows index s.pods
deleted_follows index (target.Pod key) s fit = λ k q at. inr (q, (removed_case key k s.pods q fit.0 at).1, refl, refl)

follows : SameClaims → (before : List Entry) (index job : ℕ) (event : Event) → MayFollow before job event → Fit (state_of before) → Follows index (state_of before).pods (after index job event (state_of before)).pods
follows law before index job (Applied x m) may fit = applied_follows law index x m (state_of before) may.unrefused fit
follows law before index job (Deleted t) may fit = deleted_follows index t (state_of before) fit
follows law before index job (Reserved pod plan) may fit = phase_follows index pod (phase.Taken job plan.node) (state_of before).pods
follows law before index job (Refused pod plan why) may fit = same_follows index (state_of before).pods
follows law before index job (Wrote pod claim seen) may fit = same_follows index (state_of before).pods
follows law before index job (Conflict pod claim had now) may fit = same_follows index (state_of before).pods
follows law before index job (Unreserved pod) may fit = phase_follows index pod phase.Idle (state_of before).pods
follows law before index job (Bound pod node) may fit = phase_follows index pod (phase.Bound node) (state_of before).pods
follows law before index job (VerdictGiven pod verdict) may fit = same_follows index (state_of before).pods
follows law before index job (Contended pod attempts) may fit = same_follows index (state_of before).pods
follows law before index job (Released pod) may fit = phase_follows index pod phase.Idle (state_of before).pods
follows law before index job (Adopted claim status) may fit = same_follows index (state_of before).pods
follows law before index job (Denied command refusal) may fit = same_follows index (state_of before).pods

step_follows : SameClaims → (h : List Entry) (e : Entry) → Legal h → Step h e → Follows (length h + 1) (state_of h).pods (state_of (h ++ e ∷ [])).pods
step_follows law h e legal step =
    subst (λ (s : State). Follows (length h + 1) (state_of h).pods s.pods) (sym (state_of-more h e)) (follows law h (length h + 1) e.job e.event step.follows (fit_now law h legal))

-- ---- uids

-- each uid is at most the length of the history
abbrev Within : List Entry → Type 0
Within h = AllAt (λ key q. q.pod.uid ≤ length h) (state_of h).pods

within_first : Within []
within_first = subst (λ (s : State). AllAt (λ (key : Key) (q : PodState). q.pod.uid ≤ length {A = Entry} []) s.pods) (sym state_of-empty) (λ key q at. absurd (cc))

within_more : SameClaims → (h : List Entry) (e : Entry) → Legal h → Within h → Step h e → Within (h ++ e ∷ [])
within_more law h e legal within step =
    λ key q at.
    let long : length (h ++ e ∷ []) ≡ length h + 1 = length-append h (e ∷ []) in
    ⊎_elim
    (λ (new : q.pod.uid ≡ length h + 1). omega (arith, new, long))
    (λ (was : Was (state_of h).pods key q). let small = within key was.0 was.1 in let same = was.2 in omega (arith, small, same, long))
    (step_follows law h e legal step key q at)

within_now : SameClaims → (h : List Entry) → Legal h → Within h
within_now law h legal = always Within within_first (λ g e l w s. within_more law g e l w s) h legal

-- what is at a key after this index is newer, or has the uid and the claims of the pod that was there
abbrev NewerOr : ℕ → PodState → PodState → Type 0
NewerOr n p q = (n < q.pod.uid) ⊎ ((q.pod.uid ≡ p.pod.uid) × (claims_of q ≡ claims_of p))

abbrev Since : ℕ → Key → PodState → List Entry → Type 0
Since n key p h = (n ≤ length h) × ((q : PodState) → at_key (state_of h).pods key ≡ Some q → NewerOr n p q)

since_more : SameClaims → (n : ℕ) (key : Key) (p : PodState) (h : List Entry) (e : Entry) → Legal h → Since n key p h → Step h e → Since n key p (h ++ e ∷ [])
since_more law n key p h e legal since step =
    let long : length (h ++ e ∷ []) ≡ length h + 1 = length-append h (e ∷ []) in
    let le = since.0 in (
      omega (arith, le, long),
      λ q at. ⊎_elim (λ (new : q.pod.uid ≡ length h + 1). inl (omega (arith, new, le)))
          (λ (was : Was (state_of h).pods key q).
          ⊎_elim (λ (newer : n < was.0.pod.uid). let same = was.2 in inl (omega (arith, newer, same)))
          (λ (same : (was.0.pod.uid ≡ p.pod.uid) × (claims_of was.0 ≡ claims_of p)). inr (was.2 ∙ same.0, was.3 ∙ same.1)) (since.1 was.0 was.1))
          (step_follows law h e legal step key q at),
    )

some_same : (p q : PodState) → Some p ≡ Some q → q ≡ p
some_same p q e = cc

since_first : (key : Key) (p : PodState) (h : List Entry) → at_key (state_of h).pods key ≡ Some p → Since (length h) key p h
since_first key p h there = (
  omega arith,
  λ q at. let same : q ≡ p = some_same p q (sym there ∙ at) in inr (ap (λ (x : PodState). x.pod.uid) same, ap (λ (x : PodState). claims_of x) same),
)

-- a pod at an earlier index, and one of its uid later
later_claims : SameClaims → (prefix back : List Entry) (key : Key) (p q : PodState) → Legal (prefix ++ back) → at_key (state_of prefix).pods key ≡ Some p → at_key (state_of (prefix ++ back)).pods key ≡ Some q → p.pod.uid ≡ q.pod.uid
    → claims_of p ≡ claims_of q
later_claims law prefix back key p q legal there at uid =
    let n : ℕ = length prefix in
    let since = always_from (Since n key p) (λ g e l s step. since_more law n key p g e l s step) prefix back legal (since_first key p prefix there) in
    let small : p.pod.uid ≤ n = within_now law prefix (prefix_legal prefix back legal) key p there in
    ⊎_elim (λ (newer : n < q.pod.uid). absurd (omega (arith, newer, small, uid))) (λ (same : (q.pod.uid ≡ p.pod.uid) × (claims_of q ≡ claims_of p)). sym same.1) (since.1 q at)

ordered : SameClaims → (h : List Entry) (first second : ℕ) (key : Key) (p q : PodState) → first ≤ second → Legal h → at_key (state_at h first).pods key ≡ Some p → at_key (state_at h second).pods key ≡ Some q → p.pod.uid ≡ q.pod.uid
    → claims_of p ≡ claims_of q
ordered law h first second key p q le legal there at uid =
    let longer : List Entry = take second h in
    let back : List Entry = drop first longer in
    let prefix_is : take first longer ≡ take first h = take-take first second h le in
    let whole : take first h ++ back ≡ longer = ap (λ xs. xs ++ back) (sym prefix_is) ∙ take-append-drop first longer in
    let longer_legal : Legal longer = prefix_legal longer (drop second h) (subst (λ (xs : List Entry). Legal xs) (sym (take-append-drop second h)) legal) in
    later_claims law (take first h) back key p q (subst (λ (xs : List Entry). Legal xs) (sym whole) longer_legal) there (subst (λ (xs : List Entry). at_key (state_of xs).pods key ≡ Some q) (sym whole) at) uid

total : (a b : ℕ) → (a ≤ b) ⊎ (b ≤ a)
total a b = ⊎_elim (λ (lt : a < b). inl (omega (arith, lt))) (λ (ge : b ≤ a). inr ge) (cases_lt a b)

pub same_claims : SameClaims → (h : List Entry) (first second : ℕ) (key : Key) (p q : PodState) → Legal h → at_key (state_at h first).pods key ≡ Some p → at_key (state_at h second).pods key ≡ Some q → p.pod.uid ≡ q.pod.uid
    → claims_of p ≡ claims_of q
same_claims law h first second key p q legal there at uid =
    ⊎_elim (λ (le : first ≤ second). ordered law h first second key p q le legal there at uid) (λ (le : second ≤ first). sym (ordered law h second first key q p le legal at there (sym uid))) (total first second)
