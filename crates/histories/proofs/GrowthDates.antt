-- What stays as it was since the dates of a history.
use Rattle.std.proofs.Common.{ℕ, ◌+◌, ◌<◌, ◌≤◌, ◌≡◌, ◌∙◌, inl, ⊎_elim, List, [], ◌∷◌, ◌++◌, Bool, true, false, cond, None, Some, length, refl, sym, ap, subst, arith, append_assoc, append-nil, length-append}
use Rattle.std.specs.List.{list_any, slice_get}
use Rattle.std.proofs.lemmas.Bool.{cases_lt}
use Rattle.std.proofs.lemmas.List.{take_all, take-append-le}
use Rattle.object_fields.specs.declared.key.DeviceId.{DeviceId}
use Rattle.object_fields.specs.declared.key.Key.{Key}
use Rattle.api_claim.specs.declared.types.ClaimStatus.{ClaimStatus}
use Rattle.api_claim.specs.declared.types.ResourceClaim.{ResourceClaim}
use Rattle.api_cluster.specs.declared.types.Pod.{Pod}
use Rattle.pool_view.specs.declared.inventory.Inventory.{Inventory}
use Rattle.pool_view.specs.declared.names.PoolName.{PoolName}
use Rattle.pool_view.specs.Names.{at_key}
use Rattle.pool_view.specs.Usable.{node_devices, pool_named}
use Rattle.cluster.specs.declared.entry.Entry.{Entry}
use Rattle.cluster.specs.declared.entry.Event.{Event}
use Rattle.cluster.specs.declared.entry.Event.TheVariants.{Applied, Deleted, Reserved, Refused, Wrote, Conflict, Unreserved, Bound, VerdictGiven, Contended, Released, Adopted, Denied}
use Rattle.cluster.specs.declared.object.Object.{Object}
use Rattle.cluster.specs.declared.object.Object.TheVariants as object
use Rattle.cluster.specs.declared.object.Target.{Target}
use Rattle.cluster.specs.declared.object.Target.TheVariants as target
use Rattle.cluster.specs.declared.plan.Plan.{Plan}
use Rattle.cluster.specs.declared.state.ClaimState.{ClaimState}
use Rattle.cluster.specs.declared.state.State.{State}
use Rattle.cluster.specs.Adopted.{with_adopted}
use Rattle.cluster.specs.Applied.{with_object}
use Rattle.cluster.specs.Bound.{with_bound}
use Rattle.cluster.specs.Deleted.{without_object}
use Rattle.cluster.specs.Events.{after}
use Rattle.cluster.specs.Freed.{without_uses}
use Rattle.cluster.specs.History.{next_state, state_at, state_of, told}
use Rattle.cluster.specs.Reserved.{with_reserved}
use Rattle.cluster.specs.State.{empty_state}
use Rattle.cluster.specs.Wrote.{with_written}
use Rattle.request_rules.specs.Growth.{specs_of}
use Rattle.request_rules.specs.Lists.{Each, add_some}
use Rattle.allocations.specs.Allocation.{IsAllocation}
use Rattle.allocations.specs.Claims.{other_claim, wanted}
use Rattle.allocations.specs.Growth.{Grown, KeepsBut, KeepsHeld, SameObjects, StaysHeld, StaysHeldFor, is_in_pool}
use Rattle.allocations.specs.Lacking.{Dates, IsLacking, IsSince, Lacking, outcome_for}
use Rattle.allocations.specs.Lost.{devices_of, lost_of, lost_with}
use Rattle.allocations.specs.Outcomes.{FindsNone}
use Rattle.walk.specs.Outcome.{Unsat}
use Rattle.histories.specs.Growth.{AreDatesOf, DatedState, changes_objects, freed_at, is_searched, lost_by, may_free, names_searched, next_freed, next_objects, objects_at}
use Rattle.histories.specs.Legal.{Legal, MayFollow, Step}
use Rattle.histories.proofs.Adopting.{StatusLaw, adoption_of}
use Rattle.histories.proofs.Always.{always}
use Rattle.histories.proofs.Histories.{state_of-more, told_whole}

-- ---- one entry more

pub objects_at-empty : objects_at [] ≡ 0
unfolding objects_at told
objects_at-empty = refl

pub objects_at-more : (h : List Entry) (e : Entry) → objects_at (h ++ e ∷ []) ≡ cond (changes_objects e.event) (length h + 1) (objects_at h)
unfolding objects_at
objects_at-more h e = told_whole next_objects 0 h e

pub freed_at-empty : (pool : PoolName) → freed_at [] pool ≡ 0
unfolding freed_at told
freed_at-empty pool = refl

state_told : (pool : PoolName) (f : DatedState) (n : ℕ) (es : List Entry) → (told (next_freed pool) f n es).state ≡ told next_state f.state n es
unfolding told
state_told pool f n [] = refl
state_told pool f n (e ∷ es) = state_told pool (next_freed pool f (n + 1) e) (n + 1) es

pub freed_at-more : (h : List Entry) (e : Entry) (pool : PoolName) → freed_at (h ++ e ∷ []) pool ≡ cond (may_free (state_of h) e.event pool) (length h + 1) (freed_at h pool)
unfolding freed_at state_of
freed_at-more h e pool =
    let first : DatedState = record { state = empty_state; index = 0 } in
    ap (λ (f : DatedState). f.index) (told_whole (next_freed pool) first h e)
    ∙ ap (λ (s : State). cond (may_free s e.event pool) (length h + 1) (told (next_freed pool) first 0 h).index) (state_told pool first 0 h)

-- ---- dates only rise

set_within : (b : Bool) (n date : ℕ) → date ≤ n → cond b (n + 1) date ≤ n + 1
set_within true n date h = omega arith
set_within false n date h = omega (arith, h)

set_rises : (b : Bool) (n date : ℕ) → date ≤ n → date ≤ cond b (n + 1) date
set_rises true n date h = omega (arith, h)
set_rises false n date h = omega arith

-- a date that each entry sets to its index or leaves
module _ (date : List Entry → ℕ) (sets : List Entry → Entry → Bool) (none : date [] ≡ 0)
    (more : (h : List Entry) (e : Entry) → date (h ++ e ∷ []) ≡ cond (sets h e) (length h + 1) (date h)) where
  within_along : (h es : List Entry) → date h ≤ length h → (date (h ++ es) ≤ length (h ++ es)) × (date h ≤ date (h ++ es))
  within_along h [] le =
      subst (λ (xs : List Entry). (date xs ≤ length xs) × (date h ≤ date xs)) (sym (append-nil h)) (le, omega arith)
  within_along h (e ∷ es) le =
      let n = length-append h (e ∷ []) in
      let set = more h e in
      let next : date (h ++ e ∷ []) ≤ length (h ++ e ∷ []) = omega (arith, n, set, set_within (sets h e) (length h) (date h) le) in
      let r = within_along (h ++ e ∷ []) es next in
      let risen : date h ≤ date (h ++ e ∷ []) = omega (arith, set, set_rises (sets h e) (length h) (date h) le) in
      let rest = r.1 in
      subst (λ (xs : List Entry). (date xs ≤ length xs) × (date h ≤ date xs)) (append_assoc h (e ∷ []) es) (r.0, omega (arith, risen, rest))

  pub date_within : (h : List Entry) → date h ≤ length h
  date_within h = (within_along [] h (omega (arith, none))).0

  pub date_rises : (h es : List Entry) → date h ≤ date (h ++ es)
  date_rises h es = (within_along h es (date_within h)).1

pub objects_within : (h : List Entry) → objects_at h ≤ length h
objects_within = date_within objects_at (λ g e. changes_objects e.event) objects_at-empty objects_at-more

pub objects_rise : (h more : List Entry) → objects_at h ≤ objects_at (h ++ more)
objects_rise = date_rises objects_at (λ g e. changes_objects e.event) objects_at-empty objects_at-more

pub freed_within : (h : List Entry) (pool : PoolName) → freed_at h pool ≤ length h
freed_within h pool = date_within (λ g. freed_at g pool) (λ g e. may_free (state_of g) e.event pool) (freed_at-empty pool) (λ g e. freed_at-more g e pool) h

pub freed_rise : (h more : List Entry) (pool : PoolName) → freed_at h pool ≤ freed_at (h ++ more) pool
freed_rise h more pool = date_rises (λ g. freed_at g pool) (λ g e. may_free (state_of g) e.event pool) (freed_at-empty pool) (λ g e. freed_at-more g e pool) h more

-- ---- what holds since a date

-- at an index that isn't the last
earlier : (h : List Entry) (e : Entry) (i : ℕ) → i ≤ length h → state_at (h ++ e ∷ []) i ≡ state_at h i
earlier h e i le = ap state_of (take-append-le i h (e ∷ []) le)

-- at the last
latest : (h : List Entry) (i : ℕ) → length h ≤ i → state_at h i ≡ state_of h
latest h i le = ap state_of (take_all i h le)

not_set : (b : Bool) (n date i : ℕ) → cond b (n + 1) date ≤ i → i ≤ n → (b ≡ false) × (date ≤ i)
not_set true n date i h le = absurd (omega (arith, h, le))
not_set false n date i h le = (refl, h)

grown_length : (h : List Entry) (e : Entry) (i : ℕ) → length h < i → length (h ++ e ∷ []) ≤ i
grown_length h e i lt = omega (arith, length-append h (e ∷ []), lt)

-- a relation of states that one state has to itself, and that goes on from one state to the next and over entries that
-- don't set the date, holds since the date
module _ (R : State → State → Type 0) (same : (s : State) → R s s) (both : (r s t : State) → R r s → R s t → R r t)
    (date : List Entry → ℕ) (sets : List Entry → Entry → Bool)
    (more : (h : List Entry) (e : Entry) → date (h ++ e ∷ []) ≡ cond (sets h e) (length h + 1) (date h))
    (step : (h : List Entry) (e : Entry) → Step h e → sets h e ≡ false → R (state_of h) (after (length h + 1) e.job e.event (state_of h))) where
  abbrev pub Since : List Entry → Type 0
  Since h = (i : ℕ) → i ≤ length h → date h ≤ i → R (state_at h i) (state_of h)

  since_last : (h : List Entry) (i : ℕ) → length h ≤ i → R (state_at h i) (state_of h)
  since_last h i le = subst (λ (s : State). R s (state_of h)) (sym (latest h i le)) (same (state_of h))

  since_more : (h : List Entry) (e : Entry) → Step h e → Since h → Since (h ++ e ∷ [])
  since_more h e s since i le d =
      ⊎_elim
      (λ (lt : length h < i). since_last (h ++ e ∷ []) i (grown_length h e i lt))
      (λ (below : i ≤ length h).
      let unset = not_set (sets h e) (length h) (date h) i (subst (λ (n : ℕ). n ≤ i) (more h e) d) below in
      let now : R (state_of h) (state_of (h ++ e ∷ [])) = subst (λ (t : State). R (state_of h) t) (sym (state_of-more h e)) (step h e s unset.0) in
      subst (λ (r : State). R r (state_of (h ++ e ∷ []))) (sym (earlier h e i below)) (both (state_at h i) (state_of h) (state_of (h ++ e ∷ [])) (since i below unset.1) now))
      (cases_lt (length h) i)

  pub since : (h : List Entry) → Legal h → Since h
  since h legal = always Since (λ i le d. since_last [] i (omega arith)) (λ g e l p s. since_more g e s p) h legal

-- ---- nodes, slices and classes

same_all : (s : State) → SameObjects s s
same_all s = record { inventory = refl; classes = refl }

same_both : (r s t : State) → SameObjects r s → SameObjects s t → SameObjects r t
same_both r s t f g = record { inventory = g.inventory ∙ f.inventory; classes = g.classes ∙ f.classes }

object_same : (index : ℕ) (x : Object) (s : State) → is_searched x ≡ false → SameObjects s (with_object index x s)
object_same index (object.Node x) s e = absurd (cc)
object_same index (object.Slice x) s e = absurd (cc)
object_same index (object.Class x) s e = absurd (cc)
object_same index (object.Claim x) s e = record { inventory = refl; classes = refl }
object_same index (object.Pod x) s e = record { inventory = refl; classes = refl }

target_same : (t : Target) (s : State) → names_searched t ≡ false → SameObjects s (without_object t s)
target_same (target.Node name) s e = absurd (cc)
target_same (target.Slice name) s e = absurd (cc)
target_same (target.Class name) s e = absurd (cc)
target_same (target.Claim key) s e = record { inventory = refl; classes = refl }
target_same (target.Pod key) s e = record { inventory = refl; classes = refl }

same_after : (index job : ℕ) (event : Event) (s : State) → changes_objects event ≡ false → SameObjects s (after index job event s)
same_after index job (Applied x mode) s e = object_same index x s e
same_after index job (Deleted t) s e = target_same t s e
same_after index job (Reserved pod plan) s e = record { inventory = refl; classes = refl }
same_after index job (Refused pod plan why) s e = same_all s
same_after index job (Wrote pod claim seen) s e = record { inventory = refl; classes = refl }
same_after index job (Conflict pod claim had now) s e = same_all s
same_after index job (Unreserved pod) s e = record { inventory = refl; classes = refl }
same_after index job (Bound pod node) s e = record { inventory = refl; classes = refl }
same_after index job (VerdictGiven pod verdict) s e = same_all s
same_after index job (Contended pod attempts) s e = same_all s
same_after index job (Released pod) s e = record { inventory = refl; classes = refl }
same_after index job (Adopted claim status) s e = record { inventory = refl; classes = refl }
same_after index job (Denied command refusal) s e = same_all s

pub objects_since : (h : List Entry) (i : ℕ) → Legal h → i ≤ length h → objects_at h ≤ i → SameObjects (state_at h i) (state_of h)
objects_since h i legal le d =
    since SameObjects same_all same_both objects_at (λ g e. changes_objects e.event) objects_at-more
    (λ g e s unset. same_after (length g + 1) e.job e.event (state_of g) unset) h legal i le d

-- ---- devices that stay held

stays_all : (pool : PoolName) (s : State) → StaysHeld s s pool
stays_all pool s = record { each = λ d e f h. h }

stays_both : (pool : PoolName) (r s t : State) → StaysHeld r s pool → StaysHeld s t pool → StaysHeld r t pool
stays_both pool r s t f g = record { each = λ d e k h. g.each d e k (f.each d e k h) }

-- a change that keeps all devices held
nothing_lost : (s t : State) (lost : List DeviceId) → KeepsHeld s t → KeepsBut s t lost
nothing_lost s t lost k = record { each = λ d h. inl (k.each d h) }

keeps_all : (s : State) (lost : List DeviceId) → KeepsBut s s lost
keeps_all s lost = record { each = λ d h. inl h }

module _ (applied : (index : ℕ) (object : Object) (s : State) → KeepsHeld s (with_object index object s))
    (reserved : (s : State) (job : ℕ) (pod : Key) (p : Pod) (plan : Plan) (choice : List ℕ) → IsAllocation s (wanted s p) plan.node choice plan.grants → KeepsHeld s (with_reserved job pod plan s))
    (written : (index : ℕ) (pod claim : Key) (s : State) → KeepsHeld s (with_written index pod claim s))
    (bound : (pod : Key) (node : List ℕ) (s : State) → KeepsHeld s (with_bound pod node s))
    (adopted : (index : ℕ) (claim : Key) (status : ClaimStatus) (s : State) (c : ClaimState) → at_key s.claims claim ≡ Some c → c.grant ≡ None → KeepsHeld s (with_adopted index claim status s))
    (uses : (index : ℕ) (pod : Key) (s : State) → KeepsBut s (without_uses index pod s) (devices_of (lost_with s pod)))
    (deleted : (t : Target) (s : State) → KeepsBut s (without_object t s) (devices_of (add_some (lost_of s t) [])))
    (in_pool : (s t : State) (lost : List DeviceId) (pool : PoolName) → KeepsBut s t lost → list_any (is_in_pool pool) lost ≡ false → StaysHeld s t pool)
    (status_law : StatusLaw) where
  keeps_after : (before : List Entry) (index job : ℕ) (event : Event) → MayFollow before job event → KeepsBut (state_of before) (after index job event (state_of before)) (devices_of (lost_by (state_of before) event))
  keeps_after before index job (Applied x mode) may = nothing_lost (state_of before) (with_object index x (state_of before)) [] (applied index x (state_of before))
  keeps_after before index job (Deleted t) may = deleted t (state_of before)
  keeps_after before index job (Reserved pod plan) may =
      let s : State = state_of before in
      nothing_lost s (with_reserved job pod plan s) [] (reserved s job pod may.holds_now.state.pod.object plan may.holds_now.choice may.holds_now.allocation)
  keeps_after before index job (Refused pod plan why) may = keeps_all (state_of before) []
  keeps_after before index job (Wrote pod k seen) may = nothing_lost (state_of before) (with_written index pod k (state_of before)) [] (written index pod k (state_of before))
  keeps_after before index job (Conflict pod k had now) may = keeps_all (state_of before) []
  keeps_after before index job (Unreserved pod) may = uses index pod (state_of before)
  keeps_after before index job (Bound pod node) may = nothing_lost (state_of before) (with_bound pod node (state_of before)) [] (bound pod node (state_of before))
  keeps_after before index job (VerdictGiven pod verdict) may = keeps_all (state_of before) []
  keeps_after before index job (Contended pod attempts) may = keeps_all (state_of before) []
  keeps_after before index job (Released pod) may = uses index pod (state_of before)
  keeps_after before index job (Adopted k status) may =
      let s : State = state_of before in
      let a = adoption_of status_law before k status may in
      nothing_lost s (with_adopted index k status s) [] (adopted index k status s a.state a.there a.free)
  keeps_after before index job (Denied command refusal) may = keeps_all (state_of before) []

  pub pool_since : (h : List Entry) (i : ℕ) (pool : PoolName) → Legal h → i ≤ length h → freed_at h pool ≤ i → StaysHeld (state_at h i) (state_of h) pool
  unfolding may_free
  pool_since h i pool legal le d =
      since (λ s t. StaysHeld s t pool) (stays_all pool) (stays_both pool) (λ g. freed_at g pool) (λ g e. may_free (state_of g) e.event pool) (λ g e. freed_at-more g e pool)
      (λ g e s unset.
      in_pool (state_of g) (after (length g + 1) e.job e.event (state_of g)) (devices_of (lost_by (state_of g) e.event)) pool (keeps_after g (length g + 1) e.job e.event s.follows) unset)
      h legal i le d

-- ---- what a search finds

abbrev pub ObjectsLaw : Type 0
ObjectsLaw = (h : List Entry) (index : ℕ) → Legal h → index ≤ length h → objects_at h ≤ index → SameObjects (state_at h index) (state_of h)

abbrev pub PoolLaw : Type 0
PoolLaw = (h : List Entry) (index : ℕ) (pool : PoolName) → Legal h → index ≤ length h → freed_at h pool ≤ index → StaysHeld (state_at h index) (state_of h) pool

abbrev pub GrownLaw : Type 0
GrownLaw = (s t : State) (claims : List ResourceClaim) (node : List ℕ) → SameObjects s t → StaysHeldFor s t node → Grown s t claims node

pub grown_since : ObjectsLaw → PoolLaw → GrownLaw → (h : List Entry) (index : ℕ) (claims : List ResourceClaim) (node : List ℕ) → Legal h → index ≤ length h → objects_at h ≤ index
    → Each (λ o. freed_at h (pool_named o.slice) ≤ index) (node_devices (state_of h).inventory node) → Grown (state_at h index) (state_of h) claims node
grown_since objects pools grown h index claims node legal le d each =
    let same = objects h index legal le d in
    grown (state_at h index) (state_of h) claims node same (record {
      pools = λ i o there. pools h index (pool_named o.slice) legal le (each i o (ap (λ (n : Inventory). slice_get (node_devices n node) i) same.inventory ∙ there));
    })

abbrev pub FoundLaw : Type 0
FoundLaw = (s t : State) (pod other : Pod) (node : List ℕ) (b : ℕ) → specs_of (wanted t other) ≡ specs_of (wanted s pod) → Grown s t (wanted s pod) node
    → FindsNone s pod b node → other_claim t other node ≡ None → FindsNone t other b node

pub found_since : ObjectsLaw → PoolLaw → GrownLaw → FoundLaw → (h : List Entry) (index budget : ℕ) (pod other : Pod) (node : List ℕ) → Legal h → index ≤ length h → objects_at h ≤ index
    → Each (λ o. freed_at h (pool_named o.slice) ≤ index) (node_devices (state_of h).inventory node) → specs_of (wanted (state_of h) other) ≡ specs_of (wanted (state_at h index) pod)
    → FindsNone (state_at h index) pod budget node → other_claim (state_of h) other node ≡ None → FindsNone (state_of h) other budget node
found_since objects pools grown found h index budget pod other node legal le d each specs none here =
    found (state_at h index) (state_of h) pod other node budget specs
    (grown_since objects pools grown h index (wanted (state_at h index) pod) node legal le d each) none here

-- ---- what is known of nodes

abbrev pub RisesLaw : Type 0
RisesLaw = (h more : List Entry) → objects_at h ≤ objects_at (h ++ more)

abbrev pub FreedRisesLaw : Type 0
FreedRisesLaw = (h more : List Entry) (pool : PoolName) → freed_at h pool ≤ freed_at (h ++ more) pool

abbrev pub GrownSince : Type 0
GrownSince = (h : List Entry) (index : ℕ) (claims : List ResourceClaim) (node : List ℕ) → Legal h → index ≤ length h → objects_at h ≤ index
    → Each (λ o. freed_at h (pool_named o.slice) ≤ index) (node_devices (state_of h).inventory node) → Grown (state_at h index) (state_of h) claims node

abbrev pub ClaimsLaw : Type 0
ClaimsLaw = (s t : State) (claims others : List ResourceClaim) (node : List ℕ) (b : ℕ) → specs_of others ≡ specs_of claims → Grown s t claims node
    → outcome_for s claims node b ≡ Unsat → outcome_for t others node b ≡ Unsat

first_state : (h more : List Entry) → state_at (h ++ more) (length h) ≡ state_of h
first_state h more = ap state_of (take-append-le (length h) h more (omega arith) ∙ take_all (length h) h (omega arith))

pub lacking_later : RisesLaw → FreedRisesLaw → ObjectsLaw → GrownSince → ClaimsLaw → (h more : List Entry) (d later : Dates) (row : Lacking) → Legal (h ++ more) → AreDatesOf h d → AreDatesOf (h ++ more) later
    → row.index ≤ length h → IsLacking (state_of h) d row → IsLacking (state_of (h ++ more)) later row
lacking_later rises freed_rises objects grown claims_law h more d later row legal old new at known = record {
  none = λ since claims e.
      let whole = h ++ more in
      let within : length h ≤ length whole = omega (arith, length-append h more) in
      let was = old.objects in
      let is = new.objects in
      let early = since.objects in
      let changed : objects_at whole ≤ length h = omega (arith, is, early, at) in
      let same = objects whole (length h) legal within changed in
      let pools : Each (λ o. freed_at whole (pool_named o.slice) ≤ row.index) (node_devices (state_of whole).inventory row.node) = λ i o there.
      let f = since.pools i o there in let g = new.freed (pool_named o.slice) in omega (arith, f, g) in
      let first : state_at whole (length h) ≡ state_of h = first_state h more in
      let growth : Grown (state_of h) (state_of whole) claims row.node =
      subst (λ (s : State). Grown s (state_of whole) claims row.node) first
      (grown whole (length h) claims row.node legal within changed (λ i o there. let f = pools i o there in omega (arith, f, at))) in
      let inventory : (state_of whole).inventory ≡ (state_of h).inventory = subst (λ (s : State). (state_of whole).inventory ≡ s.inventory) first same.inventory in
      let before : IsSince (state_of h) d row.node row.index = record {
        objects = let r = rises h more in omega (arith, was, is, early, r);
        pools = λ i o there.
            let f = pools i o (ap (λ (n : Inventory). slice_get (node_devices n row.node) i) inventory ∙ there) in
            let g = old.freed (pool_named o.slice) in
            let r = freed_rises h more (pool_named o.slice) in
            omega (arith, f, g, r);
      } in
      claims_law (state_of h) (state_of whole) claims claims row.node row.budget refl growth (known.none before claims e);
}
