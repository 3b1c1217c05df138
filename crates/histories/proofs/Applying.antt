-- What holds for an object that no refusal holds for.
use Rattle.std.proofs.Common.{◌≡◌, ◌∙◌, Bool, true, false, cond, not, Option, None, Some, is_some, refl, sym, ap}
use Rattle.api_cluster.specs.declared.types.Pod.{Pod}
use Rattle.pool_view.specs.Names.{at_key}
use Rattle.cluster.specs.declared.entry.Command.TheVariants.{Apply}
use Rattle.cluster.specs.declared.entry.Mode.{Mode}
use Rattle.cluster.specs.declared.entry.Mode.TheVariants as mode
use Rattle.cluster.specs.declared.entry.Refusal.{Refusal}
use Rattle.cluster.specs.declared.entry.Refusal.TheVariants.{Devices, Exists, Immutable, NotFound}
use Rattle.cluster.specs.declared.object.Object.{Object}
use Rattle.cluster.specs.declared.object.Object.TheVariants as object
use Rattle.cluster.specs.declared.state.PodState.{PodState}
use Rattle.cluster.specs.Same.{same_pod_claims}
use Rattle.cluster.specs.declared.state.State.{State}
use Rattle.cluster.specs.Denied.{conflict, create_refusal, first_refusal, is_changed, is_pod_changed, no_room, or_else, update_refusal, when}
use Rattle.cluster.specs.State.{has_room, is_there}

later_none : (first later : Option Refusal) → or_else first later ≡ None → later ≡ None
later_none None later e = e
later_none (Some r) later e = absurd (cc)

room_by : (room : Bool) → when (not room) Devices ≡ None → room ≡ true
room_by true e = refl
room_by false e = absurd (cc)

created : (s : State) (x : Object) → create_refusal s x ≡ None → has_room s x ≡ true
created s x e = room_by (has_room s x) (later_none (when (is_there s x) Exists) (no_room s x) e)

updated : (s : State) (x : Object) → update_refusal s x ≡ None → has_room s x ≡ true
updated s x e =
    let behind_change = no_room s x in
    let behind_conflict = or_else (when (is_changed s x) Immutable) behind_change in
    let behind_first = or_else (conflict s x) behind_conflict in
    room_by (has_room s x) (later_none (when (is_changed s x) Immutable) behind_change
    (later_none (conflict s x) behind_conflict (later_none (when (not (is_there s x)) NotFound) behind_first e)))

applied : (s : State) (x : Object) (there : Bool) → cond there (update_refusal s x) (create_refusal s x) ≡ None → has_room s x ≡ true
applied s x true e = updated s x e
applied s x false e = created s x e

-- there is room for it
pub room_of : (s : State) (x : Object) (m : Mode) → first_refusal s (Apply x m) ≡ None → has_room s x ≡ true
room_of s x mode.Create e = created s x e
room_of s x mode.Update e = updated s x e
room_of s x mode.Apply e = applied s x (is_there s x) e

pub first_none : (first later : Option Refusal) → or_else first later ≡ None → first ≡ None
first_none None later e = refl
first_none (Some r) later e = absurd (cc)

pub when_none : (b : Bool) (r : Refusal) → when b r ≡ None → b ≡ false
when_none true r e = absurd (cc)
when_none false r e = refl

not_false : (b : Bool) → not b ≡ false → b ≡ true
not_false true e = refl
not_false false e = absurd (cc)

changed_none : (s : State) (x : Object) → update_refusal s x ≡ None → is_changed s x ≡ false
changed_none s x e =
    let behind_change = no_room s x in
    let behind_conflict = or_else (when (is_changed s x) Immutable) behind_change in
    let behind_first = or_else (conflict s x) behind_conflict in
    when_none (is_changed s x) Immutable
    (first_none (when (is_changed s x) Immutable) behind_change (later_none (conflict s x) behind_conflict (later_none (when (not (is_there s x)) NotFound) behind_first e)))

same_claims : (s : State) (x : Pod) (p : PodState) → update_refusal s (object.Pod x) ≡ None → at_key s.pods x.key ≡ Some p → same_pod_claims p.pod.object x ≡ true
same_claims s x p e there =
    not_false (same_pod_claims p.pod.object x) (sym (ap (is_pod_changed x) there) ∙ changed_none s (object.Pod x) e)

-- a pod that is there isn't created anew
not_created : (s : State) (x : Pod) (p : PodState) → create_refusal s (object.Pod x) ≡ None → at_key s.pods x.key ≡ Some p → ⊥
not_created s x p e there =
    let free = when_none (is_there s (object.Pod x)) Exists (first_none (when (is_there s (object.Pod x)) Exists) (no_room s (object.Pod x)) e) in
    let found : is_there s (object.Pod x) ≡ true = ap is_some there in
    let never : true ≡ false = sym found ∙ free in
    absurd (cc)

-- an update of a pod leaves its claims
pub pod_unchanged : (s : State) (x : Pod) (m : Mode) (p : PodState) → first_refusal s (Apply (object.Pod x) m) ≡ None → at_key s.pods x.key ≡ Some p → same_pod_claims p.pod.object x ≡ true
pod_unchanged s x mode.Create p e there = absurd (not_created s x p e there)
pod_unchanged s x mode.Update p e there = same_claims s x p e there
pod_unchanged s x mode.Apply p e there =
    let found : is_there s (object.Pod x) ≡ true = ap is_some there in
    same_claims s x p (sym (ap (λ b. cond b (update_refusal s (object.Pod x)) (create_refusal s (object.Pod x))) found) ∙ e) there
