-- What changes that grant nothing leave of the devices that claims hold, and what follows for two claims.
use Rattle.std.proofs.Common.{ℕ, ◌≡◌, ◌∙◌, ⊎_elim, List, [], ◌∷◌, ◌++◌, Bool, true, false, cond, Option, None, Some, refl, sym, ap, subst}
use Rattle.std.specs.List.{Contains}
use Rattle.std.specs.Map.{lookup, remove_entry, set_value}
use Rattle.std.specs.Option.{option_map, option_map_or}
use Rattle.std.specs.Ordering.{is_eq}
use Rattle.std.specs.BTreeMap.{is_at}
use Rattle.std.proofs.lemmas.List.Elements.{Contains-append_left, Contains-append_right, Contains-append_cases}
use Rattle.object_fields.specs.declared.key.DeviceId.{DeviceId}
use Rattle.object_fields.specs.declared.key.Key.{Key}
use Rattle.api_claim.specs.declared.types.ResourceClaim.{ResourceClaim}
use Rattle.pool_view.specs.Names.{at_key, key_cmp}
use Rattle.cluster.specs.declared.object.Object.{Object}
use Rattle.cluster.specs.declared.object.Object.TheVariants as object
use Rattle.cluster.specs.declared.object.Target.{Target}
use Rattle.cluster.specs.declared.object.Target.TheVariants as target
use Rattle.cluster.specs.declared.state.ClaimState.{ClaimState}
use Rattle.cluster.specs.declared.state.Granted.{Granted}
use Rattle.cluster.specs.declared.state.State.{State}
use Rattle.cluster.specs.Applied.{new_claim, updated_claim, with_object}
use Rattle.cluster.specs.Bound.{with_bound}
use Rattle.cluster.specs.Deleted.{without_object}
use Rattle.cluster.specs.Held.{HeldOnce, held_by}
use Rattle.cluster.specs.State.{empty_state}
use Rattle.cluster.specs.Tables.{put_at}
use Rattle.cluster.specs.Wrote.{as_published, with_written, written_by}
use Rattle.allocations.proofs.HeldIds.{Claims, held_in}
use Rattle.allocations.proofs.Holding.{Apart, apart_back, apart_disjoint, apart_prefix, apart_join, apart_of, inserted_held, once_from, once_same, same_from_key_cmp, same_held, some_claim}

pub once_empty : HeldOnce empty_state
once_empty = once_from empty_state tt

-- a claim that is created or updated
put_same : (place : ℕ) (x : ResourceClaim) (es : Claims) (o : Option ClaimState) → at_key es x.key ≡ o → held_in (put_at x.key (new_claim place x) (updated_claim place x) es o) ≡ held_in es
put_same place x es None e = inserted_held es x.key (new_claim place x) e refl
put_same place x es (Some c) e = same_held (is_at (key_cmp x.key)) es c (updated_claim place x c) e refl

pub once_applied : (place : ℕ) (object : Object) (s : State) → HeldOnce s → HeldOnce (with_object place object s)
once_applied place (object.Node x) s h = once_same s (with_object place (object.Node x) s) h refl
once_applied place (object.Slice x) s h = once_same s (with_object place (object.Slice x) s) h refl
once_applied place (object.Class x) s h = once_same s (with_object place (object.Class x) s) h refl
once_applied place (object.Claim x) s h = once_same s (with_object place (object.Claim x) s) h (put_same place x s.claims (at_key s.claims x.key) refl)
once_applied place (object.Pod x) s h = once_same s (with_object place (object.Pod x) s) h refl

-- the devices held after a claim was removed: they differ, and each was held before
record Left (olds all : List DeviceId) : Type 0 where
  apart : Apart all
  among : (d : DeviceId) → Contains all d → Contains olds d

left_by : (b : Bool) (test : Key → Bool) (e : Key × ClaimState) (es : Claims) → test e.0 ≡ b → Apart (held_in (e ∷ es)) → (Apart (held_in es) → Left (held_in es) (held_in (remove_entry test es)))
    → Left (held_in (e ∷ es)) (held_in (remove_entry test (e ∷ es)))
left_by true test e es is olds later =
    let first = held_by e.1.grant in
    let gone : held_in es ≡ held_in (remove_entry test (e ∷ es)) = sym (ap (λ b. held_in (cond b es (e ∷ remove_entry test es))) is) in
    let left : Left (held_in (e ∷ es)) (held_in es) = record { apart = apart_back first (held_in es) olds; among = λ d h. Contains-append_right first (held_in es) d h } in
    subst (λ (ds : List DeviceId). Left (held_in (e ∷ es)) ds) gone left
left_by false test e es is olds later =
    let first = held_by e.1.grant in
    let rest = held_in (remove_entry test es) in
    let r : Left (held_in es) rest = later (apart_back first (held_in es) olds) in
    let same : first ++ rest ≡ held_in (remove_entry test (e ∷ es)) = sym (ap (λ b. held_in (cond b es (e ∷ remove_entry test es))) is) in
    let left : Left (held_in (e ∷ es)) (first ++ rest) = record {
      apart = apart_join first rest (apart_prefix first (held_in es) olds) r.apart (λ d h g. apart_disjoint first (held_in es) olds d h (r.among d g));
      among = λ d c. ⊎_elim (λ h. Contains-append_left first (held_in es) d h) (λ h. Contains-append_right first (held_in es) d (r.among d h)) (Contains-append_cases first rest d c);
    } in
    subst (λ (ds : List DeviceId). Left (held_in (e ∷ es)) ds) same left

left_held : (test : Key → Bool) (es : Claims) → Apart (held_in es) → Left (held_in es) (held_in (remove_entry test es))
left_held test [] olds = record { apart = tt; among = λ d h. h }
left_held test (e ∷ es) olds = left_by (test e.0) test e es refl olds (λ a. left_held test es a)

pub once_deleted : (t : Target) (s : State) → HeldOnce s → HeldOnce (without_object t s)
once_deleted (target.Node name) s h = once_same s (without_object (target.Node name) s) h refl
once_deleted (target.Slice name) s h = once_same s (without_object (target.Slice name) s) h refl
once_deleted (target.Class name) s h = once_same s (without_object (target.Class name) s) h refl
once_deleted (target.Claim key) s h = once_from (without_object (target.Claim key) s) (left_held (is_at (key_cmp key)) s.claims (apart_of s h)).apart
once_deleted (target.Pod key) s h = once_same s (without_object (target.Pod key) s) h refl

published_same : (g : Option Granted) → held_by (option_map as_published g) ≡ held_by g
published_same None = refl
published_same (Some g) = refl

written_same : (place : ℕ) (pod claim : Key) (es : Claims) (o : Option ClaimState) → at_key es claim ≡ o
    → held_in (option_map_or (λ c. set_value (is_at (key_cmp claim)) es (written_by place pod c)) o es) ≡ held_in es
written_same place pod claim es None e = refl
written_same place pod claim es (Some c) e = same_held (is_at (key_cmp claim)) es c (written_by place pod c) e (published_same c.grant)

pub once_written : (place : ℕ) (pod claim : Key) (s : State) → HeldOnce s → HeldOnce (with_written place pod claim s)
once_written place pod claim s h = once_same s (with_written place pod claim s) h (written_same place pod claim s.claims (at_key s.claims claim) refl)

pub once_bound : (pod : Key) (node : List ℕ) (s : State) → HeldOnce s → HeldOnce (with_bound pod node s)
once_bound pod node s h = once_same s (with_bound pod node s) h refl

-- ---- what follows for two claims

table_by : (test : Key → Bool) (b : Bool) (e : Key × ClaimState) (es : Claims) (c : ClaimState) (d : DeviceId) → cond b (Some e.1) (lookup test es) ≡ Some c → Contains (held_by c.grant) d
    → (lookup test es ≡ Some c → Contains (held_in es) d) → Contains (held_in (e ∷ es)) d
table_by test true e es c d is h later =
    Contains-append_left (held_by e.1.grant) (held_in es) d (subst (λ (x : ClaimState). Contains (held_by x.grant) d) (sym (some_claim e.1 c is)) h)
table_by test false e es c d is h later = Contains-append_right (held_by e.1.grant) (held_in es) d (later is)

-- what a claim holds, the table holds
in_table : (test : Key → Bool) (es : Claims) (c : ClaimState) (d : DeviceId) → lookup test es ≡ Some c → Contains (held_by c.grant) d → Contains (held_in es) d
in_table test [] c d is h = absurd (cc)
in_table test (e ∷ es) c d is h = table_by test (test e.0) e es c d is h (λ g. in_table test es c d g h)

head_holds : (e : Key × ClaimState) (c : ClaimState) (d : DeviceId) → Some e.1 ≡ Some c → Contains (held_by c.grant) d → Contains (held_by e.1.grant) d
head_holds e c d is h = subst (λ (x : ClaimState). Contains (held_by x.grant) d) (sym (some_claim e.1 c is)) h

one_by : (e : Key × ClaimState) (es : Claims) (k l : Key) (c b : ClaimState) (d : DeviceId) (p q : Bool) → is_eq (key_cmp k e.0) ≡ p → is_eq (key_cmp l e.0) ≡ q → Apart (held_in (e ∷ es))
    → cond p (Some e.1) (at_key es k) ≡ Some c → cond q (Some e.1) (at_key es l) ≡ Some b → Contains (held_by c.grant) d → Contains (held_by b.grant) d
    → (at_key es k ≡ Some c → at_key es l ≡ Some b → k ≡ l) → k ≡ l
one_by e es k l c b d true true kp lq a is at h g later = same_from_key_cmp k e.0 kp ∙ sym (same_from_key_cmp l e.0 lq)
one_by e es k l c b d true false kp lq a is at h g later =
    absurd (apart_disjoint (held_by e.1.grant) (held_in es) a d (head_holds e c d is h) (in_table (is_at (key_cmp l)) es b d at g))
one_by e es k l c b d false true kp lq a is at h g later =
    absurd (apart_disjoint (held_by e.1.grant) (held_in es) a d (head_holds e b d at g) (in_table (is_at (key_cmp k)) es c d is h))
one_by e es k l c b d false false kp lq a is at h g later = later is at

one_in : (es : Claims) (k l : Key) (c b : ClaimState) (d : DeviceId) → Apart (held_in es) → at_key es k ≡ Some c → at_key es l ≡ Some b → Contains (held_by c.grant) d → Contains (held_by b.grant) d
    → k ≡ l
one_in [] k l c b d a is at h g = absurd (cc)
one_in (e ∷ es) k l c b d a is at h g =
    one_by e es k l c b d (is_eq (key_cmp k e.0)) (is_eq (key_cmp l e.0)) refl refl a is at h g (λ m n. one_in es k l c b d (apart_back (held_by e.1.grant) (held_in es) a) m n h g)

-- two claims that hold one device are one claim
pub one_claim_holds : (s : State) (k l : Key) (c b : ClaimState) (d : DeviceId) → HeldOnce s → at_key s.claims k ≡ Some c → at_key s.claims l ≡ Some b → Contains (held_by c.grant) d
    → Contains (held_by b.grant) d → k ≡ l
one_claim_holds s k l c b d once is at h g = one_in s.claims k l c b d (apart_of s once) is at h g
