-- A pod's uses taken away leave each device with one holder.
use Rattle.std.proofs.Common.{ℕ, ◌≡◌, ◌∙◌, List, [], ◌∷◌, ◌++◌, Bool, true, false, cond, Option, None, Some, refl, ap}
use Rattle.std.specs.Map.{remove_entry, set_value}
use Rattle.std.specs.Option.{option_map_or}
use Rattle.std.specs.BTreeMap.{is_at}
use Rattle.object_fields.specs.declared.key.Key.{Key}
use Rattle.pool_view.specs.Names.{at_key, key_cmp}
use Rattle.cluster.specs.declared.object.Target.TheVariants as target
use Rattle.cluster.specs.declared.state.ClaimState.{ClaimState}
use Rattle.cluster.specs.declared.state.State.{State}
use Rattle.cluster.specs.declared.state.Use.{Use}
use Rattle.cluster.specs.Deleted.{without_object}
use Rattle.cluster.specs.Freed.{claims_by, freed, freed_by, grant_left, with_freed, without_user, without_uses}
use Rattle.cluster.specs.Held.{HeldOnce, held_by}
use Rattle.cluster.specs.Tables.{changed_at}
use Rattle.allocations.proofs.Changes.{once_deleted}
use Rattle.allocations.proofs.HeldIds.{Claims, held_in}
use Rattle.allocations.proofs.Holding.{once_same, same_held}

lost_by : (b : Bool) (e : Key × ClaimState) (es more less : Claims) (w : ClaimState) → w.grant ≡ None → held_in more ≡ held_in less → held_in (cond b ((e.0, w) ∷ es) (e ∷ more)) ≡ held_in (cond b es (e ∷ less))
lost_by true e es more less w none later = ap (λ g. held_by g ++ held_in es) none
lost_by false e es more less w none later = ap (λ ps. held_by e.1.grant ++ ps) later

-- a value without a grant holds what no value does
lost_value : (test : Key → Bool) (es : Claims) (w : ClaimState) → w.grant ≡ None → held_in (set_value test es w) ≡ held_in (remove_entry test es)
lost_value test [] w none = refl
lost_value test (e ∷ es) w none = lost_by (test e.0) e es (set_value test es w) (remove_entry test es) w none (lost_value test es w none)

-- the state with other claims
abbrev with_claims : State → Claims → State
with_claims s claims = record s { claims = claims }

left_once : (s : State) (k : Key) (c w : ClaimState) (us : List (Key × Use)) → at_key s.claims k ≡ Some c → w.grant ≡ grant_left us c.grant → HeldOnce s → HeldOnce (with_claims s (set_value (is_at (key_cmp k)) s.claims w))
left_once s k c w [] there grant h =
    once_same (without_object (target.Claim k) s) (with_claims s (set_value (is_at (key_cmp k)) s.claims w)) (once_deleted (target.Claim k) s h) (lost_value (is_at (key_cmp k)) s.claims w grant)
left_once s k c w (u ∷ us) there grant h =
    once_same s (with_claims s (set_value (is_at (key_cmp k)) s.claims w)) h (same_held (is_at (key_cmp k)) s.claims c w there (ap held_by grant))

use_once : (s : State) (index : ℕ) (pod k : Key) (c : ClaimState) (o : Option Use) → at_key s.claims k ≡ Some c → HeldOnce s → HeldOnce (with_claims s (set_value (is_at (key_cmp k)) s.claims (freed_by index pod o c)))
use_once s index pod k c None there h = once_same s (with_claims s (set_value (is_at (key_cmp k)) s.claims c)) h (same_held (is_at (key_cmp k)) s.claims c c there refl)
use_once s index pod k c (Some u) there h = left_once s k c (freed_by index pod (Some u) c) (without_user pod c.users) there refl h

claim_once : (s : State) (index : ℕ) (pod k : Key) (o : Option ClaimState) → at_key s.claims k ≡ o → HeldOnce s
    → HeldOnce (with_claims s (option_map_or (λ c. set_value (is_at (key_cmp k)) s.claims (freed index pod c)) o s.claims))
claim_once s index pod k None is h = once_same s (with_claims s s.claims) h refl
claim_once s index pod k (Some c) is h = use_once s index pod k c (at_key c.users pod) is h

freed_once : (s : State) (index : ℕ) (pod : Key) (ks : List Key) (claims : Claims) → HeldOnce (with_claims s claims) → HeldOnce (with_claims s (with_freed index pod ks claims))
freed_once s index pod [] claims h = h
freed_once s index pod (k ∷ ks) claims h =
    freed_once s index pod ks (changed_at k (freed index pod) claims) (claim_once (with_claims s claims) index pod k (at_key claims k) refl h)

pub unused_once : (index : ℕ) (pod : Key) (s : State) → HeldOnce s → HeldOnce (without_uses index pod s)
unused_once index pod s h =
    let ks : List Key = claims_by (at_key s.pods pod) in
    once_same (with_claims s (with_freed index pod ks s.claims)) (without_uses index pod s) (freed_once s index pod ks s.claims (once_same s (with_claims s s.claims) h refl)) refl
