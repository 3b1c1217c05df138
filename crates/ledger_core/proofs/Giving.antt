-- What claims hold once they are given devices.
use Rattle.std.proofs.Common.{ℕ, suc, ◌+◌, ◌<◌, ◌≡◌, ◌∙◌, List, [], ◌∷◌, ◌++◌, Bool, true, false, cond, ◌||◌, Option, None, Some, map, length, drop, drop-cons, get_or, refl, sym, ap, subst, add-one}
use Rattle.std.specs.BTreeMap.{insert_entry, is_at}
use Rattle.std.specs.Map.{set_value}
use Rattle.std.specs.Option.{option_map_or}
use Rattle.object_fields.specs.declared.key.DeviceId.{DeviceId}
use Rattle.object_fields.specs.declared.key.Key.{Key}
use Rattle.api_claim.specs.declared.types.ClaimStatus.{ClaimStatus}
use Rattle.counter_sets.specs.Holding.{AreHeld, Holders, holder_in}
use Rattle.pool_view.specs.Names.{at_key, device_eq, key_cmp}
use Rattle.cluster.specs.declared.plan.DeviceResult.{DeviceResult}
use Rattle.cluster.specs.declared.plan.Grant.{Grant}
use Rattle.cluster.specs.declared.plan.Plan.{Plan}
use Rattle.cluster.specs.declared.state.ClaimState.{ClaimState}
use Rattle.cluster.specs.declared.state.State.{State}
use Rattle.cluster.specs.declared.state.Use.TheVariants.{Assumed}
use Rattle.cluster.specs.Adopted.{adopted_by, result_of, with_adopted}
use Rattle.cluster.specs.Held.{HeldOnce, devices_held, held, held_by}
use Rattle.cluster.specs.Reserved.{joined_by, with_grant, with_grants, with_joins, with_reserved}
use Rattle.cluster.specs.Tables.{changed_at}
use Rattle.ledger_core.specs.Holding.{given_each, given_one, given_to, left_of, left_one}
use Rattle.ledger_core.proofs.Once.{Once, Pairs, among_others, is_among, looked, looked_in, once_held, once_without, with_key}
use Rattle.ledger_core.proofs.Opening.{EachOpen, Grantable, NoneOf, OfDifferent, Open}
use Rattle.ledger_core.proofs.Splitting.{Claims, changed_same, held_is, pairs_in, set_elsewhere, split}

-- ---- results one after another

among_by : (b : Bool) (id d : DeviceId) (ds : List DeviceId) → is_among id (cond b ds (d ∷ ds)) ≡ cond b (is_among id ds) (device_eq d id || is_among id ds)
among_by true id d ds = refl
among_by false id d ds = refl

put_by : (b c m : Bool) (x o : Option Key) → cond m x (cond b o (cond c x o)) ≡ cond (cond b m (c || m)) x o
put_by true c m x o = refl
put_by false true true x o = refl
put_by false true false x o = refl
put_by false false m x o = refl

-- the devices that a claim is given are its own
pub given_is : (k : Key) (rs : List DeviceResult) (id : DeviceId) (o : Option Key) → given_to k rs id o ≡ cond (is_among id (devices_held rs)) (Some k) o
given_is k [] id o = refl
given_is k (r ∷ rs) id o =
    given_is k rs id (given_one k r id o)
    ∙ put_by r.admin (device_eq r.device id) (is_among id (devices_held rs)) (Some k) o
    ∙ ap (λ b. cond b (Some k) o) (sym (among_by r.admin id r.device (devices_held rs)))

-- those that are given back are nobody's
pub left_is : (rs : List DeviceResult) (id : DeviceId) (o : Option Key) → left_of rs id o ≡ cond (is_among id (devices_held rs)) None o
left_is [] id o = refl
left_is (r ∷ rs) id o =
    left_is rs id (left_one r id o)
    ∙ put_by r.admin (device_eq r.device id) (is_among id (devices_held rs)) None o
    ∙ ap (λ b. cond b None o) (sym (among_by r.admin id r.device (devices_held rs)))

pub item_at : {X : Type 0} (xs : List X) (i : ℕ) (x : X) → i < length xs → x ≡ get_or xs i x → drop i xs ≡ x ∷ drop (i + 1) xs
item_at {X} xs i x h e = drop-cons xs i x h ∙ ap (λ (y : X). y ∷ drop (suc i) xs) (sym e) ∙ ap (λ (n : ℕ). x ∷ drop n xs) (sym (add-one i))

-- one result more is given
pub give_next : (k : Key) (rs : List DeviceResult) (i : ℕ) (r : DeviceResult) (old now : Holders) (id : DeviceId) (all : Option Key) → i < length rs → r ≡ get_or rs i r
    → holder_in now id ≡ given_one k r id (holder_in old id) → given_to k (drop i rs) id (holder_in old id) ≡ all → given_to k (drop (i + 1) rs) id (holder_in now id) ≡ all
give_next k rs i r old now id all lt is made so =
    ap (λ o. given_to k (drop (i + 1) rs) id o) made ∙ ap (λ xs. given_to k xs id (holder_in old id)) (sym (item_at rs i r lt is)) ∙ so

-- ---- grants one after another

-- one grant more is made
pub grant_next : (gs : List Grant) (i : ℕ) (g : Grant) (old now : Holders) (id : DeviceId) (all : Option Key) → i < length gs → g ≡ get_or gs i g
    → holder_in now id ≡ given_to g.claim g.results id (holder_in old id) → given_each (drop i gs) id (holder_in old id) ≡ all → given_each (drop (i + 1) gs) id (holder_in now id) ≡ all
grant_next gs i g old now id all lt is made so =
    ap (λ o. given_each (drop (i + 1) gs) id o) made ∙ ap (λ xs. given_each xs id (holder_in old id)) (sym (item_at gs i g lt is)) ∙ so

-- ---- a claim without a grant, which is given one

-- what is so where devices are given to a claim, and no device is held twice then
pub record Gives (claims given : Claims) (k : Key) (ds : List DeviceId) : Type 0 where
  pub once : Once (pairs_in claims)
  pub looks : (id : DeviceId) → looked id (pairs_in given) ≡ cond (is_among id ds) (Some k) (looked id (pairs_in claims))

pub gives : (claims : Claims) (k : Key) (v w : ClaimState) → at_key claims k ≡ Some v → v.grant ≡ None → Once (pairs_in (set_value (is_at (key_cmp k)) claims w))
    → Gives claims (set_value (is_at (key_cmp k)) claims w) k (held_by w.grant)
gives claims k v w is none once =
    let s = split claims k v is in
    let ds = held_by w.grant in
    let before : pairs_in claims ≡ s.prefix ++ s.back = s.whole ∙ ap (λ g. s.prefix ++ (with_key k (held_by g) ++ s.back)) none in
    let o : Once (among_others s.prefix k ds s.back) = subst (λ (ps : Pairs). Once ps) (s.set w) once in
    record {
      once = subst (λ (ps : Pairs). Once ps) (sym before) (once_without s.prefix (with_key k ds) s.back o);
      looks = λ id. ap (λ ps. looked id ps) (s.set w) ∙ looked_in id s.prefix k ds s.back o ∙ ap (λ ps. cond (is_among id ds) (Some k) (looked id ps)) (sym before);
    }

-- ---- the grants of a plan

abbrev granted : List ℕ → Key → List DeviceResult → ClaimState → ClaimState
granted node pod results x = record x { grant = Some (record { node = node; results = results; published = false }); users = insert_entry key_cmp x.users pod (Assumed x.claim.version) }

grant_sets : (node : List ℕ) (pod k : Key) (results : List DeviceResult) (claims : Claims) (u : Open claims k)
    → with_grant node pod k results claims ≡ set_value (is_at (key_cmp k)) claims (granted node pod results u.claim)
grant_sets node pod k results claims u = ap (λ o. option_map_or (λ x. set_value (is_at (key_cmp k)) claims (granted node pod results x)) o claims) u.there

-- the other claims have no grant as before
open_kept : (node : List ℕ) (pod k : Key) (results : List DeviceResult) (claims : Claims) (u : Open claims k) (gs : List Grant) → NoneOf k gs → EachOpen claims gs
    → EachOpen (with_grant node pod k results claims) gs
open_kept node pod k results claims u [] away each = tt
open_kept node pod k results claims u (g ∷ gs) away each = (
  record {
    claim = each.0.claim;
    there = ap (λ (es : Claims). at_key es g.claim) (grant_sets node pod k results claims u) ∙ set_elsewhere claims k g.claim (granted node pod results u.claim) away.0 ∙ each.0.there;
    none = each.0.none;
  },
  open_kept node pod k results claims u gs away.1 each.1,
)

-- what is so where grants are made, and no device is held twice then
record GivesEach (claims given : Claims) (gs : List Grant) : Type 0 where
  once : Once (pairs_in claims)
  looks : (id : DeviceId) → looked id (pairs_in given) ≡ given_each gs id (looked id (pairs_in claims))

gives_each : (node : List ℕ) (pod : Key) (gs : List Grant) (claims : Claims) → EachOpen claims gs → OfDifferent gs → Once (pairs_in (with_grants node pod gs claims))
    → GivesEach claims (with_grants node pod gs claims) gs
gives_each node pod [] claims each differ once = record { once = once; looks = λ id. refl }
gives_each node pod (g ∷ gs) claims each differ once =
    let next = with_grant node pod g.claim g.results claims in
    let later = gives_each node pod gs next (open_kept node pod g.claim g.results claims each.0 gs differ.0 each.1) differ.1 once in
    let sets = grant_sets node pod g.claim g.results claims each.0 in
    let now : Gives claims next g.claim (devices_held g.results) =
    subst (λ (es : Claims). Gives claims es g.claim (devices_held g.results)) (sym sets)
    (gives claims g.claim each.0.claim (granted node pod g.results each.0.claim) each.0.there each.0.none (subst (λ (es : Claims). Once (pairs_in es)) sets later.once)) in
    record {
      once = now.once;
      looks = λ id. later.looks id ∙ ap (λ o. given_each gs id o) (now.looks id ∙ sym (given_is g.claim g.results id (looked id (pairs_in claims))));
    }

joins_same : (pod : Key) (ks : List Key) (es : Claims) → pairs_in (with_joins pod ks es) ≡ pairs_in es
joins_same pod [] es = refl
joins_same pod (k ∷ ks) es = joins_same pod ks (changed_at k (joined_by pod) es) ∙ changed_same es k (joined_by pod) (λ c. refl)

-- what is so of the devices that claims hold, where a plan's grants are made
pub record Reserves (s t : State) (gs : List Grant) : Type 0 where
  pub given : (hs hs' : Holders) → AreHeld hs (held s) → ((id : DeviceId) → holder_in hs' id ≡ given_each gs id (holder_in hs id)) → AreHeld hs' (held t)

pub reserves : (s : State) (job : ℕ) (pod : Key) (plan : Plan) → Grantable s.claims plan.grants → HeldOnce (with_reserved job pod plan s) → Reserves s (with_reserved job pod plan s) plan.grants
reserves s job pod plan able once =
    let t = with_reserved job pod plan s in
    let made = with_grants plan.node pod plan.grants s.claims in
    let same : held t ≡ pairs_in made = held_is t ∙ joins_same pod plan.joins made in
    let all = gives_each plan.node pod plan.grants s.claims able.open_each able.differ (subst (λ (ps : Pairs). Once ps) same (once_held t once)) in
    record {
      given = λ hs hs' are is. record {
        holder = λ id.
            is id
            ∙ ap (λ o. given_each plan.grants id o) (are.holder id ∙ ap (λ ps. looked id ps) (held_is s))
            ∙ sym (all.looks id)
            ∙ ap (λ ps. looked id ps) (sym same);
      };
    }

-- ---- the grant of a status write

-- the same where a claim is granted what a status write says
pub record Adopts (s t : State) (claim : Key) (rs : List DeviceResult) : Type 0 where
  pub given : (hs hs' : Holders) → AreHeld hs (held s) → ((id : DeviceId) → holder_in hs' id ≡ given_to claim rs id (holder_in hs id)) → AreHeld hs' (held t)

pub adopts : (s : State) (index : ℕ) (claim : Key) (status : ClaimStatus) → Open s.claims claim → HeldOnce (with_adopted index claim status s)
    → Adopts s (with_adopted index claim status s) claim (map result_of status.results)
adopts s index claim status u once =
    let t = with_adopted index claim status s in
    let rs = map result_of status.results in
    let sets : t.claims ≡ set_value (is_at (key_cmp claim)) s.claims (adopted_by index status u.claim) =
    ap (λ o. option_map_or (λ x. set_value (is_at (key_cmp claim)) s.claims (adopted_by index status x)) o s.claims) u.there in
    let same : held t ≡ pairs_in (set_value (is_at (key_cmp claim)) s.claims (adopted_by index status u.claim)) = held_is t ∙ ap (λ es. pairs_in es) sets in
    let all = gives s.claims claim u.claim (adopted_by index status u.claim) u.there u.none (subst (λ (ps : Pairs). Once ps) same (once_held t once)) in
    record {
      given = λ hs hs' are is. record {
        holder = λ id.
            is id
            ∙ given_is claim rs id (holder_in hs id)
            ∙ ap (λ o. cond (is_among id (devices_held rs)) (Some claim) o) (are.holder id ∙ ap (λ ps. looked id ps) (held_is s))
            ∙ sym (all.looks id)
            ∙ ap (λ ps. looked id ps) (sym same);
      };
    }
