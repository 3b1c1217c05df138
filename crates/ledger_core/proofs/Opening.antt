-- The claims of a plan's grants are there without a grant, and differ.
use Rattle.std.proofs.Common.{ℕ, ◌+◌, ◌≡◌, ◌≢◌, ◌∙◌, List, [], ◌∷◌, Bool, true, false, true≢false, cond, ◌||◌, Option, None, Some, map, refl, sym, ap, subst}
use Rattle.std.specs.List.{list_any}
use Rattle.object_fields.specs.declared.key.Key.{Key}
use Rattle.api_claim.specs.declared.types.ResourceClaim.{ResourceClaim}
use Rattle.api_cluster.specs.declared.types.Pod.{Pod}
use Rattle.pool_view.specs.Names.{at_key, key_eq}
use Rattle.cluster.specs.declared.plan.Grant.{Grant}
use Rattle.cluster.specs.declared.state.ClaimState.{ClaimState}
use Rattle.cluster.specs.declared.state.Granted.{Granted}
use Rattle.cluster.specs.declared.state.State.{State}
use Rattle.cluster.specs.Claims.{claim_keys, first_places}
use Rattle.request_rules.specs.Allocation.{Result}
use Rattle.request_rules.specs.Grants.{grants_from, grants_of}
use Rattle.allocations.specs.Allocation.{IsAllocation}
use Rattle.allocations.specs.Claims.{add_ungranted, add_wanted, wanted, wanted_of}
use Rattle.allocations.specs.Input.{grant_of, grants_by, input_of}
use Rattle.ledger_core.proofs.SameNames.{key_self}
use Rattle.ledger_core.proofs.Splitting.{Claims}

-- a claim that is there without a grant
pub record Open (claims : Claims) (k : Key) : Type 0 where
  pub claim : ClaimState
  pub there : at_key claims k ≡ Some claim
  pub none : claim.grant ≡ None

-- each of the grants is of such a claim
abbrev pub EachOpen : Claims → List Grant → Type 0
EachOpen claims [] = Unit {0}
EachOpen claims (g ∷ gs) = Open claims g.claim × EachOpen claims gs

-- none of the grants is of the claim
abbrev pub NoneOf : Key → List Grant → Type 0
NoneOf k [] = Unit {0}
NoneOf k (g ∷ gs) = (k ≢ g.claim) × NoneOf k gs

-- the grants are of different claims
abbrev pub OfDifferent : List Grant → Type 0
OfDifferent [] = Unit {0}
OfDifferent (g ∷ gs) = NoneOf g.claim gs × OfDifferent gs

-- none of the keys is the key
abbrev pub Away : Key → List Key → Type 0
Away k [] = Unit {0}
Away k (l ∷ ls) = (k ≢ l) × Away k ls

abbrev pub KeysDiffer : List Key → Type 0
KeysDiffer [] = Unit {0}
KeysDiffer (k ∷ ks) = Away k ks × KeysDiffer ks

-- ---- keys, each at its first index

away_if : (k l : Key) (seen ks : List Key) (b : Bool) → list_any (λ m. key_eq m l) seen ≡ b → list_any (λ m. key_eq m k) seen ≡ true → Away k (first_places seen ks)
    → Away k (first_places (l ∷ seen) ks) → Away k (cond b (first_places seen ks) (l ∷ first_places (l ∷ seen) ks))
away_if k l seen ks true is at here later = here
away_if k l seen ks false is at here later = (λ (e : k ≡ l). true≢false (sym at ∙ ap (λ (x : Key). list_any (λ m. key_eq m x) seen) e ∙ is), later)

or_right : (b c : Bool) → c ≡ true → (b || c) ≡ true
or_right true c e = refl
or_right false c e = e

-- a key that was seen comes no more
away_seen : (k : Key) (ks seen : List Key) → list_any (λ m. key_eq m k) seen ≡ true → Away k (first_places seen ks)
away_seen k [] seen at = tt
away_seen k (l ∷ ks) seen at =
    away_if k l seen ks (list_any (λ m. key_eq m l) seen) refl at (away_seen k ks seen at) (away_seen k ks (l ∷ seen) (or_right (key_eq l k) (list_any (λ m. key_eq m k) seen) at))

differ_if : (l : Key) (seen ks : List Key) (b : Bool) → KeysDiffer (first_places seen ks) → KeysDiffer (first_places (l ∷ seen) ks) → KeysDiffer (cond b (first_places seen ks) (l ∷ first_places (l ∷ seen) ks))
differ_if l seen ks true here later = here
differ_if l seen ks false here later = (away_seen l ks (l ∷ seen) (ap (λ b. b || list_any (λ m. key_eq m l) seen) (key_self l)), later)

pub firsts_differ : (ks seen : List Key) → KeysDiffer (first_places seen ks)
firsts_differ [] seen = tt
firsts_differ (l ∷ ks) seen = differ_if l seen ks (list_any (λ m. key_eq m l) seen) (firsts_differ ks seen) (firsts_differ ks (l ∷ seen))

-- ---- the claims that a pod needs

abbrev EachFree : Claims → List ResourceClaim → Type 0
EachFree claims [] = Unit {0}
EachFree claims (c ∷ cs) = Open claims c.key × EachFree claims cs

abbrev Apart : Key → List ResourceClaim → Type 0
Apart k [] = Unit {0}
Apart k (c ∷ cs) = (k ≢ c.key) × Apart k cs

abbrev AllApart : List ResourceClaim → Type 0
AllApart [] = Unit {0}
AllApart (c ∷ cs) = Apart c.key cs × AllApart cs

free_with : (claims : Claims) (k : Key) (x : ClaimState) (g : Option Granted) (others : List ResourceClaim) → at_key claims k ≡ Some x → x.grant ≡ g → EachFree claims others
    → EachFree claims (add_ungranted k x g others)
free_with claims k x None others is none each = (record { claim = x; there = is; none = none }, each)
free_with claims k x (Some g) others is none each = each

free_by : (claims : Claims) (k : Key) (o : Option ClaimState) (others : List ResourceClaim) → at_key claims k ≡ o → EachFree claims others → EachFree claims (add_wanted k o others)
free_by claims k None others is each = each
free_by claims k (Some x) others is each = free_with claims k x x.grant others is refl each

wanted_free : (s : State) (ks : List Key) → EachFree s.claims (wanted_of s ks)
wanted_free s [] = tt
wanted_free s (k ∷ ks) = free_by s.claims k (at_key s.claims k) (wanted_of s ks) refl (wanted_free s ks)

apart_with : (k l : Key) (x : ClaimState) (g : Option Granted) (others : List ResourceClaim) → k ≢ l → Apart k others → Apart k (add_ungranted l x g others)
apart_with k l x None others n away = (n, away)
apart_with k l x (Some g) others n away = away

apart_by : (k l : Key) (o : Option ClaimState) (others : List ResourceClaim) → k ≢ l → Apart k others → Apart k (add_wanted l o others)
apart_by k l None others n away = away
apart_by k l (Some x) others n away = apart_with k l x x.grant others n away

wanted_away : (s : State) (k : Key) (ks : List Key) → Away k ks → Apart k (wanted_of s ks)
wanted_away s k [] away = tt
wanted_away s k (l ∷ ks) away = apart_by k l (at_key s.claims l) (wanted_of s ks) away.0 (wanted_away s k ks away.1)

all_with : (k : Key) (x : ClaimState) (g : Option Granted) (others : List ResourceClaim) → Apart k others → AllApart others → AllApart (add_ungranted k x g others)
all_with k x None others away a = (away, a)
all_with k x (Some g) others away a = a

all_by : (k : Key) (o : Option ClaimState) (others : List ResourceClaim) → Apart k others → AllApart others → AllApart (add_wanted k o others)
all_by k None others away a = a
all_by k (Some x) others away a = all_with k x x.grant others away a

wanted_apart : (s : State) (ks : List Key) → KeysDiffer ks → AllApart (wanted_of s ks)
wanted_apart s [] differ = tt
wanted_apart s (k ∷ ks) differ = all_by k (at_key s.claims k) (wanted_of s ks) (wanted_away s k ks differ.0) (wanted_apart s ks differ.1)

-- ---- the grants of an allocation

abbrev cuts : ℕ → List ResourceClaim → List Result → List Grant
cuts i cs rs = map grant_of (grants_from i cs rs)

cuts_open : (claims : Claims) (i : ℕ) (cs : List ResourceClaim) (rs : List Result) → EachFree claims cs → EachOpen claims (cuts i cs rs)
cuts_open claims i [] rs each = tt
cuts_open claims i (c ∷ cs) rs each = (each.0, cuts_open claims (i + 1) cs rs each.1)

cuts_away : (k : Key) (i : ℕ) (cs : List ResourceClaim) (rs : List Result) → Apart k cs → NoneOf k (cuts i cs rs)
cuts_away k i [] rs away = tt
cuts_away k i (c ∷ cs) rs away = (away.0, cuts_away k (i + 1) cs rs away.1)

cuts_differ : (i : ℕ) (cs : List ResourceClaim) (rs : List Result) → AllApart cs → OfDifferent (cuts i cs rs)
cuts_differ i [] rs a = tt
cuts_differ i (c ∷ cs) rs a = (cuts_away c.key (i + 1) cs rs a.0, cuts_differ (i + 1) cs rs a.1)

-- grants of claims that are there without a grant, and differ
pub record Grantable (claims : Claims) (gs : List Grant) : Type 0 where
  pub open_each : EachOpen claims gs
  pub differ : OfDifferent gs

pub allocation_opens : (s : State) (p : Pod) (node choice : List ℕ) (grants : List Grant) → IsAllocation s (wanted s p) node choice grants → Grantable s.claims grants
unfolding wanted grants_by grants_of input_of
allocation_opens s p node choice grants a =
    let ks = first_places [] (claim_keys p) in
    let cs = wanted_of s ks in
    let whole : Grantable s.claims (cuts 0 cs a.results) =
    record { open_each = cuts_open s.claims 0 cs a.results (wanted_free s ks); differ = cuts_differ 0 cs a.results (wanted_apart s ks (firsts_differ (claim_keys p) [])) } in
    subst (λ (gs : List Grant). Grantable s.claims gs) (sym a.cut) whole
