-- What failures of grants mean.
use Rattle.std.proofs.Common.{ℕ, zero, suc, ◌+◌, ◌≡◌, ◌⊎◌, List, [], ◌∷◌, ◌++◌, Bool, true, false, not, ◌&&◌, cond, Option, None, Some, find, length, map, take, drop, append_assoc, inl, inr, refl, sym, ap, ◌∙◌, subst, ⊎_elim, arith}
use Rattle.std.specs.List.{slice_get, Contains}
use Rattle.std.specs.Option.{is_none, option_map}
use Rattle.std.proofs.lemmas.Bool.Decides.{nat_tests}
use Rattle.object_fields.specs.declared.key.DeviceId.{DeviceId}
use Rattle.object_fields.specs.declared.key.Key.{Key}
use Rattle.api_claim.specs.declared.types.DeviceConstraint.{DeviceConstraint}
use Rattle.api_claim.specs.declared.types.ResourceClaim.{ResourceClaim}
use Rattle.request_rules.specs.Agreeing as agreeing
use Rattle.constraints.specs.Keeping.{KeepsConstraint}
use Rattle.request_rules.specs.Draws.{Draw, is_within}
use Rattle.pool_view.specs.declared.matching.Match.{Match}
use Rattle.pool_view.specs.declared.matching.Match.TheVariants.{Yes, No, Fault}
use Rattle.pool_view.specs.Names.{device_eq, key_eq}
use Rattle.pool_view.specs.Pools.{Offered, id_in}
use Rattle.pool_view.specs.Views.{position_from, position_of}
use Rattle.cluster.specs.declared.failure.Failure.{Failure}
use Rattle.cluster.specs.declared.failure.Failure.TheVariants as failure
use Rattle.cluster.specs.declared.plan.DeviceResult.{DeviceResult}
use Rattle.cluster.specs.declared.plan.Grant.{Grant}
use Rattle.request_rules.specs.Asked.{Asked, match_at, tolerated_at}
use Rattle.request_rules.specs.Faults.{FaultPlace, IsFirstFault, fault_of}
use Rattle.request_rules.specs.Input.{SearchInput}
use Rattle.request_rules.specs.Joining.{seen_all}
use Rattle.request_rules.specs.Lists.{Each, first_some, or_else}
use Rattle.request_rules.specs.Rules.{Pick, device_draws, total, within}
use Rattle.plan_rules.specs.Chosen.{Due, asked_in, choice_of, due, due_for, dues, dues_for, dues_from, picks_of, place_of}
use Rattle.plan_rules.specs.Failing.{failing_in, failing_shaped, failing_standing, failing_tolerated}
use Rattle.plan_rules.specs.Says.{DeviceIsGone, IsBelow, IsBroken, IsFaulted, IsHeld, IsMisgranted, IsMisshapen, IsShort, IsTainted, IsUnmet}
use Rattle.plan_rules.specs.Shaped.{is_shaped, misshapen, shape_from}
use Rattle.plan_rules.specs.Standing.{HeldPairs, agree, all_results, broken_by, constraint_broken, counter_short, device_gone, disagreed_from, held, held_behind, held_by, held_from, holder_of, is_no, is_off, is_short, is_unmet, is_untolerated, selector_fault, selector_no, short_for, short_on, shortfall, tainted, taker_of, takes}
use Rattle.plan_rules.proofs.Clearing.{holder_there}
use Rattle.plan_rules.proofs.Cuts.{AllShaped, results_for, shaped_all}
use Rattle.plan_rules.proofs.Elements.{Contains-from_get, each_join, each_to_map, found_at, get-from_contains, get-left, map-at}
use Rattle.plan_rules.proofs.Tolerating.{OnlyLaw, taint_of}
use Rattle.plan_rules.proofs.Tests.{equal_devices, found_parts, image_twice, is_false, left_of, right_of, same_from_device_eq, same_from_key_eq, some_is, truth_isnt}

-- a law of `request_rules`
abbrev pub FaultLaw : Type 0
FaultLaw = (w : SearchInput) (c : List ℕ) (f : FaultPlace) → fault_of w c ≡ Some f → IsFirstFault w c f

-- a law of `constraints`
abbrev pub AgreedLaw : Type 0
AgreedLaw = (c : DeviceConstraint) (xs : List agreeing.Pick) → KeepsConstraint c xs → agreeing.each_agrees c [] xs ≡ true

-- what a failure of grants means, if their node exists
abbrev pub Tells : SearchInput → List Grant → Failure → Type 0
Tells w grants (failure.ClaimGone k) = ⊥
Tells w grants (failure.ClaimChanged k) = ⊥
Tells w grants (failure.Users k) = ⊥
Tells w grants (failure.NodeGone name) = ⊥
Tells w grants (failure.DeviceGone d) = DeviceIsGone w grants d
Tells w grants (failure.Shape k) = IsMisshapen w grants k
Tells w grants (failure.SelectorNo d) = IsUnmet w grants d
Tells w grants (failure.SelectorFault d) = IsFaulted w grants d
Tells w grants (failure.Tainted d) = IsTainted w grants d
Tells w grants (failure.Held d k) = IsHeld w grants d k
Tells w grants (failure.Counter c) = IsShort w grants c
Tells w grants (failure.Constraint k n) = IsBroken w grants k n

-- ---- the first that exists

pub either_by : (o p : Option Failure) (f : Failure) (P : Type 0) → or_else o p ≡ Some f → (o ≡ Some f → P) → (o ≡ None → p ≡ Some f → P) → P
either_by (Some x) p f P e first later = first e
either_by None p f P e first later = later refl e

pub record Found {X : Type 0} (image : X → Failure) (p : X → Bool) (xs : List X) (f : Failure) : Type 0 where
  pub at : ℕ
  pub it : X
  pub get : slice_get xs at ≡ Some it
  pub passes : p it ≡ true
  pub is : image it ≡ f

found_some : {X : Type 0} (image : X → Failure) (p : X → Bool) (xs : List X) (f : Failure) (o : Option X) → find p xs ≡ o → option_map image o ≡ Some f → Found image p xs f
found_some image p xs f None e g = absurd (cc)
found_some image p xs f (Some x) e g =
    let r = found_at p xs x e in
    record { at = r.0; it = x; get = r.1; passes = r.2; is = some_is (image x) f g }

pub found_of : {X : Type 0} (image : X → Failure) (p : X → Bool) (xs : List X) (f : Failure) → option_map image (find p xs) ≡ Some f → Found image p xs f
found_of image p xs f e = found_some image p xs f (find p xs) refl e

record FirstSome {X : Type 0} (g : X → Option Failure) (xs : List X) (f : Failure) : Type 0 where
  at : ℕ
  it : X
  get : slice_get xs at ≡ Some it
  gives : g it ≡ Some f

first_by : {X : Type 0} (g : X → Option Failure) (x : X) (xs : List X) (f : Failure) (o : Option Failure) → g x ≡ o → or_else o (first_some g xs) ≡ Some f → (first_some g xs ≡ Some f → FirstSome g xs f) → FirstSome g (x ∷ xs) f
first_by g x xs f (Some y) e h rest = record { at = 0; it = x; get = refl; gives = e ∙ h }
first_by g x xs f None e h rest = let r = rest h in record { at = suc r.at; it = r.it; get = r.get; gives = r.gives }

first_of : {X : Type 0} (g : X → Option Failure) (xs : List X) (f : Failure) → first_some g xs ≡ Some f → FirstSome g xs f
first_of g [] f e = absurd (cc)
first_of g (x ∷ xs) f e = first_by g x xs f (g x) refl e (first_of g xs f)

pub none_is : {X : Type 0} (o : Option X) → is_none o ≡ true → o ≡ None
none_is None e = refl
none_is (Some x) e = absurd (cc)

-- ---- devices that are gone

-- an element of the first list, or of the second
sides : {X : Type 0} (P : Type 0) (xs ys : List X) (i : ℕ) (x : X) → slice_get (xs ++ ys) i ≡ Some x → ((n : ℕ) → slice_get xs n ≡ Some x → P) → ((n : ℕ) → slice_get ys n ≡ Some x → P) → P
sides P [] ys i x e left right = right i e
sides P (z ∷ xs) ys zero x e left right = left 0 e
sides P (z ∷ xs) ys (suc i) x e left right = sides P xs ys i x e (λ n f. left (suc n) f) right

contains_next : {X : Type 0} (x : X) (xs : List X) (y : X) → Contains xs y → Contains (x ∷ xs) y
contains_next x xs y h = Contains-from_get (x ∷ xs) (suc h.0) y (get-from_contains xs y h)

listed_at : (gs : List Grant) (i : ℕ) (r : DeviceResult) → slice_get (all_results gs) i ≡ Some r → (g : Grant) × Contains gs g × Contains g.results r
listed_at [] i r e = absurd (cc)
listed_at (g ∷ gs) i r e =
    sides ((h : Grant) × Contains (g ∷ gs) h × Contains h.results r) g.results (all_results gs) i r e
    (λ n f. (g, Contains-from_get (g ∷ gs) 0 g refl, Contains-from_get g.results n r f))
    (λ n f. let l = listed_at gs n r f in (l.0, contains_next g gs l.0 l.1, l.2))

position_none : (n : ℕ) (id : DeviceId) (os : List Offered) → position_from n id os ≡ None → Each (λ o. device_eq (id_in o) id ≡ false) os
position_none n id [] e i o h = absurd (cc)
position_none n id (p ∷ os) e zero o h = let s : p ≡ o = cc in ap (λ (z : Offered). device_eq (id_in z) id) (sym s) ∙ (found_parts (device_eq (id_in p) id) n (position_from (n + 1) id os) e).0
position_none n id (p ∷ os) e (suc i) o h = position_none (n + 1) id os (found_parts (device_eq (id_in p) id) n (position_from (n + 1) id os) e).1 i o h

gone_tells : (w : SearchInput) (grants : List Grant) (f : Failure) → device_gone w.devices grants ≡ Some f → Tells w grants f
gone_tells w grants f e =
    let r = found_of (λ (r : DeviceResult). failure.DeviceGone r.device) (is_off w.devices) (all_results grants) f e in
    let l = listed_at grants r.at r.it r.get in
    let none = position_none 0 r.it.device w.devices (none_is (position_of r.it.device w.devices) r.passes) in
    subst (Tells w grants) r.is (record {
      granted = record { grant = l.0; granted = l.1; result = r.it; listed = l.2; device_is = refl };
      gone = λ o h same. truth_isnt (device_eq (id_in o) r.it.device) (equal_devices (id_in o) r.it.device same) (none h.0 o (get-from_contains w.devices o h));
    })

-- ---- shape

misgranted_by : (w : SearchInput) (i : ℕ) (c : ResourceClaim) (cs : List ResourceClaim) (g : Grant) (gs : List Grant) (f : Failure) (b : Bool) → (key_eq g.claim c.key && is_shaped w i c g.results) ≡ b
    → cond b (shape_from w (i + 1) cs gs) (Some (failure.Shape c.key)) ≡ Some f
    → (shape_from w (i + 1) cs gs ≡ Some f → (k : Key) × (j : ℕ) × (failure.Shape k ≡ f) × IsMisgranted w (i + 1 + j) (slice_get cs j) (slice_get gs j) k)
    → (k : Key) × (j : ℕ) × (failure.Shape k ≡ f) × IsMisgranted w (i + j) (slice_get (c ∷ cs) j) (slice_get (g ∷ gs) j) k
misgranted_by w i c cs g gs f true e h rest =
    let r = rest h in
    let n : i + 1 + r.1 ≡ i + suc r.1 = omega arith in
    (r.0, suc r.1, r.2, subst (λ (z : ℕ). IsMisgranted w z (slice_get cs r.1) (slice_get gs r.1) r.0) n r.3)
misgranted_by w i c cs g gs f false e h rest =
    let n : i ≡ i + 0 = omega arith in
    (c.key, 0, some_is (failure.Shape c.key) f h, subst (λ (z : ℕ). IsMisgranted w z (Some c) (Some g) c.key) n (refl, e))

misgranted_at : (w : SearchInput) (i : ℕ) (cs : List ResourceClaim) (gs : List Grant) (f : Failure) → shape_from w i cs gs ≡ Some f
    → (k : Key) × (j : ℕ) × (failure.Shape k ≡ f) × IsMisgranted w (i + j) (slice_get cs j) (slice_get gs j) k
misgranted_at w i [] [] f e = absurd (cc)
misgranted_at w i [] (g ∷ gs) f e = (g.claim, 0, some_is (failure.Shape g.claim) f e, refl)
misgranted_at w i (c ∷ cs) [] f e = (c.key, 0, some_is (failure.Shape c.key) f e, refl)
misgranted_at w i (c ∷ cs) (g ∷ gs) f e = misgranted_by w i c cs g gs f (key_eq g.claim c.key && is_shaped w i c g.results) refl e (misgranted_at w (i + 1) cs gs f)

shape_tells : (w : SearchInput) (grants : List Grant) (f : Failure) → misshapen w grants ≡ Some f → Tells w grants f
shape_tells w grants f e =
    let r = misgranted_at w 0 w.claims grants f e in
    let n : 0 + r.1 ≡ r.1 = omega arith in
    subst (Tells w grants) r.2 (record { place = r.1; misgranted = subst (λ (z : ℕ). IsMisgranted w z (slice_get w.claims r.1) (slice_get grants r.1) r.0) n r.3 })

-- ---- selectors

no_is : (m : Match) → is_no m ≡ true → m ≡ No
no_is Yes e = absurd (cc)
no_is No e = refl
no_is (Fault n why) e = absurd (cc)

unmet_tells : (w : SearchInput) (grants : List Grant) (f : Failure) → selector_no w (dues w grants) ≡ Some f → Tells w grants f
unmet_tells w grants f e =
    let r = found_of (λ (d : Due). failure.SelectorNo d.result.device) (is_unmet w) (dues w grants) f e in
    subst (Tells w grants) r.is (record {
      due = r.it;
      granted = Contains-from_get (dues w grants) r.at r.it r.get;
      device_is = refl;
      unmet = no_is (match_at w r.it.asked.ask (place_of w r.it.result)) r.passes;
    })

fault_by : (law : FaultLaw) (w : SearchInput) (grants : List Grant) (f : Failure) (o : Option FaultPlace) → fault_of w (choice_of w grants) ≡ o → option_map (λ f. failure.SelectorFault f.device) o ≡ Some f → Tells w grants f
fault_by law w grants f None e g = absurd (cc)
fault_by law w grants f (Some p) e g = subst (Tells w grants) (some_is (failure.SelectorFault p.device) f g) (record { fault = p; first = law w (choice_of w grants) p e; device_is = refl })

fault_tells : (law : FaultLaw) (w : SearchInput) (grants : List Grant) (f : Failure) → selector_fault w (choice_of w grants) ≡ Some f → Tells w grants f
fault_tells law w grants f e = fault_by law w grants f (fault_of w (choice_of w grants)) refl e

-- ---- taints

taint_tells : (law : OnlyLaw) (w : SearchInput) (grants : List Grant) (f : Failure) → tainted w (dues w grants) ≡ Some f → Tells w grants f
taint_tells law w grants f e =
    let r = found_of (λ (d : Due). failure.Tainted d.result.device) (is_untolerated w) (dues w grants) f e in
    let t = taint_of law w r.it.asked (place_of w r.it.result) (is_false (tolerated_at w r.it.asked.ask (place_of w r.it.result)) r.passes) in
    subst (Tells w grants) r.is (record {
      due = r.it;
      granted = Contains-from_get (dues w grants) r.at r.it r.get;
      device_is = refl;
      offered = t.offered;
      on_node = t.on_node;
      taint = t.taint;
      has = t.has;
      untolerated = t.untolerated;
    })

-- ---- holders

-- a grant of the result's claim has it
pub record Listed (gs : List Grant) (d : Due) : Type 0 where
  pub grant : Grant
  pub granted : Contains gs grant
  pub claim_is : grant.claim ≡ d.claim
  pub listed : Contains grant.results d.result

keys_for : (w : SearchInput) (k : Key) (asks : List Asked) (rs : List DeviceResult) → Each (λ d. d.claim ≡ k) (dues_for w k asks rs)
keys_for w k [] rs i d e = absurd (cc)
keys_for w k (a ∷ asks) rs i d e =
    each_join (λ (d : Due). d.claim ≡ k) (map (due_for k a) (take (due w a) rs)) (dues_for w k asks (drop (due w a) rs))
    (each_to_map (due_for k a) (λ (d : Due). d.claim ≡ k) (take (due w a) rs) (λ n r f. refl)) (keys_for w k asks (drop (due w a) rs)) i d e

listed_next : (g : Grant) (gs : List Grant) (d : Due) → Listed gs d → Listed (g ∷ gs) d
listed_next g gs d l = record { grant = l.grant; granted = contains_next g gs l.grant l.granted; claim_is = l.claim_is; listed = l.listed }

listed_all : (w : SearchInput) (i : ℕ) (cs : List ResourceClaim) (gs : List Grant) → AllShaped w i cs gs → Each (Listed gs) (dues_from w i cs gs)
listed_all w i [] gs s j d e = absurd (cc)
listed_all w i (c ∷ cs) [] s j d e = absurd (cc)
listed_all w i (c ∷ cs) (g ∷ gs) s j d e =
    let asks = asked_in i c g.results in
    let mine = dues_for w c.key asks g.results in
    each_join (Listed (g ∷ gs)) mine (dues_from w (i + 1) cs gs)
    (λ n x f. record {
      grant = g;
      granted = Contains-from_get (g ∷ gs) 0 g refl;
      claim_is = same_from_key_eq g.claim c.key s.0.key ∙ sym (keys_for w c.key asks g.results n x f);
      listed = Contains-from_get g.results n x.result (ap (λ (l : List DeviceResult). slice_get l n) (sym (results_for w c.key asks g.results s.0.parts)) ∙ map-at (λ (d : Due). d.result) mine n x f);
    })
    (λ n x f. listed_next g gs x (listed_all w (i + 1) cs gs s.1 n x f)) j d e

-- a result without admin access that is held
record HeldAt (pairs : HeldPairs) (all : List Due) (f : Failure) : Type 0 where
  due : Due
  at : ℕ
  get : slice_get all at ≡ Some due
  claim : Key
  is : failure.Held due.result.device claim ≡ f
  by_claim : (holder_of pairs due.result.device ≡ Some claim) ⊎ ((b : Due) × (n : ℕ) × (slice_get all n ≡ Some b) × (b.claim ≡ claim) × (takes due.result.device b ≡ true))

taker_at : (before : List Due) (id : DeviceId) (k : Key) (o : Option Due) → find (takes id) before ≡ o → option_map (λ (d : Due). d.claim) o ≡ Some k → (b : Due) × (n : ℕ) × (slice_get before n ≡ Some b) × (b.claim ≡ k) × (takes id b ≡ true)
taker_at before id k None e f = absurd (cc)
taker_at before id k (Some b) e f = let r = found_at (takes id) before b e in (b, r.0, r.1, some_is b.claim k f, r.2)

key_by : (o p : Option Key) (k : Key) → or_else o p ≡ Some k → (o ≡ Some k) ⊎ (p ≡ Some k)
key_by (Some l) p k e = inl e
key_by None p k e = inr e

held_key : (d : Due) (f : Failure) (o : Option Key) → held_by d o ≡ Some f → (k : Key) × (o ≡ Some k) × (failure.Held d.result.device k ≡ f)
held_key d f None e = absurd (cc)
held_key d f (Some k) e = (k, refl, some_is (failure.Held d.result.device k) f e)

behind_key : (pairs : HeldPairs) (before : List Due) (d : Due) (f : Failure) (admin : Bool) → d.result.admin ≡ admin → held_behind pairs before d ≡ Some f
    → (k : Key) × (or_else (holder_of pairs d.result.device) (taker_of before d.result.device) ≡ Some k) × (failure.Held d.result.device k ≡ f)
behind_key pairs before d f true e h =
    let o = held_by d (or_else (holder_of pairs d.result.device) (taker_of before d.result.device)) in
    let g : None ≡ Some f = sym (ap (λ (t : Bool). cond t None o) e) ∙ h in
    absurd (cc)
behind_key pairs before d f false e h =
    let o = held_by d (or_else (holder_of pairs d.result.device) (taker_of before d.result.device)) in
    held_key d f (or_else (holder_of pairs d.result.device) (taker_of before d.result.device)) (sym (ap (λ (t : Bool). cond t None o) e) ∙ h)

get_length : {X : Type 0} (xs ys : List X) (x : X) → slice_get (xs ++ x ∷ ys) (length xs) ≡ Some x
get_length [] ys x = refl
get_length (z ∷ xs) ys x = get_length xs ys x

held_sides : (pairs : HeldPairs) (before ds all : List Due) (d : Due) (k : Key) → before ++ d ∷ ds ≡ all → or_else (holder_of pairs d.result.device) (taker_of before d.result.device) ≡ Some k
    → (holder_of pairs d.result.device ≡ Some k) ⊎ ((b : Due) × (n : ℕ) × (slice_get all n ≡ Some b) × (b.claim ≡ k) × (takes d.result.device b ≡ true))
held_sides pairs before ds all d k e h =
    ⊎_elim
    (λ (g : holder_of pairs d.result.device ≡ Some k). inl g)
    (λ (g : taker_of before d.result.device ≡ Some k).
    let r = taker_at before d.result.device k (find (takes d.result.device) before) refl g in
    inr (r.0, r.1, ap (λ (l : List Due). slice_get l r.1) (sym e) ∙ get-left before (d ∷ ds) r.1 r.0 r.2, r.3, r.4))
    (key_by (holder_of pairs d.result.device) (taker_of before d.result.device) k h)

held_at : (pairs : HeldPairs) (before ds all : List Due) (f : Failure) → before ++ ds ≡ all → held_from pairs before ds ≡ Some f → HeldAt pairs all f
held_at pairs before [] all f e h = absurd (cc)
held_at pairs before (d ∷ ds) all f e h =
    either_by (held_behind pairs before d) (held_from pairs (before ++ d ∷ []) ds) f (HeldAt pairs all f) h
    (λ g.
    let k = behind_key pairs before d f d.result.admin refl g in
    record {
      due = d;
      at = length before;
      get = ap (λ (l : List Due). slice_get l (length before)) (sym e) ∙ get_length before ds d;
      claim = k.0;
      is = k.2;
      by_claim = held_sides pairs before ds all d k.0 e k.1;
    })
    (λ g k. held_at pairs (before ++ d ∷ []) ds all f (append_assoc before (d ∷ []) ds ∙ e) k)

held_says : (w : SearchInput) (grants : List Grant) (ds : List Due) (f : Failure) → Each (Listed grants) ds → HeldAt w.held ds f → Tells w grants f
held_says w grants ds f list h =
    let l = list h.at h.due h.get in
    subst (Tells w grants) h.is (record {
      granted = record { grant = l.grant; granted = l.granted; result = h.due.result; listed = l.listed; device_is = refl };
      by_claim =
          ⊎_elim
          (λ (e : holder_of w.held h.due.result.device ≡ Some h.claim). let r = holder_there w.held h.due.result.device h.claim e in inl (Contains-from_get w.held r.0 (h.due.result.device, h.claim) r.1))
          (λ (b : (b : Due) × (n : ℕ) × (slice_get ds n ≡ Some b) × (b.claim ≡ h.claim) × (takes h.due.result.device b ≡ true)).
          let m = list b.1 b.0 b.2 in
          inr (record {
            grant = m.grant;
            granted = m.granted;
            claim_is = m.claim_is ∙ b.3;
            result = b.0.result;
            listed = m.listed;
            device_is = same_from_device_eq b.0.result.device h.due.result.device (right_of (not b.0.result.admin) (device_eq b.0.result.device h.due.result.device) b.4);
            admin = is_false b.0.result.admin (left_of (not b.0.result.admin) (device_eq b.0.result.device h.due.result.device) b.4);
          }))
          h.by_claim;
    })

held_tells : (w : SearchInput) (grants : List Grant) (f : Failure) → AllShaped w 0 w.claims grants → held w.held (dues w grants) ≡ Some f → Tells w grants f
unfolding dues
held_tells w grants f s e =
    let ds = dues_from w 0 w.claims grants in
    held_says w grants ds f (listed_all w 0 w.claims grants s) (held_at w.held [] ds ds f refl e)

-- ---- counters

below_by : (o : Option ℕ) (n : ℕ) → is_within o n ≡ false → IsBelow o n
below_by None n e = tt
below_by (Some v) n e = grind (arith, nat_tests, e)

short_parts : (w : SearchInput) (ps : List Pick) (p : Pick) (f : Failure) (admin : Bool) → p.label.admin ≡ admin → short_for w ps p ≡ Some f
    → (p.label.admin ≡ false) × Found (λ (d : Draw). failure.Counter (shortfall w ps d.counter)) (is_short w ps) (device_draws w p) f
short_parts w ps p f true e h =
    let o : Option Failure = option_map failure.Counter (short_on w ps p) in
    let g : None ≡ Some f = sym (ap (λ (t : Bool). cond t None o) e) ∙ h in
    absurd (cc)
short_parts w ps p f false e h =
    let o : Option Failure = option_map failure.Counter (short_on w ps p) in
    let twice = image_twice failure.Counter (λ (d : Draw). shortfall w ps d.counter) (find (is_short w ps) (device_draws w p)) in
    (e, found_of (λ (d : Draw). failure.Counter (shortfall w ps d.counter)) (is_short w ps) (device_draws w p) f (sym twice ∙ sym (ap (λ (t : Bool). cond t None o) e) ∙ h))

short_tells : (w : SearchInput) (grants : List Grant) (f : Failure) → counter_short w (picks_of w grants) ≡ Some f → Tells w grants f
short_tells w grants f e =
    let ps = picks_of w grants in
    let r = first_of (short_for w ps) ps f e in
    let s = short_parts w ps r.it f r.it.label.admin refl r.gives in
    subst (Tells w grants) s.1.is (record {
      pick = r.it;
      granted = Contains-from_get ps r.at r.it r.get;
      admin = s.0;
      draw = s.1.it;
      drawn_on = Contains-from_get (device_draws w r.it) s.1.at s.1.it s.1.get;
      set_is = refl;
      counter_is = refl;
      drawn_is = refl;
      value_is = refl;
      short = below_by (w.value s.1.it.counter) (total w s.1.it.counter ps) (is_false (within w s.1.it.counter (total w s.1.it.counter ps)) s.1.passes);
    })

-- ---- constraints

-- a constraint of a claim, at their indexes, that isn't kept
record BrokenAt (w : SearchInput) (ps : List Pick) (i : ℕ) (cs : List ResourceClaim) (f : Failure) : Type 0 where
  at : ℕ
  claim : ResourceClaim
  get : slice_get cs at ≡ Some claim
  index : ℕ
  constraint : DeviceConstraint
  constraint_is : slice_get claim.constraints index ≡ Some constraint
  is : failure.Constraint claim.key index ≡ f
  broken : agree w ps (i + at) constraint ≡ false

index_by : (holds : DeviceConstraint → Bool) (key : Key) (n : ℕ) (c : DeviceConstraint) (cs : List DeviceConstraint) (f : Failure) (b : Bool) → holds c ≡ b → cond b (broken_by holds key (n + 1) cs) (Some (failure.Constraint key n)) ≡ Some f
    → (broken_by holds key (n + 1) cs ≡ Some f → (j : ℕ) × (d : DeviceConstraint) × (slice_get cs j ≡ Some d) × (failure.Constraint key (n + 1 + j) ≡ f) × (holds d ≡ false))
    → (j : ℕ) × (d : DeviceConstraint) × (slice_get (c ∷ cs) j ≡ Some d) × (failure.Constraint key (n + j) ≡ f) × (holds d ≡ false)
index_by holds key n c cs f true e h rest =
    let r = rest h in
    let m : n + suc r.0 ≡ n + 1 + r.0 = omega arith in
    (suc r.0, r.1, r.2, ap (failure.Constraint key) m ∙ r.3, r.4)
index_by holds key n c cs f false e h rest =
    let m : n + 0 ≡ n = omega arith in
    (0, c, refl, ap (failure.Constraint key) m ∙ some_is (failure.Constraint key n) f h, e)

index_at : (holds : DeviceConstraint → Bool) (key : Key) (n : ℕ) (cs : List DeviceConstraint) (f : Failure) → broken_by holds key n cs ≡ Some f
    → (j : ℕ) × (d : DeviceConstraint) × (slice_get cs j ≡ Some d) × (failure.Constraint key (n + j) ≡ f) × (holds d ≡ false)
index_at holds key n [] f e = absurd (cc)
index_at holds key n (c ∷ cs) f e = index_by holds key n c cs f (holds c) refl e (index_at holds key (n + 1) cs f)

broken_here : (w : SearchInput) (ps : List Pick) (i : ℕ) (c : ResourceClaim) (cs : List ResourceClaim) (f : Failure) → broken_by (agree w ps i) c.key 0 c.constraints ≡ Some f → BrokenAt w ps i (c ∷ cs) f
broken_here w ps i c cs f e =
    let r = index_at (agree w ps i) c.key 0 c.constraints f e in
    let n : r.0 ≡ 0 + r.0 = omega arith in
    let m : i + 0 ≡ i = omega arith in
    record { at = 0; claim = c; get = refl; index = r.0; constraint = r.1; constraint_is = r.2; is = ap (failure.Constraint c.key) n ∙ r.3; broken = ap (λ (z : ℕ). agree w ps z r.1) m ∙ r.4 }

broken_later : (w : SearchInput) (ps : List Pick) (i : ℕ) (c : ResourceClaim) (cs : List ResourceClaim) (f : Failure) → BrokenAt w ps (i + 1) cs f → BrokenAt w ps i (c ∷ cs) f
broken_later w ps i c cs f b =
    let m : i + suc b.at ≡ i + 1 + b.at = omega arith in
    record { at = suc b.at; claim = b.claim; get = b.get; index = b.index; constraint = b.constraint; constraint_is = b.constraint_is; is = b.is; broken = ap (λ (z : ℕ). agree w ps z b.constraint) m ∙ b.broken }

broken_at : (w : SearchInput) (ps : List Pick) (i : ℕ) (cs : List ResourceClaim) (f : Failure) → disagreed_from w ps i cs ≡ Some f → BrokenAt w ps i cs f
broken_at w ps i [] f e = absurd (cc)
broken_at w ps i (c ∷ cs) f e =
    either_by (broken_by (agree w ps i) c.key 0 c.constraints) (disagreed_from w ps (i + 1) cs) f (BrokenAt w ps i (c ∷ cs) f) e (broken_here w ps i c cs f)
    (λ g k. broken_later w ps i c cs f (broken_at w ps (i + 1) cs f k))

broken_tells : (law : AgreedLaw) (w : SearchInput) (grants : List Grant) (f : Failure) → constraint_broken w (picks_of w grants) ≡ Some f → Tells w grants f
broken_tells law w grants f e =
    let ps = picks_of w grants in
    let b = broken_at w ps 0 w.claims f e in
    let m : b.at ≡ 0 + b.at = omega arith in
    subst (Tells w grants) b.is (record {
      place = b.at;
      wanted = b.claim;
      wanted_is = b.get;
      claim_is = refl;
      constraint = b.constraint;
      constraint_is = b.constraint_is;
      broken = λ k. truth_isnt (agree w ps b.at b.constraint) (law b.constraint (seen_all w (record { claim = b.at; constraint = b.constraint }) ps) k) (ap (λ (z : ℕ). agree w ps z b.constraint) m ∙ b.broken);
    })

-- ---- all of them

pub grants_tell : (faults : FaultLaw) (only : OnlyLaw) (agreed : AgreedLaw) (w : SearchInput) (grants : List Grant) (f : Failure) → failing_in w grants ≡ Some f → Tells w grants f
unfolding failing_in
grants_tell faults only agreed w grants f e =
    let c = choice_of w grants in
    let ds = dues w grants in
    let ps = picks_of w grants in
    let T = Tells w grants f in
    either_by (device_gone w.devices grants) (or_else (misshapen w grants) (failing_shaped w c ds)) f T e (gone_tells w grants f)
    (λ gone e. either_by (misshapen w grants) (failing_shaped w c ds) f T e (shape_tells w grants f)
    (λ shape e. either_by (selector_no w ds) (or_else (selector_fault w c) (failing_tolerated w ds)) f T e (unmet_tells w grants f)
    (λ unmet e. either_by (selector_fault w c) (failing_tolerated w ds) f T e (fault_tells faults w grants f)
    (λ fault e. either_by (tainted w ds) (failing_standing w ds) f T e (taint_tells only w grants f)
    (λ tolerated e. either_by (held w.held ds) (or_else (counter_short w ps) (constraint_broken w ps)) f T e (held_tells w grants f (shaped_all w 0 w.claims grants shape))
    (λ taken e. either_by (counter_short w ps) (constraint_broken w ps) f T e (short_tells w grants f)
    (λ short e. broken_tells agreed w grants f e)))))))
