-- What is asked for, over two inputs whose claims ask for the same.
use Rattle.std.proofs.Common.{ℕ, zero, suc, ◌+◌, ◌≡◌, List, [], ◌∷◌, ◌++◌, Bool, false, cond, Option, None, Some, length, map, filter, refl, sym, ap, ◌∙◌, subst}
use Rattle.std.specs.List.{slice_get}
use Rattle.std.specs.Option.{option_map}
use Rattle.walk.specs.Lists.{numbers}
use Rattle.api_claim.specs.declared.types.AllocationMode.{AllocationMode}
use Rattle.api_claim.specs.declared.types.AllocationMode.TheVariants.{ExactCount, All}
use Rattle.api_claim.specs.declared.types.DeviceAsk.{DeviceAsk}
use Rattle.api_claim.specs.declared.types.DeviceConstraint.{DeviceConstraint}
use Rattle.api_claim.specs.declared.types.DeviceRequest.{DeviceRequest}
use Rattle.api_claim.specs.declared.types.DeviceSubRequest.{DeviceSubRequest}
use Rattle.api_claim.specs.declared.types.RequestKind.{RequestKind}
use Rattle.api_claim.specs.declared.types.RequestKind.TheVariants.{Exactly, FirstAvailable}
use Rattle.api_claim.specs.declared.types.ResourceClaim.{ResourceClaim}
use Rattle.object_fields.specs.declared.key.Key.{Key}
use Rattle.pool_view.specs.Pools.{Offered}
use Rattle.request_rules.specs.Asked.{Asked, Rule, Seat, Slot, Wish, asked, asked_by, asked_from, asked_sub, match_by, matching, meets, options, rules_from, rules_of, seats, seats_by, slots_for, slots_of, ways_of, wishes, wishes_from, Due, is_yes}
use Rattle.request_rules.specs.Growth.{ClaimSpec, spec_of, specs_of}
use Rattle.request_rules.specs.Input.{SearchInput}
use Rattle.request_rules.specs.Lists.{Each, add_some}
use Rattle.request_rules.specs.Ways.{all_asked, asked_exactly, ways_by, ways_from, ways_in}
use Rattle.request_rules.proofs.Places.{each_left, each_right}

-- ---- two lists, element by element

abbrev pub Both : {X Y : Type 0} → (X → Y → Type 0) → List X → List Y → Type 0
Both R [] [] = Unit {0}
Both R [] (y ∷ ys) = ⊥
Both R (x ∷ xs) [] = ⊥
Both R (x ∷ xs) (y ∷ ys) = R x y × Both R xs ys

both_append : {X Y : Type 0} (R : X → Y → Type 0) (xs zs : List X) (ys us : List Y) → Both R xs ys → Both R zs us → Both R (xs ++ zs) (ys ++ us)
both_append R [] zs [] us f g = g
both_append R [] zs (y ∷ ys) us f g = absurd f
both_append R (x ∷ xs) zs [] us f g = absurd f
both_append R (x ∷ xs) zs (y ∷ ys) us f g = (f.0, both_append R xs zs ys us f.1 g)

both_map : {X Y Z : Type 0} (R : X → Y → Type 0) (f : Z → X) (g : Z → Y) (zs : List Z) → ((z : Z) → R (f z) (g z)) → Both R (map f zs) (map g zs)
both_map R f g [] h = tt
both_map R f g (z ∷ zs) h = (h z, both_map R f g zs h)

-- ---- wishes

-- the same request of a claim at the same index
pub record SameWish (q r : Wish) : Type 0 where
  pub claim : r.claim ≡ q.claim
  pub request : r.request ≡ q.request

head_of : {X : Type 0} (x y : X) (xs ys : List X) → x ∷ xs ≡ y ∷ ys → x ≡ y
head_of x y xs ys e = cc

tail_of : {X : Type 0} (x y : X) (xs ys : List X) → x ∷ xs ≡ y ∷ ys → xs ≡ ys
tail_of x y xs ys e = cc

wishes_by : (i : ℕ) (k l : Key) (rs ts : List DeviceRequest) → ts ≡ rs → Both SameWish (map (λ (r : DeviceRequest). record { claim = i; key = k; request = r }) rs) (map (λ (r : DeviceRequest). record { claim = i; key = l; request = r }) ts)
wishes_by i k l rs ts e =
    subst (λ (zs : List DeviceRequest). Both SameWish (map (λ (r : DeviceRequest). record { claim = i; key = k; request = r }) rs) (map (λ (r : DeviceRequest). record { claim = i; key = l; request = r }) zs)) (sym e)
    (both_map SameWish (λ (r : DeviceRequest). record { claim = i; key = k; request = r }) (λ (r : DeviceRequest). record { claim = i; key = l; request = r }) rs (λ r. record { claim = refl; request = refl }))

same_wishes : (i : ℕ) (cs ds : List ResourceClaim) → specs_of ds ≡ specs_of cs → Both SameWish (wishes_from i cs) (wishes_from i ds)
same_wishes i [] [] e = tt
same_wishes i [] (d ∷ ds) e = absurd (cc)
same_wishes i (c ∷ cs) [] e = absurd (cc)
same_wishes i (c ∷ cs) (d ∷ ds) e =
    let h = head_of (spec_of d) (spec_of c) (specs_of ds) (specs_of cs) e in
    both_append SameWish (map (λ (r : DeviceRequest). record { claim = i; key = c.key; request = r }) c.requests) (wishes_from (i + 1) cs)
    (map (λ (r : DeviceRequest). record { claim = i; key = d.key; request = r }) d.requests) (wishes_from (i + 1) ds)
    (wishes_by i c.key d.key c.requests d.requests (ap (λ (s : ClaimSpec). s.requests) h))
    (same_wishes (i + 1) cs ds (tail_of (spec_of d) (spec_of c) (specs_of ds) (specs_of cs) e))

same_options : (qs rs : List Wish) → Both SameWish qs rs → map (λ q. ways_of q.request.kind) rs ≡ map (λ q. ways_of q.request.kind) qs
same_options [] [] h = refl
same_options [] (r ∷ rs) h = absurd h
same_options (q ∷ qs) [] h = absurd h
same_options (q ∷ qs) (r ∷ rs) h =
    ap (λ (t : DeviceRequest). ways_of t.kind ∷ map (λ q. ways_of q.request.kind) rs) h.0.request
    ∙ ap (λ (ns : List ℕ). ways_of q.request.kind ∷ ns) (same_options qs rs h.1)

pub options_same : (v w : SearchInput) → specs_of w.claims ≡ specs_of v.claims → options w ≡ options v
options_same v w e = same_options (wishes v) (wishes w) (same_wishes 0 v.claims w.claims e)

same_rules : (i : ℕ) (cs ds : List ResourceClaim) → specs_of ds ≡ specs_of cs → rules_from i ds ≡ rules_from i cs
same_rules i [] [] e = refl
same_rules i [] (d ∷ ds) e = absurd (cc)
same_rules i (c ∷ cs) [] e = absurd (cc)
same_rules i (c ∷ cs) (d ∷ ds) e =
    let h = head_of (spec_of d) (spec_of c) (specs_of ds) (specs_of cs) e in
    ap (λ (s : ClaimSpec). map (λ (r : DeviceConstraint). record { claim = i; constraint = r }) s.constraints ++ rules_from (i + 1) ds) h
    ∙ ap (λ (rs : List Rule). map (λ (r : DeviceConstraint). record { claim = i; constraint = r }) c.constraints ++ rs) (same_rules (i + 1) cs ds (tail_of (spec_of d) (spec_of c) (specs_of ds) (specs_of cs) e))

pub rules_same : (v w : SearchInput) → specs_of w.claims ≡ specs_of v.claims → rules_of w ≡ rules_of v
unfolding rules_of
rules_same v w e = same_rules 0 v.claims w.claims e

pub claims_same : (cs ds : List ResourceClaim) → specs_of ds ≡ specs_of cs → length ds ≡ length cs
claims_same [] [] e = refl
claims_same [] (d ∷ ds) e = absurd (cc)
claims_same (c ∷ cs) [] e = absurd (cc)
claims_same (c ∷ cs) (d ∷ ds) e = ap suc (claims_same cs ds (tail_of (spec_of d) (spec_of c) (specs_of ds) (specs_of cs) e))

-- ---- what a choice picks

-- the ask evaluates to the same for each device
abbrev pub SameMatches : SearchInput → SearchInput → DeviceAsk → Type 0
SameMatches v w ask = Each (λ o. w.matched ask o ≡ v.matched ask o) v.devices

-- the same is asked for, by the same name of a claim at the same index
pub record SameAsked (v w : SearchInput) (a b : Asked) : Type 0 where
  pub label : b.label ≡ a.label
  pub ask : b.ask ≡ a.ask
  pub matched : SameMatches v w a.ask

abbrev pub BothSome : SearchInput → SearchInput → Option Asked → Option Asked → Type 0
BothSome v w None None = Unit {0}
BothSome v w None (Some b) = ⊥
BothSome v w (Some a) None = ⊥
BothSome v w (Some a) (Some b) = SameAsked v w a b

get_map : {X Y : Type 0} (f : X → Y) (xs : List X) (i : ℕ) (x : X) → slice_get xs i ≡ Some x → slice_get (map f xs) i ≡ Some (f x)
get_map f [] i x e = absurd (cc)
get_map f (y ∷ xs) zero x e = let g : y ≡ x = cc in ap (λ z. Some (f z)) g
get_map f (y ∷ xs) (suc i) x e = get_map f xs i x e

sub_by : (v w : SearchInput) (q r : Wish) (rs : List DeviceSubRequest) (k : ℕ) (o : Option DeviceSubRequest) → SameWish q r → Each (λ a. SameMatches v w a.ask) (map (asked_sub q) rs) → slice_get rs k ≡ o
    → BothSome v w (option_map (asked_sub q) o) (option_map (asked_sub r) o)
sub_by v w q r rs k None s h e = tt
sub_by v w q r rs k (Some t) s h e = record {
  label = ap (λ (n : ℕ). record { claim = n; request = r.request.name; sub = Some t.name; admin = false }) s.claim
      ∙ ap (λ (z : DeviceRequest). record { claim = q.claim; request = z.name; sub = Some t.name; admin = false }) s.request;
  ask = refl;
  matched = h k (asked_sub q t) (get_map (asked_sub q) rs k t e);
}

picked_by : (v w : SearchInput) (q r : Wish) (kind : RequestKind) (k : ℕ) → SameWish q r → Each (λ a. SameMatches v w a.ask) (ways_by q kind) → BothSome v w (asked_by q kind k) (asked_by r kind k)
picked_by v w q r (Exactly x) k s h = record {
  label = ap (λ (n : ℕ). record { claim = n; request = r.request.name; sub = None; admin = x.admin }) s.claim
      ∙ ap (λ (z : DeviceRequest). record { claim = q.claim; request = z.name; sub = None; admin = x.admin }) s.request;
  ask = refl;
  matched = h 0 (asked_exactly q x) refl;
}
picked_by v w q r (FirstAvailable rs) k s h = sub_by v w q r rs k (slice_get rs k) s h refl

both_add : (v w : SearchInput) (o p : Option Asked) (xs bs : List Asked) → BothSome v w o p → Both (SameAsked v w) xs bs → Both (SameAsked v w) (add_some o xs) (add_some p bs)
both_add v w None None xs bs f g = g
both_add v w None (Some b) xs bs f g = absurd f
both_add v w (Some a) None xs bs f g = absurd f
both_add v w (Some a) (Some b) xs bs f g = (f, g)

same_picked : (v w : SearchInput) (qs rs : List Wish) (ks : List ℕ) → Both SameWish qs rs → Each (λ a. SameMatches v w a.ask) (ways_from qs) → Both (SameAsked v w) (asked_from qs ks) (asked_from rs ks)
same_picked v w [] [] ks s h = tt
same_picked v w [] (r ∷ rs) ks s h = absurd s
same_picked v w (q ∷ qs) [] ks s h = absurd s
same_picked v w (q ∷ qs) (r ∷ rs) [] s h = tt
same_picked v w (q ∷ qs) (r ∷ rs) (k ∷ ks) s h =
    both_add v w (asked_by q q.request.kind k) (asked_by r r.request.kind k) (asked_from qs ks) (asked_from rs ks)
    (subst (λ (z : DeviceRequest). BothSome v w (asked_by q q.request.kind k) (asked_by r z.kind k)) (sym s.0.request)
    (picked_by v w q r q.request.kind k s.0 (each_left (λ a. SameMatches v w a.ask) (ways_in q) (ways_from qs) h)))
    (same_picked v w qs rs ks s.1 (each_right (λ a. SameMatches v w a.ask) (ways_in q) (ways_from qs) h))

pub asked_same : (v w : SearchInput) (c : List ℕ) → specs_of w.claims ≡ specs_of v.claims → Each (λ a. SameMatches v w a.ask) (all_asked v) → Both (SameAsked v w) (asked v c) (asked w c)
unfolding asked all_asked
asked_same v w c e h = same_picked v w (wishes v) (wishes w) c (same_wishes 0 v.claims w.claims e) h

-- ---- matches

match_some : (v w : SearchInput) (ask : DeviceAsk) (x : ℕ) (o : Option Offered) → SameMatches v w ask → slice_get v.devices x ≡ o → match_by w ask o ≡ match_by v ask o
match_some v w ask x None h e = refl
match_some v w ask x (Some p) h e = h x p e

pub meets_same : (v w : SearchInput) (ask : DeviceAsk) (x : ℕ) → w.devices ≡ v.devices → SameMatches v w ask → meets w ask x ≡ meets v ask x
meets_same v w ask x e h =
    ap (λ (ds : List Offered). is_yes (match_by w ask (slice_get ds x))) e
    ∙ ap is_yes (match_some v w ask x (slice_get v.devices x) h refl)

filter_same : {X : Type 0} (f g : X → Bool) (xs : List X) → ((x : X) → f x ≡ g x) → filter f xs ≡ filter g xs
filter_same f g [] e = refl
filter_same f g (x ∷ xs) e =
    ap (λ b. cond b (x ∷ filter f xs) (filter f xs)) (e x)
    ∙ ap (λ l. cond (g x) (x ∷ l) l) (filter_same f g xs e)

pub matching_same : (v w : SearchInput) (ask : DeviceAsk) → w.devices ≡ v.devices → SameMatches v w ask → matching w ask ≡ matching v ask
unfolding matching
matching_same v w ask e h =
    ap (λ (ds : List Offered). filter (meets w ask) (numbers 0 (length ds))) e
    ∙ filter_same (meets w ask) (meets v ask) (numbers 0 (length v.devices)) (λ x. meets_same v w ask x e h)

-- ---- slots

pub record SameSlot (v w : SearchInput) (s t : Slot) : Type 0 where
  pub asked : SameAsked v w s.asked t.asked
  pub seat : t.seat ≡ s.seat

seats_by_same : (v w : SearchInput) (ask : DeviceAsk) (m : AllocationMode) → matching w ask ≡ matching v ask → seats_by w ask m ≡ seats_by v ask m
seats_by_same v w ask (ExactCount n) e = refl
seats_by_same v w ask All e = ap (map (λ x. Due x)) e

seats_same : (v w : SearchInput) (ask : DeviceAsk) → w.devices ≡ v.devices → SameMatches v w ask → seats w ask ≡ seats v ask
unfolding seats
seats_same v w ask e h = seats_by_same v w ask ask.mode (matching_same v w ask e h)

one_asked : (v w : SearchInput) (a b : Asked) → w.devices ≡ v.devices → SameAsked v w a b → Both (SameSlot v w) (slots_of v a) (slots_of w b)
one_asked v w a b e s =
    subst (λ (zs : List Seat). Both (SameSlot v w) (slots_of v a) (map (λ (z : Seat). record { asked = b; seat = z }) zs))
    (sym (ap (seats w) s.ask ∙ seats_same v w a.ask e s.matched))
    (both_map (SameSlot v w) (λ (z : Seat). record { asked = a; seat = z }) (λ (z : Seat). record { asked = b; seat = z }) (seats v a.ask) (λ z. record { asked = s; seat = refl }))

pub slots_same : (v w : SearchInput) (xs bs : List Asked) → w.devices ≡ v.devices → Both (SameAsked v w) xs bs → Both (SameSlot v w) (slots_for v xs) (slots_for w bs)
slots_same v w [] [] e h = tt
slots_same v w [] (b ∷ bs) e h = absurd h
slots_same v w (a ∷ xs) [] e h = absurd h
slots_same v w (a ∷ xs) (b ∷ bs) e h = both_append (SameSlot v w) (slots_of v a) (slots_for v xs) (slots_of w b) (slots_for w bs) (one_asked v w a b e h.0) (slots_same v w xs bs e h.1)
