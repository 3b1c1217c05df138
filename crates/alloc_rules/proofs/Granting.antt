-- The grants of claims, one after another: their shape, what their names pick, and their results.
use Rattle.std.proofs.Common.{ℕ, ◌+◌, ◌<◌, ◌≡◌, ◌∙◌, List, [], ◌∷◌, ◌++◌, Bool, true, false, ◌&&◌, cond, Option, None, Some, drop, drop_of_length-le, find, get_or, length, map, take, refl, sym, ap, subst, arith, append_assoc, append-nil}
use Rattle.std.specs.List.{slice_get}
use Rattle.std.specs.Option.{option_or}
use Rattle.std.proofs.Math.Seq.{drop-drop, take-length}
use Rattle.std.proofs.lemmas.List.Concat.{flat_map-append}
use Rattle.std.proofs.lemmas.List.{length-append, map-append}
use Rattle.std.proofs.lemmas.List.Folds.{find-append}
use Rattle.object_fields.specs.declared.key.Key.{Key}
use Rattle.api_claim.specs.declared.types.DeviceRequest.{DeviceRequest}
use Rattle.api_claim.specs.declared.types.ResourceClaim.{ResourceClaim}
use Rattle.pool_view.specs.Names.{key_eq}
use Rattle.pool_view.specs.Pools.{Offered}
use Rattle.cluster.specs.declared.plan.Grant.{Grant}
use Rattle.cluster.specs.declared.failure.Failure.TheVariants.{Shape}
use Rattle.request_rules.specs.Asked.{Asked, Wish, wishes, wishes_from}
use Rattle.request_rules.specs.Input.{SearchInput}
use Rattle.request_rules.specs.Ways.{all_asked, ways_from, ways_in, wishes_in}
use Rattle.alloc_rules.specs.declared.naming.Named.{Named}
use Rattle.plan_rules.specs.Chosen.{Due, choice_of, dues, dues_for, dues_from, named_way, results_at, results_by}
use Rattle.alloc_rules.specs.Rows.{AreDuesMore, AreWays, DueFields, HasWays, IsPickedAll, asked_rows}
use Rattle.plan_rules.specs.Shaped.{is_shaped, misshapen, shape_from}
use Rattle.plan_rules.specs.Standing.{all_results, is_off}
use Rattle.alloc_rules.proofs.Lists.{back_is, drop_got, drop_next, drop_none, prefix_is}
use Rattle.alloc_rules.proofs.Shaping.{dues_joined, dues_none}

-- ---- the rows of some requests, and of those after them

pub prefix_there : (w : SearchInput) (n : ℕ) (qs ps : List Wish) → HasWays w n (qs ++ ps) → HasWays w n qs
prefix_there w n qs ps h =
    let e : length (ways_from (qs ++ ps)) ≡ length (ways_from qs) + length (ways_from ps) = ap (λ (l : List Asked). length l) (flat_map-append ways_in qs ps) ∙ length-append (ways_from qs) (ways_from ps) in
    omega arith

pub prefix_ways : (w : SearchInput) (n : ℕ) (qs ps : List Wish) → AreWays w n (qs ++ ps) → AreWays w n qs
prefix_ways w n qs ps h =
    prefix_is (ways_from qs) (ways_from ps) (drop n (all_asked w))
    (ap (λ (l : List Asked). take (length l) (drop n (all_asked w))) (sym (flat_map-append ways_in qs ps)) ∙ h ∙ flat_map-append ways_in qs ps)

pub later_there : (w : SearchInput) (n m : ℕ) (qs ps : List Wish) → m ≡ n + length (ways_from qs) → HasWays w n (qs ++ ps) → HasWays w m ps
later_there w n m qs ps g h =
    let e : length (ways_from (qs ++ ps)) ≡ length (ways_from qs) + length (ways_from ps) = ap (λ (l : List Asked). length l) (flat_map-append ways_in qs ps) ∙ length-append (ways_from qs) (ways_from ps) in
    omega arith

pub later_ways : (w : SearchInput) (n m : ℕ) (qs ps : List Wish) → m ≡ n + length (ways_from qs) → AreWays w n (qs ++ ps) → AreWays w m ps
later_ways w n m qs ps g h =
    ap (λ (k : ℕ). take (length (ways_from ps)) (drop k (all_asked w))) g
    ∙ ap (take (length (ways_from ps))) (sym (drop-drop (length (ways_from qs)) n (all_asked w)))
    ∙ back_is (ways_from qs) (ways_from ps) (drop n (all_asked w))
    (ap (λ (l : List Asked). take (length l) (drop n (all_asked w))) (sym (flat_map-append ways_in qs ps)) ∙ h ∙ flat_map-append ways_in qs ps)

-- ---- claim by claim

abbrev pub ways_named : List Grant → List Wish → List ℕ
ways_named grants qs = map (λ q. named_way (results_at grants q.claim) q q.request.kind) qs

-- the claims before an index have their grants
pub record GrantedSoFar (w : SearchInput) (devices : List Offered) (grants : List Grant) (named : Named) (now : List DueFields) (place : ℕ) (claims : List ResourceClaim) (left : List Grant) : Type 0 where
  pub shape : shape_from w place claims left ≡ misshapen w grants
  pub choice : named.choice.items ++ ways_named grants (wishes_from place claims) ≡ choice_of w grants
  pub there : HasWays w named.next (wishes_from place claims)
  pub ways : AreWays w named.next (wishes_from place claims)
  pub before : List Due
  pub more : AreDuesMore w [] now before
  pub whole : before ++ dues_from w place claims left ≡ dues w grants
  pub on_node : find (is_off devices) (all_results left) ≡ None

pub granted_none : (w : SearchInput) (devices : List Offered) (grants : List Grant) (named : Named) (now : List DueFields) → named.choice.items ≡ [] → named.next ≡ 0 → now ≡ [] → find (is_off devices) (all_results grants) ≡ None
    → GrantedSoFar w devices grants named now 0 w.claims grants
unfolding all_asked choice_of dues
granted_none w devices grants named now choice next none on = record {
  shape = refl;
  choice = ap (λ (l : List ℕ). l ++ ways_named grants (wishes w)) choice;
  there = omega (arith, next);
  ways = ap (λ (n : ℕ). take (length (ways_from (wishes w))) (drop n (all_asked w))) next ∙ take-length (ways_from (wishes w));
  before = [];
  more = rw (none) (dues_none w []);
  whole = refl;
  on_node = on;
}

none_of_all : (devices : List Offered) (g : Grant) (gs : List Grant) → find (is_off devices) (all_results (g ∷ gs)) ≡ None → option_or (find (is_off devices) g.results) (find (is_off devices) (all_results gs)) ≡ None
none_of_all devices g gs h = sym (find-append (is_off devices) g.results (all_results gs)) ∙ h

or_first : {X : Type 0} (o p : Option X) → option_or o p ≡ None → o ≡ None
or_first None p e = refl
or_first (Some x) p e = absurd (cc)

or_later : {X : Type 0} (o p : Option X) → option_or o p ≡ None → p ≡ None
or_later None p e = e
or_later (Some x) p e = absurd (cc)

pub first_on_node : (devices : List Offered) (g : Grant) (gs : List Grant) → find (is_off devices) (all_results (g ∷ gs)) ≡ None → find (is_off devices) g.results ≡ None
first_on_node devices g gs h = or_first (find (is_off devices) g.results) (find (is_off devices) (all_results gs)) (none_of_all devices g gs h)

later_on_node : (devices : List Offered) (g : Grant) (gs : List Grant) → find (is_off devices) (all_results (g ∷ gs)) ≡ None → find (is_off devices) (all_results gs) ≡ None
later_on_node devices g gs h = or_later (find (is_off devices) g.results) (find (is_off devices) (all_results gs)) (none_of_all devices g gs h)

-- what the names pick of the requests of the claim at an index
named_here : (grants : List Grant) (place : ℕ) (g : Grant) (key : Key) (rs : List DeviceRequest) → slice_get grants place ≡ Some g
    → map (λ q. named_way g.results q q.request.kind) (wishes_in place key rs) ≡ ways_named grants (wishes_in place key rs)
named_here grants place g key [] e = refl
named_here grants place g key (r ∷ rs) e =
    ap (λ (o : Option Grant). named_way (results_by o) (record { claim = place; key = key; request = r }) r.kind ∷ map (λ q. named_way g.results q q.request.kind) (wishes_in place key rs)) (sym e)
    ∙ ap (λ (l : List ℕ). named_way (results_at grants place) (record { claim = place; key = key; request = r }) r.kind ∷ l) (named_here grants place g key rs e)

-- no grant is left
pub granted_missing : (w : SearchInput) (devices : List Offered) (grants : List Grant) (named : Named) (now : List DueFields) (place : ℕ) (c : ResourceClaim) (claims : List ResourceClaim) → GrantedSoFar w devices grants named now place (c ∷ claims) []
    → Some (Shape c.key) ≡ misshapen w grants
granted_missing w devices grants named now place c claims s = s.shape

-- the grant isn't of the shape
pub granted_stop : (w : SearchInput) (devices : List Offered) (grants : List Grant) (named : Named) (now : List DueFields) (place : ℕ) (c : ResourceClaim) (claims : List ResourceClaim) (g : Grant) (left : List Grant)
    → false ≡ (key_eq g.claim c.key && is_shaped w place c g.results) → GrantedSoFar w devices grants named now place (c ∷ claims) (g ∷ left) → Some (Shape c.key) ≡ misshapen w grants
granted_stop w devices grants named now place c claims g left e s = ap (λ (t : Bool). cond t (shape_from w (place + 1) claims left) (Some (Shape c.key))) e ∙ s.shape

-- one claim more has its grant
pub granted_next : (w : SearchInput) (devices : List Offered) (grants : List Grant) (named new : Named) (now next : List DueFields) (place : ℕ) (c : ResourceClaim) (claims : List ResourceClaim) (g : Grant) (left : List Grant)
    → slice_get grants place ≡ Some g → true ≡ (key_eq g.claim c.key && is_shaped w place c g.results) → IsPickedAll w (wishes_in place c.key c.requests) g.results named new
    → AreDuesMore w now next (dues_for w c.key (asked_rows w new.rows.items) g.results)
    → GrantedSoFar w devices grants named now place (c ∷ claims) (g ∷ left) → GrantedSoFar w devices grants new next (place + 1) claims left
granted_next w devices grants named new now next place c claims g left at e p m s = record {
  shape = ap (λ (t : Bool). cond t (shape_from w (place + 1) claims left) (Some (Shape c.key))) e ∙ s.shape;
  choice =
      ap (λ (l : List ℕ). l ++ ways_named grants (wishes_from (place + 1) claims)) (p.choice_is ∙ ap (λ (l : List ℕ). named.choice.items ++ l) (p.picked.choice_is ∙ named_here grants place g c.key c.requests at))
      ∙ append_assoc named.choice.items (ways_named grants (wishes_in place c.key c.requests)) (ways_named grants (wishes_from (place + 1) claims))
      ∙ ap (λ (l : List ℕ). named.choice.items ++ l) (sym (map-append (λ q. named_way (results_at grants q.claim) q q.request.kind) (wishes_in place c.key c.requests) (wishes_from (place + 1) claims)))
      ∙ s.choice;
  there = later_there w named.next new.next (wishes_in place c.key c.requests) (wishes_from (place + 1) claims) p.next s.there;
  ways = later_ways w named.next new.next (wishes_in place c.key c.requests) (wishes_from (place + 1) claims) p.next s.ways;
  before = s.before ++ dues_for w c.key (asked_rows w new.rows.items) g.results;
  more = dues_joined w [] now next s.before (dues_for w c.key (asked_rows w new.rows.items) g.results) s.more m;
  whole =
      append_assoc s.before (dues_for w c.key (asked_rows w new.rows.items) g.results) (dues_from w (place + 1) claims left)
      ∙ ap (λ (l : List Asked). s.before ++ (dues_for w c.key l g.results ++ dues_from w (place + 1) claims left)) p.picked.rows_are
      ∙ s.whole;
  on_node = later_on_node devices g left s.on_node;
}

-- a grant is left over
pub granted_more : (w : SearchInput) (devices : List Offered) (grants : List Grant) (named : Named) (now : List DueFields) (place : ℕ) (g : Grant) (left : List Grant) → GrantedSoFar w devices grants named now place [] (g ∷ left)
    → Some (Shape g.claim) ≡ misshapen w grants
granted_more w devices grants named now place g left s = s.shape

-- none is
pub granted_all : (w : SearchInput) (devices : List Offered) (grants : List Grant) (named : Named) (now : List DueFields) (place : ℕ) → GrantedSoFar w devices grants named now place [] [] → None ≡ misshapen w grants
granted_all w devices grants named now place s = s.shape

pub granted_choice : (w : SearchInput) (devices : List Offered) (grants : List Grant) (named : Named) (now : List DueFields) (place : ℕ) → GrantedSoFar w devices grants named now place [] [] → named.choice.items ≡ choice_of w grants
granted_choice w devices grants named now place s = sym (append-nil named.choice.items) ∙ s.choice

pub granted_dues : (w : SearchInput) (devices : List Offered) (grants : List Grant) (named : Named) (now : List DueFields) (place : ℕ) → GrantedSoFar w devices grants named now place [] [] → AreDuesMore w [] now (dues w grants)
granted_dues w devices grants named now place s = rw (← s.whole, append-nil s.before) s.more

-- ---- by the indexes of claims

abbrev pub GrantedUntil : SearchInput → List Offered → List Grant → List ResourceClaim → Named → List DueFields → ℕ → Type 0
GrantedUntil w devices grants claims named now place = GrantedSoFar w devices grants named now place (drop place claims) (drop place grants)

claim_opened : (w : SearchInput) (devices : List Offered) (grants : List Grant) (claims : List ResourceClaim) (named : Named) (now : List DueFields) (place : ℕ) (c : ResourceClaim) → place < length claims → c ≡ get_or claims place c
    → GrantedUntil w devices grants claims named now place → GrantedSoFar w devices grants named now place (c ∷ drop (place + 1) claims) (drop place grants)
claim_opened w devices grants claims named now place c h is s = subst (λ (l : List ResourceClaim). GrantedSoFar w devices grants named now place l (drop place grants)) (drop_next claims place c h is) s

both_opened : (w : SearchInput) (devices : List Offered) (grants : List Grant) (claims : List ResourceClaim) (named : Named) (now : List DueFields) (place : ℕ) (c : ResourceClaim) (g : Grant) → place < length claims → c ≡ get_or claims place c → slice_get grants place ≡ Some g
    → GrantedUntil w devices grants claims named now place → GrantedSoFar w devices grants named now place (c ∷ drop (place + 1) claims) (g ∷ drop (place + 1) grants)
both_opened w devices grants claims named now place c g h is at s =
    subst (GrantedSoFar w devices grants named now place (c ∷ drop (place + 1) claims)) (drop_got grants place g at) (claim_opened w devices grants claims named now place c h is s)

pub until_there : (w : SearchInput) (devices : List Offered) (grants : List Grant) (claims : List ResourceClaim) (named : Named) (now : List DueFields) (place : ℕ) (c : ResourceClaim) → place < length claims → c ≡ get_or claims place c
    → GrantedUntil w devices grants claims named now place → HasWays w named.next (wishes_in place c.key c.requests)
until_there w devices grants claims named now place c h is s =
    prefix_there w named.next (wishes_in place c.key c.requests) (wishes_from (place + 1) (drop (place + 1) claims)) (claim_opened w devices grants claims named now place c h is s).there

pub until_ways : (w : SearchInput) (devices : List Offered) (grants : List Grant) (claims : List ResourceClaim) (named : Named) (now : List DueFields) (place : ℕ) (c : ResourceClaim) → place < length claims → c ≡ get_or claims place c
    → GrantedUntil w devices grants claims named now place → AreWays w named.next (wishes_in place c.key c.requests)
until_ways w devices grants claims named now place c h is s =
    prefix_ways w named.next (wishes_in place c.key c.requests) (wishes_from (place + 1) (drop (place + 1) claims)) (claim_opened w devices grants claims named now place c h is s).ways

pub until_on_node : (w : SearchInput) (devices : List Offered) (grants : List Grant) (claims : List ResourceClaim) (named : Named) (now : List DueFields) (place : ℕ) (g : Grant) → slice_get grants place ≡ Some g
    → GrantedUntil w devices grants claims named now place → find (is_off devices) g.results ≡ None
until_on_node w devices grants claims named now place g at s =
    first_on_node devices g (drop (place + 1) grants) (subst (λ (l : List Grant). find (is_off devices) (all_results l) ≡ None) (drop_got grants place g at) s.on_node)

pub until_missing : (w : SearchInput) (devices : List Offered) (grants : List Grant) (claims : List ResourceClaim) (named : Named) (now : List DueFields) (place : ℕ) (c : ResourceClaim) → place < length claims → c ≡ get_or claims place c → slice_get grants place ≡ None
    → GrantedUntil w devices grants claims named now place → Some (Shape c.key) ≡ misshapen w grants
until_missing w devices grants claims named now place c h is at s =
    granted_missing w devices grants named now place c (drop (place + 1) claims)
    (subst (GrantedSoFar w devices grants named now place (c ∷ drop (place + 1) claims)) (drop_none grants place at) (claim_opened w devices grants claims named now place c h is s))

pub until_stop : (w : SearchInput) (devices : List Offered) (grants : List Grant) (claims : List ResourceClaim) (named : Named) (now : List DueFields) (place : ℕ) (c : ResourceClaim) (g : Grant) → place < length claims → c ≡ get_or claims place c → slice_get grants place ≡ Some g
    → false ≡ (key_eq g.claim c.key && is_shaped w place c g.results) → GrantedUntil w devices grants claims named now place → Some (Shape c.key) ≡ misshapen w grants
until_stop w devices grants claims named now place c g h is at other s =
    granted_stop w devices grants named now place c (drop (place + 1) claims) g (drop (place + 1) grants) other (both_opened w devices grants claims named now place c g h is at s)

pub until_granted : (w : SearchInput) (devices : List Offered) (grants : List Grant) (claims : List ResourceClaim) (named new : Named) (now next : List DueFields) (place : ℕ) (c : ResourceClaim) (g : Grant) → place < length claims → c ≡ get_or claims place c
    → slice_get grants place ≡ Some g → true ≡ (key_eq g.claim c.key && is_shaped w place c g.results) → IsPickedAll w (wishes_in place c.key c.requests) g.results named new
    → AreDuesMore w now next (dues_for w c.key (asked_rows w new.rows.items) g.results) → GrantedUntil w devices grants claims named now place → GrantedUntil w devices grants claims new next (place + 1)
until_granted w devices grants claims named new now next place c g h is at own p m s =
    granted_next w devices grants named new now next place c (drop (place + 1) claims) g (drop (place + 1) grants) at own p m (both_opened w devices grants claims named now place c g h is at s)

claims_ended : (w : SearchInput) (devices : List Offered) (grants : List Grant) (claims : List ResourceClaim) (named : Named) (now : List DueFields) (place : ℕ) → place ≡ length claims → GrantedUntil w devices grants claims named now place
    → GrantedSoFar w devices grants named now place [] (drop place grants)
claims_ended w devices grants claims named now place is s =
    subst (λ (l : List ResourceClaim). GrantedSoFar w devices grants named now place l (drop place grants)) (drop_of_length-le claims (omega (arith, is))) s

all_ended : (w : SearchInput) (devices : List Offered) (grants : List Grant) (claims : List ResourceClaim) (named : Named) (now : List DueFields) (place : ℕ) → place ≡ length claims → slice_get grants (length claims) ≡ None → GrantedUntil w devices grants claims named now place
    → GrantedSoFar w devices grants named now place [] []
all_ended w devices grants claims named now place is at s =
    subst (GrantedSoFar w devices grants named now place []) (drop_none grants place (ap (slice_get grants) is ∙ at)) (claims_ended w devices grants claims named now place is s)

pub until_more : (w : SearchInput) (devices : List Offered) (grants : List Grant) (claims : List ResourceClaim) (named : Named) (now : List DueFields) (place : ℕ) (g : Grant) → place ≡ length claims → slice_get grants (length claims) ≡ Some g
    → GrantedUntil w devices grants claims named now place → Some (Shape g.claim) ≡ misshapen w grants
until_more w devices grants claims named now place g is at s =
    granted_more w devices grants named now place g (drop (place + 1) grants)
    (subst (GrantedSoFar w devices grants named now place []) (drop_got grants place g (ap (slice_get grants) is ∙ at)) (claims_ended w devices grants claims named now place is s))

pub until_found : (w : SearchInput) (devices : List Offered) (grants : List Grant) (claims : List ResourceClaim) (named : Named) (now : List DueFields) (place : ℕ) → place ≡ length claims → slice_get grants (length claims) ≡ None
    → GrantedUntil w devices grants claims named now place → None ≡ misshapen w grants
until_found w devices grants claims named now place is at s = granted_all w devices grants named now place (all_ended w devices grants claims named now place is at s)

pub until_choice : (w : SearchInput) (devices : List Offered) (grants : List Grant) (claims : List ResourceClaim) (named : Named) (now : List DueFields) (place : ℕ) → place ≡ length claims → slice_get grants (length claims) ≡ None
    → GrantedUntil w devices grants claims named now place → named.choice.items ≡ choice_of w grants
until_choice w devices grants claims named now place is at s = granted_choice w devices grants named now place (all_ended w devices grants claims named now place is at s)

pub until_dues : (w : SearchInput) (devices : List Offered) (grants : List Grant) (claims : List ResourceClaim) (named : Named) (now : List DueFields) (place : ℕ) → place ≡ length claims → slice_get grants (length claims) ≡ None
    → GrantedUntil w devices grants claims named now place → AreDuesMore w [] now (dues w grants)
until_dues w devices grants claims named now place is at s = granted_dues w devices grants named now place (all_ended w devices grants claims named now place is at s)
