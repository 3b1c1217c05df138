-- The first counter of each result that doesn't have enough, by totals that have what all draw.
use Rattle.std.proofs.Common.{ℕ, zero, suc, ◌+◌, ◌-◌, ◌<◌, ◌≤◌, ◌≡◌, ◌∙◌, List, [], ◌∷◌, Bool, true, false, not, ◌&&◌, cond, Option, None, Some, drop, drop_of_length-le, find, get_or, length, map, refl, sym, ap, subst, arith}
use Rattle.std.specs.Prelude.{IfSome, min}
use Rattle.std.specs.List.{Contains, list_all, position_or_len, slice_get, sum_by}
use Rattle.std.specs.Option.{is_none, option_map}
use Rattle.std.proofs.lemmas.List.Folds.{find_at}
use Rattle.std.proofs.lemmas.List.Sums.{sum_by-cons}
use Rattle.std.proofs.lemmas.Option.{slice_get_within, get_or_from_slice_get}
use Rattle.pool_view.specs.Pools.{Offered}
use Rattle.pool_view.specs.Views.{position_of}
use Rattle.cluster.specs.declared.plan.DeviceResult.{DeviceResult}
use Rattle.cluster.specs.declared.failure.Failure.{Failure}
use Rattle.cluster.specs.declared.failure.Shortfall.{Shortfall}
use Rattle.request_rules.specs.Draws.{CounterId, Draw, counter_for, drawn_from, draws_of, first_short, has_enough, is_covered, is_within}
use Rattle.counter_sets.specs.Totals.{KeptCounters, drawn_in, sum_most, value_of}
use Rattle.request_rules.specs.Input.{SearchInput}
use Rattle.request_rules.specs.Lists.{first_some, or_else}
use Rattle.request_rules.specs.Rules.{Pick, amount, device_draws, draws, draws_by, total}
use Rattle.plan_rules.specs.Chosen.{pick_of, place_by, place_of}
use Rattle.alloc_rules.specs.Rows.{DueFields, HasDrawn, IsDue, due_seen}
use Rattle.plan_rules.specs.Standing.{counter_short, is_short, short_for, short_on, shortfall}
use Rattle.alloc_rules.proofs.Lists.{drop_next, here as at_index}

pub in_list : {X : Type 0} (xs : List X) (i : ℕ) (x : X) → slice_get xs i ≡ Some x → Contains xs x
in_list xs i x e = (i, slice_get_within xs i x e, get_or_from_slice_get xs i x x e)

found_in : {X : Type 0} (p : X → Bool) (xs : List X) (x : X) → find p xs ≡ Some x → Contains xs x
found_in p xs x e = in_list xs (position_or_len p xs) x (sym (find_at p xs) ∙ e)

find_same : {X : Type 0} (p q : X → Bool) (xs : List X) → ((i : ℕ) (x : X) → slice_get xs i ≡ Some x → p x ≡ q x) → find p xs ≡ find q xs
find_same p q [] h = refl
find_same {X} p q (x ∷ xs) h =
    ap (λ (t : Bool). cond t (Some x) (find p xs)) (h 0 x refl) ∙ ap (λ (o : Option X). cond (q x) (Some x) o) (find_same p q xs (λ i y e. h (suc i) y e))

sum_has : {X : Type 0} (f : X → ℕ) (xs : List X) (i : ℕ) (x : X) → slice_get xs i ≡ Some x → f x ≤ sum_by f xs
sum_has f [] i x e = absurd (cc)
sum_has f (y ∷ ys) zero x e =
    let same : y ≡ x = cc in
    let whole : sum_by f (y ∷ ys) ≡ f y + sum_by f ys = sum_by-cons f y ys in
    subst (λ z. f z ≤ sum_by f (y ∷ ys)) same (omega (arith, whole))
sum_has f (y ∷ ys) (suc i) x e =
    let whole : sum_by f (y ∷ ys) ≡ f y + sum_by f ys = sum_by-cons f y ys in
    let rest : f x ≤ sum_by f ys = sum_has f ys i x e in
    omega (arith, whole, rest)

-- ---- one result

draws_are : (w : SearchInput) (p : Pick) (o : Offered) (k : CounterId) → p.label.admin ≡ false → slice_get w.devices p.position ≡ Some o → amount k (draws w p) ≡ drawn_from k o
unfolding drawn_from
draws_are w p o k e at = ap (λ (b : Bool). amount k (cond b [] (device_draws w p))) e ∙ ap (λ (d : Option Offered). amount k (draws_by d)) at

pub drawn_of : (w : SearchInput) (ps : List Pick) (i : ℕ) (p : Pick) (o : Offered) (k : CounterId) → slice_get ps i ≡ Some p → p.label.admin ≡ false → slice_get w.devices p.position ≡ Some o → drawn_from k o ≤ total w k ps
unfolding total
drawn_of w ps i p o k e f at =
    let own : amount k (draws w p) ≡ drawn_from k o = draws_are w p o k f at in
    let most : amount k (draws w p) ≤ sum_by (λ q. amount k (draws w q)) ps = sum_has (λ q. amount k (draws w q)) ps i p e in
    omega (arith, own, most)

minus_plus : (a b c t : ℕ) → a ≡ t - b → t ≡ c → b ≤ c → a + b ≡ c
minus_plus a b c t e f h = omega (arith, e, f, h)

-- the totals of a counter without a device, with what it draws, are those with all
pub total_with : (w : SearchInput) (t u : KeptCounters) (ps : List Pick) (i : ℕ) (p : Pick) (o : Offered) → slice_get ps i ≡ Some p → p.label.admin ≡ false → slice_get w.devices p.position ≡ Some o
    → ((k : CounterId) → drawn_in u k ≡ drawn_in t k - drawn_from k o) → (k : CounterId) → drawn_in t k ≡ total w k ps → drawn_in u k + drawn_from k o ≡ total w k ps
total_with w t u ps i p o e f at less k all = minus_plus (drawn_in u k) (drawn_from k o) (total w k ps) (drawn_in t k) (less k) all (drawn_of w ps i p o k e f at)

short_same : (v w : SearchInput) (t u : KeptCounters) (ps : List Pick) (i : ℕ) (p : Pick) (o : Offered) → HasDrawn v w t ps → slice_get ps i ≡ Some p → p.label.admin ≡ false → slice_get w.devices p.position ≡ Some o
    → ((k : CounterId) → value_of u k ≡ value_of t k) → ((k : CounterId) → drawn_in u k ≡ drawn_in t k - drawn_from k o) → find (is_short w ps) (device_draws w p) ≡ first_short (value_of u) (drawn_in u) o
unfolding first_short
short_same v w t u ps i p o h e f at same less =
    ap (λ (d : Option Offered). find (is_short w ps) (draws_by d)) at
    ∙ find_same (is_short w ps) (λ d. not (has_enough (value_of u) (drawn_in u) o d.counter)) (draws_of o) (λ j d g.
    ap (λ (v : Option ℕ). not (is_within v (total w d.counter ps))) (sym (h.value d.counter) ∙ sym (same d.counter))
    ∙ ap (λ (n : ℕ). not (is_within (value_of u d.counter) n)) (sym (total_with w t u ps i p o e f at less d.counter (h.drawn d.counter))))

-- none is short
pub short_none : (v w : SearchInput) (t u : KeptCounters) (ps : List Pick) (i : ℕ) (p : Pick) (o : Offered) → HasDrawn v w t ps → slice_get ps i ≡ Some p → p.label.admin ≡ false → slice_get w.devices p.position ≡ Some o
    → ((k : CounterId) → value_of u k ≡ value_of t k) → ((k : CounterId) → drawn_in u k ≡ drawn_in t k - drawn_from k o) → first_short (value_of u) (drawn_in u) o ≡ None → None ≡ short_on w ps p
short_none v w t u ps i p o h e f at same less none = ap (λ (d : Option Draw). option_map (λ (d : Draw). shortfall w ps d.counter) d) (sym (short_same v w t u ps i p o h e f at same less ∙ none))

capped : (a b n m : ℕ) → a ≡ min b m → b ≡ n → n ≤ m → a ≡ n
capped a b n m e f h = omega (arith, e, f, h)

same_shortfall : (set counter : List ℕ) (a b : ℕ) (x y : Option ℕ) → a ≡ b → x ≡ y → ◌≡◌ {A = Shortfall} (record { set = set; counter = counter; drawn = a; value = x }) (record { set = set; counter = counter; drawn = b; value = y })
same_shortfall set counter a b x y e f = cc

some_by : (v w : SearchInput) (t u : KeptCounters) (ps : List Pick) (i : ℕ) (p : Pick) (o : Offered) (d : Draw) (set counter : List ℕ) (drawn : ℕ) (value : Option ℕ) → HasDrawn v w t ps → slice_get ps i ≡ Some p → p.label.admin ≡ false
    → slice_get w.devices p.position ≡ Some o → ((k : CounterId) → value_of u k ≡ value_of t k) → ((k : CounterId) → drawn_in u k ≡ drawn_in t k - drawn_from k o) → first_short (value_of u) (drawn_in u) o ≡ Some d → counter_for o.slice set counter ≡ d.counter
    → drawn ≡ min (drawn_in u (counter_for o.slice set counter) + drawn_from (counter_for o.slice set counter) o) sum_most → value ≡ value_of u (counter_for o.slice set counter)
    → Some (record { set = set; counter = counter; drawn = drawn; value = value }) ≡ short_on w ps p
some_by v w t u ps i p o d set counter drawn value h e f at same less first is drawn_is value_is =
    let k : CounterId = counter_for o.slice set counter in
    let found : find (is_short w ps) (device_draws w p) ≡ Some d = short_same v w t u ps i p o h e f at same less ∙ first in
    let fits : total w k ps ≤ sum_most = subst (λ (n : ℕ). n ≤ sum_most) (h.drawn k) (h.most k) in
    ap (λ (s : Shortfall). Some s)
    (same_shortfall set counter drawn (total w k ps) value (w.value k)
    (capped drawn (drawn_in u k + drawn_from k o) (total w k ps) sum_most drawn_is (total_with w t u ps i p o e f at less k (h.drawn k)) fits)
    (value_is ∙ same k ∙ h.value k))
    ∙ ap (λ (c : CounterId). Some (shortfall w ps c)) is
    ∙ sym (ap (λ (d : Option Draw). option_map (λ (d : Draw). shortfall w ps d.counter) d) found)

-- one is
pub short_some : (v w : SearchInput) (t u : KeptCounters) (ps : List Pick) (i : ℕ) (p : Pick) (o : Offered) (first : Option Draw) (set counter : List ℕ) (drawn : ℕ) (value : Option ℕ) → HasDrawn v w t ps → slice_get ps i ≡ Some p
    → p.label.admin ≡ false → slice_get w.devices p.position ≡ Some o → ((k : CounterId) → value_of u k ≡ value_of t k) → ((k : CounterId) → drawn_in u k ≡ drawn_in t k - drawn_from k o) → first_short (value_of u) (drawn_in u) o ≡ first
    → Some (counter_for o.slice set counter) ≡ option_map (λ d. d.counter) first
    → drawn ≡ min (drawn_in u (counter_for o.slice set counter) + drawn_from (counter_for o.slice set counter) o) sum_most → value ≡ value_of u (counter_for o.slice set counter)
    → Some (record { set = set; counter = counter; drawn = drawn; value = value }) ≡ short_on w ps p
short_some v w t u ps i p o None set counter drawn value h e f at same less first is drawn_is value_is = absurd (cc)
short_some v w t u ps i p o (Some d) set counter drawn value h e f at same less first is drawn_is value_is = some_by v w t u ps i p o d set counter drawn value h e f at same less first (cc) drawn_is value_is

-- what was returned is drawn again
pub drawn_again : (v w : SearchInput) (t u new : KeptCounters) (ps : List Pick) (i : ℕ) (p : Pick) (o : Offered) → HasDrawn v w t ps → slice_get ps i ≡ Some p → p.label.admin ≡ false → slice_get w.devices p.position ≡ Some o
    → ((k : CounterId) → value_of u k ≡ value_of t k) → ((k : CounterId) → drawn_in u k ≡ drawn_in t k - drawn_from k o)
    → ((k : CounterId) → value_of new k ≡ value_of u k) → ((k : CounterId) → drawn_in new k ≡ drawn_in u k + drawn_from k o) → HasDrawn v w new ps
drawn_again v w t u new ps i p o h e f at same less again more =
    record {
      devices = h.devices;
      value = λ k. again k ∙ same k ∙ h.value k;
      drawn = λ k. all k;
      most = λ k. subst (λ (n : ℕ). n ≤ sum_most) (h.drawn k ∙ sym (all k)) (h.most k);
    }
  where
    all : (k : CounterId) → drawn_in new k ≡ total w k ps
    all k = more k ∙ total_with w t u ps i p o e f at less k (h.drawn k)

none_by : (value : CounterId → Option ℕ) (before : CounterId → ℕ) (o : Offered) (d : Draw) (ds : List Draw) (b : Bool) → cond (not b) (Some d) (find (λ d. not (has_enough value before o d.counter)) ds) ≡ None
    → (find (λ d. not (has_enough value before o d.counter)) ds ≡ None → list_all (λ d. has_enough value before o d.counter) ds ≡ true) → (b && list_all (λ d. has_enough value before o d.counter) ds) ≡ true
none_by value before o d ds true e rest = rest e
none_by value before o d ds false e rest = absurd (cc)

none_short : (value : CounterId → Option ℕ) (before : CounterId → ℕ) (o : Offered) (ds : List Draw) → find (λ d. not (has_enough value before o d.counter)) ds ≡ None → list_all (λ d. has_enough value before o d.counter) ds ≡ true
none_short value before o [] e = refl
none_short value before o (d ∷ ds) e = none_by value before o d ds (has_enough value before o d.counter) e (none_short value before o ds)

-- a device of which no counter is short is covered
pub covered_by : (value : CounterId → Option ℕ) (before : CounterId → ℕ) (o : Offered) → first_short value before o ≡ None → is_covered value before o ≡ true
unfolding first_short is_covered
covered_by value before o e = none_short value before o (draws_of o) e

-- ---- what is first short, by what is found

pub place_moved : (v w : SearchInput) (r : DeviceResult) → w.devices ≡ v.devices → place_of w r ≡ place_of v r
place_moved v w r e = ap (λ (l : List Offered). place_by w (position_of r.device l)) e ∙ by (position_of r.device v.devices)
  where
    by : (o : Option ℕ) → place_by w o ≡ place_by v o
    by None = ap (λ (l : List Offered). length l) e
    by (Some x) = refl

pub device_at : (v w : SearchInput) (d : DueFields) (o : Offered) → w.devices ≡ v.devices → IsDue v d → slice_get v.devices d.position ≡ Some o → slice_get w.devices (pick_of w (due_seen v d)).position ≡ Some o
device_at v w d o e h at =
    ap (λ (l : List Offered). slice_get l (place_of w d.result)) e ∙ ap (slice_get v.devices) (place_moved v w d.result e ∙ sym h.position) ∙ at

pub none_found : {S : Type 0} (g : S → CounterId) (r : Option S) (f : Option Draw) → is_none r ≡ true → option_map g r ≡ option_map (λ d. d.counter) f → f ≡ None
none_found g None None e h = refl
none_found g None (Some d) e h = absurd (cc)
none_found g (Some s) f e h = absurd (cc)

pub none_seen : {S : Type 0} (g : S → Shortfall) (r : Option S) → is_none r ≡ true → option_map g r ≡ None
none_seen g None e = refl
none_seen g (Some s) e = absurd (cc)

pub some_seen : {S : Type 0} (set counter : S → List ℕ) (drawn : S → ℕ) (value : S → Option ℕ) (v w : SearchInput) (t u : KeptCounters) (ps : List Pick) (i : ℕ) (p : Pick) (o : Offered) (r : Option S) → HasDrawn v w t ps → slice_get ps i ≡ Some p
    → p.label.admin ≡ false → slice_get w.devices p.position ≡ Some o → ((k : CounterId) → value_of u k ≡ value_of t k) → ((k : CounterId) → drawn_in u k ≡ drawn_in t k - drawn_from k o) → is_none r ≡ false
    → option_map (λ s. counter_for o.slice (set s) (counter s)) r ≡ option_map (λ d. d.counter) (first_short (value_of u) (drawn_in u) o)
    → IfSome r (λ s. drawn s ≡ min (drawn_in u (counter_for o.slice (set s) (counter s)) + drawn_from (counter_for o.slice (set s) (counter s)) o) sum_most)
    → IfSome r (λ s. value s ≡ value_of u (counter_for o.slice (set s) (counter s)))
    → option_map (λ s. record { set = set s; counter = counter s; drawn = drawn s; value = value s }) r ≡ short_on w ps p
some_seen set counter drawn value v w t u ps i p o None h e f at same less none is drawn_is value_is = absurd (cc)
some_seen set counter drawn value v w t u ps i p o (Some s) h e f at same less none is drawn_is value_is =
    short_some v w t u ps i p o (first_short (value_of u) (drawn_in u) o) (set s) (counter s) (drawn s) (value s) h e f at same less refl is drawn_is value_is

-- ---- one result after another

-- the results so far have counters with enough
pub record ShortSoFar (v w : SearchInput) (totals : KeptCounters) (ps : List Pick) (left : List DueFields) : Type 0 where
  pub has : HasDrawn v w totals ps
  pub whole : first_some (short_for w ps) (map (pick_of w) (map (due_seen v) left)) ≡ counter_short w ps

short_parts : (v w : SearchInput) (ps : List Pick) (d : DueFields) (left : List DueFields) (o : Option Failure) → o ≡ short_for w ps (pick_of w (due_seen v d))
    → first_some (short_for w ps) (map (pick_of w) (map (due_seen v) (d ∷ left))) ≡ or_else o (first_some (short_for w ps) (map (pick_of w) (map (due_seen v) left)))
short_parts v w ps d left o e = ap (λ (o : Option Failure). or_else o (first_some (short_for w ps) (map (pick_of w) (map (due_seen v) left)))) (sym e)

pub short_stop : (v w : SearchInput) (t : KeptCounters) (ps : List Pick) (ds : List DueFields) (i : ℕ) (d : DueFields) (f : Failure) → i < length ds → d ≡ get_or ds i d → Some f ≡ short_for w ps (pick_of w (due_seen v d))
    → ShortSoFar v w t ps (drop i ds) → Some f ≡ counter_short w ps
short_stop v w t ps ds i d f h is e s =
    sym (ap (λ (l : List DueFields). first_some (short_for w ps) (map (pick_of w) (map (due_seen v) l))) (drop_next ds i d h is) ∙ short_parts v w ps d (drop (i + 1) ds) (Some f) e) ∙ s.whole

pub short_next : (v w : SearchInput) (t new : KeptCounters) (ps : List Pick) (ds : List DueFields) (i : ℕ) (d : DueFields) → i < length ds → d ≡ get_or ds i d → None ≡ short_for w ps (pick_of w (due_seen v d))
    → HasDrawn v w new ps → ShortSoFar v w t ps (drop i ds) → ShortSoFar v w new ps (drop (i + 1) ds)
short_next v w t new ps ds i d h is e has s = record {
  has = has;
  whole =
      sym (ap (λ (l : List DueFields). first_some (short_for w ps) (map (pick_of w) (map (due_seen v) l))) (drop_next ds i d h is) ∙ short_parts v w ps d (drop (i + 1) ds) None e) ∙ s.whole;
}

-- the pick of a result
pub pick_at : (v w : SearchInput) (ds : List DueFields) (i : ℕ) (d : DueFields) → slice_get ds i ≡ Some d → slice_get (map (pick_of w) (map (due_seen v) ds)) i ≡ Some (pick_of w (due_seen v d))
pick_at v w [] i d e = absurd (cc)
pick_at v w (x ∷ ds) zero d e = let same : x ≡ d = cc in ap (λ z. Some (pick_of w (due_seen v z))) same
pick_at v w (x ∷ ds) (suc i) d e = pick_at v w ds i d e

-- the results before an index have counters with enough
pub record ShortUntil (v : SearchInput) (old now : KeptCounters) (ds : List DueFields) (i : ℕ) : Type 0 where
  pub each : (w : SearchInput) → HasDrawn v w old (map (pick_of w) (map (due_seen v) ds)) → ShortSoFar v w now (map (pick_of w) (map (due_seen v) ds)) (drop i ds)

pub until_none : (v : SearchInput) (old : KeptCounters) (ds : List DueFields) → ShortUntil v old old ds 0
until_none v old ds = record { each = λ w h. record { has = h; whole = refl } }

pub until_short : (v : SearchInput) (old now : KeptCounters) (ds : List DueFields) (i : ℕ) (d : DueFields) (f : Failure) → i < length ds → d ≡ get_or ds i d
    → ((w : SearchInput) (ps : List Pick) (j : ℕ) → HasDrawn v w now ps → slice_get ps j ≡ Some (pick_of w (due_seen v d)) → Some f ≡ short_for w ps (pick_of w (due_seen v d)))
    → ShortUntil v old now ds i → (w : SearchInput) → HasDrawn v w old (map (pick_of w) (map (due_seen v) ds)) → Some f ≡ counter_short w (map (pick_of w) (map (due_seen v) ds))
until_short v old now ds i d f h is found s w has =
    let here : ShortSoFar v w now (map (pick_of w) (map (due_seen v) ds)) (drop i ds) = s.each w has in
    short_stop v w now (map (pick_of w) (map (due_seen v) ds)) ds i d f h is (found w (map (pick_of w) (map (due_seen v) ds)) i here.has (pick_at v w ds i d (at_index ds i d h is))) here

pub until_enough : (v : SearchInput) (old now new : KeptCounters) (ds : List DueFields) (i : ℕ) (d : DueFields) → i < length ds → d ≡ get_or ds i d
    → ((w : SearchInput) (ps : List Pick) (j : ℕ) → HasDrawn v w now ps → slice_get ps j ≡ Some (pick_of w (due_seen v d)) → None ≡ short_for w ps (pick_of w (due_seen v d)))
    → ((w : SearchInput) (ps : List Pick) (j : ℕ) → HasDrawn v w now ps → slice_get ps j ≡ Some (pick_of w (due_seen v d)) → HasDrawn v w new ps)
    → ShortUntil v old now ds i → ShortUntil v old new ds (i + 1)
until_enough v old now new ds i d h is found again s = record {
  each = λ w has.
      let here : ShortSoFar v w now (map (pick_of w) (map (due_seen v) ds)) (drop i ds) = s.each w has in
      let at : slice_get (map (pick_of w) (map (due_seen v) ds)) i ≡ Some (pick_of w (due_seen v d)) = pick_at v w ds i d (at_index ds i d h is) in
      short_next v w now new (map (pick_of w) (map (due_seen v) ds)) ds i d h is (found w (map (pick_of w) (map (due_seen v) ds)) i here.has at) (again w (map (pick_of w) (map (due_seen v) ds)) i here.has at) here;
}

pub until_done : (v : SearchInput) (old now : KeptCounters) (ds : List DueFields) (i : ℕ) → length ds ≤ i → ShortUntil v old now ds i → (w : SearchInput) → HasDrawn v w old (map (pick_of w) (map (due_seen v) ds))
    → None ≡ counter_short w (map (pick_of w) (map (due_seen v) ds))
until_done v old now ds i h s w has =
    sym (ap (λ (l : List DueFields). first_some (short_for w (map (pick_of w) (map (due_seen v) ds))) (map (pick_of w) (map (due_seen v) l))) (drop_of_length-le ds h)) ∙ (s.each w has).whole
