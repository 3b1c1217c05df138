-- Totals of what claims hold and of results have what each counter's check needs.
use Rattle.std.proofs.Common.{ℕ, zero, suc, ◌+◌, ◌<◌, ◌≡◌, ◌∙◌, List, [], ◌∷◌, ◌++◌, Bool, true, false, not, ◌&&◌, ◌||◌, cond, Option, None, Some, find, length, map, refl, sym, ap, subst, arith, append_assoc, append-nil}
use Rattle.std.specs.List.{Contains, flat_map, list_any, slice_get, sum_by}
use Rattle.std.specs.Option.{option_map}
use Rattle.std.proofs.lemmas.List.Elements.{Contains-append_left, Contains-append_right}
use Rattle.std.proofs.lemmas.List.Sums.{sum_by-cons}
use Rattle.std.proofs.lemmas.Option.{slice_get_read}
use Rattle.object_fields.specs.declared.key.DeviceId.{DeviceId}
use Rattle.object_fields.specs.declared.key.Key.{Key}
use Rattle.api_slice.specs.declared.types.CounterConsumption.{CounterConsumption}
use Rattle.pool_view.specs.Differing.{offers, usable_devices}
use Rattle.pool_view.specs.Names.{device_eq}
use Rattle.pool_view.specs.Pools.{Offered, id_in, offered_by}
use Rattle.pool_view.specs.Usable.{node_devices, usable_slices}
use Rattle.pool_view.specs.Views.{position_from, position_of}
use Rattle.pool_view.specs.declared.inventory.Inventory.{Inventory}
use Rattle.cluster.specs.declared.plan.DeviceResult.{DeviceResult}
use Rattle.cluster.specs.declared.state.State.{State}
use Rattle.cluster.specs.Held as cluster
use Rattle.request_rules.specs.Draws.{CounterId, Draw, draws_from, draws_of, drawn, drawn_from}
use Rattle.counter_sets.specs.Totals.{KeptCounters}
use Rattle.cluster.specs.declared.failure.Failure.{Failure}
use Rattle.cluster.specs.declared.failure.Failure.TheVariants as failure
use Rattle.request_rules.specs.Input.{SearchInput}
use Rattle.request_rules.specs.Lists.{Each, first_some, or_else}
use Rattle.request_rules.specs.Rules.{Pick, amount, device_draws, draws, draws_by, total}
use Rattle.request_rows.specs.Wanted as rows
use Rattle.request_rows.specs.Wanted.{RowsFields}
use Rattle.allocations.specs.Input.{input_of}
use Rattle.node_inputs.specs.Apart.{AreListed}
use Rattle.pool_totals.specs.Drawn.{AreDrawnByBoth}
use Rattle.plan_rules.specs.Chosen.{Due, pick_of, place_by}
use Rattle.alloc_rules.specs.Rows as code
use Rattle.alloc_rules.specs.Rows.{AreRowsOf, DueFields, HasDrawn, IsDue, due_seen, pairs_of}
use Rattle.plan_rules.specs.Shaped.{is_nil}
use Rattle.plan_rules.specs.Standing.{counter_short, held, held_behind, held_by, held_from, holder_of, is_short, short_for, short_on, shortfall, taker_of}
use Rattle.alloc_rules.proofs.Alike.{picks_same}
use Rattle.alloc_rules.proofs.Counting.{device_at, in_list}
use Rattle.alloc_rules.proofs.Lists.{map_get}
use Rattle.alloc_rules.proofs.SoFar.{first_none, later_none}
use Rattle.alloc_rules.proofs.Summing.{DrawsOn, IsAlone, drawn_none, due_more}

at_place : {X : Type 0} (xs : List X) (x : X) (h : Contains xs x) → slice_get xs h.0 ≡ Some x
at_place xs x h = slice_get_read xs (length xs) h.0 x refl h.1 (sym h.2)

-- ---- all results together

-- the device of a result, and what it draws from a counter
pub record Drawing (i : Inventory) (w : SearchInput) (c : CounterId) (d : Due) : Type 0 where
  pub device : Offered
  pub on : DrawsOn i d device
  pub amount_is : amount c (draws w (pick_of w d)) ≡ cond d.result.admin 0 (drawn_from c device)

pub due_sum : (i : Inventory) (w : SearchInput) (pairs : List (DeviceId × Key)) (c : CounterId) (before ds : List Due) → ((j : ℕ) (d : Due) → slice_get ds j ≡ Some d → Drawing i w c d) → held_from pairs before ds ≡ None
    → drawn (usable_slices i) (pairs ++ pairs_of (before ++ ds)) c ≡ drawn (usable_slices i) (pairs ++ pairs_of before) c + sum_by (λ p. amount c (draws w p)) (map (pick_of w) ds)
due_sum i w pairs c before [] h none =
    let e : drawn (usable_slices i) (pairs ++ pairs_of (before ++ [])) c ≡ drawn (usable_slices i) (pairs ++ pairs_of before) c = ap (λ (l : List Due). drawn (usable_slices i) (pairs ++ pairs_of l) c) (append-nil before) in
    omega (arith, e)
due_sum i w pairs c before (d ∷ ds) h none =
    let here : Drawing i w c d = h 0 d refl in
    let one : drawn (usable_slices i) (pairs ++ pairs_of (before ++ d ∷ [])) c ≡ drawn (usable_slices i) (pairs ++ pairs_of before) c + cond d.result.admin 0 (drawn_from c here.device) =
    due_more i pairs before c d here.device here.on (first_none (held_behind pairs before d) (held_from pairs (before ++ d ∷ []) ds) none) in
    let rest : drawn (usable_slices i) (pairs ++ pairs_of ((before ++ d ∷ []) ++ ds)) c ≡ drawn (usable_slices i) (pairs ++ pairs_of (before ++ d ∷ [])) c + sum_by (λ p. amount c (draws w p)) (map (pick_of w) ds) =
    due_sum i w pairs c (before ++ d ∷ []) ds (λ j e g. h (suc j) e g) (later_none (held_behind pairs before d) (held_from pairs (before ++ d ∷ []) ds) none) in
    let joined : drawn (usable_slices i) (pairs ++ pairs_of ((before ++ d ∷ []) ++ ds)) c ≡ drawn (usable_slices i) (pairs ++ pairs_of (before ++ d ∷ ds)) c =
    ap (λ (l : List Due). drawn (usable_slices i) (pairs ++ pairs_of l) c) (append_assoc before (d ∷ []) ds) in
    let whole : sum_by (λ p. amount c (draws w p)) (pick_of w d ∷ map (pick_of w) ds) ≡ amount c (draws w (pick_of w d)) + sum_by (λ p. amount c (draws w p)) (map (pick_of w) ds) = sum_by-cons (λ p. amount c (draws w p)) (pick_of w d) (map (pick_of w) ds) in
    let own : amount c (draws w (pick_of w d)) ≡ cond d.result.admin 0 (drawn_from c here.device) = here.amount_is in
    omega (arith, one, rest, joined, whole, own)

-- ---- the device of one result

-- the device at the position of an id
pub record PlacedAt (n : ℕ) (id : DeviceId) (os : List Offered) (x : ℕ) : Type 0 where
  pub place : ℕ
  pub device : Offered
  pub sum : x ≡ n + place
  pub at : slice_get os place ≡ Some device
  pub is : device_eq (id_in device) id ≡ true

placed_if : (n : ℕ) (id : DeviceId) (o : Offered) (os : List Offered) (x : ℕ) (b : Bool) → device_eq (id_in o) id ≡ b → cond b (Some n) (position_from (n + 1) id os) ≡ Some x → (position_from (n + 1) id os ≡ Some x → PlacedAt (n + 1) id os x)
    → PlacedAt n id (o ∷ os) x
placed_if n id o os x true is h rest = let same : n ≡ x = cc in record { place = 0; device = o; sum = omega (arith, same); at = refl; is = is }
placed_if n id o os x false is h rest =
    let later : PlacedAt (n + 1) id os x = rest h in
    record { place = suc later.place; device = later.device; sum = omega (arith, later.sum); at = later.at; is = later.is }

placed_at : (n : ℕ) (id : DeviceId) (os : List Offered) (x : ℕ) → position_from n id os ≡ Some x → PlacedAt n id os x
placed_at n id [] x e = absurd (cc)
placed_at n id (o ∷ os) x e = placed_if n id o os x (device_eq (id_in o) id) refl e (placed_at (n + 1) id os x)

placed_by : (w : SearchInput) (r : DeviceResult) (x : ℕ) (o : Option ℕ) → position_of r.device w.devices ≡ o → x ≡ place_by w o → x < length w.devices → position_of r.device w.devices ≡ Some x
placed_by w r x None e f h = absurd (omega (arith, f, h))
placed_by w r x (Some y) e f h = e ∙ ap (λ (n : ℕ). Some n) (sym f)

pub due_at : (w : SearchInput) (d : DueFields) → IsDue w d → PlacedAt 0 d.result.device w.devices d.position
due_at w d h = placed_at 0 d.result.device w.devices d.position (placed_by w d.result d.position (position_of d.result.device w.devices) refl h.position h.on_node)

in_map : {X Y : Type 0} (f : X → Y) (xs : List X) (x : X) → Contains xs x → Contains (map f xs) (f x)
in_map f xs x h = in_list (map f xs) h.0 (f x) (map_get f xs h.0 ∙ ap (λ o. option_map f o) (at_place xs x h))

in_flat : {X Y : Type 0} (f : X → List Y) (xs : List X) (i : ℕ) (x : X) (y : Y) → slice_get xs i ≡ Some x → Contains (f x) y → Contains (flat_map f xs) y
in_flat f [] i x y e h = absurd (cc)
in_flat f (z ∷ xs) zero x y e h = let same : z ≡ x = cc in Contains-append_left (f z) (flat_map f xs) y (subst (λ q. Contains (f q) y) (sym same) h)
in_flat f (z ∷ xs) (suc i) x y e h = Contains-append_right (f z) (flat_map f xs) y (in_flat f xs i x y e h)

pub offered_in : (i : Inventory) (o : Offered) → Contains (usable_slices i) o.slice → Contains o.slice.devices o.device → Contains (usable_devices i) o
unfolding usable_devices
offered_in i o h k = in_flat offers (usable_slices i) h.0 o.slice o (at_place (usable_slices i) o.slice h) (in_map (offered_by o.slice) o.slice.devices o.device k)

-- no two of the devices have one id
abbrev pub IdsDiffer : Inventory → Type 0
IdsDiffer i = (n m : ℕ) (o p : Offered) → slice_get (usable_devices i) n ≡ Some o → slice_get (usable_devices i) m ≡ Some p → id_in o ≡ id_in p → n ≡ m

pub alone_in : (i : Inventory) (o : Offered) → IdsDiffer i → Contains (usable_devices i) o → IsAlone i o
alone_in i o ids h = record { place = h.0; at = at_place (usable_devices i) o h; alone = λ n p e same. ids h.0 n o p (at_place (usable_devices i) o h) e same }

amount_by : (w : SearchInput) (p : Pick) (o : Offered) (c : CounterId) (admin b : Bool) → p.label.admin ≡ b → admin ≡ b → slice_get w.devices p.position ≡ Some o → amount c (draws w p) ≡ cond admin 0 (drawn_from c o)
unfolding drawn_from
amount_by w p o c admin true e f at = ap (λ (t : Bool). amount c (cond t [] (device_draws w p))) e ∙ sym (ap (λ (t : Bool). cond t 0 (drawn_from c o)) f)
amount_by w p o c admin false e f at =
    ap (λ (t : Bool). amount c (cond t [] (device_draws w p))) e ∙ ap (λ (d : Option Offered). amount c (draws_by d)) at ∙ sym (ap (λ (t : Bool). cond t 0 (drawn_from c o)) f)

drawing : (i : Inventory) (v w : SearchInput) (c : CounterId) (d : DueFields) → w.devices ≡ v.devices → AreListed v.devices (usable_slices i) → IdsDiffer i → IsDue v d → Drawing i w c (due_seen v d)
drawing i v w c d same listed ids h =
    let at : PlacedAt 0 d.result.device v.devices d.position = due_at v d h in
    record {
      device = at.device;
      on = record {
        alone = alone_in i at.device ids (offered_in i at.device (listed.in_slices at.place at.device at.at) (listed.in_slice at.place at.device at.at));
        is = at.is;
      };
      amount_is =
          amount_by w (pick_of w (due_seen v d)) at.device c d.result.admin (pick_of w (due_seen v d)).label.admin refl h.admin
          (device_at v w d at.device same h (ap (slice_get v.devices) (omega (arith, at.sum)) ∙ at.at));
    }

-- ---- all of it

pub drawing_at : (i : Inventory) (v w : SearchInput) (c : CounterId) (ds : List DueFields) → w.devices ≡ v.devices → AreListed v.devices (usable_slices i) → IdsDiffer i → Each (IsDue v) ds → (j : ℕ) (d : Due) → slice_get (map (due_seen v) ds) j ≡ Some d → Drawing i w c d
drawing_at i v w c [] same listed ids each j d e = absurd (cc)
drawing_at i v w c (x ∷ ds) same listed ids each zero d e = let is : due_seen v x ≡ d = cc in subst (Drawing i w c) is (drawing i v w c x same listed ids (each 0 x refl))
drawing_at i v w c (x ∷ ds) same listed ids each (suc j) d e = drawing_at i v w c ds same listed ids (λ k y f. each (suc k) y f) j d e

-- ---- results that nobody has are none that another of them has

alone_by : (d : Due) (b : Bool) (p t : Option Key) → cond b None (held_by d (or_else p t)) ≡ None → cond b None (held_by d (or_else None t)) ≡ None
alone_by d true p t e = refl
alone_by d false None t e = e
alone_by d false (Some k) t e = absurd (cc)

held_alone : (pairs : List (DeviceId × Key)) (before ds : List Due) → held_from pairs before ds ≡ None → held_from [] before ds ≡ None
held_alone pairs before [] e = refl
held_alone pairs before (d ∷ ds) e =
    ap (λ (o : Option Failure). or_else o (held_from [] (before ++ d ∷ []) ds))
    (alone_by d d.result.admin (holder_of pairs d.result.device) (taker_of before d.result.device) (first_none (held_behind pairs before d) (held_from pairs (before ++ d ∷ []) ds) e))
    ∙ held_alone pairs (before ++ d ∷ []) ds (later_none (held_behind pairs before d) (held_from pairs (before ++ d ∷ []) ds) e)

-- of the results alone
pub free_alone : (pairs : List (DeviceId × Key)) (ds : List Due) → held pairs ds ≡ None → held [] ds ≡ None
free_alone pairs ds e = held_alone pairs [] ds e

pub results_sum : (i : Inventory) (v w : SearchInput) (c : CounterId) (ds : List DueFields) (pairs : List (DeviceId × Key)) → w.devices ≡ v.devices → AreListed v.devices (usable_slices i) → IdsDiffer i → Each (IsDue v) ds → held pairs (map (due_seen v) ds) ≡ None
    → drawn (usable_slices i) (pairs_of (map (due_seen v) ds)) c ≡ sum_by (λ p. amount c (draws w p)) (map (pick_of w) (map (due_seen v) ds))
results_sum i v w c ds pairs same listed ids each free =
    let whole : drawn (usable_slices i) (pairs_of (map (due_seen v) ds)) c ≡ drawn (usable_slices i) [] c + sum_by (λ p. amount c (draws w p)) (map (pick_of w) (map (due_seen v) ds)) =
    due_sum i w [] c [] (map (due_seen v) ds) (drawing_at i v w c ds same listed ids each) (held_alone pairs [] (map (due_seen v) ds) free) in
    let none : drawn (usable_slices i) [] c ≡ 0 = drawn_none i c in
    omega (arith, whole, none)

pub has_drawn : (s : State) (node : List ℕ) (r : RowsFields) (totals : KeptCounters) (ds : List DueFields) → AreRowsOf s node r → Each (IsDue (rows.input_of r)) ds
    → held (cluster.held s) (map (due_seen (rows.input_of r)) ds) ≡ None
    → AreDrawnByBoth s.inventory (cluster.held s) (pairs_of (map (due_seen (rows.input_of r)) ds)) totals
    → AreListed (node_devices s.inventory node) (usable_slices s.inventory) → IdsDiffer s.inventory
    → HasDrawn (rows.input_of r) (input_of s r.wants.claims node) totals (map (pick_of (input_of s r.wants.claims node)) (map (due_seen (rows.input_of r)) ds))
unfolding input_of total
has_drawn s node r totals ds are each free t listed ids =
    let w : SearchInput = input_of s r.wants.claims node in
    let v : SearchInput = rows.input_of r in
    let same : w.devices ≡ v.devices = sym are.devices in
    record {
      devices = same;
      value = λ c. t.value_is c;
      drawn = λ c.
          t.drawn_is c
          ∙ ap (λ (n : ℕ). drawn (usable_slices s.inventory) (cluster.held s) c + n)
          (results_sum s.inventory v w c ds (cluster.held s) same (subst (λ l. AreListed l (usable_slices s.inventory)) (sym are.devices) listed) ids each free);
      most = λ c. t.most c;
    }

-- ---- as the code has them

pub drawn_are : (s : State) (j : Inventory) (node : List ℕ) (r : RowsFields) (totals : KeptCounters) (ds : List DueFields) → j ≡ s.inventory → AreRowsOf s node r → Each (IsDue (rows.input_of r)) ds
    → held (cluster.held s) (map (due_seen (rows.input_of r)) ds) ≡ None
    → AreDrawnByBoth s.inventory (cluster.held s) (pairs_of (map (due_seen (rows.input_of r)) ds)) totals
    → AreListed (node_devices j node) (usable_slices j) → IdsDiffer s.inventory
    → HasDrawn (rows.input_of r) (input_of s r.wants.claims node) totals (map (pick_of (input_of s r.wants.claims node)) (map (due_seen (rows.input_of r)) ds))
drawn_are s j node r totals ds f are each free t listed ids =
    has_drawn s node r totals ds are each free t (subst (λ (k : Inventory). AreListed (node_devices k node) (usable_slices k)) f listed) ids

-- ---- none draws on a counter

draws_none : (o : Offered) → is_nil o.device.consumes ≡ true → draws_of o ≡ []
unfolding draws_of
draws_none o e = by o.device.consumes e
  where
    by : (ks : List CounterConsumption) → is_nil ks ≡ true → flat_map (draws_from o.slice) ks ≡ []
    by [] e = refl
    by (k ∷ ks) e = absurd (cc)

not_true : (b : Bool) → not b ≡ false → b ≡ true
not_true true e = refl
not_true false e = absurd (cc)

idle_by : (w : SearchInput) (ps : List Pick) (p : Pick) (o : Offered) (a b : Bool) → a ≡ b → p.label.admin ≡ b → slice_get w.devices p.position ≡ Some o → (not a && not (is_nil o.device.consumes)) ≡ false → None ≡ short_for w ps p
idle_by w ps p o a true e f at h = sym (ap (λ (t : Bool). cond t None (option_map failure.Counter (short_on w ps p))) f)
idle_by w ps p o a false e f at h =
    let none : is_nil o.device.consumes ≡ true = not_true (is_nil o.device.consumes) (sym (ap (λ (t : Bool). not t && not (is_nil o.device.consumes)) e) ∙ h) in
    sym (ap (λ (t : Bool). cond t None (option_map failure.Counter (short_on w ps p))) f
    ∙ ap (λ (l : List Draw). option_map failure.Counter (option_map (λ (d : Draw). shortfall w ps d.counter) (find (is_short w ps) l))) (ap draws_by at ∙ draws_none o none))

idle_one : (v w : SearchInput) (ps : List Pick) (d : DueFields) → w.devices ≡ v.devices → IsDue v d → code.draws_one v d ≡ false → None ≡ short_for w ps (pick_of w (due_seen v d))
idle_one v w ps d same h none =
    let at : PlacedAt 0 d.result.device v.devices d.position = due_at v d h in
    let here : slice_get v.devices d.position ≡ Some at.device = ap (slice_get v.devices) (omega (arith, at.sum)) ∙ at.at in
    idle_by w ps (pick_of w (due_seen v d)) at.device d.result.admin d.result.admin refl (sym h.admin) (device_at v w d at.device same h here)
    (sym (ap (λ (o : Option Offered). not d.result.admin && code.draws_by o) here) ∙ none)

or_parts : (a b : Bool) → (a || b) ≡ false → (a ≡ false) × (b ≡ false)
or_parts true b e = absurd (cc)
or_parts false b e = (refl, e)

idle_all : (v w : SearchInput) (ps : List Pick) (ds : List DueFields) → w.devices ≡ v.devices → Each (IsDue v) ds → list_any (code.draws_one v) ds ≡ false → None ≡ first_some (short_for w ps) (map (pick_of w) (map (due_seen v) ds))
idle_all v w ps [] same each none = refl
idle_all v w ps (d ∷ ds) same each none =
    let parts = or_parts (code.draws_one v d) (list_any (code.draws_one v) ds) none in
    idle_all v w ps ds same (λ i x e. each (suc i) x e) parts.1
    ∙ ap (λ (o : Option Failure). or_else o (first_some (short_for w ps) (map (pick_of w) (map (due_seen v) ds)))) (idle_one v w ps d same (each 0 d refl) parts.0)

devices_same : (s : State) (node : List ℕ) (r : RowsFields) → AreRowsOf s node r → (input_of s r.wants.claims node).devices ≡ (rows.input_of r).devices
unfolding input_of
devices_same s node r are = sym are.devices

pub none_drawn : (s : State) (node : List ℕ) (r : RowsFields) (ds : List DueFields) → AreRowsOf s node r → Each (IsDue (rows.input_of r)) ds → code.draws_any (rows.input_of r) ds ≡ false
    → None ≡ counter_short (input_of s r.wants.claims node) (map (pick_of (rows.input_of r)) (map (due_seen (rows.input_of r)) ds))
none_drawn s node r ds are each none =
    let w : SearchInput = input_of s r.wants.claims node in
    idle_all (rows.input_of r) w (map (pick_of w) (map (due_seen (rows.input_of r)) ds)) ds (devices_same s node r are) each none
    ∙ ap (counter_short w) (sym (picks_same s node r (map (due_seen (rows.input_of r)) ds) are))
