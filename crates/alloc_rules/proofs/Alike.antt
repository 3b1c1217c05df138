-- What doesn't depend on held devices and counters: the shape of results, what names pick, selectors and
-- constraints.
use Rattle.std.proofs.Common.{ℕ, ◌+◌, ◌≡◌, ◌∙◌, List, [], ◌∷◌, ◌++◌, Bool, not, ◌&&◌, cond, Option, None, Some, drop, find, length, map, take, refl, sym, ap}
use Rattle.std.specs.Prelude.{nat_eq, nat_le}
use Rattle.std.specs.Cmp.Lexicographic.{pointwise}
use Rattle.std.specs.List.{list_all, slice_get}
use Rattle.std.specs.Option.{option_map}
use Rattle.std.proofs.lemmas.List.Elements.{filter_agree}
use Rattle.walk.specs.Lists.{numbers}
use Rattle.object_fields.specs.declared.key.DeviceId.{DeviceId}
use Rattle.object_fields.specs.declared.key.Key.{Key}
use Rattle.api_claim.specs.declared.types.AllocationMode.{AllocationMode}
use Rattle.api_claim.specs.declared.types.AllocationMode.TheVariants.{ExactCount, All}
use Rattle.api_claim.specs.declared.types.DeviceAsk.{DeviceAsk}
use Rattle.api_claim.specs.declared.types.ResourceClaim.{ResourceClaim}
use Rattle.pool_view.specs.declared.matching.Match.{Match}
use Rattle.pool_view.specs.Names.{key_eq}
use Rattle.pool_view.specs.Pools.{Offered}
use Rattle.pool_view.specs.Usable.{usable_slices}
use Rattle.pool_view.specs.Views.{position_of}
use Rattle.cluster.specs.declared.failure.Failure.{Failure}
use Rattle.cluster.specs.declared.failure.Failure.TheVariants as failure
use Rattle.cluster.specs.declared.plan.DeviceResult.{DeviceResult}
use Rattle.cluster.specs.declared.plan.Grant.{Grant}
use Rattle.cluster.specs.declared.state.State.{State}
use Rattle.cluster.specs.Held as cluster
use Rattle.request_rules.specs.Draws.{CounterId, drawn, value_among}
use Rattle.request_rules.specs.Asked.{Asked, asked, is_yes, match_at, match_by, matching, meets, tolerated_at}
use Rattle.request_rules.specs.Faults.{fault_of}
use Rattle.request_rules.specs.Input.{SearchInput}
use Rattle.request_rules.specs.Lists.{or_else}
use Rattle.request_rules.specs.Problem.{is_none, most_results}
use Rattle.request_rules.specs.Rules.{Pick}
use Rattle.request_rules.specs.Match.{matched_by}
use Rattle.request_rows.specs.Wanted as rows
use Rattle.request_rows.specs.Wanted.{RowsFields, with_held}
use Rattle.request_rules.specs.Ways.{wishes_in}
use Rattle.allocations.specs.Input.{input_of}
use Rattle.plan_rules.specs.Chosen.{Due, asked_in, choice_of, due, due_by, due_for, dues, dues_for, dues_from, pick_of, place_by, place_of}
use Rattle.alloc_rules.specs.Rows.{AreRowsOf}
use Rattle.plan_rules.specs.Shaped.{are_parts, differ, is_for, is_part, is_shaped, misshapen, picks_each, shape_from, sits}
use Rattle.plan_rules.specs.Standing.{broken_by, agree, constraint_broken, disagreed_from, is_no, is_unmet, is_untolerated, selector_fault, selector_no, tainted}

-- ---- the same input with devices that are held, and counters

place_alike : (v : SearchInput) (held : List (DeviceId × Key)) (value : CounterId → Option ℕ) (drawn : CounterId → ℕ) (r : DeviceResult) → place_of (with_held v held value drawn) r ≡ place_of v r
place_alike v held value drawn r = by (position_of r.device v.devices)
  where
    by : (o : Option ℕ) → place_by (with_held v held value drawn) o ≡ place_by v o
    by None = refl
    by (Some x) = refl

match_alike : (v : SearchInput) (held : List (DeviceId × Key)) (value : CounterId → Option ℕ) (drawn : CounterId → ℕ) (a : DeviceAsk) (x : ℕ) → match_at (with_held v held value drawn) a x ≡ match_at v a x
match_alike v held value drawn a x = by (slice_get v.devices x)
  where
    by : (o : Option Offered) → match_by (with_held v held value drawn) a o ≡ match_by v a o
    by None = refl
    by (Some o) = refl

matching_alike : (v : SearchInput) (held : List (DeviceId × Key)) (value : CounterId → Option ℕ) (drawn : CounterId → ℕ) (a : DeviceAsk) → matching (with_held v held value drawn) a ≡ matching v a
unfolding matching
matching_alike v held value drawn a =
    filter_agree (meets (with_held v held value drawn) a) (meets v a) (λ x. ap is_yes (match_alike v held value drawn a x)) (numbers 0 (length v.devices))

due_alike : (v : SearchInput) (held : List (DeviceId × Key)) (value : CounterId → Option ℕ) (drawn : CounterId → ℕ) (a : Asked) → due (with_held v held value drawn) a ≡ due v a
due_alike v held value drawn a = by a.ask.mode
  where
    by : (m : AllocationMode) → due_by (with_held v held value drawn) a m ≡ due_by v a m
    by (ExactCount n) = refl
    by All = ap (λ (l : List ℕ). length l) (matching_alike v held value drawn a.ask)

places_alike : (v : SearchInput) (held : List (DeviceId × Key)) (value : CounterId → Option ℕ) (drawn : CounterId → ℕ) (rs : List DeviceResult) → map (place_of (with_held v held value drawn)) rs ≡ map (place_of v) rs
places_alike v held value drawn [] = refl
places_alike v held value drawn (r ∷ rs) =
    ap (λ (n : ℕ). n ∷ map (place_of (with_held v held value drawn)) rs) (place_alike v held value drawn r) ∙ ap (λ (l : List ℕ). place_of v r ∷ l) (places_alike v held value drawn rs)

part_alike : (v : SearchInput) (held : List (DeviceId × Key)) (value : CounterId → Option ℕ) (drawn : CounterId → ℕ) (a : Asked) (rs : List DeviceResult) → is_part (with_held v held value drawn) a rs ≡ is_part v a rs
part_alike v held value drawn a rs =
    ap (λ (l : List ℕ). list_all (is_for a) rs && sits (with_held v held value drawn) a a.ask.mode l) (places_alike v held value drawn rs)
    ∙ ap (λ (t : Bool). list_all (is_for a) rs && t) (by a.ask.mode)
  where
    by : (m : AllocationMode) → sits (with_held v held value drawn) a m (map (place_of v) rs) ≡ sits v a m (map (place_of v) rs)
    by (ExactCount n) = refl
    by All = ap (λ (l : List ℕ). not v.broken && (not (is_none (map (place_of v) rs)) && pointwise nat_eq (map (place_of v) rs) l)) (matching_alike v held value drawn a.ask)

parts_alike : (v : SearchInput) (held : List (DeviceId × Key)) (value : CounterId → Option ℕ) (drawn : CounterId → ℕ) (asks : List Asked) (rs : List DeviceResult) → are_parts (with_held v held value drawn) asks rs ≡ are_parts v asks rs
parts_alike v held value drawn [] rs = refl
parts_alike v held value drawn (a ∷ asks) rs =
    ap (λ (n : ℕ). is_part (with_held v held value drawn) a (take n rs) && are_parts (with_held v held value drawn) asks (drop n rs)) (due_alike v held value drawn a)
    ∙ ap (λ (t : Bool). t && are_parts (with_held v held value drawn) asks (drop (due v a) rs)) (part_alike v held value drawn a (take (due v a) rs))
    ∙ ap (λ (t : Bool). is_part v a (take (due v a) rs) && t) (parts_alike v held value drawn asks (drop (due v a) rs))

shaped_alike : (v : SearchInput) (held : List (DeviceId × Key)) (value : CounterId → Option ℕ) (drawn : CounterId → ℕ) (i : ℕ) (c : ResourceClaim) (rs : List DeviceResult) → is_shaped (with_held v held value drawn) i c rs ≡ is_shaped v i c rs
unfolding is_shaped
shaped_alike v held value drawn i c rs =
    ap (λ (t : Bool). picks_each rs (wishes_in i c.key c.requests) && (t && (differ rs && nat_le (length rs) most_results))) (parts_alike v held value drawn (asked_in i c rs) rs)

shape_alike : (v : SearchInput) (held : List (DeviceId × Key)) (value : CounterId → Option ℕ) (drawn : CounterId → ℕ) (i : ℕ) (cs : List ResourceClaim) (gs : List Grant) → shape_from (with_held v held value drawn) i cs gs ≡ shape_from v i cs gs
shape_alike v held value drawn i [] [] = refl
shape_alike v held value drawn i [] (g ∷ gs) = refl
shape_alike v held value drawn i (c ∷ cs) [] = refl
shape_alike v held value drawn i (c ∷ cs) (g ∷ gs) =
    ap (λ (t : Bool). cond (key_eq g.claim c.key && t) (shape_from (with_held v held value drawn) (i + 1) cs gs) (Some (failure.Shape c.key))) (shaped_alike v held value drawn i c g.results)
    ∙ ap (λ (o : Option Failure). cond (key_eq g.claim c.key && is_shaped v i c g.results) o (Some (failure.Shape c.key))) (shape_alike v held value drawn (i + 1) cs gs)

choice_alike : (v : SearchInput) (held : List (DeviceId × Key)) (value : CounterId → Option ℕ) (drawn : CounterId → ℕ) (gs : List Grant) → choice_of (with_held v held value drawn) gs ≡ choice_of v gs
unfolding choice_of
choice_alike v held value drawn gs = refl

dues_for_alike : (v : SearchInput) (held : List (DeviceId × Key)) (value : CounterId → Option ℕ) (drawn : CounterId → ℕ) (claim : Key) (asks : List Asked) (rs : List DeviceResult) → dues_for (with_held v held value drawn) claim asks rs ≡ dues_for v claim asks rs
dues_for_alike v held value drawn claim [] rs = refl
dues_for_alike v held value drawn claim (a ∷ asks) rs =
    ap (λ (n : ℕ). map (due_for claim a) (take n rs) ++ dues_for (with_held v held value drawn) claim asks (drop n rs)) (due_alike v held value drawn a)
    ∙ ap (λ (l : List Due). map (due_for claim a) (take (due v a) rs) ++ l) (dues_for_alike v held value drawn claim asks (drop (due v a) rs))

dues_from_alike : (v : SearchInput) (held : List (DeviceId × Key)) (value : CounterId → Option ℕ) (drawn : CounterId → ℕ) (i : ℕ) (cs : List ResourceClaim) (gs : List Grant) → dues_from (with_held v held value drawn) i cs gs ≡ dues_from v i cs gs
dues_from_alike v held value drawn i [] gs = refl
dues_from_alike v held value drawn i (c ∷ cs) [] = refl
dues_from_alike v held value drawn i (c ∷ cs) (g ∷ gs) =
    ap (λ (l : List Due). l ++ dues_from (with_held v held value drawn) (i + 1) cs gs) (dues_for_alike v held value drawn c.key (asked_in i c g.results) g.results)
    ∙ ap (λ (l : List Due). dues_for v c.key (asked_in i c g.results) g.results ++ l) (dues_from_alike v held value drawn (i + 1) cs gs)

dues_alike : (v : SearchInput) (held : List (DeviceId × Key)) (value : CounterId → Option ℕ) (drawn : CounterId → ℕ) (gs : List Grant) → dues (with_held v held value drawn) gs ≡ dues v gs
unfolding dues
dues_alike v held value drawn gs = dues_from_alike v held value drawn 0 v.claims gs

unmet_alike : (v : SearchInput) (held : List (DeviceId × Key)) (value : CounterId → Option ℕ) (drawn : CounterId → ℕ) (d : Due) → is_unmet (with_held v held value drawn) d ≡ is_unmet v d
unmet_alike v held value drawn d =
    ap (λ (n : ℕ). is_no (match_at (with_held v held value drawn) d.asked.ask n)) (place_alike v held value drawn d.result) ∙ ap is_no (match_alike v held value drawn d.asked.ask (place_of v d.result))

find_alike : (v : SearchInput) (held : List (DeviceId × Key)) (value : CounterId → Option ℕ) (drawn : CounterId → ℕ) (ds : List Due) → find (is_unmet (with_held v held value drawn)) ds ≡ find (is_unmet v) ds
find_alike v held value drawn [] = refl
find_alike v held value drawn (d ∷ ds) =
    ap (λ (t : Bool). cond t (Some d) (find (is_unmet (with_held v held value drawn)) ds)) (unmet_alike v held value drawn d)
    ∙ ap (λ (o : Option Due). cond (is_unmet v d) (Some d) o) (find_alike v held value drawn ds)

tolerated_alike : (v : SearchInput) (held : List (DeviceId × Key)) (value : CounterId → Option ℕ) (drawn : CounterId → ℕ) (a : DeviceAsk) (x : ℕ) → tolerated_at (with_held v held value drawn) a x ≡ tolerated_at v a x
unfolding tolerated_at
tolerated_alike v held value drawn a x = refl

untolerated_alike : (v : SearchInput) (held : List (DeviceId × Key)) (value : CounterId → Option ℕ) (drawn : CounterId → ℕ) (d : Due) → is_untolerated (with_held v held value drawn) d ≡ is_untolerated v d
untolerated_alike v held value drawn d =
    ap (λ (n : ℕ). not (tolerated_at (with_held v held value drawn) d.asked.ask n)) (place_alike v held value drawn d.result) ∙ ap not (tolerated_alike v held value drawn d.asked.ask (place_of v d.result))

first_alike : (v : SearchInput) (held : List (DeviceId × Key)) (value : CounterId → Option ℕ) (drawn : CounterId → ℕ) (ds : List Due) → find (is_untolerated (with_held v held value drawn)) ds ≡ find (is_untolerated v) ds
first_alike v held value drawn [] = refl
first_alike v held value drawn (d ∷ ds) =
    ap (λ (t : Bool). cond t (Some d) (find (is_untolerated (with_held v held value drawn)) ds)) (untolerated_alike v held value drawn d)
    ∙ ap (λ (o : Option Due). cond (is_untolerated v d) (Some d) o) (first_alike v held value drawn ds)

fault_alike : (v : SearchInput) (held : List (DeviceId × Key)) (value : CounterId → Option ℕ) (drawn : CounterId → ℕ) (c : List ℕ) → fault_of (with_held v held value drawn) c ≡ fault_of v c
unfolding fault_of asked
fault_alike v held value drawn c = refl

picks_alike : (v : SearchInput) (held : List (DeviceId × Key)) (value : CounterId → Option ℕ) (drawn : CounterId → ℕ) (ds : List Due) → map (pick_of (with_held v held value drawn)) ds ≡ map (pick_of v) ds
picks_alike v held value drawn [] = refl
picks_alike v held value drawn (d ∷ ds) =
    ap (λ (n : ℕ). record { label = d.asked.label; position = n } ∷ map (pick_of (with_held v held value drawn)) ds) (place_alike v held value drawn d.result)
    ∙ ap (λ (l : List Pick). pick_of v d ∷ l) (picks_alike v held value drawn ds)

broken_alike : (v : SearchInput) (held : List (DeviceId × Key)) (value : CounterId → Option ℕ) (drawn : CounterId → ℕ) (ps : List Pick) (i : ℕ) (cs : List ResourceClaim) → disagreed_from (with_held v held value drawn) ps i cs ≡ disagreed_from v ps i cs
broken_alike v held value drawn ps i [] = refl
broken_alike v held value drawn ps i (c ∷ cs) = ap (λ (o : Option Failure). or_else (broken_by (agree v ps i) c.key 0 c.constraints) o) (broken_alike v held value drawn ps (i + 1) cs)

-- ---- the input of a state

same_input : (devices d : List Offered) (claims : List ResourceClaim) (matched m : DeviceAsk → Offered → Match) (held : List (DeviceId × Key)) (value : CounterId → Option ℕ) (drawn : CounterId → ℕ) (broken b : Bool) → devices ≡ d → matched ≡ m → broken ≡ b
    → ◌≡◌ {A = SearchInput} (record { devices = devices; claims = claims; matched = matched; held = held; value = value; drawn = drawn; broken = broken }) (record { devices = d; claims = claims; matched = m; held = held; value = value; drawn = drawn; broken = b })
same_input devices d claims matched m held value drawn broken b e f g = cc

abbrev state_value : State → CounterId → Option ℕ
state_value s = value_among (usable_slices s.inventory)

abbrev state_drawn : State → CounterId → ℕ
state_drawn s = drawn (usable_slices s.inventory) (cluster.held s)

input_is : (s : State) (node : List ℕ) (r : RowsFields) → AreRowsOf s node r → input_of s r.wants.claims node ≡ with_held (rows.input_of r) (cluster.held s) (state_value s) (state_drawn s)
unfolding input_of
input_is s node r h = same_input _ r.devices r.wants.claims (matched_by s.classes) (matched_by r.wants.classes) (cluster.held s) (state_value s) (state_drawn s) _ r.broken (sym h.devices) (ap matched_by (sym h.classes)) (sym h.broken)

pub misshapen_same : (s : State) (node : List ℕ) (r : RowsFields) (gs : List Grant) → AreRowsOf s node r → misshapen (rows.input_of r) gs ≡ misshapen (input_of s r.wants.claims node) gs
misshapen_same s node r gs h =
    sym (ap (λ (w : SearchInput). misshapen w gs) (input_is s node r h) ∙ shape_alike (rows.input_of r) (cluster.held s) (state_value s) (state_drawn s) 0 r.wants.claims gs)

pub choice_same : (s : State) (node : List ℕ) (r : RowsFields) (gs : List Grant) → AreRowsOf s node r → choice_of (rows.input_of r) gs ≡ choice_of (input_of s r.wants.claims node) gs
choice_same s node r gs h = sym (ap (λ (w : SearchInput). choice_of w gs) (input_is s node r h) ∙ choice_alike (rows.input_of r) (cluster.held s) (state_value s) (state_drawn s) gs)

pub dues_same : (s : State) (node : List ℕ) (r : RowsFields) (gs : List Grant) → AreRowsOf s node r → dues (rows.input_of r) gs ≡ dues (input_of s r.wants.claims node) gs
dues_same s node r gs h = sym (ap (λ (w : SearchInput). dues w gs) (input_is s node r h) ∙ dues_alike (rows.input_of r) (cluster.held s) (state_value s) (state_drawn s) gs)

pub no_same : (s : State) (node : List ℕ) (r : RowsFields) (ds : List Due) → AreRowsOf s node r → selector_no (rows.input_of r) ds ≡ selector_no (input_of s r.wants.claims node) ds
no_same s node r ds h =
    sym (ap (λ (w : SearchInput). selector_no w ds) (input_is s node r h)
    ∙ ap (λ (o : Option Due). option_map (λ (d : Due). failure.SelectorNo d.result.device) o) (find_alike (rows.input_of r) (cluster.held s) (state_value s) (state_drawn s) ds))

pub tainted_same : (s : State) (node : List ℕ) (r : RowsFields) (ds : List Due) → AreRowsOf s node r → tainted (rows.input_of r) ds ≡ tainted (input_of s r.wants.claims node) ds
tainted_same s node r ds h =
    sym (ap (λ (w : SearchInput). tainted w ds) (input_is s node r h)
    ∙ ap (λ (o : Option Due). option_map (λ (d : Due). failure.Tainted d.result.device) o) (first_alike (rows.input_of r) (cluster.held s) (state_value s) (state_drawn s) ds))

pub fault_same : (s : State) (node : List ℕ) (r : RowsFields) (c : List ℕ) → AreRowsOf s node r → selector_fault (rows.input_of r) c ≡ selector_fault (input_of s r.wants.claims node) c
fault_same s node r c h =
    sym (ap (λ (w : SearchInput). selector_fault w c) (input_is s node r h)
    ∙ ap (λ o. option_map (λ f. failure.SelectorFault f.device) o) (fault_alike (rows.input_of r) (cluster.held s) (state_value s) (state_drawn s) c))

pub picks_same : (s : State) (node : List ℕ) (r : RowsFields) (ds : List Due) → AreRowsOf s node r → map (pick_of (rows.input_of r)) ds ≡ map (pick_of (input_of s r.wants.claims node)) ds
picks_same s node r ds h = sym (ap (λ (w : SearchInput). map (pick_of w) ds) (input_is s node r h) ∙ picks_alike (rows.input_of r) (cluster.held s) (state_value s) (state_drawn s) ds)

pub constraint_same : (s : State) (node : List ℕ) (r : RowsFields) (ps : List Pick) → AreRowsOf s node r → constraint_broken (rows.input_of r) ps ≡ constraint_broken (input_of s r.wants.claims node) ps
constraint_same s node r ps h =
    sym (ap (λ (w : SearchInput). constraint_broken w ps) (input_is s node r h) ∙ broken_alike (rows.input_of r) (cluster.held s) (state_value s) (state_drawn s) ps 0 r.wants.claims)

-- ---- the first of several

pub else_first : (o p : Option Failure) (f : Failure) → Some f ≡ o → Some f ≡ or_else o p
else_first None p f e = absurd (cc)
else_first (Some g) p f e = e

pub else_later : (o p x : Option Failure) → None ≡ o → x ≡ p → x ≡ or_else o p
else_later None p x e h = h
else_later (Some g) p x e h = absurd (cc)
