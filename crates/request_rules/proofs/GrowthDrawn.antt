-- What held devices draw, and what classes with the same selectors match.
use Rattle.std.proofs.Common.{ℕ, ℤ, zero, suc, ◌+◌, ◌≤◌, ◌≡◌, ◌⊎◌, List, [], ◌∷◌, ◌++◌, Bool, true, false, cond, ◌&&◌, Option, None, Some, map, filter, refl, ap, ◌∙◌, subst, inl, inr, arith}
use Rattle.std.specs.List.{flat_map, sum_by}
use Rattle.std.specs.Option.{option_map}
use Rattle.std.proofs.lemmas.List.Sums.{sum_by-append, sum_by-cons}
use Rattle.object_fields.specs.declared.key.DeviceId.{DeviceId}
use Rattle.object_fields.specs.declared.key.Key.{Key}
use Rattle.api_cluster.specs.declared.types.DeviceClass.{DeviceClass}
use Rattle.api_claim.specs.declared.types.DeviceAsk.{DeviceAsk}
use Rattle.api_slice.specs.declared.types.CounterConsumption.{CounterConsumption}
use Rattle.api_slice.specs.declared.types.ResourceSlice.{ResourceSlice}
use Rattle.pool_view.specs.declared.stored.Stored.{Stored}
use Rattle.pool_view.specs.Names.{at_name, text_eq}
use Rattle.pool_view.specs.Pools.{Offered, id_in, offered_by}
use Rattle.pool_view.specs.Match.{match_from}
use Rattle.request_rules.specs.Draws.{CounterId, Draw, counter_eq, counter_for, drawn, drawn_at as drawn_by_one, drawn_by, drawn_from, draws_from, draws_of, held_devices, held_in, is_held, natural}
use Rattle.request_rules.specs.Growth.{IsOfPool, class_selectors}
use Rattle.request_rules.specs.Lists.{Each}
use Rattle.request_rules.specs.Match.{ClassTable, match_class, matched_by, seen}
use Rattle.request_rules.proofs.Equal.{same_from_text_eq}
use Rattle.request_rules.proofs.Places.{each_join}
use Rattle.request_rules.proofs.Tests.{left_of, right_of}

-- ---- classes

match_same : (a b : Option (Stored DeviceClass)) (own : List (List ℕ)) (o : Offered) → option_map (λ (c : Stored DeviceClass). c.object.selectors) a ≡ option_map (λ (c : Stored DeviceClass). c.object.selectors) b
    → match_class a own (seen o) ≡ match_class b own (seen o)
match_same None None own o e = refl
match_same None (Some c) own o e = absurd (cc)
match_same (Some c) None own o e = absurd (cc)
match_same (Some c) (Some d) own o e =
    let f : c.object.selectors ≡ d.object.selectors = cc in
    ap (λ (texts : List (List ℕ)). match_from (seen o) 0 (texts ++ own)) f

pub matched_same : (a b : ClassTable) (ask : DeviceAsk) (o : Offered) → class_selectors a ask.class ≡ class_selectors b ask.class → matched_by a ask o ≡ matched_by b ask o
matched_same a b ask o e = match_same (at_name a ask.class) (at_name b ask.class) ask.selectors o e

-- ---- what held devices draw

own_amounts : (o : Offered) (set : List ℕ) (amounts : List (List ℕ × ℤ)) → Each (λ d. IsOfPool o d) (map (λ e. record { counter = counter_for o.slice set e.0; amount = natural e.1 }) amounts)
own_amounts o set [] i d h = absurd (cc)
own_amounts o set (e ∷ es) zero d h =
    let same : record { counter = counter_for o.slice set e.0; amount = natural e.1 } ≡ d = cc in
    subst (λ (z : Draw). IsOfPool o z) same (record { driver = refl; pool = refl })
own_amounts o set (e ∷ es) (suc i) d h = own_amounts o set es i d h

own_each : (o : Offered) (cs : List CounterConsumption) → Each (λ d. IsOfPool o d) (flat_map (draws_from o.slice) cs)
own_each o [] i d h = absurd (cc)
own_each o (c ∷ cs) i d h = each_join (λ d. IsOfPool o d) (draws_from o.slice c) (flat_map (draws_from o.slice) cs) (own_amounts o c.set c.amounts) (own_each o cs) i d h

pub own_draws : (o : Offered) → Each (λ d. IsOfPool o d) (draws_of o)
unfolding draws_of
own_draws o = own_each o o.device.consumes

other_counter : (a b c : Bool) → (a && b) ≡ false → (a && (b && c)) ≡ false
other_counter true true c e = absurd (cc)
other_counter true false c e = refl
other_counter false b c e = refl

none_drawn : (k : CounterId) (ds : List Draw) → Each (λ d. counter_eq d.counter k ≡ false) ds → sum_by (drawn_by_one k) ds ≡ 0
none_drawn k [] h = refl
none_drawn k (d ∷ ds) h =
    sum_by-cons (drawn_by_one k) d ds
    ∙ ap (λ (b : Bool). cond b d.amount 0 + sum_by (drawn_by_one k) ds) (h 0 d refl)
    ∙ ap (λ (n : ℕ). 0 + n) (none_drawn k ds (λ i e g. h (suc i) e g))

nothing_from : (k : CounterId) (o : Offered) → (text_eq o.slice.driver k.driver && text_eq o.slice.pool.name k.pool) ≡ false → drawn_from k o ≡ 0
unfolding drawn_from
nothing_from k o e =
    none_drawn k (draws_of o) (λ i d h.
    let f = own_draws o i d h in
    ap (λ (n : List ℕ). text_eq n k.driver && (text_eq d.counter.pool k.pool && (text_eq d.counter.set k.set && text_eq d.counter.counter k.counter))) f.driver
    ∙ ap (λ (n : List ℕ). text_eq o.slice.driver k.driver && (text_eq n k.pool && (text_eq d.counter.set k.set && text_eq d.counter.counter k.counter))) f.pool
    ∙ other_counter (text_eq o.slice.driver k.driver) (text_eq o.slice.pool.name k.pool) (text_eq d.counter.set k.set && text_eq d.counter.counter k.counter) e)

-- a device that draws from the counter and was held is held
abbrev Goes : (was is : Offered → Bool) → CounterId → Offered → Type 0
Goes was is k o = (was o ≡ true → is o ≡ true) ⊎ (drawn_from k o ≡ 0)

more_by : (was is : Bool) (k : CounterId) (o : Offered) (xs ys : List Offered) → (was ≡ true → is ≡ true) ⊎ (drawn_from k o ≡ 0) → sum_by (drawn_from k) xs ≤ sum_by (drawn_from k) ys
    → sum_by (drawn_from k) (cond was (o ∷ xs) xs) ≤ sum_by (drawn_from k) (cond is (o ∷ ys) ys)
more_by true true k o xs ys g h = let e = sum_by-cons (drawn_from k) o xs in let f = sum_by-cons (drawn_from k) o ys in omega (arith, e, f, h)
more_by true false k o xs ys (inl g) h = let f = g refl in absurd (cc)
more_by true false k o xs ys (inr g) h = let e = sum_by-cons (drawn_from k) o xs in omega (arith, e, g, h)
more_by false true k o xs ys g h = let f = sum_by-cons (drawn_from k) o ys in omega (arith, f, h)
more_by false false k o xs ys g h = h

more_of : (was is : Offered → Bool) (k : CounterId) (os : List Offered) → ((o : Offered) → Goes was is k o) → sum_by (drawn_from k) (filter was os) ≤ sum_by (drawn_from k) (filter is os)
more_of was is k [] h = omega arith
more_of was is k (o ∷ os) h = more_by (was o) (is o) k o (filter was os) (filter is os) (h o) (more_of was is k os h)

more_in : (hs ht : List (DeviceId × Key)) (k : CounterId) (xs : List ResourceSlice) → ((o : Offered) → Goes (λ o. is_held hs (id_in o)) (λ o. is_held ht (id_in o)) k o)
    → sum_by (drawn_from k) (flat_map (held_in hs) xs) ≤ sum_by (drawn_from k) (flat_map (held_in ht) xs)
more_in hs ht k [] h = omega arith
more_in hs ht k (x ∷ xs) h =
    let a = sum_by-append (drawn_from k) (held_in hs x) (flat_map (held_in hs) xs) in
    let b = sum_by-append (drawn_from k) (held_in ht x) (flat_map (held_in ht) xs) in
    let c = more_of (λ o. is_held hs (id_in o)) (λ o. is_held ht (id_in o)) k (map (offered_by x) x.devices) h in
    let d = more_in hs ht k xs h in
    omega (arith, a, b, c, d)

more_drawn : (hs ht : List (DeviceId × Key)) (k : CounterId) (xs : List ResourceSlice) → ((o : Offered) → Goes (λ o. is_held hs (id_in o)) (λ o. is_held ht (id_in o)) k o) → drawn xs hs k ≤ drawn xs ht k
unfolding drawn drawn_by held_devices
more_drawn hs ht k xs h = more_in hs ht k xs h

-- the devices of the counter's pool that were held are held
abbrev pub StaysIn : (hs ht : List (DeviceId × Key)) → CounterId → Type 0
StaysIn hs ht k = (d : DeviceId) → d.driver ≡ k.driver → d.pool ≡ k.pool → is_held hs d ≡ true → is_held ht d ≡ true

goes_by : (hs ht : List (DeviceId × Key)) (k : CounterId) (o : Offered) (b : Bool) → StaysIn hs ht k → (text_eq o.slice.driver k.driver && text_eq o.slice.pool.name k.pool) ≡ b
    → Goes (λ o. is_held hs (id_in o)) (λ o. is_held ht (id_in o)) k o
goes_by hs ht k o true h e =
    inl (h (id_in o) (same_from_text_eq o.slice.driver k.driver (left_of (text_eq o.slice.driver k.driver) (text_eq o.slice.pool.name k.pool) e))
    (same_from_text_eq o.slice.pool.name k.pool (right_of (text_eq o.slice.driver k.driver) (text_eq o.slice.pool.name k.pool) e)))
goes_by hs ht k o false h e = inr (nothing_from k o e)

pub drawn_grows : (xs : List ResourceSlice) (hs ht : List (DeviceId × Key)) (k : CounterId) → StaysIn hs ht k → drawn xs hs k ≤ drawn xs ht k
drawn_grows xs hs ht k h = more_drawn hs ht k xs (λ o. goes_by hs ht k o (text_eq o.slice.driver k.driver && text_eq o.slice.pool.name k.pool) h refl)
