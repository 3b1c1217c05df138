-- The first counter that doesn't have enough, set by set.
use Rattle.std.proofs.Common.{◌≡◌, ℕ, ℤ, ◌+◌, List, [], ◌∷◌, Bool, true, false, not, Option, None, Some, refl, sym, ap, ap₂, ◌∙◌, if◌then◌else◌, cond, map, min, arith}
use Rattle.std.specs.List.{find, flat_map}
use Rattle.std.specs.Option.{option_map, option_or}
use Rattle.std.proofs.lemmas.List.Folds.{find-append}
use Rattle.api_slice.specs.declared.types.CounterConsumption.{CounterConsumption}
use Rattle.pool_view.specs.Names.{at_name}
use Rattle.pool_view.specs.Pools.{Offered}
use Rattle.request_rules.specs.Draws.{CounterId, Draw, counter_for, draws_from, draws_of, drawn_from, first_short, has_enough}
use Rattle.counter_sets.specs.Totals.{KeptCounters, PoolCounters, counter_in, covers_counter, drawn_in, drawn_kept, or_empty, or_short, short_in, short_name, short_set, sum_from, sum_most, value_kept, value_of}
use Rattle.counter_sets.proofs.Moves.{counter_covered, draw_at, drawn_own, sets_at}

abbrev is_short : KeptCounters → Offered → Draw → Bool
is_short kept o d = not (has_enough (value_of kept) (drawn_in kept) o d.counter)

abbrev counters : Option Draw → Option CounterId
counters f = option_map (λ (d : Draw). d.counter) f

name_step : (b c : Bool) (f : List ℕ → CounterId) (n : List ℕ) (d : Draw) (s : Option (List ℕ)) (r : Option Draw) → b ≡ c → f n ≡ d.counter → option_map f s ≡ counters r
    → option_map f (if c then s else Some n) ≡ counters (cond (not b) (Some d) r)
name_step true true f n d s r e g h = h
name_step false false f n d s r e g h = ap Some g
name_step true false f n d s r e g h = absurd (cc)
name_step false true f n d s r e g h = absurd (cc)

names_short : (kept : KeptCounters) (o : Offered) (set : List ℕ) (es : List (List ℕ × ℤ))
    → option_map (counter_for o.slice set) (short_name (or_empty (at_name (sets_at kept o) set)) o set es) ≡ counters (find (is_short kept o) (map (λ e. draw_at o.slice set e) es))
names_short kept o set [] = refl
names_short kept o set (e ∷ es) =
    name_step (has_enough (value_of kept) (drawn_in kept) o (counter_for o.slice set e.0)) (covers_counter (or_empty (at_name (sets_at kept o) set)) o set e.0) (counter_for o.slice set) e.0 (draw_at o.slice set e)
    (short_name (or_empty (at_name (sets_at kept o) set)) o set es) (find (is_short kept o) (map (λ e. draw_at o.slice set e) es)) (counter_covered o kept set e.0) refl (names_short kept o set es)

set_step : (h : List ℕ × List ℕ → CounterId) (set : List ℕ) (s : Option (List ℕ)) (r : Option Draw) (t : Option (List ℕ × List ℕ)) (q : Option Draw)
    → option_map (λ n. h (set, n)) s ≡ counters r → option_map h t ≡ counters q → option_map h (or_short set s t) ≡ counters (option_or r q)
set_step h set None None t q e g = g
set_step h set (Some n) (Some d) t q e g = e
set_step h set None (Some d) t q e g = absurd (cc)
set_step h set (Some n) None t q e g = absurd (cc)

sets_short : (kept : KeptCounters) (o : Offered) (cs : List CounterConsumption)
    → option_map (λ (p : List ℕ × List ℕ). counter_for o.slice p.0 p.1) (short_in (sets_at kept o) o cs) ≡ counters (find (is_short kept o) (flat_map (draws_from o.slice) cs))
unfolding short_set
sets_short kept o [] = refl
sets_short kept o (c ∷ cs) =
    set_step (λ (p : List ℕ × List ℕ). counter_for o.slice p.0 p.1) c.set (short_name (or_empty (at_name (sets_at kept o) c.set)) o c.set c.amounts) (find (is_short kept o) (draws_from o.slice c))
    (short_in (sets_at kept o) o cs) (find (is_short kept o) (flat_map (draws_from o.slice) cs)) (names_short kept o c.set c.amounts) (sets_short kept o cs)
    ∙ sym (ap counters (find-append (is_short kept o) (draws_from o.slice c) (flat_map (draws_from o.slice) cs)))

pub short_is : (kept : KeptCounters) (o : Offered)
    → option_map (λ (p : List ℕ × List ℕ). counter_for o.slice p.0 p.1) (short_in (sets_at kept o) o o.device.consumes) ≡ option_map (λ d. d.counter) (first_short (value_of kept) (drawn_in kept) o)
unfolding first_short draws_of
short_is kept o = sets_short kept o o.device.consumes

pub short_of : (kept : KeptCounters) (o : Offered) (sets : PoolCounters) → sets ≡ sets_at kept o → (p : Option (List ℕ × List ℕ)) → p ≡ short_in sets o o.device.consumes
    → option_map (λ (p : List ℕ × List ℕ). counter_for o.slice p.0 p.1) p ≡ option_map (λ d. d.counter) (first_short (value_of kept) (drawn_in kept) o)
short_of kept o sets link p e =
    ap (option_map (λ (p : List ℕ × List ℕ). counter_for o.slice p.0 p.1)) (e ∙ ap (λ (t : PoolCounters). short_in t o o.device.consumes) link) ∙ short_is kept o

capped_once : (n s : ℕ) → min (n + min s sum_most) sum_most ≡ min (n + s) sum_most
capped_once n s = omega arith

drawn_there : (kept : KeptCounters) (o : Offered) (set name : List ℕ)
    → min (drawn_kept (counter_in (sets_at kept o) set name) + min (sum_from set name o.device.consumes) sum_most) sum_most
    ≡ min (drawn_in kept (counter_for o.slice set name) + drawn_from (counter_for o.slice set name) o) sum_most
unfolding drawn_in
drawn_there kept o set name =
    let n : ℕ = drawn_kept (counter_in (sets_at kept o) set name) in
    capped_once n (sum_from set name o.device.consumes) ∙ ap (λ (s : ℕ). min (n + s) sum_most) (sym (drawn_own o set name))

pub drawn_of : (kept : KeptCounters) (o : Offered) (sets : PoolCounters) → sets ≡ sets_at kept o → (set name s n : List ℕ) → s ≡ set → n ≡ name → (r : ℕ)
    → r ≡ min (drawn_kept (counter_in sets set name) + min (sum_from set name o.device.consumes) sum_most) sum_most
    → r ≡ min (drawn_in kept (counter_for o.slice s n) + drawn_from (counter_for o.slice s n) o) sum_most
drawn_of kept o sets link set name s n e f r is =
    is
    ∙ ap (λ (t : PoolCounters). min (drawn_kept (counter_in t set name) + min (sum_from set name o.device.consumes) sum_most) sum_most) link
    ∙ drawn_there kept o set name
    ∙ sym (ap₂ (λ (a b : List ℕ). min (drawn_in kept (counter_for o.slice a b) + drawn_from (counter_for o.slice a b) o) sum_most) e f)

pub has_of : (kept : KeptCounters) (o : Offered) (sets : PoolCounters) → sets ≡ sets_at kept o → (set name s n : List ℕ) → s ≡ set → n ≡ name → (r : Option ℕ)
    → r ≡ value_kept (counter_in sets set name) → r ≡ value_of kept (counter_for o.slice s n)
unfolding value_of
has_of kept o sets link set name s n e f r is =
    is ∙ ap (λ (t : PoolCounters). value_kept (counter_in t set name)) link ∙ sym (ap₂ (λ (a b : List ℕ). value_kept (counter_in (sets_at kept o) a b)) e f)
