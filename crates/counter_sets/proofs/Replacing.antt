-- The counters of a pool, in place of those that are kept of it.
use Rattle.std.proofs.Common.{◌≡◌, ℕ, List, [], Bool, true, false, ◌&&◌, Option, None, Some, refl, sym, ap, ◌∙◌, if◌then◌else◌}
use Rattle.std.specs.BTreeMap.{insert_entry}
use Rattle.std.specs.Cmp.Lexicographic.{same_text}
use Rattle.std.specs.Option.{option_map}
use Rattle.std.proofs.lemmas.Bool.{and_parts}
use Rattle.api_slice.specs.declared.types.ResourceSlice.{ResourceSlice}
use Rattle.pool_view.specs.Names.{at_name, text_cmp, text_eq}
use Rattle.request_rules.specs.Draws.{CounterId, is_of_pool}
use Rattle.counter_sets.specs.Totals.{KeptCounters, PoolCounters, Tabled, changed_at, counter_in, drawn_in, drawn_kept, emptied, or_empty, pool_in, value_kept, value_of, with_pool}
use Rattle.counter_sets.proofs.Names.{moved_if, moved_name}
use Rattle.counter_sets.proofs.Putting.{found, insert_at, put_at}

put_found : (b : Bool) (sets : PoolCounters) (o : Option PoolCounters) → or_empty (found b sets o) ≡ (if b then sets else or_empty o)
put_found true sets o = refl
put_found false sets o = refl

put_step : (b : Bool) (n q : List ℕ) (sets : PoolCounters) (pools : Tabled PoolCounters)
    → or_empty (at_name (if b then insert_entry text_cmp pools n sets else pools) q) ≡ (if b && text_eq n q then sets else or_empty (at_name pools q))
put_step true n q sets pools = ap or_empty (insert_at n q sets pools) ∙ put_found (text_eq n q) sets (at_name pools q)
put_step false n q sets pools = refl

pool_put : (x : ResourceSlice) (sets : PoolCounters) (kept : KeptCounters) (d p : List ℕ)
    → pool_in (with_pool x sets kept) d p ≡ (if text_eq x.driver d && text_eq x.pool.name p then sets else pool_in kept d p)
unfolding with_pool
pool_put x sets kept d p =
    ap (λ (pools : Tabled PoolCounters). or_empty (at_name pools p)) (put_at x.driver d (λ pools. insert_entry text_cmp pools x.pool.name sets) kept)
    ∙ put_step (text_eq x.driver d) x.pool.name p sets (or_empty (at_name kept d))

-- those of other totals
own_pool : (b : Bool) (x : ResourceSlice) (from : KeptCounters) (kept : PoolCounters) (c : CounterId) → is_of_pool x c ≡ b
    → (if b then pool_in from x.driver x.pool.name else kept) ≡ (if b then pool_in from c.driver c.pool else kept)
own_pool true x from kept c e =
    let both = and_parts (text_eq x.driver c.driver) (text_eq x.pool.name c.pool) e in
    ap (λ (n : List ℕ). pool_in from n x.pool.name) (same_text x.driver c.driver (sym both.0)) ∙ ap (pool_in from c.driver) (same_text x.pool.name c.pool (sym both.1))
own_pool false x from kept c e = refl

value_by : (b : Bool) (s t : PoolCounters) (c : CounterId) → value_kept (counter_in (if b then s else t) c.set c.counter) ≡ (if b then value_kept (counter_in s c.set c.counter) else value_kept (counter_in t c.set c.counter))
value_by true s t c = refl
value_by false s t c = refl

drawn_by : (b : Bool) (s t : PoolCounters) (c : CounterId) → drawn_kept (counter_in (if b then s else t) c.set c.counter) ≡ (if b then drawn_kept (counter_in s c.set c.counter) else drawn_kept (counter_in t c.set c.counter))
drawn_by true s t c = refl
drawn_by false s t c = refl

-- the counters are those of the pool, and all others stay
abbrev Put : ResourceSlice → PoolCounters → (kept new : KeptCounters) → Type 0
Put x sets kept new = (d p : List ℕ) → pool_in new d p ≡ (if text_eq x.driver d && text_eq x.pool.name p then sets else pool_in kept d p)

put_in_pool : (x : ResourceSlice) (sets : PoolCounters) (from kept new : KeptCounters) (c : CounterId) → sets ≡ pool_in from x.driver x.pool.name → Put x sets kept new
    → pool_in new c.driver c.pool ≡ (if is_of_pool x c then pool_in from c.driver c.pool else pool_in kept c.driver c.pool)
put_in_pool x sets from kept new c is put =
    put c.driver c.pool
    ∙ ap (λ (s : PoolCounters). if is_of_pool x c then s else pool_in kept c.driver c.pool) is
    ∙ own_pool (is_of_pool x c) x from (pool_in kept c.driver c.pool) c refl

seen_value : (x : ResourceSlice) (sets : PoolCounters) (from kept new : KeptCounters) → sets ≡ pool_in from x.driver x.pool.name → Put x sets kept new → (c : CounterId)
    → value_of new c ≡ (if is_of_pool x c then value_of from c else value_of kept c)
unfolding value_of
seen_value x sets from kept new is put c =
    ap (λ (s : PoolCounters). value_kept (counter_in s c.set c.counter)) (put_in_pool x sets from kept new c is put)
    ∙ value_by (is_of_pool x c) (pool_in from c.driver c.pool) (pool_in kept c.driver c.pool) c

seen_drawn : (x : ResourceSlice) (sets : PoolCounters) (from kept new : KeptCounters) → sets ≡ pool_in from x.driver x.pool.name → Put x sets kept new → (c : CounterId)
    → drawn_in new c ≡ (if is_of_pool x c then drawn_in from c else drawn_in kept c)
unfolding drawn_in
seen_drawn x sets from kept new is put c =
    ap (λ (s : PoolCounters). drawn_kept (counter_in s c.set c.counter)) (put_in_pool x sets from kept new c is put)
    ∙ drawn_by (is_of_pool x c) (pool_in from c.driver c.pool) (pool_in kept c.driver c.pool) c

put_seen : (x : ResourceSlice) (sets : PoolCounters) (kept new : KeptCounters) → new ≡ with_pool x sets kept → Put x sets kept new
put_seen x sets kept new e = λ d p. ap (λ (k : KeptCounters). pool_in k d p) e ∙ pool_put x sets kept d p

pub put_value : (x : ResourceSlice) (sets : PoolCounters) (from kept new : KeptCounters) → sets ≡ pool_in from x.driver x.pool.name → new ≡ with_pool x sets kept → (c : CounterId)
    → value_of new c ≡ (if is_of_pool x c then value_of from c else value_of kept c)
put_value x sets from kept new is e = seen_value x sets from kept new is (put_seen x sets kept new e)

pub put_drawn : (x : ResourceSlice) (sets : PoolCounters) (from kept new : KeptCounters) → sets ≡ pool_in from x.driver x.pool.name → new ≡ with_pool x sets kept → (c : CounterId)
    → drawn_in new c ≡ (if is_of_pool x c then drawn_in from c else drawn_in kept c)
put_drawn x sets from kept new is e = seen_drawn x sets from kept new is (put_seen x sets kept new e)

-- ---- no counters of the pool

moved_pools : (b : Bool) (pool : List ℕ) (o : Option (Tabled PoolCounters))
    → or_empty (option_map (moved_if b (λ pools. changed_at pool (λ sets. []) pools)) o) ≡ (if b then changed_at pool (λ sets. []) (or_empty o) else or_empty o)
moved_pools true pool None = refl
moved_pools false pool None = refl
moved_pools true pool (Some t) = refl
moved_pools false pool (Some t) = refl

moved_sets : (b : Bool) (o : Option PoolCounters) → or_empty (option_map (moved_if b (λ sets. [])) o) ≡ (if b then [] else or_empty o)
moved_sets true None = refl
moved_sets false None = refl
moved_sets true (Some t) = refl
moved_sets false (Some t) = refl

emptied_step : (b : Bool) (pool q : List ℕ) (pools : Tabled PoolCounters)
    → or_empty (at_name (if b then changed_at pool (λ sets. []) pools else pools) q) ≡ (if b && text_eq pool q then [] else or_empty (at_name pools q))
emptied_step true pool q pools = ap or_empty (moved_name pool q (λ sets. []) pools) ∙ moved_sets (text_eq pool q) (at_name pools q)
emptied_step false pool q pools = refl

pool_emptied : (x : ResourceSlice) (kept new : KeptCounters) → new ≡ emptied x kept → Put x [] kept new
pool_emptied x kept new e = λ d p.
    ap (λ (k : KeptCounters). pool_in k d p) e
    ∙ ap (λ (o : Option (Tabled PoolCounters)). or_empty (at_name (or_empty o) p)) (moved_name x.driver d (λ pools. changed_at x.pool.name (λ sets. []) pools) kept)
    ∙ ap (λ (pools : Tabled PoolCounters). or_empty (at_name pools p)) (moved_pools (text_eq x.driver d) x.pool.name (at_name kept d))
    ∙ emptied_step (text_eq x.driver d) x.pool.name p (or_empty (at_name kept d))

pub emptied_value : (x : ResourceSlice) (from kept new : KeptCounters) → [] ≡ pool_in from x.driver x.pool.name → new ≡ emptied x kept → (c : CounterId)
    → value_of new c ≡ (if is_of_pool x c then value_of from c else value_of kept c)
emptied_value x from kept new is e = seen_value x [] from kept new is (pool_emptied x kept new e)

pub emptied_drawn : (x : ResourceSlice) (from kept new : KeptCounters) → [] ≡ pool_in from x.driver x.pool.name → new ≡ emptied x kept → (c : CounterId)
    → drawn_in new c ≡ (if is_of_pool x c then drawn_in from c else drawn_in kept c)
emptied_drawn x from kept new is e = seen_drawn x [] from kept new is (pool_emptied x kept new e)
