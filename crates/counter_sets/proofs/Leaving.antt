-- Who holds a device after one was removed.
use Rattle.std.proofs.Common.{◌≡◌, ℕ, List, [], ◌∷◌, Bool, true, false, ◌&&◌, Option, None, Some, refl, sym, ap, ◌∙◌, if◌then◌else◌, cond}
use Rattle.std.specs.BTreeMap.{is_at}
use Rattle.std.specs.List.{AllByRecursion}
use Rattle.std.specs.List.Sorted.{IsStrictlySortedBy}
use Rattle.std.specs.Map.{keys_of, remove_entry, set_value}
use Rattle.std.specs.Result.{OnOk}
use Rattle.std.specs.Option.{option_map}
use Rattle.std.specs.Ordering.{is_eq}
use Rattle.std.specs.declared.cmp.Ordering.TheVariants.{Less}
use Rattle.std.specs.declared.result.Result.{Result}
use Rattle.std.specs.declared.result.Result.TheVariants.{Ok, Err}
use Rattle.std.proofs.lemmas.Cmp.{nat_list_eq_equiv}
use Rattle.std.proofs.lemmas.Iterator.Adapters.{option_map_id}
use Rattle.object_fields.specs.declared.key.DeviceId.{DeviceId}
use Rattle.object_fields.specs.declared.key.Key.{Key}
use Rattle.pool_view.specs.Names.{at_name, device_eq, text_cmp, text_eq}
use Rattle.counter_sets.specs.Holding.{Holders, holder_in, left_device, left_driver, left_pool}
use Rattle.counter_sets.specs.Totals.{Tabled, or_empty}
use Rattle.counter_sets.proofs.Names.{moved_if, moved_name, same_from_at, set_at}
use Rattle.counter_sets.proofs.Pairs.{same_from_device_eq}
use Rattle.counter_sets.proofs.Putting.{at_is}

-- ---- nothing is left at the name

none_above : {V : Type 0} (n : List ℕ) (es : List (List ℕ × V)) → AllByRecursion (λ y. text_cmp n y ≡ Less) (keys_of es) → at_name es n ≡ None
none_above n [] above = refl
none_above n (e ∷ es) above = ap (λ o. cond (is_eq o) (Some e.1) (at_name es n)) above.0 ∙ none_above n es above.1

gone_by : {V : Type 0} (b : Bool) (n : List ℕ) (e : List ℕ × V) (es less : List (List ℕ × V)) → is_at (text_cmp n) e.0 ≡ b → AllByRecursion (λ y. text_cmp e.0 y ≡ Less) (keys_of es) → at_name less n ≡ None
    → at_name (cond b es (e ∷ less)) n ≡ None
gone_by true n e es less is above rest = ap (at_name es) (same_from_at n e.0 is) ∙ none_above e.0 es above
gone_by false n e es less is above rest = ap (λ t. cond t (Some e.1) (at_name less n)) is ∙ rest

pub gone : {V : Type 0} (n : List ℕ) (es : List (List ℕ × V)) → IsStrictlySortedBy text_cmp (keys_of es) → at_name (remove_entry (is_at (text_cmp n)) es) n ≡ None
unfolding IsStrictlySortedBy
gone n [] sorted = refl
gone n (e ∷ es) sorted = gone_by (is_at (text_cmp n) e.0) n e es (remove_entry (is_at (text_cmp n)) es) refl sorted.0 (gone n es sorted.1)

-- the table that was put at a name
pub set_seen : {V : Type 0} (n : List ℕ) (table : Tabled (List (List ℕ × V))) (v w : List (List ℕ × V)) → Some v ≡ at_name table n → or_empty (at_name (set_value (is_at (text_cmp n)) table w) n) ≡ w
set_seen n table v w there =
    ap or_empty (set_at n n table v w (sym there) ∙ ap (λ b. cond b (Some w) (at_name table n)) (at_is n n ∙ nat_list_eq_equiv.refl n))

-- ---- the others stay

other_by : {V : Type 0} (b : Bool) (n k : List ℕ) (e : List ℕ × V) (es less : List (List ℕ × V)) → is_at (text_cmp n) e.0 ≡ b → text_eq n k ≡ false → at_name less k ≡ at_name es k
    → at_name (cond b es (e ∷ less)) k ≡ at_name (e ∷ es) k
other_by true n k e es less is other rest =
    sym (ap (λ t. cond t (Some e.1) (at_name es k)) (at_is k e.0 ∙ ap (λ m. text_eq m k) (sym (same_from_at n e.0 is)) ∙ other))
other_by false n k e es less is other rest = ap (λ o. cond (is_at (text_cmp k) e.0) (Some e.1) o) rest

other_stays : {V : Type 0} (n k : List ℕ) (es : List (List ℕ × V)) → text_eq n k ≡ false → at_name (remove_entry (is_at (text_cmp n)) es) k ≡ at_name es k
other_stays n k [] other = refl
other_stays n k (e ∷ es) other = other_by (is_at (text_cmp n) e.0) n k e es (remove_entry (is_at (text_cmp n)) es) refl other (other_stays n k es other)

-- what is seen of a table in which the one at a name changed, or another did
stays_by : {V : Type 0} (b c : Bool) (f : List (List ℕ × V) → List (List ℕ × V)) (look : List (List ℕ × V) → Option Key) (o : Option (List (List ℕ × V)))
    → ((t : List (List ℕ × V)) → c ≡ false → look (f t) ≡ look t) → (b && c) ≡ false → look (or_empty (option_map (moved_if b f) o)) ≡ look (or_empty o)
stays_by true c f look None h other = refl
stays_by true c f look (Some t) h other = h t other
stays_by false c f look o h other = ap (λ p. look (or_empty p)) (option_map_id o)

pool_stays : (id q : DeviceId) (pools : Tabled (Tabled Key)) → (text_eq id.pool q.pool && text_eq id.device q.device) ≡ false
    → at_name (or_empty (at_name (left_pool id pools) q.pool)) q.device ≡ at_name (or_empty (at_name pools q.pool)) q.device
pool_stays id q pools other =
    ap (λ o. at_name (or_empty o) q.device) (moved_name id.pool q.pool (left_device id.device) pools)
    ∙ stays_by (text_eq id.pool q.pool) (text_eq id.device q.device) (left_device id.device) (λ t. at_name t q.device) (at_name pools q.pool) (λ t e. other_stays id.device q.device t e) other

other_holder : (id q : DeviceId) (h : Holders) → device_eq id q ≡ false → holder_in (left_driver id h) q ≡ holder_in h q
unfolding holder_in left_driver
other_holder id q h other =
    ap (λ o. at_name (or_empty (at_name (or_empty o) q.pool)) q.device) (moved_name id.driver q.driver (left_pool id) h)
    ∙ stays_by (text_eq id.driver q.driver) (text_eq id.pool q.pool && text_eq id.device q.device) (left_pool id) (λ t. at_name (or_empty (at_name t q.pool)) q.device) (at_name h q.driver)
    (λ t e. pool_stays id q t e) other

holder_by : (b : Bool) (id q : DeviceId) (old new : Holders) → new ≡ left_driver id old → holder_in new id ≡ None → device_eq id q ≡ b → holder_in new q ≡ (if b then None else holder_in old q)
holder_by true id q old new e none is = ap (holder_in new) (sym (same_from_device_eq id q is)) ∙ none
holder_by false id q old new e none is = ap (λ h. holder_in h q) e ∙ other_holder id q old is

pub holder_left : (id : DeviceId) (old new : Holders) → new ≡ left_driver id old → holder_in new id ≡ None → (q : DeviceId) → holder_in new q ≡ (if device_eq id q then None else holder_in old q)
holder_left id old new e none q = holder_by (device_eq id q) id q old new e none refl

-- the same, where memory may have run out
pub holder_left_if : {T E : Type 0} (r : Result T E) (id : DeviceId) (old new : Holders) → OnOk r (new ≡ left_driver id old) → OnOk r (holder_in new id ≡ None)
    → OnOk r ((q : DeviceId) → holder_in new q ≡ (if device_eq id q then None else holder_in old q))
holder_left_if (Ok x) id old new e none = holder_left id old new e none
holder_left_if (Err x) id old new e none = tt
