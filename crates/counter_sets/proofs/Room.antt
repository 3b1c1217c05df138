-- Sets that are added without counters, and taken back if memory runs out.
use Rattle.std.proofs.Common.{◌≡◌, ℕ, List, [], ◌∷◌, ◌++◌, false, length, refl, sym, ap, ◌∙◌, arith}
use Rattle.std.specs.Prelude.{Option, Some, Result, Ok, Err, OnOk, OnErr, option_to_list}
use Rattle.std.specs.BTreeMap.{insert_entry, is_at}
use Rattle.std.specs.Map.{remove_entry}
use Rattle.std.specs.Option.{is_some}
use Rattle.pool_view.specs.Names.{at_name, text_cmp}
use Rattle.counter_sets.specs.Totals.{PoolCounters, SetCounters, changed_at, with_grown, without_sets}
use Rattle.counter_sets.specs.declared.added.GrownSet.{GrownSet}
use Rattle.counter_sets.proofs.Putting.{new_removed, none_removed}

pub without_last : (ns : List (List ℕ)) (n : List ℕ) (sets : PoolCounters) → without_sets (ns ++ n ∷ []) sets ≡ without_sets ns (remove_entry (is_at (text_cmp n)) sets)
without_last [] n sets = refl
without_last (m ∷ ms) n sets = ap (remove_entry (is_at (text_cmp m))) (without_last ms n sets)

-- without a set that wasn't there
pub back_absent : (ns : List (List ℕ)) (n : List ℕ) (sets : PoolCounters) → is_some (at_name sets n) ≡ false → without_sets (ns ++ n ∷ []) sets ≡ without_sets ns sets
back_absent ns n sets out = without_last ns n sets ∙ ap (without_sets ns) (none_removed n sets out)

-- without a set that was added
pub back_added : (ns : List (List ℕ)) (n : List ℕ) (sets : PoolCounters) → is_some (at_name sets n) ≡ false → without_sets (ns ++ n ∷ []) (insert_entry text_cmp sets n []) ≡ without_sets ns sets
back_added ns n sets out = without_last ns n (insert_entry text_cmp sets n []) ∙ ap (without_sets ns) (new_removed n [] sets out)

pub back_after : {E : Type 0} (r : Result Unit E) (ns more : List (List ℕ)) (n a k : List ℕ) (sets new : PoolCounters) (v : SetCounters) → a ≡ n → k ≡ n → v ≡ [] → more ≡ ns ++ a ∷ [] → is_some (at_name sets n) ≡ false
    → OnOk r (new ≡ insert_entry text_cmp sets k v) → OnErr r (new ≡ sets) → without_sets more new ≡ without_sets ns sets
back_after (Ok x) ns more n a k sets new v f g none h out ok err =
    ap (λ t. without_sets t new) (h ∙ ap (λ m. ns ++ m ∷ []) f) ∙ ap (without_sets (ns ++ n ∷ [])) (ok ∙ ap (λ w. insert_entry text_cmp sets k w) none ∙ ap (λ m. insert_entry text_cmp sets m []) g) ∙ back_added ns n sets out
back_after (Err x) ns more n a k sets new v f g none h out ok err =
    ap (λ t. without_sets t new) (h ∙ ap (λ m. ns ++ m ∷ []) f) ∙ ap (without_sets (ns ++ n ∷ [])) err ∙ back_absent ns n sets out

pub grown_last : (gs : List GrownSet) (g : GrownSet) (sets : PoolCounters) → with_grown (gs ++ g ∷ []) sets ≡ with_grown gs (changed_at g.name (λ counters. g.counters) sets)
grown_last [] g sets = refl
grown_last (h ∷ hs) g sets = ap (changed_at h.name (λ counters. h.counters)) (grown_last hs g sets)

-- ---- from the last to the first

pub popped : (before after : List (List ℕ)) (r : Option (List ℕ)) (n : List ℕ) (sets less all : PoolCounters) → before ≡ after ++ option_to_list r → r ≡ Some n → less ≡ remove_entry (is_at (text_cmp n)) sets → without_sets before sets ≡ all
    → without_sets after less ≡ all
popped before after r n sets less all e is f h =
    ap (without_sets after) f ∙ sym (without_last after n sets) ∙ sym (ap (λ ns. without_sets ns sets) (e ∙ ap (λ o. after ++ option_to_list o) is)) ∙ h

pub none_popped : (before : List (List ℕ)) (sets all : PoolCounters) → length before ≡ 0 → without_sets before sets ≡ all → sets ≡ all
none_popped [] sets all e h = h
none_popped (n ∷ ns) sets all e h = absurd (omega (arith, e))

pub grown_popped : (before after : List GrownSet) (r : Option GrownSet) (g : GrownSet) (sets more all : PoolCounters) → before ≡ after ++ option_to_list r → r ≡ Some g → more ≡ changed_at g.name (λ counters. g.counters) sets → with_grown before sets ≡ all
    → with_grown after more ≡ all
grown_popped before after r g sets more all e is f h =
    ap (with_grown after) f ∙ sym (grown_last after g sets) ∙ sym (ap (λ gs. with_grown gs sets) (e ∙ ap (λ o. after ++ option_to_list o) is)) ∙ h

pub none_grown : (before : List GrownSet) (sets all : PoolCounters) → length before ≡ 0 → with_grown before sets ≡ all → sets ≡ all
none_grown [] sets all e h = h
none_grown (g ∷ gs) sets all e h = absurd (omega (arith, e))
