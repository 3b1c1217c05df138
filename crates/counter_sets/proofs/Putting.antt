-- What a table has at a name after a value was put at a name.
use Rattle.std.proofs.Common.{◌≡◌, ℕ, List, [], ◌∷◌, Bool, true, false, Option, None, Some, refl, sym, ap, ◌∙◌, if◌then◌else◌}
use Rattle.std.specs.BTreeMap.{insert_entry, is_at}
use Rattle.std.specs.Cmp.Lexicographic.{same_text, texts_ties}
use Rattle.std.specs.Map.{remove_entry}
use Rattle.std.specs.Option.{is_some, option_map}
use Rattle.std.specs.Ordering.{is_eq, match_ordering}
use Rattle.std.specs.declared.cmp.Ordering.{Ordering}
use Rattle.std.specs.declared.cmp.Ordering.TheVariants.{Less, Equal, Greater}
use Rattle.std.proofs.lemmas.Cmp.{nat_list_eq_equiv}
use Rattle.pool_view.specs.Names.{at_name, text_cmp, text_eq}
use Rattle.counter_sets.specs.Totals.{Tabled, changed_at, or_empty, put_in}
use Rattle.counter_sets.proofs.Names.{moved_if, moved_name}

-- whether a name is at another, by their equality
pub at_is : (k name : List ℕ) → is_at (text_cmp k) name ≡ text_eq name k
at_is k name = sym (texts_ties k name) ∙ nat_list_eq_equiv.symm k name

abbrev pub found : {V : Type 0} → Bool → V → Option V → Option V
found b v o = if b then Some v else o

pub at_head : {V : Type 0} (e : List ℕ × V) (es : List (List ℕ × V)) (k : List ℕ) → at_name (e ∷ es) k ≡ found (text_eq e.0 k) e.1 (at_name es k)
at_head e es k = ap (λ (b : Bool). found b e.1 (at_name es k)) (at_is k e.0)

-- ---- a name more

same_found : {V : Type 0} (b c : Bool) (v x : V) (o : Option V) → b ≡ c → found b v o ≡ found c v (found b x o)
same_found true true v x o e = refl
same_found false false v x o e = refl
same_found true false v x o e = absurd (cc)
same_found false true v x o e = absurd (cc)

other_found : {V : Type 0} (b c : Bool) (v x : V) (o : Option V) → (b ≡ true → c ≡ true → ⊥) → found b x (found c v o) ≡ found c v (found b x o)
other_found true true v x o no_both = absurd (no_both refl refl)
other_found true false v x o no_both = refl
other_found false true v x o no_both = refl
other_found false false v x o no_both = refl

not_both : (n m k : List ℕ) → text_cmp n m ≡ Greater → text_eq m k ≡ true → text_eq n k ≡ true → ⊥
not_both n m k greater e f =
    let same : n ≡ m = same_text n k (sym f) ∙ sym (same_text m k (sym e)) in
    let equal : text_eq n m ≡ true = ap (λ (t : List ℕ). text_eq t m) same ∙ nat_list_eq_equiv.refl m in
    let other : text_eq n m ≡ false = texts_ties n m ∙ ap is_eq greater in
    cc

insert_by : {V : Type 0} (o : Ordering) (n k : List ℕ) (v : V) (e : List ℕ × V) (es : List (List ℕ × V)) → text_cmp n e.0 ≡ o
    → at_name (insert_entry text_cmp es n v) k ≡ found (text_eq n k) v (at_name es k)
    → at_name (match_ordering o ((n, v) ∷ e ∷ es) ((e.0, v) ∷ es) (e ∷ insert_entry text_cmp es n v)) k ≡ found (text_eq n k) v (at_name (e ∷ es) k)
insert_by Less n k v e es is h = at_head (n, v) (e ∷ es) k
insert_by Equal n k v e es is h =
    at_head (e.0, v) es k
    ∙ same_found (text_eq e.0 k) (text_eq n k) v e.1 (at_name es k) (ap (λ (t : List ℕ). text_eq t k) (sym (same_text n e.0 (sym (texts_ties n e.0 ∙ ap is_eq is)))))
    ∙ sym (ap (found (text_eq n k) v) (at_head e es k))
insert_by Greater n k v e es is h =
    at_head e (insert_entry text_cmp es n v) k
    ∙ ap (found (text_eq e.0 k) e.1) h
    ∙ other_found (text_eq e.0 k) (text_eq n k) v e.1 (at_name es k) (not_both n e.0 k is)
    ∙ sym (ap (found (text_eq n k) v) (at_head e es k))

-- the value at a name after an insertion
pub insert_at : {V : Type 0} (n k : List ℕ) (v : V) (es : List (List ℕ × V)) → at_name (insert_entry text_cmp es n v) k ≡ found (text_eq n k) v (at_name es k)
insert_at n k v [] = at_head (n, v) [] k
insert_at n k v (e ∷ es) = insert_by (text_cmp n e.0) n k v e es refl (insert_at n k v es)

-- ---- a value that is put only where there is none

abbrev pub or_else : {V : Type 0} → Option V → Option V → Option V
or_else None o = o
or_else (Some x) o = Some x

pub or_none : {V : Type 0} (o : Option V) → o ≡ or_else o None
or_none None = refl
or_none (Some x) = refl

there_already : {V : Type 0} (o p : Option V) → is_some o ≡ true → o ≡ or_else o p
there_already None p e = absurd (cc)
there_already (Some x) p e = refl

not_there : {V : Type 0} (o : Option V) (z : V) → is_some o ≡ false → Some z ≡ or_else o (Some z)
not_there None z e = refl
not_there (Some x) z e = absurd (cc)

with_there : {V : Type 0} (t : Bool) (z : V) (o : Option V) → (t ≡ true → is_some o ≡ true) → o ≡ or_else o (found t z None)
with_there true z o h = there_already o (Some z) (h refl)
with_there false z o h = or_none o

with_new : {V : Type 0} (t : Bool) (z : V) (o : Option V) → (t ≡ true → is_some o ≡ false) → found t z o ≡ or_else o (found t z None)
with_new true z o h = not_there o z (h refl)
with_new false z o h = or_none o

pub named_same : {V : Type 0} (sets : List (List ℕ × V)) (name set : List ℕ) (b : Bool) → is_some (at_name sets name) ≡ b → text_eq name set ≡ true → is_some (at_name sets set) ≡ b
named_same sets name set b e t = ap (λ (n : List ℕ). is_some (at_name sets n)) (sym (same_text name set (sym t))) ∙ e

pub added_at : {V : Type 0} (b : Bool) (n k : List ℕ) (v : V) (table : List (List ℕ × V)) → is_some (at_name table n) ≡ b
    → at_name (if b then table else insert_entry text_cmp table n v) k ≡ or_else (at_name table k) (found (text_eq n k) v None)
added_at true n k v table e = with_there (text_eq n k) v (at_name table k) (named_same table n k true e)
added_at false n k v table e = insert_at n k v table ∙ with_new (text_eq n k) v (at_name table k) (named_same table n k false e)

-- ---- a table that is changed, or put where there is none

there_step : {V : Type 0} (b : Bool) (f : List (List ℕ × V) → List (List ℕ × V)) (o : Option (List (List ℕ × V))) → (b ≡ true → is_some o ≡ true)
    → option_map (moved_if b f) o ≡ found b (f (or_empty o)) o
there_step true f None h = absurd (let e = h refl in cc)
there_step true f (Some t) h = refl
there_step false f None h = refl
there_step false f (Some t) h = refl

new_step : {V : Type 0} (b : Bool) (f : List (List ℕ × V) → List (List ℕ × V)) (o : Option (List (List ℕ × V))) → (b ≡ true → is_some o ≡ false)
    → found b (f []) o ≡ found b (f (or_empty o)) o
new_step true f None h = refl
new_step true f (Some t) h = absurd (let e = h refl in cc)
new_step false f o h = refl

put_by : {V : Type 0} (b : Bool) (n k : List ℕ) (f : List (List ℕ × V) → List (List ℕ × V)) (table : Tabled (List (List ℕ × V))) → is_some (at_name table n) ≡ b
    → at_name (if b then changed_at n f table else insert_entry text_cmp table n (f [])) k ≡ found (text_eq n k) (f (or_empty (at_name table k))) (at_name table k)
put_by true n k f table e = moved_name n k f table ∙ there_step (text_eq n k) f (at_name table k) (named_same table n k true e)
put_by false n k f table e = insert_at n k (f []) table ∙ new_step (text_eq n k) f (at_name table k) (named_same table n k false e)

or_found : {V : Type 0} (b : Bool) (v : List V) (o : Option (List V)) → or_empty (found b v o) ≡ (if b then v else or_empty o)
or_found true v o = refl
or_found false v o = refl

-- the table at a name, after one was put there
pub put_name : {V : Type 0} (n k : List ℕ) (f : List (List ℕ × V) → List (List ℕ × V)) (table : Tabled (List (List ℕ × V))) → at_name (put_in n f table) k ≡ found (text_eq n k) (f (or_empty (at_name table k))) (at_name table k)
put_name n k f table = put_by (is_some (at_name table n)) n k f table refl

pub put_at : {V : Type 0} (n k : List ℕ) (f : List (List ℕ × V) → List (List ℕ × V)) (table : Tabled (List (List ℕ × V)))
    → or_empty (at_name (put_in n f table) k) ≡ (if text_eq n k then f (or_empty (at_name table k)) else or_empty (at_name table k))
put_at n k f table =
    ap or_empty (put_by (is_some (at_name table n)) n k f table refl) ∙ or_found (text_eq n k) (f (or_empty (at_name table k))) (at_name table k)

-- ---- without a name that wasn't there

cmp_at : (n x : List ℕ) (r : Ordering) → text_cmp n x ≡ r → is_at (text_cmp n) x ≡ is_eq r
cmp_at n x r e = ap is_eq e

at_self : (n : List ℕ) → is_at (text_cmp n) n ≡ true
at_self n = at_is n n ∙ nat_list_eq_equiv.refl n

some_head : {V : Type 0} (b : Bool) (v : V) (o : Option V) → is_some (found b v o) ≡ false → b ≡ false
some_head true v o e = absurd (cc)
some_head false v o e = refl

some_tail : {V : Type 0} (b : Bool) (v : V) (o : Option V) → is_some (found b v o) ≡ false → is_some o ≡ false
some_tail true v o e = absurd (cc)
some_tail false v o e = e

removed_by : {V : Type 0} (b : Bool) (n : List ℕ) (e : List ℕ × V) (es : List (List ℕ × V)) → b ≡ false → remove_entry (is_at (text_cmp n)) es ≡ es
    → (if b then es else e ∷ remove_entry (is_at (text_cmp n)) es) ≡ e ∷ es
removed_by true n e es out h = absurd (cc)
removed_by false n e es out h = ap (λ rest. e ∷ rest) h

pub none_removed : {V : Type 0} (n : List ℕ) (es : List (List ℕ × V)) → is_some (at_name es n) ≡ false → remove_entry (is_at (text_cmp n)) es ≡ es
none_removed n [] out = refl
none_removed n (e ∷ es) out =
    removed_by (is_at (text_cmp n) e.0) n e es (some_head (is_at (text_cmp n) e.0) e.1 (at_name es n) out) (none_removed n es (some_tail (is_at (text_cmp n) e.0) e.1 (at_name es n) out))

new_removed_by : {V : Type 0} (o : Ordering) (n : List ℕ) (v : V) (e : List ℕ × V) (es : List (List ℕ × V)) → text_cmp n e.0 ≡ o → is_at (text_cmp n) e.0 ≡ false
    → remove_entry (is_at (text_cmp n)) (insert_entry text_cmp es n v) ≡ es
    → remove_entry (is_at (text_cmp n)) (match_ordering o ((n, v) ∷ e ∷ es) ((e.0, v) ∷ es) (e ∷ insert_entry text_cmp es n v)) ≡ e ∷ es
new_removed_by Less n v e es is out h = ap (λ (b : Bool). if b then e ∷ es else (n, v) ∷ remove_entry (is_at (text_cmp n)) (e ∷ es)) (at_self n)
new_removed_by Equal n v e es is out h = absurd (let wrong = sym (cmp_at n e.0 Equal is) ∙ out in cc)
new_removed_by Greater n v e es is out h =
    ap (λ (b : Bool). if b then insert_entry text_cmp es n v else e ∷ remove_entry (is_at (text_cmp n)) (insert_entry text_cmp es n v)) out ∙ ap (λ rest. e ∷ rest) h

pub new_removed : {V : Type 0} (n : List ℕ) (v : V) (es : List (List ℕ × V)) → is_some (at_name es n) ≡ false → remove_entry (is_at (text_cmp n)) (insert_entry text_cmp es n v) ≡ es
new_removed n v [] out = ap (λ (b : Bool). if b then [] else (n, v) ∷ []) (at_self n)
new_removed n v (e ∷ es) out =
    new_removed_by (text_cmp n e.0) n v e es refl (some_head (is_at (text_cmp n) e.0) e.1 (at_name es n) out) (new_removed n v es (some_tail (is_at (text_cmp n) e.0) e.1 (at_name es n) out))
