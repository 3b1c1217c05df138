-- The index of a pool among entries after an insertion, and at a place.
use Rattle.std.proofs.Common.{ℕ, zero, suc, ◌≡◌, ◌≤◌, ◌∙◌, List, [], ◌∷◌, ◌++◌, Bool, true, false, cond, ◌&&◌, Option, None, Some, refl, sym, ap, arith, eqb, eq-eqb}
use Rattle.std.specs.BTreeMap.{insert_entry}
use Rattle.std.specs.Cmp.Lexicographic.{same_text, texts_ties}
use Rattle.std.specs.List.{AllByRecursion, slice_get}
use Rattle.std.specs.List.Sorted.{IsStrictlySortedBy}
use Rattle.std.specs.Map.{keys_of}
use Rattle.std.specs.Option.{is_some, unwrap_or}
use Rattle.std.specs.Ordering.{is_eq, match_ordering, ordering_reverse, ordering_then}
use Rattle.std.specs.declared.cmp.Ordering.{Ordering}
use Rattle.std.specs.declared.cmp.Ordering.TheVariants.{Less, Equal, Greater}
use Rattle.std.proofs.lemmas.Bool.{eqb-true}
use Rattle.std.proofs.lemmas.Cmp.{nat_list_cmp_total}
use Rattle.pool_view.specs.declared.names.PoolName.{PoolName}
use Rattle.pool_view.specs.Names.{text_cmp, text_eq}
use Rattle.pool_view.specs.Usable.{pool_cmp}
use Rattle.shared_map.specs.Chunks.{IsEntry}
use Rattle.node_memo.specs.Dated.{AreKept, AreNumbered, AreUpTo, IsAbove, IsRaised, at, index_in, names, number_of}

-- ---- names

own_reverse : (o : Ordering) → o ≡ ordering_reverse o → o ≡ Equal
own_reverse Less e = absurd (cc)
own_reverse Equal e = refl
own_reverse Greater e = absurd (cc)

text_self : (t : List ℕ) → text_cmp t t ≡ Equal
text_self t = own_reverse (text_cmp t t) (nat_list_cmp_total.antisymm t t)

pub pool_self : (p : PoolName) → pool_cmp p p ≡ Equal
pool_self p = rw (text_self p.driver, text_self p.pool) refl

then_parts : (o p : Ordering) → is_eq (ordering_then o p) ≡ (is_eq o && is_eq p)
then_parts Less p = refl
then_parts Equal p = refl
then_parts Greater p = refl

-- names of one pool compare as equal, and no others
pub ties : (p q : PoolName) → names p q ≡ is_eq (pool_cmp p q)
ties p q =
    ap (λ (b : Bool). b && text_eq p.pool q.pool) (texts_ties p.driver q.driver)
    ∙ ap (λ (b : Bool). is_eq (text_cmp p.driver q.driver) && b) (texts_ties p.pool q.pool)
    ∙ sym (then_parts (text_cmp p.driver q.driver) (text_cmp p.pool q.pool))

both : (a b : Bool) → (a && b) ≡ true → (a ≡ true) × (b ≡ true)
both true true e = (refl, refl)
both true false e = absurd (cc)
both false b e = absurd (cc)

same_parts : (a b c d : List ℕ) → a ≡ c → b ≡ d → ◌≡◌ {A = PoolName} (record { driver = a; pool = b }) (record { driver = c; pool = d })
same_parts a b c d e f = cc

pub same_pool : (p q : PoolName) → names p q ≡ true → p ≡ q
same_pool p q e =
    let parts = both (text_eq p.driver q.driver) (text_eq p.pool q.pool) e in
    same_parts p.driver p.pool q.driver q.pool (same_text p.driver q.driver (sym parts.0)) (same_text p.pool q.pool (sym parts.1))

pub found : (p q : PoolName) → is_eq (pool_cmp p q) ≡ true → p ≡ q
found p q e = same_pool p q (ties p q ∙ e)

-- ---- what is at a pool

pick : (b c : Bool) (v w u : Option ℕ) → (b ≡ true → c ≡ true → ⊥) → cond b w (cond c v u) ≡ cond c v (cond b w u)
pick true true v w u h = absurd (h refl refl)
pick true false v w u h = refl
pick false true v w u h = refl
pick false false v w u h = refl

shadow : (b : Bool) (v w u : Option ℕ) → cond b v u ≡ cond b v (cond b w u)
shadow true v w u = refl
shadow false v w u = refl

apart_greater : (q k x : PoolName) → pool_cmp k x ≡ Greater → is_eq (pool_cmp q x) ≡ true → is_eq (pool_cmp q k) ≡ true → ⊥
apart_greater q k x e f g =
    let kx : k ≡ x = sym (found q k g) ∙ found q x f in
    let eq : pool_cmp k x ≡ Equal = ap (λ (j : PoolName). pool_cmp j x) kx ∙ pool_self x in
    absurd (cc)

equal_found : (k x : PoolName) → pool_cmp k x ≡ Equal → k ≡ x
equal_found k x e = found k x (ap is_eq e)

insert_by : (o : Ordering) (e : PoolName × ℕ) (es more : List (PoolName × ℕ)) (k q : PoolName) (v : ℕ) → pool_cmp k e.0 ≡ o → at q more ≡ cond (is_eq (pool_cmp q k)) (Some v) (at q es)
    → at q (match_ordering o ((k, v) ∷ e ∷ es) ((e.0, v) ∷ es) (e ∷ more)) ≡ cond (is_eq (pool_cmp q k)) (Some v) (at q (e ∷ es))
insert_by Less e es more k q v s h = refl
insert_by Equal e es more k q v s h =
    ap (λ (j : PoolName). cond (is_eq (pool_cmp q j)) (Some v) (at q es)) (sym (equal_found k e.0 s))
    ∙ shadow (is_eq (pool_cmp q k)) (Some v) (Some e.1) (at q es)
    ∙ ap (λ (j : PoolName). cond (is_eq (pool_cmp q k)) (Some v) (cond (is_eq (pool_cmp q j)) (Some e.1) (at q es))) (equal_found k e.0 s)
insert_by Greater e es more k q v s h =
    ap (λ (r : Option ℕ). cond (is_eq (pool_cmp q e.0)) (Some e.1) r) h
    ∙ pick (is_eq (pool_cmp q e.0)) (is_eq (pool_cmp q k)) (Some v) (Some e.1) (at q es) (apart_greater q k e.0 s)

at_insert : (es : List (PoolName × ℕ)) (k q : PoolName) (v : ℕ) → at q (insert_entry pool_cmp es k v) ≡ cond (is_eq (pool_cmp q k)) (Some v) (at q es)
at_insert [] k q v = refl
at_insert (e ∷ es) k q v = insert_by (pool_cmp k e.0) e es (insert_entry pool_cmp es k v) k q v refl (at_insert es k q v)

-- ---- as an index

room_by : (b : Bool) (o : Option ℕ) → (b ≡ true → o ≡ None) → unwrap_or (cond b (Some 0) o) 0 ≡ unwrap_or o 0
room_by true o none = rw (none refl) refl
room_by false o none = refl

none_there : (es : List (PoolName × ℕ)) (k q : PoolName) → at k es ≡ None → is_eq (pool_cmp q k) ≡ true → at q es ≡ None
none_there es k q none same = ap (λ (j : PoolName). at j es) (found q k same) ∙ none

-- an entry with 0 changes no index
room_made : (es : List (PoolName × ℕ)) (k q : PoolName) → at k es ≡ None → index_in (insert_entry pool_cmp es k 0) q ≡ index_in es q
room_made es k q none =
    ap (λ (o : Option ℕ). unwrap_or o 0) (at_insert es k q 0)
    ∙ room_by (is_eq (pool_cmp q k)) (at q es) (none_there es k q none)

unwrapped : (b : Bool) (o : Option ℕ) (v : ℕ) → unwrap_or (cond b (Some v) o) 0 ≡ cond b v (unwrap_or o 0)
unwrapped true o v = refl
unwrapped false o v = refl

-- the index that was put is the pool's, and the others stay
put : (es : List (PoolName × ℕ)) (k q : PoolName) (v : ℕ) → index_in (insert_entry pool_cmp es k v) q ≡ cond (names q k) v (index_in es q)
put es k q v =
    ap (λ (o : Option ℕ). unwrap_or o 0) (at_insert es k q v)
    ∙ unwrapped (is_eq (pool_cmp q k)) (at q es) v
    ∙ ap (λ (b : Bool). cond b v (index_in es q)) (sym (ties q k))

none_by : (o : Option ℕ) (b : Bool) → b ≡ is_some o → b ≡ false → o ≡ None
none_by None b e f = refl
none_by (Some n) b e f = absurd (cc)

up_by : (b : Bool) (v n latest most : ℕ) → v ≤ most → latest ≤ most → n ≤ latest → cond b v n ≤ most
up_by true v n latest most h i j = h
up_by false v n latest most h i j = omega (arith, i, j)

-- ---- as the code has it: `name` is a copy of the pool's name

-- there was no entry, and now there is one with 0
pub room_same : (es new : List (PoolName × ℕ)) (k name p : PoolName) (b : Bool) → b ≡ is_some (at name es) → b ≡ false → name ≡ k → new ≡ insert_entry pool_cmp es name 0 → index_in new p ≡ index_in es p
room_same es new k name p b has none is e = ap (λ (t : List (PoolName × ℕ)). index_in t p) e ∙ room_made es name p (none_by (at name es) b has none)

up_to_same : (old new : List (PoolName × ℕ)) (latest : ℕ) → AreUpTo old latest → ((p : PoolName) → index_in new p ≡ index_in old p) → AreUpTo new latest
up_to_same old new latest up same = record { each = λ p. let is = same p in let before = up.each p in omega (arith, is, before) }

pub index_put : (es new : List (PoolName × ℕ)) (k name p : PoolName) (v : ℕ) → name ≡ k → new ≡ insert_entry pool_cmp es name v → index_in new p ≡ cond (names p k) v (index_in es p)
index_put es new k name p v is e = ap (λ (t : List (PoolName × ℕ)). index_in t p) e ∙ put es name p v ∙ ap (λ (n : PoolName). cond (names p n) v (index_in es p)) is

up_to_put : (es new : List (PoolName × ℕ)) (k name : PoolName) (v latest most : ℕ) → name ≡ k → new ≡ insert_entry pool_cmp es name v → v ≤ most → latest ≤ most → AreUpTo es latest → AreUpTo new most
up_to_put es new k name v latest most is e h i up =
    record { each = λ p. let same = index_put es new k name p v is e in let bound = up_by (names p k) v (index_in es p) latest most h i (up.each p) in rw same bound }

-- ---- by numbers

other_by : (p k : PoolName) (number v n most : ℕ) (b : Bool) → number ≡ number_of k → (number_of p ≡ number → ⊥) → names p k ≡ b → n ≤ most → cond b v n ≤ most
other_by p k number v n most true is apart e h = absurd (apart (ap number_of (same_pool p k e) ∙ sym is))
other_by p k number v n most false is apart e h = h

here_by : (es : List (PoolName × ℕ)) (p k : PoolName) (old : List ℕ) (number v most : ℕ) → number_of p ≡ number → IsAbove old number v most → AreNumbered es old → cond (names p k) v (index_in es p) ≤ most
here_by es p k old number v most is above kept =
    up_by (names p k) v (index_in es p) above.before most above.index_within above.rises
    (kept.each p above.before (ap (λ (i : ℕ). slice_get old i) is ∙ above.there))

each_by : (es : List (PoolName × ℕ)) (p k : PoolName) (old now : List ℕ) (number v most : ℕ) (b : Bool) → eqb (number_of p) number ≡ b → number ≡ number_of k → IsRaised old number v now → AreNumbered es old
    → slice_get now (number_of p) ≡ Some most → cond (names p k) v (index_in es p) ≤ most
each_by es p k old now number v most true e is raised kept at =
    let f : number_of p ≡ number = eqb-true (number_of p) number e in
    here_by es p k old number v most f (raised.here most (ap (λ (i : ℕ). slice_get now i) (sym f) ∙ at)) kept
each_by es p k old now number v most false e is raised kept at =
    let apart : number_of p ≡ number → ⊥ = λ f. let g = eq-eqb (number_of p) number f in absurd (cc) in
    other_by p k number v (index_in es p) most (names p k) is apart refl (kept.each p most (raised.others (number_of p) most apart at))

-- what was put at a pool, where there is at least that at its number
numbered_put : (es new : List (PoolName × ℕ)) (k : PoolName) (number v : ℕ) (old now : List ℕ) → ((p : PoolName) → index_in new p ≡ cond (names p k) v (index_in es p)) → number ≡ number_of k → IsRaised old number v now
    → AreNumbered es old → AreNumbered new now
numbered_put es new k number v old now is n raised kept =
    record { each = λ p most at. let e = is p in let bound = each_by es p k old now number v most (eqb (number_of p) number) refl n raised kept at in rw e bound }

numbered_same : (old new : List (PoolName × ℕ)) (numbered : List ℕ) → AreNumbered old numbered → ((p : PoolName) → index_in new p ≡ index_in old p) → AreNumbered new numbered
numbered_same old new numbered kept same = record { each = λ p most at. let is = same p in let before = kept.each p most at in omega (arith, is, before) }

pub kept_same : (old new : List (PoolName × ℕ)) (latest : ℕ) (numbered : List ℕ) → AreKept old latest numbered → ((p : PoolName) → index_in new p ≡ index_in old p) → AreKept new latest numbered
kept_same old new latest numbered kept same = record { up_to = up_to_same old new latest kept.up_to same; by_number = numbered_same old new numbered kept.by_number same }

pub kept_put : (es new : List (PoolName × ℕ)) (k name : PoolName) (number v latest most : ℕ) (old now : List ℕ) → name ≡ k → new ≡ insert_entry pool_cmp es name v → v ≤ most → latest ≤ most → number ≡ number_of k → IsRaised old number v now
    → AreKept es latest old → AreKept new most now
kept_put es new k name number v latest most old now is e h i n raised kept = record {
  up_to = up_to_put es new k name v latest most is e h i kept.up_to;
  by_number = numbered_put es new k number v old now (λ p. index_put es new k name p v is e) n raised kept.by_number;
}

-- ---- at a place

less_apart : (h x : PoolName) → pool_cmp h x ≡ Less → is_eq (pool_cmp x h) ≡ true → ⊥
less_apart h x less same =
    let e : pool_cmp h x ≡ Equal = ap (λ (j : PoolName). pool_cmp h j) (found x h same) ∙ pool_self h in
    absurd (cc)

skip : (b : Bool) (v o : Option ℕ) → (b ≡ true → ⊥) → cond b v o ≡ o
skip true v o h = absurd (h refl)
skip false v o h = refl

above : (h : PoolName) (es : List (PoolName × ℕ)) (i : ℕ) (x : PoolName × ℕ) → AllByRecursion (λ y. pool_cmp h y ≡ Less) (keys_of es) → slice_get es i ≡ Some x → pool_cmp h x.0 ≡ Less
above h [] i x all there = absurd (cc)
above h (e ∷ es) zero x all there = let is : e ≡ x = cc in ap (λ (y : PoolName × ℕ). pool_cmp h y.0) (sym is) ∙ all.0
above h (e ∷ es) (suc i) x all there = above h es i x all.1 there

-- an entry of a list in the order of its names is what is found by its name
at_index : (es : List (PoolName × ℕ)) (i : ℕ) (x : PoolName × ℕ) → IsStrictlySortedBy pool_cmp (keys_of es) → slice_get es i ≡ Some x → at x.0 es ≡ Some x.1
unfolding IsStrictlySortedBy
at_index [] i x sorted there = absurd (cc)
at_index (e ∷ es) zero x sorted there =
    let is : e ≡ x = cc in
    ap (λ (y : PoolName × ℕ). at y.0 (e ∷ es)) (sym is) ∙ ap (λ (o : Ordering). cond (is_eq o) (Some e.1) (at e.0 es)) (pool_self e.0) ∙ ap (λ (y : PoolName × ℕ). Some y.1) is
at_index (e ∷ es) (suc i) x sorted there =
    skip (is_eq (pool_cmp x.0 e.0)) (Some e.1) (at x.0 es) (less_apart e.0 x.0 (above e.0 es i x sorted.0 there)) ∙ at_index es i x sorted.1 there

pub at_entry : (freed : List (PoolName × ℕ)) (name k : PoolName) (index : ℕ) → IsStrictlySortedBy pool_cmp (keys_of freed) → IsEntry freed name index → names name k ≡ true → at k freed ≡ Some index
at_entry freed name k index sorted is same = ap (λ (j : PoolName). at j freed) (sym (same_pool name k same)) ∙ at_index freed is.index (name, index) sorted is.there
