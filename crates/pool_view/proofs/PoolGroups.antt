-- The groups of slices by their pools, and what is made of them.
use Rattle.std.proofs.Common.{ℕ, ◌≡◌, ◌∙◌, List, [], ◌∷◌, ◌++◌, Bool, true, cond, refl, sym, ap}
use Rattle.std.specs.Prelude.{filter, ◌&&◌, Result, Ok, Err, IfOk}
use Rattle.std.specs.List.{flat_map}
use Rattle.std.specs.Cmp.Lexicographic.{same_text, texts_ties, nat_list_eq_equiv}
use Rattle.std.specs.Ordering.{is_eq, ordering_then}
use Rattle.std.specs.declared.cmp.Ordering.{Ordering}
use Rattle.std.specs.declared.cmp.Ordering.TheVariants.{Less, Equal, Greater}
use Rattle.api_slice.specs.declared.types.ResourceSlice.{ResourceSlice}
use Rattle.pool_view.specs.declared.inventory.Inventory.{Inventory}
use Rattle.pool_view.specs.declared.names.PoolName.{PoolName}
use Rattle.pool_view.specs.declared.sorting.Sorted.{Sorted}
use Rattle.pool_view.specs.declared.stored.Stored.{Stored}
use Rattle.pool_view.specs.Groups.{added, group_at, grouped, objects}
use Rattle.pool_view.specs.Inventory.{Named}
use Rattle.pool_view.specs.Names.{text_cmp, text_eq}
use Rattle.pool_view.specs.Pools.{newest, pool_of, slices_of}
use Rattle.pool_view.specs.Usable.{broken_slices, if_broken, if_usable, pool_cmp, pool_named, pools, usable_slices}
use Rattle.pool_view.proofs.Found.{IsExact}
use Rattle.pool_view.proofs.Grouped.{grouped_at}

pub then_equal : (a b : Ordering) → ordering_then a b ≡ Equal → (a ≡ Equal) × (b ≡ Equal)
then_equal Less b e = absurd (cc)
then_equal Equal b e = (refl, e)
then_equal Greater b e = absurd (cc)

pub text_same : (a b : List ℕ) → text_cmp a b ≡ Equal → a ≡ b
text_same a b e = same_text a b (sym (texts_ties a b ∙ ap is_eq e))

is_equal : (o : Ordering) → is_eq o ≡ true → o ≡ Equal
is_equal Less e = absurd (cc)
is_equal Equal e = refl
is_equal Greater e = absurd (cc)

pub text_equal : (a : List ℕ) → text_cmp a a ≡ Equal
text_equal a = is_equal (text_cmp a a) (sym (texts_ties a a) ∙ nat_list_eq_equiv.refl a)

pub same_parts : (d e p q : List ℕ) → d ≡ e → p ≡ q → ◌≡◌ {A = PoolName} (record { driver = d; pool = p }) (record { driver = e; pool = q })
same_parts d e p q f g = cc

pool_same : (a b : PoolName) → pool_cmp a b ≡ Equal → a ≡ b
pool_same a b e = let both = then_equal (text_cmp a.driver b.driver) (text_cmp a.pool b.pool) e in same_parts a.driver b.driver a.pool b.pool (text_same a.driver b.driver both.0) (text_same a.pool b.pool both.1)

pool_equal : (a : PoolName) → pool_cmp a a ≡ Equal
pool_equal a = ap (λ (o : Ordering). ordering_then o (text_cmp a.pool a.pool)) (text_equal a.driver) ∙ text_equal a.pool

pub pools_exact : IsExact pool_cmp
pools_exact = record { same = pool_same; equal = pool_equal }

pub texts_exact : IsExact text_cmp
texts_exact = record { same = text_same; equal = text_equal }

pub then_is : (a b : Ordering) → is_eq (ordering_then a b) ≡ (is_eq a && is_eq b)
then_is Less b = refl
then_is Equal b = refl
then_is Greater b = refl

pub is_of : (p : PoolName) (x : ResourceSlice) → is_eq (pool_cmp p (pool_named x)) ≡ (text_eq x.driver p.driver && text_eq x.pool.name p.pool)
is_of p x =
    then_is (text_cmp p.driver x.driver) (text_cmp p.pool x.pool.name)
    ∙ ap (λ (b : Bool). b && is_eq (text_cmp p.pool x.pool.name)) (sym (texts_ties p.driver x.driver) ∙ nat_list_eq_equiv.symm p.driver x.driver)
    ∙ ap (λ (b : Bool). text_eq x.driver p.driver && b) (sym (texts_ties p.pool x.pool.name) ∙ nat_list_eq_equiv.symm p.pool x.pool.name)

pub of_pool : (p : PoolName) (all : Named ResourceSlice) → filter (λ x. is_eq (pool_cmp p (pool_named x))) (objects all) ≡ slices_of p.driver p.pool all
of_pool p [] = refl
of_pool p (e ∷ es) =
    ap (λ (b : Bool). cond b (e.1.object ∷ filter (λ x. is_eq (pool_cmp p (pool_named x))) (objects es)) (filter (λ x. is_eq (pool_cmp p (pool_named x))) (objects es))) (is_of p e.1.object)
    ∙ ap (λ (xs : List ResourceSlice). cond (text_eq e.1.object.driver p.driver && text_eq e.1.object.pool.name p.pool) (e.1.object ∷ xs) xs) (of_pool p es)

-- the group of a pool is the list of its slices
group_is : (all : Named ResourceSlice) (p : PoolName) → group_at pool_cmp (grouped pool_cmp pool_named [] (objects all)) p ≡ slices_of p.driver p.pool all
group_is all p = grouped_at pool_cmp pools_exact pool_named (objects all) [] p ∙ of_pool p all

each : (f g : PoolName → List ResourceSlice) (ps : List PoolName) → ((p : PoolName) → f p ≡ g p) → flat_map f ps ≡ flat_map g ps
each f g [] h = refl
each f g (p ∷ ps) h = ap (λ (xs : List ResourceSlice). xs ++ flat_map f ps) (h p) ∙ ap (λ (xs : List ResourceSlice). g p ++ xs) (each f g ps h)

pub usable_by : (i : Inventory) (groups : List (PoolName × List ResourceSlice)) (names : List PoolName) (xs : List ResourceSlice) → groups ≡ grouped pool_cmp pool_named [] (objects i.slices) → names ≡ pools i.slices
    → xs ≡ flat_map (λ p. if_usable (newest (group_at pool_cmp groups p))) names → xs ≡ usable_slices i
unfolding usable_slices pool_of
usable_by i groups names xs e f h =
    h ∙ ap (λ (ns : List PoolName). flat_map (λ p. if_usable (newest (group_at pool_cmp groups p))) ns) f
    ∙ each (λ p. if_usable (newest (group_at pool_cmp groups p))) (λ p. if_usable (newest (slices_of p.driver p.pool i.slices))) (pools i.slices)
    (λ p. ap (λ (ys : List ResourceSlice). if_usable (newest ys)) (ap (λ (g : List (PoolName × List ResourceSlice)). group_at pool_cmp g p) e ∙ group_is i.slices p))

pub broken_by : (i : Inventory) (groups : List (PoolName × List ResourceSlice)) (names : List PoolName) (xs : List ResourceSlice) → groups ≡ grouped pool_cmp pool_named [] (objects i.slices) → names ≡ pools i.slices
    → xs ≡ flat_map (λ p. if_broken (newest (group_at pool_cmp groups p))) names → xs ≡ broken_slices i
unfolding broken_slices pool_of
broken_by i groups names xs e f h =
    h ∙ ap (λ (ns : List PoolName). flat_map (λ p. if_broken (newest (group_at pool_cmp groups p))) ns) f
    ∙ each (λ p. if_broken (newest (group_at pool_cmp groups p))) (λ p. if_broken (newest (slices_of p.driver p.pool i.slices))) (pools i.slices)
    (λ p. ap (λ (ys : List ResourceSlice). if_broken (newest ys)) (ap (λ (g : List (PoolName × List ResourceSlice)). group_at pool_cmp g p) e ∙ group_is i.slices p))

-- one slice more is put into its group
pub group_step : (g more : List (PoolName × List ResourceSlice)) (name : List ℕ) (stored : Stored ResourceSlice) (items rest : Named ResourceSlice) (pool : PoolName) (x : ResourceSlice) (r : List (PoolName × List ResourceSlice))
    → items ≡ (name, stored) ∷ rest → pool ≡ pool_named stored.object → x ≡ stored.object → more ≡ added pool_cmp g pool x → grouped pool_cmp pool_named g (objects items) ≡ r
    → grouped pool_cmp pool_named more (objects rest) ≡ r
group_step g more name stored items rest pool x r is named same put whole =
    ap (λ (h : List (PoolName × List ResourceSlice)). grouped pool_cmp pool_named h (objects rest)) put
    ∙ ap (λ (p : PoolName). grouped pool_cmp pool_named (added pool_cmp g p x) (objects rest)) named
    ∙ ap (λ (y : ResourceSlice). grouped pool_cmp pool_named (added pool_cmp g (pool_named stored.object) y) (objects rest)) same
    ∙ ap (λ (es : Named ResourceSlice). grouped pool_cmp pool_named g (objects es)) (sym is) ∙ whole

-- what is made of the groups is that of an equal list
pub broken_ok : {E : Type 0} (i : Inventory) (groups : List (PoolName × List ResourceSlice)) (names : List PoolName) (r : Result Sorted E) → groups ≡ grouped pool_cmp pool_named [] (objects i.slices)
    → names ≡ pools i.slices → IfOk r (λ s. s.broken ≡ flat_map (λ p. if_broken (newest (group_at pool_cmp groups p))) names) → IfOk r (λ s. s.broken ≡ broken_slices i)
broken_ok i groups names (Ok s) e f h = broken_by i groups names s.broken e f h
broken_ok i groups names (Err x) e f h = tt
