-- What is counted of the slices of a pool, with one more and one less, and what it shows.
use Rattle.std.proofs.Common.{ℕ, ◌+◌, ◌≤◌, ◌<◌, ◌==◌, ◌≡◌, ◌∙◌, List, [], ◌∷◌, ◌++◌, Bool, true, false, not, ◌&&◌, cond, None, Some, length, refl, sym, ap, subst, arith}
use Rattle.std.specs.Prelude.{filter}
use Rattle.std.specs.BTreeMap.{insert_entry, is_at as at_key}
use Rattle.std.specs.List.{list_all}
use Rattle.std.specs.Map.{remove_entry}
use Rattle.std.specs.Ordering.{is_eq, match_ordering}
use Rattle.std.specs.declared.cmp.Ordering.{Ordering}
use Rattle.std.specs.declared.cmp.Ordering.TheVariants.{Less, Equal, Greater}
use Rattle.std.proofs.lemmas.Bool.{and_from, and_parts, eq-eqb, eqb-true}
use Rattle.std.proofs.lemmas.Option.{same_Some}
use Rattle.api_slice.specs.declared.types.ResourceSlice.{ResourceSlice}
use Rattle.pool_view.specs.declared.stored.Stored.{Stored}
use Rattle.pool_view.specs.declared.tally.Tally.{Tally}
use Rattle.pool_view.specs.Groups.{objects}
use Rattle.pool_view.specs.Inventory.{Named}
use Rattle.pool_view.specs.Names.{at_name, text_cmp}
use Rattle.pool_view.specs.Pools.{counts_of, highest, is_complete, is_usable, newest, of_generation}
use Rattle.pool_view.specs.Tally.{AreUncounted, HasRoomBelow, IsTally, is_at, one_if, says, tally}
use Rattle.pool_view.specs.Usable.{if_usable, is_counted}

-- ---- one slice more among others

-- the second list has the slice besides those of the first
record IsMore (x : ResourceSlice) (xs ys : List ResourceSlice) : Type 0 where
  front : List ResourceSlice
  back : List ResourceSlice
  less : xs ≡ front ++ back
  more : ys ≡ front ++ x ∷ back

abbrev put : List ℕ → Stored ResourceSlice → Named ResourceSlice → Named ResourceSlice
put n v es = insert_entry text_cmp es n v

abbrev gone : List ℕ → Named ResourceSlice → Named ResourceSlice
gone n es = remove_entry (at_key (text_cmp n)) es

behind : (x y : ResourceSlice) (xs ys : List ResourceSlice) → IsMore x xs ys → IsMore x (y ∷ xs) (y ∷ ys)
behind x y xs ys m = record {
  front = y ∷ m.front;
  back = m.back;
  less = ap (λ (l : List ResourceSlice). y ∷ l) m.less;
  more = ap (λ (l : List ResourceSlice). y ∷ l) m.more;
}

put_by : (o : Ordering) (n : List ℕ) (v : Stored ResourceSlice) (e : List ℕ × Stored ResourceSlice) (es : Named ResourceSlice) → cond (is_eq o) (Some e.1) (at_name es n) ≡ None
    → (at_name es n ≡ None → IsMore v.object (objects es) (objects (put n v es)))
    → IsMore v.object (objects (e ∷ es)) (objects (match_ordering o ((n, v) ∷ e ∷ es) ((e.0, v) ∷ es) (e ∷ put n v es)))
put_by Less n v e es at later = record { front = []; back = objects (e ∷ es); less = refl; more = refl }
put_by Equal n v e es at later = absurd (cc)
put_by Greater n v e es at later = behind v.object e.1.object (objects es) (objects (put n v es)) (later at)

put_more : (n : List ℕ) (v : Stored ResourceSlice) (es : Named ResourceSlice) → at_name es n ≡ None → IsMore v.object (objects es) (objects (put n v es))
put_more n v [] at = record { front = []; back = []; less = refl; more = refl }
put_more n v (e ∷ es) at = put_by (text_cmp n e.0) n v e es at (λ none. put_more n v es none)

gone_by : (b : Bool) (n : List ℕ) (v : Stored ResourceSlice) (e : List ℕ × Stored ResourceSlice) (es : Named ResourceSlice) → cond b (Some e.1) (at_name es n) ≡ Some v
    → (at_name es n ≡ Some v → IsMore v.object (objects (gone n es)) (objects es))
    → IsMore v.object (objects (cond b es (e ∷ gone n es))) (objects (e ∷ es))
gone_by true n v e es at later = record {
  front = [];
  back = objects es;
  less = refl;
  more = ap (λ (w : Stored ResourceSlice). w.object ∷ objects es) (same_Some e.1 v at);
}
gone_by false n v e es at later = behind v.object e.1.object (objects (gone n es)) (objects es) (later at)

gone_more : (n : List ℕ) (v : Stored ResourceSlice) (es : Named ResourceSlice) → at_name es n ≡ Some v → IsMore v.object (objects (gone n es)) (objects es)
gone_more n v [] at = absurd (cc)
gone_more n v (e ∷ es) at = gone_by (at_key (text_cmp n) e.0) n v e es at (λ there. gone_more n v es there)

same_by : (b : Bool) (n : List ℕ) (e : List ℕ × Stored ResourceSlice) (es : Named ResourceSlice) → cond b (Some e.1) (at_name es n) ≡ None → (at_name es n ≡ None → gone n es ≡ es) → cond b es (e ∷ gone n es) ≡ e ∷ es
same_by true n e es at later = absurd (cc)
same_by false n e es at later = ap (λ (l : Named ResourceSlice). e ∷ l) (later at)

-- nothing is removed at a name that isn't there
gone_same : (n : List ℕ) (es : Named ResourceSlice) → at_name es n ≡ None → gone n es ≡ es
gone_same n [] at = refl
gone_same n (e ∷ es) at = same_by (at_key (text_cmp n) e.0) n e es at (λ none. gone_same n es none)

-- ---- counts and the highest generation

one_most : (b : Bool) → one_if b ≤ 1
one_most true = omega arith
one_most false = omega arith

tally_few : (test : ResourceSlice → Bool) (xs : List ResourceSlice) → tally test xs ≤ length xs
tally_few test [] = omega arith
tally_few test (x ∷ xs) = omega (arith, one_most (test x), tally_few test xs)

tally_front : (test : ResourceSlice → Bool) (x : ResourceSlice) (front back : List ResourceSlice) → tally test (front ++ x ∷ back) ≡ tally test (x ∷ (front ++ back))
tally_front test x [] back = refl
tally_front test x (y ∷ ys) back = omega (arith, tally_front test x ys back)

highest_front : (x : ResourceSlice) (front back : List ResourceSlice) → highest (front ++ x ∷ back) ≡ highest (x ∷ (front ++ back))
highest_front x [] back = refl
highest_front x (y ∷ ys) back = omega (arith, highest_front x ys back)

length_front : (x : ResourceSlice) (front back : List ResourceSlice) → length (front ++ x ∷ back) ≡ length (x ∷ (front ++ back))
length_front x [] back = refl
length_front x (y ∷ ys) back = omega (arith, length_front x ys back)

tally_more : (test : ResourceSlice → Bool) (x : ResourceSlice) (xs ys : List ResourceSlice) → IsMore x xs ys → tally test ys ≡ tally test (x ∷ xs)
tally_more test x xs ys m = ap (tally test) m.more ∙ tally_front test x m.front m.back ∙ sym (ap (λ (l : List ResourceSlice). tally test (x ∷ l)) m.less)

highest_more : (x : ResourceSlice) (xs ys : List ResourceSlice) → IsMore x xs ys → highest ys ≡ highest (x ∷ xs)
highest_more x xs ys m = ap highest m.more ∙ highest_front x m.front m.back ∙ sym (ap (λ (l : List ResourceSlice). highest (x ∷ l)) m.less)

length_more : (x : ResourceSlice) (xs ys : List ResourceSlice) → IsMore x xs ys → length ys ≡ length (x ∷ xs)
length_more x xs ys m = ap length m.more ∙ length_front x m.front m.back ∙ sym (ap (λ (l : List ResourceSlice). length (x ∷ l)) m.less)

length_objects : (es : Named ResourceSlice) → length (objects es) ≡ length es
length_objects [] = refl
length_objects (e ∷ es) = omega (arith, length_objects es)

-- ---- the tally of a pool's slices after one is put or removed

moved : (t : Tally) (xs ys : List ResourceSlice) → ((test : ResourceSlice → Bool) → tally test ys ≡ tally test xs) → highest ys ≡ highest xs → IsTally xs t → IsTally ys t
moved t xs ys same high is = record {
  most = omega (arith, high, is.most);
  at_newest = omega (arith, same (is_at t.newest), is.at_newest);
  agreeing = omega (arith, same (says t.newest t.wanted), is.agreeing);
  counted = omega (arith, same is_counted, is.counted);
}

-- the tally knows of one more
abbrev pub Adds : ResourceSlice → Tally → Tally → Type 0
Adds x t u = (xs : List ResourceSlice) → IsTally xs t → IsTally (x ∷ xs) u

-- and of one less
abbrev pub Takes : ResourceSlice → Tally → Tally → Type 0
Takes x t u = (xs : List ResourceSlice) → IsTally (x ∷ xs) t → IsTally xs u

pub put_tally : (n : List ℕ) (v : Stored ResourceSlice) (es new : Named ResourceSlice) (t u : Tally) → at_name es n ≡ None → new ≡ insert_entry text_cmp es n v → IsTally (objects es) t → Adds v.object t u → IsTally (objects new) u
put_tally n v es new t u at is old adds =
    let m = put_more n v es at in
    subst (λ (fs : Named ResourceSlice). IsTally (objects fs) u) (sym is)
    (moved u (v.object ∷ objects es) (objects (put n v es)) (λ test. tally_more test v.object (objects es) (objects (put n v es)) m) (highest_more v.object (objects es) (objects (put n v es)) m) (adds (objects es) old))

pub gone_tally : (n : List ℕ) (v : Stored ResourceSlice) (es new : Named ResourceSlice) (t u : Tally) → at_name es n ≡ Some v → new ≡ remove_entry (at_key (text_cmp n)) es → IsTally (objects es) t → Takes v.object t u → IsTally (objects new) u
gone_tally n v es new t u at is old takes =
    let m = gone_more n v es at in
    subst (λ (fs : Named ResourceSlice). IsTally (objects fs) u) (sym is)
    (takes (objects (gone n es))
    (moved t (objects es) (v.object ∷ objects (gone n es)) (λ test. sym (tally_more test v.object (objects (gone n es)) (objects es) m)) (sym (highest_more v.object (objects (gone n es)) (objects es) m)) old))

pub same_tally : (n : List ℕ) (es new : Named ResourceSlice) (t : Tally) → at_name es n ≡ None → new ≡ remove_entry (at_key (text_cmp n)) es → IsTally (objects es) t → IsTally (objects new) t
same_tally n es new t at is old = subst (λ (fs : Named ResourceSlice). IsTally (objects fs) t) (sym (is ∙ gone_same n es at)) old

pub has_room : (n : List ℕ) (v : Stored ResourceSlice) (es new : Named ResourceSlice) (t : Tally) (len : ℕ) → at_name es n ≡ None → new ≡ insert_entry text_cmp es n v → len ≡ length new → IsTally (objects es) t → HasRoomBelow t len
has_room n v es new t len at is count old =
    let one : length (objects (put n v es)) ≡ length (v.object ∷ objects es) = length_more v.object (objects es) (objects (put n v es)) (put_more n v es at) in
    let put_length : length (objects (put n v es)) ≡ length (put n v es) = length_objects (put n v es) in
    let same : length new ≡ length (put n v es) = ap length is in
    record {
      at_newest = omega (arith, one, put_length, same, count, old.at_newest, tally_few (is_at t.newest) (objects es));
      agreeing = omega (arith, one, put_length, same, count, old.agreeing, tally_few (says t.newest t.wanted) (objects es));
      counted = omega (arith, one, put_length, same, count, old.counted, tally_few is_counted (objects es));
    }

-- ---- one more

apart_by : (b : Bool) (m n : ℕ) → (m == n) ≡ b → (m ≡ n → ⊥) → (m == n) ≡ false
apart_by true m n e h = absurd (h (eqb-true m n e))
apart_by false m n e h = e

apart : (m n : ℕ) → (m ≡ n → ⊥) → (m == n) ≡ false
apart m n h = apart_by (m == n) m n refl h

below : (m n : ℕ) → m < n → m ≡ n → ⊥
below m n less same = absurd (omega (arith, less, same))

none_above : (g : ℕ) (xs : List ResourceSlice) → highest xs < g → tally (is_at g) xs ≡ 0
none_above g [] h = refl
none_above g (x ∷ xs) h =
    let head : x.pool.generation < g = omega (arith, h) in
    let later : highest xs < g = omega (arith, h) in
    omega (arith, ap one_if (apart x.pool.generation g (below x.pool.generation g head)), none_above g xs later)

says_at : (g n : ℕ) (x : ResourceSlice) → x.pool.generation ≡ g → x.pool.slices ≡ n → one_if (says g n x) ≡ 1
says_at g n x e f = ap one_if (and_from (x.pool.generation == g) (x.pool.slices == n) (eq-eqb x.pool.generation g e) (eq-eqb x.pool.slices n f))

is_one : (g : ℕ) (x : ResourceSlice) → x.pool.generation ≡ g → one_if (is_at g x) ≡ 1
is_one g x e = ap one_if (eq-eqb x.pool.generation g e)

pub adds_higher : (x : ResourceSlice) (t : Tally) (g n k : ℕ) → g ≡ x.pool.generation → n ≡ x.pool.slices → k ≡ one_if (is_counted x) → t.newest < g
    → Adds x t (record { newest = g; at_newest = 1; wanted = n; agreeing = 1; counted = t.counted + k })
adds_higher x t g n k own many one above = λ xs is.
    let high : highest xs < g = omega (arith, is.most, above) in
    record {
      most = omega (arith, high, own);
      at_newest = omega (arith, is_one g x (sym own), none_above g xs high);
      agreeing = omega (arith, says_at g n x (sym own) (sym many));
      counted = omega (arith, is.counted, one);
    }

-- ---- what it shows

none_passes : (b c : Bool) (test q : ResourceSlice → Bool) (x : ResourceSlice) (xs : List ResourceSlice) → test x ≡ b → one_if b + tally test xs ≡ 0 → (tally test xs ≡ 0 → filter test (filter q xs) ≡ [])
    → filter test (cond c (x ∷ filter q xs) (filter q xs)) ≡ []
none_passes true c test q x xs is none later = absurd (omega (arith, none))
none_passes false true test q x xs is none later = ap (λ (b : Bool). cond b (x ∷ filter test (filter q xs)) (filter test (filter q xs))) is ∙ later (omega (arith, none))
none_passes false false test q x xs is none later = later (omega (arith, none))

none_pass : (test q : ResourceSlice → Bool) (xs : List ResourceSlice) → tally test xs ≡ 0 → filter test (filter q xs) ≡ []
none_pass test q [] none = refl
none_pass test q (x ∷ xs) none = none_passes (test x) (q x) test q x xs refl none (λ later. none_pass test q xs later)

if_any : (b : Bool) (test : ResourceSlice → Bool) (xs : List ResourceSlice) → filter test xs ≡ [] → filter test (cond b xs []) ≡ []
if_any true test xs e = e
if_any false test xs e = refl

-- counters are about none of the slices
pub none_counted : (t : Tally) → t.counted ≡ 0 → (xs : List ResourceSlice) → IsTally xs t → AreUncounted xs
none_counted t none = λ xs is. if_any (is_usable (newest xs)) is_counted (newest xs) (none_pass is_counted (λ x. x.pool.generation == highest xs) xs (sym is.counted ∙ none))

and_none : (b c : Bool) → c ≡ false → one_if (b && c) ≡ 0
and_none true c e = ap one_if e
and_none false c e = refl

says_other : (g n : ℕ) (x : ResourceSlice) → (x.pool.slices ≡ n → ⊥) → one_if (says g n x) ≡ 0
says_other g n x e = and_none (x.pool.generation == g) (x.pool.slices == n) (apart x.pool.slices n e)

counts_by : (b : Bool) (g k w : ℕ) (x : ResourceSlice) (xs : List ResourceSlice) → (x.pool.generation == g) ≡ b → list_all (λ n. n == k) (counts_of (cond b (x ∷ of_generation g xs) (of_generation g xs))) ≡ true
    → (list_all (λ n. n == k) (counts_of (of_generation g xs)) ≡ true → tally (says g w) xs ≡ 0) → (k ≡ w → ⊥) → tally (says g w) (x ∷ xs) ≡ 0
counts_by true g k w x xs is all later apart_k =
    let parts = and_parts (x.pool.slices == k) (list_all (λ n. n == k) (counts_of (of_generation g xs))) all in
    let same : x.pool.slices ≡ k = eqb-true x.pool.slices k parts.0 in
    omega (arith, says_other g w x (λ e. apart_k (sym same ∙ e)), later parts.1)
counts_by false g k w x xs is all later apart_k = omega (arith, ap (λ (b : Bool). one_if (b && x.pool.slices == w)) is, later all)

-- if each of the generation says one number, none says another
says_one : (g k w : ℕ) (xs : List ResourceSlice) → list_all (λ n. n == k) (counts_of (of_generation g xs)) ≡ true → (k ≡ w → ⊥) → tally (says g w) xs ≡ 0
says_one g k w [] all apart_k = refl
says_one g k w (x ∷ xs) all apart_k = counts_by (x.pool.generation == g) g k w x xs refl all (λ more. says_one g k w xs more apart_k) apart_k

length_by : (b : Bool) (g : ℕ) (x : ResourceSlice) (xs : List ResourceSlice) → length (counts_of (of_generation g xs)) ≡ tally (is_at g) xs
    → length (counts_of (cond b (x ∷ of_generation g xs) (of_generation g xs))) ≡ one_if b + tally (is_at g) xs
length_by true g x xs h = omega (arith, h)
length_by false g x xs h = omega (arith, h)

length_at : (g : ℕ) (xs : List ResourceSlice) → length (counts_of (of_generation g xs)) ≡ tally (is_at g) xs
length_at g [] = refl
length_at g (x ∷ xs) = length_by (x.pool.generation == g) g x xs (length_at g xs)

least_by : (b : Bool) (g w : ℕ) (x : ResourceSlice) (xs : List ResourceSlice) → (x.pool.generation == g) ≡ b → 0 < one_if (b && x.pool.slices == w) + tally (says g w) xs → (0 < tally (says g w) xs → g ≤ highest xs) → g ≤ highest (x ∷ xs)
least_by true g w x xs is some later = let same = eqb-true x.pool.generation g is in omega (arith, same)
least_by false g w x xs is some later = let high = later (omega (arith, some)) in omega (arith, high)

-- the highest generation is at least one that a slice has
least : (g w : ℕ) (xs : List ResourceSlice) → 0 < tally (says g w) xs → g ≤ highest xs
least g w [] some = omega (arith, some)
least g w (x ∷ xs) some = least_by (x.pool.generation == g) g w x xs refl some (λ more. least g w xs more)

broken_by : (b : Bool) (g w : ℕ) (xs : List ResourceSlice) → is_usable (of_generation g xs) ≡ b → (tally (is_at g) xs ≡ w → ⊥) → 0 < tally (says g w) xs → filter is_counted (cond b (of_generation g xs) []) ≡ []
unfolding is_usable
broken_by true g w xs is other some =
    let parts = and_parts (is_complete (counts_of (of_generation g xs))) _ is in
    let none = says_one g (length (counts_of (of_generation g xs))) w xs parts.0 (λ e. other (sym (length_at g xs) ∙ e)) in
    absurd (omega (arith, none, some))
broken_by false g w xs is other some = refl

differ : (m n : ℕ) → not (m == n) ≡ true → m ≡ n → ⊥
differ m n h e = absurd (let one = eq-eqb m n e in let wrong = sym (ap not one) ∙ h in cc)

-- one of the highest generation says another number than there are
pub incomplete : (t : Tally) → 0 < t.agreeing → not (t.at_newest == t.wanted) ≡ true → (xs : List ResourceSlice) → IsTally xs t → AreUncounted xs
incomplete t some other = λ xs is.
    let there : 0 < tally (says t.newest t.wanted) xs = omega (arith, some, is.agreeing) in
    let low = least t.newest t.wanted xs there in
    let high : t.newest ≡ highest xs = omega (arith, low, is.most) in
    subst (λ (g : ℕ). filter is_counted (if_usable (of_generation g xs)) ≡ []) high
    (broken_by (is_usable (of_generation t.newest xs)) t.newest t.wanted xs refl (λ e. differ t.at_newest t.wanted other (is.at_newest ∙ e)) there)

-- counters are about none of no slices
pub none_uncounted : AreUncounted []
none_uncounted = if_any (is_usable []) is_counted [] refl
