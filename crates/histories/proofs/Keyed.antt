-- Tables by key: what is at a key after a change, tables that have each key once, and those in order.
use Rattle.std.proofs.Common.{ℕ, ◌≡◌, ◌∙◌, ◌⊎◌, inl, inr, List, [], ◌∷◌, Bool, true, false, cond, filter, Option, None, Some, refl, sym, ap, subst, arith}
use Rattle.std.specs.Cmp.{IsTotalOrder}
use Rattle.std.specs.Cmp.Lexicographic.{nat_list_cmp_total}
use Rattle.std.specs.List.{Contains}
use Rattle.std.specs.Map.{remove_entry, set_value}
use Rattle.std.specs.Option.{option_map_or}
use Rattle.std.specs.Ordering.{is_eq, match_ordering, ordering_reverse}
use Rattle.std.specs.BTreeMap.{insert_entry, is_at}
use Rattle.std.specs.declared.cmp.Ordering.{Ordering}
use Rattle.std.specs.declared.cmp.Ordering.TheVariants.{Less, Equal, Greater}
use Rattle.std.proofs.lemmas.Cmp.{on_total, then_total}
use Rattle.std.proofs.lemmas.List.Elements.{Contains-append_right}
use Rattle.object_fields.specs.declared.key.Key.{Key}
use Rattle.api_claim.specs.Limits.{EachOf}
use Rattle.pool_view.specs.Names.{at_key, key_cmp}
use Rattle.cluster.specs.Tables.{changed_at, put_at}
use Rattle.histories.proofs.GoingOn.{In, at_tie, changed_other, changed_there, false_by, insert_there, key_same, other_key, same_or_not}

pub some_same : {X : Type 0} (v w : X) → Some v ≡ Some w → v ≡ w
some_same v w e = cc

-- ---- what is at other keys

pub no_match : (k j : Key) → (k ≡ j → ⊥) → is_at (key_cmp k) j ≡ false
no_match k j differ = false_by (is_at (key_cmp k) j) (λ g. differ (at_tie k j g))

insert_by : {V : Type 0} (o : Ordering) (j k : Key) (e : Key × V) (es : List (Key × V)) (w : V) → key_cmp j e.0 ≡ o → (k ≡ j → ⊥) → at_key (insert_entry key_cmp es j w) k ≡ at_key es k
    → at_key (match_ordering o ((j, w) ∷ e ∷ es) ((e.0, w) ∷ es) (e ∷ insert_entry key_cmp es j w)) k ≡ at_key (e ∷ es) k
insert_by Less j k e es w is differ later = ap (λ b. cond b (Some w) (at_key (e ∷ es) k)) (no_match k j differ)
insert_by Equal j k e es w is differ later =
    let off : is_at (key_cmp k) e.0 ≡ false = other_key j k e.0 differ (ap is_eq is) in
    ap (λ b. cond b (Some w) (at_key es k)) off ∙ sym (ap (λ b. cond b (Some e.1) (at_key es k)) off)
insert_by Greater j k e es w is differ later = ap (λ r. cond (is_at (key_cmp k) e.0) (Some e.1) r) later

pub insert_other : {V : Type 0} (j k : Key) (es : List (Key × V)) (w : V) → (k ≡ j → ⊥) → at_key (insert_entry key_cmp es j w) k ≡ at_key es k
insert_other j k [] w differ = ap (λ b. cond b (Some w) None) (no_match k j differ)
insert_other j k (e ∷ es) w differ = insert_by (key_cmp j e.0) j k e es w refl differ (insert_other j k es w differ)

remove_by : {V : Type 0} (b : Bool) (j k : Key) (e : Key × V) (es less : List (Key × V)) → is_at (key_cmp j) e.0 ≡ b → (k ≡ j → ⊥) → at_key less k ≡ at_key es k
    → at_key (cond b es (e ∷ less)) k ≡ at_key (e ∷ es) k
remove_by true j k e es less is differ later = sym (ap (λ c. cond c (Some e.1) (at_key es k)) (other_key j k e.0 differ is))
remove_by false j k e es less is differ later = ap (λ r. cond (is_at (key_cmp k) e.0) (Some e.1) r) later

pub remove_other : {V : Type 0} (j k : Key) (es : List (Key × V)) → (k ≡ j → ⊥) → at_key (remove_entry (is_at (key_cmp j)) es) k ≡ at_key es k
remove_other j k [] differ = refl
remove_other j k (e ∷ es) differ = remove_by (is_at (key_cmp j) e.0) j k e es (remove_entry (is_at (key_cmp j)) es) refl differ (remove_other j k es differ)

-- ---- tables that have each key once

abbrev pub Once : {V : Type 0} → List (Key × V) → Type 0
Once [] = Unit {0}
Once (e ∷ es) = (at_key es e.0 ≡ None) × Once es

behind_none : {V : Type 0} (c : Bool) (v : V) (o : Option V) → cond c (Some v) o ≡ None → (c ≡ false) × (o ≡ None)
behind_none true v o e = absurd (cc)
behind_none false v o e = (refl, e)

removed_none_by : {V : Type 0} (b : Bool) (k : Key) (e : Key × V) (es less : List (Key × V)) → is_at (key_cmp k) e.0 ≡ false → at_key es k ≡ None → at_key less k ≡ None → at_key (cond b es (e ∷ less)) k ≡ None
removed_none_by true k e es less off none later = none
removed_none_by false k e es less off none later = ap (λ c. cond c (Some e.1) (at_key less k)) off ∙ later

pub removed_none : {V : Type 0} (test : Key → Bool) (k : Key) (es : List (Key × V)) → at_key es k ≡ None → at_key (remove_entry test es) k ≡ None
removed_none test k [] none = none
removed_none test k (e ∷ es) none =
    let parts = behind_none (is_at (key_cmp k) e.0) e.1 (at_key es k) none in
    removed_none_by (test e.0) k e es (remove_entry test es) parts.0 parts.1 (removed_none test k es parts.1)

once_removed_by : {V : Type 0} (b : Bool) (e : Key × V) (es less : List (Key × V)) → Once es → Once less → at_key less e.0 ≡ None → Once (cond b es (e ∷ less))
once_removed_by true e es less once later none = once
once_removed_by false e es less once later none = (none, later)

pub once_removed : {V : Type 0} (test : Key → Bool) (es : List (Key × V)) → Once es → Once (remove_entry test es)
once_removed test [] once = tt
once_removed test (e ∷ es) once = once_removed_by (test e.0) e es (remove_entry test es) once.1 (once_removed test es once.1) (removed_none test e.0 es once.0)

gone_by : {V : Type 0} (b : Bool) (key : Key) (e : Key × V) (es less : List (Key × V)) → is_at (key_cmp key) e.0 ≡ b → at_key es e.0 ≡ None → at_key less key ≡ None → at_key (cond b es (e ∷ less)) key ≡ None
gone_by true key e es less is none later = ap (λ k. at_key es k) (at_tie key e.0 is) ∙ none
gone_by false key e es less is none later = ap (λ c. cond c (Some e.1) (at_key less key)) is ∙ later

-- nothing is left at a key that was taken away
pub gone : {V : Type 0} (key : Key) (es : List (Key × V)) → Once es → at_key (remove_entry (is_at (key_cmp key)) es) key ≡ None
gone key [] once = refl
gone key (e ∷ es) once = gone_by (is_at (key_cmp key) e.0) key e es (remove_entry (is_at (key_cmp key)) es) refl once.0 (gone key es once.1)

set_none_by : {V : Type 0} (b : Bool) (k : Key) (e : Key × V) (es more : List (Key × V)) (w : V) → is_at (key_cmp k) e.0 ≡ false → at_key es k ≡ None → at_key more k ≡ None
    → at_key (cond b ((e.0, w) ∷ es) (e ∷ more)) k ≡ None
set_none_by true k e es more w off none later = ap (λ c. cond c (Some w) (at_key es k)) off ∙ none
set_none_by false k e es more w off none later = ap (λ c. cond c (Some e.1) (at_key more k)) off ∙ later

pub set_none : {V : Type 0} (test : Key → Bool) (k : Key) (es : List (Key × V)) (w : V) → at_key es k ≡ None → at_key (set_value test es w) k ≡ None
set_none test k [] w none = none
set_none test k (e ∷ es) w none =
    let parts = behind_none (is_at (key_cmp k) e.0) e.1 (at_key es k) none in
    set_none_by (test e.0) k e es (set_value test es w) w parts.0 parts.1 (set_none test k es w parts.1)

once_set_by : {V : Type 0} (b : Bool) (e : Key × V) (es more : List (Key × V)) (w : V) → Once (e ∷ es) → Once more → at_key more e.0 ≡ None → Once (cond b ((e.0, w) ∷ es) (e ∷ more))
once_set_by true e es more w once later none = once
once_set_by false e es more w once later none = (none, later)

pub once_set : {V : Type 0} (test : Key → Bool) (es : List (Key × V)) (w : V) → Once es → Once (set_value test es w)
once_set test [] w once = tt
once_set test (e ∷ es) w once = once_set_by (test e.0) e es (set_value test es w) w once (once_set test es w once.1) (set_none test e.0 es w once.0)

pub once_changed_by : {V : Type 0} (key : Key) (f : V → V) (es : List (Key × V)) (o : Option V) → Once es → Once (option_map_or (λ v. set_value (is_at (key_cmp key)) es (f v)) o es)
once_changed_by key f es None once = once
once_changed_by key f es (Some v) once = once_set (is_at (key_cmp key)) es (f v) once

once_inserted_by : {V : Type 0} (o : Ordering) (key : Key) (e : Key × V) (es more : List (Key × V)) (w : V) → key_cmp key e.0 ≡ o → cond (is_eq o) (Some e.1) (at_key es key) ≡ None → Once (e ∷ es)
    → ((e.0 ≡ key → ⊥) → at_key more e.0 ≡ at_key es e.0) → (at_key es key ≡ None → Once more) → Once (match_ordering o ((key, w) ∷ e ∷ es) ((e.0, w) ∷ es) (e ∷ more))
once_inserted_by Less key e es more w is none once same later = (ap (λ o. cond (is_eq o) (Some e.1) (at_key es key)) is ∙ none, once)
once_inserted_by Equal key e es more w is none once same later = absurd (cc)
once_inserted_by Greater key e es more w is none once same later =
    let differ : e.0 ≡ key → ⊥ = λ g. let tie : key_cmp key e.0 ≡ Equal = subst (λ (x : Key). key_cmp key x ≡ Equal) (sym g) (key_same key) in absurd (cc) in
    (same differ ∙ once.0, later none)

pub once_inserted : {V : Type 0} (key : Key) (es : List (Key × V)) (w : V) → at_key es key ≡ None → Once es → Once (insert_entry key_cmp es key w)
once_inserted key [] w none once = (refl, tt)
once_inserted key (e ∷ es) w none once =
    once_inserted_by (key_cmp key e.0) key e es (insert_entry key_cmp es key w) w refl none once (λ differ. insert_other key e.0 es w differ) (λ n. once_inserted key es w n once.1)

once_put_by : {V : Type 0} (key : Key) (new : V) (f : V → V) (t : List (Key × V)) (o : Option V) → at_key t key ≡ o → Once t → Once (put_at key new f t o)
once_put_by key new f t None is once = once_inserted key t new is once
once_put_by key new f t (Some v) is once = once_set (is_at (key_cmp key)) t (f v) once

pub once_put : {V : Type 0} (key : Key) (new : V) (f : V → V) (t : List (Key × V)) → Once t → Once (put_at key new f t (at_key t key))
once_put key new f t once = once_put_by key new f t (at_key t key) refl once

pub once_changed : {V : Type 0} (key : Key) (f : V → V) (t : List (Key × V)) → Once t → Once (changed_at key f t)
once_changed key f t once = once_changed_by key f t (at_key t key) once

-- ---- tables of which each value keeps something with its key

abbrev pub AllAt : {V : Type 0} → (Key → V → Type 0) → List (Key × V) → Type 0
AllAt {V} P t = (k : Key) (v : V) → at_key t k ≡ Some v → P k v

-- a changed value, or another one that is as it was
pub changed_case : {V : Type 0} (key k : Key) (f : V → V) (t : List (Key × V)) (v w : V) → (k ≡ key) ⊎ (k ≡ key → ⊥) → at_key t key ≡ Some v → at_key (changed_at key f t) k ≡ Some w
    → ((k ≡ key) × (w ≡ f v)) ⊎ ((k ≡ key → ⊥) × (at_key t k ≡ Some w))
changed_case key k f t v w (inl e) there is =
    inl (e, some_same w (f v) (sym is ∙ ap (at_key (changed_at key f t)) e ∙ changed_there key f t v there))
changed_case key k f t v w (inr differ) there is = inr (differ, sym (changed_other key k f t differ) ∙ is)

changed_by_case : {V : Type 0} (P Q : Key → V → Type 0) (key k : Key) (f : V → V) (t : List (Key × V)) (v w : V) → ((k ≡ key) × (w ≡ f v)) ⊎ ((k ≡ key → ⊥) × (at_key t k ≡ Some w))
    → Q key (f v) → ((k ≡ key → ⊥) → at_key t k ≡ Some w → Q k w) → Q k w
changed_by_case P Q key k f t v w (inl e) here others = subst (λ (x : Key). Q x w) (sym e.0) (subst (λ y. Q key y) (sym e.1) here)
changed_by_case P Q key k f t v w (inr e) here others = others e.0 e.1

all_changed_by : {V : Type 0} (P Q : Key → V → Type 0) (key : Key) (f : V → V) (t : List (Key × V)) (o : Option V) → at_key t key ≡ o → AllAt P t → ((v : V) → at_key t key ≡ Some v → P key v → Q key (f v))
    → ((k : Key) (w : V) → (k ≡ key → ⊥) → P k w → Q k w) → AllAt Q (changed_at key f t)
all_changed_by {V} P Q key f t None is h step others =
    let same : AllAt Q t =
    λ k w at. others k w (λ (e : k ≡ key). let no : None ≡ Some w = sym is ∙ ap (at_key t) (sym e) ∙ at in cc) (h k w at) in
    subst (λ (o : Option V). AllAt Q (option_map_or (λ v. set_value (is_at (key_cmp key)) t (f v)) o t)) (sym is) same
all_changed_by P Q key f t (Some v) is h step others =
    λ k w at. changed_by_case P Q key k f t v w (changed_case key k f t v w (same_or_not (key_cmp k key) k key refl) is at) (step v is (h key v is)) (λ differ there. others k w differ (h k w there))

pub all_changed : {V : Type 0} (P Q : Key → V → Type 0) (key : Key) (f : V → V) (t : List (Key × V)) → AllAt P t → ((v : V) → at_key t key ≡ Some v → P key v → Q key (f v))
    → ((k : Key) (w : V) → (k ≡ key → ⊥) → P k w → Q k w) → AllAt Q (changed_at key f t)
all_changed P Q key f t h step others = all_changed_by P Q key f t (at_key t key) refl h step others

-- where the value that is there is known
pub all_given : {V : Type 0} (P Q : Key → V → Type 0) (key : Key) (f : V → V) (t : List (Key × V)) (v : V) → at_key t key ≡ Some v → AllAt P t → Q key (f v) → ((k : Key) (w : V) → (k ≡ key → ⊥) → P k w → Q k w)
    → AllAt Q (changed_at key f t)
all_given P Q key f t v is h here others = all_changed P Q key f t h (λ w there old. subst (λ x. Q key (f x)) (some_same v w (sym is ∙ there)) here) others

inserted_case : {V : Type 0} (P : Key → V → Type 0) (key k : Key) (t : List (Key × V)) (v w : V) → (k ≡ key) ⊎ (k ≡ key → ⊥) → at_key (insert_entry key_cmp t key w) k ≡ Some v → P key w
    → (at_key t k ≡ Some v → P k v) → P k v
inserted_case P key k t v w (inl e) at new others =
    let same : v ≡ w = some_same v w (sym at ∙ ap (at_key (insert_entry key_cmp t key w)) e ∙ insert_there key_cmp t key w (key_same key)) in
    subst (λ (x : Key). P x v) (sym e) (subst (λ y. P key y) (sym same) new)
inserted_case P key k t v w (inr differ) at new others = others (sym (insert_other key k t w differ) ∙ at)

pub all_inserted : {V : Type 0} (P : Key → V → Type 0) (key : Key) (w : V) (t : List (Key × V)) → AllAt P t → P key w → AllAt P (insert_entry key_cmp t key w)
all_inserted P key w t h new = λ k v at. inserted_case P key k t v w (same_or_not (key_cmp k key) k key refl) at new (h k v)

all_put_by : {V : Type 0} (P : Key → V → Type 0) (key : Key) (new : V) (f : V → V) (t : List (Key × V)) (o : Option V) → at_key t key ≡ o → AllAt P t → (at_key t key ≡ None → P key new)
    → ((v : V) → at_key t key ≡ Some v → P key v → P key (f v)) → AllAt P (put_at key new f t o)
all_put_by P key new f t None is h made step = all_inserted P key new t h (made is)
all_put_by {V} P key new f t (Some v) is h made step =
    subst (λ (o : Option V). AllAt P (option_map_or (λ v. set_value (is_at (key_cmp key)) t (f v)) o t)) is (all_changed P P key f t h step (λ k w differ p. p))

pub all_put : {V : Type 0} (P : Key → V → Type 0) (key : Key) (new : V) (f : V → V) (t : List (Key × V)) → AllAt P t → (at_key t key ≡ None → P key new)
    → ((v : V) → at_key t key ≡ Some v → P key v → P key (f v)) → AllAt P (put_at key new f t (at_key t key))
all_put P key new f t h made step = all_put_by P key new f t (at_key t key) refl h made step

removed_by : {V : Type 0} (key k : Key) (t : List (Key × V)) (v : V) → Once t → (k ≡ key) ⊎ (k ≡ key → ⊥) → at_key (remove_entry (is_at (key_cmp key)) t) k ≡ Some v → (k ≡ key → ⊥) × (at_key t k ≡ Some v)
removed_by key k t v once (inl e) is =
    absurd (let none : None ≡ Some v = sym (gone key t once) ∙ ap (at_key (remove_entry (is_at (key_cmp key)) t)) (sym e) ∙ is in cc)
removed_by key k t v once (inr differ) is = (differ, sym (remove_other key k t differ) ∙ is)

-- what is left when a key was taken away
pub removed_case : {V : Type 0} (key k : Key) (t : List (Key × V)) (v : V) → Once t → at_key (remove_entry (is_at (key_cmp key)) t) k ≡ Some v → (k ≡ key → ⊥) × (at_key t k ≡ Some v)
removed_case key k t v once is = removed_by key k t v once (same_or_not (key_cmp k key) k key refl) is

at_tail : {V : Type 0} (e : Key × V) (es : List (Key × V)) (k : Key) (v : V) → at_key es e.0 ≡ None → at_key es k ≡ Some v → at_key (e ∷ es) k ≡ Some v
at_tail e es k v none at =
    ap (λ b. cond b (Some e.1) (at_key es k)) (no_match k e.0 (λ (g : k ≡ e.0). let no : None ≡ Some v = sym none ∙ ap (at_key es) (sym g) ∙ at in cc)) ∙ at

-- what is said of the value at each key is said of each entry
pub each_at : {V : Type 0} (P : Key → V → Type 0) (t : List (Key × V)) → Once t → AllAt P t → EachOf (λ e. P e.0 e.1) t
each_at P [] once h = tt
each_at P (e ∷ es) once h = (
  h e.0 e.1 (ap (λ o. cond (is_eq o) (Some e.1) (at_key es e.0)) (key_same e.0)),
  each_at P es once.1 (λ k v at. h k v (at_tail e es k v once.0 at)),
)

-- ---- tables in order

namespace_of : Key → List ℕ
namespace_of k = k.namespace

name_of : Key → List ℕ
name_of k = k.name

key_total : IsTotalOrder key_cmp
unfolding namespace_of name_of
key_total = then_total (on_total namespace_of nat_list_cmp_total) (on_total name_of nat_list_cmp_total)

-- each key is behind this one
abbrev Over : {V : Type 0} → Key → List (Key × V) → Type 0
Over k [] = Unit {0}
Over k (e ∷ es) = (key_cmp k e.0 ≡ Less) × Over k es

abbrev pub Rising : {V : Type 0} → List (Key × V) → Type 0
Rising [] = Unit {0}
Rising (e ∷ es) = Over e.0 es × Rising es

over_then : {V : Type 0} (j k : Key) (es : List (Key × V)) → key_cmp j k ≡ Less → Over k es → Over j es
over_then j k [] less h = tt
over_then j k (e ∷ es) less h = (key_total.trans j k e.0 less h.0, over_then j k es less h.1)

over_inserted_by : {V : Type 0} (o : Ordering) (j k : Key) (e : Key × V) (es more : List (Key × V)) (w : V) → Over j (e ∷ es) → key_cmp j k ≡ Less → Over j more
    → Over j (match_ordering o ((k, w) ∷ e ∷ es) ((e.0, w) ∷ es) (e ∷ more))
over_inserted_by Less j k e es more w h less later = (less, h)
over_inserted_by Equal j k e es more w h less later = h
over_inserted_by Greater j k e es more w h less later = (h.0, later)

over_inserted : {V : Type 0} (j k : Key) (es : List (Key × V)) (w : V) → Over j es → key_cmp j k ≡ Less → Over j (insert_entry key_cmp es k w)
over_inserted j k [] w h less = (less, tt)
over_inserted j k (e ∷ es) w h less = over_inserted_by (key_cmp k e.0) j k e es (insert_entry key_cmp es k w) w h less (over_inserted j k es w h.1 less)

rising_inserted_by : {V : Type 0} (o : Ordering) (k : Key) (e : Key × V) (es : List (Key × V)) (w : V) → key_cmp k e.0 ≡ o → Rising (e ∷ es) → Rising (insert_entry key_cmp es k w)
    → Rising (match_ordering o ((k, w) ∷ e ∷ es) ((e.0, w) ∷ es) (e ∷ insert_entry key_cmp es k w))
rising_inserted_by Less k e es w is h later = ((is, over_then k e.0 es is h.0), h)
rising_inserted_by Equal k e es w is h later = h
rising_inserted_by Greater k e es w is h later = (over_inserted e.0 k es w h.0 (key_total.antisymm e.0 k ∙ ap ordering_reverse is), later)

pub rising_inserted : {V : Type 0} (k : Key) (es : List (Key × V)) (w : V) → Rising es → Rising (insert_entry key_cmp es k w)
rising_inserted k [] w h = (tt, tt)
rising_inserted k (e ∷ es) w h = rising_inserted_by (key_cmp k e.0) k e es w refl h (rising_inserted k es w h.1)

over_removed_by : {V : Type 0} (b : Bool) (j : Key) (e : Key × V) (es less : List (Key × V)) → Over j (e ∷ es) → Over j less → Over j (cond b es (e ∷ less))
over_removed_by true j e es less h later = h.1
over_removed_by false j e es less h later = (h.0, later)

over_removed : {V : Type 0} (test : Key → Bool) (j : Key) (es : List (Key × V)) → Over j es → Over j (remove_entry test es)
over_removed test j [] h = tt
over_removed test j (e ∷ es) h = over_removed_by (test e.0) j e es (remove_entry test es) h (over_removed test j es h.1)

rising_removed_by : {V : Type 0} (b : Bool) (e : Key × V) (es less : List (Key × V)) → Rising es → Over e.0 less → Rising less → Rising (cond b es (e ∷ less))
rising_removed_by true e es less h over later = h
rising_removed_by false e es less h over later = (over, later)

pub rising_removed : {V : Type 0} (test : Key → Bool) (es : List (Key × V)) → Rising es → Rising (remove_entry test es)
rising_removed test [] h = tt
rising_removed test (e ∷ es) h = rising_removed_by (test e.0) e es (remove_entry test es) h.1 (over_removed test e.0 es h.0) (rising_removed test es h.1)

over_set_by : {V : Type 0} (b : Bool) (j : Key) (e : Key × V) (es more : List (Key × V)) (w : V) → Over j (e ∷ es) → Over j more → Over j (cond b ((e.0, w) ∷ es) (e ∷ more))
over_set_by true j e es more w h later = h
over_set_by false j e es more w h later = (h.0, later)

over_set : {V : Type 0} (test : Key → Bool) (j : Key) (es : List (Key × V)) (w : V) → Over j es → Over j (set_value test es w)
over_set test j [] w h = tt
over_set test j (e ∷ es) w h = over_set_by (test e.0) j e es (set_value test es w) w h (over_set test j es w h.1)

rising_set_by : {V : Type 0} (b : Bool) (e : Key × V) (es more : List (Key × V)) (w : V) → Rising (e ∷ es) → Over e.0 more → Rising more → Rising (cond b ((e.0, w) ∷ es) (e ∷ more))
rising_set_by true e es more w h over later = h
rising_set_by false e es more w h over later = (over, later)

rising_set : {V : Type 0} (test : Key → Bool) (es : List (Key × V)) (w : V) → Rising es → Rising (set_value test es w)
rising_set test [] w h = tt
rising_set test (e ∷ es) w h = rising_set_by (test e.0) e es (set_value test es w) w h (over_set test e.0 es w h.0) (rising_set test es w h.1)

rising_changed_by : {V : Type 0} (key : Key) (f : V → V) (es : List (Key × V)) (o : Option V) → Rising es → Rising (option_map_or (λ v. set_value (is_at (key_cmp key)) es (f v)) o es)
rising_changed_by key f es None h = h
rising_changed_by key f es (Some v) h = rising_set (is_at (key_cmp key)) es (f v) h

pub rising_changed : {V : Type 0} (key : Key) (f : V → V) (es : List (Key × V)) → Rising es → Rising (changed_at key f es)
rising_changed key f es h = rising_changed_by key f es (at_key es key) h

less_off : (o : Ordering) → o ≡ Less → is_eq o ≡ false
less_off o e = ap is_eq e

over_none : {V : Type 0} (k : Key) (es : List (Key × V)) → Over k es → at_key es k ≡ None
over_none k [] h = refl
over_none k (e ∷ es) h = ap (λ b. cond b (Some e.1) (at_key es k)) (less_off (key_cmp k e.0) h.0) ∙ over_none k es h.1

-- a table in order has each key once
pub once_of : {V : Type 0} (es : List (Key × V)) → Rising es → Once es
once_of [] h = tt
once_of (e ∷ es) h = (over_none e.0 es h.0, once_of es h.1)

-- ---- keys in lists

pub in_contains : (k : Key) (ks : List Key) → In k ks → Contains ks k
in_contains k [] h = absurd h
in_contains k (l ∷ ls) (inl e) = subst (λ (x : Key). Contains (l ∷ ls) x) e (0, omega arith, refl)
in_contains k (l ∷ ls) (inr h) = Contains-append_right (l ∷ []) ls k (in_contains k ls h)

passed_by : (t : Key → Bool) (b : Bool) (k l : Key) (ls : List Key) → t l ≡ b → In k (cond b (l ∷ filter t ls) (filter t ls)) → (In k (filter t ls) → In k ls × (t k ≡ true)) → In k (l ∷ ls) × (t k ≡ true)
passed_by t true k l ls is (inl e) later = (inl e, subst (λ (x : Key). t x ≡ true) e is)
passed_by t true k l ls is (inr h) later = (inr (later h).0, (later h).1)
passed_by t false k l ls is h later = (inr (later h).0, (later h).1)

-- what a filter leaves was there, and passes
pub passed : (t : Key → Bool) (ks : List Key) (k : Key) → In k (filter t ks) → In k ks × (t k ≡ true)
passed t [] k h = absurd h
passed t (l ∷ ls) k h = passed_by t (t l) k l ls refl h (λ g. passed t ls k g)
