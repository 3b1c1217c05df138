-- What is at a key of a table after a value was changed or an entry inserted.
use Rattle.std.proofs.Common.{ℕ, ◌≡◌, ◌∙◌, ◌⊎◌, inl, inr, List, [], ◌∷◌, Bool, true, false, cond, ◌||◌, Option, None, Some, refl, sym, ap, subst}
use Rattle.std.specs.List.{list_any}
use Rattle.std.specs.Option.{option_map_or}
use Rattle.std.specs.Ordering.{is_eq, ordering_reverse, ordering_then}
use Rattle.std.specs.declared.cmp.Ordering.{Ordering}
use Rattle.std.specs.declared.cmp.Ordering.TheVariants.{Less, Equal, Greater}
use Rattle.std.specs.Cmp.Lexicographic.{nat_list_cmp_total, same_text, texts_ties}
use Rattle.std.specs.BTreeMap.{insert_entry, is_at}
use Rattle.std.specs.Map.{lookup, set_value}
use Rattle.object_fields.specs.declared.key.Key.{Key}
use Rattle.pool_view.specs.Names.{text_cmp, key_cmp, at_key}
use Rattle.cluster.specs.Tables.{changed_at}

-- ---- keys

own_reverse : (o : Ordering) → o ≡ ordering_reverse o → o ≡ Equal
own_reverse Less e = absurd (cc)
own_reverse Equal e = refl
own_reverse Greater e = absurd (cc)

text_same : (t : List ℕ) → text_cmp t t ≡ Equal
text_same t = own_reverse (text_cmp t t) (nat_list_cmp_total.antisymm t t)

pub key_same : (k : Key) → key_cmp k k ≡ Equal
key_same k = rw (text_same k.namespace, text_same k.name) refl

text_tie : (a b : List ℕ) → text_cmp a b ≡ Equal → a ≡ b
text_tie a b e = same_text a b (sym (texts_ties a b ∙ ap is_eq e))

parts_tie : (o p : Ordering) → ordering_then o p ≡ Equal → (o ≡ Equal) × (p ≡ Equal)
parts_tie Less p e = absurd (cc)
parts_tie Equal p e = (refl, e)
parts_tie Greater p e = absurd (cc)

same_parts : (a b c d : List ℕ) → a ≡ c → b ≡ d → ◌≡◌ {A = Key} (record { namespace = a; name = b }) (record { namespace = c; name = d })
same_parts a b c d e f = cc

pub key_tie : (a b : Key) → key_cmp a b ≡ Equal → a ≡ b
key_tie a b e =
    let both = parts_tie (text_cmp a.namespace b.namespace) (text_cmp a.name b.name) e in
    same_parts a.namespace a.name b.namespace b.name (text_tie a.namespace b.namespace both.0) (text_tie a.name b.name both.1)

found_key : (o : Ordering) (k x : Key) → key_cmp k x ≡ o → is_eq o ≡ true → k ≡ x
found_key Less k x is e = absurd (cc)
found_key Equal k x is e = key_tie k x is
found_key Greater k x is e = absurd (cc)

pub at_tie : (k x : Key) → is_at (key_cmp k) x ≡ true → k ≡ x
at_tie k x e = found_key (key_cmp k x) k x refl e

same_or_not_by : (o : Ordering) (k j : Key) → key_cmp k j ≡ o → (k ≡ j) ⊎ (k ≡ j → ⊥)
same_or_not_by Less k j is = inr (λ e. let same : key_cmp k j ≡ Equal = subst (λ (x : Key). key_cmp k x ≡ Equal) e (key_same k) in absurd (cc))
same_or_not_by Equal k j is = inl (key_tie k j is)
same_or_not_by Greater k j is = inr (λ e. let same : key_cmp k j ≡ Equal = subst (λ (x : Key). key_cmp k x ≡ Equal) e (key_same k) in absurd (cc))

-- two keys are one, or they differ
pub same_or_not : (k j : Key) → (k ≡ j) ⊎ (k ≡ j → ⊥)
same_or_not k j = same_or_not_by (key_cmp k j) k j refl

-- ---- what is at a key

set_by : {K X : Type 0} (test : K → Bool) (b : Bool) (e : K × X) (es : List (K × X)) (v w : X) → test e.0 ≡ b → lookup test (e ∷ es) ≡ Some v
    → (lookup test es ≡ Some v → lookup test (set_value test es w) ≡ Some w) → lookup test (set_value test (e ∷ es) w) ≡ Some w
set_by test true e es v w is h later = rw is (rw is refl)
set_by test false e es v w is h later = rw is (rw is (later (rw is at h)))

set_there : {K X : Type 0} (test : K → Bool) (es : List (K × X)) (v w : X) → lookup test es ≡ Some v → lookup test (set_value test es w) ≡ Some w
set_there test [] v w h = absurd (cc)
set_there test (e ∷ es) v w h = set_by test (test e.0) e es v w refl h (λ g. set_there test es v w g)

other_by : {K X : Type 0} (test other : K → Bool) (b : Bool) (e : K × X) (es : List (K × X)) (w : X) → test e.0 ≡ b → (b ≡ true → other e.0 ≡ false)
    → lookup other (set_value test es w) ≡ lookup other es → lookup other (set_value test (e ∷ es) w) ≡ lookup other (e ∷ es)
other_by test other true e es w is apart later = rw is (rw (apart refl) refl)
other_by test other false e es w is apart later = rw is (ap (λ o. cond (other e.0) (Some e.1) o) later)

set_other : {K X : Type 0} (test other : K → Bool) (es : List (K × X)) (w : X) → ((x : K) → test x ≡ true → other x ≡ false) → lookup other (set_value test es w) ≡ lookup other es
set_other test other [] w apart = refl
set_other test other (e ∷ es) w apart = other_by test other (test e.0) e es w refl (apart e.0) (set_other test other es w apart)

insert_by : {K X : Type 0} (R : K → K → Ordering) (o : Ordering) (e : K × X) (es : List (K × X)) (k : K) (w : X) → R k k ≡ Equal → R k e.0 ≡ o
    → lookup (is_at (R k)) (insert_entry R es k w) ≡ Some w → lookup (is_at (R k)) (insert_entry R (e ∷ es) k w) ≡ Some w
insert_by R Less e es k w same is later = rw is (rw same refl)
insert_by R Equal e es k w same is later = rw is (rw is refl)
insert_by R Greater e es k w same is later = rw is (rw is later)

-- what was inserted at a key is there
pub insert_there : {K X : Type 0} (R : K → K → Ordering) (es : List (K × X)) (k : K) (w : X) → R k k ≡ Equal → lookup (is_at (R k)) (insert_entry R es k w) ≡ Some w
insert_there R [] k w same = rw same refl
insert_there R (e ∷ es) k w same = insert_by R (R k e.0) e es k w same refl (insert_there R es k w same)

-- a changed value is at its key
pub changed_there : {V : Type 0} (key : Key) (f : V → V) (table : List (Key × V)) (v : V) → at_key table key ≡ Some v → at_key (changed_at key f table) key ≡ Some (f v)
changed_there key f table v there = rw there (set_there (is_at (key_cmp key)) table v (f v) there)

-- where nothing is, nothing changes
pub changed_none : {V : Type 0} (key : Key) (f : V → V) (table : List (Key × V)) → at_key table key ≡ None → changed_at key f table ≡ table
changed_none key f table none = rw none refl

pub false_by : (b : Bool) → (b ≡ true → ⊥) → b ≡ false
false_by true never = absurd (never refl)
false_by false never = refl

pub other_key : (j k x : Key) → (k ≡ j → ⊥) → is_at (key_cmp j) x ≡ true → is_at (key_cmp k) x ≡ false
other_key j k x differ e = false_by (is_at (key_cmp k) x) (λ g. differ (at_tie k x g ∙ sym (at_tie j x e)))

changed_by : {V : Type 0} (j k : Key) (f : V → V) (table : List (Key × V)) (o : Option V) → (k ≡ j → ⊥) → at_key (option_map_or (λ v. set_value (is_at (key_cmp j)) table (f v)) o table) k ≡ at_key table k
changed_by j k f table None differ = refl
changed_by j k f table (Some v) differ = set_other (is_at (key_cmp j)) (is_at (key_cmp k)) table (f v) (λ x e. other_key j k x differ e)

-- what is at another key is as it was
pub changed_other : {V : Type 0} (j k : Key) (f : V → V) (table : List (Key × V)) → (k ≡ j → ⊥) → at_key (changed_at j f table) k ≡ at_key table k
changed_other j k f table differ = changed_by j k f table (at_key table j) differ

or_false : (a b : Bool) → (a || b) ≡ false → (a ≡ false) × (b ≡ false)
or_false true b e = absurd cc
or_false false b e = (refl, e)

here_or_later : {V : Type 0} (b : Bool) (v w : V) (o : Option V) → cond b (Some v) o ≡ Some w → (v ≡ w) ⊎ (o ≡ Some w)
here_or_later true v w o e = inl cc
here_or_later false v w o e = inr e

fails_by : {V : Type 0} (test : V → Bool) (v w : V) (o : Option V) → (v ≡ w) ⊎ (o ≡ Some w) → test v ≡ false → (o ≡ Some w → test w ≡ false) → test w ≡ false
fails_by test v w o (inl same) here later = subst (λ x. test x ≡ false) same here
fails_by test v w o (inr there) here later = later there

-- what is at a key fails a test that no value passes
pub none_passes : {V : Type 0} (test : V → Bool) (k : Key) (table : List (Key × V)) (v : V) → list_any (λ e. test e.1) table ≡ false → at_key table k ≡ Some v → test v ≡ false
none_passes test k [] v none there = absurd cc
none_passes test k (e ∷ es) v none there =
    let p = or_false (test e.1) (list_any (λ d. test d.1) es) none in
    fails_by test e.1 v (at_key es k) (here_or_later (is_at (key_cmp k) e.0) e.1 v (at_key es k) there) p.0 (λ later. none_passes test k es v p.1 later)
