-- Counter sets by their names: whether a name appears twice, and which draws they have.
use Rattle.std.proofs.Common.{ℕ, ◌≡◌, ◌∙◌, List, [], ◌∷◌, Bool, true, false, not, cond, ◌&&◌, ◌||◌, Option, None, Some, refl, sym, ap, ap₂, if◌then◌else◌}
use Rattle.std.specs.BTreeMap.{insert_entry}
use Rattle.std.specs.Cmp.Lexicographic.{nat_list_eq_equiv, same_text, texts_ties}
use Rattle.std.specs.List.{list_all, list_any}
use Rattle.std.specs.Option.{is_some}
use Rattle.api_slice.specs.declared.types.CounterSet.{CounterSet}
use Rattle.api_slice.specs.declared.types.ResourceSlice.{ResourceSlice}
use Rattle.pool_view.specs.Names.{at_name, text_cmp, text_eq}
use Rattle.pool_view.specs.Pools.{draws_are_there, has_each, has_twice, is_there, set_named, set_names}
use Rattle.pool_view.specs.Sets.{NamedSets, has_all_draws, has_draw, has_draws, named_with}
use Rattle.pool_view.proofs.Found.{at_insert}
use Rattle.pool_view.proofs.PoolGroups.{texts_exact}
use Rattle.pool_view.proofs.Twice.{arrange, split}

named_at : (named : NamedSets) (s : CounterSet) (n : List ℕ) → at_name (insert_entry text_cmp named s.name s) n ≡ cond (text_eq n s.name) (Some s) (at_name named n)
named_at named s n =
    at_insert text_cmp texts_exact named s.name n s ∙ ap (λ (b : Bool). cond b (Some s) (at_name named n)) (sym (texts_ties n s.name))

-- ---- whether a name appears twice

abbrev is_in : NamedSets → List ℕ → Bool
is_in named n = is_some (at_name named n)

some_or : (b : Bool) (s : CounterSet) (o : Option CounterSet) → is_some (cond b (Some s) o) ≡ (b || is_some o)
some_or true s o = refl
some_or false s o = refl

in_put : (named : NamedSets) (s : CounterSet) (n : List ℕ) → is_in (insert_entry text_cmp named s.name s) n ≡ (text_eq n s.name || is_in named n)
in_put named s n = ap is_some (named_at named s n) ∙ some_or (text_eq n s.name) s (at_name named n)

any_put : (named : NamedSets) (s : CounterSet) (ns : List (List ℕ)) → list_any (is_in (insert_entry text_cmp named s.name s)) ns ≡ (list_any (λ m. text_eq m s.name) ns || list_any (is_in named) ns)
any_put named s [] = refl
any_put named s (n ∷ ns) =
    ap (λ (b : Bool). b || list_any (is_in (insert_entry text_cmp named s.name s)) ns) (in_put named s n)
    ∙ ap (λ (b : Bool). (text_eq n s.name || is_in named n) || b) (any_put named s ns) ∙ split (text_eq n s.name) (is_in named n) (list_any (λ m. text_eq m s.name) ns) (list_any (is_in named) ns)

named_step : (b a w t v : Bool) (o : Option NamedSets) → v ≡ (a || w) → is_some o ≡ not (v || t) → is_some (if b then None else o) ≡ not ((b || w) || (a || t))
named_step true a w t v o e h = refl
named_step false a w t v o e h = h ∙ ap (λ (c : Bool). not (c || t)) e ∙ ap not (arrange false a w t)

named_if : (named : NamedSets) (ss : List CounterSet) → is_some (named_with named ss) ≡ not (list_any (is_in named) (set_names ss) || has_twice (set_names ss))
named_if named [] = refl
named_if named (s ∷ ss) =
    named_step (is_in named s.name) (list_any (λ m. text_eq m s.name) (set_names ss)) (list_any (is_in named) (set_names ss)) (has_twice (set_names ss))
    (list_any (is_in (insert_entry text_cmp named s.name s)) (set_names ss)) (named_with (insert_entry text_cmp named s.name s) ss) (any_put named s (set_names ss))
    (named_if (insert_entry text_cmp named s.name s) ss)

none_in : (ns : List (List ℕ)) → list_any (is_in []) ns ≡ false
none_in [] = refl
none_in (n ∷ ns) = none_in ns

once_if : (ss : List CounterSet) → is_some (named_with [] ss) ≡ not (has_twice (set_names ss))
once_if ss = named_if [] ss ∙ ap (λ (b : Bool). not (b || has_twice (set_names ss))) (none_in (set_names ss))

-- ---- which set is at a name

abbrev or_set : Option CounterSet → Option CounterSet → Option CounterSet
or_set (Some s) later = Some s
or_set None later = later

not_in : (o : Option CounterSet) → is_some o ≡ false → o ≡ None
not_in None e = refl
not_in (Some s) e = absurd (cc)

found_step : (b : Bool) (named : NamedSets) (s : CounterSet) (n : List ℕ) (later : Option CounterSet) → text_eq n s.name ≡ b → is_in named s.name ≡ false
    → or_set (cond b (Some s) (at_name named n)) later ≡ or_set (at_name named n) (cond b (Some s) later)
found_step true named s n later e out =
    let none : at_name named n ≡ None = ap (at_name named) (same_text n s.name (sym e)) ∙ not_in (at_name named s.name) out in
    sym (ap (λ (o : Option CounterSet). or_set o (Some s)) none)
found_step false named s n later e out = refl

found_by : (b : Bool) (named : NamedSets) (s : CounterSet) (ss : List CounterSet) (all : NamedSets) (n : List ℕ) → is_in named s.name ≡ b
    → (if b then None else named_with (insert_entry text_cmp named s.name s) ss) ≡ Some all
    → (named_with (insert_entry text_cmp named s.name s) ss ≡ Some all → at_name all n ≡ or_set (at_name (insert_entry text_cmp named s.name s) n) (set_named ss n))
    → at_name all n ≡ or_set (at_name named n) (set_named (s ∷ ss) n)
found_by true named s ss all n out e later = absurd (cc)
found_by false named s ss all n out e later =
    later e
    ∙ ap (λ (o : Option CounterSet). or_set o (set_named ss n)) (named_at named s n)
    ∙ found_step (text_eq n s.name) named s n (set_named ss n) refl out
    ∙ ap (λ (b : Bool). or_set (at_name named n) (cond b (Some s) (set_named ss n))) (nat_list_eq_equiv.symm n s.name)

same_sets : (a b : NamedSets) → Some a ≡ Some b → a ≡ b
same_sets a b e = cc

or_none : (o : Option CounterSet) → o ≡ or_set o None
or_none None = refl
or_none (Some s) = refl

found : (named : NamedSets) (ss : List CounterSet) (all : NamedSets) (n : List ℕ) → named_with named ss ≡ Some all → at_name all n ≡ or_set (at_name named n) (set_named ss n)
found named [] all n e = ap (λ (t : NamedSets). at_name t n) (sym (same_sets named all e)) ∙ or_none (at_name named n)
found named (s ∷ ss) all n e = found_by (is_in named s.name) named s ss all n refl e (λ f. found (insert_entry text_cmp named s.name s) ss all n f)

-- ---- which draws they have

all_same : {X : Type 0} (p q : X → Bool) (xs : List X) → ((x : X) → p x ≡ q x) → list_all p xs ≡ list_all q xs
all_same p q [] h = refl
all_same p q (x ∷ xs) h = ap₂ (λ (a b : Bool). a && b) (h x) (all_same p q xs h)

draws_same : (ss : List CounterSet) (all : NamedSets) (xs : List ResourceSlice) → ((n : List ℕ) → at_name all n ≡ set_named ss n) → list_all (has_all_draws all) xs ≡ draws_are_there ss xs
draws_same ss all xs h =
    all_same (has_all_draws all) (λ x. list_all (λ d. list_all (is_there ss) d.consumes) x.devices) xs
    (λ x. all_same (has_draws all) (λ d. list_all (is_there ss) d.consumes) x.devices
    (λ d. all_same (has_draw all) (is_there ss) d.consumes (λ c. ap (λ (o : Option CounterSet). has_each o c.amounts) (h c.set))))

pub not_named : (ss : List CounterSet) (xs : List ResourceSlice) → None ≡ named_with [] ss → false ≡ (not (has_twice (set_names ss)) && draws_are_there ss xs)
not_named ss xs e = ap (λ (b : Bool). b && draws_are_there ss xs) (ap is_some e ∙ once_if ss)

pub named_drawn : (ss : List CounterSet) (xs : List ResourceSlice) (all : NamedSets) → Some all ≡ named_with [] ss
    → list_all (has_all_draws all) xs ≡ (not (has_twice (set_names ss)) && draws_are_there ss xs)
named_drawn ss xs all e =
    draws_same ss all xs (λ n. found [] ss all n (sym e)) ∙ ap (λ (b : Bool). b && draws_are_there ss xs) (ap is_some e ∙ once_if ss)
