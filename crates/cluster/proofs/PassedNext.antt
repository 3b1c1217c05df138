-- A list of nodes that weren't taken, with one node more, and what its causes say of it.
use Rattle.std.proofs.Common.{ℕ, ◌+◌, ◌≤◌, ◌<◌, ◌≡◌, ◌≢◌, ◌∙◌, ◌==◌, zero, suc, Bool, true, false, ◌||◌, cond, List, [], ◌∷◌, ◌++◌, Option, None, Some, length, take, slice_get, refl, sym, ap, subst, arith, add-one}
use Rattle.std.proofs.lemmas.Bool.Decides.{nat_tests}
use Rattle.std.specs.List.{list_any}
use Rattle.std.specs.Prelude.{IfSome}
use Rattle.cluster.specs.declared.passed.NodeCause.{NodeCause}
use Rattle.cluster.specs.declared.plan.Cause.{Cause}
use Rattle.cluster.specs.declared.plan.Cause.TheVariants as cause
use Rattle.cluster.specs.declared.plan.Passed.{Passed}
use Rattle.cluster.specs.PassedOver.{AreWithin, ArePassed, PassedFields, cause_or_unsat, later_causes, names_of, next_cause, one_more, passed_from, with_cause}

-- ---- indexes

is_it : (m n : ℕ) → (m == n) ≡ true → m ≡ n
is_it m n e = grind (arith, nat_tests)

not_it : (m n : ℕ) → (m == n) ≡ false → m ≢ n
not_it m n e = grind (arith, nat_tests)

itself : (m n : ℕ) → m ≡ n → (m == n) ≡ true
itself m n e = grind (arith, nat_tests)

other : (m n : ℕ) → n < m → (m == n) ≡ false
other m n h = grind (arith, nat_tests)

none_within : (n m : ℕ) (cs : List NodeCause) → m ≤ n → AreWithin n m cs → cs ≡ []
none_within n m [] le h = refl
none_within n m (c ∷ cs) le h = absurd (omega (arith, h.0, h.1))

later_by : (b : Bool) (n m : ℕ) (c : NodeCause) (cs : List NodeCause) → (c.index == n) ≡ b → AreWithin n m (c ∷ cs) → AreWithin (n + 1) m (cond b cs (c ∷ cs))
later_by true n m c cs is h = subst (λ i. AreWithin (i + 1) m cs) (is_it c.index n is) h.2
later_by false n m c cs is h =
    let ne = not_it c.index n is in
    (omega (arith, h.0, ne), h.1, h.2)

later_within : (n m : ℕ) (cs : List NodeCause) → AreWithin n m cs → AreWithin (n + 1) m (later_causes cs n)
later_within n m [] h = tt
later_within n m (c ∷ cs) h = later_by (c.index == n) n m c cs refl h

-- ---- one node more, without a cause

abbrev pub the_item : List ℕ → Cause → Passed
the_item name why = record { node = name; cause = why }

unsat_more : (n m : ℕ) (names : List (List ℕ)) (name : List ℕ) (cs : List NodeCause) → m ≡ n + length names → AreWithin n m cs
    → passed_from n (names ++ name ∷ []) cs ≡ passed_from n names cs ++ the_item name cause.Unsat ∷ []
unsat_more n m [] name cs is h = rw (none_within n m cs (omega (arith, is)) h) refl
unsat_more n m (x ∷ names) name cs is h =
    ap (λ (l : List Passed). the_item x (cause_or_unsat (next_cause cs n)) ∷ l)
    (unsat_more (n + 1) m names name (later_causes cs n) (omega (arith, is)) (later_within n m cs h))

-- ---- one node more, with a cause

next_kept : (n m : ℕ) (k : NodeCause) (cs : List NodeCause) → n < k.index → next_cause (cs ++ k ∷ []) n ≡ next_cause cs n
next_kept n m k [] lt = rw (other k.index n lt) refl
next_kept n m k (c ∷ cs) lt = refl

later_by_kept : (b : Bool) (k c : NodeCause) (cs : List NodeCause) → cond b (cs ++ k ∷ []) (c ∷ cs ++ k ∷ []) ≡ cond b cs (c ∷ cs) ++ k ∷ []
later_by_kept true k c cs = refl
later_by_kept false k c cs = refl

later_kept : (n : ℕ) (k : NodeCause) (cs : List NodeCause) → n < k.index → later_causes (cs ++ k ∷ []) n ≡ later_causes cs n ++ k ∷ []
later_kept n k [] lt = rw (other k.index n lt) refl
later_kept n k (c ∷ cs) lt = later_by_kept (c.index == n) k c cs

cause_more : (n : ℕ) (k : NodeCause) (names : List (List ℕ)) (name : List ℕ) (cs : List NodeCause) → k.index ≡ n + length names → AreWithin n k.index cs
    → passed_from n (names ++ name ∷ []) (cs ++ k ∷ []) ≡ passed_from n names cs ++ the_item name k.cause ∷ []
cause_more n k [] name cs is h = rw (none_within n k.index cs (omega (arith, is)) h, itself k.index n (omega (arith, is))) refl
cause_more n k (x ∷ names) name cs is h =
    let lt : n < k.index = omega (arith, is) in
    let more = cause_more (n + 1) k names name (later_causes cs n) (omega (arith, is)) (later_within n k.index cs h) in
    ap (λ (o : Option Cause). the_item x (cause_or_unsat o) ∷ passed_from (n + 1) (names ++ name ∷ []) (later_causes (cs ++ k ∷ []) n)) (next_kept n n k cs lt)
    ∙ ap (λ (l : List NodeCause). the_item x (cause_or_unsat (next_cause cs n)) ∷ passed_from (n + 1) (names ++ name ∷ []) l) (later_kept n k cs lt)
    ∙ ap (λ (l : List Passed). the_item x (cause_or_unsat (next_cause cs n)) ∷ l) more

more_by : (m : ℕ) (names : List (List ℕ)) (name : List ℕ) (cs : List NodeCause) (why : Cause) → m ≡ length names → AreWithin 0 m cs
    → passed_from 0 (names ++ name ∷ []) (with_cause cs m why) ≡ passed_from 0 names cs ++ the_item name why ∷ []
more_by m names name cs cause.Unsat is h = unsat_more 0 m names name cs (omega (arith, is)) h
more_by m names name cs (cause.Fault fault) is h = cause_more 0 (record { index = m; cause = cause.Fault fault }) names name cs (omega (arith, is)) h
more_by m names name cs (cause.Budget steps) is h = cause_more 0 (record { index = m; cause = cause.Budget steps }) names name cs (omega (arith, is)) h
more_by m names name cs (cause.Other claim) is h = cause_more 0 (record { index = m; cause = cause.Other claim }) names name cs (omega (arith, is)) h

-- ---- what is kept

wider : (n m : ℕ) (cs : List NodeCause) → AreWithin n m cs → AreWithin n (m + 1) cs
wider n m [] h = tt
wider n m (c ∷ cs) h = (h.0, omega (arith, h.1), wider (c.index + 1) m cs h.2)

one_within : (n m : ℕ) (why : Cause) (cs : List NodeCause) → n ≤ m → AreWithin n m cs → AreWithin n (m + 1) (cs ++ record { index = m; cause = why } ∷ [])
one_within n m why [] le h = (le, omega arith, tt)
one_within n m why (c ∷ cs) le h = (h.0, omega (arith, h.1), one_within (c.index + 1) m why cs (omega (arith, h.1)) h.2)

within_more : (m : ℕ) (cs : List NodeCause) (why : Cause) → AreWithin 0 m cs → AreWithin 0 (m + 1) (with_cause cs m why)
within_more m cs cause.Unsat h = wider 0 m cs h
within_more m cs (cause.Fault fault) h = one_within 0 m (cause.Fault fault) cs (omega arith) h
within_more m cs (cause.Budget steps) h = one_within 0 m (cause.Budget steps) cs (omega arith) h
within_more m cs (cause.Other claim) h = one_within 0 m (cause.Other claim) cs (omega arith) h

pub kept_more : (names : List (List ℕ)) (m : ℕ) (cs : List NodeCause) (why : Cause) → m < length names → ArePassed names m cs → ArePassed names (m + 1) (with_cause cs m why)
kept_more names m cs why lt h = record { named = omega (arith, lt); within = within_more m cs why h.within }

-- ---- the names

take_one : (k : ℕ) (names : List (List ℕ)) (name : List ℕ) → slice_get names k ≡ Some name → take (suc k) names ≡ take k names ++ name ∷ []
take_one k [] name e = absurd (cc)
take_one zero (x ∷ names) name e = cc
take_one (suc k) (x ∷ names) name e = ap (λ (l : List (List ℕ)). x ∷ l) (take_one k names name e)

take_length : (k : ℕ) (names : List (List ℕ)) → k ≤ length names → length (take k names) ≡ k
take_length zero names le = refl
take_length (suc k) [] le = absurd (omega arith)
take_length (suc k) (x ∷ names) le = ap suc (take_length k names (omega arith))

pub passed_length : (n : ℕ) (names : List (List ℕ)) (cs : List NodeCause) → length (passed_from n names cs) ≡ length names
passed_length n [] cs = refl
passed_length n (x ∷ names) cs = ap suc (passed_length (n + 1) names (later_causes cs n))

pub passed_names : (n : ℕ) (names : List (List ℕ)) (cs : List NodeCause) → names_of (passed_from n names cs) ≡ names
passed_names n [] cs = refl
passed_names n (x ∷ names) cs = ap (λ (l : List (List ℕ)). x ∷ l) (passed_names (n + 1) names (later_causes cs n))

-- as many nodes as were put there
pub how_many : (names : List (List ℕ)) (m : ℕ) (cs : List NodeCause) → ArePassed names m cs → length (passed_from 0 (take m names) cs) ≡ m
how_many names m cs h = passed_length 0 (take m names) cs ∙ take_length m names h.named

-- the list with the next node
pub node_more : (names : List (List ℕ)) (m : ℕ) (cs : List NodeCause) (why : Cause) (name : List ℕ) → ArePassed names m cs → slice_get names m ≡ Some name
    → passed_from 0 (take (m + 1) names) (with_cause cs m why) ≡ passed_from 0 (take m names) cs ++ the_item name why ∷ []
node_more names m cs why name h at =
    ap (λ (l : List (List ℕ)). passed_from 0 l (with_cause cs m why)) (ap (λ (i : ℕ). take i names) (add-one m) ∙ take_one m names name at)
    ∙ more_by m (take m names) name cs why (sym (take_length m names h.named)) h.within

-- ---- a list as its model has it

abbrev fields : List (List ℕ) → List Passed → PassedFields
fields names nodes = record { names = names; nodes = nodes }

-- a name is left for the next node
pub name_left : (p : PassedFields) (names : List (List ℕ)) (m : ℕ) (cs : List NodeCause) → ArePassed names m cs → record { names = names; nodes = passed_from 0 (take m names) cs } ≡ p
    → length p.nodes < length p.names → m < length names
name_left p names m cs h is lt =
    let now : length (passed_from 0 (take m names) cs) < length names = subst (λ (q : PassedFields). length q.nodes < length q.names) (sym is) lt in
    omega (arith, now, how_many names m cs h)

some_more : (p : PassedFields) (names : List (List ℕ)) (m : ℕ) (cs new : List NodeCause) (why : Cause) (o : Option (List ℕ)) → ArePassed names m cs
    → record { names = names; nodes = passed_from 0 (take m names) cs } ≡ p → slice_get names m ≡ o → new ≡ with_cause cs m why
    → IfSome o (λ name. record { names = names; nodes = passed_from 0 (take (m + 1) names) new } ≡ one_more p name why)
some_more p names m cs new why None h is at kept = tt
some_more p names m cs new why (Some name) h is at kept =
    ap (λ (l : List NodeCause). fields names (passed_from 0 (take (m + 1) names) l)) kept
    ∙ ap (λ (l : List Passed). fields names l) (node_more names m cs why name h at)
    ∙ ap (λ (q : PassedFields). one_more q name why) is

pub pushed : (p : PassedFields) (names : List (List ℕ)) (m : ℕ) (cs new : List NodeCause) (why : Cause) → ArePassed names m cs
    → record { names = names; nodes = passed_from 0 (take m names) cs } ≡ p → new ≡ with_cause cs m why
    → IfSome (slice_get p.names (length p.nodes)) (λ name. record { names = names; nodes = passed_from 0 (take (m + 1) names) new } ≡ one_more p name why)
pushed p names m cs new why h is kept =
    let same : slice_get names m ≡ slice_get p.names (length p.nodes) =
    ap (λ (i : ℕ). slice_get names i) (sym (how_many names m cs h)) ∙ ap (λ (q : PassedFields). slice_get q.names (length q.nodes)) is in
    some_more p names m cs new why (slice_get p.names (length p.nodes)) h is same kept

pub causes_are : (ps : List Passed) (names : List (List ℕ)) (cs kept : List NodeCause) → kept ≡ cs → passed_from 0 names cs ≡ ps → passed_from 0 (names_of ps) kept ≡ ps
causes_are ps names cs kept same is =
    ap (λ (l : List NodeCause). passed_from 0 (names_of ps) l) same
    ∙ ap (λ (l : List (List ℕ)). passed_from 0 l cs) (ap names_of (sym is) ∙ passed_names 0 names cs)
    ∙ is

-- ---- tests that pass no node without a cause

module _ (test : Cause → Bool) (not_unsat : test cause.Unsat ≡ false) where
  any_by : (b : Bool) (n : ℕ) (c : NodeCause) (cs : List NodeCause) (rest : Bool) → (c.index == n) ≡ b → rest ≡ list_any (λ (k : NodeCause). test k.cause) (cond b cs (c ∷ cs))
      → (test (cause_or_unsat (cond b (Some c.cause) None)) || rest) ≡ list_any (λ (k : NodeCause). test k.cause) (c ∷ cs)
  any_by true n c cs rest is e = rw e refl
  any_by false n c cs rest is e = rw (not_unsat, e) refl

  any_from : (n m : ℕ) (names : List (List ℕ)) (cs : List NodeCause) → m ≡ n + length names → AreWithin n m cs
      → list_any (λ (p : Passed). test p.cause) (passed_from n names cs) ≡ list_any (λ (k : NodeCause). test k.cause) cs
  any_from n m [] cs is h = rw (none_within n m cs (omega (arith, is)) h) refl
  any_from n m (x ∷ names) [] is h = rw (not_unsat) (any_from (n + 1) m names [] (omega (arith, is)) tt)
  any_from n m (x ∷ names) (c ∷ cs) is h =
      any_by (c.index == n) n c cs (list_any (λ (p : Passed). test p.cause) (passed_from (n + 1) names (later_causes (c ∷ cs) n))) refl
      (any_from (n + 1) m names (later_causes (c ∷ cs) n) (omega (arith, is)) (later_within n m (c ∷ cs) h))

  pub any_node : (names : List (List ℕ)) (m : ℕ) (cs : List NodeCause) → ArePassed names m cs
      → list_any (λ (p : Passed). test p.cause) (passed_from 0 (take m names) cs) ≡ list_any (λ (k : NodeCause). test k.cause) cs
  any_node names m cs h = any_from 0 m (take m names) cs (omega (arith, take_length m names h.named)) h.within
