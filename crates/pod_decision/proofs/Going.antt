-- One node after another.
use Rattle.std.proofs.Common.{ℕ, ◌+◌, ◌<◌, ◌≡◌, ◌∙◌, List, [], ◌∷◌, ◌++◌, Some, length, take, drop, get_or, refl, sym, ap, subst, append_assoc, arith}
use Rattle.std.specs.List.{AllByRecursion, Contains, slice_get}
use Rattle.std.specs.Map.{keys_of}
use Rattle.std.specs.Option.{IsSome}
use Rattle.std.proofs.lemmas.Cmp.{nat_list_cmp_total, eq_by_cmp_equiv}
use Rattle.std.proofs.lemmas.List.{length-take-le, take-append-drop, take_more}
use Rattle.std.proofs.lemmas.Map.Views.{IsSome-lookup_from_Contains}
use Rattle.std.proofs.lemmas.Option.{slice_get_read}
use Rattle.pool_view.specs.Names.{at_name}
use Rattle.cluster.specs.declared.plan.Cause.{Cause}
use Rattle.cluster.specs.declared.plan.Passed.{Passed}
use Rattle.plan_rules.specs.Plans.{nodes_of}

-- a name in a list of all of them is in the table
pub next_there : {V : Type 0} (table : List (List ℕ × V)) (names : List (List ℕ)) (i : ℕ) (name : List ℕ) → names ≡ keys_of table → i < length names → name ≡ get_or names i name → IsSome (at_name table name)
next_there {V} table names i name all within is =
    IsSome-lookup_from_Contains (eq_by_cmp_equiv nat_list_cmp_total) name table (subst (λ (l : List (List ℕ)). Contains l name) all (i, within, sym is))

nodes_many : (ps : List Passed) → length (nodes_of ps) ≡ length ps
nodes_many [] = refl
nodes_many (p ∷ ps) = let h = nodes_many ps in omega (arith, h)

-- as many nodes are passed over as there are names before the next one
passed_many : (ps : List Passed) (names : List (List ℕ)) (i : ℕ) → i < length names → nodes_of ps ≡ take i names → length ps ≡ i
passed_many ps names i within are = sym (nodes_many ps) ∙ ap length are ∙ length-take-le i names (omega (arith, within))

-- so the next one is at the index of their number
pub next_is : (ps : List Passed) (names all : List (List ℕ)) (i : ℕ) (name : List ℕ) → names ≡ all → i < length all → name ≡ get_or all i name → nodes_of ps ≡ take i all → slice_get names (length ps) ≡ Some name
next_is ps names all i name same within is are =
    ap (λ (l : List (List ℕ)). slice_get l (length ps)) same
    ∙ ap (λ (n : ℕ). slice_get all n) (passed_many ps all i within are)
    ∙ slice_get_read all (length all) i name refl within is

nodes_more : (ps : List Passed) (p : Passed) → nodes_of (ps ++ p ∷ []) ≡ nodes_of ps ++ p.node ∷ []
nodes_more [] p = refl
nodes_more (q ∷ ps) p = ap (λ l. q.node ∷ l) (nodes_more ps p)

one_more : (names : List (List ℕ)) (i : ℕ) (name : List ℕ) → i < length names → name ≡ get_or names i name → take (i + 1) names ≡ take i names ++ name ∷ []
one_more names i name within is = take_more names i name within ∙ ap (λ (n : List ℕ). take i names ++ n ∷ []) (sym is)

-- where the next one is passed too
pub names_more : (ps all : List Passed) (names : List (List ℕ)) (i : ℕ) (name : List ℕ) (cause : Cause) → i < length names → name ≡ get_or names i name
    → all ≡ ps ++ record { node = name; cause = cause } ∷ [] → nodes_of ps ≡ take i names → nodes_of all ≡ take (i + 1) names
names_more ps all names i name cause within is more are =
    ap (λ l. nodes_of l) more
    ∙ nodes_more ps (record { node = name; cause = cause })
    ∙ ap (λ l. l ++ name ∷ []) are
    ∙ sym (one_more names i name within is)

-- the names before the one that is taken, it, and those behind it
pub names_taken : (ps : List Passed) (names : List (List ℕ)) (i : ℕ) (name taken : List ℕ) → i < length names → name ≡ get_or names i name → taken ≡ name → nodes_of ps ≡ take i names
    → nodes_of ps ++ taken ∷ drop (i + 1) names ≡ names
names_taken ps names i name taken within is same are =
    ap (λ l. l ++ taken ∷ drop (i + 1) names) are
    ∙ ap (λ (n : List ℕ). take i names ++ n ∷ drop (i + 1) names) same
    ∙ sym (append_assoc (take i names) (name ∷ []) (drop (i + 1) names))
    ∙ ap (λ (l : List (List ℕ)). l ++ drop (i + 1) names) (sym (one_more names i name within is))
    ∙ take-append-drop (i + 1) names

each_more : {X : Type 0} (P : X → Type 0) (xs : List X) (x : X) → AllByRecursion P xs → P x → AllByRecursion P (xs ++ x ∷ [])
each_more P [] x a h = (h, tt)
each_more P (y ∷ xs) x a h = (a.0, each_more P xs x a.1 h)

pub causes_more : {X : Type 0} (P : X → Type 0) (xs all : List X) (x : X) → all ≡ xs ++ x ∷ [] → AllByRecursion P xs → P x → AllByRecursion P all
causes_more {X} P xs all x more a h = subst (λ (l : List X). AllByRecursion P l) (sym more) (each_more P xs x a h)
