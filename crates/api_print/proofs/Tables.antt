-- Tables with texts as keys, printed and read.
use Rattle.std.proofs.Common.{◌≡◌, ℕ, Ordering, List, [], ◌∷◌, ◌++◌, Less, Greater, Ok, refl, ap, ◌∙◌, append_assoc}
use Rattle.std.proofs.lemmas.Cmp.{nat_list_cmp_total}
use Rattle.std.proofs.lemmas.List.{append-nil}
use Rattle.std.specs.BTreeMap.{insert_entry}
use Rattle.std.specs.Cmp.{IsTotalOrder}
use Rattle.std.specs.Cmp.Lexicographic.{slice_cmp}
use Rattle.std.specs.List.{AllByRecursion}
use Rattle.std.specs.List.Sorted.{IsStrictlySortedBy}
use Rattle.std.specs.Map.{keys_of}
use Rattle.std.specs.Ordering.{nat_cmp, ordering_reverse}
use Rattle.serde_json.specs.Data.{Data, string, Members, no_members, member, put}
use Rattle.object_fields.specs.Meta.{labels_with}
use Rattle.object_fields.specs.declared.path.Step.{Step}
use Rattle.api_print.specs.Shapes.{own_text, with_entries}

-- a member for each entry, in the same order
abbrev pub in_order : {V : Type 0} → (V → Data) → List (List ℕ × V) → Members
in_order json [] = no_members
in_order json (e ∷ es) = member e.0 (json e.1) (in_order json es)

below_later : {K V : Type 0} (R : K → K → Ordering) (first : K × V) (es : List (K × V)) (e : K × V) (more : List (K × V)) → AllByRecursion (λ y. R first.0 y ≡ Less) (keys_of (es ++ e ∷ more)) → R first.0 e.0 ≡ Less
below_later R first [] e more h = h.0
below_later R first (x ∷ xs) e more h = below_later R first xs e more h.1

put_last : {V : Type 0} (json : V → Data) (done : List (List ℕ × V)) (e : List ℕ × V) (more : List (List ℕ × V)) → IsStrictlySortedBy (slice_cmp nat_cmp) (keys_of (done ++ e ∷ more))
    → put e.0 (json e.1) (in_order json done) ≡ in_order json (done ++ e ∷ [])
unfolding IsStrictlySortedBy
put_last json [] e more h = refl
put_last json (first ∷ done) e more h =
    let above : slice_cmp nat_cmp e.0 first.0 ≡ Greater = nat_list_cmp_total.antisymm e.0 first.0 ∙ ap ordering_reverse (below_later (slice_cmp nat_cmp) first done e more h.0) in
    rw above (ap (member first.0 (json first.1)) (put_last json done e more h.1))

-- what is put in behind all others goes last
pub insert_last : {K V : Type 0} (R : K → K → Ordering) → IsTotalOrder R → (done : List (K × V)) (e : K × V) (more : List (K × V)) → IsStrictlySortedBy R (keys_of (done ++ e ∷ more)) → insert_entry R done e.0 e.1 ≡ done ++ e ∷ []
unfolding IsStrictlySortedBy
insert_last R total [] e more h = refl
insert_last R total (first ∷ done) e more h =
    let above : R e.0 first.0 ≡ Greater = total.antisymm e.0 first.0 ∙ ap ordering_reverse (below_later R first done e more h.0) in
    rw above (ap (λ es. first ∷ es) (insert_last R total done e more h.1))

-- the entries put in are the members in the same order
pub entries_in_order : {V : Type 0} (json : V → Data) (done es : List (List ℕ × V)) → IsStrictlySortedBy (slice_cmp nat_cmp) (keys_of (done ++ es)) → with_entries own_text json (in_order json done) es ≡ in_order json (done ++ es)
entries_in_order json done [] h = rw (append-nil done) refl
entries_in_order json done (e ∷ es) h =
    let same : (done ++ e ∷ []) ++ es ≡ done ++ e ∷ es = append_assoc done (e ∷ []) es in
    let sorted : IsStrictlySortedBy (slice_cmp nat_cmp) (keys_of ((done ++ e ∷ []) ++ es)) = rw same h in
    rw (put_last json done e es h) (entries_in_order json (done ++ e ∷ []) es sorted ∙ ap (in_order json) same)

labels_read : (path : List Step) (done es : List (List ℕ × List ℕ)) → IsStrictlySortedBy (slice_cmp nat_cmp) (keys_of (done ++ es)) → labels_with path done (in_order string es) ≡ Ok (done ++ es)
labels_read path done [] h = rw (append-nil done) refl
labels_read path done (e ∷ es) h =
    let same : (done ++ e ∷ []) ++ es ≡ done ++ e ∷ es = append_assoc done (e ∷ []) es in
    let sorted : IsStrictlySortedBy (slice_cmp nat_cmp) (keys_of ((done ++ e ∷ []) ++ es)) = rw same h in
    rw (insert_last (slice_cmp nat_cmp) nat_list_cmp_total done e es h) (rw (← same) (labels_read path (done ++ e ∷ []) es sorted))

-- labels that are printed read as they are
pub labels_back : (path : List Step) (es : List (List ℕ × List ℕ)) → IsStrictlySortedBy (slice_cmp nat_cmp) (keys_of es) → labels_with path [] (with_entries own_text string no_members es) ≡ Ok es
labels_back path es h = rw (entries_in_order string [] es h) (labels_read path [] es h)
