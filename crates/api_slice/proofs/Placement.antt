-- Why the nodes of slices and of devices, and the node selectors, are as they should be.
use Rattle.std.proofs.Common.{◌≡◌, ℕ, ◌+◌, ◌≤◌, ◌≢◌, Bool, true, false, not, List, [], ◌∷◌, ◌++◌, length, Option, Some, None, Result, Ok, refl, length-append, ◌∙◌, arith, codes}
use Rattle.std.proofs.lemmas.Slice.Eq.{bytes_eq-Decides}
use Rattle.std.proofs.lemmas.List.Elements.{All-nil, All-cons, All-head, All-append}
use Rattle.std.specs.List.{All}
use Rattle.std.specs.Str.{bytes_eq}
use Rattle.serde_json.specs.Data.{Data, Items, no_items, item}
use Rattle.node_select.specs.declared.requirement.Requirement.{Requirement}
use Rattle.node_select.specs.declared.requirement.Test.{Test}
use Rattle.node_select.specs.declared.requirement.Test.TheVariants.{OneOf, NoneOf, Present, Absent, Above, Below}
use Rattle.node_select.specs.declared.selector.Selector.{Selector}
use Rattle.object_fields.specs.Fields.{error_at, field_at, field_error, list_at, member_of, object_value, optional_at, some_or, text_at, text_value, unless, ◌>>=◌}
use Rattle.object_fields.specs.Lists.{alone, each, each_from, items_or_none}
use Rattle.object_fields.specs.declared.error.FieldError.{FieldError}
use Rattle.object_fields.specs.declared.kind.FieldErrorKind.TheVariants.{NotOne, NotSupported}
use Rattle.object_fields.specs.declared.path.Step.{Step}
use Rattle.object_fields.specs.declared.path.Step.TheVariants as step
use Rattle.api_slice.specs.Limits.{HasValues, IsDue, IsExpression, IsField, IsNodes, IsSelector, IsSliceNodes, is_of_values}
use Rattle.api_slice.specs.Nodes.{all_set, as_due, device_nodes_of, everywhere, flag_at, named, node_name_at, not_empty, one_of_slice, only, places_at, selected, selector_at, slice_nodes_at}
use Rattle.api_slice.specs.Selectors.{expression_of, expressions_at, field_key_at, field_of, field_operator_at, fields_at, is_membership, no_texts, one_number, one_term, operator_at, selector_of, some_texts, term_of, test_at, test_of, values_at}
use Rattle.api_slice.specs.declared.nodes.Places.{Places}
use Rattle.api_slice.specs.declared.operator.Operator.{Operator}
use Rattle.api_slice.specs.declared.operator.Operator.TheVariants.{In, NotIn, Exists, DoesNotExist, Gt, Lt}
use Rattle.api_slice.specs.declared.types.Nodes.{Nodes}
use Rattle.api_slice.specs.declared.types.Nodes.TheVariants as nodes
use Rattle.api_slice.specs.declared.types.SliceNodes.{SliceNodes}
use Rattle.api_slice.specs.declared.types.SliceNodes.TheVariants as slice
use Rattle.api_slice.proofs.Readings.{gave, the_same, not_refused, kept, was_some, along, given, not_false}

-- ---- each item of a list

-- what the reading guarantees for one holds for all
each_keeps : {A : Type 0} (P : A → Type 0) (r : List Step → Data → Result A FieldError) → ((path : List Step) (d : Data) (x : A) → r path d ≡ Ok x → P x) →
    (path : List Step) (place : ℕ) (before : List A) (ds : Items) (xs : List A) → All P before → each_from (alone r) path place before ds ≡ Ok xs → All P xs
each_keeps P r one path place before no_items xs p h = along (All P) before xs (the_same before xs h) p
each_keeps P r one path place before (item d ds) xs p h =
    let g = gave (r (path ++ step.Place place ∷ []) d) (λ x. each_from (alone r) path (place + 1) (before ++ x ∷ []) ds) xs h in
    each_keeps P r one path (place + 1) (before ++ g.value ∷ []) ds xs
    (All-append P before (g.value ∷ []) p (All-cons P g.value [] (one (path ++ step.Place place ∷ []) d g.value g.first) (All-nil P))) g.second

each_longer : {A : Type 0} (r : List Step → Data → Result A FieldError) (path : List Step) (place : ℕ) (before : List A) (ds : Items) (xs : List A) → each_from (alone r) path place before ds ≡ Ok xs → length before ≤ length xs
each_longer r path place before no_items xs h = along (λ ys. length before ≤ length ys) before xs (the_same before xs h) (omega arith)
each_longer r path place before (item d ds) xs h =
    let g = gave (r (path ++ step.Place place ∷ []) d) (λ x. each_from (alone r) path (place + 1) (before ++ x ∷ []) ds) xs h in
    let l = each_longer r path (place + 1) (before ++ g.value ∷ []) ds xs g.second in
    let s = length-append before (g.value ∷ []) in
    omega (arith, l, s)

-- ---- tests

some_values : (path : List Step) (ds : Items) (texts : List (List ℕ)) → some_texts path ds ≡ Ok texts → 1 ≤ length texts
some_values path no_items texts h = absurd (let no_value : ⊥ = cc in no_value)
some_values path (item d ds) texts h =
    let g = gave (text_value (path ++ step.Place 0 ∷ []) d) (λ x. each_from (alone text_value) path 1 (x ∷ []) ds) texts h in
    each_longer text_value path 1 (g.value ∷ []) ds texts g.second

-- its values, and whether it is of In or of NotIn
record IsTest (operator : Operator) (t : Test) : Type 0 where
  values : HasValues t
  among : is_of_values t ≡ is_membership operator

a_test : (path : List Step) (ds : Items) (operator : Operator) (t : Test) → test_of path ds operator ≡ Ok t → IsTest operator t
a_test path ds In t h =
    let g = gave (some_texts path ds) (λ texts. Ok (OneOf texts)) t h in
    along (IsTest In) (OneOf g.value) t (the_same (OneOf g.value) t g.second) (record { values = some_values path ds g.value g.first; among = refl })
a_test path ds NotIn t h =
    let g = gave (some_texts path ds) (λ texts. Ok (NoneOf texts)) t h in
    along (IsTest NotIn) (NoneOf g.value) t (the_same (NoneOf g.value) t g.second) (record { values = some_values path ds g.value g.first; among = refl })
a_test path ds Exists t h =
    let g = gave (no_texts path ds) (λ nothing. Ok Present) t h in
    along (IsTest Exists) Present t (the_same Present t g.second) (record { values = tt; among = refl })
a_test path ds DoesNotExist t h =
    let g = gave (no_texts path ds) (λ nothing. Ok Absent) t h in
    along (IsTest DoesNotExist) Absent t (the_same Absent t g.second) (record { values = tt; among = refl })
a_test path ds Gt t h =
    let g = gave (one_number path ds) (λ n. Ok (Above n)) t h in
    along (IsTest Gt) (Above g.value) t (the_same (Above g.value) t g.second) (record { values = tt; among = refl })
a_test path ds Lt t h =
    let g = gave (one_number path ds) (λ n. Ok (Below n)) t h in
    along (IsTest Lt) (Below g.value) t (the_same (Below g.value) t g.second) (record { values = tt; among = refl })

test_read : (path : List Step) (d : Data) (operator : Operator) (t : Test) → test_at path d operator ≡ Ok t → IsTest operator t
test_read path d operator t h =
    let g = gave (values_at path d) (λ values. test_of (path ++ step.Member (codes "values") ∷ []) values operator) t h in
    a_test (path ++ step.Member (codes "values") ∷ []) g.value operator t g.second

-- ---- requirements

an_expression : (path : List Step) (value : Data) (r : Requirement) → expression_of path value ≡ Ok r → IsExpression r
an_expression path value r h =
    let d = gave (object_value path value) (λ d.
    text_at path (codes "key") d >>= λ key.
    operator_at path d >>= test_at path d >>= λ test.
    Ok (record { key = key; test = test })) r h in
    let k = gave (text_at path (codes "key") d.value) (λ key.
    operator_at path d.value >>= test_at path d.value >>= λ test.
    Ok (record { key = key; test = test })) r d.second in
    let t = gave (operator_at path d.value >>= test_at path d.value) (λ test. Ok (record { key = k.value; test = test })) r k.second in
    let o = gave (operator_at path d.value) (test_at path d.value) t.value t.first in
    let is = test_read path d.value o.value t.value o.second in
    let made : Requirement = record { key = k.value; test = t.value } in
    along IsExpression made r (the_same made r t.second) (record { values = is.values })

a_field_key : (path : List Step) (d : Data) (key : List ℕ) → field_key_at path d ≡ Ok key → key ≡ codes "metadata.name"
a_field_key path d key h =
    let g = gave (text_at path (codes "key") d) (λ k. unless (field_error path (codes "key") NotSupported) (not (bytes_eq k (codes "metadata.name"))) k) key h in
    let b = not_refused (field_error path (codes "key") NotSupported) (not (bytes_eq g.value (codes "metadata.name"))) g.value key g.second in
    let e = kept (field_error path (codes "key") NotSupported) (not (bytes_eq g.value (codes "metadata.name"))) g.value key g.second in
    along (λ k. k ≡ codes "metadata.name") g.value key e
    ((bytes_eq-Decides g.value (codes "metadata.name")).0 (not_false (bytes_eq g.value (codes "metadata.name")) b))

a_field_operator : (path : List Step) (d : Data) (o : Operator) → field_operator_at path d ≡ Ok o → is_membership o ≡ true
a_field_operator path d o h =
    let g = gave (operator_at path d) (λ x. unless (field_error path (codes "operator") NotSupported) (not (is_membership x)) x) o h in
    let b = not_refused (field_error path (codes "operator") NotSupported) (not (is_membership g.value)) g.value o g.second in
    let e = kept (field_error path (codes "operator") NotSupported) (not (is_membership g.value)) g.value o g.second in
    along (λ x. is_membership x ≡ true) g.value o e (not_false (is_membership g.value) b)

of_values : (t : Test) (o : Operator) → IsTest o t → is_membership o ≡ true → is_of_values t ≡ true
of_values t o is among = is.among ∙ among

a_field : (path : List Step) (value : Data) (r : Requirement) → field_of path value ≡ Ok r → IsField r
a_field path value r h =
    let d = gave (object_value path value) (λ d.
    field_key_at path d >>= λ key.
    field_operator_at path d >>= test_at path d >>= λ test.
    Ok (record { key = key; test = test })) r h in
    let k = gave (field_key_at path d.value) (λ key.
    field_operator_at path d.value >>= test_at path d.value >>= λ test.
    Ok (record { key = key; test = test })) r d.second in
    let t = gave (field_operator_at path d.value >>= test_at path d.value) (λ test. Ok (record { key = k.value; test = test })) r k.second in
    let o = gave (field_operator_at path d.value) (test_at path d.value) t.value t.first in
    let is = test_read path d.value o.value t.value o.second in
    let among = a_field_operator path d.value o.value o.first in
    let made : Requirement = record { key = k.value; test = t.value } in
    along IsField made r (the_same made r t.second)
    (record { key = a_field_key path d.value k.value k.first; operator = of_values t.value o.value is among; values = is.values })

-- ---- selectors

a_term : (path : List Step) (value : Data) (s : Selector) → term_of path value ≡ Ok s → IsSelector s
a_term path value s h =
    let d = gave (object_value path value) (λ d.
    expressions_at path d >>= λ expressions.
    fields_at path d >>= λ fields.
    Ok (record { expressions = expressions; fields = fields })) s h in
    let e = gave (expressions_at path d.value) (λ expressions.
    fields_at path d.value >>= λ fields.
    Ok (record { expressions = expressions; fields = fields })) s d.second in
    let f = gave (fields_at path d.value) (λ fields. Ok (record { expressions = e.value; fields = fields })) s e.second in
    let es = gave (optional_at list_at path (codes "matchExpressions") d.value) (λ items.
    each expression_of (path ++ step.Member (codes "matchExpressions") ∷ []) (items_or_none items)) e.value e.first in
    let fs = gave (optional_at list_at path (codes "matchFields") d.value) (λ items.
    each field_of (path ++ step.Member (codes "matchFields") ∷ []) (items_or_none items)) f.value f.first in
    let made : Selector = record { expressions = e.value; fields = f.value } in
    along IsSelector made s (the_same made s f.second)
    (record {
      expressions = each_keeps IsExpression expression_of an_expression (path ++ step.Member (codes "matchExpressions") ∷ []) 0 [] (items_or_none es.value) e.value (All-nil IsExpression) es.second;
      fields = each_keeps IsField field_of a_field (path ++ step.Member (codes "matchFields") ∷ []) 0 [] (items_or_none fs.value) f.value (All-nil IsField) fs.second;
    })

a_one_term : (path : List Step) (ds : Items) (s : Selector) → one_term path ds ≡ Ok s → IsSelector s
a_one_term path no_items s h = absurd (let no_value : ⊥ = cc in no_value)
a_one_term path (item d no_items) s h = a_term (path ++ step.Place 0 ∷ []) d s h
a_one_term path (item d (item e ds)) s h = absurd (let no_value : ⊥ = cc in no_value)

a_selector : (path : List Step) (value : Data) (s : Selector) → selector_of path value ≡ Ok s → IsSelector s
unfolding selector_of
a_selector path value s h =
    let l = gave (object_value path value >>= list_at path (codes "nodeSelectorTerms")) (one_term (path ++ step.Member (codes "nodeSelectorTerms") ∷ [])) s h in
    a_one_term (path ++ step.Member (codes "nodeSelectorTerms") ∷ []) l.value s l.second

a_selector_at : (path : List Step) (name : List ℕ) (d : Data) (s : Selector) → selector_at path name d ≡ Ok s → IsSelector s
a_selector_at path name d s h =
    let g = gave (field_at path name d) (selector_of (path ++ step.Member name ∷ [])) s h in
    a_selector (path ++ step.Member name ∷ []) g.value s g.second

-- ---- the members that say where devices are

record ArePlaces (p : Places) : Type 0 where
  names : (name : List ℕ) → p.name ≡ Some name → name ≢ []
  selectors : (s : Selector) → p.selector ≡ Some s → IsSelector s

a_name_of : (o : Option (List ℕ)) (name : List ℕ) → not_empty o ≡ Some name → name ≢ []
a_name_of None name h = absurd (let no_value : ⊥ = cc in no_value)
a_name_of (Some []) name h = absurd (let no_value : ⊥ = cc in no_value)
a_name_of (Some (b ∷ bs)) name h =
    let e : b ∷ bs ≡ name = cc in
    λ n. let no_value : ⊥ = cc in no_value

places_read : (path : List Step) (d : Data) (p : Places) → places_at path d ≡ Ok p → ArePlaces p
places_read path d p h =
    let n = gave (node_name_at path d) (λ name.
    optional_at selector_at path (codes "nodeSelector") d >>= λ selector.
    flag_at (codes "allNodes") path d >>= λ all.
    Ok (record { name = name; selector = selector; all = all })) p h in
    let s = gave (optional_at selector_at path (codes "nodeSelector") d) (λ selector.
    flag_at (codes "allNodes") path d >>= λ all.
    Ok (record { name = n.value; selector = selector; all = all })) p n.second in
    let a = gave (flag_at (codes "allNodes") path d) (λ all.
    Ok (record { name = n.value; selector = s.value; all = all })) p s.second in
    let o = gave (optional_at text_at path (codes "nodeName") d) (λ name. Ok (not_empty name)) n.value n.first in
    let e : not_empty o.value ≡ n.value = the_same (not_empty o.value) n.value o.second in
    let made : Places = record { name = n.value; selector = s.value; all = a.value } in
    along ArePlaces made p (the_same made p a.second)
    (record {
      names = λ name is. a_name_of o.value name (e ∙ is);
      selectors = given IsSelector (member_of (codes "nodeSelector") d) (selector_at path (codes "nodeSelector") d) s.value s.first (a_selector_at path (codes "nodeSelector") d);
    })

named_ones : (o : Option (List ℕ)) → ((name : List ℕ) → o ≡ Some name → name ≢ []) → All IsNodes (named o)
named_ones None h = All-nil IsNodes
named_ones (Some name) h = All-cons IsNodes (nodes.Named name) [] (h name refl) (All-nil IsNodes)

selected_ones : (o : Option Selector) → ((s : Selector) → o ≡ Some s → IsSelector s) → All IsNodes (selected o)
selected_ones None h = All-nil IsNodes
selected_ones (Some s) h = All-cons IsNodes (nodes.Selected s) [] (h s refl) (All-nil IsNodes)

all_ones : (b : Bool) → All IsNodes (everywhere b)
all_ones false = All-nil IsNodes
all_ones true = All-cons IsNodes nodes.All [] tt (All-nil IsNodes)

set_ones : (p : Places) → ArePlaces p → All IsNodes (all_set p)
set_ones p h =
    All-append IsNodes (named p.name ++ selected p.selector) (everywhere p.all)
    (All-append IsNodes (named p.name) (selected p.selector) (named_ones p.name h.names) (selected_ones p.selector h.selectors))
    (all_ones p.all)

only_one : (ns : List Nodes) (n : Nodes) → All IsNodes ns → only ns ≡ Some n → IsNodes n
only_one [] n a h = absurd (let no_value : ⊥ = cc in no_value)
only_one (x ∷ []) n a h = let e : x ≡ n = cc in along IsNodes x n e (All-head IsNodes x [] a)
only_one (x ∷ y ∷ zs) n a h = absurd (let no_value : ⊥ = cc in no_value)

-- ---- of a slice and of a device

one_of_four : (ns : List Nodes) (per_device : Bool) (n : SliceNodes) → All IsNodes ns → one_of_slice ns per_device ≡ Some n → IsSliceNodes n
one_of_four [] true n a h = let e : slice.PerDevice ≡ n = cc in along IsSliceNodes slice.PerDevice n e tt
one_of_four (x ∷ xs) true n a h = absurd (let no_value : ⊥ = cc in no_value)
one_of_four [] false n a h = absurd (let no_value : ⊥ = cc in no_value)
one_of_four (x ∷ []) false n a h = let e : slice.Nodes x ≡ n = cc in along IsSliceNodes (slice.Nodes x) n e (All-head IsNodes x [] a)
one_of_four (x ∷ y ∷ zs) false n a h = absurd (let no_value : ⊥ = cc in no_value)

pub slice_nodes : (path : List Step) (spec : Data) (n : SliceNodes) → slice_nodes_at path spec ≡ Ok n → IsSliceNodes n
slice_nodes path spec n h =
    let p = gave (places_at path spec) (λ places.
    flag_at (codes "perDeviceNodeSelection") path spec >>= λ per_device.
    some_or (error_at path NotOne) (one_of_slice (all_set places) per_device)) n h in
    let f = gave (flag_at (codes "perDeviceNodeSelection") path spec) (λ per_device.
    some_or (error_at path NotOne) (one_of_slice (all_set p.value) per_device)) n p.second in
    one_of_four (all_set p.value) f.value n (set_ones p.value (places_read path spec p.value p.first))
    (was_some (error_at path NotOne) (one_of_slice (all_set p.value) f.value) n f.second)

due : (per_device : Bool) (ns : List Nodes) (own : Option Nodes) → All IsNodes ns → as_due per_device ns ≡ Some own → IsDue per_device own
due true [] own a h = absurd (let no_value : ⊥ = cc in no_value)
due true (x ∷ []) own a h =
    let e : Some x ≡ own = cc in
    let is : IsNodes x = All-head IsNodes x [] a in
    along (IsDue true) (Some x) own e (record { there = refl; nodes = λ n s. let same : x ≡ n = cc in along IsNodes x n same is })
due true (x ∷ y ∷ zs) own a h = absurd (let no_value : ⊥ = cc in no_value)
due false [] own a h =
    let e : None ≡ own = cc in
    along (IsDue false) None own e (record { there = refl; nodes = λ n s. absurd (let no_value : ⊥ = cc in no_value) })
due false (x ∷ xs) own a h = absurd (let no_value : ⊥ = cc in no_value)

pub nodes_due : (per_device : Bool) (path : List Step) (d : Data) (own : Option Nodes) → device_nodes_of per_device path d ≡ Ok own → IsDue per_device own
nodes_due per_device path d own h =
    let p = gave (places_at path d) (λ places. some_or (error_at path NotOne) (as_due per_device (all_set places))) own h in
    due per_device (all_set p.value) own (set_ones p.value (places_read path d p.value p.first))
    (was_some (error_at path NotOne) (as_due per_device (all_set p.value)) own p.second)
