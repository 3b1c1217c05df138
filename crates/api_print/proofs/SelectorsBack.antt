-- Node selectors, and where devices are, read as they are.
use Rattle.std.proofs.Common.{◌≡◌, ℕ, suc, ◌+◌, ◌<◌, ◌==◌, ◌^◌, nat_lt, ℤ, pos, negsuc, Bool, true, false, ◌&&◌, List, [], ◌∷◌, ◌++◌, length, Option, Some, None, Result, Ok, refl, ap, ◌∙◌, append_assoc, option_and_then, arith}
use Rattle.std.specs.Prelude.{codes, decimal}
use Rattle.std.specs.Fmt.{signed_decimal}
use Rattle.std.specs.Char.{is_ascii_digit}
use Rattle.std.specs.Str.{all_ascii_digits}
use Rattle.std.specs.Str.Parse.{digits_value}
use Rattle.std.proofs.lemmas.Bool.{and_from, and_parts, le-leb, lt-ltb}
use Rattle.std.proofs.lemmas.Bool.Decides.{nat_tests}
use Rattle.std.proofs.lemmas.Fmt.{decimal_is_IsNumeral, decimal_nonempty, digits_decimal}
use Rattle.std.proofs.lemmas.List.{append-nil}
use Rattle.std.proofs.lemmas.List.Elements.{recursion_from_All}
use Rattle.std.proofs.lemmas.Str.Parse.{IsNumeralModel, numerals_by_value, tells_all_ascii_digits}
use Rattle.std.specs.List.{AllByRecursion}
use Rattle.serde_json.specs.Data.{Data, string, object, Members, no_members}
use Rattle.serde_json.specs.Find.{get, get_member}
use Rattle.node_select.specs.Numbers.{number_of, positive, whole_of}
use Rattle.node_select.specs.declared.requirement.Requirement.{Requirement}
use Rattle.node_select.specs.declared.requirement.Test.{Test}
use Rattle.node_select.specs.declared.requirement.Test.TheVariants.{OneOf, NoneOf, Present, Absent, Above, Below}
use Rattle.node_select.specs.declared.selector.Selector.{Selector}
use Rattle.object_fields.specs.Fields.{text_value}
use Rattle.object_fields.specs.Lists.{alone, each, each_from}
use Rattle.object_fields.specs.declared.error.FieldError.{FieldError}
use Rattle.object_fields.specs.declared.path.Step.{Step}
use Rattle.object_fields.specs.declared.path.Step.TheVariants.{Member, Place}
use Rattle.api_slice.specs.Limits.{HasValues, IsDue, IsExpression, IsField, IsNodes, IsSelector, IsSliceNodes, is_of_values}
use Rattle.api_slice.specs.Nodes.{device_nodes_of, slice_nodes_at}
use Rattle.api_slice.specs.Selectors.{expression_of, expressions_at, field_of, fields_at, selector_of, term_of}
use Rattle.api_slice.specs.declared.types.Nodes.{Nodes}
use Rattle.api_slice.specs.declared.types.Nodes.TheVariants as nodes
use Rattle.api_slice.specs.declared.types.SliceNodes.{SliceNodes}
use Rattle.api_slice.specs.declared.types.SliceNodes.TheVariants as slice
use Rattle.api_print.specs.Ranges.{IsSigned, NodesInRange, OwnInRange, RequirementInRange, SelectorInRange, SliceNodesInRange, TestInRange}
use Rattle.api_print.specs.Selectors.{all_nodes_if, node_name_if, node_selector_if, node_selector_json, requirement_json, term_json}
use Rattle.api_print.specs.Shapes.{list_if, listed, member_if}
use Rattle.api_print.specs.Slices.{slice_all_nodes, slice_node_name, slice_node_selector, slice_per_device}
use Rattle.api_print.proofs.Decimals.{chosen}
use Rattle.api_print.proofs.Entries.{both_values}
use Rattle.api_print.proofs.Requests.{hit, skip}

-- ---- numbers

own : IsNumeralModel (λ ds. all_ascii_digits ds ≡ true) (digits_value 10)
own = numerals_by_value (λ ds. all_ascii_digits ds ≡ true) tells_all_ascii_digits

number_back : (n : ℕ) → n < 2 ^ 64 → number_of (decimal n) ≡ Some n
number_back n h =
    let value : digits_value 10 (decimal n) ≡ n = (decimal_is_IsNumeral n h).1 in
    let some : nat_lt 0 (length (decimal n)) ≡ true = lt-ltb _ _ (decimal_nonempty n h) in
    chosen (nat_lt 0 (length (decimal n)) && all_ascii_digits (decimal n)) (Some (digits_value 10 (decimal n))) None (and_from _ _ some (digits_decimal own n h)) ∙ ap Some value

no_minus : (b : ℕ) → is_ascii_digit b ≡ true → (b == 45) ≡ false
no_minus b h = grind (arith, nat_tests)

no_plus : (b : ℕ) → is_ascii_digit b ≡ true → (b == 43) ≡ false
no_plus b h = grind (arith, nat_tests)

plain_whole : (ds : List ℕ) → 0 < length ds → all_ascii_digits ds ≡ true → whole_of ds ≡ option_and_then positive (number_of ds)
plain_whole [] some h = absurd (omega arith)
plain_whole (b ∷ bs) some h =
    let first = and_parts (is_ascii_digit b) (all_ascii_digits bs) h in
    rw (no_minus b first.0, no_plus b first.0) refl

whole_back : (n : ℤ) → IsSigned n → whole_of (signed_decimal n) ≡ Some n
whole_back (pos n) h =
    let small : n < 2 ^ 64 = omega arith in
    plain_whole (decimal n) (decimal_nonempty n small) (digits_decimal own n small) ∙ rw (number_back n small, lt-ltb n (2 ^ 63) h) refl
whole_back (negsuc n) h =
    let small : suc n < 2 ^ 64 = omega arith in
    rw (number_back (suc n) small, le-leb (suc n) (2 ^ 63) (omega arith)) refl

-- ---- items that are read one after another

pub each_same : {A : Type 0} (reading : List Step → Data → Result A FieldError) (json : A → Data) (path : List Step) (place : ℕ) (before xs : List A) → AllByRecursion (λ x. (p : List Step) → reading p (json x) ≡ Ok x) xs → each_from (alone reading) path place before (listed json xs) ≡ Ok (before ++ xs)
each_same reading json path place before [] h = rw (append-nil before) refl
each_same reading json path place before (x ∷ xs) h =
    rw (h.0 (path ++ Place place ∷ [])) (each_same reading json path (place + 1) (before ++ x ∷ []) xs h.1 ∙ ap Ok (append_assoc before (x ∷ []) xs))

all_texts : (ts : List (List ℕ)) → AllByRecursion (λ t. (p : List Step) → text_value p (string t) ≡ Ok t) ts
all_texts [] = tt
all_texts (t ∷ ts) = ((λ p. refl), all_texts ts)

texts_back : (path : List Step) (ts : List (List ℕ)) → each text_value path (listed string ts) ≡ Ok ts
texts_back path ts = each_same text_value string path 0 [] ts (all_texts ts)

-- ---- requirements

expression_by : (p : List Step) (key : List ℕ) (t : Test) → HasValues t → TestInRange t → expression_of p (requirement_json (record { key = key; test = t })) ≡ Ok (record { key = key; test = t })
expression_by p key (OneOf []) some h = absurd (omega arith)
expression_by p key (OneOf (x ∷ xs)) some h = rw (texts_back (p ++ Member (codes "values") ∷ []) (x ∷ xs)) refl
expression_by p key (NoneOf []) some h = absurd (omega arith)
expression_by p key (NoneOf (x ∷ xs)) some h = rw (texts_back (p ++ Member (codes "values") ∷ []) (x ∷ xs)) refl
expression_by p key Present some h = refl
expression_by p key Absent some h = refl
expression_by p key (Above n) some h = rw (whole_back n h) refl
expression_by p key (Below n) some h = rw (whole_back n h) refl

field_by : (p : List Step) (key : List ℕ) (t : Test) → key ≡ codes "metadata.name" → is_of_values t ≡ true → HasValues t → field_of p (requirement_json (record { key = key; test = t })) ≡ Ok (record { key = key; test = t })
field_by p key (OneOf []) is of some = absurd (omega arith)
field_by p key (OneOf (x ∷ xs)) is of some = rw (is, texts_back (p ++ Member (codes "values") ∷ []) (x ∷ xs)) refl
field_by p key (NoneOf []) is of some = absurd (omega arith)
field_by p key (NoneOf (x ∷ xs)) is of some = rw (is, texts_back (p ++ Member (codes "values") ∷ []) (x ∷ xs)) refl
field_by p key Present is of some = absurd (let no_value : ⊥ = cc in no_value)
field_by p key Absent is of some = absurd (let no_value : ⊥ = cc in no_value)
field_by p key (Above n) is of some = absurd (let no_value : ⊥ = cc in no_value)
field_by p key (Below n) is of some = absurd (let no_value : ⊥ = cc in no_value)

abbrev ExpressionReads : Requirement → Type 0
ExpressionReads r = (p : List Step) → expression_of p (requirement_json r) ≡ Ok r

abbrev FieldReads : Requirement → Type 0
FieldReads r = (p : List Step) → field_of p (requirement_json r) ≡ Ok r

expressions_back : (path : List Step) (d : Data) (rs : List Requirement) → get (codes "matchExpressions") d ≡ list_if requirement_json rs → AllByRecursion ExpressionReads rs → expressions_at path d ≡ Ok rs
expressions_back path d [] h all = rw h refl
expressions_back path d (r ∷ rs) h all =
    rw h (each_same expression_of requirement_json (path ++ Member (codes "matchExpressions") ∷ []) 0 [] (r ∷ rs) all)

fields_back : (path : List Step) (d : Data) (rs : List Requirement) → get (codes "matchFields") d ≡ list_if requirement_json rs → AllByRecursion FieldReads rs → fields_at path d ≡ Ok rs
fields_back path d [] h all = rw h refl
fields_back path d (r ∷ rs) h all =
    rw h (each_same field_of requirement_json (path ++ Member (codes "matchFields") ∷ []) 0 [] (r ∷ rs) all)

-- ---- selectors

term_from : (path : List Step) (ms : Members) (s : Selector) → get_member (codes "matchExpressions") ms ≡ list_if requirement_json s.expressions → get_member (codes "matchFields") ms ≡ list_if requirement_json s.fields → AllByRecursion ExpressionReads s.expressions → AllByRecursion FieldReads s.fields → term_of path (object ms) ≡ Ok s
term_from path ms s he hf expressions fields =
    rw (expressions_back path (object ms) s.expressions he expressions, fields_back path (object ms) s.fields hf fields) refl

term_back : (path : List Step) (s : Selector) → IsSelector s → SelectorInRange s → term_of path (term_json s) ≡ Ok s
term_back path s kept range =
    term_from path (member_if (codes "matchExpressions") (list_if requirement_json s.expressions) (member_if (codes "matchFields") (list_if requirement_json s.fields) no_members)) s
    (hit (codes "matchExpressions") (list_if requirement_json s.expressions) _ refl (skip (codes "matchExpressions") (codes "matchFields") (list_if requirement_json s.fields) no_members refl))
    (skip (codes "matchFields") (codes "matchExpressions") (list_if requirement_json s.expressions) _ refl ∙ hit (codes "matchFields") (list_if requirement_json s.fields) no_members refl refl)
    (both_values IsExpression RequirementInRange ExpressionReads (λ r k h p. expression_by p r.key r.test k.values h.test) s.expressions (recursion_from_All IsExpression s.expressions kept.expressions) range.expressions)
    (both_values IsField RequirementInRange FieldReads (λ r k h p. field_by p r.key r.test k.key k.operator k.values) s.fields (recursion_from_All IsField s.fields kept.fields) range.fields)

selector_back : (path : List Step) (s : Selector) → IsSelector s → SelectorInRange s → selector_of path (node_selector_json s) ≡ Ok s
unfolding node_selector_json selector_of
selector_back path s kept range = rw (term_back ((path ++ Member (codes "nodeSelectorTerms") ∷ []) ++ Place 0 ∷ []) s kept range) refl

-- ---- where devices are

slice_by : (p : List Step) (d : Data) (n : Nodes) → get (codes "nodeName") d ≡ node_name_if n → get (codes "nodeSelector") d ≡ node_selector_if n → get (codes "allNodes") d ≡ all_nodes_if n → get (codes "perDeviceNodeSelection") d ≡ None → IsNodes n → NodesInRange n → slice_nodes_at p d ≡ Ok (slice.Nodes n)
unfolding node_selector_json
slice_by p d (nodes.Named []) hn hs ha hp kept range = absurd (kept refl)
slice_by p d (nodes.Named (b ∷ bs)) hn hs ha hp kept range = rw (hn, hs, ha, hp) refl
slice_by p d (nodes.Selected s) hn hs ha hp kept range =
    rw (hn, hs, ha, hp, selector_back (p ++ Member (codes "nodeSelector") ∷ []) s kept range) refl
slice_by p d nodes.All hn hs ha hp kept range = rw (hn, hs, ha, hp) refl

pub slice_nodes_back : (p : List Step) (d : Data) (n : SliceNodes) → get (codes "nodeName") d ≡ slice_node_name n → get (codes "nodeSelector") d ≡ slice_node_selector n → get (codes "allNodes") d ≡ slice_all_nodes n → get (codes "perDeviceNodeSelection") d ≡ slice_per_device n → IsSliceNodes n → SliceNodesInRange n → slice_nodes_at p d ≡ Ok n
slice_nodes_back p d (slice.Nodes n) hn hs ha hp kept range = slice_by p d n hn hs ha hp kept range
slice_nodes_back p d slice.PerDevice hn hs ha hp kept range = rw (hn, hs, ha, hp) refl

device_by : (p : List Step) (d : Data) (n : Nodes) → get (codes "nodeName") d ≡ node_name_if n → get (codes "nodeSelector") d ≡ node_selector_if n → get (codes "allNodes") d ≡ all_nodes_if n → IsNodes n → NodesInRange n → device_nodes_of true p d ≡ Ok (Some n)
unfolding node_selector_json
device_by p d (nodes.Named []) hn hs ha kept range = absurd (kept refl)
device_by p d (nodes.Named (b ∷ bs)) hn hs ha kept range = rw (hn, hs, ha) refl
device_by p d (nodes.Selected s) hn hs ha kept range =
    rw (hn, hs, ha, selector_back (p ++ Member (codes "nodeSelector") ∷ []) s kept range) refl
device_by p d nodes.All hn hs ha kept range = rw (hn, hs, ha) refl

pub device_nodes_back : (per_device : Bool) (p : List Step) (d : Data) (o : Option Nodes) → get (codes "nodeName") d ≡ option_and_then node_name_if o → get (codes "nodeSelector") d ≡ option_and_then node_selector_if o → get (codes "allNodes") d ≡ option_and_then all_nodes_if o → IsDue per_device o → OwnInRange o → device_nodes_of per_device p d ≡ Ok o
device_nodes_back true p d (Some n) hn hs ha due range = device_by p d n hn hs ha (due.nodes n refl) range
device_nodes_back false p d (Some n) hn hs ha due range = absurd (let no_value : true ≡ false = due.there in cc)
device_nodes_back true p d None hn hs ha due range = absurd (let no_value : false ≡ true = due.there in cc)
device_nodes_back false p d None hn hs ha due range = rw (hn, hs, ha) refl
