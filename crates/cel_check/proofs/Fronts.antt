-- What was found in a prefix of a list, with what is found in the rest.
use Rattle.std.proofs.Common.{◌≡◌, ℕ, ◌+◌, ◌<◌, ◌≤◌, List, [], ◌∷◌, ◌++◌, Bool, true, false, ◌&&◌, if◌then◌else◌, length, drop, take, get_or, map, arith, Box, Global, refl, ap, sym, ◌∙◌}
use Rattle.std.proofs.lemmas.List.{drop_more, take_more, drop_all, map-append}
use Rattle.std.specs.Prelude.{Option, Some, None, Result, Ok, Err, is_some}
use Rattle.std.specs.Result.{is_ok}
use Rattle.std.specs.List.{list_all}
use Rattle.cel_tree.specs.declared.tree.Span.{Span}
use Rattle.cel_tree.specs.declared.tree.Tree.{Tree}
use Rattle.cel_tree.specs.declared.tree.Entry.{Entry}
use Rattle.cel_tree.specs.declared.tree.Kind.{Kind}
use Rattle.cel_tree.specs.declared.tree.Kind as kind
use Rattle.cel_tree.specs.declared.types.Scalar.{Scalar}
use Rattle.cel_tree.specs.declared.types.CelType.{CelType}
use Rattle.cel_tree.specs.declared.calls.Arguments.{Arguments}
use Rattle.cel_tree.specs.declared.calls.Arguments.TheVariants as arguments
use Rattle.cel_tree.specs.declared.fault.Fault.{Fault}
use Rattle.cel_tree.specs.declared.fault.Fault.TheVariants.{NoOverload}
use Rattle.cel_tree.specs.Ast.{Constant, Ast, Form, Method, Asts, End, More, Entries, NoEntry, Pair, tree_view, kind_view, entry_view, asts_of, entries_of}
use Rattle.cel_tree.specs.Faults.{◌>>=◌, item_type, joined}
use Rattle.cel_tree.specs.Typing.{Names, variable_of, with_variable, is_bind, map_type, keys_type, form_type, has_of, has_form, bind_of, with_first, key_type, key_of, beside, literal_of, type_of, types_of, items_of, values_of}
use Rattle.cel_check.specs.Fronts.{with_last, also}
use Rattle.cel_check.specs.Parts.{method_of, map_of}
use Rattle.cel_check.specs.Keys.{in_prefix, literals}
use Rattle.cel_check.proofs.Joins.{joined_assoc}

-- ---- arguments

abbrev appended : Arguments → Arguments → Arguments
appended arguments.None rest = rest
appended (arguments.One k) rest = with_first k rest
appended (arguments.Two k l) rest = with_first k (with_first l rest)
appended arguments.Many rest = arguments.Many

abbrev pub all_given : Arguments → Result Arguments Fault → Result Arguments Fault
all_given prefix (Ok rest) = Ok (appended prefix rest)
all_given prefix (Err e) = Err e

appended_more : (prefix : Arguments) (k : CelType) (rest : Arguments) → appended (with_last prefix k) rest ≡ appended prefix (with_first k rest)
appended_more arguments.None k rest = refl
appended_more (arguments.One l) k rest = refl
appended_more (arguments.Two l m) k arguments.None = refl
appended_more (arguments.Two l m) k (arguments.One n) = refl
appended_more (arguments.Two l m) k (arguments.Two n o) = refl
appended_more (arguments.Two l m) k arguments.Many = refl
appended_more arguments.Many k rest = refl

given_more : (prefix : Arguments) (k : CelType) (r : Result Arguments Fault) → all_given (with_last prefix k) r ≡ all_given prefix (r >>= λ given. Ok (with_first k given))
given_more prefix k (Ok rest) = ap Ok (appended_more prefix k rest)
given_more prefix k (Err e) = refl

given_end : (prefix : Arguments) → all_given prefix (Ok arguments.None) ≡ Ok prefix
given_end arguments.None = refl
given_end (arguments.One k) = refl
given_end (arguments.Two k l) = refl
given_end arguments.Many = refl

-- the list of trees from an index on
pub rest_at : (xs : List Tree) (i : ℕ) (t : Tree) → t ≡ get_or xs i t → i < length xs → asts_of (map tree_view (drop i xs)) ≡ More (tree_view t) (asts_of (map tree_view (drop (i + 1) xs)))
rest_at xs i t e h = ap (λ (ys : List Tree). asts_of (map tree_view ys)) (drop_more xs i t h ∙ ap (λ u. u ∷ drop (i + 1) xs) (sym e))

pub rest_end : (xs : List Tree) (i : ℕ) → length xs ≤ i → asts_of (map tree_view (drop i xs)) ≡ End
rest_end xs i h = ap (λ (ys : List Tree). asts_of (map tree_view ys)) (drop_all i xs h)

pub types-step : (names : Names) (xs : List Tree) (i : ℕ) (t : Tree) (prefix : Arguments) (k : CelType) (whole : Result Arguments Fault) → t ≡ get_or xs i t → i < length xs →
    type_of names (tree_view t) ≡ Ok k → all_given prefix (types_of names (asts_of (map tree_view (drop i xs)))) ≡ whole →
    all_given (with_last prefix k) (types_of names (asts_of (map tree_view (drop (i + 1) xs)))) ≡ whole
types-step names xs i t prefix k whole e h found w =
    given_more prefix k (types_of names (asts_of (map tree_view (drop (i + 1) xs))))
    ∙ ap (λ (r : Result CelType Fault). all_given prefix (r >>= λ l. types_of names (asts_of (map tree_view (drop (i + 1) xs))) >>= λ given. Ok (with_first l given))) (sym found)
    ∙ ap (λ ts. all_given prefix (types_of names ts)) (sym (rest_at xs i t e h)) ∙ w

pub types-err : (names : Names) (xs : List Tree) (i : ℕ) (t : Tree) (prefix : Arguments) (f : Fault) (whole : Result Arguments Fault) → t ≡ get_or xs i t → i < length xs →
    type_of names (tree_view t) ≡ Err f → all_given prefix (types_of names (asts_of (map tree_view (drop i xs)))) ≡ whole → Err f ≡ whole
types-err names xs i t prefix f whole e h found w =
    ap (λ (r : Result CelType Fault). all_given prefix (r >>= λ l. types_of names (asts_of (map tree_view (drop (i + 1) xs))) >>= λ given. Ok (with_first l given))) (sym found)
    ∙ ap (λ ts. all_given prefix (types_of names ts)) (sym (rest_at xs i t e h)) ∙ w

pub types-end : (names : Names) (xs : List Tree) (i : ℕ) (prefix : Arguments) (whole : Result Arguments Fault) → length xs ≤ i →
    all_given prefix (types_of names (asts_of (map tree_view (drop i xs)))) ≡ whole → Ok prefix ≡ whole
types-end names xs i prefix whole h w = sym (given_end prefix) ∙ ap (λ ts. all_given prefix (types_of names ts)) (sym (rest_end xs i h)) ∙ w

-- ---- items

abbrev together : Option Scalar → Option Scalar → Option Scalar
together None rest = rest
together (Some s) rest = Some (joined s rest)

abbrev pub all_found : Option Scalar → Result (Option Scalar) Fault → Result (Option Scalar) Fault
all_found prefix (Ok rest) = Ok (together prefix rest)
all_found prefix (Err e) = Err e

together_more : (prefix : Option Scalar) (s : Scalar) (rest : Option Scalar) → together (Some (also prefix s)) rest ≡ together prefix (Some (joined s rest))
together_more None s rest = refl
together_more (Some f) s rest = ap Some (joined_assoc f s rest)

found_more : (prefix : Option Scalar) (s : Scalar) (r : Result (Option Scalar) Fault) → all_found (Some (also prefix s)) r ≡ all_found prefix (r >>= λ rest. Ok (Some (joined s rest)))
found_more prefix s (Ok rest) = ap Ok (together_more prefix s rest)
found_more prefix s (Err e) = refl

found_end : (prefix : Option Scalar) → all_found prefix (Ok None) ≡ Ok prefix
found_end None = refl
found_end (Some s) = refl

pub items-step : (names : Names) (xs : List Tree) (i : ℕ) (t : Tree) (prefix : Option Scalar) (k : CelType) (s : Scalar) (whole : Result (Option Scalar) Fault) → t ≡ get_or xs i t → i < length xs →
    type_of names (tree_view t) ≡ Ok k → item_type t.span k ≡ Ok s → all_found prefix (items_of names (asts_of (map tree_view (drop i xs)))) ≡ whole →
    all_found (Some (also prefix s)) (items_of names (asts_of (map tree_view (drop (i + 1) xs)))) ≡ whole
items-step names xs i t prefix k s whole e h found item w =
    found_more prefix s (items_of names (asts_of (map tree_view (drop (i + 1) xs))))
    ∙ ap (λ (r : Result Scalar Fault). all_found prefix (r >>= λ q. items_of names (asts_of (map tree_view (drop (i + 1) xs))) >>= λ rest. Ok (Some (joined q rest)))) (sym item)
    ∙ ap (λ (r : Result CelType Fault). all_found prefix (r >>= λ l. item_type t.span l >>= λ q. items_of names (asts_of (map tree_view (drop (i + 1) xs))) >>= λ rest. Ok (Some (joined q rest)))) (sym found)
    ∙ ap (λ ts. all_found prefix (items_of names ts)) (sym (rest_at xs i t e h)) ∙ w

pub items-err : (names : Names) (xs : List Tree) (i : ℕ) (t : Tree) (prefix : Option Scalar) (f : Fault) (whole : Result (Option Scalar) Fault) → t ≡ get_or xs i t → i < length xs →
    type_of names (tree_view t) ≡ Err f → all_found prefix (items_of names (asts_of (map tree_view (drop i xs)))) ≡ whole → Err f ≡ whole
items-err names xs i t prefix f whole e h found w =
    ap (λ (r : Result CelType Fault). all_found prefix (r >>= λ l. item_type t.span l >>= λ q. items_of names (asts_of (map tree_view (drop (i + 1) xs))) >>= λ rest. Ok (Some (joined q rest)))) (sym found)
    ∙ ap (λ ts. all_found prefix (items_of names ts)) (sym (rest_at xs i t e h)) ∙ w

pub items-not : (names : Names) (xs : List Tree) (i : ℕ) (t : Tree) (prefix : Option Scalar) (k : CelType) (f : Fault) (whole : Result (Option Scalar) Fault) → t ≡ get_or xs i t → i < length xs →
    type_of names (tree_view t) ≡ Ok k → item_type t.span k ≡ Err f → all_found prefix (items_of names (asts_of (map tree_view (drop i xs)))) ≡ whole → Err f ≡ whole
items-not names xs i t prefix k f whole e h found item w =
    ap (λ (r : Result Scalar Fault). all_found prefix (r >>= λ q. items_of names (asts_of (map tree_view (drop (i + 1) xs))) >>= λ rest. Ok (Some (joined q rest)))) (sym item)
    ∙ ap (λ (r : Result CelType Fault). all_found prefix (r >>= λ l. item_type t.span l >>= λ q. items_of names (asts_of (map tree_view (drop (i + 1) xs))) >>= λ rest. Ok (Some (joined q rest)))) (sym found)
    ∙ ap (λ ts. all_found prefix (items_of names ts)) (sym (rest_at xs i t e h)) ∙ w

pub items-end : (names : Names) (xs : List Tree) (i : ℕ) (prefix : Option Scalar) (whole : Result (Option Scalar) Fault) → length xs ≤ i →
    all_found prefix (items_of names (asts_of (map tree_view (drop i xs)))) ≡ whole → Ok prefix ≡ whole
items-end names xs i prefix whole h w = sym (found_end prefix) ∙ ap (λ ts. all_found prefix (items_of names ts)) (sym (rest_end xs i h)) ∙ w

-- ---- values

pub entry_at : (xs : List Entry) (i : ℕ) (t : Entry) → t ≡ get_or xs i t → i < length xs →
    entries_of (map entry_view (drop i xs)) ≡ Pair (tree_view t.key) (tree_view t.value) (entries_of (map entry_view (drop (i + 1) xs)))
entry_at xs i t e h = ap (λ (ys : List Entry). entries_of (map entry_view ys)) (drop_more xs i t h ∙ ap (λ u. u ∷ drop (i + 1) xs) (sym e))

pub entry_end : (xs : List Entry) (i : ℕ) → length xs ≤ i → entries_of (map entry_view (drop i xs)) ≡ NoEntry
entry_end xs i h = ap (λ (ys : List Entry). entries_of (map entry_view ys)) (drop_all i xs h)

prefix_more : (o : Option Constant) (cs : List Constant) (c : Constant) → in_prefix o (cs ++ c ∷ []) ≡ in_prefix o cs ++ c ∷ []
prefix_more None cs c = refl
prefix_more (Some d) cs c = refl

literals_more : (es : List (Ast × Ast)) (e : Ast × Ast) (c : Constant) → literal_of e.0 ≡ Some c → literals (es ++ e ∷ []) ≡ literals es ++ c ∷ []
literals_more [] e c l = rw l refl
literals_more (d ∷ es) e c l = rw (literals_more es e c l) (prefix_more (literal_of d.0) (literals es) c)

literals_at : (xs : List Entry) (i : ℕ) (t : Entry) (c : Constant) → t ≡ get_or xs i t → i < length xs → literal_of (tree_view t.key) ≡ Some c →
    literals (map entry_view (take (i + 1) xs)) ≡ literals (map entry_view (take i xs)) ++ c ∷ []
literals_at xs i t c e h l =
    ap (λ (ys : List Entry). literals (map entry_view ys)) (take_more xs i t h ∙ ap (λ u. take i xs ++ u ∷ []) (sym e))
    ∙ ap literals (map-append entry_view (take i xs) (t ∷ []))
    ∙ literals_more (map entry_view (take i xs)) (entry_view t) c l

key_was : (span : Span) (c : Constant) (b : Bool) → is_ok (if b then Ok c else Err (NoOverload span)) ≡ true → (d : Constant) × ((if b then Ok c else Err (NoOverload span)) ≡ Ok d) × (Some c ≡ Some d)
key_was span c true e = (c, refl, refl)
key_was span c false e = absurd cc

key_was_not : (span : Span) (c : Constant) (b : Bool) → is_ok (if b then Ok c else Err (NoOverload span)) ≡ false → (if b then Ok c else Err (NoOverload span)) ≡ Err (NoOverload span)
key_was_not span c true e = absurd cc
key_was_not span c false e = refl

key_is : (span : Span) (earlier : List Constant) (o : Option Constant) → is_ok (key_of span earlier o) ≡ true → (c : Constant) × (key_of span earlier o ≡ Ok c) × (o ≡ Some c)
key_is span earlier None e = absurd cc
key_is span earlier (Some c) e = key_was span c (is_some (key_type c) && list_all (beside c) earlier) e

key_not : (span : Span) (earlier : List Constant) (o : Option Constant) → is_ok (key_of span earlier o) ≡ false → key_of span earlier o ≡ Err (NoOverload span)
key_not span earlier None e = refl
key_not span earlier (Some c) e = key_was_not span c (is_some (key_type c) && list_all (beside c) earlier) e

-- the values of a map literal after the entries before the index
abbrev pub values_from : Names → List Entry → ℕ → Result (Option Scalar) Fault
values_from names xs i = values_of names (literals (map entry_view (take i xs))) (entries_of (map entry_view (drop i xs)))

-- a reading of one entry and of the rest
abbrev one_value : Names → List Entry → ℕ → Entry → List Constant → Result (Option Scalar) Fault
one_value names xs i t earlier = type_of names (tree_view t.value) >>= λ l. item_type t.value.span l >>= λ s. values_of names earlier (entries_of (map entry_view (drop (i + 1) xs))) >>= λ rest. Ok (Some (joined s rest))

values_at : (names : Names) (xs : List Entry) (i : ℕ) (t : Entry) (c : Constant) → t ≡ get_or xs i t → i < length xs →
    key_of t.key.span (literals (map entry_view (take i xs))) (literal_of (tree_view t.key)) ≡ Ok c → literal_of (tree_view t.key) ≡ Some c →
    values_from names xs i ≡ one_value names xs i t (literals (map entry_view (take (i + 1) xs)))
values_at names xs i t c e h k l =
    ap (λ es. values_of names (literals (map entry_view (take i xs))) es) (entry_at xs i t e h)
    ∙ ap (λ (r : Result Constant Fault). r >>= λ d. one_value names xs i t (literals (map entry_view (take i xs)) ++ d ∷ [])) k
    ∙ ap (one_value names xs i t) (sym (literals_at xs i t c e h l))

pub values-step : (names : Names) (xs : List Entry) (i : ℕ) (t : Entry) (prefix : Option Scalar) (k : CelType) (s : Scalar) (whole : Result (Option Scalar) Fault) → t ≡ get_or xs i t → i < length xs →
    is_ok (key_of t.key.span (literals (map entry_view (take i xs))) (literal_of (tree_view t.key))) ≡ true → type_of names (tree_view t.value) ≡ Ok k → item_type t.value.span k ≡ Ok s →
    all_found prefix (values_from names xs i) ≡ whole → all_found (Some (also prefix s)) (values_from names xs (i + 1)) ≡ whole
values-step names xs i t prefix k s whole e h key found item w =
    let c = key_is t.key.span (literals (map entry_view (take i xs))) (literal_of (tree_view t.key)) key in
    found_more prefix s (values_from names xs (i + 1))
    ∙ ap (λ (r : Result Scalar Fault). all_found prefix (r >>= λ q. values_from names xs (i + 1) >>= λ rest. Ok (Some (joined q rest)))) (sym item)
    ∙ ap (λ (r : Result CelType Fault). all_found prefix (r >>= λ l. item_type t.value.span l >>= λ q. values_from names xs (i + 1) >>= λ rest. Ok (Some (joined q rest)))) (sym found)
    ∙ ap (all_found prefix) (sym (values_at names xs i t c.0 e h c.1 c.2)) ∙ w

pub values-err : (names : Names) (xs : List Entry) (i : ℕ) (t : Entry) (prefix : Option Scalar) (f : Fault) (whole : Result (Option Scalar) Fault) → t ≡ get_or xs i t → i < length xs →
    is_ok (key_of t.key.span (literals (map entry_view (take i xs))) (literal_of (tree_view t.key))) ≡ true → type_of names (tree_view t.value) ≡ Err f →
    all_found prefix (values_from names xs i) ≡ whole → Err f ≡ whole
values-err names xs i t prefix f whole e h key found w =
    let c = key_is t.key.span (literals (map entry_view (take i xs))) (literal_of (tree_view t.key)) key in
    ap (λ (r : Result CelType Fault). all_found prefix (r >>= λ l. item_type t.value.span l >>= λ q. values_from names xs (i + 1) >>= λ rest. Ok (Some (joined q rest)))) (sym found)
    ∙ ap (all_found prefix) (sym (values_at names xs i t c.0 e h c.1 c.2)) ∙ w

pub values-not : (names : Names) (xs : List Entry) (i : ℕ) (t : Entry) (prefix : Option Scalar) (k : CelType) (f : Fault) (whole : Result (Option Scalar) Fault) → t ≡ get_or xs i t → i < length xs →
    is_ok (key_of t.key.span (literals (map entry_view (take i xs))) (literal_of (tree_view t.key))) ≡ true → type_of names (tree_view t.value) ≡ Ok k → item_type t.value.span k ≡ Err f →
    all_found prefix (values_from names xs i) ≡ whole → Err f ≡ whole
values-not names xs i t prefix k f whole e h key found item w =
    let c = key_is t.key.span (literals (map entry_view (take i xs))) (literal_of (tree_view t.key)) key in
    ap (λ (r : Result Scalar Fault). all_found prefix (r >>= λ q. values_from names xs (i + 1) >>= λ rest. Ok (Some (joined q rest)))) (sym item)
    ∙ ap (λ (r : Result CelType Fault). all_found prefix (r >>= λ l. item_type t.value.span l >>= λ q. values_from names xs (i + 1) >>= λ rest. Ok (Some (joined q rest)))) (sym found)
    ∙ ap (all_found prefix) (sym (values_at names xs i t c.0 e h c.1 c.2)) ∙ w

pub values-key : (names : Names) (xs : List Entry) (i : ℕ) (t : Entry) (prefix : Option Scalar) (whole : Result (Option Scalar) Fault) → t ≡ get_or xs i t → i < length xs →
    is_ok (key_of t.key.span (literals (map entry_view (take i xs))) (literal_of (tree_view t.key))) ≡ false →
    all_found prefix (values_from names xs i) ≡ whole → Err (NoOverload t.key.span) ≡ whole
values-key names xs i t prefix whole e h key w =
    ap (λ (r : Result Constant Fault). all_found prefix (r >>= λ d. one_value names xs i t (literals (map entry_view (take i xs)) ++ d ∷ []))) (sym (key_not t.key.span (literals (map entry_view (take i xs))) (literal_of (tree_view t.key)) key))
    ∙ ap (λ es. all_found prefix (values_of names (literals (map entry_view (take i xs))) es)) (sym (entry_at xs i t e h)) ∙ w

pub values-end : (names : Names) (xs : List Entry) (i : ℕ) (prefix : Option Scalar) (whole : Result (Option Scalar) Fault) → length xs ≤ i →
    all_found prefix (values_from names xs i) ≡ whole → Ok prefix ≡ whole
values-end names xs i prefix whole h w = sym (found_end prefix) ∙ ap (λ es. all_found prefix (values_of names (literals (map entry_view (take i xs))) es)) (sym (entry_end xs i h)) ∙ w

found_none : (r : Result (Option Scalar) Fault) → all_found None r ≡ r
found_none (Ok rest) = refl
found_none (Err e) = refl

pub values-init : (names : Names) (xs : List Entry) → all_found None (values_from names xs 0) ≡ values_of names [] (entries_of (map entry_view xs))
values-init names xs = found_none (values_from names xs 0)

pub map-err : (names : Names) (es : Entries) (f : Fault) → Err f ≡ values_of names [] es → Err f ≡ map_of names es
map-err names es f e = ap (λ (r : Result (Option Scalar) Fault). r >>= λ values. Ok (map_type (keys_type es) values)) e

-- ---- the forms of macros

with_fault : (span : Span) (o : Option (List ℕ)) → ◌≡◌ {A = Result CelType Fault} (Err (NoOverload span)) (with_variable span o (λ n. Err (NoOverload span)))
with_fault span (Some x) = refl
with_fault span None = refl

pub bind_short : (names : Names) (span : Span) (xs : List Tree) → length xs < 2 → Err (NoOverload span) ≡ bind_of names span (asts_of (map tree_view xs))
bind_short names span [] h = refl
bind_short names span (x ∷ []) h = with_fault span (variable_of (tree_view x))
bind_short names span (x ∷ y ∷ zs) h = absurd (omega (arith, h))

pub has_not_one : (names : Names) (span : Span) (xs : List Tree) → (length xs ≡ 1 → ⊥) → Err (NoOverload span) ≡ has_of names span (asts_of (map tree_view xs))
has_not_one names span [] n = refl
has_not_one names span (x ∷ []) n = absurd (n refl)
has_not_one names span (x ∷ y ∷ zs) n = refl

no_member : (names : Names) (span : Span) (k : Kind) → ((b : Box Tree Global) (x : List ℕ) → k ≡ kind.Member b x → ⊥) → Err (NoOverload span) ≡ has_form names span (kind_view k)
no_member names span (kind.Literal l) n = refl
no_member names span (kind.Ident x) n = refl
no_member names span (kind.Unary' op p s t) n = refl
no_member names span (kind.Binary' op p s t q v u) n = refl
no_member names span (kind.Conditional' p s t q v u r x w) n = refl
no_member names span (kind.Member' p s t x) n = absurd (n (record { ptr = p.ptr; alloc = p.alloc; value = record { span = s; kind = t } }) x refl)
no_member names span (kind.Index' p s t q v u) n = refl
no_member names span (kind.Call' x shape row) n = refl
no_member names span (kind.Method' p s t x shape row) n = refl
no_member names span (kind.List' shape row) n = refl
no_member names span (kind.Map' shape row) n = refl

pub has_no_member : (names : Names) (span : Span) (xs : List Tree) (t : Tree) → length xs ≡ 1 → ((b : Box Tree Global) (x : List ℕ) → (get_or xs 0 t).kind ≡ kind.Member b x → ⊥) →
    Err (NoOverload span) ≡ has_of names span (asts_of (map tree_view xs))
has_no_member names span [] t h n = absurd (omega (arith, h))
has_no_member names span (x ∷ []) t h n = no_member names span x.kind n
has_no_member names span (x ∷ y ∷ zs) t h n = absurd (omega (arith, h))

pub method-gives : (names : Names) (span : Span) (form : Form) (t : Ast) (word : List ℕ) (ts : Asts) (k : CelType) (r : Result CelType Fault) →
    form ≡ Method t word ts → is_bind t word ≡ false → type_of names t ≡ Ok k → r ≡ method_of names span word k ts → r ≡ form_type names span form
method-gives names span form t word ts k r e b found h =
    h ∙ sym (ap (form_type names span) e
    ∙ ap (λ c. if c then bind_of names span ts else (type_of names t >>= λ l. method_of names span word l ts)) b
    ∙ ap (λ (q : Result CelType Fault). q >>= λ l. method_of names span word l ts) found)
