-- What was gathered of a prefix of a list, with what is read of the rest.
use Rattle.std.proofs.Common.{◌≡◌, ℕ, ◌+◌, ◌<◌, ◌≤◌, List, [], ◌∷◌, ◌++◌, length, drop, get_or, map, arith, refl, ap, sym, ◌∙◌, append_assoc}
use Rattle.std.proofs.lemmas.List.{drop_more}
use Rattle.std.specs.Prelude.{Option, Result, Ok, Err}
use Rattle.std.specs.BTreeMap.{insert_entry}
use Rattle.cel_tree.specs.declared.tree.Tree.{Tree}
use Rattle.cel_tree.specs.declared.tree.Entry.{Entry}
use Rattle.cel_tree.specs.Ast.{More, Entries, Pair, tree_view, entry_view, asts_of, entries_of}
use Rattle.cel_value.specs.declared.value.Single.{Single}
use Rattle.cel_value.specs.declared.value.Key.{Key}
use Rattle.cel_value.specs.declared.value.Key.TheVariants as key
use Rattle.cel_value.specs.contracts.value.KeyOrd as key_ord
use Rattle.cel_value.specs.declared.value.Value.{Value}
use Rattle.cel_value.specs.declared.error.EvalError.{EvalError}
use Rattle.cel_value.specs.Device.{Device}
use Rattle.cel_value.specs.Values.{◌>>=◌, Gives}
use Rattle.cel_value.specs.Lookups.{key_cmp}
use Rattle.cel_meaning.specs.Folds.{Maker, as_single, as_key}
use Rattle.cel_meaning.specs.Steps.{behind, gathered_steps}
use Rattle.cel_meaning.specs.Meaning.{Bindings, means, each, items_of}
use Rattle.cel_meaning.specs.Meaning as meaning
use Rattle.cel_meaning.specs.Cost.{cost, each_steps, items_steps, entries_steps}
use Rattle.cel_eval.specs.Answers.{Counts}
use Rattle.cel_eval.proofs.Stops.{counts-behind, counts-from, failed}

-- items before those that are read
abbrev pub behind_all : {A : Type 0} → List A → Result (List A) EvalError → Result (List A) EvalError
behind_all xs rest = rest >>= λ ys. Ok (xs ++ ys)

behind-more : {A : Type 0} (xs : List A) (x : A) (r : Result (List A) EvalError) → behind_all (xs ++ x ∷ []) r ≡ behind_all xs (r >>= λ ys. Ok (x ∷ ys))
behind-more xs x (Ok ys) = ap Ok (append_assoc xs (x ∷ []) ys)
behind-more xs x (Err e) = refl

-- the list of trees, or of entries, from an index on
pub rest_at : (xs : List Tree) (i : ℕ) (t : Tree) → t ≡ get_or xs i t → i < length xs → asts_of (map tree_view (drop i xs)) ≡ More (tree_view t) (asts_of (map tree_view (drop (i + 1) xs)))
rest_at xs i t e h = ap (λ (ys : List Tree). asts_of (map tree_view ys)) (drop_more xs i t h ∙ ap (λ u. u ∷ drop (i + 1) xs) (sym e))

pub entries_at : (xs : List Entry) (i : ℕ) (t : Entry) → t ≡ get_or xs i t → i < length xs →
    entries_of (map entry_view (drop i xs)) ≡ Pair (tree_view t.key) (tree_view t.value) (entries_of (map entry_view (drop (i + 1) xs)))
entries_at xs i t e h = ap (λ (ys : List Entry). entries_of (map entry_view ys)) (drop_more xs i t h ∙ ap (λ u. u ∷ drop (i + 1) xs) (sym e))

-- ---- the items of a list literal

pub items-step : (device : Device) (names : Bindings) (xs : List Tree) (i : ℕ) (t : Tree) (prefix prefix' : List Single) (x : Single) (whole : Result (List Single) EvalError) →
    t ≡ get_or xs i t → i < length xs → as_single (means device names (tree_view t)) ≡ Ok x → prefix' ≡ prefix ++ x ∷ [] →
    behind_all prefix (items_of device names (asts_of (map tree_view (drop i xs)))) ≡ whole →
    behind_all prefix' (items_of device names (asts_of (map tree_view (drop (i + 1) xs)))) ≡ whole
items-step device names xs i t prefix prefix' x whole e h found put w =
    let rest : Result (List Single) EvalError = items_of device names (asts_of (map tree_view (drop (i + 1) xs))) in
    ap (λ (f : List Single). behind_all f rest) put
    ∙ behind-more prefix x rest
    ∙ ap (λ (r : Result Single EvalError). behind_all prefix (r >>= λ y. rest >>= λ ys. Ok (y ∷ ys))) (sym found)
    ∙ ap (λ ts. behind_all prefix (items_of device names ts)) (sym (rest_at xs i t e h)) ∙ w

pub items-count : (device : Device) (names : Bindings) (xs : List Tree) (i : ℕ) (t : Tree) (x : Single) (old new whole : ℕ) →
    t ≡ get_or xs i t → i < length xs → as_single (means device names (tree_view t)) ≡ Ok x → new ≡ old + cost device names (tree_view t) →
    old + items_steps device names (asts_of (map tree_view (drop i xs))) ≡ whole →
    new + items_steps device names (asts_of (map tree_view (drop (i + 1) xs))) ≡ whole
items-count device names xs i t x old new whole e h found rose w =
    let n : ℕ = items_steps device names (asts_of (map tree_view (drop (i + 1) xs))) in
    let at : items_steps device names (asts_of (map tree_view (drop i xs))) ≡ cost device names (tree_view t) + n =
    ap (λ ts. items_steps device names ts) (rest_at xs i t e h)
    ∙ ap (λ (r : Result Single EvalError). cost device names (tree_view t) + behind r (λ y. n)) found in
    omega arith

-- an error at an item
pub items-stop : (device : Device) (names : Bindings) (xs : List Tree) (i : ℕ) (t : Tree) (e : EvalError) (start old new total : ℕ) → t ≡ get_or xs i t → i < length xs →
    Gives (failed Single e) (as_single (means device names (tree_view t))) → Counts (failed Single e) old new (cost device names (tree_view t)) → start ≤ old →
    old + items_steps device names (asts_of (map tree_view (drop i xs))) ≡ start + total → Counts (failed (List Single) e) start new total
items-stop device names xs i t e start old new total is h g c least w =
    let m : Result Single EvalError = as_single (means device names (tree_view t)) in
    let n : ℕ = items_steps device names (asts_of (map tree_view (drop (i + 1) xs))) in
    let at : items_steps device names (asts_of (map tree_view (drop i xs))) ≡ cost device names (tree_view t) + behind m (λ y. n) = ap (λ ts. items_steps device names ts) (rest_at xs i t is h) in
    counts-from (failed (List Single) e) start old new (cost device names (tree_view t) + behind m (λ y. n)) total least (ap (λ (k : ℕ). old + k) (sym at) ∙ w)
    (counts-behind Single (List Single) e m old new (cost device names (tree_view t)) (λ y. n) g c)

-- ---- the arguments of a call

pub values-stop : (device : Device) (names : Bindings) (xs : List Tree) (i : ℕ) (t : Tree) (e : EvalError) (start old new total : ℕ) → t ≡ get_or xs i t → i < length xs →
    Gives (failed Value e) (means device names (tree_view t)) → Counts (failed Value e) old new (cost device names (tree_view t)) → start ≤ old →
    old + each_steps device names (asts_of (map tree_view (drop i xs))) ≡ start + total → Counts (failed (List Value) e) start new total
values-stop device names xs i t e start old new total is h g c least w =
    let m : Result Value EvalError = means device names (tree_view t) in
    let n : ℕ = each_steps device names (asts_of (map tree_view (drop (i + 1) xs))) in
    let at : each_steps device names (asts_of (map tree_view (drop i xs))) ≡ cost device names (tree_view t) + behind m (λ y. n) = ap (λ ts. each_steps device names ts) (rest_at xs i t is h) in
    counts-from (failed (List Value) e) start old new (cost device names (tree_view t) + behind m (λ y. n)) total least (ap (λ (k : ℕ). old + k) (sym at) ∙ w)
    (counts-behind Value (List Value) e m old new (cost device names (tree_view t)) (λ y. n) g c)

pub values-step : (device : Device) (names : Bindings) (xs : List Tree) (i : ℕ) (t : Tree) (prefix prefix' : List Value) (x : Value) (whole : Result (List Value) EvalError) →
    t ≡ get_or xs i t → i < length xs → means device names (tree_view t) ≡ Ok x → prefix' ≡ prefix ++ x ∷ [] →
    behind_all prefix (each device names (asts_of (map tree_view (drop i xs)))) ≡ whole →
    behind_all prefix' (each device names (asts_of (map tree_view (drop (i + 1) xs)))) ≡ whole
values-step device names xs i t prefix prefix' x whole e h found put w =
    let rest : Result (List Value) EvalError = each device names (asts_of (map tree_view (drop (i + 1) xs))) in
    ap (λ (f : List Value). behind_all f rest) put
    ∙ behind-more prefix x rest
    ∙ ap (λ (r : Result Value EvalError). behind_all prefix (r >>= λ y. rest >>= λ ys. Ok (y ∷ ys))) (sym found)
    ∙ ap (λ ts. behind_all prefix (each device names ts)) (sym (rest_at xs i t e h)) ∙ w

pub values-count : (device : Device) (names : Bindings) (xs : List Tree) (i : ℕ) (t : Tree) (x : Value) (old new whole : ℕ) →
    t ≡ get_or xs i t → i < length xs → means device names (tree_view t) ≡ Ok x → new ≡ old + cost device names (tree_view t) →
    old + each_steps device names (asts_of (map tree_view (drop i xs))) ≡ whole →
    new + each_steps device names (asts_of (map tree_view (drop (i + 1) xs))) ≡ whole
values-count device names xs i t x old new whole e h found rose w =
    let n : ℕ = each_steps device names (asts_of (map tree_view (drop (i + 1) xs))) in
    let at : each_steps device names (asts_of (map tree_view (drop i xs))) ≡ cost device names (tree_view t) + n =
    ap (λ ts. each_steps device names ts) (rest_at xs i t e h)
    ∙ ap (λ (r : Result Value EvalError). cost device names (tree_view t) + behind r (λ y. n)) found in
    omega arith

-- ---- the entries of a map literal

-- the order of keys that Rust derives is that of the definition
key_order : (k l : Key) → (key_ord.TheImpl.cmp-value).it k l ≡ key_cmp k l
key_order (key.Int m) (key.Int n) = refl
key_order (key.Int m) (key.Bool b) = refl
key_order (key.Int m) (key.Text t) = refl
key_order (key.Bool a) (key.Int n) = refl
key_order (key.Bool a) (key.Bool b) = refl
key_order (key.Bool a) (key.Text t) = refl
key_order (key.Text s) (key.Int n) = refl
key_order (key.Text s) (key.Bool b) = refl
key_order (key.Text s) (key.Text t) = refl

put-in-order : (table : List (Key × Single)) (k : Key) (x : Single) → insert_entry ((key_ord.TheImpl.cmp-value).it) table k x ≡ insert_entry key_cmp table k x
put-in-order table k x = λ i. insert_entry (λ (a b : Key). key_order a b i) table k x

pub entries-step : (device : Device) (names : Bindings) (xs : List Entry) (i : ℕ) (t : Entry) (table table' : List (Key × Single)) (k : Key) (x : Single) (whole : Result (List (Key × Single)) EvalError) →
    t ≡ get_or xs i t → i < length xs → as_key (means device names (tree_view t.key)) ≡ Ok k → as_single (means device names (tree_view t.value)) ≡ Ok x →
    table' ≡ insert_entry ((key_ord.TheImpl.cmp-value).it) table k x →
    meaning.entries_of device names table (entries_of (map entry_view (drop i xs))) ≡ whole →
    meaning.entries_of device names table' (entries_of (map entry_view (drop (i + 1) xs))) ≡ whole
entries-step device names xs i t table table' k x whole e h keyed found put w =
    let rest : Entries = entries_of (map entry_view (drop (i + 1) xs)) in
    ap (λ (f : List (Key × Single)). meaning.entries_of device names f rest) (put ∙ put-in-order table k x)
    ∙ ap (λ (r : Result Single EvalError). r >>= λ y. meaning.entries_of device names (insert_entry key_cmp table k y) rest) (sym found)
    ∙ ap (λ (r : Result Key EvalError). r >>= λ q. as_single (means device names (tree_view t.value)) >>= λ y. meaning.entries_of device names (insert_entry key_cmp table q y) rest) (sym keyed)
    ∙ ap (λ es. meaning.entries_of device names table es) (sym (entries_at xs i t e h)) ∙ w

pub entries-count : (device : Device) (names : Bindings) (xs : List Entry) (i : ℕ) (t : Entry) (k : Key) (x : Single) (old mid new whole : ℕ) →
    t ≡ get_or xs i t → i < length xs → as_key (means device names (tree_view t.key)) ≡ Ok k → as_single (means device names (tree_view t.value)) ≡ Ok x →
    mid ≡ old + cost device names (tree_view t.key) → new ≡ mid + cost device names (tree_view t.value) →
    old + entries_steps device names (entries_of (map entry_view (drop i xs))) ≡ whole →
    new + entries_steps device names (entries_of (map entry_view (drop (i + 1) xs))) ≡ whole
entries-count device names xs i t k x old mid new whole e h keyed found rose again w =
    let n : ℕ = entries_steps device names (entries_of (map entry_view (drop (i + 1) xs))) in
    let at : entries_steps device names (entries_of (map entry_view (drop i xs))) ≡ cost device names (tree_view t.key) + (cost device names (tree_view t.value) + n) =
    ap (λ es. entries_steps device names es) (entries_at xs i t e h)
    ∙ ap (λ (r : Result Key EvalError). cost device names (tree_view t.key) + behind r (λ q. cost device names (tree_view t.value) + behind (as_single (means device names (tree_view t.value))) (λ y. n))) keyed
    ∙ ap (λ (r : Result Single EvalError). cost device names (tree_view t.key) + (cost device names (tree_view t.value) + behind r (λ y. n))) found in
    omega arith

-- an error at a key, and at a value
pub key-stop : (device : Device) (names : Bindings) (xs : List Entry) (i : ℕ) (t : Entry) (e : EvalError) (start old new total : ℕ) → t ≡ get_or xs i t → i < length xs →
    Gives (failed Key e) (as_key (means device names (tree_view t.key))) → Counts (failed Key e) old new (cost device names (tree_view t.key)) → start ≤ old →
    old + entries_steps device names (entries_of (map entry_view (drop i xs))) ≡ start + total → Counts (failed (List (Key × Single)) e) start new total
key-stop device names xs i t e start old new total is h g c least w =
    let m : Result Key EvalError = as_key (means device names (tree_view t.key)) in
    let n : ℕ = entries_steps device names (entries_of (map entry_view (drop (i + 1) xs))) in
    let f : Key → ℕ = λ q. cost device names (tree_view t.value) + behind (as_single (means device names (tree_view t.value))) (λ y. n) in
    let at : entries_steps device names (entries_of (map entry_view (drop i xs))) ≡ cost device names (tree_view t.key) + behind m f = ap (λ es. entries_steps device names es) (entries_at xs i t is h) in
    counts-from (failed (List (Key × Single)) e) start old new (cost device names (tree_view t.key) + behind m f) total least (ap (λ (k : ℕ). old + k) (sym at) ∙ w)
    (counts-behind Key (List (Key × Single)) e m old new (cost device names (tree_view t.key)) f g c)

pub value-stop : (device : Device) (names : Bindings) (xs : List Entry) (i : ℕ) (t : Entry) (k : Key) (e : EvalError) (start old mid new total : ℕ) → t ≡ get_or xs i t → i < length xs →
    as_key (means device names (tree_view t.key)) ≡ Ok k → mid ≡ old + cost device names (tree_view t.key) →
    Gives (failed Single e) (as_single (means device names (tree_view t.value))) → Counts (failed Single e) mid new (cost device names (tree_view t.value)) → start ≤ old →
    old + entries_steps device names (entries_of (map entry_view (drop i xs))) ≡ start + total → Counts (failed (List (Key × Single)) e) start new total
value-stop device names xs i t k e start old mid new total is h keyed rose g c least w =
    let m : Result Single EvalError = as_single (means device names (tree_view t.value)) in
    let n : ℕ = entries_steps device names (entries_of (map entry_view (drop (i + 1) xs))) in
    let at : entries_steps device names (entries_of (map entry_view (drop i xs))) ≡ cost device names (tree_view t.key) + (cost device names (tree_view t.value) + behind m (λ y. n)) =
    ap (λ es. entries_steps device names es) (entries_at xs i t is h)
    ∙ ap (λ (r : Result Key EvalError). cost device names (tree_view t.key) + behind r (λ q. cost device names (tree_view t.value) + behind m (λ y. n))) keyed in
    let rest : ℕ = cost device names (tree_view t.value) + behind m (λ y. n) in
    let sums : mid + rest ≡ start + total = omega (arith, at, rose, w) in
    let later : start ≤ mid = omega (arith, least, rose) in
    counts-from (failed (List (Key × Single)) e) start mid new rest total later sums
    (counts-behind Single (List (Key × Single)) e m mid new (cost device names (tree_view t.value)) (λ y. n) g c)

-- ---- what `filter` and `map` make

pub made-at : (make : Maker) (steps : Single → ℕ) (xs : List Single) (i : ℕ) (x : Single) → x ≡ get_or xs i x → i < length xs →
    gathered_steps make steps (drop i xs) ≡ 2 + steps x + behind (make x) (λ y. gathered_steps make steps (drop (i + 1) xs))
made-at make steps xs i x e h = ap (gathered_steps make steps) (drop_more xs i x h ∙ ap (λ u. u ∷ drop (i + 1) xs) (sym e))

pub made-stop : (make : Maker) (steps : Single → ℕ) (xs : List Single) (i : ℕ) (x : Single) (e : EvalError) (start old new total : ℕ) → x ≡ get_or xs i x → i < length xs →
    Gives (failed (Option Single) e) (make x) → Counts (failed (Option Single) e) (old + 2) new (steps x) → start ≤ old →
    old + gathered_steps make steps (drop i xs) ≡ start + total → Counts (failed (List Single) e) start new total
made-stop make steps xs i x e start old new total is h g c least w =
    let n : ℕ = gathered_steps make steps (drop (i + 1) xs) in
    let at : gathered_steps make steps (drop i xs) ≡ 2 + steps x + behind (make x) (λ y. n) = made-at make steps xs i x is h in
    let rest : ℕ = steps x + behind (make x) (λ y. n) in
    let sums : old + 2 + rest ≡ start + total = omega (arith, at, w) in
    let later : start ≤ old + 2 = omega (arith, least) in
    counts-from (failed (List Single) e) start (old + 2) new rest total later sums
    (counts-behind (Option Single) (List Single) e (make x) (old + 2) new (steps x) (λ y. n) g c)

pub made-count : (make : Maker) (steps : Single → ℕ) (xs : List Single) (i : ℕ) (x : Single) (y : Option Single) (old new whole : ℕ) → x ≡ get_or xs i x → i < length xs →
    make x ≡ Ok y → new ≡ old + 2 + steps x → old + gathered_steps make steps (drop i xs) ≡ whole → new + gathered_steps make steps (drop (i + 1) xs) ≡ whole
made-count make steps xs i x y old new whole is h found rose w =
    let n : ℕ = gathered_steps make steps (drop (i + 1) xs) in
    let at : gathered_steps make steps (drop i xs) ≡ 2 + steps x + n = made-at make steps xs i x is h ∙ ap (λ (r : Result (Option Single) EvalError). 2 + steps x + behind r (λ z. n)) found in
    omega arith
