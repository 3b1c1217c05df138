-- Counter sets are read one after another, each with a name that is new and few counters in all.
use Rattle.std.proofs.Common.{◌≡◌, ◌∙◌, ℕ, ◌+◌, ◌<◌, ◌≤◌, ℤ, pos, negsuc, Bool, true, false, ◌||◌, ◌*ℤ◌, List, [], ◌∷◌, ◌++◌, length, map, Option, Some, None, Result, Ok, Err, ap, codes, if◌then◌else◌, nat_le, nat_lt, option_and_then, refl, sym}
use Rattle.std.proofs.Math.Logic.{⊎_elim}
use Rattle.std.proofs.lemmas.Bool.{ltb-true}
use Rattle.std.specs.BTreeMap.{insert_entry}
use Rattle.std.specs.Cmp.Lexicographic.{slice_cmp}
use Rattle.std.specs.Ordering.{nat_cmp}
use Rattle.std.specs.Str.{bytes_eq}
use Rattle.serde_json.specs.Data.{Data, null, boolean, number, string, array, object, Items, no_items, item, Members, no_members, member}
use Rattle.serde_json.specs.Find.{as_integer, as_object, as_str}
use Rattle.quantity.specs.Value.{quantity_value}
use Rattle.quantity.specs.declared.error.QuantityError.{QuantityError}
use Rattle.quantity.specs.declared.error.QuantityError.TheVariants as quantity
use Rattle.object_fields.specs.Fields.{dns_label_at, error_at, field_at, field_error, member_of, name_in, not_null, object_value, some_or, table_at, table_value, text_at, unless, value_at, ◌>>=◌}
use Rattle.object_fields.specs.Names.{is_dns_label, label_most}
use Rattle.object_fields.specs.NewNames.{is_among, label_of}
use Rattle.object_fields.specs.declared.error.FieldError.{FieldError}
use Rattle.object_fields.specs.declared.kind.FieldErrorKind.{FieldErrorKind}
use Rattle.object_fields.specs.declared.kind.FieldErrorKind.TheVariants.{BadName, BadQuantity, BadVersion, Doubled, Missing, NotOne, NotSupported, OutOfRange, TooLong, TooMany, Unknown, WrongType}
use Rattle.object_fields.specs.declared.path.Step.{Step}
use Rattle.object_fields.specs.declared.path.Step.TheVariants as step
use Rattle.api_slice.specs.Amounts.{amount_of, not_negative, ones_most, quantity_at, quantity_kind, quantity_of, quantity_or, whole_quantity}
use Rattle.slice_laws.specs.Counted.{set_alone, text_in}
use Rattle.api_slice.specs.Counters.{counter_name, counters_at, counters_most, counters_with, has_set, new_set_name, sets_from}
use Rattle.api_slice.specs.Lists.{count_at, count_on, members_length, members_or_none}
use Rattle.api_slice.specs.declared.types.CounterSet.{CounterSet}
use Rattle.slice_laws.proofs.Counts.{IsCounting, IsMet, IsPast, IsTakenText, either_err, from, has, judged_item}
use Rattle.slice_laws.proofs.Read.{Labels}
use Rattle.slice_laws.proofs.Read.{counted_on}
use Rattle.slice_laws.proofs.Read.{along, gave, kept, the_same, was_some}

-- ---- errors that a reading never has

-- a kind that a single field is never refused with
pub record Plain (kind : FieldErrorKind) : Type 0 where
  pub missing : Missing ≡ kind → ⊥
  pub wrong : WrongType ≡ kind → ⊥
  pub long : TooLong ≡ kind → ⊥
  pub bad : BadName ≡ kind → ⊥
  pub out : OutOfRange ≡ kind → ⊥
  pub quantity : BadQuantity ≡ kind → ⊥
  pub unknown : Unknown ≡ kind → ⊥
  pub version : BadVersion ≡ kind → ⊥
  pub one : NotOne ≡ kind → ⊥
  pub unsupported : NotSupported ≡ kind → ⊥

pub not_many : Plain TooMany
not_many = record { missing = λ h. cc; wrong = λ h. cc; long = λ h. cc; bad = λ h. cc; out = λ h. cc; quantity = λ h. cc; unknown = λ h. cc; version = λ h. cc; one = λ h. cc; unsupported = λ h. cc }

pub not_doubled : Plain Doubled
not_doubled = record { missing = λ h. cc; wrong = λ h. cc; long = λ h. cc; bad = λ h. cc; out = λ h. cc; quantity = λ h. cc; unknown = λ h. cc; version = λ h. cc; one = λ h. cc; unsupported = λ h. cc }

abbrev pub done : {A : Type 0} → A → Result A FieldError
done x = Ok x

abbrev pub failed : {A : Type 0} → FieldError → Result A FieldError
failed e = Err e

-- no error of that kind
abbrev pub Never : {A : Type 0} → FieldErrorKind → Result A FieldError → Type 0
Never kind r = (e : FieldError) → r ≡ Err e → e.kind ≡ kind → ⊥

pub never_then : {A B : Type 0} (kind : FieldErrorKind) (x : Result A FieldError) (f : A → Result B FieldError) → Never kind x → ((a : A) → Never kind (f a)) → Never kind (x >>= f)
never_then kind (Ok a) f p q e h k = q a e h k
never_then kind (Err g) f p q e h k = let same : g ≡ e = cc in p e (ap Err same) k

pub never_err : {A : Type 0} (kind : FieldErrorKind) (g : FieldError) → (g.kind ≡ kind → ⊥) → Never kind (failed {A = A} g)
never_err kind g n e h k = let same : g ≡ e = cc in n (ap (λ (x : FieldError). x.kind) same ∙ k)

pub never_some : {A : Type 0} (kind : FieldErrorKind) (g : FieldError) (o : Option A) → (g.kind ≡ kind → ⊥) → Never kind (some_or g o)
never_some kind g (Some x) n e h k = let no_value : ⊥ = cc in no_value
never_some kind g None n e h k = let same : g ≡ e = cc in n (ap (λ (x : FieldError). x.kind) same ∙ k)

-- a value with a count
abbrev pub with_count : {A : Type 0} → A → ℕ → Result (A × ℕ) FieldError
with_count a n = Ok (a, n)

-- it, unless there are too many
abbrev pub counted_or : {A : Type 0} → FieldError → Bool → A → ℕ → Result (A × ℕ) FieldError
counted_or e b a n = unless e b (a, n)

pub never_done : {A : Type 0} (kind : FieldErrorKind) (x : A) → Never kind (done x)
never_done kind x e h k = let no_value : ⊥ = cc in no_value

pub never_counted : {A : Type 0} (kind : FieldErrorKind) (a : A) (n : ℕ) → Never kind (with_count a n)
never_counted kind a n e h k = let no_value : ⊥ = cc in no_value

pub never_unless : {A : Type 0} (kind : FieldErrorKind) (g : FieldError) (b : Bool) (x : A) → (g.kind ≡ kind → ⊥) → Never kind (unless g b x)
never_unless kind g true x n e h k = let same : g ≡ e = cc in n (ap (λ (y : FieldError). y.kind) same ∙ k)
never_unless kind g false x n e h k = let no_value : ⊥ = cc in no_value

never_judged : (kind : FieldErrorKind) (a b : Bool) (g1 g2 : FieldError) (t : List ℕ) → (g1.kind ≡ kind → ⊥) → (g2.kind ≡ kind → ⊥) → Never kind (if a then Err g1 else (if b then Ok t else Err g2))
never_judged kind true b g1 g2 t n m e h k = let same : g1 ≡ e = cc in n (ap (λ (x : FieldError). x.kind) same ∙ k)
never_judged kind false true g1 g2 t n m e h k = let no_value : ⊥ = cc in no_value
never_judged kind false false g1 g2 t n m e h k = let same : g2 ≡ e = cc in m (ap (λ (x : FieldError). x.kind) same ∙ k)

pub never_field : (kind : FieldErrorKind) → Plain kind → (path : List Step) (name : List ℕ) (d : Data) → Never kind (field_at path name d)
never_field kind p path name d = never_some kind (field_error path name Missing) (member_of name d) p.missing

pub never_table : (kind : FieldErrorKind) → Plain kind → (path : List Step) (name : List ℕ) (d : Data) → Never kind (table_at path name d)
never_table kind p path name d = never_then kind (field_at path name d) (λ v. some_or (field_error path name WrongType) (as_object v)) (never_field kind p path name d) (λ v. never_some kind (field_error path name WrongType) (as_object v) p.wrong)

pub never_text : (kind : FieldErrorKind) → Plain kind → (path : List Step) (name : List ℕ) (d : Data) → Never kind (text_at path name d)
never_text kind p path name d = never_then kind (field_at path name d) (λ v. some_or (field_error path name WrongType) (as_str v)) (never_field kind p path name d) (λ v. never_some kind (field_error path name WrongType) (as_str v) p.wrong)

pub never_object : (kind : FieldErrorKind) → Plain kind → (path : List Step) (d : Data) → Never kind (object_value path d)
never_object kind p path d =
    never_then kind (table_value path d) (λ ms. Ok (object ms))
    (never_then kind (value_at path d) (λ v. some_or (error_at path WrongType) (as_object v)) (never_some kind (error_at path Missing) (not_null d) p.missing) (λ v. never_some kind (error_at path WrongType) (as_object v) p.wrong))
    (λ ms. never_done kind (object ms))

never_name : (kind : FieldErrorKind) → Plain kind → (path : List Step) (key : List ℕ) → Never kind (name_in path label_most is_dns_label key)
never_name kind p path key = never_judged kind (nat_lt label_most (length key)) (is_dns_label key) (error_at path TooLong) (error_at path BadName) key p.long p.bad

never_label : (kind : FieldErrorKind) → Plain kind → (path : List Step) (d : Data) → Never kind (label_of path d)
never_label kind p path d =
    never_then kind (object_value path d) (dns_label_at path (codes "name")) (never_object kind p path d)
    (λ v. never_then kind (text_at path (codes "name") v) (name_in (path ++ step.Member (codes "name") ∷ []) label_most is_dns_label) (never_text kind p path (codes "name") v) (λ t. never_name kind p (path ++ step.Member (codes "name") ∷ []) t))

never_kind : (kind : FieldErrorKind) → Plain kind → (e : QuantityError) → quantity_kind e ≡ kind → ⊥
never_kind kind p quantity.BadText h = p.quantity h
never_kind kind p quantity.TooPrecise h = p.quantity h
never_kind kind p quantity.OutOfRange h = p.out h

never_quantity_or : (kind : FieldErrorKind) → Plain kind → (path : List Step) (r : Result ℤ QuantityError) → Never kind (quantity_or path r)
never_quantity_or kind p path (Ok n) e h k = let no_value : ⊥ = cc in no_value
never_quantity_or kind p path (Err g) e h k = let same : error_at path (quantity_kind g) ≡ e = cc in never_kind kind p g (ap (λ (x : FieldError). x.kind) same ∙ k)

never_chosen : {A : Type 0} (kind : FieldErrorKind) (b : Bool) (x : A) (g : FieldError) → (g.kind ≡ kind → ⊥) → Never kind (if b then Ok x else Err g)
never_chosen kind true x g n e h k = let no_value : ⊥ = cc in no_value
never_chosen kind false x g n e h k = let same : g ≡ e = cc in n (ap (λ (y : FieldError). y.kind) same ∙ k)

never_whole : (kind : FieldErrorKind) → Plain kind → (path : List Step) (n : ℤ) → Never kind (whole_quantity path n)
never_whole kind p path (pos n) = never_chosen kind (nat_le n ones_most) (pos n *ℤ pos 1000000000) (error_at path OutOfRange) p.out
never_whole kind p path (negsuc n) = never_chosen kind (nat_lt n ones_most) (negsuc n *ℤ pos 1000000000) (error_at path OutOfRange) p.out

never_quantity_of : (kind : FieldErrorKind) → Plain kind → (path : List Step) (d : Data) → Never kind (quantity_of path d)
never_quantity_of kind p path null = never_err kind (error_at path WrongType) p.wrong
never_quantity_of kind p path (boolean b) = never_err kind (error_at path WrongType) p.wrong
never_quantity_of kind p path (number n) = never_then kind (some_or (error_at path WrongType) (as_integer n)) (whole_quantity path) (never_some kind (error_at path WrongType) (as_integer n) p.wrong) (λ z. never_whole kind p path z)
never_quantity_of kind p path (string t) = never_quantity_or kind p path (quantity_value t)
never_quantity_of kind p path (array ds) = never_err kind (error_at path WrongType) p.wrong
never_quantity_of kind p path (object ms) = never_err kind (error_at path WrongType) p.wrong

pub never_quantity : (kind : FieldErrorKind) → Plain kind → (path : List Step) (name : List ℕ) (d : Data) → Never kind (quantity_at path name d)
never_quantity kind p path name d = never_then kind (field_at path name d) (quantity_of (path ++ step.Member name ∷ [])) (never_field kind p path name d) (λ v. never_quantity_of kind p (path ++ step.Member name ∷ []) v)

never_not_negative : (kind : FieldErrorKind) → Plain kind → (path : List Step) (z : ℤ) → Never kind (not_negative path z)
never_not_negative kind p path (pos n) = never_done kind (pos n)
never_not_negative kind p path (negsuc n) = never_err kind (error_at path OutOfRange) p.out

pub never_amount : (kind : FieldErrorKind) → Plain kind → (path : List Step) (d : Data) → Never kind (amount_of path d)
never_amount kind p path d =
    never_then kind (object_value path d >>= quantity_at path (codes "value")) (not_negative (path ++ step.Member (codes "value") ∷ []))
    (never_then kind (object_value path d) (quantity_at path (codes "value")) (never_object kind p path d) (λ v. never_quantity kind p path (codes "value") v))
    (λ z. never_not_negative kind p (path ++ step.Member (codes "value") ∷ []) z)

never_counters : (kind : FieldErrorKind) → Plain kind → (path : List Step) (counters : List (List ℕ × ℤ)) (ms : Members) → Never kind (counters_with path counters ms)
unfolding counter_name
never_counters kind p path counters no_members = never_done kind counters
never_counters kind p path counters (member key d ms) =
    never_then kind (counter_name (path ++ step.Key key ∷ []) key) (λ name. amount_of (path ++ step.Key key ∷ []) d >>= λ amount. counters_with path (insert_entry (slice_cmp nat_cmp) counters name amount) ms)
    (never_name kind p (path ++ step.Key key ∷ []) key)
    (λ name. never_then kind (amount_of (path ++ step.Key key ∷ []) d) (λ amount. counters_with path (insert_entry (slice_cmp nat_cmp) counters name amount) ms)
    (never_amount kind p (path ++ step.Key key ∷ []) d) (λ amount. never_counters kind p path (insert_entry (slice_cmp nat_cmp) counters name amount) ms))

-- ---- how many members there are

counted_by : (m : Option Data) (v : Data) (ms : Members) → m ≡ Some v → as_object v ≡ Some ms → members_length ms ≡ members_length (members_or_none (option_and_then as_object m))
counted_by m v ms there these = sym (ap (λ o. members_length (members_or_none (option_and_then as_object o))) there ∙ ap (λ o. members_length (members_or_none o)) these)

-- the members of a map that was read are those that are counted
pub members_counted : (path : List Step) (name : List ℕ) (d : Data) (ms : Members) → table_at path name d ≡ Ok ms → members_length ms ≡ count_at name d
members_counted path name d ms h =
    let g = gave (field_at path name d) (λ v. some_or (field_error path name WrongType) (as_object v)) ms h in
    let there = was_some (field_error path name Missing) (member_of name d) g.value g.first in
    let these = was_some (field_error path name WrongType) (as_object g.value) ms g.second in
    counted_by (member_of name d) g.value ms there these

-- ---- a counter set, step by step

abbrev pub made_set : List ℕ → List (List ℕ × ℤ) → CounterSet
made_set name counters = record { name = name; counters = counters }

abbrev pub set_text : CounterSet → List ℕ
set_text s = s.name

abbrev pub set_step : List Step → List Step → ℕ → List CounterSet → Data → Result (CounterSet × ℕ) FieldError
set_step list at met before d =
    new_set_name at before d >>= λ name.
    counters_at list at met d >>= λ counters.
    with_count (made_set name counters.0) counters.1

pub go : {A B : Type 0} (r : Result A FieldError) (f g : A → Result B FieldError) → ((a : A) → f a ≡ g a) → r >>= f ≡ r >>= g
go (Ok a) f g h = h a
go (Err e) f g h = refl

pub joined : {A B C : Type 0} (r : Result A FieldError) (f : A → Result B FieldError) (g : B → Result C FieldError) → r >>= f >>= g ≡ r >>= λ a. f a >>= g
joined (Ok a) f g = refl
joined (Err e) f g = refl

pub sets_are : (path : List Step) (place met : ℕ) (before : List CounterSet) (ds : Items) → sets_from path place met before ds ≡ from set_step path place met before ds
sets_are path place met before no_items = refl
sets_are path place met before (item d ds) =
    let at : List Step = path ++ step.Place place ∷ [] in
    let next : CounterSet × ℕ → Result (List CounterSet) FieldError = λ p. from set_step path (place + 1) p.1 (before ++ p.0 ∷ []) ds in
    let names : List ℕ → Result (CounterSet × ℕ) FieldError = λ name. counters_at path at met d >>= λ counters. with_count (made_set name counters.0) counters.1 in
    go (new_set_name at before d) (λ name. counters_at path at met d >>= λ counters. sets_from path (place + 1) counters.1 (before ++ record { name = name; counters = counters.0 } ∷ []) ds) (λ name. names name >>= next)
    (λ name. go (counters_at path at met d) (λ counters. sets_from path (place + 1) counters.1 (before ++ record { name = name; counters = counters.0 } ∷ []) ds) (λ counters. next (record { name = name; counters = counters.0 }, counters.1))
    (λ counters. sets_are path (place + 1) counters.1 (before ++ record { name = name; counters = counters.0 } ∷ []) ds)
    ∙ sym (joined (counters_at path at met d) (λ counters. with_count (made_set name counters.0) counters.1) next))
    ∙ sym (joined (new_set_name at before d) names next)

among_sets : (name : List ℕ) (sets : List CounterSet) → has_set name sets ≡ is_among name (map set_text sets)
among_sets name [] = refl
among_sets name (s ∷ ss) = ap (λ b. bytes_eq s.name name || b) (among_sets name ss)

pub refused : {A : Type 0} (g e : FieldError) (b : Bool) (x : A) → unless g b x ≡ Err e → (b ≡ true) × (e ≡ g)
refused g e true x h = let same : g ≡ e = cc in (refl, sym same)
refused g e false x h = absurd (let no_value : ⊥ = cc in no_value)

-- a count that is refused or goes on, with a reading that returned a value after it
pub passed_on : {A B : Type 0} (e : FieldError) (b : Bool) (m : ℕ) (r : Result A FieldError) (a : A) (f : A → B) → r ≡ Ok a →
    (unless e b m >>= λ more. r >>= λ c. with_count c more) >>= (λ (p : A × ℕ). with_count (f p.0) p.1) ≡ counted_or e b (f a) m
passed_on e true m r a f h = refl
passed_on e false m r a f h = ap (λ s. (s >>= λ c. with_count c m) >>= (λ p. with_count (f p.0) p.1)) h

pub item_by : {A X : Type 0} (e : FieldError) (b : Bool) (name : A) (x : X) (f : A → Result (X × ℕ) FieldError) (g : X → Result (X × ℕ) FieldError) → f name ≡ g x → unless e b name >>= f ≡ unless e b x >>= g
item_by e true name x f g h = refl
item_by e false name x f g h = h

abbrev pub count_error : List Step → FieldError
count_error path = error_at path TooMany

abbrev pub name_error : List Step → FieldError
name_error at = field_error at (codes "name") Doubled

-- the counters of a set whose members were read
counters_by : (path at : List Step) (met : ℕ) (d : Data) (ms : Members) (counters : List (List ℕ × ℤ)) (name : List ℕ) → table_at at (codes "counters") d ≡ Ok ms → counters_with (at ++ step.Member (codes "counters") ∷ []) [] ms ≡ Ok counters →
    counters_at path at met d >>= (λ c. with_count (made_set name c.0) c.1) ≡ counted_or (count_error path) (nat_lt counters_most (met + has d)) (made_set name counters) (met + has d)
counters_by path at met d ms counters name t w =
    ap (λ r. (r >>= λ xs. count_on path counters_most met xs >>= λ more. counters_with (at ++ step.Member (codes "counters") ∷ []) [] xs >>= λ cs. with_count cs more) >>= (λ (c : List (List ℕ × ℤ) × ℕ). with_count (made_set name c.0) c.1)) t
    ∙ passed_on (count_error path) (nat_lt counters_most (met + members_length ms)) (met + members_length ms) (counters_with (at ++ step.Member (codes "counters") ∷ []) [] ms) counters (made_set name) w
    ∙ ap (λ n. counted_or (count_error path) (nat_lt counters_most (met + n)) (made_set name counters) (met + n)) (members_counted at (codes "counters") d ms t)

set_taken : (path at : List Step) (met : ℕ) (before : List CounterSet) (d : Data) (x : CounterSet) → set_alone at d ≡ Ok x → set_step path at met before d ≡ judged_item (codes "name") counters_most set_text path at met before d x
set_taken path at met before d x h =
    let l = gave (label_of at d) (λ name. table_at at (codes "counters") d >>= λ ms. counters_with (at ++ step.Member (codes "counters") ∷ []) [] ms >>= λ counters. done (made_set name counters)) x h in
    let t = gave (table_at at (codes "counters") d) (λ ms. counters_with (at ++ step.Member (codes "counters") ∷ []) [] ms >>= λ counters. done (made_set l.value counters)) x l.second in
    let w = gave (counters_with (at ++ step.Member (codes "counters") ∷ []) [] t.value) (λ counters. done (made_set l.value counters)) x t.second in
    let is : made_set l.value w.value ≡ x = the_same (made_set l.value w.value) x w.second in
    let names : List ℕ → Result (CounterSet × ℕ) FieldError = λ name. counters_at path at met d >>= λ c. with_count (made_set name c.0) c.1 in
    let count : CounterSet → Result (CounterSet × ℕ) FieldError = λ y. counted_or (count_error path) (nat_lt counters_most (met + has d)) y (met + has d) in
    let rest : names l.value ≡ count (made_set l.value w.value) = counters_by path at met d t.value w.value l.value t.first w.first in
    ap (λ r. (r >>= λ n. unless (name_error at) (has_set n before) n) >>= names) l.first
    ∙ item_by (name_error at) (has_set l.value before) l.value (made_set l.value w.value) names count rest
    ∙ ap (λ b. unless (name_error at) b (made_set l.value w.value) >>= count) (among_sets l.value before)
    ∙ ap (λ y. unless (name_error at) (is_among (set_text y) (map set_text before)) y >>= count) is

set_met : (path at : List Step) (met : ℕ) (before : List CounterSet) (d : Data) (p : CounterSet × ℕ) → set_step path at met before d ≡ Ok p → IsMet counters_most (met + has d) p.1
set_met path at met before d p h =
    let n = gave (new_set_name at before d) (λ name. counters_at path at met d >>= λ c. with_count (made_set name c.0) c.1) p h in
    let c = gave (counters_at path at met d) (λ c. with_count (made_set n.value c.0) c.1) p n.second in
    let t = gave (table_at at (codes "counters") d) (λ ms. count_on path counters_most met ms >>= λ more. counters_with (at ++ step.Member (codes "counters") ∷ []) [] ms >>= λ counters. with_count counters more) c.value c.first in
    let m = gave (count_on path counters_most met t.value) (λ more. counters_with (at ++ step.Member (codes "counters") ∷ []) [] t.value >>= λ counters. with_count counters more) c.value t.second in
    let w = gave (counters_with (at ++ step.Member (codes "counters") ∷ []) [] t.value) (λ counters. with_count counters m.value) c.value m.second in
    let o = counted_on path counters_most met t.value m.value m.first in
    let met_now : List (List ℕ × ℤ) × ℕ = (w.value, m.value) in
    let last : met_now ≡ c.value = the_same met_now c.value w.second in
    let made_now : CounterSet × ℕ = (made_set n.value c.value.0, c.value.1) in
    let made : made_now ≡ p = the_same made_now p c.second in
    let now : p.1 ≡ met + has d = sym (ap (λ (q : CounterSet × ℕ). q.1) made) ∙ sym (ap (λ (q : List (List ℕ × ℤ) × ℕ). q.1) last) ∙ sym o.0 ∙ ap (λ k. met + k) (members_counted at (codes "counters") d t.value t.first) in
    let few : met + has d ≤ counters_most = along (λ k. k ≤ counters_most) m.value (met + has d) (sym o.0 ∙ ap (λ k. met + k) (members_counted at (codes "counters") d t.value t.first)) o.1 in
    record { is = now; few = few }

-- the name that a label has
said : Labels → (at : List Step) (d : Data) (name : List ℕ) → label_of at d ≡ Ok name → text_in (codes "name") d ≡ Some name
said law at d name h =
    let l = gave (object_value at d) (dns_label_at at (codes "name")) name h in
    along (λ v. text_in (codes "name") v ≡ Some name) l.value d (law.object_ at d l.value l.first) (law.name at l.value name l.second)

set_named : Labels → (path at : List Step) (met : ℕ) (before : List CounterSet) (d : Data) (p : CounterSet × ℕ) → set_step path at met before d ≡ Ok p → text_in (codes "name") d ≡ Some (set_text p.0)
set_named law path at met before d p h =
    let n = gave (new_set_name at before d) (λ name. counters_at path at met d >>= λ c. with_count (made_set name c.0) c.1) p h in
    let c = gave (counters_at path at met d) (λ c. with_count (made_set n.value c.0) c.1) p n.second in
    let made_now : CounterSet × ℕ = (made_set n.value c.value.0, c.value.1) in
    let made : made_now ≡ p = the_same made_now p c.second in
    let g = gave (label_of at d) (λ name. unless (name_error at) (has_set name before) name) n.value n.first in
    let e : g.value ≡ n.value = kept (name_error at) (has_set g.value before) g.value n.value g.second in
    said law at d g.value g.first ∙ ap Some e ∙ ap (λ (q : CounterSet × ℕ). Some (set_text q.0)) made

never_rest : (path at : List Step) (met : ℕ) (d : Data) (name : List ℕ) → Never Doubled (counters_at path at met d >>= (λ c. with_count (made_set name c.0) c.1))
never_rest path at met d name =
    never_then Doubled (counters_at path at met d) (λ c. with_count (made_set name c.0) c.1)
    (never_then Doubled (table_at at (codes "counters") d) (λ ms. count_on path counters_most met ms >>= λ more. counters_with (at ++ step.Member (codes "counters") ∷ []) [] ms >>= λ counters. with_count counters more)
    (never_table Doubled not_doubled at (codes "counters") d)
    (λ ms. never_then Doubled (count_on path counters_most met ms) (λ more. counters_with (at ++ step.Member (codes "counters") ∷ []) [] ms >>= λ counters. with_count counters more)
    (never_unless Doubled (count_error path) (nat_lt counters_most (met + members_length ms)) (met + members_length ms) (λ h. cc))
    (λ more. never_then Doubled (counters_with (at ++ step.Member (codes "counters") ∷ []) [] ms) (λ counters. with_count counters more) (never_counters Doubled not_doubled (at ++ step.Member (codes "counters") ∷ []) [] ms) (λ counters. never_counted Doubled counters more))))
    (λ c. never_counted Doubled (made_set name c.0) c.1)

set_doubled : Labels → (path at : List Step) (met : ℕ) (before : List CounterSet) (d : Data) (e : FieldError) → set_step path at met before d ≡ Err e → e.kind ≡ Doubled → IsTakenText (codes "name") at (map set_text before) d e
set_doubled law path at met before d e h k =
    ⊎_elim (λ x. ⊎_elim (λ y. absurd (never_label Doubled not_doubled at d e y k))
    (λ y.
    let r = refused (name_error at) e (has_set y.0 before) y.0 y.1.1 in
    record { text = y.0; is_text = said law at d y.0 y.1.0; stands = sym (among_sets y.0 before) ∙ r.0; is = r.1 })
    (either_err (label_of at d) (λ name. unless (name_error at) (has_set name before) name) e x))
    (λ x. absurd (never_rest path at met d x.0 e x.1.1 k))
    (either_err (new_set_name at before d) (λ name. counters_at path at met d >>= λ c. with_count (made_set name c.0) c.1) e h)

-- where the counters of an item are too many
many_counters : (path at : List Step) (met : ℕ) (d : Data) (e : FieldError) → counters_at path at met d ≡ Err e → e.kind ≡ TooMany → IsPast counters_most path (met + has d) e
many_counters path at met d e h k =
    ⊎_elim (λ x. absurd (never_table TooMany not_many at (codes "counters") d e x k))
    (λ x. ⊎_elim (λ y.
    let r = refused (count_error path) e (nat_lt counters_most (met + members_length x.0)) (met + members_length x.0) y in
    let l : counters_most < met + members_length x.0 = ltb-true counters_most (met + members_length x.0) r.0 in
    let m : counters_most < met + has d = along (λ n. counters_most < met + n) (members_length x.0) (has d) (members_counted at (codes "counters") d x.0 x.1.0) l in
    record { many = m; is = r.1 })
    (λ y. absurd (never_then TooMany (counters_with (at ++ step.Member (codes "counters") ∷ []) [] x.0) (λ counters. with_count counters y.0) (never_counters TooMany not_many (at ++ step.Member (codes "counters") ∷ []) [] x.0) (λ counters. never_counted TooMany counters y.0) e y.1.1 k))
    (either_err (count_on path counters_most met x.0) (λ more. counters_with (at ++ step.Member (codes "counters") ∷ []) [] x.0 >>= λ counters. with_count counters more) e x.1.1))
    (either_err (table_at at (codes "counters") d) (λ ms. count_on path counters_most met ms >>= λ more. counters_with (at ++ step.Member (codes "counters") ∷ []) [] ms >>= λ counters. with_count counters more) e h)

set_many : (path at : List Step) (met : ℕ) (before : List CounterSet) (d : Data) (e : FieldError) → set_step path at met before d ≡ Err e → e.kind ≡ TooMany → IsPast counters_most path (met + has d) e
set_many path at met before d e h k =
    ⊎_elim (λ x. absurd (never_then TooMany (label_of at d) (λ name. unless (name_error at) (has_set name before) name) (never_label TooMany not_many at d) (λ name. never_unless TooMany (name_error at) (has_set name before) name (λ h. cc)) e x k))
    (λ x. ⊎_elim (λ y. many_counters path at met d e y k) (λ y. absurd (let no_value : ⊥ = never_counted TooMany (made_set x.0 y.0.0) y.0.1 e y.1.1 k in no_value))
    (either_err (counters_at path at met d) (λ c. with_count (made_set x.0 c.0) c.1) e x.1.1))
    (either_err (new_set_name at before d) (λ name. counters_at path at met d >>= λ c. with_count (made_set name c.0) c.1) e h)

pub set_reading : Labels → IsCounting (codes "name") counters_most set_text set_alone set_step
set_reading law = record { taken = set_taken; met = set_met; named = set_named law; doubled = set_doubled law; many = set_many }
