-- What a reading that returned a value says about its steps: of texts, numbers, lists, names and tables.
use Rattle.std.proofs.Common.{◌≡◌, ℕ, ◌+◌, ◌≤◌, nat_lt, nat_le, ◌≢◌, ℤ, pos, negsuc, map, Bool, true, false, ◌&&◌, ◌||◌, not, List, [], ◌∷◌, ◌++◌, length, Option, Some, None, Result, Ok, Err, option_and_then, ap, ◌∙◌, refl, sym, subst, arith, if◌then◌else◌}
use Rattle.std.proofs.lemmas.Bool.Decides.{nat_tests}
use Rattle.std.proofs.lemmas.Slice.Eq.{bytes_eq-Decides}
use Rattle.std.proofs.lemmas.List.Elements.{All-nil, All-cons, All-head, All-tail, All-append}
use Rattle.std.proofs.lemmas.Map.Views.{All-keys-insert_entry, All-values-insert_entry}
use Rattle.std.specs.BTreeMap.{insert_entry}
use Rattle.std.specs.List.{All, list_any}
use Rattle.std.specs.Map.{keys_of, values_of}
use Rattle.std.specs.Ordering.{match_ordering}
use Rattle.std.specs.declared.cmp.Ordering.{Ordering}
use Rattle.std.specs.declared.cmp.Ordering.TheVariants.{Less, Equal, Greater}
use Rattle.std.specs.Str.{bytes_eq}
use Rattle.serde_json.specs.Data.{Data, Items}
use Rattle.serde_json.specs.Find.{as_array}
use Rattle.object_fields.specs.Fields.{dns_label_at, error_at, field_error, if_there, items_length, judged, list_at, member_of, name_at, name_in, natural_at, natural_between, whole_at, optional_at, short_list_at, some_or, text_at, unless, ◌>>=◌}
use Rattle.object_fields.specs.Lists.{items_or_none}
use Rattle.object_fields.specs.Names.{is_dns_label, is_dns_name, label_most}
use Rattle.object_fields.specs.NewNames.{AreDifferent}
use Rattle.object_fields.specs.Qualified.{IsFullName, cut_at, domain_and_id, domain_most, id_alone, id_most, is_c_identifier, qual_name_in, qualified_from}
use Rattle.object_fields.specs.declared.error.FieldError.{FieldError}
use Rattle.object_fields.specs.declared.kind.FieldErrorKind.TheVariants.{BadName, Doubled, Missing, OutOfRange, TooLong, TooMany, WrongType}
use Rattle.object_fields.specs.declared.path.Step.{Step}
use Rattle.object_fields.specs.declared.path.Step.TheVariants as step
use Rattle.object_fields.specs.declared.qualified.QualName.{QualName}
use Rattle.api_slice.specs.Amounts as amounts
use Rattle.api_slice.specs.Attributes.{new_name, has_name}
use Rattle.api_slice.specs.Drivers.{IsDriver}
use Rattle.api_slice.specs.Limits.{IsAmount, IsLabel}

-- ---- readings that returned a value

-- the first step returned a value, and the second returned y for it
pub record Gave {A B : Type 0} (r : Result A FieldError) (f : A → Result B FieldError) (y : B) : Type 0 where
  pub value : A
  pub first : r ≡ Ok value
  pub second : f value ≡ Ok y

pub gave : {A B : Type 0} (r : Result A FieldError) (f : A → Result B FieldError) (y : B) → (r >>= f) ≡ Ok y → Gave r f y
gave (Ok x) f y h = record { value = x; first = refl; second = h }
gave (Err e) f y h = absurd (let no_value : ⊥ = cc in no_value)

abbrev pub done : {A : Type 0} → A → Result A FieldError
done x = Ok x

pub the_same : {A : Type 0} (x y : A) → done x ≡ done y → x ≡ y
the_same x y h = cc

pub not_refused : {A : Type 0} (e : FieldError) (b : Bool) (x y : A) → unless e b x ≡ Ok y → b ≡ false
not_refused e true x y h = cc
not_refused e false x y h = refl

pub kept : {A : Type 0} (e : FieldError) (b : Bool) (x y : A) → unless e b x ≡ Ok y → x ≡ y
kept e true x y h = cc
kept e false x y h = cc

pub was_some : {A : Type 0} (e : FieldError) (o : Option A) (y : A) → some_or e o ≡ Ok y → o ≡ Some y
was_some e None y h = cc
was_some e (Some x) y h = cc

pub at_most : (most n : ℕ) → nat_lt most n ≡ false → n ≤ most
at_most most n h = grind (arith, nat_tests)

pub along : {A : Type 0} (P : A → Type 0) (x y : A) → x ≡ y → P x → P y
along P x y e p = subst P e p

-- what a reading returned for a member that may be missing
pub given : {A : Type 0} (P : A → Type 0) (o : Option Data) (r : Result A FieldError) (y : Option A) → if_there o r ≡ Ok y → ((x : A) → r ≡ Ok x → P x) → (x : A) → y ≡ Some x → P x
given P None r y h p x e =
    let none : None ≡ y = the_same None y h in
    absurd (let no_value : ⊥ = cc in no_value)
given P (Some v) r y h p x e =
    let g = gave r (λ z. Ok (Some z)) y h in
    let some : Some g.value ≡ y = the_same (Some g.value) y g.second in
    let same : g.value ≡ x = cc in
    along P g.value x same (p g.value g.first)

-- ---- names

-- a text that was taken: its length, its form, and that it is the text
pub record Taken (most : ℕ) (right : Bool) (text y : List ℕ) : Type 0 where
  pub size : length text ≤ most
  pub form : right ≡ true
  pub same : text ≡ y

pub choice : {A : Type 0} (a b : Bool) (e g : FieldError) (x y : A) → (if a then Err e else (if b then Ok x else Err g)) ≡ Ok y → (a ≡ false) × (b ≡ true) × (x ≡ y)
choice true b e g x y h = absurd (let no_value : ⊥ = cc in no_value)
choice false true e g x y h = (refl, refl, the_same x y h)
choice false false e g x y h = absurd (let no_value : ⊥ = cc in no_value)

pub taken : (path : List Step) (most : ℕ) (right : Bool) (text y : List ℕ) → judged path most right text ≡ Ok y → Taken most right text y
taken path most right text y h =
    let c = choice (nat_lt most (length text)) right (error_at path TooLong) (error_at path BadName) text y h in
    record { size = at_most most (length text) c.0; form = c.1; same = c.2 }

pub or_left : (a b : Bool) → (a || b) ≡ false → a ≡ false
or_left true b h = cc
or_left false b h = refl

pub or_right : (a b : Bool) → (a || b) ≡ false → b ≡ false
or_right true b h = cc
or_right false b h = h

pub and_left : (a b : Bool) → (a && b) ≡ true → a ≡ true
and_left true b h = refl
and_left false b h = cc

pub and_right : (a b : Bool) → (a && b) ≡ true → b ≡ true
and_right true b h = h
and_right false b h = cc

pub alone : (path : List Step) (driver text : List ℕ) (q : QualName) → IsDriver driver → id_alone path driver text ≡ Ok q → IsFullName q
alone path driver text q d h =
    let g = gave (name_in path id_most is_c_identifier text) (λ id. Ok (record { domain = driver; id = id })) q h in
    let t = taken path id_most (is_c_identifier text) text g.value g.first in
    let e : record { domain = driver; id = g.value } ≡ q = the_same _ q g.second in
    let size : length g.value ≤ id_most = along (λ s. length s ≤ id_most) text g.value t.same t.size in
    let form : is_c_identifier g.value ≡ true = along (λ s. is_c_identifier s ≡ true) text g.value t.same t.form in
    let full : IsFullName (record { domain = driver; id = g.value }) = record { domain = d.size; domain_form = d.form; id = size; id_form = form } in
    along IsFullName _ q e full

pub both : (path : List Step) (domain id : List ℕ) (q : QualName) → domain_and_id path domain id ≡ Ok q → IsFullName q
both path domain id q h =
    let long : Bool = nat_lt domain_most (length domain) || nat_lt id_most (length id) in
    let right : Bool = is_dns_name domain && is_c_identifier id in
    let made : QualName = record { domain = domain; id = id } in
    let c = choice long right (error_at path TooLong) (error_at path BadName) made q h in
    let full : IsFullName made = record {
      domain = at_most domain_most (length domain) (or_left _ _ c.0);
      domain_form = and_left _ _ c.1;
      id = at_most id_most (length id) (or_right (nat_lt domain_most (length domain)) _ c.0);
      id_form = and_right (is_dns_name domain) _ c.1;
    } in
    along IsFullName made q c.2 full

pub either : (path : List Step) (driver text : List ℕ) (o : Option (List ℕ × List ℕ)) (q : QualName) → IsDriver driver → qualified_from path driver text o ≡ Ok q → IsFullName q
either path driver text None q d h = alone path driver text q d h
either path driver text (Some p) q d h = both path p.0 p.1 q h

pub full_name : {A : Type 0} (path : List Step) (driver key : List ℕ) (before : List (QualName × A)) (q : QualName) → IsDriver driver → new_name path driver before key ≡ Ok q → IsFullName q
full_name path driver key before q d h =
    let g = gave (qual_name_in path driver key) (λ name. unless (error_at path Doubled) (has_name name before) name) q h in
    let e : g.value ≡ q = kept (error_at path Doubled) (has_name g.value before) g.value q g.second in
    along IsFullName g.value q e (either path driver key (cut_at 47 key) g.value d g.first)

-- ---- tables

pub length-insert : {K X : Type 0} (cmp : K → K → Ordering) (es : List (K × X)) (k : K) (v : X) → length (insert_entry cmp es k v) ≤ length es + 1
length-insert cmp [] k v = omega arith
length-insert cmp (e ∷ es) k v =
    elim (cmp k e.0) as (λ o. length (match_ordering o ((k, v) ∷ e ∷ es) ((e.0, v) ∷ es) (e ∷ insert_entry cmp es k v)) ≤ length (e ∷ es) + 1) [
      | Less ↦ omega arith
      | Equal ↦ omega arith
      | Greater ↦ omega (arith, length-insert cmp es k v)
    ]

-- keys and values that pass, and at most `most` entries
pub record IsTable {K A : Type 0} (Q : K → Type 0) (P : A → Type 0) (most : ℕ) (table : List (K × A)) : Type 0 where
  pub keys : All Q (keys_of table)
  pub values : All P (values_of table)
  pub size : length table ≤ most

pub no_entries : {K A : Type 0} (Q : K → Type 0) (P : A → Type 0) (most : ℕ) → IsTable Q P most []
no_entries Q P most = record { keys = All-nil Q; values = All-nil P; size = omega arith }

pub one_more : {K A : Type 0} (cmp : K → K → Ordering) (Q : K → Type 0) (P : A → Type 0) (most : ℕ) (table : List (K × A)) (k : K) (x : A) → IsTable Q P most table → Q k → P x → IsTable Q P (most + 1) (insert_entry cmp table k x)
one_more cmp Q P most table k x t q p = record {
  keys = All-keys-insert_entry cmp k x Q table t.keys q;
  values = All-values-insert_entry cmp k x P table t.values p;
  size = let s = length-insert cmp table k x in omega (arith, s, t.size);
}

-- the same with other bounds
pub within : {K A : Type 0} (Q : K → Type 0) (P : A → Type 0) (m n : ℕ) (table : List (K × A)) → m ≤ n → IsTable Q P m table → IsTable Q P n table
within Q P m n table h t = record { keys = t.keys; values = t.values; size = omega (arith, t.size) }

-- ---- names without a domain, numbers and lists

pub if_taken : {A : Type 0} (e : FieldError) (b : Bool) (x y : A) → (if b then Ok x else Err e) ≡ Ok y → b ≡ true
if_taken e true x y h = refl
if_taken e false x y h = cc

pub taken_is : {A : Type 0} (e : FieldError) (b : Bool) (x y : A) → (if b then Ok x else Err e) ≡ Ok y → x ≡ y
taken_is e true x y h = the_same x y h
taken_is e false x y h = absurd (let no_value : ⊥ = cc in no_value)

pub not_false : (b : Bool) → not b ≡ false → b ≡ true
not_false true h = refl
not_false false h = cc

pub not_below : (path : List Step) (z n : ℤ) → amounts.not_negative path z ≡ Ok n → IsAmount n
not_below path (pos m) n h = along IsAmount (pos m) n (the_same (pos m) n h) (record { size = m; is = refl })
not_below path (negsuc m) n h = absurd (let no_value : ⊥ = cc in no_value)

pub named_by : (most : ℕ) (test : List ℕ → Bool) (path : List Step) (name : List ℕ) (d : Data) (text : List ℕ) → name_at most test path name d ≡ Ok text → (length text ≤ most) × (test text ≡ true)
named_by most test path name d text h =
    let g = gave (text_at path name d) (name_in (path ++ step.Member name ∷ []) most test) text h in
    let t = taken (path ++ step.Member name ∷ []) most (test g.value) g.value text g.second in
    along (λ s. (length s ≤ most) × (test s ≡ true)) g.value text t.same (t.size, t.form)

pub labelled : (path : List Step) (name : List ℕ) (d : Data) (text : List ℕ) → dns_label_at path name d ≡ Ok text → IsLabel text
labelled path name d text h = (named_by label_most is_dns_label path name d text h).1

pub in_range : (e : FieldError) (least most n : ℕ) (z : ℤ) → natural_between e least most z ≡ Ok n → (least ≤ n) × (n ≤ most)
in_range e least most n (pos m) h =
    let t : (nat_le least m && nat_le m most) ≡ true = if_taken e (nat_le least m && nat_le m most) m n h in
    let s : m ≡ n = taken_is e (nat_le least m && nat_le m most) m n h in
    let low = and_left (nat_le least m) (nat_le m most) t in
    let high = and_right (nat_le least m) (nat_le m most) t in
    along (λ x. (least ≤ x) × (x ≤ most)) m n s (grind (arith, nat_tests), grind (arith, nat_tests))
in_range e least most n (negsuc m) h = absurd (let no_value : ⊥ = cc in no_value)

pub numbered : (least most : ℕ) (path : List Step) (name : List ℕ) (d : Data) (n : ℕ) → natural_at least most path name d ≡ Ok n → (least ≤ n) × (n ≤ most)
numbered least most path name d n h =
    let g = gave (whole_at path name d) (natural_between (field_error path name OutOfRange) least most) n h in
    in_range (field_error path name OutOfRange) least most n g.value g.second

pub short_items : (most : ℕ) (path : List Step) (name : List ℕ) (d : Data) (ds : Items) → short_list_at most path name d ≡ Ok ds → items_length ds ≤ most
short_items most path name d ds h =
    let g = gave (list_at path name d) (λ xs. unless (field_error path name TooMany) (nat_lt most (items_length xs)) xs) ds h in
    let b = not_refused (field_error path name TooMany) (nat_lt most (items_length g.value)) g.value ds g.second in
    let e = kept (field_error path name TooMany) (nat_lt most (items_length g.value)) g.value ds g.second in
    along (λ xs. items_length xs ≤ most) g.value ds e (at_most most (items_length g.value) b)

pub few_of : (most : ℕ) (o : Option Items) → ((ds : Items) → o ≡ Some ds → items_length ds ≤ most) → items_length (items_or_none o) ≤ most
few_of most None h = omega arith
few_of most (Some ds) h = h ds refl

pub few_items : (most : ℕ) (path : List Step) (name : List ℕ) (d : Data) (o : Option Items) → optional_at (short_list_at most) path name d ≡ Ok o → items_length (items_or_none o) ≤ most
few_items most path name d o h =
    few_of most o (given (λ ds. items_length ds ≤ most) (member_of name d) (short_list_at most path name d) o h (short_items most path name d))

pub items_by : (m : Option Data) (e f g : FieldError) (most : ℕ) (o : Option Items) → if_there m (some_or e m >>= (λ v. some_or f (as_array v)) >>= λ ds. unless g (nat_lt most (items_length ds)) ds) ≡ Ok o → items_or_none o ≡ items_or_none (option_and_then as_array m)
items_by None e f g most o h = ap items_or_none (sym (the_same None o h))
items_by (Some v) e f g most o h =
    let s = gave (some_or f (as_array v) >>= λ ds. unless g (nat_lt most (items_length ds)) ds) (λ ds. Ok (Some ds)) o h in
    let t = gave (some_or f (as_array v)) (λ ds. unless g (nat_lt most (items_length ds)) ds) s.value s.first in
    ap items_or_none (sym (the_same (Some s.value) o s.second) ∙ ap Some (sym (kept g (nat_lt most (items_length t.value)) t.value s.value t.second)) ∙ sym (was_some f (as_array v) t.value t.first))

-- the items of a list that may be missing
pub items_are : (most : ℕ) (path : List Step) (name : List ℕ) (d : Data) (o : Option Items) → optional_at (short_list_at most) path name d ≡ Ok o → items_or_none o ≡ items_or_none (option_and_then as_array (member_of name d))
items_are most path name d o h = items_by (member_of name d) (field_error path name Missing) (field_error path name WrongType) (field_error path name TooMany) most o h

-- ---- names that differ

pub none_named : {A : Type 0} (f : A → List ℕ) (y : List ℕ) (xs : List A) → list_any (λ a. bytes_eq (f a) y) xs ≡ false → All (λ other. other ≢ y) (map f xs)
none_named f y [] h = All-nil (λ other. other ≢ y)
none_named f y (x ∷ xs) h =
    let first : bytes_eq (f x) y ≡ false = or_left (bytes_eq (f x) y) (list_any (λ a. bytes_eq (f a) y) xs) h in
    let rest = or_right (bytes_eq (f x) y) (list_any (λ a. bytes_eq (f a) y) xs) h in
    All-cons (λ other. other ≢ y) (f x) (map f xs)
    (λ e. let same : bytes_eq (f x) y ≡ true = (bytes_eq-Decides (f x) y).1 e in let no_value : ⊥ = cc in no_value)
    (none_named f y xs rest)

pub none_is : (y : List ℕ) (xs : List (List ℕ)) → list_any (λ other. bytes_eq other y) xs ≡ false → All (λ other. other ≢ y) xs
none_is y [] h = All-nil (λ other. other ≢ y)
none_is y (x ∷ xs) h =
    let first : bytes_eq x y ≡ false = or_left (bytes_eq x y) (list_any (λ other. bytes_eq other y) xs) h in
    let rest = or_right (bytes_eq x y) (list_any (λ other. bytes_eq other y) xs) h in
    All-cons (λ other. other ≢ y) x xs
    (λ e. let same : bytes_eq x y ≡ true = (bytes_eq-Decides x y).1 e in let no_value : ⊥ = cc in no_value)
    (none_is y xs rest)

pub push_different : (xs : List (List ℕ)) (y : List ℕ) → AreDifferent xs → All (λ other. other ≢ y) xs → AreDifferent (xs ++ y ∷ [])
push_different [] y d h = (All-nil (λ other. other ≢ y), tt)
push_different (x ∷ xs) y d h = (
  All-append (λ other. other ≢ x) xs (y ∷ []) d.0 (All-cons (λ other. other ≢ x) y [] (λ e. All-head (λ other. other ≢ y) x xs h (sym e)) (All-nil (λ other. other ≢ x))),
  push_different xs y d.1 (All-tail (λ other. other ≢ y) x xs h),
)
