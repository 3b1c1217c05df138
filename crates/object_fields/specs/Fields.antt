-- What the readers of fields return: functions from the contents of a document to the value read, or
-- to the first error with its path.
use Rattle.std.specs.Prelude.{◌≡◌, ℕ, ◌^◌, ◌+◌, ◌==◌, nat_lt, nat_le, ◌&&◌, ℤ, pos, negsuc, List, [], ◌∷◌, ◌++◌, length, Bool, true, false, not, ⊤, Option, Some, None, Result, Ok, Err, option_and_then, if◌then◌else◌}
use Rattle.serde_json.specs.Data.{Data, null, boolean, number, string, array, object, Members, no_members, member, Items, no_items, item}
use Rattle.serde_json.specs.Find.{get, as_bool, as_str, as_number, as_integer, as_object, as_array}
use Rattle.object_fields.specs.Names.{is_dns_label, is_dns_name, is_pool_name, label_most, pool_most}
use Rattle.object_fields.specs.declared.path.Step.{Step}
use Rattle.object_fields.specs.declared.path.Step.TheVariants.{Member}
use Rattle.object_fields.specs.declared.kind.FieldErrorKind.{FieldErrorKind}
use Rattle.object_fields.specs.declared.kind.FieldErrorKind.TheVariants.{Missing, WrongType, BadName, TooLong, TooMany, NotSupported, Memory, Doubled, OutOfRange, NotOne, BadQuantity, BadVersion, Unknown, Selector}
use Rattle.object_fields.specs.declared.error.FieldError.{FieldError}

-- ---- what a clause states about a reader

-- the fact, unless the kind is Memory
abbrev pub UnlessMemory : FieldErrorKind → Type 0 → Type 0
UnlessMemory Missing P = P
UnlessMemory WrongType P = P
UnlessMemory BadName P = P
UnlessMemory TooLong P = P
UnlessMemory TooMany P = P
UnlessMemory NotSupported P = P
UnlessMemory Memory P = Unit {0}
UnlessMemory Doubled P = P
UnlessMemory OutOfRange P = P
UnlessMemory NotOne P = P
UnlessMemory BadQuantity P = P
UnlessMemory BadVersion P = P
UnlessMemory Unknown P = P
UnlessMemory (Selector stage) P = P

-- e is that error, or of kind Memory
abbrev pub IsError : FieldError → FieldError → Type 0
IsError e error = UnlessMemory e.kind (e ≡ error)

-- What a reader returned, seen by view, is the result of the reading, unless out of memory.
abbrev pub Gives : {X Y : Type 0} → (X → Y) → Result X FieldError → Result Y FieldError → Type 0
Gives view (Ok x) reading = reading ≡ Ok (view x)
Gives view (Err e) reading = UnlessMemory e.kind (reading ≡ Err e)

-- What a reader returned is the result of the reading, unless out of memory.
abbrev pub Reads : {X : Type 0} → Result X FieldError → Result X FieldError → Type 0
Reads (Ok x) reading = reading ≡ Ok x
Reads (Err e) reading = UnlessMemory e.kind (reading ≡ Err e)

-- ---- readings, one after another

-- the second reading continues with the value of the first; the first error is the result
infixl 10 ◌>>=◌
abbrev pub ◌>>=◌ : {A B : Type 0} → Result A FieldError → (A → Result B FieldError) → Result B FieldError
(Ok x) >>= f = f x
(Err e) >>= f = Err e

abbrev pub error_at : List Step → FieldErrorKind → FieldError
error_at path kind = record { path = path; kind = kind }

-- the error at a member of the value at the path
abbrev pub field_error : List Step → List ℕ → FieldErrorKind → FieldError
field_error path name kind = record { path = path ++ Member name ∷ []; kind = kind }

abbrev pub some_or : {A : Type 0} → FieldError → Option A → Result A FieldError
some_or e None = Err e
some_or e (Some x) = Ok x

-- the error if the test holds, else Ok
abbrev pub unless : FieldError → Bool → {A : Type 0} → A → Result A FieldError
unless e b x = if b then Err e else Ok x

-- ---- the value at a path

-- the value there, if it isn't null
abbrev pub not_null : Data → Option Data
not_null null = None
not_null (boolean b) = Some (boolean b)
not_null (number n) = Some (number n)
not_null (string s) = Some (string s)
not_null (array ds) = Some (array ds)
not_null (object ms) = Some (object ms)

-- the value at the path, which isn't null
abbrev pub value_at : List Step → Data → Result Data FieldError
value_at path d = some_or (error_at path Missing) (not_null d)

abbrev pub text_value : List Step → Data → Result (List ℕ) FieldError
text_value path d = value_at path d >>= λ v. some_or (error_at path WrongType) (as_str v)

-- the members of a value that is an object
abbrev pub table_value : List Step → Data → Result Members FieldError
table_value path d = value_at path d >>= λ v. some_or (error_at path WrongType) (as_object v)

-- a value that is an object
abbrev pub object_value : List Step → Data → Result Data FieldError
object_value path d = table_value path d >>= λ ms. Ok (object ms)

-- ---- a field: the member of that name of the value at the path

-- the member of that name, if it is there and isn't null
abbrev pub member_of : List ℕ → Data → Option Data
member_of name d = option_and_then not_null (get name d)

abbrev pub field_at : List Step → List ℕ → Data → Result Data FieldError
field_at path name d = some_or (field_error path name Missing) (member_of name d)

abbrev pub text_at : List Step → List ℕ → Data → Result (List ℕ) FieldError
text_at path name d = field_at path name d >>= λ v. some_or (field_error path name WrongType) (as_str v)

-- a whole number of 64 bits, signed or unsigned
abbrev pub whole_at : List Step → List ℕ → Data → Result ℤ FieldError
whole_at path name d =
    field_at path name d >>= λ v. some_or (field_error path name WrongType) (option_and_then as_integer (as_number v))

abbrev pub truth_at : List Step → List ℕ → Data → Result Bool FieldError
truth_at path name d = field_at path name d >>= λ v. some_or (field_error path name WrongType) (as_bool v)

abbrev pub list_at : List Step → List ℕ → Data → Result Items FieldError
list_at path name d = field_at path name d >>= λ v. some_or (field_error path name WrongType) (as_array v)

abbrev pub table_at : List Step → List ℕ → Data → Result Members FieldError
table_at path name d = field_at path name d >>= λ v. some_or (field_error path name WrongType) (as_object v)

-- a field whose value is an object, as the value
abbrev pub object_at : List Step → List ℕ → Data → Result Data FieldError
object_at path name d = table_at path name d >>= λ ms. Ok (object ms)

-- ---- a field that may be missing or null

-- None if there is nothing, else the result of the reading
abbrev pub if_there : {A : Type 0} → Option Data → Result A FieldError → Result (Option A) FieldError
if_there None reading = Ok None
if_there (Some v) reading = reading >>= λ x. Ok (Some x)

abbrev pub optional_at : {A : Type 0} → (List Step → List ℕ → Data → Result A FieldError) → List Step → List ℕ → Data → Result (Option A) FieldError
optional_at reading path name d = if_there (member_of name d) (reading path name d)

-- ---- members that this project leaves out

abbrev pub has_no_items : Items → Bool
has_no_items no_items = true
has_no_items (item d ds) = false

abbrev pub has_no_members : Members → Bool
has_no_members no_members = true
has_no_members (member k d ms) = false

-- nothing is requested: null, false, or an empty text, list or object
abbrev pub is_unset : Data → Bool
is_unset null = true
is_unset (boolean b) = not b
is_unset (number n) = false
is_unset (string s) = length s == 0
is_unset (array ds) = has_no_items ds
is_unset (object ms) = has_no_members ms

-- a member that is missing or unset
abbrev pub unset_or : FieldError → Option Data → Result ⊤ FieldError
unset_or e None = Ok tt
unset_or e (Some d) = unless e (not (is_unset d)) tt

abbrev pub unset_at : List Step → List ℕ → Data → Result ⊤ FieldError
unset_at path name d = unset_or (field_error path name NotSupported) (get name d)

-- ---- limits

abbrev pub items_length : Items → ℕ
items_length no_items = 0
items_length (item d ds) = items_length ds + 1

-- a list of at most so many items
abbrev pub short_list_at : ℕ → List Step → List ℕ → Data → Result Items FieldError
short_list_at most path name d =
    list_at path name d >>= λ ds. unless (field_error path name TooMany) (nat_lt most (items_length ds)) ds

-- a natural number from least to most
abbrev pub natural_between : FieldError → ℕ → ℕ → ℤ → Result ℕ FieldError
natural_between e least most (pos n) = if nat_le least n && nat_le n most then Ok n else Err e
natural_between e least most (negsuc n) = Err e

abbrev pub natural_at : ℕ → ℕ → List Step → List ℕ → Data → Result ℕ FieldError
natural_at least most path name d =
    whole_at path name d >>= natural_between (field_error path name OutOfRange) least most

-- a whole number from -2^63 to 2^63-1
abbrev pub within_signed : FieldError → ℤ → Result ℤ FieldError
within_signed e (pos n) = if nat_lt n (2 ^ 63) then Ok (pos n) else Err e
within_signed e (negsuc n) = if nat_lt n (2 ^ 63) then Ok (negsuc n) else Err e

abbrev pub signed_at : List Step → List ℕ → Data → Result ℤ FieldError
signed_at path name d = whole_at path name d >>= within_signed (field_error path name OutOfRange)

-- ---- names

-- A text of at most so many bytes that is a name, as `right` says. Its length is checked first.
abbrev pub judged : List Step → ℕ → Bool → List ℕ → Result (List ℕ) FieldError
judged path most right text =
    if nat_lt most (length text) then Err (error_at path TooLong) else (if right then Ok text else Err (error_at path BadName))

-- a text of at most so many bytes that passes the test
abbrev pub name_in : List Step → ℕ → (List ℕ → Bool) → List ℕ → Result (List ℕ) FieldError
name_in path most test text = judged path most (test text) text

abbrev pub name_at : ℕ → (List ℕ → Bool) → List Step → List ℕ → Data → Result (List ℕ) FieldError
name_at most test path name d = text_at path name d >>= name_in (path ++ Member name ∷ []) most test

-- a DNS label
abbrev pub dns_label_at : List Step → List ℕ → Data → Result (List ℕ) FieldError
dns_label_at = name_at label_most is_dns_label

-- a DNS subdomain of at most so many bytes
abbrev pub dns_subdomain_at : ℕ → List Step → List ℕ → Data → Result (List ℕ) FieldError
dns_subdomain_at most = name_at most is_dns_name

-- the name of a pool
abbrev pub pool_name_at : List Step → List ℕ → Data → Result (List ℕ) FieldError
pool_name_at = name_at pool_most is_pool_name
