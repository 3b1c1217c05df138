-- Attributes and capacities of a device: the tables of their keys, and errors that their values never have.
use Rattle.std.proofs.Common.{◌≡◌, ◌∙◌, ℕ, ◌+◌, ◌^◌, nat_lt, ℤ, pos, negsuc, Bool, true, false, not, List, [], ◌∷◌, ◌++◌, Option, Some, None, Result, Ok, Err, ap, codes, option_and_then, refl, if◌then◌else◌}
use Rattle.std.proofs.Math.Logic.{⊎_elim}
use Rattle.std.proofs.lemmas.Bool.{ltb-true}
use Rattle.std.specs.BTreeMap.{insert_entry}
use Rattle.serde_json.specs.Data.{Data, Members, no_members, member}
use Rattle.serde_json.specs.Find.{as_bool, as_integer, as_number, get}
use Rattle.object_fields.specs.Fields.{error_at, field_at, field_error, if_there, is_unset, member_of, object_value, optional_at, signed_at, some_or, table_at, text_at, truth_at, unless, unset_at, unset_or, whole_at, within_signed, ◌>>=◌}
use Rattle.object_fields.specs.Qualified.{qual_name_in}
use Rattle.object_fields.specs.declared.error.FieldError.{FieldError}
use Rattle.object_fields.specs.declared.kind.FieldErrorKind.{FieldErrorKind}
use Rattle.object_fields.specs.declared.kind.FieldErrorKind.TheVariants.{BadVersion, Doubled, NotOne, NotSupported, OutOfRange, TooLong, TooMany, WrongType}
use Rattle.object_fields.specs.declared.path.Step.{Step}
use Rattle.object_fields.specs.declared.path.Step.TheVariants as step
use Rattle.object_fields.specs.declared.qualified.QualName.{QualName}
use Rattle.api_slice.specs.Amounts.{quantity_at}
use Rattle.api_slice.specs.Attributes.{attribute_of, attributes_with, has_name, is_long, is_version, new_name, one_value, qual_cmp, short_text_at, version_at, version_text}
use Rattle.api_slice.specs.Capacity.{capacity_in, capacity_of, capacity_with, together_at, together_most, value_without_policy}
use Rattle.api_slice.specs.Lists.{count_at}
use Rattle.slice_laws.specs.NewKeys.{IsOverTogether}
use Rattle.api_slice.specs.declared.types.Attribute.{Attribute}
use Rattle.slice_laws.proofs.Counts.{either_err}
use Rattle.slice_laws.proofs.CountedSets.{Never, Plain, done, go, never_done, never_field, never_object, never_quantity, never_some, never_table, never_text, never_then, never_unless, not_many, refused}
use Rattle.slice_laws.proofs.Renamed.{never_key, table_from}

-- ---- errors that values never have

abbrev nothing_there : (A : Type 0) → Option A
nothing_there A = None

never_there : {A : Type 0} (kind : FieldErrorKind) (o : Option Data) (r : Result A FieldError) → Never kind r → Never kind (if_there o r)
never_there {A = A} kind None r n = never_done kind (nothing_there A)
never_there kind (Some v) r n = never_then kind r (λ x. done (Some x)) n (λ x. never_done kind (Some x))

never_whole : (kind : FieldErrorKind) → Plain kind → (path : List Step) (name : List ℕ) (d : Data) → Never kind (whole_at path name d)
never_whole kind p path name d = never_then kind (field_at path name d) (λ v. some_or (field_error path name WrongType) (option_and_then as_integer (as_number v))) (never_field kind p path name d) (λ v. never_some kind (field_error path name WrongType) (option_and_then as_integer (as_number v)) p.wrong)

never_chosen : {A : Type 0} (kind : FieldErrorKind) (b : Bool) (x : A) (g : FieldError) → (g.kind ≡ kind → ⊥) → Never kind (if b then Ok x else Err g)
never_chosen kind true x g n e h k = let no_value : ⊥ = cc in no_value
never_chosen kind false x g n e h k = let same : g ≡ e = cc in n (ap (λ (y : FieldError). y.kind) same ∙ k)

never_within : (kind : FieldErrorKind) → Plain kind → (g : FieldError) → (g.kind ≡ kind → ⊥) → (z : ℤ) → Never kind (within_signed g z)
never_within kind p g n (pos m) = never_chosen kind (nat_lt m (2 ^ 63)) (pos m) g n
never_within kind p g n (negsuc m) = never_chosen kind (nat_lt m (2 ^ 63)) (negsuc m) g n

never_signed : (kind : FieldErrorKind) → Plain kind → (path : List Step) (name : List ℕ) (d : Data) → Never kind (signed_at path name d)
never_signed kind p path name d = never_then kind (whole_at path name d) (within_signed (field_error path name OutOfRange)) (never_whole kind p path name d) (λ z. never_within kind p (field_error path name OutOfRange) p.out z)

never_truth : (kind : FieldErrorKind) → Plain kind → (path : List Step) (name : List ℕ) (d : Data) → Never kind (truth_at path name d)
never_truth kind p path name d = never_then kind (field_at path name d) (λ v. some_or (field_error path name WrongType) (as_bool v)) (never_field kind p path name d) (λ v. never_some kind (field_error path name WrongType) (as_bool v) p.wrong)

never_short : (kind : FieldErrorKind) → Plain kind → (path : List Step) (name : List ℕ) (d : Data) → Never kind (short_text_at path name d)
never_short kind p path name d = never_then kind (text_at path name d) (λ text. unless (field_error path name TooLong) (is_long text) text) (never_text kind p path name d) (λ text. never_unless kind (field_error path name TooLong) (is_long text) text p.long)

never_version : (kind : FieldErrorKind) → Plain kind → (path : List Step) (name : List ℕ) (d : Data) → Never kind (version_at path name d)
never_version kind p path name d =
    never_then kind (short_text_at path name d) (λ text. version_text path text >>= λ nothing. done text) (never_short kind p path name d)
    (λ text. never_then kind (version_text path text) (λ nothing. done text) (never_unless kind (field_error path (codes "version") BadVersion) (not (is_version text)) tt p.version) (λ nothing. never_done kind text))

pub never_attribute : (kind : FieldErrorKind) → Plain kind → (path : List Step) (d : Data) → Never kind (attribute_of path d)
never_attribute kind p path value =
    never_then kind (object_value path value) (λ d.
    optional_at signed_at path (codes "int") d >>= λ n.
    optional_at truth_at path (codes "bool") d >>= λ b.
    optional_at short_text_at path (codes "string") d >>= λ text.
    optional_at version_at path (codes "version") d >>= λ version.
    some_or (error_at path NotOne) (one_value n b text version))
    (never_object kind p path value)
    (λ d. never_then kind (optional_at signed_at path (codes "int") d) (λ n.
    optional_at truth_at path (codes "bool") d >>= λ b.
    optional_at short_text_at path (codes "string") d >>= λ text.
    optional_at version_at path (codes "version") d >>= λ version.
    some_or (error_at path NotOne) (one_value n b text version))
    (never_there kind (member_of (codes "int") d) (signed_at path (codes "int") d) (never_signed kind p path (codes "int") d))
    (λ n. never_then kind (optional_at truth_at path (codes "bool") d) (λ b.
    optional_at short_text_at path (codes "string") d >>= λ text.
    optional_at version_at path (codes "version") d >>= λ version.
    some_or (error_at path NotOne) (one_value n b text version))
    (never_there kind (member_of (codes "bool") d) (truth_at path (codes "bool") d) (never_truth kind p path (codes "bool") d))
    (λ b. never_then kind (optional_at short_text_at path (codes "string") d) (λ text.
    optional_at version_at path (codes "version") d >>= λ version.
    some_or (error_at path NotOne) (one_value n b text version))
    (never_there kind (member_of (codes "string") d) (short_text_at path (codes "string") d) (never_short kind p path (codes "string") d))
    (λ text. never_then kind (optional_at version_at path (codes "version") d) (λ version. some_or (error_at path NotOne) (one_value n b text version))
    (never_there kind (member_of (codes "version") d) (version_at path (codes "version") d) (never_version kind p path (codes "version") d))
    (λ version. never_some kind (error_at path NotOne) (one_value n b text version) p.one)))))

never_unset : (kind : FieldErrorKind) (g : FieldError) → (g.kind ≡ kind → ⊥) → (o : Option Data) → Never kind (unset_or g o)
never_unset kind g n None = never_done kind tt
never_unset kind g n (Some d) = never_unless kind g (not (is_unset d)) tt n

pub never_capacity : (kind : FieldErrorKind) → Plain kind → (path : List Step) (d : Data) → Never kind (value_without_policy path d)
never_capacity kind p path value =
    never_then kind (object_value path value) (λ d. quantity_at path (codes "value") d >>= λ amount. unset_at path (codes "requestPolicy") d >>= λ nothing. done amount)
    (never_object kind p path value)
    (λ d. never_then kind (quantity_at path (codes "value") d) (λ amount. unset_at path (codes "requestPolicy") d >>= λ nothing. done amount)
    (never_quantity kind p path (codes "value") d)
    (λ amount. never_then kind (unset_at path (codes "requestPolicy") d) (λ nothing. done amount)
    (never_unset kind (field_error path (codes "requestPolicy") NotSupported) p.unsupported (get (codes "requestPolicy") d))
    (λ nothing. never_done kind amount)))

-- ---- the tables of both

pub attributes_are : (driver : List ℕ) (path : List Step) (before : List (QualName × Attribute)) (ms : Members) → attributes_with driver path before ms ≡ table_from attribute_of driver path before ms
attributes_are driver path before no_members = refl
attributes_are driver path before (member key d ms) =
    let at : List Step = path ++ step.Key key ∷ [] in
    go (new_name at driver before key) (λ name. attribute_of at d >>= λ value. attributes_with driver path (insert_entry qual_cmp before name value) ms) (λ name. attribute_of at d >>= λ value. table_from attribute_of driver path (insert_entry qual_cmp before name value) ms)
    (λ name. go (attribute_of at d) (λ value. attributes_with driver path (insert_entry qual_cmp before name value) ms) (λ value. table_from attribute_of driver path (insert_entry qual_cmp before name value) ms)
    (λ value. attributes_are driver path (insert_entry qual_cmp before name value) ms))

pub capacities_are : (driver : List ℕ) (path : List Step) (before : List (QualName × ℤ)) (ms : Members) → capacity_with driver path before ms ≡ table_from value_without_policy driver path before ms
capacities_are driver path before no_members = refl
capacities_are driver path before (member key d ms) =
    let at : List Step = path ++ step.Key key ∷ [] in
    go (new_name at driver before key) (λ name. value_without_policy at d >>= λ value. capacity_with driver path (insert_entry qual_cmp before name value) ms) (λ name. value_without_policy at d >>= λ value. table_from value_without_policy driver path (insert_entry qual_cmp before name value) ms)
    (λ name. go (value_without_policy at d) (λ value. capacity_with driver path (insert_entry qual_cmp before name value) ms) (λ value. table_from value_without_policy driver path (insert_entry qual_cmp before name value) ms)
    (λ value. capacities_are driver path (insert_entry qual_cmp before name value) ms))

-- ---- both together

never_table_of : (driver : List ℕ) (path : List Step) (before : List (QualName × ℤ)) (ms : Members) → Never TooMany (capacity_with driver path before ms)
never_table_of driver path before no_members = never_done TooMany before
never_table_of driver path before (member key d ms) =
    let at : List Step = path ++ step.Key key ∷ [] in
    never_then TooMany (new_name at driver before key) (λ name. value_without_policy at d >>= λ value. capacity_with driver path (insert_entry qual_cmp before name value) ms)
    (never_then TooMany (qual_name_in at driver key) (λ name. unless (error_at at Doubled) (has_name name before) name) (never_key TooMany not_many at driver key) (λ name. never_unless TooMany (error_at at Doubled) (has_name name before) name (λ h. cc)))
    (λ name. never_then TooMany (value_without_policy at d) (λ value. capacity_with driver path (insert_entry qual_cmp before name value) ms) (never_capacity TooMany not_many at d) (λ value. never_table_of driver path (insert_entry qual_cmp before name value) ms))

never_in : (driver : List ℕ) (path : List Step) (o : Option Members) → Never TooMany (capacity_in driver path o)
never_in driver path None = never_done TooMany []
never_in driver path (Some ms) = never_table_of driver path [] ms

pub over_together : (driver : List ℕ) (path : List Step) (d : Data) (e : FieldError) → capacity_of driver path d ≡ Err e → e.kind ≡ TooMany → IsOverTogether path d e
over_together driver path d e h k =
    let both : ℕ = count_at (codes "attributes") d + count_at (codes "capacity") d in
    ⊎_elim (λ x. absurd (never_there TooMany (member_of (codes "capacity") d) (table_at path (codes "capacity") d) (never_table TooMany not_many path (codes "capacity") d) e x k))
    (λ x. ⊎_elim (λ y.
    let r = refused (field_error path (codes "capacity") TooMany) e (nat_lt together_most both) tt y in
    record { many = ltb-true together_most both r.0; is = r.1 })
    (λ y. absurd (never_in driver (path ++ step.Member (codes "capacity") ∷ []) x.0 e y.1.1 k))
    (either_err (together_at path d) (λ nothing. capacity_in driver (path ++ step.Member (codes "capacity") ∷ []) x.0) e x.1.1))
    (either_err (optional_at table_at path (codes "capacity") d) (λ ms. together_at path d >>= λ nothing. capacity_in driver (path ++ step.Member (codes "capacity") ∷ []) ms) e h)
