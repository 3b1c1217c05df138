-- Maps whose keys are full names, each of which is to be new.
use Rattle.std.proofs.Common.{◌≡◌, ◌∙◌, ℕ, Bool, true, false, ◌&&◌, ◌||◌, cond, List, [], ◌∷◌, ◌++◌, length, Option, Some, None, is_some, Result, Ok, Err, ap, append_assoc, nat_lt, refl, slice_get, subst, sym, if◌then◌else◌}
use Rattle.std.proofs.Math.Logic.{⊎_elim}
use Rattle.std.proofs.lemmas.List.{append-nil}
use Rattle.std.proofs.lemmas.Map.Text.{is_eq-slice_cmp}
use Rattle.std.proofs.lemmas.Slice.Eq.{bytes_eq-Decides}
use Rattle.std.specs.BTreeMap.{insert_entry, is_at}
use Rattle.std.specs.Cmp.Lexicographic.{slice_cmp}
use Rattle.std.specs.Map.{lookup}
use Rattle.std.specs.Ordering.{is_eq, match_ordering, nat_cmp, ordering_then}
use Rattle.std.specs.Result.{is_ok}
use Rattle.std.specs.declared.cmp.Ordering.{Ordering}
use Rattle.std.specs.declared.cmp.Ordering.TheVariants.{Less, Equal, Greater}
use Rattle.std.specs.Str.{bytes_eq}
use Rattle.serde_json.specs.Data.{Data, Members, no_members, member}
use Rattle.object_fields.specs.Fields.{error_at, name_in, unless, ◌>>=◌}
use Rattle.object_fields.specs.Names.{is_dns_name}
use Rattle.object_fields.specs.Qualified.{cut_at, domain_most, id_most, is_c_identifier, qual_name_in, qualified_from}
use Rattle.object_fields.specs.declared.error.FieldError.{FieldError}
use Rattle.object_fields.specs.declared.kind.FieldErrorKind.{FieldErrorKind}
use Rattle.object_fields.specs.declared.kind.FieldErrorKind.TheVariants.{BadName, Doubled, TooLong}
use Rattle.object_fields.specs.declared.path.Step.{Step}
use Rattle.object_fields.specs.declared.path.Step.TheVariants as step
use Rattle.object_fields.specs.declared.qualified.QualName.{QualName}
use Rattle.api_slice.specs.Attributes.{has_name, new_name, qual_cmp}
use Rattle.slice_laws.specs.NewKeys.{AreMeant, AreNewNames, IsRepeatedKey, is_name_among, keys_in, names_alone, same_name}
use Rattle.slice_laws.proofs.Counts.{either_err}
use Rattle.slice_laws.proofs.CountedSets.{Never, Plain, never_then, not_doubled, refused}
use Rattle.slice_laws.proofs.Read.{gave, kept, the_same}

abbrev as_name : List ℕ → List ℕ → QualName
as_name domain id = record { domain = domain; id = id }

abbrev pub name_given : List ℕ → Result (List ℕ) FieldError
name_given x = Ok x

abbrev pub name_found : QualName → Result QualName FieldError
name_found n = Ok n

abbrev pub names_given : List QualName → Result (List QualName) FieldError
names_given ns = Ok ns

-- an id with the driver as its domain
abbrev meant_by : List ℕ → List ℕ → Result QualName FieldError
meant_by driver id = Ok (as_name driver id)

-- ---- equal names

both_equal : (a b : Ordering) → is_eq (ordering_then a b) ≡ is_eq a && is_eq b
both_equal Less b = refl
both_equal Equal b = refl
both_equal Greater b = refl

name_test : (a b : QualName) → is_eq (qual_cmp a b) ≡ same_name a b
name_test a b = both_equal (slice_cmp nat_cmp a.domain b.domain) (slice_cmp nat_cmp a.id b.id) ∙ ap (λ x. x && is_eq (slice_cmp nat_cmp a.id b.id)) (is_eq-slice_cmp a.domain b.domain) ∙ ap (λ x. bytes_eq a.domain b.domain && x) (is_eq-slice_cmp a.id b.id)

both_are : (a b : Bool) → a && b ≡ true → (a ≡ true) × (b ≡ true)
both_are true true h = (refl, refl)
both_are true false h = cc
both_are false b h = cc

are_same : (a b : QualName) → same_name a b ≡ true → a ≡ b
are_same a b h =
    let t = both_are (bytes_eq a.domain b.domain) (bytes_eq a.id b.id) h in
    let d : a.domain ≡ b.domain = (bytes_eq-Decides a.domain b.domain).0 t.0 in
    let i : a.id ≡ b.id = (bytes_eq-Decides a.id b.id).0 t.1 in
    ap (λ x. as_name x a.id) d ∙ ap (as_name b.domain) i

not_same : (a b : QualName) → qual_cmp a b ≡ Greater → same_name a b ≡ true → ⊥
not_same a b h k =
    let f : is_eq (qual_cmp a b) ≡ false = ap is_eq h in
    let no_value : true ≡ false = sym k ∙ sym (name_test a b) ∙ f in cc

-- ---- a table with a name more

or_some : {A : Type 0} (a : Bool) (v : A) (o : Option A) → is_some (cond a (Some v) o) ≡ a || is_some o
or_some true v o = refl
or_some false v o = refl

-- two tests of which one holds
or_again : (a b : Bool) → a || b ≡ a || (a || b)
or_again true b = refl
or_again false b = refl

or_turned : (a b c : Bool) → a || (b || c) ≡ b || (a || c)
or_turned true true c = refl
or_turned true false c = refl
or_turned false b c = refl

pub one_more : {A : Type 0} (m k : QualName) (v : A) (es : List (QualName × A)) → has_name m (insert_entry qual_cmp es k v) ≡ same_name m k || has_name m es
one_more m k v [] = or_some (is_eq (qual_cmp m k)) v None ∙ ap (λ b. b || false) (name_test m k)
one_more {A = A} m k v (e ∷ es) =
    let T : QualName → Bool = is_at (qual_cmp m) in
    (elim (qual_cmp k e.0) as (λ o. qual_cmp k e.0 ≡ o → is_some (lookup T (match_ordering o ((k, v) ∷ e ∷ es) ((e.0, v) ∷ es) (e ∷ insert_entry qual_cmp es k v))) ≡ same_name m k || has_name m (e ∷ es)) [
      | Less ↦ λ h. or_some (T k) v (lookup T (e ∷ es)) ∙ ap (λ b. b || has_name m (e ∷ es)) (name_test m k)
      | Equal ↦ λ h.
          let same : k ≡ e.0 = are_same k e.0 (sym (name_test k e.0) ∙ ap is_eq h) in
          or_some (T e.0) v (lookup T es) ∙ or_again (T e.0) (has_name m es) ∙ ap (λ b. b || (T e.0 || has_name m es)) (name_test m e.0 ∙ ap (same_name m) (sym same)) ∙ ap (λ b. same_name m k || b) (sym (or_some (T e.0) e.1 (lookup T es)))
      | Greater ↦ λ h.
          or_some (T e.0) e.1 (lookup T (insert_entry qual_cmp es k v)) ∙ ap (λ b. T e.0 || b) (one_more m k v es) ∙ or_turned (T e.0) (same_name m k) (has_name m es) ∙ ap (λ b. same_name m k || b) (sym (or_some (T e.0) e.1 (lookup T es)))
    ]) refl

-- the table has these names
abbrev pub HasNames : {A : Type 0} → List QualName → List (QualName × A) → Type 0
HasNames {A = A} names table = (m : QualName) → has_name m table ≡ is_name_among m names

or_right : (a b c : Bool) → a || (b || c) ≡ (a || b) || c
or_right true b c = refl
or_right false b c = refl

among_more : (m : QualName) (names : List QualName) (n : QualName) → is_name_among m (names ++ n ∷ []) ≡ same_name m n || is_name_among m names
among_more m [] n = refl
among_more m (x ∷ xs) n = ap (λ b. same_name m x || b) (among_more m xs n) ∙ or_turned (same_name m x) (same_name m n) (is_name_among m xs)

has_more : {A : Type 0} (names : List QualName) (n : QualName) (v : A) (table : List (QualName × A)) → HasNames names table → HasNames (names ++ n ∷ []) (insert_entry qual_cmp table n v)
has_more names n v table h m = one_more m n v table ∙ ap (λ b. same_name m n || b) (h m) ∙ sym (among_more m names n)

-- ---- what a key means, at whatever path

abbrev chosen : {A : Type 0} → Bool → Bool → List Step → A → Result A FieldError
chosen a b p x = if a then Err (error_at p TooLong) else (if b then Ok x else Err (error_at p BadName))

judged_so : (a b : Bool) (p q : List Step) (t x : List ℕ) → (if a then Err (error_at p TooLong) else (if b then Ok t else Err (error_at p BadName))) ≡ Ok x → (if a then Err (error_at q TooLong) else (if b then Ok t else Err (error_at q BadName))) ≡ name_given x
judged_so true b p q t x h = cc
judged_so false true p q t x h = h
judged_so false false p q t x h = cc

pair_so : (a b : Bool) (p q : List Step) (x n : QualName) → (if a then Err (error_at p TooLong) else (if b then Ok x else Err (error_at p BadName))) ≡ Ok n → (if a then Err (error_at q TooLong) else (if b then Ok x else Err (error_at q BadName))) ≡ name_found n
pair_so true b p q x n h = cc
pair_so false true p q x n h = h
pair_so false false p q x n h = cc

means_by : (p q : List Step) (driver key : List ℕ) (o : Option (List ℕ × List ℕ)) (n : QualName) → qualified_from p driver key o ≡ Ok n → qualified_from q driver key o ≡ Ok n
means_by p q driver key None n h =
    let g = gave (name_in p id_most is_c_identifier key) (λ id. meant_by driver id) n h in
    ap (λ r. r >>= λ id. meant_by driver id) (judged_so (nat_lt id_most (length key)) (is_c_identifier key) p q key g.value g.first) ∙ g.second
means_by p q driver key (Some c) n h = pair_so (nat_lt domain_most (length c.0) || nat_lt id_most (length c.1)) (is_dns_name c.0 && is_c_identifier c.1) p q (record { domain = c.0; id = c.1 }) n h

means_everywhere : (p : List Step) (driver key : List ℕ) (n : QualName) → qual_name_in p driver key ≡ Ok n → (q : List Step) → qual_name_in q driver key ≡ Ok n
means_everywhere p driver key n h q = means_by p q driver key (cut_at 47 key) n h

never_judged : {A : Type 0} (kind : FieldErrorKind) → Plain kind → (a b : Bool) (p : List Step) (x : A) → Never kind (chosen a b p x)
never_judged kind q true b p x e h k = let same : error_at p TooLong ≡ e = cc in q.long (ap (λ (y : FieldError). y.kind) same ∙ k)
never_judged kind q false true p x e h k = let no_value : ⊥ = cc in no_value
never_judged kind q false false p x e h k = let same : error_at p BadName ≡ e = cc in q.bad (ap (λ (y : FieldError). y.kind) same ∙ k)

never_meant : (kind : FieldErrorKind) (driver id : List ℕ) → Never kind (meant_by driver id)
never_meant kind driver id e h k = let no_value : ⊥ = cc in no_value

never_by : (kind : FieldErrorKind) → Plain kind → (p : List Step) (driver key : List ℕ) (o : Option (List ℕ × List ℕ)) → Never kind (qualified_from p driver key o)
never_by kind q p driver key None = never_then kind (name_in p id_most is_c_identifier key) (λ id. meant_by driver id) (never_judged kind q (nat_lt id_most (length key)) (is_c_identifier key) p key) (λ id. never_meant kind driver id)
never_by kind q p driver key (Some c) = never_judged kind q (nat_lt domain_most (length c.0) || nat_lt id_most (length c.1)) (is_dns_name c.0 && is_c_identifier c.1) p (as_name c.0 c.1)

pub never_key : (kind : FieldErrorKind) → Plain kind → (p : List Step) (driver key : List ℕ) → Never kind (qual_name_in p driver key)
never_key kind q p driver key = never_by kind q p driver key (cut_at 47 key)

-- ---- the table of a map, key by key

abbrev pub table_from : {A : Type 0} → (List Step → Data → Result A FieldError) → List ℕ → List Step → List (QualName × A) → Members → Result (List (QualName × A)) FieldError
table_from reading driver path before no_members = Ok before
table_from reading driver path before (member key d ms) =
    new_name (path ++ step.Key key ∷ []) driver before key >>= λ name.
    reading (path ++ step.Key key ∷ []) d >>= λ value.
    table_from reading driver path (insert_entry qual_cmp before name value) ms

abbrev pub key_error : List Step → List ℕ → FieldError
key_error path key = error_at (path ++ step.Key key ∷ []) Doubled

all_new : {A : Type 0} (reading : List Step → Data → Result A FieldError) (driver : List ℕ) (path : List Step) (old names : List QualName) (before : List (QualName × A)) (ms : Members) → HasNames old before → names_alone reading driver path ms ≡ Ok names → AreNewNames old names → is_ok (table_from reading driver path before ms) ≡ true
all_new reading driver path old names before no_members h r n = refl
all_new {A = A} reading driver path old names before (member key d ms) h r n =
    let at : List Step = path ++ step.Key key ∷ [] in
    let q = gave (qual_name_in at driver key) (λ name. reading at d >>= λ value. names_alone reading driver path ms >>= λ ns. names_given (name ∷ ns)) names r in
    let v = gave (reading at d) (λ value. names_alone reading driver path ms >>= λ ns. names_given (q.value ∷ ns)) names q.second in
    let w = gave (names_alone reading driver path ms) (λ ns. names_given (q.value ∷ ns)) names v.second in
    let is : q.value ∷ w.value ≡ names = the_same (q.value ∷ w.value) names w.second in
    let new : AreNewNames old (q.value ∷ w.value) = subst (AreNewNames old) (sym is) n in
    let go : QualName → Result (List (QualName × A)) FieldError = λ name. reading at d >>= λ value. table_from reading driver path (insert_entry qual_cmp before name value) ms in
    ap (λ x. is_ok ((x >>= λ name. unless (error_at at Doubled) (has_name name before) name) >>= go)) q.first
    ∙ ap (λ b. is_ok (unless (error_at at Doubled) b q.value >>= go)) (h q.value ∙ new.0)
    ∙ ap (λ x. is_ok (x >>= λ value. table_from reading driver path (insert_entry qual_cmp before q.value value) ms)) v.first
    ∙ all_new reading driver path (old ++ q.value ∷ []) w.value (insert_entry qual_cmp before q.value v.value) ms (has_more old q.value v.value before h) w.first new.1

one_old : {A : Type 0} (reading : List Step → Data → Result A FieldError) (driver : List ℕ) (path : List Step) (old us vs : List QualName) (n : QualName) (key : List ℕ) (before : List (QualName × A)) (ms : Members) → HasNames old before → names_alone reading driver path ms ≡ Ok (us ++ n ∷ vs) → AreNewNames old us → is_name_among n (old ++ us) ≡ true → slice_get (keys_in ms) (length us) ≡ Some key → table_from reading driver path before ms ≡ Err (key_error path key)
one_old reading driver path old [] vs n key before no_members h r new stands is = absurd (let no_value : ⊥ = cc in no_value)
one_old reading driver path old (u ∷ us) vs n key before no_members h r new stands is = absurd (let no_value : ⊥ = cc in no_value)
one_old {A = A} reading driver path old [] vs n key before (member k d ms) h r new stands is =
    let at : List Step = path ++ step.Key k ∷ [] in
    let q = gave (qual_name_in at driver k) (λ name. reading at d >>= λ value. names_alone reading driver path ms >>= λ ns. names_given (name ∷ ns)) (n ∷ vs) r in
    let v = gave (reading at d) (λ value. names_alone reading driver path ms >>= λ ns. names_given (q.value ∷ ns)) (n ∷ vs) q.second in
    let w = gave (names_alone reading driver path ms) (λ ns. names_given (q.value ∷ ns)) (n ∷ vs) v.second in
    let same : q.value ∷ w.value ≡ n ∷ vs = the_same (q.value ∷ w.value) (n ∷ vs) w.second in
    let name : q.value ≡ n = cc in
    let here : k ≡ key = cc in
    let go : QualName → Result (List (QualName × A)) FieldError = λ name. reading at d >>= λ value. table_from reading driver path (insert_entry qual_cmp before name value) ms in
    let among : is_name_among q.value old ≡ true = ap (λ x. is_name_among x old) name ∙ ap (is_name_among n) (sym (append-nil old)) ∙ stands in
    ap (λ x. (x >>= λ name. unless (error_at at Doubled) (has_name name before) name) >>= go) q.first
    ∙ ap (λ b. unless (error_at at Doubled) b q.value >>= go) (h q.value ∙ among)
    ∙ ap (λ x. Err (key_error path x)) here
one_old {A = A} reading driver path old (u ∷ us) vs n key before (member k d ms) h r new stands is =
    let at : List Step = path ++ step.Key k ∷ [] in
    let q = gave (qual_name_in at driver k) (λ name. reading at d >>= λ value. names_alone reading driver path ms >>= λ ns. names_given (name ∷ ns)) (u ∷ us ++ n ∷ vs) r in
    let v = gave (reading at d) (λ value. names_alone reading driver path ms >>= λ ns. names_given (q.value ∷ ns)) (u ∷ us ++ n ∷ vs) q.second in
    let w = gave (names_alone reading driver path ms) (λ ns. names_given (q.value ∷ ns)) (u ∷ us ++ n ∷ vs) v.second in
    let same : q.value ∷ w.value ≡ u ∷ us ++ n ∷ vs = the_same (q.value ∷ w.value) (u ∷ us ++ n ∷ vs) w.second in
    let name : q.value ≡ u = cc in
    let rest : w.value ≡ us ++ n ∷ vs = cc in
    let go : QualName → Result (List (QualName × A)) FieldError = λ name. reading at d >>= λ value. table_from reading driver path (insert_entry qual_cmp before name value) ms in
    let fresh : is_name_among q.value old ≡ false = ap (λ x. is_name_among x old) name ∙ new.0 in
    let others : AreNewNames (old ++ q.value ∷ []) us = subst (λ x. AreNewNames (old ++ x ∷ []) us) (sym name) new.1 in
    let after : is_name_among n ((old ++ q.value ∷ []) ++ us) ≡ true = ap (is_name_among n) (append_assoc old (q.value ∷ []) us ∙ ap (λ x. old ++ x ∷ us) name) ∙ stands in
    ap (λ x. (x >>= λ name. unless (error_at at Doubled) (has_name name before) name) >>= go) q.first
    ∙ ap (λ b. unless (error_at at Doubled) b q.value >>= go) (h q.value ∙ fresh)
    ∙ ap (λ x. x >>= λ value. table_from reading driver path (insert_entry qual_cmp before q.value value) ms) v.first
    ∙ one_old reading driver path (old ++ q.value ∷ []) us vs n key (insert_entry qual_cmp before q.value v.value) ms (has_more old q.value v.value before h) (w.first ∙ ap names_given rest) others after is

-- ---- where it is Doubled

record IsRepeatedFrom (driver : List ℕ) (path : List Step) (old : List QualName) (ms : Members) (e : FieldError) : Type 0 where
  more : List (List ℕ)
  key : List ℕ
  behind : List (List ℕ)
  keys : keys_in ms ≡ more ++ key ∷ behind
  names : List QualName
  meant : AreMeant driver more names
  name : QualName
  means : (p : List Step) → qual_name_in p driver key ≡ Ok name
  stands : is_name_among name (old ++ names) ≡ true
  is : e ≡ key_error path key

repeated_from : {A : Type 0} (reading : List Step → Data → Result A FieldError) → ((p : List Step) (d : Data) → Never Doubled (reading p d)) → (driver : List ℕ) (path : List Step) (old : List QualName) (before : List (QualName × A)) (ms : Members) (e : FieldError) → HasNames old before → table_from reading driver path before ms ≡ Err e → e.kind ≡ Doubled → IsRepeatedFrom driver path old ms e
repeated_from reading never driver path old before no_members e h r k = absurd (let no_value : ⊥ = cc in no_value)
repeated_from reading never driver path old before (member key d ms) e h r k =
    let at : List Step = path ++ step.Key key ∷ [] in
    ⊎_elim (λ x. ⊎_elim (λ y. absurd (never_key Doubled not_doubled at driver key e y k))
    (λ y.
    let f = refused (error_at at Doubled) e (has_name y.0 before) y.0 y.1.1 in
    record { more = []; key = key; behind = keys_in ms; keys = refl; names = []; meant = tt; name = y.0; means = means_everywhere at driver key y.0 y.1.0; stands = ap (is_name_among y.0) (append-nil old) ∙ sym (h y.0) ∙ f.0; is = f.1 })
    (either_err (qual_name_in at driver key) (λ name. unless (error_at at Doubled) (has_name name before) name) e x))
    (λ x. ⊎_elim (λ y. absurd (never at d e y k))
    (λ y.
    let g = gave (qual_name_in at driver key) (λ name. unless (error_at at Doubled) (has_name name before) name) x.0 x.1.0 in
    let same : g.value ≡ x.0 = kept (error_at at Doubled) (has_name g.value before) g.value x.0 g.second in
    let s = repeated_from reading never driver path (old ++ x.0 ∷ []) (insert_entry qual_cmp before x.0 y.0) ms e (has_more old x.0 y.0 before h) y.1.1 k in
    record { more = key ∷ s.more; key = s.key; behind = s.behind; keys = ap (λ ks. key ∷ ks) s.keys; names = x.0 ∷ s.names; meant = (means_everywhere at driver key x.0 (g.first ∙ ap name_found same), s.meant); name = s.name; means = s.means; stands = ap (is_name_among s.name) (sym (append_assoc old (x.0 ∷ []) s.names)) ∙ s.stands; is = s.is })
    (either_err (reading at d) (λ value. table_from reading driver path (insert_entry qual_cmp before x.0 value) ms) e x.1.1))
    (either_err (new_name at driver before key) (λ name. reading at d >>= λ value. table_from reading driver path (insert_entry qual_cmp before name value) ms) e r)

-- ---- from the beginning

none_yet : (A : Type 0) → HasNames {A = A} [] []
none_yet A m = refl

pub new : {A : Type 0} (reading : List Step → Data → Result A FieldError) (driver : List ℕ) (path : List Step) (ms : Members) (names : List QualName) → names_alone reading driver path ms ≡ Ok names → AreNewNames [] names → is_ok (table_from reading driver path [] ms) ≡ true
new {A = A} reading driver path ms names h n = all_new reading driver path [] names [] ms (none_yet A) h n

pub doubled : {A : Type 0} (reading : List Step → Data → Result A FieldError) (driver : List ℕ) (path : List Step) (ms : Members) (before behind : List QualName) (name : QualName) (key : List ℕ) → names_alone reading driver path ms ≡ Ok (before ++ name ∷ behind) → AreNewNames [] before → is_name_among name before ≡ true → slice_get (keys_in ms) (length before) ≡ Some key → table_from reading driver path [] ms ≡ Err (key_error path key)
doubled {A = A} reading driver path ms before behind name key h n old is = one_old reading driver path [] before behind name key [] ms (none_yet A) h n old is

pub only : {A : Type 0} (reading : List Step → Data → Result A FieldError) → ((p : List Step) (d : Data) → Never Doubled (reading p d)) → (driver : List ℕ) (path : List Step) (ms : Members) (e : FieldError) → table_from reading driver path [] ms ≡ Err e → e.kind ≡ Doubled → IsRepeatedKey driver path ms e
only {A = A} reading never driver path ms e h k =
    let s = repeated_from reading never driver path [] [] ms e (none_yet A) h k in
    record { before = s.more; key = s.key; behind = s.behind; keys = s.keys; names = s.names; meant = s.meant; name = s.name; means = s.means; stands = s.stands; is = s.is }
