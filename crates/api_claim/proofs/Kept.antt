-- What is read keeps the limits and name rules.
use Rattle.std.proofs.Common.{◌≡◌, ◌≢◌, ◌∙◌, ℕ, zero, suc, ◌+◌, ◌≤◌, ◌&&◌, ◌||◌, Bool, true, false, List, [], ◌∷◌, ◌++◌, length, map, Option, Some, None, Result, Ok, Err, ap, arith, codes, if◌then◌else◌, lit≤, nat_le, nat_lt, not, refl, subst, sym, ℤ, pos, negsuc}
use Rattle.std.proofs.lemmas.Bool.{leb-true, ltb-false}
use Rattle.std.proofs.lemmas.List.{length-append, length-map}
use Rattle.std.proofs.lemmas.List.Elements.{All-nil, All-push}
use Rattle.std.proofs.lemmas.Slice.Eq.{bytes_eq-Decides}
use Rattle.std.proofs.lemmas.Slice.Zip.{firsts-zip, length-zip}
use Rattle.std.specs.List.{zip}
use Rattle.std.specs.Str.{bytes_eq}
use Rattle.serde_json.specs.Data.{Data, null, boolean, number, string, array, object, Items, no_items, item}
use Rattle.serde_json.specs.Find.{as_array}
use Rattle.object_fields.specs.Fields.{dns_label_at, error_at, field_at, field_error, if_there, items_length, list_at, member_of, name_in, natural_at, natural_between, object_at, object_value, optional_at, short_list_at, some_or, text_at, unless, unset_at, whole_at, ◌>>=◌}
use Rattle.object_fields.specs.Lists.{each, each_at, each_beside, each_from, each_in}
use Rattle.object_fields.specs.Names.{is_dns_label, label_most}
use Rattle.object_fields.specs.NewNames.{AreDifferent, is_among}
use Rattle.object_fields.specs.Selectors.{selector_at, selectors_at, selectors_most}
use Rattle.object_fields.specs.declared.error.FieldError.{FieldError}
use Rattle.object_fields.specs.declared.kind.FieldErrorKind.TheVariants.{Doubled, Missing, NotOne, OutOfRange, TooMany, WrongType}
use Rattle.object_fields.specs.declared.path.Step.{Step}
use Rattle.object_fields.specs.declared.path.Step.TheVariants.{Member, Place}
use Rattle.device_taints.specs.Limits.{TolerationsKept}
use Rattle.device_taints.specs.Reading.{tolerations_at}
use Rattle.device_taints.specs.declared.types.Toleration.{Toleration}
use Rattle.api_claim.specs.Asks.{admin_at, all_at, ask_with, asked_at, count_at, count_most, exactly_at, exactly_in, first_available_at, mode_at, mode_with, selection_at, subrequest_in}
use Rattle.api_claim.specs.Limits.{AreNames, AskKept, CountKept, EachOf, KindKept, RequestsKept, SubrequestsKept}
use Rattle.api_claim.specs.Lists.{has_items, has_some, is_no_empty_list, new_name_at, passes, some_items, some_items_at}
use Rattle.api_claim.specs.Requests.{has_one_kind, kind_of, kind_with, kinds_in, request_name_at, request_of, requests_in, requests_most, subrequest_name_at, subrequest_names_at, subrequest_of, subrequests_most}
use Rattle.api_claim.specs.declared.asks.Asked.{Asked}
use Rattle.api_claim.specs.declared.asks.Asked.TheVariants as asked
use Rattle.api_claim.specs.declared.asks.Selection.{Selection}
use Rattle.api_claim.specs.declared.types.AllocationMode.{AllocationMode}
use Rattle.api_claim.specs.declared.types.DeviceAsk.{DeviceAsk}
use Rattle.api_claim.specs.declared.types.DeviceRequest.{DeviceRequest}
use Rattle.api_claim.specs.declared.types.ExactDeviceRequest.{ExactDeviceRequest}
use Rattle.api_claim.specs.declared.types.RequestKind.{RequestKind}
use Rattle.api_claim.proofs.Inverse.{given, each_map, each_more, each_second, map_map, rows, rows_each, rows_length, rows_zip, then_ok, unless_ok}

-- ---- names

or_false : (a b : Bool) → (a || b) ≡ false → (a ≡ false) × (b ≡ false)
or_false true b h = cc
or_false false b h = (refl, h)

isnt : (y x : List ℕ) → bytes_eq y x ≡ false → x ≢ y
isnt y x h e = let same : bytes_eq y x ≡ true = (bytes_eq-Decides y x).1 (sym e) in let no_value : ⊥ = cc in no_value

-- a name that is none of those before it
distinct_more : (xs : List (List ℕ)) (x : List ℕ) → AreDifferent xs → is_among x xs ≡ false → AreDifferent (xs ++ x ∷ [])
distinct_more [] x h n = (All-nil (λ other. other ≢ x), tt)
distinct_more (y ∷ ys) x h n =
    let o = or_false (bytes_eq y x) (is_among x ys) n in
    (All-push (λ other. other ≢ y) ys x h.0 (isnt y x o.0), distinct_more ys x h.1 o.1)

names_more : (xs : List (List ℕ)) (x : List ℕ) → AreNames xs → is_dns_label x ≡ true → is_among x xs ≡ false → AreNames (xs ++ x ∷ [])
names_more xs x h l n =
    record { labels = each_more (λ name. is_dns_label name ≡ true) xs x h.labels l; distinct = distinct_more xs x h.distinct n }

pub names_from : (r : List Step → List (List ℕ) → Data → Result (List ℕ) FieldError) (new : (path : List Step) (before : List (List ℕ)) (d : Data) (name : List ℕ) → r path before d ≡ Ok name → (is_dns_label name ≡ true) × (is_among name before ≡ false)) (path : List Step) (place : ℕ) (before all : List (List ℕ)) (ds : Items) → AreNames before → each_from r path place before ds ≡ Ok all → AreNames all × (length all ≡ length before + items_length ds)
names_from r new path place before all no_items n h =
    let e : before ≡ all = cc in (subst AreNames e n, omega (arith, ap length e))
names_from r new path place before all (item d ds) n h =
    let s = then_ok (r (path ++ Place place ∷ []) before d) (λ x. each_from r path (place + 1) (before ++ x ∷ []) ds) all h in
    let w = new (path ++ Place place ∷ []) before d s.0 s.1.0 in
    let k = names_from r new path (place + 1) (before ++ s.0 ∷ []) all ds (names_more before s.0 n w.0 w.1) s.1.1 in
    let l : length (before ++ s.0 ∷ []) ≡ length before + 1 = length-append before (s.0 ∷ []) in
    (k.0, omega (arith, k.1, l))

two_tests : (b right : Bool) (e1 e2 : FieldError) (t a : List ℕ) → (if b then Err e1 else (if right then Ok t else Err e2)) ≡ Ok a → (right ≡ true) × (t ≡ a)
two_tests true right e1 e2 t a h = cc
two_tests false true e1 e2 t a h = (refl, cc)
two_tests false false e1 e2 t a h = cc

new_name : (path : List Step) (before : List (List ℕ)) (d : Data) (name : List ℕ) → new_name_at path before d ≡ Ok name → (is_dns_label name ≡ true) × (is_among name before ≡ false)
new_name path before d name h =
    let s = then_ok (dns_label_at path (codes "name") d) (λ n. unless (field_error path (codes "name") Doubled) (is_among n before) n) name h in
    let u = unless_ok (field_error path (codes "name") Doubled) (is_among s.0 before) s.0 name s.1.1 in
    let t = then_ok (text_at path (codes "name") d) (name_in (path ++ Member (codes "name") ∷ []) label_most is_dns_label) s.0 s.1.0 in
    let j = two_tests (nat_lt label_most (length t.0)) (is_dns_label t.0) _ _ t.0 s.0 t.1.1 in
    let label : is_dns_label name ≡ true = ap is_dns_label (sym u.1) ∙ ap is_dns_label (sym j.1) ∙ j.0 in
    let fresh : is_among name before ≡ false = ap (λ n. is_among n before) (sym u.1) ∙ u.0 in
    (label, fresh)

pub request_name : (path : List Step) (before : List (List ℕ)) (d : Data) (name : List ℕ) → request_name_at path before d ≡ Ok name → (is_dns_label name ≡ true) × (is_among name before ≡ false)
request_name path before d name h =
    let s = then_ok (object_value path d) (λ request. new_name_at path before request >>= λ n. unless (error_at path NotOne) (not (has_one_kind request)) n) name h in
    let t = then_ok (new_name_at path before s.0) (λ n. unless (error_at path NotOne) (not (has_one_kind s.0)) n) name s.1.1 in
    let u = unless_ok (error_at path NotOne) (not (has_one_kind s.0)) t.0 name t.1.1 in
    let P : List ℕ → Type 0 = λ n. (is_dns_label n ≡ true) × (is_among n before ≡ false) in
    subst P u.1 (new_name path before s.0 t.0 t.1.0)

subrequest_name : (path : List Step) (before : List (List ℕ)) (d : Data) (name : List ℕ) → subrequest_name_at path before d ≡ Ok name → (is_dns_label name ≡ true) × (is_among name before ≡ false)
subrequest_name path before d name h =
    let s = then_ok (object_value path d) (new_name_at path before) name h in
    new_name path before s.0 name s.1.1

pub no_names : AreNames []
no_names = record { labels = tt; distinct = tt }

-- ---- lists that may be missing

-- of a value that may be missing
abbrev pub OfSome : {A : Type 0} → (A → Type 0) → Option A → Type 0
OfSome P None = Unit {0}
OfSome P (Some x) = P x

pub if_there_some : {A : Type 0} (P : A → Type 0) (v : Option Data) (r : Result A FieldError) (gives : (x : A) → r ≡ Ok x → P x) (o : Option A) → if_there v r ≡ Ok o → OfSome P o
if_there_some P None r gives o h =
    let e : None ≡ o = cc in subst (OfSome P) e tt
if_there_some {A = A} P (Some v) r gives o h =
    let s = then_ok r (λ x. Ok (Some x)) o h in
    let k : given (Some s.0) ≡ Ok o = s.1.1 in
    let e : Some s.0 ≡ o = cc in
    subst (OfSome P) e (gives s.0 s.1.0)

short : (most : ℕ) (path : List Step) (name : List ℕ) (d : Data) (ds : Items) → short_list_at most path name d ≡ Ok ds → (list_at path name d ≡ Ok ds) × (items_length ds ≤ most)
short most path name d ds h =
    let s = then_ok (list_at path name d) (λ es. unless (field_error path name TooMany) (nat_lt most (items_length es)) es) ds h in
    let u = unless_ok (field_error path name TooMany) (nat_lt most (items_length s.0)) s.0 ds s.1.1 in
    let few : items_length s.0 ≤ most = ltb-false most (items_length s.0) u.0 in
    (s.1.0 ∙ ap Ok u.1, subst (λ (es : Items). items_length es ≤ most) u.1 few)

few_in : {A : Type 0} (most : ℕ) (f : List Step → Data → Result A FieldError) (path : List Step) (o : Option Items) (xs : List A) → OfSome (λ ds. items_length ds ≤ most) o → each_in f path o ≡ Ok xs → length xs ≤ most
few_in {A = A} most f path None xs o h =
    let k : given {A = List A} [] ≡ Ok xs = h in
    let e : [] ≡ xs = cc in
    let l : 0 ≡ length xs = ap length e in
    omega arith
few_in most f path (Some ds) xs o h =
    let l : length xs ≡ items_length ds = rows_length f path 0 ds xs (rows f path xs ds h) in
    let few : items_length ds ≤ most = o in
    omega arith

pub each_at_few : {A : Type 0} (most : ℕ) (f : List Step → Data → Result A FieldError) (path : List Step) (name : List ℕ) (d : Data) (xs : List A) → each_at most f path name d ≡ Ok xs → length xs ≤ most
each_at_few most f path name d xs h =
    let s = then_ok (optional_at (short_list_at most) path name d) (each_in f (path ++ Member name ∷ [])) xs h in
    let o = if_there_some (λ ds. items_length ds ≤ most) (member_of name d) (short_list_at most path name d) (λ ds e. (short most path name d ds e).1) s.0 s.1.0 in
    few_in most f (path ++ Member name ∷ []) s.0 xs o s.1.1

pub each_in_each : {A : Type 0} (P : A → Type 0) (f : List Step → Data → Result A FieldError) (gives : (path : List Step) (d : Data) (x : A) → f path d ≡ Ok x → P x) (path : List Step) (o : Option Items) (xs : List A) → each_in f path o ≡ Ok xs → EachOf P xs
each_in_each {A = A} P f gives path None xs h =
    let k : given {A = List A} [] ≡ Ok xs = h in
    let e : [] ≡ xs = cc in
    subst (EachOf P) e tt
each_in_each P f gives path (Some ds) xs h = rows_each P f gives path 0 ds xs (rows f path xs ds h)

pub each_at_each : {A : Type 0} (P : A → Type 0) (most : ℕ) (f : List Step → Data → Result A FieldError) (gives : (path : List Step) (d : Data) (x : A) → f path d ≡ Ok x → P x) (path : List Step) (name : List ℕ) (d : Data) (xs : List A) → each_at most f path name d ≡ Ok xs → EachOf P xs
each_at_each P most f gives path name d xs h =
    let s = then_ok (optional_at (short_list_at most) path name d) (each_in f (path ++ Member name ∷ [])) xs h in
    each_in_each P f gives (path ++ Member name ∷ []) s.0 xs s.1.1

-- ---- what is asked for

between : (b : Bool) (e : FieldError) (m n : ℕ) → (if b then Ok m else Err e) ≡ Ok n → (b ≡ true) × (m ≡ n)
between true e m n h = (refl, cc)
between false e m n h = cc

and_second : (a b : Bool) → (a && b) ≡ true → b ≡ true
and_second true b h = h
and_second false b h = cc

natural_most : (e : FieldError) (least most : ℕ) (z : ℤ) (n : ℕ) → natural_between e least most z ≡ Ok n → n ≤ most
natural_most e least most (pos m) n h =
    let t = between (nat_le least m && nat_le m most) e m n h in
    let k : m ≤ most = leb-true m most (and_second (nat_le least m) (nat_le m most) t.0) in
    subst (λ x. x ≤ most) t.1 k
natural_most e least most (negsuc m) n h = cc

natural_few : (most : ℕ) (path : List Step) (name : List ℕ) (d : Data) (n : ℕ) → natural_at 0 most path name d ≡ Ok n → n ≤ most
natural_few most path name d n h =
    let s = then_ok (whole_at path name d) (natural_between (field_error path name OutOfRange) 0 most) n h in
    natural_most (field_error path name OutOfRange) 0 most s.0 n s.1.1

count_kept : (all : Bool) (o : Option ℕ) → OfSome (λ n. n ≤ count_most all) o → CountKept (mode_with all o)
count_kept true o h = tt
count_kept false None h = (lit≤ tt, lit≤ tt)
count_kept false (Some zero) h = (lit≤ tt, lit≤ tt)
count_kept false (Some (suc n)) h = (omega arith, h)

mode_kept : (path : List Step) (d : Data) (mode : AllocationMode) → mode_at path d ≡ Ok mode → CountKept mode
mode_kept path d mode h =
    let s = then_ok (all_at path d) (λ all. count_at all path d >>= λ count. Ok (mode_with all count)) mode h in
    let t = then_ok (count_at s.0 path d) (λ count. Ok (mode_with s.0 count)) mode s.1.1 in
    let o = if_there_some (λ n. n ≤ count_most s.0) (member_of (codes "count") d) (natural_at 0 (count_most s.0) path (codes "count") d) (natural_few (count_most s.0) path (codes "count") d) t.0 t.1.0 in
    let k : given (mode_with s.0 t.0) ≡ Ok mode = t.1.1 in
    let e : mode_with s.0 t.0 ≡ mode = cc in
    subst CountKept e (count_kept s.0 t.0 o)

-- tolerations keep their limits
abbrev pub TolerationLaw : Type 0
TolerationLaw = (path : List Step) (d : Data) (tolerations : List Toleration) → tolerations_at path d ≡ Ok tolerations → TolerationsKept tolerations

record SelectionKept (selection : Selection) : Type 0 where
  pub selectors : length selection.selectors ≤ selectors_most
  pub count : CountKept selection.mode

selection_kept : (path : List Step) (d : Data) (selection : Selection) → selection_at path d ≡ Ok selection → SelectionKept selection
selection_kept path d selection h =
    let s = then_ok (text_at path (codes "deviceClassName") d) (λ class. selectors_at path d >>= λ selectors. mode_at path d >>= λ mode. Ok (record { class = class; selectors = selectors; mode = mode })) selection h in
    let t = then_ok (selectors_at path d) (λ selectors. mode_at path d >>= λ mode. Ok (record { class = s.0; selectors = selectors; mode = mode })) selection s.1.1 in
    let u = then_ok (mode_at path d) (λ mode. Ok (record { class = s.0; selectors = t.0; mode = mode })) selection t.1.1 in
    let made : Selection = record { class = s.0; selectors = t.0; mode = u.0 } in
    let k : given made ≡ Ok selection = u.1.1 in
    let e : made ≡ selection = cc in
    let kept : SelectionKept made = record { selectors = each_at_few selectors_most selector_at path (codes "selectors") d t.0 t.1.0; count = mode_kept path d u.0 u.1.0 } in
    subst SelectionKept e kept

ask_kept : TolerationLaw → (selection : Selection) (path : List Step) (d : Data) (ask : DeviceAsk) → SelectionKept selection → ask_with selection path d ≡ Ok ask → AskKept ask
ask_kept law selection path d ask kept h =
    let s = then_ok (tolerations_at path d) (λ tolerations. unset_at path (codes "capacity") d >>= λ u. Ok (record { class = selection.class; selectors = selection.selectors; mode = selection.mode; tolerations = tolerations })) ask h in
    let t = then_ok (unset_at path (codes "capacity") d) (λ u. Ok (record { class = selection.class; selectors = selection.selectors; mode = selection.mode; tolerations = s.0 })) ask s.1.1 in
    let made : DeviceAsk = record { class = selection.class; selectors = selection.selectors; mode = selection.mode; tolerations = s.0 } in
    let k : given made ≡ Ok ask = t.1.1 in
    let e : made ≡ ask = cc in
    let all_kept : AskKept made = record { selectors = kept.selectors; count = kept.count; tolerations = law path d s.0 s.1.0 } in
    subst AskKept e all_kept

subrequest_kept : TolerationLaw → (path : List Step) (d : Data) (ask : DeviceAsk) → subrequest_in path d ≡ Ok ask → AskKept ask
subrequest_kept law path d ask h =
    let s = then_ok (object_value path d) (λ r. selection_at path r >>= λ selection. ask_with selection path r) ask h in
    let t = then_ok (selection_at path s.0) (λ selection. ask_with selection path s.0) ask s.1.1 in
    ask_kept law t.0 path s.0 ask (selection_kept path s.0 t.0 t.1.0) t.1.1

exact_kept : TolerationLaw → (path : List Step) (d : Data) (x : ExactDeviceRequest) → exactly_in path d ≡ Ok x → AskKept x.ask
exact_kept law path d x h =
    let s = then_ok (selection_at path d) (λ selection. admin_at path d >>= λ admin. ask_with selection path d >>= λ ask. Ok (record { ask = ask; admin = admin })) x h in
    let t = then_ok (admin_at path d) (λ admin. ask_with s.0 path d >>= λ ask. Ok (record { ask = ask; admin = admin })) x s.1.1 in
    let u = then_ok (ask_with s.0 path d) (λ ask. Ok (record { ask = ask; admin = t.0 })) x t.1.1 in
    let made : ExactDeviceRequest = record { ask = u.0; admin = t.0 } in
    let k : given made ≡ Ok x = u.1.1 in
    let e : made ≡ x = cc in
    subst (λ (y : ExactDeviceRequest). AskKept y.ask) e (ask_kept law s.0 path d u.0 (selection_kept path d s.0 s.1.0) u.1.0)

-- ---- the subrequests

some_or_some : {A : Type 0} (e : FieldError) (o : Option A) (x : A) → some_or e o ≡ Ok x → o ≡ Some x
some_or_some e None x h = cc
some_or_some e (Some y) x h = cc

array_items : (v : Data) (ds : Items) → as_array v ≡ Some ds → is_no_empty_list v ≡ true → has_items ds ≡ true
array_items null ds h k = cc
array_items (boolean b) ds h k = cc
array_items (number n) ds h k = cc
array_items (string s) ds h k = cc
array_items (array es) ds h k =
    let e : es ≡ ds = cc in ap has_items (sym e) ∙ k
array_items (object ms) ds h k = cc

has_some_one : (ds : Items) → has_items ds ≡ true → 1 ≤ items_length ds
has_some_one no_items h = cc
has_some_one (item d ds) h = omega arith

-- a list that has_some sees has an item
list_has_one : (path : List Step) (name : List ℕ) (d : Data) (ds : Items) → list_at path name d ≡ Ok ds → has_some name d ≡ true → 1 ≤ items_length ds
list_has_one path name d ds h k =
    let s = then_ok (field_at path name d) (λ v. some_or (field_error path name WrongType) (as_array v)) ds h in
    let m : member_of name d ≡ Some s.0 = some_or_some (field_error path name Missing) (member_of name d) s.0 s.1.0 in
    let a : as_array s.0 ≡ Some ds = some_or_some (field_error path name WrongType) (as_array s.0) ds s.1.1 in
    let n : is_no_empty_list s.0 ≡ true = sym (ap (passes is_no_empty_list) m) ∙ k in
    has_some_one ds (array_items s.0 ds a n)

subrequests_kept : (ds : Items) (names : List (List ℕ)) (asks : List DeviceAsk) → 1 ≤ items_length ds → items_length ds ≤ subrequests_most → AreNames names → length names ≡ items_length ds → length asks ≡ items_length ds → EachOf AskKept asks → SubrequestsKept (map subrequest_of (zip names asks))
subrequests_kept ds names asks one few n l m each_ask =
    let long : length (map subrequest_of (zip names asks)) ≡ items_length ds = length-map (zip names asks) subrequest_of ∙ length-zip names asks ∙ omega (arith, l, m) in
    let same : length asks ≡ length names = m ∙ sym l in
    let firsts : map (λ s. s.name) (map subrequest_of (zip names asks)) ≡ names = map_map subrequest_of (λ s. s.name) (zip names asks) ∙ firsts-zip names asks same in
    record {
      some = omega (arith, long, one);
      few = omega (arith, long, few);
      names = subst AreNames (sym firsts) n;
      asks = each_map (λ s. AskKept s.ask) subrequest_of (zip names asks) (each_second AskKept names asks each_ask);
    }

exactly_kept : TolerationLaw → (path : List Step) (d : Data) (x : ExactDeviceRequest) → exactly_at path d ≡ Ok x → AskKept x.ask
exactly_kept law path d x h =
    let s = then_ok (object_at path (codes "exactly") d) (exactly_in (path ++ Member (codes "exactly") ∷ [])) x h in
    exact_kept law (path ++ Member (codes "exactly") ∷ []) s.0 x s.1.1

first_kept : TolerationLaw → (path : List Step) (d : Data) (asks : List DeviceAsk) (names : List (List ℕ)) → has_some (codes "firstAvailable") d ≡ true → first_available_at path d ≡ Ok asks → short_list_at subrequests_most path (codes "firstAvailable") d >>= each_beside subrequest_name_at (path ++ Member (codes "firstAvailable") ∷ []) ≡ Ok names → SubrequestsKept (map subrequest_of (zip names asks))
first_kept law path d asks names there h k =
    let inner : List Step = path ++ Member (codes "firstAvailable") ∷ [] in
    let s = then_ok (list_at path (codes "firstAvailable") d) (each subrequest_in inner) asks h in
    let t = then_ok (short_list_at subrequests_most path (codes "firstAvailable") d) (each_beside subrequest_name_at inner) names k in
    let f = short subrequests_most path (codes "firstAvailable") d t.0 t.1.0 in
    let e : given s.0 ≡ Ok t.0 = sym s.1.0 ∙ f.0 in
    let same : s.0 ≡ t.0 = cc in
    let r = rows subrequest_in inner asks s.0 s.1.1 in
    let l = rows_length subrequest_in inner 0 s.0 asks r in
    let n = names_from subrequest_name_at subrequest_name inner 0 [] names t.0 no_names t.1.1 in
    let one : 1 ≤ items_length t.0 = list_has_one path (codes "firstAvailable") d t.0 f.0 there in
    let long : length names ≡ items_length t.0 = omega (arith, n.1) in
    let asked_long : length asks ≡ items_length t.0 = l ∙ ap items_length same in
    subrequests_kept t.0 names asks one f.1 n.0 long asked_long (rows_each AskKept subrequest_in (subrequest_kept law) inner 0 s.0 asks r)

kind_by : TolerationLaw → (b : Bool) (path : List Step) (d : Data) (a : Asked) (names : List (List ℕ)) → has_some (codes "firstAvailable") d ≡ b → (if b then (first_available_at path d >>= λ asks. Ok (asked.FirstAvailable asks)) else (exactly_at path d >>= λ exactly. Ok (asked.Exactly exactly))) ≡ Ok a → (if b then short_list_at subrequests_most path (codes "firstAvailable") d >>= each_beside subrequest_name_at (path ++ Member (codes "firstAvailable") ∷ []) else Ok []) ≡ Ok names → KindKept (kind_with a names)
kind_by law true path d a names there h k =
    let s = then_ok (first_available_at path d) (λ asks. Ok (asked.FirstAvailable asks)) a h in
    let e : given (asked.FirstAvailable s.0) ≡ Ok a = s.1.1 in
    let is : asked.FirstAvailable s.0 ≡ a = cc in
    subst (λ (x : Asked). KindKept (kind_with x names)) is (first_kept law path d s.0 names there s.1.0 k)
kind_by law false path d a names there h k =
    let s = then_ok (exactly_at path d) (λ exactly. Ok (asked.Exactly exactly)) a h in
    let e : given (asked.Exactly s.0) ≡ Ok a = s.1.1 in
    let is : asked.Exactly s.0 ≡ a = cc in
    subst (λ (x : Asked). KindKept (kind_with x names)) is (exactly_kept law path d s.0 s.1.0)

kind_kept : TolerationLaw → (path : List Step) (d : Data) (a : Asked) (names : List (List ℕ)) → asked_at path d ≡ Ok a → subrequest_names_at path d ≡ Ok names → KindKept (kind_with a names)
kind_kept law path d a names h k = kind_by law (has_some (codes "firstAvailable") d) path d a names refl h k

-- ---- the requests

-- as many kinds as items
pub kinds_length : (path : List Step) (ds : Items) (kinds : List RequestKind) → kinds_in path ds ≡ Ok kinds → length kinds ≡ items_length ds
kinds_length path ds kinds h =
    let s = then_ok (each asked_at path ds) (λ asks. each subrequest_names_at path ds >>= λ names. Ok (map kind_of (zip asks names))) kinds h in
    let t = then_ok (each subrequest_names_at path ds) (λ names. Ok (map kind_of (zip s.0 names))) kinds s.1.1 in
    let e : given (map kind_of (zip s.0 t.0)) ≡ Ok kinds = t.1.1 in
    let is : map kind_of (zip s.0 t.0) ≡ kinds = cc in
    let l = rows_length asked_at path 0 ds s.0 (rows asked_at path s.0 ds s.1.0) in
    let m = rows_length subrequest_names_at path 0 ds t.0 (rows subrequest_names_at path t.0 ds t.1.0) in
    sym (ap length is) ∙ length-map (zip s.0 t.0) kind_of ∙ length-zip s.0 t.0 ∙ omega (arith, l, m)

kinds_kept : TolerationLaw → (path : List Step) (ds : Items) (kinds : List RequestKind) → kinds_in path ds ≡ Ok kinds → EachOf KindKept kinds
kinds_kept law path ds kinds h =
    let s = then_ok (each asked_at path ds) (λ asks. each subrequest_names_at path ds >>= λ names. Ok (map kind_of (zip asks names))) kinds h in
    let t = then_ok (each subrequest_names_at path ds) (λ names. Ok (map kind_of (zip s.0 names))) kinds s.1.1 in
    let e : given (map kind_of (zip s.0 t.0)) ≡ Ok kinds = t.1.1 in
    let is : map kind_of (zip s.0 t.0) ≡ kinds = cc in
    let a = rows asked_at path s.0 ds s.1.0 in
    let b = rows subrequest_names_at path t.0 ds t.1.0 in
    let every = each_map KindKept kind_of (zip s.0 t.0) (rows_zip (λ p. KindKept (kind_of p)) asked_at subrequest_names_at (kind_kept law) path 0 ds s.0 t.0 a b) in
    subst (EachOf KindKept) is every

pub requests_kept : TolerationLaw → (path : List Step) (ds : Items) (requests : List DeviceRequest) → 1 ≤ items_length ds → items_length ds ≤ requests_most → requests_in path ds ≡ Ok requests → RequestsKept requests
requests_kept law path ds requests one few h =
    let s = then_ok (each_beside request_name_at path ds) (λ names. kinds_in path ds >>= λ kinds. Ok (map request_of (zip names kinds))) requests h in
    let t = then_ok (kinds_in path ds) (λ kinds. Ok (map request_of (zip s.0 kinds))) requests s.1.1 in
    let e : given (map request_of (zip s.0 t.0)) ≡ Ok requests = t.1.1 in
    let is : map request_of (zip s.0 t.0) ≡ requests = cc in
    let n = names_from request_name_at request_name path 0 [] s.0 ds no_names s.1.0 in
    let l : length s.0 ≡ items_length ds = omega (arith, n.1) in
    let k = kinds_kept law path ds t.0 t.1.0 in
    let m = kinds_length path ds t.0 t.1.0 in
    let long : length (map request_of (zip s.0 t.0)) ≡ items_length ds = length-map (zip s.0 t.0) request_of ∙ length-zip s.0 t.0 ∙ omega (arith, l, m) in
    let firsts : map (λ r. r.name) (map request_of (zip s.0 t.0)) ≡ s.0 = map_map request_of (λ r. r.name) (zip s.0 t.0) ∙ firsts-zip s.0 t.0 (m ∙ sym l) in
    let kept : RequestsKept (map request_of (zip s.0 t.0)) = record {
      some = omega (arith, long, one);
      few = omega (arith, long, few);
      names = subst AreNames (sym firsts) n.0;
      kinds = each_map (λ r. KindKept r.kind) request_of (zip s.0 t.0) (each_second KindKept s.0 t.0 k);
    } in
    subst RequestsKept is kept

some_few_of : (e : FieldError) (most : ℕ) (es ds : Items) → items_length es ≤ most → some_items e es ≡ Ok ds → (1 ≤ items_length ds) × (items_length ds ≤ most)
some_few_of e most no_items ds few h = cc
some_few_of e most (item d es) ds few h =
    let is : item d es ≡ ds = cc in
    let P : Items → Type 0 = λ x. (1 ≤ items_length x) × (items_length x ≤ most) in
    subst P is (omega arith, few)

pub some_few : (most : ℕ) (path : List Step) (name : List ℕ) (d : Data) (ds : Items) → some_items_at most path name d ≡ Ok ds → (1 ≤ items_length ds) × (items_length ds ≤ most)
some_few most path name d ds h =
    let s = then_ok (short_list_at most path name d) (some_items (field_error path name Missing)) ds h in
    some_few_of (field_error path name Missing) most s.0 ds (short most path name d s.0 s.1.0).1 s.1.1
