-- Results put at the end, one after another, with the rows that they are for.
use Rattle.std.proofs.Common.{ℕ, zero, suc, ◌+◌, ◌-◌, ◌<◌, ◌≤◌, ◌≡◌, ◌∙◌, List, [], ◌∷◌, ◌++◌, Bool, true, false, not, ◌&&◌, cond, None, Some, drop, drop_of_length-le, find, get_or, length, map, take, refl, sym, ap, subst, arith, append_assoc, append-nil}
use Rattle.std.specs.Prelude.{◌==◌, nat_eq, nat_le}
use Rattle.std.specs.Bool.{beq}
use Rattle.std.specs.Cmp.Lexicographic.{pointwise}
use Rattle.std.specs.List.{list_all}
use Rattle.std.proofs.Math.Seq.{drop-append_seam, drop-drop}
use Rattle.std.proofs.Math.Dec.{eqb-suc-suc}
use Rattle.std.proofs.lemmas.Bool.{and_parts, le-leb, lt-leb, ne_eqb}
use Rattle.std.proofs.lemmas.List.{length-drop, length-map, length-take, map-append}
use Rattle.object_fields.specs.declared.key.Key.{Key}
use Rattle.object_fields.specs.declared.key.DeviceId.{DeviceId}
use Rattle.api_claim.specs.declared.types.AllocationMode.{AllocationMode}
use Rattle.api_claim.specs.declared.types.AllocationMode.TheVariants.{ExactCount, All}
use Rattle.pool_view.specs.Names.{device_eq, key_eq}
use Rattle.pool_view.specs.Pools.{Offered, id_in}
use Rattle.pool_view.specs.Views.{position_from, position_of}
use Rattle.cluster.specs.declared.plan.DeviceResult.{DeviceResult}
use Rattle.cluster.specs.declared.plan.Grant.{Grant}
use Rattle.api_claim.specs.declared.types.ResourceClaim.{ResourceClaim}
use Rattle.request_rules.specs.Asked.{Asked, matching}
use Rattle.request_rules.specs.Input.{SearchInput}
use Rattle.request_rules.specs.Lists.{Each}
use Rattle.request_rules.specs.Problem.{is_none, most_results}
use Rattle.request_rows.specs.Rows.{row_for}
use Rattle.request_rows.specs.declared.rows.Row.{Row}
use Rattle.request_rules.specs.Ways.{all_asked, asked_at, wishes_in}
use Rattle.plan_rules.specs.Chosen.{Due, asked_each, asked_in, due, due_by, due_for, dues_for, place_by, place_of}
use Rattle.alloc_rules.specs.Rows as rows
use Rattle.alloc_rules.specs.Rows.{AreDuesMore, DueFields, IsDue, asked_rows, due_seen, positions_of, sits_row}
use Rattle.plan_rules.specs.Shaped.{are_parts, differ, is_for, is_nil, is_part, is_shaped, picks_each, rises_from, sits}
use Rattle.plan_rules.specs.Standing.{is_off}
use Rattle.alloc_rules.proofs.Lists.{drop_next, each_append, each_one, slice_rest, take_next}

-- ---- one result

position_below : (n : ℕ) (id : DeviceId) (os : List Offered) (x : ℕ) → position_from n id os ≡ Some x → x < n + length os
position_below n id [] x e = absurd (cc)
position_below n id (o ∷ os) x e = by (device_eq (id_in o) id) e (λ h. position_below (n + 1) id os x h)
  where
    by : (b : Bool) → cond b (Some n) (position_from (n + 1) id os) ≡ Some x → (position_from (n + 1) id os ≡ Some x → x < n + 1 + length os) → x < n + length (o ∷ os)
    by true h rest = let same : n ≡ x = cc in omega arith
    by false h rest = let below : x < n + 1 + length os = rest h in omega arith

same_bool : (a b : Bool) → beq a b ≡ true → a ≡ b
same_bool true true e = refl
same_bool true false e = absurd (cc)
same_bool false true e = absurd (cc)
same_bool false false e = refl

pub due_one : (w : SearchInput) (devices : List Offered) (old new : List DueFields) (d : DueFields) → new ≡ old ++ d ∷ [] → d.row < length (all_asked w) → devices ≡ w.devices → Some d.position ≡ position_of d.result.device devices
    → is_for (asked_at w d.row) d.result ≡ true → AreDuesMore w old new (due_for d.claim (asked_at w d.row) d.result ∷ [])
due_one w devices old new d e row same at for = record {
  more = d ∷ [];
  new_is = e;
  each_due = each_one (IsDue w) d (record {
    row = row;
    on_node = let below : d.position < 0 + length w.devices = position_below 0 d.result.device w.devices d.position here in omega (arith, below);
    position = ap (place_by w) (sym here);
    admin = same_bool d.result.admin (asked_at w d.row).label.admin (and_parts _ _ for).1;
  });
  seen = refl;
}
  where
    here : position_of d.result.device w.devices ≡ Some d.position
    here = ap (position_of d.result.device) (sym same) ∙ sym at

-- ---- more of them

pub dues_none : (w : SearchInput) (old : List DueFields) → AreDuesMore w old old []
dues_none w old = record { more = []; new_is = sym (append-nil old); each_due = λ i x e. absurd (cc); seen = refl }

pub dues_joined : (w : SearchInput) (a b c : List DueFields) (ds es : List Due) → AreDuesMore w a b ds → AreDuesMore w b c es → AreDuesMore w a c (ds ++ es)
dues_joined w a b c ds es h k = record {
  more = h.more ++ k.more;
  new_is = k.new_is ∙ ap (λ (l : List DueFields). l ++ k.more) h.new_is ∙ append_assoc a h.more k.more;
  each_due = each_append (IsDue w) h.more k.more h.each_due k.each_due;
  seen = map-append (due_seen w) h.more k.more ∙ ap (λ (l : List Due). l ++ map (due_seen w) k.more) h.seen ∙ ap (λ (l : List Due). ds ++ l) k.seen;
}

-- the test holds of none
pub none_first : {X : Type 0} (p : X → Bool) (x : X) (xs : List X) → find p (x ∷ xs) ≡ None → p x ≡ false
none_first {X} p x xs e = by (p x) e
  where
    by : (b : Bool) → cond b (Some x) (find p xs) ≡ None → b ≡ false
    by true h = absurd (cc)
    by false h = refl

pub none_later : {X : Type 0} (p : X → Bool) (x : X) (xs : List X) → find p (x ∷ xs) ≡ None → find p xs ≡ None
none_later {X} p x xs e = by (p x) e
  where
    by : (b : Bool) → cond b (Some x) (find p xs) ≡ None → find p xs ≡ None
    by true h = absurd (cc)
    by false h = h

none_joined : {X : Type 0} (p : X → Bool) (x : X) (xs : List X) → p x ≡ false → find p xs ≡ None → find p (x ∷ xs) ≡ None
none_joined p x xs e h = ap (λ b. cond b (Some x) (find p xs)) e ∙ h

pub none_taken : {X : Type 0} (p : X → Bool) (n : ℕ) (xs : List X) → find p xs ≡ None → find p (take n xs) ≡ None
none_taken p zero xs h = refl
none_taken p (suc n) [] h = refl
none_taken p (suc n) (x ∷ xs) h = none_joined p x (take n xs) (none_first p x xs h) (none_taken p n xs (none_later p x xs h))

pub none_left : {X : Type 0} (p : X → Bool) (n : ℕ) (xs : List X) → find p xs ≡ None → find p (drop n xs) ≡ None
none_left p zero xs h = h
none_left p (suc n) [] h = refl
none_left p (suc n) (x ∷ xs) h = none_left p n xs (none_later p x xs h)

-- the results of a row that were put, and those left
pub record AddedSoFar (w : SearchInput) (a : Asked) (claim : Key) (devices : List Offered) (old now : List DueFields) (all done left : List DeviceResult) : Type 0 where
  pub more : AreDuesMore w old now (map (due_for claim a) done)
  pub whole : list_all (is_for a) left ≡ list_all (is_for a) all
  pub on_node : find (is_off devices) left ≡ None

pub added_next : (w : SearchInput) (a : Asked) (claim : Key) (devices : List Offered) (old now new : List DueFields) (all done : List DeviceResult) (r : DeviceResult) (left : List DeviceResult) → true ≡ is_for a r
    → AreDuesMore w now new (due_for claim a r ∷ []) → AddedSoFar w a claim devices old now all done (r ∷ left) → AddedSoFar w a claim devices old new all (done ++ r ∷ []) left
added_next w a claim devices old now new all done r left e m s = record {
  more = rw (map-append (due_for claim a) done (r ∷ [])) (dues_joined w old now new (map (due_for claim a) done) (due_for claim a r ∷ []) s.more m);
  whole = ap (λ (t : Bool). t && list_all (is_for a) left) e ∙ s.whole;
  on_node = none_later (is_off devices) r left s.on_node;
}

pub added_stop : (w : SearchInput) (a : Asked) (claim : Key) (devices : List Offered) (old now : List DueFields) (all done : List DeviceResult) (r : DeviceResult) (left : List DeviceResult) → false ≡ is_for a r
    → AddedSoFar w a claim devices old now all done (r ∷ left) → false ≡ list_all (is_for a) all
added_stop w a claim devices old now all done r left e s = ap (λ (t : Bool). t && list_all (is_for a) left) e ∙ s.whole

-- by the index of the result
abbrev pub AddedUntil : SearchInput → Asked → Key → List Offered → List DueFields → List DueFields → List DeviceResult → ℕ → Type 0
AddedUntil w a claim devices old now all i = AddedSoFar w a claim devices old now all (take i all) (drop i all)

pub until_added : (w : SearchInput) (a : Asked) (claim : Key) (devices : List Offered) (old now new : List DueFields) (all : List DeviceResult) (i : ℕ) (r : DeviceResult) → i < length all → r ≡ get_or all i r → true ≡ is_for a r
    → AreDuesMore w now new (due_for claim a r ∷ []) → AddedUntil w a claim devices old now all i → AddedUntil w a claim devices old new all (i + 1)
until_added w a claim devices old now new all i r h at e m s =
    subst (λ (done : List DeviceResult). AddedSoFar w a claim devices old new all done (drop (i + 1) all)) (sym (take_next all i r h at))
    (added_next w a claim devices old now new all (take i all) r (drop (i + 1) all) e m (subst (AddedSoFar w a claim devices old now all (take i all)) (drop_next all i r h at) s))

-- ---- the results of a row

positions_are : (w : SearchInput) (ds : List DueFields) → Each (IsDue w) ds → positions_of ds ≡ map (λ e. place_of w e.result) (map (due_seen w) ds)
positions_are w [] h = refl
positions_are w (d ∷ ds) h = ap (λ (n : ℕ). n ∷ positions_of ds) (h 0 d refl).position ∙ ap (λ (l : List ℕ). place_of w d.result ∷ l) (positions_are w ds (λ i x e. h (suc i) x e))

places_are : (w : SearchInput) (claim : Key) (a : Asked) (rs : List DeviceResult) → map (λ e. place_of w e.result) (map (due_for claim a) rs) ≡ map (place_of w) rs
places_are w claim a [] = refl
places_are w claim a (r ∷ rs) = ap (λ (l : List ℕ). place_of w r ∷ l) (places_are w claim a rs)

-- the positions of those put
pub put_at : (w : SearchInput) (claim : Key) (a : Asked) (rs : List DeviceResult) (old new : List DueFields) → AreDuesMore w old new (map (due_for claim a) rs) → positions_of (drop (length old) new) ≡ map (place_of w) rs
put_at w claim a rs old new m =
    ap (λ (l : List DueFields). positions_of (drop (length old) l)) m.new_is
    ∙ ap positions_of (drop-append_seam old m.more)
    ∙ positions_are w m.more m.each_due
    ∙ ap (λ (l : List Due). map (λ e. place_of w e.result) l) m.seen
    ∙ places_are w claim a rs

pub sits_same : (w : SearchInput) (a : Asked) (xs : List ℕ) (m : AllocationMode) → sits_row (row_for w a) w.broken xs m ≡ sits w a m xs
sits_same w a xs (ExactCount n) = refl
sits_same w a xs All = refl

pub due_same : (w : SearchInput) (a : Asked) (m : AllocationMode) → rows.due_by (row_for w a) m ≡ due_by w a m
due_same w a (ExactCount n) = refl
due_same w a All = refl

-- whether they are the row's own
pub part_is : (w : SearchInput) (a : Asked) (claim : Key) (rs : List DeviceResult) (old new : List DueFields) (part : List DueFields) (row : Row) (broken sit : Bool) → true ≡ list_all (is_for a) rs → AreDuesMore w old new (map (due_for claim a) rs)
    → part ≡ drop (length old) new → row ≡ row_for w a → broken ≡ w.broken → sit ≡ sits_row row broken (positions_of part) row.mode → sit ≡ is_part w a rs
part_is w a claim rs old new part row broken sit all more here is same e =
    e
    ∙ ap (λ (l : List DueFields). sits_row row broken (positions_of l) row.mode) here
    ∙ ap (λ (r : Row). sits_row r broken (positions_of (drop (length old) new)) r.mode) is
    ∙ ap (λ (t : Bool). sits_row (row_for w a) t (positions_of (drop (length old) new)) a.ask.mode) same
    ∙ ap (λ (l : List ℕ). sits_row (row_for w a) w.broken l a.ask.mode) (put_at w claim a rs old new more)
    ∙ sits_same w a (map (place_of w) rs) a.ask.mode
    ∙ ap (λ (t : Bool). t && sits w a a.ask.mode (map (place_of w) rs)) all

-- ---- the results of rows, one after another

fewer_eq : (n m : ℕ) → n < m → (n == m) ≡ false
fewer_eq n m h = ne_eqb n m (λ e. absurd (omega (arith, e, h)))

fewer_pointwise : (xs ys : List ℕ) → length xs < length ys → pointwise nat_eq xs ys ≡ false
fewer_pointwise [] [] h = absurd (omega arith)
fewer_pointwise [] (y ∷ ys) h = refl
fewer_pointwise (x ∷ xs) [] h = refl
fewer_pointwise (x ∷ xs) (y ∷ ys) h = by (nat_eq x y) (fewer_pointwise xs ys (omega arith))
  where
    by : (b : Bool) → pointwise nat_eq xs ys ≡ false → (b && pointwise nat_eq xs ys) ≡ false
    by true e = e
    by false e = refl

and_false : (a : Bool) → (a && false) ≡ false
and_false true = refl
and_false false = refl

fewer_sits : (w : SearchInput) (a : Asked) (xs : List ℕ) (m : AllocationMode) → length xs < due_by w a m → sits w a m xs ≡ false
fewer_sits w a xs (ExactCount n) h = ap (λ (t : Bool). t && rises_from 0 xs) (fewer_eq (length xs) n h)
fewer_sits w a xs All h =
    ap (λ (t : Bool). not w.broken && (not (is_none xs) && t)) (fewer_pointwise xs (matching w a.ask) h)
    ∙ ap (λ (t : Bool). not w.broken && t) (and_false (not (is_none xs)))
    ∙ and_false (not w.broken)

taken_few : {X : Type 0} (n : ℕ) (xs : List X) → length (take n xs) ≤ length xs
taken_few n xs = omega (arith, length-take n xs)

-- too few are left
pub part_short : (w : SearchInput) (a : Asked) (rs : List DeviceResult) → length rs < due w a → is_part w a (take (due w a) rs) ≡ false
part_short w a rs h =
    let few : length (take (due w a) rs) ≤ length rs = taken_few (due w a) rs in
    let same : length (map (place_of w) (take (due w a) rs)) ≡ length (take (due w a) rs) = length-map (take (due w a) rs) (place_of w) in
    ap (λ (t : Bool). list_all (is_for a) (take (due w a) rs) && t) (fewer_sits w a (map (place_of w) (take (due w a) rs)) a.ask.mode (omega arith))
    ∙ and_false (list_all (is_for a) (take (due w a) rs))

-- the results of some rows that were put, and those left, from this index on
pub record PartsSoFar (w : SearchInput) (claim : Key) (devices : List Offered) (old now : List DueFields) (all left : List Asked) (rs : List DeviceResult) (at : ℕ) : Type 0 where
  pub within : at ≤ length rs
  pub before : List Due
  pub more : AreDuesMore w old now before
  pub shaped : are_parts w left (drop at rs) ≡ are_parts w all rs
  pub whole : before ++ dues_for w claim left (drop at rs) ≡ dues_for w claim all rs
  pub on_node : find (is_off devices) (drop at rs) ≡ None

pub parts_none : (w : SearchInput) (claim : Key) (devices : List Offered) (old : List DueFields) (all : List Asked) (rs : List DeviceResult) → find (is_off devices) rs ≡ None → PartsSoFar w claim devices old old all all rs 0
parts_none w claim devices old all rs h = record { within = omega arith; before = []; more = dues_none w old; shaped = refl; whole = refl; on_node = h }

-- a row's aren't its own
pub parts_stop : (w : SearchInput) (claim : Key) (devices : List Offered) (old now : List DueFields) (all : List Asked) (a : Asked) (left : List Asked) (rs : List DeviceResult) (at : ℕ) → false ≡ is_part w a (take (due w a) (drop at rs))
    → PartsSoFar w claim devices old now all (a ∷ left) rs at → false ≡ are_parts w all rs
parts_stop w claim devices old now all a left rs at e s = ap (λ (t : Bool). t && are_parts w left (drop (due w a) (drop at rs))) e ∙ s.shaped

pub parts_next : (w : SearchInput) (claim : Key) (devices : List Offered) (old now new : List DueFields) (all : List Asked) (a : Asked) (left : List Asked) (rs : List DeviceResult) (at next : ℕ) → next ≡ at + due w a → next ≤ length rs
    → true ≡ is_part w a (take (due w a) (drop at rs)) → AreDuesMore w now new (map (due_for claim a) (take (due w a) (drop at rs)))
    → PartsSoFar w claim devices old now all (a ∷ left) rs at → PartsSoFar w claim devices old new all left rs next
parts_next w claim devices old now new all a left rs at next is within e m s =
    let on : drop (due w a) (drop at rs) ≡ drop next rs = drop-drop (due w a) at rs ∙ ap (λ (k : ℕ). drop k rs) (sym is) in
    record {
      within = within;
      before = s.before ++ map (due_for claim a) (take (due w a) (drop at rs));
      more = dues_joined w old now new s.before (map (due_for claim a) (take (due w a) (drop at rs))) s.more m;
      shaped = ap (are_parts w left) (sym on) ∙ ap (λ (t : Bool). t && are_parts w left (drop (due w a) (drop at rs))) e ∙ s.shaped;
      whole =
          ap (λ (l : List DeviceResult). (s.before ++ map (due_for claim a) (take (due w a) (drop at rs))) ++ dues_for w claim left l) (sym on)
          ∙ append_assoc s.before (map (due_for claim a) (take (due w a) (drop at rs))) (dues_for w claim left (drop (due w a) (drop at rs)))
          ∙ s.whole;
      on_node = ap (find (is_off devices)) (sym on) ∙ none_left (is_off devices) (due w a) (drop at rs) s.on_node;
    }

nil_by : {X : Type 0} (xs : List X) → is_nil xs ≡ (0 == length xs)
nil_by [] = refl
nil_by (x ∷ xs) = sym (ne_eqb 0 (suc (length xs)) (λ e. absurd (omega (arith, e))))

nil_at : {X : Type 0} (n : ℕ) (xs : List X) → n ≤ length xs → is_nil (drop n xs) ≡ (n == length xs)
nil_at zero xs h = nil_by xs
nil_at (suc n) [] h = absurd (omega arith)
nil_at (suc n) (x ∷ xs) h = nil_at n xs (omega arith) ∙ sym (eqb-suc-suc n (length xs))

-- none is left over
pub parts_all : (w : SearchInput) (claim : Key) (devices : List Offered) (old now : List DueFields) (all : List Asked) (rs : List DeviceResult) (at : ℕ) → PartsSoFar w claim devices old now all [] rs at → (at == length rs) ≡ are_parts w all rs
parts_all w claim devices old now all rs at s = sym (nil_at at rs s.within) ∙ s.shaped

pub parts_put : (w : SearchInput) (claim : Key) (devices : List Offered) (old now : List DueFields) (all : List Asked) (rs : List DeviceResult) (at : ℕ) → PartsSoFar w claim devices old now all [] rs at → AreDuesMore w old now (dues_for w claim all rs)
parts_put w claim devices old now all rs at s = rw (← s.whole, append-nil s.before) s.more

-- ---- by the indexes of rows

abbrev pub PartsUntil : SearchInput → Key → List Offered → List DueFields → List DueFields → List ℕ → List DeviceResult → ℕ → ℕ → Type 0
PartsUntil w claim devices old now picked rs i at = PartsSoFar w claim devices old now (asked_rows w picked) (asked_rows w (drop i picked)) rs at

parts_opened : (w : SearchInput) (claim : Key) (devices : List Offered) (old now : List DueFields) (picked : List ℕ) (rs : List DeviceResult) (i at r : ℕ) → i < length picked → r ≡ get_or picked i r → PartsUntil w claim devices old now picked rs i at
    → PartsSoFar w claim devices old now (asked_rows w picked) (asked_at w r ∷ asked_rows w (drop (i + 1) picked)) rs at
parts_opened w claim devices old now picked rs i at r h is s = subst (λ (l : List ℕ). PartsSoFar w claim devices old now (asked_rows w picked) (asked_rows w l) rs at) (drop_next picked i r h is) s

count_is : (w : SearchInput) (r count : ℕ) (row : Row) → count ≡ rows.due_of row → row ≡ row_for w (asked_at w r) → count ≡ due w (asked_at w r)
count_is w r count row e f = e ∙ ap (λ (x : Row). rows.due_of x) f ∙ due_same w (asked_at w r) (asked_at w r).ask.mode

left_is : (at : ℕ) (rs : List DeviceResult) → take (length rs - at) (drop at rs) ≡ drop at rs
left_is at rs = slice_rest rs rs at at refl refl

pub until_few : (w : SearchInput) (claim : Key) (devices : List Offered) (old now : List DueFields) (picked : List ℕ) (rs : List DeviceResult) (i at r count : ℕ) (row : Row) → i < length picked → r ≡ get_or picked i r → count ≡ rows.due_of row → row ≡ row_for w (asked_at w r)
    → length rs - at < count → PartsUntil w claim devices old now picked rs i at → false ≡ are_parts w (asked_rows w picked) rs
until_few w claim devices old now picked rs i at r count row h is e f few s =
    let count_due : count ≡ due w (asked_at w r) = count_is w r count row e f in
    let left = length-drop at rs in
    parts_stop w claim devices old now (asked_rows w picked) (asked_at w r) (asked_rows w (drop (i + 1) picked)) rs at (sym (part_short w (asked_at w r) (drop at rs) (omega (arith, left, few, count_due))))
    (parts_opened w claim devices old now picked rs i at r h is s)

pub until_stop : (w : SearchInput) (claim : Key) (devices : List Offered) (old now : List DueFields) (picked : List ℕ) (rs : List DeviceResult) (i at r count : ℕ) (row : Row) → i < length picked → r ≡ get_or picked i r → count ≡ rows.due_of row → row ≡ row_for w (asked_at w r)
    → false ≡ is_part w (asked_at w r) (take count (take (length rs - at) (drop at rs))) → PartsUntil w claim devices old now picked rs i at → false ≡ are_parts w (asked_rows w picked) rs
until_stop w claim devices old now picked rs i at r count row h is e f other s =
    parts_stop w claim devices old now (asked_rows w picked) (asked_at w r) (asked_rows w (drop (i + 1) picked)) rs at
    (other ∙ ap (λ (l : List DeviceResult). is_part w (asked_at w r) (take count l)) (left_is at rs) ∙ ap (λ (n : ℕ). is_part w (asked_at w r) (take n (drop at rs))) (count_is w r count row e f))
    (parts_opened w claim devices old now picked rs i at r h is s)

pub until_parts : (w : SearchInput) (claim : Key) (devices : List Offered) (old now new : List DueFields) (picked : List ℕ) (rs : List DeviceResult) (i at r count : ℕ) (row : Row) → i < length picked → r ≡ get_or picked i r → count ≡ rows.due_of row
    → row ≡ row_for w (asked_at w r) → count ≤ length rs - at → true ≡ is_part w (asked_at w r) (take count (take (length rs - at) (drop at rs)))
    → AreDuesMore w now new (map (due_for claim (asked_at w r)) (take count (take (length rs - at) (drop at rs)))) → PartsUntil w claim devices old now picked rs i at → PartsUntil w claim devices old new picked rs (i + 1) (at + count)
until_parts w claim devices old now new picked rs i at r count row h is e f many own more s =
    let same : take count (take (length rs - at) (drop at rs)) ≡ take (due w (asked_at w r)) (drop at rs) = ap (take count) (left_is at rs) ∙ ap (λ (n : ℕ). take n (drop at rs)) (count_is w r count row e f) in
    let within : at ≤ length rs = s.within in
    parts_next w claim devices old now new (asked_rows w picked) (asked_at w r) (asked_rows w (drop (i + 1) picked)) rs at (at + count) (ap (λ (n : ℕ). at + n) (count_is w r count row e f)) (omega (arith, within, many))
    (own ∙ ap (is_part w (asked_at w r)) same) (subst (λ (l : List DeviceResult). AreDuesMore w now new (map (due_for claim (asked_at w r)) l)) same more) (parts_opened w claim devices old now picked rs i at r h is s)

parts_ended : (w : SearchInput) (claim : Key) (devices : List Offered) (old now : List DueFields) (picked : List ℕ) (rs : List DeviceResult) (i at : ℕ) → length picked ≤ i → PartsUntil w claim devices old now picked rs i at → PartsSoFar w claim devices old now (asked_rows w picked) [] rs at
parts_ended w claim devices old now picked rs i at h s = subst (λ (l : List ℕ). PartsSoFar w claim devices old now (asked_rows w picked) (asked_rows w l) rs at) (drop_of_length-le picked h) s

pub until_all : (w : SearchInput) (claim : Key) (devices : List Offered) (old now : List DueFields) (picked : List ℕ) (rs : List DeviceResult) (i at : ℕ) → length picked ≤ i → PartsUntil w claim devices old now picked rs i at → (at == length rs) ≡ are_parts w (asked_rows w picked) rs
until_all w claim devices old now picked rs i at h s = parts_all w claim devices old now (asked_rows w picked) rs at (parts_ended w claim devices old now picked rs i at h s)

pub until_put : (w : SearchInput) (claim : Key) (devices : List Offered) (old now : List DueFields) (picked : List ℕ) (rs : List DeviceResult) (i at : ℕ) → length picked ≤ i → PartsUntil w claim devices old now picked rs i at → AreDuesMore w old now (dues_for w claim (asked_rows w picked) rs)
until_put w claim devices old now picked rs i at h s = parts_put w claim devices old now (asked_rows w picked) rs at (parts_ended w claim devices old now picked rs i at h s)

pub left_on_node : (devices : List Offered) (rs : List DeviceResult) (at count : ℕ) → find (is_off devices) (drop at rs) ≡ None → find (is_off devices) (take count (take (length rs - at) (drop at rs))) ≡ None
left_on_node devices rs at count h = none_taken (is_off devices) count (take (length rs - at) (drop at rs)) (none_taken (is_off devices) (length rs - at) (drop at rs) h)

-- ---- whether a grant is of the shape

pub not_key : (w : SearchInput) (i : ℕ) (c : ResourceClaim) (g : Grant) → key_eq g.claim c.key ≡ false → false ≡ (key_eq g.claim c.key && is_shaped w i c g.results)
not_key w i c g e = sym (ap (λ (t : Bool). t && is_shaped w i c g.results) e)

shape_parts : (w : SearchInput) (i : ℕ) (c : ResourceClaim) (g : Grant) (key picks parts apart few : Bool) → key_eq g.claim c.key ≡ key → picks_each g.results (wishes_in i c.key c.requests) ≡ picks → are_parts w (asked_in i c g.results) g.results ≡ parts
    → differ g.results ≡ apart → nat_le (length g.results) most_results ≡ few → (key_eq g.claim c.key && is_shaped w i c g.results) ≡ (key && (picks && (parts && (apart && few))))
unfolding is_shaped
shape_parts w i c g key picks parts apart few a b d e f =
    ap (λ (t : Bool). t && is_shaped w i c g.results) a
    ∙ ap (λ (t : Bool). key && (t && (are_parts w (asked_in i c g.results) g.results && (differ g.results && nat_le (length g.results) most_results)))) b
    ∙ ap (λ (t : Bool). key && (picks && (t && (differ g.results && nat_le (length g.results) most_results)))) d
    ∙ ap (λ (t : Bool). key && (picks && (parts && (t && nat_le (length g.results) most_results)))) e
    ∙ ap (λ (t : Bool). key && (picks && (parts && (apart && t)))) f

last_false : (a b c d : Bool) → (a && (b && (c && (d && false)))) ≡ false
last_false a b c d = ap (λ (t : Bool). a && (b && (c && t))) (and_false d) ∙ ap (λ (t : Bool). a && (b && t)) (and_false c) ∙ ap (λ (t : Bool). a && t) (and_false b) ∙ and_false a

later_false : (a b c : Bool) → (a && (b && (c && false))) ≡ false
later_false a b c = ap (λ (t : Bool). a && (b && t)) (and_false c) ∙ ap (λ (t : Bool). a && t) (and_false b) ∙ and_false a

pub not_few : (w : SearchInput) (i : ℕ) (c : ResourceClaim) (g : Grant) → 32 < length g.results → false ≡ (key_eq g.claim c.key && is_shaped w i c g.results)
not_few w i c g h =
    sym (shape_parts w i c g (key_eq g.claim c.key) (picks_each g.results (wishes_in i c.key c.requests)) (are_parts w (asked_in i c g.results) g.results) (differ g.results) false refl refl refl refl (lt-leb (length g.results) most_results h)
    ∙ last_false (key_eq g.claim c.key) (picks_each g.results (wishes_in i c.key c.requests)) (are_parts w (asked_in i c g.results) g.results) (differ g.results))

pub not_apart : (w : SearchInput) (i : ℕ) (c : ResourceClaim) (g : Grant) → differ g.results ≡ false → false ≡ (key_eq g.claim c.key && is_shaped w i c g.results)
not_apart w i c g h =
    sym (shape_parts w i c g (key_eq g.claim c.key) (picks_each g.results (wishes_in i c.key c.requests)) (are_parts w (asked_in i c g.results) g.results) false (nat_le (length g.results) most_results) refl refl refl h refl
    ∙ later_false (key_eq g.claim c.key) (picks_each g.results (wishes_in i c.key c.requests)) (are_parts w (asked_in i c g.results) g.results))

pub not_picked : (w : SearchInput) (i : ℕ) (c : ResourceClaim) (g : Grant) → false ≡ picks_each g.results (wishes_in i c.key c.requests) → false ≡ (key_eq g.claim c.key && is_shaped w i c g.results)
not_picked w i c g h =
    sym (shape_parts w i c g (key_eq g.claim c.key) false (are_parts w (asked_in i c g.results) g.results) (differ g.results) (nat_le (length g.results) most_results) refl (sym h) refl refl refl
    ∙ and_false (key_eq g.claim c.key))

true_last : (a : Bool) → (a && (true && true)) ≡ a
true_last true = refl
true_last false = refl

pub is_of_shape : (w : SearchInput) (i : ℕ) (c : ResourceClaim) (g : Grant) (asks : List Asked) (rs : List DeviceResult) (b : Bool) → b ≡ are_parts w asks rs → rs ≡ g.results → asks ≡ asked_each g.results (wishes_in i c.key c.requests)
    → key_eq g.claim c.key ≡ true → true ≡ picks_each g.results (wishes_in i c.key c.requests) → differ g.results ≡ true → length g.results ≤ 32 → b ≡ (key_eq g.claim c.key && is_shaped w i c g.results)
is_of_shape w i c g asks rs b parts same is key picks apart few =
    sym (shape_parts w i c g true true b true true key (sym picks) (sym (parts ∙ ap (are_parts w asks) same ∙ ap (λ (l : List Asked). are_parts w l g.results) is)) apart (le-leb (length g.results) most_results few) ∙ true_last b)
