-- What records make of a table, and that a compacted table makes itself.
use Rattle.std.proofs.Common.{◌≡◌, ℕ, zero, suc, ◌+◌, ◌<◌, ◌≤◌, Bool, true, false, ◌&&◌, List, [], ◌∷◌, ◌++◌, length, Option, Some, None, refl, sym, ◌∙◌, ap, subst, arith, append_assoc, append-nil, length-append, get_or, set, take, drop, nat_eq, if◌then◌else◌}
use Rattle.std.proofs.lemmas.Bool.Decides.{nat_tests}
use Rattle.std.proofs.lemmas.List.{drop_at, get_or_at, set_at, take_at}
use Rattle.std.specs.Cmp.Lexicographic.{pointwise}
use Rattle.std.specs.List.{AllByRecursion}
use Rattle.ckpt_journal.specs.Format.{Fits, block, blocks, body, is_long_claim}
use Rattle.ckpt_journal.specs.Table.{IsTable, are_distinct, compact, has_uid, is_of, leave_row, place_from, records_of, remove_row, row, row_after, set_row, table, table_from}
use Rattle.ckpt_journal.specs.declared.record.Claim.{Claim}
use Rattle.ckpt_journal.specs.declared.record.Row.{Row}
use Rattle.ckpt_journal.specs.declared.record.RowState.{RowState}
use Rattle.ckpt_journal.specs.declared.record.RowState.TheVariants as state
use Rattle.ckpt_journal.specs.declared.record.Record.{Record}
use Rattle.ckpt_journal.specs.declared.record.Record.TheVariants.{Begun, Prepared, Leaving, Gone}
use Rattle.ckpt_journal.proofs.Fits.{claim_short, length-block}

-- ---- uids

abbrev same : List ℕ → List ℕ → Bool
same a b = pointwise nat_eq a b

nat_same : (x y : ℕ) → nat_eq x y ≡ true → x ≡ y
nat_same x y is = grind (arith, nat_tests)

nat_refl : (x : ℕ) → nat_eq x x ≡ true
nat_refl x = grind (arith, nat_tests)

nat_sym : (x y : ℕ) → nat_eq x y ≡ nat_eq y x
nat_sym x y = grind (arith, nat_tests)

both_true : (a b : Bool) → (a && b) ≡ true → (a ≡ true) × (b ≡ true)
both_true true b is = (refl, is)
both_true false b is = absurd cc

uid_same : (a b : List ℕ) → same a b ≡ true → a ≡ b
uid_same [] [] is = refl
uid_same [] (y ∷ b) is = absurd cc
uid_same (x ∷ a) [] is = absurd cc
uid_same (x ∷ a) (y ∷ b) is =
    let two = both_true (nat_eq x y) (same a b) is in
    λ i. nat_same x y two.0 i ∷ uid_same a b two.1 i

uid_refl : (a : List ℕ) → same a a ≡ true
uid_refl [] = refl
uid_refl (x ∷ a) = λ i. nat_refl x i && uid_refl a i

uid_sym : (a b : List ℕ) → same a b ≡ same b a
uid_sym [] [] = refl
uid_sym [] (y ∷ b) = refl
uid_sym (x ∷ a) [] = refl
uid_sym (x ∷ a) (y ∷ b) = λ i. nat_sym x y i && uid_sym a b i

-- ---- rows of other uids

absent_here : (b later : Bool) → (if b then true else later) ≡ false → (b ≡ false) × (later ≡ false)
absent_here true later is = absurd cc
absent_here false later is = (refl, is)

absent : (b later : Bool) → b ≡ false → later ≡ false → (if b then true else later) ≡ false
absent b later p q = (λ i. if p i then true else later) ∙ q

pub set_new : (new : Row) (rows : List Row) → has_uid new.claim.uid rows ≡ false → set_row new rows ≡ rows ++ new ∷ []
set_new new [] is = refl
set_new new (r ∷ rows) is =
    let two = absent_here (is_of new.claim.uid r) (has_uid new.claim.uid rows) is in
    ap (λ (b : Bool). if b then new ∷ rows else r ∷ set_row new rows) two.0 ∙ ap (λ (l : List Row). r ∷ l) (set_new new rows two.1)

leave_last : (uid : List ℕ) (rows : List Row) (x : Row) → has_uid uid rows ≡ false → is_of uid x ≡ true → leave_row uid (rows ++ x ∷ []) ≡ rows ++ row state.Leaving x.claim ∷ []
leave_last uid [] x is this = ap (λ (b : Bool). if b then row state.Leaving x.claim ∷ [] else x ∷ []) this
leave_last uid (r ∷ rows) x is this =
    let two = absent_here (is_of uid r) (has_uid uid rows) is in
    ap (λ (b : Bool). if b then row state.Leaving r.claim ∷ (rows ++ x ∷ []) else r ∷ leave_row uid (rows ++ x ∷ [])) two.0 ∙ ap (λ (l : List Row). r ∷ l) (leave_last uid rows x two.1 this)

pub leave_none : (uid : List ℕ) (rows : List Row) → has_uid uid rows ≡ false → leave_row uid rows ≡ rows
leave_none uid [] is = refl
leave_none uid (r ∷ rows) is =
    let two = absent_here (is_of uid r) (has_uid uid rows) is in
    ap (λ (b : Bool). if b then row state.Leaving r.claim ∷ rows else r ∷ leave_row uid rows) two.0 ∙ ap (λ (l : List Row). r ∷ l) (leave_none uid rows two.1)

pub remove_none : (uid : List ℕ) (rows : List Row) → has_uid uid rows ≡ false → remove_row uid rows ≡ rows
remove_none uid [] is = refl
remove_none uid (r ∷ rows) is =
    let two = absent_here (is_of uid r) (has_uid uid rows) is in
    ap (λ (b : Bool). if b then rows else r ∷ remove_row uid rows) two.0 ∙ ap (λ (l : List Row). r ∷ l) (remove_none uid rows two.1)

-- ---- a compacted table makes itself

-- no uid has two rows, row by row
abbrev Distinct : List Row → Type 0
Distinct [] = Unit {0}
Distinct (r ∷ rows) = (has_uid r.claim.uid rows ≡ false) × Distinct rows

distinct_from : (rows : List Row) → are_distinct rows ≡ true → Distinct rows
distinct_from [] is = tt
distinct_from (r ∷ rows) is = let two = go (has_uid r.claim.uid rows) refl is in (two.0, distinct_from rows two.1)
  where
    go : (b : Bool) → has_uid r.claim.uid rows ≡ b → (if b then false else are_distinct rows) ≡ true → (has_uid r.claim.uid rows ≡ false) × (are_distinct rows ≡ true)
    go true here e = absurd cc
    go false here e = (here, e)

distinct_is : (rows : List Row) → Distinct rows → are_distinct rows ≡ true
distinct_is [] d = refl
distinct_is (r ∷ rows) d = ap (λ (b : Bool). if b then false else are_distinct rows) d.0 ∙ distinct_is rows d.1

last_absent : (uid : List ℕ) (rows : List Row) (x : Row) → has_uid uid rows ≡ false → is_of uid x ≡ false → has_uid uid (rows ++ x ∷ []) ≡ false
last_absent uid [] x p q = absent (is_of uid x) false q refl
last_absent uid (r ∷ rows) x p q =
    let two = absent_here (is_of uid r) (has_uid uid rows) p in
    absent (is_of uid r) (has_uid uid (rows ++ x ∷ [])) two.0 (last_absent uid rows x two.1 q)

-- no row after these has the uid of one of them
abbrev Apart : List Row → List Row → Type 0
Apart done [] = Unit {0}
Apart done (r ∷ rows) = (has_uid r.claim.uid done ≡ false) × Apart done rows

apart_more : (x : Row) (done rows : List Row) → Apart done rows → has_uid x.claim.uid rows ≡ false → Apart (done ++ x ∷ []) rows
apart_more x done [] all fresh = tt
apart_more x done (r ∷ rows) all fresh =
    let two = absent_here (is_of x.claim.uid r) (has_uid x.claim.uid rows) fresh in
    (last_absent r.claim.uid done x all.0 (uid_sym x.claim.uid r.claim.uid ∙ two.0), apart_more x done rows all.1 two.1)

one_row : (s : RowState) (c : Claim) (done : List Row) (rest : List Record) → has_uid c.uid done ≡ false → table_from done (records_of s c ++ rest) ≡ table_from (done ++ row s c ∷ []) rest
one_row state.Begun c done rest fresh = ap (λ (l : List Row). table_from l rest) (set_new (row state.Begun c) done fresh)
one_row state.Prepared c done rest fresh = ap (λ (l : List Row). table_from l rest) (set_new (row state.Prepared c) done fresh)
one_row state.Leaving c done rest fresh =
    ap (λ (l : List Row). table_from (leave_row c.uid l) rest) (set_new (row state.Prepared c) done fresh)
    ∙ ap (λ (l : List Row). table_from l rest) (leave_last c.uid done (row state.Prepared c) fresh (uid_refl c.uid))

again_from : (done rows : List Row) → Apart done rows → Distinct rows → table_from done (compact rows) ≡ done ++ rows
again_from done [] apart distinct = sym (append-nil done)
again_from done (r ∷ rows) apart distinct =
    one_row r.state r.claim done (compact rows) apart.0
    ∙ again_from (done ++ r ∷ []) rows (apart_more r done rows apart.1 distinct.0) distinct.1
    ∙ append_assoc done (r ∷ []) rows

apart_none : (rows : List Row) → Apart [] rows
apart_none [] = tt
apart_none (r ∷ rows) = (refl, apart_none rows)

pub compact_again : (rows : List Row) → are_distinct rows ≡ true → table (compact rows) ≡ rows
compact_again rows distinct = again_from [] rows (apart_none rows) (distinct_from rows distinct)

-- ---- each record keeps the rows distinct

set_absent : (uid : List ℕ) (new : Row) (rows : List Row) → has_uid uid rows ≡ false → is_of uid new ≡ false → has_uid uid (set_row new rows) ≡ false
set_absent uid new [] p q = absent (is_of uid new) false q refl
set_absent uid new (r ∷ rows) p q = go (is_of new.claim.uid r) (set_absent uid new rows (absent_here (is_of uid r) (has_uid uid rows) p).1 q)
  where
    go : (b : Bool) → has_uid uid (set_row new rows) ≡ false → has_uid uid (if b then new ∷ rows else r ∷ set_row new rows) ≡ false
    go true later = absent (is_of uid new) (has_uid uid rows) q (absent_here (is_of uid r) (has_uid uid rows) p).1
    go false later = absent (is_of uid r) (has_uid uid (set_row new rows)) (absent_here (is_of uid r) (has_uid uid rows) p).0 later

distinct_set : (new : Row) (rows : List Row) → Distinct rows → Distinct (set_row new rows)
distinct_set new [] d = (refl, tt)
distinct_set new (r ∷ rows) d = go (is_of new.claim.uid r) refl (distinct_set new rows d.1)
  where
    go : (b : Bool) → is_of new.claim.uid r ≡ b → Distinct (set_row new rows) → Distinct (if b then new ∷ rows else r ∷ set_row new rows)
    go true is later = (ap (λ (u : List ℕ). has_uid u rows) (sym (uid_same r.claim.uid new.claim.uid is)) ∙ d.0, d.1)
    go false is later = (set_absent r.claim.uid new rows d.0 (uid_sym new.claim.uid r.claim.uid ∙ is), later)

leave_absent : (uid gone : List ℕ) (rows : List Row) → has_uid uid (leave_row gone rows) ≡ has_uid uid rows
leave_absent uid gone [] = refl
leave_absent uid gone (r ∷ rows) = go (is_of gone r) (leave_absent uid gone rows)
  where
    go : (b : Bool) → has_uid uid (leave_row gone rows) ≡ has_uid uid rows → has_uid uid (if b then row state.Leaving r.claim ∷ rows else r ∷ leave_row gone rows) ≡ (if is_of uid r then true else has_uid uid rows)
    go true later = refl
    go false later = ap (λ (x : Bool). if is_of uid r then true else x) later

distinct_leave : (uid : List ℕ) (rows : List Row) → Distinct rows → Distinct (leave_row uid rows)
distinct_leave uid [] d = tt
distinct_leave uid (r ∷ rows) d = go (is_of uid r) (distinct_leave uid rows d.1)
  where
    go : (b : Bool) → Distinct (leave_row uid rows) → Distinct (if b then row state.Leaving r.claim ∷ rows else r ∷ leave_row uid rows)
    go true later = d
    go false later = (leave_absent r.claim.uid uid rows ∙ d.0, later)

remove_absent : (uid gone : List ℕ) (rows : List Row) → has_uid uid rows ≡ false → has_uid uid (remove_row gone rows) ≡ false
remove_absent uid gone [] is = refl
remove_absent uid gone (r ∷ rows) is = go (is_of gone r) (remove_absent uid gone rows (absent_here (is_of uid r) (has_uid uid rows) is).1)
  where
    go : (b : Bool) → has_uid uid (remove_row gone rows) ≡ false → has_uid uid (if b then rows else r ∷ remove_row gone rows) ≡ false
    go true later = (absent_here (is_of uid r) (has_uid uid rows) is).1
    go false later = absent (is_of uid r) (has_uid uid (remove_row gone rows)) (absent_here (is_of uid r) (has_uid uid rows) is).0 later

distinct_remove : (uid : List ℕ) (rows : List Row) → Distinct rows → Distinct (remove_row uid rows)
distinct_remove uid [] d = tt
distinct_remove uid (r ∷ rows) d = go (is_of uid r) (distinct_remove uid rows d.1)
  where
    go : (b : Bool) → Distinct (remove_row uid rows) → Distinct (if b then rows else r ∷ remove_row uid rows)
    go true later = d.1
    go false later = (remove_absent r.claim.uid uid rows d.0, later)

distinct_after : (rows : List Row) (r : Record) → Distinct rows → Distinct (row_after rows r)
distinct_after rows (Begun c) d = distinct_set (row state.Begun c) rows d
distinct_after rows (Prepared c) d = distinct_set (row state.Prepared c) rows d
distinct_after rows (Leaving uid) d = distinct_leave uid rows d
distinct_after rows (Gone uid) d = distinct_remove uid rows d

-- ---- and spelled

both : {X : Type 0} (P : X → Type 0) (xs ys : List X) → AllByRecursion P xs → AllByRecursion P ys → AllByRecursion P (xs ++ ys)
both P [] ys p q = q
both P (x ∷ xs) ys p q = (p.0, both P xs ys p.1 q)

pub first_of_both : {X : Type 0} (P : X → Type 0) (xs ys : List X) → AllByRecursion P (xs ++ ys) → AllByRecursion P xs × AllByRecursion P ys
first_of_both P [] ys p = (tt, p)
first_of_both P (x ∷ xs) ys p = let more = first_of_both P xs ys p.1 in ((p.0, more.0), more.1)

leaving_fits : (s : RowState) (c : Claim) → AllByRecursion Fits (records_of s c) → AllByRecursion Fits (records_of state.Leaving c)
leaving_fits state.Begun c f = (f.0, (((f.0.0.0, tt), omega (arith, f.0.0.0.0)), tt))
leaving_fits state.Prepared c f = (f.0, (((f.0.0.0, tt), omega (arith, f.0.0.0.0)), tt))
leaving_fits state.Leaving c f = f

fits_set : (s : RowState) (c : Claim) (rows : List Row) → AllByRecursion Fits (records_of s c) → AllByRecursion Fits (compact rows) → AllByRecursion Fits (compact (set_row (row s c) rows))
fits_set s c [] this f = both Fits (records_of s c) [] this tt
fits_set s c (r ∷ rows) this f =
    let parts = first_of_both Fits (records_of r.state r.claim) (compact rows) f in
    go (is_of c.uid r) parts.0 parts.1 (fits_set s c rows this parts.1)
  where
    go : (b : Bool) → AllByRecursion Fits (records_of r.state r.claim) → AllByRecursion Fits (compact rows) → AllByRecursion Fits (compact (set_row (row s c) rows)) → AllByRecursion Fits (compact (if b then row s c ∷ rows else r ∷ set_row (row s c) rows))
    go true here rest later = both Fits (records_of s c) (compact rows) this rest
    go false here rest later = both Fits (records_of r.state r.claim) (compact (set_row (row s c) rows)) here later

fits_leave : (uid : List ℕ) (rows : List Row) → AllByRecursion Fits (compact rows) → AllByRecursion Fits (compact (leave_row uid rows))
fits_leave uid [] f = tt
fits_leave uid (r ∷ rows) f =
    let parts = first_of_both Fits (records_of r.state r.claim) (compact rows) f in
    go (is_of uid r) parts.0 parts.1 (fits_leave uid rows parts.1)
  where
    go : (b : Bool) → AllByRecursion Fits (records_of r.state r.claim) → AllByRecursion Fits (compact rows) → AllByRecursion Fits (compact (leave_row uid rows)) → AllByRecursion Fits (compact (if b then row state.Leaving r.claim ∷ rows else r ∷ leave_row uid rows))
    go true here rest later = both Fits (records_of state.Leaving r.claim) (compact rows) (leaving_fits r.state r.claim here) rest
    go false here rest later = both Fits (records_of r.state r.claim) (compact (leave_row uid rows)) here later

fits_remove : (uid : List ℕ) (rows : List Row) → AllByRecursion Fits (compact rows) → AllByRecursion Fits (compact (remove_row uid rows))
fits_remove uid [] f = tt
fits_remove uid (r ∷ rows) f =
    let parts = first_of_both Fits (records_of r.state r.claim) (compact rows) f in
    go (is_of uid r) parts.0 parts.1 (fits_remove uid rows parts.1)
  where
    go : (b : Bool) → AllByRecursion Fits (records_of r.state r.claim) → AllByRecursion Fits (compact rows) → AllByRecursion Fits (compact (remove_row uid rows)) → AllByRecursion Fits (compact (if b then rows else r ∷ remove_row uid rows))
    go true here rest later = rest
    go false here rest later = both Fits (records_of r.state r.claim) (compact (remove_row uid rows)) here later

fits_after : (rows : List Row) (r : Record) → Fits r → AllByRecursion Fits (compact rows) → AllByRecursion Fits (compact (row_after rows r))
fits_after rows (Begun c) this f = fits_set state.Begun c rows (this, tt) f
fits_after rows (Prepared c) this f = fits_set state.Prepared c rows (this, tt) f
fits_after rows (Leaving uid) this f = fits_leave uid rows f
fits_after rows (Gone uid) this f = fits_remove uid rows f

pub table_after : (rows : List Row) (r : Record) → Fits r → IsTable rows → IsTable (row_after rows r)
table_after rows r this t = (distinct_is (row_after rows r) (distinct_after rows r (distinct_from rows t.0)), fits_after rows r this t.1)

-- ---- how long it is

pub blocks-append : (xs ys : List Record) → blocks (xs ++ ys) ≡ blocks xs ++ blocks ys
blocks-append [] ys = refl
blocks-append (x ∷ xs) ys = ap (λ (l : List ℕ). 90 ∷ block x ++ l) (blocks-append xs ys) ∙ ap (λ (l : List ℕ). 90 ∷ l) (sym (append_assoc (block x) (blocks xs) (blocks ys)))

abbrev size : List Record → ℕ
size rs = length (blocks rs)

size-append : (xs ys : List Record) → size (xs ++ ys) ≡ size xs + size ys
size-append xs ys = ap length (blocks-append xs ys) ∙ length-append (blocks xs) (blocks ys)

size-one : (r : Record) → size (r ∷ []) ≡ 1 + length (block r)
size-one r = omega (arith, length-append (block r) [])

size-two : (r s : Record) → size (r ∷ s ∷ []) ≡ 2 + length (block r) + length (block s)
size-two r s = omega (arith, length-append (block r) (blocks (s ∷ [])), size-one s)

same_block : (c : Claim) → length (block (Begun c)) ≡ length (block (Prepared c))
same_block c = omega (arith, length-block (Begun c), length-block (Prepared c))

size_set : (s : RowState) (c : Claim) (rows : List Row) → size (compact (set_row (row s c) rows)) ≤ size (compact rows) + size (records_of s c)
size_set s c [] = omega (arith, size-append (records_of s c) [])
size_set s c (r ∷ rows) = go (is_of c.uid r) (size_set s c rows)
  where
    go : (b : Bool) → size (compact (set_row (row s c) rows)) ≤ size (compact rows) + size (records_of s c) → size (compact (if b then row s c ∷ rows else r ∷ set_row (row s c) rows)) ≤ size (compact (r ∷ rows)) + size (records_of s c)
    go true later = omega (arith, size-append (records_of s c) (compact rows), size-append (records_of r.state r.claim) (compact rows))
    go false later = omega (arith, size-append (records_of r.state r.claim) (compact (set_row (row s c) rows)), size-append (records_of r.state r.claim) (compact rows), later)

size_leaving : (s : RowState) (c : Claim) → size (records_of state.Leaving c) ≤ size (records_of s c) + (1 + length (block (Leaving c.uid)))
size_leaving state.Begun c = omega (arith, size-two (Prepared c) (Leaving c.uid), size-one (Begun c), same_block c)
size_leaving state.Prepared c = omega (arith, size-two (Prepared c) (Leaving c.uid), size-one (Prepared c))
size_leaving state.Leaving c = omega arith

size_leave : (uid : List ℕ) (rows : List Row) → size (compact (leave_row uid rows)) ≤ size (compact rows) + (1 + length (block (Leaving uid)))
size_leave uid [] = omega arith
size_leave uid (r ∷ rows) = go (is_of uid r) refl (size_leave uid rows)
  where
    go : (b : Bool) → is_of uid r ≡ b → size (compact (leave_row uid rows)) ≤ size (compact rows) + (1 + length (block (Leaving uid))) → size (compact (if b then row state.Leaving r.claim ∷ rows else r ∷ leave_row uid rows)) ≤ size (compact (r ∷ rows)) + (1 + length (block (Leaving uid)))
    go true is later =
        let uid_is : length (block (Leaving r.claim.uid)) ≡ length (block (Leaving uid)) = ap (λ (u : List ℕ). length (block (Leaving u))) (uid_same r.claim.uid uid is) in
        omega (arith, uid_is, size_leaving r.state r.claim, size-append (records_of state.Leaving r.claim) (compact rows), size-append (records_of r.state r.claim) (compact rows))
    go false is later = omega (arith, size-append (records_of r.state r.claim) (compact (leave_row uid rows)), size-append (records_of r.state r.claim) (compact rows), later)

size_remove : (uid : List ℕ) (rows : List Row) → size (compact (remove_row uid rows)) ≤ size (compact rows)
size_remove uid [] = omega arith
size_remove uid (r ∷ rows) = go (is_of uid r) (size_remove uid rows)
  where
    go : (b : Bool) → size (compact (remove_row uid rows)) ≤ size (compact rows) → size (compact (if b then rows else r ∷ remove_row uid rows)) ≤ size (compact (r ∷ rows))
    go true later = omega (arith, size-append (records_of r.state r.claim) (compact rows))
    go false later = omega (arith, size-append (records_of r.state r.claim) (compact (remove_row uid rows)), size-append (records_of r.state r.claim) (compact rows), later)

pub size_after : (rows : List Row) (r : Record) → length (blocks (compact (row_after rows r))) ≤ length (blocks (compact rows)) + (1 + length (block r))
size_after rows (Begun c) = omega (arith, size_set state.Begun c rows, size-one (Begun c))
size_after rows (Prepared c) = omega (arith, size_set state.Prepared c rows, size-one (Prepared c))
size_after rows (Leaving uid) = size_leave uid rows
size_after rows (Gone uid) = omega (arith, size_remove uid rows)

made_from : (rows : List Row) (rs : List Record) → IsTable rows → AllByRecursion Fits rs → IsTable (table_from rows rs) × (length (blocks (compact (table_from rows rs))) ≤ length (blocks (compact rows)) + length (blocks rs))
made_from rows [] t f = (t, omega arith)
made_from rows (r ∷ rs) t f =
    let more = made_from (row_after rows r) rs (table_after rows r f.0 t) f.1 in
    (more.0, omega (arith, more.1, size_after rows r, length-append (block r) (blocks rs)))

-- the table of records that have a spelling
pub made : (rs : List Record) → AllByRecursion Fits rs → IsTable (table rs) × (length (blocks (compact (table rs))) ≤ length (blocks rs))
made rs f = let all = made_from [] rs (refl, tt) f in (all.0, omega (arith, all.1))

table_more_from : (rows : List Row) (rs : List Record) (r : Record) → table_from rows (rs ++ r ∷ []) ≡ row_after (table_from rows rs) r
table_more_from rows [] r = refl
table_more_from rows (s ∷ rs) r = table_more_from (row_after rows s) rs r

pub table_more : (rs : List Record) (r : Record) → table (rs ++ r ∷ []) ≡ row_after (table rs) r
table_more rs r = table_more_from [] rs r

-- ---- rows by their index

-- the row of the uid, and those before and behind it
pub record Placed (uid : List ℕ) (rows : List Row) (at : ℕ) : Type 0 where
  pub front : List Row
  pub this : Row
  pub back : List Row
  pub len : length front ≡ at
  pub parts : rows ≡ front ++ this ∷ back
  pub set : (new : Row) → new.claim.uid ≡ uid → set_row new rows ≡ front ++ new ∷ back
  pub left : leave_row uid rows ≡ front ++ row state.Leaving this.claim ∷ back
  pub gone : remove_row uid rows ≡ front ++ back

placed_here : (uid : List ℕ) (r : Row) (rows : List Row) → is_of uid r ≡ true → Placed uid (r ∷ rows) 0
placed_here uid r rows here = record {
  front = [];
  this = r;
  back = rows;
  len = refl;
  parts = refl;
  set = λ new u. ap (λ (b : Bool). if b then new ∷ rows else r ∷ set_row new rows) (ap (λ (v : List ℕ). is_of v r) u ∙ here);
  left = ap (λ (b : Bool). if b then row state.Leaving r.claim ∷ rows else r ∷ leave_row uid rows) here;
  gone = ap (λ (b : Bool). if b then rows else r ∷ remove_row uid rows) here;
}

placed_later : (uid : List ℕ) (r : Row) (rows : List Row) (i : ℕ) → is_of uid r ≡ false → Placed uid rows i → Placed uid (r ∷ rows) (i + 1)
placed_later uid r rows i here p = record {
  front = r ∷ p.front;
  this = p.this;
  back = p.back;
  len = omega (arith, p.len);
  parts = ap (λ (l : List Row). r ∷ l) p.parts;
  set = λ new u. ap (λ (b : Bool). if b then new ∷ rows else r ∷ set_row new rows) (ap (λ (v : List ℕ). is_of v r) u ∙ here) ∙ ap (λ (l : List Row). r ∷ l) (p.set new u);
  left = ap (λ (b : Bool). if b then row state.Leaving r.claim ∷ rows else r ∷ leave_row uid rows) here ∙ ap (λ (l : List Row). r ∷ l) p.left;
  gone = ap (λ (b : Bool). if b then rows else r ∷ remove_row uid rows) here ∙ ap (λ (l : List Row). r ∷ l) p.gone;
}

some_at : ℕ → Option ℕ
some_at n = Some n

same_at : (a b : ℕ) → some_at a ≡ some_at b → a ≡ b
unfolding some_at
same_at a b e = cc

-- the place of a row, counted from these rows on
abbrev Found : ℕ → ℕ → List ℕ → List Row → Type 0
Found at k uid rows = (i : ℕ) × (at ≡ k + i) × Placed uid rows i

placed_from : (at k : ℕ) (uid : List ℕ) (rows : List Row) → place_from k uid rows ≡ Some at → Found at k uid rows
unfolding some_at
placed_from at k uid [] is = absurd cc
placed_from at k uid (r ∷ rows) is = go (is_of uid r) refl is (λ e. placed_from at (k + 1) uid rows e)
  where
    go : (b : Bool) → is_of uid r ≡ b → (if b then Some k else place_from (k + 1) uid rows) ≡ Some at → (place_from (k + 1) uid rows ≡ Some at → Found at (k + 1) uid rows) → Found at k uid (r ∷ rows)
    go true here e later = (0, omega (arith, same_at k at e), placed_here uid r rows here)
    go false here e later = let more = later e in (more.0 + 1, omega (arith, more.1), placed_later uid r rows more.0 here more.2)

pub placed : (at : ℕ) (uid : List ℕ) (rows : List Row) → place_from 0 uid rows ≡ Some at → Placed uid rows at
placed at uid rows is =
    let found = placed_from at 0 uid rows is in
    let same : found.0 ≡ at = omega (arith, found.1) in
    subst (Placed uid rows) same found.2

none_from : (k : ℕ) (uid : List ℕ) (rows : List Row) → place_from k uid rows ≡ None → has_uid uid rows ≡ false
none_from k uid [] is = refl
none_from k uid (r ∷ rows) is = go (is_of uid r) is (λ e. none_from (k + 1) uid rows e)
  where
    go : (b : Bool) → (if b then Some k else place_from (k + 1) uid rows) ≡ None → (place_from (k + 1) uid rows ≡ None → has_uid uid rows ≡ false) → (if b then true else has_uid uid rows) ≡ false
    go true e later = absurd cc
    go false e later = later e

pub no_place : (uid : List ℕ) (rows : List Row) → place_from 0 uid rows ≡ None → has_uid uid rows ≡ false
no_place uid rows is = none_from 0 uid rows is

-- ---- what the code does at a place

pub set_here : (s : RowState) (c : Claim) (rows : List Row) (at : ℕ) → Some at ≡ place_from 0 c.uid rows → set rows at (row s c) ≡ set_row (row s c) rows
set_here s c rows at is =
    let p = placed at c.uid rows (sym is) in
    ap (λ (l : List Row). set l at (row s c)) p.parts ∙ set_at p.front p.this p.back (row s c) at p.len ∙ sym (p.set (row s c) refl)

pub set_last : (s : RowState) (c : Claim) (rows : List Row) → None ≡ place_from 0 c.uid rows → rows ++ row s c ∷ [] ≡ set_row (row s c) rows
set_last s c rows is = sym (set_new (row s c) rows (no_place c.uid rows (sym is)))

pub leave_here : (uid : List ℕ) (rows : List Row) (at : ℕ) (this : Row) → Some at ≡ place_from 0 uid rows → this ≡ get_or rows at this → set rows at (row state.Leaving this.claim) ≡ leave_row uid rows
leave_here uid rows at this is here =
    let p = placed at uid rows (sym is) in
    let this_is : this ≡ p.this = here ∙ ap (λ (l : List Row). get_or l at this) p.parts ∙ get_or_at p.front p.this p.back this at p.len in
    ap (λ (x : Row). set rows at (row state.Leaving x.claim)) this_is ∙ ap (λ (l : List Row). set l at (row state.Leaving p.this.claim)) p.parts ∙ set_at p.front p.this p.back (row state.Leaving p.this.claim) at p.len ∙ sym p.left

pub remove_here : (uid : List ℕ) (rows : List Row) (at : ℕ) → Some at ≡ place_from 0 uid rows → take at rows ++ drop (at + 1) rows ≡ remove_row uid rows
remove_here uid rows at is =
    let p = placed at uid rows (sym is) in
    let split : rows ≡ (p.front ++ p.this ∷ []) ++ p.back = p.parts ∙ sym (append_assoc p.front (p.this ∷ []) p.back) in
    (λ i. (ap (take at) p.parts ∙ take_at p.front (p.this ∷ p.back) at p.len) i ++ (ap (drop (at + 1)) split ∙ drop_at (p.front ++ p.this ∷ []) p.back (at + 1) (omega (arith, p.len, length-append p.front (p.this ∷ [])))) i) ∙ sym p.gone

pub row_short : (s : RowState) (c : Claim) → AllByRecursion Fits (records_of s c) → is_long_claim c ≡ false
row_short state.Begun c f = claim_short c f.0.0.1
row_short state.Prepared c f = claim_short c f.0.0.1
row_short state.Leaving c f = claim_short c f.0.0.1
