-- What is found when a journal is opened.
use Rattle.std.proofs.Common.{◌≡◌, ◌≢◌, ◌⊎◌, inl, inr, ℕ, ◌+◌, ◌-◌, ◌*◌, ◌<◌, ◌≤◌, ◌^◌, ◌&&◌, nat_le, Bool, true, false, IsTrue, IfSome, List, [], ◌∷◌, ◌++◌, length, take, drop, Option, Some, None, Result, Ok, Err, refl, sym, ◌∙◌, ap, subst, arith, length-append, length-take, if◌then◌else◌}
use Rattle.std.proofs.lemmas.Bool.Decides.{nat_tests}
use Rattle.std.specs.List.{AllByRecursion}
use Rattle.std.specs.Option.{option_map}
use Rattle.dra_ports.specs.DiskContent.{Content, synced}
use Rattle.dra_ports.specs.DiskImages.{AtEachMoment}
use Rattle.ckpt_journal.specs.Format.{Fits, blocks}
use Rattle.ckpt_journal.specs.Layout.{IsSized, half_sizes, is_half, layout_of, live, start_of}
use Rattle.ckpt_journal.specs.Opened.{AfterSync, IsFound, IsKept, IsOld, IsShort, IsTold}
use Rattle.ckpt_journal.specs.Plan.{move_steps, new_halves, size_for, size_from, table_bytes}
use Rattle.ckpt_journal.specs.Reading.{records}
use Rattle.ckpt_journal.specs.Standing.{EndsAt, HasTable, IsSettled, Returns, recorded}
use Rattle.ckpt_journal.specs.Steps.{IsExact}
use Rattle.ckpt_journal.specs.Table.{IsTable, compact, table}
use Rattle.ckpt_journal.specs.declared.error.JournalError.{JournalError}
use Rattle.ckpt_journal.specs.declared.layout.Halves.{Halves}
use Rattle.ckpt_journal.specs.declared.layout.Layout.{Layout}
use Rattle.ckpt_journal.specs.declared.layout.Layout.TheVariants.{Single, Double}
use Rattle.ckpt_journal.specs.declared.record.Record.{Record}
use Rattle.ckpt_journal.specs.declared.record.Row.{Row}
use Rattle.ckpt_journal.proofs.Halved.{first}
use Rattle.ckpt_journal.proofs.Keeping.{Carried, has_table, keeps, live_from, live_has, old_carried, old_rest, rest_in, told_settled}
use Rattle.ckpt_journal.proofs.LaidOut.{double_within}
use Rattle.ckpt_journal.proofs.Tables.{made}
use Rattle.ckpt_journal.proofs.TakenBody.{IsBytes}

short_of : (bytes : List ℕ) (l : Layout) (rs : List Record) (end : ℕ) → IsBytes bytes → layout_of bytes ≡ Ok l → EndsAt rs end (live l bytes) → (l ≡ Single → 16 + end < 67108864) → IsShort l end
short_of bytes Single rs end small laid ends below = below refl
short_of bytes (Double h) rs end small laid ends below =
    ((double_within bytes (Double h) h small (sym laid) refl).sized, omega (arith, ends.0, length-take h.half (drop (start_of h) bytes)))

pub found : (bytes : List ℕ) (l : Layout) (rs : List Record) (end : ℕ) → IsBytes bytes → layout_of bytes ≡ Ok l → EndsAt rs end (live l bytes) → (l ≡ Single → 16 + end < 67108864) → IsFound l rs end
found bytes l rs end small laid ends below = record { fits = ends.4; place = ends.3; short = short_of bytes l rs end small laid ends below }

pub told : (bytes : List ℕ) (l : Layout) (rs : List Record) (end : ℕ) (x z : Option Content) → layout_of bytes ≡ Ok l → EndsAt rs end (live l bytes) → IfSome x (λ c. c.bytes ≡ bytes) → z ≡ option_map synced x → IfSome z (IsTold l rs end)
told bytes l rs end None z laid ends same is = subst (λ (o : Option Content). IfSome o (IsTold l rs end)) (sym is) tt
told bytes l rs end (Some c) z laid ends same is = subst (λ (o : Option Content). IfSome o (IsTold l rs end)) (sym is) (record {
  laid = ap layout_of same ∙ laid;
  ends = subst (λ (b : List ℕ). EndsAt rs end (live l b)) (sym same) ends;
  sure = λ honest. if_true c.honest _ _ honest;
})
  where
    if_true : {X : Type 0} (b : Bool) (x y : X) → IsTrue b → (if b then x else y) ≡ x
    if_true true x y is = refl
    if_true false x y is = cc

pub returned : {X : Type 0} (view : X → List Record) (bytes : List ℕ) (r : Result X JournalError) (x : Option Content) → IfSome x (λ c. c.bytes ≡ bytes) → Returns view r (records bytes) → IfSome x (λ c. Returns view r (records c.bytes))
returned view bytes r None same is = tt
returned view bytes r (Some c) same is = subst (λ (b : List ℕ). Returns view r (records b)) (sym same) is

-- ---- sizes

size_has : (P : ℕ → Type 0) (sizes : List ℕ) (asked len : ℕ) → AllByRecursion P sizes → P 134217728 → P (size_from sizes asked len)
size_has P [] asked len all last = last
size_has P (s ∷ sizes) asked len all last = go (nat_le asked s && nat_le (2 * len) s) (size_has P sizes asked len all.1 last)
  where
    go : (b : Bool) → P (size_from sizes asked len) → P (if b then s else size_from sizes asked len)
    go true later = all.0
    go false later = later

size_enough : (sizes : List ℕ) (asked len : ℕ) → 2 * len ≤ 134217728 → 2 * len ≤ size_from sizes asked len
size_enough [] asked len most = most
size_enough (s ∷ sizes) asked len most = go (nat_le asked s) (nat_le (2 * len) s) refl (size_enough sizes asked len most)
  where
    go : (a b : Bool) → nat_le (2 * len) s ≡ b → 2 * len ≤ size_from sizes asked len → 2 * len ≤ (if a && b then s else size_from sizes asked len)
    go true true is later = grind (arith, nat_tests, is)
    go true false is later = later
    go false b is later = later

allowed_size : AllByRecursion (λ n. is_half n ≡ true) half_sizes
unfolding is_half
allowed_size = (refl, (refl, (refl, (refl, (refl, (refl, (refl, (refl, (refl, (refl, (refl, (refl, (refl, (refl, (refl, (refl, tt))))))))))))))))

last_allowed : is_half 134217728 ≡ true
unfolding is_half
last_allowed = refl

most_size : AllByRecursion (λ n. n ≤ 134217728) half_sizes
most_size = (omega arith, (omega arith, (omega arith, (omega arith, (omega arith, (omega arith, (omega arith, (omega arith, (omega arith, (omega arith, (omega arith, (omega arith, (omega arith, (omega arith, (omega arith, (omega arith, tt))))))))))))))))

pub size_allowed : (asked len : ℕ) → is_half (size_for asked len) ≡ true
size_allowed asked len = size_has (λ n. is_half n ≡ true) half_sizes asked len allowed_size last_allowed

pub size_most : (asked len : ℕ) → size_for asked len ≤ 134217728
size_most asked len = size_has (λ n. n ≤ 134217728) half_sizes asked len most_size (omega arith)

pub size_twice : (asked len : ℕ) → 2 * len ≤ 134217728 → 2 * len ≤ size_for asked len
size_twice asked len most = size_enough half_sizes asked len most

-- ---- a file of version 2

pub kept_double : (rs : List Record) (rows : List Row) (h : Halves) (at end : ℕ) → IsFound (Double h) rs at → rows ≡ table rs → end ≡ start_of h + at → IsKept (table rs) h end rows
kept_double rs rows h at end f is place =
    let all = made rs f.fits in
    record {
      kept = is;
      sized = f.short.0;
      tabled = subst IsTable (sym is) all.0;
      used = omega (arith, place, f.place, all.1, ap (λ (t : List Row). length (blocks (compact t))) is);
      within = omega (arith, place, f.short.1);
    }

pub settled_double : (rs : List Record) (rows : List Row) (h : Halves) (at end : ℕ) (x : Option Content) → IsFound (Double h) rs at → rows ≡ table rs → end ≡ start_of h + at → IfSome x (IsTold (Double h) rs at) → IfSome x (IsSettled (recorded x) rows h end)
settled_double rs rows h at end None f is place t = tt
settled_double rs rows h at end (Some c) f is place t = told_settled rs rows h at end c t.laid t.ends t.sure (sym is) place f.short.1

-- a file of version 1
pub old_of : (rs : List Record) (rows : List Row) (at base : ℕ) (x : Option Content) → rows ≡ table rs → base ≡ 17 + at → IfSome x (IsTold Single rs at) → IfSome x (IsOld rows base)
old_of rs rows at base None is place t = tt
old_of rs rows at base (Some c) is place t = record { rs = rs; laid = t.laid; make = sym is; ends = subst (λ (n : ℕ). EndsAt rs n (drop 16 c.bytes)) same t.ends; sure = t.sure }
  where
    same : at ≡ base - 17
    same = omega (arith, place)

pub old_used : (rs : List Record) (rows : List Row) (at : ℕ) → IsFound Single rs at → rows ≡ table rs → IsTable rows × (17 + length (blocks (compact rows)) ≤ 17 + at)
old_used rs rows at f is = let all = made rs f.fits in (subst IsTable (sym is) all.0, omega (arith, f.place, all.1, ap (λ (t : List Row). length (blocks (compact t))) is))

-- nothing is done to a file that was read
pub told_rest : (l : Layout) (rs : List Record) (at : ℕ) (x : Option Content) → IsFound l rs at → IfSome x (IsTold l rs at) → AtEachMoment (HasTable (table rs)) x x
told_rest l rs at None f t = tt
told_rest Single rs at (Some c) f t = old_rest (table rs) (17 + at) (Some c) (old_of rs (table rs) at (17 + at) (Some c) refl refl t) (omega (arith, f.short))
told_rest (Double h) rs at (Some c) f t =
    let s = settled_double rs (table rs) h at (start_of h + at) (Some c) f refl refl t in
    rest_in (HasTable (table rs)) c t.sure (has_table (recorded (Some c)) (table rs) c.bytes s.7 (live_has (recorded (Some c)) h c.bytes (live_from (recorded (Some c)) (table rs) h (start_of h + at) c s)))

-- ---- what open says of the disk it hands back

pub not_begun : (x : Option Content) → AfterSync x x
not_begun None = refl
not_begun (Some c) = inl refl

-- ---- by what the code has at hand

pub size_small : (r asked len : ℕ) → r ≡ size_for asked len → r ≤ 134217728
size_small r asked len is = subst (λ (n : ℕ). n ≤ 134217728) (sym is) (size_most asked len)

pub size_is_half : (r asked len : ℕ) → r ≡ size_for asked len → is_half r ≡ true
size_is_half r asked len is = ap is_half is ∙ size_allowed asked len

pub size_fits : (r asked len n : ℕ) → r ≡ size_for asked len → len ≡ n → 2 * n ≤ 134217728 → 2 * n ≤ r
size_fits r asked len n is same most = subst (λ (k : ℕ). 2 * n ≤ k) (sym is) (subst (λ (k : ℕ). 2 * k ≤ size_for asked len) same (size_twice asked len (subst (λ (k : ℕ). 2 * k ≤ 134217728) (sym same) most)))

pub table_short : (rows : List Row) (t : List ℕ) (base : ℕ) → t ≡ table_bytes rows → 17 + length (blocks (compact rows)) ≤ base → base ≤ 67108864 → 2 * length t ≤ 134217728
table_short rows t base is used below = omega (arith, ap length is, length-append (blocks (compact rows)) (0 ∷ []), used, below)

pub length-table : (rows : List Row) (t : List ℕ) → t ≡ table_bytes rows → length t ≡ length (blocks (compact rows)) + 1
length-table rows t is = omega (arith, ap length is, length-append (blocks (compact rows)) (0 ∷ []))

pub moved_carried : (rows : List Row) (base half end : ℕ) (t frame : List ℕ) (x : Option Content) → IfSome x (IsOld rows base) → IsTable rows → t ≡ table_bytes rows → frame ≡ new_halves half t → (17 ≤ base) × (base ≤ 67108864) → is_half half ≡ true → half ≤ 134217728
    → 2 * length t ≤ half → end ≡ start_of (first base half) + length (blocks (compact rows)) → IfSome x (λ c. IsExact c × Carried (HasTable rows) rows (first base half) end (move_steps base frame) c.bytes)
moved_carried rows base half end t frame x old is_table t_is framed within allowed most fit place =
    subst (λ (f : List ℕ). IfSome x (λ c. IsExact c × Carried (HasTable rows) rows (first base half) end (move_steps base f) c.bytes)) (sym framed)
    (old_carried rows base half end t x old is_table t_is within allowed most fit place)

pub kept_at : (l : Layout) (rs : List Record) (rows : List Row) (h : Halves) (at end : ℕ) → l ≡ Double h → IsFound l rs at → rows ≡ table rs → end ≡ start_of h + at → IsKept (table rs) h end rows
kept_at l rs rows h at end here f is place = kept_double rs rows h at end (subst (λ (x : Layout). IsFound x rs at) here f) is place

pub settled_at : (l : Layout) (rs : List Record) (rows : List Row) (h : Halves) (at end : ℕ) (x : Option Content) → l ≡ Double h → IsFound l rs at → rows ≡ table rs → end ≡ start_of h + at → IfSome x (IsTold l rs at) → IfSome x (IsSettled (recorded x) rows h end)
settled_at l rs rows h at end x here f is place t = settled_double rs rows h at end x (subst (λ (y : Layout). IsFound y rs at) here f) is place (subst (λ (y : Layout). IfSome x (IsTold y rs at)) here t)

pub used_at : (l : Layout) (rs : List Record) (rows : List Row) (at : ℕ) → l ≡ Single → IsFound l rs at → rows ≡ table rs → IsTable rows × (17 + length (blocks (compact rows)) ≤ 17 + at)
used_at l rs rows at here f is = old_used rs rows at (subst (λ (x : Layout). IsFound x rs at) here f) is

pub old_at : (l : Layout) (rs : List Record) (rows : List Row) (at : ℕ) (x : Option Content) → l ≡ Single → rows ≡ table rs → IfSome x (IsTold l rs at) → IfSome x (IsOld rows (17 + at))
old_at l rs rows at x here is t = old_of rs rows at (17 + at) x is refl (subst (λ (y : Layout). IfSome x (IsTold y rs at)) here t)

pub load_stopped : (x z : Option Content) → (z ≡ x) ⊎ (z ≡ option_map synced x) → AfterSync x z
load_stopped None z (inl same) = same
load_stopped None z (inr same) = same
load_stopped (Some c) z (inl same) = inl same
load_stopped (Some c) z (inr same) = inr (λ rs is. subst (AtEachMoment (HasTable (table rs)) (Some (synced c))) (sym same) (rest_in (HasTable (table rs)) (synced c) (λ honest. if_true c.honest _ _ honest) (has_table rs (table rs) c.bytes refl is)))
  where
    if_true : {X : Type 0} (b : Bool) (x y : X) → IsTrue b → (if b then x else y) ≡ x
    if_true true x y is = refl
    if_true false x y is = cc
