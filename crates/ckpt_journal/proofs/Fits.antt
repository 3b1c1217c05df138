-- A record whose texts and counts are short has a spelling that reads as it.
use Rattle.std.proofs.Common.{◌≡◌, ℕ, ◌+◌, ◌-◌, ◌<◌, ◌≤◌, ◌^◌, ◌==◌, ◌++◌, nat_lt, Bool, true, false, ◌&&◌, ◌||◌, List, [], ◌∷◌, length, take, drop, Option, Some, None, refl, ◌∙◌, ap, arith, length-append, if◌then◌else◌}
use Rattle.std.proofs.lemmas.Bool.Decides.{nat_tests}
use Rattle.std.specs.Prelude.{option_and_then, option_map}
use Rattle.std.specs.List.{AllByRecursion, list_all, list_any}
use Rattle.std.specs.Int.{to_be_bytes, w32}
use Rattle.std.specs.Str.{is_utf8}
use Rattle.object_fields.specs.Keys.{device_text, key_text}
use Rattle.object_fields.specs.declared.key.DeviceId.{DeviceId}
use Rattle.object_fields.specs.declared.key.Key.{Key}
use Rattle.ckpt_journal.specs.Format.{BodyFits, ClaimFits, ClaimIsText, ClaimReadsBack, Fits, IsText, NameFits, NamesFit, ReadsBack, are_long, block, blocks, body, is_long, is_long_claim, is_long_text}
use Rattle.ckpt_journal.specs.Plan.{is_full, table_bytes}
use Rattle.ckpt_journal.specs.Table.{compact}
use Rattle.ckpt_journal.specs.declared.record.Row.{Row}
use Rattle.ckpt_journal.specs.Names.{DeviceReadsBack, KeyReadsBack, by_both, by_first, device_is_text, device_made, device_read, device_with, first_slash_from, key_is_text, key_made, key_read, key_with, last_slash_from, text_read}
use Rattle.ckpt_journal.specs.declared.record.Claim.{Claim}
use Rattle.ckpt_journal.specs.declared.record.Record.{Record}
use Rattle.ckpt_journal.specs.declared.record.Record.TheVariants.{Begun, Prepared, Leaving, Gone}

or_false : (a b : Bool) → (a || b) ≡ false → (a ≡ false) × (b ≡ false)
or_false true b is = absurd cc
or_false false b is = (refl, is)

and_true : (a b : Bool) → (a && b) ≡ true → (a ≡ true) × (b ≡ true)
and_true false b is = absurd cc
and_true true b is = (refl, is)

short : (n : ℕ) → nat_lt 65535 n ≡ false → n < 2 ^ 16
short n is = grind (arith, nat_tests)

text_there : (text : List ℕ) → is_utf8 text ≡ true → text_read text ≡ Some text
text_there text is = ap (λ b. if b then Some text else None) is

-- ---- keys

key_itself : (k : Key) → key_is_text k ≡ true → key_made k.namespace k.name ≡ Some k
key_itself k is =
    let both = and_true (is_utf8 k.namespace) (is_utf8 k.name) is in
    λ i. option_and_then (λ a. option_map (λ b. record { namespace = a; name = b }) (text_there k.name both.1 i)) (text_there k.namespace both.0 i)

key_same : (x y : Key) → Some x ≡ Some y → x ≡ y
key_same x y is = cc

key_lift : (namespace name : List ℕ) (k : Key) → key_is_text k ≡ true → key_with namespace name ≡ Some k → key_made namespace name ≡ Some k
key_lift namespace name k text is = ap (λ (x : Key). key_made x.namespace x.name) (key_same (record { namespace = namespace; name = name }) k is) ∙ key_itself k text

key_from : (text : List ℕ) (slash : Option ℕ) (k : Key) → key_is_text k ≡ true → by_first key_with text slash ≡ Some k → by_first key_made text slash ≡ Some k
key_from text None k is e = key_lift [] text k is e
key_from text (Some at) k is e = by_case (at == 0) e
  where
    by_case : (b : Bool) → (if b then None else key_with (take at text) (drop (at + 1) text)) ≡ Some k → (if b then None else key_made (take at text) (drop (at + 1) text)) ≡ Some k
    by_case true e = absurd cc
    by_case false e = key_lift _ _ k is e

key_again : (k : Key) → key_is_text k ≡ true → KeyReadsBack k → key_read (key_text k) ≡ Some k
key_again k is back = key_from (key_text k) (first_slash_from 0 (key_text k)) k is back

-- ---- device ids

device_itself : (d : DeviceId) → device_is_text d ≡ true → device_made d.driver d.pool d.device ≡ Some d
device_itself d is =
    let outer = and_true (is_utf8 d.driver && is_utf8 d.pool) (is_utf8 d.device) is in
    let inner = and_true (is_utf8 d.driver) (is_utf8 d.pool) outer.0 in
    λ i. option_and_then (λ a. option_and_then (λ b. option_map (λ c. record { driver = a; pool = b; device = c }) (text_there d.device outer.1 i)) (text_there d.pool inner.1 i)) (text_there d.driver inner.0 i)

device_same : (x y : DeviceId) → Some x ≡ Some y → x ≡ y
device_same x y is = cc

device_lift : (driver pool device : List ℕ) (d : DeviceId) → device_is_text d ≡ true → device_with driver pool device ≡ Some d → device_made driver pool device ≡ Some d
device_lift driver pool device d text is = ap (λ (x : DeviceId). device_made x.driver x.pool x.device) (device_same (record { driver = driver; pool = pool; device = device }) d is) ∙ device_itself d text

device_from : (text : List ℕ) (first last : Option ℕ) (d : DeviceId) → device_is_text d ≡ true → by_both device_with text first last ≡ Some d → by_both device_made text first last ≡ Some d
device_from text None last d is e = absurd cc
device_from text (Some first) None d is e = absurd cc
device_from text (Some first) (Some last) d is e = by_case (nat_lt first last) e
  where
    by_case : (b : Bool) → (if b then device_with (take first text) (take (last - (first + 1)) (drop (first + 1) text)) (drop (last + 1) text) else None) ≡ Some d
        → (if b then device_made (take first text) (take (last - (first + 1)) (drop (first + 1) text)) (drop (last + 1) text) else None) ≡ Some d
    by_case true e = device_lift _ _ _ d is e
    by_case false e = absurd cc

device_again : (d : DeviceId) → device_is_text d ≡ true → DeviceReadsBack d → device_read (device_text d) ≡ Some d
device_again d is back = device_from (device_text d) (first_slash_from 0 (device_text d)) (last_slash_from 0 None (device_text d)) d is back

-- ---- lists of them

each_fits : {A : Type 0} (reading : List ℕ → Option A) (text : A → List ℕ) (is_text : A → Bool) (Back : A → Type 0) → ((a : A) → is_text a ≡ true → Back a → reading (text a) ≡ Some a)
    → (items : List A) → list_any (λ a. is_long_text (text a)) items ≡ false → list_all is_text items ≡ true → AllByRecursion Back items → AllByRecursion (NameFits reading text) items
each_fits reading text is_text Back again [] s t b = tt
each_fits reading text is_text Back again (a ∷ items) s t b =
    let shorts = or_false (is_long_text (text a)) (list_any (λ a. is_long_text (text a)) items) s in
    let texts = and_true (is_text a) (list_all is_text items) t in
    ((short (length (text a)) shorts.0, again a texts.0 b.0), each_fits reading text is_text Back again items shorts.1 texts.1 b.1)

names_fit : {A : Type 0} (reading : List ℕ → Option A) (text : A → List ℕ) (is_text : A → Bool) (Back : A → Type 0) → ((a : A) → is_text a ≡ true → Back a → reading (text a) ≡ Some a)
    → (items : List A) → are_long text items ≡ false → list_all is_text items ≡ true → AllByRecursion Back items → NamesFit reading text items
names_fit reading text is_text Back again items s t b =
    let shorts = or_false (nat_lt 65535 (length items)) (list_any (λ a. is_long_text (text a)) items) s in
    (short (length items) shorts.0, each_fits reading text is_text Back again items shorts.1 t b)

claim_fits : (c : Claim) → is_long_claim c ≡ false → ClaimIsText c → ClaimReadsBack c → ClaimFits c
claim_fits c s t b =
    let first = or_false (is_long_text c.uid) (is_long_text (key_text c.key) || (are_long key_text c.pods || are_long device_text c.devices)) s in
    let second = or_false (is_long_text (key_text c.key)) (are_long key_text c.pods || are_long device_text c.devices) first.1 in
    let third = or_false (are_long key_text c.pods) (are_long device_text c.devices) second.1 in (
      (short (length c.uid) first.0, text_there c.uid t.uid),
      (
        (short (length (key_text c.key)) second.0, key_again c.key t.key b.0),
        (
          names_fit key_read key_text key_is_text KeyReadsBack key_again c.pods third.0 t.pods b.1.0,
          names_fit device_read device_text device_is_text DeviceReadsBack device_again c.devices third.1 t.devices b.1.1,
        ),
      ),
    )

body_fits : (r : Record) → is_long r ≡ false → IsText r → ReadsBack r → BodyFits r
body_fits (Begun c) s t b = let fits = claim_fits c s t b in (fits.0, fits)
body_fits (Prepared c) s t b = let fits = claim_fits c s t b in (fits.0, fits)
body_fits (Leaving uid) s t b = ((short (length uid) s, text_there uid t), tt)
body_fits (Gone uid) s t b = ((short (length uid) s, text_there uid t), tt)

pub fits_from : (r : Record) → is_long r ≡ false → IsText r → ReadsBack r → length (body r) < 2 ^ 32 → Fits r
fits_from r s t b len = (body_fits r s t b, len)

-- ---- room

pub length-block : (r : Record) → length (block r) ≡ length (body r) + 4
unfolding block
length-block r = omega arith

lt_true : (a b : ℕ) → a < b → nat_lt a b ≡ true
lt_true a b lt = grind (arith, nat_tests)

lt_not : (a b : ℕ) → b ≤ a → nat_lt a b ≡ false
lt_not a b le = grind (arith, nat_tests)

or_right : (a b : Bool) → b ≡ true → (a || b) ≡ true
or_right true b is = refl
or_right false b is = is

neither : (a b : Bool) → a ≡ false → b ≡ false → (a || b) ≡ false
neither a b p q = λ i. p i || q i

or_left : (a b : Bool) → a ≡ true → (a || b) ≡ true
or_left a b is = ap (λ (x : Bool). x || b) is

pub full_long : (r : Record) (half : ℕ) (rows : List Row) → is_long r ≡ true → is_full half rows r ≡ true
full_long r half rows is = or_left (is_long r) (nat_lt half (length (blocks (compact rows)) + length (block r) + 2)) is

pub full_when : (r : Record) (half : ℕ) (rows : List Row) → half < length (blocks (compact rows)) + length (block r) + 2 → is_full half rows r ≡ true
full_when r half rows lt = or_right (is_long r) (nat_lt half (length (blocks (compact rows)) + length (block r) + 2)) (lt_true half _ lt)

pub room_when : (r : Record) (half : ℕ) (rows : List Row) → is_long r ≡ false → length (blocks (compact rows)) + length (block r) + 2 ≤ half → is_full half rows r ≡ false
room_when r half rows s le = neither (is_long r) (nat_lt half (length (blocks (compact rows)) + length (block r) + 2)) s (lt_not half _ le)

pub room_direct : (r : Record) (half start end : ℕ) (rows : List Row) (bytes : List ℕ) → is_long r ≡ false → bytes ≡ block r ++ 0 ∷ [] → start + length (blocks (compact rows)) ≤ end → end + length bytes < start + half → is_full half rows r ≡ false
room_direct r half start end rows bytes s is used lt = room_when r half rows s (omega (arith, ap length is, length-append (block r) (0 ∷ []), used, lt))

pub room_late : (r : Record) (half : ℕ) (rows : List Row) (table bytes : List ℕ) → is_long r ≡ false → table ≡ table_bytes rows → bytes ≡ block r ++ 0 ∷ [] → length table + length bytes ≤ half → is_full half rows r ≡ false
room_late r half rows table bytes s t is le = room_when r half rows s (omega (arith, ap length is, ap length t, length-append (block r) (0 ∷ []), length-append (blocks (compact rows)) (0 ∷ []), le))

pub full_late : (r : Record) (half : ℕ) (rows : List Row) (table bytes : List ℕ) → table ≡ table_bytes rows → bytes ≡ block r ++ 0 ∷ [] → half < length table + length bytes → is_full half rows r ≡ true
full_late r half rows table bytes t is lt = full_when r half rows (omega (arith, ap length is, ap length t, length-append (block r) (0 ∷ []), length-append (blocks (compact rows)) (0 ∷ []), lt))

pub full_alone : (r : Record) (half len : ℕ) (rows : List Row) → len ≡ length (body r) → half < len + 6 → is_full half rows r ≡ true
full_alone r half len rows is lt = full_when r half rows (omega (arith, is, lt, length-block r))

pub spelled_is : (r : Record) (bytes frame : List ℕ) → bytes ≡ body r → frame ≡ to_be_bytes w32 (length bytes) ++ bytes ++ 0 ∷ [] → frame ≡ block r ++ 0 ∷ []
unfolding block
spelled_is r bytes frame is e = e ∙ ap (λ (l : List ℕ). to_be_bytes w32 (length l) ++ l ++ 0 ∷ []) is

-- ---- what was read reads back

key_read_some : (namespace name : List ℕ) (k : Key) → key_made namespace name ≡ Some k → key_with namespace name ≡ Some k
key_read_some namespace name k is = go (is_utf8 namespace) (is_utf8 name) is
  where
    go : (a b : Bool) → option_and_then (λ x. option_map (λ y. record { namespace = x; name = y }) (if b then Some name else None)) (if a then Some namespace else None) ≡ Some k → key_with namespace name ≡ Some k
    go true true e = e
    go true false e = absurd cc
    go false b e = absurd cc

key_back : (text : List ℕ) (slash : Option ℕ) (k : Key) → by_first key_made text slash ≡ Some k → by_first key_with text slash ≡ Some k
key_back text None k e = key_read_some [] text k e
key_back text (Some at) k e = by_case (at == 0) e
  where
    by_case : (b : Bool) → (if b then None else key_made (take at text) (drop (at + 1) text)) ≡ Some k → (if b then None else key_with (take at text) (drop (at + 1) text)) ≡ Some k
    by_case true e = absurd cc
    by_case false e = key_read_some _ _ k e

device_read_some : (driver pool device : List ℕ) (d : DeviceId) → device_made driver pool device ≡ Some d → device_with driver pool device ≡ Some d
device_read_some driver pool device d is = go (is_utf8 driver) (is_utf8 pool) (is_utf8 device) is
  where
    go : (a b c : Bool) → option_and_then (λ x. option_and_then (λ y. option_map (λ z. record { driver = x; pool = y; device = z }) (if c then Some device else None)) (if b then Some pool else None)) (if a then Some driver else None) ≡ Some d
        → device_with driver pool device ≡ Some d
    go true true true e = e
    go true true false e = absurd cc
    go true false c e = absurd cc
    go false b c e = absurd cc

device_back : (text : List ℕ) (first last : Option ℕ) (d : DeviceId) → by_both device_made text first last ≡ Some d → by_both device_with text first last ≡ Some d
device_back text None last d e = absurd cc
device_back text (Some first) None d e = absurd cc
device_back text (Some first) (Some last) d e = by_case (nat_lt first last) e
  where
    by_case : (b : Bool) → (if b then device_made (take first text) (take (last - (first + 1)) (drop (first + 1) text)) (drop (last + 1) text) else None) ≡ Some d
        → (if b then device_with (take first text) (take (last - (first + 1)) (drop (first + 1) text)) (drop (last + 1) text) else None) ≡ Some d
    by_case true e = device_read_some _ _ _ d e
    by_case false e = absurd cc

keys_back : (ks : List Key) → AllByRecursion (NameFits key_read key_text) ks → AllByRecursion KeyReadsBack ks
keys_back [] fits = tt
keys_back (k ∷ ks) fits = (key_back (key_text k) (first_slash_from 0 (key_text k)) k fits.0.1, keys_back ks fits.1)

devices_back : (ds : List DeviceId) → AllByRecursion (NameFits device_read device_text) ds → AllByRecursion DeviceReadsBack ds
devices_back [] fits = tt
devices_back (d ∷ ds) fits = (device_back (device_text d) (first_slash_from 0 (device_text d)) (last_slash_from 0 None (device_text d)) d fits.0.1, devices_back ds fits.1)

claim_back : (c : Claim) → ClaimFits c → ClaimReadsBack c
claim_back c fits = (key_back (key_text c.key) (first_slash_from 0 (key_text c.key)) c.key fits.1.0.1, (keys_back c.pods fits.1.1.0.1, devices_back c.devices fits.1.1.1.1))

record_back : (r : Record) → BodyFits r → ReadsBack r
record_back (Begun c) fits = claim_back c fits.1
record_back (Prepared c) fits = claim_back c fits.1
record_back (Leaving uid) fits = tt
record_back (Gone uid) fits = tt

pub all_read_back : (rs : List Record) → AllByRecursion Fits rs → AllByRecursion ReadsBack rs
all_read_back [] fits = tt
all_read_back (r ∷ rs) fits = (record_back r fits.0.0, all_read_back rs fits.1)

-- ---- what fits is short

not_long : (n : ℕ) → n < 2 ^ 16 → nat_lt 65535 n ≡ false
not_long n lt = grind (arith, nat_tests)

names_short : {A : Type 0} (reading : List ℕ → Option A) (text : A → List ℕ) (items : List A) → AllByRecursion (NameFits reading text) items → list_any (λ a. is_long_text (text a)) items ≡ false
names_short reading text [] f = refl
names_short reading text (a ∷ items) f = neither (is_long_text (text a)) (list_any (λ a. is_long_text (text a)) items) (not_long (length (text a)) f.0.0) (names_short reading text items f.1)

are_short : {A : Type 0} (reading : List ℕ → Option A) (text : A → List ℕ) (items : List A) → NamesFit reading text items → are_long text items ≡ false
are_short reading text items f = neither (nat_lt 65535 (length items)) (list_any (λ a. is_long_text (text a)) items) (not_long (length items) f.0) (names_short reading text items f.1)

pub claim_short : (c : Claim) → ClaimFits c → is_long_claim c ≡ false
claim_short c f =
    neither (is_long_text c.uid) (is_long_text (key_text c.key) || (are_long key_text c.pods || are_long device_text c.devices)) (not_long (length c.uid) f.0.0)
    (neither (is_long_text (key_text c.key)) (are_long key_text c.pods || are_long device_text c.devices) (not_long (length (key_text c.key)) f.1.0.0)
    (neither (are_long key_text c.pods) (are_long device_text c.devices) (are_short key_read key_text c.pods f.1.1.0) (are_short device_read device_text c.devices f.1.1.1)))
