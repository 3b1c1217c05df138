-- What is spelled as a body is read as its record.
use Rattle.std.proofs.Common.{◌≡◌, ℕ, ◌+◌, ◌<◌, ◌≤◌, ◌^◌, nat_lt, false, List, [], ◌∷◌, ◌++◌, length, take, drop, Option, Some, None, refl, sym, ◌∙◌, ap, arith, append_assoc, append-nil, length-append, if◌then◌else◌}
use Rattle.std.proofs.lemmas.Bool.Decides.{nat_tests}
use Rattle.std.proofs.lemmas.List.{take_at, drop_at}
use Rattle.std.proofs.lemmas.Nat.{from_be_bytes-to_be_bytes_2}
use Rattle.std.specs.Prelude.{option_and_then, option_map}
use Rattle.std.specs.Int.{w16, to_be_bytes, from_be_bytes}
use Rattle.std.specs.List.{AllByRecursion, flat_map}
use Rattle.object_fields.specs.Keys.{device_text, key_text}
use Rattle.ckpt_journal.specs.Format.{BodyFits, ClaimFits, NameFits, NamesFit, body, claim_bytes, names_bytes, same_text, text_bytes}
use Rattle.ckpt_journal.specs.Names.{device_read, key_read, text_read}
use Rattle.ckpt_journal.specs.Reading.{alone, claim_alone, claim_at, claim_with, count_at, cut_at, name_at, names_at, names_from, raw_at, read_raw, record_of, uid_alone}
use Rattle.ckpt_journal.specs.declared.record.Claim.{Claim}
use Rattle.ckpt_journal.specs.declared.record.Record.{Record}
use Rattle.ckpt_journal.specs.declared.record.Record.TheVariants.{Begun, Prepared, Leaving, Gone}

not_lt : (a b : ℕ) → b ≤ a → nat_lt a b ≡ false
not_lt a b le = grind (arith, nat_tests)

with_count : (w rest : List ℕ) → length w ≡ 2 → count_at (w ++ rest) ≡ Some (from_be_bytes w16 w, rest)
unfolding count_at
with_count w rest is =
    let test = not_lt (length (w ++ rest)) 2 (omega (arith, is, length-append w rest)) in
    ap (λ t. if t then None else Some (from_be_bytes w16 (take 2 (w ++ rest)), drop 2 (w ++ rest))) test
    ∙ (λ i. Some (from_be_bytes w16 (take_at w rest 2 is i), drop_at w rest 2 is i))

count_again : (n : ℕ) (rest : List ℕ) → n < 2 ^ 16 → count_at (to_be_bytes w16 n ++ rest) ≡ Some (n, rest)
count_again n rest small = with_count (to_be_bytes w16 n) rest refl ∙ ap (λ k. Some (k, rest)) (from_be_bytes-to_be_bytes_2 n small)

cut_again : (text rest : List ℕ) → cut_at (length text, text ++ rest) ≡ Some (text, rest)
cut_again text rest =
    let test = not_lt (length (text ++ rest)) (length text) (omega (arith, length-append text rest)) in
    ap (λ t. if t then None else Some (take (length text) (text ++ rest), drop (length text) (text ++ rest))) test
    ∙ (λ i. Some (take_at text rest (length text) refl i, drop_at text rest (length text) refl i))

raw_again : (text rest : List ℕ) → length text < 2 ^ 16 → raw_at (text_bytes text ++ rest) ≡ Some (text, rest)
raw_again text rest small =
    ap raw_at (append_assoc (to_be_bytes w16 (length text)) text rest) ∙ ap (option_and_then cut_at) (count_again (length text) (text ++ rest) small) ∙ cut_again text rest

name_again : {A : Type 0} (reading : List ℕ → Option A) (text : A → List ℕ) (a : A) (rest : List ℕ) → NameFits reading text a → name_at reading (text_bytes (text a) ++ rest) ≡ Some (a, rest)
unfolding name_at
name_again reading text a rest fits = ap (option_and_then (read_raw reading)) (raw_again (text a) rest fits.0) ∙ ap (option_map (λ x. (x, rest))) fits.1

each_again : {A : Type 0} (reading : List ℕ → Option A) (text : A → List ℕ) (items before : List A) (rest : List ℕ) → AllByRecursion (NameFits reading text) items
    → names_from reading (length items) before (flat_map (λ a. text_bytes (text a)) items ++ rest) ≡ Some (before ++ items, rest)
each_again reading text [] before rest fits = ap (λ xs. Some (xs, rest)) (sym (append-nil before))
each_again reading text (a ∷ items) before rest fits =
    let more = flat_map (λ a. text_bytes (text a)) items in
    ap (λ bytes. option_and_then (λ x. names_from reading (length items) (before ++ x.0 ∷ []) x.1) (name_at reading bytes)) (append_assoc (text_bytes (text a)) more rest)
    ∙ ap (option_and_then (λ x. names_from reading (length items) (before ++ x.0 ∷ []) x.1)) (name_again reading text a (more ++ rest) fits.0)
    ∙ each_again reading text items (before ++ a ∷ []) rest fits.1
    ∙ ap (λ xs. Some (xs, rest)) (append_assoc before (a ∷ []) items)

names_again : {A : Type 0} (reading : List ℕ → Option A) (text : A → List ℕ) (items : List A) (rest : List ℕ) → NamesFit reading text items → names_at reading (names_bytes text items ++ rest) ≡ Some (items, rest)
unfolding names_at
names_again reading text items rest fits =
    let all = flat_map (λ a. text_bytes (text a)) items in
    ap (λ bytes. option_and_then (λ x. names_from reading x.0 [] x.1) (count_at bytes)) (append_assoc (to_be_bytes w16 (length items)) all rest)
    ∙ ap (option_and_then (λ x. names_from reading x.0 [] x.1)) (count_again (length items) (all ++ rest) fits.0)
    ∙ each_again reading text items [] rest fits.1

claim_again : (c : Claim) (rest : List ℕ) → ClaimFits c → claim_at (claim_bytes c ++ rest) ≡ Some (c, rest)
unfolding claim_at
claim_again c rest fits =
    let uid = text_bytes c.uid in
    let key = text_bytes (key_text c.key) in
    let pods = names_bytes key_text c.pods in
    let devices = names_bytes device_text c.devices in
    let laid : claim_bytes c ++ rest ≡ uid ++ (key ++ (pods ++ (devices ++ rest))) =
    append_assoc uid (key ++ (pods ++ devices)) rest ∙ ap (λ l. uid ++ l) (append_assoc key (pods ++ devices) rest ∙ ap (λ l. key ++ l) (append_assoc pods devices rest)) in
    ap (λ bytes. option_and_then (λ u. option_and_then (λ k. option_and_then (claim_with u.0 k.0) (names_at key_read k.1)) (name_at key_read u.1)) (name_at text_read bytes)) laid
    ∙ ap (option_and_then (λ u. option_and_then (λ k. option_and_then (claim_with u.0 k.0) (names_at key_read k.1)) (name_at key_read u.1))) (name_again text_read same_text c.uid (key ++ (pods ++ (devices ++ rest))) fits.0)
    ∙ ap (option_and_then (λ k. option_and_then (claim_with c.uid k.0) (names_at key_read k.1))) (name_again key_read key_text c.key (pods ++ (devices ++ rest)) fits.1.0)
    ∙ ap (option_and_then (claim_with c.uid c.key)) (names_again key_read key_text c.pods (devices ++ rest) fits.1.1.0)
    ∙ ap (option_map (λ x. (record { uid = c.uid; key = c.key; pods = c.pods; devices = x.0 }, x.1))) (names_again device_read device_text c.devices rest fits.1.1.1)

claim_alone_again : (c : Claim) → ClaimFits c → claim_alone (claim_bytes c) ≡ Some c
claim_alone_again c fits = ap claim_alone (sym (append-nil (claim_bytes c))) ∙ ap (option_and_then alone) (claim_again c [] fits)

uid_alone_again : (uid : List ℕ) → NameFits text_read same_text uid → uid_alone (text_bytes uid) ≡ Some uid
uid_alone_again uid fits = ap uid_alone (sym (append-nil (text_bytes uid))) ∙ ap (option_and_then alone) (name_again text_read same_text uid [] fits)

pub record_again : (r : Record) → BodyFits r → record_of (body r) ≡ Some r
unfolding record_of
record_again (Begun c) fits = ap (option_map Begun) (claim_alone_again c fits.1)
record_again (Prepared c) fits = ap (option_map Prepared) (claim_alone_again c fits.1)
record_again (Leaving uid) fits = ap (option_map Leaving) (uid_alone_again uid fits.0)
record_again (Gone uid) fits = ap (option_map Gone) (uid_alone_again uid fits.0)
