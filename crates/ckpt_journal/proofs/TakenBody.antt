-- A body that is read as a record is the one that the record is spelled as.
use Rattle.std.proofs.Common.{◌≡◌, inl, inr, ℕ, zero, suc, ◌+◌, ◌-◌, ◌<◌, ◌≤◌, ◌^◌, ◌==◌, nat_lt, Bool, true, false, List, [], ◌∷◌, ◌++◌, length, get_or, take, drop, Option, Some, None, refl, sym, ◌∙◌, ap, subst, arith, append_assoc, append-nil, length-take, take-append-drop, if◌then◌else◌}
use Rattle.std.proofs.lemmas.Bool.{cases_lt}
use Rattle.std.proofs.lemmas.Bool.Decides.{nat_tests}
use Rattle.std.proofs.lemmas.List.{get_or-append-add, get_or-drop, get_or-take, get_or_past}
use Rattle.std.proofs.lemmas.Nat.{be_bytes_2}
use Rattle.std.specs.Prelude.{option_and_then, option_map}
use Rattle.std.specs.Int.{w16, to_be_bytes, from_be_bytes}
use Rattle.std.specs.List.{AllByRecursion, flat_map}
use Rattle.object_fields.specs.Keys.{device_text, key_text}
use Rattle.ckpt_journal.specs.Format.{BodyFits, ClaimFits, NameFits, NamesFit, body, claim_bytes, names_bytes, same_text, text_bytes}
use Rattle.ckpt_journal.specs.Names.{device_read, key_read, text_read}
use Rattle.ckpt_journal.specs.Reading.{alone, claim_alone, claim_at, claim_with, count_at, cut_at, name_at, names_at, names_from, raw_at, read_raw, record_of, uid_alone}
use Rattle.ckpt_journal.specs.declared.record.Claim.{Claim}
use Rattle.ckpt_journal.specs.declared.record.Record.{Record}
use Rattle.ckpt_journal.specs.declared.record.Record.TheVariants.{Begun, Prepared, Leaving, Gone}
use Rattle.ckpt_journal.proofs.Slashes.{device_printed, key_printed, text_printed}

abbrev pub IsBytes : List ℕ → Type 0
IsBytes bytes = (i : ℕ) → get_or bytes i 0 < 256

pub bytes_drop : (n : ℕ) (bytes : List ℕ) → IsBytes bytes → IsBytes (drop n bytes)
bytes_drop n bytes h i = rw get_or-drop (h (n + i))

pub bytes_take : (n : ℕ) (bytes : List ℕ) → IsBytes bytes → IsBytes (take n bytes)
bytes_take n bytes h i =
    elim (cases_lt i n) [
      | inl lt ↦ rw (get_or-take n bytes i 0 lt) (h i)
      | inr le ↦ rw (get_or_past (take n bytes) i 0 (omega (arith, length-take n bytes))) (omega arith)
    ]

pub bytes_rest : (prefix rest bytes : List ℕ) → bytes ≡ prefix ++ rest → IsBytes bytes → IsBytes rest
bytes_rest prefix rest bytes parts h i = subst (λ (n : ℕ). n < 256) (ap (λ (l : List ℕ). get_or l (length prefix + i) 0) parts ∙ get_or-append-add prefix rest i 0) (h (length prefix + i))

-- a step of a reading that went well
then_some : {X Y : Type 0} (f : X → Option Y) (o : Option X) (y : Y) → option_and_then f o ≡ Some y → (x : X) × (o ≡ Some x) × (f x ≡ Some y)
then_some f None y is = absurd cc
then_some f (Some x) y is = (x, refl, is)

map_some : {X Y : Type 0} (f : X → Y) (o : Option X) (y : Y) → option_map f o ≡ Some y → (x : X) × (o ≡ Some x) × (Some (f x) ≡ Some y)
map_some f None y is = absurd cc
map_some f (Some x) y is = (x, refl, is)

some_is : {X : Type 0} (d x y : X) → Some x ≡ Some y → x ≡ y
some_is {X = X} d x y is = ap (λ o. or_else o) is
  where
    or_else : Option X → X
    or_else None = d
    or_else (Some z) = z

unless : {X : Type 0} (b : Bool) (x : Option X) (y : X) → (if b then None else x) ≡ Some y → (b ≡ false) × (x ≡ Some y)
unless true x y e = absurd cc
unless false x y e = (refl, e)

lt_false : (a b : ℕ) → nat_lt a b ≡ false → b ≤ a
lt_false a b is = grind (arith, nat_tests)

-- what was read from the start, as it is spelled, and what follows it
record Front (spelled rest bytes : List ℕ) : Type 0 where
  parts : bytes ≡ spelled ++ rest
  small : IsBytes rest

count_taken : (n : ℕ) (rest bytes : List ℕ) → IsBytes bytes → count_at bytes ≡ Some (n, rest) → (n < 2 ^ 16) × Front (to_be_bytes w16 n) rest bytes
unfolding count_at
count_taken n rest bytes small is =
    let test = unless (nat_lt (length bytes) 2) (Some (from_be_bytes w16 (take 2 bytes), drop 2 bytes)) (n, rest) is in
    let long : 2 ≤ length bytes = lt_false _ _ test.0 in
    let prefix = bytes_take 2 bytes small in
    let pair = some_is (n, rest) (from_be_bytes w16 (take 2 bytes), drop 2 bytes) (n, rest) test.1 in
    let count : n ≡ from_be_bytes w16 (take 2 bytes) = sym (ap (λ (x : ℕ × List ℕ). x.0) pair) in
    let behind : drop 2 bytes ≡ rest = ap (λ (x : ℕ × List ℕ). x.1) pair in
    let spelled : to_be_bytes w16 n ≡ take 2 bytes = be_bytes_2 (take 2 bytes) n (omega (arith, length-take 2 bytes, long)) prefix count in
    (omega (arith, count, prefix 0, prefix 1), record { parts = sym (take-append-drop 2 bytes) ∙ (λ i. sym spelled i ++ behind i); small = subst IsBytes behind (bytes_drop 2 bytes small) })

raw_taken : (text rest bytes : List ℕ) → IsBytes bytes → raw_at bytes ≡ Some (text, rest) → (length text < 2 ^ 16) × Front (text_bytes text) rest bytes
raw_taken text rest bytes small is =
    let first = then_some cut_at (count_at bytes) (text, rest) is in
    let n = first.0.0 in
    let behind = first.0.1 in
    let head = count_taken n behind bytes small first.1 in
    let test = unless (nat_lt (length behind) n) (Some (take n behind, drop n behind)) (text, rest) first.2 in
    let pair = some_is (text, rest) (take n behind, drop n behind) (text, rest) test.1 in
    let text_is : take n behind ≡ text = ap (λ (x : List ℕ × List ℕ). x.0) pair in
    let rest_is : drop n behind ≡ rest = ap (λ (x : List ℕ × List ℕ). x.1) pair in
    let len : length text ≡ n = omega (arith, sym (ap length text_is), length-take n behind, lt_false _ _ test.0) in
    let split : behind ≡ text ++ rest = sym (take-append-drop n behind) ∙ (λ i. text_is i ++ rest_is i) in (
      omega (arith, len, head.0),
      record {
        parts = head.1.parts ∙ (λ i. to_be_bytes w16 (sym len i) ++ split i) ∙ sym (append_assoc (to_be_bytes w16 (length text)) text rest);
        small = bytes_rest text rest behind split head.1.small;
      },
    )

-- a reading returns only what is printed as the text that was read
abbrev Prints : {A : Type 0} → (List ℕ → Option A) → (A → List ℕ) → Type 0
Prints {A} reading text = (t : List ℕ) (a : A) → reading t ≡ Some a → text a ≡ t

name_taken : {A : Type 0} (reading : List ℕ → Option A) (text : A → List ℕ) → Prints reading text → (a : A) (rest bytes : List ℕ) → IsBytes bytes → name_at reading bytes ≡ Some (a, rest)
    → NameFits reading text a × Front (text_bytes (text a)) rest bytes
unfolding name_at
name_taken reading text prints a rest bytes small is =
    let first = then_some (read_raw reading) (raw_at bytes) (a, rest) is in
    let raw = first.0.0 in
    let behind = first.0.1 in
    let head = raw_taken raw behind bytes small first.1 in
    let second = map_some (λ x. (x, behind)) (reading raw) (a, rest) first.2 in
    let pair = some_is (a, rest) (second.0, behind) (a, rest) second.2 in
    let read : reading raw ≡ Some a = second.1 ∙ ap (λ x. Some x.0) pair in
    let rest_is : behind ≡ rest = ap (λ x. x.1) pair in
    let printed : text a ≡ raw = prints raw a read in (
      (omega (arith, ap length printed, head.0), ap reading printed ∙ read),
      record { parts = head.1.parts ∙ (λ i. text_bytes (sym printed i) ++ rest_is i); small = subst IsBytes rest_is head.1.small },
    )

each_taken : {A : Type 0} (reading : List ℕ → Option A) (text : A → List ℕ) → Prints reading text → (n : ℕ) (before all : List A) (rest bytes : List ℕ) → IsBytes bytes → names_from reading n before bytes ≡ Some (all, rest)
    → (items : List A) × (all ≡ before ++ items) × (length items ≡ n) × AllByRecursion (NameFits reading text) items × Front (flat_map (λ a. text_bytes (text a)) items) rest bytes
each_taken reading text prints zero before all rest bytes small is =
    let pair = some_is (all, rest) (before, bytes) (all, rest) is in
    ([], sym (ap (λ x. x.0) pair) ∙ sym (append-nil before), refl, tt, record { parts = ap (λ x. x.1) pair; small = subst IsBytes (ap (λ x. x.1) pair) small })
each_taken reading text prints (suc n) before all rest bytes small is =
    let first = then_some (λ x. names_from reading n (before ++ x.0 ∷ []) x.1) (name_at reading bytes) (all, rest) is in
    let a = first.0.0 in
    let head = name_taken reading text prints a first.0.1 bytes small first.1 in
    let more = each_taken reading text prints n (before ++ a ∷ []) all rest first.0.1 head.1.small first.2 in (
      a ∷ more.0,
      more.1 ∙ append_assoc before (a ∷ []) more.0,
      ap suc more.2,
      (head.0, more.3),
      record { parts = head.1.parts ∙ ap (λ l. text_bytes (text a) ++ l) more.4.parts ∙ sym (append_assoc (text_bytes (text a)) _ rest); small = more.4.small },
    )

names_taken : {A : Type 0} (reading : List ℕ → Option A) (text : A → List ℕ) → Prints reading text → (items : List A) (rest bytes : List ℕ) → IsBytes bytes → names_at reading bytes ≡ Some (items, rest)
    → NamesFit reading text items × Front (names_bytes text items) rest bytes
unfolding names_at
names_taken reading text prints items rest bytes small is =
    let first = then_some (λ x. names_from reading x.0 [] x.1) (count_at bytes) (items, rest) is in
    let n = first.0.0 in
    let head = count_taken n first.0.1 bytes small first.1 in
    let more = each_taken reading text prints n [] items rest first.0.1 head.1.small first.2 in
    let same : more.0 ≡ items = sym more.1 in
    let len : length items ≡ n = ap length (sym same) ∙ more.2 in (
      (omega (arith, len, head.0), subst (AllByRecursion (NameFits reading text)) same more.3),
      record {
        parts = head.1.parts ∙ (λ i. to_be_bytes w16 (sym len i) ++ more.4.parts i) ∙ ap (λ l. to_be_bytes w16 (length items) ++ (flat_map (λ a. text_bytes (text a)) l ++ rest)) same
            ∙ sym (append_assoc (to_be_bytes w16 (length items)) (flat_map (λ a. text_bytes (text a)) items) rest);
        small = more.4.small;
      },
    )

claim_taken : (c : Claim) (rest bytes : List ℕ) → IsBytes bytes → claim_at bytes ≡ Some (c, rest) → ClaimFits c × Front (claim_bytes c) rest bytes
unfolding claim_at
claim_taken c rest bytes small is =
    let first = then_some (λ u. option_and_then (λ k. option_and_then (claim_with u.0 k.0) (names_at key_read k.1)) (name_at key_read u.1)) (name_at text_read bytes) (c, rest) is in
    let uid = first.0.0 in
    let second = then_some (λ k. option_and_then (claim_with uid k.0) (names_at key_read k.1)) (name_at key_read first.0.1) (c, rest) first.2 in
    let key = second.0.0 in
    let third = then_some (claim_with uid key) (names_at key_read second.0.1) (c, rest) second.2 in
    let pods = third.0.0 in
    let last = map_some (λ x. (record { uid = uid; key = key; pods = pods; devices = x.0 }, x.1)) (names_at device_read third.0.1) (c, rest) third.2 in
    let devices = last.0.0 in
    let behind = last.0.1 in
    let pair = some_is (c, rest) (record { uid = uid; key = key; pods = pods; devices = devices }, behind) (c, rest) last.2 in
    let a = name_taken text_read same_text (λ t u e. text_printed t u e) uid first.0.1 bytes small first.1 in
    let b = name_taken key_read key_text key_printed key second.0.1 first.0.1 a.1.small second.1 in
    let d = names_taken key_read key_text key_printed pods third.0.1 second.0.1 b.1.small third.1 in
    let e = names_taken device_read device_text device_printed devices behind third.0.1 d.1.small last.1 in
    let made : Claim = record { uid = uid; key = key; pods = pods; devices = devices } in
    let same : made ≡ c = ap (λ (x : Claim × List ℕ). x.0) pair in
    let rest_is : behind ≡ rest = ap (λ (x : Claim × List ℕ). x.1) pair in
    let ub = text_bytes uid in
    let kb = text_bytes (key_text key) in
    let pb = names_bytes key_text pods in
    let db = names_bytes device_text devices in
    let laid : bytes ≡ claim_bytes made ++ behind =
    a.1.parts ∙ ap (λ l. ub ++ l) (b.1.parts ∙ ap (λ l. kb ++ l) (d.1.parts ∙ ap (λ l. pb ++ l) e.1.parts))
    ∙ ap (λ l. ub ++ (kb ++ l)) (sym (append_assoc pb db behind)) ∙ ap (λ l. ub ++ l) (sym (append_assoc kb (pb ++ db) behind)) ∙ sym (append_assoc ub (kb ++ (pb ++ db)) behind) in (
      subst ClaimFits same (a.0, (b.0, (d.0, e.0))),
      record { parts = laid ∙ (λ i. claim_bytes (same i) ++ rest_is i); small = subst IsBytes rest_is e.1.small },
    )

alone_is : {A : Type 0} (x : A × List ℕ) (a : A) → alone x ≡ Some a → (x.0 ≡ a) × (x.1 ≡ [])
alone_is (y, []) a is = (some_is a y a is, refl)
alone_is (y, b ∷ bs) a is = absurd cc

claim_alone_taken : (c : Claim) (bytes : List ℕ) → IsBytes bytes → claim_alone bytes ≡ Some c → ClaimFits c × (bytes ≡ claim_bytes c)
claim_alone_taken c bytes small is =
    let first = then_some alone (claim_at bytes) c is in
    let same = alone_is first.0 c first.2 in
    let whole : claim_at bytes ≡ Some (c, []) = first.1 ∙ (λ i. Some (same.0 i, same.1 i)) in
    let taken = claim_taken c [] bytes small whole in
    (taken.0, taken.1.parts ∙ append-nil (claim_bytes c))

uid_alone_taken : (uid bytes : List ℕ) → IsBytes bytes → uid_alone bytes ≡ Some uid → NameFits text_read same_text uid × (bytes ≡ text_bytes uid)
uid_alone_taken uid bytes small is =
    let first = then_some alone (name_at text_read bytes) uid is in
    let same = alone_is first.0 uid first.2 in
    let whole : name_at text_read bytes ≡ Some (uid, []) = first.1 ∙ (λ i. Some (same.0 i, same.1 i)) in
    let taken = name_taken text_read same_text (λ t u e. text_printed t u e) uid [] bytes small whole in
    (taken.0, taken.1.parts ∙ append-nil (text_bytes uid))

-- a record of a kind, by what its fields are read as
module _ (r : Record) (kind : ℕ) (fields : List ℕ) (small : IsBytes fields) where
  abbrev Taken : Type 0
  Taken = BodyFits r × (kind ∷ fields ≡ body r)

  begun : kind ≡ 1 → option_map Begun (claim_alone fields) ≡ Some r → Taken
  begun one is =
      let found = map_some Begun (claim_alone fields) r is in
      let taken = claim_alone_taken found.0 fields small found.1 in
      let same : Begun found.0 ≡ r = some_is r (Begun found.0) r found.2 in
      (subst BodyFits same (taken.0.0, taken.0), (λ i. one i ∷ taken.1 i) ∙ ap body same)

  prepared : kind ≡ 2 → option_map Prepared (claim_alone fields) ≡ Some r → Taken
  prepared two is =
      let found = map_some Prepared (claim_alone fields) r is in
      let taken = claim_alone_taken found.0 fields small found.1 in
      let same : Prepared found.0 ≡ r = some_is r (Prepared found.0) r found.2 in
      (subst BodyFits same (taken.0.0, taken.0), (λ i. two i ∷ taken.1 i) ∙ ap body same)

  leaving : kind ≡ 3 → option_map Leaving (uid_alone fields) ≡ Some r → Taken
  leaving three is =
      let found = map_some Leaving (uid_alone fields) r is in
      let taken = uid_alone_taken found.0 fields small found.1 in
      let same : Leaving found.0 ≡ r = some_is r (Leaving found.0) r found.2 in
      (subst BodyFits same (taken.0, tt), (λ i. three i ∷ taken.1 i) ∙ ap body same)

  gone : kind ≡ 4 → option_map Gone (uid_alone fields) ≡ Some r → Taken
  gone four is =
      let found = map_some Gone (uid_alone fields) r is in
      let taken = uid_alone_taken found.0 fields small found.1 in
      let same : Gone found.0 ≡ r = some_is r (Gone found.0) r found.2 in
      (subst BodyFits same (taken.0, tt), (λ i. four i ∷ taken.1 i) ∙ ap body same)

  eq_true : (n : ℕ) → (kind == n) ≡ true → kind ≡ n
  eq_true n is = grind (arith, nat_tests)

  four_or_none : (b : Bool) → (kind == 4) ≡ b → (if b then option_map Gone (uid_alone fields) else None) ≡ Some r → Taken
  four_or_none true is e = gone (eq_true 4 is) e
  four_or_none false is e = absurd cc

  three_or : (b : Bool) → (kind == 3) ≡ b → (if b then option_map Leaving (uid_alone fields) else if kind == 4 then option_map Gone (uid_alone fields) else None) ≡ Some r → Taken
  three_or true is e = leaving (eq_true 3 is) e
  three_or false is e = four_or_none (kind == 4) refl e

  two_or : (b : Bool) → (kind == 2) ≡ b
      → (if b then option_map Prepared (claim_alone fields) else if kind == 3 then option_map Leaving (uid_alone fields) else if kind == 4 then option_map Gone (uid_alone fields) else None) ≡ Some r → Taken
  two_or true is e = prepared (eq_true 2 is) e
  two_or false is e = three_or (kind == 3) refl e

  one_or : (b : Bool) → (kind == 1) ≡ b
      → (if b then option_map Begun (claim_alone fields) else if kind == 2 then option_map Prepared (claim_alone fields) else if kind == 3 then option_map Leaving (uid_alone fields) else if kind == 4 then option_map Gone (uid_alone fields) else None) ≡ Some r → Taken
  one_or true is e = begun (eq_true 1 is) e
  one_or false is e = two_or (kind == 2) refl e

pub record_taken : (r : Record) (bytes : List ℕ) → IsBytes bytes → record_of bytes ≡ Some r → BodyFits r × (bytes ≡ body r)
unfolding record_of
record_taken r [] small is = absurd cc
record_taken r (kind ∷ fields) small is = one_or r kind fields (bytes_rest (kind ∷ []) fields (kind ∷ fields) refl small) (kind == 1) refl is
