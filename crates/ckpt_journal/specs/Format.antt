-- How a journal is spelled. All numbers are big endian.
use Rattle.std.specs.Prelude.{◌≡◌, ℕ, ◌<◌, ◌+◌, ◌^◌, nat_lt, Bool, true, ◌||◌, List, [], ◌∷◌, ◌++◌, length, IfSome, Option, None, Some}
use Rattle.std.specs.List.{AllByRecursion, flat_map, list_all, list_any}
use Rattle.std.specs.Str.{is_utf8}
use Rattle.std.specs.Int.{w16, w32, to_be_bytes}
use Rattle.object_fields.specs.Keys.{device_text, key_text}
use Rattle.ckpt_journal.specs.Names.{DeviceReadsBack, KeyReadsBack, device_is_text, device_read, key_is_text, key_read, text_read}
use Rattle.ckpt_journal.specs.declared.record.Claim.{Claim}
use Rattle.ckpt_journal.specs.declared.record.Record.{Record}
use Rattle.ckpt_journal.specs.declared.record.Record.TheVariants.{Begun, Prepared, Leaving, Gone}

-- ---- bytes

-- its length in 16 bits, and its bytes
abbrev pub text_bytes : List ℕ → List ℕ
text_bytes text = to_be_bytes w16 (length text) ++ text

-- the count in 16 bits, and the printed form of each
abbrev pub names_bytes : {A : Type 0} → (A → List ℕ) → List A → List ℕ
names_bytes text items = to_be_bytes w16 (length items) ++ flat_map (λ a. text_bytes (text a)) items

abbrev pub claim_bytes : Claim → List ℕ
claim_bytes c = text_bytes c.uid ++ (text_bytes (key_text c.key) ++ (names_bytes key_text c.pods ++ names_bytes device_text c.devices))

abbrev pub kind_byte : Record → ℕ
kind_byte (Begun c) = 1
kind_byte (Prepared c) = 2
kind_byte (Leaving uid) = 3
kind_byte (Gone uid) = 4

abbrev pub fields_bytes : Record → List ℕ
fields_bytes (Begun c) = claim_bytes c
fields_bytes (Prepared c) = claim_bytes c
fields_bytes (Leaving uid) = text_bytes uid
fields_bytes (Gone uid) = text_bytes uid

-- a kind byte, and the fields
abbrev pub body : Record → List ℕ
body r = kind_byte r ∷ fields_bytes r

-- what is between two gates: the length of the body in 32 bits, and the body
unfoldable pub block : Record → List ℕ
block r = to_be_bytes w32 (length (body r)) ++ body r

-- records after open gates, each of them 5a
abbrev pub blocks : List Record → List ℕ
blocks [] = []
blocks (r ∷ rs) = 90 ∷ block r ++ blocks rs

-- ---- limits

-- a text, or a count, over 65,535
abbrev pub is_long_text : List ℕ → Bool
is_long_text text = nat_lt 65535 (length text)

abbrev pub are_long : {A : Type 0} → (A → List ℕ) → List A → Bool
are_long text items = nat_lt 65535 (length items) || list_any (λ a. is_long_text (text a)) items

abbrev pub is_long_claim : Claim → Bool
is_long_claim c = is_long_text c.uid || (is_long_text (key_text c.key) || (are_long key_text c.pods || are_long device_text c.devices))

-- a text or a count of the record is over 65,535
abbrev pub is_long : Record → Bool
is_long (Begun c) = is_long_claim c
is_long (Prepared c) = is_long_claim c
is_long (Leaving uid) = is_long_text uid
is_long (Gone uid) = is_long_text uid

-- ---- what is read as it was spelled

-- each key and device id of the record is the one that its printed form reads as
abbrev pub ClaimReadsBack : Claim → Type 0
ClaimReadsBack c = KeyReadsBack c.key × (AllByRecursion KeyReadsBack c.pods × AllByRecursion DeviceReadsBack c.devices)

abbrev pub ReadsBack : Record → Type 0
ReadsBack (Begun c) = ClaimReadsBack c
ReadsBack (Prepared c) = ClaimReadsBack c
ReadsBack (Leaving uid) = Unit {0}
ReadsBack (Gone uid) = Unit {0}

-- the parts of its names are texts
pub record ClaimIsText (c : Claim) : Type 0 where
  pub uid : is_utf8 c.uid ≡ true
  pub key : key_is_text c.key ≡ true
  pub pods : list_all key_is_text c.pods ≡ true
  pub devices : list_all device_is_text c.devices ≡ true

abbrev pub IsText : Record → Type 0
IsText (Begun c) = ClaimIsText c
IsText (Prepared c) = ClaimIsText c
IsText (Leaving uid) = is_utf8 uid ≡ true
IsText (Gone uid) = is_utf8 uid ≡ true

-- a name whose text is short and reads as it
abbrev pub NameFits : {A : Type 0} → (List ℕ → Option A) → (A → List ℕ) → A → Type 0
NameFits reading text a = (length (text a) < 2 ^ 16) × (reading (text a) ≡ Some a)

abbrev pub NamesFit : {A : Type 0} → (List ℕ → Option A) → (A → List ℕ) → List A → Type 0
NamesFit reading text items = (length items < 2 ^ 16) × AllByRecursion (NameFits reading text) items

abbrev pub same_text : List ℕ → List ℕ
same_text text = text

abbrev pub ClaimFits : Claim → Type 0
ClaimFits c = NameFits text_read same_text c.uid × (NameFits key_read key_text c.key × (NamesFit key_read key_text c.pods × NamesFit device_read device_text c.devices))

abbrev pub uid_of : Record → List ℕ
uid_of (Begun c) = c.uid
uid_of (Prepared c) = c.uid
uid_of (Leaving uid) = uid
uid_of (Gone uid) = uid

abbrev pub claim_of : Record → Option Claim
claim_of (Begun c) = Some c
claim_of (Prepared c) = Some c
claim_of (Leaving uid) = None
claim_of (Gone uid) = None

abbrev pub BodyFits : Record → Type 0
BodyFits r = NameFits text_read same_text (uid_of r) × IfSome (claim_of r) ClaimFits

-- the record has a spelling, and that reads as it
abbrev pub Fits : Record → Type 0
Fits r = BodyFits r × (length (body r) < 2 ^ 32)
