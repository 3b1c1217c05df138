-- How the texts of a record are read: a uid, a key and a device id are one text each, in their printed
-- form.
use Rattle.std.specs.Prelude.{◌≡◌, ℕ, ◌+◌, ◌-◌, nat_lt, ◌==◌, Bool, ◌&&◌, List, [], ◌∷◌, take, drop, Option, Some, None, option_and_then, option_map, if◌then◌else◌}
use Rattle.std.specs.Str.{is_utf8}
use Rattle.object_fields.specs.Keys.{device_text, key_text}
use Rattle.object_fields.specs.declared.key.Key.{Key}
use Rattle.object_fields.specs.declared.key.DeviceId.{DeviceId}

-- the offset of the first slash, if the first of these bytes has this offset
abbrev pub first_slash_from : ℕ → List ℕ → Option ℕ
first_slash_from at [] = None
first_slash_from at (b ∷ bs) = if b == 47 then Some at else first_slash_from (at + 1) bs

-- the offset of the last slash, or the one found before
abbrev pub last_slash_from : ℕ → Option ℕ → List ℕ → Option ℕ
last_slash_from at found [] = found
last_slash_from at found (b ∷ bs) = last_slash_from (at + 1) (if b == 47 then Some at else found) bs

-- the parts of a key's text: its namespace ends at the first slash, and none has the empty text. A text
-- with an empty part before its first slash is no key's.
abbrev pub by_first : {K : Type 0} → (List ℕ → List ℕ → Option K) → List ℕ → Option ℕ → Option K
by_first make text None = make [] text
by_first make text (Some at) = if at == 0 then None else make (take at text) (drop (at + 1) text)

-- the parts of a device's text: the driver ends at the first slash, and the device begins after the last
abbrev pub by_both : {D : Type 0} → (List ℕ → List ℕ → List ℕ → Option D) → List ℕ → Option ℕ → Option ℕ → Option D
by_both make text None last = None
by_both make text (Some first) None = None
by_both make text (Some first) (Some last) = if nat_lt first last then make (take first text) (take (last - (first + 1)) (drop (first + 1) text)) (drop (last + 1) text) else None

abbrev pub key_with : List ℕ → List ℕ → Option Key
key_with namespace name = Some (record { namespace = namespace; name = name })

abbrev pub device_with : List ℕ → List ℕ → List ℕ → Option DeviceId
device_with driver pool device = Some (record { driver = driver; pool = pool; device = device })

-- the key that a text reads as, whatever its bytes
abbrev pub key_of : List ℕ → Option Key
key_of text = by_first key_with text (first_slash_from 0 text)

-- the device id that a text reads as, whatever its bytes
abbrev pub device_of : List ℕ → Option DeviceId
device_of text = by_both device_with text (first_slash_from 0 text) (last_slash_from 0 None text)

-- bytes that are a text
abbrev pub text_read : List ℕ → Option (List ℕ)
text_read text = if is_utf8 text then Some text else None

-- the key of these parts, if they are texts
abbrev pub key_made : List ℕ → List ℕ → Option Key
key_made namespace name = option_and_then (λ a. option_map (λ b. record { namespace = a; name = b }) (text_read name)) (text_read namespace)

abbrev pub device_made : List ℕ → List ℕ → List ℕ → Option DeviceId
device_made driver pool device =
    option_and_then (λ a. option_and_then (λ b. option_map (λ c. record { driver = a; pool = b; device = c }) (text_read device)) (text_read pool)) (text_read driver)

-- the key that bytes read as
abbrev pub key_read : List ℕ → Option Key
key_read bytes = by_first key_made bytes (first_slash_from 0 bytes)

-- the device id that bytes read as
abbrev pub device_read : List ℕ → Option DeviceId
device_read bytes = by_both device_made bytes (first_slash_from 0 bytes) (last_slash_from 0 None bytes)

-- a key is the one that its printed form reads as
abbrev pub KeyReadsBack : Key → Type 0
KeyReadsBack k = key_of (key_text k) ≡ Some k

-- a device id is the one that its printed form reads as
abbrev pub DeviceReadsBack : DeviceId → Type 0
DeviceReadsBack d = device_of (device_text d) ≡ Some d

-- the parts are texts, as those of every key are that the program holds
abbrev pub key_is_text : Key → Bool
key_is_text k = is_utf8 k.namespace && is_utf8 k.name

abbrev pub device_is_text : DeviceId → Bool
device_is_text d = is_utf8 d.driver && is_utf8 d.pool && is_utf8 d.device
