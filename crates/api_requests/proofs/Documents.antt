-- When the bytes of a body are a JSON object.
use Rattle.std.proofs.Common.{ℕ, List, ◌≡◌, Bool, true, false, refl}
use Rattle.std.specs.Prelude.{Option, None, Some, IsUtf8, is_some, option_and_then, option_map}
use Rattle.std.specs.Str.{is_utf8}
use Rattle.std.proofs.lemmas.Str.{IsUtf8-from_is_utf8, is_utf8-from_IsUtf8}
use Rattle.serde_json.specs.Data.{Data, Members}
use Rattle.serde_json.specs.Find.{as_object}
use Rattle.serde_json.specs.Read.{read}
use Rattle.commands.specs.Readings.{json_of, object_in}

-- a text is the object that its value is
pub text_is : (bytes : List ℕ) (d : Option Data) → IsUtf8 bytes → read bytes ≡ d → json_of bytes ≡ option_and_then object_in d
text_is bytes d utf8 is = rw (is_utf8-from_IsUtf8 bytes utf8, is)

not_true : (b : Bool) → (b ≡ true → ⊥) → b ≡ false
not_true true h = absurd (h cc)
not_true false h = cc

-- what is no text is no object
pub no_text_is : (bytes : List ℕ) → (IsUtf8 bytes → ⊥) → json_of bytes ≡ None
no_text_is bytes bad = rw (not_true (is_utf8 bytes) (λ h. bad (IsUtf8-from_is_utf8 bytes h)))

some_is : (o : Option Members) (d : Data) → is_some o ≡ true → option_map (λ (m : Members). d) o ≡ Some d
some_is None d e = absurd (cc)
some_is (Some m) d e = refl

-- a value that is an object
pub object_is : (d : Data) → is_some (as_object d) ≡ true → object_in d ≡ Some d
object_is d e = some_is (as_object d) d e
