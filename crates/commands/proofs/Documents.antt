-- When the bytes of a document are a JSON object, and what they ask for.
use Rattle.std.proofs.Common.{ℕ, List, ◌≡◌, ◌∙◌, Bool, true, false, refl, sym, ap}
use Rattle.std.specs.Prelude.{Option, None, Some, IsUtf8, is_some, option_and_then, option_map}
use Rattle.std.specs.Str.{is_utf8}
use Rattle.std.proofs.lemmas.Str.{IsUtf8-from_is_utf8, is_utf8-from_IsUtf8}
use Rattle.serde_json.specs.Data.{Data, Members}
use Rattle.serde_json.specs.Find.{as_object}
use Rattle.serde_json.specs.Read.{read}
use Rattle.commands.specs.declared.given.Given.{Given}
use Rattle.commands.specs.declared.given.GivenError.{GivenError}
use Rattle.commands.specs.declared.given.GivenError.TheVariants as error
use Rattle.commands.specs.Commands.{given_of}
use Rattle.commands.specs.Readings.{Asks, Fails, FailsJson, NotACommand, asked, json_of, object_in, reading, reading_of}

-- a text is the object that its value is
pub text_is : (bytes : List ℕ) (d : Option Data) → IsUtf8 bytes → read bytes ≡ d → json_of bytes ≡ option_and_then object_in d
text_is bytes d utf8 is = rw (is_utf8-from_IsUtf8 bytes utf8, is)

not_true : (b : Bool) → (b ≡ true → ⊥) → b ≡ false
not_true true h = absurd (h cc)
not_true false h = cc

-- what is no text is no object
pub no_text_is : (bytes : List ℕ) → (IsUtf8 bytes → ⊥) → json_of bytes ≡ None
no_text_is bytes bad = rw (not_true (is_utf8 bytes) (λ h. bad (IsUtf8-from_is_utf8 bytes h)))

some_is : (o : Option Members) (d : Data) → is_some o ≡ true → option_map (λ (m : Members). d) o ≡ Some d
some_is None d e = absurd (cc)
some_is (Some m) d e = refl

-- a value that is an object
pub object_is : (d : Data) → is_some (as_object d) ≡ true → object_in d ≡ Some d
object_is d e = some_is (as_object d) d e

-- what is no object asks for nothing
pub json_fails : (attempts : ℕ) (bytes : List ℕ) (e : GivenError) → FailsJson e (json_of bytes) → Fails e (reading attempts bytes)
unfolding reading
json_fails attempts bytes error.NotJson fails = ap (reading_of attempts) fails
json_fails attempts bytes error.NotACommand fails = absurd fails
json_fails attempts bytes error.Memory fails = tt

-- an object that asks for something
pub asks_is : (attempts : ℕ) (bytes : List ℕ) (d : Data) (o : Option (List Given)) (given : List Given) → json_of bytes ≡ Some d → o ≡ given_of attempts d → o ≡ Some given → reading attempts bytes ≡ Asks given
unfolding reading
asks_is attempts bytes d o given value is some = ap (reading_of attempts) value ∙ ap asked (sym is ∙ some)

-- and one that asks for nothing
pub refused_is : (attempts : ℕ) (bytes : List ℕ) (d : Data) (o : Option (List Given)) → json_of bytes ≡ Some d → o ≡ given_of attempts d → o ≡ None → reading attempts bytes ≡ NotACommand
unfolding reading
refused_is attempts bytes d o value is none = ap (reading_of attempts) value ∙ ap asked (sym is ∙ none)
