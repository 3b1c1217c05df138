-- Texts of documents as printed values: decimal numbers in names, and bytes that are ASCII.
use Rattle.std.proofs.Common.{ℕ, ◌≡◌, ◌∙◌, ◌<◌, ◌≤◌, ◌^◌, ◌++◌, List, [], ◌∷◌, true, nat_lt, Some, None, length, append_assoc, append-nil, refl, sym, ap, ap₂, arith, option_and_then, if◌then◌else◌}
use Rattle.std.specs.Prelude.{decimal}
use Rattle.std.specs.Str.Parse.{AllDigits}
use Rattle.std.proofs.lemmas.Bool.{and_from, and_parts, lt-ltb}
use Rattle.std.proofs.lemmas.Fmt.{decimal_is_IsNumeral}
use Rattle.std.proofs.lemmas.Str.{is_utf8-from_IsUtf8}
use Rattle.std.proofs.lemmas.Str.Parse.{digit_at}
use Rattle.json.specs.Print.{escape, print}
use Rattle.json.specs.Tree.{HasNumbers, depth, json_tokens}
use Rattle.json.specs.Json as json
use Rattle.json.proofs.Printed.Strings.{escape_byte_plain}
use Rattle.json.proofs.Printed.Tokens.{tokens-print}
use Rattle.json.proofs.Printed.Trees.{ArePrintable-json_tokens, value-json_tokens}
use Rattle.json.proofs.Printed.Utf8.{IsUtf8-are_ascii, are_ascii}
use Rattle.serde_json.specs.Data.{Data, Members, object}
use Rattle.serde_json.specs.Read.{max_depth, of_json, read}
use Rattle.commands.specs.Readings.{json_of, object_in}

-- ---- digits

digits_plain : (ds : List ℕ) → AllDigits 10 ds → escape ds ≡ ds
digits_plain [] all = refl
digits_plain (d ∷ ds) all =
    let r = digit_at (d ∷ ds) 0 all (omega arith) in
    ap₂ (λ (a b : List ℕ). a ++ b) (escape_byte_plain d (λ e. omega (arith, r, e)) (λ e. omega (arith, r, e)) (omega (arith, r))) (digits_plain ds all.1)

digits_ascii : (ds : List ℕ) → AllDigits 10 ds → are_ascii ds ≡ true
digits_ascii [] all = refl
digits_ascii (d ∷ ds) all =
    let r = digit_at (d ∷ ds) 0 all (omega arith) in
    and_from (nat_lt d 128) (are_ascii ds) (lt-ltb d 128 (omega (arith, r))) (digits_ascii ds all.1)

pub decimal_plain : (n : ℕ) → n < 2 ^ 64 → escape (decimal n) ≡ decimal n
decimal_plain n small = digits_plain (decimal n) (decimal_is_IsNumeral n small).0.1

pub decimal_ascii : (n : ℕ) → n < 2 ^ 64 → are_ascii (decimal n) ≡ true
decimal_ascii n small = digits_ascii (decimal n) (decimal_is_IsNumeral n small).0.1

pub ascii_append : (xs ys : List ℕ) → are_ascii xs ≡ true → are_ascii ys ≡ true → are_ascii (xs ++ ys) ≡ true
ascii_append [] ys e f = f
ascii_append (x ∷ xs) ys e f = let p = and_parts _ _ e in and_from (nat_lt x 128) (are_ascii (xs ++ ys)) p.0 (ascii_append xs ys p.1 f)

-- ---- a document that is a printed value

-- a text that is the print of a value, which is this data
pub record Printed (bytes : List ℕ) (d : Data) : Type 0 where
  pub json : json.Json
  pub is : bytes ≡ print (json_tokens json)
  pub ascii : are_ascii bytes ≡ true
  pub few : length bytes ≤ 700
  pub numbers : HasNumbers json
  pub shallow : depth json ≤ max_depth
  pub value : of_json json ≡ Some d

pub read_printed : (bytes : List ℕ) (d : Data) → Printed bytes d → read bytes ≡ Some d
read_printed bytes d p =
    ap read p.is
    ∙ ap (λ ts. option_and_then of_json (option_and_then (λ q. json.if_last q.0 q.1) (json.value max_depth ts)))
    (tokens-print (json_tokens p.json) (ArePrintable-json_tokens p.json p.numbers) ∙ sym (append-nil (json_tokens p.json)))
    ∙ ap (λ r. option_and_then of_json (option_and_then (λ q. json.if_last q.0 q.1) r)) (value-json_tokens p.json max_depth [] p.shallow)
    ∙ p.value

pub json_of_printed : (bytes : List ℕ) (ms : Members) → Printed bytes (object ms) → json_of bytes ≡ Some (object ms)
json_of_printed bytes ms p =
    ap (λ b. if b then option_and_then object_in (read bytes) else None) (is_utf8-from_IsUtf8 bytes (IsUtf8-are_ascii bytes p.ascii))
    ∙ ap (option_and_then object_in) (read_printed bytes (object ms) p)

-- a name behind a quote
pub quoted_name : (ds rest : List ℕ) → escape ds ≡ ds → (escape ds ++ 34 ∷ []) ++ rest ≡ ds ++ (34 ∷ rest)
quoted_name ds rest plain = append_assoc (escape ds) (34 ∷ []) rest ∙ ap (λ (l : List ℕ). l ++ (34 ∷ rest)) plain
