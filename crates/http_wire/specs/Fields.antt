-- What a request's head states about its body and the connection (RFC 9110, section 8.6; RFC 9112, sections 6
-- and 9.6).
use Rattle.std.specs.Prelude.{ℕ, ◌+◌, ◌*◌, ◌-◌, ◌==◌, ◌&&◌, ◌||◌, nat_le, nat_lt, Bool, List, [], ◌∷◌, Result, Ok, Err, codes, drop, take, length, map, if◌then◌else◌}
use Rattle.std.specs.Char.{is_ascii_digit}
use Rattle.std.specs.Str.{bytes_eq, str_eq_ignore_ascii_case}
use Rattle.std.specs.List.{list_all, list_any, prefix_len, slice_split}
use Rattle.httparse.specs.Grammar.{RequestHead}
use Rattle.httparse.specs.Spans.{name_and_value}
use Rattle.http_wire.specs.declared.error.WireError.{WireError}
use Rattle.http_wire.specs.declared.error.WireError.TheVariants.{BadHead, NoLength, TooLong}
use Rattle.http_wire.specs.declared.head.Head.{Head}

-- the values of the fields with a name, in order; ignoring ASCII case
abbrev pub values_of : List ℕ → List (List ℕ × List ℕ) → List (List ℕ)
values_of name [] = []
values_of name (f ∷ fs) = if str_eq_ignore_ascii_case f.0 name then f.1 ∷ values_of name fs else values_of name fs

abbrev pub is_there : List ℕ → List (List ℕ × List ℕ) → Bool
is_there name fields = nat_lt 0 (length (values_of name fields))

-- decimal digits, at least one
abbrev pub is_number : List ℕ → Bool
is_number value = nat_lt 0 (length value) && list_all is_ascii_digit value

-- all of the values are this one, byte for byte
abbrev pub all_are : List ℕ → List (List ℕ) → Bool
all_are value values = list_all (λ other. bytes_eq other value) values

-- the number that decimal digits write, after those of this number
abbrev pub number_after : ℕ → List ℕ → ℕ
number_after n [] = n
number_after n (b ∷ bs) = number_after (n * 10 + (b - 48)) bs

-- a POST or a PUT has to state the length of its body
abbrev pub wants_length : List ℕ → Bool
wants_length method = bytes_eq method (codes "POST") || bytes_eq method (codes "PUT")

-- the most bytes of a body: 2 MiB
abbrev pub body_most : ℕ
body_most = 2097152

abbrev pub at_most_body : ℕ → Result ℕ WireError
at_most_body n = if nat_le n body_most then Ok n else Err TooLong

-- how many bytes the body has by the lengths that are stated, whether there is a field `Transfer-Encoding`, and
-- whether a length is needed
abbrev pub length_by : List (List ℕ) → Bool → Bool → Result ℕ WireError
length_by [] encoded wanted = if encoded || wanted then Err NoLength else Ok 0
length_by (value ∷ values) encoded wanted =
    if is_number value && all_are value values then (if encoded then Err NoLength else at_most_body (number_after 0 value)) else Err BadHead

-- how many bytes the body has
abbrev pub body_length : List ℕ → List (List ℕ × List ℕ) → Result ℕ WireError
body_length method fields = length_by (values_of (codes "content-length") fields) (is_there (codes "transfer-encoding") fields) (wants_length method)

-- a space or a tab
abbrev pub is_blank : ℕ → Bool
is_blank b = b == 32 || b == 9

-- the option `close`, in upper or lower case, with blanks around it
abbrev pub is_close : List ℕ → Bool
is_close option =
    str_eq_ignore_ascii_case (take 5 (drop (prefix_len is_blank option) option)) (codes "close")
    && list_all is_blank (drop 5 (drop (prefix_len is_blank option) option))

-- one of the options between commas is `close`
abbrev pub has_close : List ℕ → Bool
has_close value = list_any is_close (slice_split (λ b. b == 44) value)

-- the connection ends after the request: HTTP/1.0, or a field `Connection` with the option `close`
abbrev pub is_last : ℕ → List (List ℕ × List ℕ) → Bool
is_last minor fields = minor == 0 || list_any has_close (values_of (codes "connection") fields)

abbrev pub with_length : List ℕ → List ℕ → Bool → Result ℕ WireError → Result Head WireError
with_length method target last (Ok n) = Ok (record { method = method; target = target; last = last; length = n })
with_length method target last (Err e) = Err e

-- what a head of this method, target, minor version and these fields says, or why the request is refused
abbrev pub meaning_by : List ℕ → List ℕ → ℕ → List (List ℕ × List ℕ) → Result Head WireError
meaning_by method target minor fields = with_length method target (is_last minor fields) (body_length method fields)

-- what the head says, or why the request is refused
abbrev pub meaning_of : RequestHead → Result Head WireError
meaning_of h = meaning_by h.method h.target h.minor (map name_and_value h.fields)
