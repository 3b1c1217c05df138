-- Names: DNS labels and subdomains (RFC 1123, as the API reference of resource.k8s.io/v1 takes
-- them), pool names, C identifiers and qualified names.
use Rattle.std.specs.Prelude.{ℕ, ◌==◌, nat_le, ◌&&◌, ◌||◌, not, Bool, false, List, [], ◌∷◌, length, Option, Some, None, if◌then◌else◌}
use Rattle.std.specs.List.{list_all}

-- ---- bytes

abbrev pub between : ℕ → ℕ → ℕ → Bool
between low high b = nat_le low b && nat_le b high

-- `a` to `z`, `0` to `9`
abbrev pub is_lower_or_digit : ℕ → Bool
is_lower_or_digit b = between 97 122 b || between 48 57 b

-- a lower-case letter, a digit or `-`
abbrev pub is_dns_byte : ℕ → Bool
is_dns_byte b = is_lower_or_digit b || (b == 45)

-- ---- lists

-- the first and the last byte
abbrev pub first_of : List ℕ → Option ℕ
first_of [] = None
first_of (b ∷ bs) = Some b

abbrev pub last_of : List ℕ → Option ℕ
last_of [] = None
last_of (b ∷ []) = Some b
last_of (b ∷ c ∷ bs) = last_of (c ∷ bs)

-- the parts of a text between the bytes at which it is cut: one part more than cuts
abbrev pub onto_first : ℕ → List (List ℕ) → List (List ℕ)
onto_first b [] = (b ∷ []) ∷ []
onto_first b (part ∷ parts) = (b ∷ part) ∷ parts

abbrev pub parts_by : (ℕ → Bool) → List ℕ → List (List ℕ)
parts_by cuts [] = [] ∷ []
parts_by cuts (b ∷ bs) = if cuts b then [] ∷ parts_by cuts bs else onto_first b (parts_by cuts bs)

abbrev pub parts_at : ℕ → List ℕ → List (List ℕ)
parts_at cut = parts_by (λ b. b == cut)

-- ---- DNS names

-- there is such a byte, and it isn't `-`
abbrev pub is_end : Option ℕ → Bool
is_end None = false
is_end (Some b) = not (b == 45)

-- one or more lower-case letters, digits and `-`, neither beginning nor ending with `-`
abbrev pub is_dns_part : List ℕ → Bool
is_dns_part s = list_all is_dns_byte s && is_end (first_of s) && is_end (last_of s)

-- a DNS label has at most 63 bytes
abbrev pub label_most : ℕ
label_most = 63

abbrev pub is_dns_label : List ℕ → Bool
is_dns_label s = nat_le (length s) label_most && is_dns_part s

-- one or more parts joined by `.`, of any length
abbrev pub is_dns_name : List ℕ → Bool
is_dns_name s = list_all is_dns_part (parts_at 46 s)

-- such a name of at most so many bytes
abbrev pub is_dns_subdomain : ℕ → List ℕ → Bool
is_dns_subdomain most s = nat_le (length s) most && is_dns_name s

-- a pool's name has at most 253 bytes in all
abbrev pub pool_most : ℕ
pool_most = 253

-- one or more DNS names joined by `/`, of any length
abbrev pub is_pool_name : List ℕ → Bool
is_pool_name s = list_all is_dns_name (parts_at 47 s)
