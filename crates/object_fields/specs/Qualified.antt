-- Qualified names of attributes and capacities (API reference of resource.k8s.io/v1).
use Rattle.std.specs.Prelude.{◌≡◌, ℕ, ◌≤◌, ◌==◌, nat_lt, ◌&&◌, ◌||◌, Bool, true, false, List, [], ◌∷◌, length, Option, Some, None, Result, Ok, Err, if◌then◌else◌}
use Rattle.std.specs.List.{after_first, before_first, list_all, position_or_len}
use Rattle.object_fields.specs.Names.{between, is_dns_name}
use Rattle.object_fields.specs.Fields.{error_at, name_in, ◌>>=◌}
use Rattle.object_fields.specs.declared.path.Step.{Step}
use Rattle.object_fields.specs.declared.kind.FieldErrorKind.TheVariants.{BadName, TooLong}
use Rattle.object_fields.specs.declared.error.FieldError.{FieldError}
use Rattle.object_fields.specs.declared.qualified.QualName.{QualName}

-- a letter or `_`
abbrev pub is_word_start : ℕ → Bool
is_word_start b = between 97 122 b || between 65 90 b || (b == 95)

-- a letter, a digit or `_`
abbrev pub is_word_byte : ℕ → Bool
is_word_byte b = is_word_start b || between 48 57 b

abbrev pub is_word : List ℕ → Bool
is_word = list_all is_word_byte

-- a C identifier, of any length
abbrev pub is_c_identifier : List ℕ → Bool
is_c_identifier [] = false
is_c_identifier (b ∷ bs) = is_word_start b && is_word bs

-- a domain has at most 63 bytes and an id at most 32
abbrev pub domain_most : ℕ
domain_most = 63

abbrev pub id_most : ℕ
id_most = 32

-- a full name: a DNS subdomain of at most 63 bytes and a C identifier of at most 32
pub record IsFullName (q : QualName) : Type 0 where
  pub domain : length q.domain ≤ domain_most
  pub domain_form : is_dns_name q.domain ≡ true
  pub id : length q.id ≤ id_most
  pub id_form : is_c_identifier q.id ≡ true

-- what precedes and what follows the first such byte
abbrev pub cut_at : ℕ → List ℕ → Option (List ℕ × List ℕ)
cut_at cut s =
    if nat_lt (position_or_len (λ b. b == cut) s) (length s) then Some (before_first (λ b. b == cut) s, after_first (λ b. b == cut) s) else None

-- `domain/id`, cut at the first `/`; the lengths are checked first
abbrev pub domain_and_id : List Step → List ℕ → List ℕ → Result QualName FieldError
domain_and_id path domain id =
    if nat_lt domain_most (length domain) || nat_lt id_most (length id)
    then Err (error_at path TooLong)
    else (if is_dns_name domain && is_c_identifier id then Ok (record { domain = domain; id = id }) else Err (error_at path BadName))

-- `id` alone has the driver as its domain
abbrev pub id_alone : List Step → List ℕ → List ℕ → Result QualName FieldError
id_alone path driver text =
    name_in path id_most is_c_identifier text >>= λ id. Ok (record { domain = driver; id = id })

abbrev pub qualified_from : List Step → List ℕ → List ℕ → Option (List ℕ × List ℕ) → Result QualName FieldError
qualified_from path driver text None = id_alone path driver text
qualified_from path driver text (Some p) = domain_and_id path p.0 p.1

-- the full name that the text means in a slice of that driver
abbrev pub qual_name_in : List Step → List ℕ → List ℕ → Result QualName FieldError
qual_name_in path driver text = qualified_from path driver text (cut_at 47 text)
