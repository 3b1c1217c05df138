-- Full names that are printed are cut at their `/`.
use Rattle.std.proofs.Common.{◌≡◌, ℕ, ◌==◌, nat_lt, true, not, ◌&&◌, List, [], ◌∷◌, ◌++◌, length, Some, refl, arith, inl, inr}
use Rattle.std.proofs.Math.Seq.{drop-append-add, take-append_seam}
use Rattle.std.proofs.lemmas.Bool.{and_from, and_parts, cases_Bool, lt-ltb}
use Rattle.std.proofs.lemmas.Bool.Decides.{nat_tests}
use Rattle.std.proofs.lemmas.List.{length-append}
use Rattle.std.specs.List.{list_all, position_or_len}
use Rattle.object_fields.specs.Names.{is_dns_byte, is_dns_name, is_dns_part, is_end, first_of, last_of, onto_first, parts_at}
use Rattle.object_fields.specs.Qualified.{cut_at}

-- each part has bytes of DNS names alone
dns_bytes : (parts : List (List ℕ)) → list_all is_dns_part parts ≡ true → list_all (λ p. list_all is_dns_byte p) parts ≡ true
dns_bytes [] h = refl
dns_bytes (p ∷ ps) h =
    let split = and_parts (is_dns_part p) (list_all is_dns_part ps) h in
    let here = and_parts (list_all is_dns_byte p && is_end (first_of p)) (is_end (last_of p)) split.0 in
    and_from (list_all is_dns_byte p) _ (and_parts (list_all is_dns_byte p) (is_end (first_of p)) here.0).0 (dns_bytes ps split.1)

no_slash_in : (b : ℕ) → is_dns_byte b ≡ true → not (b == 47) ≡ true
no_slash_in b h = grind (arith, nat_tests)

head_byte : (b : ℕ) (parts : List (List ℕ)) → list_all (λ p. list_all is_dns_byte p) (onto_first b parts) ≡ true → (is_dns_byte b ≡ true) × (list_all (λ p. list_all is_dns_byte p) parts ≡ true)
head_byte b [] h = ((and_parts (is_dns_byte b) true (and_parts (is_dns_byte b && true) true h).0).0, refl)
head_byte b (p ∷ ps) h =
    let split = and_parts (is_dns_byte b && list_all is_dns_byte p) (list_all (λ q. list_all is_dns_byte q) ps) h in
    let here = and_parts (is_dns_byte b) (list_all is_dns_byte p) split.0 in
    (here.0, and_from (list_all is_dns_byte p) _ here.1 split.1)

dot_is_no_slash : (b : ℕ) → (b == 46) ≡ true → not (b == 47) ≡ true
dot_is_no_slash b h = grind (arith, nat_tests)

no_slash : (s : List ℕ) → list_all (λ p. list_all is_dns_byte p) (parts_at 46 s) ≡ true → list_all (λ b. not (b == 47)) s ≡ true
no_slash [] h = refl
no_slash (b ∷ bs) h = elim (cases_Bool (b == 46)) as (λ _. list_all (λ c. not (c == 47)) (b ∷ bs) ≡ true) [
  | inl is ↦ let rest = rw is at h in and_from (not (b == 47)) _ (dot_is_no_slash b is) (no_slash bs rest)
  | inr is ↦ let rest = head_byte b (parts_at 46 bs) (rw is at h) in and_from (not (b == 47)) _ (no_slash_in b rest.0) (no_slash bs rest.1)
]

slash_place : (domain id : List ℕ) → list_all (λ b. not (b == 47)) domain ≡ true → position_or_len (λ b. b == 47) (domain ++ 47 ∷ id) ≡ length domain
slash_place [] id h = refl
slash_place (b ∷ bs) id h =
    let split = and_parts (not (b == 47)) (list_all (λ c. not (c == 47)) bs) h in
    rw (split.0, slash_place bs id split.1) (omega arith)

-- a domain has no `/`, so the name is cut after it
pub name_cut : (domain id : List ℕ) → is_dns_name domain ≡ true → cut_at 47 (domain ++ 47 ∷ id) ≡ Some (domain, id)
name_cut domain id h =
    let place : position_or_len (λ b. b == 47) (domain ++ 47 ∷ id) ≡ length domain = slash_place domain id (no_slash domain (dns_bytes (parts_at 46 domain) h)) in
    let within : nat_lt (length domain) (length (domain ++ 47 ∷ id)) ≡ true = lt-ltb _ _ (omega (arith, length-append domain (47 ∷ id))) in
    rw (place, within, take-append_seam domain (47 ∷ id), drop-append-add domain (47 ∷ id) 1) refl
