-- The length of a body by the lengths that are stated.
use Rattle.std.proofs.Common.{ℕ, ◌≡◌, ◌∙◌, Bool, true, List, [], ◌∷◌, Option, None, Some, Result, refl, sym, ap, subst}
use Rattle.std.specs.Str.{bytes_eq}
use Rattle.std.proofs.lemmas.Slice.Eq.{bytes_eq-Decides}
use Rattle.http_wire.specs.declared.error.WireError.{WireError}
use Rattle.http_wire.specs.Fields.{length_by}
use Rattle.http_wire.specs.Firsts.{first_of, length_with, length_without}

pub without_is : (values : List (List ℕ)) (encoded wanted : Bool) → None ≡ first_of values → length_without encoded wanted ≡ length_by values encoded wanted
without_is [] encoded wanted e = refl
without_is (v ∷ vs) encoded wanted e = search

some_same : (v w : List ℕ) → ◌≡◌ {A = Option (List ℕ)} (Some v) (Some w) → v ≡ w
some_same v w e = search

same_bytes : (w : List ℕ) → bytes_eq w w ≡ true
same_bytes w = (bytes_eq-Decides w w).1 refl

pub with_is : (v : List ℕ) (values : List (List ℕ)) (encoded wanted : Bool) → Some v ≡ first_of values → length_with v values encoded ≡ length_by values encoded wanted
with_is v [] encoded wanted e = search
with_is v (w ∷ ws) encoded wanted e = subst (λ (u : List ℕ). length_with u (w ∷ ws) encoded ≡ length_by (w ∷ ws) encoded wanted) (sym (some_same v w e)) (rw (same_bytes w) refl)

pub without_of : (values : List (List ℕ)) (encoded there wanted wants : Bool) (r : Result ℕ WireError) → r ≡ length_without encoded wanted → encoded ≡ there → wanted ≡ wants → None ≡ first_of values → r ≡ length_by values there wants
without_of values encoded there wanted wants r e f g none = e ∙ without_is values encoded wanted none ∙ ap (λ (t : Bool). length_by values t wanted) f ∙ ap (λ (t : Bool). length_by values there t) g

pub with_of : (v : List ℕ) (values : List (List ℕ)) (encoded there wants : Bool) (r : Result ℕ WireError) → r ≡ length_with v values encoded → encoded ≡ there → Some v ≡ first_of values → r ≡ length_by values there wants
with_of v values encoded there wants r e f some = e ∙ with_is v values encoded wants some ∙ ap (λ (t : Bool). length_by values t wants) f
