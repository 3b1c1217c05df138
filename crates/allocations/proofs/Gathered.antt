-- Keys gathered in order, each at its first index.
use Rattle.std.proofs.Common.{ℕ, ◌≤◌, ◌≡◌, ◌∙◌, List, [], ◌∷◌, ◌++◌, Bool, true, false, ◌||◌, cond, drop, length, map, refl, sym, ap, append_assoc}
use Rattle.std.specs.List.{list_any}
use Rattle.std.proofs.lemmas.List.{append-nil, drop_all}
use Rattle.std.proofs.lemmas.List.Folds.{list_any-append}
use Rattle.object_fields.specs.declared.key.Key.{Key}
use Rattle.pool_view.specs.Names.{key_eq}
use Rattle.cluster.specs.Claims.{first_places}
use Rattle.allocations.specs.Claims.{added_key}

-- the keys after each of the others was added
abbrev pub gathered : List Key → List Key → List Key
gathered keys [] = keys
gathered keys (k ∷ ks) = gathered (added_key keys k) ks

-- the keys are among the one list if they are among the other
abbrev AreSame : List Key → List Key → Type 0
AreSame seen keys = (k : Key) → list_any (λ l. key_eq l k) seen ≡ list_any (λ l. key_eq l k) keys

or_last : (b c : Bool) → (b || c) ≡ (c || (b || false))
or_last true true = refl
or_last true false = refl
or_last false true = refl
or_last false false = refl

same_more : (seen keys : List Key) (l : Key) → AreSame seen keys → AreSame (l ∷ seen) (keys ++ l ∷ [])
same_more seen keys l same k =
    ap (λ b. key_eq l k || b) (same k)
    ∙ or_last (key_eq l k) (list_any (λ m. key_eq m k) keys)
    ∙ sym (list_any-append (λ m. key_eq m k) keys (l ∷ []))

gathered_by : (seen keys ks : List Key) (l : Key) (b : Bool) → list_any (λ m. key_eq m l) keys ≡ b
    → gathered keys ks ≡ keys ++ first_places seen ks → gathered (keys ++ l ∷ []) ks ≡ (keys ++ l ∷ []) ++ first_places (l ∷ seen) ks
    → gathered (cond b keys (keys ++ l ∷ [])) ks ≡ keys ++ cond b (first_places seen ks) (l ∷ first_places (l ∷ seen) ks)
gathered_by seen keys ks l true is here later = here
gathered_by seen keys ks l false is here later = later ∙ append_assoc keys (l ∷ []) (first_places (l ∷ seen) ks)

gathered_is : (seen keys ks : List Key) → AreSame seen keys → gathered keys ks ≡ keys ++ first_places seen ks
gathered_is seen keys [] same = sym (append-nil keys)
gathered_is seen keys (l ∷ ks) same =
    gathered_by seen keys ks l (list_any (λ m. key_eq m l) keys) refl (gathered_is seen keys ks same) (gathered_is (l ∷ seen) (keys ++ l ∷ []) ks (same_more seen keys l same))
    ∙ ap (λ b. keys ++ cond b (first_places seen ks) (l ∷ first_places (l ∷ seen) ks)) (sym (same l))

-- each key at its first index
pub gathered_first : (ks : List Key) → gathered [] ks ≡ first_places [] ks
gathered_first ks = gathered_is [] [] ks (λ k. refl)

-- if none is left to be added
pub gathered_all : {X : Type 0} (f : X → Key) (xs : List X) (i : ℕ) (keys : List Key) → length xs ≤ i → gathered keys (map f (drop i xs)) ≡ gathered [] (map f xs) → keys ≡ first_places [] (map f xs)
gathered_all {X} f xs i keys over whole = ap (λ (l : List X). gathered keys (map f l)) (sym (drop_all i xs over)) ∙ whole ∙ gathered_first (map f xs)
