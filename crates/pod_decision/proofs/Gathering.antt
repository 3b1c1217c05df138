-- Loops over the claims of a pod.
use Rattle.std.proofs.Common.{ℕ, suc, ◌+◌, ◌<◌, ◌≡◌, ◌∙◌, List, [], ◌∷◌, ◌++◌, Bool, true, false, cond, Option, None, Some, drop, get_or, length, refl, sym, ap, add-one, append_assoc, drop-cons}
use Rattle.std.specs.List.{filter}
use Rattle.object_fields.specs.declared.key.Key.{Key}
use Rattle.pool_view.specs.Names.{at_key}
use Rattle.cluster.specs.declared.plan.KnownClaim.{KnownClaim}
use Rattle.cluster.specs.declared.state.ClaimState.{ClaimState}
use Rattle.cluster.specs.declared.state.State.{State}
use Rattle.cluster.specs.Claims.{add_known, known_claims}
use Rattle.allocations.specs.Claims.{has_grant}

item_at : {X : Type 0} (xs : List X) (i : ℕ) (x : X) → i < length xs → x ≡ get_or xs i x → drop i xs ≡ x ∷ drop (i + 1) xs
item_at {X} xs i x h e = drop-cons xs i x h ∙ ap (λ (y : X). y ∷ drop (suc i) xs) (sym e) ∙ ap (λ (n : ℕ). x ∷ drop n xs) (sym (add-one i))

known_before : (k : Key) (o : Option ClaimState) (known : List KnownClaim) → add_known k o known ≡ add_known k o [] ++ known
known_before k None known = refl
known_before k (Some c) known = refl

-- what is known of the first claims and of those that are left, with one claim more
pub known_more : (s : State) (ks : List Key) (i : ℕ) (k : Key) (o : Option ClaimState) (old new all : List KnownClaim) → i < length ks → k ≡ get_or ks i k → o ≡ at_key s.claims k → new ≡ old ++ add_known k o []
    → old ++ known_claims s (drop i ks) ≡ all → new ++ known_claims s (drop (i + 1) ks) ≡ all
known_more s ks i k o old new all h item found more whole =
    let rest = known_claims s (drop (i + 1) ks) in
    ap (λ (l : List KnownClaim). l ++ rest) more
    ∙ append_assoc old (add_known k o []) rest
    ∙ ap (λ (l : List KnownClaim). old ++ l) (sym (known_before k o rest))
    ∙ ap (λ (c : Option ClaimState). old ++ add_known k c rest) found
    ∙ ap (λ (l : List Key). old ++ known_claims s l) (sym (item_at ks i k h item))
    ∙ whole

granted_before : (b : Bool) (k : Key) (ks : List Key) → cond b (k ∷ ks) ks ≡ cond b (k ∷ []) [] ++ ks
granted_before true k ks = refl
granted_before false k ks = refl

-- those of the first claims that have a grant and of those that are left, with one claim more
pub granted_more : (s : State) (ks : List Key) (i : ℕ) (k : Key) (o : Option ClaimState) (old new all : List Key) → i < length ks → k ≡ get_or ks i k → o ≡ at_key s.claims k → new ≡ old ++ cond (has_grant o) (k ∷ []) []
    → old ++ filter (λ l. has_grant (at_key s.claims l)) (drop i ks) ≡ all → new ++ filter (λ l. has_grant (at_key s.claims l)) (drop (i + 1) ks) ≡ all
granted_more s ks i k o old new all h item found more whole =
    let rest = filter (λ l. has_grant (at_key s.claims l)) (drop (i + 1) ks) in
    ap (λ (l : List Key). l ++ rest) more
    ∙ append_assoc old (cond (has_grant o) (k ∷ []) []) rest
    ∙ ap (λ (l : List Key). old ++ l) (sym (granted_before (has_grant o) k rest))
    ∙ ap (λ (c : Option ClaimState). old ++ cond (has_grant c) (k ∷ rest) rest) found
    ∙ ap (λ (l : List Key). old ++ filter (λ m. has_grant (at_key s.claims m)) l) (sym (item_at ks i k h item))
    ∙ whole
