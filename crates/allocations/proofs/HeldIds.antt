-- The devices that claims hold, with and without their claims.
use Rattle.std.proofs.Common.{ℕ, zero, suc, ◌≡◌, ◌∙◌, List, [], ◌∷◌, ◌++◌, Bool, true, false, ◌||◌, Some, map, refl, sym, ap, subst}
use Rattle.std.specs.List.{Contains, flat_map, list_any, slice_get}
use Rattle.std.proofs.lemmas.List.Folds.{list_any-append}
use Rattle.std.proofs.lemmas.Option.{slice_get-get_or}
use Rattle.object_fields.specs.declared.key.DeviceId.{DeviceId}
use Rattle.object_fields.specs.declared.key.Key.{Key}
use Rattle.pool_view.specs.Names.{device_eq}
use Rattle.cluster.specs.declared.state.ClaimState.{ClaimState}
use Rattle.cluster.specs.declared.state.State.{State}
use Rattle.cluster.specs.Held.{held, held_by}
use Rattle.allocations.proofs.Picked.{Contains-from_get}

abbrev pub Claims : Type 0
Claims = List (Key × ClaimState)

abbrev pub with_key : Key → List DeviceId → List (DeviceId × Key)
with_key k ds = map (λ d. (d, k)) ds

abbrev pub pairs_in : Claims → List (DeviceId × Key)
pairs_in claims = flat_map (λ e. with_key e.0 (held_by e.1.grant)) claims

abbrev pub held_in : Claims → List DeviceId
held_in claims = flat_map (λ e. held_by e.1.grant) claims

abbrev pub first_of : DeviceId × Key → DeviceId
first_of p = p.0

-- the element of a map at an index is made of the element at that index
pub mapped_at : {X Y : Type 0} (f : X → Y) (xs : List X) (i : ℕ) (y : Y) → slice_get (map f xs) i ≡ Some y → (x : X) × (slice_get xs i ≡ Some x) × (f x ≡ y)
mapped_at f [] i y e = absurd (cc)
mapped_at f (x ∷ xs) zero y e = let same : f x ≡ y = cc in (x, refl, same)
mapped_at f (x ∷ xs) (suc i) y e = mapped_at f xs i y e

pub at_map : {X Y : Type 0} (f : X → Y) (xs : List X) (i : ℕ) (x : X) → slice_get xs i ≡ Some x → slice_get (map f xs) i ≡ Some (f x)
at_map f [] i x e = absurd (cc)
at_map f (y ∷ xs) zero x e = let same : y ≡ x = cc in ap (λ z. Some (f z)) same
at_map f (y ∷ xs) (suc i) x e = at_map f xs i x e

ids_with : (k : Key) (ds : List DeviceId) (ps : List (DeviceId × Key)) → map first_of (with_key k ds ++ ps) ≡ ds ++ map first_of ps
ids_with k [] ps = refl
ids_with k (d ∷ ds) ps = ap (λ l. d ∷ l) (ids_with k ds ps)

ids_in : (claims : Claims) → map first_of (pairs_in claims) ≡ held_in claims
ids_in [] = refl
ids_in (e ∷ es) = ids_with e.0 (held_by e.1.grant) (pairs_in es) ∙ ap (λ l. held_by e.1.grant ++ l) (ids_in es)

-- the devices that are held are those of the pairs
pub ids_of_held : (s : State) → map first_of (held s) ≡ held_in s.claims
unfolding held
ids_of_held s = ids_in s.claims

-- a device that is held has a claim that holds it
pub holder_of : (s : State) (d : DeviceId) → Contains (held_in s.claims) d → (k : Key) × Contains (held s) (d, k)
holder_of s d h =
    let at : slice_get (held_in s.claims) h.0 ≡ Some d = slice_get-get_or (held_in s.claims) h.0 d h.1 ∙ ap (λ (w : DeviceId). Some w) h.2 in
    let x = mapped_at first_of (held s) h.0 d (ap (λ l. slice_get l h.0) (ids_of_held s) ∙ at) in
    let whole : x.0 ≡ (d, x.0.1) = ap (λ (w : DeviceId). (w, x.0.1)) x.2 in
    (x.0.1, subst (λ (p : DeviceId × Key). Contains (held s) p) whole (Contains-from_get (held s) h.0 x.0 x.1))

any_with : (d : DeviceId) (k : Key) (ds : List DeviceId) → list_any (λ h. device_eq h.0 d) (with_key k ds) ≡ list_any (λ h. device_eq h d) ds
any_with d k [] = refl
any_with d k (x ∷ xs) = ap (λ b. device_eq x d || b) (any_with d k xs)

-- whether a claim or one of those after it holds the device
pub any_held : (d : DeviceId) (e : Key × ClaimState) (es : Claims)
    → list_any (λ h. device_eq h.0 d) (pairs_in (e ∷ es)) ≡ (list_any (λ h. device_eq h d) (held_by e.1.grant) || list_any (λ h. device_eq h.0 d) (pairs_in es))
any_held d e es =
    list_any-append (λ h. device_eq h.0 d) (with_key e.0 (held_by e.1.grant)) (pairs_in es) ∙ ap (λ b. b || list_any (λ h. device_eq h.0 d) (pairs_in es)) (any_with d e.0 (held_by e.1.grant))

here_by : (b c all : Bool) → b ≡ true → (b || c) ≡ all → true ≡ all
here_by true c all e h = h
here_by false c all e h = absurd (cc)

later_by : (b c all : Bool) → b ≡ false → (b || c) ≡ all → c ≡ all
later_by true c all e h = absurd (cc)
later_by false c all e h = h

-- if the first claim holds the device, one does
pub held_here : (d : DeviceId) (items rest : Claims) (e : Key × ClaimState) (b all : Bool) → items ≡ e ∷ rest → b ≡ list_any (λ h. device_eq h d) (held_by e.1.grant)
    → list_any (λ h. device_eq h.0 d) (pairs_in items) ≡ all → b ≡ true → true ≡ all
held_here d items rest e b all is told whole so =
    here_by (list_any (λ h. device_eq h d) (held_by e.1.grant)) (list_any (λ h. device_eq h.0 d) (pairs_in rest)) all (sym told ∙ so)
    (sym (any_held d e rest) ∙ ap (λ (l : Claims). list_any (λ h. device_eq h.0 d) (pairs_in l)) (sym is) ∙ whole)

-- if it doesn't, those after it decide
pub held_later : (d : DeviceId) (items rest : Claims) (e : Key × ClaimState) (b all : Bool) → items ≡ e ∷ rest → b ≡ list_any (λ h. device_eq h d) (held_by e.1.grant)
    → list_any (λ h. device_eq h.0 d) (pairs_in items) ≡ all → b ≡ false → list_any (λ h. device_eq h.0 d) (pairs_in rest) ≡ all
held_later d items rest e b all is told whole so =
    later_by (list_any (λ h. device_eq h d) (held_by e.1.grant)) (list_any (λ h. device_eq h.0 d) (pairs_in rest)) all (sym told ∙ so)
    (sym (any_held d e rest) ∙ ap (λ (l : Claims). list_any (λ h. device_eq h.0 d) (pairs_in l)) (sym is) ∙ whole)
