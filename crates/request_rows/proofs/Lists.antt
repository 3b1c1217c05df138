-- Lists, index by index.
use Rattle.std.proofs.Common.{ℕ, zero, suc, ◌+◌, ◌≤◌, ◌≡◌, List, [], ◌∷◌, ◌++◌, Some, map, drop, length, refl, sym, ap, ◌∙◌, arith, append-nil, append_assoc, length-append}
use Rattle.std.specs.List.{slice_get}

pub drop_all : {X : Type 0} (xs : List X) (i : ℕ) → length xs ≤ i → drop i xs ≡ []
drop_all [] zero h = refl
drop_all [] (suc i) h = refl
drop_all (x ∷ xs) zero h = absurd (omega arith)
drop_all (x ∷ xs) (suc i) h = drop_all xs i (omega arith)

pub ended : {X : Type 0} (out rest whole : List X) → out ++ rest ≡ whole → rest ≡ [] → out ≡ whole
ended {X} out rest whole e f = sym (append-nil out) ∙ ap (λ (r : List X). out ++ r) (sym f) ∙ e

pub map_map : {X Y Z : Type 0} (f : Y → Z) (g : X → Y) (xs : List X) → map f (map g xs) ≡ map (λ x. f (g x)) xs
map_map f g [] = refl
map_map {X} {Y} {Z} f g (x ∷ xs) = ap (λ (zs : List Z). f (g x) ∷ zs) (map_map f g xs)

pub map_append : {X Y : Type 0} (f : X → Y) (xs ys : List X) → map f (xs ++ ys) ≡ map f xs ++ map f ys
map_append f [] ys = refl
map_append {X} {Y} f (x ∷ xs) ys = ap (λ (zs : List Y). f x ∷ zs) (map_append f xs ys)

pub map_length : {X Y : Type 0} (f : X → Y) (xs : List X) → length (map f xs) ≡ length xs
map_length f [] = refl
map_length f (x ∷ xs) = let e = map_length f xs in omega (arith, e)

-- the element after a prefix
pub get_seam : {X : Type 0} (before : List X) (x : X) (rest : List X) → slice_get (before ++ x ∷ rest) (length before) ≡ Some x
get_seam [] x rest = refl
get_seam (y ∷ before) x rest = get_seam before x rest

-- a prefix longer by one element
pub moved : {X : Type 0} (whole before : List X) (x : X) (rest : List X) → whole ≡ before ++ x ∷ rest → whole ≡ (before ++ x ∷ []) ++ rest
moved whole before x rest e = e ∙ sym (append_assoc before (x ∷ []) rest)

pub longer : {X : Type 0} (before : List X) (x : X) (i : ℕ) → i ≡ length before → i + 1 ≡ length (before ++ x ∷ [])
longer before x i e = let f = length-append before (x ∷ []) in omega (arith, e, f)

-- the element at an index of the rest
pub get_past : {X : Type 0} (before rest : List X) (k : ℕ) (x : X) → slice_get rest k ≡ Some x → slice_get (before ++ rest) (length before + k) ≡ Some x
get_past [] rest k x e = let f : 0 + k ≡ k = omega arith in ap (slice_get rest) f ∙ e
get_past {X} (y ∷ before) rest k x e =
    let f : length (y ∷ before) + k ≡ suc (length before + k) = omega arith in
    ap (slice_get (y ∷ before ++ rest)) f ∙ get_past before rest k x e

pub get_prefix : {X : Type 0} (prefix rest : List X) (k : ℕ) (x : X) → slice_get prefix k ≡ Some x → slice_get (prefix ++ rest) k ≡ Some x
get_prefix [] rest k x e = absurd (cc)
get_prefix (y ∷ prefix) rest zero x e = e
get_prefix (y ∷ prefix) rest (suc k) x e = get_prefix prefix rest k x e
