-- A list of one worker for each door.
use Rattle.std.proofs.Common.{ℕ, ◌≡◌, ◌∙◌, ◌+◌, ◌++◌, List, [], ◌∷◌, length, map, refl, sym, ap, arith, append-nil, length-append}
use Rattle.cluster.specs.declared.entry.Entry.{Entry}
use Rattle.turn_lock.specs.Known.{Opened}
use Rattle.api_server.specs.Talks.{AtDoor, Terms}
use Rattle.api_server.specs.Workers.{Hired, hired_lists}

module _ {J V D : Type 0} (view : J → Hired) (items : V → List J) (at : D → AtDoor) (lock : Opened Entry) (t : Terms) (n last : ℕ) where
  -- the last list stands before what follows
  snoc : (vs : List V) (v : V) (rest : List (List Hired)) → map (map view) (map items (vs ++ v ∷ [])) ++ rest ≡ map (map view) (map items vs) ++ map view (items v) ∷ rest
  snoc [] v rest = refl
  snoc (x ∷ vs) v rest = ap (λ (ls : List (List Hired)). map view (items x) ∷ ls) (snoc vs v rest)

  -- one more worker
  pub hire_more : (i : ℕ) (vs vs' : List V) (v : V) (w : J) (d : D) (ds ds' : List D) (total : List (List Hired)) → vs' ≡ vs ++ v ∷ [] → items v ≡ w ∷ [] → ds ≡ d ∷ ds' → view w ≡ record { lock = lock; terms = t; worker = i; workers = n; connections = last; door = at d }
      → map (map view) (map items vs) ++ hired_lists lock t n last i (map at ds) ≡ total → map (map view) (map items vs') ++ hired_lists lock t n last (i + 1) (map at ds') ≡ total
  hire_more i vs vs' v w d ds ds' total grown one next is before =
      ap (λ (xs : List V). map (map view) (map items xs) ++ hired_lists lock t n last (i + 1) (map at ds')) grown
      ∙ snoc vs v (hired_lists lock t n last (i + 1) (map at ds'))
      ∙ ap (λ (l : List J). map (map view) (map items vs) ++ map view l ∷ hired_lists lock t n last (i + 1) (map at ds')) one
      ∙ ap (λ (h : Hired). map (map view) (map items vs) ++ (h ∷ []) ∷ hired_lists lock t n last (i + 1) (map at ds')) is
      ∙ sym (ap (λ (xs : List D). map (map view) (map items vs) ++ hired_lists lock t n last i (map at xs)) next)
      ∙ before

-- ---- lists that are filled in step

pub map_more : {A B : Type 0} (f : A → B) (xs xs' : List A) (a : A) (b : B) (rest rest' whole : List B) → xs' ≡ xs ++ a ∷ [] → f a ≡ b → rest ≡ b ∷ rest' → map f xs ++ rest ≡ whole → map f xs' ++ rest' ≡ whole
map_more f xs xs' a b rest rest' whole grown is left h =
    ap (λ l. map f l ++ rest') grown ∙ moved f xs a b rest' is ∙ ap (λ l. map f xs ++ l) (sym left) ∙ h
  where
    moved : {A B : Type 0} (f : A → B) (xs : List A) (a : A) (b : B) (rest : List B) → f a ≡ b → map f (xs ++ a ∷ []) ++ rest ≡ map f xs ++ b ∷ rest
    moved f [] a b rest is = ap (λ x. x ∷ rest) is
    moved f (x ∷ xs) a b rest is = ap (λ l. f x ∷ l) (moved f xs a b rest is)

pub map_whole : {A B C : Type 0} (f : A → C) (g : B → C) (xs : List A) (rest : List B) (whole : List C) → rest ≡ [] → map f xs ++ map g rest ≡ whole → map f xs ≡ whole
map_whole f g xs rest whole none h = sym (append-nil (map f xs)) ∙ sym (ap (λ l. map f xs ++ map g l) none) ∙ h

-- the last item of a list of one
pub only_one : {A B : Type 0} (f : A → B) (xs ys : List A) (x : A) → xs ≡ ys ++ x ∷ [] → length xs ≡ 1 → map f xs ≡ f x ∷ []
only_one f xs [] x is one = ap (map f) is
only_one f xs (y ∷ ys) x is one = absurd (let n : length xs ≡ length (y ∷ (ys ++ x ∷ [])) = ap length is in let m = length-append ys (x ∷ []) in omega (arith, n, m, one))

pub none_left : {A : Type 0} (xs : List A) → length xs ≡ 0 → xs ≡ []
none_left [] none = refl
none_left (x ∷ xs) none = absurd (omega (arith, none))
