-- Elements of lists by their indexes, and the first that exists.
use Rattle.std.proofs.Common.{ℕ, zero, suc, ◌+◌, ◌-◌, ◌<◌, ◌≤◌, ◌≡◌, List, [], ◌∷◌, ◌++◌, Bool, Option, None, Some, drop, find, get_or, length, map, take, refl, sym, ap, subst, ◌∙◌, arith}
use Rattle.std.proofs.Math.Seq.{drop-cons, drop-nil, take-append_seam, take-take, take_all}
use Rattle.std.proofs.lemmas.List.{length-append, length-drop}
use Rattle.std.specs.Prelude.{IfOk, Result, Ok, Err}
use Rattle.std.specs.List.{HoldsAt, slice_get}
use Rattle.std.specs.Borrow.{Bor}
use Rattle.std.specs.Option.{MatchOption, is_none, option_copied, option_map, option_or}
use Rattle.std.proofs.lemmas.Option.{slice_get-get_or}
use Rattle.std.proofs.lemmas.List.Folds.{find-append}
use Rattle.pool_view.specs.Pools.{Offered}
use Rattle.request_rules.specs.Lists.{Each}
use Rattle.cluster.specs.declared.plan.DeviceResult.{DeviceResult}
use Rattle.cluster.specs.declared.plan.Grant.{Grant}
use Rattle.plan_rules.specs.Standing.{all_results, device_gone, is_off}
use Rattle.cluster.specs.declared.failure.Failure.{Failure}
use Rattle.cluster.specs.declared.failure.Failure.TheVariants.{DeviceGone}

pub here : {X : Type 0} (xs : List X) (i : ℕ) (x : X) → i < length xs → x ≡ get_or xs i x → slice_get xs i ≡ Some x
here {X} [] i x h e = absurd (omega arith)
here {X} (y ∷ xs) zero x h e = ap Some (sym e)
here {X} (y ∷ xs) (suc i) x h e = here xs i x (omega arith) e

pub drop_next : {X : Type 0} (xs : List X) (i : ℕ) (x : X) → i < length xs → x ≡ get_or xs i x → drop i xs ≡ x ∷ drop (i + 1) xs
drop_next {X} xs i x h e =
    let n : suc i ≡ i + 1 = omega arith in
    drop-cons xs i x h ∙ ap (λ (y : X). y ∷ drop (suc i) xs) (sym e) ∙ ap (λ (k : ℕ). x ∷ drop k xs) n

take_suc : {X : Type 0} (xs : List X) (i : ℕ) (x : X) → i < length xs → x ≡ get_or xs i x → take (suc i) xs ≡ take i xs ++ x ∷ []
take_suc {X} [] i x h e = absurd (omega arith)
take_suc {X} (y ∷ xs) zero x h e = ap (λ (z : X). z ∷ []) (sym e)
take_suc {X} (y ∷ xs) (suc i) x h e = ap (λ (l : List X). y ∷ l) (take_suc xs i x (omega arith) e)

pub take_next : {X : Type 0} (xs : List X) (i : ℕ) (x : X) → i < length xs → x ≡ get_or xs i x → take (i + 1) xs ≡ take i xs ++ x ∷ []
take_next {X} xs i x h e =
    let n : i + 1 ≡ suc i = omega arith in
    ap (λ (k : ℕ). take k xs) n ∙ take_suc xs i x h e

pub length_end : {X : Type 0} (xs : List X) (x : X) → length (xs ++ x ∷ []) ≡ length xs + 1
length_end {X} [] x = refl
length_end {X} (y ∷ xs) x = let h : length (xs ++ x ∷ []) ≡ length xs + 1 = length_end xs x in omega arith

-- ---- devices that are gone

gone_parts : (devices : List Offered) (gs : List Grant) (i : ℕ) (g : Grant) → i < length gs → g ≡ get_or gs i g
    → device_gone devices (drop i gs) ≡ option_map (λ (r : DeviceResult). DeviceGone r.device) (option_or (find (is_off devices) g.results) (find (is_off devices) (all_results (drop (i + 1) gs))))
gone_parts devices gs i g h e =
    ap (device_gone devices) (drop_next gs i g h e)
    ∙ ap (λ (o : Option DeviceResult). option_map (λ (r : DeviceResult). DeviceGone r.device) o) (find-append (is_off devices) g.results (all_results (drop (i + 1) gs)))

-- the first of the results of a grant that is
pub gone_here : (devices : List Offered) (gs : List Grant) (i : ℕ) (g : Grant) (r : DeviceResult) (whole : Option Failure) → i < length gs → g ≡ get_or gs i g
    → find (is_off devices) g.results ≡ Some r → device_gone devices (drop i gs) ≡ whole → Some (DeviceGone r.device) ≡ whole
gone_here devices gs i g r whole h e f k =
    sym (gone_parts devices gs i g h e
    ∙ ap (λ (o : Option DeviceResult). option_map (λ (r : DeviceResult). DeviceGone r.device) (option_or o (find (is_off devices) (all_results (drop (i + 1) gs))))) f)
    ∙ k

-- none of them is
pub gone_later : (devices : List Offered) (gs : List Grant) (i : ℕ) (g : Grant) (whole : Option Failure) → i < length gs → g ≡ get_or gs i g
    → find (is_off devices) g.results ≡ None → device_gone devices (drop i gs) ≡ whole → device_gone devices (drop (i + 1) gs) ≡ whole
gone_later devices gs i g whole h e f k =
    sym (gone_parts devices gs i g h e
    ∙ ap (λ (o : Option DeviceResult). option_map (λ (r : DeviceResult). DeviceGone r.device) (option_or o (find (is_off devices) (all_results (drop (i + 1) gs))))) f)
    ∙ k

-- ---- each element

pub each_one : {X : Type 0} (P : X → Type 0) (x : X) → P x → Each P (x ∷ [])
each_one P x h zero y e = let same : x ≡ y = cc in subst P same h
each_one P x h (suc i) y e = absurd (cc)

pub each_append : {X : Type 0} (P : X → Type 0) (xs ys : List X) → Each P xs → Each P ys → Each P (xs ++ ys)
each_append P [] ys h k i y e = k i y e
each_append P (x ∷ xs) ys h k zero y e = h zero y e
each_append P (x ∷ xs) ys h k (suc i) y e = each_append P xs ys (λ j z f. h (suc j) z f) k i y e

-- ---- parts of a list

pub prefix_is : {X : Type 0} (us bs xs : List X) → take (length (us ++ bs)) xs ≡ us ++ bs → take (length us) xs ≡ us
prefix_is us bs xs h =
    let long : length (us ++ bs) ≡ length us + length bs = length-append us bs in
    sym (take-take (length us) (length (us ++ bs)) xs (omega arith)) ∙ ap (take (length us)) h ∙ take-append_seam us bs

pub back_is : {X : Type 0} (us bs xs : List X) → take (length (us ++ bs)) xs ≡ us ++ bs → take (length bs) (drop (length us) xs) ≡ bs
back_is [] bs xs h = h
back_is (a ∷ us) bs [] h = absurd (cc)
back_is (a ∷ us) bs (x ∷ xs) h = back_is us bs xs (ap (drop 1) h)

-- a part from an index to the end
pub slice_rest : {X : Type 0} (xs ys : List X) (n m : ℕ) → xs ≡ ys → n ≡ m → take (length xs - n) (drop n xs) ≡ drop m ys
slice_rest {X} xs ys n m e f =
    take_all (length xs - n) (drop n xs) (let left = length-drop n xs in omega (arith, left)) ∙ ap (λ (l : List X). drop n l) e ∙ ap (λ (k : ℕ). drop k ys) f

pub drop_got : {X : Type 0} (xs : List X) (i : ℕ) (x : X) → slice_get xs i ≡ Some x → drop i xs ≡ x ∷ drop (i + 1) xs
drop_got [] i x e = absurd (cc)
drop_got {X} (y ∷ xs) zero x e = let same : y ≡ x = cc in ap (λ (z : X). z ∷ xs) same
drop_got {X} (y ∷ xs) (suc i) x e = let n : suc (i + 1) ≡ suc i + 1 = omega arith in drop_got xs i x e ∙ ap (λ (k : ℕ). x ∷ drop k (y ∷ xs)) n

pub drop_none : {X : Type 0} (xs : List X) (i : ℕ) → slice_get xs i ≡ None → drop i xs ≡ []
drop_none [] i e = drop-nil i
drop_none (y ∷ xs) zero e = absurd (cc)
drop_none (y ∷ xs) (suc i) e = drop_none xs i e

pub get_past : {X : Type 0} (xs : List X) (n : ℕ) → length xs ≤ n → slice_get xs n ≡ None
get_past [] n h = refl
get_past (x ∷ xs) zero h = absurd (omega arith)
get_past (x ∷ xs) (suc n) h = get_past xs n (omega arith)

pub map_get : {X Y : Type 0} (f : X → Y) (xs : List X) (n : ℕ) → slice_get (map f xs) n ≡ option_map f (slice_get xs n)
map_get f [] n = refl
map_get f (x ∷ xs) zero = refl
map_get f (x ∷ xs) (suc n) = map_get f xs n

-- ---- results of calls

pub if_ok : {T E : Type 0} (P Q : T → Type 0) (r : Result T E) → ((x : T) → P x → Q x) → IfOk r P → IfOk r Q
if_ok P Q (Ok x) f h = f x h
if_ok P Q (Err e) f h = h

-- what is read at an index
pub got_at : {A : Type 0} (xs : List A) (i : ℕ) (r : Option (Bor A)) → MatchOption r (length xs ≤ i) (λ x. (i < length xs) × HoldsAt (λ y. x.now ≡ y) xs i) → option_copied r ≡ slice_get xs i
got_at xs i None h = sym (get_past xs i h)
got_at xs i (Some x) h = sym (slice_get-get_or xs i x.now h.0 ∙ ap Some (sym (h.1 x.now)))

pub copied_none : {A : Type 0} (r : Option (Bor A)) (b : Bool) → is_none r ≡ b → is_none (option_copied r) ≡ b
copied_none None b e = e
copied_none (Some x) b e = e
