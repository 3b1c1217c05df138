-- The names of an allocation's results pick its choice.
use Rattle.std.proofs.Common.{ℕ, zero, suc, ◌<◌, ◌≤◌, ◌≡◌, List, [], ◌∷◌, ◌++◌, Bool, true, false, Option, None, Some, length, map, refl, sym, ap, ◌∙◌, subst, arith}
use Rattle.std.specs.List.{slice_get, list_any, position_or_len}
use Rattle.std.specs.Option.{option_map}
use Rattle.std.proofs.lemmas.List.{map-append}
use Rattle.std.proofs.lemmas.Option.{get_or_from_slice_get, slice_get_within}
use Rattle.std.proofs.lemmas.List.Sums.{position_or_len_is}
use Rattle.walk.specs.Walk.{IsChoice}
use Rattle.api_claim.specs.declared.types.DeviceSubRequest.{DeviceSubRequest}
use Rattle.api_claim.specs.declared.types.RequestKind.{RequestKind}
use Rattle.api_claim.specs.declared.types.RequestKind.TheVariants.{Exactly, FirstAvailable}
use Rattle.pool_view.specs.Names.{text_eq}
use Rattle.cluster.specs.declared.plan.DeviceResult.{DeviceResult}
use Rattle.allocations.specs.Input.{device_result}
use Rattle.request_rules.specs.Allocation.{result_of, taken}
use Rattle.request_rules.specs.Asked.{Asked, Wish, asked_by, asked_from, asked_sub, ways_of}
use Rattle.request_rules.specs.Grants.{named_result}
use Rattle.request_rules.specs.Input.{SearchInput}
use Rattle.request_rules.specs.Lists.{Each, add_some}
use Rattle.request_rules.specs.Names.{Label, result_name}
use Rattle.request_rules.specs.Rules.{Pick}
use Rattle.plan_rules.specs.Chosen.{is_called, is_named, named_way}
use Rattle.plan_rules.proofs.Choices.{way_in}
use Rattle.plan_rules.proofs.Elements.{each_join, each_to_map, none_passes, there}
use Rattle.plan_rules.proofs.Spelling.{WellNamed, sub_isnt_main, sub_tells}
use Rattle.plan_rules.proofs.Tests.{false_from, or_left, or_right, same_from_text_eq, some_is, text_eq-same}

-- a pick as a plan's result
abbrev pub shown : SearchInput → Pick → DeviceResult
shown w p = device_result (named_result (result_of w p))

-- each request has its positions, at least one
abbrev pub AreSome : List Asked → List (List ℕ) → Type 0
AreSome [] [] = Unit {0}
AreSome [] (l ∷ ls) = ⊥
AreSome (a ∷ asks) [] = ⊥
AreSome (a ∷ asks) (l ∷ ls) = (1 ≤ length l) × AreSome asks ls

-- ---- the requests that a choice picks, by their indexes

pub record From (qs : List Wish) (ks : List ℕ) (b : Asked) : Type 0 where
  pub place : ℕ
  pub wish : Wish
  pub number : ℕ
  pub wish_is : slice_get qs place ≡ Some wish
  pub number_is : slice_get ks place ≡ Some number
  pub asks : asked_by wish wish.request.kind number ≡ Some b

from_next : (q : Wish) (qs : List Wish) (k : ℕ) (ks : List ℕ) (b : Asked) → From qs ks b → From (q ∷ qs) (k ∷ ks) b
from_next q qs k ks b f = record { place = suc f.place; wish = f.wish; number = f.number; wish_is = f.wish_is; number_is = f.number_is; asks = f.asks }

from_by : (q : Wish) (qs : List Wish) (k : ℕ) (ks : List ℕ) (o : Option Asked) → asked_by q q.request.kind k ≡ o → Each (From qs ks) (asked_from qs ks) → Each (From (q ∷ qs) (k ∷ ks)) (add_some o (asked_from qs ks))
from_by q qs k ks None e h n b g = from_next q qs k ks b (h n b g)
from_by q qs k ks (Some a) e h zero b g = record { place = 0; wish = q; number = k; wish_is = refl; number_is = refl; asks = e ∙ g }
from_by q qs k ks (Some a) e h (suc n) b g = from_next q qs k ks b (h n b g)

pub each_from : (qs : List Wish) (ks : List ℕ) → Each (From qs ks) (asked_from qs ks)
each_from [] ks n b g = absurd (cc)
each_from (q ∷ qs) [] n b g = absurd (cc)
each_from (q ∷ qs) (k ∷ ks) n b g = from_by q qs k ks (asked_by q q.request.kind k) refl (each_from qs ks) n b g

put_by : (o : Option Asked) (xs : List Asked) (b : Asked) (n : ℕ) → slice_get xs n ≡ Some b → (m : ℕ) × (slice_get (add_some o xs) m ≡ Some b)
put_by None xs b n e = (n, e)
put_by (Some a) xs b n e = (suc n, e)

put_here : (o : Option Asked) (xs : List Asked) (b : Asked) → o ≡ Some b → (m : ℕ) × (slice_get (add_some o xs) m ≡ Some b)
put_here None xs b e = absurd (cc)
put_here (Some a) xs b e = (0, e)

pub put : (qs : List Wish) (ks : List ℕ) (b : Asked) (r : ℕ) (q : Wish) (k : ℕ) → slice_get qs r ≡ Some q → slice_get ks r ≡ Some k → asked_by q q.request.kind k ≡ Some b → (m : ℕ) × (slice_get (asked_from qs ks) m ≡ Some b)
put [] ks b r q k e f g = absurd (cc)
put (p ∷ qs) [] b r q k e f g = absurd (cc)
put (p ∷ qs) (i ∷ ks) b zero q k e f g =
    let s : p ≡ q = cc in
    let t : i ≡ k = cc in
    put_here (asked_by p p.request.kind i) (asked_from qs ks) b (ap (λ (z : Wish). asked_by z z.request.kind i) s ∙ ap (asked_by q q.request.kind) t ∙ g)
put (p ∷ qs) (i ∷ ks) b (suc r) q k e f g =
    let m = put qs ks b r q k e f g in
    put_by (asked_by p p.request.kind i) (asked_from qs ks) b m.0 m.1

-- ---- which names there are

any_right : {X : Type 0} (p : X → Bool) (xs ys : List X) → list_any p ys ≡ true → list_any p (xs ++ ys) ≡ true
any_right p [] ys e = e
any_right p (x ∷ xs) ys e = or_right (p x) (list_any p (xs ++ ys)) (any_right p xs ys e)

named_here : (w : SearchInput) (a b : Asked) (l : List ℕ) (rest : List Pick) → a ≡ b → 1 ≤ length l → is_named (map (shown w) (map (λ x. record { label = a.label; position = x }) l ++ rest)) b ≡ true
named_here w a b [] rest e h = absurd (omega arith)
named_here w a b (x ∷ l) rest e h =
    or_left (text_eq (result_name b.label) (result_name a.label)) (is_named (map (shown w) (map (λ x. record { label = a.label; position = x }) l ++ rest)) b)
    (ap (λ (z : Asked). text_eq (result_name b.label) (result_name z.label)) e ∙ text_eq-same (result_name b.label))

pub named_all : (w : SearchInput) (asks : List Asked) (ls : List (List ℕ)) → AreSome asks ls → Each (λ b. is_named (map (shown w) (taken asks ls)) b ≡ true) asks
named_all w [] ls h n b e = absurd (cc)
named_all w (a ∷ asks) [] h n b e = absurd h
named_all w (a ∷ asks) (l ∷ ls) h zero b e = let s : a ≡ b = cc in named_here w a b l (taken asks ls) s h.0
named_all w (a ∷ asks) (l ∷ ls) h (suc n) b e =
    let prefix : List Pick = map (λ x. record { label = a.label; position = x }) l in
    ap (λ (z : List DeviceResult). is_named z b) (map-append (shown w) prefix (taken asks ls))
    ∙ any_right (is_called b) (map (shown w) prefix) (map (shown w) (taken asks ls)) (named_all w asks ls h.1 n b e)

pub labels_taken : (P : Label → Type 0) (asks : List Asked) (ls : List (List ℕ)) → Each (λ a. P a.label) asks → Each (λ p. P p.label) (taken asks ls)
labels_taken P [] ls h n p e = absurd (cc)
labels_taken P (a ∷ asks) [] h n p e = absurd (cc)
labels_taken P (a ∷ asks) (l ∷ ls) h n p e =
    each_join (λ (p : Pick). P p.label) (map (λ x. record { label = a.label; position = x }) l) (taken asks ls)
    (each_to_map (λ x. record { label = a.label; position = x }) (λ (p : Pick). P p.label) l (λ m x f. h 0 a refl))
    (labels_taken P asks ls (λ m b f. h (suc m) b f)) n p e

pub unnamed : (w : SearchInput) (a : Asked) (asks : List Asked) (ls : List (List ℕ)) → Each (λ b. text_eq (result_name a.label) (result_name b.label) ≡ false) asks → is_named (map (shown w) (taken asks ls)) a ≡ false
unnamed w a asks ls h =
    none_passes (is_called a) (map (shown w) (taken asks ls))
    (each_to_map (shown w) (λ (r : DeviceResult). is_called a r ≡ false) (taken asks ls) (labels_taken (λ (l : Label). text_eq (result_name a.label) (result_name l) ≡ false) asks ls h))

-- ---- the first that is named

first_at : {X : Type 0} (p : X → Bool) (xs : List X) (k : ℕ) (x : X) → slice_get xs k ≡ Some x → p x ≡ true → ((j : ℕ) (y : X) → j < k → slice_get xs j ≡ Some y → p y ≡ false) → position_or_len p xs ≡ k
first_at p xs k x e f h =
    let under = slice_get_within xs k x e in
    position_or_len_is p xs k x (omega (arith, under))
    (λ j lt. let t = there xs j (omega (arith, lt, under)) in ap p (get_or_from_slice_get xs j t.0 x t.1) ∙ h j t.0 lt t.1)
    (λ lt. ap p (get_or_from_slice_get xs k x x e) ∙ f)

same_wish : (qs : List Wish) (r : ℕ) (p q : Wish) → slice_get qs r ≡ Some p → slice_get qs r ≡ Some q → p ≡ q
same_wish qs r p q e f = cc

same_count : (ks : List ℕ) (r : ℕ) (j k : ℕ) → slice_get ks r ≡ Some j → slice_get ks r ≡ Some k → j ≡ k
same_count ks r j k e f = cc

sub_of : (q : Wish) (o : Option DeviceSubRequest) (b : Asked) → option_map (asked_sub q) o ≡ Some b → (s : DeviceSubRequest) × (o ≡ Some s) × (asked_sub q s ≡ b)
sub_of q None b e = absurd (cc)
sub_of q (Some s) b e = (s, refl, some_is (asked_sub q s) b e)

-- an earlier subrequest has another name than each that is chosen
other_name : (qs : List Wish) (ks : List ℕ) → WellNamed qs → (r : ℕ) (q : Wish) (k : ℕ) (ss : List DeviceSubRequest) → slice_get qs r ≡ Some q → slice_get ks r ≡ Some k → q.request.kind ≡ FirstAvailable ss
    → (j : ℕ) (t : DeviceSubRequest) → j < k → slice_get ss j ≡ Some t → (b : Asked) → (f : From qs ks b) → (kind : RequestKind) → f.wish.request.kind ≡ kind → result_name (asked_sub q t).label ≡ result_name b.label → ⊥
other_name qs ks named r q k ss e g kq j t lt h b f (Exactly x) m same =
    let c : Asked = record { label = record { claim = f.wish.claim; request = f.wish.request.name; sub = None; admin = x.admin }; key = f.wish.key; ask = x.ask } in
    let is : c ≡ b = some_is c b (ap (λ (z : RequestKind). asked_by f.wish z f.number) (sym m) ∙ f.asks) in
    sub_isnt_main q.request.name t.name f.wish.request.name (named.plain f.place f.wish f.wish_is) (same ∙ sym (ap (λ (z : Asked). result_name z.label) is))
other_name qs ks named r q k ss e g kq j t lt h b f (FirstAvailable ts) m same =
    let s = sub_of f.wish (slice_get ts f.number) b (ap (λ (z : RequestKind). asked_by f.wish z f.number) (sym m) ∙ f.asks) in
    let both = sub_tells q.request.name t.name f.wish.request.name s.0.name (named.plain r q e) (named.plain f.place f.wish f.wish_is) (same ∙ sym (ap (λ (z : Asked). result_name z.label) s.2)) in
    let place : r ≡ f.place = named.tells r f.place q f.wish e f.wish_is both.0 in
    let wish : q ≡ f.wish = same_wish qs r q f.wish e (ap (slice_get qs) place ∙ f.wish_is) in
    let number : k ≡ f.number = same_count ks r k f.number g (ap (slice_get ks) place ∙ f.number_is) in
    let kinds : FirstAvailable ss ≡ FirstAvailable ts = sym kq ∙ ap (λ (z : Wish). z.request.kind) wish ∙ m in
    let lists : ss ≡ ts = cc in
    let here : slice_get ss k ≡ Some s.0 = ap (λ (l : List DeviceSubRequest). slice_get l k) lists ∙ ap (slice_get ts) number ∙ s.1 in
    let again : j ≡ k = (named.subs r q e ss kq).tells j k t s.0 h here both.1 in
    absurd (omega (arith, again, lt))

way_by : (w : SearchInput) (qs : List Wish) (ks : List ℕ) (ls : List (List ℕ)) → WellNamed qs → AreSome (asked_from qs ks) ls → (r : ℕ) (q : Wish) (k : ℕ) → slice_get qs r ≡ Some q → slice_get ks r ≡ Some k
    → (kind : RequestKind) → q.request.kind ≡ kind → k < ways_of kind → named_way (map (shown w) (taken (asked_from qs ks) ls)) q kind ≡ k
way_by w qs ks ls named some r q k e g (Exactly x) kq lt = omega (arith, lt)
way_by w qs ks ls named some r q k e g (FirstAvailable ss) kq lt =
    let rs = map (shown w) (taken (asked_from qs ks) ls) in
    let s = there ss k lt in
    let m = put qs ks (asked_sub q s.0) r q k e g (ap (λ (z : RequestKind). asked_by q z k) kq ∙ ap (option_map (asked_sub q)) s.1) in
    first_at (λ t. is_named rs (asked_sub q t)) ss k s.0 s.1 (named_all w (asked_from qs ks) ls some m.0 (asked_sub q s.0) m.1)
    (λ j t less h.
    unnamed w (asked_sub q t) (asked_from qs ks) ls
    (λ n b at.
    let f = each_from qs ks n b at in
    false_from (text_eq (result_name (asked_sub q t).label) (result_name b.label))
    (λ x. other_name qs ks named r q k ss e g kq j t less h b f f.wish.request.kind refl (same_from_text_eq (result_name (asked_sub q t).label) (result_name b.label) x))))

choice_at : (qs : List Wish) (ks : List ℕ) → IsChoice (map (λ q. ways_of q.request.kind) qs) ks → (r : ℕ) (q : Wish) (k : ℕ) → slice_get qs r ≡ Some q → slice_get ks r ≡ Some k → k < ways_of q.request.kind
choice_at [] ks c r q k e g = absurd (cc)
choice_at (p ∷ qs) [] c r q k e g = absurd (cc)
choice_at (p ∷ qs) (i ∷ ks) c zero q k e g =
    let s : p ≡ q = cc in
    let t : i ≡ k = cc in
    subst (λ (z : Wish). k < ways_of z.request.kind) s (subst (λ (z : ℕ). z < ways_of p.request.kind) t c.0)
choice_at (p ∷ qs) (i ∷ ks) c (suc r) q k e g = choice_at qs ks c.1 r q k e g

same_map : (f : Wish → ℕ) (qs : List Wish) (ks : List ℕ) → IsChoice (map (λ q. ways_of q.request.kind) qs) ks → ((r : ℕ) (q : Wish) (k : ℕ) → slice_get qs r ≡ Some q → slice_get ks r ≡ Some k → f q ≡ k) → map f qs ≡ ks
same_map f [] [] c h = refl
same_map f [] (k ∷ ks) c h = absurd c
same_map f (q ∷ qs) [] c h = absurd c
same_map f (q ∷ qs) (k ∷ ks) c h = ap (λ (z : ℕ). z ∷ map f qs) (h 0 q k refl refl) ∙ ap (λ (l : List ℕ). k ∷ l) (same_map f qs ks c.1 (λ r p i e g. h (suc r) p i e g))

-- the names of the results of a choice pick it
pub picked_back : (w : SearchInput) (qs : List Wish) (ks : List ℕ) (ls : List (List ℕ)) → WellNamed qs → AreSome (asked_from qs ks) ls → IsChoice (map (λ q. ways_of q.request.kind) qs) ks
    → map (way_in (map (shown w) (taken (asked_from qs ks) ls))) qs ≡ ks
picked_back w qs ks ls named some c =
    same_map (way_in (map (shown w) (taken (asked_from qs ks) ls))) qs ks c (λ r q k e g. way_by w qs ks ls named some r q k e g q.request.kind refl (choice_at qs ks c r q k e g))
