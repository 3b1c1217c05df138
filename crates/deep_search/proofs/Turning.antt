-- Choices one after another, and the items that are left with them.
use Rattle.std.proofs.Common.{ℕ, zero, suc, ◌<◌, ◌≤◌, ◌+◌, ◌-◌, ◌≡◌, ◌≢◌, List, [], ◌∷◌, ◌++◌, length, map, take, drop, get_or, refl, sym, ap, ◌∙◌, subst, arith, append_assoc, append-nil}
use Rattle.std.specs.List.{flat_map}
use Rattle.std.proofs.lemmas.List.{drop_more, drop_all}
use Rattle.walk.specs.Lists.{numbers, fronted, choices}
use Rattle.walk.specs.Walk.{Problem, items, walk, IsChoice}
use Rattle.walk.specs.Outcome.{Outcome, Unsat, outcome}
use Rattle.deep_search.specs.Progress.{Progress, Stopped, Left, progress, report}
use Rattle.deep_search.specs.Choices.{zeros, choices_from, walk_from, IsFirst, IsLast, IsNext, Turns}
use Rattle.deep_search.specs.declared.answer.Status.{Status}
use Rattle.deep_search.specs.declared.answer.Status.TheVariants as status
use Rattle.deep_search.proofs.Steps.{progress-left, progress-report, outcome-over, outcome-stopped}

-- the first choice
fronted_none : (prefixes : List ℕ) → fronted [] prefixes ≡ []
fronted_none [] = refl
fronted_none (x ∷ xs) = fronted_none xs

choices_none : (k : ℕ) (ks : List ℕ) → choices ks ≡ [] → choices (k ∷ ks) ≡ []
unfolding choices
choices_none k ks e = ap (λ (t : List (List ℕ)). fronted t (numbers 0 k)) e ∙ fronted_none (numbers 0 k)

choices_zero : (ks : List ℕ) → choices (0 ∷ ks) ≡ []
unfolding choices
choices_zero ks = refl

pub none-here : (ks : List ℕ) (i : ℕ) → i < length ks → get_or ks i 0 ≡ 0 → choices (drop i ks) ≡ []
none-here ks i h z = ap choices (drop_more ks i 0 h) ∙ ap (λ (k : ℕ). choices (k ∷ drop (i + 1) ks)) z ∙ choices_zero (drop (i + 1) ks)

pub none-behind : (ks : List ℕ) (i : ℕ) → i < length ks → choices (drop (i + 1) ks) ≡ [] → choices (drop i ks) ≡ []
none-behind ks i h e = ap choices (drop_more ks i 0 h) ∙ choices_none (get_or ks i 0) (drop (i + 1) ks) e

first_more : (k : ℕ) (ks c : List ℕ) → 0 < k → IsFirst ks c → IsFirst (k ∷ ks) (0 ∷ c)
unfolding choices choices_from
first_more zero ks c h f = absurd (omega arith)
first_more (suc k) ks c h f =
    let e : suc k - (0 + 1) ≡ k = omega arith in
    record {
      choice = (h, f.choice);
      first = ap (λ (t : List (List ℕ)). map (λ d. 0 ∷ d) t ++ fronted (choices ks) (numbers (0 + 1) (suc k - (0 + 1)))) f.first
          ∙ ap (λ (n : ℕ). map (λ d. 0 ∷ d) (choices ks) ++ fronted (choices ks) (numbers (0 + 1) n)) e;
    }

first_nil : IsFirst [] []
unfolding choices choices_from
first_nil = record { choice = tt; first = refl }

pub first-step : (ks c d : List ℕ) (i : ℕ) → i < length ks → get_or ks i 0 ≢ 0 → d ≡ c ++ 0 ∷ [] → ((e : List ℕ) → IsFirst (drop i ks) e → IsFirst ks (c ++ e))
    → (e : List ℕ) → IsFirst (drop (i + 1) ks) e → IsFirst ks (d ++ e)
first-step ks c d i h n d_is more e first =
    let f : IsFirst (get_or ks i 0 ∷ drop (i + 1) ks) (0 ∷ e) = first_more (get_or ks i 0) (drop (i + 1) ks) e (omega arith) first in
    let same : c ++ 0 ∷ e ≡ d ++ e = sym (ap (λ (t : List ℕ). t ++ e) d_is ∙ append_assoc c (0 ∷ []) e) in
    subst (IsFirst ks) same (more (0 ∷ e) (subst (λ (t : List ℕ). IsFirst t (0 ∷ e)) (sym (drop_more ks i 0 h)) f))

pub first-whole : (ks c : List ℕ) (i : ℕ) → length ks ≤ i → ((e : List ℕ) → IsFirst (drop i ks) e → IsFirst ks (c ++ e)) → IsFirst ks c
first-whole ks c i h more = subst (IsFirst ks) (append-nil c) (more [] (subst (λ (t : List ℕ). IsFirst t []) (sym (drop_all i ks h)) first_nil))

-- the last index at which a choice goes up
pub length-of : (ks c : List ℕ) → IsChoice ks c → length c ≡ length ks
length-of [] [] h = refl
length-of [] (x ∷ c) h = absurd h
length-of (k ∷ ks) [] h = absurd h
length-of (k ∷ ks) (x ∷ c) h = ap suc (length-of ks c h.1)

pub choice-at : (ks c : List ℕ) (i : ℕ) → IsChoice ks c → i < length ks → get_or c i 0 < get_or ks i 0
choice-at [] c i h l = absurd (omega arith)
choice-at (k ∷ ks) [] i h l = absurd h
choice-at (k ∷ ks) (x ∷ c) zero h l = h.0
choice-at (k ∷ ks) (x ∷ c) (suc i) h l = choice-at ks c i h.1 (omega arith)

last_nil : IsLast [] []
unfolding choices_from
last_nil = refl

pub last-first : (ks c : List ℕ) → IsChoice ks c → IsLast (drop (length ks) ks) (drop (length ks) c)
last-first ks c h =
    let e : drop (length ks) ks ≡ [] = drop_all (length ks) ks (omega arith) in
    let f : drop (length ks) c ≡ [] = drop_all (length ks) c (omega (arith, length-of ks c h)) in
    subst (λ (t : List ℕ). IsLast t (drop (length ks) c)) (sym e) (subst (IsLast []) (sym f) last_nil)

last_more : (k x : ℕ) (ks c : List ℕ) → k ≤ x + 1 → IsLast ks c → IsLast (k ∷ ks) (x ∷ c)
unfolding choices_from
last_more k x ks c h last =
    let e : k - (x + 1) ≡ 0 = omega arith in
    ap (λ (t : List (List ℕ)). map (λ d. x ∷ d) t ++ fronted (choices ks) (numbers (x + 1) (k - (x + 1)))) last
    ∙ ap (λ (n : ℕ). (x ∷ c) ∷ fronted (choices ks) (numbers (x + 1) n)) e

pub last-step : (ks c : List ℕ) (place : ℕ) → IsChoice ks c → 0 < place → place ≤ length ks → get_or ks (place - 1) 0 ≤ get_or c (place - 1) 0 + 1
    → IsLast (drop place ks) (drop place c) → IsLast (drop (place - 1) ks) (drop (place - 1) c)
last-step ks c place h more known full last =
    let i = place - 1 in
    let size : length c ≡ length ks = length-of ks c h in
    let e : place ≡ i + 1 = omega arith in
    let f : IsLast (drop (i + 1) ks) (drop (i + 1) c) = subst (λ (n : ℕ). IsLast (drop n ks) (drop n c)) e last in
    let g : IsLast (get_or ks i 0 ∷ drop (i + 1) ks) (get_or c i 0 ∷ drop (i + 1) c) = last_more (get_or ks i 0) (get_or c i 0) (drop (i + 1) ks) (drop (i + 1) c) full f in
    let in_ks : i < length ks = omega arith in
    let in_c : i < length c = omega arith in
    subst (λ (t : List ℕ). IsLast t (drop i c)) (sym (drop_more ks i 0 in_ks)) (subst (IsLast (get_or ks i 0 ∷ drop (i + 1) ks)) (sym (drop_more c i 0 in_c)) g)

-- the next choice
zeros_first : (ks c : List ℕ) (n : ℕ) → IsChoice ks c → n ≡ length ks → IsFirst ks (zeros n)
zeros_first [] [] zero h e = first_nil
zeros_first [] [] (suc n) h e = absurd (omega arith)
zeros_first [] (x ∷ c) n h e = absurd h
zeros_first (k ∷ ks) [] n h e = absurd h
zeros_first (k ∷ ks) (x ∷ c) zero h e = absurd (omega arith)
zeros_first (k ∷ ks) (x ∷ c) (suc n) h e =
    let l : x < k = h.0 in
    first_more k ks (zeros n) (omega arith) (zeros_first ks c n h.1 (omega arith))

next_here : (k x : ℕ) (ks c : List ℕ) (n : ℕ) → IsChoice ks c → x + 1 < k → n ≡ length ks → IsLast ks c → IsNext (k ∷ ks) (x ∷ c) ((x + 1) ∷ zeros n)
unfolding choices_from
next_here k x ks c n h l e last =
    let first = zeros_first ks c n h e in
    let f : k - (x + 1) ≡ suc (k - (x + 1 + 1)) = omega arith in
    record {
      choice = (l, first.choice);
      next = ap (λ (t : List (List ℕ)). map (λ d. x ∷ d) t ++ fronted (choices ks) (numbers (x + 1) (k - (x + 1)))) last
          ∙ ap (λ (m : ℕ). (x ∷ c) ∷ fronted (choices ks) (numbers (x + 1) m)) f
          ∙ ap (λ (t : List (List ℕ)). (x ∷ c) ∷ (map (λ d. (x + 1) ∷ d) t ++ fronted (choices ks) (numbers (x + 1 + 1) (k - (x + 1 + 1))))) (sym first.first);
    }

next_more : (k x : ℕ) (ks c d : List ℕ) → x < k → IsNext ks c d → IsNext (k ∷ ks) (x ∷ c) (x ∷ d)
unfolding choices_from
next_more k x ks c d l f = record {
  choice = (l, f.choice);
  next = ap (λ (t : List (List ℕ)). map (λ d. x ∷ d) t ++ fronted (choices ks) (numbers (x + 1) (k - (x + 1)))) f.next;
}

next_at : (ks c : List ℕ) (place n : ℕ) → IsChoice ks c → place < length ks → get_or c place 0 + 1 < get_or ks place 0 → IsLast (drop (suc place) ks) (drop (suc place) c) → n + suc place ≡ length ks
    → IsNext ks c (take place c ++ (get_or c place 0 + 1) ∷ zeros n)
next_at [] c place n h known further last e = absurd (omega arith)
next_at (k ∷ ks) [] place n h known further last e = absurd h
next_at (k ∷ ks) (x ∷ c) zero n h known further last e = next_here k x ks c n h.1 further (omega arith) last
next_at (k ∷ ks) (x ∷ c) (suc place) n h known further last e =
    next_more k x ks c (take place c ++ (get_or c place 0 + 1) ∷ zeros n) h.0 (next_at ks c place n h.1 (omega arith) further last (omega arith))

pub next-is : (ks c d : List ℕ) (place n x : ℕ) → IsChoice ks c → Turns ks c place → x ≡ get_or c place 0 + 1 → n ≡ length ks - (place + 1) → d ≡ (take place c ++ x ∷ []) ++ zeros n → IsNext ks c d
next-is ks c d place n x h t x_is n_is d_is =
    let known : place < length ks = t.known in
    let e : place + 1 ≡ suc place = omega arith in
    let last : IsLast (drop (suc place) ks) (drop (suc place) c) = subst (λ (m : ℕ). IsLast (drop m ks) (drop m c)) e t.last in
    let same : take place c ++ (get_or c place 0 + 1) ∷ zeros n ≡ d =
    sym (d_is ∙ append_assoc (take place c) (x ∷ []) (zeros n) ∙ ap (λ (m : ℕ). take place c ++ m ∷ zeros n) x_is) in
    subst (IsNext ks c) same (next_at ks c place n h known t.further last (omega arith))

-- one more zero
pub zeros-more : (c d start : List ℕ) (count size : ℕ) → size < count → d ≡ c ++ 0 ∷ [] → c ++ zeros (count - size) ≡ start → d ++ zeros (count - (size + 1)) ≡ start
zeros-more c d start count size h d_is e =
    let f : count - size ≡ suc (count - (size + 1)) = omega arith in
    ap (λ (t : List ℕ). t ++ zeros (count - (size + 1))) d_is
    ∙ append_assoc c (0 ∷ []) (zeros (count - (size + 1)))
    ∙ ap (λ (n : ℕ). c ++ zeros n) (sym f)
    ∙ e

-- the items of a choice, and of those behind it
from_first : (ks c : List ℕ) → IsChoice ks c → (cs : List (List ℕ)) × (choices_from ks c ≡ c ∷ cs)
unfolding choices_from
from_first [] [] h = ([], refl)
from_first [] (x ∷ c) h = absurd h
from_first (k ∷ ks) [] h = absurd h
from_first (k ∷ ks) (x ∷ c) h =
    let f = from_first ks c h.1 in
    let rest = fronted (choices ks) (numbers (x + 1) (k - (x + 1))) in
    (map (λ d. x ∷ d) f.0 ++ rest, ap (λ (t : List (List ℕ)). map (λ d. x ∷ d) t ++ rest) f.1)

pub from-ended : (p : Problem) (ks c d l : List ℕ) (b b' : ℕ) (r : Status) (start : Progress) → ks ≡ p.options → IsChoice ks c → r ≢ status.Searching
    → start ≡ progress b (walk_from p c) → progress b (items p c) ≡ report r b' d l → start ≡ report r b' d l
unfolding walk_from
from-ended p ks c d l b b' r start options h ended s e =
    let f = from_first p.options c (subst (λ (t : List ℕ). IsChoice t c) options h) in
    s ∙ ap (λ (t : List (List ℕ)). progress b (flat_map (items p) t)) f.1
    ∙ progress-report b b' r d l (items p c) (flat_map (items p) f.0) ended e

pub from-last : (p : Problem) (ks c d l : List ℕ) (b b' : ℕ) (r : Status) (start : Progress) → ks ≡ p.options → IsLast ks c → r ≡ status.Searching
    → start ≡ progress b (walk_from p c) → progress b (items p c) ≡ report r b' d l → start ≡ Left b'
unfolding walk_from
from-last p ks c d l b b' r start options last is s e =
    s ∙ ap (λ (t : List (List ℕ)). progress b (flat_map (items p) t)) (subst (λ (t : List ℕ). IsLast t c) options last)
    ∙ ap (progress b) (append-nil (items p c)) ∙ e ∙ ap (λ (t : Status). report t b' d l) is

pub from-next : (p : Problem) (ks c n d l : List ℕ) (b b' : ℕ) (r : Status) (start : Progress) → ks ≡ p.options → IsNext ks c n → r ≡ status.Searching
    → start ≡ progress b (walk_from p c) → progress b (items p c) ≡ report r b' d l → start ≡ progress b' (walk_from p n)
unfolding walk_from
from-next p ks c n d l b b' r start options next is s e =
    let f : IsNext p.options c n = subst (λ (t : List ℕ). IsNext t c n) options next in
    s ∙ ap (λ (t : List (List ℕ)). progress b (flat_map (items p) t)) f.next
    ∙ progress-left b b' (items p c) (flat_map (items p) (choices_from p.options n)) (e ∙ ap (λ (t : Status). report t b' d l) is)

-- what the search returns
walk_is : (p : Problem) (ks c : List ℕ) → ks ≡ p.options → IsFirst ks c → walk p ≡ walk_from p c
unfolding walk walk_from
walk_is p ks c options f =
    let first : IsFirst p.options c = subst (λ (t : List ℕ). IsFirst t c) options f in
    sym (ap (flat_map (items p)) first.first)

pub search-empty : (p : Problem) (ks : List ℕ) (b : ℕ) → ks ≡ p.options → choices ks ≡ [] → outcome b (walk p) ≡ Unsat
unfolding walk progress
search-empty p ks b options none =
    ap (λ (t : List (List ℕ)). outcome b (flat_map (items p) t)) (ap choices (sym options) ∙ none) ∙ outcome-over b b [] refl

pub search-over : (p : Problem) (ks c d l : List ℕ) (b b' : ℕ) (r : Status) → ks ≡ p.options → IsFirst ks c → r ≡ status.Searching
    → progress b (walk_from p c) ≡ report r b' d l → outcome b (walk p) ≡ Unsat
search-over p ks c d l b b' r options first is e =
    ap (outcome b) (walk_is p ks c options first) ∙ outcome-over b b' (walk_from p c) (e ∙ ap (λ (t : Status). report t b' d l) is)

pub search-stopped : (p : Problem) (ks c d l : List ℕ) (b b' : ℕ) (r s : Status) (o : Outcome) → ks ≡ p.options → IsFirst ks c → r ≡ s → report s b' d l ≡ Stopped o
    → progress b (walk_from p c) ≡ report r b' d l → outcome b (walk p) ≡ o
search-stopped p ks c d l b b' r s o options first is told e =
    ap (outcome b) (walk_is p ks c options first) ∙ outcome-stopped b o (walk_from p c) (e ∙ ap (λ (t : Status). report t b' d l) is ∙ told)

-- what holds for a choice's items at the board's own state (q, d)
pub same-items : (p q : Problem) (c d : List ℕ) (b : ℕ) (end : Progress) → q ≡ p → d ≡ c → progress b (items q d) ≡ end → progress b (items p c) ≡ end
same-items p q c d b end same_p same_c e =
    subst (λ (t : Problem). progress b (items t c) ≡ end) same_p (subst (λ (t : List ℕ). progress b (items q t) ≡ end) same_c e)
