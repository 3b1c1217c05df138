-- What lies under a list of positions, and what is left of it.
use Rattle.std.proofs.Common.{ℕ, zero, suc, ◌<◌, ◌≤◌, ◌+◌, ◌-◌, ◌≡◌, ◌≢◌, List, [], ◌∷◌, ◌++◌, Bool, true, false, cond, eqb, length, map, refl, sym, ap, ◌∙◌, subst, arith, append_assoc, append-nil, length-append}
use Rattle.std.specs.List.{filter}
use Rattle.std.proofs.lemmas.List.{map-append}
use Rattle.std.proofs.lemmas.List.Elements.{filter-append}
use Rattle.std.proofs.lemmas.Bool.Decides.{nat_tests}
use Rattle.walk.specs.Lists.{numbers, fronted, position_lists}
use Rattle.walk.specs.Walk.{Shape, Faulty, Hopeless, Open, Problem, Mark, Part, Full, Fault, Item, mark_by, item, lists_by, items}
use Rattle.walk.specs.Outcome.{Ended, Budget, mark_ends}
use Rattle.deep_search.specs.Progress.{Progress, Stopped, Left, progress, report, onward}
use Rattle.deep_search.specs.Parts.{items_under, branches, within, pending, Passed, Placed, Opened, Ends, Standing}
use Rattle.deep_search.specs.declared.answer.Status.{Status}
use Rattle.deep_search.specs.declared.answer.Status.TheVariants as status
use Rattle.deep_search.specs.declared.answer.Window.{Window}
use Rattle.deep_search.proofs.Steps.{progress-none, progress-part, progress-last, onward-stopped}

-- a good list's prefix is good
abbrev pub IsClosed : Problem → Type 0
IsClosed p = (c l : List ℕ) (x : ℕ) → p.good c (l ++ x ∷ []) ≡ true → p.good c l ≡ true

bad_more : (b d : Bool) → (b ≡ true → d ≡ true) → d ≡ false → b ≡ false
bad_more true d h e = let f = h refl in absurd (cc)
bad_more false d h e = refl

bad_extends : (p : Problem) (c l m : List ℕ) → IsClosed p → p.good c l ≡ false → p.good c (l ++ m) ≡ false
bad_extends p c l [] closed e = ap (p.good c) (append-nil l) ∙ e
bad_extends p c l (x ∷ m) closed e =
    let f = bad_more (p.good c (l ++ x ∷ [])) (p.good c l) (closed c l x) e in
    ap (p.good c) (sym (append_assoc l (x ∷ []) m)) ∙ bad_extends p c (l ++ x ∷ []) m closed f

none_pass : (p : Problem) (c l : List ℕ) (ms : List (List ℕ)) → IsClosed p → p.good c l ≡ false → filter (p.good c) (map (λ m. l ++ m) ms) ≡ []
none_pass p c l [] closed e = refl
none_pass p c l (m ∷ ms) closed e =
    ap (λ (b : Bool). cond b ((l ++ m) ∷ filter (p.good c) (map (λ m. l ++ m) ms)) (filter (p.good c) (map (λ m. l ++ m) ms))) (bad_extends p c l m closed e) ∙ none_pass p c l ms closed e

-- nothing lies under a list that isn't good
pub items_under-bad : (p : Problem) (c l : List ℕ) (room : ℕ) → IsClosed p → p.good c l ≡ false → items_under p c l room ≡ []
unfolding items_under
items_under-bad p c l room closed e = ap (map (item p c)) (none_pass p c l (position_lists p.devices room) closed e)

map_prefixes : (l : List ℕ) (x : ℕ) (ms : List (List ℕ)) → map (λ m. l ++ m) (map (λ m. x ∷ m) ms) ≡ map (λ m. (l ++ x ∷ []) ++ m) ms
map_prefixes l x [] = refl
map_prefixes l x (m ∷ ms) = let e = append_assoc l (x ∷ []) m in let f = map_prefixes l x ms in cc

kept_under : (p : Problem) (c l : List ℕ) (ms : List (List ℕ)) → List Item
kept_under p c l ms = map (item p c) (filter (p.good c) (map (λ m. l ++ m) ms))

under_append : (p : Problem) (c l : List ℕ) (ms ns : List (List ℕ)) → kept_under p c l (ms ++ ns) ≡ kept_under p c l ms ++ kept_under p c l ns
unfolding kept_under
under_append p c l ms ns =
    ap (λ (w : List (List ℕ)). map (item p c) (filter (p.good c) w)) (map-append (λ (m : List ℕ). l ++ m) ms ns)
    ∙ ap (map (item p c)) (filter-append (p.good c) (map (λ m. l ++ m) ms) (map (λ m. l ++ m) ns))
    ∙ map-append (item p c) (filter (p.good c) (map (λ m. l ++ m) ms)) (filter (p.good c) (map (λ m. l ++ m) ns))

under_prefix : (p : Problem) (c l : List ℕ) (x : ℕ) (ms : List (List ℕ)) → kept_under p c l (map (λ m. x ∷ m) ms) ≡ kept_under p c (l ++ x ∷ []) ms
unfolding kept_under
under_prefix p c l x ms = ap (λ (w : List (List ℕ)). map (item p c) (filter (p.good c) w)) (map_prefixes l x ms)

branches_are : (p : Problem) (c l : List ℕ) (room first count : ℕ) → kept_under p c l (fronted (position_lists p.devices room) (numbers first count)) ≡ branches p c l room first count
unfolding branches items_under kept_under
branches_are p c l room first zero = refl
branches_are p c l room first (suc count) =
    let ms = map (λ m. first ∷ m) (position_lists p.devices room) in
    let ns = fronted (position_lists p.devices room) (numbers (first + 1) count) in
    under_append p c l ms ns
    ∙ ap (λ (w : List Item). w ++ kept_under p c l ns) (under_prefix p c l first (position_lists p.devices room))
    ∙ ap (λ (w : List Item). kept_under p c (l ++ first ∷ []) (position_lists p.devices room) ++ w) (branches_are p c l room (first + 1) count)

good_first : (p : Problem) (c l : List ℕ) (ms : List (List ℕ)) → p.good c l ≡ true → kept_under p c l ([] ∷ ms) ≡ item p c l ∷ kept_under p c l ms
unfolding kept_under
good_first p c l ms e =
    let f : l ++ [] ≡ l = append-nil l in
    let rest = filter (p.good c) (map (λ m. l ++ m) ms) in
    ap (λ (w : List ℕ). map (item p c) (cond (p.good c w) (w ∷ rest) rest)) f ∙ ap (λ (b : Bool). map (item p c) (cond b (l ∷ rest) rest)) e

-- the list itself comes first
items_under-zero : (p : Problem) (c l : List ℕ) → p.good c l ≡ true → items_under p c l 0 ≡ item p c l ∷ []
unfolding items_under position_lists kept_under
items_under-zero p c l e = good_first p c l [] e

items_under-suc : (p : Problem) (c l : List ℕ) (room : ℕ) → p.good c l ≡ true → items_under p c l (suc room) ≡ item p c l ∷ branches p c l room 0 p.devices
unfolding items_under position_lists kept_under
items_under-suc p c l room e =
    good_first p c l (fronted (position_lists p.devices room) (numbers 0 p.devices)) e ∙ ap (λ (w : List Item). item p c l ∷ w) (branches_are p c l room 0 p.devices)

mark_of_full : (p : Problem) (c l : List ℕ) (slots : ℕ) → p.shape c ≡ Open slots → length l ≡ slots → (item p c l).mark ≡ Full
mark_of_full p c l slots e z =
    let f : eqb (length l) slots ≡ true = grind (arith, nat_tests) in
    ap (λ (s : Shape). mark_by s l) e ∙ ap (λ (b : Bool). cond b Full Part) f

mark_of_part : (p : Problem) (c l : List ℕ) (slots : ℕ) → p.shape c ≡ Open slots → length l < slots → (item p c l).mark ≡ Part
mark_of_part p c l slots e h =
    let f : eqb (length l) slots ≡ false = grind (arith, nat_tests) in
    ap (λ (s : Shape). mark_by s l) e ∙ ap (λ (b : Bool). cond b Full Part) f

abbrev pub marked : List ℕ → List ℕ → Mark → Item
marked c l m = record { choice = c; positions = l; mark = m }

-- what lies under a good list begins with it
items_under-first : (p : Problem) (c l : List ℕ) (room : ℕ) → p.good c l ≡ true → (xs : List Item) × (items_under p c l room ≡ item p c l ∷ xs)
items_under-first p c l zero e = ([], items_under-zero p c l e)
items_under-first p c l (suc room) e = (branches p c l room 0 p.devices, items_under-suc p c l room e)

pub enter-none : (p : Problem) (c l : List ℕ) (room b : ℕ) (rest : List Item) → p.good c l ≡ true → b ≡ 0 → progress b (items_under p c l room ++ rest) ≡ Stopped Budget
enter-none p c l room b rest e z =
    let first = items_under-first p c l room e in
    ap (λ (w : List Item). progress b (w ++ rest)) first.1 ∙ progress-none b (item p c l) (first.0 ++ rest) z

pub enter-full : (p : Problem) (c l : List ℕ) (slots room b : ℕ) (rest : List Item) → p.good c l ≡ true → p.shape c ≡ Open slots → 0 < b → length l ≡ slots
    → progress b (items_under p c l room ++ rest) ≡ Stopped (Ended (marked c l Full))
enter-full p c l slots room b rest e s h z =
    let first = items_under-first p c l room e in
    ap (λ (w : List Item). progress b (w ++ rest)) first.1
    ∙ progress-last b (item p c l) (first.0 ++ rest) h (ap mark_ends (mark_of_full p c l slots s z))
    ∙ ap (λ (m : Mark). Stopped (Ended (marked c l m))) (mark_of_full p c l slots s z)

-- the branches from one position on
pub branches-next : (p : Problem) (c l : List ℕ) (room first n : ℕ) → first < n → branches p c l room first (n - first) ≡ items_under p c (l ++ first ∷ []) room ++ branches p c l room (first + 1) (n - (first + 1))
unfolding branches
branches-next p c l room first n h =
    let e : n - first ≡ suc (n - (first + 1)) = omega arith in
    ap (branches p c l room first) e

pub branches-none : (p : Problem) (c l : List ℕ) (room first n : ℕ) → n ≤ first → branches p c l room first (n - first) ≡ []
unfolding branches
branches-none p c l room first n h = let e : n - first ≡ 0 = omega arith in ap (branches p c l room first) e

-- positions that aren't good have nothing under them
branches-skip : (p : Problem) (c l : List ℕ) (room first k count : ℕ) → IsClosed p → ((x : ℕ) → first ≤ x → x < first + k → p.good c (l ++ x ∷ []) ≡ false)
    → branches p c l room first (k + count) ≡ branches p c l room (first + k) count
unfolding branches
branches-skip p c l room first zero count closed bad =
    let e : zero + count ≡ count = omega arith in
    let f : first ≡ first + zero = omega arith in
    ap (branches p c l room first) e ∙ ap (λ (n : ℕ). branches p c l room n count) f
branches-skip p c l room first (suc k) count closed bad =
    let e : suc k + count ≡ suc (k + count) = omega arith in
    let f : first + 1 + k ≡ first + suc k = omega arith in
    ap (branches p c l room first) e
    ∙ ap (λ (w : List Item). w ++ branches p c l room (first + 1) (k + count)) (items_under-bad p c (l ++ first ∷ []) room closed (bad first (omega arith) (omega arith)))
    ∙ branches-skip p c l room (first + 1) k count closed (λ x h m. bad x (omega arith) (omega arith))
    ∙ ap (λ (n : ℕ). branches p c l room n count) f

-- nor have those behind a window's end
window_end : (p : Problem) (c l : List ℕ) (room first k more count : ℕ) → IsClosed p → count ≡ k + more → ((x : ℕ) → first + k ≤ x → x < first + k + more → p.good c (l ++ x ∷ []) ≡ false)
    → branches p c l room first count ≡ branches p c l room first k
unfolding branches
window_end p c l room first zero more count closed e bad =
    let f : count ≡ more + 0 = omega arith in
    ap (branches p c l room first) f ∙ branches-skip p c l room first more 0 closed (λ x h m. bad x (omega arith) (omega arith))
window_end p c l room first (suc k) more count closed e bad =
    let f : count ≡ suc (k + more) = omega arith in
    ap (branches p c l room first) f
    ∙ ap (λ (w : List Item). items_under p c (l ++ first ∷ []) room ++ w) (window_end p c l room (first + 1) k more (k + more) closed refl (λ x h m. bad x (omega arith) (omega arith)))

-- only the positions of a window may be good
window_is : (p : Problem) (c l : List ℕ) (room first end : ℕ) → IsClosed p → first ≤ end → end ≤ p.devices
    → ((x : ℕ) → x < first → p.good c (l ++ x ∷ []) ≡ false) → ((x : ℕ) → end ≤ x → x < p.devices → p.good c (l ++ x ∷ []) ≡ false)
    → branches p c l room 0 p.devices ≡ branches p c l room first (end - first)
window_is p c l room first end closed order known below above =
    let e : p.devices ≡ first + (p.devices - first) = omega arith in
    let f : 0 + first ≡ first = omega arith in
    ap (branches p c l room 0) e
    ∙ branches-skip p c l room 0 first (p.devices - first) closed (λ x h m. below x (omega arith))
    ∙ ap (λ (n : ℕ). branches p c l room n (p.devices - first)) f
    ∙ window_end p c l room first (end - first) (p.devices - end) (p.devices - first) closed (omega arith) (λ x h m. above x (omega arith) (omega arith))

-- what is left with one window more
pub pending-more : (p : Problem) (c prefix : List ℕ) (room : ℕ) (ws : List Window) (w : Window) (l : List ℕ) → length l ≡ length ws
    → pending p c prefix room (ws ++ w ∷ []) l ≡ within p c (prefix ++ l) (room - length l) w ++ pending p c prefix room ws l
unfolding pending
pending-more p c prefix room [] w [] e =
    let f : room ≡ room - 0 = omega arith in
    ap (λ (n : ℕ). within p c prefix n w) f ∙ ap (λ (k : List ℕ). within p c k (room - 0) w) (sym (append-nil prefix)) ∙ sym (append-nil (within p c (prefix ++ []) (room - 0) w))
pending-more p c prefix room [] w (x ∷ l) e = absurd (omega arith)
pending-more p c prefix room (v ∷ ws) w [] e = absurd (omega arith)
pending-more p c prefix room (v ∷ ws) w (x ∷ l) e =
    let f : room - 1 - length l ≡ room - suc (length l) = omega arith in
    let b = within p c prefix room v in
    ap (λ (s : List Item). s ++ b) (pending-more p c (prefix ++ x ∷ []) (room - 1) ws w l (omega arith))
    ∙ append_assoc (within p c ((prefix ++ x ∷ []) ++ l) (room - 1 - length l) w) (pending p c (prefix ++ x ∷ []) (room - 1) ws l) b
    ∙ ap (λ (k : List ℕ). within p c k (room - 1 - length l) w ++ (pending p c (prefix ++ x ∷ []) (room - 1) ws l ++ b)) (append_assoc prefix (x ∷ []) l)
    ∙ ap (λ (n : ℕ). within p c (prefix ++ x ∷ l) n w ++ (pending p c (prefix ++ x ∷ []) (room - 1) ws l ++ b)) f

-- the position that is placed last changes nothing of what is left in the windows before it
pub pending-deeper : (p : Problem) (c prefix : List ℕ) (room : ℕ) (ws : List Window) (l : List ℕ) (x : ℕ) → length ws ≡ length l + 1
    → pending p c prefix room ws (l ++ x ∷ []) ≡ pending p c prefix room ws l
unfolding pending
pending-deeper p c prefix room [] l x e = absurd (omega arith)
pending-deeper p c prefix room (v ∷ []) [] x e = refl
pending-deeper p c prefix room (v ∷ w ∷ ws) [] x e = absurd (omega arith)
pending-deeper p c prefix room (v ∷ ws) (y ∷ l) x e =
    ap (λ (s : List Item). s ++ within p c prefix room v) (pending-deeper p c (prefix ++ y ∷ []) (room - 1) ws l x (omega arith))

pub enter-more : (p : Problem) (c l : List ℕ) (slots first end b b' : ℕ) (ws vs : List Window) → IsClosed p → p.good c l ≡ true → p.shape c ≡ Open slots → 0 < b → b' ≡ b - 1
    → length l ≡ length ws → length l < slots → first ≤ end → end ≤ p.devices
    → ((x : ℕ) → x < first → p.good c (l ++ x ∷ []) ≡ false) → ((x : ℕ) → end ≤ x → x < p.devices → p.good c (l ++ x ∷ []) ≡ false)
    → vs ≡ ws ++ record { next = first; end = end } ∷ []
    → progress b (items_under p c l (slots - length l) ++ pending p c [] (slots - 1) ws l) ≡ progress b' (pending p c [] (slots - 1) vs l)
enter-more p c l slots first end b b' ws vs closed good shape h less depth fits order known below above opened =
    let room = slots - 1 - length l in
    let e : slots - length l ≡ suc room = omega arith in
    let rest = pending p c [] (slots - 1) ws l in
    ap (λ (n : ℕ). progress b (items_under p c l n ++ rest)) e
    ∙ ap (λ (w : List Item). progress b (w ++ rest)) (items_under-suc p c l room good)
    ∙ progress-part b (item p c l) (branches p c l room 0 p.devices ++ rest) h (mark_of_part p c l slots shape fits)
    ∙ ap (λ (w : List Item). progress (b - 1) (w ++ rest)) (window_is p c l room first end closed order known below above)
    ∙ ap (progress (b - 1)) (sym (pending-more p c [] (slots - 1) ws (record { next = first; end = end }) l depth))
    ∙ ap (λ (w : List Window). progress (b - 1) (pending p c [] (slots - 1) w l)) (sym opened)
    ∙ ap (λ (n : ℕ). progress n (pending p c [] (slots - 1) vs l)) (sym less)

-- the next good position of a window
pub placed-here : (p q : Problem) (c d l k m : List ℕ) (w : Window) (x : ℕ) (b : Bool) → q ≡ p → d ≡ c → k ≡ l → x < w.end → b ≡ true → m ≡ cond b (k ++ x ∷ []) k → b ≡ q.good d (k ++ x ∷ [])
    → ((room : ℕ) → within p c l room w ≡ branches p c l room x (w.end - x)) → Placed p c l m w (record { next = x + 1; end = w.end })
placed-here p q c d l k m w x b same_p same_c same_l h is_good m_is good passed =
    let e : m ≡ k ++ x ∷ [] = m_is ∙ ap (λ (t : Bool). cond t (k ++ x ∷ []) k) is_good in
    let f : m ≡ l ++ x ∷ [] = e ∙ ap (λ (t : List ℕ). t ++ x ∷ []) same_l in
    let n : x ≡ x + 1 - 1 = omega arith in
    let good_here : p.good c m ≡ true =
    ap (p.good c) (f ∙ ap (λ (t : List ℕ). t ++ x ∷ []) (sym same_l)) ∙ ap (λ (t : List ℕ). p.good t (k ++ x ∷ [])) (sym same_c) ∙ ap (λ (t : Problem). t.good d (k ++ x ∷ [])) (sym same_p) ∙ sym good ∙ is_good in
    record {
      placed = f ∙ ap (λ (t : ℕ). l ++ t ∷ []) n;
      good = good_here;
      end = refl;
      items = λ room. passed room ∙ branches-next p c l room x w.end h ∙ ap (λ (t : List ℕ). items_under p c t room ++ branches p c l room (x + 1) (w.end - (x + 1))) (sym f);
    }

-- a position that isn't good is passed
pub passed-on : (p q : Problem) (c d l k : List ℕ) (w : Window) (x : ℕ) (b : Bool) → IsClosed p → q ≡ p → d ≡ c → k ≡ l → x < w.end → b ≡ false → b ≡ q.good d (k ++ x ∷ [])
    → ((room : ℕ) → within p c l room w ≡ branches p c l room x (w.end - x)) → (room : ℕ) → within p c l room w ≡ branches p c l room (x + 1) (w.end - (x + 1))
passed-on p q c d l k w x b closed same_p same_c same_l h not_good good passed room =
    let bad : p.good c (l ++ x ∷ []) ≡ false =
    ap (λ (t : List ℕ). p.good c (t ++ x ∷ [])) (sym same_l) ∙ ap (λ (t : List ℕ). p.good t (k ++ x ∷ [])) (sym same_c) ∙ ap (λ (t : Problem). t.good d (k ++ x ∷ [])) (sym same_p) ∙ sym good ∙ not_good in
    passed room ∙ branches-next p c l room x w.end h
    ∙ ap (λ (t : List Item). t ++ branches p c l room (x + 1) (w.end - (x + 1))) (items_under-bad p c (l ++ x ∷ []) room closed bad)

pub passed-all : (p : Problem) (c l k : List ℕ) (w : Window) (x : ℕ) → k ≡ l → w.end ≤ x → ((room : ℕ) → within p c l room w ≡ branches p c l room x (w.end - x)) → Passed p c l k w
passed-all p c l k w x same_l h passed = record { placed = same_l; nothing = λ room. passed room ∙ branches-none p c l room x w.end h }

depth_is : (l : List ℕ) (old ws : List Window) (w : Window) → old ≡ ws ++ w ∷ [] → length l ≡ length old - 1 → length l ≡ length ws
depth_is l old ws w e h = let f : length old ≡ length (ws ++ w ∷ []) = ap length e in omega (arith, length-append ws (w ∷ []))

-- the innermost window, whose next position is placed
turn_on : (p : Problem) (c l m : List ℕ) (slots : ℕ) (ws old vs : List Window) (w rest : Window) → old ≡ ws ++ w ∷ [] → length l ≡ length old - 1 → vs ≡ ws ++ rest ∷ [] → Placed p c l m w rest
    → pending p c [] (slots - 1) old l ≡ items_under p c m (slots - length m) ++ pending p c [] (slots - 1) vs m
turn_on p c l m slots ws old vs w rest old_is depth vs_is placed =
    let d : length l ≡ length ws = depth_is l old ws w old_is depth in
    let x = rest.next - 1 in
    let size : length m ≡ length l + 1 = ap length placed.placed ∙ length-append l (x ∷ []) in
    let room : slots - 1 - length l ≡ slots - length m = omega arith in
    let deep : length (ws ++ rest ∷ []) ≡ length l + 1 = length-append ws (rest ∷ []) ∙ ap (λ (n : ℕ). n + 1) (sym d) in
    let here = pending p c [] (slots - 1) ws l in
    ap (λ (t : List Window). pending p c [] (slots - 1) t l) old_is
    ∙ pending-more p c [] (slots - 1) ws w l d
    ∙ ap (λ (t : List Item). t ++ here) (placed.items (slots - 1 - length l))
    ∙ append_assoc (items_under p c m (slots - 1 - length l)) (within p c l (slots - 1 - length l) rest) here
    ∙ ap (λ (t : List Item). items_under p c m (slots - 1 - length l) ++ t) (sym (pending-more p c [] (slots - 1) ws rest l d))
    ∙ ap (λ (t : List Item). items_under p c m (slots - 1 - length l) ++ t) (sym (pending-deeper p c [] (slots - 1) (ws ++ rest ∷ []) l x deep))
    ∙ ap (λ (t : List ℕ). items_under p c m (slots - 1 - length l) ++ pending p c [] (slots - 1) (ws ++ rest ∷ []) t) (sym placed.placed)
    ∙ ap (λ (t : List Window). items_under p c m (slots - 1 - length l) ++ pending p c [] (slots - 1) t m) (sym vs_is)
    ∙ ap (λ (n : ℕ). items_under p c m n ++ pending p c [] (slots - 1) vs m) room

pub turn-on : (p q : Problem) (c d l m : List ℕ) (slots b b' : ℕ) (r : Status) (ws old vs vs' : List Window) (w rest : Window) → q ≡ p → d ≡ c
    → old ≡ ws ++ w ∷ [] → length l ≡ length old - 1 → vs ≡ ws ++ rest ∷ [] → Placed p c l m w rest
    → progress b (items_under q d m (slots - length m) ++ pending q d [] (slots - 1) vs m) ≡ onward r b' d m (pending q d [] (slots - 1) vs' m)
    → progress b (pending p c [] (slots - 1) old l) ≡ onward r b' c m (pending p c [] (slots - 1) vs' m)
turn-on p q c d l m slots b b' r ws old vs vs' w rest same_p same_c old_is depth vs_is placed h =
    ap (progress b) (turn_on p c l m slots ws old vs w rest old_is depth vs_is placed)
    ∙ subst (λ (t : Problem). progress b (items_under t c m (slots - length m) ++ pending t c [] (slots - 1) vs m) ≡ onward r b' c m (pending t c [] (slots - 1) vs' m)) same_p
    (subst (λ (t : List ℕ). progress b (items_under q t m (slots - length m) ++ pending q t [] (slots - 1) vs m) ≡ onward r b' t m (pending q t [] (slots - 1) vs' m)) same_c h)

Ends-prefix : (p : Problem) (ws : List Window) (w : Window) → Ends p (ws ++ w ∷ []) → Ends p ws × (w.end ≤ p.devices)
Ends-prefix p [] w h = (tt, h.0)
Ends-prefix p (v ∷ ws) w h = let f = Ends-prefix p ws w h.1 in ((h.0, f.0), f.1)

Ends-more : (p : Problem) (ws : List Window) (w : Window) → Ends p ws → w.end ≤ p.devices → Ends p (ws ++ w ∷ [])
Ends-more p [] w h e = (e, tt)
Ends-more p (v ∷ ws) w h e = (h.0, Ends-more p ws w h.1 e)

pub Ends-last : (p : Problem) (old ws : List Window) (w : Window) → old ≡ ws ++ w ∷ [] → Ends p old → w.end ≤ p.devices
Ends-last p old ws w e h = (Ends-prefix p ws w (subst (Ends p) e h)).1

pub standing-on : (p q : Problem) (c l m : List ℕ) (slots : ℕ) (ws old vs vs' : List Window) (w rest : Window) → q ≡ p → Standing p c l slots old
    → old ≡ ws ++ w ∷ [] → vs ≡ ws ++ rest ∷ [] → Placed p c l m w rest → Opened q vs vs' slots → Standing p c m slots vs'
standing-on p q c l m slots ws old vs vs' w rest same_p s old_is vs_is placed opened =
    let d : length l ≡ length ws = depth_is l old ws w old_is s.depth in
    let ends = Ends-prefix p ws w (subst (Ends p) old_is s.ends) in
    let rest_end : rest.end ≤ p.devices = subst (λ (n : ℕ). n ≤ p.devices) (sym placed.end) ends.1 in
    let new_end : opened.window.end ≤ p.devices = subst (λ (t : Problem). opened.window.end ≤ t.devices) same_p opened.end in
    let x = rest.next - 1 in
    let size : length m ≡ length l + 1 = ap length placed.placed ∙ length-append l (x ∷ []) in
    let vs_size : length vs ≡ length ws + 1 = ap length vs_is ∙ length-append ws (rest ∷ []) in
    let more_size : length vs' ≡ length vs + 1 = ap length opened.opened ∙ length-append vs (opened.window ∷ []) in
    let all : Ends p (vs ++ opened.window ∷ []) = Ends-more p vs opened.window (subst (Ends p) (sym vs_is) (Ends-more p ws rest ends.0 rest_end)) new_end in
    record {
      good = placed.good;
      shape = s.shape;
      fits = opened.fits;
      depth = omega arith;
      ends = subst (Ends p) (sym opened.opened) all;
    }

-- a list that isn't empty has a last element
last_of : (l : List ℕ) → 0 < length l → (k : List ℕ) × (x : ℕ) × (l ≡ k ++ x ∷ [])
last_of [] h = absurd (omega arith)
last_of (y ∷ []) h = ([], y, refl)
last_of (y ∷ z ∷ l) h = let f = last_of (z ∷ l) (omega arith) in (y ∷ f.0, f.1, ap (λ (t : List ℕ). y ∷ t) f.2)

turn_back : (p : Problem) (c l : List ℕ) (slots : ℕ) (ws old : List Window) (w : Window) → old ≡ ws ++ w ∷ [] → length l ≡ length ws → ((room : ℕ) → within p c l room w ≡ [])
    → pending p c [] (slots - 1) old l ≡ pending p c [] (slots - 1) ws l
turn_back p c l slots ws old w old_is d nothing =
    ap (λ (t : List Window). pending p c [] (slots - 1) t l) old_is
    ∙ pending-more p c [] (slots - 1) ws w l d
    ∙ ap (λ (t : List Item). t ++ pending p c [] (slots - 1) ws l) (nothing (slots - 1 - length l))

-- the innermost window is over, and the position before it is taken back
pub turn-back : (p : Problem) (c l k m : List ℕ) (slots b : ℕ) (ws old : List Window) (w : Window) → old ≡ ws ++ w ∷ [] → length l ≡ length old - 1 → Passed p c l k w → 0 < length ws
    → ((n : List ℕ) (x : ℕ) → k ≡ n ++ x ∷ [] → m ≡ n)
    → progress b (pending p c [] (slots - 1) old l) ≡ progress b (pending p c [] (slots - 1) ws m)
turn-back p c l k m slots b ws old w old_is depth passed more popped =
    let d : length l ≡ length ws = depth_is l old ws w old_is depth in
    let f = last_of l (omega arith) in
    let m_is : m ≡ f.0 = popped f.0 f.1 (passed.placed ∙ f.2) in
    let size : length l ≡ length f.0 + 1 = ap length f.2 ∙ length-append f.0 (f.1 ∷ []) in
    ap (progress b) (turn_back p c l slots ws old w old_is d passed.nothing)
    ∙ ap (λ (t : List ℕ). progress b (pending p c [] (slots - 1) ws t)) f.2
    ∙ ap (progress b) (pending-deeper p c [] (slots - 1) ws f.0 f.1 (sym d ∙ size))
    ∙ ap (λ (t : List ℕ). progress b (pending p c [] (slots - 1) ws t)) (sym m_is)

pub standing-back : (p : Problem) (c l k m : List ℕ) (slots : ℕ) (ws old : List Window) (w : Window) → IsClosed p → Standing p c l slots old → old ≡ ws ++ w ∷ [] → Passed p c l k w → 0 < length ws
    → ((n : List ℕ) (x : ℕ) → k ≡ n ++ x ∷ [] → m ≡ n) → Standing p c m slots ws
standing-back p c l k m slots ws old w closed s old_is passed more popped =
    let d : length l ≡ length ws = depth_is l old ws w old_is s.depth in
    let f = last_of l (omega arith) in
    let m_is : m ≡ f.0 = popped f.0 f.1 (passed.placed ∙ f.2) in
    let size : length l ≡ length f.0 + 1 = ap length f.2 ∙ length-append f.0 (f.1 ∷ []) in
    let old_size : length old ≡ length ws + 1 = ap length old_is ∙ length-append ws (w ∷ []) in
    let m_size : length m ≡ length f.0 = ap length m_is in
    let fits : length old ≤ slots = s.fits in
    record {
      good = ap (p.good c) m_is ∙ closed c f.0 f.1 (ap (p.good c) (sym f.2) ∙ s.good);
      shape = s.shape;
      fits = omega arith;
      depth = omega arith;
      ends = (Ends-prefix p ws w (subst (Ends p) old_is s.ends)).0;
    }

-- the outermost window is over
pub turn-end : (p : Problem) (c l k : List ℕ) (slots b : ℕ) (ws old : List Window) (w : Window) → old ≡ ws ++ w ∷ [] → length l ≡ length old - 1 → Passed p c l k w
    → progress b (pending p c [] (slots - 1) old l) ≡ progress b (pending p c [] (slots - 1) ws k)
turn-end p c l k slots b ws old w old_is depth passed =
    ap (progress b) (turn_back p c l slots ws old w old_is (depth_is l old ws w old_is depth) passed.nothing)
    ∙ ap (λ (t : List ℕ). progress b (pending p c [] (slots - 1) ws t)) (sym passed.placed)

-- with no window nothing is left
pending-none : (p : Problem) (c prefix : List ℕ) (room : ℕ) (ws : List Window) (l : List ℕ) → length ws ≡ 0 → pending p c prefix room ws l ≡ []
unfolding pending
pending-none p c prefix room [] l e = refl
pending-none p c prefix room (w ∷ ws) l e = absurd (omega arith)

first_of : (p : Problem) (c l : List ℕ) (slots : ℕ) (ws : List Window) → l ≡ [] → ws ≡ [] → items_under p c [] slots ≡ items_under p c l (slots - length l) ++ pending p c [] (slots - 1) ws l
first_of p c l slots ws l_is ws_is =
    let e : slots ≡ slots - 0 = omega arith in
    ap (items_under p c []) e
    ∙ ap (λ (t : List ℕ). items_under p c t (slots - length t)) (sym l_is)
    ∙ sym (append-nil (items_under p c l (slots - length l)))
    ∙ ap (λ (t : List Item). items_under p c l (slots - length l) ++ t) (sym (pending-none p c [] (slots - 1) ws l (ap length ws_is)))

-- a choice whose first item ends the search
pub fill-ended : (p : Problem) (c l : List ℕ) (slots b b' : ℕ) (ws vs : List Window) (r : Status) → l ≡ [] → ws ≡ [] → r ≢ status.Searching
    → progress b (items_under p c l (slots - length l) ++ pending p c [] (slots - 1) ws l) ≡ onward r b' c l (pending p c [] (slots - 1) vs l)
    → progress b (items_under p c [] slots) ≡ report r b' c l
fill-ended p c l slots b b' ws vs r l_is ws_is ended h =
    ap (progress b) (first_of p c l slots ws l_is ws_is) ∙ h ∙ onward-stopped r b' c l (pending p c [] (slots - 1) vs l) ended

-- and one where it doesn't
pub fill-first : (p : Problem) (c l : List ℕ) (slots b b' : ℕ) (ws vs : List Window) (r : Status) → l ≡ [] → ws ≡ [] → r ≡ status.Searching
    → progress b (items_under p c l (slots - length l) ++ pending p c [] (slots - 1) ws l) ≡ onward r b' c l (pending p c [] (slots - 1) vs l)
    → progress b (items_under p c [] slots) ≡ progress b' (pending p c [] (slots - 1) vs l)
fill-first p c l slots b b' ws vs r l_is ws_is is h =
    ap (progress b) (first_of p c l slots ws l_is ws_is) ∙ h ∙ ap (λ (s : Status). onward s b' c l (pending p c [] (slots - 1) vs l)) is

pub standing-first : (p : Problem) (c l : List ℕ) (slots : ℕ) (ws vs : List Window) → p.good c [] ≡ true → p.shape c ≡ Open slots → l ≡ [] → ws ≡ [] → Opened p ws vs slots → Standing p c l slots vs
standing-first p c l slots ws vs good shape l_is ws_is opened =
    let e : vs ≡ opened.window ∷ [] = opened.opened ∙ ap (λ (t : List Window). t ++ opened.window ∷ []) ws_is in
    let size : length vs ≡ 1 = ap length e in
    let none : length l ≡ 0 = ap length l_is in
    let all : Ends p (opened.window ∷ []) = (opened.end, tt) in
    record {
      good = ap (p.good c) l_is ∙ good;
      shape = shape;
      fits = opened.fits;
      depth = omega arith;
      ends = subst (Ends p) (sym e) all;
    }

-- one turn more, at the board's own state (q, d)
pub fill-step : (p q : Problem) (c d k l : List ℕ) (slots b b' : ℕ) (ws vs : List Window) (r : Status) (start : Progress) → q ≡ p → d ≡ c → r ≡ status.Searching
    → start ≡ progress b (pending p c [] (slots - 1) ws k)
    → progress b (pending q d [] (slots - 1) ws k) ≡ onward r b' d l (pending q d [] (slots - 1) vs l)
    → start ≡ progress b' (pending p c [] (slots - 1) vs l)
fill-step p q c d k l slots b b' ws vs r start same_p same_c is s h =
    let f : progress b (pending q d [] (slots - 1) ws k) ≡ progress b' (pending q d [] (slots - 1) vs l) = h ∙ ap (λ (t : Status). onward t b' d l (pending q d [] (slots - 1) vs l)) is in
    s ∙ subst (λ (t : Problem). progress b (pending t c [] (slots - 1) ws k) ≡ progress b' (pending t c [] (slots - 1) vs l)) same_p
    (subst (λ (t : List ℕ). progress b (pending q t [] (slots - 1) ws k) ≡ progress b' (pending q t [] (slots - 1) vs l)) same_c f)

pub fill-out : (p q : Problem) (c d k l : List ℕ) (slots b b' : ℕ) (ws vs : List Window) (r : Status) (start : Progress) → q ≡ p → d ≡ c → r ≢ status.Searching
    → start ≡ progress b (pending p c [] (slots - 1) ws k)
    → progress b (pending q d [] (slots - 1) ws k) ≡ onward r b' d l (pending q d [] (slots - 1) vs l)
    → start ≡ report r b' c l
fill-out p q c d k l slots b b' ws vs r start same_p same_c ended s h =
    let f : progress b (pending q d [] (slots - 1) ws k) ≡ report r b' d l = h ∙ onward-stopped r b' d l (pending q d [] (slots - 1) vs l) ended in
    s ∙ subst (λ (t : Problem). progress b (pending t c [] (slots - 1) ws k) ≡ report r b' c l) same_p
    (subst (λ (t : List ℕ). progress b (pending q t [] (slots - 1) ws k) ≡ report r b' t l) same_c f)

pub fill-over : (p : Problem) (c l : List ℕ) (slots b : ℕ) (ws : List Window) (start : Progress) → length ws ≡ 0 → start ≡ progress b (pending p c [] (slots - 1) ws l) → start ≡ Left b
unfolding progress
fill-over p c l slots b ws start e s = s ∙ ap (progress b) (pending-none p c [] (slots - 1) ws l e)

map_nil : (ls : List (List ℕ)) → map (λ l. [] ++ l) ls ≡ ls
map_nil [] = refl
map_nil (l ∷ ls) = ap (λ (w : List (List ℕ)). l ∷ w) (map_nil ls)

-- a choice as a whole
pub items-open : (p : Problem) (c : List ℕ) (n : ℕ) → p.shape c ≡ Open n → items p c ≡ items_under p c [] n
unfolding items items_under
items-open p c n e =
    ap (λ (s : Shape). map (item p c) (lists_by p c s)) e ∙ ap (λ (w : List (List ℕ)). map (item p c) (filter (p.good c) w)) (sym (map_nil (position_lists p.devices n)))

items-one : (p : Problem) (c : List ℕ) (s : Shape) → p.shape c ≡ s → lists_by p c s ≡ [] ∷ [] → items p c ≡ item p c [] ∷ []
unfolding items
items-one p c s e one = ap (map (item p c)) (ap (lists_by p c) e ∙ one)

pub faulty-none : (p : Problem) (c : List ℕ) (b : ℕ) → p.shape c ≡ Faulty → b ≡ 0 → progress b (items p c) ≡ Stopped Budget
faulty-none p c b e z = ap (progress b) (items-one p c Faulty e refl) ∙ progress-none b (item p c []) [] z

pub faulty-last : (p : Problem) (c : List ℕ) (b : ℕ) → p.shape c ≡ Faulty → 0 < b → progress b (items p c) ≡ Stopped (Ended (marked c [] Fault))
faulty-last p c b e h = ap (progress b) (items-one p c Faulty e refl) ∙ progress-last b (item p c []) [] h (ap (λ (s : Shape). mark_ends (mark_by s [])) e)
    ∙ ap (λ (s : Shape). Stopped (Ended (marked c [] (mark_by s [])))) e

pub hopeless-none : (p : Problem) (c : List ℕ) (b : ℕ) → p.shape c ≡ Hopeless → b ≡ 0 → progress b (items p c) ≡ Stopped Budget
hopeless-none p c b e z = ap (progress b) (items-one p c Hopeless e refl) ∙ progress-none b (item p c []) [] z

pub hopeless-part : (p : Problem) (c : List ℕ) (b : ℕ) → p.shape c ≡ Hopeless → 0 < b → progress b (items p c) ≡ Left (b - 1)
unfolding progress
hopeless-part p c b e h = ap (progress b) (items-one p c Hopeless e refl) ∙ progress-part b (item p c []) [] h (ap (λ (s : Shape). mark_by s []) e)

pub same_report : (c d : List ℕ) → d ≡ c → Stopped (Ended (marked c [] Fault)) ≡ Stopped (Ended (marked d [] Fault))
same_report c d e = ap (λ (w : List ℕ). Stopped (Ended (marked w [] Fault))) (sym e)

-- a choice whose lists were gone through, from the board as it was taken up (q, d)
pub visit-open : (p q : Problem) (c d d' m : List ℕ) (n b b' : ℕ) (r : Status) → q ≡ p → d ≡ c → p.shape c ≡ Open n → d' ≡ d
    → progress b (items_under q d [] n) ≡ report r b' d m → progress b (items p c) ≡ report r b' d' m
visit-open p q c d d' m n b b' r same_p same_c e same_d h =
    let f : progress b (items_under p c [] n) ≡ report r b' d m =
    subst (λ (t : Problem). progress b (items_under t c [] n) ≡ report r b' d m) same_p
    (subst (λ (t : List ℕ). progress b (items_under q t [] n) ≡ report r b' d m) same_c h) in
    ap (progress b) (items-open p c n e) ∙ f ∙ ap (λ (w : List ℕ). report r b' w m) (sym same_d)
