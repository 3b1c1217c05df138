-- One claim after another.
use Rattle.std.proofs.Common.{ℕ, zero, suc, ◌+◌, ◌-◌, ◌^◌, ◌<◌, ◌≤◌, add-one, drop, drop-cons, get_or, length, ◌≡◌, ◌∙◌, Bool, true, false, List, [], ◌∷◌, ◌++◌, refl, sym, ap, subst, arith, append_assoc, append-nil, if◌then◌else◌}
use Rattle.std.specs.Prelude.{Option, None, Some, min}
use Rattle.std.specs.Option.{option_map}
use Rattle.object_fields.specs.declared.key.Key.{Key}
use Rattle.ckpt_journal.specs.declared.record.Row.{Row}
use Rattle.prepare_core.specs.declared.driver.DriverCall.{DriverCall}
use Rattle.pod_prepare.specs.Commands.{AskedMore, Did, Does, Done, IsTurn, Next, RoseBy, Turn, before, failed, nothing, only}
use Rattle.pod_prepare.specs.Going.{IsSoFar, joined}

-- ---- calls and counts

pub asked_none : (calls : Option (List DriverCall)) → calls ≡ option_map (λ c. c ++ []) calls
asked_none None = refl
asked_none (Some c) = ap (λ (l : List DriverCall). Some l) (sym (append-nil c))

pub asked_joined : (a b c : Option (List DriverCall)) (x y : List DriverCall) → b ≡ option_map (λ l. l ++ x) a → c ≡ option_map (λ l. l ++ y) b → c ≡ option_map (λ l. l ++ (x ++ y)) a
asked_joined None b c x y p q = q ∙ ap (λ (o : Option (List DriverCall)). option_map (λ l. l ++ y) o) p
asked_joined (Some l) b c x y p q = q ∙ ap (λ (o : Option (List DriverCall)). option_map (λ l. l ++ y) o) p ∙ ap (λ (m : List DriverCall). Some m) (append_assoc l x y)

by_ok : (b : Bool) (n m k : ℕ) → n ≡ m + k → (if b then n else 1 + n) ≡ (if b then m else 1 + m) + k
by_ok true n m k e = e
by_ok false n m k e = omega (arith, e)

pub failed_joined : (xs ys : List DriverCall) → failed (xs ++ ys) ≡ failed xs + failed ys
failed_joined [] ys = omega arith
failed_joined (x ∷ xs) ys = by_ok x.ok (failed (xs ++ ys)) (failed xs) (failed ys) (failed_joined xs ys)

-- a count that stays
pub rose_none : (n : ℕ) → RoseBy 0 n n
rose_none n = omega arith

pub rose_joined : (m n a b c : ℕ) → RoseBy m a b → RoseBy n b c → RoseBy (m + n) a c
rose_joined m n a b c p q = omega (arith, p, q)

-- a count that rose by some errors didn't fall
rose_some : (n a b : ℕ) → RoseBy n a b → RoseBy 0 a b
rose_some n a b p = omega (arith, p)

pub more_joined : (a b c : Option (List DriverCall)) (f g h : ℕ) → AskedMore a b f g → AskedMore b c g h → AskedMore a c f h
more_joined a b c f g h p q = record {
  more = p.more ++ q.more;
  are = asked_joined a b c p.more q.more p.are q.are;
  counted = rose_joined 0 0 f g h p.counted q.counted;
}

-- ---- claims

pub so_far_none : (turn : List Row → Key → Bool → Turn) (claims : List Key) (rows : List Row) (calls : Option (List DriverCall)) (faults : ℕ) → IsSoFar turn claims claims rows rows [] calls calls faults faults
so_far_none turn claims rows calls faults = record {
  done = nothing rows;
  on = λ rest does. does;
  printed = refl;
  asked = asked_none calls;
  counted = rose_none faults;
}

one_more : (turn : List Row → Key → Bool → Turn) (k : Key) (ks : List Key) (now : List Row) (ok : Bool) (rest : Done) → (turn now k ok).goes ≡ true → Does turn ks (turn now k ok).rows rest → Does turn (k ∷ ks) now (before (turn now k ok) rest)
unfolding Does
one_more turn k ks now ok rest goes does = (ok, subst (λ (b : Bool). Next b (turn now k ok) (Does turn ks) (before (turn now k ok) rest)) (sym goes) (rest, does, refl))

last_one : (turn : List Row → Key → Bool → Turn) (k : Key) (ks : List Key) (now : List Row) (ok : Bool) → (turn now k ok).goes ≡ false → Does turn (k ∷ ks) now (only (turn now k ok))
unfolding Does
last_one turn k ks now ok goes = (ok, subst (λ (b : Bool). Next b (turn now k ok) (Does turn ks) (only (turn now k ok))) (sym goes) refl)

none_left : (turn : List Row → Key → Bool → Turn) (now : List Row) → Does turn [] now (nothing now)
unfolding Does
none_left turn now = refl

joined_more : (done : Done) (t : Turn) (rest : Done) → joined done (before t rest) ≡ joined (joined done (only t)) rest
joined_more done t rest =
    ap (λ (l : List ℕ). record { text = l; rows = rest.rows; calls = done.calls ++ (t.calls ++ rest.calls) }) (sym (append_assoc done.text t.text rest.text))
    ∙ ap (λ (l : List DriverCall). record { text = (done.text ++ t.text) ++ rest.text; rows = rest.rows; calls = l }) (sym (append_assoc done.calls t.calls rest.calls))

-- the next claim came to a turn after which the command goes on
pub so_far_more : (turn : List Row → Key → Bool → Turn) (claims : List Key) (k : Key) (ks : List Key) (old now next : List Row) (text line : List ℕ) (a b c : Option (List DriverCall)) (f g h : ℕ)
    → IsSoFar turn claims (k ∷ ks) old now text a b f g → IsTurn (turn now k) next line true b c g h → IsSoFar turn claims ks old next (text ++ line) a c f h
so_far_more turn claims k ks old now next text line a b c f g h s t = record {
  done = joined s.done (only (turn now k t.ok));
  on = λ rest does. subst (λ (d : Done). Does turn claims old d) (joined_more s.done (turn now k t.ok) rest)
      (s.on (before (turn now k t.ok) rest) (one_more turn k ks now t.ok rest (sym t.on) (subst (λ (r : List Row). Does turn ks r rest) t.table does)));
  printed = ap (λ (l : List ℕ). l ++ line) s.printed ∙ ap (λ (l : List ℕ). s.done.text ++ l) t.printed;
  asked = asked_joined a b c s.done.calls (turn now k t.ok).calls s.asked t.asked;
  counted = subst (λ (n : ℕ). RoseBy n f h) (sym (failed_joined s.done.calls (turn now k t.ok).calls)) (rose_joined (failed s.done.calls) (failed (turn now k t.ok).calls) f g h s.counted t.counted);
}

-- it came to a turn with which the command ends
pub so_far_last : (turn : List Row → Key → Bool → Turn) (claims : List Key) (k : Key) (ks : List Key) (old now next : List Row) (text line : List ℕ) (a b c : Option (List DriverCall)) (f g h : ℕ)
    → IsSoFar turn claims (k ∷ ks) old now text a b f g → IsTurn (turn now k) next line false b c g h → Did (Does turn claims) old next (text ++ line) a c f h
so_far_last turn claims k ks old now next text line a b c f g h s t = record {
  done = joined s.done (only (turn now k t.ok));
  does = s.on (only (turn now k t.ok)) (last_one turn k ks now t.ok (sym t.on));
  table = t.table;
  printed = ap (λ (l : List ℕ). l ++ line) s.printed ∙ ap (λ (l : List ℕ). s.done.text ++ l) t.printed;
  asked = asked_joined a b c s.done.calls (turn now k t.ok).calls s.asked t.asked;
  counted = subst (λ (n : ℕ). RoseBy n f h) (sym (failed_joined s.done.calls (turn now k t.ok).calls)) (rose_joined (failed s.done.calls) (failed (turn now k t.ok).calls) f g h s.counted t.counted);
}

-- no claim is left
pub so_far_all : (turn : List Row → Key → Bool → Turn) (claims : List Key) (old now : List Row) (text : List ℕ) (a b : Option (List DriverCall)) (f g : ℕ)
    → IsSoFar turn claims [] old now text a b f g → Did (Does turn claims) old now text a b f g
so_far_all turn claims old now text a b f g s = record {
  done = joined s.done (nothing now);
  does = s.on (nothing now) (none_left turn now);
  table = refl;
  printed = s.printed ∙ sym (append-nil s.done.text);
  asked = s.asked ∙ ap (λ (l : List DriverCall). option_map (λ c. c ++ l) a) (sym (append-nil s.done.calls));
  counted = subst (λ (l : List DriverCall). RoseBy (failed l) f g) (sym (append-nil s.done.calls)) s.counted;
}

pub calls_so_far : (turn : List Row → Key → Bool → Turn) (claims left : List Key) (old now : List Row) (text : List ℕ) (a b : Option (List DriverCall)) (f g : ℕ) → IsSoFar turn claims left old now text a b f g → AskedMore a b f g
calls_so_far turn claims left old now text a b f g s = record { more = s.done.calls; are = s.asked; counted = rose_some (failed s.done.calls) f g s.counted }

-- nothing is written yet
pub so_far_first : (turn : List Row → Key → Bool → Turn) (claims : List Key) (rows : List Row) (text : List ℕ) (calls : Option (List DriverCall)) (faults : ℕ) → text ≡ [] → IsSoFar turn claims claims rows rows text calls calls faults faults
so_far_first turn claims rows text calls faults none = subst (λ (t : List ℕ). IsSoFar turn claims claims rows rows t calls calls faults faults) (sym none) (so_far_none turn claims rows calls faults)

-- the next claim is the first of those that are left
pub item_at : (xs : List Key) (i : ℕ) (x : Key) → i < length xs → x ≡ get_or xs i x → drop i xs ≡ x ∷ drop (i + 1) xs
item_at xs i x h e = drop-cons xs i x h ∙ ap (λ (y : Key). y ∷ drop (suc i) xs) (sym e) ∙ ap (λ (n : ℕ). x ∷ drop n xs) (sym (add-one i))

-- the kubelet's node and the size of its halves are those at the beginning
pub turn_from : (P : ℕ → List ℕ → Type 0) (h k : ℕ) (n m : List ℕ) → h ≡ k → n ≡ m → P h n → P k m
turn_from P h k n m same name p = subst (λ (x : List ℕ). P k x) name (subst (λ (x : ℕ). P x n) same p)

-- one claim more, by its index
pub step_more : (turn : List Row → Key → Bool → Turn) (claims : List Key) (i : ℕ) (k : Key) (old now next : List Row) (text longer line : List ℕ) (goes : Bool) (a b c : Option (List DriverCall)) (f g h : ℕ)
    → i < length claims → k ≡ get_or claims i k → IsSoFar turn claims (drop i claims) old now text a b f g → IsTurn (turn now k) next line goes b c g h → goes ≡ true → longer ≡ text ++ line → IsSoFar turn claims (drop (i + 1) claims) old next longer a c f h
step_more turn claims i k old now next text longer line goes a b c f g h within item s t on more =
    subst (λ (l : List ℕ). IsSoFar turn claims (drop (i + 1) claims) old next l a c f h) (sym more)
    (so_far_more turn claims k (drop (i + 1) claims) old now next text line a b c f g h
    (subst (λ (l : List Key). IsSoFar turn claims l old now text a b f g) (item_at claims i k within item) s)
    (subst (λ (x : Bool). IsTurn (turn now k) next line x b c g h) on t))

pub step_last : (turn : List Row → Key → Bool → Turn) (claims : List Key) (i : ℕ) (k : Key) (old now next : List Row) (text longer line : List ℕ) (goes : Bool) (a b c : Option (List DriverCall)) (f g h : ℕ)
    → i < length claims → k ≡ get_or claims i k → IsSoFar turn claims (drop i claims) old now text a b f g → IsTurn (turn now k) next line goes b c g h → goes ≡ false → longer ≡ text ++ line → Did (Does turn claims) old next longer a c f h
step_last turn claims i k old now next text longer line goes a b c f g h within item s t on more =
    subst (λ (l : List ℕ). Did (Does turn claims) old next l a c f h) (sym more)
    (so_far_last turn claims k (drop (i + 1) claims) old now next text line a b c f g h
    (subst (λ (l : List Key). IsSoFar turn claims l old now text a b f g) (item_at claims i k within item) s)
    (subst (λ (x : Bool). IsTurn (turn now k) next line x b c g h) on t))

pub step_none : (turn : List Row → Key → Bool → Turn) (claims left : List Key) (old now : List Row) (text : List ℕ) (a b : Option (List DriverCall)) (f g : ℕ) → left ≡ [] → IsSoFar turn claims left old now text a b f g → Did (Does turn claims) old now text a b f g
step_none turn claims left old now text a b f g none s = so_far_all turn claims old now text a b f g (subst (λ (l : List Key). IsSoFar turn claims l old now text a b f g) none s)

pub none_at_end : (xs : List Key) (i : ℕ) → length xs ≤ i → drop i xs ≡ []
none_at_end [] zero long = refl
none_at_end [] (suc i) long = refl
none_at_end (x ∷ xs) zero long = absurd (omega (arith, long))
none_at_end (x ∷ xs) (suc i) long = none_at_end xs i (omega (arith, long))
