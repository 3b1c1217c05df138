-- Results and counts of an evaluation that may run out of memory.
use Rattle.std.proofs.Common.{◌≡◌, ℕ, ◌+◌, ◌≤◌, Bool, true, false, if◌then◌else◌, refl, sym, ap, subst, arith}
use Rattle.std.specs.Prelude.{Result, Ok, Err, ◌||◌}
use Rattle.cel_value.specs.declared.value.Value.{Value}
use Rattle.cel_value.specs.declared.error.EvalError.{EvalError}
use Rattle.cel_value.specs.declared.error.EvalError.TheVariants.{NoKey, NoOverload, Overflow, DivByZero, OutOfRange, BadConversion, Memory}
use Rattle.cel_value.specs.Values.{◌>>=◌, UnlessMemory, Gives}
use Rattle.cel_meaning.specs.declared.connective.Connective.{Connective}
use Rattle.cel_meaning.specs.Folds.{as_value, joined}
use Rattle.cel_meaning.specs.Steps.{behind, decides, unless_decided}
use Rattle.cel_meaning.specs.Memory.{is_memory, with_memory}
use Rattle.cel_eval.specs.Answers.{Counts, RoseBy}

-- what holds at all events
pub unless-memory : {P : Type 0} (e : EvalError) → P → UnlessMemory e P
unless-memory NoKey p = p
unless-memory NoOverload p = p
unless-memory Overflow p = p
unless-memory DivByZero p = p
unless-memory OutOfRange p = p
unless-memory BadConversion p = p
unless-memory Memory p = tt

rose-by : (e : EvalError) (old new steps : ℕ) → new ≡ old + steps → RoseBy e old new steps
rose-by NoKey old new steps h = h
rose-by NoOverload old new steps h = h
rose-by Overflow old new steps h = h
rose-by DivByZero old new steps h = h
rose-by OutOfRange old new steps h = h
rose-by BadConversion old new steps h = h
rose-by Memory old new steps h = (omega (arith, h), omega (arith, h))

counts-are : {A : Type 0} (r : Result A EvalError) (old new steps : ℕ) → new ≡ old + steps → Counts r old new steps
counts-are (Ok x) old new steps h = h
counts-are (Err e) old new steps h = rose-by e old new steps h

pub gives-itself : {A : Type 0} (r : Result A EvalError) → Gives r r
gives-itself (Ok x) = refl
gives-itself (Err e) = unless-memory e refl

pub gives-equal : {A : Type 0} (r m : Result A EvalError) → m ≡ r → Gives r m
gives-equal {A = A} r m h = subst (λ (n : Result A EvalError). Gives r n) (sym h) (gives-itself r)

-- a result that isn't out of memory is what there is to return
pub given : {A : Type 0} (r m : Result A EvalError) → is_memory r ≡ false → Gives r m → m ≡ r
given (Ok x) m n g = g
given (Err NoKey) m n g = g
given (Err NoOverload) m n g = g
given (Err Overflow) m n g = g
given (Err DivByZero) m n g = g
given (Err OutOfRange) m n g = g
given (Err BadConversion) m n g = g
given (Err Memory) m n g = absurd (cc)

pub counted : {A : Type 0} (r : Result A EvalError) (old new steps : ℕ) → is_memory r ≡ false → Counts r old new steps → new ≡ old + steps
counted (Ok x) old new steps n g = g
counted (Err NoKey) old new steps n g = g
counted (Err NoOverload) old new steps n g = g
counted (Err Overflow) old new steps n g = g
counted (Err DivByZero) old new steps n g = g
counted (Err OutOfRange) old new steps n g = g
counted (Err BadConversion) old new steps n g = g
counted (Err Memory) old new steps n g = absurd (cc)

-- a side after which the evaluation goes on
pub not-memory : (a b : Bool) → (a || b) ≡ false → a ≡ false
not-memory false b h = refl
not-memory true b h = h

pub not-decided : (a b : Bool) → (a || b) ≡ false → b ≡ false
not-decided false b h = h
not-decided true b h = absurd (cc)

-- ---- on after a value, or an error

abbrev pub failed : (A : Type 0) → EvalError → Result A EvalError
failed A e = Err e

pub gives-behind : {A B : Type 0} (e : EvalError) (m : Result A EvalError) (f : A → Result B EvalError) → Gives (failed A e) m → Gives (failed B e) (m >>= f)
gives-behind NoKey m f g = ap (λ n. n >>= f) g
gives-behind NoOverload m f g = ap (λ n. n >>= f) g
gives-behind Overflow m f g = ap (λ n. n >>= f) g
gives-behind DivByZero m f g = ap (λ n. n >>= f) g
gives-behind OutOfRange m f g = ap (λ n. n >>= f) g
gives-behind BadConversion m f g = ap (λ n. n >>= f) g
gives-behind Memory m f g = tt

pub counts-behind : (A B : Type 0) (e : EvalError) (m : Result A EvalError) (old new k : ℕ) (f : A → ℕ) → Gives (failed A e) m → Counts (failed A e) old new k →
    Counts (failed B e) old new (k + behind m f)
counts-behind A B NoKey m old new k f g h = rw g (omega arith)
counts-behind A B NoOverload m old new k f g h = rw g (omega arith)
counts-behind A B Overflow m old new k f g h = rw g (omega arith)
counts-behind A B DivByZero m old new k f g h = rw g (omega arith)
counts-behind A B OutOfRange m old new k f g h = rw g (omega arith)
counts-behind A B BadConversion m old new k f g h = rw g (omega arith)
counts-behind A B Memory m old new k f g h = (h.0, omega (arith, h.1))

pub counts-after : {A : Type 0} (r : Result A EvalError) (old mid new j k total : ℕ) → mid ≡ old + j → total ≡ j + k → Counts r mid new k → Counts r old new total
counts-after (Ok x) old mid new j k total e f h = omega (arith, h)
counts-after (Err NoKey) old mid new j k total e f h = omega (arith, h)
counts-after (Err NoOverload) old mid new j k total e f h = omega (arith, h)
counts-after (Err Overflow) old mid new j k total e f h = omega (arith, h)
counts-after (Err DivByZero) old mid new j k total e f h = omega (arith, h)
counts-after (Err OutOfRange) old mid new j k total e f h = omega (arith, h)
counts-after (Err BadConversion) old mid new j k total e f h = omega (arith, h)
counts-after (Err Memory) old mid new j k total e f h = (omega (arith, e, h.0), omega (arith, e, f, h.1))

pub counts-equal : {A : Type 0} (r : Result A EvalError) (old new j k : ℕ) → k ≡ j → Counts r old new j → Counts r old new k
counts-equal {A = A} r old new j k e h = subst (λ (n : ℕ). Counts r old new n) (sym e) h

-- an error after what was counted before
pub counts-from : {A : Type 0} (r : Result A EvalError) (start old new k total : ℕ) → start ≤ old → old + k ≡ start + total → Counts r old new k → Counts r start new total
counts-from (Ok x) start old new k total least e h = omega (arith, e, h)
counts-from (Err NoKey) start old new k total least e h = omega (arith, e, h)
counts-from (Err NoOverload) start old new k total least e h = omega (arith, e, h)
counts-from (Err Overflow) start old new k total least e h = omega (arith, e, h)
counts-from (Err DivByZero) start old new k total least e h = omega (arith, e, h)
counts-from (Err OutOfRange) start old new k total least e h = omega (arith, e, h)
counts-from (Err BadConversion) start old new k total least e h = omega (arith, e, h)
counts-from (Err Memory) start old new k total least e h = (omega (arith, least, h.0), omega (arith, e, h.1))

-- memory ran out somewhere between
pub counts-between : (A : Type 0) (start new k total : ℕ) → start ≤ new → new + k ≡ start + total → Counts (failed A Memory) start new total
counts-between A start new k total least e = (least, omega (arith, e))

-- ---- `&&` and `||` after a side

join-right : (c : Connective) (left right m : Result Bool EvalError) → Gives right m → Gives (as_value (with_memory right (joined c left right))) (as_value (joined c left m))
join-right c left (Ok b) m g = gives-equal _ _ (ap (λ (n : Result Bool EvalError). as_value (joined c left n)) g)
join-right c left (Err NoKey) m g = gives-equal _ _ (ap (λ (n : Result Bool EvalError). as_value (joined c left n)) g)
join-right c left (Err NoOverload) m g = gives-equal _ _ (ap (λ (n : Result Bool EvalError). as_value (joined c left n)) g)
join-right c left (Err Overflow) m g = gives-equal _ _ (ap (λ (n : Result Bool EvalError). as_value (joined c left n)) g)
join-right c left (Err DivByZero) m g = gives-equal _ _ (ap (λ (n : Result Bool EvalError). as_value (joined c left n)) g)
join-right c left (Err OutOfRange) m g = gives-equal _ _ (ap (λ (n : Result Bool EvalError). as_value (joined c left n)) g)
join-right c left (Err BadConversion) m g = gives-equal _ _ (ap (λ (n : Result Bool EvalError). as_value (joined c left n)) g)
join-right c left (Err Memory) m g = tt

without-memory : (left m : Result Bool EvalError) → is_memory left ≡ false → with_memory left m ≡ m
without-memory (Ok b) m h = refl
without-memory (Err NoKey) m h = refl
without-memory (Err NoOverload) m h = refl
without-memory (Err Overflow) m h = refl
without-memory (Err DivByZero) m h = refl
without-memory (Err OutOfRange) m h = refl
without-memory (Err BadConversion) m h = refl
without-memory (Err Memory) m h = absurd (cc)

pub join-means : (c : Connective) (left right r : Result Bool EvalError) (result : Result Value EvalError) → (is_memory left || decides c left) ≡ false →
    Gives right r → result ≡ as_value (with_memory right (joined c left right)) → Gives result (as_value (with_memory left (joined c left r)))
join-means c left right r result stop h e =
    rw (e, without-memory left (joined c left r) (not-memory (is_memory left) (decides c left) stop)) (join-right c left right r h)

count-right : (c : Connective) (left right : Result Bool EvalError) (old new k : ℕ) → Counts right old new k → Counts (as_value (with_memory right (joined c left right))) old new k
count-right c left (Ok b) old new k h = counts-are _ old new k h
count-right c left (Err NoKey) old new k h = counts-are _ old new k h
count-right c left (Err NoOverload) old new k h = counts-are _ old new k h
count-right c left (Err Overflow) old new k h = counts-are _ old new k h
count-right c left (Err DivByZero) old new k h = counts-are _ old new k h
count-right c left (Err OutOfRange) old new k h = counts-are _ old new k h
count-right c left (Err BadConversion) old new k h = counts-are _ old new k h
count-right c left (Err Memory) old new k h = h

pub join-count : (c : Connective) (left right : Result Bool EvalError) (result : Result Value EvalError) (old new k : ℕ) → (is_memory left || decides c left) ≡ false →
    Counts right old new k → result ≡ as_value (with_memory right (joined c left right)) → Counts result old new (if is_memory left || decides c left then 0 else k)
join-count c left right result old new k stop h e = rw (e, stop) (count-right c left right old new k h)

-- a left side that is out of memory, and so the whole
out-of-memory : (result m : Result Value EvalError) → Gives result (Err Memory) → Gives result m
out-of-memory (Ok x) m g = absurd (cc)
out-of-memory (Err NoKey) m g = absurd (cc)
out-of-memory (Err NoOverload) m g = absurd (cc)
out-of-memory (Err Overflow) m g = absurd (cc)
out-of-memory (Err DivByZero) m g = absurd (cc)
out-of-memory (Err OutOfRange) m g = absurd (cc)
out-of-memory (Err BadConversion) m g = absurd (cc)
out-of-memory (Err Memory) m g = tt

out-of-memory-count : (result : Result Value EvalError) (old mid new j k : ℕ) → old ≤ mid → mid ≤ old + j → Gives result (Err Memory) → Counts result mid new 0 → Counts result old new (j + k)
out-of-memory-count (Ok x) old mid new j k least most g h = absurd (cc)
out-of-memory-count (Err NoKey) old mid new j k least most g h = absurd (cc)
out-of-memory-count (Err NoOverload) old mid new j k least most g h = absurd (cc)
out-of-memory-count (Err Overflow) old mid new j k least most g h = absurd (cc)
out-of-memory-count (Err DivByZero) old mid new j k least most g h = absurd (cc)
out-of-memory-count (Err OutOfRange) old mid new j k least most g h = absurd (cc)
out-of-memory-count (Err BadConversion) old mid new j k least most g h = absurd (cc)
out-of-memory-count (Err Memory) old mid new j k least most g h = (omega (arith, least, h.0), omega (arith, most, h.1))

-- what is returned after a left side is what the whole means
pub connect-means : (c : Connective) (left l m : Result Bool EvalError) (result : Result Value EvalError) → Gives left l →
    Gives result (as_value (with_memory left (joined c left m))) → Gives result (as_value (joined c l m))
connect-means c (Ok b) l m result g h = rw g h
connect-means c (Err NoKey) l m result g h = rw g h
connect-means c (Err NoOverload) l m result g h = rw g h
connect-means c (Err Overflow) l m result g h = rw g h
connect-means c (Err DivByZero) l m result g h = rw g h
connect-means c (Err OutOfRange) l m result g h = rw g h
connect-means c (Err BadConversion) l m result g h = rw g h
connect-means c (Err Memory) l m result g h = out-of-memory result (as_value (joined c l m)) h

pub connect-counts : (c : Connective) (left l m : Result Bool EvalError) (result : Result Value EvalError) (old mid new j n : ℕ) → Gives left l → Counts left old mid j →
    Gives result (as_value (with_memory left (joined c left m))) → Counts result mid new (if is_memory left || decides c left then 0 else n) →
    Counts result old new (j + unless_decided c l n)
connect-counts c (Ok b) l m result old mid new j n g h gr hr = rw g (counts-after result old mid new j _ _ h refl hr)
connect-counts c (Err NoKey) l m result old mid new j n g h gr hr = rw g (counts-after result old mid new j _ _ h refl hr)
connect-counts c (Err NoOverload) l m result old mid new j n g h gr hr = rw g (counts-after result old mid new j _ _ h refl hr)
connect-counts c (Err Overflow) l m result old mid new j n g h gr hr = rw g (counts-after result old mid new j _ _ h refl hr)
connect-counts c (Err DivByZero) l m result old mid new j n g h gr hr = rw g (counts-after result old mid new j _ _ h refl hr)
connect-counts c (Err OutOfRange) l m result old mid new j n g h gr hr = rw g (counts-after result old mid new j _ _ h refl hr)
connect-counts c (Err BadConversion) l m result old mid new j n g h gr hr = rw g (counts-after result old mid new j _ _ h refl hr)
connect-counts c (Err Memory) l m result old mid new j n g h gr hr = out-of-memory-count result old mid new j (unless_decided c l n) h.0 h.1 gr hr

pub connect-rooms : (c : Connective) (left l : Result Bool EvalError) (old mid j n : ℕ) → Gives left l → Counts left old mid j →
    mid + (if is_memory left || decides c left then 0 else n) ≤ old + (j + unless_decided c l n)
connect-rooms c (Ok b) l old mid j n g h = rw g (omega (arith, h))
connect-rooms c (Err NoKey) l old mid j n g h = rw g (omega (arith, h))
connect-rooms c (Err NoOverload) l old mid j n g h = rw g (omega (arith, h))
connect-rooms c (Err Overflow) l old mid j n g h = rw g (omega (arith, h))
connect-rooms c (Err DivByZero) l old mid j n g h = rw g (omega (arith, h))
connect-rooms c (Err OutOfRange) l old mid j n g h = rw g (omega (arith, h))
connect-rooms c (Err BadConversion) l old mid j n g h = rw g (omega (arith, h))
connect-rooms c (Err Memory) l old mid j n g h = omega (arith, h.1)
