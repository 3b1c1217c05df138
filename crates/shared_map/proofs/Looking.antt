-- The entry that a look-up finds, and its key and its value.
use Rattle.std.proofs.Common.{ℕ, zero, suc, ◌≡◌, ◌∙◌, ◌<◌, ◌+◌, List, [], ◌∷◌, ◌++◌, Bool, true, false, cond, Option, Some, None, refl, ap, sym, length, take, drop, arith, option_map, IfSome}
use Rattle.std.proofs.Math.Bool.{true≢false}
use Rattle.std.proofs.Math.ListN.{get_or}
use Rattle.std.specs.BTreeMap.{is_at}
use Rattle.std.specs.Map.{lookup, lookup_entry, lookup_key}
use Rattle.std.specs.declared.cmp.Ordering.{Ordering}
use Rattle.std.specs.declared.cmp.Ordering.TheVariants.{Less, Equal, Greater}
use Rattle.shared_map.specs.Chunks.{joined, AreBelow, AreAbove, IsChunkOf}
use Rattle.shared_map.proofs.Joining.{around}
use Rattle.shared_map.proofs.Sorting.{at_any}

entry_above : {K V : Type 0} (R : K → K → Ordering) (k : K) (high : List (K × V)) → AreAbove R k high → lookup_entry (is_at (R k)) high ≡ None
entry_above R k [] a = refl
entry_above R k (h ∷ high) a = rw a.0 (entry_above R k high a.1)

entry_before : {K V : Type 0} (R : K → K → Ordering) (k : K) (mid high : List (K × V)) → AreAbove R k high → lookup_entry (is_at (R k)) (mid ++ high) ≡ lookup_entry (is_at (R k)) mid
entry_before R k [] high a = entry_above R k high a
entry_before R k (m ∷ mid) high a = rw (entry_before R k mid high a) refl

entry_between : {K V : Type 0} (R : K → K → Ordering) (k : K) (low mid high : List (K × V)) → AreBelow R k low → AreAbove R k high → lookup_entry (is_at (R k)) (low ++ (mid ++ high)) ≡ lookup_entry (is_at (R k)) mid
entry_between R k [] mid high b a = entry_before R k mid high a
entry_between R k (l ∷ low) mid high b a = rw b.0 (entry_between R k low mid high b.1 a)

-- the entry of a key is that of the chunk to which the key belongs
pub entry_of_chunk : {K V : Type 0} (R : K → K → Ordering) (k : K) (cs : List (List (K × V))) (i : ℕ) (c : List (K × V)) → IsChunkOf R k cs i → c ≡ get_or cs i c → lookup_entry (is_at (R k)) (joined cs) ≡ lookup_entry (is_at (R k)) c
entry_of_chunk R k cs i c at here =
    ap (lookup_entry (is_at (R k))) (around cs i at.within)
    ∙ entry_between R k (joined (take i cs)) (get_or cs i []) (joined (drop (i + 1) cs)) at.below at.above
    ∙ ap (lookup_entry (is_at (R k))) (at_any cs i c [] at.within here)

pub entry_hit : {K V : Type 0} (R : K → K → Ordering) (k : K) (es : List (K × V)) (i : ℕ) (x : K × V) → i < length es → AreBelow R k (take i es) → ((d : K × V) → R k (get_or es i d).0 ≡ Equal) → ((d : K × V) → get_or es i d ≡ x) → lookup_entry (is_at (R k)) es ≡ Some x
entry_hit R k [] i x h b q u = absurd (omega (arith, h))
entry_hit R k (e ∷ es) zero x h b q u = rw (q e) (ap (λ y. Some y) (u e))
entry_hit R k (e ∷ es) (suc i) x h b q u = rw b.0 (entry_hit R k es i x (omega (arith, h)) b.1 q u)

pub entry_gap : {K V : Type 0} (R : K → K → Ordering) (k : K) (es : List (K × V)) (i : ℕ) → AreBelow R k (take i es) → AreAbove R k (drop i es) → lookup_entry (is_at (R k)) es ≡ None
entry_gap R k es zero b a = entry_above R k es a
entry_gap R k [] (suc i) b a = refl
entry_gap R k (e ∷ es) (suc i) b a = rw b.0 (entry_gap R k es i b.1 a)

-- what a look-up of the key, and of the value, make of the entry

map_cond : {A B : Type 0} (f : A → B) (b : Bool) (x y : Option A) → option_map f (cond b x y) ≡ cond b (option_map f x) (option_map f y)
map_cond f true x y = refl
map_cond f false x y = refl

pub key_of_entry : {K V : Type 0} (test : K → Bool) (es : List (K × V)) → option_map (λ e. e.0) (lookup_entry test es) ≡ lookup_key test es
key_of_entry test [] = refl
key_of_entry test (e ∷ es) = map_cond (λ e. e.0) (test e.0) (Some e) (lookup_entry test es) ∙ ap (λ t. cond (test e.0) (Some e.0) t) (key_of_entry test es)

pub value_of_entry : {K V : Type 0} (test : K → Bool) (es : List (K × V)) → option_map (λ e. e.1) (lookup_entry test es) ≡ lookup test es
value_of_entry test [] = refl
value_of_entry test (e ∷ es) = map_cond (λ e. e.1) (test e.0) (Some e) (lookup_entry test es) ∙ ap (λ t. cond (test e.0) (Some e.1) t) (value_of_entry test es)

-- an entry that is found has an equal key

equal_of : (r : Ordering) → is_at (λ (u : Ordering). u) r ≡ true → r ≡ Equal
equal_of Less t = absurd (true≢false (sym t))
equal_of Equal t = refl
equal_of Greater t = absurd (true≢false (sym t))

found_by : {K V : Type 0} (R : K → K → Ordering) (k : K) (e : K × V) (t : Option (K × V)) (b : Bool) → is_at (R k) e.0 ≡ b → IfSome t (λ x. R k x.0 ≡ Equal) → IfSome (cond b (Some e) t) (λ x. R k x.0 ≡ Equal)
found_by R k e t true q f = equal_of (R k e.0) q
found_by R k e t false q f = f

pub found_equal : {K V : Type 0} (R : K → K → Ordering) (k : K) (es : List (K × V)) → IfSome (lookup_entry (is_at (R k)) es) (λ x. R k x.0 ≡ Equal)
found_equal R k [] = tt
found_equal R k (e ∷ es) = found_by R k e (lookup_entry (is_at (R k)) es) (is_at (R k) e.0) refl (found_equal R k es)

-- the same of an answer that is seen as a pair

pub seen_key : {A K V : Type 0} (f : A → K) (g : A → V) (o : Option A) (t : Option (K × V)) → option_map (λ a. (f a, g a)) o ≡ t → option_map f o ≡ option_map (λ e. e.0) t
seen_key f g None t e = ap (option_map (λ x. x.0)) e
seen_key f g (Some a) t e = ap (option_map (λ x. x.0)) e

pub seen_value : {A K V : Type 0} (f : A → K) (g : A → V) (o : Option A) (t : Option (K × V)) → option_map (λ a. (f a, g a)) o ≡ t → option_map g o ≡ option_map (λ e. e.1) t
seen_value f g None t e = ap (option_map (λ x. x.1)) e
seen_value f g (Some a) t e = ap (option_map (λ x. x.1)) e

pub seen_equal : {A K V : Type 0} (R : K → K → Ordering) (k : K) (f : A → K) (g : A → V) (o : Option A) (t : Option (K × V)) → option_map (λ a. (f a, g a)) o ≡ t → IfSome t (λ x. R k x.0 ≡ Equal) → IfSome o (λ a. R k (f a) ≡ Equal)
seen_equal R k f g None t e q = tt
seen_equal R k f g (Some a) t e q = rw (← e) at q
