-- Bytes that are known, or not.
use Rattle.std.proofs.Common.{ℕ, suc, ◌+◌, ◌≡◌, ◌∙◌, List, [], ◌∷◌, ◌++◌, length, take, refl, sym, ap, subst, arith, append_assoc, append-nil}
use Rattle.std.specs.Prelude.{Option, None, Some, Result, Ok, Err, IfErr, OnOk}
use Rattle.std.specs.Io.KnownBytes.{Appends, Consumes, IsAtEnd}
use Rattle.std.proofs.lemmas.List.{take_all}
use Rattle.dra_ports.specs.Prefixes.{AppendsPrefix}

pub consumes_more : (a b c : Option (List ℕ)) (x y : List ℕ) → Consumes a b x → Consumes b c y → Consumes a c (x ++ y)
consumes_more None b c x y p q = tt
consumes_more (Some xs) None c x y p q = absurd p
consumes_more (Some xs) (Some ys) None x y p q = absurd q
consumes_more (Some xs) (Some ys) (Some zs) x y p q = p ∙ ap (λ (l : List ℕ). x ++ l) q ∙ sym (append_assoc x y zs)

pub consumes_kept : (a b c : Option (List ℕ)) (x : List ℕ) → Consumes a b x → Consumes b c [] → Consumes a c x
consumes_kept a b c x p q = subst (λ (l : List ℕ). Consumes a c l) (append-nil x) (consumes_more a b c x [] p q)

pub consumes_none : (a : Option (List ℕ)) → Consumes a a []
consumes_none None = tt
consumes_none (Some xs) = refl

pub appends_more : (a b c : Option (List ℕ)) (x y : List ℕ) → Appends a b x → Appends b c y → Appends a c (x ++ y)
appends_more None b c x y p q = tt
appends_more (Some xs) None c x y p q = absurd p
appends_more (Some xs) (Some ys) None x y p q = absurd q
appends_more (Some xs) (Some ys) (Some zs) x y p q = q ∙ ap (λ (l : List ℕ). l ++ y) p ∙ append_assoc xs x y

pub appends_none : (a : Option (List ℕ)) → Appends a a []
appends_none None = tt
appends_none (Some xs) = sym (append-nil xs)

pub appends_kept : (a b c : Option (List ℕ)) (x : List ℕ) → Appends a b x → Appends b c [] → Appends a c x
appends_kept a b c x p q = subst (λ (l : List ℕ). Appends a c l) (append-nil x) (appends_more a b c x [] p q)

take_over : (xs ys : List ℕ) (n : ℕ) → take (length xs + n) (xs ++ ys) ≡ xs ++ take n ys
take_over [] ys n = let e : 0 + n ≡ n = omega arith in ap (λ k. take k ys) e
take_over (x ∷ xs) ys n =
    let e : length (x ∷ xs) + n ≡ suc (length xs + n) = omega arith in
    ap (λ k. take k (x ∷ (xs ++ ys))) e ∙ ap (λ l. x ∷ l) (take_over xs ys n)

-- what is written whole, and then a prefix
pub appends_prefix : (a b c : Option (List ℕ)) (x y : List ℕ) → Appends a b x → AppendsPrefix b c y → AppendsPrefix a c (x ++ y)
appends_prefix a b c x y p q = (length x + q.0, subst (λ (l : List ℕ). Appends a c l) (sym (take_over x y q.0)) (appends_more a b c x (take q.0 y) p q.1))

-- all of it is a prefix
pub prefix_all : (a b : Option (List ℕ)) (x : List ℕ) → Appends a b x → AppendsPrefix a b x
prefix_all a b x p = (length x, subst (λ (l : List ℕ). Appends a b l) (sym (take_all (length x) x (omega arith))) p)

-- what is left, where the bytes are known
pub rest_of : (left now : Option (List ℕ)) (taken bytes : List ℕ) → Consumes left now taken → left ≡ Some bytes → (rest : List ℕ) × (bytes ≡ taken ++ rest) × (now ≡ Some rest)
rest_of None now taken bytes p e = absurd (cc)
rest_of (Some xs) None taken bytes p e = absurd p
rest_of (Some xs) (Some ys) taken bytes p e = let s : xs ≡ bytes = cc in (ys, sym s ∙ p, refl)

-- nothing is left at the end
pub rest_at_end : (now : Option (List ℕ)) (rest : List ℕ) → now ≡ Some rest → IsAtEnd now → rest ≡ []
rest_at_end None rest e end = absurd (cc)
rest_at_end (Some ys) rest e end = let s : ys ≡ rest = cc in sym s ∙ end

-- ---- results

-- what holds of Ok, and of an error
pub ok_then : {A E : Type 0} (r : Result A E) (x : A) (Q : Type 0) → r ≡ Ok x → OnOk r Q → Q
ok_then (Ok y) x Q is q = q
ok_then (Err e) x Q is q = absurd (cc)

pub err_then : {A E : Type 0} (r : Result A E) (e : E) (P : E → Type 0) → r ≡ Err e → IfErr r P → P e
err_then (Ok y) e P is p = absurd (cc)
err_then (Err d) e P is p = let same : d ≡ e = cc (is) in subst P same p

pub on_ok : {A E : Type 0} (r : Result A E) (P Q : Type 0) → (P → Q) → OnOk r P → OnOk r Q
on_ok (Ok x) P Q f p = f p
on_ok (Err e) P Q f p = tt

pub if_err : {A E : Type 0} (r : Result A E) (P Q : E → Type 0) → ((e : E) → P e → Q e) → IfErr r P → IfErr r Q
if_err (Ok x) P Q f p = tt
if_err (Err e) P Q f p = f e p
