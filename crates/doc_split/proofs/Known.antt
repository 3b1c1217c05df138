-- Bytes that are known, or not.
use Rattle.std.proofs.Common.{ℕ, ◌≡◌, ◌∙◌, List, [], ◌∷◌, ◌++◌, refl, sym, ap, subst, append_assoc, append-nil}
use Rattle.std.specs.Prelude.{Option, None, Some}
use Rattle.std.specs.Io.KnownBytes.{Consumes, IsAtEnd, prepend_known}
use Rattle.doc_split.specs.Split.{Split, remaining}

pub consumes_more : (a b c : Option (List ℕ)) (x y : List ℕ) → Consumes a b x → Consumes b c y → Consumes a c (x ++ y)
consumes_more None b c x y p q = tt
consumes_more (Some xs) None c x y p q = absurd p
consumes_more (Some xs) (Some ys) None x y p q = absurd q
consumes_more (Some xs) (Some ys) (Some zs) x y p q = p ∙ ap (λ (l : List ℕ). x ++ l) q ∙ sym (append_assoc x y zs)

pub consumes_kept : (a b c : Option (List ℕ)) (x : List ℕ) → Consumes a b x → Consumes b c [] → Consumes a c x
consumes_kept a b c x p q = subst (λ (l : List ℕ). Consumes a c l) (append-nil x) (consumes_more a b c x [] p q)

pub consumes_none : (a : Option (List ℕ)) → Consumes a a []
consumes_none None = tt
consumes_none (Some xs) = refl

kept_from : (x y : List ℕ) (left left_now : Option (List ℕ)) → x ≡ [] → Consumes left left_now y → Consumes (prepend_known x left) (prepend_known y left_now) []
kept_from x y None left_now e p = tt
kept_from x y (Some xs) None e p = absurd p
kept_from x y (Some xs) (Some ys) e p = ap (λ (l : List ℕ). l ++ xs) e ∙ p

-- what was read from the source is ahead, where nothing was
pub kept_ahead : (old new : Split) (left left_now : Option (List ℕ)) → old.ahead ≡ [] → Consumes left left_now new.ahead → Consumes (remaining old left) (remaining new left_now) []
kept_ahead old new left left_now e p = kept_from old.ahead new.ahead left left_now e p

advance_from : (x y z : List ℕ) (left : Option (List ℕ)) → x ≡ y ++ z → Consumes (prepend_known x left) (prepend_known z left) y
advance_from x y z None e = tt
advance_from x y z (Some xs) e = ap (λ (l : List ℕ). l ++ xs) e ∙ append_assoc y z xs

-- bytes ahead were consumed
pub advance_ahead : (old new : Split) (left : Option (List ℕ)) (bytes : List ℕ) → old.ahead ≡ bytes ++ new.ahead → Consumes (remaining old left) (remaining new left) bytes
advance_ahead old new left bytes e = advance_from old.ahead bytes new.ahead left e

-- where nothing is ahead, what remains is what the source has left
pub remains_left : (a : Option (List ℕ)) (new : Split) (left_now : Option (List ℕ)) (x : List ℕ) → new.ahead ≡ [] → Consumes a (remaining new left_now) x → Consumes a left_now x
remains_left a new None x e p = p
remains_left None new (Some ys) x e p = tt
remains_left (Some xs) new (Some ys) x e p = p ∙ ap (λ (l : List ℕ). x ++ (l ++ ys)) e

pub end_remains : (new : Split) (left_now : Option (List ℕ)) → new.ahead ≡ [] → IsAtEnd left_now → IsAtEnd (remaining new left_now)
end_remains new None e end = tt
end_remains new (Some ys) e end = ap (λ (l : List ℕ). l ++ ys) e ∙ end

-- what remains, where it is known
pub rest_of : (a b : Option (List ℕ)) (taken bytes : List ℕ) → Consumes a b taken → a ≡ Some bytes → (rest : List ℕ) × (bytes ≡ taken ++ rest) × (b ≡ Some rest)
rest_of None b taken bytes p e = absurd (cc)
rest_of (Some xs) None taken bytes p e = absurd p
rest_of (Some xs) (Some ys) taken bytes p e = let s : xs ≡ bytes = cc in (ys, sym s ∙ p, refl)

pub rest_at_end : (b : Option (List ℕ)) (rest : List ℕ) → b ≡ Some rest → IsAtEnd b → rest ≡ []
rest_at_end None rest e end = absurd (cc)
rest_at_end (Some ys) rest e end = let s : ys ≡ rest = cc in sym s ∙ end

pub rest_begins : (new : Split) (left_now : Option (List ℕ)) (rest : List ℕ) (b : ℕ) (bs : List ℕ) → remaining new left_now ≡ Some rest → new.ahead ≡ b ∷ bs → (more : List ℕ) × (rest ≡ b ∷ more)
rest_begins new None rest b bs e a = absurd (cc)
rest_begins new (Some ys) rest b bs e a =
    let s : new.ahead ++ ys ≡ rest = cc in
    (bs ++ ys, sym s ∙ ap (λ (l : List ℕ). l ++ ys) a)
