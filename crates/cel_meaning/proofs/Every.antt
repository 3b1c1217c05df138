-- Facts of each element of a list, and of results that are values.
use Rattle.std.proofs.Common.{◌≡◌, ℕ, zero, suc, List, [], ◌∷◌, ◌++◌, map, Bool, true, false, cond, Option, Some, None, slice_get, IfOk, Result, Ok, Err, subst, if◌then◌else◌}
use Rattle.std.specs.Map.{lookup}
use Rattle.cel_value.specs.declared.error.EvalError.{EvalError}
use Rattle.cel_value.specs.Values.{◌>>=◌}
use Rattle.cel_meaning.specs.HasKind.{Every, no_more, first}

pub some_inj : {A : Type 0} {x y : A} → Some x ≡ Some y → x ≡ y
some_inj e = cc

pub none_some : {A : Type 0} {x : A} {Q : Type 0} → None ≡ Some x → Q
none_some e = absurd (cc)

-- on with a value
pub on : {A B : Type 0} (P : A → Type 0) (Q : B → Type 0) (r : Result A EvalError) (f : A → Result B EvalError) → IfOk r P → ((x : A) → P x → IfOk (f x) Q) → IfOk (r >>= f) Q
on P Q (Ok x) f h g = g x h
on P Q (Err e) f h g = tt

pub after : {A B : Type 0} (Q : B → Type 0) (r : Result A EvalError) (f : A → Result B EvalError) → ((x : A) → IfOk (f x) Q) → IfOk (r >>= f) Q
after Q (Ok x) f g = g x
after Q (Err e) f g = tt

pub if_ok : {A : Type 0} (P : A → Type 0) (r : Result A EvalError) (x : A) → IfOk r P → ◌≡◌ {A = Result A EvalError} r (Ok x) → P x
if_ok {A = A} P r x h e = subst (λ (s : Result A EvalError). IfOk s P) e h

pub ok_if : {A : Type 0} (P Q : A → Type 0) (r : Result A EvalError) → ((x : A) → P x → Q x) → IfOk r P → IfOk r Q
ok_if P Q (Ok x) f h = f x h
ok_if P Q (Err e) f h = tt

pub every_append : {A : Type 0} {P : A → Type 0} {xs ys : List A} → Every P xs → Every P ys → Every P (xs ++ ys)
every_append no_more q = q
every_append (first p ps) q = first p (every_append ps q)

pub weaken : {A : Type 0} (P Q : A → Type 0) → ((x : A) → P x → Q x) → {xs : List A} → Every P xs → Every Q xs
weaken P Q f no_more = no_more
weaken P Q f (first p ps) = first (f _ p) (weaken P Q f ps)

pub every_get : {A : Type 0} {P : A → Type 0} {xs : List A} → Every P xs → (n : ℕ) (x : A) → slice_get xs n ≡ Some x → P x
every_get no_more n x e = none_some e
every_get {P = P} (first p ps) zero x e = subst P (some_inj e) p
every_get (first p ps) (suc n) x e = every_get ps n x e

pick : {X : Type 0} (Q : X → Type 0) (b : Bool) (v x : X) (o : Option X) → Q v → (o ≡ Some x → Q x) → cond b (Some v) o ≡ Some x → Q x
pick Q true v x o p g e = subst Q (some_inj e) p
pick Q false v x o p g e = g e

-- the value that was found at a key
pub every_lookup : {K X : Type 0} (P : K × X → Type 0) (Q : X → Type 0) → ((e : K × X) → P e → Q e.1) → {es : List (K × X)} → Every P es → (test : K → Bool) (x : X) → lookup test es ≡ Some x → Q x
every_lookup P Q f no_more test x e = none_some e
every_lookup P Q f (first {x = y} {xs = es} p ps) test x e =
    pick Q (test y.0) y.1 x (lookup test es) (f y p) (every_lookup P Q f ps test x) e

-- a choice of two results
pub either : {A : Type 0} (Q : A → Type 0) (b : Bool) (r s : Result A EvalError) → IfOk r Q → IfOk s Q → IfOk (if b then r else s) Q
either Q true r s p q = p
either Q false r s p q = q
