-- Results for equal values.
use Rattle.std.proofs.Common.{◌≡◌, ◌∙◌, Result, Ok, Err, sym, subst}
use Rattle.std.specs.Result.{IfOk}

-- a value returned that equals one of two equal values equals the other
pub ok_as : {X E : Type 0} (r : Result X E) (x y : X) → IfOk r (λ v. v ≡ x) → x ≡ y → IfOk r (λ v. v ≡ y)
ok_as (Ok v) x y h e = h ∙ e
ok_as (Err f) x y h e = tt

-- a value returned has what the value that it equals has
pub ok_has : {X E : Type 0} (P : X → Type 0) (r : Result X E) (x : X) → IfOk r (λ v. v ≡ x) → P x → IfOk r P
ok_has {X} P (Ok v) x h p = subst (λ (w : X). P w) (sym h) p
ok_has P (Err f) x h p = tt
