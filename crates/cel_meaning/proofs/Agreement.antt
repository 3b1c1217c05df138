-- Names and the values that they are bound to.
use Rattle.std.proofs.Common.{◌≡◌, ℕ, List, Bool, true, false, Option, Some, None, IfOk, subst, ap, refl, if◌then◌else◌, codes, bytes_eq}
use Rattle.std.specs.Prelude.{◌&&◌}
use Rattle.cel_tree.specs.declared.types.CelType.{CelType}
use Rattle.cel_tree.specs.Ast.{Ast}
use Rattle.cel_tree.specs.Scopes.{look_up, is_none, is_ident, is_device}
use Rattle.cel_tree.specs.Typing.{Names}
use Rattle.cel_value.specs.declared.value.Value.{Value}
use Rattle.cel_meaning.specs.Meaning.{Bindings, named}
use Rattle.cel_meaning.specs.HasKind.{HasKind, Agree, unbound, bound}
use Rattle.cel_meaning.proofs.Every.{some_inj, none_some}

-- a name has a type if and only if it has a value, which is of that type
pub data Both (R : CelType → Value → Type 0) : Option CelType → Option Value → Type 0 where
  neither : Both R None None
  both : {k : CelType} {v : Value} → R k v → Both R (Some k) (Some v)

step : (b : Bool) (k : CelType) (v : Value) (o : Option CelType) (p : Option Value) → HasKind k v → Both HasKind o p → Both HasKind (if b then Some k else o) (if b then Some v else p)
step true k v o p h i = both h
step false k v o p h i = i

pub found_both : (x : List ℕ) {names : Names} {bindings : Bindings} → Agree names bindings → Both HasKind (look_up x names) (look_up x bindings)
found_both x unbound = neither
found_both x (bound {x = y} {k = k} {v = v} {names = names} {bindings = bs} h a) = step (bytes_eq y x) k v (look_up x names) (look_up x bs) h (found_both x a)

both_named : {o : Option CelType} {p : Option Value} {k : CelType} → Both HasKind o p → o ≡ Some k → IfOk (named p) (HasKind k)
both_named neither e = none_some e
both_named (both {v = v} h) e = subst (λ (j : CelType). HasKind j v) (some_inj e) h

pub name_kind : (x : List ℕ) {names : Names} {bindings : Bindings} {k : CelType} → Agree names bindings → look_up x names ≡ Some k → IfOk (named (look_up x bindings)) (HasKind k)
name_kind x a e = both_named (found_both x a) e

both_none : {o : Option CelType} {p : Option Value} → Both HasKind o p → is_none o ≡ is_none p
both_none neither = refl
both_none (both h) = refl

pub same_device : {names : Names} {bindings : Bindings} → Agree names bindings → (t : Ast) → is_device names t ≡ is_device bindings t
same_device a t = ap (λ (b : Bool). is_ident (codes "device") t && b) (both_none (found_both (codes "device") a))
