-- Names whose values are within their bounds.
use Rattle.std.proofs.Common.{◌≡◌, ℕ, List, [], ◌∷◌, Bool, true, false, Option, Some, None, IfOk, Result, Ok, Err, subst, sym, ap, refl, if◌then◌else◌, codes, bytes_eq}
use Rattle.std.specs.Prelude.{◌&&◌}
use Rattle.cel_tree.specs.declared.types.CelType.{CelType}
use Rattle.cel_tree.specs.Ast.{Ast}
use Rattle.cel_tree.specs.HasType.{HasType}
use Rattle.cel_tree.specs.Scopes.{look_up, is_none, is_ident, is_device}
use Rattle.cel_tree.specs.Typing as typing
use Rattle.cel_tree.specs.Estimate.{Bounds, Names, kinds, bounds_of, name_bounds}
use Rattle.cel_value.specs.declared.error.EvalError.{EvalError}
use Rattle.cel_value.specs.declared.value.Value.{Value}
use Rattle.cel_value.specs.Device.{Device}
use Rattle.cel_meaning.specs.Meaning.{Bindings, named}
use Rattle.cel_meaning.specs.HasKind.{HasKind, Agree, unbound, bound}
use Rattle.cel_meaning.proofs.Limited.{Limited}
use Rattle.cel_meaning.proofs.AtMost.{AtMost}

-- a value of the type in the bounds, within them
pub record Within (d : Device) (b : Bounds) (v : Value) : Type 0 where
  pub kind : HasKind b.kind v
  pub most : AtMost d b.weight b.number v

pub data Fit (d : Device) : Names → Bindings → Type 0 where
  no_name : Fit d [] []
  fitting : {x : List ℕ} {b : Bounds} {v : Value} {names : Names} {bindings : Bindings} → Within d b v → Fit d names bindings → Fit d ((x, b) ∷ names) ((x, v) ∷ bindings)

pub agreed : {d : Device} {names : Names} {bindings : Bindings} → Fit d names bindings → Agree (kinds names) bindings
agreed no_name = unbound
agreed (fitting h fit) = bound h.kind (agreed fit)

-- a name has bounds if and only if it has a value
data Both (d : Device) : Option Bounds → Option Value → Type 0 where
  neither : Both d None None
  both : {b : Bounds} {v : Value} → Within d b v → Both d (Some b) (Some v)

step : (d : Device) (t : Bool) (b : Bounds) (v : Value) (o : Option Bounds) (p : Option Value) → Within d b v → Both d o p → Both d (if t then Some b else o) (if t then Some v else p)
step d true b v o p h i = both h
step d false b v o p h i = i

found_both : {d : Device} (x : List ℕ) {names : Names} {bindings : Bindings} → Fit d names bindings → Both d (look_up x names) (look_up x bindings)
found_both x no_name = neither
found_both {d = d} x (fitting {x = y} {b = b} {v = v} {names = names} {bindings = bs} h fit) = step d (bytes_eq y x) b v (look_up x names) (look_up x bs) h (found_both x fit)

both_named : {d : Device} {o : Option Bounds} {p : Option Value} → Both d o p → IfOk (named p) (AtMost d (name_bounds o).weight (name_bounds o).number)
unfolding name_bounds
both_named neither = tt
both_named (both h) = h.most

pub name_most : {d : Device} (x : List ℕ) {names : Names} {bindings : Bindings} → Fit d names bindings → IfOk (named (look_up x bindings)) (AtMost d (name_bounds (look_up x names)).weight (name_bounds (look_up x names)).number)
name_most x fit = both_named (found_both x fit)

both_none : {d : Device} {o : Option Bounds} {p : Option Value} → Both d o p → is_none o ≡ is_none p
both_none neither = refl
both_none (both h) = refl

pub same_device : {d : Device} {names : Names} {bindings : Bindings} → Fit d names bindings → (t : Ast) → is_device names t ≡ is_device bindings t
same_device fit t = ap (λ (b : Bool). is_ident (codes "device") t && b) (both_none (found_both (codes "device") fit))

-- the two facts that the induction needs
pub record Known (d : Device) : Type 0 where
  pub limited : Limited d
  pub typed : (names : Names) (t : Ast) (k : CelType) → HasType (kinds names) t k → (bounds_of names t).kind ≡ k

pub kind_is : {d : Device} → Known d → (env : Names) (ts : typing.Names) → ts ≡ kinds env → {t : Ast} {k : CelType} → HasType ts t k → (bounds_of env t).kind ≡ k
kind_is g env ts e {t = t} {k = k} h = g.typed env t k (subst (λ (n : typing.Names). HasType n t k) e h)

pub agreement : {d : Device} (env : Names) (ts : typing.Names) → ts ≡ kinds env → {bs : Bindings} → Fit d env bs → Agree ts bs
agreement env ts e {bs = bs} fit = subst (λ (n : typing.Names). Agree n bs) (sym e) (agreed fit)

pub within : (d : Device) (b : Bounds) (k : CelType) (r : Result Value EvalError) → b.kind ≡ k → IfOk r (HasKind k) → IfOk r (AtMost d b.weight b.number) → IfOk r (Within d b)
within d b k (Ok v) e h i = record { kind = subst (λ (j : CelType). HasKind j v) (sym e) h; most = i }
within d b k (Err f) e h i = tt
