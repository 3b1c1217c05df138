-- The names of a borrowed chain and those behind its borrows.
use Rattle.std.proofs.Common.{◌≡◌, ℕ, List, Bool, true, false, Option, Some, None, refl, ap, ◌∙◌}
use Rattle.std.specs.Prelude.{◌&&◌, option_copied, codes, if◌then◌else◌}
use Rattle.std.specs.Str.{bytes_eq}
use Rattle.std.specs.Borrow.{Bor}
use Rattle.cel_tree.specs.declared.scope.Scope.{Scope, Top, Bound'}
use Rattle.cel_tree.specs.Ast.{Ast}
use Rattle.cel_tree.specs.Scopes.{bound, look_up, is_none, is_ident, is_device}
use Rattle.cel_value.specs.declared.value.Value.{Value}
use Rattle.cel_eval.specs.Answers.{bindings}

pub found-behind : (name : List ℕ) (s : Scope (Bor Value)) → look_up name (bindings s) ≡ option_copied (look_up name (bound s))
found-behind name Top = refl
found-behind name (Bound' x v p outer) =
    elim (bytes_eq x.now name) as (λ t. (if t then Some v.now else look_up name (bindings outer)) ≡ option_copied (if t then Some v else look_up name (bound outer)))
    [ true ↦ refl | false ↦ found-behind name outer ]

none-behind : (o : Option (Bor Value)) → is_none (option_copied o) ≡ is_none o
none-behind None = refl
none-behind (Some v) = refl

pub device-behind : (s : Scope (Bor Value)) (t : Ast) → is_device (bindings s) t ≡ is_device (bound s) t
device-behind s t =
    ap (λ (b : Bool). is_ident (codes "device") t && b) (ap is_none (found-behind (codes "device") s) ∙ none-behind (look_up (codes "device") (bound s)))

pub ruleset scopes = (found-behind, device-behind)
