-- The names in scope with what each stands for, the innermost first.
use Rattle.std.specs.Prelude.{ℕ, List, [], ◌∷◌, Bool, true, false, ◌&&◌, if◌then◌else◌, Option, Some, None, codes}
use Rattle.std.specs.Str.{bytes_eq}
use Rattle.cel_tree.specs.declared.scope.Scope.{Scope, Top, Bound'}
use Rattle.cel_tree.specs.Ast.{Ast, Node, Ident}

-- the names of a chain
abbrev pub bound : {A : Type 0} → Scope A → List (List ℕ × A)
bound Top = []
bound (Bound' name x p outer) = (name.now, x) ∷ bound outer

abbrev pub look_up : {A : Type 0} → List ℕ → List (List ℕ × A) → Option A
look_up name [] = None
look_up name (b ∷ bs) = if bytes_eq b.0 name then Some b.1 else look_up name bs

abbrev pub is_none : {A : Type 0} → Option A → Bool
is_none (Some x) = false
is_none None = true

abbrev pub is_ident : List ℕ → Ast → Bool
is_ident name (Node s (Ident n)) = bytes_eq n name
is_ident name (Node s f) = false

-- `device`, where no inner name hides it
abbrev pub is_device : {A : Type 0} → List (List ℕ × A) → Ast → Bool
is_device names t = is_ident (codes "device") t && is_none (look_up (codes "device") names)
