-- Names whose bounds count as far as 64 bits do, and trees one after another.
use Rattle.std.proofs.Common.{◌≡◌, zero, suc, ℕ, ◌<◌, ◌≤◌, min, length, List, [], ◌∷◌, Bool, true, false, Option, Some, None, map, drop, refl, ap, sym, ◌∙◌, arith}
use Rattle.std.specs.Prelude.{◌&&◌, option_map, codes, if◌then◌else◌}
use Rattle.std.specs.Str.{bytes_eq}
use Rattle.cel_tree.specs.declared.scope.Scope.{Scope, Top, Bound'}
use Rattle.cel_tree.specs.declared.tree.Tree.{Tree}
use Rattle.cel_tree.specs.Ast.{Ast, tree_view, asts_of}
use Rattle.cel_tree.specs.Scopes.{bound, look_up, is_none, is_ident, is_device}
use Rattle.cel_tree.specs.Estimate.{Bounds, Names, bodies_of, comprehension_bounds, element_bounds, variable_in, bind_of, bind_bounds, nothing}
use Rattle.cel_tree.specs.declared.tree.Span.{Span}
use Rattle.cel_tree.specs.declared.calls.Comprehension.{Comprehension}
use Rattle.cel_tree.specs.declared.calls.Called.TheVariants as called
use Rattle.cel_tree.specs.Calls.{called_of}
use Rattle.cel_cost.specs.declared.bounds.Bounds as code
use Rattle.cel_cost.specs.Capped.{capped, capped_names, seen, names, method_of, listed}

seen-found : (name : List ℕ) (s : Scope code.Bounds) → option_map seen (look_up name (bound s)) ≡ look_up name (names s)
seen-found name Top = refl
seen-found name (Bound' x b p outer) =
    elim (bytes_eq x.now name) as (λ t. option_map seen (if t then Some b else look_up name (bound outer)) ≡ (if t then Some (seen b) else look_up name (names outer)))
    [ true ↦ refl | false ↦ seen-found name outer ]

none-seen : (o : Option code.Bounds) → is_none (option_map seen o) ≡ is_none o
none-seen None = refl
none-seen (Some b) = refl

pub device-seen : (t : Ast) (s : Scope code.Bounds) → is_device (bound s) t ≡ is_device (names s) t
device-seen t s =
    ap (λ (b : Bool). is_ident (codes "device") t && b) (sym (none-seen (look_up (codes "device") (bound s))) ∙ ap is_none (seen-found (codes "device") s))

look-cap : (name : List ℕ) (env : Names) → look_up name (capped_names env) ≡ option_map capped (look_up name env)
look-cap name [] = refl
look-cap name (b ∷ bs) =
    elim (bytes_eq b.0 name) as (λ t. (if t then Some (capped b.1) else look_up name (capped_names bs)) ≡ option_map capped (if t then Some b.1 else look_up name bs))
    [ true ↦ refl | false ↦ look-cap name bs ]

look-in : (name : List ℕ) (n env : Names) → n ≡ capped_names env → look_up name n ≡ option_map capped (look_up name env)
look-in name n env h = ap (look_up name) h ∙ look-cap name env

pub found-in : (name : List ℕ) (s : Scope code.Bounds) (env : Names) → names s ≡ capped_names env → option_map seen (look_up name (bound s)) ≡ option_map capped (look_up name env)
found-in name s env h = seen-found name s ∙ look-in name (names s) env h

none-cap : (o : Option Bounds) → is_none (option_map capped o) ≡ is_none o
none-cap None = refl
none-cap (Some b) = refl

pub device-in : (t : Ast) (n env : Names) → n ≡ capped_names env → is_device n t ≡ is_device env t
device-in t n env h =
    ap (λ (b : Bool). is_ident (codes "device") t && b) (ap is_none (look-in (codes "device") n env h) ∙ none-cap (look_up (codes "device") env))

pub bodies-are : (env : Names) (ts : List Tree) → bodies_of env (asts_of (map tree_view ts)) ≡ listed env (drop 1 ts)
bodies-are env [] = refl
bodies-are env (t ∷ ts) = refl

pub short-bind : (ts : List Tree) (env : Names) (x : List ℕ) → length ts < 3 → bind_of env x (asts_of (map tree_view ts)) ≡ nothing
unfolding bind_bounds
short-bind [] env x h = refl
short-bind (t ∷ []) env x h = refl
short-bind (t ∷ u ∷ []) env x h = refl
short-bind (t ∷ u ∷ v ∷ ts) env x h = absurd (omega arith)

pub rest-is : (i n : ℕ) (xs : List Tree) → i ≤ n → min n (length xs) ≤ i → drop i xs ≡ drop n xs
rest-is zero zero xs d e = refl
rest-is zero (suc n) [] d e = refl
rest-is zero (suc n) (x ∷ xs) d e = absurd (omega arith)
rest-is (suc i) zero xs d e = absurd (omega arith)
rest-is (suc i) (suc n) [] d e = refl
rest-is (suc i) (suc n) (x ∷ xs) d e = rest-is i n xs (omega arith) (omega arith)

pub comprehension-arm : (env : Names) (span : Span) (x : Bounds) (f : List ℕ) (ts : List Tree) (c : Comprehension) → called_of f ≡ Some (called.Comprehension c) →
    method_of env span f x (asts_of (map tree_view ts))
    ≡ comprehension_bounds span c x (listed ((variable_in (asts_of (map tree_view ts)), element_bounds x) ∷ env) (drop 1 ts))
comprehension-arm env span x f ts c e =
    let inner : Names = (variable_in (asts_of (map tree_view ts)), element_bounds x) ∷ env in
    rw e (ap (comprehension_bounds span c x) (bodies-are inner ts))

pub ruleset scopes = (found-in, device-in, bodies-are, short-bind)
