-- What a table has at a name after the value at a name changed.
use Rattle.std.proofs.Common.{◌≡◌, ℕ, List, [], Bool, true, false, Option, None, Some, refl, sym, ap, ◌∙◌, if◌then◌else◌, cond}
use Rattle.std.specs.BTreeMap.{is_at}
use Rattle.std.specs.Cmp.Lexicographic.{same_text, texts_ties}
use Rattle.std.specs.Map.{set_value}
use Rattle.std.specs.Option.{option_map, option_map_or, is_some}
use Rattle.std.proofs.lemmas.Cmp.{nat_list_cmp_total, eq_by_cmp_equiv}
use Rattle.std.proofs.lemmas.Iterator.Adapters.{option_map_id}
use Rattle.std.proofs.lemmas.Map.{lookup-set_value}
use Rattle.pool_view.specs.Names.{at_name, text_cmp, text_eq}
use Rattle.counter_sets.specs.Totals.{changed_at, or_empty}

pub same_from_at : (name x : List ℕ) → is_at (text_cmp name) x ≡ true → name ≡ x
same_from_at name x e = same_text name x (sym (texts_ties name x ∙ e))

same_test : (name x y : List ℕ) → is_at (text_cmp name) x ≡ true → is_at (text_cmp name) y ≡ is_at (text_cmp x) y
same_test name x y e = ap (λ (n : List ℕ). is_at (text_cmp n) y) (same_from_at name x e)

pub set_at : {V : Type 0} (name k : List ℕ) (table : List (List ℕ × V)) (v w : V) → at_name table name ≡ Some v
    → at_name (set_value (is_at (text_cmp name)) table w) k ≡ cond (is_at (text_cmp name) k) (Some w) (at_name table k)
set_at name k table v w there =
    lookup-set_value (eq_by_cmp_equiv nat_list_cmp_total) (is_at (text_cmp name)) (same_test name) k w table (ap is_some there)

-- a value that is changed if a test is true
abbrev pub moved_if : {V : Type 0} → Bool → (V → V) → V → V
moved_if b f v = if b then f v else v

kept_by : {V : Type 0} (b : Bool) (name k : List ℕ) (f : V → V) (table : List (List ℕ × V)) → text_eq name k ≡ b → at_name table name ≡ None
    → at_name table k ≡ option_map (moved_if b f) (at_name table k)
kept_by true name k f table e none =
    let there : at_name table k ≡ None = ap (λ (n : List ℕ). at_name table n) (sym (same_text name k (sym e))) ∙ none in
    there ∙ sym (ap (option_map (moved_if true f)) there)
kept_by false name k f table e none = sym (option_map_id (at_name table k))

set_by : {V : Type 0} (b : Bool) (name k : List ℕ) (f : V → V) (table : List (List ℕ × V)) (v : V) → text_eq name k ≡ b → at_name table name ≡ Some v
    → cond (is_at (text_cmp name) k) (Some (f v)) (at_name table k) ≡ option_map (moved_if b f) (at_name table k)
set_by true name k f table v e there =
    ap (λ (t : Bool). cond t (Some (f v)) (at_name table k)) (sym (texts_ties name k) ∙ e)
    ∙ sym (ap (option_map (moved_if true f)) (ap (λ (n : List ℕ). at_name table n) (sym (same_text name k (sym e))) ∙ there))
set_by false name k f table v e there =
    ap (λ (t : Bool). cond t (Some (f v)) (at_name table k)) (sym (texts_ties name k) ∙ e)
    ∙ sym (option_map_id (at_name table k))

moved_found : {V : Type 0} (o : Option V) (name k : List ℕ) (f : V → V) (table : List (List ℕ × V)) → at_name table name ≡ o
    → at_name (option_map_or (λ v. set_value (is_at (text_cmp name)) table (f v)) o table) k ≡ option_map (moved_if (text_eq name k) f) (at_name table k)
moved_found None name k f table is = kept_by (text_eq name k) name k f table refl is
moved_found (Some v) name k f table is = set_at name k table v (f v) is ∙ set_by (text_eq name k) name k f table v refl is

pub moved_name : {V : Type 0} (name k : List ℕ) (f : V → V) (table : List (List ℕ × V))
    → at_name (changed_at name f table) k ≡ option_map (moved_if (text_eq name k) f) (at_name table k)
moved_name name k f table = moved_found (at_name table name) name k f table refl

pub option_map_twice : {A : Type 0} (f g : A → A) (o : Option A) → option_map f (option_map g o) ≡ option_map (λ x. f (g x)) o
option_map_twice f g None = refl
option_map_twice f g (Some x) = refl

-- what is seen of the table at a name
pub within : {V W : Type 0} (b : Bool) (f : List (List ℕ × V) → List (List ℕ × V)) (g : W → W) (look : List (List ℕ × V) → Option W) (o : Option (List (List ℕ × V)))
    → look [] ≡ None → ((t : List (List ℕ × V)) → look (f t) ≡ option_map g (look t))
    → look (or_empty (option_map (moved_if b f) o)) ≡ option_map (moved_if b g) (look (or_empty o))
within b f g look None none h = none ∙ sym (ap (option_map (moved_if b g)) none)
within true f g look (Some t) none h = h t
within false f g look (Some t) none h = sym (option_map_id (look t))
