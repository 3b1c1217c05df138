-- Users of a claim, one of which is changed.
use Rattle.std.proofs.Common.{ℕ, suc, ◌<◌, ◌≡◌, Bool, true, cond, List, ◌∷◌, ◌++◌, length, take, drop, get_or, Some, sym, ap, ◌∙◌}
use Rattle.std.proofs.Math.ListN.{set}
use Rattle.std.proofs.Math.Seq.{drop-cons}
use Rattle.std.proofs.lemmas.List.{set_split}
use Rattle.std.specs.BTreeMap.{is_at}
use Rattle.std.specs.Map.{lookup, set_value}
use Rattle.std.specs.Option.{option_map_or}
use Rattle.object_fields.specs.declared.key.Key.{Key}
use Rattle.cluster.specs.declared.state.Use.{Use}
use Rattle.pool_view.specs.Names.{key_cmp}
use Rattle.cluster.specs.Tables.{changed_at}

-- the first of the users is the pod
first_set : (pod : Key) (how : Use) (e : Key × Use) (es : List (Key × Use)) → is_at (key_cmp pod) e.0 ≡ true → changed_at pod (λ _. how) (e ∷ es) ≡ (e.0, how) ∷ es
first_set pod how e es h =
    ap (λ (b : Bool). option_map_or (λ (v : Use). cond b ((e.0, how) ∷ es) (e ∷ set_value (is_at (key_cmp pod)) es how)) (cond b (Some e.1) (lookup (is_at (key_cmp pod)) es)) (e ∷ es)) h

first_same : {X : Type 0} (a b : X) (xs : List X) → a ∷ xs ≡ b ∷ xs → a ≡ b
first_same a b xs h = cc

-- what two reads of the element at an index give
one_there : {X : Type 0} (xs : List X) (i : ℕ) (a b : X) → i < length xs → a ≡ get_or xs i a → b ≡ get_or xs i b → a ≡ b
one_there xs i a b few at at2 =
    at ∙ first_same (get_or xs i a) (get_or xs i b) (drop (suc i) xs) (sym (drop-cons xs i a few) ∙ drop-cons xs i b few) ∙ sym at2

-- the user at an index is the pod, and none before it is
pub set_here : (pod : Key) (how : Use) (users all : List (Key × Use)) (i : ℕ) (e d : Key × Use) → i < length users → e ≡ get_or users i e → d ≡ get_or users i d → is_at (key_cmp pod) e.0 ≡ true → take i users ++ changed_at pod (λ _. how) (drop i users) ≡ all → set users i (d.0, how) ≡ all
set_here pod how users all i e d few at at2 here rest =
    let there : drop i users ≡ e ∷ drop (suc i) users = drop-cons users i e few ∙ ap (λ (x : Key × Use). x ∷ drop (suc i) users) (sym at) in
    let changed : changed_at pod (λ _. how) (drop i users) ≡ (e.0, how) ∷ drop (suc i) users = ap (λ (es : List (Key × Use)). changed_at pod (λ _. how) es) there ∙ first_set pod how e (drop (suc i) users) here in
    ap (λ (x : Key × Use). set users i (x.0, how)) (one_there users i d e few at2 at) ∙ set_split users i (e.0, how) few ∙ sym (ap (λ (es : List (Key × Use)). take i users ++ es) changed) ∙ rest
