-- What the items of a list are, one more.
use Rattle.std.proofs.Common.{ℕ, ◌≡◌, ◌∙◌, ◌<◌, ◌+◌, List, [], ◌∷◌, ◌++◌, length, get_or, drop, refl, sym, ap, append_assoc}
use Rattle.std.specs.Prelude.{Option, None, Some, option_map}
use Rattle.std.proofs.lemmas.List.{drop_more}
use Rattle.serde_json.specs.Data.{Data}
use Rattle.serde_json.specs.View.{items_view, view}
use Rattle.serde_json.specs.declared.value.Value.{Value}
use Rattle.commands.specs.Commands.{before, each_of}

-- one between those before it and those behind it
joined : {A : Type 0} (xs : List A) (x : A) (rest : Option (List A)) → option_map (λ (r : List A). (xs ++ x ∷ []) ++ r) rest ≡ option_map (λ (r : List A). xs ++ r) (before (Some x) rest)
joined {A} xs x None = refl
joined {A} xs x (Some r) = ap (λ (l : List A). Some l) (append_assoc xs (x ∷ []) r)

-- an item that is something
pub one_more : {A : Type 0} (f : Data → Option A) (items : List Value) (i : ℕ) (v : Value) (xs : List A) (o : Option A) (x : A) (whole : Option (List A)) → v ≡ get_or items i v → i < length items
    → o ≡ f (view v) → o ≡ Some x → option_map (λ (r : List A). xs ++ r) (each_of f (items_view (drop i items))) ≡ whole
    → option_map (λ (r : List A). (xs ++ x ∷ []) ++ r) (each_of f (items_view (drop (i + 1) items))) ≡ whole
one_more {A} f items i v xs o x whole is less reads some all =
    let rest : Option (List A) = each_of f (items_view (drop (i + 1) items)) in
    joined xs x rest
    ∙ ap (λ (y : Option A). option_map (λ (r : List A). xs ++ r) (before y rest)) (sym some ∙ reads)
    ∙ ap (λ (w : Value). option_map (λ (r : List A). xs ++ r) (each_of f (items_view (w ∷ drop (i + 1) items)))) is
    ∙ ap (λ (l : List Value). option_map (λ (r : List A). xs ++ r) (each_of f (items_view l))) (sym (drop_more items i v less))
    ∙ all
