-- What is known of selectors on slices, after one thing more was found.
use Rattle.std.proofs.Common.{ℕ, ◌≡◌, ◌∙◌, List, [], ◌∷◌, ◌++◌, Bool, true, false, cond, Option, None, Some, refl, sym, subst}
use Rattle.std.specs.Prelude.{IfSome, slice_set, get_or}
use Rattle.std.specs.List.{All}
use Rattle.std.specs.BTreeMap.{insert_entry}
use Rattle.std.specs.Ordering.{is_eq}
use Rattle.std.proofs.lemmas.List.Elements.{All-get_or, All-nil, All-push, All-set}
use Rattle.std.proofs.lemmas.Option.{same_Some}
use Rattle.api_slice.specs.declared.types.ResourceSlice.{ResourceSlice}
use Rattle.pool_view.specs.declared.known.KnownList.{KnownList}
use Rattle.pool_view.specs.Inventory.{Named}
use Rattle.pool_view.specs.Known.{AddsList, AddsOnly, AreKnown, IsKnown, IsListOf, is_sure}
use Rattle.pool_view.specs.Names.{at_name, text_cmp}
use Rattle.pool_view.proofs.Found.{at_insert, is_equal}
use Rattle.pool_view.proofs.PoolGroups.{text_same, texts_exact}

none_known : (slices : Named ResourceSlice) → AreKnown slices []
none_known slices = record { each = All-nil (IsKnown slices) }

-- if nothing is kept, all that is kept is so
pub forgotten : (slices : Named ResourceSlice) (known : List KnownList) → known ≡ [] → AreKnown slices known
forgotten slices known is = subst (λ (ks : List KnownList). AreKnown slices ks) (sym is) (none_known slices)

-- what was found on the slice of a name is so
abbrev pub IsFound : Named ResourceSlice → List (List ℕ) → List ℕ → Bool → Type 0
IsFound slices texts name sure = IfSome (at_name slices name) (λ stored. is_sure texts stored.object ≡ sure)

-- what a list says of a name
pub found_in : (slices : Named ResourceSlice) (k : KnownList) (name : List ℕ) (r : Option Bool) → IsKnown slices k → r ≡ at_name k.slices name → IfSome r (λ sure. IsFound slices k.texts name sure)
found_in slices k name None known is = tt
found_in slices k name (Some sure) known is = known.so name sure (sym is)

put_by : (slices : Named ResourceSlice) (k : KnownList) (name q : List ℕ) (sure b t : Bool) → is_eq (text_cmp q name) ≡ t → IsKnown slices k → IsFound slices k.texts name sure
    → cond t (Some sure) (at_name k.slices q) ≡ Some b → IsFound slices k.texts q b
put_by slices k name q sure b true is known found at =
    let same : q ≡ name = text_same q name (is_equal (text_cmp q name) is) in
    subst (λ (n : List ℕ). IsFound slices k.texts n b) (sym same) (subst (λ (s : Bool). IsFound slices k.texts name s) (same_Some sure b at) found)
put_by slices k name q sure b false is known found at = known.so q b at

-- a list with what was found
pub put_known : (slices : Named ResourceSlice) (k : KnownList) (name : List ℕ) (sure : Bool) → IsKnown slices k → IsFound slices k.texts name sure
    → IsKnown slices (record k { slices = insert_entry text_cmp k.slices name sure })
put_known slices k name sure known found =
    record { so = λ q b at. put_by slices k name q sure b (is_eq (text_cmp q name)) refl known found (sym (at_insert text_cmp texts_exact k.slices name q sure) ∙ at) }

empty_known : (slices : Named ResourceSlice) (texts : List (List ℕ)) → IsKnown slices (record { texts = texts; slices = [] })
empty_known slices texts = record { so = λ q b at. absurd cc }

new_known : (slices : Named ResourceSlice) (texts : List (List ℕ)) (name : List ℕ) (sure : Bool) → IsFound slices texts name sure → IsKnown slices (record { texts = texts; slices = (name, sure) ∷ [] })
new_known slices texts name sure found = put_known slices (record { texts = texts; slices = [] }) name sure (empty_known slices texts) found

pub adds_list : (list : KnownList) (old kept : List KnownList) → kept ≡ old ++ list ∷ [] → AddsList list old kept
adds_list list old kept is = record { so = λ slices all one. record { each = subst (λ (ks : List KnownList). All (IsKnown slices) ks) (sym is) (All-push (IsKnown slices) old list all.each one) } }

pub adds_fresh : (list : KnownList) (old kept : List KnownList) → kept ≡ list ∷ [] → AddsList list old kept
adds_fresh list old kept is = record { so = λ slices all one. record { each = subst (λ (ks : List KnownList). All (IsKnown slices) ks) (sym is) (All-push (IsKnown slices) [] list (All-nil (IsKnown slices)) one) } }

pub adds_new : (texts : List (List ℕ)) (name : List ℕ) (sure : Bool) (list : KnownList) (old kept : List KnownList) → list ≡ record { texts = texts; slices = (name, sure) ∷ [] } → AddsList list old kept
    → AddsOnly texts name sure old kept
adds_new texts name sure list old kept is adds =
    record { so = λ slices all found. adds.so slices all (subst (λ (k : KnownList). IsKnown slices k) (sym is) (new_known slices texts name sure found)) }

pub adds_put : (texts : List (List ℕ)) (name : List ℕ) (sure : Bool) (known : List KnownList) (at : ℕ) (old new : KnownList) → IsListOf known texts at → old ≡ get_or known at old
    → new ≡ record old { slices = insert_entry text_cmp old.slices name sure } → AddsOnly texts name sure known (slice_set known at new)
adds_put texts name sure known at old new list there is = record {
  so = λ slices all found.
      let has : old.texts ≡ texts = subst (λ (k : KnownList). k.texts ≡ texts) (sym there) (list.has old) in
      let before : IsKnown slices old = subst (λ (k : KnownList). IsKnown slices k) (sym there) (All-get_or (IsKnown slices) known at old list.within all.each) in
      let after : IsKnown slices new = subst (λ (k : KnownList). IsKnown slices k) (sym is) (put_known slices old name sure before (subst (λ (ts : List (List ℕ)). IsFound slices ts name sure) (sym has) found)) in
      record { each = All-set (IsKnown slices) known at new after all.each };
}
