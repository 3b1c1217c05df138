-- Each slice is at its own name, after each insertion and removal.
use Rattle.std.proofs.Common.{ℕ, ◌≡◌, ◌∙◌, List, [], ◌∷◌, Bool, true, false, Option, None, Some, refl, sym}
use Rattle.std.specs.Cmp.Lexicographic.{same_text, texts_ties}
use Rattle.std.specs.Map.{remove_entry, set_value}
use Rattle.std.specs.Ordering.{is_eq}
use Rattle.std.specs.declared.cmp.Ordering.{Ordering}
use Rattle.std.specs.declared.cmp.Ordering.TheVariants.{Less, Equal, Greater}
use Rattle.std.specs.BTreeMap.{insert_entry, is_at}
use Rattle.api_slice.specs.declared.types.ResourceSlice.{ResourceSlice}
use Rattle.pool_view.specs.declared.stored.Stored.{Stored}
use Rattle.pool_view.specs.Inventory.{AtOwnNames, Named, created, put_by, updated, with_named, without_named}
use Rattle.pool_view.specs.Names.{at_name, text_cmp}

same_name : (a b : List ℕ) → is_eq (text_cmp a b) ≡ true → a ≡ b
same_name a b e = same_text a b (sym (texts_ties a b ∙ e))

removed_by : (test : List ℕ → Bool) (b : Bool) (e : List ℕ × Stored ResourceSlice) (es : Named ResourceSlice) → test e.0 ≡ b → AtOwnNames (e ∷ es) → AtOwnNames (remove_entry test es)
    → AtOwnNames (remove_entry test (e ∷ es))
removed_by test true e es is all later = rw (is) (all.1)
removed_by test false e es is all later = rw (is) ((all.0, later))

removed : (test : List ℕ → Bool) (es : Named ResourceSlice) → AtOwnNames es → AtOwnNames (remove_entry test es)
removed test [] all = tt
removed test (e ∷ es) all = removed_by test (test e.0) e es refl all (removed test es all.1)

pub named_without : (name : List ℕ) (slices : Named ResourceSlice) → AtOwnNames slices → AtOwnNames (without_named name slices)
named_without name slices all = removed (is_at (text_cmp name)) slices all

set_by : (name : List ℕ) (b : Bool) (e : List ℕ × Stored ResourceSlice) (es : Named ResourceSlice) (w : Stored ResourceSlice) → is_eq (text_cmp name e.0) ≡ b → name ≡ w.object.name → AtOwnNames (e ∷ es)
    → AtOwnNames (set_value (is_at (text_cmp name)) es w) → AtOwnNames (set_value (is_at (text_cmp name)) (e ∷ es) w)
set_by name true e es w is own all later = rw (is) ((sym (same_name name e.0 is) ∙ own, all.1))
set_by name false e es w is own all later = rw (is) ((all.0, later))

set : (name : List ℕ) (es : Named ResourceSlice) (w : Stored ResourceSlice) → name ≡ w.object.name → AtOwnNames es → AtOwnNames (set_value (is_at (text_cmp name)) es w)
set name [] w own all = tt
set name (e ∷ es) w own all = set_by name (is_eq (text_cmp name e.0)) e es w refl own all (set name es w own all.1)

new_by : (o : Ordering) (name : List ℕ) (e : List ℕ × Stored ResourceSlice) (es : Named ResourceSlice) (w : Stored ResourceSlice) → text_cmp name e.0 ≡ o → name ≡ w.object.name → AtOwnNames (e ∷ es)
    → AtOwnNames (insert_entry text_cmp es name w) → AtOwnNames (insert_entry text_cmp (e ∷ es) name w)
new_by Less name e es w is own all later = rw (is) ((own, all))
new_by Equal name e es w is own all later =
    let same : is_eq (text_cmp name e.0) ≡ true = rw (is) refl in
    rw (is) ((sym (same_name name e.0 same) ∙ own, all.1))
new_by Greater name e es w is own all later = rw (is) ((all.0, later))

new : (name : List ℕ) (es : Named ResourceSlice) (w : Stored ResourceSlice) → name ≡ w.object.name → AtOwnNames es → AtOwnNames (insert_entry text_cmp es name w)
new name [] w own all = (own, tt)
new name (e ∷ es) w own all = new_by (text_cmp name e.0) name e es w refl own all (new name es w own all.1)

put : (place : ℕ) (x : ResourceSlice) (slices : Named ResourceSlice) (o : Option (Stored ResourceSlice)) → AtOwnNames slices → AtOwnNames (put_by place x.name x slices o)
put place x slices None all = new x.name slices (created place x) refl all
put place x slices (Some old) all = set x.name slices (updated place x old) refl all

pub named_with : (place : ℕ) (x : ResourceSlice) (slices : Named ResourceSlice) → AtOwnNames slices → AtOwnNames (with_named place x.name x slices)
named_with place x slices all = put place x slices (at_name slices x.name) all
