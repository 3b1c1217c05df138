-- The names of the nodes stay if a node replaces the one of its name.
use Rattle.std.proofs.Common.{ℕ, ◌≡◌, ◌∙◌, List, true, Option, None, Some, Result, Ok, Err, is_some, ap}
use Rattle.std.specs.Prelude.{OnErr, OnOk}
use Rattle.std.specs.BTreeMap.{is_at}
use Rattle.std.specs.Map.{keys_of}
use Rattle.std.proofs.lemmas.Map.{keys-set_value}
use Rattle.pool_view.specs.declared.stored.Stored.{Stored}
use Rattle.pool_view.specs.Inventory.{Named, put_by, updated, with_named}
use Rattle.pool_view.specs.Known.{AreNames}
use Rattle.pool_view.specs.Names.{at_name, text_cmp}

same_names : {T : Type 0} (nodes table : Named T) (names : Option (List (List ℕ))) → keys_of table ≡ keys_of nodes → AreNames nodes names → AreNames table names
same_names nodes table None keys are = tt
same_names nodes table (Some names) keys are = cc

keys_by : {T : Type 0} (place : ℕ) (name : List ℕ) (x : T) (nodes : Named T) (o : Option (Stored T)) → is_some o ≡ true → keys_of (put_by place name x nodes o) ≡ keys_of nodes
keys_by place name x nodes None there = absurd cc
keys_by place name x nodes (Some old) there = keys-set_value (is_at (text_cmp name)) nodes (updated place x old)

-- whether the node was replaced, or memory ran out
pub names_kept : {T E : Type 0} (place : ℕ) (name : List ℕ) (x : T) (nodes table : Named T) (names : Option (List (List ℕ))) (r : Result Unit E) → is_some (at_name nodes name) ≡ true
    → OnOk r (table ≡ with_named place name x nodes) → OnErr r (table ≡ nodes) → AreNames nodes names → AreNames table names
names_kept place name x nodes table names (Ok u) there ok err are =
    same_names nodes table names (ap (λ (es : Named _). keys_of es) ok ∙ keys_by place name x nodes (at_name nodes name) there) are
names_kept place name x nodes table names (Err e) there ok err are = same_names nodes table names (ap (λ (es : Named _). keys_of es) err) are
