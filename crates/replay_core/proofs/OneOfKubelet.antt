-- A document asks for at most one command of the kubelet.
use Rattle.std.proofs.Common.{ℕ, ◌+◌, ◌≤◌, ◌≡◌, ◌∙◌, List, [], ◌∷◌, false, cond, Option, None, Some, ap, refl, subst, arith}
use Rattle.std.specs.Prelude.{codes, option_and_then, option_map}
use Rattle.serde_json.specs.Data.{Data, Items, no_items, item}
use Rattle.commands.specs.Commands.{alone, apply_of, before, delete_of, each_of, given_by, given_of, key_of, list_at, list_item, list_item_by, release_of, schedule_of, together}
use Rattle.commands.specs.Documents.{document_of}
use Rattle.commands.specs.Readings.{Asks, asked, json_of, reading, reading_of}
use Rattle.commands.specs.declared.command.Command.{Command}
use Rattle.commands.specs.declared.document.Document.{Document}
use Rattle.commands.specs.declared.document.Document.TheVariants as is
use Rattle.commands.specs.declared.given.Given.{Given}
use Rattle.commands.specs.declared.given.Given.TheVariants as given
use Rattle.replay_core.specs.Forms.{is_of_kubelet, kubelet_count}

some_same : {A : Type 0} (x y : A) → Some x ≡ Some y → x ≡ y
some_same x y e = cc

-- ---- a command by itself

single : (g : Given) → kubelet_count (g ∷ []) ≤ 1
single (given.One command) = omega arith
single (given.Together commands) = omega arith
single (given.Prepare pod) = omega arith
single (given.Unprepare pod) = omega arith
single given.Reopen = omega arith

alone_once : (o : Option Given) (cs : List Given) → alone o ≡ Some cs → kubelet_count cs ≤ 1
alone_once None cs e = absurd (cc e)
alone_once (Some g) cs e = subst (λ (l : List Given). kubelet_count l ≤ 1) (some_same (g ∷ []) cs e) (single g)

-- ---- a list of objects

apart : (c : Command) (g : Given) → Some (given.One c) ≡ Some g → is_of_kubelet g ≡ false
apart c g e = subst (λ (x : Given). is_of_kubelet x ≡ false) (some_same (given.One c) g e) refl

item_apart : (d : Data) (o : Option Document) (g : Given) → list_item_by d o ≡ Some g → is_of_kubelet g ≡ false
item_apart d None g e = absurd (cc e)
item_apart d (Some (is.Object kind)) g e = apart _ g e
item_apart d (Some is.List) g e = absurd (cc e)
item_apart d (Some is.Delete) g e = absurd (cc e)
item_apart d (Some is.Schedule) g e = absurd (cc e)
item_apart d (Some is.Release) g e = absurd (cc e)
item_apart d (Some is.Prepare) g e = absurd (cc e)
item_apart d (Some is.Unprepare) g e = absurd (cc e)
item_apart d (Some is.Reopen) g e = absurd (cc e)
item_apart d (Some is.Together) g e = absurd (cc e)

none_more : (g : Given) (gs : List Given) → is_of_kubelet g ≡ false → kubelet_count gs ≡ 0 → kubelet_count (g ∷ gs) ≡ 0
none_more g gs off none = ap (λ b. cond b 1 0 + kubelet_count gs) off ∙ ap (λ (n : ℕ). 0 + n) none

before_none : (x : Option Given) (xs : Option (List Given)) (cs : List Given) → ((g : Given) → x ≡ Some g → is_of_kubelet g ≡ false) → ((gs : List Given) → xs ≡ Some gs → kubelet_count gs ≡ 0)
    → before x xs ≡ Some cs → kubelet_count cs ≡ 0
before_none None xs cs off none e = absurd (cc e)
before_none (Some g) None cs off none e = absurd (cc e)
before_none (Some g) (Some gs) cs off none e =
    subst (λ (l : List Given). kubelet_count l ≡ 0) (some_same (g ∷ gs) cs e) (none_more g gs (off g refl) (none gs refl))

items_none : (ds : Items) (cs : List Given) → each_of list_item ds ≡ Some cs → kubelet_count cs ≡ 0
items_none no_items cs e = subst (λ (l : List Given). kubelet_count l ≡ 0) (some_same [] cs e) refl
items_none (item d ds) cs e =
    before_none (list_item d) (each_of list_item ds) cs (λ g is_g. item_apart d (document_of d) g is_g) (λ gs are. items_none ds gs are) e

listed_by : (o : Option Items) (cs : List Given) → option_and_then (each_of list_item) o ≡ Some cs → kubelet_count cs ≤ 1
listed_by None cs e = absurd (cc e)
listed_by (Some ds) cs e = omega (arith, items_none ds cs e)

-- ---- a document

of_kind : (attempts : ℕ) (d : Data) (o : Option Document) (cs : List Given) → option_and_then (given_by attempts d) o ≡ Some cs → kubelet_count cs ≤ 1
of_kind attempts d None cs e = absurd (cc e)
of_kind attempts d (Some (is.Object kind)) cs e = alone_once (Some (given.One (apply_of kind d))) cs e
of_kind attempts d (Some is.List) cs e = listed_by (list_at (codes "items") d) cs e
of_kind attempts d (Some is.Delete) cs e = alone_once (option_map given.One (delete_of d)) cs e
of_kind attempts d (Some is.Schedule) cs e = alone_once (option_map given.One (schedule_of attempts d)) cs e
of_kind attempts d (Some is.Release) cs e = alone_once (option_map given.One (release_of d)) cs e
of_kind attempts d (Some is.Prepare) cs e = alone_once (option_map given.Prepare (key_of d)) cs e
of_kind attempts d (Some is.Unprepare) cs e = alone_once (option_map given.Unprepare (key_of d)) cs e
of_kind attempts d (Some is.Reopen) cs e = alone_once (Some given.Reopen) cs e
of_kind attempts d (Some is.Together) cs e = alone_once (together attempts d) cs e

asks_some : (o : Option (List Given)) (cs : List Given) → asked o ≡ Asks cs → o ≡ Some cs
asks_some None cs e = absurd (cc e)
asks_some (Some gs) cs e = ap Some (same gs cs e)
  where
    same : (xs ys : List Given) → Asks xs ≡ Asks ys → xs ≡ ys
    same xs ys is_same = cc

value_once : (attempts : ℕ) (o : Option Data) (cs : List Given) → reading_of attempts o ≡ Asks cs → kubelet_count cs ≤ 1
value_once attempts None cs e = absurd (cc e)
value_once attempts (Some d) cs e = of_kind attempts d (document_of d) cs (asks_some (given_of attempts d) cs e)

pub asks_once : (attempts : ℕ) (bytes : List ℕ) (cs : List Given) → reading attempts bytes ≡ Asks cs → kubelet_count cs ≤ 1
unfolding reading
asks_once attempts bytes cs e = value_once attempts (json_of bytes) cs e
