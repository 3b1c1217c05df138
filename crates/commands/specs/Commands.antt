-- Which values are commands, and which commands each is. Objects are those of
-- `resource.k8s.io/v1` and `v1` of the Kubernetes API reference; the commands of `dra.replay/v1`
-- are this project's own.
use Rattle.std.specs.Prelude.{ℕ, nat_le, ◌&&◌, List, [], ◌∷◌, codes, Option, Some, None, Result, Ok, Err, option_map, option_and_then, if◌then◌else◌}
use Rattle.serde_json.specs.Data.{Data, Items, no_items, item}
use Rattle.serde_json.specs.Find.{get, as_str, as_array}
use Rattle.object_fields.specs.Fields.{items_length, member_of}
use Rattle.object_fields.specs.declared.error.FieldError.{FieldError}
use Rattle.object_fields.specs.declared.key.Key.{Key}
use Rattle.cluster.specs.declared.entry.Mode.TheVariants as mode
use Rattle.cluster.specs.declared.object.Object.{Object}
use Rattle.commands.specs.Documents.{document_of, object_kinds, row_of, text_at}
use Rattle.commands.specs.Objects.{ready_object}
use Rattle.cluster.specs.declared.object.Target.{Target}
use Rattle.cluster.specs.declared.object.Target.TheVariants as target
use Rattle.commands.specs.declared.document.ObjectKind.{ObjectKind}
use Rattle.commands.specs.declared.document.ObjectKind.TheVariants as kind
use Rattle.commands.specs.declared.document.Document.{Document}
use Rattle.commands.specs.declared.document.Document.TheVariants as is
use Rattle.commands.specs.declared.command.Command.{Command}
use Rattle.commands.specs.declared.command.Command.TheVariants.{Apply, Invalid, Delete, Schedule, Release}
use Rattle.commands.specs.declared.given.Given.{Given}
use Rattle.commands.specs.declared.given.Given.TheVariants.{One, Together, Prepare, Unprepare, Reopen}

-- ---- namespace and name

-- `default` if there is none, else it is a text
abbrev pub namespace_in : Option Data → Option (List ℕ)
namespace_in None = Some (codes "default")
namespace_in (Some v) = as_str v

abbrev pub namespace_of : Data → Option (List ℕ)
namespace_of d = namespace_in (member_of (codes "namespace") d)

-- `namespace` and `name` of a command
abbrev pub key_of : Data → Option Key
key_of d =
    option_and_then (λ namespace. option_map (λ name. record { namespace = namespace; name = name }) (text_at (codes "name") d)) (namespace_of d)

-- ---- the object of a Delete

-- the kind of object that a Delete names
abbrev pub kind_at : Data → Option ObjectKind
kind_at d = option_and_then (λ name. row_of name object_kinds) (text_at (codes "target") d)

-- the object of that kind and key; where objects of the kind have no namespace it isn't looked at
abbrev pub target_by : ObjectKind → Key → Target
target_by kind.ResourceSlice key = target.Slice key.name
target_by kind.DeviceClass key = target.Class key.name
target_by kind.ResourceClaim key = target.Claim key
target_by kind.Node key = target.Node key.name
target_by kind.Pod key = target.Pod key

-- the object that a Delete names
abbrev pub target_of : Data → Option Target
target_of d = option_and_then (λ k. option_map (target_by k) (key_of d)) (kind_at d)

-- ---- the members of lists

abbrev pub list_at : List ℕ → Data → Option Items
list_at name d = option_and_then as_array (get name d)

-- one before others, if all of them are there
abbrev pub before : {A : Type 0} → Option A → Option (List A) → Option (List A)
before x xs = option_and_then (λ first. option_map (λ rest. first ∷ rest) xs) x

-- what each of the items is, in order, if each is something
abbrev pub each_of : {A : Type 0} → (Data → Option A) → Items → Option (List A)
each_of f no_items = Some []
each_of f (item d ds) = before (f d) (each_of f ds)

-- ---- the commands

-- An object that reads, and whose selectors compile, is applied; another is a command too, with the
-- first error.
abbrev pub applied : Result Object FieldError → Command
applied (Ok object) = Apply object mode.Apply
applied (Err e) = Invalid e

abbrev pub apply_of : ObjectKind → Data → Command
apply_of kind d = applied (ready_object kind d)

abbrev pub delete_of : Data → Option Command
delete_of d = option_map Delete (target_of d)

abbrev pub schedule_of : ℕ → Data → Option Command
schedule_of attempts d = option_map (λ pod. Schedule pod attempts) (key_of d)

abbrev pub release_of : Data → Option Command
release_of d = option_map Release (key_of d)

-- ---- a List

-- the command that applies the object that a document is, whatever its fields; another applies none
abbrev pub list_item_by : Data → Option Document → Option Given
list_item_by d None = None
list_item_by d (Some (is.Object kind)) = Some (One (apply_of kind d))
list_item_by d (Some is.List) = None
list_item_by d (Some is.Delete) = None
list_item_by d (Some is.Schedule) = None
list_item_by d (Some is.Release) = None
list_item_by d (Some is.Prepare) = None
list_item_by d (Some is.Unprepare) = None
list_item_by d (Some is.Reopen) = None
list_item_by d (Some is.Together) = None

abbrev pub list_item : Data → Option Given
list_item d = list_item_by d (document_of d)

-- `items` is a list of objects, which may be empty
abbrev pub listed : Data → Option (List Given)
listed d = option_and_then (each_of list_item) (list_at (codes "items") d)

-- ---- a Together

-- the command of a document of this kind, if it may be a member of a Together and its fields read
abbrev pub member_by : ℕ → Data → Option Document → Option Command
member_by attempts d None = None
member_by attempts d (Some (is.Object kind)) = Some (apply_of kind d)
member_by attempts d (Some is.List) = None
member_by attempts d (Some is.Delete) = delete_of d
member_by attempts d (Some is.Schedule) = schedule_of attempts d
member_by attempts d (Some is.Release) = release_of d
member_by attempts d (Some is.Prepare) = None
member_by attempts d (Some is.Unprepare) = None
member_by attempts d (Some is.Reopen) = None
member_by attempts d (Some is.Together) = None

abbrev pub member : ℕ → Data → Option Command
member attempts d = member_by attempts d (document_of d)

abbrev pub together_most : ℕ
together_most = 256

-- 1 to 256 members
abbrev pub together_of : ℕ → Items → Option (List Command)
together_of attempts ds = if nat_le 1 (items_length ds) && nat_le (items_length ds) together_most then each_of (member attempts) ds else None

-- `commands` is a list of 1 to 256 members
abbrev pub together : ℕ → Data → Option Given
together attempts d = option_map Together (option_and_then (together_of attempts) (list_at (codes "commands") d))

-- ---- what a document asks for

-- by itself
abbrev pub alone : Option Given → Option (List Given)
alone g = option_map (λ only. only ∷ []) g

-- a document of this kind, where a Schedule makes at most so many attempts
abbrev pub given_by : ℕ → Data → Document → Option (List Given)
given_by attempts d (is.Object kind) = alone (Some (One (apply_of kind d)))
given_by attempts d is.List = listed d
given_by attempts d is.Delete = alone (option_map One (delete_of d))
given_by attempts d is.Schedule = alone (option_map One (schedule_of attempts d))
given_by attempts d is.Release = alone (option_map One (release_of d))
given_by attempts d is.Prepare = alone (option_map Prepare (key_of d))
given_by attempts d is.Unprepare = alone (option_map Unprepare (key_of d))
given_by attempts d is.Reopen = alone (Some Reopen)
given_by attempts d is.Together = alone (together attempts d)

abbrev pub given_of : ℕ → Data → Option (List Given)
given_of attempts d = option_and_then (given_by attempts d) (document_of d)
