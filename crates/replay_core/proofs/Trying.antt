-- What a document asks for may be tried.
use Rattle.std.proofs.Common.{ℕ, ◌+◌, ◌<◌, ◌≤◌, ◌≡◌, List, Bool, true, false, cond, length, arith, refl, subst}
use Rattle.std.proofs.lemmas.Bool.{and_parts}
use Rattle.std.specs.Prelude.{◌&&◌, Option, None, Some, Result, Ok, Err, IfSome, codes, nat_le, option_map, option_and_then}
use Rattle.serde_json.specs.Data.{Data, Items, no_items, item}
use Rattle.object_fields.specs.declared.error.FieldError.{FieldError}
use Rattle.object_fields.specs.declared.key.Key.{Key}
use Rattle.object_fields.specs.Fields.{items_length}
use Rattle.cluster.specs.declared.object.Object.{Object}
use Rattle.cluster.specs.declared.object.Target.{Target}
use Rattle.commands.specs.declared.command.Command.{Command}
use Rattle.commands.specs.declared.command.Command.TheVariants.{Delete, Schedule, Release}
use Rattle.commands.specs.declared.document.Document.{Document}
use Rattle.commands.specs.declared.document.Document.TheVariants as is
use Rattle.commands.specs.declared.given.Given.{Given}
use Rattle.commands.specs.declared.given.Given.TheVariants.{One, Together, Prepare, Unprepare}
use Rattle.commands.specs.Commands.{alone, applied, before, delete_of, each_of, given_by, given_of, key_of, list_at, list_item, list_item_by, member, member_by, release_of, schedule_of, target_of, together, together_most, together_of}
use Rattle.commands.specs.Documents.{document_of}
use Rattle.commands.specs.Objects.{ready_object}
use Rattle.commands.specs.Readings.{Reading, asked, json_of, reading, reading_of}
use Rattle.commands.specs.Readings as readings
use Rattle.histories.specs.JobRuns.{attempts_of}
use Rattle.replay_core.specs.Attempts.{AllMayTry, AllTry, MayTry}

-- each of the commands may be tried, if there are any
abbrev AskedMayTry : Reading → Type 0
AskedMayTry (readings.Asks given) = AllMayTry given
AskedMayTry readings.NotJson = Unit {0}
AskedMayTry readings.NotACommand = Unit {0}

one_may_try : (c : Command) → 0 < attempts_of c → MayTry (One c)
one_may_try c some = ((some, tt), omega arith)

applied_tries : (r : Result Object FieldError) → 0 < attempts_of (applied r)
applied_tries (Ok object) = omega arith
applied_tries (Err e) = omega arith

applied_may_try : (r : Result Object FieldError) → MayTry (One (applied r))
applied_may_try r = one_may_try (applied r) (applied_tries r)

-- the command has at least one attempt, if there is one
abbrev Tries : Option Command → Type 0
Tries o = IfSome o (λ c. 0 < attempts_of c)

deletes_try : (o : Option Target) → Tries (option_map Delete o)
deletes_try None = tt
deletes_try (Some target) = omega arith

schedules_try : (attempts : ℕ) (o : Option Key) → 0 < attempts → Tries (option_map (λ pod. Schedule pod attempts) o)
schedules_try attempts None some = tt
schedules_try attempts (Some pod) some = some

releases_try : (o : Option Key) → Tries (option_map Release o)
releases_try None = tt
releases_try (Some pod) = omega arith

one_by : (o : Option Command) → Tries o → IfSome (option_map One o) MayTry
one_by None try = tt
one_by (Some c) try = one_may_try c try

prepares_may_try : (o : Option Key) → IfSome (option_map Prepare o) MayTry
prepares_may_try None = tt
prepares_may_try (Some pod) = (tt, omega arith)

unprepares_may_try : (o : Option Key) → IfSome (option_map Unprepare o) MayTry
unprepares_may_try None = tt
unprepares_may_try (Some pod) = (tt, omega arith)

-- ---- a Together

member_tries : (attempts : ℕ) (d : Data) (k : Option Document) → 0 < attempts → Tries (member_by attempts d k)
member_tries attempts d None some = tt
member_tries attempts d (Some (is.Object kind)) some = applied_tries (ready_object kind d)
member_tries attempts d (Some is.List) some = tt
member_tries attempts d (Some is.Delete) some = deletes_try (target_of d)
member_tries attempts d (Some is.Schedule) some = schedules_try attempts (key_of d) some
member_tries attempts d (Some is.Release) some = releases_try (key_of d)
member_tries attempts d (Some is.Prepare) some = tt
member_tries attempts d (Some is.Unprepare) some = tt
member_tries attempts d (Some is.Reopen) some = tt
member_tries attempts d (Some is.Together) some = tt

-- so many commands, each of which has at least one attempt
abbrev SomeTry : ℕ → List Command → Type 0
SomeTry n cs = AllTry cs × (length cs ≡ n)

before_tries : (o : Option Command) (os : Option (List Command)) (n : ℕ) → Tries o → IfSome os (SomeTry n) → IfSome (before o os) (SomeTry (n + 1))
before_tries None os n first rest = tt
before_tries (Some c) None n first rest = tt
before_tries (Some c) (Some cs) n first rest = ((first, rest.0), omega (arith, rest.1))

members_try : (attempts : ℕ) (ds : Items) → 0 < attempts → IfSome (each_of (member attempts) ds) (SomeTry (items_length ds))
members_try attempts no_items some = (tt, refl)
members_try attempts (item d ds) some = before_tries (member attempts d) (each_of (member attempts) ds) (items_length ds) (member_tries attempts d (document_of d) some) (members_try attempts ds some)

most_by : (o : Option (List Command)) (n : ℕ) → n ≤ together_most → IfSome o (SomeTry n) → IfSome (option_map Together o) MayTry
most_by None n most try = tt
most_by (Some cs) n most try = (try.0, omega (arith, most, try.1))

if_may_try : (t : Bool) (o : Option (List Command)) → (t ≡ true → IfSome (option_map Together o) MayTry) → IfSome (option_map Together (cond t o None)) MayTry
if_may_try true o may = may refl
if_may_try false o may = tt

at_most : (n most : ℕ) → nat_le n most ≡ true → n ≤ most
at_most n most e = grind (arith, e)

items_may_try : (attempts : ℕ) (ds : Items) → 0 < attempts → IfSome (option_map Together (together_of attempts ds)) MayTry
items_may_try attempts ds some =
    if_may_try (nat_le 1 (items_length ds) && nat_le (items_length ds) together_most) (each_of (member attempts) ds)
    (λ within. most_by (each_of (member attempts) ds) (items_length ds) (at_most (items_length ds) together_most (and_parts _ _ within).1) (members_try attempts ds some))

together_may_try : (attempts : ℕ) (o : Option Items) → 0 < attempts → IfSome (option_map Together (option_and_then (together_of attempts) o)) MayTry
together_may_try attempts None some = tt
together_may_try attempts (Some ds) some = items_may_try attempts ds some

alone_may_try : (o : Option Given) → IfSome o MayTry → IfSome (alone o) AllMayTry
alone_may_try None may = tt
alone_may_try (Some g) may = (may, tt)

item_may_try : (d : Data) (k : Option Document) → IfSome (list_item_by d k) MayTry
item_may_try d None = tt
item_may_try d (Some (is.Object kind)) = applied_may_try (ready_object kind d)
item_may_try d (Some is.List) = tt
item_may_try d (Some is.Delete) = tt
item_may_try d (Some is.Schedule) = tt
item_may_try d (Some is.Release) = tt
item_may_try d (Some is.Prepare) = tt
item_may_try d (Some is.Unprepare) = tt
item_may_try d (Some is.Reopen) = tt
item_may_try d (Some is.Together) = tt

before_may_try : (o : Option Given) (os : Option (List Given)) → IfSome o MayTry → IfSome os AllMayTry → IfSome (before o os) AllMayTry
before_may_try None os first rest = tt
before_may_try (Some g) None first rest = tt
before_may_try (Some g) (Some gs) first rest = (first, rest)

each_may_try : (ds : Items) → IfSome (each_of list_item ds) AllMayTry
each_may_try no_items = tt
each_may_try (item d ds) = before_may_try (list_item d) (each_of list_item ds) (item_may_try d (document_of d)) (each_may_try ds)

list_may_try : (o : Option Items) → IfSome (option_and_then (each_of list_item) o) AllMayTry
list_may_try None = tt
list_may_try (Some ds) = each_may_try ds

given_may_try : (attempts : ℕ) (d : Data) (k : Document) → 0 < attempts → IfSome (given_by attempts d k) AllMayTry
given_may_try attempts d (is.Object kind) some = (applied_may_try (ready_object kind d), tt)
given_may_try attempts d is.List some = list_may_try (list_at (codes "items") d)
given_may_try attempts d is.Delete some = alone_may_try (option_map One (delete_of d)) (one_by (delete_of d) (deletes_try (target_of d)))
given_may_try attempts d is.Schedule some = alone_may_try (option_map One (schedule_of attempts d)) (one_by (schedule_of attempts d) (schedules_try attempts (key_of d) some))
given_may_try attempts d is.Release some = alone_may_try (option_map One (release_of d)) (one_by (release_of d) (releases_try (key_of d)))
given_may_try attempts d is.Prepare some = alone_may_try (option_map Prepare (key_of d)) (prepares_may_try (key_of d))
given_may_try attempts d is.Unprepare some = alone_may_try (option_map Unprepare (key_of d)) (unprepares_may_try (key_of d))
given_may_try attempts d is.Reopen some = ((tt, omega arith), tt)
given_may_try attempts d is.Together some = alone_may_try (together attempts d) (together_may_try attempts (list_at (codes "commands") d) some)

kind_may_try : (attempts : ℕ) (d : Data) (o : Option Document) → 0 < attempts → IfSome (option_and_then (given_by attempts d) o) AllMayTry
kind_may_try attempts d None some = tt
kind_may_try attempts d (Some k) some = given_may_try attempts d k some

asked_may_try : (o : Option (List Given)) → IfSome o AllMayTry → AskedMayTry (asked o)
asked_may_try None may = tt
asked_may_try (Some gs) may = may

value_may_try : (attempts : ℕ) (o : Option Data) → 0 < attempts → AskedMayTry (reading_of attempts o)
value_may_try attempts None some = tt
value_may_try attempts (Some d) some = asked_may_try (given_of attempts d) (kind_may_try attempts d (document_of d) some)

reading_may_try : (attempts : ℕ) (bytes : List ℕ) → 0 < attempts → AskedMayTry (reading attempts bytes)
unfolding reading
reading_may_try attempts bytes some = value_may_try attempts (json_of bytes) some

-- what a document asks for, where a Schedule makes at least one attempt
pub document_may_try : (attempts : ℕ) (bytes : List ℕ) (gs : List Given) → 0 < attempts → reading attempts bytes ≡ readings.Asks gs → AllMayTry gs
document_may_try attempts bytes gs some is = subst AskedMayTry is (reading_may_try attempts bytes some)
