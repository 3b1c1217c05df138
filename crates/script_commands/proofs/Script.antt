-- Each document of a script asks for one command.
use Rattle.std.proofs.Common.{ℕ, zero, suc, ◌≡◌, ◌∙◌, ◌<◌, ◌≤◌, ◌+◌, ◌-◌, ◌*◌, ◌^◌, length, length-append, ◌++◌, List, [], ◌∷◌, Bool, true, false, Some, if◌then◌else◌, map, refl, ap, ap₂, arith}
use Rattle.std.specs.List.{flat_map, range_with_len}
use Rattle.std.specs.Prelude.{codes}
use Rattle.doc_split.specs.Documents.{documents_from}
use Rattle.doc_split.specs.Limits.{documents_at, the_limits}
use Rattle.script_gen.specs.Laid.{laid_out}
use Rattle.serde_json.specs.Data.{Members, object}
use Rattle.commands.specs.Commands.{apply_of, given_of}
use Rattle.commands.specs.Readings.{asked, reading, reading_of}
use Rattle.commands.specs.declared.command.Command.{Command}
use Rattle.commands.specs.declared.command.Command.TheVariants.{Release, Schedule}
use Rattle.commands.specs.declared.document.ObjectKind.TheVariants as kind
use Rattle.commands.specs.declared.given.Given.TheVariants.{One}
use Rattle.script_gen.specs.Documents.{class_document, claim_document, node_document, pod_document, release_document, schedule_document, slice_document}
use Rattle.script_gen.specs.Generator.{next_number}
use Rattle.script_gen.specs.Script.{cluster_documents, device_count, documents_of, lines_of, number_before, pod_documents, release_documents, released_one, releases_one, script_of}
use Rattle.script_commands.specs.Commands.{asked_alone, cluster_commands, commands_of, pod_commands, pod_key, release_commands}
use Rattle.script_commands.specs.Values.{claim_value, class_value, node_value, pod_value, slice_value}
use Rattle.script_commands.proofs.Texts.{Printed, json_of_printed}
use Rattle.script_commands.proofs.Documents.{class_printed, claim_printed, node_printed, pod_printed, release_printed, schedule_printed, slice_printed}

-- the text asks for the command alone, and is short
record Asking (attempts : ℕ) (bytes : List ℕ) (c : Command) : Type 0 where
  pub asks : reading attempts bytes ≡ asked_alone c
  pub few : length bytes ≤ 700

asking : (attempts : ℕ) (bytes : List ℕ) (ms : Members) (c : Command) → Printed bytes (object ms) → given_of attempts (object ms) ≡ Some (One c ∷ []) → Asking attempts bytes c
unfolding reading
asking attempts bytes ms c p given = record { asks = ap (reading_of attempts) (json_of_printed bytes ms p) ∙ ap asked given; few = p.few }

node_asks : (attempts i : ℕ) → i < 2 ^ 64 → Asking attempts (node_document i) (apply_of kind.Node (node_value i))
node_asks attempts i small = asking attempts (node_document i) _ (apply_of kind.Node (node_value i)) (node_printed i small) refl

class_asks : (attempts : ℕ) → Asking attempts class_document (apply_of kind.DeviceClass class_value)
class_asks attempts = asking attempts class_document _ (apply_of kind.DeviceClass class_value) class_printed refl

slice_asks : (attempts i : ℕ) → i < 2 ^ 64 → Asking attempts (slice_document i) (apply_of kind.ResourceSlice (slice_value i))
slice_asks attempts i small = asking attempts (slice_document i) _ (apply_of kind.ResourceSlice (slice_value i)) (slice_printed i small) refl

claim_asks : (attempts i n : ℕ) → i < 2 ^ 64 → n < 2 ^ 64 → Asking attempts (claim_document i n) (apply_of kind.ResourceClaim (claim_value i n))
claim_asks attempts i n small few = asking attempts (claim_document i n) _ (apply_of kind.ResourceClaim (claim_value i n)) (claim_printed i n small few) refl

pod_asks : (attempts i : ℕ) → i < 2 ^ 64 → Asking attempts (pod_document i) (apply_of kind.Pod (pod_value i))
pod_asks attempts i small = asking attempts (pod_document i) _ (apply_of kind.Pod (pod_value i)) (pod_printed i small) refl

schedule_asks : (attempts i : ℕ) → i < 2 ^ 64 → Asking attempts (schedule_document i) (Schedule (pod_key i) attempts)
schedule_asks attempts i small = asking attempts (schedule_document i) _ (Schedule (pod_key i) attempts) (schedule_printed i small) refl

release_asks : (attempts i : ℕ) → i < 2 ^ 64 → Asking attempts (release_document i) (Release (pod_key i))
release_asks attempts i small = asking attempts (release_document i) _ (Release (pod_key i)) (release_printed i small) refl

-- ---- the documents in order

-- each of the texts asks for the command beside it
abbrev AllAsk : ℕ → List (List ℕ) → List Command → Type 0
AllAsk attempts [] [] = Unit {0}
AllAsk attempts [] (c ∷ cs) = ⊥
AllAsk attempts (text ∷ texts) [] = ⊥
AllAsk attempts (text ∷ texts) (c ∷ cs) = Asking attempts text c × AllAsk attempts texts cs

join : (attempts : ℕ) (xs ys : List (List ℕ)) (cs ds : List Command) → AllAsk attempts xs cs → AllAsk attempts ys ds → AllAsk attempts (xs ++ ys) (cs ++ ds)
join attempts [] ys [] ds front back = back
join attempts [] ys (c ∷ cs) ds front back = absurd front
join attempts (x ∷ xs) ys [] ds front back = absurd front
join attempts (x ∷ xs) ys (c ∷ cs) ds front back = (front.0, join attempts xs ys cs ds front.1 back)

readings_are : (attempts : ℕ) (xs : List (List ℕ)) (cs : List Command) → AllAsk attempts xs cs → map (reading attempts) xs ≡ map asked_alone cs
readings_are attempts [] [] all = refl
readings_are attempts [] (c ∷ cs) all = absurd all
readings_are attempts (x ∷ xs) [] all = absurd all
readings_are attempts (x ∷ xs) (c ∷ cs) all = ap₂ (λ r rs. r ∷ rs) all.0.asks (readings_are attempts xs cs all.1)

-- the lines of short texts
lines_few : (attempts : ℕ) (xs : List (List ℕ)) (cs : List Command) → AllAsk attempts xs cs → length (lines_of xs) ≤ 701 * length xs
lines_few attempts [] [] all = omega arith
lines_few attempts [] (c ∷ cs) all = absurd all
lines_few attempts (x ∷ xs) [] all = absurd all
lines_few attempts (x ∷ xs) (c ∷ cs) all =
    omega (arith, all.0.few, lines_few attempts xs cs all.1, length-append (x ++ codes "\n") (lines_of xs), length-append x (codes "\n"))

cluster_asks : (attempts : ℕ) → AllAsk attempts cluster_documents cluster_commands
unfolding cluster_documents
cluster_asks attempts = (
  node_asks attempts 0 (omega arith),
  (
    node_asks attempts 1 (omega arith),
    (
      node_asks attempts 2 (omega arith),
      (
        node_asks attempts 3 (omega arith),
        (
          class_asks attempts,
          (
            slice_asks attempts 0 (omega arith),
            (slice_asks attempts 1 (omega arith), (slice_asks attempts 2 (omega arith), (slice_asks attempts 3 (omega arith), tt))),
          ),
        ),
      ),
    ),
  ),
)

-- the pod that a Release is of is an earlier one
abbrev pub Earlier : Type 0
Earlier = (x i : ℕ) → releases_one x i ≡ true → released_one x i < i

release_by : (attempts : ℕ) (b : Bool) (n : ℕ) → (b ≡ true → n < 2 ^ 64) → AllAsk attempts (if b then release_document n ∷ [] else []) (if b then Release (pod_key n) ∷ [] else [])
release_by attempts true n small = (release_asks attempts n (small refl), tt)
release_by attempts false n small = tt

releases_ask : Earlier → (attempts x i : ℕ) → i < 2 ^ 64 → AllAsk attempts (release_documents x i) (release_commands x i)
releases_ask earlier attempts x i small = release_by attempts (releases_one x i) (released_one x i) (λ is. omega (arith, earlier x i is, small))

pod_all : Earlier → (attempts x i : ℕ) → i < 2 ^ 64 → AllAsk attempts (pod_documents x i) (pod_commands attempts x i)
pod_all earlier attempts x i small = (
  claim_asks attempts i (device_count x) small (omega arith),
  (pod_asks attempts i small, (schedule_asks attempts i small, releases_ask earlier attempts (next_number x) i small)),
)

pods_all : Earlier → (attempts from first n : ℕ) → first + n < 2 ^ 64
    → AllAsk attempts (flat_map (λ i. pod_documents (number_before from i) i) (range_with_len first n)) (flat_map (λ i. pod_commands attempts (number_before from i) i) (range_with_len first n))
pods_all earlier attempts from first zero small = tt
pods_all earlier attempts from first (suc n) small =
    join attempts (pod_documents (number_before from first) first) _ (pod_commands attempts (number_before from first) first) _
    (pod_all earlier attempts (number_before from first) first (omega (arith, small))) (pods_all earlier attempts from (first + 1) n (omega (arith, small)))

all_ask : Earlier → (attempts from pods : ℕ) → pods < 2 ^ 64 → AllAsk attempts (documents_of from pods) (commands_of attempts from pods)
unfolding documents_of commands_of
all_ask earlier attempts from pods small = join attempts cluster_documents _ cluster_commands _ (cluster_asks attempts) (pods_all earlier attempts from 0 pods (omega (arith, small)))

pub script_asks : Earlier → (attempts from pods : ℕ) → pods < 2 ^ 64 → map (reading attempts) (documents_of from pods) ≡ map asked_alone (commands_of attempts from pods)
script_asks earlier attempts from pods small = readings_are attempts (documents_of from pods) (commands_of attempts from pods) (all_ask earlier attempts from pods small)

-- a script has at most nine documents and four for each pod
abbrev pub FewDocuments : Type 0
FewDocuments = (from pods : ℕ) → length (documents_of from pods) ≤ 9 + 4 * pods

pub script_few : Earlier → FewDocuments → (from pods : ℕ) → pods ≤ 100000 → length (script_of from pods) < 2 ^ 30
unfolding script_of
script_few earlier counted from pods few =
    let small : pods < 2 ^ 64 = omega (arith, few) in
    omega (arith, few, counted from pods, lines_few 1 (documents_of from pods) (commands_of 1 from pods) (all_ask earlier 1 from pods small))

abbrev pub Within : Type 0
Within = (at : ℕ) (bytes : List ℕ) → length bytes ≤ the_limits.input - at → documents_at the_limits at bytes ≡ documents_from the_limits.document 0 at bytes

abbrev pub Lies : Type 0
Lies = (from pods : ℕ) → pods < 2 ^ 64 → documents_from the_limits.document 0 0 (script_of from pods) ≡ laid_out 0 (documents_of from pods)

pub script_split : Earlier → FewDocuments → Within → Lies → (from pods : ℕ) → pods ≤ 100000 → documents_at the_limits 0 (script_of from pods) ≡ laid_out 0 (documents_of from pods)
script_split earlier counted within lies from pods few =
    within 0 (script_of from pods) (omega (arith, script_few earlier counted from pods few)) ∙ lies from pods (omega (arith, few))
