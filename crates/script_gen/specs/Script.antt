-- The generated script: a cluster of four nodes, and then the documents of one pod after another.
use Rattle.std.specs.Prelude.{ℕ, zero, suc, ◌+◌, ◌%◌, ◌==◌, not, ◌&&◌, Bool, List, [], ◌∷◌, ◌++◌, map, codes, if◌then◌else◌}
use Rattle.std.specs.List.{flat_map, range_with_len}
use Rattle.script_gen.specs.Generator.{drawn, next_number}
use Rattle.script_gen.specs.Documents.{class_document, claim_document, node_document, pod_document, release_document, schedule_document, slice_document}

-- ---- The draws of a pod

-- how many devices the pod's claim asks for, 1 or 2: the first draw after this number
abbrev pub device_count : ℕ → ℕ
device_count x = 1 + drawn (next_number x) % 2

-- an earlier pod is released after the pod with this index: one draw in four, and not after the first pod
abbrev pub releases_one : ℕ → ℕ → Bool
releases_one x i = drawn (next_number x) % 4 == 0 && not (i == 0)

-- which of those below it: a further draw
abbrev pub released_one : ℕ → ℕ → ℕ
released_one x i = drawn (next_number (next_number x)) % i

-- the number after these
abbrev pub number_after_release : ℕ → ℕ → ℕ
number_after_release x i = if releases_one x i then next_number (next_number x) else next_number x

-- the number after all draws of the pod with this index
abbrev pub number_after : ℕ → ℕ → ℕ
number_after x i = number_after_release (next_number x) i

-- the number before them
unfoldable pub number_before : ℕ → ℕ → ℕ
number_before from zero = from
number_before from (suc i) = number_after (number_before from i) i

-- ---- The documents

-- four nodes, a class, and a slice for each node
unfoldable pub cluster_documents : List (List ℕ)
cluster_documents = map node_document (range_with_len 0 4) ++ class_document ∷ map slice_document (range_with_len 0 4)

-- the Release of an earlier pod, if one is released
abbrev pub release_documents : ℕ → ℕ → List (List ℕ)
release_documents x i = if releases_one x i then release_document (released_one x i) ∷ [] else []

-- of the pod with this index: its claim, the pod, a Schedule of it, and the Release of an earlier one
abbrev pub pod_documents : ℕ → ℕ → List (List ℕ)
pod_documents x i =
    claim_document i (device_count x) ∷ pod_document i ∷ schedule_document i ∷ release_documents (next_number x) i

-- the whole script's, with so many pods
unfoldable pub documents_of : ℕ → ℕ → List (List ℕ)
documents_of from pods = cluster_documents ++ flat_map (λ i. pod_documents (number_before from i) i) (range_with_len 0 pods)

-- ---- The text

-- documents, each on a line of its own
abbrev pub lines_of : List (List ℕ) → List ℕ
lines_of documents = flat_map (λ text. text ++ codes "\n") documents

-- the whole script
unfoldable pub script_of : ℕ → ℕ → List ℕ
script_of from pods = lines_of (documents_of from pods)
