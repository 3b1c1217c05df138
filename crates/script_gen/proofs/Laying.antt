-- The documents of a script are laid in its text.
use Rattle.std.proofs.Common.{rules, ℕ, zero, suc, ◌≡◌, ◌∙◌, ◌<◌, ◌≤◌, ◌+◌, ◌^◌, ◌++◌, List, [], ◌∷◌, Bool, true, false, if◌then◌else◌, length, append_assoc, refl, sym, ap, arith}
use Rattle.std.specs.List.{flat_map, range_with_len}
use Rattle.std.specs.Prelude.{codes}
use Rattle.doc_split.specs.Begun.{IsClosed}
use Rattle.doc_split.specs.Documents.{Clean, before, documents_from, is_blank, nothing}
use Rattle.doc_split.specs.Scan.{begun, piece_length, scan_behind}
use Rattle.script_gen.specs.Documents.{release_document}
use Rattle.script_gen.specs.Generator.{next_number}
use Rattle.script_gen.specs.Laid.{laid_out}
use Rattle.script_gen.specs.Script.{cluster_documents, device_count, documents_of, lines_of, number_before, pod_documents, released_one, releases_one, script_of}
use Rattle.script_gen.proofs.Scanning.{Laid, class_laid, claim_laid, node_laid, pod_laid, release_laid, schedule_laid, slice_laid}

-- how documents lie in bytes
pub record Law : Type 0 where
  pub closed : (tail : List ℕ) → piece_length begun tail ≡ length tail → (scan_behind begun tail).depth ≡ 0 → IsClosed (123 ∷ tail)
  pub first : (most at : ℕ) (tail more : List ℕ) → IsClosed (123 ∷ tail) → length tail + 1 ≤ most
      → documents_from most 0 at (123 ∷ (tail ++ more)) ≡ before (record { at = at; bytes = 123 ∷ tail } ∷ []) (documents_from most 0 (at + (length tail + 1)) more)
  pub blank : (most at b : ℕ) (bytes : List ℕ) → is_blank b ≡ true → documents_from most 0 at (b ∷ bytes) ≡ documents_from most 0 (at + 1) bytes
  pub none : (most at : ℕ) → documents_from most 0 at [] ≡ nothing Clean

abbrev AllLaid : List (List ℕ) → Type 0
AllLaid [] = Unit {0}
AllLaid (t ∷ ts) = Laid t × AllLaid ts

one_laid : Law → (most at : ℕ) (t more : List ℕ) → 700 ≤ most → Laid t → documents_from most 0 at (t ++ codes "\n" ++ more) ≡ before (record { at = at; bytes = t } ∷ []) (documents_from most 0 (at + (length t + 1)) more)
one_laid law most at t more room l =
    let len : length t ≡ suc (length l.tail) = ap length l.is in
    let small : length l.tail + 1 ≤ most = omega (arith, len, l.few, room) in
    let count : at + (length l.tail + 1) + 1 ≡ at + (length t + 1) = omega (arith, len) in
    let e : t ++ codes "\n" ++ more ≡ t ++ (codes "\n" ++ more) = append_assoc t (codes "\n") more in
    ap (documents_from most 0 at) e
    ∙ ap (λ (x : List ℕ). documents_from most 0 at (x ++ (10 ∷ more))) l.is
    ∙ law.first most at l.tail (10 ∷ more) (law.closed l.tail l.closes.whole l.closes.over) small
    ∙ ap (λ (x : List ℕ). before (record { at = at; bytes = x } ∷ []) (documents_from most 0 (at + (length l.tail + 1)) (10 ∷ more))) (sym l.is)
    ∙ ap (before (record { at = at; bytes = t } ∷ [])) (law.blank most (at + (length l.tail + 1)) 10 more refl ∙ ap (λ n. documents_from most 0 n more) count)

all_lie : Law → (most at : ℕ) (ts : List (List ℕ)) → 700 ≤ most → AllLaid ts → documents_from most 0 at (lines_of ts) ≡ laid_out at ts
all_lie law most at [] room l = law.none most at
all_lie law most at (t ∷ ts) room l =
    one_laid law most at t (lines_of ts) room l.0
    ∙ ap (before (record { at = at; bytes = t } ∷ [])) (all_lie law most (at + (length t + 1)) ts room l.1)

join : (xs ys : List (List ℕ)) → AllLaid xs → AllLaid ys → AllLaid (xs ++ ys)
join [] ys h g = g
join (x ∷ xs) ys h g = (h.0, join xs ys h.1 g)

-- ---- the documents of a script

cluster_laid : AllLaid cluster_documents
unfolding cluster_documents
cluster_laid = (
  node_laid 0 (omega arith),
  (
    node_laid 1 (omega arith),
    (
      node_laid 2 (omega arith),
      (
        node_laid 3 (omega arith),
        (
          class_laid,
          (slice_laid 0 (omega arith), (slice_laid 1 (omega arith), (slice_laid 2 (omega arith), (slice_laid 3 (omega arith), tt)))),
        ),
      ),
    ),
  ),
)

-- the released pod is an earlier one
earlier : (x i : ℕ) → releases_one x i ≡ true → released_one x i < i
earlier x i one = search rules

below : (x i : ℕ) → releases_one x i ≡ true → i < 2 ^ 64 → released_one x i < 2 ^ 64
below x i one small = omega (arith, small, earlier x i one)

released : (b : Bool) (n : ℕ) → (b ≡ true → n < 2 ^ 64) → AllLaid (if b then release_document n ∷ [] else [])
released true n small = (release_laid n (small refl), tt)
released false n small = tt

pod_all : (x i : ℕ) → i < 2 ^ 64 → AllLaid (pod_documents x i)
pod_all x i small = (
  claim_laid i (device_count x) small (omega arith),
  (
    pod_laid i small,
    (
      schedule_laid i small,
      released (releases_one (next_number x) i) (released_one (next_number x) i) (λ one. below (next_number x) i one small),
    ),
  ),
)

pods_all : (from first n : ℕ) → first + n < 2 ^ 64 → AllLaid (flat_map (λ i. pod_documents (number_before from i) i) (range_with_len first n))
pods_all from first zero small = tt
pods_all from first (suc n) small = join (pod_documents (number_before from first) first) _ (pod_all (number_before from first) first (omega (arith, small))) (pods_all from (first + 1) n (omega (arith, small)))

pub script_lies : Law → (from pods : ℕ) → pods < 2 ^ 64 → documents_from 2097152 0 0 (script_of from pods) ≡ laid_out 0 (documents_of from pods)
unfolding script_of documents_of
script_lies law from pods small = all_lie law 2097152 0 (documents_of from pods) (omega arith) (join cluster_documents _ cluster_laid (pods_all from 0 pods (omega (arith, small))))
