-- Fields that are printed read as they are.
use Rattle.std.proofs.Common.{◌≡◌, ℕ, ◌+◌, ◌<◌, ◌≤◌, ◌^◌, nat_lt, nat_le, Bool, true, false, List, [], ◌∷◌, ◌++◌, length, Some, None, Result, Ok, refl, ◌∙◌, ap, append_assoc, arith}
use Rattle.std.specs.Prelude.{codes, decimal}
use Rattle.std.proofs.lemmas.Bool.{and_parts, leb-true}
use Rattle.std.proofs.lemmas.List.{append-nil}
use Rattle.std.specs.Cmp.Lexicographic.{slice_cmp}
use Rattle.std.specs.List.Sorted.{IsStrictlySortedBy}
use Rattle.std.specs.Map.{keys_of}
use Rattle.std.specs.Ordering.{nat_cmp}
use Rattle.serde_json.specs.Data.{Data, string}
use Rattle.serde_json.specs.Find.{get}
use Rattle.object_fields.specs.Fields.{dns_label_at, dns_subdomain_at, items_length, judged}
use Rattle.object_fields.specs.Limits.{KeyKept, NameKept}
use Rattle.object_fields.specs.Lists.{alone, each_at, each_from}
use Rattle.object_fields.specs.Meta.{labels_at, members_at, name_most, namespace_at, version_at}
use Rattle.object_fields.specs.Names.{is_dns_label, is_dns_name, is_dns_part, label_most}
use Rattle.object_fields.specs.declared.error.FieldError.{FieldError}
use Rattle.object_fields.specs.declared.key.Key.{Key}
use Rattle.object_fields.specs.declared.meta.ObjectMeta.{ObjectMeta}
use Rattle.object_fields.specs.declared.meta.Scope.TheVariants.{Cluster, Namespaced}
use Rattle.object_fields.specs.declared.path.Step.{Step}
use Rattle.api_print.specs.Metadata.{labels_if}
use Rattle.api_print.specs.Shapes.{list_if, listed}
use Rattle.api_print.proofs.Decimals.{not_longer, version_read}
use Rattle.api_print.proofs.Tables.{labels_back}

-- ---- names

pub judged_right : (path : List Step) (most : ℕ) (right : Bool) (text : List ℕ) → length text ≤ most → right ≡ true → judged path most right text ≡ Ok text
judged_right path most right text size h = rw (not_longer most (length text) size, h) refl

name_read : (path : List Step) (d : Data) (name : List ℕ) → get (codes "name") d ≡ Some (string name) → NameKept name → dns_subdomain_at name_most path (codes "name") d ≡ Ok name
name_read path d name h kept = rw h (judged_right _ name_most (is_dns_name name) name kept.size kept.form)

pub label_size : (name : List ℕ) → is_dns_label name ≡ true → length name ≤ label_most
label_size name h = leb-true _ _ (and_parts (nat_le (length name) label_most) (is_dns_part name) h).0

pub label_read : (path : List Step) (d : Data) (key name : List ℕ) → get key d ≡ Some (string name) → is_dns_label name ≡ true → dns_label_at path key d ≡ Ok name
label_read path d key name h kept = rw h (judged_right _ label_most (is_dns_label name) name (label_size name kept) kept)

-- ---- metadata

labels_found : (path : List Step) (d : Data) (labels : List (List ℕ × List ℕ)) → get (codes "labels") d ≡ labels_if labels → IsStrictlySortedBy (slice_cmp nat_cmp) (keys_of labels) → labels_at path d ≡ Ok labels
labels_found path d [] h sorted = rw h refl
labels_found path d (e ∷ es) h sorted = rw h (labels_back _ (e ∷ es) sorted)

version_found : (path : List Step) (d : Data) (n : ℕ) → get (codes "resourceVersion") d ≡ Some (string (decimal n)) → n < 2 ^ 64 → version_at path d ≡ Ok (Some n)
version_found path d n h small = rw h (version_read path n small)

namespace_found : (path : List Step) (d : Data) (namespace : List ℕ) → get (codes "namespace") d ≡ Some (string namespace) → is_dns_label namespace ≡ true → namespace_at Namespaced path d ≡ Ok namespace
namespace_found path d namespace h kept =
    let label = label_read path d (codes "namespace") namespace h kept in
    rw (label, h) refl

abbrev cluster_meta : List ℕ → List (List ℕ × List ℕ) → ℕ → ObjectMeta
cluster_meta name labels version =
    record { key = record { namespace = []; name = name }; labels = labels; version = Some version }

pub cluster_members : (path : List Step) (d : Data) (name : List ℕ) (labels : List (List ℕ × List ℕ)) (version : ℕ) → get (codes "name") d ≡ Some (string name) → get (codes "labels") d ≡ labels_if labels → get (codes "resourceVersion") d ≡ Some (string (decimal version)) → NameKept name → IsStrictlySortedBy (slice_cmp nat_cmp) (keys_of labels) → version < 2 ^ 64
    → members_at Cluster path d ≡ Ok (cluster_meta name labels version)
cluster_members path d name labels version hn hl hv kept sorted small =
    rw (name_read path d name hn kept, labels_found path d labels hl sorted, version_found path d version hv small) refl

abbrev key_meta : Key → ℕ → ObjectMeta
key_meta key version = record { key = key; labels = []; version = Some version }

pub key_members : (path : List Step) (d : Data) (key : Key) (version : ℕ) → get (codes "name") d ≡ Some (string key.name) → get (codes "namespace") d ≡ Some (string key.namespace) → get (codes "labels") d ≡ None → get (codes "resourceVersion") d ≡ Some (string (decimal version)) → KeyKept Namespaced key → version < 2 ^ 64
    → members_at Namespaced path d ≡ Ok (key_meta key version)
key_members path d key version hn hs hl hv kept small =
    rw (name_read path d key.name hn kept.name, namespace_found path d key.namespace hs kept.namespace, hl, version_found path d version hv small) refl

-- ---- lists

pub listed_length : {A : Type 0} (json : A → Data) (xs : List A) → items_length (listed json xs) ≡ length xs
listed_length json [] = refl
listed_length json (x ∷ xs) = ap (λ n. n + 1) (listed_length json xs) ∙ omega arith

each_back : {A : Type 0} (reading : List Step → Data → Result A FieldError) (json : A → Data) (path : List Step) (place : ℕ) (before xs : List A) → ((p : List Step) (x : A) → reading p (json x) ≡ Ok x)
    → each_from (alone reading) path place before (listed json xs) ≡ Ok (before ++ xs)
each_back reading json path place before [] h = rw (append-nil before) refl
each_back reading json path place before (x ∷ xs) h =
    rw (h _ x) (each_back reading json path (place + 1) (before ++ x ∷ []) xs h ∙ ap Ok (append_assoc before (x ∷ []) xs))

pub each_found : {A : Type 0} (most : ℕ) (reading : List Step → Data → Result A FieldError) (json : A → Data) (path : List Step) (name : List ℕ) (d : Data) (xs : List A) → get name d ≡ list_if json xs → length xs ≤ most → ((p : List Step) (x : A) → reading p (json x) ≡ Ok x)
    → each_at most reading path name d ≡ Ok xs
each_found most reading json path name d [] h few back = rw h refl
each_found most reading json path name d (x ∷ xs) h few back =
    let short : nat_lt most (items_length (listed json (x ∷ xs))) ≡ false = rw (listed_length json (x ∷ xs)) (not_longer most (length (x ∷ xs)) few) in
    rw (h, short) (each_back reading json _ 0 [] (x ∷ xs) back)
