use Rattle.std.proofs.Common.{◌≡◌, ◌++◌, ◌∷◌, [], ◌-◌}
use Rattle.std.specs.List.{range_with_len}
use Rattle.std.specs.Prelude.{map, string_bytes}
use Rattle.script_gen.specs.Documents.{class_document, node_document, slice_document}
use Rattle.script_gen.specs.Script.{cluster_documents, lines_of}
use Rattle.script_gen.proofs.writing.push_cluster.Given as goal

abbrev pub invariant-loop-i : goal.invariant-loop-i
invariant-loop-i l =
    string_bytes l.out ++ lines_of (map node_document (range_with_len l.i (4 - l.i)) ++ class_document ∷ map slice_document (range_with_len 0 4))
    ≡ string_bytes l.fn.out ++ lines_of cluster_documents

abbrev pub invariant-loop-i-2 : goal.invariant-loop-i-2
invariant-loop-i-2 l =
    string_bytes l.out ++ lines_of (map slice_document (range_with_len l.i (4 - l.i)) ++ [])
    ≡ string_bytes l.fn.out ++ lines_of cluster_documents
