use Rattle.std.proofs.Common.{◌≡◌, ◌++◌, ◌-◌}
use Rattle.std.specs.List.{flat_map, range_with_len}
use Rattle.std.specs.Prelude.{string_bytes}
use Rattle.script_gen.specs.Script.{lines_of, number_before, pod_documents, script_of}
use Rattle.script_gen.proofs.writing.script.Given as goal

abbrev pub invariant-loop-i : goal.invariant-loop-i
invariant-loop-i l =
    (string_bytes l.out ++ lines_of (flat_map (λ i. pod_documents (number_before l.fn.from i) i) (range_with_len l.i (l.fn.pods - l.i))) ≡ script_of l.fn.from l.fn.pods)
    × (l.numbers.number ≡ number_before l.fn.from l.i)
