use Rattle.std.proofs.Common.{◌+◌, ◌≡◌, ◌++◌, drop}
use Rattle.std.specs.List.{flat_map}
use Rattle.std.specs.Prelude.{codes}
use Rattle.cluster.specs.PassedOver.{passed_from}
use Rattle.journal_text.specs.Journal.{passed_text}
use Rattle.journal_text.proofs.worded.push_nodes.Given as goal

abbrev pub invariant-loop-at : goal.invariant-loop-at
invariant-loop-at l =
    l.out.items ++ flat_map (λ x. codes "," ++ passed_text x) (passed_from (l.at + 1) (drop l.at l.names) l.left)
    ≡ l.fn.out.items ++ flat_map (λ x. codes "," ++ passed_text x) (passed_from 1 l.fn.names l.fn.causes)
