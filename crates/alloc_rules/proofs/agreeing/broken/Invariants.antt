use Rattle.std.proofs.Common.{◌≡◌, drop, []}
use Rattle.std.specs.List.{flat_map}
use Rattle.request_rules.specs.Agreeing.{each_agrees}
use Rattle.request_rows.specs.Wanted.{input_of}
use Rattle.alloc_rules.specs.Rows.{seen_as}
use Rattle.plan_rules.specs.Standing.{broken_by}
use Rattle.alloc_rules.proofs.agreeing.broken.Given as goal

abbrev pub invariant-loop-index : goal.invariant-loop-index
invariant-loop-index l =
    broken_by (λ c. each_agrees c [] (flat_map (seen_as (input_of l.rows)) l.dues)) l.key l.index (drop l.index l.constraints)
    ≡ broken_by (λ c. each_agrees c [] (flat_map (seen_as (input_of l.rows)) l.dues)) l.key 0 l.constraints
