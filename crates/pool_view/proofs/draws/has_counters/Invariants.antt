use Rattle.std.proofs.Common.{◌≡◌, ℕ, ℤ, List}
use Rattle.std.specs.List.{list_all}
use Rattle.std.specs.Option.{is_some}
use Rattle.pool_view.specs.Names.{at_name}
use Rattle.pool_view.proofs.draws.has_counters.Given as goal

abbrev pub invariant-loop-name : goal.invariant-loop-name
invariant-loop-name l = list_all (λ (e : List ℕ × ℤ). is_some (at_name l.set.counters e.0)) l.name-iterator ≡ list_all (λ (e : List ℕ × ℤ). is_some (at_name l.set.counters e.0)) l.consumption.amounts
