use Rattle.std.proofs.Common.{◌≡◌, ◌≤◌, min, drop, length}
use Rattle.cel_cost.specs.Capped.{names, capped_names, parts_of, listed, keys, values}
use Rattle.cel_tree.specs.Estimate.{Names}
use Rattle.cel_cost.proofs.trees.+bounds.Given as goal

abbrev pub invariant-parts_of-loop-i : goal.invariant-parts_of-loop-i
invariant-parts_of-loop-i l = record {
  within : l.i ≤ length l.trees.items;
  above : min l.first (length l.trees.items) ≤ l.i;
  behind : (env : Names) → names l.scope ≡ capped_names env → l.parts ≡ parts_of (listed env (drop l.i l.trees.items));
}

abbrev pub decreases-parts_of-loop-i : goal.decreases-parts_of-loop-i
decreases-parts_of-loop-i l = l.i

abbrev pub invariant-keys_of-loop-i : goal.invariant-keys_of-loop-i
invariant-keys_of-loop-i l = record {
  within : l.i ≤ length l.entries.items;
  behind : (env : Names) → names l.scope ≡ capped_names env → l.parts ≡ parts_of (keys env (drop l.i l.entries.items));
}

abbrev pub decreases-keys_of-loop-i : goal.decreases-keys_of-loop-i
decreases-keys_of-loop-i l = l.i

abbrev pub invariant-values_of-loop-i : goal.invariant-values_of-loop-i
invariant-values_of-loop-i l = record {
  within : l.i ≤ length l.entries.items;
  behind : (env : Names) → names l.scope ≡ capped_names env → l.parts ≡ parts_of (values env (drop l.i l.entries.items));
}

abbrev pub decreases-values_of-loop-i : goal.decreases-values_of-loop-i
decreases-values_of-loop-i l = l.i
