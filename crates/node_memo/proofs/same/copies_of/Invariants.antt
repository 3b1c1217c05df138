use Rattle.std.proofs.Common.{◌≡◌, take}
use Rattle.request_rules.specs.Growth.{specs_of}
use Rattle.node_memo.proofs.same.copies_of.Given as goal

abbrev pub invariant-loop-claim : goal.invariant-loop-claim
invariant-loop-claim l = specs_of l.copies.items ≡ specs_of (take l.claim-index l.claims)
