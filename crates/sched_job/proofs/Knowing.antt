-- What is remembered of nodes is true by all dates that are a history's, and a search over the present state.
use Rattle.std.proofs.Common.{ℕ, ◌≡◌, ◌∙◌, List, length, sym, subst, arith}
use Rattle.pool_view.specs.declared.names.PoolName.{PoolName}
use Rattle.pool_view.specs.Usable.{pool_named}
use Rattle.cluster.specs.declared.entry.Entry.{Entry}
use Rattle.cluster.specs.declared.state.State.{State}
use Rattle.cluster.specs.History.{state_of}
use Rattle.allocations.specs.Lacking.{Dates, IsSince, freed_for}
use Rattle.histories.specs.Growth.{AreDatesOf}
use Rattle.node_memo.specs.declared.nodes.LackingNode.{LackingNode}
use Rattle.node_memo.specs.Memo.{NodesFields, Tells, TellsOf, TellsRow}
use Rattle.ledger_core.specs.Remembered.{IsTrueOf}
use Rattle.ledger_core.specs.Snapshot.{Seen as Snapshot}
use Rattle.sched_job.specs.Steps.{IsNow}

-- ---- equal dates

pub record AreSame (d e : Dates) : Type 0 where
  pub objects : e.objects ≡ d.objects
  pub freed : (p : PoolName) → freed_for e p ≡ freed_for d p

since_same : (s : State) (d e : Dates) (node : List ℕ) (index : ℕ) → AreSame d e → IsSince s e node index → IsSince s d node index
since_same s d e node index same since = record {
  objects = let is = same.objects in let before = since.objects in omega (arith, is, before);
  pools = λ i o at. let is = same.freed (pool_named o.slice) in let before = since.pools i o at in omega (arith, is, before);
}

row_same : (s : State) (d e : Dates) (nodes : NodesFields) (row : LackingNode) (at : ℕ) → AreSame d e → TellsRow s d nodes.specs nodes.budget row at → TellsRow s e nodes.specs nodes.budget row at
row_same s d e nodes row at same t = record {
  within = t.within;
  pools = λ h. t.pools (let is = same.objects in omega (arith, is, h));
  lacking = record { none = λ since claims asks. t.lacking.none (since_same s d e row.node row.index same since) claims asks };
}

tells_same : (s : State) (d e : Dates) (memo : List NodesFields) (at : ℕ) → AreSame d e → Tells s d memo at → Tells s e memo at
tells_same s d e memo at same t = record { each = λ i nodes is. record { each = λ j row there. row_same s d e nodes row at same ((t.each i nodes is).each j row there) } }

both : (h : List Entry) (d e : Dates) → AreDatesOf h d → AreDatesOf h e → AreSame d e
both h d e f g = record { objects = g.objects ∙ sym f.objects; freed = λ p. g.freed p ∙ sym (f.freed p) }

-- ---- the present state

-- what is true by the dates of a snapshot of the present state, is true of the history
pub kept_true : (h : List Entry) (d : Dates) (seen : Snapshot) (memo : List NodesFields) → IsNow h seen → AreDatesOf h d → Tells seen.state d memo seen.at → IsTrueOf h memo
kept_true h d seen memo now dates t =
    let here : Tells (state_of h) d memo (length h) = subst (λ (s : State). Tells s d memo (length h)) now.state (subst (λ (n : ℕ). Tells seen.state d memo n) now.at t) in
    record { tells = λ e are. tells_same (state_of h) d e memo (length h) (both h d e dates are) here }

-- and the other way round
pub told_now : (h : List Entry) (d : Dates) (seen : Snapshot) (memo : List NodesFields) → IsNow h seen → AreDatesOf h d → IsTrueOf h memo → Tells seen.state d memo seen.at
told_now h d seen memo now dates known =
    subst (λ (n : ℕ). Tells seen.state d memo n) (sym now.at) (subst (λ (s : State). Tells s d memo (length h)) (sym now.state) (known.tells d dates))
