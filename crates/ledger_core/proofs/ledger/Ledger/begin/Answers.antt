use Rattle.std.proofs.Common.{◌≡◌, ◌∙◌, None, ap, sym}
use Rattle.cluster.specs.declared.entry.Command.TheVariants.{Schedule}
use Rattle.cluster.specs.declared.state.State.{State}
use Rattle.cluster.specs.Denied.{first_refusal}
use Rattle.cluster.specs.History.{state_of}
use Rattle.ledger_core.specs.Ledger.{History}
use Rattle.ledger_core.specs.Snapshot.{Seen}
use Rattle.ledger_core.proofs.Reserving.{idle_pod}
use Rattle.ledger_core.proofs.ledger.Ledger.begin.Goals as goal

pub returns-in_ok-snapshot-in-None-clause-begins : goal.returns-in_ok-snapshot-in-None-clause-begins
returns-in_ok-snapshot-in-None-clause-begins c =
    let pod = c.args.pod.now in
    let before = c.args.self.now.entries in
    let state_is : c.self.inside.state ≡ state_of before = c.self.invariant.0.state_is ∙ ap (λ (h : History). state_of h.entries) c.self.view_is in
    let unrefused : first_refusal (state_of before) (Schedule pod) ≡ None = ap (λ (s : State). first_refusal s (Schedule pod)) (sym state_is) ∙ sym c.in_ok-schedule_refusal.ensures ∙ c.in-None.is in
    let idle = idle_pod (state_of before) pod unrefused in
    record {
      unrefused = unrefused;
      same = c.self.view_is;
      index = ap (λ (x : Seen). x.at) c.in_ok-snapshot-in-None.ensures.seen ∙ c.len-at.ensures.length;
      state_is = ap (λ (x : Seen). x.state) c.in_ok-snapshot-in-None.ensures.seen ∙ state_is;
      state = idle.0;
      idle = idle.1;
    }
