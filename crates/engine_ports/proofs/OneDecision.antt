-- There is one decision.
use Rattle.std.proofs.Common.{ℕ, ◌≡◌, ◌∙◌, sym, ap}
use Rattle.object_fields.specs.declared.key.Key.{Key}
use Rattle.cluster.specs.declared.plan.Plan.{Plan}
use Rattle.cluster.specs.declared.plan.Verdict.{Verdict}
use Rattle.cluster.specs.declared.state.State.{State}
use Rattle.plan_rules.specs.Decided.{IsPlanWithin, IsVerdictWithin}
use Rattle.engine_ports.specs.declared.decision.Decision.{Decision}
use Rattle.engine_ports.specs.declared.decision.Decision.TheVariants.{Reserve, Judge}
use Rattle.engine_ports.specs.Decisions.{IsDecision, IsJudge, IsReserve}

-- the law of plans and verdicts
pub record Law : Type 0 where
  pub plans : (s : State) (pod : Key) (budget : ℕ) (p q : Plan) → IsPlanWithin s pod budget p → IsPlanWithin s pod budget q → p.at ≡ q.at → p ≡ q
  pub verdicts : (s : State) (pod : Key) (budget : ℕ) (v w : Verdict) → IsVerdictWithin s pod budget v → IsVerdictWithin s pod budget w → v.at ≡ w.at → v ≡ w
  pub apart : (s : State) (pod : Key) (budget : ℕ) (p : Plan) (v : Verdict) → IsPlanWithin s pod budget p → IsVerdictWithin s pod budget v → ⊥

planned : (s : State) (pod : Key) (budget at : ℕ) (p : Plan) → IsReserve s pod budget at p → IsPlanWithin s pod budget p
planned s pod budget at p h = record { holds = h.holds; found = h.found }

judged : (s : State) (pod : Key) (budget at : ℕ) (v : Verdict) → IsJudge s pod budget at v → IsVerdictWithin s pod budget v
judged s pod budget at v h = record { holds = h.holds; found = h.found }

pub one_decision : Law → (s : State) (pod : Key) (budget at : ℕ) (d e : Decision) → IsDecision s pod budget at d → IsDecision s pod budget at e → d ≡ e
one_decision law s pod budget at (Reserve p) (Reserve q) h k =
    ap Reserve (law.plans s pod budget p q (planned s pod budget at p h) (planned s pod budget at q k) (h.index ∙ sym k.index))
one_decision law s pod budget at (Reserve p) (Judge v) h k = absurd (law.apart s pod budget p v (planned s pod budget at p h) (judged s pod budget at v k))
one_decision law s pod budget at (Judge v) (Reserve p) h k = absurd (law.apart s pod budget p v (planned s pod budget at p k) (judged s pod budget at v h))
one_decision law s pod budget at (Judge v) (Judge w) h k =
    ap Judge (law.verdicts s pod budget v w (judged s pod budget at v h) (judged s pod budget at w k) (h.index ∙ sym k.index))
