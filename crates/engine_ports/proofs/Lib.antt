pub mod OneDecision
