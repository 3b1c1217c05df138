use Rattle.std.proofs.Common.{refl, sym, ap, ◌∙◌, rules, ◌≡◌, Ok}
use Rattle.dra_values.specs.Shown.{debug_entry}
use Rattle.dra_values.proofs.Written.{then_items, then_no_items, then_ok, displays_then, lead_of}
use Rattle.dra_values.proofs.table.show_entries.Goals.{then-first, else-first}
use Rattle.dra_values.proofs.table.show_entries.Goals as goal

pub loop-key-init : goal.loop-key-init
loop-key-init g c = let same : c.into_iter-key-iterator.result ≡ c.args.map.now.entries = search rules in λ h rest. rw (← same) rest

pub loop-key-preserved : goal.loop-key-preserved
loop-key-preserved g c =
    let took = g.W.Write.write_str_gives in
    let text = debug_entry g.K.Debug.debug_output g.V.Debug.debug_output in
    let lead : c.if-first.lead.now ≡ lead_of c.loop-key.first = elim c.if-first.branch [ then-first w ↦ ap (λ r. r.now) w.lead-is ∙ sym (ap lead_of w.if-first.true) | else-first w ↦ ap (λ r. r.now) w.lead-is ∙ sym (ap lead_of w.if-first.false) ] in
    λ h rest. c.loop-key.invariant h (then_items took c.loop-key.f c.show_entry.new.f h text (lead_of c.loop-key.first) c.loop-key.key-iterator c.next.new.self (c.in-Some.key.now, c.in-Some.value.now)
    c.in-Some.ensures.steps (rw (← lead) (then_ok took c.loop-key.f c.show_entry.new.f (Ok c.in_ok-show_entry.field-0) _ c.in_ok-show_entry.ensures refl)) rest)

pub returns : goal.returns
returns g c =
    let took = g.W.Write.write_str_gives in
    let text = debug_entry g.K.Debug.debug_output g.V.Debug.debug_output in
    displays_then took c.args.f.now c.loop-key.f (Ok tt) _ (c.loop-key.invariant c.loop-key.f (then_no_items took c.loop-key.f text (lead_of c.loop-key.first) c.loop-key.key-iterator c.in-None.ensures.steps.0))
