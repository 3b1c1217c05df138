use Rattle.std.proofs.lemmas.Cmp.{nat_list_cmp_total, on_total, then_total}
use Rattle.object_fields.specs.declared.qualified.QualName.{QualName}
use Rattle.device_match.proofs.Valued.{made_more}
use Rattle.device_match.proofs.device.values.Goals as goal

pub loop-name-preserved : goal.loop-name-preserved
loop-name-preserved c =
    made_more _ (then_total (on_total (λ (q : QualName). q.domain) nat_list_cmp_total) (on_total (λ (q : QualName). q.id) nat_list_cmp_total)) _ c.loop-name.values c.insert.new.self c.loop-name.name-iterator c.next.new.self
    c.in-Some.name.now c.in_ok-name.name c.in-Some.attribute.now c.in_ok-value.field-0 c.loop-name.invariant c.in-Some.ensures.steps (rw c.attributes-attributes.ensures.value at c.in_order.ensures) c.in_ok-name.ensures c.in_ok-value.ensures.value c.in_ok-value.ensures.short c.in_ok-insert.ensures.ok
