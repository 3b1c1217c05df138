use Rattle.std.proofs.Common.{◌∙◌, ap, length, sym}
use Rattle.std.proofs.lemmas.Map.{length-set_value}
use Rattle.std.specs.BTreeMap.{is_at}
use Rattle.shared_map.proofs.sharing.SharedMap.get_mut.Goals as goal

pub invariant_of-self-lent : goal.invariant_of-self-lent
invariant_of-self-lent g c r = (
  λ w. c.self.invariant ∙ ap length (sym c.in_ok-groups.ensures.value) ∙ sym (length-set_value (is_at (g.K.Ord.cmp c.args.key.now)) c.in_ok-groups.groups.now w),
  c.self.invariant ∙ ap length (sym c.in_ok-groups.ensures.value),
)
