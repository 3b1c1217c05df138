use Rattle.std.proofs.Common.{◌<◌, ◌∙◌, length, refl, ap}
use Rattle.std.specs.Map.{keys_of}
use Rattle.shared_map.proofs.Hitting.{with_value_set, keys-with_value}
use Rattle.shared_map.proofs.Sorting.{at_any}
use Rattle.shared_map.proofs.chunk.Chunk.value_mut.Goals as goal

pub invariant_of-self-lent : goal.invariant_of-self-lent
invariant_of-self-lent g c w =
    rw (ap keys_of (with_value_set c.self.inside.entries.items c.args.at c.index_mut-entry.result.now w c.index_mut-entry.ensures.value) ∙ keys-with_value c.self.inside.entries.items c.args.at w) c.self.invariant

pub returns : goal.returns
returns g c =
    let here : c.args.at < length c.self.inside.entries.items = rw c.self.view_is c.requires in (
      (refl, λ w. rw (← c.self.view_is) (with_value_set c.self.inside.entries.items c.args.at c.index_mut-entry.result.now w c.index_mut-entry.ensures.value)),
      record { writes_back = tt; value = λ d. rw (← c.self.view_is) (ap (λ e. e.1) (at_any c.self.inside.entries.items c.args.at c.index_mut-entry.result.now d here c.index_mut-entry.ensures.value)) },
    )
