use Rattle.std.proofs.Common.{◌∙◌, sym}
use Rattle.pool_view.proofs.Listing.{names_kept}
use Rattle.pool_view.proofs.inventory.Inventory.put_node.Goals as goal

pub invariant_of-self : goal.invariant_of-self
invariant_of-self c = (
  c.self.invariant.0,
  c.self.invariant.1,
  c.self.invariant.2,
  names_kept c.args.place c.in_ok-name.name c.args.node c.self.inside.nodes c.put_named.new.objects c.self.inside.names c.put_named.result (sym c.contains_key.ensures ∙ c.if-contains_key.true) c.put_named.ensures.ok c.put_named.ensures.err
      c.self.invariant.3,
  c.self.invariant.4,
)
