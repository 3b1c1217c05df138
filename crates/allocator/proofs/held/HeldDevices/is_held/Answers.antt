use Rattle.std.proofs.Common.{◌<◌, length, sym, ap, ◌∙◌, subst}
use Rattle.allocator.specs.Holding.{Holders, held_at}
use Rattle.allocator.proofs.Flagged.{flag_at}
use Rattle.allocator.proofs.held.HeldDevices.is_held.Goals as goal

pub returns : goal.returns
returns c =
    let inside = c.self.inside in
    let x = c.args.position in
    flag_at inside.holders.now inside.devices.now inside.flags.items x c.index.result.now c.self.invariant
    (subst (λ (h : Holders). x < length h.devices) (sym c.self.view_is) c.requires) c.index.ensures
    ∙ ap (λ (h : Holders). held_at h x) c.self.view_is
