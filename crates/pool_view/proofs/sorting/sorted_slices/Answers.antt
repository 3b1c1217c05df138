use Rattle.std.proofs.Common.{◌∙◌, ap, filter}
use Rattle.pool_view.specs.Usable.{is_counted}
use Rattle.pool_view.proofs.SameSlices.{broken_of, counted_of, usable_of}
use Rattle.pool_view.proofs.sorting.sorted_slices.Goals as goal

pub returns : goal.returns
returns c = record {
  usable = usable_of c.args.inventory.now c.in_ok-usable.usable (c.in_ok-usable.ensures ∙ c.as_slice.ensures ∙ c.in_ok-sorted.ensures.usable);
  broken = broken_of c.args.inventory.now c.in_ok-broken.broken (c.in_ok-broken.ensures ∙ c.as_slice-2.ensures ∙ c.in_ok-sorted.ensures.broken);
  counted = counted_of c.args.inventory.now c.in_ok-sorted.sorted.usable c.in_ok-counted.counted c.in_ok-sorted.ensures.usable (c.in_ok-counted.ensures ∙ ap (filter is_counted) c.as_slice-3.ensures);
}
