-- The precedence of versions is a total order. The laws of `PartialEq` cite this.
use Rattle.std.specs.Ordering.{eq_by_cmp}
use Rattle.std.specs.Cmp.{IsTotalOrder, IsEquivalence, eq_by_cmp_equiv, nat_cmp_total, on_total, then_total}
use Rattle.semver.specs.OrderLaws.{pre_total}
use Rattle.semver.specs.Parse.{Parts}
use Rattle.cel_value.specs.Operators.{version_cmp}

pub version_total : IsTotalOrder version_cmp
version_total =
    then_total (on_total (λ (v : Parts). v.0) nat_cmp_total) (then_total (on_total (λ (v : Parts). v.1) nat_cmp_total)
    (then_total (on_total (λ (v : Parts). v.2) nat_cmp_total) (on_total (λ (v : Parts). v.3) pre_total)))

pub version_equiv : IsEquivalence (eq_by_cmp version_cmp)
version_equiv = eq_by_cmp_equiv version_total
