-- One result more, as the counters and the agreements of constraints see it.
use Rattle.std.specs.Prelude.{◌==◌, List, [], ◌∷◌, Option, None, Some, slice_get, if◌then◌else◌}
use Rattle.std.specs.List.{flat_map}
use Rattle.pool_view.specs.Pools.{Offered}
use Rattle.request_rules.specs.Agreeing as agreeing
use Rattle.request_rules.specs.Names.{Label, result_name}
use Rattle.request_rules.specs.Input.{SearchInput}
use Rattle.request_rules.specs.Asked.{Rule}
use Rattle.request_rules.specs.Rules.{Pick}

-- a result, as constraints see it
abbrev pub seen_by : Label → Offered → agreeing.Pick
seen_by l o = record { request = result_name l; device = o; admin = l.admin }

abbrev pub seen_some : Label → Option Offered → List agreeing.Pick
seen_some l None = []
seen_some l (Some o) = seen_by l o ∷ []

abbrev pub seen_for : SearchInput → Rule → Pick → List agreeing.Pick
seen_for w r p = if r.claim == p.label.claim then seen_some p.label (slice_get w.devices p.position) else []

-- the results of a constraint's claim
abbrev pub seen_all : SearchInput → Rule → List Pick → List agreeing.Pick
seen_all w r ps = flat_map (seen_for w r) ps
