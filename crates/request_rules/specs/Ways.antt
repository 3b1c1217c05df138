-- All ways to meet the requests of an input, in one list.
use Rattle.std.specs.Prelude.{ℕ, List, [], ◌∷◌, false, None, map, get_or}
use Rattle.std.specs.List.{flat_map}
use Rattle.object_fields.specs.declared.key.Key.{Key}
use Rattle.api_claim.specs.declared.types.AllocationMode.TheVariants.{All}
use Rattle.api_claim.specs.declared.types.DeviceRequest.{DeviceRequest}
use Rattle.api_claim.specs.declared.types.ExactDeviceRequest.{ExactDeviceRequest}
use Rattle.api_claim.specs.declared.types.RequestKind.{RequestKind}
use Rattle.api_claim.specs.declared.types.RequestKind.TheVariants.{Exactly, FirstAvailable}
use Rattle.request_rules.specs.Input.{SearchInput}
use Rattle.request_rules.specs.Asked.{Asked, Wish, asked_sub, wishes}

-- the requests of a claim
abbrev pub wishes_in : ℕ → Key → List DeviceRequest → List Wish
wishes_in i key rs = map (λ r. record { claim = i; key = key; request = r }) rs

-- ---- ways

abbrev pub asked_exactly : Wish → ExactDeviceRequest → Asked
asked_exactly q r = record {
  label = record { claim = q.claim; request = q.request.name; sub = None; admin = r.admin };
  key = q.key;
  ask = r.ask;
}

-- `exactly`, or each of the subrequests, as it is asked for if it is chosen
abbrev pub ways_by : Wish → RequestKind → List Asked
ways_by q (Exactly r) = asked_exactly q r ∷ []
ways_by q (FirstAvailable rs) = map (asked_sub q) rs

abbrev pub ways_in : Wish → List Asked
ways_in q = ways_by q q.request.kind

abbrev pub ways_from : List Wish → List Asked
ways_from qs = flat_map ways_in qs

-- all requests and subrequests of all claims, in order: a row for each
unfoldable pub all_asked : SearchInput → List Asked
all_asked w = ways_from (wishes w)

-- nothing asked for
abbrev pub nothing_asked : Asked
nothing_asked = record {
  label = record { claim = 0; request = []; sub = None; admin = false };
  key = record { namespace = []; name = [] };
  ask = record { class = []; selectors = []; mode = All; tolerations = [] };
}

-- what is asked for in a row
abbrev pub asked_at : SearchInput → ℕ → Asked
asked_at w row = get_or (all_asked w) row nothing_asked
