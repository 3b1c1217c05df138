-- The choice that the names of results pick, and the results that are for each chosen request.
use Rattle.std.specs.Prelude.{ℕ, ◌+◌, List, [], ◌∷◌, ◌++◌, Bool, Option, None, Some, map, length, slice_get, take, drop}
use Rattle.std.specs.List.{list_any, position_or_len}
use Rattle.object_fields.specs.declared.key.Key.{Key}
use Rattle.api_claim.specs.declared.types.AllocationMode.{AllocationMode}
use Rattle.api_claim.specs.declared.types.AllocationMode.TheVariants.{ExactCount, All}
use Rattle.api_claim.specs.declared.types.DeviceSubRequest.{DeviceSubRequest}
use Rattle.api_claim.specs.declared.types.RequestKind.{RequestKind}
use Rattle.api_claim.specs.declared.types.RequestKind.TheVariants.{Exactly, FirstAvailable}
use Rattle.api_claim.specs.declared.types.ResourceClaim.{ResourceClaim}
use Rattle.pool_view.specs.Names.{text_eq}
use Rattle.pool_view.specs.Views.{position_of}
use Rattle.cluster.specs.declared.plan.DeviceResult.{DeviceResult}
use Rattle.cluster.specs.declared.plan.Grant.{Grant}
use Rattle.request_rules.specs.Asked.{Asked, Wish, asked_by, asked_sub, matching, wishes}
use Rattle.request_rules.specs.Input.{SearchInput}
use Rattle.request_rules.specs.Lists.{add_some}
use Rattle.request_rules.specs.Names.{result_name}
use Rattle.request_rules.specs.Rules.{Pick}
use Rattle.request_rules.specs.Ways.{wishes_in}

-- ---- choices

-- the result has the name of what is asked for
abbrev pub is_called : Asked → DeviceResult → Bool
is_called a r = text_eq (result_name a.label) r.name

abbrev pub is_named : List DeviceResult → Asked → Bool
is_named rs a = list_any (is_called a) rs

-- the number of the first subrequest whose name a result has; if no result has one, how many there are
abbrev pub named_sub : List DeviceResult → Wish → List DeviceSubRequest → ℕ
named_sub rs q ss = position_or_len (λ s. is_named rs (asked_sub q s)) ss

abbrev pub named_way : List DeviceResult → Wish → RequestKind → ℕ
named_way rs q (Exactly r) = 0
named_way rs q (FirstAvailable ss) = named_sub rs q ss

abbrev pub results_by : Option Grant → List DeviceResult
results_by None = []
results_by (Some g) = g.results

-- the results of the claim at an index
abbrev pub results_at : List Grant → ℕ → List DeviceResult
results_at grants i = results_by (slice_get grants i)

-- the choice that the names of the results pick
unfoldable pub choice_of : SearchInput → List Grant → List ℕ
choice_of w grants = map (λ q. named_way (results_at grants q.claim) q q.request.kind) (wishes w)

-- what a request of a claim with these results asks for, if their names pick something
abbrev pub asked_for : List DeviceResult → Wish → Option Asked
asked_for rs q = asked_by q q.request.kind (named_way rs q q.request.kind)

abbrev pub asked_each : List DeviceResult → List Wish → List Asked
asked_each rs [] = []
asked_each rs (q ∷ qs) = add_some (asked_for rs q) (asked_each rs qs)

-- the requests and subrequests of the claim at an index that its results pick, in order
abbrev pub asked_in : ℕ → ResourceClaim → List DeviceResult → List Asked
asked_in i c rs = asked_each rs (wishes_in i c.key c.requests)

-- ---- the results of each request

abbrev pub due_by : SearchInput → Asked → AllocationMode → ℕ
due_by w a (ExactCount n) = n
due_by w a All = length (matching w a.ask)

-- how many results are expected for a request: its count, or as many as there are devices that meet it
abbrev pub due : SearchInput → Asked → ℕ
due w a = due_by w a a.ask.mode

abbrev pub place_by : SearchInput → Option ℕ → ℕ
place_by w None = length w.devices
place_by w (Some x) = x

-- the position of a result's device; the one after the last if the node has no such device
abbrev pub place_of : SearchInput → DeviceResult → ℕ
place_of w r = place_by w (position_of r.device w.devices)

-- a result with the request that it is for, and its claim
pub record Due : Type 0 where
  pub claim : Key
  pub asked : Asked
  pub result : DeviceResult

abbrev pub due_for : Key → Asked → DeviceResult → Due
due_for claim a r = record { claim = claim; asked = a; result = r }

-- each request has the next of the results, as many as are expected for it
abbrev pub dues_for : SearchInput → Key → List Asked → List DeviceResult → List Due
dues_for w claim [] rs = []
dues_for w claim (a ∷ asks) rs = map (due_for claim a) (take (due w a) rs) ++ dues_for w claim asks (drop (due w a) rs)

abbrev pub dues_from : SearchInput → ℕ → List ResourceClaim → List Grant → List Due
dues_from w i [] gs = []
dues_from w i (c ∷ cs) [] = []
dues_from w i (c ∷ cs) (g ∷ gs) = dues_for w c.key (asked_in i c g.results) g.results ++ dues_from w (i + 1) cs gs

-- all results, in order
unfoldable pub dues : SearchInput → List Grant → List Due
dues w grants = dues_from w 0 w.claims grants

-- a result as the rules see it
abbrev pub pick_of : SearchInput → Due → Pick
pick_of w d = record { label = d.asked.label; position = place_of w d.result }

abbrev pub picks_of : SearchInput → List Grant → List Pick
picks_of w grants = map (pick_of w) (dues w grants)
