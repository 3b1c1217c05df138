-- The rows of requests.
use Rattle.std.specs.Prelude.{ℕ, ◌+◌, List, [], ◌∷◌, Bool, true, false}
use Rattle.api_claim.specs.declared.types.RequestKind.{RequestKind}
use Rattle.api_claim.specs.declared.types.RequestKind.TheVariants.{Exactly, FirstAvailable}
use Rattle.request_rules.specs.Asked.{Wish, ways_of}
use Rattle.request_rows.specs.declared.ways.RequestRows.{RequestRows}

abbrev pub is_exactly : RequestKind → Bool
is_exactly (Exactly r) = true
is_exactly (FirstAvailable rs) = false

abbrev pub request_at : ℕ → Wish → RequestRows
request_at first q = record { first = first; ways = ways_of q.request.kind; exact = is_exactly q.request.kind }

abbrev pub requests_from : ℕ → List Wish → List RequestRows
requests_from first [] = []
requests_from first (q ∷ qs) = request_at first q ∷ requests_from (first + ways_of q.request.kind) qs
