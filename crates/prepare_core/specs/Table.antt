-- The row of a claim, and its pods.
use Rattle.std.specs.Prelude.{ℕ, Bool, false, true, not, ◌&&◌, nat_eq, List, [], ◌∷◌, ◌++◌, filter, Option, Some, None, if◌then◌else◌}
use Rattle.std.specs.Cmp.Lexicographic.{pointwise}
use Rattle.std.specs.List.{list_any}
use Rattle.object_fields.specs.declared.key.Key.{Key}
use Rattle.ckpt_journal.specs.Table.{is_of}
use Rattle.ckpt_journal.specs.declared.record.Claim.{Claim}
use Rattle.ckpt_journal.specs.declared.record.Row.{Row}
use Rattle.ckpt_journal.specs.declared.record.RowState.{RowState}
use Rattle.ckpt_journal.specs.declared.record.RowState.TheVariants as state
use Rattle.prepare_core.specs.declared.claim.ClaimForNode.{ClaimForNode}

-- the row of the claim with this uid
abbrev pub row_of : List ℕ → List Row → Option Row
row_of uid [] = None
row_of uid (r ∷ rows) = if is_of uid r then Some r else row_of uid rows

-- both are the key of one object
abbrev pub same_key : Key → Key → Bool
same_key a b = pointwise nat_eq a.namespace b.namespace && pointwise nat_eq a.name b.name

abbrev pub has_pod : Key → List Key → Bool
has_pod pod pods = list_any (λ p. same_key p pod) pods

-- the pods, and this one if it isn't among them
abbrev pub with_pod : Key → List Key → List Key
with_pod pod pods = if has_pod pod pods then pods else pods ++ pod ∷ []

-- the pods but for this one
abbrev pub without_pod : Key → List Key → List Key
without_pod pod pods = filter (λ p. not (same_key p pod)) pods

-- a row's claim with these pods
abbrev pub with_pods : List Key → Claim → Claim
with_pods pods k = record { uid = k.uid; key = k.key; pods = pods; devices = k.devices }

-- what is recorded of the claim handed in
abbrev pub claim_with : ClaimForNode → List Key → Claim
claim_with c pods = record { uid = c.uid; key = c.key; pods = pods; devices = c.devices }

-- The pods of a claim whose preparation begins for a pod: those of its row, if that was begun, and this one. Those of a
-- row that is leaving go.
abbrev pub pods_of_row : Key → RowState → List Key → List Key
pods_of_row pod state.Begun pods = with_pod pod pods
pods_of_row pod state.Prepared pods = pod ∷ []
pods_of_row pod state.Leaving pods = pod ∷ []

abbrev pub begun_pods : Key → Option Row → List Key
begun_pods pod None = pod ∷ []
begun_pods pod (Some r) = pods_of_row pod r.state r.claim.pods

abbrev pub is_prepared_state : RowState → Bool
is_prepared_state state.Begun = false
is_prepared_state state.Prepared = true
is_prepared_state state.Leaving = false

abbrev pub is_prepared_row : Option Row → Bool
is_prepared_row None = false
is_prepared_row (Some r) = is_prepared_state r.state

-- the claim of this uid is Prepared
abbrev pub is_prepared : List ℕ → List Row → Bool
is_prepared uid rows = is_prepared_row (row_of uid rows)
