-- What a plan's claims get for its pod, made before any of it is put at its key.
use Rattle.std.specs.Prelude.{ℕ, false, List, [], ◌∷◌, ◌++◌, Option, None, Some, map}
use Rattle.std.specs.BTreeMap.{insert_entry}
use Rattle.object_fields.specs.declared.key.Key.{Key}
use Rattle.pool_view.specs.Names.{at_key, key_cmp}
use Rattle.cluster.specs.declared.plan.Grant.{Grant}
use Rattle.cluster.specs.declared.plan.Plan.{Plan}
use Rattle.cluster.specs.declared.reserved.Prepared.{Prepared}
use Rattle.cluster.specs.declared.state.ClaimState.{ClaimState}
use Rattle.cluster.specs.declared.state.Granted.{Granted}
use Rattle.cluster.specs.declared.state.Use.{Use}
use Rattle.cluster.specs.declared.state.Use.TheVariants.{Assumed}
use Rattle.cluster.specs.Tables.{changed_at}

-- the users of a claim with the pod, which assumes the claim's version
abbrev pub users_with : Key → Option ClaimState → List (Key × Use)
users_with pod None = []
users_with pod (Some c) = insert_entry key_cmp c.users pod (Assumed c.claim.version)

abbrev pub joined_use : Key → List (Key × ClaimState) → Key → Prepared
joined_use pod claims k = record { claim = k; grant = None; users = users_with pod (at_key claims k) }

abbrev pub granted_use : List ℕ → Key → List (Key × ClaimState) → Grant → Prepared
granted_use node pod claims g =
    record { claim = g.claim; grant = Some (record { node = node; results = g.results; published = false }); users = users_with pod (at_key claims g.claim) }

-- what the claims of a plan get
abbrev pub uses_of : Key → Plan → List (Key × ClaimState) → List Prepared
uses_of pod plan claims = map (granted_use plan.node pod claims) plan.grants ++ map (joined_use pod claims) plan.joins

-- the grant, if there is a new one
abbrev pub newer : Option Granted → Option Granted → Option Granted
newer None old = old
newer (Some g) old = Some g

abbrev pub given_by : Option Granted → List (Key × Use) → ClaimState → ClaimState
given_by grant users c = record c { grant = newer grant c.grant; users = users }

abbrev pub given : Prepared → ClaimState → ClaimState
given p c = given_by p.grant p.users c

-- the claims with all that was prepared
abbrev pub placed : List Prepared → List (Key × ClaimState) → List (Key × ClaimState)
placed [] claims = claims
placed (p ∷ ps) claims = placed ps (changed_at p.claim (given p) claims)
