-- The selectors of requests, and what an inventory knows of them.
use Rattle.std.specs.Prelude.{◌≡◌, ℕ, List, [], ◌∷◌, ◌++◌, Bool, true, ◌||◌, Option, None, Some, map, if◌then◌else◌}
use Rattle.std.specs.List.{flat_map, list_all}
use Rattle.api_claim.specs.declared.types.DeviceRequest.{DeviceRequest}
use Rattle.api_claim.specs.declared.types.RequestKind.{RequestKind}
use Rattle.api_claim.specs.declared.types.RequestKind.TheVariants.{Exactly, FirstAvailable}
use Rattle.api_claim.specs.declared.types.ResourceClaim.{ResourceClaim}
use Rattle.api_cluster.specs.declared.types.DeviceClass.{DeviceClass}
use Rattle.api_slice.specs.declared.types.ResourceSlice.{ResourceSlice}
use Rattle.pool_view.specs.declared.stored.Stored.{Stored}
use Rattle.pool_view.specs.Inventory.{Named}
use Rattle.pool_view.specs.Known.{KnownFields, is_sure}
use Rattle.pool_view.specs.Names.{at_name}
use Rattle.pool_view.specs.Pools.{Offered}
use Rattle.counter_sets.specs.Holding.{Holders}
use Rattle.request_rows.specs.Columns.{has_any}
use Rattle.request_rules.specs.Match.{ClassTable}
use Rattle.full_nodes.specs.Full.{all_held, are_exclusive}

-- ---- the selectors of requests

-- the selectors of a class and then a request's own, if there are any
abbrev pub some_texts : (class own : List (List ℕ)) → List (List (List ℕ))
some_texts class own = if has_any class || has_any own then (class ++ own) ∷ [] else []

-- none if the class doesn't exist, of which no device is
abbrev pub ask_texts : Option (Stored DeviceClass) → List (List ℕ) → List (List (List ℕ))
ask_texts None own = []
ask_texts (Some c) own = some_texts c.object.selectors own

abbrev pub kind_texts : ClassTable → RequestKind → List (List (List ℕ))
kind_texts classes (Exactly r) = ask_texts (at_name classes r.ask.class) r.ask.selectors
kind_texts classes (FirstAvailable rs) = []

abbrev pub requests_texts : ClassTable → List DeviceRequest → List (List (List ℕ))
requests_texts classes rs = flat_map (λ r. kind_texts classes r.kind) rs

-- the selectors of each request without alternatives that has any, in order
abbrev pub texts_of : ClassTable → List ResourceClaim → List (List (List ℕ))
texts_of classes claims = flat_map (λ c. requests_texts classes c.requests) claims

-- ---- what is known of them

-- what an inventory knows of each of these lists of selectors
abbrev pub known_of : Named ResourceSlice → List (List (List ℕ)) → List KnownFields
known_of slices lists = map (λ texts. record { slices = slices; texts = texts }) lists

abbrev pub is_sure_by : List (List ℕ) → Option (Stored ResourceSlice) → Bool
is_sure_by texts None = true
is_sure_by texts (Some s) = is_sure texts s.object

-- the selectors have no evaluation error on the slice of the name, if there is one
abbrev pub is_sure_at : List ℕ → KnownFields → Bool
is_sure_at name k = is_sure_by k.texts (at_name k.slices name)

abbrev pub all_sure_at : List KnownFields → List ℕ → Bool
all_sure_at known name = list_all (is_sure_at name) known

-- the lists have no evaluation error on the slices of the devices
unfoldable pub are_sure : List KnownFields → List Offered → Bool
are_sure known devices = list_all (λ o. all_sure_at known o.slice.name) devices

-- the claims are exclusive, and this is known of their selectors
pub record IsKnownOf (slices : Named ResourceSlice) (classes : ClassTable) (claims : List ResourceClaim) (known : List KnownFields) : Type 0 where
  pub exclusive : are_exclusive claims ≡ true
  pub known_is : known ≡ known_of slices (texts_of classes claims)

-- each of the devices is held, and by what is known no selector has an evaluation error on one
pub record IsFullOf (h : Holders) (devices : List Offered) (known : List KnownFields) : Type 0 where
  pub held : all_held h devices ≡ true
  pub sure : are_sure known devices ≡ true

-- the same, where something is known
abbrev pub IsFullBy : Holders → List Offered → Option (List KnownFields) → Type 0
IsFullBy h devices None = ⊥
IsFullBy h devices (Some known) = IsFullOf h devices known
