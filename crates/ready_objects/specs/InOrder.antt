-- The selectors of a class or a claim in the order in which they are read, each with its path, and
-- what they decide.
use Rattle.std.specs.Prelude.{◌≡◌, ℕ, ◌+◌, List, [], ◌∷◌, ◌++◌, Result, Ok, Err, codes}
use Rattle.object_fields.specs.declared.error.FieldError.{FieldError}
use Rattle.object_fields.specs.declared.kind.Stage.{Stage}
use Rattle.object_fields.specs.declared.path.Step.{Step}
use Rattle.object_fields.specs.declared.path.Step.TheVariants.{Member, Place}
use Rattle.api_claim.specs.Limits.{EachOf}
use Rattle.api_claim.specs.declared.types.DeviceRequest.{DeviceRequest}
use Rattle.api_claim.specs.declared.types.DeviceSubRequest.{DeviceSubRequest}
use Rattle.api_claim.specs.declared.types.RequestKind.{RequestKind}
use Rattle.api_claim.specs.declared.types.RequestKind.TheVariants.{Exactly, FirstAvailable}
use Rattle.api_claim.specs.declared.types.ResourceClaim.{ResourceClaim}
use Rattle.api_cluster.specs.declared.types.DeviceClass.{DeviceClass}
use Rattle.device_selector.specs.Selectors.{IsSelector, selector_of}
use Rattle.ready_objects.specs.Ready.{class_path, requests_path, selector_error, selectors_path}

-- a text of a list `selectors`, and the path to its index there
pub record SelectorAt : Type 0 where
  pub path : List Step
  pub text : List ℕ

-- those of a list that is at the path, from an index on
abbrev pub listed : List Step → ℕ → List (List ℕ) → List SelectorAt
listed path n [] = []
listed path n (t ∷ ts) = record { path = path ++ Place n ∷ []; text = t } ∷ listed path (n + 1) ts

abbrev pub class_listed : DeviceClass → List SelectorAt
class_listed c = listed class_path 0 c.selectors

abbrev pub subrequests_listed : List Step → ℕ → List DeviceSubRequest → List SelectorAt
subrequests_listed path n [] = []
subrequests_listed path n (r ∷ rs) = listed (selectors_path (path ++ Place n ∷ [])) 0 r.ask.selectors ++ subrequests_listed path (n + 1) rs

abbrev pub kind_listed : List Step → RequestKind → List SelectorAt
kind_listed path (Exactly r) = listed (selectors_path (path ++ Member (codes "exactly") ∷ [])) 0 r.ask.selectors
kind_listed path (FirstAvailable rs) = subrequests_listed (path ++ Member (codes "firstAvailable") ∷ []) 0 rs

abbrev pub requests_listed : ℕ → List DeviceRequest → List SelectorAt
requests_listed n [] = []
requests_listed n (r ∷ rs) = kind_listed (requests_path ++ Place n ∷ []) r.kind ++ requests_listed (n + 1) rs

abbrev pub claim_listed : ResourceClaim → List SelectorAt
claim_listed c = requests_listed 0 c.requests

-- each text is a selector
abbrev pub EachCompiles : List SelectorAt → Type 0
EachCompiles ss = EachOf (λ s. IsSelector s.text) ss

-- The object is returned if and only if each text is a selector; otherwise the error is that of the
-- first that is none.
pub record AreDecisive {A : Type 0} (ss : List SelectorAt) (object : A) (answer : Result A FieldError) : Type 0 where
  pub ready : EachCompiles ss → answer ≡ Ok object
  pub each : answer ≡ Ok object → EachCompiles ss
  pub first : (before after : List SelectorAt) (s : SelectorAt) (stage : Stage) → ss ≡ before ++ s ∷ after → EachCompiles before → selector_of s.text ≡ Err stage → answer ≡ Err (selector_error s.path stage)
