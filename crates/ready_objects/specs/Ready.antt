-- Classes and claims whose selectors compile. The first selector that doesn't, in the order in which
-- the fields are read, is the error.
use Rattle.std.specs.Prelude.{◌≡◌, ℕ, ◌+◌, List, [], ◌∷◌, ◌++◌, map, Result, Ok, Err, codes}
use Rattle.object_fields.specs.Fields.{field_error, ◌>>=◌}
use Rattle.object_fields.specs.declared.error.FieldError.{FieldError}
use Rattle.object_fields.specs.declared.kind.FieldErrorKind.TheVariants.{Selector}
use Rattle.object_fields.specs.declared.kind.Stage.{Stage}
use Rattle.object_fields.specs.declared.path.Step.{Step}
use Rattle.object_fields.specs.declared.path.Step.TheVariants.{Member, Place}
use Rattle.api_claim.specs.declared.types.DeviceRequest.{DeviceRequest}
use Rattle.api_claim.specs.declared.types.DeviceSubRequest.{DeviceSubRequest}
use Rattle.api_claim.specs.declared.types.RequestKind.{RequestKind}
use Rattle.api_claim.specs.declared.types.RequestKind.TheVariants.{Exactly, FirstAvailable}
use Rattle.api_claim.specs.declared.types.ResourceClaim.{ResourceClaim}
use Rattle.api_cluster.specs.declared.types.DeviceClass.{DeviceClass}
use Rattle.device_selector.specs.Selectors.{selector_of}

-- ---- texts

-- a stage refuses the selector at the path
abbrev pub selector_error : List Step → Stage → FieldError
selector_error path stage = field_error (path ++ Member (codes "cel") ∷ []) (codes "expression") (Selector stage)

-- the text, or its error at `cel.expression` of what is at the path
abbrev pub text_by : {A : Type 0} → List Step → List ℕ → Result A Stage → Result (List ℕ) FieldError
text_by path text (Ok c) = Ok text
text_by path text (Err stage) = Err (selector_error path stage)

abbrev pub text_at : List Step → List ℕ → Result (List ℕ) FieldError
text_at path text = text_by path text (selector_of text)

-- after those before, the texts of a list of selectors from an index on; the first error counts
abbrev pub texts_from : List Step → ℕ → List (List ℕ) → List (List ℕ) → Result (List (List ℕ)) FieldError
texts_from path n before [] = Ok before
texts_from path n before (t ∷ ts) = text_at (path ++ Place n ∷ []) t >>= λ s. texts_from path (n + 1) (before ++ s ∷ []) ts

abbrev pub texts_at : List Step → List (List ℕ) → Result (List (List ℕ)) FieldError
texts_at path ts = texts_from path 0 [] ts

-- ---- classes

abbrev pub class_path : List Step
class_path = Member (codes "spec") ∷ Member (codes "selectors") ∷ []

-- the class, if its selectors compile
abbrev pub class_ready : DeviceClass → Result DeviceClass FieldError
class_ready c = texts_at class_path c.selectors >>= λ texts. Ok c

-- ---- claims

abbrev pub requests_path : List Step
requests_path = Member (codes "spec") ∷ Member (codes "devices") ∷ Member (codes "requests") ∷ []

abbrev pub selectors_path : List Step → List Step
selectors_path path = path ++ Member (codes "selectors") ∷ []

-- of each subrequest, after those before
abbrev pub options_from : List Step → ℕ → List (List (List ℕ)) → List DeviceSubRequest → Result (List (List (List ℕ))) FieldError
options_from path n before [] = Ok before
options_from path n before (r ∷ rs) =
    texts_at (selectors_path (path ++ Place n ∷ [])) r.ask.selectors >>= λ ts. options_from path (n + 1) (before ++ ts ∷ []) rs

-- of the one way to satisfy a request, which is at the path
abbrev pub only_texts : List Step → List (List ℕ) → Result (List (List (List ℕ))) FieldError
only_texts path selectors = texts_at (selectors_path path) selectors >>= λ ts. Ok (ts ∷ [])

-- of the ways to satisfy a request: `exactly`, or one of its subrequests
abbrev pub kind_texts : List Step → RequestKind → Result (List (List (List ℕ))) FieldError
kind_texts path (Exactly r) = only_texts (path ++ Member (codes "exactly") ∷ []) r.ask.selectors
kind_texts path (FirstAvailable rs) = options_from (path ++ Member (codes "firstAvailable") ∷ []) 0 [] rs

-- of each request, after those before
abbrev pub requests_from : ℕ → List (List (List (List ℕ))) → List DeviceRequest → Result (List (List (List (List ℕ)))) FieldError
requests_from n before [] = Ok before
requests_from n before (r ∷ rs) = kind_texts (requests_path ++ Place n ∷ []) r.kind >>= λ ts. requests_from (n + 1) (before ++ ts ∷ []) rs

-- the claim, if its selectors compile
abbrev pub claim_ready : ResourceClaim → Result ResourceClaim FieldError
claim_ready c = requests_from 0 [] c.requests >>= λ texts. Ok c

-- the texts of the selectors of a claim, by its requests and by the ways to satisfy each
abbrev pub kind_selectors : RequestKind → List (List (List ℕ))
kind_selectors (Exactly r) = r.ask.selectors ∷ []
kind_selectors (FirstAvailable rs) = map (λ r. r.ask.selectors) rs

abbrev pub claim_selectors : ResourceClaim → List (List (List (List ℕ)))
claim_selectors c = map (λ r. kind_selectors r.kind) c.requests

-- ---- what is kept

-- a class with its compiled selectors, which contracts see as their texts
pub record IsReadyClass (class : DeviceClass) (selectors : List (List ℕ)) : Type 0 where
  pub texts : selectors ≡ class.selectors
  pub ready : class_ready class ≡ Ok class

pub record IsReadyClaim (claim : ResourceClaim) (selectors : List (List (List (List ℕ)))) : Type 0 where
  pub texts : selectors ≡ claim_selectors claim
  pub ready : claim_ready claim ≡ Ok claim
