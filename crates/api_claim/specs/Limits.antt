-- The limits and name rules that each claim and each status keeps which is read (API reference of
-- resource.k8s.io/v1).
use Rattle.std.specs.Prelude.{◌≡◌, ℕ, ◌≤◌, ◌^◌, ◌-◌, true, List, [], ◌∷◌, length, map}
use Rattle.object_fields.specs.Limits.{KeyKept, VersionKept}
use Rattle.object_fields.specs.Names.{is_dns_label}
use Rattle.object_fields.specs.NewNames.{AreDifferent, is_among}
use Rattle.object_fields.specs.Qualified.{IsFullName}
use Rattle.object_fields.specs.Selectors.{selectors_most}
use Rattle.object_fields.specs.declared.meta.Scope.TheVariants.{Namespaced}
use Rattle.device_taints.specs.Limits.{TolerationsKept}
use Rattle.api_claim.specs.Constraints.{constraints_most}
use Rattle.api_claim.specs.Fields.{ClaimFields, StatusFields}
use Rattle.api_claim.specs.Requests.{all_names, requests_most, subrequests_most}
use Rattle.api_claim.specs.Status.{results_most}
use Rattle.api_claim.specs.declared.types.AllocationMode.{AllocationMode}
use Rattle.api_claim.specs.declared.types.AllocationMode.TheVariants.{ExactCount, All}
use Rattle.api_claim.specs.declared.types.DeviceAsk.{DeviceAsk}
use Rattle.api_claim.specs.declared.types.DeviceConstraint.{DeviceConstraint}
use Rattle.api_claim.specs.declared.types.DeviceRequest.{DeviceRequest}
use Rattle.api_claim.specs.declared.types.DeviceSubRequest.{DeviceSubRequest}
use Rattle.api_claim.specs.declared.types.RequestKind.{RequestKind}
use Rattle.api_claim.specs.declared.types.RequestKind.TheVariants as kind

-- each of them
abbrev pub EachOf : {A : Type 0} → (A → Type 0) → List A → Type 0
EachOf P [] = Unit {0}
EachOf P (x ∷ xs) = P x × EachOf P xs

pub record AreNames (names : List (List ℕ)) : Type 0 where
  pub labels : EachOf (λ name. is_dns_label name ≡ true) names
  pub distinct : AreDifferent names

abbrev pub CountKept : AllocationMode → Type 0
CountKept (ExactCount n) = (1 ≤ n) × (n ≤ 2 ^ 31 - 1)
CountKept All = Unit {0}

pub record AskKept (ask : DeviceAsk) : Type 0 where
  pub selectors : length ask.selectors ≤ selectors_most
  pub count : CountKept ask.mode
  pub tolerations : TolerationsKept ask.tolerations

pub record SubrequestsKept (subrequests : List DeviceSubRequest) : Type 0 where
  pub some : 1 ≤ length subrequests
  pub few : length subrequests ≤ subrequests_most
  pub names : AreNames (map (λ s. s.name) subrequests)
  pub asks : EachOf (λ s. AskKept s.ask) subrequests

abbrev pub KindKept : RequestKind → Type 0
KindKept (kind.Exactly exactly) = AskKept exactly.ask
KindKept (kind.FirstAvailable subrequests) = SubrequestsKept subrequests

pub record RequestsKept (requests : List DeviceRequest) : Type 0 where
  pub some : 1 ≤ length requests
  pub few : length requests ≤ requests_most
  pub names : AreNames (map (λ r. r.name) requests)
  pub kinds : EachOf (λ r. KindKept r.kind) requests

pub record ConstraintKept (names : List (List ℕ)) (constraint : DeviceConstraint) : Type 0 where
  pub requests : EachOf (λ t. is_among t names ≡ true) constraint.requests
  pub attribute : IsFullName constraint.attribute

-- of a claim whose requests have these names
pub record ConstraintsKept (names : List (List ℕ)) (constraints : List DeviceConstraint) : Type 0 where
  pub few : length constraints ≤ constraints_most
  pub each_known : EachOf (ConstraintKept names) constraints

pub record ClaimKept (claim : ClaimFields) : Type 0 where
  pub key : KeyKept Namespaced claim.key
  pub version : VersionKept claim.version
  pub requests : RequestsKept claim.requests
  pub constraints : ConstraintsKept (all_names claim.requests) claim.constraints

pub record StatusKept (status : StatusFields) : Type 0 where
  pub version : VersionKept status.version
  pub some : 1 ≤ length status.results
  pub few : length status.results ≤ results_most
