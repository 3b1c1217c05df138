-- How the spec of a ResourceClaim is printed (API reference of resource.k8s.io/v1).
use Rattle.std.specs.Prelude.{ℕ, List, Option, Some, None, codes}
use Rattle.serde_json.specs.Data.{Data, number, unsigned, string, object, Members, no_members, member}
use Rattle.api_claim.specs.declared.types.AllocationMode.{AllocationMode}
use Rattle.api_claim.specs.declared.types.AllocationMode.TheVariants.{ExactCount, All}
use Rattle.api_claim.specs.declared.types.DeviceConstraint.{DeviceConstraint}
use Rattle.api_claim.specs.declared.types.DeviceRequest.{DeviceRequest}
use Rattle.api_claim.specs.declared.types.DeviceSubRequest.{DeviceSubRequest}
use Rattle.api_claim.specs.declared.types.ExactDeviceRequest.{ExactDeviceRequest}
use Rattle.api_claim.specs.declared.types.RequestKind.{RequestKind}
use Rattle.api_claim.specs.declared.types.RequestKind.TheVariants as kind
use Rattle.api_claim.specs.declared.types.ResourceClaim.{ResourceClaim}
use Rattle.api_print.specs.Classes.{selectors_if}
use Rattle.api_print.specs.Devices.{full_name}
use Rattle.api_print.specs.Shapes.{flag_if, list_if, list_json, member_if}
use Rattle.api_print.specs.Taints.{tolerations_if}

-- ---- what is asked for

abbrev pub mode_text : AllocationMode → List ℕ
mode_text (ExactCount n) = codes "ExactCount"
mode_text All = codes "All"

-- the count is printed even if it is 1
abbrev pub count_if : AllocationMode → Option Data
count_if (ExactCount n) = Some (number (unsigned n))
count_if All = None

abbrev pub exactly_json : ExactDeviceRequest → Data
exactly_json e =
    object (member_if (codes "adminAccess") (flag_if e.admin)
    (member (codes "allocationMode") (string (mode_text e.ask.mode))
    (member_if (codes "count") (count_if e.ask.mode)
    (member (codes "deviceClassName") (string e.ask.class)
    (member_if (codes "selectors") (selectors_if e.ask.selectors)
    (member_if (codes "tolerations") (tolerations_if e.ask.tolerations) no_members))))))

abbrev pub subrequest_json : DeviceSubRequest → Data
subrequest_json s =
    object (member (codes "allocationMode") (string (mode_text s.ask.mode))
    (member_if (codes "count") (count_if s.ask.mode)
    (member (codes "deviceClassName") (string s.ask.class)
    (member (codes "name") (string s.name)
    (member_if (codes "selectors") (selectors_if s.ask.selectors)
    (member_if (codes "tolerations") (tolerations_if s.ask.tolerations) no_members))))))

-- ---- requests

-- the member of the request's kind, before others
abbrev pub kind_before : RequestKind → Members → Members
kind_before (kind.Exactly exactly) ms = member (codes "exactly") (exactly_json exactly) ms
kind_before (kind.FirstAvailable subrequests) ms = member (codes "firstAvailable") (list_json subrequest_json subrequests) ms

unfoldable pub request_json : DeviceRequest → Data
request_json r = object (kind_before r.kind (member (codes "name") (string r.name) no_members))

-- ---- constraints

-- the requests are left out if they are all
abbrev pub constraint_json : DeviceConstraint → Data
constraint_json c =
    object (member (codes "matchAttribute") (string (full_name c.attribute))
    (member_if (codes "requests") (list_if string c.requests) no_members))

-- ---- the spec

abbrev pub claim_devices_json : ResourceClaim → Data
claim_devices_json claim =
    object (member_if (codes "constraints") (list_if constraint_json claim.constraints)
    (member (codes "requests") (list_json request_json claim.requests) no_members))

unfoldable pub claim_spec_json : ResourceClaim → Data
claim_spec_json claim = object (member (codes "devices") (claim_devices_json claim) no_members)
