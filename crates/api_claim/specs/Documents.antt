-- The requests as they are in the document of a claim, and what reads the name of one by itself.
use Rattle.std.specs.Prelude.{ℕ, not, List, Result, codes, option_and_then}
use Rattle.serde_json.specs.Data.{Data, Items}
use Rattle.serde_json.specs.Find.{as_array}
use Rattle.object_fields.specs.Fields.{dns_label_at, error_at, member_of, object_value, unless, ◌>>=◌}
use Rattle.object_fields.specs.Lists.{items_or_none}
use Rattle.object_fields.specs.declared.error.FieldError.{FieldError}
use Rattle.object_fields.specs.declared.kind.FieldErrorKind.TheVariants.{NotOne}
use Rattle.object_fields.specs.declared.path.Step.{Step}
use Rattle.api_claim.specs.Requests.{has_one_kind}

-- the list `spec.devices.requests`; none if it isn't there
abbrev pub listed_requests : Data → Items
listed_requests d =
    items_or_none (option_and_then as_array (option_and_then (member_of (codes "requests")) (option_and_then (member_of (codes "devices")) (member_of (codes "spec") d))))

-- the name of a request, whatever comes before it
abbrev pub request_label : List Step → Data → Result (List ℕ) FieldError
request_label path d =
    object_value path d >>= λ request.
    dns_label_at path (codes "name") request >>= λ name.
    unless (error_at path NotOne) (not (has_one_kind request)) name
