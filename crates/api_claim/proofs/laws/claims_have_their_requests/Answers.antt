use Rattle.api_claim.specs.Documents.{request_label}
use Rattle.api_claim.specs.Requests.{request_name_at}
use Rattle.api_claim.proofs.Named.{Labels, claim_names, request_reading}
use Rattle.api_claim.proofs.laws.claims_have_their_requests.Goals as goal

pub returns : goal.returns
returns c =
    let law = c.labels_are_names.ensures in
    let labels : Labels = record { name = law.name; object_ = law.object; label_once = law.label_once; object_once = law.object_once } in
    claim_names (c.names_are_new.ensures.same request_label request_name_at (request_reading labels))
