use Rattle.object_fields.specs.NewNames.{label_of}
use Rattle.api_claim.specs.Requests.{subrequest_name_at}
use Rattle.api_claim.proofs.Named.{Labels, subrequest_reading}
use Rattle.api_claim.proofs.laws.subrequest_names_are_new.Goals as goal

pub returns-clause-same : goal.returns-clause-same
returns-clause-same c =
    let law = c.labels_are_names.ensures in
    let labels : Labels = record { name = law.name; object_ = law.object; label_once = law.label_once; object_once = law.object_once } in
    c.names_are_new.ensures.same label_of subrequest_name_at (subrequest_reading labels)

pub returns-clause-new : goal.returns-clause-new
returns-clause-new c =
    let law = c.labels_are_names.ensures in
    let labels : Labels = record { name = law.name; object_ = law.object; label_once = law.label_once; object_once = law.object_once } in
    c.names_are_new.ensures.new label_of subrequest_name_at (subrequest_reading labels)

pub returns-clause-doubled : goal.returns-clause-doubled
returns-clause-doubled c =
    let law = c.labels_are_names.ensures in
    let labels : Labels = record { name = law.name; object_ = law.object; label_once = law.label_once; object_once = law.object_once } in
    c.names_are_new.ensures.doubled label_of subrequest_name_at (subrequest_reading labels)

pub returns-clause-only : goal.returns-clause-only
returns-clause-only c =
    let law = c.labels_are_names.ensures in
    let labels : Labels = record { name = law.name; object_ = law.object; label_once = law.label_once; object_once = law.object_once } in
    c.names_are_new.ensures.only label_of subrequest_name_at (subrequest_reading labels)
