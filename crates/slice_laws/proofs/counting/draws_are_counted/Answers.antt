use Rattle.std.proofs.Common.{◌∙◌, [], codes, sym}
use Rattle.slice_laws.specs.Counted.{draw_alone}
use Rattle.api_slice.specs.Consumption.{amounts_most}
use Rattle.slice_laws.proofs.Counts as counts
use Rattle.slice_laws.proofs.Read.{Labels}
use Rattle.slice_laws.proofs.CountedDraws.{draw_reading, draw_step, draw_text, draws_are}
use Rattle.slice_laws.proofs.counting.draws_are_counted.Goals as goal

pub returns-clause-read : goal.returns-clause-read
returns-clause-read c = λ path ds sets h n few.
    let law = c.labels_are_names.ensures in
    let labels : Labels = record { name = law.name; object_ = law.object; label_once = law.label_once; object_once = law.object_once } in
    draws_are path 0 0 [] ds ∙ counts.read (codes "counterSet") amounts_most draw_text draw_alone draw_step (draw_reading labels) path ds sets h n few

pub returns-clause-many : goal.returns-clause-many
returns-clause-many c = λ path ds sets h n many.
    let law = c.labels_are_names.ensures in
    let labels : Labels = record { name = law.name; object_ = law.object; label_once = law.label_once; object_once = law.object_once } in
    draws_are path 0 0 [] ds ∙ counts.many (codes "counterSet") amounts_most draw_text draw_alone draw_step (draw_reading labels) path ds sets h n many

pub returns-clause-doubled : goal.returns-clause-doubled
returns-clause-doubled c = λ path ds before behind set h n few old.
    let law = c.labels_are_names.ensures in
    let labels : Labels = record { name = law.name; object_ = law.object; label_once = law.label_once; object_once = law.object_once } in
    draws_are path 0 0 [] ds ∙ counts.doubled (codes "counterSet") amounts_most draw_text draw_alone draw_step (draw_reading labels) path ds before behind set h n few old

pub returns-clause-few : goal.returns-clause-few
returns-clause-few c = λ path ds sets h.
    let law = c.labels_are_names.ensures in
    let labels : Labels = record { name = law.name; object_ = law.object; label_once = law.label_once; object_once = law.object_once } in
    counts.few (codes "counterSet") amounts_most draw_text draw_alone draw_step (draw_reading labels) path ds sets (sym (draws_are path 0 0 [] ds) ∙ h)

pub returns-clause-only_many : goal.returns-clause-only_many
returns-clause-only_many c = λ path ds e h k.
    let law = c.labels_are_names.ensures in
    let labels : Labels = record { name = law.name; object_ = law.object; label_once = law.label_once; object_once = law.object_once } in
    counts.only_many (codes "counterSet") amounts_most draw_text draw_alone draw_step (draw_reading labels) path ds e (sym (draws_are path 0 0 [] ds) ∙ h) k

pub returns-clause-only_doubled : goal.returns-clause-only_doubled
returns-clause-only_doubled c = λ path ds e h k.
    let law = c.labels_are_names.ensures in
    let labels : Labels = record { name = law.name; object_ = law.object; label_once = law.label_once; object_once = law.object_once } in
    counts.only_doubled (codes "counterSet") amounts_most draw_text draw_alone draw_step (draw_reading labels) path ds e (sym (draws_are path 0 0 [] ds) ∙ h) k
