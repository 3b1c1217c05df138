use Rattle.std.proofs.Common.{◌≡◌, ◌∙◌, ◌++◌, List, ℕ, ap, subst}
use Rattle.std.specs.List.{join_by}
use Rattle.std.specs.Prelude.{IfOk, codes, string_bytes}
use Rattle.object_fields.specs.Keys.{key_text}
use Rattle.journal_text.specs.Journal.{kubelet_line}
use Rattle.pod_prepare.specs.Texts.{name_text}
use Rattle.pod_prepare.proofs.Worded.{in_seven}
use Rattle.pod_prepare.proofs.line.names_line.Goals as goal

pub returns : goal.returns
returns c = subst (λ (t : List ℕ). IfOk c.kubelet_line.result (λ v. v.items ≡ kubelet_line c.args.job t))
    (c.as_str.ensures.value ∙ c.in_ok-text.ensures.ok
    ∙ ap (λ (l : List ℕ). codes "prepared" ++ (codes " " ++ (key_text c.args.pod.now ++ (codes " " ++ (key_text c.args.claim.now ++ (codes " " ++ l)))))) (c.in_ok-names.ensures ∙ ap (join_by name_text (codes ",")) c.as_slice.ensures)
    ∙ in_seven (codes "prepared") (codes " ") (key_text c.args.pod.now) (codes " ") (key_text c.args.claim.now) (codes " ") (join_by name_text (codes ",") c.args.names.now)) c.kubelet_line.ensures
