use Rattle.std.proofs.Common.{◌≡◌, ◌∙◌, List, ℕ, subst}
use Rattle.std.specs.Prelude.{IfOk, codes}
use Rattle.object_fields.specs.Keys.{key_text}
use Rattle.journal_text.specs.Journal.{kubelet_line}
use Rattle.pod_prepare.proofs.Worded.{in_four}
use Rattle.pod_prepare.proofs.line.absent_line.Goals as goal

pub returns : goal.returns
returns c = subst (λ (t : List ℕ). IfOk c.kubelet_line.result (λ v. v.items ≡ kubelet_line c.args.job t))
    (c.as_str.ensures.value ∙ c.in_ok-text.ensures.ok ∙ in_four c.args.what.now (codes " ") (key_text c.args.pod.now) (codes " NotFound")) c.kubelet_line.ensures
