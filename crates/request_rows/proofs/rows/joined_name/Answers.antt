use Rattle.std.proofs.Common.{◌≡◌, ◌∙◌, ℕ, List, IfOk, append_assoc, codes, subst, sym}
use Rattle.request_rows.proofs.rows.joined_name.Goals as goal

pub returns : goal.returns
returns c =
    let joined = c.in_ok-name.ensures.ok ∙ sym (append_assoc c.args.request.now (codes "/") c.args.sub.now) in
    subst (λ (b : List ℕ). IfOk c.new.result (λ name. name ≡ b)) joined c.new.ensures
