use Rattle.std.proofs.Common.{◌≡◌, ◌∙◌, ℕ, List, IfOk, append_assoc, codes, subst, sym}
use Rattle.api_print.proofs.properties.QualNameNamed.name.Goals as goal

pub returns : goal.returns
returns c =
    let joined = c.in_ok-text.ensures.ok ∙ sym (append_assoc c.args.self.now.domain (codes "/") c.args.self.now.id) in
    subst (λ (b : List ℕ). IfOk c.new.result (λ name. name ≡ b)) joined c.new.ensures
