use Rattle.std.proofs.Common.{List, ℕ, Option, sym, subst}
use Rattle.object_fields.proofs.Texts.{cut_found, cut_missing}
use Rattle.object_fields.specs.Fields.{Reads}
use Rattle.object_fields.specs.Qualified.{qualified_from}
use Rattle.object_fields.proofs.qualified.QualName.read.Goals as goal

pub returns-in-Some : goal.returns-in-Some
returns-in-Some c =
    subst (λ (o : Option (List ℕ × List ℕ)). Reads c.domain_and_id.result (qualified_from c.args.path.now c.args.driver.now c.args.text.now o))
    (sym (cut_found c.args.text.now c.split_once.result c.in-Some.domain c.in-Some.id c.in-Some.is c.split_once.ensures.cases))
    c.domain_and_id.ensures

pub returns-in-None : goal.returns-in-None
returns-in-None c =
    subst (λ (o : Option (List ℕ × List ℕ)). Reads c.id_alone.result (qualified_from c.args.path.now c.args.driver.now c.args.text.now o))
    (sym (cut_missing c.args.text.now c.split_once.result c.in-None.is c.split_once.ensures.cases))
    c.id_alone.ensures
