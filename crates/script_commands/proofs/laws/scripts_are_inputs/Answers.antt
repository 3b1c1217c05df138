use Rattle.script_commands.proofs.Script.{script_few, script_split}
use Rattle.script_commands.proofs.laws.scripts_are_inputs.Goals as goal

pub returns-clause-short : goal.returns-clause-short
returns-clause-short c = script_few c.documents_are_counted.ensures.earlier c.documents_are_counted.ensures.most

pub returns-clause-documents : goal.returns-clause-documents
returns-clause-documents c =
    script_split c.documents_are_counted.ensures.earlier c.documents_are_counted.ensures.most c.documents_lie_in_order.ensures.within c.documents_are_laid.ensures
