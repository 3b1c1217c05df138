use Rattle.script_gen.proofs.Laying.{script_lies}
use Rattle.script_gen.proofs.laid.documents_are_laid.Goals as goal

pub returns : goal.returns
returns c = script_lies (record {
  closed = c.documents_come_first.ensures.closed;
  first = c.documents_come_first.ensures.first;
  blank = c.documents_come_first.ensures.blank;
  none = c.documents_come_first.ensures.none;
})
