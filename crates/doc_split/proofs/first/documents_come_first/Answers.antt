use Rattle.doc_split.proofs.Scanned.{closed_at_end, first_of}
use Rattle.doc_split.proofs.Steps.{blank_step, none_from}
use Rattle.doc_split.proofs.first.documents_come_first.Goals as goal

pub returns-clause-closed : goal.returns-clause-closed
returns-clause-closed c = closed_at_end

pub returns-clause-first : goal.returns-clause-first
returns-clause-first c = first_of

pub returns-clause-blank : goal.returns-clause-blank
returns-clause-blank c = blank_step

pub returns-clause-none : goal.returns-clause-none
returns-clause-none c = none_from
