use Rattle.journal_laws.proofs.Rows.{entries_more, entries_none, entries_own, entries_same, kubelet_none, summary_none}
use Rattle.journal_laws.proofs.laws.digits_begin_entries.Goals as goal

pub returns-clause-same : goal.returns-clause-same
returns-clause-same c = entries_same

pub returns-clause-none : goal.returns-clause-none
returns-clause-none c = entries_none

pub returns-clause-more : goal.returns-clause-more
returns-clause-more c = entries_more

pub returns-clause-entries : goal.returns-clause-entries
returns-clause-entries c = entries_own

pub returns-clause-kubelet : goal.returns-clause-kubelet
returns-clause-kubelet c = kubelet_none

pub returns-clause-summary : goal.returns-clause-summary
returns-clause-summary c = summary_none
