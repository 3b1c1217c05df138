-- What opening a kubelet again comes to.
use Rattle.std.specs.Prelude.{ℕ, ◌≡◌, List, length, Option, Some}
use Rattle.dra_ports.specs.DiskContent.{Content}
use Rattle.journal_text.specs.Journal.{kubelet_line}
use Rattle.pod_prepare.specs.Opening.{Reopens, Table}
use Rattle.pod_prepare.specs.Texts.{reopened_text}
use Rattle.pod_prepare.specs.Words.{tells}

-- A kubelet was opened again, and how many claims it has is the text. What it had stays, if the disk exposes its content.
pub record DidReopen (job : ℕ) (old : Option Table) (found : Option Content) (new : Option Table) (text : List ℕ) : Type 0 where
  pub again : Table
  pub reopened : Reopens (tells found) old found again
  pub table : new ≡ Some again
  pub printed : text ≡ kubelet_line job (reopened_text (length again.rows))
