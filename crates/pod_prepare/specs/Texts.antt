-- The lines of the kubelet.
use Rattle.std.specs.Prelude.{ℕ, List, ◌++◌, codes, decimal, Result, Ok, Err}
use Rattle.std.specs.List.{join_by}
use Rattle.object_fields.specs.declared.key.Key.{Key}
use Rattle.object_fields.specs.Keys.{key_text}
use Rattle.journal_text.specs.Journal.{kubelet_line}
use Rattle.prepare_core.specs.declared.error.KubeletError.{KubeletError}
use Rattle.prepare_core.specs.declared.error.KubeletError.TheVariants.{NotAllocated, NotReserved, OtherNode, DriverFault, DiskFault, Full, Closed, NotPrepared, Memory, NotAJournal}

-- an error's word
abbrev pub error_word : KubeletError → List ℕ
error_word NotAllocated = codes "NotAllocated"
error_word NotReserved = codes "NotReserved"
error_word OtherNode = codes "OtherNode"
error_word DriverFault = codes "DriverFault"
error_word DiskFault = codes "DiskFault"
error_word Full = codes "Full"
error_word Closed = codes "Closed"
error_word NotPrepared = codes "NotPrepared"
error_word Memory = codes "Memory"
error_word (NotAJournal at) = codes "NotAJournal"

abbrev pub name_text : List ℕ → List ℕ
name_text name = name

-- what is said of a pod and one of its claims
abbrev pub claim_text : List ℕ → Key → Key → List ℕ
claim_text word pod claim = word ++ codes " " ++ key_text pod ++ codes " " ++ key_text claim

-- a claim was prepared, and these are the names of its devices, joined by `,`; or it was refused
abbrev pub prepared_text : Key → Key → Result (List (List ℕ)) KubeletError → List ℕ
prepared_text pod claim (Ok names) = claim_text (codes "prepared") pod claim ++ codes " " ++ join_by name_text (codes ",") names
prepared_text pod claim (Err why) = claim_text (codes "prepare-refused") pod claim ++ codes " " ++ error_word why

-- a claim was given up, or that was refused
abbrev pub unprepared_text : Key → Key → Result (Unit {0}) KubeletError → List ℕ
unprepared_text pod claim (Ok done) = claim_text (codes "unprepared") pod claim
unprepared_text pod claim (Err why) = claim_text (codes "unprepare-refused") pod claim ++ codes " " ++ error_word why

-- the pod isn't there
abbrev pub absent_text : List ℕ → Key → List ℕ
absent_text word pod = word ++ codes " " ++ key_text pod ++ codes " NotFound"

-- the kubelet was opened again, and has so many claims
abbrev pub reopened_text : ℕ → List ℕ
reopened_text claims = codes "reopened claims=" ++ decimal claims
