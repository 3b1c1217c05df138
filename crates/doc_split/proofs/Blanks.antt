-- How many blanks bytes begin with.
use Rattle.std.proofs.Common.{ℕ, ◌≤◌, List, length}
use Rattle.std.specs.List.{prefix_len}
use Rattle.std.proofs.lemmas.List.Sums.{prefix_len-le-length}
use Rattle.doc_split.specs.Documents.{is_blank}

pub blanks_within : (bytes : List ℕ) → prefix_len is_blank bytes ≤ length bytes
blanks_within bytes = prefix_len-le-length is_blank bytes
