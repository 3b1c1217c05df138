-- The documents of an input within its limit, or of the prefix within the limit.
use Rattle.std.specs.Prelude.{ℕ, ◌-◌, nat_le, List, take, length, if◌then◌else◌}
use Rattle.doc_split.specs.declared.limits.Limits.{Limits}
use Rattle.doc_split.specs.Documents.{Documents, Ending, Clean, Unclosed, Stray, TooLong, Long, documents_from}

-- the ending if more bytes follow than an input may have
abbrev pub past_end : Ending → Ending
past_end Clean = Long
past_end (Unclosed at) = Long
past_end (Stray at) = Stray at
past_end (TooLong at) = TooLong at
past_end Long = Long

abbrev pub with_more : Documents → Documents
with_more documents = record documents { ending = past_end documents.ending }

-- the documents of what is left of an input from an offset on
unfoldable pub documents_at : Limits → ℕ → List ℕ → Documents
documents_at limits at bytes =
    if nat_le (length bytes) (limits.input - at)
    then documents_from limits.document 0 at bytes
    else with_more (documents_from limits.document 0 at (take (limits.input - at) bytes))

-- the most bytes of a document, 2 MiB, and of an input, 1 GiB
abbrev pub the_limits : Limits
the_limits = record { document = 2097152; input = 1073741824 }

-- the documents of an input
abbrev pub documents_of : List ℕ → Documents
documents_of bytes = documents_at the_limits 0 bytes
