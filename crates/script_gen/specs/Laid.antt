-- How a script's documents lie in its text.
use Rattle.std.specs.Prelude.{ℕ, ◌+◌, List, [], ◌∷◌, length}
use Rattle.doc_split.specs.Documents.{Clean, Document, Documents}

-- texts one after another from an offset on, with one byte behind each
abbrev pub laid_from : ℕ → List (List ℕ) → List Document
laid_from at [] = []
laid_from at (text ∷ texts) = record { at = at; bytes = text } ∷ laid_from (at + (length text + 1)) texts

-- they are all documents, to the end
abbrev pub laid_out : ℕ → List (List ℕ) → Documents
laid_out at texts = record { documents = laid_from at texts; ending = Clean }
