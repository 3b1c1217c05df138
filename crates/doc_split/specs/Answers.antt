-- What a call for the next document returns.
use Rattle.std.specs.Prelude.{ℕ, ◌≡◌, ◌≤◌, ◌<◌, ◌+◌, ◌⊎◌, List, [], ◌∷◌, ◌++◌, Option, None, Some, Result, Ok, Err, IfErr, IsErrOf, OnOk, length}
use Rattle.std.specs.Io.KnownBytes.{Consumes, IsAtEnd}
use Rattle.dra_ports.specs.Causes.{Rose}
use Rattle.dra_ports.specs.Prefixes.{ConsumesPrefix}
use Rattle.doc_split.specs.declared.doc.Doc.{Doc}
use Rattle.doc_split.specs.declared.error.DocError.{DocError}
use Rattle.doc_split.specs.declared.error.DocError.TheVariants as error
use Rattle.doc_split.specs.declared.limits.Limits.{Limits}
use Rattle.doc_split.specs.Documents.{Document, Ending, Clean, Unclosed, Stray, TooLong, Long, before, nothing}
use Rattle.doc_split.specs.Limits.{documents_at}
use Rattle.doc_split.specs.Split.{Split, remaining}

-- The document is the first of what remains: whatever follows the bytes that were taken, it comes
-- before the documents that remain now.
pub record IsNext (limits : Limits) (old new : Split) (left left_now : Option (List ℕ)) (doc : Document) : Type 0 where
  pub taken : List ℕ
  pub consumed : Consumes (remaining old left) (remaining new left_now) taken
  pub first : (more : List ℕ) → documents_at limits old.at (taken ++ more) ≡ before (doc ∷ []) (documents_at limits new.at more)
  pub counted : new.at ≡ old.at + length taken
  pub moves : old.at < new.at
  pub within : new.at ≤ limits.input

-- if what remains is known, it has no document, and this is why
abbrev pub HasNone : Limits → Split → Option (List ℕ) → Ending → Type 0
HasNone limits old left ending = (bytes : List ℕ) → remaining old left ≡ Some bytes → documents_at limits old.at bytes ≡ nothing ending

-- there is no document up to the end, where nothing is left
pub record EndsSo (limits : Limits) (old new : Split) (left left_now : Option (List ℕ)) (ending : Ending) : Type 0 where
  pub none : HasNone limits old left ending
  pub end : IsAtEnd (remaining new left_now)

-- these bytes contain no complete document, and none is refused
abbrev pub NoneWhole : Limits → ℕ → List ℕ → Type 0
NoneWhole limits at bytes = (documents_at limits at bytes ≡ nothing Clean) ⊎ ((place : ℕ) × (documents_at limits at bytes ≡ nothing (Unclosed place)))

-- the source failed, and what was taken of it contains no complete document
pub record IsCut (limits : Limits) (old : Split) (left left_now : Option (List ℕ)) : Type 0 where
  pub taken : List ℕ
  pub consumed : Consumes (remaining old left) left_now taken
  pub none_whole : NoneWhole limits old.at taken

abbrev pub document_of : Doc → Document
document_of doc = record { at = doc.at; bytes = doc.bytes.items }

-- what each result states about the bytes that remained before the call and remain after it
abbrev pub Answers : Limits → Split → Split → Option (List ℕ) → Option (List ℕ) → Result (Option Doc) DocError → Type 0
Answers limits old new left left_now (Ok (Some doc)) = IsNext limits old new left left_now (document_of doc)
Answers limits old new left left_now (Ok None) = EndsSo limits old new left left_now Clean
Answers limits old new left left_now (Err error.ReadFault) = IsCut limits old left left_now
Answers limits old new left left_now (Err (error.Unclosed at)) = EndsSo limits old new left left_now (Unclosed at)
Answers limits old new left left_now (Err (error.Stray at)) = HasNone limits old left (Stray at)
Answers limits old new left left_now (Err (error.TooLong at)) = HasNone limits old left (TooLong at)
Answers limits old new left left_now (Err error.Memory) = ConsumesPrefix (remaining old left) (remaining new left_now)
Answers limits old new left left_now (Err error.Input) = HasNone limits old left Long

-- the count of errors never falls, `ReadFault` is returned only if it rose or is at its maximum, and
-- with every other result it is unchanged
pub record HasReadCause {T : Type 0} (before now : ℕ) (result : Result T DocError) : Type 0 where
  pub later : before ≤ now
  pub failed : IsErrOf result error.ReadFault → Rose before now
  pub ok : OnOk result (now ≡ before)
  pub other : IfErr result (λ e. (e ≡ error.ReadFault → ⊥) → now ≡ before)
