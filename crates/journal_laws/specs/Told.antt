-- What the lines of a history tell of its entries.
use Rattle.std.specs.Prelude.{ℕ, ◌≡◌, ◌+◌, ◌<◌, ◌^◌, ◌==◌, not, Bool, true, List, [], ◌∷◌, IfSome}
use Rattle.std.specs.List.{list_all}
use Rattle.object_fields.specs.Keys.{key_text}
use Rattle.cluster.specs.declared.entry.Entry.{Entry}
use Rattle.cluster.specs.declared.entry.Event.{Event}
use Rattle.cluster.specs.declared.entry.Event.TheVariants.{Applied, Deleted, Reserved, Refused, Wrote, Conflict, Unreserved, Bound, VerdictGiven, Contended, Released, Adopted, Denied}
use Rattle.histories.specs.Determined.{decided_at}
use Rattle.journal_text.specs.Journal.{line_of}

-- a text without a blank
abbrev pub is_unbroken : List ℕ → Bool
is_unbroken text = list_all (λ b. not (b == 32)) text

-- the names that stand before the index of a plan or a verdict in its line: the pod, and the plan's node
abbrev pub names_before_index : Event → List (List ℕ)
names_before_index (Applied object mode) = []
names_before_index (Deleted target) = []
names_before_index (Reserved pod plan) = key_text pod ∷ plan.node ∷ []
names_before_index (Refused pod plan why) = key_text pod ∷ plan.node ∷ []
names_before_index (Wrote pod claim seen) = []
names_before_index (Conflict pod claim had now) = []
names_before_index (Unreserved pod) = []
names_before_index (Bound pod node) = []
names_before_index (VerdictGiven pod verdict) = key_text pod ∷ []
names_before_index (Contended pod attempts) = []
names_before_index (Released pod) = []
names_before_index (Adopted claim status) = []
names_before_index (Denied command refusal) = []

-- The names before the event's index have no blank, and the index is a number of 64 bits. An event without an index is one.
pub record HasClearIndex (e : Event) : Type 0 where
  pub names : list_all is_unbroken (names_before_index e) ≡ true
  pub index : IfSome (decided_at e) (λ n. n < 2 ^ 64)

-- the job's number is one of 64 bits in each entry, as it is in each `Entry` of the program
abbrev pub JobsFit : List Entry → Type 0
JobsFit [] = Unit {0}
JobsFit (e ∷ es) = (e.job < 2 ^ 64) × JobsFit es

-- as many entries in both, which follow n others, of which each has the line of the one at its index in the other
abbrev pub SameLines : ℕ → List Entry → List Entry → Type 0
SameLines n [] [] = Unit {0}
SameLines n [] (e ∷ es) = ⊥
SameLines n (d ∷ ds) [] = ⊥
SameLines n (d ∷ ds) (e ∷ es) = (line_of (n + 1) d ≡ line_of (n + 1) e) × SameLines (n + 1) ds es
