-- Members of which some may be missing, and what is found among them.
use Rattle.std.proofs.Common.{◌≡◌, ℕ, List, [], ◌∷◌, Option, Some, None, Ordering, Less, Equal, Greater, refl}
use Rattle.std.specs.Cmp.Lexicographic.{slice_cmp}
use Rattle.std.specs.Ordering.{match_ordering, nat_cmp}
use Rattle.serde_json.specs.Data.{Data, Members, no_members}
use Rattle.serde_json.specs.Find.{get_member}
use Rattle.api_print.specs.Shapes.{member_if}

-- each member at its key, in order, where it is there
abbrev pub members_of : List (List ℕ × Option Data) → Members
members_of [] = no_members
members_of (e ∷ es) = member_if e.0 e.1 (members_of es)

-- the first of two that is there
abbrev pub or_else : Option Data → Option Data → Option Data
or_else None other = other
or_else (Some d) other = Some d

-- the first member at a key that is there
abbrev pub found_in : List ℕ → List (List ℕ × Option Data) → Option Data
found_in key [] = None
found_in key (e ∷ es) = match_ordering (slice_cmp nat_cmp key e.0) (found_in key es) (or_else e.1 (found_in key es)) (found_in key es)

all_same : (o : Ordering) (a : Option Data) → a ≡ match_ordering o a a a
all_same Less a = refl
all_same Equal a = refl
all_same Greater a = refl

member_found : (key other : List ℕ) (o : Option Data) (ms : Members) → get_member key (member_if other o ms) ≡ match_ordering (slice_cmp nat_cmp key other) (get_member key ms) (or_else o (get_member key ms)) (get_member key ms)
member_found key other None ms = all_same (slice_cmp nat_cmp key other) (get_member key ms)
member_found key other (Some d) ms = refl

pub found : (key : List ℕ) (es : List (List ℕ × Option Data)) → get_member key (members_of es) ≡ found_in key es
found key [] = refl
found key (e ∷ es) = rw (member_found key e.0 e.1 (members_of es), found key es) refl

pub or_none : (o : Option Data) → or_else o None ≡ o
or_none None = refl
or_none (Some d) = refl
