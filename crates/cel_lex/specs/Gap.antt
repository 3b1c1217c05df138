-- Blanks and comments.
use Rattle.std.specs.Prelude.{◌≡◌, ℕ, ◌+◌, List, [], ◌∷◌, ◌++◌, if◌then◌else◌, ◌==◌, ◌&&◌, not, drop, Bool, true, false}
use Rattle.std.specs.List.{prefix_len, list_all}
use Rattle.cel_lex.specs.Bytes.{is_blank, is_line_end, begins_with}

-- how many bytes at the start are blanks and comments; the truth value says that a comment is open, which ends with its line
abbrev pub gap_from : Bool → List ℕ → ℕ
gap_from inside [] = 0
gap_from true (c ∷ cs) = 1 + gap_from (not (is_line_end c)) cs
gap_from false (c ∷ cs) =
    if is_blank c then 1 + gap_from false cs
    else (if c == 47 && begins_with 47 cs then 1 + gap_from true cs
    else 0)

abbrev pub gap_of : List ℕ → ℕ
gap_of bs = gap_from false bs

-- how many bytes a comment at the start and the blanks after it have
abbrev pub line_of : List ℕ → ℕ
line_of bs = prefix_len (λ c. not (is_line_end c)) bs

abbrev pub comment_of : List ℕ → ℕ
comment_of bs = line_of bs + prefix_len is_blank (drop (line_of bs) bs)

-- blanks and comments: a comment runs from `//` to the end of its line
pub data IsGap : List ℕ → Type 0 where
  empty : IsGap []
  blank : {c : ℕ} {cs : List ℕ} → is_blank c ≡ true → IsGap cs → IsGap (c ∷ cs)
  comment : (line : List ℕ) (c : ℕ) (cs : List ℕ) → list_all (λ x. not (is_line_end x)) line ≡ true → is_line_end c ≡ true → IsGap cs → IsGap (47 ∷ 47 ∷ (line ++ c ∷ cs))
