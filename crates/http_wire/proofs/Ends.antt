-- What was found when a head ends, or the bytes do.
use Rattle.std.proofs.Common.{ℕ, ◌≤◌, ◌<◌, ◌≡◌, ◌∙◌, Bool, true, false, inl, inr, true≢false, List, [], ◌∷◌, ◌++◌, length, take, drop, refl, sym, ap, subst, arith, append-nil}
use Rattle.std.specs.Prelude.{None}
use Rattle.std.proofs.lemmas.List.{take_all}
use Rattle.http_wire.specs.declared.scan.Place.{Place}
use Rattle.http_wire.specs.declared.scan.Place.TheVariants.{Before, BeforeReturn, Inside, Start, StartReturn, Done}
use Rattle.http_wire.specs.declared.scan.Scan.{Scan}
use Rattle.http_wire.specs.Heads.{HasNoHead, IsBlank, IsLongHead, IsOpenHead, behind_empty, through_empty}
use Rattle.http_wire.specs.Reader.{IsUndone}
use Rattle.http_wire.specs.Scan.{BehindEmpty, BehindLines, InLines, IsBehind, IsBehindAt, shift}
use Rattle.http_wire.specs.Steps.{Found}
use Rattle.http_wire.proofs.Scanned.{empty_nil, none_lf, none_lf_return, none_nil, none_return, stays_one_return}

at_nil : (prefix : List ℕ) → behind_empty prefix ≡ behind_empty (prefix ++ [])
at_nil prefix = ap behind_empty (sym (append-nil prefix))

lines_at : (prefix lines : List ℕ) → ((more : List ℕ) → behind_empty (prefix ++ more) ≡ lines ++ more) → behind_empty prefix ≡ lines
lines_at prefix lines h = at_nil prefix ∙ h [] ∙ append-nil lines

empty_at : (prefix lines pending : List ℕ) → BehindEmpty prefix lines pending → behind_empty prefix ≡ behind_empty pending
empty_at prefix lines pending h = at_nil prefix ∙ h.goes_on [] ∙ ap behind_empty (append-nil pending)

open_at : (prefix lines pending : List ℕ) → InLines prefix lines pending → through_empty pending ≡ None → HasNoHead prefix
open_at prefix lines pending h none =
    ap through_empty (lines_at prefix lines h.lines_are)
    ∙ ap through_empty (sym (append-nil lines))
    ∙ h.goes_on []
    ∙ ap (λ (l : List ℕ). shift (length h.earlier) (through_empty l)) (append-nil pending)
    ∙ ap (shift (length h.earlier)) none

no_head_at : (prefix lines : List ℕ) (place : Place) → IsBehindAt place prefix lines → (place ≡ Done → ⊥) → HasNoHead prefix
no_head_at prefix lines Before h not = ap through_empty (empty_at prefix lines [] h ∙ empty_nil) ∙ none_nil
no_head_at prefix lines BeforeReturn h not = ap through_empty (empty_at prefix lines (13 ∷ []) h ∙ stays_one_return) ∙ none_return
no_head_at prefix lines Inside h not = open_at prefix lines [] h none_nil
no_head_at prefix lines Start h not = open_at prefix lines (10 ∷ []) h none_lf
no_head_at prefix lines StartReturn h not = open_at prefix lines (10 ∷ 13 ∷ []) h none_lf_return
no_head_at prefix lines Done h not = absurd (not refl)

begun_lines : (prefix lines pending : List ℕ) → InLines prefix lines pending → 0 < length (behind_empty prefix)
begun_lines prefix lines pending h = subst (λ (l : List ℕ). 0 < length l) (sym (lines_at prefix lines h.lines_are)) h.some

begun_at : (prefix lines : List ℕ) (place : Place) → IsBehindAt place prefix lines → (place ≡ Before → ⊥) → (place ≡ Done → ⊥) → 0 < length (behind_empty prefix)
begun_at prefix lines Before h not other = absurd (not refl)
begun_at prefix lines BeforeReturn h not other = subst (λ (l : List ℕ). 0 < length l) (sym (empty_at prefix lines (13 ∷ []) h ∙ stays_one_return)) (omega arith)
begun_at prefix lines Inside h not other = begun_lines prefix lines [] h
begun_at prefix lines Start h not other = begun_lines prefix lines (10 ∷ []) h
begun_at prefix lines StartReturn h not other = begun_lines prefix lines (10 ∷ 13 ∷ []) h
begun_at prefix lines Done h not other = absurd (other refl)

only_at : (prefix lines : List ℕ) (place : Place) → IsBehindAt place prefix lines → place ≡ Before → behind_empty prefix ≡ []
only_at prefix lines place h e = empty_at prefix lines [] (subst (λ (p : Place). IsBehindAt p prefix lines) e h) ∙ empty_nil

pub no_head : (prefix : List ℕ) (scan : Scan) → IsBehind prefix scan → (scan.place ≡ Done → ⊥) → HasNoHead prefix
no_head prefix scan h not = no_head_at prefix (drop scan.blank prefix) scan.place h.at not

done_at : (prefix lines : List ℕ) (place : Place) → IsBehindAt place prefix lines → place ≡ Done → BehindLines prefix lines
done_at prefix lines place h e = subst (λ (p : Place). IsBehindAt p prefix lines) e h

pub found_is : (bytes : List ℕ) (scan : Scan) → IsBehind (take scan.count bytes) scan → scan.place ≡ Done → scan.count ≤ length bytes → scan.count ≤ 16384 → Found bytes scan
found_is bytes scan h e within few =
    let d = done_at (take scan.count bytes) (drop scan.blank (take scan.count bytes)) scan.place h.at e in
    record {
      count_within = within;
      blank_within = h.blank_within;
      head = record {
        lines_are = lines_at (take scan.count bytes) (drop scan.blank (take scan.count bytes)) d.lines_are;
        ends = ap through_empty (sym (append-nil (drop scan.blank (take scan.count bytes)))) ∙ d.ends [];
        within = omega (arith, h.count_is, few);
      };
    }

-- all bytes were gone over
whole : (bytes : List ℕ) (scan : Scan) → IsBehind (take scan.count bytes) scan → length bytes ≤ scan.count → IsBehind bytes scan
whole bytes scan h e = subst (λ (l : List ℕ). IsBehind l scan) (take_all scan.count bytes e) h

pub long_is : (bytes : List ℕ) (scan : Scan) → IsBehind (take scan.count bytes) scan → (scan.place ≡ Done → ⊥) → scan.count ≡ 16384 → 16384 < length bytes → IsLongHead bytes
long_is bytes scan h not e long = record {
  longer = long;
  open_ = subst (λ (k : ℕ). HasNoHead (take k bytes)) e (no_head (take scan.count bytes) scan h not);
}

pub blank_is : (bytes : List ℕ) (scan : Scan) → IsBehind (take scan.count bytes) scan → scan.place ≡ Before → length bytes ≤ scan.count → length bytes ≤ 16384 → IsBlank bytes
blank_is bytes scan h e all few = record {
  only = only_at bytes (drop scan.blank bytes) scan.place (whole bytes scan h all).at e;
  within = few;
}

pub open_is : (bytes : List ℕ) (scan : Scan) → IsBehind (take scan.count bytes) scan → (scan.place ≡ Before → ⊥) → (scan.place ≡ Done → ⊥) → length bytes ≤ scan.count → length bytes ≤ 16384 → IsOpenHead bytes
open_is bytes scan h not other all few = record {
  begun = begun_at bytes (drop scan.blank bytes) scan.place (whole bytes scan h all).at not other;
  open_ = no_head bytes scan (whole bytes scan h all) other;
  within = few;
}

abbrev is_first : Place → Bool
is_first Before = true
is_first BeforeReturn = false
is_first Inside = false
is_first Start = false
is_first StartReturn = false
is_first Done = false

not_before : (place other : Place) → place ≡ other → is_first other ≡ false → place ≡ Before → ⊥
not_before place other e f k = true≢false (ap is_first (sym k ∙ e) ∙ f)

undone_by : (bytes : List ℕ) (scan : Scan) (place : Place) → scan.place ≡ place → IsBehind (take scan.count bytes) scan → (scan.place ≡ Done → ⊥) → length bytes ≤ scan.count → length bytes ≤ 16384 → IsUndone bytes
undone_by bytes scan Before e h not all few = inl (blank_is bytes scan h e all few)
undone_by bytes scan BeforeReturn e h not all few = inr (inl (open_is bytes scan h (not_before scan.place BeforeReturn e refl) not all few))
undone_by bytes scan Inside e h not all few = inr (inl (open_is bytes scan h (not_before scan.place Inside e refl) not all few))
undone_by bytes scan Start e h not all few = inr (inl (open_is bytes scan h (not_before scan.place Start e refl) not all few))
undone_by bytes scan StartReturn e h not all few = inr (inl (open_is bytes scan h (not_before scan.place StartReturn e refl) not all few))
undone_by bytes scan Done e h not all few = absurd (not e)

-- if a read fails
pub undone_is : (bytes : List ℕ) (scan : Scan) → IsBehind (take scan.count bytes) scan → (scan.place ≡ Done → ⊥) → length bytes ≤ scan.count → length bytes ≤ 16384 → IsUndone bytes
undone_is bytes scan h not all few = undone_by bytes scan scan.place refl h not all few
