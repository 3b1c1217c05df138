-- What is known of a head after each byte.
use Rattle.std.proofs.Common.{ℕ, ◌+◌, ◌≤◌, ◌<◌, ◌≡◌, ◌∙◌, Bool, true, false, cond, eqb, List, [], ◌∷◌, ◌++◌, length, take, drop, get_or, refl, sym, ap, subst, arith, append_assoc}
use Rattle.std.specs.Prelude.{Option, None, Some}
use Rattle.std.proofs.Math.Seq.{drop-length}
use Rattle.std.proofs.lemmas.Bool.{eqb-true}
use Rattle.std.proofs.lemmas.List.{drop-append-le, length-append, take_more}
use Rattle.http_wire.specs.declared.scan.Place.{Place}
use Rattle.http_wire.specs.declared.scan.Place.TheVariants.{Before, BeforeReturn, Inside, Start, StartReturn, Done}
use Rattle.http_wire.specs.declared.scan.Scan.{Scan}
use Rattle.http_wire.specs.Heads.{behind_empty, through_empty}
use Rattle.http_wire.specs.Scan.{BehindEmpty, BehindLines, InLines, IsBehind, IsBehindAt, blank_after, next_place, scan_after, shift}

-- empty lines at the start

empty_lf : (more : List ℕ) → behind_empty (10 ∷ more) ≡ behind_empty more
unfolding behind_empty
empty_lf more = refl

empty_crlf : (more : List ℕ) → behind_empty (13 ∷ 10 ∷ more) ≡ behind_empty more
unfolding behind_empty
empty_crlf more = refl

stays_return : (b : ℕ) (more : List ℕ) → eqb b 10 ≡ false → behind_empty (13 ∷ b ∷ more) ≡ 13 ∷ b ∷ more
unfolding behind_empty
stays_return b more e = rw e refl

stays : (b : ℕ) (more : List ℕ) → eqb b 10 ≡ false → eqb b 13 ≡ false → behind_empty (b ∷ more) ≡ b ∷ more
unfolding behind_empty
stays b more e f = rw (e, f) refl

pub empty_nil : behind_empty [] ≡ []
unfolding behind_empty
empty_nil = refl

pub stays_one_return : behind_empty (13 ∷ []) ≡ 13 ∷ []
unfolding behind_empty
stays_one_return = refl

-- the first empty line after a line

shift_none : (end : Option ℕ) → end ≡ shift 0 end
shift_none None = refl
shift_none (Some n) = ap (λ (k : ℕ). Some k) (omega arith)

shift_more : (m n : ℕ) (end : Option ℕ) → shift m (shift n end) ≡ shift (m + n) end
shift_more m n None = refl
shift_more m n (Some k) = ap (λ (k : ℕ). Some k) (omega arith)

goes_other : (b : ℕ) (more : List ℕ) → eqb b 10 ≡ false → through_empty (b ∷ more) ≡ shift 1 (through_empty more)
unfolding through_empty
goes_other b more e = rw e refl

goes_behind : (b : ℕ) (more : List ℕ) → eqb b 10 ≡ false → eqb b 13 ≡ false → through_empty (10 ∷ b ∷ more) ≡ shift 1 (through_empty (b ∷ more))
unfolding through_empty
goes_behind b more e f = rw (e, f) refl

goes_behind_return : (b : ℕ) (more : List ℕ) → eqb b 10 ≡ false → through_empty (10 ∷ 13 ∷ b ∷ more) ≡ shift 1 (through_empty (13 ∷ b ∷ more))
unfolding through_empty
goes_behind_return b more e = rw e refl

ends_lf : (more : List ℕ) → through_empty (10 ∷ 10 ∷ more) ≡ Some 2
unfolding through_empty
ends_lf more = refl

ends_crlf : (more : List ℕ) → through_empty (10 ∷ 13 ∷ 10 ∷ more) ≡ Some 3
unfolding through_empty
ends_crlf more = refl

pub none_nil : through_empty [] ≡ None
unfolding through_empty
none_nil = refl

pub none_return : through_empty (13 ∷ []) ≡ None
unfolding through_empty
none_return = refl

pub none_lf : through_empty (10 ∷ []) ≡ None
unfolding through_empty
none_lf = refl

pub none_lf_return : through_empty (10 ∷ 13 ∷ []) ≡ None
unfolding through_empty
none_lf_return = refl

goes_two : (b : ℕ) (more : List ℕ) → eqb b 10 ≡ false → eqb b 13 ≡ false → through_empty (10 ∷ b ∷ more) ≡ shift 2 (through_empty more)
goes_two b more e f = goes_behind b more e f ∙ ap (shift 1) (goes_other b more e) ∙ shift_more 1 1 (through_empty more)

goes_three : (b : ℕ) (more : List ℕ) → eqb b 10 ≡ false → through_empty (10 ∷ 13 ∷ b ∷ more) ≡ shift 3 (through_empty more)
goes_three b more e =
    goes_behind_return b more e
    ∙ ap (shift 1) (goes_other 13 (b ∷ more) refl ∙ ap (shift 1) (goes_other b more e) ∙ shift_more 1 1 (through_empty more))
    ∙ shift_more 1 2 (through_empty more)

-- one byte more, by what comes before it

join : (prefix more : List ℕ) (b : ℕ) → (prefix ++ b ∷ []) ++ more ≡ prefix ++ b ∷ more
join prefix more b = append_assoc prefix (b ∷ []) more

longer : (lines : List ℕ) (b : ℕ) → length (lines ++ b ∷ []) ≡ length lines + 1
longer lines b = length-append lines (b ∷ [])

before_lf : (prefix lines : List ℕ) → BehindEmpty prefix lines [] → BehindEmpty (prefix ++ 10 ∷ []) [] []
before_lf prefix lines h = record {
  lines_are = refl;
  goes_on = λ more. ap behind_empty (join prefix more 10) ∙ h.goes_on (10 ∷ more) ∙ empty_lf more;
}

before_return : (prefix lines : List ℕ) → BehindEmpty prefix lines [] → BehindEmpty (prefix ++ 13 ∷ []) (lines ++ 13 ∷ []) (13 ∷ [])
before_return prefix lines h = record {
  lines_are = ap (λ (l : List ℕ). l ++ 13 ∷ []) h.lines_are;
  goes_on = λ more. ap behind_empty (join prefix more 13) ∙ h.goes_on (13 ∷ more);
}

return_lf : (prefix lines : List ℕ) → BehindEmpty prefix lines (13 ∷ []) → BehindEmpty (prefix ++ 10 ∷ []) [] []
return_lf prefix lines h = record {
  lines_are = refl;
  goes_on = λ more. ap behind_empty (join prefix more 10) ∙ h.goes_on (10 ∷ more) ∙ empty_crlf more;
}

before_other : (prefix lines : List ℕ) (b : ℕ) → eqb b 10 ≡ false → eqb b 13 ≡ false → BehindEmpty prefix lines [] → InLines (prefix ++ b ∷ []) (lines ++ b ∷ []) []
before_other prefix lines b e f h =
    subst (λ (l : List ℕ). InLines (prefix ++ b ∷ []) (l ++ b ∷ []) []) (sym h.lines_are) (record {
      lines_are = λ more. ap behind_empty (join prefix more b) ∙ h.goes_on (b ∷ more) ∙ stays b more e f;
      earlier = b ∷ [];
      parts = refl;
      some = omega arith;
      goes_on = λ more. goes_other b more e;
    })

return_other : (prefix lines : List ℕ) (b : ℕ) → eqb b 10 ≡ false → BehindEmpty prefix lines (13 ∷ []) → InLines (prefix ++ b ∷ []) (lines ++ b ∷ []) []
return_other prefix lines b e h =
    subst (λ (l : List ℕ). InLines (prefix ++ b ∷ []) (l ++ b ∷ []) []) (sym h.lines_are) (record {
      lines_are = λ more. ap behind_empty (join prefix more b) ∙ h.goes_on (b ∷ more) ∙ stays_return b more e;
      earlier = 13 ∷ b ∷ [];
      parts = refl;
      some = omega arith;
      goes_on = λ more. goes_other 13 (b ∷ more) refl ∙ ap (shift 1) (goes_other b more e) ∙ shift_more 1 1 (through_empty more);
    })

in_lines : (prefix lines pending : List ℕ) (b : ℕ) (extra ahead : List ℕ) → pending ++ b ∷ [] ≡ extra ++ ahead
    → ((more : List ℕ) → through_empty (pending ++ b ∷ more) ≡ shift (length extra) (through_empty (ahead ++ more)))
    → InLines prefix lines pending → InLines (prefix ++ b ∷ []) (lines ++ b ∷ []) ahead
in_lines prefix lines pending b extra ahead e goes h = record {
  lines_are = λ more. ap behind_empty (join prefix more b) ∙ h.lines_are (b ∷ more) ∙ sym (join lines more b);
  earlier = h.earlier ++ extra;
  parts = ap (λ (l : List ℕ). l ++ b ∷ []) h.parts ∙ append_assoc h.earlier pending (b ∷ []) ∙ ap (λ (l : List ℕ). h.earlier ++ l) e ∙ sym (append_assoc h.earlier extra ahead);
  some = omega (arith, longer lines b);
  goes_on = λ more.
      ap through_empty (join lines more b)
      ∙ h.goes_on (b ∷ more)
      ∙ ap (shift (length h.earlier)) (goes more)
      ∙ shift_more (length h.earlier) (length extra) (through_empty (ahead ++ more))
      ∙ ap (λ (n : ℕ). shift n (through_empty (ahead ++ more))) (sym (length-append h.earlier extra));
}

in_lines_end : (prefix lines pending : List ℕ) (b n : ℕ) → n ≡ length pending + 1 → ((more : List ℕ) → through_empty (pending ++ b ∷ more) ≡ Some n)
    → InLines prefix lines pending → BehindLines (prefix ++ b ∷ []) (lines ++ b ∷ [])
in_lines_end prefix lines pending b n e ends h =
    let long : length lines ≡ length h.earlier + length pending = ap length h.parts ∙ length-append h.earlier pending in
    record {
      lines_are = λ more. ap behind_empty (join prefix more b) ∙ h.lines_are (b ∷ more) ∙ sym (join lines more b);
      ends = λ more.
          ap through_empty (join lines more b)
          ∙ h.goes_on (b ∷ more)
          ∙ ap (shift (length h.earlier)) (ends more)
          ∙ ap (λ (k : ℕ). Some k) (omega (arith, longer lines b, long, e));
    }

-- one byte more

behind_is : (prefix : List ℕ) (b count blank : ℕ) (place : Place) → length prefix ≡ count → blank ≤ count → IsBehindAt place (prefix ++ b ∷ []) (drop blank prefix ++ b ∷ [])
    → IsBehind (prefix ++ b ∷ []) (record { place = place; count = count + 1; blank = blank })
behind_is prefix b count blank place e h at = record {
  count_is = longer prefix b ∙ ap (λ (k : ℕ). k + 1) e;
  blank_within = omega (arith, h);
  at = subst (λ (l : List ℕ). IsBehindAt place (prefix ++ b ∷ []) l) (sym (drop-append-le blank prefix (b ∷ []) (omega (arith, h, e)))) at;
}

empties : (prefix : List ℕ) (b count : ℕ) → length prefix ≡ count → BehindEmpty (prefix ++ b ∷ []) [] [] → IsBehind (prefix ++ b ∷ []) (record { place = Before; count = count + 1; blank = count + 1 })
empties prefix b count e h =
    let long : length (prefix ++ b ∷ []) ≡ count + 1 = longer prefix b ∙ ap (λ (k : ℕ). k + 1) e in
    record {
      count_is = long;
      blank_within = omega arith;
      at = subst (λ (l : List ℕ). BehindEmpty (prefix ++ b ∷ []) l []) (sym (ap (λ (k : ℕ). drop k (prefix ++ b ∷ [])) (sym long) ∙ drop-length (prefix ++ b ∷ []))) h;
    }

is_lf : (b : ℕ) → eqb b 10 ≡ true → b ≡ 10
is_lf b e = eqb-true b 10 e

is_cr : (b : ℕ) → eqb b 13 ≡ true → b ≡ 13
is_cr b e = eqb-true b 13 e

from_before : (prefix : List ℕ) (b count blank : ℕ) (t u : Bool) → eqb b 10 ≡ t → eqb b 13 ≡ u → length prefix ≡ count → blank ≤ count → BehindEmpty prefix (drop blank prefix) []
    → IsBehind (prefix ++ b ∷ []) (record { place = cond t Before (cond u BeforeReturn Inside); count = count + 1; blank = blank_after (cond t Before (cond u BeforeReturn Inside)) (count + 1) blank })
from_before prefix b count blank true u e f l w h = empties prefix b count l (subst (λ (k : ℕ). BehindEmpty (prefix ++ k ∷ []) [] []) (sym (is_lf b e)) (before_lf prefix (drop blank prefix) h))
from_before prefix b count blank false true e f l w h =
    behind_is prefix b count blank BeforeReturn l w (subst (λ (k : ℕ). BehindEmpty (prefix ++ k ∷ []) (drop blank prefix ++ k ∷ []) (13 ∷ [])) (sym (is_cr b f)) (before_return prefix (drop blank prefix) h))
from_before prefix b count blank false false e f l w h = behind_is prefix b count blank Inside l w (before_other prefix (drop blank prefix) b e f h)

from_return : (prefix : List ℕ) (b count blank : ℕ) (t : Bool) → eqb b 10 ≡ t → length prefix ≡ count → blank ≤ count → BehindEmpty prefix (drop blank prefix) (13 ∷ [])
    → IsBehind (prefix ++ b ∷ []) (record { place = cond t Before Inside; count = count + 1; blank = blank_after (cond t Before Inside) (count + 1) blank })
from_return prefix b count blank true e l w h = empties prefix b count l (subst (λ (k : ℕ). BehindEmpty (prefix ++ k ∷ []) [] []) (sym (is_lf b e)) (return_lf prefix (drop blank prefix) h))
from_return prefix b count blank false e l w h = behind_is prefix b count blank Inside l w (return_other prefix (drop blank prefix) b e h)

from_inside : (prefix : List ℕ) (b count blank : ℕ) (t : Bool) → eqb b 10 ≡ t → length prefix ≡ count → blank ≤ count → InLines prefix (drop blank prefix) []
    → IsBehind (prefix ++ b ∷ []) (record { place = cond t Start Inside; count = count + 1; blank = blank_after (cond t Start Inside) (count + 1) blank })
from_inside prefix b count blank true e l w h =
    behind_is prefix b count blank Start l w (subst (λ (k : ℕ). InLines (prefix ++ k ∷ []) (drop blank prefix ++ k ∷ []) (10 ∷ [])) (sym (is_lf b e))
    (in_lines prefix (drop blank prefix) [] 10 [] (10 ∷ []) refl (λ more. shift_none (through_empty (10 ∷ more))) h))
from_inside prefix b count blank false e l w h =
    behind_is prefix b count blank Inside l w (in_lines prefix (drop blank prefix) [] b (b ∷ []) [] refl (λ more. goes_other b more e) h)

from_start : (prefix : List ℕ) (b count blank : ℕ) (t u : Bool) → eqb b 10 ≡ t → eqb b 13 ≡ u → length prefix ≡ count → blank ≤ count → InLines prefix (drop blank prefix) (10 ∷ [])
    → IsBehind (prefix ++ b ∷ []) (record { place = cond t Done (cond u StartReturn Inside); count = count + 1; blank = blank_after (cond t Done (cond u StartReturn Inside)) (count + 1) blank })
from_start prefix b count blank true u e f l w h =
    behind_is prefix b count blank Done l w (subst (λ (k : ℕ). BehindLines (prefix ++ k ∷ []) (drop blank prefix ++ k ∷ [])) (sym (is_lf b e))
    (in_lines_end prefix (drop blank prefix) (10 ∷ []) 10 2 refl ends_lf h))
from_start prefix b count blank false true e f l w h =
    behind_is prefix b count blank StartReturn l w (subst (λ (k : ℕ). InLines (prefix ++ k ∷ []) (drop blank prefix ++ k ∷ []) (10 ∷ 13 ∷ [])) (sym (is_cr b f))
    (in_lines prefix (drop blank prefix) (10 ∷ []) 13 [] (10 ∷ 13 ∷ []) refl (λ more. shift_none (through_empty (10 ∷ 13 ∷ more))) h))
from_start prefix b count blank false false e f l w h =
    behind_is prefix b count blank Inside l w (in_lines prefix (drop blank prefix) (10 ∷ []) b (10 ∷ b ∷ []) [] refl (λ more. goes_two b more e f) h)

from_start_return : (prefix : List ℕ) (b count blank : ℕ) (t : Bool) → eqb b 10 ≡ t → length prefix ≡ count → blank ≤ count → InLines prefix (drop blank prefix) (10 ∷ 13 ∷ [])
    → IsBehind (prefix ++ b ∷ []) (record { place = cond t Done Inside; count = count + 1; blank = blank_after (cond t Done Inside) (count + 1) blank })
from_start_return prefix b count blank true e l w h =
    behind_is prefix b count blank Done l w (subst (λ (k : ℕ). BehindLines (prefix ++ k ∷ []) (drop blank prefix ++ k ∷ [])) (sym (is_lf b e))
    (in_lines_end prefix (drop blank prefix) (10 ∷ 13 ∷ []) 10 3 refl ends_crlf h))
from_start_return prefix b count blank false e l w h =
    behind_is prefix b count blank Inside l w (in_lines prefix (drop blank prefix) (10 ∷ 13 ∷ []) b (10 ∷ 13 ∷ b ∷ []) [] refl (λ more. goes_three b more e) h)

by_place : (prefix : List ℕ) (b count blank : ℕ) (place : Place) → length prefix ≡ count → blank ≤ count → IsBehindAt place prefix (drop blank prefix) → (place ≡ Done → ⊥)
    → IsBehind (prefix ++ b ∷ []) (record { place = next_place place b; count = count + 1; blank = blank_after (next_place place b) (count + 1) blank })
by_place prefix b count blank Before l w h not = from_before prefix b count blank (eqb b 10) (eqb b 13) refl refl l w h
by_place prefix b count blank BeforeReturn l w h not = from_return prefix b count blank (eqb b 10) refl l w h
by_place prefix b count blank Inside l w h not = from_inside prefix b count blank (eqb b 10) refl l w h
by_place prefix b count blank Start l w h not = from_start prefix b count blank (eqb b 10) (eqb b 13) refl refl l w h
by_place prefix b count blank StartReturn l w h not = from_start_return prefix b count blank (eqb b 10) refl l w h
by_place prefix b count blank Done l w h not = absurd (not refl)

pub behind_more : (bytes : List ℕ) (scan new : Scan) → scan.count < length bytes → IsBehind (take scan.count bytes) scan → (scan.place ≡ Done → ⊥) → new ≡ scan_after scan (get_or bytes scan.count 0) → IsBehind (take new.count bytes) new
behind_more bytes scan new small h not e =
    subst (λ (s : Scan). IsBehind (take s.count bytes) s) (sym e)
    (subst (λ (l : List ℕ). IsBehind l (scan_after scan (get_or bytes scan.count 0))) (sym (take_more bytes scan.count 0 small))
    (by_place (take scan.count bytes) (get_or bytes scan.count 0) scan.count scan.blank scan.place h.count_is h.blank_within h.at not))
