-- Members that are put before others.
use Rattle.std.proofs.Common.{◌≡◌, ℕ, List, Ordering, Less, Equal, Greater, true, Option, Some, None, refl}
use Rattle.std.specs.Ordering.{nat_cmp, is_lt, match_ordering}
use Rattle.std.specs.Cmp.Lexicographic.{slice_cmp}
use Rattle.serde_json.specs.Data.{Data, Members, no_members, member, put}
use Rattle.api_print.specs.Shapes.{comes_before, member_if}

first_at : (o : Ordering) (a b c : Members) → is_lt o ≡ true → match_ordering o a b c ≡ a
first_at Less a b c h = refl
first_at Equal a b c h = cc
first_at Greater a b c h = cc

-- what is put at a key below all others goes first
pub put_first : (key : List ℕ) (d : Data) (ms : Members) → comes_before key ms ≡ true → put key d ms ≡ member key d ms
put_first key d no_members h = refl
put_first key d (member l e ms) h = first_at (slice_cmp nat_cmp key l) _ _ _ h

-- a key below another and below what follows it is below both, if the other is there or not
pub before_member_if : (key other : List ℕ) (o : Option Data) (ms : Members) → is_lt (slice_cmp nat_cmp key other) ≡ true → comes_before key ms ≡ true → comes_before key (member_if other o ms) ≡ true
before_member_if key other None ms h k = k
before_member_if key other (Some d) ms h k = h
