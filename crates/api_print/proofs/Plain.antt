-- JSON without floats that isn't nested too deep.
use Rattle.std.proofs.Common.{◌≡◌, ℕ, zero, suc, ◌≤◌, List, [], ◌∷◌, ◌++◌, Ordering, Less, Equal, Greater, Bool, true, false, Option, Some, None, refl, arith}
use Rattle.std.specs.Prelude.{◌&&◌, ◌||◌, not, option_map, option_and_then}
use Rattle.std.specs.Ordering.{nat_cmp, match_ordering}
use Rattle.std.specs.Cmp.Lexicographic.{slice_cmp}
use Rattle.serde_json.specs.Data.{Num, unsigned, negative, float, Data, null, boolean, number, string, array, object, Items, no_items, item, Members, no_members, member, put, depth, items_depth, members_depth}
use Rattle.serde_json.specs.Find.{is_float}
use Rattle.serde_json.specs.View.{items_of}
use Rattle.serde_json.specs.Written.{has_float, items_have_float, members_have_float}
use Rattle.api_print.specs.Shapes.{flag_if, list_if, list_json, listed, member_if, table_if, table_json, text_if, with_entries}

-- no float, and at most n levels of lists and objects
abbrev mutual
  pub is_plain : ℕ → Data → Bool
  is_plain n null = true
  is_plain n (boolean b) = true
  is_plain n (number x) = not (is_float x)
  is_plain n (string s) = true
  is_plain zero (array ds) = false
  is_plain (suc n) (array ds) = are_plain n ds
  is_plain zero (object ms) = false
  is_plain (suc n) (object ms) = have_plain n ms

  pub are_plain : ℕ → Items → Bool
  are_plain n no_items = true
  are_plain n (item d ds) = is_plain n d && are_plain n ds

  pub have_plain : ℕ → Members → Bool
  have_plain n no_members = true
  have_plain n (member k d ms) = is_plain n d && have_plain n ms

-- a value that may be missing
abbrev pub is_plain_if : ℕ → Option Data → Bool
is_plain_if n None = true
is_plain_if n (Some d) = is_plain n d

both : (a b : Bool) → a ≡ true → b ≡ true → (a && b) ≡ true
both true b p q = q
both false b p q = p

left : (a b : Bool) → (a && b) ≡ true → a ≡ true
left true b h = refl
left false b h = h

right : (a b : Bool) → (a && b) ≡ true → b ≡ true
right true b h = h
right false b h = cc

neither : (a b : Bool) → a ≡ false → b ≡ false → (a || b) ≡ false
neither true b p q = p
neither false b p q = q

no_float : (x : Num) → not (is_float x) ≡ true → is_float x ≡ false
no_float (unsigned n) h = refl
no_float (negative z) h = refl
no_float (float x) h = cc

-- what is `Plain` has no float and is nested no deeper
mutual
  pub plain_floats : (n : ℕ) (d : Data) → is_plain n d ≡ true → has_float d ≡ false
  plain_floats n null h = refl
  plain_floats n (boolean b) h = refl
  plain_floats n (number x) h = no_float x h
  plain_floats n (string s) h = refl
  plain_floats zero (array ds) h = cc
  plain_floats (suc n) (array ds) h = items_floats n ds h
  plain_floats zero (object ms) h = cc
  plain_floats (suc n) (object ms) h = members_floats n ms h

  items_floats : (n : ℕ) (ds : Items) → are_plain n ds ≡ true → items_have_float ds ≡ false
  items_floats n no_items h = refl
  items_floats n (item d ds) h = neither _ _ (plain_floats n d (left (is_plain n d) _ h)) (items_floats n ds (right (is_plain n d) _ h))

  members_floats : (n : ℕ) (ms : Members) → have_plain n ms ≡ true → members_have_float ms ≡ false
  members_floats n no_members h = refl
  members_floats n (member k d ms) h = neither _ _ (plain_floats n d (left (is_plain n d) _ h)) (members_floats n ms (right (is_plain n d) _ h))

mutual
  pub plain_depth : (n : ℕ) (d : Data) → is_plain n d ≡ true → depth d ≤ n
  plain_depth n null h = omega arith
  plain_depth n (boolean b) h = omega arith
  plain_depth n (number x) h = omega arith
  plain_depth n (string s) h = omega arith
  plain_depth zero (array ds) h = cc
  plain_depth (suc n) (array ds) h = omega (arith, items_within n ds h)
  plain_depth zero (object ms) h = cc
  plain_depth (suc n) (object ms) h = omega (arith, members_within n ms h)

  items_within : (n : ℕ) (ds : Items) → are_plain n ds ≡ true → items_depth ds ≤ n
  items_within n no_items h = omega arith
  items_within n (item d ds) h = omega (arith, plain_depth n d (left (is_plain n d) _ h), items_within n ds (right (is_plain n d) _ h))

  members_within : (n : ℕ) (ms : Members) → have_plain n ms ≡ true → members_depth ms ≤ n
  members_within n no_members h = omega arith
  members_within n (member k d ms) h = omega (arith, plain_depth n d (left (is_plain n d) _ h), members_within n ms (right (is_plain n d) _ h))

-- ---- the same as facts

pub record Plain (n : ℕ) (d : Data) : Type 0 where
  pub holds : is_plain n d ≡ true

pub record HavePlain (n : ℕ) (ms : Members) : Type 0 where
  pub holds : have_plain n ms ≡ true

pub record PlainIf (n : ℕ) (o : Option Data) : Type 0 where
  pub holds : is_plain_if n o ≡ true

pub in_object : (n : ℕ) {ms : Members} → HavePlain n ms → Plain (suc n) (object ms)
in_object n h = record { holds = h.holds }

pub text : {n : ℕ} {s : List ℕ} → Plain n (string s)
text = record { holds = refl }

pub none : {n : ℕ} → HavePlain n no_members
none = record { holds = refl }

pub some : {n : ℕ} {d : Data} → Plain n d → PlainIf n (Some d)
some h = record { holds = h.holds }

pub missing : {n : ℕ} → PlainIf n None
missing = record { holds = refl }

-- ---- parts that may be missing, lists and tables

with_if_holds : (n : ℕ) (key : List ℕ) (o : Option Data) (ms : Members) → is_plain_if n o ≡ true → have_plain n ms ≡ true → have_plain n (member_if key o ms) ≡ true
with_if_holds n key None ms p q = q
with_if_holds n key (Some d) ms p q = both _ _ p q

pub with_if : {n : ℕ} (key : List ℕ) {o : Option Data} {ms : Members} → PlainIf n o → HavePlain n ms → HavePlain n (member_if key o ms)
with_if {n} key {o} {ms} p q = record { holds = with_if_holds n key o ms p.holds q.holds }

pub with_one : {n : ℕ} (key : List ℕ) {d : Data} {ms : Members} → Plain n d → HavePlain n ms → HavePlain n (member key d ms)
with_one key p q = record { holds = both _ _ p.holds q.holds }

pub flag_plain : {n : ℕ} (b : Bool) → PlainIf n (flag_if b)
flag_plain true = record { holds = refl }
flag_plain false = record { holds = refl }

pub text_if_plain : {n : ℕ} (t : List ℕ) → PlainIf n (text_if t)
text_if_plain [] = record { holds = refl }
text_if_plain (b ∷ bs) = record { holds = refl }

-- each of a list's items
listed_holds : {A : Type 0} (n : ℕ) (json : A → Data) (xs : List A) → ((x : A) → Plain n (json x)) → are_plain n (listed json xs) ≡ true
listed_holds n json [] h = refl
listed_holds n json (x ∷ xs) h = both _ _ (h x).holds (listed_holds n json xs h)

pub list_plain : {A : Type 0} (n : ℕ) (json : A → Data) (xs : List A) → ((x : A) → Plain n (json x)) → Plain (suc n) (list_json json xs)
list_plain n json xs h = record { holds = listed_holds n json xs h }

pub list_if_plain : {A : Type 0} (n : ℕ) (json : A → Data) (xs : List A) → ((x : A) → Plain n (json x)) → PlainIf (suc n) (list_if json xs)
list_if_plain n json [] h = record { holds = refl }
list_if_plain n json (x ∷ xs) h = record { holds = listed_holds n json (x ∷ xs) h }

put_at : (n : ℕ) (o : Ordering) (a b c : Members) → have_plain n a ≡ true → have_plain n b ≡ true → have_plain n c ≡ true → have_plain n (match_ordering o a b c) ≡ true
put_at n Less a b c p q r = p
put_at n Equal a b c p q r = q
put_at n Greater a b c p q r = r

put_plain : (n : ℕ) (k : List ℕ) (d : Data) (ms : Members) → is_plain n d ≡ true → have_plain n ms ≡ true → have_plain n (put k d ms) ≡ true
put_plain n k d no_members p q = both (is_plain n d) true p refl
put_plain n k d (member l e ms) p q =
    put_at n (slice_cmp nat_cmp k l) (member k d (member l e ms)) (member l d ms) (member l e (put k d ms)) (both (is_plain n d) (is_plain n e && have_plain n ms) p q)
    (both (is_plain n d) (have_plain n ms) p (right (is_plain n e) (have_plain n ms) q))
    (both (is_plain n e) (have_plain n (put k d ms)) (left (is_plain n e) (have_plain n ms) q) (put_plain n k d ms p (right (is_plain n e) (have_plain n ms) q)))

entries_plain : {K V : Type 0} (n : ℕ) (name : K → List ℕ) (json : V → Data) (ms : Members) (es : List (K × V)) → ((x : V) → Plain n (json x)) → have_plain n ms ≡ true → have_plain n (with_entries name json ms es) ≡ true
entries_plain n name json ms [] h q = q
entries_plain n name json ms (e ∷ es) h q =
    entries_plain n name json (put (name e.0) (json e.1) ms) es h (put_plain n (name e.0) (json e.1) ms (h e.1).holds q)

pub table_plain : {K V : Type 0} (n : ℕ) (name : K → List ℕ) (json : V → Data) (es : List (K × V)) → ((x : V) → Plain n (json x)) → Plain (suc n) (table_json name json es)
table_plain n name json es h = record { holds = entries_plain n name json no_members es h refl }

pub table_if_plain : {K V : Type 0} (n : ℕ) (name : K → List ℕ) (json : V → Data) (es : List (K × V)) → ((x : V) → Plain n (json x)) → PlainIf (suc n) (table_if name json es)
table_if_plain n name json [] h = record { holds = refl }
table_if_plain n name json (e ∷ es) h = record { holds = entries_plain n name json no_members (e ∷ es) h refl }

pub option_plain : {A : Type 0} (n : ℕ) (json : A → Data) (o : Option A) → ((x : A) → Plain n (json x)) → PlainIf n (option_map json o)
option_plain n json None h = missing
option_plain n json (Some x) h = some (h x)

pub and_then_plain : {A : Type 0} (n : ℕ) (json : A → Option Data) (o : Option A) → ((x : A) → PlainIf n (json x)) → PlainIf n (option_and_then json o)
and_then_plain n json None h = missing
and_then_plain n json (Some x) h = h x

pub appended : (n : ℕ) (xs ys : List Data) → are_plain n (items_of xs) ≡ true → are_plain n (items_of ys) ≡ true → are_plain n (items_of (xs ++ ys)) ≡ true
appended n [] ys p q = q
appended n (x ∷ xs) ys p q =
    both (is_plain n x) _ (left (is_plain n x) (are_plain n (items_of xs)) p) (appended n xs ys (right (is_plain n x) (are_plain n (items_of xs)) p) q)
