-- Bytes have one list of requests and one ending.
use Rattle.std.proofs.lemmas.Bool.{leb-false}
use Rattle.std.proofs.Common.{ℕ, ◌+◌, ◌||◌, ◌≤◌, ◌<◌, ◌≡◌, ◌∙◌, ◌⊎◌, inl, inr, Bool, true, false, List, [], ◌∷◌, ◌++◌, length, take, refl, sym, ap, subst, arith, append_assoc, append-nil}
use Rattle.std.specs.Prelude.{Option, None, Some, Result, Ok, Err, MatchBool, nat_le}
use Rattle.std.proofs.lemmas.List.{length-append, take_all, take-append-le}
use Rattle.httparse.proofs.GrammarLemmas.{request_unique}
use Rattle.http_wire.specs.declared.error.WireError.{WireError}
use Rattle.http_wire.specs.declared.error.WireError.TheVariants as error
use Rattle.http_wire.specs.declared.head.Head.{Head}
use Rattle.http_wire.specs.Fields.{meaning_of}
use Rattle.http_wire.specs.Heads.{HasNoHead, IsBlank, IsHead, IsLongHead, IsOpenHead, behind_empty, line_count, through_empty}
use Rattle.http_wire.specs.Requests.{AreRequests, BadHead, Closed, EndedEarly, Ending, Follow, HasMeaning, IsBadHead, IsFirst, IsNoHead, IsRequest, IsSaid, IsTooLong, Lie, LieAfter, Message, NoLength, Says, Stops, TooLong, message_of, numbered}
use Rattle.http_wire.proofs.Fronts.{Fronted, none_at_all, no_head_there, one_head, split_same}

-- what a head at the start is found to be
data Verdict : Type 0 where
  Bare : Verdict
  Crowded : Verdict
  Meant : (r : Result Head WireError) → Verdict

abbrev VerdictGiven : List ℕ → Verdict → Type 0
VerdictGiven lines Bare = (line_count lines ≤ 66) × IsNoHead lines
VerdictGiven lines Crowded = 66 < line_count lines
VerdictGiven lines (Meant r) = (line_count lines ≤ 66) × HasMeaning lines r

meant_same : (lines : List ℕ) (r q : Result Head WireError) → HasMeaning lines r → HasMeaning lines q → r ≡ q
meant_same lines r q h k = sym h.meaning_is ∙ ap meaning_of (request_unique lines h.head k.head [] [] h.reads k.reads).0 ∙ k.meaning_is

too_many : (n : ℕ) → n ≤ 66 → 66 < n → ⊥
too_many n h k = omega (arith, h, k)

judged_same : (lines : List ℕ) (v w : Verdict) → VerdictGiven lines v → VerdictGiven lines w → v ≡ w
judged_same lines Bare Bare h k = refl
judged_same lines Bare Crowded h k = absurd (too_many (line_count lines) h.0 k)
judged_same lines Bare (Meant q) h k = absurd (h.1 k.1.head k.1.reads)
judged_same lines Crowded Bare h k = absurd (too_many (line_count lines) k.0 h)
judged_same lines Crowded Crowded h k = refl
judged_same lines Crowded (Meant q) h k = absurd (too_many (line_count lines) k.0 h)
judged_same lines (Meant r) Bare h k = absurd (k.1 h.1.head h.1.reads)
judged_same lines (Meant r) Crowded h k = absurd (too_many (line_count lines) h.0 k)
judged_same lines (Meant r) (Meant q) h k = ap (λ (x : Result Head WireError). Meant x) (meant_same lines r q h.1 k.1)

-- bytes with a head at their start
record Headed (bytes prefix lines rest : List ℕ) (v : Verdict) : Type 0 where
  at : Fronted bytes prefix lines rest
  judged : VerdictGiven lines v

record SameHead (prefix rest : List ℕ) (v : Verdict) (prefix' rest' : List ℕ) (v' : Verdict) : Type 0 where
  fronts : prefix ≡ prefix'
  rests : rest ≡ rest'
  verdicts : v ≡ v'

same_head : (bytes prefix lines rest prefix' lines' rest' : List ℕ) (v v' : Verdict) → Headed bytes prefix lines rest v → Headed bytes prefix' lines' rest' v' → SameHead prefix rest v prefix' rest' v'
same_head bytes prefix lines rest prefix' lines' rest' v v' h k =
    let s = one_head bytes prefix lines rest prefix' lines' rest' h.at k.at in
    record { fronts = s.fronts; rests = s.rests; verdicts = judged_same lines' v v' (subst (λ (l : List ℕ). VerdictGiven l v) s.lines_are h.judged) k.judged }

-- how the requests end if the bytes begin with no request

abbrev ending_of : Verdict → Option Ending
ending_of Bare = Some BadHead
ending_of Crowded = Some TooLong
ending_of (Meant (Ok head)) = None
ending_of (Meant (Err error.BadHead)) = Some BadHead
ending_of (Meant (Err error.NoLength)) = Some NoLength
ending_of (Meant (Err error.TooLong)) = Some TooLong
ending_of (Meant (Err error.EndedEarly)) = None
ending_of (Meant (Err error.ReadFault)) = None
ending_of (Meant (Err error.WriteFault)) = None
ending_of (Meant (Err error.Memory)) = None

record Refused (bytes : List ℕ) (e : Ending) : Type 0 where
  prefix : List ℕ
  lines : List ℕ
  rest : List ℕ
  verdict : Verdict
  head : Headed bytes prefix lines rest verdict
  ending : ending_of verdict ≡ Some e

-- a head that says how long a body is
record Begun (bytes prefix rest : List ℕ) (head : Head) : Type 0 where
  lines : List ℕ
  headed : Headed bytes prefix lines rest (Meant (Ok head))

record Cut (bytes : List ℕ) (e : Ending) : Type 0 where
  prefix : List ℕ
  rest : List ℕ
  head : Head
  begun : Begun bytes prefix rest head
  short : length rest < head.length
  early : e ≡ EndedEarly

abbrev Unheaded : List ℕ → Ending → Type 0
Unheaded bytes Closed = IsBlank bytes
Unheaded bytes BadHead = ⊥
Unheaded bytes NoLength = ⊥
Unheaded bytes TooLong = IsLongHead bytes
Unheaded bytes EndedEarly = IsOpenHead bytes

abbrev Shape : List ℕ → Ending → Type 0
Shape bytes e = Unheaded bytes e ⊎ (Refused bytes e ⊎ Cut bytes e)

short_refused : (bytes prefix lines rest : List ℕ) (e : Ending) (v : Verdict) → bytes ≡ prefix ++ rest → IsHead prefix lines → VerdictGiven lines v → ending_of v ≡ Some e → Refused bytes e
short_refused bytes prefix lines rest e v is head judged ending = record {
  prefix = prefix;
  lines = lines;
  rest = rest;
  verdict = v;
  head = record { at = record { is = is; head = head }; judged = judged };
  ending = ending;
}

said_refused : (bytes prefix rest : List ℕ) (e : Ending) (r : Result Head WireError) → bytes ≡ prefix ++ rest → Says prefix r → ending_of (Meant r) ≡ Some e → Refused bytes e
said_refused bytes prefix rest e r is says ending = short_refused bytes prefix says.lines rest e (Meant r) is says.short.head (says.short.few, says.means) ending

bad_shape : (bytes prefix rest : List ℕ) → bytes ≡ prefix ++ rest → IsBadHead prefix → Refused bytes BadHead
bad_shape bytes prefix rest is (inl stray) = short_refused bytes prefix stray.lines rest BadHead Bare is stray.short.head (stray.short.few, stray.none) refl
bad_shape bytes prefix rest is (inr says) = said_refused bytes prefix rest BadHead (Err error.BadHead) is says refl

begun_of : (bytes prefix rest : List ℕ) (head : Head) → bytes ≡ prefix ++ rest → Says prefix (Ok head) → Begun bytes prefix rest head
begun_of bytes prefix rest head is says = record { lines = says.lines; headed = record { at = record { is = is; head = says.short.head }; judged = (says.short.few, says.means) } }

cut_same : (most : ℕ) (bytes prefix rest : List ℕ) → bytes ≡ prefix ++ rest → most < length prefix → take most bytes ≡ take most prefix
cut_same most bytes prefix rest is long = ap (take most) is ∙ take-append-le most prefix rest (omega (arith, long))

more_long : (most : ℕ) (bytes prefix rest : List ℕ) → bytes ≡ prefix ++ rest → most < length prefix → most < length bytes
more_long most bytes prefix rest is long = omega (arith, long, ap length is, length-append prefix rest)

long_shape : (bytes prefix rest : List ℕ) → bytes ≡ prefix ++ rest → IsTooLong prefix → Shape bytes TooLong
long_shape bytes prefix rest is (inl h) = inl (record { longer = more_long 16384 bytes prefix rest is h.longer; open_ = subst (λ (l : List ℕ). HasNoHead l) (sym (cut_same 16384 bytes prefix rest is h.longer)) h.open_ })
long_shape bytes prefix rest is (inr (inl h)) = inr (inl (short_refused bytes prefix h.lines rest TooLong Crowded is h.head h.many refl))
long_shape bytes prefix rest is (inr (inr says)) = inr (inl (said_refused bytes prefix rest TooLong (Err error.TooLong) is says refl))

shape_of : (bytes : List ℕ) (e : Ending) → Stops bytes e → Shape bytes e
shape_of bytes Closed h = inl h
shape_of bytes BadHead h = inr (inl (bad_shape bytes h.0 h.1 h.2 h.3))
shape_of bytes NoLength h = inr (inl (said_refused bytes h.0 h.1 NoLength (Err error.NoLength) h.2 h.3 refl))
shape_of bytes TooLong h = long_shape bytes h.0 h.1 h.2 h.3
shape_of bytes EndedEarly (inl h) = inl h
shape_of bytes EndedEarly (inr h) = inr (inr (record { prefix = h.prefix; rest = h.body; head = h.head; begun = begun_of bytes h.prefix h.body h.head h.is h.says; short = h.short; early = refl }))

-- two endings

no_head_in : (bytes : List ℕ) (e : Ending) → Unheaded bytes e → HasNoHead (take 16384 bytes)
no_head_in bytes Closed h = subst (λ (l : List ℕ). HasNoHead l) (sym (take_all 16384 bytes h.within)) (ap through_empty h.only ∙ none_at_all)
no_head_in bytes BadHead h = absurd h
no_head_in bytes NoLength h = absurd h
no_head_in bytes TooLong h = h.open_
no_head_in bytes EndedEarly h = subst (λ (l : List ℕ). HasNoHead l) (sym (take_all 16384 bytes h.within)) h.open_

not_both : (bytes prefix lines rest : List ℕ) (v : Verdict) (e : Ending) → Headed bytes prefix lines rest v → Unheaded bytes e → ⊥
not_both bytes prefix lines rest v e h u = no_head_there bytes prefix lines rest 16384 h.at.head.within h.at (no_head_in bytes e u)

begun_blank : (bytes : List ℕ) → behind_empty bytes ≡ [] → 0 < length (behind_empty bytes) → ⊥
begun_blank bytes e h = omega (arith, ap length e, h)

unheaded_same : (bytes : List ℕ) (e f : Ending) → Unheaded bytes e → Unheaded bytes f → e ≡ f
unheaded_same bytes BadHead f h k = absurd h
unheaded_same bytes NoLength f h k = absurd h
unheaded_same bytes Closed BadHead h k = absurd k
unheaded_same bytes Closed NoLength h k = absurd k
unheaded_same bytes Closed Closed h k = refl
unheaded_same bytes Closed TooLong h k = absurd (omega (arith, h.within, k.longer))
unheaded_same bytes Closed EndedEarly h k = absurd (begun_blank bytes h.only k.begun)
unheaded_same bytes TooLong BadHead h k = absurd k
unheaded_same bytes TooLong NoLength h k = absurd k
unheaded_same bytes TooLong Closed h k = absurd (omega (arith, k.within, h.longer))
unheaded_same bytes TooLong TooLong h k = refl
unheaded_same bytes TooLong EndedEarly h k = absurd (omega (arith, k.within, h.longer))
unheaded_same bytes EndedEarly BadHead h k = absurd k
unheaded_same bytes EndedEarly NoLength h k = absurd k
unheaded_same bytes EndedEarly Closed h k = absurd (begun_blank bytes k.only h.begun)
unheaded_same bytes EndedEarly TooLong h k = absurd (omega (arith, h.within, k.longer))
unheaded_same bytes EndedEarly EndedEarly h k = refl

some_ending : (e f : Ending) → ◌≡◌ {A = Option Ending} (Some e) (Some f) → e ≡ f
some_ending e f h = cc

none_ending : (e : Ending) → ◌≡◌ {A = Option Ending} None (Some e) → ⊥
none_ending e h = absurd (cc)

refused_same : (bytes : List ℕ) (e f : Ending) → Refused bytes e → Refused bytes f → e ≡ f
refused_same bytes e f h k =
    let s = same_head bytes h.prefix h.lines h.rest k.prefix k.lines k.rest h.verdict k.verdict h.head k.head in
    some_ending e f (sym h.ending ∙ ap ending_of s.verdicts ∙ k.ending)

refused_begun : (bytes prefix rest : List ℕ) (head : Head) (e : Ending) → Refused bytes e → Begun bytes prefix rest head → ⊥
refused_begun bytes prefix rest head e h k =
    let s = same_head bytes h.prefix h.lines h.rest prefix k.lines rest h.verdict (Meant (Ok head)) h.head k.headed in
    none_ending e (sym (ap ending_of s.verdicts) ∙ h.ending)

shape_same : (bytes : List ℕ) (e f : Ending) → Shape bytes e → Shape bytes f → e ≡ f
shape_same bytes e f (inl h) (inl k) = unheaded_same bytes e f h k
shape_same bytes e f (inl h) (inr (inl k)) = absurd (not_both bytes k.prefix k.lines k.rest k.verdict e k.head h)
shape_same bytes e f (inl h) (inr (inr k)) = absurd (not_both bytes k.prefix k.begun.lines k.rest (Meant (Ok k.head)) e k.begun.headed h)
shape_same bytes e f (inr (inl h)) (inl k) = absurd (not_both bytes h.prefix h.lines h.rest h.verdict f h.head k)
shape_same bytes e f (inr (inl h)) (inr (inl k)) = refused_same bytes e f h k
shape_same bytes e f (inr (inl h)) (inr (inr k)) = absurd (refused_begun bytes k.prefix k.rest k.head e h k.begun)
shape_same bytes e f (inr (inr h)) (inl k) = absurd (not_both bytes h.prefix h.begun.lines h.rest (Meant (Ok h.head)) f h.begun.headed k)
shape_same bytes e f (inr (inr h)) (inr (inl k)) = absurd (refused_begun bytes h.prefix h.rest h.head f k h.begun)
shape_same bytes e f (inr (inr h)) (inr (inr k)) = h.early ∙ sym k.early

-- a request and another, or an ending

head_same : (h k : Head) → ◌≡◌ {A = Verdict} (Meant (Ok h)) (Meant (Ok k)) → h ≡ k
head_same h k e = cc

same_begun : (bytes prefix rest prefix' rest' : List ℕ) (head head' : Head) → Begun bytes prefix rest head → Begun bytes prefix' rest' head' → (rest ≡ rest') × (head ≡ head')
same_begun bytes prefix rest prefix' rest' head head' h k =
    let s = same_head bytes prefix h.lines rest prefix' k.lines rest' (Meant (Ok head)) (Meant (Ok head')) h.headed k.headed in
    (s.rests, head_same head head' s.verdicts)

request_begun : (bytes text rest : List ℕ) (m : Message) (r : IsSaid text m) → bytes ≡ text ++ rest → Begun bytes r.prefix (r.body ++ rest) r.head
request_begun bytes text rest m r is = begun_of bytes r.prefix (r.body ++ rest) r.head (is ∙ ap (λ (l : List ℕ). l ++ rest) r.is ∙ append_assoc r.prefix r.body rest) r.says

said_same : (bytes text rest text' rest' : List ℕ) (m m' : Message) → bytes ≡ text ++ rest → IsSaid text m → bytes ≡ text' ++ rest' → IsSaid text' m' → (m ≡ m') × (rest ≡ rest')
said_same bytes text rest text' rest' m m' is r is' r' =
    let s = same_begun bytes r.prefix (r.body ++ rest) r'.prefix (r'.body ++ rest') r.head r'.head (request_begun bytes text rest m r is) (request_begun bytes text' rest' m' r' is') in
    let b = split_same r.body r'.body rest rest' (r.long ∙ ap (λ (h : Head). h.length) s.1 ∙ sym r'.long) s.0 in
    (r.message_is ∙ ap (λ (h : Head). message_of h r.body) s.1 ∙ ap (λ (l : List ℕ). message_of r'.head l) b.0 ∙ sym r'.message_is, b.1)

too_short : (body rest whole : List ℕ) (n k : ℕ) → body ++ rest ≡ whole → length body ≡ n → n ≡ k → length whole < k → ⊥
too_short body rest whole n k e l s h = omega (arith, length-append body rest, ap length e, l, s, h)

request_or_ending : (bytes text rest : List ℕ) (m : Message) (e : Ending) → bytes ≡ text ++ rest → IsSaid text m → Shape bytes e → ⊥
request_or_ending bytes text rest m e is r (inl u) =
    let b = request_begun bytes text rest m r is in not_both bytes r.prefix b.lines (r.body ++ rest) (Meant (Ok r.head)) e b.headed u
request_or_ending bytes text rest m e is r (inr (inl k)) = refused_begun bytes r.prefix (r.body ++ rest) r.head e k (request_begun bytes text rest m r is)
request_or_ending bytes text rest m e is r (inr (inr k)) =
    let s = same_begun bytes r.prefix (r.body ++ rest) k.prefix k.rest r.head k.head (request_begun bytes text rest m r is) k.begun in
    too_short r.body rest k.rest r.head.length k.head.length s.0 r.long (ap (λ (h : Head). h.length) s.1) k.short

-- the same behind so many others

request_same : (before : ℕ) (bytes text rest text' rest' : List ℕ) (m m' : Message) → bytes ≡ text ++ rest → IsRequest before text m → bytes ≡ text' ++ rest' → IsRequest before text' m' → (m ≡ m') × (rest ≡ rest')
request_same before bytes text rest text' rest' m m' is r is' r' =
    let s = said_same bytes text rest text' rest' r.said r'.said is r.is is' r'.is in
    (r.message_is ∙ ap (numbered before) s.0 ∙ sym r'.message_is, s.1)

no_request : (before : ℕ) (bytes text rest : List ℕ) (m : Message) (e : Ending) → bytes ≡ text ++ rest → IsRequest before text m → Shape bytes e → ⊥
no_request before bytes text rest m e is r k = request_or_ending bytes text rest r.said e is r.is k

-- all of them

go_on : (last : Bool) (before : ℕ) (rest : List ℕ) (ms ns : List Message) (e f : Ending) → MatchBool last ((ms ≡ []) × (e ≡ Closed)) (LieAfter before rest ms e) → MatchBool last ((ns ≡ []) × (f ≡ Closed)) (LieAfter before rest ns f)
    → (LieAfter before rest ms e → LieAfter before rest ns f → (ms ≡ ns) × (e ≡ f)) → (ms ≡ ns) × (e ≡ f)
go_on true before rest ms ns e f h k more = (h.0 ∙ sym k.0, h.1 ∙ sym k.1)
go_on false before rest ms ns e f h k more = more h k

pub lie_one : (before : ℕ) (bytes : List ℕ) (ms ns : List Message) (e f : Ending) → LieAfter before bytes ms e → LieAfter before bytes ns f → (ms ≡ ns) × (e ≡ f)
lie_one before bytes [] [] e f h k = (refl, shape_same bytes e f (shape_of bytes e h) (shape_of bytes f k))
lie_one before bytes [] (n ∷ ns) e f h k = absurd (no_request before bytes k.0 k.1 n e k.2 k.3 (shape_of bytes e h))
lie_one before bytes (m ∷ ms) [] e f h k = absurd (no_request before bytes h.0 h.1 m f h.2 h.3 (shape_of bytes f k))
lie_one before bytes (m ∷ ms) (n ∷ ns) e f h k =
    let s = request_same before bytes h.0 h.1 k.0 k.1 m n h.2 h.3 k.2 k.3 in
    let there : Follow before m h.1 ns f = subst (λ (l : List ℕ). Follow before m l ns f) (sym s.1) (subst (λ (x : Message). Follow before x k.1 ns f) (sym s.0) k.4) in
    let r = go_on m.last (before + 1) h.1 ms ns e f h.4 there (λ p q. lie_one (before + 1) h.1 ms ns e f p q) in
    (ap (λ (x : Message). x ∷ ms) s.0 ∙ ap (λ (l : List Message). n ∷ l) r.0, r.1)

-- a request that the bytes begin with is the first of them

pub lie_first : (before : ℕ) (text rest : List ℕ) (m : Message) (ms : List Message) (e : Ending) → IsRequest before text m → LieAfter before (text ++ rest) ms e → IsFirst before m rest ms e
lie_first before text rest m [] e r h = absurd (no_request before (text ++ rest) text rest m e refl r (shape_of (text ++ rest) e h))
lie_first before text rest m (n ∷ ns) e r h =
    let s = request_same before (text ++ rest) text rest h.0 h.1 m n refl r h.2 h.3 in
    record {
      others = ns;
      first = ap (λ (x : Message). x ∷ ns) (sym s.0);
      follow = subst (λ (l : List ℕ). Follow before m l ns e) (sym s.1) (subst (λ (x : Message). Follow before x h.1 ns e) (sym s.0) h.4);
    }

-- one request more, and what follows

next_number : (before : ℕ) (m : Message) (ms : List Message) → before + length (m ∷ ms) ≡ (before + 1) + length ms
next_number before m ms = omega arith

none_more : (before : ℕ) → before + 0 ≡ before
none_more before = omega arith

pub one_more : (before : ℕ) (bytes text : List ℕ) (ms : List Message) (m : Message) → AreRequests before bytes ms → IsRequest (before + length ms) text m → m.last ≡ false → AreRequests before (bytes ++ text) (ms ++ m ∷ [])
one_more before bytes text [] m h r goes = (text, [], ap (λ (l : List ℕ). l ++ text) h ∙ sym (append-nil text), subst (λ (n : ℕ). IsRequest n text m) (none_more before) r, goes, refl)
one_more before bytes text (n ∷ ms) m h r goes = (
  h.0,
  h.1 ++ text,
  ap (λ (l : List ℕ). l ++ text) h.2 ∙ append_assoc h.0 h.1 text,
  h.3,
  h.4,
  one_more (before + 1) h.1 text ms m h.5 (subst (λ (n : ℕ). IsRequest n text m) (next_number before n ms) r) goes,
)

pub lie_behind : (before : ℕ) (bytes rest : List ℕ) (ms ns : List Message) (e : Ending) → AreRequests before bytes ms → LieAfter (before + length ms) rest ns e → LieAfter before (bytes ++ rest) (ms ++ ns) e
lie_behind before bytes rest [] ns e h k = subst (λ (l : List ℕ). LieAfter before (l ++ rest) ns e) (sym h) (subst (λ (n : ℕ). LieAfter n rest ns e) (none_more before) k)
lie_behind before bytes rest (m ∷ ms) ns e h k = (
  h.0,
  h.1 ++ rest,
  ap (λ (l : List ℕ). l ++ rest) h.2 ∙ append_assoc h.0 h.1 rest,
  h.3,
  subst (λ (b : Bool). MatchBool b ((ms ++ ns ≡ []) × (e ≡ Closed)) (LieAfter (before + 1) (h.1 ++ rest) (ms ++ ns) e)) (sym h.4)
      (lie_behind (before + 1) h.1 rest ms ns e h.5 (subst (λ (n : ℕ). LieAfter n rest ns e) (next_number before m ms) k)),
)

-- a connection has no more than so many

goes_on : (said : Bool) (n : ℕ) → (said || nat_le 65535 n) ≡ false → n < 65535
goes_on false n h = leb-false 65535 n h
goes_on true n h = absurd (cc)

followed_few : (last : Bool) (before : ℕ) (rest : List ℕ) (ms : List Message) (e : Ending) → (last ≡ false → before < 65535) → before ≤ 65535 → MatchBool last ((ms ≡ []) × (e ≡ Closed)) (LieAfter before rest ms e)
    → (before < 65535 → LieAfter before rest ms e → before + length ms ≤ 65535) → before + length ms ≤ 65535
followed_few true before rest ms e goes within h more = omega (arith, ap length h.0, within)
followed_few false before rest ms e goes within h more = more (goes refl) h

few_after : (before : ℕ) (bytes : List ℕ) (ms : List Message) (e : Ending) → before < 65535 → LieAfter before bytes ms e → before + length ms ≤ 65535
few_after before bytes [] e within h = omega (arith, within)
few_after before bytes (m ∷ ms) e within h =
    let goes : m.last ≡ false → before + 1 < 65535 = λ l. goes_on h.3.said.last (before + 1) (sym (ap (λ (x : Message). x.last) h.3.message_is) ∙ l) in
    let few = followed_few m.last (before + 1) h.1 ms e goes (omega (arith, within)) h.4 (λ p q. few_after (before + 1) h.1 ms e p q) in
    omega (arith, few)

pub lie_few : (bytes : List ℕ) (ms : List Message) (e : Ending) → Lie bytes ms e → length ms ≤ 65535
lie_few bytes ms e h = omega (arith, few_after 0 bytes ms e (omega arith) h)
