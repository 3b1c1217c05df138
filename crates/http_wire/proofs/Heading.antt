-- A head that httparse reads has no more fields than lines.
use Rattle.std.proofs.Common.{ℕ, ◌+◌, ◌≤◌, ◌<◌, ◌≡◌, ◌∙◌, inr, Bool, true, false, true≢false, cond, eqb, List, [], ◌∷◌, ◌++◌, length, drop, flat_map, refl, sym, ap, subst, arith, append-nil}
use Rattle.std.specs.Prelude.{Result, Ok, Err, OnErr}
use Rattle.std.proofs.lemmas.Bool.{eq-eqb, eqb-true}
use Rattle.std.proofs.lemmas.List.Sums.{sum_by-append, sum_by-cons}
use Rattle.std.proofs.Math.Nat.{le_refl}
use Rattle.std.proofs.Math.Seq.{drop-length}
use Rattle.httparse.specs.declared.Error.{Error}
use Rattle.httparse.specs.declared.Status.{Status}
use Rattle.httparse.specs.declared.Status.TheVariants.{Complete, Partial}
use Rattle.httparse.specs.declared.borrowed.Request.{Request}
use Rattle.httparse.specs.Borrowed.{HoldsSomeRequest}
use Rattle.httparse.specs.Grammar.{Field, HasNoRequest, LineEnd, ReadsRequest, RequestHead, crlf, lf, print_blank, print_end, print_field, print_request, print_section, print_version}
use Rattle.httparse.specs.Outcome.{IfComplete, OnPartial}
use Rattle.httparse.specs.Spans.{RequestOverflows}
use Rattle.httparse.proofs.GrammarLemmas.{request_unique}
use Rattle.http_wire.specs.Heads.{line_count}
use Rattle.http_wire.specs.declared.error.WireError.{WireError}
use Rattle.http_wire.specs.declared.error.WireError.TheVariants as error
use Rattle.http_wire.specs.declared.head.Head.{Head}
use Rattle.http_wire.specs.Fields.{meaning_of}
use Rattle.http_wire.specs.Meanings.{Gives, HoldsParts, Reads, is_whole}
use Rattle.http_wire.specs.Requests.{IsNoHead}

eqb_same : (n : ℕ) → eqb n n ≡ true
eqb_same n = eq-eqb n n refl

count_append : (a b : List ℕ) → line_count (a ++ b) ≡ line_count a + line_count b
count_append a b = sum_by-append (λ (x : ℕ). cond (eqb x 10) 1 0) a b

count_cons : (x : ℕ) (a : List ℕ) → line_count a ≤ line_count (x ∷ a)
count_cons x a = omega (arith, sum_by-cons (λ (y : ℕ). cond (eqb y 10) 1 0) x a)

count_tail : (a b : List ℕ) → line_count b ≤ line_count (a ++ b)
count_tail a b = omega (arith, count_append a b)

count_end : (e : LineEnd) → 1 ≤ line_count (print_end e)
count_end crlf = le_refl 1
count_end lf = le_refl 1

at_least : (a b n : ℕ) → n ≤ a → a ≤ b → n ≤ b
at_least a b n h k = omega (arith, h, k)

count_field : (f : Field) → 1 ≤ line_count (print_field f)
count_field f = at_least (line_count (print_end f.end)) (line_count (print_field f)) 1 (count_end f.end) (count_tail (f.name ++ 58 ∷ f.raw) (print_end f.end))

count_fields : (fs : List Field) → length fs ≤ line_count (flat_map print_field fs)
count_fields [] = omega arith
count_fields (f ∷ fs) = omega (arith, count_append (print_field f) (flat_map print_field fs), count_field f, count_fields fs)

count_section : (fs : List Field) (last : LineEnd) → length fs + 1 ≤ line_count (print_section fs last)
count_section fs last = omega (arith, count_append (flat_map print_field fs) (print_end last), count_fields fs, count_end last)

two_more : (n a b s w : ℕ) → w ≡ a + s → b ≤ a → 1 ≤ b → n + 1 ≤ s → n + 2 ≤ w
two_more n a b s w e h k m = omega (arith, e, h, k, m)

count_request : (h : RequestHead) → length h.fields + 2 ≤ line_count (print_request h)
unfolding print_request
count_request h =
    let prefix = print_blank h.blank ++ h.method ++ 32 ∷ h.target ++ 32 ∷ print_version h.minor in
    two_more (length h.fields) (line_count (prefix ++ print_end h.line_end)) (line_count (print_end h.line_end)) (line_count (print_section h.fields h.last)) (line_count (print_request h))
    (count_append (prefix ++ print_end h.line_end) (print_section h.fields h.last)) (count_tail prefix (print_end h.line_end)) (count_end h.line_end) (count_section h.fields h.last)

few_fields : (lines : List ℕ) (h : RequestHead) → ReadsRequest lines h [] → line_count lines ≤ 66 → length h.fields ≤ 64
few_fields lines h reads few =
    let e : lines ≡ print_request h = reads.1 ∙ append-nil (print_request h) in
    omega (arith, count_request h, ap line_count e, few)

-- a parse that isn't whole means that the lines are no head
no_head_by : (lines : List ℕ) (room : ℕ) (r : Result (Status ℕ) Error) (request : Request) → 64 ≤ room → line_count lines ≤ 66
    → IfComplete r (HoldsSomeRequest lines request) → OnPartial r (HasNoRequest lines) → OnErr r (RequestOverflows room lines) → is_whole r (length lines) ≡ false → IsNoHead lines
no_head_by lines room (Ok (Complete n)) request big few holds partial over not k reads =
    let u = request_unique lines holds.0 k (drop n lines) [] holds.1.reads reads in
    let whole : lines ≡ print_request holds.0 = holds.1.reads.1 ∙ ap (λ (l : List ℕ). print_request holds.0 ++ l) u.1 ∙ append-nil (print_request holds.0) in
    let n_is : n ≡ length lines = holds.1.len_is ∙ sym (ap length whole) in
    true≢false (sym (ap (λ (m : ℕ). eqb m (length lines)) n_is ∙ eqb_same (length lines)) ∙ not)
no_head_by lines room (Ok Partial) request big few holds partial over not k reads = partial k [] reads
no_head_by lines room (Err e) request big few holds partial over not k reads =
    let fields : length k.fields ≤ 64 = few_fields lines k reads few in
    let more : room < length k.fields = over [] k [] (subst (λ (l : List ℕ). ReadsRequest l k []) (sym (append-nil lines)) reads) in
    absurd (omega (arith, fields, more, big))

pub no_head_is : (lines : List ℕ) (room : ℕ) (r : Result (Status ℕ) Error) (request : Request) (w : Bool) → w ≡ is_whole r (length lines) → w ≡ false → 64 ≤ room → line_count lines ≤ 66
    → IfComplete r (HoldsSomeRequest lines request) → OnPartial r (HasNoRequest lines) → OnErr r (RequestOverflows room lines) → IsNoHead lines
no_head_is lines room r request w is not big few holds partial over = no_head_by lines room r request big few holds partial over (sym is ∙ not)

-- a whole one is the head
head_by : (lines : List ℕ) (r : Result (Status ℕ) Error) (request : Request) → IfComplete r (HoldsSomeRequest lines request) → is_whole r (length lines) ≡ true
    → (h : RequestHead) × ReadsRequest lines h [] × HoldsParts request h
head_by lines (Ok (Complete n)) request holds whole =
    let h = holds.1 in
    let n_is : n ≡ length lines = eqb-true n (length lines) whole in
    let none : drop n lines ≡ [] = ap (λ (k : ℕ). drop k lines) n_is ∙ drop-length lines in
    (holds.0, subst (λ (l : List ℕ). ReadsRequest lines holds.0 l) none h.reads, record { method = h.method; path = h.path; version = h.version; fields = h.fields })
head_by lines (Ok Partial) request holds whole = absurd (true≢false (sym whole))
head_by lines (Err e) request holds whole = absurd (true≢false (sym whole))

pub head_is : (lines : List ℕ) (r : Result (Status ℕ) Error) (request : Request) (w : Bool) → w ≡ is_whole r (length lines) → w ≡ true → IfComplete r (HoldsSomeRequest lines request)
    → (h : RequestHead) × ReadsRequest lines h [] × HoldsParts request h
head_is lines r request w is whole holds = head_by lines r request holds (sym is ∙ whole)

reads_by : (lines : List ℕ) (h : RequestHead) (r : Result Head WireError) → ReadsRequest lines h [] → Gives r (meaning_of h) → Reads lines r
reads_by lines h (Ok head) reads gives = record { head = h; reads = reads; meaning_is = gives }
reads_by lines h (Err error.BadHead) reads gives = inr (record { head = h; reads = reads; meaning_is = gives })
reads_by lines h (Err error.NoLength) reads gives = record { head = h; reads = reads; meaning_is = gives }
reads_by lines h (Err error.TooLong) reads gives = record { head = h; reads = reads; meaning_is = gives }
reads_by lines h (Err error.EndedEarly) reads gives = absurd gives
reads_by lines h (Err error.ReadFault) reads gives = absurd gives
reads_by lines h (Err error.WriteFault) reads gives = absurd gives
reads_by lines h (Err error.Memory) reads gives = tt

-- what a whole head says
pub reads_is : (lines : List ℕ) (r : Result (Status ℕ) Error) (request : Request) (w : Bool) (answer : Result Head WireError) → w ≡ is_whole r (length lines) → w ≡ true → IfComplete r (HoldsSomeRequest lines request)
    → ((h : RequestHead) → HoldsParts request h → Gives answer (meaning_of h)) → Reads lines answer
reads_is lines r request w answer is whole holds gives =
    let h = head_is lines r request w is whole holds in
    reads_by lines h.0 answer h.1 (gives h.0 h.2)
