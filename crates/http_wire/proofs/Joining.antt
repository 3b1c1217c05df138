-- How the steps of a call for the next request join.
use Rattle.std.proofs.Common.{ℕ, ◌+◌, ◌-◌, ◌≤◌, ◌<◌, ◌≡◌, ◌∙◌, inl, inr, List, [], ◌++◌, length, take, drop, refl, sym, ap, subst, arith, append-nil}
use Rattle.std.specs.Prelude.{Option, Some, Result, Ok, Err}
use Rattle.std.specs.Io.KnownBytes.{Consumes}
use Rattle.std.proofs.lemmas.List.{drop-take, length-append, length-take, take-append-drop}
use Rattle.http_wire.specs.declared.error.WireError.{WireError}
use Rattle.http_wire.specs.declared.error.WireError.TheVariants as error
use Rattle.http_wire.specs.declared.head.Head.{Head}
use Rattle.http_wire.specs.declared.request.Request.{Request}
use Rattle.http_wire.specs.declared.scan.Scan.{Scan}
use Rattle.http_wire.specs.Heads.{IsHead, line_count}
use Rattle.http_wire.specs.Meanings.{Reads, SaysOf}
use Rattle.dra_ports.specs.declared.error.PortError.{PortError}
use Rattle.dra_ports.specs.declared.error.PortError.TheVariants as port
use Rattle.http_wire.specs.Filling.{HasMore}
use Rattle.http_wire.specs.Reader.{Answers, IsUndone, message, read_error, remaining}
use Rattle.http_wire.specs.Requests.{HasManyLines, IsBadHead, IsOpen, IsOpenBody, IsSaid, IsTooLong, Message, Says, message_of}
use Rattle.http_wire.specs.Steps.{Finds, Found, IsTaken, Kept, TakesBody, TakesHead}
use Rattle.http_wire.proofs.Known.{begins_all, begins_prefix, consumes_prefix, consumes_more, lost_all}

-- what the lines that were cut out say

pub cut_is : (bytes : List ℕ) (from to : ℕ) → from ≤ to → to ≤ length bytes → take (to - from) (drop from bytes) ≡ drop from (take to bytes)
cut_is bytes from to h k = let e : to ≡ from + (to - from) = omega (arith, h) in sym (ap (λ (n : ℕ). drop from (take n bytes)) e ∙ drop-take from (to - from) bytes)

says_by : (prefix lines : List ℕ) (r : Result Head WireError) → IsHead prefix lines → line_count lines ≤ 66 → Reads lines r → SaysOf prefix r
says_by prefix lines (Ok head) h few m = record { lines = lines; short = record { head = h; few = few }; means = m }
says_by prefix lines (Err error.BadHead) h few (inl none) = inl (record { lines = lines; short = record { head = h; few = few }; none = none })
says_by prefix lines (Err error.BadHead) h few (inr m) = inr (record { lines = lines; short = record { head = h; few = few }; means = m })
says_by prefix lines (Err error.NoLength) h few m = record { lines = lines; short = record { head = h; few = few }; means = m }
says_by prefix lines (Err error.TooLong) h few m = inr (record { lines = lines; short = record { head = h; few = few }; means = m })
says_by prefix lines (Err error.EndedEarly) h few m = absurd m
says_by prefix lines (Err error.ReadFault) h few m = absurd m
says_by prefix lines (Err error.WriteFault) h few m = absurd m
says_by prefix lines (Err error.Memory) h few m = tt

pub says_of : (ahead : List ℕ) (scan : Scan) (lines : List ℕ) (r : Result Head WireError) → Found ahead scan → lines ≡ take (scan.count - scan.blank) (drop scan.blank ahead) → line_count lines ≤ 66 → Reads lines r → SaysOf (take scan.count ahead) r
says_of ahead scan lines r found e few m =
    says_by (take scan.count ahead) lines r (subst (λ (l : List ℕ). IsHead (take scan.count ahead) l) (sym (e ∙ cut_is ahead scan.blank scan.count found.blank_within found.count_within)) found.head) few m

pub many_of : (ahead : List ℕ) (scan : Scan) (lines : List ℕ) → Found ahead scan → lines ≡ take (scan.count - scan.blank) (drop scan.blank ahead) → 66 < line_count lines → HasManyLines (take scan.count ahead)
many_of ahead scan lines found e many = record {
  lines = lines;
  head = subst (λ (l : List ℕ). IsHead (take scan.count ahead) l) (sym (e ∙ cut_is ahead scan.blank scan.count found.blank_within found.count_within)) found.head;
  many = many;
}

-- a head

pub head_taken : (old mid new : List ℕ) (left left_now : Option (List ℕ)) (scan : Scan) (head : Head) → Kept old mid left left_now → new ≡ drop scan.count mid → Says (take scan.count mid) (Ok head)
    → TakesHead old new left left_now (Ok (Some head))
head_taken old mid new left left_now scan head kept e says =
    begins_prefix (λ (prefix : List ℕ). Says prefix (Ok head)) old mid new (take scan.count mid) left left_now kept (sym (take-append-drop scan.count mid) ∙ ap (λ (l : List ℕ). take scan.count mid ++ l) (sym e)) says

pub head_refused : (old mid : List ℕ) (left left_now : Option (List ℕ)) (scan : Scan) (e : WireError) → Kept old mid left left_now → SaysOf (take scan.count mid) (Err e) → TakesHead old mid left left_now (Err e)
head_refused old mid left left_now scan error.BadHead kept says =
    (drop scan.count mid, begins_prefix IsBadHead old mid (drop scan.count mid) (take scan.count mid) left left_now kept (sym (take-append-drop scan.count mid)) says)
head_refused old mid left left_now scan error.NoLength kept says =
    (drop scan.count mid, begins_prefix (λ (prefix : List ℕ). Says prefix (Err error.NoLength)) old mid (drop scan.count mid) (take scan.count mid) left left_now kept (sym (take-append-drop scan.count mid)) says)
head_refused old mid left left_now scan error.TooLong kept says =
    (drop scan.count mid, begins_prefix IsTooLong old mid (drop scan.count mid) (take scan.count mid) left left_now kept (sym (take-append-drop scan.count mid)) (inr says))
head_refused old mid left left_now scan error.EndedEarly kept says = absurd says
head_refused old mid left left_now scan error.ReadFault kept says = absurd says
head_refused old mid left left_now scan error.WriteFault kept says = absurd says
head_refused old mid left left_now scan error.Memory kept says = lost_all old mid left left_now kept

pub not_found : (old mid : List ℕ) (left left_now : Option (List ℕ)) (e : WireError) → Finds old mid left left_now (Err e) → TakesHead old mid left left_now (Err e)
not_found old mid left left_now error.BadHead h = absurd h
not_found old mid left left_now error.NoLength h = absurd h
not_found old mid left left_now error.TooLong h = ([], begins_prefix IsTooLong old mid [] mid left left_now h.0 (sym (append-nil mid)) (inl h.1))
not_found old mid left left_now error.EndedEarly h = (begins_all IsOpen old mid left left_now h.0 (inl h.1), h.2)
not_found old mid left left_now error.ReadFault h = begins_all IsUndone old mid left left_now h.0 h.1
not_found old mid left left_now error.WriteFault h = absurd h
not_found old mid left left_now error.Memory h = h

-- a body

pub body_goes : (old mid ahead new : List ℕ) (left left_mid left_now : Option (List ℕ)) (body body_now : List ℕ) (n : ℕ) → Consumes (remaining old left) (remaining mid left_mid) body → Kept mid ahead left_mid left_now → body_now ≡ body ++ take n ahead
    → new ≡ drop n ahead → Consumes (remaining old left) (remaining new left_now) body_now
body_goes old mid ahead new left left_mid left_now body body_now n h kept e f =
    let first : Consumes (remaining old left) (remaining ahead left_now) body =
    subst (λ (l : List ℕ). Consumes (remaining old left) (remaining ahead left_now) l) (append-nil body) (consumes_more (remaining old left) (remaining mid left_mid) (remaining ahead left_now) body [] h kept) in
    let then : Consumes (remaining ahead left_now) (remaining new left_now) (take n ahead) = consumes_prefix ahead (take n ahead) new left_now (sym (take-append-drop n ahead) ∙ ap (λ (l : List ℕ). take n ahead ++ l) (sym f)) in
    subst (λ (l : List ℕ). Consumes (remaining old left) (remaining new left_now) l) (sym e) (consumes_more (remaining old left) (remaining ahead left_now) (remaining new left_now) body (take n ahead) first then)

pub body_short : (ahead body body_now : List ℕ) (long : ℕ) → length body ≤ long → body_now ≡ body ++ take (long - length body) ahead → length body_now ≤ long
body_short ahead body body_now long h e = omega (arith, ap length e, length-append body (take (long - length body) ahead), length-take (long - length body) ahead, h)

pub more_failed : (old mid new body : List ℕ) (left left_mid left_now : Option (List ℕ)) (long : ℕ) (e : PortError) → Consumes (remaining old left) (remaining mid left_mid) body → length body < long → HasMore mid new left_mid left_now (Err e)
    → TakesBody old new left left_now long (Err (read_error e))
more_failed old mid new body left left_mid left_now long port.Failed h short more = record {
  part = body;
  consumed = subst (λ (l : List ℕ). Consumes (remaining old left) left_now l) (append-nil body) (consumes_more (remaining old left) (remaining mid left_mid) left_now body [] h more.1);
  short = short;
}
more_failed old mid new body left left_mid left_now long port.Memory h short more = (body ++ more.0, consumes_more (remaining old left) (remaining mid left_mid) left_now body more.0 h more.1)

pub piece_failed : (old mid ahead new body : List ℕ) (left left_mid left_now : Option (List ℕ)) (long : ℕ) → Consumes (remaining old left) (remaining mid left_mid) body → Kept mid ahead left_mid left_now → TakesBody old new left left_now long (Err error.Memory)
piece_failed old mid ahead new body left left_mid left_now long h kept =
    let lost = lost_all mid ahead left_mid left_now kept in
    (body ++ lost.0, consumes_more (remaining old left) (remaining mid left_mid) left_now body lost.0 h lost.1)

-- a head and a body

pub head_failed : (P : List ℕ → Message → Type 0) (old new : List ℕ) (left left_now : Option (List ℕ)) (e : WireError) → TakesHead old new left left_now (Err e) → Answers P old new left left_now (Err e)
head_failed P old new left left_now error.BadHead h = h
head_failed P old new left left_now error.NoLength h = h
head_failed P old new left left_now error.TooLong h = h
head_failed P old new left left_now error.EndedEarly h = h
head_failed P old new left left_now error.ReadFault h = h
head_failed P old new left left_now error.WriteFault h = h
head_failed P old new left left_now error.Memory h = h

open_body : (head : Head) (prefix body : List ℕ) → Says prefix (Ok head) → length body < head.length → IsOpenBody (prefix ++ body)
open_body head prefix body says short = record { prefix = prefix; body = body; is = refl; head = head; says = says; short = short }

pub body_failed : (P : List ℕ → Message → Type 0) (old mid new : List ℕ) (left left_mid left_now : Option (List ℕ)) (head : Head) (e : WireError) → TakesHead old mid left left_mid (Ok (Some head)) → TakesBody mid new left_mid left_now head.length (Err e) → Answers P old new left left_now (Err e)
body_failed P old mid new left left_mid left_now head error.BadHead h b = absurd b
body_failed P old mid new left left_mid left_now head error.NoLength h b = absurd b
body_failed P old mid new left left_mid left_now head error.TooLong h b = absurd b
body_failed P old mid new left left_mid left_now head error.EndedEarly h b = (
  record {
    prefix = h.prefix ++ b.0.part;
    consumed = consumes_more (remaining old left) (remaining mid left_mid) left_now h.prefix b.0.part h.consumed b.0.consumed;
    fact = inr (open_body head h.prefix b.0.part h.fact b.0.short);
  },
  b.1,
)
body_failed P old mid new left left_mid left_now head error.ReadFault h b = record {
  prefix = h.prefix ++ b.part;
  consumed = consumes_more (remaining old left) (remaining mid left_mid) left_now h.prefix b.part h.consumed b.consumed;
  fact = inr (inr (open_body head h.prefix b.part h.fact b.short));
}
body_failed P old mid new left left_mid left_now head error.WriteFault h b = absurd b
body_failed P old mid new left left_mid left_now head error.Memory h b = (h.prefix ++ b.0, consumes_more (remaining old left) (remaining mid left_mid) left_now h.prefix b.0 h.consumed b.1)

pub request_is : (old mid new : List ℕ) (left left_mid left_now : Option (List ℕ)) (head : Head) (r : Request) → TakesHead old mid left left_mid (Ok (Some head)) → IsTaken mid new left_mid left_now r.body.items head.length
    → message r ≡ message_of head r.body.items → Answers IsSaid old new left left_now (Ok (Some r))
request_is old mid new left left_mid left_now head r h b e = record {
  prefix = h.prefix ++ r.body.items;
  consumed = consumes_more (remaining old left) (remaining mid left_mid) (remaining new left_now) h.prefix r.body.items h.consumed b.consumed;
  fact = record { prefix = h.prefix; body = r.body.items; is = refl; head = head; says = h.fact; long = b.long_is; message_is = e };
}
