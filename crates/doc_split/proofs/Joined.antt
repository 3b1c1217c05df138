-- From blanks and what follows them to the result of a call.
use Rattle.std.proofs.Common.{ℕ, suc, ◌+◌, ◌<◌, ◌≡◌, ◌∙◌, false, eqb, List, [], ◌∷◌, ◌++◌, length, refl, sym, ap, subst, arith, append_assoc, append-nil, inl, inr}
use Rattle.std.specs.Prelude.{Option, Some, Ok, Err}
use Rattle.std.proofs.lemmas.List.{length-append}
use Rattle.doc_split.specs.declared.doc.Doc.{Doc}
use Rattle.doc_split.specs.declared.error.DocError.{DocError}
use Rattle.doc_split.specs.declared.error.DocError.TheVariants as error
use Rattle.doc_split.specs.declared.limits.Limits.{Limits}
use Rattle.doc_split.specs.Answers.{Answers, EndsSo, HasNone, IsCut}
use Rattle.doc_split.specs.Begun.{IsClosed, IsOpen, IsWhole, MeetsMost, StaysOpen, Taken, TakesDocument}
use Rattle.doc_split.specs.Documents.{Ending, Clean, Unclosed, Stray, TooLong, Long, before, documents_from, nothing}
use Rattle.doc_split.specs.Limits.{documents_at}
use Rattle.doc_split.specs.Passing.{Meets, MeetsByte, MeetsEnd, MeetsLimit, Passes}
use Rattle.doc_split.specs.Split.{Split, remaining}
use Rattle.doc_split.proofs.Known.{consumes_more, end_remains, remains_left, rest_at_end, rest_begins, rest_of}
use Rattle.doc_split.proofs.Limited.{clean_at, document_at, lift, long_at, long_now, stray_at, too_long_at, unclosed_at}

passes_at : (limits : Limits) (old new : Split) (left left_now : Option (List ℕ)) (p : Passes limits old new left left_now) (more : List ℕ) → documents_at limits old.at (p.taken ++ more) ≡ documents_at limits new.at more
passes_at limits old new left left_now p more =
    lift limits old.at p.taken [] (λ more. p.blank more ∙ ap (λ (k : ℕ). documents_from limits.document 0 k more) p.counted) p.within more
    ∙ ap (λ (k : ℕ). documents_at limits k more) (sym p.counted)

-- what remained is the blanks and what remains after them
known_behind : (limits : Limits) (old new : Split) (left left_now : Option (List ℕ)) → Passes limits old new left left_now → (bytes : List ℕ) → remaining old left ≡ Some bytes
    → (rest : List ℕ) × (remaining new left_now ≡ Some rest) × (documents_at limits old.at bytes ≡ documents_at limits new.at rest)
known_behind limits old new left left_now p bytes e =
    let r = rest_of (remaining old left) (remaining new left_now) p.taken bytes p.consumed e in
    (r.0, r.2, ap (documents_at limits old.at) r.1 ∙ passes_at limits old new left left_now p r.0)

-- so what has none after the blanks has none
none_behind : (limits : Limits) (old mid : Split) (left left_mid : Option (List ℕ)) (ending : Ending) → Passes limits old mid left left_mid → HasNone limits mid left_mid ending → HasNone limits old left ending
none_behind limits old mid left left_mid ending p none bytes e =
    let r = known_behind limits old mid left left_mid p bytes e in
    r.2 ∙ none r.0 r.1

clean_now : (limits : Limits) (new : Split) (left_now : Option (List ℕ)) → MeetsEnd new left_now → HasNone limits new left_now Clean
clean_now limits new left_now m bytes e = ap (documents_at limits new.at) (rest_at_end (remaining new left_now) bytes e (end_remains new left_now m.next m.end)) ∙ clean_at limits new.at

-- nothing is left after the blanks
pub answers_none : (limits : Limits) (old new : Split) (left left_now : Option (List ℕ)) → Passes limits old new left left_now → MeetsEnd new left_now → EndsSo limits old new left left_now Clean
answers_none limits old new left left_now p m = record {
  none = none_behind limits old new left left_now Clean p (clean_now limits new left_now m);
  end = end_remains new left_now m.next m.end;
}

stray_now : (limits : Limits) (new : Split) (left_now : Option (List ℕ)) (m : MeetsByte limits new) → eqb m.byte 123 ≡ false → HasNone limits new left_now (Stray new.at)
stray_now limits new left_now m other bytes e =
    let b = rest_begins new left_now bytes m.byte m.rest e m.next in
    ap (documents_at limits new.at) b.1 ∙ stray_at limits new.at m.byte b.0 m.other other m.room

-- another byte than a brace is
pub answers_stray : (limits : Limits) (old new : Split) (left left_now : Option (List ℕ)) → Passes limits old new left left_now → (m : MeetsByte limits new) → eqb m.byte 123 ≡ false → HasNone limits old left (Stray new.at)
answers_stray limits old new left left_now p m other = none_behind limits old new left left_now (Stray new.at) p (stray_now limits new left_now m other)

some_byte : (xs : List ℕ) → 0 < length xs → (b : ℕ) × (bs : List ℕ) × (xs ≡ b ∷ bs)
some_byte [] h = absurd (omega arith)
some_byte (b ∷ bs) h = (b, bs, refl)

long_behind : (limits : Limits) (new : Split) (left_now : Option (List ℕ)) → MeetsLimit limits new → HasNone limits new left_now Long
long_behind limits new left_now m bytes e =
    let s = some_byte new.ahead m.next in
    let b = rest_begins new left_now bytes s.0 s.1 e s.2 in
    ap (documents_at limits new.at) b.1 ∙ long_now limits new.at s.0 b.0 m.room

cut_blank : (limits : Limits) (old new : Split) (left left_now : Option (List ℕ)) → Passes limits old new left left_now → new.ahead ≡ [] → IsCut limits old left left_now
cut_blank limits old new left left_now p none = record {
  taken = p.taken;
  consumed = remains_left (remaining old left) new left_now p.taken none p.consumed;
  none_whole = inl (ap (documents_at limits old.at) (sym (append-nil p.taken)) ∙ passes_at limits old new left left_now p [] ∙ clean_at limits new.at);
}

-- an error among the blanks
pub blank_err : (limits : Limits) (old new : Split) (left left_now : Option (List ℕ)) (e : DocError) → Passes limits old new left left_now → Meets limits new left_now (Err e) → Answers limits old new left left_now (Err e)
blank_err limits old new left left_now error.ReadFault p m = cut_blank limits old new left left_now p m
blank_err limits old new left left_now (error.Unclosed at) p m = absurd m
blank_err limits old new left left_now (error.Stray at) p m = absurd m
blank_err limits old new left left_now (error.TooLong at) p m = absurd m
blank_err limits old new left left_now error.Memory p m = (p.taken, p.consumed)
blank_err limits old new left left_now error.Input p m = none_behind limits old new left left_now Long p (long_behind limits new left_now m)

-- what is there is a prefix of a document
prefix_is : (limits : Limits) (mid new : Split) (left_mid left_now : Option (List ℕ)) (bytes : List ℕ) (t : Taken limits mid new left_mid left_now bytes) → (length bytes ≡ suc (length t.tail))
prefix_is limits mid new left_mid left_now bytes t = ap length t.begins

opened_is : (bytes tail : List ℕ) → bytes ≡ 123 ∷ tail → StaysOpen bytes → StaysOpen (123 ∷ tail)
opened_is bytes tail e h = subst StaysOpen e h

unclosed_is : (limits : Limits) (mid new : Split) (left_mid left_now : Option (List ℕ)) (o : IsOpen limits mid new left_mid left_now) → documents_at limits mid.at o.bytes ≡ nothing (Unclosed mid.at)
unclosed_is limits mid new left_mid left_now o =
    let len = prefix_is limits mid new left_mid left_now o.bytes o.taken in
    ap (documents_at limits mid.at) o.taken.begins
    ∙ unclosed_at limits mid.at o.taken.tail (opened_is o.bytes o.taken.tail o.taken.begins o.open_) (omega (arith, o.taken.small)) (omega (arith, o.taken.within))

unclosed_now : (limits : Limits) (mid new : Split) (left_mid left_now : Option (List ℕ)) → IsOpen limits mid new left_mid left_now → MeetsEnd new left_now → HasNone limits mid left_mid (Unclosed mid.at)
unclosed_now limits mid new left_mid left_now o m bytes e =
    let r = rest_of (remaining mid left_mid) (remaining new left_now) o.bytes bytes o.taken.consumed e in
    let none = rest_at_end (remaining new left_now) r.0 r.2 (end_remains new left_now m.next m.end) in
    ap (documents_at limits mid.at) (r.1 ∙ ap (λ (l : List ℕ). o.bytes ++ l) none ∙ append-nil o.bytes) ∙ unclosed_is limits mid new left_mid left_now o

-- the bytes that remained are the prefix and at least one more
more_is : (limits : Limits) (mid new : Split) (left_mid left_now : Option (List ℕ)) (o : IsOpen limits mid new left_mid left_now) → 0 < length new.ahead → (bytes : List ℕ) → remaining mid left_mid ≡ Some bytes
    → (b : ℕ) × (bs : List ℕ) × (bytes ≡ 123 ∷ (o.taken.tail ++ b ∷ bs))
more_is limits mid new left_mid left_now o next bytes e =
    let r = rest_of (remaining mid left_mid) (remaining new left_now) o.bytes bytes o.taken.consumed e in
    let s = some_byte new.ahead next in
    let q = rest_begins new left_now r.0 s.0 s.1 r.2 s.2 in
    (s.0, q.0, r.1 ∙ ap (λ (l : List ℕ). o.bytes ++ l) q.1 ∙ ap (λ (l : List ℕ). l ++ s.0 ∷ q.0) o.taken.begins)

too_long_now : (limits : Limits) (mid new : Split) (left_mid left_now : Option (List ℕ)) → IsOpen limits mid new left_mid left_now → MeetsMost limits mid new → HasNone limits mid left_mid (TooLong mid.at)
too_long_now limits mid new left_mid left_now o m bytes e =
    let len = prefix_is limits mid new left_mid left_now o.bytes o.taken in
    let q = more_is limits mid new left_mid left_now o m.next bytes e in
    ap (documents_at limits mid.at) q.2
    ∙ too_long_at limits mid.at o.taken.tail q.0 q.1 (opened_is o.bytes o.taken.tail o.taken.begins o.open_) (omega (arith, o.taken.counted, m.most)) (omega (arith, m.most, m.room))

long_inside : (limits : Limits) (mid new : Split) (left_mid left_now : Option (List ℕ)) → IsOpen limits mid new left_mid left_now → MeetsLimit limits new → HasNone limits mid left_mid Long
long_inside limits mid new left_mid left_now o m bytes e =
    let len = prefix_is limits mid new left_mid left_now o.bytes o.taken in
    let q = more_is limits mid new left_mid left_now o m.next bytes e in
    ap (documents_at limits mid.at) q.2
    ∙ long_at limits mid.at o.taken.tail q.0 q.1 (opened_is o.bytes o.taken.tail o.taken.begins o.open_) (omega (arith, o.taken.small)) (omega (arith, o.taken.counted, o.taken.within, m.room))

cut_inside : (limits : Limits) (old mid new : Split) (left left_mid left_now : Option (List ℕ)) → Passes limits old mid left left_mid → IsOpen limits mid new left_mid left_now → new.ahead ≡ [] → IsCut limits old left left_now
cut_inside limits old mid new left left_mid left_now p o none = record {
  taken = p.taken ++ o.bytes;
  consumed = remains_left (remaining old left) new left_now (p.taken ++ o.bytes) none (consumes_more (remaining old left) (remaining mid left_mid) (remaining new left_now) p.taken o.bytes p.consumed o.taken.consumed);
  none_whole = inr (mid.at, passes_at limits old mid left left_mid p o.bytes ∙ unclosed_is limits mid new left_mid left_now o);
}

unclosed_end : (limits : Limits) (old mid new : Split) (left left_mid left_now : Option (List ℕ)) (at : ℕ) → Passes limits old mid left left_mid → IsOpen limits mid new left_mid left_now → at ≡ mid.at → MeetsEnd new left_now
    → EndsSo limits old new left left_now (Unclosed at)
unclosed_end limits old mid new left left_mid left_now at p o e m = record {
  none = none_behind limits old mid left left_mid (Unclosed at) p (subst (λ (k : ℕ). HasNone limits mid left_mid (Unclosed k)) (sym e) (unclosed_now limits mid new left_mid left_now o m));
  end = end_remains new left_now m.next m.end;
}

-- an error in a document
pub answers_err : (limits : Limits) (old mid new : Split) (left left_mid left_now : Option (List ℕ)) (e : DocError) → Passes limits old mid left left_mid → TakesDocument limits mid new left_mid left_now (Err e) → Answers limits old new left left_now (Err e)
answers_err limits old mid new left left_mid left_now error.ReadFault p t = cut_inside limits old mid new left left_mid left_now p t.0 t.1
answers_err limits old mid new left left_mid left_now (error.Unclosed at) p t = unclosed_end limits old mid new left left_mid left_now at p t.0 t.1 t.2
answers_err limits old mid new left left_mid left_now (error.Stray at) p t = absurd t
answers_err limits old mid new left left_mid left_now (error.TooLong at) p t =
    none_behind limits old mid left left_mid (TooLong at) p (subst (λ (k : ℕ). HasNone limits mid left_mid (TooLong k)) (sym t.1) (too_long_now limits mid new left_mid left_now t.0 t.2))
answers_err limits old mid new left left_mid left_now error.Memory p t =
    (p.taken ++ t.0, consumes_more (remaining old left) (remaining mid left_mid) (remaining new left_now) p.taken t.0 p.consumed t.1)
answers_err limits old mid new left left_mid left_now error.Input p t = none_behind limits old mid left left_mid Long p (long_inside limits mid new left_mid left_now t.0 t.1)

whole_at : (limits : Limits) (mid new : Split) (left_mid left_now : Option (List ℕ)) (bytes : List ℕ) → IsWhole limits mid new left_mid left_now bytes → (more : List ℕ)
    → documents_at limits mid.at (bytes ++ more) ≡ before (record { at = mid.at; bytes = bytes } ∷ []) (documents_at limits new.at more)
whole_at limits mid new left_mid left_now bytes w more =
    let t = w.taken in
    let len = prefix_is limits mid new left_mid left_now bytes w.taken in
    let P : List ℕ → Type 0 = λ l. documents_at limits mid.at (l ++ more) ≡ before (record { at = mid.at; bytes = l } ∷ []) (documents_at limits (mid.at + length l) more) in
    subst P (sym w.taken.begins) (document_at limits mid.at w.taken.tail (subst IsClosed w.taken.begins w.closed) (omega (arith, w.taken.small)) (omega (arith, w.taken.within)) more)
    ∙ ap (λ (k : ℕ). before (record { at = mid.at; bytes = bytes } ∷ []) (documents_at limits k more)) (sym w.taken.counted)

-- a document
pub answers_doc : (limits : Limits) (old mid new : Split) (left left_mid left_now : Option (List ℕ)) (doc : Doc) → Passes limits old mid left left_mid → TakesDocument limits mid new left_mid left_now (Ok doc) → Answers limits old new left left_now (Ok (Some doc))
answers_doc limits old mid new left left_mid left_now doc p t =
    let w = t.0 in
    let len = prefix_is limits mid new left_mid left_now doc.bytes.items t.0.taken in
    let all = length-append p.taken doc.bytes.items in
    record {
      taken = p.taken ++ doc.bytes.items;
      consumed = consumes_more (remaining old left) (remaining mid left_mid) (remaining new left_now) p.taken doc.bytes.items p.consumed t.0.taken.consumed;
      first = λ more.
          ap (documents_at limits old.at) (append_assoc p.taken doc.bytes.items more)
          ∙ passes_at limits old mid left left_mid p (doc.bytes.items ++ more)
          ∙ whole_at limits mid new left_mid left_now doc.bytes.items t.0 more
          ∙ ap (λ (k : ℕ). before (record { at = k; bytes = doc.bytes.items } ∷ []) (documents_at limits new.at more)) (sym t.1);
      counted = omega (arith, p.counted, t.0.taken.counted);
      moves = omega (arith, p.counted, t.0.taken.counted);
      within = omega (arith, t.0.taken.counted, t.0.taken.within);
    }
