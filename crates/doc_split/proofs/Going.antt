-- A document that has begun, as it goes on.
use Rattle.std.proofs.Common.{ℕ, ◌+◌, ◌-◌, ◌≤◌, ◌<◌, ◌≡◌, ◌∙◌, min, Bool, true, false, eqb, List, [], ◌∷◌, ◌++◌, length, take, drop, refl, sym, ap, subst, arith, append_assoc}
use Rattle.std.specs.Prelude.{Option, Some}
use Rattle.std.specs.Io.KnownBytes.{Consumes}
use Rattle.std.proofs.lemmas.Bool.{eqb-true}
use Rattle.std.proofs.lemmas.List.{length-append, length-take, length-take-le, take_all}
use Rattle.doc_split.specs.declared.limits.Limits.{Limits}
use Rattle.doc_split.specs.declared.place.Place.TheVariants.{Outside}
use Rattle.doc_split.specs.declared.scan.Scan.{Scan}
use Rattle.doc_split.specs.Documents.{balanced_after, document_length}
use Rattle.doc_split.specs.Scan.{piece_length, scan_behind}
use Rattle.doc_split.specs.Split.{Split, remaining}
use Rattle.doc_split.specs.Begun.{Going, IsBehind, IsOpen, IsWhole, StaysOpen, Taken, TakesPiece, window}
use Rattle.doc_split.proofs.Known.{advance_ahead, consumes_kept, consumes_more}
use Rattle.doc_split.proofs.Passing.{window_prefix}
use Rattle.doc_split.proofs.Pieces.{closes_by, continues_by, zero_not}

brace_opens : StaysOpen (123 ∷ [])
unfolding balanced_after
brace_opens more = refl

-- the brace that a document begins with
pub going_begins : (limits : Limits) (old new : Split) (left : Option (List ℕ)) (rest : List ℕ) → old.ahead ≡ 123 ∷ rest → new ≡ record { at = old.at + 1; ahead = drop 1 old.ahead } → old.at < limits.input → 0 < limits.document
    → Going limits old new left left (123 ∷ []) (record { place = Outside; depth = 1 })
going_begins limits old new left rest begins is room some =
    let at_is : new.at ≡ old.at + 1 = ap (λ (s : Split). s.at) is in
    let ahead_is : new.ahead ≡ rest = ap (λ (s : Split). s.ahead) is ∙ ap (drop 1) begins in
    record {
      taken = record {
        consumed = advance_ahead old new left (123 ∷ []) (begins ∙ ap (λ (l : List ℕ). 123 ∷ l) (sym ahead_is));
        tail = [];
        begins = refl;
        counted = at_is;
        within = omega arith;
        small = omega arith;
      };
      open_ = λ h. (brace_opens, record { place_is = refl; depth_is = refl });
      deep = omega arith;
      closed = λ z. absurd (omega arith);
    }

-- more was read from the source
pub taken_kept : (limits : Limits) (old mid new : Split) (left left_mid left_now : Option (List ℕ)) (bytes : List ℕ) → Taken limits old mid left left_mid bytes → Consumes (remaining mid left_mid) (remaining new left_now) [] → new.at ≡ mid.at
    → Taken limits old new left left_now bytes
taken_kept limits old mid new left left_mid left_now bytes t kept same = record {
  consumed = consumes_kept (remaining old left) (remaining mid left_mid) (remaining new left_now) bytes t.consumed kept;
  tail = t.tail;
  begins = t.begins;
  counted = same ∙ t.counted;
  within = t.within;
  small = t.small;
}

pub going_kept : (limits : Limits) (old mid new : Split) (left left_mid left_now : Option (List ℕ)) (bytes : List ℕ) (scan : Scan) → Going limits old mid left left_mid bytes scan → Consumes (remaining mid left_mid) (remaining new left_now) [] → new.at ≡ mid.at
    → Going limits old new left left_now bytes scan
going_kept limits old mid new left left_mid left_now bytes scan g kept same = record {
  taken = taken_kept limits old mid new left left_mid left_now bytes g.taken kept same;
  open_ = g.open_;
  deep = g.deep;
  closed = g.closed;
}

pub going_open : (limits : Limits) (old mid new : Split) (left left_mid left_now : Option (List ℕ)) (bytes : List ℕ) (scan : Scan) → Going limits old mid left left_mid bytes scan → 0 < scan.depth → Consumes (remaining mid left_mid) (remaining new left_now) [] → new.at ≡ mid.at
    → IsOpen limits old new left left_now
going_open limits old mid new left left_mid left_now bytes scan g h kept same = record {
  bytes = bytes;
  taken = taken_kept limits old mid new left left_mid left_now bytes g.taken kept same;
  open_ = (g.open_ h).0;
}

pub going_whole : (limits : Limits) (old new : Split) (left left_now : Option (List ℕ)) (bytes : List ℕ) (scan : Scan) → Going limits old new left left_now bytes scan → scan.depth ≡ 0 → IsWhole limits old new left left_now bytes
going_whole limits old new left left_now bytes scan g h = record { taken = g.taken; closed = g.closed h }

-- bytes of the window
pub taken_more : (limits : Limits) (old mid new : Split) (left left_now : Option (List ℕ)) (bytes bytes_now : List ℕ) (n : ℕ) → Taken limits old mid left left_now bytes → mid.at < limits.input → length bytes < limits.document
    → n ≤ length (window limits mid (length bytes)) → new.at ≡ mid.at + n → new.ahead ≡ drop n mid.ahead → bytes_now ≡ bytes ++ take n (window limits mid (length bytes)) → Taken limits old new left left_now bytes_now
taken_more limits old mid new left left_now bytes bytes_now n t room small within at_is ahead_is is =
    let w = window limits mid (length bytes) in
    let len = length-take (min (limits.input - mid.at) (limits.document - length bytes)) mid.ahead in
    let prefix = length-take-le n (window limits mid (length bytes)) within in
    let all : length bytes_now ≡ length bytes + n = ap length is ∙ length-append bytes (take n (window limits mid (length bytes))) ∙ ap (λ (k : ℕ). length bytes + k) prefix in
    record {
      consumed = subst (λ (l : List ℕ). Consumes (remaining old left) (remaining new left_now) l) (sym is)
          (consumes_more (remaining old left) (remaining mid left_now) (remaining new left_now) bytes (take n (window limits mid (length bytes))) t.consumed
          (advance_ahead mid new left_now (take n (window limits mid (length bytes))) (window_prefix (min (limits.input - mid.at) (limits.document - length bytes)) n mid.ahead within ∙ ap (λ (l : List ℕ). take n (window limits mid (length bytes)) ++ l) (sym ahead_is))));
      tail = t.tail ++ take n (window limits mid (length bytes));
      begins = is ∙ ap (λ (l : List ℕ). l ++ take n (window limits mid (length bytes))) t.begins;
      counted = omega (arith, t.counted);
      within = omega (arith, t.counted, t.within);
      small = omega (arith, t.small);
    }

going_by : (limits : Limits) (old mid new : Split) (left left_now : Option (List ℕ)) (bytes bytes_now : List ℕ) (scan scan_now : Scan) → Going limits old mid left left_now bytes scan → 0 < scan.depth → mid.at < limits.input → length bytes < limits.document
    → TakesPiece limits mid new bytes bytes_now scan scan_now → (t : Bool) → eqb (scan_behind scan (window limits mid (length bytes))).depth 0 ≡ t → Going limits old new left left_now bytes_now scan_now
going_by limits old mid new left left_now bytes bytes_now scan scan_now g h room small p true e =
    let w = window limits mid (length bytes) in
    let zero : (scan_behind scan (window limits mid (length bytes))).depth ≡ 0 = eqb-true (scan_behind scan (window limits mid (length bytes))).depth 0 e in
    let depth : scan_now.depth ≡ 0 = ap (λ (s : Scan). s.depth) p.scan_is ∙ zero in
    let c = closes_by (window limits mid (length bytes)) bytes scan (g.open_ h).1 h zero in
    let n = piece_length scan (window limits mid (length bytes)) in
    let prefix = length-take-le (piece_length scan (window limits mid (length bytes))) (window limits mid (length bytes)) c.within in
    let all : length bytes_now ≡ length bytes + piece_length scan (window limits mid (length bytes)) =
    ap length p.bytes_are ∙ length-append bytes (take (piece_length scan (window limits mid (length bytes))) (window limits mid (length bytes))) ∙ ap (λ (k : ℕ). length bytes + k) prefix in
    record {
      taken = taken_more limits old mid new left left_now bytes bytes_now (piece_length scan (window limits mid (length bytes))) g.taken room small c.within p.at_is p.ahead_is p.bytes_are;
      open_ = λ d. absurd (omega arith);
      deep = p.deep;
      closed = λ z more.
          ap (λ (l : List ℕ). document_length (l ++ more)) p.bytes_are
          ∙ ap document_length (append_assoc bytes (take (piece_length scan (window limits mid (length bytes))) (window limits mid (length bytes))) more)
          ∙ (g.open_ h).0 (take (piece_length scan (window limits mid (length bytes))) (window limits mid (length bytes)) ++ more)
          ∙ c.closes more
          ∙ ap (λ (k : ℕ). Some k) (sym all);
    }
going_by limits old mid new left left_now bytes bytes_now scan scan_now g h room small p false e =
    let deep : 0 < (scan_behind scan (window limits mid (length bytes))).depth = zero_not (scan_behind scan (window limits mid (length bytes))).depth e in
    let depth : scan_now.depth ≡ (scan_behind scan (window limits mid (length bytes))).depth = ap (λ (s : Scan). s.depth) p.scan_is in
    let c = continues_by (window limits mid (length bytes)) bytes scan (g.open_ h).1 h deep in
    let within : piece_length scan (window limits mid (length bytes)) ≤ length (window limits mid (length bytes)) = omega (arith, c.whole) in
    let is : bytes_now ≡ bytes ++ window limits mid (length bytes) =
    p.bytes_are ∙ ap (λ (l : List ℕ). bytes ++ l) (take_all (piece_length scan (window limits mid (length bytes))) (window limits mid (length bytes)) (omega (arith, c.whole))) in
    record {
      taken = taken_more limits old mid new left left_now bytes bytes_now (piece_length scan (window limits mid (length bytes))) g.taken room small within p.at_is p.ahead_is p.bytes_are;
      open_ = λ d. (
        λ more.
            ap (λ (l : List ℕ). document_length (l ++ more)) is
            ∙ ap document_length (append_assoc bytes (window limits mid (length bytes)) more)
            ∙ (g.open_ h).0 (window limits mid (length bytes) ++ more)
            ∙ c.open_ more
            ∙ ap (λ (l : List ℕ). balanced_after l more) (sym is),
        subst (λ (l : List ℕ). IsBehind l scan_now) (sym is) (subst (λ (s : Scan). IsBehind (bytes ++ window limits mid (length bytes)) s) (sym p.scan_is) c.is_behind),
      );
      deep = p.deep;
      closed = λ z. absurd (omega arith);
    }

-- one more piece
pub going_more : (limits : Limits) (old mid new : Split) (left left_now : Option (List ℕ)) (bytes bytes_now : List ℕ) (scan scan_now : Scan) → Going limits old mid left left_now bytes scan → 0 < scan.depth → mid.at < limits.input → length bytes < limits.document
    → TakesPiece limits mid new bytes bytes_now scan scan_now → Going limits old new left left_now bytes_now scan_now
going_more limits old mid new left left_now bytes bytes_now scan scan_now g h room small p =
    going_by limits old mid new left left_now bytes bytes_now scan scan_now g h room small p (eqb (scan_behind scan (window limits mid (length bytes))).depth 0) refl
