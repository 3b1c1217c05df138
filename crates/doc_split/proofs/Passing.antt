-- Blanks that are consumed.
use Rattle.std.proofs.Common.{ℕ, suc, ◌+◌, ◌-◌, ◌≤◌, ◌<◌, ◌≡◌, ◌∙◌, List, [], ◌∷◌, ◌++◌, length, take, drop, get_or, refl, sym, ap, subst, arith, append_assoc}
use Rattle.std.specs.Prelude.{Option}
use Rattle.std.specs.List.{prefix_len}
use Rattle.std.specs.Io.KnownBytes.{Consumes}
use Rattle.std.proofs.Math.Seq.{drop-cons}
use Rattle.std.proofs.lemmas.List.{length-append, length-take, take-append-le, take-append-drop, length-take-le, get_or-take}
use Rattle.std.proofs.lemmas.List.Sums.{prefix_len-le-length, prefix_len_stops}
use Rattle.doc_split.specs.declared.limits.Limits.{Limits}
use Rattle.doc_split.specs.Documents.{documents_from, is_blank}
use Rattle.doc_split.specs.Split.{Split, remaining}
use Rattle.doc_split.specs.Passing.{MeetsByte, Passes}
use Rattle.doc_split.proofs.Known.{advance_ahead, consumes_kept, consumes_more, consumes_none}
use Rattle.doc_split.proofs.Steps.{passes_prefix}

pub passes_none : (limits : Limits) (old : Split) (left : Option (List ℕ)) → Passes limits old old left left
passes_none limits old left = record {
  taken = [];
  consumed = consumes_none (remaining old left);
  blank = λ more. refl;
  counted = omega arith;
  within = omega arith;
}

-- more was read from the source
pub passes_kept : (limits : Limits) (old mid new : Split) (left left_mid left_now : Option (List ℕ)) → Passes limits old mid left left_mid → Consumes (remaining mid left_mid) (remaining new left_now) [] → new.at ≡ mid.at
    → Passes limits old new left left_now
passes_kept limits old mid new left left_mid left_now p kept same = record {
  taken = p.taken;
  consumed = consumes_kept (remaining old left) (remaining mid left_mid) (remaining new left_now) p.taken p.consumed kept;
  blank = λ more. p.blank more ∙ ap (λ (k : ℕ). documents_from limits.document 0 k more) (sym same);
  counted = same ∙ p.counted;
  within = p.within;
}

-- the prefix of a window is that of what is ahead
pub window_prefix : (m n : ℕ) (xs : List ℕ) → n ≤ length (take m xs) → xs ≡ take n (take m xs) ++ drop n xs
window_prefix m n xs h =
    let whole : take m xs ++ drop m xs ≡ xs = take-append-drop m xs in
    let prefix : take n xs ≡ take n (take m xs) = ap (take n) (sym whole) ∙ take-append-le n (take m xs) (drop m xs) h in
    sym (take-append-drop n xs) ∙ ap (λ (l : List ℕ). l ++ drop n xs) prefix

-- the blanks that a window begins with
pub passes_piece : (limits : Limits) (old mid new : Split) (left left_now : Option (List ℕ)) (n : ℕ) → Passes limits old mid left left_now → mid.at < limits.input
    → n ≡ prefix_len is_blank (take (limits.input - mid.at) mid.ahead) → new ≡ record { at = mid.at + n; ahead = drop n mid.ahead } → Passes limits old new left left_now
passes_piece limits old mid new left left_now n p room count is =
    let window = take (limits.input - mid.at) mid.ahead in
    let len = length-take (limits.input - mid.at) mid.ahead in
    let le = prefix_len-le-length is_blank (take (limits.input - mid.at) mid.ahead) in
    let within : n ≤ length (take (limits.input - mid.at) mid.ahead) = omega arith in
    let prefix : length (take n (take (limits.input - mid.at) mid.ahead)) ≡ n = length-take-le n (take (limits.input - mid.at) mid.ahead) within in
    let at_is : new.at ≡ mid.at + n = ap (λ (s : Split). s.at) is in
    let ahead_is : new.ahead ≡ drop n mid.ahead = ap (λ (s : Split). s.ahead) is in
    let all = length-append p.taken (take n (take (limits.input - mid.at) mid.ahead)) in
    record {
      taken = p.taken ++ take n (take (limits.input - mid.at) mid.ahead);
      consumed =
          consumes_more (remaining old left) (remaining mid left_now) (remaining new left_now) p.taken (take n (take (limits.input - mid.at) mid.ahead)) p.consumed
          (advance_ahead mid new left_now (take n (take (limits.input - mid.at) mid.ahead)) (window_prefix (limits.input - mid.at) n mid.ahead within ∙ ap (λ (l : List ℕ). take n (take (limits.input - mid.at) mid.ahead) ++ l) (sym ahead_is)));
      blank = λ more.
          ap (documents_from limits.document 0 old.at) (append_assoc p.taken (take n (take (limits.input - mid.at) mid.ahead)) more)
          ∙ p.blank (take n (take (limits.input - mid.at) mid.ahead) ++ more)
          ∙ ap (λ (k : ℕ). documents_from limits.document 0 mid.at (take k (take (limits.input - mid.at) mid.ahead) ++ more)) count
          ∙ passes_prefix limits.document mid.at (take (limits.input - mid.at) mid.ahead) more
          ∙ ap (λ (k : ℕ). documents_from limits.document 0 (mid.at + k) more) (sym count)
          ∙ ap (λ (k : ℕ). documents_from limits.document 0 k more) (sym at_is);
      counted = omega (arith, p.counted);
      within = omega (arith, p.counted, p.within);
    }

get_prefix : (m n : ℕ) (xs : List ℕ) → n < length (take m xs) → drop n xs ≡ get_or (take m xs) n 0 ∷ drop (suc n) xs
get_prefix m n xs h =
    let len = length-take m xs in
    drop-cons xs n 0 (omega arith) ∙ ap (λ (b : ℕ). b ∷ drop (suc n) xs) (sym (get_or-take m xs n 0 (omega arith)))

-- what follows them
pub meets_byte : (limits : Limits) (mid new : Split) (n : ℕ) → n ≡ prefix_len is_blank (take (limits.input - mid.at) mid.ahead) → n < length (take (limits.input - mid.at) mid.ahead)
    → new ≡ record { at = mid.at + n; ahead = drop n mid.ahead } → MeetsByte limits new
meets_byte limits mid new n count more is =
    let len = length-take (limits.input - mid.at) mid.ahead in
    let at_is : new.at ≡ mid.at + n = ap (λ (s : Split). s.at) is in
    let stops = prefix_len_stops is_blank (take (limits.input - mid.at) mid.ahead) 0 (subst (λ (k : ℕ). k < length (take (limits.input - mid.at) mid.ahead)) count more) in
    record {
      byte = get_or (take (limits.input - mid.at) mid.ahead) n 0;
      rest = drop (suc n) mid.ahead;
      next = ap (λ (s : Split). s.ahead) is ∙ get_prefix (limits.input - mid.at) n mid.ahead more;
      other = ap (λ (k : ℕ). is_blank (get_or (take (limits.input - mid.at) mid.ahead) k 0)) count ∙ stops;
      room = omega arith;
    }
