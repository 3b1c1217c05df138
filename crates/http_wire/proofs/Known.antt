-- What remains of a source, if it is known, and what was taken of it.
use Rattle.std.proofs.Common.{ℕ, ◌≡◌, ◌∙◌, List, [], ◌++◌, refl, sym, ap, subst, append_assoc, append-nil}
use Rattle.std.specs.Prelude.{Option, None, Some, Result, Ok, Err, IsErrAnd}
use Rattle.std.specs.Io.KnownBytes.{Consumes}
use Rattle.dra_ports.specs.Prefixes.{ConsumesPrefix}
use Rattle.http_wire.specs.declared.error.WireError.{WireError}
use Rattle.http_wire.specs.Reader.{Begins, remaining}
use Rattle.http_wire.specs.Steps.{Kept}

pub consumes_more : (a b c : Option (List ℕ)) (x y : List ℕ) → Consumes a b x → Consumes b c y → Consumes a c (x ++ y)
consumes_more None b c x y p q = tt
consumes_more (Some xs) None c x y p q = absurd p
consumes_more (Some xs) (Some ys) None x y p q = absurd q
consumes_more (Some xs) (Some ys) (Some zs) x y p q = p ∙ ap (λ (l : List ℕ). x ++ l) q ∙ sym (append_assoc x y zs)

-- bytes ahead that are gone over
pub consumes_prefix : (ahead prefix rest : List ℕ) (left : Option (List ℕ)) → ahead ≡ prefix ++ rest → Consumes (remaining ahead left) (remaining rest left) prefix
consumes_prefix ahead prefix rest None e = tt
consumes_prefix ahead prefix rest (Some xs) e = ap (λ (l : List ℕ). l ++ xs) e ∙ append_assoc prefix rest xs

-- all of them
pub consumes_all : (ahead : List ℕ) (left : Option (List ℕ)) → Consumes (remaining ahead left) left ahead
consumes_all ahead None = tt
consumes_all ahead (Some xs) = refl

-- the bytes ahead begin with these, after no byte was gone over
pub begins_prefix : (P : List ℕ → Type 0) (old mid new prefix : List ℕ) (left left_now : Option (List ℕ)) → Kept old mid left left_now → mid ≡ prefix ++ new → P prefix → Begins old left (remaining new left_now) P
begins_prefix P old mid new prefix left left_now kept e p = record {
  prefix = prefix;
  consumed = consumes_more (remaining old left) (remaining mid left_now) (remaining new left_now) [] prefix kept (consumes_prefix mid prefix new left_now e);
  fact = p;
}

-- they are these
pub begins_all : (P : List ℕ → Type 0) (old mid : List ℕ) (left left_now : Option (List ℕ)) → Kept old mid left left_now → P mid → Begins old left left_now P
begins_all P old mid left left_now kept p = record {
  prefix = mid;
  consumed = consumes_more (remaining old left) (remaining mid left_now) left_now [] mid kept (consumes_all mid left_now);
  fact = p;
}

-- what is ahead is lost
pub lost_all : (old mid : List ℕ) (left left_now : Option (List ℕ)) → Kept old mid left left_now → ConsumesPrefix (remaining old left) left_now
lost_all old mid left left_now kept = (mid, consumes_more (remaining old left) (remaining mid left_now) left_now [] mid kept (consumes_all mid left_now))

-- a piece that was appended to the bytes ahead
pub joined_kept : (ahead ahead_now piece : List ℕ) (left left_now : Option (List ℕ)) → ahead_now ≡ ahead ++ piece → Consumes left left_now piece → Consumes (remaining ahead left) (remaining ahead_now left_now) []
joined_kept ahead ahead_now piece None left_now e p = tt
joined_kept ahead ahead_now piece (Some xs) None e p = absurd p
joined_kept ahead ahead_now piece (Some xs) (Some ys) e p = ap (λ (l : List ℕ). ahead ++ l) p ∙ sym (append_assoc ahead piece ys) ∙ ap (λ (l : List ℕ). l ++ ys) (sym e)

pub kept_left : (ahead ahead_now : List ℕ) (left left_now : Option (List ℕ)) → ahead_now ≡ ahead → Consumes left left_now [] → Consumes (remaining ahead left) (remaining ahead_now left_now) []
kept_left ahead ahead_now left left_now e p = joined_kept ahead ahead_now [] left left_now (e ∙ sym (append-nil ahead)) p

-- what holds with an error holds with the result that is this error
pub by_error : {T : Type 0} (P : Result T WireError → Type 0) (r : Result T WireError) (e : WireError) → IsErrAnd r (λ d. d ≡ e) → P (Err e) → P r
by_error P (Ok t) e h p = absurd h
by_error P (Err d) e h p = subst (λ (x : WireError). P (Err x)) (sym h) p
