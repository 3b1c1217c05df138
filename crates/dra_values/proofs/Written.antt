-- Writes to a formatter, one after another.
use Rattle.std.proofs.Common.{ℕ, ◌≡◌, ◌++◌, List, [], ◌∷◌, Bool, cond, Option, Some, None, append_assoc, sym, subst}
use Rattle.std.specs.Prelude.{IfSome, IsOk, Result}
use Rattle.std.specs.Fmt.{IsPlainFormatter, HasWritten, DisplaysOnOk, option_append, comma_space, debug_items}
use Rattle.std.specs.declared.fmt.Formatter.{Formatter}
use Rattle.std.specs.declared.fmt.Error.{Error}
use Rattle.std.proofs.Output.{has_written_append, has_written_of_eq, writes_in_calls_nil}

-- if f is plain, g is f after writing the text in o
abbrev pub Then : {W : Type 0} → (W → List ℕ → W → Type 0) → Formatter W → Option (List ℕ) → Formatter W → Type 0
Then took f o g = IfSome o (λ bs. IsPlainFormatter f → HasWritten took f bs g)

pub then_more : {W : Type 0} (took : W → List ℕ → W → Type 0) (f g h : Formatter W) (o p : Option (List ℕ)) → Then took f o g → Then took g p h → Then took f (option_append o p) h
then_more took f g h None p a b = tt
then_more took f g h (Some x) None a b = tt
then_more took f g h (Some x) (Some y) a b = λ plain. let u = a plain in has_written_append took f x g y h u (b u.plain)

pub then_ok : {W : Type 0} (took : W → List ℕ → W → Type 0) (f g : Formatter W) (r : Result (Unit {0}) Error) (o : Option (List ℕ)) → DisplaysOnOk took f r o g → IsOk r → Then took f o g
then_ok took f g r None d ok = tt
then_ok took f g r (Some x) d ok = λ plain. d plain ok

pub displays_then : {W : Type 0} (took : W → List ℕ → W → Type 0) (f g : Formatter W) (r : Result (Unit {0}) Error) (o : Option (List ℕ)) → Then took f o g → DisplaysOnOk took f r o g
displays_then took f g r None t = tt
displays_then took f g r (Some x) t = λ plain ok. t plain

pub then_nothing : {W : Type 0} (took : W → List ℕ → W → Type 0) (f : Formatter W) → Then took f (Some []) f
then_nothing took f = λ plain. record { wrote = writes_in_calls_nil _ _; plain = plain }

-- what precedes the next item
abbrev pub lead_of : Bool → List ℕ
lead_of first = cond first [] comma_space

then_led : {W : Type 0} (took : W → List ℕ → W → Type 0) (f g h : Formatter W) (lead : List ℕ) (o p : Option (List ℕ)) → Then took f (option_append (Some lead) o) g → Then took g p h → Then took f (option_append (Some lead) (option_append o p)) h
then_led took f g h lead None p a b = tt
then_led took f g h lead (Some x) None a b = tt
then_led took f g h lead (Some x) (Some y) a b = λ plain. let u = a plain in has_written_of_eq took f ((lead ++ x) ++ y) (lead ++ (x ++ y)) h (append_assoc lead x y) (has_written_append took f (lead ++ x) g y h u (b u.plain))

-- an item after what precedes it, and then the rest
pub then_items : {W X : Type 0} (took : W → List ℕ → W → Type 0) (f g h : Formatter W) (text : X → Option (List ℕ)) (lead : List ℕ) (items rest : List X) (x : X)
    → items ≡ x ∷ rest → Then took f (option_append (Some lead) (text x)) g → Then took g (debug_items text comma_space rest) h → Then took f (debug_items text lead items) h
then_items {W} {X} took f g h text lead items rest x e a b =
    subst (λ (l : List X). Then took f (debug_items text lead l) h) (sym e) (then_led took f g h lead (text x) (debug_items text comma_space rest) a b)

pub then_no_items : {W X : Type 0} (took : W → List ℕ → W → Type 0) (f : Formatter W) (text : X → Option (List ℕ)) (lead : List ℕ) (items : List X) → items ≡ [] → Then took f (debug_items text lead items) f
then_no_items {W} {X} took f text lead items e = subst (λ (l : List X). Then took f (debug_items text lead l) f) (sym e) (then_nothing took f)
