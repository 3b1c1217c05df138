-- Where an expression stops, and what the tokens after it make of what was begun.
use Rattle.std.proofs.Common.{◌≡◌, ℕ, suc, ◌≤◌, ◌<◌, nat_le, ◌==◌, List, [], ◌∷◌, Bool, true, false, Option, Some, None, refl, ap, arith, if◌then◌else◌}
use Rattle.std.proofs.lemmas.Bool.Decides.{nat_tests}
use Rattle.cel_lex.specs.declared.token.TokenKind.{TokenKind}
use Rattle.cel_lex.specs.declared.token.TokenKind.TheVariants as kind
use Rattle.cel_lex.specs.Tokens.{Lexeme}
use Rattle.cel_tree.specs.declared.tree.Span.{Span}
use Rattle.cel_tree.specs.declared.tree.BinaryOp.{BinaryOp}
use Rattle.cel_tree.specs.declared.tree.BinaryOp.TheVariants as op
use Rattle.cel_parse.specs.declared.part.Part.{Part}
use Rattle.cel_parse.specs.declared.state.Due.TheVariants.{Expr}
use Rattle.cel_parse.specs.declared.state.Hand.{Hand}
use Rattle.cel_parse.specs.declared.state.Hand.TheVariants.{Whole}
use Rattle.cel_parse.specs.declared.state.Mode.TheVariants.{Want, Have}
use Rattle.cel_parse.specs.declared.state.Frame.{Frame}
use Rattle.cel_parse.specs.declared.state.Frame.TheVariants.{Prefix, Infix, Test, Branch}
use Rattle.cel_parse.specs.Grammar.{place, level, binary_op}
use Rattle.cel_parse.specs.Steps.{binds, completed, reduced, part_of, State, infixed, asked, parted, next_of, closed, have_at, alone, read_end, read_token, reading, step_of}

-- the level of an operand that a frame waits for
abbrev pub expects : Frame → ℕ
expects (Prefix x s) = 7
expects (Infix x p) = suc (level x)
expects (Test p) = 1
expects f = 0

abbrev pub expects_top : List Frame → ℕ
expects_top [] = 0
expects_top (f ∷ st) = expects f

abbrev pub stops_op : ℕ → Option BinaryOp → Bool
stops_op n None = true
stops_op n (Some x) = nat_le (level x) n

-- an expression of the level doesn't go on with the token
abbrev pub stops : ℕ → TokenKind → Bool
stops n kind.LeftParen = false
stops n kind.Dot = nat_le 7 n
stops n kind.LeftBracket = nat_le 7 n
stops n kind.Question = nat_le 1 n
stops n k = stops_op n (binary_op k)

abbrev pub Follows : ℕ → List Lexeme → Type 0
Follows n [] = Unit {0}
Follows n (k ∷ ks) = stops n k.kind ≡ true

le_more : (a n m : ℕ) → n ≤ m → nat_le a n ≡ true → nat_le a m ≡ true
le_more a n m h e = grind (arith, nat_tests)

stops_op_more : (n m : ℕ) → n ≤ m → (o : Option BinaryOp) → stops_op n o ≡ true → stops_op m o ≡ true
stops_op_more n m h None e = refl
stops_op_more n m h (Some x) e = le_more (level x) n m h e

stops_more : (n m : ℕ) → n ≤ m → (k : TokenKind) → stops n k ≡ true → stops m k ≡ true
stops_more n m h kind.LeftParen e = absurd (cc)
stops_more n m h kind.Dot e = le_more 7 n m h e
stops_more n m h kind.LeftBracket e = le_more 7 n m h e
stops_more n m h kind.Question e = le_more 1 n m h e
stops_more n m h k e = stops_op_more n m h (binary_op k) e

pub follows_more : (n m : ℕ) → n ≤ m → (rest : List Lexeme) → Follows n rest → Follows m rest
follows_more n m h [] f = tt
follows_more n m h (k ∷ ks) f = stops_more n m h k.kind f

pub level_low : (x : BinaryOp) → 1 ≤ level x
level_low op.Or = omega arith
level_low op.And = omega arith
level_low op.Add = omega arith
level_low op.Subtract = omega arith
level_low op.Multiply = omega arith
level_low op.Divide = omega arith
level_low op.Remainder = omega arith
level_low x = omega arith

pub level_high : (x : BinaryOp) → level x ≤ 5
level_high op.Or = omega arith
level_high op.And = omega arith
level_high op.Add = omega arith
level_high op.Subtract = omega arith
level_high op.Multiply = omega arith
level_high op.Divide = omega arith
level_high op.Remainder = omega arith
level_high x = omega arith

not_le : (n m : ℕ) → m < n → nat_le n m ≡ false
not_le n m h = grind (arith, nat_tests)

is_le : (n m : ℕ) → n ≤ m → nat_le n m ≡ true
is_le n m h = grind (arith, nat_tests)

le_is : (n m : ℕ) → nat_le n m ≡ true → n ≤ m
le_is n m h = grind (arith, nat_tests)

not_zero : (n : ℕ) → 1 ≤ n → (n == 0) ≡ false
not_zero n h = grind (arith, nat_tests)

module _ (most : ℕ) where
  reduced_stop : (n : ℕ) (p : Part) (f : Frame) (st : List Frame) → binds n f ≡ false → reduced most n p (f ∷ st) ≡ (p, f ∷ st)
  reduced_stop n p f st e = ap (λ (b : Bool). if b then reduced most n (completed most f p) st else (p, f ∷ st)) e

  pub reduced_go : (n : ℕ) (p : Part) (f : Frame) (st : List Frame) → binds n f ≡ true → reduced most n p (f ∷ st) ≡ reduced most n (completed most f p) st
  reduced_go n p f st e = ap (λ (b : Bool). if b then reduced most n (completed most f p) st else (p, f ∷ st)) e

  -- nothing is completed below an operand of the level that is waited for
  pub reduced_none : (n : ℕ) (p : Part) (st : List Frame) → 1 ≤ n → n ≤ 6 → expects_top st ≤ n → reduced most n p st ≡ (p, st)
  reduced_none n p [] l h e = refl
  reduced_none n p (Prefix x s ∷ st) l h e = absurd (omega arith)
  reduced_none n p (Infix x q ∷ st) l h e = reduced_stop n p (Infix x q) st (not_le n (level x) (omega arith))
  reduced_none n p (Branch q r ∷ st) l h e = reduced_stop n p (Branch q r) st (not_zero n l)
  reduced_none n p (f ∷ st) l h e = refl

  module _ (e : Span) where
    pub go_step : (k : Lexeme) (ts : List Lexeme) (x y : State) → step_of most x.0 x.1 k ≡ Some y → reading most e (k ∷ ts) x ≡ reading most e ts y
    go_step k ts x y h = ap (λ (o : Option State). read_token (place k) o (reading most e ts)) h

    infixed_same : (n : ℕ) (p : Part) (f : Frame) (st : List Frame) → ((m : ℕ) → m ≤ n → binds m f ≡ true) → (o : Option BinaryOp) → stops_op n o ≡ true →
        infixed most o p (f ∷ st) ≡ infixed most o (completed most f p) st
    infixed_same n p f st b None h = refl
    infixed_same n p f st b (Some x) h =
        ap (λ (r : Part × List Frame). Some (Want Expr, Infix x r.0 ∷ r.1)) (reduced_go (level x) p f st (b (level x) (le_is (level x) n h)))

    have_same : (n : ℕ) (p : Part) (f : Frame) (st : List Frame) (t : Lexeme) → n ≤ 6 → ((m : ℕ) → m ≤ n → binds m f ≡ true) → (k : TokenKind) → stops n k ≡ true →
        have_at most k (Whole p) (f ∷ st) t ≡ have_at most k (Whole (completed most f p)) st t
    have_same n p f st t h b kind.LeftParen c = absurd (cc)
    have_same n p f st t h b kind.Dot c = let g = le_is 7 n c in absurd (omega arith)
    have_same n p f st t h b kind.LeftBracket c = let g = le_is 7 n c in absurd (omega arith)
    have_same n p f st t h b kind.Question c = ap (λ (r : Part × List Frame). asked r.0 r.1) (reduced_go 1 p f st (b 1 (le_is 1 n c)))
    have_same n p f st t h b kind.Colon c = ap (λ (r : Part × List Frame). parted r.0 r.1) (reduced_go 0 p f st (b 0 (omega arith)))
    have_same n p f st t h b kind.Comma c = ap (λ (r : Part × List Frame). next_of r.0 r.1) (reduced_go 0 p f st (b 0 (omega arith)))
    have_same n p f st t h b kind.RightParen c = ap (λ (r : Part × List Frame). closed most r.0 r.1 t) (reduced_go 0 p f st (b 0 (omega arith)))
    have_same n p f st t h b kind.RightBracket c = ap (λ (r : Part × List Frame). closed most r.0 r.1 t) (reduced_go 0 p f st (b 0 (omega arith)))
    have_same n p f st t h b kind.RightBrace c = ap (λ (r : Part × List Frame). closed most r.0 r.1 t) (reduced_go 0 p f st (b 0 (omega arith)))
    have_same n p f st t h b k c = infixed_same n p f st b (binary_op k) c

    -- what was begun is completed before what follows is looked at
    pub unwind : (n : ℕ) (p : Part) (f : Frame) (st : List Frame) (rest : List Lexeme) → n ≤ 6 → ((m : ℕ) → m ≤ n → binds m f ≡ true) → Follows n rest →
        reading most e rest (Have (Whole p), f ∷ st) ≡ reading most e rest (Have (Whole (completed most f p)), st)
    unwind n p f st [] h b c = ap (λ (r : Part × List Frame). read_end e (alone r.0 r.1)) (reduced_go 0 p f st (b 0 (omega arith)))
    unwind n p f st (k ∷ ks) h b c = ap (λ (o : Option State). read_token (place k) o (reading most e ks)) (have_same n p f st k h b k.kind c)

    whole_at : (h : Hand) (st : List Frame) (t : Lexeme) (k : TokenKind) → stops 7 k ≡ true → have_at most k h st t ≡ have_at most k (Whole (part_of most h)) st t
    whole_at h st t kind.LeftParen c = absurd (cc)
    whole_at h st t k c = refl

    pub whole : (h : Hand) (st : List Frame) (rest : List Lexeme) → Follows 7 rest → reading most e rest (Have h, st) ≡ reading most e rest (Have (Whole (part_of most h)), st)
    whole h st [] c = refl
    whole h st (k ∷ ks) c = ap (λ (o : Option State). read_token (place k) o (reading most e ks)) (whole_at h st k k.kind c)
