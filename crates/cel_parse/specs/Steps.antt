-- How tokens are read from the left: what was begun and waits, and what each token makes of it.
use Rattle.std.specs.Prelude.{◌≡◌, ℕ, nat_le, ◌==◌, List, [], ◌∷◌, Bool, true, false, Option, Some, None, Result, Ok, Err, if◌then◌else◌}
use Rattle.std.specs.declared.alloc.AllocError.{AllocError}
use Rattle.cel_lex.specs.declared.token.TokenKind.{TokenKind}
use Rattle.cel_lex.specs.declared.token.TokenKind.TheVariants as kind
use Rattle.cel_lex.specs.Tokens.{Lexeme}
use Rattle.cel_tree.specs.declared.tree.Span.{Span}
use Rattle.cel_tree.specs.declared.tree.UnaryOp.{UnaryOp}
use Rattle.cel_tree.specs.declared.tree.UnaryOp.TheVariants.{Not, Negate}
use Rattle.cel_tree.specs.declared.tree.BinaryOp.{BinaryOp}
use Rattle.cel_tree.specs.Ast.{Ident}
use Rattle.cel_parse.specs.declared.part.Part.{Part}
use Rattle.cel_parse.specs.declared.part.Parts.TheVariants as parts
use Rattle.cel_parse.specs.declared.part.Entries.TheVariants as entries
use Rattle.cel_parse.specs.declared.state.Due.{Due}
use Rattle.cel_parse.specs.declared.state.Due.TheVariants.{Expr, Prefixed, First, Next, Closing}
use Rattle.cel_parse.specs.declared.state.Hand.{Hand}
use Rattle.cel_parse.specs.declared.state.Hand.TheVariants.{Whole, Name, Field}
use Rattle.cel_parse.specs.declared.state.Mode.{Mode}
use Rattle.cel_parse.specs.declared.state.Mode.TheVariants.{Want, Have, Dot}
use Rattle.cel_parse.specs.declared.state.Frame.{Frame}
use Rattle.cel_parse.specs.declared.state.Frame.TheVariants.{Prefix, Infix, Test, Branch, Round, Subscript, Square, Function, Method, Braces, Value}
use Rattle.cel_parse.specs.Parts.{joined, leaf_part, unary_part, binary_part, conditional_part, member_part, index_part, call_part, method_part, list_part, map_part, added_item, added_pair}
use Rattle.cel_parse.specs.Grammar.{place, level, binary_op}
use Rattle.cel_parse.specs.Operands.{operand_of}

abbrev pub binds : ℕ → Frame → Bool
binds n (Prefix op s) = true
binds n (Infix op p) = nat_le n (level op)
binds n (Branch p q) = n == 0
binds n f = false

abbrev pub binds_top : ℕ → List Frame → Bool
binds_top n [] = false
binds_top n (f ∷ st) = binds n f

abbrev pub State : Type 0
State = Mode × List Frame

abbrev pub may_begin : Due → Bool
may_begin Closing = false
may_begin d = true

abbrev pub may_end : Due → Bool
may_end First = true
may_end Next = true
may_end Closing = true
may_end d = false

abbrev pub may_prefix : Due → UnaryOp → Bool
may_prefix Closing op = false
may_prefix (Prefixed Not) Negate = false
may_prefix (Prefixed Negate) Not = false
may_prefix d op = true

abbrev pub opened : Due → Frame → Due → List Frame → Option State
opened due f next st = if may_begin due then Some (Want next, f ∷ st) else None

abbrev pub prefixed : Due → UnaryOp → Span → List Frame → Option State
prefixed due op s st = if may_prefix due op then Some (Want (Prefixed op), Prefix op s ∷ st) else None

abbrev pub passed_at : List Frame → Option State
passed_at (Square s items ∷ st) = Some (Want Closing, Square s items ∷ st)
passed_at (Braces s es ∷ st) = Some (Want Closing, Braces s es ∷ st)
passed_at st = None

abbrev pub passed : Due → List Frame → Option State
passed First st = passed_at st
passed d st = None

abbrev pub have_whole : List Frame → Option Part → Option State
have_whole st None = None
have_whole st (Some p) = Some (Have (Whole p), st)

abbrev pub have_operand : List Frame → Option Hand → Option State
have_operand st None = None
have_operand st (Some h) = Some (Have h, st)

abbrev pub asked : Part → List Frame → Option State
asked p (Test q ∷ st) = None
asked p st = Some (Want Expr, Test p ∷ st)

abbrev pub parted : Part → List Frame → Option State
parted p (Test q ∷ st) = Some (Want Expr, Branch q p ∷ st)
parted p (Braces s es ∷ st) = Some (Want Expr, Value s es p ∷ st)
parted p st = None

abbrev pub grown : Frame → Part → Option (Frame × Due)
grown (Square s items) p = Some (Square s (added_item items p), Next)
grown (Function s name items) p = Some (Function s name (added_item items p), Expr)
grown (Method o name items) p = Some (Method o name (added_item items p), Expr)
grown (Value s es k) p = Some (Braces s (added_pair es k p), Next)
grown f p = None

abbrev pub want_next : List Frame → Option (Frame × Due) → Option State
want_next st None = None
want_next st (Some g) = Some (Want g.1, g.0 ∷ st)

abbrev pub next_of : Part → List Frame → Option State
next_of p [] = None
next_of p (f ∷ st) = want_next st (grown f p)

abbrev pub closed_round : Part → TokenKind → Option Part
closed_round p kind.RightParen = Some p
closed_round p k = None

abbrev pub called : Hand → List Frame → Option State
called (Whole p) st = None
called (Name s name) st = Some (Want First, Function s name (parts.Shallow [] 0) ∷ st)
called (Field o s name) st = Some (Want First, Method o name (parts.Shallow [] 0) ∷ st)

abbrev pub named_at : TokenKind → Part → List Frame → Lexeme → Option State
named_at kind.Ident o st t = Some (Have (Field o (place t) t.text), st)
named_at kind.Reserved o st t = Some (Have (Field o (place t) t.text), st)
named_at k o st t = None

abbrev pub alone : Part → List Frame → Option Part
alone p [] = Some p
alone p (f ∷ st) = None

abbrev pub begun : State
begun = (Want Expr, [])

-- what is read in the end, or the span of the first token that isn't allowed there
pub data Reading : Type 0 where
  Read : Part → Reading
  Fault : Span → Reading

abbrev pub read_end : Span → Option Part → Reading
read_end e None = Fault e
read_end e (Some p) = Read p

abbrev pub read_token : Span → Option State → (State → Reading) → Reading
read_token s None later = Fault s
read_token s (Some x) later = later x

module _ (most : ℕ) where
  abbrev pub completed : Frame → Part → Part
  completed (Prefix op s) p = unary_part most op s p
  completed (Infix op l) p = binary_part most op l p
  completed (Branch t u) p = conditional_part most t u p
  completed f p = p

  abbrev pub reduced : ℕ → Part → List Frame → Part × List Frame
  reduced n p [] = (p, [])
  reduced n p (f ∷ st) = if binds n f then reduced n (completed f p) st else (p, f ∷ st)

  abbrev pub part_of : Hand → Part
  part_of (Whole p) = p
  part_of (Name s name) = leaf_part most s (Ident name)
  part_of (Field o s name) = member_part most o s name

  abbrev pub ended_frame : Frame → TokenKind → Span → Option Part
  ended_frame (Square s items) kind.RightBracket e = Some (list_part most (joined s e) items)
  ended_frame (Function s name items) kind.RightParen e = Some (call_part most (joined s e) name items)
  ended_frame (Method o name items) kind.RightParen e = Some (method_part most o name items e)
  ended_frame (Braces s es) kind.RightBrace e = Some (map_part most (joined s e) es)
  ended_frame f k e = None

  abbrev pub ended : List Frame → Lexeme → Option State
  ended [] t = None
  ended (f ∷ st) t = have_whole st (ended_frame f t.kind (place t))

  abbrev pub want_at : TokenKind → Due → List Frame → Lexeme → Option State
  want_at kind.LeftParen due st t = opened due Round Expr st
  want_at kind.LeftBracket due st t = opened due (Square (place t) (parts.Shallow [] 0)) First st
  want_at kind.LeftBrace due st t = opened due (Braces (place t) (entries.Shallow [] 0)) First st
  want_at kind.Not due st t = prefixed due Not (place t) st
  want_at kind.Minus due st t = prefixed due Negate (place t) st
  want_at kind.RightParen due st t = if may_end due then ended st t else None
  want_at kind.RightBracket due st t = if may_end due then ended st t else None
  want_at kind.RightBrace due st t = if may_end due then ended st t else None
  want_at kind.Comma due st t = passed due st
  want_at k due st t = if may_begin due then have_operand st (operand_of most t) else None

  abbrev pub closed_grown : Option (Frame × Due) → TokenKind → Span → Option Part
  closed_grown None k e = None
  closed_grown (Some g) k e = ended_frame g.0 k e

  abbrev pub closed_subscript : Part → Part → TokenKind → Span → Option Part
  closed_subscript o p kind.RightBracket e = Some (index_part most o p e)
  closed_subscript o p k e = None

  abbrev pub closed_frame : Frame → Part → TokenKind → Span → Option Part
  closed_frame Round p k e = closed_round p k
  closed_frame (Subscript o) p k e = closed_subscript o p k e
  closed_frame f p k e = closed_grown (grown f p) k e

  abbrev pub closed : Part → List Frame → Lexeme → Option State
  closed p [] t = None
  closed p (f ∷ st) t = have_whole st (closed_frame f p t.kind (place t))

  abbrev pub infixed : Option BinaryOp → Part → List Frame → Option State
  infixed None p st = None
  infixed (Some o) p st = Some (Want Expr, Infix o (reduced (level o) p st).0 ∷ (reduced (level o) p st).1)

  abbrev pub have_at : TokenKind → Hand → List Frame → Lexeme → Option State
  have_at kind.Dot h st t = Some (Dot (part_of h), st)
  have_at kind.LeftBracket h st t = Some (Want Expr, Subscript (part_of h) ∷ st)
  have_at kind.LeftParen h st t = called h st
  have_at kind.Question h st t = asked (reduced 1 (part_of h) st).0 (reduced 1 (part_of h) st).1
  have_at kind.Colon h st t = parted (reduced 0 (part_of h) st).0 (reduced 0 (part_of h) st).1
  have_at kind.Comma h st t = next_of (reduced 0 (part_of h) st).0 (reduced 0 (part_of h) st).1
  have_at kind.RightParen h st t = closed (reduced 0 (part_of h) st).0 (reduced 0 (part_of h) st).1 t
  have_at kind.RightBracket h st t = closed (reduced 0 (part_of h) st).0 (reduced 0 (part_of h) st).1 t
  have_at kind.RightBrace h st t = closed (reduced 0 (part_of h) st).0 (reduced 0 (part_of h) st).1 t
  have_at k h st t = infixed (binary_op k) (part_of h) st

  abbrev pub step_of : Mode → List Frame → Lexeme → Option State
  step_of (Want due) st t = want_at t.kind due st t
  step_of (Have h) st t = have_at t.kind h st t
  step_of (Dot o) st t = named_at t.kind o st t

  abbrev pub finished : Mode → List Frame → Option Part
  finished (Have h) st = alone (reduced 0 (part_of h) st).0 (reduced 0 (part_of h) st).1
  finished (Want due) st = None
  finished (Dot o) st = None

  -- the tokens read on from a state; the text ends at e
  abbrev pub reading : Span → List Lexeme → State → Reading
  reading e [] x = read_end e (finished x.0 x.1)
  reading e (t ∷ ts) x = read_token (place t) (step_of x.0 x.1 t) (reading e ts)

-- what a step returned, with the stack that it left, is what the token makes of the state
abbrev pub Gives : Result (Option Mode) AllocError → List Frame → Option State → Type 0
Gives (Ok (Some m)) st o = o ≡ Some (m, st)
Gives (Ok None) st o = o ≡ None
Gives (Err e) st o = Unit {0}

abbrev pub Popped : Option Frame → List Frame → List Frame → Type 0
Popped None old new = (old ≡ []) × (new ≡ [])
Popped (Some f) old new = old ≡ f ∷ new

abbrev pub reading_of : Result Part Span → Reading
reading_of (Ok p) = Read p
reading_of (Err s) = Fault s
