-- The grammar: which tree a list of tokens has.
use Rattle.std.specs.Prelude.{◌≡◌, ℕ, suc, List, [], ◌∷◌, ◌++◌, Bool, true, false, Option, Some, None, option_map}
use Rattle.cel_lex.specs.declared.token.TokenKind.{TokenKind}
use Rattle.cel_lex.specs.declared.token.TokenKind.TheVariants as kind
use Rattle.cel_lex.specs.Tokens.{Lexeme}
use Rattle.cel_lex.specs.Numbers.{int_of}
use Rattle.cel_lex.specs.Strings.{content_of}
use Rattle.cel_tree.specs.declared.tree.Span.{Span}
use Rattle.cel_tree.specs.declared.tree.UnaryOp.{UnaryOp}
use Rattle.cel_tree.specs.declared.tree.UnaryOp.TheVariants.{Not, Negate}
use Rattle.cel_tree.specs.declared.tree.BinaryOp.{BinaryOp}
use Rattle.cel_tree.specs.declared.tree.BinaryOp.TheVariants as op
use Rattle.cel_tree.specs.Ast.{Constant, Null, Truth, Whole, Bytes, Ast, Node, Literal', Ident, Unary, Binary, Conditional, Member, Index, Call, Method, ListOf, MapOf, asts_of, entries_of, span_of}

abbrev pub place : Lexeme → Span
place t = record { start = t.start; end = t.end }

-- from the start of the first to the end of the last
abbrev pub over : Span → Span → Span
over a b = record { start = a.start; end = b.end }

-- the value of a literal
abbrev pub constant_of : TokenKind → List ℕ → Option Constant
constant_of kind.Null text = Some Null
constant_of kind.True text = Some (Truth true)
constant_of kind.False text = Some (Truth false)
constant_of kind.Int text = option_map Whole (int_of text)
constant_of kind.Str text = Some (Bytes (content_of text))
constant_of k text = None

abbrev pub unary_op : TokenKind → Option UnaryOp
unary_op kind.Not = Some Not
unary_op kind.Minus = Some Negate
unary_op k = None

abbrev pub binary_op : TokenKind → Option BinaryOp
binary_op kind.OrOr = Some op.Or
binary_op kind.AndAnd = Some op.And
binary_op kind.Lt = Some op.Less
binary_op kind.Le = Some op.LessEq
binary_op kind.Ge = Some op.GreaterEq
binary_op kind.Gt = Some op.Greater
binary_op kind.EqEq = Some op.Equal
binary_op kind.NotEq = Some op.NotEqual
binary_op kind.In = Some op.In
binary_op kind.Plus = Some op.Add
binary_op kind.Minus = Some op.Subtract
binary_op kind.Star = Some op.Multiply
binary_op kind.Slash = Some op.Divide
binary_op kind.Percent = Some op.Remainder
binary_op k = None

-- how tightly an operator binds: Or, And, Rel, Add, Mul
abbrev pub level : BinaryOp → ℕ
level op.Or = 1
level op.And = 2
level op.Less = 3
level op.LessEq = 3
level op.GreaterEq = 3
level op.Greater = 3
level op.Equal = 3
level op.NotEqual = 3
level op.In = 3
level op.Add = 4
level op.Subtract = 4
level op.Multiply = 5
level op.Divide = 5
level op.Remainder = 5

-- a name after a point
abbrev pub is_member_name : TokenKind → Bool
is_member_name kind.Ident = true
is_member_name kind.Reserved = true
is_member_name k = false

-- `Has 0` is Expr, `Has 1` to `Has 5` are Or, And, Rel, Add and Mul, `Has 6` is Unary, and `Has 7` is Member with Primary.
mutual
  pub data Has : ℕ → List Lexeme → Ast → Type 0 where
    tighter : {n : ℕ} {ts : List Lexeme} {t : Ast} → Has (suc n) ts t → Has n ts t
    conditional : {a b c : List Lexeme} (q k : Lexeme) {t u v : Ast} → Has 1 a t → q.kind ≡ kind.Question → Has 1 b u → k.kind ≡ kind.Colon → Has 0 c v →
        Has 0 (a ++ q ∷ (b ++ k ∷ c)) (Node (over (span_of t) (span_of v)) (Conditional t u v))
    binary : {a b : List Lexeme} (o : Lexeme) {x : BinaryOp} {t u : Ast} → binary_op o.kind ≡ Some x → Has (level x) a t → Has (suc (level x)) b u →
        Has (level x) (a ++ o ∷ b) (Node (over (span_of t) (span_of u)) (Binary x t u))
    unary : {ts : List Lexeme} {x : UnaryOp} {t : Ast} → Repeats x ts t → Has 6 ts t
    literal : (k : Lexeme) {c : Constant} → constant_of k.kind k.text ≡ Some c → Has 7 (k ∷ []) (Node (place k) (Literal' c))
    name : (k : Lexeme) → k.kind ≡ kind.Ident → Has 7 (k ∷ []) (Node (place k) (Ident k.text))
    brackets : {ts : List Lexeme} (o e : Lexeme) {t : Ast} → o.kind ≡ kind.LeftParen → Has 0 ts t → e.kind ≡ kind.RightParen → Has 7 (o ∷ (ts ++ e ∷ [])) t
    member : {ts : List Lexeme} (d k : Lexeme) {t : Ast} → Has 7 ts t → d.kind ≡ kind.Dot → is_member_name k.kind ≡ true →
        Has 7 (ts ++ d ∷ k ∷ []) (Node (over (span_of t) (place k)) (Member t k.text))
    index : {ts us : List Lexeme} (o e : Lexeme) {t u : Ast} → Has 7 ts t → o.kind ≡ kind.LeftBracket → Has 0 us u → e.kind ≡ kind.RightBracket →
        Has 7 (ts ++ o ∷ (us ++ e ∷ [])) (Node (over (span_of t) (place e)) (Index t u))
    call : {us : List Lexeme} (k o e : Lexeme) {l : List Ast} → k.kind ≡ kind.Ident → o.kind ≡ kind.LeftParen → Arguments us l → e.kind ≡ kind.RightParen →
        Has 7 (k ∷ o ∷ (us ++ e ∷ [])) (Node (over (place k) (place e)) (Call k.text (asts_of l)))
    method : {ts us : List Lexeme} (d k o e : Lexeme) {t : Ast} {l : List Ast} → Has 7 ts t → d.kind ≡ kind.Dot → is_member_name k.kind ≡ true →
        o.kind ≡ kind.LeftParen → Arguments us l → e.kind ≡ kind.RightParen →
        Has 7 (ts ++ d ∷ k ∷ o ∷ (us ++ e ∷ [])) (Node (over (span_of t) (place e)) (Method t k.text (asts_of l)))
    list : {us : List Lexeme} (o e : Lexeme) {l : List Ast} → o.kind ≡ kind.LeftBracket → Items us l → e.kind ≡ kind.RightBracket →
        Has 7 (o ∷ (us ++ e ∷ [])) (Node (over (place o) (place e)) (ListOf (asts_of l)))
    map_literal : {us : List Lexeme} (o e : Lexeme) {l : List (Ast × Ast)} → o.kind ≡ kind.LeftBrace → Inits us l → e.kind ≡ kind.RightBrace →
        Has 7 (o ∷ (us ++ e ∷ [])) (Node (over (place o) (place e)) (MapOf (entries_of l)))

  -- the same operator once or more, and a Member
  pub data Repeats : UnaryOp → List Lexeme → Ast → Type 0 where
    once : (o : Lexeme) {ts : List Lexeme} {x : UnaryOp} {t : Ast} → unary_op o.kind ≡ Some x → Has 7 ts t → Repeats x (o ∷ ts) (Node (over (place o) (span_of t)) (Unary x t))
    again : (o : Lexeme) {ts : List Lexeme} {x : UnaryOp} {t : Ast} → unary_op o.kind ≡ Some x → Repeats x ts t → Repeats x (o ∷ ts) (Node (over (place o) (span_of t)) (Unary x t))

  -- List: expressions with commas between them
  pub data Listed : List Lexeme → List Ast → Type 0 where
    first : {ts : List Lexeme} {t : Ast} → Has 0 ts t → Listed ts (t ∷ [])
    more : {ts us : List Lexeme} (c : Lexeme) {l : List Ast} {t : Ast} → Listed ts l → c.kind ≡ kind.Comma → Has 0 us t → Listed (ts ++ c ∷ us) (l ++ t ∷ [])

  -- [ List ]
  pub data Arguments : List Lexeme → List Ast → Type 0 where
    no_argument : Arguments [] []
    arguments : {ts : List Lexeme} {l : List Ast} → Listed ts l → Arguments ts l

  -- [ List ] [ "," ]
  pub data Items : List Lexeme → List Ast → Type 0 where
    items : {ts : List Lexeme} {l : List Ast} → Arguments ts l → Items ts l
    items_comma : {ts : List Lexeme} (c : Lexeme) {l : List Ast} → Arguments ts l → c.kind ≡ kind.Comma → Items (ts ++ c ∷ []) l

  -- Inits: keys, each with its value
  pub data Paired : List Lexeme → List (Ast × Ast) → Type 0 where
    first_pair : {ts us : List Lexeme} (k : Lexeme) {t u : Ast} → Has 0 ts t → k.kind ≡ kind.Colon → Has 0 us u → Paired (ts ++ k ∷ us) ((t, u) ∷ [])
    more_pairs : {ss ts us : List Lexeme} (c k : Lexeme) {l : List (Ast × Ast)} {t u : Ast} → Paired ss l → c.kind ≡ kind.Comma → Has 0 ts t → k.kind ≡ kind.Colon → Has 0 us u →
        Paired (ss ++ c ∷ (ts ++ k ∷ us)) (l ++ (t, u) ∷ [])

  -- [ Inits ] [ "," ]
  pub data Inits : List Lexeme → List (Ast × Ast) → Type 0 where
    no_pair : Inits [] []
    lone_comma : (c : Lexeme) → c.kind ≡ kind.Comma → Inits (c ∷ []) []
    pairs : {ts : List Lexeme} {l : List (Ast × Ast)} → Paired ts l → Inits ts l
    pairs_comma : {ts : List Lexeme} (c : Lexeme) {l : List (Ast × Ast)} → Paired ts l → c.kind ≡ kind.Comma → Inits (ts ++ c ∷ []) l
