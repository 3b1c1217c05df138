-- The operands that are one token.
use Rattle.std.specs.Prelude.{ℕ, Option, Some, None}
use Rattle.cel_lex.specs.declared.token.TokenKind.{TokenKind}
use Rattle.cel_lex.specs.declared.token.TokenKind.TheVariants as kind
use Rattle.cel_lex.specs.Tokens.{Lexeme}
use Rattle.cel_tree.specs.declared.tree.Span.{Span}
use Rattle.cel_tree.specs.Ast.{Constant, Literal'}
use Rattle.cel_parse.specs.declared.state.Hand.{Hand}
use Rattle.cel_parse.specs.declared.state.Hand.TheVariants as hand
use Rattle.cel_parse.specs.Grammar.{place, constant_of}
use Rattle.cel_parse.specs.Parts.{leaf_part}

module _ (most : ℕ) where
  abbrev pub hand_of : Span → Option Constant → Option Hand
  hand_of s None = None
  hand_of s (Some c) = Some (hand.Whole (leaf_part most s (Literal' c)))

  abbrev pub operand_at : TokenKind → Lexeme → Option Hand
  operand_at kind.Ident t = Some (hand.Name (place t) t.text)
  operand_at k t = hand_of (place t) (constant_of k t.text)

  abbrev pub operand_of : Lexeme → Option Hand
  operand_of t = operand_at t.kind t
