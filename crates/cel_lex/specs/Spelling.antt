-- The pieces of what a string spells.
use Rattle.std.specs.Prelude.{ℕ, List}
use Rattle.std.specs.Char.{encode_utf8}
use Rattle.cel_lex.specs.declared.spelling.Piece.{Piece}
use Rattle.cel_lex.specs.declared.spelling.Piece.TheVariants.{Plain, Escaped}

-- the bytes of a piece, a character's in UTF-8
abbrev pub piece_bytes : Piece → List ℕ
piece_bytes (Plain text) = text.now
piece_bytes (Escaped character) = encode_utf8 character
