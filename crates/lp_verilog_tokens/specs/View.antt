-- How contracts see the pieces of the code.
use Rattle.lp_verilog_tokens.specs.Cutting as cutting
use Rattle.lp_verilog_tokens.specs.declared.token.Lexeme.{Lexeme}
use Rattle.lp_verilog_tokens.specs.declared.token.Lexeme.TheVariants as lexemes
use Rattle.lp_verilog_tokens.specs.declared.token.Front.{Front}
use Rattle.lp_verilog_tokens.specs.declared.token.Front.TheVariants as fronts
use Rattle.lp_verilog_tokens.specs.declared.token.Piece.{Piece}

abbrev pub lexeme_view : Lexeme → cutting.Lexeme
lexeme_view (lexemes.Named name) = cutting.Named name.now
lexeme_view (lexemes.Plain token) = cutting.Plain token

abbrev pub front_view : Front → cutting.Front
front_view (fronts.Whole size lexeme) = cutting.Whole size (lexeme_view lexeme)
front_view fronts.Cut = cutting.Cut

abbrev pub piece_view : Piece → cutting.Piece
piece_view p = record { gap = p.gap; size = p.size; lexeme = lexeme_view p.lexeme }
