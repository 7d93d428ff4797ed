-- Texts that use a port of the header before its direction, computed.
use Rattle.std.proofs.Common.{◌≡◌, ℕ, true, List, [], ◌∷◌, length, refl}
use Rattle.std.specs.Prelude.{codes}
use Rattle.lp_verilog_tokens.specs.Lexical.{is_blank, is_lead, is_inner}
use Rattle.lp_verilog_tokens.specs.Reserved.{reserved_words}
use Rattle.lp_verilog_draft.specs.declared.stop.Off.TheVariants.{Syntax}
use Rattle.lp_verilog_grammar.specs.Machine.{start}
use Rattle.lp_verilog.specs.Reading.{Reading, Left, read_rest}

abbrev read : List ℕ → Reading
read text = read_rest text (length text) true text [] start

abbrev names : List (List ℕ)
names = codes "m" ∷ codes "a" ∷ codes "y" ∷ []

on_a_right_side : read (codes "module m (a, y);\n  output y;\n  assign y = a;\n  input a;\nendmodule\n") ≡ record { outcome = Left Syntax 42 (codes "a"); names = names }
unfolding is_blank is_lead is_inner reserved_words
on_a_right_side = refl
