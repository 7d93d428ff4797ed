-- The numbers in what a text denotes are those of names of the table.
use Rattle.std.proofs.Common.{◌≡◌, ℕ, ◌<◌, Bool, true, List, length, ap, ◌∙◌, arith}
use Rattle.std.specs.Prelude.{ltb, unwrap_or}
use Rattle.std.specs.List.{flat_map}
use Rattle.std.proofs.lemmas.Bool.Decides.{nat_tests}
use Rattle.lp_text.specs.Texts.{place_of, place_of-Some}
use Rattle.lp_model.specs.declared.netlist.Module.{Module}
use Rattle.lp_model.specs.Agreement.{numbers_below}
use Rattle.lp_model.specs.NetlistView.{module_numbers}
use Rattle.lp_verilog_tokens.specs.declared.token.Token.{Token}
use Rattle.lp_verilog_tokens.specs.declared.token.Token.TheVariants as tokens
use Rattle.lp_verilog_tokens.specs.Cutting.{Lexeme, Named, Plain}
use Rattle.lp_verilog.specs.Reading.{unnamed}
use Rattle.lp_verilog.specs.Denotes.{numbered, is_known, Denotes}
use Rattle.lp_verilog.proofs.Across.{has_place}
use Rattle.lp_verilog.proofs.Numbers.{Okay, all_pass}

module _ (P : ℕ → Bool) where
  pub unnamed_okay : (t : Token) → Okay P (unnamed t)
  unnamed_okay (tokens.Name id) = tt
  unnamed_okay (tokens.Mark mark) = tt
  unnamed_okay (tokens.Keyword word) = tt
  unnamed_okay (tokens.Number v) = tt
  unnamed_okay (tokens.Constant size value) = tt
  unnamed_okay tokens.Unread = tt
  unnamed_okay tokens.Foreign = tt
  unnamed_okay tokens.Broken = tt

below : (k n : ℕ) → k < n → ltb k n ≡ true
below k n h = grind (arith, nat_tests, h)

number_below : (names : List (List ℕ)) (l : Lexeme) → is_known names l ≡ true → Okay (λ n. ltb n (length names)) (numbered names l)
number_below names (Plain t) h = unnamed_okay (λ n. ltb n (length names)) t
number_below names (Named t) h =
    let p = has_place t names h in
    let number : unwrap_or (place_of t names) 0 ≡ p.0 = ap (λ o. unwrap_or o 0) p.1 in
    ap (λ n. ltb n (length names)) number ∙ below p.0 (length names) (place_of-Some t names p.0 p.1).0

pub numbers_stand : (names : List (List ℕ)) (text : List ℕ) (ms : List Module) → Denotes names text ms → numbers_below (length names) (flat_map module_numbers ms) ≡ true
numbers_stand names text ms h = all_pass (λ n. ltb n (length names)) names text ms (λ fresh rest p e known. number_below names p.lexeme known) h
