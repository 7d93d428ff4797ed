-- The first option of a word is sought among options.
use Rattle.std.proofs.Common.{◌≡◌, ℕ, ◌+◌, ◌<◌, Bool, true, false, List, ◌∷◌, sym, ap, ◌∙◌, length, drop, get_or, map}
use Rattle.std.specs.Prelude.{Some, if◌then◌else◌}
use Rattle.std.specs.List.{flat_map}
use Rattle.std.proofs.lemmas.List.{drop_more}
use Rattle.lp_model.specs.declared.upf.CommandOption.{CommandOption}
use Rattle.lp_model.specs.declared.upf.OptionWord.{OptionWord}
use Rattle.lp_model.specs.Agreement.{numbers_below}
use Rattle.lp_model.specs.CommandsView.{command_option_numbers, option_view}
use Rattle.lp_spec_upf.specs.Commands.{name_in, option_in, option_name, same_option}
use Rattle.lp_upf.proofs.Carried.{below_parts}

module _ (os : List CommandOption) (i : ℕ) (x : CommandOption) (low : i < length os) (at : x ≡ get_or os i x) where
  front : drop i os ≡ x ∷ drop (i + 1) os
  front = drop_more os i x low ∙ ap (λ (y : CommandOption). y ∷ drop (i + 1) os) (sym at)

  pub another : (names : List (List ℕ)) (w : OptionWord) → same_option x.word w ≡ false → name_in (map (option_view names) (drop i os)) w ≡ name_in (map (option_view names) (drop (i + 1) os)) w
  another names w e =
      ap (λ (xs : List CommandOption). name_in (map (option_view names) xs) w) front
      ∙ ap (λ (b : Bool). option_name (if b then Some (option_view names x) else option_in (map (option_view names) (drop (i + 1) os)) w)) e

  pub rest_below : (n : ℕ) → numbers_below n (flat_map command_option_numbers (drop i os)) ≡ true → numbers_below n (flat_map command_option_numbers (drop (i + 1) os)) ≡ true
  rest_below n h =
      (below_parts n (command_option_numbers x) (flat_map command_option_numbers (drop (i + 1) os))
      (sym (ap (λ (xs : List CommandOption). numbers_below n (flat_map command_option_numbers xs)) front) ∙ h)).1
