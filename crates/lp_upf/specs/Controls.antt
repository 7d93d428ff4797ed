-- The expressions of the options of a switch (own rule).
use Rattle.std.specs.Prelude.{◌≡◌, ℕ, Bool, true, false, List, [], ◌∷◌, Option}
use Rattle.std.specs.List.{list_all}
use Rattle.lp_model.specs.declared.upf.OptionWord.{OptionWord}
use Rattle.lp_model.specs.declared.upf.OptionWord.TheVariants as options
use Rattle.lp_model.specs.CommandsView.{OptionView, option_view}
use Rattle.lp_upf_words.specs.Sizes.{is_short}
use Rattle.lp_spec_upf.specs.Commands.{Sense, expression_faults, last_word, option_in, sensed}
use Rattle.lp_spec_upf.specs.Commands as spec
use Rattle.lp_spec_upf.specs.Intent.{IsSense}
use Rattle.lp_upf.specs.declared.expressions.Sensed.{Sensed}
use Rattle.lp_upf.specs.Faults.{faults_view, judged}

abbrev pub is_expression : OptionWord → Bool
is_expression options.OnState = true
is_expression options.OffState = true
is_expression word = false

-- the sense of the expression of an option
abbrev pub IsSenseAt : OptionView → List ℕ → Option Bool → Type 0
IsSenseAt o control high = (s : Sense) → IsSense s → is_expression o.word ≡ true → high ≡ s.of (last_word o.values) control

-- the sense of the first on expression
abbrev pub IsOnSense : List OptionView → List ℕ → Option Bool → Type 0
IsOnSense os control high = (s : Sense) → IsSense s → high ≡ spec.on_sense s.of control (option_in os options.OnState)

-- no word of the option is longer than a file
abbrev pub has_short : OptionView → Bool
has_short o = list_all is_short o.values

-- an option with its sense, and the fault of its expression
pub record IsSensed (names : List (List ℕ)) (on : Option Bool) (control : List ℕ) (o : OptionView) (r : Sensed) : Type 0 where
  pub option : (s : Sense) → IsSense s → option_view names r.option ∷ [] ≡ sensed s.of control (o ∷ [])
  pub faults : (s : Sense) → IsSense s → faults_view names r.faults ≡ judged (expression_faults s.of control on (o ∷ []))
