-- Which commands a UPF text has, or its one fault (IEEE 1801-2015, clause 6; the subset is an own rule).
use Rattle.std.specs.Prelude.{◌≡◌, ℕ, Bool, true, false, List, [], ◌∷◌, Some, Result, if◌then◌else◌}
use Rattle.lp_tern.specs.Expression.{holds}
use Rattle.lp_expr.specs.declared.dialect.Dialect.TheVariants.{Control}
use Rattle.lp_expr.specs.Grammar.{Spells, meaning}
use Rattle.lp_expr.specs.Denotes.{occurring}
use Rattle.lp_model.specs.CommandsView.{CommandView}
use Rattle.lp_upf_words.specs.Words as words
use Rattle.lp_upf_words.specs.Words.{Outcome}
use Rattle.lp_spec_upf.specs.Commands.{Fault, Sense, intent_of}

-- a text is an expression of one name, and equal to it, or to its complement
pub record HasSense (text control : List ℕ) (high : Bool) : Type 0 where
  pub spells : Spells Control text
  pub only : occurring (meaning spells.tree) ≡ control ∷ []
  pub on : holds (meaning spells.tree) ((control, true) ∷ []) ≡ high
  pub off : holds (meaning spells.tree) ((control, false) ∷ []) ≡ (if high then false else true)

-- the senses of texts as control expressions of a name
pub record IsSense (sense : Sense) : Type 0 where
  pub sound : (text control : List ℕ) (high : Bool) → sense.of text control ≡ Some high → HasSense text control high
  pub all : (text control : List ℕ) (high : Bool) → HasSense text control high → sense.of text control ≡ Some high

-- what a text says: its commands, or its one fault
pub record Denotes (text : List ℕ) (said : Result (List CommandView) Fault) : Type 0 where
  pub outcome : Outcome
  pub words : words.Denotes text outcome
  pub sense : Sense
  pub senses : IsSense sense
  pub is : said ≡ intent_of sense outcome
