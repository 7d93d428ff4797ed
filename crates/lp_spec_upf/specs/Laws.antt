-- The statements of the laws of this crate (own rule).
use Rattle.std.specs.Prelude.{◌≡◌, ℕ, List, Result}
use Rattle.lp_text.specs.declared.place.Place.{Place}
use Rattle.lp_model.specs.CommandsView.{CommandView}
use Rattle.lp_upf_words.specs.Words.{DenotesList}
use Rattle.lp_upf_words.specs.Elements.{elements_at}
use Rattle.lp_spec_upf.specs.Commands.{Fault}
use Rattle.lp_spec_upf.specs.Intent.{Denotes}

-- a text says its commands, or has its one fault, in one way
abbrev pub SaidOnce : Type 0
SaidOnce = (text : List ℕ) (a b : Result (List CommandView) Fault) → Denotes text a → Denotes text b → a ≡ b

-- each text says its commands, or has its one fault
abbrev pub EachIsSaid : Type 0
EachIsSaid = (text : List ℕ) → (said : Result (List CommandView) Fault) × Denotes text said

-- the elements by which a list is judged are those that its content has as a list
abbrev pub ElementsAreDenoted : Type 0
ElementsAreDenoted = (p : Place) (content : List ℕ) → DenotesList p content (elements_at p content)
