-- The pins of a cell by the texts of their names and by their places (own rule).
use Rattle.std.specs.Prelude.{◌≡◌, ℕ, List, Some, slice_index_or}
use Rattle.lp_text.specs.Texts.{text_at}
use Rattle.lp_text.specs.declared.names.NameId.{NameId}
use Rattle.lp_tern.specs.declared.tern.Tern.{Tern}
use Rattle.lp_tern.specs.declared.tern.Tern.TheVariants.{X}
use Rattle.lp_model.specs.declared.library.Cell.{Cell}
use Rattle.lp_behaviour.specs.Signals.{input_place}
use Rattle.lp_spec_design.specs.Keys.{Name}

-- what is seen at an input pin's name is the value at the pin's place
abbrev pub Sees : List (List ℕ) → Cell → List Tern → (Name → Tern) → Type 0
Sees texts cell pins seen = (name : NameId) (place : ℕ) → input_place cell.pins name ≡ Some place → seen (text_at texts name.0) ≡ slice_index_or pins place X
