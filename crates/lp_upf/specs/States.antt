-- The tables of states so far, by the numbers of their names (own rule).
use Rattle.std.specs.Prelude.{◌≡◌, ℕ, List, [], map, Option, None}
use Rattle.lp_text.specs.Texts.{text_at}
use Rattle.lp_text.specs.declared.place.Place.{Place}
use Rattle.lp_model.specs.declared.upf.CommandWord.{CommandWord}
use Rattle.lp_model.specs.declared.upf.CommandWord.TheVariants as commands
use Rattle.lp_model.specs.declared.upf.OptionWord.TheVariants as options
use Rattle.lp_model.specs.CommandsView.{OptionView, WordView}
use Rattle.lp_spec_upf.specs.Shapes.{shape_of}
use Rattle.lp_spec_upf.specs.Commands.{Option_, Part, TableOf, name_in, options_of, rules_for, supplies_named, supplies_of}

abbrev pub table_view : List (List ℕ) → ℕ × ℕ → TableOf
table_view names e = record { name = text_at names e.0; supplies = e.1 }

abbrev pub tables_view : List (List ℕ) → List (ℕ × ℕ) → List TableOf
tables_view names entries = map (table_view names) entries

abbrev pub tables_numbers : List (ℕ × ℕ) → List ℕ
tables_numbers entries = map (λ e. e.0) entries

-- each name has the same table in both
abbrev pub SameTables : List TableOf → List TableOf → Type 0
SameTables a b = (name : List ℕ) → supplies_of a name ≡ supplies_of b name

-- the number of the supplies of the table that a row names
abbrev pub row_supplies : CommandWord → List TableOf → List OptionView → Option ℕ
row_supplies commands.AddPstState tables os = supplies_named tables (name_in os options.Pst)
row_supplies word tables os = None

-- the options of a command by its own table
abbrev pub exact_of : List TableOf → CommandWord → Option Place → List WordView → Part
exact_of tables c e ws = options_of (rules_for c tables (shape_of c).rules (options_of (shape_of c).rules e Option_ [] ws)) e Option_ [] ws
