-- What the reader holds, by the texts of names (own rule).
use Rattle.std.specs.Prelude.{ℕ, List, ◌++◌, map}
use Rattle.std.specs.List.{flat_map}
use Rattle.std.specs.String.{string_bytes}
use Rattle.lp_model.specs.CommandsView.{line_view, line_numbers}
use Rattle.lp_upf_words.specs.declared.reader.Reader.{Reader}
use Rattle.lp_upf_words.specs.Words.{Gathered}
use Rattle.lp_upf_words.specs.Reading.{State}

abbrev pub gathered_of : List (List ℕ) → Reader → Gathered
gathered_of names r = record { commands = map (line_view names) r.commands; ends = r.ends; words = line_view names r.words }

abbrev pub state_of : List (List ℕ) → Reader → State
state_of names r = record { mode = r.mode; said = string_bytes r.said; begun = r.begun; here = r.here; gathered = gathered_of names r }

-- the numbers of names in it
abbrev pub numbers_of : Reader → List ℕ
numbers_of r = flat_map line_numbers r.commands ++ line_numbers r.words
