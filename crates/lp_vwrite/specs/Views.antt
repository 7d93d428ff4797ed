-- How parts of modules are seen by the texts of their names.
use Rattle.std.specs.Prelude.{ℕ, List, map, Option, option_map}
use Rattle.lp_text.specs.Texts.{text_at}
use Rattle.lp_text.specs.declared.names.NameId.{NameId}
use Rattle.lp_model.specs.declared.bits.Bit.{Bit}
use Rattle.lp_model.specs.declared.netlist.Connection.{Connection}
use Rattle.lp_model.specs.NetlistView.{BitView, ConnectionView, bits_view, connection_view}

-- the text of a name, if there is one
abbrev pub name_at : List (List ℕ) → Option NameId → Option (List ℕ)
name_at names name = option_map (λ n. text_at names n.0) name

abbrev pub named_view : List (List ℕ) → List Connection → List ConnectionView
named_view names connections = map (connection_view names) connections

abbrev pub ordered_view : List (List ℕ) → List (List Bit) → List (List BitView)
ordered_view names values = map (bits_view names) values
