-- What readers and the resolver of power intent give of names, so that what is written can be read again (IEEE 1364-2005, identifiers and escaped identifiers; Liberty cell, pin, pg_pin; IEEE 1801-2015 create_supply_port).
use Rattle.std.specs.Prelude.{◌≡◌, ◌≤◌, ℕ, Bool, true, ◌&&◌, List, ◌∷◌, flat_map, length, Some, None, slice_get}
use Rattle.std.specs.List.{list_all}
use Rattle.lp_text.specs.Texts.{has_text, distinct}
use Rattle.lp_text.specs.Limits.{most_names_before}
use Rattle.lp_model.specs.LibraryView.{CellView}
use Rattle.lp_verilog_tokens.specs.Lexical.{is_visible}
use Rattle.lp_vwrite.specs.WellFormed.{is_name, module_texts}
use Rattle.lp_vwrite.specs.Sound.{is_read}
use Rattle.lp_spec_design.specs.Keys.{Name}
use Rattle.lp_spec_design.specs.Intents.{FromPort}
use Rattle.lp_spec_design.specs.Winners.{IsIn}
use Rattle.lp_spec_realises.specs.Projects.{Project, network_of}
use Rattle.lp_spec_written_at.specs.Sources.{origin_name, cell_names}

-- a cell and its pins, power and ground pins among them, have names that a netlist can have
abbrev pub has_legal_names : CellView → Bool
has_legal_names c = is_name c.name && list_all is_name (cell_names c)

-- supply ports are named in visible ASCII
abbrev pub HasVisibleOrigins : Project → Type 0
HasVisibleOrigins p = (o : ℕ) → slice_get (network_of p).origins o ≡ Some FromPort → list_all is_visible (origin_name p o) ≡ true

-- the modules are as those of a text that is read, cells that can be used have legal names, and supply ports visible ones
pub record IsLegal (p : Project) : Type 0 where
  pub netlist : is_read p.structure.modules ≡ true
  pub cells : (c : CellView) → IsIn c p.structure.cells → c.unusable ≡ None → has_legal_names c ≡ true
  pub origins : HasVisibleOrigins p

-- distinct texts, few enough that what an insertion adds has room behind them, among which are the names of the source, of
-- the cells that can be used and of their pins
pub record HasNamesBefore (p : Project) : Type 0 where
  pub names : List Name
  pub apart : distinct names ≡ true
  pub few : length names ≤ most_names_before
  pub source : list_all (λ n. has_text n names) (flat_map module_texts p.structure.modules) ≡ true
  pub cells : (c : CellView) → IsIn c p.structure.cells → c.unusable ≡ None → list_all (λ n. has_text n names) (c.name ∷ cell_names c) ≡ true
