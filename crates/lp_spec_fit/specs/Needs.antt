-- What the cell of a clamp, a shifter, a register or a switch has to be, by the texts of names (IEEE 1801-2015 set_isolation, set_level_shifter, set_retention, create_power_switch and the commands that list cells).
use Rattle.std.specs.Prelude.{ℕ, Bool, List, Option}
use Rattle.std.specs.Option.{option_map}
use Rattle.lp_text.specs.declared.names.NameId.{NameId}
use Rattle.lp_model.specs.Agreement.{name_texts}
use Rattle.lp_model.specs.declared.library.Action.{Action}
use Rattle.lp_model.specs.declared.library.Cell.{Cell}
use Rattle.lp_model.specs.declared.need.IsoNeed.{IsoNeed}
use Rattle.lp_model.specs.declared.need.ShiftNeed.{ShiftNeed}
use Rattle.lp_model.specs.declared.need.RetNeed.{RetNeed}
use Rattle.lp_model.specs.declared.need.SwitchNeed.{SwitchNeed}
use Rattle.lp_model.specs.declared.need.VoltagePair.{VoltagePair}
use Rattle.lp_model.specs.declared.supply.SetOrigins.{SetOrigins}
use Rattle.lp_model.specs.LibraryView.{ExprView, CellView, expr_view, cell_view}
use Rattle.lp_spec_design.specs.Keys.{Name}

-- the names of the cells that may be taken, none where each may be
abbrev pub Mapped : Type 0
Mapped = Option (List Name)

-- a clamp: its supply, and the primary supply of the domain in which it stands
pub record ClampNeed : Type 0 where
  pub supply : SetOrigins
  pub place : SetOrigins
  pub clamp : Bool
  pub high : Bool
  pub mapped : Mapped

-- a shifter: the voltages that its two supplies may have together, and up to which difference a reader takes the value of a lower driver
pub record ShifterNeed : Type 0 where
  pub input : SetOrigins
  pub output : SetOrigins
  pub pairs : List VoltagePair
  pub margin : ℕ
  pub mapped : Mapped

-- a retention register in the place of a cell
pub record RegisterNeed : Type 0 where
  pub source : CellView
  pub primary : SetOrigins
  pub retention : SetOrigins
  pub save : Action
  pub restore : Action
  pub one_signal : Bool
  pub mapped : Mapped

-- a switch that is on where a function of its control is 1
pub record SwitchCellNeed : Type 0 where
  pub on : ExprView
  pub mapped : Mapped

-- ---- needs as they are kept, by the texts of their names

abbrev pub mapped_view : List (List ℕ) → Option (List NameId) → Mapped
mapped_view texts list = option_map (name_texts texts) list

abbrev pub clamp_need : List (List ℕ) → IsoNeed → ClampNeed
clamp_need texts n = record { supply = n.supply; place = n.place; clamp = n.clamp; high = n.high; mapped = mapped_view texts n.list }

abbrev pub shifter_need : List (List ℕ) → ShiftNeed → ShifterNeed
shifter_need texts n = record { input = n.input; output = n.output; pairs = n.pairs; margin = n.margin; mapped = mapped_view texts n.list }

-- the source cell is the one of the library at the place that the need gives
abbrev pub register_need : List (List ℕ) → Cell → RetNeed → RegisterNeed
register_need texts source n = record {
  source = cell_view texts source;
  primary = n.primary;
  retention = n.retention;
  save = n.save;
  restore = n.restore;
  one_signal = n.one_signal;
  mapped = mapped_view texts n.list;
}

abbrev pub switch_need : List (List ℕ) → SwitchNeed → SwitchCellNeed
switch_need texts n = record { on = expr_view texts n.on; mapped = mapped_view texts n.list }
