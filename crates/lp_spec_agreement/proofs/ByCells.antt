-- Where each cell does at its pins what the intent says, the runs of a project without faults and of a netlist that realises it agree.
use Rattle.std.proofs.Common.{◌≡◌, ◌∙◌, ℕ, Bool, List, Some}
use Rattle.std.specs.Prelude.{slice_get}
use Rattle.lp_model.specs.NetlistView.{ModuleView}
use Rattle.lp_spec_design.specs.Keys.{Node}
use Rattle.lp_spec_design.specs.Intents.{FromSwitch}
use Rattle.lp_spec_realises.specs.Projects.{Project, network_of}
use Rattle.lp_spec_realises.specs.ProjectNetlists.{netlist_of}
use Rattle.lp_spec_realises.specs.Operators.{SwitchAt}
use Rattle.lp_spec_realises.specs.Realises.{Realises}
use Rattle.lp_spec_agreement.specs.Cells.{CellsAgree, AllAgree}
use Rattle.lp_spec_agreement.specs.Faultless.{IsFaultless}
use Rattle.lp_spec_agreement.specs.Laws.{AgreesByCells}
use Rattle.lp_spec_agreement.proofs.Bits.{bit_begins}
use Rattle.lp_spec_agreement.proofs.Decided.{cells_decided}
use Rattle.lp_spec_agreement.proofs.Frame.{ComesIn, Frame}
use Rattle.lp_spec_agreement.proofs.Framed.{source_fuel, drives, fuel, no_origin, port_origin, port_state, operator_stands_at, operator_there, source_there, switch_there}
use Rattle.lp_spec_agreement.proofs.Placed.{switch_in, operator_output}
use Rattle.lp_spec_agreement.proofs.Roles.{switches_feed, no_other_register}
use Rattle.lp_spec_agreement.proofs.Runs.{runs_agree}
use Rattle.lp_spec_agreement.proofs.Supplied.{switch_cell, switch_end, switch_origin_end}
use Rattle.lp_spec_agreement.proofs.Tops.{tops}

module _ (p : Project) (good : IsFaultless p) (modules : List ModuleView) (real : Realises p modules) where
  comes_in : (o i : ℕ) (c : Node) (high : Bool) → slice_get (network_of p).origins o ≡ Some (FromSwitch i c high) → ComesIn p modules real.placement o
  comes_in o i c high e =
      let x : SwitchAt = record { origin = o; input = i; control = c; high = high } in
      let h = switch_in p o i c high e in
      let end = switch_end p good modules real x h in
      record { pin = (switch_cell p good modules real x h).pin.pg.name; origin = switch_origin_end p good modules real o i c high e ∙ end; switched = end }

  pub frame : Frame p modules real.placement
  frame = record {
    source_fuel = source_fuel p good;
    fuel = fuel p good modules real;
    bits = λ k j way b e is. bit_begins p.structure p.intent good.names_apart k j way b e is;
    drives = drives p good;
    tops = tops p good modules real;
    no_origin = no_origin p good modules real;
    port_origin = port_origin p good modules real;
    port_state = port_state p good modules real;
    switch_origin = comes_in;
    operator_out = λ o h. let out = operator_output p (netlist_of p modules) real.placement o (operator_stands_at p good modules real o h) in (out.1.name, out.4);
    operator_there = operator_there p good modules real;
    source_there = source_there p good modules real;
    switch_there = switch_there p good modules real;
  }

  pub all_agree : CellsAgree p modules real.placement → AllAgree p modules real.placement
  all_agree cells = record {
    sources = cells.sources;
    operators = cells.operators;
    switches_feed = switches_feed p good modules real;
    switches = cells.switches;
    decided = cells_decided p good modules real;
    outputs = cells.outputs;
    no_other_register = no_other_register p good modules real;
    registers = cells.registers;
  }

pub agrees_by_cells : AgreesByCells
agrees_by_cells p good modules real cells events within at_pins same states by_pins begin =
    runs_agree p modules real.placement (frame p good modules real) (all_agree p good modules real cells) good.order events within at_pins same states by_pins begin
