-- The cell that stands for a clamp or a level shifter, with its pins and its supplies.
use Rattle.std.proofs.Common.{◌≡◌, ℕ, Bool, true, List, Some, inl, inr, refl, sym, ap, ◌∙◌, subst}
use Rattle.std.specs.Prelude.{filter, slice_get}
use Rattle.lp_model.specs.NetlistView.{ModuleView}
use Rattle.lp_model.specs.LibraryView.{PinView, CellView}
use Rattle.lp_spec_design.specs.Netlists.{Structure}
use Rattle.lp_spec_design.specs.Instances.{Placed}
use Rattle.lp_spec_design.specs.Intents.{SetNumber}
use Rattle.lp_spec_design.specs.Chains.{Clamp, Shift}
use Rattle.lp_spec_design.specs.Winners.{IsIn}
use Rattle.lp_spec_design.proofs.Members.{of-filter}
use Rattle.lp_spec_pins.specs.Pins.{Powered, only}
use Rattle.lp_spec_pins.specs.Supplied.{is_supplied}
use Rattle.lp_spec_fit.specs.Joins.{clamp_joins, shifter_joins}
use Rattle.lp_spec_realises.specs.Projects.{Project, functions_of}
use Rattle.lp_spec_realises.specs.ProjectNetlists.{netlist_of}
use Rattle.lp_spec_realises.specs.Operators.{OperatorAt, all_operators, Placement, placed_operator}
use Rattle.lp_spec_realises.specs.Ends.{AtPin, output_end}
use Rattle.lp_spec_realises.specs.Surroundings.{powered_of}
use Rattle.lp_spec_realises.specs.Realises.{cell_of, primary_at, operator_fits, clamp_joins_of, shifter_joins_of, joins_of_operator, Realises}
use Rattle.lp_spec_cells.specs.Joined.{IsJoinedBy}
use Rattle.lp_spec_agreement.specs.Faultless.{IsSoundCell, IsFaultless}
use Rattle.lp_spec_agreement.proofs.Decided.{cell_sound}
use Rattle.lp_spec_agreement.proofs.Framed.{operator_stands_at}
use Rattle.lp_spec_agreement.proofs.KnownEnds.{ClampPins, clamp_pins, ShifterPins, shifter_pins}
use Rattle.lp_spec_agreement.proofs.Placed.{passed_cell, output_is}
use Rattle.lp_spec_agreement.proofs.Reading.{comes, joined}
use Rattle.lp_spec_agreement.proofs.Supplied.{only_is, IsJoinedAt, operator_joins_at}

-- the pin that is the only one of a purpose is a pin of it
pub only_in : (t : PinView → Bool) (xs : List PinView) (q : PinView) → only (filter t xs) ≡ Some q → IsIn q xs × (t q ≡ true)
only_in t xs q e = of-filter t q xs (subst (λ ys. IsIn q ys) (sym (only_is (filter t xs) q e)) (inl refl))

module _ (p : Project) (good : IsFaultless p) (modules : List ModuleView) (real : Realises p modules) (supplied : is_supplied (powered_of p modules real.placement) ≡ true) where
  abbrev place : Placement
  place = real.placement

  abbrev W : Structure
  W = netlist_of p modules

  abbrev w : Powered
  w = powered_of p modules real.placement

  pub record ClampCell (o : OperatorAt) (t : ℕ) (i : SetNumber) : Type 0 where
    pub cell : CellView
    pub is_cell : cell_of (netlist_of p modules) (placed_operator real.placement o) ≡ Some cell
    pub pins : ClampPins (functions_of p (Some i)) (primary_at p (placed_operator real.placement o).path) (slice_get p.intent.strategies t) cell
    pub joins : IsJoinedBy (powered_of p modules real.placement) (placed_operator real.placement o).path (placed_operator real.placement o).instance cell (comes p good modules real) (clamp_joins pins.supply pins.home cell)
    pub sound : IsSoundCell cell
    pub out : output_end (netlist_of p modules) (placed_operator real.placement o) ≡ AtPin (placed_operator real.placement o).path (placed_operator real.placement o).instance pins.y.name

  pub record ShiftCell (o : OperatorAt) (a b : SetNumber) : Type 0 where
    pub cell : CellView
    pub is_cell : cell_of (netlist_of p modules) (placed_operator real.placement o) ≡ Some cell
    pub pins : ShifterPins p (functions_of p (Some a)) (functions_of p (Some b)) cell
    pub joins : IsJoinedBy (powered_of p modules real.placement) (placed_operator real.placement o).path (placed_operator real.placement o).instance cell (comes p good modules real) (shifter_joins pins.input pins.output pins.d pins.y)
    pub sound : IsSoundCell cell
    pub out : output_end (netlist_of p modules) (placed_operator real.placement o) ≡ AtPin (placed_operator real.placement o).path (placed_operator real.placement o).instance pins.y.name

  module _ (o : OperatorAt) (h : IsIn o (all_operators p)) where
    abbrev here : Placed
    here = placed_operator real.placement o

    abbrev Stood : Type 0
    Stood = (c : CellView) × (cell_of (netlist_of p modules) (placed_operator real.placement o) ≡ Some c) × (operator_fits p (placed_operator real.placement o).path o.operator c ≡ true)

    stood : Stood
    stood = passed_cell (operator_fits p here.path o.operator) (cell_of W here) (operator_stands_at p good modules real o h)

    clamp_by : (t : ℕ) (i : SetNumber) → o.operator ≡ Clamp t i → (c : CellView) (e : cell_of W here ≡ Some c) (pins : ClampPins (functions_of p (Some i)) (primary_at p here.path) (slice_get p.intent.strategies t) c) (at : IsJoinedAt p good modules real here c (joins_of_operator p here.path o.operator)) → ClampCell o t i
    clamp_by t i op c e pins at =
        let found : joins_of_operator p here.path o.operator c ≡ Some (clamp_joins pins.supply pins.home c) = ap (λ z. joins_of_operator p here.path z c) op ∙ (λ r. clamp_joins_of (pins.is_supply r) (pins.is_home r) c) in
        let some : Some at.join ≡ Some (clamp_joins pins.supply pins.home c) = sym at.is_join ∙ found in
        let same : at.join ≡ clamp_joins pins.supply pins.home c = cc in
        record {
          cell = c;
          is_cell = e;
          pins = pins;
          joins = subst (λ j. IsJoinedBy w here.path here.instance c (comes p good modules real) j) same (joined p good modules real supplied here c e (joins_of_operator p here.path o.operator) at);
          sound = cell_sound p good modules real here c e (inr (inl (o, h, refl)));
          out = output_is W here c pins.y e pins.is_y;
        }

    shift_by : (t : ℕ) (a b : SetNumber) → o.operator ≡ Shift t a b → (c : CellView) (e : cell_of W here ≡ Some c) (pins : ShifterPins p (functions_of p (Some a)) (functions_of p (Some b)) c) (at : IsJoinedAt p good modules real here c (joins_of_operator p here.path o.operator)) → ShiftCell o a b
    shift_by t a b op c e pins at =
        let found : joins_of_operator p here.path o.operator c ≡ Some (shifter_joins pins.input pins.output pins.d pins.y) = ap (λ z. joins_of_operator p here.path z c) op ∙ (λ r. shifter_joins_of (pins.is_input r) (pins.is_output r) (pins.is_d r) (pins.is_y r)) in
        let some : Some at.join ≡ Some (shifter_joins pins.input pins.output pins.d pins.y) = sym at.is_join ∙ found in
        let same : at.join ≡ shifter_joins pins.input pins.output pins.d pins.y = cc in
        record {
          cell = c;
          is_cell = e;
          pins = pins;
          joins = subst (λ j. IsJoinedBy w here.path here.instance c (comes p good modules real) j) same (joined p good modules real supplied here c e (joins_of_operator p here.path o.operator) at);
          sound = cell_sound p good modules real here c e (inr (inl (o, h, refl)));
          out = output_is W here c pins.y e pins.is_y;
        }

    pub clamp_cell : (t : ℕ) (i : SetNumber) → o.operator ≡ Clamp t i → ClampCell o t i
    clamp_cell t i op =
        let fits : operator_fits p here.path (Clamp t i) stood.0 ≡ true = ap (λ z. operator_fits p here.path z stood.0) (sym op) ∙ stood.2 in
        clamp_by t i op stood.0 stood.1 (clamp_pins (functions_of p (Some i)) (primary_at p here.path) (slice_get p.intent.strategies t) stood.0 fits) (operator_joins_at p good modules real o h stood.0 stood.1)

    pub shift_cell : (t : ℕ) (a b : SetNumber) → o.operator ≡ Shift t a b → ShiftCell o a b
    shift_cell t a b op =
        let fits : operator_fits p here.path (Shift t a b) stood.0 ≡ true = ap (λ z. operator_fits p here.path z stood.0) (sym op) ∙ stood.2 in
        shift_by t a b op stood.0 stood.1 (shifter_pins p (functions_of p (Some a)) (functions_of p (Some b)) stood.0 fits) (operator_joins_at p good modules real o h stood.0 stood.1)
