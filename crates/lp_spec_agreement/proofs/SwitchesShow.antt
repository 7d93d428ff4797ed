-- Switches give in the netlist what the source gives, and the top's outputs show the same.
use Rattle.std.proofs.Common.{◌≡◌, ℕ, Bool, true, not, ◌&&◌, List, [], ◌∷◌, map, Option, Some, None, refl, sym, ap, ◌∙◌, subst}
use Rattle.std.specs.Prelude.{codes, filter, flat_map}
use Rattle.std.specs.List.{list_all}
use Rattle.std.proofs.lemmas.Bool.{and_parts}
use Rattle.lp_tern.specs.declared.supply.SupplyState.TheVariants.{Off}
use Rattle.lp_tern.specs.Values.{choose_supply_of}
use Rattle.lp_model.specs.NetlistView.{PortView, ModuleView}
use Rattle.lp_model.specs.LibraryView.{PinView}
use Rattle.lp_spec_design.specs.Keys.{Name, Node, Outer}
use Rattle.lp_spec_design.specs.Netlists.{Structure, module_at, indices, is_input}
use Rattle.lp_spec_design.specs.Instances.{cell_instances}
use Rattle.lp_spec_design.specs.Nodes.{fuel_of}
use Rattle.lp_spec_design.specs.Graph.{Reader, TopOutput, top_outputs}
use Rattle.lp_spec_design.specs.Runs.{output_bits}
use Rattle.lp_spec_design.specs.Winners.{IsIn}
use Rattle.lp_spec_design.specs.Settled.{state_of, sensed, rail_of}
use Rattle.lp_spec_design.proofs.Members.{in-map, in-flat, of-flat}
use Rattle.lp_spec_pins.specs.Pins.{Powered, Pair, is_input_pin, switch_equation, state_pair}
use Rattle.lp_spec_pins.specs.Supplied.{is_supplied}
use Rattle.lp_spec_fit.specs.Joins.{switch_joins}
use Rattle.lp_spec_fit.specs.Fits.{is_switch_pin}
use Rattle.lp_spec_realises.specs.Projects.{Project, design_of, on_expression}
use Rattle.lp_spec_realises.specs.ProjectNetlists.{netlist_of}
use Rattle.lp_spec_realises.specs.Operators.{Placement, placed_switch}
use Rattle.lp_spec_realises.specs.Tops.{index_across}
use Rattle.lp_spec_realises.specs.Ends.{wire_end, intended}
use Rattle.lp_spec_realises.specs.Surroundings.{powered_of}
use Rattle.lp_spec_realises.specs.Realises.{primary_at, inputs_begin, output_begins, joins_of_switch, Realises}
use Rattle.lp_spec_cells.specs.Joined.{IsJoinedBy}
use Rattle.lp_spec_cells.proofs.Switches.{switch-gives}
use Rattle.lp_spec_cells.proofs.RelatedPins.{switch-pin-relates}
use Rattle.lp_spec_voltages.specs.Voltages.{power_state, IsNeverUnder}
use Rattle.lp_spec_voltages.proofs.Controls.{switch-not_under}
use Rattle.lp_spec_voltages.proofs.Readers.{output-not_under, output-shown}
use Rattle.lp_spec_voltages.proofs.Pairs.{top-powers}
use Rattle.lp_spec_agreement.specs.Cells.{state_there, SwitchesAgree, OutputsAgree}
use Rattle.lp_spec_agreement.specs.Faultless.{IsFaultless}
use Rattle.lp_spec_agreement.proofs.Apart.{all_in}
use Rattle.lp_spec_agreement.proofs.ByCells.{frame}
use Rattle.lp_spec_agreement.proofs.Driven.{at_node}
use Rattle.lp_spec_agreement.proofs.Framed.{pin_found}
use Rattle.lp_spec_agreement.proofs.Joined.{end-true}
use Rattle.lp_spec_agreement.proofs.OperatorCells.{only_in}
use Rattle.lp_spec_agreement.proofs.PinEnds.{switch_control_end}
use Rattle.lp_spec_agreement.proofs.PinsDriven.{ends_driven, read_at, pin_reads}
use Rattle.lp_spec_agreement.proofs.Reading.{comes, joined, fed_within}
use Rattle.lp_spec_agreement.proofs.Supplied.{switch_joins_at, join_of_switch, switch_cell, switch_end, node_state}

-- ---- bits of top outputs

made-of : {T U : Type 0} (f : T → U) (b : T) (bits : PortView → List T) (ports : List PortView) → IsIn b (flat_map bits ports) → IsIn (f b) (flat_map (λ port. map f (bits port)) ports)
made-of f b bits ports among =
    let found = of-flat bits b ports among in
    in-flat (λ port. map f (bits port)) found.0 (f b) ports found.1 (in-map f b (bits found.0) found.2)

abbrev read_of : Name × Option ℕ → Reader × Node
read_of b = (TopOutput b.0 b.1, Outer b.0 b.1)

bits-made : (port : PortView) → map read_of (map (λ (i : Option ℕ). (port.name, i)) (indices port.range)) ≡ map (λ (i : Option ℕ). (TopOutput port.name i, Outer port.name i)) (indices port.range)
bits-made port = twice (indices port.range)
  where
    twice : (xs : List (Option ℕ)) → map read_of (map (λ (i : Option ℕ). (port.name, i)) xs) ≡ map (λ (i : Option ℕ). (TopOutput port.name i, Outer port.name i)) xs
    twice [] = refl
    twice (x ∷ xs) = ap (λ ys. (TopOutput port.name x, Outer port.name x) ∷ ys) (twice xs)

output-in : (s : Structure) (b : Name × Option ℕ) → IsIn b (output_bits s) → IsIn (read_of b) (top_outputs s)
output-in s b among = by (module_at s []) refl
  where
    by : (found : Option ModuleView) → module_at s [] ≡ found → IsIn (read_of b) (top_outputs s)
    by None is = absurd (rw is at among)
    by (Some m) is = rw is (in-ports m (rw is at among))
      where
        in-ports : (m : ModuleView) → IsIn b (flat_map (λ (port : PortView). map (λ (i : Option ℕ). (port.name, i)) (indices port.range)) (filter (λ (port : PortView). not (is_input port)) m.ports))
            → IsIn (read_of b) (flat_map (λ (port : PortView). map (λ (i : Option ℕ). (TopOutput port.name i, Outer port.name i)) (indices port.range)) (filter (λ (port : PortView). not (is_input port)) m.ports))
        in-ports m here =
            let found = of-flat (λ (port : PortView). map (λ (i : Option ℕ). (port.name, i)) (indices port.range)) b (filter (λ (port : PortView). not (is_input port)) m.ports) here in
            in-flat (λ (port : PortView). map (λ (i : Option ℕ). (TopOutput port.name i, Outer port.name i)) (indices port.range)) found.0 (read_of b) (filter (λ (port : PortView). not (is_input port)) m.ports) found.1
            (subst (IsIn (read_of b)) (bits-made found.0) (in-map read_of b (map (λ (i : Option ℕ). (found.0.name, i)) (indices found.0.range)) found.2))

no_commands : ℕ → ℕ
no_commands k = 0

module _ (p : Project) (good : IsFaultless p) (modules : List ModuleView) (real : Realises p modules) (supplied : is_supplied (powered_of p modules real.placement) ≡ true) where
  abbrev place : Placement
  place = real.placement

  abbrev W : Structure
  W = netlist_of p modules

  abbrev w : Powered
  w = powered_of p modules real.placement

  -- ---- switches

  pub switches_agree : SwitchesAgree p modules real.placement
  switches_agree ev regs A B m x h =
      let s = switch_cell p good modules real x h in
      let a = placed_switch place x in
      let at_join = switch_joins_at p good modules real x h s.cell s.is_cell in
      let join = join_of_switch p good modules real x s.cell s.view s.one (primary_at p []) refl at_join.join at_join.is_join in
      let joins : IsJoinedBy w a.path a.instance s.cell (comes p good modules real) (switch_joins x.input x.origin join.0 s.view.passes) = subst (λ j. IsJoinedBy w a.path a.instance s.cell (comes p good modules real) j) join.1 (joined p good modules real supplied a s.cell s.is_cell (joins_of_switch p x) at_join) in
      let end = switch_control_end p good modules real x h s.cell s.is_cell in
      let pin = only_in (λ (q : PinView). is_input_pin q && is_switch_pin q) s.cell.pins end.pin end.is_pin in
      let input = (and_parts (is_input_pin end.pin) (is_switch_pin end.pin) pin.1).0 in
      let some : Some x.control ≡ Some end.node = end.is_node in
      let node : end.node ≡ x.control = cc in
      let never = switch-not_under p ev A (fed_within p good modules real ev A B m) good.states no_commands (good.control_levels no_commands) x h in
      let power = ap (λ (z : Pair). z.power) (switch-pin-relates (record { on = on_expression x.high; mapped = None }) s.cell s.fits s.sound.sound end.pin s.view end.is_pin s.one w B a.path a.instance (comes p good modules real) (state_of A) x.input x.origin join.0 joins m.alike.origins) in
      let reads = pin_reads p good modules real supplied ev A B m a.path a.instance s.cell end.pin.name end.pin (pin_found s.cell s.sound end.pin pin.0) input (intended p W place x.control) (end.end ∙ ap (intended p W place) node) (rail_of (design_of p) x.control)
      (at_node p good modules place (frame p good modules real) B A (ends_driven p good modules real supplied ev A B m) x.control)
      (subst (λ t. IsNeverUnder p.margin (power_state p A (rail_of (design_of p) x.control)) t) (sym power) never) in
      ap (state_there p modules place ev regs B) (switch_end p good modules real x h)
      ∙ (ap (switch_equation w B regs a.path a.instance s.pin.pg.name) s.is_cell
      ∙ (switch-gives (codes "c") x.high None s.cell s.fits s.sound.sound end.pin s.view s.pin.pg end.is_pin s.one s.pin.found w B a.path a.instance (comes p good modules real) (state_of A) x.input x.origin join.0 joins m.alike.origins regs
      ∙ ap (λ v. choose_supply_of (sensed x.high v) (state_of A x.input) Off) (reads ∙ m.alike.nodes x.control)))

  -- ---- outputs

  abbrev inputs_right : Bool
  inputs_right = list_all (inputs_begin p W place (fuel_of W)) (cell_instances p.structure)

  abbrev outputs_right : Bool
  outputs_right = list_all (output_begins p W place (fuel_of W)) (top_outputs p.structure)

  output_end_is : (b : Name × Option ℕ) → IsIn b (output_bits p.structure) → wire_end W (fuel_of W) (Outer b.0 (index_across p.structure W b.0 b.1)) ≡ intended p W place (Outer b.0 b.1)
  output_end_is b h =
      end-true (wire_end W (fuel_of W) (Outer b.0 (index_across p.structure W b.0 b.1))) (intended p W place (Outer b.0 b.1))
      (all_in (output_begins p W place (fuel_of W)) (read_of b) (top_outputs p.structure) (and_parts outputs_right _ (and_parts inputs_right _ real.wires).1).0 (output-in p.structure b h))

  pub outputs_agree : OutputsAgree p modules real.placement
  outputs_agree ev regs A B agree b h =
      let m = agree.meet in
      let fed = fed_within p good modules real ev A B m in
      let never = output-not_under p ev A fed good.states good.levels b h in
      let power = (top-powers p modules place A B (node_state p good modules real A B m.alike.origins) b.0).1 in
      output-shown p ev A fed good.states good.levels b h
      ∙ sym (read_at p good modules real supplied ev A B m (Outer b.0 (index_across p.structure W b.0 b.1)) (intended p W place (Outer b.0 b.1)) (output_end_is b h) (rail_of (design_of p) (Outer b.0 b.1))
      (at_node p good modules place (frame p good modules real) B A (ends_driven p good modules real supplied ev A B m) (Outer b.0 b.1))
      (state_pair w B (w.around.receiver b.0)) (subst (λ t. IsNeverUnder p.margin (power_state p A (rail_of (design_of p) (Outer b.0 b.1))) t) (sym power) never)
      ∙ m.alike.nodes (Outer b.0 b.1))
