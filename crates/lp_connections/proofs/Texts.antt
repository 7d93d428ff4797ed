-- The first fault of connections and assigns by the numbers of names is that by the texts.
use Rattle.std.proofs.Common.{◌≡◌, ℕ, true, List, [], ◌∷◌, length, map, Option, None, is_some, refl, sym, ap, ◌∙◌}
use Rattle.std.specs.List.{flat_map}
use Rattle.std.specs.Option.{option_map}
use Rattle.lp_text.specs.Texts.{distinct}
use Rattle.lp_model.specs.Agreement.{numbers_below}
use Rattle.lp_model.specs.declared.fault.netlist.NetlistFault.{NetlistFault}
use Rattle.lp_model.specs.declared.library.Cell.{Cell}
use Rattle.lp_model.specs.declared.library.Library.{Library}
use Rattle.lp_model.specs.declared.netlist.Module.{Module}
use Rattle.lp_model.specs.declared.netlist.Netlist.{Netlist}
use Rattle.lp_model.specs.NetlistView as nets
use Rattle.lp_model.specs.NetlistView.{InstanceView, ModuleView, AssignView, instance_view, module_view, assign_view}
use Rattle.lp_spec_design.specs.Graph.{numbered}
use Rattle.lp_spec_design.specs.Netlists.{Structure, first}
use Rattle.lp_spec_faults.specs.Modules as lines
use Rattle.lp_spec_faults.specs.Modules.{InstanceAt, reason_at}
use Rattle.lp_spec_faults.specs.Wires as wires
use Rattle.lp_spec_faults.specs.Wires.{ConnectionAt, Join, AtConnection, AtAssign, connections_of, connections_in, joins_in, is_unknown_pin, is_powered}
use Rattle.lp_targets.specs.Reports.{Report, report_of, or_else}
use Rattle.lp_targets.specs.Structures.{structure_of, AreNamed}
use Rattle.lp_targets.specs.Targets.{AreTargets}
use Rattle.lp_targets.specs.declared.target.Target.{Target}
use Rattle.lp_connections.specs.Parts.{Parts, parts_of}
use Rattle.lp_connections.specs.Numbered.{pin_fault, power_fault, width_fault, cell_fault, instance_fault, assign_fault, module_fault, line_fault, first_fault}
use Rattle.lp_connections.specs.Reports.{unknown_pin_report, powered_report, width_report, unfit_report, connections_report}
use Rattle.lp_connections.specs.declared.question.Question.TheVariants.{Pins, Powered, Widths, Cells}
use Rattle.lp_connections.proofs.Lists.{first-append, first-map, map_else, else_none}
use Rattle.lp_connections.proofs.Parallel.{RowFits, RowsFit, rows_fit, in_row, in_rows}
use Rattle.lp_connections.proofs.SamePins.{said, pins_same}
use Rattle.lp_connections.proofs.SamePowered.{told_power, power_same}
use Rattle.lp_connections.proofs.SameWidths.{told_width, width_same, assigns_same}
use Rattle.lp_connections.proofs.SameCells.{told_cell, cell_same}

map-flat : {A B : Type 0} (f : A → B) (xs : List A) → map f xs ≡ flat_map (λ x. f x ∷ []) xs
map-flat f [] = refl
map-flat f (x ∷ xs) = ap (λ r. f x ∷ r) (map-flat f xs)

module _ (texts : List (List ℕ)) (apart : distinct texts ≡ true) (n : Netlist) (l : Library) (are_named : AreNamed texts n l) where
  abbrev Below : List ℕ → Type 0
  Below ks = numbers_below (length texts) ks ≡ true

  abbrev s : Structure
  s = structure_of texts n l

  abbrev d : Parts
  d = parts_of n.modules l.cells

  abbrev say : NetlistFault → Report
  say = report_of texts

  -- a line that does not ask for assigns
  no-own : (o : Option NetlistFault) (r : Option Report) → r ≡ option_map say o → r ≡ option_map say (or_else o None)
  no-own o r e = e ∙ ap (option_map say) (sym (else_none o))

  pins-module : (row : List Target) (m : Module) → RowFits texts s row m.instances → Below (nets.module_numbers m) → option_map said (first (is_unknown_pin s) (connections_in (module_view texts m))) ≡ option_map say (module_fault Pins d row m)
  pins-module row m fits below =
      no-own (instance_fault Pins d m.name row m.instances) (option_map said (first (is_unknown_pin s) (connections_in (module_view texts m))))
      (in_row texts s (is_unknown_pin s) said (connections_of (module_view texts m)) (λ t x. pin_fault d m.name t x) say (λ t x is. pins_same texts apart n l are_named m x t is) row m.instances fits)

  power-module : (row : List Target) (m : Module) → RowFits texts s row m.instances → Below (nets.module_numbers m) → option_map told_power (first (is_powered s) (connections_in (module_view texts m))) ≡ option_map say (module_fault Powered d row m)
  power-module row m fits below =
      no-own (instance_fault Powered d m.name row m.instances) (option_map told_power (first (is_powered s) (connections_in (module_view texts m))))
      (in_row texts s (is_powered s) told_power (connections_of (module_view texts m)) (λ t x. power_fault d m.name t x) say (λ t x is. power_same texts apart n l are_named m x t is) row m.instances fits)

  width-module : (row : List Target) (m : Module) → RowFits texts s row m.instances → Below (nets.module_numbers m) → option_map (told_width s) (first (wires.is_uneven s) (joins_in (module_view texts m))) ≡ option_map say (module_fault Widths d row m)
  width-module row m fits below =
      let v = module_view texts m in
      let connections = map (λ c. AtConnection c) (connections_in v) in
      let assigns = map (λ a. AtAssign v a) (numbered 0 (map (assign_view texts) m.assigns)) in
      let here : option_map (told_width s) (first (wires.is_uneven s) connections) ≡ option_map say (instance_fault Widths d m.name row m.instances) =
      first-map (wires.is_uneven s) (told_width s) (λ c. AtConnection c) (connections_in v)
      ∙ in_row texts s (λ c. wires.is_uneven s (AtConnection c)) (λ c. told_width s (AtConnection c)) (connections_of v) (λ t x. width_fault d m.name t x) say (λ t x is. width_same texts apart n l are_named m x t is) row m.instances fits in
      ap (option_map (told_width s)) (first-append (wires.is_uneven s) connections assigns)
      ∙ map_else (told_width s) (first (wires.is_uneven s) connections) (first (wires.is_uneven s) assigns)
      ∙ (λ i. or_else (here i) (assigns_same texts apart n l are_named m i))
      ∙ sym (map_else say (instance_fault Widths d m.name row m.instances) (assign_fault m.name m.assigns))

  cell-module : (row : List Target) (m : Module) → RowFits texts s row m.instances → Below (nets.module_numbers m) → option_map (told_cell s) (first (λ (y : InstanceAt). is_some (reason_at s y)) (lines.instances_of (module_view texts m))) ≡ option_map say (module_fault Cells d row m)
  cell-module row m fits below =
      let v = module_view texts m in
      no-own (instance_fault Cells d m.name row m.instances) (option_map (told_cell s) (first (λ (y : InstanceAt). is_some (reason_at s y)) (lines.instances_of v)))
      (ap (λ xs. option_map (told_cell s) (first (λ (y : InstanceAt). is_some (reason_at s y)) xs)) (map-flat (λ (i : InstanceView). record { parent = v; instance = i }) v.instances)
      ∙ in_row texts s (λ (y : InstanceAt). is_some (reason_at s y)) (told_cell s) (λ (i : InstanceView). record { parent = v; instance = i } ∷ []) (λ t x. cell_fault d m.name t x) say (λ t x is. cell_same texts apart n l are_named m x t is) row m.instances fits)

  module _ (rows : List (List Target)) (targets : AreTargets s rows) where
    fit : RowsFit texts s rows n.modules
    fit = rows_fit texts s rows n.modules targets.modules targets.cells are_named.netlist

    pins-line : unknown_pin_report s ≡ option_map say (line_fault Pins d rows n.modules)
    pins-line = in_rows texts s (is_unknown_pin s) said connections_in (λ row m. module_fault Pins d row m) say pins-module rows n.modules fit

    power-line : powered_report s ≡ option_map say (line_fault Powered d rows n.modules)
    power-line = in_rows texts s (is_powered s) told_power connections_in (λ row m. module_fault Powered d row m) say power-module rows n.modules fit

    width-line : width_report s ≡ option_map say (line_fault Widths d rows n.modules)
    width-line = in_rows texts s (wires.is_uneven s) (told_width s) joins_in (λ row m. module_fault Widths d row m) say width-module rows n.modules fit

    cell-line : unfit_report s ≡ option_map say (line_fault Cells d rows n.modules)
    cell-line = in_rows texts s (λ (y : InstanceAt). is_some (reason_at s y)) (told_cell s) lines.instances_of (λ row m. module_fault Cells d row m) say cell-module rows n.modules fit

    pub report_same : connections_report s ≡ option_map say (first_fault d rows)
    report_same =
        let pins = line_fault Pins d rows n.modules in
        let powered = line_fault Powered d rows n.modules in
        let widths = line_fault Widths d rows n.modules in
        let cells = line_fault Cells d rows n.modules in
        (λ i. or_else (pins-line i) (or_else (power-line i) (or_else (width-line i) (cell-line i))))
        ∙ sym (map_else say pins (or_else powered (or_else widths cells))
        ∙ ap (or_else (option_map say pins)) (map_else say powered (or_else widths cells)
        ∙ ap (or_else (option_map say powered)) (map_else say widths cells)))

  -- what the call finds, over the lists that it makes
  pub answered : (ms : List Module) (cs : List Cell) → ms ≡ n.modules → cs ≡ l.cells → (rows : List (List Target)) → AreTargets s rows → (r : Option NetlistFault) → r ≡ first_fault (parts_of ms cs) rows → connections_report s ≡ option_map say r
  answered ms cs is_ms is_cs rows targets r e =
      report_same rows targets ∙ sym (ap (option_map say) (e ∙ (λ i. first_fault (parts_of (is_ms i) (is_cs i)) rows)))
