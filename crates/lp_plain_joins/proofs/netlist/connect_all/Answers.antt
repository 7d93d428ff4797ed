use Rattle.std.proofs.Common.{◌≡◌, ℕ, true, length, map, ap, ◌∙◌}
use Rattle.std.specs.List.{flat_map}
use Rattle.std.proofs.lemmas.Result.{IfOk-weaker}
use Rattle.lp_text.specs.Texts.{Grown-KeepsNumbers, Grown-trans, place_of-Some}
use Rattle.lp_model.specs.Agreement.{numbers_below}
use Rattle.lp_model.specs.NetlistView.{module_view, module_numbers}
use Rattle.lp_model.specs.LibraryView.{cell_view, cell_numbers}
use Rattle.lp_spec_plain_module.specs.Netlists.{supply_port, powered}
use Rattle.lp_spec_plain_netlist.specs.Flats.{flat_of}
use Rattle.lp_plain_joins.specs.declared.joins.Supplies.{Supplies}
use Rattle.lp_plain_joins.specs.Joins.{joined_module}
use Rattle.lp_plain_joins.proofs.Below.{below-grown, joined-below}
use Rattle.lp_plain_joins.proofs.Views.{module_joined}
use Rattle.lp_plain_joins.proofs.netlist.connect_all.Goals as goal

pub returns-clause-supplied : goal.returns-clause-supplied
returns-clause-supplied c =
    let old = c.args.names.now in
    let between = c.supply_port.new.names in
    let new = c.supply_port-2.new.names in
    let supplies : Supplies = record { power = c.in_ok-supply_port.field-0; gnd = c.in_ok-supply_port-2.field-0 } in
    let power_at = (Grown-KeepsNumbers between new c.in_ok-supply_port-2.ensures.grown).1 (supply_port c.args.power.now) c.in_ok-supply_port.field-0.0 c.in_ok-supply_port.ensures.number in
    let made = module_joined old new (Grown-trans c.in_ok-supply_port.ensures.grown c.in_ok-supply_port-2.ensures.grown) c.count-count.ensures.distinct c.args.index.now supplies c.args.source c.args.power.now c.args.gnd.now c.requires.cells c.requires.source power_at c.in_ok-supply_port-2.ensures.number in
    IfOk-weaker c.joined_module.result (λ w. w ≡ joined_module c.args.index.now supplies c.args.source)
    (λ w. (margin : ℕ) → module_view new w ≡ powered (flat_of (map (cell_view old) c.args.index.now) (module_view old c.args.source) c.args.power.now c.args.gnd.now margin))
    (λ w e margin. ap (module_view new) e ∙ made margin) c.joined_module.ensures

pub returns-clause-numbers : goal.returns-clause-numbers
returns-clause-numbers c =
    let old = c.args.names.now in
    let between = c.supply_port.new.names in
    let new = c.supply_port-2.new.names in
    let supplies : Supplies = record { power = c.in_ok-supply_port.field-0; gnd = c.in_ok-supply_port-2.field-0 } in
    let grown = Grown-trans c.in_ok-supply_port.ensures.grown c.in_ok-supply_port-2.ensures.grown in
    let power_at = (Grown-KeepsNumbers between new c.in_ok-supply_port-2.ensures.grown).1 (supply_port c.args.power.now) c.in_ok-supply_port.field-0.0 c.in_ok-supply_port.ensures.number in
    let power = (place_of-Some (supply_port c.args.power.now) new c.in_ok-supply_port.field-0.0 power_at).0 in
    let gnd = (place_of-Some (supply_port c.args.gnd.now) new c.in_ok-supply_port-2.field-0.0 c.in_ok-supply_port-2.ensures.number).0 in
    let cells = below-grown old new grown (flat_map cell_numbers c.args.index.now) c.requires.cells in
    let source = below-grown old new grown (module_numbers c.args.source) c.requires.source in
    IfOk-weaker c.joined_module.result (λ w. w ≡ joined_module c.args.index.now supplies c.args.source) (λ w. numbers_below (length new) (module_numbers w) ≡ true)
    (λ w e. ap (λ x. numbers_below (length new) (module_numbers x)) e ∙ joined-below (length new) supplies power gnd c.args.index.now cells c.args.source source) c.joined_module.ensures
