use Rattle.std.proofs.Common.{◌≡◌, ℕ, Bool, List, map, Option, sym, ap, ◌∙◌}
use Rattle.std.specs.Prelude.{option_map}
use Rattle.lp_model.specs.declared.netlist.Module.{Module}
use Rattle.lp_spec_bridge.specs.Keyed.{keys_of, node_at}
use Rattle.lp_spec_layout.specs.Parts.{Template}
use Rattle.lp_targets.specs.Structures.{structure_of}
use Rattle.lp_drivers.specs.Cells.{pins_driving}
use Rattle.lp_drivers.specs.Table.{seen_in, first_by}
use Rattle.lp_drivers.proofs.TwoDrivers.{first-is}
use Rattle.lp_drivers.proofs.first.first_twice.Goals as goal

-- what is found by equal lists
found-is : (found : Option ℕ) (cells known : List (List Bool)) (ms same : List Module) (templates : List Template) (order keys : List ℕ) (top : ℕ) → found ≡ first_by (seen_in cells ms templates) ms templates order top → cells ≡ known → ms ≡ same → order ≡ keys
    → found ≡ first_by (seen_in known same templates) same templates keys top
found-is found cells known ms same templates order keys top is a b c =
    is
    ∙ ap (λ cs. first_by (seen_in cs ms templates) ms templates order top) a
    ∙ ap (λ xs. first_by (seen_in known xs templates) xs templates order top) b
    ∙ ap (λ ks. first_by (seen_in known same templates) same templates ks top) c

pub returns-in-Some : goal.returns-in-Some
returns-in-Some c = λ texts ready.
    let n = c.args.netlist.now in
    let l = c.args.library.now in
    let h = c.args.hierarchy.now in
    let templates = c.args.templates.now in
    first-is texts n l h.rows h.order.items h.top templates c.requires ready
    ∙ ap (option_map (node_at (keys_of (structure_of texts c.args.netlist.now c.args.library.now))))
    (sym (found-is c.in_ok-found.found c.as_slice.result.now (map pins_driving l.cells) c.as_slice-modules.result.now n.modules templates c.as_slice-order.result.now h.order.items h.top c.in_ok-found.ensures (c.as_slice.ensures ∙ c.in_ok-cells.ensures) c.as_slice-modules.ensures c.as_slice-order.ensures.value) ∙ c.in-Some.is)

pub returns : goal.returns
returns c = λ texts ready.
    let n = c.args.netlist.now in
    let l = c.args.library.now in
    let h = c.args.hierarchy.now in
    let templates = c.args.templates.now in
    first-is texts n l h.rows h.order.items h.top templates c.requires ready
    ∙ ap (option_map (node_at (keys_of (structure_of texts c.args.netlist.now c.args.library.now))))
    (sym (found-is c.in_ok-found.found c.as_slice.result.now (map pins_driving l.cells) c.as_slice-modules.result.now n.modules templates c.as_slice-order.result.now h.order.items h.top c.in_ok-found.ensures (c.as_slice.ensures ∙ c.in_ok-cells.ensures) c.as_slice-modules.ensures c.as_slice-order.ensures.value) ∙ c.in-None.is)
