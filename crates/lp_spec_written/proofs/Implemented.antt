-- The written netlists of the small designs implement their projects.
use Rattle.std.proofs.Common.{◌≡◌, List, false, [], ◌∷◌, Some, None, refl, sym, ap}
use Rattle.std.specs.Prelude.{◌==◌, codes, if◌then◌else◌, bytes_eq, IsTrue, map}
use Rattle.lp_model.specs.NetlistView.{ModuleView}
use Rattle.lp_spec_design.specs.Keys.{Name, Path, same_path, Node, Inner, Way, PortBit, AssignBit}
use Rattle.lp_spec_design.specs.Instances.{Placed}
use Rattle.lp_spec_design.specs.Nodes.{computing, fuel_of}
use Rattle.lp_spec_design.proofs.Samples.{with_strategies}
use Rattle.lp_spec_realises.specs.Projects.{Project}
use Rattle.lp_spec_realises.specs.ProjectNetlists.{netlist_of}
use Rattle.lp_spec_realises.specs.Operators.{Placement}
use Rattle.lp_spec_realises.specs.Realises.{Realises, same_paths, has_the_cells, begins_right, controls_begin, supplies_begin}
use Rattle.lp_spec_realises.specs.Implements.{Lists, as_chosen}
use Rattle.lp_spec_realises.proofs.Netlists.{is_project_netlist, is_netlist}
use Rattle.lp_spec_written.proofs.Samples.{any_cell, bare, clamped, read_twice, lower_block, clamped_outside, clamped_inside, fixed_input, wide_outside, wide_inside, higher_block, two_levels, fed, twins, top_output, switched, nested, in_the_block, exchanged, control_from_inside, control_renamed, control_beside, control_below, control_first_above, control_across, retained, retained_by_one}
use Rattle.lp_spec_written.specs.Shared.{shared}
use Rattle.lp_spec_written.specs.Written.{written}
use Rattle.lp_spec_written.specs.Implements.{named_bits, bits_begin, Named, Implements}
use Rattle.lp_spec_written.proofs.Digits.{spelled_module, decimals, digits, with_changed, held}
use Rattle.lp_spec_written.proofs.Computed.{bare_modules, clamped_modules, written_clamped, read_twice_modules, shifted_modules, outside_modules, inside_modules, fixed_modules, wide_outside_modules, wide_inside_modules, higher_modules, two_levels_modules, fed_modules, twins_modules, top_output_modules}
use Rattle.lp_spec_written.proofs.ComputedRoutes.{from_inside_modules, renamed_modules, beside_modules, below_modules, first_above_modules, across_modules, retained_modules, by_one_modules}
use Rattle.lp_spec_written.proofs.ComputedSupplies.{switched_modules, switched_inside_modules, switched_outwards_modules, nested_modules}

-- ---- netlists, and where their cells are placed

abbrev block : Path
block = codes "u" ∷ []

abbrev place : Path → Name → Placed
place x n = record { path = x; instance = n }

-- the first operator of each chain and the others, and the switch
abbrev two : Placed → Placed → Path → Placement
two one other x = record { operator = λ w k. if k == 0 then one else other; switch = λ o. place x (codes "lp_s_0") }

abbrev first_clamp : Path → Placement
first_clamp x = two (place x (codes "lp_i_0")) (place x (codes "lp_i_0")) []

abbrev of_port : Name → Placed → Placed → Way → Placed
of_port n one other (PortBit p m i) = if bytes_eq n m then one else other
of_port n one other (AssignBit p a k) = other

-- by the port
abbrev by_port : Name → Placed → Placed → Placement
by_port n one other = record { operator = λ w k. of_port n one other w; switch = λ o. one }

abbrev of_path : Path → Placed → Placed → Way → Placed
of_path x one other (PortBit p m i) = if same_path x p then one else other
of_path x one other (AssignBit p a k) = other

-- by the instance of the port
abbrev by_way : Path → Placed → Placed → Placement
by_way x one other = record { operator = λ w k. of_path x one other w; switch = λ o. one }

-- ---- the written netlists

-- from its parts; the bits that stand under other names are given
implemented :
    (p : Project) (l : Lists) (modules : List ModuleView) (at : Placement) (changed : List (Node × Node))
    → IsTrue (is_project_netlist p modules)
    → IsTrue (same_paths p.structure (netlist_of p modules))
    → IsTrue (has_the_cells p (netlist_of p modules) at)
    → IsTrue (begins_right p (netlist_of p modules) at (fuel_of (netlist_of p modules)))
    → IsTrue (controls_begin p (netlist_of p modules) at (fuel_of (netlist_of p modules)))
    → IsTrue (supplies_begin p (netlist_of p modules) at (fuel_of (netlist_of p modules)))
    → IsTrue (as_chosen p (netlist_of p modules) l at)
    → named_bits p l ≡ with_changed changed (named_bits p l) decimals
    → IsTrue (bits_begin p (netlist_of p modules) at (fuel_of (netlist_of p modules)) (with_changed changed (named_bits p l) digits))
    → Implements p l modules
implemented p l modules at changed netlist instances stand wires controls supplies chosen same begin = record {
  realises = record { netlist = is_netlist p modules netlist; placement = at; instances = instances; cells = stand; wires = wires; controls = controls; supplies = supplies };
  cells = chosen;
  bits = held (bits_begin p (netlist_of p modules) at (fuel_of (netlist_of p modules))) changed (named_bits p l) same begin;
}

abbrev inner : Path → Name → Node
inner x n = Inner n None x

bare_implements : Implements bare any_cell bare_modules
unfolding computing
bare_implements = implemented bare any_cell bare_modules (first_clamp []) [] refl refl refl refl refl refl refl refl refl

clamped_implements : Implements clamped any_cell clamped_modules
unfolding computing
clamped_implements = implemented clamped any_cell clamped_modules (first_clamp block) ((inner block (codes "o"), inner block (codes "lp_n_0")) ∷ []) refl refl refl refl refl refl refl refl refl

read_twice_implements : Implements read_twice any_cell read_twice_modules
unfolding computing
read_twice_implements = implemented read_twice any_cell read_twice_modules (first_clamp block) ((inner block (codes "o"), inner block (codes "lp_n_0")) ∷ []) refl refl refl refl refl refl refl refl refl

shifted_implements : Implements lower_block any_cell shifted_modules
unfolding computing
shifted_implements = implemented lower_block any_cell shifted_modules (two (place block (codes "lp_l_0")) (place block (codes "lp_i_0")) []) ((inner block (codes "o"), inner block (codes "lp_n_0")) ∷ []) refl refl refl refl refl refl refl refl refl

outside_implements : Implements clamped_outside any_cell outside_modules
unfolding computing
outside_implements = implemented clamped_outside any_cell outside_modules (first_clamp []) [] refl refl refl refl refl refl refl refl refl

inside_implements : Implements clamped_inside any_cell inside_modules
unfolding computing
inside_implements = implemented clamped_inside any_cell inside_modules (two (place [] (codes "lp_i_0")) (place block (codes "lp_i_0")) []) ((inner block (codes "i"), inner block (codes "lp_n_0")) ∷ []) refl refl refl refl refl refl refl refl refl

fixed_implements : Implements fixed_input any_cell fixed_modules
unfolding computing
fixed_implements = implemented fixed_input any_cell fixed_modules (first_clamp []) [] refl refl refl refl refl refl refl refl refl

wide_outside_implements : Implements wide_outside any_cell wide_outside_modules
unfolding computing
wide_outside_implements = implemented wide_outside any_cell wide_outside_modules (first_clamp []) [] refl refl refl refl refl refl refl refl refl

wide_inside_implements : Implements wide_inside any_cell wide_inside_modules
unfolding computing
wide_inside_implements = implemented wide_inside any_cell wide_inside_modules (first_clamp block) ((Inner (codes "o") (Some 1) block, inner block (codes "lp_n_0")) ∷ []) refl refl refl refl refl refl refl refl refl

higher_implements : Implements higher_block any_cell higher_modules
unfolding computing
higher_implements = implemented higher_block any_cell higher_modules (two (place block (codes "lp_i_0")) (place block (codes "lp_l_0")) []) ((inner block (codes "i"), inner block (codes "lp_n_1")) ∷ []) refl refl refl refl refl refl refl refl refl

two_levels_implements : Implements two_levels any_cell two_levels_modules
unfolding computing
two_levels_implements = implemented two_levels any_cell two_levels_modules (by_way block (place block (codes "lp_i_0")) (place block (codes "lp_i_1"))) ((inner block (codes "o"), inner block (codes "lp_n_0")) ∷ []) refl refl refl refl refl refl refl refl refl

renamed_implements : Implements control_renamed any_cell renamed_modules
unfolding computing
renamed_implements = implemented control_renamed any_cell renamed_modules (by_port (codes "i") (place block (codes "lp_i_0")) (place [] (codes "lp_i_0"))) ((inner block (codes "i"), inner block (codes "lp_n_0")) ∷ []) refl refl refl refl refl refl refl refl refl

fed_implements : Implements fed any_cell fed_modules
unfolding computing
fed_implements = implemented fed any_cell fed_modules (by_port (codes "t") (place block (codes "lp_i_0")) (place block (codes "lp_i_1"))) ((inner block (codes "t"), inner block (codes "lp_n_0")) ∷ (inner block (codes "o"), inner block (codes "lp_n_1")) ∷ []) refl refl refl refl refl refl refl refl refl

twins_implements : Implements twins any_cell twins_modules
unfolding computing
twins_implements = implemented twins any_cell twins_modules (first_clamp block) ((inner block (codes "o"), inner block (codes "lp_n_0")) ∷ []) refl refl refl refl refl refl refl refl refl

top_output_implements : Implements top_output any_cell top_output_modules
unfolding computing
top_output_implements = implemented top_output any_cell top_output_modules (first_clamp []) ((inner [] (codes "y"), inner [] (codes "lp_n_0")) ∷ []) refl refl refl refl refl refl refl refl refl

nested_implements : Implements nested any_cell nested_modules
unfolding computing
nested_implements = implemented nested any_cell nested_modules (first_clamp block) ((inner block (codes "o"), inner block (codes "lp_n_0")) ∷ []) refl refl refl refl refl refl refl refl refl

switched_implements : Implements (switched (with_strategies [])) any_cell switched_modules
unfolding computing
switched_implements = implemented (switched (with_strategies [])) any_cell switched_modules (first_clamp []) [] refl refl refl refl refl refl refl refl refl

switched_inside_implements : Implements (switched (with_strategies [])) in_the_block switched_inside_modules
unfolding computing
switched_inside_implements = implemented (switched (with_strategies [])) in_the_block switched_inside_modules (two (place [] []) (place [] []) block) [] refl refl refl refl refl refl refl refl refl

switched_outwards_implements : Implements (switched exchanged) in_the_block switched_outwards_modules
unfolding computing
switched_outwards_implements = implemented (switched exchanged) in_the_block switched_outwards_modules (two (place [] []) (place [] []) block) [] refl refl refl refl refl refl refl refl refl

from_inside_implements : Implements control_from_inside any_cell from_inside_modules
unfolding computing
from_inside_implements = implemented control_from_inside any_cell from_inside_modules (first_clamp []) [] refl refl refl refl refl refl refl refl refl

beside_implements : Implements control_beside any_cell beside_modules
unfolding computing
beside_implements = implemented control_beside any_cell beside_modules (two (place block (codes "lp_i_0")) (place [] (codes "lp_i_0")) []) ((inner block (codes "o"), inner block (codes "lp_n_0")) ∷ []) refl refl refl refl refl refl refl refl refl

below_implements : Implements control_below any_cell below_modules
unfolding computing
below_implements = implemented control_below any_cell below_modules (by_port (codes "i") (place block (codes "lp_i_0")) (place [] (codes "lp_i_0"))) ((inner block (codes "i"), inner block (codes "lp_n_0")) ∷ []) refl refl refl refl refl refl refl refl refl

first_above_implements : Implements control_first_above any_cell first_above_modules
unfolding computing
first_above_implements = implemented control_first_above any_cell first_above_modules (by_port (codes "i") (place [] (codes "lp_i_0")) (place block (codes "lp_i_0"))) ((inner block (codes "o"), inner block (codes "lp_n_0")) ∷ []) refl refl refl refl refl refl refl refl refl

across_implements : Implements control_across any_cell across_modules
unfolding computing
across_implements = implemented control_across any_cell across_modules (two (place (codes "w" ∷ codes "v" ∷ []) (codes "lp_i_0")) (place (codes "v" ∷ []) (codes "lp_i_0")) []) ((inner (codes "w" ∷ codes "v" ∷ []) (codes "o"), inner (codes "w" ∷ codes "v" ∷ []) (codes "lp_n_0")) ∷ []) refl refl refl refl refl refl refl refl refl

by_one_implements : Implements retained_by_one any_cell by_one_modules
unfolding computing
by_one_implements = implemented retained_by_one any_cell by_one_modules (first_clamp []) [] refl refl refl refl refl refl refl refl refl

retained_implements : Implements retained any_cell retained_modules
unfolding computing
retained_implements = implemented retained any_cell retained_modules (first_clamp []) [] refl refl refl refl refl refl refl refl refl

-- ---- the modules themselves

named_clamped : Named clamped any_cell clamped_modules
named_clamped = record { same = sym (ap shared written_clamped) }

-- what holds of the modules that are compared holds of the written ones
by_same : (p : Project) (l : Lists) (modules w : List ModuleView) → w ≡ modules → Implements p l modules → Implements p l w
by_same p l modules w e h = rw e h

the_written_one_implements : Implements clamped any_cell (written clamped any_cell)
the_written_one_implements = by_same clamped any_cell clamped_modules (written clamped any_cell) written_clamped clamped_implements

-- ---- under other names

abbrev otherwise_named : List ModuleView
otherwise_named = map (spelled_module (λ k. codes "9")) clamped_modules

otherwise_realises : Realises clamped otherwise_named
unfolding computing
otherwise_realises = record { netlist = is_netlist clamped otherwise_named refl; placement = two (place block (codes "lp_i_9")) (place block (codes "lp_i_9")) []; instances = refl; cells = refl; wires = refl; controls = refl; supplies = refl }

not_under_its_name : bits_begin clamped (netlist_of clamped otherwise_named) (two (place block (codes "lp_i_9")) (place block (codes "lp_i_9")) []) (fuel_of (netlist_of clamped otherwise_named)) (with_changed ((inner block (codes "o"), inner block (codes "lp_n_0")) ∷ []) (named_bits clamped any_cell) digits) ≡ false
unfolding computing
not_under_its_name = refl
