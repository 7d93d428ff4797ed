-- A small project whose block has a lower supply, with a level shifter before a clamp, has none of the faults that bear on values, a netlist realises it, and so their runs meet.
use Rattle.std.proofs.Common.{◌≡◌, ◌≤◌, ℕ, zero, suc, arith, true, false, ◌&&◌, ◌==◌, List, [], ◌∷◌, length, Some, None, inl, inr, refl, sym, subst}
use Rattle.std.proofs.lemmas.Bool.{and_parts}
use Rattle.std.specs.Prelude.{codes, ◌<◌, All, flat_map, if◌then◌else◌}
use Rattle.std.specs.List.{list_any}
use Rattle.lp_model.specs.declared.intent.DeclaredState.TheVariants.{On, Off}
use Rattle.lp_model.specs.declared.intent.Applies.TheVariants.{Outputs}
use Rattle.lp_model.specs.declared.fault.netlist.NetlistLimit.TheVariants as depths
use Rattle.lp_model.specs.declared.netlist.Direction.TheVariants.{Input, Output}
use Rattle.lp_model.specs.declared.supply.OriginKind.TheVariants.{Port}
use Rattle.lp_model.specs.declared.supply.Row.{Row}
use Rattle.lp_model.specs.declared.supply.Supplies.{Supplies}
use Rattle.lp_model.specs.NetlistView.{ByName, ModuleView}
use Rattle.lp_model.specs.LibraryView.{CellView}
use Rattle.lp_rows.specs.Network.{IsNetwork, IsRow, IsSetOf, port_states, input_of, root_of, ends_at_port}
use Rattle.lp_spec_settling.specs.Settling.{HasOrder}
use Rattle.lp_spec_design.specs.Keys.{Name, Path, Inner, Outer}
use Rattle.lp_spec_design.specs.Netlists.{module_at}
use Rattle.lp_spec_design.specs.Nodes.{computing, DeclaresBits}
use Rattle.lp_spec_design.specs.Settled.{Design, Key, At, Of}
use Rattle.lp_spec_design.specs.Reads.{keys, reads}
use Rattle.lp_spec_design.specs.Winners.{IsIn}
use Rattle.lp_spec_design.proofs.Samples.{port, plain, with_strategies, isolation, shifting}
use Rattle.lp_spec_network.proofs.Samples.{origin, set_of}
use Rattle.lp_spec_pins.specs.Supplied.{is_supplied}
use Rattle.lp_spec_pins.proofs.Clamped.{outer, joined}
use Rattle.lp_spec_realises.specs.Projects.{Project, design_of}
use Rattle.lp_spec_realises.specs.Operators.{Placement}
use Rattle.lp_spec_realises.specs.Realises.{Realises}
use Rattle.lp_spec_realises.specs.Surroundings.{powered_of}
use Rattle.lp_spec_realises.proofs.Netlists.{is_netlist}
use Rattle.lp_spec_realises.proofs.Samples.{cells}
use Rattle.lp_spec_faults.specs.Lines.{first_of}
use Rattle.lp_spec_faults.specs.Modules.{netlist_limits}
use Rattle.lp_spec_faults.proofs.Depth.{shallow}
use Rattle.lp_spec_agreement.specs.Faultless.{IsSoundCell, IsFaultless}
use Rattle.lp_spec_agreement.specs.Met.{AgreementOfAShifter}
use Rattle.lp_spec_agreement.proofs.Asked.{asks_of, asked, too_low, no_control_too_low}
use Rattle.lp_spec_agreement.proofs.Framed.{no_fault}
use Rattle.lp_spec_agreement.proofs.Orders.{declares, holds_nodes, holds_origins, is_order, has_order}
use Rattle.lp_spec_agreement.proofs.Premises.{all_cons, all_none, IsLow, inverter_sound, buffer_sound, clamp_sound, shifter_sound}
use Rattle.lp_spec_agreement.proofs.Whole.{agreement}

-- the top at 1.0, and the block at 0.8 or off
abbrev supplies : Supplies
supplies = record {
  origins = origin 0 (Port (On 1000000 ∷ [])) ∷ origin 1 (Port (On 800000 ∷ Off ∷ [])) ∷ origin 2 (Port []) ∷ [];
  rows = [];
  sets = Some (set_of 0) ∷ Some (set_of 1) ∷ [];
}

abbrev p : Project
p = record {
  structure = record plain { cells = cells };
  intent = with_strategies (isolation 1 None Outputs ∷ shifting 1 0 ∷ []);
  supplies = supplies;
  margin = 0;
  origin_names = codes "VDD" ∷ codes "VDC" ∷ codes "VSS" ∷ [];
}

limits : first_of (netlist_limits p.structure) ≡ None
unfolding computing
limits = refl

-- ---- its library and its supplies

all_sound : (c : CellView) → IsIn c p.structure.cells → IsSoundCell c
all_sound c (inl is) = subst IsSoundCell (sym is) inverter_sound
all_sound c (inr (inl is)) = subst IsSoundCell (sym is) buffer_sound
all_sound c (inr (inr (inl is))) = subst IsSoundCell (sym is) clamp_sound
all_sound c (inr (inr (inr (inl is)))) = subst IsSoundCell (sym is) shifter_sound
all_sound c (inr (inr (inr (inr gone)))) = absurd gone

network_is : IsNetwork p.supplies
network_is = record {
  few_origins = omega arith;
  few_rows = omega arith;
  rows = all_none (λ (row : Row). IsRow 3 row.states);
  sets = all_cons (IsSetOf 3) (Some (set_of 0)) (Some (set_of 1) ∷ []) (record { power = omega arith; gnd = omega arith; nwell = omega arith; pwell = omega arith; deepnwell = omega arith; deeppwell = omega arith })
      (all_cons (IsSetOf 3) (Some (set_of 1)) [] (record { power = omega arith; gnd = omega arith; nwell = omega arith; pwell = omega arith; deepnwell = omega arith; deeppwell = omega arith }) (all_none (IsSetOf 3)));
  voltages = within_limits;
  port_roots = own_roots;
  switch_roots = λ o i e. absurd (no_switch o i e);
  inputs = λ o i e. absurd (no_switch o i e);
  ends = at_ports;
}
  where
    within_limits : (o : ℕ) → All IsLow (port_states p.supplies o)
    within_limits zero = all_cons IsLow (On 1000000) [] (omega arith) (all_none IsLow)
    within_limits (suc zero) = all_cons IsLow (On 800000) (Off ∷ []) (omega arith) (all_cons IsLow Off [] (omega arith) (all_none IsLow))
    within_limits (suc (suc zero)) = all_cons IsLow (On 0) [] (omega arith) (all_none IsLow)
    within_limits (suc (suc (suc o))) = all_none IsLow

    own_roots : (o : ℕ) → o < 3 → input_of p.supplies o ≡ None → root_of p.supplies o ≡ o
    own_roots zero less e = refl
    own_roots (suc zero) less e = refl
    own_roots (suc (suc zero)) less e = refl
    own_roots (suc (suc (suc o))) less e = absurd (omega (arith, less))

    no_switch : (o i : ℕ) → input_of p.supplies o ≡ Some i → ⊥
    no_switch zero i e = let none : None ≡ Some i = e in absurd cc
    no_switch (suc zero) i e = let none : None ≡ Some i = e in absurd cc
    no_switch (suc (suc zero)) i e = let none : None ≡ Some i = e in absurd cc
    no_switch (suc (suc (suc o))) i e = let none : None ≡ Some i = e in absurd cc

    at_ports : (o : ℕ) → o < 3 → ends_at_port p.supplies 3 o ≡ true
    at_ports zero less = refl
    at_ports (suc zero) less = refl
    at_ports (suc (suc zero)) less = refl
    at_ports (suc (suc (suc o))) less = absurd (omega (arith, less))

-- ---- what is joined is declared, and the keys have an order

abbrev d : Design
d = design_of p

is_shallow : (q : Path) → 64 ≤ length q → module_at p.structure q ≡ None
is_shallow q long = shallow p.structure (no_fault (netlist_limits p.structure) limits depths.Depth (inr (inr (inl refl)))) q long

declared : DeclaresBits p.structure
unfolding computing
declared = declares p.structure is_shallow refl

abbrev inside : Name → Key
inside n = At (Inner n None (codes "u" ∷ []))

abbrev within : Name → Key
within n = At (Inner n None [])

abbrev outside : Name → Key
outside n = At (Outer n None)

-- from the output of the top back to its inputs, and then supplies
abbrev back : List Key
back =
    outside (codes "y") ∷ within (codes "y") ∷ within (codes "n") ∷ inside (codes "o") ∷ inside (codes "i")
    ∷ within (codes "a") ∷ within (codes "en") ∷ outside (codes "a") ∷ outside (codes "en") ∷ Of 0 ∷ Of 1 ∷ Of 2 ∷ []

holds : (holds_nodes d back && holds_origins d back) ≡ true
unfolding computing
holds = refl

in_order : is_order (reads d) back ≡ true
unfolding computing
in_order = refl

order : HasOrder keys (reads d)
order = let both = and_parts (holds_nodes d back) (holds_origins d back) holds in has_order d declared back both.0 both.1 in_order

none_too_low : list_any (too_low p) (flat_map (asked p) (asks_of p)) ≡ false
unfolding computing
none_too_low = refl

faultless : IsFaultless p
unfolding computing
faultless = record {
  names_apart = refl;
  declared = declared.declared;
  within_limits = limits;
  cells_fit = refl;
  no_wire_loop = refl;
  order = order;
  network = network_is;
  states = refl;
  unfit_power = refl;
  levels = refl;
  control_levels = λ commands. no_control_too_low p commands none_too_low;
  library = λ c h usable. all_sound c h;
}

-- ---- a netlist of it

abbrev written_core : ModuleView
written_core = record {
  name = codes "lp_1_core";
  ports = port (codes "i") Input None ∷ port (codes "o") Output None ∷ port (codes "lp_v_VDD") Input None ∷ port (codes "lp_v_VDC") Input None ∷ port (codes "lp_v_VSS") Input None ∷ port (codes "lp_c_0") Input None ∷ [];
  nets = record { name = codes "lp_n_0"; range = None } ∷ record { name = codes "lp_n_1"; range = None } ∷ [];
  instances =
      record { name = codes "g"; target = codes "INV"; connections = ByName (joined (codes "A") (codes "i") ∷ joined (codes "Y") (codes "lp_n_0") ∷ joined (codes "VDD") (codes "lp_v_VDC") ∷ joined (codes "VSS") (codes "lp_v_VSS") ∷ []) }
      ∷ record { name = codes "lp_l_0"; target = codes "LSLH"; connections = ByName (joined (codes "A") (codes "lp_n_0") ∷ joined (codes "Y") (codes "lp_n_1") ∷ joined (codes "VDDI") (codes "lp_v_VDC") ∷ joined (codes "VDDO") (codes "lp_v_VDD") ∷ joined (codes "VSS") (codes "lp_v_VSS") ∷ []) }
      ∷ record { name = codes "lp_i_0"; target = codes "ISO0"; connections = ByName (joined (codes "D") (codes "lp_n_1") ∷ joined (codes "EN") (codes "lp_c_0") ∷ joined (codes "Y") (codes "o") ∷ joined (codes "VDD") (codes "lp_v_VDD") ∷ joined (codes "VSS") (codes "lp_v_VSS") ∷ []) }
      ∷ [];
  assigns = [];
}

abbrev written : List ModuleView
written = outer ∷ written_core ∷ []

-- the level shifter stands before the clamp
abbrev place : Placement
place = record { operator = λ w k. record { path = codes "u" ∷ []; instance = if k == 0 then codes "lp_l_0" else codes "lp_i_0" }; switch = λ o. record { path = []; instance = [] } }

it_realises : Realises p written
unfolding computing
it_realises = record { netlist = is_netlist p written refl; placement = place; instances = refl; cells = refl; wires = refl; controls = refl; supplies = refl }

it_is_supplied : is_supplied (powered_of p written place) ≡ true
unfolding computing
it_is_supplied = refl

pub agreement_of_a_shifter : AgreementOfAShifter
unfolding computing
agreement_of_a_shifter = (p, written, refl, refl, record { faultless = faultless; realises = it_realises; supplied = it_is_supplied; agree = agreement p faultless written it_realises it_is_supplied })
