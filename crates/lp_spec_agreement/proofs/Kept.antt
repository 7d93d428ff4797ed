-- A small project with a power switch, a clamp and a register with retention has none of the faults that bear on values, a netlist realises it, and so their runs meet.
use Rattle.std.proofs.Common.{◌≡◌, ◌≤◌, ℕ, zero, suc, arith, true, false, ◌&&◌, List, [], ◌∷◌, length, Some, None, inl, inr, refl, sym, ap, subst}
use Rattle.std.proofs.lemmas.Bool.{and_parts}
use Rattle.std.specs.Prelude.{codes, ◌<◌, All, flat_map}
use Rattle.std.specs.List.{list_any}
use Rattle.lp_model.specs.declared.intent.DeclaredState.TheVariants.{On}
use Rattle.lp_model.specs.declared.intent.Applies.TheVariants.{Outputs}
use Rattle.lp_model.specs.declared.fault.netlist.NetlistLimit.TheVariants as depths
use Rattle.lp_model.specs.declared.netlist.Direction.TheVariants.{Input, Output}
use Rattle.lp_model.specs.declared.supply.OriginKind.TheVariants.{Port, Switch}
use Rattle.lp_model.specs.declared.supply.Row.{Row}
use Rattle.lp_model.specs.declared.supply.Supplies.{Supplies}
use Rattle.lp_model.specs.NetlistView.{ByName, ModuleView}
use Rattle.lp_model.specs.LibraryView.{CellView}
use Rattle.lp_rows.specs.Network.{IsNetwork, IsRow, IsSetOf, port_states, input_of, root_of, ends_at_port}
use Rattle.lp_spec_settling.specs.Settling.{HasOrder}
use Rattle.lp_spec_design.specs.Keys.{Name, Path, Inner, Outer}
use Rattle.lp_spec_design.specs.Netlists.{module_at}
use Rattle.lp_spec_design.specs.Nodes.{computing, DeclaresBits}
use Rattle.lp_spec_design.specs.Settled.{Design, Key, At, Of}
use Rattle.lp_spec_design.specs.Reads.{keys, reads}
use Rattle.lp_spec_design.specs.Winners.{IsIn}
use Rattle.lp_spec_design.proofs.Samples.{port, registered, with_strategies, isolation, retaining}
use Rattle.lp_spec_network.proofs.Samples.{origin, set_of}
use Rattle.lp_spec_pins.specs.Supplied.{is_supplied}
use Rattle.lp_spec_pins.proofs.Clamped.{joined}
use Rattle.lp_spec_fit.proofs.Samples.{buffer, clamp, register, retention_register, header}
use Rattle.lp_spec_realises.specs.Projects.{Project, design_of}
use Rattle.lp_spec_realises.specs.Operators.{Placement}
use Rattle.lp_spec_realises.specs.Realises.{Realises}
use Rattle.lp_spec_realises.specs.Surroundings.{powered_of}
use Rattle.lp_spec_realises.proofs.Netlists.{is_netlist}
use Rattle.lp_spec_faults.specs.Lines.{first_of}
use Rattle.lp_spec_faults.specs.Modules.{netlist_limits}
use Rattle.lp_spec_faults.proofs.Depth.{shallow}
use Rattle.lp_spec_agreement.specs.Faultless.{IsSoundCell, IsFaultless}
use Rattle.lp_spec_agreement.specs.Met.{AgreementOfARegister}
use Rattle.lp_spec_agreement.proofs.Asked.{asks_of, asked, too_low, no_control_too_low}
use Rattle.lp_spec_agreement.proofs.Framed.{no_fault}
use Rattle.lp_spec_agreement.proofs.Orders.{declares, holds_nodes, holds_origins, is_order, has_order}
use Rattle.lp_spec_agreement.proofs.Premises.{all_cons, all_none, IsLow, buffer_sound, clamp_sound}
use Rattle.lp_spec_agreement.proofs.Whole.{agreement}

-- the block's power comes through a switch from the top's, on where en is 0; its register keeps a copy by the top's supply, and its output is clamped where en is 1
abbrev supplies : Supplies
supplies = record {
  origins = origin 0 (Port (On 1000000 ∷ [])) ∷ origin 0 (Switch (record { 0 = 0 }) (record { 0 = 1 }) false) ∷ origin 2 (Port []) ∷ [];
  rows = [];
  sets = Some (set_of 0) ∷ Some (set_of 1) ∷ [];
}

abbrev p : Project
p = record {
  structure = record { modules = registered.modules; cells = buffer ∷ clamp ∷ register ∷ retention_register ∷ header ∷ [] };
  intent = with_strategies (isolation 1 None Outputs ∷ record (retaining None) { supply = Some 0 } ∷ []);
  supplies = supplies;
  margin = 0;
  origin_names = codes "VDD" ∷ codes "VDC" ∷ codes "VSS" ∷ [];
}

limits : first_of (netlist_limits p.structure) ≡ None
unfolding computing
limits = refl

-- ---- its library and its supplies

register_sound : IsSoundCell register
register_sound = record { names = refl; switched = refl; sound = record { names_apart = refl; pgs_apart = refl; related = refl; pins = refl; switched = refl; state = refl; retention = refl; powered = refl } }

retained_sound : IsSoundCell retention_register
retained_sound = record { names = refl; switched = refl; sound = record { names_apart = refl; pgs_apart = refl; related = refl; pins = refl; switched = refl; state = refl; retention = refl; powered = refl } }

header_sound : IsSoundCell header
header_sound = record { names = refl; switched = refl; sound = record { names_apart = refl; pgs_apart = refl; related = refl; pins = refl; switched = refl; state = refl; retention = refl; powered = refl } }

all_sound : (c : CellView) → IsIn c p.structure.cells → IsSoundCell c
all_sound c (inl is) = subst IsSoundCell (sym is) buffer_sound
all_sound c (inr (inl is)) = subst IsSoundCell (sym is) clamp_sound
all_sound c (inr (inr (inl is))) = subst IsSoundCell (sym is) register_sound
all_sound c (inr (inr (inr (inl is)))) = subst IsSoundCell (sym is) retained_sound
all_sound c (inr (inr (inr (inr (inl is))))) = subst IsSoundCell (sym is) header_sound
all_sound c (inr (inr (inr (inr (inr gone))))) = absurd gone

there : (i : ℕ) → Some i ≡ None → ⊥
there i e = absurd cc

network_is : IsNetwork p.supplies
network_is = record {
  few_origins = omega arith;
  few_rows = omega arith;
  rows = all_none (λ (row : Row). IsRow 3 row.states);
  sets = all_cons (IsSetOf 3) (Some (set_of 0)) (Some (set_of 1) ∷ []) (record { power = omega arith; gnd = omega arith; nwell = omega arith; pwell = omega arith; deepnwell = omega arith; deeppwell = omega arith })
      (all_cons (IsSetOf 3) (Some (set_of 1)) [] (record { power = omega arith; gnd = omega arith; nwell = omega arith; pwell = omega arith; deepnwell = omega arith; deeppwell = omega arith }) (all_none (IsSetOf 3)));
  voltages = within_limits;
  port_roots = own_roots;
  switch_roots = roots_of_inputs;
  inputs = inputs_there;
  ends = at_ports;
}
  where
    within_limits : (o : ℕ) → All IsLow (port_states p.supplies o)
    within_limits zero = all_cons IsLow (On 1000000) [] (omega arith) (all_none IsLow)
    within_limits (suc zero) = all_none IsLow
    within_limits (suc (suc zero)) = all_cons IsLow (On 0) [] (omega arith) (all_none IsLow)
    within_limits (suc (suc (suc o))) = all_none IsLow

    own_roots : (o : ℕ) → o < 3 → input_of p.supplies o ≡ None → root_of p.supplies o ≡ o
    own_roots zero less e = refl
    own_roots (suc zero) less e = absurd (there 0 e)
    own_roots (suc (suc zero)) less e = refl
    own_roots (suc (suc (suc o))) less e = absurd (omega (arith, less))

    roots_of_inputs : (o i : ℕ) → input_of p.supplies o ≡ Some i → root_of p.supplies o ≡ root_of p.supplies i
    roots_of_inputs zero i e = let none : None ≡ Some i = e in absurd cc
    roots_of_inputs (suc zero) i e = let some : Some 0 ≡ Some i = e in let is : 0 ≡ i = cc in ap (root_of p.supplies) is
    roots_of_inputs (suc (suc zero)) i e = let none : None ≡ Some i = e in absurd cc
    roots_of_inputs (suc (suc (suc o))) i e = let none : None ≡ Some i = e in absurd cc

    inputs_there : (o i : ℕ) → input_of p.supplies o ≡ Some i → i < 3
    inputs_there zero i e = let none : None ≡ Some i = e in absurd cc
    inputs_there (suc zero) i e = let some : Some 0 ≡ Some i = e in let is : 0 ≡ i = cc in omega (arith, is)
    inputs_there (suc (suc zero)) i e = let none : None ≡ Some i = e in absurd cc
    inputs_there (suc (suc (suc o))) i e = let none : None ≡ Some i = e in absurd cc

    at_ports : (o : ℕ) → o < 3 → ends_at_port p.supplies 3 o ≡ true
    at_ports zero less = refl
    at_ports (suc zero) less = refl
    at_ports (suc (suc zero)) less = refl
    at_ports (suc (suc (suc o))) less = absurd (omega (arith, less))

-- ---- what is joined is declared, and the keys have an order

abbrev d : Design
d = design_of p

is_shallow : (q : Path) → 64 ≤ length q → module_at p.structure q ≡ None
is_shallow q long = shallow p.structure (no_fault (netlist_limits p.structure) limits depths.Depth (inr (inr (inl refl)))) q long

declared : DeclaresBits p.structure
unfolding computing
declared = declares p.structure is_shallow refl

abbrev inside : Name → Key
inside n = At (Inner n None (codes "u" ∷ []))

abbrev within : Name → Key
within n = At (Inner n None [])

abbrev outside : Name → Key
outside n = At (Outer n None)

-- from the output of the top back to its inputs, and then supplies; the switch stands before its control
abbrev back : List Key
back =
    outside (codes "y") ∷ within (codes "y") ∷ within (codes "n") ∷ inside (codes "o") ∷ inside (codes "i") ∷ inside (codes "ck") ∷ Of 1
    ∷ within (codes "a") ∷ within (codes "en") ∷ within (codes "ck") ∷ within (codes "sv") ∷ within (codes "rs")
    ∷ outside (codes "a") ∷ outside (codes "en") ∷ outside (codes "ck") ∷ outside (codes "sv") ∷ outside (codes "rs") ∷ Of 0 ∷ Of 2 ∷ []

holds : (holds_nodes d back && holds_origins d back) ≡ true
unfolding computing
holds = refl

in_order : is_order (reads d) back ≡ true
unfolding computing
in_order = refl

order : HasOrder keys (reads d)
order = let both = and_parts (holds_nodes d back) (holds_origins d back) holds in has_order d declared back both.0 both.1 in_order

none_too_low : list_any (too_low p) (flat_map (asked p) (asks_of p)) ≡ false
unfolding computing
none_too_low = refl

faultless : IsFaultless p
unfolding computing
faultless = record {
  names_apart = refl;
  declared = declared.declared;
  within_limits = limits;
  cells_fit = refl;
  no_wire_loop = refl;
  order = order;
  network = network_is;
  states = refl;
  unfit_power = refl;
  levels = refl;
  control_levels = λ commands. no_control_too_low p commands none_too_low;
  library = λ c h usable. all_sound c h;
}

-- ---- a netlist of it

abbrev written_top : ModuleView
written_top = record {
  name = codes "top";
  ports =
      port (codes "a") Input None ∷ port (codes "en") Input None ∷ port (codes "y") Output None ∷ port (codes "ck") Input None ∷ port (codes "sv") Input None ∷ port (codes "rs") Input None
      ∷ port (codes "lp_v_VDD") Input None ∷ port (codes "lp_v_VSS") Input None ∷ [];
  nets = record { name = codes "n"; range = None } ∷ record { name = codes "lp_w_0"; range = None } ∷ [];
  instances =
      record { name = codes "u"; target = codes "lp_1_core"; connections = ByName (joined (codes "i") (codes "a") ∷ joined (codes "ck") (codes "ck") ∷ joined (codes "o") (codes "n") ∷ joined (codes "lp_w_0") (codes "lp_w_0") ∷ joined (codes "lp_v_VDD") (codes "lp_v_VDD") ∷ joined (codes "lp_v_VSS") (codes "lp_v_VSS") ∷ joined (codes "lp_c_0") (codes "en") ∷ joined (codes "lp_c_1") (codes "sv") ∷ joined (codes "lp_c_2") (codes "rs") ∷ []) }
      ∷ record { name = codes "b"; target = codes "BUF"; connections = ByName (joined (codes "A") (codes "n") ∷ joined (codes "Y") (codes "y") ∷ joined (codes "VDD") (codes "lp_v_VDD") ∷ joined (codes "VSS") (codes "lp_v_VSS") ∷ []) }
      ∷ record { name = codes "lp_s_0"; target = codes "HDSW"; connections = ByName (joined (codes "SLEEP") (codes "en") ∷ joined (codes "VDDG") (codes "lp_v_VDD") ∷ joined (codes "VDD") (codes "lp_w_0") ∷ joined (codes "VSS") (codes "lp_v_VSS") ∷ []) }
      ∷ [];
  assigns = [];
}

abbrev written_core : ModuleView
written_core = record {
  name = codes "lp_1_core";
  ports =
      port (codes "ck") Input None ∷ port (codes "i") Input None ∷ port (codes "o") Output None ∷ port (codes "lp_w_0") Input None ∷ port (codes "lp_v_VDD") Input None ∷ port (codes "lp_v_VSS") Input None
      ∷ port (codes "lp_c_0") Input None ∷ port (codes "lp_c_1") Input None ∷ port (codes "lp_c_2") Input None ∷ [];
  nets = record { name = codes "lp_n_0"; range = None } ∷ [];
  instances =
      record { name = codes "r"; target = codes "RDFF"; connections = ByName (joined (codes "D") (codes "i") ∷ joined (codes "CK") (codes "ck") ∷ joined (codes "Q") (codes "lp_n_0") ∷ joined (codes "SAVE") (codes "lp_c_1") ∷ joined (codes "RST") (codes "lp_c_2") ∷ joined (codes "VDD") (codes "lp_w_0") ∷ joined (codes "VSS") (codes "lp_v_VSS") ∷ joined (codes "VDDB") (codes "lp_v_VDD") ∷ []) }
      ∷ record { name = codes "lp_i_0"; target = codes "ISO0"; connections = ByName (joined (codes "D") (codes "lp_n_0") ∷ joined (codes "EN") (codes "lp_c_0") ∷ joined (codes "Y") (codes "o") ∷ joined (codes "VDD") (codes "lp_v_VDD") ∷ joined (codes "VSS") (codes "lp_v_VSS") ∷ []) }
      ∷ [];
  assigns = [];
}

abbrev written : List ModuleView
written = written_top ∷ written_core ∷ []

abbrev place : Placement
place = record { operator = λ w k. record { path = codes "u" ∷ []; instance = codes "lp_i_0" }; switch = λ o. record { path = []; instance = codes "lp_s_0" } }

it_realises : Realises p written
unfolding computing
it_realises = record { netlist = is_netlist p written refl; placement = place; instances = refl; cells = refl; wires = refl; controls = refl; supplies = refl }

it_is_supplied : is_supplied (powered_of p written place) ≡ true
unfolding computing
it_is_supplied = refl

pub agreement_of_a_register : AgreementOfARegister
unfolding computing
agreement_of_a_register = (p, written, refl, refl, refl, record { faultless = faultless; realises = it_realises; supplied = it_is_supplied; agree = agreement p faultless written it_realises it_is_supplied })
