-- A small project with a clamp has none of the faults that bear on values, a netlist realises it, and so their runs meet.
use Rattle.std.proofs.Common.{◌≡◌, ◌≤◌, ℕ, zero, suc, arith, true, ◌&&◌, ◌==◌, List, [], ◌∷◌, ◌++◌, length, Some, None, inl, inr, refl, sym, ap, subst}
use Rattle.std.proofs.lemmas.Bool.{and_parts}
use Rattle.std.specs.Prelude.{codes, ◌<◌, All, if◌then◌else◌}
use Rattle.lp_tern.specs.declared.tern.Tern.TheVariants.{Zero}
use Rattle.lp_tern.specs.declared.supply.SupplyState.TheVariants as powers_of
use Rattle.lp_model.specs.declared.intent.DeclaredState.{DeclaredState}
use Rattle.lp_model.specs.declared.supply.Row.{Row}
use Rattle.lp_model.specs.declared.intent.DeclaredState.TheVariants.{On, Off}
use Rattle.lp_model.specs.declared.fault.netlist.NetlistLimit.TheVariants as depths
use Rattle.lp_rows.specs.Network.{IsNetwork, IsRow, IsSetOf, declared_voltage, port_states, input_of, root_of, ends_at_port}
use Rattle.lp_model.specs.declared.netlist.Direction.TheVariants.{Input}
use Rattle.lp_model.specs.declared.supply.SetOrigins.{SetOrigins}
use Rattle.lp_model.specs.NetlistView.{ModuleView}
use Rattle.lp_model.specs.LibraryView.{CellView}
use Rattle.lp_spec_settling.specs.Settling.{HasOrder}
use Rattle.lp_spec_design.specs.Keys.{Name, Path, Inner, Outer}
use Rattle.lp_spec_design.specs.Netlists.{module_at}
use Rattle.lp_spec_design.specs.Settled.{Design, Event, Key, At, Of}
use Rattle.lp_spec_design.specs.Reads.{keys, reads}
use Rattle.lp_spec_design.specs.Winners.{IsIn}
use Rattle.lp_spec_design.proofs.Samples.{port}
use Rattle.lp_spec_pins.specs.Supplied.{is_supplied}
use Rattle.lp_spec_pins.proofs.Clamped.{outer, inner}
use Rattle.lp_spec_fit.proofs.Samples.{buffer, clamp, shifter}
use Rattle.lp_spec_realises.specs.Operators.{Placement}
use Rattle.lp_spec_realises.specs.Surroundings.{powered_of}
use Rattle.lp_spec_realises.specs.Realises.{Realises}
use Rattle.lp_spec_realises.proofs.Netlists.{is_netlist}
use Rattle.lp_spec_faults.proofs.Depth.{shallow}
use Rattle.lp_spec_agreement.specs.Faultless.{IsSoundCell, IsFaultless}
use Rattle.lp_spec_agreement.specs.Laws.{RunsAgree}
use Rattle.lp_spec_agreement.specs.Met.{ClampsWhatIsOff, AgreementOfAClamp}
use Rattle.lp_spec_agreement.proofs.Framed.{no_fault}
use Rattle.lp_spec_agreement.proofs.Orders.{declares, holds_nodes, holds_origins, is_order, has_order}
use Rattle.lp_spec_agreement.proofs.Whole.{agreement}
use Rattle.lp_spec_design.specs.Nodes.{computing, DeclaresBits}
use Rattle.lp_spec_realises.specs.Projects.{Project, design_of}
use Rattle.lp_spec_realises.specs.ProjectNetlists.{has_names_apart}
use Rattle.lp_spec_realises.proofs.Samples.{inverter, set_of, project, by_the_block}
use Rattle.lp_spec_faults.specs.Lines.{first_of}
use Rattle.lp_spec_faults.specs.Domains.{no_domain, no_primary}
use Rattle.lp_spec_faults.specs.Modules.{unknown_module, netlist_limits, unfit_cell}
use Rattle.lp_spec_faults.specs.Wires.{unknown_pin, already_powered, width, two_drivers, wire_loop}
use Rattle.lp_spec_faults.specs.Supplies.{ground_level, no_states}
use Rattle.lp_spec_faults.specs.Strategies.{no_supply}
use Rattle.lp_spec_faults.specs.Readings.{unfit_power, uncovered_level, control_level}

abbrev p : Project
p = project by_the_block

names : has_names_apart p.structure.modules ≡ true
names = refl

knows : first_of (unknown_module p.structure) ≡ None
unfolding computing
knows = refl

limits : first_of (netlist_limits p.structure) ≡ None
unfolding computing
limits = refl

pins : first_of (unknown_pin p.structure) ≡ None
unfolding computing
pins = refl

unpowered : first_of (already_powered p.structure) ≡ None
unfolding computing
unpowered = refl

widths : first_of (width p.structure) ≡ None
unfolding computing
widths = refl

cells_fit : first_of (unfit_cell p.structure) ≡ None
unfolding computing
cells_fit = refl

one_source : first_of (two_drivers p.structure) ≡ None
unfolding computing
one_source = refl

no_loop : first_of (wire_loop p.structure) ≡ None
unfolding computing
no_loop = refl

domains : first_of (no_domain p.intent) ≡ None
unfolding computing
domains = refl

primaries : first_of (no_primary p.intent) ≡ None
unfolding computing
primaries = refl

states : first_of (no_states p.supplies) ≡ None
unfolding computing
states = refl

grounds : first_of (ground_level p.supplies) ≡ None
unfolding computing
grounds = refl

supplied : first_of (no_supply p) ≡ None
unfolding computing
supplied = refl

powers : first_of (unfit_power p) ≡ None
unfolding computing
powers = refl

levels : first_of (uncovered_level p) ≡ None
unfolding computing
levels = refl

controls : (commands : ℕ → ℕ) → first_of (control_level p commands) ≡ None
unfolding computing
controls commands = refl

-- ---- its library and its grounds

pub inverter_sound : IsSoundCell inverter
inverter_sound = record { names = refl; switched = refl; sound = record { names_apart = refl; pgs_apart = refl; related = refl; pins = refl; switched = refl; state = refl; retention = refl; powered = refl } }

pub buffer_sound : IsSoundCell buffer
buffer_sound = record { names = refl; switched = refl; sound = record { names_apart = refl; pgs_apart = refl; related = refl; pins = refl; switched = refl; state = refl; retention = refl; powered = refl } }

pub clamp_sound : IsSoundCell clamp
clamp_sound = record { names = refl; switched = refl; sound = record { names_apart = refl; pgs_apart = refl; related = refl; pins = refl; switched = refl; state = refl; retention = refl; powered = refl } }

pub shifter_sound : IsSoundCell shifter
shifter_sound = record { names = refl; switched = refl; sound = record { names_apart = refl; pgs_apart = refl; related = refl; pins = refl; switched = refl; state = refl; retention = refl; powered = refl } }

all_sound : (c : CellView) → IsIn c p.structure.cells → IsSoundCell c
all_sound c (inl is) = subst IsSoundCell (sym is) inverter_sound
all_sound c (inr (inl is)) = subst IsSoundCell (sym is) buffer_sound
all_sound c (inr (inr (inl is))) = subst IsSoundCell (sym is) clamp_sound
all_sound c (inr (inr (inr (inl is)))) = subst IsSoundCell (sym is) shifter_sound
all_sound c (inr (inr (inr (inr gone)))) = absurd gone

a_ground : (a : SetOrigins) → IsIn (Some a) p.supplies.sets → a.gnd ≡ record { 0 = 3 }
a_ground a (inl is) = let same : a ≡ set_of 0 = cc in ap (λ (s : SetOrigins). s.gnd) same
a_ground a (inr (inl is)) = let same : a ≡ set_of 1 = cc in ap (λ (s : SetOrigins). s.gnd) same
a_ground a (inr (inr (inl is))) = let same : a ≡ set_of 2 = cc in ap (λ (s : SetOrigins). s.gnd) same
a_ground a (inr (inr (inr gone))) = absurd gone

pub all_cons : {X : Type 0} (P : X → Type 0) (x : X) (xs : List X) → P x → All P xs → All P (x ∷ xs)
all_cons P x xs here rest zero d less = here
all_cons P x xs here rest (suc k) d less = rest k d (omega (arith, less))

pub all_none : {X : Type 0} (P : X → Type 0) → All P []
all_none P k d less = absurd (omega (arith, less))

abbrev pub IsLow : DeclaredState → Type 0
IsLow x = declared_voltage x ≤ 1000000000000

network_is : IsNetwork p.supplies
network_is = record {
  few_origins = omega arith;
  few_rows = omega arith;
  rows = all_none (λ (row : Row). IsRow 4 row.states);
  sets = all_cons (IsSetOf 4) (Some (set_of 0)) (Some (set_of 1) ∷ Some (set_of 2) ∷ []) (record { power = omega arith; gnd = omega arith; nwell = omega arith; pwell = omega arith; deepnwell = omega arith; deeppwell = omega arith })
      (all_cons (IsSetOf 4) (Some (set_of 1)) (Some (set_of 2) ∷ []) (record { power = omega arith; gnd = omega arith; nwell = omega arith; pwell = omega arith; deepnwell = omega arith; deeppwell = omega arith })
      (all_cons (IsSetOf 4) (Some (set_of 2)) [] (record { power = omega arith; gnd = omega arith; nwell = omega arith; pwell = omega arith; deepnwell = omega arith; deeppwell = omega arith }) (all_none (IsSetOf 4))));
  voltages = within_limits;
  port_roots = own_roots;
  switch_roots = λ o i e. absurd (no_switch o i e);
  inputs = λ o i e. absurd (no_switch o i e);
  ends = at_ports;
}
  where
    within_limits : (o : ℕ) → All (λ x. declared_voltage x ≤ 1000000000000) (port_states p.supplies o)
    within_limits zero = all_cons IsLow (On 1000000) [] (omega arith) (all_none IsLow)
    within_limits (suc zero) = all_cons IsLow (On 1000000) (Off ∷ []) (omega arith) (all_cons IsLow Off [] (omega arith) (all_none IsLow))
    within_limits (suc (suc zero)) = all_cons IsLow (On 1000000) [] (omega arith) (all_none IsLow)
    within_limits (suc (suc (suc zero))) = all_cons IsLow (On 0) [] (omega arith) (all_none IsLow)
    within_limits (suc (suc (suc (suc o)))) = all_none IsLow

    own_roots : (o : ℕ) → o < 4 → input_of p.supplies o ≡ None → root_of p.supplies o ≡ o
    own_roots zero less e = refl
    own_roots (suc zero) less e = refl
    own_roots (suc (suc zero)) less e = refl
    own_roots (suc (suc (suc zero))) less e = refl
    own_roots (suc (suc (suc (suc o)))) less e = absurd (omega (arith, less))

    no_switch : (o i : ℕ) → input_of p.supplies o ≡ Some i → ⊥
    no_switch zero i e = let none : None ≡ Some i = e in absurd cc
    no_switch (suc zero) i e = let none : None ≡ Some i = e in absurd cc
    no_switch (suc (suc zero)) i e = let none : None ≡ Some i = e in absurd cc
    no_switch (suc (suc (suc zero))) i e = let none : None ≡ Some i = e in absurd cc
    no_switch (suc (suc (suc (suc o)))) i e = let none : None ≡ Some i = e in absurd cc

    at_ports : (o : ℕ) → o < 4 → ends_at_port p.supplies 4 o ≡ true
    at_ports zero less = refl
    at_ports (suc zero) less = refl
    at_ports (suc (suc zero)) less = refl
    at_ports (suc (suc (suc zero))) less = refl
    at_ports (suc (suc (suc (suc o)))) less = absurd (omega (arith, less))

-- ---- a netlist of it

abbrev top : ModuleView
top = record outer { ports = outer.ports ++ (port (codes "lp_v_VDE") Input None ∷ []) }

abbrev written : List ModuleView
written = top ∷ inner ∷ []

abbrev in_block : Placement
in_block = record { operator = λ w k. record { path = codes "u" ∷ []; instance = codes "lp_i_0" }; switch = λ o. record { path = []; instance = [] } }

it_realises : Realises p written
unfolding computing
it_realises = record { netlist = is_netlist p written refl; placement = in_block; instances = refl; cells = refl; wires = refl; controls = refl; supplies = refl }

it_is_supplied : is_supplied (powered_of p written in_block) ≡ true
unfolding computing
it_is_supplied = refl

-- ---- what is joined is declared, and the keys have an order

abbrev d : Design
d = design_of p

is_shallow : (q : Path) → 64 ≤ length q → module_at p.structure q ≡ None
is_shallow q long = shallow p.structure (no_fault (netlist_limits p.structure) limits depths.Depth (inr (inr (inl refl)))) q long

declared : DeclaresBits p.structure
unfolding computing
declared = declares p.structure is_shallow refl

abbrev inside : Name → Key
inside n = At (Inner n None (codes "u" ∷ []))

abbrev within : Name → Key
within n = At (Inner n None [])

abbrev outside : Name → Key
outside n = At (Outer n None)

-- from the output of the top back to its inputs, and then supplies
abbrev back : List Key
back =
    outside (codes "y") ∷ within (codes "y") ∷ within (codes "n") ∷ inside (codes "o") ∷ inside (codes "i")
    ∷ within (codes "a") ∷ within (codes "en") ∷ outside (codes "a") ∷ outside (codes "en") ∷ Of 0 ∷ Of 1 ∷ Of 2 ∷ Of 3 ∷ []

holds : (holds_nodes d back && holds_origins d back) ≡ true
unfolding computing
holds = refl

in_order : is_order (reads d) back ≡ true
unfolding computing
in_order = refl

order : HasOrder keys (reads d)
order = let both = and_parts (holds_nodes d back) (holds_origins d back) holds in has_order d declared back both.0 both.1 in_order

-- ---- all premises together

faultless : IsFaultless p
faultless = record {
  names_apart = names;
  declared = declared.declared;
  within_limits = limits;
  cells_fit = cells_fit;
  no_wire_loop = no_loop;
  order = order;
  network = network_is;
  states = states;
  unfit_power = powers;
  levels = levels;
  control_levels = controls;
  library = λ c h usable. all_sound c h;
}

runs_meet : RunsAgree p written it_realises
runs_meet = agreement p faultless written it_realises it_is_supplied

-- ---- an event in which the block is off

abbrev block_off : Event
block_off = record { inputs = λ n i. Zero; supplies = λ o. if o == 1 then powers_of.Off else if o == 3 then powers_of.On 0 else powers_of.On 1000000 }

clamps_what_is_off : ClampsWhatIsOff p
unfolding computing
clamps_what_is_off = (block_off, (0, [], refl, refl), refl)

pub agreement_of_a_clamp : AgreementOfAClamp
agreement_of_a_clamp = (p, written, clamps_what_is_off, record { faultless = faultless; realises = it_realises; supplied = it_is_supplied; agree = runs_meet })
