-- What commands make and the intent that they give, computed on small texts.
use Rattle.std.specs.Prelude.{◌≡◌, ℕ, true, false, List, [], ◌∷◌, ◌++◌, map, codes, Some, None}
use Rattle.std.proofs.Common.{refl}
use lib.Utf8.{encode}
use Rattle.lp_model.specs.declared.library.Action.TheVariants.{Rise, Low}
use Rattle.lp_model.specs.declared.side.Location.TheVariants as locations
use Rattle.lp_model.specs.declared.intent.Applies.TheVariants as applies
use Rattle.lp_model.specs.declared.intent.Rule.TheVariants as rules
use Rattle.lp_model.specs.declared.intent.StrategyKind.TheVariants as kinds
use Rattle.lp_model.specs.declared.intent.DeclaredState.TheVariants as declared
use Rattle.lp_model.specs.declared.intent.RowState.TheVariants as listed
use Rattle.lp_spec_design.specs.Keys.{Path, Inner}
use Rattle.lp_spec_design.specs.Intents.{AtPort, Strategy, BySet, ByDomain}
use Rattle.lp_spec_origins.specs.Commands.{Scoped, NetAt, PortAt, MakesPort, MakesNet, Connects, MakesSwitch}
use Rattle.lp_spec_intent.specs.Names as names
use Rattle.lp_spec_intent.specs.Made.{Made, network, cell_lists, drivers, receivers}
use Rattle.lp_spec_intent.specs.Intent.{resolved, set_list, listed_supplies, origin_states, row_known, switch_known}
use Rattle.lp_spec_design.specs.Graph.{some_of}
use Rattle.lp_spec_intent.proofs.Samples.{made_of}

abbrev u : Path
u = codes "u" ∷ []

abbrev in_top : List ℕ → Scoped
in_top name = names.at [] name

abbrev in_block : List ℕ → Scoped
in_block name = names.at u name

-- ---- supplies

abbrev supplies : List ℕ
supplies = codes "create_supply_port VDD; create_supply_port VSS; create_supply_net VDD; create_supply_net VSS; connect_supply_net VDD -ports VDD; connect_supply_net VSS -ports VSS\ncreate_supply_set SS -function {power VDD} -function {ground VSS}\n"

network-made : network (made_of (codes "create_supply_port VDD\nset_scope u\ncreate_supply_port VP -direction out; create_supply_net VP\nconnect_supply_net VP -ports {VP /VDD}\nset_scope ..\ncreate_supply_net VX")) ≡ MakesPort (in_top (codes "VDD")) true ∷ MakesPort (in_block (codes "VP")) false ∷ MakesNet (in_block (codes "VP")) ∷ Connects (in_block (codes "VP")) (in_block (codes "VP") ∷ in_top (codes "VDD") ∷ []) ∷ MakesNet (in_top (codes "VX")) ∷ []
unfolding encode
network-made = refl

-- set_domain_supply_net makes a set, and handles hold from whichever command gives them
abbrev handled : Made
handled = made_of (supplies ++ codes "create_power_domain PT -elements {.}\ncreate_power_domain PC -elements u -supply {default_isolation SS}\nset_domain_supply_net PC -primary_power_net VDD -primary_ground_net VSS\nassociate_supply_set PC.primary -handle PT.primary\nset_port_attributes -ports a -driver_supply PC.primary; set_port_attributes -ports y -receiver_supply SS")

handles-made : (resolved handled).domains ≡ record { elements = [] ∷ []; primary = Some 1; isolation = None; retention = None } ∷ record { elements = u ∷ []; primary = Some 1; isolation = Some 0; retention = None } ∷ []
unfolding encode
handles-made = refl

sets-made : set_list handled ≡ record { power = Some (in_top (codes "VDD")); gnd = Some (in_top (codes "VSS")); nwell = None; pwell = None; deepnwell = None; deeppwell = None } ∷ record { power = Some (in_top (codes "VDD")); gnd = Some (in_top (codes "VSS")); nwell = None; pwell = None; deepnwell = None; deeppwell = None } ∷ []
unfolding encode
sets-made = refl

drivers-made : drivers handled ≡ record { port = codes "a"; supply = 1 } ∷ []
unfolding encode
drivers-made = refl

receivers-made : receivers handled ≡ record { port = codes "y"; supply = 0 } ∷ []
unfolding encode
receivers-made = refl

-- ---- states

abbrev stated : Made
stated = made_of (supplies ++ codes "create_supply_net V\ncreate_power_switch SW -input_supply_port {i VDD} -output_supply_port {o V} -control_port {c en} -on_state {on i {!c}}\nadd_port_state VDD -state {A 1.0} -state {B 0.9 1.1 1.2}; add_port_state SW/o -state {N off}\ncreate_pst T -supplies {VDD V}\nadd_pst_state r -pst T -state {B *}; add_pst_state s -pst T -state {A N}\nmap_power_switch SW -lib_cells {X Y}")

switch-made : network (made_of (codes "create_supply_net A; create_supply_net B\ncreate_power_switch SW -input_supply_port {i A} -output_supply_port {o B} -control_port {c en} -on_state {on i {!c}}")) ≡ MakesNet (in_top (codes "A")) ∷ MakesNet (in_top (codes "B")) ∷ MakesSwitch (record { name = in_top (codes "SW"); input = in_top (codes "A"); output = in_top (codes "B"); control = Inner (codes "en") None []; high = false }) ∷ []
unfolding encode
switch-made = refl

states-made : map (origin_states stated) (0 ∷ 1 ∷ 2 ∷ 3 ∷ []) ≡ (declared.On 1000000 ∷ declared.On 1100000 ∷ []) ∷ [] ∷ (declared.Off ∷ []) ∷ [] ∷ []
unfolding encode
states-made = refl

columns-made : listed_supplies stated ≡ PortAt (in_top (codes "VDD")) ∷ NetAt (in_top (codes "V")) ∷ []
unfolding encode
columns-made = refl

-- with the numbers of their commands
rows-made : some_of row_known stated.known ≡ (12, listed.On 1100000 ∷ listed.Free ∷ []) ∷ (13, listed.On 1000000 ∷ listed.Off ∷ []) ∷ []
unfolding encode
rows-made = refl

switches-made : some_of switch_known stated.known ≡ (8, in_top (codes "SW")) ∷ []
unfolding encode
switches-made = refl

lists-made : cell_lists stated ≡ record { strategies = []; switches = 0 ∷ []; cells = codes "X" ∷ codes "Y" ∷ [] } ∷ []
unfolding encode
lists-made = refl

-- ---- strategies

abbrev domained : List ℕ
domained = supplies ++ codes "create_power_domain PT -elements {.} -supply {primary SS}; create_power_domain PC -elements u -supply {default_isolation SS} -supply {default_retention SS}\n"

abbrev plain : Strategy
plain = record {
  kind = kinds.Isolation;
  domain = 1;
  command = 9;
  inserts = true;
  elements = None;
  excluded = [];
  applies = applies.Both;
  source = None;
  sink = None;
  diff = false;
  location = locations.Own;
  clamp = false;
  high = true;
  rule = rules.Both;
  threshold = 0;
  supply = Some 0;
  input = None;
  output = None;
  control = Some (Inner (codes "en") None []);
  save = None;
  restore = None;
}

-- the defaults, and the domain's default handle
by-default : (resolved (made_of (domained ++ codes "set_isolation I -domain PC -isolation_signal en"))).strategies ≡ plain ∷ []
unfolding encode
by-default = refl

each-option : (resolved (made_of (domained ++ codes "set_isolation I -domain PT -elements u/o -exclude_elements u/i -source SS -sink PC -diff_supply_only TRUE -applies_to outputs -location parent -clamp_value 1 -isolation_signal en -isolation_sense low -isolation_supply_set SS"))).strategies ≡ record plain { domain = 0; elements = Some (AtPort u (codes "o") ∷ []); excluded = AtPort u (codes "i") ∷ []; applies = applies.Outputs; source = Some (BySet 0); sink = Some (ByDomain 1); diff = true; location = locations.Parent; clamp = true; high = false } ∷ []
unfolding encode
each-option = refl

of-shifting : (resolved (made_of (domained ++ codes "set_level_shifter L -domain PC -rule low_to_high -threshold 0.2 -output_supply SS"))).strategies ≡ record plain { kind = kinds.Shifting; rule = rules.LowToHigh; threshold = 200000; supply = None; output = Some 0; control = None } ∷ []
unfolding encode
of-shifting = refl

of-retention : (resolved (made_of (domained ++ codes "set_retention R -domain PC -save_signal {en posedge} -restore_signal {n low}; set_retention N -domain PC -no_retention"))).strategies ≡ record plain { kind = kinds.Retention; control = None; save = Some (Inner (codes "en") None [], Rise); restore = Some (Inner (codes "n") None [], Low) } ∷ record plain { kind = kinds.Retention; command = 10; inserts = false; control = None } ∷ []
unfolding encode
of-retention = refl

mapped : map (λ x. x.strategies) (cell_lists (made_of (domained ++ codes "set_isolation I -domain PC -no_isolation; set_level_shifter L -domain PC; set_retention R -domain PC -no_retention; use_interface_cell M -strategy {L I} -domain PC -lib_cells X; map_retention_cell R -domain PC -lib_cells Y"))) ≡ (1 ∷ 0 ∷ []) ∷ (2 ∷ []) ∷ []
unfolding encode
mapped = refl
