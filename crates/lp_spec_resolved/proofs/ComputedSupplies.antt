-- Supply networks of small texts, and the lines of faults about them, computed.
use Rattle.std.specs.Prelude.{◌≡◌, ℕ, false, List, [], ◌∷◌, ◌++◌, map, codes, Some, None, option_and_then}
use Rattle.std.proofs.Common.{refl}
use lib.Utf8.{encode}
use Rattle.std.specs.Fmt.{digits}
use Rattle.lp_model.specs.declared.intent.DeclaredState.TheVariants.{On}
use Rattle.lp_model.specs.declared.intent.RowState.TheVariants as listed
use Rattle.lp_model.specs.declared.intent.ScopedName.{ScopedName}
use Rattle.lp_model.specs.declared.supply.OriginKind.{OriginKind}
use Rattle.lp_model.specs.declared.supply.OriginKind.TheVariants.{Port, Switch}
use Rattle.lp_model.specs.declared.supply.Origin.{Origin}
use Rattle.lp_model.specs.declared.supply.SetOrigins.{SetOrigins}
use Rattle.lp_model.specs.declared.supply.Supplies.{Supplies}
use Rattle.lp_spec_design.specs.Nodes.{computing}
use Rattle.lp_spec_origins.specs.Commands.{Scoped, NetAt, PortAt}
use Rattle.lp_spec_faults.specs.Lines.{first_of}
use Rattle.lp_spec_faults.specs.Domains.{no_domain, no_primary}
use Rattle.lp_spec_faults.specs.StateTable.{OfRow, OfSwitch, state_mismatch}
use Rattle.lp_spec_faults.specs.Supplies.{Asked, SetMade, SupplyMade, undriven, two_sources, supply_loop, ground_mismatch, first_used, ground_level, no_states}
use Rattle.lp_spec_intent.specs.Names as names
use Rattle.lp_spec_intent.specs.Intent.{resolved, asked}
use Rattle.lp_spec_intent.proofs.Samples.{sample, made_of}
use Rattle.lp_spec_resolved.specs.Supplies.{supplies_made, table_made, project_made, lists_made, command_of_switch}

-- no computed case looks at the numbers of names
abbrev named : Scoped → ScopedName
named a = record { scope = record { 0 = 0 }; name = record { 0 = 0 } }

abbrev network_of : List ℕ → Supplies
network_of text = supplies_made sample named (made_of text)

abbrev in_top : List ℕ → Scoped
in_top name = names.at [] name

-- ---- two domains over three supply ports

abbrev ports : List ℕ
ports = codes "create_supply_port VDD; create_supply_port VDC; create_supply_port VSS; create_supply_net VDD; create_supply_net VDC; create_supply_net VSS\nconnect_supply_net VDD -ports VDD; connect_supply_net VDC -ports VDC; connect_supply_net VSS -ports VSS\n"

abbrev two_sets : List ℕ
two_sets = codes "create_supply_set SSA -function {power VDD} -function {ground VSS}; create_supply_set SSC -function {power VDC} -function {ground VSS}\n"

abbrev two_domains : List ℕ
two_domains = ports ++ two_sets ++ codes "create_power_domain PT -elements {.} -supply {primary SSA}; create_power_domain PC -elements u -supply {primary SSC}\n"

-- the power of the top has no states
stateless : first_of (no_states (network_of (two_domains ++ codes "add_port_state VDC -state {ON 1.0} -state {OFF off}"))) ≡ Some 0
unfolding encode
stateless = refl

-- ---- with states and a table

abbrev with_table : List ℕ
with_table = two_domains ++ codes "add_port_state VDD -state {H 1.0} -state {HH 1.2}; add_port_state VDC -state {L 0.8} -state {M 1.0}\ncreate_pst T -supplies {VDD VDC}; add_pst_state r1 -pst T -state {H L}; add_pst_state r2 -pst T -state {* M}"

abbrev port_at : ℕ → OriginKind → Origin
port_at o kind = record { name = named (in_top (codes "x")); kind = kind; root = record { 0 = o } }

abbrev set_at : ℕ → SetOrigins
set_at o = record { power = record { 0 = o }; gnd = record { 0 = 2 }; nwell = record { 0 = o }; pwell = record { 0 = 2 }; deepnwell = record { 0 = o }; deeppwell = record { 0 = 2 } }

network_made : network_of with_table ≡ record {
  origins = port_at 0 (Port (On 1000000 ∷ On 1200000 ∷ [])) ∷ port_at 1 (Port (On 800000 ∷ On 1000000 ∷ [])) ∷ port_at 2 (Port []) ∷ [];
  rows = record { states = listed.On 1000000 ∷ listed.On 800000 ∷ listed.Free ∷ [] } ∷ record { states = listed.Free ∷ listed.On 1000000 ∷ listed.Free ∷ [] } ∷ [];
  sets = Some (set_at 0) ∷ Some (set_at 1) ∷ [];
}
unfolding encode
network_made = refl

levels : first_of (no_states (network_of with_table)) ∷ first_of (ground_level (network_of with_table)) ∷ [] ≡ None ∷ None ∷ []
unfolding encode
levels = refl

rows : first_of (state_mismatch (table_made sample named (made_of with_table))) ≡ None
unfolding encode
rows = refl

abbrev sound : Asked
sound = asked (made_of with_table)

all_driven : first_of (undriven sound) ≡ None
unfolding encode
all_driven = refl

one_source : first_of (two_sources sound) ≡ None
unfolding encode
one_source = refl

no_circle : first_of (supply_loop sound) ≡ None
unfolding encode
no_circle = refl

one_ground : option_and_then (λ x. Some x.0) (first_of (ground_mismatch sound)) ≡ None
unfolding encode
one_ground = refl

top_in_a_domain : first_of (no_domain (resolved (made_of with_table))) ≡ None
unfolding encode
top_in_a_domain = refl

primaries : option_and_then (λ d. Some d.0) (first_of (no_primary (resolved (made_of with_table)))) ≡ None
unfolding encode
primaries = refl

origin_names : (project_made sample named (made_of with_table) 0).origin_names ≡ codes "VDD" ∷ codes "VDC" ∷ codes "VSS" ∷ []
unfolding encode
origin_names = refl

-- ---- domains

top_in_none : first_of (no_domain (resolved (made_of (codes "create_power_domain PC -elements u")))) ≡ Some []
unfolding encode
top_in_none = refl

without_primary : option_and_then (λ d. Some d.0) (first_of (no_primary (resolved (made_of (two_domains ++ codes "create_power_domain PX -elements {}"))))) ≡ Some 2
unfolding encode
without_primary = refl

-- ---- sources

-- a net that no source feeds is used as the power of a set
not_fed : first_of (undriven (asked (made_of (codes "create_supply_port VSS; create_supply_net VX; create_supply_net VSS; connect_supply_net VSS -ports VSS; create_supply_set S -function {power VX} -function {ground VSS}; create_power_domain PT -supply {primary S}")))) ≡ Some (SupplyMade (NetAt (in_top (codes "VX"))))
unfolding encode
not_fed = refl

without_ground : first_of (undriven (asked (made_of (ports ++ codes "create_supply_set S -function {power VDD}; create_power_domain PT -supply {primary S}")))) ≡ Some (SetMade 0)
unfolding encode
without_ground = refl

-- a port of a lower scope is no source, and the state table uses what it lists
listed_port : first_of (undriven (asked (made_of (codes "set_scope u; create_supply_port VP; create_pst T -supplies VP")))) ≡ Some (SupplyMade (PortAt (names.at (codes "u" ∷ []) (codes "VP"))))
unfolding encode
listed_port = refl

fed_twice : first_of (two_sources (asked (made_of (ports ++ codes "connect_supply_net VDD -ports VDC")))) ≡ Some (in_top (codes "VDD"))
unfolding encode
fed_twice = refl

in_a_circle : first_of (supply_loop (asked (made_of (codes "create_supply_net A; create_supply_net B\ncreate_power_switch S -input_supply_port {i A} -output_supply_port {o B} -control_port {c en} -on_state {on i {c}}\ncreate_power_switch T -input_supply_port {i B} -output_supply_port {o A} -control_port {c en} -on_state {on i {c}}")))) ≡ Some 0
unfolding encode
in_a_circle = refl

abbrev two_grounds : Asked
two_grounds = asked (made_of (ports ++ codes "create_supply_set S -function {power VDD} -function {ground VSS}; create_supply_set T -function {power VDD} -function {ground VDC}; create_power_domain PT -supply {primary S} -supply {default_isolation T}"))

other_ground : first_used two_grounds ∷ option_and_then (λ x. Some x.0) (first_of (ground_mismatch two_grounds)) ∷ [] ≡ Some 0 ∷ Some 1 ∷ []
unfolding encode
other_ground = refl

-- ---- states

raised_ground : first_of (ground_level (network_of (two_domains ++ codes "add_port_state VSS -state {G 0.1}"))) ≡ Some 2
unfolding encode
raised_ground = refl

-- the port and its net are listed with two states
two_states : first_of (state_mismatch (table_made sample named (made_of (two_domains ++ codes "add_port_state VDD -state {H 1.0} -state {HH 1.2}; add_port_state VDC -state {L 0.8}\nconnect_supply_net VDD -ports VDD; create_supply_net VN; connect_supply_net VN -ports VDD\ncreate_pst T -supplies {VDD VN}; add_pst_state r1 -pst T -state {H H}; add_pst_state r2 -pst T -state {H HH}")))) ≡ Some (OfRow 2 (listed.On 1000000 ∷ listed.On 1200000 ∷ []))
unfolding encode
two_states = refl

-- ---- a switch: its root is that of its input, and its output has only voltages that the root has

abbrev switched : List ℕ
switched = two_domains ++ codes "create_supply_net VB; create_supply_set SSB -function {power VB} -function {ground VSS}; create_power_domain PB -elements {/u/w} -supply {primary SSB}\nadd_port_state VDD -state {H 1.0}; add_port_state VDC -state {L 0.8}\nset_scope u; create_power_switch SW -input_supply_port {i /VDD} -output_supply_port {o /VB} -control_port {c q[1]} -on_state {on i {!c}}\nmap_power_switch SW -lib_cells {X Y}; "

switch_made : (network_of switched).origins ≡ port_at 0 (Port (On 1000000 ∷ [])) ∷ port_at 1 (Port (On 800000 ∷ [])) ∷ port_at 2 (Port []) ∷ port_at 0 (Switch (record { 0 = 0 }) (record { 0 = 11 }) false) ∷ []
unfolding encode digits computing
switch_made = refl

root_lacks_it : map (λ text. first_of (state_mismatch (table_made sample named (made_of (switched ++ text))))) (codes "add_port_state SW/o -state {N 1.0} -state {F off}" ∷ codes "add_port_state SW/o -state {N 0.8}" ∷ []) ≡ None ∷ Some (OfSwitch 3) ∷ []
unfolding encode digits computing
root_lacks_it = refl

limits_of_switch : map (lists_made (made_of switched)).of_switch (3 ∷ 0 ∷ []) ≡ Some (codes "X" ∷ codes "Y" ∷ []) ∷ None ∷ []
unfolding encode digits
limits_of_switch = refl

scope_of_switch : (lists_made (made_of switched)).scope_of_switch 3 ≡ codes "u" ∷ []
unfolding encode digits
scope_of_switch = refl

number_of_command : command_of_switch (made_of switched) 3 ≡ 19
unfolding encode digits
number_of_command = refl
