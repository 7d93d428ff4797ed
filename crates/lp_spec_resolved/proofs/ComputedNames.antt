-- Faults of names that are found in few commands, computed on small texts.
use Rattle.std.specs.Prelude.{◌≡◌, ℕ, List, ◌++◌, codes, Option, Some}
use Rattle.std.specs.Fmt.{digits}
use Rattle.std.proofs.Common.{refl}
use lib.Utf8.{encode}
use Rattle.lp_spec_intent.specs.Faults.{NameFault, Unknown, Twice}
use Rattle.lp_spec_intent.proofs.Samples.{fault_of, at}

-- two supplies with a set, and a domain of the top and one of the block, in two lines
abbrev domains : List ℕ
domains = codes "create_supply_port VDD; create_supply_port VSS; create_supply_net VDD; create_supply_net VSS; connect_supply_net VDD -ports VDD; connect_supply_net VSS -ports VSS\ncreate_supply_set SS -function {power VDD} -function {ground VSS}; create_power_domain PT -elements {.} -supply {primary SS}; create_power_domain PC -elements u\n"

abbrev after_domains : List ℕ → Option NameFault
after_domains text = fault_of (domains ++ text)

interface_twice : after_domains (codes "set_isolation I -domain PC -isolation_signal en; set_level_shifter L -domain PC; use_interface_cell M -strategy I -domain PC -lib_cells X; use_interface_cell M -strategy L -domain PC -lib_cells X") ≡ Some (Twice (at 3 159) (codes "M"))
unfolding encode digits
interface_twice = refl

no_such_strategy : after_domains (codes "set_retention R -domain PC -no_retention; use_interface_cell M -strategy R -domain PC -lib_cells X") ≡ Some (Unknown (at 3 74) (codes "R"))
unfolding encode digits
no_such_strategy = refl

switch_twice : after_domains (codes "create_supply_net V; create_power_switch SW -input_supply_port {i VDD} -output_supply_port {o V} -control_port {c en} -on_state {on i {!c}}; create_supply_net W; create_power_switch SW -input_supply_port {i VDD} -output_supply_port {o W} -control_port {c en} -on_state {on i {!c}}") ≡ Some (Twice (at 3 183) (codes "SW"))
unfolding encode digits
switch_twice = refl

ports_twice : after_domains (codes "create_power_switch SW -input_supply_port {i VDD} -output_supply_port {i VSS} -control_port {c en} -on_state {on i {!c}}") ≡ Some (Twice (at 3 72) (codes "i"))
unfolding encode digits
ports_twice = refl

states_twice : after_domains (codes "create_power_switch SW -input_supply_port {i VDD} -output_supply_port {o VSS} -control_port {c en} -on_state {on i {!c}} -off_state {on {c}}") ≡ Some (Twice (at 3 134) (codes "on"))
unfolding encode digits
states_twice = refl

other_input : after_domains (codes "create_power_switch SW -input_supply_port {i VDD} -output_supply_port {o VSS} -control_port {c en} -on_state {on o {!c}}") ≡ Some (Unknown (at 3 114) (codes "o"))
unfolding encode digits
other_input = refl

no_control : after_domains (codes "create_power_switch SW -input_supply_port {i VDD} -output_supply_port {o VSS} -control_port {c x} -on_state {on i {!c}}") ≡ Some (Unknown (at 3 96) (codes "x"))
unfolding encode digits
no_control = refl

mapped_twice : after_domains (codes "create_supply_net V; create_power_switch SW -input_supply_port {i VDD} -output_supply_port {o V} -control_port {c en} -on_state {on i {!c}}; map_power_switch SW -lib_cells X; map_power_switch SW -lib_cells Y") ≡ Some (Twice (at 3 193) (codes "SW"))
unfolding encode digits
mapped_twice = refl

retention_mapped_twice : after_domains (codes "set_retention R -domain PC -no_retention; map_retention_cell {R R} -domain PC -lib_cells X") ≡ Some (Twice (at 3 65) (codes "R"))
unfolding encode digits
retention_mapped_twice = refl

no_signal : after_domains (codes "set_retention R -domain PC -save_signal {en high} -restore_signal {x low}") ≡ Some (Unknown (at 3 68) (codes "x"))
unfolding encode digits
no_signal = refl

no_supply_set : after_domains (codes "set_level_shifter L -domain PC -input_supply S") ≡ Some (Unknown (at 3 46) (codes "S"))
unfolding encode digits
no_supply_set = refl

no_set_to_associate : after_domains (codes "associate_supply_set S -handle PC.primary") ≡ Some (Unknown (at 3 22) (codes "S"))
unfolding encode digits
no_set_to_associate = refl

no_port_to_connect : after_domains (codes "connect_supply_net VDD -ports {VDD VX}") ≡ Some (Unknown (at 3 36) (codes "VX"))
unfolding encode digits
no_port_to_connect = refl

no_states_of_a_net : after_domains (codes "create_supply_net VN; add_port_state VN -state {A 1.0}") ≡ Some (Unknown (at 3 38) (codes "VN"))
unfolding encode digits
no_states_of_a_net = refl

no_table : after_domains (codes "create_pst T -supplies {VDD}; add_pst_state r -pst S -state {*}") ≡ Some (Unknown (at 3 52) (codes "S"))
unfolding encode digits
no_table = refl

no_column : after_domains (codes "create_pst T -supplies {VDD VX}") ≡ Some (Unknown (at 3 29) (codes "VX"))
unfolding encode digits
no_column = refl

no_domain_of_a_net : after_domains (codes "create_supply_net VN -domain PD") ≡ Some (Unknown (at 3 30) (codes "PD"))
unfolding encode digits
no_domain_of_a_net = refl

set_twice : after_domains (codes "create_supply_set SS") ≡ Some (Twice (at 3 19) (codes "SS"))
unfolding encode digits
set_twice = refl

no_element : after_domains (codes "set_isolation I -domain PC -elements {u/o u/x} -no_isolation") ≡ Some (Unknown (at 3 43) (codes "u/x"))
unfolding encode digits
no_element = refl

no_source : after_domains (codes "set_isolation I -domain PC -source S -no_isolation") ≡ Some (Unknown (at 3 36) (codes "S"))
unfolding encode digits
no_source = refl
