-- The faults of names, computed on small texts.
use Rattle.std.specs.Prelude.{◌≡◌, ℕ, List, [], ◌∷◌, ◌++◌, map, codes, Option, Some, None}
use Rattle.std.specs.Fmt.{digits}
use Rattle.std.proofs.Common.{refl}
use lib.Utf8.{encode}
use Rattle.lp_spec_intent.specs.Faults.{NameFault, Unknown, Twice}
use Rattle.lp_spec_intent.proofs.Samples.{fault_of, at}

-- two supply ports and their nets, joined, in the first line
abbrev network : List ℕ
network = codes "create_supply_port VDD; create_supply_port VSS; create_supply_net VDD; create_supply_net VSS; connect_supply_net VDD -ports VDD; connect_supply_net VSS -ports VSS\n"

-- and a set, a domain of the top and one of the block, in the second line
abbrev domains : List ℕ
domains = network ++ codes "create_supply_set SS -function {power VDD} -function {ground VSS}; create_power_domain PT -elements {.} -supply {primary SS}; create_power_domain PC -elements u\n"

abbrev after_network : List ℕ → Option NameFault
after_network text = fault_of (network ++ text)

abbrev after_domains : List ℕ → Option NameFault
after_domains text = fault_of (domains ++ text)

-- ---- scopes and domains

none : after_domains (codes "set_scope u; upf_version 2.1; set_design_top top") ≡ None
unfolding encode
none = refl

other-top : fault_of (codes "set_design_top core") ≡ Some (Unknown (at 1 16) (codes "core"))
unfolding encode
other-top = refl

no-scope : fault_of (codes "set_scope b") ≡ Some (Unknown (at 1 11) (codes "b"))
unfolding encode
no-scope = refl

-- an instance that is listed twice, in two domains or in one
listed-twice : after_domains (codes "create_power_domain PX -elements u") ≡ Some (Twice (at 3 34) (codes "u"))
unfolding encode
listed-twice = refl

listed-twice-in-one : fault_of (codes "create_power_domain PX -elements {u ./u}") ≡ Some (Twice (at 1 37) (codes "./u"))
unfolding encode
listed-twice-in-one = refl

-- the command adds the scope, and no word names it
scope-twice : fault_of (codes "create_power_domain PX -elements {. x} -include_scope") ≡ Some (Twice (at 1 1) (codes "."))
unfolding encode
scope-twice = refl

scope-listed : after_domains (codes "create_power_domain PX") ≡ Some (Twice (at 3 1) (codes "."))
unfolding encode
scope-listed = refl

nothing-listed : after_domains (codes "create_power_domain PX -elements {}") ≡ None
unfolding encode
nothing-listed = refl

domain-twice : after_domains (codes "create_power_domain PT -elements {x}") ≡ Some (Twice (at 3 21) (codes "PT"))
unfolding encode
domain-twice = refl

handle-twice : after_domains (codes "create_power_domain PX -elements {} -supply {primary SS} -supply {primary SS}") ≡ Some (Twice (at 3 67) (codes "primary"))
unfolding encode
handle-twice = refl

no-set : after_domains (codes "create_power_domain PX -elements {} -supply {primary S}") ≡ Some (Unknown (at 3 54) (codes "S"))
unfolding encode
no-set = refl

-- ---- supplies

port-twice : after_network (codes "create_supply_port VDD") ≡ Some (Twice (at 2 20) (codes "VDD"))
unfolding encode
port-twice = refl

-- things live in the scope in which they were made
port-below : after_network (codes "set_scope u; create_supply_port VDD; connect_supply_net /VDD -ports {VDD ../VDD /u/VDD}") ≡ None
unfolding encode
port-below = refl

no-net : after_network (codes "set_scope u; connect_supply_net VDD -ports {}") ≡ Some (Unknown (at 2 33) (codes "VDD"))
unfolding encode
no-net = refl

no-such-domain : fault_of (codes "create_supply_port VDD -domain PD") ≡ Some (Unknown (at 1 32) (codes "PD"))
unfolding encode
no-such-domain = refl

reused : map after_network (codes "create_supply_net VDD -reuse" ∷ codes "create_supply_net VX -reuse" ∷ codes "create_supply_net VDD" ∷ []) ≡ None ∷ Some (Unknown (at 2 19) (codes "VX")) ∷ Some (Twice (at 2 19) (codes "VDD")) ∷ []
unfolding encode
reused = refl

function-twice : after_network (codes "create_supply_set S -function {power VDD} -function {power VSS}") ≡ Some (Twice (at 2 54) (codes "power"))
unfolding encode
function-twice = refl

handle-of-domain : map after_domains (codes "associate_supply_set SS -handle PC.primary" ∷ codes "associate_supply_set SS -handle PT.primary" ∷ codes "associate_supply_set SS -handle PC.other" ∷ codes "associate_supply_set PC.primary -handle PC.default_isolation" ∷ codes "associate_supply_set PT.primary -handle PC.default_isolation" ∷ []) ≡ None ∷ Some (Twice (at 3 33) (codes "PT.primary")) ∷ Some (Unknown (at 3 33) (codes "PC.other")) ∷ Some (Unknown (at 3 22) (codes "PC.primary")) ∷ None ∷ []
unfolding encode
handle-of-domain = refl

primary-nets : map after_domains (codes "set_domain_supply_net PC -primary_power_net VDD -primary_ground_net VSS" ∷ codes "set_domain_supply_net PT -primary_power_net VDD -primary_ground_net VX" ∷ []) ≡ None ∷ Some (Twice (at 3 23) (codes "PT")) ∷ []
unfolding encode
primary-nets = refl

-- ---- states

state-twice : after_network (codes "add_port_state VDD -state {A 1.0} -state {A off}") ≡ Some (Twice (at 2 43) (codes "A"))
unfolding encode
state-twice = refl

-- a supply port of a lower scope is no origin
no-origin : after_network (codes "set_scope u; create_supply_port VP; add_port_state VP -state {A 1.0}") ≡ Some (Unknown (at 2 52) (codes "VP"))
unfolding encode
no-origin = refl

second-table : after_network (codes "create_pst T -supplies {VDD VSS}; create_pst S -supplies {VX}") ≡ Some (Twice (at 2 46) (codes "S"))
unfolding encode
second-table = refl

-- states are those declared so far of the sources that the column is joined with
row-states : map after_network (codes "create_pst T -supplies {VDD}; add_port_state VDD -state {A 1.0}; add_pst_state r -pst T -state {A}" ∷ codes "create_pst T -supplies {VDD}; add_pst_state r -pst T -state {A}" ∷ codes "create_pst T -supplies {VDD}; add_pst_state r -pst T -state {*}; add_pst_state r -pst T -state {*}" ∷ []) ≡ None ∷ Some (Unknown (at 2 62) (codes "A")) ∷ Some (Twice (at 2 80) (codes "r")) ∷ []
unfolding encode
row-states = refl

-- ---- top ports

attributes : map after_domains (codes "set_port_attributes -ports {a en} -driver_supply SS" ∷ codes "set_port_attributes -ports {a y} -driver_supply SS" ∷ codes "set_port_attributes -ports {y y} -receiver_supply SS" ∷ codes "set_port_attributes -ports {n}" ∷ []) ≡ None ∷ Some (Unknown (at 3 31) (codes "y")) ∷ Some (Twice (at 3 31) (codes "y")) ∷ Some (Unknown (at 3 29) (codes "n")) ∷ []
unfolding encode
attributes = refl

-- ---- switches

switches : map after_domains (codes "create_supply_net V; create_power_switch SW -input_supply_port {i VDD} -output_supply_port {o V} -control_port {c en} -on_state {on i {!c}}; add_port_state SW/o -state {A 1.0}" ∷ codes "create_power_switch SW -input_supply_port {i VDD} -output_supply_port {o V} -control_port {c en} -on_state {on i {!c}}" ∷ []) ≡ None ∷ Some (Unknown (at 3 74) (codes "V")) ∷ []
unfolding encode
switches = refl

-- ---- strategies

strategies : map after_domains (codes "set_isolation I -domain PC -elements {u/o u} -isolation_signal en -isolation_supply SS -source PT -sink SS" ∷ codes "set_isolation I -domain PC -isolation_signal en; set_level_shifter I -domain PC" ∷ codes "set_isolation I -domain PC -isolation_signal v" ∷ codes "set_isolation I -domain PX -elements {u/x} -isolation_signal en" ∷ []) ≡ None ∷ Some (Twice (at 3 68) (codes "I")) ∷ Some (Unknown (at 3 46) (codes "v")) ∷ Some (Unknown (at 3 25) (codes "PX")) ∷ []
unfolding encode digits
strategies = refl

-- where -domain names nothing, the strategies are not judged
mapped : map after_domains (codes "set_isolation I -domain PC -isolation_signal en; use_interface_cell M -strategy I -domain PC -lib_cells X; use_interface_cell N -strategy I -domain PC -lib_cells X" ∷ codes "use_interface_cell M -strategy I -domain PX -lib_cells X" ∷ codes "map_retention_cell {R} -domain PC -lib_cells X" ∷ codes "map_power_switch {SW} -lib_cells X" ∷ []) ≡ Some (Twice (at 3 139) (codes "I")) ∷ Some (Unknown (at 3 42) (codes "PX")) ∷ Some (Unknown (at 3 21) (codes "R")) ∷ Some (Unknown (at 3 19) (codes "SW")) ∷ []
unfolding encode
mapped = refl
