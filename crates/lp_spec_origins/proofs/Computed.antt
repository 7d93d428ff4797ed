-- Origins, roots, sets and what is used, computed on the small supply networks.
use Rattle.std.proofs.Common.{◌≡◌, List, true, false, [], ◌∷◌, ◌++◌, Some, None, refl}
use Rattle.std.specs.Prelude.{ℕ, codes, map}
use Rattle.lp_model.specs.declared.supply.SetOrigins.{SetOrigins}
use Rattle.lp_model.specs.declared.supply.Supplies.{Supplies}
use Rattle.lp_model.specs.declared.supply.OriginKind.TheVariants.{Port}
use Rattle.lp_rows.specs.Network.{has_part}
use Rattle.lp_rows.specs.Rows.{within_in}
use Rattle.lp_tern.specs.declared.supply.SupplyState.TheVariants as state
use Rattle.lp_model.specs.declared.intent.Applies.TheVariants.{Outputs}
use Rattle.lp_spec_design.specs.Keys.{Inner}
use Rattle.lp_spec_design.specs.Intents.{Intent, FromPort, FromSwitch, BySet, ByDomain}
use Rattle.lp_spec_design.proofs.Samples.{with_strategies, isolation}
use Rattle.lp_model.specs.declared.supply.OriginKind.{OriginKind}
use Rattle.lp_model.specs.declared.supply.Origin as model
use Rattle.lp_spec_origins.specs.Commands.{Command, MakesPort, Supply, PortAt, NetAt}
use Rattle.lp_spec_origins.specs.Groups.{group_of, is_closed}
use Rattle.lp_spec_origins.specs.Origins.{sources, origin_of, origins_of, root_within, origin_view}
use Rattle.lp_spec_origins.specs.Sets.{SupplySet, set_origins, same_set_origins}
use Rattle.lp_spec_origins.specs.Used.{is_used_set, sets_of, is_used}
use Rattle.lp_spec_origins.proofs.Samples.{in_top, in_block, set_between, three, switched, doubled, circular}

abbrev net : List ℕ → Supply
net n = NetAt (in_top n)

-- ---- three ports, each with a net

origins_in_command_order : map (origin_of three 6) (net (codes "VDD") ∷ net (codes "VDC") ∷ net (codes "VSS") ∷ PortAt (in_top (codes "VSS")) ∷ []) ≡ Some 0 ∷ Some 1 ∷ Some 2 ∷ Some 2 ∷ []
origins_in_command_order = refl

no_such_net : origin_of three 6 (net (codes "VDX")) ≡ None
no_such_net = refl

-- a port of direction out is no source
abbrev with_output : List Command
with_output = three ++ (MakesPort (in_top (codes "VO")) false ∷ [])

output_port : map (origin_of with_output 7) (PortAt (in_top (codes "VO")) ∷ net (codes "VSS") ∷ []) ≡ None ∷ Some 2 ∷ []
output_port = refl

-- ---- a switch, and a port of a lower scope

group_over_two_scopes : group_of switched 8 (NetAt (in_block (codes "VDC"))) ≡ NetAt (in_block (codes "VDC")) ∷ PortAt (in_block (codes "p")) ∷ NetAt (in_top (codes "VDC")) ∷ []
group_over_two_scopes = refl

nothing_leads_out : is_closed switched (group_of switched 8 (NetAt (in_block (codes "VDC")))) ≡ true
nothing_leads_out = refl

-- the port of the block is no source, and the switch is the second one
from_the_switch : map (origin_of switched 8) (net (codes "VDD") ∷ net (codes "VDC") ∷ NetAt (in_block (codes "VDC")) ∷ net (codes "VSS") ∷ []) ≡ Some 0 ∷ Some 1 ∷ Some 1 ∷ Some 2 ∷ []
from_the_switch = refl

roots : map (root_within switched 8 3) (0 ∷ 1 ∷ 2 ∷ 3 ∷ []) ≡ Some 0 ∷ Some 0 ∷ Some 2 ∷ None ∷ []
roots = refl

as_designs_have_them : map (origin_view switched 8) (sources switched) ≡ Some FromPort ∷ Some (FromSwitch 0 (Inner (codes "sl") None []) false) ∷ Some FromPort ∷ []
as_designs_have_them = refl

-- ---- two origins, none, and a circle

two_origins : map (origins_of doubled 7) (net (codes "VDD") ∷ net (codes "VDC") ∷ net (codes "VX") ∷ []) ≡ (0 ∷ 1 ∷ []) ∷ (0 ∷ 1 ∷ []) ∷ [] ∷ []
two_origins = refl

two_are_none : origin_of doubled 7 (net (codes "VDC")) ≡ None
two_are_none = refl

no_root_in_a_circle : map (root_within circular 2 2) (0 ∷ 1 ∷ []) ≡ None ∷ None ∷ []
no_root_in_a_circle = refl

-- ---- sets

abbrev number_of : ℕ → ℕ → SetOrigins
number_of p g = record { power = record { 0 = p }; gnd = record { 0 = g }; nwell = record { 0 = p }; pwell = record { 0 = g }; deepnwell = record { 0 = p }; deeppwell = record { 0 = g } }

-- a missing n-well is the power, a missing p-well the ground
missing_functions : set_origins three 6 (set_between (codes "VDC") (codes "VSS")) ≡ Some (number_of 1 2)
missing_functions = refl

abbrev with_well : SupplySet
with_well = record (set_between (codes "VDC") (codes "VSS")) { nwell = Some (in_top (codes "VDD")) }

given_n_well : set_origins three 6 with_well ≡ Some (record (number_of 1 2) { nwell = record { 0 = 0 } })
given_n_well = refl

without_ground : set_origins three 6 (record with_well { gnd = None }) ≡ None
without_ground = refl

-- sets are the same by their power and their ground alone
same_but_for_a_well : map (λ s. same_set_origins (set_origins three 6 with_well) (set_origins three 6 s)) (set_between (codes "VDC") (codes "VSS") ∷ set_between (codes "VDD") (codes "VSS") ∷ set_between (codes "VDC") (codes "VDD") ∷ []) ≡ true ∷ false ∷ false ∷ []
same_but_for_a_well = refl

-- ---- what is used

-- sets 0 and 1 are primary supplies, set 2 is a strategy's, set 3 a source, set 4 nothing; a domain that is named as a sink names no set
abbrev intent : Intent
intent = with_strategies (record (isolation 1 None Outputs) { supply = Some 2; source = Some (BySet 3); sink = Some (ByDomain 4) } ∷ [])

used_sets : map (is_used_set intent) (0 ∷ 1 ∷ 2 ∷ 3 ∷ 4 ∷ []) ≡ true ∷ true ∷ true ∷ true ∷ false ∷ []
used_sets = refl

used_by_attributes : map (is_used_set (record intent { drivers = record { port = codes "a"; supply = 4 } ∷ []; receivers = record { port = codes "y"; supply = 5 } ∷ [] })) (4 ∷ 5 ∷ 6 ∷ []) ≡ true ∷ true ∷ false ∷ []
used_by_attributes = refl

-- set 0 is between VDC and VSS; VDD is the input of a switch; a port is used where the table lists it
used_supplies : map (is_used switched intent (set_between (codes "VDC") (codes "VSS") ∷ []) (PortAt (in_top (codes "VSS")) ∷ [])) (net (codes "VDC") ∷ net (codes "VSS") ∷ net (codes "VDD") ∷ PortAt (in_top (codes "VSS")) ∷ PortAt (in_top (codes "VDD")) ∷ NetAt (in_block (codes "VDC")) ∷ []) ≡ true ∷ true ∷ true ∷ true ∷ false ∷ false ∷ []
used_supplies = refl

-- ---- a ground of a set that is not used: three ports without states, the second the ground of set 1 alone
abbrev origin : ℕ → OriginKind → model.Origin
origin root kind = record { name = record { scope = record { 0 = 0 }; name = record { 0 = 0 } }; kind = kind; root = record { 0 = root } }

abbrev two_grounds : Intent → Supplies
two_grounds i = record { origins = origin 0 (Port []) ∷ origin 1 (Port []) ∷ origin 2 (Port []) ∷ []; rows = []; sets = sets_of three 6 i (set_between (codes "VDD") (codes "VSS") ∷ set_between (codes "VDD") (codes "VDC") ∷ []) }

abbrev only_the_top : Intent
only_the_top = record intent { domains = record { elements = [] ∷ []; primary = Some 0; isolation = None; retention = None } ∷ []; strategies = [] }

ground_of_an_unused_set : map (has_part (two_grounds only_the_top)) (0 ∷ 1 ∷ 2 ∷ []) ≡ false ∷ false ∷ true ∷ []
ground_of_an_unused_set = refl

ground_of_a_used_set : map (has_part (two_grounds intent)) (0 ∷ 1 ∷ 2 ∷ []) ≡ false ∷ true ∷ true ∷ []
ground_of_a_used_set = refl

-- it may have any state
any_state_of_it : map (λ i. within_in (two_grounds i) [] (state.On 1000000 ∷ state.On 700000 ∷ state.On 0 ∷ [])) (only_the_top ∷ intent ∷ []) ≡ true ∷ false ∷ []
any_state_of_it = refl
