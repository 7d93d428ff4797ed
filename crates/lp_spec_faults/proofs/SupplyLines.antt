-- Lines about supply networks, computed on the small ones.
use Rattle.std.proofs.Common.{◌≡◌, ℕ, true, List, [], ◌∷◌, ◌++◌, Option, Some, None, refl}
use Rattle.std.specs.Prelude.{codes, map, replicate, option_and_then}
use Rattle.lp_model.specs.declared.fault.intent.IntentLimit.{IntentLimit}
use Rattle.lp_model.specs.declared.fault.intent.IntentLimit.TheVariants as limits
use Rattle.lp_model.specs.declared.intent.DeclaredState.TheVariants.{On, Off}
use Rattle.lp_model.specs.declared.supply.OriginKind.TheVariants.{Port}
use Rattle.lp_model.specs.declared.supply.Supplies as model
use Rattle.lp_spec_design.specs.Intents.{Intent}
use Rattle.lp_spec_design.proofs.Samples.{with_strategies}
use Rattle.lp_spec_network.proofs.Samples.{origin}
use Rattle.lp_spec_origins.specs.Commands.{Command, NetAt, MakesPort, MakesNet, MakesSet, MakesStrategy, MakesRow}
use Rattle.lp_spec_origins.specs.Sets.{SupplySet}
use Rattle.lp_spec_origins.specs.Used.{sets_of}
use Rattle.lp_spec_origins.proofs.Samples.{in_top, set_between, three, doubled, circular}
use Rattle.lp_spec_realises.proofs.Samples.{supplies}
use Rattle.lp_spec_faults.specs.Lines.{first_of}
use Rattle.lp_spec_faults.specs.Supplies.{intent_limits, Asked, SetMade, SupplyMade, undriven, two_sources, supply_loop, ground_mismatch, first_used, ground_level, no_states}

-- two domains, whose primary supplies are sets 0 and 1
abbrev intent : Intent
intent = with_strategies []

abbrev sets : List SupplySet
sets = set_between (codes "VDD") (codes "VSS") ∷ set_between (codes "VDC") (codes "VSS") ∷ []

abbrev asked : List Command → List SupplySet → Asked
asked commands all = record { commands = commands ++ (MakesSet 0 ∷ MakesSet 1 ∷ []); sets = all; intent = intent; table = []; fuel = 8 }

nothing_undriven : first_of (undriven (asked three sets)) ≡ None
nothing_undriven = refl

-- a net that a set has as its power and that nothing feeds; the net stands before the set
unfed_net : first_of (undriven (asked (MakesNet (in_top (codes "VX")) ∷ three) (set_between (codes "VX") (codes "VSS") ∷ []))) ≡ Some (SupplyMade (NetAt (in_top (codes "VX"))))
unfed_net = refl

set_without_ground : first_of (undriven (asked three (set_between (codes "VDD") (codes "VSS") ∷ record (set_between (codes "VDC") (codes "VSS")) { gnd = None } ∷ []))) ≡ Some (SetMade 1)
set_without_ground = refl

-- set 2 is not used
unused_set : first_of (undriven (asked three (sets ++ record (set_between (codes "VDC") (codes "VSS")) { gnd = None } ∷ []))) ≡ None
unused_set = refl

net_of_two_ports : map (λ c. first_of (two_sources (asked c sets))) (doubled ∷ three ∷ []) ≡ Some (in_top (codes "VDD")) ∷ None ∷ []
net_of_two_ports = refl

switch_in_a_circle : map (λ c. first_of (supply_loop (asked c sets))) (circular ∷ three ∷ []) ≡ Some 0 ∷ None ∷ []
switch_in_a_circle = refl

another_ground : option_and_then (λ s. Some s.0) (first_of (ground_mismatch (asked three (set_between (codes "VDD") (codes "VSS") ∷ set_between (codes "VDC") (codes "VDD") ∷ [])))) ≡ Some 1
another_ground = refl

-- it is compared with the first used set
compared_with : first_used (asked three (set_between (codes "VDD") (codes "VSS") ∷ set_between (codes "VDC") (codes "VDD") ∷ [])) ≡ Some 0
compared_with = refl

-- where set 0 is not used
abbrev without_the_first : Intent
without_the_first = record intent { domains = record { elements = [] ∷ []; primary = Some 1; isolation = Some 2; retention = None } ∷ [] }

the_first_used_one : first_used (record (asked three (set_between (codes "VDD") (codes "VDC") ∷ sets)) { intent = without_the_first }) ≡ Some 1
the_first_used_one = refl

one_ground : first_of (ground_mismatch (asked three sets)) ≡ None
one_ground = refl

-- ---- origins

abbrev network : model.Supplies
network = supplies (On 1000000 ∷ Off ∷ []) (On 1000000 ∷ [])

grounds_at_zero : first_of (ground_level network) ≡ None
grounds_at_zero = refl

states_declared : first_of (no_states network) ≡ None
states_declared = refl

-- a ground with a voltage, and a power that is a ground
raised_ground : first_of (ground_level (record network { origins = origin 0 (Port (On 1000000 ∷ [])) ∷ origin 1 (Port (On 1000000 ∷ [])) ∷ origin 2 (Port []) ∷ origin 3 (Port (On 0 ∷ On 100000 ∷ [])) ∷ [] })) ≡ Some 3
raised_ground = refl

-- a raised ground of a set that is not used is no fault, since that set has no origins
abbrev grounds_of : Intent → model.Supplies
grounds_of i = record (supplies (On 1000000 ∷ []) []) {
  origins = origin 0 (Port (On 1000000 ∷ [])) ∷ origin 1 (Port (On 700000 ∷ [])) ∷ origin 2 (Port []) ∷ [];
  sets = sets_of three 6 i (set_between (codes "VDD") (codes "VSS") ∷ set_between (codes "VDD") (codes "VDC") ∷ []);
}

abbrev only_the_top : Intent
only_the_top = record intent { domains = record { elements = [] ∷ []; primary = Some 0; isolation = None; retention = None } ∷ [] }

ground_of_an_unused_set : map (λ i. first_of (ground_level (grounds_of i))) (only_the_top ∷ intent ∷ []) ≡ None ∷ Some 1 ∷ []
ground_of_an_unused_set = refl

-- the block's power has no declared state
stateless_power : first_of (no_states (supplies [] [])) ≡ Some 1
stateless_power = refl

-- ---- limits

-- so many commands that make strategies, rows and ports of the top
abbrev sized : ℕ → ℕ → ℕ → Option IntentLimit
sized strategies rows origins = first_of (intent_limits (replicate strategies MakesStrategy ++ (replicate rows MakesRow ++ replicate origins (MakesPort (in_top (codes "VDD")) true))))

at_the_limits : sized 4096 4096 1024 ≡ None
at_the_limits = refl

above_one : sized 4097 4097 1025 ∷ sized 4096 4097 1025 ∷ sized 4096 4096 1025 ∷ [] ≡ Some limits.Strategies ∷ Some limits.Rows ∷ Some limits.Origins ∷ []
above_one = refl
