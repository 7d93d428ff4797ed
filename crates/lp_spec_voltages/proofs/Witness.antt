-- A small network with a switch, and supplies as an event feeds them: what the laws ask for can be met.
use Rattle.std.proofs.Common.{◌≡◌, ◌<◌, ◌≤◌, ℕ, zero, suc, Bool, true, [], ◌∷◌, length, Some, None, refl, subst, arith}
use Rattle.std.specs.Prelude.{All, slice_get}
use Rattle.std.proofs.lemmas.List.Elements.{All-nil, All-from_recursion}
use Rattle.lp_tern.specs.declared.tern.Tern.TheVariants.{X}
use Rattle.lp_tern.specs.declared.supply.SupplyState.{SupplyState}
use Rattle.lp_tern.specs.declared.supply.SupplyState.TheVariants as state
use Rattle.lp_model.specs.declared.intent.RowState.TheVariants as listed
use Rattle.lp_rows.specs.Network.{IsNetwork, IsRow, IsSetOf, AreOrigins, listed_voltage, declared_voltage, input_of, root_of, port_states, ends_at_port}
use Rattle.lp_spec_design.specs.Keys.{Node}
use Rattle.lp_spec_design.specs.Intents.{FromPort, FromSwitch}
use Rattle.lp_spec_design.specs.Settled.{Assignment, Event, At, Of, Logic, State, state_of}
use Rattle.lp_spec_network.proofs.Samples.{supplies, set_of}
use Rattle.lp_spec_realises.specs.Projects.{Project, network_of}
use Rattle.lp_spec_realises.proofs.Samples.{project, by_the_block}
use Rattle.lp_spec_voltages.specs.Voltages.{IsFedWithin}

voltages : (o : ℕ) → All (λ x. declared_voltage x ≤ 1000000000000) (port_states supplies o)
voltages zero = All-from_recursion (λ x. declared_voltage x ≤ 1000000000000) (port_states supplies 0) (omega arith, (omega arith, tt))
voltages (suc zero) = All-from_recursion (λ x. declared_voltage x ≤ 1000000000000) (port_states supplies 1) (omega arith, (omega arith, tt))
voltages (suc (suc zero)) = All-from_recursion (λ x. declared_voltage x ≤ 1000000000000) (port_states supplies 2) (omega arith, tt)
voltages (suc (suc (suc zero))) = All-nil (λ x. declared_voltage x ≤ 1000000000000)
voltages (suc (suc (suc (suc o)))) = All-nil (λ x. declared_voltage x ≤ 1000000000000)

port-roots : (o : ℕ) → o < length supplies.origins → input_of supplies o ≡ None → root_of supplies o ≡ o
port-roots zero within unfed = refl
port-roots (suc zero) within unfed = refl
port-roots (suc (suc zero)) within unfed = refl
port-roots (suc (suc (suc zero))) within unfed = absurd cc
port-roots (suc (suc (suc (suc o)))) within unfed = absurd (omega arith)

switch-roots : (o i : ℕ) → input_of supplies o ≡ Some i → root_of supplies o ≡ root_of supplies i
switch-roots zero i fed = absurd cc
switch-roots (suc zero) i fed = absurd cc
switch-roots (suc (suc zero)) i fed = absurd cc
switch-roots (suc (suc (suc zero))) i fed = let is : 0 ≡ i = cc in subst (λ k. 0 ≡ root_of supplies k) is refl
switch-roots (suc (suc (suc (suc o)))) i fed = absurd cc

inputs : (o i : ℕ) → input_of supplies o ≡ Some i → i < length supplies.origins
inputs zero i fed = absurd cc
inputs (suc zero) i fed = absurd cc
inputs (suc (suc zero)) i fed = absurd cc
inputs (suc (suc (suc zero))) i fed = let is : 0 ≡ i = cc in omega arith
inputs (suc (suc (suc (suc o)))) i fed = absurd cc

ends : (o : ℕ) → o < length supplies.origins → ends_at_port supplies (length supplies.origins) o ≡ true
ends zero within = refl
ends (suc zero) within = refl
ends (suc (suc zero)) within = refl
ends (suc (suc (suc zero))) within = refl
ends (suc (suc (suc (suc o)))) within = absurd (omega arith)

a-row : (v w : ℕ) → v ≤ 1000000000000 → w ≤ 1000000000000 → IsRow 4 (listed.On v ∷ listed.On w ∷ listed.Free ∷ listed.Free ∷ [])
a-row v w low high = record {
  full = refl;
  voltages = All-from_recursion (λ x. listed_voltage x ≤ 1000000000000) (listed.On v ∷ listed.On w ∷ listed.Free ∷ listed.Free ∷ []) (low, (high, (omega arith, (omega arith, tt))));
}

a-network : IsNetwork supplies
a-network = record {
  few_origins = omega arith;
  few_rows = omega arith;
  rows = All-from_recursion (λ r. IsRow 4 r.states) supplies.rows (a-row 1000000 800000 (omega arith) (omega arith), (a-row 1200000 1000000 (omega arith) (omega arith), tt));
  sets = All-from_recursion (IsSetOf 4) supplies.sets (functions 0 (omega arith), (functions 1 (omega arith), (functions 3 (omega arith), (tt, tt))));
  voltages = voltages;
  port_roots = port-roots;
  switch_roots = switch-roots;
  inputs = inputs;
  ends = ends;
}
  where
    functions : (k : ℕ) → k < 4 → AreOrigins 4 (set_of k)
    functions k within = record { power = within; gnd = omega arith; nwell = within; pwell = omega arith; deepnwell = within; deeppwell = omega arith }

abbrev of_network : Project
of_network = record (project by_the_block) { supplies = supplies }

abbrev states : ℕ → SupplyState
states zero = state.On 1200000
states (suc zero) = state.On 1000000
states (suc (suc zero)) = state.On 0
states (suc (suc (suc zero))) = state.On 1200000
states (suc (suc (suc (suc o)))) = state.Unknown

-- VDD at 1.2, VDC at 1.0, and the switch on
abbrev event : Event
event = record { inputs = λ n i. X; supplies = states }

abbrev assigned : Assignment
assigned (At k) = Logic X
assigned (Of o) = State (states o)

ports : (o : ℕ) → slice_get (network_of of_network).origins o ≡ Some FromPort → state_of assigned o ≡ states o
ports o is = refl

switches : (o input : ℕ) (control : Node) (high : Bool) (v : ℕ) → slice_get (network_of of_network).origins o ≡ Some (FromSwitch input control high)
    → state_of assigned o ≡ state.On v → state_of assigned input ≡ state.On v
switches zero input control high v is on = absurd cc
switches (suc zero) input control high v is on = absurd cc
switches (suc (suc zero)) input control high v is on = absurd cc
switches (suc (suc (suc zero))) input control high v is on = let same : 0 ≡ input = cc in subst (λ k. states k ≡ state.On v) same on
switches (suc (suc (suc (suc o)))) input control high v is on = absurd cc

others : (o : ℕ) → slice_get (network_of of_network).origins o ≡ None → state_of assigned o ≡ state.Unknown
others zero none = absurd cc
others (suc zero) none = absurd cc
others (suc (suc zero)) none = absurd cc
others (suc (suc (suc zero))) none = absurd cc
others (suc (suc (suc (suc o)))) none = refl

fed : IsFedWithin of_network event assigned
fed = record { network = a-network; within = (2, listed.On 1200000 ∷ listed.On 1000000 ∷ listed.Free ∷ listed.Free ∷ [], refl, refl); ports = ports; switches = switches; others = others }
