-- The project of a netlist that is taken with its one domain is read.
use Rattle.std.proofs.Common.{◌≡◌, ◌≤◌, ◌<◌, ℕ, zero, suc, arith, Bool, true, false, [], Some, None, refl}
use Rattle.std.specs.Prelude.{All, slice_get}
use Rattle.lp_model.specs.declared.intent.DeclaredState.TheVariants.{On}
use Rattle.lp_model.specs.declared.supply.Row.{Row}
use Rattle.lp_rows.specs.Network.{IsNetwork, IsRow, IsSetOf, port_states, input_of, root_of, ends_at_port}
use Rattle.lp_spec_design.specs.Keys.{Node}
use Rattle.lp_spec_design.specs.Intents.{Strategy, FromPort, FromSwitch}
use Rattle.lp_spec_realises.specs.Projects.{network_of}
use Rattle.lp_spec_agreement.proofs.Premises.{all_cons, all_none, IsLow}
use Rattle.lp_spec_faultless.specs.Faults.{is_outer, HasControlsInside}
use Rattle.lp_spec_one_domain.specs.Laws.{OneDomainIsRead}
use Rattle.lp_spec_one_domain.specs.OneDomain.{OneDomain, the_set, supplies_of, the_intent, project_of}

network : (d : OneDomain) → d.voltage ≤ 1000000000000 → IsNetwork (supplies_of d)
network d low = record {
  few_origins = omega arith;
  few_rows = omega arith;
  rows = all_none (λ (row : Row). IsRow 2 row.states);
  sets = all_cons (IsSetOf 2) (Some the_set) [] (record { power = omega arith; gnd = omega arith; nwell = omega arith; pwell = omega arith; deepnwell = omega arith; deeppwell = omega arith }) (all_none (IsSetOf 2));
  voltages = voltages;
  port_roots = port_roots;
  switch_roots = switch_roots;
  inputs = inputs;
  ends = ends;
}
  where
    voltages : (o : ℕ) → All IsLow (port_states (supplies_of d) o)
    voltages zero = all_cons IsLow (On d.voltage) [] low (all_none IsLow)
    voltages (suc zero) = all_cons IsLow (On 0) [] (omega arith) (all_none IsLow)
    voltages (suc (suc o)) = all_none IsLow

    port_roots : (o : ℕ) → o < 2 → input_of (supplies_of d) o ≡ None → root_of (supplies_of d) o ≡ o
    port_roots zero less e = refl
    port_roots (suc zero) less e = refl
    port_roots (suc (suc o)) less e = refl

    no_input : (o i : ℕ) → input_of (supplies_of d) o ≡ Some i → ⊥
    no_input zero i e = let none : None ≡ Some i = e in absurd cc
    no_input (suc zero) i e = let none : None ≡ Some i = e in absurd cc
    no_input (suc (suc o)) i e = let none : None ≡ Some i = e in absurd cc

    switch_roots : (o i : ℕ) → input_of (supplies_of d) o ≡ Some i → root_of (supplies_of d) o ≡ root_of (supplies_of d) i
    switch_roots o i e = absurd (no_input o i e)

    inputs : (o i : ℕ) → input_of (supplies_of d) o ≡ Some i → i < 2
    inputs o i e = absurd (no_input o i e)

    ends : (o : ℕ) → o < 2 → ends_at_port (supplies_of d) 2 o ≡ true
    ends zero less = refl
    ends (suc zero) less = refl
    ends (suc (suc o)) less = refl

controls : (d : OneDomain) → HasControlsInside (project_of d)
controls d = record { strategies = strategies; switches = switches }
  where
    strategies : (t : ℕ) (x : Strategy) (k : Node) → slice_get the_intent.strategies t ≡ Some x → x.control ≡ Some k → is_outer k ≡ false
    strategies t x k e f = let none : None ≡ Some x = e in absurd cc

    switches : (o input : ℕ) (k : Node) (high : Bool) → slice_get (network_of (project_of d)).origins o ≡ Some (FromSwitch input k high) → is_outer k ≡ false
    switches zero input k high e = let other : Some FromPort ≡ Some (FromSwitch input k high) = e in absurd cc
    switches (suc zero) input k high e = let other : Some FromPort ≡ Some (FromSwitch input k high) = e in absurd cc
    switches (suc (suc o)) input k high e = let none : None ≡ Some (FromSwitch input k high) = e in absurd cc

pub is-read : OneDomainIsRead
is-read d source taken = record { netlist = source.netlist; library = source.library; network = network d taken.low; controls = controls d }
