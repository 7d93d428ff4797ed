-- The worked project: a block whose supply, lower than the top's, comes through a power switch from a third one; its register is retained, and its output has a level shifter and then a clamp.
use Rattle.std.specs.Prelude.{false, [], ◌∷◌, Some, None, codes}
use Rattle.lp_model.specs.declared.intent.DeclaredState.TheVariants.{On}
use Rattle.lp_model.specs.declared.intent.Applies.TheVariants.{Outputs}
use Rattle.lp_model.specs.declared.supply.OriginKind.TheVariants.{Port, Switch}
use Rattle.lp_model.specs.declared.supply.Supplies.{Supplies}
use Rattle.lp_spec_design.proofs.Samples.{registered, with_strategies, isolation, shifting, retaining}
use Rattle.lp_spec_network.proofs.Samples.{origin, set_of}
use Rattle.lp_spec_fit.proofs.Samples.{buffer, clamp, shifter, register, retention_register, header}
use Rattle.lp_spec_realises.specs.Projects.{Project}
use Rattle.lp_spec_realises.specs.Implements.{Lists}

-- VDD, the top's, at 1.0; VDC, the block's, on where the top's en is 0; the ground; VDL at 0.8, which feeds the switch
abbrev pub supplies : Supplies
supplies = record {
  origins =
      origin 0 (Port (On 1000000 ∷ []))
      ∷ origin 3 (Switch (record { 0 = 3 }) (record { 0 = 1 }) false)
      ∷ origin 2 (Port [])
      ∷ origin 3 (Port (On 800000 ∷ []))
      ∷ [];
  rows = [];
  sets = Some (set_of 0) ∷ Some (set_of 1) ∷ [];
}

abbrev pub worked : Project
worked = record {
  structure = record { modules = registered.modules; cells = buffer ∷ clamp ∷ shifter ∷ register ∷ retention_register ∷ header ∷ [] };
  intent = with_strategies (isolation 1 None Outputs ∷ shifting 1 0 ∷ record (retaining None) { supply = Some 0 } ∷ []);
  supplies = supplies;
  margin = 0;
  origin_names = codes "VDD" ∷ codes "VDC" ∷ codes "VSS" ∷ codes "VDL" ∷ [];
}

-- no strategy names cells, and the switch is made in the top
abbrev pub lists : Lists
lists = record { of_strategy = λ k. None; of_switch = λ o. None; scope_of_switch = λ o. [] }
