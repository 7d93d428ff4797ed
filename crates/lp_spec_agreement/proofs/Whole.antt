-- The theorem of insertion: what is shown of single cells, put together.
use Rattle.std.proofs.Common.{◌≡◌, ℕ, List, [], ◌∷◌, map, Option, inl, inr, refl, ap, ◌∙◌}
use Rattle.lp_model.specs.NetlistView.{ModuleView}
use Rattle.lp_spec_design.specs.Keys.{Name}
use Rattle.lp_spec_design.specs.Runs.{output_bits}
use Rattle.lp_spec_design.specs.Winners.{IsIn}
use Rattle.lp_spec_pins.specs.Runs.{trace_by_pins}
use Rattle.lp_spec_realises.specs.Operators.{Placement}
use Rattle.lp_spec_realises.specs.Projects.{Project}
use Rattle.lp_spec_realises.specs.ProjectNetlists.{netlist_of}
use Rattle.lp_spec_realises.specs.Surroundings.{powered_of}
use Rattle.lp_spec_realises.specs.Tops.{index_across}
use Rattle.lp_spec_agreement.specs.Cells.{bit_across}
use Rattle.lp_spec_agreement.specs.Laws.{AgreesByRegisters, Agreement, AgreementByIndices}
use Rattle.lp_spec_agreement.proofs.ByCells.{agrees_by_cells}
use Rattle.lp_spec_agreement.proofs.OperatorsShow.{operators_agree}
use Rattle.lp_spec_agreement.proofs.RegistersKept.{registers_agree}
use Rattle.lp_spec_agreement.proofs.SourcesShow.{sources_agree}
use Rattle.lp_spec_agreement.proofs.SwitchesShow.{switches_agree, outputs_agree}

pub agrees_by_registers : AgreesByRegisters
agrees_by_registers p good modules real supplied registers =
    agrees_by_cells p good modules real
    (record {
      sources = sources_agree p good modules real supplied;
      operators = operators_agree p good modules real supplied;
      switches = switches_agree p good modules real supplied;
      outputs = outputs_agree p good modules real supplied;
      registers = registers;
    })

pub agreement : Agreement
agreement p good modules real supplied = agrees_by_registers p good modules real supplied (registers_agree p good modules real supplied)

same_bits : (p : Project) (modules : List ModuleView) (place : Placement) (bits : List (Name × Option ℕ)) → ((b : Name × Option ℕ) → IsIn b bits → index_across p.structure (netlist_of p modules) b.0 b.1 ≡ b.1) → map (bit_across p modules place) bits ≡ bits
same_bits p modules place [] all = refl
same_bits p modules place (b ∷ bits) all = λ i. (b.0, all b (inl refl) i) ∷ same_bits p modules place bits (λ c h. all c (inr h)) i

pub agreement_by_indices : AgreementByIndices
agreement_by_indices p good modules real supplied keeps events within at_pins same states by_pins begin =
    let runs = agreement p good modules real supplied events within at_pins same states by_pins begin in
    record {
      intent = runs.intent;
      pins = runs.pins;
      traces = runs.traces ∙ ap (λ z. trace_by_pins (powered_of p modules real.placement) z runs.pins.run) (same_bits p modules real.placement (output_bits p.structure) keeps);
      registers = runs.registers;
    }
