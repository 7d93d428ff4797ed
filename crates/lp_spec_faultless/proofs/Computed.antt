-- That controls are net bits is needed: the control of a clamp at a top output is the outer side of that output here, so the outer side reads itself, while no net bit depends on itself.
use Rattle.std.specs.Prelude.{codes}
use Rattle.std.proofs.Common.{◌≡◌, true, [], ◌∷◌, Some, None, inl, inr, refl, sym, ◌∙◌, ap}
use Rattle.std.proofs.lemmas.Bool.{false≢true, cases_Bool}
use Rattle.lp_model.specs.declared.intent.Applies.TheVariants.{Outputs}
use Rattle.lp_spec_settling.specs.Settling.{has, HasOrder}
use Rattle.lp_spec_settling.proofs.Laws.{order-no_loop}
use Rattle.lp_spec_design.specs.Keys.{Outer}
use Rattle.lp_spec_design.specs.Intents.{AtPort}
use Rattle.lp_spec_design.specs.Nodes.{computing}
use Rattle.lp_spec_design.specs.Settled.{Key, At}
use Rattle.lp_spec_design.specs.Reads.{keys, reads}
use Rattle.lp_spec_design.proofs.Samples.{with_strategies, isolation}
use Rattle.lp_spec_realises.specs.Projects.{Project, design_of}
use Rattle.lp_spec_realises.proofs.Samples.{project}
use Rattle.lp_spec_faults.specs.Lines.{first_of}
use Rattle.lp_spec_faults.specs.Readings.{loop}
use Rattle.lp_spec_faultless.specs.Faults.{loop_steps}

abbrev output : Key
output = At (Outer (codes "y") None)

abbrev by_its_output : Project
by_its_output = project (with_strategies (record (isolation 0 (Some (AtPort [] (codes "y") ∷ [])) Outputs) { control = Some (Outer (codes "y") None) } ∷ []))

no_net_bit_loops : first_of (loop by_its_output (loop_steps by_its_output)) ≡ None
unfolding computing
no_net_bit_loops = refl

the_output_reads_itself : has keys output (reads (design_of by_its_output) output) ≡ true
unfolding computing
the_output_reads_itself = refl

without_order : HasOrder keys (reads (design_of by_its_output)) → ⊥
without_order o = elim (cases_Bool (has keys output o.order)) [
  | inl h ↦ order-no_loop keys (reads (design_of by_its_output)) o.order o.is_order output h ([], the_output_reads_itself)
  | inr h ↦ false≢true (sym (ap (has keys output) (o.covers output h)) ∙ the_output_reads_itself)
]
