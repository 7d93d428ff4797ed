-- Each module that is written is well formed, and so is the written netlist.
use Rattle.std.proofs.Common.{◌≡◌, ℕ, true, map, Some, ap, ◌∙◌}
use Rattle.std.specs.List.{list_all}
use Rattle.std.proofs.lemmas.Bool.{and_from}
use Rattle.lp_text.specs.Texts.{distinct}
use Rattle.lp_model.specs.NetlistView.{ModuleView}
use Rattle.lp_vwrite.specs.Layout.{declared}
use Rattle.lp_vwrite.specs.WellFormed.{is_name, is_net, is_instance, is_assign, names_of, is_module, IsWellFormed}
use Rattle.lp_spec_design.specs.Keys.{Path}
use Rattle.lp_spec_design.specs.Netlists.{module_at}
use Rattle.lp_spec_design.specs.Winners.{IsIn}
use Rattle.lp_spec_realises.specs.Projects.{Project}
use Rattle.lp_spec_realises.specs.Implements.{Lists}
use Rattle.lp_spec_faultless.specs.Faults.{IsRead}
use Rattle.lp_spec_written.specs.Written.{additions, module_name, written_module, written}
use Rattle.lp_spec_written_at.specs.Laws.{IsReady}
use Rattle.lp_spec_written_at.proofs.Lists.{all-of}
use Rattle.lp_spec_written_at.proofs.Modules.{from-modules, cells-listed, of-written}
use Rattle.lp_spec_written_at.proofs.ModuleNames.{module-names}
use Rattle.lp_spec_written_at.proofs.PartNames.{part-names}
use Rattle.lp_spec_proper.specs.Insertable.{IsInsertable, IsWithinLimits}
use Rattle.lp_spec_proper.proofs.Free.{ready}
use Rattle.lp_spec_legal.specs.Legal.{IsLegal}
use Rattle.lp_spec_legal.proofs.Names.{module-legal, read-parts}
use Rattle.lp_spec_legal.proofs.Nets.{nets-formed}
use Rattle.lp_spec_legal.proofs.Declares.{names-distinct}
use Rattle.lp_spec_legal.proofs.Instances.{instances-formed}
use Rattle.lp_spec_legal.proofs.Assigns.{assigns-formed}

module _ (p : Project) (l : Lists) (switch_command : ℕ → ℕ) (read : IsRead p) (insertable : IsInsertable p l switch_command) (limits : IsWithinLimits p l) (legal : IsLegal p) where
  is-ready : IsReady p l
  is-ready = ready p l switch_command read insertable limits

  pub module-formed : (x : Path) (m : ModuleView) → module_at p.structure x ≡ Some m → is_module (written_module p (additions p l) x m) ≡ true
  module-formed x m e =
      and_from (is_name (module_name p x m.name)) _ (module-legal p x m.name (read-parts p legal m there).name)
      (and_from (list_all is_net (declared w)) _ (nets-formed p legal (additions p l) x m there)
      (and_from (distinct (names_of w)) _ (names-distinct w (part-names p l is-ready.free is-ready.names is-ready.few x m e))
      (and_from (list_all (is_instance (declared w)) w.instances) (list_all (is_assign (declared w)) w.assigns)
      (instances-formed p l switch_command read insertable limits legal x m e) (assigns-formed p l switch_command read insertable limits legal x m e))))
    where
      w : ModuleView
      w = written_module p (additions p l) x m

      there : IsIn m p.structure.modules
      there = from-modules p.structure x m e

  pub written-formed : IsWellFormed (written p l)
  written-formed =
      and_from (distinct (map (λ (m : ModuleView). m.name) (written p l))) (list_all is_module (written p l)) (module-names p l is-ready.free)
      (all-of is_module (written p l) (λ k h.
      let of = of-written p (additions p l) is-ready.free (cells-listed p l) k h in
      ap is_module of.is ∙ module-formed of.path of.source of.at))
