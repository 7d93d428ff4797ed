-- Where no instance is of an unfit cell, no target begins as the added names.
use Rattle.std.proofs.Common.{◌≡◌, true, false, not, ◌||◌, Option, Some, None, inl, refl, sym, ap, ◌∙◌}
use Rattle.std.specs.Prelude.{flat_map, is_some, option_and_then, bytes_eq, if◌then◌else◌}
use Rattle.std.specs.List.{list_any, list_all}
use Rattle.std.proofs.lemmas.Bool.{false≢true}
use Rattle.lp_model.specs.declared.reason.Reason.{Reason}
use Rattle.lp_model.specs.declared.fault.netlist.UnfitReason.TheVariants as unfit
use Rattle.lp_model.specs.NetlistView.{InstanceView, ModuleView}
use Rattle.lp_model.specs.LibraryView.{CellView}
use Rattle.lp_spec_design.specs.Netlists.{Structure, first, module_named, cell_named}
use Rattle.lp_spec_design.specs.Winners.{IsIn}
use Rattle.lp_spec_design.specs.Reads.{name-true}
use Rattle.lp_spec_design.proofs.Members.{in-flat, of-map, of-flat}
use Rattle.lp_spec_design.proofs.Sources.{first_in}
use Rattle.lp_spec_fit.specs.Fits.{is_usable}
use Rattle.lp_spec_realises.specs.ProjectNetlists.{is_known, knows_its_targets}
use Rattle.lp_spec_faults.specs.Lines.{first_of}
use Rattle.lp_spec_faults.specs.Modules.{OfModule, names_of, is_own, is_cell, is_reserved, InstanceAt, instances_of, all_instances, unfit_reason, reason_at, unfit_cell}
use Rattle.lp_spec_written_at.specs.Sources.{takes_own_name, has_own_target}
use Rattle.lp_spec_written_at.proofs.Lists.{none-any, any-none, of-all}
use Rattle.lp_spec_written_at.proofs.Modules.{left-false, right-of}
use Rattle.lp_spec_written_at.proofs.NoLack.{none-passes}

reason-is : (c : CellView) (r : Reason) → c.unusable ≡ Some r → unfit_reason c ≡ Some (unfit.Unusable r)
reason-is c r e = rw (e) refl

fit-usable : (c : CellView) → is_some (unfit_reason c) ≡ false → is_usable c ≡ true
fit-usable c e = by c.unusable refl
  where
    by : (o : Option Reason) → c.unusable ≡ o → is_usable c ≡ true
    by None g = ap (λ q. not (is_some q)) g
    by (Some r) g = absurd (false≢true (sym e ∙ ap is_some (reason-is c r g)))

pub targets-free : (s : Structure) → list_any (is_reserved s) (flat_map names_of s.modules) ≡ false → list_any takes_own_name s.cells ≡ false → knows_its_targets s ≡ true → first_of (unfit_cell s) ≡ None → list_any has_own_target (all_instances s) ≡ false
targets-free s names cells known fit = none-any has_own_target (all_instances s) each
  where
    module-free : (m : ModuleView) → IsIn m s.modules → is_own m.name ≡ false
    module-free m h = left-false (is_own m.name) (is_cell s m.name) (any-none (is_reserved s) (OfModule m.name) (flat_map names_of s.modules) names (in-flat names_of m (OfModule m.name) s.modules h (inl refl)))

    cell-free : (x : InstanceAt) (c : CellView) → is_some (reason_at s x) ≡ false → cell_named s x.instance.target ≡ Some c → IsIn c s.cells → is_own c.name ≡ false
    cell-free x c e g h =
        right-of (is_usable c) (is_own c.name) (fit-usable c (ap (λ o. is_some (option_and_then unfit_reason o)) (sym g) ∙ e)) (any-none takes_own_name c s.cells cells h)

    by-cell : (x : InstanceAt) → is_some (reason_at s x) ≡ false → module_named s x.instance.target ≡ None → (o : Option CellView) → first (λ (c : CellView). bytes_eq c.name x.instance.target) s.cells ≡ o → is_some o ≡ true → is_own x.instance.target ≡ false
    by-cell x e none None g some = absurd (false≢true some)
    by-cell x e none (Some c) g some =
        let at = first_in (λ (k : CellView). bytes_eq k.name x.instance.target) s.cells c g in
        let named : cell_named s x.instance.target ≡ Some c = ap (λ o. if is_some o then None else first (λ (k : CellView). bytes_eq k.name x.instance.target) s.cells) none ∙ g in
        ap is_own (sym (name-true c.name x.instance.target at.1)) ∙ cell-free x c e named at.0

    by-module : (x : InstanceAt) → is_some (reason_at s x) ≡ false → is_known s x.instance ≡ true → (o : Option ModuleView) → module_named s x.instance.target ≡ o → is_own x.instance.target ≡ false
    by-module x e k (Some m) g =
        let at = first_in (λ (n : ModuleView). bytes_eq n.name x.instance.target) s.modules m g in
        ap is_own (sym (name-true m.name x.instance.target at.1)) ∙ module-free m at.0
    by-module x e k None g =
        by-cell x e g (first (λ (c : CellView). bytes_eq c.name x.instance.target) s.cells) refl
        (ap (λ o. is_some o || is_some (if is_some o then None else first (λ (c : CellView). bytes_eq c.name x.instance.target) s.cells)) (sym g) ∙ k)

    each : (x : InstanceAt) → IsIn x (all_instances s) → has_own_target x ≡ false
    each x h =
        let m = of-flat instances_of x s.modules h in
        let i = of-map (λ (y : InstanceView). record { parent = m.0; instance = y }) x m.0.instances m.2 in
        let is : is_known s x.instance ≡ true = ap (λ (z : InstanceAt). is_known s z.instance) i.2 ∙ of-all (is_known s) i.0 m.0.instances (of-all (λ (n : ModuleView). list_all (is_known s) n.instances) m.0 s.modules known m.1) i.1 in
        by-module x (none-passes (λ (z : InstanceAt). is_some (reason_at s z)) (all_instances s) x fit h) is (module_named s x.instance.target) refl
