-- Each source of a net bit from the instances and the assigns of its module is what drives a wire that has this net bit.
use Rattle.std.proofs.Common.{◌≡◌, ◌⊎◌, ℕ, ◌+◌, false, not, ◌||◌, List, [], ◌∷◌, ◌++◌, map, Option, Some, None, inl, inr, refl, sym, ◌∙◌, ap, subst}
use Rattle.std.specs.Prelude.{filter, flat_map, is_some}
use Rattle.std.specs.List.{list_all}
use Rattle.std.proofs.lemmas.Bool.{false≢true, not-true}
use Rattle.lp_model.specs.NetlistView.{PortView, InstanceView, AssignView, ModuleView}
use Rattle.lp_model.specs.LibraryView.{CellView}
use Rattle.lp_spec_design.specs.Keys.{Name, Path, Node, Inner, Way, Source}
use Rattle.lp_spec_design.specs.Netlists.{Structure, module_named, cell_named, module_at, is_input}
use Rattle.lp_spec_design.specs.Graph.{numbered, some_of, joined_inside, from_target, from_one, from_assign}
use Rattle.lp_spec_design.specs.Winners.{IsIn}
use Rattle.lp_spec_design.proofs.Members.{in-either, of-map, of-flat, of-filter, of-numbered}
use Rattle.lp_spec_realises.specs.Projects.{Project}
use Rattle.lp_spec_realises.specs.ProjectNetlists.{is_known}
use Rattle.lp_spec_written.specs.Places.{instances, switches_in}
use Rattle.lp_spec_written.specs.Nets.{linked, stretches_in, renamed_assign, constant_assign}
use Rattle.lp_spec_written.specs.Routes.{control_ports, control_assigns}
use Rattle.lp_spec_written.specs.Written.{Additions, added_supply_ports, written_instance, written_operator, written_operators, named_operators, written_switch, written_switches, written_module}
use Rattle.lp_spec_wired.specs.Contents.{IsInstance, IsContent, IsWrittenAt}
use Rattle.lp_spec_wired.specs.Names.{placement_by}
use Rattle.lp_spec_written_at.proofs.Lists.{of-all}
use Rattle.lp_spec_written_at.proofs.Modules.{from-modules, written-name}
use Rattle.lp_spec_written_at.proofs.Paths.{source-by-names, of-instances}
use Rattle.lp_spec_driven.specs.Wires.{IsOfWire}
use Rattle.lp_spec_driven.specs.Sound.{IsProper}
use Rattle.lp_spec_driven.specs.Laws.{SourcesGive}
use Rattle.lp_spec_driven.proofs.SourceCells.{source-cells-give}
use Rattle.lp_spec_driven.proofs.Operators.{operators-give}
use Rattle.lp_spec_driven.proofs.Switches.{switches-give}
use Rattle.lp_spec_driven.proofs.Outputs.{outputs-give}
use Rattle.lp_spec_driven.proofs.Added.{added-outputs-give}
use Rattle.lp_spec_driven.proofs.Assigns.{assigns-give}
use Rattle.lp_spec_driven.proofs.AddedAssigns.{constants-give, control-assigns-give}

numbered-parts : {A : Type 0} (k : ℕ) (xs ys : List A) (u : ℕ × A) → IsIn u (numbered k (xs ++ ys)) → IsIn u (numbered k xs) ⊎ IsIn u.1 ys
numbered-parts k [] ys u h = inr (of-numbered k u ys h)
numbered-parts k (x ∷ xs) ys u (inl is) = inl (inl is)
numbered-parts k (x ∷ xs) ys u (inr h) = elim (numbered-parts (k + 1) xs ys u h) [ inl l ↦ inl (inr l) | inr r ↦ inr r ]

module _ (p : Project) (a : Additions) (w : Structure) (from : Way → Node) (written : IsWrittenAt p a w) (proper : IsProper p a from) (x : Path) (m here : ModuleView) (e : module_at p.structure x ≡ Some m) (there : IsIn x (instances p)) (f : module_at w x ≡ Some here)
    (n : Name) (i : Option ℕ) (z : Source) where
  abbrev s : Structure
  s = p.structure

  abbrev Result : Type 0
  Result = IsOfWire p a w (placement_by p a) from (Inner n i x) z

  content : IsContent w x (written_module p a x m) here
  content =
      let at = written.modules x m e in
      let same : Some at.here ≡ Some here = sym at.is ∙ f in
      let is : at.here ≡ here = cc in
      subst (IsContent w x (written_module p a x m)) is at.content

  -- ---- a module instance

  module _ (y h : InstanceView) (y_in : IsIn y m.instances) (is : IsInstance w x (written_instance p a x y) h) where
    by-module : (inner : ModuleView) → module_named s y.target ≡ Some inner → IsIn z (from_one w x n i h) → Result
    by-module inner target g =
        let below : module_at s (y.name ∷ x) ≡ Some inner = sym (source-by-names p proper.fit.free x m y e y_in) ∙ target in
        let at = written.modules (y.name ∷ x) inner below in
        let found : module_named w h.target ≡ Some at.here = is.inner ∙ (ap (λ k. module_at w (k ∷ x)) (written-name p a proper.fit.free proper.fit.listed x y) ∙ at.is) in
        let listed = subst (λ o. IsIn z (from_target x n i h o (cell_named w h.target))) found g in
        let port = of-flat (joined_inside x n i h at.here) z (filter (λ (q : PortView). not (is_input q)) at.here.ports) listed in
        let kept = of-filter (λ (q : PortView). not (is_input q)) port.0 at.here.ports port.1 in
        let output : is_input port.0 ≡ false = not-true _ kept.1 in
        elim (in-either port.0 inner.ports (added_supply_ports p a (y.name ∷ x) ++ control_ports a.controls (y.name ∷ x)) (subst (λ l. IsIn port.0 l) at.content.ports kept.0)) [
          | inl l ↦ outputs-give p a w (placement_by p a) from written proper.names proper.plain proper.fit proper.on_ways proper.comes x m e there y h inner y_in target is port.0 l output n i z at.here port.2
          | inr r ↦ added-outputs-give p a w (placement_by p a) from written proper.names proper.routes proper.plain proper.fit x m e y h inner y_in target is n i z at.here port.0 r output port.2
        ]

    by-target : (o : Option ModuleView) (c : Option CellView) → module_named s y.target ≡ o → cell_named s y.target ≡ c → IsIn z (from_one w x n i h) → Result
    by-target (Some inner) c t k g = by-module inner t g
    by-target None (Some c) t k g = source-cells-give p a w (placement_by p a) from written proper.plain proper.fit x m e y h c y_in k is n i z g
    by-target None None t k g =
        let known = of-all (is_known s) y m.instances (of-all (λ (q : ModuleView). list_all (is_known s) q.instances) m s.modules proper.fit.free.known (from-modules s x m e)) y_in in
        absurd (false≢true (sym (ap (λ q. is_some q || is_some (cell_named s y.target)) t ∙ ap is_some k) ∙ known))

  -- ---- an instance

  by-instance : (h : InstanceView) → IsIn h here.instances → IsIn z (from_one w x n i h) → Result
  by-instance h h_in g =
      let of = of-instances w x (written_module p a x m).instances here.instances content.instances h h_in in
      elim (in-either of.written (map (written_instance p a x) m.instances) (written_operators p a x ++ written_switches p a x) of.among) [
        | inl l ↦
            let source = of-map (written_instance p a x) of.written m.instances l in
            by-target source.0 h source.1 (subst (λ v. IsInstance w x v h) source.2 of.is) (module_named s source.0.target) (cell_named s source.0.target) refl refl g
        | inr r ↦ elim (in-either of.written (written_operators p a x) (written_switches p a x) r) [
          | inl o ↦
              let one = of-map (written_operator p a x) of.written (named_operators (linked p a.chains x)) o in
              operators-give p a w from written proper.names proper.fit proper.on_ways x m e there one.0 one.1 h (subst (λ v. IsInstance w x v h) one.2 of.is) n i z g
          | inr o ↦
              let one = of-map (written_switch p a x) of.written (numbered 0 (switches_in a.plan x)) o in
              switches-give p a w from written proper.fit proper.switches x m e one.0 one.1 h (subst (λ v. IsInstance w x v h) one.2 of.is) n i z g
        ]
      ]

  -- ---- an assign

  by-assign : (u : ℕ × AssignView) → IsIn u (numbered 0 here.assigns) → IsIn z (from_assign x n i u) → Result
  by-assign u u_in g =
      elim (numbered-parts 0 (map (renamed_assign a.chains x) m.assigns) (some_of (constant_assign p) (stretches_in a.chains x) ++ control_assigns a.chains a.controls x) u (subst (λ l. IsIn u (numbered 0 l)) content.assigns u_in)) [
        | inl l ↦ assigns-give p a w (placement_by p a) from proper.plain x m e n i z u l g
        | inr r ↦ elim (in-either u.1 (some_of (constant_assign p) (stretches_in a.chains x)) (control_assigns a.chains a.controls x) r) [
          | inl k ↦ constants-give p a w (placement_by p a) from proper.names proper.fit proper.on_ways proper.comes x there n i z u k g
          | inr k ↦ control-assigns-give p a w (placement_by p a) from proper.routes x n i z u k g
        ]
      ]

  pub gives-all : IsIn z (flat_map (from_one w x n i) here.instances ++ flat_map (from_assign x n i) (numbered 0 here.assigns)) → Result
  gives-all g =
      elim (in-either z (flat_map (from_one w x n i) here.instances) (flat_map (from_assign x n i) (numbered 0 here.assigns)) g) [
        | inl l ↦ let one = of-flat (from_one w x n i) z here.instances l in by-instance one.0 one.1 one.2
        | inr r ↦ let one = of-flat (from_assign x n i) z (numbered 0 here.assigns) r in by-assign one.0 one.1 one.2
      ]

pub sources-give : SourcesGive
sources-give p a w from written proper x m here e there f n i z g = gives-all p a w from written proper x m here e there f n i z g
