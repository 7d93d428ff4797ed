-- The parts of the modules of the written netlist, and the pins of its cells, have names of their own.
use Rattle.std.proofs.Common.{◌≡◌, ℕ, List, ◌∷◌, ◌++◌, map, Option, Some, None, inl, inr, refl, sym, ◌∙◌, ap, subst}
use Rattle.std.specs.Prelude.{bytes_eq, is_some, if◌then◌else◌}
use Rattle.lp_model.specs.NetlistView.{InstanceView, ModuleView}
use Rattle.lp_model.specs.LibraryView.{CellView}
use Rattle.lp_spec_design.specs.Keys.{Name, Path}
use Rattle.lp_spec_design.specs.Netlists.{Structure, first, module_named, cell_named, module_at}
use Rattle.lp_spec_design.specs.Graph.{numbered}
use Rattle.lp_spec_design.specs.Winners.{IsIn}
use Rattle.lp_spec_design.proofs.Members.{in-either, of-map, of-pairs, of-flat, of-filter, of-numbered}
use Rattle.lp_spec_design.proofs.Sources.{first_in}
use Rattle.lp_spec_realises.specs.Projects.{Project}
use Rattle.lp_spec_realises.specs.ProjectNetlists.{netlist_of}
use Rattle.lp_spec_realises.specs.Implements.{Lists}
use Rattle.lp_spec_agreement.specs.Faultless.{IsSoundCell}
use Rattle.lp_spec_faultless.specs.Faults.{IsRead}
use Rattle.lp_spec_written.specs.Places.{Kept, operator_names, switches_in}
use Rattle.lp_spec_written.specs.Nets.{Linked, linked, stretches_in}
use Rattle.lp_spec_written.specs.Supplies.{kept_at}
use Rattle.lp_spec_written.specs.Written.{Additions, additions, kept_target, written_by_target, written_instance, written_operator, written_operators, named_operators, written_switch, written_switches, written_module}
use Rattle.lp_spec_wired.specs.Contents.{IsInstance, IsWrittenAt}
use Rattle.lp_spec_written_at.specs.Sources.{IsFree, IsListed, HasListedCells}
use Rattle.lp_spec_written_at.proofs.Modules.{cells-listed}
use Rattle.lp_spec_written_at.proofs.Paths.{source-by-names, source-at, of-instances}
use Rattle.lp_spec_written_at.proofs.Cells.{first-cell}
use Rattle.lp_spec_driven.proofs.Sources.{cell-is}
use Rattle.lp_spec_proper.specs.Insertable.{IsInsertable, IsWithinLimits}
use Rattle.lp_spec_proper.proofs.Base.{is-free}
use Rattle.lp_spec_proper.proofs.Cells.{sound-usable, source-sound}
use Rattle.lp_spec_sources.specs.Laws.{ContentHasOwnNames}

-- an instance that is one of a cell is one of no module
no-module : (w : Structure) (n : Name) (c : CellView) → cell_named w n ≡ Some c → module_named w n ≡ None
no-module w n c e = by (module_named w n) refl e
  where
    by : (o : Option ModuleView) → module_named w n ≡ o → (if is_some o then None else first (λ (k : CellView). bytes_eq k.name n) w.cells) ≡ Some c → module_named w n ≡ None
    by None is g = is
    by (Some m) is g = absurd cc

module _ (p : Project) (l : Lists) (switch_command : ℕ → ℕ) (read : IsRead p) (good : IsInsertable p l switch_command) (within : IsWithinLimits p l) (modules : List ModuleView) (written : IsWrittenAt p (additions p l) (netlist_of p modules)) where
  abbrev s : Structure
  s = p.structure

  abbrev w : Structure
  w = netlist_of p modules

  abbrev a : Additions
  a = additions p l

  free : IsFree p
  free = is-free p l switch_command read good within

  cells : HasListedCells p a
  cells = cells-listed p l

  -- a cell of the library that can be used is the first of its name
  listed-sound : (d c : CellView) → IsListed p d → first (λ (k : CellView). bytes_eq k.name d.name) s.cells ≡ Some c → IsSoundCell c
  listed-sound d c h e =
      let both : Some d ≡ Some c = sym (first-cell s.cells d within.cell_names h.listed) ∙ e in
      let same : d ≡ c = cc in
      subst IsSoundCell same (sound-usable p l switch_command read good d h.listed h.usable)

  module _ (x : Path) (m : ModuleView) (e : module_at s x ≡ Some m) (h : InstanceView) (c : CellView) (target : cell_named w h.target ≡ Some c) where
    -- of the cell of its target
    found-by : (v : InstanceView) → IsInstance w x v h → first (λ (k : CellView). bytes_eq k.name v.target) s.cells ≡ Some c
    found-by v is = sym (cell-is p a w written x v h is (sym is.inner ∙ no-module w h.target c target)) ∙ target

    by-kept : (y : InstanceView) → IsIn y m.instances → module_named s y.target ≡ None → (o : Option Kept) → kept_at a.plan (record { path = x; instance = y.name }) ≡ o
        → first (λ (k : CellView). bytes_eq k.name (kept_target y.target o)) s.cells ≡ Some c → IsSoundCell c
    by-kept y y_in none None g found = source-sound p l switch_command read good x m y c e y_in (ap (λ o. if is_some o then None else first (λ (k : CellView). bytes_eq k.name y.target) s.cells) none ∙ found)
    by-kept y y_in none (Some k) g found = listed-sound k.cell c (cells.registers k (first_in _ a.plan.registers k g).0) found

    by-source : (y : InstanceView) → IsIn y m.instances → (o : Option ModuleView) → module_named s y.target ≡ o → IsInstance w x (written_by_target p a x y o) h → IsSoundCell c
    by-source y y_in None g is = by-kept y y_in g (kept_at a.plan (record { path = x; instance = y.name })) refl (found-by (written_by_target p a x y None) is)
    by-source y y_in (Some inner) g is =
        let below : module_at s (y.name ∷ x) ≡ Some inner = sym (source-by-names p free x m y e y_in) ∙ g in
        let there = written.modules (y.name ∷ x) inner below in
        let bad : None ≡ Some there.here = sym (no-module w h.target c target) ∙ (is.inner ∙ there.is) in
        absurd cc

    by-written : (v : InstanceView) → IsIn v (written_module p a x m).instances → IsInstance w x v h → IsSoundCell c
    by-written v v_in is = elim (in-either v (map (written_instance p a x) m.instances) (written_operators p a x ++ written_switches p a x) v_in) [
      | inl q ↦ let y = of-map (written_instance p a x) v m.instances q in by-source y.0 y.1 (module_named s y.0.target) refl (subst (λ u. IsInstance w x u h) y.2 is)
      | inr q ↦ elim (in-either v (written_operators p a x) (written_switches p a x) q) [
        | inl r ↦
            let y = of-map (written_operator p a x) v (named_operators (linked p a.chains x)) r in
            let pair = of-pairs y.0 (operator_names 0 0 (map (λ (z : Linked). z.0.asked.operator) (linked p a.chains x))) (linked p a.chains x) y.1 in
            let stretch = of-flat _ y.0.1 (stretches_in a.chains x) pair.1 in
            let chain = of-filter _ stretch.0 a.chains stretch.1 in
            let standing = of-pairs y.0.1 stretch.0.operators _ stretch.2 in
            listed-sound y.0.1.0.cell c (cells.chains stretch.0 chain.0 y.0.1.0 standing.0) (found-by (written_operator p a x y.0) (subst (λ u. IsInstance w x u h) y.2 is))
        | inr r ↦
            let y = of-map (written_switch p a x) v (numbered 0 (switches_in a.plan x)) r in
            let there = of-filter _ y.0.1 a.plan.switches (of-numbered 0 y.0 (switches_in a.plan x) y.1) in
            listed-sound y.0.1.cell c (cells.switches y.0.1 there.0) (found-by (written_switch p a x y.0) (subst (λ u. IsInstance w x u h) y.2 is))
      ]
    ]

  sound : (x : Path) (here : ModuleView) (h : InstanceView) (c : CellView) → module_at w x ≡ Some here → IsIn h here.instances → cell_named w h.target ≡ Some c → IsSoundCell c
  sound x here h c f h_in target =
      let source = source-at p a w free written x here f in
      let of = of-instances w x (written_module p a x source.0).instances here.instances source.2.instances h h_in in
      by-written x source.0 source.1 h c target of.written of.among of.is

pub own-names : ContentHasOwnNames
own-names p l switch_command modules read good within written names = record {
  parts = names;
  pins = λ x here h c f h_in target. (sound p l switch_command read good within modules written x here h c f h_in target).names;
}
