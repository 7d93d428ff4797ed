-- In a netlist that has the written content at each path, each cell instance of the source is there, with its cell or the one that was chosen for it.
use Rattle.std.proofs.Common.{◌≡◌, Bool, true, false, not, List, [], ◌∷◌, map, Option, Some, None, inl, inr, refl, sym, ap, ◌∙◌, subst}
use Rattle.std.specs.Prelude.{bytes_eq, is_some, option_and_then, if◌then◌else◌}
use Rattle.std.specs.List.{list_any}
use Rattle.std.proofs.lemmas.Bool.{false≢true}
use Rattle.lp_model.specs.NetlistView.{InstanceView, ModuleView}
use Rattle.lp_model.specs.LibraryView.{CellView}
use Rattle.lp_spec_design.specs.Keys.{Name, Path}
use Rattle.lp_spec_design.specs.Netlists.{Structure, first, module_named, cell_named, instance_named, module_at}
use Rattle.lp_spec_design.specs.Instances.{Placed}
use Rattle.lp_spec_design.specs.Winners.{IsIn}
use Rattle.lp_spec_design.specs.Reads.{one, other, name-self, name-true}
use Rattle.lp_spec_design.proofs.Members.{any-in, in-map}
use Rattle.lp_spec_design.proofs.Sources.{then_is, first_in}
use Rattle.lp_spec_realises.specs.Projects.{Project}
use Rattle.lp_spec_realises.specs.ProjectNetlists.{are_apart}
use Rattle.lp_spec_realises.specs.Realises.{cell_of}
use Rattle.lp_spec_realises.specs.Implements.{Lists}
use Rattle.lp_spec_written.specs.Places.{Kept, plan}
use Rattle.lp_spec_written.specs.Supplies.{or_cell, kept_at, cell_for}
use Rattle.lp_spec_written.specs.Written.{Additions, additions, kept_target, written_by_target, written_instance, written_instances}
use Rattle.lp_spec_wired.specs.Contents.{IsInstance, AreInstances, IsWrittenAt}
use Rattle.lp_spec_written_at.specs.Sources.{IsFree, HasListedCells}
use Rattle.lp_spec_written_at.proofs.Modules.{written-name, some-written, cells-listed}
use Rattle.lp_spec_written_at.proofs.Paths.{source-by-names}

-- ---- the first of a name

pub first-cell : (cells : List CellView) (c : CellView) → are_apart (map (λ (k : CellView). k.name) cells) ≡ true → IsIn c cells → first (λ (k : CellView). bytes_eq k.name c.name) cells ≡ Some c
first-cell [] c e h = absurd h
first-cell (d ∷ ds) c e h = by (bytes_eq d.name c.name) refl h (first-cell ds c (other (not (list_any (bytes_eq d.name) (map (λ (k : CellView). k.name) ds))) (are_apart (map (λ (k : CellView). k.name) ds)) e))
  where
    names : List Name
    names = map (λ (k : CellView). k.name) ds

    by : (b : Bool) → bytes_eq d.name c.name ≡ b → IsIn c (d ∷ ds) → (IsIn c ds → first (λ (k : CellView). bytes_eq k.name c.name) ds ≡ Some c) → (if b then Some d else first (λ (k : CellView). bytes_eq k.name c.name) ds) ≡ Some c
    by true g (inl is) more = ap (λ k. Some k) (sym is)
    by true g (inr r) more =
        let found : list_any (bytes_eq d.name) names ≡ true = any-in (bytes_eq d.name) c.name names (in-map (λ (k : CellView). k.name) c ds r) g in
        let not_found : not (list_any (bytes_eq d.name) names) ≡ true = one (not (list_any (bytes_eq d.name) names)) (are_apart names) e in
        absurd (false≢true (sym (ap not found) ∙ not_found))
    by false g (inl is) more = absurd (false≢true (sym g ∙ (ap (λ (k : CellView). bytes_eq k.name c.name) (sym is) ∙ name-self c.name)))
    by false g (inr r) more = more r

-- the instance of a netlist that stands where one of the written content does
pub record Found (w : Structure) (x : Path) (n : Name) (y : InstanceView) (hs : List InstanceView) : Type 0 where
  pub here : InstanceView
  pub is : first (λ (k : InstanceView). bytes_eq k.name n) hs ≡ Some here
  pub instance : IsInstance w x y here

pub found-in : (w : Structure) (x : Path) (n : Name) (y : InstanceView) (ys hs : List InstanceView) → AreInstances w x ys hs → first (λ (k : InstanceView). bytes_eq k.name n) ys ≡ Some y → Found w x n y hs
found-in w x n y [] [] all e = absurd cc
found-in w x n y [] (h ∷ hs) all e = absurd all
found-in w x n y (z ∷ ys) [] all e = absurd all
found-in w x n y (z ∷ ys) (h ∷ hs) all e = by (bytes_eq z.name n) refl e (found-in w x n y ys hs all.1)
  where
    found : (b : Bool) → bytes_eq z.name n ≡ b → bytes_eq h.name n ≡ b
    found b g = ap (λ k. bytes_eq k n) all.0.name ∙ g

    by : (b : Bool) → bytes_eq z.name n ≡ b → (if b then Some z else first (λ (k : InstanceView). bytes_eq k.name n) ys) ≡ Some y → (first (λ (k : InstanceView). bytes_eq k.name n) ys ≡ Some y → Found w x n y hs) → Found w x n y (h ∷ hs)
    by true g at more =
        let same : z ≡ y = cc in
        record { here = h; is = ap (λ b. if b then Some h else first (λ (k : InstanceView). bytes_eq k.name n) hs) (found true g); instance = subst (λ k. IsInstance w x k h) same all.0 }
    by false g at more =
        let rest = more at in
        record { here = rest.here; is = ap (λ b. if b then Some h else first (λ (k : InstanceView). bytes_eq k.name n) hs) (found false g) ∙ rest.is; instance = rest.instance }

-- ---- a cell instance of the source

no-module : (s : Structure) (n : Name) (c : CellView) → cell_named s n ≡ Some c → (module_named s n ≡ None) × (first (λ (k : CellView). bytes_eq k.name n) s.cells ≡ Some c)
no-module s n c e = by (module_named s n) refl e
  where
    by : (o : Option ModuleView) → module_named s n ≡ o → (if is_some o then None else first (λ (k : CellView). bytes_eq k.name n) s.cells) ≡ Some c → (module_named s n ≡ None) × (first (λ (k : CellView). bytes_eq k.name n) s.cells ≡ Some c)
    by None g h = (g, h)
    by (Some m) g h = absurd cc

module _ (p : Project) (a : Additions) (w : Structure) (f : IsFree p) (is : IsWrittenAt p a w) (listed : HasListedCells p a) (apart : are_apart (map (λ (k : CellView). k.name) p.structure.cells) ≡ true) where
  abbrev s : Structure
  s = p.structure

  kept-cell : (n : Name) (place : Placed) (c : CellView) → first (λ (k : CellView). bytes_eq k.name n) s.cells ≡ Some c → first (λ (k : CellView). bytes_eq k.name (kept_target n (kept_at a.plan place))) s.cells ≡ or_cell (Some c) (kept_at a.plan place)
  kept-cell n place c e = by (kept_at a.plan place) refl
    where
      by : (o : Option Kept) → kept_at a.plan place ≡ o → first (λ (k : CellView). bytes_eq k.name (kept_target n o)) s.cells ≡ or_cell (Some c) o
      by None g = e
      by (Some k) g = first-cell s.cells k.cell apart (listed.registers k (first_in _ a.plan.registers k g).0).listed

  pub source-cell : (place : Placed) (c : CellView) → cell_of s place ≡ Some c → cell_of w place ≡ or_cell (Some c) (kept_at a.plan place)
  source-cell place c e =
      let x = place.path in
      let above = then_is (λ (k : ModuleView). option_and_then (λ (y : InstanceView). cell_named s y.target) (instance_named k place.instance)) (module_at s place.path) c e in
      let inst = then_is (λ (y : InstanceView). cell_named s y.target) (instance_named above.0 place.instance) c above.2 in
      let found = first_in (λ (y : InstanceView). bytes_eq y.name place.instance) above.0.instances inst.0 inst.1 in
      let name = name-true inst.0.name place.instance found.1 in
      let cell = no-module s inst.0.target c inst.2 in
      let at = is.modules place.path above.0 above.1 in
      let here = found-in w place.path place.instance (written_instance p a place.path inst.0) (written_instances p a place.path above.0) at.here.instances at.content.instances (some-written p a f listed place.path above.0 place.instance inst.0 inst.1) in
      let path : module_at w ((written_instance p a place.path inst.0).name ∷ place.path) ≡ None = ap (λ n. module_at w (n ∷ place.path)) (written-name p a f listed place.path inst.0) ∙ is.none (inst.0.name ∷ place.path) (sym (source-by-names p f place.path above.0 inst.0 above.1 found.0) ∙ cell.0) in
      let target : here.here.target ≡ kept_target inst.0.target (kept_at a.plan place) =
      here.instance.cell path
      ∙ (ap (λ o. (written_by_target p a place.path inst.0 o).target) cell.0
      ∙ ap (λ n. kept_target inst.0.target (kept_at a.plan (record { path = place.path; instance = n }))) name) in
      let no_module : module_named w here.here.target ≡ None = here.instance.inner ∙ path in
      ap (λ o. option_and_then (λ (m : ModuleView). option_and_then (λ (y : InstanceView). cell_named w y.target) (instance_named m place.instance)) o) at.is
      ∙ (ap (λ o. option_and_then (λ (y : InstanceView). cell_named w y.target) o) here.is
      ∙ (ap (λ o. if is_some o then None else first (λ (k : CellView). bytes_eq k.name here.here.target) w.cells) no_module
      ∙ (ap (λ cells. first (λ (k : CellView). bytes_eq k.name here.here.target) cells) is.cells
      ∙ (ap (λ n. first (λ (k : CellView). bytes_eq k.name n) s.cells) target ∙ kept-cell inst.0.target place c cell.1))))

pub source-cells : (p : Project) (l : Lists) (w : Structure) → IsFree p → are_apart (map (λ (k : CellView). k.name) p.structure.cells) ≡ true → IsWrittenAt p (additions p l) w → (place : Placed) (c : CellView) → cell_of p.structure place ≡ Some c → cell_of w place ≡ cell_for p (plan p l) place
source-cells p l w f apart is place c e = source-cell p (additions p l) w f is (cells-listed p l) apart place c e ∙ ap (λ o. or_cell o (kept_at (plan p l) place)) (sym e)
