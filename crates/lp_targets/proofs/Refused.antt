-- The fault of the first module that contains itself, by the texts.
use Rattle.std.proofs.Common.{◌≡◌, ◌<◌, ℕ, zero, suc, true, List, [], ◌∷◌, length, Some, None, sym, ap, ◌∙◌, subst}
use Rattle.std.specs.Prelude.{codes, map, slice_get}
use Rattle.std.specs.Option.{option_map}
use Rattle.lp_text.specs.Texts.{text_at, distinct}
use Rattle.lp_text.specs.declared.names.NameId.{NameId}
use Rattle.lp_model.specs.declared.fault.netlist.NetlistFault.TheVariants as faults
use Rattle.lp_model.specs.declared.library.Library.{Library}
use Rattle.lp_model.specs.declared.netlist.Module.{Module}
use Rattle.lp_model.specs.declared.netlist.Netlist.{Netlist}
use Rattle.lp_model.specs.NetlistView.{ModuleView, module_view, netlist_view}
use Rattle.lp_order.specs.Order.{IsOrder}
use Rattle.lp_order.proofs.OrderLaws.{Reaches-within}
use Rattle.lp_targets.specs.declared.target.Target.{Target}
use Rattle.lp_targets.specs.Structures.{structure_of}
use Rattle.lp_targets.specs.Reports.{report_of, recursive_report}
use Rattle.lp_targets.specs.Targets.{AreTargets}
use Rattle.lp_targets.specs.Children.{children_of, children}
use Rattle.lp_loops.specs.Loops.{IsFirstLooped}
use Rattle.lp_targets.proofs.Closed.{count_map}
use Rattle.lp_targets.proofs.Recursion.{no_recursion}
use Rattle.lp_targets.proofs.FirstLooped.{first_place}

name_is : (texts : List (List ℕ)) (ms : List Module) (a : ℕ) (m : ModuleView) (name : NameId) → slice_get (map (module_view texts) ms) a ≡ Some m → slice_get (map (λ (x : Module). x.name) ms) a ≡ Some name → m.name ≡ text_at texts name.0
name_is texts [] a m name e h = cc
name_is texts (x ∷ ms) zero m name e h =
    let is : module_view texts x ≡ m = cc in
    let same : x.name ≡ name = cc in
    sym (ap (λ (v : ModuleView). v.name) is) ∙ ap (λ (k : NameId). text_at texts k.0) same
name_is texts (x ∷ ms) (suc a) m name e h = name_is texts ms a m name e h

-- the place of the first is a module's
pub place_within : (rows : List (List Target)) (n : ℕ) (a : ℕ) (g : List (List ℕ)) → g ≡ children rows → length rows ≡ n → IsFirstLooped g a → a < n
place_within rows n a g e count f =
    subst (λ k. a < k) (ap length e ∙ count_map children_of rows ∙ count) (Reaches-within g a a f.looped)

module _ (texts : List (List ℕ)) (n : Netlist) (apart : distinct (map (λ (m : ModuleView). m.name) (netlist_view texts n)) ≡ true) (rows : List (List Target)) (g : List (List ℕ)) (is_graph : g ≡ children rows) (l : Library) (targets : AreTargets (structure_of texts n l) rows) where
  pub recursive_said : (a : ℕ) (name : NameId) → IsFirstLooped g a → slice_get (map (λ (m : Module). m.name) n.modules) a ≡ Some name → recursive_report (structure_of texts n l) ≡ Some (report_of texts (faults.Recursive name))
  recursive_said a name f h =
      let s = structure_of texts n l in
      let at = first_place s rows targets apart a (subst (λ (x : List (List ℕ)). IsFirstLooped x a) is_graph f) in
      ap (option_map (λ (m : ModuleView). (codes "F17 Recursive", m.name ∷ []))) at.2
      ∙ ap (λ (t : List ℕ). Some (codes "F17 Recursive", t ∷ [])) (name_is texts n.modules a at.0 name at.1 h)

  pub none_said : (order : List ℕ) → IsOrder g order → recursive_report (structure_of texts n l) ≡ None
  none_said order o =
      ap (option_map (λ (m : ModuleView). (codes "F17 Recursive", m.name ∷ [])))
      (no_recursion (structure_of texts n l) rows order targets apart (subst (λ (x : List (List ℕ)). IsOrder x order) is_graph o))
