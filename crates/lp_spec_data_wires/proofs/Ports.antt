-- The operators of a way in the flow of data, and those of the way of a bit of a port.
use Rattle.std.proofs.Common.{◌≡◌, ℕ, zero, suc, Bool, true, false, List, [], ◌∷◌, Option, Some, inl, inr, refl, sym, ◌∙◌, ap, subst}
use Rattle.std.specs.Prelude.{bytes_eq, filter, slice_get}
use Rattle.lp_model.specs.NetlistView.{PortView, ModuleView}
use Rattle.lp_spec_design.specs.Keys.{Path, same_path, same_bool, Node, Way, PortBit, same_way, From}
use Rattle.lp_spec_design.specs.Netlists.{Structure, module_at, is_input}
use Rattle.lp_spec_design.specs.Graph.{source_of}
use Rattle.lp_spec_design.specs.Domains.{way_of}
use Rattle.lp_spec_design.specs.Reads.{name-self}
use Rattle.lp_spec_design.specs.Winners.{IsIn}
use Rattle.lp_spec_design.proofs.Members.{of-filter}
use Rattle.lp_spec_realises.specs.Projects.{Project}
use Rattle.lp_spec_written.specs.Places.{Standing}
use Rattle.lp_spec_written.specs.Nets.{is_inside}
use Rattle.lp_spec_written.specs.Written.{Additions}
use Rattle.lp_spec_hub.specs.Spots.{OfNode, Before, on_way, is_behind}
use Rattle.lp_spec_wired.specs.Contents.{IsWrittenAt}
use Rattle.lp_spec_wired.specs.Names.{placement_by}
use Rattle.lp_spec_wired.specs.Laws.{StandsFor}
use Rattle.lp_spec_wired.proofs.Chains.{in-filter, way-true, boundary-port}
use Rattle.lp_spec_written_at.proofs.Instances.{bit-module}
use Rattle.lp_spec_driven.specs.Sound.{IsProper, node_behind, node_ahead}
use Rattle.lp_spec_driven.specs.Laws.{OperatorStands}
use Rattle.lp_spec_driven.proofs.Edges.{path_of_way, name_of_way}
use Rattle.lp_spec_driven.proofs.Operators.{slice-in}
use Rattle.lp_spec_driven.proofs.Made.{operators-stand}
use Rattle.lp_spec_data_wires.proofs.Flow.{Flows, Edged, edged-first, edged-at, last-behind}
use Rattle.lp_spec_data_wires.proofs.Lists.{before, module-above}

-- ---- any way

module _ (p : Project) (a : Additions) (w : Structure) (from : Way → Node) (written : IsWrittenAt p a w) (proper : IsProper p a from) where
  abbrev s : Structure
  s = p.structure

  -- an operator stands in an instance
  pub module-of : (o : Standing) → IsIn o a.plan.operators → (m : ModuleView) × (module_at s o.path ≡ Some m)
  module-of o h =
      let has = bit-module p o.asked.bit (proper.names.chains.bits o h) in
      elim (proper.on_ways.near o h) [
        | inl own ↦ (has.inner, ap (module_at s) own ∙ has.at)
        | inr up ↦ let above = module-above s o.asked.bit.path has.inner has.at in (above.0, ap (module_at s) up ∙ above.1)
      ]

  module _ (way : Way) where
    abbrev pub here : List Standing
    here = on_way a.plan.operators way

    pub on-plan : (o : Standing) → IsIn o here → IsIn o a.plan.operators × (way_of o.asked.bit ≡ way)
    on-plan o h = let found = of-filter (λ (t : Standing). same_way (way_of t.asked.bit) way) o a.plan.operators h in (found.0, way-true (way_of o.asked.bit) way found.1)

    pub flows : Flows here
    flows k o next f g side = proper.on_ways.flow way k o next f g side

    pub stands : (k : ℕ) (o : Standing) → slice_get here k ≡ Some o → OperatorStands p a w from way k o
    stands k o f = let m = module-of o (on-plan o (slice-in here k o f)).0 in operators-stand p a w from written proper way k o f m.0 m.1

    -- the net bit to which the way leads, where no operator stands behind the edge, or by the last one
    pub node-stands : (node : Node) → ((o : Standing) → IsIn o here → node_behind s o.asked.bit ≡ node) → (((o : Standing) → IsIn o here → is_behind o ≡ false) → StandsFor p a w (placement_by p a) from (OfNode node)) → StandsFor p a w (placement_by p a) from (OfNode node)
    node-stands node behind none = elim (last-behind here flows) [
      | inl all ↦ none all
      | inr last ↦
          subst (λ k. StandsFor p a w (placement_by p a) from (OfNode k)) (behind last.operator (slice-in here last.number last.operator last.at))
          ((stands last.number last.operator last.at).last last.side last.end)
    ]

    -- what an operator behind the edge reads, where it is the first one there, or by the one before it
    pub reading-stands : (k : ℕ) (o : Standing) → slice_get here k ≡ Some o → is_behind o ≡ true → (Edged here k o → StandsFor p a w (placement_by p a) from (Before way k)) → StandsFor p a w (placement_by p a) from (Before way k)
    reading-stands zero o f side first = first (edged-first here flows o f side)
    reading-stands (suc k) o f side first = by (is_behind u.0) refl
      where
        u : (u : Standing) × (slice_get here k ≡ Some u)
        u = before here k o f

        by : (d : Bool) → is_behind u.0 ≡ d → StandsFor p a w (placement_by p a) from (Before way (suc k))
        by true is = (stands k u.0 u.1).behind o is f
        by false is = first (edged-at here flows k u.0 o u.1 f is side)

    -- the way comes from the node that drives the one to which it leads
    pub comes-is : (o : Standing) → IsIn o here → (k j : Node) → node_behind s o.asked.bit ≡ k → source_of s k ≡ Some (From way j) → from way ≡ j
    comes-is o h k j behind source =
        let on = on-plan o h in
        let leads : Some (From way (node_ahead s o.asked.bit)) ≡ Some (From way j) =
        ap (λ v. Some (From v (node_ahead s o.asked.bit))) (sym on.1) ∙ (sym (proper.on_ways.leads o on.0) ∙ (ap (source_of s) behind ∙ source)) in
        ap from (sym on.1) ∙ (proper.comes o on.0 ∙ same-node leads)
      where
        same-node : {k2 l : Node} → Some (From way k2) ≡ Some (From way l) → k2 ≡ l
        same-node g = cc

  -- ---- the way of a bit of a port

  module _ (x : Path) (m : ModuleView) (e : module_at s x ≡ Some m) (q : PortView) (q_in : IsIn q m.ports) (i : Option ℕ) where
    abbrev pub bit_way : Way
    bit_way = PortBit x q.name i

    pub alone : filter (λ (r : PortView). bytes_eq r.name q.name) m.ports ≡ q ∷ []
    alone = proper.plain.ports x m q e q_in

    pub port-is : (o : Standing) → IsIn o (on_way a.plan.operators bit_way) → o.asked.bit.port ≡ q
    port-is o h =
        let on = on-plan bit_way o h in
        let port = boundary-port p o.asked.bit m (proper.names.chains.bits o on.0) (ap (λ v. module_at s (path_of_way v)) on.1 ∙ e) in
        elim (subst (λ l. IsIn o.asked.bit.port l) alone (in-filter (λ (r : PortView). bytes_eq r.name q.name) m.ports o.asked.bit.port port (ap (λ v. bytes_eq (name_of_way v) q.name) on.1 ∙ name-self q.name))) [ inl same ↦ same | inr none ↦ absurd none ]

    pub side-is : (o : Standing) → IsIn o (on_way a.plan.operators bit_way) → is_behind o ≡ same_bool (is_input q) (same_path o.path x)
    side-is o h =
        ap (λ t. same_bool t (is_inside o.path o.asked.bit)) (ap is_input (port-is o h))
        ∙ ap (λ v. same_bool (is_input q) (same_path o.path (path_of_way v))) (on-plan bit_way o h).1
