-- Net bits of the source stand in the written netlist.
use Rattle.std.proofs.Common.{◌≡◌, ℕ, true, false, not, ◌&&◌, List, [], ◌∷◌, Option, Some, None, refl, ◌∙◌, ap, subst}
use Rattle.std.specs.Prelude.{bytes_eq, is_some, option_and_then}
use Rattle.std.proofs.lemmas.Bool.{false≢true, not-true}
use Rattle.std.specs.List.{list_any}
use Rattle.lp_model.specs.NetlistView.{PortView, ModuleView}
use Rattle.lp_spec_design.specs.Keys.{Name, Path, same_index, Node, Inner, Outer, Fixed, Way, Source}
use Rattle.lp_spec_design.specs.Netlists.{Structure, module_at, node_of, indices, is_input}
use Rattle.lp_spec_design.specs.Graph.{from_port, source_of}
use Rattle.lp_spec_design.specs.Reads.{name-true, one, other}
use Rattle.lp_spec_design.specs.Winners.{IsIn}
use Rattle.lp_spec_design.proofs.Members.{of-any}
use Rattle.lp_spec_faults.specs.Modules.{is_own}
use Rattle.lp_spec_realises.specs.Projects.{Project}
use Rattle.lp_spec_written.specs.Written.{Additions}
use Rattle.lp_spec_hub.specs.Spots.{Spot, OfNode}
use Rattle.lp_spec_hub.specs.Drives.{drive_by}
use Rattle.lp_spec_wired.specs.Contents.{IsWrittenAt}
use Rattle.lp_spec_wired.specs.Names.{name_by, placement_by}
use Rattle.lp_spec_wired.specs.Laws.{StandsFor}
use Rattle.lp_spec_driven.specs.Sound.{IsProper}
use Rattle.lp_spec_driven.proofs.Stand.{undriven-stand}
use Rattle.lp_spec_driven.proofs.Have.{cell-bits-stand, assign-bits-stand}
use Rattle.lp_spec_driven.proofs.Outer.{outer-sides-stand}
use Rattle.lp_spec_wires.specs.Standing.{is_top_bit, is_kept}
use Rattle.lp_spec_data_wires.proofs.Items.{Item, ByPort, ByCell, ByOutput, ByAssign, item}
use Rattle.lp_spec_data_wires.proofs.Lists.{inner-name}
use Rattle.lp_spec_data_wires.proofs.WaysIn.{top-in, low-in}
use Rattle.lp_spec_data_wires.proofs.Inputs.{top-node, low-node}
use Rattle.lp_spec_data_wires.proofs.Outputs.{output-node}

module _ (p : Project) (a : Additions) (w : Structure) (from : Way → Node) (written : IsWrittenAt p a w) (proper : IsProper p a from) where
  abbrev s : Structure
  s = p.structure

  abbrev Stands : Spot → Type 0
  Stands k = StandsFor p a w (placement_by p a) from k

  -- inside an input port
  port-node : (x : Path) (m : ModuleView) → module_at s x ≡ Some m → (q : PortView) → IsIn q m.ports → is_input q ≡ true → (i : Option ℕ) (z : Source) (more : List Source) → from_port s x q.name i q ≡ z ∷ more → Stands (OfNode (Inner q.name i x))
  port-node [] m e q q_in input i z more list = top-node p a w from written proper m e q q_in input i (top-in s q i z more list).0
  port-node (inst ∷ up) m e q q_in input i z more list =
      let it = low-in s q i z more inst up m e list in
      low-node p a w from written proper inst up m e q q_in input i (node_of up it.two.1) more (list ∙ ap (λ u. u ∷ more) it.is)

  module _ (x : Path) (m : ModuleView) (e : module_at s x ≡ Some m) (n : Name) (i : Option ℕ) (free : is_own n ≡ false) where
    name : (net : Name) × (l : Option ℕ) × (name_by p a (OfNode (Inner n i x)) ≡ Inner net l x)
    name = inner-name p a n i x

    by-item : (z : Source) → source_of s (Inner n i x) ≡ Some z → Item p x m n i z → Stands (OfNode (Inner n i x))
    by-item z source (ByPort h) =
        subst (λ u. Stands (OfNode (Inner u i x))) h.named
        (port-node x m e h.port h.listed h.input i z h.more (ap (λ u. from_port s x u i h.port) h.named ∙ h.is))
    by-item z source (ByCell h) =
        cell-bits-stand p a w from written proper x m e h.instance h.cell h.listed h.target h.pin.pin h.pin.listed h.pin.output h.pin.touched.bit h.pin.touched.listed n i free h.pin.touched.is name.0 name.1 name.2
    by-item z source (ByOutput h) = output-node p a w from written proper x m h.instance h.port h.index h.bit h.has n i free h.joins
    by-item z source (ByAssign h) = assign-bits-stand p a w from written proper x m e h.number h.place h.assign h.bits h.listed h.at n i free h.joins name.0 name.1 name.2

    pub inner-stands : Stands (OfNode (Inner n i x))
    inner-stands = by (source_of s (Inner n i x)) refl
      where
        by : (o : Option Source) → source_of s (Inner n i x) ≡ o → Stands (OfNode (Inner n i x))
        by None g = undriven-stand p a w from written proper (OfNode (Inner n i x)) free name.0 name.1 x name.2 m e (ap (option_and_then (λ z. Some (drive_by a.plan.operators z))) g)
        by (Some z) g = by-item z g (item p a from proper x m e n i z g)

  -- the outer side of a bit of a port of the top
  outer-stands : (n : Name) (i : Option ℕ) (o : Option ModuleView) → module_at s [] ≡ o → is_top_bit n i o ≡ true → Stands (OfNode (Outer n i))
  outer-stands n i None e h = absurd cc
  outer-stands n i (Some m) e h =
      let found = of-any (λ (q : PortView). bytes_eq q.name n && list_any (same_index i) (indices q.range)) m.ports h in
      subst (λ u. Stands (OfNode (Outer u i))) (name-true found.0.name n (one (bytes_eq found.0.name n) _ found.2))
      (outer-sides-stand p a w from written proper m e found.0 found.1 i (other (bytes_eq found.0.name n) _ found.2))

  -- each net bit of the source
  pub node-stands : (k : Node) → is_kept s k ≡ true → Stands (OfNode k)
  node-stands (Inner n i x) h = by (module_at s x) refl (other (not (is_own n)) _ h)
    where
      by : (o : Option ModuleView) → module_at s x ≡ o → is_some o ≡ true → Stands (OfNode (Inner n i x))
      by None e g = absurd (false≢true g)
      by (Some m) e g = inner-stands x m e n i (not-true (is_own n) (one (not (is_own n)) _ h))
  node-stands (Outer n i) h = outer-stands n i (module_at s []) refl h
  node-stands (Fixed b) h = record { first = refl; own = refl }
