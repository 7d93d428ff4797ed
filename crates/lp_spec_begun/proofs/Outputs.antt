-- Each output of the top begins in the written netlist where it has to.
use Rattle.std.proofs.Common.{◌≡◌, ℕ, Bool, true, false, not, ◌&&◌, List, [], ◌∷◌, ◌++◌, map, Option, Some, None, refl, sym, ap, ◌∙◌, subst}
use Rattle.std.specs.Prelude.{bytes_eq, filter, flat_map, if◌then◌else◌}
use Rattle.std.specs.List.{list_any}
use Rattle.lp_model.specs.NetlistView.{PortView, ModuleView}
use Rattle.lp_spec_design.specs.Keys.{Name, same_index, Node, Outer}
use Rattle.lp_spec_design.specs.Netlists.{Structure, first, module_at, indices, is_input}
use Rattle.lp_spec_design.specs.Nodes.{fuel_of}
use Rattle.lp_spec_design.specs.Graph.{pairs, Reader, TopOutput, top_outputs}
use Rattle.lp_spec_design.specs.Reads.{both, name-self, index-true}
use Rattle.lp_spec_design.specs.Winners.{IsIn}
use Rattle.lp_spec_design.proofs.Members.{of-map, of-flat, of-filter, any-in}
use Rattle.lp_spec_realises.specs.Projects.{Project}
use Rattle.lp_spec_realises.specs.Implements.{Lists}
use Rattle.lp_spec_realises.specs.Ends.{wire_end, intended}
use Rattle.lp_spec_realises.specs.Realises.{output_begins}
use Rattle.lp_spec_realises.specs.Tops.{ports_of, top_ports, beside, index_between, top_port, index_across}
use Rattle.lp_spec_written.specs.Written.{Additions, additions}
use Rattle.lp_spec_written.specs.Supplies.{supply_ports}
use Rattle.lp_spec_written.specs.Routes.{control_ports}
use Rattle.lp_spec_hub.specs.Laws.{EndsAsWired, WholePlan}
use Rattle.lp_spec_wired.specs.Contents.{IsWrittenAt}
use Rattle.lp_spec_wired.specs.Names.{placement_of}
use Rattle.lp_spec_wired.proofs.Lists.{first-left}
use Rattle.lp_spec_wires.specs.Standing.{is_top_bit}
use Rattle.lp_spec_begun.specs.Begun.{HasWires}
use Rattle.lp_spec_begun.proofs.Ends.{index-self, end-is, at-node}

-- ---- indices of the top's ports

beside-itself : (i : Option ℕ) (xs : List (Option ℕ)) → beside i (pairs xs xs) ≡ i
beside-itself i [] = refl
beside-itself i (x ∷ xs) = by (same_index i x) refl (beside-itself i xs)
  where
    by : (b : Bool) → same_index i x ≡ b → beside i (pairs xs xs) ≡ i → (if b then x else beside i (pairs xs xs)) ≡ i
    by true e more = sym (index-true i x e)
    by false e more = more

module _ (p : Project) (a : Additions) (w : Structure) (at : IsWrittenAt p a w) where
  -- the ports of the source come first
  ports-first : (more : List PortView) × (top_ports w ≡ top_ports p.structure ++ more)
  ports-first = by (module_at p.structure []) refl
    where
      by : (o : Option ModuleView) → module_at p.structure [] ≡ o → (more : List PortView) × (top_ports w ≡ ports_of (module_at p.structure []) ++ more)
      by None e = ([], ap ports_of (at.none [] e) ∙ sym (ap (λ o. ports_of o ++ []) e))
      by (Some m) e =
          let there = at.modules [] m e in
          let added = supply_ports p a.plan a.uses [] ++ control_ports a.controls [] in
          (added, ap ports_of there.is ∙ (there.content.ports ∙ sym (ap (λ o. ports_of o ++ added) e)))

  pub keeps-index : (n : Name) (i : Option ℕ) → index_across p.structure w n i ≡ i
  keeps-index n i = by (top_port p.structure n) refl
    where
      by : (o : Option PortView) → top_port p.structure n ≡ o → index_between i o (top_port w n) ≡ i
      by None e = refl
      by (Some q) e =
          ap (index_between i (Some q)) (ap (first (λ (r : PortView). bytes_eq r.name n)) ports-first.1 ∙ first-left (λ (r : PortView). bytes_eq r.name n) (top_ports p.structure) ports-first.0 q e)
          ∙ beside-itself i (indices q.range)

-- ---- outputs

outputs-of : (s : Structure) (m : ModuleView) → module_at s [] ≡ Some m → top_outputs s ≡ flat_map (λ (port : PortView). map (λ i. (TopOutput port.name i, Outer port.name i)) (indices port.range)) (filter (λ (port : PortView). not (is_input port)) m.ports)
outputs-of s m e = rw (e) refl

outputs-none : (s : Structure) → module_at s [] ≡ None → top_outputs s ≡ []
outputs-none s e = rw (e) refl

top-bit : (q : PortView) (i : Option ℕ) (m : ModuleView) → IsIn q m.ports → IsIn i (indices q.range) → is_top_bit q.name i (Some m) ≡ true
top-bit q i m h g =
    any-in (λ (r : PortView). bytes_eq r.name q.name && list_any (same_index i) (indices r.range)) q m.ports h
    (both (bytes_eq q.name q.name) (list_any (same_index i) (indices q.range)) (name-self q.name) (any-in (same_index i) i (indices q.range) g (index-self i)))

module _ (ends : EndsAsWired) (whole : WholePlan) (p : Project) (l : Lists) (w : Structure) (h : HasWires p l w) where
  outer-begins : (q : PortView) (i : Option ℕ) (m : ModuleView) → module_at p.structure [] ≡ Some m → IsIn q m.ports → IsIn i (indices q.range) → output_begins p w (placement_of p l) (fuel_of w) (TopOutput q.name i, Outer q.name i) ≡ true
  outer-begins q i m e g f =
      end-is _ (intended p w (placement_of p l) (Outer q.name i))
      (ap (λ j. wire_end w (fuel_of w) (Outer q.name j)) (keeps-index p (additions p l) w h.content q.name i)
      ∙ at-node ends whole p l w h (Outer q.name i) (ap (is_top_bit q.name i) e ∙ top-bit q i m g f))

  pub outputs-begin : (r : Reader × Node) → IsIn r (top_outputs p.structure) → output_begins p w (placement_of p l) (fuel_of w) r ≡ true
  outputs-begin r g = by (module_at p.structure []) refl
    where
      by : (o : Option ModuleView) → module_at p.structure [] ≡ o → output_begins p w (placement_of p l) (fuel_of w) r ≡ true
      by None e = absurd (subst (λ z. IsIn r z) (outputs-none p.structure e) g)
      by (Some m) e =
          let port = of-flat (λ (q : PortView). map (λ i. (TopOutput q.name i, Outer q.name i)) (indices q.range)) r (filter (λ (q : PortView). not (is_input q)) m.ports) (subst (λ z. IsIn r z) (outputs-of p.structure m e) g) in
          let bit = of-map (λ i. (TopOutput port.0.name i, Outer port.0.name i)) r (indices port.0.range) port.2 in
          ap (output_begins p w (placement_of p l) (fuel_of w)) bit.2
          ∙ outer-begins port.0 bit.0 m e (of-filter (λ (q : PortView). not (is_input q)) port.0 m.ports port.1).0 bit.1
