-- No way of the written netlist comes back to where it began.
use Rattle.std.proofs.Common.{◌≡◌, ℕ, zero, suc, Bool, true, false, not, ◌&&◌, [], ◌∷◌, ◌++◌, Option, Some, None, inl, inr, refl, sym, ap, ◌∙◌, subst}
use Rattle.std.specs.Prelude.{filter, flat_map, bytes_eq, is_some, if◌then◌else◌}
use Rattle.std.specs.List.{list_any}
use Rattle.lp_model.specs.NetlistView.{BitView, NetBit, SelectBit, ConstBit, PortView, ModuleView}
use Rattle.lp_spec_design.specs.Keys.{Name, Path, Node, Inner, Outer, Fixed, Way, PortBit, Source, CellPin, SwitchedPin, Environment, From, same_index}
use Rattle.lp_spec_design.specs.Netlists.{Structure, module_at, indices, node_of, is_input}
use Rattle.lp_spec_design.specs.Nodes.{HasFuel, inner_nodes, is_on_its_way}
use Rattle.lp_spec_design.specs.Graph.{numbered, from_port, ports_in, from_one, from_assign, in_module, source_of, way_in}
use Rattle.lp_spec_design.specs.Reads.{both}
use Rattle.lp_spec_design.specs.Winners.{IsIn}
use Rattle.lp_spec_design.proofs.Members.{in-either, of-flat}
use Rattle.lp_spec_design.proofs.Looped.{source_by}
use Rattle.lp_spec_faults.specs.Modules.{is_own}
use Rattle.lp_spec_realises.specs.Projects.{Project}
use Rattle.lp_spec_written.specs.Nets.{renamed, bit_of}
use Rattle.lp_spec_written.specs.Written.{Additions}
use Rattle.lp_spec_hub.specs.Spots.{Spot, OfNode, Behind, Before, Lead, Carried, Routed, Drive}
use Rattle.lp_spec_hub.specs.Drives.{drive}
use Rattle.lp_spec_wired.specs.Contents.{IsWrittenAt}
use Rattle.lp_spec_wired.specs.Names.{name_by, placement_by}
use Rattle.lp_spec_wired.specs.Laws.{done_of}
use Rattle.lp_spec_written_at.proofs.Lists.{none-any}
use Rattle.lp_spec_written_at.proofs.Modules.{in-instances}
use Rattle.lp_spec_written_at.proofs.Paths.{source-at}
use Rattle.lp_spec_driven.specs.Sound.{IsProper}
use Rattle.lp_spec_driven.specs.Wires.{IsThere, IsOfWire}
use Rattle.lp_spec_driven.proofs.Given.{sources-give}
use Rattle.lp_spec_driven.proofs.Sources.{in-by}
use Rattle.lp_spec_wires.specs.Standing.{is_wire, AllStand, HasPlaces}
use Rattle.lp_spec_added_wires.specs.Laws.{NoWireComesBack}
use Rattle.lp_spec_added_wires.proofs.Kept.{at-parent, head-in}
use Rattle.lp_spec_added_wires.proofs.WireRests.{wire-rests, outer-rests}
use Rattle.lp_spec_added_wires.proofs.Back.{Rests, not-on-its-way}

-- a bit of an instance has its path
bit-path : (b : BitView) (z y : Path) (n : Name) (i : Option ℕ) → node_of z b ≡ Inner n i y → z ≡ y
bit-path (NetBit m) z y n i e = cc
bit-path (SelectBit m j) z y n i e = cc
bit-path (ConstBit c) z y n i e = absurd cc

module _ (p : Project) (a : Additions) (w : Structure) (from : Way → Node) (written : IsWrittenAt p a w) (proper : IsProper p a from) (places : HasPlaces p a) (stand : AllStand p a w from) (fuel : HasFuel p.structure) where
  abbrev s : Structure
  s = p.structure

  -- what drives the net bit of a wire that is there drives a wire
  is-one : (x : Spot) (d : Drive) (n : Name) (i : Option ℕ) (y : Path) → IsThere p a x → name_by p a x ≡ Inner n i y → is_some (module_at s y) ≡ true → drive p (done_of a) from x ≡ Some d → is_wire p a from x ≡ true
  is-one (OfNode (Inner m j z)) d n i y there e has is =
      both (not (is_own m)) (is_some (module_at s z)) (ap not there) (ap (λ u. is_some (module_at s u)) (bit-path (renamed a.chains z (bit_of m j)) z y n i e) ∙ has)
  is-one (OfNode (Outer m j)) d n i y there e has is = let wrong : Outer m j ≡ Inner n i y = e in absurd cc
  is-one (OfNode (Fixed b)) d n i y there e has is = let wrong : Fixed b ≡ Inner n i y = e in absurd cc
  is-one (Behind v k) d n i y there e has is = ap is_some is
  is-one (Before v k) d n i y there e has is = ap is_some is
  is-one (Lead v) d n i y there e has is = ap is_some is
  is-one (Carried o z) d n i y there e has is = ap is_some is
  is-one (Routed t) d n i y there e has is = ap is_some is

  of-wire : (n : Name) (i : Option ℕ) (x : Path) (z : Source) → is_some (module_at s x) ≡ true → IsOfWire p a w (placement_by p a) from (Inner n i x) z → Rests w (Inner n i x)
  of-wire n i x z has of = subst (Rests w) of.name (wire-rests p a w from written proper places stand fuel of.wire (is-one of.wire of.driven n i x of.there of.name has of.is))

  -- ---- a net bit of an instance, where what its ports lead to rests

  module _ (x : Path) (n : Name) (i : Option ℕ) (ports : (v : Way) (j : Node) (q : PortView) → IsIn (From v j) (from_port w x n i q) → Rests w j) where
    led : (v : Way) (j : Node) → source_of w (Inner n i x) ≡ Some (From v j) → (here : ModuleView) → module_at w x ≡ Some here → Rests w (Inner n i x)
    led v j e here f =
        let of = source-at p a w proper.fit.free written x here f in
        let z : Source = From v j in
        let listed = head-in p a from proper places (in_module w x n i here) z (sym (source_by w (Inner n i x) (in_module w x n i here) (in-by w x n i here f)) ∙ e) in
        elim (in-either z (ports_in w x n i here) (flat_map (from_one w x n i) here.instances ++ flat_map (from_assign x n i) (numbered 0 here.assigns)) listed) [
          | inl port ↦
              let q = of-flat (from_port w x n i) z (filter (λ (r : PortView). bytes_eq r.name n && is_input r) here.ports) port in
              let more = ports v j q.0 q.2 in
              (suc more.0, (v, j, e, more.1))
          | inr rest ↦ of-wire n i x z (ap is_some of.1) (sources-give p a w from written proper x of.0 here of.1 (in-instances p a proper.fit.free proper.fit.listed x of.0 of.1) f n i z rest)
        ]

    in-module : (v : Way) (j : Node) → source_of w (Inner n i x) ≡ Some (From v j) → (o : Option ModuleView) → module_at w x ≡ o → Rests w (Inner n i x)
    in-module v j e None f = let none : None ≡ Some (From v j) = sym (source_by w (Inner n i x) [] (rw (f) refl)) ∙ e in absurd cc
    in-module v j e (Some here) f = led v j e here f

    by-source : (o : Option Source) → source_of w (Inner n i x) ≡ o → Rests w (Inner n i x)
    by-source None e = (zero, ap way_in e)
    by-source (Some (CellPin u m q)) e = (zero, ap way_in e)
    by-source (Some (SwitchedPin u m q)) e = (zero, ap way_in e)
    by-source (Some Environment) e = (zero, ap way_in e)
    by-source (Some (From v j)) e = in-module v j e (module_at w x) refl

  -- ---- by path

  from-top : (n : Name) (i : Option ℕ) (v : Way) (j : Node) (q : PortView) → IsIn (From v j) (from_port w [] n i q) → Rests w j
  from-top n i v j q h = by (list_any (same_index i) (indices q.range)) h
    where
      by : (b : Bool) → IsIn (From v j) (if b then From (PortBit [] n i) (Outer n i) ∷ [] else []) → Rests w j
      by true g = elim g [
        | inl is ↦ let same : Outer n i ≡ j = cc in subst (Rests w) same (outer-rests p a w from written proper places stand fuel n i)
        | inr none ↦ absurd none
      ]
      by false g = absurd g

  from-parent : (inst : Name) (up : Path) → ((n : Name) (i : Option ℕ) → Rests w (Inner n i up)) → (n : Name) (i : Option ℕ) (v : Way) (j : Node) (q : PortView) → IsIn (From v j) (from_port w (inst ∷ up) n i q) → Rests w j
  from-parent inst up above n i v j q h =
      let found = at-parent w inst up n i q (From v j) h in
      bit found.bit (the-node (PortBit (inst ∷ up) n i) v (node_of up found.bit) j found.is)
    where
      the-node : (u t : Way) (k l : Node) → From u k ≡ From t l → k ≡ l
      the-node u t k l e = cc

      bit : (b : BitView) → node_of up b ≡ j → Rests w j
      bit (NetBit m) e = subst (Rests w) e (above m None)
      bit (SelectBit m k) e = subst (Rests w) e (above m (Some k))
      bit (ConstBit c) e = subst (Rests w) e (zero, refl)

  inner-rests : (x : Path) (n : Name) (i : Option ℕ) → Rests w (Inner n i x)
  inner-rests [] n i = by-source [] n i (from-top n i) (source_of w (Inner n i [])) refl
  inner-rests (inst ∷ up) n i = by-source (inst ∷ up) n i (from-parent inst up (inner-rests up) n i) (source_of w (Inner n i (inst ∷ up))) refl

  pub rests : (k : Node) → Rests w k
  rests (Inner n i x) = inner-rests x n i
  rests (Outer n i) = outer-rests p a w from written proper places stand fuel n i
  rests (Fixed b) = (zero, refl)

pub no-wire-comes-back : NoWireComesBack
no-wire-comes-back p a w from written proper places stand fuel =
    none-any (is_on_its_way w) (inner_nodes w) (λ k h. not-on-its-way w k (rests p a w from written proper places stand fuel k))
