-- What a pin that reads a control is connected to: the net bit of the control where it has come to.
use Rattle.std.proofs.Common.{◌≡◌, ℕ, Bool, true, false, ◌||◌, List, [], ◌∷◌, map, Option, Some, None, inl, inr, refl, sym, ap, ◌∙◌}
use Rattle.std.specs.Prelude.{is_some, flat_map, if◌then◌else◌}
use Rattle.std.proofs.lemmas.Bool.{false≢true, true≢false}
use Rattle.lp_model.specs.NetlistView.{PortView, NetView, ModuleView}
use Rattle.lp_spec_design.specs.Keys.{Name, Path, same_path, Node, Inner, Outer, Fixed}
use Rattle.lp_spec_design.specs.Netlists.{Structure, first, module_at, node_of, indices}
use Rattle.lp_spec_design.specs.Nodes.{fuel_of, nodes_in}
use Rattle.lp_spec_design.specs.Reads.{path-true}
use Rattle.lp_spec_design.specs.Graph.{when}
use Rattle.lp_spec_design.specs.Winners.{IsIn}
use Rattle.lp_spec_design.proofs.Members.{in-either, of-flat, of-map, any-in}
use Rattle.lp_spec_design.proofs.Sources.{first_in}
use Rattle.lp_spec_faults.specs.Modules.{is_own}
use Rattle.lp_spec_realises.specs.Projects.{Project}
use Rattle.lp_spec_realises.specs.Implements.{Lists}
use Rattle.lp_spec_realises.specs.Ends.{some_end, intended}
use Rattle.lp_spec_written.specs.Places.{plan}
use Rattle.lp_spec_written.specs.Nets.{bit_of, renamed}
use Rattle.lp_spec_written.specs.Routes.{routes, Part, PortOut, Between, PortIn, same_part, has_part, parts_in, control_net, carried, control_bits}
use Rattle.lp_spec_written.specs.Written.{Additions, additions}
use Rattle.lp_spec_hub.specs.Spots.{OfNode, Routed, FromSpot}
use Rattle.lp_spec_hub.specs.Drives.{part_at, part_in, control_spot, part_from, drive_part, comes_from}
use Rattle.lp_spec_hub.specs.Entries.{is_control, carries}
use Rattle.lp_spec_hub.specs.Laws.{EndsAsWired, WholePlan, RoutesAreSound, RoutesCome}
use Rattle.lp_spec_wired.specs.Laws.{IsOneWay}
use Rattle.lp_spec_wired.specs.Names.{name_of_part, name_by, placement_of}
use Rattle.lp_spec_wired.proofs.Controls.{in-here, carried-as}
use Rattle.lp_spec_written_at.specs.Sources.{IsNetBit, node_of_bits}
use Rattle.lp_spec_written_at.proofs.Modules.{from-modules, free-port, free-net}
use Rattle.lp_spec_wires.specs.Standing.{is_wire}
use Rattle.lp_spec_begun.specs.Begun.{HasWires}
use Rattle.lp_spec_begun.proofs.Bits.{kept-inner}
use Rattle.lp_spec_begun.proofs.Ends.{begin, at-wire}

-- ---- declared net bits have free names

declared-free : (p : Project) (l : Lists) (w : Structure) → HasWires p l w → (x : Path) (m : ModuleView) → module_at p.structure x ≡ Some m → (n : Name) (i : Option ℕ) → IsIn (Inner n i x) (nodes_in x (Some m)) → is_own n ≡ false
declared-free p l w h x m e n i g =
    elim (in-either (Inner n i x) (flat_map (λ (q : PortView). map (λ j. Inner q.name j x) (indices q.range)) m.ports) (flat_map (λ (v : NetView). map (λ j. Inner v.name j x) (indices v.range)) m.nets) g) [
      | inl a ↦
          let port = of-flat (λ (q : PortView). map (λ j. Inner q.name j x) (indices q.range)) (Inner n i x) m.ports a in
          let bit = of-map (λ j. Inner port.0.name j x) (Inner n i x) (indices port.0.range) port.2 in
          let same : n ≡ port.0.name = name-is n port.0.name i bit.0 bit.2 in
          ap is_own same ∙ free-port p h.proper.fit.free m port.0 (from-modules p.structure x m e) port.1
      | inr a ↦
          let net = of-flat (λ (v : NetView). map (λ j. Inner v.name j x) (indices v.range)) (Inner n i x) m.nets a in
          let bit = of-map (λ j. Inner net.0.name j x) (Inner n i x) (indices net.0.range) net.2 in
          let same : n ≡ net.0.name = name-is n net.0.name i bit.0 bit.2 in
          ap is_own same ∙ free-net p h.proper.fit.free m net.0 (from-modules p.structure x m e) net.1
    ]
  where
    name-is : (n k : Name) (i j : Option ℕ) → Inner n i x ≡ Inner k j x → n ≡ k
    name-is n k i j same = cc

-- ---- parts

-- a part that has a number is made
has-made : (made : List Part) (t : Part) (j : ℕ) (x : Path) → t.path ≡ x → name_of_part t (first (λ (y : ℕ × Part). same_part t y.1) (parts_in made x)) ≡ Inner (control_net j) None x → has_part made t ≡ true
has-made made t j x e g = by (first (λ (y : ℕ × Part). same_part t y.1) (parts_in made x)) refl g
  where
    by : (o : Option (ℕ × Part)) → first (λ (y : ℕ × Part). same_part t y.1) (parts_in made x) ≡ o → name_of_part t o ≡ Inner (control_net j) None x → has_part made t ≡ true
    by None f r = absurd cc
    by (Some y) f r =
        let found = first_in (λ (z : ℕ × Part). same_part t z.1) (parts_in made x) y f in
        any-in (same_part t) y.1 made (in-here made t.control x y found.0).0 found.1

module _ (sound : RoutesAreSound) (come : RoutesCome) (p : Project) (l : Lists) (w : Structure) (h : HasWires p l w) where
  abbrev a : Additions
  a = additions p l

  abbrev made : List Part
  made = a.controls

  carried-there : (k : Node) (x : Path) → IsIn (k, x) (routes p (plan p l)) → is_control k ≡ true → carries made k x ≡ true
  carried-there k x g c = come [] (routes p (plan p l)) sound.0 (k, x) g c

  one-way : (k : Node) (x : Path) → IsOneWay made k x
  one-way k x out = by (has_part made (part_at k x PortIn)) refl
    where
      by : (b : Bool) → has_part made (part_at k x PortIn) ≡ b → b ≡ false
      by false e = refl
      by true e = absurd (true≢false (sym (h.proper.routes.routed.above k x out) ∙ h.proper.routes.aside k x e))

  -- a control that is led to a pin
  pub record IsLed (k : Node) (x : Path) : Type 0 where
    pub name : node_of_bits x (control_bits a.chains made x k) ≡ Some (name_by p a (control_spot made k x))
    pub there : is_wire p a (comes_from p) (control_spot made k x) ≡ true

  module _ (n : Name) (i : Option ℕ) (own x : Path) (m : ModuleView) (e : module_at p.structure x ≡ Some m) where
    abbrev k : Node
    k = Inner n i own

    spot-by : (t : Bool) → same_path own x ≡ t → control_spot made k x ≡ (if t then OfNode k else Routed (part_in made k x))
    spot-by t f = ap (λ s. if s then OfNode k else Routed (part_in made k x)) f

    bits-by : (t : Bool) → same_path own x ≡ t → control_bits a.chains made x k ≡ (if t then renamed a.chains x (bit_of n i) ∷ [] else carried (parts_in made x) k)
    bits-by t f = ap (λ s. if s then renamed a.chains x (bit_of n i) ∷ [] else carried (parts_in made x) k) f

    own-led : same_path own x ≡ true → IsNetBit p.structure k → IsLed k x
    own-led f bit =
        let same : own ≡ x = path-true own x f in
        let here : module_at p.structure own ≡ Some m = ap (module_at p.structure) same ∙ e in
        record {
          name = ap (node_of_bits x) (bits-by true f)
              ∙ (ap (λ z. Some (node_of z (renamed a.chains z (bit_of n i)))) (sym same)
              ∙ ap (λ s. Some (name_by p a s)) (sym (spot-by true f)));
          there = ap (is_wire p a (comes_from p)) (spot-by true f) ∙ kept-inner p.structure n i own m (declared-free p l w h own m here n i (bit m here)) here;
        }

    away-led : same_path own x ≡ false → carries made k x ≡ true → IsLed k x
    away-led f come_there =
        let rest : (has_part made (part_at k x Between) || (has_part made (part_at k x PortOut) || has_part made (part_at k x PortIn))) ≡ true =
        sym (ap (λ t. t || (has_part made (part_at k x Between) || (has_part made (part_at k x PortOut) || has_part made (part_at k x PortIn)))) f) ∙ come_there in
        let it = carried-as made k x rest (one-way k x) in
        let spot : control_spot made k x ≡ Routed (part_at k x it.0) = spot-by false f ∙ ap (λ t. Routed t) it.1 in
        let has : has_part made (part_at k x it.0) ≡ true = has-made made (part_at k x it.0) it.2.number x refl it.2.name in
        record {
          name = ap (node_of_bits x) (bits-by false f)
              ∙ (ap (node_of_bits x) it.2.bits
              ∙ (ap (λ z. Some z) (sym it.2.name)
              ∙ ap (λ s. Some (name_by p a s)) (sym spot)));
          there = ap (is_wire p a (comes_from p)) spot ∙ drive-some (part_at k x it.0) has;
        }
      where
        drive-some : (t : Part) → has_part made t ≡ true → is_some (drive_part made t) ≡ true
        drive-some t g = ap (λ b. is_some (when b (FromSpot (part_from made t.control t.path t.kind)))) g

  led : (k : Node) (x : Path) (m : ModuleView) → module_at p.structure x ≡ Some m → IsIn (k, x) (routes p (plan p l)) → is_control k ≡ true → IsNetBit p.structure k → IsLed k x
  led (Fixed c) x m e g f bit = record { name = refl; there = refl }
  led (Outer n i) x m e g f bit = absurd (false≢true f)
  led (Inner n i own) x m e g f bit = by (same_path own x) refl
    where
      by : (t : Bool) → same_path own x ≡ t → IsLed (Inner n i own) x
      by true r = own-led n i own x m e r bit
      by false r = away-led n i own x m e r (carried-there (Inner n i own) x g f)

  -- it begins where its node does
  pub control-end : EndsAsWired → WholePlan → (k : Node) (x : Path) (m : ModuleView) → module_at p.structure x ≡ Some m → IsIn (k, x) (routes p (plan p l)) → is_control k ≡ true → IsNetBit p.structure k
      → some_end w (fuel_of w) (node_of_bits x (control_bits a.chains made x k)) ≡ intended p w (placement_of p l) k
  control-end ends whole k x m e g f bit =
      let it = led k x m e g f bit in
      ap (some_end w (fuel_of w)) it.name
      ∙ at-wire ends whole p l w h (control_spot made k x) (intended p w (placement_of p l) k) it.there ((begin ends whole p l w h).controls (k, x) g f)
