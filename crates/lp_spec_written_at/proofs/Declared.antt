-- Each bit that a written module joins is declared there.
use Rattle.std.proofs.Common.{◌≡◌, ◌⊎◌, ◌≤◌, ◌<◌, ℕ, zero, suc, ◌+◌, Bool, true, false, not, ◌||◌, ◌==◌, List, [], ◌∷◌, ◌++◌, map, Option, Some, None, inl, inr, refl, sym, ap, ◌∙◌, subst, arith}
use Rattle.std.specs.Prelude.{filter, flat_map, bytes_eq, option_and_then, unwrap_or, slice_get, if◌then◌else◌}
use Rattle.std.proofs.lemmas.Bool.{false≢true}
use Rattle.std.proofs.lemmas.Bool.Decides.{leb_tells}
use Rattle.lp_model.specs.declared.netlist.Direction.{Direction}
use Rattle.lp_model.specs.declared.netlist.Direction.TheVariants.{Input, Output}
use Rattle.lp_model.specs.NetlistView.{BitView, NetBit, SelectBit, ConstBit, PortView, NetView, ConnectionView, ConnectionsView, ByName, ByPosition, InstanceView, AssignView, ModuleView}
use Rattle.lp_spec_design.specs.Keys.{Name, Path, same_path, Node, Inner, Outer, Fixed, Way, PortBit, AssignBit, same_way, same_index}
use Rattle.lp_spec_design.specs.Netlists.{Structure, first, module_named, instance_named, module_at, indices, is_input, upward, bits_named, bits_placed, connected}
use Rattle.lp_spec_design.specs.Graph.{numbered, pairs, when}
use Rattle.lp_spec_design.specs.Intents.{Origin, FromPort, FromSwitch}
use Rattle.lp_spec_design.specs.Domains.{BoundaryBit, boundary, bits_of, is_boundary, way_of}
use Rattle.lp_spec_design.specs.Instances.{module_instances}
use Rattle.lp_spec_design.specs.Nodes.{nodes_in, connected_bits, IsDeclared, DeclaresBits}
use Rattle.lp_spec_design.specs.Winners.{IsIn}
use Rattle.lp_spec_design.specs.Reads.{one, other, path-true, path-self}
use Rattle.lp_spec_design.proofs.Members.{in-left, in-right, in-either, in-map, of-map, in-flat, of-flat, of-filter, of-some, of-pairs}
use Rattle.lp_spec_design.proofs.Sources.{first_in}
use Rattle.lp_spec_realises.specs.Projects.{Project, network_of, port_of_origin}
use Rattle.lp_spec_realises.specs.Tops.{ports_of}
use Rattle.lp_spec_realises.specs.Implements.{Lists, parent_of}
use Rattle.lp_spec_realises.specs.Operators.{OperatorAt, all_operators}
use Rattle.lp_spec_written.specs.Places.{Standing, Switching, standing, plan}
use Rattle.lp_spec_written.specs.Nets.{Stretch, stretches, stretches_in, bit_of, bits_at, connected_at, stood_at, stood, is_inside, leads_constant, chain_net, nets_of, net_bits, near, or_near, is_own, renamed, is_across, led, far, links, with_next, Linked, linked, by_names, led_bits}
use Rattle.lp_spec_written.specs.Supplies.{wire, scalar, switch_of, switch_net, home, goes_out, goes_in, switch_port, has_port_of, port_by_kind, origin_port, supply_ports, supply_wires, bits_by_kind, origin_bits}
use Rattle.lp_spec_written.specs.Routes.{Kind, PortOut, Between, PortIn, Part, parts_in, same_part_kind, is_between, control_net, control_port, port_of_kind, part_for, part_bits, carried, control_bits, some_control_bits}
use Rattle.lp_spec_written.specs.Written.{Additions, additions, written_module}
use Rattle.lp_spec_hub.specs.Drives.{has_switch}
use Rattle.lp_spec_written_at.specs.Sources.{IsNetBit}
use Rattle.lp_spec_written_at.proofs.Lists.{in-some}
use Rattle.lp_spec_written_at.proofs.Stretched.{way-true}
use Rattle.lp_spec_written_at.proofs.Instances.{is-standing, stands-near}
use Rattle.lp_spec_written_at.proofs.SourceCells.{in-filter}
use Rattle.lp_spec_written_at.proofs.Wiring.{numbered-at, is-of, has-operator, on-its-way, near_number, near-low, near-high, count-some}
use Rattle.lp_spec_written_at.proofs.Homes.{port-here, at-user}

-- ---- bits of connections

named-in : (n : Name) (cs : List ConnectionView) (b : BitView) → IsIn b (bits_named n cs) → IsIn b (flat_map (λ (c : ConnectionView). c.bits) cs)
named-in n [] b h = absurd h
named-in n (c ∷ cs) b h = by (bytes_eq c.port n) h (named-in n cs b)
  where
    by : (t : Bool) → IsIn b (if t then c.bits else bits_named n cs) → (IsIn b (bits_named n cs) → IsIn b (flat_map (λ (x : ConnectionView). x.bits) cs)) → IsIn b (c.bits ++ flat_map (λ (x : ConnectionView). x.bits) cs)
    by true g more = in-left b c.bits (flat_map (λ (x : ConnectionView). x.bits) cs) g
    by false g more = in-right b c.bits (flat_map (λ (x : ConnectionView). x.bits) cs) (more g)

placed-in : (n : Name) (ports : List PortView) (values : List (List BitView)) (b : BitView) → IsIn b (bits_placed n ports values) → IsIn b (flat_map (λ (bits : List BitView). bits) values)
placed-in n [] values b h = absurd h
placed-in n (p ∷ ports) [] b h = absurd h
placed-in n (p ∷ ports) (v ∷ values) b h = by (bytes_eq p.name n) h (placed-in n ports values b)
  where
    by : (t : Bool) → IsIn b (if t then v else bits_placed n ports values) → (IsIn b (bits_placed n ports values) → IsIn b (flat_map (λ (bits : List BitView). bits) values)) → IsIn b (v ++ flat_map (λ (bits : List BitView). bits) values)
    by true g more = in-left b v (flat_map (λ (bits : List BitView). bits) values) g
    by false g more = in-right b v (flat_map (λ (bits : List BitView). bits) values) (more g)

connected-in : (ports : List PortView) (n : Name) (cs : ConnectionsView) (b : BitView) → IsIn b (connected ports n cs) → IsIn b (connected_bits cs)
connected-in ports n (ByName cs) b h = named-in n cs b h
connected-in ports n (ByPosition values) b h = placed-in n ports values b h

pub by-names-in : (ports : List PortView) (cs : ConnectionsView) (c : ConnectionView) (b : BitView) → IsIn c (by_names ports cs) → IsIn b c.bits → IsIn b (connected_bits cs)
by-names-in ports (ByName cs) c b h g = in-flat (λ (d : ConnectionView). d.bits) c b cs h g
by-names-in ports (ByPosition values) c b h g =
    let one = of-map (λ (x : PortView × List BitView). record { port = x.0.name; bits = x.1 }) c (pairs ports values) h in
    in-flat (λ (bits : List BitView). bits) one.0.1 b values (of-pairs one.0 ports values one.1).1 (subst (λ (d : ConnectionView). IsIn b d.bits) one.2 g)

some-is-same : {A : Type 0} (b : Bool) (x y : A) → when b x ≡ Some y → y ≡ x
some-is-same true x y e = cc
some-is-same false x y e = absurd cc

of-bits-at : (i : Option ℕ) (all : List (Option ℕ × BitView)) (b : BitView) → IsIn b (bits_at i all) → (x : Option ℕ × BitView) × IsIn x all × (b ≡ x.1)
of-bits-at i all b h =
    let found = of-some (λ (x : Option ℕ × BitView). when (same_index x.0 i) x.1) b all h in
    (found.0, found.1, some-is-same (same_index found.0.0 i) found.0.1 b found.2)

connected-at-in : (s : Structure) (c : BoundaryBit) (y : InstanceView) (b : BitView) → IsIn b (connected_at s c y) → IsIn b (connected_bits y.connections)
connected-at-in s c y b h =
    let values = connected (ports_of (module_named s y.target)) c.port.name y.connections in
    let found = of-bits-at c.index (pairs (indices c.port.range) values) b h in
    connected-in (ports_of (module_named s y.target)) c.port.name y.connections b
    (subst (λ z. IsIn z values) (sym found.2) (of-pairs found.0 (indices c.port.range) values found.1).1)

-- ---- what stood in a connection of the parent

record IsStood (s : Structure) (x : Path) (b : BitView) : Type 0 where
  parent : ModuleView
  at : module_at s (parent_of x) ≡ Some parent
  instance : InstanceView
  listed : IsIn instance parent.instances
  joined : IsIn b (connected_bits instance.connections)

then-in : {A B : Type 0} (f : A → Option (List B)) (o : Option A) (b : B) → IsIn b (unwrap_or (option_and_then f o) []) → (x : A) × (o ≡ Some x) × IsIn b (unwrap_or (f x) [])
then-in f None b h = absurd h
then-in f (Some x) b h = (x, refl, h)

of-stood : (s : Structure) (c : BoundaryBit) (x : Path) (b : BitView) → IsIn b (stood_at s c x) → IsStood s x b
of-stood s c [] b h = absurd h
of-stood s c (i ∷ x) b h =
    let above = then-in (λ (m : ModuleView). option_and_then (λ (y : InstanceView). Some (connected_at s c y)) (instance_named m i)) (module_at s x) b h in
    let inst = then-in (λ (y : InstanceView). Some (connected_at s c y)) (instance_named above.0 i) b above.2 in
    record {
      parent = above.0;
      at = above.1;
      instance = inst.0;
      listed = (first_in (λ (y : InstanceView). bytes_eq y.name i) above.0.instances inst.0 inst.1).0;
      joined = connected-at-in s c inst.0 b inst.2;
    }

-- ---- boundary bits are net bits

bits-are : (s : Structure) (y : Path) (m : ModuleView) → module_at s y ≡ Some m → bits_of s y ≡ flat_map (λ (q : PortView). map (λ i. record { path = y; port = q; index = i }) (indices q.range)) m.ports
bits-are s y m e = rw (e) refl

bits-not : (s : Structure) (y : Path) → module_at s y ≡ None → bits_of s y ≡ []
bits-not s y e = rw (e) refl

abbrev node_of_bit : BoundaryBit → Node
node_of_bit c = Inner c.port.name c.index c.path

boundary-node : (p : Project) (c : BoundaryBit) (m : ModuleView) → IsIn c (boundary p.structure p.intent) → module_at p.structure c.path ≡ Some m → IsIn (node_of_bit c) (nodes_in c.path (Some m))
boundary-node p c m h e =
    let found = of-flat (bits_of p.structure) c (filter (is_boundary p.intent) (module_instances p.structure)) h in
    by found.0 (module_at p.structure found.0) refl found.2
  where
    one-module : (k : ModuleView) → Some k ≡ Some m → k ≡ m
    one-module k same = cc

    by : (y : Path) (o : Option ModuleView) → module_at p.structure y ≡ o → IsIn c (bits_of p.structure y) → IsIn (node_of_bit c) (nodes_in c.path (Some m))
    by y None f g = absurd (subst (λ l. IsIn c l) (bits-not p.structure y f) g)
    by y (Some k) f g =
        let port = of-flat (λ (q : PortView). map (λ i. record { path = y; port = q; index = i }) (indices q.range)) c k.ports (subst (λ l. IsIn c l) (bits-are p.structure y k f) g) in
        let bit = of-map (λ i. record { path = y; port = port.0; index = i }) c (indices port.0.range) port.2 in
        let same : k ≡ m = one-module k (sym f ∙ (ap (λ (d : BoundaryBit). module_at p.structure d.path) (sym bit.2) ∙ e)) in
        let here : IsIn (Inner port.0.name bit.0 y) (nodes_in y (Some k)) =
        in-left (Inner port.0.name bit.0 y) (flat_map (λ (q : PortView). map (λ i. Inner q.name i y) (indices q.range)) k.ports) (flat_map (λ (n : NetView). map (λ i. Inner n.name i y) (indices n.range)) k.nets)
        (in-flat (λ (q : PortView). map (λ i. Inner q.name i y) (indices q.range)) port.0 (Inner port.0.name bit.0 y) k.ports port.1 (in-map (λ i. Inner port.0.name i y) bit.0 (indices port.0.range) bit.1)) in
        subst (λ (d : BoundaryBit). IsIn (node_of_bit d) (nodes_in d.path (Some m))) (sym bit.2) (subst (λ z. IsIn (Inner port.0.name bit.0 y) (nodes_in y (Some z))) same here)

-- ---- where a chain stands

abbrev path_of_way : Way → Path
path_of_way (PortBit x n i) = x
path_of_way (AssignBit x j k) = x

way-path : (c d : BoundaryBit) → way_of c ≡ way_of d → c.path ≡ d.path
way-path c d e = ap path_of_way e

stretch-near : (p : Project) (l : Lists) (s : Stretch) → IsIn s (stretches p (plan p l)) → (s.path ≡ s.bit.path) ⊎ (s.path ≡ parent_of s.bit.path)
stretch-near p l s h =
    let o = has-operator p (plan p l) s h in
    let its = on-its-way p (plan p l) s h o.0 o.1 in
    let kept = of-filter (λ (r : Standing). same_way (way_of r.asked.bit) (way_of s.bit)) o.0 (plan p l).operators its.0 in
    let from = of-some (standing p l) o.0 (all_operators p) kept.0 in
    let standing_is = is-standing p l from.0 o.0 from.2 in
    let path : from.0.bit.path ≡ s.bit.path = ap (λ (z : OperatorAt). z.bit.path) (sym standing_is.asked) ∙ way-path o.0.asked.bit s.bit (way-true (way_of o.0.asked.bit) (way_of s.bit) kept.1) in
    elim (stands-near p l from.0 o.0 standing_is.path) [
      | inl own ↦ inl (sym its.1 ∙ (own ∙ path))
      | inr up ↦ inr (sym its.1 ∙ (up ∙ ap parent_of path))
    ]

-- ---- what a written module declares

module _ (p : Project) (l : Lists) (x : Path) (m : ModuleView) (e : module_at p.structure x ≡ Some m) where
  abbrev a : Additions
  a = additions p l

  abbrev pub here : ModuleView
  here = written_module p a x m

  abbrev chains : List Stretch
  chains = stretches p (plan p l)

  abbrev from_ports : List PortView → List Node
  from_ports qs = flat_map (λ (q : PortView). map (λ i. Inner q.name i x) (indices q.range)) qs

  abbrev from_nets : List NetView → List Node
  from_nets ns = flat_map (λ (n : NetView). map (λ i. Inner n.name i x) (indices n.range)) ns

  abbrev pub IsHere : Node → Type 0
  IsHere k = IsIn k (nodes_in x (Some here))

  scalar-here : (n : Name) (d : Direction) → IsIn (scalar n d) here.ports → IsHere (Inner n None x)
  scalar-here n d h = in-left (Inner n None x) (from_ports here.ports) (from_nets here.nets) (in-flat (λ (q : PortView). map (λ i. Inner q.name i x) (indices q.range)) (scalar n d) (Inner n None x) here.ports h (inl refl))

  wire-here : (n : Name) → IsIn (wire n) here.nets → IsHere (Inner n None x)
  wire-here n h = in-right (Inner n None x) (from_ports here.ports) (from_nets here.nets) (in-flat (λ (v : NetView). map (λ i. Inner v.name i x) (indices v.range)) (wire n) (Inner n None x) here.nets h (inl refl))

  -- what the source declares
  kept-here : (k : Node) → IsIn k (nodes_in x (Some m)) → IsHere k
  kept-here k h = elim (in-either k (from_ports m.ports) (from_nets m.nets) h) [
    | inl q ↦
        let one = of-flat (λ (q : PortView). map (λ i. Inner q.name i x) (indices q.range)) k m.ports q in
        in-left k (from_ports here.ports) (from_nets here.nets) (in-flat (λ (q : PortView). map (λ i. Inner q.name i x) (indices q.range)) one.0 k here.ports (in-left one.0 m.ports _ one.1) one.2)
    | inr n ↦
        let one = of-flat (λ (v : NetView). map (λ i. Inner v.name i x) (indices v.range)) k m.nets n in
        in-right k (from_ports here.ports) (from_nets here.nets) (in-flat (λ (v : NetView). map (λ i. Inner v.name i x) (indices v.range)) one.0 k here.nets (in-left one.0 m.nets _ one.1) one.2)
  ]

  abbrev pub IsBit : BitView → Type 0
  IsBit b = IsDeclared x here b

  source-here : (b : BitView) → IsDeclared x m b → IsBit b
  source-here (NetBit n) h = kept-here (Inner n None x) h
  source-here (SelectBit n i) h = kept-here (Inner n (Some i) x) h
  source-here (ConstBit c) h = tt

  named-source : (n : Name) (i : Option ℕ) → IsIn (Inner n i x) (nodes_in x (Some m)) → IsDeclared x m (bit_of n i)
  named-source n None h = h
  named-source n (Some i) h = h

  -- ---- nets of chains

  net-wire : (s : Stretch) (n : Name) → IsIn s chains → s.path ≡ x → IsIn n (nets_of s) → IsIn (wire n) here.nets
  net-wire s n h is g =
      in-right (wire n) m.nets _
      (in-right (wire n) (supply_wires a.plan a.uses x) _
      (in-left (wire n) (map wire (flat_map nets_of (stretches_in chains x))) _
      (in-map wire n (flat_map nets_of (stretches_in chains x)) (in-flat nets_of s n (stretches_in chains x) (in-filter (λ (t : Stretch). same_path t.path x) chains s h (ap (λ y. same_path y x) is ∙ path-self x)) g))))

  in-upward : (n from k : ℕ) → from ≤ k → k < from + n → IsIn k (upward n from)
  in-upward zero from k low high = absurd (omega (arith, low, high))
  in-upward (suc n) from k low high = elim (leb_tells (from + 1) k) [
    | inl more ↦ inr (in-upward n (from + 1) k more.1 (omega (arith, high)))
    | inr less ↦ let small = less.1 in let same : k ≡ from = omega (arith, low, small) in inl same
  ]

  chain-here : (s : Stretch) (k : ℕ) → IsIn s chains → s.path ≡ x → s.start ≤ k → k < s.start + s.count → IsBit (NetBit (chain_net k))
  chain-here s k h is low high = wire-here (chain_net k) (net-wire s (chain_net k) h is (in-map chain_net k (upward s.count s.start) (in-upward s.count s.start k low high)))

  near-here : (s : Stretch) → IsIn s chains → s.path ≡ x → IsBit (near s)
  near-here s h is = let some = count-some p (plan p l) s h in chain-here s (near_number s) h is (near-low s some) (near-high s some)

  renamed-here : (b : BitView) → IsDeclared x m b → IsBit (renamed chains x b)
  renamed-here b d = by (first (is_own x b) chains) refl
    where
      by : (o : Option Stretch) → first (is_own x b) chains ≡ o → IsBit (or_near b o)
      by None g = source-here b d
      by (Some s) g =
          let at = first_in (is_own x b) chains s g in
          near-here s at.0 (path-true s.path x (one (same_path s.path x) _ (other (is_inside s.path s.bit) _ at.1)))

  led-here : (j : Name) (n : Name) (i : Option ℕ) (b : BitView) → IsDeclared x m b → IsBit (led chains x (j ∷ x) n i b)
  led-here j n i b d = by (first (is_across (j ∷ x) n i) chains) refl
    where
      off : (t : Bool) → not t ≡ true → t ≡ true → ⊥
      off true h g = false≢true h
      off false h g = false≢true g

      outside : (s : Stretch) → IsIn s chains → is_across (j ∷ x) n i s ≡ true → s.path ≡ x
      outside s h g =
          let path : s.bit.path ≡ j ∷ x = ap path_of_way (way-true (way_of s.bit) (PortBit (j ∷ x) n i) (other (not (is_inside s.path s.bit)) _ g)) in
          elim (stretch-near p l s h) as (λ _. s.path ≡ x) [
            | inl own ↦ absurd (off (is_inside s.path s.bit) (one (not (is_inside s.path s.bit)) _ g) (ap (same_path s.path) (sym own) ∙ path-self s.path))
            | inr up ↦ up ∙ ap parent_of path
          ]

      by : (o : Option Stretch) → first (is_across (j ∷ x) n i) chains ≡ o → IsBit (or_near (renamed chains x b) o)
      by None g = renamed-here b d
      by (Some s) g = let at = first_in (is_across (j ∷ x) n i) chains s g in near-here s at.0 (outside s at.0 at.1)

  -- ---- controls

  pub part-here : (y : ℕ × Part) → IsIn y (parts_in a.controls x) → IsBit (NetBit (control_net y.0))
  part-here y h = by y.1.kind refl
    where
      port : (d : Direction) → control_port y ≡ Some (scalar (control_net y.0) d) → IsHere (Inner (control_net y.0) None x)
      port d g =
          scalar-here (control_net y.0) d
          (in-right (scalar (control_net y.0) d) m.ports _ (in-right (scalar (control_net y.0) d) (supply_ports p a.plan a.uses x) _ (in-some control_port y (scalar (control_net y.0) d) (parts_in a.controls x) h g)))

      by : (kind : Kind) → y.1.kind ≡ kind → IsHere (Inner (control_net y.0) None x)
      by PortOut g = port Output (ap (port_of_kind y.0) g)
      by PortIn g = port Input (ap (port_of_kind y.0) g)
      by Between g =
          wire-here (control_net y.0)
          (in-right (wire (control_net y.0)) m.nets _
          (in-right (wire (control_net y.0)) (supply_wires a.plan a.uses x) _
          (in-right (wire (control_net y.0)) (map wire (flat_map nets_of (stretches_in chains x))) _
          (in-map (λ (z : ℕ × Part). wire (control_net z.0)) y (filter (λ (z : ℕ × Part). is_between z.1) (parts_in a.controls x))
          (in-filter (λ (z : ℕ × Part). is_between z.1) (parts_in a.controls x) y h (ap (λ k. same_part_kind k Between) g))))))

  part-bits-here : (u v : Option (ℕ × Part)) → ((y : ℕ × Part) → u ≡ Some y → IsIn y (parts_in a.controls x)) → ((y : ℕ × Part) → v ≡ Some y → IsIn y (parts_in a.controls x)) → (b : BitView) → IsIn b (part_bits u v) → IsBit b
  part-bits-here (Some y) v f g b (inl is) = subst IsBit (sym is) (part-here y (f y refl))
  part-bits-here (Some y) v f g b (inr h) = absurd h
  part-bits-here None (Some y) f g b (inl is) = subst IsBit (sym is) (part-here y (g y refl))
  part-bits-here None (Some y) f g b (inr h) = absurd h
  part-bits-here None None f g b h = absurd h

  pub control-here : (k : Node) → IsNetBit p.structure k → (b : BitView) → IsIn b (control_bits chains a.controls x k) → IsBit b
  control-here (Outer n i) good b h = absurd h
  control-here (Fixed c) good b (inl is) = subst IsBit (sym is) tt
  control-here (Fixed c) good b (inr h) = absurd h
  control-here (Inner n i own) good b h = by (same_path own x) refl h
    where
      by : (t : Bool) → same_path own x ≡ t → IsIn b (if t then renamed chains x (bit_of n i) ∷ [] else carried (parts_in a.controls x) (Inner n i own)) → IsBit b
      by true g (inr r) = absurd r
      by true g (inl is) =
          let same = path-true own x g in
          let at : IsIn (Inner n i x) (nodes_in x (Some m)) = subst (λ y. IsIn (Inner n i y) (nodes_in y (Some m))) same (good m (ap (module_at p.structure) same ∙ e)) in
          subst IsBit (sym is) (renamed-here (bit_of n i) (named-source n i at))
      by false g r =
          part-bits-here (part_for (parts_in a.controls x) (Inner n i own) is_between) (part_for (parts_in a.controls x) (Inner n i own) (λ y. true))
          (λ y f. (first_in _ (parts_in a.controls x) y f).0) (λ y f. (first_in _ (parts_in a.controls x) y f).0) b r

  pub some-control-here : (o : Option Node) → ((k : Node) → o ≡ Some k → IsNetBit p.structure k) → (b : BitView) → IsIn b (some_control_bits chains a.controls x o) → IsBit b
  some-control-here None good b h = absurd h
  some-control-here (Some k) good b h = control-here k (good k refl) b h

  -- ---- supplies

  origin-port-here : (o : ℕ) (d : Direction) (n : Name) (k : Origin) → slice_get (network_of p).origins o ≡ Some k → port_by_kind p a.plan a.uses x o k ≡ Some (scalar n d) → IsBit (NetBit n)
  origin-port-here o d n k is g =
      scalar-here n d
      (in-right (scalar n d) m.ports _
      (in-left (scalar n d) (supply_ports p a.plan a.uses x) _ (in-some (origin_port p a.plan a.uses x) (o, k) (scalar n d) (numbered 0 (network_of p).origins) (numbered-at (network_of p).origins o k is) g)))

  pub port-origin-here : (o : ℕ) → slice_get (network_of p).origins o ≡ Some FromPort → has_port_of a.uses o x ≡ true → IsBit (NetBit (port_of_origin p o))
  port-origin-here o is h = origin-port-here o Input (port_of_origin p o) FromPort is (ap (λ b. when b (scalar (port_of_origin p o) Input)) h)

  pub switch-here : (o input : ℕ) (control : Node) (high : Bool) (w : Switching) → slice_get (network_of p).origins o ≡ Some (FromSwitch input control high) → switch_of a.plan o ≡ Some w → has_switch a.uses w x ≡ true → IsBit (NetBit (switch_net w))
  switch-here o input control high w is at h = by (same_path (home a.uses w) x) (goes_out a.uses w x) (goes_in a.uses w x) refl refl refl h
    where
      port : (d : Direction) → switch_port a.uses w x ≡ Some (scalar (switch_net w) d) → IsBit (NetBit (switch_net w))
      port d g = origin-port-here o d (switch_net w) (FromSwitch input control high) is (ap (λ r. option_and_then (λ v. switch_port a.uses v x) r) at ∙ g)

      net : same_path (home a.uses w) x ≡ true → IsBit (NetBit (switch_net w))
      net g =
          wire-here (switch_net w)
          (in-right (wire (switch_net w)) m.nets _
          (in-left (wire (switch_net w)) (supply_wires a.plan a.uses x) _
          (in-map (λ (v : Switching). wire (switch_net v)) w (filter (λ (v : Switching). same_path (home a.uses v) x) a.plan.switches)
          (in-filter (λ (v : Switching). same_path (home a.uses v) x) a.plan.switches w (first_in (λ (v : Switching). v.asked.origin == o) a.plan.switches w at).0 g))))

      by : (t out into : Bool) → same_path (home a.uses w) x ≡ t → goes_out a.uses w x ≡ out → goes_in a.uses w x ≡ into → (t || (out || into)) ≡ true → IsBit (NetBit (switch_net w))
      by true out into f g r some = net f
      by false true into f g r some = port Output (ap (λ b. if b then Some (scalar (switch_net w) Output) else when (goes_in a.uses w x) (scalar (switch_net w) Input)) g)
      by false false true f g r some =
          port Input
          (ap (λ b. if b then Some (scalar (switch_net w) Output) else when (goes_in a.uses w x) (scalar (switch_net w) Input)) g
          ∙ ap (λ b. when b (scalar (switch_net w) Input)) r)
      by false false false f g r some = absurd (false≢true some)

  -- an origin that is used there
  pub origin-here : (o : ℕ) → IsIn (x, o) a.uses → (b : BitView) → IsIn b (origin_bits p a.plan o) → IsBit b
  origin-here o used b h = by (slice_get (network_of p).origins o) refl (switch_of a.plan o) refl h
    where
      by : (k : Option Origin) → slice_get (network_of p).origins o ≡ k → (s : Option Switching) → switch_of a.plan o ≡ s → IsIn b (bits_by_kind p o k s) → IsBit b
      by None is s at g = absurd g
      by (Some FromPort) is s at (inl eq) = subst IsBit (sym eq) (port-origin-here o is (port-here a.uses o x used))
      by (Some FromPort) is s at (inr g) = absurd g
      by (Some (FromSwitch input control high)) is None at g = absurd g
      by (Some (FromSwitch input control high)) is (Some w) at (inl eq) =
          subst IsBit (sym eq) (switch-here o input control high w is at (at-user a.uses w o x (first_in (λ (v : Switching). v.asked.origin == o) a.plan.switches w at).1 used))
      by (Some (FromSwitch input control high)) is (Some w) at (inr g) = absurd g

  -- ---- what lies between operators

  module _ (d : DeclaresBits p.structure) where
    pub source-joined : (y : InstanceView) → IsIn y m.instances → (b : BitView) → IsIn b (connected_bits y.connections) → IsDeclared x m b
    source-joined y h b g =
        d.declared x m b e
        (in-left b (flat_map (λ (z : InstanceView). connected_bits z.connections) m.instances) _ (in-flat (λ (z : InstanceView). connected_bits z.connections) y b m.instances h g))

    pub source-left : (q : AssignView) → IsIn q m.assigns → (b : BitView) → IsIn b q.left → IsDeclared x m b
    source-left q h b g =
        d.declared x m b e
        (in-right b (flat_map (λ (z : InstanceView). connected_bits z.connections) m.instances) _ (in-flat (λ (z : AssignView). z.left) q b m.assigns h g))

    pub renamed-bit : (b : BitView) → IsDeclared x m b → IsBit (renamed chains x b)
    renamed-bit b g = renamed-here b g

    pub led-bits : (j n : Name) (is : List (Option ℕ)) (bits : List BitView) → ((b : BitView) → IsIn b bits → IsDeclared x m b) → (b : BitView) → IsIn b (led_bits chains x (j ∷ x) n is bits) → IsBit b
    led-bits j n [] bits all b h = let one = of-map (renamed chains x) b bits h in subst IsBit (sym one.2) (renamed-here one.0 (all one.0 one.1))
    led-bits j n (i ∷ is) [] all b h = absurd h
    led-bits j n (i ∷ is) (c ∷ bits) all b (inl eq) = subst IsBit (sym eq) (led-here j n i c (all c (inl refl)))
    led-bits j n (i ∷ is) (c ∷ bits) all b (inr h) = led-bits j n is bits (λ z g. all z (inr g)) b h

    far-here : (s : Stretch) → IsIn s chains → s.path ≡ x → (b : BitView) → IsIn b (far p chains s) → IsBit b
    far-here s h is b g = by (is_inside s.path s.bit) refl g
      where
        some-module : (k : ModuleView) → Some m ≡ Some k → m ≡ k
        some-module k same = cc

        by : (t : Bool) → is_inside s.path s.bit ≡ t → IsIn b (if t then bit_of s.bit.port.name s.bit.index ∷ [] else map (renamed chains s.path) (stood p.structure s.bit)) → IsBit b
        by true f (inr r) = absurd r
        by true f (inl eq) =
            let path : s.bit.path ≡ x = sym (path-true s.path s.bit.path f) ∙ is in
            let at = boundary-node p s.bit m (is-of p (plan p l) s h).0.bit (ap (module_at p.structure) path ∙ e) in
            subst IsBit (sym eq) (source-here (bit_of s.bit.port.name s.bit.index) (named-source s.bit.port.name s.bit.index (subst (λ y. IsIn (Inner s.bit.port.name s.bit.index y) (nodes_in y (Some m))) path at)))
        by false f r =
            let made = of-map (renamed chains s.path) b (stood p.structure s.bit) r in
            let old = of-stood p.structure s.bit s.bit.path made.0 made.1 in
            let up : s.path ≡ parent_of s.bit.path = elim (stretch-near p l s h) as (λ _. s.path ≡ parent_of s.bit.path) [
              | inl own ↦ absurd (false≢true (sym f ∙ (ap (same_path s.path) (sym own) ∙ path-self s.path)))
              | inr above ↦ above
            ] in
            let same : m ≡ old.parent = some-module old.parent (sym e ∙ (ap (module_at p.structure) (sym is ∙ up) ∙ old.at)) in
            let declared = source-joined old.instance (subst (λ (k : ModuleView). IsIn old.instance k.instances) (sym same) old.listed) made.0 old.joined in
            subst IsBit (sym (made.2 ∙ ap (λ y. renamed chains y made.0) is)) (renamed-here made.0 declared)

    pub links-here : (s : Stretch) → IsIn s chains → s.path ≡ x → (bits : List BitView) → IsIn bits (links p chains s) → (b : BitView) → IsIn b bits → IsBit b
    links-here s h is bits g b t = by (is_input s.bit.port) (leads_constant p.structure s.path s.bit) g
      where
        own-net : (n : Name) → IsIn n (nets_of s) → IsBit (NetBit n)
        own-net n r = wire-here n (net-wire s n h is r)

        single : (c n : BitView) → IsIn c (n ∷ []) → c ≡ n
        single c n (inl eq) = eq
        single c n (inr r) = absurd r

        net : IsIn bits (net_bits s) → IsBit b
        net r =
            let one = of-map (λ n. NetBit n ∷ []) bits (nets_of s) r in
            subst IsBit (sym (single b (NetBit one.0) (subst (λ z. IsIn b z) one.2 t))) (own-net one.0 one.1)

        last : bits ≡ far p chains s → IsBit b
        last eq = far-here s h is b (subst (λ z. IsIn b z) eq t)

        by : (i c : Bool) → IsIn bits (if i then (if c then net_bits s else far p chains s ∷ net_bits s) else net_bits s ++ (far p chains s ∷ [])) → IsBit b
        by true true r = net r
        by true false (inl eq) = last eq
        by true false (inr r) = net r
        by false c r = elim (in-either bits (net_bits s) (far p chains s ∷ []) r) [
          | inl n ↦ net n
          | inr q ↦ elim q [ inl eq ↦ last eq | inr none ↦ absurd none ]
        ]

    of-next : {A : Type 0} (xs : List A) (y : A × A) → IsIn y (with_next xs) → IsIn y.0 xs × IsIn y.1 xs
    of-next [] y h = absurd h
    of-next (z ∷ xs) y h = let pair = of-pairs y (z ∷ xs) xs h in (pair.0, inr pair.1)

    -- what an operator reads and drives
    pub linked-here : (y : Linked) → IsIn y (linked p chains x) → (b : BitView) → IsIn b y.1.0 ⊎ IsIn b y.1.1 → IsBit b
    linked-here y h b t =
        let s = of-flat (λ (s : Stretch). pairs s.operators (with_next (links p chains s))) y (stretches_in chains x) h in
        let kept = of-filter (λ (z : Stretch). same_path z.path x) s.0 chains s.1 in
        let is = path-true s.0.path x kept.1 in
        let pair = of-pairs y s.0.operators (with_next (links p chains s.0)) s.2 in
        let both = of-next (links p chains s.0) y.1 pair.1 in
        elim t [ inl r ↦ links-here s.0 kept.0 is y.1.0 both.0 b r | inr r ↦ links-here s.0 kept.0 is y.1.1 both.1 b r ]

    -- the net by which a constant comes to operators
    pub constant-here : (s : Stretch) → IsIn s (stretches_in chains x) → IsBit (NetBit (chain_net s.start))
    constant-here s h =
        let kept = of-filter (λ (z : Stretch). same_path z.path x) s chains h in
        let some = count-some p (plan p l) s kept.0 in
        chain-here s s.start kept.0 (path-true s.path x kept.1) (omega arith) (omega (arith, some))
