-- Added input ports of instances are led to from the parent.
use Rattle.std.proofs.Common.{◌≡◌, ℕ, Bool, true, false, List, [], ◌∷◌, ◌++◌, map, Option, Some, None, inl, inr, refl, sym, ◌∙◌, ap, subst}
use Rattle.std.specs.Prelude.{bytes_eq, option_and_then, if◌then◌else◌, ◌&&◌}
use Rattle.std.proofs.lemmas.Bool.{false≢true}
use Rattle.lp_model.specs.declared.netlist.Direction.{Direction}
use Rattle.lp_model.specs.declared.netlist.Direction.TheVariants.{Input, Output}
use Rattle.lp_model.specs.NetlistView.{BitView, NetBit, PortView, ConnectionView, InstanceView, ModuleView}
use Rattle.lp_spec_design.specs.Keys.{Name, Path, Inner, PortBit}
use Rattle.lp_spec_design.specs.Netlists.{Structure, first, module_named, module_at, instance_named, node_of, bits_named, connected, is_input}
use Rattle.lp_spec_design.specs.Graph.{numbered, when}
use Rattle.lp_spec_design.specs.Reads.{name-true, name-self, one, other, both}
use Rattle.lp_spec_design.specs.Winners.{IsIn}
use Rattle.lp_spec_design.specs.Intents.{Origin, FromPort, FromSwitch}
use Rattle.lp_spec_design.proofs.Members.{in-either, of-map, of-some}
use Rattle.lp_spec_design.proofs.Sources.{then_is, first_in}
use Rattle.lp_spec_faults.specs.Modules.{is_own}
use Rattle.lp_spec_realises.specs.Projects.{Project, network_of, port_of_origin}
use Rattle.lp_spec_written.specs.Places.{Switching}
use Rattle.lp_spec_written.specs.Nets.{by_names, led_connections}
use Rattle.lp_spec_written.specs.Supplies.{scalar, switch_net, switch_port, switch_of, has_port_of, goes_out, goes_in, port_by_kind, origin_port, joined_to}
use Rattle.lp_spec_written.specs.Routes.{Kind, PortOut, Between, PortIn, port_of_kind, control_port, control_ports, control_net, control_connections, parts_in}
use Rattle.lp_spec_written.specs.Written.{Additions, added_supply_ports, written_ports, written_instance, written_by_target, written_operators, written_switches}
use Rattle.lp_spec_hub.specs.Begins.{LeadsTo}
use Rattle.lp_spec_wired.specs.Contents.{IsInstance, AreInstances, IsWrittenAt}
use Rattle.lp_spec_wired.specs.Reserved.{LeavesNames}
use Rattle.lp_spec_wired.proofs.Added.{own-apart}
use Rattle.lp_spec_wired.proofs.Lists.{first-behind, first-there, first-made, bits-behind}
use Rattle.lp_spec_wired.proofs.Inputs.{is_input_named, led-input}

-- ---- added ports are scalars

abbrev pub IsScalar : PortView → Type 0
IsScalar q = (n : Name) × (d : Direction) × (q ≡ scalar n d)

input-of : (n : Name) (d : Direction) → is_input (scalar n d) ≡ true → d ≡ Input
input-of n Input e = refl
input-of n Output e = absurd (false≢true e)

scalar-input : (n : Name) (q : PortView) → IsScalar q → is_input_named n q ≡ true → q ≡ scalar n Input
scalar-input n q is e =
    let named : bytes_eq is.0 n ≡ true = ap (λ (r : PortView). bytes_eq r.name n) (sym is.2) ∙ one (bytes_eq q.name n) (is_input q) e in
    let goes : is_input (scalar is.0 is.1) ≡ true = ap is_input (sym is.2) ∙ other (bytes_eq q.name n) (is_input q) e in
    is.2 ∙ (ap (λ m. scalar m is.1) (name-true is.0 n named) ∙ ap (scalar n) (input-of is.0 is.1 goes))

of-when-is : {A : Type 0} (b : Bool) (x y : A) → when b x ≡ Some y → y ≡ x
of-when-is true x y e = cc
of-when-is false x y e = absurd cc

switch-scalar : (out into : Bool) (n : Name) (q : PortView) → (if out then Some (scalar n Output) else when into (scalar n Input)) ≡ Some q → IsScalar q
switch-scalar true into n q e = (n, Output, cc)
switch-scalar false into n q e = (n, Input, of-when-is into (scalar n Input) q e)

part-scalar : (k : ℕ) (kind : Kind) (q : PortView) → port_of_kind k kind ≡ Some q → IsScalar q
part-scalar k PortOut q e = (control_net k, Output, cc)
part-scalar k Between q e = absurd cc
part-scalar k PortIn q e = (control_net k, Input, cc)

module _ (p : Project) (a : Additions) where
  kind-scalar : (x : Path) (o : ℕ) (kind : Origin) (q : PortView) → port_by_kind p a.plan a.uses x o kind ≡ Some q → IsScalar q
  kind-scalar x o FromPort q e = (port_of_origin p o, Input, of-when-is (has_port_of a.uses o x) (scalar (port_of_origin p o) Input) q e)
  kind-scalar x o (FromSwitch input control high) q e =
      let found = then_is (λ (s : Switching). switch_port a.uses s x) (switch_of a.plan o) q e in
      switch-scalar (goes_out a.uses found.0 x) (goes_in a.uses found.0 x) (switch_net found.0) q found.2

  supply-scalar : (x : Path) (q : PortView) → IsIn q (added_supply_ports p a x) → IsScalar q
  supply-scalar x q h =
      let found = of-some (origin_port p a.plan a.uses x) q (numbered 0 (network_of p).origins) h in
      kind-scalar x found.0.0 found.0.1 q found.2

  control-scalar : (x : Path) (q : PortView) → IsIn q (control_ports a.controls x) → IsScalar q
  control-scalar x q h =
      let found = of-some control_port q (parts_in a.controls x) h in
      part-scalar found.0.0 found.0.1.kind q found.2

  abbrev pub added_ports : Path → List PortView
  added_ports x = added_supply_ports p a x ++ control_ports a.controls x

  pub added-scalar : (x : Path) (q : PortView) → IsIn q (added_ports x) → IsScalar q
  added-scalar x q h = elim (in-either q (added_supply_ports p a x) (control_ports a.controls x) h) [ inl l ↦ supply-scalar x q l | inr r ↦ control-scalar x q r ]

  -- what the parent connects to the added ports of an instance
  abbrev pub added_connections : Path → Path → List ConnectionView
  added_connections x y = map (λ (q : PortView). joined_to q.name (NetBit q.name ∷ [])) (added_supply_ports p a y) ++ control_connections a.chains a.controls x y

  -- ---- instances as they are written

  written-name : (x : Path) (y : InstanceView) (o : Option ModuleView) → (written_by_target p a x y o).name ≡ y.name
  written-name x y None = refl
  written-name x y (Some m) = refl

  module _ (free : LeavesNames p.structure) where
    led-free : (x : Path) (m inner : ModuleView) (y : InstanceView) → module_at p.structure x ≡ Some m → IsIn y m.instances → module_named p.structure y.target ≡ Some inner
        → (n : Name) → is_own n ≡ true → (c : ConnectionView) → IsIn c (led_connections a.chains x (y.name ∷ x) inner.ports y.connections) → bytes_eq c.port n ≡ false
    led-free x m inner y e h g n own c is =
        let source = of-map _ c (by_names inner.ports y.connections) is in
        own-apart c.port n (ap (λ (d : ConnectionView). is_own d.port) source.2 ∙ free.connected x m inner y source.0 e h g source.1) own

    -- the connections of an added name
    pub module-bits : (x : Path) (m inner : ModuleView) (y : InstanceView) → module_at p.structure x ≡ Some m → IsIn y m.instances → module_named p.structure y.target ≡ Some inner
        → (n : Name) → is_own n ≡ true → (ports : List PortView) → connected ports n (written_instance p a x y).connections ≡ bits_named n (added_connections x (y.name ∷ x))
    module-bits x m inner y e h g n own ports =
        ap (λ o. connected ports n (written_by_target p a x y o).connections) g
        ∙ bits-behind n (led_connections a.chains x (y.name ∷ x) inner.ports y.connections) (added_connections x (y.name ∷ x)) (led-free x m inner y e h g n own)

    -- the first input port of an added name
    pub module-input : (x : Path) (m : ModuleView) → module_at p.structure x ≡ Some m → (n : Name) → is_own n ≡ true → IsIn (scalar n Input) (added_ports x) → first (is_input_named n) (written_ports p a x m) ≡ Some (scalar n Input)
    module-input x m e n own h =
        let there = first-there (is_input_named n) (added_ports x) (scalar n Input) h (both (bytes_eq n n) true (name-self n) refl) in
        first-behind (is_input_named n) m.ports (added_ports x) (λ q g. ap (λ b. b && is_input q) (own-apart q.name n (free.ports x m q e g) own))
        ∙ (there.3 ∙ ap (λ (q : PortView). Some q) (scalar-input n there.0 (added-scalar x there.0 there.1) there.2))

    -- ---- in a netlist that has the written contents

    module _ (w : Structure) (written : IsWrittenAt p a w) where
      instance-in : (x : Path) (inst : Name) (ys hs : List InstanceView) (y : InstanceView) → AreInstances w x ys hs → first (λ (i : InstanceView). bytes_eq i.name inst) ys ≡ Some y
          → (h : InstanceView) × (first (λ (i : InstanceView). bytes_eq i.name inst) hs ≡ Some h) × IsInstance w x y h
      instance-in x inst [] [] y are e = absurd cc
      instance-in x inst [] (h ∷ hs) y are e = absurd are
      instance-in x inst (z ∷ ys) [] y are e = absurd are
      instance-in x inst (z ∷ ys) (h ∷ hs) y are e =
          subst (λ t. (k : InstanceView) × ((if t then Some h else first (λ (i : InstanceView). bytes_eq i.name inst) hs) ≡ Some k) × IsInstance w x y k) (sym (ap (λ n. bytes_eq n inst) are.0.name))
          (by (bytes_eq z.name inst) e (λ g. instance-in x inst ys hs y are.1 g))
        where
          by : (b : Bool) → (if b then Some z else first (λ (i : InstanceView). bytes_eq i.name inst) ys) ≡ Some y
              → (first (λ (i : InstanceView). bytes_eq i.name inst) ys ≡ Some y → (k : InstanceView) × (first (λ (i : InstanceView). bytes_eq i.name inst) hs ≡ Some k) × IsInstance w x y k)
              → (k : InstanceView) × ((if b then Some h else first (λ (i : InstanceView). bytes_eq i.name inst) hs) ≡ Some k) × IsInstance w x y k
          by true g more = let same : z ≡ y = cc in (h, refl, subst (λ v. IsInstance w x v h) same are.0)
          by false g more = more g

      -- an added input port of an instance comes from the bit that the parent connects to it
      pub added-input : (inst : Name) (x : Path) (m : ModuleView) → module_at p.structure (inst ∷ x) ≡ Some m → (n : Name) → is_own n ≡ true → IsIn (scalar n Input) (added_ports (inst ∷ x))
          → (b : BitView) → bits_named n (added_connections x (inst ∷ x)) ≡ b ∷ [] → LeadsTo w (node_of x b) (Inner n None (inst ∷ x))
      added-input inst x m e n own h b bits =
          let above = then_is (λ (v : ModuleView). option_and_then (λ (y : InstanceView). module_named p.structure y.target) (instance_named v inst)) (module_at p.structure x) m e in
          let below = then_is (λ (y : InstanceView). module_named p.structure y.target) (instance_named above.0 inst) m above.2 in
          let found = first_in (λ (y : InstanceView). bytes_eq y.name inst) above.0.instances below.0 below.1 in
          let inner = written.modules (inst ∷ x) m e in
          let outer = written.modules x above.0 above.1 in
          let named = first-made (λ (i : InstanceView). bytes_eq i.name inst) (written_instance p a x) (λ y. ap (λ k. bytes_eq k inst) (written-name x y (module_named p.structure y.target))) above.0.instances (written_operators p a x ++ written_switches p a x) below.0 below.1 in
          let it = instance-in x inst _ outer.here.instances (written_instance p a x below.0) outer.content.instances named in
          record {
            way = PortBit (inst ∷ x) n None;
            source = led-input w inst x n inner.here outer.here it.0 b inner.is
                (ap (first (is_input_named n)) inner.content.ports ∙ module-input (inst ∷ x) m e n own h)
                outer.is it.1
                (ap (connected inner.here.ports n) it.2.connections
                ∙ (module-bits x above.0 m below.0 above.1 found.0 below.2 n own inner.here.ports
                ∙ (ap (λ k. bits_named n (added_connections x (k ∷ x))) (name-true below.0.name inst found.1)
                ∙ bits)));
          }

-- an instance of a module below the top: in the source, and as it is in a netlist that has the written contents
pub record Child (p : Project) (a : Additions) (w : Structure) (inst : Name) (x : Path) (m : ModuleView) : Type 0 where
  pub source : ModuleView
  pub above : module_at p.structure x ≡ Some source
  pub instance : InstanceView
  pub found : instance_named source inst ≡ Some instance
  pub listed : IsIn instance source.instances
  pub target : module_named p.structure instance.target ≡ Some m
  pub own_name : instance.name ≡ inst
  pub here : ModuleView
  pub is : module_at w (inst ∷ x) ≡ Some here
  pub ports : here.ports ≡ written_ports p a (inst ∷ x) m
  pub outer : ModuleView
  pub outer_is : module_at w x ≡ Some outer
  pub written : InstanceView
  pub named : instance_named outer inst ≡ Some written
  pub connections : written.connections ≡ (written_by_target p a x instance (Some m)).connections

module _ (p : Project) (a : Additions) (free : LeavesNames p.structure) (w : Structure) (written : IsWrittenAt p a w) where
  pub child : (inst : Name) (x : Path) (m : ModuleView) → module_at p.structure (inst ∷ x) ≡ Some m → Child p a w inst x m
  child inst x m e =
      let above = then_is (λ (v : ModuleView). option_and_then (λ (y : InstanceView). module_named p.structure y.target) (instance_named v inst)) (module_at p.structure x) m e in
      let below = then_is (λ (y : InstanceView). module_named p.structure y.target) (instance_named above.0 inst) m above.2 in
      let found = first_in (λ (y : InstanceView). bytes_eq y.name inst) above.0.instances below.0 below.1 in
      let inner = written.modules (inst ∷ x) m e in
      let outer = written.modules x above.0 above.1 in
      let named = first-made (λ (i : InstanceView). bytes_eq i.name inst) (written_instance p a x) (λ y. ap (λ k. bytes_eq k inst) (written-name p a x y (module_named p.structure y.target))) above.0.instances (written_operators p a x ++ written_switches p a x) below.0 below.1 in
      let it = instance-in p a free w written x inst _ outer.here.instances (written_instance p a x below.0) outer.content.instances named in
      record {
        source = above.0;
        above = above.1;
        instance = below.0;
        found = below.1;
        listed = found.0;
        target = below.2;
        own_name = name-true below.0.name inst found.1;
        here = inner.here;
        is = inner.is;
        ports = inner.content.ports;
        outer = outer.here;
        outer_is = outer.is;
        written = it.0;
        named = it.1;
        connections = it.2.connections ∙ ap (λ o. (written_by_target p a x below.0 o).connections) below.2;
      }
