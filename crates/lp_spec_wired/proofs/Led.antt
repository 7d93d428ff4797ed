-- What the written connection of a module instance has at a bit of a port of the source.
use Rattle.std.proofs.Common.{◌≡◌, ℕ, Bool, true, false, not, ◌&&◌, cond, List, [], ◌∷◌, ◌++◌, map, Option, Some, inl, inr, refl, sym, ◌∙◌, ap}
use Rattle.std.specs.Prelude.{bytes_eq, filter, flat_map, if◌then◌else◌}
use Rattle.std.proofs.lemmas.Bool.{both_ways}
use Rattle.lp_model.specs.declared.netlist.Direction.TheVariants.{Input, Output}
use Rattle.lp_model.specs.NetlistView.{BitView, NetBit, PortView, ConnectionView, ConnectionsView, ByName, ByPosition, ModuleView}
use Rattle.lp_spec_design.specs.Keys.{Name, Path, Node, Inner, Way, PortBit, Source, From, same_index}
use Rattle.lp_spec_design.specs.Netlists.{Structure, first, module_at, indices, node_of, bits_named, bits_placed, connected, is_input}
use Rattle.lp_spec_design.specs.Graph.{pairs, and_more, some_of, when, numbered, from_port, source_of}
use Rattle.lp_spec_design.specs.Intents.{Origin, FromPort, FromSwitch}
use Rattle.lp_spec_design.specs.Reads.{name-true, index-true}
use Rattle.lp_spec_design.specs.Winners.{IsIn}
use Rattle.lp_spec_design.proofs.Members.{in-either, of-map, of-some}
use Rattle.lp_spec_design.proofs.Sources.{then_is}
use Rattle.lp_spec_faults.specs.Modules.{is_own}
use Rattle.lp_spec_realises.specs.Projects.{Project, network_of, port_of_origin}
use Rattle.lp_spec_written.specs.Places.{Switching}
use Rattle.lp_spec_written.specs.Nets.{Stretch, led, led_bits, indices_named, by_names, led_connections}
use Rattle.lp_spec_written.specs.Supplies.{scalar, switch_net, switch_port, switch_of, has_port_of, goes_out, goes_in, port_by_kind, origin_port, joined_to}
use Rattle.lp_spec_written.specs.Routes.{is_between, control_net, control_bits, control_connection, control_connections, parts_in}
use Rattle.lp_spec_written.specs.Written.{Additions, added_supply_ports}
use Rattle.lp_spec_wired.specs.Contents.{IsWrittenAt}
use Rattle.lp_spec_wired.specs.Reserved.{LeavesNames}
use Rattle.lp_spec_wired.proofs.Lists.{first-left, bits-left, bits-none}
use Rattle.lp_spec_wired.proofs.Inputs.{is_input_named, port-first, joined-port}
use Rattle.lp_spec_wired.proofs.Down.{added_ports, added_connections, Child, child}

placed-named : (n : Name) (ports : List PortView) (values : List (List BitView)) → bits_named n (map (λ x. record { port = x.0.name; bits = x.1 }) (pairs ports values)) ≡ bits_placed n ports values
placed-named n [] values = refl
placed-named n (q ∷ ports) [] = refl
placed-named n (q ∷ ports) (v ∷ values) = ap (λ r. cond (bytes_eq q.name n) v r) (placed-named n ports values)

by-names : (n : Name) (ports : List PortView) (cs : ConnectionsView) → bits_named n (by_names ports cs) ≡ connected ports n cs
by-names n ports (ByName cs) = refl
by-names n ports (ByPosition values) = placed-named n ports values

module _ (all : List Stretch) (x y : Path) (n : Name) where
  led-none : (is : List (Option ℕ)) → led_bits all x y n is [] ≡ []
  led-none [] = refl
  led-none (i ∷ is) = refl

  led-pairs : (is : List (Option ℕ)) (bits : List BitView) → pairs is (led_bits all x y n is bits) ≡ map (λ z. (z.0, led all x y n z.0 z.1)) (pairs is bits)
  led-pairs [] bits = refl
  led-pairs (i ∷ is) [] = refl
  led-pairs (i ∷ is) (b ∷ bits) = ap (λ r. (i, led all x y n i b) ∷ r) (led-pairs is bits)

  led-named : (ports : List PortView) (cs : List ConnectionView) → bits_named n (map (λ (c : ConnectionView). record c { bits = led_bits all x y c.port (indices_named ports c.port) c.bits }) cs) ≡ led_bits all x y n (indices_named ports n) (bits_named n cs)
  led-named ports [] = sym (led-none (indices_named ports n))
  led-named ports (c ∷ cs) = by (bytes_eq c.port n) refl (led-named ports cs)
    where
      by : (b : Bool) → bytes_eq c.port n ≡ b
          → bits_named n (map (λ (d : ConnectionView). record d { bits = led_bits all x y d.port (indices_named ports d.port) d.bits }) cs) ≡ led_bits all x y n (indices_named ports n) (bits_named n cs)
          → cond b (led_bits all x y c.port (indices_named ports c.port) c.bits) (bits_named n (map (λ (d : ConnectionView). record d { bits = led_bits all x y d.port (indices_named ports d.port) d.bits }) cs)) ≡ led_bits all x y n (indices_named ports n) (cond b c.bits (bits_named n cs))
      by true is more = ap (λ k. led_bits all x y k (indices_named ports k) c.bits) (name-true c.port n is)
      by false is more = more

  -- the written connection of a port of the source
  pub led-connected : (ports : List PortView) (cs : ConnectionsView) → bits_named n (led_connections all x y ports cs) ≡ led_bits all x y n (indices_named ports n) (connected ports n cs)
  led-connected ports cs = led-named ports (by_names ports cs) ∙ ap (led_bits all x y n (indices_named ports n)) (by-names n ports cs)

  -- where the source has a bit, the written netlist has what stands for it
  module _ (way : Way) (i : Option ℕ) where
    abbrev at_bit : Option ℕ × BitView → Option Source
    at_bit z = when (same_index z.0 i) (From way (node_of x z.1))

    heads : (zs : List (Option ℕ × BitView)) (j : Node) (more : List Source) → some_of at_bit zs ≡ From way j ∷ more
        → (b : BitView) × (j ≡ node_of x b) × (rest : List Source) × (some_of at_bit (map (λ z. (z.0, led all x y n z.0 z.1)) zs) ≡ From way (node_of x (led all x y n i b)) ∷ rest)
    heads [] j more e = absurd cc
    heads (z ∷ zs) j more e = by (same_index z.0 i) refl e (λ f. heads zs j more f)
      where
        by : (t : Bool) → same_index z.0 i ≡ t → and_more (when t (From way (node_of x z.1))) (some_of at_bit zs) ≡ From way j ∷ more
            → (some_of at_bit zs ≡ From way j ∷ more → (b : BitView) × (j ≡ node_of x b) × (rest : List Source) × (some_of at_bit (map (λ v. (v.0, led all x y n v.0 v.1)) zs) ≡ From way (node_of x (led all x y n i b)) ∷ rest))
            → (b : BitView) × (j ≡ node_of x b) × (rest : List Source) × (and_more (when t (From way (node_of x (led all x y n z.0 z.1)))) (some_of at_bit (map (λ v. (v.0, led all x y n v.0 v.1)) zs)) ≡ From way (node_of x (led all x y n i b)) ∷ rest)
        by true is f next =
            let same : j ≡ node_of x z.1 = cc in
            (z.1, same, some_of at_bit (map (λ v. (v.0, led all x y n v.0 v.1)) zs), ap (λ k. From way (node_of x (led all x y n k z.1)) ∷ some_of at_bit (map (λ v. (v.0, led all x y n v.0 v.1)) zs)) (index-true z.0 i is))
        by false is f next = next f

-- ---- the names of additions

pub own-other : (m n : Name) → is_own m ≡ true → is_own n ≡ false → bytes_eq m n ≡ false
own-other m n f e = by (bytes_eq m n) refl
  where
    by : (b : Bool) → bytes_eq m n ≡ b → b ≡ false
    by true is = absurd (both_ways (is_own m) (ap is_own (name-true m n is) ∙ e) f)
    by false is = refl

of-when-is : {A : Type 0} (b : Bool) (x y : A) → when b x ≡ Some y → y ≡ x
of-when-is true x y e = cc
of-when-is false x y e = absurd cc

switch-own-name : (out into : Bool) (n : Name) (q : PortView) → is_own n ≡ true → (if out then Some (scalar n Output) else when into (scalar n Input)) ≡ Some q → is_own q.name ≡ true
switch-own-name true into n q own e = let is : q ≡ scalar n Output = cc in ap (λ (r : PortView). is_own r.name) is ∙ own
switch-own-name false into n q own e = ap (λ (r : PortView). is_own r.name) (of-when-is into (scalar n Input) q e) ∙ own

module _ (p : Project) (a : Additions) where
  kind-own : (x : Path) (o : ℕ) (kind : Origin) (q : PortView) → port_by_kind p a.plan a.uses x o kind ≡ Some q → is_own q.name ≡ true
  kind-own x o FromPort q e = ap (λ (r : PortView). is_own r.name) (of-when-is (has_port_of a.uses o x) (scalar (port_of_origin p o) Input) q e)
  kind-own x o (FromSwitch input control high) q e =
      let found = then_is (λ (s : Switching). switch_port a.uses s x) (switch_of a.plan o) q e in
      switch-own-name (goes_out a.uses found.0 x) (goes_in a.uses found.0 x) (switch_net found.0) q refl found.2

  supply-own : (x : Path) (q : PortView) → IsIn q (added_supply_ports p a x) → is_own q.name ≡ true
  supply-own x q h =
      let found = of-some (origin_port p a.plan a.uses x) q (numbered 0 (network_of p).origins) h in
      kind-own x found.0.0 found.0.1 q found.2

  -- each connection of an added port has the name of an addition
  pub added-own : (x y : Path) (c : ConnectionView) → IsIn c (added_connections p a x y) → is_own c.port ≡ true
  added-own x y c h = elim (in-either c (map (λ (q : PortView). joined_to q.name (NetBit q.name ∷ [])) (added_supply_ports p a y)) (control_connections a.chains a.controls x y) h) [
    | inl l ↦
        let source = of-map (λ (q : PortView). joined_to q.name (NetBit q.name ∷ [])) c (added_supply_ports p a y) l in
        ap (λ (d : ConnectionView). is_own d.port) source.2 ∙ supply-own y source.0 source.1
    | inr r ↦
        let source = of-some (control_connection a.chains a.controls x) c (parts_in a.controls y) r in
        ap (λ (d : ConnectionView). is_own d.port) (of-when-is (not (is_between source.0.1)) (joined_to (control_net source.0.0) (control_bits a.chains a.controls x source.0.1.control)) c source.2)
  ]

-- ---- an input port of the source

append-none : {A : Type 0} (xs : List A) → xs ++ [] ≡ xs
append-none [] = refl
append-none (x ∷ xs) = ap (λ ys. x ∷ ys) (append-none xs)

-- the only port of its name
pub first-alone : (n : Name) (ports : List PortView) (q : PortView) → filter (λ (r : PortView). bytes_eq r.name n) ports ≡ q ∷ [] → is_input q ≡ true → first (is_input_named n) ports ≡ Some q
first-alone n [] q e input = absurd cc
first-alone n (z ∷ ports) q e input = by (bytes_eq z.name n) e (λ f. first-alone n ports q f input)
  where
    by : (b : Bool) → cond b (z ∷ filter (λ (r : PortView). bytes_eq r.name n) ports) (filter (λ (r : PortView). bytes_eq r.name n) ports) ≡ q ∷ []
        → (filter (λ (r : PortView). bytes_eq r.name n) ports ≡ q ∷ [] → first (is_input_named n) ports ≡ Some q) → cond (b && is_input z) (Some z) (first (is_input_named n) ports) ≡ Some q
    by true f more =
        let same : z ≡ q = cc in
        ap (λ (b : Bool). cond b (Some z) (first (is_input_named n) ports)) (ap is_input same ∙ input) ∙ ap (λ r. Some r) same
    by false f more = more f

module _ (p : Project) (a : Additions) (free : LeavesNames p.structure) (w : Structure) (written : IsWrittenAt p a w)
    (inst : Name) (x : Path) (m : ModuleView) (e : module_at p.structure (inst ∷ x) ≡ Some m)
    (q : PortView) (listed : IsIn q m.ports) (input : is_input q ≡ true) (alone : filter (λ (r : PortView). bytes_eq r.name q.name) m.ports ≡ q ∷ []) (i : Option ℕ) where
  abbrev n : Name
  n = q.name

  abbrev way : Way
  way = PortBit (inst ∷ x) n i

  pub it : Child p a w inst x m
  it = child p a free w written inst x m e

  pub connected-there : connected it.here.ports n it.written.connections ≡ led_bits a.chains x (inst ∷ x) n (indices q.range) (connected m.ports n it.instance.connections)
  connected-there =
      ap (connected it.here.ports n) it.connections
      ∙ (bits-left n (led_connections a.chains x (it.instance.name ∷ x) m.ports it.instance.connections) (added_connections p a x (it.instance.name ∷ x)) (bits-none n (added_connections p a x (it.instance.name ∷ x)) (λ c h. own-other c.port n (added-own p a x (it.instance.name ∷ x) c h) (free.ports (inst ∷ x) m q e listed)))
      ∙ (ap (λ k. bits_named n (led_connections a.chains x (k ∷ x) m.ports it.instance.connections)) it.own_name
      ∙ (led-connected a.chains x (inst ∷ x) n m.ports it.instance.connections
      ∙ ap (λ is. led_bits a.chains x (inst ∷ x) n is (connected m.ports n it.instance.connections)) (ap (flat_map (λ (r : PortView). indices r.range)) alone ∙ append-none (indices q.range)))))

  -- it is driven in the written netlist by what stands for the bit that drives it in the source
  pub kept-input : (j : Node) (more : List Source) → from_port p.structure (inst ∷ x) n i q ≡ From way j ∷ more
      → (b : BitView) × (j ≡ node_of x b) × (source_of w (Inner n i (inst ∷ x)) ≡ Some (From way (node_of x (led a.chains x (inst ∷ x) n i b))))
  kept-input j more is =
      let ports = first-alone n m.ports q alone input in
      let found = heads a.chains x (inst ∷ x) n way i (pairs (indices q.range) (connected m.ports n it.instance.connections)) j more (sym (joined-port p.structure inst x n i q m it.source it.instance e it.above it.found) ∙ is) in (
        found.0,
        found.1,
        port-first w (inst ∷ x) n i it.here q (From way (node_of x (led a.chains x (inst ∷ x) n i found.0))) found.2 it.is
            (ap (first (is_input_named n)) it.ports ∙ first-left (is_input_named n) m.ports (added_ports p a (inst ∷ x)) q ports)
            (joined-port w inst x n i q it.here it.outer it.written it.is it.outer_is it.named
            ∙ (ap (λ bits. some_of (at_bit a.chains x (inst ∷ x) n way i) (pairs (indices q.range) bits)) connected-there
            ∙ (ap (some_of (at_bit a.chains x (inst ∷ x) n way i)) (led-pairs a.chains x (inst ∷ x) n (indices q.range) (connected m.ports n it.instance.connections))
            ∙ found.3))),
      )
