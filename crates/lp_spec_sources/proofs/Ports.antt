-- The way into a bit of an input port, of which there is one, and which the source has as well where the port is one of the source.
use Rattle.std.proofs.Common.{◌≡◌, ℕ, Bool, true, false, ◌&&◌, List, [], ◌∷◌, map, Option, Some, inl, inr, sym, ◌∙◌, ap, subst}
use Rattle.std.specs.Prelude.{bytes_eq, filter, if◌then◌else◌}
use Rattle.std.specs.List.{list_any}
use Rattle.lp_model.specs.NetlistView.{BitView, PortView, ModuleView}
use Rattle.lp_spec_design.specs.Keys.{Name, Path, Node, Outer, Way, PortBit, Source, From, same_index}
use Rattle.lp_spec_design.specs.Netlists.{Structure, module_at, node_of, indices, connected, is_input}
use Rattle.lp_spec_design.specs.Graph.{pairs, some_of, when, from_port, ports_in}
use Rattle.lp_spec_design.specs.Reads.{name-true, name-self, index-true, one, other}
use Rattle.lp_spec_design.specs.Winners.{IsIn}
use Rattle.lp_spec_design.proofs.Members.{of-flat, of-filter, of-some, of-when, of-map, in-flat}
use Rattle.lp_spec_bridge.proofs.Driven.{indices-apart}
use Rattle.lp_spec_realises.specs.Projects.{Project}
use Rattle.lp_spec_written.specs.Nets.{led}
use Rattle.lp_spec_written.specs.Written.{Additions}
use Rattle.lp_spec_wired.specs.Contents.{IsWrittenAt}
use Rattle.lp_spec_wired.specs.Reserved.{LeavesNames}
use Rattle.lp_spec_wired.proofs.Chains.{in-filter}
use Rattle.lp_spec_wired.proofs.Inputs.{joined-port}
use Rattle.lp_spec_wired.proofs.Down.{Child, child}
use Rattle.lp_spec_wired.proofs.Led as led_ports
use Rattle.lp_spec_written_at.proofs.Lists.{in-some}
use Rattle.lp_spec_driven.proofs.Sources.{of-when-is}
use Rattle.lp_spec_driven.proofs.Outputs.{led-pairs}
use Rattle.lp_spec_single.specs.Names.{HasOwnNames}
use Rattle.lp_spec_single.proofs.Lists.{named-same, pairs-same}
use Rattle.lp_spec_single.proofs.Differ.{name_of_port, port-names}

-- from the outer side of the top, or from a bit of the parent
abbrev pub PortWay : Path → Name → Option ℕ → Source → Type 0
PortWay [] n i z = z ≡ From (PortBit [] n i) (Outer n i)
PortWay (inst ∷ u) n i z = (b : BitView) × (z ≡ From (PortBit (inst ∷ u) n i) (node_of u b))

abbrev pub is_here : Name → PortView → Bool
is_here n q = bytes_eq q.name n && is_input q

module _ (p : Project) (a : Additions) (w : Structure) (leaves : LeavesNames p.structure) (written : IsWrittenAt p a w) where
  -- ---- below the top

  module _ (inst : Name) (up : Path) (m : ModuleView) (e : module_at p.structure (inst ∷ up) ≡ Some m) (n : Name) (i : Option ℕ) (q : PortView) where
    abbrev it : Child p a w inst up m
    it = child p a leaves w written inst up m e

    abbrev way : Way
    way = PortBit (inst ∷ up) n i

    abbrev joined : Option ℕ × BitView → Option Source
    joined pair = when (same_index pair.0 i) (From way (node_of up pair.1))

    abbrev all : List (Option ℕ × BitView)
    all = pairs (indices q.range) (connected it.here.ports n it.written.connections)

    list-is : from_port w (inst ∷ up) n i q ≡ some_of joined all
    list-is = joined-port w inst up n i q it.here it.outer it.written it.is it.outer_is it.named

    pub record Low (z : Source) : Type 0 where
      pub pair : Option ℕ × BitView
      pub listed : IsIn pair all
      pub index : pair.0 ≡ i
      pub is : z ≡ From way (node_of up pair.1)

    pub low : (z : Source) → IsIn z (from_port w (inst ∷ up) n i q) → Low z
    low z h =
        let found = of-some joined z all (subst (λ l. IsIn z l) list-is h) in
        record {
          pair = found.0;
          listed = found.1;
          index = index-true found.0.0 i (of-when (same_index found.0.0 i) (From way (node_of up found.0.1)) z found.2);
          is = of-when-is (same_index found.0.0 i) (From way (node_of up found.0.1)) z found.2;
        }

    pub low-same : (y z : Source) → IsIn y (from_port w (inst ∷ up) n i q) → IsIn z (from_port w (inst ∷ up) n i q) → y ≡ z
    low-same y z h g =
        let a = low y h in
        let b = low z g in
        let same : a.pair ≡ b.pair = pairs-same (indices q.range) (connected it.here.ports n it.written.connections) (indices-apart q.range) a.pair b.pair a.listed b.listed (a.index ∙ sym b.index) in
        a.is ∙ (ap (λ (t : Option ℕ × BitView). From way (node_of up t.1)) same ∙ sym b.is)

  -- where the port is one of the source, the source has a way in there
  module _ (inst : Name) (up : Path) (m : ModuleView) (e : module_at p.structure (inst ∷ up) ≡ Some m) (q : PortView) (q_in : IsIn q m.ports) (input : is_input q ≡ true)
      (alone : filter (λ (r : PortView). bytes_eq r.name q.name) m.ports ≡ q ∷ []) (i : Option ℕ) where
    abbrev here : Child p a w inst up m
    here = led_ports.it p a leaves w written inst up m e q q_in input alone i

    abbrev in_way : Way
    in_way = PortBit (inst ∷ up) q.name i

    abbrev stood : List (Option ℕ × BitView)
    stood = pairs (indices q.range) (connected m.ports q.name here.instance.connections)

    abbrev led_pair : Option ℕ × BitView → Option ℕ × BitView
    led_pair v = (v.0, led a.chains up (inst ∷ up) q.name v.0 v.1)

    abbrev joins : Option ℕ × BitView → Option Source
    joins pair = when (same_index pair.0 i) (From in_way (node_of up pair.1))

    written-list : from_port w (inst ∷ up) q.name i q ≡ some_of joins (map led_pair stood)
    written-list =
        joined-port w inst up q.name i q here.here here.outer here.written here.is here.outer_is here.named
        ∙ (ap (λ b. some_of joins (pairs (indices q.range) b)) (led_ports.connected-there p a leaves w written inst up m e q q_in input alone i)
        ∙ ap (some_of joins) (led-pairs a.chains up (inst ∷ up) q.name (indices q.range) (connected m.ports q.name here.instance.connections)))

    source-list : from_port p.structure (inst ∷ up) q.name i q ≡ some_of joins stood
    source-list = joined-port p.structure inst up q.name i q m here.source here.instance e here.above here.found

    pub in-source : (z : Source) → IsIn z (from_port w (inst ∷ up) q.name i q) → (j : Node) × IsIn (From in_way j) (ports_in p.structure (inst ∷ up) q.name i m)
    in-source z h =
        let found = of-some joins z (map led_pair stood) (subst (λ l. IsIn z l) written-list h) in
        let pair = of-map led_pair found.0 stood found.1 in
        let index : same_index pair.0.0 i ≡ true = ap (λ (t : Option ℕ × BitView). same_index t.0 i) (sym pair.2) ∙ of-when (same_index found.0.0 i) (From in_way (node_of up found.0.1)) z found.2 in
        let y = From in_way (node_of up pair.0.1) in (
          node_of up pair.0.1,
          in-flat (from_port p.structure (inst ∷ up) q.name i) q y (filter (is_here q.name) m.ports)
              (in-filter (is_here q.name) m.ports q q_in (ap (λ b. b && is_input q) (name-self q.name) ∙ input))
              (subst (λ l. IsIn y l) (sym source-list) (in-some joins pair.0 y stood pair.1 (ap (λ b. when b y) index))),
        )

  -- ---- any instance

  top-way : (n : Name) (i : Option ℕ) (q : PortView) (z : Source) → IsIn z (from_port w [] n i q) → z ≡ From (PortBit [] n i) (Outer n i)
  top-way n i q z h = by (list_any (same_index i) (indices q.range)) h
    where
      by : (b : Bool) → IsIn z (if b then From (PortBit [] n i) (Outer n i) ∷ [] else []) → z ≡ From (PortBit [] n i) (Outer n i)
      by true (inl is) = is
      by true (inr none) = absurd none
      by false g = absurd g

  port-way : (x : Path) (m : ModuleView) → module_at p.structure x ≡ Some m → (n : Name) (i : Option ℕ) (q : PortView) (z : Source) → IsIn z (from_port w x n i q) → PortWay x n i z
  port-way [] m e n i q z h = top-way n i q z h
  port-way (inst ∷ up) m e n i q z h = let it = low inst up m e n i q z h in (it.pair.1, it.is)

  port-same : (x : Path) (m : ModuleView) → module_at p.structure x ≡ Some m → (n : Name) (i : Option ℕ) (q : PortView) (y z : Source) → IsIn y (from_port w x n i q) → IsIn z (from_port w x n i q) → y ≡ z
  port-same [] m e n i q y z h g = top-way n i q y h ∙ sym (top-way n i q z g)
  port-same (inst ∷ up) m e n i q y z h g = low-same inst up m e n i q y z h g

  module _ (own : HasOwnNames w) (x : Path) (m here : ModuleView) (e : module_at p.structure x ≡ Some m) (f : module_at w x ≡ Some here) (n : Name) (i : Option ℕ) where
    -- an input port of this name, and its way in
    pub record InPort (z : Source) : Type 0 where
      pub port : PortView
      pub listed : IsIn port here.ports
      pub named : port.name ≡ n
      pub input : is_input port ≡ true
      pub comes : IsIn z (from_port w x n i port)

    pub in-port : (z : Source) → IsIn z (ports_in w x n i here) → InPort z
    in-port z h =
        let found = of-flat (from_port w x n i) z (filter (is_here n) here.ports) h in
        let kept = of-filter (is_here n) found.0 here.ports found.1 in
        record {
          port = found.0;
          listed = kept.0;
          named = name-true found.0.name n (one (bytes_eq found.0.name n) _ kept.1);
          input = other (bytes_eq found.0.name n) _ kept.1;
          comes = found.2;
        }

    -- two ports of one name are one
    pub one-port : (q r : PortView) → IsIn q here.ports → IsIn r here.ports → q.name ≡ r.name → q ≡ r
    one-port q r h g same = named-same name_of_port here.ports (port-names w own x here f) q r h g same

    pub ports-way : (z : Source) → IsIn z (ports_in w x n i here) → PortWay x n i z
    ports-way z h = let it = in-port z h in port-way x m e n i it.port z it.comes

    pub ports-same : (y z : Source) → IsIn y (ports_in w x n i here) → IsIn z (ports_in w x n i here) → y ≡ z
    ports-same y z h g =
        let a = in-port y h in
        let b = in-port z g in
        let same : b.port ≡ a.port = one-port b.port a.port b.listed a.listed (b.named ∙ sym a.named) in
        port-same x m e n i a.port y z a.comes (subst (λ q. IsIn z (from_port w x n i q)) same b.comes)
