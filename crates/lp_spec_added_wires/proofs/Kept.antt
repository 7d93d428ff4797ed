-- What a way of the source comes from is a net bit of the source.
use Rattle.std.proofs.Common.{◌≡◌, ℕ, Bool, true, false, not, ◌&&◌, List, [], ◌∷◌, ◌++◌, Option, Some, None, inl, inr, refl, sym, ap, ◌∙◌, subst}
use Rattle.std.specs.Prelude.{flat_map, filter, bytes_eq, is_some, option_and_then, unwrap_or, if◌then◌else◌}
use Rattle.std.specs.List.{list_any}
use Rattle.lp_model.specs.NetlistView.{BitView, NetBit, SelectBit, ConstBit, PortView, ConnectionView, ConnectionsView, ByName, ByPosition, InstanceView, AssignView, ModuleView}
use Rattle.lp_model.specs.LibraryView.{PgPinView, PinView, CellView}
use Rattle.lp_spec_design.specs.Keys.{Name, Path, Node, Inner, Outer, Fixed, Way, PortBit, AssignBit, Source, CellPin, SwitchedPin, Environment, From, same_index, same_node}
use Rattle.lp_spec_design.specs.Netlists.{Structure, first, module_named, cell_named, module_at, indices, node_of, is_input, bits_named, bits_placed, connected}
use Rattle.lp_spec_design.specs.Graph.{pairs, some_of, when, joined_outside, from_port, ports_in, joined_inside, from_instance, is_output_pin, touches, from_cell, from_target, from_one, numbered, from_assign, in_module, outside, sources_of, source_of}
use Rattle.lp_spec_design.specs.Nodes.{connected_bits}
use Rattle.lp_spec_design.specs.Reads.{name-true, one, both}
use Rattle.lp_spec_design.specs.Winners.{IsIn}
use Rattle.lp_spec_design.proofs.Members.{in-left, in-right, in-flat, in-either, of-map, of-flat, of-some, of-filter, of-pairs, of-numbered, any-in}
use Rattle.lp_spec_design.proofs.Sources.{first_in}
use Rattle.lp_spec_design.proofs.Looped.{source_by, head_of, outer_sources, outer_by}
use Rattle.lp_spec_faults.specs.Modules.{is_own}
use Rattle.lp_spec_realises.specs.Projects.{Project}
use Rattle.lp_spec_written.specs.Written.{Additions}
use Rattle.lp_spec_wired.specs.Laws.{IsFreeBit}
use Rattle.lp_spec_written_at.proofs.Paths.{source-by-names}
use Rattle.lp_spec_driven.specs.Sound.{IsProper}
use Rattle.lp_spec_driven.proofs.Sources.{in-by}
use Rattle.lp_spec_wires.specs.Standing.{is_top_bit, is_kept, HasPlaces}
use Rattle.lp_spec_added_wires.proofs.Places.{is-when}

-- ---- bits of connections

named_in : (n : Name) (cs : List ConnectionView) (b : BitView) → IsIn b (bits_named n cs) → IsIn b (flat_map (λ (c : ConnectionView). c.bits) cs)
named_in n [] b h = absurd h
named_in n (c ∷ cs) b h = by (bytes_eq c.port n) h (named_in n cs b)
  where
    by : (t : Bool) → IsIn b (if t then c.bits else bits_named n cs) → (IsIn b (bits_named n cs) → IsIn b (flat_map (λ (x : ConnectionView). x.bits) cs)) → IsIn b (c.bits ++ flat_map (λ (x : ConnectionView). x.bits) cs)
    by true g more = in-left b c.bits (flat_map (λ (x : ConnectionView). x.bits) cs) g
    by false g more = in-right b c.bits (flat_map (λ (x : ConnectionView). x.bits) cs) (more g)

placed_in : (n : Name) (ports : List PortView) (values : List (List BitView)) (b : BitView) → IsIn b (bits_placed n ports values) → IsIn b (flat_map (λ (bits : List BitView). bits) values)
placed_in n [] values b h = absurd h
placed_in n (q ∷ ports) [] b h = absurd h
placed_in n (q ∷ ports) (v ∷ values) b h = by (bytes_eq q.name n) h (placed_in n ports values b)
  where
    by : (t : Bool) → IsIn b (if t then v else bits_placed n ports values) → (IsIn b (bits_placed n ports values) → IsIn b (flat_map (λ (bits : List BitView). bits) values)) → IsIn b (v ++ flat_map (λ (bits : List BitView). bits) values)
    by true g more = in-left b v (flat_map (λ (bits : List BitView). bits) values) g
    by false g more = in-right b v (flat_map (λ (bits : List BitView). bits) values) (more g)

connected_in : (ports : List PortView) (n : Name) (cs : ConnectionsView) (b : BitView) → IsIn b (connected ports n cs) → IsIn b (connected_bits cs)
connected_in ports n (ByName cs) b h = named_in n cs b h
connected_in ports n (ByPosition values) b h = placed_in n ports values b h

in_then : {A B : Type 0} (f : A → Option (List B)) (o : Option A) (x : B) → IsIn x (unwrap_or (option_and_then f o) []) → (u : A) × (o ≡ Some u) × IsIn x (unwrap_or (f u) [])
in_then f None x h = absurd h
in_then f (Some u) x h = (u, refl, h)

-- what the parent's connection has at a bit of an input port
pub record AtParent (s : Structure) (inst : Name) (x : Path) (n : Name) (i : Option ℕ) (z : Source) : Type 0 where
  pub outer : ModuleView
  pub at : module_at s x ≡ Some outer
  pub instance : InstanceView
  pub listed : IsIn instance outer.instances
  pub ports : List PortView
  pub bit : BitView
  pub connects : IsIn bit (connected ports n instance.connections)
  pub is : From (PortBit (inst ∷ x) n i) (node_of x bit) ≡ z

pub at-parent : (s : Structure) (inst : Name) (x : Path) (n : Name) (i : Option ℕ) (q : PortView) (z : Source) → IsIn z (from_port s (inst ∷ x) n i q) → AtParent s inst x n i z
at-parent s inst x n i q z h =
    let up = in_then (λ (outer : ModuleView). option_and_then (λ (y : InstanceView). option_and_then (λ (inner : ModuleView). Some (joined_outside x inst n i q y inner)) (module_named s y.target)) (first (λ (y : InstanceView). bytes_eq y.name inst) outer.instances)) (module_at s x) z h in
    let at = in_then (λ (y : InstanceView). option_and_then (λ (inner : ModuleView). Some (joined_outside x inst n i q y inner)) (module_named s y.target)) (first (λ (y : InstanceView). bytes_eq y.name inst) up.0.instances) z up.2 in
    let of = in_then (λ (inner : ModuleView). Some (joined_outside x inst n i q at.0 inner)) (module_named s at.0.target) z at.2 in
    let pair = of-some (λ (v : Option ℕ × BitView). when (same_index v.0 i) (From (PortBit (inst ∷ x) n i) (node_of x v.1))) z (pairs (indices q.range) (connected of.0.ports n at.0.connections)) of.2 in
    record {
      outer = up.0;
      at = up.1;
      instance = at.0;
      listed = (first_in (λ (y : InstanceView). bytes_eq y.name inst) up.0.instances at.0 at.1).0;
      ports = of.0.ports;
      bit = pair.0.1;
      connects = (of-pairs pair.0 (indices q.range) (connected of.0.ports n at.0.connections) pair.1).1;
      is = (is-when (same_index pair.0.0 i) (From (PortBit (inst ∷ x) n i) (node_of x pair.0.1)) z pair.2).1;
    }

module _ (s : Structure) where
  -- where it comes by a way, it comes from a net bit of the source
  abbrev pub KeptFrom : Source → Type 0
  KeptFrom (From w j) = is_kept s j ≡ true
  KeptFrom (CellPin x n q) = Unit {0}
  KeptFrom (SwitchedPin x n q) = Unit {0}
  KeptFrom Environment = Unit {0}

  kept-name : (n : Name) (i : Option ℕ) (x : Path) (m : ModuleView) → is_own n ≡ false → module_at s x ≡ Some m → is_kept s (Inner n i x) ≡ true
  kept-name n i x m free e = both (not (is_own n)) (is_some (module_at s x)) (ap not free) (ap is_some e)

  kept-bit : (b : BitView) (x : Path) (m : ModuleView) → IsFreeBit b → module_at s x ≡ Some m → is_kept s (node_of x b) ≡ true
  kept-bit (NetBit n) x m free e = kept-name n None x m free e
  kept-bit (SelectBit n i) x m free e = kept-name n (Some i) x m free e
  kept-bit (ConstBit c) x m free e = refl

module _ (p : Project) (a : Additions) (from : Way → Node) (proper : IsProper p a from) (places : HasPlaces p a) where
  abbrev s : Structure
  s = p.structure

  connected-free : (x : Path) (m : ModuleView) (y : InstanceView) (ports : List PortView) (q : Name) (b : BitView) → module_at s x ≡ Some m → IsIn y m.instances → IsIn b (connected ports q y.connections) → IsFreeBit b
  connected-free x m y ports q b e y_in h =
      proper.plain.free x m b e
      (in-left b (flat_map (λ (z : InstanceView). connected_bits z.connections) m.instances) (flat_map (λ (z : AssignView). z.left) m.assigns)
      (in-flat (λ (z : InstanceView). connected_bits z.connections) y b m.instances y_in (connected_in ports q y.connections b h)))

  module _ (n : Name) (i : Option ℕ) (z : Source) where
    -- ---- from its own ports

    by-port : (x : Path) (m : ModuleView) (q : PortView) → module_at s x ≡ Some m → IsIn q m.ports → bytes_eq q.name n ≡ true → IsIn z (from_port s x n i q) → KeptFrom s z
    by-port [] m q e q_in name h = by (list_any (same_index i) (indices q.range)) refl h
      where
        by : (t : Bool) → list_any (same_index i) (indices q.range) ≡ t → IsIn z (if t then From (PortBit [] n i) (Outer n i) ∷ [] else []) → KeptFrom s z
        by true is g = elim g [
          | inl same ↦
              subst (KeptFrom s) (sym same)
              (ap (is_top_bit n i) e ∙ any-in (λ (r : PortView). bytes_eq r.name n && list_any (same_index i) (indices r.range)) q m.ports q_in (both (bytes_eq q.name n) (list_any (same_index i) (indices q.range)) name is))
          | inr none ↦ absurd none
        ]
        by false is g = absurd g
    by-port (inst ∷ x) m q e q_in name h =
        let found = at-parent s inst x n i q z h in
        subst (KeptFrom s) found.is (kept-bit s found.bit x found.outer (connected-free x found.outer found.instance found.ports n found.bit found.at found.listed found.connects) found.at)

    module _ (x : Path) (m : ModuleView) (e : module_at s x ≡ Some m) where
      by-ports : IsIn z (ports_in s x n i m) → KeptFrom s z
      by-ports h =
          let port = of-flat (from_port s x n i) z (filter (λ (q : PortView). bytes_eq q.name n && is_input q) m.ports) h in
          let kept = of-filter (λ (q : PortView). bytes_eq q.name n && is_input q) port.0 m.ports port.1 in
          by-port x m port.0 e kept.0 (one (bytes_eq port.0.name n) (is_input port.0) kept.1) port.2

      -- ---- from its instances

      by-output : (y : InstanceView) → IsIn y m.instances → (inner : ModuleView) → module_named s y.target ≡ Some inner → IsIn z (from_instance x n i y inner) → KeptFrom s z
      by-output y y_in inner target h =
          let port = of-flat (joined_inside x n i y inner) z (filter (λ (q : PortView). not (is_input q)) inner.ports) h in
          let kept = of-filter (λ (q : PortView). not (is_input q)) port.0 inner.ports port.1 in
          let pair = of-some (λ (v : Option ℕ × BitView). when (same_node (node_of x v.1) (Inner n i x)) (From (PortBit (y.name ∷ x) port.0.name v.0) (Inner port.0.name v.0 (y.name ∷ x)))) z (pairs (indices port.0.range) (connected inner.ports port.0.name y.connections)) port.2 in
          let is = is-when (same_node (node_of x pair.0.1) (Inner n i x)) (From (PortBit (y.name ∷ x) port.0.name pair.0.0) (Inner port.0.name pair.0.0 (y.name ∷ x))) z pair.2 in
          let below : module_at s (y.name ∷ x) ≡ Some inner = sym (source-by-names p proper.fit.free x m y e y_in) ∙ target in
          subst (KeptFrom s) is.1 (kept-name s port.0.name pair.0.0 (y.name ∷ x) inner (proper.plain.leaves.ports (y.name ∷ x) inner port.0 below kept.0) below)

      by-cell : (y : InstanceView) (c : CellView) → IsIn z (from_cell x n i y c) → KeptFrom s z
      by-cell y c h =
          elim (in-either z (some_of (λ (q : PinView). when (is_output_pin q && touches x n i (connected [] q.name y.connections)) (CellPin x y.name q.name)) c.pins)
          (some_of (λ (g : PgPinView). when (is_some g.switched && touches x n i (connected [] g.name y.connections)) (SwitchedPin x y.name g.name)) c.pgs) h) [
            | inl pin ↦
                let at = of-some (λ (q : PinView). when (is_output_pin q && touches x n i (connected [] q.name y.connections)) (CellPin x y.name q.name)) z c.pins pin in
                subst (KeptFrom s) (is-when (is_output_pin at.0 && touches x n i (connected [] at.0.name y.connections)) (CellPin x y.name at.0.name) z at.2).1 tt
            | inr pg ↦
                let at = of-some (λ (g : PgPinView). when (is_some g.switched && touches x n i (connected [] g.name y.connections)) (SwitchedPin x y.name g.name)) z c.pgs pg in
                subst (KeptFrom s) (is-when (is_some at.0.switched && touches x n i (connected [] at.0.name y.connections)) (SwitchedPin x y.name at.0.name) z at.2).1 tt
          ]

      by-target : (y : InstanceView) → IsIn y m.instances → (o : Option ModuleView) (c : Option CellView) → module_named s y.target ≡ o → IsIn z (from_target x n i y o c) → KeptFrom s z
      by-target y y_in (Some inner) c target h = by-output y y_in inner target h
      by-target y y_in None (Some c) target h = by-cell y c h
      by-target y y_in None None target h = absurd h

      -- ---- from its assigns

      by-assign : IsIn z (flat_map (from_assign x n i) (numbered 0 m.assigns)) → KeptFrom s z
      by-assign h =
          let u = of-flat (from_assign x n i) z (numbered 0 m.assigns) h in
          let pair = of-some (λ (v : ℕ × (BitView × BitView)). when (same_node (node_of x v.1.0) (Inner n i x)) (From (AssignBit x u.0.0 v.0) (node_of x v.1.1))) z (numbered 0 (pairs u.0.1.left u.0.1.right)) u.2 in
          let is = is-when (same_node (node_of x pair.0.1.0) (Inner n i x)) (From (AssignBit x u.0.0 pair.0.0) (node_of x pair.0.1.1)) z pair.2 in
          let right = (of-pairs pair.0.1 u.0.1.left u.0.1.right (of-numbered 0 pair.0 (pairs u.0.1.left u.0.1.right) pair.1)).1 in
          subst (KeptFrom s) is.1 (kept-bit s pair.0.1.1 x m (places.assigned x m u.0.1 pair.0.1.1 e (of-numbered 0 u.0 m.assigns u.1) right) e)

      in-a-module : IsIn z (in_module s x n i m) → KeptFrom s z
      in-a-module h = elim (in-either z (ports_in s x n i m) (flat_map (from_one s x n i) m.instances ++ flat_map (from_assign x n i) (numbered 0 m.assigns)) h) [
        | inl port ↦ by-ports port
        | inr rest ↦ elim (in-either z (flat_map (from_one s x n i) m.instances) (flat_map (from_assign x n i) (numbered 0 m.assigns)) rest) [
          | inl inst ↦ let y = of-flat (from_one s x n i) z m.instances inst in by-target y.0 y.1 (module_named s y.0.target) (cell_named s y.0.target) refl y.2
          | inr assign ↦ by-assign assign
        ]
      ]

  -- ---- of any net bit

  pub head-in : (xs : List Source) (z : Source) → head_of xs ≡ Some z → IsIn z xs
  head-in [] z e = absurd cc
  head-in (y ∷ xs) z e = let is : z ≡ y = cc in inl is

  none-from : (k : Node) (z : Source) → source_of s k ≡ Some z → sources_of s k ≡ [] → ⊥
  none-from k z e none = let bad : None ≡ Some z = sym (source_by s k [] none) ∙ e in absurd cc

  inner-from : (n : Name) (i : Option ℕ) (x : Path) (z : Source) (o : Option ModuleView) → module_at s x ≡ o → source_of s (Inner n i x) ≡ Some z → KeptFrom s z
  inner-from n i x z None at e = absurd (none-from (Inner n i x) z e (rw (at) refl))
  inner-from n i x z (Some m) at e = in-a-module n i z x m at (head-in (in_module s x n i m) z (sym (source_by s (Inner n i x) (in_module s x n i m) (in-by s x n i m at)) ∙ e))

  outer-from : (n : Name) (i : Option ℕ) (z : Source) (o : Option ModuleView) → module_at s [] ≡ o → source_of s (Outer n i) ≡ Some z → KeptFrom s z
  outer-from n i z None at e = absurd (none-from (Outer n i) z e (outer_by s n i None at))
  outer-from n i z (Some m) at e =
      let there = head-in (outer_sources s n i (Some m)) z (sym (source_by s (Outer n i) (outer_sources s n i (Some m)) (outer_by s n i (Some m) at)) ∙ e) in
      let port = of-map (outside n i) z (filter (λ (q : PortView). bytes_eq q.name n && list_any (same_index i) (indices q.range)) m.ports) there in
      let kept = of-filter (λ (q : PortView). bytes_eq q.name n && list_any (same_index i) (indices q.range)) port.0 m.ports port.1 in
      let name : port.0.name ≡ n = name-true port.0.name n (one (bytes_eq port.0.name n) _ kept.1) in
      let free : is_own n ≡ false = ap is_own (sym name) ∙ proper.plain.leaves.ports [] m port.0 at kept.0 in
      subst (KeptFrom s) (sym port.2) (side (is_input port.0) (kept-name s n i [] m free at))
    where
      side : (b : Bool) → is_kept s (Inner n i []) ≡ true → KeptFrom s (if b then Environment else From (PortBit [] n i) (Inner n i []))
      side true h = tt
      side false h = h

  any-from : (k : Node) (z : Source) → source_of s k ≡ Some z → KeptFrom s z
  any-from (Inner n i x) z e = inner-from n i x z (module_at s x) refl e
  any-from (Outer n i) z e = outer-from n i z (module_at s []) refl e
  any-from (Fixed b) z e = let none : None ≡ Some z = e in absurd cc

  pub kept-from : (k : Node) (w : Way) (j : Node) → source_of s k ≡ Some (From w j) → is_kept s j ≡ true
  kept-from k w j e = any-from k (From w j) e
