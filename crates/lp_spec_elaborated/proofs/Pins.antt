-- What drives a net bit by a pin is joined to it at this pin, and the other way round.
use Rattle.std.proofs.Common.{◌≡◌, ◌≤◌, ℕ, Bool, true, false, ◌&&◌, List, [], ◌∷◌, ◌++◌, map, length, Option, Some, None, inl, inr, refl, sym, ap, ◌∙◌, subst, arith}
use Rattle.std.specs.Prelude.{not, filter, flat_map, bytes_eq, is_some, option_and_then, if◌then◌else◌}
use Rattle.std.specs.List.{list_any}
use Rattle.std.proofs.lemmas.Bool.{and_parts}
use Rattle.lp_model.specs.NetlistView.{BitView, NetBit, SelectBit, ConstBit, PortView, InstanceView, AssignView, ModuleView}
use Rattle.lp_model.specs.LibraryView.{CellView, PinView, PgPinView}
use Rattle.lp_spec_design.specs.Keys.{Name, Path, Node, Inner, Outer, Fixed, Source, CellPin, SwitchedPin, Environment, From, PortBit, AssignBit, same_index, same_node}
use Rattle.lp_spec_design.specs.Netlists.{Structure, first, module_at, module_named, cell_named, cell_at, instance_named, node_of, connected, is_input, indices}
use Rattle.lp_spec_design.specs.Instances.{Placed}
use Rattle.lp_spec_design.specs.Graph.{pairs, and_more, some_of, when, from_port, joined_outside, joined_inside, pin_node, is_output_pin, touches, ports_in, from_one, from_target, from_cell, from_instance, from_assign, in_module, numbered, outside, sources_of}
use Rattle.lp_spec_design.specs.Nodes.{nodes_of}
use Rattle.lp_spec_design.specs.Reads.{both, name-true, node-true, node-self}
use Rattle.lp_spec_design.specs.Winners.{IsIn}
use Rattle.lp_spec_design.proofs.Members.{in-left, in-right, in-either, in-map, in-flat, of-map, of-flat, of-some, of-when, of-any, any-in}
use Rattle.lp_spec_design.proofs.Sources.{then_is, first_in}
use Rattle.lp_spec_design.proofs.Looped.{outer_by}
use Rattle.lp_spec_bridge.specs.Driven.{JoinsSingleBits}
use Rattle.lp_spec_bridge.specs.Names.{HasNamesApart}
use Rattle.lp_spec_bridge.specs.Represents.{joined_at, outputs_in, row_size}
use Rattle.lp_spec_bridge.specs.Keyed.{IsApart}
use Rattle.lp_spec_bridge.proofs.Distinct.{apart-append, apart-map}
use Rattle.lp_spec_bridge.proofs.Driven.{no-fixed, then-in}
use Rattle.lp_spec_bridge.proofs.Trails.{map-map}
use Rattle.std.proofs.lemmas.List.{map-append, length-append, length-map}
use Rattle.lp_spec_elaborated.specs.Elaborated.{HasPinsApart}
use Rattle.lp_spec_layout.proofs.Fed.{no-module, named-at, path-cell}

-- ---- lists

in-some : {A B : Type 0} (f : A → Option B) (a : A) (b : B) (xs : List A) → IsIn a xs → f a ≡ Some b → IsIn b (some_of f xs)
in-some f a b [] h e = absurd h
in-some f a b (x ∷ xs) (inl is) e = subst (λ o. IsIn b (and_more o (some_of f xs))) (sym e ∙ ap f is) (inl refl)
in-some f a b (x ∷ xs) (inr h) e = by (f x) (in-some f a b xs h e)
  where
    by : (o : Option _) → IsIn b (some_of f xs) → IsIn b (and_more o (some_of f xs))
    by None g = g
    by (Some y) g = inr g

-- ---- a pin of a cell instance: as what drives, the node to which it is joined, and whether the cell drives it

pub record Pin : Type 0 where
  pub is : Source
  pub joined : Option Node
  pub drives : Bool

abbrev pub signal_at : Structure → Placed → PinView → Pin
signal_at s a q = record { is = CellPin a.path a.instance q.name; joined = joined_at s a q.name; drives = is_output_pin q }

abbrev pub pg_at : Structure → Placed → PgPinView → Pin
pg_at s a g = record { is = SwitchedPin a.path a.instance g.name; joined = joined_at s a g.name; drives = is_some g.switched }

abbrev pub pins_at : Structure → Placed → CellView → List Pin
pins_at s a c = map (signal_at s a) c.pins ++ map (pg_at s a) c.pgs

-- the cell instance of a pin that drives
abbrev pub IsPinOf : Source → Placed → Type 0
IsPinOf (CellPin p x n) a = (p ≡ a.path) × (x ≡ a.instance)
IsPinOf (SwitchedPin p x n) a = (p ≡ a.path) × (x ≡ a.instance)
IsPinOf Environment a = ⊥
IsPinOf (From w k) a = ⊥

pub pin-of : (s : Structure) (a : Placed) (c : CellView) (z : Pin) → IsIn z (pins_at s a c) → IsPinOf z.is a
pin-of s a c z h = elim (in-either z (map (signal_at s a) c.pins) (map (pg_at s a) c.pgs) h) [
  | inl l ↦ let q = of-map (signal_at s a) z c.pins l in subst (λ (y : Pin). IsPinOf y.is a) (sym q.2) (refl, refl)
  | inr r ↦ let g = of-map (pg_at s a) z c.pgs r in subst (λ (y : Pin). IsPinOf y.is a) (sym g.2) (refl, refl)
]

-- a pin that drives a node is joined to it
pub record DrivesAt (s : Structure) (a : Placed) (c : CellView) (k : Node) (x : Source) : Type 0 where
  pub pin : Pin
  pub there : IsIn pin (pins_at s a c)
  pub is : pin.is ≡ x
  pub joined : pin.joined ≡ Some k
  pub drives : pin.drives ≡ true

abbrev signal-from : Path → Name → Option ℕ → InstanceView → PinView → Option Source
signal-from p n i y q = when (is_output_pin q && touches p n i (connected [] q.name y.connections)) (CellPin p y.name q.name)

abbrev pg-from : Path → Name → Option ℕ → InstanceView → PgPinView → Option Source
pg-from p n i y g = when (is_some g.switched && touches p n i (connected [] g.name y.connections)) (SwitchedPin p y.name g.name)

-- what is asked of each pin, in their order
pub each-pin : {B : Type 0} (s : Structure) (a : Placed) (c : CellView) (f : Pin → B) → map f (pins_at s a c) ≡ map (λ (q : PinView). f (signal_at s a q)) c.pins ++ map (λ (g : PgPinView). f (pg_at s a g)) c.pgs
each-pin s a c f =
    map-append f (map (signal_at s a) c.pins) (map (pg_at s a) c.pgs)
    ∙ (ap (λ xs. xs ++ map f (map (pg_at s a) c.pgs)) (map-map f (signal_at s a) c.pins)
    ∙ ap (λ xs. map (λ (q : PinView). f (signal_at s a q)) c.pins ++ xs) (map-map f (pg_at s a) c.pgs))

pub outputs-size : (a : Placed) (c : Option CellView) → length (outputs_in a c) ≡ row_size c
outputs-size a None = refl
outputs-size a (Some c) =
    let all = length-append (map (λ (q : PinView). CellPin a.path a.instance q.name) c.pins) (map (λ (g : PgPinView). SwitchedPin a.path a.instance g.name) c.pgs) in
    let first = length-map c.pins (λ (q : PinView). CellPin a.path a.instance q.name) in
    let second = length-map c.pgs (λ (g : PgPinView). SwitchedPin a.path a.instance g.name) in
    omega (arith, all, first, second)

-- the pins of a cell are told apart
pub pins-apart : (s : Structure) → HasPinsApart s → (a : Placed) (c : CellView) → cell_at s a.path a.instance ≡ Some c → IsApart (map (λ (z : Pin). z.is) (pins_at s a c))
pins-apart s apart a c is =
    let signals = λ (q : PinView). CellPin a.path a.instance q.name in
    let pgs = λ (g : PgPinView). SwitchedPin a.path a.instance g.name in
    subst IsApart (sym (each-pin s a c (λ (z : Pin). z.is)))
    (apart-append (map signals c.pins) (map pgs c.pgs)
    (apart-map (λ (q : PinView). q.name) signals c.pins (apart.pins a c is) (λ q r e. cc))
    (apart-map (λ (g : PgPinView). g.name) pgs c.pgs (apart.pgs a c is) (λ q r e. cc))
    (λ z l r. no-both (of-map signals z c.pins l) (of-map pgs z c.pgs r)))
  where
    no-both : {z : Source} → (q : PinView) × IsIn q c.pins × (z ≡ CellPin a.path a.instance q.name) → (g : PgPinView) × IsIn g c.pgs × (z ≡ SwitchedPin a.path a.instance g.name) → ⊥
    no-both q g = let no_ : CellPin a.path a.instance q.0.name ≡ SwitchedPin a.path a.instance g.0.name = sym q.2 ∙ g.2 in cc

module _ (s : Structure) (names : HasNamesApart s) (single : JoinsSingleBits s) where
  -- ---- from what drives to the pin

  joined-here : (p : Path) (m : ModuleView) (y : InstanceView) (n : Name) → module_at s p ≡ Some m → IsIn y m.instances → joined_at s (record { path = p; instance = y.name }) n ≡ pin_node p n y.connections
  joined-here p m y n at member =
      ap (option_and_then (λ (m : ModuleView). option_and_then (λ (x : InstanceView). pin_node p n x.connections) (instance_named m y.name))) at
      ∙ ap (option_and_then (λ (x : InstanceView). pin_node p n x.connections)) (named-at s names p m y at member)

  node-in : Path → List BitView → Option Node
  node-in p [] = None
  node-in p (b ∷ rest) = Some (node_of p b)

  pin-node-is : (p : Path) (n : Name) (y : InstanceView) (bs : List BitView) → connected [] n y.connections ≡ bs → pin_node p n y.connections ≡ node-in p bs
  unfolding node-in
  pin-node-is p n y [] e = rw e refl
  pin-node-is p n y (b ∷ rest) e = rw e refl

  -- the only bit at a pin is the one that it touches
  touched : (p : Path) (k : Node) (n : Name) (y : InstanceView) → length (connected [] n y.connections) ≤ 1 → list_any (λ b. same_node (node_of p b) k) (connected [] n y.connections) ≡ true → pin_node p n y.connections ≡ Some k
  unfolding node-in
  touched p k n y few e = by (connected [] n y.connections) refl few e
    where
      by : (bs : List BitView) → connected [] n y.connections ≡ bs → length bs ≤ 1 → list_any (λ b. same_node (node_of p b) k) bs ≡ true → pin_node p n y.connections ≡ Some k
      by [] g low f = absurd cc
      by (b ∷ []) g low f =
          let found = of-any (λ b. same_node (node_of p b) k) (b ∷ []) f in
          elim found.1 [
            | inl is ↦ pin-node-is p n y (b ∷ []) g ∙ ap (λ z. Some z) (ap (node_of p) (sym is) ∙ node-true (node_of p found.0) k found.2)
            | inr no_ ↦ absurd no_
          ]
      by (b ∷ d ∷ rest) g low f = absurd (omega (arith, low))

  made-by : (b : Bool) (z w : Source) → when b z ≡ Some w → z ≡ w
  made-by true z w e = let is : z ≡ w = cc in is
  made-by false z w e = absurd cc

  module _ (p : Path) (m : ModuleView) (at : module_at s p ≡ Some m) (n : Name) (i : Option ℕ) where
    of-cell : (y : InstanceView) → IsIn y m.instances → (d : CellView) → cell_named s y.target ≡ Some d → (x : Source) → IsIn x (from_cell p n i y d) → DrivesAt s (record { path = p; instance = y.name }) d (Inner n i p) x
    of-cell y member d named x h = elim (in-either x (some_of (signal-from p n i y) d.pins) (some_of (pg-from p n i y) d.pgs) h) [
      | inl l ↦
          let q = of-some (signal-from p n i y) x d.pins l in
          let parts = and_parts (is_output_pin q.0) (touches p n i (connected [] q.0.name y.connections)) (of-when (is_output_pin q.0 && touches p n i (connected [] q.0.name y.connections)) (CellPin p y.name q.0.name) x q.2) in
          record {
            pin = signal_at s (record { path = p; instance = y.name }) q.0;
            there = in-left (signal_at s (record { path = p; instance = y.name }) q.0) (map (signal_at s (record { path = p; instance = y.name })) d.pins) (map (pg_at s (record { path = p; instance = y.name })) d.pgs) (in-map (signal_at s (record { path = p; instance = y.name })) q.0 d.pins q.1);
            is = made-by (is_output_pin q.0 && touches p n i (connected [] q.0.name y.connections)) (CellPin p y.name q.0.name) x q.2;
            joined = joined-here p m y q.0.name at member ∙ touched p (Inner n i p) q.0.name y (single.pins p m y d q.0 at member named q.1) parts.1;
            drives = parts.0;
          }
      | inr r ↦
          let g = of-some (pg-from p n i y) x d.pgs r in
          let parts = and_parts (is_some g.0.switched) (touches p n i (connected [] g.0.name y.connections)) (of-when (is_some g.0.switched && touches p n i (connected [] g.0.name y.connections)) (SwitchedPin p y.name g.0.name) x g.2) in
          record {
            pin = pg_at s (record { path = p; instance = y.name }) g.0;
            there = in-right (pg_at s (record { path = p; instance = y.name }) g.0) (map (signal_at s (record { path = p; instance = y.name })) d.pins) (map (pg_at s (record { path = p; instance = y.name })) d.pgs) (in-map (pg_at s (record { path = p; instance = y.name })) g.0 d.pgs g.1);
            is = made-by (is_some g.0.switched && touches p n i (connected [] g.0.name y.connections)) (SwitchedPin p y.name g.0.name) x g.2;
            joined = joined-here p m y g.0.name at member ∙ touched p (Inner n i p) g.0.name y (single.pgs p m y d g.0 at member named g.1) parts.1;
            drives = parts.0;
          }
    ]

    -- a way is no pin
    abbrev IsWay : Source → Type 0
    IsWay x = (a : Placed) → IsPinOf x a → ⊥

    port-way : (q : Path) (port : PortView) (x : Source) → IsIn x (from_port s q n i port) → IsWay x
    port-way [] port x h a mine = by (list_any (same_index i) (indices port.range)) h
      where
        by : (b : Bool) → IsIn x (if b then From (PortBit [] n i) (Outer n i) ∷ [] else []) → ⊥
        by true g = elim g [ inl is ↦ subst (λ z. IsPinOf z a) is mine | inr no_ ↦ no_ ]
        by false g = g
    port-way (inst ∷ q) port x h a mine =
        let above = then-in (λ (outer : ModuleView). option_and_then (λ (y : InstanceView). option_and_then (λ (inner : ModuleView). Some (joined_outside q inst n i port y inner)) (module_named s y.target)) (first (λ (y : InstanceView). bytes_eq y.name inst) outer.instances)) (module_at s q) x h in
        let place = then-in (λ (y : InstanceView). option_and_then (λ (inner : ModuleView). Some (joined_outside q inst n i port y inner)) (module_named s y.target)) (first (λ (y : InstanceView). bytes_eq y.name inst) above.0.instances) x above.1 in
        let of = then-in (λ (inner : ModuleView). Some (joined_outside q inst n i port place.0 inner)) (module_named s place.0.target) x place.1 in
        let pair = of-some (λ (z : Option ℕ × BitView). when (same_index z.0 i) (From (PortBit (inst ∷ q) n i) (node_of q z.1))) x (pairs (indices port.range) (connected of.0.ports n place.0.connections)) of.1 in
        let made = made-by (same_index pair.0.0 i) (From (PortBit (inst ∷ q) n i) (node_of q pair.0.1)) x pair.2 in
        subst (λ z. IsPinOf z a) (sym made) mine

    inside-way : (y : InstanceView) (inner : ModuleView) (x : Source) → IsIn x (from_instance p n i y inner) → IsWay x
    inside-way y inner x h a mine =
        let port = of-flat (joined_inside p n i y inner) x (filter (λ (q : PortView). not (is_input q)) inner.ports) h in
        let pair = of-some (λ (z : Option ℕ × BitView). when (same_node (node_of p z.1) (Inner n i p)) (From (PortBit (y.name ∷ p) port.0.name z.0) (Inner port.0.name z.0 (y.name ∷ p)))) x (pairs (indices port.0.range) (connected inner.ports port.0.name y.connections)) port.2 in
        let made = made-by (same_node (node_of p pair.0.1) (Inner n i p)) (From (PortBit (y.name ∷ p) port.0.name pair.0.0) (Inner port.0.name pair.0.0 (y.name ∷ p))) x pair.2 in
        subst (λ z. IsPinOf z a) (sym made) mine

    assign-way : (z : ℕ × AssignView) (x : Source) → IsIn x (from_assign p n i z) → IsWay x
    assign-way z x h a mine =
        let pair = of-some (λ (y : ℕ × (BitView × BitView)). when (same_node (node_of p y.1.0) (Inner n i p)) (From (AssignBit p z.0 y.0) (node_of p y.1.1))) x (numbered 0 (pairs z.1.left z.1.right)) h in
        let made = made-by (same_node (node_of p pair.0.1.0) (Inner n i p)) (From (AssignBit p z.0 pair.0.0) (node_of p pair.0.1.1)) x pair.2 in
        subst (λ y. IsPinOf y a) (sym made) mine

    of-target : (y : InstanceView) → IsIn y m.instances → (o : Option ModuleView) (c : Option CellView) → cell_named s y.target ≡ c → (x : Source) (a : Placed) → IsPinOf x a → IsIn x (from_target p n i y o c)
        → (d : CellView) × (cell_at s p y.name ≡ Some d) × DrivesAt s (record { path = p; instance = y.name }) d (Inner n i p) x
    of-target y member (Some inner) c named x a mine h = absurd (inside-way y inner x h a mine)
    of-target y member None (Some d) named x a mine h = (d, path-cell s names p m y at member ∙ named, of-cell y member d named x h)
    of-target y member None None named x a mine h = absurd h

    of-module : (x : Source) (a : Placed) (c : CellView) → IsPinOf x a → cell_at s a.path a.instance ≡ Some c → IsIn x (in_module s p n i m) → DrivesAt s a c (Inner n i p) x
    of-module x a c mine is h = elim (in-either x (ports_in s p n i m) (flat_map (from_one s p n i) m.instances ++ flat_map (from_assign p n i) (numbered 0 m.assigns)) h) [
      | inl port ↦ let q = of-flat (from_port s p n i) x (filter (λ (q : PortView). bytes_eq q.name n && is_input q) m.ports) port in absurd (port-way p q.0 x q.2 a mine)
      | inr rest ↦
          elim (in-either x (flat_map (from_one s p n i) m.instances) (flat_map (from_assign p n i) (numbered 0 m.assigns)) rest) [
            | inl one ↦
                let y = of-flat (from_one s p n i) x m.instances one in
                let found = of-target y.0 y.1 (module_named s y.0.target) (cell_named s y.0.target) refl x a mine y.2 in
                moved (record { path = p; instance = y.0.name }) a found.0 c (same-place x (record { path = p; instance = y.0.name }) a (own-pin found.0 (record { path = p; instance = y.0.name }) found.2) mine) found.1 is found.2
            | inr assign ↦ let z = of-flat (from_assign p n i) x (numbered 0 m.assigns) assign in absurd (assign-way z.0 x z.2 a mine)
          ]
    ]
      where
        own-pin : (d : CellView) (b : Placed) → DrivesAt s b d (Inner n i p) x → IsPinOf x b
        own-pin d b v = subst (λ y. IsPinOf y b) v.is (pin-of s b d v.pin v.there)

        same-place : (y : Source) (b e : Placed) → IsPinOf y b → IsPinOf y e → b ≡ e
        same-place (CellPin q z r) b e f g = λ j. record { path = (sym f.0 ∙ g.0) j; instance = (sym f.1 ∙ g.1) j }
        same-place (SwitchedPin q z r) b e f g = λ j. record { path = (sym f.0 ∙ g.0) j; instance = (sym f.1 ∙ g.1) j }
        same-place Environment b e f g = absurd f
        same-place (From w j) b e f g = absurd f

        moved : (b e : Placed) (d f : CellView) → b ≡ e → cell_at s b.path b.instance ≡ Some d → cell_at s e.path e.instance ≡ Some f → DrivesAt s b d (Inner n i p) x → DrivesAt s e f (Inner n i p) x
        moved b e d f same one_ two v =
            let both : Some d ≡ Some f = sym one_ ∙ (ap (λ (u : Placed). cell_at s u.path u.instance) same ∙ two) in
            let cell : d ≡ f = cc in
            subst (λ u. DrivesAt s u f (Inner n i p) x) same (subst (λ u. DrivesAt s b u (Inner n i p) x) cell v)

  -- what drives a node by a pin is joined to it there
  pub pin-drives : (k : Node) (x : Source) (a : Placed) (c : CellView) → IsIn x (sources_of s k) → IsPinOf x a → cell_at s a.path a.instance ≡ Some c → DrivesAt s a c k x
  pin-drives (Inner n i p) x a c h mine is = by (module_at s p) refl
    where
      by : (o : Option ModuleView) → module_at s p ≡ o → DrivesAt s a c (Inner n i p) x
      by None e = absurd (subst (IsIn x) (by-none e) h)
        where
          by-none : module_at s p ≡ None → sources_of s (Inner n i p) ≡ []
          by-none e = rw e refl
      by (Some m) e = of-module p m e n i x a c mine is (subst (IsIn x) (by-some m e) h)
        where
          by-some : (m : ModuleView) → module_at s p ≡ Some m → sources_of s (Inner n i p) ≡ in_module s p n i m
          by-some m e = rw e refl
  pin-drives (Outer n i) x a c h mine is = by (module_at s []) refl
    where
      by : (o : Option ModuleView) → module_at s [] ≡ o → DrivesAt s a c (Outer n i) x
      by None e = absurd (subst (IsIn x) (outer_by s n i None e) h)
      by (Some m) e =
          let port = of-map (outside n i) x (filter (λ (port : PortView). bytes_eq port.name n && list_any (same_index i) (indices port.range)) m.ports) (subst (IsIn x) (outer_by s n i (Some m) e) h) in
          absurd (no-pin (is_input port.0) (subst (λ z. IsPinOf z a) port.2 mine))
        where
          no-pin : (b : Bool) → IsPinOf (if b then Environment else From (PortBit [] n i) (Inner n i [])) a → ⊥
          no-pin true f = f
          no-pin false f = f
  pin-drives (Fixed b) x a c h mine is = absurd h

  -- ---- from the pin to what drives

  bit-in : (p : Path) (n : Name) (y : InstanceView) (k : Node) → pin_node p n y.connections ≡ Some k → (b : BitView) × IsIn b (connected [] n y.connections) × (node_of p b ≡ k)
  unfolding node-in
  bit-in p n y k e = by (connected [] n y.connections) refl
    where
      by : (bs : List BitView) → connected [] n y.connections ≡ bs → (b : BitView) × IsIn b (connected [] n y.connections) × (node_of p b ≡ k)
      by [] g = let no_ : None ≡ Some k = sym (pin-node-is p n y [] g) ∙ e in absurd cc
      by (b ∷ rest) g =
          let same : Some (node_of p b) ≡ Some k = sym (pin-node-is p n y (b ∷ rest) g) ∙ e in
          let is : node_of p b ≡ k = cc in
          (b, subst (IsIn b) (sym g) (inl refl), is)

  -- the instance of a pin that is joined
  pub record Stands (a : Placed) (n : Name) (c : CellView) (k : Node) : Type 0 where
    pub of : ModuleView
    pub by : InstanceView
    pub at : module_at s a.path ≡ Some of
    pub member : IsIn by of.instances
    pub named : by.name ≡ a.instance
    pub cell : cell_named s by.target ≡ Some c
    pub bit : BitView
    pub touches : IsIn bit (connected [] n by.connections)
    pub is : node_of a.path bit ≡ k

  stands : (a : Placed) (n : Name) (c : CellView) (k : Node) → cell_at s a.path a.instance ≡ Some c → joined_at s a n ≡ Some k → Stands a n c k
  stands a n c k cell joined =
      let m = then_is (λ (m : ModuleView). option_and_then (λ (x : InstanceView). cell_named s x.target) (instance_named m a.instance)) (module_at s a.path) c cell in
      let y = then_is (λ (x : InstanceView). cell_named s x.target) (instance_named m.0 a.instance) c m.2 in
      let found = first_in (λ (x : InstanceView). bytes_eq x.name a.instance) m.0.instances y.0 y.1 in
      let node : pin_node a.path n y.0.connections ≡ Some k =
      sym (ap (option_and_then (λ (m : ModuleView). option_and_then (λ (x : InstanceView). pin_node a.path n x.connections) (instance_named m a.instance))) m.1
      ∙ ap (option_and_then (λ (x : InstanceView). pin_node a.path n x.connections)) y.1)
      ∙ joined in
      let bit = bit-in a.path n y.0 k node in
      record { of = m.0; by = y.0; at = m.1; member = found.0; named = name-true y.0.name a.instance found.1; cell = y.2; bit = bit.0; touches = bit.1; is = bit.2 }

  -- what a cell instance drives is among the sources
  cell-source : (a : Placed) (n : Name) (c : CellView) (k : Node) → IsIn k (nodes_of s) → (v : Stands a n c k) → (x : Source)
      → ((m : Name) (i : Option ℕ) → list_any (λ b. same_node (node_of a.path b) (Inner m i a.path)) (connected [] n v.by.connections) ≡ true → IsIn x (from_cell a.path m i v.by c)) → IsIn x (sources_of s k)
  cell-source a n c k inside v x made = at-bit v.bit v.touches v.is
    where
      at-node : (b : BitView) (m : Name) (i : Option ℕ) → IsIn b (connected [] n v.by.connections) → node_of a.path b ≡ Inner m i a.path → IsIn x (sources_of s (Inner m i a.path))
      at-node b m i h is =
          let touched_ = any-in (λ b. same_node (node_of a.path b) (Inner m i a.path)) b (connected [] n v.by.connections) h (ap (λ z. same_node z (Inner m i a.path)) is ∙ node-self (Inner m i a.path)) in
          let none = no-module (module_named s v.by.target) (first (λ (d : CellView). bytes_eq d.name v.by.target) s.cells) c v.cell in
          subst (IsIn x) (sym (by-some v.of v.at))
          (in-right x (ports_in s a.path m i v.of) (flat_map (from_one s a.path m i) v.of.instances ++ flat_map (from_assign a.path m i) (numbered 0 v.of.assigns))
          (in-left x (flat_map (from_one s a.path m i) v.of.instances) (flat_map (from_assign a.path m i) (numbered 0 v.of.assigns))
          (in-flat (from_one s a.path m i) v.by x v.of.instances v.member
          (subst (λ o. IsIn x (from_target a.path m i v.by o (cell_named s v.by.target))) (sym none)
          (subst (λ o. IsIn x (from_target a.path m i v.by None o)) (sym v.cell) (made m i touched_))))))
        where
          by-some : (w : ModuleView) → module_at s a.path ≡ Some w → sources_of s (Inner m i a.path) ≡ in_module s a.path m i w
          by-some w e = rw e refl

      at-bit : (b : BitView) → IsIn b (connected [] n v.by.connections) → node_of a.path b ≡ k → IsIn x (sources_of s k)
      at-bit (NetBit m) h is = subst (λ z. IsIn x (sources_of s z)) is (at-node (NetBit m) m None h refl)
      at-bit (SelectBit m i) h is = subst (λ z. IsIn x (sources_of s z)) is (at-node (SelectBit m i) m (Some i) h refl)
      at-bit (ConstBit b) h is = absurd (no-fixed s b (subst (λ z. IsIn z (nodes_of s)) (sym is) inside))

  pub pin-source : (a : Placed) (c : CellView) (z : Pin) (k : Node) → cell_at s a.path a.instance ≡ Some c → IsIn z (pins_at s a c) → z.joined ≡ Some k → z.drives ≡ true → IsIn k (nodes_of s) → IsIn z.is (sources_of s k)
  pin-source a c z k cell h joined drives inside = elim (in-either z (map (signal_at s a) c.pins) (map (pg_at s a) c.pgs) h) [
    | inl l ↦
        let q = of-map (signal_at s a) z c.pins l in
        signal q.0 q.1 (ap (λ (y : Pin). y.joined) (sym q.2) ∙ joined) (ap (λ (y : Pin). y.drives) (sym q.2) ∙ drives) (ap (λ (y : Pin). y.is) q.2)
    | inr r ↦
        let g = of-map (pg_at s a) z c.pgs r in
        pg g.0 g.1 (ap (λ (y : Pin). y.joined) (sym g.2) ∙ joined) (ap (λ (y : Pin). y.drives) (sym g.2) ∙ drives) (ap (λ (y : Pin). y.is) g.2)
  ]
    where
      signal : (q : PinView) → IsIn q c.pins → joined_at s a q.name ≡ Some k → is_output_pin q ≡ true → z.is ≡ CellPin a.path a.instance q.name → IsIn z.is (sources_of s k)
      signal q member at out is =
          let v = stands a q.name c k cell at in
          cell-source a q.name c k inside v z.is
          (λ m i t.
          in-left z.is (some_of (λ (q : PinView). when (is_output_pin q && touches a.path m i (connected [] q.name v.by.connections)) (CellPin a.path v.by.name q.name)) c.pins) (some_of (λ (g : PgPinView). when (is_some g.switched && touches a.path m i (connected [] g.name v.by.connections)) (SwitchedPin a.path v.by.name g.name)) c.pgs)
          (in-some (λ (q : PinView). when (is_output_pin q && touches a.path m i (connected [] q.name v.by.connections)) (CellPin a.path v.by.name q.name)) q z.is c.pins member
          (ap (λ b. when b (CellPin a.path v.by.name q.name)) (both (is_output_pin q) (touches a.path m i (connected [] q.name v.by.connections)) out t)
          ∙ ap (λ y. Some y) (ap (λ y. CellPin a.path y q.name) v.named ∙ sym is))))

      pg : (g : PgPinView) → IsIn g c.pgs → joined_at s a g.name ≡ Some k → is_some g.switched ≡ true → z.is ≡ SwitchedPin a.path a.instance g.name → IsIn z.is (sources_of s k)
      pg g member at out is =
          let v = stands a g.name c k cell at in
          cell-source a g.name c k inside v z.is
          (λ m i t.
          in-right z.is (some_of (λ (q : PinView). when (is_output_pin q && touches a.path m i (connected [] q.name v.by.connections)) (CellPin a.path v.by.name q.name)) c.pins) (some_of (λ (g : PgPinView). when (is_some g.switched && touches a.path m i (connected [] g.name v.by.connections)) (SwitchedPin a.path v.by.name g.name)) c.pgs)
          (in-some (λ (g : PgPinView). when (is_some g.switched && touches a.path m i (connected [] g.name v.by.connections)) (SwitchedPin a.path v.by.name g.name)) g z.is c.pgs member
          (ap (λ b. when b (SwitchedPin a.path v.by.name g.name)) (both (is_some g.switched) (touches a.path m i (connected [] g.name v.by.connections)) out t)
          ∙ ap (λ y. Some y) (ap (λ y. SwitchedPin a.path y g.name) v.named ∙ sym is))))
