-- Each input pin of the source begins in the written netlist where it has to; one that is open stays open.
use Rattle.std.proofs.Common.{◌≡◌, ℕ, Bool, true, false, not, List, [], ◌∷◌, ◌++◌, map, Option, Some, None, inl, inr, refl, sym, ap, ◌∙◌, subst}
use Rattle.std.specs.Prelude.{bytes_eq, filter, option_and_then, if◌then◌else◌}
use Rattle.std.specs.List.{list_all}
use Rattle.std.proofs.lemmas.Bool.{false≢true}
use Rattle.lp_model.specs.NetlistView.{BitView, ConnectionView, ConnectionsView, ByName, ByPosition, InstanceView, ModuleView}
use Rattle.lp_model.specs.LibraryView.{PgPinView, PinView, CellView}
use Rattle.lp_spec_design.specs.Keys.{Name, Path, Node}
use Rattle.lp_spec_design.specs.Netlists.{Structure, instance_named, node_of, bits_named, connected}
use Rattle.lp_spec_design.specs.Instances.{Placed, cell_instances}
use Rattle.lp_spec_design.specs.Nodes.{fuel_of}
use Rattle.lp_spec_design.specs.Graph.{pin_node}
use Rattle.lp_spec_design.specs.Settled.{node_at_pin, pin_named}
use Rattle.lp_spec_design.specs.Winners.{IsIn}
use Rattle.lp_spec_design.specs.Reads.{one, other, name-true}
use Rattle.lp_spec_design.proofs.Members.{IsApart, in-either, in-map, of-map, of-filter}
use Rattle.lp_spec_design.proofs.Sources.{first_in}
use Rattle.lp_spec_pins.specs.Pins.{is_input_pin}
use Rattle.lp_spec_fit.specs.Fits.{is_usable, only_retains, is_retention_pin, retention_pins, same_pin, has_pins_of, has_exactly_pins_of}
use Rattle.lp_spec_realises.specs.Projects.{Project}
use Rattle.lp_spec_realises.specs.Implements.{Lists}
use Rattle.lp_spec_realises.specs.Ends.{some_end, end_at_pin, some_intended}
use Rattle.lp_spec_realises.specs.Realises.{cell_of, passed_by, source_cell_stands, joins_of_source, control_of, input_begins, inputs_begin}
use Rattle.lp_spec_written.specs.Places.{Kept, plan}
use Rattle.lp_spec_written.specs.Nets.{renamed, by_names}
use Rattle.lp_spec_written.specs.Supplies.{or_cell, kept_at, cell_for, joined_pins, pins_of_cell, source_pins, joined_to, origin_bits, supply_connections}
use Rattle.lp_spec_written.specs.Routes.{some_control_bits}
use Rattle.lp_spec_written.specs.Written.{Additions, additions, retention_connections, written_cell_instance}
use Rattle.lp_spec_hub.specs.Laws.{EndsAsWired, WholePlan}
use Rattle.lp_spec_wired.specs.Names.{placement_of}
use Rattle.lp_spec_wired.proofs.Lists.{bits-none}
use Rattle.lp_spec_written_at.specs.Sources.{cell_names, HasFreePins}
use Rattle.lp_spec_written_at.proofs.Lists.{of-all, all-of, first-apart}
use Rattle.lp_spec_written_at.proofs.Cells.{source-cells}
use Rattle.lp_spec_written_at.proofs.SourceCells.{instances-named}
use Rattle.lp_spec_written_at.proofs.Weave.{names-apart, apart-front, apart-sides, key-tells}
use Rattle.lp_spec_written_at.proofs.PinsAt.{pin-by, joined-in, source-pin, source-kept}
use Rattle.lp_spec_wires.specs.Standing.{is_kept}
use Rattle.lp_spec_begun.specs.Begun.{HasWires, HasPins}
use Rattle.lp_spec_begun.proofs.Ends.{end-is, at-node}
use Rattle.lp_spec_begun.proofs.CellInstances.{IsCellInstance, connected-in, instance-bit, kept-bit}
use Rattle.lp_spec_begun.proofs.Registers.{register-fits}

-- ---- connections

names-bits : (q : Name) (cs : ConnectionsView) → bits_named q (by_names [] cs) ≡ connected [] q cs
names-bits q (ByName cs) = refl
names-bits q (ByPosition values) = refl

-- what is connected to nothing stays so where bits are renamed and what is added has other names
still-none : (f : BitView → BitView) (q : Name) (cs more : List ConnectionView) → bits_named q cs ≡ [] → bits_named q more ≡ [] → bits_named q (map (λ (c : ConnectionView). record c { bits = map f c.bits }) cs ++ more) ≡ []
still-none f q [] more e g = g
still-none f q (c ∷ cs) more e g = by (bytes_eq c.port q) e (λ r. still-none f q cs more r g)
  where
    by : (t : Bool) → (if t then c.bits else bits_named q cs) ≡ [] → (bits_named q cs ≡ [] → bits_named q (map (λ (d : ConnectionView). record d { bits = map f d.bits }) cs ++ more) ≡ [])
        → (if t then map f c.bits else bits_named q (map (λ (d : ConnectionView). record d { bits = map f d.bits }) cs ++ more)) ≡ []
    by true r rest = ap (map f) r
    by false r rest = rest r

none-connected : (x : Path) (q : Name) (cs : ConnectionsView) → pin_node x q cs ≡ None → connected [] q cs ≡ []
none-connected x q cs e = by (connected [] q cs) refl
  where
    by : (bits : List BitView) → connected [] q cs ≡ bits → connected [] q cs ≡ []
    by [] g = g
    by (b ∷ bits) g = let bad : Some (node_of x b) ≡ None = sym (pin-by x q cs (b ∷ bits) g) ∙ e in absurd cc

some-connected : (x : Path) (q : Name) (cs : ConnectionsView) (k : Node) → pin_node x q cs ≡ Some k → (b : BitView) × IsIn b (connected [] q cs) × (node_of x b ≡ k)
some-connected x q cs k e = by (connected [] q cs) refl
  where
    by : (bits : List BitView) → connected [] q cs ≡ bits → (b : BitView) × IsIn b (connected [] q cs) × (node_of x b ≡ k)
    by [] g = let bad : None ≡ Some k = sym (pin-by x q cs [] g) ∙ e in absurd cc
    by (b ∷ bits) g =
        let same : Some (node_of x b) ≡ Some k = sym (pin-by x q cs (b ∷ bits) g) ∙ e in
        let is : node_of x b ≡ k = cc in
        (b, subst (λ r. IsIn b r) (sym g) (inl refl), is)

not-equal : (m n : Name) → (m ≡ n → ⊥) → bytes_eq m n ≡ false
not-equal m n differ = by (bytes_eq m n) refl
  where
    by : (b : Bool) → bytes_eq m n ≡ b → b ≡ false
    by false e = refl
    by true e = absurd (differ (name-true m n e))

-- ---- a pin of a register is one of the cell that takes its place

pub record HasPin (d : CellView) (n : Name) : Type 0 where
  pub pin : PinView
  pub listed : IsIn pin d.pins
  pub name : pin.name ≡ n
  pub plain : is_retention_pin pin ≡ false

pin-of-place : (c d : CellView) (q : PinView) (o : Option PinView) → pin_named d q.name ≡ o → same_pin c d q o ≡ true → HasPin d q.name
pin-of-place c d q None e h = absurd (false≢true h)
pin-of-place c d q (Some r) e h =
    let found = first_in (λ (v : PinView). bytes_eq v.name q.name) d.pins r e in
    record { pin = r; listed = found.0; name = name-true r.name q.name found.1; plain = not-true (is_retention_pin r) (one (not (is_retention_pin r)) _ h) }
  where
    not-true : (b : Bool) → not b ≡ true → b ≡ false
    not-true true g = absurd (false≢true g)
    not-true false g = refl

-- ---- the pins of a cell instance

module _ (p : Project) (l : Lists) (w : Structure) (h : HasWires p l w) (pins : HasPins p l) (stands : list_all (source_cell_stands p w) (cell_instances p.structure) ≡ true) (place : Placed) (there : IsIn place (cell_instances p.structure)) (i : IsCellInstance p place) where
  abbrev s : Structure
  s = p.structure

  abbrev a : Additions
  a = additions p l

  abbrev x : Path
  x = i.path

  abbrev at_path : Placed
  at_path = record { path = x; instance = i.y.name }

  pub its-stand : source_cell_stands p w at_path ≡ true
  its-stand = ap (source_cell_stands p w) (sym i.is) ∙ of-all (source_cell_stands p w) place (cell_instances p.structure) stands there

  -- the cell that stands for it, and that no pin of the source's cell is one that is added
  pub record Stands : Type 0 where
    pub cell : CellView
    pub is : cell_for p (plan p l) at_path ≡ Some cell
    pub free : HasFreePins p l x i.y cell
    pub retention : (q : PinView) → IsIn q i.c.pins → (k : Kept) → kept_at (plan p l) at_path ≡ Some k → (r : PinView) → IsIn r (retention_pins k.cell) → bytes_eq r.name q.name ≡ false
    pub supply : (q : PinView) → IsIn q i.c.pins → IsIn q.name (map (λ (g : PgPinView). g.name) cell.pgs) → ⊥

  pub its-cell : Stands
  its-cell = by (kept_at (plan p l) at_path) refl
    where
      by : (o : Option Kept) → kept_at (plan p l) at_path ≡ o → Stands
      by None e =
          let is : cell_for p (plan p l) at_path ≡ Some i.c = ap (or_cell (cell_of s at_path)) e ∙ i.cell in
          let free = pins.own x i.m i.y i.c i.c i.at i.listed i.named is in
          record {
            cell = i.c;
            is = is;
            free = free;
            retention = λ q g k f. let bad : None ≡ Some k = sym e ∙ f in absurd cc;
            supply = λ q g. apart-sides (map (λ (v : PinView). v.name) i.c.pins) (map (λ (v : PgPinView). v.name) i.c.pgs) (names-apart (cell_names i.c) free.apart) q.name (in-map (λ (v : PinView). v.name) q i.c.pins g);
          }
      by (Some k) e =
          let is : cell_for p (plan p l) at_path ≡ Some k.cell = ap (or_cell (cell_of s at_path)) e in
          let free = pins.own x i.m i.y i.c k.cell i.at i.listed i.named is in
          let fit = register-fits p l w at_path i.c k.cell k i.cell (source-cells p l w h.proper.fit.free h.proper.fit.names h.content at_path i.c i.cell ∙ is) e its-stand in
          let all : IsApart (map (λ (v : PinView). v.name) k.cell.pins ++ map (λ (v : PgPinView). v.name) k.cell.pgs) = names-apart (cell_names k.cell) free.apart in
          let has : (q : PinView) → IsIn q i.c.pins → HasPin k.cell q.name =
          λ q g. pin-of-place i.c k.cell q (pin_named k.cell q.name) refl
          (of-all (λ (v : PinView). same_pin i.c k.cell v (pin_named k.cell v.name)) q i.c.pins
          (one (has_pins_of i.c k.cell) _ (one (has_exactly_pins_of i.c k.cell) _ (other (only_retains k.cell.roles) _ (other (is_usable k.cell) _ fit.fits)))) g) in
          record {
            cell = k.cell;
            is = is;
            free = free;
            retention = λ q g j f r t.
                let same : k ≡ j = kept-same k j (sym e ∙ f) in
                let mine = has q g in
                let pin = of-filter is_retention_pin r k.cell.pins (subst (λ (v : Kept). IsIn r (retention_pins v.cell)) (sym same) t) in
                not-equal r.name q.name (λ names.
                let one_pin = key-tells (λ (v : PinView). v.name) k.cell.pins (apart-front (map (λ (v : PinView). v.name) k.cell.pins) (map (λ (v : PgPinView). v.name) k.cell.pgs) all) r mine.pin pin.0 mine.listed (names ∙ sym mine.name) in
                false≢true (sym mine.plain ∙ (ap is_retention_pin (sym one_pin) ∙ pin.1)));
            supply = λ q g t.
                let mine = has q g in
                apart-sides (map (λ (v : PinView). v.name) k.cell.pins) (map (λ (v : PgPinView). v.name) k.cell.pgs) all q.name (subst (λ n. IsIn n (map (λ (v : PinView). v.name) k.cell.pins)) mine.name (in-map (λ (v : PinView). v.name) mine.pin k.cell.pins mine.listed)) t;
          }
        where
          kept-same : (u v : Kept) → Some u ≡ Some v → u ≡ v
          kept-same u v r = cc

  -- ---- an open pin stays open

  its-connections : (q : Name) → node_at_pin s x i.y.name q ≡ pin_node x q i.y.connections
  its-connections q =
      ap (λ o. option_and_then (λ (n : ModuleView). option_and_then (λ (z : InstanceView). pin_node x q z.connections) (instance_named n i.y.name)) o) i.at
      ∙ ap (λ o. option_and_then (λ (z : InstanceView). pin_node x q z.connections) o) (first-apart i.m.instances i.y (instances-named p h.proper.fit.free x i.m i.at) i.listed)

  retained-other : (q : PinView) → IsIn q i.c.pins → (o : Option Kept) → kept_at (plan p l) at_path ≡ o → (d : ConnectionView) → IsIn d (retention_connections a x o) → bytes_eq d.port q.name ≡ false
  retained-other q g None e d t = absurd t
  retained-other q g (Some k) e d t =
      let found = of-map (λ (r : PinView). joined_to r.name (some_control_bits a.chains a.controls x (control_of k.strategy r.use_of))) d (retention_pins k.cell) t in
      ap (λ (v : ConnectionView). bytes_eq v.port q.name) found.2 ∙ its-cell.retention q g k e found.0 found.1

  supply-other : (q : PinView) → IsIn q i.c.pins → (d : ConnectionView) → IsIn d (supply_connections p a.plan (source_pins p a.plan at_path)) → bytes_eq d.port q.name ≡ false
  supply-other q g d t =
      let found = of-map (λ (z : Name × ℕ). joined_to z.0 (origin_bits p a.plan z.1)) d (source_pins p a.plan at_path) t in
      let listed : IsIn found.0 (joined_pins its-cell.cell (joins_of_source p at_path its-cell.cell)) = subst (λ o. IsIn found.0 (pins_of_cell p at_path o)) its-cell.is found.1 in
      let named = joined-in its-cell.cell its-cell.free.apart (joins_of_source p at_path its-cell.cell) found.0 listed in
      ap (λ (v : ConnectionView). bytes_eq v.port q.name) found.2
      ∙ not-equal found.0.0 q.name (λ same. its-cell.supply q g (subst (λ n. IsIn n (map (λ (v : PgPinView). v.name) its-cell.cell.pgs)) same named))

  stays-open : (q : PinView) → IsIn q i.c.pins → node_at_pin s x i.y.name q.name ≡ None → node_at_pin w x i.y.name q.name ≡ None
  stays-open q g e =
      let more : List ConnectionView = retention_connections a x (kept_at a.plan at_path) ++ supply_connections p a.plan (source_pins p a.plan at_path) in
      let open_there : bits_named q.name (by_names [] i.y.connections) ≡ [] = names-bits q.name i.y.connections ∙ none-connected x q.name i.y.connections (sym (its-connections q.name) ∙ e) in
      let none_more : bits_named q.name more ≡ [] = bits-none q.name more (λ d t.
      elim (in-either d (retention_connections a x (kept_at a.plan at_path)) (supply_connections p a.plan (source_pins p a.plan at_path)) t) [
        | inl r ↦ retained-other q g (kept_at a.plan at_path) refl d r
        | inr r ↦ supply-other q g d r
      ]) in
      source-pin p l w h.proper.fit.free pins.few h.content x i.m i.at i.y i.listed i.none q.name
      ∙ pin-by x q.name (written_cell_instance p a x i.y).connections [] (still-none (renamed a.chains x) q.name (by_names [] i.y.connections) more open_there none_more)

  -- ---- each pin begins where it has to

  module _ (ends : EndsAsWired) (whole : WholePlan) where
    at-pin : (q : PinView) → IsIn q i.c.pins → end_at_pin w (fuel_of w) x i.y.name q.name ≡ some_intended p w (placement_of p l) (node_at_pin s x i.y.name q.name)
    at-pin q g = by (node_at_pin s x i.y.name q.name) refl
      where
        by : (o : Option Node) → node_at_pin s x i.y.name q.name ≡ o → end_at_pin w (fuel_of w) x i.y.name q.name ≡ some_intended p w (placement_of p l) o
        by None e = ap (some_end w (fuel_of w)) (stays-open q g e)
        by (Some k) e =
            let bit = some-connected x q.name i.y.connections k (sym (its-connections q.name) ∙ e) in
            let joined = instance-bit i.m i.y bit.0 i.listed (connected-in [] q.name i.y.connections bit.0 bit.1) in
            ap (some_end w (fuel_of w)) (source-kept p l w h.proper.fit.free pins.few h.content x i.m i.at i.y i.listed i.none q.name k e)
            ∙ at-node ends whole p l w h k (ap (is_kept s) (sym bit.2) ∙ kept-bit s h.proper.plain.free x i.m bit.0 i.at joined)

    pub inputs-begin : inputs_begin p w (placement_of p l) (fuel_of w) place ≡ true
    inputs-begin =
        ap (inputs_begin p w (placement_of p l) (fuel_of w)) i.is
        ∙ (ap (passed_by (λ (c : CellView). list_all (input_begins p w (placement_of p l) (fuel_of w) at_path) (filter is_input_pin c.pins))) i.cell
        ∙ all-of (input_begins p w (placement_of p l) (fuel_of w) at_path) (filter is_input_pin i.c.pins)
        (λ q g. end-is _ _ (at-pin q (of-filter is_input_pin q i.c.pins g).0)))
