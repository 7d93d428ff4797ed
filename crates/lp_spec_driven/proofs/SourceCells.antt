-- What a cell instance of the source drives in the written netlist: the net bits that it drives in the source.
use Rattle.std.proofs.Common.{◌≡◌, ◌⊎◌, ℕ, Bool, true, false, ◌&&◌, List, [], ◌∷◌, ◌++◌, map, Option, Some, None, inl, inr, refl, sym, ◌∙◌, ap, subst}
use Rattle.std.specs.Prelude.{bytes_eq, flat_map, is_some, option_and_then, if◌then◌else◌}
use Rattle.std.proofs.lemmas.Bool.{both_ways}
use Rattle.lp_model.specs.NetlistView.{BitView, ConnectionView, ConnectionsView, ByName, ByPosition, InstanceView, AssignView, ModuleView}
use Rattle.lp_model.specs.LibraryView.{PgPinView, PinView, CellView}
use Rattle.lp_spec_design.specs.Keys.{Name, Path, Node, Inner, Way, Source, CellPin, SwitchedPin, same_node}
use Rattle.lp_spec_design.specs.Netlists.{Structure, first, module_named, cell_named, module_at, instance_named, node_of, bits_named, connected}
use Rattle.lp_spec_design.specs.Instances.{Placed}
use Rattle.lp_spec_design.specs.Graph.{numbered, some_of, when, is_output_pin, touches, from_target, from_one, source_of, way_in}
use Rattle.lp_spec_design.specs.Nodes.{connected_bits, joined_bits}
use Rattle.lp_spec_design.specs.Reads.{node-self, both}
use Rattle.lp_spec_design.specs.Winners.{IsIn}
use Rattle.lp_spec_design.proofs.Members.{in-left, in-right, in-flat, in-either, of-map, of-some, of-filter, of-numbered, any-in}
use Rattle.lp_spec_design.proofs.Sources.{then_is, first_in}
use Rattle.lp_spec_fit.specs.Fits.{is_retention_pin, retention_pins}
use Rattle.lp_spec_fit.specs.Joins.{Joins}
use Rattle.lp_spec_realises.specs.Projects.{Project}
use Rattle.lp_spec_realises.specs.Operators.{Placement}
use Rattle.lp_spec_realises.specs.Ends.{own_end, end_across}
use Rattle.lp_spec_realises.specs.Realises.{cell_of, same_placed, joins_of_source, control_of}
use Rattle.lp_spec_written.specs.Places.{Kept, Plan}
use Rattle.lp_spec_written.specs.Nets.{renamed, renamed_connections}
use Rattle.lp_spec_written.specs.Supplies.{joined_pins, or_cell, kept_at, pins_of_cell, source_pins, joined_to, origin_bits, supply_connections}
use Rattle.lp_spec_written.specs.Routes.{some_control_bits}
use Rattle.lp_spec_written.specs.Written.{Additions, kept_target, retention_connections, written_by_target, written_instance}
use Rattle.lp_spec_hub.specs.Spots.{OfNode, AsSource}
use Rattle.lp_spec_hub.specs.Drives.{drive_by}
use Rattle.lp_spec_wired.specs.Names.{name_by}
use Rattle.lp_spec_wired.specs.Contents.{IsInstance, IsWrittenAt}
use Rattle.lp_spec_wired.proofs.Lists.{bits-left, bits-none}
use Rattle.lp_spec_written_at.proofs.Lists.{in-some, first-apart}
use Rattle.lp_spec_written_at.proofs.Modules.{written-name}
use Rattle.lp_spec_written_at.proofs.Paths.{source-by-names}
use Rattle.lp_spec_written_at.proofs.Cells.{first-cell}
use Rattle.lp_spec_written_at.proofs.SourceCells.{instances-named, placed-true}
use Rattle.lp_spec_driven.specs.Wires.{IsOfWire}
use Rattle.lp_spec_driven.specs.Sound.{IsPlainSource, HasPinsApart, SwitchesNothing, HasOutputsOf, TakesPlace, HasFitCells}
use Rattle.lp_spec_driven.specs.Laws.{SourceCellsGive}
use Rattle.lp_spec_driven.proofs.Sources.{the-source, in-instances, FromPin, FromPg, cell-source, one-cell, renamed-connected, bit-of}

-- ---- bits of connections

named_in : (n : Name) (cs : List ConnectionView) (b : BitView) → IsIn b (bits_named n cs) → IsIn b (flat_map (λ (c : ConnectionView). c.bits) cs)
named_in n [] b h = absurd h
named_in n (c ∷ cs) b h = by (bytes_eq c.port n) h (named_in n cs b)
  where
    by : (t : Bool) → IsIn b (if t then c.bits else bits_named n cs) → (IsIn b (bits_named n cs) → IsIn b (flat_map (λ (x : ConnectionView). x.bits) cs)) → IsIn b (c.bits ++ flat_map (λ (x : ConnectionView). x.bits) cs)
    by true g more = in-left b c.bits (flat_map (λ (x : ConnectionView). x.bits) cs) g
    by false g more = in-right b c.bits (flat_map (λ (x : ConnectionView). x.bits) cs) (more g)

-- a pin of a cell has a bit by its name alone
pub pin-bit : (n : Name) (cs : ConnectionsView) (b : BitView) → IsIn b (connected [] n cs) → IsIn b (connected_bits cs)
pin-bit n (ByName cs) b h = named_in n cs b h
pin-bit n (ByPosition values) b h = absurd h

pub instance-bit : (m : ModuleView) (y : InstanceView) (b : BitView) → IsIn y m.instances → IsIn b (connected_bits y.connections) → IsIn b (joined_bits m)
instance-bit m y b h g =
    in-left b (flat_map (λ (z : InstanceView). connected_bits z.connections) m.instances) (flat_map (λ (z : AssignView). z.left) m.assigns)
    (in-flat (λ (z : InstanceView). connected_bits z.connections) y b m.instances h g)

-- ---- names of added connections

is-false : (b : Bool) → (b ≡ true → ⊥) → b ≡ false
is-false true f = absurd (f refl)
is-false false f = refl

-- each power and ground pin that is joined is one of the cell
pub joined-pin : (c : CellView) (join : Option Joins) (z : Name × ℕ) → IsIn z (joined_pins c join) → (g : PgPinView) × IsIn g c.pgs × (z.0 ≡ g.name)
joined-pin c None z h = absurd h
joined-pin c (Some join) z h =
    let found = of-some (λ (g : ℕ × PgPinView). option_and_then (λ o. Some (g.1.name, o)) (join g.0 g.1)) z (numbered 0 c.pgs) h in
    let made = then_is (λ o. Some (found.0.1.name, o)) (join found.0.0 found.0.1) z found.2 in
    let both_are : Some (found.0.1.name, made.0) ≡ Some z = made.2 in
    let is : z ≡ (found.0.1.name, made.0) = cc in
    (found.0.1, of-numbered 0 found.0 c.pgs found.1, ap (λ (q : Name × ℕ). q.0) is)

-- no supply connection has the name of a signal pin
pub supply-other : (p : Project) (plan : Plan) (c : CellView) (apart : HasPinsApart c) (q : PinView) → IsIn q c.pins → (join : Option Joins) (k : ConnectionView)
    → IsIn k (supply_connections p plan (joined_pins c join)) → bytes_eq k.port q.name ≡ false
supply-other p plan c apart q h join k g =
    let found = of-map (λ (z : Name × ℕ). joined_to z.0 (origin_bits p plan z.1)) k (joined_pins c join) g in
    let pin = joined-pin c join found.0 found.1 in
    ap (λ (d : ConnectionView). bytes_eq d.port q.name) found.2 ∙ (ap (λ n. bytes_eq n q.name) pin.2 ∙ apart.pgs q pin.0 h pin.1)

-- ---- a cell instance of the source

pub no-module : (s : Structure) (n : Name) (c : CellView) → cell_named s n ≡ Some c → (module_named s n ≡ None) × (first (λ (k : CellView). bytes_eq k.name n) s.cells ≡ Some c)
no-module s n c e = by (module_named s n) refl e
  where
    by : (o : Option ModuleView) → module_named s n ≡ o → (if is_some o then None else first (λ (k : CellView). bytes_eq k.name n) s.cells) ≡ Some c → (module_named s n ≡ None) × (first (λ (k : CellView). bytes_eq k.name n) s.cells ≡ Some c)
    by None g h = (g, h)
    by (Some m) g h = absurd cc

module _ (p : Project) (a : Additions) (w : Structure) (at : Placement) (from : Way → Node) (written : IsWrittenAt p a w) (plain : IsPlainSource p.structure) (fit : HasFitCells p a)
    (x : Path) (m : ModuleView) (e : module_at p.structure x ≡ Some m) (y here : InstanceView) (c : CellView) (listed : IsIn y m.instances) (cell : cell_named p.structure y.target ≡ Some c) (is : IsInstance w x (written_instance p a x y) here) where
  abbrev s : Structure
  s = p.structure

  abbrev place : Placed
  place = record { path = x; instance = y.name }

  abbrev v : InstanceView
  v = written_instance p a x y

  target : (module_named s y.target ≡ None) × (first (λ (k : CellView). bytes_eq k.name y.target) s.cells ≡ Some c)
  target = no-module s y.target c cell

  own_name : v.name ≡ y.name
  own_name = written-name p a fit.free fit.listed x y

  pub alone : module_at w (v.name ∷ x) ≡ None
  alone = ap (λ k. module_at w (k ∷ x)) own_name ∙ written.none (y.name ∷ x) (sym (source-by-names p fit.free x m y e listed) ∙ target.0)

  cell-here : cell_of s place ≡ Some c
  cell-here =
      ap (λ o. option_and_then (λ (k : ModuleView). option_and_then (λ (z : InstanceView). cell_named s z.target) (instance_named k y.name)) o) e
      ∙ (ap (λ o. option_and_then (λ (z : InstanceView). cell_named s z.target) o) (first-apart m.instances y (instances-named p fit.free x m e) listed)
      ∙ cell)

  c-listed : IsIn c s.cells
  c-listed = (first_in (λ (k : CellView). bytes_eq k.name y.target) s.cells c target.1).0

  -- the cell that stands for it, with what is connected to its outputs
  pub record StandsIn (d : CellView) : Type 0 where
    pub known : IsIn d s.cells
    pub found : first (λ (k : CellView). bytes_eq k.name v.target) s.cells ≡ Some d
    pub outputs : HasOutputsOf d c
    pub all : HasOutputsOf c d
    pub switches : SwitchesNothing d
    pub bits : (q : PinView) → IsIn q d.pins → is_output_pin q ≡ true → connected [] q.name v.connections ≡ map (renamed a.chains x) (connected [] q.name y.connections)

  target-by : (o : Option Kept) → kept_at a.plan place ≡ o → v.target ≡ kept_target y.target o
  target-by o g = ap (λ r. (written_by_target p a x y r).target) target.0 ∙ ap (kept_target y.target) g

  connections-by : (o : Option Kept) (d : CellView) → kept_at a.plan place ≡ o → or_cell (Some c) o ≡ Some d
      → v.connections ≡ ByName (renamed_connections a.chains x y.connections ++ (retention_connections a x o ++ supply_connections p a.plan (joined_pins d (joins_of_source p place d))))
  connections-by o d g h =
      ap (λ r. (written_by_target p a x y r).connections) target.0
      ∙ (ap (λ r. ByName (renamed_connections a.chains x y.connections ++ (retention_connections a x r ++ supply_connections p a.plan (source_pins p a.plan place)))) g
      ∙ ap (λ r. ByName (renamed_connections a.chains x y.connections ++ (retention_connections a x o ++ supply_connections p a.plan (pins_of_cell p place r))))
      (ap (λ r. or_cell r (kept_at a.plan place)) cell-here ∙ (ap (or_cell (Some c)) g ∙ h)))

  -- the bits of an output, where no retention pin has its name
  output-bits : (o : Option Kept) (d : CellView) (q : PinView) → kept_at a.plan place ≡ o → or_cell (Some c) o ≡ Some d → HasPinsApart d → IsIn q d.pins
      → ((k : ConnectionView) → IsIn k (retention_connections a x o) → bytes_eq k.port q.name ≡ false)
      → connected [] q.name v.connections ≡ map (renamed a.chains x) (connected [] q.name y.connections)
  output-bits o d q g h known there none =
      ap (connected [] q.name) (connections-by o d g h)
      ∙ (bits-left q.name (renamed_connections a.chains x y.connections) (retention_connections a x o ++ supply_connections p a.plan (joined_pins d (joins_of_source p place d)))
      (bits-none q.name (retention_connections a x o ++ supply_connections p a.plan (joined_pins d (joins_of_source p place d)))
      (λ k r. elim (in-either k (retention_connections a x o) (supply_connections p a.plan (joined_pins d (joins_of_source p place d))) r) [
        | inl l ↦ none k l
        | inr t ↦ supply-other p a.plan d known q there (joins_of_source p place d) k t
      ]))
      ∙ renamed-connected a.chains x q.name y.connections)

  stands-own : kept_at a.plan place ≡ None → StandsIn c
  stands-own g = record {
    known = c-listed;
    found = ap (λ n. first (λ (k : CellView). bytes_eq k.name n) s.cells) (target-by None g) ∙ target.1;
    outputs = λ q h o. (q, h, o, refl);
    all = λ q h o. (q, h, o, refl);
    switches = fit.sources x m y c e listed cell;
    bits = λ q h o. output-bits None c q g refl (fit.source_pins x m y c e listed cell) h (λ k r. absurd r);
  }

  stands-kept : (k : Kept) → kept_at a.plan place ≡ Some k → StandsIn k.cell
  stands-kept k g =
      let there = first_in (λ (r : Kept). same_placed r.place place) a.plan.registers k g in
      let known = fit.register_cells k there.0 in
      let takes = fit.registers k c there.0 (ap (cell_of s) (placed-true k.place place there.1) ∙ cell-here) in
      record {
        known = known;
        found = ap (λ n. first (λ (r : CellView). bytes_eq r.name n) s.cells) (target-by (Some k) g) ∙ first-cell s.cells k.cell fit.names known;
        outputs = takes.outputs;
        all = takes.all;
        switches = takes.switches;
        bits = λ q h o. output-bits (Some k) k.cell q g refl (fit.register_pins k there.0) h (λ z r. no-retention k (fit.register_pins k there.0) takes q h o z r);
      }
    where
      no-retention : (k : Kept) → HasPinsApart k.cell → TakesPlace c k.cell → (q : PinView) → IsIn q k.cell.pins → is_output_pin q ≡ true → (z : ConnectionView) → IsIn z (retention_connections a x (Some k)) → bytes_eq z.port q.name ≡ false
      no-retention k known takes q h o z r =
          let found = of-map (λ (t : PinView). joined_to t.name (some_control_bits a.chains a.controls x (control_of k.strategy t.use_of))) z (retention_pins k.cell) r in
          ap (λ (d : ConnectionView). bytes_eq d.port q.name) found.2
          ∙ is-false (bytes_eq found.0.name q.name) (λ same.
          let one_pin = known.pins found.0 q (of-filter is_retention_pin found.0 k.cell.pins found.1).0 h same in
          both_ways (is_output_pin q) (ap is_output_pin (sym one_pin) ∙ takes.retention found.0 found.1) o)

  pub stands : (d : CellView) × StandsIn d
  stands = by (kept_at a.plan place) refl
    where
      by : (o : Option Kept) → kept_at a.plan place ≡ o → (d : CellView) × StandsIn d
      by None g = (c, stands-own g)
      by (Some k) g = (k.cell, stands-kept k g)

  -- in the source the instance drives the net bit by an output of that name
  in-source : (n : Name) (i : Option ℕ) (r : PinView) (b : BitView) → IsIn r c.pins → is_output_pin r ≡ true → IsIn b (connected [] r.name y.connections) → node_of x b ≡ Inner n i x
      → source_of s (Inner n i x) ≡ Some (CellPin x y.name r.name)
  in-source n i r b h o g same =
      let touched = any-in (λ t. same_node (node_of x t) (Inner n i x)) b (connected [] r.name y.connections) g (ap (λ k. same_node k (Inner n i x)) same ∙ node-self (Inner n i x)) in
      the-source s (Inner n i x) (CellPin x y.name r.name) (plain.single (Inner n i x))
      (in-instances s x n i m y (CellPin x y.name r.name) e listed
      (subst (λ l. IsIn (CellPin x y.name r.name) l) (sym (ap (λ t. from_target x n i y t (cell_named s y.target)) target.0 ∙ ap (from_target x n i y None) cell))
      (in-left (CellPin x y.name r.name) (some_of pins c.pins) (some_of pgs c.pgs)
      (in-some pins r (CellPin x y.name r.name) c.pins h (ap (λ t. when t (CellPin x y.name r.name)) (both (is_output_pin r) (touches x n i (connected [] r.name y.connections)) o touched))))))
    where
      pins : PinView → Option Source
      pins q = when (is_output_pin q && touches x n i (connected [] q.name y.connections)) (CellPin x y.name q.name)

      pgs : PgPinView → Option Source
      pgs g = when (is_some g.switched && touches x n i (connected [] g.name y.connections)) (SwitchedPin x y.name g.name)

  module _ (n : Name) (i : Option ℕ) (z : Source) where
    by-pin : (d : CellView) → StandsIn d → FromPin x n i here d z → IsOfWire p a w at from (Inner n i x) z
    by-pin d st f =
        let bits : connected [] f.pin.name here.connections ≡ map (renamed a.chains x) (connected [] f.pin.name y.connections) = ap (connected [] f.pin.name) is.connections ∙ st.bits f.pin f.listed f.output in
        let bit = of-map (renamed a.chains x) f.touched.bit (connected [] f.pin.name y.connections) (subst (λ l. IsIn f.touched.bit l) bits f.touched.listed) in
        let own = bit-of p a x bit.0 n i (plain.free x m bit.0 e (instance-bit m y bit.0 listed (pin-bit f.pin.name y.connections bit.0 bit.1))) (ap (node_of x) (sym bit.2) ∙ f.touched.is) in
        let r = st.outputs f.pin f.listed f.output in
        let source = in-source own.net own.index r.0 bit.0 r.1 r.2 (subst (λ k. IsIn bit.0 (connected [] k y.connections)) (sym r.3) bit.1) own.is in
        let same : z ≡ CellPin x y.name r.0.name = f.is ∙ (ap (λ k. CellPin x k f.pin.name) (is.name ∙ own_name) ∙ ap (CellPin x y.name) (sym r.3)) in
        record {
          wire = OfNode (Inner own.net own.index x);
          there = own.free;
          name = own.name;
          driven = AsSource (CellPin x y.name r.0.name);
          is = ap (λ o. option_and_then (λ t. Some (drive_by a.plan.operators t)) o) source;
          gives = record {
            first = ap (λ t. way_in (Some t)) same;
            own = ap (λ t. own_end (name_by p a (OfNode (Inner own.net own.index x))) (Some t)) same ∙ sym (ap (λ t. end_across p.structure w (own_end (Inner own.net own.index x) t)) source);
          };
        }

    by-cell : (d : CellView) → StandsIn d → FromPin x n i here d z ⊎ FromPg x n i here d z → IsOfWire p a w at from (Inner n i x) z
    by-cell d st (inl f) = by-pin d st f
    by-cell d st (inr g) = absurd (both_ways (is_some g.pin.switched) (st.switches g.pin g.listed) g.switched)

    pub gives-cell : IsIn z (from_one w x n i here) → IsOfWire p a w at from (Inner n i x) z
    gives-cell h =
        let st = stands in
        by-cell st.0 st.1 (cell-source x n i here st.0 z (subst (λ l. IsIn z l) (one-cell p a w written x v here is alone st.0 st.1.found n i) h))

pub source-cells-give : SourceCellsGive
source-cells-give p a w at from written plain fit x m e y here c listed cell is n i z h = gives-cell p a w at from written plain fit x m e y here c listed cell is n i z h
