-- Each cell instance of the source with its module, its statement and its cell.
use Rattle.std.proofs.Common.{◌≡◌, ℕ, zero, suc, Bool, true, false, List, [], ◌∷◌, ◌++◌, Option, Some, None, inl, inr, refl, ap, ◌∙◌}
use Rattle.std.specs.Prelude.{bytes_eq, is_some, option_and_then, flat_map, if◌then◌else◌}
use Rattle.lp_model.specs.NetlistView.{BitView, NetBit, SelectBit, ConstBit, PortView, ConnectionView, ConnectionsView, ByName, ByPosition, InstanceView, AssignView, ModuleView}
use Rattle.lp_model.specs.LibraryView.{CellView}
use Rattle.lp_spec_design.specs.Keys.{Name, Path}
use Rattle.lp_spec_design.specs.Netlists.{Structure, first, module_named, cell_named, module_at, instance_named, node_of, bits_named, bits_placed, connected}
use Rattle.lp_spec_design.specs.Instances.{Placed, cells_of, cells_in, cells_below, cell_instances}
use Rattle.lp_spec_design.specs.Nodes.{connected_bits, joined_bits}
use Rattle.lp_spec_design.specs.Winners.{IsIn}
use Rattle.lp_spec_design.proofs.Members.{in-left, in-right, in-flat, of-flat}
use Rattle.lp_spec_realises.specs.Projects.{Project}
use Rattle.lp_spec_realises.specs.Realises.{cell_of}
use Rattle.lp_spec_wired.specs.Laws.{IsFreeBit}
use Rattle.lp_spec_written_at.specs.Sources.{IsFree}
use Rattle.lp_spec_written_at.proofs.Lists.{first-apart}
use Rattle.lp_spec_written_at.proofs.SourceCells.{target-of, instances-named}
use Rattle.lp_spec_wires.specs.Standing.{is_kept}
use Rattle.lp_spec_begun.proofs.Bits.{kept-inner}

plain-target : (s : Structure) (n : Name) (c : CellView) → cell_named s n ≡ Some c → module_named s n ≡ None
plain-target s n c e = by (module_named s n) e
  where
    by : (o : Option ModuleView) → (if is_some o then None else first (λ (k : CellView). bytes_eq k.name n) s.cells) ≡ Some c → o ≡ None
    by None g = refl
    by (Some m) g = absurd cc

pub record IsCellInstance (p : Project) (a : Placed) : Type 0 where
  pub path : Path
  pub m : ModuleView
  pub at : module_at p.structure path ≡ Some m
  pub y : InstanceView
  pub listed : IsIn y m.instances
  pub none : module_named p.structure y.target ≡ None
  pub c : CellView
  pub named : cell_named p.structure y.target ≡ Some c
  pub is : a ≡ record { path = path; instance = y.name }
  pub cell : cell_of p.structure (record { path = path; instance = y.name }) ≡ Some c

module _ (p : Project) (f : IsFree p) where
  abbrev s : Structure
  s = p.structure

  cell-here : (q : Path) (m : ModuleView) (y : InstanceView) → module_at s q ≡ Some m → IsIn y m.instances → cell_of s (record { path = q; instance = y.name }) ≡ cell_named s y.target
  cell-here q m y e h =
      ap (λ o. option_and_then (λ (k : ModuleView). option_and_then (λ (z : InstanceView). cell_named s z.target) (instance_named k y.name)) o) e
      ∙ ap (λ o. option_and_then (λ (z : InstanceView). cell_named s z.target) o) (first-apart m.instances y (instances-named p f q m e) h)

  below-is : (depth : ℕ) (q : Path) (a : Placed) → IsIn a (cells_below s depth q) → IsCellInstance p a
  below-is zero q a h = absurd h
  below-is (suc depth) q a h = by (module_at s q) refl h (λ i g. below-is depth (i ∷ q) a g)
    where
      by : (o : Option ModuleView) → module_at s q ≡ o → IsIn a (cells_in s (cells_below s depth) q o) → ((i : Name) → IsIn a (cells_below s depth (i ∷ q)) → IsCellInstance p a) → IsCellInstance p a
      by None e g more = absurd g
      by (Some m) e g more =
          let at = of-flat (cells_of s (cells_below s depth) q) a m.instances g in
          elim (target-of (cells_below s depth) q at.0.name (module_named s at.0.target) (cell_named s at.0.target) a at.2) [
            | inl up ↦ more at.0.name up
            | inr found ↦ record {
              path = q;
              m = m;
              at = e;
              y = at.0;
              listed = at.1;
              none = plain-target s at.0.target found.0 found.1;
              c = found.0;
              named = found.1;
              is = found.2;
              cell = cell-here q m at.0 e at.1 ∙ found.1;
            }
          ]

  pub is-cell-instance : (a : Placed) → IsIn a (cell_instances s) → IsCellInstance p a
  unfolding cell_instances
  is-cell-instance a h = below-is 64 [] a h

-- ---- what is connected is joined

named-in : (n : Name) (cs : List ConnectionView) (b : BitView) → IsIn b (bits_named n cs) → IsIn b (flat_map (λ (c : ConnectionView). c.bits) cs)
named-in n [] b h = absurd h
named-in n (c ∷ cs) b h = by (bytes_eq c.port n) h (named-in n cs b)
  where
    by : (t : Bool) → IsIn b (if t then c.bits else bits_named n cs) → (IsIn b (bits_named n cs) → IsIn b (flat_map (λ (d : ConnectionView). d.bits) cs)) → IsIn b (c.bits ++ flat_map (λ (d : ConnectionView). d.bits) cs)
    by true g more = in-left b c.bits (flat_map (λ (d : ConnectionView). d.bits) cs) g
    by false g more = in-right b c.bits (flat_map (λ (d : ConnectionView). d.bits) cs) (more g)

placed-in : (n : Name) (ports : List PortView) (values : List (List BitView)) (b : BitView) → IsIn b (bits_placed n ports values) → IsIn b (flat_map (λ bits. bits) values)
placed-in n [] values b h = absurd h
placed-in n (q ∷ ports) [] b h = absurd h
placed-in n (q ∷ ports) (v ∷ values) b h = by (bytes_eq q.name n) h (placed-in n ports values b)
  where
    by : (t : Bool) → IsIn b (if t then v else bits_placed n ports values) → (IsIn b (bits_placed n ports values) → IsIn b (flat_map (λ bits. bits) values)) → IsIn b (v ++ flat_map (λ bits. bits) values)
    by true g more = in-left b v (flat_map (λ bits. bits) values) g
    by false g more = in-right b v (flat_map (λ bits. bits) values) (more g)

pub connected-in : (ports : List PortView) (n : Name) (cs : ConnectionsView) (b : BitView) → IsIn b (connected ports n cs) → IsIn b (connected_bits cs)
connected-in ports n (ByName cs) b h = named-in n cs b h
connected-in ports n (ByPosition values) b h = placed-in n ports values b h

pub instance-bit : (m : ModuleView) (y : InstanceView) (b : BitView) → IsIn y m.instances → IsIn b (connected_bits y.connections) → IsIn b (joined_bits m)
instance-bit m y b h g =
    in-left b (flat_map (λ (z : InstanceView). connected_bits z.connections) m.instances) (flat_map (λ (q : AssignView). q.left) m.assigns)
    (in-flat (λ (z : InstanceView). connected_bits z.connections) y b m.instances h g)

-- ---- bits that are joined are wires

pub kept-bit : (s : Structure) → ((x : Path) (m : ModuleView) (b : BitView) → module_at s x ≡ Some m → IsIn b (joined_bits m) → IsFreeBit b) → (x : Path) (m : ModuleView) (b : BitView) → module_at s x ≡ Some m → IsIn b (joined_bits m) → is_kept s (node_of x b) ≡ true
kept-bit s free x m (NetBit n) e h = kept-inner s n None x m (free x m (NetBit n) e h) e
kept-bit s free x m (SelectBit n i) e h = kept-inner s n (Some i) x m (free x m (SelectBit n i) e h) e
kept-bit s free x m (ConstBit c) e h = refl
