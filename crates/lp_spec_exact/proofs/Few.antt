-- The cells of a design's cell instances have few pins, so their rows fit, and each edge has a node of its own.
use Rattle.std.proofs.Common.{◌≡◌, ◌≤◌, ℕ, zero, suc, ◌+◌, true, List, [], ◌∷◌, ◌++◌, map, length, Option, Some, None, refl, sym, ap, ◌∙◌, subst, arith}
use Rattle.std.specs.Prelude.{nat_lt, slice_get}
use Rattle.std.specs.List.{list_all}
use Rattle.std.proofs.lemmas.List.{length-append, length-map}
use Rattle.lp_model.specs.declared.graph.Edge.{Edge as EdgeRow}
use Rattle.lp_model.specs.declared.graph.Leaf.{Leaf}
use Rattle.lp_model.specs.declared.graph.PinNet.{PinNet}
use Rattle.lp_model.specs.NetlistView.{BitView, InstanceView, ModuleView}
use Rattle.lp_model.specs.LibraryView.{PgPinView, CellView, PinView}
use Rattle.lp_spec_design.specs.Netlists.{Structure, connected}
use Rattle.lp_spec_design.specs.Instances.{Placed}
use Rattle.lp_spec_design.specs.Graph.{and_more, some_of}
use Rattle.lp_spec_design.specs.Reads.{one, other, both}
use Rattle.lp_spec_bridge.specs.Kept.{pin_bit, first_bit, IsRowResolved}
use Rattle.lp_spec_bridge.specs.Noted.{DriveRow}
use Rattle.lp_spec_faults.specs.Lines.{first_of}
use Rattle.lp_spec_faults.specs.Modules.{unfit_cell}
use Rattle.lp_cells.specs.Sound.{is_sound_cell}
use Rattle.lp_spec_layout.specs.Feeds.{Feed, edges_behind, rows_from, edge_row}
use Rattle.lp_spec_layout.specs.Leaves.{LeafSite, leaf_rows}
use Rattle.lp_spec_layout.proofs.Lists.{get-in}
use Rattle.lp_spec_layout.proofs.Leaves.{StandsAtLeaf, LeavesStand}
use Rattle.lp_spec_drivers.proofs.Placed.{fed}
use Rattle.lp_spec_exact.proofs.Fit.{fit-pins}

row-length : (m : ModuleView) (y : InstanceView) (c : CellView) (row : List PinNet) → IsRowResolved m y c row → length row ≡ length c.pins + length c.pgs
row-length m y c row r =
    let pins = λ (q : PinView). first_bit (connected [] q.name y.connections) in
    let pgs = λ (g : PgPinView). first_bit (connected [] g.name y.connections) in
    let all : length (map (pin_bit m) row) ≡ length (map pins c.pins ++ map pgs c.pgs) = ap (λ (xs : List (Option BitView)). length xs) r.same in
    let left = length-map row (pin_bit m) in
    let right = length-append (map pins c.pins) (map pgs c.pgs) in
    let first = length-map c.pins pins in
    let second = length-map c.pgs pgs in
    omega (arith, all, left, right, first, second)

module _ (s : Structure) (fit : first_of (unfit_cell s) ≡ None) (sound : list_all is_sound_cell s.cells ≡ true) where
  leaf-pins : (y : LeafSite) (a : Placed) → (r : StandsAtLeaf s y a) → length r.resolved.cell.pins + length r.resolved.cell.pgs ≤ 248
  leaf-pins y a r = fit-pins s fit sound r.of r.by r.resolved.cell (get-in s.modules y.of r.of r.has_of) (get-in r.of.instances y.place r.by r.place) r.resolved.is_cell (get-in s.cells y.cell.of r.resolved.cell r.resolved.has_cell)

  pub row-few : (y : LeafSite) (a : Placed) → StandsAtLeaf s y a → length y.cell.row ≤ 248
  row-few y a r = let size = row-length r.of r.by r.resolved.cell y.cell.row r.resolved.resolved in let few = leaf-pins y a r in omega (arith, size, few)

  -- the cell of a row of cell instances
  pub cell-few : (name : ℕ → ℕ → ℕ) (start : ℕ) (ys : List LeafSite) (keyed : List Placed) → LeavesStand s ys keyed
      → (k : ℕ) (l : Leaf) (c : CellView) → slice_get (leaf_rows name start ys) k ≡ Some l → slice_get s.cells l.cell.0 ≡ Some c → length c.pins + length c.pgs ≤ 248
  cell-few name start [] keyed h k l c e f = cc
  cell-few name start (y ∷ ys) [] h k l c e f = absurd h
  cell-few name start (y ∷ ys) (a ∷ keyed) h zero l c e f =
      let same : y.cell.of ≡ l.cell.0 = of-row e in
      let found : Some h.0.resolved.cell ≡ Some c = sym h.0.resolved.has_cell ∙ ap (slice_get s.cells) same ∙ f in
      let is : h.0.resolved.cell ≡ c = cc in
      subst (λ (w : CellView). length w.pins + length w.pgs ≤ 248) is (leaf-pins y a h.0)
    where
      of-row : slice_get (leaf_rows name start (y ∷ ys)) 0 ≡ Some l → y.cell.of ≡ l.cell.0
      of-row e = row-is _ l e
        where
          row-is : (w l : Leaf) → Some w ≡ Some l → w.cell.0 ≡ l.cell.0
          row-is w l e = cc
  cell-few name start (y ∷ ys) (a ∷ keyed) h (suc k) l c e f = cell-few name (start + length y.cell.row) ys keyed h.1 k l c e f

-- ---- feeds

pub fed-within : (n e : ℕ) (xs : List Feed) → list_all (λ (x : DriveRow). nat_lt x.0 n) (rows_from e xs) ≡ true → list_all (λ x. nat_lt x n) (fed xs) ≡ true
fed-within n e [] h = refl
fed-within n e (x ∷ xs) h =
    let rest = list_all (λ (x : DriveRow). nat_lt x.0 n) (rows_from (edges_behind e x.1) xs) in
    both (nat_lt x.0 n) (list_all (λ x. nat_lt x n) (fed xs)) (one (nat_lt x.0 n) rest h) (fed-within n (edges_behind e x.1) xs (other (nat_lt x.0 n) rest h))

pub edges-few : (xs : List Feed) → length (some_of edge_row xs) ≤ length xs
edges-few [] = omega arith
edges-few (x ∷ xs) = by (edge_row x) (edges-few xs)
  where
    by : (o : Option EdgeRow) → length (some_of edge_row xs) ≤ length xs → length (and_more o (some_of edge_row xs)) ≤ suc (length xs)
    by None more = omega (arith, more)
    by (Some r) more = omega (arith, more)
