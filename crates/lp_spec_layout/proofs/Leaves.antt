-- Cell instances at their sites have the rows of their modules.
use Rattle.std.proofs.Common.{◌≡◌, ◌+◌, ℕ, List, [], ◌∷◌, ◌++◌, map, length, take, drop, Option, Some, sym, ap, ◌∙◌, arith}
use Rattle.std.specs.Prelude.{slice_get}
use Rattle.std.proofs.lemmas.List.{length-append, length-map, take_at, drop_at, drop-drop}
use Rattle.lp_model.specs.declared.graph.Leaf.{Leaf}
use Rattle.lp_model.specs.declared.graph.PinNet.{PinNet}
use Rattle.lp_model.specs.NetlistView.{BitView, InstanceView, ModuleView}
use Rattle.lp_model.specs.LibraryView.{PgPinView, CellView, PinView}
use Rattle.lp_spec_design.specs.Netlists.{Structure, module_at, instance_named, connected}
use Rattle.lp_spec_design.specs.Instances.{Placed, module_instances}
use Rattle.lp_spec_bridge.specs.Tables.{Tables}
use Rattle.lp_spec_bridge.specs.Represents.{row_size}
use Rattle.lp_spec_bridge.specs.Templates.{start_of}
use Rattle.lp_spec_bridge.specs.Kept.{pin_bit, first_bit, pin_at_start, IsRowResolved, StandsFor, AllStand}
use Rattle.lp_spec_layout.specs.Parts.{IsCell}
use Rattle.lp_spec_layout.specs.Leaves.{LeafSite, leaf_rows, pin_rows}

-- a cell instance of the design stands at a site
pub record StandsAtLeaf (s : Structure) (y : LeafSite) (a : Placed) : Type 0 where
  pub of : ModuleView
  pub by : InstanceView
  pub inst : slice_get (module_instances s) y.inst ≡ Some a.path
  pub is_of : module_at s a.path ≡ Some of
  pub has_of : slice_get s.modules y.of ≡ Some of
  pub place : slice_get of.instances y.place ≡ Some by
  pub is : a.instance ≡ by.name
  pub is_by : instance_named of a.instance ≡ Some by
  pub resolved : IsCell s of by y.cell
  pub start : y.start ≡ start_of s y.inst

abbrev pub LeavesStand : Structure → List LeafSite → List Placed → Type 0
LeavesStand s [] [] = Unit {0}
LeavesStand s [] (a ∷ keyed) = ⊥
LeavesStand s (y ∷ ys) [] = ⊥
LeavesStand s (y ∷ ys) (a ∷ keyed) = StandsAtLeaf s y a × LeavesStand s ys keyed

pub leaves-join : (s : Structure) (xs ys : List LeafSite) (ls bs : List Placed) → LeavesStand s xs ls → LeavesStand s ys bs → LeavesStand s (xs ++ ys) (ls ++ bs)
leaves-join s [] ys [] bs h g = g
leaves-join s [] ys (a ∷ ls) bs h g = absurd h
leaves-join s (x ∷ xs) ys [] bs h g = absurd h
leaves-join s (x ∷ xs) ys (a ∷ ls) bs h g = (h.0, leaves-join s xs ys ls bs h.1 g)

row-length : (m : ModuleView) (y : InstanceView) (c : CellView) (row : List PinNet) → IsRowResolved m y c row → length row ≡ row_size (Some c)
row-length m y c row r =
    let pins = λ (q : PinView). first_bit (connected [] q.name y.connections) in
    let pgs = λ (g : PgPinView). first_bit (connected [] g.name y.connections) in
    let all : length (map (pin_bit m) row) ≡ length (map pins c.pins ++ map pgs c.pgs) = ap (λ (xs : List (Option BitView)). length xs) r.same in
    let left = length-map row (pin_bit m) in
    let right = length-append (map pins c.pins) (map pgs c.pgs) in
    let one = length-map c.pins pins in
    let two = length-map c.pgs pgs in
    omega (arith, all, left, right, one, two)

module _ (s : Structure) (t : Tables) (name : ℕ → ℕ → ℕ) where
  pub rows-stand : (ys : List LeafSite) (keyed : List Placed) (start : ℕ) → LeavesStand s ys keyed → drop start t.pins ≡ pin_rows ys → AllStand s t (leaf_rows name start ys) keyed
  rows-stand [] [] start h pins = tt
  rows-stand [] (a ∷ keyed) start h pins = absurd h
  rows-stand (y ∷ ys) [] start h pins = absurd h
  rows-stand (y ∷ ys) (a ∷ keyed) start h pins =
      let r = h.0 in
      let c = r.resolved in
      let row = map (pin_at_start y.start) y.cell.row in
      let size : length (map (pin_at_start y.start) y.cell.row) ≡ length y.cell.row = length-map y.cell.row (pin_at_start y.start) in
      let wide : length (map (pin_at_start y.start) y.cell.row) ≡ row_size (Some c.cell) = size ∙ row-length r.of r.by c.cell y.cell.row c.resolved in
      let leaf : Leaf = record { inst = record { 0 = y.inst }; name = record { 0 = name y.of y.place }; cell = record { 0 = y.cell.of }; start = start } in
      let served : take (row_size (slice_get s.cells y.cell.of)) (drop start t.pins) ≡ map (pin_at_start (start_of s y.inst)) y.cell.row =
      ap (λ o. take (row_size o) (drop start t.pins)) c.has_cell ∙ ap (take (row_size (Some c.cell))) pins ∙ take_at row (pin_rows ys) (row_size (Some c.cell)) wide ∙ ap (λ n. map (pin_at_start n) y.cell.row) r.start in
      let later : drop (start + length y.cell.row) t.pins ≡ pin_rows ys =
      sym (drop-drop (length y.cell.row) start t.pins) ∙ ap (drop (length y.cell.row)) pins ∙ drop_at row (pin_rows ys) (length y.cell.row) size in
      let here : StandsFor s t leaf a = record {
        of = r.of;
        by = r.by;
        cell = c.cell;
        row = y.cell.row;
        inst = r.inst;
        is_of = r.is_of;
        is_by = r.is_by;
        is_cell = c.is_cell;
        has_cell = c.has_cell;
        resolved = c.resolved;
        served = served;
      } in
      (here, rows-stand ys keyed (start + length y.cell.row) h.1 later)
