-- Instances, cell instances and shapes are those of the layout, where numbers fit.
use Rattle.std.proofs.Common.{◌≡◌, ℕ, ◌+◌, true, List, [], ◌∷◌, length, Option, Some, None, refl, sym, ap, arith}
use Rattle.std.specs.Prelude.{map, slice_get, option_map, is_some}
use Rattle.std.specs.List.{list_all}
use Rattle.std.proofs.lemmas.Bool.{ltb-true}
use Rattle.lp_spec_design.specs.Reads.{one, other}
use Rattle.lp_spec_laid.specs.Shaped.{exact_shape, has_few_pgs}
use Rattle.std.proofs.lemmas.List.{length-map}
use Rattle.lp_model.specs.declared.graph.Inst.{Inst}
use Rattle.lp_model.specs.declared.library.Cell.{Cell}
use Rattle.lp_model.specs.declared.library.Pin.{Pin}
use Rattle.lp_model.specs.declared.library.StateGroup.{StateGroup}
use Rattle.lp_model.specs.declared.netlist.Module.{Module}
use Rattle.lp_model.specs.LibraryView.{PinView, cell_view, pin_view, pg_pin_view, state_view}
use Rattle.lp_spec_bridge.specs.Elaborates.{row_shape, shape_of}
use Rattle.lp_spec_layout.specs.Sites.{Site, Spot}
use Rattle.lp_spec_layout.specs.Leaves.{LeafSite, leaf_rows}
use Rattle.lp_spec_layout.specs.Laid as laid
use Rattle.lp_layout.specs.Held.{byte, held_inst}
use Rattle.lp_layout.specs.Insts.{name_inside, instance_name, inst_of}
use Rattle.lp_layout.specs.Labels.{labels_of}
use Rattle.lp_layout.specs.Rows.{leaf_name}
use Rattle.lp_layout.specs.Shapes.{held_shape}
use Rattle.lp_spec_laid.proofs.Named.{leaf_names}

-- ---- names of instances

module _ (ms : List Module) (sites : List Site) (own : ℕ) where
  inside-named : (place : ℕ) (o : Option Site) → name_inside ms own o place ≡ laid.name_in (labels_of ms) own place o
  inside-named place None = refl
  inside-named place (Some outer) = leaf_names ms outer.of place

  instance-named : (by : Option Spot) → instance_name ms sites own by ≡ laid.instance_name (labels_of ms) sites own by
  instance-named None = refl
  instance-named (Some at) = inside-named at.1 (slice_get sites at.0)

  abbrev held-row : Site → ℕ → Inst
  held-row x name = held_inst (record { name = record { 0 = name }; «module» = x.of; parent = laid.parent_of x.by; start = x.start })

  inst-is : (x : Site) → inst_of ms sites own x ≡ held_inst (laid.inst_row (labels_of ms) sites own x)
  inst-is x = ap (held-row x) (instance-named x.by)

  pub insts_are : (xs : List Site) → map (inst_of ms sites own) xs ≡ map held_inst (map (laid.inst_row (labels_of ms) sites own) xs)
  insts_are [] = refl
  insts_are (x ∷ xs) = λ i. inst-is x i ∷ insts_are xs i

-- ---- cell instances

pub leaves_are : (ms : List Module) (start : ℕ) (ys : List LeafSite) → leaf_rows (leaf_name ms) start ys ≡ leaf_rows (laid.name_of (labels_of ms)) start ys
leaves_are ms start [] = refl
leaves_are ms start (y ∷ ys) =
    λ i. record { inst = record { 0 = y.inst }; name = record { 0 = leaf_names ms y.of y.place i }; cell = record { 0 = y.cell.of }; start = start } ∷ leaves_are ms (start + length y.cell.row) ys i

-- ---- shapes

directions : (texts : List (List ℕ)) (qs : List Pin) → map (λ (q : Pin). q.direction) qs ≡ map (λ (q : PinView). q.direction) (map (pin_view texts) qs)
directions texts [] = refl
directions texts (q ∷ qs) = ap (λ z. q.direction ∷ z) (directions texts qs)

stated : (texts : List (List ℕ)) (o : Option StateGroup) → is_some o ≡ is_some (option_map (state_view texts) o)
stated texts None = refl
stated texts (Some x) = refl

pub shapes_are : (texts : List (List ℕ)) (cells : List Cell) → map row_shape (map exact_shape cells) ≡ map shape_of (map (cell_view texts) cells)
shapes_are texts [] = refl
shapes_are texts (c ∷ cells) =
    let pgs : length c.pgs ≡ length (map (pg_pin_view texts) c.pgs) = sym (length-map c.pgs (pg_pin_view texts)) in
    λ i. (directions texts c.pins i, pgs i, stated texts c.state i) ∷ shapes_are texts cells i

-- up to what 8 bits hold
pub shapes_held : (cells : List Cell) → list_all has_few_pgs cells ≡ true → map exact_shape cells ≡ map held_shape cells
shapes_held [] few = refl
shapes_held (c ∷ cells) few =
    let low = ltb-true (length c.pgs) 256 (one (has_few_pgs c) (list_all has_few_pgs cells) few) in
    let pgs : length c.pgs ≡ byte (length c.pgs) = omega (arith, low) in
    λ i. record { pins = map (λ (q : Pin). q.direction) c.pins; pgs = pgs i; state = is_some c.state } ∷ shapes_held cells (other (has_few_pgs c) (list_all has_few_pgs cells) few) i
