-- All tables from what each is.
use Rattle.std.proofs.Common.{◌≡◌, ℕ, List, Option, ap, ◌∙◌}
use Rattle.std.specs.Prelude.{map, slice_get}
use Rattle.lp_model.specs.declared.graph.CellShape.{CellShape}
use Rattle.lp_model.specs.declared.graph.Inst.{Inst}
use Rattle.lp_model.specs.declared.library.Cell.{Cell}
use Rattle.lp_model.specs.declared.netlist.Module.{Module}
use Rattle.lp_spec_layout.specs.Parts.{Template}
use Rattle.lp_spec_layout.specs.Sites.{Site}
use Rattle.lp_layout.specs.declared.graph.Parts.{Parts}
use Rattle.lp_layout.specs.declared.wires.Wires.{Wires}
use Rattle.lp_layout.specs.Graph.{seen, inner_count, wires_at, own_name, insts_at, parts_at}
use Rattle.lp_layout.specs.Rows.{Seen}
use Rattle.lp_layout.specs.Shapes.{held_shape}

abbrev pub parts_from : List CellShape → List Inst → Seen → Wires → ℕ → Parts
parts_from shapes instances w wires inner = record { shapes = shapes; instances = instances; leaves = w.leaves; pins = w.pins; nodes = wires.nodes; edges = wires.edges; inner = inner }

module _ (ms : List Module) (cells : List Cell) (templates : List Template) where
  abbrev parts-by : Seen → Option Module → Parts
  parts-by w o = parts_from (map held_shape cells) (insts_at ms w.sites (own_name o)) w (wires_at ms cells templates w.sites o) (inner_count ms w.sites)

  pub all_parts : (top : ℕ) (w : Seen) (o : Option Module) (own : ℕ) (sites : List Site) (shapes : List CellShape) (instances : List Inst) (wires : Wires) (inner : ℕ)
      → w ≡ seen ms templates top → o ≡ slice_get ms top → own ≡ own_name o → sites ≡ w.sites
      → shapes ≡ map held_shape cells → instances ≡ insts_at ms sites own → wires ≡ wires_at ms cells templates sites o → inner ≡ inner_count ms sites
      → parts_from shapes instances w wires inner ≡ parts_at ms cells templates top
  all_parts top w o own sites shapes instances wires inner is at named same shaped placed wired counted =
      (λ i. parts_from (shaped i) ((placed ∙ (λ j. insts_at ms (same j) (named j))) i) w ((wired ∙ ap (λ z. wires_at ms cells templates z o) same) i) ((counted ∙ ap (inner_count ms) same) i))
      ∙ (λ i. parts-by (is i) (at i))
