-- The cell instances of an elaborated netlist with their rows of pins, in preorder by statement, made module by module (own rule).
use Rattle.std.specs.Prelude.{ℕ, zero, suc, ◌+◌, List, [], ◌∷◌, map, flat_map, length, None, slice_get}
use Rattle.lp_model.specs.declared.graph.Leaf.{Leaf}
use Rattle.lp_model.specs.declared.graph.PinNet.{PinNet}
use Rattle.lp_spec_design.specs.Graph.{numbered}
use Rattle.lp_spec_bridge.specs.Kept.{pin_at_start}
use Rattle.lp_spec_layout.specs.Parts.{Cell, Statement, OfModule, OfCell, Template, statements_of}
use Rattle.lp_spec_layout.specs.Sites.{Site}
use Rattle.lp_spec_layout.specs.Walked.{site_in}

-- a cell instance: the instance in which it stands, with its module's number and first node, the place of its statement there, and what that is resolved to
pub record LeafSite : Type 0 where
  pub inst : ℕ
  pub of : ℕ
  pub start : ℕ
  pub place : ℕ
  pub cell : Cell

abbrev pub leaves_in : (ℕ → Site → List LeafSite) → ℕ → Site → ℕ → Statement → List LeafSite
leaves_in more i x place (OfModule c) = more (i + c.before.instances) (site_in i x place c)
leaves_in more i x place (OfCell c) = record { inst = i; of = x.of; start = x.start; place = place; cell = c } ∷ []

-- those of an instance of a number and of all below it, down to a depth
abbrev pub walk_leaves : List Template → ℕ → ℕ → Site → List LeafSite
walk_leaves templates zero i x = []
walk_leaves templates (suc depth) i x = flat_map (λ (z : ℕ × Statement). leaves_in (walk_leaves templates depth) i x z.0 z.1) (numbered 0 (statements_of (slice_get templates x.of)))

-- all of them, from the number of the top's module
unfoldable pub leaf_sites_of : List Template → ℕ → List LeafSite
leaf_sites_of templates top = walk_leaves templates 64 0 (record { of = top; by = None; start = 0; leaf = 0 })

-- their rows lie one behind another, each with the places of its module from the first node of its instance on
abbrev pub leaf_rows : (ℕ → ℕ → ℕ) → ℕ → List LeafSite → List Leaf
leaf_rows name start [] = []
leaf_rows name start (y ∷ ys) =
    record { inst = record { 0 = y.inst }; name = record { 0 = name y.of y.place }; cell = record { 0 = y.cell.of }; start = start } ∷ leaf_rows name (start + length y.cell.row) ys

abbrev pub pin_rows : List LeafSite → List PinNet
pin_rows ys = flat_map (λ (y : LeafSite). map (pin_at_start y.start) y.cell.row) ys
