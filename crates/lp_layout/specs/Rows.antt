-- What a walk over module instances leaves behind: their sites, and the cell instances with their rows of pins (own rule).
use Rattle.std.specs.Prelude.{ℕ, List, ◌++◌, map, length, slice_get, Option, Some, None}
use Rattle.lp_model.specs.declared.graph.Leaf.{Leaf}
use Rattle.lp_model.specs.declared.graph.PinNet.{PinNet}
use Rattle.lp_model.specs.declared.netlist.Module.{Module}
use Rattle.lp_spec_layout.specs.Parts.{Statement, Template}
use Rattle.lp_spec_layout.specs.Sites.{Site}
use Rattle.lp_spec_layout.specs.Walked.{walk_in, walk}
use Rattle.lp_spec_layout.specs.Leaves.{LeafSite, leaves_in, walk_leaves, leaf_rows, pin_rows}
use Rattle.lp_layout.specs.declared.rows.Design.{Design}
use Rattle.lp_layout.specs.declared.rows.Rows.{Rows}
use Rattle.lp_layout.specs.Held.{held_leaf, held_pin}
use Rattle.lp_layout.specs.Labels.{statement_name}
use Rattle.lp_layout.specs.Sites.{sites_view}

pub record Seen : Type 0 where
  pub sites : List Site
  pub leaves : List Leaf
  pub pins : List PinNet

abbrev pub rows_view : Rows → Seen
rows_view w = record { sites = sites_view w.sites.items; leaves = w.leaves; pins = w.pins }

abbrev pub leaf_name : List Module → ℕ → ℕ → ℕ
leaf_name ms n place = statement_name (slice_get ms n) place

-- behind what is there, more sites and more cell instances
abbrev pub with_more : List Module → Seen → List Site → List LeafSite → Seen
with_more ms w sites leaves = record {
  sites = w.sites ++ sites;
  leaves = w.leaves ++ map held_leaf (leaf_rows (leaf_name ms) (length w.pins) leaves);
  pins = w.pins ++ map held_pin (pin_rows leaves);
}

-- an instance of a number and all below it, down to a depth
abbrev pub walked : List Module → List Template → ℕ → ℕ → Site → Seen → Seen
walked ms templates depth i x w = with_more ms w (walk templates depth i x) (walk_leaves templates depth i x)

-- a statement of such an instance, where there is one
abbrev pub visited : List Module → List Template → ℕ → ℕ → Site → ℕ → Option Statement → Seen → Seen
visited ms templates depth i x place None w = w
visited ms templates depth i x place (Some z) w = with_more ms w (walk_in (walk templates depth) i x place z) (leaves_in (walk_leaves templates depth) i x place z)

-- with what a walk reads
abbrev pub walked_by : Design → ℕ → ℕ → Site → Seen → Seen
walked_by d depth i x w = walked d.modules.now d.templates.now depth i x w

abbrev pub visited_by : Design → ℕ → ℕ → Site → ℕ → Option Statement → Seen → Seen
visited_by d depth i x place z w = visited d.modules.now d.templates.now depth i x place z w

-- a cell instance of a site's instance
abbrev pub leaf_at : ℕ → Site → ℕ → ℕ → List PinNet → LeafSite
leaf_at i x place of row = record { inst = i; of = x.of; start = x.start; place = place; cell = record { of = of; before = 0; row = row } }
