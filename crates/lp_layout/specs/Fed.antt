-- What drives the nodes of a design, with the pins of each cell that drive given as a table (own rule).
use Rattle.std.specs.Prelude.{ℕ, ◌+◌, Bool, true, false, List, [], ◌++◌, map, flat_map, Option, Some, None, is_some, slice_get, slice_index_or}
use Rattle.lp_model.specs.declared.library.Cell.{Cell}
use Rattle.lp_model.specs.declared.library.PgPin.{PgPin}
use Rattle.lp_model.specs.declared.library.Pin.{Pin}
use Rattle.lp_model.specs.declared.graph.EdgeKind.{EdgeKind}
use Rattle.lp_model.specs.declared.graph.EdgeKind.TheVariants.{Out, Assign}
use Rattle.lp_model.specs.declared.graph.PinNet.{PinNet}
use Rattle.lp_model.specs.declared.netlist.Direction.{Direction}
use Rattle.lp_model.specs.declared.netlist.Direction.TheVariants.{Input, Output}
use Rattle.lp_spec_design.specs.Graph.{and_more, numbered}
use Rattle.lp_spec_layout.specs.Parts.{Joint, Statement, OfModule, OfCell, Template}
use Rattle.lp_spec_layout.specs.Sites.{Site, Layout}
use Rattle.lp_spec_layout.specs.Feeds.{Feed, joint_feed, pin_feed, row_feeds, input_feeds, outer_feed}
use Rattle.lp_layout.specs.Held.{held_feed}

-- ---- which pins drive

abbrev pub drives_out : Direction → Bool
drives_out Input = false
drives_out Output = true

-- signal pins, then power and ground pins
abbrev pub drives_of : Cell → List Bool
drives_of c = map (λ (q : Pin). drives_out q.direction) c.pins ++ map (λ (g : PgPin). is_some g.switched) c.pgs

-- ---- what drives

abbrev pub joint_feeds : ℕ → ℕ → EdgeKind → List Joint → List Feed
joint_feeds to from kind joints = map held_feed (map (joint_feed to from kind) joints)

abbrev pub statement_feeds : List (List Bool) → Site → Statement → List Feed
statement_feeds drives x (OfModule c) = map (joint_feed x.start (x.start + c.before.bits) Out) c.outputs
statement_feeds drives x (OfCell c) = row_feeds (slice_index_or drives c.of []) x.start (x.leaf + c.before) c.row

-- of a module's statements and assigns, where there is such a module
abbrev pub template_feeds : List (List Bool) → Site → Option Template → List Feed
template_feeds drives x None = []
template_feeds drives x (Some t) = flat_map (statement_feeds drives x) t.statements ++ map (joint_feed x.start x.start Assign) t.assigns

abbrev pub feeds_at : List (List Bool) → Layout → Site → List Feed
feeds_at drives l x = input_feeds l x x.by ++ template_feeds drives x (slice_get l.templates x.of)

abbrev pub feeds : List (List Bool) → Layout → List Feed
feeds drives l = flat_map (feeds_at drives l) l.sites ++ map (outer_feed l.inner) (numbered 0 l.ports)

-- of a statement, where there is one
abbrev pub placed_feeds : List (List Bool) → Site → Option Statement → List Feed
placed_feeds drives x None = []
placed_feeds drives x (Some z) = statement_feeds drives x z

-- of a pin with what is at it, where that is told
abbrev pub placed_pin : ℕ → ℕ → ℕ → Bool → Option PinNet → List Feed
placed_pin start leaf pin drives None = []
placed_pin start leaf pin drives (Some net) = and_more (pin_feed start leaf ((pin, drives), net)) []
