-- How often each net bit of a module instance is driven, by its place among the bits of its module, and the first one that is driven twice (IEEE 1364-2005, port connections and continuous assignments; the form is an own rule).
use Rattle.std.specs.Prelude.{◌≡◌, ℕ, zero, suc, ◌+◌, Bool, List, [], ◌++◌, map, flat_map, length, Option, Some, None, option_map, slice_get}
use Rattle.lp_model.specs.declared.graph.PinNet.{PinNet}
use Rattle.lp_model.specs.declared.graph.PinNet.TheVariants.{Node as PinNode}
use Rattle.lp_model.specs.NetlistView.{ModuleView}
use Rattle.lp_model.specs.LibraryView.{CellView}
use Rattle.lp_spec_design.specs.Netlists.{Structure}
use Rattle.lp_spec_design.specs.Graph.{pairs, some_of, numbered, when}
use Rattle.lp_spec_bridge.specs.Named.{bits_of}
use Rattle.lp_spec_layout.specs.Parts.{Joint, Statement, OfModule, OfCell, Template, statements_of, assigns_of, driving_pins}
use Rattle.lp_spec_layout.specs.Sites.{Spot, Site, Layout}
use Rattle.lp_spec_layout.specs.Feeds.{child_inputs}
use Rattle.lp_spec_drivers.specs.Counts.{first_twice, or_else, found}

-- ---- from inside

-- the places that joints drive
abbrev pub joint_places : List Joint → List ℕ
joint_places joints = map (λ (j : Joint). j.0) joints

-- the place at a pin that drives
abbrev pub pin_place : Bool × PinNet → Option ℕ
pin_place z = by z.1
  where
    by : PinNet → Option ℕ
    by (PinNode k) = when z.0 k.0
    by _ = None

-- the places that a statement drives: from the outputs of a module instance, or from the pins of a cell
abbrev pub statement_places : List CellView → Statement → List ℕ
statement_places cells (OfModule c) = joint_places c.outputs
statement_places cells (OfCell c) = some_of pin_place (pairs (driving_pins (slice_get cells c.of)) c.row)

-- by statement, then by assign
abbrev pub inside_places : List CellView → Option Template → List ℕ
inside_places cells x = flat_map (statement_places cells) (statements_of x) ++ joint_places (assigns_of x)

-- ---- from outside

-- the numbers of the bits that are inputs
abbrev pub input_places : List Bool → List ℕ
input_places ports = some_of (λ (z : ℕ × Bool). when z.1 z.0) (numbered 0 ports)

-- by the statement at a place in the instance in which one stands
abbrev pub outside_places : List Template → ℕ → Option Site → List ℕ
outside_places templates place None = []
outside_places templates place (Some outer) = joint_places (child_inputs (slice_get (statements_of (slice_get templates outer.of)) place))

-- the input bits that are connected outside: all of the top's, and of another instance those of its statement
abbrev pub entered_places : Layout → Option Spot → List ℕ
entered_places l None = input_places l.ports
entered_places l (Some at) = outside_places l.templates at.1 (slice_get l.sites at.0)

-- ---- from both

abbrev pub driven_places : List CellView → Layout → Site → List ℕ
driven_places cells l x = entered_places l x.by ++ inside_places cells (slice_get l.templates x.of)

-- how many bits the module of a number has
abbrev pub width_of : Structure → ℕ → ℕ
width_of s n = length (bits_of (slice_get s.modules n))

-- the first node of an instance that is driven twice
abbrev pub twice_at : Structure → Layout → Site → Option ℕ
twice_at s l x = option_map (λ j. x.start + j) (first_twice (width_of s x.of) (driven_places s.cells l x))

-- the first one of a design
abbrev pub first_driven_twice : Structure → Layout → Option ℕ
first_driven_twice s l = found (twice_at s l) l.sites

-- ---- by module

-- the first place of an instance of a module that is driven twice, by the places that are connected outside
abbrev pub own_twice : Structure → List Template → ℕ → List ℕ → Option ℕ
own_twice s templates n entered = first_twice (width_of s n) (entered ++ inside_places s.cells (slice_get templates n))

-- the first node of a statement's instance or of one below it, from the first node of the instance in which it stands, by what is known of the modules' instances below them
abbrev pub twice_in : Structure → List Template → (ℕ → Option ℕ) → Statement → Option ℕ
twice_in s templates below (OfModule c) = option_map (λ k. c.before.bits + k) (or_else (own_twice s templates c.of (joint_places c.inputs)) (below c.of))
twice_in s templates below (OfCell c) = None

-- of each module the first node below an instance of it, from its first node on
abbrev pub AreTwiceBelow : Structure → List Template → (ℕ → Option ℕ) → Type 0
AreTwiceBelow s templates below = (n : ℕ) (m : ModuleView) (x : Template) → slice_get s.modules n ≡ Some m → slice_get templates n ≡ Some x → below n ≡ found (twice_in s templates below) x.statements

-- the one that there is: down to a depth
abbrev pub twice_below : Structure → List Template → ℕ → ℕ → Option ℕ
twice_below s templates zero n = None
twice_below s templates (suc depth) n = found (twice_in s templates (twice_below s templates depth)) (statements_of (slice_get templates n))
