-- The statements of the laws on nodes with two drivers (own rule).
use Rattle.std.specs.Prelude.{◌≡◌, ◌<◌, ℕ, suc, true, nat_lt, List, [], ◌++◌, map, length, Option, Some, option_map, slice_get}
use Rattle.std.specs.List.{list_all}
use Rattle.lp_model.specs.NetlistView.{InstanceView, ModuleView}
use Rattle.lp_spec_design.specs.Netlists.{Structure, module_at}
use Rattle.lp_spec_design.specs.Graph.{sources_of}
use Rattle.lp_spec_design.specs.Nodes.{nodes_of}
use Rattle.lp_spec_bridge.specs.Tables.{Tables}
use Rattle.lp_spec_bridge.specs.Keyed.{IsApart, keys_of, node_at}
use Rattle.lp_spec_bridge.specs.Driven.{JoinsSingleBits}
use Rattle.lp_spec_bridge.specs.Names.{HasNamesApart}
use Rattle.lp_spec_bridge.specs.Templates.{bits_in}
use Rattle.lp_spec_layout.specs.Parts.{Child, Template, IsChild, AreTemplates}
use Rattle.lp_spec_layout.specs.Sites.{Layout, port_bits, IsSited}
use Rattle.lp_spec_layout.specs.Walked.{IsSized}
use Rattle.lp_spec_layout.specs.Feeds.{Feed, feeds, edge_rows}
use Rattle.lp_spec_layout.specs.Laws.{HasCells}
use Rattle.lp_spec_faults.specs.Lines.{first_of}
use Rattle.lp_spec_faults.specs.Wires.{two_drivers}
use Rattle.lp_spec_drivers.specs.Counts.{times, first_twice, or_else, earlier, least_in}
use Rattle.lp_spec_drivers.specs.Drivers.{joint_places, input_places, first_driven_twice, own_twice, AreTwiceBelow, twice_below}

-- a node has as many sources as feeds drive it
abbrev pub SourcesCounted : Type 0
SourcesCounted = (s : Structure) (t : Tables) (l : Layout) → HasNamesApart s → JoinsSingleBits s → IsSited s l → HasCells s t → t.edges ≡ edge_rows s.cells l
    → (k : ℕ) → k < length (nodes_of s) → length (sources_of s (node_at (keys_of s) k)) ≡ times k (map (λ (f : Feed). f.0) (feeds s.cells l))

-- the first node with two sources is found instance by instance, from the places of its module
abbrev pub FirstTwoDrivers : Type 0
FirstTwoDrivers = (s : Structure) (t : Tables) (l : Layout) → HasNamesApart s → JoinsSingleBits s → IsSited s l → HasCells s t → t.edges ≡ edge_rows s.cells l
    → first_of (two_drivers s) ≡ option_map (node_at (keys_of s)) (first_driven_twice s l)

-- and module by module, by what is known of each module's instances below it
abbrev pub TwoDriversByModule : Type 0
TwoDriversByModule = (s : Structure) (templates : List Template) (top : ℕ) (m : ModuleView) (below : ℕ → Option ℕ) → HasNamesApart s → JoinsSingleBits s → module_at s [] ≡ Some m → slice_get s.modules top ≡ Some m
    → AreTemplates s s.modules templates → (z : IsSized s templates) → z.height top < 64 → AreTwiceBelow s templates below
    → first_of (two_drivers s) ≡ option_map (node_at (keys_of s)) (or_else (own_twice s templates top (input_places (port_bits m))) (below top))

-- that node is one of the net bits of instances
abbrev pub TwiceWithin : Type 0
TwiceWithin = (s : Structure) (templates : List Template) (top : ℕ) (m : ModuleView) (below : ℕ → Option ℕ) → HasNamesApart s → module_at s [] ≡ Some m → slice_get s.modules top ≡ Some m
    → AreTemplates s s.modules templates → (z : IsSized s templates) → z.height top < 64 → AreTwiceBelow s templates below
    → (k : ℕ) → or_else (own_twice s templates top (input_places (port_bits m))) (below top) ≡ Some k → k < (z.size top).bits

-- what each module has below it is what its height says how far to look for
abbrev pub BelowIsThere : Type 0
BelowIsThere = (s : Structure) (templates : List Template) → AreTemplates s s.modules templates → (z : IsSized s templates) → AreTwiceBelow s templates (λ n. twice_below s templates (suc (z.height n)) n)

-- the places that are connected outside are apart, for the top and for a statement's instance, and within the bits of the module
abbrev pub TopInputsApart : Type 0
TopInputsApart = (m : ModuleView) → IsApart (input_places (port_bits m)) × (list_all (λ k. nat_lt k (length (bits_in m))) (input_places (port_bits m)) ≡ true)

abbrev pub ChildInputsApart : Type 0
ChildInputsApart = (s : Structure) (m : ModuleView) (y : InstanceView) (c : Child) → HasNamesApart s → (is : IsChild s m y c)
    → IsApart (joint_places c.inputs) × (list_all (λ k. nat_lt k (length (bits_in is.inner))) (joint_places c.inputs) ≡ true)

-- so the first place that is driven twice is the first one that is so from inside, or the first one from outside that is driven from inside
abbrev pub FirstEntered : Type 0
FirstEntered = (n : ℕ) (entered inside : List ℕ) → IsApart entered → list_all (λ k. nat_lt k n) entered ≡ true → first_twice n (entered ++ inside) ≡ earlier (first_twice n inside) (least_in entered inside)
