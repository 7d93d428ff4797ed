-- What the calls before this one give, and what a refusal by two drivers says (own rule).
use Rattle.std.specs.Prelude.{◌≡◌, ◌<◌, ℕ, List, Option, Some, None, option_map, slice_index_or}
use Rattle.lp_model.specs.declared.fault.netlist.NetlistFault.TheVariants as faults
use Rattle.lp_model.specs.declared.fault.refusal.DesignFault.TheVariants as of_design
use Rattle.lp_model.specs.declared.fault.refusal.Fault.TheVariants as kinds
use Rattle.lp_model.specs.declared.fault.refusal.Refusal.{Refusal}
use Rattle.lp_model.specs.declared.fault.refusal.Refusal.TheVariants as refusals
use Rattle.lp_model.specs.declared.ids.NodeId.{NodeId}
use Rattle.lp_model.specs.declared.library.Library.{Library}
use Rattle.lp_model.specs.declared.netlist.Netlist.{Netlist}
use Rattle.lp_spec_design.specs.Keys.{Node}
use Rattle.lp_spec_design.specs.Netlists.{Structure}
use Rattle.lp_spec_bridge.specs.Keyed.{keys_of, node_at}
use Rattle.lp_spec_bridge.specs.Names.{HasNamesApart}
use Rattle.lp_spec_layout.specs.Parts.{Template, AreTemplates}
use Rattle.lp_spec_layout.specs.Walked.{IsSized}
use Rattle.lp_spec_faults.specs.Lines.{first_of}
use Rattle.lp_spec_faults.specs.Modules.{netlist_limits}
use Rattle.lp_spec_faults.specs.Wires.{width, two_drivers}
use Rattle.lp_targets.specs.declared.hierarchy.Hierarchy.{Hierarchy}
use Rattle.lp_targets.specs.declared.target.Target.{Target}
use Rattle.lp_targets.specs.Sizes.{IsResolved, sizes_of}
use Rattle.lp_targets.specs.Structures.{structure_of}
use Rattle.lp_templates.specs.Sizes.{no_size}
use Rattle.lp_templates.specs.Views.{size_view}

-- what each instance is of, an order of the modules and the top, no limit that is passed, and what is resolved for each module, which lies by the sizes of modules; names are apart, and values joined have the same widths
pub record IsReady (s : Structure) (rows : List (List Target)) (order : List ℕ) (top : ℕ) (templates : List Template) : Type 0 where
  pub resolved : IsResolved s rows order top
  pub limits : first_of (netlist_limits s) ≡ None
  pub names : HasNamesApart s
  pub widths : first_of (width s) ≡ None
  pub are : AreTemplates s s.modules templates
  pub sized : IsSized s templates
  pub told : (n : ℕ) → sized.size n ≡ size_view (slice_index_or (sizes_of s) n no_size)
  pub low : sized.height top < 64

-- what is claimed of a netlist, by any table of names, where that is so
abbrev pub OnReady : Netlist → Library → Hierarchy → List Template → (Structure → Type 0) → Type 0
OnReady n l h templates claim = (texts : List (List ℕ)) → IsReady (structure_of texts n l) h.rows h.order.items h.top templates → claim (structure_of texts n l)

-- the node that a number means
abbrev pub node_of : Structure → NodeId → Node
node_of s k = node_at (keys_of s) k.0

-- the first node with two drivers, where there is one
abbrev pub IsFirstTwice : Structure → Option NodeId → Type 0
IsFirstTwice s o = first_of (two_drivers s) ≡ option_map (node_of s) o

-- memory was refused, or the first node with two drivers is named
abbrev pub IsTwoDrivers : Structure → Refusal → Type 0
IsTwoDrivers s refusals.NoMemory = Unit {0}
IsTwoDrivers s (refusals.Fault (kinds.Design (of_design.Netlist (faults.TwoDrivers node)))) = first_of (two_drivers s) ≡ Some (node_of s node)
IsTwoDrivers s _ = ⊥
