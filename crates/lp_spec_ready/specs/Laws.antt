-- The statements of the laws of this crate (own rule).
use Rattle.std.specs.Prelude.{◌≡◌, ℕ, List, None}
use Rattle.std.specs.List.{All}
use Rattle.lp_model.specs.declared.library.Library.{Library}
use Rattle.lp_model.specs.declared.netlist.Netlist.{Netlist}
use Rattle.lp_verilog.specs.Reads.{Reads}
use Rattle.lp_spec_design.specs.Netlists.{Structure}
use Rattle.lp_spec_faults.specs.Lines.{first_of}
use Rattle.lp_spec_faults.specs.Modules.{netlist_limits}
use Rattle.lp_spec_bridge.specs.Names.{HasNamesApart}
use Rattle.lp_targets.specs.declared.target.Target.{Target}
use Rattle.lp_targets.specs.Structures.{structure_of}
use Rattle.lp_targets.specs.Sizes.{IsResolved}
use Rattle.lp_templates.specs.Modules.{HasFewBits}
use Rattle.lp_spec_numbered.specs.Read.{DeclareTheirBits}

-- a netlist that a text denotes has its names apart, over whatever cells
abbrev pub ReadNamesAreApart : Type 0
ReadNamesAreApart = (text : List ℕ) (s : Structure) → Reads text s.modules → HasNamesApart s

-- and each of its modules declares what it joins and assigns
abbrev pub ReadModulesDeclareTheirBits : Type 0
ReadModulesDeclareTheirBits = (text : List ℕ) (s : Structure) → Reads text s.modules → DeclareTheirBits s.modules

-- where one top has all modules below it and no limit is passed, each module has few bits
abbrev pub ModulesHaveFewBits : Type 0
ModulesHaveFewBits =
    (texts : List (List ℕ)) (n : Netlist) (l : Library) (rows : List (List Target)) (order : List ℕ) (top : ℕ)
    → IsResolved (structure_of texts n l) rows order top
    → first_of (netlist_limits (structure_of texts n l)) ≡ None
    → All HasFewBits n.modules
