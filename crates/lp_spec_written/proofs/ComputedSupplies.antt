-- The written netlists of small designs with switches.
use Rattle.std.proofs.Common.{◌≡◌, List, [], ◌∷◌, refl}
use Rattle.std.specs.Prelude.{codes}
use Rattle.lp_model.specs.NetlistView.{ModuleView}
use Rattle.lp_spec_design.specs.Nodes.{computing}
use Rattle.lp_spec_design.proofs.Samples.{with_strategies}
use Rattle.lp_spec_pins.proofs.Clamped.{joined}
use Rattle.lp_spec_written.proofs.Samples.{any_cell, switched, nested, in_the_block, exchanged}
use Rattle.lp_spec_written.specs.Supplies.{wire}
use Rattle.lp_spec_written.specs.Written.{written}
use Rattle.lp_spec_written.proofs.Digits.{closed}
use Rattle.lp_spec_written.proofs.Shapes.{input, output, instance}

-- ---- a switch in the top: its output is a wire, which comes into the block by an input port

abbrev switched_top : ModuleView
switched_top = record {
  name = codes "top";
  ports = input (codes "a") ∷ input (codes "en") ∷ output (codes "y") ∷ input (codes "lp_v_VDD") ∷ input (codes "lp_v_VSS") ∷ [];
  nets = wire (codes "n") ∷ wire (codes "lp_w_0") ∷ [];
  instances =
      instance (codes "lp_1_core") (codes "u") (joined (codes "i") (codes "a") ∷ joined (codes "o") (codes "n") ∷ joined (codes "lp_w_0") (codes "lp_w_0") ∷ joined (codes "lp_v_VSS") (codes "lp_v_VSS") ∷ [])
      ∷ instance (codes "BUF") (codes "b") (joined (codes "A") (codes "n") ∷ joined (codes "Y") (codes "y") ∷ joined (codes "VDD") (codes "lp_v_VDD") ∷ joined (codes "VSS") (codes "lp_v_VSS") ∷ [])
      ∷ instance (codes "HDSW") (codes "lp_s_0") (joined (codes "SLEEP") (codes "en") ∷ joined (codes "VDDG") (codes "lp_v_VDD") ∷ joined (codes "VDD") (codes "lp_w_0") ∷ joined (codes "VSS") (codes "lp_v_VSS") ∷ [])
      ∷ [];
  assigns = [];
}

abbrev switched_core : ModuleView
switched_core = record {
  name = codes "lp_1_core";
  ports = input (codes "i") ∷ output (codes "o") ∷ input (codes "lp_w_0") ∷ input (codes "lp_v_VSS") ∷ [];
  nets = [];
  instances =
      instance (codes "INV") (codes "g") (joined (codes "A") (codes "i") ∷ joined (codes "Y") (codes "o") ∷ joined (codes "VDD") (codes "lp_w_0") ∷ joined (codes "VSS") (codes "lp_v_VSS") ∷ [])
      ∷ [];
  assigns = [];
}

abbrev pub switched_modules : List ModuleView
switched_modules = switched_top ∷ switched_core ∷ []

written_switched : written (switched (with_strategies [])) any_cell ≡ switched_modules
unfolding computing
written_switched = closed switched_modules (written (switched (with_strategies [])) any_cell) refl refl

-- ---- a switch in the block that it feeds: the wire is there

abbrev switched_inside_top : ModuleView
switched_inside_top = record {
  name = codes "top";
  ports = input (codes "a") ∷ input (codes "en") ∷ output (codes "y") ∷ input (codes "lp_v_VDD") ∷ input (codes "lp_v_VSS") ∷ [];
  nets = wire (codes "n") ∷ [];
  instances =
      instance (codes "lp_1_core") (codes "u") (joined (codes "i") (codes "a") ∷ joined (codes "o") (codes "n") ∷ joined (codes "lp_v_VDD") (codes "lp_v_VDD") ∷ joined (codes "lp_v_VSS") (codes "lp_v_VSS") ∷ joined (codes "lp_c_0") (codes "en") ∷ [])
      ∷ instance (codes "BUF") (codes "b") (joined (codes "A") (codes "n") ∷ joined (codes "Y") (codes "y") ∷ joined (codes "VDD") (codes "lp_v_VDD") ∷ joined (codes "VSS") (codes "lp_v_VSS") ∷ [])
      ∷ [];
  assigns = [];
}

abbrev switched_inside_core : ModuleView
switched_inside_core = record {
  name = codes "lp_1_core";
  ports = input (codes "i") ∷ output (codes "o") ∷ input (codes "lp_v_VDD") ∷ input (codes "lp_v_VSS") ∷ input (codes "lp_c_0") ∷ [];
  nets = wire (codes "lp_w_0") ∷ [];
  instances =
      instance (codes "INV") (codes "g") (joined (codes "A") (codes "i") ∷ joined (codes "Y") (codes "o") ∷ joined (codes "VDD") (codes "lp_w_0") ∷ joined (codes "VSS") (codes "lp_v_VSS") ∷ [])
      ∷ instance (codes "HDSW") (codes "lp_s_0") (joined (codes "SLEEP") (codes "lp_c_0") ∷ joined (codes "VDDG") (codes "lp_v_VDD") ∷ joined (codes "VDD") (codes "lp_w_0") ∷ joined (codes "VSS") (codes "lp_v_VSS") ∷ [])
      ∷ [];
  assigns = [];
}

abbrev pub switched_inside_modules : List ModuleView
switched_inside_modules = switched_inside_top ∷ switched_inside_core ∷ []

written_switched_inside : written (switched (with_strategies [])) in_the_block ≡ switched_inside_modules
unfolding computing
written_switched_inside = closed switched_inside_modules (written (switched (with_strategies [])) in_the_block) refl refl

-- ---- a switch in the block that feeds the top: an output port, and a wire in the top

abbrev switched_outwards_top : ModuleView
switched_outwards_top = record {
  name = codes "top";
  ports = input (codes "a") ∷ input (codes "en") ∷ output (codes "y") ∷ input (codes "lp_v_VDD") ∷ input (codes "lp_v_VSS") ∷ [];
  nets = wire (codes "n") ∷ wire (codes "lp_w_0") ∷ [];
  instances =
      instance (codes "lp_1_core") (codes "u") (joined (codes "i") (codes "a") ∷ joined (codes "o") (codes "n") ∷ joined (codes "lp_v_VDD") (codes "lp_v_VDD") ∷ joined (codes "lp_w_0") (codes "lp_w_0") ∷ joined (codes "lp_v_VSS") (codes "lp_v_VSS") ∷ joined (codes "lp_c_0") (codes "en") ∷ [])
      ∷ instance (codes "BUF") (codes "b") (joined (codes "A") (codes "n") ∷ joined (codes "Y") (codes "y") ∷ joined (codes "VDD") (codes "lp_w_0") ∷ joined (codes "VSS") (codes "lp_v_VSS") ∷ [])
      ∷ [];
  assigns = [];
}

abbrev switched_outwards_core : ModuleView
switched_outwards_core = record {
  name = codes "lp_1_core";
  ports = input (codes "i") ∷ output (codes "o") ∷ input (codes "lp_v_VDD") ∷ output (codes "lp_w_0") ∷ input (codes "lp_v_VSS") ∷ input (codes "lp_c_0") ∷ [];
  nets = [];
  instances =
      instance (codes "INV") (codes "g") (joined (codes "A") (codes "i") ∷ joined (codes "Y") (codes "o") ∷ joined (codes "VDD") (codes "lp_v_VDD") ∷ joined (codes "VSS") (codes "lp_v_VSS") ∷ [])
      ∷ instance (codes "HDSW") (codes "lp_s_0") (joined (codes "SLEEP") (codes "lp_c_0") ∷ joined (codes "VDDG") (codes "lp_v_VDD") ∷ joined (codes "VDD") (codes "lp_w_0") ∷ joined (codes "VSS") (codes "lp_v_VSS") ∷ [])
      ∷ [];
  assigns = [];
}

abbrev pub switched_outwards_modules : List ModuleView
switched_outwards_modules = switched_outwards_top ∷ switched_outwards_core ∷ []

written_switched_outwards : written (switched exchanged) in_the_block ≡ switched_outwards_modules
unfolding computing
written_switched_outwards = closed switched_outwards_modules (written (switched exchanged) in_the_block) refl refl

-- ---- supplies go through a block without cells of its own

abbrev nested_top : ModuleView
nested_top = record {
  name = codes "top";
  ports = input (codes "a") ∷ input (codes "en") ∷ output (codes "y") ∷ input (codes "lp_v_VDD") ∷ input (codes "lp_v_VSS") ∷ [];
  nets = wire (codes "n") ∷ wire (codes "lp_w_0") ∷ [];
  instances =
      instance (codes "lp_1_around") (codes "u") (joined (codes "i") (codes "a") ∷ joined (codes "o") (codes "n") ∷ joined (codes "lp_v_VDD") (codes "lp_v_VDD") ∷ joined (codes "lp_w_0") (codes "lp_w_0") ∷ joined (codes "lp_v_VSS") (codes "lp_v_VSS") ∷ joined (codes "lp_c_0") (codes "en") ∷ [])
      ∷ instance (codes "BUF") (codes "b") (joined (codes "A") (codes "n") ∷ joined (codes "Y") (codes "y") ∷ joined (codes "VDD") (codes "lp_v_VDD") ∷ joined (codes "VSS") (codes "lp_v_VSS") ∷ [])
      ∷ instance (codes "HDSW") (codes "lp_s_0") (joined (codes "SLEEP") (codes "en") ∷ joined (codes "VDDG") (codes "lp_v_VDD") ∷ joined (codes "VDD") (codes "lp_w_0") ∷ joined (codes "VSS") (codes "lp_v_VSS") ∷ [])
      ∷ [];
  assigns = [];
}

abbrev nested_around : ModuleView
nested_around = record {
  name = codes "lp_1_around";
  ports = input (codes "i") ∷ output (codes "o") ∷ input (codes "lp_v_VDD") ∷ input (codes "lp_w_0") ∷ input (codes "lp_v_VSS") ∷ input (codes "lp_c_0") ∷ [];
  nets = wire (codes "lp_n_0") ∷ [];
  instances =
      instance (codes "lp_2_core") (codes "w") (joined (codes "i") (codes "i") ∷ joined (codes "o") (codes "lp_n_0") ∷ joined (codes "lp_w_0") (codes "lp_w_0") ∷ joined (codes "lp_v_VSS") (codes "lp_v_VSS") ∷ [])
      ∷ instance (codes "ISO0") (codes "lp_i_0") (joined (codes "D") (codes "lp_n_0") ∷ joined (codes "EN") (codes "lp_c_0") ∷ joined (codes "Y") (codes "o") ∷ joined (codes "VDD") (codes "lp_v_VDD") ∷ joined (codes "VSS") (codes "lp_v_VSS") ∷ [])
      ∷ [];
  assigns = [];
}

abbrev nested_core : ModuleView
nested_core = record {
  name = codes "lp_2_core";
  ports = input (codes "i") ∷ output (codes "o") ∷ input (codes "lp_w_0") ∷ input (codes "lp_v_VSS") ∷ [];
  nets = [];
  instances =
      instance (codes "INV") (codes "g") (joined (codes "A") (codes "i") ∷ joined (codes "Y") (codes "o") ∷ joined (codes "VDD") (codes "lp_w_0") ∷ joined (codes "VSS") (codes "lp_v_VSS") ∷ [])
      ∷ [];
  assigns = [];
}

abbrev pub nested_modules : List ModuleView
nested_modules = nested_top ∷ nested_around ∷ nested_core ∷ []

written_nested : written nested any_cell ≡ nested_modules
unfolding computing
written_nested = closed nested_modules (written nested any_cell) refl refl
