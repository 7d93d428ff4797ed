-- The written netlists of small designs with controls that go up and down.
use Rattle.std.proofs.Common.{◌≡◌, List, [], ◌∷◌, refl}
use Rattle.std.specs.Prelude.{codes}
use Rattle.lp_model.specs.NetlistView.{NetBit, ModuleView}
use Rattle.lp_spec_design.specs.Nodes.{computing}
use Rattle.lp_spec_pins.proofs.Clamped.{joined}
use Rattle.lp_spec_written.proofs.Samples.{any_cell, control_from_inside, control_renamed, control_beside, control_below, control_first_above, control_across, retained, retained_by_one}
use Rattle.lp_spec_written.specs.Supplies.{wire}
use Rattle.lp_spec_written.specs.Written.{written}
use Rattle.lp_spec_written.proofs.Digits.{closed}
use Rattle.lp_spec_written.proofs.Shapes.{input, output, instance}

-- ---- a control in the block for a clamp in the top: an output port with an assign, and a wire in the top

abbrev from_inside_top : ModuleView
from_inside_top = record {
  name = codes "top";
  ports = input (codes "a") ∷ input (codes "en") ∷ output (codes "y") ∷ input (codes "lp_v_VDD") ∷ input (codes "lp_v_VDC") ∷ input (codes "lp_v_VSS") ∷ [];
  nets = wire (codes "n") ∷ wire (codes "lp_n_0") ∷ wire (codes "lp_c_0") ∷ [];
  instances =
      instance (codes "lp_1_core") (codes "u") (joined (codes "i") (codes "a") ∷ joined (codes "o") (codes "lp_n_0") ∷ joined (codes "lp_v_VDC") (codes "lp_v_VDC") ∷ joined (codes "lp_v_VSS") (codes "lp_v_VSS") ∷ joined (codes "lp_c_0") (codes "lp_c_0") ∷ [])
      ∷ instance (codes "BUF") (codes "b") (joined (codes "A") (codes "n") ∷ joined (codes "Y") (codes "y") ∷ joined (codes "VDD") (codes "lp_v_VDD") ∷ joined (codes "VSS") (codes "lp_v_VSS") ∷ [])
      ∷ instance (codes "ISO0") (codes "lp_i_0") (joined (codes "D") (codes "lp_n_0") ∷ joined (codes "EN") (codes "lp_c_0") ∷ joined (codes "Y") (codes "n") ∷ joined (codes "VDD") (codes "lp_v_VDD") ∷ joined (codes "VSS") (codes "lp_v_VSS") ∷ [])
      ∷ [];
  assigns = [];
}

abbrev from_inside_core : ModuleView
from_inside_core = record {
  name = codes "lp_1_core";
  ports = input (codes "i") ∷ output (codes "o") ∷ input (codes "lp_v_VDC") ∷ input (codes "lp_v_VSS") ∷ output (codes "lp_c_0") ∷ [];
  nets = [];
  instances =
      instance (codes "INV") (codes "g") (joined (codes "A") (codes "i") ∷ joined (codes "Y") (codes "o") ∷ joined (codes "VDD") (codes "lp_v_VDC") ∷ joined (codes "VSS") (codes "lp_v_VSS") ∷ [])
      ∷ [];
  assigns = record { left = NetBit (codes "lp_c_0") ∷ []; right = NetBit (codes "i") ∷ [] } ∷ [];
}

abbrev pub from_inside_modules : List ModuleView
from_inside_modules = from_inside_top ∷ from_inside_core ∷ []

written_from_inside : written control_from_inside any_cell ≡ from_inside_modules
unfolding computing
written_from_inside = closed from_inside_modules (written control_from_inside any_cell) refl refl

-- ---- a control's bit is renamed as every reference to it

abbrev renamed_top : ModuleView
renamed_top = record {
  name = codes "top";
  ports = input (codes "a") ∷ input (codes "en") ∷ output (codes "y") ∷ input (codes "lp_v_VDD") ∷ input (codes "lp_v_VDC") ∷ input (codes "lp_v_VSS") ∷ [];
  nets = wire (codes "n") ∷ wire (codes "lp_n_0") ∷ wire (codes "lp_c_0") ∷ [];
  instances =
      instance (codes "lp_1_core") (codes "u") (joined (codes "i") (codes "a") ∷ joined (codes "o") (codes "lp_n_0") ∷ joined (codes "lp_v_VDD") (codes "lp_v_VDD") ∷ joined (codes "lp_v_VDC") (codes "lp_v_VDC") ∷ joined (codes "lp_v_VSS") (codes "lp_v_VSS") ∷ joined (codes "lp_c_0") (codes "en") ∷ joined (codes "lp_c_1") (codes "lp_c_0") ∷ [])
      ∷ instance (codes "BUF") (codes "b") (joined (codes "A") (codes "n") ∷ joined (codes "Y") (codes "y") ∷ joined (codes "VDD") (codes "lp_v_VDD") ∷ joined (codes "VSS") (codes "lp_v_VSS") ∷ [])
      ∷ instance (codes "ISO0") (codes "lp_i_0") (joined (codes "D") (codes "lp_n_0") ∷ joined (codes "EN") (codes "lp_c_0") ∷ joined (codes "Y") (codes "n") ∷ joined (codes "VDD") (codes "lp_v_VDD") ∷ joined (codes "VSS") (codes "lp_v_VSS") ∷ [])
      ∷ [];
  assigns = [];
}

abbrev renamed_core : ModuleView
renamed_core = record {
  name = codes "lp_1_core";
  ports = input (codes "i") ∷ output (codes "o") ∷ input (codes "lp_v_VDD") ∷ input (codes "lp_v_VDC") ∷ input (codes "lp_v_VSS") ∷ input (codes "lp_c_0") ∷ output (codes "lp_c_1") ∷ [];
  nets = wire (codes "lp_n_0") ∷ [];
  instances =
      instance (codes "INV") (codes "g") (joined (codes "A") (codes "lp_n_0") ∷ joined (codes "Y") (codes "o") ∷ joined (codes "VDD") (codes "lp_v_VDC") ∷ joined (codes "VSS") (codes "lp_v_VSS") ∷ [])
      ∷ instance (codes "ISO0") (codes "lp_i_0") (joined (codes "D") (codes "i") ∷ joined (codes "EN") (codes "lp_c_0") ∷ joined (codes "Y") (codes "lp_n_0") ∷ joined (codes "VDD") (codes "lp_v_VDD") ∷ joined (codes "VSS") (codes "lp_v_VSS") ∷ [])
      ∷ [];
  assigns = record { left = NetBit (codes "lp_c_1") ∷ []; right = NetBit (codes "lp_n_0") ∷ [] } ∷ [];
}

abbrev pub renamed_modules : List ModuleView
renamed_modules = renamed_top ∷ renamed_core ∷ []

written_renamed : written control_renamed any_cell ≡ renamed_modules
unfolding computing
written_renamed = closed renamed_modules (written control_renamed any_cell) refl refl

-- ---- a control in a sibling, for a clamp in the block and one in the top: the wire in the top is used again

abbrev beside_top : ModuleView
beside_top = record {
  name = codes "top";
  ports = input (codes "a") ∷ input (codes "en") ∷ output (codes "y") ∷ input (codes "lp_v_VDD") ∷ input (codes "lp_v_VDC") ∷ input (codes "lp_v_VSS") ∷ [];
  nets = wire (codes "n") ∷ wire (codes "lp_n_0") ∷ wire (codes "lp_c_0") ∷ [];
  instances =
      instance (codes "lp_1_core") (codes "u") (joined (codes "i") (codes "a") ∷ joined (codes "o") (codes "lp_n_0") ∷ joined (codes "lp_v_VDD") (codes "lp_v_VDD") ∷ joined (codes "lp_v_VDC") (codes "lp_v_VDC") ∷ joined (codes "lp_v_VSS") (codes "lp_v_VSS") ∷ joined (codes "lp_c_0") (codes "lp_c_0") ∷ [])
      ∷ instance (codes "BUF") (codes "b") (joined (codes "A") (codes "n") ∷ joined (codes "Y") (codes "y") ∷ joined (codes "VDD") (codes "lp_v_VDD") ∷ joined (codes "VSS") (codes "lp_v_VSS") ∷ [])
      ∷ instance (codes "lp_2_source") (codes "w") (joined (codes "s") (codes "en") ∷ joined (codes "lp_c_0") (codes "lp_c_0") ∷ [])
      ∷ instance (codes "ISO0") (codes "lp_i_0") (joined (codes "D") (codes "lp_n_0") ∷ joined (codes "EN") (codes "lp_c_0") ∷ joined (codes "Y") (codes "n") ∷ joined (codes "VDD") (codes "lp_v_VDD") ∷ joined (codes "VSS") (codes "lp_v_VSS") ∷ [])
      ∷ [];
  assigns = [];
}

abbrev beside_core : ModuleView
beside_core = record {
  name = codes "lp_1_core";
  ports = input (codes "i") ∷ output (codes "o") ∷ input (codes "lp_v_VDD") ∷ input (codes "lp_v_VDC") ∷ input (codes "lp_v_VSS") ∷ input (codes "lp_c_0") ∷ [];
  nets = wire (codes "lp_n_0") ∷ [];
  instances =
      instance (codes "INV") (codes "g") (joined (codes "A") (codes "i") ∷ joined (codes "Y") (codes "lp_n_0") ∷ joined (codes "VDD") (codes "lp_v_VDC") ∷ joined (codes "VSS") (codes "lp_v_VSS") ∷ [])
      ∷ instance (codes "ISO0") (codes "lp_i_0") (joined (codes "D") (codes "lp_n_0") ∷ joined (codes "EN") (codes "lp_c_0") ∷ joined (codes "Y") (codes "o") ∷ joined (codes "VDD") (codes "lp_v_VDD") ∷ joined (codes "VSS") (codes "lp_v_VSS") ∷ [])
      ∷ [];
  assigns = [];
}

abbrev beside_source : ModuleView
beside_source = record {
  name = codes "lp_2_source";
  ports = input (codes "s") ∷ output (codes "lp_c_0") ∷ [];
  nets = [];
  instances = [];
  assigns = record { left = NetBit (codes "lp_c_0") ∷ []; right = NetBit (codes "s") ∷ [] } ∷ [];
}

abbrev pub beside_modules : List ModuleView
beside_modules = beside_top ∷ beside_core ∷ beside_source ∷ []

written_beside : written control_beside any_cell ≡ beside_modules
unfolding computing
written_beside = closed beside_modules (written control_beside any_cell) refl refl

-- ---- a control below the block, for a clamp in the block and then one in the top: the wire in the block gets a port, joined by an assign

abbrev below_top : ModuleView
below_top = record {
  name = codes "top";
  ports = input (codes "a") ∷ input (codes "en") ∷ output (codes "y") ∷ input (codes "lp_v_VDD") ∷ input (codes "lp_v_VDC") ∷ input (codes "lp_v_VSS") ∷ [];
  nets = wire (codes "n") ∷ wire (codes "lp_n_0") ∷ wire (codes "lp_c_0") ∷ [];
  instances =
      instance (codes "lp_1_core") (codes "u") (joined (codes "s") (codes "en") ∷ joined (codes "i") (codes "a") ∷ joined (codes "o") (codes "lp_n_0") ∷ joined (codes "lp_v_VDD") (codes "lp_v_VDD") ∷ joined (codes "lp_v_VDC") (codes "lp_v_VDC") ∷ joined (codes "lp_v_VSS") (codes "lp_v_VSS") ∷ joined (codes "lp_c_1") (codes "lp_c_0") ∷ [])
      ∷ instance (codes "BUF") (codes "b") (joined (codes "A") (codes "n") ∷ joined (codes "Y") (codes "y") ∷ joined (codes "VDD") (codes "lp_v_VDD") ∷ joined (codes "VSS") (codes "lp_v_VSS") ∷ [])
      ∷ instance (codes "ISO0") (codes "lp_i_0") (joined (codes "D") (codes "lp_n_0") ∷ joined (codes "EN") (codes "lp_c_0") ∷ joined (codes "Y") (codes "n") ∷ joined (codes "VDD") (codes "lp_v_VDD") ∷ joined (codes "VSS") (codes "lp_v_VSS") ∷ [])
      ∷ [];
  assigns = [];
}

abbrev below_core : ModuleView
below_core = record {
  name = codes "lp_1_core";
  ports = input (codes "s") ∷ input (codes "i") ∷ output (codes "o") ∷ input (codes "lp_v_VDD") ∷ input (codes "lp_v_VDC") ∷ input (codes "lp_v_VSS") ∷ output (codes "lp_c_1") ∷ [];
  nets = wire (codes "lp_n_0") ∷ wire (codes "lp_c_0") ∷ [];
  instances =
      instance (codes "INV") (codes "g") (joined (codes "A") (codes "lp_n_0") ∷ joined (codes "Y") (codes "o") ∷ joined (codes "VDD") (codes "lp_v_VDC") ∷ joined (codes "VSS") (codes "lp_v_VSS") ∷ [])
      ∷ instance (codes "lp_2_source") (codes "w") (joined (codes "s") (codes "s") ∷ joined (codes "lp_c_0") (codes "lp_c_0") ∷ [])
      ∷ instance (codes "ISO0") (codes "lp_i_0") (joined (codes "D") (codes "i") ∷ joined (codes "EN") (codes "lp_c_0") ∷ joined (codes "Y") (codes "lp_n_0") ∷ joined (codes "VDD") (codes "lp_v_VDD") ∷ joined (codes "VSS") (codes "lp_v_VSS") ∷ [])
      ∷ [];
  assigns = record { left = NetBit (codes "lp_c_1") ∷ []; right = NetBit (codes "lp_c_0") ∷ [] } ∷ [];
}

abbrev below_source : ModuleView
below_source = record {
  name = codes "lp_2_source";
  ports = input (codes "s") ∷ output (codes "lp_c_0") ∷ [];
  nets = [];
  instances = [];
  assigns = record { left = NetBit (codes "lp_c_0") ∷ []; right = NetBit (codes "s") ∷ [] } ∷ [];
}

abbrev pub below_modules : List ModuleView
below_modules = below_top ∷ below_core ∷ below_source ∷ []

written_below : written control_below any_cell ≡ below_modules
unfolding computing
written_below = closed below_modules (written control_below any_cell) refl refl

-- ---- the other way round: the port in the block is there, and no wire is made

abbrev first_above_top : ModuleView
first_above_top = record {
  name = codes "top";
  ports = input (codes "a") ∷ input (codes "en") ∷ output (codes "y") ∷ input (codes "lp_v_VDD") ∷ input (codes "lp_v_VDC") ∷ input (codes "lp_v_VSS") ∷ [];
  nets = wire (codes "n") ∷ wire (codes "lp_n_0") ∷ wire (codes "lp_c_0") ∷ [];
  instances =
      instance (codes "lp_1_core") (codes "u") (joined (codes "s") (codes "en") ∷ joined (codes "i") (codes "lp_n_0") ∷ joined (codes "o") (codes "n") ∷ joined (codes "lp_v_VDD") (codes "lp_v_VDD") ∷ joined (codes "lp_v_VDC") (codes "lp_v_VDC") ∷ joined (codes "lp_v_VSS") (codes "lp_v_VSS") ∷ joined (codes "lp_c_0") (codes "lp_c_0") ∷ [])
      ∷ instance (codes "BUF") (codes "b") (joined (codes "A") (codes "n") ∷ joined (codes "Y") (codes "y") ∷ joined (codes "VDD") (codes "lp_v_VDD") ∷ joined (codes "VSS") (codes "lp_v_VSS") ∷ [])
      ∷ instance (codes "ISO0") (codes "lp_i_0") (joined (codes "D") (codes "a") ∷ joined (codes "EN") (codes "lp_c_0") ∷ joined (codes "Y") (codes "lp_n_0") ∷ joined (codes "VDD") (codes "lp_v_VDD") ∷ joined (codes "VSS") (codes "lp_v_VSS") ∷ [])
      ∷ [];
  assigns = [];
}

abbrev first_above_core : ModuleView
first_above_core = record {
  name = codes "lp_1_core";
  ports = input (codes "s") ∷ input (codes "i") ∷ output (codes "o") ∷ input (codes "lp_v_VDD") ∷ input (codes "lp_v_VDC") ∷ input (codes "lp_v_VSS") ∷ output (codes "lp_c_0") ∷ [];
  nets = wire (codes "lp_n_0") ∷ [];
  instances =
      instance (codes "INV") (codes "g") (joined (codes "A") (codes "i") ∷ joined (codes "Y") (codes "lp_n_0") ∷ joined (codes "VDD") (codes "lp_v_VDC") ∷ joined (codes "VSS") (codes "lp_v_VSS") ∷ [])
      ∷ instance (codes "lp_2_source") (codes "w") (joined (codes "s") (codes "s") ∷ joined (codes "lp_c_0") (codes "lp_c_0") ∷ [])
      ∷ instance (codes "ISO0") (codes "lp_i_0") (joined (codes "D") (codes "lp_n_0") ∷ joined (codes "EN") (codes "lp_c_0") ∷ joined (codes "Y") (codes "o") ∷ joined (codes "VDD") (codes "lp_v_VDD") ∷ joined (codes "VSS") (codes "lp_v_VSS") ∷ [])
      ∷ [];
  assigns = [];
}

abbrev below_source_again : ModuleView
below_source_again = record {
  name = codes "lp_2_source";
  ports = input (codes "s") ∷ output (codes "lp_c_0") ∷ [];
  nets = [];
  instances = [];
  assigns = record { left = NetBit (codes "lp_c_0") ∷ []; right = NetBit (codes "s") ∷ [] } ∷ [];
}

abbrev pub first_above_modules : List ModuleView
first_above_modules = first_above_top ∷ first_above_core ∷ below_source_again ∷ []

written_first_above : written control_first_above any_cell ≡ first_above_modules
unfolding computing
written_first_above = closed first_above_modules (written control_first_above any_cell) refl refl

-- ---- a register with retention: the chosen cell, with its save and its restore pin

abbrev retained_top : ModuleView
retained_top = record {
  name = codes "top";
  ports = input (codes "a") ∷ input (codes "en") ∷ output (codes "y") ∷ input (codes "ck") ∷ input (codes "sv") ∷ input (codes "rs") ∷ input (codes "lp_v_VDD") ∷ input (codes "lp_v_VDC") ∷ input (codes "lp_v_VSS") ∷ [];
  nets = wire (codes "n") ∷ [];
  instances =
      instance (codes "lp_1_core") (codes "u") (joined (codes "i") (codes "a") ∷ joined (codes "ck") (codes "ck") ∷ joined (codes "o") (codes "n") ∷ joined (codes "lp_v_VDD") (codes "lp_v_VDD") ∷ joined (codes "lp_v_VDC") (codes "lp_v_VDC") ∷ joined (codes "lp_v_VSS") (codes "lp_v_VSS") ∷ joined (codes "lp_c_0") (codes "sv") ∷ joined (codes "lp_c_1") (codes "rs") ∷ [])
      ∷ instance (codes "BUF") (codes "b") (joined (codes "A") (codes "n") ∷ joined (codes "Y") (codes "y") ∷ joined (codes "VDD") (codes "lp_v_VDD") ∷ joined (codes "VSS") (codes "lp_v_VSS") ∷ [])
      ∷ [];
  assigns = [];
}

abbrev retained_core : ModuleView
retained_core = record {
  name = codes "lp_1_core";
  ports = input (codes "ck") ∷ input (codes "i") ∷ output (codes "o") ∷ input (codes "lp_v_VDD") ∷ input (codes "lp_v_VDC") ∷ input (codes "lp_v_VSS") ∷ input (codes "lp_c_0") ∷ input (codes "lp_c_1") ∷ [];
  nets = [];
  instances =
      instance (codes "RDFF") (codes "r") (joined (codes "D") (codes "i") ∷ joined (codes "CK") (codes "ck") ∷ joined (codes "Q") (codes "o") ∷ joined (codes "SAVE") (codes "lp_c_0") ∷ joined (codes "RST") (codes "lp_c_1") ∷ joined (codes "VDD") (codes "lp_v_VDC") ∷ joined (codes "VSS") (codes "lp_v_VSS") ∷ joined (codes "VDDB") (codes "lp_v_VDD") ∷ [])
      ∷ [];
  assigns = [];
}

abbrev pub retained_modules : List ModuleView
retained_modules = retained_top ∷ retained_core ∷ []

written_retained : written retained any_cell ≡ retained_modules
unfolding computing
written_retained = closed retained_modules (written retained any_cell) refl refl

-- ---- a control in one block for two clamps in the other: it goes up by ports, and comes down by ports that the second clamp uses too

abbrev across_top : ModuleView
across_top = record {
  name = codes "top";
  ports = input (codes "a") ∷ input (codes "en") ∷ output (codes "y") ∷ output (codes "z") ∷ input (codes "lp_v_VDD") ∷ input (codes "lp_v_VDC") ∷ input (codes "lp_v_VSS") ∷ [];
  nets = wire (codes "n") ∷ wire (codes "lp_c_0") ∷ [];
  instances =
      instance (codes "lp_1_around") (codes "u") (joined (codes "i") (codes "a") ∷ joined (codes "o") (codes "n") ∷ joined (codes "lp_v_VDD") (codes "lp_v_VDD") ∷ joined (codes "lp_v_VSS") (codes "lp_v_VSS") ∷ joined (codes "lp_c_0") (codes "lp_c_0") ∷ [])
      ∷ instance (codes "BUF") (codes "b") (joined (codes "A") (codes "n") ∷ joined (codes "Y") (codes "y") ∷ joined (codes "VDD") (codes "lp_v_VDD") ∷ joined (codes "VSS") (codes "lp_v_VSS") ∷ [])
      ∷ instance (codes "lp_3_around") (codes "v") (joined (codes "i") (codes "a") ∷ joined (codes "o") (codes "z") ∷ joined (codes "lp_v_VDD") (codes "lp_v_VDD") ∷ joined (codes "lp_v_VDC") (codes "lp_v_VDC") ∷ joined (codes "lp_v_VSS") (codes "lp_v_VSS") ∷ joined (codes "lp_c_0") (codes "lp_c_0") ∷ [])
      ∷ [];
  assigns = [];
}

abbrev across_u : ModuleView
across_u = record {
  name = codes "lp_1_around";
  ports = input (codes "i") ∷ output (codes "o") ∷ input (codes "lp_v_VDD") ∷ input (codes "lp_v_VSS") ∷ output (codes "lp_c_0") ∷ [];
  nets = [];
  instances =
      instance (codes "lp_2_core") (codes "w") (joined (codes "i") (codes "i") ∷ joined (codes "o") (codes "o") ∷ joined (codes "lp_v_VDD") (codes "lp_v_VDD") ∷ joined (codes "lp_v_VSS") (codes "lp_v_VSS") ∷ joined (codes "lp_c_0") (codes "lp_c_0") ∷ [])
      ∷ [];
  assigns = [];
}

abbrev across_uw : ModuleView
across_uw = record {
  name = codes "lp_2_core";
  ports = input (codes "i") ∷ output (codes "o") ∷ input (codes "lp_v_VDD") ∷ input (codes "lp_v_VSS") ∷ output (codes "lp_c_0") ∷ [];
  nets = [];
  instances =
      instance (codes "INV") (codes "g") (joined (codes "A") (codes "i") ∷ joined (codes "Y") (codes "o") ∷ joined (codes "VDD") (codes "lp_v_VDD") ∷ joined (codes "VSS") (codes "lp_v_VSS") ∷ [])
      ∷ [];
  assigns = record { left = NetBit (codes "lp_c_0") ∷ []; right = NetBit (codes "i") ∷ [] } ∷ [];
}

abbrev across_v : ModuleView
across_v = record {
  name = codes "lp_3_around";
  ports = input (codes "i") ∷ output (codes "o") ∷ input (codes "lp_v_VDD") ∷ input (codes "lp_v_VDC") ∷ input (codes "lp_v_VSS") ∷ input (codes "lp_c_0") ∷ [];
  nets = wire (codes "lp_n_0") ∷ [];
  instances =
      instance (codes "lp_4_core") (codes "w") (joined (codes "i") (codes "i") ∷ joined (codes "o") (codes "lp_n_0") ∷ joined (codes "lp_v_VDD") (codes "lp_v_VDD") ∷ joined (codes "lp_v_VDC") (codes "lp_v_VDC") ∷ joined (codes "lp_v_VSS") (codes "lp_v_VSS") ∷ joined (codes "lp_c_0") (codes "lp_c_0") ∷ [])
      ∷ instance (codes "ISO0") (codes "lp_i_0") (joined (codes "D") (codes "lp_n_0") ∷ joined (codes "EN") (codes "lp_c_0") ∷ joined (codes "Y") (codes "o") ∷ joined (codes "VDD") (codes "lp_v_VDD") ∷ joined (codes "VSS") (codes "lp_v_VSS") ∷ [])
      ∷ [];
  assigns = [];
}

abbrev across_vw : ModuleView
across_vw = record {
  name = codes "lp_4_core";
  ports = input (codes "i") ∷ output (codes "o") ∷ input (codes "lp_v_VDD") ∷ input (codes "lp_v_VDC") ∷ input (codes "lp_v_VSS") ∷ input (codes "lp_c_0") ∷ [];
  nets = wire (codes "lp_n_0") ∷ [];
  instances =
      instance (codes "INV") (codes "g") (joined (codes "A") (codes "i") ∷ joined (codes "Y") (codes "lp_n_0") ∷ joined (codes "VDD") (codes "lp_v_VDC") ∷ joined (codes "VSS") (codes "lp_v_VSS") ∷ [])
      ∷ instance (codes "ISO0") (codes "lp_i_0") (joined (codes "D") (codes "lp_n_0") ∷ joined (codes "EN") (codes "lp_c_0") ∷ joined (codes "Y") (codes "o") ∷ joined (codes "VDD") (codes "lp_v_VDD") ∷ joined (codes "VSS") (codes "lp_v_VSS") ∷ [])
      ∷ [];
  assigns = [];
}

abbrev pub across_modules : List ModuleView
across_modules = across_top ∷ across_u ∷ across_uw ∷ across_v ∷ across_vw ∷ []

written_across : written control_across any_cell ≡ across_modules
unfolding computing
written_across = closed across_modules (written control_across any_cell) refl refl

-- ---- one pin that saves and restores

abbrev by_one_top : ModuleView
by_one_top = record {
  name = codes "top";
  ports = input (codes "a") ∷ input (codes "en") ∷ output (codes "y") ∷ input (codes "ck") ∷ input (codes "sv") ∷ input (codes "rs") ∷ input (codes "lp_v_VDD") ∷ input (codes "lp_v_VDC") ∷ input (codes "lp_v_VSS") ∷ [];
  nets = wire (codes "n") ∷ [];
  instances =
      instance (codes "lp_1_core") (codes "u") (joined (codes "i") (codes "a") ∷ joined (codes "ck") (codes "ck") ∷ joined (codes "o") (codes "n") ∷ joined (codes "lp_v_VDD") (codes "lp_v_VDD") ∷ joined (codes "lp_v_VDC") (codes "lp_v_VDC") ∷ joined (codes "lp_v_VSS") (codes "lp_v_VSS") ∷ joined (codes "lp_c_0") (codes "sv") ∷ [])
      ∷ instance (codes "BUF") (codes "b") (joined (codes "A") (codes "n") ∷ joined (codes "Y") (codes "y") ∷ joined (codes "VDD") (codes "lp_v_VDD") ∷ joined (codes "VSS") (codes "lp_v_VSS") ∷ [])
      ∷ [];
  assigns = [];
}

abbrev by_one_core : ModuleView
by_one_core = record {
  name = codes "lp_1_core";
  ports = input (codes "ck") ∷ input (codes "i") ∷ output (codes "o") ∷ input (codes "lp_v_VDD") ∷ input (codes "lp_v_VDC") ∷ input (codes "lp_v_VSS") ∷ input (codes "lp_c_0") ∷ [];
  nets = [];
  instances =
      instance (codes "SDFF") (codes "r") (joined (codes "D") (codes "i") ∷ joined (codes "CK") (codes "ck") ∷ joined (codes "Q") (codes "o") ∷ joined (codes "SR") (codes "lp_c_0") ∷ joined (codes "VDD") (codes "lp_v_VDC") ∷ joined (codes "VSS") (codes "lp_v_VSS") ∷ joined (codes "VDDB") (codes "lp_v_VDD") ∷ [])
      ∷ [];
  assigns = [];
}

abbrev pub by_one_modules : List ModuleView
by_one_modules = by_one_top ∷ by_one_core ∷ []

written_by_one : written retained_by_one any_cell ≡ by_one_modules
unfolding computing
written_by_one = closed by_one_modules (written retained_by_one any_cell) refl refl
