-- The written netlists of small designs with clamps and shifters.
use Rattle.std.proofs.Common.{◌≡◌, List, [], ◌∷◌, cond, length, false, Some, None, refl, ap}
use Rattle.std.specs.Prelude.{codes, nat_lt}
use Rattle.lp_model.specs.declared.fault.netlist.NetlistLimit.TheVariants as limits
use Rattle.lp_model.specs.declared.netlist.Direction.TheVariants.{Output}
use Rattle.lp_model.specs.NetlistView.{NetBit, SelectBit, ConstBit, ModuleView}
use Rattle.lp_spec_design.specs.Nodes.{computing}
use Rattle.lp_spec_design.proofs.Samples.{port}
use Rattle.lp_spec_pins.proofs.Clamped.{joined, outer, inner}
use Rattle.lp_spec_written.proofs.Samples.{any_cell, bare, clamped, read_twice, lower_block, clamped_outside, clamped_inside, fixed_input, wide_outside, wide_inside, higher_block, two_levels, fed, twins, top_output}
use Rattle.lp_spec_written.specs.Supplies.{wire, joined_to}
use Rattle.lp_spec_faults.specs.Lines.{first_of}
use Rattle.lp_spec_written.specs.Written.{written}
use Rattle.lp_spec_written.specs.Limits.{added_names, name_limit}
use Rattle.lp_spec_written.specs.Shared.{shared}
use Rattle.lp_spec_written.proofs.Digits.{closed}
use Rattle.lp_spec_written.proofs.Shapes.{input, output, instance}

-- ---- no intent is added: each module has the supplies that it uses

abbrev bare_top : ModuleView
bare_top = record {
  name = codes "top";
  ports = input (codes "a") ∷ input (codes "en") ∷ output (codes "y") ∷ input (codes "lp_v_VDD") ∷ input (codes "lp_v_VDC") ∷ input (codes "lp_v_VSS") ∷ [];
  nets = wire (codes "n") ∷ [];
  instances =
      instance (codes "lp_1_core") (codes "u") (joined (codes "i") (codes "a") ∷ joined (codes "o") (codes "n") ∷ joined (codes "lp_v_VDC") (codes "lp_v_VDC") ∷ joined (codes "lp_v_VSS") (codes "lp_v_VSS") ∷ [])
      ∷ instance (codes "BUF") (codes "b") (joined (codes "A") (codes "n") ∷ joined (codes "Y") (codes "y") ∷ joined (codes "VDD") (codes "lp_v_VDD") ∷ joined (codes "VSS") (codes "lp_v_VSS") ∷ [])
      ∷ [];
  assigns = [];
}

abbrev bare_core : ModuleView
bare_core = record {
  name = codes "lp_1_core";
  ports = input (codes "i") ∷ output (codes "o") ∷ input (codes "lp_v_VDC") ∷ input (codes "lp_v_VSS") ∷ [];
  nets = [];
  instances =
      instance (codes "INV") (codes "g") (joined (codes "A") (codes "i") ∷ joined (codes "Y") (codes "o") ∷ joined (codes "VDD") (codes "lp_v_VDC") ∷ joined (codes "VSS") (codes "lp_v_VSS") ∷ [])
      ∷ [];
  assigns = [];
}

abbrev pub bare_modules : List ModuleView
bare_modules = bare_top ∷ bare_core ∷ []

written_bare : written bare any_cell ≡ bare_modules
unfolding computing
written_bare = closed bare_modules (written bare any_cell) refl refl

-- ---- a clamp in the block at its output

abbrev pub clamped_modules : List ModuleView
clamped_modules = outer ∷ inner ∷ []

pub written_clamped : written clamped any_cell ≡ clamped_modules
unfolding computing
written_clamped = closed clamped_modules (written clamped any_cell) refl refl

-- the block, three supply ports, a control, a net and the clamp
added_to_clamped : length (added_names clamped_modules) ≡ 7
unfolding computing
added_to_clamped = refl

few_names : first_of (name_limit clamped any_cell) ≡ None
few_names = ap (λ modules. cond (nat_lt 1000000000 (length (added_names (shared modules)))) (Some limits.Names) None) written_clamped

-- ---- who reads the output in the block reads it before the clamp

abbrev read_twice_top : ModuleView
read_twice_top = record {
  name = codes "top";
  ports = output (codes "z") ∷ input (codes "a") ∷ input (codes "en") ∷ output (codes "y") ∷ input (codes "lp_v_VDD") ∷ input (codes "lp_v_VDC") ∷ input (codes "lp_v_VSS") ∷ [];
  nets = wire (codes "n") ∷ [];
  instances =
      instance (codes "lp_1_core") (codes "u") (joined (codes "i") (codes "a") ∷ joined (codes "o") (codes "n") ∷ joined (codes "p") (codes "z") ∷ joined (codes "lp_v_VDD") (codes "lp_v_VDD") ∷ joined (codes "lp_v_VDC") (codes "lp_v_VDC") ∷ joined (codes "lp_v_VSS") (codes "lp_v_VSS") ∷ joined (codes "lp_c_0") (codes "en") ∷ [])
      ∷ instance (codes "BUF") (codes "b") (joined (codes "A") (codes "n") ∷ joined (codes "Y") (codes "y") ∷ joined (codes "VDD") (codes "lp_v_VDD") ∷ joined (codes "VSS") (codes "lp_v_VSS") ∷ [])
      ∷ [];
  assigns = [];
}

abbrev read_twice_core : ModuleView
read_twice_core = record {
  name = codes "lp_1_core";
  ports = output (codes "p") ∷ input (codes "i") ∷ output (codes "o") ∷ input (codes "lp_v_VDD") ∷ input (codes "lp_v_VDC") ∷ input (codes "lp_v_VSS") ∷ input (codes "lp_c_0") ∷ [];
  nets = wire (codes "lp_n_0") ∷ [];
  instances =
      instance (codes "INV") (codes "h") (joined (codes "A") (codes "lp_n_0") ∷ joined (codes "Y") (codes "p") ∷ joined (codes "VDD") (codes "lp_v_VDC") ∷ joined (codes "VSS") (codes "lp_v_VSS") ∷ [])
      ∷ instance (codes "INV") (codes "g") (joined (codes "A") (codes "i") ∷ joined (codes "Y") (codes "lp_n_0") ∷ joined (codes "VDD") (codes "lp_v_VDC") ∷ joined (codes "VSS") (codes "lp_v_VSS") ∷ [])
      ∷ instance (codes "ISO0") (codes "lp_i_0") (joined (codes "D") (codes "lp_n_0") ∷ joined (codes "EN") (codes "lp_c_0") ∷ joined (codes "Y") (codes "o") ∷ joined (codes "VDD") (codes "lp_v_VDD") ∷ joined (codes "VSS") (codes "lp_v_VSS") ∷ [])
      ∷ [];
  assigns = [];
}

abbrev pub read_twice_modules : List ModuleView
read_twice_modules = read_twice_top ∷ read_twice_core ∷ []

written_read_twice : written read_twice any_cell ≡ read_twice_modules
unfolding computing
written_read_twice = closed read_twice_modules (written read_twice any_cell) refl refl

-- ---- a shifter before the clamp

abbrev shifted_core : ModuleView
shifted_core = record {
  name = codes "lp_1_core";
  ports = input (codes "i") ∷ output (codes "o") ∷ input (codes "lp_v_VDD") ∷ input (codes "lp_v_VDC") ∷ input (codes "lp_v_VSS") ∷ input (codes "lp_c_0") ∷ [];
  nets = wire (codes "lp_n_0") ∷ wire (codes "lp_n_1") ∷ [];
  instances =
      instance (codes "INV") (codes "g") (joined (codes "A") (codes "i") ∷ joined (codes "Y") (codes "lp_n_0") ∷ joined (codes "VDD") (codes "lp_v_VDC") ∷ joined (codes "VSS") (codes "lp_v_VSS") ∷ [])
      ∷ instance (codes "LSLH") (codes "lp_l_0") (joined (codes "A") (codes "lp_n_0") ∷ joined (codes "Y") (codes "lp_n_1") ∷ joined (codes "VDDI") (codes "lp_v_VDC") ∷ joined (codes "VDDO") (codes "lp_v_VDD") ∷ joined (codes "VSS") (codes "lp_v_VSS") ∷ [])
      ∷ instance (codes "ISO0") (codes "lp_i_0") (joined (codes "D") (codes "lp_n_1") ∷ joined (codes "EN") (codes "lp_c_0") ∷ joined (codes "Y") (codes "o") ∷ joined (codes "VDD") (codes "lp_v_VDD") ∷ joined (codes "VSS") (codes "lp_v_VSS") ∷ [])
      ∷ [];
  assigns = [];
}

abbrev pub shifted_modules : List ModuleView
shifted_modules = outer ∷ shifted_core ∷ []

written_shifted : written lower_block any_cell ≡ shifted_modules
unfolding computing
written_shifted = closed shifted_modules (written lower_block any_cell) refl refl

-- ---- a clamp in the parent: the connection becomes a net

abbrev outside_top : ModuleView
outside_top = record {
  name = codes "top";
  ports = input (codes "a") ∷ input (codes "en") ∷ output (codes "y") ∷ input (codes "lp_v_VDD") ∷ input (codes "lp_v_VDC") ∷ input (codes "lp_v_VSS") ∷ [];
  nets = wire (codes "n") ∷ wire (codes "lp_n_0") ∷ [];
  instances =
      instance (codes "lp_1_core") (codes "u") (joined (codes "i") (codes "a") ∷ joined (codes "o") (codes "lp_n_0") ∷ joined (codes "lp_v_VDC") (codes "lp_v_VDC") ∷ joined (codes "lp_v_VSS") (codes "lp_v_VSS") ∷ [])
      ∷ instance (codes "BUF") (codes "b") (joined (codes "A") (codes "n") ∷ joined (codes "Y") (codes "y") ∷ joined (codes "VDD") (codes "lp_v_VDD") ∷ joined (codes "VSS") (codes "lp_v_VSS") ∷ [])
      ∷ instance (codes "ISO0") (codes "lp_i_0") (joined (codes "D") (codes "lp_n_0") ∷ joined (codes "EN") (codes "en") ∷ joined (codes "Y") (codes "n") ∷ joined (codes "VDD") (codes "lp_v_VDD") ∷ joined (codes "VSS") (codes "lp_v_VSS") ∷ [])
      ∷ [];
  assigns = [];
}

abbrev outside_core : ModuleView
outside_core = record {
  name = codes "lp_1_core";
  ports = input (codes "i") ∷ output (codes "o") ∷ input (codes "lp_v_VDC") ∷ input (codes "lp_v_VSS") ∷ [];
  nets = [];
  instances =
      instance (codes "INV") (codes "g") (joined (codes "A") (codes "i") ∷ joined (codes "Y") (codes "o") ∷ joined (codes "VDD") (codes "lp_v_VDC") ∷ joined (codes "VSS") (codes "lp_v_VSS") ∷ [])
      ∷ [];
  assigns = [];
}

abbrev pub outside_modules : List ModuleView
outside_modules = outside_top ∷ outside_core ∷ []

written_outside : written clamped_outside any_cell ≡ outside_modules
unfolding computing
written_outside = closed outside_modules (written clamped_outside any_cell) refl refl

-- ---- a clamp on each side of an input: the first one reads what stood there, and who reads the input reads the last net

abbrev inside_top : ModuleView
inside_top = record {
  name = codes "top";
  ports = input (codes "a") ∷ input (codes "en") ∷ output (codes "y") ∷ input (codes "lp_v_VDD") ∷ input (codes "lp_v_VDC") ∷ input (codes "lp_v_VSS") ∷ [];
  nets = wire (codes "n") ∷ wire (codes "lp_n_0") ∷ [];
  instances =
      instance (codes "lp_1_core") (codes "u") (joined (codes "i") (codes "lp_n_0") ∷ joined (codes "o") (codes "n") ∷ joined (codes "lp_v_VDD") (codes "lp_v_VDD") ∷ joined (codes "lp_v_VDC") (codes "lp_v_VDC") ∷ joined (codes "lp_v_VSS") (codes "lp_v_VSS") ∷ joined (codes "lp_c_0") (codes "en") ∷ [])
      ∷ instance (codes "BUF") (codes "b") (joined (codes "A") (codes "n") ∷ joined (codes "Y") (codes "y") ∷ joined (codes "VDD") (codes "lp_v_VDD") ∷ joined (codes "VSS") (codes "lp_v_VSS") ∷ [])
      ∷ instance (codes "ISO0") (codes "lp_i_0") (joined (codes "D") (codes "a") ∷ joined (codes "EN") (codes "en") ∷ joined (codes "Y") (codes "lp_n_0") ∷ joined (codes "VDD") (codes "lp_v_VDD") ∷ joined (codes "VSS") (codes "lp_v_VSS") ∷ [])
      ∷ [];
  assigns = [];
}

abbrev inside_core : ModuleView
inside_core = record {
  name = codes "lp_1_core";
  ports = input (codes "i") ∷ output (codes "o") ∷ input (codes "lp_v_VDD") ∷ input (codes "lp_v_VDC") ∷ input (codes "lp_v_VSS") ∷ input (codes "lp_c_0") ∷ [];
  nets = wire (codes "lp_n_0") ∷ [];
  instances =
      instance (codes "INV") (codes "g") (joined (codes "A") (codes "lp_n_0") ∷ joined (codes "Y") (codes "o") ∷ joined (codes "VDD") (codes "lp_v_VDC") ∷ joined (codes "VSS") (codes "lp_v_VSS") ∷ [])
      ∷ instance (codes "ISO0") (codes "lp_i_0") (joined (codes "D") (codes "i") ∷ joined (codes "EN") (codes "lp_c_0") ∷ joined (codes "Y") (codes "lp_n_0") ∷ joined (codes "VDD") (codes "lp_v_VDD") ∷ joined (codes "VSS") (codes "lp_v_VSS") ∷ [])
      ∷ [];
  assigns = [];
}

abbrev pub inside_modules : List ModuleView
inside_modules = inside_top ∷ inside_core ∷ []

written_inside : written clamped_inside any_cell ≡ inside_modules
unfolding computing
written_inside = closed inside_modules (written clamped_inside any_cell) refl refl

-- ---- a constant at an input is led to the clamp in the parent; connections by position get the names of the ports

abbrev fixed_top : ModuleView
fixed_top = record {
  name = codes "top";
  ports = input (codes "a") ∷ input (codes "en") ∷ output (codes "y") ∷ input (codes "lp_v_VDD") ∷ input (codes "lp_v_VDC") ∷ input (codes "lp_v_VSS") ∷ [];
  nets = wire (codes "n") ∷ wire (codes "lp_n_0") ∷ wire (codes "lp_n_1") ∷ [];
  instances =
      instance (codes "lp_1_core") (codes "u") (joined (codes "i") (codes "lp_n_1") ∷ joined (codes "o") (codes "n") ∷ joined (codes "lp_v_VDC") (codes "lp_v_VDC") ∷ joined (codes "lp_v_VSS") (codes "lp_v_VSS") ∷ [])
      ∷ instance (codes "BUF") (codes "b") (joined (codes "A") (codes "n") ∷ joined (codes "Y") (codes "y") ∷ joined (codes "VDD") (codes "lp_v_VDD") ∷ joined (codes "VSS") (codes "lp_v_VSS") ∷ [])
      ∷ instance (codes "ISO0") (codes "lp_i_0") (joined (codes "D") (codes "lp_n_0") ∷ joined (codes "EN") (codes "en") ∷ joined (codes "Y") (codes "lp_n_1") ∷ joined (codes "VDD") (codes "lp_v_VDD") ∷ joined (codes "VSS") (codes "lp_v_VSS") ∷ [])
      ∷ [];
  assigns = record { left = NetBit (codes "lp_n_0") ∷ []; right = ConstBit false ∷ [] } ∷ [];
}

abbrev fixed_core : ModuleView
fixed_core = record {
  name = codes "lp_1_core";
  ports = input (codes "i") ∷ output (codes "o") ∷ input (codes "lp_v_VDC") ∷ input (codes "lp_v_VSS") ∷ [];
  nets = [];
  instances =
      instance (codes "INV") (codes "g") (joined (codes "A") (codes "i") ∷ joined (codes "Y") (codes "o") ∷ joined (codes "VDD") (codes "lp_v_VDC") ∷ joined (codes "VSS") (codes "lp_v_VSS") ∷ [])
      ∷ [];
  assigns = [];
}

abbrev pub fixed_modules : List ModuleView
fixed_modules = fixed_top ∷ fixed_core ∷ []

written_fixed : written fixed_input any_cell ≡ fixed_modules
unfolding computing
written_fixed = closed fixed_modules (written fixed_input any_cell) refl refl

-- ---- one bit of an output: in the parent only that bit of the connection changes

abbrev wide_outside_top : ModuleView
wide_outside_top = record {
  name = codes "top";
  ports = input (codes "a") ∷ input (codes "en") ∷ port (codes "y") Output (Some (record { left = 1; right = 0 })) ∷ input (codes "lp_v_VDD") ∷ input (codes "lp_v_VDC") ∷ input (codes "lp_v_VSS") ∷ [];
  nets = record { name = codes "n"; range = Some (record { left = 1; right = 0 }) } ∷ wire (codes "lp_n_0") ∷ [];
  instances =
      instance (codes "lp_1_core") (codes "u") (joined (codes "i") (codes "a") ∷ joined_to (codes "o") (NetBit (codes "lp_n_0") ∷ SelectBit (codes "n") 0 ∷ []) ∷ joined (codes "lp_v_VDC") (codes "lp_v_VDC") ∷ joined (codes "lp_v_VSS") (codes "lp_v_VSS") ∷ [])
      ∷ instance (codes "BUF") (codes "b") (joined_to (codes "A") (SelectBit (codes "n") 1 ∷ []) ∷ joined_to (codes "Y") (SelectBit (codes "y") 1 ∷ []) ∷ joined (codes "VDD") (codes "lp_v_VDD") ∷ joined (codes "VSS") (codes "lp_v_VSS") ∷ [])
      ∷ instance (codes "BUF") (codes "c") (joined_to (codes "A") (SelectBit (codes "n") 0 ∷ []) ∷ joined_to (codes "Y") (SelectBit (codes "y") 0 ∷ []) ∷ joined (codes "VDD") (codes "lp_v_VDD") ∷ joined (codes "VSS") (codes "lp_v_VSS") ∷ [])
      ∷ instance (codes "ISO0") (codes "lp_i_0") (joined (codes "D") (codes "lp_n_0") ∷ joined (codes "EN") (codes "en") ∷ joined_to (codes "Y") (SelectBit (codes "n") 1 ∷ []) ∷ joined (codes "VDD") (codes "lp_v_VDD") ∷ joined (codes "VSS") (codes "lp_v_VSS") ∷ [])
      ∷ [];
  assigns = [];
}

abbrev wide_outside_core : ModuleView
wide_outside_core = record {
  name = codes "lp_1_core";
  ports = input (codes "i") ∷ port (codes "o") Output (Some (record { left = 1; right = 0 })) ∷ input (codes "lp_v_VDC") ∷ input (codes "lp_v_VSS") ∷ [];
  nets = [];
  instances =
      instance (codes "INV") (codes "g") (joined (codes "A") (codes "i") ∷ joined_to (codes "Y") (SelectBit (codes "o") 1 ∷ []) ∷ joined (codes "VDD") (codes "lp_v_VDC") ∷ joined (codes "VSS") (codes "lp_v_VSS") ∷ [])
      ∷ instance (codes "INV") (codes "h") (joined (codes "A") (codes "i") ∷ joined_to (codes "Y") (SelectBit (codes "o") 0 ∷ []) ∷ joined (codes "VDD") (codes "lp_v_VDC") ∷ joined (codes "VSS") (codes "lp_v_VSS") ∷ [])
      ∷ [];
  assigns = [];
}

abbrev pub wide_outside_modules : List ModuleView
wide_outside_modules = wide_outside_top ∷ wide_outside_core ∷ []

written_wide_outside : written wide_outside any_cell ≡ wide_outside_modules
unfolding computing
written_wide_outside = closed wide_outside_modules (written wide_outside any_cell) refl refl

-- ---- in the block only that bit gets another name

abbrev wide_inside_top : ModuleView
wide_inside_top = record {
  name = codes "top";
  ports = input (codes "a") ∷ input (codes "en") ∷ port (codes "y") Output (Some (record { left = 1; right = 0 })) ∷ input (codes "lp_v_VDD") ∷ input (codes "lp_v_VDC") ∷ input (codes "lp_v_VSS") ∷ [];
  nets = record { name = codes "n"; range = Some (record { left = 1; right = 0 }) } ∷ [];
  instances =
      instance (codes "lp_1_core") (codes "u") (joined (codes "i") (codes "a") ∷ joined_to (codes "o") (SelectBit (codes "n") 1 ∷ SelectBit (codes "n") 0 ∷ []) ∷ joined (codes "lp_v_VDD") (codes "lp_v_VDD") ∷ joined (codes "lp_v_VDC") (codes "lp_v_VDC") ∷ joined (codes "lp_v_VSS") (codes "lp_v_VSS") ∷ joined (codes "lp_c_0") (codes "en") ∷ [])
      ∷ instance (codes "BUF") (codes "b") (joined_to (codes "A") (SelectBit (codes "n") 1 ∷ []) ∷ joined_to (codes "Y") (SelectBit (codes "y") 1 ∷ []) ∷ joined (codes "VDD") (codes "lp_v_VDD") ∷ joined (codes "VSS") (codes "lp_v_VSS") ∷ [])
      ∷ instance (codes "BUF") (codes "c") (joined_to (codes "A") (SelectBit (codes "n") 0 ∷ []) ∷ joined_to (codes "Y") (SelectBit (codes "y") 0 ∷ []) ∷ joined (codes "VDD") (codes "lp_v_VDD") ∷ joined (codes "VSS") (codes "lp_v_VSS") ∷ [])
      ∷ [];
  assigns = [];
}

abbrev wide_inside_core : ModuleView
wide_inside_core = record {
  name = codes "lp_1_core";
  ports = input (codes "i") ∷ port (codes "o") Output (Some (record { left = 1; right = 0 })) ∷ input (codes "lp_v_VDD") ∷ input (codes "lp_v_VDC") ∷ input (codes "lp_v_VSS") ∷ input (codes "lp_c_0") ∷ [];
  nets = wire (codes "lp_n_0") ∷ [];
  instances =
      instance (codes "INV") (codes "g") (joined (codes "A") (codes "i") ∷ joined (codes "Y") (codes "lp_n_0") ∷ joined (codes "VDD") (codes "lp_v_VDC") ∷ joined (codes "VSS") (codes "lp_v_VSS") ∷ [])
      ∷ instance (codes "INV") (codes "h") (joined (codes "A") (codes "i") ∷ joined_to (codes "Y") (SelectBit (codes "o") 0 ∷ []) ∷ joined (codes "VDD") (codes "lp_v_VDC") ∷ joined (codes "VSS") (codes "lp_v_VSS") ∷ [])
      ∷ instance (codes "ISO0") (codes "lp_i_0") (joined (codes "D") (codes "lp_n_0") ∷ joined (codes "EN") (codes "lp_c_0") ∷ joined_to (codes "Y") (SelectBit (codes "o") 1 ∷ []) ∷ joined (codes "VDD") (codes "lp_v_VDD") ∷ joined (codes "VSS") (codes "lp_v_VSS") ∷ [])
      ∷ [];
  assigns = [];
}

abbrev pub wide_inside_modules : List ModuleView
wide_inside_modules = wide_inside_top ∷ wide_inside_core ∷ []

written_wide_inside : written wide_inside any_cell ≡ wide_inside_modules
unfolding computing
written_wide_inside = closed wide_inside_modules (written wide_inside any_cell) refl refl

-- ---- a clamp and a shifter at an input: who reads the input in the block reads the last net

abbrev higher_core : ModuleView
higher_core = record {
  name = codes "lp_1_core";
  ports = input (codes "i") ∷ output (codes "o") ∷ input (codes "lp_v_VDD") ∷ input (codes "lp_v_VDC") ∷ input (codes "lp_v_VSS") ∷ input (codes "lp_c_0") ∷ [];
  nets = wire (codes "lp_n_0") ∷ wire (codes "lp_n_1") ∷ [];
  instances =
      instance (codes "INV") (codes "g") (joined (codes "A") (codes "lp_n_1") ∷ joined (codes "Y") (codes "o") ∷ joined (codes "VDD") (codes "lp_v_VDC") ∷ joined (codes "VSS") (codes "lp_v_VSS") ∷ [])
      ∷ instance (codes "ISO0") (codes "lp_i_0") (joined (codes "D") (codes "i") ∷ joined (codes "EN") (codes "lp_c_0") ∷ joined (codes "Y") (codes "lp_n_0") ∷ joined (codes "VDD") (codes "lp_v_VDD") ∷ joined (codes "VSS") (codes "lp_v_VSS") ∷ [])
      ∷ instance (codes "LSLH") (codes "lp_l_0") (joined (codes "A") (codes "lp_n_0") ∷ joined (codes "Y") (codes "lp_n_1") ∷ joined (codes "VDDI") (codes "lp_v_VDD") ∷ joined (codes "VDDO") (codes "lp_v_VDC") ∷ joined (codes "VSS") (codes "lp_v_VSS") ∷ [])
      ∷ [];
  assigns = [];
}

abbrev pub higher_modules : List ModuleView
higher_modules = outer ∷ higher_core ∷ []

written_higher : written higher_block any_cell ≡ higher_modules
unfolding computing
written_higher = closed higher_modules (written higher_block any_cell) refl refl

-- ---- a clamp of an instance in the block, and one of the block: the bit that stood in the connection is itself renamed

abbrev two_levels_top : ModuleView
two_levels_top = record {
  name = codes "top";
  ports = input (codes "a") ∷ input (codes "en") ∷ output (codes "y") ∷ input (codes "lp_v_VDD") ∷ input (codes "lp_v_VDC") ∷ input (codes "lp_v_VSS") ∷ [];
  nets = wire (codes "n") ∷ [];
  instances =
      instance (codes "lp_1_around") (codes "u") (joined (codes "i") (codes "a") ∷ joined (codes "o") (codes "n") ∷ joined (codes "lp_v_VDD") (codes "lp_v_VDD") ∷ joined (codes "lp_v_VSS") (codes "lp_v_VSS") ∷ joined (codes "lp_c_0") (codes "en") ∷ [])
      ∷ instance (codes "BUF") (codes "b") (joined (codes "A") (codes "n") ∷ joined (codes "Y") (codes "y") ∷ joined (codes "VDD") (codes "lp_v_VDD") ∷ joined (codes "VSS") (codes "lp_v_VSS") ∷ [])
      ∷ [];
  assigns = [];
}

abbrev two_levels_around : ModuleView
two_levels_around = record {
  name = codes "lp_1_around";
  ports = input (codes "i") ∷ output (codes "o") ∷ input (codes "lp_v_VDD") ∷ input (codes "lp_v_VSS") ∷ input (codes "lp_c_0") ∷ [];
  nets = wire (codes "lp_n_0") ∷ wire (codes "lp_n_1") ∷ [];
  instances =
      instance (codes "lp_2_core") (codes "w") (joined (codes "i") (codes "i") ∷ joined (codes "o") (codes "lp_n_1") ∷ joined (codes "lp_v_VDD") (codes "lp_v_VDD") ∷ joined (codes "lp_v_VSS") (codes "lp_v_VSS") ∷ [])
      ∷ instance (codes "ISO0") (codes "lp_i_0") (joined (codes "D") (codes "lp_n_0") ∷ joined (codes "EN") (codes "lp_c_0") ∷ joined (codes "Y") (codes "o") ∷ joined (codes "VDD") (codes "lp_v_VDD") ∷ joined (codes "VSS") (codes "lp_v_VSS") ∷ [])
      ∷ instance (codes "ISO0") (codes "lp_i_1") (joined (codes "D") (codes "lp_n_1") ∷ joined (codes "EN") (codes "lp_c_0") ∷ joined (codes "Y") (codes "lp_n_0") ∷ joined (codes "VDD") (codes "lp_v_VDD") ∷ joined (codes "VSS") (codes "lp_v_VSS") ∷ [])
      ∷ [];
  assigns = [];
}

abbrev two_levels_core : ModuleView
two_levels_core = record {
  name = codes "lp_2_core";
  ports = input (codes "i") ∷ output (codes "o") ∷ input (codes "lp_v_VDD") ∷ input (codes "lp_v_VSS") ∷ [];
  nets = [];
  instances =
      instance (codes "INV") (codes "g") (joined (codes "A") (codes "i") ∷ joined (codes "Y") (codes "o") ∷ joined (codes "VDD") (codes "lp_v_VDD") ∷ joined (codes "VSS") (codes "lp_v_VSS") ∷ [])
      ∷ [];
  assigns = [];
}

abbrev pub two_levels_modules : List ModuleView
two_levels_modules = two_levels_top ∷ two_levels_around ∷ two_levels_core ∷ []

written_two_levels : written two_levels any_cell ≡ two_levels_modules
unfolding computing
written_two_levels = closed two_levels_modules (written two_levels any_cell) refl refl

-- ---- nets count in port order, an assign drives the net, and a port without readers has no clamp

abbrev fed_top : ModuleView
fed_top = record {
  name = codes "top";
  ports = output (codes "z") ∷ input (codes "a") ∷ input (codes "en") ∷ output (codes "y") ∷ input (codes "lp_v_VDD") ∷ input (codes "lp_v_VDC") ∷ input (codes "lp_v_VSS") ∷ [];
  nets = wire (codes "n") ∷ [];
  instances =
      instance (codes "lp_1_core") (codes "u") (joined (codes "i") (codes "a") ∷ joined (codes "o") (codes "n") ∷ joined (codes "t") (codes "z") ∷ joined (codes "lp_v_VDD") (codes "lp_v_VDD") ∷ joined (codes "lp_v_VDC") (codes "lp_v_VDC") ∷ joined (codes "lp_v_VSS") (codes "lp_v_VSS") ∷ joined (codes "lp_c_0") (codes "en") ∷ [])
      ∷ instance (codes "BUF") (codes "b") (joined (codes "A") (codes "n") ∷ joined (codes "Y") (codes "y") ∷ joined (codes "VDD") (codes "lp_v_VDD") ∷ joined (codes "VSS") (codes "lp_v_VSS") ∷ [])
      ∷ [];
  assigns = [];
}

abbrev fed_core : ModuleView
fed_core = record {
  name = codes "lp_1_core";
  ports = output (codes "open") ∷ output (codes "t") ∷ input (codes "i") ∷ output (codes "o") ∷ input (codes "lp_v_VDD") ∷ input (codes "lp_v_VDC") ∷ input (codes "lp_v_VSS") ∷ input (codes "lp_c_0") ∷ [];
  nets = wire (codes "lp_n_0") ∷ wire (codes "lp_n_1") ∷ [];
  instances =
      instance (codes "INV") (codes "g") (joined (codes "A") (codes "i") ∷ joined (codes "Y") (codes "lp_n_1") ∷ joined (codes "VDD") (codes "lp_v_VDC") ∷ joined (codes "VSS") (codes "lp_v_VSS") ∷ [])
      ∷ instance (codes "ISO0") (codes "lp_i_0") (joined (codes "D") (codes "lp_n_0") ∷ joined (codes "EN") (codes "lp_c_0") ∷ joined (codes "Y") (codes "t") ∷ joined (codes "VDD") (codes "lp_v_VDD") ∷ joined (codes "VSS") (codes "lp_v_VSS") ∷ [])
      ∷ instance (codes "ISO0") (codes "lp_i_1") (joined (codes "D") (codes "lp_n_1") ∷ joined (codes "EN") (codes "lp_c_0") ∷ joined (codes "Y") (codes "o") ∷ joined (codes "VDD") (codes "lp_v_VDD") ∷ joined (codes "VSS") (codes "lp_v_VSS") ∷ [])
      ∷ [];
  assigns = record { left = NetBit (codes "lp_n_0") ∷ []; right = NetBit (codes "i") ∷ [] } ∷ [];
}

abbrev pub fed_modules : List ModuleView
fed_modules = fed_top ∷ fed_core ∷ []

written_fed : written fed any_cell ≡ fed_modules
unfolding computing
written_fed = closed fed_modules (written fed any_cell) refl refl

-- ---- two copies of one module, which differ; an open port stays open

abbrev twins_top : ModuleView
twins_top = record {
  name = codes "top";
  ports = input (codes "a") ∷ input (codes "en") ∷ output (codes "y") ∷ input (codes "lp_v_VDD") ∷ input (codes "lp_v_VDC") ∷ input (codes "lp_v_VSS") ∷ [];
  nets = wire (codes "n") ∷ [];
  instances =
      instance (codes "lp_1_core") (codes "u") (joined (codes "i") (codes "a") ∷ joined (codes "o") (codes "n") ∷ joined (codes "lp_v_VDD") (codes "lp_v_VDD") ∷ joined (codes "lp_v_VDC") (codes "lp_v_VDC") ∷ joined (codes "lp_v_VSS") (codes "lp_v_VSS") ∷ joined (codes "lp_c_0") (codes "en") ∷ [])
      ∷ instance (codes "BUF") (codes "b") (joined (codes "A") (codes "n") ∷ joined (codes "Y") (codes "y") ∷ joined (codes "VDD") (codes "lp_v_VDD") ∷ joined (codes "VSS") (codes "lp_v_VSS") ∷ [])
      ∷ instance (codes "lp_2_core") (codes "v") (joined (codes "i") (codes "en") ∷ joined_to (codes "o") [] ∷ joined (codes "lp_v_VDD") (codes "lp_v_VDD") ∷ joined (codes "lp_v_VSS") (codes "lp_v_VSS") ∷ [])
      ∷ [];
  assigns = [];
}

abbrev twins_core : ModuleView
twins_core = record {
  name = codes "lp_2_core";
  ports = input (codes "i") ∷ output (codes "o") ∷ input (codes "lp_v_VDD") ∷ input (codes "lp_v_VSS") ∷ [];
  nets = [];
  instances =
      instance (codes "INV") (codes "g") (joined (codes "A") (codes "i") ∷ joined (codes "Y") (codes "o") ∷ joined (codes "VDD") (codes "lp_v_VDD") ∷ joined (codes "VSS") (codes "lp_v_VSS") ∷ [])
      ∷ [];
  assigns = [];
}

abbrev pub twins_modules : List ModuleView
twins_modules = twins_top ∷ inner ∷ twins_core ∷ []

written_twins : written twins any_cell ≡ twins_modules
unfolding computing
written_twins = closed twins_modules (written twins any_cell) refl refl

-- ---- a clamp of the top's own output

abbrev top_output_top : ModuleView
top_output_top = record {
  name = codes "top";
  ports = input (codes "a") ∷ input (codes "en") ∷ output (codes "y") ∷ input (codes "lp_v_VDD") ∷ input (codes "lp_v_VDC") ∷ input (codes "lp_v_VSS") ∷ [];
  nets = wire (codes "n") ∷ wire (codes "lp_n_0") ∷ [];
  instances =
      instance (codes "lp_1_core") (codes "u") (joined (codes "i") (codes "a") ∷ joined (codes "o") (codes "n") ∷ joined (codes "lp_v_VDC") (codes "lp_v_VDC") ∷ joined (codes "lp_v_VSS") (codes "lp_v_VSS") ∷ [])
      ∷ instance (codes "BUF") (codes "b") (joined (codes "A") (codes "n") ∷ joined (codes "Y") (codes "lp_n_0") ∷ joined (codes "VDD") (codes "lp_v_VDD") ∷ joined (codes "VSS") (codes "lp_v_VSS") ∷ [])
      ∷ instance (codes "ISO0") (codes "lp_i_0") (joined (codes "D") (codes "lp_n_0") ∷ joined (codes "EN") (codes "en") ∷ joined (codes "Y") (codes "y") ∷ joined (codes "VDD") (codes "lp_v_VDD") ∷ joined (codes "VSS") (codes "lp_v_VSS") ∷ [])
      ∷ [];
  assigns = [];
}

abbrev top_output_core : ModuleView
top_output_core = record {
  name = codes "lp_1_core";
  ports = input (codes "i") ∷ output (codes "o") ∷ input (codes "lp_v_VDC") ∷ input (codes "lp_v_VSS") ∷ [];
  nets = [];
  instances =
      instance (codes "INV") (codes "g") (joined (codes "A") (codes "i") ∷ joined (codes "Y") (codes "o") ∷ joined (codes "VDD") (codes "lp_v_VDC") ∷ joined (codes "VSS") (codes "lp_v_VSS") ∷ [])
      ∷ [];
  assigns = [];
}

abbrev pub top_output_modules : List ModuleView
top_output_modules = top_output_top ∷ top_output_core ∷ []

written_top_output : written top_output any_cell ≡ top_output_modules
unfolding computing
written_top_output = closed top_output_modules (written top_output any_cell) refl refl
