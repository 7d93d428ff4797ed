-- Modules of equal content, shared.
use Rattle.std.proofs.Common.{◌≡◌, List, [], ◌∷◌, length, Some, None, refl, ap}
use Rattle.std.specs.Prelude.{codes}
use Rattle.lp_model.specs.NetlistView.{InstanceView, ModuleView}
use Rattle.lp_spec_design.specs.Keys.{Name}
use Rattle.lp_spec_design.specs.Nodes.{computing}
use Rattle.lp_spec_design.proofs.Samples.{with_strategies}
use Rattle.lp_spec_realises.specs.Projects.{Project}
use Rattle.lp_spec_pins.proofs.Clamped.{joined}
use Rattle.lp_spec_written.specs.Supplies.{wire, joined_to}
use Rattle.lp_spec_written.specs.Shared.{shared}
use Rattle.lp_spec_written.specs.Written.{written}
use Rattle.lp_spec_written.specs.Limits.{added_names, names_added}
use Rattle.lp_spec_written.proofs.Samples.{any_cell, twins}
use Rattle.lp_spec_written.proofs.Computed.{clamped_modules, twins_modules}
use Rattle.lp_spec_written.proofs.Digits.{closed}
use Rattle.lp_spec_written.proofs.Shapes.{input, output, instance}

-- a module from i to o with these instances
abbrev between : Name → List InstanceView → ModuleView
between n instances = record { name = n; ports = input (codes "i") ∷ output (codes "o") ∷ []; nets = wire (codes "n") ∷ []; instances = instances; assigns = [] }

abbrev led : Name → Name → Name → Name → InstanceView
led target n from to = instance target n (joined (codes "i") from ∷ joined (codes "o") to ∷ [])

abbrev gate : Name → Name → ModuleView
gate n cell = between n (led cell (codes "g") (codes "i") (codes "o") ∷ [])

-- two instances of a module that has one of another, which has a gate of this cell in the second
abbrev pairs_of : Name → List ModuleView
pairs_of second =
    between (codes "top") (led (codes "lp_1_m") (codes "a") (codes "i") (codes "n") ∷ led (codes "lp_3_m") (codes "b") (codes "n") (codes "o") ∷ [])
    ∷ between (codes "lp_1_m") (led (codes "lp_2_k") (codes "c") (codes "i") (codes "o") ∷ [])
    ∷ gate (codes "lp_2_k") (codes "INV")
    ∷ between (codes "lp_3_m") (led (codes "lp_4_k") (codes "c") (codes "i") (codes "o") ∷ [])
    ∷ gate (codes "lp_4_k") second
    ∷ []

equal_below :
    shared (pairs_of (codes "INV"))
    ≡ between (codes "top") (led (codes "lp_1_m") (codes "a") (codes "i") (codes "n") ∷ led (codes "lp_1_m") (codes "b") (codes "n") (codes "o") ∷ [])
    ∷ between (codes "lp_1_m") (led (codes "lp_2_k") (codes "c") (codes "i") (codes "o") ∷ [])
    ∷ gate (codes "lp_2_k") (codes "INV")
    ∷ []
equal_below = refl

-- another cell below makes both levels differ
other_below : shared (pairs_of (codes "BUF")) ≡ pairs_of (codes "BUF")
unfolding computing
other_below = refl

-- a block with a clamp, and one without
nothing_shared : shared clamped_modules ∷ shared twins_modules ∷ [] ≡ clamped_modules ∷ twins_modules ∷ []
unfolding computing
nothing_shared = refl

-- ---- two copies of a module in one domain: the names are those of the shared modules

abbrev alike : Project
alike = record twins { intent = record (with_strategies []) { domains = record { elements = [] ∷ []; primary = Some 0; isolation = None; retention = None } ∷ [] } }

abbrev copy : Name → ModuleView
copy n = record {
  name = n;
  ports = input (codes "i") ∷ output (codes "o") ∷ input (codes "lp_v_VDD") ∷ input (codes "lp_v_VSS") ∷ [];
  nets = [];
  instances =
      instance (codes "INV") (codes "g") (joined (codes "A") (codes "i") ∷ joined (codes "Y") (codes "o") ∷ joined (codes "VDD") (codes "lp_v_VDD") ∷ joined (codes "VSS") (codes "lp_v_VSS") ∷ [])
      ∷ [];
  assigns = [];
}

abbrev alike_top : ModuleView
alike_top = record {
  name = codes "top";
  ports = input (codes "a") ∷ input (codes "en") ∷ output (codes "y") ∷ input (codes "lp_v_VDD") ∷ input (codes "lp_v_VDC") ∷ input (codes "lp_v_VSS") ∷ [];
  nets = wire (codes "n") ∷ [];
  instances =
      instance (codes "lp_1_core") (codes "u") (joined (codes "i") (codes "a") ∷ joined (codes "o") (codes "n") ∷ joined (codes "lp_v_VDD") (codes "lp_v_VDD") ∷ joined (codes "lp_v_VSS") (codes "lp_v_VSS") ∷ [])
      ∷ instance (codes "BUF") (codes "b") (joined (codes "A") (codes "n") ∷ joined (codes "Y") (codes "y") ∷ joined (codes "VDD") (codes "lp_v_VDD") ∷ joined (codes "VSS") (codes "lp_v_VSS") ∷ [])
      ∷ instance (codes "lp_2_core") (codes "v") (joined (codes "i") (codes "en") ∷ joined_to (codes "o") [] ∷ joined (codes "lp_v_VDD") (codes "lp_v_VDD") ∷ joined (codes "lp_v_VSS") (codes "lp_v_VSS") ∷ [])
      ∷ [];
  assigns = [];
}

abbrev alike_modules : List ModuleView
alike_modules = alike_top ∷ copy (codes "lp_1_core") ∷ copy (codes "lp_2_core") ∷ []

written_alike : written alike any_cell ≡ alike_modules
unfolding computing
written_alike = closed alike_modules (written alike any_cell) refl refl

-- three supply ports and the first copy; the second one is not written
names_of_one_copy : length (names_added alike any_cell) ≡ 4
names_of_one_copy = ap (λ modules. length (added_names (shared modules))) written_alike

names_of_both : length (added_names alike_modules) ≡ 5
names_of_both = refl
