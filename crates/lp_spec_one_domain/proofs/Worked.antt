-- A netlist of one domain: a vector goes through an assign, with its bits in the other order, into a block with a register.
use Rattle.std.specs.Prelude.{[], ◌∷◌, Some, None, codes}
use Rattle.lp_model.specs.declared.netlist.Direction.TheVariants.{Input, Output}
use Rattle.lp_model.specs.NetlistView.{NetBit, SelectBit, ByName, ModuleView}
use Rattle.lp_spec_design.proofs.Samples.{port, to}
use Rattle.lp_spec_fit.proofs.Samples.{buffer, register}
use Rattle.lp_spec_realises.specs.Implements.{Lists}
use Rattle.lp_spec_one_domain.specs.OneDomain.{OneDomain}

-- module block (i, ck, o): a register takes the bit i[1]
abbrev pub block : ModuleView
block = record {
  name = codes "block";
  ports = port (codes "i") Input (Some (record { left = 1; right = 0 })) ∷ port (codes "ck") Input None ∷ port (codes "o") Output None ∷ [];
  nets = [];
  instances = record { name = codes "r"; target = codes "DFF"; connections = ByName (to (codes "D") (SelectBit (codes "i") 1) ∷ to (codes "CK") (NetBit (codes "ck")) ∷ to (codes "Q") (NetBit (codes "o")) ∷ []) } ∷ [];
  assigns = [];
}

-- module top (a, ck, y): the net n has the bits of a, in the order 0 to 1
abbrev pub top : ModuleView
top = record {
  name = codes "top";
  ports = port (codes "a") Input (Some (record { left = 1; right = 0 })) ∷ port (codes "ck") Input None ∷ port (codes "y") Output (Some (record { left = 1; right = 0 })) ∷ [];
  nets = record { name = codes "n"; range = Some (record { left = 0; right = 1 }) } ∷ [];
  instances =
      record {
        name = codes "u";
        target = codes "block";
        connections = ByName (record { port = codes "i"; bits = SelectBit (codes "n") 0 ∷ SelectBit (codes "n") 1 ∷ [] } ∷ to (codes "ck") (NetBit (codes "ck")) ∷ to (codes "o") (SelectBit (codes "y") 1) ∷ []);
      }
      ∷ record { name = codes "b"; target = codes "BUF"; connections = ByName (to (codes "A") (SelectBit (codes "n") 0) ∷ to (codes "Y") (SelectBit (codes "y") 0) ∷ []) }
      ∷ [];
  assigns = record { left = SelectBit (codes "n") 0 ∷ SelectBit (codes "n") 1 ∷ []; right = SelectBit (codes "a") 1 ∷ SelectBit (codes "a") 0 ∷ [] } ∷ [];
}

-- VDD at 0.9, and the ground VSS
abbrev pub worked : OneDomain
worked = record {
  structure = record { modules = top ∷ block ∷ []; cells = buffer ∷ register ∷ [] };
  power = record { name = codes "VDD"; numbered = record { scope = record { 0 = 0 }; name = record { 0 = 0 } } };
  gnd = record { name = codes "VSS"; numbered = record { scope = record { 0 = 0 }; name = record { 0 = 1 } } };
  voltage = 900000;
  margin = 0;
}

abbrev pub no_lists : Lists
no_lists = record { of_strategy = λ k. None; of_switch = λ o. None; scope_of_switch = λ o. [] }
