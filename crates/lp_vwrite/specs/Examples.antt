-- A small netlist, which shows that the rules of well-formedness can be met.
use Rattle.std.specs.Prelude.{true, List, [], ◌∷◌, codes, Some, None}
use Rattle.lp_model.specs.declared.netlist.Direction.TheVariants.{Input, Output}
use Rattle.lp_model.specs.NetlistView.{NetBit, SelectBit, ConstBit, ByName, ModuleView}

-- module t (a, \y+ );
--   input [1:0] a;
--   output \y+ ;
--   wire n;
--   C u (.A(a), .B({1'b1, a[0]}), .N(), .Y(n));
--   assign \y+  = n;
-- endmodule
abbrev pub example : List ModuleView
example = record {
  name = codes "t";
  ports = record { name = codes "a"; direction = Input; range = Some (record { left = 1; right = 0 }) } ∷ record { name = codes "y+"; direction = Output; range = None } ∷ [];
  nets = record { name = codes "n"; range = None } ∷ [];
  instances = record {
    name = codes "u";
    target = codes "C";
    connections = ByName (
        record { port = codes "A"; bits = SelectBit (codes "a") 1 ∷ SelectBit (codes "a") 0 ∷ [] }
        ∷ record { port = codes "B"; bits = ConstBit true ∷ SelectBit (codes "a") 0 ∷ [] }
        ∷ record { port = codes "N"; bits = [] }
        ∷ record { port = codes "Y"; bits = NetBit (codes "n") ∷ [] } ∷ []
        );
  } ∷ [];
  assigns = record { left = NetBit (codes "y+") ∷ []; right = NetBit (codes "n") ∷ [] } ∷ [];
} ∷ []
